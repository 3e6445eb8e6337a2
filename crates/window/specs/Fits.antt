-- What soundness says of one destination, over its settings and its health alone.
use Rattle.std.specs.Prelude.{Bool, true}
use Rattle.rules.specs.declared.Settings.{Settings}
use Rattle.rules.specs.declared.Health.{Health}
use Rattle.rules.specs.declared.Health.TheVariants.{Live, Dead}
use Rattle.rules.specs.Sound.{sums_fit}

unfoldable pub health_fits : Settings → Health → Bool
health_fits g (Live u) = sums_fit g u
health_fits g (Dead end) = true
