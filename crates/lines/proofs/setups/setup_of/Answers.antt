-- Each part is the definition's. Assumes nothing.
use Rattle.lines.proofs.SetupLaws.{setup_made}
use Rattle.lines.proofs.setups.setup_of.Goals as goal

pub returns : goal.returns
returns c =
    setup_made _ _ _ c.word-t.ensures c.settings.ensures c.settings-2.ensures c.settings-3.ensures c.settings-4.ensures c.homes.ensures c.word.ensures
