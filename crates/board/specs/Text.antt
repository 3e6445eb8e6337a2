-- The two cases of a destination's text.
use Rattle.std.specs.Prelude.{ℕ, List, ◌++◌}
use Rattle.rules.specs.Board.{live_word, dead_word, numbered}

abbrev pub live_text : ℕ → ℕ → List ℕ
live_text window busy = live_word ++ numbered window ++ numbered busy

abbrev pub dead_text : ℕ → List ℕ
dead_text end = dead_word ++ numbered end
