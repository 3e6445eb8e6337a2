-- What a line of the input makes of the state.
use Rattle.std.specs.Prelude.{ℕ, List, replicate}
use Rattle.rules.specs.declared.State.{State}
use Rattle.lines.specs.declared.input.Part.{Part}
use Rattle.calling.specs.Meaning.{meaning_of, state_on}

-- A call may be lent 512 places of a list and 4,096 bytes of text, all 0. The end of a line that was too long changes nothing.
unfoldable pub after_line : Part → List ℕ → State → State
after_line Part.Whole line s = state_on s (meaning_of line (replicate 512 0) (replicate 4096 0))
after_line Part.TooLong line s = s
after_line Part.TooLongComment line s = s
