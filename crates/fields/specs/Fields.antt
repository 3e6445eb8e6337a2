-- How the code tells of a field: a number that is well written and in its range, or the number of its fault.
use Rattle.std.specs.Prelude.{Result, Ok, Err}
use Rattle.rules.specs.declared.Refusal.{Refusal}
use Rattle.rules.specs.Answers.{refusal_number}
use Rattle.journal.specs.Numbers.{Number, number, fault}
use Rattle.fields.specs.declared.Field.{Field}

abbrev pub told : Result Field Refusal → Number
told (Ok f) = number f.value f.next
told (Err k) = fault (refusal_number k)
