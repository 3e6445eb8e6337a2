-- A record as the writer handles it: bytes put at a place of the buffer.
use Rattle.std.specs.Prelude.{ℕ, ◌+◌, ◌≡◌, Bool, true, false, List, length, Result, Ok, Err}
use Rattle.rules.specs.declared.Refusal.{Refusal}
use Rattle.std.proofs.lemmas.List.Edits.{sets}

-- what a test answers: nothing where it holds, else a refusal
abbrev pub unless : Bool → Refusal → Result (Unit {0}) Refusal
unless true k = Ok tt
unless false k = Err k

-- the bytes are stored from a place on; r is the place behind them
pub record Stored (bytes entry : List ℕ) (at : ℕ) (exit : List ℕ) (r : ℕ) : Type 0 where
  pub stored : exit ≡ sets entry at bytes
  pub next : r ≡ at + length bytes
