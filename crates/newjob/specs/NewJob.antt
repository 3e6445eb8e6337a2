-- A job's destinations parted by a table of the dead.
use Rattle.std.specs.Prelude.{ℕ, Bool, ◌≡◌, List, length}
use Rattle.laws.specs.Sequence.{padded}
use Rattle.rules.specs.Calls.{written}
use Rattle.admission.specs.Admission.{kept_by, put_off_by}
use Rattle.newjob.specs.declared.Parts.{Parts}

-- a job's destinations parted: those that wait, and the positions of those put off, which stand in the list
pub record Parted (dead : List Bool) (dests before after : List ℕ) (r : Parts) : Type 0 where
  pub kept : r.kept ≡ padded 256 (kept_by dead dests)
  pub n : r.n ≡ length (kept_by dead dests)
  pub putoff : r.putoff ≡ length (put_off_by dead dests)
  pub list : after ≡ written (put_off_by dead dests) before
