-- A list of job numbers, as the array that a pass built and the count of what it wrote.
use Rattle.std.proofs.Common.{ℕ, ◌≡◌, ◌≤◌, List, ◌++◌, length, drop, refl, arith}
use lib.ListN.{replicate, length-take}
use Rattle.std.proofs.lemmas.List.{drop-replicate}
use Rattle.laws.specs.Sequence.{padded, times_in}
use Rattle.rules.specs.declared.JobList.{JobList}
use Rattle.rules.specs.State.{listed, list_of}

pub listed_is : (l a : List ℕ) (k : ℕ) → a ≡ padded 32 l → k ≡ length l → ◌≡◌ {A = JobList} (record { jobs = a; count = k }) (listed l)
listed_is l a k e h = rw (e, h)

-- what a list's numbers are read from has no more of them than the list
pub few_numbers : (q : JobList) (l : List ℕ) → l ≡ list_of q → q.count ≤ 32 → length l ≤ 32
few_numbers q l e h = rw e (omega (arith, length-take q.count q.jobs))

-- the places behind a list's numbers are zeros
pub padded_of : (n : ℕ) (l : List ℕ) → l ++ drop (length l) (replicate n 0) ≡ padded n l
unfolding padded
padded_of n l = rw (drop-replicate {X = ℕ} (length l) n 0) refl

pub once_numbers : (q : JobList) (l : List ℕ) (x y : ℕ) → l ≡ list_of q → (times_in x (list_of q) ≡ 1) × (times_in y (list_of q) ≡ 1) → (times_in x l ≡ 1) × (times_in y l ≡ 1)
once_numbers q l x y e h = rw e h
