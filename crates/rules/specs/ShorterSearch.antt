-- A3: "Shorter search for the small notice". Why the search may "stop once no later arrival can beat the best so far", and that its best is the same.
use Rattle.std.specs.Prelude.{ℕ, suc, ◌≤◌, ◌<◌, ◌≡◌, true, false, length}
use Rattle.rules.specs.declared.State.{State}
use Rattle.rules.specs.State.{list_of, arrived_at, waiting_of}
use Rattle.rules.specs.SoundFacts.{Sound}
use Rattle.rules.specs.Preemption.{is_candidate, age_of, beats, best_before, best_candidate, not_above, search_end}

-- of the search at a second, for the current job y of transport t
pub record SameBest (s : State) (now t y : ℕ) : Type 0 where
  -- waits never rise along ranks,
  pub waits : (i j : ℕ) → i ≤ j → j < length (list_of s.arrivals) → age_of s now (arrived_at s j) ≤ age_of s now (arrived_at s i)
  -- and a candidate has at least one entry waiting, so that its score is not above its wait plus 1
  pub entries : (x : ℕ) → is_candidate s t y x ≡ true → 1 ≤ waiting_of s x
  -- so once a wait plus 1 is not above the score of b, no candidate from that rank on beats b
  pub unbeaten : (b i j : ℕ) → not_above s now (suc b) (arrived_at s i) ≡ true → i ≤ j → j < length (list_of s.arrivals) → is_candidate s t y (arrived_at s j) ≡ true
      → beats s now (arrived_at s j) b ≡ false
  -- so the best before the end of the search is the best of all
  pub same : best_before s now t y (search_end s now t y) ≡ best_candidate s now t y

-- of every sound state, at any second
abbrev pub ShorterSearch : Type 0
ShorterSearch = (s : State) (now t y : ℕ) → Sound s → SameBest s now t y
