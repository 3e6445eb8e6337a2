-- A report's refusal, test by test, over the columns that the code reads; and that of a state.
use Prim.Native.Nat.{ℕ, ◌≤◌, ◌<◌}
use mathlib.Core.Path.{◌≡◌, refl, sym, ◌∙◌}
use mathlib.Core.Bool.{true, false, ◌&&◌}
use mathlib.Core.List.{List}
use lib.ListN.{length}
use lib.Dec.{eqb, ltb}
use borrow.Author.Tests.{lt-ltb, le-ltb, eq-eqb, ne_eqb}
use Rattle.laws.specs.Bools.{when◌then◌else◌}
use Rattle.laws.proofs.Bools.{and_both, and_left_false, and_right_false}
use Rattle.rules.specs.declared.State.{State}
use Rattle.rules.specs.Sizes.{max_entries}
use Rattle.rules.specs.State.{at}
use Rattle.rules.specs.Sound.{sound}
use Rattle.rules.specs.Refusals.{bad_clock, is_busy_with, report_refusal}
use Rattle.settling.specs.Settling.{entry_refusal}

module _ (kind tickets : List ℕ) (e ticket places : ℕ) where
  -- 9: the entry is none, is not busy, or has another ticket
  refuse_entry : ltb e max_entries && eqb (at kind e) 2 && eqb (at tickets e) ticket ≡ false → 9 ≡ entry_refusal kind tickets e ticket places
  unfolding entry_refusal when◌then◌else◌
  refuse_entry n = rw n refl

  pub refuse_none : max_entries ≤ e → 9 ≡ entry_refusal kind tickets e ticket places
  refuse_none h = refuse_entry (and_left_false (eqb (at tickets e) ticket) (and_left_false (eqb (at kind e) 2) (le-ltb e max_entries h)))

  pub refuse_idle : (at kind e ≡ 2 → ⊥) → 9 ≡ entry_refusal kind tickets e ticket places
  refuse_idle h = refuse_entry (and_left_false (eqb (at tickets e) ticket) (and_right_false (ltb e max_entries) (ne_eqb (at kind e) 2 h)))

  pub refuse_stale : {x : ℕ} → x ≡ at tickets e → (x ≡ ticket → ⊥) → 9 ≡ entry_refusal kind tickets e ticket places
  refuse_stale is h = refuse_entry (and_right_false (ltb e max_entries && eqb (at kind e) 2) (ne_eqb (at tickets e) ticket (λ q. h (is ∙ q))))

  module _ (lt : e < max_entries) (busy : at kind e ≡ 2) {x : ℕ} (is : x ≡ at tickets e) (issued : x ≡ ticket) where
    held : ltb e max_entries && eqb (at kind e) 2 && eqb (at tickets e) ticket ≡ true
    held = and_both (and_both (lt-ltb e max_entries lt) (eq-eqb (at kind e) 2 busy)) (eq-eqb (at tickets e) ticket (sym is ∙ issued))

    pub refuse_list : places < max_entries → 10 ≡ entry_refusal kind tickets e ticket places
    unfolding entry_refusal when◌then◌else◌
    refuse_list h = rw (held, lt-ltb places max_entries h) refl

    pub refuse_not : max_entries ≤ places → 0 ≡ entry_refusal kind tickets e ticket places
    unfolding entry_refusal when◌then◌else◌
    refuse_not h = rw (held, le-ltb places max_entries h) refl

pub entry_refusal_is : (s : State) (now e ticket : ℕ) (list : List ℕ) → sound s ≡ true → bad_clock s now ≡ false
    → entry_refusal s.entries.kind s.entries.ticket e ticket (length list) ≡ report_refusal s now e ticket list
unfolding entry_refusal report_refusal is_busy_with when◌then◌else◌
entry_refusal_is s now e ticket list whole good = rw (whole, good) refl
