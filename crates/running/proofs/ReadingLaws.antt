-- Calls read one after another, and what is written behind what is there.
use Prim.Native.Nat.{ℕ, zero, suc, ◌+◌, ◌-◌, ◌≤◌}
use mathlib.Core.Path.{◌≡◌, refl, sym, ◌∙◌, ap, subst}
use mathlib.Core.List.{List, [], ◌∷◌, ◌++◌}
use native.Mathlib.Nat.{le_refl}
use native.Mathlib.Omega.{arith}
use lib.ListN.{length, take, drop, length-drop}
use lib.Seq.{take_all, length-take-le}
use borrow.Rule.Slice.PartMut.{put_mid}
use Rattle.rules.specs.declared.State.{State}
use Rattle.rules.specs.Calls.{Reply, Call, reply_to}
use Rattle.rules.specs.History.{state_from, gathered}
use Rattle.rules.proofs.HistoryLaws.{gathered_more}
use Rattle.laws.specs.Wrote.{Wrote}
use Rattle.laws.proofs.Writing.{wrote_length, back_is, beside}
use Rattle.layout.specs.Layout.{size_of, list_places, text_places, call_of, row_length, end_before, Reading, then_read, reading}
use Rattle.layout.proofs.LayoutLaws.{end_none}

-- One call more at the end.

pub wrote_more :
    (f : Call → Reply → List ℕ) (s : State) (done : List Call) (call : Call) (b : List ℕ)
    → b ≡ f call (reply_to (state_from s done) call)
    → {e x : List ℕ} {r : ℕ}
    → Wrote (gathered f s done) e x r
    → (k q : ℕ)
    → k ≡ q
    → q ≡ length b
    → Wrote (gathered f s (done ++ (call ∷ []))) e (put_mid r k x b) (r + q)
wrote_more f s done call b h w k q m n =
    rw (gathered_more f s done call, ← h, n) (beside w b k (m ∙ n))

-- The call at the front is read, or the reading ends.

module _ (words : List ℕ) (answers : ℕ) (lists texts : List ℕ) where
  pub reading_ends :
      (k e : ℕ)
      → length words ≤ k
      → e ≡ end_before words answers (length lists) (length texts)
      → (e ≡ 0 → ⊥)
      → reading k words answers lists texts
      ≡ record { calls = []; end = e }
  unfolding reading then_read
  reading_ends zero e n h z =
      ap (λ e. record { calls = []; end = e }) (end_none words answers (length lists) (length texts) (omega arith) ∙ sym h)
  reading_ends (suc k) zero n h z = absurd (z refl)
  reading_ends (suc k) (suc e) n h z = rw (← h) refl

  -- the call, and the reading of what is behind it
  abbrev pub front : Call
  front = call_of words (take (list_places words) lists) (take (text_places words) texts)

  abbrev pub behind : ℕ → Reading
  behind k = reading k (drop (size_of words) words) (answers - row_length) (drop (list_places words) lists) (drop (text_places words) texts)

  pub reading_goes :
      (k : ℕ)
      → length words ≤ k
      → (length words ≡ 0 → ⊥)
      → 0 ≡ end_before words answers (length lists) (length texts)
      → (j : ℕ) × (k ≡ suc j) × (reading k words answers lists texts ≡ record { calls = front ∷ (behind j).calls; end = (behind j).end })
  unfolding reading then_read
  reading_goes zero n s h = absurd (s (omega arith))
  reading_goes (suc k) n s h = (k, refl, rw (← h) refl)

-- the same reading under other names
pub same_reading :
    (k : ℕ) {w v : List ℕ} {a b : ℕ} {l m t u : List ℕ}
    → w ≡ v
    → a ≡ b
    → l ≡ m
    → t ≡ u
    → reading k w a l t
    ≡ reading k v b m u
same_reading k e f g h = rw (e, f, g, h) refl

-- a buffer stays as long as it was
pub same_length : {text e x : List ℕ} {r : ℕ} → Wrote text e x r → r ≤ length e → length x ≡ length e
same_length {text} {e} w l = wrote_length w (subst (λ n. n ≤ length e) w.count l)

-- what is not yet written is as it came
pub untouched : {text e x : List ℕ} {r : ℕ} → Wrote text e x r → drop r x ≡ drop r e
untouched {e} w = back_is w ∙ ap (λ n. drop n e) (sym w.count)

pub part_length : (i k : ℕ) (l : List ℕ) → i + k ≤ length l → length (take k (drop i l)) ≡ k
part_length i k l h = length-take-le k (drop i l) (rw length-drop (omega arith))

-- the rest of a list, lent as the part from a place on
pub rest_whole : (i : ℕ) (l : List ℕ) → take (length l - i) (drop i l) ≡ drop i l
rest_whole i l = take_all (length l - i) (drop i l) (rw length-drop (le_refl _))
