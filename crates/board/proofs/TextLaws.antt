-- Laws of the board text: it is the rule's, and it grows line by line.
use Prim.Native.Nat.{ℕ, zero, suc, ◌+◌, ◌-◌, ◌*◌, ◌≤◌, ◌<◌}
use mathlib.Core.Path.{◌≡◌, refl, sym, ap, ◌∙◌}
use mathlib.Core.List.{List, ◌++◌, append_assoc, append-nil}
use native.Mathlib.Nat.{le_refl}
use native.Mathlib.Decide.{dec_lt}
use native.Mathlib.Numerals.{add-one}
use native.Mathlib.Omega.{arith}
use lib.ListN.{length, get_or, length-append}
use Rattle.rules.specs.declared.Sums.{Sums}
use Rattle.rules.specs.declared.Health.{Health}
use Rattle.rules.specs.declared.Health.TheVariants.{Live, Dead}
use Rattle.rules.specs.declared.Destination.{Destination}
use Rattle.rules.specs.State.{at, zero_destination}
use Rattle.rules.specs.Board.{decimal, health_text, clock_line, destination_line, lines_of, text_of}
use Rattle.writing.proofs.Decimals.{decimal_length}
use Rattle.board.specs.Text.{live_text, dead_text}
use Rattle.laws.specs.Wrote.{Wrote}
use Rattle.laws.proofs.Writing.{wrote_as, wrote_again, wrote_since, wrote_length, behind, start_fits, rest_fits}
use borrow.Rule.Slice.PartMut.{mid_of, put_mid}

-- Lengths, as the code adds them up, and their bounds.

pub clock_length : (clock w : ℕ) → w ≡ length (decimal clock) → 3 + w + 1 ≡ length (clock_line clock)
unfolding clock_line
clock_length clock w e = simp length-append (omega arith)

pub live_length : (h : Health) (u : Sums) (busy w q : ℕ) → h ≡ Live u → w ≡ length (decimal u.window) → q ≡ length (decimal busy) → 5 + w + 1 + q ≡ length (health_text h busy)
unfolding health_text
live_length h u busy w q e f g = rw e (simp length-append (omega arith))

pub dead_length : (h : Health) (end busy w : ℕ) → h ≡ Dead end → w ≡ length (decimal end) → 5 + w ≡ length (health_text h busy)
unfolding health_text
dead_length h end busy w e f = rw e (simp length-append (omega arith))

pub line_length : (d : ℕ) (h : Health) (busy w q : ℕ) → w ≡ length (decimal d) → q ≡ length (health_text h busy) → 2 + w + 1 + q + 1 ≡ length (destination_line d h busy)
unfolding destination_line
line_length d h busy w q e f = simp length-append (omega arith)

pub health_high : (h : Health) (busy : ℕ) → length (health_text h busy) ≤ 46
unfolding health_text
health_high (Live u) busy = simp length-append (omega (arith, decimal_length u.window, decimal_length busy))
health_high (Dead end) busy = simp length-append (omega (arith, decimal_length end))

pub line_high : (d : ℕ) (h : Health) (busy : ℕ) → length (destination_line d h busy) ≤ 70
unfolding destination_line
line_high d h busy = simp length-append (omega (arith, decimal_length d, health_high h busy))

-- the line of a destination, read from the columns
abbrev pub line_at : List Destination → List ℕ → ℕ → List ℕ
line_at ds busy d = destination_line d (get_or ds d zero_destination).health (at busy d)

module _ (clock : ℕ) (ds : List Destination) (busy : List ℕ) where
  pub text_none : text_of clock 0 ds busy ≡ clock_line clock
  unfolding text_of lines_of
  text_none = append-nil (clock_line clock)

  pub text_more : (d : ℕ) → text_of clock (d + 1) ds busy ≡ text_of clock d ds busy ++ line_at ds busy d
  unfolding text_of lines_of
  text_more d = rw (add-one, append_assoc)

  pub text_length_more : (d : ℕ) → length (text_of clock (d + 1) ds busy) ≡ length (text_of clock d ds busy) + length (line_at ds busy d)
  text_length_more d = ap length (text_more d) ∙ length-append (text_of clock d ds busy) (line_at ds busy d)

  pub text_high : (d : ℕ) → length (text_of clock d ds busy) ≤ 24 + 70 * d
  text_high zero = rw text_none (omega (arith, clock_length clock _ refl, decimal_length clock))
  text_high (suc d) = rw (← add-one d) (omega (arith, text_high d, text_length_more d, line_high d (get_or ds d zero_destination).health (at busy d)))

  -- fewer destinations, no longer a text
  pub text_front : (d n : ℕ) → d ≤ n → length (text_of clock d ds busy) ≤ length (text_of clock n ds busy)
  text_front d zero l = let e : d ≡ 0 = omega arith in rw e (le_refl _)
  text_front d (suc n) l = elim (dec_lt d (suc n)) [
    | yes p ↦ rw (← add-one n) (omega (arith, text_front d n (omega arith), text_length_more n))
    | no p ↦ (let e : d ≡ suc n = omega arith in rw e (le_refl _))
  ]

-- Counting it: the total is the length of the text with the first d destinations.
pub record Counted (clock n : ℕ) (ds : List Destination) (busy : List ℕ) (total d : ℕ) : Type 0 where
  pub sum : total ≡ length (text_of clock d ds busy)
  pub below : d ≤ n
  pub few : n ≤ 32

pub count_first : {clock n : ℕ} {ds : List Destination} {busy : List ℕ} {w : ℕ} → n ≤ 32 → w ≡ length (decimal clock) → Counted clock n ds busy (3 + w + 1) 0
count_first {clock} {ds} {busy} {w} l e = record { sum = clock_length clock w e ∙ ap length (sym (text_none clock ds busy)); below = omega arith; few = l }

module _ {clock n : ℕ} {ds : List Destination} {busy : List ℕ} {total d : ℕ} (c : Counted clock n ds busy total d) where
  pub count_high : total ≤ 24 + 70 * n
  count_high = omega (arith, c.sum, text_high clock ds busy d, c.below)

  pub count_line : {w : ℕ} → d < n → w ≡ length (line_at ds busy d) → Counted clock n ds busy (total + w) (d + 1)
  count_line l e = record { sum = omega (arith, c.sum, text_length_more clock ds busy d); below = omega arith; few = c.few }

  pub count_done : n ≤ d → total ≡ length (text_of clock n ds busy)
  count_done l = let h : d ≡ n = omega (arith, c.below) in c.sum ∙ ap (λ k. length (text_of clock k ds busy)) h

-- Writing it: the clock's line and those of the first d destinations stand at the front of a buffer that has room for all.
pub record Going (clock n : ℕ) (ds : List Destination) (busy e x : List ℕ) (r d : ℕ) : Type 0 where
  pub wrote : Wrote (text_of clock d ds busy) e x r
  pub below : d ≤ n
  pub few : n ≤ 32
  pub fits : length (text_of clock n ds busy) ≤ length e

module _ (clock n : ℕ) (ds : List Destination) (busy e : List ℕ) (fits : length (text_of clock n ds busy) ≤ length e) where
  pub first_fits : length (clock_line clock) ≤ length e
  first_fits = rw (← text_none clock ds busy) (omega (arith, text_front clock ds busy 0 n (omega arith)))

  pub first_done : {x : List ℕ} {r : ℕ} → n ≤ 32 → Wrote (clock_line clock) e x r → Going clock n ds busy x x r 0
  first_done l w =
      let h = wrote_length w first_fits in
      record { wrote = wrote_as (sym (text_none clock ds busy)) (wrote_again w); below = omega arith; few = l; fits = omega arith }

module _ {clock n : ℕ} {ds : List Destination} {busy e x : List ℕ} {r d : ℕ} (g : Going clock n ds busy e x r d) where
  so_far_fits : length (text_of clock d ds busy) ≤ length e
  so_far_fits = omega (arith, text_front clock ds busy d n g.below, g.fits)

  line_fits : d < n → length (text_of clock d ds busy ++ line_at ds busy d) ≤ length e
  line_fits l = rw (← text_more clock ds busy d) (omega (arith, text_front clock ds busy (d + 1) n (omega arith), g.fits))

  pub going_length : length x ≡ length e
  going_length = wrote_length g.wrote so_far_fits

  pub going_start : r ≤ length x
  going_start = start_fits g.wrote so_far_fits

  pub going_asks : d < n → length (line_at ds busy d) ≤ length (mid_of r (length x - r) x)
  going_asks l = rest_fits g.wrote (line_at ds busy d) (line_fits l)

  pub going_on : {z : List ℕ} {q : ℕ} → d < n → Wrote (line_at ds busy d) (mid_of r (length x - r) x) z q → Going clock n ds busy e (put_mid r (length x - r) x z) (r + q) (d + 1)
  going_on l v = record { wrote = wrote_as (sym (text_more clock ds busy d)) (behind g.wrote v); below = omega arith; few = g.few; fits = g.fits }

  pub going_high : r ≤ 24 + 70 * n
  going_high = omega (arith, g.wrote.count, text_high clock ds busy n, text_front clock ds busy d n g.below)

pub going_done : {clock n : ℕ} {ds : List Destination} {busy e x y : List ℕ} {r q d : ℕ} → Wrote (clock_line clock) e x r → Going clock n ds busy x y q d → n ≤ d
    → Wrote (text_of clock n ds busy) e y q
unfolding text_of
going_done {clock} {n} {ds} {busy} {d} w g l =
    let h : d ≡ n = omega (arith, g.below) in
    wrote_since (lines_of ds busy n) w (wrote_as (ap (λ k. text_of clock k ds busy) h) g.wrote)

-- The two cases of a destination.

pub live_text_lem : (h : Health) (u : Sums) (busy : ℕ) → h ≡ Live u → health_text h busy ≡ live_text u.window busy
unfolding health_text
live_text_lem h u busy e = rw e

pub dead_text_lem : (h : Health) (end busy : ℕ) → h ≡ Dead end → health_text h busy ≡ dead_text end
unfolding health_text
dead_text_lem h end busy e = rw e
