-- The board text of a replay's state is granted, and has room.
use Prim.Native.Nat.{ℕ, ◌≤◌, min}
use mathlib.Core.Path.{◌≡◌, refl, ◌∙◌, ap}
use mathlib.Core.Bool.{true}
use mathlib.Core.List.{List}
use Rattle.std.proofs.Common.{Result, Ok, Err}
use native.Mathlib.Omega.{arith}
use lib.ListN.{length, take}
use lib.Seq.{take_at}
use borrow.Author.Tests.{le-ltb}
use Rattle.laws.specs.Bools.{when◌then◌else◌}
use Rattle.rules.specs.declared.State.{State}
use Rattle.rules.specs.declared.Refusal.{Refusal}
use Rattle.rules.specs.State.{at}
use Rattle.rules.specs.Setup.{setup_in_range}
use Rattle.rules.specs.Board.{board_text}
use Rattle.rules.specs.Refusals.{board_refusal}
use Rattle.rules.specs.Calls.{Call, board, accepted, unless_refused, reply_to, board_reply}
use Rattle.rules.specs.Gave.{board_gave}
use Rattle.rules.specs.History.{state_after}
use Rattle.rules.proofs.Demand3.{companions}
use Rattle.rules.proofs.Opened.{rules}
use Rattle.rules.proofs.Reached.{reached}
use Rattle.board.proofs.TextLaws.{text_high}
use Rattle.replaying.specs.Replay.{BoardFits, replay_setup}

-- a clock's line of at most 24 bytes, and at most 32 lines of at most 70
pub board_short : (s : State) → s.setup.destinations ≤ 32 → length (board_text s) ≤ 2264
unfolding board_text
board_short s h = omega (arith, text_high s.clock s.destinations s.busy.destination s.setup.destinations)

-- States of a replay.

pub in_range : setup_in_range replay_setup ≡ true
unfolding rules
in_range = refl

-- the set-up stays as it is
pub board_after : (calls : List Call) → length (board_text (state_after replay_setup calls)) ≤ 2264
board_after calls =
    let same = ap (λ u. u.destinations) (reached replay_setup in_range calls).sim.setup in
    board_short (state_after replay_setup calls) (omega (arith, same))

pub board_fits : (calls : List Call) → BoardFits (state_after replay_setup calls)
board_fits calls = record { whole = (companions replay_setup in_range calls).reached; short = omega (arith, board_after calls) }

-- What a call that has room gives back: an answer of the text's length, and the text at the buffer's front.

module _ (s : State) (fits : BoardFits s) (text : List ℕ) (long : length text ≡ 4096) {a : Result ℕ Refusal} {buffer : List ℕ}
    (gave : board_gave a s buffer ≡ board_reply s text) where
  told : {b : Result ℕ Refusal} → a ≡ b → board_gave b s buffer ≡ accepted s (board text)
  unfolding reply_to unless_refused board_refusal when◌then◌else◌
  told h = rw (← h) (gave ∙ rw (fits.whole, le-ltb (length text) (length (board_text s)) (omega (arith, long, fits.short))) refl)

  pub not_refused : {k : Refusal} → a ≡ Err k → ⊥
  not_refused h = let e : ◌≡◌ {A = ℕ} 0 1 = ap (λ r. length r.says.values) (told h) in omega (arith, e)

  pub wholly_written : {n m : ℕ} → a ≡ Ok n → m ≡ min n 4096 → take m buffer ≡ board_text s
  wholly_written {n} {m} h l =
      let count : n ≡ length (board_text s) = ap (λ r. at r.says.values 0) (told h) in
      ap (λ r. take m r.buffer) (told h) ∙ take_at (board_text s) _ m (omega (arith, count, l, fits.short))
