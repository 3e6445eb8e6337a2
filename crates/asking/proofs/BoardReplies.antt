-- The ways that asking for the board text can end: what the code gives there is the rules' reply.
use Prim.Native.Nat.{ℕ, ◌≤◌, ◌<◌}
use mathlib.Core.Path.{◌≡◌, refl, subst}
use mathlib.Core.Bool.{true}
use mathlib.Core.List.{List, [], ◌∷◌, ◌++◌}
use lib.ListN.{length, drop}
use borrow.Author.Tests.{lt-ltb, le-ltb}
use Rattle.laws.specs.Bools.{when◌then◌else◌}
use Rattle.rules.specs.declared.State.{State}
use Rattle.rules.specs.Sound.{sound}
use Rattle.rules.specs.Board.{text_of, board_text}
use Rattle.rules.specs.Refusals.{board_refusal}
use Rattle.rules.specs.Calls.{refused, granted, unless_refused, reply_to, board_reply}

module _ (s : State) (buffer : List ℕ) where
  -- the text, over what the code reads of the state
  abbrev text : List ℕ
  text = text_of s.clock s.setup.destinations s.destinations s.busy.destination

  pub board_short : (need : ℕ) → sound s ≡ true → need ≡ length text → length buffer < need
      → record { says = refused 10; state = s; buffer = buffer } ≡ board_reply s buffer
  unfolding reply_to board_refusal board_text unless_refused when◌then◌else◌
  board_short need h e l = rw (h, lt-ltb (length buffer) (length text) (subst (λ n. length buffer < n) e l)) refl

  pub board_fits : (need : ℕ) → need ≡ length text → need ≤ length buffer → length text ≤ length buffer
  board_fits need e l = subst (λ n. n ≤ length buffer) e l

  pub board_written : (n : ℕ) (out : List ℕ) → sound s ≡ true → length text ≤ length buffer → n ≡ length text → out ≡ text ++ drop (length text) buffer
      → record { says = granted (n ∷ []); state = s; buffer = out } ≡ board_reply s buffer
  unfolding reply_to board_refusal board_text unless_refused when◌then◌else◌
  board_written n out h l e f = rw (h, le-ltb (length buffer) (length text) l, e, f) refl
