-- The word is copied to a part of the buffer of its own length. Assumes nothing.
use Prim.Native.Nat.{ℕ, ◌+◌, ◌-◌, ◌≤◌}
use mathlib.Core.Path.{◌≡◌, sym, ◌∙◌, ap}
use mathlib.Core.List.{List, ◌++◌, append_assoc}
use native.Mathlib.Omega.{arith}
use lib.ListN.{length, take}
use lib.Seq.{sets, sets-eq, drop-drop}
use borrow.Rule.Slice.PartMut.{put_mid}
use Rattle.writer.proofs.parts.put_word.Goals as goal

copied : (word e : List ℕ) (at : ℕ) → at + length word ≤ length e → put_mid at ((at + length word) - at) e word ≡ sets e at word
copied word e at h =
    let n : (at + length word) - at ≡ length word = omega arith in
    rw n (ap (λ l. take at e ++ (word ++ l)) (drop-drop (length word) at e) ∙ sym (append_assoc (take at e) word _) ∙ sym (sets-eq word e at h))

pub returns : goal.returns
returns c = record { stored = rw c.copy_from_slice.ensures.after (copied c.args.word.now c.args.buffer.now c.args.at c.requires); next = omega arith }
