use Prim.Native.Nat.{ℕ, ◌≤◌}
use mathlib.Core.Path.{◌≡◌, sym, ◌∙◌}
use mathlib.Core.Bool.{true}
use mathlib.Core.List.{List}
use lib.ListN.{length}
use Rattle.rules.specs.declared.State.{State}
use Rattle.rules.specs.Sound.{sound}
use Rattle.rules.specs.Board.{text_of}
use Rattle.rules.specs.Calls.{Call}
use Rattle.rules.proofs.Replies.{reply_unsound}
use Rattle.asking.proofs.BoardReplies.{board_short, board_fits, board_written}
use Rattle.rules.proofs.Soundness.{few_destinations}
use Rattle.asking.proofs.board.Goals as goal
use Rattle.asking.proofs.board.Goals.{Else-buffer-need, Else-not-sound}

whole : (c : Else-not-sound) → sound c.args.s ≡ true
whole c = sym c.sound.ensures ∙ c.if-not-sound.false

-- the text of the state, for which the buffer has room
abbrev text : State → List ℕ
text s = text_of s.clock s.setup.destinations s.destinations s.busy.destination

fits : (c : Else-buffer-need) → length (text c.args.s) ≤ length c.args.buffer.now
fits c =
    let m = c in
    board_fits m.args.s m.args.buffer.now m.text_length-need.result m.text_length-need.ensures c.if-buffer-need.false

pub returns-then-not-sound : goal.returns-then-not-sound
returns-then-not-sound c =
    reply_unsound c.args.s (Call.board _)
    (sym c.sound.ensures ∙ c.if-not-sound.true)

pub text_length-need-requires : goal.text_length-need-requires
text_length-need-requires c = few_destinations c.args.s (whole (goal.at.text_length-need-requires c).Else-not-sound)

pub returns-then-buffer-need : goal.returns-then-buffer-need
returns-then-buffer-need c =
    let m = c in
    board_short m.args.s _ m.text_length-need.result (whole (goal.at.returns-then-buffer-need m).Else-not-sound) m.text_length-need.ensures c.if-buffer-need.true

pub write-n-requires : goal.write-n-requires
write-n-requires c = (few_destinations c.args.s (whole (goal.at.write-n-requires c).Else-not-sound), fits (goal.at.write-n-requires c).Else-buffer-need)

pub returns : goal.returns
returns c =
    let w = c in
    let e = w in
    board_written e.args.s e.args.buffer.now _ _ (whole (goal.at.returns e).Else-not-sound) (fits (goal.at.returns w).Else-buffer-need) w.write-n.ensures.count w.write-n.ensures.bytes
