-- A replay whole: the fresh state, what the records print, and the end behind it.
use Prim.Native.Nat.{ℕ, ◌+◌, ◌*◌, ◌≤◌}
use mathlib.Core.Path.{◌≡◌, sym, ◌∙◌, ap, subst}
use mathlib.Core.List.{List}
use native.Mathlib.Nat.{le_trans}
use lib.ListN.{length, take}
use Rattle.rules.specs.declared.Setup.{Setup}
use Rattle.rules.specs.declared.State.{State}
use Rattle.rules.specs.declared.HandedBack.{HandedBack}
use Rattle.rules.specs.Setup.{fresh_state}
use Rattle.rules.specs.Calls.{Call, setup_reply}
use Rattle.rules.specs.Gave.{SetupKept}
use Rattle.rules.specs.History.{state_after}
use Rattle.rules.proofs.Replies.{start_is}
use Rattle.lines.specs.Texts.{Put}
use Rattle.lines.proofs.PutLaws.{put_more, put_as}
use Rattle.journal.specs.Journals.{journal_of}
use Rattle.journal.specs.Replays.{count_used}
use Rattle.replaying.specs.Replay.{BoardFits, replay_setup, end_text, replay_text}
use Rattle.replaying.proofs.BoardLaws.{in_range, board_fits}
use Rattle.replaying.proofs.RoomLaws.{text_fits, text_whole}
use Rattle.replaying.proofs.JournalLaws.{events_few}
use Rattle.replaying.proofs.TurnLaws.{Ended}

-- the set-up is accepted
pub fresh : {u : Setup} (r : HandedBack (Unit {0})) → u ≡ replay_setup → SetupKept u r → r.state ≡ fresh_state replay_setup
fresh r h kept = ap (λ x. x.state) kept.0 ∙ ap (λ u. (setup_reply u).state) h ∙ start_is replay_setup in_range

pub fits : {s : State} (calls : List Call) → s ≡ state_after replay_setup calls → BoardFits s
fits calls h = subst BoardFits (sym h) (board_fits calls)

pub replayed :
    (bytes entry : List ℕ) (budget : ℕ) {state : State} {used n n2 : ℕ} {out out2 : List ℕ}
    → Ended bytes entry budget state used n out
    → Put (end_text used state) out n out2 n2
    → (used ≡ count_used (journal_of bytes) budget)
    × (Put (replay_text (journal_of bytes) budget) entry 0 out2 n2
    × (5 * length bytes + 4096 ≤ length entry → take n2 out2 ≡ replay_text (journal_of bytes) budget))
unfolding replay_text
replayed bytes entry budget {state} {n2 = n2} {out2 = out2} ended put =
    let same = ap (λ k. end_text k state) ended.1.0 ∙ ap (end_text (count_used (journal_of bytes) budget)) ended.0 in
    let all : Put (replay_text (journal_of bytes) budget) entry 0 out2 n2 = put_more ended.1.1 (put_as same put) in
    (ended.1.0, (all, λ room. text_whole all (le_trans (text_fits (journal_of bytes) (length bytes) budget (events_few bytes)) room)))
