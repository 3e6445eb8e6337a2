use Prim.Native.Nat.{◌≤◌}
use mathlib.Core.Path.{◌≡◌, refl, sym, ◌∙◌, subst}
use mathlib.Core.Bool.{true, false}
use lib.ListN.{get_or-eq_default}
use Rattle.rules.proofs.Shape.{present_length}
use Rattle.rules.proofs.Shapes.{shaped}
use Rattle.rules.specs.Sound.{sound}
use Rattle.rules.specs.Calls.{Call}
use Rattle.rules.proofs.Replies.{reply_unsound}
use Rattle.asking.proofs.AskReplies.{ask_absent, ask_answered}
use Rattle.asking.proofs.ask.Goals as goal
use Rattle.asking.proofs.ask.Goals.{Else-not-sound}

whole : (c : Else-not-sound) → sound c.args.s ≡ true
whole c = sym c.sound.ensures ∙ c.if-not-sound.false

pub returns-then-not-sound : goal.returns-then-not-sound
returns-then-not-sound c = reply_unsound c.args.s (Call.ask c.args.job) (sym c.sound.ensures ∙ c.if-not-sound.true)

pub returns-then-job-ge32 : goal.returns-then-job-ge32
returns-then-job-ge32 c =
    let e = c in
    let s = e.args.s in
    ask_absent s e.args.job (whole (goal.at.returns-then-job-ge32 e).Else-not-sound)
    (get_or-eq_default s.jobs.present false (subst (λ n. n ≤ e.args.job) (sym (present_length (shaped s e.well_formed.0).jobs)) c.if-job-ge32.true))

pub returns-then-not-jobs-j : goal.returns-then-not-jobs-j
returns-then-not-jobs-j c =
    let e = c in
    ask_absent e.args.s e.args.job (whole (goal.at.returns-then-not-jobs-j e).Else-not-sound) c.if-not-jobs-j.true

pub returns : goal.returns
returns c =
    let e = c in
    ask_answered e.args.s e.args.job _ (whole (goal.at.returns e).Else-not-sound) c.if-not-jobs-j.false refl
