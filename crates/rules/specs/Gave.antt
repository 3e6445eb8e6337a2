-- What a public call gave back, in the paper's numbers, beside what stands in its lent buffer: to be compared with the rules' reply.
use Rattle.std.specs.Prelude.{ℕ, ◌≡◌, ◌≢◌, Bool, true, false, List, [], Option, Some, None, Result, Ok, Err}
use Rattle.laws.specs.Range.{any_to}
use Rattle.rules.specs.declared.Setup.{Setup}
use Rattle.rules.specs.declared.State.{State}
use Rattle.rules.specs.declared.Refusal.{Refusal}
use Rattle.rules.specs.declared.JobAnswer.{JobAnswer}
use Rattle.rules.specs.declared.PickAnswer.{PickAnswer}
use Rattle.rules.specs.declared.ReportAnswer.{ReportAnswer}
use Rattle.rules.specs.declared.HandedBack.{HandedBack}
use Rattle.rules.specs.Sizes.{max_entries}
use Rattle.rules.specs.Setup.{setup_in_range}
use Rattle.rules.specs.Windows.{woken}
use Rattle.rules.specs.Picking.{eligible}
use Rattle.rules.specs.Refusals.{pick_refusal}
use Rattle.rules.specs.Calls.{Reply, setup_reply}
use Rattle.rules.specs.Answers.{setup_says, job_says, pick_says, report_says, number_says}

abbrev pub setup_gave : HandedBack (Unit {0}) → Reply
setup_gave r = record { says = setup_says r.answer; state = r.state; buffer = [] }

-- an accepted set-up has no value to answer: that it is accepted is told by its case
abbrev pub accepts : Result (Unit {0}) Refusal → Bool
accepts (Err k) = false
accepts (Ok a) = true

-- what a set-up promises
abbrev pub SetupKept : Setup → HandedBack (Unit {0}) → Type 0
SetupKept u r = (setup_gave r ≡ setup_reply u) × (accepts r.answer ≡ setup_in_range u)

abbrev pub job_gave : HandedBack JobAnswer → List ℕ → Reply
job_gave r list = record { says = job_says r.answer; state = r.state; buffer = list }

abbrev pub pick_gave : HandedBack (Option PickAnswer) → Reply
pick_gave r = record { says = pick_says r.answer; state = r.state; buffer = [] }

-- what the case of a pick's answer tells: an accepted pick finds nothing exactly when no entry is eligible in the state after waking
abbrev pub FindsExactly : State → ℕ → Result (Option PickAnswer) Refusal → Type 0
FindsExactly s now (Err k) = pick_refusal s now ≢ 0
FindsExactly s now (Ok (Some a)) = (pick_refusal s now ≡ 0) × (any_to (eligible (woken s now)) max_entries ≡ true)
FindsExactly s now (Ok None) = (pick_refusal s now ≡ 0) × (any_to (eligible (woken s now)) max_entries ≡ false)

abbrev pub report_gave : HandedBack ReportAnswer → List ℕ → Reply
report_gave r list = record { says = report_says r.answer; state = r.state; buffer = list }

-- asking and the board text take the state by value and hand none back: it is the caller's, as it was

abbrev pub ask_gave : Result ℕ Refusal → State → Reply
ask_gave a s = record { says = number_says a; state = s; buffer = [] }

abbrev pub board_gave : Result ℕ Refusal → State → List ℕ → Reply
board_gave a s buffer = record { says = number_says a; state = s; buffer = buffer }
