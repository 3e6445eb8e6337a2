-- What a computed example computes with: `unfolding rules` opens every definition that a run of calls meets. To unfold a definition is to unfold
-- what its own line names, and these are nothing but such lines, one for each file of definitions.
use Rattle.laws.specs.Bools.{when◌then◌else◌, one}
use Rattle.laws.specs.Range.{all_to, any_to, count_to, first_to, chosen_to, table_to, fold_to, sum_to, last_to}
use Rattle.laws.specs.Sequence.{keep, holds, first_of, up_to, insert_before, move_before, padded, every_in, count_in, holds_each_once, never_falling, firsts_to, times_in}
use Rattle.laws.specs.Chain.{along_chain, ends_in, first_along}
use Rattle.laws.specs.Newest.{newest}
use Rattle.laws.specs.Update.{upd}
use Rattle.rules.specs.State.{is_live, window_of, waits_of, busy_of, used_of, waiting_of}
use Rattle.rules.specs.Setup.{within, feedback_in_range, slots_in_range, windows_in_range, settings_in_range, setup_in_range, empty_state, first_destination, fresh_state}
use Rattle.rules.specs.Windows.{feedback, cohort_share, is_dead_at, raised, live_after_success, after_success, lowered, live_after_failure}
use Rattle.rules.specs.Windows.{after_failure, after_report, window_moved, live_moved, dead_moved, moved, move_number, woken_health, woken_at, woken}
use Rattle.rules.specs.Sound.{implies, belongs, entry_sound, busy_on, busy_to, busy_sound, is_job_on, queue_sound, arrivals_sound, order_of, order_sound}
use Rattle.rules.specs.Sound.{counts_sound, sold_sound, child_of, job_sound, sums_fit, health_sound, sound}
use Rattle.rules.specs.Taking.{is_dead, put_off_positions, kept_of, n_of, new_number, free_places, filled, new_order, with_order, taken}
use Rattle.rules.specs.Picking.{has_room, has_agent, eligible, eligible_on, eligible_of, eligible_to, has_eligible, steps_to, transport_steps, finds}
use Rattle.rules.specs.Picking.{next_transport, current_job, passed_over, is_blocked, went_past, next_place, next_entry}
use Rattle.rules.specs.Preemption.{credit, has_credit, owned, affordable, is_candidate, beats, better, best_before, best_candidate, not_above, search_end, looked_at}
use Rattle.rules.specs.Preemption.{pays_for, pays_for_best, long_enough, is_preempted, preemptor_of, added_to, charged, preempting}
use Rattle.rules.specs.Pick.{handed_out, pick_from, pick_with, pick_on, picking}
use Rattle.rules.specs.Reporting.{is_death, is_put_off, put_off_entries, put_off_of, kind_after, settled, stays, parent_after, departed, reported_at, reporting}
use Rattle.rules.specs.Refusals.{bad_clock, is_destination_on, lacks_number, lacks_places, is_busy_with, setup_refusal, job_refusal, pick_refusal, report_refusal}
use Rattle.rules.specs.Calls.{unless_refused, setup_reply, taking_reply, picking_reply, after_pick, reporting_reply, reply_to}
use Rattle.rules.specs.Calls.{taking_decisions, pick_decisions, decided_unless, decisions_on}
use Rattle.rules.specs.Tally.{no_tally, row_of, sum_on, new_row, with_job, overtaken_by, naming, noting, overtaken, with_preemption, preempted_rows}
use Rattle.rules.specs.Tally.{gone_by, past_rows, with_pick_at, with_pick, tallied}
use Rattle.rules.specs.History.{state_from, decisions_from, tally_of}
use Rattle.rules.specs.Recovery.{is_report, is_success, counts, reports_in, in_arow}
use Rattle.rules.specs.Examples.{shown, window_shown, windows_failing, succeeded, served, exact_at}

unfoldable pub ranges : Unit {0}
unfolding when◌then◌else◌ one all_to any_to count_to first_to chosen_to table_to fold_to sum_to last_to
ranges = tt

unfoldable pub sequences : Unit {0}
unfolding keep holds first_of up_to insert_before move_before padded every_in count_in holds_each_once never_falling firsts_to times_in along_chain ends_in first_along newest upd
sequences = tt

unfoldable pub setups : Unit {0}
unfolding is_live window_of waits_of busy_of used_of waiting_of within feedback_in_range slots_in_range windows_in_range settings_in_range setup_in_range empty_state first_destination fresh_state
setups = tt

unfoldable pub windows : Unit {0}
unfolding feedback cohort_share is_dead_at raised live_after_success after_success lowered live_after_failure after_failure window_moved live_moved dead_moved moved move_number woken_health woken_at woken
windows = tt

unfoldable pub soundness : Unit {0}
unfolding implies belongs entry_sound busy_on busy_to busy_sound is_job_on queue_sound arrivals_sound order_of order_sound counts_sound sold_sound child_of job_sound sums_fit health_sound sound
soundness = tt

unfoldable pub jobs : Unit {0}
unfolding is_dead put_off_positions kept_of n_of new_number free_places filled new_order with_order taken
jobs = tt

unfoldable pub eligibility : Unit {0}
unfolding has_room has_agent eligible eligible_on eligible_of eligible_to has_eligible steps_to transport_steps finds next_transport current_job passed_over is_blocked went_past next_place next_entry
eligibility = tt

unfoldable pub preemptions : Unit {0}
unfolding credit has_credit owned affordable is_candidate beats better best_before best_candidate not_above search_end looked_at pays_for pays_for_best long_enough is_preempted preemptor_of added_to charged preempting
preemptions = tt

unfoldable pub picks : Unit {0}
unfolding handed_out pick_from pick_with pick_on picking
picks = tt

unfoldable pub reports : Unit {0}
unfolding after_report is_death is_put_off put_off_entries put_off_of kind_after settled stays parent_after departed reported_at reporting
reports = tt

unfoldable pub refusals : Unit {0}
unfolding bad_clock is_destination_on lacks_number lacks_places is_busy_with setup_refusal job_refusal pick_refusal report_refusal
refusals = tt

unfoldable pub replies : Unit {0}
unfolding unless_refused setup_reply taking_reply picking_reply after_pick reporting_reply reply_to
replies = tt

unfoldable pub decisions : Unit {0}
unfolding taking_decisions pick_decisions decided_unless decisions_on
decisions = tt

unfoldable pub tallies : Unit {0}
unfolding no_tally row_of sum_on new_row with_job overtaken_by naming noting overtaken with_preemption preempted_rows gone_by past_rows with_pick_at with_pick tallied
tallies = tt

unfoldable pub runs : Unit {0}
unfolding state_from decisions_from tally_of
runs = tt

unfoldable pub recoveries : Unit {0}
unfolding is_report is_success counts reports_in in_arow
recoveries = tt

unfoldable pub shows : Unit {0}
unfolding shown window_shown windows_failing succeeded served exact_at
shows = tt

unfoldable pub rules : Unit {0}
unfolding ranges sequences setups windows soundness jobs eligibility preemptions picks reports refusals replies decisions tallies runs recoveries shows
rules = tt
