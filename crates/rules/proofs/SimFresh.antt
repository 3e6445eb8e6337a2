-- The simulation at the start, and through waking.
use Prim.Native.Nat.{ℕ}
use mathlib.Core.Path.{◌≡◌, refl, ap}
use mathlib.Core.Bool.{false}
use mathlib.Core.List.{[]}
use native.Mathlib.Nat.{not-suc-le-zero}
use Rattle.laws.specs.Order.{Before}
use Rattle.laws.proofs.Bools.{true_not_false}
use Rattle.laws.proofs.Places.{get_or_repeated}
use Rattle.ceiling.specs.Columns.{Columns}
use Rattle.ceiling.specs.Steps.{fresh}
use Rattle.ceiling.proofs.Invariant.{inv_fresh, inv_leave}
use Rattle.rules.specs.declared.Setup.{Setup}
use Rattle.rules.specs.declared.State.{State}
use Rattle.rules.specs.State.{is_present, list_of, queue_of, zero_list, waiting_of, waits_of}
use Rattle.rules.specs.Setup.{empty_state, fresh_state}
use Rattle.rules.specs.Windows.{woken}
use Rattle.rules.specs.Tally.{Tally, no_tally}
use Rattle.rules.proofs.Sim.{cost_in, present_row, Ahead, Sim}

pub none_present : (u : Setup) (j : ℕ) → is_present (fresh_state u) j ≡ false
unfolding fresh_state empty_state
none_present u j = get_or_repeated false 32 j

empty_queue : (u : Setup) (t : ℕ) → queue_of (fresh_state u) t ≡ []
unfolding fresh_state empty_state
empty_queue u t = ap list_of (get_or_repeated zero_list 4 t)

nobody_ahead : (u : Setup) (a b : ℕ) → Ahead (fresh_state u) [] a b → ⊥
unfolding Before
nobody_ahead u a b q = rw (empty_queue u q.0) at q.4

pub sim_fresh : (u : Setup) → Sim u (fresh_state u) no_tally fresh
unfolding no_tally
sim_fresh u =
    record {
      setup = unfold fresh_state empty_state in refl;
      rows = refl;
      row = λ i l. absurd (not-suc-le-zero l);
      picks = λ t. refl;
      total = λ t. refl;
      job = λ j h. true_not_false h (none_present u j);
      gone = λ i l. absurd (not-suc-le-zero l);
      inv = inv_fresh (cost_in u) (nobody_ahead u);
    }

pub sim_woken : {u : Setup} {s : State} {y : Tally} {g : Columns} (now : ℕ) → Sim u s y g → Sim u (woken s now) y g
unfolding woken present_row waiting_of waits_of
sim_woken now m =
    record {
      setup = m.setup;
      rows = m.rows;
      row = m.row;
      picks = m.picks;
      total = m.total;
      job = λ j h.
          let (i, r) = m.job j h in (
            i,
            record {
              link = r.link;
              transport = r.transport;
              picked = r.picked;
              waiting = r.waiting;
              n = r.n;
              sold = r.sold;
              over = r.over;
              unmarked = r.unmarked;
              parent = r.parent;
            },
          );
      gone = m.gone;
      inv = inv_leave m.inv λ a b q. q;
    }
