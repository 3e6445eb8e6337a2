-- A replay, followed record by record: what is played so far, and what is still to be read.
use Prim.Native.Nat.{ℕ, ◌+◌, ◌≤◌, ◌<◌}
use mathlib.Core.Path.{◌≡◌, refl, sym, ◌∙◌, ap, subst}
use mathlib.Core.List.{List, [], ◌∷◌, ◌++◌, append_assoc, append-nil}
use native.Mathlib.Omega.{arith}
use lib.ListN.{length, take, length-append}
use lib.Seq.{length-sets, take_all, take_at}
use borrow.Author.Tests.{le-leb, lt-leb}
use Rattle.laws.specs.Bools.{when◌then◌else◌}
use Rattle.rules.specs.declared.State.{State}
use Rattle.rules.specs.Setup.{fresh_state}
use Rattle.rules.specs.Calls.{Call}
use Rattle.rules.specs.History.{state_from, state_after, gathered}
use Rattle.rules.proofs.HistoryLaws.{state_append, gathered_append}
use Rattle.lines.specs.Texts.{Put}
use Rattle.lines.proofs.PutLaws.{put_none, put_more, put_as}
use Rattle.journal.specs.Records.{Event, Close, end, event, closed, read_at}
use Rattle.journal.specs.Journals.{journal_from, journal_of}
use Rattle.journal.specs.Replays.{call_of, calls_of, events_used, calls_used, count_used, close_used}
use Rattle.playing.specs.Plays.{printed}
use Rattle.replaying.specs.Replay.{replay_setup, close_line, played_text}
use Rattle.journal.proofs.Extents.{record_ends}
use Rattle.replaying.proofs.JournalLaws.{journal_closes, journal_goes}

calls_more : (done : List Event) (e : Event) → calls_of (done ++ (e ∷ [])) ≡ calls_of done ++ call_of e
unfolding calls_of
calls_more [] e = append-nil (call_of e)
calls_more (x ∷ done) e = ap (λ l. call_of x ++ l) (calls_more done e) ∙ sym (append_assoc (call_of x) (calls_of done) (call_of e))

-- a buffer stays as long as it was
pub put_long : {text entry out : List ℕ} {at n : ℕ} → Put text entry at out n → length out ≡ length entry
put_long {text} {entry} {at = at} p = ap length p.bytes ∙ length-sets entry at text

-- What is so at the head of each turn. A replay of these bytes has come to the offset `at`; n bytes of the buffer are put.

pub record Playing (bytes entry : List ℕ) (budget : ℕ) (state : State) (used at n : ℕ) (out : List ℕ) : Type 0 where
  pub done : List Event
  -- how many records may still be read
  pub left : ℕ
  pub enough : length bytes ≤ left + at
  pub events : (journal_of bytes).events ≡ done ++ (journal_from left bytes at).events
  pub close : (journal_of bytes).close ≡ (journal_from left bytes at).close
  pub count : used ≡ length done
  pub within : used ≤ budget
  pub reached : state ≡ state_from (fresh_state replay_setup) (calls_of done)
  pub put : Put (gathered printed (fresh_state replay_setup) (calls_of done)) entry 0 out n

pub starts : (bytes entry : List ℕ) (budget : ℕ) {s : State} → s ≡ fresh_state replay_setup → Playing bytes entry budget s 0 0 0 entry
unfolding journal_of gathered state_from calls_of
starts bytes entry budget h =
    record {
      done = [];
      left = length bytes;
      enough = omega arith;
      events = refl;
      close = refl;
      count = refl;
      within = omega arith;
      reached = h;
      put = put_none entry 0;
    }

-- What the whole replay promises of where it stands.
abbrev pub Ended : List ℕ → List ℕ → ℕ → State → ℕ → ℕ → List ℕ → Type 0
Ended bytes entry budget state used n out =
    (state ≡ state_after replay_setup (calls_used (journal_of bytes) budget))
    × ((used ≡ count_used (journal_of bytes) budget) × Put (played_text (journal_of bytes) budget) entry 0 out n)

module _ {bytes entry : List ℕ} {budget : ℕ} {state : State} {used at n : ℕ} {out : List ℕ} (p : Playing bytes entry budget state used at n out) where
  -- a record is played: the next turn
  pub turns :
      {e : Event} {next : ℕ} {calls : List Call} {state2 : State} {out2 : List ℕ} {n2 : ℕ}
      → used < budget
      → read_at bytes at ≡ event e next
      → calls ≡ call_of e
      → state2 ≡ state_from state calls
      → Put (gathered printed state calls) out n out2 n2
      → Playing bytes entry budget state2 (used + 1) next n2 out2
  turns {e} {next} h found same gave put =
      let rest = journal_goes bytes at found p.left p.enough in
      let more = calls_more p.done e in
      record {
        done = p.done ++ (e ∷ []);
        left = rest.0;
        enough = omega (arith, p.enough, rest.1, (record_ends bytes at found).0);
        events = p.events ∙ ap (λ j. p.done ++ j.events) rest.2 ∙ sym (append_assoc p.done (e ∷ []) _);
        close = p.close ∙ ap (λ j. j.close) rest.2;
        count = rw length-append (omega (arith, p.count));
        within = omega (arith, h);
        reached = gave ∙ rw (same, p.reached, more) (sym (state_append (fresh_state replay_setup) (calls_of p.done) (call_of e)));
        put =
            put_as
            (rw (same, p.reached, more) (sym (gathered_append printed (fresh_state replay_setup) (calls_of p.done) (call_of e))))
            (put_more p.put put);
      }

  -- the budget ends it: of the journal so many records are played, and nothing is put behind
  pub full : budget ≤ used → Ended bytes entry budget state budget n out
  unfolding state_after played_text events_used count_used calls_used close_used close_line when◌then◌else◌
  full h =
      let last : length p.done ≡ budget = omega (arith, h, p.within, p.count) in
      let most : budget ≤ length (journal_of bytes).events = rw (p.events, length-append) (omega (arith, last)) in
      let taken : take budget (journal_of bytes).events ≡ p.done = ap (take budget) p.events ∙ take_at p.done _ budget last in
      (rw taken p.reached, (rw taken (sym last), rw (taken, le-leb budget _ most, append-nil) p.put))

  -- it closes: all its records are played, and what closes it is put behind
  pub closes :
      {c : Close} {out2 : List ℕ} {n2 : ℕ}
      → used < budget
      → read_at bytes at ≡ closed c
      → Put (close_line c) out n out2 n2
      → Ended bytes entry budget state used n2 out2
  unfolding state_after played_text events_used count_used calls_used close_used when◌then◌else◌
  closes {c} h found put =
      let rest = journal_closes bytes at p.left p.enough found in
      let all : (journal_of bytes).events ≡ p.done = p.events ∙ ap (λ j. p.done ++ j.events) rest ∙ append-nil p.done in
      let close : (journal_of bytes).close ≡ c = p.close ∙ ap (λ j. j.close) rest in
      let short : length p.done < budget = omega (arith, h, p.count) in
      let taken : take budget p.done ≡ p.done = take_all budget p.done (omega (arith, short)) in (
        rw (all, taken) p.reached,
        (rw (all, taken) p.count, rw (all, close, taken, lt-leb budget _ short) (put_more p.put put)),
      )

  pub closes_end : used < budget → read_at bytes at ≡ closed end → Ended bytes entry budget state used n out
  unfolding close_line
  closes_end h found = closes h found (put_none out n)

-- the same under the names of what is given back
pub stands :
    (bytes entry : List ℕ) (budget : ℕ) {state : State} {used n : ℕ} {out : List ℕ} {state2 : State} {used2 n2 : ℕ}
    → Ended bytes entry budget state used n out
    → (state2 ≡ state) × (used2 ≡ used) × (n2 ≡ n)
    → Ended bytes entry budget state2 used2 n2 out
stands bytes entry budget {out = out} ended same = (
  same.0 ∙ ended.0,
  (same.1 ∙ ended.1.0, subst (Put (played_text (journal_of bytes) budget) entry 0 out) (sym same.2) ended.1.1),
)
