-- The order of a new job's destinations, those that first appear, and its row in the columns of the jobs.
use Prim.Native.Nat.{ℕ, ◌+◌, ◌*◌, ◌≤◌, ◌<◌}
use mathlib.Core.Bool.{Bool, true, false}
use mathlib.Core.Path.{◌≡◌, refl, sym, ap, ◌∙◌}
use mathlib.Core.List.{List, [], ◌∷◌, ◌++◌}
use native.Mathlib.Numerals.{add-one}
use native.Mathlib.Decide.{ℕ_discrete}
use native.Mathlib.Omega.{arith}
use lib.ListN.{length, get_or, set, length-set, replicate, get_or-replicate}
use lib.Seq.{paste, take_all, get_or-set_same, get_or-set_other}
use Rattle.laws.specs.Sequence.{padded, holds, firsts_to}
use Rattle.laws.proofs.Sequence.{holds_append_right, holds_head, holds_append_other, length_padded}
use Rattle.laws.proofs.Firsts.{firsts_seen, firsts_new, firsts_length}
use Rattle.laws.proofs.Front.{length_snoc}
use Rattle.laws.proofs.Building.{put_at}
use Rattle.rules.specs.declared.Jobs.{Jobs}
use Rattle.rules.specs.State.{at}
use Rattle.rules.specs.Taking.{new_order, with_order, new_jobs}

-- The order of first appearance, with a table of what was seen.

pub record Seen (kept : List ℕ) (seen : List Bool) (places : List ℕ) (m i : ℕ) : Type 0 where
  pub size : length seen ≡ 32
  pub table : (d : ℕ) → d < 32 → get_or seen d false ≡ holds d (firsts_to kept i)
  pub built : places ≡ padded 32 (firsts_to kept i)
  pub count : m ≡ length (firsts_to kept i)

pub seen_none : (kept : List ℕ) → Seen kept (replicate 32 false) (padded 32 []) 0 0
unfolding firsts_to holds
seen_none kept = record { size = refl; table = λ d h. get_or-replicate 32 d false false h; built = refl; count = refl }

module _ {kept : List ℕ} {seen : List Bool} {places : List ℕ} {m i : ℕ} (r : Seen kept seen places m i) (small : (k : ℕ) → k < i + 1 → at kept k < 32) where
  here_small : at kept i < 32
  here_small = small i (omega arith)

  fresh : get_or seen (at kept i) false ≡ false → firsts_to kept (i + 1) ≡ firsts_to kept i ++ (at kept i ∷ [])
  fresh f = rw add-one (firsts_new kept i (sym (r.table (at kept i) here_small) ∙ f))

  pub seen_room : get_or seen (at kept i) false ≡ false → m < 32
  seen_room f = omega (arith, firsts_length kept (i + 1) 32 small, ap length (fresh f), length_snoc (firsts_to kept i) (at kept i), r.count)

  pub seen_new :
      {seen' : List Bool} {places' : List ℕ} {m' : ℕ}
      → get_or seen (at kept i) false ≡ false
      → seen' ≡ set seen (at kept i) true
      → places' ≡ set places m (at kept i)
      → m' ≡ m + 1
      → Seen kept seen' places' m' (i + 1)
  seen_new {seen'} f marked wrote more =
      let l = firsts_to kept i in
      let e = fresh f in
      record {
        size = ap length marked ∙ length-set seen (at kept i) true ∙ r.size;
        table = λ d below.
            ap (λ a. get_or a d false) marked ∙ (elim (ℕ_discrete d (at kept i)) [
              | yes q ↦ rw (q, e) (get_or-set_same seen (at kept i) true false (rw r.size here_small) ∙ sym (holds_append_right (at kept i) l (at kept i ∷ []) (holds_head (at kept i) [])))
              | no ne ↦ get_or-set_other seen (at kept i) d true false ne ∙ r.table d below ∙ sym (holds_append_other d (at kept i) l ne) ∙ ap (holds d) (sym e)
            ]);
        built = wrote ∙ put_at 32 l (at kept i) r.built r.count (seen_room f) ∙ ap (padded 32) (sym e);
        count = more ∙ ap (λ x. x + 1) r.count ∙ sym (length_snoc l (at kept i)) ∙ ap length (sym e);
      }

  pub seen_again :
      {seen' : List Bool} {places' : List ℕ} {m' : ℕ}
      → get_or seen (at kept i) false ≡ true
      → seen' ≡ seen
      → places' ≡ places
      → m' ≡ m
      → Seen kept seen' places' m' (i + 1)
  seen_again t marked wrote more =
      let e : firsts_to kept (i + 1) ≡ firsts_to kept i = rw add-one (firsts_seen kept i (sym (r.table (at kept i) here_small) ∙ t)) in
      record {
        size = ap length marked ∙ r.size;
        table = λ d below. ap (λ a. get_or a d false) marked ∙ r.table d below ∙ ap (holds d) (sym e);
        built = wrote ∙ r.built ∙ ap (padded 32) (sym e);
        count = more ∙ r.count ∙ ap length (sym e);
      }

-- The order as the rules say it.

order_few : (kept : List ℕ) → ((i : ℕ) → i < length kept → at kept i < 32) → length (new_order kept) ≤ 32
unfolding new_order
order_few kept small = firsts_length kept (length kept) 32 small

order_is : (column : List ℕ) (j : ℕ) (places order : List ℕ) → places ≡ padded 32 order → length order ≤ 32 → paste column (32 * j) places 32 ≡ with_order column j order
unfolding with_order
order_is column j places order e few =
    let k : length (padded 32 order) ≡ 32 = length_padded 32 order few in
    rw (e, take_all 32 (padded 32 order) (omega (arith, k)))

-- what `firsts` gave: the row is that of a job with these destinations
module _ (kept : List ℕ) (small : (i : ℕ) → i < length kept → at kept i < 32) (places : List ℕ) (e : places ≡ padded 32 (new_order kept)) where
  pub row_is : (g : Jobs) (j t clock count : ℕ) (order : List ℕ) → count ≡ length (new_order kept) → order ≡ paste g.order (32 * j) places 32
      → record {
        present = set g.present j true;
        transport = set g.transport j t;
        n = set g.n j (length kept);
        picked = set g.picked j 0;
        dropped = set g.dropped j 0;
        sold = set g.sold j 0;
        parent = set g.parent j 0;
        preempted = set g.preempted j false;
        arrival = set g.arrival j clock;
        overtakers = set g.overtakers j 0;
        turn = set g.turn j 0;
        places = set g.places j count;
        order = order;
      } ≡ new_jobs g j t clock kept
  row_is g j t clock count order many wrote =
      let o : order ≡ with_order g.order j (new_order kept) = wrote ∙ order_is g.order j places (new_order kept) e (order_few kept small) in
      rw (many, o) refl
