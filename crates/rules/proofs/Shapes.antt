-- A state that comes in by value has its shape: the lengths of its arrays are in its type.
use borrow.Author.Rules.{rules}
use Prim.Native.Nat.{ℕ, zero, suc, ◌<◌}
use mathlib.Core.Path.{◌≡◌, refl, sym, ◌∙◌, subst}
use mathlib.Core.List.{List, [], ◌∷◌, map}
use native.Mathlib.Nat.{not-suc-le-zero}
use native.Mathlib.Omega.{arith}
use lib.ListN.{length, get_or, length-map}
use base.Fml.{Fml}
use denote.Array.{each}
use denote.Laws.{Is}
use denote.Struct.Declared.{row}
use denote.Struct.Laws.{val}
use denote.Shadow.{shadow}
use mir.Val.{Val}
use Rattle.laws.proofs.Places.{get_d_default}
use Rattle.rules.specs.declared.State.{State}
use Rattle.rules.specs.State.{zero_list}
use Rattle.rules.specs.Setup.{no_jobs}
use Rattle.rules.proofs.Shape.{Shaped, lengths_of}
use Rattle.rules.specs.contracts.State.{the_type}
use Rattle.rules.specs.contracts.JobList.{the_type as list_type}
use Rattle.rules.proofs.State.TheLaws.{the_laws}

-- what is known of a state that is passed by value
abbrev pub Given : State → Type 0
Given s = Is (row the_type) s (val the_type the_laws s ∷ [])

-- what owning an array of structs tells of one of them
each_at : {X : Type 0} (own : X → List Val → Fml) (l : List X) (us : List Val) (i : ℕ) (d : X) → i < length l → shadow (each X own l us)
    → (v : List Val) × shadow (own (get_or l i d) v)
each_at own [] us i d h p = absurd (not-suc-le-zero h)
each_at own (x ∷ l) [] i d h p = absurd p
each_at own (x ∷ l) (u ∷ us) zero d h p = (u ∷ [], p.0)
each_at own (x ∷ l) (u ∷ us) (suc i) d h p = each_at own l us i d (omega arith) p.1

queue_long : (s : State) → Given s → (t : ℕ) → t < 4 → length (get_or s.queues t zero_list).jobs ≡ 32
queue_long s g t l =
    let n : length s.queues ≡ 4 = search rules in
    let e = each_at (row list_type).own_val s.queues g.1.1.1.1.1.1.1.1.0.0 t zero_list (omega (arith, n)) g.1.1.1.1.1.1.1.1.0.1.1 in
    let k = e.1 in
    search rules

-- each column of the jobs has its length
job_lengths : (s : State) → Given s → lengths_of s.jobs ≡ lengths_of no_jobs
job_lengths s g = search rules

pub shaped : (s : State) → Given s → Shaped s
shaped s g =
    record {
      destinations = search rules;
      busy = record { transport = search rules; destination = search rules };
      queues = search rules;
      queue = λ t l. queue_long s g t l;
      arrivals = search rules;
      jobs = record { lengths = job_lengths s g };
      entries = record { kind = search rules; job = search rules; destination = search rules; ticket = search rules };
    }

-- a transport's list, whatever stands past the end
pub same_list : (w : State) (t : ℕ) → length w.queues ≡ 4 → t < 4 → get_or w.queues t (record { jobs = []; count = 0 }) ≡ get_or w.queues t zero_list
same_list w t e h = get_d_default w.queues t (record { jobs = []; count = 0 }) zero_list (subst (λ n. t < n) (sym e) h)
