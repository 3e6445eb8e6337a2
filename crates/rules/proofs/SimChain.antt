-- The chain of stored parents is the chain of named rows, those that left passed over.
use Prim.Native.Nat.{ℕ, zero, suc, ◌+◌, ◌<◌}
use mathlib.Core.Path.{◌≡◌, refl, sym, ◌∙◌, ap, ap₂, subst}
use mathlib.Core.Bool.{true, ◌||◌}
use mathlib.Core.List.{List}
use native.Mathlib.Nat.{suc_inj, not-suc-le-zero}
use native.Mathlib.Omega.{arith}
use lib.Dec.{eqb}
use borrow.Author.Tests.{eqb-true, eq-eqb}
use Rattle.laws.specs.Chain.{ends_in, first_along}
use Rattle.laws.specs.Onto.{on_chain, near}
use Rattle.laws.proofs.Bools.{bool_same}
use Rattle.laws.proofs.Chain.{first_along_here, first_along_passes}
use Rattle.laws.proofs.Onto.{on_enough, ends_near, on_near}
use Rattle.ceiling.specs.Columns.{Columns}
use Rattle.ceiling.proofs.Ceilings.{chains_end}
use Rattle.rules.specs.declared.Setup.{Setup}
use Rattle.rules.specs.declared.State.{State}
use Rattle.rules.specs.State.{is_present, parent_of}
use Rattle.rules.specs.Tally.{Row, Tally, row_at, row_of}
use Rattle.rules.proofs.Rows.{row_of_is}
use Rattle.rules.proofs.Sim.{present_row, job_link, Sim}
use Rattle.rules.proofs.SimRows.{row_inside, present_of, present_row_is}

pub link_to_job : (rows : List Row) (b a : ℕ) → row_of rows b ≡ suc a → job_link rows (suc a) ≡ suc b
unfolding job_link
link_to_job rows b a e = ap suc (row_of_is rows b a e).1

module _ {u : Setup} {s : State} {y : Tally} {g : Columns} (m : Sim u s y g) where
  -- the nearest present row up the chain of names
  abbrev pub up : ℕ → ℕ
  up = near (present_row s y.rows) g.names g.rows

  -- the parent of a present row's job
  pub parent_up : (i : ℕ) → present_row s y.rows i ≡ true → parent_of s (row_at y.rows i).job ≡ job_link y.rows (up i)
  parent_up i h =
      let q = present_row_is s y.rows i h in
      let (l, r) = m.job (row_at y.rows i).job q.0 in
      r.parent ∙ ap (λ z. job_link y.rows (up z)) (suc_inj (sym r.link ∙ q.1))

  -- it leads to a present row
  pub up_present : (i z : ℕ) → up i ≡ suc z → present_row s y.rows z ≡ true
  unfolding near
  up_present i z e = first_along_passes (present_row s y.rows) g.names g.rows (g.names i) z e

  -- a link of stored parents and a link of present rows that lead to the same
  same_on_lem : (n k j i : ℕ) → ((z : ℕ) → k ≡ suc z → present_row s y.rows z ≡ true) → row_of y.rows j ≡ suc i
      → on_chain (parent_of s) n (job_link y.rows k) j ≡ on_chain up n k i
  unfolding on_chain job_link
  same_on_lem zero k j i h e = refl
  same_on_lem (suc n) zero j i h e = refl
  same_on_lem (suc n) (suc z) j i h e =
      ap₂ ◌||◌ (bool_same (λ t. here (eqb-true (row_at y.rows z).job j t)) (λ t. there (eqb-true z i t)))
      (ap (λ k. on_chain (parent_of s) n k j) (parent_up z (h z refl)) ∙ same_on_lem n (up z) j i (up_present z) e)
    where
      here : (row_at y.rows z).job ≡ j → eqb z i ≡ true
      here q = eq-eqb z i (suc_inj (sym (present_row_is s y.rows z (h z refl)).1 ∙ ap (row_of y.rows) q ∙ e))

      there : z ≡ i → eqb (row_at y.rows z).job j ≡ true
      there q = eq-eqb (row_at y.rows z).job j (ap (λ l. (row_at y.rows l).job) q ∙ (row_of_is y.rows j i e).1)

  -- job j, of row i, is up the chain of parents from job b just where its row is up the chain of names from row a
  pub parents_are_names : (n b a j i : ℕ) → ends_in (parent_of s) n (suc b) ≡ true → is_present s b ≡ true → row_of y.rows b ≡ suc a
      → is_present s j ≡ true → row_of y.rows j ≡ suc i → on_chain (parent_of s) n (suc b) j ≡ on_chain g.names g.rows (suc a) i
  parents_are_names n b a j i ends hb eb hj ej =
      sym (on_enough (parent_of s) j n (n + g.rows) (suc b) (omega arith) ends)
      ∙ ap (λ k. on_chain (parent_of s) (n + g.rows) k j) (sym (link_to_job y.rows b a eb))
      ∙ same_on_lem (n + g.rows) (suc a) j i (λ z q. subst (λ z. present_row s y.rows z ≡ true) (suc_inj q) pa) ej
      ∙ on_enough up i g.rows (n + g.rows) (suc a) (omega arith) ends_up
      ∙ ap (λ k. on_chain up g.rows k i) (sym (found g.rows (row_inside m b a eb)))
      ∙ on_near (present_row s y.rows) g.names g.rows g.rows (suc a) i (omega arith) (chains_end m.inv a (row_inside m b a eb))
      (present_of s y.rows j i hj ej)
    where
      pa : present_row s y.rows a ≡ true
      pa = present_of s y.rows b a hb eb

      found : (n : ℕ) → a < n → first_along (present_row s y.rows) g.names n (suc a) ≡ suc a
      found zero l = absurd (not-suc-le-zero l)
      found (suc n) l = first_along_here (present_row s y.rows) g.names n a pa

      ends_up : ends_in up g.rows (suc a) ≡ true
      ends_up =
          subst (λ k. ends_in up g.rows k ≡ true) (found g.rows (row_inside m b a eb))
          (ends_near (present_row s y.rows) g.names g.rows g.rows (suc a) (omega arith) (chains_end m.inv a (row_inside m b a eb)))
