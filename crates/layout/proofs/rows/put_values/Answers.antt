use Rattle.std.proofs.Common.{◌≡◌, ◌-◌, ◌≤◌, ◌∙◌, ◌++◌, ℕ, List, length, drop, take, replicate, ap, arith}
use Rattle.std.proofs.lemmas.Grind.{common_steps}
use Rattle.laws.specs.Sequence.{padded}
use borrow.Rule.Slice.PartMut.{put_mid}
use Rattle.layout.proofs.rows.put_values.Goals as goal

-- zeros in all places behind the values
padded_is : (vs ps z : List ℕ) → length vs ≤ length ps → z ≡ replicate (length ps - length vs) 0
    → put_mid (length vs) (length (vs ++ drop (length vs) ps) - length vs) (vs ++ drop (length vs) ps) z ≡ padded (length ps) vs
unfolding padded
padded_is vs ps z h e = grind (arith, common_steps)

zeros : (vs ps : List ℕ) → length vs ≤ length ps
    → length (take (length (vs ++ drop (length vs) ps) - length vs) (drop (length vs) (vs ++ drop (length vs) ps))) ≡ length ps - length vs
zeros vs ps h = grind (arith, common_steps)

pub returns : goal.returns
returns c =
    let vs = c.args.values.now in
    let ps = c.args.places.now in
    let e = c.fill.ensures.after (λ y h. h) ∙ ap (λ n. replicate n 0) (rw c.copy_from_slice.ensures.after (zeros vs ps c.requires)) in
    rw c.copy_from_slice.ensures.after (padded_is vs ps _ c.requires e)
