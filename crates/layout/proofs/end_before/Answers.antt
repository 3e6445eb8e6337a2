-- Each way out is a case of the layout's law; what is known on the way is named by the place from which it holds.
use Prim.Native.Nat.{◌≤◌, ◌<◌}
use mathlib.Core.Path.{◌≡◌, sym, subst}
use mathlib.Core.Bool.{true}
use native.Mathlib.Omega.{arith}
use lib.ListN.{length}
use Rattle.layout.specs.Layout.{word, head_of, size_of, lacks_room, end_before}
use Rattle.layout.proofs.LayoutLaws.{nonzero, short_head, short_tail, whole_of, end_none, end_unknown, end_short, end_full, end_not}
use Rattle.layout.proofs.LayoutLaws.{lacks_row, lacks_list, lacks_text, lacks_none}
use Rattle.layout.proofs.end_before.Goals as goal
use Rattle.layout.proofs.end_before.Goals.{In-Some, Else-n-head, Else-n-head-2}

-- What holds there.
is_known : (c : In-Some) → head_of (word c.args.words.now 0) ≡ 0 → ⊥
is_known c e = omega (arith, c.in-Some.ensures, e)

head_fits : (c : Else-n-head) → (head_of (word c.args.words.now 0) ≤ length c.args.words.now) × (0 < length c.args.words.now)
head_fits c =
    (subst (λ n. n ≤ length c.args.words.now) c.in-Some.ensures.0 c.if-n-head.false, nonzero _ c.if-n-eq0.false)

too_short : (c : In-Some) → length c.args.words.now < size_of c.args.words.now → 2 ≡ (end_before c.args.words.now c.args.answers c.args.lists c.args.texts)
too_short c h =
    let b = c in
    end_short b.args.words.now b.args.answers b.args.lists b.args.texts c.if-n-eq0.false (is_known c) h

is_whole : (c : Else-n-head-2) → size_of c.args.words.now ≤ length c.args.words.now
is_whole c =
    whole_of c.args.words.now _ c.in-Some.ensures.0 _ c.tail_of.ensures c.if-n-head.false c.if-n-head-2.false

full : (c : Else-n-head-2) → (lacks_room c.args.words.now c.args.answers c.args.lists c.args.texts) ≡ true → 4 ≡ (end_before c.args.words.now c.args.answers c.args.lists c.args.texts)
full c h =
    let b = c in
    let k = c in
    end_full b.args.words.now b.args.answers b.args.lists b.args.texts k.if-n-eq0.false (is_known (goal.at.Else-n-head-2 k).In-Some) (is_whole c) h

pub returns-then-n-eq0 : goal.returns-then-n-eq0
returns-then-n-eq0 c =
    let b = c in
    (end_none b.args.words.now b.args.answers b.args.lists b.args.texts c.if-n-eq0.true, omega arith)

pub returns-in_default : goal.returns-in_default
returns-in_default c =
    let h = c in
    let b = h in
    (end_unknown b.args.words.now b.args.answers b.args.lists b.args.texts h.if-n-eq0.false c.in_default.ensures, omega arith)

pub returns-then-n-head : goal.returns-then-n-head
returns-then-n-head c =
    let k = c in
    (too_short (goal.at.returns-then-n-head k).In-Some (short_head k.args.words.now _ k.in-Some.ensures.0 c.if-n-head.true), omega arith)

pub tail_of-requires : goal.tail_of-requires
tail_of-requires c = head_fits (goal.at.tail_of-requires c).Else-n-head

pub returns-then-n-head-2 : goal.returns-then-n-head-2
returns-then-n-head-2 c =
    let h = c in
    (too_short (goal.at.returns-then-n-head-2 h).In-Some (short_tail h.args.words.now _ h.in-Some.ensures.0 _ c.tail_of.ensures h.if-n-head.false c.if-n-head-2.true), omega arith)

pub returns-then-answers-lt-ROW : goal.returns-then-answers-lt-ROW
returns-then-answers-lt-ROW c =
    let b = c in
    (full (goal.at.returns-then-answers-lt-ROW c).Else-n-head-2 (lacks_row b.args.words.now b.args.answers b.args.lists b.args.texts c.if-answers-lt-ROW.true), omega arith)

pub list_places-requires : goal.list_places-requires
list_places-requires c = head_fits (goal.at.list_places-requires c).Else-n-head

pub returns-then-lists-list_places : goal.returns-then-lists-list_places
returns-then-lists-list_places c =
    let r = c in
    let b = r in
    let less = subst (λ n. b.args.lists < n) c.list_places.ensures c.if-lists-list_places.true in
    (full (goal.at.returns-then-lists-list_places r).Else-n-head-2 (lacks_list b.args.words.now b.args.answers b.args.lists b.args.texts less), omega arith)

pub text_places-requires : goal.text_places-requires
text_places-requires c = head_fits (goal.at.text_places-requires c).Else-n-head

pub returns-then-texts-text_places : goal.returns-then-texts-text_places
returns-then-texts-text_places c =
    let r = c in
    let b = r in
    let less = subst (λ n. b.args.texts < n) c.text_places.ensures c.if-texts-text_places.true in
    (full (goal.at.returns-then-texts-text_places r).Else-n-head-2 (lacks_text b.args.words.now b.args.answers b.args.lists b.args.texts less), omega arith)

pub returns : goal.returns
returns c =
    let l = c in
    let r = l in
    let b = r in
    let k = r in
    let lists = subst (λ n. n ≤ b.args.lists) l.list_places.ensures l.if-lists-list_places.false in
    let texts = subst (λ n. n ≤ b.args.texts) c.text_places.ensures c.if-texts-text_places.false in
    sym (end_not b.args.words.now b.args.answers b.args.lists b.args.texts k.if-n-eq0.false (is_known (goal.at.returns k).In-Some) (is_whole (goal.at.returns r).Else-n-head-2)
    (lacks_none b.args.words.now b.args.answers b.args.lists b.args.texts l.if-answers-lt-ROW.false lists texts))
