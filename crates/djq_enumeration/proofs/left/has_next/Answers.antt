-- A choice without a next tuple can be taken away, and those left give the same; one with it leaves an answer.
use Rattle.std.proofs.Common.{◌≡◌, ◌-◌, List, length, ap, sym, subst, ◌∙◌, arith}
use Rattle.std.specs.Prelude.{take}
use Rattle.std.proofs.lemmas.List.{take_all}
use Rattle.djq_enumeration.specs.declared.places.Choice.{Choice}
use Rattle.djq_enumeration.specs.Walk.{GoesThrough, blank}
use Rattle.djq_enumeration.proofs.Menus.{given_to, given_whole}
use Rattle.djq_enumeration.proofs.NextAnswers.{retreat, given_without, all_levels, cut, found_left, none_found}
use Rattle.djq_enumeration.proofs.left.has_next.Goals as goal

pub loop-at-init : goal.loop-at-init
loop-at-init g c =
    let r = c.args.reducts.now in
    let menu = g.C.Choices.menu c.args.choices.now r in
    let n = length r.tree.nodes in
    let cs = c.args.places.now in
    let made = c.as_slice-made.result.now in
    let long : length made ≡ length cs = ap (λ (ds : List Choice). length ds) c.as_slice-made.ensures in
    let whole : take (length made) cs ≡ cs = take_all (length made) cs (omega arith) in
    let many = all_levels r menu cs c.requires.descends c.requires.whole in
    record {
      within = omega arith;
      follows = subst (λ (ds : List Choice). GoesThrough r menu n (blank r.tree) ds) (sym whole)
          c.requires.descends;
      given = ap (λ (ds : List Choice). given_to r menu n (blank r.tree) ds) whole
          ∙ given_whole r menu n (blank r.tree) cs c.requires.whole;
      counted = omega arith;
    }

pub next-requires : goal.next-requires
next-requires g c =
    let r = c.args.reducts.now in
    let menu = g.C.Choices.menu c.args.choices.now r in
    let cs = c.args.places.now in
    let at = c.loop-at.at in
    let e = cut cs c.as_slice-made.result.now at _ c.as_slice-made.ensures c.loop-at-test.true
    c.loop-at.invariant.within in
    (retreat r menu (take at cs) (take (at - 1) cs) _ c.loop-at.invariant.follows e).alive

pub returns-then-is_some-clause-next : goal.returns-then-is_some-clause-next
returns-then-is_some-clause-next g c =
    let r = c.args.reducts.now in
    let menu = g.C.Choices.menu c.args.choices.now r in
    let cs = c.args.places.now in
    let at = c.loop-at.at in
    let e = cut cs c.as_slice-made.result.now at _ c.as_slice-made.ensures c.loop-at-test.true
    c.loop-at.invariant.within in
    let t = retreat r menu (take at cs) (take (at - 1) cs) _ c.loop-at.invariant.follows e in
    found_left r menu (take at cs) (take (at - 1) cs) _ c.next.result _ t e c.requires.once
    c.requires.opened (sym c.if-is_some.true ∙ c.is_some.ensures) c.next.ensures.some
    c.loop-at.invariant.given

pub loop-at-preserved : goal.loop-at-preserved
loop-at-preserved g c =
    let r = c.args.reducts.now in
    let menu = g.C.Choices.menu c.args.choices.now r in
    let cs = c.args.places.now in
    let at = c.loop-at.at in
    let e = cut cs c.as_slice-made.result.now at _ c.as_slice-made.ensures c.loop-at-test.true
    c.loop-at.invariant.within in
    let t = retreat r menu (take at cs) (take (at - 1) cs) _ c.loop-at.invariant.follows e in
    let within = c.loop-at.invariant.within in
    let counted = c.loop-at.invariant.counted in
    let link = c.next.ensures.counted in
    let some = c.loop-at-test.true in
    record {
      within = omega arith;
      follows = t.follows;
      given = given_without r menu (take at cs) (take (at - 1) cs) _ _ t e
          (none_found c.next.result _ (sym c.if-is_some.false ∙ c.is_some.ensures)
          c.next.ensures.none)
          c.loop-at.invariant.given;
      counted = omega arith;
    }
