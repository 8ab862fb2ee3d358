-- The first of the free numbers is the first of their bucket; where that is empty, all numbers are in use.
use Rattle.std.proofs.Common.{◌≡◌, ◌∙◌, sym, arith, length}
use Rattle.std.proofs.lemmas.Result.{IfOk-weaker}
use Rattle.djq_texts.specs.Known.{TakesPlace}
use Rattle.djq_texts.proofs.Index.{first_free, all_used}
use Rattle.djq_texts.proofs.Counting.{counted_all, none_left}
use Rattle.djq_texts.proofs.texts.Texts.enter.Goals as goal

pub reuse-requires-clause-given : goal.reuse-requires-clause-given
reuse-requires-clause-given c = rw (← c.self.view_is)
    (first_free c.self.inside.store.entries.items c.self.inside.store.links.items c.self.inside.store.heads.items
    c.in-Some.number c.self.invariant.index (sym c.link_of.ensures ∙ sym c.in-Some.ensures)).given

pub reuse-requires-clause-free : goal.reuse-requires-clause-free
reuse-requires-clause-free c = rw (← c.self.view_is)
    (first_free c.self.inside.store.entries.items c.self.inside.store.links.items c.self.inside.store.heads.items
    c.in-Some.number c.self.invariant.index (sym c.link_of.ensures ∙ sym c.in-Some.ensures)).free

pub extend-requires-clause-few : goal.extend-requires-clause-few
extend-requires-clause-few c =
    let known = c.self.inside.store.entries.items in
    let few = rw (← c.self.view_is) at c.requires.few in
    rw (← c.self.view_is)
    (omega (
      arith,
      few,
      counted_all known (all_used known c.self.inside.store.links.items c.self.inside.store.heads.items
          c.self.invariant.index (sym c.link_of.ensures ∙ sym c.in-None.ensures)),
    ))

pub extend-requires-clause-full : goal.extend-requires-clause-full
extend-requires-clause-full c = rw (← c.self.view_is)
    (all_used c.self.inside.store.entries.items c.self.inside.store.links.items c.self.inside.store.heads.items
    c.self.invariant.index (sym c.link_of.ensures ∙ sym c.in-None.ensures))

pub returns-in-None-clause-place : goal.returns-in-None-clause-place
returns-in-None-clause-place c = rw (← c.self.view_is)
    (IfOk-weaker c.extend.result (λ n. n ≡ length c.self.inside.store.entries.items)
    (λ n. TakesPlace c.self.inside.store.entries.items n)
    (λ n next. (
      omega (arith, next),
      λ free. absurd (none_left c.self.inside.store.entries.items (all_used c.self.inside.store.entries.items
          c.self.inside.store.links.items c.self.inside.store.heads.items c.self.invariant.index
          (sym c.link_of.ensures ∙ sym c.in-None.ensures)) free),
    ))
    (rw (← c.self.view_is) at c.extend.ensures.place))

pub returns-in_ok-reuse-in-Some-clause-place : goal.returns-in_ok-reuse-in-Some-clause-place
returns-in_ok-reuse-in-Some-clause-place c =
    let given = (first_free c.self.inside.store.entries.items c.self.inside.store.links.items
    c.self.inside.store.heads.items c.in-Some.number c.self.invariant.index
    (sym c.link_of.ensures ∙ sym c.in-Some.ensures)).given in
    rw (← c.self.view_is) (omega (arith, given), λ free. given)
