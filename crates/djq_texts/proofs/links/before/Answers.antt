-- The slot stands in what is ahead of the walk, so the walk neither ends before it nor outlasts the links.
use Rattle.std.proofs.Common.{sym, subst, Option, ℕ, ◌+◌, arith}
use Rattle.djq_arena.proofs.Buckets.{Searching, searching, search_on, search_within, searched, search_further}
use Rattle.djq_arena.proofs.Buckets.{search_over}
use Rattle.djq_texts.proofs.links.before.Goals as goal

pub loop-step-init : goal.loop-step-init
loop-step-init c = searching c.args.links.now.items c.args.head c.args.number _ c.requires c.none-before.ensures

pub returns-in-None : goal.returns-in-None
returns-in-None c = absurd
    (search_on c.args.links.now.items c.args.head c.args.number c.loop-step.before c.loop-step._step
    (subst (λ (o : Option ℕ). Searching c.args.links.now.items c.args.head c.args.number c.loop-step.before o
    c.loop-step._step) (sym c.in-None.ensures) c.loop-step.invariant))

pub returns-then-here-number : goal.returns-then-here-number
returns-then-here-number c = searched c.args.links.now.items c.args.head c.args.number c.loop-step.before c.in-Some.here
    c.loop-step._step
    (subst (λ (o : Option ℕ). Searching c.args.links.now.items c.args.head c.args.number c.loop-step.before o
    c.loop-step._step) (sym c.in-Some.ensures) c.loop-step.invariant)
    c.if-here-number.true

pub link_of-at-requires : goal.link_of-at-requires
link_of-at-requires c = search_within c.args.links.now.items c.args.head c.args.number c.loop-step.before c.in-Some.here
    c.loop-step._step
    (subst (λ (o : Option ℕ). Searching c.args.links.now.items c.args.head c.args.number c.loop-step.before o
    c.loop-step._step) (sym c.in-Some.ensures) c.loop-step.invariant)

pub loop-step-preserved : goal.loop-step-preserved
loop-step-preserved c = subst
    (λ (o : Option ℕ). Searching c.args.links.now.items c.args.head c.args.number o c.link_of-at.result
    (c.loop-step._step + 1)) c.in-Some.ensures
    (search_further c.args.links.now.items c.args.head c.args.number c.loop-step.before c.in-Some.here
    c.link_of-at.result c.loop-step._step
    (subst (λ (o : Option ℕ). Searching c.args.links.now.items c.args.head c.args.number c.loop-step.before o
    c.loop-step._step) (sym c.in-Some.ensures) c.loop-step.invariant)
    c.if-here-number.false c.link_of-at.ensures)

pub returns : goal.returns
returns c = absurd (search_over c.args.links.now.items c.args.head c.args.number c.loop-step.before c.loop-step.at
    c.loop-step._step c.loop-step.invariant
    (omega (arith, c.loop-step-test.false, c.len-step-end.ensures, c.args.links.now.ok.0)))
