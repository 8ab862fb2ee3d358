-- No member reads a relation that a line before the index names, so the first that one reads is that of the line at it.
use Rattle.std.proofs.Common.{◌<◌, ◌∙◌, sym, arith, length}
use Rattle.std.proofs.lemmas.List.{get_or-map, length-map}
use Rattle.djq_store_spec.specs.Held.{HeldLine, no_line}
use Rattle.djq_store.specs.Settling.{some_read, named_by}
use Rattle.djq_store.proofs.Readers.{find_here, find_further}
use Rattle.djq_store.proofs.settling.first_named.Goals as goal

pub returns-then-some_read : goal.returns-then-some_read
returns-then-some_read c =
    let lines = (c.args.held.now).lines in
    let low : c.loop-at.at < length lines = omega (arith, c.loop-at-test.true, c.len-at-end.ensures.value) in
    let named : c.loop-at.at < length (named_by lines) = omega (arith, low, length-map lines (λ (h : HeldLine). h.relation)) in
    let x = c.relation-relation.result in
    sym (find_here (some_read c.args.queries.now c.args.members.now) (named_by lines) c.loop-at.at x named
    (c.relation-relation.ensures ∙ sym (get_or-map (λ (h : HeldLine). h.relation) lines c.loop-at.at no_line x low))
    c.loop-at.invariant (sym c.some_read.ensures ∙ c.if-some_read.true))

pub loop-at-preserved : goal.loop-at-preserved
loop-at-preserved c =
    let lines = (c.args.held.now).lines in
    let low : c.loop-at.at < length lines = omega (arith, c.loop-at-test.true, c.len-at-end.ensures.value) in
    let named : c.loop-at.at < length (named_by lines) = omega (arith, low, length-map lines (λ (h : HeldLine). h.relation)) in
    let x = c.relation-relation.result in
    find_further (some_read c.args.queries.now c.args.members.now) (named_by lines) c.loop-at.at x named
    (c.relation-relation.ensures ∙ sym (get_or-map (λ (h : HeldLine). h.relation) lines c.loop-at.at no_line x low))
    c.loop-at.invariant (sym c.some_read.ensures ∙ c.if-some_read.false)
