-- By the invariant a name is found in a place exactly where it is taken, and the order has all queries.
use Rattle.std.proofs.Common.{◌∙◌, ap, sym, arith}
use Rattle.std.specs.Prelude.{position}
use Rattle.djq_engine.specs.Places.{is_query}
use Rattle.djq_engine.proofs.Refusals.{judged_fault, judged_limit, judged_none, judged_taken}
use Rattle.djq_engine.proofs.registering.judge_query.Goals as goal

pub returns-then-is_some : goal.returns-then-is_some
returns-then-is_some c =
    judged_taken c.args.parts.now.catalog c.args.parts.now.queries.items c.args.parts.now.order
    c.args.parts.now.readers.items c.args.parts.now.seq c.requires c.args.query.now c.find_query.result
    (c.find_query.ensures ∙ ap (position (is_query c.args.query.now.name)) c.as_slice.ensures.value)
    (sym c.is_some.ensures ∙ c.if-is_some.true)

pub returns-in-Some : goal.returns-in-Some
returns-in-Some c =
    judged_fault c.args.parts.now.catalog c.args.parts.now.queries.items c.args.parts.now.order
    c.args.parts.now.readers.items c.args.parts.now.seq c.requires c.args.query.now c.find_query.result
    c.in-Some.fault (c.find_query.ensures ∙ ap (position (is_query c.args.query.now.name)) c.as_slice.ensures.value)
    (sym c.is_some.ensures ∙ c.if-is_some.false) c.in-Some.ensures

pub returns-then-len-ge-QUERIES : goal.returns-then-len-ge-QUERIES
returns-then-len-ge-QUERIES c =
    judged_limit c.args.parts.now.catalog c.args.parts.now.queries.items c.args.parts.now.order
    c.args.parts.now.readers.items c.args.parts.now.seq c.requires c.args.query.now c.find_query.result
    (c.find_query.ensures ∙ ap (position (is_query c.args.query.now.name)) c.as_slice.ensures.value)
    (sym c.is_some.ensures ∙ c.if-is_some.false) c.in_default.ensures (omega arith)

pub returns : goal.returns
returns c =
    judged_none c.args.parts.now.catalog c.args.parts.now.queries.items c.args.parts.now.order
    c.args.parts.now.readers.items c.args.parts.now.seq c.requires c.args.query.now c.find_query.result
    (c.find_query.ensures ∙ ap (position (is_query c.args.query.now.name)) c.as_slice.ensures.value)
    (sym c.is_some.ensures ∙ c.if-is_some.false) c.in_default.ensures (omega arith)
