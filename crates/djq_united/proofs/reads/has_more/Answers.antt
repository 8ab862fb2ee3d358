-- All members are kept over one catalog, with heads as wide as the first one's, so its count bounds each.
use Rattle.djq_live_query.specs.Member.{queries_at}
use Rattle.djq_united.proofs.Members.{members_ready, left_counted}
use Rattle.djq_united.proofs.Cursors.{over_places, looks_open}
use Rattle.djq_united.proofs.reads.has_more.Goals as goal

pub is_left-left-requires-clause-ready : goal.is_left-left-requires-clause-ready
is_left-left-requires-clause-ready g c =
    members_ready c.requires.kept.0 c.args.queries.now c.args.places.now c.requires.kept.1

pub returns-in-Open-clause-looks : goal.returns-in-Open-clause-looks
returns-in-Open-clause-looks g c =
    looks_open (queries_at c.args.queries.now c.args.places.now) c.args.progress.now c.in-Open.cursor
    c.in-Open.ended c.is_left-left.result c.in-Open.is c.is_left-left.ensures.left

pub returns-in-Open-clause-counted : goal.returns-in-Open-clause-counted
returns-in-Open-clause-counted g c =
    left_counted c.requires.kept.0 (queries_at c.args.queries.now c.args.places.now) _ _
    (over_places c.requires.kept.0 c.args.queries.now c.args.places.now c.requires.kept.1
    c.requires.members) c.is_left-left.ensures.counted
