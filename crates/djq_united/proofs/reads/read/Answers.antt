-- An answer of any member has as many cells as the first one's head, so that member's tree shows it.
use Rattle.djq_live_query.specs.Member.{queries_at}
use Rattle.djq_united.proofs.Members.{members_ready, first_in, cells_wide, most_counted}
use Rattle.djq_united.proofs.Cursors.{over_places, came_had, reads_given}
use Rattle.djq_united.proofs.reads.read.Goals as goal

pub advance-requires-clause-ready : goal.advance-requires-clause-ready
advance-requires-clause-ready g c =
    members_ready c.requires.kept.0 c.args.queries.now c.args.places.now c.requires.kept.1

pub returns-then-ended-clause-counted : goal.returns-then-ended-clause-counted
returns-then-ended-clause-counted g c =
    most_counted c.requires.kept.0 (queries_at c.args.queries.now c.args.places.now) _ _
    (over_places c.requires.kept.0 c.args.queries.now c.args.places.now c.requires.kept.1
    c.requires.members) c.advance.ensures.counted

pub put_in_tree-requires-clause-kept : goal.put_in_tree-requires-clause-kept
put_in_tree-requires-clause-kept g c =
    let ls = queries_at c.args.queries.now c.args.places.now in
    let over = over_places c.requires.kept.0 c.args.queries.now c.args.places.now
    c.requires.kept.1 c.requires.members in
    (c.requires.kept.0, over.kept c.member.result.now (first_in _ ls c.member.ensures))

pub put_in_tree-requires-clause-long : goal.put_in_tree-requires-clause-long
put_in_tree-requires-clause-long g c =
    let ls = queries_at c.args.queries.now c.args.places.now in
    let over = over_places c.requires.kept.0 c.args.queries.now c.args.places.now
    c.requires.kept.1 c.requires.members in
    cells_wide c.requires.kept.0 ls c.member.result.now c.advance.new.out over
    (first_in _ ls c.member.ensures)
    (came_had ls c.in-Open.cursor c.advance.new.self c.advance.new.out c.advance.result
    c.if-ended.false c.advance.ensures.one c.advance.ensures.answers)

pub returns-else-ended-clause-reads : goal.returns-else-ended-clause-reads
returns-else-ended-clause-reads g c =
    reads_given (queries_at c.args.queries.now c.args.places.now) c.member.result.now
    c.args.progress.now c.in-Open.cursor c.advance.new.self c.in-Open.ended c.advance.result
    c.advance.new.out c.put_in_tree.new.answer c.in-Open.is c.member.ensures c.if-ended.false
    c.advance.ensures.fits c.advance.ensures.one c.advance.ensures.answers c.put_in_tree.ensures

pub returns-else-ended-clause-counted : goal.returns-else-ended-clause-counted
returns-else-ended-clause-counted g c =
    most_counted c.requires.kept.0 (queries_at c.args.queries.now c.args.places.now) _ _
    (over_places c.requires.kept.0 c.args.queries.now c.args.places.now c.requires.kept.1
    c.requires.members) c.advance.ensures.counted
