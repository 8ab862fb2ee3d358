-- At each turn so many answers are told, each once, of a cursor that is held still, as Telling keeps it.
use Rattle.std.proofs.Common.{arith, sym}
use Rattle.djq_protocol.specs.Reply.{answer_line}
use Rattle.djq_commands.proofs.Printing.{starts, is_held_still, is_there, goes_on, is_cut, is_ended, is_stale, is_fresh}
use Rattle.djq_commands.proofs.Printing.{is_asked, was_lacking, was_queued}
use Rattle.djq_commands.proofs.listing.list_answers.Goals as goal

pub loop-read-init : goal.loop-read-init
loop-read-init g c = starts c.args.engine.now c.args.id c.args.session.now c.args.listing.now c.requires.held
    c.requires.room

pub next-requires : goal.next-requires
next-requires g c = is_held_still c.args.engine.now c.args.id c.args.session.now c.loop-read.read c.loop-read.engine
    c.loop-read.session c.args.listing.now c.loop-read.listing c.loop-read.invariant

pub answer-requires : goal.answer-requires
answer-requires g c =
    (is_there c.args.engine.now c.args.id c.args.session.now c.loop-read.read c.loop-read.engine c.loop-read.session
    c.args.listing.now c.loop-read.listing c.next.new.answer c.next.new.self c.next.new.listing
    c.loop-read.invariant c.in-Given.ensures).0

pub returns-then-is_err : goal.returns-then-is_err
returns-then-is_err g c = is_cut c.args.engine.now c.args.id c.args.session.now c.loop-read.read c.args.count
    c.loop-read.engine c.loop-read.session c.args.listing.now c.loop-read.listing c.next.new.answer
    c.next.new.self c.queue_answer.new.self c.next.new.listing c.answer.result c.requires.room (omega arith)
    c.loop-read.invariant c.in-Given.ensures c.answer.ensures
    (was_lacking c.loop-read.session c.queue_answer.new.self (answer_line c.answer.result) c.queue_answer.result
    (sym c.if-is_err.ensures.value) c.queue_answer.ensures)

pub returns-in-End : goal.returns-in-End
returns-in-End g c = is_ended c.args.engine.now c.args.id c.args.session.now c.loop-read.read c.args.count
    c.loop-read.engine c.loop-read.session c.args.listing.now c.loop-read.listing c.next.new.answer
    c.next.new.self c.queue_last.new.self c.next.new.listing c.queue_last.result c.ended.result c.requires.room
    (omega arith) c.loop-read.invariant c.in-End.ensures c.queue_last.ensures c.ended.ensures

pub returns-in-Stale : goal.returns-in-Stale
returns-in-Stale g c = is_stale c.args.engine.now c.args.id c.args.session.now c.loop-read.read c.args.count
    c.loop-read.engine c.loop-read.session c.args.listing.now c.loop-read.listing c.in-Stale.relation c.in-Stale.seq
    c.next.new.answer
    c.next.new.self c.next.new.listing c.loop-read.invariant c.in-Stale.ensures

pub loop-read-preserved : goal.loop-read-preserved
loop-read-preserved g c = goes_on c.args.engine.now c.args.id c.args.session.now c.loop-read.read c.loop-read.engine
    c.loop-read.session c.args.listing.now c.loop-read.listing c.next.new.answer
    c.next.new.self c.queue_answer.new.self c.next.new.listing c.answer.result c.loop-read.invariant c.in-Given.ensures
    c.answer.ensures
    (was_queued c.loop-read.session c.queue_answer.new.self (answer_line c.answer.result) c.queue_answer.result
    (sym c.if-is_err.ensures.value) c.queue_answer.ensures)

pub more-more-requires : goal.more-more-requires
more-more-requires g c = is_fresh c.args.engine.now c.args.id c.args.session.now c.loop-read.read c.loop-read.engine
    c.loop-read.session c.args.listing.now c.loop-read.listing (omega arith) c.loop-read.invariant

pub returns : goal.returns
returns g c = is_asked c.args.engine.now c.args.id c.args.session.now c.loop-read.read c.args.count c.loop-read.engine
    c.loop-read.session c.args.listing.now c.loop-read.listing c.more-more.result
    c.more-more.new.self c.queue_last-2.new.self c.more-more.new.listing c.queue_last-2.result c.ended-2.result
    c.requires.room (omega arith) c.requires.some c.loop-read.invariant c.more-more.ensures c.queue_last-2.ensures
    c.ended-2.ensures
