-- The pieces so far, one behind another, are what was given, and the follower has taken just those bytes.
use Rattle.std.proofs.Common.{ℕ, ◌∙◌, ◌++◌, take, subst, arith, length-append, length-take}
use Rattle.djq_io.specs.Faults.{Counted}
use Rattle.djq_io.proofs.Streams.{gave_more, gave_same, gave_end, none_left_at_end}
use Rattle.djq_mirror.proofs.FollowedLines.{IsFirst, takes_more, are_followed, halted_as, ended_as}
use Rattle.djq_mirror.proofs.reading.follow.Goals as goal

pub returns-in-Some : goal.returns-in-Some
returns-in-Some g c =
    let reads = c.in-Got.ensures.reads in
    let piece = take c.in-Got.count c.read.new.buf in
    let f = c.args.follower.now in
    let first : IsFirst c.args.follower.now = record
    { held = c.requires.first; begun = c.requires.begun; count = c.requires.count } in
    record {
      bytes = c.loop.invariant.bytes ++ piece;
      gave = gave_more _ _ _ _ _ c.loop.invariant.gave reads.2;
      comes = halted_as f c.loop.follower c.loop.invariant.bytes piece c.in-Some.halt c.feed.new.self _ _ first
          c.loop.invariant.takes c.in-Some.ensures;
      counted = c.in-Got.ensures.faults ∙ c.loop.invariant.no_fault;
    }

pub returns-in-Some-end : goal.returns-in-Some-end
returns-in-Some-end g c =
    let first : IsFirst c.args.follower.now = record
    { held = c.requires.first; begun = c.requires.begun; count = c.requires.count } in
    record {
      bytes = c.loop.invariant.bytes;
      gave = gave_end _ _ _ _ c.loop.invariant.gave c.in-End.ensures.reads;
      comes = ended_as c.args.follower.now c.loop.follower c.loop.invariant.bytes c.in-Some-end.halt _ _ first
          c.loop.invariant.takes
          (none_left_at_end _ _ c.in-End.ensures.reads) c.in-Some-end.ensures;
      counted = c.in-End.ensures.faults ∙ c.loop.invariant.no_fault;
    }

pub returns-in-Failed : goal.returns-in-Failed
returns-in-Failed g c =
    let first : IsFirst c.args.follower.now = record
    { held = c.requires.first; begun = c.requires.begun; count = c.requires.count } in
    record {
      bytes = c.loop.invariant.bytes;
      gave = gave_same _ _ _ _ c.loop.invariant.gave c.in-Failed.ensures.reads;
      comes = are_followed c.args.follower.now c.loop.follower c.loop.invariant.bytes first c.loop.invariant.takes;
      counted = subst (λ (count : ℕ). Counted count (g.S.Source.faults c.read.new.self)) c.loop.invariant.no_fault
          c.in-Failed.ensures.faults;
    }

pub loop-preserved : goal.loop-preserved
loop-preserved g c =
    let reads = c.in-Got.ensures.reads in
    let piece = take c.in-Got.count c.read.new.buf in
    record {
      bytes = c.loop.invariant.bytes ++ piece;
      gave = gave_more _ _ _ _ _ c.loop.invariant.gave reads.2;
      takes = takes_more c.args.follower.now c.loop.follower c.feed.new.self c.loop.invariant.bytes piece
          c.loop.invariant.takes c.in_default.ensures;
      no_fault = c.in-Got.ensures.faults ∙ c.loop.invariant.no_fault;
      some = omega (
        arith,
        c.loop.invariant.some,
        length-append c.loop.invariant.bytes piece,
        length-take c.in-Got.count
            c.read.new.buf,
        reads.0,
        reads.1,
      );
      room = c.read.auto.buf ∙ c.loop.invariant.room;
    }
