-- Each piece that is read is put behind the others, so the bytes are all that the source gave until then.
use Rattle.std.proofs.Common.{ℕ, List, ◌≡◌, ◌++◌, ◌∙◌, refl, sym, ap, subst, length, take, length-append, length-take}
use Rattle.std.proofs.Common.{arith, rules}
use Rattle.djq_io.specs.Faults.{Counted}
use Rattle.djq_io.specs.Given.{Gave}
use Rattle.djq_io.proofs.Streams.{gave_none, gave_more, gave_same, gave_end, none_left_at_end}
use Rattle.djq_program.proofs.replay.read_pieces.Goals as goal

pub loop-init : goal.loop-init
loop-init g c =
    let told = g.S.Source.told c.args.source.now in
    record {
      gave = subst (λ (bytes : List ℕ). Gave told told bytes) (sym c.new-bytes.ensures.items) (gave_none told);
      no_fault = refl;
      some = omega arith;
      room = refl;
    }

pub returns-then-is_err : goal.returns-then-is_err
returns-then-is_err g c = record {
  bytes = c.loop.bytes.items ++ take c.in-Got.count c.read.new.buf;
  gave = gave_more _ _ _ _ _ c.loop.invariant.gave c.in-Got.ensures.reads.2;
  stops = c.in-Got.ensures.faults ∙ c.loop.invariant.no_fault;
}

pub returns-in-End : goal.returns-in-End
returns-in-End g c = record {
  gave = gave_end _ _ _ _ c.loop.invariant.gave c.in-End.ensures.reads;
  at_end = none_left_at_end _ _ c.in-End.ensures.reads;
  no_fault = c.in-End.ensures.faults ∙ c.loop.invariant.no_fault;
}

pub returns-in-Failed : goal.returns-in-Failed
returns-in-Failed g c = record {
  bytes = c.loop.bytes.items;
  gave = gave_same _ _ _ _ c.loop.invariant.gave c.in-Failed.ensures.reads;
  stops = subst (λ (count : ℕ). Counted count (g.S.Source.faults c.read.new.self)) c.loop.invariant.no_fault
      c.in-Failed.ensures.faults;
}

pub loop-preserved : goal.loop-preserved
loop-preserved g c =
    let reads = c.in-Got.ensures.reads in
    let piece = take c.in-Got.count c.read.new.buf in
    let is : c.extend_from_slice.new.self.items ≡ c.loop.bytes.items ++ piece = search rules in
    record {
      gave = subst (λ (bytes : List ℕ). Gave (g.S.Source.told c.args.source.now) (g.S.Source.told c.read.new.self)
          bytes) (sym is) (gave_more _ _ _ _ _ c.loop.invariant.gave reads.2);
      no_fault = c.in-Got.ensures.faults ∙ c.loop.invariant.no_fault;
      some = omega (
        arith,
        c.loop.invariant.some,
        ap (λ (bytes : List ℕ). length bytes) is,
        length-append
            c.loop.bytes.items piece,
        length-take c.in-Got.count c.read.new.buf,
        reads.0,
        reads.1,
      );
      room = c.read.auto.buf ∙ c.loop.invariant.room;
    }
