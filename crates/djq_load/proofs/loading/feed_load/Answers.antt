-- Each line of a load ends with its only LF, and those given with those to come are the whole load.
use Rattle.std.proofs.Common.{List, [], ◌∷◌, ◌++◌, ℕ, ◌∙◌, sym, ap, subst, take, append_assoc}
use Rattle.djq_load.proofs.IdleSessions.{loads_none, loads_then}
use Rattle.djq_load.proofs.Listings.{AreOnes, load_ones}
use Rattle.djq_load.proofs.loading.feed_load.Goals as goal

pub lines-init : goal.lines-init
lines-init g c = record {
  idle = c.requires;
  so_far = ([], c.new-load.ensures, loads_none _ _);
  ones = subst AreOnes (sym c.new-load.ensures) (load_ones c.args.n c.args.seed);
}

pub feed_line-requires-clause-one : goal.feed_line-requires-clause-one
feed_line-requires-clause-one g c = (subst AreOnes c.in-Some.ensures.given.1 c.lines.invariant.ones).0

pub lines-preserved : goal.lines-preserved
lines-preserved g c =
    let given = c.in-Some.ensures.given.1 in
    let line = take c.in-Some.count c.line.new.line in
    let before = c.lines.invariant.so_far in
    record {
      idle = c.in_ok-feed_line.ensures.idle;
      so_far = (
        before.0 ++ line ∷ [],
        append_assoc before.0 (line ∷ []) c.line.new.self
            ∙ ap (λ (lines : List (List ℕ)). before.0 ++ lines) (sym given) ∙ before.1,
        loads_then before.0 (line ∷ []) _ _ _ _ _ _ before.2 c.in_ok-feed_line.ensures.loads,
      );
      ones = (subst AreOnes given c.lines.invariant.ones).1;
    }
