use Rattle.std.proofs.Common.{List, ℕ, ◌≡◌, ◌++◌, length}
use Rattle.djq_mirror.specs.Follow.{TakesLines}
use Rattle.djq_mirror.proofs.follower.Follower.feed.Given as goal

abbrev pub invariant-lines : goal.invariant-lines
invariant-lines l = record {
  front : List ℕ;
  is : l.piece ≡ front ++ l.rest;
  takes : TakesLines l.fn.self front l.self;
}

abbrev pub decreases-lines : goal.decreases-lines
decreases-lines l = length l.rest
