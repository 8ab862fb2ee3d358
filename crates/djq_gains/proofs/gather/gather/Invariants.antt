use Rattle.std.proofs.Common.{◌≡◌, ◌≤◌, length}
use Rattle.djq_gains.specs.Gains.{AtFirstMember}
use Rattle.djq_gains.proofs.MemberDeltas.{Collects}
use Rattle.djq_gains.proofs.gather.gather.Given as goal

abbrev pub invariant-loop-nth : goal.invariant-loop-nth
invariant-loop-nth l = record {
  collects : Collects l.engine l.members l.touched l.nth l.gains.gains;
  wide : AtFirstMember l.engine l.members (λ q. l.gains.width ≡ length q.query.head);
  narrow : l.gains.width ≤ 16;
}
