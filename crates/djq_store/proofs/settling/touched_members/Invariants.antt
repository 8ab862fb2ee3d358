use Rattle.std.proofs.Common.{◌≡◌, ◌≤◌, length, take}
use Rattle.djq_protocol.specs.declared.limits.TheConstants.{MEMBERS}
use Rattle.djq_store.specs.Settling.{touched_in}
use Rattle.djq_store.proofs.settling.touched_members.Given as goal

abbrev pub invariant-loop-place : goal.invariant-loop-place
invariant-loop-place l = record {
  long : length l.touched ≡ MEMBERS;
  few : l.count ≤ l.place-index;
  items : take l.count l.touched ≡ touched_in l.queries l.relations (take l.place-index l.members);
}
