use Rattle.std.proofs.Common.{◌≡◌, false, take}
use Rattle.std.specs.Prelude.{Some}
use Rattle.std.specs.List.{list_any}
use Rattle.djq_live_query.specs.Live.{Live}
use Rattle.djq_live_query.specs.Member.{query_at, queries_at}
use Rattle.djq_united.proofs.Members.{differs}
use Rattle.djq_united.proofs.alike.heads_differ.Given as goal

abbrev pub invariant-loop-place : goal.invariant-loop-place
invariant-loop-place l = (f : Live) → query_at l.queries l.first ≡ Some f
    → list_any (differs f) (queries_at l.queries (take l.place-index l.places)) ≡ false
