-- The sends up to the index are counted down, and the search tells whether one to the session was the next.
use Rattle.std.proofs.Common.{rules, tests, arith, ◌≡◌, ◌++◌, ◌&&◌, nat_eq, length, take, drop}
use Rattle.std.proofs.lemmas.Grind.{common_steps}
use Rattle.std.proofs.lemmas.Iterator.{YieldsList-from_slice}
use Rattle.std.proofs.lemmas.Iterator.Search.{any_from_yields_List}
use Rattle.djq_io.specs.FailingSends.{one_after_send, after_send}
use Rattle.djq_io.proofs.Hubs.{mapped_more}
use Rattle.djq_io.proofs.Failures.{counts_sends}
use Rattle.djq_io.proofs.failing.FailingSends.count_down.Goals as goal

-- One more of the sends is counted down.
pub loop-f-preserved : goal.loop-f-preserved
loop-f-preserved c = mapped_more (one_after_send c.args.id) _ _ _ (record { id = 0; send = 0 }) _ (omega arith)
    c.loop-f.invariant c.after_send.ensures

-- The sends at the end are all counted down, and the search told whether one was the next.
pub returns : goal.returns
returns c =
    let now = c.loop-f.f-items in
    let sends = c.self.inside.sends.items in
    let end = take c.self.inside.sends.len (now ++ drop (length now) sends) in
    let counted : end ≡ after_send c.args.id sends = first_of (search rules, grind (arith, common_steps)) in
    let due = any_from_yields_List (λ f. nat_eq f.id c.args.id && nat_eq f.send 1) _ _ _ c.any-due.ensures.ran
    (YieldsList-from_slice sends cc) (λ x b q k. search (rules, tests)) in
    rw (← c.self.view_is)
    (record {
      due = due;
      counted = counted;
      faults = counts_sends c.any-due.result c.args.id sends end due counted;
    })
