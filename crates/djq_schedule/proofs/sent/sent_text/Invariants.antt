use Rattle.std.proofs.Common.{ℕ, [], take, nat_eq}
use Rattle.std.specs.HashMap.{get}
use Rattle.std.specs.Option.{option_map_or}
use Rattle.djq_schedule.proofs.Schedules.{HasSent}
use Rattle.djq_schedule.proofs.sent.sent_text.Given as goal

abbrev pub invariant-loop-told : goal.invariant-loop-told
invariant-loop-told l = record {
  sent : HasSent (take l.told-index l.past) l.text.items
      (λ (s : ℕ). option_map_or (λ line. line.items) (get nat_eq l.begun s) []);
}
