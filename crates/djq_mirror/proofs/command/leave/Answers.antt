-- The follower keeps the name that was asked for, and how following ended says what is to be written.
use Rattle.std.proofs.Common.{ℕ, List, ◌∙◌, ap, subst}
use Rattle.std.proofs.lemmas.Result.{MatchResult-weaker}
use Rattle.djq_mirror.specs.Mirror.{Held, written}
use Rattle.djq_mirror.specs.declared.reading.Followed.TheVariants.{Whole, Halted, ReadFault}
use Rattle.djq_mirror.specs.Follow.{FollowEnds}
use Rattle.djq_mirror.proofs.FollowedLines.{leaves_whole, leaves_halted, lacks_whole, lacks_halted, fails}
use Rattle.djq_mirror.proofs.command.leave.Goals as goal

pub returns-in-Whole : goal.returns-in-Whole
returns-in-Whole g c =
    let before = g.S.Source.told c.args.source.now in
    let now = g.S.Source.told c.follow.new.source in
    let faults = g.S.Source.faults c.args.source.now in
    let faults' = g.S.Source.faults c.follow.new.source in
    let held = c.follow.new.follower.held in
    let ends = subst (λ (name : List ℕ). FollowEnds Whole name before now faults faults' held)
    (c.new-follower.ensures.name ∙ c.new.ensures.name) c.in-Whole.ensures in
    MatchResult-weaker c.written-in-Whole.result
    c.written-in-Whole.ensures
    (λ made h. leaves_whole c.args.query before now faults faults' held made.0.items made.1 ends
    (h.0 ∙ ap (λ (o : Held). written o) c.into_mirror.ensures.held) h.1)
    (λ answer h. lacks_whole c.args.query before now faults faults' held answer ends h)

pub returns-in-Halted : goal.returns-in-Halted
returns-in-Halted g c =
    let before = g.S.Source.told c.args.source.now in
    let now = g.S.Source.told c.follow.new.source in
    let faults = g.S.Source.faults c.args.source.now in
    let faults' = g.S.Source.faults c.follow.new.source in
    let held = c.follow.new.follower.held in
    let halt = c.in-Halted.halt in
    let ends = subst (λ (name : List ℕ). FollowEnds (Halted halt) name before now faults faults' held)
    (c.new-follower.ensures.name ∙ c.new.ensures.name) c.in-Halted.ensures in
    MatchResult-weaker c.tell_halt.result
    c.tell_halt.ensures
    (λ made h. leaves_halted c.args.query before now faults faults' held halt made.0.items made.1 ends h)
    (λ answer h. lacks_halted c.args.query before now faults faults' held halt answer ends h)

pub returns : goal.returns
returns g c =
    let before = g.S.Source.told c.args.source.now in
    let now = g.S.Source.told c.follow.new.source in
    let faults = g.S.Source.faults c.args.source.now in
    let faults' = g.S.Source.faults c.follow.new.source in
    let held = c.follow.new.follower.held in
    fails c.args.query before now faults faults' held
    (subst (λ (name : List ℕ). FollowEnds ReadFault name before now faults faults' held)
    (c.new-follower.ensures.name ∙ c.new.ensures.name) c.in-ReadFault.ensures)
