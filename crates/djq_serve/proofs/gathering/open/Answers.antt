-- The id is above all before and known to the hub; where it isn't let in, the machine stays as it was.
use Rattle.std.proofs.Common.{refl, rules}
use Rattle.djq_serve.proofs.Sessions.{is_above, new_at_hub, opens_in}
use Rattle.djq_serve.proofs.Turns.{is_let_in, is_full, is_unmade, out_agrees, full_gives, unmade_gives}
use Rattle.djq_serve.proofs.gathering.open.Goals as goal

pub open_session-requires : goal.open_session-requires
open_session-requires g c = is_above (g.M.Machine.state c.args.machine.now) (g.H.Hub.ids c.args.hub.now) c.args.id
    c.requires

pub refuse-requires-clause-open : goal.refuse-requires-clause-open
refuse-requires-clause-open g c = new_at_hub (g.M.Machine.state c.args.machine.now) (g.H.Hub.ids c.args.hub.now)
    c.args.id c.requires

pub refuse-requires-in-Err-NoMem-clause-open : goal.refuse-requires-in-Err-NoMem-clause-open
refuse-requires-in-Err-NoMem-clause-open g c = new_at_hub (g.M.Machine.state c.args.machine.now)
    (g.H.Hub.ids c.args.hub.now) c.args.id c.requires

pub returns-in-Ok-clause-admits : goal.returns-in-Ok-clause-admits
returns-in-Ok-clause-admits g c =
    let state = g.M.Machine.state in
    is_let_in (state c.args.machine.now) (state c.open_session.new.self) _ c.args.id c.in-Ok.ensures.0 c.in-Ok.ensures.1

pub returns-in-Ok-clause-agrees : goal.returns-in-Ok-clause-agrees
returns-in-Ok-clause-agrees g c =
    let state = g.M.Machine.state in
    let ids = g.H.Hub.ids c.args.hub.now in
    opens_in (state c.args.machine.now) (state c.open_session.new.self) ids ids c.args.id c.requires c.in-Ok.ensures.0
    c.in-Ok.ensures.1 refl

pub returns-in-Err-Full-clause-admits : goal.returns-in-Err-Full-clause-admits
returns-in-Err-Full-clause-admits g c =
    let state = g.M.Machine.state in
    is_full (state c.args.machine.now) (state c.open_session.new.self) _ _ c.args.id c.requires
    (full_gives _ _ c.args.id c.in-Err-Full.field-0 (search rules) c.in-Err-Full.ensures).1
    (full_gives _ _ c.args.id c.in-Err-Full.field-0 (search rules) c.in-Err-Full.ensures).0 c.refuse.ensures.refuses

pub returns-in-Err-Full-clause-agrees : goal.returns-in-Err-Full-clause-agrees
returns-in-Err-Full-clause-agrees g c =
    let state = g.M.Machine.state in
    out_agrees (state c.args.machine.now) (state c.open_session.new.self) _ _ c.args.id _ c.requires
    (full_gives _ _ c.args.id c.in-Err-Full.field-0 (search rules) c.in-Err-Full.ensures).1 c.refuse.ensures.refuses

pub returns-in-Err-NoMem-clause-admits : goal.returns-in-Err-NoMem-clause-admits
returns-in-Err-NoMem-clause-admits g c =
    let state = g.M.Machine.state in
    is_unmade (state c.args.machine.now) (state c.open_session.new.self) _ _ c.args.id c.requires
    (unmade_gives _ _ c.args.id c.in-Err-NoMem.field-0 (search rules) c.in-Err-NoMem.ensures).1
    (unmade_gives _ _ c.args.id c.in-Err-NoMem.field-0 (search rules) c.in-Err-NoMem.ensures).0
    c.refuse-in-Err-NoMem.ensures.refuses

pub returns-in-Err-NoMem-clause-agrees : goal.returns-in-Err-NoMem-clause-agrees
returns-in-Err-NoMem-clause-agrees g c =
    let state = g.M.Machine.state in
    out_agrees (state c.args.machine.now) (state c.open_session.new.self) _ _ c.args.id _ c.requires
    (unmade_gives _ _ c.args.id c.in-Err-NoMem.field-0 (search rules) c.in-Err-NoMem.ensures).1
    c.refuse-in-Err-NoMem.ensures.refuses
