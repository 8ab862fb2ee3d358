-- Without sessions the machine and the hub agree, and no batch is open.
use Rattle.djq_run_laws.proofs.BatchLines.{none_hold_lines}
use Rattle.djq_serve.proofs.Sessions.{agrees_none}
use Rattle.djq_serve.proofs.Promises.{serve_logs}
use Rattle.djq_serve.proofs.serving.serve_logged.Goals as goal

pub take_rounds-served-requires-clause-agrees : goal.take_rounds-served-requires-clause-agrees
take_rounds-served-requires-clause-agrees g c = agrees_none (g.M.Machine.state c.args.machine.now)
    (g.H.Hub.ids c.args.hub.now) c.requires.none c.requires.alone

pub take_rounds-served-requires-clause-hold : goal.take_rounds-served-requires-clause-hold
take_rounds-served-requires-clause-hold g c = none_hold_lines (g.M.Machine.state c.args.machine.now) c.requires.none

pub returns-clause-logs : goal.returns-clause-logs
returns-clause-logs g c =
    let state = g.M.Machine.state in
    let told = g.D.Disk.told in
    serve_logs _ c.args.turns c.args.most _ _ _ _ _ (state c.args.machine.now)
    (state c.take_rounds-served.new.machine) (state c.close_all.new.machine) c.args.log.now c.take_rounds-served.new.log
    (told c.args.disk.now) (told c.take_rounds-served.new.disk) c.requires.going
    c.requires.none c.take_rounds-served.ensures.took c.close_all.ensures.goes c.close_all.ensures.none
    c.close_all.ensures.agrees
