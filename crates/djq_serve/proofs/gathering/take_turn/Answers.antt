-- What a turn brings is of a session that the machine has, or of a new one.
use Rattle.djq_machine.specs.Step.{fed, opened}
use Rattle.djq_run_laws.proofs.Sessions.{step_ids}
use Rattle.djq_io.specs.declared.hub.Turn.TheVariants.{Opened, Bytes, Ended, Idle, Over, Failed}
use Rattle.djq_serve.proofs.Going.{tells_turn, made_holds_lines}
use Rattle.djq_serve.proofs.Sessions.{is_new, running_open, agrees_same, agrees_ended}
use Rattle.djq_serve.proofs.Turns.{turn_opens, turn_feeds, turn_ends, turn_idles, turn_over, turn_fails, at_room}
use Rattle.djq_serve.proofs.gathering.take_turn.Goals as goal

pub open-requires : goal.open-requires
open-requires g c =
    let ids = g.H.Hub.ids in
    let opens = c.in-Opened.ensures.ids in
    is_new (g.M.Machine.state c.args.machine.now) (ids c.args.hub.now) (ids c.turn.new.self) c.in-Opened.id opens.0
    opens.1 c.requires.agrees

pub feed-requires : goal.feed-requires
feed-requires g c = running_open (g.M.Machine.state c.args.machine.now) (g.H.Hub.ids c.args.hub.now) c.in-Bytes.id
    c.requires.agrees c.in-Bytes.ensures.ids.2

-- A session opened.

pub returns-in-Opened-clause-takes : goal.returns-in-Opened-clause-takes
returns-in-Opened-clause-takes g c =
    let state = g.M.Machine.state in
    let brought = c.in-Opened.ensures in
    turn_opens _ _ _ (state c.args.machine.now) (state c.open.new.machine) c.in-Opened.id c.in-Opened._class
    (tells_turn _ _ _ _ _ _ (Opened c.in-Opened.id c.in-Opened._class) c.turn.new.buf
    (at_room _ _ c.turn.auto.buf c.requires.room) brought.past brought.script brought.ids) c.open.ensures.admits

pub returns-in-Opened-clause-hold : goal.returns-in-Opened-clause-hold
returns-in-Opened-clause-hold g c =
    let state = g.M.Machine.state in
    made_holds_lines (state c.args.machine.now) (opened c.in-Opened.id) (state c.open.new.machine)
    c.open.ensures.admits.makes c.requires.hold

-- Bytes came.

pub returns-in-Bytes-clause-takes : goal.returns-in-Bytes-clause-takes
returns-in-Bytes-clause-takes g c =
    let state = g.M.Machine.state in
    let brought = c.in-Bytes.ensures in
    let room = at_room _ _ c.turn.auto.buf c.requires.room in
    turn_feeds _ _ (state c.args.machine.now) (state c.feed.new.self) c.in-Bytes.id c.in-Bytes.count c.turn.new.buf
    brought.ids.0 brought.ids.1 room c.feed.ensures.makes
    (tells_turn _ _ _ _ _ _ (Bytes c.in-Bytes.id c.in-Bytes.count) c.turn.new.buf room brought.past brought.script
    brought.ids)

pub returns-in-Bytes-clause-agrees : goal.returns-in-Bytes-clause-agrees
returns-in-Bytes-clause-agrees g c =
    let state = g.M.Machine.state in
    let ids = g.H.Hub.ids in
    let fed_it = c.feed.ensures.makes in
    agrees_same (state c.args.machine.now) (state c.feed.new.self) (ids c.args.hub.now) (ids c.turn.new.self)
    (step_ids _ (fed c.in-Bytes.id _) fed_it.effect _ fed_it.step) c.in-Bytes.ensures.ids.3 c.requires.agrees

pub returns-in-Bytes-clause-hold : goal.returns-in-Bytes-clause-hold
returns-in-Bytes-clause-hold g c =
    let state = g.M.Machine.state in
    made_holds_lines (state c.args.machine.now) (fed c.in-Bytes.id _) (state c.feed.new.self) c.feed.ensures.makes
    c.requires.hold

-- The input of a session ended.

pub returns-in-Ended-clause-takes : goal.returns-in-Ended-clause-takes
returns-in-Ended-clause-takes g c =
    let brought = c.in-Ended.ensures in
    turn_ends _ _ (g.M.Machine.state c.args.machine.now) c.in-Ended.id
    (tells_turn _ _ _ _ _ _ (Ended c.in-Ended.id) c.turn.new.buf (at_room _ _ c.turn.auto.buf c.requires.room)
    brought.past brought.script brought.ids)

pub returns-in-Ended-clause-agrees : goal.returns-in-Ended-clause-agrees
returns-in-Ended-clause-agrees g c =
    let ids = g.H.Hub.ids in
    agrees_ended (g.M.Machine.state c.args.machine.now) (ids c.args.hub.now) (ids c.turn.new.self) c.in-Ended.id
    c.in-Ended.ensures.ids.1 c.requires.agrees

-- Nothing came, nothing will come, or the hub failed.

pub returns-in-Idle-clause-takes : goal.returns-in-Idle-clause-takes
returns-in-Idle-clause-takes g c =
    let brought = c.in-Idle.ensures in
    turn_idles _ _ (g.M.Machine.state c.args.machine.now)
    (tells_turn _ _ _ _ _ _ Idle c.turn.new.buf (at_room _ _ c.turn.auto.buf c.requires.room) brought.past
    brought.script brought.ids)

pub returns-in-Over-clause-takes : goal.returns-in-Over-clause-takes
returns-in-Over-clause-takes g c =
    let brought = c.in-Over.ensures in
    turn_over _ _ (g.M.Machine.state c.args.machine.now)
    (tells_turn _ _ _ _ _ _ Over c.turn.new.buf (at_room _ _ c.turn.auto.buf c.requires.room) brought.past
    brought.script brought.ids)

pub returns-in-Failed-clause-takes : goal.returns-in-Failed-clause-takes
returns-in-Failed-clause-takes g c =
    let brought = c.in-Failed.ensures in
    turn_fails _ _ (g.M.Machine.state c.args.machine.now)
    (tells_turn _ _ _ _ _ _ Failed c.turn.new.buf (at_room _ _ c.turn.auto.buf c.requires.room) brought.past
    brought.script brought.ids)
