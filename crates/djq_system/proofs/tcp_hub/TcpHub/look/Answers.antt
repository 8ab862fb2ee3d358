-- Bytes and an end come only from a session that is running; the ids stay, but for an input that ends.
use Rattle.std.proofs.Common.{rules, ap, subst}
use Rattle.djq_io.specs.Hub.{IsRunning}
use Rattle.djq_io.proofs.Hubs.{holds_by}
use Rattle.djq_system.specs.Tcp.{ShownByTcp}
use Rattle.djq_system.proofs.tcp_hub.TcpHub.look.Goals as goal

-- The session was running, and the ids stay.
pub returns-in-Bytes-clause-ids : goal.returns-in-Bytes-clause-ids
returns-in-Bytes-clause-ids g c =
    let id = c.index_mut-conn.result.now.id in
    let running = subst (λ (s : ShownByTcp). IsRunning s.ids id) c.self.view_is
    (holds_by c.is_running.result c.is_running.ensures (search rules)) in
    let fits = c.in-Bytes.ensures in
    (fits.0, fits.1, running, ap (λ (s : ShownByTcp). s.ids) c.self.view_is)

-- The session was running, and its input has ended.
pub returns-in-End-clause-ids : goal.returns-in-End-clause-ids
returns-in-End-clause-ids g c =
    let id = c.index_mut-conn.result.now.id in
    let running = subst (λ (s : ShownByTcp). IsRunning s.ids id) c.self.view_is
    (holds_by c.is_running.result c.is_running.ensures (search rules)) in
    (running, rw (ap (λ (s : ShownByTcp). s.ids) c.self.view_is) at c.end.ensures.ids)

pub returns-in-Broken-clause-ids : goal.returns-in-Broken-clause-ids
returns-in-Broken-clause-ids g c =
    let id = c.index_mut-conn.result.now.id in
    let running = subst (λ (s : ShownByTcp). IsRunning s.ids id) c.self.view_is
    (holds_by c.is_running.result c.is_running.ensures (search rules)) in (
      running,
      rw (c.count_fault.ensures.ids, ap (λ (s : ShownByTcp). s.ids) c.self.view_is) at
          c.end-in-Broken.ensures.ids,
    )
