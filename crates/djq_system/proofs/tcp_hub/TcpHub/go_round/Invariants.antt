use Rattle.std.proofs.Common.{◌≡◌, ◌≤◌}
use Rattle.djq_system.proofs.tcp_hub.TcpHub.go_round.Given as goal

-- Places that have nothing change nothing but how many connections were turned away.
abbrev pub invariant-loop : goal.invariant-loop
invariant-loop g l = (l.self ≡ record (l.fn.self) { turned_away = (l.self).turned_away })
    × ((l.fn.self).turned_away ≤ (l.self).turned_away)
