-- A running session's piece is given whole, or cut where the buffer ends and its rest put back in front.
use Rattle.std.proofs.Common.{rules, arith, ◌≡◌, ◌<◌, ◌≤◌, ap, ◌∙◌, inl, inr, min, length, take, sym, subst}
use Rattle.djq_io.specs.Hub.{IsRunning}
use Rattle.djq_io.specs.MemHub.{Recorded}
use Rattle.djq_io.proofs.Hubs.{cuts_piece, gives_piece_whole, some_byte, holds_by}
use Rattle.djq_io.proofs.mem_hub.MemHub.follow.Goals as goal

-- The rest of the piece is put back.
pub returns-then-n-len-clause-script : goal.returns-then-n-len-clause-script
returns-then-n-len-clause-script c =
    let id = c.in-Some-Brings.id in
    let piece = c.in-Some-Brings.piece in
    let n = c.copy_to-n.result in
    let buf = c.copy_to-n.new.buf in
    let passes = rw c.in-Some-Brings.field-0-is at (rw c.in-Some-Brings.is at c.pop.ensures.next) in
    let running = subst (λ (h : Recorded). IsRunning h.ids id) c.self.view_is
    (holds_by c.is_running.result c.is_running.ensures c.if-is_running.true) in
    let script = ap (λ (h : Recorded). h.script) c.self.view_is in
    let is : n ≡ min (length piece) (length buf) = c.copy_to-n.ensures.n
    ∙ ap (λ room. min (length piece) room) (sym c.copy_to-n.ensures.length) in
    let longer : n < length piece = omega (arith, c.if-n-len.true, c.len.ensures) in
    let put = rw c.advance.ensures at c.put_back.ensures in (
      running,
      inr (cuts_piece id n (length buf) piece (take n buf) c.args.self.now.script c.pop.new.self.script
          c.put_back.new.self.script (rw script at passes) put is longer c.copy_to-n.ensures.copied),
    )

-- The piece is given whole.
pub returns-else-n-len-clause-script : goal.returns-else-n-len-clause-script
returns-else-n-len-clause-script c =
    let id = c.in-Some-Brings.id in
    let piece = c.in-Some-Brings.piece in
    let n = c.copy_to-n.result in
    let buf = c.copy_to-n.new.buf in
    let passes = rw c.in-Some-Brings.field-0-is at (rw c.in-Some-Brings.is at c.pop.ensures.next) in
    let running = subst (λ (h : Recorded). IsRunning h.ids id) c.self.view_is
    (holds_by c.is_running.result c.is_running.ensures c.if-is_running.true) in
    let script = ap (λ (h : Recorded). h.script) c.self.view_is in
    let is : n ≡ min (length piece) (length buf) = c.copy_to-n.ensures.n
    ∙ ap (λ room. min (length piece) room) (sym c.copy_to-n.ensures.length) in
    let fits : length piece ≤ n = omega (arith, c.len.ensures, c.if-n-len.false) in (
      running,
      inl (gives_piece_whole id n (length buf) piece (take n buf) c.args.self.now.script c.pop.new.self.script
          (rw script at passes) is fits c.copy_to-n.ensures.copied),
    )

-- It has a byte.
pub returns-else-n-len-clause-ids : goal.returns-else-n-len-clause-ids
returns-else-n-len-clause-ids c =
    let id = c.in-Some-Brings.id in
    let piece = c.in-Some-Brings.piece in
    let running = subst (λ (h : Recorded). IsRunning h.ids id) c.self.view_is
    (holds_by c.is_running.result c.is_running.ensures c.if-is_running.true) in
    let some = some_byte piece c.is_empty.result c.is_empty.ensures (search rules) in (
      omega (arith, some, c.len.ensures, c.if-n-len.false),
      omega
          (arith, c.copy_to-n.ensures.n, c.copy_to-n.ensures.length),
      running,
      ap (λ (h : Recorded). h.ids)
          c.self.view_is,
    )

-- The session was running.
pub returns-in-Some-Ends-clause-ids : goal.returns-in-Some-Ends-clause-ids
returns-in-Some-Ends-clause-ids c =
    let id = c.in-Some-Ends.id in
    let running = subst (λ (h : Recorded). IsRunning h.ids id) c.self.view_is
    (c.if-is_running-2.ensures.0 (search rules)) in
    (running, rw (ap (λ (h : Recorded). h.ids) c.self.view_is) at c.end.ensures.ids)
