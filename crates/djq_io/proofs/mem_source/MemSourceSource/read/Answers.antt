-- The piece is what the bytes have from the place on, and what is left begins behind it.
use Rattle.std.proofs.Common.{length, ◌+◌, ◌-◌, ◌≤◌, ◌≡◌, ◌++◌, take, drop, sym, ap, arith, ◌∙◌, length-append}
use Rattle.std.proofs.Common.{length-take, length-drop}
use Rattle.djq_io.proofs.Streams.{copied_part, part_then_left, gives_span}
use Rattle.djq_io.proofs.mem_source.MemSourceSource.read.Goals as goal

-- The piece is what comes next, and is left no longer.
pub returns-clause-reads : goal.returns-clause-reads
returns-clause-reads c =
    let at = c.self.inside.at in
    let n = c.min-n.result in
    let bytes = c.self.inside.bytes.items in
    let within : at + n ≤ length bytes = omega (arith, ap length c.deref.ensures.value) in
    let size : at + n - at ≡ n = omega arith in
    let is_part = rw (c.deref.ensures.value, size) at c.copy_from_slice.ensures.after in
    let part = take n (drop at bytes) in
    let part_size : length part ≡ n = omega (arith, length-take n (drop at bytes), length-drop at bytes) in
    let copied = copied_part n part c.copy_from_slice.new.self (drop n c.args.buf.now) part_size is_part in
    let begins = part_then_left at n bytes ∙ ap (λ p. p ++ drop (at + n) bytes) (sym copied) in
    let span = ap (λ k. take k (drop at bytes)) size ∙ sym copied in (
      omega arith,
      omega (arith, length-append c.copy_from_slice.new.self (drop n c.args.buf.now), ap length is_part),
      rw
          (← c.self.view_is) (gives_span _ _ _ _ _ _ _ span begins c.push.ensures),
    )

-- The buffer begins with what comes next.
pub returns-clause-gives : goal.returns-clause-gives
returns-clause-gives c =
    let at = c.self.inside.at in
    let n = c.min-n.result in
    let bytes = c.self.inside.bytes.items in
    let within : at + n ≤ length bytes = omega (arith, ap length c.deref.ensures.value) in
    let size : at + n - at ≡ n = omega arith in
    let is_part = rw (c.deref.ensures.value, size) at c.copy_from_slice.ensures.after in
    let part = take n (drop at bytes) in
    let part_size : length part ≡ n = omega (arith, length-take n (drop at bytes), length-drop at bytes) in
    rw (← c.self.view_is) (copied_part n part c.copy_from_slice.new.self (drop n c.args.buf.now) part_size is_part)
