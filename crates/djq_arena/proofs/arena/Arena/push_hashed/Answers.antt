-- Either way out the store is sound and tidy; where it is tidy, no spare slot means that the arena is full.
use Rattle.std.proofs.Common.{◌<◌, sym, subst, ℕ, arith}
use Rattle.std.proofs.lemmas.Result.{IfOk-weaker, on_err_weaker}
use Rattle.djq_arena.proofs.Slots.{row_count, same_value, newest_free, none_free, on_err}
use Rattle.djq_arena.proofs.Rows.{puts}
use Rattle.djq_arena.proofs.arena.Arena.push_hashed.Goals as goal

pub put_fresh-requires-clause-few : goal.put_fresh-requires-clause-few
put_fresh-requires-clause-few c =
    subst (λ (n : ℕ). n < 4294967295) (sym (row_count c.self.inside.store c.self.invariant.0))
    (rw (← c.self.view_is) at c.requires.few)

pub invariant_of-self : goal.invariant_of-self
invariant_of-self c =
    let put = puts c.self.inside.store c.reuse.new.store c.link.new.store c.in-Some.slot c.args.cells.now
    c.reuse.ensures.prepared c.link.ensures.linked in
    (put.sound, put.tidy c.self.invariant.1)

pub returns-in-Some-clause-pushed : goal.returns-in-Some-clause-pushed
returns-in-Some-clause-pushed c = rw (← c.self.view_is)
    (puts c.self.inside.store c.reuse.new.store c.link.new.store c.in-Some.slot c.args.cells.now
    c.reuse.ensures.prepared c.link.ensures.linked).rows

pub returns-in-Some-clause-reused : goal.returns-in-Some-clause-reused
returns-in-Some-clause-reused c = rw (← c.self.view_is)
    (λ some. newest_free c.self.inside.store c.in-Some.slot c.self.invariant.0 (sym c.in-Some.ensures))

pub returns-in-None-clause-reused : goal.returns-in-None-clause-reused
returns-in-None-clause-reused c = rw (← c.self.view_is)
    (IfOk-weaker c.put_fresh.result _ _ (λ slot p some. absurd (some (omega (
      arith,
      c.self.invariant.1,
      row_count c.self.inside.store c.self.invariant.0,
      none_free c.self.inside.store c.self.invariant.0 (sym c.in-None.ensures),
    )))) c.put_fresh.ensures.put)

pub returns-in-None-clause-refused : goal.returns-in-None-clause-refused
returns-in-None-clause-refused c =
    rw (← c.self.view_is)
    (on_err_weaker c.put_fresh.result (same_value c.self.inside.store c.put_fresh.new.store)
    c.put_fresh.ensures.refused)

pub returns-in-None-clause-full : goal.returns-in-None-clause-full
returns-in-None-clause-full c = rw (← c.self.view_is)
    (on_err c.put_fresh.result _ (omega (
      arith,
      c.self.invariant.1,
      row_count c.self.inside.store c.self.invariant.0,
      none_free c.self.inside.store c.self.invariant.0 (sym c.in-None.ensures),
    )))
