-- Where nothing fixed is due, what is to come begins with the change that the next three draws make.
use Rattle.std.proofs.Common.{◌+◌, ◌-◌, sym, ◌∙◌}
use Rattle.djq_load.specs.Load.{changes}
use Rattle.djq_load.proofs.Draws.{changes-first}
use Rattle.djq_load.proofs.load.Load.line.Goals as goal

pub returns-clause-given : goal.returns-clause-given
returns-clause-given c =
    let l = c.self.inside in
    let ahead = rw c.in_default.ensures.none at c.self.view_is in
    let after = c.after_change-self-inside.ensures (changes l.values c.next-third.result (l.done + 1) (l.left - 1)) in (
      c.put_change.ensures.within,
      rw (
        c.put_change.ensures.text,
        after,
        c.drawn.ensures,
        c.drawn-2.ensures,
        c.drawn-3.ensures,
        c.next-third.ensures,
        c.next-second.ensures,
        c.next-first.ensures,
      )
          (sym ahead ∙ changes-first l.values l.state l.done l.left c.if-self-eq0.false),
    )
