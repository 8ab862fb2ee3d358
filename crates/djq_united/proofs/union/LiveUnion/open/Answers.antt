-- A cursor that begins has given nothing and fits any members, and all other slots stay.
use Rattle.djq_united.proofs.Cursors.{open_united, opens}
use Rattle.djq_united.proofs.union.LiveUnion.open.Goals as goal

pub returns-clause-ok : goal.returns-clause-ok
returns-clause-ok c =
    opens _ c.args.self.now c.start.result c.open.new.self c.open.result c.self.view_is
    c.start.ensures.none c.open.ensures.ok

pub returns-clause-united : goal.returns-clause-united
returns-clause-united c = λ qs united.
    open_united qs _ c.args.self.now c.start.result c.open.new.self c.open.result c.self.view_is
    united c.start.ensures.fits c.open.ensures.ok c.open.ensures.err
