-- A relation that is found, of the row's width and types, leaves no condition that refuses.
use Rattle.djq_store_spec.specs.Transaction.{suit_refusal}
use Rattle.djq_engine.specs.Whole.{kept_in}
use Rattle.djq_engine.proofs.Conditions.{answers_done, suits_pass}
use Rattle.djq_engine.proofs.engine.Engine.held_ok.Goals as goal

pub returns-in-Ok : goal.returns-in-Ok
returns-in-Ok c =
    let p = c.self.inside.parts in
    rw (← c.self.view_is) (answers_done (suit_refusal (kept_in p).store c.args.name.now c.args.row.now) tt _ _
    (suits_pass p.catalog.relations c.args.name.now c.args.row.now 0 c.in-Ok._id.at c.in-Ok.ensures.ok) tt)
