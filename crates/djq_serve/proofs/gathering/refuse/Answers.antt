-- What was offered is the whole line, once, and then the hub closes the session.
use Rattle.std.proofs.Common.{[], ◌∷◌, ◌∙◌, ap, rules, arith}
use Rattle.std.proofs.lemmas.List.{take_all}
use Rattle.djq_io.specs.Hub.{Ids, without}
use Rattle.djq_io.specs.declared.hub.Told.TheVariants.{Closing}
use Rattle.djq_serve.specs.Server.{offering}
use Rattle.djq_serve.proofs.Going.{tells_send, tells_close, tells_more}
use Rattle.djq_serve.proofs.Turns.{refuses_by}
use Rattle.djq_serve.proofs.gathering.refuse.Goals as goal

-- What was offered is the line, all of it.
pub returns-clause-refuses : goal.returns-clause-refuses
returns-clause-refuses g c =
    let s = c.args.id in
    let sent = c.send.result in
    refuses_by _ _ s sent _ c.args.line.now (first_of (search rules, grind (arith, take_all))) c.send.ensures.takes
    (tells_more _ _ _ (offering s _ sent ∷ []) (Closing s ∷ [])
    (tells_send _ _ _ _ _ _ s sent _ c.send.ensures.past c.send.ensures.script c.send.ensures.ids)
    (tells_close _ _ _ _ _ _ s c.close.ensures.past c.close.ensures.script c.close.ensures.ids))
    (c.close.ensures.ids ∙ ap (λ (i : Ids). without i s) c.send.ensures.ids)
