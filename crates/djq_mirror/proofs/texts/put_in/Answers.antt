-- The set has a text exactly where its keys do, and a key that is put in leaves them in byte order.
use Rattle.std.proofs.Common.{◌∙◌, sym, refl}
use Rattle.std.proofs.lemmas.Bool.{not_from_false, not_from_true}
use Rattle.djq_mirror.proofs.MirrorSteps.{put_acted, set_has}
use Rattle.djq_mirror.proofs.texts.put_in.Goals as goal

pub returns-then-contains : goal.returns-then-contains
returns-then-contains c = (
  not_from_true _ (sym (set_has c.args.texts.now c.args.text.now) ∙ sym c.contains.ensures ∙ c.if-contains.true),
  refl,
)

pub returns : goal.returns
returns c = (
  not_from_false _ (sym (set_has c.args.texts.now c.args.text.now) ∙ sym c.contains.ensures ∙ c.if-contains.false),
  put_acted c.args.texts.now c.insert.new.self c.in-Ok.owned c.args.text.now c.in-Ok.ensures.items
      c.in-Ok-insert.ensures.keys c.insert.ensures.ordered,
)
