-- The set has a text exactly where its keys do, and in byte order each is there at most once.
use Rattle.std.proofs.Common.{◌∙◌, sym, ap, map}
use Rattle.std.proofs.lemmas.Bool.{OnFalse_at}
use Rattle.djq_mirror.proofs.MirrorSteps.{set_has, take_acted}
use Rattle.djq_mirror.proofs.texts.take_out.Goals as goal

pub returns-then-remove : goal.returns-then-remove
returns-then-remove c = (
  sym (set_has c.args.texts.now c.args.text.now) ∙ sym c.remove.ensures.test ∙ c.if-remove.true,
  take_acted c.args.texts.now c.remove.new.self c.args.text.now c.remove.ensures.keys c.len-count.ensures.ordered
      c.remove.ensures.ordered,
)

pub returns-else-remove : goal.returns-else-remove
returns-else-remove c = (
  sym (set_has c.args.texts.now c.args.text.now) ∙ sym c.remove.ensures.test ∙ c.if-remove.false,
  ap (λ ks. map (λ v. v.items) ks) (OnFalse_at c.if-remove.false c.remove.ensures.unchanged),
)
