-- A text becomes known behind the others, so every cell stands for what it did, and the relations stay.
use Rattle.std.proofs.Common.{◌≡◌, ◌∙◌, ap, sym, subst, refl}
use Rattle.std.specs.Prelude.{Some, Err, Contains}
use Rattle.std.proofs.lemmas.Bool.{false≢true}
use Rattle.djq_model.specs.Data.{Bytes}
use Rattle.djq_model.specs.Known.{texts_of, all_learned}
use Rattle.djq_dictionary.specs.declared.refusal.InternRefusal.{InternRefusal}
use Rattle.djq_dictionary.specs.Known.{Learns}
use Rattle.djq_database.specs.Catalog.{Catalog}
use Rattle.djq_database.specs.Changes.{InternsValue}
use Rattle.djq_database.proofs.Interning.{told_text, learned_text, refused_text}
use Rattle.djq_database.proofs.Catalogs.{learned_parts, learned_relations}
use Rattle.djq_database.proofs.catalog.Catalog.intern.Goals as goal

pub returns-in-Err-clause-interns : goal.returns-in-Err-clause-interns
returns-in-Err-clause-interns c =
    subst (λ (k : Catalog). InternsValue k.texts c.args.value.now (Err c.in-Err.refusal)
    c.intern.new.self) c.self.view_is
    (refused_text c.self.inside.texts c.intern.new.self c.args.value.now c.in-Text.text
    c.in-Err.refusal c.in-Text.is
    (λ k. false≢true (c.in-Err.ensures.known (subst (λ (t : Bytes). Contains c.self.inside.texts t)
    (sym c.as_bytes.ensures.bytes) k)))
    (λ e. (c.in-Err.ensures.full.0 (ap (λ (r : InternRefusal). Err r) e)).0) c.in-Err.ensures.err)

learned : (c : goal.In-Ok) → c.intern.new.self ≡ all_learned c.self.inside.texts (texts_of
    c.args.value.now)
learned c = learned_text c.self.inside.texts c.intern.new.self c.args.value.now c.in-Text.text
    c.in-Text.is (subst (λ (t : Bytes). Learns c.self.inside.texts t c.intern.new.self)
    c.as_bytes.ensures.bytes c.in-Ok.ensures.learned)

pub invariant_of-self-in-Text : goal.invariant_of-self-in-Text
invariant_of-self-in-Text c = learned_parts c.self.inside _ (texts_of c.args.value.now)
    c.self.invariant (learned c) refl refl

pub returns-in-Ok-clause-interns : goal.returns-in-Ok-clause-interns
returns-in-Ok-clause-interns c =
    let told = told_text c.intern.new.self c.args.value.now c.in-Text.text c.in-Ok.number
    c.in-Text.is c.intern.ensures.different
    (c.in-Ok.ensures.number ∙ ap (λ (t : Bytes). Some t) c.as_bytes.ensures.bytes) in
    rw (← c.self.view_is) (learned c, told.0, told.1)

pub returns-in-Ok-clause-relations : goal.returns-in-Ok-clause-relations
returns-in-Ok-clause-relations c = rw (← c.self.view_is)
    (learned_relations c.self.inside.texts c.intern.new.self (texts_of c.args.value.now)
    c.self.inside.kept.items c.self.invariant.sound (learned c))
