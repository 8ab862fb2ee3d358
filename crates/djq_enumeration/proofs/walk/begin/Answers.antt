-- Once each level has a choice, the answer as written is what the choices make, and none is ahead of it.
use Rattle.std.proofs.Common.{◌∙◌, List, ℕ, [], ◌∷◌, ◌++◌, ap, ap₂, sym}
use Rattle.djq_enumeration.specs.declared.places.Choice.{Choice}
use Rattle.djq_enumeration.specs.Walk.{ahead_of}
use Rattle.djq_enumeration.proofs.NextAnswers.{stands_made}
use Rattle.djq_enumeration.proofs.walk.begin.Goals as goal

pub returns-clause-fits : goal.returns-clause-fits
returns-clause-fits g c =
    let r = c.args.reducts.now in
    let menu = g.C.Choices.menu c.args.choices.now r in (
      sym c.enter.ensures.entered ∙ c.if-not-enter.false,
      c.fill.ensures.stands.follows,
      c.fill.ensures.whole,
      stands_made r menu c.fill.new.places c.fill.new.answer c.laws.ensures.sound
          c.fill.ensures.stands c.fill.ensures.whole,
    )

pub returns-clause-one : goal.returns-clause-one
returns-clause-one g c =
    let r = c.args.reducts.now in
    let menu = g.C.Choices.menu c.args.choices.now r in
    ap₂ (λ (xs : List (List ℕ)) (a : List ℕ). xs ++ a ∷ [])
    (c.fill.ensures.before ∙ ap (λ (cs : List Choice). ahead_of r menu cs) c.requires.none)
    (sym (stands_made r menu c.fill.new.places c.fill.new.answer c.laws.ensures.sound
    c.fill.ensures.stands c.fill.ensures.whole))
