-- A text in use has a number, which is its only one; one that isn't has none.
use Rattle.std.proofs.Common.{◌≢◌, ◌∙◌, ◌+◌, ◌<◌, ap, arith, Option, IsSome, length, refl, subst, sym}
use Rattle.std.proofs.lemmas.Result.{err_from_is_err_and}
use Rattle.djq_arena.specs.declared.link.TheConstants.{SLOTS}
use Rattle.djq_texts.specs.Known.{Known, texts_in_use, with_more}
use Rattle.djq_texts.proofs.InUse.{in_use_within}
use Rattle.djq_texts.proofs.Uses.{few_texts}
use Rattle.djq_texts.proofs.Found.{not_full_used, not_full_unknown, out_of_memory}
use Rattle.djq_texts.proofs.texts.Texts.take_use.Goals as goal

pub returns-then-self-eq-SLOTS-clause-known : goal.returns-then-self-eq-SLOTS-clause-known
returns-then-self-eq-SLOTS-clause-known c = λ n has most. absurd (c.in-None.ensures.found n has)

pub enter-requires-clause-few : goal.enter-requires-clause-few
enter-requires-clause-few c = rw (← c.self.view_is)
    (omega (arith, c.self.invariant.used, (few_texts _ _ _ _ _ c.self.invariant).0, c.if-self-eq-SLOTS.false))

pub returns-in_err-enter-in-None-clause-known : goal.returns-in_err-enter-in-None-clause-known
returns-in_err-enter-in-None-clause-known c = λ n has most. absurd (c.in-None.ensures.found n has)

pub returns-in_err-enter-in-None-clause-full : goal.returns-in_err-enter-in-None-clause-full
returns-in_err-enter-in-None-clause-full c =
    let less : texts_in_use c.args.self.now ≢ SLOTS = rw (← c.self.view_is)
    (λ e. c.if-self-eq-SLOTS.false (c.self.invariant.used ∙ e)) in
    let p = err_from_is_err_and c.from_residual.result c.from_residual.ensures.1 in (
      λ e. absurd (out_of_memory c.from_residual.result p.0 p.1 p.2 e),
      λ full. absurd (not_full_unknown c.args.self.now c.args.text.now c.in-None.ensures.found less full),
    )

pub returns-in_ok-enter-in-None-clause-full : goal.returns-in_ok-enter-in-None-clause-full
returns-in_ok-enter-in-None-clause-full c =
    let less : texts_in_use c.args.self.now ≢ SLOTS = rw (← c.self.view_is)
    (λ e. c.if-self-eq-SLOTS.false (c.self.invariant.used ∙ e)) in
    (λ e. absurd cc, λ full. absurd (not_full_unknown c.args.self.now c.args.text.now c.in-None.ensures.found less full))

pub returns-else-uses-clause-full : goal.returns-else-uses-clause-full
returns-else-uses-clause-full c = (
  λ e. absurd cc,
  λ full. absurd (not_full_used c.args.self.now c.in-Some.number c.args.text.now c.find_hashed.ensures.one
      c.in-Some.ensures.found (λ e. c.if-uses.false (c.uses.ensures.uses ∙ e)) full),
)

pub returns-else-uses-clause-number : goal.returns-else-uses-clause-number
returns-else-uses-clause-number c = (
  c.in-Some.ensures.found.0 + 1,
  c.add_use.ensures.here ∙ ap (λ (e : Option Known). with_more e) c.in-Some.ensures.found.1,
)

pub returns-in_ok-enter-in-None-clause-number : goal.returns-in_ok-enter-in-None-clause-number
returns-in_ok-enter-in-None-clause-number c = (1, c.in_ok-enter-in-None.ensures.ok.sets.here)

pub returns-else-uses-clause-place : goal.returns-else-uses-clause-place
returns-else-uses-clause-place c =
    let has = c.in-Some.ensures.found in
    let within : c.in-Some.number < length c.args.self.now = in_use_within c.args.self.now c.in-Some.number
    (subst (λ (o : Option Known). IsSome o) (sym has.1) refl) in
    (omega (arith, within), λ free. within)
