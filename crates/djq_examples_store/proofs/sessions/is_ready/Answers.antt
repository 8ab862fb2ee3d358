-- What is found first from an id on passes the test, and where it is that id a line of its session may be run.
use Rattle.std.proofs.Common.{ℕ, List, ◌∷◌, [], Bool, ◌≡◌, ◌&&◌, true, false, Option, Some, None, sym, ap, ◌∙◌, refl, subst}
use Rattle.std.specs.Prelude.{find, cond, nat_le}
use Rattle.std.proofs.lemmas.Bool.{eqb-true, and_parts}
use Rattle.djq_machine.specs.Call.{may_run, state_ids}
use Rattle.djq_examples_store.proofs.sessions.is_ready.Goals as goal

passes : (p : ℕ → Bool) (ids : List ℕ) (s : ℕ) → find p ids ≡ Some s → p s ≡ true
passes p [] s e = cc
passes p (i ∷ ids) s e = by (passes p ids s) (p i) refl e
  where
    by : (find p ids ≡ Some s → p s ≡ true) → (b : Bool) → p i ≡ b → cond b (Some i) (find p ids) ≡ Some s
        → p s ≡ true
    by others true is found = let same : i ≡ s = cc in ap p (sym same) ∙ is
    by others false is found = others found

pub returns-in-Some : goal.returns-in-Some
returns-in-Some c = λ e.
    let st = (c.args.core.now).state in
    let same : c.in-Some.next ≡ c.args.id = eqb-true _ _ e in
    let first = passes (λ s. nat_le c.from.result s && may_run st s) (state_ids st) c.in-Some.next (sym c.in-Some.ensures) in
    subst (λ (s : ℕ). may_run st s ≡ true) same (and_parts _ _ first).1
