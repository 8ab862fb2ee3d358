-- The first value that was given for `Q` is the query, which is asked of exactly where it is a name.
use Rattle.std.proofs.Common.{ℕ, List, Bor, Option, ◌≡◌, ◌∙◌, sym, ap, subst, option_map, codes, refl}
use Rattle.std.specs.Prelude.{Some, Bool, true, false}
use Rattle.clap.specs.Words.{Text, found_of, rows_of}
use Rattle.clap.proofs.WalkLemmas.{first_value-rows}
use Rattle.djq_value.specs.Literal.{is_name}
use Rattle.djq_cli.specs.declared.commands.Asked.{Asked}
use Rattle.djq_cli.specs.Asks.{MirrorAsked}
use Rattle.djq_cli.proofs.Arguments.{mirror_asks_none}
use Rattle.djq_cli.proofs.commands.mirror_asked.Goals as goal

pub returns-in_err-query : goal.returns-in_err-query
returns-in_err-query c =
    let f = found_of c.args.given.now in
    let none = sym (first_value-rows f (codes "Q")) ∙ sym c.get_str.ensures
    ∙ ap (λ (o : Option (Bor (List ℕ))). option_map (λ s. s.now) o) c.in_err-query.was in
    subst (λ (o : Option Asked). MirrorAsked (rows_of f) o) (sym c.from_residual.ensures)
    (mirror_asks_none (rows_of f) (λ query given is. none_some (sym none ∙ given)))
  where
    none_some : {x : Text} → Option.None ≡ Some x → ⊥
    none_some e = cc

pub returns-then-is_name : goal.returns-then-is_name
returns-then-is_name c =
    let f = found_of c.args.given.now in
    let given = sym (first_value-rows f (codes "Q")) ∙ sym c.get_str.ensures
    ∙ ap (λ (o : Option (Bor (List ℕ))). option_map (λ s. s.now) o) c.in_ok-query.was in (
      refl,
      given,
      subst (λ (t : Text). is_name t ≡ true) c.as_bytes.ensures.value
          (sym c.is_name.ensures ∙ c.if-is_name.true),
    )

pub returns-else-is_name : goal.returns-else-is_name
returns-else-is_name c =
    let f = found_of c.args.given.now in
    let given = sym (first_value-rows f (codes "Q")) ∙ sym c.get_str.ensures
    ∙ ap (λ (o : Option (Bor (List ℕ))). option_map (λ s. s.now) o) c.in_ok-query.was in
    mirror_asks_none (rows_of f) (λ query is name. not_both (sym c.is_name.ensures ∙ c.if-is_name.false)
    (subst (λ (t : Text). is_name t ≡ true) (some_is (sym is ∙ given) ∙ sym c.as_bytes.ensures.value) name))
  where
    some_is : {x y : Text} → Some x ≡ Some y → x ≡ y
    some_is e = cc

    not_both : {b : Bool} → b ≡ false → b ≡ true → ⊥
    not_both e h = cc
