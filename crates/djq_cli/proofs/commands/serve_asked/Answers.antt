-- The first values that were given are those asked for, and without a number of turns it is the most.
use Rattle.std.proofs.Common.{ℕ, List, Bor, Option, ◌≡◌, ◌∙◌, None, sym, ap, subst, option_map, codes, refl}
use Rattle.clap.specs.Words.{Text, first_of, found_of, rows_of}
use Rattle.clap.proofs.WalkLemmas.{first_value-rows}
use Rattle.djq_cli.specs.declared.commands.Asked.{Asked}
use Rattle.djq_cli.specs.Asks.{ServeAsked, TurnsAre, log_path_of}
use Rattle.djq_cli.proofs.Arguments.{no_addr, turns_spelled, turns_unspelled}
use Rattle.djq_cli.proofs.commands.serve_asked.Goals as goal

pub returns-in_err-addr : goal.returns-in_err-addr
returns-in_err-addr c =
    let f = found_of c.args.given.now in
    subst (λ (o : Option Asked). ServeAsked (rows_of f) o) (sym c.from_residual.ensures)
    (no_addr (rows_of f) (sym (first_value-rows f (codes "ADDR")) ∙ sym c.get_str.ensures
    ∙ ap (λ (o : Option (Bor (List ℕ))). option_map (λ s. s.now) o) c.in_err-addr.was))

pub returns-in_default : goal.returns-in_default
returns-in_default c =
    let f = found_of c.args.given.now in
    let given = sym (first_value-rows f (codes "ADDR")) ∙ sym c.get_str.ensures
    ∙ ap (λ (o : Option (Bor (List ℕ))). option_map (λ s. s.now) o) c.in_ok-addr.was in
    let none : first_of (codes "turns") (rows_of f) ≡ None = sym (first_value-rows f (codes "turns"))
    ∙ sym c.get_str-2.ensures ∙ ap (λ (o : Option (Bor (List ℕ))). option_map (λ s. s.now) o) c.in_default.is in
    let log : first_of (codes "log") (rows_of f)
    ≡ log_path_of c.get_str-log.result = sym (first_value-rows f (codes "log"))
    ∙ sym c.get_str-log.ensures in
    (refl, given, subst (λ (o : Option Text). TurnsAre o 9223372036854775807) (sym none) refl, log)

pub returns-in-Some-number_in : goal.returns-in-Some-number_in
returns-in-Some-number_in c =
    let f = found_of c.args.given.now in
    let given = sym (first_value-rows f (codes "ADDR")) ∙ sym c.get_str.ensures
    ∙ ap (λ (o : Option (Bor (List ℕ))). option_map (λ s. s.now) o) c.in_ok-addr.was in
    let spelled = sym (first_value-rows f (codes "turns")) ∙ sym c.get_str-2.ensures
    ∙ ap (λ (o : Option (Bor (List ℕ))). option_map (λ s. s.now) o) c.in-Some.is in
    let text = c.in-Some.text.now in
    let turns = turns_spelled text _ (first_of (codes "turns") (rows_of f)) spelled c.in-Some-number_in.ensures in
    let log : first_of (codes "log") (rows_of f)
    ≡ log_path_of c.get_str-log.result = sym (first_value-rows f (codes "log"))
    ∙ sym c.get_str-log.ensures in
    (refl, given, turns, log)

pub returns-in-None : goal.returns-in-None
returns-in-None c =
    let f = found_of c.args.given.now in
    let spelled = sym (first_value-rows f (codes "turns")) ∙ sym c.get_str-2.ensures
    ∙ ap (λ (o : Option (Bor (List ℕ))). option_map (λ s. s.now) o) c.in-Some.is in
    turns_unspelled (rows_of f) c.in-Some.text.now spelled c.in-None.ensures
