-- The first value that was given is the text, and it is read where it spells a number of 32 bits.
use Rattle.std.proofs.Common.{ℕ, List, Bor, Option, ◌≡◌, ◌∙◌, sym, ap, subst, option_map, arith}
use Rattle.clap.specs.Words.{first_of, found_of, rows_of}
use Rattle.clap.proofs.WalkLemmas.{first_value-rows}
use Rattle.djq_cli.specs.Asks.{SpellsNumber}
use Rattle.djq_cli.proofs.Arguments.{none_read, number_read, number_large, number_unread}
use Rattle.djq_cli.proofs.commands.number_given.Goals as goal

pub returns-in_default : goal.returns-in_default
returns-in_default c =
    let f = found_of c.args.given.now in
    none_read (first_of c.args.name.now (rows_of f))
    (sym (first_value-rows f c.args.name.now) ∙ sym c.get_str.ensures
    ∙ ap (λ (o : Option (Bor (List ℕ))). option_map (λ s. s.now) o) c.in_default.is)

pub returns-in_default-number_in : goal.returns-in_default-number_in
returns-in_default-number_in c =
    let f = found_of c.args.given.now in
    let given = sym (first_value-rows f c.args.name.now) ∙ sym c.get_str.ensures
    ∙ ap (λ (o : Option (Bor (List ℕ))). option_map (λ s. s.now) o) c.in-Some.is in
    number_unread c.in-Some.text.now (first_of c.args.name.now (rows_of f)) given c.in_default-number_in.ensures

pub returns-in-Ok : goal.returns-in-Ok
returns-in-Ok c =
    let f = found_of c.args.given.now in
    let given = sym (first_value-rows f c.args.name.now) ∙ sym c.get_str.ensures
    ∙ ap (λ (o : Option (Bor (List ℕ))). option_map (λ s. s.now) o) c.in-Some.is in
    let same : c.in-Ok.number ≡ c.in-Some-number_in.number = c.in-Ok.ensures.1 in
    let spelled = subst (λ (n : ℕ). SpellsNumber 64 c.in-Some.text.now n) (sym same) c.in-Some-number_in.ensures in
    number_read c.in-Some.text.now c.in-Ok.number (first_of c.args.name.now (rows_of f)) given spelled
    (omega (arith, same, c.in-Ok.ensures.0))

pub returns-in-Err : goal.returns-in-Err
returns-in-Err c =
    let f = found_of c.args.given.now in
    let given = sym (first_value-rows f c.args.name.now) ∙ sym c.get_str.ensures
    ∙ ap (λ (o : Option (Bor (List ℕ))). option_map (λ s. s.now) o) c.in-Some.is in
    number_large c.in-Some.text.now c.in-Some-number_in.number
    (first_of c.args.name.now (rows_of f)) given c.in-Some-number_in.ensures c.in-Err.ensures
