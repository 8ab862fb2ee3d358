-- A name that is found is known and adds no variable; one that isn't comes behind all that are known.
use Rattle.std.proofs.Common.{◌≡◌, sym, ap, ◌∙◌}
use Rattle.std.specs.Prelude.{position, Some, None}
use Rattle.djq_protocol.specs.Variables.{is_named}
use Rattle.djq_query.specs.declared.numbered.Variable.{Variable}
use Rattle.djq_query.proofs.Numbers.{known_found, known_missed, with_known, with_unknown}
use Rattle.djq_query.proofs.numbering.number_name.Goals as goal

pub returns-in-Some-clause-number : goal.returns-in-Some-clause-number
returns-in-Some-clause-number c =
    let at : position (λ (v : Variable). is_named c.args.name.now v.name) c.args.known.now
    ≡ Some c.in-Some.number = ap (position (λ (v : Variable). is_named c.args.name.now v.name))
    (sym c.as_slice.ensures) ∙ sym c.place_of.ensures ∙ c.in-Some.is in
    sym (known_found c.args.known.now c.args.name.now c.in-Some.number at).1

pub returns-in-Some-clause-known : goal.returns-in-Some-clause-known
returns-in-Some-clause-known c =
    let at : position (λ (v : Variable). is_named c.args.name.now v.name) c.args.known.now
    ≡ Some c.in-Some.number = ap (position (λ (v : Variable). is_named c.args.name.now v.name))
    (sym c.as_slice.ensures) ∙ sym c.place_of.ensures ∙ c.in-Some.is in
    sym (with_known c.args.known.now c.args.name.now c.args.column
    (known_found c.args.known.now c.args.name.now c.in-Some.number at).0)

pub returns-in_ok-push-in-None-clause-number : goal.returns-in_ok-push-in-None-clause-number
returns-in_ok-push-in-None-clause-number c =
    let at : position (λ (v : Variable). is_named c.args.name.now v.name) c.args.known.now
    ≡ None = ap (position (λ (v : Variable). is_named c.args.name.now v.name)) (sym c.as_slice.ensures)
    ∙ sym c.place_of.ensures ∙ c.in-None.is in
    c.len-number.ensures ∙ sym (known_missed c.args.known.now c.args.name.now at).1

pub returns-in_ok-push-in-None-clause-known : goal.returns-in_ok-push-in-None-clause-known
returns-in_ok-push-in-None-clause-known c =
    let at : position (λ (v : Variable). is_named c.args.name.now v.name) c.args.known.now
    ≡ None = ap (position (λ (v : Variable). is_named c.args.name.now v.name)) (sym c.as_slice.ensures)
    ∙ sym c.place_of.ensures ∙ c.in-None.is in
    c.in_ok-push-in-None.ensures.ok
    ∙ sym (with_unknown c.args.known.now c.args.name.now c.args.column
    (known_missed c.args.known.now c.args.name.now at).0)
