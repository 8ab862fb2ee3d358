-- A name and a head that isn't outside the grammar are there, so the query is refused as its body or head is.
use Rattle.std.proofs.Common.{sym, subst, ◌∙◌, List, true, Some, Result, Err}
use Rattle.std.specs.List.{list_all}
use Rattle.djq_model.specs.Data.{Bytes}
use Rattle.djq_model.specs.declared.query.Query.{Query}
use Rattle.djq_protocol.specs.Grammar.{body_in, list_in, name_of, query_of_tokens}
use Rattle.djq_parser.specs.Reading.{ReadsAs, is_small_query}
use Rattle.djq_parser.specs.declared.refusal.LineRefusal.{LineRefusal}
use Rattle.djq_parser.proofs.ItemLists.{err_is}
use Rattle.djq_parser.proofs.Bodies.{body_refused, head_refused, part_some, query_split}
use Rattle.djq_parser.proofs.query.read_query.Goals as goal

pub returns-in_err-atoms : goal.returns-in_err-atoms
returns-in_err-atoms c =
    let old = c.args.lexer.now in
    let mid = c.next_name.new.lexer in
    let rest = c.read_list-head.new.lexer in
    let e = c.in_err-atoms.field-0.0 in
    let refused : Result Query LineRefusal = Err e in
    let found = part_some (list_all (λ _. true)) (list_in name_of mid) c.read_list-head.result rest
    c.read_list-head.ensures (sym c.is_outside.ensures ∙ c.if-is_outside.false) in
    subst (λ r. ReadsAs is_small_query (query_of_tokens old) r)
    (sym (err_is c.from_residual.result e c.from_residual.ensures.1))
    (subst (λ o. ReadsAs is_small_query o refused)
    (sym (query_split old mid rest c.in-Some.name found.0 c.in-Some.ensures.0 c.in-Some.ensures.1 found.1))
    (body_refused c.in-Some.name found.0 (body_in rest) e c.in_err-atoms.ensures))

pub returns-in_err-head : goal.returns-in_err-head
returns-in_err-head c =
    let old = c.args.lexer.now in
    let mid = c.next_name.new.lexer in
    let rest = c.read_list-head.new.lexer in
    let e = c.in_err-head.field-0.0 in
    let refused : Result Query LineRefusal = Err e in
    let found = part_some (list_all (λ _. true)) (list_in name_of mid) c.read_list-head.result rest
    c.read_list-head.ensures (sym c.is_outside.ensures ∙ c.if-is_outside.false) in
    subst (λ r. ReadsAs is_small_query (query_of_tokens old) r)
    (sym (err_is c.from_residual-in_err-head.result e c.from_residual-in_err-head.ensures.1))
    (subst (λ o. ReadsAs is_small_query o refused)
    (sym (query_split old mid rest c.in-Some.name found.0 c.in-Some.ensures.0 c.in-Some.ensures.1 found.1))
    (head_refused c.in-Some.name found.0 (body_in rest) (c.in_ok-atoms.atoms, c.in_ok-atoms.comparisons) e
    (subst (λ (r : Result (List Bytes) LineRefusal). ReadsAs (list_all (λ _. true)) (Some found.0) r) c.in_err-head.was
    found.2) c.in_ok-atoms.ensures))
