-- The edge at an atom's place has the variables of its terms, by the contract of the query's edges.
use Rattle.std.proofs.Common.{◌<◌, List, [], length, refl, sym, arith, ap, ◌∙◌, get_or}
use Rattle.std.specs.Prelude.{Option}
use Rattle.std.specs.List.{list_any}
use Rattle.std.proofs.lemmas.Option.{slice_get_read, get_or_from_slice_get}
use Rattle.djq_hypergraph.specs.Hypergraph.{member}
use Rattle.djq_query.specs.declared.numbered.NumberedAtom.{NumberedAtom}
use Rattle.djq_query.specs.Numbered.{is_number, terms_in}
use Rattle.djq_examples_tables.proofs.query.pattern_at.Goals as goal

pub bind-requires-clause-label : goal.bind-requires-clause-label
bind-requires-clause-label c = λ x.
    let all = c.args.query.now.atoms in
    let there = c.atoms-atoms.ensures in
    let under = c.if-at-atoms.false in
    let below : c.args.at < length all = omega
    (arith, ap (λ (l : List NumberedAtom). length l) there) in
    let is = c.index-atoms-at.is ∙ ap (λ (l : List NumberedAtom). get_or l c.args.at c.index-atoms-at.result) there in
    sym (ap (member x)
    (get_or_from_slice_get c.in_ok-edges.edges c.args.at c.get-label.result [] c.get-label.ensures))
    ∙ c.in_ok-edges.ensures.edges c.args.at x
    ∙ ap (λ (o : Option NumberedAtom). list_any (is_number x) (terms_in o))
    (slice_get_read all (length all) c.args.at c.index-atoms-at.result refl below is)
