-- A query without a fault has few variables, and each number in it is that of one of them, as Within shows.
use Rattle.std.proofs.Common.{◌≡◌, List, [], subst, ap, ap₂, ◌∙◌}
use Rattle.std.specs.Prelude.{map}
use Rattle.std.specs.List.{fold}
use Rattle.djq_model.specs.declared.query.Atom.{Atom}
use Rattle.djq_model.specs.declared.query.Comparison.{Comparison}
use Rattle.djq_model.specs.Data.{Bytes}
use Rattle.djq_protocol.specs.Variables.{Label}
use Rattle.djq_query.specs.declared.numbered.Variable.{Variable}
use Rattle.djq_query.specs.Numbered.{labels, number_of, numbered_comparison, with_columns, AreNumbered}
use Rattle.djq_query.proofs.NumberedQueries.{within_of}
use Rattle.djq_query.proofs.numbering.number_sound.Goals as goal

pub new-requires : goal.new-requires
new-requires g c =
    let rs = g.R.Relations.relations c.args.relations.now in
    let q = c.args.query.now in
    let start : labels c.new-variables.result ≡ [] = ap labels c.new-variables.ensures in
    let numbered : AreNumbered rs [] q.atoms c.in_ok-atoms.atoms =
    subst (λ (atoms : List Atom). AreNumbered rs [] atoms c.in_ok-atoms.atoms) c.as_slice.ensures
    (subst (λ (ls : List Label). AreNumbered rs ls c.as_slice.result.now c.in_ok-atoms.atoms) start
    c.in_ok-atoms.ensures.atoms) in
    let variables : c.number_body.new.known ≡ fold (with_columns rs) [] q.atoms =
    c.in_ok-atoms.ensures.known
    ∙ ap₂ (λ (vs : List Variable) (atoms : List Atom). fold (with_columns rs) vs atoms) c.new-variables.ensures
    c.as_slice.ensures in
    let heads : c.in_ok-head.head ≡ map (number_of (labels c.number_body.new.known)) q.head =
    c.in_ok-head.ensures ∙ ap₂ (λ (vs : List Variable) (xs : List Bytes). map (number_of (labels vs)) xs)
    c.as_slice-known.ensures c.as_slice-3.ensures in
    let tests : c.in_ok-comparisons.comparisons
    ≡ map (numbered_comparison (labels c.number_body.new.known)) q.comparisons =
    c.in_ok-comparisons.ensures
    ∙ ap₂ (λ (vs : List Variable) (cs : List Comparison). map (numbered_comparison (labels vs)) cs)
    c.as_slice-known.ensures c.as_slice-2.ensures in
    within_of rs q c.in_ok-atoms.atoms c.in_ok-comparisons.comparisons c.number_body.new.known c.in_ok-head.head
    c.requires numbered tests variables heads
