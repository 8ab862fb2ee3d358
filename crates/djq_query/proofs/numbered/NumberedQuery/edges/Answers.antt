-- By the query's law an atom's numbers are below the limit, and each edge so far is that of its atom.
use Rattle.std.proofs.Common.{◌≡◌, ◌+◌, ◌<◌, ℕ, List, length, arith, sym, subst, ap, ◌∙◌, ◌++◌, ◌∷◌, [], get_or}
use Rattle.std.proofs.Common.{length-append}
use Rattle.std.specs.List.{list_any}
use Rattle.djq_hypergraph.specs.Hypergraph.{member, edge_at}
use Rattle.djq_protocol.specs.declared.limits.TheConstants.{VARIABLES}
use Rattle.djq_query.specs.declared.numbered.NumberedAtom.{NumberedAtom}
use Rattle.djq_query.specs.Numbered.{is_number, terms_at, are_below}
use Rattle.djq_query.proofs.Atoms.{atom_within, edge_pushed, edges_over}
use Rattle.djq_query.proofs.numbered.NumberedQuery.edges.Goals as goal

pub variables_of-requires : goal.variables_of-requires
variables_of-requires c =
    let there = c.atoms-atoms.ensures in
    let below : c.atoms.i < length c.args.self.now.atoms = omega
    (arith, c.atoms-test.true, ap (λ (l : List NumberedAtom). length l) there) in
    let is = c.index-atoms-i.is ∙ ap (λ (l : List NumberedAtom). get_or l c.atoms.i c.index-atoms-i.result) there in
    ap (are_below VARIABLES) (c.as_slice.ensures ∙ ap (λ (a : NumberedAtom). a.terms) (sym c.index-atoms-i.is))
    ∙ atom_within c.args.self.now c.atoms.i c.index-atoms-i.result c.within.ensures below is

pub atoms-preserved : goal.atoms-preserved
atoms-preserved c =
    let there = c.atoms-atoms.ensures in
    let below : c.atoms.i < length c.args.self.now.atoms = omega
    (arith, c.atoms-test.true, ap (λ (l : List NumberedAtom). length l) there) in
    let is = c.index-atoms-i.is ∙ ap (λ (l : List NumberedAtom). get_or l c.atoms.i c.index-atoms-i.result) there in
    let same = c.as_slice.ensures ∙ ap (λ (a : NumberedAtom). a.terms) (sym c.index-atoms-i.is) in
    let put : c.push.new.self ≡ c.atoms.edges ++ c.variables_of.result ∷ [] = c.in_ok-push.ensures.ok in
    record {
      long = ap (λ (es : List (List ℕ)). length es) put ∙ length-append c.atoms.edges (c.variables_of.result ∷ [])
          ∙ ap (λ (n : ℕ). n + 1) c.atoms.invariant.long;
      edges =
          subst (λ (es : List (List ℕ)). (p x : ℕ) → p < c.atoms.i + 1 → member x (edge_at es p)
          ≡ list_any (is_number x) (terms_at c.args.self.now.atoms p)) (sym put)
          (edge_pushed c.args.self.now.atoms c.atoms.edges c.atoms.i c.index-atoms-i.result c.as_slice.result.now
          c.variables_of.result below is same c.atoms.invariant.long c.variables_of.ensures
          c.atoms.invariant.edges);
    }

pub returns-clause-edges : goal.returns-clause-edges
returns-clause-edges c =
    let there = ap (λ (l : List NumberedAtom). length l) c.atoms-atoms.ensures in
    edges_over c.args.self.now.atoms c.atoms.edges c.atoms.i (omega (arith, c.atoms-test.false)) c.atoms.invariant.long
    c.atoms.invariant.edges
