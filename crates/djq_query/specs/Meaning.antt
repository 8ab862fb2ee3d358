-- The meaning of a query's numbers, stated without the way in which they are given out.
use Rattle.std.specs.Prelude.{ℕ, ◌+◌, ◌≤◌, List, [], ◌∷◌, ◌++◌, ◌≡◌, None, Some, map, slice_get}
use Rattle.djq_model.specs.declared.relation.Relation.{Relation}
use Rattle.djq_model.specs.declared.query.Query.{Query}
use Rattle.djq_model.specs.declared.query.Atom.{Atom}
use Rattle.djq_model.specs.declared.query.Comparison.{Comparison}
use Rattle.djq_model.specs.declared.query.Term.{Term}
use Rattle.djq_model.specs.declared.query.Term.TheVariants.{Variable as Named, Hole, Constant}
use Rattle.djq_model.specs.Data.{Bytes, relation_of}
use Rattle.djq_protocol.specs.QueryFault.{query_fault}
use Rattle.djq_protocol.specs.Variables.{Label, variables_of}
use Rattle.djq_query.specs.declared.numbered.NumberedTerm.{NumberedTerm}
use Rattle.djq_query.specs.declared.numbered.NumberedTerm.TheVariants.{Variable as Number, Constant as Fixed}
use Rattle.djq_query.specs.declared.numbered.NumberedAtom.{NumberedAtom}
use Rattle.djq_query.specs.declared.numbered.NumberedComparison.{NumberedComparison}
use Rattle.djq_query.specs.Numbered.{Numbered, IsNumbered, labels, number_of}

-- A term and its term by number: a name's number has that name, a hole's has none, and a constant is
-- itself.
abbrev pub TermIsShown : List Label → Term → NumberedTerm → Type 0
TermIsShown ls (Named x) (Number k) = slice_get ls k ≡ Some (Some x)
TermIsShown ls Hole (Number k) = slice_get ls k ≡ Some None
TermIsShown ls (Constant v) (Fixed w) = w ≡ v
TermIsShown ls (Named x) (Fixed w) = ⊥
TermIsShown ls Hole (Fixed w) = ⊥
TermIsShown ls (Constant v) (Number k) = ⊥

-- the same of terms, one by one
abbrev pub TermsAreShown : List Label → List Term → List NumberedTerm → Type 0
TermsAreShown ls [] [] = Unit {0}
TermsAreShown ls (t ∷ ts) (n ∷ ns) = TermIsShown ls t n × TermsAreShown ls ts ns
TermsAreShown ls [] (n ∷ ns) = ⊥
TermsAreShown ls (t ∷ ts) [] = ⊥

-- the same of atoms, over the same relations
abbrev pub AreAtomsShown : List Relation → List Label → List Atom → List NumberedAtom → Type 0
AreAtomsShown rs ls [] [] = Unit {0}
AreAtomsShown rs ls (a ∷ atoms) (n ∷ ns) =
    (slice_get rs n.relation ≡ relation_of rs a.relation) × TermsAreShown ls a.terms n.terms
    × AreAtomsShown rs ls atoms ns
AreAtomsShown rs ls [] (n ∷ ns) = ⊥
AreAtomsShown rs ls (a ∷ atoms) [] = ⊥

-- A comparison and its comparison by number: its number has the variable's name, and the operator
-- and the constant are the same.
pub record IsComparisonShown (ls : List Label) (c : Comparison) (n : NumberedComparison) : Type 0
  where
    pub variable : slice_get ls n.variable ≡ Some (Some c.variable)
    pub operator : n.operator ≡ c.operator
    pub constant : n.constant ≡ c.constant

-- the same of comparisons, one by one
abbrev pub AreComparisonsShown : List Label → List Comparison → List NumberedComparison → Type 0
AreComparisonsShown ls [] [] = Unit {0}
AreComparisonsShown ls (c ∷ cs) (n ∷ ns) = IsComparisonShown ls c n × AreComparisonsShown ls cs ns
AreComparisonsShown ls [] (n ∷ ns) = ⊥
AreComparisonsShown ls (c ∷ cs) [] = ⊥

-- the numbers of the holes among terms, and in a body
abbrev pub hole_of : Term → NumberedTerm → List ℕ
hole_of Hole (Number k) = k ∷ []
hole_of _ _ = []

-- the numbers of the holes among terms
unfoldable pub holes_among : List Term → List NumberedTerm → List ℕ
holes_among [] ns = []
holes_among (t ∷ ts) [] = []
holes_among (t ∷ ts) (n ∷ ns) = hole_of t n ++ holes_among ts ns

-- the numbers of the holes in a body
unfoldable pub holes_in : List Atom → List NumberedAtom → List ℕ
holes_in [] ns = []
holes_in (a ∷ atoms) [] = []
holes_in (a ∷ atoms) (n ∷ ns) = holes_among a.terms n.terms ++ holes_in atoms ns

-- numbers from this one on, each above the one before, so that no two are the same
unfoldable pub Rise : ℕ → List ℕ → Type 0
Rise from [] = Unit {0}
Rise from (k ∷ ks) = (from ≤ k) × Rise (k + 1) ks

-- The numbers represent the query: its variables are those of its body in the order in which they
-- first occur; term by term, each name has one number, each hole has one of its own, each comparison
-- is of the number of its variable, and the head's numbers have the head's names.
pub record QueryIsShown (rs : List Relation) (q : Query) (n : Numbered) : Type 0 where
  pub variables : labels n.variables ≡ variables_of q.atoms
  pub body : AreAtomsShown rs (labels n.variables) q.atoms n.atoms
  pub comparisons : AreComparisonsShown (labels n.variables) q.comparisons n.comparisons
  pub one : (k : ℕ) (x : Bytes) → slice_get (labels n.variables) k ≡ Some (Some x) → number_of (labels n.variables) x
      ≡ k
  pub fresh : Rise 0 (holes_in q.atoms n.atoms)
  pub head : map (slice_get (labels n.variables)) n.head ≡ map (λ x. Some (Some x)) q.head

-- The numbers of a query without a fault represent it.
abbrev pub NumbersAreShown : Type 0
NumbersAreShown = (rs : List Relation) (q : Query) (n : Numbered) → query_fault rs q ≡ None → IsNumbered rs q n
    → QueryIsShown rs q n
