-- A query that is asked of a catalog, and the query over numbers that represents it.
use Rattle.std.specs.Prelude.{
  ◌≡◌,
  ⊤,
  ℕ,
  ◌<◌,
  Bool,
  true,
  false,
  List,
  [],
  ◌∷◌,
  length,
  map,
  Option,
  None,
  Some,
  slice_get,
}
use Rattle.std.specs.List.{list_any}
use Rattle.djq_model.specs.declared.relation.ColumnType.{ColumnType}
use Rattle.djq_model.specs.declared.relation.ColumnType.TheVariants.{Int as IntColumn}
use Rattle.djq_model.specs.declared.query.Query.{Query}
use Rattle.djq_model.specs.declared.query.Atom.{Atom}
use Rattle.djq_model.specs.declared.query.Comparison.{Comparison}
use Rattle.djq_model.specs.Data.{Bytes, Tuple}
use Rattle.djq_model.specs.Typed.{is_of}
use Rattle.djq_protocol.specs.QueryFault.{query_fault, has_order, repeats_head}
use Rattle.djq_protocol.specs.Variables.{variables_of}
use Rattle.djq_query.specs.declared.numbered.Variable.{Variable}
use Rattle.djq_query.specs.declared.numbered.NumberedTerm.{NumberedTerm}
use Rattle.djq_query.specs.declared.numbered.NumberedTerm.TheVariants.{
  Variable as Number,
  Constant as Fixed,
}
use Rattle.djq_query.specs.declared.numbered.NumberedAtom.{NumberedAtom}
use Rattle.djq_query.specs.declared.numbered.NumberedComparison.{NumberedComparison}
use Rattle.djq_query.specs.Numbered.{Numbered, IsNumbered, is_number, labels, number_of}
use Rattle.djq_query.specs.Meaning.{TermsAreShown, IsComparisonShown, Rise, holes_in}
use Rattle.djq_database.specs.Cells.{HasCell, HaveCells}
use Rattle.djq_database.specs.Catalog.{Catalog, IsCatalog, relation_at}

-- the type of the columns of a variable
abbrev pub column_in : Option Variable → ColumnType
column_in None = IntColumn
column_in (Some v) = v.column

-- the type of the columns of the variable of a number
abbrev pub column_of : List Variable → ℕ → ColumnType
column_of variables x = column_in (slice_get variables x)

-- A term suits a column of this type if it is of this type; and a constant has a cell.
abbrev pub TermSuits : List Bytes → List Variable → NumberedTerm → ColumnType → Type 0
TermSuits texts variables (Number x) c = column_of variables x ≡ c
TermSuits texts variables (Fixed v) c = (is_of c v ≡ true) × HasCell texts v

-- terms suit columns, one by one
abbrev pub TermsSuit : List Bytes → List Variable → List NumberedTerm → List ColumnType → Type 0
TermsSuit texts variables [] [] = ⊤
TermsSuit texts variables (t ∷ ts) (c ∷ cs) =
    TermSuits texts variables t c × TermsSuit texts variables ts cs
TermsSuit texts variables [] (c ∷ cs) = ⊥
TermsSuit texts variables (t ∷ ts) [] = ⊥

-- an atom by number represents an atom: it is over the same relation, with the same terms, which
-- suit the relation's columns
pub record IsAtomOf (c : Catalog) (variables : List Variable) (a : Atom) (m : NumberedAtom) :
    Type 0 where
  pub below : m.relation < length c.relations
  pub named : (relation_at c.relations m.relation).name ≡ a.relation
  pub shown : TermsAreShown (labels variables) a.terms m.terms
  pub suited : TermsSuit c.texts variables m.terms (relation_at c.relations m.relation).types

-- atoms by number represent atoms, one by one
abbrev pub AreAtomsOf : Catalog → List Variable → List Atom → List NumberedAtom → Type 0
AreAtomsOf c variables [] [] = ⊤
AreAtomsOf c variables (a ∷ atoms) (m ∷ ms) =
    IsAtomOf c variables a m × AreAtomsOf c variables atoms ms
AreAtomsOf c variables [] (m ∷ ms) = ⊥
AreAtomsOf c variables (a ∷ atoms) [] = ⊥

-- whether a variable, by its number, occurs in one of these atoms
abbrev pub is_in : List NumberedAtom → ℕ → Bool
is_in ms x = list_any (λ m. list_any (is_number x) m.terms) ms

-- a comparison by number represents a comparison: its variable has the name and occurs in an atom,
-- operator and constant are the same and suit the variable's type, and the constant has a cell
pub record IsComparisonOf (texts : List Bytes) (variables : List Variable) (ms : List NumberedAtom)
    (k : Comparison) (n : NumberedComparison) : Type 0 where
  pub shown : IsComparisonShown (labels variables) k n
  pub stands : is_in ms n.variable ≡ true
  pub of : is_of (column_of variables n.variable) n.constant ≡ true
  pub ordered : has_order n.operator (column_of variables n.variable) ≡ true
  pub has : HasCell texts n.constant

-- comparisons by number represent comparisons, one by one
abbrev pub AreComparisonsOf : List Bytes → List Variable → List NumberedAtom → List Comparison
    → List NumberedComparison → Type 0
AreComparisonsOf texts variables ms [] [] = ⊤
AreComparisonsOf texts variables ms (k ∷ ks) (n ∷ ns) =
    IsComparisonOf texts variables ms k n × AreComparisonsOf texts variables ms ks ns
AreComparisonsOf texts variables ms [] (n ∷ ns) = ⊥
AreComparisonsOf texts variables ms (k ∷ ks) [] = ⊥

-- A query over numbers represents a query over a catalog: its variables are those of its body in
-- the order in which they first occur; atom by atom, each name has one number, each hole has one of
-- its own, comparison by comparison it is of the number of its variable, and the head's numbers
-- have the head's names, of which none occurs there twice.
pub record IsAsked (c : Catalog) (q : Query) (n : Numbered) : Type 0 where
  pub catalog : IsCatalog c
  pub variables : labels n.variables ≡ variables_of q.atoms
  pub atoms : AreAtomsOf c n.variables q.atoms n.atoms
  pub comparisons : AreComparisonsOf c.texts n.variables n.atoms q.comparisons n.comparisons
  pub one : (x : ℕ) (name : Bytes) → slice_get (labels n.variables) x ≡ Some (Some name)
      → number_of (labels n.variables) name ≡ x
  pub fresh : Rise 0 (holes_in q.atoms n.atoms)
  pub head : map (slice_get (labels n.variables)) n.head ≡ map (λ x. Some (Some x)) q.head
  pub once : repeats_head q ≡ false

-- constants have cells
abbrev pub HasConstant : List Bytes → NumberedTerm → Type 0
HasConstant texts (Number x) = ⊤
HasConstant texts (Fixed v) = HasCell texts v

-- the constants among terms have cells
abbrev pub HaveConstants : List Bytes → List NumberedTerm → Type 0
HaveConstants texts [] = ⊤
HaveConstants texts (t ∷ ts) = HasConstant texts t × HaveConstants texts ts

-- the constants of comparisons
abbrev pub constants_in : List NumberedComparison → Tuple
constants_in ns = map (λ n. n.constant) ns

-- A query without a fault is asked by its numbers once its constants have cells.
abbrev pub NumberedIsAsked : Type 0
NumberedIsAsked = (c : Catalog) (q : Query) (n : Numbered) → IsCatalog c
    → query_fault c.relations q ≡ None → IsNumbered c.relations q n
    → ((j : ℕ) (m : NumberedAtom) → slice_get n.atoms j ≡ Some m → HaveConstants c.texts m.terms)
    → HaveCells c.texts (constants_in n.comparisons) → IsAsked c q n
