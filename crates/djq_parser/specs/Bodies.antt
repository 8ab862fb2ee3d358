-- The result of reading an item of a body, after others.
use Rattle.std.specs.Prelude.{ℕ, ◌≡◌, List, [], ◌∷◌, ◌++◌, Bool, true, false, Option, None, Some, option_map}
use Rattle.djq_model.specs.Data.{Bytes}
use Rattle.djq_model.specs.declared.value.Value.{Value}
use Rattle.djq_model.specs.declared.query.Term.{Term}
use Rattle.djq_model.specs.declared.query.Operator.{Operator}
use Rattle.djq_value.specs.Token.{Token}
use Rattle.djq_value.specs.Literal.{literal_of}
use Rattle.djq_protocol.specs.Grammar.{Body, Item, atom, comparison, compared}
use Rattle.djq_parser.specs.declared.body.Parts.{Parts}
use Rattle.djq_parser.specs.Reading.{ReadsAs, is_small_body}

-- a constant, and what follows it
abbrev pub constant_in : List Token → Option (Value × List Token)
constant_in [] = None
constant_in (t ∷ ts) = option_map (λ v. (v, ts)) (literal_of t)

-- the atom over a relation with these terms
abbrev pub atom_of : Bytes → List Term → Item
atom_of relation terms = atom (record { relation = relation; terms = terms })

-- the comparison of a variable with a constant, after so many atoms
abbrev pub comparison_behind : ℕ → Bytes → Operator → Value → Item
comparison_behind n x o v = comparison (compared n x o v)

-- a body and an item more at its end
abbrev pub with_item : Body → Item → Body
with_item b (atom a) = (b.0 ++ a ∷ [], b.1)
with_item b (comparison c) = (b.0, b.1 ++ c ∷ [])

-- whether a body has an atom
abbrev pub has_atom_in : Body → Bool
has_atom_in ([], comparisons) = false
has_atom_in (a ∷ atoms, comparisons) = true

-- These are the parts of a body that was read.
abbrev pub BodyIsRead : Body → Parts → Type 0
BodyIsRead b p = ReadsAs is_small_body (Some b) p.read × (p.has_atom ≡ has_atom_in b)

-- The parts of a body and of an item more; none if there is no item.
abbrev pub HasOneMore : Body → Option Item → Option Parts → Type 0
HasOneMore b None r = r ≡ None
HasOneMore b (Some i) None = ⊥
HasOneMore b (Some i) (Some p) = BodyIsRead (with_item b i) p

-- The same of an item in front of other tokens: these are left.
abbrev pub ReadsOn : Body → Option (Item × List Token) → Option Parts → List Token → Type 0
ReadsOn b None r left = r ≡ None
ReadsOn b (Some p) r left = HasOneMore b (Some p.0) r × (left ≡ p.1)
