-- The faults of a query, over relations that keep their types.
use Rattle.std.proofs.Common.{List, [], ◌∷◌, ◌≡◌, ◌||◌, Bool, false, length, refl, sym, ap, ap₂, ◌∙◌}
use Rattle.std.specs.Prelude.{◌==◌, not, Option, None, is_none, All}
use Rattle.std.specs.List.{list_any}
use Rattle.std.proofs.lemmas.List.Elements.{All-head, All-tail, All-weaker}
use Rattle.djq_model.specs.declared.relation.ColumnType.{ColumnType}
use Rattle.djq_model.specs.declared.relation.Relation.{Relation}
use Rattle.djq_model.specs.declared.query.Atom.{Atom}
use Rattle.djq_model.specs.declared.query.Comparison.{Comparison}
use Rattle.djq_model.specs.declared.query.Query.{Query}
use Rattle.djq_model.specs.declared.query.Term.{Term}
use Rattle.djq_model.specs.Data.{relation_of}
use Rattle.djq_protocol.specs.declared.answer.Refusal.{Refusal}
use Rattle.djq_protocol.specs.declared.answer.Refusal.TheVariants.{NoRelation, Arity, WrongType, VariableType, Unbound}
use Rattle.djq_protocol.specs.declared.answer.Refusal.TheVariants.{HeadRepeated, HeadUnbound, Limit}
use Rattle.djq_protocol.specs.Columns.{columns_of}
use Rattle.djq_protocol.specs.Conditions.{first_refusal}
use Rattle.djq_protocol.specs.QueryFault.{any_column, any_place, is_misfit, is_clash, is_miscompared, reads_unknown}
use Rattle.djq_protocol.specs.QueryFault.{has_wrong_arity, has_misfit, has_clash, compares_unbound, has_miscompared}
use Rattle.djq_protocol.specs.QueryFault.{repeats_head, has_unbound_head, is_too_large, query_fault}
use Rattle.djq_answer_laws.proofs.Choices.{none_any}
use Rattle.djq_run_laws.proofs.Forms.{none_first}
use Rattle.djq_run_laws.proofs.RowCommands.{types_found, there_still}
use Rattle.djq_run_laws.proofs.SoundStores.{TypesStay}

any_same : {A : Type 0} (p q : A → Bool) (xs : List A) → ((x : A) → p x ≡ q x) → list_any p xs ≡ list_any q xs
any_same p q [] h = refl
any_same p q (x ∷ xs) h = ap₂ (λ (a b : Bool). a || b) (h x) (any_same p q xs h)

any_column_same : (p q : Term → ColumnType → Bool) (ts : List Term) (cs : List ColumnType)
    → ((t : Term) (c : ColumnType) → p t c ≡ q t c) → any_column p ts cs ≡ any_column q ts cs
any_column_same p q [] cs h = refl
any_column_same p q (t ∷ ts) [] h = refl
any_column_same p q (t ∷ ts) (c ∷ cs) h = ap₂ (λ (a b : Bool). a || b) (h t c) (any_column_same p q ts cs h)

abbrev fault_by : Bool → Bool → Bool → Bool → Bool → Query → Option Refusal
fault_by unknown arity misfits clash miscompared q = first_refusal (
    (unknown, NoRelation)
    ∷ (arity, Arity)
    ∷ (misfits, WrongType)
    ∷ (clash, VariableType)
    ∷ (compares_unbound q, Unbound)
    ∷ (miscompared, WrongType)
    ∷ (repeats_head q, HeadRepeated)
    ∷ (has_unbound_head q, HeadUnbound)
    ∷ (is_too_large q, Limit)
    ∷ [])

module _ (rs rs' : List Relation) where
  -- The relation that an atom reads is there or not, and has its columns, in both.
  abbrev ReadsSame : Atom → Type 0
  ReadsSame a = (is_none (relation_of rs' a.relation) ≡ is_none (relation_of rs a.relation))
      × (columns_of rs' a.relation ≡ columns_of rs a.relation)

  any_atom : (p q : Atom → Bool) (atoms : List Atom) → ((a : Atom) → ReadsSame a → p a ≡ q a) → All ReadsSame atoms
      → list_any p atoms ≡ list_any q atoms
  any_atom p q [] h same = refl
  any_atom p q (a ∷ atoms) h same =
      ap₂ (λ (x y : Bool). x || y) (h a (All-head ReadsSame a atoms same))
      (any_atom p q atoms h (All-tail ReadsSame a atoms same))

  place_same : (p q : Term → ColumnType → Bool) (atoms : List Atom) → ((t : Term) (c : ColumnType) → p t c ≡ q t c)
      → All ReadsSame atoms → any_place p rs' atoms ≡ any_place q rs atoms
  place_same p q atoms h same =
      any_atom (λ (a : Atom). any_column p a.terms (columns_of rs' a.relation))
      (λ (a : Atom). any_column q a.terms (columns_of rs a.relation)) atoms
      (λ a s. ap (any_column p a.terms) s.1 ∙ any_column_same p q a.terms (columns_of rs a.relation) h) same

  fault_same : (q : Query) → All ReadsSame q.atoms → query_fault rs' q ≡ query_fault rs q
  fault_same q same =
      ap (λ (x : Bool). fault_by x (has_wrong_arity rs' q) (has_misfit rs' q) (has_clash rs' q)
      (has_miscompared rs' q) q)
      (any_atom (λ (a : Atom). is_none (relation_of rs' a.relation)) (λ (a : Atom). is_none (relation_of rs a.relation))
      q.atoms (λ a s. s.0) same)
      ∙ ap (λ (x : Bool). fault_by (reads_unknown rs q) x (has_misfit rs' q) (has_clash rs' q)
      (has_miscompared rs' q) q)
      (any_atom (λ (a : Atom). not (length a.terms == length (columns_of rs' a.relation)))
      (λ (a : Atom). not (length a.terms == length (columns_of rs a.relation))) q.atoms
      (λ a s. ap (λ (cs : List ColumnType). not (length a.terms == length cs)) s.1) same)
      ∙ ap (λ (x : Bool). fault_by (reads_unknown rs q) (has_wrong_arity rs q) x (has_clash rs' q)
      (has_miscompared rs' q) q) (place_same is_misfit is_misfit q.atoms (λ t c. refl) same)
      ∙ ap (λ (x : Bool). fault_by (reads_unknown rs q) (has_wrong_arity rs q) (has_misfit rs q) x
      (has_miscompared rs' q) q)
      (place_same (λ t c. any_place (is_clash t c) rs' q.atoms) (λ t c. any_place (is_clash t c) rs q.atoms) q.atoms
      (λ t c. place_same (is_clash t c) (is_clash t c) q.atoms (λ u d. refl) same) same)
      ∙ ap (λ (x : Bool). fault_by (reads_unknown rs q) (has_wrong_arity rs q) (has_misfit rs q) (has_clash rs q) x q)
      (any_same (λ (c : Comparison). any_place (is_miscompared c) rs' q.atoms)
      (λ (c : Comparison). any_place (is_miscompared c) rs q.atoms) q.comparisons
      (λ c. place_same (is_miscompared c) (is_miscompared c) q.atoms (λ t d. refl) same))

  -- A query without a fault has none if each relation that is there keeps its types.
  pub no_fault_still : TypesStay rs rs' → (q : Query) → query_fault rs q ≡ None → query_fault rs' q ≡ None
  no_fault_still still q none =
      fault_same q
      (All-weaker (λ (a : Atom). is_none (relation_of rs a.relation) ≡ false) ReadsSame
      (λ a known. (
        there_still rs rs' a.relation (still a.relation known) known ∙ sym known,
        types_found rs rs' a.relation (still a.relation known),
      )) q.atoms
      (none_any (λ (a : Atom). is_none (relation_of rs a.relation)) q.atoms
      (none_first (reads_unknown rs q) NoRelation
      (first_refusal ((has_wrong_arity rs q, Arity) ∷ (has_misfit rs q, WrongType) ∷ (has_clash rs q, VariableType)
      ∷ (compares_unbound q, Unbound) ∷ (has_miscompared rs q, WrongType) ∷ (repeats_head q, HeadRepeated)
      ∷ (has_unbound_head q, HeadUnbound) ∷ (is_too_large q, Limit) ∷ [])) none)))
      ∙ none
