-- A row that isn't refused is of a relation that is there, and of its types.
use Rattle.std.specs.Prelude.{[], ◌∷◌, ◌≡◌, ◌==◌, Bool, true, false, not, Option, None, Some, is_none, length}
use Rattle.std.proofs.Common.{refl}
use Rattle.std.proofs.lemmas.List.Elements.{All-contains}
use Rattle.djq_model.specs.declared.relation.Relation.{Relation}
use Rattle.djq_model.specs.Data.{relation_of}
use Rattle.djq_model.specs.Typed.{fits}
use Rattle.djq_protocol.specs.declared.answer.Refusal.TheVariants.{NoRelation, Arity, WrongType}
use Rattle.djq_protocol.specs.Columns.{types_of}
use Rattle.djq_protocol.specs.Conditions.{first_refusal}
use Rattle.djq_answer_laws.proofs.Lists.{hold_each}
use Rattle.djq_store_spec.specs.Store.{Store}
use Rattle.djq_store_spec.specs.Held.{HeldLine}
use Rattle.djq_store_spec.specs.Transaction.{suit_refusal}
use Rattle.djq_transaction.specs.Net.{Suits}
use Rattle.djq_transaction.specs.Suiting.{LinesSuit}

suits_one : (st : Store) (h : HeldLine) → suit_refusal st h.relation h.row ≡ None → Suits st.relations h
suits_one st h e = by (relation_of st.relations h.relation) refl e
  where
    typed : (a b : Bool) → first_refusal ((not a, Arity) ∷ (not b, WrongType) ∷ []) ≡ None → b ≡ true
    typed true true k = refl
    typed true false k = absurd (cc k)
    typed false b k = absurd (cc k)

    by : (o : Option Relation) → relation_of st.relations h.relation ≡ o
        → first_refusal ((is_none o, NoRelation) ∷ (not (length h.row == length (types_of o)), Arity)
        ∷ (not (fits (types_of o) h.row), WrongType) ∷ [])
        ≡ None → Suits st.relations h
    by None k f = absurd (cc f)
    by (Some r) k f = record {
      relation = r;
      found = k;
      suits = typed (length h.row == length r.types) (fits r.types h.row) f;
    }

pub lines_suit : LinesSuit
lines_suit st lines all = hold_each (Suits st.relations) lines
    (λ h k. suits_one st h (All-contains (λ (g : HeldLine). suit_refusal st g.relation g.row ≡ None) lines h all k))
