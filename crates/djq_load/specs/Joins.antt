-- The query of a load, and why it has few answers.
use Rattle.std.specs.Prelude.{ℕ, [], ◌∷◌, ◌≡◌, ◌*◌, ◌≤◌, length, codes, All}
use Rattle.djq_model.specs.declared.relation.Relation.{Relation}
use Rattle.djq_model.specs.declared.query.Query.{Query}
use Rattle.djq_model.specs.declared.query.Term.TheVariants.{Variable}
use Rattle.djq_model.specs.Listed.{Listed, a_query}
use Rattle.djq_protocol.specs.declared.limits.TheConstants.{ROWS}
use Rattle.djq_store_spec.specs.Store.{Store}
use Rattle.djq_machine.specs.State.{State}
use Rattle.djq_machine.specs.Gives.{CursorsGive}

-- the query of a load's lines
abbrev pub join : Query
join = record {
  name = codes "q";
  head = codes "x" ∷ codes "y" ∷ codes "z" ∷ [];
  atoms = record { relation = codes "r"; terms = Variable (codes "x") ∷ Variable (codes "y") ∷ [] }
      ∷ record { relation = codes "s"; terms = Variable (codes "y") ∷ Variable (codes "z") ∷ [] }
      ∷ [];
  comparisons = [];
}

-- the most answers that it may have: one for each row of the one relation and each of the other
abbrev pub most_load_answers : ℕ
most_load_answers = ROWS * ROWS

-- A relation has no more rows than may be.
abbrev pub RelationIsSmall : Relation → Type 0
RelationIsSmall r = length r.rows ≤ ROWS

-- What is registered is the query of a load.
abbrev pub IsJoin : Listed → Type 0
IsJoin q = q ≡ a_query join

-- Each relation is within its limit, and no other query is registered.
pub record Joins (st : Store) : Type 0 where
  pub rows : All RelationIsSmall st.relations
  pub queries : All IsJoin st.queries

-- And cursors have given what they should: so none has given more answers than there may be.
pub record GivesFew (st : State) : Type 0 where
  pub store : Joins st.store
  pub give : CursorsGive st
