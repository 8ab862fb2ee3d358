-- Registering and dropping a query, and what its answers may cost.
use Rattle.std.specs.Prelude.{ℕ, List, [], ◌∷◌, ◌≡◌, ◌+◌, ◌*◌, ◌-◌, ◌++◌, ◌≤◌, ◌⊎◌, ◌||◌, Bool, true, Option, is_some}
use Rattle.std.specs.Prelude.{is_none, Result, OnErr, length, ⊤}
use Rattle.std.specs.List.{list_any}
use Rattle.djq_model.specs.declared.query.Query.{Query}
use Rattle.djq_model.specs.Data.{Bytes, bytes_eq, drop_first}
use Rattle.djq_model.specs.Listed.{Listed, a_query, a_union, listed_name, members_of, listed_of}
use Rattle.djq_model.specs.Known.{texts_in, all_learned}
use Rattle.djq_protocol.specs.declared.limits.TheConstants.{TEXTS}
use Rattle.djq_protocol.specs.declared.answer.Refusal.{Refusal}
use Rattle.djq_protocol.specs.declared.answer.Refusal.TheVariants.{NoQuery, InUse, NoMemory}
use Rattle.djq_protocol.specs.declared.rest.QueryOutcome.{QueryOutcome}
use Rattle.djq_protocol.specs.declared.rest.QueryOutcome.TheVariants.{Registered, Cyclic, NotConnex}
use Rattle.djq_protocol.specs.Variables.{constants_of}
use Rattle.djq_protocol.specs.Hypergraph.{edges_of, head_of}
use Rattle.djq_protocol.specs.Rest.{IsNamedRest}
use Rattle.djq_protocol.specs.QueryFault.{whole_query_refusal}
use Rattle.djq_hypergraph.specs.JoinTree.{IsFreeConnex}
use Rattle.djq_hypergraph.specs.Refusing.{IsCyclic, IsNotConnex}
use Rattle.djq_store_spec.specs.Store.{Store}
use Rattle.djq_protocol.specs.Conditions.{first_refusal, Answers, OutOfMemoryWhere}
use Rattle.djq_store_spec.specs.Relations.{RefusedByTexts}

-- `query`

-- why a query isn't registered: its name is in use, it has a fault, or there are too many
abbrev pub query_refusal : Store → Query → Option Refusal
query_refusal st q = whole_query_refusal st.relations st.queries q

-- the most lookups and links that one answer costs, and the end too, for as many head variables
abbrev pub most_steps : ℕ → ℕ
most_steps h = 2 * h + 1

-- how many variables the heads of a union's members have: as many as that of the first
abbrev pub width_of : List Query → ℕ
width_of [] = 0
width_of (q ∷ qs) = length q.head

-- how many atoms queries have together
abbrev pub atoms_of : List Query → ℕ
atoms_of [] = 0
atoms_of (q ∷ qs) = length q.atoms + atoms_of qs

-- the most that one answer of what is registered costs, and the end too: of a union what each of its members
-- costs, and for each but the last a test of whether the others have it
abbrev pub answer_steps : Listed → ℕ
answer_steps (a_query q) = most_steps (length q.head)
answer_steps (a_union name qs) =
    length qs * most_steps (width_of qs) + (length qs - 1) * atoms_of qs

-- A free-connex query is registered after the others, and its texts are known. Of another one a rest is returned
-- that shows what it lacks, and nothing changes.
abbrev pub RegistersAs : Store → Query → Store → QueryOutcome → Type 0
RegistersAs old q new (Registered most) =
    IsFreeConnex (edges_of q) (head_of q)
    × (most ≡ most_steps (length q.head))
    × (length new.texts ≤ TEXTS)
    × (new ≡ record old {
      texts = all_learned old.texts (texts_in (constants_of q));
      queries = old.queries ++ a_query q ∷ [];
    })
RegistersAs old q new (Cyclic rest) =
    ((R : List (List ℕ)) × IsCyclic (edges_of q) R × IsNamedRest q R rest) × (new ≡ old)
RegistersAs old q new (NotConnex rest) =
    ((R : List (List ℕ)) × IsNotConnex (edges_of q) (head_of q) R × IsNamedRest q R rest)
    × (new ≡ old)

-- A query is refused late by its texts, which are asked for only if it is free-connex; or before
-- that is known, out of memory.
abbrev pub RefusedLate : Store → Query → Store → Refusal → Type 0
RefusedLate old q new r =
    (IsFreeConnex (edges_of q) (head_of q)
    × RefusedByTexts old (texts_in (constants_of q)) new r)
    ⊎ ((r ≡ NoMemory) × (new ≡ old))

-- A query is registered, or its rest is returned; or it is refused, and nothing changes but the texts.
pub record RegistersQuery (old : Store) (q : Query) (result : Result QueryOutcome Refusal)
    (new : Store) : Type 0 where
  pub answer : Answers (query_refusal old q) result (RegistersAs old q new) (RefusedLate old q new)
  pub stays : is_some (query_refusal old q) ≡ true → new ≡ old

-- `drop`

-- whether the query of a name is a member of a union
abbrev pub is_member : List Listed → Bytes → Bool
is_member queries name = list_any (λ l. list_any (λ q. bytes_eq q.name name) (members_of l)) queries

-- why what is registered under a name isn't dropped: nothing is, or it is used or a member of a union
abbrev pub drop_refusal : Store → Bool → Bytes → Option Refusal
drop_refusal st used name = first_refusal (
    (is_none (listed_of st.queries name), NoQuery)
    ∷ (used || is_member st.queries name, InUse)
    ∷ [])

-- What isn't used, nor a member of a union, is registered no more, and the others stay in their order. That needs
-- no memory.
pub record DropsQuery (old : Store) (used : Bool) (name : Bytes) (result : Result ⊤ Refusal)
    (new : Store) : Type 0 where
  pub answer : Answers (drop_refusal old used name) result
      (λ _. new ≡ record old { queries = drop_first (λ q. bytes_eq (listed_name q) name) old.queries })
      (OutOfMemoryWhere ⊥)
  pub stays : OnErr result (new ≡ old)
