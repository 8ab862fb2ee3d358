-- What `union` does: the union of some registered queries is registered.
use Rattle.std.specs.Prelude.{
  ℕ,
  List,
  [],
  ◌∷◌,
  ◌≡◌,
  ◌++◌,
  ◌&&◌,
  ◌||◌,
  Bool,
  true,
  false,
  not,
  nat_le,
  nat_lt,
  Option,
  Some,
  is_some,
  is_none,
  Result,
  OnErr,
  length,
  map,
  ⊤,
}
use Rattle.std.specs.List.{list_any}
use Rattle.djq_model.specs.declared.relation.ColumnType.{ColumnType}
use Rattle.djq_model.specs.declared.query.Query.{Query}
use Rattle.djq_model.specs.Data.{Bytes, bytes_eq}
use Rattle.djq_model.specs.Typed.{same_type}
use Rattle.djq_model.specs.Listed.{Listed, a_query, a_union, listed_of}
use Rattle.djq_protocol.specs.declared.limits.TheConstants.{MEMBERS, QUERIES}
use Rattle.djq_protocol.specs.declared.answer.Refusal.{Refusal}
use Rattle.djq_protocol.specs.declared.answer.Refusal.TheVariants.{Taken, NoQuery, Member, Limit}
use Rattle.djq_store_spec.specs.Store.{Store}
use Rattle.djq_protocol.specs.Conditions.{first_refusal, Answers, OutOfMemoryWhere}
use Rattle.djq_store_spec.specs.Registering.{answer_steps}
use Rattle.djq_store_spec.specs.Asking.{listed_types}

-- whether a name occurs among these twice
abbrev pub stands_twice : List Bytes → Bool
stands_twice [] = false
stands_twice (n ∷ ns) = list_any (λ m. bytes_eq m n) ns || stands_twice ns

-- whether what is registered is a union
abbrev pub is_union : Option Listed → Bool
is_union (Some (a_union name qs)) = true
is_union _ = false

-- whether two lists of types are the same
abbrev pub same_types : List ColumnType → List ColumnType → Bool
same_types [] [] = true
same_types (a ∷ cs) (b ∷ ds) = same_type a b && same_types cs ds
same_types _ _ = false

-- the types of the answers of what is registered under a name
abbrev pub types_under : Store → Bytes → List ColumnType
types_under st name = listed_types st.relations (listed_of st.queries name)

-- whether some of these have answers of other types than the first, or of another length
abbrev pub types_differ : Store → List Bytes → Bool
types_differ st [] = false
types_differ st (n ∷ ns) = list_any (λ m. not (same_types (types_under st n) (types_under st m))) ns

-- why a union isn't registered, but for memory
abbrev pub union_refusal : Store → Bytes → List Bytes → Option Refusal
union_refusal st name members = first_refusal (
    (is_some (listed_of st.queries name), Taken)
    ∷ (list_any (λ n. is_none (listed_of st.queries n)) members, NoQuery)
    ∷ (
      stands_twice members || list_any (λ n. is_union (listed_of st.queries n)) members
          || types_differ st members,
      Member,
    )
    ∷ (nat_lt MEMBERS (length members), Limit)
    ∷ (nat_le QUERIES (length st.queries), Limit)
    ∷ [])

-- These are the queries that are registered under these names.
abbrev pub AreUnder : List Listed → List Bytes → List Query → Type 0
AreUnder listed names qs = map (λ n. listed_of listed n) names ≡ map (λ q. Some (a_query q)) qs

-- A union is registered after what is there, and the cost of its answers is returned; or nothing changes.
pub record RegistersUnion (old : Store) (name : Bytes) (members : List Bytes)
    (result : Result ℕ Refusal) (new : Store) : Type 0 where
  pub answer : Answers (union_refusal old name members) result
      (λ most. (qs : List Query) × AreUnder old.queries members qs
      × (most ≡ answer_steps (a_union name qs))
      × (new ≡ record old { queries = old.queries ++ a_union name qs ∷ [] })) (OutOfMemoryWhere ⊤)
  pub stays : OnErr result (new ≡ old)
