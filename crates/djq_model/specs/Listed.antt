-- What is registered under a name, so that its answers are asked for by it.
use Rattle.std.specs.Prelude.{List, [], ◌∷◌, Option, Any, find}
use Rattle.djq_model.specs.declared.relation.Relation.{Relation}
use Rattle.djq_model.specs.declared.query.Query.{Query}
use Rattle.djq_model.specs.Data.{Bytes, Tuple, bytes_eq}
use Rattle.djq_model.specs.Answer.{IsAnswer}

-- What is registered is a query, or the union of some: its name, and its members, in its order.
pub data Listed : Type 0 where
  a_query : Query → Listed
  a_union : Bytes → List Query → Listed

-- the name under which it is registered
abbrev pub listed_name : Listed → Bytes
listed_name (a_query q) = q.name
listed_name (a_union name qs) = name

-- the queries whose answers it has
abbrev pub queries_of : Listed → List Query
queries_of (a_query q) = q ∷ []
queries_of (a_union name qs) = qs

-- the members of a union; a query has none
abbrev pub members_of : Listed → List Query
members_of (a_query q) = []
members_of (a_union name qs) = qs

-- A tuple is one of its answers: those of a query are the query's, those of a union its members'.
abbrev pub AnswersOf : List Relation → Listed → Tuple → Type 0
AnswersOf relations (a_query q) t = IsAnswer relations q t
AnswersOf relations (a_union name qs) t = Any (λ q. IsAnswer relations q t) qs

-- what is registered under a name, of these
abbrev pub listed_of : List Listed → Bytes → Option Listed
listed_of listed name = find (λ l. bytes_eq (listed_name l) name) listed
