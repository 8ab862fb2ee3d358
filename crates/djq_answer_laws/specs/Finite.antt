-- Which queries have finitely many answers.
use Rattle.std.specs.Prelude.{List, All, Contains}
use Rattle.djq_model.specs.declared.relation.Relation.{Relation}
use Rattle.djq_model.specs.declared.query.Query.{Query}
use Rattle.djq_model.specs.Data.{Bytes, Tuple}
use Rattle.djq_model.specs.Answer.{IsListing}
use Rattle.djq_model.specs.Listed.{Listed, a_query, a_union, AnswersOf}
use Rattle.djq_protocol.specs.Variables.{IsInBody}
use Rattle.djq_store_spec.specs.Delta.{Change, IsDelta}

-- Each variable of the head occurs in an atom.
abbrev pub IsBound : Query → Type 0
IsBound q = (x : Bytes) → Contains q.head x → IsInBody x q

-- What is registered is bound if its query is, or each of its members.
abbrev pub IsBoundListed : Listed → Type 0
IsBoundListed (a_query q) = IsBound q
IsBoundListed (a_union name qs) = All IsBound qs

-- What is registered has a listing of its answers, if it is bound.
abbrev pub AnswersAreFinite : Type 0
AnswersAreFinite = (relations : List Relation) (q : Listed) → IsBoundListed q
    → (ts : List Tuple) × IsListing (AnswersOf relations q) ts

-- And each change of relations has a delta.
abbrev pub DeltasExist : Type 0
DeltasExist = (before after : List Relation) (q : Listed) → IsBoundListed q
    → (changes : List Change) × IsDelta (AnswersOf before q) (AnswersOf after q) changes
