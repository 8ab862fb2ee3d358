-- What is asked of the members of a union, one after another.
use Rattle.std.specs.Prelude.{ℕ, List, Bool, Option, Some, Result, map}
use Rattle.djq_model.specs.declared.relation.Relation.{Relation}
use Rattle.djq_model.specs.declared.query.Query.{Query}
use Rattle.djq_model.specs.Data.{Tuple}
use Rattle.djq_model.specs.Listed.{Listed, AnswersOf}
use Rattle.djq_protocol.specs.declared.answer.Refusal.{Refusal}
use Rattle.djq_protocol.specs.Conditions.{Answers, OutOfMemoryWhere}
use Rattle.djq_store_spec.specs.Asking.{Tells, listed_types, misfit}
use Rattle.djq_live_query.specs.Live.{Live}
use Rattle.djq_live_query.specs.Member.{queries_at}

-- Whether a tuple is an answer of what is registered is returned, or why it doesn't suit its answers.
abbrev pub TellsMembership : List Relation → Listed → Tuple → Result Bool Refusal → Type 0
TellsMembership relations q t result = Answers (misfit (listed_types relations (Some q)) t) result
    (λ yes. Tells (AnswersOf relations q t) yes) (OutOfMemoryWhere ⊥)

-- the queries in these places
abbrev pub asked_in : List (Option Live) → List ℕ → List Query
asked_in gs ks = map (λ l. l.query) (queries_at gs ks)
