-- What is promised of every run of the core.
use Rattle.std.specs.Prelude.{ℕ, List, ◌≡◌, true, Some, IsSomeAnd}
use Rattle.djq_model.specs.Data.{Bytes, Tuple}
use Rattle.djq_model.specs.Answer.{IsListing}
use Rattle.djq_model.specs.Listed.{Listed, listed_name, listed_of}
use Rattle.djq_abstract.specs.Rows.{AnswersOver}
use Rattle.djq_abstract.specs.Clients.{Core, valid}
use Rattle.djq_abstract.specs.Histories.{
  Happening,
  state_after,
  CoreRun,
  IsReached,
  IsSubscribedAlong,
  deltas_applied,
  all_sent,
}

-- A finished cursor that no change overtook has returned each answer over the present rows once, and nothing else.
abbrev pub FinishedCursorsListed : Type 0
FinishedCursorsListed = (st : Core) → IsReached st → (s : ℕ) (c q : Bytes) (returned : List Tuple)
    → (st.client s).cursor c ≡ Some (valid q returned true)
    → IsSomeAnd (listed_of st.queries q) (λ l. IsListing (AnswersOver st.db l) returned)

-- A listing of a query's answers, with the deltas applied that a subscriber is sent from then on, is a listing of the
-- answers at the end.
abbrev pub SubscribersHaveAnswers : Type 0
SubscribersHaveAnswers = (old : Core) → IsReached old → (run : List Happening) → CoreRun old run
    → (s : ℕ) (q : Listed) (ts : List Tuple) → listed_of old.queries (listed_name q) ≡ Some q
    → IsSubscribedAlong s (listed_name q) old run
    → IsListing (AnswersOver old.db q) ts
    → IsListing (AnswersOver (state_after old run).db q) (deltas_applied (listed_name q) ts (all_sent s run))
