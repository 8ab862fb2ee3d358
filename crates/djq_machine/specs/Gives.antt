-- What open cursors have given, at each moment of a run.
use Rattle.std.specs.Prelude.{List, ◌≡◌, Bool, true, Option, IsSomeAnd, All}
use Rattle.djq_model.specs.declared.relation.Relation.{Relation}
use Rattle.djq_model.specs.Data.{Tuple}
use Rattle.djq_model.specs.Answer.{IsListing, AreDifferent}
use Rattle.djq_model.specs.Listed.{Listed, AnswersOf, listed_of}
use Rattle.djq_machine.specs.State.{State}
use Rattle.djq_store_spec.specs.Store.{Position, open_at, stale}

-- A cursor has given different answers, and once its last answer was `end` all of them.
pub record Gives (Answer : Tuple → Type 0) (given : List Tuple) (finished : Bool) : Type 0 where
  pub different : AreDifferent given
  pub answers : All Answer given
  pub listing : finished ≡ true → IsListing Answer given

-- a cursor over a query has given what it should, by its position; nothing is stated of a stale one
abbrev pub PositionGives : List Relation → Option Listed → Position → Type 0
PositionGives relations q (open_at given finished) = IsSomeAnd q (λ p. Gives (AnswersOf relations p) given finished)
PositionGives relations q (stale r n) = Unit {0}

-- Each cursor of each session has given what it should, over the rows that are there.
abbrev pub CursorsGive : State → Type 0
CursorsGive st = All (λ x. All (λ c. PositionGives st.store.relations (listed_of st.store.queries c.query) c.position)
    x.cursors) st.sessions
