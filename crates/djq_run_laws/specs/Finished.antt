-- What a cursor that was sent the end has listed, in each state that a run reaches.
use Rattle.std.specs.Prelude.{List, ◌≡◌, true, IsSomeAnd, Contains}
use Rattle.djq_model.specs.Data.{Tuple}
use Rattle.djq_model.specs.Answer.{IsListing}
use Rattle.djq_model.specs.Listed.{AnswersOf, listed_of}
use Rattle.djq_store_spec.specs.Store.{open_at}
use Rattle.djq_machine.specs.State.{State, Session, Cursor}
use Rattle.djq_machine.specs.Run.{Did, Run}
use Rattle.djq_run_laws.specs.Sound.{IsStart}

-- Each open cursor that was sent the end has given a listing of its query: each answer over the
-- present rows, once, and nothing else.
abbrev pub CursorsHaveListed : State → Type 0
CursorsHaveListed st = (x : Session) → Contains st.sessions x → (c : Cursor) → Contains x.cursors c
    → (given : List Tuple) → c.position ≡ open_at given true
    → IsSomeAnd (listed_of st.store.queries c.query) (λ q. IsListing (AnswersOf st.store.relations q) given)

-- So it is in each state that a run reaches from a state to start from.
abbrev pub RunsHaveListed : Type 0
RunsHaveListed = (start : State) → IsStart start → (done : List Did) (new : State) → Run start done new
    → CursorsHaveListed new
