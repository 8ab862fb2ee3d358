-- What holds along every run from a state to start from: cursors give what they should there.
use Rattle.std.specs.Prelude.{List, true, Option, None, Some, IsSomeAnd, All}
use Rattle.std.proofs.Common.{refl, subst}
use Rattle.std.proofs.lemmas.List.Elements.{All-contains}
use Rattle.djq_model.specs.declared.relation.Relation.{Relation}
use Rattle.djq_model.specs.Data.{Tuple}
use Rattle.djq_model.specs.Answer.{IsListing}
use Rattle.djq_model.specs.Listed.{Listed, AnswersOf, listed_of}
use Rattle.djq_store_spec.specs.Store.{Position, open_at}
use Rattle.djq_machine.specs.State.{State, Session, Cursor}
use Rattle.djq_machine.specs.Gives.{PositionGives, CursorsGive}
use Rattle.djq_machine.specs.Run.{Did, Run}
use Rattle.djq_run_laws.specs.Sound.{IsStart}
use Rattle.djq_run_laws.specs.Finished.{CursorsHaveListed, RunsHaveListed}
use Rattle.djq_run_laws.specs.Live.{RunsStayLive}
use Rattle.djq_run_laws.proofs.Cursors.{runs_give}
use Rattle.djq_run_laws.proofs.CursorListings.{nothing_given}
use Rattle.djq_run_laws.proofs.Watchers.{listings_stay_live}

listing_at : (relations : List Relation) (o : Option Listed) (given : List Tuple)
    → PositionGives relations o (open_at given true) → IsSomeAnd o (λ q. IsListing (AnswersOf relations q) given)
listing_at relations None given h = absurd h
listing_at relations (Some q) given h = h.listing refl

-- What a finished cursor has given is a listing, wherever cursors give what they should.
pub have_listed : (st : State) → CursorsGive st → CursorsHaveListed st
have_listed st gives x is_session c is_cursor given e =
    let P = λ (k : Cursor). PositionGives st.store.relations (listed_of st.store.queries k.query) k.position in
    let of_session = All-contains (λ (y : Session). All P y.cursors) st.sessions x gives is_session in
    let of_cursor = All-contains P x.cursors c of_session is_cursor in
    listing_at st.store.relations (listed_of st.store.queries c.query) given
    (subst (λ (p : Position). PositionGives st.store.relations (listed_of st.store.queries c.query) p) e of_cursor)

-- They do so all along a run from a state to start from.
given_from : (start : State) → IsStart start → (done : List Did) (new : State) → Run start done new → CursorsGive new
given_from start h done new w = runs_give start done new w (nothing_given start h)

pub runs_have_listed : RunsHaveListed
runs_have_listed start h done new w = have_listed new (given_from start h done new w)

pub runs_stay_live : RunsStayLive
runs_stay_live start h done new w = listings_stay_live new (given_from start h done new w)
