-- What a session is sent of a query that it watches, among all that it is sent.
use Rattle.std.specs.Prelude.{ℕ, List, [], ◌∷◌, ◌++◌, ◌≡◌, ◌<◌, Bool, false, filter, map, AllPairs}
use Rattle.std.specs.List.{flat_map}
use Rattle.djq_model.specs.Data.{Bytes, Tuple, bytes_eq}
use Rattle.djq_model.specs.Answer.{IsListing}
use Rattle.djq_model.specs.Listed.{Listed, listed_name, AnswersOf}
use Rattle.djq_mirror.specs.Replies.{Reply, changed, counted, reply_text}
use Rattle.djq_machine.specs.State.{State}
use Rattle.djq_machine.specs.Run.{Did, out}
use Rattle.djq_run_laws.specs.Sound.{IsSoundState}
use Rattle.djq_run_laws.specs.Watched.{WatchesAlong, numbers_along, Told, all_added_up}

-- the bytes of replies, one line after the other
abbrev pub replies_text : List Reply → Bytes
replies_text rs = flat_map reply_text rs

-- whether a reply is of a query's deltas: an answer that was added or removed, or the number of a change
abbrev pub is_told_of : Bytes → Reply → Bool
is_told_of name (changed s query t) = bytes_eq query name
is_told_of name (counted query n) = bytes_eq query name
is_told_of name r = false

-- the replies of a delta
abbrev pub delta_replies : Bytes → Told → List Reply
delta_replies name t = map (λ c. changed c.sign name c.answer) t.changes ++ counted name t.number ∷ []

-- Along a run in which a session watches a query, all that is queued to it is whole reply lines. Of
-- these, those that are of the query are the lines of its deltas, one delta after the other, and no
-- others: one delta for each accepted change of a relation that the query reads, by rising number.
-- They add up from any listing of the answers at the start to a listing of those at the end.
pub record IsToldExactly (q : Listed) (s : ℕ) (old : State) (done : List Did) (new : State)
    (walk : WatchesAlong q s old done new) : Type 0 where
  pub replies : List Reply
  pub whole : out s done ≡ replies_text replies
  pub told : List Told
  pub exactly : filter (is_told_of (listed_name q)) replies
      ≡ flat_map (delta_replies (listed_name q)) told
  pub numbers : map (λ t. t.number) told ≡ numbers_along q s old done new walk
  pub rising : AllPairs (λ m n. m < n) (map (λ t. t.number) told)
  pub adds_up : (ts : List Tuple) → IsListing (AnswersOf old.store.relations q) ts
      → IsListing (AnswersOf new.store.relations q) (all_added_up ts told)

-- So it is from any sound state on, whatever the other sessions do.
abbrev pub WatchersAreToldExactly : Type 0
WatchersAreToldExactly = (q : Listed) (s : ℕ) (old : State) → IsSoundState old → (done : List Did)
    (new : State) (walk : WatchesAlong q s old done new) → IsToldExactly q s old done new walk
