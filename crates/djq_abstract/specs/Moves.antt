-- One step of the core.
use Rattle.std.specs.Prelude.{ℕ, suc, List, [], ◌∷◌, ◌++◌, ◌≡◌, ◌≤◌, ◌==◌, ◌⊎◌, ◌↔◌, ◌&&◌, not, Bool, true, false}
use Rattle.std.specs.Prelude.{None, Some, MatchOption, IsSome, IsSomeAnd, if◌then◌else◌, All, Contains, map}
use Rattle.std.specs.Prelude.{filter, length}
use Rattle.djq_model.specs.Data.{Bytes, Tuple, bytes_eq}
use Rattle.djq_model.specs.Answer.{AreDifferent}
use Rattle.djq_model.specs.Listed.{Listed, listed_name, listed_of}
use Rattle.djq_abstract.specs.Rows.{Database, AnswersOver, RowEdit, all_edited, AreRowsChanged, IsAffected}
use Rattle.djq_abstract.specs.Deltas.{AnswerDelta, IsDeltaBetween}
use Rattle.djq_abstract.specs.Clients.{
  CursorState,
  valid,
  stale,
  Client,
  Core,
  nobody,
  with_client,
  client_with_cursor,
  with_subscription,
  UsesQuery,
  client_overtaken,
  IsAdmitted,
  CoreCommand,
  edit,
  batch,
  done,
  abandon,
  register,
  drop,
  open_cursor,
  next,
  close,
  has,
  subscribe,
  unsubscribe,
  ask,
  CoreMessage,
  ok,
  refused,
  not_free_connex,
  replied,
  is_answer,
  page,
  delta,
  CoreEvent,
  connects,
  disconnects,
  says,
  Sent,
  only_sent,
}

-- A page: further answers, each once, as many as asked for or all that are left. It is the last if and only if none
-- is left.
pub record IsPage (Answer : Tuple → Type 0) (returned ts : List Tuple) (count : ℕ) (last : Bool) : Type 0 where
  pub answers : All Answer ts
  pub different : AreDifferent (returned ++ ts)
  pub at_most : length ts ≤ count
  pub full : last ≡ false → length ts ≡ count
  pub last_is : (last ≡ true) ↔ ((t : Tuple) → Answer t → Contains (returned ++ ts) t)

-- A change leaves a client connected: its cursors over affected queries are stale, and it is sent the delta of each
-- affected query to which it subscribes, in order of registration, and then the reply.
pub record StaysConnected (old : Core) (affected : Bytes → Bool) (new : Core) (s : ℕ)
    (sent reply : List CoreMessage) : Type 0 where
  pub was_connected : (old.client s).connected ≡ true
  pub becomes : new.client s ≡ client_overtaken affected (old.client s)
  pub delta_of : Bytes → AnswerDelta
  pub are_deltas : (n : Bytes) (q : Listed) → listed_of old.queries n ≡ Some q
      → (affected n && (old.client s).subscribed n) ≡ true
      → IsDeltaBetween (AnswersOver old.db q) (AnswersOver new.db q) (delta_of n)
  pub is_sent : sent ≡ map (λ n. delta n (delta_of n) new.seq)
      (filter (λ n. affected n && (old.client s).subscribed n) (map listed_name old.queries)) ++ reply

-- A change of the database, which a client asked for. It is counted if a row was inserted or deleted. Each client
-- stays connected, or is disconnected since it reads too slowly or memory is out.
pub record ChangesDatabase (old : Core) (s : ℕ) (db : Database) (sent : Sent) (new : Core) : Type 0 where
  pub db_is : new.db ≡ db
  pub queries_stay : new.queries ≡ old.queries
  pub counts : Bool
  pub counts_if : (counts ≡ true) ↔ AreRowsChanged old.db db
  pub seq_is : new.seq ≡ (if counts then suc old.seq else old.seq)
  pub affected : Bytes → Bool
  pub affected_if : (n : Bytes) (q : Listed) → listed_of old.queries n ≡ Some q
      → (affected n ≡ true) ↔ IsAffected old.db db q
  pub clients : (t : ℕ) → StaysConnected old affected new t (sent t) (only_sent s (ok ∷ []) t)
      ⊎ ((new.client t ≡ nobody) × ((old.client t).connected ≡ false → sent t ≡ []))

-- Edits change the database, if none deletes a row that isn't present then.
abbrev pub Edits : Core → ℕ → List RowEdit → Sent → Core → Type 0
Edits old s es sent new = IsSomeAnd (all_edited es old.db) (λ db. ChangesDatabase old s db sent new)

-- A client gets one reply and becomes another, and nothing else happens.
abbrev pub OnlyReplies : Core → ℕ → CoreMessage → Client → Sent → Core → Type 0
OnlyReplies old s m x sent new = (sent ≡ only_sent s (m ∷ [])) × (new ≡ with_client s x old)

-- Other queries are registered.
abbrev pub SetsQueries : Core → ℕ → List Listed → Sent → Core → Type 0
SetsQueries old s queries sent new = (sent ≡ only_sent s (ok ∷ [])) × (new ≡ record old { queries = queries })

-- A cursor returns a page, unless it is stale.
abbrev pub ReturnsPage : Core → ℕ → (cursor : Bytes) (count : ℕ) → CursorState → Sent → Core → Type 0
ReturnsPage old s c count (stale q) sent new = ⊥
ReturnsPage old s c count (valid q returned finished) sent new = IsSomeAnd (listed_of old.queries q) (λ l.
    (ts : List Tuple) × (last : Bool) × IsPage (AnswersOver old.db l) returned ts count last
    × OnlyReplies old s (page ts last) (client_with_cursor c (Some (valid q (returned ++ ts) last)) (old.client s)) sent new)

-- A command is accepted. While a batch is open the server accepts only some of these.
abbrev pub Accepts : Core → ℕ → CoreCommand → Sent → Core → Type 0
Accepts old s (edit e) sent new = MatchOption (old.client s).batch
    (Edits old s (e ∷ []) sent new)
    (λ es. OnlyReplies old s ok (record (old.client s) { batch = Some (es ++ e ∷ []) }) sent new)
Accepts old s batch sent new = ((old.client s).batch ≡ None)
    × OnlyReplies old s ok (record (old.client s) { batch = Some [] }) sent new
Accepts old s done sent new = IsSomeAnd (old.client s).batch
    (λ es. Edits (with_client s (record (old.client s) { batch = None }) old) s es sent new)
Accepts old s abandon sent new = IsSome (old.client s).batch
    × OnlyReplies old s ok (record (old.client s) { batch = None }) sent new
Accepts old s (register q) sent new = IsAdmitted q × (listed_of old.queries (listed_name q) ≡ None)
    × SetsQueries old s (old.queries ++ q ∷ []) sent new
Accepts old s (drop q) sent new = ((t : ℕ) → UsesQuery q (old.client t) → ⊥)
    × SetsQueries old s (filter (λ l. not (bytes_eq (listed_name l) q)) old.queries) sent new
Accepts old s (open_cursor c q) sent new = ((old.client s).cursor c ≡ None) × IsSome (listed_of old.queries q)
    × OnlyReplies old s ok (client_with_cursor c (Some (valid q [] false)) (old.client s)) sent new
Accepts old s (next c count) sent new =
    IsSomeAnd ((old.client s).cursor c) (λ k. ReturnsPage old s c count k sent new)
Accepts old s (close c) sent new = IsSome ((old.client s).cursor c)
    × OnlyReplies old s ok (client_with_cursor c None (old.client s)) sent new
Accepts old s (has q t) sent new = IsSomeAnd (listed_of old.queries q) (λ l.
    (holds : Bool) × ((holds ≡ true) ↔ AnswersOver old.db l t) × OnlyReplies old s (is_answer holds) (old.client s) sent new)
Accepts old s (subscribe q) sent new = IsSome (listed_of old.queries q)
    × OnlyReplies old s ok (with_subscription q true (old.client s)) sent new
Accepts old s (unsubscribe q) sent new = IsSome (listed_of old.queries q)
    × OnlyReplies old s ok (with_subscription q false (old.client s)) sent new
Accepts old s ask sent new = OnlyReplies old s replied (old.client s) sent new

-- How a command may be refused: any by one word, whose reason the layers below give, and a query also since it isn't
-- free-connex.
abbrev pub MayRefuse : CoreCommand → CoreMessage → Type 0
MayRefuse (register q) m = (m ≡ refused) ⊎ ((m ≡ not_free_connex) × (IsAdmitted q → ⊥))
MayRefuse c m = m ≡ refused

-- What a refused command leaves of a client: `done` ends its batch.
abbrev pub client_refused : CoreCommand → Client → Client
client_refused done x = record x { batch = None }
client_refused c x = x

-- A command is refused: rows, queries and subscriptions stay. Cursors may become stale, since a change that runs out
-- of memory makes them so.
pub record RefusesCommand (old : Core) (s : ℕ) (c : CoreCommand) (sent : Sent) (new : Core) : Type 0 where
  pub message : CoreMessage
  pub may : MayRefuse c message
  pub is_sent : sent ≡ only_sent s (message ∷ [])
  pub affected : Bytes → Bool
  pub becomes : new ≡ record old {
    client = λ t. client_overtaken affected
        (if t == s then client_refused c (old.client s) else old.client t);
  }

-- One step, and what each client is sent in it.
abbrev pub CoreStep : Core → CoreEvent → Sent → Core → Type 0
CoreStep old (connects s) sent new = ((old.client s).connected ≡ false) × (sent ≡ only_sent s [])
    × (new ≡ with_client s (record nobody { connected = true }) old)
CoreStep old (disconnects s) sent new = ((old.client s).connected ≡ true)
    × (ms : List CoreMessage) × (sent ≡ only_sent s ms) × (new ≡ with_client s nobody old)
CoreStep old (says s c) sent new = ((old.client s).connected ≡ true)
    × (Accepts old s c sent new ⊎ RefusesCommand old s c sent new)
