-- What each command does to the state, and what it is answered.
use Rattle.std.specs.Prelude.{
  ℕ,
  List,
  [],
  ◌∷◌,
  ◌≡◌,
  ◌+◌,
  ◌*◌,
  ◌++◌,
  ◌<◌,
  ◌≤◌,
  ◌⊎◌,
  ◌||◌,
  Bool,
  true,
  false,
  nat_le,
  Option,
  is_some,
  None,
  Some,
  is_none,
  IsSomeAnd,
  MatchOption,
  if◌then◌else◌,
  Result,
  Ok,
  Err,
  length,
  map,
  codes,
  All,
  ⊤,
}
use Rattle.std.specs.List.{list_any}
use Rattle.djq_model.specs.declared.query.Query.{Query}
use Rattle.djq_model.specs.Data.{Bytes, Tuple, bytes_eq, drop_first}
use Rattle.djq_model.specs.Answer.{AreDifferent}
use Rattle.djq_model.specs.Listed.{Listed, a_query, a_union, AnswersOf, listed_of}
use Rattle.djq_protocol.specs.declared.limits.TheConstants.{CURSORS, REPLY_BYTES}
use Rattle.djq_protocol.specs.declared.answer.Refusal.{Refusal}
use Rattle.djq_protocol.specs.declared.answer.Refusal.TheVariants.{Taken, NoQuery, NoCursor, Limit}
use Rattle.djq_protocol.specs.declared.rest.QueryOutcome.{QueryOutcome}
use Rattle.djq_protocol.specs.declared.answer.AddOutcome.{AddOutcome}
use Rattle.djq_protocol.specs.declared.answer.DeleteOutcome.{DeleteOutcome}
use Rattle.djq_protocol.specs.declared.answer.Shape.{Shape}
use Rattle.djq_protocol.specs.declared.answer.EndCause.TheVariants.{
  Quit as SaidQuit,
  Stop as SaidStop,
  Memory,
}
use Rattle.djq_protocol.specs.declared.command.Command.{Command}
use Rattle.djq_protocol.specs.declared.held.Verb.{Verb}
use Rattle.djq_protocol.specs.declared.held.Verb.TheVariants.{Add as Adds, Delete as Deletes}
use Rattle.djq_protocol.specs.declared.held.DoneRefusal.{DoneRefusal}
use Rattle.djq_protocol.specs.declared.command.Command.TheVariants.{
  Rel,
  Add,
  Del,
  Query as Register,
  Union,
  Drop,
  Open,
  Next,
  Close,
  Has,
  Watch,
  Unwatch,
  Explain,
  Shape as AskShape,
  Batch,
  Done,
  Abandon,
  Quit,
  Stop,
}
use Rattle.djq_protocol.specs.Reply.{
  line,
  answer_line,
  last_line,
  listing_lines,
  text_of,
  stale_line,
  ok_reply,
  add_reply,
  delete_reply,
  query_reply,
  union_reply,
  member_line,
  has_reply,
  shape_reply,
  watch_reply,
  held_reply,
  done_reply,
  bye,
  end_memory,
}
use Rattle.djq_hypergraph.specs.Hypergraph.{numbers_below}
use Rattle.djq_tree.specs.Tree.{Tree}
use Rattle.djq_tree.specs.Growing.{IsTreeOf}
use Rattle.djq_tree.specs.Explaining.{line_text}
use Rattle.djq_protocol.specs.Hypergraph.{edges_of, head_of, variable_names}
use Rattle.djq_store_spec.specs.Store.{Store, Position, open_at, stale}
use Rattle.djq_machine.specs.State.{Cursor, Session, State, with_session, cursor_of, with_position, ended_by}
use Rattle.djq_protocol.specs.Conditions.{first_refusal, Answers, OutOfMemoryWhere}
use Rattle.djq_store_spec.specs.Relations.{MakesRelation}
use Rattle.djq_store_spec.specs.Rows.{AddsRow, DeletesRow}
use Rattle.djq_store_spec.specs.Registering.{RegistersQuery, DropsQuery, answer_steps}
use Rattle.djq_store_spec.specs.Asking.{TellsWhether, has_steps, TellsShape}
use Rattle.djq_store_spec.specs.Listing.{TellsAnswers, IsLeft}
use Rattle.djq_store_spec.specs.Union.{RegistersUnion}
use Rattle.djq_store_spec.specs.Changes.{row_in, row_out, add_outcome, delete_outcome}
use Rattle.djq_machine.specs.Watch.{is_watching, ChangeStep}
use Rattle.djq_store_spec.specs.Held.{HeldTransaction, nothing_held, holding}
use Rattle.djq_store_spec.specs.Transaction.{hold_refusal, DoesAll, lines_outcome}
use Rattle.djq_machine.specs.Keeping.{no_line, kept_where, is_done, is_removal, is_registration, kept_batch}
use Rattle.djq_machine.specs.Effect.{Effect, says, answers, lost_line, EndsWith, EndsAnswering, RefusedStep}

-- `rel`: a relation is made.
pub record RelStep (old : State) (s : ℕ) (makes : Store → Result ⊤ Refusal → Store → Type 0)
    (e : Effect) (new : State) : Type 0 where
  pub result : Result ⊤ Refusal
  pub store : Store
  pub done : makes old.store result store
  pub effect : e ≡ answers s (ok_reply (codes "ok") result) (is_done result)
  pub state : new ≡ record old { store = store }

-- `add`: a copy of a row is inserted, and the first one is published to those who watch.
pub record AddStep (old : State) (s : ℕ) (name : Bytes) (row : Tuple) (e : Effect)
    (new : State) : Type 0 where
  pub result : Result AddOutcome Refusal
  pub store : Store
  pub done : AddsRow old.store name row result store
  pub change : ChangeStep old s (add_outcome (row_in old.store.relations name row) result) store
      (add_reply result store.seq) e new
  pub kept : e.kept ≡ kept_where (is_done result)

-- `del`: a copy is deleted, and the last one is published to them.
pub record DeleteStep (old : State) (s : ℕ) (name : Bytes) (row : Tuple) (e : Effect)
    (new : State) : Type 0 where
  pub result : Result DeleteOutcome Refusal
  pub store : Store
  pub done : DeletesRow old.store name row result store
  pub change : ChangeStep old s (delete_outcome (row_out old.store.relations name row) result) store
      (delete_reply result store.seq) e new
  pub kept : e.kept ≡ kept_where (is_removal result)

-- `query`: a query is registered, or a rest shows why it isn't.
pub record QueryStep (old : State) (s : ℕ) (q : Query) (e : Effect) (new : State) : Type 0 where
  pub result : Result QueryOutcome Refusal
  pub store : Store
  pub done : RegistersQuery old.store q result store
  pub effect : e ≡ answers s (query_reply result) (is_registration result)
  pub state : new ≡ record old { store = store }

-- Out of memory in a reply to `query` above the bytes that were reserved for it, which has a rest: none of its one
-- line is sent, and the session ends.
pub record QueryCutStep (old : State) (s : ℕ) (q : Query) (e : Effect) (new : State) : Type 0 where
  pub result : Result QueryOutcome Refusal
  pub store : Store
  pub done : RegistersQuery old.store q result store
  pub above : REPLY_BYTES < length (query_reply result)
  pub ends : EndsAnswering end_memory Memory (is_registration result) (record old { store = store }) s
      e new

-- `union`: a union of queries is registered.
pub record UnionStep (old : State) (s : ℕ) (name : Bytes) (members : List Bytes) (e : Effect)
    (new : State) : Type 0 where
  pub result : Result ℕ Refusal
  pub store : Store
  pub done : RegistersUnion old.store name members result store
  pub effect : e ≡ answers s (union_reply result) (is_done result)
  pub state : new ≡ record old { store = store }

-- whether a session uses a query: a cursor of it, stale or not, is over the query, or it watches
-- the query
abbrev pub uses : Bytes → Session → Bool
uses q x = list_any (λ c. bytes_eq c.query q) x.cursors || is_watching q x

-- `drop`: a query that no session uses is registered no more.
pub record DropStep (old : State) (s : ℕ) (q : Bytes) (e : Effect) (new : State) : Type 0 where
  pub result : Result ⊤ Refusal
  pub store : Store
  pub done : DropsQuery old.store (list_any (uses q) old.sessions) q result store
  pub effect : e ≡ answers s (ok_reply (codes "ok") result) (is_done result)
  pub state : new ≡ record old { store = store }

-- `has`: whether a tuple is an answer of a query.
pub record HasStep (old : State) (s : ℕ) (q : Bytes) (t : Tuple) (e : Effect)
    (new : State) : Type 0 where
  pub result : Result Bool Refusal
  pub tells : TellsWhether old.store q t result
  pub effect : e ≡ record {
    queued = (s, has_reply result) ∷ [];
    cost = has_steps (listed_of old.store.queries q);
    kept = no_line;
  }
  pub state : new ≡ old

-- why a cursor isn't opened, but for memory
abbrev pub open_refusal : Store → List Cursor → Bytes → Bytes → Option Refusal
open_refusal st cursors c q = first_refusal (
    (is_some (cursor_of cursors c), Taken)
    ∷ (is_none (listed_of st.queries q), NoQuery)
    ∷ (nat_le CURSORS (length cursors), Limit)
    ∷ [])

-- a session with a cursor more, which has given nothing
abbrev pub with_cursor : Bytes → Bytes → Session → Session
with_cursor c q x = record x {
  cursors = x.cursors ++ record { name = c; query = q; position = open_at [] false } ∷ [];
}

-- A cursor is there, or nothing changes.
abbrev pub OpensTo : State → ℕ → Bytes → Bytes → State → Result ⊤ Refusal → Type 0
OpensTo old s c q new (Ok _) = new ≡ with_session old s (with_cursor c q)
OpensTo old s c q new (Err _) = new ≡ old

-- `open`: a cursor is before the first of a query's answers.
pub record OpenStep (old : State) (s : ℕ) (x : Session) (c q : Bytes) (e : Effect)
    (new : State) : Type 0 where
  pub result : Result ⊤ Refusal
  pub answer : Answers (open_refusal old.store x.cursors c q) result (λ _. ⊤) (OutOfMemoryWhere ⊤)
  pub effect : e ≡ says s (ok_reply (codes "ok open") result)
  pub state : OpensTo old s c q new result

-- `next` is answered whole: a line an answer, and the last line.
pub record NextStep (old : State) (s : ℕ) (c : Bytes) (q : Listed) (given : List Tuple) (count : ℕ)
    (e : Effect) (new : State) : Type 0 where
  pub told : List Tuple
  pub end : Bool
  pub tells : TellsAnswers (AnswersOf old.store.relations q) given count told end
  pub effect : e ≡ record {
    queued = (s, text_of (listing_lines told end)) ∷ [];
    cost = (length told + 1) * answer_steps q;
    kept = no_line;
  }
  pub state : new ≡ with_session old s
      (λ x. record x { cursors = with_position x.cursors c (open_at (given ++ told) end) })

-- The line that follows these answers: of a further one, if more are asked for; or the last one, as it is due.
abbrev pub IsNextLine : (Tuple → Type 0) → List Tuple → ℕ → List Tuple → Bytes → Type 0
IsNextLine Answer given count told l =
    ((t : Tuple) × IsLeft Answer (given ++ told) t × (length told < count) × (l ≡ answer_line t))
    ⊎ ((end : Bool) × TellsAnswers Answer given count told end × (l ≡ last_line end))

-- Out of memory in a reply to `next` above the bytes that were reserved for it: its first lines are sent, each
-- whole, and the session ends. It costs no more than the lines sent and the one that found no memory.
pub record NextCutStep (old : State) (s : ℕ) (q : Listed) (given : List Tuple) (count : ℕ)
    (e : Effect) (new : State) : Type 0 where
  pub told : List Tuple
  pub answers : All (AnswersOf old.store.relations q) told
  pub different : AreDifferent (given ++ told)
  pub at_most : length told ≤ count
  pub lacking : Bytes
  pub lacks : IsNextLine (AnswersOf old.store.relations q) given count told lacking
  pub above : REPLY_BYTES < length (text_of (map answer_line told ++ lacking ∷ []))
  pub effect : e ≡ record {
    queued = (s, text_of (map answer_line told) ++ end_memory) ∷ [];
    cost = (length told + 1) * answer_steps q;
    kept = no_line;
  }
  pub state : new ≡ with_session old s (ended_by Memory)

-- `next`, by its cursor's position
abbrev pub NextStepAt : State → ℕ → Bytes → Listed → ℕ → Position → Effect → State → Type 0
NextStepAt old s c q count (open_at given ended) e new =
    NextStep old s c q given count e new ⊎ NextCutStep old s q given count e new
NextStepAt old s c q count (stale relation n) e new =
    (e ≡ says s (stale_line c relation n)) × (new ≡ old)

-- `close`: the cursor is closed.
abbrev pub CloseStep : State → ℕ → Bytes → Effect → State → Type 0
CloseStep old s c e new = (e ≡ says s (line (codes "ok")))
    × (new ≡ with_session old s
    (λ x. record x { cursors = drop_first (λ k. bytes_eq k.name c) x.cursors }))

-- why a session neither begins nor ceases to watch a query: none of that name is registered
abbrev pub watch_refusal : Store → Bytes → Option Refusal
watch_refusal st q = first_refusal ((is_none (listed_of st.queries q), NoQuery) ∷ [])

-- a session that watches a query, once
abbrev pub with_watch : Bytes → Session → Session
with_watch q x = record x { watches = if is_watching q x then x.watches else x.watches ++ q ∷ [] }

-- A session is another, or nothing changes.
abbrev pub BecomesWhere : {A : Type 0} → State → ℕ → (Session → Session) → State
    → Result A Refusal → Type 0
BecomesWhere old s f new (Ok _) = new ≡ with_session old s f
BecomesWhere old s f new (Err _) = new ≡ old

-- `watch`: the session is sent from now on how the answers of a query change.
pub record WatchStep (old : State) (s : ℕ) (x : Session) (q : Bytes) (e : Effect)
    (new : State) : Type 0 where
  pub result : Result ⊤ Refusal
  pub answer : Answers (watch_refusal old.store q) result (λ _. ⊤)
      (OutOfMemoryWhere (is_watching q x ≡ false))
  pub effect : e ≡ says s (watch_reply result old.store.seq)
  pub state : BecomesWhere old s (with_watch q) new result

-- a session that watches a query no more
abbrev pub without_watch : Bytes → Session → Session
without_watch q x = record x { watches = drop_first (λ w. bytes_eq w q) x.watches }

-- `unwatch`: the session is sent nothing more of it, if it was. That needs no memory.
pub record UnwatchStep (old : State) (s : ℕ) (q : Bytes) (e : Effect) (new : State) : Type 0 where
  pub result : Result ⊤ Refusal
  pub answer : Answers (watch_refusal old.store q) result (λ _. ⊤) (OutOfMemoryWhere ⊥)
  pub effect : e ≡ says s (ok_reply (codes "ok") result)
  pub state : BecomesWhere old s (without_watch q) new result

-- The lines that explain the tree of a query: one for each node, and the end.
abbrev pub explain_lines : Query → Tree → List Bytes
explain_lines q t =
    map (line_text (map (λ a. a.relation) q.atoms) (variable_names q) t)
    (numbers_below (length t.nodes))
    ++ line (codes "end") ∷ []

-- The lines are sent; or, out of memory, those before one of them, and the session ends.
abbrev pub TellsLines : State → ℕ → List Bytes → Effect → State → Type 0
TellsLines old s lines e new =
    ((e ≡ says s (text_of lines)) × (new ≡ old))
    ⊎ ((told : List Bytes) × (lacking : Bytes) × (rest : List Bytes)
    × (lines ≡ told ++ lacking ∷ rest)
    × EndsWith (text_of told ++ end_memory) Memory old s e new)

-- The tree of a query that the choice rule names is sent.
pub record ExplainStep (old : State) (s : ℕ) (q : Query) (e : Effect) (new : State) : Type 0 where
  pub tree : Tree
  pub named : IsTreeOf (edges_of q) (head_of q) tree
  pub tells : TellsLines old s (explain_lines q tree) e new

-- `shape`: whether what an update costs stays constant as rows are inserted.
pub record ShapeStep (old : State) (s : ℕ) (q : Bytes) (e : Effect) (new : State) : Type 0 where
  pub result : Result Shape Refusal
  pub tells : TellsShape old.store q result
  pub effect : e ≡ says s (shape_reply result)
  pub state : new ≡ old

-- The lines that explain a union: one for each member, in its order, and the end.
abbrev pub union_lines : List Query → List Bytes
union_lines qs = map (λ q. member_line q.name) qs ++ line (codes "end") ∷ []

-- `explain`, by what is registered: a query is explained by its tree, a union by its members.
abbrev pub ExplainStepOf : State → ℕ → Listed → Effect → State → Type 0
ExplainStepOf old s (a_query q) e new = ExplainStep old s q e new
ExplainStepOf old s (a_union name qs) e new = TellsLines old s (union_lines qs) e new

-- a session that has a batch open, which holds these lines
abbrev pub with_batch : HeldTransaction → Session → Session
with_batch held x = record x { batch = Some held }

-- a session that has none
abbrev pub without_batch : Session → Session
without_batch x = record x { batch = None }

-- `batch`: lines that insert and delete rows are held from now on.
pub record BatchStep (old : State) (s : ℕ) (e : Effect) (new : State) : Type 0 where
  pub result : Result ⊤ Refusal
  pub answer : Answers None result (λ _. ⊤) (OutOfMemoryWhere ⊤)
  pub effect : e ≡ says s (ok_reply (codes "ok batch") result)
  pub state : BecomesWhere old s (with_batch nothing_held) new result

-- `add` and `del` in a batch: the line is held after the others.
pub record HoldStep (old : State) (s : ℕ) (held : HeldTransaction) (l : Bytes) (verb : Verb) (name : Bytes)
    (row : Tuple) (e : Effect) (new : State) : Type 0 where
  pub result : Result ⊤ Refusal
  pub answer : Answers (hold_refusal old.store held l name row) result (λ _. ⊤) (OutOfMemoryWhere ⊤)
  pub effect : e ≡ says s (held_reply result (length held.lines + 1))
  pub state : BecomesWhere old s (with_batch (holding held verb name row l)) new result

-- `done`: the batch is closed, and the lines that it holds are carried out as one change, which is reported to those
-- who watch; or, if it is refused, none is.
pub record DoneStep (old : State) (s : ℕ) (held : HeldTransaction) (given : Option ℕ) (e : Effect) (new : State)
    : Type 0 where
  pub result : Result ℕ DoneRefusal
  pub store : Store
  pub done : DoesAll old.store held.lines given result store
  pub change : ChangeStep (with_session old s without_batch) s
      (lines_outcome old.store.relations held.lines result) store (done_reply result store.seq) e new
  pub kept : e.kept ≡ kept_batch held result

-- `abandon`: the batch is closed, and the lines that it holds are dropped.
abbrev pub AbandonStep : State → ℕ → Effect → State → Type 0
AbandonStep old s e new = (e ≡ says s (line (codes "ok"))) × (new ≡ with_session old s without_batch)

-- Whether a session's command isn't for a session with a batch open, or only for one.
abbrev pub is_misplaced : {A : Type 0} → Option A → Command → Bool
is_misplaced None (Done given) = true
is_misplaced None Abandon = true
is_misplaced None _ = false
is_misplaced (Some held) (Add name row) = false
is_misplaced (Some held) (Del name row) = false
is_misplaced (Some held) (Done given) = false
is_misplaced (Some held) Abandon = false
is_misplaced (Some held) Quit = false
is_misplaced (Some held) Stop = false
is_misplaced (Some held) _ = true

-- A command of a session, on this line, is done, or refused by the first condition that holds.
abbrev pub CommandStep : State → ℕ → Session → Bytes → Command → Effect → State → Type 0
CommandStep old s x l (Rel name types) e new = RelStep old s (λ st. MakesRelation st name types) e new
CommandStep old s x l (Add name row) e new = MatchOption x.batch
    (AddStep old s name row e new)
    (λ held. HoldStep old s held l Adds name row e new)
CommandStep old s x l (Del name row) e new = MatchOption x.batch
    (DeleteStep old s name row e new)
    (λ held. HoldStep old s held l Deletes name row e new)
CommandStep old s x l (Register q) e new = QueryStep old s q e new ⊎ QueryCutStep old s q e new
CommandStep old s x l (Union name members) e new = UnionStep old s name members e new
CommandStep old s x l (Open c q) e new = OpenStep old s x c q e new
CommandStep old s x l (Next c count) e new = MatchOption (cursor_of x.cursors c)
    (RefusedStep old s NoCursor e new)
    (λ k. IsSomeAnd (listed_of old.store.queries k.query)
    (λ q. NextStepAt old s c q count k.position e new))
CommandStep old s x l (Close c) e new = MatchOption (cursor_of x.cursors c)
    (RefusedStep old s NoCursor e new)
    (λ k. CloseStep old s c e new)
CommandStep old s x l Quit e new = EndsWith (lost_line x.batch ++ bye) SaidQuit old s e new
CommandStep old s x l Stop e new =
    EndsWith (lost_line x.batch ++ bye) SaidStop (record old { stopped = true }) s e new
CommandStep old s x l (Drop q) e new = DropStep old s q e new
CommandStep old s x l (Has q row) e new = HasStep old s q row e new
CommandStep old s x l (Watch q) e new = WatchStep old s x q e new
CommandStep old s x l (Unwatch q) e new = UnwatchStep old s q e new
CommandStep old s x l (Explain q) e new = MatchOption (listed_of old.store.queries q)
    (RefusedStep old s NoQuery e new)
    (λ k. ExplainStepOf old s k e new)
CommandStep old s x l (AskShape q) e new = ShapeStep old s q e new
CommandStep old s x l Batch e new = BatchStep old s e new
CommandStep old s x l (Done given) e new = MatchOption x.batch ⊥ (λ held. DoneStep old s held given e new)
CommandStep old s x l Abandon e new = AbandonStep old s e new
