-- The forms of commands: what each may change, and what it leaves.
use Rattle.std.specs.Prelude.{
  ℕ,
  List,
  [],
  ◌∷◌,
  ◌≡◌,
  ◌≤◌,
  ◌<◌,
  ◌++◌,
  Bool,
  false,
  Option,
  None,
  Some,
  IsSome,
  length,
}
use Rattle.std.specs.List.{list_any}
use Rattle.djq_model.specs.declared.relation.ColumnType.{ColumnType}
use Rattle.djq_model.specs.Data.{Bytes, Tuple, bytes_eq, drop_first, relation_of}
use Rattle.djq_model.specs.Listed.{Listed, a_query, a_union, listed_name, AnswersOf, listed_of}
use Rattle.djq_model.specs.Known.{all_learned, texts_in}
use Rattle.djq_protocol.specs.declared.limits.TheConstants.{TEXTS, RELATIONS, COLUMNS, QUERIES, CURSORS}
use Rattle.djq_protocol.specs.declared.answer.EndCause.{EndCause}
use Rattle.djq_protocol.specs.declared.answer.EndCause.TheVariants.{Memory}
use Rattle.djq_protocol.specs.declared.held.Verb.{Verb}
use Rattle.djq_protocol.specs.declared.held.Verb.TheVariants.{Add as Adds, Delete as Deletes}
use Rattle.djq_protocol.specs.declared.command.Command.{Command}
use Rattle.djq_protocol.specs.declared.command.Command.TheVariants.{
  Rel,
  Add,
  Del,
  Query as Register,
  Union,
  Drop,
  Open,
  Next,
  Close,
  Has,
  Watch,
  Unwatch,
  Explain,
  Shape,
  Batch,
  Done,
  Abandon,
  Quit,
  Stop,
}
use Rattle.djq_protocol.specs.Variables.{constants_of}
use Rattle.djq_store_spec.specs.Store.{Store, open_at}
use Rattle.djq_machine.specs.State.{Session, Cursor, State, with_session, cursor_of}
use Rattle.djq_machine.specs.State.{with_position, ended_by}
use Rattle.djq_machine.specs.Keeping.{Keeping}
use Rattle.djq_machine.specs.Effect.{Effect}
use Rattle.djq_store_spec.specs.Listing.{TellsAnswers}
use Rattle.djq_store_spec.specs.Registering.{is_member}
use Rattle.djq_machine.specs.Command.{
  uses,
  with_cursor,
  with_watch,
  without_watch,
  with_batch,
  without_batch,
  AddStep,
  DeleteStep,
  DoneStep,
}
use Rattle.djq_store_spec.specs.Held.{HeldTransaction, nothing_held, holding}
use Rattle.djq_store_spec.specs.Transaction.{hold_refusal}
use Rattle.djq_run_laws.specs.Moved.{EndsByRun}
use Rattle.djq_run_laws.specs.Sound.{IsConnex, IsSoundListed, IsWithinLimits}

-- How a command may change the session that sends it.
pub data Turn : Type 0 where
  -- a cursor of a name opens over a query
  opens_cursor : Bytes → Bytes → Turn
  -- it gives further answers
  moves_cursor : Bytes → Turn
  -- it is closed
  closes_cursor : Bytes → Turn
  -- a query is watched
  starts_watching : Bytes → Turn
  -- it is watched no more
  stops_watching : Bytes → Turn
  -- a batch opens
  opens_batch : Turn
  -- it holds one line more, of these bytes, which adds or deletes a row
  holds_line : Bytes → Verb → Bytes → Tuple → Turn
  -- it is closed, and its lines are dropped
  closes_batch : Turn

-- What a command of rows may bring.
pub data RowCommand : Type 0 where
  -- a copy of a row is inserted
  row_comes : Bytes → Tuple → RowCommand
  -- one is deleted
  row_goes : Bytes → Tuple → RowCommand
  -- the lines that a batch holds are carried out, for which `done` may name their number, and the batch is closed
  carries_out : HeldTransaction → Option ℕ → RowCommand

-- A command asks; or it is of the store, of the session that sends it, or of rows; or it ends the
-- session.
pub data Form : Type 0 where
  asking : Form
  storing : Form
  turning : Turn → Form
  changing : RowCommand → Form
  ending : Form

-- `add`, if a batch is open or none is
abbrev pub add_form : Option HeldTransaction → Bytes → Bytes → Tuple → Form
add_form None l name row = changing (row_comes name row)
add_form (Some held) l name row = turning (holds_line l Adds name row)

-- `del`, likewise
abbrev pub delete_form : Option HeldTransaction → Bytes → Bytes → Tuple → Form
delete_form None l name row = changing (row_goes name row)
delete_form (Some held) l name row = turning (holds_line l Deletes name row)

-- `done`, which is misplaced if none is
abbrev pub done_form : Option HeldTransaction → Option ℕ → Form
done_form None given = asking
done_form (Some held) given = changing (carries_out held given)

-- the form of a command in a session with such a batch, if it is on this line
abbrev pub form_of : Option HeldTransaction → Bytes → Command → Form
form_of batch l (Rel name types) = storing
form_of batch l (Register q) = storing
form_of batch l (Union name members) = storing
form_of batch l (Drop q) = storing
form_of batch l (Add name row) = add_form batch l name row
form_of batch l (Del name row) = delete_form batch l name row
form_of batch l (Open c q) = turning (opens_cursor c q)
form_of batch l (Next c count) = turning (moves_cursor c)
form_of batch l (Close c) = turning (closes_cursor c)
form_of batch l (Watch q) = turning (starts_watching q)
form_of batch l (Unwatch q) = turning (stops_watching q)
form_of batch l (Has q row) = asking
form_of batch l (Explain q) = asking
form_of batch l (Shape q) = asking
form_of batch l Batch = turning opens_batch
form_of batch l (Done given) = done_form batch given
form_of batch l Abandon = turning closes_batch
form_of batch l Quit = ending
form_of batch l Stop = ending

-- One text is queued, to one session.
pub record SaysAlone (s : ℕ) (e : Effect) : Type 0 where
  pub text : Bytes
  pub cost : ℕ
  pub kept : Keeping
  pub effect : e ≡ record { queued = (s, text) ∷ []; cost = cost; kept = kept }

-- A state stays as a reply is sent; or the session ends, out of memory, in the midst of its reply.
pub data Replied (s : ℕ) (mid new : State) : Type 0 where
  is_whole : new ≡ mid → Replied s mid new
  is_cut : new ≡ with_session mid s (ended_by Memory) → Replied s mid new

-- Texts become known, or none does, and nothing else changes; no more are known than may be.
pub record LearnsTexts (old new : Store) : Type 0 where
  pub texts : List Bytes
  pub few : length old.texts ≤ TEXTS → length new.texts ≤ TEXTS
  pub store : new ≡ record old { texts = all_learned old.texts texts }

-- the texts that what is registered brings: those of a query's constants; a union brings none
abbrev pub listed_texts : Listed → List Bytes
listed_texts (a_query q) = texts_in (constants_of q)
listed_texts (a_union name qs) = []

-- A relation may be made if its name is new, it has a column at least and no more than it may, and there is a
-- place for it.
pub record MayMake (st : Store) (name : Bytes) (types : List ColumnType) : Type 0 where
  pub new : relation_of st.relations name ≡ None
  pub some : 1 ≤ length types
  pub columns : length types ≤ COLUMNS
  pub place : length st.relations < RELATIONS

-- What may be registered: a free-connex query within limits that reads relations that are there, or a
-- sound union.
abbrev pub MayRegister : Store → Listed → Type 0
MayRegister st (a_query q) =
    IsConnex (a_query q) × IsSoundListed st.relations st.queries (a_query q) × IsWithinLimits q
MayRegister st (a_union name qs) = IsSoundListed st.relations st.queries (a_union name qs)

-- How a command of the store changes it, if some queries are in use.
pub data Stored (used : Bytes → Bool) (old new : Store) : Type 0 where
  -- no more than that texts become known
  learns_texts : LearnsTexts old new → Stored used old new
  -- a relation that may be is made, without rows
  makes_relation : (name : Bytes) → (types : List ColumnType) → MayMake old name types
      → new ≡ record old {
        relations = old.relations ++ record { name = name; types = types; rows = [] } ∷ [];
      } → Stored used old new
  -- what may be, and is of a new name, is registered if there is a place, and its texts become known
  registers : (q : Listed) → listed_of old.queries (listed_name q) ≡ None → MayRegister old q
      → length old.queries < QUERIES → (length old.texts ≤ TEXTS → length new.texts ≤ TEXTS)
      → new ≡ record old {
        texts = all_learned old.texts (listed_texts q);
        queries = old.queries ++ q ∷ [];
      } → Stored used old new
  -- a query that isn't in use, nor a member of a union, is registered no more
  drops_query : (name : Bytes) → used name ≡ false → is_member old.queries name ≡ false
      → new ≡ record old { queries = drop_first (λ q. bytes_eq (listed_name q) name) old.queries }
      → Stored used old new

-- whether a session uses a query of a name
abbrev pub in_use : State → Bytes → Bool
in_use st q = list_any (uses q) st.sessions

-- A cursor of a session has given further answers.
pub record CursorMoves (old : State) (s : ℕ) (x : Session) (c : Bytes) (new : State) : Type 0 where
  pub cursor : Cursor
  pub is : cursor_of x.cursors c ≡ Some cursor
  pub query : Listed
  pub over : listed_of old.store.queries cursor.query ≡ Some query
  pub given : List Tuple
  pub finished : Bool
  pub stands : cursor.position ≡ open_at given finished
  pub count : ℕ
  pub told : List Tuple
  pub end : Bool
  pub tells : TellsAnswers (AnswersOf old.store.relations query) given count told end
  pub state : new ≡ with_session old s
      (λ y. record y { cursors = with_position y.cursors c (open_at (given ++ told) end) })

-- a session without its cursor of a name
abbrev pub without_cursor : Bytes → Session → Session
without_cursor c x = record x { cursors = drop_first (λ k. bytes_eq k.name c) x.cursors }

-- The batch of a session holds one line more, after the others.
pub record HoldsOneMore (old : State) (s : ℕ) (x : Session) (l : Bytes) (verb : Verb) (name : Bytes) (row : Tuple)
    (new : State) : Type 0 where
  pub held : HeldTransaction
  pub is : x.batch ≡ Some held
  pub suits : hold_refusal old.store held l name row ≡ None
  pub state : new ≡ with_session old s (with_batch (holding held verb name row l))

-- What a turn makes of a session.
abbrev pub SessionTurned : State → ℕ → Session → Turn → State → Type 0
SessionTurned old s x (opens_cursor c q) new = (cursor_of x.cursors c ≡ None)
    × IsSome (listed_of old.store.queries q) × (new ≡ with_session old s (with_cursor c q))
    × (length x.cursors < CURSORS)
SessionTurned old s x (moves_cursor c) new = CursorMoves old s x c new
SessionTurned old s x (closes_cursor c) new = new ≡ with_session old s (without_cursor c)
SessionTurned old s x (starts_watching q) new =
    IsSome (listed_of old.store.queries q) × (new ≡ with_session old s (with_watch q))
SessionTurned old s x (stops_watching q) new = new ≡ with_session old s (without_watch q)
SessionTurned old s x opens_batch new = new ≡ with_session old s (with_batch nothing_held)
SessionTurned old s x (holds_line l verb name row) new = HoldsOneMore old s x l verb name row new
SessionTurned old s x closes_batch new = new ≡ with_session old s without_batch

-- What a command of rows makes of a state.
abbrev pub RowsChanged : State → ℕ → RowCommand → Effect → State → Type 0
RowsChanged old s (row_comes name row) e new = AddStep old s name row e new
RowsChanged old s (row_goes name row) e new = DeleteStep old s name row e new
RowsChanged old s (carries_out held given) e new = DoneStep old s held given e new

-- A command of the store is answered, once it is done.
pub record DoesStore (old : State) (s : ℕ) (new : State) : Type 0 where
  pub store : Store
  pub stored : Stored (in_use old) old.store store
  pub replied : Replied s (record old { store = store }) new

-- A command of a session is done, or nothing changes but that its session may end.
pub data DoesTurn (old : State) (s : ℕ) (x : Session) (t : Turn) (new : State) : Type 0 where
  is_turned : SessionTurned old s x t new → DoesTurn old s x t new
  is_refused : Replied s old new → DoesTurn old s x t new

-- A session ends, and the server stops with it or not.
pub record DoesEnd (old : State) (s : ℕ) (new : State) : Type 0 where
  pub cause : EndCause
  pub may : EndsByRun cause
  pub stopped : Bool
  pub state : new ≡ with_session (record old { stopped = stopped }) s (ended_by cause)

-- What a command of a form does.
abbrev pub FormDoes : Form → State → ℕ → Session → Effect → State → Type 0
FormDoes asking old s x e new = SaysAlone s e × Replied s old new
FormDoes storing old s x e new = SaysAlone s e × DoesStore old s new
FormDoes (turning t) old s x e new = SaysAlone s e × DoesTurn old s x t new
FormDoes (changing c) old s x e new = RowsChanged old s c e new
FormDoes ending old s x e new = SaysAlone s e × DoesEnd old s new
