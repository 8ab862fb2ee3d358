-- One step of the machine: what an event may do to the state, and what it queues.
use Rattle.std.specs.Prelude.{ℕ, List, [], ◌∷◌, ◌==◌, ◌≡◌, ◌++◌, ◌<◌, ◌⊎◌, Bool, true, false, not}
use Rattle.std.specs.Prelude.{None, IsSomeAnd, MatchOption, length, filter, All, IsPermutation}
use Rattle.djq_model.specs.declared.relation.Relation.{Relation}
use Rattle.djq_model.specs.Data.{Bytes}
use Rattle.djq_protocol.specs.declared.limits.TheConstants.{SESSIONS}
use Rattle.djq_protocol.specs.declared.answer.EndCause.TheVariants.{Input, Memory}
use Rattle.djq_protocol.specs.Line.{Front, dry, front_of}
use Rattle.djq_protocol.specs.Reply.{end_memory}
pub use Rattle.djq_protocol.specs.Reply.{cut_line}
use Rattle.djq_machine.specs.State.{Session, State, fresh, session_of, with_session, ended_by}
use Rattle.djq_machine.specs.Effect.{Effect, nothing, says_any, lost_line, EndsWith, queue_all}
use Rattle.djq_machine.specs.LineStep.{LineOutcome, FrontStep}

-- An event: what is fed to the machine.
pub data Event : Type 0 where
  -- a session opens
  opened : ℕ → Event
  -- bytes of it arrive
  fed : ℕ → Bytes → Event
  -- the front of its bytes has this outcome
  stepped : ℕ → LineOutcome → Event
  -- bytes for it are sent
  took : ℕ → Bytes → Event
  -- its input has ended
  ended : ℕ → Event
  -- it is closed, and these bytes for it are dropped
  closed : ℕ → Bytes → Event

-- whether bytes hold no whole line and aren't too long for one
abbrev pub is_dry : Bytes → Bool
is_dry held = dry_front (front_of held)
  where
    dry_front : Front → Bool
    dry_front dry = true
    dry_front _ = false

-- A session opens with an id above the others, if fewer than the limit are open; else, and out of memory, nothing
-- changes.
abbrev pub OpenedStep : State → ℕ → Effect → State → Type 0
OpenedStep old s e new = (e ≡ nothing) × All (λ x. x.id < s) old.sessions
    × (((length old.sessions < SESSIONS) × (new ≡ record old { sessions = old.sessions ++ fresh s ∷ [] })) ⊎
    (new ≡ old))

-- Bytes are held after those of the session, or it ends out of memory. If it has ended they are dropped.
abbrev pub FedStep : State → ℕ → Bytes → Session → Effect → State → Type 0
FedStep old s bytes x e new = MatchOption x.cause
    (((e ≡ nothing) × (new ≡ with_session old s (λ y. record y { held = y.held ++ bytes }))) ⊎ EndsWith end_memory
    Memory old s e new)
    (λ _. (e ≡ nothing) × (new ≡ old))

-- The first of the bytes that are pending are sent.
abbrev pub TookStep : State → ℕ → Bytes → Session → Effect → State → Type 0
TookStep old s bytes x e new = (e ≡ nothing)
    × ((rest : Bytes) × (x.pending ≡ bytes ++ rest) × (new ≡ with_session old s (λ y. record y { pending = rest })))

-- A session whose input ends ends with it. It is reported if bytes of a line are held, and if lines of a batch are.
abbrev pub EndedStep : State → ℕ → Session → Effect → State → Type 0
EndedStep old s x e new = MatchOption x.cause
    ((is_dry x.held ≡ true) × (e ≡ says_any s (cut_line x.held ++ lost_line x.batch))
    × (new ≡ with_session old s (ended_by Input)))
    (λ _. (e ≡ nothing) × (new ≡ old))

-- What an event does, before its bytes are queued.
abbrev pub Acts : State → Event → Effect → State → Type 0
Acts old (opened s) e new = OpenedStep old s e new
Acts old (fed s bytes) e new = IsSomeAnd (session_of old s) (λ x. FedStep old s bytes x e new)
Acts old (stepped s outcome) e new = IsSomeAnd (session_of old s)
    (λ x. (x.cause ≡ None) × FrontStep old s x outcome e new)
Acts old (took s bytes) e new = IsSomeAnd (session_of old s) (λ x. TookStep old s bytes x e new)
Acts old (ended s) e new = IsSomeAnd (session_of old s) (λ x. EndedStep old s x e new)
Acts old (closed s bytes) e new = (e ≡ nothing) × IsSomeAnd (session_of old s) (λ x. x.pending ≡ bytes)
    × (new ≡ record old { sessions = filter (λ x. not (x.id == s)) old.sessions })

-- the same relations, each with its rows and their copies in any order
abbrev pub SameRelations : List Relation → List Relation → Type 0
SameRelations [] [] = Unit {0}
SameRelations (r ∷ rs) (q ∷ qs) = (q.name ≡ r.name) × (q.types ≡ r.types) × IsPermutation r.rows q.rows
    × SameRelations rs qs
SameRelations [] (q ∷ qs) = ⊥
SameRelations (r ∷ rs) [] = ⊥

-- the state with other relations
abbrev pub with_relations : State → List Relation → State
with_relations st relations = record st { store = record st.store { relations = relations } }

-- One step of the machine: an event acts, and its bytes are queued. The rows may be stored in another order from then on.
pub record Step (old : State) (event : Event) (e : Effect) (new : State) : Type 0 where
  pub mid : State
  pub acts : Acts old event e mid
  pub relations : List Relation
  pub reordered : SameRelations mid.store.relations relations
  pub queued : new ≡ queue_all (with_relations mid relations) e.queued
