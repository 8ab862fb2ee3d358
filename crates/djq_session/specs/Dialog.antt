-- What contracts see of a session, and what its calls do to it.
use Rattle.std.specs.Prelude.{ℕ, List, [], ◌∷◌, ◌≡◌, ◌+◌, ◌++◌, ◌≤◌, ◌<◌, ◌||◌, ◌&&◌, Bool, true, false, not, nat_lt}
use Rattle.std.specs.Prelude.{Option, None, Some, is_some, is_none, Result, Ok, Err, length, find, AllPairs}
use Rattle.djq_model.specs.Data.{Bytes, bytes_eq}
use Rattle.djq_protocol.specs.declared.limits.TheConstants.{CURSORS, LAST_LINE_BYTES}
use Rattle.djq_protocol.specs.declared.answer.EndCause.{EndCause}
use Rattle.djq_protocol.specs.Line.{Front, dry, front_of}
pub use Rattle.djq_protocol.specs.Reply.{cut_line}
use Rattle.djq_store_spec.specs.Held.{HeldTransaction, nothing_held}
pub use Rattle.djq_store_spec.specs.Held.{lost_line}
use Rattle.djq_session.specs.declared.named.NamedCursor.{NamedCursor}
use Rattle.djq_session.specs.Keeps.{KeepsRoom}

-- A session.
pub record Dialog (C Q : Type 0) : Type 0 where
  -- bytes that arrived and aren't run
  pub held : Bytes
  -- bytes that were queued and aren't sent
  pub pending : Bytes
  -- how many bytes more can be queued without allocating
  pub room : ℕ
  -- why it accepts no further commands
  pub cause : Option EndCause
  -- in the order in which they were opened
  pub cursors : List (NamedCursor C)
  -- what it watches, in the order of watching
  pub watches : List Q
  -- the lines that its batch holds, if one is open
  pub batch : Option HeldTransaction

-- the cursor of a name
abbrev pub named : {C : Type 0} → List (NamedCursor C) → Bytes → Option (NamedCursor C)
named cursors name = find (λ n. bytes_eq n.name name) cursors

-- whether a cursor has this name
abbrev pub cursor_is_named : {C : Type 0} → Bytes → NamedCursor C → Bool
cursor_is_named name n = bytes_eq n.name name

-- A session has few cursors, whose names differ, and room for its last line as long as it isn't ended.
pub record DialogIsKept {C : Type 0} (why : Option EndCause) (spare : ℕ) (names : List (NamedCursor C)) : Type 0 where
  pub room : KeepsRoom why spare
  pub few : length names ≤ CURSORS
  pub different : AllPairs (λ a b. bytes_eq a.name b.name ≡ false) names

-- whether something is due to a session: bytes are pending for it, or it has ended
abbrev pub dialog_is_due : {C Q : Type 0} → Dialog C Q → Bool
dialog_is_due d = nat_lt 0 (length d.pending) || is_some d.cause

-- whether bytes hold no whole line and aren't too long for one
abbrev pub holds_no_line : Front → Bool
holds_no_line dry = true
holds_no_line _ = false

-- whether a session's next line may be run: it isn't ended, and holds a whole line, or a front that is too long for one
abbrev pub dialog_is_ready : {C Q : Type 0} → Dialog C Q → Bool
dialog_is_ready d = is_none d.cause && not (holds_no_line (front_of d.held))

-- Nothing arrived, nothing is queued, and nothing is named.
pub record IsNewDialog {C Q : Type 0} (d : Dialog C Q) : Type 0 where
  pub held : d.held ≡ []
  pub pending : d.pending ≡ []
  pub cause : d.cause ≡ None
  pub cursors : d.cursors ≡ []
  pub watches : d.watches ≡ []
  pub batch : d.batch ≡ None

-- A reply is queued in the room that there is, and nothing else changes.
abbrev pub Replies : {C Q : Type 0} → Dialog C Q → Dialog C Q → Bytes → Type 0
Replies old new text = new ≡ record old { pending = old.pending ++ text; room = new.room }

-- A text is queued, and nothing else changes. The room, with what is in it, doesn't fall.
pub record Queues {C Q : Type 0} (old new : Dialog C Q) (text : Bytes) : Type 0 where
  pub queued : new ≡ record old { pending = old.pending ++ text; room = new.room }
  pub kept : LAST_LINE_BYTES ≤ new.room
  pub room : old.room ≤ new.room + length text

-- The room was too small for a text and the last line, and nothing else changes.
pub record DialogLacks {C Q : Type 0} (old new : Dialog C Q) (text : Bytes) : Type 0 where
  pub same : new ≡ record old { room = new.room }
  pub room : old.room ≤ new.room
  pub lacks : old.room < length text + LAST_LINE_BYTES

-- A text is queued, or the room was too small for it.
abbrev pub MayQueue : {C Q A E : Type 0} → Dialog C Q → Dialog C Q → Bytes → Result A E → Type 0
MayQueue old new text (Ok a) = Queues old new text
MayQueue old new text (Err e) = DialogLacks old new text

-- Room is made for a text of this length and the last line; or there was too little, and as much as there was is left.
abbrev pub KeepsFor : {A E : Type 0} → ℕ → ℕ → ℕ → Result A E → Type 0
KeepsFor count old new (Ok a) = (count + LAST_LINE_BYTES ≤ new) × (old ≤ new)
KeepsFor count old new (Err e) = (old ≤ new) × (old < count + LAST_LINE_BYTES)

-- A text is queued, the cause stored, and the batch dropped, if one was open.
abbrev pub DialogEndsWith : {C Q : Type 0} → Dialog C Q → Dialog C Q → Bytes → EndCause → Type 0
DialogEndsWith old new text cause = new
    ≡ record old { pending = old.pending ++ text; room = new.room; cause = Some cause; batch = None }

-- what a batch holds; nothing if none is open
abbrev pub held_in_batch : Option HeldTransaction → HeldTransaction
held_in_batch None = nothing_held
held_in_batch (Some held) = held

-- The last cursor is removed, and what was stored for it is returned.
abbrev pub PopsCursor : {C Q : Type 0} → Dialog C Q → Dialog C Q → Option C → Type 0
PopsCursor old new None = (old.cursors ≡ []) × (new ≡ old)
PopsCursor {C = C} old new (Some c) = (name : Bytes)
    × (old.cursors ≡ new.cursors ++ record { name = name; cursor = c } ∷ [])
    × (new ≡ record old { cursors = new.cursors })

-- The last watch is removed, and is returned.
abbrev pub PopsWatch : {C Q : Type 0} → Dialog C Q → Dialog C Q → Option Q → Type 0
PopsWatch old new None = (old.watches ≡ []) × (new ≡ old)
PopsWatch old new (Some q) = (old.watches ≡ new.watches ++ q ∷ []) × (new ≡ record old { watches = new.watches })
