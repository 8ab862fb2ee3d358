-- A mirror: the answers of one query, by the lines that a session was sent.
use Rattle.std.specs.Prelude.{◌≡◌, ◌≤◌, List, [], ◌∷◌, ◌++◌, ◌&&◌, ◌||◌, Bool, true, false, not}
use Rattle.std.specs.Prelude.{Option, None, Some, if◌then◌else◌, codes, length}
use Rattle.std.specs.List.{flat_map, list_any}
use Rattle.std.specs.List.Sorted.{IsStrictlySortedBy}
use Rattle.std.specs.Cmp.Lexicographic.{slice_cmp}
use Rattle.std.specs.Ordering.{nat_cmp}
use Rattle.djq_model.specs.Data.{Bytes, bytes_eq}
use Rattle.djq_protocol.specs.declared.answer.Sign.{Sign}
use Rattle.djq_protocol.specs.declared.answer.Sign.TheVariants.{Came, Went}
use Rattle.djq_protocol.specs.Reply.{line, cells_text}
use Rattle.djq_mirror.specs.declared.mode.Mode.{Mode}
use Rattle.djq_mirror.specs.declared.mode.Mode.TheVariants.{Idle, Listing, Live}
use Rattle.djq_mirror.specs.declared.mode.TheConstants.{REPLY_LINE_BYTES}
use Rattle.djq_mirror.specs.Replies.{Reply, opened, answer, more, last, stale, changed, counted, IsReply}

-- What a mirror holds: its mode, and the texts of answers, which are their values, each after a
-- space.
pub record Held : Type 0 where
  pub mode : Mode
  pub texts : List Bytes

-- What contracts see of a mirror: its query, and what it holds.
pub record SeenMirror : Type 0 where
  pub name : Bytes
  pub held : Held

-- It holds nothing at first.
abbrev pub at_first : Held
at_first = record { mode = Idle; texts = [] }

-- what a line does to the texts: nothing; all are dropped; one is inserted; one is removed
pub data Act : Type 0 where
  keep : Act
  clear : Act
  put : Bytes → Act
  take_out : Bytes → Act

-- what an answer that was added or removed does in each mode: the next mode, and the act on the
-- texts
abbrev pub turn_of_change : Mode → Sign → Bytes → Mode × Act
turn_of_change Idle s t = (Idle, keep)
turn_of_change Listing s t = (Idle, keep)
turn_of_change Live Came t = (Live, put t)
turn_of_change Live Went t = (Live, take_out t)

-- and what the number of a change does
abbrev pub turn_of_count : Mode → Mode × Act
turn_of_count Idle = (Idle, keep)
turn_of_count Listing = (Idle, keep)
turn_of_count Live = (Live, keep)

-- What a line of each form does in each mode; none if it is not allowed there. Lines of other
-- names and of all other forms do nothing, the last lines of a session among them, which begin with
-- `end` too.
abbrev pub turn_of : Bytes → Mode → Reply → Option (Mode × Act)
turn_of name mode opened = Some (Listing, clear)
turn_of name Idle (answer t) = Some (Idle, keep)
turn_of name Listing (answer t) = Some (Listing, put (cells_text t))
turn_of name Live (answer t) = None
turn_of name Idle more = Some (Idle, keep)
turn_of name Listing more = Some (Listing, keep)
turn_of name Live more = None
turn_of name Idle last = Some (Idle, keep)
turn_of name Listing last = Some (Live, keep)
turn_of name Live last = Some (Live, keep)
turn_of name mode (changed s query t) =
    Some (if bytes_eq query name then turn_of_change mode s (cells_text t) else (mode, keep))
turn_of name mode (counted query n) =
    Some (if bytes_eq query name then turn_of_count mode else (mode, keep))
turn_of name mode (stale cursor relation n) = Some (Idle, keep)
turn_of name mode r = Some (mode, keep)

-- whether a text is among these
abbrev pub has_text : List Bytes → Bytes → Bool
has_text texts t = list_any (bytes_eq t) texts

-- A text is inserted if it isn't there, and removed if it is.
abbrev pub may_act : List Bytes → Act → Bool
may_act texts keep = true
may_act texts clear = true
may_act texts (put t) = not (has_text texts t)
may_act texts (take_out t) = has_text texts t

-- whether a line does something, and the texts are such that it may
abbrev pub may_turn : List Bytes → Option (Mode × Act) → Bool
may_turn texts None = false
may_turn texts (Some turn) = may_act texts turn.1

-- whether a line of this form is allowed
abbrev pub allows : Bytes → Held → Reply → Bool
allows name held r = may_turn held.texts (turn_of name held.mode r)

-- Texts are in byte order, each once.
abbrev pub IsInOrder : List Bytes → Type 0
IsInOrder texts = IsStrictlySortedBy (slice_cmp nat_cmp) texts

-- the texts after an act, by which texts are among them
abbrev pub Acted : List Bytes → Act → List Bytes → Type 0
Acted old keep new = new ≡ old
Acted old clear new = new ≡ []
Acted old (put t) new =
    IsInOrder new × ((u : Bytes) → has_text new u ≡ (bytes_eq t u || has_text old u))
Acted old (take_out t) new =
    IsInOrder new × ((u : Bytes) → has_text new u ≡ (not (bytes_eq t u) && has_text old u))

-- what is held after a line that does this, by what was held
abbrev pub Turned : Held → Option (Mode × Act) → Held → Type 0
Turned old None new = ⊥
Turned old (Some turn) new = (new.mode ≡ turn.0) × Acted old.texts turn.1 new.texts

-- Bytes without an LF are a line of this form that isn't too long.
pub record IsReplyLine (bytes : Bytes) (r : Reply) : Type 0 where
  pub reply : IsReply bytes r
  pub short : length bytes ≤ REPLY_LINE_BYTES

-- Bytes without an LF are a line that is allowed, and this is held after it.
pub record Follows (name : Bytes) (old : Held) (bytes : Bytes) (new : Held) : Type 0 where
  pub reply : Reply
  pub is_line : IsReplyLine bytes reply
  pub allowed : allows name old reply ≡ true
  pub turned : Turned old (turn_of name old.mode reply) new

-- Bytes without an LF are no line that is allowed.
abbrev pub IsOutside : Bytes → Held → Bytes → Type 0
IsOutside name held bytes = (r : Reply) → IsReplyLine bytes r → allows name held r ≡ false

-- What is written of a mirror at the end: in mode Live its answers as lines, and `end`; else `none`.
abbrev pub written_in : Mode → List Bytes → Bytes
written_in Live texts = flat_map (λ t. line (61 ∷ t)) texts ++ line (codes "end")
written_in mode texts = line (codes "none")

-- what is written at the end of a mirror that holds this
abbrev pub written : Held → Bytes
written held = written_in held.mode held.texts
