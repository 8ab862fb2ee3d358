-- What a session is sent in reply to `next`, against what its cursors have given.
use Rattle.std.specs.Prelude.{
  ℕ,
  List,
  [],
  ◌∷◌,
  ◌==◌,
  ◌≡◌,
  ◌++◌,
  ◌&&◌,
  not,
  Bool,
  true,
  false,
  Option,
  None,
  Some,
  if◌then◌else◌,
  option_map,
  map,
  codes,
}
use Rattle.std.specs.List.{flat_map}
use Rattle.djq_model.specs.Data.{Bytes, Tuple, bytes_eq}
use Rattle.djq_model.specs.Answer.{IsListing}
use Rattle.djq_model.specs.Listed.{Listed, AnswersOf}
use Rattle.djq_protocol.specs.declared.command.Command.TheVariants.{Open, Next}
use Rattle.djq_protocol.specs.Grammar.{Reading, says_command, reading_of}
use Rattle.djq_protocol.specs.declared.answer.Refusal.TheVariants.{Misplaced}
use Rattle.djq_protocol.specs.Reply.{line, text_of, listing_lines, refusal_line}
use Rattle.djq_machine.specs.State.{State, Session, Cursor, session_of, cursor_of}
use Rattle.djq_store_spec.specs.Store.{Position, open_at}
use Rattle.djq_machine.specs.LineStep.{run}
use Rattle.djq_machine.specs.Step.{Event, stepped}
use Rattle.djq_machine.specs.Run.{Did, Run, to_session}
use Rattle.djq_run_laws.specs.Live.{HasListed}
use Rattle.djq_run_laws.specs.Sound.{IsStart}

-- whether a reply to `open` reports that the cursor is open
abbrev pub is_opened : Bytes → Bool
is_opened reply = bytes_eq reply (line (codes "ok open"))

-- whether a reply refuses a command that isn't for a session with a batch open
abbrev pub is_misplacing : Bytes → Bool
is_misplacing reply = bytes_eq reply (refusal_line Misplaced)

-- The replies to `next` on a cursor of a name, once a line had this reply: there are none after one
-- that opened it, and none to one that a batch doesn't let through.
abbrev pub replies_behind : Bytes → List Bytes → Reading → Bytes → List Bytes
replies_behind c replies (says_command (Open d q)) reply =
    if bytes_eq d c && is_opened reply then [] else replies
replies_behind c replies (says_command (Next d n)) reply =
    if bytes_eq d c && not (is_misplacing reply) then replies ++ reply ∷ [] else replies
replies_behind c replies _ reply = replies

-- those to a session's, once an event queued this to it
abbrev pub replies_after : ℕ → Bytes → List Bytes → Event → Bytes → List Bytes
replies_after s c replies (stepped t (run l)) reply =
    if t == s then replies_behind c replies (reading_of l) reply else replies
replies_after s c replies _ reply = replies

-- The replies to a session's `next` on a cursor of a name that a run queues, since it opened such a
-- cursor last.
abbrev pub replies_since : ℕ → Bytes → List Bytes → List Did → List Bytes
replies_since s c replies [] = replies
replies_since s c replies (d ∷ done) =
    replies_since s c (replies_after s c replies d.event (to_session s d.effect.queued)) done

-- a reply to `next`: answers, and whether the end follows them
pub record Page : Type 0 where
  pub answers : List Tuple
  pub end : Bool

-- its lines: one for each answer, and the last one
abbrev pub page_text : Page → Bytes
page_text p = text_of (listing_lines p.answers p.end)

-- whether the last of these pages has the end; as before if there is none
abbrev pub last_end : Bool → List Page → Bool
last_end end [] = end
last_end end (p ∷ pages) = last_end p.end pages

-- Replies have, page by page, the answers that were given, in order, and the end after the last of
-- them if and only if the cursor is finished.
pub record TellGiven (replies : List Bytes) (given : List Tuple) (finished : Bool) : Type 0 where
  pub pages : List Page
  pub texts : map page_text pages ≡ replies
  pub answers : flat_map (λ p. p.answers) pages ≡ given
  pub end : last_end false pages ≡ finished

-- the position of the cursor of a name
abbrev pub position_among : List Cursor → Bytes → Option Position
position_among cursors c = option_map (λ k. k.position) (cursor_of cursors c)

-- the position of the cursor of a name in a session, if there is one
abbrev pub position_in : Option Session → Bytes → Option Position
position_in None c = None
position_in (Some x) c = position_among x.cursors c

-- the position of a session's cursor of a name; none if it has no such cursor
abbrev pub session_position : State → ℕ → Bytes → Option Position
session_position st s c = position_in (session_of st s) c

-- What an open cursor has given is what its session was sent since it opened it: so it is along
-- every run from a state to start from.
abbrev pub GivenIsTold : Type 0
GivenIsTold = (start : State) → IsStart start → (s : ℕ) (c : Bytes) (done : List Did) (new : State)
    → Run start done new → (given : List Tuple) (finished : Bool)
    → session_position new s c ≡ Some (open_at given finished)
    → TellGiven (replies_since s c [] done) given finished

-- A session that has listed a query was sent the listing, since it opened the cursor: each answer
-- over the present rows, once, and the end.
abbrev pub ListedIsTold : Type 0
ListedIsTold = (start : State) → IsStart start → (q : Listed) (s : ℕ) (given : List Tuple)
    (done : List Did) (new : State) → Run start done new → (h : HasListed q s new given)
    → TellGiven (replies_since s (h.cursor).name [] done) given true
    × IsListing (AnswersOf new.store.relations q) given
