-- Schedules: which lines are in their grammar, and which turns of a hub they are.
use Rattle.std.specs.Prelude.{ℕ, List, [], ◌∷◌, ◌++◌, ◌==◌, ◌+◌, ◌*◌, ◌-◌, ◌&&◌, Bool, true, false}
use Rattle.std.specs.Prelude.{not, nat_le, nat_lt, nat_eq, Option, None, Some, is_none}
use Rattle.std.specs.Prelude.{if◌then◌else◌, filter, codes}
use Rattle.std.specs.List.{list_any}
use Rattle.djq_io.specs.declared.hub.Incoming.{Incoming}
use Rattle.djq_io.specs.declared.hub.Incoming.TheVariants.{Opens, Brings, Ends, Nothing}
use Rattle.djq_model.specs.Data.{Bytes, bytes_eq}
use Rattle.djq_model.specs.Parts.{before, behind, with_first}
use Rattle.djq_schedule.specs.declared.line.Keyword.{Keyword}
use Rattle.djq_schedule.specs.declared.line.Keyword.TheVariants.{Open, Say, Part, Again, Free, End}

-- the rest; none if there is none
abbrev pub rest_or_none : Option Bytes → Bytes
rest_or_none None = []
rest_or_none (Some rest) = rest

-- the lines of a schedule, without their LFs
abbrev pub schedule_lines : Bytes → List Bytes
schedule_lines [] = []
schedule_lines (b ∷ bytes) = if b == 10 then [] ∷ schedule_lines bytes else with_first b (schedule_lines bytes)

-- the keyword that a word is, if it is one
abbrev pub schedule_keyword_of : Bytes → Option Keyword
schedule_keyword_of word =
    if bytes_eq word (codes "open") then Some Open
    else (if bytes_eq word (codes "say") then Some Say
    else (if bytes_eq word (codes "part") then Some Part
    else (if bytes_eq word (codes "again") then Some Again
    else (if bytes_eq word (codes "free") then Some Free
    else (if bytes_eq word (codes "end") then Some End else None)))))

-- the number that these digits lead to from this one, if it is at most 1000000
abbrev pub id_from : ℕ → Bytes → Option ℕ
id_from id [] = Some id
id_from id (b ∷ bytes) = let next = id * 10 + (b - 48) in
    if nat_le 48 b && (nat_le b 57 && nat_le next 1000000) then id_from next bytes else None

-- a number from 1 to 1000000 without leading zeros
abbrev pub id_of : Bytes → Option ℕ
id_of [] = None
id_of (b ∷ bytes) = if b == 48 then None else id_from 0 (b ∷ bytes)

-- whether text may follow the number
abbrev pub takes_text : Keyword → Bool
takes_text Say = true
takes_text Part = true
takes_text _ = false

-- The meaning of a line: its keyword, the session, and the text after that, if there is some.
abbrev pub Order : Type 0
Order = Keyword × (ℕ × Option Bytes)

-- the meaning of a keyword, a session and a text; none without a session, or if no text may follow
abbrev pub order_with : Keyword → Option ℕ → Option Bytes → Option Order
order_with k None text = None
order_with k (Some id) text = if not (is_none text) && not (takes_text k) then None else Some
    (k, (id, text))

-- the meaning of a keyword and the rest of its line
abbrev pub order_behind : Option Keyword → Option Bytes → Option Order
order_behind (Some k) (Some rest) = order_with k (id_of (before 32 rest)) (behind 32 rest)
order_behind (Some k) None = None
order_behind None _ = None

-- the meaning of a line, at whatever stage it is; none if it has none
abbrev pub order_of : Bytes → Option Order
order_of line = order_behind (schedule_keyword_of (before 32 line)) (behind 32 line)

-- The stage of a schedule: the newest session, those that were opened, those whose input ended, and
-- those that read nothing now.
pub record Stage : Type 0 where
  pub newest : Option ℕ
  pub opened : List ℕ
  pub ended : List ℕ
  pub blocked : List ℕ

-- whether a session is one of these
abbrev pub is_session_among : List ℕ → ℕ → Bool
is_session_among ids id = list_any (λ other. nat_eq other id) ids

-- whether an id is above that of the newest session, if there is one
abbrev pub is_above : Option ℕ → ℕ → Bool
is_above None id = true
is_above (Some newest) id = nat_lt newest id

-- A session opens above those before; others are named if they were opened and, but to be freed, if
-- their input hasn't ended.
abbrev pub may_stand : Stage → Keyword → ℕ → Bool
may_stand st Open id = is_above st.newest id
may_stand st Free id = is_session_among st.opened id
may_stand st _ id = is_session_among st.opened id && not (is_session_among st.ended id)

-- the newest session, after a line
abbrev pub newest_after : Keyword → ℕ → Option ℕ → Option ℕ
newest_after Open id newest = Some id
newest_after _ id newest = newest

-- the sessions that were opened, after a line
abbrev pub opened_after : Keyword → ℕ → List ℕ → List ℕ
opened_after Open id ids = ids ++ id ∷ []
opened_after _ id ids = ids

-- the sessions whose input ended, after a line
abbrev pub ended_after : Keyword → ℕ → List ℕ → List ℕ
ended_after End id ids = ids ++ id ∷ []
ended_after _ id ids = ids

-- the sessions that read nothing, after a line
abbrev pub blocked_after : Keyword → ℕ → List ℕ → List ℕ
blocked_after Again id ids = ids ++ id ∷ []
blocked_after Free id ids = filter (λ other. not (nat_eq other id)) ids
blocked_after _ id ids = ids

-- the stage of a schedule, after a line
abbrev pub stage_after : Keyword → ℕ → Stage → Stage
stage_after k id st = record {
  newest = newest_after k id st.newest;
  opened =
      opened_after k id st.opened;
  ended = ended_after k id st.ended;
  blocked =
      blocked_after k id st.blocked;
}

-- the text of a line; no bytes if it has none
abbrev pub text_or_none : Option Bytes → Bytes
text_or_none None = []
text_or_none (Some text) = text

-- the turn of a line; the text of `say` ends with LF
abbrev pub turn_of_line : Keyword → ℕ → Option Bytes → Incoming
turn_of_line Open id text = Opens id
turn_of_line Say id text = Brings id (text_or_none text ++ 10 ∷ [])
turn_of_line Part id text = Brings id (text_or_none text)
turn_of_line Again id text = Nothing
turn_of_line Free id text = Nothing
turn_of_line End id text = Ends id
