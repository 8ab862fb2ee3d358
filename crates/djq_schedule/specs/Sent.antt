-- What a replay writes: the lines that were sent to sessions, or which line of the schedule is the
-- first that is outside the grammar.
use Rattle.std.specs.Prelude.{ℕ, List, [], ◌∷◌, ◌++◌, ◌==◌, if◌then◌else◌, codes}
use Rattle.std.specs.Fmt.{decimal}
use Rattle.djq_io.specs.Calls.{sent_to}
use Rattle.djq_io.specs.declared.hub.Told.{Told}
use Rattle.djq_io.specs.declared.hub.Told.TheVariants.{Sending}
use Rattle.djq_model.specs.Data.{Bytes}

-- a line of a session, after its number
abbrev pub session_line : ℕ → Bytes → Bytes
session_line s line = decimal s ++ codes "< " ++ line ++ 10 ∷ []

-- The lines of a session that end in these bytes. The first began so, in bytes before them.
abbrev pub ended_lines : ℕ → Bytes → Bytes → Bytes
ended_lines s begun [] = []
ended_lines s begun (b ∷ bytes) = if b == 10 then session_line s begun ++ ended_lines s [] bytes
    else ended_lines s (begun ++ b ∷ []) bytes

-- What follows the last LF of these bytes, and all of them if there is none, after this.
abbrev pub begun_line : Bytes → Bytes → Bytes
begun_line begun [] = begun
begun_line begun (b ∷ bytes) = if b == 10 then begun_line [] bytes
    else begun_line (begun ++ b ∷ []) bytes

-- the lines that end in what a call sends, after these calls
abbrev pub lines_ended_by : List Told → Told → Bytes
lines_ended_by earlier (Sending s offered sent taken) = ended_lines s (begun_line [] (sent_to s earlier)) taken
lines_ended_by earlier _ = []

-- the lines that end in what calls send, after those earlier ones, in the order of the calls
abbrev pub text_behind : List Told → List Told → Bytes
text_behind earlier [] = []
text_behind earlier (t ∷ told) = lines_ended_by earlier t ++ text_behind (earlier ++ t ∷ []) told

-- **What was sent**: each line after its session's number, in the order in which their LFs were
-- sent. What a session was sent after its last LF is no line.
abbrev pub sent_text : List Told → Bytes
sent_text told = text_behind [] told

-- the line that reports which line is the first outside the grammar
abbrev pub outside_line : ℕ → Bytes
outside_line n = codes "schedule " ++ decimal n ++ 10 ∷ []
