-- What a line reports, read from the bytes by its first word.
use Rattle.std.specs.Prelude.{ℕ, List, [], ◌∷◌, ◌&&◌, ◌||◌, Bool, false, nat_lt, Option, None, Some}
use Rattle.std.specs.Prelude.{if◌then◌else◌, codes, decimal, drop, length}
use Rattle.std.specs.List.{list_all, list_any}
use Rattle.djq_model.specs.Data.{Bytes, bytes_eq}
use Rattle.djq_value.specs.Literal.{is_name, natural_of}
use Rattle.djq_protocol.specs.declared.answer.Sign.{Sign}
use Rattle.djq_protocol.specs.declared.answer.Sign.TheVariants.{Came, Went}
use Rattle.djq_protocol.specs.Reply.{cells_text}
use Rattle.djq_mirror.specs.declared.mode.Mode.{Mode}
use Rattle.djq_mirror.specs.declared.mode.Mode.TheVariants.{Idle, Listing, Live}
use Rattle.djq_mirror.specs.declared.told.Told.{Told}
use Rattle.djq_mirror.specs.declared.told.Told.TheVariants.{Opened, Answer, More, Last, Stale}
use Rattle.djq_mirror.specs.declared.told.Told.TheVariants.{Changed, Counted, Nothing}
use Rattle.djq_mirror.specs.declared.turn.Act.{Act as CodeAct}
use Rattle.djq_mirror.specs.declared.turn.Act.TheVariants.{Keep, Clear, Put, TakeOut}
use Rattle.djq_mirror.specs.Cells.{are_cells_in}
use Rattle.djq_mirror.specs.Mirror.{Act, keep, clear, put, take_out, turn_of_change, turn_of_count}
use Rattle.djq_model.specs.Parts.{before, behind}
use Rattle.djq_mirror.specs.Parts.{parts, parts_left}
use Rattle.djq_mirror.specs.Replies.{Reply, opened, answer, more, last, stale, changed, counted, is_printed_variable}

-- what a line reports of a listing or of a query
pub data News : Type 0 where
  opens : News
  lists : Bytes → News
  goes_on : News
  ends : News
  makes_stale : News
  changes : Sign → Bytes → Bytes → News
  counts : Bytes → News
  nothing : News

-- what a line of each form reports
abbrev pub news_of : Reply → News
news_of opened = opens
news_of (answer t) = lists (cells_text t)
news_of more = goes_on
news_of last = ends
news_of (stale cursor relation n) = makes_stale
news_of (changed s query t) = changes s query (cells_text t)
news_of (counted query n) = counts query
news_of r = nothing

-- what the code read
abbrev pub news_by : Told → News
news_by Opened = opens
news_by (Answer cells) = lists cells.now
news_by More = goes_on
news_by Last = ends
news_by Stale = makes_stale
news_by (Changed s query cells) = changes s query.now cells.now
news_by (Counted query) = counts query.now
news_by Nothing = nothing

-- what the code does to the texts
abbrev pub act_by : CodeAct → Act
act_by Keep = keep
act_by Clear = clear
act_by (Put text) = put text.now
act_by (TakeOut text) = take_out text.now

-- what news does in each mode
abbrev pub turn_by : Bytes → Mode → News → Option (Mode × Act)
turn_by name mode opens = Some (Listing, clear)
turn_by name Idle (lists t) = Some (Idle, keep)
turn_by name Listing (lists t) = Some (Listing, put t)
turn_by name Live (lists t) = None
turn_by name Idle goes_on = Some (Idle, keep)
turn_by name Listing goes_on = Some (Listing, keep)
turn_by name Live goes_on = None
turn_by name Idle ends = Some (Idle, keep)
turn_by name Listing ends = Some (Live, keep)
turn_by name Live ends = Some (Live, keep)
turn_by name mode makes_stale = Some (Idle, keep)
turn_by name mode (changes s query t) =
    Some (if bytes_eq query name then turn_of_change mode s t else (mode, keep))
turn_by name mode (counts query) =
    Some (if bytes_eq query name then turn_of_count mode else (mode, keep))
turn_by name mode nothing = Some (mode, keep)

-- Words.

-- whether a word is this number as it is printed, and the number is one of 64 bits
abbrev pub number_as : Bytes → Option ℕ → Bool
number_as w None = false
number_as w (Some n) = nat_lt n 18446744073709551616 && bytes_eq w (decimal n)

-- a number of 64 bits as it is printed
abbrev pub is_printed_number : Bytes → Bool
is_printed_number w = number_as w (natural_of w)

-- variables with commas between them
abbrev pub is_edge_word : Bytes → Bool
is_edge_word w = list_all is_printed_variable (parts 44 w)

-- a label: a dash, or variables with commas between them
abbrev pub is_label_word : Bytes → Bool
is_label_word w = bytes_eq w (codes "-") || is_edge_word w

-- Lines by their words.

-- after `ok`: a word and a number, or a word and two
abbrev pub is_counted : List Bytes → Bool
is_counted (w ∷ n ∷ []) =
    (bytes_eq w (codes "absent") || bytes_eq w (codes "held") || bytes_eq w (codes "query")
    || bytes_eq w (codes "union") || bytes_eq w (codes "watch")) && is_printed_number n
is_counted (w ∷ n ∷ m ∷ []) =
    (bytes_eq w (codes "added") || bytes_eq w (codes "removed") || bytes_eq w (codes "done"))
    && (is_printed_number n && is_printed_number m)
is_counted ws = false

-- after `no`: a word and edges, of which there is one at least
abbrev pub is_rest_told : List Bytes → Bool
is_rest_told (w ∷ e ∷ es) =
    (bytes_eq w (codes "cyclic") || bytes_eq w (codes "connex")) && list_all is_edge_word (e ∷ es)
is_rest_told ws = false

-- a label, and `out` or nothing after it
abbrev pub is_label_end : List Bytes → Bool
is_label_end (l ∷ []) = is_label_word l
is_label_end (l ∷ o ∷ []) = is_label_word l && bytes_eq o (codes "out")
is_label_end ws = false

-- after `leaf`: a relation, a label, and `out` or nothing
abbrev pub is_leaf_told : List Bytes → Bool
is_leaf_told [] = false
is_leaf_told (r ∷ ws) = is_name r && is_label_end ws

-- after `trim`: the number of a node, a label, and `out` or nothing
abbrev pub is_trim_told : List Bytes → Bool
is_trim_told [] = false
is_trim_told (c ∷ ws) = is_printed_number c && is_label_end ws

-- after `meet`: the numbers of two nodes, a label, and `out` or nothing
abbrev pub is_meet_told : List Bytes → Bool
is_meet_told [] = false
is_meet_told (g ∷ ws) = is_printed_number g && is_trim_told ws

-- after the number of a node
abbrev pub is_node_kind : List Bytes → Bool
is_node_kind [] = false
is_node_kind (k ∷ ws) =
    if bytes_eq k (codes "leaf") then is_leaf_told ws
    else (if bytes_eq k (codes "trim") then is_trim_told ws
    else (bytes_eq k (codes "meet") && is_meet_told ws))

-- after `n`
abbrev pub is_node_told : List Bytes → Bool
is_node_told [] = false
is_node_told (j ∷ ws) = is_printed_number j && is_node_kind ws

-- after `m`
abbrev pub is_member_told : List Bytes → Bool
is_member_told (n ∷ []) = is_name n
is_member_told ws = false

-- after `stale`
abbrev pub is_stale_told : List Bytes → Bool
is_stale_told (c ∷ r ∷ n ∷ []) = is_name c && (is_name r && is_printed_number n)
is_stale_told ws = false

-- after `at`
abbrev pub count_told : List Bytes → Option News
count_told (q ∷ n ∷ []) = if is_name q && is_printed_number n then Some (counts q) else None
count_told ws = None

-- the lines that are always the same and report nothing
abbrev pub fixed_lines : List Bytes
fixed_lines =
    codes "ok" ∷ codes "ok batch" ∷ codes "yes" ∷ codes "no" ∷ codes "flat" ∷ codes "linear"
    ∷ codes "union" ∷ codes "bye" ∷ codes "end long" ∷ codes "end slow" ∷ codes "end memory" ∷ codes "end full"
    ∷ codes "err 1 syntax" ∷ codes "err 2 taken" ∷ codes "err 3 no relation"
    ∷ codes "err 4 no query" ∷ codes "err 5 no cursor" ∷ codes "err 6 arity" ∷ codes "err 7 type"
    ∷ codes "err 8 head unbound" ∷ codes "err 9 head repeated" ∷ codes "err 10 variable type"
    ∷ codes "err 11 limit" ∷ codes "err 12 memory" ∷ codes "err 13 cut" ∷ codes "err 14 in use"
    ∷ codes "err 16 unbound" ∷ codes "err 17 member" ∷ codes "err 18 batch"
    ∷ codes "err 19 absent" ∷ codes "err 20 held" ∷ []

-- whether a line is one of these
abbrev pub is_fixed : Bytes → Bool
is_fixed line = list_any (λ fixed. bytes_eq fixed line) fixed_lines

-- news if a test holds
abbrev pub told_if : Bool → News → Option News
told_if test news = if test then Some news else None

-- a line that reports nothing, by its first word and those after it
abbrev pub is_worded : Bytes → List Bytes → Bool
is_worded first ws =
    if bytes_eq first (codes "ok") then is_counted ws
    else (if bytes_eq first (codes "no") then is_rest_told ws
    else (if bytes_eq first (codes "n") then is_node_told ws
    else (bytes_eq first (codes "m") && is_member_told ws)))

-- a line of words alone, if it is none of a listing
abbrev pub word_told : Bytes → Bytes → List Bytes → Option News
word_told line first ws =
    if bytes_eq first (codes "at") then count_told ws
    else (if bytes_eq first (codes "stale") then told_if (is_stale_told ws) makes_stale
    else told_if (is_fixed line || is_worded first ws) nothing)

-- a line of words alone
abbrev pub words_told : Bytes → Bytes → List Bytes → Option News
words_told line first ws =
    if bytes_eq line (codes "ok open") then Some opens
    else (if bytes_eq line (codes "more") then Some goes_on
    else (if bytes_eq line (codes "end") then Some ends else word_told line first ws))

-- after the sign of an answer that was added or removed: the query, and the values
abbrev pub change_told : Sign → Option Bytes → Option News
change_told s None = None
change_told s (Some rest) =
    told_if (is_name (before 32 rest) && are_cells_in (drop (length (before 32 rest)) rest))
    (changes s (before 32 rest) (drop (length (before 32 rest)) rest))

-- a line by its first word and what follows that
abbrev pub line_told : Bytes → Bytes → Option Bytes → Option News
line_told line first rest =
    if bytes_eq first (codes "=") then told_if (are_cells_in (drop 1 line)) (lists (drop 1 line))
    else (if bytes_eq first (codes "+") then change_told Came rest
    else (if bytes_eq first (codes "-") then change_told Went rest
    else words_told line first (parts_left 32 rest)))

-- What a line reports; none if it is of no form.
abbrev pub news_in : Bytes → Option News
news_in line = line_told line (before 32 line) (behind 32 line)
