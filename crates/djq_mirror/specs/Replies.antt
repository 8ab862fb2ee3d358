-- The lines that a session is sent, by their forms. A form defines what is printed and how, and not which
-- numbers, names and values are possible: `ok query 4` is a line of the forms, though no query costs 4.
use Rattle.std.specs.Prelude.{◌≡◌, ℕ, ◌<◌, ◌^◌, List, [], ◌∷◌, ◌++◌, ◌&&◌, ◌||◌, Bool, true, false, Ok, codes, decimal}
use Rattle.std.specs.List.{list_all, flat_map}
use Rattle.std.specs.Str.{is_utf8}
use Rattle.djq_model.specs.declared.value.Value.{Value}
use Rattle.djq_model.specs.declared.value.Value.TheVariants.{Int, Text}
use Rattle.djq_model.specs.Data.{Bytes, Tuple, bytes_eq}
use Rattle.djq_value.specs.Literal.{is_name, is_small_value}
use Rattle.djq_protocol.specs.declared.answer.EndLine.{EndLine}
use Rattle.djq_protocol.specs.declared.answer.Refusal.{Refusal}
use Rattle.djq_protocol.specs.declared.answer.Shape.{Shape}
use Rattle.djq_protocol.specs.declared.answer.Sign.{Sign}
use Rattle.djq_protocol.specs.Reply.{
  line,
  numbered_line,
  numbered_twice,
  answer_line,
  last_line,
  stale_line,
  member_line,
  has_reply,
  shape_reply,
  change_line,
  at_line,
  refusal_line,
  end_line,
  input_cut,
  bye as bye_line,
}
use Rattle.djq_tree.specs.Explaining.{end_text}

-- what an explained node is: a leaf over a relation, a trim of a node, or a meet of two nodes
pub data Node : Type 0 where
  leaf : Bytes → Node
  trim : ℕ → Node
  meet : ℕ → ℕ → Node

-- the form of a line that a session is sent, with what the line reports
pub data Reply : Type 0 where
  -- a command was done, or a cursor opened
  done : Reply
  opened : Reply
  -- rows: the number of changes, and the copies of the row
  added : ℕ → ℕ → Reply
  removed : ℕ → ℕ → Reply
  absent : ℕ → Reply
  -- a batch: opened; lines that it holds; or done, with the number of changes and of the rows that were inserted and deleted
  batch_opened : Reply
  lines_held : ℕ → Reply
  batch_done : ℕ → ℕ → Reply
  -- a query: the most that an answer of it costs, or the edges of a rest
  registered : ℕ → Reply
  cyclic : List (List Bytes) → Reply
  not_connex : List (List Bytes) → Reply
  -- a listing: an answer; `more`, or `end` if no answer is left; or a cursor that a change of a
  -- relation made stale
  answer : Tuple → Reply
  more : Reply
  last : Reply
  stale : Bytes → Bytes → ℕ → Reply
  -- a union: the most that an answer of it costs; and one of its members
  united : ℕ → Reply
  member : Bytes → Reply
  -- whether a tuple is an answer, and the shape of a query
  had : Bool → Reply
  shaped : Shape → Reply
  -- a watch: begun; an answer of a query that was added or removed; and the number of the change
  watched : ℕ → Reply
  changed : Sign → Bytes → Tuple → Reply
  counted : Bytes → ℕ → Reply
  -- a node of a tree: its number, what it is, its label, and whether it is printed `out`
  explained : ℕ → Node → List Bytes → Bool → Reply
  -- a refusal, and the last lines of a session
  refused : Refusal → Reply
  ended : EndLine → Reply
  cut : Reply
  bye : Reply

-- names with commas between them
abbrev pub joined : List Bytes → Bytes
joined [] = []
joined (x ∷ xs) = x ++ flat_map (λ y. 44 ∷ y) xs

-- words, then edges, each after a space
abbrev pub edges_line : Bytes → List (List Bytes) → Bytes
edges_line words edges = line (words ++ flat_map (λ e. 32 ∷ joined e) edges)

-- a label: a dash if it has no variable
abbrev pub label_of : List Bytes → Bytes
label_of [] = codes "-"
label_of (x ∷ xs) = joined (x ∷ xs)

-- what an explained node is, as it is printed
abbrev pub node_of : Node → Bytes
node_of (leaf r) = codes "leaf " ++ r
node_of (trim c) = codes "trim " ++ decimal c
node_of (meet g s) = codes "meet " ++ decimal g ++ codes " " ++ decimal s

-- the bytes of a line, with its LF
abbrev pub reply_text : Reply → Bytes
reply_text done = line (codes "ok")
reply_text opened = line (codes "ok open")
reply_text (added n copies) = numbered_twice (codes "ok added ") n copies
reply_text (removed n copies) = numbered_twice (codes "ok removed ") n copies
reply_text (absent n) = numbered_line (codes "ok absent ") n
reply_text batch_opened = line (codes "ok batch")
reply_text (lines_held n) = numbered_line (codes "ok held ") n
reply_text (batch_done n rows) = numbered_twice (codes "ok done ") n rows
reply_text (registered most) = numbered_line (codes "ok query ") most
reply_text (cyclic edges) = edges_line (codes "no cyclic") edges
reply_text (not_connex edges) = edges_line (codes "no connex") edges
reply_text (answer t) = answer_line t
reply_text more = last_line false
reply_text last = last_line true
reply_text (stale cursor relation n) = stale_line cursor relation n
reply_text (united most) = numbered_line (codes "ok union ") most
reply_text (member name) = member_line name
reply_text (had found) = has_reply (Ok found)
reply_text (shaped s) = shape_reply (Ok s)
reply_text (watched n) = numbered_line (codes "ok watch ") n
reply_text (changed s query t) = change_line s query t
reply_text (counted query n) = at_line query n
reply_text (explained j node label out) =
    codes "n " ++ decimal j ++ codes " " ++ node_of node
    ++ codes " " ++ label_of label ++ end_text out
reply_text (refused r) = refusal_line r
reply_text (ended e) = end_line e
reply_text cut = input_cut
reply_text bye = bye_line

-- a number that is printed: one of 64 bits
abbrev pub IsNumber : ℕ → Type 0
IsNumber n = n < 2 ^ 64

-- an integer, or a text that is UTF-8
abbrev pub is_text : Value → Bool
is_text (Int i) = true
is_text (Text t) = is_utf8 t

-- a value that is printed: within its limit, and UTF-8 if it is a text
abbrev pub is_cell : Value → Bool
is_cell v = is_small_value v && is_text v

-- values that are printed
abbrev pub are_cells : Tuple → Bool
are_cells t = list_all is_cell t

-- a variable as it is printed: its name, or `_` for a hole
abbrev pub is_printed_variable : Bytes → Bool
is_printed_variable x = is_name x || bytes_eq x (codes "_")

-- the variables of a label
abbrev pub is_label : List Bytes → Bool
is_label xs = list_all is_printed_variable xs

-- the variables of an edge, of which there is one at least
abbrev pub is_edge : List Bytes → Bool
is_edge [] = false
is_edge (x ∷ xs) = is_label (x ∷ xs)

-- the edges of a rest, of which there is one at least
abbrev pub is_rest : List (List Bytes) → Bool
is_rest [] = false
is_rest (e ∷ es) = list_all is_edge (e ∷ es)

-- a node as it is printed: its relation has a name, and the nodes below it have numbers of 64 bits
abbrev pub IsNode : Node → Type 0
IsNode (leaf r) = is_name r ≡ true
IsNode (trim c) = IsNumber c
IsNode (meet g s) = IsNumber g × IsNumber s

-- Each part of a line is as it is printed.
abbrev pub IsPrinted : Reply → Type 0
IsPrinted (added n copies) = IsNumber n × IsNumber copies
IsPrinted (removed n copies) = IsNumber n × IsNumber copies
IsPrinted (absent n) = IsNumber n
IsPrinted (lines_held n) = IsNumber n
IsPrinted (batch_done n rows) = IsNumber n × IsNumber rows
IsPrinted (registered most) = IsNumber most
IsPrinted (cyclic edges) = is_rest edges ≡ true
IsPrinted (not_connex edges) = is_rest edges ≡ true
IsPrinted (answer t) = are_cells t ≡ true
IsPrinted (stale cursor relation n) = (is_name cursor ≡ true) × (is_name relation ≡ true) × IsNumber n
IsPrinted (united most) = IsNumber most
IsPrinted (member name) = is_name name ≡ true
IsPrinted (watched n) = IsNumber n
IsPrinted (changed s query t) = (is_name query ≡ true) × (are_cells t ≡ true)
IsPrinted (counted query n) = (is_name query ≡ true) × IsNumber n
IsPrinted (explained j node label out) = IsNumber j × IsNode node × (is_label label ≡ true)
IsPrinted r = Unit {0}

-- These bytes, without an LF, are a line of this form.
pub record IsReply (bytes : Bytes) (r : Reply) : Type 0 where
  pub printed : IsPrinted r
  pub text : line bytes ≡ reply_text r
