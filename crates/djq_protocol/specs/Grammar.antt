-- The lines of the protocol: which command a line is.
--
--     line  = "rel" name type *type           type = "int" | "text"
--           | "add" name literal *literal     | "del" name literal *literal
--           | "query" query                   | "drop" name
--           | "union" name name name *name
--           | "open" name name                | "next" name count
--           | "close" name                    | "has" name *literal
--           | "watch" name                    | "unwatch" name
--           | "explain" name                  | "shape" name
--           | "batch" | "done" [number]       | "abandon" | "quit" | "stop"
--     query = name "(" [name *("," name)] ")" "<-" item *("," item)     one atom at least
--     item  = atom | name sign literal        sign = "<" | "<=" | ">" | ">=" | "=" | "!="
--     atom  = name "(" [term *("," term)] ")"
--     term  = name | "_" | literal
--
-- A literal is an integer or a text; a count is an integer of digits alone, from 1 to 1000, and a
-- number one of any size. Keywords and types may be names too: the place distinguishes them. Signs are
-- read as long as they can be, so `x<-5` isn't a comparison, and `x < -5` is one. The bytes of a line
-- are UTF-8.
use Rattle.std.specs.Prelude.{
  ℕ,
  zero,
  suc,
  List,
  [],
  ◌∷◌,
  ◌&&◌,
  Bool,
  true,
  false,
  nat_le,
  Option,
  None,
  Some,
  if◌then◌else◌,
  option_map,
  length,
  codes,
}
use Rattle.std.specs.List.{list_all}
use Rattle.std.specs.Str.{is_utf8}
use Rattle.djq_model.specs.declared.value.Value.{Value}
use Rattle.djq_model.specs.declared.relation.ColumnType.{ColumnType}
use Rattle.djq_model.specs.declared.relation.ColumnType.TheVariants.{
  Int as IntColumn,
  Text as TextColumn,
}
use Rattle.djq_model.specs.declared.query.Term.{Term}
use Rattle.djq_model.specs.declared.query.Term.TheVariants.{Variable, Hole, Constant}
use Rattle.djq_model.specs.declared.query.Atom.{Atom}
use Rattle.djq_model.specs.declared.query.Operator.{Operator}
use Rattle.djq_model.specs.declared.query.Comparison.{Comparison}
use Rattle.djq_model.specs.declared.query.Query.{Query}
use Rattle.djq_model.specs.Data.{Bytes, bytes_eq}
use Rattle.djq_value.specs.Token.{
  Token,
  word,
  open_paren,
  close_paren,
  comma,
  arrow,
  operator,
  tokens,
}
use Rattle.djq_value.specs.Literal.{is_name, is_small_value, literal_of, natural_of}
use Rattle.djq_protocol.specs.declared.limits.TheConstants.{NEXT_COUNT, LAST_COUNT}
use Rattle.djq_protocol.specs.declared.keyword.Keyword.{Keyword}
use Rattle.djq_protocol.specs.declared.keyword.Keyword.TheVariants.{
  Rel as RelWord,
  Add as AddWord,
  Del as DelWord,
  Query as QueryWord,
  Union as UnionWord,
  Drop as DropWord,
  Open as OpenWord,
  Next as NextWord,
  Close as CloseWord,
  Has as HasWord,
  Watch as WatchWord,
  Unwatch as UnwatchWord,
  Explain as ExplainWord,
  Shape as ShapeWord,
  Batch as BatchWord,
  Done as DoneWord,
  Abandon as AbandonWord,
  Quit as QuitWord,
  Stop as StopWord,
}
use Rattle.djq_protocol.specs.declared.command.Command.{Command}
use Rattle.djq_protocol.specs.declared.command.Command.TheVariants.{
  Rel,
  Add,
  Del,
  Query as Register,
  Union,
  Drop,
  Open,
  Next,
  Close,
  Has,
  Watch,
  Unwatch,
  Explain,
  Shape,
  Batch,
  Done,
  Abandon,
  Quit,
  Stop,
}

-- Items: the token of each.

-- a name
abbrev pub name_of : Token → Option Bytes
name_of (word w) = if is_name w then Some w else None
name_of _ = None

-- the type of a column
abbrev pub type_of : Token → Option ColumnType
type_of (word w) =
    if bytes_eq w (codes "int") then Some IntColumn
    else (if bytes_eq w (codes "text") then Some TextColumn else None)
type_of _ = None

-- a term of an atom: a variable, a hole or a constant
abbrev pub term_of : Token → Option Term
term_of (word w) =
    if is_name w then Some (Variable w)
    else (if bytes_eq w (codes "_") then Some Hole
    else option_map (λ v. Constant v) (literal_of (word w)))
term_of t = option_map (λ v. Constant v) (literal_of t)

-- Lists of items.

-- one item in front of others
abbrev pub in_front : {A : Type 0} → Option A → Option (List A) → Option (List A)
in_front (Some a) (Some more) = Some (a ∷ more)
in_front (Some a) None = None
in_front None _ = None

-- items to the line's end
abbrev pub all_of : {A : Type 0} → (Token → Option A) → List Token → Option (List A)
all_of item [] = Some []
all_of item (t ∷ ts) = in_front (item t) (all_of item ts)

-- one item in front of others, and what follows them
abbrev pub put_first : {A : Type 0} → Option A → Option (List A × List Token)
    → Option (List A × List Token)
put_first (Some a) (Some r) = Some (a ∷ r.0, r.1)
put_first (Some a) None = None
put_first None _ = None

-- the items of a list after its first, to its `)`, and what follows that
abbrev pub more_in : {A : Type 0} → (Token → Option A) → List Token → Option (List A × List Token)
more_in item (close_paren ∷ ts) = Some ([], ts)
more_in item (comma ∷ t ∷ ts) = put_first (item t) (more_in item ts)
more_in item _ = None

-- a list in parentheses, with commas between its items, and what follows it
abbrev pub list_in : {A : Type 0} → (Token → Option A) → List Token → Option (List A × List Token)
list_in item (open_paren ∷ close_paren ∷ ts) = Some ([], ts)
list_in item (open_paren ∷ t ∷ ts) = put_first (item t) (more_in item ts)
list_in item _ = None

-- Queries.

-- an atom over a relation, and what follows it
abbrev pub atom_over : Bytes → List Term × List Token → Atom × List Token
atom_over relation r = (record { relation = relation; terms = r.0 }, r.1)

-- an atom, and what follows it
abbrev pub atom_in : List Token → Option (Atom × List Token)
atom_in (word r ∷ ts) = if is_name r then option_map (atom_over r) (list_in term_of ts) else None
atom_in _ = None

-- What is between the commas of a body.
pub data Item : Type 0 where
  atom : Atom → Item
  comparison : Comparison → Item

-- a comparison that follows so many atoms
abbrev pub compared : ℕ → Bytes → Operator → Value → Comparison
compared n x o v = record { variable = x; operator = o; constant = v; behind = n }

-- a comparison of a variable, and what follows it
abbrev pub comparison_of : ℕ → Bytes → Operator → List Token → Option (Item × List Token)
comparison_of n x o (t ∷ ts) =
    if is_name x then option_map (λ v. (comparison (compared n x o v), ts)) (literal_of t) else None
comparison_of n x o [] = None

-- an item that follows so many atoms, and what follows it: a comparison where its second
-- token is a comparison's sign, and else an atom
abbrev pub item_in : ℕ → List Token → Option (Item × List Token)
item_in n (word x ∷ operator o ∷ ts) = comparison_of n x o ts
item_in n ts = option_map (λ r. (atom r.0, r.1)) (atom_in ts)

-- the atoms and the comparisons of a body
abbrev pub Body : Type 0
Body = List Atom × List Comparison

-- a body with an item more in front
abbrev pub put_item : Item → Option Body → Option Body
put_item (atom a) (Some b) = Some (a ∷ b.0, b.1)
put_item (comparison c) (Some b) = Some (b.0, c ∷ b.1)
put_item _ None = None

-- how many atoms precede what follows an item
abbrev pub past_item : ℕ → Item → ℕ
past_item n (atom a) = suc n
past_item n (comparison c) = n

-- an item, and the items after a comma
abbrev pub behind_item : (ℕ → List Token → Option Body) → ℕ → Option (Item × List Token)
    → Option Body
behind_item more n None = None
behind_item more n (Some (i, [])) = put_item i (Some ([], []))
behind_item more n (Some (i, comma ∷ ts)) = put_item i (more (past_item n i) ts)
behind_item more n (Some (i, _ ∷ ts)) = None

-- Each item has a token at least, so the number of tokens is enough for all.
abbrev pub items_within : ℕ → ℕ → List Token → Option Body
items_within zero n ts = None
items_within (suc k) n ts = behind_item (items_within k) n (item_in n ts)

-- items with commas between, to the line's end, so many atoms before them
unfoldable pub items_in : ℕ → List Token → Option Body
items_in n ts = items_within (length ts) n ts

-- a body with one atom at least
abbrev pub with_atoms : Option Body → Option Body
with_atoms None = None
with_atoms (Some ([], comparisons)) = None
with_atoms (Some (a ∷ atoms, comparisons)) = Some (a ∷ atoms, comparisons)

-- after the head of a query
abbrev pub body_in : List Token → Option Body
body_in (arrow ∷ ts) = with_atoms (items_in 0 ts)
body_in _ = None

-- after the name of a query
abbrev pub query_of : Bytes → Option (List Bytes × List Token) → Option Query
query_of name None = None
query_of name (Some head) = option_map (λ body. record {
  name = name;
  head = head.0;
  atoms = body.0;
  comparisons = body.1;
}) (body_in head.1)

-- a query to the line's end: its name, its head and its body
abbrev pub query_of_tokens : List Token → Option Query
query_of_tokens (word n ∷ ts) = if is_name n then query_of n (list_in name_of ts) else None
query_of_tokens _ = None

-- What follows a keyword.

-- a name and items, if any, to the line's end
abbrev pub named_any : {A : Type 0} → (Token → Option A) → List Token → Option (Bytes × List A)
named_any item (word n ∷ ts) =
    if is_name n then option_map (λ xs. (n, xs)) (all_of item ts) else None
named_any item _ = None

-- a name and items, one at least, to the line's end
abbrev pub named_some : {A : Type 0} → (Token → Option A) → List Token → Option (Bytes × List A)
named_some item (word n ∷ t ∷ ts) = named_any item (word n ∷ t ∷ ts)
named_some item _ = None

-- a name, and names of which there are two at least, to the line's end
abbrev pub name_and_members : List Token → Option (Bytes × List Bytes)
name_and_members (n ∷ a ∷ b ∷ ts) = named_some name_of (n ∷ a ∷ b ∷ ts)
name_and_members _ = None

-- one name
abbrev pub one_name : List Token → Option Bytes
one_name (word n ∷ []) = if is_name n then Some n else None
one_name _ = None

-- two names
abbrev pub two_names : List Token → Option (Bytes × Bytes)
two_names (word m ∷ word n ∷ []) = if is_name m && is_name n then Some (m, n) else None
two_names _ = None

-- a count of answers
abbrev pub is_count : ℕ → Bool
is_count k = nat_le 1 k && nat_le k NEXT_COUNT

-- a number, if it is a count of answers
abbrev pub answer_count : Option ℕ → Option ℕ
answer_count (Some k) = if is_count k then Some k else None
answer_count None = None

-- a name and a count
abbrev pub name_and_count : List Token → Option (Bytes × ℕ)
name_and_count (word c ∷ word k ∷ []) =
    if is_name c then option_map (λ n. (c, n)) (answer_count (natural_of k)) else None
name_and_count _ = None

-- nothing
abbrev pub at_line_end : Command → List Token → Option Command
at_line_end command [] = Some command
at_line_end command (t ∷ ts) = None

-- a number, or the last number for each one past it
abbrev pub number_or_last : ℕ → ℕ
number_or_last n = if nat_le n LAST_COUNT then n else LAST_COUNT

-- nothing, or one number
abbrev pub number_if_any : List Token → Option (Option ℕ)
number_if_any [] = Some None
number_if_any (word k ∷ []) = option_map (λ n. Some (number_or_last n)) (natural_of k)
number_if_any _ = None

-- Commands.

-- the keyword that a word is
abbrev pub keyword_of : Bytes → Option Keyword
keyword_of w =
    if bytes_eq w (codes "rel") then Some RelWord
    else (if bytes_eq w (codes "add") then Some AddWord
    else (if bytes_eq w (codes "del") then Some DelWord
    else (if bytes_eq w (codes "query") then Some QueryWord
    else (if bytes_eq w (codes "union") then Some UnionWord
    else (if bytes_eq w (codes "drop") then Some DropWord
    else (if bytes_eq w (codes "open") then Some OpenWord
    else (if bytes_eq w (codes "next") then Some NextWord
    else (if bytes_eq w (codes "close") then Some CloseWord
    else (if bytes_eq w (codes "has") then Some HasWord
    else (if bytes_eq w (codes "watch") then Some WatchWord
    else (if bytes_eq w (codes "unwatch") then Some UnwatchWord
    else (if bytes_eq w (codes "explain") then Some ExplainWord
    else (if bytes_eq w (codes "shape") then Some ShapeWord
    else (if bytes_eq w (codes "batch") then Some BatchWord
    else (if bytes_eq w (codes "done") then Some DoneWord
    else (if bytes_eq w (codes "abandon") then Some AbandonWord
    else (if bytes_eq w (codes "quit") then Some QuitWord
    else (if bytes_eq w (codes "stop") then Some StopWord
    else None))))))))))))))))))

-- the command that follows a keyword
abbrev pub command_behind : Keyword → List Token → Option Command
command_behind RelWord ts = option_map (λ p. Rel p.0 p.1) (named_some type_of ts)
command_behind AddWord ts = option_map (λ p. Add p.0 p.1) (named_some literal_of ts)
command_behind DelWord ts = option_map (λ p. Del p.0 p.1) (named_some literal_of ts)
command_behind QueryWord ts = option_map (λ q. Register q) (query_of_tokens ts)
command_behind UnionWord ts = option_map (λ p. Union p.0 p.1) (name_and_members ts)
command_behind DropWord ts = option_map (λ q. Drop q) (one_name ts)
command_behind OpenWord ts = option_map (λ p. Open p.0 p.1) (two_names ts)
command_behind NextWord ts = option_map (λ p. Next p.0 p.1) (name_and_count ts)
command_behind CloseWord ts = option_map (λ c. Close c) (one_name ts)
command_behind HasWord ts = option_map (λ p. Has p.0 p.1) (named_any literal_of ts)
command_behind WatchWord ts = option_map (λ q. Watch q) (one_name ts)
command_behind UnwatchWord ts = option_map (λ q. Unwatch q) (one_name ts)
command_behind ExplainWord ts = option_map (λ q. Explain q) (one_name ts)
command_behind ShapeWord ts = option_map (λ q. Shape q) (one_name ts)
command_behind BatchWord ts = at_line_end Batch ts
command_behind DoneWord ts = option_map (λ n. Done n) (number_if_any ts)
command_behind AbandonWord ts = at_line_end Abandon ts
command_behind QuitWord ts = at_line_end Quit ts
command_behind StopWord ts = at_line_end Stop ts

-- the command of a keyword and what follows it; none if there is no keyword
abbrev pub command_with : Option Keyword → List Token → Option Command
command_with None ts = None
command_with (Some k) ts = command_behind k ts

-- a keyword, and what follows it
abbrev pub command_in : List Token → Option Command
command_in (word w ∷ ts) = command_with (keyword_of w) ts
command_in _ = None

-- The command of a line; none if it is outside the grammar.
unfoldable pub command_of : Bytes → Option Command
command_of line = if is_utf8 line then command_in (tokens line) else None

-- Limits.

-- a term whose literal, if it is one, is within its limit
abbrev pub is_small_term : Term → Bool
is_small_term (Constant v) = is_small_value v
is_small_term _ = true

-- an atom of which each literal is within its limit
abbrev pub is_small_atom : Atom → Bool
is_small_atom a = list_all is_small_term a.terms

-- whether each literal of a command is within its limit
abbrev pub is_in_range : Command → Bool
is_in_range (Add n row) = list_all is_small_value row
is_in_range (Del n row) = list_all is_small_value row
is_in_range (Has q row) = list_all is_small_value row
is_in_range (Register q) =
    list_all is_small_atom q.atoms && list_all (λ c. is_small_value c.constant) q.comparisons
is_in_range _ = true

-- a line of such a command may want memory as it is read
abbrev pub takes_memory_to_read : Command → Bool
takes_memory_to_read (Rel n cs) = true
takes_memory_to_read (Add n row) = true
takes_memory_to_read (Del n row) = true
takes_memory_to_read (Has q row) = true
takes_memory_to_read (Register q) = true
takes_memory_to_read (Union n qs) = true
takes_memory_to_read _ = false

-- How a line is read.
pub data Reading : Type 0 where
  -- nothing, as it is outside the grammar
  outside : Reading
  -- a command of which a literal is past its limit
  past_limit : Command → Reading
  -- a command whose literals are within their limits
  says_command : Command → Reading

-- how a line is read, by its command, if it has one
abbrev pub reading_in : Option Command → Reading
reading_in None = outside
reading_in (Some c) = if is_in_range c then says_command c else past_limit c

-- how a line is read
abbrev pub reading_of : Bytes → Reading
reading_of line = reading_in (command_of line)
