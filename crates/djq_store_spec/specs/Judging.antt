-- Whether the lines of a transaction have their places, each over what those before it leave, and why not.
use Rattle.std.specs.Prelude.{ℕ, List, [], ◌∷◌, ◌≡◌, ◌+◌, ◌++◌, ◌==◌, ◌≤◌, ◌⊎◌, ◌&&◌, ◌||◌, Bool, false, not, nat_le}
use Rattle.std.specs.Prelude.{Option, None, Some, Result, Ok, Err, ⊤, length, filter, fold, nat_lt, if◌then◌else◌}
use Rattle.std.specs.List.{list_any}
use Rattle.std.specs.Option.{option_or, option_map}
use Rattle.djq_model.specs.declared.relation.Relation.{Relation}
use Rattle.djq_model.specs.Data.{Bytes, Tuple, bytes_eq, rows_of}
use Rattle.djq_model.specs.Known.{texts_in, all_learned}
use Rattle.djq_protocol.specs.declared.limits.TheConstants.{ROWS, COPIES, TEXTS}
use Rattle.djq_store_spec.specs.Relations.{LearnsFirst, FindsNoPlace}
use Rattle.djq_protocol.specs.declared.held.Verb.{Verb}
use Rattle.djq_protocol.specs.declared.held.Verb.TheVariants.{Add, Delete}
use Rattle.djq_store_spec.specs.Held.{HeldLine}
use Rattle.djq_protocol.specs.declared.held.LineRefusal.{LineRefusal}
use Rattle.djq_protocol.specs.declared.held.RefusedLine.{RefusedLine}
use Rattle.djq_protocol.specs.declared.held.LineRefusal.TheVariants.{Limit, Absent, NoMemory}
use Rattle.djq_store_spec.specs.Lines.{same_row, first_lines, copies_before, copies_after}

-- the texts of a row that a line adds
abbrev pub texts_by : Verb → Tuple → List Bytes
texts_by Add row = texts_in row
texts_by Delete row = []

abbrev pub texts_added : HeldLine → List Bytes
texts_added h = texts_by h.verb h.row

-- the known texts after lines: those of the rows that they add are known
abbrev pub texts_after : List Bytes → List HeldLine → List Bytes
texts_after texts lines = fold (λ known h. all_learned known (texts_added h)) texts lines

-- whether one of these lines is of a line's row
abbrev pub names_row_before : List HeldLine → HeldLine → Bool
names_row_before front h = list_any (λ g. same_row g h) front

-- Whether a row is new: it wasn't there, and no line before names it. The first line of a row that
-- wasn't there adds it, if all lines have their places.
abbrev pub is_new : List Relation → List HeldLine → HeldLine → Bool
is_new relations front h = (copies_before relations h == 0) && not (names_row_before front h)

-- how many rows a relation has together with those that lines have added, still there or not
abbrev pub rows_reached : List Relation → List HeldLine → Bytes → ℕ
rows_reached relations front name = length (rows_of relations name)
    + length (filter (λ g. bytes_eq g.relation name && (copies_before relations g == 0)) (first_lines front))

-- a limit is reached, or isn't
abbrev pub limit_if : Bool → Option LineRefusal
limit_if b = if b then Some Limit else None

-- Why a line's row is refused, over what the lines before it leave: the row has as many copies as it
-- may, or its relation as many rows; or a row that is to be deleted has no copy.
abbrev pub refusal_by : Verb → List Relation → List HeldLine → HeldLine → Option LineRefusal
refusal_by Add relations front h = limit_if (nat_le COPIES (copies_after relations front h)
    || (is_new relations front h && nat_le ROWS (rows_reached relations front h.relation)))
refusal_by Delete relations front h = if copies_after relations front h == 0 then Some Absent else None

abbrev pub row_refusal : List Relation → List HeldLine → HeldLine → Option LineRefusal
row_refusal relations front h = refusal_by h.verb relations front h

-- Why a line's texts are refused: with them more would be known than may be.
abbrev pub texts_refusal : List Bytes → HeldLine → Option LineRefusal
texts_refusal known h = limit_if (nat_lt TEXTS (length (all_learned known (texts_added h))))

-- why a line is refused: its row, then its texts
abbrev pub line_refusal : List Relation → List Bytes → List HeldLine → HeldLine → Option LineRefusal
line_refusal relations texts front h =
    option_or (row_refusal relations front h) (texts_refusal (texts_after texts front) h)

-- the refusal of the line at a place
abbrev pub refused_at : ℕ → Option LineRefusal → Option RefusedLine
refused_at at refusal = option_map (λ r. record { at = at; refusal = r }) refusal

-- the first line that has a refusal, of lines that follow others
abbrev pub refusal_behind : List Relation → List Bytes → List HeldLine → List HeldLine → Option RefusedLine
refusal_behind relations texts front [] = None
refusal_behind relations texts front (h ∷ rest) =
    option_or (refused_at (length front) (line_refusal relations texts front h))
    (refusal_behind relations texts (front ++ h ∷ []) rest)

-- the first line that has a refusal: its place, and why
abbrev pub lines_refusal : List Relation → List Bytes → List HeldLine → Option RefusedLine
lines_refusal relations texts lines = refusal_behind relations texts [] lines

-- a refusal is for want of memory, or this holds
abbrev pub UnlessMemory : LineRefusal → Type 0 → Type 0
UnlessMemory Limit holds = holds
UnlessMemory Absent holds = holds
UnlessMemory NoMemory holds = ⊤

-- Lines are answered as the first that has a refusal: if none has one they pass. But memory may be
-- refused at an earlier line.
abbrev pub AnswersAs : {A : Type 0} → Option RefusedLine → Result A RefusedLine → Type 0
AnswersAs refusal (Ok a) = refusal ≡ None
AnswersAs refusal (Err r) = UnlessMemory r.refusal (refusal ≡ Some r)

-- Why lines pass only up to one of them, before which these texts are known: its row has no place, or a
-- text of it finds none; or memory is refused, which is asked for only if no line before names the row.
-- The first of its texts have become known.
abbrev pub StopsAtLine : List Relation → List HeldLine → List Bytes → HeldLine → List Bytes → LineRefusal
    → Type 0
StopsAtLine relations front texts h known Limit =
    ((row_refusal relations front h ≡ Some Limit) × (known ≡ texts))
    ⊎ ((row_refusal relations front h ≡ None) × FindsNoPlace texts (texts_added h) known)
StopsAtLine relations front texts h known Absent =
    (row_refusal relations front h ≡ Some Absent) × (known ≡ texts)
StopsAtLine relations front texts h known NoMemory =
    (row_refusal relations front h ≡ None) × (names_row_before front h ≡ false)
    × LearnsFirst texts (texts_added h) known × (length known ≤ TEXTS)

-- A line has its place over what those before it leave, and its texts are known.
pub record HasItsPlace (relations : List Relation) (front : List HeldLine) (texts : List Bytes)
    (h : HeldLine) (known : List Bytes) : Type 0 where
  pub passes : row_refusal relations front h ≡ None
  pub learned : known ≡ all_learned texts (texts_added h)
  pub few : length known ≤ TEXTS

-- Lines are refused at one of them, and all before it have their places.
pub record RefusesLines (relations : List Relation) (texts : List Bytes) (lines : List HeldLine)
    (known : List Bytes) (r : RefusedLine) : Type 0 where
  pub front : List HeldLine
  pub at : HeldLine
  pub rest : List HeldLine
  pub parts : lines ≡ front ++ at ∷ rest
  pub place : r.at ≡ length front
  pub places : lines_refusal relations texts front ≡ None
  pub stops : StopsAtLine relations front (texts_after texts front) at known r.refusal
