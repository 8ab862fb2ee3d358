-- What held lines, one after another, leave of the rows.
use Rattle.std.specs.Prelude.{ℕ, zero, suc, List, [], ◌∷◌, ◌+◌, ◌++◌, ◌==◌, ◌&&◌, Bool, if◌then◌else◌, filter, fold}
use Rattle.std.specs.Prelude.{nat_lt, pred}
use Rattle.std.specs.List.{list_any}
use Rattle.djq_model.specs.declared.relation.Relation.{Relation}
use Rattle.djq_model.specs.declared.relation.CountedRow.{CountedRow}
use Rattle.djq_model.specs.Data.{Tuple, bytes_eq, tuple_eq, counted_of, has_row, copies_among, with_copies}
use Rattle.djq_model.specs.Data.{without_copies, plain_of}
use Rattle.djq_store_spec.specs.Relations.{with_rows}
use Rattle.djq_protocol.specs.declared.held.Verb.{Verb}
use Rattle.djq_protocol.specs.declared.held.Verb.TheVariants.{Add, Delete}
use Rattle.djq_store_spec.specs.Held.{HeldLine}

-- whether two lines are of the same row of the same relation
abbrev pub same_row : HeldLine → HeldLine → Bool
same_row g h = bytes_eq g.relation h.relation && tuple_eq g.row h.row

-- the lines, and this one after them if none of them is of its row
abbrev pub with_naming : List HeldLine → HeldLine → List HeldLine
with_naming firsts h = if list_any (λ g. same_row g h) firsts then firsts else firsts ++ h ∷ []

-- the lines that name a row which no line before them names
abbrev pub first_lines : List HeldLine → List HeldLine
first_lines lines = fold with_naming [] lines

-- the copies of a line's row before all lines
abbrev pub copies_before : List Relation → HeldLine → ℕ
copies_before relations h = copies_among (counted_of relations h.relation) h.row

-- the copies of a row after one more line of it: one more, or one less
abbrev pub after_verb : Verb → ℕ → ℕ
after_verb Add n = n + 1
after_verb Delete n = pred n

-- the copies of a line's row after lines
abbrev pub copies_after : List Relation → List HeldLine → HeldLine → ℕ
copies_after relations lines h =
    fold (λ n g. if same_row g h then after_verb g.verb n else n) (copies_before relations h) lines

-- A row is inserted if there was no copy of it and there is one; it is deleted the other way round.
abbrev pub line_comes : List Relation → List HeldLine → HeldLine → Bool
line_comes relations lines h =
    (copies_before relations h == 0) && nat_lt 0 (copies_after relations lines h)

abbrev pub line_goes : List Relation → List HeldLine → HeldLine → Bool
line_goes relations lines h =
    nat_lt 0 (copies_before relations h) && (copies_after relations lines h == 0)

-- the rows that are inserted, and those that are deleted, each by the line that names it first
abbrev pub lines_come : List Relation → List HeldLine → List HeldLine
lines_come relations lines = filter (line_comes relations lines) (first_lines lines)

abbrev pub lines_go : List Relation → List HeldLine → List HeldLine
lines_go relations lines = filter (line_goes relations lines) (first_lines lines)

-- The rows with so many copies of one: without any it isn't there, and if it wasn't there it is last.
abbrev pub with_so_many : List CountedRow → Tuple → ℕ → List CountedRow
with_so_many rows row zero = without_copies rows row
with_so_many rows row (suc n) =
    if has_row (plain_of rows) row then with_copies rows row (suc n)
    else rows ++ record { row = row; copies = suc n } ∷ []

-- the relations, in which a line's row has the copies that lines leave of it
abbrev pub with_copies_left : List Relation → List HeldLine → List Relation → HeldLine → List Relation
with_copies_left relations lines now h = with_rows now h.relation
    (with_so_many (counted_of now h.relation) h.row (copies_after relations lines h))

-- The relations between: those before, with the rows that are inserted.
abbrev pub relations_between : List Relation → List HeldLine → List Relation
relations_between relations lines = fold (with_copies_left relations lines) relations (lines_come relations lines)

-- The relations after lines: each row that they name has the copies that they leave of it.
abbrev pub relations_after : List Relation → List HeldLine → List Relation
relations_after relations lines = fold (with_copies_left relations lines) relations (first_lines lines)
