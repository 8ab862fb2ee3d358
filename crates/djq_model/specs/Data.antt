-- Tests of equality on values, tuples and names, and lookups by name.
use Rattle.std.specs.Prelude.{ℕ, List, [], ◌∷◌, ◌++◌, Bool, true, false, Option, None, Some}
use Rattle.std.specs.Prelude.{if◌then◌else◌, find, map, nat_eq, pos}
use Rattle.std.specs.List.{slice_index_or}
use Rattle.std.specs.Ordering.{int_eq}
use Rattle.std.specs.Cmp.Lexicographic.{pointwise}
use Rattle.djq_model.specs.declared.value.Value.{Value}
use Rattle.djq_model.specs.declared.value.Value.TheVariants.{Int, Text}
use Rattle.djq_model.specs.declared.relation.Relation.{Relation}
use Rattle.djq_model.specs.declared.relation.CountedRow.{CountedRow}

-- a text or a name
abbrev pub Bytes : Type 0
Bytes = List ℕ

-- a row, or an answer
abbrev pub Tuple : Type 0
Tuple = List Value

-- whether two texts, or two names, are the same bytes
abbrev pub bytes_eq : Bytes → Bytes → Bool
bytes_eq = pointwise nat_eq

-- whether two values are the same
abbrev pub value_eq : Value → Value → Bool
value_eq (Int i) (Int j) = int_eq i j
value_eq (Text s) (Text t) = bytes_eq s t
value_eq (Int i) (Text t) = false
value_eq (Text s) (Int j) = false

-- whether two tuples have the same values in the same order
abbrev pub tuple_eq : Tuple → Tuple → Bool
tuple_eq = pointwise value_eq

-- whether a row is among these
abbrev pub has_row : List Tuple → Tuple → Bool
has_row [] row = false
has_row (r ∷ rs) row = if tuple_eq r row then true else has_row rs row

-- the rows without the first that equals this one
abbrev pub without_row : List Tuple → Tuple → List Tuple
without_row [] row = []
without_row (r ∷ rs) row = if tuple_eq r row then rs else r ∷ without_row rs row

-- the list with the first that passes the test changed
abbrev pub change_first : {A : Type 0} → (A → Bool) → (A → A) → List A → List A
change_first p f [] = []
change_first p f (x ∷ xs) = if p x then f x ∷ xs else x ∷ change_first p f xs

-- the list without the first that passes the test
abbrev pub drop_first : {A : Type 0} → (A → Bool) → List A → List A
drop_first p [] = []
drop_first p (x ∷ xs) = if p x then xs else x ∷ drop_first p xs

-- the relation of a name
abbrev pub relation_of : List Relation → Bytes → Option Relation
relation_of relations name = find (λ r. bytes_eq r.name name) relations

-- rows, without their copies
abbrev pub plain_of : List CountedRow → List Tuple
plain_of rows = map (λ (c : CountedRow). c.row) rows

-- the relation's rows, each once
abbrev pub tuples_in : Relation → List Tuple
tuples_in r = plain_of r.rows

-- the rows of the relation that was found, with their copies; none if none was
abbrev pub counted_in : Option Relation → List CountedRow
counted_in None = []
counted_in (Some r) = r.rows

-- its rows with their copies; none if there is no such relation
abbrev pub counted_of : List Relation → Bytes → List CountedRow
counted_of relations name = counted_in (relation_of relations name)

-- its rows, each once
abbrev pub rows_of : List Relation → Bytes → List Tuple
rows_of relations name = plain_of (counted_of relations name)

-- how many copies of a row are among these; 0 if it isn't there
abbrev pub copies_among : List CountedRow → Tuple → ℕ
copies_among [] row = 0
copies_among (c ∷ cs) row = if tuple_eq c.row row then c.copies else copies_among cs row

-- the rows and a new row after them, with one copy
abbrev pub with_row : List CountedRow → Tuple → List CountedRow
with_row rows row = rows ++ record { row = row; copies = 1 } ∷ []

-- the rows with another number of copies of one
abbrev pub with_copies : List CountedRow → Tuple → ℕ → List CountedRow
with_copies rows row n = change_first (λ c. tuple_eq c.row row) (λ c. record c { copies = n }) rows

-- the rows without all copies of one
abbrev pub without_copies : List CountedRow → Tuple → List CountedRow
without_copies rows row = drop_first (λ c. tuple_eq c.row row) rows

-- the cell of a row at a column
abbrev pub cell_at : Tuple → ℕ → Value
cell_at row column = slice_index_or row column (Int (pos 0))

-- the cells of a row at columns, in the columns' order
abbrev pub cells_of_columns : List ℕ → Tuple → Tuple
cells_of_columns columns row = map (cell_at row) columns
