-- The definitions held against worked lines.
use Rattle.std.specs.Prelude.{ℕ, List, [], ◌∷◌, ◌≡◌, Option, None, Some, pos}
use Rattle.std.proofs.Common.{refl}
use Rattle.djq_model.specs.declared.value.Value.TheVariants.{Int}
use Rattle.djq_model.specs.declared.relation.Relation.{Relation}
use Rattle.djq_model.specs.declared.relation.CountedRow.{CountedRow}
use Rattle.djq_model.specs.Data.{Bytes, Tuple}
use Rattle.djq_protocol.specs.declared.held.Verb.TheVariants.{Add, Delete}
use Rattle.djq_store_spec.specs.Held.{HeldLine}
use Rattle.djq_protocol.specs.declared.held.LineRefusal.{LineRefusal}
use Rattle.djq_protocol.specs.declared.held.LineRefusal.TheVariants.{Limit, Absent}
use Rattle.djq_store_spec.specs.Lines.{lines_come, lines_go, relations_after}
use Rattle.djq_protocol.specs.declared.held.DoneRefusal.{DoneRefusal}
use Rattle.djq_protocol.specs.declared.held.DoneRefusal.TheVariants.{OtherNumber, Line, LastChange}
use Rattle.djq_store_spec.specs.Judging.{row_refusal}
use Rattle.djq_store_spec.specs.Done.{done_refusal, rows_changed, seq_after}

-- a relation r of two columns
abbrev r : Bytes
r = 114 ∷ []

abbrev row : ℕ → ℕ → Tuple
row a b = Int (pos a) ∷ Int (pos b) ∷ []

abbrev add : ℕ → ℕ → HeldLine
add a b = record { verb = Add; relation = r; row = row a b }

abbrev delete : ℕ → ℕ → HeldLine
delete a b = record { verb = Delete; relation = r; row = row a b }

abbrev copies : ℕ → ℕ → ℕ → CountedRow
copies a b n = record { row = row a b; copies = n }

-- the relation with these rows
abbrev with_rows : List CountedRow → List Relation
with_rows rows = record { name = r; types = []; rows = rows } ∷ []

-- a row is replaced: one comes, and one goes
replaced_comes : lines_come (with_rows (copies 1 10 1 ∷ [])) (add 1 11 ∷ delete 1 10 ∷ []) ≡ add 1 11 ∷ []
replaced_comes = refl

replaced_goes : lines_go (with_rows (copies 1 10 1 ∷ [])) (add 1 11 ∷ delete 1 10 ∷ []) ≡ delete 1 10 ∷ []
replaced_goes = refl

replaced_after : relations_after (with_rows (copies 1 10 1 ∷ [])) (add 1 11 ∷ delete 1 10 ∷ [])
    ≡ with_rows (copies 1 11 1 ∷ [])
replaced_after = refl

-- a row that comes and goes in between does neither
passing_comes : lines_come (with_rows []) (add 3 3 ∷ delete 3 3 ∷ []) ≡ []
passing_comes = refl

passing_after : relations_after (with_rows []) (add 3 3 ∷ delete 3 3 ∷ []) ≡ with_rows []
passing_after = refl

-- a row that goes and comes again stays in its place
staying : relations_after (with_rows (copies 1 1 1 ∷ copies 2 2 1 ∷ [])) (delete 1 1 ∷ add 1 1 ∷ add 1 1 ∷ [])
    ≡ with_rows (copies 1 1 2 ∷ copies 2 2 1 ∷ [])
staying = refl

-- with its last copy a row goes, whatever lines did before
going : lines_go (with_rows (copies 2 5 1 ∷ [])) (add 2 5 ∷ delete 2 5 ∷ delete 2 5 ∷ []) ≡ add 2 5 ∷ []
going = refl

-- a row without a copy can't be deleted
absent : row_refusal (with_rows []) (add 7 7 ∷ []) (delete 9 9) ≡ Some Absent
absent = refl

-- ---- `done` over a database of which one row has its copies, and the number of changes

abbrev refusal : List CountedRow → ℕ → List HeldLine → Option ℕ → Option DoneRefusal
refusal rows seq lines given = done_refusal (with_rows rows) [] seq lines given

-- the line at a place refuses
abbrev line_at : ℕ → LineRefusal → DoneRefusal
line_at at refusal = Line (record { at = at; refusal = refusal })

-- a row is replaced: one comes and one goes, which is one change
replaced : refusal (copies 1 10 1 ∷ []) 1 (add 1 11 ∷ delete 1 10 ∷ []) None ≡ None
replaced = refl

replaced_rows : rows_changed (with_rows (copies 1 10 1 ∷ [])) (add 1 11 ∷ delete 1 10 ∷ []) ≡ 2
replaced_rows = refl

replaced_seq : seq_after (with_rows (copies 1 10 1 ∷ [])) 1 (add 1 11 ∷ delete 1 10 ∷ []) ≡ 2
replaced_seq = refl

-- so is one that is deleted first, with the number of lines named
moved : refusal (copies 1 11 1 ∷ []) 2 (delete 1 11 ∷ add 2 5 ∷ []) (Some 2) ≡ None
moved = refl

moved_rows : rows_changed (with_rows (copies 1 11 1 ∷ [])) (delete 1 11 ∷ add 2 5 ∷ []) ≡ 2
moved_rows = refl

-- the deletion of a row without a copy refuses all lines, and names no number
none_there : refusal (copies 2 5 1 ∷ []) 3 (add 7 7 ∷ delete 9 9 ∷ []) None ≡ Some (line_at 1 Absent)
none_there = refl

-- a row that comes and goes in between is no change
passing : refusal (copies 2 5 1 ∷ []) 3 (add 3 3 ∷ delete 3 3 ∷ []) None ≡ None
passing = refl

passing_seq : seq_after (with_rows (copies 2 5 1 ∷ [])) 3 (add 3 3 ∷ delete 3 3 ∷ []) ≡ 3
passing_seq = refl

-- another number refuses, before any line does
other_number : refusal (copies 2 5 1 ∷ []) 3 (add 4 4 ∷ []) (Some 2) ≡ Some OtherNumber
other_number = refl

other_first : refusal (copies 2 5 1 ∷ []) 3 (delete 9 9 ∷ []) (Some 2) ≡ Some OtherNumber
other_first = refl

-- a row goes with its last copy, whatever lines did before
last_copy : rows_changed (with_rows (copies 2 5 1 ∷ [])) (add 2 5 ∷ delete 2 5 ∷ delete 2 5 ∷ []) ≡ 1
last_copy = refl

-- a line is judged over the copies that those before it leave
most_copies : refusal (copies 1 1 4294967295 ∷ []) 3 (add 1 1 ∷ []) None ≡ Some (line_at 0 Limit)
most_copies = refl

one_fewer : refusal (copies 1 1 4294967295 ∷ []) 3 (delete 1 1 ∷ add 1 1 ∷ []) None ≡ None
one_fewer = refl

-- of two refusals the first line's is answered
first_refused : refusal (copies 1 1 4294967295 ∷ []) 3 (delete 9 9 ∷ add 1 1 ∷ []) None
    ≡ Some (line_at 0 Absent)
first_refused = refl

-- at the last number of changes rows may gain and lose copies, and none may come or go
last_seq : refusal (copies 1 1 1 ∷ []) 18446744073709551615 (add 2 2 ∷ []) None ≡ Some LastChange
last_seq = refl

last_seq_copies : refusal (copies 1 1 1 ∷ []) 18446744073709551615 (add 1 1 ∷ []) None ≡ None
last_seq_copies = refl
