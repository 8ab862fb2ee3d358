-- Why `done` is refused, the changes that it makes, and the texts that become known.
use Rattle.std.specs.Prelude.{ℕ, List, ◌≡◌, ◌+◌, ◌==◌, ◌&&◌, ◌||◌, Bool, false, not, nat_le, nat_lt, Option, None}
use Rattle.std.specs.Prelude.{Some, Result, Ok, Err, length, if◌then◌else◌}
use Rattle.std.specs.List.{list_any}
use Rattle.std.specs.Option.{option_or, option_map}
use Rattle.djq_model.specs.declared.relation.Relation.{Relation}
use Rattle.djq_model.specs.Data.{Bytes, bytes_eq}
use Rattle.djq_protocol.specs.declared.limits.TheConstants.{LAST_SEQ}
use Rattle.djq_store_spec.specs.Held.{HeldLine}
use Rattle.djq_protocol.specs.declared.held.DoneRefusal.{DoneRefusal}
use Rattle.djq_protocol.specs.declared.held.DoneRefusal.TheVariants.{OtherNumber, Line, LastChange, NoMemory}
use Rattle.djq_store_spec.specs.Lines.{lines_come, lines_go, line_comes, line_goes}
use Rattle.djq_store_spec.specs.Judging.{UnlessMemory, RefusesLines, lines_refusal, texts_after}

-- how many rows are inserted and deleted
abbrev pub rows_changed : List Relation → List HeldLine → ℕ
rows_changed relations lines = length (lines_come relations lines) + length (lines_go relations lines)

-- whether a row of a relation of this name is inserted or deleted
abbrev pub has_changed : List Relation → List HeldLine → Bytes → Bool
has_changed relations lines name = list_any
    (λ h. bytes_eq h.relation name && (line_comes relations lines h || line_goes relations lines h)) lines

-- the number of changes after `done`: one more if rows are inserted or deleted
abbrev pub seq_after : List Relation → ℕ → List HeldLine → ℕ
seq_after relations seq lines = if nat_lt 0 (rows_changed relations lines) then seq + 1 else seq

-- `done` names another number than that of the held lines
abbrev pub is_other : Option ℕ → ℕ → Bool
is_other None held = false
is_other (Some n) held = not (n == held)

-- a condition that holds refuses
abbrev pub refused_if : Bool → DoneRefusal → Option DoneRefusal
refused_if b r = if b then Some r else None

-- rows change, and the number of changes is the last
abbrev pub seq_refusal : List Relation → ℕ → List HeldLine → Option DoneRefusal
seq_refusal relations seq lines = refused_if (nat_lt 0 (rows_changed relations lines) && nat_le LAST_SEQ seq) LastChange

-- Why `done` is refused: its number, then the first line that has a refusal, then the number of changes.
abbrev pub done_refusal : List Relation → List Bytes → ℕ → List HeldLine → Option ℕ → Option DoneRefusal
done_refusal relations texts seq lines given =
    option_or (refused_if (is_other given (length lines)) OtherNumber)
    (option_or (option_map (λ r. Line r) (lines_refusal relations texts lines))
    (seq_refusal relations seq lines))

-- `done` is answered by its refusal, and done if it has none. But memory may be refused: at a line, if its
-- number isn't another; or once all has passed.
abbrev pub AnswersDone : {A : Type 0} → Bool → Option DoneRefusal → Result A DoneRefusal → Type 0
AnswersDone other refusal (Ok a) = refusal ≡ None
AnswersDone other refusal (Err OtherNumber) = refusal ≡ Some OtherNumber
AnswersDone other refusal (Err (Line r)) = (other ≡ false) × UnlessMemory r.refusal (refusal ≡ Some (Line r))
AnswersDone other refusal (Err LastChange) = refusal ≡ Some LastChange
AnswersDone other refusal (Err NoMemory) = refusal ≡ None

-- What is known after a refused `done`: another number makes no text known, the number of changes those of all
-- lines, and so does memory that was refused once all had passed.
abbrev pub RefusesDone : List Relation → List Bytes → List HeldLine → List Bytes → DoneRefusal → Type 0
RefusesDone relations texts lines known OtherNumber = known ≡ texts
RefusesDone relations texts lines known (Line r) = RefusesLines relations texts lines known r
RefusesDone relations texts lines known LastChange = known ≡ texts_after texts lines
RefusesDone relations texts lines known NoMemory = known ≡ texts_after texts lines
