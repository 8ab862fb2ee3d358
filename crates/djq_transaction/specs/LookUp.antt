-- What a look-up of a line's row among those that lines name returns.
use Rattle.std.specs.Prelude.{ℕ, List, ◌≡◌, Option, None, Some, slice_get, Any}
use Rattle.djq_model.specs.declared.relation.Relation.{Relation}
use Rattle.djq_store_spec.specs.Held.{HeldLine}
use Rattle.djq_transaction.specs.declared.net.Copies.{Copies}
use Rattle.djq_store_spec.specs.Lines.{first_lines, copies_before, copies_after}

-- Two lines are of the same row of the same relation.
pub record AreSame (g h : HeldLine) : Type 0 where
  pub relation : g.relation ≡ h.relation
  pub row : g.row ≡ h.row

-- one of these lines is of a line's row
abbrev pub IsRowNamed : List HeldLine → HeldLine → Type 0
IsRowNamed firsts h = Any (λ g. AreSame g h) firsts

-- the line that names a row first is at a place, or none does
abbrev pub IsFirstLineAt : List HeldLine → HeldLine → Option ℕ → Type 0
IsFirstLineAt firsts h (Some place) = (g : HeldLine) × (slice_get firsts place ≡ Some g) × AreSame h g
IsFirstLineAt firsts h None = IsRowNamed firsts h → ⊥

-- The row has these copies before lines and after them, and the line that names it first is at a place, or no
-- line names it.
pub record Looked (relations : List Relation) (lines : List HeldLine) (h : HeldLine) (place : Option ℕ)
    (copies : Copies) : Type 0 where
  pub before : copies.before ≡ copies_before relations h
  pub after : copies.after ≡ copies_after relations lines h
  pub at : IsFirstLineAt (first_lines lines) h place
