-- Unions in their slots, found by name.
use Rattle.std.specs.Prelude.{ℕ, Bool, false, Option, None, Some}
use Rattle.djq_model.specs.Data.{Bytes, bytes_eq}
use Rattle.djq_reach.specs.Places.{is_reader}
use Rattle.djq_store.specs.declared.joined.Joined.{Joined}

-- whether a slot has the union of a name
abbrev pub union_is_named : Bytes → Option Joined → Bool
union_is_named name None = false
union_is_named name (Some j) = bytes_eq j.union.name name

-- whether a slot has a union with the query in a place as a member
abbrev pub has_member : ℕ → Option Joined → Bool
has_member at None = false
has_member at (Some j) = is_reader j.union.members at
