-- What a change affects, by the places of queries and unions.
use Rattle.std.specs.Prelude.{ℕ, List, ◌==◌, Bool, false, Option, None, Some}
use Rattle.std.specs.List.{list_any}
use Rattle.djq_engine.specs.declared.cursor.QueryId.{QueryId}
use Rattle.djq_store.specs.declared.joined.Joined.{Joined}
use Rattle.djq_store.specs.Places.{by_place, joined_at}

-- whether the query in a place is among these
abbrev pub is_reached_id : List QueryId → ℕ → Bool
is_reached_id ids i = list_any (λ id. id.at == i) ids

-- whether a member of the union in a slot is
abbrev pub is_member_reached : (ℕ → Bool) → Option Joined → Bool
is_member_reached reached None = false
is_member_reached reached (Some j) = list_any reached j.union.members

-- whether a change affects what is registered in a place, by the queries that it affects
abbrev pub is_affected : (ℕ → Bool) → List (Option Joined) → ℕ → Bool
is_affected reached us at = by_place at reached (λ k. is_member_reached reached (joined_at us k))
