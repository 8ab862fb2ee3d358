-- Keys in slots, as an arena that isn't made before the first.
use Rattle.std.specs.Prelude.{[], ◌≡◌, Option, None, Some, IfSome, ℕ}
use Rattle.djq_arena.specs.Rows.{SlotRows}
use Rattle.djq_transaction.specs.declared.keys.Keys.TheInside.{Inside}

-- the keys of an arena, or none
abbrev pub keys_in : ℕ → Option SlotRows → SlotRows
keys_in width None = record { width = width; room = 0; rows = [] }
keys_in width (Some arena) = arena

abbrev pub keys_of : Inside → SlotRows
keys_of k = keys_in k.width k.arena

-- the arena, if it is made, has keys of this width
abbrev pub HaveTheirWidth : Inside → Type 0
HaveTheirWidth k = IfSome k.arena (λ arena. arena.width ≡ k.width)
