use Rattle.std.specs.Prelude.{ℕ, Bool, List, ◌∷◌, Option}
use Rattle.std.specs.Option.{option_map_or}
use Rattle.djq_io.specs.Script.{Script}
use Rattle.djq_io.specs.declared.hub.Coming.{Coming}
use Rattle.djq_io.specs.declared.hub.Incoming.TheVariants.{Brings}
use Rattle.djq_io.specs.declared.script.Rest.{Rest}

-- A script as a queue: what is left of it, and whether it begins with the rest of a piece.
pub record Queue : Type 0 where
  pub script : Script
  pub has_rest : Bool

-- the turns that are left, the rest of a piece first
abbrev pub turns_to_come : Option Rest → List ℕ → List Coming → List Coming
turns_to_come rest blocked turns =
    option_map_or (λ r. record { turn = Brings r.id r.piece; blocked = blocked } ∷ turns) rest
    turns
