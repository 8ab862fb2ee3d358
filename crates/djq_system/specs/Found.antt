use Rattle.std.specs.Prelude.{ℕ, ◌≤◌}
use Rattle.djq_system.specs.declared.conn.Found.{Found}
use Rattle.djq_system.specs.declared.conn.Found.TheVariants.{Bytes, End, Nothing, Broken}

-- bytes that a read found are some, and at most as many as there was room for
abbrev pub FoundFits : Found → ℕ → Type 0
FoundFits (Bytes n) room = (1 ≤ n) × (n ≤ room)
FoundFits End room = Unit {0}
FoundFits Nothing room = Unit {0}
FoundFits Broken room = Unit {0}
