use Rattle.std.specs.Prelude.{ℕ, ◌≤◌, List, length}
use Rattle.djq_system.specs.declared.request.Beginning.{Beginning}
use Rattle.djq_system.specs.declared.request.Beginning.TheVariants.{EmptyLines, Request, Line, Part}

-- how a connection begins whose first bytes are these
abbrev pub BeginsSo : Beginning → List ℕ → Type 0
BeginsSo (EmptyLines n) bytes = (1 ≤ n) × (n ≤ length bytes)
BeginsSo Request bytes = Unit {0}
BeginsSo Line bytes = Unit {0}
BeginsSo Part bytes = Unit {0}
