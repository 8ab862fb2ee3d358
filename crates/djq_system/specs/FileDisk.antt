use Rattle.std.specs.Prelude.{ℕ, Bool, List}
use Rattle.djq_system.specs.FileCalls.{FileCall}

-- What a file of the operating system shows as a disk: its calls so far with their answers, whether it is open, and how
-- many faults it has met.
pub record FileSeen : Type 0 where
  pub calls : List FileCall
  pub is_open : Bool
  pub faults : ℕ
