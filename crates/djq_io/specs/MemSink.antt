use Rattle.std.specs.Prelude.{ℕ, List, length, Option, if◌then◌else◌}
use Rattle.djq_io.specs.Failing.{is_failing}
use Rattle.djq_io.specs.declared.sink.Wrote.{Wrote}
use Rattle.djq_io.specs.declared.sink.Wrote.TheVariants.{Took, Failed}
use Rattle.djq_io.specs.declared.sink.Write.{Write}

-- A sink in memory: its writes with their answers, unless it lost its record of them, and the
-- writes that are to fail.
pub record MemSinkInside : Type 0 where
  pub told : Option (List Write)
  pub to_fail : List ℕ

-- what a write of this piece answers
abbrev pub write_of : MemSinkInside → List ℕ → Wrote
write_of kept piece = if is_failing kept.to_fail then Failed else Took (length piece)
