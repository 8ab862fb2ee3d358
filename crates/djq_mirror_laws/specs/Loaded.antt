-- Lines that are loaded leave only what lines can express.
use Rattle.std.specs.Prelude.{List}
use Rattle.djq_model.specs.Data.{Bytes}
use Rattle.djq_store_spec.specs.Store.{Store}
use Rattle.djq_machine.specs.State.{opening}
use Rattle.djq_machine.specs.Loading.{loading, Loads}
use Rattle.djq_mirror_laws.specs.Sayable.{IsSayableStore}

-- The store that lines restore from an empty one: each name is one, and each value
-- is within its limit.
abbrev pub LoadedAreSayable : Type 0
LoadedAreSayable = (lines : List Bytes) (st : Store) → Loads (loading opening.store) lines (loading st)
    → IsSayableStore st
