-- How `gen` ends: a load was run through one session, and its totals were written.
use Rattle.std.specs.Prelude.{ℕ, List, ◌≡◌, ◌++◌, ◌⊎◌, Option, length, codes, decimal}
use Rattle.djq_io.specs.declared.sink.Write.{Write}
use Rattle.djq_model.specs.Data.{Bytes, rows_of}
use Rattle.djq_machine.specs.State.{State}
use Rattle.djq_machine.specs.Call.{Counts}
use Rattle.djq_run.specs.declared.status.Status.{Status}
use Rattle.djq_run.specs.declared.status.Status.TheVariants.{Done, NoMemory}
use Rattle.djq_load.specs.declared.loading.Totals.{Totals}
use Rattle.djq_load.specs.Totals.{RunsLoad, RunsOut}
use Rattle.djq_program_laws.specs.Replay.{Wrote}

-- the number of different rows of a relation
abbrev pub row_count : State → Bytes → ℕ
row_count st name = length (rows_of st.store.relations name)

-- The summary: the different rows of r and of s, the changes, the answers of the query, and the sum of their
-- integers.
abbrev pub summary : State → Totals → Bytes
summary st totals =
    codes "rows " ++ decimal (row_count st (codes "r"))
    ++ codes " " ++ decimal (row_count st (codes "s"))
    ++ codes "\nchanges " ++ decimal st.store.seq
    ++ codes "\nanswers " ++ decimal totals.answers
    ++ codes "\nsum " ++ decimal totals.sum
    ++ codes "\n"

-- **The theorem of `gen`.** From the start on, a run of the join machine fed one session the
-- lines of the load, and then those that list the answers of its query until the end is sent; the
-- session hasn't ended; the totals are those of the query over the rows that are there then; and
-- this text is the summary of it.
pub record Generates (start : State) (n seed : ℕ) (counted counted' : Counts) (text : Bytes)
    : Type 0 where
  pub state : State
  pub totals : Totals
  pub runs : RunsLoad n seed totals start counted state counted'
  pub is : text ≡ summary state totals

-- From the start on, a run out of memory, which was fed a first part of the lines; or all of
-- them, and no summary is made. It counted no more of listings than it may cost.
abbrev pub LoadsUntold : State → ℕ → ℕ → Counts → Counts → Type 0
LoadsUntold start n seed counted counted' = (state : State)
    × (RunsOut n seed start counted state counted'
    ⊎ ((totals : Totals) × RunsLoad n seed totals start counted state counted'))

-- The summary was written; or a first part of it, if a write failed; or nothing was, as memory
-- was wanted.
abbrev pub GenEnds : State → Status → ℕ → ℕ → Option (List Write) → ℕ → Counts → Option (List Write)
    → ℕ → Counts → Type 0
GenEnds start status n seed writing faults counted writing' faults' counted' =
    ((text : Bytes) × Generates start n seed counted counted' text
    × Wrote status Done text writing faults writing' faults')
    ⊎ ((status ≡ NoMemory) × LoadsUntold start n seed counted counted'
    × (writing' ≡ writing) × (faults' ≡ faults))
