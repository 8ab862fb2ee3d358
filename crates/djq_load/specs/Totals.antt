-- The totals of a load.
use Rattle.std.specs.Prelude.{ℕ, ℤ, pos, negsuc, List, [], ◌∷◌, ◌≡◌, ◌+◌, ◌-◌, ◌*◌, ◌++◌, ◌/◌, ◌%◌}
use Rattle.std.specs.Prelude.{◌^◌, ◌<◌, ◌⊎◌, Bool, true, false, Option, None, Some, IsSomeAnd}
use Rattle.std.specs.Prelude.{length, replicate, codes, sum_by}
use Rattle.djq_model.specs.declared.value.Value.{Value}
use Rattle.djq_model.specs.Data.{Bytes, Tuple}
use Rattle.djq_model.specs.Answer.{IsListing}
use Rattle.djq_model.specs.Listed.{Listed, AnswersOf, listed_of}
use Rattle.djq_value.specs.Literal.{integer_of}
use Rattle.djq_value.specs.ValueText.{value_text}
use Rattle.djq_store_spec.specs.Store.{Store}
use Rattle.djq_machine.specs.State.{State}
use Rattle.djq_store_spec.specs.Listing.{IsLeft}
use Rattle.djq_machine.specs.Call.{Counts, cause_of}
use Rattle.djq_load.specs.Load.{load}
use Rattle.djq_load.specs.declared.loading.Totals.{Totals}
use Rattle.djq_load.specs.declared.reading.Place.TheVariants.{Front}
use Rattle.djq_load.specs.declared.reading.Reading.{Reading}
use Rattle.djq_load.specs.Replies.{reading}
use Rattle.djq_load.specs.Lines.{FeedsLines, Feeds, LoadBreaksOff, CursorStands}

-- an integer modulo 2^64; nothing if there is none
abbrev pub residue : Option ℤ → ℕ
residue None = 0
residue (Some (pos n)) = n % 2 ^ 64
residue (Some (negsuc n)) = (2 ^ 64 - (n + 1) % 2 ^ 64) % 2 ^ 64

-- the integer that a value is printed as, modulo 2^64; nothing if it is a text
abbrev pub amount : Value → ℕ
amount v = residue (integer_of (value_text v))

-- what the integers of answers add up to
abbrev pub amount_of : List Tuple → ℕ
amount_of ts = sum_by (λ t. sum_by amount t) ts

-- what was read of a cursor's answers
abbrev pub so_far : List Tuple → Bool → Reading
so_far given ended = reading (length given % 2 ^ 64) (amount_of given % 2 ^ 64) ended Front

-- how often a cursor is read, a thousand answers at a time, until it is sent the end of so many
-- answers: once if there are none, and no more if the last read is full
abbrev pub reads_for : ℕ → ℕ
reads_for count = 1 + (count - 1) / 1000

-- The query `q` has an answer that isn't among these.
abbrev pub HasLeft : Store → List Tuple → Type 0
HasLeft store given = IsSomeAnd (listed_of store.queries (codes "q"))
    (λ q. (t : Tuple) × IsLeft (AnswersOf store.relations q) given t)

-- What was read, by so many reads, is what the cursor has given. If it wasn't sent the end, each
-- read gave a thousand answers, and after the first read some are left; else the last read alone
-- was sent the end.
pub record ReadsSoFar (st : State) (r : Reading) (reads : ℕ) : Type 0 where
  pub given : List Tuple
  pub stands : CursorStands st given r.ended
  pub is : r ≡ so_far given r.ended
  pub full : r.ended ≡ false → length given ≡ 1000 * reads
  pub left : r.ended ≡ false → 0 < reads → HasLeft st.store given
  pub last : r.ended ≡ true → reads ≡ reads_for (length given)

-- A cursor that was sent the end, by the last of so many reads, has given answers with these
-- totals.
pub record TotalsAreTold (st : State) (totals : Totals) (reads : ℕ) : Type 0 where
  pub given : List Tuple
  pub stands : CursorStands st given true
  pub reads_are : reads ≡ reads_for (length given)
  pub answers : totals.answers ≡ length given
  pub sum : totals.sum ≡ amount_of given % 2 ^ 64

-- the line that opens the cursor of a load
abbrev pub open_line : Bytes
open_line = codes "open c q\n"

-- the line that reads the cursor of a load
abbrev pub next_line : Bytes
next_line = codes "next c 1000\n"

-- **What the totals are**: the query `q` has these answers over the relations, each counted once,
-- and their integers add up to the sum, modulo 2^64.
pub record AreTotals (st : State) (answers : List Tuple) (totals : Totals) : Type 0 where
  pub query : Listed
  pub registered : listed_of st.store.queries (codes "q") ≡ Some query
  pub listing : IsListing (AnswersOf st.store.relations query) answers
  pub count : totals.answers ≡ length answers
  pub sum : totals.sum ≡ amount_of answers % 2 ^ 64

-- **The theorem of a load.** Session 1 was fed the load's lines, then one that opens a cursor over
-- the query, and then as many that read it as are needed until the end is sent, and none after
-- that. The cursor has given these answers and is at their end, and the session hasn't ended. And
-- the totals are those of these answers, which are all answers over the rows that this run leads
-- to.
pub record RunsLoad (n seed : ℕ) (totals : Totals) (old : State) (before : Counts) (new : State)
    (now : Counts) : Type 0 where
  pub answers : List Tuple
  pub loads : FeedsLines (load n seed ++ open_line ∷ replicate (reads_for (length answers)) next_line)
      old before new now
  pub stands : CursorStands new answers true
  pub running : cause_of new 1 ≡ None
  pub totals_are : AreTotals new answers totals

-- **How reading stops out of memory.** Session 1 was fed these lines, and then some that read the
-- cursor: each was answered a thousand answers, each of them once, and the cursor is before its
-- end. Then one more was fed that reads it, at which memory was wanting.
pub record BreaksReading (lines : List Bytes) (old : State) (before : Counts) (new : State)
    (now : Counts) : Type 0 where
  pub nexts : ℕ
  pub mid : State
  pub between : Counts
  pub loads : FeedsLines (lines ++ replicate nexts next_line) old before mid between
  pub given : List Tuple
  pub stands : CursorStands mid given false
  pub many : length given ≡ 1000 * nexts
  pub feeds : Feeds (next_line ∷ []) mid between new now

-- **How a load ends out of memory.** Nothing was done; or memory was wanting at a line of the load,
-- or at the one that opens the cursor, or at one that reads it before its end. In each case no more
-- was counted of listings than a run may cost that was fed a first part of the lines.
abbrev pub RunsOut : ℕ → ℕ → State → Counts → State → Counts → Type 0
RunsOut n seed old before new now =
    ((new ≡ old) × (now ≡ before))
    ⊎ (LoadBreaksOff (load n seed ++ open_line ∷ []) old before new now
    ⊎ BreaksReading (load n seed ++ open_line ∷ []) old before new now)
