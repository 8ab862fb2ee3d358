-- The open commit: the lines that steps log, as they are stored until they are written.
use Rattle.std.specs.Prelude.{ℕ, List, [], ◌∷◌, ◌≡◌, ◌+◌, ◌<◌, ◌≤◌, ◌⊎◌, ◌^◌, Bool, true, false, length}
use Rattle.std.specs.Prelude.{slice_range, slice_index, ⊤}
use Rattle.std.specs.List.{flat_map}
use Rattle.djq_model.specs.Data.{Bytes}
use Rattle.djq_protocol.specs.declared.limits.TheConstants.{LINE_BYTES}
use Rattle.djq_store_spec.specs.Held.{log_lines}
use Rattle.djq_commands.specs.declared.commit.Entry.{Entry}
use Rattle.djq_commands.specs.declared.commit.Entry.TheVariants.{Line, Batch}

-- The open commit, as contracts see it.
pub record OpenCommit : Type 0 where
  -- the lines that steps logged since it was last cleared
  pub lines : List Bytes
  -- the line that was copied last
  pub line : Bytes
  -- whether there is room for what one step more logs
  pub room : Bool

-- There is room for what one step logs: always in an empty commit, and if it was last made sure of.
abbrev pub HasRoom : OpenCommit → Type 0
HasRoom c = (c.lines ≡ []) ⊎ (c.room ≡ true)

-- the line, if it is to be logged
abbrev pub line_where : Bool → Bytes → List Bytes
line_where true line = line ∷ []
line_where false line = []

-- the lines of an entry: one, which is in the buffer, or those of a batch
abbrev pub entry_lines : Bytes → Entry → List Bytes
entry_lines bytes (Line start end) = slice_range bytes start end ∷ []
entry_lines bytes (Batch held) = log_lines held

-- the lines of entries
abbrev pub lines_of_entries : Bytes → List Entry → List Bytes
lines_of_entries bytes entries = flat_map (λ e. entry_lines bytes e) entries

-- how many lines an entry has
abbrev pub entry_count : Entry → ℕ
entry_count (Line start end) = 1
entry_count (Batch held) = length held.logged + 2

-- of each entry the number of its first line, the first one's being this
abbrev pub firsts_from : ℕ → List Entry → List ℕ
firsts_from n [] = []
firsts_from n (e ∷ es) = n ∷ firsts_from (n + entry_count e) es

-- this number, and one for each line of the entries
abbrev pub count_from : ℕ → List Entry → ℕ
count_from n [] = n
count_from n (e ∷ es) = count_from (n + entry_count e) es

-- each line is within the first bytes of the buffer
abbrev pub EndsAreWithin : ℕ → List Entry → Type 0
EndsAreWithin n [] = ⊤
EndsAreWithin n (Line start end ∷ es) = (start ≤ end) × (end ≤ n) × EndsAreWithin n es
EndsAreWithin n (Batch held ∷ es) = EndsAreWithin n es

-- The logged lines are at the front of the buffer, entries are numbered by their first lines, there is memory for
-- what one step logs whenever the commit is empty, and for what one step more logs if this is set.
pub record CommitIsKept (bytes : Bytes) (spare end : ℕ) (entries : List Entry) (entry_room : ℕ) (firsts : List ℕ)
    (first_room count : ℕ) (roomy : Bool) : Type 0 where
  pub within : end ≤ length bytes
  pub placed : EndsAreWithin end entries
  pub numbered : firsts ≡ firsts_from 0 entries
  pub counted : count ≡ count_from 0 entries
  pub begun : entries ≡ [] → end ≡ 0
  pub least_bytes : LINE_BYTES ≤ length bytes + spare
  pub least_entries : 0 < entry_room
  pub least_firsts : 0 < first_room
  pub bytes_left : roomy ≡ true → end + LINE_BYTES ≤ length bytes + spare
  pub entries_left : roomy ≡ true → length entries < entry_room
  pub firsts_left : roomy ≡ true → length firsts < first_room
  pub few : roomy ≡ true → count < 2 ^ 64

-- The last entry of which the first line has at most this number, if there is one.
pub record IsPlace (firsts : List ℕ) (i at : ℕ) : Type 0 where
  pub within : 0 < length firsts → at < length firsts
  pub none : length firsts ≡ 0 → at ≡ 0
  pub here : at < length firsts → slice_index firsts 0 ≤ i → slice_index firsts at ≤ i
  pub next : (k : ℕ) → at < k → k < length firsts → i < slice_index firsts k
