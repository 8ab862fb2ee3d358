-- A file, what a stop may leave of it, and what a write does to its bytes.
use Rattle.std.specs.Prelude.{◌≡◌, ℕ, ◌+◌, ◌-◌, ◌<◌, ◌≤◌, ◌⊎◌, List, [], ◌∷◌, ◌++◌, length, take}
use Rattle.std.specs.Prelude.{drop, replicate, max, slice_index_or}
use Rattle.std.specs.List.{AllByRecursion}

-- a part of a file: its first place, and how many places it has
pub record Span : Type 0 where
  pub at : ℕ
  pub size : ℕ

-- a place that isn't in the part
abbrev pub IsOutsideSpan : ℕ → Span → Type 0
IsOutsideSpan i span = (i < span.at) ⊎ (span.at + span.size ≤ i)

-- A file: its bytes as a read gives them, how many it had at the last sync that was done, and the
-- parts that were written since.
pub record File : Type 0 where
  pub bytes : List ℕ
  pub synced : ℕ
  pub written : List Span

-- A crash may leave these bytes of a file. Each byte that was there at the last sync and is in no
-- part that was written since is as it was; any other may be any, and so may the length from the
-- synced one on.
pub record IsImage (file : File) (image : List ℕ) : Type 0 where
  pub long : file.synced ≤ length image
  pub kept : (i : ℕ) → i < file.synced → AllByRecursion (IsOutsideSpan i) file.written
      → slice_index_or image i 0 ≡ slice_index_or file.bytes i 0

-- the file with these bytes, all of them synced and nothing written since
abbrev pub settled : List ℕ → File
settled bytes = record { bytes = bytes; synced = length bytes; written = [] }

-- nothing was written to the file since a sync that was done
abbrev pub IsSettled : File → Type 0
IsSettled file = file ≡ settled file.bytes

-- the file after a write in this part, which left these bytes
abbrev pub with_written : Span → List ℕ → File → File
with_written span bytes file = record { bytes = bytes; synced = file.synced; written = file.written ++ span ∷ [] }

-- the bytes with a piece written at a place: what was before it, or zeros if nothing was
abbrev pub piece_put : ℕ → List ℕ → List ℕ → List ℕ
piece_put at piece bytes = take at bytes ++ replicate (at - length bytes) 0 ++ piece ++ drop (at + length piece) bytes

-- From some bytes to others nothing is lost, and each outside a part is as it was.
pub record KeepsOutside (span : Span) (old new : List ℕ) : Type 0 where
  pub longer : length old ≤ length new
  pub same : (i : ℕ) → i < length old → IsOutsideSpan i span → slice_index_or new i 0 ≡ slice_index_or old i 0

-- A write in a part was cut short: the bytes in it may be any, and it may have lengthened the file
-- no further than to its own end.
pub record Torn (span : Span) (old new : List ℕ) : Type 0 where
  pub keeps : KeepsOutside span old new
  pub within : length new ≤ max (length old) (span.at + span.size)
