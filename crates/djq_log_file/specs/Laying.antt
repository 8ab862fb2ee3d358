-- Bytes that are written in pieces from a place on, while what precedes it stays.
use Rattle.std.specs.Prelude.{◌≡◌, ℕ, ◌+◌, ◌≤◌, List, ◌++◌, length, take, drop}
use Rattle.std.specs.List.{AllByRecursion}
use Rattle.djq_disk.specs.File.{Span, File, IsSettled}
use Rattle.djq_disk.specs.History.{History}
use Rattle.djq_disk.specs.Leaving.{LeavesSince}
use Rattle.djq_disk.specs.declared.disk.DiskDid.{DiskDid}
use Rattle.djq_disk.specs.declared.disk.DiskDid.TheVariants.{Done, Failed}

-- The first so many bytes of a file are as these; they were synced, and no write since was in them.
pub record IsFixed (n : ℕ) (bytes : List ℕ) (file : File) : Type 0 where
  pub long : n ≤ length bytes
  pub synced : n ≤ file.synced
  pub behind : AllByRecursion (λ (span : Span). n ≤ span.at) file.written
  pub same : take n file.bytes ≡ take n bytes

-- the first so many bytes are the same
abbrev pub BeginsAs : ℕ → List ℕ → List ℕ → Type 0
BeginsAs n bytes image = take n image ≡ take n bytes

-- A disk moved on by some moments, and no path was opened.
pub record HasGoneOn (old new : History) : Type 0 where
  pub moments : List File
  pub past : new.past ≡ old.past ++ moments
  pub paths : new.paths ≡ old.paths

-- what is gathered, and the place at which it is to be written
pub record Gathering : Type 0 where
  pub at : ℕ
  pub gathered : List ℕ

-- These bytes are laid from a place on: the first of them are written, the others gathered. What precedes the place and
-- what follows the bytes is as it was, and at each moment a crash leaves what precedes it so.
pub record Lays (start : ℕ) (laid : List ℕ) (writer : Gathering) (old new : History) : Type 0 where
  pub fixed : IsFixed start old.file.bytes new.file
  pub written : List ℕ
  pub are : laid ≡ written ++ writer.gathered
  pub place : writer.at ≡ start + length written
  pub rest : List ℕ
  pub is : drop start new.file.bytes ≡ written ++ rest
  pub later : rest ≡ drop (start + length written) old.file.bytes
  pub leaves : LeavesSince (BeginsAs start old.file.bytes) old new

-- so it is if it was done; if it failed, what precedes the place is as it was
abbrev pub LaysBy : DiskDid → ℕ → List ℕ → Gathering → History → History → Type 0
LaysBy Done start laid writer old new = Lays start laid writer old new
LaysBy Failed start laid writer old new = LeavesSince (BeginsAs start old.file.bytes) old new

-- A piece more is laid, whatever was laid before, and since whenever.
pub record LaysMore (did : DiskDid) (piece : List ℕ) (writer writer' : Gathering) (old new : History) : Type 0 where
  pub passed : HasGoneOn old new
  pub lays : (first : History) (start : ℕ) (laid : List ℕ) → Lays start laid writer first old
      → LaysBy did start (laid ++ piece) writer' first new

-- what is written next follows what is gathered
abbrev pub end_of_gathering : Gathering → ℕ
end_of_gathering writer = writer.at + length writer.gathered

abbrev pub MovesEnd : DiskDid → List ℕ → Gathering → Gathering → Type 0
MovesEnd Done piece old new = end_of_gathering new ≡ end_of_gathering old + length piece
MovesEnd Failed piece old new = Unit {0}

-- These bytes are there from a place on, if all was synced before and so much was there; and what precedes it is as it
-- was at each moment.
abbrev pub StandsFrom : DiskDid → ℕ → List ℕ → History → History → Type 0
StandsFrom Done start bytes old new = IsFixed start old.file.bytes new.file
    × ((rest : List ℕ) × (drop start new.file.bytes ≡ bytes ++ rest)) × LeavesSince (BeginsAs start old.file.bytes) old new
StandsFrom Failed start bytes old new = LeavesSince (BeginsAs start old.file.bytes) old new

pub record WritesFrom (did : DiskDid) (start : ℕ) (bytes : List ℕ) (old new : History) : Type 0 where
  pub passed : HasGoneOn old new
  pub stands : IsSettled old.file → start ≤ length old.file.bytes → StandsFrom did start bytes old new
