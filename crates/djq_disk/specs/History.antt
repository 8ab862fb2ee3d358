-- The history of a disk, and what each of its calls does to it.
use Rattle.std.specs.Prelude.{◌≡◌, ℕ, ◌+◌, ◌≤◌, ◌⊎◌, List, [], ◌∷◌, ◌++◌, length, take, drop, Option, IfSome, IsSomeAnd}
use Rattle.std.specs.Prelude.{Bool, true}
use Rattle.djq_disk.specs.File.{File, settled, with_written, piece_put, Torn}
use Rattle.djq_disk.specs.declared.disk.DiskOpen.{DiskOpen}
use Rattle.djq_disk.specs.declared.disk.DiskOpen.TheVariants.{Ready, Failed as Unopened}
use Rattle.djq_disk.specs.declared.disk.DiskLen.{DiskLen}
use Rattle.djq_disk.specs.declared.disk.DiskLen.TheVariants.{Len, Failed as Unmeasured}
use Rattle.djq_disk.specs.declared.disk.DiskRead.{DiskRead}
use Rattle.djq_disk.specs.declared.disk.DiskRead.TheVariants.{Got, End, Failed as Unread}
use Rattle.djq_disk.specs.declared.disk.DiskDid.{DiskDid}
use Rattle.djq_disk.specs.declared.disk.DiskDid.TheVariants.{Done, Failed}

-- The history of a disk: the paths that were opened, the file as it was at each earlier moment, the
-- file as it is, and the next file, which is written beside it. Nothing of the next file counts until
-- it replaces the file.
--
-- Each write adds a moment, and each sync that was done. Within a call there is no further one, and
-- none is wanting: a write marks its part as written, so that what a crash leaves in its middle is
-- among the images after it, and what one leaves in the middle of a sync is among those before it. So
-- it is when the next file replaces the file: what a crash leaves in the middle is an image of one of
-- both.
pub record History : Type 0 where
  pub paths : List (List ℕ)
  pub past : List File
  pub file : File
  pub next : File

-- if the later state shows a history, the earlier one showed it, and this holds of both
abbrev pub WhereHistoryTold : Option History → Option History → (History → History → Type 0) → Type 0
WhereHistoryTold old new P = IfSome new (λ n. IsSomeAnd old (λ o. P o n))

-- the history a moment later, with this file
abbrev pub moved_to : File → History → History
moved_to file h = record { paths = h.paths; past = h.past ++ h.file ∷ []; file = file; next = h.next }

-- the history with this next file
abbrev pub with_next : File → History → History
with_next file h = record { paths = h.paths; past = h.past; file = h.file; next = file }

-- the history a moment later, once the next file has replaced the file
abbrev pub replaced : History → History
replaced h = with_next (settled []) (moved_to h.next h)

-- An open adds its path, whatever it answers.
abbrev pub OpensPath : List ℕ → History → History → Type 0
OpensPath path old new = new ≡ record old { paths = old.paths ++ path ∷ [] }

-- The file is open after an open that was ready. One that failed leaves it open or not, as it was.
abbrev pub Opens : DiskOpen → Bool → Bool → Type 0
Opens Ready old new = new ≡ true
Opens Unopened old new = new ≡ old

-- The length that is answered is the file's, and nothing changes.
abbrev pub Sizes : DiskLen → History → History → Type 0
Sizes (Len n) old new = (n ≡ length old.file.bytes) × (new ≡ old)
Sizes Unmeasured old new = new ≡ old

-- A read at a place of a file of these bytes gives those that are there, or the end if and only if
-- none are.
abbrev pub IsPart : DiskRead → ℕ → List ℕ → List ℕ → Type 0
IsPart (Got n) at buf bytes = (at + n ≤ length bytes) × (take n buf ≡ take n (drop at bytes))
IsPart End at buf bytes = length bytes ≤ at
IsPart Unread at buf bytes = Unit {0}

-- A read gives a part of the file, and nothing changes.
abbrev pub DiskReads : DiskRead → ℕ → List ℕ → History → History → Type 0
DiskReads answer at buf old new = IsPart answer at buf old.file.bytes × (new ≡ old)

-- What a read may give, shown or not: at least one byte, at most as many as the buffer has room for,
-- and none past the last place that a number names.
abbrev pub FitsRead : DiskRead → ℕ → List ℕ → Type 0
FitsRead (Got n) at buf = (1 ≤ n) × (n ≤ length buf) × (at + n ≤ 18446744073709551615)
FitsRead End at buf = Unit {0}
FitsRead Unread at buf = Unit {0}

-- A write that was done has written the whole piece. One that failed may have left any bytes in its
-- part. Both count as written since the last sync.
abbrev pub DiskWrites : DiskDid → ℕ → List ℕ → History → History → Type 0
DiskWrites Done at piece old new =
    new ≡ moved_to
    (with_written (record { at = at; size = length piece }) (piece_put at piece old.file.bytes) old.file) old
DiskWrites Failed at piece old new = (bytes : List ℕ)
    × Torn (record { at = at; size = length piece }) old.file.bytes bytes
    × (new ≡ moved_to (with_written (record { at = at; size = length piece }) bytes old.file) old)

-- After a sync that was done a stop leaves what a read gives. One that failed counts as none.
abbrev pub Syncs : DiskDid → History → History → Type 0
Syncs Done old new = new ≡ moved_to (settled old.file.bytes) old
Syncs Failed old new = new ≡ old

-- A next file that was begun is empty, whatever was there. A begin that failed counts as none.
abbrev pub BeginsNext : DiskDid → History → History → Type 0
BeginsNext Done old new = new ≡ with_next (settled []) old
BeginsNext Failed old new = new ≡ old

-- A write of the next file does to it what a write of the file does to that.
abbrev pub WritesNext : DiskDid → ℕ → List ℕ → History → History → Type 0
WritesNext Done at piece old new =
    new ≡ with_next
    (with_written (record { at = at; size = length piece }) (piece_put at piece old.next.bytes) old.next) old
WritesNext Failed at piece old new = (bytes : List ℕ)
    × Torn (record { at = at; size = length piece }) old.next.bytes bytes
    × (new ≡ with_next (with_written (record { at = at; size = length piece }) bytes old.next) old)

-- After a sync of the next file that was done it has what was written. One that failed counts as none.
abbrev pub SyncsNext : DiskDid → History → History → Type 0
SyncsNext Done old new = new ≡ with_next (settled old.next.bytes) old
SyncsNext Failed old new = new ≡ old

-- The next file replaces the file. After a call that failed either of both may have its place.
abbrev pub Replaces : DiskDid → History → History → Type 0
Replaces Done old new = new ≡ replaced old
Replaces Failed old new = (new ≡ old) ⊎ (new ≡ replaced old)
