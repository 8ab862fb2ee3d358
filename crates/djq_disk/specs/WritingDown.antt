-- What a piece that is written and then synced leaves.
use Rattle.std.specs.Prelude.{◌≡◌, ℕ, List, length}
use Rattle.djq_disk.specs.File.{IsSettled, settled, piece_put, KeepsOutside}
use Rattle.djq_disk.specs.History.{History}
use Rattle.djq_disk.specs.Leaving.{LeavesSince}
use Rattle.djq_disk.specs.declared.disk.DiskDid.{DiskDid}
use Rattle.djq_disk.specs.declared.disk.DiskDid.TheVariants.{Done}

-- A piece is written at a place and synced. If all was synced before, at each moment a crash leaves
-- everything outside the piece's part, whatever the write and the sync answer; and once both were
-- done, the file has the piece and all is synced. The next file is as it was.
pub record WritesDown (did : DiskDid) (at : ℕ) (piece : List ℕ) (old new : History) : Type 0 where
  pub paths : new.paths ≡ old.paths
  pub next : new.next ≡ old.next
  pub leaves : IsSettled old.file
      → LeavesSince (KeepsOutside (record { at = at; size = length piece }) old.file.bytes) old new
  pub done : did ≡ Done → new.file ≡ settled (piece_put at piece old.file.bytes)
