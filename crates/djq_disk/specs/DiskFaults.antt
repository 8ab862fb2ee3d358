-- When a disk's count of faults rises.
use Rattle.std.specs.Prelude.{◌≡◌, ℕ}
use Rattle.djq_io.specs.Faults.{Counted}
use Rattle.djq_disk.specs.declared.disk.DiskOpen.{DiskOpen}
use Rattle.djq_disk.specs.declared.disk.DiskOpen.TheVariants.{Ready, Failed as Unopened}
use Rattle.djq_disk.specs.declared.disk.DiskLen.{DiskLen}
use Rattle.djq_disk.specs.declared.disk.DiskLen.TheVariants.{Len, Failed as Unmeasured}
use Rattle.djq_disk.specs.declared.disk.DiskRead.{DiskRead}
use Rattle.djq_disk.specs.declared.disk.DiskRead.TheVariants.{Got, End, Failed as Unread}
use Rattle.djq_disk.specs.declared.disk.DiskDid.{DiskDid}
use Rattle.djq_disk.specs.declared.disk.DiskDid.TheVariants.{Done, Failed}
use Rattle.djq_disk.specs.declared.filling.Filled.{Filled}
use Rattle.djq_disk.specs.declared.filling.Filled.TheVariants.{Whole, Short, Failed as Unfilled}

-- A disk's count of faults rises if an open fails, and else stays;
abbrev pub CountsOpen : DiskOpen → ℕ → ℕ → Type 0
CountsOpen Ready old new = new ≡ old
CountsOpen Unopened old new = Counted old new

-- so for its length,
abbrev pub CountsLen : DiskLen → ℕ → ℕ → Type 0
CountsLen (Len n) old new = new ≡ old
CountsLen Unmeasured old new = Counted old new

-- a read,
abbrev pub CountsDiskRead : DiskRead → ℕ → ℕ → Type 0
CountsDiskRead (Got n) old new = new ≡ old
CountsDiskRead End old new = new ≡ old
CountsDiskRead Unread old new = Counted old new

-- a call that only does or fails, such as a write or a sync,
abbrev pub CountsDid : DiskDid → ℕ → ℕ → Type 0
CountsDid Done old new = new ≡ old
CountsDid Failed old new = Counted old new

-- and when a buffer is filled.
abbrev pub CountsFill : Filled → ℕ → ℕ → Type 0
CountsFill Whole old new = new ≡ old
CountsFill Short old new = new ≡ old
CountsFill Unfilled old new = Counted old new
