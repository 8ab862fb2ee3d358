-- How the calls of a disk are noted: by numbers, which are the call, its answer, the place and how many bytes the answer
-- counts, as far as the call has them; and by bytes, which are the path, the piece or what a read gave.
use Rattle.std.specs.Prelude.{ℕ, [], ◌==◌, if◌then◌else◌, slice_index_or}
use Rattle.djq_disk.specs.declared.disk.DiskOpen.{DiskOpen}
use Rattle.djq_disk.specs.declared.disk.DiskOpen.TheVariants.{Ready, Failed as Unopened}
use Rattle.djq_disk.specs.declared.disk.DiskLen.{DiskLen}
use Rattle.djq_disk.specs.declared.disk.DiskLen.TheVariants.{Len, Failed as Unmeasured}
use Rattle.djq_disk.specs.declared.disk.DiskRead.{DiskRead}
use Rattle.djq_disk.specs.declared.disk.DiskRead.TheVariants.{Got, End, Failed as Unread}
use Rattle.djq_disk.specs.declared.disk.DiskDid.{DiskDid}
use Rattle.djq_disk.specs.declared.disk.DiskDid.TheVariants.{Done, Failed}
use Rattle.djq_disk.specs.declared.call_log.DiskCall.TheVariants.{Opening, Measuring, Reading, Writing, Syncing}
use Rattle.djq_disk.specs.declared.call_log.DiskCall.TheVariants.{BeginningNext, WritingNext, SyncingNext, Replacing}
use Rattle.djq_system.specs.Notes.{Noted}
use Rattle.djq_system.specs.FileCalls.{FileCall}

abbrev pub opened_noted : ℕ → DiskOpen
opened_noted answer = if answer == 0 then Ready else Unopened

abbrev pub length_noted : ℕ → ℕ → DiskLen
length_noted answer n = if answer == 0 then Len n else Unmeasured

abbrev pub read_noted : ℕ → ℕ → DiskRead
read_noted answer n = if answer == 0 then Got n else if answer == 1 then End else Unread

abbrev pub did_noted : ℕ → DiskDid
did_noted answer = if answer == 0 then Done else Failed

-- the call with its answer that these numbers and bytes note
abbrev pub file_call_noted : Noted → FileCall
file_call_noted noted =
    let call = slice_index_or noted.0 0 0 in
    let answer = slice_index_or noted.0 1 0 in
    let at = slice_index_or noted.0 2 0 in
    let n = slice_index_or noted.0 3 0 in
    if call == 0 then record { call = Opening noted.1 (opened_noted answer); gave = [] }
    else if call == 1 then record { call = Measuring (length_noted answer n); gave = [] }
    else if call == 2 then record { call = Reading at (read_noted answer n); gave = noted.1 }
    else if call == 3 then record { call = Writing at noted.1 (did_noted answer); gave = [] }
    else if call == 4 then record { call = Syncing (did_noted answer); gave = [] }
    else if call == 5 then record { call = BeginningNext (did_noted answer); gave = [] }
    else if call == 6 then record { call = WritingNext at noted.1 (did_noted answer); gave = [] }
    else if call == 7 then record { call = SyncingNext (did_noted answer); gave = [] }
    else record { call = Replacing (did_noted answer); gave = [] }
