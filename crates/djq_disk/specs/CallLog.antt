-- A disk in memory by its calls.
use Rattle.std.specs.Prelude.{◌≡◌, ℕ, List, [], ◌∷◌, ◌++◌, length, Option}
use Rattle.std.specs.Option.{option_map}
use Rattle.djq_io.specs.Sink.{Gains}
use Rattle.djq_disk.specs.File.{settled, with_written, piece_put}
use Rattle.djq_disk.specs.History.{History, moved_to, with_next, replaced}
use Rattle.djq_disk.specs.declared.disk.DiskDid.{DiskDid}
use Rattle.djq_disk.specs.declared.disk.DiskDid.TheVariants.{Done, Failed}
use Rattle.djq_disk.specs.declared.call_log.DiskCall.{DiskCall}
use Rattle.djq_disk.specs.declared.call_log.DiskCall.TheVariants.{Opening, Measuring, Reading, Writing, Syncing}
use Rattle.djq_disk.specs.declared.call_log.DiskCall.TheVariants.{BeginningNext, WritingNext, SyncingNext, Replacing}

-- a disk that was asked nothing yet, with a file of these bytes and an empty next file
abbrev pub untouched : List ℕ → History
untouched bytes = record { paths = []; past = []; file = settled bytes; next = settled [] }

-- the history after a write of a disk in memory, which leaves its part as it was if it fails
abbrev pub after_write : History → ℕ → List ℕ → DiskDid → History
after_write h at piece Done = moved_to
    (with_written (record { at = at; size = length piece }) (piece_put at piece h.file.bytes) h.file) h
after_write h at piece Failed = moved_to (with_written (record { at = at; size = length piece }) h.file.bytes h.file) h

-- the history after a sync
abbrev pub after_sync_call : History → DiskDid → History
after_sync_call h Done = moved_to (settled h.file.bytes) h
after_sync_call h Failed = h

-- the history after a next file is begun
abbrev pub after_begin_next : History → DiskDid → History
after_begin_next h Done = with_next (settled []) h
after_begin_next h Failed = h

-- the history after a write of the next file, which leaves its part as it was if it fails
abbrev pub after_write_next : History → ℕ → List ℕ → DiskDid → History
after_write_next h at piece Done = with_next
    (with_written (record { at = at; size = length piece }) (piece_put at piece h.next.bytes) h.next) h
after_write_next h at piece Failed = with_next
    (with_written (record { at = at; size = length piece }) h.next.bytes h.next) h

-- the history after a sync of the next file
abbrev pub after_sync_next : History → DiskDid → History
after_sync_next h Done = with_next (settled h.next.bytes) h
after_sync_next h Failed = h

-- the history after the next file was to replace the file, which stays as it was if that fails
abbrev pub after_replace : History → DiskDid → History
after_replace h Done = replaced h
after_replace h Failed = h

-- the history after a call
abbrev pub history_after_call : History → DiskCall → History
history_after_call h (Opening path answer) = record h { paths = h.paths ++ path ∷ [] }
history_after_call h (Measuring answer) = h
history_after_call h (Reading at answer) = h
history_after_call h (Writing at piece answer) = after_write h at piece answer
history_after_call h (Syncing answer) = after_sync_call h answer
history_after_call h (BeginningNext answer) = after_begin_next h answer
history_after_call h (WritingNext at piece answer) = after_write_next h at piece answer
history_after_call h (SyncingNext answer) = after_sync_next h answer
history_after_call h (Replacing answer) = after_replace h answer

-- the history after these calls, in order
abbrev pub after_calls : History → List DiskCall → History
after_calls h [] = h
after_calls h (call ∷ calls) = after_calls (history_after_call h call) calls

-- A disk in memory by its calls: the bytes of its file at first, and its calls in order with their
-- answers, unless it has lost them.
pub record Calls : Type 0 where
  pub first : List ℕ
  pub calls : Option (List DiskCall)

-- the history that it shows, if it has its calls
abbrev pub told_by : Calls → Option History
told_by log = option_map (after_calls (untouched log.first)) log.calls

-- From some calls of a disk to later ones this one was added, if they are shown.
pub record GainsCall (call : DiskCall) (old new : Calls) : Type 0 where
  pub first : new.first ≡ old.first
  pub calls : Gains old.calls new.calls (call ∷ [])
