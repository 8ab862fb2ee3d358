-- The history of a file of the operating system, from its calls with their answers.
use Rattle.std.specs.Prelude.{ℕ, ◌+◌, ◌==◌, min, max, nat_le, Bool, true, ◌&&◌, if◌then◌else◌, List, [], ◌∷◌}
use Rattle.std.specs.Prelude.{length, take, drop, reverse, Option, Some, None, option_and_then}
use Rattle.std.specs.Str.{bytes_eq}
use Rattle.djq_disk.specs.File.{Span, with_written}
use Rattle.djq_disk.specs.History.{History, moved_to, with_next, replaced}
use Rattle.djq_disk.specs.CallLog.{untouched, history_after_call}
use Rattle.djq_disk.specs.declared.disk.DiskLen.{DiskLen}
use Rattle.djq_disk.specs.declared.disk.DiskLen.TheVariants.{Len, Failed as Unmeasured}
use Rattle.djq_disk.specs.declared.disk.DiskRead.{DiskRead}
use Rattle.djq_disk.specs.declared.disk.DiskRead.TheVariants.{Got, End, Failed as Unread}
use Rattle.djq_disk.specs.declared.disk.DiskDid.TheVariants.{Failed}
use Rattle.djq_disk.specs.declared.call_log.DiskCall.{DiskCall}
use Rattle.djq_disk.specs.declared.call_log.DiskCall.TheVariants.{Measuring, Reading, Writing}
use Rattle.djq_disk.specs.declared.call_log.DiskCall.TheVariants.{WritingNext, Replacing}
use Rattle.djq_system.specs.Oracle.{FileOracle}

-- A call with its answer, and the bytes that it gave, if it is a read.
pub record FileCall : Type 0 where
  pub call : DiskCall
  pub gave : List ℕ

-- the bytes that a read gave to a buffer
abbrev pub given_by_read : DiskRead → List ℕ → List ℕ
given_by_read (Got n) buf = take n buf
given_by_read End buf = []
given_by_read Unread buf = []

-- the length that is answered is that of these bytes
abbrev pub is_length : DiskLen → List ℕ → Bool
is_length (Len n) bytes = n == length bytes
is_length Unmeasured bytes = true

-- what a read at a place gave is there in these bytes, and it is the end if and only if none are
abbrev pub stands_there : DiskRead → ℕ → List ℕ → List ℕ → Bool
stands_there (Got n) at gave bytes = nat_le (at + n) (length bytes) && bytes_eq gave (take n (drop at bytes))
stands_there End at gave bytes = nat_le (length bytes) at
stands_there Unread at gave bytes = true

-- a write in a part that was cut short may make the first bytes the second ones
abbrev pub may_be_torn : Span → List ℕ → List ℕ → Bool
may_be_torn span old new =
    nat_le (length old) (length new) && nat_le (length new) (max (length old) (span.at + span.size))
    && bytes_eq (take (min span.at (length old)) new) (take (min span.at (length old)) old)
    && bytes_eq (drop (span.at + span.size) new) (drop (span.at + span.size) old)

-- the history, if something is so
abbrev pub history_if : Bool → History → Option History
history_if so h = if so then Some h else None

-- The history after a call that so many calls were before, if a file whose history was this one may answer so.
abbrev pub history_answered : FileOracle → ℕ → DiskCall → List ℕ → History → Option History
history_answered o n (Measuring answer) gave h = history_if (is_length answer h.file.bytes) h
history_answered o n (Reading at answer) gave h = history_if (stands_there answer at gave h.file.bytes) h
history_answered o n (Writing at piece Failed) gave h =
    let part : Span = record { at = at; size = length piece } in
    history_if (may_be_torn part h.file.bytes (o.left n)) (moved_to (with_written part (o.left n) h.file) h)
history_answered o n (WritingNext at piece Failed) gave h =
    let part : Span = record { at = at; size = length piece } in
    history_if (may_be_torn part h.next.bytes (o.left n)) (with_next (with_written part (o.left n) h.next) h)
history_answered o n (Replacing Failed) gave h = Some (if o.replaces n then replaced h else h)
history_answered o n call gave h = Some (history_after_call h call)

-- the history after these calls, of which the last one comes first
abbrev pub history_back : FileOracle → List FileCall → Option History
history_back o [] = Some (untouched o.first)
history_back o (call ∷ earlier) =
    option_and_then (history_answered o (length earlier) call.call call.gave) (history_back o earlier)

-- The history after these calls of a file that does beside what it answers what the oracle says; none if such a file
-- doesn't answer so.
abbrev pub history_of_calls : FileOracle → List FileCall → Option History
history_of_calls o calls = history_back o (reverse calls)
