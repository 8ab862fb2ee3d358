-- What a stop leaves of a file, and what several calls of a disk log.
use Rattle.std.proofs.Common.{◌≡◌, ℕ, ◌+◌, ◌-◌, ◌<◌, ◌≤◌, inl, inr, List, [], ◌∷◌, ◌++◌, length, take, drop, get_or}
use Rattle.std.proofs.Common.{replicate, refl, sym, ap, subst, ◌∙◌, arith, append_assoc, append-nil, length-append}
use Rattle.std.proofs.Common.{length-take, length-drop, ap₂}
use Rattle.std.specs.List.{AllByRecursion}
use Rattle.std.proofs.lemmas.List.{length-replicate, get_or_append_left, get_or-take, get_or-drop, get_or-append_right}
use Rattle.std.proofs.lemmas.List.{take-take}
use Rattle.std.proofs.Math.Seq.{take-add, take-append-add, drop-drop}
use Rattle.std.specs.Prelude.{Option, Some, None, Result, Ok, Err, MatchResult}
use Rattle.std.specs.declared.alloc.AllocError.{AllocError}
use Rattle.djq_io.specs.Sink.{Gains}
use Rattle.djq_disk.specs.declared.disk.DiskDid.{DiskDid}
use Rattle.djq_disk.specs.declared.disk.DiskDid.TheVariants.{Done, Failed}
use Rattle.djq_disk.specs.declared.call_log.DiskCall.{DiskCall}
use Rattle.djq_disk.specs.File.{Span, File, IsSettled, settled, with_written, piece_put, KeepsOutside}
use Rattle.djq_disk.specs.History.{History, moved_to, DiskWrites, Syncs, WhereHistoryTold}
use Rattle.djq_disk.specs.Leaving.{LeavesOnly, LeavesSince}
use Rattle.djq_disk.specs.WritingDown.{WritesDown}
use Rattle.djq_disk.specs.CallLog.{Calls, told_by, untouched, history_after_call, after_calls}

-- ---- What a stop leaves of a file that is written.

-- what holds of two lists' elements holds of those of both
pub all_append : {X : Type 0} (P : X → Type 0) (xs ys : List X) → AllByRecursion P xs → AllByRecursion P ys
    → AllByRecursion P (xs ++ ys)
all_append P [] ys p q = q
all_append P (x ∷ xs) ys p q = (p.0, all_append P xs ys p.1 q)

pub all_so : {X : Type 0} (P Q : X → Type 0) (xs : List X) → ((x : X) → P x → Q x) → AllByRecursion P xs
    → AllByRecursion Q xs
all_so P Q [] so p = tt
all_so P Q (x ∷ xs) so p = (so x p.0, all_so P Q xs so p.1)

-- no time goes by
pub leaves_none : (P : List ℕ → Type 0) (h : History) → LeavesOnly P h.file → LeavesSince P h h
leaves_none P h now = record { more = []; past = sym (append-nil h.past); paths = refl; each = tt; now = now }

-- a moment more
pub leaves_move : (P : List ℕ → Type 0) (old mid : History) (file : File) → LeavesSince P old mid → LeavesOnly P file
    → LeavesSince P old (moved_to file mid)
leaves_move P old mid file leaves now = record {
  more = leaves.more ++ mid.file ∷ [];
  past = ap (λ files. files ++ mid.file ∷ []) leaves.past ∙ append_assoc old.past leaves.more (mid.file ∷ []);
  paths = leaves.paths;
  each = all_append (LeavesOnly P) leaves.more (mid.file ∷ []) leaves.each (leaves.now, tt);
  now = now;
}

-- one stretch of time after another
pub leaves_more : (P : List ℕ → Type 0) (old mid new : History) → LeavesSince P old mid → LeavesSince P mid new
    → LeavesSince P old new
leaves_more P old mid new p q = record {
  more = p.more ++ q.more;
  past = q.past ∙ ap (λ files. files ++ q.more) p.past ∙ append_assoc old.past p.more q.more;
  paths = q.paths ∙ p.paths;
  each = all_append (LeavesOnly P) p.more q.more p.each q.each;
  now = q.now;
}

-- what follows of the images
pub leaves_so : (P Q : List ℕ → Type 0) (old new : History) → ((image : List ℕ) → P image → Q image)
    → LeavesSince P old new → LeavesSince Q old new
leaves_so P Q old new so p = record {
  more = p.more;
  past = p.past;
  paths = p.paths;
  each = all_so (LeavesOnly P) (LeavesOnly Q) p.more (λ file only image is. so image (only image is)) p.each;
  now = λ image is. so image (p.now image is);
}

pub keeps_all : (span : Span) (bytes : List ℕ) → KeepsOutside span bytes bytes
keeps_all span bytes = record { longer = omega arith; same = λ i within out. refl }

-- a write that was done
pub put_keeps : (at : ℕ) (piece bytes : List ℕ)
    → KeepsOutside (record { at = at; size = length piece }) bytes (piece_put at piece bytes)
put_keeps at piece bytes = record {
  longer = omega (arith, sizes, front_size);
  same = λ i within out. elim out [ inl before ↦ before_it i within before | inr behind ↦ behind_it i within behind ];
}
  where
    zeros : List ℕ
    zeros = replicate (at - length bytes) 0

    front : List ℕ
    front = take at bytes ++ replicate (at - length bytes) 0 ++ piece

    sizes : length (front ++ drop (at + length piece) bytes) ≡ length front + (length bytes - (at + length piece))
    sizes = length-append front (drop (at + length piece) bytes)
        ∙ ap (λ n. length front + n) (length-drop (at + length piece) bytes)

    front_size : length front ≡ at + length piece
    front_size = omega (
      arith,
      length-append (take at bytes ++ replicate (at - length bytes) 0) piece,
      length-append
          (take at bytes) (replicate (at - length bytes) 0),
      length-take at bytes,
      length-replicate {A = ℕ}
          (at - length bytes) 0,
    )

    before_it : (i : ℕ) → i < length bytes → i < at → get_or (piece_put at piece bytes) i 0 ≡ get_or bytes i 0
    before_it i within before =
        let in_take : i < length (take at bytes) = omega (arith, length-take at bytes) in
        let in_zeros : i < length (take at bytes ++ replicate (at - length bytes) 0) = omega
        (arith, length-append (take at bytes) (replicate (at - length bytes) 0)) in
        let in_front : i < length front = omega (arith, front_size) in
        get_or_append_left front (drop (at + length piece) bytes) 0 i in_front
        ∙ get_or_append_left (take at bytes ++ replicate (at - length bytes) 0) piece 0 i in_zeros
        ∙ get_or_append_left (take at bytes) (replicate (at - length bytes) 0) 0 i in_take
        ∙ get_or-take at bytes i 0 before

    behind_it : (i : ℕ) → i < length bytes → at + length piece ≤ i
        → get_or (piece_put at piece bytes) i 0 ≡ get_or bytes i 0
    behind_it i within behind =
        let there : (at + length piece) + (i - (at + length piece)) ≡ i = omega arith in
        get_or-append_right front (drop (at + length piece) bytes) (at + length piece) i 0 front_size behind
        ∙ get_or-drop (at + length piece) bytes (i - (at + length piece)) 0 ∙ ap (λ k. get_or bytes k 0) there

-- Whatever a write answers, it keeps what is outside its part.
pub write_keeps : (did : DiskDid) (at : ℕ) (piece : List ℕ) (old new : History) → DiskWrites did at piece old new
    → (bytes : List ℕ) × KeepsOutside (record { at = at; size = length piece }) old.file.bytes bytes
    × (new ≡ moved_to (with_written (record { at = at; size = length piece }) bytes old.file) old)
write_keeps Done at piece old new writes =
    (piece_put at piece old.file.bytes, put_keeps at piece old.file.bytes, writes)
write_keeps Failed at piece old new writes = (writes.0, writes.1.keeps, writes.2)

-- what a stop leaves of a file that is settled
pub settled_leaves : (span : Span) (old bytes : List ℕ) → KeepsOutside span old bytes
    → LeavesOnly (KeepsOutside span old) (settled bytes)
settled_leaves span old bytes keeps image is = record {
  longer = omega (arith, keeps.longer, is.long);
  same = λ i within out. is.kept i (omega (arith, keeps.longer)) tt ∙ keeps.same i within out;
}

-- and of one that was then written
pub written_leaves : (span : Span) (old bytes : List ℕ) → KeepsOutside span old bytes
    → LeavesOnly (KeepsOutside span old) (with_written span bytes (settled old))
written_leaves span old bytes keeps image is = record {
  longer = is.long;
  same = λ i within out. is.kept i within (out, tt) ∙ keeps.same i within out;
}

-- A settled file is written: each moment from then on.
pub write_leaves : (span : Span) (bytes : List ℕ) (old : History) → IsSettled old.file
    → KeepsOutside span old.file.bytes bytes
    → LeavesSince (KeepsOutside span old.file.bytes) old (moved_to (with_written span bytes old.file) old)
write_leaves span bytes old is keeps =
    let P = KeepsOutside span old.file.bytes in
    let before : LeavesOnly P old.file = subst (λ (f : File). LeavesOnly P f) (sym is)
    (settled_leaves span old.file.bytes old.file.bytes (keeps_all span old.file.bytes)) in
    let behind : LeavesOnly P (with_written span bytes old.file) = subst
    (λ (f : File). LeavesOnly P (with_written span bytes f)) (sym is)
    (written_leaves span old.file.bytes bytes keeps) in
    leaves_move P old old (with_written span bytes old.file) (leaves_none P old before) behind

-- a write that failed, and no sync
pub fails_down : (at : ℕ) (piece : List ℕ) (old new : History) → DiskWrites Failed at piece old new
    → WritesDown Failed at piece old new
fails_down at piece old new writes =
    let kept = write_keeps Failed at piece old new writes in
    record {
      paths = ap (λ (h : History). h.paths) kept.2;
      next = ap (λ (h : History). h.next) kept.2;
      leaves = λ is. subst (λ (h : History). LeavesSince
          (KeepsOutside (record { at = at; size = length piece }) old.file.bytes) old h) (sym kept.2)
          (write_leaves _ kept.0 old is kept.1);
      done = λ wrong. cc;
    }

-- a write that was done, and a sync
pub writes_down : (did : DiskDid) (at : ℕ) (piece : List ℕ) (old mid new : History) → DiskWrites Done at piece old mid
    → Syncs did mid new → WritesDown did at piece old new
writes_down Failed at piece old mid new writes syncs = record {
  paths = ap (λ (h : History). h.paths) (syncs ∙ writes);
  next = ap (λ (h : History). h.next) (syncs ∙ writes);
  leaves = λ is. subst
      (λ (h : History). LeavesSince (KeepsOutside (record { at = at; size = length piece }) old.file.bytes)
      old h) (sym (syncs ∙ writes))
      (write_leaves _ (piece_put at piece old.file.bytes) old is (put_keeps at piece old.file.bytes));
  done = λ wrong. cc;
}
writes_down Done at piece old mid new writes syncs =
    let span : Span = record { at = at; size = length piece } in
    let bytes = piece_put at piece old.file.bytes in
    let keeps = put_keeps at piece old.file.bytes in
    let is_new : new ≡ moved_to (settled bytes) (moved_to (with_written span bytes old.file) old) = syncs
    ∙ ap (λ (h : History). moved_to (settled h.file.bytes) h) writes in
    record {
      paths = ap (λ (h : History). h.paths) is_new;
      next = ap (λ (h : History). h.next) is_new;
      leaves = λ is. subst (λ (h : History). LeavesSince (KeepsOutside span old.file.bytes) old h) (sym is_new)
          (leaves_move (KeepsOutside span old.file.bytes) old (moved_to (with_written span bytes old.file) old)
          (settled bytes)
          (write_leaves span bytes old is keeps) (settled_leaves span old.file.bytes bytes keeps));
      done = λ _. ap (λ (h : History). h.file) is_new;
    }

-- ---- A buffer that is filled by one read after another.

-- What stands behind the bytes so far is what was given.
pub filled_within : (done n : ℕ) (buf got after : List ℕ) → done ≤ length buf → n ≤ length got
    → take (done + length got) after ≡ take done buf ++ got → done + n ≤ length after
filled_within done n buf got after within fits is =
    omega (
      arith,
      ap length is,
      length-take (done + length got) after,
      length-append (take done buf) got,
      length-take
          done buf,
    )

-- The bytes so far, and those that the next read gave behind them.
pub filled_more : (at done n : ℕ) (bytes buf got after : List ℕ) → done ≤ length buf → n ≤ length got
    → take (done + length got) after ≡ take done buf ++ got → take done buf ≡ take done (drop at bytes)
    → take n got ≡ take n (drop (at + done) bytes) → take (done + n) after ≡ take (done + n) (drop at bytes)
filled_more at done n bytes buf got after within fits after_is so_far is =
    let size : length (take done buf) ≡ done = omega (arith, length-take done buf) in
    let cut : take (done + n) after ≡ take (done + n) (take done buf ++ got) =
    sym (take-take (done + n) (done + length got) after (omega arith)) ∙ ap (take (done + n)) after_is in
    let front : take (done + n) (take done buf ++ got) ≡ take done buf ++ take n got =
    ap (λ k. take (k + n) (take done buf ++ got)) (sym size) ∙ take-append-add (take done buf) got n in
    cut ∙ front ∙ ap₂ (λ (xs ys : List ℕ). xs ++ ys) so_far (is ∙ ap (take n) (sym (drop-drop done at bytes)))
    ∙ sym (take-add done n (drop at bytes))

-- ---- What is told of several calls of a disk, and of its calls in memory.

-- no call
pub told_none : (h : Option History) (P : History → History → Type 0) → ((o : History) → P o o) → WhereHistoryTold h h P
told_none None P same = tt
told_none (Some h) P same = same h

-- what follows from what is told
pub told_so : (old new : Option History) (P Q : History → History → Type 0) → ((o n : History) → P o n → Q o n)
    → WhereHistoryTold old new P → WhereHistoryTold old new Q
told_so old None P Q so told = tt
told_so None (Some n) P Q so told = absurd told
told_so (Some o) (Some n) P Q so told = so o n told

-- one call after another
pub told_both : (old mid new : Option History) (P Q R : History → History → Type 0)
    → ((o m n : History) → P o m → Q m n → R o n) → WhereHistoryTold old mid P → WhereHistoryTold mid new Q
    → WhereHistoryTold old new R
told_both old mid None P Q R both p q = tt
told_both old None (Some n) P Q R both p q = absurd q
told_both None (Some m) (Some n) P Q R both p q = absurd p
told_both (Some o) (Some m) (Some n) P Q R both p q = both o m n p q

after_one_more : (h : History) (calls : List DiskCall) (call : DiskCall) → after_calls h (calls ++ call ∷ [])
    ≡ history_after_call (after_calls h calls) call
after_one_more h [] call = refl
after_one_more h (c ∷ cs) call = after_one_more (history_after_call h c) cs call

told_gained : (first : List ℕ) (old new : Option (List DiskCall)) (call : DiskCall) → Gains old new (call ∷ [])
    → WhereHistoryTold (told_by (record { first = first; calls = old }))
    (told_by (record { first = first; calls = new }))
    (λ o n. n ≡ history_after_call o call)
told_gained first old None call gains = tt
told_gained first None (Some n) call gains = absurd gains
told_gained first (Some o) (Some n) call gains = ap (after_calls (untouched first)) gains
    ∙ after_one_more (untouched first) o call

-- A call that a disk in memory keeps is what became of its history.
pub told_call : (old new : Calls) (call : DiskCall) → new.first ≡ old.first → Gains old.calls new.calls (call ∷ [])
    → WhereHistoryTold (told_by old) (told_by new) (λ o n. n ≡ history_after_call o call)
told_call old new call first gains = rw first (told_gained old.first old.calls new.calls call gains)

-- So it is where the call may have been lost.
pub told_made : (call : Result DiskCall AllocError) (old new : Calls) → new.first ≡ old.first
    → MatchResult call (λ made. Gains old.calls new.calls (made ∷ [])) (λ _. new.calls ≡ None)
    → MatchResult call (λ made. WhereHistoryTold (told_by old) (told_by new) (λ o n. n ≡ history_after_call o made))
    (λ _. told_by new ≡ None)
told_made (Ok call) old new first made = told_call old new call first made
told_made (Err e) old new first made = rw made refl
