-- The part of a file that no write since the last sync was in, and bytes that are put behind it.
use Rattle.std.proofs.Common.{◌≡◌, ℕ, suc, ◌+◌, ◌-◌, ◌<◌, ◌≤◌, inl, inr, List, [], ◌∷◌, ◌++◌, length, take, drop}
use Rattle.std.proofs.Common.{get_or, replicate, refl, sym, ap, ap₂, subst, ◌∙◌, arith, append_assoc, append-nil}
use Rattle.std.proofs.Common.{length-append, length-take, length-drop}
use Rattle.std.specs.List.{AllByRecursion}
use Rattle.std.proofs.Math.Seq.{take-append_seam, drop-append-add, drop-append_seam, drop-cons, drop-drop}
use Rattle.std.proofs.lemmas.List.{ext_get_or, take-append-drop, get_or-take, get_or-drop}
use Rattle.djq_disk.specs.declared.disk.DiskDid.{DiskDid}
use Rattle.djq_disk.specs.declared.disk.DiskDid.TheVariants.{Done, Failed}
use Rattle.djq_disk.specs.File.{Span, File, IsOutsideSpan, IsSettled, settled, with_written, KeepsOutside, piece_put}
use Rattle.djq_disk.specs.History.{History, moved_to, DiskWrites, Syncs}
use Rattle.djq_disk.specs.Leaving.{LeavesOnly, LeavesSince}
use Rattle.djq_disk.specs.WritingDown.{WritesDown}
use Rattle.djq_disk.proofs.Files.{all_append, all_so, leaves_move, write_keeps}
use Rattle.djq_log_file.specs.Laying.{IsFixed, BeginsAs, HasGoneOn}

-- ---- Lists of bytes that begin alike.

-- lists that agree in their first places begin alike
pub same_start : (n : ℕ) (a b : List ℕ) → n ≤ length a → n ≤ length b → ((i : ℕ) → i < n → get_or a i 0 ≡ get_or b i 0)
    → take n a ≡ take n b
same_start n a b in_a in_b same =
    ext_get_or 0 (take n a) (take n b) (omega (arith, length-take n a, length-take n b))
    (λ i within. let low : i < n = omega (arith, length-take n a) in get_or-take n a i 0 low ∙ same i low
    ∙ sym (get_or-take n b i 0 low))

-- a piece that is put behind the bytes before it
pub put_there : (xs piece rest : List ℕ)
    → piece_put (length xs) piece (xs ++ rest) ≡ xs ++ piece ++ drop (length piece) rest
put_there xs piece rest =
    let none : length xs - length (xs ++ rest) ≡ 0 = omega (arith, length-append xs rest) in
    let before : take (length xs) (xs ++ rest) ++ replicate (length xs - length (xs ++ rest)) 0 ≡ xs =
    ap₂ (λ (ys : List ℕ) (k : ℕ). ys ++ replicate k 0) (take-append_seam xs rest) none ∙ append-nil xs in
    ap₂ (λ (ys zs : List ℕ). ys ++ piece ++ zs) before (drop-append-add xs rest (length piece))

-- one byte in place of another
pub put_one : (xs : List ℕ) (old new : ℕ) (ys : List ℕ)
    → piece_put (length xs) (new ∷ []) (xs ++ old ∷ ys) ≡ xs ++ new ∷ ys
put_one xs old new ys = put_there xs (new ∷ []) (old ∷ ys) ∙ append_assoc xs (new ∷ []) ys

-- What is kept around one byte: what precedes it, and after it all that stood there.
pub kept_around : (at : ℕ) (old new : List ℕ) → at < length old → KeepsOutside (record { at = at; size = 1 }) old new
    → new ≡ take at old ++ (get_or new at 0 ∷ (drop (suc at) old ++ drop (length old) new))
kept_around at old new within keeps =
    sym (take-append-drop at new)
    ∙ ap₂ (λ (xs ys : List ℕ). xs ++ ys) before
    (drop-cons new at 0 (omega (arith, keeps.longer)) ∙ ap (λ (ys : List ℕ). get_or new at 0 ∷ ys) behind)
  where
    k : ℕ
    k = length old - suc at

    whole : suc at + k ≡ length old
    whole = omega arith

    before : take at new ≡ take at old
    before = same_start at new old (omega (arith, keeps.longer)) (omega arith)
        (λ i low. keeps.same i (omega arith) (inl low))

    size : length (drop (suc at) old) ≡ k
    size = length-drop (suc at) old

    size_new : length (take k (drop (suc at) new)) ≡ k
    size_new = omega (arith, length-take k (drop (suc at) new), length-drop (suc at) new, keeps.longer)

    there : take k (drop (suc at) new) ≡ drop (suc at) old
    there = ext_get_or 0 (take k (drop (suc at) new)) (drop (suc at) old) (size_new ∙ sym size)
        (λ i low. let in_k : i < k = omega (arith, size_new) in
        get_or-take k (drop (suc at) new) i 0 in_k ∙ get_or-drop (suc at) new i 0
        ∙ keeps.same (suc at + i) (omega (arith, whole)) (inr (omega arith)) ∙ sym (get_or-drop (suc at) old i 0))

    behind : drop (suc at) new ≡ drop (suc at) old ++ drop (length old) new
    behind = sym (take-append-drop k (drop (suc at) new))
        ∙ ap₂ (λ (xs ys : List ℕ). xs ++ ys) there
        (drop-drop k (suc at) new ∙ ap (λ n. drop n new) (omega (arith, whole)))

-- ---- A part that is fixed.

-- it stands in the file
pub fixed_long : (n : ℕ) (bytes : List ℕ) (file : File) → IsFixed n bytes file → n ≤ length file.bytes
fixed_long n bytes file fixed = omega
    (arith, fixed.long, ap length fixed.same, length-take n file.bytes, length-take n bytes)

pub fixed_settled : (n : ℕ) (file : File) → IsSettled file → n ≤ length file.bytes → IsFixed n file.bytes file
fixed_settled n file is long = record {
  long = long;
  synced = subst (λ (f : File). n ≤ f.synced) (sym is) long;
  behind = subst (λ (f : File). AllByRecursion (λ (span : Span). n ≤ span.at) f.written) (sym is) tt;
  same = refl;
}

-- a write behind it leaves it
fixed_written : (n : ℕ) (bytes after : List ℕ) (span : Span) (file : File) → IsFixed n bytes file → n ≤ span.at
    → KeepsOutside span file.bytes after → IsFixed n bytes (with_written span after file)
fixed_written n bytes after span file fixed behind keeps =
    let long = fixed_long n bytes file fixed in
    record {
      long = fixed.long;
      synced = fixed.synced;
      behind = all_append (λ (s : Span). n ≤ s.at) file.written (span ∷ []) fixed.behind (behind, tt);
      same = same_start n after file.bytes (omega (arith, keeps.longer)) long
          (λ i low. keeps.same i (omega arith) (inl (omega arith))) ∙ fixed.same;
    }

-- a sync leaves it
pub fixed_synced : (n : ℕ) (bytes : List ℕ) (file : File) → IsFixed n bytes file → IsFixed n bytes (settled file.bytes)
fixed_synced n bytes file fixed = record
    { long = fixed.long; synced = fixed_long n bytes file fixed; behind = tt; same = fixed.same }

-- a crash leaves it
pub fixed_leaves : (n : ℕ) (bytes : List ℕ) (file : File) → IsFixed n bytes file → LeavesOnly (BeginsAs n bytes) file
fixed_leaves n bytes file fixed image is =
    same_start n image file.bytes (omega (arith, fixed.synced, is.long)) (fixed_long n bytes file fixed)
    (λ i low. is.kept i (omega (arith, fixed.synced))
    (all_so (λ (s : Span). n ≤ s.at) (IsOutsideSpan i) file.written (λ s behind. inl (omega arith)) fixed.behind))
    ∙ fixed.same

-- A write behind it, whatever it answers.
pub fixed_write : (did : DiskDid) (at : ℕ) (piece : List ℕ) (n : ℕ) (first mid new : History)
    → IsFixed n first.file.bytes mid.file → LeavesSince (BeginsAs n first.file.bytes) first mid → n ≤ at
    → DiskWrites did at piece mid new
    → IsFixed n first.file.bytes new.file × LeavesSince (BeginsAs n first.file.bytes) first new
fixed_write did at piece n first mid new fixed leaves behind writes =
    let kept = write_keeps did at piece mid new writes in
    let span : Span = record { at = at; size = length piece } in
    let file : File = with_written span kept.0 mid.file in
    let after : IsFixed n first.file.bytes file = fixed_written n first.file.bytes kept.0 span mid.file fixed behind kept.1 in
    let moved : LeavesSince (BeginsAs n first.file.bytes) first (moved_to file mid) =
    leaves_move (BeginsAs n first.file.bytes) first mid file leaves (fixed_leaves n first.file.bytes file after) in
    subst (λ (h : History). IsFixed n first.file.bytes h.file
    × LeavesSince (BeginsAs n first.file.bytes) first h) (sym kept.2) (after, moved)

-- A piece that is written behind what was.
pub written_there : (at n : ℕ) (piece written rest : List ℕ) (first mid new : History) → IsFixed n first.file.bytes mid.file
    → at ≡ n + length written → drop n mid.file.bytes ≡ written ++ rest → DiskWrites Done at piece mid new
    → drop n new.file.bytes ≡ (written ++ piece) ++ drop (length piece) rest
written_there at n piece written rest first mid new fixed place is writes =
    ap (λ (h : History). drop n h.file.bytes) writes ∙ there
  where
    kept : List ℕ
    kept = take n mid.file.bytes

    later : List ℕ
    later = drop (length piece) rest

    size : length kept ≡ n
    size = omega (arith, length-take n mid.file.bytes, fixed_long n first.file.bytes mid.file fixed)

    whole : mid.file.bytes ≡ (kept ++ written) ++ rest
    whole = sym (take-append-drop n mid.file.bytes) ∙ ap (λ (xs : List ℕ). kept ++ xs) is
        ∙ sym (append_assoc kept written rest)

    behind : at ≡ length (kept ++ written)
    behind = omega (arith, place, size, length-append kept written)

    put : piece_put at piece mid.file.bytes ≡ (kept ++ written) ++ piece ++ later
    put = ap₂ (λ (k : ℕ) (xs : List ℕ). piece_put k piece xs) behind whole
        ∙ put_there (kept ++ written) piece rest

    flat : (kept ++ written) ++ piece ++ later ≡ kept ++ (written ++ piece ++ later)
    flat = ap (λ (xs : List ℕ). xs ++ later) (append_assoc kept written piece) ∙ append_assoc kept (written ++ piece) later

    there : drop n (piece_put at piece mid.file.bytes) ≡ written ++ piece ++ later
    there = ap₂ (λ (k : ℕ) (xs : List ℕ). drop k xs) (sym size) (put ∙ flat)
        ∙ drop-append_seam kept (written ++ piece ++ later)

-- ---- A disk goes on by moments, whatever is written.

pub gone_none : (h : History) → HasGoneOn h h
gone_none h = record { moments = []; past = sym (append-nil h.past); paths = refl }

pub gone_both : (old mid new : History) → HasGoneOn old mid → HasGoneOn mid new → HasGoneOn old new
gone_both old mid new p q = record {
  moments = p.moments ++ q.moments;
  past = q.past ∙ ap (λ files. files ++ q.moments) p.past ∙ append_assoc old.past p.moments q.moments;
  paths = q.paths ∙ p.paths;
}

gone_moved : (file : File) (old new : History) → new ≡ moved_to file old → HasGoneOn old new
gone_moved file old new is = subst (λ (h : History). HasGoneOn old h) (sym is)
    (record { moments = old.file ∷ []; past = refl; paths = refl })

pub gone_write : (did : DiskDid) (at : ℕ) (piece : List ℕ) (old new : History) → DiskWrites did at piece old new
    → HasGoneOn old new
gone_write did at piece old new writes =
    let kept = write_keeps did at piece old new writes in
    gone_moved (with_written (record { at = at; size = length piece }) kept.0 old.file) old new kept.2

pub gone_sync : (did : DiskDid) (old new : History) → Syncs did old new → HasGoneOn old new
gone_sync Done old new syncs = gone_moved (settled old.file.bytes) old new syncs
gone_sync Failed old new syncs = subst (λ (h : History). HasGoneOn old h) (sym syncs) (gone_none old)

-- and where a piece is written down behind a sync
pub gone_down : (did : DiskDid) (at : ℕ) (piece : List ℕ) (old mid new : History) → Syncs Done old mid
    → WritesDown did at piece mid new → HasGoneOn old new
gone_down did at piece old mid new syncs writes =
    let settles : IsSettled mid.file = subst (λ (h : History). IsSettled h.file) (sym syncs) refl in
    let leaves = writes.leaves settles in
    gone_both old mid new (gone_sync Done old mid syncs)
    (record { moments = leaves.more; past = leaves.past; paths = writes.paths })
