-- Groups that are appended to a journal, and what a stop leaves of them.
use Rattle.std.proofs.Common.{◌≡◌, ℕ, suc, ◌+◌, ◌≤◌, inl, List, [], ◌∷◌, ◌++◌, length, take, drop, refl, sym, ap, subst}
use Rattle.std.proofs.Common.{◌∙◌, arith, append_assoc, length-append, length-take, zero, inr, get_or, ap₂, append-nil}
use Rattle.std.specs.List.{AllByRecursion, flat_map}
use Rattle.std.proofs.Math.Seq.{take-append-add, take-append_seam, drop-append_seam}
use Rattle.std.proofs.lemmas.List.{take-append-drop}
use Rattle.djq_disk.specs.declared.disk.DiskDid.{DiskDid}
use Rattle.djq_disk.specs.declared.disk.DiskDid.TheVariants.{Done, Failed}
use Rattle.djq_disk.specs.File.{Span, File, IsImage, IsOutsideSpan, IsSettled, settled, with_written, KeepsOutside}
use Rattle.djq_disk.specs.File.{piece_put}
use Rattle.djq_disk.specs.Leaving.{LeavesOnly, LeavesSince}
use Rattle.djq_disk.specs.History.{History, moved_to, DiskWrites, Syncs}
use Rattle.djq_disk.specs.WritingDown.{WritesDown}
use Rattle.djq_disk.proofs.Files.{all_append, all_so, leaves_none, leaves_move, leaves_more, leaves_so, write_keeps}
use Rattle.djq_journal.specs.Format.{front, FileOpensTo, IsJournalLine, record_of}
use Rattle.djq_journal.specs.Staging.{IsFirm, behind_gate, Stages, IsStaged, AppendsAt}
use Rattle.djq_journal.specs.Standing.{IsIdle}
use Rattle.djq_journal.specs.Appending.{gate_after, IsBeforeOrAfter}
use Rattle.djq_journal.specs.Passing.{HasPassed}
use Rattle.djq_journal.proofs.Records.{same_start, put_there, put_one, kept_around, front_more, opened_gate}

-- ---- The part of a file that no write since the last sync was in.

-- the firm part stands in the file
pub firm_long : (n : ℕ) (bytes : List ℕ) (file : File) → IsFirm n bytes file → n ≤ length file.bytes
firm_long n bytes file firm = omega
    (arith, firm.long, ap length firm.same, length-take n file.bytes, length-take n bytes)

-- a settled file is firm
pub firm_settled : (n : ℕ) (file : File) → IsSettled file → n ≤ length file.bytes → IsFirm n file.bytes file
firm_settled n file is long = record {
  long = long;
  synced = subst (λ (f : File). n ≤ f.synced) (sym is) long;
  behind = subst (λ (f : File). AllByRecursion (λ (span : Span). n ≤ span.at) f.written) (sym is) tt;
  same = refl;
}

-- a write behind the firm part leaves it
pub firm_written : (n : ℕ) (bytes after : List ℕ) (span : Span) (file : File) → IsFirm n bytes file → n ≤ span.at
    → KeepsOutside span file.bytes after
    → IsFirm n bytes (with_written span after file)
firm_written n bytes after span file firm behind keeps =
    let long = firm_long n bytes file firm in
    record {
      long = firm.long;
      synced = firm.synced;
      behind = all_append (λ (s : Span). n ≤ s.at) file.written (span ∷ []) firm.behind (behind, tt);
      same = same_start n after file.bytes (omega (arith, keeps.longer)) long
          (λ i low. keeps.same i (omega arith) (inl (omega arith))) ∙ firm.same;
    }

-- a sync leaves it
pub firm_synced : (n : ℕ) (bytes : List ℕ) (file : File) → IsFirm n bytes file → IsFirm n bytes (settled file.bytes)
firm_synced n bytes file firm = record
    { long = firm.long; synced = firm_long n bytes file firm; behind = tt; same = firm.same }

-- a stop leaves it
pub firm_left : (n : ℕ) (bytes : List ℕ) (file : File) (image : List ℕ) → IsFirm n bytes file → IsImage file image
    → take n image ≡ take n bytes
firm_left n bytes file image firm is =
    same_start n image file.bytes (omega (arith, firm.synced, is.long)) (firm_long n bytes file firm)
    (λ i low. is.kept i (omega (arith, firm.synced))
    (all_so (λ (s : Span). n ≤ s.at) (IsOutsideSpan i) file.written (λ s behind. inl (omega arith)) firm.behind))
    ∙ firm.same

-- What begins as a file that opens, up to its gate, opens to the same lines.
pub opens_alike : (lines : List (List ℕ)) (gate : ℕ) (bytes image : List ℕ) → FileOpensTo lines bytes → gate
    ≡ length (front lines)
    → take (suc gate) image ≡ take (suc gate) bytes → FileOpensTo lines image
opens_alike lines gate bytes image opens place same = record {
  are_lines = opens.are_lines;
  gate = opens.gate;
  behind = drop (suc gate) image;
  is = sym (take-append-drop (suc gate) image) ∙ ap (λ (xs : List ℕ). xs ++ drop (suc gate) image) (same ∙ cut)
      ∙ append_assoc (front lines) (opens.gate ∷ []) (drop (suc gate) image);
  shut = opens.shut;
}
  where
    reach : suc gate ≡ length (front lines) + 1
    reach = omega (arith, place)

    cut : take (suc gate) bytes ≡ front lines ++ opens.gate ∷ []
    cut = ap (λ (xs : List ℕ). take (suc gate) xs) opens.is
        ∙ ap (λ n. take n (front lines ++ opens.gate ∷ opens.behind)) reach
        ∙ take-append-add (front lines) (opens.gate ∷ opens.behind) 1

-- where a file opens, its gate stands in it
pub gate_within : (lines : List (List ℕ)) (gate : ℕ) (bytes : List ℕ) → FileOpensTo lines bytes → gate
    ≡ length (front lines) → suc gate ≤ length bytes
gate_within lines gate bytes opens place = omega
    (arith, place, ap length opens.is, length-append (front lines) (opens.gate ∷ opens.behind))

-- so what a stop leaves of a file that is firm up to its gate opens to the same lines
pub firm_leaves : (lines : List (List ℕ)) (gate : ℕ) (bytes : List ℕ) (file : File) → FileOpensTo lines bytes → gate
    ≡ length (front lines)
    → IsFirm (suc gate) bytes file → LeavesOnly (FileOpensTo lines) file
firm_leaves lines gate bytes file opens place firm image is = opens_alike lines gate bytes image opens place
    (firm_left (suc gate) bytes file image firm is)

-- ---- An idle journal outlives a stop.

pub idle_lasts : (lines : List (List ℕ)) (gate : ℕ) (file : File) (image : List ℕ) → IsIdle lines gate file
    → IsImage file image → FileOpensTo lines image
idle_lasts lines gate file image idle is =
    firm_leaves lines gate file.bytes file idle.opens idle.place
    (firm_settled (suc gate) file idle.still (gate_within lines gate file.bytes idle.opens idle.place)) image is

-- ---- A group that is appended: its records behind the closed gate, and then the gate.

-- nothing is written yet
pub staged_none : (lines : List (List ℕ)) (gate : ℕ) (h : History) → IsIdle lines gate h.file → Stages lines gate [] h h
staged_none lines gate h idle =
    let firm = firm_settled (suc gate) h.file idle.still (gate_within lines gate h.file.bytes idle.opens idle.place) in
    record {
      firm = firm;
      rest = drop (suc gate) h.file.bytes;
      is = refl;
      leaves = leaves_none (FileOpensTo lines) h
          (firm_leaves lines gate h.file.bytes h.file idle.opens idle.place firm);
    }

-- A write behind the gate, whatever it answers.
pub staged_write : (did : DiskDid) (at : ℕ) (piece : List ℕ) (lines : List (List ℕ)) (gate : ℕ) (laid : List ℕ)
    (old mid new : History)
    → IsIdle lines gate old.file → Stages lines gate laid old mid → suc gate ≤ at → DiskWrites did at piece mid new
    → IsFirm (suc gate) old.file.bytes new.file × LeavesSince (FileOpensTo lines) old new
staged_write did at piece lines gate laid old mid new idle stages behind writes =
    let kept = write_keeps did at piece mid new writes in
    let span : Span = record { at = at; size = length piece } in
    let file : File = with_written span kept.0 mid.file in
    let firm : IsFirm (suc gate) old.file.bytes file = firm_written (suc gate) old.file.bytes kept.0 span mid.file
    stages.firm behind kept.1 in
    let leaves : LeavesSince (FileOpensTo lines) old (moved_to file mid) =
    leaves_move (FileOpensTo lines) old mid file stages.leaves
    (firm_leaves lines gate old.file.bytes file idle.opens idle.place firm) in
    subst (λ (h : History). IsFirm (suc gate) old.file.bytes h.file
    × LeavesSince (FileOpensTo lines) old h) (sym kept.2)
    (firm, leaves)

-- A piece more is written behind what was.
pub staged_more : (at : ℕ) (piece : List ℕ) (lines : List (List ℕ)) (gate : ℕ) (laid : List ℕ) (old mid new : History)
    → IsIdle lines gate old.file → Stages lines gate laid old mid → at ≡ suc (gate + length laid)
    → DiskWrites Done at piece mid new
    → Stages lines gate (laid ++ piece) old new
staged_more at piece lines gate laid old mid new idle stages place writes =
    let wrote = staged_write Done at piece lines gate laid old mid new idle stages (omega (arith, place)) writes in
    record {
      firm = wrote.0;
      rest = later;
      is = ap (λ (h : History). drop (suc gate) h.file.bytes) writes
          ∙ there;
      leaves = wrote.1;
    }
  where
    kept : List ℕ
    kept = take (suc gate) mid.file.bytes

    later : List ℕ
    later = drop (length piece) stages.rest

    size : length kept ≡ suc gate
    size = omega (
      arith,
      length-take (suc gate) mid.file.bytes,
      firm_long (suc gate) old.file.bytes mid.file
          stages.firm,
    )

    whole : mid.file.bytes ≡ (kept ++ laid) ++ stages.rest
    whole = sym (take-append-drop (suc gate) mid.file.bytes) ∙ ap (λ (xs : List ℕ). kept ++ xs) stages.is
        ∙ sym (append_assoc kept laid stages.rest)

    behind : at ≡ length (kept ++ laid)
    behind = omega (arith, place, size, length-append kept laid)

    written : piece_put at piece mid.file.bytes ≡ (kept ++ laid) ++ piece ++ later
    written = ap₂ (λ (n : ℕ) (xs : List ℕ). piece_put n piece xs) behind whole
        ∙ put_there (kept ++ laid) piece stages.rest

    flat : (kept ++ laid) ++ piece ++ later ≡ kept ++ (laid ++ piece ++ later)
    flat = ap (λ (xs : List ℕ). xs ++ later) (append_assoc kept laid piece) ∙ append_assoc kept (laid ++ piece) later

    there : drop (suc gate) (piece_put at piece mid.file.bytes) ≡ laid ++ piece ++ later
    there = ap₂ (λ (n : ℕ) (xs : List ℕ). drop n xs) (sym size) (written ∙ flat)
        ∙ drop-append_seam kept (laid ++ piece ++ later)

-- A piece that ends what stands behind the gate, whatever the write of it answers.
pub staged_all : (did : DiskDid) (at : ℕ) (piece : List ℕ) (lines group : List (List ℕ)) (gate : ℕ) (laid : List ℕ)
    (old mid new : History)
    → IsIdle lines gate old.file → Stages lines gate laid old mid → at ≡ suc (gate + length laid) → behind_gate group 0
    ≡ laid ++ piece
    → DiskWrites did at piece mid new → IsStaged did lines gate group old new
staged_all Done at piece lines group gate laid old mid new idle stages place all writes =
    subst (λ (bytes : List ℕ). Stages lines gate bytes old new) (sym all)
    (staged_more at piece lines gate laid old mid new idle stages place writes)
staged_all Failed at piece lines group gate laid old mid new idle stages place all writes =
    (staged_write Failed at piece lines gate laid old mid new idle stages (omega (arith, place)) writes).1

-- What a file that was staged and synced is: the lines, the gate as it was, the group's records.
pub staged_bytes : (lines group : List (List ℕ)) (gate : ℕ) (old new : History) → (idle : IsIdle lines gate old.file)
    → (stages : Stages lines gate (behind_gate group 0) old new)
    → new.file.bytes ≡ front lines ++ idle.opens.gate ∷ (behind_gate group 0 ++ stages.rest)
staged_bytes lines group gate old new idle stages =
    sym (take-append-drop (suc gate) new.file.bytes)
    ∙ ap₂ (λ (xs ys : List ℕ). xs ++ ys) (stages.firm.same ∙ cut) stages.is
    ∙ append_assoc (front lines) (idle.opens.gate ∷ []) (behind_gate group 0 ++ stages.rest)
  where
    cut : take (suc gate) old.file.bytes ≡ front lines ++ idle.opens.gate ∷ []
    cut = let size : length (front lines ++ idle.opens.gate ∷ [])
        ≡ suc gate = omega (arith, idle.place, length-append (front lines) (idle.opens.gate ∷ [])) in
        ap₂ (λ (n : ℕ) (xs : List ℕ). take n xs) (sym size)
        (idle.opens.is ∙ sym (append_assoc (front lines) (idle.opens.gate ∷ []) idle.opens.behind))
        ∙ take-append_seam (front lines ++ idle.opens.gate ∷ []) idle.opens.behind

-- Behind an open gate stand the lines and the group.
pub opened_all : (lines group : List (List ℕ)) (rest bytes : List ℕ) → AllByRecursion IsJournalLine lines
    → AllByRecursion IsJournalLine group → 1 ≤ length group
    → bytes ≡ front lines ++ 1 ∷ (behind_gate group 0 ++ rest) → FileOpensTo (lines ++ group) bytes
opened_all lines group rest bytes are_lines are_group some is = record {
  are_lines = all_append IsJournalLine lines group are_lines are_group;
  gate = 0;
  behind = rest;
  is = is ∙ ap (λ (xs : List ℕ). front lines ++ xs) (opened_gate group rest some)
      ∙ sym (append_assoc (front lines) (flat_map record_of group) (0 ∷ rest))
      ∙ ap (λ (xs : List ℕ). xs ++ 0 ∷ rest) (sym (front_more lines group));
  shut = λ wrong. cc;
}

-- The gate alone was written: the file opens to the lines before, or to those and the whole group.
pub opened_torn : (lines group : List (List ℕ)) (gate shut : ℕ) (rest bytes image : List ℕ)
    → AllByRecursion IsJournalLine lines → AllByRecursion IsJournalLine group → 1 ≤ length group
    → gate ≡ length (front lines) → bytes ≡ front lines ++ shut ∷ (behind_gate group 0 ++ rest)
    → KeepsOutside (record { at = gate; size = 1 }) bytes image → IsBeforeOrAfter lines group image
opened_torn lines group gate shut rest bytes image are_lines are_group some place is keeps = by_gate
    (get_or image gate 0) around
  where
    tail : List ℕ
    tail = behind_gate group 0 ++ rest

    extra : List ℕ
    extra = drop (length bytes) image

    before : take gate bytes ≡ front lines
    before = ap₂ (λ (n : ℕ) (xs : List ℕ). take n xs) place is ∙ take-append_seam (front lines) (shut ∷ tail)

    reach : length (front lines ++ shut ∷ []) ≡ suc gate
    reach = omega (arith, place, length-append (front lines) (shut ∷ []))

    behind : drop (suc gate) bytes ≡ tail
    behind = ap₂ (λ (n : ℕ) (xs : List ℕ). drop n xs) (sym reach)
        (is ∙ sym (append_assoc (front lines) (shut ∷ []) tail)) ∙ drop-append_seam (front lines ++ shut ∷ []) tail

    around : image ≡ front lines ++ get_or image gate 0 ∷ (tail ++ extra)
    around = kept_around gate bytes image
        (omega (arith, place, ap length is, length-append (front lines) (shut ∷ tail))) keeps
        ∙ ap₂ (λ (xs ys : List ℕ). xs ++ get_or image gate 0 ∷ (ys ++ extra)) before behind

    by_gate : (x : ℕ) → image ≡ front lines ++ x ∷ (tail ++ extra) → IsBeforeOrAfter lines group image
    by_gate zero e = inl (record
        { are_lines = are_lines; gate = 0; behind = tail ++ extra; is = e; shut = λ wrong. cc })
    by_gate (suc zero) e = inr
        (opened_all lines group (rest ++ extra) image are_lines are_group some
        (e ∙ ap (λ (xs : List ℕ). front lines ++ 1 ∷ xs) (append_assoc (behind_gate group 0) rest extra)))
    by_gate (suc (suc x)) e = inl
        (record { are_lines = are_lines; gate = suc (suc x); behind = tail ++ extra; is = e; shut = λ wrong. cc })

-- the file up to the gate behind a group
pub gate_behind : (lines group : List (List ℕ)) (gate : ℕ) → gate ≡ length (front lines) → gate_after gate group
    ≡ length (front (lines ++ group))
gate_behind lines group gate place = omega
    (arith, place, ap length (front_more lines group), length-append (front lines) (flat_map record_of group))

-- All was staged, and the sync failed.
pub unsynced : (lines group : List (List ℕ)) (gate : ℕ) (old mid new : History) → IsStaged Done lines gate group old mid
    → Syncs Failed mid new → AppendsAt Failed lines gate group old new
unsynced lines group gate old mid new stages syncs =
    subst (λ (h : History). LeavesSince (IsBeforeOrAfter lines group) old h) (sym syncs)
    (leaves_so (FileOpensTo lines) (IsBeforeOrAfter lines group) old mid (λ image opens. inl opens) stages.leaves)

-- All was staged and synced, and the gate was written: done or failed.
pub gate_opened : (did : DiskDid) (lines group : List (List ℕ)) (gate : ℕ) (old mid synced new : History)
    → AllByRecursion IsJournalLine group → 1 ≤ length group → IsIdle lines gate old.file
    → IsStaged Done lines gate group old mid
    → Syncs Done mid synced → WritesDown did gate (1 ∷ []) synced new → AppendsAt did lines gate group old new
gate_opened did lines group gate old mid synced new are_group some idle stages syncs writes = by_answer did writes
  where
    is_synced : synced ≡ moved_to (settled mid.file.bytes) mid
    is_synced = syncs

    bytes : synced.file.bytes ≡ front lines ++ idle.opens.gate ∷ (behind_gate group 0 ++ stages.rest)
    bytes = ap (λ (h : History). h.file.bytes) is_synced ∙ staged_bytes lines group gate old mid idle stages

    still : IsSettled synced.file
    still = subst (λ (h : History). IsSettled h.file) (sym is_synced) refl

    before : LeavesSince (IsBeforeOrAfter lines group) old synced
    before = subst (λ (h : History). LeavesSince (IsBeforeOrAfter lines group) old h) (sym is_synced)
        (leaves_so (FileOpensTo lines) (IsBeforeOrAfter lines group) old (moved_to (settled mid.file.bytes) mid)
        (λ image opens. inl opens)
        (leaves_move (FileOpensTo lines) old mid (settled mid.file.bytes) stages.leaves
        (firm_leaves lines gate old.file.bytes (settled mid.file.bytes) idle.opens idle.place
        (firm_synced (suc gate) old.file.bytes mid.file stages.firm))))

    leaves : (d : DiskDid) → WritesDown d gate (1 ∷ []) synced new → LeavesSince (IsBeforeOrAfter lines group) old new
    leaves d w = leaves_more (IsBeforeOrAfter lines group) old synced new before
        (leaves_so (KeepsOutside (record { at = gate; size = 1 }) synced.file.bytes)
        (IsBeforeOrAfter lines group) synced new
        (λ image keeps. opened_torn lines group gate idle.opens.gate stages.rest synced.file.bytes image
        idle.opens.are_lines are_group some idle.place bytes keeps)
        (w.leaves still))

    by_answer : (d : DiskDid) → WritesDown d gate (1 ∷ []) synced new → AppendsAt d lines gate group old new
    by_answer Failed w = leaves Failed w
    by_answer Done w =
        let file : new.file ≡ settled (piece_put gate (1 ∷ []) synced.file.bytes) = w.done refl in
        let after : piece_put gate (1 ∷ []) synced.file.bytes ≡ front lines ++ 1
        ∷ (behind_gate group 0 ++ stages.rest) =
        ap₂ (λ (n : ℕ) (xs : List ℕ). piece_put n (1 ∷ []) xs) idle.place bytes
        ∙ put_one (front lines) idle.opens.gate 1 (behind_gate group 0 ++ stages.rest) in (
          record {
            opens = opened_all lines group stages.rest new.file.bytes idle.opens.are_lines are_group some
                (ap (λ (f : File). f.bytes) file ∙ after);
            place = gate_behind lines group gate idle.place;
            still = subst (λ (f : File). IsSettled f) (sym file) refl;
          },
          leaves Done w,
        )

-- ---- A disk goes on by moments, whatever is written.

pub goes_none : (h : History) → HasPassed h h
goes_none h = ([], record { past = sym (append-nil h.past); paths = refl })

pub goes_both : (old mid new : History) → HasPassed old mid → HasPassed mid new → HasPassed old new
goes_both old mid new (ms, p) (ns, q) = (
  ms ++ ns,
  record {
    past = q.past ∙ ap (λ files. files ++ ns) p.past ∙ append_assoc old.past ms ns;
    paths = q.paths ∙ p.paths;
  },
)

goes_moved : (file : File) (old new : History) → new ≡ moved_to file old → HasPassed old new
goes_moved file old new is = subst (λ (h : History). HasPassed old h) (sym is)
    (old.file ∷ [], record { past = refl; paths = refl })

pub goes_write : (did : DiskDid) (at : ℕ) (piece : List ℕ) (old new : History) → DiskWrites did at piece old new
    → HasPassed old new
goes_write did at piece old new writes =
    let kept = write_keeps did at piece old new writes in
    goes_moved (with_written (record { at = at; size = length piece }) kept.0 old.file) old new kept.2

pub goes_sync : (did : DiskDid) (old new : History) → Syncs did old new → HasPassed old new
goes_sync Done old new syncs = goes_moved (settled old.file.bytes) old new syncs
goes_sync Failed old new syncs = subst (λ (h : History). HasPassed old h) (sym syncs) (goes_none old)

-- and where a piece is written down behind a sync
pub goes_down : (did : DiskDid) (at : ℕ) (piece : List ℕ) (old mid new : History) → Syncs Done old mid
    → WritesDown did at piece mid new → HasPassed old new
goes_down did at piece old mid new syncs writes =
    let settles : IsSettled mid.file = subst (λ (h : History). IsSettled h.file) (sym syncs) refl in
    goes_both old mid new (goes_sync Done old mid syncs)
    ((writes.leaves settles).more, record { past = (writes.leaves settles).past; paths = writes.paths })
