-- A group that is appended: what follows its gate, and then the gate.
use Rattle.std.proofs.Common.{◌≡◌, ℕ, suc, zero, ◌+◌, ◌≤◌, inl, inr, List, [], ◌∷◌, ◌++◌, length, take, drop}
use Rattle.std.proofs.Common.{get_or, refl, sym, ap, ap₂, subst, ◌∙◌, arith, append_assoc, length-append}
use Rattle.std.specs.List.{AllByRecursion}
use Rattle.std.proofs.Math.Seq.{take-append-add, take-append_seam, drop-append_seam}
use Rattle.std.proofs.lemmas.List.{take-append-drop}
use Rattle.djq_disk.specs.declared.disk.DiskDid.{DiskDid}
use Rattle.djq_disk.specs.declared.disk.DiskDid.TheVariants.{Done, Failed}
use Rattle.djq_disk.specs.File.{File, IsSettled, settled, KeepsOutside, piece_put}
use Rattle.djq_disk.specs.History.{History, moved_to, Syncs}
use Rattle.djq_disk.specs.Leaving.{LeavesOnly, LeavesSince}
use Rattle.djq_disk.specs.WritingDown.{WritesDown}
use Rattle.djq_disk.proofs.Files.{all_append, leaves_move, leaves_more, leaves_so}
use Rattle.djq_log_format.specs.Format.{RecordStored, IsRecordStored, IsGroup, LogOpensTo, log_front, record_body, content_of, seed}
use Rattle.djq_log_format.specs.Format.{digest_after, digest_behind}
use Rattle.djq_log_file.specs.Places.{LogEndPlace}
use Rattle.djq_log_file.specs.Standing.{HoldsGroups, IsLogEndAt, stored_groups}
use Rattle.djq_log_file.specs.Laying.{BeginsAs, IsFixed, WritesFrom, StandsFrom}
use Rattle.djq_log_file.specs.Appending.{IsIdleLog, HasOldOrNew, AppendsHere, AppendsBy}
use Rattle.djq_log_file.proofs.Reading.{front_next, after_next, groups_next}
use Rattle.djq_log_file.proofs.Parts.{fixed_settled, fixed_synced, fixed_leaves, put_one, kept_around, gone_both, gone_sync, gone_down}

-- ---- What begins as a log does, up to the gate that ends it.

cut_behind : (stored : List RecordStored) (n : ℕ) (bytes : List ℕ) → LogOpensTo stored bytes
    → n ≡ length (log_front stored) + 1 → take n bytes ≡ log_front stored ++ 0 ∷ []
cut_behind stored n bytes opens place =
    ap₂ (λ (k : ℕ) (xs : List ℕ). take k xs) place opens.is
    ∙ take-append-add (log_front stored) (0 ∷ opens.behind) 1

holds_alike : (groups : List (List (List ℕ))) (place : LogEndPlace) (bytes image : List ℕ) → IsLogEndAt groups place bytes
    → BeginsAs (place.at + 1) bytes image → HoldsGroups groups image
holds_alike groups place bytes image ends same =
    let n : ℕ = place.at + 1 in
    let cut : take n bytes ≡ log_front ends.stored ++ 0 ∷ [] =
    cut_behind ends.stored n bytes ends.opens (omega (arith, ends.is_at)) in
    record {
      stored = ends.stored;
      opens = record {
        are_stored = ends.opens.are_stored;
        behind = drop n image;
        is = sym (take-append-drop n image) ∙ ap (λ (xs : List ℕ). xs ++ drop n image) (same ∙ cut)
            ∙ append_assoc (log_front ends.stored) (0 ∷ []) (drop n image);
      };
      are = ends.are;
    }

end_within : (groups : List (List (List ℕ))) (place : LogEndPlace) (bytes : List ℕ) → IsLogEndAt groups place bytes
    → place.at + 1 ≤ length bytes
end_within groups place bytes ends = omega
    (arith, ends.is_at, ap length ends.opens.is, length-append (log_front ends.stored) (0 ∷ ends.opens.behind))

-- what a crash leaves of a file that is fixed up to its last gate
fixed_holds : (groups : List (List (List ℕ))) (place : LogEndPlace) (bytes : List ℕ) (file : File)
    → IsLogEndAt groups place bytes → IsFixed (place.at + 1) bytes file → LeavesOnly (HoldsGroups groups) file
fixed_holds groups place bytes file ends fixed image is = holds_alike groups place bytes image ends
    (fixed_leaves (place.at + 1) bytes file fixed image is)

-- A log in a file in which all is synced outlives a crash.
pub idle_holds : (groups : List (List (List ℕ))) (place : LogEndPlace) (file : File) → IsIdleLog groups place file
    → LeavesOnly (HoldsGroups groups) file
idle_holds groups place file idle = fixed_holds groups place file.bytes file idle.ends
    (fixed_settled (place.at + 1) file idle.still (end_within groups place file.bytes idle.ends))

-- ---- The gate.

-- After an open gate stand the groups and the new one.
opened : (groups : List (List (List ℕ))) (group : List (List ℕ)) (stored : List RecordStored) (gate : ℕ) (rest bytes : List ℕ)
    → AllByRecursion IsRecordStored stored → groups ≡ stored_groups stored → IsGroup group → 1 ≤ gate
    → bytes ≡ log_front stored ++ gate ∷ ((content_of (digest_after seed stored) group ++ 0 ∷ []) ++ rest)
    → HoldsGroups (groups ++ group ∷ []) bytes
opened groups group stored gate rest bytes all are is_group wide is =
    let s : RecordStored = record { gate = gate; lines = group } in
    let content : List ℕ = content_of (digest_after seed stored) group in
    record {
      stored = stored ++ s ∷ [];
      opens = record {
        are_stored = all_append IsRecordStored stored (s ∷ []) all (record { gate_open = wide; is_group = is_group }, tt);
        behind = rest;
        is = is ∙ ap (λ (xs : List ℕ). log_front stored ++ (gate ∷ xs)) (append_assoc content (0 ∷ []) rest)
            ∙ sym (append_assoc (log_front stored) (gate ∷ content) (0 ∷ rest))
            ∙ ap (λ (xs : List ℕ). xs ++ 0 ∷ rest) (sym (front_next stored s));
      };
      are = ap (λ (gs : List (List (List ℕ))). gs ++ group ∷ []) are ∙ sym (groups_next stored s);
    }

-- The gate alone was written: the file has the groups before, or those and the new one.
opened_torn : (groups : List (List (List ℕ))) (group : List (List ℕ)) (stored : List RecordStored) (at : ℕ)
    (rest bytes image : List ℕ) → AllByRecursion IsRecordStored stored → groups ≡ stored_groups stored → IsGroup group
    → at ≡ length (log_front stored)
    → bytes ≡ log_front stored ++ 0 ∷ ((content_of (digest_after seed stored) group ++ 0 ∷ []) ++ rest)
    → KeepsOutside (record { at = at; size = 1 }) bytes image → HasOldOrNew groups group image
opened_torn groups group stored at rest bytes image all are is_group place is keeps = by_gate (get_or image at 0) around
  where
    content : List ℕ
    content = content_of (digest_after seed stored) group ++ 0 ∷ []

    tail : List ℕ
    tail = content ++ rest

    extra : List ℕ
    extra = drop (length bytes) image

    before : take at bytes ≡ log_front stored
    before = ap₂ (λ (n : ℕ) (xs : List ℕ). take n xs) place is ∙ take-append_seam (log_front stored) (0 ∷ tail)

    reach : length (log_front stored ++ 0 ∷ []) ≡ suc at
    reach = omega (arith, place, length-append (log_front stored) (0 ∷ []))

    behind : drop (suc at) bytes ≡ tail
    behind = ap₂ (λ (n : ℕ) (xs : List ℕ). drop n xs) (sym reach)
        (is ∙ sym (append_assoc (log_front stored) (0 ∷ []) tail)) ∙ drop-append_seam (log_front stored ++ 0 ∷ []) tail

    around : image ≡ log_front stored ++ get_or image at 0 ∷ (tail ++ extra)
    around = kept_around at bytes image
        (omega (arith, place, ap length is, length-append (log_front stored) (0 ∷ tail))) keeps
        ∙ ap₂ (λ (xs ys : List ℕ). xs ++ get_or image at 0 ∷ (ys ++ extra)) before behind

    by_gate : (x : ℕ) → image ≡ log_front stored ++ x ∷ (tail ++ extra) → HasOldOrNew groups group image
    by_gate zero e = inl (record
        { stored = stored; opens = record { are_stored = all; behind = tail ++ extra; is = e }; are = are })
    by_gate (suc x) e = inr
        (opened groups group stored (suc x) (rest ++ extra) image all are is_group (omega arith)
        (e ∙ ap (λ (xs : List ℕ). log_front stored ++ (suc x ∷ xs)) (append_assoc content rest extra)))

-- ---- The append.

-- What was written failed to be, or to be synced.
before_only : (groups : List (List (List ℕ))) (group : List (List ℕ)) (place : LogEndPlace) (old new : History)
    → IsIdleLog groups place old.file → LeavesSince (BeginsAs (place.at + 1) old.file.bytes) old new
    → LeavesSince (HasOldOrNew groups group) old new
before_only groups group place old new idle leaves =
    leaves_so (BeginsAs (place.at + 1) old.file.bytes) (HasOldOrNew groups group) old new
    (λ image same. inl (holds_alike groups place old.file.bytes image idle.ends same)) leaves

pub unwritten : (place : LogEndPlace) (group : List (List ℕ)) (bytes : List ℕ) (old new : History)
    → WritesFrom Failed (place.at + 1) bytes old new → AppendsHere Failed place group old new
unwritten place group bytes old new writes = record {
  passed = writes.passed;
  appends = λ groups idle. before_only groups group place old new idle
      (writes.stands idle.still (end_within groups place old.file.bytes idle.ends));
}

pub unsynced : (place : LogEndPlace) (group : List (List ℕ)) (bytes : List ℕ) (old mid new : History)
    → WritesFrom Done (place.at + 1) bytes old mid → Syncs Failed mid new → AppendsHere Failed place group old new
unsynced place group bytes old mid new writes syncs = record {
  passed = gone_both old mid new writes.passed (gone_sync Failed mid new syncs);
  appends = λ groups idle. before_only groups group place old new idle
      (subst (λ (h : History). LeavesSince (BeginsAs (place.at + 1) old.file.bytes) old h) (sym syncs)
      (writes.stands idle.still (end_within groups place old.file.bytes idle.ends)).2);
}

-- All was written and synced, and the gate is written down.
gate_written : (did : DiskDid) (groups : List (List (List ℕ))) (place : LogEndPlace) (group : List (List ℕ))
    (old mid synced new : History) → IsGroup group → IsIdleLog groups place old.file
    → StandsFrom Done (place.at + 1) (content_of place.digest group ++ 0 ∷ []) old mid → Syncs Done mid synced
    → WritesDown did place.at (255 ∷ []) synced new → AppendsBy did place groups group old new
unfolding opened
gate_written did groups place group old mid synced new is_group idle stands syncs writes = by_answer did writes
  where
    ends : IsLogEndAt groups place old.file.bytes
    ends = idle.ends

    stored : List RecordStored
    stored = ends.stored

    rest : List ℕ
    rest = stands.1.0

    tail : List ℕ
    tail = (content_of (digest_after seed stored) group ++ 0 ∷ []) ++ rest

    is_synced : synced ≡ moved_to (settled mid.file.bytes) mid
    is_synced = syncs

    bytes : synced.file.bytes ≡ log_front stored ++ 0 ∷ tail
    bytes = ap (λ (h : History). h.file.bytes) is_synced
        ∙ sym (take-append-drop (place.at + 1) mid.file.bytes)
        ∙ ap₂ (λ (xs ys : List ℕ). xs ++ ys)
        (stands.0.same ∙ cut_behind stored (place.at + 1) old.file.bytes ends.opens (omega (arith, ends.is_at)))
        (stands.1.1 ∙ ap (λ (d : ℕ). (content_of d group ++ 0 ∷ []) ++ rest) ends.is_digest)
        ∙ append_assoc (log_front stored) (0 ∷ []) tail

    still : IsSettled synced.file
    still = subst (λ (h : History). IsSettled h.file) (sym is_synced) refl

    fixed : IsFixed (place.at + 1) old.file.bytes (settled mid.file.bytes)
    fixed = fixed_synced (place.at + 1) old.file.bytes mid.file stands.0

    before : LeavesSince (HasOldOrNew groups group) old synced
    before = subst (λ (h : History). LeavesSince (HasOldOrNew groups group) old h) (sym is_synced)
        (leaves_move (HasOldOrNew groups group) old mid (settled mid.file.bytes)
        (before_only groups group place old mid idle stands.2)
        (λ image is. inl (fixed_holds groups place old.file.bytes (settled mid.file.bytes) ends fixed image is)))

    leaves : (d : DiskDid) → WritesDown d place.at (255 ∷ []) synced new → LeavesSince (HasOldOrNew groups group) old new
    leaves d w = leaves_more (HasOldOrNew groups group) old synced new before
        (leaves_so (KeepsOutside (record { at = place.at; size = 1 }) synced.file.bytes)
        (HasOldOrNew groups group) synced new
        (λ image keeps. opened_torn groups group stored place.at rest synced.file.bytes image
        ends.opens.are_stored ends.are is_group ends.is_at bytes keeps)
        (w.leaves still))

    s : RecordStored
    s = record { gate = 255; lines = group }

    long : length (log_front (stored ++ s ∷ [])) ≡ place.at + 17 + length (record_body group)
    long = omega (
      arith,
      ends.is_at,
      ap length (front_next stored s),
      length-append (log_front stored) (255 ∷ content_of (digest_after seed stored) group),
    )

    by_answer : (d : DiskDid) → WritesDown d place.at (255 ∷ []) synced new → AppendsBy d place groups group old new
    by_answer Failed w = leaves Failed w
    by_answer Done w =
        let file : new.file ≡ settled (piece_put place.at (255 ∷ []) synced.file.bytes) = w.done refl in
        let after : piece_put place.at (255 ∷ []) synced.file.bytes ≡ log_front stored ++ 255 ∷ tail =
        ap₂ (λ (n : ℕ) (xs : List ℕ). piece_put n (255 ∷ []) xs) ends.is_at bytes
        ∙ put_one (log_front stored) 0 255 tail in
        let holds : HoldsGroups (groups ++ group ∷ []) new.file.bytes =
        opened groups group stored 255 rest new.file.bytes ends.opens.are_stored ends.are is_group (omega arith)
        (ap (λ (f : File). f.bytes) file ∙ after) in (
          record {
            ends = record {
              stored = stored ++ s ∷ [];
              opens = holds.opens;
              are = holds.are;
              is_at = sym long;
              is_digest = ap (λ (d : ℕ). digest_behind d group) ends.is_digest ∙ sym (after_next seed stored s);
            };
            still = subst (λ (f : File). IsSettled f) (sym file) refl;
          },
          leaves Done w,
        )

pub appended : (did : DiskDid) (place : LogEndPlace) (group : List (List ℕ)) (old mid synced new : History) → IsGroup group
    → WritesFrom Done (place.at + 1) (content_of place.digest group ++ 0 ∷ []) old mid → Syncs Done mid synced
    → WritesDown did place.at (255 ∷ []) synced new → AppendsHere did place group old new
appended did place group old mid synced new is_group writes syncs down = record {
  passed = gone_both old mid new writes.passed (gone_down did place.at (255 ∷ []) mid synced new syncs down);
  appends = λ groups idle. gate_written did groups place group old mid synced new is_group idle
      (writes.stands idle.still (end_within groups place old.file.bytes idle.ends)) syncs down;
}
