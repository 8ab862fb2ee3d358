-- A log that is made record by record, in a file whose bytes don't count.
use Rattle.std.proofs.Common.{◌≡◌, ℕ, ◌+◌, ◌≤◌, List, [], ◌∷◌, ◌++◌, length, drop, refl, sym, ap, ap₂, subst, ◌∙◌}
use Rattle.std.proofs.Common.{arith, append_assoc, append-nil, length-append, inl, inr}
use Rattle.std.specs.List.{AllByRecursion}
use Rattle.std.proofs.Math.Seq.{drop-append_seam, drop-append-add}
use Rattle.djq_disk.specs.declared.disk.DiskDid.{DiskDid}
use Rattle.djq_disk.specs.declared.disk.DiskDid.TheVariants.{Done, Failed}
use Rattle.djq_disk.specs.File.{Span, File, IsSettled, settled, piece_put}
use Rattle.djq_disk.specs.History.{History, with_next, replaced, DiskWrites, Syncs, BeginsNext}
use Rattle.djq_disk.specs.History.{Replaces}
use Rattle.djq_disk.proofs.Files.{all_append, leaves_none}
use Rattle.djq_log_format.specs.Format.{RecordStored, IsRecordStored, IsGroup, log_header, log_front, record_body, content_of}
use Rattle.djq_log_format.specs.Format.{seed, records, digest_after, digest_behind}
use Rattle.djq_log_file.specs.Places.{LogEndPlace}
use Rattle.djq_log_file.specs.Laying.{HasGoneOn, IsFixed, BeginsAs, Gathering, Lays, LaysMore}
use Rattle.djq_log_file.specs.Appending.{end_behind, IsIdleLog}
use Rattle.djq_log_file.specs.Making.{BeginsLog, WritesBehind, PutsAfter, MakesAfter, CreatesLog, first_record_place}
use Rattle.djq_log_file.specs.Making.{IsNewLog, WritesNewLog}
use Rattle.djq_log_file.specs.declared.maker.LogBegun.TheVariants.{Begun}
use Rattle.djq_log_file.specs.declared.maker.GroupPut.TheVariants.{Put, Failed as Unput, Full}
use Rattle.djq_log_file.specs.declared.maker.LogMade.TheVariants.{Made, Failed as Unmade}
use Rattle.djq_log_file.proofs.Reading.{front_next, after_next, groups_next}
use Rattle.djq_log_file.proofs.Parts.{fixed_leaves, put_there, gone_none, gone_both, gone_write, gone_sync}
use Rattle.djq_log_file.proofs.Laid.{lays_both}

-- ---- Bytes that are written behind others.

all_from_start : (spans : List Span) → AllByRecursion (λ (span : Span). 0 ≤ span.at) spans
all_from_start [] = tt
all_from_start (s ∷ ss) = (omega arith, all_from_start ss)

-- no byte of the file counts
fixed_none : (file : File) → IsFixed 0 file.bytes file
fixed_none file = record
    { long = omega arith; synced = omega arith; behind = all_from_start file.written; same = refl }

-- what precedes a place counts as laid
lays_before : (before rest : List ℕ) (a : Gathering) (h : History) → a.at ≡ length before → a.gathered ≡ []
    → h.file.bytes ≡ before ++ rest → Lays 0 before a h h
lays_before before rest a h is_at none is =
    let fixed : IsFixed 0 h.file.bytes h.file = fixed_none h.file in
    record {
      fixed = fixed;
      written = before;
      are = sym (append-nil before) ∙ ap (λ (xs : List ℕ). before ++ xs) (sym none);
      place = omega (arith, is_at);
      rest = rest;
      is = is;
      later = sym (ap (λ (xs : List ℕ). drop (length before) xs) is ∙ drop-append_seam before rest)
          ∙ (let same : length before ≡ 0 + length before = omega arith in ap (λ (n : ℕ). drop n h.file.bytes) same);
      leaves = leaves_none (BeginsAs 0 h.file.bytes) h (fixed_leaves 0 h.file.bytes h.file fixed);
    }

-- All was laid, and what was still gathered is written.
pub behind_written : (did : DiskDid) (start : ℕ) (bytes : List ℕ) (a b c : Gathering) (old mid new : History)
    → a.at ≡ start → a.gathered ≡ [] → (did ≡ Done → c.gathered ≡ []) → LaysMore Done bytes a b old mid
    → LaysMore did [] b c mid new → WritesBehind did start bytes old new
behind_written Done start bytes a b c old mid new is_at none all p q =
    let whole : LaysMore Done bytes a c old new = lays_both Done bytes [] bytes a b c old mid new (append-nil bytes) p q in
    record {
      passed = whole.passed;
      stands = λ before rest is place.
          let l = whole.lays old 0 before (lays_before before rest a old (is_at ∙ place) none is) in
          let written : before ++ bytes ≡ l.written = l.are ∙ ap (λ (xs : List ℕ). l.written ++ xs) (all refl)
          ∙ append-nil l.written in
          let place_of : 0 + length l.written ≡ length before + length bytes = omega
          (arith, ap length written, length-append before bytes) in
          let later : l.rest ≡ drop (length bytes) rest = l.later ∙ ap₂ (λ (n : ℕ) (xs : List ℕ). drop n xs) place_of is
          ∙ drop-append-add before rest (length bytes) in
          l.is ∙ ap₂ (λ (xs ys : List ℕ). xs ++ ys) (sym written) later;
    }
behind_written Failed start bytes a b c old mid new is_at none all p q =
    record { passed = gone_both old mid new p.passed q.passed; stands = λ before rest is place. tt }

pub behind_unwritten : (start : ℕ) (bytes : List ℕ) (a b : Gathering) (old new : History) → LaysMore Failed bytes a b old new
    → WritesBehind Failed start bytes old new
behind_unwritten start bytes a b old new p = record { passed = p.passed; stands = λ before rest is place. tt }

-- ---- The header.

pub begun : (place : LogEndPlace) (old new : History) → place ≡ first_record_place → DiskWrites Done 0 log_header old new
    → BeginsLog (Begun place) old new
unfolding records digest_after
begun place old new is_place writes = (
  gone_write Done 0 log_header old new writes,
  is_place,
  record {
    stored = [];
    are_stored = tt;
    are = refl;
    is = ap (λ (h : History). h.file.bytes) writes ∙ put_there [] log_header old.file.bytes;
    is_at = ap (λ (p : LogEndPlace). p.at) is_place;
    is_digest = ap (λ (p : LogEndPlace). p.digest) is_place;
  },
)

-- ---- A group.

put_behind : (place : LogEndPlace) (group : List (List ℕ)) (old new : History) → IsGroup group
    → WritesBehind Done place.at (255 ∷ content_of place.digest group) old new
    → PutsAfter (Put (end_behind place group)) place group old new
put_behind place group old new is_group writes = record {
  passed = writes.passed;
  puts = λ groups rest made.
      let stored : List RecordStored = made.stored in
      let s : RecordStored = record { gate = 255; lines = group } in
      let behind : List ℕ = drop (17 + length (record_body group)) rest in
      let size : length (255 ∷ content_of place.digest group) ≡ 17 + length (record_body group) = omega arith in
      record {
        stored = stored ++ s ∷ [];
        are_stored = all_append IsRecordStored stored (s ∷ []) made.are_stored
            (record { gate_open = omega arith; is_group = is_group }, tt);
        are = ap (λ (gs : List (List (List ℕ))). gs ++ group ∷ []) made.are ∙ sym (groups_next stored s);
        is = writes.stands (log_front stored) rest made.is made.is_at
            ∙ ap (λ (n : ℕ). (log_front stored ++ (255 ∷ content_of place.digest group)) ++ drop n rest) size
            ∙ ap (λ (xs : List ℕ). xs ++ behind)
            (ap (λ (d : ℕ). log_front stored ++ (255 ∷ content_of d group)) made.is_digest ∙ sym (front_next stored s));
        is_at = omega (
          arith,
          made.is_at,
          ap length (front_next stored s),
          length-append (log_front stored) (255 ∷ content_of (digest_after seed stored) group),
        );
        is_digest = ap (λ (d : ℕ). digest_behind d group) made.is_digest ∙ sym (after_next seed stored s);
      };
}

pub group_put : (next inside place : LogEndPlace) (group : List (List ℕ)) (old new : History) → inside ≡ place
    → next ≡ end_behind inside group → IsGroup group
    → WritesBehind Done inside.at (255 ∷ content_of inside.digest group) old new → PutsAfter (Put next) place group old new
group_put next inside place group old new same end is_group writes =
    subst (λ (p : LogEndPlace). PutsAfter (Put next) p group old new) same
    (subst (λ (e : LogEndPlace). PutsAfter (Put e) inside group old new) (sym end)
    (put_behind inside group old new is_group writes))

pub group_unput : (place : LogEndPlace) (group : List (List ℕ)) (start : ℕ) (bytes : List ℕ) (old new : History)
    → WritesBehind Failed start bytes old new → PutsAfter Unput place group old new
group_unput place group start bytes old new writes = record { passed = writes.passed; puts = λ groups rest made. tt }

-- nothing was written
pub group_full : (place : LogEndPlace) (group : List (List ℕ)) (h : History) → PutsAfter Full place group h h
group_full place group h = record { passed = gone_none h; puts = λ groups rest made. refl }

-- ---- The closed gate.

pub finished : (end inside place : LogEndPlace) (old mid new : History) → end ≡ inside → inside ≡ place
    → DiskWrites Done inside.at (0 ∷ []) old mid → Syncs Done mid new → MakesAfter (Made end) place old new
finished end inside place old mid new is_end same writes syncs =
    subst (λ (p : LogEndPlace). MakesAfter (Made end) p old new) same (record {
      passed = gone_both old mid new (gone_write Done inside.at (0 ∷ []) old mid writes) (gone_sync Done mid new syncs);
      makes = λ groups rest made.
          let file : new.file ≡ settled (piece_put inside.at (0 ∷ []) old.file.bytes) =
          ap (λ (h : History). h.file) syncs ∙ ap (λ (h : History). settled h.file.bytes) writes in
          let bytes : piece_put inside.at (0 ∷ []) old.file.bytes ≡ log_front made.stored ++ 0 ∷ drop 1 rest =
          ap₂ (λ (n : ℕ) (xs : List ℕ). piece_put n (0 ∷ []) xs) made.is_at made.is
          ∙ put_there (log_front made.stored) (0 ∷ []) rest
          ∙ append_assoc (log_front made.stored) (0 ∷ []) (drop 1 rest) in
          let is : new.file.bytes ≡ log_front made.stored ++ 0 ∷ drop 1 rest = ap (λ (f : File). f.bytes) file ∙ bytes in (
            is_end,
            record {
              ends = record {
                stored = made.stored;
                opens = record {
                  are_stored = made.are_stored;
                  behind = drop 1 rest;
                  is = is;
                };
                are = made.are;
                is_at = ap (λ (p : LogEndPlace). p.at) is_end ∙ made.is_at;
                is_digest = ap (λ (p : LogEndPlace). p.digest) is_end ∙ made.is_digest;
              };
              still = subst (λ (f : File). IsSettled f) (sym file) refl;
            },
            λ none. record {
              stored = made.stored;
              closed = record {
                are_stored = made.are_stored;
                is = is ∙ ap (λ (xs : List ℕ). log_front made.stored ++ 0 ∷ xs) none;
              };
              are = made.are;
            },
          );
    })

pub unfinished : (at : ℕ) (place : LogEndPlace) (old new : History) → DiskWrites Failed at (0 ∷ []) old new
    → MakesAfter Unmade place old new
unfinished at place old new writes = record
    { passed = gone_write Failed at (0 ∷ []) old new writes; makes = λ groups rest made. tt }

pub made_unsynced : (at : ℕ) (place : LogEndPlace) (old mid new : History) → DiskWrites Done at (0 ∷ []) old mid
    → Syncs Failed mid new → MakesAfter Unmade place old new
made_unsynced at place old mid new writes syncs = record {
  passed = gone_both old mid new (gone_write Done at (0 ∷ []) old mid writes) (gone_sync Failed mid new syncs);
  makes = λ groups rest made. tt;
}

-- ---- A log without groups.

-- the bytes of a log without groups
abbrev new_log_bytes : List ℕ
new_log_bytes = log_header ++ 0 ∷ []

-- The next file wasn't begun.
pub new_log_unbegun : (old new : History) → BeginsNext Failed old new → WritesNewLog Failed old new
new_log_unbegun old new begins = (old.next, begins)

-- ---- It takes the place of the file, or not.

-- Only the next file changed.
pub stays : (old : History) (next : File) (new : History) → new ≡ with_next next old → CreatesLog Unmade old new
stays old next new is = subst (λ (h : History). CreatesLog Unmade old h) (sym is) (record {
  passed = record { moments = []; past = sym (append-nil old.past); paths = refl };
  each = tt;
  leaves = inl refl;
  makes = tt;
})

is_new_log : (file : File) → file ≡ settled new_log_bytes → IsNewLog file
unfolding records digest_after
is_new_log file is = subst (λ (f : File). IsNewLog f) (sym is) (record {
  idle = record {
    ends = record {
      stored = [];
      opens = record { are_stored = tt; behind = []; is = refl };
      are = refl;
      is_at = refl;
      is_digest = refl;
    };
    still = refl;
  };
  whole = record { stored = []; closed = record { are_stored = tt; is = refl }; are = refl };
})

-- the disk after it took the place
taken_place : (old mid new : History) → WritesNewLog Done old mid → new ≡ replaced mid
    → (new.file ≡ settled new_log_bytes) × (new.past ≡ old.past ++ old.file ∷ []) × (new.paths ≡ old.paths)
taken_place old mid new writes replaces =
    let is : new ≡ replaced (with_next (settled new_log_bytes) old) = replaces ∙ ap (λ (h : History). replaced h) writes in
    (ap (λ (h : History). h.file) is, ap (λ (h : History). h.past) is, ap (λ (h : History). h.paths) is)

gone_on : (old new : History) → new.past ≡ old.past ++ old.file ∷ [] → new.paths ≡ old.paths → HasGoneOn old new
gone_on old new past paths = record { moments = old.file ∷ []; past = past; paths = paths }

pub created : (end : LogEndPlace) (old mid new : History) → end ≡ first_record_place → WritesNewLog Done old mid
    → Replaces Done mid new → CreatesLog (Made end) old new
unfolding gone_on
created end old mid new is_end writes replaces =
    let taken = taken_place old mid new writes replaces in
    let is_log : IsNewLog new.file = is_new_log new.file taken.0 in
    record {
      passed = gone_on old new taken.1 taken.2;
      each = (refl, tt);
      leaves = inr is_log;
      makes = (
        is_end,
        subst (λ (p : LogEndPlace). IsIdleLog [] p new.file) (sym is_end) is_log.idle,
        λ none. is_log.whole,
      );
    }

pub not_replaced : (old mid new : History) → WritesNewLog Done old mid → Replaces Failed mid new → CreatesLog Unmade old new
unfolding gone_on
not_replaced old mid new writes (inl same) =
    stays old (settled new_log_bytes) new (same ∙ writes)
not_replaced old mid new writes (inr replaces) =
    let taken = taken_place old mid new writes replaces in
    record {
      passed = gone_on old new taken.1 taken.2;
      each = (refl, tt);
      leaves = inr (is_new_log new.file taken.0);
      makes = tt;
    }
