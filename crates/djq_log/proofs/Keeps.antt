-- A file is one log, an idle log outlives a crash, and groups are in a log one after another.
use Rattle.std.proofs.Common.{◌≡◌, ℕ, ◌≤◌, inl, inr, List, [], ◌∷◌, ◌++◌, length, get_or, sym, ap, subst, ◌∙◌, arith}
use Rattle.std.proofs.Common.{append_assoc, append-nil, length-append, refl}
use Rattle.std.proofs.lemmas.Grind.{flat_map-append}
use Rattle.djq_disk.specs.File.{File}
use Rattle.djq_disk.specs.History.{History}
use Rattle.djq_disk.specs.Leaving.{LeavesOnly, LeavesSince}
use Rattle.djq_disk.proofs.Files.{leaves_none, leaves_more, leaves_so}
use Rattle.djq_journal.specs.Format.{front, FileOpensTo}
use Rattle.djq_journal.proofs.Records.{opens_once as first_opens_once}
use Rattle.djq_journal.proofs.Appends.{idle_lasts}
use Rattle.djq_log_format.specs.Format.{RecordStored, log_front}
use Rattle.djq_log_format.proofs.Once.{opens_once as second_opens_once}
use Rattle.djq_log_file.specs.Standing.{stored_groups}
use Rattle.djq_log_file.proofs.Appends.{idle_holds}
use Rattle.djq_log.specs.Lines.{whole_lines, HasLogLines, LogOpensToLines, IsIdleAt, IdleLogLasts, LogOpensToOne}
use Rattle.djq_log.specs.Keeping.{OpensWithin, IsKeeping, OpensToOldOrNew, KeepsOn}
use Rattle.djq_log.specs.declared.end.LogEnd.{LogEnd}
use Rattle.djq_log.specs.declared.end.LogEnd.TheVariants.{First, Second}

-- ---- A file opens to one list of lines.

-- The seventh byte of a header says which format it is of.
no_both : (lines others : List (List ℕ)) (file : List ℕ) → FileOpensTo lines file → HasLogLines others file → ⊥
no_both lines others file a b =
    let same : front lines ++ a.gate ∷ a.behind ≡ log_front b.holds.stored ++ 0 ∷ b.holds.opens.behind = sym a.is
    ∙ b.holds.opens.is in
    let wrong : 49 ≡ 50 = ap (λ (xs : List ℕ). get_or xs 6 0) same in
    omega (arith, wrong)

lines_once : (lines others : List (List ℕ)) (file : List ℕ) → HasLogLines lines file → HasLogLines others file
    → lines ≡ others
lines_once lines others file a b =
    let same : a.holds.stored ≡ b.holds.stored = second_opens_once a.holds.stored b.holds.stored file a.holds.opens
    b.holds.opens in
    a.are
    ∙ ap whole_lines
    (a.holds.are ∙ ap (λ (stored : List RecordStored). stored_groups stored) same ∙ sym b.holds.are)
    ∙ sym b.are

pub opens_once : LogOpensToOne
opens_once lines others file (inl a) (inl b) = first_opens_once lines others file a b
opens_once lines others file (inl a) (inr b) = absurd (no_both lines others file a b)
opens_once lines others file (inr a) (inl b) = absurd (no_both others lines file b a)
opens_once lines others file (inr a) (inr b) = lines_once lines others file a b

-- ---- An idle log outlives a crash.

pub idle_log_lasts : IdleLogLasts
idle_log_lasts lines (First gate) file image idle is = inl (idle_lasts lines gate file image idle is)
idle_log_lasts lines (Second place) file image idle is = inr (record {
  groups = idle.0.groups;
  holds = idle_holds idle.0.groups place file (record { ends = idle.0.ends; still = idle.1 }) image is;
  are = idle.0.are;
})

-- ---- Groups, one after another.

-- the lines of some groups and one more
pub lines_more : (found : List (List ℕ)) (groups : List (List (List ℕ))) (group : List (List ℕ))
    → (found ++ whole_lines groups) ++ group ≡ found ++ whole_lines (groups ++ group ∷ [])
lines_more found groups group =
    append_assoc found (whole_lines groups) group
    ∙ ap (λ (xs : List (List ℕ)). found ++ xs)
    (sym (flat_map-append (λ (g : List (List ℕ)). g) groups (group ∷ [])
    ∙ ap (λ (xs : List (List ℕ)). whole_lines groups ++ xs) (append-nil group)))

-- the lines of all groups
opens_all : (found : List (List ℕ)) (groups : List (List (List ℕ))) (file : List ℕ)
    → LogOpensToLines (found ++ whole_lines groups) file → OpensWithin found groups (length groups) file
opens_all found groups file opens = record
    { whole = groups; later = []; cut = sym (append-nil groups); acknowledged = omega arith; opens = opens }

-- what opens within some groups does within more of them
more_groups : (found : List (List ℕ)) (groups : List (List (List ℕ))) (group : List (List ℕ)) (file : List ℕ)
    → OpensWithin found groups 0 file → OpensWithin found (groups ++ group ∷ []) 0 file
more_groups found groups group file o = record {
  whole = o.whole;
  later = o.later ++ group ∷ [];
  cut = ap (λ (gs : List (List (List ℕ))). gs ++ group ∷ []) o.cut ∙ append_assoc o.whole o.later (group ∷ []);
  acknowledged = omega arith;
  opens = o.opens;
}

-- the lines before an append, or those and the group: at least all groups before it
old_or_new : (found : List (List ℕ)) (groups : List (List (List ℕ))) (group : List (List ℕ)) (least : ℕ)
    (file : List ℕ) → least ≤ length groups → OpensToOldOrNew (found ++ whole_lines groups) group file
    → OpensWithin found (groups ++ group ∷ []) least file
old_or_new found groups group least file few (inl before) = record
    { whole = groups; later = group ∷ []; cut = refl; acknowledged = few; opens = before }
old_or_new found groups group least file few (inr after) = record {
  whole = groups ++ group ∷ [];
  later = [];
  cut = sym (append-nil (groups ++ group ∷ []));
  acknowledged = omega (arith, few, length-append groups (group ∷ []));
  opens = subst (λ (ls : List (List ℕ)). LogOpensToLines ls file) (lines_more found groups group) after;
}

keeping_now : (found : List (List ℕ)) (groups : List (List (List ℕ))) (end : LogEnd) (file : File)
    → IsIdleAt (found ++ whole_lines groups) end file → LeavesOnly (OpensWithin found groups (length groups)) file
keeping_now found groups end file idle image is = opens_all found groups image
    (idle_log_lasts (found ++ whole_lines groups) end file image idle is)

-- an append leaves whole groups at each moment
append_leaves : (found : List (List ℕ)) (groups : List (List (List ℕ))) (group : List (List ℕ)) (end : LogEnd)
    (start old new : History) → IsKeeping found groups end start old
    → LeavesSince (OpensToOldOrNew (found ++ whole_lines groups) group) old new
    → LeavesSince (OpensWithin found (groups ++ group ∷ []) 0) start new
append_leaves found groups group end start old new keeping leaves =
    leaves_more (OpensWithin found (groups ++ group ∷ []) 0) start old new
    (leaves_so (OpensWithin found groups 0) (OpensWithin found (groups ++ group ∷ []) 0) start old
    (more_groups found groups group) keeping.leaves)
    (leaves_so (OpensToOldOrNew (found ++ whole_lines groups) group) (OpensWithin found (groups ++ group ∷ []) 0) old
    new
    (λ image. old_or_new found groups group 0 image (omega arith)) leaves)

pub keeps_on : KeepsOn
keeps_on = record {
  none = λ found end h idle.
      let same : IsIdleAt (found ++ whole_lines []) end h.file = subst
      (λ (ls : List (List ℕ)). IsIdleAt ls end h.file) (sym (append-nil found)) idle in
      record { idle = same; leaves = leaves_none (OpensWithin found [] 0) h (keeping_now found [] end h.file same) };
  more = λ found groups end start old keeping. record {
    now = keeping_now found groups end old.file keeping.idle;
    done = λ group next new appends. record {
      idle = subst (λ (ls : List (List ℕ)). IsIdleAt ls next new.file) (lines_more found groups group) appends.idle;
      leaves = append_leaves found groups group end start old new keeping appends.leaves;
    };
    failed = λ group new leaves. record {
      leaves = append_leaves found groups group end start old new keeping leaves;
      now = λ image is. old_or_new found groups group (length groups) image (omega arith) (leaves.now image is);
    };
  };
}
