-- Groups that are appended one after another.
use Rattle.std.proofs.Common.{ℕ, ◌≤◌, inl, inr, List, [], ◌∷◌, ◌++◌, length, refl, sym, ap, subst, ◌∙◌, arith}
use Rattle.std.proofs.Common.{append_assoc, append-nil, length-append}
use Rattle.djq_disk.specs.File.{File}
use Rattle.djq_disk.specs.History.{History}
use Rattle.djq_disk.specs.Leaving.{LeavesOnly, LeavesSince}
use Rattle.djq_disk.proofs.Files.{leaves_none, leaves_more, leaves_so}
use Rattle.djq_log_file.specs.Places.{LogEndPlace}
use Rattle.djq_log_file.specs.Standing.{HoldsGroups}
use Rattle.djq_log_file.specs.Appending.{IsIdleLog, HasOldOrNew}
use Rattle.djq_log_file.specs.Keeping.{OpensToFirst, IsKeepingGroups, KeepsGroups}
use Rattle.djq_log_file.proofs.Appends.{idle_holds}

-- what has the first of some groups has the first of more of them
first_of_more : (found groups : List (List (List ℕ))) (group : List (List ℕ)) (file : List ℕ)
    → OpensToFirst found groups 0 file → OpensToFirst found (groups ++ group ∷ []) 0 file
first_of_more found groups group file o = record {
  whole = o.whole;
  later = o.later ++ group ∷ [];
  cut = ap (λ (gs : List (List (List ℕ))). gs ++ group ∷ []) o.cut ∙ append_assoc o.whole o.later (group ∷ []);
  acknowledged = omega arith;
  holds = o.holds;
}

-- the groups before an append, or those and the new one
old_or_new : (found groups : List (List (List ℕ))) (group : List (List ℕ)) (least : ℕ) (file : List ℕ)
    → least ≤ length groups → HasOldOrNew (found ++ groups) group file
    → OpensToFirst found (groups ++ group ∷ []) least file
old_or_new found groups group least file few (inl before) = record
    { whole = groups; later = group ∷ []; cut = refl; acknowledged = few; holds = before }
old_or_new found groups group least file few (inr after) = record {
  whole = groups ++ group ∷ [];
  later = [];
  cut = sym (append-nil (groups ++ group ∷ []));
  acknowledged = omega (arith, few, length-append groups (group ∷ []));
  holds = subst (λ (gs : List (List (List ℕ))). HoldsGroups gs file) (append_assoc found groups (group ∷ [])) after;
}

holds_all : (found groups : List (List (List ℕ))) (place : LogEndPlace) (file : File)
    → IsIdleLog (found ++ groups) place file → LeavesOnly (OpensToFirst found groups (length groups)) file
holds_all found groups place file idle image is = record {
  whole = groups;
  later = [];
  cut = sym (append-nil groups);
  acknowledged = omega arith;
  holds = idle_holds (found ++ groups) place file idle image is;
}

append_leaves : (found groups : List (List (List ℕ))) (group : List (List ℕ)) (place : LogEndPlace) (start old new : History)
    → IsKeepingGroups found groups place start old → LeavesSince (HasOldOrNew (found ++ groups) group) old new
    → LeavesSince (OpensToFirst found (groups ++ group ∷ []) 0) start new
append_leaves found groups group place start old new keeping leaves =
    leaves_more (OpensToFirst found (groups ++ group ∷ []) 0) start old new
    (leaves_so (OpensToFirst found groups 0) (OpensToFirst found (groups ++ group ∷ []) 0) start old
    (first_of_more found groups group) keeping.leaves)
    (leaves_so (HasOldOrNew (found ++ groups) group) (OpensToFirst found (groups ++ group ∷ []) 0) old new
    (λ image. old_or_new found groups group 0 image (omega arith)) leaves)

pub keeps_groups : KeepsGroups
keeps_groups = record {
  none = λ found place h idle.
      let same : IsIdleLog (found ++ []) place h.file = subst
      (λ (gs : List (List (List ℕ))). IsIdleLog gs place h.file) (sym (append-nil found)) idle in
      record { idle = same; leaves = leaves_none (OpensToFirst found [] 0) h (holds_all found [] place h.file same) };
  more = λ found groups place start old keeping. record {
    now = holds_all found groups place old.file keeping.idle;
    done = λ group next new appends. record {
      idle = subst (λ (gs : List (List (List ℕ))). IsIdleLog gs next new.file) (append_assoc found groups (group ∷ []))
          appends.0;
      leaves = append_leaves found groups group place start old new keeping appends.1;
    };
    failed = λ group new leaves. record {
      leaves = append_leaves found groups group place start old new keeping leaves;
      now = λ image is. old_or_new found groups group (length groups) image (omega arith) (leaves.now image is);
    };
    full = λ group new same. subst (λ (h : History). IsKeepingGroups found groups place start h) (sym same) keeping;
  };
}
