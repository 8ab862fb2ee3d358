-- What a log has of groups that are appended one after another.
use Rattle.std.specs.Prelude.{◌≡◌, ℕ, ◌≤◌, ◌⊎◌, List, [], ◌∷◌, ◌++◌, length}
use Rattle.djq_disk.specs.History.{History}
use Rattle.djq_disk.specs.Leaving.{LeavesOnly, LeavesSince}
use Rattle.djq_log.specs.Lines.{whole_lines, LogOpensToLines, IsIdleAt}
use Rattle.djq_log.specs.declared.end.LogEnd.{LogEnd}

-- A file opens to the lines found at the start and those of whole groups, which are the first ones
-- and at least so many.
pub record OpensWithin (found : List (List ℕ)) (groups : List (List (List ℕ))) (least : ℕ) (file : List ℕ) : Type 0
  where
    pub whole : List (List (List ℕ))
    pub later : List (List (List ℕ))
    pub cut : groups ≡ whole ++ later
    pub acknowledged : least ≤ length whole
    pub opens : LogOpensToLines (found ++ whole_lines whole) file

-- All these groups are in the log, which ends here; and at each moment since a crash leaves
-- whole groups, the first ones.
pub record IsKeeping (found : List (List ℕ)) (groups : List (List (List ℕ))) (end : LogEnd) (old new : History) : Type 0
  where
    pub idle : IsIdleAt (found ++ whole_lines groups) end new.file
    pub leaves : LeavesSince (OpensWithin found groups 0) old new

-- All these groups were in the log, and then one more may be: so it is at each moment since, and in the
-- end a crash leaves all of them, with the last or without.
pub record WasKeeping (found : List (List ℕ)) (groups : List (List (List ℕ))) (last : List (List ℕ)) (old new : History)
    : Type 0 where
  pub leaves : LeavesSince (OpensWithin found (groups ++ last ∷ []) 0) old new
  pub now : LeavesOnly (OpensWithin found (groups ++ last ∷ []) (length groups)) new.file

-- A file opens to the lines before an append, or to those and the whole group.
abbrev pub OpensToOldOrNew : List (List ℕ) → List (List ℕ) → List ℕ → Type 0
OpensToOldOrNew lines group file = LogOpensToLines lines file ⊎ LogOpensToLines (lines ++ group) file

-- What an append of a group leaves after these lines: done, failed, or without room for it.
pub record AppendsTo (lines group : List (List ℕ)) (end : LogEnd) (old new : History) : Type 0 where
  pub idle : IsIdleAt (lines ++ group) end new.file
  pub leaves : LeavesSince (OpensToOldOrNew lines group) old new

-- An append of a group continues from those before it, whatever was found and whenever it began.
pub record AppendsKeep (found : List (List ℕ)) (groups : List (List (List ℕ))) (end : LogEnd) (start old : History)
    : Type 0 where
  pub now : LeavesOnly (OpensWithin found groups (length groups)) old.file
  pub done : (group : List (List ℕ)) (next : LogEnd) (new : History)
      → AppendsTo (found ++ whole_lines groups) group next old new
      → IsKeeping found (groups ++ group ∷ []) next start new
  pub failed : (group : List (List ℕ)) (new : History)
      → LeavesSince (OpensToOldOrNew (found ++ whole_lines groups) group) old new
      → WasKeeping found groups group start new

-- Groups are in the log one after another: none at first, and each append continues from those before it.
pub record KeepsOn : Type 0 where
  pub none : (found : List (List ℕ)) (end : LogEnd) (h : History) → IsIdleAt found end h.file
      → IsKeeping found [] end h h
  pub more : (found : List (List ℕ)) (groups : List (List (List ℕ))) (end : LogEnd) (start old : History)
      → IsKeeping found groups end start old → AppendsKeep found groups end start old
