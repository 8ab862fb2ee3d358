-- What a log has of groups that are appended one after another.
use Rattle.std.specs.Prelude.{◌≡◌, ℕ, ◌≤◌, List, [], ◌∷◌, ◌++◌, length}
use Rattle.djq_disk.specs.History.{History}
use Rattle.djq_disk.specs.Leaving.{LeavesOnly, LeavesSince}
use Rattle.djq_log_file.specs.Places.{LogEndPlace}
use Rattle.djq_log_file.specs.Standing.{HoldsGroups}
use Rattle.djq_log_file.specs.Appending.{IsIdleLog, AppendsGroup}
use Rattle.djq_log_file.specs.declared.writer.LogAppended.TheVariants.{Done, Failed, Full}

-- A file has the groups that were found in it, and of those that were appended the first ones, at least so many.
pub record OpensToFirst (found groups : List (List (List ℕ))) (least : ℕ) (file : List ℕ) : Type 0 where
  pub whole : List (List (List ℕ))
  pub later : List (List (List ℕ))
  pub cut : groups ≡ whole ++ later
  pub acknowledged : least ≤ length whole
  pub holds : HoldsGroups (found ++ whole) file

-- All these groups are in the log, and at each moment since a crash leaves the first ones.
pub record IsKeepingGroups (found groups : List (List (List ℕ))) (place : LogEndPlace) (old new : History) : Type 0 where
  pub idle : IsIdleLog (found ++ groups) place new.file
  pub leaves : LeavesSince (OpensToFirst found groups 0) old new

-- All these groups were in the log, and then one more may be: so it is at each moment since, and in the end a crash
-- leaves all of them, with the last or without.
pub record WasKeepingGroups (found groups : List (List (List ℕ))) (last : List (List ℕ)) (old new : History) : Type 0 where
  pub leaves : LeavesSince (OpensToFirst found (groups ++ last ∷ []) 0) old new
  pub now : LeavesOnly (OpensToFirst found (groups ++ last ∷ []) (length groups)) new.file

-- An append of a group continues from those before it, whatever was found and whenever it began.
pub record AppendsOn (found groups : List (List (List ℕ))) (place : LogEndPlace) (start old : History) : Type 0 where
  pub now : LeavesOnly (OpensToFirst found groups (length groups)) old.file
  pub done : (group : List (List ℕ)) (next : LogEndPlace) (new : History)
      → AppendsGroup (Done next) (found ++ groups) group old new → IsKeepingGroups found (groups ++ group ∷ []) next start new
  pub failed : (group : List (List ℕ)) (new : History) → AppendsGroup Failed (found ++ groups) group old new
      → WasKeepingGroups found groups group start new
  pub full : (group : List (List ℕ)) (new : History) → AppendsGroup Full (found ++ groups) group old new
      → IsKeepingGroups found groups place start new

-- Groups are in the log one after another: none at first, and each append continues from those before it.
pub record KeepsGroups : Type 0 where
  pub none : (found : List (List (List ℕ))) (place : LogEndPlace) (h : History) → IsIdleLog found place h.file
      → IsKeepingGroups found [] place h h
  pub more : (found groups : List (List (List ℕ))) (place : LogEndPlace) (start old : History)
      → IsKeepingGroups found groups place start old → AppendsOn found groups place start old
