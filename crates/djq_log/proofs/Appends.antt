-- A group that is appended to a log of either format.
use Rattle.std.proofs.Common.{◌≡◌, ℕ, ◌≤◌, inl, inr, List, [], ◌∷◌, ◌++◌, length, sym, ap, subst, ◌∙◌, arith, refl}
use Rattle.std.specs.Prelude.{Option, None, Some, slice_get}
use Rattle.djq_disk.specs.History.{History, WhereHistoryTold}
use Rattle.djq_disk.specs.Leaving.{LeavesSince}
use Rattle.djq_disk.proofs.Files.{leaves_so}
use Rattle.djq_journal.specs.Standing.{IsIdle}
use Rattle.djq_journal.specs.Appending.{IsBeforeOrAfter, Appends}
use Rattle.djq_journal.specs.declared.journal.Appended.TheVariants.{Done, Failed as Unappended, Full as Overflows}
use Rattle.djq_log_file.specs.Places.{LogEndPlace}
use Rattle.djq_log_file.specs.Appending.{HasOldOrNew, AppendsAfter}
use Rattle.djq_log_file.specs.declared.writer.LogAppended.TheVariants.{Done as Did, Failed as Failing}
use Rattle.djq_log_file.specs.declared.writer.LogAppended.TheVariants.{Full as Overflowing}
use Rattle.djq_log.specs.Lines.{whole_lines}
use Rattle.djq_log.specs.Keeping.{IsKeeping, OpensToOldOrNew, AppendsTo}
use Rattle.djq_log.specs.Logging.{grouped, Keeps, FullChangesNothing}
use Rattle.djq_log.specs.declared.end.LogEnd.{LogEnd}
use Rattle.djq_log.specs.declared.end.LogEnd.TheVariants.{First, Second}
use Rattle.djq_log.specs.declared.log.Kept.TheVariants.{All, Failed, Full}
use Rattle.djq_log.proofs.Keeps.{keeps_on, lines_more}

-- ---- Lines that a log is given.

pub with_lines : (lines : List (List ℕ)) (line : List ℕ) → Some line ≡ slice_get lines 0 → 1 ≤ length lines
with_lines [] line is = cc
with_lines (l ∷ ls) line is = omega arith

group_one : (lines : List (List ℕ)) → 1 ≤ length lines → grouped lines ≡ lines ∷ []
group_one [] some = let wrong : ⊥ = omega (arith, some) in absurd wrong
group_one (line ∷ lines) some = refl

-- what is told of each is told of all
pub told_all : {X : Type 0} (x : X) (old new : Option History) (P : X → History → History → Type 0)
    → ((y : X) → WhereHistoryTold old new (P y))
    → WhereHistoryTold old new (λ o n. (y : X) → P y o n)
told_all x old None P each = tt
told_all x None (Some n) P each = absurd (each x)
told_all x (Some o) (Some n) P each = each

-- ---- An append to a log of the first format.

first_old_or_new : (lines group : List (List ℕ)) (image : List ℕ) → IsBeforeOrAfter lines group image
    → OpensToOldOrNew lines group image
first_old_or_new lines group image (inl before) = inl (inl before)
first_old_or_new lines group image (inr after) = inr (inl after)

first_leaves : (lines group : List (List ℕ)) (old new : History) → LeavesSince (IsBeforeOrAfter lines group) old new
    → LeavesSince (OpensToOldOrNew lines group) old new
first_leaves lines group old new leaves =
    leaves_so (IsBeforeOrAfter lines group) (OpensToOldOrNew lines group) old new (first_old_or_new lines group) leaves

-- ---- An append to one of the second.

lines_next : (lines : List (List ℕ)) (groups : List (List (List ℕ))) (group : List (List ℕ))
    → lines ≡ whole_lines groups → lines ++ group ≡ whole_lines (groups ++ group ∷ [])
lines_next lines groups group are = ap (λ (ls : List (List ℕ)). ls ++ group) are ∙ lines_more [] groups group

second_old_or_new : (lines : List (List ℕ)) (groups : List (List (List ℕ))) (group : List (List ℕ)) (image : List ℕ)
    → lines ≡ whole_lines groups → HasOldOrNew groups group image → OpensToOldOrNew lines group image
second_old_or_new lines groups group image are (inl before) = inl
    (inr (record { groups = groups; holds = before; are = are }))
second_old_or_new lines groups group image are (inr after) = inr
    (inr (record { groups = groups ++ group ∷ []; holds = after; are = lines_next lines groups group are }))

second_leaves : (lines : List (List ℕ)) (groups : List (List (List ℕ))) (group : List (List ℕ)) (old new : History)
    → lines ≡ whole_lines groups → LeavesSince (HasOldOrNew groups group) old new
    → LeavesSince (OpensToOldOrNew lines group) old new
second_leaves lines groups group old new are leaves =
    leaves_so (HasOldOrNew groups group) (OpensToOldOrNew lines group) old new
    (λ image. second_old_or_new lines groups group image are) leaves

-- ---- A group is kept, whatever was kept before.

keeps_group : (end next : LogEnd) (found : List (List ℕ)) (groups : List (List (List ℕ))) (group : List (List ℕ))
    (start old new : History) → 1 ≤ length group → IsKeeping found groups end start old
    → AppendsTo (found ++ whole_lines groups) group next old new
    → IsKeeping found (groups ++ grouped group) next start new
keeps_group end next found groups group start old new some kept appends =
    subst (λ (gs : List (List (List ℕ))). IsKeeping found (groups ++ gs) next start new) (sym (group_one group some))
    ((keeps_on.more found groups end start old kept).done group next new appends)

pub first_all : (gate next : ℕ) (group : List (List ℕ)) (old new : History) → 1 ≤ length group
    → ((lines : List (List ℕ)) → IsIdle lines gate old.file → Appends (Done next) lines group old new)
    → Keeps All (Some (First gate)) (Some (First next)) group old new
first_all gate next group old new some appends found groups start kept =
    let lines = found ++ whole_lines groups in
    let did = appends lines kept.idle in
    keeps_group (First gate) (First next) found groups group start old new some kept
    (record { idle = did.0; leaves = first_leaves lines group old new did.1 })

pub first_failed : (gate : ℕ) (end : Option LogEnd) (group : List (List ℕ)) (old new : History)
    → ((lines : List (List ℕ)) → IsIdle lines gate old.file → Appends Unappended lines group old new)
    → Keeps Failed (Some (First gate)) end group old new
first_failed gate end group old new appends found groups start kept =
    let lines = found ++ whole_lines groups in
    (keeps_on.more found groups (First gate) start old kept).failed group new
    (first_leaves lines group old new (appends lines kept.idle))

pub first_full : (gate : ℕ) (end : Option LogEnd) (group : List (List ℕ)) (old new : History)
    → ((lines : List (List ℕ)) → IsIdle lines gate old.file → Appends Overflows lines group old new)
    → Keeps Full (Some (First gate)) end group old new
first_full gate end group old new appends found groups start kept =
    subst (λ (h : History). IsKeeping found groups (First gate) start h)
    (sym (appends (found ++ whole_lines groups) kept.idle)) kept

pub first_unchanged : (gate : ℕ) (group : List (List ℕ)) (old new : History)
    → ((lines : List (List ℕ)) → IsIdle lines gate old.file → Appends Overflows lines group old new)
    → FullChangesNothing (Some (First gate)) old new
first_unchanged gate group old new appends found groups start kept = appends (found ++ whole_lines groups) kept.idle

pub second_all : (place next : LogEndPlace) (group : List (List ℕ)) (old new : History) → 1 ≤ length group
    → AppendsAfter (Did next) place group old new
    → Keeps All (Some (Second place)) (Some (Second next)) group old new
second_all place next group old new some appends found groups start kept =
    let lines = found ++ whole_lines groups in
    let read = kept.idle.0 in
    let did = appends.appends read.groups (record { ends = read.ends; still = kept.idle.1 }) in
    keeps_group (Second place) (Second next) found groups group start old new some kept (record {
      idle = (
        record {
          groups = read.groups ++ group ∷ [];
          ends = did.0.ends;
          are = lines_next lines read.groups group read.are;
        },
        did.0.still,
      );
      leaves = second_leaves lines read.groups group old new read.are did.1;
    })

pub second_failed : (place : LogEndPlace) (end : Option LogEnd) (group : List (List ℕ)) (old new : History)
    → AppendsAfter Failing place group old new → Keeps Failed (Some (Second place)) end group old new
second_failed place end group old new appends found groups start kept =
    let lines = found ++ whole_lines groups in
    let read = kept.idle.0 in
    (keeps_on.more found groups (Second place) start old kept).failed group new
    (second_leaves lines read.groups group old new read.are
    (appends.appends read.groups (record { ends = read.ends; still = kept.idle.1 })))

pub second_full : (place : LogEndPlace) (end : Option LogEnd) (group : List (List ℕ)) (old new : History)
    → AppendsAfter Overflowing place group old new → Keeps Full (Some (Second place)) end group old new
second_full place end group old new appends found groups start kept =
    let read = kept.idle.0 in
    subst (λ (h : History). IsKeeping found groups (Second place) start h)
    (sym (appends.appends read.groups (record { ends = read.ends; still = kept.idle.1 }))) kept

pub second_unchanged : (place : LogEndPlace) (group : List (List ℕ)) (old new : History)
    → AppendsAfter Overflowing place group old new → FullChangesNothing (Some (Second place)) old new
second_unchanged place group old new appends found groups start kept =
    appends.appends kept.idle.0.groups (record { ends = kept.idle.0.ends; still = kept.idle.1 })
