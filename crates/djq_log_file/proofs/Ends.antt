-- Where a log ends behind a group that was appended.
use Rattle.std.proofs.Common.{◌≡◌, ℕ, ◌+◌, List, [], ◌∷◌, ◌++◌, length, refl, sym, ap₂, subst}
use Rattle.djq_disk.specs.History.{History}
use Rattle.djq_disk.specs.declared.disk.DiskDid.TheVariants.{Done as Did, Failed as Failing}
use Rattle.djq_log_format.specs.Format.{record_body, digest_behind}
use Rattle.djq_log_file.specs.Places.{LogEndPlace}
use Rattle.djq_log_file.specs.Appending.{IsIdleLog, AppendsHere, AppendsAfter, end_behind}
use Rattle.djq_log_file.specs.declared.writer.LogAppended.TheVariants.{Done, Failed, Full}
use Rattle.djq_log_file.proofs.Parts.{gone_none}

abbrev pub ends_at : ℕ → ℕ → LogEndPlace
ends_at at digest = record { at = at; digest = digest }

pub end_same : (at digest end after : ℕ) (group : List (List ℕ)) → end ≡ at + 17 + length (record_body group)
    → after ≡ digest_behind digest group → ends_at end after ≡ end_behind (ends_at at digest) group
end_same at digest end after group is_end is_after = ap₂ ends_at is_end is_after

-- nothing was appended
pub appended_not : (place : LogEndPlace) (group : List (List ℕ)) (h : History) → AppendsAfter Full place group h h
appended_not place group h = record { passed = gone_none h; appends = λ groups idle. refl }

pub appended_done : (next inside place : LogEndPlace) (group : List (List ℕ)) (old new : History) → inside ≡ place
    → next ≡ end_behind inside group → AppendsHere Did inside group old new → AppendsAfter (Done next) place group old new
appended_done next inside place group old new same end appends =
    subst (λ (p : LogEndPlace). AppendsAfter (Done next) p group old new) same (record {
      passed = appends.passed;
      appends = λ groups idle.
          let got = appends.appends groups idle in
          (subst (λ (p : LogEndPlace). IsIdleLog (groups ++ group ∷ []) p new.file) (sym end) got.0, got.1);
    })

pub appended_failed : (inside place : LogEndPlace) (group : List (List ℕ)) (old new : History) → inside ≡ place
    → AppendsHere Failing inside group old new → AppendsAfter Failed place group old new
appended_failed inside place group old new same appends =
    subst (λ (p : LogEndPlace). AppendsAfter Failed p group old new) same
    (record { passed = appends.passed; appends = λ groups idle. appends.appends groups idle })
