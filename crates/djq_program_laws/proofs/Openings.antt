-- How a log is opened and its lines are read, and what is left of its file if nothing begins.
use Rattle.std.specs.Prelude.{ℕ, List, [], ◌∷◌, ◌++◌, ◌≡◌, Option, None, Some, IfSome, take}
use Rattle.std.proofs.Common.{refl, sym, ap, ◌∙◌, subst, inl, inr}
use Rattle.djq_model.specs.Data.{Bytes}
use Rattle.djq_disk.specs.File.{File}
use Rattle.djq_disk.specs.History.{History, WhereHistoryTold, OpensPath}
use Rattle.djq_disk.proofs.Files.{told_both, told_so}
use Rattle.djq_log_format.specs.Format.{log_header}
use Rattle.djq_log_file.specs.Opening.{IsUnbegun, BeginsWith, first_log_header, synced_history}
use Rattle.djq_log.specs.Lines.{LogOpensToLines, IsIdleAt}
use Rattle.djq_log.specs.Reading.{HasReadLines, IsBadAt, IsNextAt, ReadsNext, OpensLogLines}
use Rattle.djq_log.specs.declared.end.LogEnd.{LogEnd}
use Rattle.djq_log.specs.declared.end.LogEnd.TheVariants.{First, Second}
use Rattle.djq_log.specs.declared.source.LogSource.{LogSource}
use Rattle.djq_log.specs.declared.source.NextLine.{NextLine}
use Rattle.djq_log.specs.declared.source.NextLine.TheVariants.{Got, End, Bad}
use Rattle.djq_log.specs.declared.opening.LogFound.TheVariants.{Made, Ready, Unknown, Failed as Unopened}
use Rattle.djq_run.specs.declared.status.Status.{Status}
use Rattle.djq_run.specs.declared.status.Status.TheVariants.{Done, Usage, ReadFault, WriteFault, HubFault, TurnsUsed}
use Rattle.djq_run.specs.declared.status.Status.TheVariants.{NoMemory, Schedule, SessionEnded, DiskFault, LogFull}
use Rattle.djq_run.specs.declared.status.Status.TheVariants.{BadLog, Mirror}
use Rattle.djq_program_laws.specs.Logged.{IsOnlyRead, LeavesUnloaded, IsNoLogFrom}
use Rattle.djq_program_laws.specs.Parts.{FindsAll}

-- ---- How a log is opened.

-- What holds of the history in the end, by what held of the disk before, if it matters.
pub told_end : (old new : Option History) (P : History → History → Type 0) (Q : History → Type 0)
    → ((o n : History) → P o n → Q n) → WhereHistoryTold old new P → IfSome new Q
told_end old None P Q so told = tt
told_end None (Some n) P Q so told = absurd told
told_end (Some o) (Some n) P Q so told = so o n told

pub told_on : (old new : Option History) (P : History → History → Type 0) (Q R : History → Type 0)
    → ((o n : History) → Q o → P o n → R n) → IfSome old Q → WhereHistoryTold old new P → IfSome new R
told_on old None P Q R so before told = tt
told_on None (Some n) P Q R so before told = absurd told
told_on (Some o) (Some n) P Q R so before told = so o n before told

-- Of a moment before, and of what came since.
pub told_then : (old mid new : Option History) (P Q : History → History → Type 0) (R : History → Type 0)
    (S : History → History → Type 0)
    → ((o m n : History) → P o m → R n → Q m n → S o n) → WhereHistoryTold old mid P → IfSome new R
    → WhereHistoryTold mid new Q
    → WhereHistoryTold old new S
told_then old mid None P Q R S so p r q = tt
told_then old None (Some n) P Q R S so p r q = absurd q
told_then None (Some m) (Some n) P Q R S so p r q = absurd p
told_then (Some o) (Some m) (Some n) P Q R S so p r q = so o m n p r q

-- A log that was made has no lines.
pub made_finds : (path : Bytes) (end : LogEnd) (old mid new : Option History)
    → WhereHistoryTold old mid (OpensPath path) → WhereHistoryTold mid new (OpensLogLines (Made end))
    → WhereHistoryTold old new (FindsAll path [] end)
made_finds path end old mid new opens made =
    told_both old mid new (OpensPath path) (OpensLogLines (Made end)) (FindsAll path [] end) both opens made
  where
    both : (o m n : History) → OpensPath path o m → OpensLogLines (Made end) m n → FindsAll path [] end o n
    both o m n p q = (
      inl (record {
        unbegun = subst (λ (h : History). IsUnbegun h.file.bytes) p q.0.unbegun;
        none = refl;
        paths = q.0.paths ∙ ap (λ (h : History). h.paths) p;
      }),
      q.1,
    )

-- An older log is ready, and nothing but a sync was done.
pub ready_read : (path : Bytes) (source : LogSource) (old mid new : Option History)
    → WhereHistoryTold old mid (OpensPath path) → WhereHistoryTold mid new (OpensLogLines (Ready source))
    → WhereHistoryTold old new (IsOnlyRead path)
ready_read path source old mid new opens ready =
    told_both old mid new (OpensPath path) (OpensLogLines (Ready source)) (IsOnlyRead path)
    (λ o m n p q. record {
      some = λ unbegun. q.1 (subst (λ (h : History). IsUnbegun h.file.bytes) (sym p) unbegun);
      is = q.0 ∙ ap synced_history p;
    }) opens ready

pub ready_first : (source : LogSource) (mid new : Option History)
    → WhereHistoryTold mid new (OpensLogLines (Ready source)) → IfSome new (λ h. HasReadLines [] source h.file)
ready_first source mid new ready =
    told_end mid new (OpensLogLines (Ready source)) (λ h. HasReadLines [] source h.file) (λ m n p. p.2) ready

-- The log that is ready has these lines.
idle_opens : (found : List Bytes) (end : LogEnd) (file : File) → IsIdleAt found end file
    → LogOpensToLines found file.bytes
idle_opens found (First gate) file idle = inl idle.opens
idle_opens found (Second place) file (ends, still) = inr (record {
  groups = ends.groups;
  holds = record { stored = ends.ends.stored; opens = ends.ends.opens; are = ends.ends.are };
  are = ends.are;
})

pub older_finds : (path : Bytes) (found : List Bytes) (end : LogEnd) (old mid new : Option History)
    → WhereHistoryTold old mid (IsOnlyRead path) → IfSome new (λ h. IsIdleAt found end h.file)
    → WhereHistoryTold mid new (λ o n. n ≡ o) → WhereHistoryTold old new (FindsAll path found end)
older_finds path found end old mid new read idle same =
    told_then old mid new (IsOnlyRead path) (λ o n. n ≡ o) (λ h. IsIdleAt found end h.file) (FindsAll path found end)
    (λ o m n p r q. finds o n (subst (λ (h : History). IsOnlyRead path o h) (sym q) p) r) read idle same
  where
    finds : (o n : History) → IsOnlyRead path o n → IsIdleAt found end n.file → FindsAll path found end o n
    finds o n p r = (
      inr (
        record {
          lines = subst (λ (bytes : List ℕ). LogOpensToLines found bytes) (ap (λ (h : History). h.file.bytes) p.is)
              (idle_opens found end n.file r);
          is = p.is;
        },
        p.some,
      ),
      r,
    )

-- ---- What is left if nothing begins.

-- An open of the file failed.
pub unasked_leaves : (path : Bytes) (old new : Option History) → WhereHistoryTold old new (OpensPath path)
    → WhereHistoryTold old new (LeavesUnloaded DiskFault path)
unasked_leaves path old new opens =
    told_so old new (OpensPath path) (LeavesUnloaded DiskFault path) (λ o n is. inl (inl is)) opens

-- A file was opened, and the log in it wasn't.
pub unopened_leaves : (path : Bytes) (old mid new : Option History) → WhereHistoryTold old mid (OpensPath path)
    → WhereHistoryTold mid new (OpensLogLines Unopened) → WhereHistoryTold old new (LeavesUnloaded DiskFault path)
unopened_leaves path old mid new opens failed = told_both old mid new (OpensPath path) (OpensLogLines Unopened)
    (LeavesUnloaded DiskFault path) both opens failed
  where
    both : (o m n : History) → OpensPath path o m → OpensLogLines Unopened m n → LeavesUnloaded DiskFault path o n
    both o m n p (inl same) = inl (inl (same ∙ p))
    both o m n p (inr (inl same)) = inl (inr (same ∙ ap synced_history p))
    both o m n p (inr (inr makes)) = inr (inl (record {
      unbegun = subst (λ (h : History). IsUnbegun h.file.bytes) p makes.unbegun;
      paths = makes.paths ∙ ap (λ (h : History). h.paths) p;
    }))

-- A file that is no log was read, and nothing else was done.
pub unknown_leaves : (path : Bytes) (old mid new : Option History) → WhereHistoryTold old mid (OpensPath path)
    → WhereHistoryTold mid new (OpensLogLines Unknown) → WhereHistoryTold old new (IsOnlyRead path)
unknown_leaves path old mid new opens unknown =
    told_both old mid new (OpensPath path) (OpensLogLines Unknown) (IsOnlyRead path)
    (λ o m n p q. record {
      some = λ unbegun. q.1.begun (subst (λ (h : History). IsUnbegun h.file.bytes) (sym p) unbegun);
      is = q.0 ∙ ap synced_history p;
    }) opens unknown

pub unknown_from : (mid new : Option History) → WhereHistoryTold mid new (OpensLogLines Unknown)
    → IfSome new (IsNoLogFrom 0)
unknown_from mid new unknown = told_end mid new (OpensLogLines Unknown) (IsNoLogFrom 0)
    (λ m n p. (
      refl,
      record {
        begun = λ h. p.1.begun (back m n p.0 IsUnbegun h);
        no_first = λ h. p.1.no_first (back m n p.0 (BeginsWith first_log_header) h);
        no_second = λ h. p.1.no_second (back m n p.0 (BeginsWith log_header) h);
      },
    )) unknown
  where
    back : (m n : History) → n ≡ synced_history m → (P : List ℕ → Type 0) → P n.file.bytes → P m.file.bytes
    back m n is P h = subst (λ (bytes : List ℕ). P bytes) (ap (λ (k : History). k.file.bytes) is) h

-- Whatever the status, an older log may be left as it was.
older_leaves : (status : Status) (path : Bytes) (o n : History) → IsOnlyRead path o n → LeavesUnloaded status path o n
older_leaves DiskFault path o n read = inl (inr read.is)
older_leaves NoMemory path o n read = inr read
older_leaves Done path o n read = read
older_leaves Usage path o n read = read
older_leaves ReadFault path o n read = read
older_leaves WriteFault path o n read = read
older_leaves HubFault path o n read = read
older_leaves TurnsUsed path o n read = read
older_leaves (Schedule n') path o n read = read
older_leaves SessionEnded path o n read = read
older_leaves LogFull path o n read = read
older_leaves (BadLog at) path o n read = read
older_leaves (Mirror n') path o n read = read

-- What was opened is left if its lines weren't loaded: nothing was written.
pub opened_leaves : (status : Status) (path : Bytes) (old mid new : Option History)
    → WhereHistoryTold old mid (IsOnlyRead path) → WhereHistoryTold mid new (λ o n. n ≡ o)
    → WhereHistoryTold old new (LeavesUnloaded status path)
opened_leaves status path old mid new read same =
    told_both old mid new (IsOnlyRead path) (λ o n. n ≡ o) (LeavesUnloaded status path)
    (λ o m n p q. older_leaves status path o n (subst (λ (h : History). IsOnlyRead path o h) (sym q) p)) read same

-- ---- What lines are found.

-- what a question for the next line changes and finds
abbrev pub AsksNext : NextLine → LogSource → List ℕ → History → History → Type 0
AsksNext answer source buf o n =
    (n ≡ o) × ((lines : List Bytes) → HasReadLines lines source o.file → ReadsNext answer lines buf o.file)

pub next_read : (found : List Bytes) (source next : LogSource) (n at : ℕ) (buf : List ℕ) (old new : Option History)
    → IfSome old (λ h. HasReadLines found source h.file)
    → WhereHistoryTold old new (AsksNext (Got next n at) source buf)
    → IfSome new (λ h. HasReadLines (found ++ take n buf ∷ []) next h.file)
next_read found source next n at buf old new has asks =
    told_on old new (AsksNext (Got next n at) source buf) (λ h. HasReadLines found source h.file)
    (λ h. HasReadLines (found ++ take n buf ∷ []) next h.file)
    (λ o h is p. subst (λ (k : History). HasReadLines (found ++ take n buf ∷ []) next k.file) (sym p.0)
    (p.1 found is).0) has asks

pub next_stands : (found : List Bytes) (source next : LogSource) (n at : ℕ) (buf : List ℕ) (old new : Option History)
    → IfSome old (λ h. HasReadLines found source h.file)
    → WhereHistoryTold old new (AsksNext (Got next n at) source buf)
    → IfSome new (λ h. IsNextAt found (take n buf) at h.file)
next_stands found source next n at buf old new has asks =
    told_on old new (AsksNext (Got next n at) source buf) (λ h. HasReadLines found source h.file)
    (λ h. IsNextAt found (take n buf) at h.file)
    (λ o h is p. subst (λ (k : History). IsNextAt found (take n buf) at k.file) (sym p.0) (p.1 found is).1) has asks

pub next_ends : (found : List Bytes) (source : LogSource) (end : LogEnd) (buf : List ℕ) (old new : Option History)
    → IfSome old (λ h. HasReadLines found source h.file) → WhereHistoryTold old new (AsksNext (End end) source buf)
    → IfSome new (λ h. IsIdleAt found end h.file)
next_ends found source end buf old new has asks =
    told_on old new (AsksNext (End end) source buf) (λ h. HasReadLines found source h.file)
    (λ h. IsIdleAt found end h.file)
    (λ o h is p. subst (λ (k : History). IsIdleAt found end k.file) (sym p.0) (p.1 found is)) has asks

pub next_bad : (found : List Bytes) (source : LogSource) (at : ℕ) (buf : List ℕ) (old new : Option History)
    → IfSome old (λ h. HasReadLines found source h.file) → WhereHistoryTold old new (AsksNext (Bad at) source buf)
    → IfSome new (λ h. IsBadAt found at h.file)
next_bad found source at buf old new has asks =
    told_on old new (AsksNext (Bad at) source buf) (λ h. HasReadLines found source h.file)
    (λ h. IsBadAt found at h.file)
    (λ o h is p. subst (λ (k : History). IsBadAt found at k.file) (sym p.0) (p.1 found is)) has asks

-- a call that changes nothing of the disk, after others
pub same_both : (old mid new : Option History) (R : History → History → Type 0)
    → WhereHistoryTold old mid (λ o n. n ≡ o)
    → WhereHistoryTold mid new (λ o n. (n ≡ o) × R o n) → WhereHistoryTold old new (λ o n. n ≡ o)
same_both old mid new R same told = told_both old mid new (λ o n. n ≡ o) (λ o n. (n ≡ o) × R o n) (λ o n. n ≡ o)
    (λ o m n p q. q.0 ∙ p) same told
