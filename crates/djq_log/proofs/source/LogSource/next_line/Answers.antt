-- What the reader of the format says of the next line is what a log of either format says.
use Rattle.std.proofs.Common.{rules, ◌≡◌, ◌<◌, ◌≤◌, ℕ, List, [], sym, subst, arith}
use Rattle.djq_disk.specs.History.{WhereHistoryTold}
use Rattle.djq_disk.proofs.Files.{told_so}
use Rattle.djq_journal.specs.Standing.{IsAtGate}
use Rattle.djq_journal.specs.Calls.{JournalReads}
use Rattle.djq_journal.specs.declared.line.Line.TheVariants.{Got as GotFirst, End as EndFirst, BadLog as BadFirst}
use Rattle.djq_journal.specs.declared.line.Line.TheVariants.{Failed as FailedFirst}
use Rattle.djq_log_file.specs.Window.{ReadsThrough}
use Rattle.djq_log_file.specs.Standing.{HasRead, ReadsLine}
use Rattle.djq_log_file.specs.declared.reader.LogLine.TheVariants.{Damaged}
use Rattle.djq_log.specs.declared.end.LogEnd.TheVariants.{First as FirstEnd}
use Rattle.djq_log.specs.declared.source.LogSource.{LogSource}
use Rattle.djq_log.specs.declared.source.LogSource.TheVariants.{First, Second}
use Rattle.djq_log.specs.declared.source.NextLine.TheVariants.{Got, End, Bad, Failed}
use Rattle.djq_log.specs.Reading.{SourceGoesOn}
use Rattle.djq_log.proofs.Appends.{told_all}
use Rattle.djq_log.proofs.NextLines.{ReadsOn, first_got, first_end, first_bad, first_failed, second_bad}
use Rattle.djq_log.proofs.source.LogSource.next_line.Goals as goal

-- Of the first format: its gate's place was asked before the line was read.
pub returns-in-Got-clause-told : goal.returns-in-Got-clause-told
returns-in-Got-clause-told g c =
    let told = g.D.Disk.told in
    let gate = c.in-First.journal in
    let gate' = c.next_line.new.self in
    let n = c.in-Got.n in
    let buf = c.next_line.new.buf in
    let at = c.place-at.result in
    let is : c.args.self ≡ First gate = search rules in
    subst (λ (source : LogSource). WhereHistoryTold (told c.args.disk.now) (told c.next_line.new.disk)
    (ReadsOn (Got (First gate') n at) source buf)) (sym is)
    (told_so _ _
    (λ o h. (lines : List (List ℕ)) → (h ≡ o)
    × (IsAtGate lines gate o.file → JournalReads (GotFirst n) lines gate gate' buf o.file))
    (ReadsOn (Got (First gate') n at) (First gate) buf)
    (λ o h reads. subst (λ (place : ℕ). ReadsOn (Got (First gate') n place) (First gate) buf o h)
    (sym c.place-at.ensures) (first_got gate gate' n buf o h reads))
    (told_all [] _ _
    (λ lines o h. (h ≡ o) × (IsAtGate lines gate o.file → JournalReads (GotFirst n) lines gate gate' buf o.file))
    c.in-Got.ensures.told))

pub returns-in-End-clause-told : goal.returns-in-End-clause-told
returns-in-End-clause-told g c =
    let told = g.D.Disk.told in
    let gate = c.in-First.journal in
    let gate' = c.next_line.new.self in
    let buf = c.next_line.new.buf in
    let is : c.args.self ≡ First gate = search rules in
    subst (λ (source : LogSource). WhereHistoryTold (told c.args.disk.now) (told c.next_line.new.disk)
    (ReadsOn (End (FirstEnd gate')) source buf)) (sym is)
    (told_so _ _
    (λ o h. (lines : List (List ℕ)) → (h ≡ o)
    × (IsAtGate lines gate o.file → JournalReads EndFirst lines gate gate' buf o.file))
    (ReadsOn (End (FirstEnd gate')) (First gate) buf) (first_end gate gate' buf)
    (told_all [] _ _
    (λ lines o h. (h ≡ o) × (IsAtGate lines gate o.file → JournalReads EndFirst lines gate gate' buf o.file))
    c.in-End.ensures.told))

pub returns-in-BadLog-clause-told : goal.returns-in-BadLog-clause-told
returns-in-BadLog-clause-told g c =
    let told = g.D.Disk.told in
    let gate = c.in-First.journal in
    let gate' = c.next_line.new.self in
    let buf = c.next_line.new.buf in
    let at = c.in-BadLog.at in
    let is : c.args.self ≡ First gate = search rules in
    subst (λ (source : LogSource). WhereHistoryTold (told c.args.disk.now) (told c.next_line.new.disk)
    (ReadsOn (Bad at) source buf)) (sym is)
    (told_so _ _
    (λ o h. (lines : List (List ℕ)) → (h ≡ o)
    × (IsAtGate lines gate o.file → JournalReads (BadFirst at) lines gate gate' buf o.file))
    (ReadsOn (Bad at) (First gate) buf) (first_bad gate gate' at buf)
    (told_all [] _ _
    (λ lines o h. (h ≡ o) × (IsAtGate lines gate o.file → JournalReads (BadFirst at) lines gate gate' buf o.file))
    c.in-BadLog.ensures.told))

pub returns-in-Failed-clause-told : goal.returns-in-Failed-clause-told
returns-in-Failed-clause-told g c =
    let told = g.D.Disk.told in
    let gate = c.in-First.journal in
    let gate' = c.next_line.new.self in
    let buf = c.next_line.new.buf in
    let is : c.args.self ≡ First gate = search rules in
    subst (λ (source : LogSource). WhereHistoryTold (told c.args.disk.now) (told c.next_line.new.disk)
    (ReadsOn Failed source buf)) (sym is)
    (told_so _ _
    (λ o h. (lines : List (List ℕ)) → (h ≡ o)
    × (IsAtGate lines gate o.file → JournalReads FailedFirst lines gate gate' buf o.file))
    (ReadsOn Failed (First gate) buf) (first_failed gate gate' buf)
    (told_all [] _ _
    (λ lines o h. (h ≡ o) × (IsAtGate lines gate o.file → JournalReads FailedFirst lines gate gate' buf o.file))
    c.in-Failed.ensures.told))

-- Of the second, whatever the reason is.
pub returns-in-Damaged-clause-told : goal.returns-in-Damaged-clause-told
returns-in-Damaged-clause-told g c =
    let told = g.D.Disk.told in
    let place = c.in-Second.reader in
    let part = c.in-Second.window in
    let place' = c.next_line-in-Second.new.self in
    let part' = c.next_line-in-Second.new.window in
    let buf = c.next_line-in-Second.new.buf in
    let at = c.in-Damaged.at in
    let reason = c.in-Damaged._reason in
    let is : c.args.self ≡ Second place part = search rules in
    subst (λ (source : LogSource). WhereHistoryTold (told c.args.disk.now) (told c.next_line-in-Second.new.disk)
    (ReadsOn (Bad at) source buf)) (sym is)
    (told_so _ _
    (ReadsThrough
    (λ file. (lines : List (List ℕ)) → HasRead lines place file → ReadsLine (Damaged at reason) lines place' buf file)
    part part')
    (ReadsOn (Bad at) (Second place part) buf) (second_bad place place' part part' at reason buf)
    c.in-Damaged.ensures.told)

-- In either the line ends farther on.
pub returns-in-Got-clause-onward : goal.returns-in-Got-clause-onward
returns-in-Got-clause-onward g c =
    let gate = c.in-First.journal in
    let gate' = c.next_line.new.self in
    let is : c.args.self ≡ First gate = search rules in
    let got = c.in-Got.ensures in
    let onward : (gate < gate') × (gate' ≤ 18446744073709551615) =
    (omega (arith, got.place, got.fits.0), omega (arith, got.place, got.within)) in
    subst (λ (source : LogSource). SourceGoesOn (Got (First gate') c.in-Got.n c.place-at.result) source) (sym is) onward

pub returns-in-Got-next_line-clause-onward : goal.returns-in-Got-next_line-clause-onward
returns-in-Got-next_line-clause-onward g c =
    let is : c.args.self ≡ Second c.in-Second.reader c.in-Second.window = search rules in
    subst (λ (source : LogSource). SourceGoesOn
    (Got (Second c.next_line-in-Second.new.self c.next_line-in-Second.new.window) c.in-Got-next_line.n
    c.gate-at.result) source) (sym is) c.in-Got-next_line.ensures.onward
