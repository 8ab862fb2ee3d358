-- At a gate stands the record that is entered, or the end of the log, or damage.
use Rattle.std.proofs.Common.{◌+◌, ℕ, List, drop, sym, subst, arith}
use Rattle.djq_log_file.specs.Entries.{StandsAtGate}
use Rattle.djq_log_file.specs.Places.{ReadingPlace}
use Rattle.djq_log_file.specs.Standing.{HasRead, EntersRecord}
use Rattle.djq_log_file.specs.declared.record.Found.TheVariants.{Group, End, Bad}
use Rattle.djq_log_file.proofs.Through.{reads_so}
use Rattle.djq_log_file.proofs.Reading.{record_entered, log_ended, log_damaged}
use Rattle.djq_log_file.proofs.reader.LogReader.enter.Goals as goal

pub returns-in-Group-clause-told : goal.returns-in-Group-clause-told
returns-in-Group-clause-told g c =
    let at = c.self.inside.at in
    let digest = c.self.inside.digest in
    let size = c.in-Group.size in
    let after = c.in-Group.digest in
    let place : ReadingPlace = record { at = at; left = c.self.inside.left; digest = digest; gate = c.self.inside.gate } in
    reads_so _ _ _ _ (λ file. StandsAtGate (Group size after) digest (drop at file))
    (λ file. (lines : List (List ℕ)) → HasRead lines c.args.self.now file
    → HasRead lines (record { at = at + 17; left = size; digest = after; gate = at }) file)
    (λ file found lines read. record_entered lines found.0 size after place file
    (subst (λ (w : ReadingPlace). HasRead lines w file) (sym c.self.view_is) read)
    (omega (arith, c.if-self-ne0.false)) found.1 found.2 found.3)
    c.in-Group.ensures.told

pub returns-in-End-clause-told : goal.returns-in-End-clause-told
returns-in-End-clause-told g c =
    let at = c.self.inside.at in
    let digest = c.self.inside.digest in
    let place : ReadingPlace = record { at = at; left = c.self.inside.left; digest = digest; gate = c.self.inside.gate } in
    reads_so _ _ _ _ (λ file. StandsAtGate End digest (drop at file))
    (λ file. (lines : List (List ℕ)) → HasRead lines c.args.self.now file → EntersRecord End lines c.args.self.now file)
    (λ file found lines. subst (λ (w : ReadingPlace). HasRead lines w file → EntersRecord End lines w file) c.self.view_is
    (λ read. (read, log_ended lines place file read (omega (arith, c.if-self-ne0.false)) found)))
    c.in-End.ensures.told

pub returns-in-Bad-clause-told : goal.returns-in-Bad-clause-told
returns-in-Bad-clause-told g c =
    let at = c.self.inside.at in
    let digest = c.self.inside.digest in
    let reason = c.in-Bad.reason in
    let place : ReadingPlace = record { at = at; left = c.self.inside.left; digest = digest; gate = c.self.inside.gate } in
    reads_so _ _ _ _ (λ file. StandsAtGate (Bad reason) digest (drop at file))
    (λ file. (lines : List (List ℕ)) → HasRead lines c.args.self.now file → EntersRecord (Bad reason) lines c.args.self.now file)
    (λ file found lines. subst (λ (w : ReadingPlace). HasRead lines w file → EntersRecord (Bad reason) lines w file) c.self.view_is
    (λ read. (read, log_damaged lines place reason file read (omega (arith, c.if-self-ne0.false)) found.0 found.1)))
    c.in-Bad.ensures.told
