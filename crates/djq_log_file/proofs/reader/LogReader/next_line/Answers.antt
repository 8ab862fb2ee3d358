-- What was found at the gate, or the next line of the record.
use Rattle.std.proofs.Common.{ℕ, List, sym, ap, subst, ◌∙◌}
use Rattle.djq_log_file.specs.Places.{ReadingPlace, LogEndPlace}
use Rattle.djq_log_file.specs.Standing.{HasRead, EntersRecord, EndsRead, IsDamagedAt}
use Rattle.djq_log_file.specs.declared.record.Found.TheVariants.{End as Ends, Bad}
use Rattle.djq_log_file.proofs.Through.{reads_so}
use Rattle.djq_log_file.proofs.Reading.{end_of_reading}
use Rattle.djq_log_file.proofs.reader.LogReader.next_line.Goals as goal

pub returns-in-End-clause-told : goal.returns-in-End-clause-told
returns-in-End-clause-told g c =
    let old = c.args.self.now in
    let new = c.enter.new.self in
    let end = c.new.result in
    reads_so _ _ _ _ (λ file. (lines : List (List ℕ)) → HasRead lines old file → EntersRecord Ends lines new file)
    (λ file. (lines : List (List ℕ)) → HasRead lines old file → HasRead lines new file × EndsRead lines end file)
    (λ file found lines read.
    let got = found lines read in (
      got.0,
      subst (λ (w : LogEndPlace). EndsRead lines w file)
          (sym (c.new.ensures ∙ ap end_of_reading c.self.view_is)) got.1,
    ))
    c.in-End.ensures.told

pub returns-in-Bad-clause-told : goal.returns-in-Bad-clause-told
returns-in-Bad-clause-told g c =
    let old = c.args.self.now in
    let new = c.enter.new.self in
    let reason = c.in-Bad.reason in
    let at = c.self-in-Bad.inside.at in
    reads_so _ _ _ _ (λ file. (lines : List (List ℕ)) → HasRead lines old file → EntersRecord (Bad reason) lines new file)
    (λ file. (lines : List (List ℕ)) → HasRead lines old file → HasRead lines new file × IsDamagedAt lines at reason file)
    (λ file found lines read.
    let got = found lines read in (
      got.0,
      subst (λ (n : ℕ). IsDamagedAt lines n reason file)
          (sym (ap (λ (w : ReadingPlace). w.at) c.self-in-Bad.view_is)) got.1,
    ))
    c.in-Bad.ensures.told
