-- The line that is to come next stands there, so no record is damaged within.
use Rattle.std.proofs.Common.{◌+◌, ◌-◌, ◌≤◌, ℕ, List, [], ◌∷◌, ◌++◌, take, drop, sym, ap, subst, arith}
use Rattle.djq_log_file.specs.Entries.{IsEntry}
use Rattle.djq_log_file.specs.Places.{ReadingPlace}
use Rattle.djq_log_file.specs.Standing.{HasRead, IsLastInRecord, ReadsLine}
use Rattle.djq_log_file.specs.declared.entry.Entry.TheVariants.{Line, NoLine, Short}
use Rattle.djq_log_file.specs.declared.reader.LogLine.TheVariants.{Damaged}
use Rattle.djq_log_file.specs.declared.damage.Damage.TheVariants.{Cut, Lines}
use Rattle.djq_log_file.proofs.Through.{reads_so}
use Rattle.djq_log_file.proofs.Reading.{line_read, line_stands, body_stands}
use Rattle.djq_log_file.proofs.reader.LogReader.read_line.Goals as goal

pub returns-in-Line-clause-told : goal.returns-in-Line-clause-told
returns-in-Line-clause-told g c =
    let at = c.self.inside.at in
    let left = c.self.inside.left in
    let digest = c.self.inside.digest in
    let gate = c.self.inside.gate in
    let place : ReadingPlace = record { at = at; left = left; digest = digest; gate = gate } in
    let n = c.in-Line.n in
    let buf = c.read_entry.new.buf in
    let some : 1 ≤ left = omega (arith, c.requires.some, ap (λ (w : ReadingPlace). w.left) c.self.view_is) in
    reads_so _ _ _ _ (λ file. IsEntry (Line n) left buf (drop at file))
    (λ file. (lines : List (List ℕ)) → HasRead lines c.args.self.now file → HasRead (lines ++ take n buf ∷ [])
    (record { at = at + (2 + n); left = left - (2 + n); digest = digest; gate = gate }) file
    × IsLastInRecord (lines ++ take n buf ∷ []) gate file)
    (λ file entry lines read. line_read lines n place buf file
    (subst (λ (w : ReadingPlace). HasRead lines w file) (sym c.self.view_is) read) some c.in-Line.ensures.fits.1 entry)
    c.in-Line.ensures.told

pub returns-in-NoLine-clause-told : goal.returns-in-NoLine-clause-told
returns-in-NoLine-clause-told g c =
    let at = c.self.inside.at in
    let left = c.self.inside.left in
    let place : ReadingPlace =
    record { at = at; left = left; digest = c.self.inside.digest; gate = c.self.inside.gate } in
    let buf = c.read_entry.new.buf in
    let some : 1 ≤ left = omega (arith, c.requires.some, ap (λ (w : ReadingPlace). w.left) c.self.view_is) in
    reads_so _ _ _ _ (λ file. IsEntry NoLine left buf (drop at file))
    (λ file. (lines : List (List ℕ)) → HasRead lines c.args.self.now file
    → ReadsLine (Damaged at Lines) lines c.args.self.now buf file)
    (λ file entry lines read. absurd (line_stands lines place buf file
    (subst (λ (w : ReadingPlace). HasRead lines w file) (sym c.self.view_is) read) some entry))
    c.in-NoLine.ensures.told

pub returns-in-Short-clause-told : goal.returns-in-Short-clause-told
returns-in-Short-clause-told g c =
    let at = c.self.inside.at in
    let left = c.self.inside.left in
    let place : ReadingPlace =
    record { at = at; left = left; digest = c.self.inside.digest; gate = c.self.inside.gate } in
    let buf = c.read_entry.new.buf in
    reads_so _ _ _ _ (λ file. IsEntry Short left buf (drop at file))
    (λ file. (lines : List (List ℕ)) → HasRead lines c.args.self.now file
    → ReadsLine (Damaged at Cut) lines c.args.self.now buf file)
    (λ file entry lines read. absurd (body_stands lines place buf file
    (subst (λ (w : ReadingPlace). HasRead lines w file) (sym c.self.view_is) read) entry))
    c.in-Short.ensures.told
