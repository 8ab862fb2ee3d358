-- The entry of each line is laid behind those before it.
use Rattle.std.proofs.Common.{◌+◌, ℕ, List, [], ◌++◌, length, take, refl, sym, ap, subst, ◌∙◌, arith, append-nil}
use Rattle.std.proofs.lemmas.Option.{slice_get_within}
use Rattle.djq_disk.specs.History.{WhereHistoryTold}
use Rattle.djq_disk.specs.declared.disk.DiskDid.TheVariants.{Done, Failed}
use Rattle.djq_disk.proofs.Files.{told_none, told_both}
use Rattle.djq_log_format.specs.Format.{line_entry, record_body}
use Rattle.djq_log_format.proofs.Measuring.{body_next}
use Rattle.djq_log_file.specs.Laying.{LaysMore, end_of_gathering}
use Rattle.djq_log_file.proofs.Laid.{lays_gathered, lays_both, lays_failed}
use Rattle.djq_log_file.proofs.Lines.{line_fits, taken_line, taken_body, past_lines, body_most}
use Rattle.djq_log_file.proofs.appending.put_lines.Goals as goal

pub loop-line-init : goal.loop-line-init
loop-line-init g c =
    let writer = c.args.writer.now in
    record {
      end = omega arith;
      few = omega arith;
      is_open = c.requires.is_open;
      told = told_none (g.D.Disk.told c.args.disk.now) (LaysMore Done [] writer writer)
          (λ o. lays_gathered [] writer writer o refl (sym (append-nil writer.gathered)));
      faults = refl;
    }

pub put_line-requires-clause-short : goal.put_line-requires-clause-short
put_line-requires-clause-short g c =
    (line_fits (g.G.Group.lines c.args.group.now) c.loop-line.i c.in-Some.line.now c.requires.lines c.in-Some.ensures).1

pub put_line-requires-clause-place : goal.put_line-requires-clause-place
put_line-requires-clause-place g c =
    let lines = g.G.Group.lines c.args.group.now in
    let next = taken_body lines c.loop-line.i c.in-Some.line.now c.in-Some.ensures in
    let most = body_most lines (c.loop-line.i + 1) in
    omega (arith, next, most, c.loop-line.invariant.end, c.requires.place)

pub overflow_add-i : goal.overflow_add-i
overflow_add-i g c =
    let lines = g.G.Group.lines c.args.group.now in
    let next = taken_body lines c.loop-line.i c.in-Some.line.now c.in-Some.ensures in
    let most = body_most lines (c.loop-line.i + 1) in
    omega (arith, next, most, c.loop-line.invariant.few, c.requires.place)

pub loop-line-smaller : goal.loop-line-smaller
loop-line-smaller g c =
    let within = slice_get_within (g.G.Group.lines c.args.group.now) c.loop-line.i c.in-Some.line.now
    (sym c.in-Some.ensures) in
    omega (arith, within)

pub loop-line-preserved : goal.loop-line-preserved
loop-line-preserved g c =
    let lines = g.G.Group.lines c.args.group.now in
    let i = c.loop-line.i in
    let line = c.in-Some.line.now in
    let inv = c.loop-line.invariant in
    let next = taken_body lines i line c.in-Some.ensures in
    let first = c.args.writer.now in
    let old = c.loop-line.writer in
    let new = c.put_line.new.self in
    record {
      end = omega (arith, next, inv.end, c.in-Done.ensures.end);
      few = omega (arith, next, inv.few);
      is_open = c.in-Done.ensures.is_open;
      told = told_both _ _ _ (LaysMore Done (record_body (take i lines)) first old) (LaysMore Done (line_entry line) old new)
          (LaysMore Done (record_body (take (i + 1) lines)) first new)
          (λ o m n p q. lays_both Done (record_body (take i lines)) (line_entry line) (record_body (take (i + 1) lines))
          first old new o m n
          (sym (ap (λ (ls : List (List ℕ)). record_body ls) (taken_line lines i line c.in-Some.ensures)
          ∙ body_next (take i lines) line)) p q)
          inv.told c.in-Done.ensures.told;
      faults = c.in-Done.ensures.faults ∙ inv.faults;
    }

pub returns-in-Failed-clause-told : goal.returns-in-Failed-clause-told
returns-in-Failed-clause-told g c =
    let lines = g.G.Group.lines c.args.group.now in
    let i = c.loop-line.i in
    let entry = line_entry c.in-Some.line.now in
    let first = c.args.writer.now in
    let old = c.loop-line.writer in
    let new = c.put_line.new.self in
    told_both _ _ _ (LaysMore Done (record_body (take i lines)) first old) (LaysMore Failed entry old new)
    (LaysMore Failed (record_body lines) first new)
    (λ o m n p q. lays_failed (record_body (take i lines) ++ entry) (record_body lines) first new new o n
    (lays_both Failed (record_body (take i lines)) entry (record_body (take i lines) ++ entry) first old new o m n refl p q))
    c.loop-line.invariant.told c.in-Failed.ensures.told

pub returns-clause-told : goal.returns-clause-told
returns-clause-told g c =
    let lines = g.G.Group.lines c.args.group.now in
    let all = past_lines lines c.loop-line.i c.in_default.ensures in
    subst (λ (ls : List (List ℕ)). WhereHistoryTold (g.D.Disk.told c.args.disk.now) (g.D.Disk.told c.loop-line.disk)
    (LaysMore Done (record_body ls) c.args.writer.now c.loop-line.writer)) all c.loop-line.invariant.told

pub returns-clause-end : goal.returns-clause-end
returns-clause-end g c =
    let all = past_lines (g.G.Group.lines c.args.group.now) c.loop-line.i c.in_default.ensures in
    c.loop-line.invariant.end
    ∙ ap (λ (ls : List (List ℕ)). end_of_gathering c.args.writer.now + length (record_body ls)) all
