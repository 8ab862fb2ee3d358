-- What is written and what is gathered make up the records of the lines so far, all behind the gate.
use Rattle.std.proofs.Common.{◌≡◌, ◌+◌, ◌-◌, ◌≤◌, ℕ, List, [], ◌∷◌, ◌++◌, length, take, drop, refl, sym, ap, subst, ◌∙◌, true}
use Rattle.std.proofs.Common.{arith, length-take, length-drop, length-append}
use borrow.Rule.Slice.PartMut.{put_mid}
use Rattle.std.proofs.lemmas.Slice.{take-put_mid}
use Rattle.std.proofs.lemmas.Option.{slice_get_within}
use Rattle.djq_disk.specs.History.{WhereHistoryTold, DiskWrites}
use Rattle.djq_disk.specs.Leaving.{LeavesSince}
use Rattle.djq_disk.specs.declared.disk.DiskDid.TheVariants.{Done, Failed}
use Rattle.djq_disk.proofs.Files.{told_none, told_both}
use Rattle.djq_journal.specs.Format.{body_of, FileOpensTo}
use Rattle.djq_journal.specs.Standing.{IsIdle}
use Rattle.djq_journal.specs.Staging.{Stages, IsStaged, StagesLines}
use Rattle.djq_journal.specs.Passing.{HasPassed}
use Rattle.djq_journal.specs.declared.limits.TheConstants.{PIECE_BYTES}
use Rattle.djq_journal.proofs.Appends.{staged_none, staged_write, staged_more, staged_all, goes_none, goes_both, goes_write}
use Rattle.djq_journal.proofs.Records.{line_at, few_lines, piece_within, gathers_none, gathers_end, gathers_written}
use Rattle.djq_journal.proofs.Records.{gathers_still, gathers_line, gathers_all}
use Rattle.djq_journal.proofs.appending.write_records.Goals as goal
use Rattle.djq_journal.proofs.appending.write_records.Goals.{then-filled-size+in-Done, else-filled-size}

pub loop-line-init : goal.loop-line-init
loop-line-init g c = record {
  size = refl;
  within = omega arith;
  written = [];
  gathers = gathers_none (g.G.Group.lines c.args.group.now) c.args.gate (c.args.gate + 1) (omega arith);
  is_open = c.requires.is_open;
  told = λ lines. told_none (g.D.Disk.told c.args.disk.now)
      (λ o n. IsIdle lines c.args.gate o.file → Stages lines c.args.gate [] o n)
      (λ o idle. staged_none lines c.args.gate o idle);
  moments = told_none (g.D.Disk.told c.args.disk.now) HasPassed goes_none;
  faults = refl;
}

pub write_at-requires-clause-place : goal.write_at-requires-clause-place
write_at-requires-clause-place g c =
    let inv = c.loop-line.invariant in
    piece_within _ _ _ _ (omega (arith, gathers_end _ _ _ _ _ _ inv.gathers, inv.size, c.requires.room))

pub overflow_add-at-in-Done : goal.overflow_add-at-in-Done
overflow_add-at-in-Done g c =
    let inv = c.loop-line.invariant in
    omega (arith, gathers_end _ _ _ _ _ _ inv.gathers, inv.within, c.requires.room)

-- Each write is behind the gate.
pub returns-in-Failed-clause-told : goal.returns-in-Failed-clause-told
returns-in-Failed-clause-told g c lines =
    let inv = c.loop-line.invariant in
    let at = c.loop-line.at in
    let gate = c.args.gate in
    let piece = take c.loop-line.filled c.loop-line.buf in
    told_both _ _ _ (λ o m. IsIdle lines gate o.file → Stages lines gate inv.written o m) (DiskWrites Failed at piece)
    (λ o n. IsIdle lines gate o.file → LeavesSince (FileOpensTo lines) o n)
    (λ o m n stages writes idle.
    (staged_write Failed at piece lines gate inv.written o m n idle (stages idle) (omega (arith, inv.gathers.place))
    writes).1)
    (inv.told lines) c.in-Failed.ensures.told

pub slice_bounds-buf-end-in-Some : goal.slice_bounds-buf-end-in-Some
slice_bounds-buf-end-in-Some g c =
    let short = (line_at (g.G.Group.lines c.args.group.now) c.loop-line.i c.in-Some.line.now c.requires.lines
    c.in-Some.ensures).1 in
    elim c.if-filled-size.branch [
      | then-filled-size+in-Done w ↦ omega (arith, short, w.filled-is)
      | else-filled-size w ↦ omega (arith, w.filled-is, w.if-filled-size, c.loop-line.invariant.within)
    ]

pub overflow_add-i : goal.overflow_add-i
overflow_add-i g c =
    let group = g.G.Group.lines c.args.group.now in
    let within = slice_get_within group c.loop-line.i c.in-Some.line.now (sym c.in-Some.ensures) in
    omega (arith, within, few_lines c.args.gate group, c.requires.room)

pub lay_out-requires-clause-short : goal.lay_out-requires-clause-short
lay_out-requires-clause-short g c =
    (line_at (g.G.Group.lines c.args.group.now) c.loop-line.i c.in-Some.line.now c.requires.lines c.in-Some.ensures).1

pub overflow_add-i-in-Some : goal.overflow_add-i-in-Some
overflow_add-i-in-Some g c =
    let group = g.G.Group.lines c.args.group.now in
    let within = slice_get_within group c.loop-line.i c.in-Some.line.now (sym c.in-Some.ensures) in
    omega (arith, within, few_lines c.args.gate group, c.requires.room)

pub loop-line-smaller : goal.loop-line-smaller
loop-line-smaller g c =
    let within = slice_get_within (g.G.Group.lines c.args.group.now) c.loop-line.i c.in-Some.line.now
    (sym c.in-Some.ensures) in
    omega (arith, within)

-- What was gathered was written or not, and the line is gathered behind what is.
pub loop-line-preserved : goal.loop-line-preserved
loop-line-preserved g c =
    let inv = c.loop-line.invariant in
    let group = g.G.Group.lines c.args.group.now in
    let told = g.D.Disk.told in
    let i = c.loop-line.i in
    let gate = c.args.gate in
    let buf = c.loop-line.buf in
    let line = c.in-Some.line.now in
    let next = c.gate_before.result in
    let short = (line_at group i line c.requires.lines c.in-Some.ensures).1 in
    let old = c.loop-line.filled in
    let disk = c.if-filled-size.disk in
    let at = c.if-filled-size.at in
    let filled = c.if-filled-size.filled in
    let size = 3 + length line in
    let so_far : (written : List ℕ) × StagesLines group i gate at written (take filled buf)
    × ((lines : List (List ℕ))
    → WhereHistoryTold (told c.args.disk.now) (told disk)
    (λ o n. IsIdle lines gate o.file → Stages lines gate written o n))
    × WhereHistoryTold (told c.args.disk.now) (told disk) HasPassed
    × (g.D.Disk.faults disk ≡ g.D.Disk.faults c.args.disk.now) = elim c.if-filled-size.branch [
      | then-filled-size+in-Done w ↦ (
        inv.written ++ take old buf,
        gathers_written group i gate c.loop-line.at at old filled inv.written buf w.at-is w.filled-is
            (omega (arith, inv.size, inv.within)) inv.gathers,
        (λ lines. rw w.disk-is
            (told_both (told c.args.disk.now) (told c.loop-line.disk) (told w.write_at.new.self)
            (λ o m. IsIdle lines gate o.file → Stages lines gate inv.written o m)
            (DiskWrites Done c.loop-line.at (take old buf))
            (λ o n. IsIdle lines gate o.file → Stages lines gate (inv.written ++ take old buf) o n)
            (λ o m n stages writes idle. staged_more c.loop-line.at (take old buf) lines gate inv.written o m n idle
            (stages idle) inv.gathers.place writes)
            (inv.told lines) w.in-Done.ensures.told)),
        rw w.disk-is
            (told_both (told c.args.disk.now) (told c.loop-line.disk) (told w.write_at.new.self) HasPassed
            (DiskWrites Done c.loop-line.at (take old buf)) HasPassed
            (λ o m n gone writes. goes_both o m n gone (goes_write Done c.loop-line.at (take old buf) m n writes))
            inv.moments w.in-Done.ensures.told),
        ap g.D.Disk.faults w.disk-is ∙ w.in-Done.ensures.faults ∙ inv.faults,
      )
      | else-filled-size w ↦ (
        inv.written,
        gathers_still group i gate c.loop-line.at at old filled inv.written buf w.at-is w.filled-is inv.gathers,
        (λ lines. rw w.disk-is (inv.told lines)),
        rw w.disk-is inv.moments,
        ap g.D.Disk.faults w.disk-is ∙ inv.faults,
      )
    ] in
    let is_open : g.D.Disk.is_open disk ≡ true = elim c.if-filled-size.branch [
      | then-filled-size+in-Done w ↦ ap g.D.Disk.is_open w.disk-is ∙ w.in-Done.ensures.is_open
      | else-filled-size w ↦ ap g.D.Disk.is_open w.disk-is ∙ inv.is_open
    ] in
    let room : filled + size ≤ PIECE_BYTES = elim c.if-filled-size.branch [
      | then-filled-size+in-Done w ↦ omega (arith, short, w.filled-is)
      | else-filled-size w ↦ omega (arith, w.filled-is, w.if-filled-size, inv.within)
    ] in
    let got = c.lay_out.new.buf in
    let piece : List ℕ = body_of line ++ next ∷ [] in
    let after = put_mid filled (filled + size - filled) buf got in
    let long : length got
    ≡ size = omega (arith, ap length c.lay_out.ensures, length-append (body_of line) (next ∷ [])) in
    let laid : take (filled + size) after ≡ take filled buf ++ piece =
    take-put_mid filled (filled + size - filled) buf got (filled + size) (omega (arith, long))
    (omega (arith, inv.size, room))
    ∙ ap (λ (xs : List ℕ). take filled buf ++ xs) c.lay_out.ensures in
    let rest = drop (filled + size - filled) (drop filled buf) in
    record {
      size = omega (
        arith,
        inv.size,
        room,
        long,
        length-append (take filled buf) (got ++ rest),
        length-append got rest,
        length-take filled buf,
        length-drop (filled + size - filled) (drop filled buf),
        length-drop filled buf,
      );
      within = room;
      written = so_far.0;
      gathers = subst (λ (xs : List ℕ). StagesLines group (i + 1) gate at so_far.0 xs) (sym laid)
          (gathers_line group i line next gate at so_far.0 (take filled buf) c.in-Some.ensures c.gate_before.ensures
          so_far.1);
      is_open = is_open;
      told = so_far.2;
      moments = so_far.3;
      faults = so_far.4;
    }

pub write_at-requires-2-clause-place : goal.write_at-requires-2-clause-place
write_at-requires-2-clause-place g c =
    let inv = c.loop-line.invariant in
    piece_within _ _ _ _ (omega (arith, gathers_end _ _ _ _ _ _ inv.gathers, inv.size, c.requires.room))

-- What is left is written behind what was.
pub returns-clause-told : goal.returns-clause-told
returns-clause-told g c lines =
    let inv = c.loop-line.invariant in
    let at = c.loop-line.at in
    let gate = c.args.gate in
    let group = g.G.Group.lines c.args.group.now in
    let piece = take c.loop-line.filled c.loop-line.buf in
    let did = c.write_at-2.result in
    told_both _ _ _ (λ o m. IsIdle lines gate o.file → Stages lines gate inv.written o m) (DiskWrites did at piece)
    (λ o n. IsIdle lines gate o.file → IsStaged did lines gate group o n)
    (λ o m n stages writes idle. staged_all did at piece lines group gate inv.written o m n idle (stages idle)
    inv.gathers.place
    (gathers_all group c.loop-line.i gate at inv.written piece c.in_default.ensures inv.gathers) writes)
    (inv.told lines) c.write_at-2.ensures.told

-- Each write is a moment.
pub returns-clause-moments : goal.returns-clause-moments
returns-clause-moments g c =
    let at = c.loop-line.at in
    let piece = take c.loop-line.filled c.loop-line.buf in
    let did = c.write_at-2.result in
    told_both _ _ _ HasPassed (DiskWrites did at piece) HasPassed
    (λ o m n gone writes. goes_both o m n gone (goes_write did at piece m n writes))
    c.loop-line.invariant.moments c.write_at-2.ensures.told

pub returns-in-Failed-clause-moments : goal.returns-in-Failed-clause-moments
returns-in-Failed-clause-moments g c =
    let at = c.loop-line.at in
    let piece = take c.loop-line.filled c.loop-line.buf in
    told_both _ _ _ HasPassed (DiskWrites Failed at piece) HasPassed
    (λ o m n gone writes. goes_both o m n gone (goes_write Failed at piece m n writes))
    c.loop-line.invariant.moments c.in-Failed.ensures.told
