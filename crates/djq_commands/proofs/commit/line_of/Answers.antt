-- An entry of one line has it at 0, and one of a batch has the batch's.
use Rattle.std.proofs.Common.{◌≡◌, ◌∙◌, ◌∷◌, [], None, Some, refl, sym, ap, subst, ℕ}
use Rattle.std.specs.Prelude.{slice_get, slice_range}
use Rattle.djq_commands.specs.declared.commit.Entry.{Entry}
use Rattle.djq_commands.specs.Logging.{entry_lines}
use Rattle.djq_commands.proofs.CommitLines.{past_one}
use Rattle.djq_commands.proofs.commit.line_of.Goals as goal

pub returns-then-nth-eq0 : goal.returns-then-nth-eq0
returns-then-nth-eq0 c =
    subst (λ (e : Entry). Some (slice_range c.args.bytes.now c.in-Line.start c.in-Line.end)
    ≡ slice_get (entry_lines c.args.bytes.now e) c.args.nth) (sym c.in-Line.is)
    (subst (λ (n : ℕ). Some (slice_range c.args.bytes.now c.in-Line.start c.in-Line.end)
    ≡ slice_get (slice_range c.args.bytes.now c.in-Line.start c.in-Line.end ∷ []) n) (sym c.if-nth-eq0.true) refl)

pub returns-else-nth-eq0 : goal.returns-else-nth-eq0
returns-else-nth-eq0 c =
    subst (λ (e : Entry). None ≡ slice_get (entry_lines c.args.bytes.now e) c.args.nth) (sym c.in-Line.is)
    (past_one (slice_range c.args.bytes.now c.in-Line.start c.in-Line.end) c.args.nth c.if-nth-eq0.false)

pub returns-in-Batch : goal.returns-in-Batch
returns-in-Batch c =
    c.line.ensures
    ∙ ap (λ (e : Entry). slice_get (entry_lines c.args.bytes.now e) c.args.nth) (sym c.in-Batch.is)
