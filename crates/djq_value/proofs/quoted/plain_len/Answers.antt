-- A byte that needs no escape stands for itself, so one more byte is put in front of what is read behind.
use Rattle.std.proofs.Common.{arith, sym, ◌∙◌}
use Rattle.djq_value.proofs.Texts.{plain_more}
use Rattle.djq_value.proofs.quoted.plain_len.Goals as goal

pub plain-preserved : goal.plain-preserved
plain-preserved c = record {
  within = omega (arith, c.plain-test.true);
  read = plain_more c.args.bytes.now c.plain.len c.plain-test.true (sym c.is_escaped.ensures ∙ c.if-not-is_escaped.true)
      c.plain.invariant.read;
}
