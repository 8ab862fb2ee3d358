use Rattle.std.proofs.Common.{◌≤◌, drop}
use Rattle.djq_value.proofs.Texts.{HasRead}
use Rattle.djq_value.proofs.quoted.text_end_from.Given as goal

abbrev pub invariant-loop-at : goal.invariant-loop-at
invariant-loop-at l = record {
  read : HasRead l.bytes l.len l.escape (drop l.at l.bytes);
  short : l.len ≤ l.at;
}
