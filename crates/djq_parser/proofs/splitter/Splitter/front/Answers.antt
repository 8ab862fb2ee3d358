-- Where the first 4,098 bytes have no LF, whether they are too long says it of the line, however it goes on.
use Rattle.std.proofs.Common.{◌∙◌, ◌≡◌, sym, subst, ℕ, take, true, false}
use Rattle.djq_protocol.specs.Line.{is_long}
use Rattle.djq_parser.proofs.RowLines.{front_of-no_lf_long, front_of-no_lf_dry, no_lf_from_search}
use Rattle.djq_parser.proofs.splitter.Splitter.front.Goals as goal

pub returns-in-None : goal.returns-in-None
returns-in-None c =
    let held = c.args.bytes.now in
    front_of-no_lf_long held
    (no_lf_from_search held c.min.result c.min.ensures c.in-None.ensures)
    (subst (λ (n : ℕ). is_long (take n held) ≡ true) c.min.ensures (sym c.is_long.ensures ∙ c.if-is_long.true))

pub returns-in-None-2 : goal.returns-in-None-2
returns-in-None-2 c =
    let held = c.args.bytes.now in
    front_of-no_lf_dry held
    (no_lf_from_search held c.min.result c.min.ensures c.in-None.ensures)
    (subst (λ (n : ℕ). is_long (take n held) ≡ false) c.min.ensures (sym c.is_long.ensures ∙ c.if-is_long.false))
