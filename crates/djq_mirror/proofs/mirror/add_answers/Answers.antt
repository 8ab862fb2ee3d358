-- The lines so far are those of the first answers, and where memory is wanting they stand behind the old text.
use Rattle.std.proofs.Common.{◌≡◌, ◌∙◌, [], ap, codes, length, rules, take}
use Rattle.djq_mirror.proofs.Spellings.{adds_err, begun_front, end_added}
use Rattle.djq_mirror.proofs.mirror.add_answers.Goals as goal

pub returns-in_err-add_answer : goal.returns-in_err-add_answer
returns-in_err-add_answer c =
    adds_err c.args.out.now.items _ c.add_answer.new.out.items c.from_residual.result c.from_residual.ensures.0
    (ap (take (length c.args.out.now.items)) c.in_err-add_answer.ensures ∙ begun_front _ _ _ _ c.loop-text.invariant)

pub returns : goal.returns
returns c =
    let over : c.loop-text.text-iterator ≡ [] = first_of (search rules, cc) in
    end_added c.args.out.now.items c.loop-text.out c.put.new.out (codes "end\n") c.args.texts.now.keys
    c.loop-text.text-iterator c.put.result over
    c.loop-text.invariant c.put.ensures
