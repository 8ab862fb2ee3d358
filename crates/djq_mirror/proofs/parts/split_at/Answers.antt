-- The sign that was found is the first one, so no such sign is before it; or there is none at all.
use Rattle.std.proofs.Common.{ℕ, List, ◌-◌, ◌+◌, ◌∙◌, Some, length, drop, sym, ap, arith, length-drop}
use Rattle.std.proofs.lemmas.List.{take_all}
use Rattle.djq_mirror.proofs.Spellings.{split_first, split_none}
use Rattle.djq_mirror.proofs.parts.split_at.Goals as goal

pub returns-in-Some-clause-before : goal.returns-in-Some-clause-before
returns-in-Some-clause-before c = sym (split_first c.args.sign c.args.bytes.now c.in-Some.at c.in-Some.ensures).0

pub returns-in-Some-clause-behind : goal.returns-in-Some-clause-behind
returns-in-Some-clause-behind c =
    let bytes = c.args.bytes.now in
    let rest = drop (c.in-Some.at + 1) bytes in
    ap (λ (xs : List ℕ). Some xs)
    (take_all (length bytes - (c.in-Some.at + 1)) rest (omega (arith, length-drop (c.in-Some.at + 1) bytes)))
    ∙ sym (split_first c.args.sign bytes c.in-Some.at c.in-Some.ensures).1

pub returns-in-None-clause-before : goal.returns-in-None-clause-before
returns-in-None-clause-before c = sym (split_none c.args.sign c.args.bytes.now c.in-None.ensures).0

pub returns-in-None-clause-behind : goal.returns-in-None-clause-behind
returns-in-None-clause-behind c = sym (split_none c.args.sign c.args.bytes.now c.in-None.ensures).1
