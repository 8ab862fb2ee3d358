-- What was read is a literal of that length, which is a value exactly where it is printed the same.
use Rattle.std.proofs.Common.{ℕ, List, Some, ◌-◌, ◌∙◌, length, drop, sym, ap, arith, length-drop}
use Rattle.std.proofs.lemmas.Bool.{cond-true, cond-false}
use Rattle.std.proofs.lemmas.List.{take_all}
use Rattle.djq_mirror.proofs.Spellings.{value_behind}
use Rattle.djq_mirror.proofs.cells.behind_value.Goals as goal

pub returns-then-branch : goal.returns-then-branch
returns-then-branch c =
    let bytes = c.args.bytes.now in
    let rest = drop c.in-Ok.len bytes in
    ap (λ (xs : List ℕ). Some xs)
    (take_all (length bytes - c.in-Ok.len) rest (omega (arith, length-drop c.in-Ok.len bytes)))
    ∙ sym (value_behind bytes c.in-Ok.value c.in-Ok.len c.in_ok-is_printed-in-Ok.field-0 c.in-Ok.ensures.0
    c.in-Ok.ensures.1 c.in_ok-is_printed-in-Ok.ensures
    ∙ cond-true _ _ _ c.if-branch.true)

pub returns-in-Ok : goal.returns-in-Ok
returns-in-Ok c =
    let bytes = c.args.bytes.now in
    sym (value_behind bytes c.in-Ok.value c.in-Ok.len c.in_ok-is_printed-in-Ok.field-0 c.in-Ok.ensures.0
    c.in-Ok.ensures.1 c.in_ok-is_printed-in-Ok.ensures
    ∙ cond-false _ _ _ c.if-branch.false)
