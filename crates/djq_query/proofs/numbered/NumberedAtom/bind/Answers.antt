-- The label rises and has the terms' variables and no others, so every place of a tuple is at some column.
use Rattle.std.proofs.Common.{◌≡◌, ◌∙◌, ap, ap₂, List, ℕ}
use Rattle.djq_query.specs.declared.numbered.NumberedTerm.{NumberedTerm}
use Rattle.djq_query.specs.Pattern.{bound, tests_of}
use Rattle.djq_query.proofs.Atoms.{pattern_of}
use Rattle.djq_query.proofs.numbered.NumberedAtom.bind.Goals as goal

pub new-requires : goal.new-requires
new-requires c =
    let told : c.in_ok-slots.slots.items ≡ bound c.args.label c.args.self.now.terms c.args.cells.now =
    c.in_ok-slots.ensures
    ∙ ap₂ (λ (l : List ℕ) (ts : List NumberedTerm). bound l ts c.args.cells.now)
    (c.as_slice.ensures ∙ c.members-members.ensures) c.as_slice-2.ensures in
    let tested : c.in_ok-tests.tests.items ≡ tests_of c.args.label c.args.comparisons.now c.args.constants.now =
    c.in_ok-tests.ensures
    ∙ ap (λ (l : List ℕ). tests_of l c.args.comparisons.now c.args.constants.now)
    (c.as_slice-3.ensures ∙ c.members-members.ensures) in
    pattern_of c.args.label c.args.self.now.terms c.args.cells.now c.args.comparisons.now c.args.constants.now
    c.len.result c.in_ok-slots.slots.items c.in_ok-tests.tests.items c.rises.ensures.rising c.requires.narrow c.requires.cells
    c.requires.label c.len.ensures told tested
