-- The tests up to the index and the one there hold of the tuple, and past the end these are all.
use Rattle.std.proofs.Common.{◌≡◌, ◌≤◌, List, length, sym, ap, ◌∙◌, arith}
use Rattle.djq_query.specs.declared.pattern.Test.{Test}
use Rattle.djq_query.specs.Pattern.{Shape}
use Rattle.djq_query.proofs.Atoms.{tests_more, tests_all}
use Rattle.djq_query.proofs.pattern.Pattern.passes.Goals as goal

pub tests-preserved : goal.tests-preserved
tests-preserved c =
    let same : c.as_slice-tests.result.now ≡ c.args.self.now.tests = c.as_slice-tests.ensures
    ∙ ap (λ (n : Shape). n.tests) c.self.view_is in
    tests_more c.args.tuple.now c.args.self.now.tests c.as_slice-tests.result.now c.tests.i same c.tests-test.true
    (sym c.passes.ensures ∙ c.if-not-passes.false) c.tests.invariant

pub returns : goal.returns
returns c =
    let same : c.as_slice-tests.result.now ≡ c.args.self.now.tests = c.as_slice-tests.ensures
    ∙ ap (λ (n : Shape). n.tests) c.self.view_is in
    let past : length c.args.self.now.tests ≤ c.tests.i = omega
    (arith, c.tests-test.false, ap (λ (l : List Test). length l) same) in
    tests_all c.args.tuple.now c.args.self.now.tests c.tests.i past c.tests.invariant
