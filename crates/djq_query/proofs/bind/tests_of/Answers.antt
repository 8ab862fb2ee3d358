-- A comparison is one test where its variable is a member, and none elsewhere; past the end none is to come.
use Rattle.std.proofs.Common.{◌+◌, ◌∙◌, ap, sym, List, ◌++◌, [], drop, append-nil}
use Rattle.smallvec.specs.SmallVec.{SmallVec}
use Rattle.djq_query.specs.declared.pattern.Test.{Test}
use Rattle.djq_query.specs.Pattern.{tests_of}
use Rattle.djq_query.proofs.Atoms.{test_found, test_missed, tests_on, tests_over}
use Rattle.djq_query.proofs.bind.tests_of.Goals.{in-Some+in_ok-push, in_default}
use Rattle.djq_query.proofs.bind.tests_of.Goals as goal

pub comparisons-preserved : goal.comparisons-preserved
comparisons-preserved c =
    let members = c.args.members.now in
    let comparisons = c.args.comparisons.now in
    let constants = c.args.constants.now in
    let i = c.comparisons.i in
    let comparison = c.index-comparisons-i.result in
    let rest = λ (ts : List Test). ts ++ tests_of members (drop (i + 1) comparisons) (drop (i + 1) constants) in
    elim c.match-find.branch [
      | in-Some+in_ok-push w ↦
          ap rest (ap (λ (v : SmallVec Test). v.items) w.tests-is ∙ w.in_ok-push.ensures.ok)
          ∙ tests_on c.comparisons.tests.items _ members comparisons constants i comparison c.comparisons-test.true c.requires
          c.index-comparisons-i.is
          (test_found members comparison _ w.in-Some.place c.find.result c.find.ensures w.in-Some.is)
          ∙ c.comparisons.invariant
      | in_default w ↦
          ap rest (ap (λ (v : SmallVec Test). v.items) w.tests-is ∙ sym (append-nil c.comparisons.tests.items))
          ∙ tests_on c.comparisons.tests.items [] members comparisons constants i comparison c.comparisons-test.true
          c.requires c.index-comparisons-i.is
          (test_missed members comparison _ c.find.result c.find.ensures w.in_default.is)
          ∙ c.comparisons.invariant
    ]

pub returns : goal.returns
returns c = sym (tests_over c.comparisons.tests.items c.args.members.now c.args.comparisons.now c.args.constants.now
    c.comparisons.i c.comparisons-test.false) ∙ c.comparisons.invariant
