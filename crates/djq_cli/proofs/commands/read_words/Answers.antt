-- The command set is simple and no argument has a rule on another, so the words alone say its faults.
use Rattle.std.proofs.Common.{ℕ, List, [], Bor, ◌≡◌, ◌∙◌, map, ap, subst}
use Rattle.clap.specs.Words.{App, Text, is_simple_and_free, fault_of, HasMatchesOf, HasKind}
use Rattle.djq_cli.specs.Commands.{djq_app}
use Rattle.djq_cli.proofs.Arguments.{simple, simple_and_free, taken, refused}
use Rattle.djq_cli.proofs.commands.read_words.Goals as goal

pub returns-in-Ok : goal.returns-in-Ok
returns-in-Ok c =
    let is = c.in_ok-command.ensures.app in
    let words : List Text = map (λ (word : Bor (List ℕ)). word.now) c.args.words.now in
    let none : fault_of djq_app words
    ≡ [] = subst (λ (a : App). fault_of a words ≡ []) is
    (c.in-Ok.ensures.kinds (ap is_simple_and_free is ∙ simple_and_free)) in
    let found = subst (λ (a : App). HasMatchesOf a words c.in-Ok.matches) is c.in-Ok.ensures.matches in
    taken words _ c.asked_by.result none (found simple).1 c.asked_by.ensures

pub returns : goal.returns
returns c =
    let is = c.in_ok-command.ensures.app in
    let words : List Text = map (λ (word : Bor (List ℕ)). word.now) c.args.words.now in
    refused words c.in-Err.error
    (subst (λ (a : App). HasKind (fault_of a words) c.in-Err.error) is
    (c.in-Err.ensures.kinds (ap is_simple_and_free is ∙ simple_and_free)))
    (λ e. c.in_default.not-OutOfMemory (c.kind.ensures ∙ e))
