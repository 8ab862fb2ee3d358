-- What is behind the index is cut to the list's end, so the name there and those behind it decide together.
use Rattle.std.proofs.Common.{sym, ◌∙◌, ap, ◌≡◌, ◌+◌, drop, true, false}
use Rattle.std.specs.Prelude.{not, ◌&&◌}
use Rattle.djq_value.specs.Literal.{are_different, has_name}
use Rattle.djq_query.proofs.Atoms.{rest_whole, different_rest}
use Rattle.djq_query.proofs.variables.are_different.Goals as goal

pub returns-then-has_name : goal.returns-then-has_name
returns-then-has_name c =
    let names = c.args.names.now in
    let has : has_name (drop (c.names.i + 1) names) c.index-names-i.result
    ≡ true = ap (λ xs. has_name xs c.index-names-i.result) (sym (rest_whole names (c.names.i + 1)))
    ∙ sym c.has_name.ensures ∙ c.if-has_name.true in
    sym (c.names.invariant ∙ different_rest names c.names.i c.index-names-i.result c.names-test.true c.index-names-i.is
    ∙ ap (λ b. not b && are_different (drop (c.names.i + 1) names)) has)

pub names-preserved : goal.names-preserved
names-preserved c =
    let names = c.args.names.now in
    let has : has_name (drop (c.names.i + 1) names) c.index-names-i.result
    ≡ false = ap (λ xs. has_name xs c.index-names-i.result) (sym (rest_whole names (c.names.i + 1)))
    ∙ sym c.has_name.ensures ∙ c.if-has_name.false in
    c.names.invariant ∙ different_rest names c.names.i c.index-names-i.result c.names-test.true c.index-names-i.is
    ∙ ap (λ b. not b && are_different (drop (c.names.i + 1) names)) has
