-- Tokens are those of what is behind the spaces: none where that is empty, and else the first with the rest.
use Rattle.std.proofs.Common.{◌∙◌, sym}
use Rattle.std.proofs.lemmas.List.{take_rest}
use Rattle.std.proofs.lemmas.Bool.{eqb-true}
use Rattle.djq_value.proofs.Tokens.{next_none, next_some}
use Rattle.djq_value.proofs.lexer.Lexer.next.Goals as goal

pub returns-then-is_empty : goal.returns-then-is_empty
returns-then-is_empty c =
    let rest = c.self.inside.rest.now in
    let none = next_none rest _ (take_rest rest c.space_count.result ∙ c.space_count.ensures.behind)
    (eqb-true _ 0 (sym c.is_empty.ensures ∙ c.if-is_empty.true)) in
    (sym c.self.view_is ∙ none.0, none.1)

pub returns-else-is_empty : goal.returns-else-is_empty
returns-else-is_empty c =
    let rest = c.self.inside.rest.now in
    sym c.self.view_is ∙ next_some rest _ _ _ (take_rest rest c.space_count.result ∙ c.space_count.ensures.behind)
    c.front_token-token.ensures
