-- Bytes that are spaces alone have no token, and where there is no token all bytes are spaces.
use Rattle.std.proofs.Common.{◌∙◌, sym}
use Rattle.std.proofs.lemmas.Bool.{eqb-true, eq-eqb}
use Rattle.djq_value.proofs.Tokens.{tokens-done, tokens-empty}
use Rattle.djq_value.proofs.lexer.Lexer.is_done.Goals as goal

pub returns : goal.returns
returns c =
    let rest = c.self.inside.rest.now in
    let spaces = c.space_count.result in (
      λ all. sym c.self.view_is ∙ tokens-empty rest spaces (eqb-true _ _ all) c.space_count.ensures.behind,
      λ none. eq-eqb _ _ (tokens-done rest spaces c.space_count.ensures.within c.space_count.ensures.behind
          (c.self.view_is ∙ none)),
    )
