-- A name with a space behind it is a whole word, so it is the first token, and the bytes behind give the rest.
use Rattle.std.proofs.Common.{◌∙◌, ◌∷◌, ap, sym, take}
use Rattle.std.proofs.lemmas.List.{take_rest}
use Rattle.djq_value.specs.Token.{tokens, word}
use Rattle.djq_value.proofs.Literals.{name_taken}
use Rattle.djq_value.proofs.lexer.Lexer.next_close_name.Goals as goal

pub returns-in-Some : goal.returns-in-Some
returns-in-Some c =
    let rest = c.self.inside.rest.now in
    let n = c.in-Some.len in (
      sym c.self.view_is ∙ name_taken rest n c.in-Some.ensures
          ∙ ap (λ xs. word (take n rest) ∷ tokens xs) (sym (take_rest rest n)),
      c.in-Some.ensures.1,
    )
