-- Behind the spaces some bytes that end no word, the first of them no quote, are a word and the first token.
use Rattle.std.proofs.Common.{◌-◌, ◌∙◌, ◌∷◌, ap, arith, drop, get_or, length, sym, take}
use Rattle.std.proofs.lemmas.Bool.{ne_eqb}
use Rattle.std.proofs.lemmas.List.{take_rest}
use Rattle.djq_value.specs.Token.{tokens, word}
use Rattle.djq_value.proofs.Literals.{word_taken}
use Rattle.djq_value.proofs.lexer.Lexer.plain_word.Goals as goal

pub returns : goal.returns
returns c =
    let rest = c.self.inside.rest.now in
    let spaces = c.space_count.result in
    let bytes = take (length rest - spaces) (drop spaces rest) in
    let len = c.word_len-len.result in
    sym c.self.view_is
    ∙ word_taken rest bytes len (take_rest rest spaces ∙ c.space_count.ensures.behind) c.word_len-len.ensures.within
    c.word_len-len.ensures.word c.word_len-len.ensures.behind
    (omega (arith, c.if-len-eq0.false)) (ne_eqb (get_or bytes 0 0) 34 c.if-bytes-eq34.false)
    ∙ ap (λ xs. word (take len bytes) ∷ tokens xs) (sym (take_rest bytes len))
