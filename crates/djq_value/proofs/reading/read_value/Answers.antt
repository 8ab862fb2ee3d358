-- The token behind the spaces is the one in front of all the bytes, and what is behind it is shorter.
use Rattle.std.proofs.Common.{◌≡◌, ◌∙◌, Err, Some, sym, ap, subst, arith, option_map, false}
use Rattle.std.proofs.lemmas.List.{take_rest}
use Rattle.djq_model.specs.Data.{Bytes}
use Rattle.djq_model.specs.declared.value.Value.{Value}
use Rattle.djq_model.specs.declared.value.Value.TheVariants.{Text}
use Rattle.djq_value.specs.Token.{token_at, token_front}
use Rattle.djq_value.specs.Literal.{is_small_value, literal_of}
use Rattle.djq_value.specs.Lexing.{lexeme_of}
use Rattle.djq_value.specs.ReadValue.{literal_in}
use Rattle.djq_value.specs.Reads.{ReadsLiteral}
use Rattle.djq_value.specs.declared.literal.LiteralRefusal.{LiteralRefusal}
use Rattle.djq_value.proofs.Literals.{behind_is, behind_less, integer_token, some_same, literal_no_memory, literal_ok}
use Rattle.djq_value.proofs.Literals.{literal_range, long_text}
use Rattle.djq_value.proofs.reading.read_value.Goals as goal

pub overflow_sub-result : goal.overflow_sub-result
overflow_sub-result c =
    let bytes = c.args.bytes.now in
    let rest = c.front_token-token.result.1.now in
    let t = lexeme_of c.front_token-token.result.0 in
    let here : token_at bytes
    ≡ Some (t, rest) = ap token_front
    (sym (take_rest bytes c.space_count-at.result ∙ c.space_count-at.ensures.behind))
    ∙ c.front_token-token.ensures in
    behind_less bytes t rest here

pub returns-in-Ok : goal.returns-in-Ok
returns-in-Ok c =
    let bytes = c.args.bytes.now in
    let rest = c.front_token-token.result.1.now in
    let t = lexeme_of c.front_token-token.result.0 in
    let here : token_at bytes
    ≡ Some (t, rest) = ap token_front
    (sym (take_rest bytes c.space_count-at.result ∙ c.space_count-at.ensures.behind))
    ∙ c.front_token-token.ensures in
    let known = literal_ok (literal_of t) c.in-Ok.value c.in-Ok.ensures in (
      ap literal_in here ∙ ap (option_map (λ (v : Value). (v, rest))) known.0
          ∙ ap (λ us. Some (c.in-Ok.value, us)) (behind_is bytes t c.in-Ok.value rest here known.0),
      known.1,
      omega arith,
    )

pub returns-in-Err-NoMem : goal.returns-in-Err-NoMem
returns-in-Err-NoMem c =
    let bytes = c.args.bytes.now in
    let rest = c.front_token-token.result.1.now in
    let t = lexeme_of c.front_token-token.result.0 in
    let here : token_at bytes
    ≡ Some (t, rest) = ap token_front
    (sym (take_rest bytes c.space_count-at.result ∙ c.space_count-at.ensures.behind))
    ∙ c.front_token-token.ensures in
    let known = literal_no_memory (literal_of t)
    (subst (λ (e : LiteralRefusal). ReadsLiteral (literal_of t) (Err e)) c.in-Err-NoMem.field-0-is
    c.in-Err-NoMem.ensures) in
    (known.0, rest, ap literal_in here ∙ ap (option_map (λ (v : Value). (v, rest))) known.1, known.2)

pub returns-in-Text : goal.returns-in-Text
returns-in-Text c =
    let bytes = c.args.bytes.now in
    let rest = c.front_token-token.result.1.now in
    let t = lexeme_of c.front_token-token.result.0 in
    let q : Bytes = c.in-Text.field-0 in
    let here : token_at bytes
    ≡ Some (t, rest) = ap token_front
    (sym (take_rest bytes c.space_count-at.result ∙ c.space_count-at.ensures.behind))
    ∙ c.front_token-token.ensures in
    let known = literal_range (literal_of t)
    (subst (λ (e : LiteralRefusal). ReadsLiteral (literal_of t) (Err e)) c.in-Err-Range.field-0-is
    c.in-Err-Range.ensures) in
    let is : literal_of t ≡ Some (Text q) = ap (λ k. literal_of (lexeme_of k)) c.in-Text.is in
    let value : known.0 ≡ Text q = some_same known.0 (Text q) (sym known.1 ∙ is) in (
      q,
      rest,
      ap literal_in here
          ∙ ap (option_map (λ (v : Value). (v, rest))) is,
      long_text q
          (subst (λ v. is_small_value v ≡ false) value known.2),
      (c.space_count-at.ensures.within, c.space_count-at.ensures.behind),
    )

pub returns-in_default : goal.returns-in_default
returns-in_default c =
    let bytes = c.args.bytes.now in
    let rest = c.front_token-token.result.1.now in
    let t = lexeme_of c.front_token-token.result.0 in
    let here : token_at bytes
    ≡ Some (t, rest) = ap token_front
    (sym (take_rest bytes c.space_count-at.result ∙ c.space_count-at.ensures.behind))
    ∙ c.front_token-token.ensures in
    let known = literal_range (literal_of t)
    (subst (λ (e : LiteralRefusal). ReadsLiteral (literal_of t) (Err e)) c.in-Err-Range.field-0-is
    c.in-Err-Range.ensures) in
    let int = integer_token c.front_token-token.result.0 known.0 c.in_default.not-Text known.1 in (
      int.0,
      rest,
      ap literal_in here
          ∙ ap (option_map (λ (v : Value). (v, rest))) (known.1 ∙ ap (λ v. Some v) int.1),
      subst
          (λ v. is_small_value v ≡ false) int.1 known.2,
      (c.space_count-at.ensures.within, c.space_count-at.ensures.behind),
    )
