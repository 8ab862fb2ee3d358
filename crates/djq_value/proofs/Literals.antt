-- Names, numbers and literals: read back as they are printed.
use Rattle.std.proofs.Common.{◌≡◌, ℕ, ◌+◌, ◌-◌, ◌*◌, ◌^◌, ◌<◌, ◌≤◌, true, false, cond, ◌&&◌, [], ◌∷◌, ◌++◌, length}
use Rattle.std.proofs.Common.{get_or, take, drop, min, Some, None, refl, sym, ap, ◌∙◌, arith, eqb, ◌||◌, ℤ, pos, negsuc}
use Rattle.std.proofs.Common.{zero, suc, ◌/◌, ◌%◌, append_assoc, length-append, Ok, Err, Option, option_map, subst, leb}
use Rattle.std.proofs.Common.{All, Bool, inl, inr, add-one, ap₂, length-take}
use Rattle.std.specs.List.{list_all}
use Rattle.std.proofs.lemmas.List.{take_more, take_rest, take_all, drop-drop, length-drop, take-append-drop}
use Rattle.std.proofs.lemmas.List.Folds.{list_all_more, list_all-append}
use Rattle.std.proofs.Math.Nat.{pow-le-pow_right}
use Rattle.std.proofs.lemmas.Nat.{pow-add}
use Rattle.std.proofs.lemmas.Bool.{cond-true, and_from, le-leb, ne_eqb, cond-false, and_parts, leb-true, leb-false}
use Rattle.std.proofs.lemmas.Bool.{or_from, cases_Bool, eqb-true, false_from_ne_true}
use Rattle.std.specs.Fmt.{decimal, signed_decimal}
use Rattle.std.proofs.Math.Dec.{eqb-suc-zero}
use Rattle.std.proofs.lemmas.Fmt.{decimal_by_steps}
use Rattle.std.proofs.lemmas.List.Elements.{All-nil, All-cons}
use Rattle.djq_model.specs.declared.value.Value.{Value}
use Rattle.djq_model.specs.declared.value.Value.TheVariants.{Int, Text}
use Rattle.djq_model.specs.declared.value.TheConstants.{TEXT_BYTES}
use Rattle.djq_model.specs.Data.{Bytes}
use Rattle.djq_value.specs.declared.literal.LiteralRefusal.TheVariants.{Range, NoMem}
use Rattle.djq_value.specs.declared.lexer.Token.{Token as Piece}
use Rattle.djq_value.specs.declared.lexer.Token.TheVariants.{Word, Text as TextPiece, Open, Close, Comma, Arrow}
use Rattle.djq_value.specs.declared.lexer.Token.TheVariants.{Operator, Stray}
use Rattle.djq_value.specs.Literal.{is_digit, is_lower, is_name, digits_value, natural_of, integer_of, is_small_value}
use Rattle.djq_value.specs.Literal.{literal_of, minus, is_small}
use Rattle.djq_value.specs.Number.{capped}
use Rattle.djq_value.specs.Token.{ends_word, Token, word, text, open_paren, close_paren, comma, arrow, operator, stray}
use Rattle.djq_value.specs.Token.{behind_spaces, may_end, token_at, token_front, behind_word, tokens, word_front}
use Rattle.djq_value.specs.Word.{is_tail_of, may_follow_of}
use Rattle.djq_value.specs.Spelling.{IsSpaces, IsToken, MayFollow, token_text}
use Rattle.djq_value.specs.ReadValue.{IsLiteral, literal_at, literal_in}
use Rattle.djq_value.specs.ValueText.{value_text}
use Rattle.djq_value.specs.Lexing.{lexeme_of}
use Rattle.djq_value.specs.Reads.{ReadsLiteral}
use Rattle.djq_value.specs.Small.{AreDigitsAt, IsNameAt, IsSmallAt, IsSmallInFront, IsTailAt, TakesSmall}
use Rattle.djq_value.proofs.Tokens.{IsShorter, token_shorter, next_some, tokens-some, tokens-step, IsFirst, IsReal}
use Rattle.djq_value.proofs.Tokens.{cut_spaces, front_first, no_space, no_space_first, token_read, front_go, front_stop}
use Rattle.djq_value.proofs.Tokens.{inner}

-- ---- Names and numbers, byte by byte.

-- a name by its first byte and those behind it
pub is_name-cut : (w : Bytes) → 0 < length w → is_name w
    ≡ (is_lower (get_or w 0 0) && is_tail_of (take (length w - 1) (drop 1 w)))
is_name-cut [] h = absurd (omega arith)
is_name-cut (b ∷ bs) h = ap (λ more. is_lower b && is_tail_of more) (sym (take_rest (b ∷ bs) 1))

pub is_name-letter : (w : Bytes) → 0 < length w → is_lower (get_or w 0 0) ≡ true → is_name w
    ≡ is_tail_of (take (length w - 1) (drop 1 w))
is_name-letter w h e = is_name-cut w h ∙ ap (λ b. b && is_tail_of (take (length w - 1) (drop 1 w))) e

pub is_name-other : (w : Bytes) → 0 < length w → is_lower (get_or w 0 0) ≡ false → is_name w ≡ false
is_name-other w h e = is_name-cut w h ∙ ap (λ b. b && is_tail_of (take (length w - 1) (drop 1 w))) e

pub digits_value-push : (n : ℕ) (xs : Bytes) (d : ℕ) → digits_value n (xs ++ d ∷ []) ≡ digits_value n xs * 10 + (d - 48)
digits_value-push n [] d = refl
digits_value-push n (x ∷ xs) d = digits_value-push (n * 10 + (x - 48)) xs d

pub digits_value-more : (ds : Bytes) (i : ℕ) → i < length ds → digits_value 0 (take (i + 1) ds)
    ≡ digits_value 0 (take i ds) * 10 + (get_or ds i 0 - 48)
digits_value-more ds i h = ap (digits_value 0) (take_more ds i 0 h) ∙ digits_value-push 0 (take i ds) (get_or ds i 0)

-- one more digit at a number that has so many
pub small-step : (v d i : ℕ) → v < 10 ^ i → d ≤ 9 → v * 10 + d < 10 ^ (i + 1)
small-step v d i h l = let e : 10 ^ (i + 1) ≡ 10 ^ i * 10 = pow-add 10 i 1 in omega (arith, h, l, e)

-- a number of at most 18 digits
pub below_18 : (v i : ℕ) → v < 10 ^ i → i ≤ 18 → v < 1000000000000000000
below_18 v i h l = let most : 10 ^ i ≤ 1000000000000000000 = pow-le-pow_right {n = 10} (omega arith) {i = i} {j = 18} l
    in omega (arith, h, most)

-- one more digit at a number that stops at the greatest
pub capped-step : (n d v m w : ℕ) → v ≡ capped n → m ≡ min (v * 10) 18446744073709551615 → w
    ≡ min (m + d) 18446744073709551615 → w ≡ capped (n * 10 + d)
capped-step n d v m w e f g = omega (arith, e, f, g)

is_digit-within : (d : ℕ) → 48 ≤ d → d ≤ 57 → is_digit d ≡ true
is_digit-within d low high = and_from _ _ (le-leb 48 d low) (le-leb d 57 high)

pub digits-more : (ds : Bytes) (i : ℕ) → i < length ds → list_all is_digit (take i ds) ≡ true → 48 ≤ get_or ds i 0
    → get_or ds i 0 ≤ 57 → list_all is_digit (take (i + 1) ds) ≡ true
digits-more ds i h all low high = list_all_more is_digit ds i 0 h
    ∙ and_from _ _ all (is_digit-within (get_or ds i 0) low high)

pub natural-some : (ds : Bytes) → 0 < length ds → natural_of ds
    ≡ cond (list_all is_digit ds) (Some (digits_value 0 ds)) None
natural-some [] h = absurd (omega arith)
natural-some (d ∷ ds) h = refl

pub natural_of-digits : (ds : Bytes) (n : ℕ) → 0 < length ds → n ≡ length ds → list_all is_digit (take n ds) ≡ true
    → natural_of ds ≡ Some (digits_value 0 (take n ds))
natural_of-digits ds n h e all =
    let whole = take_all n ds (omega arith) in
    natural-some ds h ∙ cond-true _ _ _ (ap (list_all is_digit) (sym whole) ∙ all)
    ∙ ap (λ xs. Some (digits_value 0 xs)) (sym whole)

-- no byte above the signs ends a word
pub inner_above : (b : ℕ) → 62 < b → ends_word b ≡ false
inner_above b h =
    rw (
      ne_eqb b 32 (λ e. omega (arith, h, e)),
      ne_eqb b 33 (λ e. omega (arith, h, e)),
      ne_eqb b 40 (λ e. omega (arith, h, e)),
      ne_eqb b 41 (λ e. omega (arith, h, e)),
      ne_eqb b 44 (λ e. omega (arith, h, e)),
      ne_eqb b 60 (λ e. omega (arith, h, e)),
      ne_eqb b 61 (λ e. omega (arith, h, e)),
      ne_eqb b 62 (λ e. omega (arith, h, e)),
    ) refl

-- ---- A literal is read back where it is printed, and spelled where it is read.

-- What a decimal number is read as.
pub record IsWritten (n : ℕ) (ds : Bytes) : Type 0 where
  pub some : 0 < length ds
  pub digits : list_all is_digit ds ≡ true
  pub value : digits_value 0 ds ≡ n

pub digit_is : (d : ℕ) → d < 10 → is_digit (48 + d) ≡ true
digit_is d h = and_from _ _ (le-leb 48 (48 + d) (omega arith)) (le-leb (48 + d) 57 (omega arith))

one_digit : (n : ℕ) → n < 10 → IsWritten n ((48 + n) ∷ [])
one_digit n h = record { some = omega arith; digits = and_from _ _ (digit_is n h) refl; value = omega arith }

more_digits : (n : ℕ) (ds : Bytes) → 10 ≤ n → IsWritten (n / 10) ds → IsWritten n (ds ++ (48 + n % 10) ∷ [])
more_digits n ds h w = record {
  some = omega (arith, w.some, length-append ds ((48 + n % 10) ∷ []));
  digits = list_all-append is_digit ds ((48 + n % 10) ∷ [])
      ∙ and_from _ _ w.digits (and_from _ _ (digit_is (n % 10) (omega arith)) refl);
  value = digits_value-push 0 ds (48 + n % 10) ∙ omega (arith, w.value);
}

pub written : (n : ℕ) → n < 2 ^ 64 → IsWritten n (decimal n)
written n h = decimal_by_steps IsWritten one_digit more_digits n h

pub natural_written : (n : ℕ) → n < 2 ^ 64 → natural_of (decimal n) ≡ Some n
natural_written n h = let w = written n h in natural-some (decimal n) w.some ∙ cond-true _ _ _ w.digits
    ∙ ap (λ k. Some k) w.value

pub digit_bounds : (d : ℕ) → is_digit d ≡ true → (48 ≤ d) × (d ≤ 57)
digit_bounds d h = let parts = and_parts (leb 48 d) (leb d 57) h in (leb-true 48 d parts.0, leb-true d 57 parts.1)

pub integer_digits : (ds : Bytes) → 0 < length ds → list_all is_digit ds ≡ true → integer_of ds
    ≡ option_map (λ n. pos n) (natural_of ds)
integer_digits [] some h = absurd (omega (arith, some))
integer_digits (d ∷ ds) some h =
    let low = digit_bounds d (and_parts (is_digit d) (list_all is_digit ds) h).0 in cond-false _ _ _
    (ne_eqb d 45 (λ e. absurd (omega (arith, e, low.0))))

pub minus-suc : (n : ℕ) → minus (suc n) ≡ negsuc n
minus-suc n = cond-false _ _ _ (eqb-suc-zero n) ∙ ap (λ k. negsuc k) (omega arith)

small_pos : (n : ℕ) → leb n 9223372036854775807 ≡ true → n < 2 ^ 64
small_pos n h = omega (arith, leb-true n 9223372036854775807 h)

small_neg : (n : ℕ) → leb n 9223372036854775807 ≡ true → suc n < 2 ^ 64
small_neg n h = omega (arith, leb-true n 9223372036854775807 h)

signed_read : (i : ℤ) → is_small_value (Int i) ≡ true → integer_of (signed_decimal i) ≡ Some i
signed_read (pos n) h =
    let w = written n (small_pos n h) in integer_digits (decimal n) w.some w.digits
    ∙ ap (option_map (λ k. pos k)) (natural_written n (small_pos n h))
signed_read (negsuc n) h = ap (option_map minus) (natural_written (suc n) (small_neg n h))
    ∙ ap (λ z. Some z) (minus-suc n)

pub digit_inner : (b : ℕ) → is_digit b ≡ true → ends_word b ≡ false
digit_inner b h =
    let low = digit_bounds b h in
    let until_bang : (eqb b 32 || eqb b 33)
    ≡ false = or_from _ _ (ne_eqb b 32 (λ e. absurd (omega (arith, e, low.0))))
    (ne_eqb b 33 (λ e. absurd (omega (arith, e, low.0)))) in
    let until_open : (eqb b 32 || eqb b 33 || eqb b 40)
    ≡ false = or_from _ _ until_bang (ne_eqb b 40 (λ e. absurd (omega (arith, e, low.0)))) in
    let until_close : (eqb b 32 || eqb b 33 || eqb b 40 || eqb b 41)
    ≡ false = or_from _ _ until_open (ne_eqb b 41 (λ e. absurd (omega (arith, e, low.0)))) in
    let until_comma : (eqb b 32 || eqb b 33 || eqb b 40 || eqb b 41 || eqb b 44)
    ≡ false = or_from _ _ until_close (ne_eqb b 44 (λ e. absurd (omega (arith, e, low.0)))) in
    let until_angle : (eqb b 32 || eqb b 33 || eqb b 40 || eqb b 41 || eqb b 44 || eqb b 60)
    ≡ false = or_from _ _ until_comma (ne_eqb b 60 (λ e. absurd (omega (arith, e, low.1)))) in
    let until_equals : (eqb b 32 || eqb b 33 || eqb b 40 || eqb b 41 || eqb b 44 || eqb b 60 || eqb b 61)
    ≡ false = or_from _ _ until_angle (ne_eqb b 61 (λ e. absurd (omega (arith, e, low.1)))) in
    or_from _ _ until_equals (ne_eqb b 62 (λ e. absurd (omega (arith, e, low.1))))

pub digits_inner : (ds : Bytes) → list_all is_digit ds ≡ true → All (λ b. ends_word b ≡ false) ds
digits_inner [] h = All-nil (λ b. ends_word b ≡ false)
digits_inner (d ∷ ds) h =
    let parts = and_parts (is_digit d) (list_all is_digit ds) h in All-cons (λ b. ends_word b ≡ false) d ds
    (digit_inner d parts.0) (digits_inner ds parts.1)

pub digits_token : (ds : Bytes) → 0 < length ds → list_all is_digit ds ≡ true → IsToken (word ds)
digits_token [] some h = absurd (omega (arith, some))
digits_token (d ∷ ds) some h =
    let low = digit_bounds d (and_parts (is_digit d) (list_all is_digit ds) h).0 in
    (omega arith, digits_inner (d ∷ ds) h, λ e. absurd (omega (arith, e, low.0)))

signed_token : (i : ℤ) → is_small_value (Int i) ≡ true → IsToken (word (signed_decimal i))
signed_token (pos n) h = let w = written n (small_pos n h) in digits_token (decimal n) w.some w.digits
signed_token (negsuc n) h =
    let w = written (suc n) (small_neg n h) in (
      omega arith,
      All-cons (λ b. ends_word b ≡ false) 45 (decimal (suc n)) refl
          (digits_inner (decimal (suc n)) w.digits),
      λ e. absurd (omega (arith, e)),
    )

pub token_back : (t : Token) (behind : Bytes) → IsToken t → MayFollow t behind → token_at (token_text t ++ behind)
    ≡ Some (t, behind)
token_back t behind h f = ap token_front (no_space t behind h) ∙ token_read t behind h f

pub read_back : (v : Value) (behind : Bytes) → is_small_value v ≡ true → may_end behind ≡ true
    → literal_at (value_text v ++ behind) ≡ Some (v, behind)
read_back (Int i) behind h f =
    ap literal_in (token_back (word (signed_decimal i)) behind (signed_token i h) f)
    ∙ ap (λ o. option_map (λ v. (v, behind)) (option_map (λ j. Int j) o)) (signed_read i h)
read_back (Text t) behind h f = ap literal_in (token_back (text t) behind tt f)

pub map_some : {A B : Type 0} (f : A → B) (o : Option A) (b : B) → option_map f o ≡ Some b → (a : A) × (o ≡ Some a)
    × (f a ≡ b)
map_some f None b e = absurd cc
map_some f (Some a) b e = (a, refl, cc)

-- what is known of a token that is a literal
record IsLiteralToken (t : Token) (v : Value) : Type 0 where
  real : IsReal t
  literal : IsLiteral v (token_text t)
  ends : (behind : Bytes) → MayFollow t behind → may_end behind ≡ true

literal_token : (t : Token) (v : Value) → literal_of t ≡ Some v → IsLiteralToken t v
literal_token (word w) v e =
    let found = map_some (λ i. Int i) (integer_of w) v e in
    record { real = tt; literal = subst (λ (u : Value). IsLiteral u w) found.2 found.1; ends = λ behind f. f }
literal_token (text s) v e =
    let is : Text s ≡ v = cc in record
    { real = tt; literal = subst (λ (u : Value). IsLiteral u (token_text (text s))) is refl; ends = λ behind f. f }
literal_token open_paren v e = absurd (cc)
literal_token close_paren v e = absurd (cc)
literal_token comma v e = absurd (cc)
literal_token arrow v e = absurd (cc)
literal_token (operator o) v e = absurd (cc)
literal_token stray v e = absurd (cc)

-- a literal in front of bytes, as it is spelled
pub record IsSpelledAs (bytes : Bytes) (v : Value) (behind : Bytes) : Type 0 where
  pub front : Bytes
  pub spelling : Bytes
  pub spaces : IsSpaces front
  pub split : bytes ≡ front ++ (spelling ++ behind)
  pub literal : IsLiteral v spelling
  pub ends : may_end behind ≡ true

pub spelled_as : (bytes : Bytes) (t : Token) (v : Value) (behind : Bytes) → token_at bytes ≡ Some (t, behind)
    → literal_of t ≡ Some v → IsSpelledAs bytes v behind
spelled_as bytes t v behind e is =
    let known = literal_token t v is in
    let cut = cut_spaces bytes in
    let here = subst (IsFirst (behind_spaces bytes)) e (front_first (behind_spaces bytes) (no_space_first bytes))
    known.real in
    record {
      front = cut.0;
      spelling = token_text t;
      spaces = cut.1;
      split = cut.2
          ∙ ap (λ xs. cut.0 ++ xs) here.0;
      literal = known.literal;
      ends = known.ends behind here.2;
    }

pub literal_parts : (o : Option (Token × Bytes)) (v : Value) (behind : Bytes) → literal_in o ≡ Some (v, behind)
    → (t : Token) × (o ≡ Some (t, behind)) × (literal_of t ≡ Some v)
literal_parts None v behind e = absurd (cc)
literal_parts (Some p) v behind e =
    let found = map_some (λ (u : Value). (u, p.1)) (literal_of p.0) (v, behind) e in (
      p.0,
      ap (λ us. Some (p.0, us)) (ap (λ (z : Value × Bytes). z.1) found.2),
      found.1
          ∙ ap (λ u. Some u) (ap (λ (z : Value × Bytes). z.0) found.2),
    )

pub spelled_back : (bytes : Bytes) (v : Value) (behind : Bytes) → literal_at bytes ≡ Some (v, behind)
    → (front : Bytes) × (w : Bytes) × IsSpaces front × (bytes ≡ front ++ (w ++ behind)) × IsLiteral v w
    × (may_end behind ≡ true)
spelled_back bytes v behind e =
    let parts = literal_parts (token_at bytes) v behind e in
    let s = spelled_as bytes parts.0 v behind parts.1 parts.2 in
    (s.front, s.spelling, s.spaces, s.split, s.literal, s.ends)

-- Where a literal ends.

drop_front : (xs ys : Bytes) (n : ℕ) → n ≡ length xs → drop n (xs ++ ys) ≡ ys
drop_front [] ys zero e = refl
drop_front [] ys (suc n) e = absurd (omega (arith, e))
drop_front (x ∷ xs) ys zero e = absurd (omega (arith, e))
drop_front (x ∷ xs) ys (suc n) e = drop_front xs ys n (omega (arith, e))

pub behind_is : (bytes : Bytes) (t : Token) (v : Value) (behind : Bytes) → token_at bytes ≡ Some (t, behind)
    → literal_of t ≡ Some v → behind ≡ drop (length bytes - length behind) bytes
behind_is bytes t v behind e is =
    let s = spelled_as bytes t v behind e is in
    let whole : bytes ≡ (s.front ++ s.spelling) ++ behind = s.split ∙ sym (append_assoc s.front s.spelling behind) in
    let n : length bytes - length behind
    ≡ length (s.front ++ s.spelling) = omega (arith, ap length whole, length-append (s.front ++ s.spelling) behind)
    in
    sym (ap (drop (length bytes - length behind)) whole
    ∙ drop_front (s.front ++ s.spelling) behind (length bytes - length behind) n)

pub behind_less : (bytes : Bytes) (t : Token) (behind : Bytes) → token_at bytes ≡ Some (t, behind)
    → length behind ≤ length bytes
behind_less bytes t behind e = let less = subst (IsShorter (length bytes)) e (token_shorter bytes) in omega
    (arith, less)

-- What reading a token as a literal says.

pub short_text : (t : Bytes) → is_small_value (Text t) ≡ true → length t ≤ TEXT_BYTES
short_text t h = leb-true (length t) TEXT_BYTES h

pub literal_ok : (o : Option Value) (w : Value) → ReadsLiteral o (Ok w) → (o ≡ Some w) × (is_small_value w ≡ true)
literal_ok None w h = absurd (cc)
literal_ok (Some v) w h = (ap (λ u. Some u) (sym h.0), ap is_small_value h.0 ∙ h.1)

pub literal_range : (o : Option Value) → ReadsLiteral o (Err Range) → (v : Value) × (o ≡ Some v)
    × (is_small_value v ≡ false)
literal_range None h = absurd (cc)
literal_range (Some v) h = (v, refl, h)

pub literal_no_memory : (o : Option Value) → ReadsLiteral o (Err NoMem)
    → (t : Bytes) × (o ≡ Some (Text t)) × (length t ≤ TEXT_BYTES)
literal_no_memory None h = absurd (cc)
literal_no_memory (Some v) h = (h.0, ap (λ u. Some u) h.1, short_text h.0 (sym (ap is_small_value h.1) ∙ h.2))

pub long_text : (t : Bytes) → is_small_value (Text t) ≡ false → TEXT_BYTES < length t
long_text t h = leb-false (length t) TEXT_BYTES h

-- a token that is no text is an integer, where it is a literal
pub integer_token : (t : Piece) (v : Value) → ((q : Bytes) → t ≡ TextPiece q → ⊥) → literal_of (lexeme_of t) ≡ Some v
    → (i : ℤ) × (v ≡ Int i)
integer_token (Word w) v other e = let found = map_some (λ i. Int i) (integer_of w.now) v e in (found.0, sym found.2)
integer_token (TextPiece q) v other e = absurd (other q refl)
integer_token Open v other e = absurd (cc)
integer_token Close v other e = absurd (cc)
integer_token Comma v other e = absurd (cc)
integer_token Arrow v other e = absurd (cc)
integer_token (Operator o) v other e = absurd (cc)
integer_token Stray v other e = absurd (cc)

pub some_same : (v w : Value) → Some v ≡ Some w → v ≡ w
some_same v w e = cc

-- ---- Words, and integers of few digits, in front of bytes.

some_true : (b : Bool) (m n : ℕ) → cond b (Some m) None ≡ Some n → b ≡ true
some_true true m n e = refl
some_true false m n e = absurd (cc)

-- bytes that denote a number are digits
pub natural_digits : (w : Bytes) (n : ℕ) → natural_of w ≡ Some n → (0 < length w) × (list_all is_digit w ≡ true)
natural_digits [] n e = absurd (cc)
natural_digits (d ∷ ds) n e = (omega arith, some_true (list_all is_digit (d ∷ ds)) _ n e)

-- bytes that denote an integer are a word
pub integer_token_small : (w : Bytes) (i : ℤ) → integer_of w ≡ Some i → IsToken (word w)
integer_token_small [] i e = absurd (cc)
integer_token_small (b ∷ bs) i e = elim (cases_Bool (eqb b 45)) [
  | inl is ↦
      let found = map_some minus (natural_of bs) i (sym (cond-true _ _ _ is) ∙ e) in
      let digits = natural_digits bs found.0 found.1 in
      let sign = eqb-true b 45 is in (
        omega arith,
        All-cons (λ x. ends_word x ≡ false) b bs (ap ends_word sign) (digits_inner bs digits.1),
        λ quote.
            absurd (omega (arith, quote, sign)),
      )
  | inr other ↦
      let found = map_some (λ n. pos n) (natural_of (b ∷ bs)) i (sym (cond-false _ _ _ other) ∙ e) in
      let digits = natural_digits (b ∷ bs) found.0 found.1 in
      digits_token (b ∷ bs) digits.0 digits.1
]

pub small_taken : (rest bytes : Bytes) (n : ℕ) (i : ℤ) → bytes ≡ behind_spaces rest → IsSmallAt bytes (Some (i, n))
    → TakesSmall (tokens rest) (Some i) (tokens (drop n bytes))
small_taken rest bytes n i e h =
    let w = take n bytes in
    let whole = ap token_front (sym (take-append-drop n bytes)) in (
      w,
      next_some rest bytes (word w) (drop n bytes) e
          (whole ∙ token_read (word w) (drop n bytes) (integer_token_small w i h.1) h.3),
      h.1,
      h.2,
    )

small_minus : (n : ℕ) → n < 1000000000000000000 → is_small (minus n) ≡ true
small_minus zero h = refl
small_minus (suc n) h = ap is_small (minus-suc n) ∙ le-leb n 9223372036854775807 (omega (arith, h))

pub positive_at : (bs : Bytes) (size len : ℕ) → AreDigitsAt bs (Some (size, len)) → IsSmallAt bs (Some (pos size, len))
positive_at bs size len h =
    let digits = natural_digits (take len bs) size h.1 in (
      h.0,
      integer_digits (take len bs) digits.0 digits.1
          ∙ ap (option_map (λ n. pos n)) h.1,
      le-leb size 9223372036854775807 (omega (arith, h.2)),
      h.3,
    )

pub negative_at : (bs : Bytes) (size len : ℕ) → 0 < length bs → get_or bs 0 0 ≡ 45
    → AreDigitsAt (drop 1 bs) (Some (size, len)) → IsSmallAt bs (Some (minus size, len + 1))
negative_at [] size len some e h = absurd (omega (arith, some))
negative_at (b ∷ bs) size len some e h = (
  omega (arith, h.0),
  ap (λ n. integer_of (take n (b ∷ bs))) (add-one len) ∙ ap (λ c. integer_of (c ∷ take len bs)) e
      ∙ ap (option_map minus) h.1,
  small_minus size h.2,
  ap (λ n. may_end (drop n (b ∷ bs))) (add-one len) ∙ h.3,
)

-- A word is in front where a byte that is of one is, and no quote.
front_word : (bs : Bytes) → 0 < length (word_front bs) → eqb (get_or bs 0 0) 34 ≡ false → token_front bs
    ≡ Some (word (word_front bs), behind_word bs)
front_word [] some no_quote = absurd (omega (arith, some))
front_word (b ∷ bs) some no_quote =
    let here : ends_word b
    ≡ false = false_from_ne_true (ends_word b) (λ e. absurd (omega (arith, some, ap length (front_stop b bs e)))) in
    let i = inner b here in
    ap (λ p. Some p)
    (cond-false _ _ _ i.open_sign ∙ cond-false _ _ _ i.close_sign ∙ cond-false _ _ _ i.comma_sign
    ∙ cond-false _ _ _ i.angle
    ∙ cond-false _ _ _ i.equals ∙ cond-false _ _ _ i.greater ∙ cond-false _ _ _ i.bang ∙ cond-false _ _ _ no_quote
    ∙ ap₂ (λ (xs ys : Bytes). (word xs, ys)) (sym (front_go b bs here)) (sym (cond-false _ _ _ here)))

pub word_taken : (rest bytes : Bytes) (n : ℕ) → bytes ≡ behind_spaces rest → n ≤ length bytes → take n bytes
    ≡ word_front bytes → drop n bytes ≡ behind_word bytes
    → 0 < n → eqb (get_or bytes 0 0) 34 ≡ false → tokens rest ≡ word (take n bytes) ∷ tokens (drop n bytes)
word_taken rest bytes n e h front behind some no_quote =
    let long : 0 < length (word_front bytes) = omega (arith, some, h, length-take n bytes, ap length front) in
    next_some rest bytes (word (take n bytes)) (drop n bytes) e
    (front_word bytes long no_quote ∙ ap₂ (λ (xs ys : Bytes). Some (word xs, ys)) (sym front) (sym behind))

-- The bytes of a name end no word.

follow_inner : (c : ℕ) → may_follow_of c ≡ true → ends_word c ≡ false
follow_inner c h = elim (cases_Bool (is_lower c)) [
  | inl lower ↦ inner_above c (omega (arith, leb-true 97 c (and_parts (leb 97 c) (leb c 122) lower).0))
  | inr no_letter ↦ elim (cases_Bool (is_digit c)) [
    | inl digit ↦ digit_inner c digit
    | inr no_digit ↦ elim (cases_Bool (eqb c 95)) [
      | inl is ↦ ap ends_word (eqb-true c 95 is)
      | inr other ↦ absurd (cc (h, or_from _ _ (or_from _ _ no_letter no_digit) other))
    ]
  ]
]

tail_inner : (bs : Bytes) → list_all may_follow_of bs ≡ true → All (λ b. ends_word b ≡ false) bs
tail_inner [] h = All-nil (λ b. ends_word b ≡ false)
tail_inner (c ∷ cs) h =
    let parts = and_parts (may_follow_of c) (list_all may_follow_of cs) h in
    All-cons (λ b. ends_word b ≡ false) c cs (follow_inner c parts.0) (tail_inner cs parts.1)

-- a name is a word
pub name_token : (w : Bytes) → is_name w ≡ true → IsToken (word w)
name_token [] h = absurd (cc)
name_token (b ∷ bs) h =
    let parts = and_parts (is_lower b) (is_tail_of bs) h in
    let more = and_parts (list_all may_follow_of bs) (leb (length bs) 31) parts.1 in
    let low : 97 ≤ b = leb-true 97 b (and_parts (leb 97 b) (leb b 122) parts.0).0 in (
      omega arith,
      All-cons (λ x. ends_word x ≡ false) b bs (inner_above b (omega (arith, low))) (tail_inner bs more.0),
      λ quote. absurd (omega (arith, quote, low)),
    )

-- a letter in front of the other bytes of a name
pub letter_first : (bs : Bytes) (n : ℕ) → 0 < length bs → is_lower (get_or bs 0 0) ≡ true
    → IsTailAt (drop 1 bs) (Some n) → IsNameAt bs (Some (n + 1))
letter_first [] n some letter h = absurd (omega (arith, some))
letter_first (b ∷ bs) n some letter h = (
  omega (arith, h.0),
  ap (λ m. is_name (take m (b ∷ bs))) (add-one n) ∙ and_from _ _ letter h.1,
  ap (λ m. may_end (drop m (b ∷ bs))) (add-one n) ∙ h.2,
)

-- A word is in front where it may end in front of what is behind it.
pub word_before : (w behind : Bytes) → IsToken (word w) → may_end behind ≡ true
    → tokens (w ++ behind) ≡ word w ∷ tokens behind
word_before w behind is ends = tokens-some (w ++ behind) (word w) behind
    (ap token_front (no_space (word w) behind is) ∙ token_read (word w) behind is ends)

word_at : (rest : Bytes) (n : ℕ) → IsToken (word (take n rest)) → may_end (drop n rest) ≡ true
    → tokens rest ≡ word (take n rest) ∷ tokens (drop n rest)
word_at rest n is ends = ap tokens (sym (take-append-drop n rest)) ∙ word_before (take n rest) (drop n rest) is ends

-- the name that begins the bytes
pub name_taken : (rest : Bytes) (n : ℕ) → IsNameAt rest (Some n)
    → tokens rest ≡ word (take n rest) ∷ tokens (drop n rest)
name_taken rest n h = word_at rest n (name_token (take n rest) h.1) h.2

-- a space in front
pub tokens-blank : (bs : Bytes) → tokens (32 ∷ bs) ≡ tokens bs
tokens-blank bs = tokens-step (32 ∷ bs) ∙ sym (tokens-step bs)

-- the integer with which bytes begin
small_word : (bs : Bytes) (n : ℕ) (i : ℤ) → IsSmallAt bs (Some (i, n))
    → TakesSmall (tokens bs) (Some i) (tokens (drop n bs))
small_word bs n i h =
    let w = take n bs in (w, word_at bs n (integer_token_small w i h.1) h.3, h.1, h.2)

-- digits behind one space
pub near_small : (bs : Bytes) (size len : ℕ) → 0 < length bs → get_or bs 0 0 ≡ 32
    → AreDigitsAt (drop 1 bs) (Some (size, len)) → IsSmallInFront bs (Some (pos size, len + 1))
near_small [] size len some blank h = absurd (omega (arith, some))
near_small (b ∷ bs) size len some blank h =
    let taken = small_word bs len (pos size) (positive_at bs size len h) in
    let blanks : tokens (b ∷ bs) ≡ tokens bs = ap (λ c. tokens (c ∷ bs)) blank ∙ tokens-blank bs in
    let front = blanks ∙ taken.1 ∙ ap (λ m. word taken.0 ∷ tokens (drop m (b ∷ bs))) (sym (add-one len)) in
    (omega (arith, h.0), (taken.0, front, taken.2, taken.3))

-- an integer behind so many spaces
pub far_small : (bs : Bytes) (spaces n : ℕ) (i : ℤ) → spaces ≤ length bs → drop spaces bs ≡ behind_spaces bs
    → IsSmallAt (drop spaces bs) (Some (i, n)) → IsSmallInFront bs (Some (i, spaces + n))
far_small bs spaces n i within behind h =
    let taken = small_taken bs (drop spaces bs) n i behind h in
    let front = taken.1 ∙ ap (λ xs. word taken.0 ∷ tokens xs) (drop-drop n spaces bs) in
    (omega (arith, within, h.0, length-drop spaces bs), (taken.0, front, taken.2, taken.3))
