-- The tokens of a line are those that it spells.
use Rattle.std.proofs.Common.{◌≡◌, ℕ, zero, suc, ◌<◌, ◌≤◌, Bool, true, false, cond, List, [], ◌∷◌, length, drop, Option}
use Rattle.std.proofs.Common.{Some, None, refl, sym, ap, ◌∙◌, arith, eqb, not, ◌||◌, ◌++◌, append_assoc, ap₂, subst}
use Rattle.std.proofs.Common.{All, ◌↔◌, inl, inr}
use Rattle.std.proofs.lemmas.List.{nil_from_length, length-drop, drop_all, append-nil}
use Rattle.std.proofs.lemmas.Bool.{cond_both, cond-true, cond-false, cases_Bool, eqb-true, eq-eqb, ne_eqb, eqb-false}
use Rattle.std.proofs.lemmas.Bool.{or_parts, or_from}
use Rattle.std.proofs.lemmas.List.Elements.{All-nil, All-cons, All-head, All-tail}
use Rattle.std.proofs.lemmas.List.Sums.{take_while-cons}
use Rattle.std.specs.Prelude.{unwrap_or}
use Rattle.std.specs.List.{flat_map}
use Rattle.djq_model.specs.declared.query.Operator.TheVariants.{Less, LessOrEqual, Greater, GreaterOrEqual, NotEqual}
use Rattle.djq_model.specs.declared.query.Operator.TheVariants.{Equal}
use Rattle.djq_model.specs.Data.{Bytes}
use Rattle.djq_value.specs.Token.{Token, text, operator, stray, ends_word, may_end, escape_of, in_text, text_in}
use Rattle.djq_value.specs.Token.{text_front, behind_spaces, behind_word, less_front, greater_front, not_front}
use Rattle.djq_value.specs.Token.{token_front, token_at, and_then, tokens_within, tokens, word, open_paren, close_paren}
use Rattle.djq_value.specs.Token.{comma, arrow, word_front}
use Rattle.djq_value.specs.Spelling.{HasNoStray, IsSpaces, IsToken, BeginsOtherwise, MayFollow, IsSpelling, token_text}
use Rattle.djq_value.specs.ValueText.{escaped}
use Rattle.djq_value.proofs.Texts.{IsSpelledText, text_read, text_spelled}

-- ---- The tokens of a line, one after the other.

-- Behind the first token of bytes are fewer than so many.
abbrev pub IsShorter : ℕ → Option (Token × Bytes) → Type 0
IsShorter n None = Unit {0}
IsShorter n (Some t) = length t.1 < n

-- Behind a text that ends are fewer than so many.
abbrev IsShorterText : ℕ → Option (Bytes × Bytes) → Type 0
IsShorterText n None = Unit {0}
IsShorterText n (Some r) = length r.1 < n

shorter_text : (o : Option (Bytes × Bytes)) (n : ℕ) → IsShorterText n o → IsShorterText (suc n) o
shorter_text None n h = tt
shorter_text (Some r) n h = omega (arith, h)

in_text_shorter : (b : Option ℕ) (o : Option (Bytes × Bytes)) (n : ℕ) → IsShorterText n o
    → IsShorterText (suc n) (in_text b o)
in_text_shorter None o n h = tt
in_text_shorter (Some b) None n h = tt
in_text_shorter (Some b) (Some r) n h = omega (arith, h)

cond_le : (b : Bool) (xs ys : Bytes) (n : ℕ) → length xs ≤ n → length ys ≤ n → length (cond b xs ys) ≤ n
cond_le true xs ys n h k = h
cond_le false xs ys n h k = k

length-behind_spaces : (bs : Bytes) → length (behind_spaces bs) ≤ length bs
length-behind_spaces [] = omega arith
length-behind_spaces (b ∷ bs) = cond_le (eqb b 32) (behind_spaces bs) (b ∷ bs) (suc (length bs))
    (omega (arith, length-behind_spaces bs)) (omega arith)

length-behind_word : (bs : Bytes) → length (behind_word bs) ≤ length bs
length-behind_word [] = omega arith
length-behind_word (b ∷ bs) = cond_le (ends_word b) (b ∷ bs) (behind_word bs) (suc (length bs)) (omega arith)
    (omega (arith, length-behind_word bs))

cond_shorter : (b : Bool) (s t : Token × Bytes) (n : ℕ) → length s.1 < n → length t.1 < n → length (cond b s t).1 < n
cond_shorter true s t n h k = h
cond_shorter false s t n h k = k

-- what is behind a sign of one byte or of two is shorter
sign_shorter : (c : Bool) (s t : Token) (b : ℕ) (bs : Bytes)
    → length (cond {A = Token × Bytes} c (s, bs) (t, b ∷ bs)).1 ≤ suc (length bs)
sign_shorter true s t b bs = omega arith
sign_shorter false s t b bs = omega arith

less_shorter : (bs : Bytes) → length (less_front bs).1 ≤ length bs
less_shorter [] = omega arith
less_shorter (b ∷ bs) = cond_both (eqb b 45) _ _ (λ (r : Token × Bytes). length r.1 ≤ suc (length bs))
    (λ _. omega arith)
    (λ _. sign_shorter (eqb b 61) (operator LessOrEqual) (operator Less) b bs)

greater_shorter : (bs : Bytes) → length (greater_front bs).1 ≤ length bs
greater_shorter [] = omega arith
greater_shorter (b ∷ bs) = sign_shorter (eqb b 61) (operator GreaterOrEqual) (operator Greater) b bs

not_shorter : (bs : Bytes) → length (not_front bs).1 ≤ length bs
not_shorter [] = omega arith
not_shorter (b ∷ bs) = sign_shorter (eqb b 61) (operator NotEqual) stray b bs

-- what is behind a text is shorter
text_shorter : (escape : Bool) (bs : Bytes) → IsShorterText (length bs) (text_in escape bs)
text_shorter escape [] = tt
text_shorter true (b ∷ bs) = in_text_shorter (escape_of b) (text_in false bs) (length bs) (text_shorter false bs)
text_shorter false (b ∷ bs) =
    let n = suc (length bs) in
    cond_both (eqb b 34) _ _ (IsShorterText n) (λ _. omega arith) (λ _.
    cond_both (eqb b 92) _ _ (IsShorterText n) (λ _. shorter_text (text_in true bs) (length bs) (text_shorter true bs))
    (λ _.
    cond_both (eqb b 10) _ _ (IsShorterText n) (λ _. tt)
    (λ _. in_text_shorter (Some b) (text_in false bs) (length bs) (text_shorter false bs))))

text_front_shorter : (o : Option (Bytes × Bytes)) (n : ℕ) → 0 < n → IsShorterText n o → length (text_front o).1 < n
text_front_shorter None n some h = some
text_front_shorter (Some r) n some h = cond_shorter (may_end r.1) (text r.0, r.1) (stray, r.1) n h h

front_shorter : (bs : Bytes) → IsShorter (length bs) (token_front bs)
front_shorter [] = tt
front_shorter (b ∷ bs) =
    let n = suc (length bs) in
    let here : length bs < n = omega arith in
    cond_shorter (eqb b 40) _ _ n here
    (cond_shorter (eqb b 41) _ _ n here
    (cond_shorter (eqb b 44) _ _ n here
    (cond_shorter (eqb b 60) _ _ n (omega (arith, less_shorter bs))
    (cond_shorter (eqb b 61) _ _ n here
    (cond_shorter (eqb b 62) _ _ n (omega (arith, greater_shorter bs))
    (cond_shorter (eqb b 33) _ _ n (omega (arith, not_shorter bs))
    (cond_shorter (eqb b 34) _ _ n
    (text_front_shorter (text_in false bs) n (omega arith)
    (shorter_text (text_in false bs) (length bs) (text_shorter false bs)))
    (omega (arith, length-behind_word bs)))))))))

pub shorter_within : (o : Option (Token × Bytes)) (m n : ℕ) → m ≤ n → IsShorter m o → IsShorter n o
shorter_within None m n h s = tt
shorter_within (Some t) m n h s = omega (arith, s)

pub token_shorter : (bs : Bytes) → IsShorter (length bs) (token_at bs)
token_shorter bs = shorter_within (token_at bs) (length (behind_spaces bs)) (length bs) (length-behind_spaces bs)
    (front_shorter (behind_spaces bs))

-- As many steps as there are bytes are enough, and more change nothing.
step_same : (o : Option (Token × Bytes)) (k : ℕ) (f g : Bytes → List Token) → IsShorter (suc k) o
    → ((bs : Bytes) → length bs ≤ k → f bs ≡ g bs) → and_then f o ≡ and_then g o
step_same None k f g s h = refl
step_same (Some t) k f g s h = ap (λ ts. t.0 ∷ ts) (h t.1 (omega (arith, s)))

within_same : (m n : ℕ) (bs : Bytes) → length bs ≤ m → length bs ≤ n → tokens_within m bs ≡ tokens_within n bs
within_same zero zero bs h k = refl
within_same zero (suc n) [] h k = refl
within_same zero (suc n) (b ∷ bs) h k = absurd (omega (arith, h))
within_same (suc m) zero [] h k = refl
within_same (suc m) zero (b ∷ bs) h k = absurd (omega (arith, k))
within_same (suc m) (suc n) bs h k =
    step_less (token_at bs) (length bs) m n h k (token_shorter bs) (λ cs. within_same m n cs)
  where
    step_less : (o : Option (Token × Bytes)) (l m n : ℕ) → l ≤ suc m → l ≤ suc n → IsShorter l o
        → ((cs : Bytes) → length cs ≤ m → length cs ≤ n → tokens_within m cs ≡ tokens_within n cs)
        → and_then (tokens_within m) o ≡ and_then (tokens_within n) o
    step_less None l m n h k s same = refl
    step_less (Some t) l m n h k s same = ap (λ ts. t.0 ∷ ts) (same t.1 (omega (arith, s)) (omega (arith, s)))

-- the first token, and then those of what is behind it
pub tokens-step : (bs : Bytes) → tokens bs ≡ and_then tokens (token_at bs)
unfolding tokens
tokens-step [] = refl
tokens-step (b ∷ bs) = step_same (token_at (b ∷ bs)) (length bs) (tokens_within (length bs))
    (λ cs. tokens_within (length cs) cs) (token_shorter (b ∷ bs))
    (λ cs h. within_same (length bs) (length cs) cs h (omega arith))

-- where no token is left
pub tokens-none : (bs : Bytes) → token_at bs ≡ None → tokens bs ≡ []
tokens-none bs e = tokens-step bs ∙ ap (and_then tokens) e

-- where a token is in front
pub tokens-some : (bs : Bytes) (t : Token) (rest : Bytes) → token_at bs ≡ Some (t, rest) → tokens bs ≡ t ∷ tokens rest
tokens-some bs t rest e = tokens-step bs ∙ ap (and_then tokens) e

pub next_none : (rest bytes : Bytes) → bytes ≡ behind_spaces rest → length bytes ≡ 0 → (tokens rest ≡ [])
    × (tokens bytes ≡ [])
next_none rest bytes e h =
    let none = nil_from_length bytes h in
    (tokens-none rest (ap token_front (sym e ∙ none)), ap tokens none ∙ tokens-none [] refl)

pub next_some : (rest bytes : Bytes) (t : Token) (more : Bytes) → bytes ≡ behind_spaces rest → token_front bytes
    ≡ Some (t, more) → tokens rest ≡ t ∷ tokens more
next_some rest bytes t more e h = tokens-some rest t more (ap token_front (sym e) ∙ h)

front_none : (bs : Bytes) → token_front bs ≡ None → bs ≡ []
front_none [] e = refl
front_none (b ∷ bs) e = absurd cc

step_none : (o : Option (Token × Bytes)) → and_then tokens o ≡ [] → o ≡ None
step_none None e = refl
step_none (Some t) e = absurd cc

-- no token is left exactly where only spaces are
pub tokens-done : (bs : Bytes) (n : ℕ) → n ≤ length bs → drop n bs ≡ behind_spaces bs → tokens bs ≡ [] → n ≡ length bs
tokens-done bs n h e none =
    let empty : drop n bs ≡ [] = e
    ∙ front_none (behind_spaces bs) (step_none (token_at bs) (sym (tokens-step bs) ∙ none)) in
    omega (arith, length-drop n bs, ap length empty)

pub tokens-empty : (bs : Bytes) (n : ℕ) → n ≡ length bs → drop n bs ≡ behind_spaces bs → tokens bs ≡ []
tokens-empty bs n h e = tokens-none bs (ap token_front (sym e ∙ drop_all n bs (omega arith)))

-- ---- The tokens of a line are those that it spells.

pub front_stop : (c : ℕ) (cs : Bytes) → ends_word c ≡ true → word_front (c ∷ cs) ≡ []
front_stop c cs e = take_while-cons (λ b. not (ends_word b)) c cs ∙ cond-false _ _ _ (ap not e)

pub front_go : (c : ℕ) (cs : Bytes) → ends_word c ≡ false → word_front (c ∷ cs) ≡ c ∷ word_front cs
front_go c cs e = take_while-cons (λ b. not (ends_word b)) c cs ∙ cond-true _ _ _ (ap not e)

-- From tokens that are spelled to tokens that are read.

spaces_passed : (front bs : Bytes) → IsSpaces front → behind_spaces (front ++ bs) ≡ behind_spaces bs
spaces_passed [] bs h = refl
spaces_passed (b ∷ front) bs h =
    cond-true _ _ _ (eq-eqb b 32 (All-head (λ x. x ≡ 32) b front h))
    ∙ spaces_passed front bs (All-tail (λ x. x ≡ 32) b front h)

front_all : (w behind : Bytes) → All (λ b. ends_word b ≡ false) w → may_end behind ≡ true → word_front (w ++ behind) ≡ w
front_all [] [] h f = refl
front_all [] (b ∷ bs) h f = front_stop b bs f
front_all (b ∷ w) behind h f =
    front_go b (w ++ behind) (All-head (λ x. ends_word x ≡ false) b w h)
    ∙ ap (λ xs. b ∷ xs) (front_all w behind (All-tail (λ x. ends_word x ≡ false) b w h) f)

behind_all : (w behind : Bytes) → All (λ b. ends_word b ≡ false) w → may_end behind ≡ true → behind_word (w ++ behind)
    ≡ behind
behind_all [] [] h f = refl
behind_all [] (b ∷ bs) h f = cond-true _ _ _ f
behind_all (b ∷ w) behind h f =
    cond-false _ _ _ (All-head (λ x. ends_word x ≡ false) b w h)
    ∙ behind_all w behind (All-tail (λ x. ends_word x ≡ false) b w h) f

-- a byte of a word is none of the bytes that end one
pub record IsInner (b : ℕ) : Type 0 where
  pub space : eqb b 32 ≡ false
  pub bang : eqb b 33 ≡ false
  pub open_sign : eqb b 40 ≡ false
  pub close_sign : eqb b 41 ≡ false
  pub comma_sign : eqb b 44 ≡ false
  pub angle : eqb b 60 ≡ false
  pub equals : eqb b 61 ≡ false
  pub greater : eqb b 62 ≡ false

pub inner : (b : ℕ) → ends_word b ≡ false → IsInner b
inner b e =
    let at_greater = or_parts (eqb b 32 || eqb b 33 || eqb b 40 || eqb b 41 || eqb b 44 || eqb b 60 || eqb b 61)
    (eqb b 62) e in
    let at_equals = or_parts (eqb b 32 || eqb b 33 || eqb b 40 || eqb b 41 || eqb b 44 || eqb b 60) (eqb b 61)
    at_greater.0 in
    let at_angle = or_parts (eqb b 32 || eqb b 33 || eqb b 40 || eqb b 41 || eqb b 44) (eqb b 60) at_equals.0 in
    let at_comma = or_parts (eqb b 32 || eqb b 33 || eqb b 40 || eqb b 41) (eqb b 44) at_angle.0 in
    let at_close = or_parts (eqb b 32 || eqb b 33 || eqb b 40) (eqb b 41) at_comma.0 in
    let at_open = or_parts (eqb b 32 || eqb b 33) (eqb b 40) at_close.0 in
    let at_bang = or_parts (eqb b 32) (eqb b 33) at_open.0 in
    record {
      space = at_bang.0;
      bang = at_bang.1;
      open_sign = at_open.1;
      close_sign = at_close.1;
      comma_sign =
          at_comma.1;
      angle = at_angle.1;
      equals = at_equals.1;
      greater = at_greater.1;
    }

text_read_front : (t behind : Bytes) → may_end behind ≡ true
    → text_front (text_in false ((flat_map escaped t ++ 34 ∷ []) ++ behind)) ≡ (text t, behind)
text_read_front t behind f =
    ap (λ xs. text_front (text_in false xs)) (append_assoc (flat_map escaped t) (34 ∷ []) behind)
    ∙ ap text_front (text_read t behind) ∙ cond-true _ _ _ f

-- `<` and `>` in front of what makes no longer sign of them
less_read : (bs : Bytes) → BeginsOtherwise 45 bs → BeginsOtherwise 61 bs → less_front bs ≡ (operator Less, bs)
less_read [] h k = refl
less_read (b ∷ bs) h k =
    cond-false _ _ _ (ne_eqb b 45 (λ e. h (ap (λ x. Some x) e)))
    ∙ cond-false _ _ _ (ne_eqb b 61 (λ e. k (ap (λ x. Some x) e)))

greater_read : (bs : Bytes) → BeginsOtherwise 61 bs → greater_front bs ≡ (operator Greater, bs)
greater_read [] h = refl
greater_read (b ∷ bs) h = cond-false _ _ _ (ne_eqb b 61 (λ e. h (ap (λ x. Some x) e)))

pub token_read : (t : Token) (behind : Bytes) → IsToken t → MayFollow t behind → token_front (token_text t ++ behind)
    ≡ Some (t, behind)
token_read open_paren behind h f = refl
token_read close_paren behind h f = refl
token_read comma behind h f = refl
token_read arrow behind h f = refl
token_read (operator Less) behind h f = ap (λ p. Some p) (less_read behind f.0 f.1)
token_read (operator LessOrEqual) behind h f = refl
token_read (operator Greater) behind h f = ap (λ p. Some p) (greater_read behind f)
token_read (operator GreaterOrEqual) behind h f = refl
token_read (operator Equal) behind h f = refl
token_read (operator NotEqual) behind h f = refl
token_read stray behind h f = absurd h
token_read (text t) behind h f = ap (λ p. Some p) (text_read_front t behind f)
token_read (word []) behind h f = absurd (omega (arith, h.0))
token_read (word (b ∷ w)) behind h f =
    let here = inner b (All-head (λ x. ends_word x ≡ false) b w h.1) in
    let more = All-tail (λ x. ends_word x ≡ false) b w h.1 in
    ap (λ p. Some p)
    (cond-false _ _ _ here.open_sign ∙ cond-false _ _ _ here.close_sign ∙ cond-false _ _ _ here.comma_sign
    ∙ cond-false _ _ _ here.angle
    ∙ cond-false _ _ _ here.equals ∙ cond-false _ _ _ here.greater ∙ cond-false _ _ _ here.bang
    ∙ cond-false _ _ _ (ne_eqb b 34 h.2)
    ∙ ap₂ (λ (xs ys : Bytes). (word (b ∷ xs), ys)) (front_all w behind more f) (behind_all w behind more f))

pub no_space : (t : Token) (behind : Bytes) → IsToken t
    → behind_spaces (token_text t ++ behind) ≡ token_text t ++ behind
no_space open_paren behind h = refl
no_space close_paren behind h = refl
no_space comma behind h = refl
no_space arrow behind h = refl
no_space (operator Less) behind h = refl
no_space (operator LessOrEqual) behind h = refl
no_space (operator Greater) behind h = refl
no_space (operator GreaterOrEqual) behind h = refl
no_space (operator Equal) behind h = refl
no_space (operator NotEqual) behind h = refl
no_space stray behind h = absurd h
no_space (text t) behind h = refl
no_space (word []) behind h = absurd (omega (arith, h.0))
no_space (word (b ∷ w)) behind h = cond-false _ _ _ (inner b (All-head (λ x. ends_word x ≡ false) b w h.1)).space

pub spelled_read : (ts : List Token) (line : Bytes) → IsSpelling ts line → tokens line ≡ ts
spelled_read [] line s = tokens-none line
    (ap token_front (ap behind_spaces (sym (append-nil line)) ∙ spaces_passed line [] s))
spelled_read (t ∷ ts) line s =
    let front = s.0 in
    let behind = s.1 in
    tokens-some line t behind
    (ap token_at s.3 ∙ ap token_front (spaces_passed front (token_text t ++ behind) s.2 ∙ no_space t behind s.4)
    ∙ token_read t behind s.4 s.5)
    ∙ ap (λ more. t ∷ more) (spelled_read ts behind s.6)

-- From tokens that are read to tokens that are spelled.

pub cut_spaces : (bs : Bytes) → (front : Bytes) × IsSpaces front × (bs ≡ front ++ behind_spaces bs)
cut_spaces [] = ([], All-nil (λ x. x ≡ 32), refl)
cut_spaces (b ∷ bs) = cut (eqb b 32) refl (cut_spaces bs)
  where
    cut : (t : Bool) → t ≡ eqb b 32 → ((front : Bytes) × IsSpaces front × (bs ≡ front ++ behind_spaces bs))
        → (front : Bytes) × IsSpaces front × (b ∷ bs ≡ front ++ cond t (behind_spaces bs) (b ∷ bs))
    cut true e more = (
      b ∷ more.0,
      All-cons (λ x. x ≡ 32) b more.0 (eqb-true b 32 (sym e)) more.1,
      ap (λ xs. b ∷ xs)
          more.2,
    )
    cut false e more = ([], All-nil (λ x. x ≡ 32), refl)

-- bytes that begin with no space
abbrev pub HasNoSpaceFirst : Bytes → Type 0
HasNoSpaceFirst [] = Unit {0}
HasNoSpaceFirst (b ∷ bs) = eqb b 32 ≡ false

pub no_space_first : (bs : Bytes) → HasNoSpaceFirst (behind_spaces bs)
no_space_first [] = tt
no_space_first (b ∷ bs) = cond_both (eqb b 32) (behind_spaces bs) (b ∷ bs) HasNoSpaceFirst (λ e. no_space_first bs)
    (λ e. e)

-- a token in front of bytes, and what is behind it
abbrev pub IsCut : Bytes → Token → Bytes → Type 0
IsCut bs t behind = (bs ≡ token_text t ++ behind) × IsToken t × MayFollow t behind

abbrev pub IsReal : Token → Type 0
IsReal stray = ⊥
IsReal _ = Unit {0}

-- the same, where it is a token at all
abbrev pub IsFirstToken : Bytes → Token × Bytes → Type 0
IsFirstToken bs p = IsReal p.0 → IsCut bs p.0 p.1

word_cut : (cs : Bytes) → cs ≡ word_front cs ++ behind_word cs
word_cut [] = refl
word_cut (c ∷ cs) = elim (cases_Bool (ends_word c)) [
  | inl ends ↦ sym (ap₂ (λ (xs ys : Bytes). xs ++ ys) (front_stop c cs ends) (cond-true _ _ _ ends))
  | inr more ↦ ap (λ xs. c ∷ xs) (word_cut cs)
      ∙ sym (ap₂ (λ (xs ys : Bytes). xs ++ ys) (front_go c cs more) (cond-false _ _ _ more))
]

word_all : (cs : Bytes) → All (λ b. ends_word b ≡ false) (word_front cs)
word_all [] = All-nil (λ b. ends_word b ≡ false)
word_all (c ∷ cs) = elim (cases_Bool (ends_word c)) [
  | inl ends ↦ subst (λ (xs : Bytes). All (λ b. ends_word b ≡ false) xs) (sym (front_stop c cs ends))
      (All-nil (λ b. ends_word b ≡ false))
  | inr more ↦ subst (λ (xs : Bytes). All (λ b. ends_word b ≡ false) xs) (sym (front_go c cs more))
      (All-cons (λ b. ends_word b ≡ false) c (word_front cs) more (word_all cs))
]

word_end : (cs : Bytes) → may_end (behind_word cs) ≡ true
word_end [] = refl
word_end (c ∷ cs) = cond_both (ends_word c) (c ∷ cs) (behind_word cs) (λ xs. may_end xs ≡ true) (λ e. e)
    (λ e. word_end cs)

inner_first : (b : ℕ) → eqb b 32 ≡ false → eqb b 33 ≡ false → eqb b 40 ≡ false → eqb b 41 ≡ false → eqb b 44 ≡ false
    → eqb b 60 ≡ false → eqb b 61 ≡ false
    → eqb b 62 ≡ false → ends_word b ≡ false
inner_first b e f g h i j k l = or_from _ _
    (or_from _ _ (or_from _ _ (or_from _ _ (or_from _ _ (or_from _ _ (or_from _ _ e f) g) h) i) j) k) l

-- bytes that begin with another one
begins_otherwise : (b c : ℕ) (bs : Bytes) → eqb c b ≡ false → BeginsOtherwise b (c ∷ bs)
begins_otherwise b c bs differ e = eqb-false c b differ (ap (λ (o : Option ℕ). unwrap_or o 0) e)

less_first : (b : ℕ) (cs : Bytes) → b ≡ 60 → IsFirstToken (b ∷ cs) (less_front cs)
less_first b [] e = λ _. (ap (λ x. x ∷ []) e, tt, (λ none. absurd cc, λ none. absurd cc))
less_first b (c ∷ cs) e =
    let P = IsFirstToken (b ∷ c ∷ cs) in
    cond_both (eqb c 45) _ _ P (λ is _. (ap₂ (λ (x y : ℕ). x ∷ y ∷ cs) e (eqb-true c 45 is), tt, tt)) (λ no_arrow.
    cond_both (eqb c 61) _ _ P (λ is _. (ap₂ (λ (x y : ℕ). x ∷ y ∷ cs) e (eqb-true c 61 is), tt, tt)) (λ no_equals _.
    (ap (λ x. x ∷ c ∷ cs) e, tt, (begins_otherwise 45 c cs no_arrow, begins_otherwise 61 c cs no_equals))))

greater_first : (b : ℕ) (cs : Bytes) → b ≡ 62 → IsFirstToken (b ∷ cs) (greater_front cs)
greater_first b [] e = λ _. (ap (λ x. x ∷ []) e, tt, λ none. absurd cc)
greater_first b (c ∷ cs) e =
    let P = IsFirstToken (b ∷ c ∷ cs) in
    cond_both (eqb c 61) _ _ P (λ is _. (ap₂ (λ (x y : ℕ). x ∷ y ∷ cs) e (eqb-true c 61 is), tt, tt)) (λ no_equals _.
    (ap (λ x. x ∷ c ∷ cs) e, tt, begins_otherwise 61 c cs no_equals))

not_first : (b : ℕ) (cs : Bytes) → b ≡ 33 → IsFirstToken (b ∷ cs) (not_front cs)
not_first b [] e = λ real. absurd real
not_first b (c ∷ cs) e =
    cond_both (eqb c 61) _ _ (IsFirstToken (b ∷ c ∷ cs))
    (λ is _. (ap₂ (λ (x y : ℕ). x ∷ y ∷ cs) e (eqb-true c 61 is), tt, tt))
    (λ no real. absurd real)

text_first : (b : ℕ) (cs : Bytes) (o : Option (Bytes × Bytes)) → b ≡ 34 → IsSpelledText false cs o
    → IsFirstToken (b ∷ cs) (text_front o)
text_first b cs None e h = λ real. absurd real
text_first b cs (Some r) e h =
    cond_both (may_end r.1) (text r.0, r.1) (stray, r.1) (IsFirstToken (b ∷ cs))
    (λ ends _. (
      ap₂ (λ (x : ℕ) (xs : Bytes). x ∷ xs) e (h ∙ sym (append_assoc (flat_map escaped r.0) (34 ∷ []) r.1)),
      tt,
      ends,
    ))
    (λ no real. absurd real)

first_token : (b : ℕ) (cs : Bytes) → eqb b 32 ≡ false → IsFirstToken (b ∷ cs) (
    cond (eqb b 40) (open_paren, cs)
    (cond (eqb b 41) (close_paren, cs) (cond (eqb b 44) (comma, cs) (cond (eqb b 60) (less_front cs)
    (cond (eqb b 61) (operator Equal, cs) (cond (eqb b 62) (greater_front cs) (cond (eqb b 33) (not_front cs)
    (cond (eqb b 34) (text_front (text_in false cs)) (word (b ∷ word_front cs), behind_word cs)))))))))
first_token b cs not_space =
    let P = IsFirstToken (b ∷ cs) in
    cond_both (eqb b 40) _ _ P (λ is _. (ap (λ x. x ∷ cs) (eqb-true b 40 is), tt, tt)) (λ no_open.
    cond_both (eqb b 41) _ _ P (λ is _. (ap (λ x. x ∷ cs) (eqb-true b 41 is), tt, tt)) (λ no_close.
    cond_both (eqb b 44) _ _ P (λ is _. (ap (λ x. x ∷ cs) (eqb-true b 44 is), tt, tt)) (λ no_comma.
    cond_both (eqb b 60) _ _ P (λ is. less_first b cs (eqb-true b 60 is)) (λ no_angle.
    cond_both (eqb b 61) _ _ P (λ is _. (ap (λ x. x ∷ cs) (eqb-true b 61 is), tt, tt)) (λ no_equals.
    cond_both (eqb b 62) _ _ P (λ is. greater_first b cs (eqb-true b 62 is)) (λ no_greater.
    cond_both (eqb b 33) _ _ P (λ is. not_first b cs (eqb-true b 33 is)) (λ no_bang.
    cond_both (eqb b 34) _ _ P (λ is. text_first b cs (text_in false cs) (eqb-true b 34 is) (text_spelled false cs))
    (λ no_quote _. (
      ap (λ xs. b ∷ xs) (word_cut cs),
      (
        omega arith,
        All-cons (λ x. ends_word x ≡ false) b (word_front cs)
            (inner_first b not_space no_bang no_open no_close no_comma no_angle no_equals no_greater) (word_all cs),
        eqb-false b 34 no_quote,
      ),
      word_end cs,
    )))))))))

-- what is known of the first token
abbrev pub IsFirst : Bytes → Option (Token × Bytes) → Type 0
IsFirst bs None = bs ≡ []
IsFirst bs (Some p) = IsFirstToken bs p

pub front_first : (bs : Bytes) → HasNoSpaceFirst bs → IsFirst bs (token_front bs)
front_first [] h = refl
front_first (b ∷ cs) h = first_token b cs h

no_stray_first : (t : Token) (ts : List Token) → HasNoStray (t ∷ ts) → IsReal t × HasNoStray ts
no_stray_first stray ts h = absurd h
no_stray_first (word w) ts h = (tt, h)
no_stray_first (text t) ts h = (tt, h)
no_stray_first open_paren ts h = (tt, h)
no_stray_first close_paren ts h = (tt, h)
no_stray_first comma ts h = (tt, h)
no_stray_first arrow ts h = (tt, h)
no_stray_first (operator o) ts h = (tt, h)

spell_step : (bs : Bytes) (n : ℕ) (o : Option (Token × Bytes)) → IsFirst (behind_spaces bs) o → IsShorter (suc n) o
    → HasNoStray (and_then (tokens_within n) o)
    → ((cs : Bytes) → length cs ≤ n → HasNoStray (tokens_within n cs) → IsSpelling (tokens_within n cs) cs)
    → IsSpelling (and_then (tokens_within n) o) bs
spell_step bs n None first s real more =
    let cut = cut_spaces bs in
    let all : bs ≡ cut.0 = cut.2 ∙ ap (λ xs. cut.0 ++ xs) first ∙ append-nil cut.0 in
    subst IsSpaces (sym all) cut.1
spell_step bs n (Some p) first s real more =
    let cut = cut_spaces bs in
    let parts = no_stray_first p.0 (tokens_within n p.1) real in
    let here = first parts.0 in
    (cut.0, p.1, cut.1, cut.2 ∙ ap (λ xs. cut.0 ++ xs) here.0, here.1, here.2, more p.1 (omega (arith, s)) parts.1)

read_spelled : (n : ℕ) (bs : Bytes) → length bs ≤ n → HasNoStray (tokens_within n bs)
    → IsSpelling (tokens_within n bs) bs
read_spelled zero [] h real = All-nil (λ x. x ≡ 32)
read_spelled zero (b ∷ bs) h real = absurd (omega (arith, h))
read_spelled (suc n) bs h real =
    spell_step bs n (token_at bs) (front_first (behind_spaces bs) (no_space_first bs))
    (shorter_within (token_at bs) (length bs) (suc n) h (token_shorter bs)) real (λ cs k r. read_spelled n cs k r)

pub tokens_spelled : (line : Bytes) (ts : List Token) → tokens line ≡ ts → HasNoStray ts → IsSpelling ts line
unfolding tokens
tokens_spelled line ts e real =
    subst (λ (us : List Token). IsSpelling us line) e
    (read_spelled (length line) line (omega arith) (subst HasNoStray (sym e) real))

spelled_real : (ts : List Token) (line : Bytes) → IsSpelling ts line → HasNoStray ts
spelled_real [] line s = tt
spelled_real (stray ∷ ts) line s = absurd (s.4)
spelled_real (word w ∷ ts) line s = spelled_real ts s.1 s.6
spelled_real (text t ∷ ts) line s = spelled_real ts s.1 s.6
spelled_real (open_paren ∷ ts) line s = spelled_real ts s.1 s.6
spelled_real (close_paren ∷ ts) line s = spelled_real ts s.1 s.6
spelled_real (comma ∷ ts) line s = spelled_real ts s.1 s.6
spelled_real (arrow ∷ ts) line s = spelled_real ts s.1 s.6
spelled_real (operator o ∷ ts) line s = spelled_real ts s.1 s.6

pub tokens_are_spelled : (line : Bytes) (ts : List Token) → ((tokens line ≡ ts) × HasNoStray ts) ↔ IsSpelling ts line
tokens_are_spelled line ts =
    (λ h. tokens_spelled line ts h.0 h.1, λ s. (spelled_read ts line s, spelled_real ts line s))
