-- Texts: their escapes, how they are scanned, and how they are written.
use Rattle.std.proofs.Common.{ℕ, ◌≡◌, ◌≤◌, ◌<◌, ◌/◌, length, arith, ◌+◌, ◌∷◌, ◌++◌, [], List, cond, true, false, Bool}
use Rattle.std.proofs.Common.{eqb, refl, ap, ◌∙◌, length-append, count_by, ◌||◌, suc, Option, Some, None, sym, ap₂}
use Rattle.std.proofs.Common.{append_assoc, inl, inr, subst, drop, take, get_or, drop-cons, add-one, leb, Result, Ok}
use Rattle.std.proofs.Common.{Err, zero, append-nil}
use Rattle.std.specs.Fmt.{decimal}
use Rattle.itoa.proofs.Decimal.{length_one, length_two, length_pair, length_four}
use Rattle.std.proofs.lemmas.Bool.{ne_eqb, cond-true, cond-false, cond_both, cases_Bool, eqb-true, or_parts, and_parts}
use Rattle.std.proofs.lemmas.Bool.{leb-true, false_from_ne_true}
use Rattle.std.specs.List.{flat_map, list_all}
use Rattle.std.proofs.lemmas.List.Sums.{sum_by-cons}
use Rattle.std.proofs.Math.Seq.{take-append_seam}
use Rattle.std.proofs.lemmas.List.{length-drop, take_more, length-take-le, take_at, take-take}
use Rattle.std.specs.Prelude.{IsUtf8, MatchResult, is_ok}
use Rattle.std.specs.Str.{IsAscii, is_utf8}
use Rattle.std.proofs.lemmas.Str.{IsUtf8-from_is_utf8, IsUtf8-from_ascii, is_utf8-from_IsUtf8}
use Rattle.std.proofs.lemmas.Str.Ascii.{IsAscii-nil, IsAscii-cons}
use Rattle.std.proofs.lemmas.Grind.{flat_map-append}
use Rattle.djq_model.specs.Data.{Bytes}
use Rattle.djq_value.specs.ValueText.{escaped, is_escaped}
use Rattle.djq_value.specs.Token.{escape_of, in_text, text_in}
use Rattle.djq_value.specs.Quoted.{put_front}
use Rattle.djq_value.specs.TextAt.{EndsAt, text_at}
use Rattle.djq_value.specs.Writing.{Written}

-- ---- How many digits a number has, by what it is less than.

pub length_five : (n : ℕ) → 10000 ≤ n → n < 100000 → length (decimal n) ≡ 5
length_five n lo hi = omega (arith, length_four n lo (omega (arith, hi)), length_one (n / 10000) (omega (arith, hi)))

pub length_six : (n : ℕ) → 100000 ≤ n → n < 1000000 → length (decimal n) ≡ 6
length_six n lo hi =
    omega (
      arith,
      length_four n (omega (arith, lo)) (omega (arith, hi)),
      length_two (n / 10000) (omega (arith, lo))
          (omega (arith, hi)),
    )

pub length_seven : (n : ℕ) → 1000000 ≤ n → n < 10000000 → length (decimal n) ≡ 7
length_seven n lo hi =
    let m = n / 10000 in
    omega (
      arith,
      length_four n (omega (arith, lo)) (omega (arith, hi)),
      length_pair m (omega (arith, lo))
          (omega (arith, hi)),
      length_one (m / 100) (omega (arith, hi)),
    )

pub length_eight : (n : ℕ) → 10000000 ≤ n → n < 100000000 → length (decimal n) ≡ 8
length_eight n lo hi =
    let m = n / 10000 in
    omega (
      arith,
      length_four n (omega (arith, lo)) (omega (arith, hi)),
      length_pair m (omega (arith, lo))
          (omega (arith, hi)),
      length_two (m / 100) (omega (arith, lo)) (omega (arith, hi)),
    )

-- ---- How many bytes a text has with its escapes.

-- a byte has one more where it needs an escape
length-escaped : (b : ℕ) → length (escaped b) ≡ cond (is_escaped b) 2 1
length-escaped b = quote_first (eqb b 34) (eqb b 92) (eqb b 10)
  where
    quote_first : (p q r : Bool)
        → length (cond p (92 ∷ 34 ∷ []) (cond q (92 ∷ 92 ∷ []) (cond r (92 ∷ 110 ∷ []) (b ∷ []))))
        ≡ cond (p || q || r) 2 1
    quote_first true q r = refl
    quote_first false true r = refl
    quote_first false false true = refl
    quote_first false false false = refl

counted : (p : Bool) (b e n k m : ℕ) → b ≡ cond p 2 1 → e ≡ n + k → m ≡ cond p 1 0 + k → b + e ≡ suc n + m
counted true b e n k m f g h = omega (arith, f, g, h)
counted false b e n k m f g h = omega (arith, f, g, h)

pub length-flat_map-escaped : (t : List ℕ) → length (flat_map escaped t) ≡ length t + count_by is_escaped t
length-flat_map-escaped [] = refl
length-flat_map-escaped (b ∷ bs) =
    length-append (escaped b) (flat_map escaped bs)
    ∙ counted (is_escaped b) (length (escaped b)) (length (flat_map escaped bs)) (length bs) (count_by is_escaped bs)
    (count_by is_escaped (b ∷ bs)) (length-escaped b) (length-flat_map-escaped bs)
    (sum_by-cons (λ x. cond (is_escaped x) 1 0) b bs)

plain_more_escapes : (p : Bool) (b : ℕ) (k m : ℕ) (here rest text : List ℕ) → m ≡ cond p 1 0 + k → m ≡ 0
    → (p ≡ false → here ≡ b ∷ []) → (k ≡ 0 → rest ≡ text) → here ++ rest ≡ b ∷ text
plain_more_escapes true b k m here rest text e z h r = absurd (omega (arith, e, z))
plain_more_escapes false b k m here rest text e z h r = ap (λ (xs : List ℕ). xs ++ rest) (h refl)
    ∙ ap (λ (xs : List ℕ). b ∷ xs) (r (omega (arith, e, z)))

pub plain_byte : (b : ℕ) → is_escaped b ≡ false → escaped b ≡ b ∷ []
plain_byte b = none_of (eqb b 34) (eqb b 92) (eqb b 10)
  where
    none_of : (p q r : Bool) → (p || q || r) ≡ false
        → cond p (92 ∷ 34 ∷ []) (cond q (92 ∷ 92 ∷ []) (cond r (92 ∷ 110 ∷ []) (b ∷ []))) ≡ b ∷ []
    none_of true q r e = absurd (cc)
    none_of false true r e = absurd (cc)
    none_of false false true e = absurd (cc)
    none_of false false false e = refl

-- a text of which no byte needs an escape is printed as it is
pub plain_text : (t : List ℕ) → count_by is_escaped t ≡ 0 → flat_map escaped t ≡ t
plain_text [] z = refl
plain_text (b ∷ bs) z =
    plain_more_escapes (is_escaped b) b (count_by is_escaped bs) (count_by is_escaped (b ∷ bs)) (escaped b)
    (flat_map escaped bs) bs
    (sum_by-cons (λ x. cond (is_escaped x) 1 0) b bs) z (plain_byte b) (plain_text bs)

-- no byte above the backslash needs an escape
pub plain_above : (b : ℕ) → 92 < b → is_escaped b ≡ false
plain_above b h = rw (
  ne_eqb b 34 (λ e. omega (arith, h, e)),
  ne_eqb b 92 (λ e. omega (arith, h, e)),
  ne_eqb b 10
      (λ e. omega (arith, h, e)),
) refl

-- ---- A text is read where it is spelled.

-- From a text that is spelled to one that is read.

byte_read : (b : ℕ) (t rest behind : Bytes) → text_in false rest ≡ Some (t, behind) → text_in false (escaped b ++ rest)
    ≡ Some (b ∷ t, behind)
byte_read b t rest behind e = elim (cases_Bool (eqb b 34)) [
  | inl quote ↦ ap (λ xs. text_in false (xs ++ rest)) (cond-true _ _ _ quote) ∙ ap (in_text (Some 34)) e
      ∙ ap (λ c. Some (c ∷ t, behind)) (sym (eqb-true b 34 quote))
  | inr no_quote ↦ elim (cases_Bool (eqb b 92)) [
    | inl back ↦ ap (λ xs. text_in false (xs ++ rest)) (cond-false _ _ _ no_quote ∙ cond-true _ _ _ back)
        ∙ ap (in_text (Some 92)) e ∙ ap (λ c. Some (c ∷ t, behind)) (sym (eqb-true b 92 back))
    | inr no_back ↦ elim (cases_Bool (eqb b 10)) [
      | inl feed ↦ ap (λ xs. text_in false (xs ++ rest))
          (cond-false _ _ _ no_quote ∙ cond-false _ _ _ no_back ∙ cond-true _ _ _ feed) ∙ ap (in_text (Some 10)) e
          ∙ ap (λ c. Some (c ∷ t, behind)) (sym (eqb-true b 10 feed))
      | inr no_feed ↦
          ap (λ xs. text_in false (xs ++ rest))
          (cond-false _ _ _ no_quote ∙ cond-false _ _ _ no_back ∙ cond-false _ _ _ no_feed)
          ∙ cond-false _ _ _ no_quote ∙ cond-false _ _ _ no_back ∙ cond-false _ _ _ no_feed ∙ ap (in_text (Some b)) e
    ]
  ]
]

pub text_read : (t behind : Bytes) → text_in false (flat_map escaped t ++ 34 ∷ behind) ≡ Some (t, behind)
text_read [] behind = refl
text_read (b ∷ t) behind =
    ap (text_in false) (append_assoc (escaped b) (flat_map escaped t) (34 ∷ behind))
    ∙ byte_read b t (flat_map escaped t ++ 34 ∷ behind) behind (text_read t behind)

-- From a text that is read to one that is spelled.

-- the bytes that were read
abbrev pub IsSpelledText : Bool → Bytes → Option (Bytes × Bytes) → Type 0
IsSpelledText escape bs None = Unit {0}
IsSpelledText true bs (Some r) = 92 ∷ bs ≡ flat_map escaped r.0 ++ 34 ∷ r.1
IsSpelledText false bs (Some r) = bs ≡ flat_map escaped r.0 ++ 34 ∷ r.1

more_text : (b : ℕ) (front bs : Bytes) (o : Option (Bytes × Bytes)) → escaped b ≡ front → IsSpelledText false bs o
    → IsSpelledText false (front ++ bs) (in_text (Some b) o)
more_text b front bs None e h = tt
more_text b front bs (Some r) e h =
    ap₂ (λ xs ys. xs ++ ys) (sym e) h ∙ sym (append_assoc (escaped b) (flat_map escaped r.0) (34 ∷ r.1))

back_text : (bs : Bytes) (o : Option (Bytes × Bytes)) → IsSpelledText false (92 ∷ bs) o → IsSpelledText true bs o
back_text bs None h = tt
back_text bs (Some r) h = h

fore_text : (b : ℕ) (bs : Bytes) (o : Option (Bytes × Bytes)) → b ≡ 92 → IsSpelledText true bs o
    → IsSpelledText false (b ∷ bs) o
fore_text b bs None e h = tt
fore_text b bs (Some r) e h = ap (λ c. c ∷ bs) e ∙ h

escape_text : (b : ℕ) (bs : Bytes) (o : Option (Bytes × Bytes)) → IsSpelledText false bs o
    → IsSpelledText true (b ∷ bs) (in_text (escape_of b) o)
escape_text b bs o h =
    let P = λ (e : Option ℕ). IsSpelledText true (b ∷ bs) (in_text e o) in
    cond_both (eqb b 34) _ _ P
    (λ is. back_text (b ∷ bs) (in_text (Some 34) o)
    (more_text 34 (92 ∷ b ∷ []) bs o (ap (λ c. 92 ∷ c ∷ []) (sym (eqb-true b 34 is))) h))
    (λ _. cond_both (eqb b 92) _ _ P
    (λ is. back_text (b ∷ bs) (in_text (Some 92) o)
    (more_text 92 (92 ∷ b ∷ []) bs o (ap (λ c. 92 ∷ c ∷ []) (sym (eqb-true b 92 is))) h))
    (λ _. cond_both (eqb b 110) _ _ P
    (λ is. back_text (b ∷ bs) (in_text (Some 10) o)
    (more_text 10 (92 ∷ b ∷ []) bs o (ap (λ c. 92 ∷ c ∷ []) (sym (eqb-true b 110 is))) h))
    (λ _. tt)))

pub text_spelled : (escape : Bool) (bs : Bytes) → IsSpelledText escape bs (text_in escape bs)
text_spelled true [] = tt
text_spelled false [] = tt
text_spelled true (b ∷ bs) = escape_text b bs (text_in false bs) (text_spelled false bs)
text_spelled false (b ∷ bs) =
    let P = IsSpelledText false (b ∷ bs) in
    cond_both (eqb b 34) _ _ P (λ is. ap (λ c. c ∷ bs) (eqb-true b 34 is)) (λ no_quote.
    cond_both (eqb b 92) _ _ P (λ is. fore_text b bs (text_in true bs) (eqb-true b 92 is) (text_spelled true bs))
    (λ no_back.
    cond_both (eqb b 10) _ _ P (λ _. tt) (λ no_feed.
    more_text b (b ∷ []) bs (text_in false bs)
    (cond-false _ _ _ no_quote ∙ cond-false _ _ _ no_back ∙ cond-false _ _ _ no_feed) (text_spelled false bs))))

-- ---- How a text is scanned, byte by byte.

-- So many bytes of a text were read, and some are left.
pub record HasRead (bytes : Bytes) (count : ℕ) (escape : Bool) (rest : Bytes) : Type 0 where
  pub read : Bytes
  pub split : text_in false bytes ≡ put_front read (text_in escape rest)
  pub counted : length read ≡ count

-- one more byte
put_front-more : (read : Bytes) (b : ℕ) (o : Option (Bytes × Bytes)) → put_front read (in_text (Some b) o)
    ≡ put_front (read ++ b ∷ []) o
put_front-more read b None = refl
put_front-more read b (Some r) = ap (λ xs. Some (xs, r.1)) (sym (append_assoc read (b ∷ []) r.0))

pub put_front-byte : (whole : Option (Bytes × Bytes)) (read rest behind : Bytes) (escape : Bool) (b c : ℕ)
    → whole ≡ put_front read (text_in escape rest) → rest ≡ b ∷ behind → text_in escape (b ∷ behind)
    ≡ in_text (Some c) (text_in false behind)
    → whole ≡ put_front (read ++ c ∷ []) (text_in false behind)
put_front-byte whole read rest behind escape b c e r s = e ∙ ap (λ xs. put_front read (text_in escape xs)) r
    ∙ ap (put_front read) s ∙ put_front-more read c (text_in false behind)

pub has_read-byte : (bytes rest behind : Bytes) (count : ℕ) (escape : Bool) (b c : ℕ) → HasRead bytes count escape rest
    → rest ≡ b ∷ behind
    → text_in escape (b ∷ behind) ≡ in_text (Some c) (text_in false behind) → HasRead bytes (count + 1) false behind
has_read-byte bytes rest behind count escape b c h r s = record {
  read = h.read ++ c ∷ [];
  split = put_front-byte (text_in false bytes) h.read rest behind escape b c h.split r s;
  counted = omega (arith, h.counted, length-append h.read (c ∷ []));
}

pub has_read-backslash : (bytes rest behind : Bytes) (count : ℕ) (escape : Bool) (b : ℕ)
    → HasRead bytes count escape rest → rest ≡ b ∷ behind
    → text_in escape (b ∷ behind) ≡ text_in true behind → HasRead bytes count true behind
has_read-backslash bytes rest behind count escape b h r s = record {
  read = h.read;
  split = h.split ∙ ap (λ xs. put_front h.read (text_in escape xs)) r ∙ ap (put_front h.read) s;
  counted = h.counted;
}

pub has_read_as : (bytes rest : Bytes) (count n : ℕ) (escape e : Bool) → n ≡ count → e ≡ escape
    → HasRead bytes count escape rest → HasRead bytes n e rest
has_read_as bytes rest count n escape e same was h = record {
  read = h.read;
  split = h.split ∙ ap (λ x. put_front h.read (text_in x rest)) (sym was);
  counted = h.counted ∙ sym same;
}

-- a byte that stands for itself
pub plain_step : (b : ℕ) (rest : Bytes) → is_escaped b ≡ false → text_in false (b ∷ rest)
    ≡ in_text (Some b) (text_in false rest)
plain_step b rest h =
    let feed = or_parts (eqb b 34 || eqb b 92) (eqb b 10) h in
    let back = or_parts (eqb b 34) (eqb b 92) feed.0 in
    cond-false _ _ _ back.0 ∙ cond-false _ _ _ back.1 ∙ cond-false _ _ _ feed.1

pub plain_more : (bytes : Bytes) (n : ℕ) → n < length bytes → is_escaped (get_or bytes n 0) ≡ false
    → text_in false bytes ≡ put_front (take n bytes) (text_in false (drop n bytes)) → text_in false bytes
    ≡ put_front (take (n + 1) bytes) (text_in false (drop (n + 1) bytes))
plain_more bytes n h plain e =
    let b = get_or bytes n 0 in
    let rest = drop (n + 1) bytes in
    let next : drop n bytes ≡ b ∷ rest = drop-cons bytes n 0 h ∙ ap (λ m. b ∷ drop m bytes) (sym (add-one n)) in
    put_front-byte (text_in false bytes) (take n bytes) (drop n bytes) rest false b b e next (plain_step b rest plain)
    ∙ ap (λ xs. put_front xs (text_in false rest)) (sym (take_more bytes n 0 h))

-- A text without an escape stands there as it is.
pub plain_piece : (bs : Bytes) (end n : ℕ) → EndsAt bs end n → end ≡ n + 1 → take n bs ≡ text_at bs
plain_piece bs end n h e =
    let t = text_at bs in
    let spelled : bs ≡ flat_map escaped t ++ 34 ∷ drop end bs = subst (IsSpelledText false bs) h.0
    (text_spelled false bs) in
    let none : count_by is_escaped t ≡ 0 =
    omega (
      arith,
      e,
      h.1,
      h.2,
      length-flat_map-escaped t,
      length-drop end bs,
      ap length spelled,
      length-append
          (flat_map escaped t) (34 ∷ drop end bs),
    ) in
    let whole : bs ≡ t ++ 34 ∷ drop end bs = spelled ∙ ap (λ xs. xs ++ 34 ∷ drop end bs) (plain_text t none) in
    ap (λ m. take m bs) (sym h.1) ∙ ap (take (length t)) whole ∙ take-append_seam t (34 ∷ drop end bs)

-- ---- The test of UTF-8, as a library's answer and as the spec's test.

-- an answer that is Ok exactly where a test holds
pub ok_is : {A E : Type 0} (r : Result A E) (b : Bool) (P : A → Type 0) (Q : E → Type 0) → MatchResult r P Q
    → ((a : A) → P a → b ≡ true) → ((e : E) → Q e → b ≡ false) → is_ok r ≡ b
ok_is (Ok a) b P Q h valid invalid = sym (valid a h)
ok_is (Err e) b P Q h valid invalid = sym (invalid e h)

pub utf8_no : (bytes : Bytes) → ¬ (IsUtf8 bytes) → is_utf8 bytes ≡ false
utf8_no bytes h = false_from_ne_true (is_utf8 bytes) (λ e. h (IsUtf8-from_is_utf8 bytes e))

ascii : (bs : Bytes) → list_all (λ b. leb b 127) bs ≡ true → IsAscii bs
ascii [] h = IsAscii-nil
ascii (b ∷ bs) h =
    let parts = and_parts (leb b 127) (list_all (λ c. leb c 127) bs) h in
    IsAscii-cons b bs (omega (arith, leb-true b 127 parts.0)) (ascii bs parts.1)

-- bytes below 128 are UTF-8
pub ascii_utf8 : (bs : Bytes) → list_all (λ b. leb b 127) bs ≡ true → is_utf8 bs ≡ true
ascii_utf8 bs h = is_utf8-from_IsUtf8 bs (IsUtf8-from_ascii bs (ascii bs h))

-- ---- How texts are put behind one another, and taken back.

-- a list's texts, as those in front of a place, the one there, and those behind it
pub texts_at : {X : Type 0} (f : X → List ℕ) (xs : List X) (k : ℕ) (d : X) → k < length xs
    → flat_map f xs ≡ (flat_map f (take k xs) ++ f (get_or xs k d)) ++ flat_map f (drop (suc k) xs)
texts_at f [] k d h = absurd (omega arith)
texts_at f (x ∷ xs) zero d h = refl
texts_at f (x ∷ xs) (suc k) d h = ap (λ r. f x ++ r) (texts_at f xs k d (omega arith)) ∙ simp append_assoc

-- the texts up to behind a place
pub texts_more : {X : Type 0} (f : X → List ℕ) (xs : List X) (k : ℕ) (d : X) → k < length xs
    → flat_map f (take (k + 1) xs) ≡ flat_map f (take k xs) ++ f (get_or xs k d)
texts_more f xs k d h = ap (flat_map f) (take_more xs k d h) ∙ flat_map-append f (take k xs) (get_or xs k d ∷ [])
    ∙ ap (λ r. flat_map f (take k xs) ++ r) (append-nil (f (get_or xs k d)))

-- ---- How texts are written behind one another.

-- a text that is written in two parts
pub written_more : (old mid new : Bytes) (at middle end : ℕ) (text more : Bytes) → Written old mid at text middle
    → Written mid new middle more end → Written old new at (text ++ more) end
written_more old mid new at middle end text more p h = record {
  ends = omega (arith, p.ends, h.ends, length-append text more);
  within = h.within;
  items = h.items ∙ ap (λ xs. xs ++ more) p.items ∙ append_assoc (take at old) text more;
}

-- what is before a text stays, where a part of it was written
pub stays_before : (old mid new : Bytes) (at middle : ℕ) (text : Bytes) → at ≤ length old
    → Written old mid at text middle
    → take middle new ≡ take middle mid → take at new ≡ take at old
stays_before old mid new at middle text fits p h =
    sym (take-take at middle new (omega (arith, p.ends)))
    ∙ ap (take at) (h ∙ p.items)
    ∙ take_at (take at old) text at (length-take-le at old fits)
