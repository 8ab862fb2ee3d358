-- The text of a listing is read as the listing is, and the lines of a load.
use Rattle.std.specs.Prelude.{ℕ, ℤ, pos, negsuc, zero, suc, nat_lt, List, [], ◌∷◌, ◌++◌, ◌≡◌, ◌==◌, ◌+◌, ◌-◌, ◌*◌, ◌/◌}
use Rattle.std.specs.Prelude.{◌%◌, ◌^◌, ◌<◌, Bool, true, false, cond, Option, Some, option_map, length, map, codes}
use Rattle.std.specs.Prelude.{sum_by, not, decimal as decimal_fmt}
use Rattle.std.specs.List.{list_all, flat_map, AllByRecursion}
use Rattle.std.specs.Fmt.{decimal, digits, digits_onto, digit_glyph}
use Rattle.std.proofs.Common.{refl, sym, ap, ◌∙◌, append_assoc, length-append, arith}
use Rattle.std.proofs.lemmas.Bool.{cond-true, cond-false, and_parts, and_from, le-leb, ne_eqb}
use Rattle.std.proofs.lemmas.Grind.{flat_map-append}
use Rattle.std.proofs.lemmas.List.Sums.{sum_by-append, sum_by-cons}
use Rattle.std.proofs.lemmas.List.Folds.{list_all-append}
use Rattle.djq_model.specs.declared.value.Value.{Value}
use Rattle.djq_model.specs.declared.value.Value.TheVariants.{Int, Text as TextValue}
use Rattle.djq_model.specs.Data.{Bytes, Tuple}
use Rattle.djq_value.specs.Literal.{is_digit, digits_value, natural_of, integer_of, minus}
use Rattle.djq_value.specs.ValueText.{value_text, escaped}
use Rattle.djq_value.proofs.Literals.{natural-some, digit_bounds, minus-suc}
use Rattle.djq_protocol.specs.Reply.{cells_text, answer_line, last_line, listing_lines, text_of}
use Rattle.djq_protocol.specs.Line.{behind_lf}
use Rattle.djq_load.specs.declared.reading.Place.TheVariants.{Front, Answer, Text}
use Rattle.djq_load.specs.declared.reading.Reading.{Reading}
use Rattle.djq_load.specs.Replies.{reading, signed, read_byte, read_bytes}
use Rattle.djq_load.specs.Totals.{residue, amount, amount_of, so_far}
use Rattle.djq_load.specs.Draws.{next, drawn}
use Rattle.djq_load.specs.Load.{reading_lines, verb, relation, change, pause, changes, value_count, load}

-- ---- The text of a listing is read as the listing is.

read_both : (r : Reading) (xs ys : Bytes) → read_bytes r (xs ++ ys) ≡ read_bytes (read_bytes r xs) ys
read_both r [] ys = refl
read_both r (x ∷ xs) ys = read_both (read_byte r x) xs ys

digit_read : (a s : ℕ) (e below : Bool) (n d : ℕ) → is_digit d ≡ true
    → read_byte (reading a s e (Answer below n)) d
    ≡ reading a s e (Answer below ((n * 10 % 2 ^ 64 + (d - 48)) % 2 ^ 64))
digit_read a s e below n d h =
    let b = digit_bounds d h in
    cond-false (d == 32) _ _ (ne_eqb d 32 (λ k. absurd (omega (arith, k, b.0))))
    ∙ cond-false (d == 10) _ _ (ne_eqb d 10 (λ k. absurd (omega (arith, k, b.0))))
    ∙ cond-false (d == 34) _ _ (ne_eqb d 34 (λ k. absurd (omega (arith, k, b.0))))
    ∙ cond-false (d == 45) _ _ (ne_eqb d 45 (λ k. absurd (omega (arith, k, b.0))))

step_mod : (m d : ℕ) → (m % 2 ^ 64 * 10 % 2 ^ 64 + d) % 2 ^ 64 ≡ (m * 10 + d) % 2 ^ 64
step_mod m d = omega arith

digits_read : (a s : ℕ) (e below : Bool) (m : ℕ) (ds : Bytes) → list_all is_digit ds ≡ true
    → read_bytes (reading a s e (Answer below (m % 2 ^ 64))) ds
    ≡ reading a s e (Answer below (digits_value m ds % 2 ^ 64))
digits_read a s e below m [] h = refl
digits_read a s e below m (d ∷ ds) h =
    let parts = and_parts (is_digit d) (list_all is_digit ds) h in
    ap (λ (r : Reading). read_bytes r ds)
    (digit_read a s e below (m % 2 ^ 64) d parts.0
    ∙ ap (λ (n : ℕ). reading a s e (Answer below n)) (step_mod m (d - 48)))
    ∙ digits_read a s e below (m * 10 + (d - 48)) ds parts.1

-- Each number is printed in digits, and in one at least.
glyph_is : (d : ℕ) → d < 10 → is_digit (digit_glyph false d) ≡ true
glyph_is d h = ap is_digit (cond-true (nat_lt d 10) _ _ (le-leb (suc d) 10 (omega arith)))
    ∙ and_from _ _ (le-leb 48 (48 + d) (omega arith)) (le-leb (48 + d) 57 (omega arith))

pub record IsDigits (ds : Bytes) : Type 0 where
  pub some : 0 < length ds
  pub all : list_all is_digit ds ≡ true

onto_digits : (k n : ℕ) (acc : Bytes) → IsDigits acc → IsDigits (digits_onto k 10 false n acc)
onto_digits zero n acc h = h
onto_digits (suc k) n acc h =
    let more : IsDigits (digit_glyph false (n % 10) ∷ acc) = record
    { some = omega arith; all = and_from _ _ (glyph_is (n % 10) (omega arith)) h.all } in
    either (n / 10 == 0) more (onto_digits k (n / 10) (digit_glyph false (n % 10) ∷ acc) more)
  where
    either : {xs ys : Bytes} (b : Bool) → IsDigits xs → IsDigits ys → IsDigits (cond b xs ys)
    either true x y = x
    either false x y = y

first_digit : (n : ℕ) → IsDigits (digits_onto 64 10 false n [])
first_digit n =
    let one : IsDigits (digit_glyph false (n % 10) ∷ []) = record
    { some = omega arith; all = and_from _ _ (glyph_is (n % 10) (omega arith)) refl } in
    either (n / 10 == 0) one (onto_digits 63 (n / 10) (digit_glyph false (n % 10) ∷ []) one)
  where
    either : {xs ys : Bytes} (b : Bool) → IsDigits xs → IsDigits ys → IsDigits (cond b xs ys)
    either true x y = x
    either false x y = y

pub decimal_digits : (n : ℕ) → IsDigits (decimal n)
unfolding digits
decimal_digits n = first_digit n

integer_is : (ds : Bytes) → IsDigits ds → integer_of ds ≡ Some (pos (digits_value 0 ds))
integer_is [] h = absurd (omega (arith, h.some))
integer_is (d ∷ ds) h =
    let low = digit_bounds d (and_parts (is_digit d) (list_all is_digit ds) h.all).0 in
    cond-false (d == 45) _ _ (ne_eqb d 45 (λ e. absurd (omega (arith, e, low.0))))
    ∙ ap (option_map (λ n. pos n)) (cond-true _ _ _ h.all)

natural_is : (ds : Bytes) → IsDigits ds → natural_of ds ≡ Some (digits_value 0 ds)
natural_is ds h = natural-some ds h.some ∙ cond-true _ _ _ h.all

-- Values.
record ValueRead (a s : ℕ) (e : Bool) (v : Value) : Type 0 where
  below : Bool
  number : ℕ
  read : read_bytes (reading a s e (Answer false 0)) (value_text v) ≡ reading a s e (Answer below number)
  is : signed below number ≡ amount v

signed_minus : (d : ℕ) → signed true (d % 2 ^ 64) ≡ residue (Some (minus d))
signed_minus zero = refl
signed_minus (suc n) = sym (ap (λ (i : ℤ). residue (Some i)) (minus-suc n) ∙ omega arith)

escape_read : (a s : ℕ) (e : Bool) (b : ℕ) → read_bytes (reading a s e Text) (escaped b) ≡ reading a s e Text
escape_read a s e b = at34 (b == 34) refl
  where
    at10 : (is : Bool) → b == 10 ≡ is → b == 34 ≡ false → b == 92 ≡ false
        → read_bytes (reading a s e Text) (cond is (codes "\\n") (b ∷ [])) ≡ reading a s e Text
    at10 true k not34 not92 = refl
    at10 false k not34 not92 = cond-false (b == 92) _ _ not92 ∙ cond-false (b == 34) _ _ not34

    at92 : (is : Bool) → b == 92 ≡ is → b == 34 ≡ false
        → read_bytes (reading a s e Text) (cond is (codes "\\\\") (cond (b == 10) (codes "\\n") (b ∷ [])))
        ≡ reading a s e Text
    at92 true k not34 = refl
    at92 false k not34 = at10 (b == 10) refl not34 k

    at34 : (is : Bool) → b == 34 ≡ is
        → read_bytes (reading a s e Text)
        (cond is (codes "\\\"") (cond (b == 92) (codes "\\\\") (cond (b == 10) (codes "\\n") (b ∷ []))))
        ≡ reading a s e Text
    at34 true k = refl
    at34 false k = at92 (b == 92) refl k

escapes_read : (a s : ℕ) (e : Bool) (t : Bytes) → read_bytes (reading a s e Text) (flat_map escaped t)
    ≡ reading a s e Text
escapes_read a s e [] = refl
escapes_read a s e (b ∷ t) =
    read_both (reading a s e Text) (escaped b) (flat_map escaped t)
    ∙ ap (λ (r : Reading). read_bytes r (flat_map escaped t)) (escape_read a s e b) ∙ escapes_read a s e t

value_read : (a s : ℕ) (e : Bool) (v : Value) → ValueRead a s e v
value_read a s e (Int (pos n)) = record {
  below = false;
  number = digits_value 0 (decimal n) % 2 ^ 64;
  read = digits_read a s e false 0 (decimal n) (decimal_digits n).all;
  is = sym (ap residue (integer_is (decimal n) (decimal_digits n)));
}
value_read a s e (Int (negsuc n)) = record {
  below = true;
  number = digits_value 0 (decimal (suc n)) % 2 ^ 64;
  read = digits_read a s e true 0 (decimal (suc n)) (decimal_digits (suc n)).all;
  is = signed_minus (digits_value 0 (decimal (suc n)))
      ∙ sym (ap (λ (o : Option ℕ). residue (option_map minus o))
      (natural_is (decimal (suc n)) (decimal_digits (suc n))));
}
value_read a s e (TextValue t) = record {
  below = false;
  number = 0;
  read = read_both (reading a s e Text) (flat_map escaped t) (34 ∷ [])
      ∙ ap (λ (r : Reading). read_bytes r (34 ∷ [])) (escapes_read a s e t);
  is = refl;
}

-- The cells of an answer, to the line's end.
added_twice : (s k m more : ℕ) → ((s + k) % 2 ^ 64 + m + more) % 2 ^ 64 ≡ (s + k + (m + more)) % 2 ^ 64
added_twice s k m more = omega arith

cells_read : (a s : ℕ) (e below : Bool) (n : ℕ) (t : Tuple)
    → read_bytes (reading a s e (Answer below n)) (cells_text t ++ 10 ∷ [])
    ≡ reading a ((s + signed below n + sum_by amount t) % 2 ^ 64) e Front
cells_read a s e below n [] = ap (λ (m : ℕ). reading a (m % 2 ^ 64) e Front) (omega arith)
cells_read a s e below n (v ∷ t) =
    let k = signed below n in
    let r = value_read a ((s + k) % 2 ^ 64) e v in
    let text = value_text v in
    ap (λ (bytes : Bytes). read_bytes (reading a ((s + k) % 2 ^ 64) e (Answer false 0)) bytes)
    (append_assoc text (cells_text t) (10 ∷ []))
    ∙ read_both (reading a ((s + k) % 2 ^ 64) e (Answer false 0)) text (cells_text t ++ 10 ∷ [])
    ∙ ap (λ (x : Reading). read_bytes x (cells_text t ++ 10 ∷ [])) r.read
    ∙ cells_read a ((s + k) % 2 ^ 64) e r.below r.number t
    ∙ ap (λ (m : ℕ). reading a (((s + k) % 2 ^ 64 + m + sum_by amount t) % 2 ^ 64) e Front) r.is
    ∙ ap (λ (m : ℕ). reading a m e Front)
    (added_twice s k (amount v) (sum_by amount t)
    ∙ ap (λ (m : ℕ). (s + k + m) % 2 ^ 64) (sym (sum_by-cons amount v t)))

one_more : (a : ℕ) → (a % 2 ^ 64 + 1) % 2 ^ 64 ≡ (a + 1) % 2 ^ 64
one_more a = omega arith

onto : (s m : ℕ) → (s % 2 ^ 64 + 0 + m) % 2 ^ 64 ≡ (s + m) % 2 ^ 64
onto s m = omega arith

answer_read : (a s : ℕ) (e : Bool) (t : Tuple)
    → read_bytes (reading (a % 2 ^ 64) (s % 2 ^ 64) e Front) (answer_line t)
    ≡ reading ((a + 1) % 2 ^ 64) ((s + sum_by amount t) % 2 ^ 64) e Front
answer_read a s e t =
    cells_read ((a % 2 ^ 64 + 1) % 2 ^ 64) (s % 2 ^ 64) e false 0 t
    ∙ ap (λ (m : ℕ). reading m ((s % 2 ^ 64 + 0 + sum_by amount t) % 2 ^ 64) e Front) (one_more a)
    ∙ ap (λ (m : ℕ). reading ((a + 1) % 2 ^ 64) m e Front) (onto s (sum_by amount t))

answers_read : (a s : ℕ) (e : Bool) (told : List Tuple)
    → read_bytes (reading (a % 2 ^ 64) (s % 2 ^ 64) e Front) (text_of (map answer_line told))
    ≡ reading ((a + length told) % 2 ^ 64) ((s + amount_of told) % 2 ^ 64) e Front
answers_read a s e [] = ap (λ (m : ℕ). reading (m % 2 ^ 64) (s % 2 ^ 64) e Front) (omega arith)
    ∙ ap (λ (m : ℕ). reading ((a + 0) % 2 ^ 64) (m % 2 ^ 64) e Front) (omega arith)
answers_read a s e (t ∷ told) =
    read_both (reading (a % 2 ^ 64) (s % 2 ^ 64) e Front) (answer_line t) (text_of (map answer_line told))
    ∙ ap (λ (r : Reading). read_bytes r (text_of (map answer_line told))) (answer_read a s e t)
    ∙ answers_read (a + 1) (s + sum_by amount t) e told
    ∙ ap (λ (m : ℕ). reading (m % 2 ^ 64) ((s + sum_by amount t + amount_of told) % 2 ^ 64) e Front) (omega arith)
    ∙ ap (λ (m : ℕ). reading ((a + length (t ∷ told)) % 2 ^ 64) (m % 2 ^ 64) e Front)
    (omega (arith, sum_by-cons (λ (u : Tuple). sum_by amount u) t told))

last_read : (a s : ℕ) (e end : Bool) → read_bytes (reading a s e Front) (last_line end ++ []) ≡ reading a s end Front
last_read a s e true = refl
last_read a s e false = refl

-- A further piece of a listing, behind what was read.
pub listing_read : (given : List Tuple) (e : Bool) (told : List Tuple) (end : Bool)
    → read_bytes (so_far given e) (text_of (listing_lines told end)) ≡ so_far (given ++ told) end
listing_read given e told end =
    let all = answers_read (length given) (amount_of given) e told in
    ap (λ (bytes : Bytes). read_bytes (so_far given e) bytes)
    (flat_map-append (λ (l : Bytes). l) (map answer_line told) (last_line end ∷ []))
    ∙ read_both (so_far given e) (text_of (map answer_line told)) (last_line end ++ [])
    ∙ ap (λ (r : Reading). read_bytes r (last_line end ++ [])) all
    ∙ last_read ((length given + length told) % 2 ^ 64) ((amount_of given + amount_of told) % 2 ^ 64) e end
    ∙ ap (λ (m : ℕ). reading (m % 2 ^ 64) ((amount_of given + amount_of told) % 2 ^ 64) end Front)
    (sym (length-append given told))
    ∙ ap (λ (m : ℕ). reading (length (given ++ told) % 2 ^ 64) (m % 2 ^ 64) end Front)
    (sym (sum_by-append (λ (u : Tuple). sum_by amount u) given told))

-- ---- Each line of a load has one LF, at its end.

-- one LF, at the end
abbrev pub IsOne : Bytes → Type 0
IsOne line = behind_lf line ≡ Some []

abbrev pub AreOnes : List Bytes → Type 0
AreOnes lines = AllByRecursion IsOne lines

not_lf : (b : ℕ) → not (b == 10) ≡ true → (b == 10) ≡ false
not_lf b h = by_is (b == 10) h
  where
    by_is : (is : Bool) → not is ≡ true → is ≡ false
    by_is true k = absurd cc
    by_is false k = refl

through : (xs ys : Bytes) → list_all (λ b. not (b == 10)) xs ≡ true → behind_lf (xs ++ ys) ≡ behind_lf ys
through [] ys h = refl
through (x ∷ xs) ys h =
    let parts = and_parts (not (x == 10)) (list_all (λ b. not (b == 10)) xs) h in
    cond-false (x == 10) _ _ (not_lf x parts.0) ∙ through xs ys parts.1

digit_no_lf : (ds : Bytes) → list_all is_digit ds ≡ true → list_all (λ b. not (b == 10)) ds ≡ true
digit_no_lf [] h = refl
digit_no_lf (d ∷ ds) h =
    let parts = and_parts (is_digit d) (list_all is_digit ds) h in
    let low = digit_bounds d parts.0 in
    and_from _ _ (ap not (ne_eqb d 10 (λ e. absurd (omega (arith, e, low.0))))) (digit_no_lf ds parts.1)

number_no_lf : (n : ℕ) → list_all (λ b. not (b == 10)) (decimal_fmt n) ≡ true
number_no_lf n = digit_no_lf (decimal_fmt n) (decimal_digits n).all

verb_no_lf : (a : ℕ) → list_all (λ b. not (b == 10)) (verb a) ≡ true
verb_no_lf a = by_is (a / 2 % 4 == 0)
  where
    by_is : (is : Bool) → list_all (λ b. not (b == 10)) (cond is (codes "del ") (codes "add ")) ≡ true
    by_is true = refl
    by_is false = refl

relation_no_lf : (a : ℕ) → list_all (λ b. not (b == 10)) (relation a) ≡ true
relation_no_lf a = by_is (a % 2 == 0)
  where
    by_is : (is : Bool) → list_all (λ b. not (b == 10)) (cond is (codes "r ") (codes "s ")) ≡ true
    by_is true = refl
    by_is false = refl

both : (xs ys : Bytes) → list_all (λ b. not (b == 10)) xs ≡ true → list_all (λ b. not (b == 10)) ys ≡ true
    → list_all (λ b. not (b == 10)) (xs ++ ys) ≡ true
both xs ys h k = list_all-append (λ b. not (b == 10)) xs ys ∙ and_from _ _ h k

change_one : (values a b c : ℕ) → IsOne (change values a b c)
change_one values a b c =
    let numbers = both (verb a ++ relation a) (decimal_fmt (b % values))
    (both (verb a) (relation a) (verb_no_lf a) (relation_no_lf a)) (number_no_lf (b % values)) in
    let front = verb a ++ relation a ++ decimal_fmt (b % values) in
    let space = both front (codes " ") numbers refl in
    through (front ++ codes " " ++ decimal_fmt (c % values)) (codes "\n")
    (both (front ++ codes " ") (decimal_fmt (c % values)) space (number_no_lf (c % values)))

pause_ones : (number : ℕ) (more : List Bytes) → AreOnes more → AreOnes (pause number ++ more)
pause_ones number more h = by_is (number % 100 == 0)
  where
    by_is : (is : Bool) → AreOnes (cond is reading_lines [] ++ more)
    by_is true = (refl, (refl, (refl, h)))
    by_is false = h

changes_ones : (values state done left : ℕ) → AreOnes (changes values state done left)
changes_ones values state done zero = tt
changes_ones values state done (suc left) = (
  change_one values (drawn (next state)) (drawn (next (next state))) (drawn (next (next (next state)))),
  pause_ones (done + 1) (changes values (next (next (next state))) (done + 1) left)
      (changes_ones values (next (next (next state))) (done + 1) left),
)

pub load_ones : (n seed : ℕ) → AreOnes (load n seed)
load_ones n seed = (refl, (refl, (refl, changes_ones (value_count n) seed 0 n)))
