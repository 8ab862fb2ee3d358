-- Lists of items, token by token.
use Rattle.std.proofs.Common.{◌≡◌, List, [], ◌∷◌, ◌++◌, ◌&&◌, Bool, true, false, Option, Some, None, Result, Ok, Err}
use Rattle.std.proofs.Common.{refl, sym, ap, ap₂, subst, ◌∙◌, append_assoc, ℕ, ℤ, pos, negsuc, neg_ℤ, zero, suc, ◌+◌}
use Rattle.std.proofs.Common.{◌-◌, ◌*◌, ◌^◌, ◌<◌, ◌≤◌, cond, ◌||◌, length, option_map, arith, eqb, leb, inl, inr, codes}
use Rattle.std.specs.List.{list_all, AllZip}
use Rattle.std.specs.Prelude.{IsErrAnd}
use Rattle.std.proofs.lemmas.List.{append-nil}
use Rattle.std.proofs.lemmas.List.Folds.{list_all-append}
use Rattle.std.proofs.Math.Dec.{eqb-suc-zero}
use Rattle.std.proofs.Math.Nat.{pow-suc}
use Rattle.std.proofs.lemmas.Bool.{cond-true, cond-false, cases_Bool, and_parts, eqb-true, ne_eqb, leb-true, lt-leb}
use Rattle.djq_model.specs.declared.value.Value.{Value}
use Rattle.djq_model.specs.declared.value.Value.TheVariants.{Int, Text}
use Rattle.djq_model.specs.declared.relation.ColumnType.{ColumnType}
use Rattle.djq_model.specs.declared.relation.ColumnType.TheVariants.{Int as IntColumn, Text as TextColumn}
use Rattle.djq_model.specs.declared.query.Term.{Term}
use Rattle.djq_model.specs.declared.query.Term.TheVariants.{Variable, Hole, Constant}
use Rattle.djq_model.specs.Data.{Bytes, bytes_eq}
use Rattle.djq_model.specs.Equality.{bytes_eq-decides}
use Rattle.djq_value.specs.Token.{Token, comma, close_paren, word, text, open_paren, arrow, operator, stray}
use Rattle.djq_value.specs.Literal.{is_digit, is_lower, is_name, digits_value, natural_of, minus, integer_of}
use Rattle.djq_value.specs.Literal.{literal_of, IsName}
use Rattle.djq_value.proofs.Literals.{map_some}
use Rattle.djq_protocol.specs.Grammar.{all_of, in_front, more_in, put_first, list_in, name_of, term_of, type_of}
use Rattle.djq_parser.specs.declared.refusal.LineRefusal.{LineRefusal}
use Rattle.djq_parser.specs.declared.refusal.LineRefusal.TheVariants.{Syntax, Range, NoMem}
use Rattle.djq_parser.specs.Reading.{ReadsAs, ReadsPart, is_outside, onto}
use Rattle.djq_parser.specs.Saying.{IsNumeral, IsInteger, decimal, SaysName, SaysTerm, SaysType, SaysValue, list_tokens}
use Rattle.djq_parser.specs.Saying.{more_tokens}

-- ---- Lists of items, token by token.

pub onto-more : {A : Type 0} (read : List A) (x : A) (o : Option (List A)) → onto read (in_front (Some x) o)
    ≡ onto (read ++ x ∷ []) o
onto-more read x None = refl
onto-more read x (Some xs) = ap (λ ys. Some ys) (sym (append_assoc read (x ∷ []) xs))

-- items in front of others, and what is behind them
abbrev pub prepend : {A : Type 0} → List A → Option (List A × List Token) → Option (List A × List Token)
prepend read None = None
prepend read (Some r) = Some (read ++ r.0, r.1)

pub prepend-more : {A : Type 0} (read : List A) (x : A) (o : Option (List A × List Token))
    → prepend read (put_first (Some x) o) ≡ prepend (read ++ x ∷ []) o
prepend-more read x None = refl
prepend-more read x (Some r) = ap (λ ys. Some (ys, r.1)) (sym (append_assoc read (x ∷ []) r.0))

-- What was read of items to the line's end.
pub record ReadSoFar {A : Type 0} (of : Token → Option A) (in_range : A → Bool) (start rest : List Token)
    (items : Result (List A) LineRefusal) : Type 0 where
  pub read : List A
  pub split : all_of of start ≡ onto read (all_of of rest)
  pub kept : ReadsAs (list_all in_range) (Some read) items

-- What was read of items in parentheses, where another one is in front.
pub record ListSoFar {A : Type 0} (of : Token → Option A) (in_range : A → Bool) (whole : Option (List A × List Token))
    (t : Token) (rest : List Token) (items : Result (List A) LineRefusal) : Type 0 where
  pub read : List A
  pub split : whole ≡ prepend read (put_first (of t) (more_in of rest))
  pub kept : ReadsAs (list_all in_range) (Some read) items

-- What was read is something where it isn't outside the grammar.
pub reads_some : {A : Type 0} (in_range : A → Bool) (o : Option A) (r : Result A LineRefusal) → ReadsAs in_range o r
    → is_outside r ≡ false
    → (x : A) × (o ≡ Some x) × ReadsAs in_range (Some x) r
reads_some in_range (Some x) r h inside = (x, refl, h)
reads_some in_range None (Ok a) h inside = absurd (cc)
reads_some in_range None (Err Syntax) h inside = absurd (cc)
reads_some in_range None (Err Range) h inside = absurd (cc)
reads_some in_range None (Err NoMem) h inside = absurd (cc)

-- Nothing was read where it is outside the grammar.
pub reads_none : {A : Type 0} (in_range : A → Bool) (o : Option A) (r : Result A LineRefusal) → ReadsAs in_range o r
    → is_outside r ≡ true → o ≡ None
reads_none in_range None r h outside = refl
reads_none in_range (Some x) (Ok a) h outside = absurd (cc)
reads_none in_range (Some x) (Err Syntax) h outside = absurd h
reads_none in_range (Some x) (Err Range) h outside = absurd (cc)
reads_none in_range (Some x) (Err NoMem) h outside = absurd (cc)

-- one more item to the line's end
pub read_more : {A : Type 0} (of : Token → Option A) (in_range : A → Bool) (start rest new : List Token) (t : Token)
    (x : A) (items more : Result (List A) LineRefusal) (item : Result A LineRefusal)
    → (h : ReadSoFar of in_range start rest items) → rest ≡ t ∷ new → of t ≡ Some x
    → ((xs : List A) → ReadsAs (list_all in_range) (Some xs) items
    → ReadsAs (list_all in_range) (Some (xs ++ x ∷ [])) more)
    → ReadSoFar of in_range start new more
read_more of in_range start rest new t x items more item h e is add = record {
  read = h.read ++ x ∷ [];
  split = h.split ∙ ap (λ us. onto h.read (all_of of us)) e ∙ ap (λ o. onto h.read (in_front o (all_of of new))) is
      ∙ onto-more h.read x (all_of of new);
  kept = add h.read h.kept;
}

-- one more item of a list, and a comma and another one in front
pub list_more : {A : Type 0} (of : Token → Option A) (in_range : A → Bool) (whole : Option (List A × List Token))
    (t u : Token) (rest new : List Token) (x : A) (items more : Result (List A) LineRefusal)
    → (h : ListSoFar of in_range whole t rest items) → of t ≡ Some x → rest ≡ comma ∷ u ∷ new
    → ((xs : List A) → ReadsAs (list_all in_range) (Some xs) items
    → ReadsAs (list_all in_range) (Some (xs ++ x ∷ [])) more)
    → ListSoFar of in_range whole u new more
list_more of in_range whole t u rest new x items more h is e add = record {
  read = h.read ++ x ∷ [];
  split = h.split ∙ ap₂ (λ o us. prepend h.read (put_first o (more_in of us))) is e
      ∙ prepend-more h.read x (put_first (of u) (more_in of new));
  kept = add h.read h.kept;
}

-- the last item of a list, and its `)`
pub list_done : {A : Type 0} (of : Token → Option A) (in_range : A → Bool) (whole : Option (List A × List Token))
    (t : Token) (rest new : List Token) (x : A) (items more : Result (List A) LineRefusal)
    → (h : ListSoFar of in_range whole t rest items) → of t ≡ Some x → rest ≡ close_paren ∷ new
    → ((xs : List A) → ReadsAs (list_all in_range) (Some xs) items
    → ReadsAs (list_all in_range) (Some (xs ++ x ∷ [])) more)
    → ReadsPart (list_all in_range) whole more new
list_done of in_range whole t rest new x items more h is e add =
    let all : whole ≡ Some (h.read ++ x ∷ [], new) = h.split
    ∙ ap₂ (λ o us. prepend h.read (put_first o (more_in of us))) is e in
    subst (λ o. ReadsPart (list_all in_range) o more new) (sym all) (add h.read h.kept, refl)

-- a test that each item passes
pub all_true : {A : Type 0} (xs : List A) → list_all (λ _. true) xs ≡ true
all_true [] = refl
all_true (x ∷ xs) = all_true xs

-- the error that `?` hands on
pub err_is : {A E : Type 0} (r : Result A E) (e : E) → IsErrAnd r (λ x. x ≡ e) → r ≡ Err e
err_is (Ok a) e h = absurd h
err_is (Err x) e h = ap (λ y. Err y) h

-- a test of a list and one item more
pub all_last : {A : Type 0} (f : A → Bool) (xs : List A) (x : A) → list_all f (xs ++ x ∷ []) ≡ (list_all f xs && f x)
all_last f xs x = list_all-append f xs (x ∷ []) ∙ ap (λ t. list_all f xs && t) (alone (f x))
  where
    alone : (b : Bool) → (b && true) ≡ b
    alone true = refl
    alone false = refl

-- the refusal of what is in range where something else is
pub same_err : {A B : Type 0} (fits : A → Bool) (holds : B → Bool) (a : A) (b : B) (e : LineRefusal) → holds b ≡ fits a
    → ReadsAs fits (Some a) (Err e) → ReadsAs holds (Some b) (Err e)
same_err fits holds a b Syntax same h = absurd h
same_err fits holds a b Range same h = same ∙ h
same_err fits holds a b NoMem same h = same ∙ h

-- one more item behind those that were read
pub onto_next : {A : Type 0} (of : Token → Option A) (whole : Option (List A)) (read : List A) (rest new : List Token)
    (t : Token) (x : A)
    → whole ≡ onto read (all_of of rest) → rest ≡ t ∷ new → of t ≡ Some x → whole
    ≡ onto (read ++ x ∷ []) (all_of of new)
onto_next of whole read rest new t x h e is =
    h ∙ ap (λ us. onto read (all_of of us)) e ∙ ap (λ o. onto read (in_front o (all_of of new))) is
    ∙ onto-more read x (all_of of new)

-- where the next token is no item
pub onto_none : {A : Type 0} (of : Token → Option A) (whole : Option (List A)) (read : List A) (rest new : List Token)
    (t : Token)
    → whole ≡ onto read (all_of of rest) → rest ≡ t ∷ new → of t ≡ None → whole ≡ None
onto_none of whole read rest new t h e is = h ∙ ap (λ us. onto read (all_of of us)) e
    ∙ ap (λ o. onto read (in_front o (all_of of new))) is

pub onto-twice : {A : Type 0} (read more : List A) (o : Option (List A)) → onto read (onto more o)
    ≡ onto (read ++ more) o
onto-twice read more None = refl
onto-twice read more (Some xs) = ap (λ ys. Some ys) (sym (append_assoc read more xs))

-- no item is left
pub onto_done : {A : Type 0} (of : Token → Option A) (whole : Option (List A)) (read : List A) (rest : List Token)
    → whole ≡ onto read (all_of of rest) → rest ≡ [] → whole ≡ Some read
onto_done of whole read rest h e = h ∙ ap (λ us. onto read (all_of of us)) e ∙ ap (λ xs. Some xs) (append-nil read)

-- ---- Words are read as numbers exactly where they denote them.

pub guard_some : {A : Type 0} (t : Bool) (o : Option A) (a : A) → cond t o None ≡ Some a → (t ≡ true) × (o ≡ Some a)
guard_some true o a e = (refl, e)
guard_some false o a e = absurd cc

shifted : (n x p q r : ℕ) → r ≡ p * 10 → (n * 10 + x) * p + q ≡ n * r + (x * p + q)
shifted n x p q r e = rw e (omega arith)

digits_value-decimal : (n : ℕ) (ds : Bytes) → digits_value n ds ≡ n * 10 ^ length ds + decimal ds
digits_value-decimal n [] = omega arith
digits_value-decimal n (d ∷ ds) =
    digits_value-decimal (n * 10 + (d - 48)) ds
    ∙ shifted n (d - 48) (10 ^ length ds) (decimal ds) (10 ^ suc (length ds)) (pow-suc 10 (length ds))

whole-decimal : (ds : Bytes) → digits_value 0 ds ≡ decimal ds
whole-decimal ds = digits_value-decimal 0 ds ∙ omega arith

pub numeral_said : (ds : Bytes) (n : ℕ) → natural_of ds ≡ Some n → IsNumeral ds n
numeral_said [] n e = absurd cc
numeral_said (d ∷ ds) n e =
    let parts = guard_some (list_all is_digit (d ∷ ds)) (Some (digits_value 0 (d ∷ ds))) n e in
    let value : digits_value 0 (d ∷ ds) ≡ n = cc in
    record { some = omega arith; digits = parts.0; value = sym value ∙ whole-decimal (d ∷ ds) }

pub numeral_from : (ds : Bytes) (n : ℕ) → IsNumeral ds n → natural_of ds ≡ Some n
numeral_from [] n h = absurd (omega (arith, h.some))
numeral_from (d ∷ ds) n h = cond-true _ _ _ h.digits ∙ ap (λ k. Some k) (whole-decimal (d ∷ ds) ∙ sym h.value)

minus-neg : (n : ℕ) → minus n ≡ neg_ℤ (pos n)
minus-neg zero = refl
minus-neg (suc n) = cond-false _ _ _ (eqb-suc-zero n) ∙ ap (λ k. negsuc k) (omega arith)

pub integer_said : (w : Bytes) (i : ℤ) → integer_of w ≡ Some i → IsInteger w i
integer_said [] i e = absurd cc
integer_said (b ∷ bs) i e = elim (cases_Bool (eqb b 45)) [
  | inl is ↦
      let found = map_some minus (natural_of bs) i (sym (cond-true _ _ _ is) ∙ e) in
      inr (
        bs,
        found.0,
        ap (λ x. x ∷ bs) (eqb-true b 45 is),
        numeral_said bs found.0 found.1,
        sym found.2
            ∙ minus-neg found.0,
      )
  | inr other ↦
      let found = map_some (λ n. pos n) (natural_of (b ∷ bs)) i (sym (cond-false _ _ _ other) ∙ e) in
      inl (found.0, numeral_said (b ∷ bs) found.0 found.1, sym found.2)
]

-- the first byte of digits
digit_first : (b : ℕ) (bs : Bytes) → list_all is_digit (b ∷ bs) ≡ true → (48 ≤ b) × (b ≤ 57)
digit_first b bs h =
    let parts = and_parts (leb 48 b) (leb b 57) (and_parts (is_digit b) (list_all is_digit bs) h).0 in
    (leb-true 48 b parts.0, leb-true b 57 parts.1)

pub integer_from : (w : Bytes) (i : ℤ) → IsInteger w i → integer_of w ≡ Some i
integer_from [] i (inl h) = absurd (omega (arith, h.1.some))
integer_from (b ∷ bs) i (inl h) =
    let first = digit_first b bs h.1.digits in
    cond-false _ _ _ (ne_eqb b 45 (λ e. absurd (omega (arith, e, first.0))))
    ∙ ap (option_map (λ n. pos n)) (numeral_from (b ∷ bs) h.0 h.1) ∙ ap (λ k. Some k) (sym h.2)
integer_from w i (inr h) =
    ap integer_of h.2 ∙ ap (option_map minus) (numeral_from h.0 h.1 h.3) ∙ ap (λ k. Some k) (minus-neg h.1 ∙ sym h.4)

-- a byte below the letters begins no name
low_first : (b : ℕ) (bs : Bytes) → b ≤ 57 → is_name (b ∷ bs) ≡ false
low_first b bs h = ap
    (λ t. (t && leb b 122) && (list_all (λ c. is_lower c || is_digit c || eqb c 95) bs && leb (length bs) 31))
    (lt-leb 97 b (omega (arith, h)))

other_first : (b c : ℕ) (bs : Bytes) → b < c → bytes_eq (b ∷ bs) (c ∷ []) ≡ false
other_first b c bs h = ap (λ t. t && bytes_eq bs []) (ne_eqb b c (λ e. absurd (omega (arith, e, h))))

-- An integer is no name and no hole.
pub integer_no_name : (w : Bytes) (i : ℤ) → IsInteger w i → (is_name w ≡ false) × (bytes_eq w (codes "_") ≡ false)
integer_no_name [] i h = (refl, refl)
integer_no_name (b ∷ bs) i (inl h) = let first = digit_first b bs h.1.digits in
    (low_first b bs first.1, other_first b 95 bs (omega (arith, first.1)))
integer_no_name w i (inr h) = (ap is_name h.2, ap (λ v. bytes_eq v (codes "_")) h.2)

-- ---- Lists are read exactly where tokens say their items.

-- Items.

-- a fact of a choice, from the fact of each branch
pub pick : {A : Type 0} {P : Type 0} (t : Bool) (x y z : A) → cond t x y ≡ z → (t ≡ true → x ≡ z → P)
    → (t ≡ false → y ≡ z → P) → P
pick true x y z e f g = f refl e
pick false x y z e f g = g refl e

pub name_said : (t : Token) (n : Bytes) → name_of t ≡ Some n → SaysName n t
name_said (word w) n e = pick (is_name w) (Some w) None (Some n) e
    (λ named same. let is : w ≡ n = cc in (subst IsName is named, ap (λ v. word v) is)) (λ _ none. absurd (cc))
name_said (text t) n e = absurd (cc)
name_said open_paren n e = absurd (cc)
name_said close_paren n e = absurd (cc)
name_said comma n e = absurd (cc)
name_said arrow n e = absurd (cc)
name_said (operator o) n e = absurd (cc)
name_said stray n e = absurd (cc)

pub name_from : (t : Token) (n : Bytes) → SaysName n t → name_of t ≡ Some n
name_from t n h = ap name_of h.1 ∙ cond-true _ _ _ h.0

pub type_said : (t : Token) (c : ColumnType) → type_of t ≡ Some c → SaysType c t
type_said (word w) c e =
    pick (bytes_eq w (codes "int")) (Some IntColumn) _ (Some c) e
    (λ is same. let one : IntColumn
    ≡ c = cc in subst (λ d. SaysType d (word w)) one (ap (λ v. word v) ((bytes_eq-decides w (codes "int")).0 is)))
    (λ _ more. pick (bytes_eq w (codes "text")) (Some TextColumn) None (Some c) more
    (λ is same. let one : TextColumn
    ≡ c = cc in subst (λ d. SaysType d (word w)) one (ap (λ v. word v) ((bytes_eq-decides w (codes "text")).0 is)))
    (λ _ none. absurd (cc)))
type_said (text t) c e = absurd (cc)
type_said open_paren c e = absurd (cc)
type_said close_paren c e = absurd (cc)
type_said comma c e = absurd (cc)
type_said arrow c e = absurd (cc)
type_said (operator o) c e = absurd (cc)
type_said stray c e = absurd (cc)

pub type_from : (t : Token) (c : ColumnType) → SaysType c t → type_of t ≡ Some c
type_from t IntColumn h = ap type_of h
type_from t TextColumn h = ap type_of h

pub value_said : (t : Token) (v : Value) → literal_of t ≡ Some v → SaysValue v t
value_said (word w) v e =
    let found = map_some (λ i. Int i) (integer_of w) v e in
    subst (λ (u : Value). SaysValue u (word w)) found.2 (w, refl, integer_said w found.0 found.1)
value_said (text t) v e = let is : Text t ≡ v = cc in subst (λ (u : Value). SaysValue u (text t)) is refl
value_said open_paren v e = absurd (cc)
value_said close_paren v e = absurd (cc)
value_said comma v e = absurd (cc)
value_said arrow v e = absurd (cc)
value_said (operator o) v e = absurd (cc)
value_said stray v e = absurd (cc)

pub value_from : (t : Token) (v : Value) → SaysValue v t → literal_of t ≡ Some v
value_from t (Int i) h = ap literal_of h.1 ∙ ap (option_map (λ j. Int j)) (integer_from h.0 i h.2)
value_from t (Text s) h = ap literal_of h

constant_said : (t : Token) (x : Term) → option_map (λ v. Constant v) (literal_of t) ≡ Some x → SaysTerm x t
constant_said t x e = let found = map_some (λ v. Constant v) (literal_of t) x e in subst (λ (y : Term). SaysTerm y t)
    found.2 (value_said t found.0 found.1)

pub term_said : (t : Token) (x : Term) → term_of t ≡ Some x → SaysTerm x t
term_said (word w) x e =
    pick (is_name w) (Some (Variable w)) _ (Some x) e
    (λ named same. let is : Variable w ≡ x = cc in subst (λ (y : Term). SaysTerm y (word w)) is (named, refl))
    (λ _ more. pick (bytes_eq w (codes "_")) (Some Hole) _ (Some x) more
    (λ hole same. let is : Hole
    ≡ x = cc in subst (λ (y : Term). SaysTerm y (word w)) is
    (ap (λ v. word v) ((bytes_eq-decides w (codes "_")).0 hole)))
    (λ _ last. constant_said (word w) x last))
term_said (text t) x e = constant_said (text t) x e
term_said open_paren x e = absurd (cc)
term_said close_paren x e = absurd (cc)
term_said comma x e = absurd (cc)
term_said arrow x e = absurd (cc)
term_said (operator o) x e = absurd (cc)
term_said stray x e = absurd (cc)

pub term_from : (t : Token) (x : Term) → SaysTerm x t → term_of t ≡ Some x
term_from t (Variable x) h = ap term_of h.1 ∙ cond-true _ _ _ h.0
term_from t Hole h = ap term_of h
term_from t (Constant (Text s)) h = ap term_of h
term_from t (Constant (Int i)) h =
    let no = integer_no_name h.0 i h.2 in
    ap term_of h.1 ∙ cond-false _ _ _ no.0 ∙ cond-false _ _ _ no.1
    ∙ ap (option_map (λ v. Constant v)) (value_from (word h.0) (Int i) (h.0, refl, h.2))

-- Lists to the line's end.

front_some : {A : Type 0} (o : Option A) (p : Option (List A)) (xs : List A) → in_front o p ≡ Some xs → (a : A)
    × (more : List A) × (o ≡ Some a) × (p ≡ Some more) × (a ∷ more ≡ xs)
front_some None p xs e = absurd (cc)
front_some (Some a) None xs e = absurd (cc)
front_some (Some a) (Some more) xs e = (a, more, refl, refl, cc)

pub all_said : {A : Type 0} (of : Token → Option A) (says : A → Token → Type 0)
    → ((t : Token) (a : A) → of t ≡ Some a → says a t) → (ts : List Token) (xs : List A) → all_of of ts ≡ Some xs
    → AllZip says xs ts
all_said {A} of says item [] xs e = let nil : [] ≡ xs = cc in subst (λ (ys : List A). AllZip says ys []) nil tt
all_said {A} of says item (t ∷ ts) xs e =
    let found = front_some (of t) (all_of of ts) xs e in
    subst (λ (ys : List A). AllZip says ys (t ∷ ts)) found.4
    (item t found.0 found.2, all_said of says item ts found.1 found.3)

pub all_from : {A : Type 0} (of : Token → Option A) (says : A → Token → Type 0)
    → ((t : Token) (a : A) → says a t → of t ≡ Some a) → (xs : List A) (ts : List Token) → AllZip says xs ts
    → all_of of ts ≡ Some xs
all_from of says item [] [] h = refl
all_from of says item [] (t ∷ ts) h = absurd h
all_from of says item (x ∷ xs) [] h = absurd h
all_from of says item (x ∷ xs) (t ∷ ts) h = ap₂ in_front (item t x h.0) (all_from of says item xs ts h.1)

-- Lists in parentheses.

first_some : {A : Type 0} (o : Option A) (p : Option (List A × List Token)) (xs : List A) (rest : List Token)
    → put_first o p ≡ Some (xs, rest)
    → (a : A) × (more : List A) × (o ≡ Some a) × (p ≡ Some (more, rest)) × (a ∷ more ≡ xs)
first_some None p xs rest e = absurd (cc)
first_some (Some a) None xs rest e = absurd (cc)
first_some (Some a) (Some r) xs rest e =
    let same : (a ∷ r.0, r.1) ≡ (xs, rest) = cc in (
      a,
      r.0,
      refl,
      ap (λ us. Some (r.0, us)) (ap (λ (z : List _ × List Token). z.1) same),
      ap
          (λ (z : List _ × List Token). z.0) same,
    )

-- the tokens of a list's items, and what is behind it
pub record IsMore {A : Type 0} (says : A → Token → Type 0) (xs : List A) (ts rest : List Token) : Type 0 where
  pub items : List Token
  pub say : AllZip says xs items
  pub split : ts ≡ more_tokens items ++ rest

pub more_said : {A : Type 0} (of : Token → Option A) (says : A → Token → Type 0)
    → ((t : Token) (a : A) → of t ≡ Some a → says a t) → (ts : List Token) (xs : List A) (rest : List Token)
    → more_in of ts ≡ Some (xs, rest) → IsMore says xs ts rest
more_said of says item [] xs rest e = absurd (cc)
more_said {A} of says item (close_paren ∷ ts) xs rest e =
    let same : ([], ts) ≡ (xs, rest) = cc in
    let nil : [] ≡ xs = ap (λ (z : List A × List Token). z.0) same in
    record {
      items = [];
      say = subst (λ (ys : List A). AllZip says ys []) nil tt;
      split = ap (λ us. close_paren ∷ us)
          (ap (λ (z : List A × List Token). z.1) same);
    }
more_said of says item (comma ∷ []) xs rest e = absurd (cc)
more_said {A} of says item (comma ∷ t ∷ ts) xs rest e =
    let found = first_some (of t) (more_in of ts) xs rest e in
    let more = more_said of says item ts found.1 rest found.3 in
    record {
      items = t ∷ more.items;
      say = subst (λ (ys : List A). AllZip says ys (t ∷ more.items)) found.4 (item t found.0 found.2, more.say);
      split = ap (λ us. comma ∷ t ∷ us) more.split;
    }
more_said of says item (word w ∷ ts) xs rest e = absurd (cc)
more_said of says item (text t ∷ ts) xs rest e = absurd (cc)
more_said of says item (open_paren ∷ ts) xs rest e = absurd (cc)
more_said of says item (arrow ∷ ts) xs rest e = absurd (cc)
more_said of says item (operator o ∷ ts) xs rest e = absurd (cc)
more_said of says item (stray ∷ ts) xs rest e = absurd (cc)

pub more_from : {A : Type 0} (of : Token → Option A) (says : A → Token → Type 0)
    → ((t : Token) (a : A) → says a t → of t ≡ Some a) → (xs : List A) (us rest : List Token) → AllZip says xs us
    → more_in of (more_tokens us ++ rest) ≡ Some (xs, rest)
more_from of says item [] [] rest h = refl
more_from of says item [] (u ∷ us) rest h = absurd h
more_from of says item (x ∷ xs) [] rest h = absurd h
more_from of says item (x ∷ xs) (u ∷ us) rest h = ap₂ put_first (item u x h.0) (more_from of says item xs us rest h.1)

-- the same of a whole list
pub record IsList {A : Type 0} (says : A → Token → Type 0) (xs : List A) (ts rest : List Token) : Type 0 where
  pub items : List Token
  pub say : AllZip says xs items
  pub split : ts ≡ list_tokens items ++ rest

list_first : {A : Type 0} (of : Token → Option A) (says : A → Token → Type 0)
    → ((t : Token) (a : A) → of t ≡ Some a → says a t) → (t : Token) (ts : List Token) (xs : List A) (rest : List Token)
    → put_first (of t) (more_in of ts) ≡ Some (xs, rest) → IsList says xs (open_paren ∷ t ∷ ts) rest
list_first {A} of says item t ts xs rest e =
    let found = first_some (of t) (more_in of ts) xs rest e in
    let more = more_said of says item ts found.1 rest found.3 in
    record {
      items = t ∷ more.items;
      say = subst (λ (ys : List A). AllZip says ys (t ∷ more.items)) found.4 (item t found.0 found.2, more.say);
      split = ap (λ us. open_paren ∷ t ∷ us) more.split;
    }

pub list_said : {A : Type 0} (of : Token → Option A) (says : A → Token → Type 0)
    → ((t : Token) (a : A) → of t ≡ Some a → says a t) → (ts : List Token) (xs : List A) (rest : List Token)
    → list_in of ts ≡ Some (xs, rest) → IsList says xs ts rest
list_said of says item [] xs rest e = absurd (cc)
list_said of says item (open_paren ∷ []) xs rest e = absurd (cc)
list_said {A} of says item (open_paren ∷ close_paren ∷ ts) xs rest e =
    let same : ([], ts) ≡ (xs, rest) = cc in
    let nil : [] ≡ xs = ap (λ (z : List A × List Token). z.0) same in
    record {
      items = [];
      say = subst (λ (ys : List A). AllZip says ys []) nil tt;
      split = ap
          (λ us. open_paren ∷ close_paren ∷ us) (ap (λ (z : List A × List Token). z.1) same);
    }
list_said of says item (open_paren ∷ word w ∷ ts) xs rest e = list_first of says item (word w) ts xs rest e
list_said of says item (open_paren ∷ text t ∷ ts) xs rest e = list_first of says item (text t) ts xs rest e
list_said of says item (open_paren ∷ open_paren ∷ ts) xs rest e = list_first of says item open_paren ts xs rest e
list_said of says item (open_paren ∷ comma ∷ ts) xs rest e = list_first of says item comma ts xs rest e
list_said of says item (open_paren ∷ arrow ∷ ts) xs rest e = list_first of says item arrow ts xs rest e
list_said of says item (open_paren ∷ operator o ∷ ts) xs rest e = list_first of says item (operator o) ts xs rest e
list_said of says item (open_paren ∷ stray ∷ ts) xs rest e = list_first of says item stray ts xs rest e
list_said of says item (close_paren ∷ ts) xs rest e = absurd (cc)
list_said of says item (word w ∷ ts) xs rest e = absurd (cc)
list_said of says item (text t ∷ ts) xs rest e = absurd (cc)
list_said of says item (comma ∷ ts) xs rest e = absurd (cc)
list_said of says item (arrow ∷ ts) xs rest e = absurd (cc)
list_said of says item (operator o ∷ ts) xs rest e = absurd (cc)
list_said of says item (stray ∷ ts) xs rest e = absurd (cc)

pub list_from : {A : Type 0} (of : Token → Option A) (says : A → Token → Type 0)
    → ((t : Token) (a : A) → says a t → of t ≡ Some a) → of close_paren ≡ None → (xs : List A) (us rest : List Token)
    → AllZip says xs us
    → list_in of (list_tokens us ++ rest) ≡ Some (xs, rest)
list_from of says item outside [] [] rest h = refl
list_from of says item outside [] (u ∷ us) rest h = absurd h
list_from of says item outside (x ∷ xs) [] rest h = absurd h
list_from of says item outside (x ∷ xs) (close_paren ∷ us) rest h = let is = item close_paren x h.0 in absurd (cc)
list_from of says item outside (x ∷ xs) (word w ∷ us) rest h = ap₂ put_first (item (word w) x h.0)
    (more_from of says item xs us rest h.1)
list_from of says item outside (x ∷ xs) (text t ∷ us) rest h = ap₂ put_first (item (text t) x h.0)
    (more_from of says item xs us rest h.1)
list_from of says item outside (x ∷ xs) (open_paren ∷ us) rest h = ap₂ put_first (item open_paren x h.0)
    (more_from of says item xs us rest h.1)
list_from of says item outside (x ∷ xs) (comma ∷ us) rest h = ap₂ put_first (item comma x h.0)
    (more_from of says item xs us rest h.1)
list_from of says item outside (x ∷ xs) (arrow ∷ us) rest h = ap₂ put_first (item arrow x h.0)
    (more_from of says item xs us rest h.1)
list_from of says item outside (x ∷ xs) (operator o ∷ us) rest h = ap₂ put_first (item (operator o) x h.0)
    (more_from of says item xs us rest h.1)
list_from of says item outside (x ∷ xs) (stray ∷ us) rest h = ap₂ put_first (item stray x h.0)
    (more_from of says item xs us rest h.1)
