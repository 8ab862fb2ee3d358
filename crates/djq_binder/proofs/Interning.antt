-- Constants become known, one after another.
use Rattle.std.proofs.Common.{◌≡◌, ℕ, zero, suc, ◌+◌, ◌<◌, ◌≤◌, Bool, true, false, List, [], ◌∷◌, ◌++◌, length, take}
use Rattle.std.proofs.Common.{drop, refl, ap, sym, subst, ◌∙◌, inl, inr, arith, append_assoc, append-nil}
use Rattle.std.specs.Prelude.{⊤, ◌&&◌, ◌==◌, Result, Ok, Err, get_or, if◌then◌else◌, nat_le}
use Rattle.std.specs.List.{flat_map}
use Rattle.std.proofs.lemmas.Bool.{cases_eq, eq-eqb, false≢true, le-leb}
use Rattle.std.proofs.lemmas.Grind.{flat_map-append}
use Rattle.std.proofs.lemmas.List.{drop_all, take_more, take-append-drop, take_all}
use Rattle.djq_dictionary.specs.declared.refusal.InternRefusal.{InternRefusal}
use Rattle.djq_dictionary.specs.declared.refusal.InternRefusal.TheVariants.{Full, NoMem}
use Rattle.djq_model.specs.declared.value.Value.{Value}
use Rattle.djq_model.specs.declared.value.Value.TheVariants.{Int, Text}
use Rattle.djq_model.specs.declared.query.Atom.{Atom}
use Rattle.djq_model.specs.declared.query.Comparison.{Comparison}
use Rattle.djq_model.specs.Data.{Bytes, Tuple}
use Rattle.djq_model.specs.Known.{all_learned, knows, texts_in}
use Rattle.djq_protocol.specs.Variables.{constant_of, compared_behind, compared_last, constants_from}
use Rattle.djq_database.specs.Cells.{HasCell, HaveCells}
use Rattle.djq_database.specs.Changes.{InternsValue}
use Rattle.djq_database.proofs.Cells.{have_grown, Grown, all_grown, all_learned-append, grown_is, texts_in-append}
use Rattle.djq_binder.specs.Planning.{InternsConstants}

have_both : (texts : List Bytes) (xs ys : Tuple) → HaveCells texts xs → HaveCells texts ys
    → HaveCells texts (xs ++ ys)
have_both texts [] ys h k = k
have_both texts (x ∷ xs) ys h k = (h.0, have_both texts xs ys h.1 k)

-- what was learned first, and then the rest
learned_on : (a b c : List Bytes) (ss ts : List Bytes) → b ≡ all_learned a ss
    → c ≡ all_learned b ts → c ≡ all_learned a (ss ++ ts)
learned_on a b c ss ts e f =
    f ∙ ap (λ (l : List Bytes). all_learned l ts) e ∙ sym (all_learned-append a ss ts)

-- constants that are known, and further ones
pub known_more : (a b c : List Bytes) (cs ds : Tuple) (r : Result ⊤ InternRefusal)
    → InternsConstants a cs (Ok tt) b → InternsConstants b ds r c
    → InternsConstants a (cs ++ ds) r c
known_more a b c cs ds (Ok u) h k =
    let learned : c ≡ all_learned a (texts_in (cs ++ ds)) =
    learned_on a b c (texts_in cs) (texts_in ds) h.0.0 k.0.0
    ∙ ap (all_learned a) (sym (texts_in-append cs ds)) in
    let grown : Grown b c =
    grown_is b c (all_learned b (texts_in ds)) k.0.0 (all_grown b (texts_in ds)) in
    ((learned, k.0.1), have_both c cs ds (have_grown b c cs grown h.1) k.1)
known_more a b c cs ds (Err Full) h k = record {
  first = texts_in cs ++ k.first;
  next = k.next;
  rest = k.rest;
  parts = texts_in-append cs ds ∙ ap (λ (l : List Bytes). texts_in cs ++ l) k.parts
      ∙ sym (append_assoc (texts_in cs) k.first (k.next ∷ k.rest));
  learned = learned_on a b c (texts_in cs) k.first h.0.0 k.learned;
  unknown = k.unknown;
  full = k.full;
}
known_more a b c cs ds (Err NoMem) h k = record {
  first = texts_in cs ++ k.first;
  rest = k.rest;
  parts = texts_in-append cs ds ∙ ap (λ (l : List Bytes). texts_in cs ++ l) k.parts
      ∙ sym (append_assoc (texts_in cs) k.first k.rest);
  learned = learned_on a b c (texts_in cs) k.first h.0.0 k.learned;
}

-- a refusal stays one, whatever constants there are besides
pub refused_more : (a b : List Bytes) (cs ds : Tuple) (r : InternRefusal)
    → InternsConstants a cs (Err r) b → InternsConstants a (cs ++ ds) (Err r) b
refused_more a b cs ds Full h = record {
  first = h.first;
  next = h.next;
  rest = h.rest ++ texts_in ds;
  parts = texts_in-append cs ds ∙ ap (λ (l : List Bytes). l ++ texts_in ds) h.parts
      ∙ append_assoc h.first (h.next ∷ h.rest) (texts_in ds);
  learned = h.learned;
  unknown = h.unknown;
  full = h.full;
}
refused_more a b cs ds NoMem h = record {
  first = h.first;
  rest = h.rest ++ texts_in ds;
  parts = texts_in-append cs ds ∙ ap (λ (l : List Bytes). l ++ texts_in ds) h.parts
      ∙ append_assoc h.first h.rest (texts_in ds);
  learned = h.learned;
}

-- ---- one constant

first_false : (b : Bool) → (b && true) ≡ false → b ≡ false
first_false true e = absurd (false≢true (sym e))
first_false false e = refl

pub one_refused : (old new : List Bytes) (v : Value) (r : InternRefusal)
    → InternsValue old v (Err r) new → InternsConstants old (v ∷ []) (Err r) new
one_refused old new (Int i) Full h = absurd (false≢true (sym h.0))
one_refused old new (Text t) Full h = record {
  first = [];
  next = t;
  rest = [];
  parts = refl;
  learned = h.2;
  unknown = ap (λ (l : List Bytes). knows l t) h.2 ∙ first_false (knows old t) h.0;
  full = ap (λ (l : List Bytes). length l) h.2 ∙ h.1;
}
one_refused old new v NoMem h = record {
  first = [];
  rest = texts_in (v ∷ []);
  parts = refl;
  learned = h.1;
}

-- ---- items with constants, one after another

module _ {X : Type 0} (f : X → Tuple) (xs : List X) where
  upto : (i : ℕ) (x : X) → i < length xs → x ≡ get_or xs i x
      → flat_map f (take (i + 1) xs) ≡ flat_map f (take i xs) ++ f x
  upto i x low is =
      ap (λ (l : List X). flat_map f l)
      (take_more xs i x low ∙ ap (λ (y : X). take i xs ++ y ∷ []) (sym is))
      ∙ flat_map-append f (take i xs) (x ∷ [])
      ∙ ap (λ (l : Tuple). flat_map f (take i xs) ++ l) (append-nil (f x))

  whole : (i : ℕ) → flat_map f (take i xs) ++ flat_map f (drop i xs) ≡ flat_map f xs
  whole i =
      sym (flat_map-append f (take i xs) (drop i xs))
      ∙ ap (λ (l : List X). flat_map f l) (take-append-drop i xs)

  pub step_known : (i : ℕ) (x : X) (a b c : List Bytes) → i < length xs → x ≡ get_or xs i x
      → InternsConstants a (flat_map f (take i xs)) (Ok tt) b
      → InternsConstants b (f x) (Ok tt) c
      → InternsConstants a (flat_map f (take (i + 1) xs)) (Ok tt) c
  step_known i x a b c low is h k =
      subst (λ (l : Tuple). InternsConstants a l (Ok tt) c) (sym (upto i x low is))
      (known_more a b c (flat_map f (take i xs)) (f x) (Ok tt) h k)

  pub step_refused : (i : ℕ) (x : X) (a b c : List Bytes) (r : InternRefusal) → i < length xs
      → x ≡ get_or xs i x → InternsConstants a (flat_map f (take i xs)) (Ok tt) b
      → InternsConstants b (f x) (Err r) c → InternsConstants a (flat_map f xs) (Err r) c
  step_refused i x a b c r low is h k =
      subst (λ (l : Tuple). InternsConstants a l (Err r) c) (whole (i + 1))
      (refused_more a c (flat_map f (take (i + 1) xs)) (flat_map f (drop (i + 1) xs)) r
      (subst (λ (l : Tuple). InternsConstants a l (Err r) c) (sym (upto i x low is))
      (known_more a b c (flat_map f (take i xs)) (f x) (Err r) h k)))

-- ---- the constants of a body, atom after atom

-- the constants of the atoms from this number on, and of the comparisons before each of them
abbrev pub constants_up : ℕ → List Atom → List Comparison → Tuple
constants_up n [] ks = []
constants_up n (a ∷ atoms) ks =
    compared_behind n ks ++ (flat_map constant_of a.terms ++ constants_up (suc n) atoms ks)

-- one atom more
pub up_push : (n : ℕ) (atoms : List Atom) (ks : List Comparison) (i : ℕ) (a : Atom)
    → i < length atoms → a ≡ get_or atoms i a
    → constants_up n (take (i + 1) atoms) ks
    ≡ constants_up n (take i atoms) ks
    ++ (compared_behind (n + i) ks ++ flat_map constant_of a.terms)
up_push n [] ks i a low is = absurd (omega arith)
up_push n (b ∷ atoms) ks zero a low is =
    let e : n ≡ n + 0 = omega arith in
    ap (λ (l : Tuple). compared_behind n ks ++ l)
    (append-nil (flat_map constant_of b.terms)
    ∙ ap (λ (c : Atom). flat_map constant_of c.terms) (sym is))
    ∙ ap (λ (k : ℕ). compared_behind k ks ++ flat_map constant_of a.terms) e
up_push n (b ∷ atoms) ks (suc i) a low is =
    let e : suc n + i ≡ n + suc i = omega arith in
    let more : suc i + 1 ≡ suc (i + 1) = omega arith in
    let X = compared_behind n ks in
    let Y = flat_map constant_of b.terms in
    let Z = constants_up (suc n) (take i atoms) ks in
    let W = compared_behind (n + suc i) ks ++ flat_map constant_of a.terms in
    ap (λ (k : ℕ). constants_up n (take k (b ∷ atoms)) ks) more
    ∙ ap (λ (l : Tuple). X ++ (Y ++ l))
    (up_push (suc n) atoms ks i a (omega arith) is
    ∙ ap (λ (k : ℕ). Z ++ (compared_behind k ks ++ flat_map constant_of a.terms)) e)
    ∙ ap (λ (l : Tuple). X ++ l) (sym (append_assoc Y Z W))
    ∙ sym (append_assoc X (Y ++ Z) W)

-- and the rest
pub up_rest : (n : ℕ) (atoms : List Atom) (ks : List Comparison) (i : ℕ) → i ≤ length atoms
    → constants_up n (take i atoms) ks ++ constants_from (n + i) (drop i atoms) ks
    ≡ constants_from n atoms ks
up_rest n [] ks zero low =
    let e : n + 0 ≡ n = omega arith in
    ap (λ (k : ℕ). compared_last k ks) e
up_rest n [] ks (suc i) low = absurd (omega arith)
up_rest n (a ∷ atoms) ks zero low =
    let e : n + 0 ≡ n = omega arith in
    ap (λ (k : ℕ). constants_from k (a ∷ atoms) ks) e
up_rest n (a ∷ atoms) ks (suc i) low =
    let e : n + suc i ≡ suc n + i = omega arith in
    let X = compared_behind n ks in
    let Y = flat_map constant_of a.terms in
    let Z = constants_up (suc n) (take i atoms) ks in
    let R = constants_from (n + suc i) (drop i atoms) ks in
    append_assoc X (Y ++ Z) R
    ∙ ap (λ (l : Tuple). X ++ l)
    (append_assoc Y Z R
    ∙ ap (λ (l : Tuple). Y ++ l)
    (ap (λ (k : ℕ). Z ++ constants_from k (drop i atoms) ks) e
    ∙ up_rest (suc n) atoms ks i (omega arith)))

-- ---- each constant has a cell where all have

pub have_parts : (texts : List Bytes) (xs ys : Tuple) → HaveCells texts (xs ++ ys)
    → HaveCells texts xs × HaveCells texts ys
have_parts texts [] ys h = (tt, h)
have_parts texts (x ∷ xs) ys h = let r = have_parts texts xs ys h.1 in ((h.0, r.0), r.1)

-- the constants of all comparisons that stand behind so many atoms have cells
abbrev pub HaveFrom : List Bytes → ℕ → List Comparison → Type 0
HaveFrom texts n [] = Unit {0}
HaveFrom texts n (k ∷ ks) = (n ≤ k.behind → HasCell texts k.constant) × HaveFrom texts n ks

first_in : (texts : List Bytes) (n : ℕ) (ks : List Comparison)
    → HaveCells texts (compared_behind n ks) → HaveFrom texts (suc n) ks → HaveFrom texts n ks
first_in texts n [] h rest = tt
first_in texts n (k ∷ ks) h rest =
    let f : Comparison → Tuple = λ c. if c.behind == n then c.constant ∷ [] else [] in
    let p = have_parts texts (f k) (compared_behind n ks) h in (
      λ low.
          elim (cases_eq k.behind n) [
            | inl here ↦
                let e = eq-eqb k.behind n here in
                let one : HaveCells texts (k.constant ∷ []) = rw e at p.0 in
                one.0
            | inr apart ↦ rest.0 (omega arith)
          ],
      first_in texts n ks p.1 rest.1,
    )

last_in : (texts : List Bytes) (n : ℕ) (ks : List Comparison)
    → HaveCells texts (compared_last n ks) → HaveFrom texts n ks
last_in texts n [] h = tt
last_in texts n (k ∷ ks) h =
    let f : Comparison → Tuple = λ c. if nat_le n c.behind then c.constant ∷ [] else [] in
    let p = have_parts texts (f k) (compared_last n ks) h in (
      λ low.
          let e : nat_le n k.behind ≡ true = le-leb n k.behind low in
          let one : HaveCells texts (k.constant ∷ []) = rw e at p.0 in
          one.0,
      last_in texts n ks p.1,
    )

pub compared_have : (texts : List Bytes) (n : ℕ) (atoms : List Atom) (ks : List Comparison)
    → HaveCells texts (constants_from n atoms ks) → HaveFrom texts n ks
compared_have texts n [] ks h = last_in texts n ks h
compared_have texts n (a ∷ atoms) ks h =
    let rest = constants_from (suc n) atoms ks in
    let p = have_parts texts (compared_behind n ks) (flat_map constant_of a.terms ++ rest) h in
    let r = have_parts texts (flat_map constant_of a.terms) rest p.1 in
    first_in texts n ks p.0 (compared_have texts (suc n) atoms ks r.1)

-- ---- the texts of a body become known

first_push : (i : ℕ) (a : Atom) (atoms : List Atom) (ks : List Comparison) → i < length atoms
    → a ≡ get_or atoms i a
    → constants_up 0 (take (i + 1) atoms) ks
    ≡ constants_up 0 (take i atoms) ks ++ (compared_behind i ks ++ flat_map constant_of a.terms)
first_push i a atoms ks low is =
    let e : 0 + i ≡ i = omega arith in
    up_push 0 atoms ks i a low is
    ∙ ap (λ (k : ℕ). constants_up 0 (take i atoms) ks
    ++ (compared_behind k ks ++ flat_map constant_of a.terms)) e

-- an atom more is known, with the comparisons before it
pub body_known : (i : ℕ) (a : Atom) (atoms : List Atom) (ks : List Comparison)
    (x y z : List Bytes) → i < length atoms → a ≡ get_or atoms i a
    → InternsConstants x (constants_up 0 (take i atoms) ks) (Ok tt) y
    → InternsConstants y (compared_behind i ks ++ flat_map constant_of a.terms) (Ok tt) z
    → InternsConstants x (constants_up 0 (take (i + 1) atoms) ks) (Ok tt) z
body_known i a atoms ks x y z low is h k =
    subst (λ (l : Tuple). InternsConstants x l (Ok tt) z) (sym (first_push i a atoms ks low is))
    (known_more x y z (constants_up 0 (take i atoms) ks)
    (compared_behind i ks ++ flat_map constant_of a.terms) (Ok tt) h k)

-- an atom is refused, or a comparison before it
pub body_refused : (i : ℕ) (a : Atom) (atoms : List Atom) (ks : List Comparison)
    (x y z : List Bytes) (r : InternRefusal) → i < length atoms → a ≡ get_or atoms i a
    → InternsConstants x (constants_up 0 (take i atoms) ks) (Ok tt) y
    → InternsConstants y (compared_behind i ks ++ flat_map constant_of a.terms) (Err r) z
    → InternsConstants x (constants_from 0 atoms ks) (Err r) z
body_refused i a atoms ks x y z r low is h k =
    subst (λ (l : Tuple). InternsConstants x l (Err r) z) (up_rest 0 atoms ks (i + 1) (omega arith))
    (refused_more x z (constants_up 0 (take (i + 1) atoms) ks)
    (constants_from (0 + (i + 1)) (drop (i + 1) atoms) ks) r
    (subst (λ (l : Tuple). InternsConstants x l (Err r) z) (sym (first_push i a atoms ks low is))
    (known_more x y z (constants_up 0 (take i atoms) ks)
    (compared_behind i ks ++ flat_map constant_of a.terms) (Err r) h k)))

-- and then the comparisons behind all atoms
pub body_whole : (i : ℕ) (atoms : List Atom) (ks : List Comparison) (x y z : List Bytes)
    (r : Result ⊤ InternRefusal) → length atoms ≤ i
    → InternsConstants x (constants_up 0 (take i atoms) ks) (Ok tt) y
    → InternsConstants y (compared_last (length atoms) ks) r z
    → InternsConstants x (constants_from 0 atoms ks) r z
body_whole i atoms ks x y z r past h k =
    let n = length atoms in
    let same : 0 + n ≡ n = omega arith in
    let front : constants_up 0 (take n atoms) ks ≡ constants_up 0 (take i atoms) ks =
    ap (λ (l : List Atom). constants_up 0 l ks)
    (take_all n atoms (omega arith) ∙ sym (take_all i atoms past)) in
    let back : constants_from (0 + n) (drop n atoms) ks ≡ compared_last n ks =
    ap (λ (l : List Atom). constants_from (0 + n) l ks) (drop_all n atoms (omega arith))
    ∙ ap (λ (k : ℕ). compared_last k ks) same in
    subst (λ (l : Tuple). InternsConstants x l r z)
    (sym (ap (λ (l : Tuple). l ++ constants_from (0 + n) (drop n atoms) ks) front
    ∙ ap (λ (l : Tuple). constants_up 0 (take i atoms) ks ++ l) back)
    ∙ up_rest 0 atoms ks n (omega arith))
    (known_more x y z (constants_up 0 (take i atoms) ks) (compared_last n ks) r h k)
