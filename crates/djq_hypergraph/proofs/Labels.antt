-- Lists of labels up to order, in how many of them a variable lies, and flat queries.
use Rattle.std.specs.Prelude.{◌≡◌, ◌⊎◌, ℕ, ◌+◌, ◌<◌, Bool, true, false, cond, ◌==◌, List, [], ◌∷◌, ◌++◌, map, refl}
use Rattle.std.specs.Prelude.{length, ◌≤◌, ◌&&◌, ◌≢◌, ◌-◌, min, ◌||◌, nat_lt, take, max}
use Rattle.std.proofs.Common.{sym, ap, ap₂, ◌∙◌, arith, inl, inr, ◌↔◌, zero, suc, IsTrue, not, subst, lt-ltb, le-ltb}
use Rattle.std.proofs.Common.{ltb-true, ltb-false}
use Rattle.std.proofs.lemmas.Bool.{cases_Bool, eq-eqb, eqb-true, cases_lt, cases_eq, ne_eqb, and_parts}
use Rattle.std.proofs.lemmas.List.Kept.{IsStrictlyIncreasing-filter}
use Rattle.std.proofs.lemmas.List.{take_more, take_all, get_or_past}
use Rattle.std.proofs.lemmas.List.Elements.{All-filter}
use Rattle.std.proofs.lemmas.List.Folds.{list_all_more}
use Rattle.djq_hypergraph.specs.declared.var_set.TheConstants.{VARIABLES}
use Rattle.djq_hypergraph.specs.Hypergraph.{one, member, subset, degree, difference, intersection, edge_at}
use Rattle.djq_hypergraph.specs.Variables.{AreCovered, AreNamed, IsVariableSet, AreVariableSets}
use Rattle.djq_hypergraph.specs.Flat.{edges_are_within, is_apart, IsFlatAt}
use Rattle.djq_hypergraph.proofs.Sets.{one_le, one_true, from_true, from_false, has_bit, has_here, has_tail, same_one}
use Rattle.djq_hypergraph.proofs.Sets.{one_and, has_difference, has_intersection, subset_says, subset_from, one_false}
use Rattle.djq_hypergraph.proofs.Sets.{one_or}

-- ---- Lists up to order: two lists are alike where each item stands as often in the one as in the other.

-- a test of equality
pub record Test (A : Type 0) : Type 0 where
  pub eq : A → A → Bool
  pub alike : (a b : A) → eq a b ≡ true → a ≡ b
  pub itself : (a : A) → eq a a ≡ true

-- the sum of g over a list
abbrev pub total : {A : Type 0} → (A → ℕ) → List A → ℕ
total g [] = 0
total g (l ∷ L) = g l + total g L

module _ {A : Type 0} (T : Test A) where
  -- how often the item stands in the list
  abbrev pub times : A → List A → ℕ
  times a [] = 0
  times a (l ∷ L) = one (T.eq a l) + times a L

  -- the lists are alike up to order
  abbrev pub Bag : List A → List A → Type 0
  Bag L M = (a : A) → times a L ≡ times a M

  -- the list without the first place of the item
  abbrev pub out_of : A → List A → List A
  out_of a [] = []
  out_of a (l ∷ L) = cond (T.eq a l) L (l ∷ out_of a L)

  pub times_itself : (a : A) → one (T.eq a a) ≡ 1
  times_itself a = omega (arith, from_true (T.eq a a) (T.itself a), one_le (T.eq a a))

  pub same_item : (a b : A) → 0 < one (T.eq a b) → a ≡ b
  same_item a b h = T.alike a b (one_true (T.eq a b) h)

  out_step : (b : Bool) (a l : A) (L : List A) (g : A → ℕ) → b ≡ T.eq a l → 0 < one b + times a L
      → (0 < times a L → total g L ≡ g a + total g (out_of a L)) → g l + total g L
      ≡ g a + total g (cond b L (l ∷ out_of a L))
  out_step true a l L g e h r = let k : a ≡ l = T.alike a l (sym e) in rw k refl
  out_step false a l L g e h r = let k = r (omega arith) in omega arith

  -- a total over a list is that over an item of it and over what is left
  pub total_out : (g : A → ℕ) (a : A) (L : List A) → 0 < times a L → total g L ≡ g a + total g (out_of a L)
  total_out g a [] h = absurd (omega arith)
  total_out g a (l ∷ L) h = out_step (T.eq a l) a l L g refl h (λ k. total_out g a L k)

  pub times_total : (d : A) (L : List A) → times d L ≡ total (λ l. one (T.eq d l)) L
  times_total d [] = refl
  times_total d (l ∷ L) = ap (λ n. one (T.eq d l) + n) (times_total d L)

  pub out_same : (a : A) (L : List A) → 0 < times a L → Bag L (a ∷ out_of a L)
  out_same a L h d = omega (arith, times_total d L, total_out (λ l. one (T.eq d l)) a L h, times_total d (out_of a L))

  -- no item stands in a list that is like the empty one
  pub none_left : (M : List A) → Bag [] M → M ≡ []
  none_left [] h = refl
  none_left (m ∷ M) h = absurd (omega (arith, h m, times_itself m))

  pub total_same : (g : A → ℕ) (L M : List A) → Bag L M → total g L ≡ total g M
  total_same g [] M h = rw (none_left M h) refl
  total_same g (l ∷ L) M h =
      let stands : 0 < times l M = omega (arith, h l, times_itself l) in
      let rest : Bag L (out_of l M) = λ d. let q = h d in let o = out_same l M stands d in omega arith in
      omega (arith, total_out g l M stands, total_same g L (out_of l M) rest)

  pub times_append : (a : A) (L M : List A) → times a (L ++ M) ≡ times a L + times a M
  times_append a [] M = omega arith
  times_append a (l ∷ L) M = omega (arith, times_append a L M)

  pub length_total : (L : List A) → length L ≡ total (λ l. 1) L
  length_total [] = refl
  length_total (l ∷ L) = omega (arith, length_total L)

  pub length_same : (L M : List A) → Bag L M → length L ≡ length M
  length_same L M h = length_total L ∙ total_same (λ l. 1) L M h ∙ sym (length_total M)

  -- a list with no item more often than another one of its length is like it
  pub full : (L M : List A) → ((a : A) → times a L ≤ times a M) → length L ≡ length M → Bag L M
  full [] [] h same = λ a. refl
  full [] (m ∷ M) h same = absurd (omega arith)
  full (l ∷ L) M h same =
      let stands : 0 < times l M = omega (arith, h l, times_itself l) in
      let out = out_same l M stands in
      let r = full L (out_of l M) (λ a. let p = h a in let q = out a in omega arith)
      (omega (arith, length_same M (l ∷ out_of l M) out)) in
      λ a. let p = r a in let q = out a in omega arith

  -- two lists with other heads that are alike have the same rest
  pub record Two (g e : A) (L M : List A) : Type 0 where
    pub rest : List A
    pub right : Bag M (g ∷ rest)
    pub left : Bag L (e ∷ rest)

  pub two_heads : (g e : A) (L M : List A) → Bag (g ∷ L) (e ∷ M) → ((g ≡ e) × Bag L M) ⊎ Two g e L M
  two_heads g e L M h =
      elim (cases_Bool (T.eq g e)) [
        | inl same ↦
            let k : g ≡ e = T.alike g e same in
            inl (
              k,
              λ d. let q = h d in let w : one (T.eq d g)
                  ≡ one (T.eq d e) = ap (λ (z : A). one (T.eq d z)) k in omega arith,
            )
        | inr other ↦
            let stands : 0 < times g M = omega (arith, h g, times_itself g, from_false (T.eq g e) other) in
            inr (record {
              rest = out_of g M;
              right = out_same g M stands;
              left = λ d. let q = h d in let o = out_same g M stands d in omega arith;
            })
      ]

module _ {A B : Type 0} (T : Test A) (U : Test B) (f : A → B) where
  pub times_map : (b : B) (L : List A) → times U b (map f L) ≡ total (λ a. one (U.eq b (f a))) L
  times_map b [] = refl
  times_map b (l ∷ L) = ap (λ n. one (U.eq b (f l)) + n) (times_map b L)

  pub map_same : (L M : List A) → Bag T L M → Bag U (map f L) (map f M)
  map_same L M h b = times_map b L ∙ total_same T (λ a. one (U.eq b (f a))) L M h ∙ sym (times_map b M)

  -- an item of the images is the image of an item
  pub from_map : (b : B) (L : List A) → 0 < times U b (map f L) → (a : A) × (b ≡ f a) × (0 < times T a L)
  from_map b [] h = absurd (omega arith)
  from_map b (l ∷ L) h =
      elim (cases_Bool (U.eq b (f l))) [
        | inl same ↦ (l, U.alike b (f l) same, omega (arith, times_itself T l))
        | inr other ↦
            let r = from_map b L (omega (arith, from_false (U.eq b (f l)) other)) in
            (r.0, r.1, omega (arith, r.2))
      ]

  no_images : (S : List A) → Bag U [] (map f S) → S ≡ []
  no_images [] h = refl
  no_images (s ∷ S) h = absurd (omega (arith, h (f s), times_itself U (f s)))

  drawn_step : (e : B) (L : List B) (S : List A) (a : A) → e ≡ f a → 0 < times T a S → (R : List A)
      → Bag T R (out_of T a S) → map f R ≡ L → (R' : List A) × Bag T R' S × (map f R' ≡ e ∷ L)
  drawn_step e L S a is stands R those images = (
    a ∷ R,
    λ d. let k = those d in let o = out_same T a S stands d in omega arith,
    ap₂
        (λ (x : B) (xs : List B). x ∷ xs) (sym is) images,
  )

  -- a list that is like the images of S is the images of a list like S
  pub drawn : (L : List B) (S : List A) → Bag U L (map f S) → (R : List A) × Bag T R S × (map f R ≡ L)
  drawn [] S h = ([], λ d. rw (no_images S h) refl, refl)
  drawn (e ∷ L) S h =
      let p = from_map e S (omega (arith, h e, times_itself U e)) in
      let rest : Bag U L (map f (out_of T p.0 S)) =
      λ d.
      let q = h d in
      let w : one (U.eq d e) ≡ one (U.eq d (f p.0)) = ap (λ (z : B). one (U.eq d z)) p.1 in
      omega (arith, times_map d S, total_out T (λ a. one (U.eq d (f a))) p.0 S p.2, times_map d (out_of T p.0 S)) in
      let r = drawn L (out_of T p.0 S) rest in
      drawn_step e L S p.0 p.1 p.2 r.0 r.1 r.2

-- ---- numbers and lists of them

abbrev pub numbers : Test ℕ
numbers = record { eq = λ a b. a == b; alike = λ a b e. eqb-true a b e; itself = λ a. eq-eqb a a refl }

abbrev pub equal : List ℕ → List ℕ → Bool
equal [] [] = true
equal [] (y ∷ ys) = false
equal (x ∷ xs) [] = false
equal (x ∷ xs) (y ∷ ys) = cond (x == y) (equal xs ys) false

equal_step : (b c : Bool) → cond b c false ≡ true → (b ≡ true) × (c ≡ true)
equal_step true true h = (refl, refl)
equal_step true false h = absurd cc
equal_step false c h = absurd cc

pub equal_alike : (a b : List ℕ) → equal a b ≡ true → a ≡ b
equal_alike [] [] h = refl
equal_alike [] (y ∷ ys) h = absurd cc
equal_alike (x ∷ xs) [] h = absurd cc
equal_alike (x ∷ xs) (y ∷ ys) h =
    let p = equal_step (x == y) (equal xs ys) h in
    rw (eqb-true x y p.0, equal_alike xs ys p.1) refl

pub equal_itself : (a : List ℕ) → equal a a ≡ true
equal_itself [] = refl
equal_itself (x ∷ xs) = rw (eq-eqb x x refl) (equal_itself xs)

abbrev pub labels : Test (List ℕ)
labels = record { eq = equal; alike = equal_alike; itself = equal_itself }

-- ---- Lists of labels up to order, and in how many of them a variable lies.

-- how often the label stands in the list
abbrev pub count : List ℕ → List (List ℕ) → ℕ
count a L = times labels a L

-- the lists of labels are alike up to order
abbrev pub Same : List (List ℕ) → List (List ℕ) → Type 0
Same L M = (a : List ℕ) → count a L ≡ count a M

pub count_self : (a : List ℕ) (L : List (List ℕ)) → 0 < count a (a ∷ L)
count_self a L = omega (arith, times_itself labels a)

pub degree_total : (x : ℕ) (L : List (List ℕ)) → degree x L ≡ total (λ l. has_bit x l) L
degree_total x [] = refl
degree_total x (l ∷ L) = ap (λ n. has_bit x l + n) (degree_total x L)

pub degree_same : (x : ℕ) (L M : List (List ℕ)) → Same L M → degree x L ≡ degree x M
degree_same x L M h = degree_total x L ∙ total_same labels (λ l. has_bit x l) L M h ∙ sym (degree_total x M)

pub degree_append : (x : ℕ) (L M : List (List ℕ)) → degree x (L ++ M) ≡ degree x L + degree x M
degree_append x [] M = omega arith
degree_append x (l ∷ L) M = omega (arith, degree_append x L M)

-- a variable of a label of the list lies in the list
pub degree_in : (x : ℕ) (a : List ℕ) (L : List (List ℕ)) → 0 < count a L → 0 < has_bit x a → 0 < degree x L
degree_in x a L stands within = omega (arith, degree_same x L (a ∷ out_of labels a L) (out_same labels a L stands))

-- a variable of one set that isn't in the other
pub record Outside (e f : List ℕ) : Type 0 where
  pub var : ℕ
  pub within : 0 < has_bit var e
  pub without : has_bit var f ≡ 0

pub outside : (e f : List ℕ) → subset e f ≡ false → Outside e f
outside [] f h = absurd cc
outside (x ∷ e) f h =
    elim (cases_Bool (member x f)) [
      | inl in_f ↦
          let rest : subset e f ≡ false = in_rest (member x f) (subset e f) in_f h in
          let o = outside e f rest in
          record { var = o.var; within = omega (arith, o.within, has_tail o.var x e); without = o.without }
      | inr out_f ↦ record {
        var = x;
        within = omega (arith, has_here x x e refl);
        without = from_false (member x f)
            out_f;
      }
    ]
  where
    in_rest : (a b : Bool) → a ≡ true → a && b ≡ false → b ≡ false
    in_rest true b p q = q
    in_rest false b p q = absurd cc

-- ---- In how many of the sets seen so far a variable lies: in one at least, and in two.

once_step : (a b : Bool) (m n : ℕ) → a ≡ nat_lt 0 m → n ≡ m + one b → (a || b) ≡ nat_lt 0 n
once_step true b m n e f = let some = ltb-true 0 m (sym e) in sym (lt-ltb 0 n (omega arith))
once_step false true m n e f = sym (lt-ltb 0 n (omega arith))
once_step false false m n e f = let none = ltb-false 0 m (sym e) in sym (le-ltb 0 n (omega arith))

twice_step : (t a b : Bool) (m n : ℕ) → t ≡ nat_lt 1 m → a ≡ nat_lt 0 m → n ≡ m + one b → (t || (a && b)) ≡ nat_lt 1 n
twice_step true a b m n d e f = let some = ltb-true 1 m (sym d) in sym (lt-ltb 1 n (omega arith))
twice_step false true true m n d e f = let some = ltb-true 0 m (sym e) in sym (lt-ltb 1 n (omega arith))
twice_step false true false m n d e f = let few = ltb-false 1 m (sym d) in sym (le-ltb 1 n (omega arith))
twice_step false false b m n d e f = let none = ltb-false 0 m (sym e) in let most = one_le b in sym
    (le-ltb 1 n (omega arith))

own_test : (a t r : Bool) (n : ℕ) → a ≡ nat_lt 0 n → t ≡ nat_lt 1 n → one r ≡ min (one a) (1 - one t) → r ≡ (n == 1)
own_test a true r n d e f = let many = ltb-true 1 n (sym e) in let other : n ≢ 1 = λ same. omega arith in same_one r
    (n == 1) (rw (ne_eqb n 1 other) (omega arith))
own_test true false r n d e f =
    let some = ltb-true 0 n (sym d) in
    let few = ltb-false 1 n (sym e) in
    same_one r (n == 1) (rw (eq-eqb n 1 (omega arith)) (omega arith))
own_test false false r n d e f =
    let none = ltb-false 0 n (sym d) in
    let other : n ≢ 1 = λ same. omega arith in
    same_one r (n == 1) (rw (ne_eqb n 1 other) (omega arith))

pub degree_more : (x : ℕ) (E : List (List ℕ)) (i : ℕ) → i < length E → degree x (take (i + 1) E)
    ≡ degree x (take i E) + has_bit x (edge_at E i)
degree_more x E i within = ap (λ (L : List (List ℕ)). degree x L) (take_more E i [] within)
    ∙ omega (arith, degree_append x (take i E) (edge_at E i ∷ []))

-- the variables seen once and twice, with one more edge
pub once_more : (E : List (List ℕ)) (i : ℕ) (e old new : List ℕ) → i < length E → e ≡ edge_at E i
    → ((x : ℕ) → member x old ≡ nat_lt 0 (degree x (take i E)))
    → ((x : ℕ) → member x new ≡ (member x old || member x e)) → (x : ℕ) → member x new
    ≡ nat_lt 0 (degree x (take (i + 1) E))
once_more E i e old new within is saw union x =
    let here : has_bit x e ≡ has_bit x (edge_at E i) = ap (λ (l : List ℕ). has_bit x l) is in
    union x ∙ once_step (member x old) (member x e) (degree x (take i E)) (degree x (take (i + 1) E)) (saw x)
    (omega (arith, degree_more x E i within))

pub twice_more : (E : List (List ℕ)) (i : ℕ) (e once both old new : List ℕ) → i < length E → e ≡ edge_at E i
    → ((x : ℕ) → member x once ≡ nat_lt 0 (degree x (take i E)))
    → ((x : ℕ) → member x old ≡ nat_lt 1 (degree x (take i E))) → both ≡ intersection once e
    → ((x : ℕ) → member x new ≡ (member x old || member x both)) → (x : ℕ) → member x new
    ≡ nat_lt 1 (degree x (take (i + 1) E))
twice_more E i e once both old new within is saw saw_twice shared union x =
    let here : has_bit x e ≡ has_bit x (edge_at E i) = ap (λ (l : List ℕ). has_bit x l) is in
    let in_both : member x both ≡ (member x once && member x e) =
    ap (λ (l : List ℕ). member x l) shared
    ∙ same_one (member x (intersection once e)) (member x once && member x e)
    (has_intersection x once e ∙ sym (one_and (member x once) (member x e))) in
    union x ∙ ap (λ (b : Bool). member x old || b) in_both
    ∙ twice_step (member x old) (member x once) (member x e) (degree x (take i E)) (degree x (take (i + 1) E))
    (saw_twice x) (saw x) (omega (arith, degree_more x E i within))

pub own_variables_of : (E : List (List ℕ)) (i : ℕ) (once twice own : List ℕ) → length E ≤ i
    → ((x : ℕ) → member x once ≡ nat_lt 0 (degree x (take i E)))
    → ((x : ℕ) → member x twice ≡ nat_lt 1 (degree x (take i E)))
    → own ≡ difference once twice → (x : ℕ) → member x own ≡ (degree x E == 1)
own_variables_of E i once twice own all saw saw_twice is x =
    let whole : degree x (take i E) ≡ degree x E = ap (λ (L : List (List ℕ)). degree x L) (take_all i E all) in
    let r : has_bit x own ≡ min (has_bit x once) (1 - has_bit x twice) = ap (λ (l : List ℕ). has_bit x l) is
    ∙ has_difference x once twice in
    own_test (member x once) (member x twice) (member x own) (degree x (take i E)) (saw x) (saw_twice x) r
    ∙ ap (λ (n : ℕ). n == 1) whole

-- ---- the variables that lie in an edge

pub edge_in : (E : List (List ℕ)) (p x : ℕ) → has_bit x (edge_at E p) ≤ degree x E
edge_in [] zero x = omega arith
edge_in [] (suc p) x = omega arith
edge_in (e ∷ E) zero x = omega arith
edge_in (e ∷ E) (suc p) x = let r = edge_in E p x in omega arith

pub edge_with : (E : List (List ℕ)) (x : ℕ) → 0 < degree x E → (p : ℕ) × (member x (edge_at E p) ≡ true)
edge_with [] x h = absurd (omega arith)
edge_with (e ∷ E) x h =
    elim (cases_lt 0 (has_bit x e)) [
      | inl here ↦ (0, one_true (member x e) here)
      | inr other ↦ let r = edge_with E x (omega arith) in (suc r.0, r.1)
    ]

pub covered : (E : List (List ℕ)) (F V : List ℕ) (r : Bool) → ((x : ℕ) → member x V ≡ nat_lt 0 (degree x E)) → r
    ≡ subset F V → IsTrue r ↔ AreCovered F E
covered E F V r all is = (
  λ holds x h.
      let s = subset_says F V (sym is ∙ holds) x in
      let f = from_true (member x F) h in
      ltb-true 0 (degree x E) (sym (all x) ∙ one_true (member x V) (omega arith)),
  λ each. is ∙ subset_from F V (λ x. in_all x (cases_lt 0 (has_bit x F)) (each x)),
)
  where
    in_all : (x : ℕ) → (0 < has_bit x F) ⊎ (has_bit x F ≤ 0) → (member x F ≡ true → 0 < degree x E)
        → has_bit x F ≤ has_bit x V
    in_all x (inl some) h = let d = h (one_true (member x F) some) in let o = one_le (member x F) in let t = from_true
        (member x V) (all x ∙ lt-ltb 0 (degree x E) d) in omega arith
    in_all x (inr none) h = omega arith

-- what the names' test has found so far: a variable of the edges has a name or is left
pub record Naming (names E : List (List ℕ)) (rest : List ℕ) : Type 0 where
  pub named : (x : ℕ) → 0 < degree x E → (x < length names) ⊎ (0 < has_bit x rest)
  pub within : (x : ℕ) → 0 < has_bit x rest → 0 < degree x E

pub naming_done : (names E : List (List ℕ)) (rest : List ℕ) → Naming names E rest → rest ≡ [] → AreNamed names E
naming_done names E rest n none p x h =
    let d = edge_in E p x in
    let f = from_true (member x (edge_at E p)) h in
    elim (n.named x (omega arith))
    [ inl has_name ↦ has_name | inr left ↦ absurd (let e : has_bit x rest ≡ 0 = ap (has_bit x) none in omega arith) ]

pub unnamed : (names E : List (List ℕ)) (old new : List ℕ) (v : ℕ) → Naming names E old → old ≡ v ∷ new
    → length names ≤ v → AreNamed names E → ⊥
unnamed names E old new v n is high all =
    let e : has_bit v old ≡ has_bit v (v ∷ new) = ap (has_bit v) is in
    let h = has_here v v new refl in
    let p = edge_with E v (n.within v (omega arith)) in
    let q = all p.0 v p.1 in
    omega arith

-- a set without a variable that isn't in it
pub absent_stays : (v : ℕ) (l : List ℕ) → has_bit v l ≡ 0 → l ≡ difference l (v ∷ [])
absent_stays v [] h = refl
absent_stays v (x ∷ l) h =
    elim (cases_eq x v) [
      | inl same ↦ absurd (let k = has_here v x l (sym same) in omega arith)
      | inr apart ↦
          let r = absent_stays v l (let k = has_tail v x l in omega arith) in
          rw (ne_eqb x v apart) (ap (λ (m : List ℕ). x ∷ m) r)
    ]

-- ---- edges are sets

pub no_variables : IsVariableSet []
no_variables = record { rising = λ k within. absurd (omega arith); below = λ k d within. absurd (omega arith) }

pub sets_more : (E : List (List ℕ)) (i : ℕ) (e : List ℕ) → e ≡ edge_at E i → IsVariableSet e
    → ((p : ℕ) → p < i → IsVariableSet (edge_at E p)) → (p : ℕ) → p < i + 1 → IsVariableSet (edge_at E p)
sets_more E i e is set earlier p low =
    elim (cases_eq p i) [
      | inl same ↦ subst IsVariableSet (is ∙ ap (edge_at E) (sym same)) set
      | inr apart ↦ earlier p (omega arith)
    ]

pub sets_done : (E : List (List ℕ)) (i : ℕ) → length E ≤ i → ((p : ℕ) → p < i → IsVariableSet (edge_at E p))
    → AreVariableSets E
sets_done E i all earlier p =
    elim (cases_lt p i) [
      | inl low ↦ earlier p low
      | inr high ↦ subst IsVariableSet (sym (get_or_past E p [] (omega arith))) no_variables
    ]

pub difference_set : (e f : List ℕ) → IsVariableSet e → IsVariableSet (difference e f)
difference_set e f set = record {
  rising = IsStrictlyIncreasing-filter (λ x. not (member x f)) e set.rising;
  below = All-filter (λ x. not (member x f)) (λ x. x < VARIABLES) e set.below;
}

-- ---- Flat queries, one variable at a time: what one pass over the edges says of it and any other.

-- what the edges L say of the variable x and any other: which are in each edge with x, in some edge with x, and in
-- some edge without x
pub record Compares (L : List (List ℕ)) (all : List ℕ) (x : ℕ) (common joined others : List ℕ) : Type 0 where
  pub shared : (y : ℕ) → member y common ≡ (member y all && edges_are_within L x y)
  pub near : (y : ℕ) → member y joined ≡ not (is_apart L x y)
  pub far : (y : ℕ) → member y others ≡ not (edges_are_within L y x)

within_more : (H : List (List ℕ)) (i x y : ℕ) → i < length H → edges_are_within (take (i + 1) H) x y
    ≡ (edges_are_within (take i H) x y && (not (member x (edge_at H i)) || member y (edge_at H i)))
within_more H i x y low = list_all_more (λ (e : List ℕ). not (member x e) || member y e) H i [] low

apart_more : (H : List (List ℕ)) (i x y : ℕ) → i < length H → is_apart (take (i + 1) H) x y
    ≡ (is_apart (take i H) x y && not (member x (edge_at H i) && member y (edge_at H i)))
apart_more H i x y low = list_all_more (λ (e : List ℕ). not (member x e && member y e)) H i [] low

-- ---- one edge more

both : (y : ℕ) (e f : List ℕ) → member y (intersection e f) ≡ (member y e && member y f)
both y e f = same_one (member y (intersection e f)) (member y e && member y f)
    (has_intersection y e f ∙ sym (one_and (member y e) (member y f)))

shared_with : (a w e t s : Bool) → t ≡ true → s ≡ (a && w) → (s && e) ≡ (a && (w && (not t || e)))
shared_with a w e false s h is = absurd cc
shared_with true true e true s h is = rw is refl
shared_with true false e true s h is = rw is refl
shared_with false w e true s h is = rw is refl

shared_without : (a w e t s : Bool) → t ≡ false → s ≡ (a && w) → s ≡ (a && (w && (not t || e)))
shared_without a w e true s h is = absurd cc
shared_without a true e false s h is = is
shared_without a false e false s h is = is

near_with : (p e t n : Bool) → t ≡ true → n ≡ not p → (n || e) ≡ not (p && not (t && e))
near_with p e false n h is = absurd cc
near_with true true true n h is = rw is refl
near_with true false true n h is = rw is refl
near_with false e true n h is = rw is refl

near_without : (p e t n : Bool) → t ≡ false → n ≡ not p → n ≡ not (p && not (t && e))
near_without p e true n h is = absurd cc
near_without true e false n h is = is
near_without false e false n h is = is

far_with : (w e t f : Bool) → t ≡ true → f ≡ not w → f ≡ not (w && (not e || t))
far_with w e false f h is = absurd cc
far_with true true true f h is = is
far_with true false true f h is = is
far_with false e true f h is = is

far_without : (w e t f : Bool) → t ≡ false → f ≡ not w → (f || e) ≡ not (w && (not e || t))
far_without w e true f h is = absurd cc
far_without true true false f h is = rw is refl
far_without true false false f h is = rw is refl
far_without false e false f h is = rw is refl

pub compares_with : (H : List (List ℕ)) (i : ℕ) (e all : List ℕ) (x : ℕ) (shared near far wide : List ℕ) → i < length H
    → e ≡ edge_at H i → member x e ≡ true
    → Compares (take i H) all x shared near far → ((y : ℕ) → member y wide ≡ (member y near || member y e))
    → Compares (take (i + 1) H) all x (intersection shared e) wide far
compares_with H i e all x shared near far wide low is has_bit c joined =
    let here : member x (edge_at H i) ≡ true = ap (λ (l : List ℕ). member x l) (sym is) ∙ has_bit in
    let at : (y : ℕ) → member y e ≡ member y (edge_at H i) = λ y. ap (λ (l : List ℕ). member y l) is in
    record {
      shared = λ y.
          both y shared e ∙ ap (λ (b : Bool). member y shared && b) (at y)
          ∙ shared_with (member y all) (edges_are_within (take i H) x y) (member y (edge_at H i))
          (member x (edge_at H i))
          (member y shared) here (c.shared y)
          ∙ ap (λ (b : Bool). member y all && b) (sym (within_more H i x y low));
      near = λ y.
          joined y ∙ ap (λ (b : Bool). member y near || b) (at y)
          ∙ near_with (is_apart (take i H) x y) (member y (edge_at H i)) (member x (edge_at H i)) (member y near) here
          (c.near y)
          ∙ ap not (sym (apart_more H i x y low));
      far = λ y.
          far_with (edges_are_within (take i H) y x) (member y (edge_at H i)) (member x (edge_at H i))
          (member y far) here
          (c.far y)
          ∙ ap not (sym (within_more H i y x low));
    }

pub compares_without : (H : List (List ℕ)) (i : ℕ) (e all : List ℕ) (x : ℕ) (shared near far wide : List ℕ)
    → i < length H → e ≡ edge_at H i → member x e ≡ false
    → Compares (take i H) all x shared near far → ((y : ℕ) → member y wide ≡ (member y far || member y e))
    → Compares (take (i + 1) H) all x shared near wide
compares_without H i e all x shared near far wide low is lacks c joined =
    let here : member x (edge_at H i) ≡ false = ap (λ (l : List ℕ). member x l) (sym is) ∙ lacks in
    let at : (y : ℕ) → member y e ≡ member y (edge_at H i) = λ y. ap (λ (l : List ℕ). member y l) is in
    record {
      shared = λ y.
          shared_without (member y all) (edges_are_within (take i H) x y) (member y (edge_at H i))
          (member x (edge_at H i))
          (member y shared) here (c.shared y)
          ∙ ap (λ (b : Bool). member y all && b) (sym (within_more H i x y low));
      near = λ y.
          near_without (is_apart (take i H) x y) (member y (edge_at H i)) (member x (edge_at H i)) (member y near) here
          (c.near y)
          ∙ ap not (sym (apart_more H i x y low));
      far = λ y.
          joined y ∙ ap (λ (b : Bool). member y far || b) (at y)
          ∙ far_without (edges_are_within (take i H) y x) (member y (edge_at H i)) (member x (edge_at H i))
          (member y far) here
          (c.far y)
          ∙ ap not (sym (within_more H i y x low));
    }

-- ---- before the first edge, and after the last

pub compares_all : (H : List (List ℕ)) (i : ℕ) (all : List ℕ) (x : ℕ) (shared near far : List ℕ) → length H ≤ i
    → Compares (take i H) all x shared near far → Compares H all x shared near far
compares_all H i all x shared near far past c = subst (λ (L : List (List ℕ)). Compares L all x shared near far)
    (take_all i H past) c

pub compares_same : (L : List (List ℕ)) (all : List ℕ) (x : ℕ) (shared near far common joined others : List ℕ) → common
    ≡ shared → joined ≡ near → others ≡ far → Compares L all x shared near far → Compares L all x common joined others
compares_same L all x shared near far common joined others p q r c =
    record {
      shared = λ y. ap (member y) p ∙ c.shared y;
      near = λ y. ap (member y) q
          ∙ c.near y;
      far = λ y. ap (member y) r ∙ c.far y;
    }

-- a variable that lies in no edge
within_none : (H : List (List ℕ)) (x y : ℕ) → degree x H ≡ 0 → edges_are_within H x y ≡ true
within_none [] x y none = refl
within_none (e ∷ H) x y none = rw (one_false (member x e) (omega arith), within_none H x y (omega arith)) refl

apart_none : (H : List (List ℕ)) (x y : ℕ) → degree y H ≡ 0 → is_apart H x y ≡ true
apart_none [] x y none = refl
apart_none (e ∷ H) x y none = rw
    (not_both (member x e) (member y e) (one_false (member y e) (omega arith)), apart_none H x y (omega arith)) refl
  where
    not_both : (a b : Bool) → b ≡ false → not (a && b) ≡ true
    not_both true b h = rw h refl
    not_both false b h = refl

near_lies : (H : List (List ℕ)) (x y : ℕ) → is_apart H x y ≡ false → 0 < degree y H
near_lies H x y met = elim (cases_lt 0 (degree y H))
    [ inl some ↦ some | inr none ↦ absurd (let t = apart_none H x y (omega arith) in cc) ]

far_lies : (H : List (List ℕ)) (x y : ℕ) → edges_are_within H y x ≡ false → 0 < degree y H
far_lies H x y parted = elim (cases_lt 0 (degree y H))
    [ inl some ↦ some | inr none ↦ absurd (let t = within_none H y x (omega arith) in cc) ]

meet_says : (e f g : List ℕ) → subset (intersection e f) g ≡ true → (y : ℕ) → member y e ≡ true → member y f ≡ true
    → member y g ≡ true
meet_says e f g h y here there =
    one_true (member y g)
    (omega (
      arith,
      subset_says (intersection e f) g h y,
      has_intersection y e f,
      from_true (member y e) here,
      from_true (member y f) there,
    ))

meet_from : (e f g : List ℕ) → ((y : ℕ) → member y e ≡ true → member y f ≡ true → member y g ≡ true)
    → subset (intersection e f) g ≡ true
meet_from e f g each = subset_from (intersection e f) g
    (λ y. let m = has_intersection y e f in let b = below (member y e) (member y f) (member y g) (each y) in omega
    arith)
  where
    below : (a b c : Bool) → (a ≡ true → b ≡ true → c ≡ true) → min (one a) (one b) ≤ one c
    below true true c h = rw (h refl refl) (omega arith)
    below true false c h = omega arith
    below false b c h = omega arith

or_three : (a b c : Bool) → (b ≡ false → c ≡ false → a ≡ true) → (a || b || c) ≡ true
or_three true b c h = refl
or_three false true c h = refl
or_three false false true h = refl
or_three false false false h = h refl refl

only_first : (a b c : Bool) → (a || b || c) ≡ true → b ≡ false → c ≡ false → a ≡ true
only_first true b c h f g = refl
only_first false true c h f g = absurd cc
only_first false false true h f g = absurd cc
only_first false false false h f g = h

not_true : (a b : Bool) → a ≡ not b → a ≡ true → b ≡ false
not_true a true is h = absurd cc
not_true a false is h = refl

-- what the pass says decides it
module _ (H : List (List ℕ)) (F all : List ℕ) (x : ℕ) (shared near far : List ℕ) (c : Compares H all x shared near far)
    (lie : (y : ℕ) → member y all ≡ nat_lt 0 (degree y H)) where
  nested_says : subset (intersection near far) shared ≡ true → (y : ℕ)
      → (edges_are_within H x y || edges_are_within H y x || is_apart H x y) ≡ true
  nested_says h y =
      or_three (edges_are_within H x y) (edges_are_within H y x) (is_apart H x y)
      (λ parted met. (and_parts (member y all) (edges_are_within H x y)
      (sym (c.shared y) ∙ meet_says near far shared h y (c.near y ∙ ap not met) (c.far y ∙ ap not parted))).1)

  nested_from : ((y : ℕ) → (edges_are_within H x y || edges_are_within H y x || is_apart H x y) ≡ true)
      → subset (intersection near far) shared ≡ true
  nested_from h =
      meet_from near far shared (λ y here there.
      let met = not_true (member y near) (is_apart H x y) (c.near y) here in
      let parted = not_true (member y far) (edges_are_within H y x) (c.far y) there in
      let a : member y all ≡ true = lie y ∙ lt-ltb 0 (degree y H) (near_lies H x y met) in
      let w = only_first (edges_are_within H x y) (edges_are_within H y x) (is_apart H x y) (h y) parted met in
      c.shared y ∙ rw (a, w) refl)

  headed_says : subset (intersection shared far) F ≡ true → (y : ℕ) → edges_are_within H x y ≡ true
      → edges_are_within H y x ≡ false
      → member y F ≡ true
  headed_says h y w parted =
      let a : member y all ≡ true = lie y ∙ lt-ltb 0 (degree y H) (far_lies H x y parted) in
      let here : member y shared ≡ true = c.shared y ∙ rw (a, w) refl in
      meet_says shared far F h y here (c.far y ∙ ap not parted)

  headed_from : ((y : ℕ) → edges_are_within H x y ≡ true → edges_are_within H y x ≡ false → member y F ≡ true)
      → subset (intersection shared far) F ≡ true
  headed_from h =
      meet_from shared far F (λ y here there.
      h y (and_parts (member y all) (edges_are_within H x y) (sym (c.shared y) ∙ here)).1
      (not_true (member y far) (edges_are_within H y x) (c.far y) there))

  pub not_nested : (meet : List ℕ) (r : Bool) → meet ≡ intersection near far → r ≡ subset meet shared → r ≡ false
      → IsFlatAt H F x → ⊥
  not_nested meet r is test crossed flat = let n = nested_from flat.nested in let t = ap
      (λ (m : List ℕ). subset m shared) is in cc

  pub nested_outside : (meet : List ℕ) (r : Bool) → meet ≡ intersection near far → r ≡ subset meet shared → r ≡ true
      → member x F ≡ false → IsFlatAt H F x
  nested_outside meet r is test h out = record {
    nested = nested_says (sym (test ∙ ap (λ (m : List ℕ). subset m shared) is) ∙ h);
    headed = λ y within w parted.
        absurd cc;
  }

  pub nested_inside : (meet lesser : List ℕ) (r s : Bool) → meet ≡ intersection near far → r ≡ subset meet shared → r
      ≡ true → member x F ≡ true
      → lesser ≡ intersection shared far → s ≡ subset lesser F → IsTrue s ↔ IsFlatAt H F x
  nested_inside meet lesser r s is test h within is_lesser last = (
    λ t. record {
      nested = nested_says (sym (test ∙ ap (λ (m : List ℕ). subset m shared) is) ∙ h);
      headed = λ y also w
          parted. headed_says (sym (last ∙ ap (λ (m : List ℕ). subset m F) is_lesser) ∙ t) y w parted;
    },
    λ flat. last ∙ ap (λ (m : List ℕ). subset m F) is_lesser
        ∙ headed_from (λ y w parted. flat.headed y within w parted),
  )

-- a variable of no edge that isn't in the head is as in a flat query
pub flat_outside : (H : List (List ℕ)) (F all rest : List ℕ) (x : ℕ) → member x all ≡ nat_lt 0 (degree x H)
    → member x rest ≡ (member x all || member x F) → has_bit x rest ≡ 0 → IsFlatAt H F x
flat_outside H F all rest x lies joined out =
    let neither : max (has_bit x all) (has_bit x F) ≡ 0 = sym (one_or (member x all) (member x F)) ∙ ap one (sym joined)
    ∙ out in
    let none : degree x H
    ≡ 0 = elim (cases_lt 0 (degree x H)) [
      | inl some ↦ absurd (let f = from_true (member x all) (lies ∙ lt-ltb 0 (degree x H) some) in omega arith)
      | inr
          low ↦ omega arith
    ] in
    let absent : member x F ≡ false = one_false (member x F) (omega arith) in
    record {
      nested = λ y. or_three (edges_are_within H x y) (edges_are_within H y x) (is_apart H x y)
          (λ f g. within_none H x y none);
      headed = λ y in_head w parted. absurd cc;
    }
