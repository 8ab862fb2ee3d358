-- Edges in lexical order, and rows that are among others.
use Rattle.std.proofs.Common.{◌≡◌, ℕ, zero, suc, ◌<◌, List, [], ◌∷◌, ◌++◌, length, sym, ◌∙◌, ◌⊎◌, inl, inr, arith, true}
use Rattle.std.proofs.Common.{false, refl, ap, ap₂, subst}
use Rattle.std.specs.Prelude.{Contains, slice_index_or, ◌↔◌, nat_lt, All, AllPairs}
use Rattle.std.proofs.lemmas.Bool.{cases_Bool, false≢true, cases_lt, cases_eq, eq-eqb, ne_eqb, lt-ltb, ltb-true}
use Rattle.std.specs.List.{fold, insert}
use Rattle.std.proofs.lemmas.List.Elements.{All-cons}
use Rattle.std.proofs.lemmas.List.Kept.{AllPairs-cons}
use Rattle.djq_model.specs.Data.{Tuple, tuple_eq, without_row}
use Rattle.djq_model.specs.Equality.{tuple_eq-decides}
use Rattle.djq_model.specs.Answer.{AreDifferent}
use Rattle.djq_model.proofs.Copies.{rest_differ}
use Rattle.djq_union.proofs.Merges.{at_head, none_contained}
use Rattle.djq_protocol.specs.Rest.{is_before}
use Rattle.djq_binder.specs.Ordering.{with_edge, in_order, IsPlaceFor}

-- ---- Rows that are among others.

pub in_rest : {A : Type 0} (y x : A) (xs : List A) → Contains xs x → Contains (y ∷ xs) x
in_rest y x xs c = (suc c.0, (let low = c.1 in omega arith), c.2)

in_cons_at : {A : Type 0} (y x : A) (xs : List A) (k : ℕ) → k < length (y ∷ xs)
    → slice_index_or (y ∷ xs) k x ≡ x → (y ≡ x) ⊎ Contains xs x
in_cons_at y x xs zero low e = inl e
in_cons_at y x xs (suc k) low e = inr (k, omega arith, e)

pub in_cons : {A : Type 0} (y x : A) (xs : List A) → Contains (y ∷ xs) x
    → (y ≡ x) ⊎ Contains xs x
in_cons y x xs c = in_cons_at y x xs c.0 c.1 c.2

pub in_only : {A : Type 0} (y x : A) → Contains (y ∷ []) x → y ≡ x
in_only y x c = elim (in_cons y x [] c) [ inl is ↦ is | inr there ↦ absurd (none_contained x there) ]

pub in_left : {A : Type 0} (x : A) (xs ys : List A) → Contains xs x → Contains (xs ++ ys) x
in_left x [] ys c = absurd (none_contained x c)
in_left x (y ∷ xs) ys c =
    elim (in_cons y x xs c) [
      | inl here ↦ (0, omega arith, here)
      | inr there ↦ in_rest y x (xs ++ ys) (in_left x xs ys there)
    ]

pub in_last : {A : Type 0} (x : A) (xs : List A) → Contains (xs ++ x ∷ []) x
in_last x [] = at_head x []
in_last x (y ∷ xs) = in_rest y x (xs ++ x ∷ []) (in_last x xs)

pub in_pushed : {A : Type 0} (y x : A) (xs : List A) → Contains (xs ++ y ∷ []) x
    → Contains xs x ⊎ (y ≡ x)
in_pushed y x [] c =
    elim (in_cons y x [] c) [ inl here ↦ inr here | inr there ↦ absurd (none_contained x there) ]
in_pushed y x (z ∷ xs) c =
    elim (in_cons z x (xs ++ y ∷ []) c) [
      | inl here ↦ inl (0, omega arith, here)
      | inr there ↦ elim (in_pushed y x xs there)
          [ inl before ↦ inl (in_rest z x xs before) | inr last ↦ inr last ]
    ]

-- ---- without one

pub first_different : (r x : Tuple) (rows : List Tuple) → AreDifferent (r ∷ rows) → Contains rows x
    → r ≡ x → ⊥
first_different r x rows d c e =
    d zero (suc c.0) x (omega arith) (let low = c.1 in omega arith) (e ∙ sym c.2)

pub in_without : (rows : List Tuple) (row x : Tuple) → AreDifferent rows
    → Contains (without_row rows row) x → Contains rows x × (row ≡ x → ⊥)
in_without [] row x d c = absurd (none_contained x c)
in_without (r ∷ rows) row x d c =
    elim (cases_Bool (tuple_eq r row)) [
      | inl same ↦
          let there : Contains rows x = rw same at c in
          let is = (tuple_eq-decides r row).0 same in
          (in_rest r x rows there, λ e. first_different r x rows d there (is ∙ e))
      | inr other ↦
          let k : Contains (r ∷ without_row rows row) x = rw other at c in
          elim (in_cons r x (without_row rows row) k) [
            | inl here ↦ (
              (0, omega arith, here),
              λ e. false≢true (sym other ∙ (tuple_eq-decides r row).1 (here ∙ sym e)),
            )
            | inr there ↦
                let p = in_without rows row x (rest_differ r rows d) there in
                (in_rest r x rows p.0, p.1)
          ]
    ]

pub still_in : (rows : List Tuple) (row x : Tuple) → Contains rows x → (row ≡ x → ⊥)
    → Contains (without_row rows row) x
still_in [] row x c other = absurd (none_contained x c)
still_in (r ∷ rows) row x c other =
    elim (cases_Bool (tuple_eq r row)) [
      | inl same ↦ rw same
          (elim (in_cons r x rows c) [
            | inl here ↦ absurd (other (sym ((tuple_eq-decides r row).0 same) ∙ here))
            | inr there ↦ there
          ])
      | inr isnt ↦ rw isnt
          (elim (in_cons r x rows c) [
            | inl here ↦ (0, omega arith, here)
            | inr there ↦ in_rest r x (without_row rows row) (still_in rows row x there other)
          ])
    ]

-- ---- Edges in lexical order.

-- ---- the order

-- the first variables decide, or, where they are the same, the others
low_first : (x y : ℕ) (xs ys : List ℕ) → x < y → is_before (x ∷ xs) (y ∷ ys) ≡ true
low_first x y xs ys low = rw (lt-ltb x y low) refl

not_low : (x y : ℕ) → (x < y → ⊥) → nat_lt x y ≡ false
not_low x y h = elim (cases_Bool (nat_lt x y))
    [ inl e ↦ absurd (h (ltb-true x y e)) | inr e ↦ e ]

same_first : (x y : ℕ) (xs ys : List ℕ) → x ≡ y → is_before (x ∷ xs) (y ∷ ys) ≡ is_before xs ys
same_first x y xs ys same = rw (not_low x y (λ l. absurd (omega arith)), eq-eqb x y same) refl

high_first : (x y : ℕ) (xs ys : List ℕ) → y < x → is_before (x ∷ xs) (y ∷ ys) ≡ false
high_first x y xs ys high =
    rw (not_low x y (λ l. absurd (omega arith)), ne_eqb x y (λ e. absurd (omega arith))) refl

-- an edge that is neither before another one nor behind it is the same
pub same_edge : (e f : List ℕ) → is_before e f ≡ false → is_before f e ≡ false → e ≡ f
same_edge [] [] g h = refl
same_edge [] (y ∷ ys) g h = absurd (false≢true (sym g))
same_edge (x ∷ xs) [] g h = absurd (false≢true (sym h))
same_edge (x ∷ xs) (y ∷ ys) g h =
    elim (cases_lt x y) [
      | inl low ↦ absurd (false≢true (sym g ∙ low_first x y xs ys low))
      | inr le ↦
          elim (cases_eq x y) [
            | inl same ↦
                ap₂ (λ (z : ℕ) (zs : List ℕ). z ∷ zs) same
                (same_edge xs ys (sym (same_first x y xs ys same) ∙ g)
                (sym (same_first y x ys xs (sym same)) ∙ h))
            | inr apart ↦ absurd (false≢true (sym h ∙ low_first y x ys xs (omega arith)))
          ]
    ]

pub before_on : (e f g : List ℕ) → is_before e f ≡ true → is_before f g ≡ true
    → is_before e g ≡ true
before_on [] [] g a b = absurd (false≢true a)
before_on [] (y ∷ ys) [] a b = absurd (false≢true b)
before_on [] (y ∷ ys) (z ∷ zs) a b = refl
before_on (x ∷ xs) [] g a b = absurd (false≢true a)
before_on (x ∷ xs) (y ∷ ys) [] a b = absurd (false≢true b)
before_on (x ∷ xs) (y ∷ ys) (z ∷ zs) a b =
    elim (cases_lt x y) [
      | inl low ↦
          elim (cases_lt z y) [
            | inl high ↦ absurd (false≢true (sym (high_first y z ys zs high) ∙ b))
            | inr le ↦ low_first x z xs zs (omega arith)
          ]
      | inr le ↦
          elim (cases_eq x y) [
            | inr apart ↦ absurd (false≢true (sym (high_first x y xs ys (omega arith)) ∙ a))
            | inl same ↦
                elim (cases_lt y z) [
                  | inl low ↦ low_first x z xs zs (omega arith)
                  | inr high ↦
                      elim (cases_eq y z) [
                        | inr apart ↦
                            absurd (false≢true (sym (high_first y z ys zs (omega arith)) ∙ b))
                        | inl also ↦
                            same_first x z xs zs (same ∙ also)
                            ∙ before_on xs ys zs (sym (same_first x y xs ys same) ∙ a)
                            (sym (same_first y z ys zs also) ∙ b)
                      ]
                ]
          ]
    ]

-- ---- an edge put in

-- it is put in at its place
pub put_at : (edges : List (List ℕ)) (e : List ℕ) (at : ℕ) → IsPlaceFor edges e at
    → (at < length edges → is_before e (slice_index_or edges at []) ≡ true)
    → insert edges at e ≡ with_edge e edges
unfolding with_edge
put_at [] e zero p free = refl
put_at [] e (suc at) p free = absurd (let w = p.within in omega arith)
put_at (f ∷ fs) e zero p free =
    let there : is_before f e ≡ false = p.there (omega arith) in
    let lower : is_before e f ≡ true = free (omega arith) in
    rw (there, lower) refl
put_at (f ∷ fs) e (suc at) p free =
    let first : is_before f e ≡ true = p.before 0 (omega arith) in
    let rest = put_at fs e at (record {
      within = (let w = p.within in omega arith);
      before = λ k low. p.before (suc k) (omega arith);
      there = λ low. p.there (omega arith);
    }) (λ low. free (omega arith)) in
    rw first (ap (λ (gs : List (List ℕ)). f ∷ gs) rest)

-- an edge that is there isn't put in
pub there_at : (edges : List (List ℕ)) (e : List ℕ) (at : ℕ) → IsPlaceFor edges e at
    → at < length edges → is_before e (slice_index_or edges at []) ≡ false
    → edges ≡ with_edge e edges
unfolding with_edge
there_at [] e at p low isnt = absurd (omega arith)
there_at (f ∷ fs) e zero p low isnt =
    let there : is_before f e ≡ false = p.there (omega arith) in
    let lower : is_before e f ≡ false = isnt in
    rw (there, lower) refl
there_at (f ∷ fs) e (suc at) p low isnt =
    let first : is_before f e ≡ true = p.before 0 (omega arith) in
    let rest = there_at fs e at (record {
      within = (let w = p.within in omega arith);
      before = λ k less. p.before (suc k) (omega arith);
      there = λ less. p.there (omega arith);
    }) (omega arith) isnt in
    rw first (ap (λ (gs : List (List ℕ)). f ∷ gs) rest)

-- what `with_edge` is, case by case
behind : (e f : List ℕ) (fs : List (List ℕ)) → is_before f e ≡ true
    → with_edge e (f ∷ fs) ≡ f ∷ with_edge e fs
unfolding with_edge
behind e f fs h = rw h refl

ahead : (e f : List ℕ) (fs : List (List ℕ)) → is_before f e ≡ false → is_before e f ≡ true
    → with_edge e (f ∷ fs) ≡ e ∷ f ∷ fs
unfolding with_edge
ahead e f fs h i = rw (h, i) refl

equal : (e f : List ℕ) (fs : List (List ℕ)) → is_before f e ≡ false → is_before e f ≡ false
    → with_edge e (f ∷ fs) ≡ f ∷ fs
unfolding with_edge
equal e f fs h i = rw (h, i) refl

alone : (e : List ℕ) → with_edge e [] ≡ e ∷ []
unfolding with_edge
alone e = refl

-- ---- members

pub put_says : (e g : List ℕ) (fs : List (List ℕ)) → Contains (with_edge e fs) g
    → (e ≡ g) ⊎ Contains fs g
put_says e g [] h = in_cons e g [] (subst (λ (l : List (List ℕ)). Contains l g) (alone e) h)
put_says e g (f ∷ fs) h =
    elim (cases_Bool (is_before f e)) [
      | inl before ↦
          elim (in_cons f g (with_edge e fs)
          (subst (λ (l : List (List ℕ)). Contains l g) (behind e f fs before) h)) [
            | inl here ↦ inr (subst (λ (x : List ℕ). Contains (f ∷ fs) x) here (at_head f fs))
            | inr there ↦
                elim (put_says e g fs there)
                [ inl is ↦ inl is | inr rest ↦ inr (in_rest f g fs rest) ]
          ]
      | inr isnt ↦
          elim (cases_Bool (is_before e f)) [
            | inl lower ↦ in_cons e g (f ∷ fs)
                (subst (λ (l : List (List ℕ)). Contains l g) (ahead e f fs isnt lower) h)
            | inr same ↦ inr
                (subst (λ (l : List (List ℕ)). Contains l g) (equal e f fs isnt same) h)
          ]
    ]

pub put_has : (e g : List ℕ) (fs : List (List ℕ)) → (e ≡ g) ⊎ Contains fs g
    → Contains (with_edge e fs) g
put_has e g [] h =
    subst (λ (l : List (List ℕ)). Contains l g) (sym (alone e))
    (elim h [
      | inl is ↦ subst (λ (x : List ℕ). Contains (e ∷ []) x) is (at_head e [])
      | inr there ↦ absurd (none_contained g there)
    ])
put_has e g (f ∷ fs) h =
    elim (cases_Bool (is_before f e)) [
      | inl before ↦
          subst (λ (l : List (List ℕ)). Contains l g) (sym (behind e f fs before))
          (elim h [
            | inl is ↦ in_rest f g (with_edge e fs) (put_has e g fs (inl is))
            | inr there ↦
                elim (in_cons f g fs there) [
                  | inl here ↦ subst (λ (x : List ℕ). Contains (f ∷ with_edge e fs) x) here
                      (at_head f (with_edge e fs))
                  | inr rest ↦ in_rest f g (with_edge e fs) (put_has e g fs (inr rest))
                ]
          ])
      | inr isnt ↦
          elim (cases_Bool (is_before e f)) [
            | inl lower ↦
                subst (λ (l : List (List ℕ)). Contains l g) (sym (ahead e f fs isnt lower))
                (elim h [
                  | inl is ↦ subst (λ (x : List ℕ). Contains (e ∷ f ∷ fs) x) is
                      (at_head e (f ∷ fs))
                  | inr there ↦ in_rest e g (f ∷ fs) there
                ])
            | inr same ↦
                subst (λ (l : List (List ℕ)). Contains l g) (sym (equal e f fs isnt same))
                (elim h [
                  | inl is ↦ subst (λ (x : List ℕ). Contains (f ∷ fs) x)
                      (same_edge f e isnt same ∙ is) (at_head f fs)
                  | inr there ↦ there
                ])
          ]
    ]

-- edges put in one after another
putting_says : (sorted edges : List (List ℕ)) (g : List ℕ)
    → Contains (fold (λ sorted e. with_edge e sorted) sorted edges) g
    → Contains sorted g ⊎ Contains edges g
putting_says sorted [] g h = inl h
putting_says sorted (e ∷ edges) g h =
    elim (putting_says (with_edge e sorted) edges g h) [
      | inl put ↦
          elim (put_says e g sorted put) [
            | inl is ↦ inr (subst (λ (x : List ℕ). Contains (e ∷ edges) x) is (at_head e edges))
            | inr before ↦ inl before
          ]
      | inr later ↦ inr (in_rest e g edges later)
    ]

putting_has : (sorted edges : List (List ℕ)) (g : List ℕ) → Contains sorted g ⊎ Contains edges g
    → Contains (fold (λ sorted e. with_edge e sorted) sorted edges) g
putting_has sorted [] g h =
    elim h [ inl there ↦ there | inr none ↦ absurd (none_contained g none) ]
putting_has sorted (e ∷ edges) g h =
    putting_has (with_edge e sorted) edges g
    (elim h [
      | inl there ↦ inl (put_has e g sorted (inr there))
      | inr there ↦
          elim (in_cons e g edges there) [
            | inl is ↦ inl (put_has e g sorted (inl is))
            | inr later ↦ inr later
          ]
    ])

pub ordered_members : (edges : List (List ℕ)) (g : List ℕ)
    → Contains (in_order edges) g ↔ Contains edges g
ordered_members edges g = (
  λ h. elim (putting_says [] edges g h)
      [ inl none ↦ absurd (none_contained g none) | inr there ↦ there ],
  λ h. putting_has [] edges g (inr h),
)

-- ---- order

abbrev pub Rises : List (List ℕ) → Type 0
Rises edges = AllPairs (λ e f. is_before e f ≡ true) edges

tail_rises : (f : List ℕ) (fs : List (List ℕ)) → Rises (f ∷ fs) → Rises fs
tail_rises f fs h i j d a b = h (suc i) (suc j) d (omega arith) (omega arith)

head_rises : (f : List ℕ) (fs : List (List ℕ)) → Rises (f ∷ fs)
    → All (λ g. is_before f g ≡ true) fs
head_rises f fs h i d low = h 0 (suc i) d (omega arith) (omega arith)

all_tail : (P : List ℕ → Type 0) (f : List ℕ) (fs : List (List ℕ)) → All P (f ∷ fs) → All P fs
all_tail P f fs h i d low = h (suc i) d (omega arith)

all_put : (P : List ℕ → Type 0) (e : List ℕ) (fs : List (List ℕ)) → P e → All P fs
    → All P (with_edge e fs)
all_put P e [] p h = subst (λ (l : List (List ℕ)). All P l) (sym (alone e)) (All-cons P e [] p h)
all_put P e (f ∷ fs) p h =
    elim (cases_Bool (is_before f e)) [
      | inl before ↦
          subst (λ (l : List (List ℕ)). All P l) (sym (behind e f fs before))
          (All-cons P f (with_edge e fs) (h 0 f (omega arith))
          (all_put P e fs p (all_tail P f fs h)))
      | inr isnt ↦
          elim (cases_Bool (is_before e f)) [
            | inl lower ↦
                subst (λ (l : List (List ℕ)). All P l) (sym (ahead e f fs isnt lower))
                (All-cons P e (f ∷ fs) p h)
            | inr same ↦
                subst (λ (l : List (List ℕ)). All P l) (sym (equal e f fs isnt same)) h
          ]
    ]

all_before : (e f : List ℕ) (fs : List (List ℕ)) → is_before e f ≡ true
    → All (λ g. is_before f g ≡ true) fs → All (λ g. is_before e g ≡ true) fs
all_before e f fs lower h i d low =
    before_on e f (slice_index_or fs i d) lower (h i d low)

put_rises : (e : List ℕ) (fs : List (List ℕ)) → Rises fs → Rises (with_edge e fs)
put_rises e [] h = subst (λ (l : List (List ℕ)). Rises l) (sym (alone e))
    (λ i j d a b. absurd (omega arith))
put_rises e (f ∷ fs) h =
    elim (cases_Bool (is_before f e)) [
      | inl before ↦
          subst (λ (l : List (List ℕ)). Rises l) (sym (behind e f fs before))
          (AllPairs-cons (λ e f. is_before e f ≡ true) f (with_edge e fs)
          (all_put (λ g. is_before f g ≡ true) e fs before (head_rises f fs h))
          (put_rises e fs (tail_rises f fs h)))
      | inr isnt ↦
          elim (cases_Bool (is_before e f)) [
            | inl lower ↦
                subst (λ (l : List (List ℕ)). Rises l) (sym (ahead e f fs isnt lower))
                (AllPairs-cons (λ e f. is_before e f ≡ true) e (f ∷ fs)
                (All-cons (λ g. is_before e g ≡ true) f fs lower
                (all_before e f fs lower (head_rises f fs h))) h)
            | inr same ↦
                subst (λ (l : List (List ℕ)). Rises l) (sym (equal e f fs isnt same)) h
          ]
    ]

putting_rises : (sorted edges : List (List ℕ)) → Rises sorted
    → Rises (fold (λ sorted e. with_edge e sorted) sorted edges)
putting_rises sorted [] h = h
putting_rises sorted (e ∷ edges) h =
    putting_rises (with_edge e sorted) edges (put_rises e sorted h)

pub ordered_rises : (edges : List (List ℕ)) → Rises (in_order edges)
ordered_rises edges = putting_rises [] edges (λ i j d a b. absurd (omega arith))
