-- What a union has given, and lists without repeats.
use Rattle.std.proofs.Common.{◌≡◌, suc, ◌+◌, ◌<◌, ◌≤◌, Bool, true, false, cond, ◌⊎◌, inl, inr, List, [], ◌∷◌, ◌++◌}
use Rattle.std.proofs.Common.{length, refl, ap, sym, subst, ◌∙◌, arith}
use Rattle.std.specs.Prelude.{⊤, All, Contains, filter}
use Rattle.std.proofs.lemmas.Bool.{cases_Bool, both_ways}
use Rattle.std.proofs.lemmas.List.Kept.{AllPairs-cons}
use Rattle.std.proofs.lemmas.List.Elements.{All-weaker, All-contains_itself, Contains-append_right}
use Rattle.std.proofs.lemmas.List.Elements.{Contains-append_left, Contains-append_cases, Contains-push_cases}
use Rattle.djq_union.specs.Answers.{AreDistinctAnswers}
use Rattle.djq_union.specs.Order.{merged}

-- ---- Lists without repeats, by what they contain.

module _ {A : Type 0} where
  -- ---- what a list contains

  pub none_contained : (t : A) → Contains [] t → ⊥
  none_contained t h = omega (arith, h.1)

  pub at_head : (x : A) (xs : List A) → Contains (x ∷ xs) x
  at_head x xs = Contains-append_left (x ∷ []) xs x (0, omega arith, refl)

  pub in_tail : (x : A) (xs : List A) (t : A) → Contains xs t → Contains (x ∷ xs) t
  in_tail x xs t h = Contains-append_right (x ∷ []) xs t h

  pub head_or_tail : (x : A) (xs : List A) (t : A) → Contains (x ∷ xs) t → (x ≡ t) ⊎ Contains xs t
  head_or_tail x xs t h = elim (Contains-append_cases (x ∷ []) xs t h) [
    | inl here ↦ elim (Contains-push_cases [] x t here) [
      | inl none ↦ absurd (none_contained t none)
      | inr same ↦ inl same
    ]
    | inr there ↦ inr there
  ]

  pub all_of : (P : A → Type 0) (xs : List A) → ((t : A) → Contains xs t → P t) → All P xs
  all_of P xs h = All-weaker (Contains xs) P h xs (All-contains_itself xs)

  -- ---- lists without repeats

  abbrev pub AreOnce : List A → Type 0
  AreOnce [] = ⊤
  AreOnce (x ∷ xs) = (Contains xs x → ⊥) × AreOnce xs

  pub once_of : (xs : List A) → AreDistinctAnswers xs → AreOnce xs
  once_of [] h = tt
  once_of (x ∷ xs) h = (
    λ c. h 0 (suc c.0) x (omega arith) (omega (arith, c.1)) (sym c.2),
    once_of xs (λ i j d l m. h (suc i) (suc j) d (omega (arith, l)) (omega (arith, m))),
  )

  pub different_of : (xs : List A) → AreOnce xs → AreDistinctAnswers xs
  different_of [] h = λ i j d l m. absurd (omega (arith, m))
  different_of (x ∷ xs) h = AllPairs-cons (λ (s t : A). s ≡ t → ⊥) x xs
      (all_of (λ (t : A). x ≡ t → ⊥) xs
      (λ t there same. h.0 (subst (λ (u : A). Contains xs u) (sym same) there)))
      (different_of xs h.1)

  pub once_left : (xs : List A) (a : A) → AreOnce (xs ++ a ∷ []) → Contains xs a → ⊥
  once_left [] a once there = none_contained a there
  once_left (x ∷ xs) a once there = elim (head_or_tail x xs a there) [
    | inl same ↦ once.0
        (subst (λ (u : A). Contains (xs ++ a ∷ []) u) (sym same)
        (Contains-append_right xs (a ∷ []) a (at_head a [])))
    | inr later ↦ once_left xs a once.1 later
  ]

  -- ---- taking out one

  -- what is left of a list without one of its elements
  pub record IsWithout (ys : List A) (x : A) (zs : List A) : Type 0 where
    pub fewer : length ys ≡ length zs + 1
    pub left : (t : A) → Contains ys t → (t ≡ x) ⊎ Contains zs t

  pub without : (ys : List A) (x : A) → Contains ys x → (zs : List A) × IsWithout ys x zs
  without [] x h = absurd (none_contained x h)
  without (y ∷ ys) x h = elim (head_or_tail y ys x h) [
    | inl same ↦ (
      ys,
      record {
        fewer = omega arith;
        left = λ t there. elim (head_or_tail y ys t there) [
          | inl first ↦ inl (sym first ∙ same)
          | inr later ↦ inr later
        ];
      },
    )
    | inr there ↦ let r = without ys x there in (
      y ∷ r.0,
      record {
        fewer = let f = r.1.fewer in omega (arith, f);
        left = λ t at. elim (head_or_tail y ys t at) [
          | inl first ↦ inr (subst (λ (u : A). Contains (y ∷ r.0) u) first (at_head y r.0))
          | inr later ↦ elim (r.1.left t later) [
            | inl is ↦ inl is
            | inr kept ↦ inr (in_tail y r.0 t kept)
          ]
        ];
      },
    )
  ]

  -- ---- counting those with a property

  module _ (p : A → Bool) where
    pub counted : (x : A) (xs : List A) → p x ≡ true
        → length (filter p (x ∷ xs)) ≡ length (filter p xs) + 1
    counted x xs e =
        ap (λ (b : Bool). length (cond b (x ∷ filter p xs) (filter p xs))) e ∙ omega arith

    pub uncounted : (x : A) (xs : List A) → p x ≡ false
        → length (filter p (x ∷ xs)) ≡ length (filter p xs)
    uncounted x xs e = ap (λ (b : Bool). length (cond b (x ∷ filter p xs) (filter p xs))) e

    pub counted_last : (xs : List A) (a : A) → p a ≡ true
        → length (filter p (xs ++ a ∷ [])) ≡ length (filter p xs) + 1
    counted_last [] a e = counted a [] e
    counted_last (x ∷ xs) a e = elim (cases_Bool (p x)) [
      | inl yes_ ↦
          let here = counted x (xs ++ a ∷ []) yes_ in
          let there = counted x xs yes_ in
          let rest = counted_last xs a e in
          omega (arith, here, there, rest)
      | inr no_ ↦
          let here = uncounted x (xs ++ a ∷ []) no_ in
          let there = uncounted x xs no_ in
          let rest = counted_last xs a e in
          omega (arith, here, there, rest)
    ]

    pub uncounted_last : (xs : List A) (a : A) → p a ≡ false
        → length (filter p (xs ++ a ∷ [])) ≡ length (filter p xs)
    uncounted_last [] a e = uncounted a [] e
    uncounted_last (x ∷ xs) a e = elim (cases_Bool (p x)) [
      | inl yes_ ↦
          let here = counted x (xs ++ a ∷ []) yes_ in
          let there = counted x xs yes_ in
          let rest = uncounted_last xs a e in
          omega (arith, here, there, rest)
      | inr no_ ↦
          let here = uncounted x (xs ++ a ∷ []) no_ in
          let there = uncounted x xs no_ in
          let rest = uncounted_last xs a e in
          omega (arith, here, there, rest)
    ]

    -- what remains to be found of a list without its first element, once that one was found
    rest_within : (x : A) (xs ys zs : List A) → AreOnce (x ∷ xs) → IsWithout ys x zs
        → ((t : A) → Contains (x ∷ xs) t → p t ≡ true → Contains ys t) → (t : A)
        → Contains xs t → p t ≡ true → Contains zs t
    rest_within x xs ys zs once w within t there e =
        elim (w.left t (within t (in_tail x xs t there) e)) [
          | inl same ↦ absurd (once.0 (subst (λ (u : A). Contains xs u) same there))
          | inr kept ↦ kept
        ]

    -- different elements with the property are no more than a list that contains them
    pub pigeons : (xs ys : List A) → AreOnce xs
        → ((t : A) → Contains xs t → p t ≡ true → Contains ys t)
        → length (filter p xs) ≤ length ys
    pigeons [] ys once within = omega arith
    pigeons (x ∷ xs) ys once within = elim (cases_Bool (p x)) [
      | inl yes_ ↦
          let w = without ys x (within x (at_head x xs) yes_) in
          let here = counted x xs yes_ in
          let rest = pigeons xs w.0 once.1 (rest_within x xs ys w.0 once w.1 within) in
          let fewer = w.1.fewer in
          omega (arith, here, rest, fewer)
      | inr no_ ↦
          let here = uncounted x xs no_ in
          let rest = pigeons xs ys once.1 (λ t there e. within t (in_tail x xs t there) e) in
          omega (arith, here, rest)
    ]

    -- and where they are as many, they are all of it
    pub reached : (xs ys : List A) → AreOnce xs
        → ((t : A) → Contains xs t → p t ≡ true → Contains ys t) → (t : A) → Contains ys t
        → Contains xs t ⊎ (length (filter p xs) < length ys)
    reached [] ys once within t there = inr (let some = there.1 in omega (arith, some))
    reached (x ∷ xs) ys once within t there = elim (cases_Bool (p x)) [
      | inl yes_ ↦
          let w = without ys x (within x (at_head x xs) yes_) in
          let here = counted x xs yes_ in
          let fewer = w.1.fewer in
          elim (w.1.left t there) [
            | inl same ↦ inl (subst (λ (u : A). Contains (x ∷ xs) u) (sym same) (at_head x xs))
            | inr kept ↦
                elim (reached xs w.0 once.1 (rest_within x xs ys w.0 once w.1 within) t kept) [
                  | inl found ↦ inl (in_tail x xs t found)
                  | inr less ↦ inr (omega (arith, here, fewer, less))
                ]
          ]
      | inr no_ ↦
          let here = uncounted x xs no_ in
          elim (reached xs ys once.1 (λ t at e. within t (in_tail x xs t at) e) t there) [
            | inl found ↦ inl (in_tail x xs t found)
            | inr less ↦ inr (omega (arith, here, less))
          ]
    ]

-- ---- What a union has given, as its first member and the later ones go on.

module _ {A : Type 0} (later : A → Bool) where
  -- ---- its cases

  own : (x : A) (xs ds : List A) → later x ≡ false
      → merged later (x ∷ xs) ds ≡ x ∷ merged later xs ds
  own x xs [] e = ap (λ (b : Bool). cond b (merged later xs []) (x ∷ merged later xs [])) e
  own x xs (d ∷ ds) e =
      ap (λ (b : Bool). cond b (d ∷ merged later xs ds) (x ∷ merged later xs (d ∷ ds))) e

  shared : (x d : A) (xs ds : List A) → later x ≡ true
      → merged later (x ∷ xs) (d ∷ ds) ≡ d ∷ merged later xs ds
  shared x d xs ds e =
      ap (λ (b : Bool). cond b (d ∷ merged later xs ds) (x ∷ merged later xs (d ∷ ds))) e

  skipped : (x : A) (xs : List A) → later x ≡ true → merged later (x ∷ xs) [] ≡ merged later xs []
  skipped x xs e = ap (λ (b : Bool). cond b (merged later xs []) (x ∷ merged later xs [])) e

  -- ---- going on

  pub own_last : (xs ds : List A) (a : A) → later a ≡ false
      → length ds ≡ length (filter later xs)
      → merged later (xs ++ a ∷ []) ds ≡ merged later xs ds ++ a ∷ []
  own_last [] [] a e even = own a [] [] e
  own_last [] (d ∷ ds) a e even = absurd (omega (arith, even))
  own_last (x ∷ xs) [] a e even = elim (cases_Bool (later x)) [
    | inl is ↦ absurd (let n = counted later x xs is in omega (arith, even, n))
    | inr isnt ↦
        own x (xs ++ a ∷ []) [] isnt
        ∙ ap (λ (l : List A). x ∷ l) (own_last xs [] a e (even ∙ uncounted later x xs isnt))
        ∙ ap (λ (l : List A). l ++ a ∷ []) (sym (own x xs [] isnt))
  ]
  own_last (x ∷ xs) (d ∷ ds) a e even = elim (cases_Bool (later x)) [
    | inl is ↦
        shared x d (xs ++ a ∷ []) ds is
        ∙ ap (λ (l : List A). d ∷ l)
        (own_last xs ds a e (let n = counted later x xs is in omega (arith, even, n)))
        ∙ ap (λ (l : List A). l ++ a ∷ []) (sym (shared x d xs ds is))
    | inr isnt ↦
        own x (xs ++ a ∷ []) (d ∷ ds) isnt
        ∙ ap (λ (l : List A). x ∷ l) (own_last xs (d ∷ ds) a e (even ∙ uncounted later x xs isnt))
        ∙ ap (λ (l : List A). l ++ a ∷ []) (sym (own x xs (d ∷ ds) isnt))
  ]

  pub shared_last : (xs ds : List A) (a b : A) → later a ≡ true
      → length ds ≡ length (filter later xs)
      → merged later (xs ++ a ∷ []) (ds ++ b ∷ []) ≡ merged later xs ds ++ b ∷ []
  shared_last [] [] a b e even = shared a b [] [] e
  shared_last [] (d ∷ ds) a b e even = absurd (omega (arith, even))
  shared_last (x ∷ xs) [] a b e even = elim (cases_Bool (later x)) [
    | inl is ↦ absurd (let n = counted later x xs is in omega (arith, even, n))
    | inr isnt ↦
        own x (xs ++ a ∷ []) (b ∷ []) isnt
        ∙ ap (λ (l : List A). x ∷ l) (shared_last xs [] a b e (even ∙ uncounted later x xs isnt))
        ∙ ap (λ (l : List A). l ++ b ∷ []) (sym (own x xs [] isnt))
  ]
  shared_last (x ∷ xs) (d ∷ ds) a b e even = elim (cases_Bool (later x)) [
    | inl is ↦
        shared x d (xs ++ a ∷ []) (ds ++ b ∷ []) is
        ∙ ap (λ (l : List A). d ∷ l)
        (shared_last xs ds a b e (let n = counted later x xs is in omega (arith, even, n)))
        ∙ ap (λ (l : List A). l ++ b ∷ []) (sym (shared x d xs ds is))
    | inr isnt ↦
        own x (xs ++ a ∷ []) (d ∷ ds ++ b ∷ []) isnt
        ∙ ap (λ (l : List A). x ∷ l)
        (shared_last xs (d ∷ ds) a b e (even ∙ uncounted later x xs isnt))
        ∙ ap (λ (l : List A). l ++ b ∷ []) (sym (own x xs (d ∷ ds) isnt))
  ]

  pub later_last : (xs ds : List A) (b : A) → length (filter later xs) ≤ length ds
      → merged later xs (ds ++ b ∷ []) ≡ merged later xs ds ++ b ∷ []
  later_last [] ds b ahead = refl
  later_last (x ∷ xs) [] b ahead = elim (cases_Bool (later x)) [
    | inl is ↦ absurd (let n = counted later x xs is in omega (arith, ahead, n))
    | inr isnt ↦
        own x xs (b ∷ []) isnt
        ∙ ap (λ (l : List A). x ∷ l)
        (later_last xs [] b (let n = uncounted later x xs isnt in omega (arith, ahead, n)))
        ∙ ap (λ (l : List A). l ++ b ∷ []) (sym (own x xs [] isnt))
  ]
  later_last (x ∷ xs) (d ∷ ds) b ahead = elim (cases_Bool (later x)) [
    | inl is ↦
        shared x d xs (ds ++ b ∷ []) is
        ∙ ap (λ (l : List A). d ∷ l)
        (later_last xs ds b (let n = counted later x xs is in omega (arith, ahead, n)))
        ∙ ap (λ (l : List A). l ++ b ∷ []) (sym (shared x d xs ds is))
    | inr isnt ↦
        own x xs (d ∷ ds ++ b ∷ []) isnt
        ∙ ap (λ (l : List A). x ∷ l)
        (later_last xs (d ∷ ds) b (let n = uncounted later x xs isnt in omega (arith, ahead, n)))
        ∙ ap (λ (l : List A). l ++ b ∷ []) (sym (own x xs (d ∷ ds) isnt))
  ]

  -- ---- what it contains: what the first has and no later one, and all that the later ones gave

  along : (xs ys : List A) (t : A) → xs ≡ ys → Contains ys t → Contains xs t
  along xs ys t e h = subst (λ (l : List A). Contains l t) (sym e) h

  pub has_later : (xs ds : List A) (t : A) → Contains ds t → Contains (merged later xs ds) t
  has_later [] ds t h = h
  has_later (x ∷ xs) [] t h = absurd (none_contained t h)
  has_later (x ∷ xs) (d ∷ ds) t h = elim (cases_Bool (later x)) [
    | inl is ↦ along _ _ t (shared x d xs ds is) (elim (head_or_tail d ds t h) [
      | inl same ↦ subst (λ (u : A). Contains (d ∷ merged later xs ds) u) same
          (at_head d (merged later xs ds))
      | inr there ↦ in_tail d (merged later xs ds) t (has_later xs ds t there)
    ])
    | inr isnt ↦ along _ _ t (own x xs (d ∷ ds) isnt)
        (in_tail x (merged later xs (d ∷ ds)) t (has_later xs (d ∷ ds) t h))
  ]

  has_own_by : (x t : A) (xs ds : List A) → later t ≡ false
      → (Contains xs t → (es : List A) → Contains (merged later xs es) t)
      → Contains (x ∷ xs) t → Contains (merged later (x ∷ xs) ds) t
  has_own_by x t xs [] e rest h = elim (head_or_tail x xs t h) [
    | inl same ↦ along _ _ t (own x xs [] (ap later same ∙ e))
        (subst (λ (u : A). Contains (x ∷ merged later xs []) u) same
        (at_head x (merged later xs [])))
    | inr there ↦ elim (cases_Bool (later x)) [
      | inl is ↦ along _ _ t (skipped x xs is) (rest there [])
      | inr isnt ↦ along _ _ t (own x xs [] isnt)
          (in_tail x (merged later xs []) t (rest there []))
    ]
  ]
  has_own_by x t xs (d ∷ ds) e rest h = elim (head_or_tail x xs t h) [
    | inl same ↦ along _ _ t (own x xs (d ∷ ds) (ap later same ∙ e))
        (subst (λ (u : A). Contains (x ∷ merged later xs (d ∷ ds)) u) same
        (at_head x (merged later xs (d ∷ ds))))
    | inr there ↦ elim (cases_Bool (later x)) [
      | inl is ↦ along _ _ t (shared x d xs ds is)
          (in_tail d (merged later xs ds) t (rest there ds))
      | inr isnt ↦ along _ _ t (own x xs (d ∷ ds) isnt)
          (in_tail x (merged later xs (d ∷ ds)) t (rest there (d ∷ ds)))
    ]
  ]

  pub has_own : (xs ds : List A) (t : A) → later t ≡ false → Contains xs t
      → Contains (merged later xs ds) t
  has_own [] ds t e h = absurd (none_contained t h)
  has_own (x ∷ xs) ds t e h = has_own_by x t xs ds e (λ there es. has_own xs es t e there) h

  more_own : (x t : A) (xs ds es : List A) → ((t : A) → Contains ds t → Contains es t)
      → ((Contains xs t × (later t ≡ false)) ⊎ Contains ds t)
      → (Contains (x ∷ xs) t × (later t ≡ false)) ⊎ Contains es t
  more_own x t xs ds es wider h = elim h [
    | inl first ↦ inl (in_tail x xs t first.0, first.1)
    | inr there ↦ inr (wider t there)
  ]

  pub own_or_later : (xs ds : List A) (t : A) → Contains (merged later xs ds) t
      → (Contains xs t × (later t ≡ false)) ⊎ Contains ds t
  own_or_later [] ds t h = inr h
  own_or_later (x ∷ xs) [] t h = elim (cases_Bool (later x)) [
    | inl is ↦ more_own x t xs [] [] (λ u c. c)
        (own_or_later xs [] t (along _ _ t (sym (skipped x xs is)) h))
    | inr isnt ↦
        elim (head_or_tail x (merged later xs []) t (along _ _ t (sym (own x xs [] isnt)) h)) [
          | inl same ↦ inl (
            subst (λ (u : A). Contains (x ∷ xs) u) same (at_head x xs),
            ap later (sym same) ∙ isnt,
          )
          | inr there ↦ more_own x t xs [] [] (λ u c. c) (own_or_later xs [] t there)
        ]
  ]
  own_or_later (x ∷ xs) (d ∷ ds) t h = elim (cases_Bool (later x)) [
    | inl is ↦
        elim (head_or_tail d (merged later xs ds) t (along _ _ t (sym (shared x d xs ds is)) h)) [
          | inl same ↦ inr (subst (λ (u : A). Contains (d ∷ ds) u) same (at_head d ds))
          | inr there ↦ more_own x t xs ds (d ∷ ds) (λ u c. in_tail d ds u c)
              (own_or_later xs ds t there)
        ]
    | inr isnt ↦
        elim (head_or_tail x (merged later xs (d ∷ ds)) t
        (along _ _ t (sym (own x xs (d ∷ ds) isnt)) h)) [
          | inl same ↦ inl (
            subst (λ (u : A). Contains (x ∷ xs) u) same (at_head x xs),
            ap later (sym same) ∙ isnt,
          )
          | inr there ↦ more_own x t xs (d ∷ ds) (d ∷ ds) (λ u c. c) (own_or_later xs (d ∷ ds) t there)
        ]
  ]

  -- ---- it has nothing twice

  once_along : (xs ys : List A) → xs ≡ ys → AreOnce ys → AreOnce xs
  once_along xs ys e h = subst (λ (l : List A). AreOnce l) (sym e) h

  pub merged_once : (xs ds : List A) → AreOnce xs → AreOnce ds
      → ((t : A) → Contains ds t → later t ≡ true) → AreOnce (merged later xs ds)
  merged_once [] ds first rest only = rest
  merged_once (x ∷ xs) [] first rest only = elim (cases_Bool (later x)) [
    | inl is ↦ once_along _ _ (skipped x xs is) (merged_once xs [] first.1 rest only)
    | inr isnt ↦ once_along _ _ (own x xs [] isnt) (
      λ there. elim (own_or_later xs [] x there) [
        | inl again ↦ first.0 again.0
        | inr told ↦ none_contained x told
      ],
      merged_once xs [] first.1 rest only,
    )
  ]
  merged_once (x ∷ xs) (d ∷ ds) first rest only = elim (cases_Bool (later x)) [
    | inl is ↦ once_along _ _ (shared x d xs ds is) (
      λ there. elim (own_or_later xs ds d there) [
        | inl again ↦ both_ways (later d) again.1 (only d (at_head d ds))
        | inr told ↦ rest.0 told
      ],
      merged_once xs ds first.1 rest.1 (λ t c. only t (in_tail d ds t c)),
    )
    | inr isnt ↦ once_along _ _ (own x xs (d ∷ ds) isnt) (
      λ there. elim (own_or_later xs (d ∷ ds) x there) [
        | inl again ↦ first.0 again.0
        | inr told ↦ both_ways (later x) isnt (only x told)
      ],
      merged_once xs (d ∷ ds) first.1 rest only,
    )
  ]
