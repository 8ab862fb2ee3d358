-- What a line does to lines that were settled: it cancels the last of them, or it is one more.
use Rattle.std.proofs.Common.{arith, ◌≡◌, ◌<◌, ◌∙◌, ap, sym, refl, subst, length, map, Bool, true, false, not, List, [], ◌∷◌, ◌++◌, ℕ, ◌⊎◌, inl, inr}
use Rattle.std.specs.List.{AllPairs, Contains}
use Rattle.std.specs.declared.cmp.Ordering.{Ordering}
use Rattle.std.specs.declared.cmp.Ordering.TheVariants.{Less, Equal, Greater}
use Rattle.std.specs.Ordering.{nat_cmp, is_lt, ordering_reverse}
use Rattle.std.specs.Cmp.Lexicographic.{slice_cmp}
use Rattle.std.proofs.lemmas.Cmp.{nat_list_cmp_total}
use Rattle.std.proofs.lemmas.Map.Lookups.{exact_bytes}
use Rattle.std.proofs.lemmas.List.{get_or_default, length_push, get_or_push, get_or_append_left, get_or-map, length-map, map-append, length-append}
use Rattle.std.proofs.lemmas.List.Elements.{Contains-push, Contains-push_cases, Contains-append_left, Contains-get_or}
use Rattle.std.proofs.lemmas.List.Quantifiers.{all_pairs_push}
use Rattle.std.proofs.Math.ListN.{get_or}
use Rattle.djq_delta.specs.Lines.{SignedLine, reversed, AreDistinctLines, SettlesTo}

-- what holds of each pair holds of each pair of a first part
pub pairs_before : {X : Type 0} (R : X → X → Type 0) (xs ys : List X) → AllPairs R (xs ++ ys) → AllPairs R xs
pairs_before R xs ys h i j d below within =
    let first : i < length xs = omega arith in
    let whole : j < length (xs ++ ys) = omega (arith, length-append xs ys) in
    subst (λ y. R (get_or xs i d) y) (get_or_append_left xs ys d j within)
    (subst (λ x. R x (get_or (xs ++ ys) j d)) (get_or_append_left xs ys d i first) (h i j d below whole))

-- and of each element and the last one
pub pairs_to_last : {X : Type 0} (R : X → X → Type 0) (xs : List X) (x : X) → AllPairs R (xs ++ x ∷ []) → (y : X) → Contains xs y → R y x
pairs_to_last R xs x h y c =
    let whole : length xs < length (xs ++ x ∷ []) = omega (arith, length_push xs x) in
    subst (λ z. R y z) (get_or_push xs x y (length xs) refl)
    (subst (λ z. R z (get_or (xs ++ x ∷ []) (length xs) y)) (get_or_append_left xs (x ∷ []) y c.0 c.1 ∙ c.2) (h c.0 (length xs) y c.1 whole))

-- a line that is new isn't among those before it
pub is_new : (done : List SignedLine) (x : SignedLine) → AreDistinctLines (done ++ x ∷ []) → Contains done x → ⊥
is_new done x h c = pairs_to_last (λ k l. k ≡ l → ⊥) done x h x c refl

same_sign_or_not : (a b : Bool) → (a ≡ b) ⊎ (not b ≡ a)
same_sign_or_not true true = inl refl
same_sign_or_not true false = inr refl
same_sign_or_not false true = inr refl
same_sign_or_not false false = inl refl

abbrev pub signed : Bool → List ℕ → SignedLine
signed came cells = record { came = came; cells = cells }

pub same_line : (k l : SignedLine) → k.came ≡ l.came → k.cells ≡ l.cells → k ≡ l
same_line k l e f = ap (λ (b : Bool). signed b k.cells) e ∙ ap (λ (s : List ℕ). signed l.came s) f

by_sign : (y x : SignedLine) → (y ≡ x → ⊥) → y.cells ≡ x.cells → (y.came ≡ x.came) ⊎ (not x.came ≡ y.came) → reversed x ≡ y
by_sign y x other same (inl e) = absurd (other (same_line y x e same))
by_sign y x other same (inr e) = same_line (reversed x) y e (sym same)

-- two lines of one answer that aren't the same are opposites
pub opposite_lines : (y x : SignedLine) → (y ≡ x → ⊥) → y.cells ≡ x.cells → reversed x ≡ y
opposite_lines y x other same = by_sign y x other same (same_sign_or_not y.came x.came)

not_twice : (a : Bool) → not (not a) ≡ a
not_twice true = refl
not_twice false = refl

pub reversed_twice : (x : SignedLine) → reversed (reversed x) ≡ x
reversed_twice x = same_line (reversed (reversed x)) x (not_twice x.came) refl

pub not_itself : (a : Bool) → a ≡ not a → ⊥
not_itself true e = cc
not_itself false e = cc

-- no line is its own opposite
pub never_reversed : (x : SignedLine) → x ≡ reversed x → ⊥
never_reversed x e = not_itself x.came (ap (λ (l : SignedLine). l.came) e)

-- if answers differ, a line before the last is of another answer
pub apart : (remaining : List SignedLine) (y : SignedLine) → AllPairs (λ s t. s ≡ t → ⊥) (map (λ l. l.cells) (remaining ++ y ∷ []))
    → (l : SignedLine) → Contains remaining l → l.cells ≡ y.cells → ⊥
apart remaining y h l c e =
    let there : Contains (map (λ (k : SignedLine). k.cells) remaining) l.cells =
    (c.0, omega (arith, length-map remaining (λ (k : SignedLine). k.cells)), get_or-map (λ (k : SignedLine). k.cells) remaining c.0 l l.cells c.1 ∙ ap (λ (k : SignedLine). k.cells) c.2) in
    pairs_to_last (λ s t. s ≡ t → ⊥) (map (λ (k : SignedLine). k.cells) remaining) y.cells
    (subst (AllPairs (λ (s t : List ℕ). s ≡ t → ⊥)) (map-append (λ (k : SignedLine). k.cells) remaining (y ∷ [])) h) l.cells there e

-- A line cancels the last of those that remain, which is of the same answer.
pub cancels_last : (done remaining : List SignedLine) (y x : SignedLine) → AreDistinctLines (done ++ x ∷ [])
    → SettlesTo done (remaining ++ y ∷ []) → y.cells ≡ x.cells → SettlesTo (done ++ x ∷ []) remaining
cancels_last done remaining y x distinct h same =
    let y_done : Contains done y = h.within y (Contains-push remaining y) in
    let opposite : reversed x ≡ y = opposite_lines y x (λ e. is_new done x distinct (subst (Contains done) e y_done)) same in
    record {
      different = pairs_before (λ s t. s ≡ t → ⊥) (map (λ (l : SignedLine). l.cells) remaining) (y.cells ∷ [])
          (subst (AllPairs (λ (s t : List ℕ). s ≡ t → ⊥)) (map-append (λ (l : SignedLine). l.cells) remaining (y ∷ [])) h.different);
      within = λ l c. Contains-append_left done (x ∷ []) l (h.within l (Contains-append_left remaining (y ∷ []) l c));
      alone = λ l c r. elim (Contains-push_cases done x (reversed l) r) [
        | inl there ↦ h.alone l (Contains-append_left remaining (y ∷ []) l c) there
        | inr e ↦ apart remaining y h.different l c (ap (λ (k : SignedLine). k.cells) (sym e) ∙ sym same)
      ];
      complete = λ l c lone. elim (Contains-push_cases done x l c) [
        | inl there ↦ elim (Contains-push_cases remaining y l (h.complete l there (λ r. lone (Contains-append_left done (x ∷ []) (reversed l) r)))) [
          | inl left ↦ left
          | inr e ↦ absurd (lone (subst (Contains (done ++ x ∷ [])) (sym (reversed_twice x) ∙ ap reversed (opposite ∙ e)) (Contains-push done x)))
        ]
        | inr e ↦ absurd (lone (Contains-append_left done (x ∷ []) (reversed l) (subst (Contains done) (sym opposite ∙ ap reversed e) y_done)))
      ];
    }

-- A line of an answer that isn't among those that remain is one more.
pub is_one_more : (done remaining : List SignedLine) (x : SignedLine) → AreDistinctLines (done ++ x ∷ []) → SettlesTo done remaining
    → ((l : SignedLine) → Contains remaining l → l.cells ≡ x.cells → ⊥) → SettlesTo (done ++ x ∷ []) (remaining ++ x ∷ [])
is_one_more done remaining x distinct h other =
    let fresh : Contains done x → ⊥ = is_new done x distinct in
    let lonely : Contains done (reversed x) → ⊥ = λ c.
    other (reversed x) (h.complete (reversed x) c (λ r. fresh (subst (Contains done) (reversed_twice x) r))) refl in
    record {
      different = subst (AllPairs (λ (s t : List ℕ). s ≡ t → ⊥)) (sym (map-append (λ (l : SignedLine). l.cells) remaining (x ∷ [])))
          (all_pairs_push (λ s t. s ≡ t → ⊥) (map (λ (l : SignedLine). l.cells) remaining) x.cells h.different
          (λ k d below e.
          let within : k < length remaining = omega (arith, length-map remaining (λ (l : SignedLine). l.cells)) in
          other (get_or remaining k x) (Contains-get_or remaining k x within) (sym (get_or-map (λ (l : SignedLine). l.cells) remaining k x d within) ∙ e)));
      within = λ l c. elim (Contains-push_cases remaining x l c) [
        | inl there ↦ Contains-append_left done (x ∷ []) l (h.within l there)
        | inr e ↦ subst (Contains (done ++ x ∷ [])) e (Contains-push done x)
      ];
      alone = λ l c r. elim (Contains-push_cases remaining x l c) [
        | inl there ↦ elim (Contains-push_cases done x (reversed l) r) [
          | inl before ↦ h.alone l there before
          | inr e ↦ other l there (ap (λ (k : SignedLine). k.cells) (sym e))
        ]
        | inr e ↦ elim (Contains-push_cases done x (reversed l) r) [
          | inl before ↦ lonely (subst (Contains done) (ap reversed (sym e)) before)
          | inr f ↦ never_reversed x (f ∙ ap reversed (sym e))
        ]
      ];
      complete = λ l c lone. elim (Contains-push_cases done x l c) [
        | inl there ↦ Contains-append_left remaining (x ∷ []) l (h.complete l there (λ r. lone (Contains-append_left done (x ∷ []) (reversed l) r)))
        | inr e ↦ subst (Contains (remaining ++ x ∷ [])) e (Contains-push remaining x)
      ];
    }

-- the cells of one line don't come after those of another
abbrev pub IsUpTo : SignedLine → SignedLine → Type 0
IsUpTo k l = is_lt (slice_cmp nat_cmp l.cells k.cells) ≡ false

neither_less : (o p : Ordering) → o ≡ ordering_reverse p → is_lt o ≡ false → is_lt p ≡ false → o ≡ Equal
neither_less Equal p e f n = refl
neither_less Less p e f n = cc
neither_less Greater Less e f n = cc
neither_less Greater Equal e f n = cc
neither_less Greater Greater e f n = cc

-- cells of which neither come after the other are the same
tied : (s t : List ℕ) → is_lt (slice_cmp nat_cmp s t) ≡ false → is_lt (slice_cmp nat_cmp t s) ≡ false → s ≡ t
tied s t f n = exact_bytes s t (neither_less _ _ (nat_list_cmp_total.antisymm s t) f n)

-- Of lines that ascend, and a further one of another answer than the last, none has its answer.
pub none_alike : (remaining : List SignedLine) (y x : SignedLine) → AllPairs IsUpTo (remaining ++ y ∷ []) → IsUpTo y x
    → (y.cells ≡ x.cells → ⊥) → (l : SignedLine) → Contains (remaining ++ y ∷ []) l → l.cells ≡ x.cells → ⊥
none_alike remaining y x up last other l c e = elim (Contains-push_cases remaining y l c) [
  | inl there ↦ other (tied y.cells x.cells
      (subst (λ (s : List ℕ). is_lt (slice_cmp nat_cmp y.cells s) ≡ false) e (pairs_to_last IsUpTo remaining y up l there)) last)
  | inr f ↦ other (ap (λ (k : SignedLine). k.cells) f ∙ e)
]

-- the lines that remain so far
pub record IsSettledSoFar (done remaining : List SignedLine) : Type 0 where
  pub settled : SettlesTo done remaining
  pub ascend : AllPairs IsUpTo remaining

-- A line of the same answer as the last that remains: both go.
pub both_go : (done remaining : List SignedLine) (y x : SignedLine) → AreDistinctLines (done ++ x ∷ [])
    → IsSettledSoFar done (remaining ++ y ∷ []) → y.cells ≡ x.cells → IsSettledSoFar (done ++ x ∷ []) remaining
both_go done remaining y x distinct h same = record {
  settled = cancels_last done remaining y x distinct h.settled same;
  ascend = pairs_before IsUpTo remaining (y ∷ []) h.ascend;
}

-- A line of an answer that isn't among those that remain stays.
pub stays : (done remaining : List SignedLine) (x : SignedLine) → AreDistinctLines (done ++ x ∷ []) → AllPairs IsUpTo (done ++ x ∷ [])
    → IsSettledSoFar done remaining → ((l : SignedLine) → Contains remaining l → l.cells ≡ x.cells → ⊥)
    → IsSettledSoFar (done ++ x ∷ []) (remaining ++ x ∷ [])
stays done remaining x distinct up h other = record {
  settled = is_one_more done remaining x distinct h.settled other;
  ascend = all_pairs_push IsUpTo remaining x h.ascend (λ k d within.
      let at_any : get_or remaining k x ≡ get_or remaining k d = get_or_default remaining k x d within in
      subst (λ (l : SignedLine). IsUpTo l x) at_any
      (pairs_to_last IsUpTo done x up (get_or remaining k x) (h.settled.within _ (Contains-get_or remaining k x within))));
}

-- A line stays that comes after the last that remains, and is of another answer.
pub stays_after : (done remaining : List SignedLine) (y x : SignedLine) → AreDistinctLines (done ++ x ∷ []) → AllPairs IsUpTo (done ++ x ∷ [])
    → IsSettledSoFar done (remaining ++ y ∷ []) → (y.cells ≡ x.cells → ⊥) → IsSettledSoFar (done ++ x ∷ []) ((remaining ++ y ∷ []) ++ x ∷ [])
stays_after done remaining y x distinct up h other =
    let y_first : IsUpTo y x = pairs_to_last IsUpTo done x up y (h.settled.within y (Contains-push remaining y)) in
    stays done (remaining ++ y ∷ []) x distinct up h (none_alike remaining y x h.ascend y_first other)

-- lines that were settled have no opposites among them
pub settled_rest : (old once : List SignedLine) → SettlesTo old once → SettlesTo once once
settled_rest old once h = record {
  different = h.different;
  within = λ l c. c;
  alone = λ l c r. h.alone l c (h.within (reversed l) r);
  complete = λ l c lone. c;
}

pub settles_twice : (old once twice : List SignedLine) → SettlesTo old once → SettlesTo once twice
    → SettlesTo once once × SettlesTo old twice × ((l : SignedLine) → (Contains twice l → Contains once l) × (Contains once l → Contains twice l))
settles_twice old once twice h k =
    let all : (l : SignedLine) → Contains once l → Contains twice l = λ l c. k.complete l c (λ r. h.alone l c (h.within (reversed l) r)) in (
      settled_rest old once h,
      record {
        different = k.different;
        within = λ l c. h.within l (k.within l c);
        alone = λ l c r. h.alone l (k.within l c) r;
        complete = λ l c lone. all l (h.complete l c lone);
      },
      λ l. (k.within l, all l),
    )
