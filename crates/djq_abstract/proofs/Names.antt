-- Names of what is registered.
use Rattle.std.specs.Prelude.{List, [], ◌∷◌, ◌++◌, ◌≡◌, ◌≢◌, Bool, true, false, not, cond, filter, None, Some}
use Rattle.std.proofs.Common.{refl, sym, ap, ◌∙◌}
use Rattle.djq_model.specs.Data.{Bytes, bytes_eq}
use Rattle.djq_model.specs.Equality.{bytes_eq-decides}
use Rattle.djq_model.specs.Listed.{Listed, listed_name, listed_of}
use Rattle.djq_abstract.specs.Clients.{HaveOwnNames}

pub same_name : (a b : Bytes) → bytes_eq a b ≡ true → a ≡ b
same_name a b e = (bytes_eq-decides a b).0 e

pub eq_self : (a : Bytes) → bytes_eq a a ≡ true
eq_self a = (bytes_eq-decides a a).1 refl

eq_other : (a b : Bytes) → bytes_eq a b ≡ false → bytes_eq b a ≡ false
eq_other a b e = step (bytes_eq b a) refl
  where
    step : (t : Bool) → bytes_eq b a ≡ t → t ≡ false
    step true k =
        let so : bytes_eq a b ≡ true = (bytes_eq-decides a b).1 (sym (same_name b a k)) in absurd (cc (so, e))
    step false k = refl

-- ---- one more

pub found_before : (qs more : List Listed) (n : Bytes) (q : Listed) → listed_of qs n ≡ Some q
    → listed_of (qs ++ more) n ≡ Some q
found_before [] more n q h = absurd (cc)
found_before (x ∷ qs) more n q h = step (bytes_eq (listed_name x) n) h (λ k. found_before qs more n q k)
  where
    step : (b : Bool) → cond b (Some x) (listed_of qs n) ≡ Some q
        → (listed_of qs n ≡ Some q → listed_of (qs ++ more) n ≡ Some q)
        → cond b (Some x) (listed_of (qs ++ more) n) ≡ Some q
    step true e rest = e
    step false e rest = rest e

not_found_more : (qs : List Listed) (q : Listed) (n : Bytes) → listed_of qs n ≡ None
    → bytes_eq (listed_name q) n ≡ false → listed_of (qs ++ q ∷ []) n ≡ None
not_found_more [] q n h e = ap (λ b. cond b (Some q) None) e
not_found_more (x ∷ qs) q n h e = step (bytes_eq (listed_name x) n) h (λ k. not_found_more qs q n k e)
  where
    step : (b : Bool) → cond b (Some x) (listed_of qs n) ≡ None
        → (listed_of qs n ≡ None → listed_of (qs ++ q ∷ []) n ≡ None)
        → cond b (Some x) (listed_of (qs ++ q ∷ []) n) ≡ None
    step true k rest = absurd (cc)
    step false k rest = rest k

pub own_names_more : (qs : List Listed) (q : Listed) → HaveOwnNames qs → listed_of qs (listed_name q) ≡ None
    → HaveOwnNames (qs ++ q ∷ [])
own_names_more [] q h none = (refl, tt)
own_names_more (x ∷ qs) q h none =
    step (bytes_eq (listed_name x) (listed_name q)) refl none (λ k. own_names_more qs q h.1 k)
  where
    step : (b : Bool) → bytes_eq (listed_name x) (listed_name q) ≡ b
        → cond b (Some x) (listed_of qs (listed_name q)) ≡ None
        → (listed_of qs (listed_name q) ≡ None → HaveOwnNames (qs ++ q ∷ []))
        → HaveOwnNames (x ∷ qs ++ q ∷ [])
    step true e k rest = absurd (cc)
    step false e k rest =
        (not_found_more qs q (listed_name x) h.0 (eq_other (listed_name x) (listed_name q) e), rest k)

-- ---- one less

-- whether it has another name
abbrev pub is_other : Bytes → Listed → Bool
is_other n l = not (bytes_eq (listed_name l) n)

not_found_less : (qs : List Listed) (p : Listed → Bool) (n : Bytes) → listed_of qs n ≡ None
    → listed_of (filter p qs) n ≡ None
not_found_less [] p n h = refl
not_found_less (x ∷ qs) p n h = step (bytes_eq (listed_name x) n) refl h (p x) (λ k. not_found_less qs p n k)
  where
    step : (b : Bool) → bytes_eq (listed_name x) n ≡ b → cond b (Some x) (listed_of qs n) ≡ None → (c : Bool)
        → (listed_of qs n ≡ None → listed_of (filter p qs) n ≡ None)
        → listed_of (cond c (x ∷ filter p qs) (filter p qs)) n ≡ None
    step true e k c rest = absurd (cc)
    step false e k true rest = ap (λ b. cond b (Some x) (listed_of (filter p qs) n)) e ∙ rest k
    step false e k false rest = rest k

pub own_names_less : (qs : List Listed) (p : Listed → Bool) → HaveOwnNames qs → HaveOwnNames (filter p qs)
own_names_less [] p h = h
own_names_less (x ∷ qs) p h = step (p x) (own_names_less qs p h.1)
  where
    step : (c : Bool) → HaveOwnNames (filter p qs) → HaveOwnNames (cond c (x ∷ filter p qs) (filter p qs))
    step true rest = (not_found_less qs p (listed_name x) h.0, rest)
    step false rest = rest

-- what is found under another name stays
pub found_less : (qs : List Listed) (d n : Bytes) (q : Listed) → n ≢ d → listed_of qs n ≡ Some q
    → listed_of (filter (is_other d) qs) n ≡ Some q
found_less [] d n q apart h = h
found_less (x ∷ qs) d n q apart h =
    step (bytes_eq (listed_name x) n) refl h (bytes_eq (listed_name x) d) refl (λ k. found_less qs d n q apart k)
  where
    step : (b : Bool) → bytes_eq (listed_name x) n ≡ b → cond b (Some x) (listed_of qs n) ≡ Some q
        → (c : Bool) → bytes_eq (listed_name x) d ≡ c
        → (listed_of qs n ≡ Some q → listed_of (filter (is_other d) qs) n ≡ Some q)
        → listed_of (cond (not c) (x ∷ filter (is_other d) qs) (filter (is_other d) qs)) n ≡ Some q
    step true e k true is rest =
        absurd (apart (sym (same_name (listed_name x) n e) ∙ same_name (listed_name x) d is))
    step true e k false is rest = ap (λ b. cond b (Some x) (listed_of (filter (is_other d) qs) n)) e ∙ k
    step false e k true is rest = rest k
    step false e k false is rest = ap (λ b. cond b (Some x) (listed_of (filter (is_other d) qs) n)) e ∙ rest k

-- what is found has the name
pub found_named : (qs : List Listed) (n : Bytes) (q : Listed) → listed_of qs n ≡ Some q → listed_name q ≡ n
found_named [] n q h = absurd (cc)
found_named (x ∷ qs) n q h = step (bytes_eq (listed_name x) n) refl h (λ k. found_named qs n q k)
  where
    same_some : Some x ≡ Some q → x ≡ q
    same_some e = cc

    step : (b : Bool) → bytes_eq (listed_name x) n ≡ b → cond b (Some x) (listed_of qs n) ≡ Some q
        → (listed_of qs n ≡ Some q → listed_name q ≡ n) → listed_name q ≡ n
    step true e k rest = ap listed_name (sym (same_some k)) ∙ same_name (listed_name x) n e
    step false e k rest = rest k
