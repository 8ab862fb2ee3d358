-- The places of the registered queries: in order, by name, and by relation.
use Rattle.std.proofs.Common.{ℕ, suc, List, [], ◌∷◌, ◌++◌, ◌≡◌, Bool, true, false, refl, ap, ◌∙◌, length, arith}
use Rattle.std.proofs.Common.{length-append, ◌+◌, ◌<◌, ◌≤◌, ◌⊎◌, inl, inr, sym, subst, get_or, set, length-set, ◌-◌}
use Rattle.std.proofs.Common.{zero}
use Rattle.std.specs.Prelude.{None, Some, find, position, cond, map, option_map, nat_lt, Option, remove, ◌==◌, ◌&&◌}
use Rattle.std.specs.Prelude.{◌||◌, not, filter, is_some}
use Rattle.std.specs.List.{position_or_len}
use Rattle.std.proofs.lemmas.Bool.{ltb-false, cases_lt, cases_order, eqb-true, eq-eqb, or_parts}
use Rattle.std.proofs.lemmas.Option.{slice_get_past}
use Rattle.std.proofs.lemmas.List.{get_or_append_left, get_or-set_same, get_or-set_other, get_or_default, get_or_past}
use Rattle.std.proofs.lemmas.List.Folds.{find_at}
use Rattle.std.proofs.lemmas.List.Quantifiers.{position-Some}
use Rattle.djq_model.specs.declared.relation.Relation.{Relation}
use Rattle.djq_model.specs.declared.query.Query.{Query}
use Rattle.djq_model.specs.Data.{Bytes, bytes_eq, drop_first}
use Rattle.djq_model.specs.Listed.{Listed, listed_name, a_query, listed_of}
use Rattle.djq_model.specs.Equality.{bytes_eq-decides}
use Rattle.djq_database.specs.Catalog.{relation_at, Catalog}
use Rattle.djq_enumeration.specs.Log.{Log}
use Rattle.djq_query.proofs.Numbers.{number_none}
use Rattle.djq_store_spec.specs.Stale.{reads}
use Rattle.djq_answer_laws.proofs.Lists.{or_false}
use Rattle.djq_live_query.specs.Live.{Live}
use Rattle.djq_reach.specs.Places.{place_at, readers_at, no_log, is_reader, AreOnce}
use Rattle.djq_reach.proofs.PlacedQueries.{apart, reader_more, or_true, place_below}
use Rattle.djq_engine.specs.Finding.{IsFirstPassing}
use Rattle.djq_engine.specs.Places.{places_without, is_live, is_query, query_in, queries_in}
use Rattle.djq_engine.specs.Placing.{LeavesAll, JoinsReaders, JoinsSome, SameLogs}
use Rattle.djq_engine.specs.Sound.{QueriesAreSound}

-- ---- What the place of the first that passes tells of lookups and changes.

-- what a search gives

pub first_of_position : {A : Type 0} (p : A → Bool) (xs : List A) (i : ℕ) → position p xs ≡ Some i
    → IsFirstPassing p xs i
first_of_position p [] i e = absurd cc
first_of_position p (x ∷ xs) i e = record {
  below = (position-Some p (x ∷ xs) i x e).0;
  passes = λ d. (position-Some p (x ∷ xs) i d e).1;
  before = λ k d l. (position-Some p (x ∷ xs) i d e).2 k l;
}

pub none_of_position : {A : Type 0} (p : A → Bool) (xs : List A) → position p xs ≡ None → find p xs ≡ None
none_of_position p xs e =
    find_at p xs ∙ slice_get_past xs (position_or_len p xs)
    (ltb-false (position_or_len p xs) (length xs)
    (number_none (nat_lt (position_or_len p xs) (length xs)) (position_or_len p xs) e))

-- lookups

not_both : {A : Type 0} (b : Bool) → b ≡ true → b ≡ false → A
not_both true e f = absurd cc
not_both false e f = absurd cc

-- the same test, on images and on longer lists

pub find_mapped : {A B : Type 0} (p : B → Bool) (f : A → B) (xs : List A) → find p (map f xs)
    ≡ option_map f (find (λ x. p (f x)) xs)
find_mapped p f [] = refl
find_mapped p f (x ∷ xs) = step (p (f x)) (find_mapped p f xs)
  where
    step : (b : Bool) → find p (map f xs) ≡ option_map f (find (λ x. p (f x)) xs)
        → cond b (Some (f x)) (find p (map f xs)) ≡ option_map f (cond b (Some x) (find (λ x. p (f x)) xs))
    step true e = refl
    step false e = e

pub first_more : {A : Type 0} (p : A → Bool) (xs ys : List A) (i : ℕ) → IsFirstPassing p xs i
    → IsFirstPassing p (xs ++ ys) i
first_more p xs ys i h = record {
  below = omega (arith, h.below, length-append xs ys);
  passes = λ d. ap p (get_or_append_left xs ys d i h.below) ∙ h.passes d;
  before = λ k d l. ap p (get_or_append_left xs ys d k (omega (arith, h.below))) ∙ h.before k d l;
}

-- ---- Lists of places, changed one after another.

-- a list, as the code reads it
pub list_read : (now old : List (List ℕ)) (k : ℕ) (p : List ℕ) → k < length now → p ≡ get_or now k p → readers_at now k
    ≡ readers_at old k → p ≡ readers_at old k
list_read now old k p low is same = is ∙ get_or_default now k p [] low ∙ same

-- One list more was changed.
pub record Front (f : ℕ → List ℕ → List ℕ) (old new : List (List ℕ)) (k : ℕ) : Type 0 where
  pub long : length new ≡ length old
  pub done : (r : ℕ) → r < k → readers_at new r ≡ f r (readers_at old r)
  pub rest : (r : ℕ) → k ≤ r → readers_at new r ≡ readers_at old r

pub front_more : (f : ℕ → List ℕ → List ℕ) (old now : List (List ℕ)) (k : ℕ) (q : List ℕ) → k < length now → length now
    ≡ length old
    → ((r : ℕ) → r < k → readers_at now r ≡ f r (readers_at old r))
    → ((r : ℕ) → k ≤ r → readers_at now r ≡ readers_at old r)
    → q ≡ f k (readers_at old k) → Front f old (set now k q) (k + 1)
front_more f old now k q low long done rest is = record {
  long = length-set now k q ∙ long;
  done = λ r l. by_order r (cases_order r k) l;
  rest = λ r l. get_or-set_other now k r q [] (λ e. omega (arith, e, l)) ∙ rest r (omega (arith, l));
}
  where
    by_order : (r : ℕ) → (r ≡ k) ⊎ ((r < k) ⊎ (k < r)) → r < k + 1 → readers_at (set now k q) r ≡ f r (readers_at old r)
    by_order r (inl e) l = subst (λ (j : ℕ). readers_at (set now k q) j ≡ f j (readers_at old j)) (sym e)
        (get_or-set_same now k q [] low ∙ is)
    by_order r (inr (inl b)) l = get_or-set_other now k r q [] (λ e. omega (arith, e, b)) ∙ done r b
    by_order r (inr (inr b)) l = absurd (omega (arith, b, l))

pub left_more : (at : ℕ) (old now : List (List ℕ)) (k : ℕ) (q : List ℕ) → k < length now → length now ≡ length old
    → ((r : ℕ) → r < k → readers_at now r ≡ places_without at (readers_at old r))
    → ((r : ℕ) → k ≤ r → readers_at now r ≡ readers_at old r)
    → q ≡ places_without at (readers_at old k)
    → record {
      long : length (set now k q) ≡ length old;
      done : (r : ℕ) → r < k + 1 → readers_at (set now k q) r ≡ places_without at (readers_at old r);
      rest : (r : ℕ) → k + 1 ≤ r → readers_at (set now k q) r ≡ readers_at old r;
    }
left_more at old now k q low long done rest is =
    let h = front_more (λ r xs. places_without at xs) old now k q low long done rest is in record
    { long = h.long; done = h.done; rest = h.rest }

pub left_whole : (at : ℕ) (old new : List (List ℕ)) (k : ℕ) → length old ≤ k → length new ≡ length old
    → ((r : ℕ) → r < k → readers_at new r ≡ places_without at (readers_at old r)) → LeavesAll at old new
left_whole at old new k past long done = record {
  long = long;
  each = λ r. by_length r (cases_lt r k);
}
  where
    by_length : (r : ℕ) → (r < k) ⊎ (k ≤ r) → readers_at new r ≡ places_without at (readers_at old r)
    by_length r (inl l) = done r l
    by_length r (inr l) =
        get_or_past new r [] (omega (arith, l, past, long))
        ∙ ap (places_without at) (sym (get_or_past old r [] (omega (arith, l, past))))

-- a place comes last among the readers

module _ (rs : List Relation) (q : Query) (at : ℕ) (old now : List (List ℕ)) (k : ℕ) where
  pub join_more : (new : List ℕ) → k < length now → length now ≡ length old
      → ((r : ℕ) → r < k → readers_at now r
      ≡ cond (reads q (relation_at rs r).name) (readers_at old r ++ at ∷ []) (readers_at old r))
      → ((r : ℕ) → k ≤ r → readers_at now r ≡ readers_at old r)
      → new ≡ cond (reads q (relation_at rs k).name) (readers_at old k ++ at ∷ []) (readers_at old k)
      → record {
        long : length (set now k new) ≡ length old;
        done : (r : ℕ) → r < k + 1 → readers_at (set now k new) r
            ≡ cond (reads q (relation_at rs r).name) (readers_at old r ++ at ∷ []) (readers_at old r);
        rest : (r : ℕ) → k + 1 ≤ r → readers_at (set now k new) r ≡ readers_at old r;
      }
  join_more new low long done rest is =
      let h = front_more (λ r xs. cond (reads q (relation_at rs r).name) (xs ++ at ∷ []) xs) old now k new low long done
      rest is in record { long = h.long; done = h.done; rest = h.rest }

  one_of : (b : Bool) (new xs : List ℕ) → new ≡ cond b (xs ++ at ∷ []) xs → (new ≡ xs) ⊎ (new ≡ xs ++ at ∷ [])
  one_of true new xs e = inr e
  one_of false new xs e = inl e

  pub joined_some : (new : List ℕ) → k < length now → length now ≡ length old
      → ((r : ℕ) → r < k → readers_at now r
      ≡ cond (reads q (relation_at rs r).name) (readers_at old r ++ at ∷ []) (readers_at old r))
      → ((r : ℕ) → k ≤ r → readers_at now r ≡ readers_at old r)
      → new ≡ readers_at old k → JoinsSome at old (set now k new)
  joined_some new low long done rest is = record {
    long = length-set now k new ∙ long;
    each = λ r. by_order r (cases_order r k);
  }
    where
      by_order : (r : ℕ) → (r ≡ k) ⊎ ((r < k) ⊎ (k < r))
          → (readers_at (set now k new) r ≡ readers_at old r) ⊎
          (readers_at (set now k new) r ≡ readers_at old r ++ at ∷ [])
      by_order r (inl e) = inl
          (subst (λ (j : ℕ). readers_at (set now k new) j ≡ readers_at old j) (sym e)
          (get_or-set_same now k new [] low ∙ is))
      by_order r (inr (inl b)) = one_of (reads q (relation_at rs r).name) (readers_at (set now k new) r)
          (readers_at old r) (get_or-set_other now k r new [] (λ e. omega (arith, e, b)) ∙ done r b)
      by_order r (inr (inr b)) = inl
          (get_or-set_other now k r new [] (λ e. omega (arith, e, b)) ∙ rest r (omega (arith, b)))

  pub join_whole : length old ≤ k → length now ≡ length old
      → ((r : ℕ) → r < k → readers_at now r
      ≡ cond (reads q (relation_at rs r).name) (readers_at old r ++ at ∷ []) (readers_at old r))
      → JoinsReaders rs q at old now
  join_whole past long done = record { long = long; each = λ r low. done r (omega (arith, past, low)) }

-- a log that was cleared
pub logs_cleared : (gs : List (Option Live)) (old now : List Log) (at : ℕ) (x : Log) → place_at gs at ≡ None
    → SameLogs gs old now → SameLogs gs old (set now at x)
logs_cleared gs old now at x none same i l there =
    get_or-set_other now at i x no_log
    (λ (e : i ≡ at). not_both l (place_at gs at) none (ap (place_at gs) (sym e) ∙ there)) ∙ same i l there
  where
    not_both : (l : Live) (o : Option Live) → o ≡ None → o ≡ Some l → ⊥
    not_both l o e f = cc

-- ---- A place that came last in a list, and is taken out of it again.

pub remove_last : (xs : List ℕ) (x : ℕ) → remove (xs ++ x ∷ []) (length xs) ≡ xs
remove_last [] x = refl
remove_last (y ∷ xs) x = ap (λ (l : List ℕ). y ∷ l) (remove_last xs x)

pub last_place : (xs : List ℕ) (x n : ℕ) → n ≡ length (xs ++ x ∷ []) → (n - 1) ≡ length xs
last_place xs x n e =
    let long = e ∙ length-append xs (x ∷ []) in
    omega (arith, long)

-- ---- The places of the registered queries, in order, and what is found among them.

pub both_false : (b : Bool) → (b && false) ≡ false
both_false true = refl
both_false false = refl

-- a place among those that pass a test
pub reader_filter : (p : ℕ → Bool) (xs : List ℕ) (i : ℕ) → is_reader (filter p xs) i ≡ (is_reader xs i && p i)
reader_filter p [] i = refl
reader_filter p (x ∷ xs) i = step (p x) (x == i) refl refl (reader_filter p xs i)
  where
    same : (x == i) ≡ true → p x ≡ p i
    same e = ap p (eqb-true x i e)

    step : (b c : Bool) → p x ≡ b → (x == i) ≡ c → is_reader (filter p xs) i ≡ (is_reader xs i && p i)
        → is_reader (cond b (x ∷ filter p xs) (filter p xs)) i ≡ ((c || is_reader xs i) && p i)
    step true true e f h = ap (λ d. d || is_reader (filter p xs) i) f ∙ sym (sym (same f) ∙ e)
    step true false e f h = ap (λ d. d || is_reader (filter p xs) i) f ∙ h
    step false true e f h = let at : p i ≡ false = sym (same f) ∙ e in h ∙ ap (λ d. is_reader xs i && d) at
        ∙ both_false (is_reader xs i) ∙ sym at
    step false false e f h = h

pub once_filter : (p : ℕ → Bool) (xs : List ℕ) → AreOnce xs → AreOnce (filter p xs)
once_filter p [] h = tt
once_filter p (x ∷ xs) h = step (p x) (once_filter p xs h.1)
  where
    step : (b : Bool) → AreOnce (filter p xs) → AreOnce (cond b (x ∷ filter p xs) (filter p xs))
    step true k = (reader_filter p xs x ∙ ap (λ b. b && p x) h.0, k)
    step false k = k

pub once_push : (xs : List ℕ) (i : ℕ) → AreOnce xs → is_reader xs i ≡ false → AreOnce (xs ++ i ∷ [])
once_push [] i h e = (refl, tt)
once_push (x ∷ xs) i h e =
    let n = or_parts (x == i) (is_reader xs i) e in (
      reader_more xs i x ∙ ap (λ b. is_reader xs x || b) (apart i x (λ s. not_same (sym s) n.0))
          ∙ or_false (is_reader xs x) ∙ h.0,
      once_push xs i h.1 n.1,
    )
  where
    not_same : x ≡ i → (x == i) ≡ false → ⊥
    not_same s f = let t : (x == i) ≡ true = eq-eqb x i s in absurd cc

pub here : (x : ℕ) (xs : List ℕ) → is_reader (x ∷ xs) x ≡ true
here x xs = ap (λ b. b || is_reader xs x) (eq-eqb x x refl)

pub behind : (x : ℕ) (xs : List ℕ) (i : ℕ) → is_reader xs i ≡ true → is_reader (x ∷ xs) i ≡ true
behind x xs i h = ap (λ b. (x == i) || b) h ∙ or_true (x == i)

-- tests and functions that agree on these places

pub filter_members : (p q : ℕ → Bool) (xs : List ℕ) → ((i : ℕ) → is_reader xs i ≡ true → p i ≡ q i) → filter p xs
    ≡ filter q xs
filter_members p q [] h = refl
filter_members p q (x ∷ xs) h =
    ap (λ b. cond b (x ∷ filter p xs) (filter p xs)) (h x (here x xs))
    ∙ ap (λ l. cond (q x) (x ∷ l) l) (filter_members p q xs (λ i e. h i (behind x xs i e)))

pub map_members : {A : Type 0} (f g : ℕ → A) (xs : List ℕ) → ((i : ℕ) → is_reader xs i ≡ true → f i ≡ g i) → map f xs
    ≡ map g xs
map_members f g [] h = refl
map_members f g (x ∷ xs) h = ap (λ y. y ∷ map f xs) (h x (here x xs))
    ∙ ap (λ l. g x ∷ l) (map_members f g xs (λ i e. h i (behind x xs i e)))

-- a place that is left out

pub all_but : (xs : List ℕ) (i : ℕ) → is_reader xs i ≡ false → filter (λ j. not (j == i)) xs ≡ xs
all_but [] i e = refl
all_but (x ∷ xs) i e =
    let n = or_parts (x == i) (is_reader xs i) e in
    ap (λ b. cond (not b) (x ∷ filter (λ j. not (j == i)) xs) (filter (λ j. not (j == i)) xs)) n.0
    ∙ ap (λ l. x ∷ l) (all_but xs i n.1)

removed_first : (xs : List ℕ) (i k : ℕ) → AreOnce xs → IsFirstPassing (λ j. j == i) xs k → remove xs k
    ≡ filter (λ j. not (j == i)) xs
removed_first [] i k o h = absurd (omega (arith, h.below))
removed_first (x ∷ xs) i zero o h =
    let e : (x == i) ≡ true = h.passes 0 in
    let out : is_reader xs i ≡ false = ap (is_reader xs) (sym (eqb-true x i e)) ∙ o.0 in
    sym (ap (λ b. cond (not b) (x ∷ filter (λ j. not (j == i)) xs) (filter (λ j. not (j == i)) xs)) e
    ∙ all_but xs i out)
removed_first (x ∷ xs) i (suc k) o h =
    let e : (x == i) ≡ false = h.before 0 0 (omega arith) in
    let rest : IsFirstPassing (λ j. j == i) xs k = record {
      below = omega (arith, h.below);
      passes = λ d. h.passes d;
      before = λ n d l. h.before (suc n) d (omega arith);
    } in
    ap (λ l. x ∷ l) (removed_first xs i k o.1 rest)
    ∙ sym (ap (λ b. cond (not b) (x ∷ filter (λ j. not (j == i)) xs) (filter (λ j. not (j == i)) xs)) e)

pub left_out : (xs : List ℕ) (i k : ℕ) → AreOnce xs → Some k ≡ position (λ j. j == i) xs → remove xs k
    ≡ filter (λ j. not (j == i)) xs
left_out xs i k o e = removed_first xs i k o (first_of_position (λ j. j == i) xs k (sym e))

pub none_left_out : (xs : List ℕ) (i : ℕ) → None ≡ position (λ j. j == i) xs → xs ≡ filter (λ j. not (j == i)) xs
none_left_out xs i e = sym (all_but xs i (unfound xs (none_of_position (λ j. j == i) xs (sym e))))
  where
    unfound : (xs : List ℕ) → find (λ j. j == i) xs ≡ None → is_reader xs i ≡ false
    unfound [] h = refl
    unfound (x ∷ xs) h = step (x == i) h (unfound xs)
      where
        step : (b : Bool) → cond b (Some x) (find (λ j. j == i) xs) ≡ None
            → (find (λ j. j == i) xs ≡ None → is_reader xs i ≡ false) → (b || is_reader xs i) ≡ false
        step true k more = absurd cc
        step false k more = more k

-- the query of a name among those in these places

pub find_listed : (f : ℕ → Listed) (xs : List ℕ) (name : Bytes) (i : ℕ) → is_reader xs i ≡ true
    → bytes_eq (listed_name (f i)) name ≡ true
    → ((j : ℕ) → is_reader xs j ≡ true → bytes_eq (listed_name (f j)) name ≡ true → j ≡ i)
    → find (λ q. bytes_eq (listed_name q) name) (map f xs) ≡ Some (f i)
find_listed f [] name i there named alone = absurd cc
find_listed f (x ∷ xs) name i there named alone =
    step (bytes_eq (listed_name (f x)) name) refl
    (λ k. find_listed f xs name i k named (λ j l m. alone j (behind x xs j l) m))
  where
    step : (b : Bool) → bytes_eq (listed_name (f x)) name ≡ b
        → (is_reader xs i ≡ true → find (λ q. bytes_eq (listed_name q) name) (map f xs) ≡ Some (f i))
        → cond b (Some (f x)) (find (λ q. bytes_eq (listed_name q) name) (map f xs)) ≡ Some (f i)
    step true e more = ap (λ j. Some (f j)) (alone x (here x xs) e)
    step false e more = more (by_place (x == i) refl there)
      where
        by_place : (c : Bool) → (x == i) ≡ c → (c || is_reader xs i) ≡ true → is_reader xs i ≡ true
        by_place true s h = let t : bytes_eq (listed_name (f x)) name
            ≡ true = ap (λ j. bytes_eq (listed_name (f j)) name) (eqb-true x i s) ∙ named in absurd cc
        by_place false s h = h

pub none_listed : (f : ℕ → Listed) (xs : List ℕ) (name : Bytes)
    → ((j : ℕ) → is_reader xs j ≡ true → bytes_eq (listed_name (f j)) name ≡ false)
    → find (λ q. bytes_eq (listed_name q) name) (map f xs) ≡ None
none_listed f [] name h = refl
none_listed f (x ∷ xs) name h =
    ap (λ b. cond b (Some (f x)) (find (λ q. bytes_eq (listed_name q) name) (map f xs))) (h x (here x xs))
    ∙ none_listed f xs name (λ j e. h j (behind x xs j e))

pub drop_listed : (f : ℕ → Listed) (xs : List ℕ) (name : Bytes) (i : ℕ) → AreOnce xs
    → ((j : ℕ) → is_reader xs j ≡ true → bytes_eq (listed_name (f j)) name ≡ (j == i))
    → drop_first (λ q. bytes_eq (listed_name q) name) (map f xs) ≡ map f (filter (λ j. not (j == i)) xs)
drop_listed f [] name i o h = refl
drop_listed f (x ∷ xs) name i o h =
    ap (λ b. cond b (map f xs) (f x ∷ drop_first (λ q. bytes_eq (listed_name q) name) (map f xs))) (h x (here x xs))
    ∙ step (x == i) refl (drop_listed f xs name i o.1 (λ j e. h j (behind x xs j e)))
  where
    step : (b : Bool) → (x == i) ≡ b → drop_first (λ q. bytes_eq (listed_name q) name) (map f xs)
        ≡ map f (filter (λ j. not (j == i)) xs)
        → cond b (map f xs) (f x ∷ drop_first (λ q. bytes_eq (listed_name q) name) (map f xs))
        ≡ map f (cond (not b) (x ∷ filter (λ j. not (j == i)) xs) (filter (λ j. not (j == i)) xs))
    step true e more = ap (map f) (sym (all_but xs i (ap (is_reader xs) (sym (eqb-true x i e)) ∙ o.0)))
    step false e more = ap (λ l. f x ∷ l) more

-- places that pass two tests, whichever is tried first
pub filter_twice : (p q : ℕ → Bool) (xs : List ℕ) → filter p (filter q xs) ≡ filter q (filter p xs)
filter_twice p q [] = refl
filter_twice p q (x ∷ xs) = step (p x) (q x) refl refl (filter_twice p q xs)
  where
    step : (b c : Bool) → p x ≡ b → q x ≡ c → filter p (filter q xs) ≡ filter q (filter p xs)
        → filter p (cond c (x ∷ filter q xs) (filter q xs)) ≡ filter q (cond b (x ∷ filter p xs) (filter p xs))
    step true true e f h = ap (λ b. cond b (x ∷ filter p (filter q xs)) (filter p (filter q xs))) e ∙ ap (λ l. x ∷ l) h
        ∙ sym (ap (λ b. cond b (x ∷ filter q (filter p xs)) (filter q (filter p xs))) f)
    step true false e f h = h ∙ sym (ap (λ b. cond b (x ∷ filter q (filter p xs)) (filter q (filter p xs))) f)
    step false true e f h = ap (λ b. cond b (x ∷ filter p (filter q xs)) (filter p (filter q xs))) e ∙ h
    step false false e f h = h

-- ---- Queries by name and by place.

-- the query of a place where one is
pub record There (gs : List (Option Live)) (i : ℕ) : Type 0 where
  pub query : Live
  pub is : place_at gs i ≡ Some query

pub live_there : (gs : List (Option Live)) (i : ℕ) → is_live gs i ≡ true → There gs i
live_there gs i e = by_place (place_at gs i) refl e
  where
    by_place : (o : Option Live) → place_at gs i ≡ o → is_some o ≡ true → There gs i
    by_place None f h = absurd cc
    by_place (Some l) f h = record { query = l; is = f }

module _ (c : Catalog) (gs : List (Option Live)) (order : List ℕ) (readers : List (List ℕ))
    (s : QueriesAreSound c gs order readers) where
  pub order_there : (i : ℕ) → is_reader order i ≡ true → There gs i
  order_there i e = live_there gs i (sym (s.listed i) ∙ e)

  pub query_there : (name : Bytes) (i : ℕ) (l : Live) → place_at gs i ≡ Some l → l.query.name ≡ name
      → listed_of (queries_in gs order) name ≡ Some (a_query l.query)
  query_there name i l e called =
      find_listed (λ i. query_in (place_at gs i)) order name i (s.listed i ∙ ap is_some e)
      (ap (λ (o : Option Live). bytes_eq (listed_name (query_in o)) name) e
      ∙ (bytes_eq-decides l.query.name name).1 called)
      (λ j there m.
      let t = order_there j there in
      s.named j i t.query l t.is e
      ((bytes_eq-decides t.query.query.name name).0
      (ap (λ (o : Option Live). bytes_eq (listed_name (query_in o)) name) (sym t.is) ∙ m) ∙ sym called))
      ∙ ap (λ (o : Option Live). Some (query_in o)) e

  pub query_kept : (i : ℕ) (l : Live) → place_at gs i ≡ Some l → listed_of (queries_in gs order) l.query.name
      ≡ Some (a_query l.query)
  query_kept i l e = query_there l.query.name i l e refl

-- the place of the query of a name
pub record Named (gs : List (Option Live)) (name : Bytes) (i : ℕ) : Type 0 where
  pub query : Live
  pub there : place_at gs i ≡ Some query
  pub called : query.query.name ≡ name

pub first_query : (gs : List (Option Live)) (name : Bytes) (at : ℕ) → Some at ≡ position (is_query name) gs
    → Named gs name at
first_query gs name at e = by_place (place_at gs at) refl
    ((first_of_position (is_query name) gs at (sym e)).passes None)
  where
    by_place : (o : Option Live) → place_at gs at ≡ o → is_query name o ≡ true → Named gs name at
    by_place None f h = absurd cc
    by_place (Some l) f h = record { query = l; there = f; called = (bytes_eq-decides l.query.name name).0 h }

pub none_passes : {A : Type 0} (p : A → Bool) (xs : List A) → find p xs ≡ None → (k : ℕ) (d : A) → k < length xs
    → p (get_or xs k d) ≡ false
none_passes p [] e k d l = absurd (omega arith)
none_passes p (x ∷ xs) e k d l = step (p x) refl e k l (none_passes p xs)
  where
    step : (b : Bool) → p x ≡ b → cond b (Some x) (find p xs) ≡ None → (k : ℕ) → k < suc (length xs)
        → (find p xs ≡ None → (k : ℕ) (d : _) → k < length xs → p (get_or xs k d) ≡ false) → p (get_or (x ∷ xs) k d)
        ≡ false
    step true f e k l more = absurd cc
    step false f e zero l more = f
    step false f e (suc k) l more = more e k d (omega arith)

-- no query has a name that isn't found
pub unnamed : (gs : List (Option Live)) (name : Bytes) (j : ℕ) (l : Live) → None ≡ position (is_query name) gs
    → place_at gs j ≡ Some l → bytes_eq l.query.name name ≡ false
unnamed gs name j l e there =
    sym (ap (is_query name) there)
    ∙ none_passes (is_query name) gs (none_of_position (is_query name) gs (sym e)) j None (place_below gs j l there)

module _ (c : Catalog) (gs : List (Option Live)) (order : List ℕ) (readers : List (List ℕ))
    (s : QueriesAreSound c gs order readers) (name : Bytes) where
  pub query_named : (i : ℕ) (n : Named gs name i) → listed_of (queries_in gs order) name ≡ Some (a_query n.query.query)
  query_named i n = query_there c gs order readers s name i n.query n.there n.called

  pub no_query_of : None ≡ position (is_query name) gs → listed_of (queries_in gs order) name ≡ None
  no_query_of e = none_listed (λ i. query_in (place_at gs i)) order name
      (λ j h. let t = order_there c gs order readers s j h in
      ap (λ (o : Option Live). bytes_eq (listed_name (query_in o)) name) t.is ∙ unnamed gs name j t.query e t.is)

  pub query_found : (o : Option ℕ) → o ≡ position (is_query name) gs → is_some (listed_of (queries_in gs order) name)
      ≡ is_some o
  query_found None e = ap is_some (no_query_of e)
  query_found (Some at) e = ap is_some (query_named at (first_query gs name at e))
