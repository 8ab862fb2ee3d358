-- What replies make of what a mirror holds.
use Rattle.std.specs.Prelude.{ℕ, List, [], ◌∷◌, ◌++◌, ◌≡◌, ◌⊎◌, ◌&&◌, ◌||◌, Bool, true, false, not, cond, filter, Some}
use Rattle.std.specs.Prelude.{map, All, Contains}
use Rattle.std.proofs.Common.{refl, sym, ap, ap₂, ◌∙◌, subst, inl, inr, append-nil, append_assoc}
use Rattle.std.proofs.lemmas.List.Elements.{All-nil, All-cons, All-head, All-tail, All-append, All-contains}
use Rattle.std.proofs.lemmas.List.Elements.{Contains-append_left, Contains-append_right}
use Rattle.std.proofs.lemmas.Bool.{or_left, or_right, false_from_ne_true, or_cases, and_from, not_from_false}
use Rattle.djq_model.specs.declared.value.Value.{Value}
use Rattle.djq_model.specs.Data.{Bytes, Tuple, bytes_eq, tuple_eq}
use Rattle.djq_model.specs.Answer.{AreDifferent}
use Rattle.djq_model.specs.Equality.{bytes_eq-decides, tuple_eq-decides}
use Rattle.djq_value.specs.ValueText.{value_text}
use Rattle.djq_value.specs.ReadValue.{literal_at}
use Rattle.djq_value.proofs.Literals.{read_back}
use Rattle.djq_protocol.specs.declared.answer.Sign.{Sign}
use Rattle.djq_protocol.specs.declared.answer.Sign.TheVariants.{Came, Went}
use Rattle.djq_protocol.specs.Reply.{cells_text}
use Rattle.djq_mirror.specs.declared.mode.Mode.{Mode}
use Rattle.djq_mirror.specs.declared.mode.Mode.TheVariants.{Idle, Listing, Live}
use Rattle.djq_mirror.specs.Replies.{Reply, opened, answer, more as more_line, last as last_line, stale, changed}
use Rattle.djq_mirror.specs.Replies.{counted}
use Rattle.djq_mirror.specs.Mirror.{Held, keep, put, take_out, turn_of, turn_of_change, turn_of_count, may_turn}
use Rattle.djq_mirror.specs.Mirror.{has_text, IsInOrder, Turned}
use Rattle.djq_mirror.proofs.Spellings.{ends_cells}
use Rattle.djq_store_spec.specs.Delta.{Change, HasChanged, IsDelta}
use Rattle.djq_answer_laws.specs.Decided.{Decided}
use Rattle.djq_answer_laws.proofs.Lists.{nothing_there, first_or_later, first_there, later_there, mapped_there}
use Rattle.djq_answer_laws.proofs.Lists.{pairs_head, pairs_tail}
use Rattle.djq_mirror_laws.specs.Sayable.{IsSayableValue, IsSayableRow}
use Rattle.djq_mirror_laws.specs.Told.{is_told_of, delta_replies}
use Rattle.djq_mirror_laws.specs.Mirrored.{RepliesPass, HoldsTextsOf}
use Rattle.djq_mirror_laws.proofs.Replies.{IsHarmless}
use Rattle.djq_mirror_laws.proofs.MirrorInputs.{put_in, taken_out, has_put, has_out, sorted_put, sorted_out, put_is}
use Rattle.djq_mirror_laws.proofs.MirrorInputs.{out_is, nothing_sorted}

-- ---- one reply after the other

pub passes_then : (name : Bytes) (a b c : Held) (rs ts : List Reply) → RepliesPass name a rs b → RepliesPass name b ts c
    → RepliesPass name a (rs ++ ts) c
passes_then name a b c [] ts h k = subst (λ (x : Held). RepliesPass name x ts c) h k
passes_then name a b c (r ∷ rs) ts h k = (h.0, h.1, h.2, passes_then name h.0 b c rs ts h.3 k)

-- a reply whose turn keeps all
pub stays : (name : Bytes) (held : Held) (r : Reply) → turn_of name held.mode r ≡ Some (held.mode, keep)
    → RepliesPass name held (r ∷ []) held
stays name held r e =
    (held, ap (may_turn held.texts) e, subst (λ o. Turned held o held) (sym e) (refl, refl), refl)

-- Where all others are harmless, what tells of the query does all.
pub passes_told : (name : Bytes) (old new : Held) (rs : List Reply) → All IsHarmless rs
    → RepliesPass name old (filter (is_told_of name) rs) new → RepliesPass name old rs new
passes_told name old new [] h k = k
passes_told name old new (r ∷ rs) h k =
    by (is_told_of name r) refl k (λ held l. passes_told name held new rs (All-tail IsHarmless r rs h) l)
  where
    by : (b : Bool) → is_told_of name r ≡ b
        → RepliesPass name old (cond b (r ∷ filter (is_told_of name) rs) (filter (is_told_of name) rs)) new
        → ((held : Held) → RepliesPass name held (filter (is_told_of name) rs) new → RepliesPass name held rs new)
        → RepliesPass name old (r ∷ rs) new
    by true e l rest = (l.0, l.1, l.2, rest l.0 l.3)
    by false e l rest =
        let still = stays name old r (All-head IsHarmless r rs h name old.mode e) in
        (old, still.1, subst (λ (x : Held). Turned old (turn_of name old.mode r) x) (sym still.3) still.2, rest old l)

-- ---- texts of tuples

pub same_cells : (t u : Tuple) → IsSayableRow t → IsSayableRow u → cells_text t ≡ cells_text u → t ≡ u
same_cells [] [] h k e = refl
same_cells [] (w ∷ u) h k e = absurd cc
same_cells (v ∷ t) [] h k e = absurd cc
same_cells (v ∷ t) (w ∷ u) h k e =
    let behind : value_text v ++ cells_text t ≡ value_text w ++ cells_text u = cc in
    let first = read_back v (cells_text t) (All-head IsSayableValue v t h).0 (ends_cells t) in
    let second = read_back w (cells_text u) (All-head IsSayableValue w u k).0 (ends_cells u) in
    let both : Some (v, cells_text t) ≡ Some (w, cells_text u) = sym first ∙ ap literal_at behind ∙ second in
    let parts = pair_same (v, cells_text t) (w, cells_text u) both in
    ap₂ (λ x xs. x ∷ xs) parts.0
    (same_cells t u (All-tail IsSayableValue v t h) (All-tail IsSayableValue w u k) parts.1)
  where
    pair_same : (x y : Value × Bytes) → Some x ≡ Some y → (x.0 ≡ y.0) × (x.1 ≡ y.1)
    pair_same x y p =
        let q : x ≡ y = cc in (ap (λ (z : Value × Bytes). z.0) q, ap (λ (z : Value × Bytes). z.1) q)

same_bytes : (a : Bytes) → bytes_eq a a ≡ true
same_bytes a = (bytes_eq-decides a a).1 refl

and_split : (a b : Bool) → (not a && b) ≡ true → (a ≡ false) × (b ≡ true)
and_split true b e = absurd cc
and_split false b e = (refl, e)

-- ---- one text is put in, or taken out

-- a tuple comes that isn't shown
pub put_shown : (held : Held) (mode : Mode) (P Q : Tuple → Type 0) (t : Tuple) → HoldsTextsOf held P
    → ((u : Tuple) → P u → IsSayableRow u) → IsSayableRow t → (P t → ⊥)
    → ((u : Tuple) → Q u → (u ≡ t) ⊎ P u) → ((u : Tuple) → (u ≡ t) ⊎ P u → Q u)
    → (has_text held.texts (cells_text t) ≡ false)
    × HoldsTextsOf (record { mode = mode; texts = put_in (cells_text t) held.texts }) Q
put_shown held mode P Q t h fine good absent from to = (
  false_from_ne_true (has_text held.texts (cells_text t)) (λ e.
      let k = h.texts (cells_text t) e in
      absent (subst P (same_cells k.0 t (fine k.0 k.1) good k.2) k.1)),
  record {
    order = sorted_put (cells_text t) held.texts h.order;
    texts = λ u e. by u (or_cases (bytes_eq u (cells_text t)) (has_text held.texts u)
        (sym (has_put (cells_text t) held.texts u) ∙ e));
    tuples = λ u q. has_put (cells_text t) held.texts (cells_text u) ∙ at u (from u q);
  },
)
  where
    by : (u : Bytes) → (bytes_eq u (cells_text t) ≡ true) ⊎ (has_text held.texts u ≡ true)
        → (v : Tuple) × Q v × (cells_text v ≡ u)
    by u (inl e) = (t, to t (inl refl), sym ((bytes_eq-decides u (cells_text t)).0 e))
    by u (inr e) = let k = h.texts u e in (k.0, to k.0 (inr k.1), k.2)

    at : (u : Tuple) → (u ≡ t) ⊎ P u → (bytes_eq (cells_text u) (cells_text t) || has_text held.texts (cells_text u))
        ≡ true
    at u (inl e) =
        or_left (bytes_eq (cells_text u) (cells_text t)) (has_text held.texts (cells_text u))
        ((bytes_eq-decides (cells_text u) (cells_text t)).1 (ap cells_text e))
    at u (inr p) =
        or_right (bytes_eq (cells_text u) (cells_text t)) (has_text held.texts (cells_text u)) (h.tuples u p)

-- one that is shown goes
pub out_shown : (held : Held) (mode : Mode) (P Q : Tuple → Type 0) (t : Tuple) → HoldsTextsOf held P
    → ((u : Tuple) → P u → IsSayableRow u) → P t
    → ((u : Tuple) → Q u → P u × (u ≡ t → ⊥)) → ((u : Tuple) → P u → (u ≡ t → ⊥) → Q u)
    → (has_text held.texts (cells_text t) ≡ true)
    × HoldsTextsOf (record { mode = mode; texts = taken_out (cells_text t) held.texts }) Q
out_shown held mode P Q t h fine there from to = (
  h.tuples t there,
  record {
    order = sorted_out (cells_text t) held.texts h.order;
    texts = λ u e.
        let both = and_split (bytes_eq u (cells_text t)) (has_text held.texts u)
        (sym (has_out (cells_text t) held.texts u) ∙ e) in
        let k = h.texts u both.1 in
        (k.0, to k.0 k.1 (λ same. differs u k.0 k.2 both.0 same), k.2);
    tuples = λ u q.
        let k = from u q in
        has_out (cells_text t) held.texts (cells_text u)
        ∙ and_from (not (bytes_eq (cells_text u) (cells_text t))) (has_text held.texts (cells_text u))
        (not_from_false (bytes_eq (cells_text u) (cells_text t))
        (false_from_ne_true (bytes_eq (cells_text u) (cells_text t)) (λ e.
        k.1 (same_cells u t (fine u k.0) (fine t there) ((bytes_eq-decides (cells_text u) (cells_text t)).0 e)))))
        (h.tuples u k.0);
  },
)
  where
    differs : (u : Bytes) (v : Tuple) → cells_text v ≡ u → bytes_eq u (cells_text t) ≡ false → v ≡ t → ⊥
    differs u v text e same =
        let is : bytes_eq u (cells_text t)
        ≡ true = (bytes_eq-decides u (cells_text t)).1 (sym text ∙ ap cells_text same) in
        absurd (cc (is, e))

-- ---- the deltas of the query

-- where it isn't live, it is idle behind a delta
change_turns : (name : Bytes) (mode : Mode) (s : Sign) (t : Tuple)
    → turn_of name mode (changed s name t) ≡ Some (turn_of_change mode s (cells_text t))
change_turns name Idle s t = ap (λ (b : Bool). Some (cond b (turn_of_change Idle s (cells_text t)) (Idle, keep)))
    (same_bytes name)
change_turns name Listing s t = ap
    (λ (b : Bool). Some (cond b (turn_of_change Listing s (cells_text t)) (Listing, keep))) (same_bytes name)
change_turns name Live s t = ap (λ (b : Bool). Some (cond b (turn_of_change Live s (cells_text t)) (Live, keep)))
    (same_bytes name)

count_turns : (name : Bytes) (mode : Mode) (n : ℕ) → turn_of name mode (counted name n) ≡ Some (turn_of_count mode)
count_turns name Idle n = ap (λ (b : Bool). Some (cond b (turn_of_count Idle) (Idle, keep))) (same_bytes name)
count_turns name Listing n = ap (λ (b : Bool). Some (cond b (turn_of_count Listing) (Listing, keep))) (same_bytes name)
count_turns name Live n = ap (λ (b : Bool). Some (cond b (turn_of_count Live) (Live, keep))) (same_bytes name)

abbrev pub idle_with : Held → Held
idle_with held = record { mode = Idle; texts = held.texts }

idle_turn : (name : Bytes) (held : Held) (r : Reply) → turn_of name held.mode r ≡ Some (Idle, keep)
    → RepliesPass name held (r ∷ []) (idle_with held)
idle_turn name held r e =
    (idle_with held, ap (may_turn held.texts) e, subst (λ o. Turned held o (idle_with held)) (sym e) (refl, refl), refl)

pub delta_idles : (name : Bytes) (held : Held) (changes : List Change) (n : ℕ)
    → (held.mode ≡ Idle) ⊎ (held.mode ≡ Listing)
    → RepliesPass name held (delta_replies name (record { number = n; changes = changes })) (idle_with held)
delta_idles name held [] n o = idle_turn name held (counted name n) (count_turns name held.mode n ∙ by o)
  where
    by : (held.mode ≡ Idle) ⊎ (held.mode ≡ Listing) → Some (turn_of_count held.mode) ≡ Some (Idle, keep)
    by (inl e) = ap (λ (m : Mode). Some (turn_of_count m)) e
    by (inr e) = ap (λ (m : Mode). Some (turn_of_count m)) e
delta_idles name held (c ∷ changes) n o =
    passes_then name held (idle_with held) (idle_with held) (changed c.sign name c.answer ∷ [])
    (delta_replies name (record { number = n; changes = changes }))
    (idle_turn name held (changed c.sign name c.answer) (change_turns name held.mode c.sign c.answer ∙ by o))
    (delta_idles name (idle_with held) changes n (inl refl))
  where
    by : (held.mode ≡ Idle) ⊎ (held.mode ≡ Listing)
        → Some (turn_of_change held.mode c.sign (cells_text c.answer)) ≡ Some (Idle, keep)
    by (inl e) = ap (λ (m : Mode). Some (turn_of_change m c.sign (cells_text c.answer))) e
    by (inr e) = ap (λ (m : Mode). Some (turn_of_change m c.sign (cells_text c.answer))) e

-- ---- where it is live

abbrev pub live_with : List Bytes → Held
live_with texts = record { mode = Live; texts = texts }

-- a change that is put in or taken out
other_queries_stay : (name : Bytes) (held : Held) (t : Tuple) → held.mode ≡ Live → has_text held.texts (cells_text t)
    ≡ false
    → IsInOrder (put_in (cells_text t) held.texts)
    → RepliesPass name held (changed Came name t ∷ []) (live_with (put_in (cells_text t) held.texts))
other_queries_stay name held t mode none order =
    let turn : turn_of name held.mode (changed Came name t) ≡ Some (Live, put (cells_text t)) =
    change_turns name held.mode Came t ∙ ap (λ (m : Mode). Some (turn_of_change m Came (cells_text t))) mode in (
      live_with (put_in (cells_text t) held.texts),
      ap (may_turn held.texts) turn ∙ ap not none,
      subst (λ o. Turned held o (live_with (put_in (cells_text t) held.texts))) (sym turn)
          (refl, (order, λ u. put_is (cells_text t) held.texts u)),
      refl,
    )

went_passes : (name : Bytes) (held : Held) (t : Tuple) → held.mode ≡ Live → has_text held.texts (cells_text t) ≡ true
    → IsInOrder (taken_out (cells_text t) held.texts)
    → RepliesPass name held (changed Went name t ∷ []) (live_with (taken_out (cells_text t) held.texts))
went_passes name held t mode there order =
    let turn : turn_of name held.mode (changed Went name t) ≡ Some (Live, take_out (cells_text t)) =
    change_turns name held.mode Went t ∙ ap (λ (m : Mode). Some (turn_of_change m Went (cells_text t))) mode in (
      live_with (taken_out (cells_text t) held.texts),
      ap (may_turn held.texts) turn ∙ there,
      subst (λ o. Turned held o (live_with (taken_out (cells_text t) held.texts))) (sym turn)
          (refl, (order, λ u. out_is (cells_text t) held.texts u)),
      refl,
    )

-- an answer that comes, and one that goes
abbrev coming : Tuple → Change
coming t = record { sign = Came; answer = t }

abbrev going : Tuple → Change
going t = record { sign = Went; answer = t }

-- What is shown while these changes are still to come: the answers behind them, but for those that
-- come, and those that go.
abbrev Awaits : (Tuple → Type 0) → List Change → Tuple → Type 0
Awaits After cs t =
    (After t × (Contains cs (coming t) → ⊥)) ⊎ Contains cs (going t)

-- A mirror is live behind these replies, and shows these tuples.
pub record LiveBehind (name : Bytes) (held : Held) (rs : List Reply) (These : Tuple → Type 0) : Type 0 where
  pub behind : Held
  pub passes : RepliesPass name held rs behind
  pub mode : behind.mode ≡ Live
  pub shows : HoldsTextsOf behind These

module _ (Before After : Tuple → Type 0)
    (good : (t : Tuple) → Before t → IsSayableRow t) (fine : (t : Tuple) → After t → IsSayableRow t) where
  abbrev AllChange : List Change → Type 0
  AllChange cs = All (λ c. HasChanged Before After c.sign c.answer) cs

  came_there : (cs : List Change) (t : Tuple) → AllChange cs → Contains cs (coming t) → HasChanged Before After Came t
  came_there cs t h c = All-contains (λ k. HasChanged Before After k.sign k.answer) cs (coming t) h c

  went_there : (cs : List Change) (t : Tuple) → AllChange cs → Contains cs (going t) → HasChanged Before After Went t
  went_there cs t h c = All-contains (λ k. HasChanged Before After k.sign k.answer) cs (going t) h c

  awaited_good : (cs : List Change) → AllChange cs → (t : Tuple) → Awaits After cs t → IsSayableRow t
  awaited_good cs h t (inl k) = fine t k.0
  awaited_good cs h t (inr c) = good t (went_there cs t h c).0

  -- which changes are later
  later_not : (cs : List Change) (c : Change) (s : Sign) (t : Tuple)
      → AreDifferent (map (λ (k : Change). k.answer) (c ∷ cs))
      → Contains cs (record { sign = s; answer = t }) → t ≡ c.answer → ⊥
  later_not cs c s t apart there e =
      All-contains (λ (u : Tuple). c.answer ≡ u → ⊥) (map (λ (k : Change). k.answer) cs) t
      (pairs_head (λ (u v : Tuple). u ≡ v → ⊥) c.answer (map (λ (k : Change). k.answer) cs) apart)
      (mapped_there (λ (k : Change). k.answer) cs (record { sign = s; answer = t }) there) (sym e)

  -- one that comes
  came_from : (cs : List Change) (t : Tuple) → (u : Tuple) → Awaits After cs u
      → (u ≡ t) ⊎ Awaits After (coming t ∷ cs) u
  came_from cs t u (inr c) = inr (inr (later_there (coming t) cs (going u) c))
  came_from cs t u (inl k) = by (tuple_eq u t) refl
    where
      not_first : (u ≡ t → ⊥) → Contains (coming t ∷ cs) (coming u) → ⊥
      not_first ne c = at (first_or_later (coming t) cs (coming u) c)
        where
          at : (coming t ≡ (coming u)) ⊎ Contains cs (coming u) → ⊥
          at (inl e) = ne (sym (ap (λ (x : Change). x.answer) e))
          at (inr l) = k.1 l

      by : (b : Bool) → tuple_eq u t ≡ b → (u ≡ t) ⊎ Awaits After (coming t ∷ cs) u
      by true e = inl ((tuple_eq-decides u t).0 e)
      by false e = inr (inl (
        k.0,
        not_first (λ same. let yes : tuple_eq u t
            ≡ true = (tuple_eq-decides u t).1 same in absurd (cc (yes, e))),
      ))

  came_to : (cs : List Change) (t : Tuple) → AllChange (coming t ∷ cs)
      → AreDifferent (map (λ (k : Change). k.answer) (coming t ∷ cs)) → (u : Tuple)
      → (u ≡ t) ⊎ Awaits After (coming t ∷ cs) u → Awaits After cs u
  came_to cs t h apart u (inl e) =
      let first = All-head (λ (k : Change). HasChanged Before After k.sign k.answer) (coming t) cs h in
      inl (subst After (sym e) first.0, λ c. later_not cs (coming t) Came u apart c e)
  came_to cs t h apart u (inr (inl k)) =
      inl (k.0, λ c. k.1 (later_there (coming t) cs (coming u) c))
  came_to cs t h apart u (inr (inr c)) =
      by (first_or_later (coming t) cs (going u) c)
    where
      by : (coming t ≡ (going u)) ⊎ Contains cs (going u) → Awaits After cs u
      by (inl e) = let signs : Came ≡ Went = ap (λ (x : Change). x.sign) e in absurd (cc signs)
      by (inr l) = inr l

  came_absent : (cs : List Change) (t : Tuple) → AllChange (coming t ∷ cs)
      → Awaits After (coming t ∷ cs) t → ⊥
  came_absent cs t h (inl k) = k.1 (first_there (coming t) cs (coming t) refl)
  came_absent cs t h (inr c) =
      let first = All-head (λ (k : Change). HasChanged Before After k.sign k.answer) (coming t) cs h in
      (went_there (coming t ∷ cs) t h c).1 first.0

  -- one that goes
  went_from : (cs : List Change) (t : Tuple) → AllChange (going t ∷ cs)
      → AreDifferent (map (λ (k : Change). k.answer) (going t ∷ cs)) → (u : Tuple)
      → Awaits After cs u → Awaits After (going t ∷ cs) u × (u ≡ t → ⊥)
  went_from cs t h apart u (inl k) =
      let first = All-head (λ (x : Change). HasChanged Before After x.sign x.answer) (going t) cs h in (
        inl (k.0, λ c. by (first_or_later (going t) cs (coming u) c)),
        λ e. first.1 (subst After e k.0),
      )
    where
      by : (going t ≡ (coming u)) ⊎ Contains cs (coming u) → ⊥
      by (inl e) = let signs : Went ≡ Came = ap (λ (x : Change). x.sign) e in absurd (cc signs)
      by (inr l) = k.1 l
  went_from cs t h apart u (inr c) = (
    inr (later_there (going t) cs (going u) c),
    λ e. later_not cs (going t) Went u apart c e,
  )

  went_to : (cs : List Change) (t : Tuple) → (u : Tuple) → Awaits After (going t ∷ cs) u → (u ≡ t → ⊥)
      → Awaits After cs u
  went_to cs t u (inl k) ne = inl (k.0, λ c. k.1 (later_there (going t) cs (coming u) c))
  went_to cs t u (inr c) ne = by (first_or_later (going t) cs (going u) c)
    where
      by : (going t ≡ (going u)) ⊎ Contains cs (going u) → Awaits After cs u
      by (inl e) = absurd (ne (sym (ap (λ (x : Change). x.answer) e)))
      by (inr l) = inr l

  -- all of them
  delta_lives : (name : Bytes) (held : Held) (cs : List Change) (n : ℕ) → held.mode ≡ Live → AllChange cs
      → AreDifferent (map (λ (k : Change). k.answer) cs) → HoldsTextsOf held (Awaits After cs)
      → LiveBehind name held (delta_replies name (record { number = n; changes = cs })) (Awaits After [])
  delta_lives name held [] n mode h apart shows = record {
    behind = held;
    passes = stays name held (counted name n)
        (count_turns name held.mode n ∙ ap (λ (m : Mode). Some (turn_of_count m)) mode
        ∙ ap (λ (m : Mode). Some (m, keep)) (sym mode));
    mode = mode;
    shows = shows;
  }
  delta_lives name held (c ∷ cs) n mode h apart shows =
      by c.sign refl (λ next m k. delta_lives name next cs n m
      (All-tail (λ (x : Change). HasChanged Before After x.sign x.answer) c cs h)
      (pairs_tail (λ (u v : Tuple). u ≡ v → ⊥) c.answer (map (λ (x : Change). x.answer) cs) apart) k)
    where
      t : Tuple
      t = c.answer

      rest : List Reply
      rest = delta_replies name (record { number = n; changes = cs })

      goes : (r : Reply) → changed c.sign name t ≡ r → (next : Held) → RepliesPass name held (r ∷ []) next
          → LiveBehind name next rest (Awaits After [])
          → LiveBehind name held (changed c.sign name t ∷ rest) (Awaits After [])
      goes r e next first more = record {
        behind = more.behind;
        passes = subst (λ (x : Reply). RepliesPass name held (x ∷ rest) more.behind) (sym e)
            (passes_then name held next more.behind (r ∷ []) rest first more.passes);
        mode = more.mode;
        shows = more.shows;
      }

      by : (s : Sign) → c.sign ≡ s
          → ((next : Held) → next.mode ≡ Live → HoldsTextsOf next (Awaits After cs)
          → LiveBehind name next rest (Awaits After []))
          → LiveBehind name held (changed c.sign name t ∷ rest) (Awaits After [])
      by Came e more =
          let is : c ≡ (coming t) = ap (λ (x : Sign). record { sign = x; answer = t }) e in
          let all : AllChange (coming t ∷ cs) = subst (λ (x : Change). AllChange (x ∷ cs)) is h in
          let first = All-head (λ (k : Change). HasChanged Before After k.sign k.answer) (coming t) cs all in
          let both = put_shown held Live (Awaits After (coming t ∷ cs)) (Awaits After cs) t
          (subst (λ (x : Change). HoldsTextsOf held (Awaits After (x ∷ cs))) is shows)
          (λ u a. awaited_good (coming t ∷ cs) all u a) (fine t first.0)
          (λ a. came_absent cs t all a) (λ u a. came_from cs t u a) (λ u a. came_to cs t all apart u a) in
          goes (changed Came name t) (ap (λ (x : Sign). changed x name t) e)
          (live_with (put_in (cells_text t) held.texts))
          (other_queries_stay name held t mode both.0 both.1.order)
          (more (live_with (put_in (cells_text t) held.texts)) refl both.1)
      by Went e more =
          let is : c ≡ (going t) = ap (λ (x : Sign). record { sign = x; answer = t }) e in
          let all : AllChange (going t ∷ cs) = subst (λ (x : Change). AllChange (x ∷ cs)) is h in
          let both = out_shown held Live (Awaits After (going t ∷ cs)) (Awaits After cs) t
          (subst (λ (x : Change). HoldsTextsOf held (Awaits After (x ∷ cs))) is shows)
          (λ u a. awaited_good (going t ∷ cs) all u a)
          (inr (first_there (going t) cs (going t) refl))
          (λ u a. went_from cs t all apart u a) (λ u a ne. went_to cs t u a ne) in
          goes (changed Went name t) (ap (λ (x : Sign). changed x name t) e)
          (live_with (taken_out (cells_text t) held.texts))
          (went_passes name held t mode both.0 both.1.order)
          (more (live_with (taken_out (cells_text t) held.texts)) refl both.1)

-- other tuples that are the same
pub shows_same : (held : Held) (P Q : Tuple → Type 0) → ((t : Tuple) → P t → Q t) → ((t : Tuple) → Q t → P t)
    → HoldsTextsOf held P
    → HoldsTextsOf held Q
shows_same held P Q there back h = record {
  order = h.order;
  texts = λ u e. let k = h.texts u e in (k.0, there k.0 k.1, k.2);
  tuples = λ t q. h.tuples t (back t q);
}

-- A live mirror takes a delta, and shows the answers behind it.
module _ (Before After : Tuple → Type 0) (before : (t : Tuple) → Decided (Before t))
    (after : (t : Tuple) → Decided (After t))
    (good : (t : Tuple) → Before t → IsSayableRow t) (fine : (t : Tuple) → After t → IsSayableRow t)
    (changes : List Change)
    (delta : IsDelta Before After changes) where
  waits_to : (t : Tuple) → Before t → Awaits After changes t
  waits_to t b = by (after t)
    where
      by : Decided (After t) → Awaits After changes t
      by (inl a) = inl (a, λ c. (came_there Before After good fine changes t delta.changed c).1 b)
      by (inr no_more) = inr (delta.complete Went t (b, no_more))

  waits_from : (t : Tuple) → Awaits After changes t → Before t
  waits_from t (inr c) = (went_there Before After good fine changes t delta.changed c).0
  waits_from t (inl k) = by (before t)
    where
      by : Decided (Before t) → Before t
      by (inl b) = b
      by (inr wasnt) = absurd (k.1 (delta.complete Came t (k.0, wasnt)))

  awaits_none : (t : Tuple) → Awaits After [] t → After t
  awaits_none t (inl k) = k.0
  awaits_none t (inr c) = absurd (nothing_there (going t) c)

  pub delta_shown : (name : Bytes) (held : Held) (n : ℕ) → held.mode ≡ Live → HoldsTextsOf held Before
      → LiveBehind name held (delta_replies name (record { number = n; changes = changes })) After
  delta_shown name held n mode h =
      let k = delta_lives Before After good fine name held changes n mode delta.changed delta.different
      (shows_same held Before (Awaits After changes) waits_to waits_from h) in record {
        behind = k.behind;
        passes = k.passes;
        mode = k.mode;
        shows = shows_same k.behind (Awaits After []) After awaits_none
            (λ t a. inl (a, λ c. nothing_there (coming t) c)) k.shows;
      }

-- ---- a listing

contains_last : (xs : List Tuple) (t u : Tuple) → Contains (xs ++ t ∷ []) u → (u ≡ t) ⊎ Contains xs u
contains_last [] t u c = by (first_or_later t [] u c)
  where
    by : (t ≡ u) ⊎ Contains [] u → (u ≡ t) ⊎ Contains [] u
    by (inl e) = inl (sym e)
    by (inr k) = inr k
contains_last (x ∷ xs) t u c = by (first_or_later x (xs ++ t ∷ []) u c) (λ k. contains_last xs t u k)
  where
    by : (x ≡ u) ⊎ Contains (xs ++ t ∷ []) u → (Contains (xs ++ t ∷ []) u → (u ≡ t) ⊎ Contains xs u)
        → (u ≡ t) ⊎ Contains (x ∷ xs) u
    by (inl e) more = inr (first_there x xs u e)
    by (inr k) more = at (more k)
      where
        at : (u ≡ t) ⊎ Contains xs u → (u ≡ t) ⊎ Contains (x ∷ xs) u
        at (inl e) = inl e
        at (inr l) = inr (later_there x xs u l)

last_contains : (xs : List Tuple) (t u : Tuple) → (u ≡ t) ⊎ Contains xs u → Contains (xs ++ t ∷ []) u
last_contains xs t u (inl e) = Contains-append_right xs (t ∷ []) u (first_there t [] u (sym e))
last_contains xs t u (inr k) = Contains-append_left xs (t ∷ []) u k

-- one of different tuples isn't among those before it
pub not_before : (xs : List Tuple) (t : Tuple) (ys : List Tuple) → AreDifferent (xs ++ t ∷ ys) → Contains xs t → ⊥
not_before [] t ys apart c = nothing_there t c
not_before (x ∷ xs) t ys apart c =
    by (first_or_later x xs t c)
    (λ k. not_before xs t ys (pairs_tail (λ (u v : Tuple). u ≡ v → ⊥) x (xs ++ t ∷ ys) apart) k)
  where
    by : (x ≡ t) ⊎ Contains xs t → (Contains xs t → ⊥) → ⊥
    by (inl e) more =
        All-contains (λ (u : Tuple). x ≡ u → ⊥) (xs ++ t ∷ ys) t
        (pairs_head (λ (u v : Tuple). u ≡ v → ⊥) x (xs ++ t ∷ ys) apart)
        (Contains-append_right xs (t ∷ ys) t (first_there t ys t refl)) e
    by (inr k) more = more k

-- A mirror is in a mode behind these replies, and shows these tuples.
pub record Behind (name : Bytes) (held : Held) (rs : List Reply) (mode : Mode) (These : Tuple → Type 0) : Type 0 where
  pub behind : Held
  pub passes : RepliesPass name held rs behind
  pub is : behind.mode ≡ mode
  pub shows : HoldsTextsOf behind These

answer_passes : (name : Bytes) (held : Held) (t : Tuple) → held.mode ≡ Listing → has_text held.texts (cells_text t)
    ≡ false
    → IsInOrder (put_in (cells_text t) held.texts)
    → RepliesPass name held (answer t ∷ []) (record { mode = Listing; texts = put_in (cells_text t) held.texts })
answer_passes name held t mode none order =
    let next : Held = record { mode = Listing; texts = put_in (cells_text t) held.texts } in
    let turn : turn_of name held.mode (answer t) ≡ Some (Listing, put (cells_text t)) =
    ap (λ (m : Mode). turn_of name m (answer t)) mode in (
      next,
      ap (may_turn held.texts) turn ∙ ap not none,
      subst (λ o. Turned held o next) (sym turn) (refl, (order, λ u. put_is (cells_text t) held.texts u)),
      refl,
    )

-- answers that weren't told before
pub answers_shown : (name : Bytes) (held : Held) (given told : List Tuple) → held.mode ≡ Listing
    → All IsSayableRow given → All IsSayableRow told → AreDifferent (given ++ told) → HoldsTextsOf held (Contains given)
    → Behind name held (map (λ t. answer t) told) Listing (Contains (given ++ told))
answers_shown name held given [] mode good fine apart shows = record {
  behind = held;
  passes = refl;
  is = mode;
  shows = subst (λ (ts : List Tuple). HoldsTextsOf held (Contains ts)) (sym (append-nil given)) shows;
}
answers_shown name held given (t ∷ told) mode good fine apart shows =
    let first = All-head IsSayableRow t told fine in
    let both = put_shown held Listing (Contains given) (Contains (given ++ t ∷ [])) t shows
    (λ u c. All-contains IsSayableRow given u good c) first (λ c. not_before given t told apart c)
    (λ u c. contains_last given t u c) (λ u c. last_contains given t u c) in
    let next : Held = record { mode = Listing; texts = put_in (cells_text t) held.texts } in
    let assoc : (given ++ t ∷ []) ++ told ≡ given ++ t ∷ told = append_assoc given (t ∷ []) told in
    let more = answers_shown name next (given ++ t ∷ []) told refl
    (All-append IsSayableRow given (t ∷ []) good (All-cons IsSayableRow t [] first (All-nil IsSayableRow)))
    (All-tail IsSayableRow t told fine) (subst AreDifferent (sym assoc) apart) both.1 in record {
      behind = more.behind;
      passes = passes_then name held next more.behind (answer t ∷ []) (map (λ u. answer u) told)
          (answer_passes name held t mode both.0 both.1.order) more.passes;
      is = more.is;
      shows = subst (λ (ts : List Tuple). HoldsTextsOf more.behind (Contains ts)) assoc more.shows;
    }

-- an idle mirror passes them over
pub answers_idle : (name : Bytes) (held : Held) (told : List Tuple) → held.mode ≡ Idle
    → RepliesPass name held (map (λ t. answer t) told) held
answers_idle name held [] mode = refl
answers_idle name held (t ∷ told) mode =
    passes_then name held held held (answer t ∷ []) (map (λ u. answer u) told)
    (stays name held (answer t)
    (ap (λ (m : Mode). turn_of name m (answer t)) mode ∙ ap (λ (m : Mode). Some (m, keep)) (sym mode)))
    (answers_idle name held told mode)

-- the cursor opens, and the mirror begins anew
pub opened_shown : (name : Bytes) (held : Held) → Behind name held (opened ∷ []) Listing (Contains [])
opened_shown name held =
    let next : Held = record { mode = Listing; texts = [] } in record {
      behind = next;
      passes = (next, refl, (refl, refl), refl);
      is = refl;
      shows = record {
        order = nothing_sorted;
        texts = λ u e. absurd cc;
        tuples = λ t c. absurd (nothing_there t c);
      };
    }

-- a stale cursor
pub stale_idles : (name : Bytes) (held : Held) (c relation : Bytes) (n : ℕ)
    → RepliesPass name held (stale c relation n ∷ []) (idle_with held)
stale_idles name held c relation n = idle_turn name held (stale c relation n) (by held.mode)
  where
    by : (m : Mode) → turn_of name m (stale c relation n) ≡ Some (Idle, keep)
    by Idle = refl
    by Listing = refl
    by Live = refl

-- the last line of a listing
pub more_stays : (name : Bytes) (held : Held) → (held.mode ≡ Idle) ⊎ (held.mode ≡ Listing)
    → RepliesPass name held (more_line ∷ []) held
more_stays name held (inl e) =
    stays name held more_line
    (ap (λ (m : Mode). turn_of name m more_line) e ∙ ap (λ (m : Mode). Some (m, keep)) (sym e))
more_stays name held (inr e) =
    stays name held more_line
    (ap (λ (m : Mode). turn_of name m more_line) e ∙ ap (λ (m : Mode). Some (m, keep)) (sym e))

pub last_stays : (name : Bytes) (held : Held) → (held.mode ≡ Idle) ⊎ (held.mode ≡ Live)
    → RepliesPass name held (last_line ∷ []) held
last_stays name held (inl e) =
    stays name held last_line
    (ap (λ (m : Mode). turn_of name m last_line) e ∙ ap (λ (m : Mode). Some (m, keep)) (sym e))
last_stays name held (inr e) =
    stays name held last_line
    (ap (λ (m : Mode). turn_of name m last_line) e ∙ ap (λ (m : Mode). Some (m, keep)) (sym e))

pub last_lives : (name : Bytes) (held : Held) → held.mode ≡ Listing
    → RepliesPass name held (last_line ∷ []) (record { mode = Live; texts = held.texts })
last_lives name held e =
    let next : Held = record { mode = Live; texts = held.texts } in
    let turn : turn_of name held.mode last_line ≡ Some (Live, keep) = ap (λ (m : Mode). turn_of name m last_line) e in
    (next, ap (may_turn held.texts) turn, subst (λ o. Turned held o next) (sym turn) (refl, refl), refl)

pub shows_with : (held : Held) (mode : Mode) (P : Tuple → Type 0) → HoldsTextsOf held P
    → HoldsTextsOf (record { mode = mode; texts = held.texts }) P
shows_with held mode P h = record { order = h.order; texts = h.texts; tuples = h.tuples }
