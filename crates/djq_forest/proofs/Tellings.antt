-- What has been told of a forest, and what one more telling, or one that is taken back, leaves of it.
use Rattle.std.specs.Prelude.{◌≡◌, ◌≢◌, ℕ, zero, suc, ◌+◌, ◌-◌, ◌<◌, Bool, true, false, cond, not, ◌==◌, ◌&&◌, ◌||◌}
use Rattle.std.specs.Prelude.{List, [], ◌∷◌, length, slice_index, slice_index_or, is_some, Option, None}
use Rattle.std.specs.List.{count_by}
use Rattle.std.proofs.lemmas.List.Sums.{sum_by-cons}
use Rattle.std.proofs.lemmas.List.{set_past}
use Rattle.std.proofs.Common.{refl, sym, ◌∙◌, ap, ap₂, subst, arith, inl, inr, length-set, get_or-set_same, get_or-set_other}
use Rattle.std.proofs.lemmas.Bool.{cases_eq, cases_lt, eq-eqb, ne_eqb, eqb-true}
use Rattle.djq_arena.specs.Chains.{IsOut, AreDistinctSlots}
use Rattle.djq_hypergraph.specs.Hypergraph.{member, one}
use Rattle.djq_tree.specs.Counts.{how_many}
use Rattle.djq_forest.specs.TieLists.{list_less}
use Rattle.djq_forest.specs.Forest.{Knot, Edge, Forest, nth_knot, nth_edge, slot_at, has_entry, missing_at, lives, tie_of, list_of}
use Rattle.djq_forest.specs.Shape.{is_need}
use Rattle.djq_forest.specs.Invariants.{AreEntries, IsForest, gives, is_empty, is_to_list, unmet}
use Rattle.djq_forest.specs.Telling.{lacks, IsToldSoFar, to_tell, also_told, told_less, with_missing, put_missing}
use Rattle.djq_forest.specs.Telling.{with_list, put_list, target, relist, tell_fed, untell_fed, tell_side, untell_side, CanBeTold, TellingKeeps}
use Rattle.djq_forest.proofs.Checking.{slot_within, knot_within}
use Rattle.djq_forest.proofs.TieChanges.{member_not, not_member}

-- ---- how many of the first numbers pass a test

pub many_same : (p q : ℕ → Bool) (n : ℕ) → ((i : ℕ) → i < n → p i ≡ q i) → how_many p n ≡ how_many q n
many_same p q zero h = refl
many_same p q (suc n) h =
    ap₂ (λ (a b : ℕ). a + b) (many_same p q n (λ i l. h i (omega arith))) (ap one (h n (omega arith)))

-- two tests that agree but for one number
many_but_one : (p q : ℕ → Bool) (n j : ℕ) → j < n → ((i : ℕ) → i < n → i ≢ j → p i ≡ q i)
    → how_many p n + one (q j) ≡ how_many q n + one (p j)
many_but_one p q zero j l h = absurd (omega arith)
many_but_one p q (suc n) j l h =
    elim (cases_eq j n) [
      | inl here ↦
          let rest = many_same p q n (λ i m. h i (omega arith) (λ e. omega (arith, m, e, here))) in
          let before : one (p j) ≡ one (p n) = ap (λ (i : ℕ). one (p i)) here in
          let after : one (q j) ≡ one (q n) = ap (λ (i : ℕ). one (q i)) here in
          omega (arith, rest, before, after)
      | inr other ↦
          let rest = many_but_one p q n j (omega arith) (λ i m away. h i (omega arith) away) in
          let last : one (p n) ≡ one (q n) = ap one (h n (omega arith) (λ e. other (sym e))) in
          omega (arith, rest, last)
    ]

pub many_some : (p : ℕ → Bool) (n j : ℕ) → j < n → p j ≡ true → 0 < how_many p n
many_some p zero j l h = absurd (omega arith)
many_some p (suc n) j l h =
    elim (cases_eq j n) [
      | inl here ↦ let is : one (p n) ≡ one true = ap one (ap p (sym here) ∙ h) in omega (arith, is)
      | inr other ↦ let k = many_some p n j (omega arith) h in omega (arith, k)
    ]

many_front : (p : ℕ → Bool) (n : ℕ) → how_many p (suc n) ≡ one (p 0) + how_many (λ i. p (suc i)) n
many_front p zero = omega arith
many_front p (suc n) = let k = many_front p n in omega (arith, k)

many_of : (p : Edge → Bool) (es : List Edge) → count_by p es ≡ how_many (λ j. p (nth_edge es j)) (length es)
many_of p [] = refl
many_of p (e ∷ es) = omega
    (arith, sum_by-cons (λ e. one (p e)) e es, many_of p es, many_front (λ j. p (nth_edge (e ∷ es) j)) (length es))

-- ---- a forest in which one edge was told of one slot, or not told any more

-- the forest g and what has been told of it are as those of f, but for what the edge j was told, and what it lists
record Retold (f g : Forest) (told more : ℕ → ℕ → Bool) (j : ℕ) : Type 0 where
  edge : j < length f.edges
  edges : length g.edges ≡ length f.edges
  entry : (k z : ℕ) → has_entry g.knots k z ≡ has_entry f.knots k z
  ties : (i z : ℕ) → tie_of (nth_edge g.edges i) z ≡ tie_of (nth_edge f.edges i) z
  feeds : (i : ℕ) → (nth_edge g.edges i).feeds ≡ (nth_edge f.edges i).feeds
  big : (i : ℕ) → (nth_edge g.edges i).big ≡ (nth_edge f.edges i).big
  small : (i : ℕ) → (nth_edge g.edges i).small ≡ (nth_edge f.edges i).small
  others : (i z : ℕ) → i ≢ j → more i z ≡ told i z
  lists : (i z : ℕ) → i ≢ j → list_of (nth_edge g.edges i) z ≡ list_of (nth_edge f.edges i) z
  there : (z : ℕ) → more j z ≡ true → has_entry f.knots (nth_edge f.edges j).big z ≡ true
  listed : (z y : ℕ) → member z (list_of (nth_edge g.edges j) y) ≡ ((tie_of (nth_edge f.edges j) z == y)
      && cond (nth_edge f.edges j).feeds (more j z) (has_entry f.knots (nth_edge f.edges j).big z))
  once : (y : ℕ) → AreDistinctSlots (list_of (nth_edge g.edges j) y)
  counts : (k z : ℕ) → has_entry f.knots k z ≡ true → missing_at g.knots k z + one (lacks f told k z j)
      ≡ missing_at f.knots k z + one (lacks g more k z j)

same_need : (f g : Forest) (told more : ℕ → ℕ → Bool) (j i k : ℕ) → Retold f g told more j
    → is_need k (nth_edge g.edges i) ≡ is_need k (nth_edge f.edges i)
same_need f g told more j i k r =
    ap (λ (b : Bool). cond b (nth_edge g.edges i).small (nth_edge g.edges i).big == k) (r.feeds i)
    ∙ ap₂ (λ (m n : ℕ). cond (nth_edge f.edges i).feeds m n == k) (r.small i) (r.big i)

retold_listed : (f g : Forest) (told more : ℕ → ℕ → Bool) (j i z y : ℕ) → IsToldSoFar f told → Retold f g told more j
    → i < length f.edges → member z (list_of (nth_edge g.edges i) y) ≡ ((tie_of (nth_edge f.edges i) z == y)
    && cond (nth_edge f.edges i).feeds (more i z) (has_entry f.knots (nth_edge f.edges i).big z))
retold_listed f g told more j i z y h r l =
    elim (cases_eq i j) [
      | inl here ↦ subst (λ (n : ℕ). member z (list_of (nth_edge g.edges n) y) ≡ ((tie_of (nth_edge f.edges n) z == y)
          && cond (nth_edge f.edges n).feeds (more n z) (has_entry f.knots (nth_edge f.edges n).big z))) (sym here) (r.listed z y)
      | inr other ↦ ap (λ (ns : List ℕ). member z ns) (r.lists i y other) ∙ h.listed i z y l
          ∙ ap (λ (b : Bool). (tie_of (nth_edge f.edges i) z == y)
          && cond (nth_edge f.edges i).feeds b (has_entry f.knots (nth_edge f.edges i).big z)) (sym (r.others i z other))
    ]

retold_lacks : (f g : Forest) (told more : ℕ → ℕ → Bool) (j i k z : ℕ) → Retold f g told more j → i ≢ j
    → lacks f told k z i ≡ lacks g more k z i
retold_lacks f g told more j i k z r other =
    ap₂ (λ (a b : Bool). a && not b) (sym (same_need f g told more j i k r))
    (ap (λ (b : Bool). cond b (not (is_empty (list_of (nth_edge f.edges i) z))) (told i z)) (sym (r.feeds i))
    ∙ ap₂ (λ (ns : List ℕ) (b : Bool). cond (nth_edge g.edges i).feeds (not (is_empty ns)) b) (sym (r.lists i z other))
    (sym (r.others i z other)))

retold : (f g : Forest) (told more : ℕ → ℕ → Bool) (j : ℕ) → IsToldSoFar f told → Retold f g told more j
    → IsToldSoFar g more
retold f g told more j h r = record {
  there = λ i z l t. r.entry (nth_edge g.edges i).big z ∙ ap (λ (n : ℕ). has_entry f.knots n z) (r.big i)
      ∙ elim (cases_eq i j) [
        | inl here ↦ subst (λ (n : ℕ). has_entry f.knots (nth_edge f.edges n).big z ≡ true) (sym here)
            (r.there z (ap (λ (n : ℕ). more n z) (sym here) ∙ t))
        | inr other ↦ h.there i z (let e = r.edges in omega arith) (sym (r.others i z other) ∙ t)
      ];
  listed = λ i z y l. retold_listed f g told more j i z y h r (let e = r.edges in omega arith)
      ∙ ap₂ (λ (n : ℕ) (w : Bool). (n == y) && w) (sym (r.ties i z))
      (ap₂ (λ (d w : Bool). cond d (more i z) w) (sym (r.feeds i))
      (sym (r.entry (nth_edge g.edges i).big z ∙ ap (λ (n : ℕ). has_entry f.knots n z) (r.big i))));
  once = λ i y l. elim (cases_eq i j) [
    | inl here ↦ subst (λ (n : ℕ). AreDistinctSlots (list_of (nth_edge g.edges n) y)) (sym here) (r.once y)
    | inr other ↦ subst AreDistinctSlots (sym (r.lists i y other)) (h.once i y (let e = r.edges in omega arith))
  ];
  missing = λ k z i.
      let there = sym (r.entry k z) ∙ i in
      let was = h.missing k z there in
      let counts = r.counts k z there in
      let but = many_but_one (lacks f told k z) (lacks g more k z) (length f.edges) j r.edge
      (λ n l other. retold_lacks f g told more j n k z r other) in
      let long = ap (λ (n : ℕ). how_many (lacks g more k z) n) r.edges in
      omega (arith, was, counts, but, long);
}

-- ---- one more, and one less

and_false : (b : Bool) → (b && false) ≡ false
and_false true = refl
and_false false = refl

not_not : (b : Bool) → not (not b) ≡ b
not_not true = refl
not_not false = refl

both_first : (a b : Bool) → (a && b) ≡ true → a ≡ true
both_first true b h = refl
both_first false b h = absurd cc

both_second : (a b : Bool) → (a && b) ≡ true → b ≡ true
both_second true b h = h
both_second false b h = absurd cc

not_also : (told : ℕ → ℕ → Bool) (j x i z : ℕ) → (i ≡ j → z ≡ x → ⊥) → also_told told j x i z ≡ told i z
not_also told j x i z h =
    elim (cases_eq i j) [
      | inl here ↦ rw (ne_eqb z x (h here), and_false (i == j)) refl
      | inr other ↦ rw (ne_eqb i j other) refl
    ]

is_also : (told : ℕ → ℕ → Bool) (j x : ℕ) → also_told told j x j x ≡ true
is_also told j x = rw (eq-eqb j j refl, eq-eqb x x refl) refl

not_less : (told : ℕ → ℕ → Bool) (j x i z : ℕ) → (i ≡ j → z ≡ x → ⊥) → told_less told j x i z ≡ told i z
not_less told j x i z h =
    elim (cases_eq i j) [
      | inl here ↦ rw (ne_eqb z x (h here), and_false (i == j)) refl
      | inr other ↦ rw (ne_eqb i j other) refl
    ]

is_less : (told : ℕ → ℕ → Bool) (j x : ℕ) → told_less told j x j x ≡ false
is_less told j x = rw (eq-eqb j j refl, eq-eqb x x refl) refl

also_there : (f : Forest) (told : ℕ → ℕ → Bool) (j x z : ℕ) (b : Bool) → IsToldSoFar f told → CanBeTold f told j x b
    → also_told told j x j z ≡ true → has_entry f.knots (nth_edge f.edges j).big z ≡ true
also_there f told j x z b h c t =
    elim (cases_eq z x) [
      | inl at ↦ ap (λ (n : ℕ). has_entry f.knots (nth_edge f.edges j).big n) at ∙ c.entry
      | inr away ↦ h.there j z c.edge (sym (not_also told j x j z (λ e k. away k)) ∙ t)
    ]

less_there : (f : Forest) (told : ℕ → ℕ → Bool) (j x z : ℕ) (b : Bool) → IsToldSoFar f told → CanBeTold f told j x b
    → told_less told j x j z ≡ true → has_entry f.knots (nth_edge f.edges j).big z ≡ true
less_there f told j x z b h c t = h.there j z c.edge (both_second (not ((j == j) && (z == x))) (told j z) t)

-- ---- what changes in knots and edges

same_slots : (ks : List Knot) (k x m i z : ℕ) → slot_at (put_missing ks k x m) i z ≡ slot_at ks i z
same_slots ks k x m i z =
    let changed = with_missing (nth_knot ks k) x m in
    elim (cases_lt k (length ks)) [
      | inl within ↦
          elim (cases_eq i k) [
            | inl here ↦ ap (λ (n : ℕ). slot_at (put_missing ks k x m) n z) here
                ∙ ap (λ (n : Knot). slice_index_or n.tuples z None) (get_or-set_same ks k changed _ within)
                ∙ ap (λ (n : ℕ). slot_at ks n z) (sym here)
            | inr other ↦ ap (λ (n : Knot). slice_index_or n.tuples z None) (get_or-set_other ks k i changed _ other)
          ]
      | inr past ↦ ap (λ (ls : List Knot). slot_at ls i z) (set_past ks k changed past)
    ]

pub same_entry : (ks : List Knot) (k x m i z : ℕ) → has_entry (put_missing ks k x m) i z ≡ has_entry ks i z
same_entry ks k x m i z = ap (λ (o : Option (List ℕ)). is_some o) (same_slots ks k x m i z)

pub missing_here : (ks : List Knot) (k x m : ℕ) → k < length ks → x < length (nth_knot ks k).missing
    → missing_at (put_missing ks k x m) k x ≡ m
missing_here ks k x m within inside =
    ap (λ (n : Knot). slice_index n.missing x) (get_or-set_same ks k (with_missing (nth_knot ks k) x m) _ within)
    ∙ get_or-set_same (nth_knot ks k).missing x m 0 inside

pub missing_other : (ks : List Knot) (k x m i z : ℕ) → k < length ks → (i ≡ k → z ≡ x → ⊥)
    → missing_at (put_missing ks k x m) i z ≡ missing_at ks i z
missing_other ks k x m i z within away =
    let changed = with_missing (nth_knot ks k) x m in
    elim (cases_eq i k) [
      | inl here ↦ ap (λ (n : ℕ). missing_at (put_missing ks k x m) n z) here
          ∙ ap (λ (n : Knot). slice_index n.missing z) (get_or-set_same ks k changed _ within)
          ∙ get_or-set_other (nth_knot ks k).missing x z m 0 (away here)
          ∙ ap (λ (n : ℕ). missing_at ks n z) (sym here)
      | inr other ↦ ap (λ (n : Knot). slice_index n.missing z) (get_or-set_other ks k i changed _ other)
    ]

pub same_part : {B : Type 0} (g : Edge → B) (es : List Edge) (j y : ℕ) (xs : List ℕ) (i : ℕ)
    → ((e : Edge) → g (with_list e y xs) ≡ g e) → g (nth_edge (put_list es j y xs) i) ≡ g (nth_edge es i)
same_part g es j y xs i h =
    let changed = with_list (nth_edge es j) y xs in
    elim (cases_lt j (length es)) [
      | inl within ↦
          elim (cases_eq i j) [
            | inl here ↦ ap (λ (n : ℕ). g (nth_edge (put_list es j y xs) n)) here
                ∙ ap g (get_or-set_same es j changed _ within) ∙ h (nth_edge es j)
                ∙ ap (λ (n : ℕ). g (nth_edge es n)) (sym here)
            | inr other ↦ ap g (get_or-set_other es j i changed _ other)
          ]
      | inr past ↦ ap (λ (ls : List Edge). g (nth_edge ls i)) (set_past es j changed past)
    ]

list_here : (es : List Edge) (j y : ℕ) (xs : List ℕ) → j < length es → y < length (nth_edge es j).lists
    → list_of (nth_edge (put_list es j y xs) j) y ≡ xs
list_here es j y xs within inside =
    ap (λ (d : Edge). list_of d y) (get_or-set_same es j (with_list (nth_edge es j) y xs) _ within)
    ∙ get_or-set_same (nth_edge es j).lists y xs [] inside

list_other : (es : List Edge) (j y : ℕ) (xs : List ℕ) (i z : ℕ) → j < length es → (i ≡ j → z ≡ y → ⊥)
    → list_of (nth_edge (put_list es j y xs) i) z ≡ list_of (nth_edge es i) z
list_other es j y xs i z within away =
    let changed = with_list (nth_edge es j) y xs in
    elim (cases_eq i j) [
      | inl here ↦ ap (λ (n : ℕ). list_of (nth_edge (put_list es j y xs) n) z) here
          ∙ ap (λ (d : Edge). list_of d z) (get_or-set_same es j changed _ within)
          ∙ get_or-set_other (nth_edge es j).lists y z xs [] (away here)
          ∙ ap (λ (n : ℕ). list_of (nth_edge es n) z) (sym here)
      | inr other ↦ ap (λ (d : Edge). list_of d z) (get_or-set_other es j i changed _ other)
    ]

pub turned_entry : (b : Bool) (ks : List Knot) (k x m i z : ℕ) → has_entry (cond b (put_missing ks k x m) ks) i z ≡ has_entry ks i z
turned_entry true ks k x m i z = same_entry ks k x m i z
turned_entry false ks k x m i z = refl

target_inside : (f : Forest) (told : ℕ → ℕ → Bool) (j x : ℕ) (b : Bool) → CanBeTold f told j x b
    → target f j x < length (nth_edge f.edges j).lists
target_inside f told j x b c =
    let inside = slot_within f.knots (nth_edge f.edges j).small (target f j x) c.tied in
    let long = c.along.lists j c.edge in
    omega (arith, inside, long)

-- ---- by an edge that has a side

side_lacks : (f : Forest) (told : ℕ → ℕ → Bool) (k z j : ℕ) → (nth_edge f.edges j).feeds ≡ false
    → lacks f told k z j ≡ (((nth_edge f.edges j).big == k) && not (told j z))
side_lacks f told k z j side = ap (λ (b : Bool). (cond b (nth_edge f.edges j).small (nth_edge f.edges j).big == k)
    && not (cond b (not (is_empty (list_of (nth_edge f.edges j) z))) (told j z))) side

here_and : (a b : Bool) → a ≡ true → (a && b) ≡ b
here_and true b h = refl
here_and false b h = absurd cc

off_and : (a b : Bool) → a ≡ false → (a && b) ≡ false
off_and true b h = absurd cc
off_and false b h = refl

side_counts : (f : Forest) (told more : ℕ → ℕ → Bool) (j x m : ℕ) (b : Bool) (k z : ℕ) → CanBeTold f told j x b
    → (nth_edge f.edges j).feeds ≡ false → ((y : ℕ) → y ≢ x → more j y ≡ told j y)
    → m + one (not (told j x)) ≡ missing_at f.knots (nth_edge f.edges j).big x + one (not (more j x))
    → missing_at (put_missing f.knots (nth_edge f.edges j).big x m) k z + one (lacks f told k z j)
    ≡ missing_at f.knots k z + one (lacks f more k z j)
side_counts f told more j x m b k z c side alike is =
    let K = (nth_edge f.edges j).big in
    let within = knot_within f.knots K x c.entry in
    let inside = subst (λ (n : ℕ). x < n) (sym (c.along.missing K)) (slot_within f.knots K x c.entry) in
    let before = side_lacks f told k z j side in
    let behind = side_lacks f more k z j side in
    elim (cases_eq K k) [
      | inl here ↦
          elim (cases_eq z x) [
            | inl at ↦
                let new = ap₂ (λ (i y : ℕ). missing_at (put_missing f.knots K x m) i y) (sym here) at
                ∙ missing_here f.knots K x m within inside in
                let old = ap₂ (λ (i y : ℕ). missing_at f.knots i y) (sym here) at in
                let off = ap one (before ∙ here_and (K == k) (not (told j z)) (eq-eqb K k here)
                ∙ ap (λ (n : ℕ). not (told j n)) at) in
                let on = ap one (behind ∙ here_and (K == k) (not (more j z)) (eq-eqb K k here)
                ∙ ap (λ (n : ℕ). not (more j n)) at) in
                omega (arith, is, new, old, off, on)
            | inr away ↦
                let kept = missing_other f.knots K x m k z within (λ e n. away n) in
                let same = ap one (before ∙ ap (λ (b : Bool). (K == k) && not b) (sym (alike z away)) ∙ sym behind) in
                omega (arith, kept, same)
          ]
      | inr other ↦
          let kept = missing_other f.knots K x m k z within (λ e n. other (sym e)) in
          let same = ap one (before ∙ off_and (K == k) (not (told j z)) (ne_eqb K k other)
          ∙ sym (behind ∙ off_and (K == k) (not (more j z)) (ne_eqb K k other))) in
          omega (arith, kept, same)
    ]

-- the forest with another number of unmet needs of the entry in slot x of the edge j's big knot
abbrev renumbered : Forest → ℕ → ℕ → ℕ → Forest
renumbered f j x m = record { knots = put_missing f.knots (nth_edge f.edges j).big x m; edges = f.edges; stamp = f.stamp }

side_alike : (feeds s t a : Bool) → feeds ≡ false → cond feeds s a ≡ cond feeds t a
side_alike feeds s t a h = rw h refl

retold_side : (f : Forest) (told more : ℕ → ℕ → Bool) (j x m : ℕ) (b : Bool) → IsToldSoFar f told → CanBeTold f told j x b
    → (nth_edge f.edges j).feeds ≡ false → ((i z : ℕ) → i ≢ j → more i z ≡ told i z)
    → ((y : ℕ) → y ≢ x → more j y ≡ told j y)
    → ((z : ℕ) → more j z ≡ true → has_entry f.knots (nth_edge f.edges j).big z ≡ true)
    → m + one (not (told j x)) ≡ missing_at f.knots (nth_edge f.edges j).big x + one (not (more j x))
    → IsToldSoFar (renumbered f j x m) more
retold_side f told more j x m b h c side others alike there is = retold f (renumbered f j x m) told more j h (record {
  edge = c.edge;
  edges = refl;
  entry = λ k z. same_entry f.knots (nth_edge f.edges j).big x m k z;
  ties = λ i z. refl;
  feeds = λ i. refl;
  big = λ i. refl;
  small = λ i. refl;
  others = others;
  lists = λ i z n. refl;
  there = there;
  listed = λ z y. h.listed j z y c.edge
      ∙ ap (λ (b : Bool). (tie_of (nth_edge f.edges j) z == y) && b)
      (side_alike (nth_edge f.edges j).feeds (told j z) (more j z) (has_entry f.knots (nth_edge f.edges j).big z) side);
  once = λ y. h.once j y c.edge;
  counts = λ k z i. side_counts f told more j x m b k z c side alike is;
})

-- ---- by an edge that feeds

fed_lacks : (f : Forest) (told : ℕ → ℕ → Bool) (k z j : ℕ) → (nth_edge f.edges j).feeds ≡ true
    → lacks f told k z j ≡ (((nth_edge f.edges j).small == k) && is_empty (list_of (nth_edge f.edges j) z))
fed_lacks f told k z j feeds =
    ap (λ (b : Bool). (cond b (nth_edge f.edges j).small (nth_edge f.edges j).big == k)
    && not (cond b (not (is_empty (list_of (nth_edge f.edges j) z))) (told j z))) feeds
    ∙ ap (λ (b : Bool). ((nth_edge f.edges j).small == k) && b) (not_not (is_empty (list_of (nth_edge f.edges j) z)))

turned_counts : (turns : Bool) (ks : List Knot) (k x m n : ℕ) (was is : Bool) → k < length ks
    → x < length (nth_knot ks k).missing → n ≡ missing_at ks k x
    → (turns ≡ true → m + one was ≡ n + one is) → (turns ≡ false → was ≡ is)
    → missing_at (cond turns (put_missing ks k x m) ks) k x + one was ≡ n + one is
turned_counts true ks k x m n was is within inside now on off =
    let new = missing_here ks k x m within inside in let same = on refl in omega (arith, new, same)
turned_counts false ks k x m n was is within inside now on off =
    let same = ap one (off refl) in omega (arith, now, same)

pub turned_other : (turns : Bool) (ks : List Knot) (k x m i z : ℕ) → k < length ks → (i ≡ k → z ≡ x → ⊥)
    → missing_at (cond turns (put_missing ks k x m) ks) i z ≡ missing_at ks i z
turned_other true ks k x m i z within away = missing_other ks k x m i z within away
turned_other false ks k x m i z within away = refl

fed_counts : (f : Forest) (told more : ℕ → ℕ → Bool) (j x : ℕ) (xs : List ℕ) (turns : Bool) (m : ℕ) (b : Bool) (k z : ℕ)
    → CanBeTold f told j x b → (nth_edge f.edges j).feeds ≡ true
    → (turns ≡ true → m + one (is_empty (list_of (nth_edge f.edges j) (target f j x)))
    ≡ missing_at f.knots (nth_edge f.edges j).small (target f j x) + one (is_empty xs))
    → (turns ≡ false → is_empty (list_of (nth_edge f.edges j) (target f j x)) ≡ is_empty xs)
    → missing_at (relist f j x xs turns m).knots k z + one (lacks f told k z j)
    ≡ missing_at f.knots k z + one (lacks (relist f j x xs turns m) more k z j)
fed_counts f told more j x xs turns m b k z c feeds on off =
    let E = nth_edge f.edges j in
    let t = target f j x in
    let g = relist f j x xs turns m in
    let within = knot_within f.knots E.small t c.tied in
    let inside = subst (λ (n : ℕ). t < n) (sym (c.along.missing E.small)) (slot_within f.knots E.small t c.tied) in
    let before = fed_lacks f told k z j feeds in
    let behind : lacks g more k z j ≡ ((E.small == k) && is_empty (list_of (nth_edge g.edges j) z)) =
    fed_lacks g more k z j (same_part (λ e. e.feeds) f.edges j t xs j (λ e. refl) ∙ feeds)
    ∙ ap (λ (n : ℕ). (n == k) && is_empty (list_of (nth_edge g.edges j) z))
    (same_part (λ e. e.small) f.edges j t xs j (λ e. refl)) in
    elim (cases_eq E.small k) [
      | inl here ↦
          elim (cases_eq z t) [
            | inl at ↦
                let counts = turned_counts turns f.knots E.small t m (missing_at f.knots E.small t)
                (is_empty (list_of E t)) (is_empty xs) within inside refl on off in
                let new = ap₂ (λ (i y : ℕ). missing_at g.knots i y) (sym here) at in
                let old = ap₂ (λ (i y : ℕ). missing_at f.knots i y) (sym here) at in
                let was = ap one (before ∙ here_and (E.small == k) _ (eq-eqb E.small k here)
                ∙ ap (λ (n : ℕ). is_empty (list_of E n)) at) in
                let is = ap one (behind ∙ here_and (E.small == k) _ (eq-eqb E.small k here)
                ∙ ap (λ (n : ℕ). is_empty (list_of (nth_edge g.edges j) n)) at
                ∙ ap is_empty (list_here f.edges j t xs c.edge (target_inside f told j x b c))) in
                omega (arith, counts, new, old, was, is)
            | inr away ↦
                let kept = turned_other turns f.knots E.small t m k z within (λ e n. away n) in
                let same = ap one (before ∙ ap (λ (ns : List ℕ). (E.small == k) && is_empty ns)
                (sym (list_other f.edges j t xs j z c.edge (λ e n. away n))) ∙ sym behind) in
                omega (arith, kept, same)
          ]
      | inr other ↦
          let kept = turned_other turns f.knots E.small t m k z within (λ e n. other (sym e)) in
          let same = ap one (before ∙ off_and (E.small == k) _ (ne_eqb E.small k other)
          ∙ sym (behind ∙ off_and (E.small == k) _ (ne_eqb E.small k other))) in
          omega (arith, kept, same)
    ]

-- where slot x isn't tied, it doesn't count whether it was told of
elsewhere : (tie y : ℕ) (a b : Bool) → (tie ≡ y → a ≡ b) → ((tie == y) && a) ≡ ((tie == y) && b)
elsewhere tie y a b h =
    elim (cases_eq tie y) [
      | inl here ↦ ap (λ (c : Bool). (tie == y) && c) (h here)
      | inr other ↦ off_and (tie == y) a (ne_eqb tie y other) ∙ sym (off_and (tie == y) b (ne_eqb tie y other))
    ]

relisted_members : (f : Forest) (told more : ℕ → ℕ → Bool) (j x : ℕ) (xs : List ℕ) (turns : Bool) (m : ℕ) (b : Bool) (z y : ℕ)
    → IsToldSoFar f told → CanBeTold f told j x b → (nth_edge f.edges j).feeds ≡ true
    → ((y : ℕ) → y ≢ x → more j y ≡ told j y)
    → ((z : ℕ) → member z xs ≡ ((tie_of (nth_edge f.edges j) z == target f j x) && more j z))
    → member z (list_of (nth_edge (relist f j x xs turns m).edges j) y) ≡ ((tie_of (nth_edge f.edges j) z == y) && more j z)
relisted_members f told more j x xs turns m b z y h c feeds alike here =
    let E = nth_edge f.edges j in
    let t = target f j x in
    elim (cases_eq y t) [
      | inl at ↦
          ap (λ (n : ℕ). member z (list_of (nth_edge (relist f j x xs turns m).edges j) n)) at
          ∙ ap (λ (ns : List ℕ). member z ns) (list_here f.edges j t xs c.edge (target_inside f told j x b c)) ∙ here z
          ∙ ap (λ (n : ℕ). (tie_of E z == n) && more j z) (sym at)
      | inr away ↦
          ap (λ (ns : List ℕ). member z ns) (list_other f.edges j t xs j y c.edge (λ e n. away n)) ∙ h.listed j z y c.edge
          ∙ ap (λ (d : Bool). (tie_of E z == y) && cond d (told j z) (has_entry f.knots E.big z)) feeds
          ∙ elsewhere (tie_of E z) y (told j z) (more j z)
          (λ tied. sym (alike z (λ e. away (sym tied ∙ ap (λ (n : ℕ). tie_of E n) e))))
    ]

relisted_once : (f : Forest) (told : ℕ → ℕ → Bool) (j x : ℕ) (xs : List ℕ) (turns : Bool) (m : ℕ) (b : Bool) (y : ℕ)
    → IsToldSoFar f told → CanBeTold f told j x b → AreDistinctSlots xs
    → AreDistinctSlots (list_of (nth_edge (relist f j x xs turns m).edges j) y)
relisted_once f told j x xs turns m b y h c once =
    let t = target f j x in
    elim (cases_eq y t) [
      | inl at ↦ subst (λ (n : ℕ). AreDistinctSlots (list_of (nth_edge (relist f j x xs turns m).edges j) n)) (sym at)
          (subst AreDistinctSlots (sym (list_here f.edges j t xs c.edge (target_inside f told j x b c))) once)
      | inr away ↦ subst AreDistinctSlots (sym (list_other f.edges j t xs j y c.edge (λ e n. away n))) (h.once j y c.edge)
    ]

retold_fed : (f : Forest) (told more : ℕ → ℕ → Bool) (j x : ℕ) (xs : List ℕ) (turns : Bool) (m : ℕ) (b : Bool)
    → IsToldSoFar f told → CanBeTold f told j x b → (nth_edge f.edges j).feeds ≡ true
    → ((i z : ℕ) → i ≢ j → more i z ≡ told i z) → ((y : ℕ) → y ≢ x → more j y ≡ told j y)
    → ((z : ℕ) → more j z ≡ true → has_entry f.knots (nth_edge f.edges j).big z ≡ true)
    → ((z : ℕ) → member z xs ≡ ((tie_of (nth_edge f.edges j) z == target f j x) && more j z)) → AreDistinctSlots xs
    → (turns ≡ true → m + one (is_empty (list_of (nth_edge f.edges j) (target f j x)))
    ≡ missing_at f.knots (nth_edge f.edges j).small (target f j x) + one (is_empty xs))
    → (turns ≡ false → is_empty (list_of (nth_edge f.edges j) (target f j x)) ≡ is_empty xs)
    → IsToldSoFar (relist f j x xs turns m) more
retold_fed f told more j x xs turns m b h c feeds others alike there members once on off =
    let t = target f j x in
    retold f (relist f j x xs turns m) told more j h (record {
      edge = c.edge;
      edges = length-set f.edges j (with_list (nth_edge f.edges j) t xs);
      entry = λ k z. turned_entry turns f.knots (nth_edge f.edges j).small t m k z;
      ties = λ i z. same_part (λ e. tie_of e z) f.edges j t xs i (λ e. refl);
      feeds = λ i. same_part (λ e. e.feeds) f.edges j t xs i (λ e. refl);
      big = λ i. same_part (λ e. e.big) f.edges j t xs i (λ e. refl);
      small = λ i. same_part (λ e. e.small) f.edges j t xs i (λ e. refl);
      others = others;
      lists = λ i z n. list_other f.edges j t xs i z c.edge (λ e k. n e);
      there = there;
      listed = λ z y. relisted_members f told more j x xs turns m b z y h c feeds alike members
          ∙ ap (λ (d : Bool). (tie_of (nth_edge f.edges j) z == y) && cond d (more j z) (has_entry f.knots (nth_edge f.edges j).big z)) (sym feeds);
      once = λ y. relisted_once f told j x xs turns m b y h c once;
      counts = λ k z i. fed_counts f told more j x xs turns m b k z c feeds on off;
    })

-- ---- the list with one more, and with one less

apart_more : (x : ℕ) (xs : List ℕ) → IsOut x xs → AreDistinctSlots xs → AreDistinctSlots (x ∷ xs)
unfolding AreDistinctSlots
apart_more x xs h k = (h, k)

out_of_less : (z x : ℕ) (xs : List ℕ) → IsOut z xs → IsOut z (list_less x xs)
unfolding IsOut
out_of_less z x [] h = tt
out_of_less z x (y ∷ ys) h =
    elim (cases_eq x y) [
      | inl here ↦ rw (eq-eqb x y here) h.1
      | inr other ↦ rw (ne_eqb x y other) (h.0, out_of_less z x ys h.1)
    ]

apart_less : (x : ℕ) (xs : List ℕ) → AreDistinctSlots xs → AreDistinctSlots (list_less x xs)
unfolding AreDistinctSlots
apart_less x [] h = tt
apart_less x (y ∷ ys) h =
    elim (cases_eq x y) [
      | inl here ↦ rw (eq-eqb x y here) h.1
      | inr other ↦ rw (ne_eqb x y other) (out_of_less y x ys h.0, apart_less x ys h.1)
    ]

member_less : (z x : ℕ) (xs : List ℕ) → AreDistinctSlots xs → member z (list_less x xs) ≡ (not (z == x) && member z xs)
unfolding AreDistinctSlots
member_less z x [] h = sym (and_false (not (z == x)))
member_less z x (y ∷ ys) h =
    elim (cases_eq x y) [
      | inl here ↦
          elim (cases_eq z y) [
            | inl at ↦ rw (eq-eqb x y here, eq-eqb z x (at ∙ sym here))
                (ap (λ (n : ℕ). member n ys) at ∙ not_member y ys h.0)
            | inr away ↦ rw (eq-eqb x y here, ne_eqb z x (λ e. away (e ∙ here)), ne_eqb z y away) refl
          ]
      | inr other ↦
          elim (cases_eq z y) [
            | inl at ↦ rw (ne_eqb x y other, eq-eqb z y at, ne_eqb z x (λ e. other (sym e ∙ at))) refl
            | inr away ↦ rw (ne_eqb x y other, ne_eqb z y away) (member_less z x ys h.1)
          ]
    ]

member_first : (z x : ℕ) (xs : List ℕ) (tie y : ℕ) (t : Bool) → (z ≡ x → tie ≡ y)
    → member z xs ≡ ((tie == y) && t) → member z (x ∷ xs) ≡ ((tie == y) && ((z == x) || t))
member_first z x xs tie y t at is =
    elim (cases_eq z x) [
      | inl here ↦ rw (eq-eqb z x here, eq-eqb tie y (at here)) refl
      | inr other ↦ rw (ne_eqb z x other) is
    ]

and_turn : (a b c : Bool) → (a && (b && c)) ≡ (b && (a && c))
and_turn true true c = refl
and_turn true false c = refl
and_turn false true c = refl
and_turn false false c = refl

-- what the list of the slot that x is tied to has
target_members : (f : Forest) (told : ℕ → ℕ → Bool) (j x z : ℕ) (b : Bool) → IsToldSoFar f told → CanBeTold f told j x b
    → (nth_edge f.edges j).feeds ≡ true → member z (list_of (nth_edge f.edges j) (target f j x))
    ≡ ((tie_of (nth_edge f.edges j) z == target f j x) && told j z)
target_members f told j x z b h c feeds = h.listed j z (target f j x) c.edge
    ∙ ap (λ (d : Bool). (tie_of (nth_edge f.edges j) z == target f j x)
    && cond d (told j z) (has_entry f.knots (nth_edge f.edges j).big z)) feeds

full_by : (x : ℕ) (xs : List ℕ) → member x xs ≡ true → is_empty xs ≡ false
full_by x [] h = absurd cc
full_by x (y ∷ ys) h = refl

-- ---- the four tellings

told_fed : (f : Forest) (told : ℕ → ℕ → Bool) (j x : ℕ) → IsToldSoFar f told → CanBeTold f told j x false
    → (nth_edge f.edges j).feeds ≡ true → IsToldSoFar (tell_fed f j x) (also_told told j x)
told_fed f told j x h c feeds =
    let E = nth_edge f.edges j in
    let t = target f j x in
    let out : member x (list_of E t) ≡ false = target_members f told j x x false h c feeds ∙ rw (c.was_told, and_false (t == t)) refl in
    retold_fed f told (also_told told j x) j x (x ∷ list_of E t) (is_empty (list_of E t)) (missing_at f.knots E.small t - 1) false
    h c feeds (λ i z n. not_also told j x i z (λ e k. n e)) (λ y n. not_also told j x j y (λ e k. n k))
    (λ z m. also_there f told j x z false h c m)
    (λ z. member_first z x (list_of E t) (tie_of E z) t (told j z) (λ e. ap (λ (n : ℕ). tie_of E n) e)
    (target_members f told j x z false h c feeds)
    ∙ ap (λ (b : Bool). (tie_of E z == t) && ((b && (z == x)) || told j z)) (sym (eq-eqb j j refl)))
    (apart_more x (list_of E t) (member_not x (list_of E t) out) (h.once j t c.edge))
    (λ empty.
    let lacking : lacks f told E.small t j ≡ true = fed_lacks f told E.small t j feeds ∙ rw (eq-eqb E.small E.small refl, empty) refl in
    let some = many_some (lacks f told E.small t) (length f.edges) j c.edge lacking in
    let was = h.missing E.small t c.tied in
    let one_now : one (is_empty (list_of E t)) ≡ one true = ap one empty in
    omega (arith, some, was, one_now))
    (λ full. full)

untold_fed : (f : Forest) (told : ℕ → ℕ → Bool) (j x : ℕ) → IsToldSoFar f told → CanBeTold f told j x true
    → (nth_edge f.edges j).feeds ≡ true → IsToldSoFar (untell_fed f j x) (told_less told j x)
untold_fed f told j x h c feeds =
    let E = nth_edge f.edges j in
    let t = target f j x in
    let in_list : member x (list_of E t) ≡ true = target_members f told j x x true h c feeds ∙ rw (c.was_told, eq-eqb t t refl) refl in
    let full : is_empty (list_of E t) ≡ false = full_by x (list_of E t) in_list in
    retold_fed f told (told_less told j x) j x (list_less x (list_of E t)) (is_empty (list_less x (list_of E t)))
    (missing_at f.knots E.small t + 1) true h c feeds
    (λ i z n. not_less told j x i z (λ e k. n e)) (λ y n. not_less told j x j y (λ e k. n k))
    (λ z m. less_there f told j x z true h c m)
    (λ z. member_less z x (list_of E t) (h.once j t c.edge)
    ∙ ap (λ (b : Bool). not (z == x) && b) (target_members f told j x z true h c feeds)
    ∙ and_turn (not (z == x)) (tie_of E z == t) (told j z)
    ∙ ap (λ (b : Bool). (tie_of E z == t) && (not (b && (z == x)) && told j z)) (sym (eq-eqb j j refl)))
    (apart_less x (list_of E t) (h.once j t c.edge))
    (λ empty.
    let was : one (is_empty (list_of E t)) ≡ one false = ap one full in
    let is : one (is_empty (list_less x (list_of E t))) ≡ one true = ap one empty in
    omega (arith, was, is))
    (λ still. full ∙ sym still)

told_side : (f : Forest) (told : ℕ → ℕ → Bool) (j x : ℕ) → IsToldSoFar f told → CanBeTold f told j x false
    → (nth_edge f.edges j).feeds ≡ false → IsToldSoFar (tell_side f j x) (also_told told j x)
told_side f told j x h c side =
    let E = nth_edge f.edges j in
    let lacking : lacks f told E.big x j ≡ true = side_lacks f told E.big x j side
    ∙ rw (eq-eqb E.big E.big refl, c.was_told) refl in
    let some = many_some (lacks f told E.big x) (length f.edges) j c.edge lacking in
    let was = h.missing E.big x c.entry in
    let before : one (not (told j x)) ≡ one true = ap (λ (b : Bool). one (not b)) c.was_told in
    let behind : one (not (also_told told j x j x)) ≡ one false = ap (λ (b : Bool). one (not b)) (is_also told j x) in
    retold_side f told (also_told told j x) j x (missing_at f.knots E.big x - 1) false h c side
    (λ i z n. not_also told j x i z (λ e k. n e)) (λ y n. not_also told j x j y (λ e k. n k))
    (λ z m. also_there f told j x z false h c m) (omega (arith, some, was, before, behind))

untold_side : (f : Forest) (told : ℕ → ℕ → Bool) (j x : ℕ) → IsToldSoFar f told → CanBeTold f told j x true
    → (nth_edge f.edges j).feeds ≡ false → IsToldSoFar (untell_side f j x) (told_less told j x)
untold_side f told j x h c side =
    let E = nth_edge f.edges j in
    let before : one (not (told j x)) ≡ one false = ap (λ (b : Bool). one (not b)) c.was_told in
    let behind : one (not (told_less told j x j x)) ≡ one true = ap (λ (b : Bool). one (not b)) (is_less told j x) in
    retold_side f told (told_less told j x) j x (missing_at f.knots E.big x + 1) true h c side
    (λ i z n. not_less told j x i z (λ e k. n e)) (λ y n. not_less told j x j y (λ e k. n k))
    (λ z m. less_there f told j x z true h c m) (omega (arith, before, behind))

-- ---- a forest has been told all

all_listed : (feeds a m s : Bool) → cond feeds (a && m) a ≡ cond feeds (a && cond feeds (a && m) s) a
all_listed true true m s = refl
all_listed true false m s = refl
all_listed false a m s = refl

all_lacks : (need feeds l a s : Bool) (m : Bool) → (need ≡ true → feeds ≡ false → a ≡ true)
    → (need && not (cond feeds l s)) ≡ (need && not (cond feeds l (a && cond feeds m s)))
all_lacks true true l a s m h = refl
all_lacks true false l a s m h = rw (h refl refl) refl
all_lacks false feeds l a s m h = refl

need_big : (e : Edge) (k : ℕ) → is_need k e ≡ true → e.feeds ≡ false → e.big ≡ k
need_big e k need side = eqb-true e.big k (ap (λ (b : Bool). cond b e.small e.big == k) (sym side) ∙ need)

listed_is : (f : Forest) (j x y : ℕ) → is_to_list f.knots (nth_edge f.edges j) x y ≡ ((tie_of (nth_edge f.edges j) x == y)
    && cond (nth_edge f.edges j).feeds (to_tell f j x) (has_entry f.knots (nth_edge f.edges j).big x))
listed_is f j x y = ap (λ (b : Bool). (tie_of (nth_edge f.edges j) x == y) && b)
    (all_listed (nth_edge f.edges j).feeds (has_entry f.knots (nth_edge f.edges j).big x)
    (missing_at f.knots (nth_edge f.edges j).big x == 0)
    (lives f.knots (nth_edge f.edges j).small (tie_of (nth_edge f.edges j) x)))

unmet_is : (f : Forest) (k x : ℕ) → has_entry f.knots k x ≡ true
    → unmet f k x ≡ how_many (lacks f (to_tell f) k x) (length f.edges)
unmet_is f k x i = many_of (λ e. is_need k e && not (gives f.knots e x)) f.edges
    ∙ many_same _ _ (length f.edges) (λ j l. all_lacks (is_need k (nth_edge f.edges j)) (nth_edge f.edges j).feeds
    (not (is_empty (list_of (nth_edge f.edges j) x))) (has_entry f.knots (nth_edge f.edges j).big x)
    (lives f.knots (nth_edge f.edges j).small (tie_of (nth_edge f.edges j) x)) (lives f.knots (nth_edge f.edges j).big x)
    (λ need side. ap (λ (n : ℕ). has_entry f.knots n x) (need_big (nth_edge f.edges j) k need side) ∙ i))

all_told : (f : Forest) → IsForest f → IsToldSoFar f (to_tell f)
all_told f h = record {
  there = λ j x l t. both_first (has_entry f.knots (nth_edge f.edges j).big x) _ t;
  listed = λ j x y l. h.listed j x y l ∙ listed_is f j x y;
  once = h.once;
  missing = λ k x i. h.missing k x i ∙ unmet_is f k x i;
}

settled : (f : Forest) → AreEntries f → IsToldSoFar f (to_tell f) → IsForest f
settled f entries h = record {
  entries = entries;
  listed = λ j x y l. h.listed j x y l ∙ sym (listed_is f j x y);
  once = h.once;
  missing = λ k x i. h.missing k x i ∙ sym (unmet_is f k x i);
}

pub tellings : TellingKeeps
tellings = record {
  forest = all_told;
  settled = settled;
  fed = told_fed;
  side = told_side;
  fed_undone = untold_fed;
  side_undone = untold_side;
}
