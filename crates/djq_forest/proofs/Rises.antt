-- An entry that came to live rises: what hangs on it is told, step by step.
use Rattle.std.specs.Prelude.{◌≡◌, ℕ, ◌<◌, Bool, true, false, cond, not, ◌==◌, ◌&&◌, ◌||◌, List, length}
use Rattle.std.specs.Prelude.{slice_index, slice_index_or, Option, None}
use Rattle.std.proofs.Common.{refl, sym, ◌∙◌, ap, ap₂, subst, arith, inl, inr, eq-eqb, length-set}
use Rattle.std.proofs.Common.{get_or-set_same, get_or-set_other}
use Rattle.std.proofs.lemmas.Bool.{cases_eq, cases_lt, ne_eqb}
use Rattle.std.proofs.lemmas.List.{set_past}
use Rattle.djq_forest.specs.Forest.{Knot, Edge, Forest, nth_knot, nth_edge, has_entry, missing_at, lives}
use Rattle.djq_forest.specs.Shape.{AreAlong, lower}
use Rattle.djq_forest.specs.Invariants.{AreEntries}
use Rattle.djq_forest.specs.Telling.{to_tell, target, tell_fed, tell_side, with_missing, put_missing, put_list, with_list, relist}
use Rattle.djq_forest.specs.Pending.{source_knot, source_slot, is_source, told_but, IsToldBut, pending_after, comes_by_fed, comes_by_side}
use Rattle.djq_forest.specs.Rising.{IsPendingAt, HasSameEntries, LivesOn, IsDue, IsPendingOf, less_at, less_of, HasTold, HasRisen}
use Rattle.djq_forest.proofs.Alike.{EntriesAlike, entries_alike, edge_entry}
use Rattle.djq_forest.proofs.Tellings.{same_part}
use Rattle.djq_forest.proofs.Pendings.{Moves, moved_knot, moved_slot, of_life, life_there, life_others, life_here, told_same}
use Rattle.djq_forest.proofs.Pendings.{pending_fed, pending_side, life_fed, fresh_fed, life_side, fresh_side, apart_fed, apart_side}
use Rattle.djq_forest.proofs.Pendings.{left_is, right_is, or_yes, and_no, and_all, at_step, no_source, fed_moves, side_moves}

-- ---- the same entries

pub same_alike : (f g : Forest) → HasSameEntries f g → EntriesAlike f g
same_alike f g h = record {
  knots = h.knots;
  edges = h.edges;
  longer = λ k. let e = ap (λ (ts : List (Option (List ℕ))). length ts) (h.tuples k) in omega (arith, e);
  leaf = h.leaf;
  width = h.width;
  rank = h.rank;
  slot = λ k x. ap (λ (ts : List (Option (List ℕ))). slice_index_or ts x None) (h.tuples k);
  refs = λ k x. ap (λ (rs : List ℕ). slice_index rs x) (h.refs k);
  big = h.big;
  small = h.small;
  feeds = h.feeds;
  columns = h.columns;
  tie = λ j x. ap (λ (ts : List ℕ). slice_index ts x) (h.ties j);
}

long_at : (f g : Forest) (j : ℕ) (of : Edge → ℕ) → HasSameEntries f g → of (nth_edge g.edges j) ≡ of (nth_edge f.edges j)
    → length (nth_knot g.knots (of (nth_edge g.edges j))).tuples ≡ length (nth_knot f.knots (of (nth_edge f.edges j))).tuples
long_at f g j of h is = ap (λ (n : ℕ). length (nth_knot g.knots n).tuples) is
    ∙ ap (λ (ts : List (Option (List ℕ))). length ts) (h.tuples (of (nth_edge f.edges j)))

same_along : (f g : Forest) → HasSameEntries f g → AreAlong f.knots f.edges → AreAlong g.knots g.edges
same_along f g h a = record {
  missing = λ k. h.counts k ∙ a.missing k ∙ sym (ap (λ (ts : List (Option (List ℕ))). length ts) (h.tuples k));
  refs = λ k. ap (λ (rs : List ℕ). length rs) (h.refs k) ∙ a.refs k
      ∙ sym (ap (λ (ts : List (Option (List ℕ))). length ts) (h.tuples k));
  marks = λ k. ap (λ (ms : List ℕ). length ms) (h.marks k) ∙ a.marks k
      ∙ sym (ap (λ (ts : List (Option (List ℕ))). length ts) (h.tuples k));
  ties = λ j l.
      let had = a.ties j (let e = h.edges in omega arith) in
      let long = ap (λ (ts : List ℕ). length ts) (h.ties j) in
      let slots = long_at f g j (λ e. e.big) h (h.big j) in
      omega (arith, had, long, slots);
  lists = λ j l.
      let had = a.lists j (let e = h.edges in omega arith) in
      let long = h.places j in
      let slots = long_at f g j (λ e. e.small) h (h.small j) in
      omega (arith, had, long, slots);
}

pub same_sound : (f g : Forest) → AreEntries f → HasSameEntries f g → AreEntries g
same_sound f g a h = entries_alike f g (same_alike f g h) (same_along f g h a.along) a

pub same_self : (f : Forest) → HasSameEntries f f
same_self f = record {
  knots = refl;
  edges = refl;
  leaf = λ k. refl;
  width = λ k. refl;
  rank = λ k. refl;
  tuples = λ k. refl;
  counts = λ k. refl;
  refs = λ k. refl;
  marks = λ k. refl;
  big = λ j. refl;
  small = λ j. refl;
  feeds = λ j. refl;
  columns = λ j. refl;
  ties = λ j. refl;
  places = λ j. refl;
  sides = λ j s. refl;
}

pub same_on : (f g h : Forest) → HasSameEntries f g → HasSameEntries g h → HasSameEntries f h
same_on f g h p q = record {
  knots = q.knots ∙ p.knots;
  edges = q.edges ∙ p.edges;
  leaf = λ k. q.leaf k ∙ p.leaf k;
  width = λ k. q.width k ∙ p.width k;
  rank = λ k. q.rank k ∙ p.rank k;
  tuples = λ k. q.tuples k ∙ p.tuples k;
  counts = λ k. q.counts k ∙ p.counts k;
  refs = λ k. q.refs k ∙ p.refs k;
  marks = λ k. q.marks k ∙ p.marks k;
  big = λ j. q.big j ∙ p.big j;
  small = λ j. q.small j ∙ p.small j;
  feeds = λ j. q.feeds j ∙ p.feeds j;
  columns = λ j. q.columns j ∙ p.columns j;
  ties = λ j. q.ties j ∙ p.ties j;
  places = λ j. q.places j ∙ p.places j;
  sides = λ j s. q.sides j (p.feeds j ∙ s) ∙ p.sides j s;
}

-- a part of each knot stays if one count changes
knot_part : {B : Type 0} (g : Knot → B) (ks : List Knot) (k x m i : ℕ) → ((a : Knot) → g (with_missing a x m) ≡ g a)
    → g (nth_knot (put_missing ks k x m) i) ≡ g (nth_knot ks i)
knot_part g ks k x m i h =
    let changed = with_missing (nth_knot ks k) x m in
    elim (cases_lt k (length ks)) [
      | inl within ↦
          elim (cases_eq i k) [
            | inl here ↦ ap (λ (n : ℕ). g (nth_knot (put_missing ks k x m) n)) here
                ∙ ap g (get_or-set_same ks k changed _ within) ∙ h (nth_knot ks k)
                ∙ ap (λ (n : ℕ). g (nth_knot ks n)) (sym here)
            | inr other ↦ ap g (get_or-set_other ks k i changed _ other)
          ]
      | inr past ↦ ap (λ (ls : List Knot). g (nth_knot ls i)) (set_past ks k changed past)
    ]

knot_turned : {B : Type 0} (g : Knot → B) (b : Bool) (ks : List Knot) (k x m i : ℕ)
    → ((a : Knot) → g (with_missing a x m) ≡ g a) → g (nth_knot (cond b (put_missing ks k x m) ks) i) ≡ g (nth_knot ks i)
knot_turned g true ks k x m i h = knot_part g ks k x m i h
knot_turned g false ks k x m i h = refl

long_turned : (b : Bool) (ks : List Knot) (k x m : ℕ) → length (cond b (put_missing ks k x m) ks) ≡ length ks
long_turned true ks k x m = length-set ks k (with_missing (nth_knot ks k) x m)
long_turned false ks k x m = refl

fed_other : (es : List Edge) (j t : ℕ) (xs : List ℕ) (i : ℕ) → (nth_edge es j).feeds ≡ true → (nth_edge es i).feeds ≡ false
    → (nth_edge (put_list es j t xs) i).lists ≡ (nth_edge es i).lists
fed_other es j t xs i feeds side =
    elim (cases_eq i j) [
      | inl here ↦ absurd (let both : true ≡ false = sym feeds ∙ ap (λ (n : ℕ). (nth_edge es n).feeds) (sym here) ∙ side in cc)
      | inr other ↦ ap (λ (d : Edge). d.lists) (get_or-set_other es j i (with_list (nth_edge es j) t xs) _ other)
    ]

pub same_fed : (f : Forest) (j x m : ℕ) (xs : List ℕ) (turns : Bool) → (nth_edge f.edges j).feeds ≡ true
    → HasSameEntries f (relist f j x xs turns m)
same_fed f j x m xs turns feeds =
    let k = (nth_edge f.edges j).small in
    let t = target f j x in
    record {
      knots = long_turned turns f.knots k t m;
      edges = length-set f.edges j (with_list (nth_edge f.edges j) t xs);
      leaf = λ i. knot_turned (λ a. a.leaf) turns f.knots k t m i (λ a. refl);
      width = λ i. knot_turned (λ a. a.width) turns f.knots k t m i (λ a. refl);
      rank = λ i. knot_turned (λ a. a.rank) turns f.knots k t m i (λ a. refl);
      tuples = λ i. knot_turned (λ a. a.tuples) turns f.knots k t m i (λ a. refl);
      counts = λ i. knot_turned (λ a. length a.missing) turns f.knots k t m i (λ a. length-set a.missing t m);
      refs = λ i. knot_turned (λ a. a.refs) turns f.knots k t m i (λ a. refl);
      marks = λ i. knot_turned (λ a. a.marks) turns f.knots k t m i (λ a. refl);
      big = λ i. same_part (λ d. d.big) f.edges j t xs i (λ d. refl);
      small = λ i. same_part (λ d. d.small) f.edges j t xs i (λ d. refl);
      feeds = λ i. same_part (λ d. d.feeds) f.edges j t xs i (λ d. refl);
      columns = λ i. same_part (λ d. d.columns) f.edges j t xs i (λ d. refl);
      ties = λ i. same_part (λ d. d.ties) f.edges j t xs i (λ d. refl);
      places = λ i. same_part (λ d. length d.lists) f.edges j t xs i (λ d. length-set d.lists t xs);
      sides = λ i s. fed_other f.edges j t xs i feeds s;
    }

pub same_side : (f : Forest) (k x m : ℕ)
    → HasSameEntries f (record { knots = put_missing f.knots k x m; edges = f.edges; stamp = f.stamp })
same_side f k x m = record {
  knots = length-set f.knots k (with_missing (nth_knot f.knots k) x m);
  edges = refl;
  leaf = λ i. knot_part (λ a. a.leaf) f.knots k x m i (λ a. refl);
  width = λ i. knot_part (λ a. a.width) f.knots k x m i (λ a. refl);
  rank = λ i. knot_part (λ a. a.rank) f.knots k x m i (λ a. refl);
  tuples = λ i. knot_part (λ a. a.tuples) f.knots k x m i (λ a. refl);
  counts = λ i. knot_part (λ a. length a.missing) f.knots k x m i (λ a. length-set a.missing x m);
  refs = λ i. knot_part (λ a. a.refs) f.knots k x m i (λ a. refl);
  marks = λ i. knot_part (λ a. a.marks) f.knots k x m i (λ a. refl);
  big = λ j. refl;
  small = λ j. refl;
  feeds = λ j. refl;
  columns = λ j. refl;
  ties = λ j. refl;
  places = λ j. refl;
  sides = λ j s. refl;
}

-- ---- what lives lives on

lives_on : (f g : Forest) (k y : ℕ) (came : Bool) → Moves f g k y → lives g.knots k y ≡ (lives f.knots k y || came)
    → LivesOn f g
lives_on f g k y came m here i z alive =
    elim (cases_eq i k) [
      | inl knot ↦
          elim (cases_eq z y) [
            | inl slot ↦ ap₂ (λ (a b : ℕ). lives g.knots a b) knot slot ∙ here
                ∙ ap (λ (b : Bool). b || came) (sym (ap₂ (λ (a b : ℕ). lives f.knots a b) knot slot) ∙ alive)
            | inr other ↦ m.others i z (λ e h. other h) ∙ alive
          ]
      | inr other ↦ m.others i z (λ e h. other e) ∙ alive
    ]

-- ---- one step, by which nothing came to live

after_less : (at p o : Bool) → cond at false (p || (false && o)) ≡ (p && not at)
after_less true p o = sym (and_no p)
after_less false true o = refl
after_less false false o = refl

but_same : (g : Forest) (p q : ℕ → ℕ → Bool) → ((i z : ℕ) → i < length g.edges → p i z ≡ q i z) → IsToldBut g p → IsToldBut g q
but_same g p q same h =
    told_same g (told_but g p) (told_but g q) (λ i z l. ap (λ (b : Bool). to_tell g i z && not b) (same i z l)) h

stop : (f g : Forest) (pending : ℕ → ℕ → Bool) (j x k y : ℕ) (came : Bool) → came ≡ false
    → IsToldBut g (pending_after f pending j x came k y) → IsToldBut g (less_at pending j x)
stop f g pending j x k y came none h = but_same g (pending_after f pending j x came k y) (less_at pending j x)
    (λ i z l. ap (λ (c : Bool). cond ((i == j) && (z == x)) false (pending i z || (c && is_source f k y i z))) none
    ∙ after_less ((i == j) && (z == x)) (pending i z) (is_source f k y i z)) h

-- ---- one step, by which the entry in slot y of the knot k came to live

source_moved : (f g : Forest) (k y i z : ℕ) → Moves f g k y → is_source g k y i z ≡ is_source f k y i z
source_moved f g k y i z m = ap₂ (λ (a b : ℕ). (a == k) && (b == y)) (moved_knot f g k y i m) (moved_slot f g k y i z m)

entry_moved : (f g : Forest) (k y i z : ℕ) → Moves f g k y
    → has_entry g.knots (nth_edge g.edges i).big z ≡ has_entry f.knots (nth_edge f.edges i).big z
entry_moved f g k y i z m = m.entry (nth_edge g.edges i).big z ∙ ap (λ (n : ℕ). has_entry f.knots n z) (m.big i)

-- it is told later where it isn't told now
came_all : (at p o : Bool) → (at ≡ true → o ≡ true → ⊥) → o ≡ true → cond at false (p || (true && o)) ≡ true
came_all true p o apart on = absurd (apart refl on)
came_all false p o apart on = rw (on, or_yes p) refl

came_due : (at p o d n : Bool) → (p ≡ true → n ≡ true) → (o ≡ true → n ≡ true) → cond at false (p || (true && o)) ≡ true
    → n ≡ true
came_due true p o d n old new h = absurd cc
came_due false true o d n old new h = old refl
came_due false false true d n old new h = new refl
came_due false false false d n old new h = absurd cc

-- what is pending when that has risen
came_less : (e n at p o : Bool) → (e ≡ false → n ≡ false) → (e ≡ true → o ≡ true → p ≡ false)
    → (n && not (cond at false (p || (true && o)) && not o)) ≡ (n && not (p && not at))
came_less false n at p o none fresh = rw (none refl) refl
came_less true n at p true none fresh = rw (fresh refl refl, and_no (cond at false true)) refl
came_less true n true p false none fresh = rw (and_no p) refl
came_less true n false true false none fresh = refl
came_less true n false false false none fresh = refl

no_entry : (e l : Bool) → e ≡ false → (e && l) ≡ false
no_entry true l h = absurd cc
no_entry false l h = refl

not_pending : (p : Bool) → (p ≡ true → ⊥) → p ≡ false
not_pending true h = absurd (h refl)
not_pending false h = refl

pub entry_same : (f g : Forest) (i z : ℕ) → HasSameEntries f g
    → has_entry g.knots (nth_edge g.edges i).big z ≡ has_entry f.knots (nth_edge f.edges i).big z
entry_same f g i z h = edge_entry f g (nth_edge f.edges i).big (nth_edge g.edges i).big z z (same_alike f g h) (h.big i) refl

on_life : (f g : Forest) (k y i z : ℕ) → Moves f g k y → lives g.knots k y ≡ (lives f.knots k y || true)
    → of_life f i z ≡ true → of_life g i z ≡ true
on_life f g k y i z m here alive = by_source (is_source f k y i z) refl
  where
    by_source : (b : Bool) → is_source f k y i z ≡ b → of_life g i z ≡ true
    by_source true on = life_here f g k y i z (λ b. b || true) m here on ∙ or_yes (of_life f i z)
    by_source false off = life_others f g k y i z m off ∙ alive

both_true : (a b : Bool) → a ≡ true → b ≡ true → (a && b) ≡ true
both_true a b h k = rw (h, k) refl

pub to_tell_by : (f : Forest) (i z : ℕ) → has_entry f.knots (nth_edge f.edges i).big z ≡ true → of_life f i z ≡ true
    → to_tell f i z ≡ true
to_tell_by f i z e l = both_true (has_entry f.knots (nth_edge f.edges i).big z) (of_life f i z) e l

pub pending_came : (f g : Forest) (pending : ℕ → ℕ → Bool) (j x k y : ℕ) → Moves f g k y
    → lives g.knots k y ≡ (lives f.knots k y || true) → is_source f k y j x ≡ false → IsDue f pending
    → IsToldBut g (pending_after f pending j x true k y) → IsPendingOf g (pending_after f pending j x true k y) k y
pending_came f g pending j x k y m here apart due told = record {
  told = told;
  due = λ i z l e p.
      let there = sym (entry_moved f g k y i z m) ∙ e in
      came_due ((i == j) && (z == x)) (pending i z) (is_source f k y i z) true (to_tell g i z)
      (λ old. to_tell_by g i z e (on_life f g k y i z m here
      (right_is (has_entry f.knots (nth_edge f.edges i).big z) (of_life f i z)
      (due i z (let k = m.edges in omega arith) there old))))
      (λ new. to_tell_by g i z e
      (life_here f g k y i z (λ b. b || true) m here new ∙ or_yes (of_life f i z))) p;
  lives = here ∙ or_yes (lives f.knots k y);
  all = λ i z l is tell. came_all ((i == j) && (z == x)) (pending i z) (is_source f k y i z)
      (λ at on. let no : is_source f k y i z ≡ false = at_step (is_source f k y) i z j x false apart at in
      let both : true ≡ false = sym on ∙ no in cc)
      (sym (source_moved f g k y i z m) ∙ is);
}

rise_on : (f g h : Forest) (pending : ℕ → ℕ → Bool) (j x k y : ℕ) → Moves f g k y → HasSameEntries g h
    → (lives f.knots k y ≡ false) → IsDue f pending
    → IsToldBut h (less_of g (pending_after f pending j x true k y) k y) → IsToldBut h (less_at pending j x)
rise_on f g h pending j x k y m same fresh due told =
    told_same h (told_but h (less_of g (pending_after f pending j x true k y) k y)) (told_but h (less_at pending j x))
    (λ i z l. ap (λ (o : Bool). to_tell h i z
    && not (pending_after f pending j x true k y i z && not o)) (source_moved f g k y i z m)
    ∙ came_less (has_entry f.knots (nth_edge f.edges i).big z) (to_tell h i z) ((i == j) && (z == x)) (pending i z)
    (is_source f k y i z)
    (λ none. no_entry (has_entry h.knots (nth_edge h.edges i).big z) (of_life h i z)
    (entry_same g h i z same ∙ entry_moved f g k y i z m ∙ none))
    (λ there on. not_pending (pending i z) (λ p.
    let alive = right_is (has_entry f.knots (nth_edge f.edges i).big z) (of_life f i z)
    (due i z (let a = m.edges in let b = same.edges in omega arith) there p) in
    let both : true ≡ false = sym alive ∙ life_there f k y i z on ∙ fresh in
    cc))) told

-- ---- the steps

pub told_fed : (f : Forest) (j x : ℕ) → AreEntries f → j < length f.edges → (nth_edge f.edges j).feeds ≡ true
    → to_tell f j x ≡ true → comes_by_fed f j x ≡ false → HasTold f (tell_fed f j x) j x
told_fed f j x a l feeds tell none = record {
  same = same_fed f j x _ _ _ feeds;
  on = lives_on f (tell_fed f j x) (nth_edge f.edges j).small (target f j x) (comes_by_fed f j x)
      (fed_moves f j x a l tell) (life_fed f j x a l tell);
  told = λ pending h. stop f (tell_fed f j x) pending j x (nth_edge f.edges j).small (target f j x) (comes_by_fed f j x) none
      (pending_fed f pending j x a h.told l feeds h.tell h.is);
}

pub told_side : (f : Forest) (j x : ℕ) → AreEntries f → j < length f.edges → (nth_edge f.edges j).feeds ≡ false
    → to_tell f j x ≡ true → comes_by_side f j x ≡ false → HasTold f (tell_side f j x) j x
told_side f j x a l side tell none = record {
  same = same_side f (nth_edge f.edges j).big x _;
  on = lives_on f (tell_side f j x) (nth_edge f.edges j).big x (comes_by_side f j x) (side_moves f j x tell)
      (life_side f j x a tell);
  told = λ pending h. stop f (tell_side f j x) pending j x (nth_edge f.edges j).big x (comes_by_side f j x) none
      (pending_side f pending j x a h.told l side h.tell h.is);
}

pub told_fed_on : (f g : Forest) (j x : ℕ) → AreEntries f → j < length f.edges → (nth_edge f.edges j).feeds ≡ true
    → to_tell f j x ≡ true → comes_by_fed f j x ≡ true
    → HasRisen (tell_fed f j x) g (nth_edge f.edges j).small (target f j x) → HasTold f g j x
told_fed_on f g j x a l feeds tell came risen =
    let k = (nth_edge f.edges j).small in
    let t = target f j x in
    let d = tell_fed f j x in
    let moves = fed_moves f j x a l tell in
    let here = life_fed f j x a l tell in
    record {
      same = same_on f d g (same_fed f j x _ _ _ feeds) risen.same;
      on = λ i z alive. risen.on i z (lives_on f d k t (comes_by_fed f j x) moves here i z alive);
      told = λ pending h. rise_on f d g pending j x k t moves risen.same
          (fresh_fed f pending j x a h.told l feeds tell h.is came) h.due
          (risen.told (pending_after f pending j x true k t)
          (pending_came f d pending j x k t moves (here ∙ ap (λ (c : Bool). lives f.knots k t || c) came)
          (apart_fed f j x a l feeds) h.due
          (subst (λ (c : Bool). IsToldBut d (pending_after f pending j x c k t)) came
          (pending_fed f pending j x a h.told l feeds tell h.is))));
    }

pub told_side_on : (f g : Forest) (j x : ℕ) → AreEntries f → j < length f.edges → (nth_edge f.edges j).feeds ≡ false
    → to_tell f j x ≡ true → comes_by_side f j x ≡ true → HasRisen (tell_side f j x) g (nth_edge f.edges j).big x
    → HasTold f g j x
told_side_on f g j x a l side tell came risen =
    let k = (nth_edge f.edges j).big in
    let d = tell_side f j x in
    let moves = side_moves f j x tell in
    let here = life_side f j x a tell in
    record {
      same = same_on f d g (same_side f k x _) risen.same;
      on = λ i z alive. risen.on i z (lives_on f d k x (comes_by_side f j x) moves here i z alive);
      told = λ pending h. rise_on f d g pending j x k x moves risen.same
          (fresh_side f pending j x a h.told l side tell h.is came) h.due
          (risen.told (pending_after f pending j x true k x)
          (pending_came f d pending j x k x moves (here ∙ ap (λ (c : Bool). lives f.knots k x || c) came)
          (apart_side f j x a l side) h.due
          (subst (λ (c : Bool). IsToldBut d (pending_after f pending j x c k x)) came
          (pending_side f pending j x a h.told l side tell h.is))));
    }

-- ---- up

-- by an edge that feeds an entry of its big knot is told in its own slot
own_source : (f : Forest) (j y z : ℕ) → (nth_edge f.edges j).feeds ≡ true
    → is_source f (nth_edge f.edges j).big y j z ≡ (z == y)
own_source f j y z feeds =
    ap₂ (λ (a b : ℕ). (a == (nth_edge f.edges j).big) && (b == y))
    (ap (λ (b : Bool). cond b (nth_edge f.edges j).big (nth_edge f.edges j).small) feeds)
    (ap (λ (b : Bool). cond b z (target f j z)) feeds)
    ∙ ap (λ (b : Bool). b && (z == y)) (eq-eqb (nth_edge f.edges j).big (nth_edge f.edges j).big refl)

at_source : (f : Forest) (j y i z : ℕ) → AreEntries f → j < length f.edges → i < length f.edges
    → (nth_edge f.edges j).feeds ≡ true → ((i == j) && (z == y)) ≡ is_source f (nth_edge f.edges j).big y i z
at_source f j y i z a l m feeds =
    elim (cases_eq i j) [
      | inl here ↦ subst (λ (n : ℕ). ((n == j) && (z == y)) ≡ is_source f (nth_edge f.edges j).big y n z) (sym here)
          (ap (λ (b : Bool). b && (z == y)) (eq-eqb j j refl) ∙ sym (own_source f j y z feeds))
      | inr other ↦ ap (λ (b : Bool). b && (z == y)) (ne_eqb i j other)
          ∙ sym (no_source (source_knot f i) (nth_edge f.edges j).big (source_slot f i z) y
          (λ same. other (a.shape.one_upper i j m l
          (same ∙ sym (ap (λ (b : Bool). cond b (nth_edge f.edges j).big (nth_edge f.edges j).small) feeds)))))
    ]

pub pending_at : (f : Forest) (pending : ℕ → ℕ → Bool) (j y : ℕ) → AreEntries f → j < length f.edges
    → (nth_edge f.edges j).feeds ≡ true → IsPendingOf f pending (nth_edge f.edges j).big y → IsPendingAt f pending j y
pending_at f pending j y a l feeds h =
    let entry = left_is (has_entry f.knots (nth_edge f.edges j).big y)
    (missing_at f.knots (nth_edge f.edges j).big y == 0) h.lives in
    let life : of_life f j y ≡ true = ap (λ (b : Bool). cond b (lives f.knots (nth_edge f.edges j).big y)
    (lives f.knots (nth_edge f.edges j).small (target f j y))) feeds ∙ h.lives in
    let tell = to_tell_by f j y entry life in
    let own : is_source f (nth_edge f.edges j).big y j y ≡ true = own_source f j y y feeds ∙ eq-eqb y y refl in
    record { told = h.told; due = h.due; tell = tell; is = h.all j y l own tell }

pub risen_up : (f g : Forest) (j y : ℕ) → AreEntries f → j < length f.edges → (nth_edge f.edges j).feeds ≡ true
    → HasTold f g j y → HasRisen f g (nth_edge f.edges j).big y
risen_up f g j y a l feeds told = record {
  same = told.same;
  on = told.on;
  told = λ pending h. but_same g (less_at pending j y) (less_of f pending (nth_edge f.edges j).big y)
      (λ i z m. ap (λ (b : Bool). pending i z && not b)
      (at_source f j y i z a l (let e = told.same.edges in omega arith) feeds))
      (told.told pending (pending_at f pending j y a l feeds h));
}

pub risen_top : (f : Forest) (k y : ℕ) → ((j : ℕ) → j < length f.edges → lower (nth_edge f.edges j) ≡ k → ⊥) → HasRisen f f k y
risen_top f k y none = record {
  same = same_self f;
  on = λ i z alive. alive;
  told = λ pending h. but_same f pending (less_of f pending k y)
      (λ i z l. sym (ap (λ (b : Bool). pending i z && not b) (no_source (source_knot f i) k (source_slot f i z) y (none i l))
      ∙ and_all (pending i z))) h.told;
}
