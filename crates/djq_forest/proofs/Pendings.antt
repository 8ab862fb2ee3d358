-- One step tells what was pending, and what came to live by it is pending then.
use Rattle.std.specs.Prelude.{◌≡◌, ℕ, zero, suc, ◌+◌, ◌-◌, ◌<◌, Bool, true, false, cond, not, ◌==◌, ◌&&◌, ◌||◌, List, ◌∷◌, length}
use Rattle.std.proofs.Common.{refl, sym, ◌∙◌, ap, ap₂, arith, eqb-true, eq-eqb, length-set}
use Rattle.std.proofs.lemmas.Bool.{ne_eqb}
use Rattle.djq_forest.specs.Forest.{Knot, Edge, Forest, nth_knot, nth_edge, has_entry, missing_at, lives, tie_of, list_of}
use Rattle.djq_forest.specs.Invariants.{AreEntries, is_empty}
use Rattle.djq_forest.specs.Shape.{lower, upper, is_need}
use Rattle.djq_forest.specs.Telling.{IsToldSoFar, to_tell, also_told, target, told_less, tell_fed, untell_fed, tell_side, untell_side}
use Rattle.djq_forest.specs.Telling.{lacks, with_list, relist, put_missing, put_list, CanBeTold}
use Rattle.djq_forest.specs.Pending.{source_knot, source_slot, is_source, told_but, IsToldBut, no_pending, pending_after}
use Rattle.djq_forest.specs.Pending.{comes_by_fed, comes_by_side, goes_by_fed, goes_by_side, told_besides, IsToldBesides, PendingMoves}
use Rattle.djq_forest.specs.TieLists.{list_less}
use Rattle.djq_forest.proofs.Checking.{slot_within, knot_within}
use Rattle.djq_forest.proofs.Tellings.{many_same, same_entry, missing_here, missing_other, same_part, turned_entry, turned_other, tellings}
use Rattle.djq_forest.proofs.StepChanges.{steps}

-- ---- what has been told, said otherwise

lacks_same : (g : Forest) (t u : ℕ → ℕ → Bool) (k z i : ℕ) → t i z ≡ u i z → lacks g u k z i ≡ lacks g t k z i
lacks_same g t u k z i same = ap (λ (b : Bool). is_need k (nth_edge g.edges i)
    && not (cond (nth_edge g.edges i).feeds (not (is_empty (list_of (nth_edge g.edges i) z))) b)) (sym same)

pub told_same : (g : Forest) (t u : ℕ → ℕ → Bool) → ((i z : ℕ) → i < length g.edges → t i z ≡ u i z) → IsToldSoFar g t
    → IsToldSoFar g u
told_same g t u same h = record {
  there = λ i z l is. h.there i z l (same i z l ∙ is);
  listed = λ i z y l. h.listed i z y l
      ∙ ap (λ (b : Bool). (tie_of (nth_edge g.edges i) z == y)
      && cond (nth_edge g.edges i).feeds b (has_entry g.knots (nth_edge g.edges i).big z)) (same i z l);
  once = h.once;
  missing = λ k z i. h.missing k z i
      ∙ many_same (lacks g t k z) (lacks g u k z) (length g.edges) (λ j l. sym (lacks_same g t u k z j (same j z l)));
}

pub and_all : (b : Bool) → (b && not false) ≡ b
and_all true = refl
and_all false = refl

-- ---- what there is to tell

-- of what the edge i tells slot z lives
abbrev pub of_life : Forest → ℕ → ℕ → Bool
of_life f i z = cond (nth_edge f.edges i).feeds (lives f.knots (nth_edge f.edges i).big z)
    (lives f.knots (nth_edge f.edges i).small (target f i z))

cond_in : (d : Bool) (p : ℕ → ℕ → Bool) (a b x y : ℕ) → cond d (p a x) (p b y) ≡ p (cond d a b) (cond d x y)
cond_in true p a b x y = refl
cond_in false p a b x y = refl

pub life_source : (f : Forest) (i z : ℕ) → of_life f i z ≡ lives f.knots (source_knot f i) (source_slot f i z)
life_source f i z = cond_in (nth_edge f.edges i).feeds (lives f.knots) (nth_edge f.edges i).big (nth_edge f.edges i).small z
    (target f i z)

-- the forest g is f, but for which of them the entry in slot y of the knot k lives in
pub record Moves (f g : Forest) (k y : ℕ) : Type 0 where
  pub edges : length g.edges ≡ length f.edges
  pub entry : (i z : ℕ) → has_entry g.knots i z ≡ has_entry f.knots i z
  pub tie : (i z : ℕ) → tie_of (nth_edge g.edges i) z ≡ tie_of (nth_edge f.edges i) z
  pub feeds : (i : ℕ) → (nth_edge g.edges i).feeds ≡ (nth_edge f.edges i).feeds
  pub big : (i : ℕ) → (nth_edge g.edges i).big ≡ (nth_edge f.edges i).big
  pub small : (i : ℕ) → (nth_edge g.edges i).small ≡ (nth_edge f.edges i).small
  pub others : (i z : ℕ) → (i ≡ k → z ≡ y → ⊥) → lives g.knots i z ≡ lives f.knots i z

pub choice_same : (a b : Bool) (m n i j : ℕ) → b ≡ a → m ≡ n → i ≡ j → cond b m i ≡ cond a n j
choice_same a b m n i j e h l = rw (e, h, l) refl

pub moved_knot : (f g : Forest) (k y i : ℕ) → Moves f g k y → source_knot g i ≡ source_knot f i
moved_knot f g k y i m = choice_same (nth_edge f.edges i).feeds (nth_edge g.edges i).feeds _ _ _ _ (m.feeds i) (m.big i) (m.small i)

pub moved_slot : (f g : Forest) (k y i z : ℕ) → Moves f g k y → source_slot g i z ≡ source_slot f i z
moved_slot f g k y i z m =
    choice_same (nth_edge f.edges i).feeds (nth_edge g.edges i).feeds z z _ _ (m.feeds i) refl (m.tie i z)

moved_life : (f g : Forest) (k y i z : ℕ) → Moves f g k y
    → of_life g i z ≡ lives g.knots (source_knot f i) (source_slot f i z)
moved_life f g k y i z m = life_source g i z
    ∙ ap₂ (λ (a b : ℕ). lives g.knots a b) (moved_knot f g k y i m) (moved_slot f g k y i z m)

-- an entry that isn't the source of what is told lives as before
off_source : (a k b y : ℕ) → ((a == k) && (b == y)) ≡ false → a ≡ k → b ≡ y → ⊥
off_source a k b y h e l =
    let one : (a == k) ≡ true = eq-eqb a k e in
    let two : (b == y) ≡ true = eq-eqb b y l in
    let both : ((a == k) && (b == y)) ≡ true = rw (one, two) refl in
    let not : true ≡ false = sym both ∙ h in
    cc

pub left_is : (a b : Bool) → (a && b) ≡ true → a ≡ true
left_is true b h = refl
left_is false b h = absurd cc

pub right_is : (a b : Bool) → (a && b) ≡ true → b ≡ true
right_is true b h = h
right_is false b h = absurd cc

pub life_others : (f g : Forest) (k y i z : ℕ) → Moves f g k y → is_source f k y i z ≡ false → of_life g i z ≡ of_life f i z
life_others f g k y i z m off = moved_life f g k y i z m
    ∙ m.others (source_knot f i) (source_slot f i z) (off_source (source_knot f i) k (source_slot f i z) y off)
    ∙ sym (life_source f i z)

pub life_there : (f : Forest) (k y i z : ℕ) → is_source f k y i z ≡ true → of_life f i z ≡ lives f.knots k y
life_there f k y i z on = life_source f i z
    ∙ ap₂ (λ (a b : ℕ). lives f.knots a b)
    (eqb-true (source_knot f i) k (left_is (source_knot f i == k) (source_slot f i z == y) on))
    (eqb-true (source_slot f i z) y (right_is (source_knot f i == k) (source_slot f i z == y) on))

-- what has become of that entry
pub life_here : (f g : Forest) (k y i z : ℕ) (change : Bool → Bool) → Moves f g k y
    → lives g.knots k y ≡ change (lives f.knots k y) → is_source f k y i z ≡ true → of_life g i z ≡ change (of_life f i z)
life_here f g k y i z change m here on = moved_life f g k y i z m
    ∙ ap₂ (λ (a b : ℕ). lives g.knots a b)
    (eqb-true (source_knot f i) k (left_is (source_knot f i == k) (source_slot f i z == y) on))
    (eqb-true (source_slot f i z) y (right_is (source_knot f i == k) (source_slot f i z == y) on))
    ∙ here ∙ ap change (sym (life_there f k y i z on))

-- ---- one step

or_none : (b c : Bool) → (b || (c && false)) ≡ b
or_none true c = refl
or_none false true = refl
or_none false false = refl

pub or_no : (b : Bool) → (b || false) ≡ b
or_no true = refl
or_no false = refl

pub or_yes : (b : Bool) → (b || true) ≡ true
or_yes true = refl
or_yes false = refl

pub and_no : (b : Bool) → (b && false) ≡ false
and_no true = refl
and_no false = refl

-- what was told before (e and l), or is told now (at), is what there is to tell (e and n) but for what is pending
moved : (at e l n p o c : Bool) → (at ≡ true → o ≡ false) → (at ≡ true → e ≡ true) → (at ≡ true → l ≡ true)
    → (o ≡ false → n ≡ l) → (o ≡ true → n ≡ (l || c)) → (o ≡ true → c ≡ true → l ≡ false)
    → (at || ((e && l) && not p)) ≡ ((e && n) && not (cond at false (p || (c && o))))
moved true e l n p true c ho he hl off on new = let k = ho refl in absurd cc
moved true e l n p false c ho he hl off on new = rw (off refl, he refl, hl refl) refl
moved false e l n p false c ho he hl off on new = rw (off refl, or_none p c) refl
moved false e l n p true true ho he hl off on new =
    rw (on refl, new refl refl, or_yes p, and_no e, and_no (e && true)) refl
moved false e l n p true false ho he hl off on new = rw (on refl, or_no l, or_no p) refl

pub at_step : (p : ℕ → ℕ → Bool) (i z j x : ℕ) (b : Bool) → p j x ≡ b → ((i == j) && (z == x)) ≡ true → p i z ≡ b
at_step p i z j x b h at =
    ap₂ p (eqb-true i j (left_is (i == j) (z == x) at)) (eqb-true z x (right_is (i == j) (z == x) at)) ∙ h

move_step : (f g : Forest) (pending : ℕ → ℕ → Bool) (j x k y : ℕ) (came : Bool) → Moves f g k y
    → lives g.knots k y ≡ (lives f.knots k y || came) → (came ≡ true → lives f.knots k y ≡ false)
    → IsToldSoFar g (also_told (told_but f pending) j x) → is_source f k y j x ≡ false → to_tell f j x ≡ true
    → IsToldBut g (pending_after f pending j x came k y)
move_step f g pending j x k y came m here fresh h apart tell =
    told_same g (also_told (told_but f pending) j x) (told_but g (pending_after f pending j x came k y))
    (λ i z l. moved ((i == j) && (z == x)) (has_entry f.knots (nth_edge f.edges i).big z) (of_life f i z) (of_life g i z)
    (pending i z) (is_source f k y i z) came
    (at_step (is_source f k y) i z j x false apart)
    (at_step (λ a b. has_entry f.knots (nth_edge f.edges a).big b) i z j x true
    (left_is (has_entry f.knots (nth_edge f.edges j).big x) (of_life f j x) tell))
    (at_step (of_life f) i z j x true (right_is (has_entry f.knots (nth_edge f.edges j).big x) (of_life f j x) tell))
    (life_others f g k y i z m)
    (life_here f g k y i z (λ b. b || came) m here)
    (λ on new. life_there f k y i z on ∙ fresh new)
    ∙ ap (λ (b : Bool). (b && of_life g i z) && not (pending_after f pending j x came k y i z))
    (sym (m.entry (nth_edge g.edges i).big z ∙ ap (λ (n : ℕ). has_entry f.knots n z) (m.big i)))) h

-- what was told before (e, and l or p), and isn't taken back now (at), is what there is to tell (e and n) and what is
-- pending besides
moved_back : (at e l n p o c : Bool) → (at ≡ true → o ≡ false) → (at ≡ true → l ≡ false) → (o ≡ false → n ≡ l)
    → (o ≡ true → n ≡ (l && not c)) → (o ≡ true → c ≡ true → l ≡ true)
    → (not at && (e && (l || p))) ≡ (e && (n || cond at false (p || (c && o))))
moved_back true e l n p true c ho hl off on old = let k = ho refl in absurd cc
moved_back true e l n p false c ho hl off on old = rw (off refl, hl refl, and_no e) refl
moved_back false e l n p false c ho hl off on old = rw (off refl, or_none p c) refl
moved_back false e l n p true true ho hl off on old = rw (on refl, old refl refl, or_yes p) refl
moved_back false e l n p true false ho hl off on old = rw (on refl, and_all l, or_no p) refl

move_back : (f g : Forest) (pending : ℕ → ℕ → Bool) (j x k y : ℕ) (went : Bool) → Moves f g k y
    → lives g.knots k y ≡ (lives f.knots k y && not went) → (went ≡ true → lives f.knots k y ≡ true)
    → IsToldSoFar g (told_less (told_besides f pending) j x) → is_source f k y j x ≡ false → of_life f j x ≡ false
    → IsToldBesides g (pending_after f pending j x went k y)
move_back f g pending j x k y went m here old h apart dead =
    told_same g (told_less (told_besides f pending) j x) (told_besides g (pending_after f pending j x went k y))
    (λ i z l. moved_back ((i == j) && (z == x)) (has_entry f.knots (nth_edge f.edges i).big z) (of_life f i z)
    (of_life g i z) (pending i z) (is_source f k y i z) went
    (at_step (is_source f k y) i z j x false apart)
    (at_step (of_life f) i z j x false dead)
    (life_others f g k y i z m)
    (life_here f g k y i z (λ b. b && not went) m here)
    (λ on gone. life_there f k y i z on ∙ old gone)
    ∙ ap (λ (b : Bool). b && (of_life g i z || pending_after f pending j x went k y i z))
    (sym (m.entry (nth_edge g.edges i).big z ∙ ap (λ (n : ℕ). has_entry f.knots n z) (m.big i)))) h

-- ---- by an edge that feeds

life_same : (e d a b : Bool) → e ≡ d → a ≡ b → (e && a) ≡ (d && b)
life_same e d a b h l = rw (h, l) refl

-- a number that was some, and one less of it
one_less : (m : ℕ) → 0 < m → (m == 0) ≡ false
one_less m some = ne_eqb m 0 (λ e. omega arith)

less_zero : (m : ℕ) → (m - 1 == 0) ≡ ((m == 0) || (m - 1 == 0))
less_zero zero = refl
less_zero (suc m) = sym (ap (λ (b : Bool). b || (suc m - 1 == 0)) (ne_eqb (suc m) 0 (λ e. omega arith)))

here_by : (e d : Bool) (m n : ℕ) (turns : Bool) → d ≡ true → e ≡ d → (turns ≡ true → n ≡ m - 1) → (turns ≡ false → n ≡ m)
    → (e && (n == 0)) ≡ ((d && (m == 0)) || (turns && (m - 1 == 0)))
here_by e d m n true h k now old = rw (k, h, now refl) (less_zero m)
here_by e d m n false h k now old = rw (k, h, old refl, or_no (m == 0)) refl

fresh_by : (d : Bool) (m : ℕ) (turns : Bool) → (turns ≡ true → 0 < m) → (turns && (m - 1 == 0)) ≡ true
    → (d && (m == 0)) ≡ false
fresh_by d m true some came = rw (one_less m (some refl), and_no d) refl
fresh_by d m false some came = absurd cc

put_long : (es : List Edge) (j y : ℕ) (xs : List ℕ) → length (put_list es j y xs) ≡ length es
put_long es j y xs = length-set es j (with_list (nth_edge es j) y xs)

turned_now : (b : Bool) (ks : List Knot) (k x m : ℕ) → k < length ks → x < length (nth_knot ks k).missing → b ≡ true
    → missing_at (cond b (put_missing ks k x m) ks) k x ≡ m
turned_now true ks k x m l i h = missing_here ks k x m l i
turned_now false ks k x m l i h = absurd cc

turned_not : (b : Bool) (ks : List Knot) (k x m : ℕ) → b ≡ false
    → missing_at (cond b (put_missing ks k x m) ks) k x ≡ missing_at ks k x
turned_not true ks k x m h = absurd cc
turned_not false ks k x m h = refl

pub can_be : (f : Forest) (pending : ℕ → ℕ → Bool) (j x : ℕ) → AreEntries f → j < length f.edges → to_tell f j x ≡ true
    → pending j x ≡ true → CanBeTold f (told_but f pending) j x false
can_be f pending j x a l tell p =
    let i = left_is (has_entry f.knots (nth_edge f.edges j).big x) (of_life f j x) tell in
    record {
      edge = l;
      along = a.along;
      entry = i;
      tied = a.tied j x l i;
      was_told = rw (p, and_no (to_tell f j x)) refl;
    }

ranks_apart : (f : Forest) (j : ℕ) → AreEntries f → j < length f.edges → lower (nth_edge f.edges j) ≡ upper (nth_edge f.edges j)
    → ⊥
ranks_apart f j a l same =
    let rises = a.shape.rises j l in
    let ranks = ap (λ (n : ℕ). (nth_knot f.knots n).rank) same in
    omega (arith, rises, ranks)

pub no_source : (a b s y : ℕ) → (a ≡ b → ⊥) → ((a == b) && (s == y)) ≡ false
no_source a b s y apart = rw (ne_eqb a b apart) refl

apart_by_feeds : (f : Forest) (j k : ℕ) → AreEntries f → j < length f.edges → upper (nth_edge f.edges j) ≡ k
    → source_knot f j ≡ k → ⊥
apart_by_feeds f j k a l up same = ranks_apart f j a l (same ∙ sym up)

-- how forests differ in which one edge that feeds lists something else, and one count may have changed
pub moves_fed : (f : Forest) (j x m : ℕ) (xs : List ℕ) (turns : Bool) → (nth_edge f.edges j).small < length f.knots
    → Moves f (relist f j x xs turns m) (nth_edge f.edges j).small (target f j x)
moves_fed f j x m xs turns within =
    let e = nth_edge f.edges j in
    let t = target f j x in
    record {
      edges = put_long f.edges j t xs;
      entry = λ i z. turned_entry turns f.knots e.small t m i z;
      tie = λ i z. same_part (λ d. tie_of d z) f.edges j t xs i (λ d. refl);
      feeds = λ i. same_part (λ d. d.feeds) f.edges j t xs i (λ d. refl);
      big = λ i. same_part (λ d. d.big) f.edges j t xs i (λ d. refl);
      small = λ i. same_part (λ d. d.small) f.edges j t xs i (λ d. refl);
      others = λ i z away. life_same _ _ _ _ (turned_entry turns f.knots e.small t m i z)
          (ap (λ (n : ℕ). n == 0) (turned_other turns f.knots e.small t m i z within away));
    }

-- the same where one count has changed
pub moves_side : (f : Forest) (j x m : ℕ) → (nth_edge f.edges j).big < length f.knots
    → Moves f (record { knots = put_missing f.knots (nth_edge f.edges j).big x m; edges = f.edges; stamp = f.stamp })
    (nth_edge f.edges j).big x
moves_side f j x m within =
    let e = nth_edge f.edges j in
    record {
      edges = refl;
      entry = λ i z. same_entry f.knots e.big x m i z;
      tie = λ i z. refl;
      feeds = λ i. refl;
      big = λ i. refl;
      small = λ i. refl;
      others = λ i z away. life_same _ _ _ _ (same_entry f.knots e.big x m i z)
          (ap (λ (n : ℕ). n == 0) (missing_other f.knots e.big x m i z within away));
    }

count_inside : (f : Forest) (k x : ℕ) → AreEntries f → has_entry f.knots k x ≡ true → x < length (nth_knot f.knots k).missing
count_inside f k x a i = let s = slot_within f.knots k x i in let n = a.along.missing k in omega (arith, s, n)

-- what a step moves, what becomes of the entry that it tells, and that this isn't the one of which it tells
pub fed_moves : (f : Forest) (j x : ℕ) → AreEntries f → j < length f.edges → to_tell f j x ≡ true
    → Moves f (tell_fed f j x) (nth_edge f.edges j).small (target f j x)
fed_moves f j x a l tell = moves_fed f j x (missing_at f.knots (nth_edge f.edges j).small (target f j x) - 1)
    (x ∷ list_of (nth_edge f.edges j) (target f j x)) (is_empty (list_of (nth_edge f.edges j) (target f j x)))
    (knot_within f.knots (nth_edge f.edges j).small (target f j x)
    (a.tied j x l (left_is (has_entry f.knots (nth_edge f.edges j).big x) (of_life f j x) tell)))

pub life_fed : (f : Forest) (j x : ℕ) → AreEntries f → j < length f.edges → to_tell f j x ≡ true
    → lives (tell_fed f j x).knots (nth_edge f.edges j).small (target f j x)
    ≡ (lives f.knots (nth_edge f.edges j).small (target f j x) || comes_by_fed f j x)
life_fed f j x a l tell =
    let k = (nth_edge f.edges j).small in
    let t = target f j x in
    let turns = is_empty (list_of (nth_edge f.edges j) t) in
    let m = missing_at f.knots k t in
    let tied = a.tied j x l (left_is (has_entry f.knots (nth_edge f.edges j).big x) (of_life f j x) tell) in
    here_by _ (has_entry f.knots k t) m _ turns tied (turned_entry turns f.knots k t (m - 1) k t)
    (turned_now turns f.knots k t (m - 1) (knot_within f.knots k t tied) (count_inside f k t a tied))
    (turned_not turns f.knots k t (m - 1))

pub fresh_fed : (f : Forest) (pending : ℕ → ℕ → Bool) (j x : ℕ) → AreEntries f → IsToldBut f pending → j < length f.edges
    → (nth_edge f.edges j).feeds ≡ true → to_tell f j x ≡ true → pending j x ≡ true → comes_by_fed f j x ≡ true
    → lives f.knots (nth_edge f.edges j).small (target f j x) ≡ false
fresh_fed f pending j x a h l feeds tell p = fresh_by (has_entry f.knots (nth_edge f.edges j).small (target f j x))
    (missing_at f.knots (nth_edge f.edges j).small (target f j x)) (is_empty (list_of (nth_edge f.edges j) (target f j x)))
    (steps.fed f (told_but f pending) j x h (can_be f pending j x a l tell p) feeds).unmet

pub apart_fed : (f : Forest) (j x : ℕ) → AreEntries f → j < length f.edges → (nth_edge f.edges j).feeds ≡ true
    → is_source f (nth_edge f.edges j).small (target f j x) j x ≡ false
apart_fed f j x a l feeds = no_source (source_knot f j) (nth_edge f.edges j).small (source_slot f j x) (target f j x)
    (apart_by_feeds f j (nth_edge f.edges j).small a l
    (ap (λ (b : Bool). cond b (nth_edge f.edges j).small (nth_edge f.edges j).big) feeds))

pub pending_fed : (f : Forest) (pending : ℕ → ℕ → Bool) (j x : ℕ) → AreEntries f → IsToldBut f pending
    → j < length f.edges
    → (nth_edge f.edges j).feeds ≡ true → to_tell f j x ≡ true → pending j x ≡ true
    → IsToldBut (tell_fed f j x)
    (pending_after f pending j x (comes_by_fed f j x) (nth_edge f.edges j).small (target f j x))
pending_fed f pending j x a h l feeds tell p = move_step f (tell_fed f j x) pending j x (nth_edge f.edges j).small
    (target f j x) (comes_by_fed f j x) (fed_moves f j x a l tell) (life_fed f j x a l tell)
    (fresh_fed f pending j x a h l feeds tell p)
    (tellings.fed f (told_but f pending) j x h (can_be f pending j x a l tell p) feeds) (apart_fed f j x a l feeds) tell

pub side_moves : (f : Forest) (j x : ℕ) → to_tell f j x ≡ true → Moves f (tell_side f j x) (nth_edge f.edges j).big x
side_moves f j x tell = moves_side f j x (missing_at f.knots (nth_edge f.edges j).big x - 1)
    (knot_within f.knots (nth_edge f.edges j).big x
    (left_is (has_entry f.knots (nth_edge f.edges j).big x) (of_life f j x) tell))

pub life_side : (f : Forest) (j x : ℕ) → AreEntries f → to_tell f j x ≡ true
    → lives (tell_side f j x).knots (nth_edge f.edges j).big x
    ≡ (lives f.knots (nth_edge f.edges j).big x || comes_by_side f j x)
life_side f j x a tell =
    let k = (nth_edge f.edges j).big in
    let m = missing_at f.knots k x in
    let entry = left_is (has_entry f.knots k x) (of_life f j x) tell in
    here_by _ (has_entry f.knots k x) m _ true entry (same_entry f.knots k x (m - 1) k x)
    (λ now. missing_here f.knots k x (m - 1) (knot_within f.knots k x entry) (count_inside f k x a entry))
    (λ no. absurd cc)

pub fresh_side : (f : Forest) (pending : ℕ → ℕ → Bool) (j x : ℕ) → AreEntries f → IsToldBut f pending → j < length f.edges
    → (nth_edge f.edges j).feeds ≡ false → to_tell f j x ≡ true → pending j x ≡ true → comes_by_side f j x ≡ true
    → lives f.knots (nth_edge f.edges j).big x ≡ false
fresh_side f pending j x a h l side tell p = fresh_by (has_entry f.knots (nth_edge f.edges j).big x)
    (missing_at f.knots (nth_edge f.edges j).big x) true
    (λ now. (steps.side f (told_but f pending) j x h (can_be f pending j x a l tell p) side).unmet)

pub apart_side : (f : Forest) (j x : ℕ) → AreEntries f → j < length f.edges → (nth_edge f.edges j).feeds ≡ false
    → is_source f (nth_edge f.edges j).big x j x ≡ false
apart_side f j x a l side = no_source (source_knot f j) (nth_edge f.edges j).big (source_slot f j x) x
    (apart_by_feeds f j (nth_edge f.edges j).big a l
    (ap (λ (b : Bool). cond b (nth_edge f.edges j).small (nth_edge f.edges j).big) side))

pub pending_side : (f : Forest) (pending : ℕ → ℕ → Bool) (j x : ℕ) → AreEntries f → IsToldBut f pending
    → j < length f.edges
    → (nth_edge f.edges j).feeds ≡ false → to_tell f j x ≡ true → pending j x ≡ true
    → IsToldBut (tell_side f j x) (pending_after f pending j x (comes_by_side f j x) (nth_edge f.edges j).big x)
pending_side f pending j x a h l side tell p = move_step f (tell_side f j x) pending j x (nth_edge f.edges j).big x
    (comes_by_side f j x) (side_moves f j x tell) (life_side f j x a tell) (fresh_side f pending j x a h l side tell p)
    (tellings.side f (told_but f pending) j x h (can_be f pending j x a l tell p) side) (apart_side f j x a l side) tell

-- ---- taken back

gone_by : (e d : Bool) (m n : ℕ) (turns : Bool) → d ≡ true → e ≡ d → (turns ≡ true → n ≡ m + 1) → (turns ≡ false → n ≡ m)
    → (e && (n == 0)) ≡ ((d && (m == 0)) && not (turns && (m == 0)))
gone_by e d m n true h k now old = rw (k, h, now refl, ne_eqb (m + 1) 0 (λ s. omega arith)) (sym (and_not (m == 0)))
  where
    and_not : (b : Bool) → (b && not b) ≡ false
    and_not true = refl
    and_not false = refl
gone_by e d m n false h k now old = rw (k, h, old refl) (sym (and_all (m == 0)))

lived_by : (d : Bool) (m : ℕ) (turns : Bool) → d ≡ true → (turns && (m == 0)) ≡ true → (d && (m == 0)) ≡ true
lived_by d m true h went = rw h went
lived_by d m false h went = absurd cc

both_or : (e l p : Bool) → e ≡ true → p ≡ true → (e && (l || p)) ≡ true
both_or e l p h k = rw (h, k, or_yes l) refl

can_back : (f : Forest) (pending : ℕ → ℕ → Bool) (j x : ℕ) → AreEntries f → j < length f.edges
    → has_entry f.knots (nth_edge f.edges j).big x ≡ true → pending j x ≡ true
    → CanBeTold f (told_besides f pending) j x true
can_back f pending j x a l i p = record {
  edge = l;
  along = a.along;
  entry = i;
  tied = a.tied j x l i;
  was_told = both_or (has_entry f.knots (nth_edge f.edges j).big x) (of_life f j x) (pending j x) i p;
}

dead_by : (f : Forest) (j x : ℕ) (b : Bool) → (nth_edge f.edges j).feeds ≡ b
    → cond b (lives f.knots (nth_edge f.edges j).big x) (lives f.knots (nth_edge f.edges j).small (target f j x)) ≡ false
    → of_life f j x ≡ false
dead_by f j x b is dead = ap (λ (d : Bool). cond d (lives f.knots (nth_edge f.edges j).big x)
    (lives f.knots (nth_edge f.edges j).small (target f j x))) is ∙ dead

back_fed : (f : Forest) (pending : ℕ → ℕ → Bool) (j x : ℕ) → AreEntries f → IsToldBesides f pending → j < length f.edges
    → (nth_edge f.edges j).feeds ≡ true → has_entry f.knots (nth_edge f.edges j).big x ≡ true
    → lives f.knots (nth_edge f.edges j).big x ≡ false → pending j x ≡ true
    → IsToldBesides (untell_fed f j x)
    (pending_after f pending j x (goes_by_fed f j x) (nth_edge f.edges j).small (target f j x))
back_fed f pending j x a h l feeds i dead p =
    let e = nth_edge f.edges j in
    let t = target f j x in
    let c = can_back f pending j x a l i p in
    let turns = is_empty (list_less x (list_of e t)) in
    let m = missing_at f.knots e.small t in
    let within = knot_within f.knots e.small t c.tied in
    move_back f (untell_fed f j x) pending j x e.small t (goes_by_fed f j x)
    (moves_fed f j x (m + 1) (list_less x (list_of e t)) turns within)
    (gone_by _ (has_entry f.knots e.small t) m _ turns c.tied (turned_entry turns f.knots e.small t (m + 1) e.small t)
    (turned_now turns f.knots e.small t (m + 1) within (count_inside f e.small t a c.tied))
    (turned_not turns f.knots e.small t (m + 1)))
    (lived_by (has_entry f.knots e.small t) m turns c.tied)
    (tellings.fed_undone f (told_besides f pending) j x h c feeds)
    (no_source (source_knot f j) e.small (source_slot f j x) t
    (apart_by_feeds f j e.small a l (ap (λ (b : Bool). cond b e.small e.big) feeds)))
    (dead_by f j x true feeds dead)

back_side : (f : Forest) (pending : ℕ → ℕ → Bool) (j x : ℕ) → AreEntries f → IsToldBesides f pending → j < length f.edges
    → (nth_edge f.edges j).feeds ≡ false → has_entry f.knots (nth_edge f.edges j).big x ≡ true
    → lives f.knots (nth_edge f.edges j).small (target f j x) ≡ false → pending j x ≡ true
    → IsToldBesides (untell_side f j x) (pending_after f pending j x (goes_by_side f j x) (nth_edge f.edges j).big x)
back_side f pending j x a h l side i dead p =
    let e = nth_edge f.edges j in
    let c = can_back f pending j x a l i p in
    let m = missing_at f.knots e.big x in
    let within = knot_within f.knots e.big x c.entry in
    move_back f (untell_side f j x) pending j x e.big x (goes_by_side f j x) (moves_side f j x (m + 1) within)
    (gone_by _ (has_entry f.knots e.big x) m _ true c.entry (same_entry f.knots e.big x (m + 1) e.big x)
    (λ now. missing_here f.knots e.big x (m + 1) within (count_inside f e.big x a c.entry)) (λ no. absurd cc))
    (lived_by (has_entry f.knots e.big x) m true c.entry)
    (tellings.side_undone f (told_besides f pending) j x h c side)
    (no_source (source_knot f j) e.big (source_slot f j x) x
    (apart_by_feeds f j e.big a l (ap (λ (b : Bool). cond b e.small e.big) side)))
    (dead_by f j x false side dead)

-- ---- all steps

besides_none : (e l : Bool) → (e && (l || false)) ≡ (e && l)
besides_none e l = rw (or_no l) refl

pub pendings : PendingMoves
pendings = record {
  whole = λ f h. told_same f _ (told_but f no_pending) (λ i z l. sym (and_all (to_tell f i z))) (tellings.forest f h);
  settled = λ f a h. tellings.settled f a (told_same f (told_but f no_pending) _ (λ i z l. and_all (to_tell f i z)) h);
  fed = pending_fed;
  side = pending_side;
  whole_besides = λ f h. told_same f _ (told_besides f no_pending)
      (λ i z l. sym (besides_none (has_entry f.knots (nth_edge f.edges i).big z) (of_life f i z))) (tellings.forest f h);
  settled_besides = λ f a h. tellings.settled f a (told_same f (told_besides f no_pending) _
      (λ i z l. besides_none (has_entry f.knots (nth_edge f.edges i).big z) (of_life f i z)) h);
  fed_undone = back_fed;
  side_undone = back_side;
}
