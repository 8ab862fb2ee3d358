-- The answers below a good state: whole groups as menus list each once.
use Rattle.std.proofs.Common.{◌≡◌, ℕ, zero, suc, ◌+◌, ◌-◌, ◌<◌, ◌≤◌, true, false, List, [], ◌∷◌, length, refl, ap, sym}
use Rattle.std.proofs.Common.{subst, ◌∙◌, inl, inr, arith, Bool, cond, ◌++◌}
use Rattle.std.specs.Prelude.{flat_map, ◌↔◌, slice_index_or, Contains}
use Rattle.std.proofs.lemmas.Bool.{false≢true, or_cases, lt-ltb, ltb-true}
use Rattle.std.proofs.lemmas.List.{length-replicate, length_push, get_or_push, get_or_append_left, get_or_default}
use Rattle.std.specs.Bool.{OnTrue, OnFalse}
use Rattle.std.proofs.lemmas.List.Elements.{All-nil}
use Rattle.djq_index.specs.Tuple.{same}
use Rattle.djq_index.specs.Entries.{count_of}
use Rattle.djq_index.proofs.Tuples.{same_is}
use Rattle.djq_tree.specs.declared.node.Node.{Node}
use Rattle.djq_tree.specs.declared.node.Node.TheVariants.{Leaf, Trim, Meet}
use Rattle.djq_tree.specs.Tree.{Tree, node_at}
use Rattle.djq_tree.specs.Levels.{levels_below, levels}
use Rattle.djq_tree.proofs.Paths.{child_within}
use Rattle.djq_tree.proofs.Nodes.{no_levels}
use Rattle.djq_reduct.specs.Tables.{entries_at}
use Rattle.djq_reduct.specs.Reducts.{Reducts, IsReducts}
use Rattle.djq_reduct.specs.Answers.{on_node, IsAnswerOf}
use Rattle.djq_reduct.proofs.Paths.{level_at}
use Rattle.djq_enumeration.specs.declared.cursor.State.{State}
use Rattle.djq_enumeration.specs.declared.cursor.State.TheVariants.{Start, At, End}
use Rattle.djq_enumeration.specs.declared.cursor.Cursor.{Cursor}
use Rattle.djq_enumeration.specs.declared.places.Choice.{Choice}
use Rattle.djq_enumeration.specs.Menus.{has_tuple, TuplesOnce}
use Rattle.djq_enumeration.specs.Levels.{IsLevel, source, group_at, step}
use Rattle.djq_enumeration.specs.Walk.{Menu, menu_at, leaves, MenusAreOpen, ProjectAlike, blank, IsClear, all_given}
use Rattle.djq_enumeration.specs.Walk.{walk_given, FitsBy}
use Rattle.djq_enumeration.specs.Listing.{AreSome, ListsTuples}
use Rattle.djq_enumeration.specs.Given.{has_root, given, Fits}
use Rattle.djq_enumeration.proofs.Menus.{has_here, branch_of, has_branch, once_flat, has_left, once_front, all_of}
use Rattle.djq_enumeration.proofs.Menus.{different_of, contains_of, branch, leaves_next, leaves_split, given_whole}
use Rattle.djq_enumeration.proofs.Cells.{trim_level}
use Rattle.djq_enumeration.proofs.States.{IsGood, alike_meet, root_node, node_in, good_meet}
use Rattle.djq_enumeration.proofs.LevelChoices.{joins, alike_back, alike_tuple, alike_step, alike_same, good_step}
use Rattle.djq_enumeration.proofs.LevelChoices.{group_is_once, group_is_filled, answer_in, good_answer}

-- ---- The answers below a good state: each once, and nothing else.

-- menus that lead to answers: which states are good, and which answers there are
pub record IsGuide (r : Reducts) (menu : Menu) (Good : ℕ → List ℕ → Type 0)
    (Answer : List ℕ → Type 0) : Type 0 where
  -- the menus are parts of the levels' groups
  pub group : (k : ℕ) (w u : List ℕ) → has_tuple (menu k w) u ≡ true → has_tuple (group_at r k w) u ≡ true
  pub once : (k : ℕ) (w : List ℕ) → TuplesOnce (menu k w)
  -- a good state goes down to a good one, whatever is chosen, and there is something to choose
  pub good : (k : ℕ) (s : List ℕ) → Good k s → IsGood r k s
  pub meet : (k g d : ℕ) (s : List ℕ) → r.tree.second_stage ≤ k → k < length r.tree.nodes
      → node_at r.tree.nodes k ≡ Meet g d → Good (suc k) s → Good k s
  pub filled : (k : ℕ) (s : List ℕ) → IsLevel r.tree k → Good (suc k) s
      → menu_at r.tree menu k s ≡ [] → ⊥
  pub chosen : (k : ℕ) (s u : List ℕ) → IsLevel r.tree k → Good (suc k) s
      → has_tuple (menu_at r.tree menu k s) u ≡ true → Good k (step r.tree k s u)
  -- at the end it is an answer
  pub ends : (s : List ℕ) → Good r.tree.second_stage s → Answer s
  -- an answer that is like the state is on the way
  pub answer : (a : List ℕ) → Answer a → IsAnswerOf r a
  pub picked : (k : ℕ) (s a : List ℕ) → IsLevel r.tree k → Good (suc k) s → Answer a
      → ProjectAlike r.tree (suc k) s a
      → has_tuple (menu_at r.tree menu k s) (on_node r.tree (source r.tree k) a) ≡ true

-- what holds of the levels below k, from a state on
pub record Lists (t : Tree) (menu : Menu) (Answer : List ℕ → Type 0) (k : ℕ) (s : List ℕ) : Type 0
  where
    pub opened : MenusAreOpen t menu (levels_below t k) s
    pub answers : (a : List ℕ) → has_tuple (leaves t menu (levels_below t k) s) a ≡ true → Answer a
    pub alike : (a : List ℕ) → has_tuple (leaves t menu (levels_below t k) s) a ≡ true → ProjectAlike t k s a
    pub once : TuplesOnce (leaves t menu (levels_below t k) s)
    pub complete : (a : List ℕ) → Answer a → ProjectAlike t k s a
        → has_tuple (leaves t menu (levels_below t k) s) a ≡ true

one_member : (s a : List ℕ) → has_tuple (s ∷ []) a ≡ true → s ≡ a
one_member s a h = elim (or_cases (same s a) false h)
    [ inl here ↦ same_is s a here | inr none ↦ absurd (false≢true none) ]

lists_none : (r : Reducts) (menu : Menu) (Good : ℕ → List ℕ → Type 0) (Answer : List ℕ → Type 0)
    (k : ℕ) (s : List ℕ) → IsReducts r → IsGuide r menu Good Answer → k ≡ r.tree.second_stage
    → Good k s
    → levels_below r.tree k ≡ [] → Lists r.tree menu Answer k s
lists_none r menu Good Answer k s h g at good none =
    let t = r.tree in
    let all : leaves t menu (levels_below t k) s ≡ s ∷ [] = ap (λ (ks : List ℕ). leaves t menu ks s)
    none in
    let member = λ (a : List ℕ). λ (m : has_tuple (leaves t menu (levels_below t k) s) a ≡ true).
    one_member s a (ap (λ (l : List (List ℕ)). has_tuple l a) (sym all) ∙ m) in
    let end = g.ends s (subst (λ (n : ℕ). Good n s) at good) in
    record {
      opened = subst (λ (ks : List ℕ). MenusAreOpen t menu ks s) (sym none) tt;
      answers = λ a m. subst Answer (member a m) end;
      alike = λ a m.
          record { below = λ i j from child. ap (λ (b : List ℕ). on_node t j b) (member a m) };
      once = subst TuplesOnce (sym all) (refl, tt);
      complete = λ a answer alike.
          let same_end = subst (λ (n : ℕ). ProjectAlike t n s a) at alike in
          let e = alike_same r s a h (g.good k s good).wide (g.answer a answer).wide same_end in
          ap (λ (l : List (List ℕ)). has_tuple l a) all ∙ ap (λ (b : List ℕ). has_tuple (b ∷ []) a) e
          ∙ has_here a [];
    }

lists_meet : (r : Reducts) (menu : Menu) (Answer : List ℕ → Type 0) (k g d : ℕ) (s : List ℕ)
    → IsReducts r → k < length r.tree.nodes → node_at r.tree.nodes k ≡ Meet g d
    → levels_below r.tree (suc k) ≡ levels_below r.tree k → Lists r.tree menu Answer k s
    → Lists r.tree menu Answer (suc k) s
lists_meet r menu Answer k g d s h within e same l =
    let t = r.tree in
    let back = λ (a : List ℕ). λ (m : has_tuple (leaves t menu (levels_below t (suc k)) s) a ≡ true). ap
    (λ (ks : List ℕ). has_tuple (leaves t menu ks s) a) (sym same) ∙ m in
    record {
      opened = subst (λ (ks : List ℕ). MenusAreOpen t menu ks s) (sym same) l.opened;
      answers = λ a m. l.answers a (back a m);
      alike = λ a m.
          record { below = λ i j from child. (l.alike a (back a m)).below i j (omega arith) child };
      once = subst (λ (ks : List ℕ). TuplesOnce (leaves t menu ks s)) (sym same) l.once;
      complete = λ a answer alike. ap (λ (ks : List ℕ). has_tuple (leaves t menu ks s) a) same
          ∙ l.complete a answer (alike_meet t k g d s a h.family.is_tree within e alike);
    }

lists_trim : (r : Reducts) (menu : Menu) (Good : ℕ → List ℕ → Type 0) (Answer : List ℕ → Type 0)
    (k : ℕ) (s : List ℕ) → IsReducts r → IsGuide r menu Good Answer → IsLevel r.tree k
    → Good (suc k) s
    → levels_below r.tree (suc k) ≡ k ∷ levels_below r.tree k
    → ((u : List ℕ) → has_tuple (menu_at r.tree menu k s) u ≡ true
    → Lists r.tree menu Answer k (step r.tree k s u)) → Lists r.tree menu Answer (suc k) s
lists_trim r menu Good Answer k s h g l good next deeper =
    let t = r.tree in
    let m = menu_at t menu k s in
    let f = branch r menu k s in
    let all : leaves t menu (levels_below t (suc k)) s ≡ flat_map f m = leaves_next r menu (suc k) k
    s next in
    let wide = (g.good (suc k) s good).wide in
    let join = λ (u : List ℕ). λ (on : has_tuple m u ≡ true). joins r k s u l wide
    (g.group k (on_node t k s) u on) in
    let find = λ (a : List ℕ). λ (p : has_tuple (leaves t menu (levels_below t (suc k)) s) a ≡ true).
    branch_of f m a (ap (λ (x : List (List ℕ)). has_tuple x a) (sym all) ∙ p) in
    record {
      opened = subst (λ (ks : List ℕ). MenusAreOpen t menu ks s) (sym next)
          (g.filled k s l good, λ u on. (deeper u on).opened);
      answers = λ a p. let b = find a p in (deeper b.branch b.on).answers a b.holds;
      alike = λ a p. let b = find a p in alike_back r k s b.branch a h (join b.branch b.on)
          ((deeper b.branch b.on).alike a b.holds);
      once =
          subst TuplesOnce (sym all)
          (once_flat f m (g.once k (on_node t k s)) (λ u on. (deeper u on).once)
          (λ u v a on too p q.
          alike_tuple r k s u a h (join u on) ((deeper u on).alike a p)
          ∙ sym (alike_tuple r k s v a h (join v too) ((deeper v too).alike a q))));
      complete = λ a answer alike.
          let u = on_node t (source t k) a in
          let on = g.picked k s a l good answer alike in
          ap (λ (x : List (List ℕ)). has_tuple x a) all
          ∙ has_branch f m u a on
          ((deeper u on).complete a answer (alike_step r k s u a h (join u on) refl alike));
    }

lists_kind : (r : Reducts) (menu : Menu) (Good : ℕ → List ℕ → Type 0) (Answer : List ℕ → Type 0)
    (k : ℕ) (s : List ℕ) (n : Node) → IsReducts r → IsGuide r menu Good Answer
    → r.tree.second_stage ≤ k → k < length r.tree.nodes
    → node_at r.tree.nodes k ≡ n → Good (suc k) s
    → ((a : List ℕ) → Good k a → Lists r.tree menu Answer k a)
    → Lists r.tree menu Answer (suc k) s
lists_kind r menu Good Answer k s (Leaf a) h g late within e good deeper =
    absurd (let low = h.family.is_tree.inner k a within e in let st = h.family.is_tree.stages.0 in
    omega arith)
lists_kind r menu Good Answer k s (Trim c) h g late within e good deeper =
    let l = trim_level r.tree k c e late within in
    lists_trim r menu Good Answer k s h g l good (level_at r.tree k (Trim c) late e)
    (λ u on. deeper (step r.tree k s u) (g.chosen k s u l good on))
lists_kind r menu Good Answer k s (Meet m d) h g late within e good deeper =
    lists_meet r menu Answer k m d s h within e (level_at r.tree k (Meet m d) late e)
    (deeper s (g.meet k m d s late within e good))

lists_at : (r : Reducts) (menu : Menu) (Good : ℕ → List ℕ → Type 0) (Answer : List ℕ → Type 0)
    (n k : ℕ) (s : List ℕ) → IsReducts r → IsGuide r menu Good Answer → k ≡ r.tree.second_stage + n
    → k ≤ length r.tree.nodes → Good k s
    → Lists r.tree menu Answer k s
lists_at r menu Good Answer zero k s h g at high good = lists_none r menu Good Answer k s h g
    (omega arith) good (no_levels r.tree k (omega arith))
lists_at r menu Good Answer (suc n) zero s h g at high good = absurd (omega arith)
lists_at r menu Good Answer (suc n) (suc k) s h g at high good =
    lists_kind r menu Good Answer k s (node_at r.tree.nodes k) h g (omega arith) (omega arith) refl
    good
    (λ a p. lists_at r menu Good Answer n k a h g (omega arith) (omega arith) p)

pub lists : (r : Reducts) (menu : Menu) (Good : ℕ → List ℕ → Type 0) (Answer : List ℕ → Type 0)
    (s : List ℕ) → IsReducts r → IsGuide r menu Good Answer → Good (length r.tree.nodes) s
    → Lists r.tree menu Answer (length r.tree.nodes) s
lists r menu Good Answer s h g good =
    let high = h.family.is_tree.stages.1 in
    lists_at r menu Good Answer (length r.tree.nodes - r.tree.second_stage) (length r.tree.nodes) s
    h g (omega arith) (omega arith) good

-- at the top every state is like every answer
pub alike_top : (t : Tree) (s a : List ℕ) → ProjectAlike t (length t.nodes) s a
alike_top t s a =
    record {
      below = λ i j from child. absurd
          (let w = child_within t.nodes i j child in omega arith);
    }

pub blank_wide : (t : Tree) → length (blank t) ≡ length t.head
blank_wide t = length-replicate (length t.head) 0

pub good_top : (r : Reducts) (s : List ℕ) → IsReducts r → length s ≡ length r.tree.head
    → 0 < count_of (entries_at r.tables (length r.tree.nodes - 1)) [] → IsGood r (length r.tree.nodes) s
good_top r s h wide root = record {
  late = h.family.is_tree.stages.1;
  wide = wide;
  root = root;
  below = λ i j from child. absurd (let w = child_within r.tree.nodes i j child in omega arith);
}

-- ---- Whole groups as menus: they list the answers.

pub whole_guide : (r : Reducts) → IsReducts r → IsGuide r (group_at r) (IsGood r) (IsAnswerOf r)
whole_guide r h = record {
  group = λ k w u on. on;
  once = λ k w. group_is_once r k w h;
  good = λ k s good. good;
  meet = λ k g d s late within e good. good_meet r k g d s h late within e good;
  filled = λ k s l good. group_is_filled r k (on_node r.tree k s) h l
      (node_in r k s h l.within good);
  chosen = λ k s u l good on. good_step r k s u h (joins r k s u l good.wide on) good;
  ends = λ s good. good_answer r s h good;
  answer = λ a answer. answer;
  picked = λ k s a l good answer alike. answer_in r k s a h l answer alike;
}

-- ---- whatever the menus are, they list their answers

-- the listing may be entered exactly where the blank state is good; and where it may not be, there
-- is no answer
pub record IsEntered (r : Reducts) (Good : ℕ → List ℕ → Type 0) (Answer : List ℕ → Type 0)
    (entered : Bool) : Type 0 where
  pub good : entered ≡ true → Good (length r.tree.nodes) (blank r.tree)
  pub none : entered ≡ false → (a : List ℕ) → Answer a → ⊥

pub clear_of : (r : Reducts) (menu : Menu) (Good : ℕ → List ℕ → Type 0) (Answer : List ℕ → Type 0)
    (entered : Bool) → IsReducts r → IsGuide r menu Good Answer → IsEntered r Good Answer entered
    → IsClear r menu entered
clear_of r menu Good Answer entered h g e = record {
  group = g.group;
  once = g.once;
  filled = λ is. (lists r menu Good Answer (blank r.tree) h g (e.good is)).opened;
}

-- all that is given, once
pub record Whole (Answer : List ℕ → Type 0) (all : List (List ℕ)) : Type 0 where
  pub answers : (a : List ℕ) → has_tuple all a ≡ true → Answer a
  pub once : TuplesOnce all
  pub complete : (a : List ℕ) → Answer a → has_tuple all a ≡ true

whole_cases : (r : Reducts) (menu : Menu) (Good : ℕ → List ℕ → Type 0) (Answer : List ℕ → Type 0)
    (entered b : Bool) → IsReducts r → IsGuide r menu Good Answer → IsEntered r Good Answer entered
    → b ≡ entered
    → Whole Answer (cond b (leaves r.tree menu (levels r.tree) (blank r.tree)) [])
whole_cases r menu Good Answer entered true h g e is =
    let l = lists r menu Good Answer (blank r.tree) h g (e.good (sym is)) in
    record {
      answers = l.answers;
      once = l.once;
      complete = λ a answer. l.complete a answer
          (alike_top r.tree (blank r.tree) a);
    }
whole_cases r menu Good Answer entered false h g e is = record {
  answers = λ a m. absurd (false≢true m);
  once = tt;
  complete = λ a answer. absurd (e.none (sym is) a answer);
}

pub whole_of : (r : Reducts) (menu : Menu) (Good : ℕ → List ℕ → Type 0) (Answer : List ℕ → Type 0)
    (entered : Bool) → IsReducts r → IsGuide r menu Good Answer → IsEntered r Good Answer entered
    → Whole Answer (all_given r menu entered)
whole_of r menu Good Answer entered h g e = whole_cases r menu Good Answer entered entered h g e
    refl

pub whole_listing : (Answer : List ℕ → Type 0) (all : List (List ℕ)) → Whole Answer all
    → ListsTuples Answer all
whole_listing Answer all w =
    record {
      different = different_of all w.once;
      all = all_of Answer all w.answers;
      complete = λ a
          answer. contains_of all a (w.complete a answer);
    }

pub front_some : (Answer : List ℕ → Type 0) (all front rest : List (List ℕ)) → Whole Answer all
    → all ≡ front ++ rest → AreSome Answer front
front_some Answer all front rest w e = record {
  different = different_of front (once_front front rest (subst TuplesOnce e w.once));
  all = all_of Answer front
      (λ a m. w.answers a (ap (λ (l : List (List ℕ)). has_tuple l a) e ∙ has_left front rest a m));
}

given_front : (r : Reducts) (menu : Menu) (entered : Bool) (cs : List Choice) (a : List ℕ)
    → FitsBy r menu entered At cs a → (rest : List (List ℕ))
    × (all_given r menu entered ≡ walk_given r menu entered At cs ++ rest)
given_front r menu entered cs a f =
    let n = length r.tree.nodes in
    let p = leaves_split r menu n (blank r.tree) cs f.1 in (
      p.rest,
      ap (λ (b : Bool). cond b (leaves r.tree menu (levels r.tree) (blank r.tree)) []) f.0
          ∙ p.all
          ∙ ap (λ (l : List (List ℕ)). l ++ p.rest) (given_whole r menu n (blank r.tree) cs f.2),
    )

-- what was given is different answers
pub given_some : (r : Reducts) (menu : Menu) (Answer : List ℕ → Type 0) (entered : Bool)
    (state : State) (cs : List Choice) (a : List ℕ) → Whole Answer (all_given r menu entered)
    → FitsBy r menu entered state cs a
    → AreSome Answer (walk_given r menu entered state cs)
given_some r menu Answer entered Start cs a w f =
    record { different = different_of [] tt; all = All-nil Answer }
given_some r menu Answer entered At cs a w f =
    let p = given_front r menu entered cs a f in
    front_some Answer (all_given r menu entered) (walk_given r menu entered At cs) p.0 w p.1
given_some r menu Answer entered End cs a w f =
    record {
      different = different_of (all_given r menu entered) w.once;
      all = all_of Answer
          (all_given r menu entered) w.answers;
    }

-- where all was given it is a listing
pub given_listing : (Answer : List ℕ → Type 0) (all given : List (List ℕ)) → Whole Answer all
    → given ≡ all → ListsTuples Answer given
given_listing Answer all given w e = subst (ListsTuples Answer) (sym e) (whole_listing Answer all w)

-- the last of different ones is none of the others
pub last_is_new : (Answer : List ℕ → Type 0) (old new : List (List ℕ)) (a : List ℕ)
    → new ≡ old ++ a ∷ [] → AreSome Answer new → Contains old a → ⊥
last_is_new Answer old new a e some c =
    let here : length old < length new =
    (let l = ap (λ (l : List (List ℕ)). length l) e ∙ length_push old a in omega arith) in
    let last : slice_index_or new (length old) [] ≡ a = ap
    (λ (l : List (List ℕ)). slice_index_or l (length old) []) e
    ∙ get_or_push old a [] (length old) refl in
    let first : slice_index_or new c.0 [] ≡ a =
    ap (λ (l : List (List ℕ)). slice_index_or l c.0 []) e
    ∙ get_or_append_left old (a ∷ []) [] c.0 c.1 ∙ get_or_default old c.0 [] a c.1 ∙ c.2 in
    some.different c.0 (length old) [] c.1 here (first ∙ sym last)

-- where one more was given it wasn't
pub one_left : (Answer : List ℕ → Type 0) (old new : List (List ℕ)) (a : List ℕ)
    → new ≡ old ++ a ∷ [] → AreSome Answer new → ListsTuples Answer old → ⊥
one_left Answer old new a e some listing =
    let here : length old < length new =
    (let l = ap (λ (l : List (List ℕ)). length l) e ∙ length_push old a in omega arith) in
    let last : slice_index_or new (length old) [] ≡ a = ap
    (λ (l : List (List ℕ)). slice_index_or l (length old) []) e
    ∙ get_or_push old a [] (length old) refl in
    let answer : Answer a = subst Answer last (some.all (length old) [] here) in
    last_is_new Answer old new a e some (listing.complete a answer)

-- ---- whole groups

root_true : (r : Reducts) → has_root r ≡ true
    → 0 < count_of (entries_at r.tables (length r.tree.nodes - 1)) []
unfolding has_root
root_true r e = ltb-true 0 (count_of (entries_at r.tables (length r.tree.nodes - 1)) []) e

root_false : (r : Reducts) → has_root r ≡ false
    → 0 < count_of (entries_at r.tables (length r.tree.nodes - 1)) [] → ⊥
unfolding has_root
root_false r e there = false≢true
    (sym e ∙ lt-ltb 0 (count_of (entries_at r.tables (length r.tree.nodes - 1)) []) there)

pub whole_entered : (r : Reducts) → IsReducts r → IsEntered r (IsGood r) (IsAnswerOf r) (has_root r)
whole_entered r h = record {
  good = λ is. good_top r (blank r.tree) h (blank_wide r.tree) (root_true r is);
  none = λ is a answer.
      root_false r is
      (subst (λ (u : List ℕ). 0 < count_of (entries_at r.tables (length r.tree.nodes - 1)) u)
      (root_node r.tree a h.family.is_tree)
      (answer.there (length r.tree.nodes - 1) h.family.is_tree.root_out));
}

pub whole_clear : (r : Reducts) → IsReducts r → IsClear r (group_at r) (has_root r)
whole_clear r h = clear_of r (group_at r) (IsGood r) (IsAnswerOf r) (has_root r) h (whole_guide r h)
    (whole_entered r h)

pub whole_answers : (r : Reducts) → IsReducts r
    → Whole (IsAnswerOf r) (all_given r (group_at r) (has_root r))
whole_answers r h = whole_of r (group_at r) (IsGood r) (IsAnswerOf r) (has_root r) h
    (whole_guide r h) (whole_entered r h)

-- ---- a cursor over reducts

pub start_fits : (r : Reducts) (cs : List Choice) (a : List ℕ) → cs ≡ []
    → Fits r (record { places = cs; state = Start; answer = a })
unfolding Fits
start_fits r cs a e = e

pub start_given : (r : Reducts) (cs : List Choice) (a : List ℕ)
    → given r (record { places = cs; state = Start; answer = a }) ≡ []
unfolding given
start_given r cs a = refl

pub fits_by : (r : Reducts) (c : Cursor) → Fits r c
    → FitsBy r (group_at r) (has_root r) c.state c.places c.answer
unfolding Fits
fits_by r c f = f

pub by_fits : (r : Reducts) (c : Cursor)
    → FitsBy r (group_at r) (has_root r) c.state c.places c.answer → Fits r c
unfolding Fits
by_fits r c f = f

pub cursor_answers : (r : Reducts) (c : Cursor) → IsReducts r → Fits r c
    → AreSome (IsAnswerOf r) (given r c)
unfolding given Fits
cursor_answers r c h f = given_some r (group_at r) (IsAnswerOf r) (has_root r) c.state c.places
    c.answer (whole_answers r h) f

pub cursor_one : (r : Reducts) (old new : Cursor) (a : List ℕ) (b : Bool)
    → OnTrue b
    (walk_given r (group_at r) (has_root r) new.state new.places ≡ walk_given r (group_at r)
    (has_root r) old.state old.places ++ a ∷ []) → OnTrue b (given r new ≡ given r old ++ a ∷ [])
unfolding given
cursor_one r old new a b h = h

pub on_false_both : (b : Bool) (x y z : List (List ℕ)) → OnFalse b (x ≡ z) → OnFalse b (y ≡ z)
    → OnFalse b (y ≡ x)
on_false_both true x y z p q = tt
on_false_both false x y z p q = q ∙ sym p

pub cursor_same : (r : Reducts) (old new : Cursor) (b : Bool)
    → OnFalse b
    (walk_given r (group_at r) (has_root r) old.state old.places ≡ all_given r (group_at r)
    (has_root r))
    → OnFalse b
    (walk_given r (group_at r) (has_root r) new.state new.places ≡ all_given r (group_at r)
    (has_root r))
    → OnFalse b (given r new ≡ given r old)
unfolding given
cursor_same r old new b p q = on_false_both b
    (walk_given r (group_at r) (has_root r) old.state old.places)
    (walk_given r (group_at r) (has_root r) new.state new.places)
    (all_given r (group_at r) (has_root r)) p q

pub cursor_end : (r : Reducts) (old new : Cursor) (a : List ℕ) (b : Bool) → IsReducts r → Fits r new
    → OnTrue b
    (walk_given r (group_at r) (has_root r) new.state new.places ≡ walk_given r (group_at r)
    (has_root r) old.state old.places ++ a ∷ [])
    → OnFalse b (walk_given r (group_at r) (has_root r) old.state old.places ≡ all_given r
    (group_at r) (has_root r)) → (b ≡ false) ↔ ListsTuples (IsAnswerOf r) (given r old)
unfolding given Fits
cursor_end r old new a true h f one all = (
  λ e. absurd (false≢true (sym e)),
  λ listing. absurd
      (one_left (IsAnswerOf r) (given r old) (given r new) a one (cursor_answers r new h f)
      listing),
)
cursor_end r old new a false h f one all = (
  λ e. given_listing (IsAnswerOf r) (all_given r (group_at r) (has_root r)) (given r old)
      (whole_answers r h) all,
  λ listing. refl,
)
