-- Going on to the next answer, and whether one is left.
use Rattle.std.proofs.Common.{◌≡◌, ℕ, zero, suc, ◌<◌, ◌≤◌, Bool, true, false, cond, List, [], ◌∷◌, ◌++◌, length, refl}
use Rattle.std.proofs.Common.{ap, sym, subst, ◌∙◌, arith, ◌+◌, Option, Some, ap₂, ◌-◌, None}
use Rattle.std.specs.Prelude.{nat_le, option_to_list, ◌↔◌, flat_map, take, slice_index_or, is_some, IfSome, IfNone}
use Rattle.std.proofs.lemmas.Bool.{leb-true, leb-false, false≢true}
use Rattle.std.proofs.lemmas.List.{length_push, append_assoc, take_more}
use Rattle.std.specs.Bool.{OnTrue, OnFalse}
use Rattle.djq_index.specs.declared.place.Place.{Place}
use Rattle.djq_tree.specs.declared.node.Node.{Node}
use Rattle.djq_tree.specs.declared.node.Node.TheVariants.{Leaf, Trim, Meet}
use Rattle.djq_tree.specs.Tree.{Tree, IsTree, node_at}
use Rattle.djq_tree.specs.Levels.{levels, levels_below, level_on}
use Rattle.djq_tree.specs.Counts.{IsSmall}
use Rattle.djq_reduct.specs.Answers.{on_node, IsAnswerOf}
use Rattle.djq_reduct.specs.Reducts.{Reducts, IsReducts}
use Rattle.djq_enumeration.specs.declared.cursor.State.{State}
use Rattle.djq_enumeration.specs.declared.cursor.State.TheVariants.{At, Start}
use Rattle.djq_enumeration.specs.declared.places.Choice.{Choice}
use Rattle.djq_enumeration.specs.declared.cursor.Cursor.{Cursor}
use Rattle.djq_enumeration.specs.Menus.{IsFirstTuple, has_tuple, TuplesOnce, tuples_behind}
use Rattle.djq_enumeration.specs.Levels.{IsNextLevel, step, group_at}
use Rattle.djq_enumeration.specs.Walk.{Menu, menu_at, chosen, here, answers_ahead, reached_level, Descends, GoesThrough}
use Rattle.djq_enumeration.specs.Walk.{MenusAreOpen, IsComplete, IsFirstAt, ProjectAlike, AreGroupMenus, ChoicesStand}
use Rattle.djq_enumeration.specs.Walk.{FitsBy, ahead_of, blank, walk_given, made_by, IsAlive, leaves, IsClear, HasNext}
use Rattle.djq_enumeration.specs.Walk.{menu_answers, all_given}
use Rattle.djq_enumeration.specs.Listing.{IsTupleLeft, ListsTuples}
use Rattle.djq_enumeration.specs.Given.{has_root, given}
use Rattle.djq_enumeration.proofs.States.{node_alike, alike_meet}
use Rattle.djq_enumeration.proofs.LevelChoices.{joins, step_wide, same_step, alike_back, alike_same, chosen_wide}
use Rattle.djq_enumeration.proofs.LevelChoices.{next_is, reached_within, here_wide}
use Rattle.djq_enumeration.proofs.ListedAnswers.{blank_wide, Whole, whole_answers, front_some, given_listing}
use Rattle.djq_enumeration.proofs.ListedAnswers.{last_is_new}
use Rattle.djq_enumeration.proofs.Menus.{Joins, joins_first, follows_push, follows_pop, here_push, before_first}
use Rattle.djq_enumeration.proofs.Menus.{reached_push, next_filled, joins_next, length_levels, given_to, given_last}
use Rattle.djq_enumeration.proofs.Menus.{given_next, still_open, leaves_split, has_here, has_right}

-- ---- An answer is kept from call to call: what choices write stays, until others write over it.

-- ---- alike answers, down to the next level

alike_flip : (t : Tree) (k : ℕ) (s a : List ℕ) → ProjectAlike t k s a → ProjectAlike t k a s
alike_flip t k s a h = record { below = λ i j from child. sym (h.below i j from child) }

alike_up : (t : Tree) (k n : ℕ) (s a : List ℕ) → k ≤ n → ProjectAlike t k s a → ProjectAlike t n s a
alike_up t k n s a low h = record { below = λ i j from child. h.below i j (omega arith) child }

alike_kind : (t : Tree) (n k : ℕ) (m : Node) (s a : List ℕ) → IsTree t → t.second_stage ≤ n
    → n < length t.nodes → node_at t.nodes n ≡ m → level_on n m (levels_below t n) ≡ k ∷ levels_below t k
    → ProjectAlike t (suc n) s a
    → (levels_below t n ≡ k ∷ levels_below t k → ProjectAlike t n s a → ProjectAlike t (suc k) s a)
    → ProjectAlike t (suc k) s a
alike_kind t n k (Leaf b) s a h late within e next alike deeper =
    absurd (let low = h.inner n b within e in let st = h.stages.0 in omega arith)
alike_kind t n k (Trim c) s a h late within e next alike deeper =
    let same : n ≡ k = cc in subst (λ (i : ℕ). ProjectAlike t (suc i) s a) same alike
alike_kind t n k (Meet g d) s a h late within e next alike deeper =
    deeper next (alike_meet t n g d s a h within e alike)

alike_test : (t : Tree) (n k : ℕ) (b : Bool) (s a : List ℕ) → IsTree t → nat_le t.second_stage n ≡ b
    → n < length t.nodes
    → cond b (level_on n (node_at t.nodes n) (levels_below t n)) [] ≡ k ∷ levels_below t k
    → ProjectAlike t (suc n) s a
    → (levels_below t n ≡ k ∷ levels_below t k → ProjectAlike t n s a → ProjectAlike t (suc k) s a)
    → ProjectAlike t (suc k) s a
alike_test t n k true s a h late within next alike deeper =
    alike_kind t n k (node_at t.nodes n) s a h (leb-true t.second_stage n late) within refl next
    alike deeper
alike_test t n k false s a h early within next alike deeper = absurd cc

alike_down : (t : Tree) (n k : ℕ) (s a : List ℕ) → IsTree t → n ≤ length t.nodes
    → IsNextLevel t n k → ProjectAlike t n s a → ProjectAlike t (suc k) s a
alike_down t zero k s a h high next alike = absurd cc
alike_down t (suc n) k s a h high next alike =
    alike_test t n k (nat_le t.second_stage n) s a h refl (omega arith) next alike
    (λ deeper same. alike_down t n k s a h (omega arith) deeper same)

-- and down to the end
end_kind : (t : Tree) (n : ℕ) (m : Node) (s a : List ℕ) → IsTree t → t.second_stage ≤ n
    → n < length t.nodes → node_at t.nodes n ≡ m → level_on n m (levels_below t n) ≡ []
    → ProjectAlike t (suc n) s a
    → (levels_below t n ≡ [] → ProjectAlike t n s a → ProjectAlike t t.second_stage s a)
    → ProjectAlike t t.second_stage s a
end_kind t n (Leaf b) s a h late within e none alike deeper =
    absurd (let low = h.inner n b within e in let st = h.stages.0 in omega arith)
end_kind t n (Trim c) s a h late within e none alike deeper = absurd cc
end_kind t n (Meet g d) s a h late within e none alike deeper =
    deeper none (alike_meet t n g d s a h within e alike)

end_test : (t : Tree) (n : ℕ) (b : Bool) (s a : List ℕ) → IsTree t → nat_le t.second_stage n ≡ b
    → n < length t.nodes
    → cond b (level_on n (node_at t.nodes n) (levels_below t n)) [] ≡ []
    → ProjectAlike t (suc n) s a
    → (levels_below t n ≡ [] → ProjectAlike t n s a → ProjectAlike t t.second_stage s a)
    → ProjectAlike t t.second_stage s a
end_test t n true s a h late within none alike deeper =
    end_kind t n (node_at t.nodes n) s a h (leb-true t.second_stage n late) within refl none alike
    deeper
end_test t n false s a h early within none alike deeper =
    let low = leb-false t.second_stage n early in
    alike_up t (suc n) t.second_stage s a (omega arith) alike

alike_end : (t : Tree) (n : ℕ) (s a : List ℕ) → IsTree t → n ≤ length t.nodes
    → levels_below t n ≡ [] → ProjectAlike t n s a → ProjectAlike t t.second_stage s a
alike_end t zero s a h high none alike = alike_up t 0 t.second_stage s a (omega arith) alike
alike_end t (suc n) s a h high none alike =
    end_test t n (nat_le t.second_stage n) s a h refl (omega arith) none alike
    (λ deeper same. alike_end t n s a h (omega arith) deeper same)

-- ---- the answer that is kept

made_wide : (r : Reducts) (cs : List Choice) → length (made_by r cs) ≡ length r.tree.head
made_wide r cs = here_wide r (blank r.tree) cs ∙ blank_wide r.tree

pub made_stands : (r : Reducts) (menu : Menu) (cs : List Choice) (a : List ℕ)
    → Descends r menu cs → a ≡ made_by r cs → ChoicesStand r menu cs a
made_stands r menu cs a f e = record {
  follows = f;
  wide = ap (λ (s : List ℕ). length s) e ∙ made_wide r cs;
  alike = record { below = λ i j from child. ap (λ (s : List ℕ). on_node r.tree j s) e };
}

pub stands_made : (r : Reducts) (menu : Menu) (cs : List Choice) (a : List ℕ) → IsReducts r
    → ChoicesStand r menu cs a → IsComplete r cs → a ≡ made_by r cs
stands_made r menu cs a h st whole =
    let n = length r.tree.nodes in
    let low = reached_within r menu n (blank r.tree) cs (omega arith) st.follows in
    alike_same r a (made_by r cs) h st.wide (made_wide r cs)
    (alike_end r.tree (reached_level n cs) a (made_by r cs) h.family.is_tree low whole st.alike)

-- the next level's cells are known
pub stands_key : (r : Reducts) (menu : Menu) (k : ℕ) (cs : List Choice) (a : List ℕ) → IsReducts r
    → ChoicesStand r menu cs a → IsNextLevel r.tree (reached_level (length r.tree.nodes) cs) k
    → on_node r.tree k a ≡ on_node r.tree k (made_by r cs)
stands_key r menu k cs a h st next =
    let n = length r.tree.nodes in
    let tree = h.family.is_tree in
    let low = reached_within r menu n (blank r.tree) cs (omega arith) st.follows in
    let is = next_is r.tree (reached_level n cs) k (levels_below r.tree k) low next in
    node_alike r.tree k a (made_by r cs) tree is.1.within
    (alike_down r.tree (reached_level n cs) k a (made_by r cs) tree low next st.alike)

-- a choice more is written
pub stands_push : (r : Reducts) (menu : Menu) (cs new : List Choice) (c : Choice) (a b : List ℕ)
    → IsReducts r → ChoicesStand r menu cs a → Joins r menu (length r.tree.nodes) (blank r.tree) cs c
    → b ≡ step r.tree c.level a (chosen r c) → new ≡ cs ++ c ∷ [] → ChoicesStand r menu new b
stands_push r menu cs new c a b h st j e pushed =
    let t = r.tree in
    let n = length t.nodes in
    let k = c.level in
    let u = chosen r c in
    let m = made_by r cs in
    let tree = h.family.is_tree in
    let low = reached_within r menu n (blank t) cs (omega arith) st.follows in
    let is = next_is t (reached_level n cs) k (levels_below t k) low j.next in
    let long = chosen_wide r c (record { level = is.1; live = j.live }) h in
    let both = same_step t k a m u tree is.1 long st.wide (made_wide r cs)
    (alike_down t (reached_level n cs) k a m tree low j.next st.alike) in
    let made : step t k m u ≡ made_by r new = sym (here_push r (blank t) cs c)
    ∙ ap (λ (ds : List Choice). made_by r ds) (sym pushed) in
    let at : k ≡ reached_level n new = sym
    (ap (λ (ds : List Choice). reached_level n ds) pushed ∙ reached_push n cs c) in
    record {
      follows = subst (λ (ds : List Choice). GoesThrough r menu n (blank t) ds) (sym pushed)
          (follows_push r menu n (blank t) cs c st.follows j);
      wide = ap (λ (s : List ℕ). length s) e ∙ step_wide t k a u ∙ st.wide;
      alike = subst (λ (i : ℕ). ProjectAlike t i b (made_by r new)) at
          (subst (λ (s : List ℕ). ProjectAlike t k b s) made
          (subst (λ (s : List ℕ). ProjectAlike t k s (step t k m u)) (sym e) both));
    }

-- a choice less is looked at: it wrote no cell of those before it
pub stands_pop : (r : Reducts) (menu : Menu) (old new : List Choice) (c : Choice) (a : List ℕ)
    → IsReducts r → AreGroupMenus r menu → ChoicesStand r menu old a → old ≡ new ++ c ∷ []
    → ChoicesStand r menu new a
stands_pop r menu old new c a h group st e =
    let t = r.tree in
    let n = length t.nodes in
    let k = c.level in
    let u = chosen r c in
    let m = made_by r new in
    let p = follows_pop r menu n (blank t) new c
    (subst (λ (cs : List Choice). GoesThrough r menu n (blank t) cs) e st.follows) in
    let low = reached_within r menu n (blank t) new (omega arith) p.0 in
    let is = next_is t (reached_level n new) k (levels_below t k) low p.1.next in
    let below = is.0 in
    let j = joins r k m u is.1 (made_wide r new) (group k (on_node t k m) u p.1.on) in
    let made : made_by r old ≡ step t k m u = ap (λ (ds : List Choice). made_by r ds) e
    ∙ here_push r (blank t) new c in
    let at : reached_level n old ≡ k = ap (λ (ds : List Choice). reached_level n ds) e ∙ reached_push n new c in
    let alike = subst (λ (i : ℕ). ProjectAlike t i a (step t k m u)) at
    (subst (λ (s : List ℕ). ProjectAlike t (reached_level n old) a s) made st.alike) in
    let back = alike_back r k m u a h j (alike_flip t k a (step t k m u) alike) in
    record {
      follows = p.0;
      wide = st.wide;
      alike = alike_up t (suc k) (reached_level n new) a m (omega arith) (alike_flip t (suc k) m a back);
    }

-- ---- the first tuple of the next level is chosen

-- there is one
pub some_first : (r : Reducts) (menu : Menu) (n k : ℕ) (cs : List Choice) (a : List ℕ)
    → IsReducts r → ChoicesStand r menu cs a → n ≡ reached_level (length r.tree.nodes) cs
    → MenusAreOpen r.tree menu (levels r.tree) (blank r.tree) → IsNextLevel r.tree n k
    → menu_at r.tree menu k a ≡ [] → ⊥
some_first r menu n k cs a h st is opened next none =
    let at = subst (λ (i : ℕ). IsNextLevel r.tree i k) is next in
    next_filled r menu (length r.tree.nodes) k (blank r.tree) cs st.follows opened at
    (ap (λ (w : List ℕ). menu k w) (sym (stands_key r menu k cs a h st at)) ∙ none)

pub record Chosen (r : Reducts) (menu : Menu) (cs new : List Choice) (a : List ℕ) (c : Choice) :
    Type 0 where
  pub stands : ChoicesStand r menu new a
  pub before : answers_ahead r menu (blank r.tree) new ≡ answers_ahead r menu (blank r.tree) cs
  pub reached : c.level ≡ reached_level (length r.tree.nodes) new

pub chosen_first : (r : Reducts) (menu : Menu) (n : ℕ) (cs new : List Choice) (a b : List ℕ)
    (c : Choice) → IsReducts r → ChoicesStand r menu cs a → n ≡ reached_level (length r.tree.nodes) cs
    → IsNextLevel r.tree n c.level
    → IsFirstAt r (menu_at r.tree menu c.level a) c → b ≡ step r.tree c.level a (chosen r c)
    → new ≡ cs ++ c ∷ [] → Chosen r menu cs new b c
chosen_first r menu n cs new a b c h st is next f e pushed =
    let top = length r.tree.nodes in
    let s = blank r.tree in
    let at = subst (λ (i : ℕ). IsNextLevel r.tree i c.level) is next in
    let first : IsFirstTuple (menu_at r.tree menu c.level (here r s cs)) (chosen r c) = subst
    (λ (w : List ℕ). IsFirstTuple (menu c.level w) (chosen r c))
    (stands_key r menu c.level cs a h st at) f.first in
    let j = joins_first r menu top s cs c at f.live first in
    record {
      stands = stands_push r menu cs new c a b h st j e pushed;
      before = ap (λ (ds : List Choice). answers_ahead r menu s ds) pushed
          ∙ before_first r menu s cs c first;
      reached = sym (ap (λ (ds : List Choice). reached_level top ds) pushed ∙ reached_push top cs c);
    }

-- ---- the state At

pub at_fits : (r : Reducts) (menu : Menu) (entered : Bool) (state : State) (cs : List Choice)
    (a : List ℕ) → state ≡ At → FitsBy r menu entered state cs a → FitsBy r menu entered At cs a
at_fits r menu entered state cs a is f = subst
    (λ (s : State). FitsBy r menu entered s cs a) is f

pub fits_at : (r : Reducts) (menu : Menu) (entered : Bool) (state : State) (cs : List Choice)
    (a : List ℕ) → state ≡ At → FitsBy r menu entered At cs a → FitsBy r menu entered state cs a
fits_at r menu entered state cs a is f = subst
    (λ (s : State). FitsBy r menu entered s cs a) (sym is) f

pub given_at : (r : Reducts) (menu : Menu) (entered : Bool) (state : State) (cs : List Choice)
    → state ≡ At → walk_given r menu entered state cs ≡ ahead_of r menu cs ++ made_by r cs ∷ []
given_at r menu entered state cs is = ap (λ (s : State). walk_given r menu entered s cs) is

-- ---- Going on to the next answer.

pub pop_is : (old new : List Choice) (o : Option Choice) (c : Choice)
    → old ≡ new ++ option_to_list o → o ≡ Some c → old ≡ new ++ c ∷ []
pop_is old new o c taken some = taken ∙ ap (λ (p : Option Choice). new ++ option_to_list p) some

-- the choices without the last one, which joins them
pub record Retreats (r : Reducts) (menu : Menu) (old new : List Choice) (c : Choice) : Type 0 where
  pub follows : GoesThrough r menu (length r.tree.nodes) (blank r.tree) new
  pub joins : Joins r menu (length r.tree.nodes) (blank r.tree) new c
  pub alive : IsAlive r c
  pub shorter : length old ≡ length new + 1

pub retreat : (r : Reducts) (menu : Menu) (old new : List Choice) (c : Choice)
    → GoesThrough r menu (length r.tree.nodes) (blank r.tree) old → old ≡ new ++ c ∷ []
    → Retreats r menu old new c
retreat r menu old new c f e =
    let n = length r.tree.nodes in
    let p = follows_pop r menu n (blank r.tree) new c
    (subst (λ (cs : List Choice). GoesThrough r menu n (blank r.tree) cs) e f) in
    let low = reached_within r menu n (blank r.tree) new (omega arith) p.0 in
    record {
      follows = p.0;
      joins = p.1;
      alive = record {
        level =
            (next_is r.tree (reached_level n new) c.level (levels_below r.tree c.level) low p.1.next).1;
        live = p.1.live;
      };
      shorter = ap (λ (cs : List Choice). length cs) e ∙ length_push new c;
    }

-- the last choice has no next tuple
pub given_without : (r : Reducts) (menu : Menu) (old new : List Choice) (c : Choice)
    (all : List (List ℕ)) → Retreats r menu old new c → old ≡ new ++ c ∷ []
    → ((w : List ℕ) → has_tuple (menu c.level w) (chosen r c) ≡ true
    → tuples_behind (menu c.level w) (chosen r c) ≡ [])
    → given_to r menu (length r.tree.nodes) (blank r.tree) old ≡ all
    → given_to r menu (length r.tree.nodes) (blank r.tree) new ≡ all
given_without r menu old new c all t e last given =
    let n = length r.tree.nodes in
    let s = blank r.tree in
    sym (given_last r menu n s new c t.joins
    (last (on_node r.tree c.level (here r s new)) t.joins.on))
    ∙ sym (ap (λ (cs : List Choice). given_to r menu n s cs) e)
    ∙ given

-- the last choice takes its next tuple
pub record Advances (r : Reducts) (menu : Menu) (all : List (List ℕ)) (new : List Choice)
    (a : List ℕ) (d : Choice) : Type 0 where
  pub stands : ChoicesStand r menu new a
  pub before : answers_ahead r menu (blank r.tree) new ≡ all
  pub reached : d.level ≡ reached_level (length r.tree.nodes) new
  pub long : length new + length (levels_below r.tree d.level) ≡ length (levels r.tree)

pub advances : (r : Reducts) (menu : Menu) (old mid new : List Choice) (c d : Choice) (a b : List ℕ)
    (all : List (List ℕ)) → IsReducts r → AreGroupMenus r menu → ChoicesStand r menu old a
    → Retreats r menu old mid c → old ≡ mid ++ c ∷ []
    → ((k : ℕ) (w : List ℕ) → TuplesOnce (menu k w))
    → d.level ≡ c.level
    → ((w : List ℕ) → has_tuple (menu c.level w) (chosen r c) ≡ true
    → IsFirstAt r (tuples_behind (menu c.level w) (chosen r c)) d)
    → b ≡ step r.tree d.level a (chosen r d) → new ≡ mid ++ d ∷ []
    → given_to r menu (length r.tree.nodes) (blank r.tree) old ≡ all → Advances r menu all new b d
advances r menu old mid new c d a b all h group st t e once same next is pushed given =
    let n = length r.tree.nodes in
    let s = blank r.tree in
    let f = next (on_node r.tree c.level (here r s mid)) t.joins.on in
    let j = joins_next r menu n s mid c d t.joins same f.first f.live in
    let stands = stands_push r menu mid new d a b h
    (stands_pop r menu old mid c a h group st e) j is pushed in
    let reach : d.level ≡ reached_level n new = sym
    (ap (λ (cs : List Choice). reached_level n cs) pushed ∙ reached_push n mid d) in
    record {
      stands = stands;
      before =
          ap (λ (cs : List Choice). answers_ahead r menu s cs) pushed
          ∙ sym (given_next r menu n s mid c d
          (once c.level (on_node r.tree c.level (here r s mid))) same f.first)
          ∙ sym (ap (λ (cs : List Choice). given_to r menu n s cs) e)
          ∙ given;
      reached = reach;
      long = ap (λ (k : ℕ). length new + length (levels_below r.tree k)) reach
          ∙ length_levels r menu n s new stands.follows;
    }

-- as many choices as levels, where all have one
pub all_levels : (r : Reducts) (menu : Menu) (cs : List Choice)
    → GoesThrough r menu (length r.tree.nodes) (blank r.tree) cs
    → levels_below r.tree (reached_level (length r.tree.nodes) cs) ≡ []
    → length cs ≡ length (levels r.tree)
all_levels r menu cs f e =
    let l = length_levels r menu (length r.tree.nodes) (blank r.tree) cs f in
    let z : length (levels_below r.tree (reached_level (length r.tree.nodes) cs)) ≡ 0 = ap
    (λ (ks : List ℕ). length ks) e in
    omega arith

pub few_choices : (r : Reducts) (menu : Menu) (cs : List Choice) → IsReducts r → IsSmall r.tree
    → GoesThrough r menu (length r.tree.nodes) (blank r.tree) cs → length cs ≤ 16
few_choices r menu cs h small f =
    let l = length_levels r menu (length r.tree.nodes) (blank r.tree) cs f in
    let few = small.few_levels in
    let narrow = h.family.narrow.head in
    omega arith

-- ---- Whether an answer is left.

-- ---- an open listing has a first answer

first_branch : (f : List ℕ → List (List ℕ)) (us : List (List ℕ)) → (us ≡ [] → ⊥)
    → ((u : List ℕ) → has_tuple us u ≡ true → HasNext [] (f u)) → HasNext [] (flat_map f us)
first_branch f [] some each = absurd (some refl)
first_branch f (u ∷ us) some each =
    let b = each u (has_here u us) in
    record {
      next = b.next;
      rest = b.rest ++ flat_map f us;
      is = ap (λ (l : List (List ℕ)). l ++ flat_map f us) b.is;
    }

pub open_leaf : (t : Tree) (menu : Menu) (ks s : List ℕ) → MenusAreOpen t menu ks s
    → HasNext [] (leaves t menu ks s)
open_leaf t menu [] s o = record { next = s; rest = []; is = refl }
open_leaf t menu (k ∷ ks) s o = first_branch _ _ o.0
    (λ u on. open_leaf t menu ks _ (o.1 u on))

-- ---- where a choice has a next tuple

pub next_left : (r : Reducts) (menu : Menu) (old mid : List Choice) (c d : Choice)
    (all : List (List ℕ)) → Retreats r menu old mid c → old ≡ mid ++ c ∷ []
    → ((k : ℕ) (w : List ℕ) → TuplesOnce (menu k w))
    → MenusAreOpen r.tree menu (levels r.tree) (blank r.tree) → d.level ≡ c.level
    → ((w : List ℕ) → has_tuple (menu c.level w) (chosen r c) ≡ true
    → IsFirstAt r (tuples_behind (menu c.level w) (chosen r c)) d)
    → given_to r menu (length r.tree.nodes) (blank r.tree) old ≡ all
    → HasNext all (menu_answers r.tree menu)
next_left r menu old mid c d all t e once opened same next given =
    let n = length r.tree.nodes in
    let s = blank r.tree in
    let cs : List Choice = mid ++ d ∷ [] in
    let w = on_node r.tree c.level (here r s mid) in
    let f = next w t.joins.on in
    let j = joins_next r menu n s mid c d t.joins same f.first f.live in
    let follows = follows_push r menu n s mid d t.follows j in
    let split = leaves_split r menu n s cs follows in
    let leaf = open_leaf r.tree menu (levels_below r.tree (reached_level n cs)) (here r s cs)
    (still_open r menu n s cs follows opened) in
    let front : answers_ahead r menu s cs ≡ all =
    sym (given_next r menu n s mid c d (once c.level w) same f.first)
    ∙ sym (ap (λ (ds : List Choice). given_to r menu n s ds) e) ∙ given in
    record {
      next = leaf.next;
      rest = leaf.rest ++ split.rest;
      is =
          split.all
          ∙ ap₂ (λ (a b : List (List ℕ)). (a ++ b) ++ split.rest) front leaf.is
          ∙ append_assoc all (leaf.next ∷ leaf.rest) split.rest;
    }

-- the choices up to one, which is taken away
pub cut : (cs made : List Choice) (at : ℕ) (d : Choice) → made ≡ cs → 0 < at → at ≤ length cs
    → take at cs ≡ take (at - 1) cs ++ slice_index_or made (at - 1) d ∷ []
cut cs made at d e some within =
    let next : at ≡ (at - 1) + 1 = omega arith in
    ap (λ (n : ℕ). take n cs) next
    ∙ take_more cs (at - 1) d (omega arith)
    ∙ ap (λ (ds : List Choice). take (at - 1) cs ++ slice_index_or ds (at - 1) d ∷ []) (sym e)

-- the same with what was found behind the choice
pub found_left : (r : Reducts) (menu : Menu) (old mid : List Choice) (c : Choice)
    (found : Option Place) (all : List (List ℕ)) → Retreats r menu old mid c
    → old ≡ mid ++ c ∷ [] → ((k : ℕ) (w : List ℕ) → TuplesOnce (menu k w))
    → MenusAreOpen r.tree menu (levels r.tree) (blank r.tree) → true ≡ is_some found
    → IfSome found (λ p. (w : List ℕ) → has_tuple (menu c.level w) (chosen r c) ≡ true
    → IsFirstAt r (tuples_behind (menu c.level w) (chosen r c)) (record { level = c.level; place = p }))
    → given_to r menu (length r.tree.nodes) (blank r.tree) old ≡ all
    → HasNext all (menu_answers r.tree menu)
found_left r menu old mid c (Some p) all t e once opened some next given =
    next_left r menu old mid c (record { level = c.level; place = p }) all t e once opened refl next
    given
found_left r menu old mid c None all t e once opened some next given =
    absurd (false≢true (sym some))

pub none_found : (found : Option Place) (P : Type 0) → false ≡ is_some found → IfNone found P → P
none_found None P none p = p
none_found (Some q) P none p = absurd (false≢true none)

-- ---- at the start

start_cases : (all : List (List ℕ)) (entered b : Bool) → b ≡ entered
    → (entered ≡ true → HasNext [] all) → OnTrue b (HasNext [] (cond entered all []))
start_cases all true true e h = h refl
start_cases all false true e h = absurd (false≢true (sym e))
start_cases all entered false e h = tt

pub start_left : (r : Reducts) (menu : Menu) (entered b : Bool) (state : State) (cs : List Choice)
    → state ≡ Start → IsClear r menu entered → b ≡ entered
    → OnTrue b (HasNext (walk_given r menu entered state cs) (all_given r menu entered))
start_left r menu entered b state cs is clear e =
    subst
    (λ (s : State). OnTrue b (HasNext (walk_given r menu entered s cs) (all_given r menu entered)))
    (sym is)
    (start_cases (menu_answers r.tree menu) entered b e
    (λ may. open_leaf r.tree menu (levels r.tree) (blank r.tree) (clear.filled may)))

-- ---- in answers

next_is_left : (Answer : List ℕ → Type 0) (all given : List (List ℕ)) → Whole Answer all
    → HasNext given all → (u : List ℕ) × IsTupleLeft Answer given u
next_is_left Answer all given w h = (
  h.next,
  record {
    is = w.answers h.next
        (ap (λ (l : List (List ℕ)). has_tuple l h.next) h.is
        ∙ has_right given (h.next ∷ h.rest) h.next (has_here h.next h.rest));
    fresh = last_is_new Answer given (given ++ h.next ∷ []) h.next refl
        (front_some Answer all (given ++ h.next ∷ []) h.rest w
        (h.is ∙ sym (append_assoc given (h.next ∷ []) h.rest)));
  },
)

left_or_all : (Answer : List ℕ → Type 0) (all given : List (List ℕ)) (b : Bool)
    → Whole Answer all → OnTrue b (HasNext given all) → OnFalse b (given ≡ all)
    → (b ≡ false) ↔ ListsTuples Answer given
left_or_all Answer all given true w left none = (
  λ e. absurd (false≢true (sym e)),
  λ listing.
      let u = next_is_left Answer all given w left in
      absurd (u.1.fresh (listing.complete u.0 u.1.is)),
)
left_or_all Answer all given false w left none =
    (λ e. given_listing Answer all given w none, λ listing. refl)

some_left : (Answer : List ℕ → Type 0) (all given : List (List ℕ)) (b : Bool) → Whole Answer all
    → OnTrue b (HasNext given all) → OnTrue b ((u : List ℕ) × IsTupleLeft Answer given u)
some_left Answer all given true w left = next_is_left Answer all given w left
some_left Answer all given false w left = tt

pub cursor_left : (r : Reducts) (c : Cursor) (b : Bool) → IsReducts r
    → OnTrue b (HasNext (walk_given r (group_at r) (has_root r) c.state c.places)
    (all_given r (group_at r) (has_root r)))
    → OnTrue b ((u : List ℕ) × IsTupleLeft (IsAnswerOf r) (given r c) u)
unfolding given
cursor_left r c b h left = some_left (IsAnswerOf r) (all_given r (group_at r) (has_root r))
    (given r c) b (whole_answers r h) left

pub cursor_done : (r : Reducts) (c : Cursor) (b : Bool) → IsReducts r
    → OnTrue b (HasNext (walk_given r (group_at r) (has_root r) c.state c.places)
    (all_given r (group_at r) (has_root r)))
    → OnFalse b (walk_given r (group_at r) (has_root r) c.state c.places ≡ all_given r (group_at r)
    (has_root r)) → (b ≡ false) ↔ ListsTuples (IsAnswerOf r) (given r c)
unfolding given
cursor_done r c b h left none = left_or_all (IsAnswerOf r)
    (all_given r (group_at r) (has_root r)) (given r c) b (whole_answers r h) left none
