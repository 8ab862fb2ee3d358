-- What an update of the leaves, of one row or many, makes of a registered query.
use Rattle.std.proofs.Common.{◌≡◌, ℕ, ◌+◌, ◌*◌, ◌<◌, ◌≤◌, Bool, true, false, List, [], ◌∷◌, length, map, refl, ap, sym}
use Rattle.std.proofs.Common.{subst, ◌∙◌, inl, inr, arith, length-append, ◌++◌}
use Rattle.std.specs.Prelude.{◌==◌, Contains, Some, slice_get}
use Rattle.std.proofs.lemmas.Bool.{cases_lt, cases_eq}
use Rattle.std.proofs.lemmas.List.{get_or_past}
use Rattle.std.proofs.lemmas.Nat.{mul-le}
use Rattle.std.proofs.lemmas.Option.{slice_get_within}
use Rattle.djq_hypergraph.specs.Hypergraph.{member}
use Rattle.djq_hypergraph.proofs.Sets.{member_here}
use Rattle.djq_model.specs.declared.query.Query.{Query}
use Rattle.djq_model.specs.declared.relation.Relation.{Relation}
use Rattle.djq_model.specs.Data.{Bytes, Tuple, tuples_in}
use Rattle.djq_model.specs.Answer.{IsAnswer, AreDifferent}
use Rattle.djq_model.proofs.Copies.{rest_differ}
use Rattle.djq_index.specs.Entries.{count_of}
use Rattle.djq_index.specs.Tuple.{same}
use Rattle.djq_index.proofs.Tuples.{same_cases, one_le, one_other}
use Rattle.djq_tree.specs.Tree.{Tree}
use Rattle.djq_union.proofs.Merges.{none_contained}
use Rattle.djq_protocol.specs.declared.answer.Sign.TheVariants.{Came as HasCome, Went as HasGone}
use Rattle.djq_reduct.specs.Reducts.{Reducts, SameTables, IsReducts}
use Rattle.djq_reduct.specs.Tables.{entries_at}
use Rattle.djq_reduct.proofs.Assignments.{member_on, one_family}
use Rattle.djq_database.specs.Catalog.{Catalog, IsCatalog, no_relation, rows_at, relation_at}
use Rattle.djq_database.proofs.Cells.{differ as cells_differ}
use Rattle.djq_enumeration.specs.Listing.{ListsTuples}
use Rattle.djq_enumeration.specs.Changed.{IsGained}
use Rattle.djq_enumeration.specs.Log.{Log}
use Rattle.djq_propagate.specs.Batches.{times}
use Rattle.djq_query.specs.declared.numbered.NumberedAtom.{NumberedAtom}
use Rattle.djq_query.specs.Numbered.{Numbered}
use Rattle.djq_query.specs.Pattern.{Shape}
use Rattle.djq_store_spec.specs.Delta.{Change}
use Rattle.djq_store_spec.specs.Registering.{most_steps}
use Rattle.djq_binder.proofs.EdgeOrder.{in_cons, first_different}
use Rattle.djq_leaves.specs.Leaves.{IsOver}
use Rattle.djq_leaves.specs.Changes.{IsLater, CameAll, WentAll, GainsTuple, GainsAll, Loses, LosesAll, StandForRows}
use Rattle.djq_leaves.specs.Stepping.{LacksCells, Has, HasMore, ChangesBelow, AreLeaves, HoldBelow, ListsWhere}
use Rattle.djq_leaves.specs.Stepping.{atoms_below, answer_lines}
use Rattle.djq_leaves.specs.Batching.{AreDistinct, AreTuples, RowsFit, CanTake, GainsTuples, LosesTuples}
use Rattle.djq_leaves.proofs.LeafRows.{one_of, has_at}
use Rattle.djq_leaves.proofs.LeafUpdates.{part_few}
use Rattle.djq_leaves.proofs.Batches.{times_in}
use Rattle.djq_live_query.specs.Shown.{shown}
use Rattle.djq_live_query.specs.Live.{Live, IsKept, SameQuery, values_of}
use Rattle.djq_live_query.specs.Updating.{CanAdd, CanDelete, LiveAfter, IsDeltaOf, LogsWhere, CountsDelta, atoms_over}
use Rattle.djq_live_query.specs.Updating.{change_of, CanAddAll}
use Rattle.djq_live_query.proofs.TreeAnswers.{tree_answer}
use Rattle.djq_live_query.proofs.LeafRows.{leaf_few, leaves_of, none_there, all_there, added_kept, lost_kept}
use Rattle.djq_live_query.proofs.LeafRows.{back_kept, back_tables, same_kept}
use Rattle.djq_live_query.proofs.ShownAnswers.{new_lines, old_lines}
use Rattle.djq_live_query.proofs.Deltas.{IsPart, whole_part, some_part, part_answer, part_differ, shown_later, Shows}
use Rattle.djq_live_query.proofs.Deltas.{ShowsAll, came_delta, went_delta, few_changes, lines_came, lines_went}
use Rattle.djq_live_query.proofs.HeadTuples.{head_narrow}
use Rattle.djq_live_query.proofs.Catalogs.{stands_in}

-- ---- What an update of the leaves makes of a registered query.

-- ---- the head

member_in : (l : List ℕ) (x : ℕ) → Contains l x → member x l ≡ true
member_in [] x c = absurd (none_contained x c)
member_in (y ∷ l) x c =
    elim (in_cons y x l c) [
      | inl here ↦ subst (λ (z : ℕ). member z (y ∷ l) ≡ true) here (member_here y l)
      | inr there ↦ member_on x y l (member_in l x there)
    ]

-- ---- before the leaves are changed

pub inside : (P : List NumberedAtom → List Shape → Type 0) (a b : List NumberedAtom)
    (p q : List Shape) → a ≡ b → p ≡ q → P b q → P a p
inside P a b p q e f h =
    subst (λ (x : List NumberedAtom). P x p) (sym e) (subst (λ (y : List Shape). P b y) (sym f) h)

pub outside : (P : List NumberedAtom → List Shape → Type 0) (a b : List NumberedAtom)
    (p q : List Shape) → a ≡ b → p ≡ q → P a p → P b q
outside P a b p q e f h =
    subst (λ (x : List NumberedAtom). P x q) e (subst (λ (y : List Shape). P a y) f h)

pub delete_leaves : (l : Live) (at : ℕ) (cells : List ℕ) (atoms : List NumberedAtom)
    (ps : List Shape) → atoms ≡ (l.numbered).atoms → ps ≡ l.patterns → CanDelete l at cells
    → AreLeaves at cells atoms ps l.reducts
delete_leaves l at cells atoms ps e f can =
    inside (λ a p. AreLeaves at cells a p l.reducts) atoms (l.numbered).atoms ps l.patterns e f
    (leaves_of can.before can.after l.query l.numbered l.patterns l.reducts at cells can.row
    can.kept.over can.went.later can.went.stand.0)

pub delete_there : (l : Live) (at : ℕ) (cells : List ℕ) (atoms : List NumberedAtom)
    (ps : List Shape) → atoms ≡ (l.numbered).atoms → ps ≡ l.patterns → CanDelete l at cells
    → HoldBelow (λ p es. Has cells p es) at atoms ps (length atoms) l.reducts
delete_there l at cells atoms ps e f can =
    inside (λ a p. HoldBelow (λ x es. Has cells x es) at a p (length a) l.reducts) atoms
    (l.numbered).atoms ps l.patterns e f
    (all_there can.before can.after l.query l.numbered l.patterns l.reducts at cells can.row
    (length (l.numbered).atoms) can.kept.over can.there can.went)

pub add_leaves : (l : Live) (at : ℕ) (cells : List ℕ) (atoms : List NumberedAtom)
    (ps : List Shape) → atoms ≡ (l.numbered).atoms → ps ≡ l.patterns → CanAdd l at cells
    → AreLeaves at cells atoms ps l.reducts
add_leaves l at cells atoms ps e f can =
    inside (λ a p. AreLeaves at cells a p l.reducts) atoms (l.numbered).atoms ps l.patterns e f
    (leaves_of can.before can.after l.query l.numbered l.patterns l.reducts at cells can.row
    can.kept.over can.came.later can.came.stand.0)

pub add_lacks : (l : Live) (at : ℕ) (cells : List ℕ) (atoms : List NumberedAtom)
    (ps : List Shape) → atoms ≡ (l.numbered).atoms → ps ≡ l.patterns → CanAdd l at cells
    → HoldBelow (λ p es. LacksCells cells p es) at atoms ps (length atoms) l.reducts
add_lacks l at cells atoms ps e f can =
    inside (λ a p. HoldBelow (λ x es. LacksCells cells x es) at a p (length a) l.reducts) atoms
    (l.numbered).atoms ps l.patterns e f
    (record {
      each = λ j m p low a b on u gives.
          (none_there can.before can.after l.query l.numbered l.patterns l.reducts at (cells ∷ [])
          (can.row ∷ []) (length (l.numbered).atoms) can.kept.over can.came).each j m p low a b on
          u (one_of p u cells gives);
    })

-- no relation has more rows than there are numbers
pub rows_few : (c : Catalog) (at : ℕ) → IsCatalog c → length (rows_at c.relations at) ≤ 4294967295
rows_few c at h =
    elim (cases_lt at (length c.relations)) [
      | inl low ↦ (h.kept at no_relation low).few
      | inr past ↦
          (let e = ap (λ (r : Relation). length (tuples_in r))
          (get_or_past c.relations at no_relation (omega arith)) in
          omega arith)
    ]

-- so one is left in each leaf over a relation into which a row came
pub add_few : (l : Live) (at : ℕ) (cells : List ℕ) (atoms : List NumberedAtom)
    (ps : List Shape) → atoms ≡ (l.numbered).atoms → ps ≡ l.patterns → CanAdd l at cells
    → HoldBelow (λ _ es. length es < 4294967295) at atoms ps (length atoms) l.reducts
add_few l at cells atoms ps e f can =
    inside (λ a p. HoldBelow (λ _ es. length es < 4294967295) at a p (length a) l.reducts) atoms
    (l.numbered).atoms ps l.patterns e f
    (record {
      each = λ j m p low a b on.
          let few = leaf_few can.before l j m p can.kept (let k = can.kept.over.long in omega arith)
          a b in
          let here = ap (λ (i : ℕ). length (rows_at can.before.relations i)) on in
          let more = ap (λ (rows : List Tuple). length rows) can.came.rows
          ∙ length-append (rows_at can.before.relations at) (can.row ∷ []) in
          let most = rows_few can.after at can.came.later.catalog in
          omega arith;
    })

pub can_add : (l self : Live) (at : ℕ) (cells : List ℕ) → l ≡ self → CanAdd self at cells
    → CanAdd l at cells
can_add l self at cells e can = subst (λ (x : Live). CanAdd x at cells) (sym e) can

pub can_delete : (l self : Live) (at : ℕ) (cells : List ℕ) → l ≡ self → CanDelete self at cells
    → CanDelete l at cells
can_delete l self at cells e can = subst (λ (x : Live). CanDelete x at cells) (sym e) can

-- ---- afterwards

pub same_query : (l self : Live) (s : Reducts) → l ≡ self → s.tree ≡ (l.reducts).tree
    → SameQuery self (record l { reducts = s })
same_query l self s e tree =
    subst (λ (x : Live). SameQuery x (record l { reducts = s })) e
    (record { query = refl; numbered = refl; patterns = refl; tree = tree; cursors = refl })

pub follows_came : (l self : Live) (s : Reducts) (at : ℕ) (cells : List (List ℕ))
    (atoms : List NumberedAtom) (ps : List Shape) → l ≡ self → atoms ≡ (l.numbered).atoms
    → ps ≡ l.patterns
    → ChangesBelow (λ p old new. GainsAll p cells old new) at atoms ps (length atoms) l.reducts s
    → LiveAfter (λ c d. CameAll c d at cells) self (record l { reducts = s })
follows_came l self s at cells atoms ps e a p change = λ c d rows h came.
    added_kept c d l s at cells rows (subst (λ (x : Live). IsKept c x) (sym e) h) came
    (outside (λ x y. ChangesBelow (λ q old new. GainsAll q cells old new) at x y (length x)
    l.reducts s)
    atoms (l.numbered).atoms ps l.patterns a p change)

pub follows_went : (l self : Live) (s : Reducts) (at : ℕ) (cells : List (List ℕ))
    (atoms : List NumberedAtom) (ps : List Shape) → l ≡ self → atoms ≡ (l.numbered).atoms
    → ps ≡ l.patterns
    → ChangesBelow (λ p old new. LosesAll p cells old new) at atoms ps (length atoms) l.reducts s
    → LiveAfter (λ c d. WentAll c d at cells) self (record l { reducts = s })
follows_went l self s at cells atoms ps e a p change = λ c d gone h went.
    lost_kept c d l s at cells gone (subst (λ (x : Live). IsKept c x) (sym e) h) went
    (outside (λ x y. ChangesBelow (λ q old new. LosesAll q cells old new) at x y (length x) l.reducts
    s)
    atoms (l.numbered).atoms ps l.patterns a p change)

pub given_back : (l self : Live) (s t : Reducts) (at : ℕ) (cells : List ℕ)
    (atoms : List NumberedAtom) (ps : List Shape) (k : ℕ) → l ≡ self
    → atoms ≡ (l.numbered).atoms → ps ≡ l.patterns → CanAdd l at cells
    → ChangesBelow (λ p old new. GainsTuple p cells old new) at atoms ps k l.reducts s
    → ChangesBelow (λ p old new. Loses p cells old new) at atoms ps k s t
    → (c : Catalog) → IsKept c self → IsKept c (record l { reducts = t })
given_back l self s t at cells atoms ps k e a p can gains loses = λ c h.
    back_kept c l s t at cells k
    (add_lacks l at cells (l.numbered).atoms l.patterns refl refl can)
    (outside (λ x y. ChangesBelow (λ q old new. GainsTuple q cells old new) at x y k l.reducts s) atoms
    (l.numbered).atoms ps l.patterns a p gains)
    (outside (λ x y. ChangesBelow (λ q old new. Loses q cells old new) at x y k s t) atoms
    (l.numbered).atoms ps l.patterns a p loses)
    (subst (λ (x : Live). IsKept c x) (sym e) h)

pub tables_back : (l self : Live) (s t : Reducts) (at : ℕ) (cells : List ℕ)
    (atoms : List NumberedAtom) (ps : List Shape) (k : ℕ) → l ≡ self
    → atoms ≡ (l.numbered).atoms → ps ≡ l.patterns → CanAdd l at cells
    → ChangesBelow (λ p old new. GainsTuple p cells old new) at atoms ps k l.reducts s
    → ChangesBelow (λ p old new. Loses p cells old new) at atoms ps k s t
    → SameTables self.reducts t
tables_back l self s t at cells atoms ps k e a p can gains loses =
    subst (λ (x : Live). SameTables x.reducts t) e
    (back_tables can.before l s t at cells k
    (add_lacks l at cells (l.numbered).atoms l.patterns refl refl can)
    (outside (λ x y. ChangesBelow (λ q old new. GainsTuple q cells old new) at x y k l.reducts s) atoms
    (l.numbered).atoms ps l.patterns a p gains)
    (outside (λ x y. ChangesBelow (λ q old new. Loses q cells old new) at x y k s t) atoms
    (l.numbered).atoms ps l.patterns a p loses)
    can.kept)

-- ---- what answers show

shows_part : (c : Catalog) (q : Query) (n : Numbered) (r : Reducts) → IsPart c q n r
    → Shows (IsAnswer c.relations q) r (λ u. shown c.texts n r.tree.head u)
shows_part c q n r h = record {
  to = λ u is. part_answer c q n r u h is;
  apart = λ u v is other e. part_differ c q n r u v h is other e;
}

shows_all : (c : Catalog) (q : Query) (n : Numbered) (ps : List Shape) (r : Reducts)
    → IsOver c q n ps r
    → ShowsAll (IsAnswer c.relations q) r (λ u. shown c.texts n r.tree.head u)
shows_all c q n ps r h = λ t is.
    let s = tree_answer c q n ps r t h is in
    record { of = s.tuple; is_answer = s.is_answer; is = s.is }

part_later : (c d : Catalog) (q : Query) (n : Numbered) (r : Reducts) → IsPart c q n r
    → IsLater c d → Shows (IsAnswer c.relations q) r (λ u. shown d.texts n r.tree.head u)
part_later c d q n r h later = record {
  to = λ u is. subst (λ (t : Tuple). IsAnswer c.relations q t)
      (sym (shown_later c d q n r u h later is)) (part_answer c q n r u h is);
  apart = λ u v is other e. part_differ c q n r u v h is other
      (sym (shown_later c d q n r u h later is) ∙ e ∙ shown_later c d q n r v h later other);
}

all_later : (c d : Catalog) (q : Query) (n : Numbered) (ps : List Shape) (r : Reducts)
    → IsOver c q n ps r → IsLater c d
    → ShowsAll (IsAnswer c.relations q) r (λ u. shown d.texts n r.tree.head u)
all_later c d q n ps r h later = λ t is.
    let s = tree_answer c q n ps r t h is in
    record {
      of = s.tuple;
      is_answer = s.is_answer;
      is = s.is ∙ sym (shown_later c d q n r s.tuple (whole_part c q n ps r h) later s.is_answer);
    }

shows_as : (P : Tuple → Type 0) (texts : List Bytes) (n : Numbered) (r s : Reducts)
    → s.tree ≡ r.tree → Shows P s (λ u. shown texts n s.tree.head u)
    → Shows P s (λ u. shown texts n r.tree.head u)
shows_as P texts n r s e h =
    subst (λ (t : Tree). Shows P s (λ u. shown texts n t.head u)) e h

all_as : (P : Tuple → Type 0) (texts : List Bytes) (n : Numbered) (r s : Reducts)
    → s.tree ≡ r.tree → ShowsAll P s (λ u. shown texts n s.tree.head u)
    → ShowsAll P s (λ u. shown texts n r.tree.head u)
all_as P texts n r s e h =
    subst (λ (t : Tree). ShowsAll P s (λ u. shown texts n t.head u)) e h

-- ---- logs

gains_log : (l : Live) (s : Reducts) (at : ℕ) (cells : List (List ℕ)) (us : List (List ℕ))
    (c d : Catalog) (rows : List Tuple) → HasMore l.reducts s
    → ChangesBelow (λ p old new. GainsAll p cells old new) at (l.numbered).atoms l.patterns
    (length (l.numbered).atoms) l.reducts s
    → ListsTuples (IsGained s l.reducts) us → IsKept c l → CameAll c d at cells rows
    → IsDeltaOf l c d (map (change_of d.texts l) (answer_lines true us))
gains_log l s at cells us c d rows more change listing h came =
    let q = l.query in
    let n = l.numbered in
    let r = l.reducts in
    let over = (added_kept c d l s at cells rows h came change).over in
    subst (λ (cs : List Change). IsDeltaOf l c d cs) (sym (lines_came d.texts l us))
    (came_delta (IsAnswer c.relations q) (IsAnswer d.relations q) s r (values_of d.texts l) us
    change.sound h.over.reducts more
    (shows_as (IsAnswer d.relations q) d.texts n r s change.tree
    (shows_part d q n s (whole_part d q n l.patterns s over)))
    (all_as (IsAnswer d.relations q) d.texts n r s change.tree
    (shows_all d q n l.patterns s over))
    (part_later c d q n r (whole_part c q n l.patterns r h.over) came.later)
    (all_later c d q n l.patterns r h.over came.later) listing)

loses_log : (l : Live) (s : Reducts) (at : ℕ) (cells : List (List ℕ)) (us : List (List ℕ))
    (c d : Catalog) (gone : List Tuple) → HasMore s l.reducts
    → ChangesBelow (λ p old new. LosesAll p cells old new) at (l.numbered).atoms l.patterns
    (length (l.numbered).atoms) l.reducts s
    → ListsTuples (IsGained l.reducts s) us → IsKept c l → WentAll c d at cells gone
    → IsDeltaOf l c d (map (change_of d.texts l) (answer_lines false us))
loses_log l s at cells us c d gone more change listing h went =
    let q = l.query in
    let n = l.numbered in
    let r = l.reducts in
    let over = (lost_kept c d l s at cells gone h went change).over in
    subst (λ (cs : List Change). IsDeltaOf l c d cs) (sym (lines_went d.texts l us))
    (went_delta (IsAnswer c.relations q) (IsAnswer d.relations q) r s (values_of d.texts l) us
    h.over.reducts change.sound more
    (part_later c d q n r (whole_part c q n l.patterns r h.over) went.later)
    (all_later c d q n l.patterns r h.over went.later)
    (shows_as (IsAnswer d.relations q) d.texts n r s change.tree
    (shows_part d q n s (whole_part d q n l.patterns s over)))
    (all_as (IsAnswer d.relations q) d.texts n r s change.tree
    (shows_all d q n l.patterns s over)) listing)

came_logged : (wanted : Bool) (l : Live) (s : Reducts) (at : ℕ) (cells : List (List ℕ))
    (h calls : ℕ) (log new : Log) (x y : ℕ) → HasMore l.reducts s
    → ChangesBelow (λ p old new. GainsAll p cells old new) at (l.numbered).atoms l.patterns
    (length (l.numbered).atoms) l.reducts s
    → ListsWhere wanted true (IsGained s l.reducts) h calls log new x y
    → LogsWhere wanted (λ c d. CameAll c d at cells) l log new
came_logged true l s at cells h calls log new x y more change k = record {
  lines = answer_lines true k.answers;
  behind = k.tells.behind;
  tells = λ whole c d rows kept came. gains_log l s at cells k.answers c d rows more change
      k.listing kept came;
  shown = λ whole c d rows kept came. new_lines d l s k.answers
      (added_kept c d l s at cells rows kept came change) change.tree
      (λ i u low. (k.listing.all i u low).is);
  stays = k.tells.stays;
}
came_logged false l s at cells h calls log new x y more change k = k.0

went_logged : (wanted : Bool) (l : Live) (s : Reducts) (at : ℕ) (cells : List (List ℕ))
    (h calls : ℕ) (log new : Log) (x y : ℕ) → HasMore s l.reducts
    → ChangesBelow (λ p old new. LosesAll p cells old new) at (l.numbered).atoms l.patterns
    (length (l.numbered).atoms) l.reducts s
    → ListsWhere wanted false (IsGained l.reducts s) h calls log new x y
    → LogsWhere wanted (λ c d. WentAll c d at cells) l log new
went_logged true l s at cells h calls log new x y more change k = record {
  lines = answer_lines false k.answers;
  behind = k.tells.behind;
  tells = λ whole c d gone kept went. loses_log l s at cells k.answers c d gone more change
      k.listing kept went;
  shown = λ whole c d gone kept went. old_lines c d l k.answers kept went.later
      (λ i u low. (k.listing.all i u low).is);
  stays = k.tells.stays;
}
went_logged false l s at cells h calls log new x y more change k = k.0

-- ---- counts

within : (x y a b m n h k : ℕ) → y ≤ x + (a + m) * most_steps h → a ≤ b → m ≤ n → h ≤ k
    → y ≤ x + (b + n) * most_steps k
within x y a b m n h k e f g i =
    let product = mul-le (a + m) (most_steps h) (b + n) (most_steps k) (omega arith) (omega arith)
    in
    omega arith

came_counted : (wanted : Bool) (l : Live) (s : Reducts) (at : ℕ) (cells : List (List ℕ)) (k : ℕ)
    (log new : Log) (x y : ℕ) → HasMore l.reducts s
    → ChangesBelow (λ p old new. GainsAll p cells old new) at (l.numbered).atoms l.patterns k
    l.reducts s
    → ListsWhere wanted true (IsGained s l.reducts) (length (l.reducts).tree.head)
    (atoms_below at (l.numbered).atoms k) log new x y
    → CountsDelta wanted (λ c d. CameAll c d at cells) l at x y
came_counted true l s at cells k log new x y more change lists = λ c d rows changes h came delta.
    let q = l.query in
    let n = l.numbered in
    let r = l.reducts in
    within x y (length lists.answers) (length changes) (atoms_below at n.atoms k)
    (atoms_over l at) (length r.tree.head) (length q.head) lists.counted
    (few_changes (IsAnswer d.relations q) (IsAnswer c.relations q) (IsAnswer c.relations q)
    (IsAnswer d.relations q) HasCome s r (values_of d.texts l) lists.answers changes
    change.sound h.over.reducts more
    (shows_as (IsAnswer d.relations q) d.texts n r s change.tree
    (shows_part d q n s
    (some_part c d q n l.patterns r s at cells rows k h.over came change)))
    (all_later c d q n l.patterns r h.over came.later) lists.listing
    (λ t is none. (is, none)) delta)
    (part_few (λ (a : NumberedAtom). a.relation == at) n.atoms k)
    (head_narrow c q n l.patterns r h.over)
came_counted false l s at cells k log new x y more change lists = lists.1

went_counted : (wanted : Bool) (l : Live) (s : Reducts) (at : ℕ) (cells : List (List ℕ)) (k : ℕ)
    (log new : Log) (x y : ℕ) → HasMore s l.reducts
    → ChangesBelow (λ p old new. LosesAll p cells old new) at (l.numbered).atoms l.patterns
    (length (l.numbered).atoms) l.reducts s
    → ListsWhere wanted false (IsGained l.reducts s) (length (l.reducts).tree.head)
    (atoms_below at (l.numbered).atoms k) log new x y
    → CountsDelta wanted (λ c d. WentAll c d at cells) l at x y
went_counted true l s at cells k log new x y more change lists = λ c d gone changes h went delta.
    let q = l.query in
    let n = l.numbered in
    let r = l.reducts in
    let over = (lost_kept c d l s at cells gone h went change).over in
    within x y (length lists.answers) (length changes) (atoms_below at n.atoms k)
    (atoms_over l at) (length r.tree.head) (length q.head) lists.counted
    (few_changes (IsAnswer c.relations q) (IsAnswer d.relations q) (IsAnswer c.relations q)
    (IsAnswer d.relations q) HasGone r s (values_of d.texts l) lists.answers changes
    h.over.reducts change.sound more
    (part_later c d q n r (whole_part c q n l.patterns r h.over) went.later)
    (all_as (IsAnswer d.relations q) d.texts n r s change.tree
    (shows_all d q n l.patterns s over)) lists.listing
    (λ t is none. (is, none)) delta)
    (part_few (λ (a : NumberedAtom). a.relation == at) n.atoms k)
    (head_narrow c q n l.patterns r h.over)
went_counted false l s at cells k log new x y more change lists = lists.1

-- ---- the same, of what a call has in hand

pub logs_came : (wanted : Bool) (l self : Live) (s : Reducts) (at : ℕ) (cells : List (List ℕ))
    (atoms : List NumberedAtom) (ps : List Shape) (h calls : ℕ) (log new : Log) (x y : ℕ)
    → l ≡ self → atoms ≡ (l.numbered).atoms → ps ≡ l.patterns → HasMore l.reducts s
    → ChangesBelow (λ p old new. GainsAll p cells old new) at atoms ps (length atoms) l.reducts s
    → ListsWhere wanted true (IsGained s l.reducts) h calls log new x y
    → LogsWhere wanted (λ c d. CameAll c d at cells) self log new
logs_came wanted l self s at cells atoms ps h calls log new x y e a p more change lists =
    subst (λ (z : Live). LogsWhere wanted (λ c d. CameAll c d at cells) z log new) e
    (came_logged wanted l s at cells h calls log new x y more
    (outside (λ v w. ChangesBelow (λ q old new. GainsAll q cells old new) at v w (length v)
    l.reducts s)
    atoms (l.numbered).atoms ps l.patterns a p change) lists)

pub logs_went : (wanted : Bool) (l self : Live) (s : Reducts) (at : ℕ) (cells : List (List ℕ))
    (atoms : List NumberedAtom) (ps : List Shape) (h calls : ℕ) (log new : Log) (x y : ℕ)
    → l ≡ self → atoms ≡ (l.numbered).atoms → ps ≡ l.patterns → HasMore s l.reducts
    → ChangesBelow (λ p old new. LosesAll p cells old new) at atoms ps (length atoms) l.reducts s
    → ListsWhere wanted false (IsGained l.reducts s) h calls log new x y
    → LogsWhere wanted (λ c d. WentAll c d at cells) self log new
logs_went wanted l self s at cells atoms ps h calls log new x y e a p more change lists =
    subst (λ (z : Live). LogsWhere wanted (λ c d. WentAll c d at cells) z log new) e
    (went_logged wanted l s at cells h calls log new x y more
    (outside (λ v w. ChangesBelow (λ q old new. LosesAll q cells old new) at v w (length v) l.reducts
    s)
    atoms (l.numbered).atoms ps l.patterns a p change) lists)

pub counts_came : (wanted : Bool) (l self : Live) (s : Reducts) (at : ℕ) (cells : List (List ℕ))
    (atoms : List NumberedAtom) (ps : List Shape) (k : ℕ) (log new : Log) (x y : ℕ)
    → l ≡ self → atoms ≡ (l.numbered).atoms → ps ≡ l.patterns → HasMore l.reducts s
    → ChangesBelow (λ p old new. GainsAll p cells old new) at atoms ps k l.reducts s
    → ListsWhere wanted true (IsGained s l.reducts) (length (l.reducts).tree.head)
    (atoms_below at atoms k) log new x y
    → CountsDelta wanted (λ c d. CameAll c d at cells) self at x y
counts_came wanted l self s at cells atoms ps k log new x y e a p more change lists =
    subst (λ (z : Live). CountsDelta wanted (λ c d. CameAll c d at cells) z at x y) e
    (came_counted wanted l s at cells k log new x y more
    (outside (λ v w. ChangesBelow (λ q old new. GainsAll q cells old new) at v w k l.reducts s)
    atoms (l.numbered).atoms ps l.patterns a p change)
    (subst (λ (v : List NumberedAtom). ListsWhere wanted true (IsGained s l.reducts)
    (length (l.reducts).tree.head) (atoms_below at v k) log new x y) a lists))

pub counts_went : (wanted : Bool) (l self : Live) (s : Reducts) (at : ℕ) (cells : List (List ℕ))
    (atoms : List NumberedAtom) (ps : List Shape) (log new : Log) (x y : ℕ) → l ≡ self
    → atoms ≡ (l.numbered).atoms → ps ≡ l.patterns → HasMore s l.reducts
    → ChangesBelow (λ p old new. LosesAll p cells old new) at atoms ps (length atoms) l.reducts s
    → ListsWhere wanted false (IsGained l.reducts s) (length (l.reducts).tree.head)
    (atoms_below at atoms (length atoms)) log new x y
    → CountsDelta wanted (λ c d. WentAll c d at cells) self at x y
counts_went wanted l self s at cells atoms ps log new x y e a p more change lists =
    subst (λ (z : Live). CountsDelta wanted (λ c d. WentAll c d at cells) z at x y) e
    (went_counted wanted l s at cells (length (l.numbered).atoms) log new x y more
    (outside (λ v w. ChangesBelow (λ q old new. LosesAll q cells old new) at v w (length v) l.reducts
    s)
    atoms (l.numbered).atoms ps l.patterns a p change)
    (subst (λ (v : List NumberedAtom). ListsWhere wanted false (IsGained l.reducts s)
    (length (l.reducts).tree.head) (atoms_below at v (length v)) log new x y) a lists))

-- ---- one row

pub follows_one : (Changed : Catalog → Catalog → List Tuple → Type 0) (l m : Live) → LiveAfter Changed l m
    → LiveAfter (λ c d row. Changed c d (row ∷ [])) l m
follows_one Changed l m h = λ c d row kept changed. h c d (row ∷ []) kept changed

pub logs_one : (Changed : Catalog → Catalog → List Tuple → Type 0) (wanted : Bool) (l : Live) (log new : Log)
    → LogsWhere wanted Changed l log new → LogsWhere wanted (λ c d row. Changed c d (row ∷ [])) l log new
logs_one Changed true l log new h = record {
  lines = h.lines;
  behind = h.behind;
  tells = λ whole c d row kept changed. h.tells whole c d (row ∷ []) kept changed;
  shown = λ whole c d row kept changed. h.shown whole c d (row ∷ []) kept changed;
  stays = h.stays;
}
logs_one Changed false l log new h = h

pub counts_one : (Changed : Catalog → Catalog → List Tuple → Type 0) (wanted : Bool) (l : Live) (at x y : ℕ)
    → CountsDelta wanted Changed l at x y → CountsDelta wanted (λ c d row. Changed c d (row ∷ [])) l at x y
counts_one Changed true l at x y h = λ c d row changes kept changed delta.
    h c d (row ∷ []) changes kept changed delta
counts_one Changed false l at x y h = h

-- ---- What a registered query is where many rows come at once.

-- ---- rows that came

pub distinct_at : (d : Catalog) (at : ℕ) (cells : List (List ℕ)) (new : List Tuple) (v : List ℕ)
    → StandForRows d at cells new → AreDifferent new → times cells v ≤ 1
unfolding times
distinct_at d at [] [] v h differ = omega arith
distinct_at d at [] (row ∷ new) v h differ = absurd h
distinct_at d at (k ∷ cells) [] v h differ = absurd h
distinct_at d at (k ∷ cells) (row ∷ new) v h differ =
    let few = one_le (same k v) in
    elim (same_cases k v) [
      | inr other ↦
          omega (arith, one_other k v other, distinct_at d at cells new v h.1 (rest_differ row new differ))
      | inl here ↦
          elim (cases_lt 0 (times cells v)) [
            | inr none ↦ omega arith
            | inl some ↦
                let s = stands_in d at cells new v h.1 (times_in cells v some) in
                absurd
                (first_different row s.row new differ s.there
                (cells_differ d.texts (relation_at d.relations at).types row s.row h.0.of s.stand.of
                h.0.have s.stand.have (sym h.0.are ∙ here ∙ s.stand.are)))
          ]
    ]

last_differ : (xs ys : List Tuple) → AreDifferent (xs ++ ys) → AreDifferent ys
last_differ [] ys d = d
last_differ (x ∷ xs) ys d = last_differ xs ys (rest_differ x (xs ++ ys) d)

none_differ : AreDifferent []
none_differ i j d a b = absurd (omega arith)

rows_differ : (c : Catalog) (at : ℕ) → IsCatalog c → AreDifferent (rows_at c.relations at)
rows_differ c at h =
    elim (cases_lt at (length c.relations)) [
      | inl low ↦ (h.kept at no_relation low).differ
      | inr past ↦ subst (λ (rows : List Tuple). AreDifferent rows)
          (sym (ap (λ (r : Relation). tuples_in r)
          (get_or_past c.relations at no_relation (omega arith)))) none_differ
    ]

pub came_distinct : (c d : Catalog) (at : ℕ) (cells : List (List ℕ)) (new : List Tuple)
    → CameAll c d at cells new → AreDistinct cells
came_distinct c d at cells new came = record {
  each = λ v. distinct_at d at cells new v came.stand
      (last_differ (rows_at c.relations at) new
      (subst (λ (rows : List Tuple). AreDifferent rows) came.rows
      (rows_differ d at came.later.catalog)));
}

stands_long : (d : Catalog) (at : ℕ) (cells : List (List ℕ)) (new : List Tuple)
    → StandForRows d at cells new → length cells ≡ length new
stands_long d at [] [] h = omega arith
stands_long d at [] (row ∷ new) h = absurd h
stands_long d at (k ∷ cells) [] h = absurd h
stands_long d at (k ∷ cells) (row ∷ new) h = (let l = stands_long d at cells new h.1 in omega arith)

-- ---- before the leaves are changed

pub can_add_all : (l self : Live) (at : ℕ) (cells : List (List ℕ)) → l ≡ self
    → CanAddAll self at cells → CanAddAll l at cells
can_add_all l self at cells e can = subst (λ (x : Live). CanAddAll x at cells) (sym e) can

pub rows_fit : (l : Live) (at : ℕ) (cells : List (List ℕ)) (j : ℕ) (m : NumberedAtom) (p : Shape)
    → CanAddAll l at cells → slice_get (l.numbered).atoms j ≡ Some m → slice_get l.patterns j ≡ Some p
    → m.relation ≡ at → RowsFit cells p
rows_fit l at cells j m p can e f on = λ row is.
    let s = stands_in can.after at cells can.rows row can.came.stand is in
    (leaves_of can.before can.after l.query l.numbered l.patterns l.reducts at row s.row
    can.kept.over can.came.later s.stand).fits j m p e f on

pub leaves_take : (l : Live) (at : ℕ) (cells : List (List ℕ)) (batch : List (List (List ℕ)))
    → CanAddAll l at cells → AreTuples at cells (l.numbered).atoms l.patterns batch
    → CanTake at (l.numbered).atoms batch l.reducts
leaves_take l at cells batch can tuples = record {
  leaves = can.kept.over.long;
  long = tuples.long;
  fresh = λ j m us e g on.
      let p = has_at l.patterns j
      (let a = slice_get_within (l.numbered).atoms j m e in let b = can.kept.over.patterns in omega arith) in
      let of = tuples.each j m p.element us e p.is g on in
      let pattern = (can.kept.over.leaves j m p.element e p.is).pattern in
      let lacks = (none_there can.before can.after l.query l.numbered l.patterns l.reducts at cells
      can.rows (length (l.numbered).atoms) can.kept.over can.came).each j m p.element
      (slice_get_within (l.numbered).atoms j m e) e p.is on in
      record {
        wide = λ v some. ((of.exact v).0 some).gives.wide ∙ pattern.width;
        differ = of.differ;
        absent = λ v some. lacks v ((of.exact v).0 some);
      };
  room = λ j m us e g on.
      let low = slice_get_within (l.numbered).atoms j m e in
      let p = has_at l.patterns j (let b = can.kept.over.patterns in omega arith) in
      let few = leaf_few can.before l j m p.element can.kept (let k = can.kept.over.long in omega arith) e
      p.is in
      let here = ap (λ (i : ℕ). length (rows_at can.before.relations i)) on in
      let sum = ap (λ (rows : List Tuple). length rows) can.came.rows
      ∙ length-append (rows_at can.before.relations at) can.rows in
      let most = rows_few can.after at can.came.later.catalog in
      let long = stands_long can.after at cells can.rows can.came.stand in
      let size = tuples.few.each j us g in
      omega arith;
}

-- ---- given back

back_leaf : (at : ℕ) (atoms : List NumberedAtom) (batch : List (List (List ℕ))) (k : ℕ)
    (r s t : Reducts) (j : ℕ) (u : List ℕ) → length batch ≡ length atoms → j < length atoms
    → ChangesBelow (λ x es fs. GainsTuples x es fs) at atoms batch k r s
    → ChangesBelow (λ x es fs. LosesTuples x es fs) at atoms batch k s t
    → count_of (entries_at t.tables j) u ≡ count_of (entries_at r.tables j) u
back_leaf at atoms batch k r s t j u long low adds drops =
    let m = has_at atoms j low in
    let us = has_at batch j (omega arith) in
    elim (cases_eq (m.element).relation at) [
      | inr off ↦
          drops.others j m.element m.is (λ i. off) u ∙ adds.others j m.element m.is (λ i. off) u
      | inl on ↦
          elim (cases_lt j k) [
            | inl before ↦
                let a = adds.over j m.element us.element before m.is us.is on u in
                let b = drops.over j m.element us.element before m.is us.is on u in
                omega arith
            | inr behind ↦
                drops.others j m.element m.is (λ i. absurd (omega arith)) u
                ∙ adds.others j m.element m.is (λ i. absurd (omega arith)) u
          ]
    ]

pub batch_tables : (at : ℕ) (atoms : List NumberedAtom) (batch : List (List (List ℕ))) (k : ℕ)
    (r s t : Reducts) → IsReducts r → r.tree.leaves ≡ length atoms → length batch ≡ length atoms
    → ChangesBelow (λ x es fs. GainsTuples x es fs) at atoms batch k r s
    → ChangesBelow (λ x es fs. LosesTuples x es fs) at atoms batch k s t
    → SameTables r t
batch_tables at atoms batch k r s t sound leaves long adds drops =
    one_family r t sound drops.sound
    (record {
      same_tree = drops.tree ∙ adds.tree;
      same = λ j u low. back_leaf at atoms batch k r s t j u long (omega arith) adds drops;
    })

-- ---- what a call has in hand

-- the atoms and patterns of a query into which rows can come
pub record InHand (l : Live) (at : ℕ) (cells : List (List ℕ)) (atoms : List NumberedAtom)
    (ps : List Shape) : Type 0 where
  pub long : length ps ≡ length atoms
  pub fit : (j : ℕ) (m : NumberedAtom) (p : Shape) → slice_get atoms j ≡ Some m
      → slice_get ps j ≡ Some p → m.relation ≡ at → RowsFit cells p
  pub takes : (batch : List (List (List ℕ))) → AreTuples at cells atoms ps batch
      → CanTake at atoms batch l.reducts

pub in_hand : (l : Live) (at : ℕ) (cells : List (List ℕ)) (atoms : List NumberedAtom)
    (ps : List Shape) → atoms ≡ (l.numbered).atoms → ps ≡ l.patterns → CanAddAll l at cells
    → InHand l at cells atoms ps
in_hand l at cells atoms ps a p can =
    inside (λ x y. InHand l at cells x y) atoms (l.numbered).atoms ps l.patterns a p
    (record {
      long = can.kept.over.patterns;
      fit = λ j m q e f on. rows_fit l at cells j m q can e f on;
      takes = λ batch tuples. leaves_take l at cells batch can tuples;
    })

pub tuples_as : (at : ℕ) (rows : List (List ℕ)) (atoms : List NumberedAtom) (ps : List Shape)
    (batch tuples : List (List (List ℕ))) → tuples ≡ batch → AreTuples at rows atoms ps batch
    → AreTuples at rows atoms ps tuples
tuples_as at rows atoms ps batch tuples e h =
    subst (λ (x : List (List (List ℕ))). AreTuples at rows atoms ps x) (sym e) h

-- ---- the same afterwards

pub batch_kept : (l self : Live) (s t : Reducts) (at : ℕ) (atoms : List NumberedAtom)
    (batch : List (List (List ℕ))) (k : ℕ) → l ≡ self → IsReducts l.reducts
    → CanTake at atoms batch l.reducts
    → ChangesBelow (λ x es fs. GainsTuples x es fs) at atoms batch k l.reducts s
    → ChangesBelow (λ x es fs. LosesTuples x es fs) at atoms batch k s t
    → (c : Catalog) → IsKept c self → IsKept c (record l { reducts = t })
batch_kept l self s t at atoms batch k e sound can adds drops c h =
    same_kept c l t drops.sound drops.bare (drops.tree ∙ adds.tree)
    (batch_tables at atoms batch k l.reducts s t sound can.leaves can.long adds drops)
    (subst (λ (x : Live). IsKept c x) (sym e) h)

pub batch_same : (l self : Live) (s t : Reducts) (at : ℕ) (atoms : List NumberedAtom)
    (batch : List (List (List ℕ))) (k : ℕ) → l ≡ self → IsReducts l.reducts
    → CanTake at atoms batch l.reducts
    → ChangesBelow (λ x es fs. GainsTuples x es fs) at atoms batch k l.reducts s
    → ChangesBelow (λ x es fs. LosesTuples x es fs) at atoms batch k s t
    → SameTables self.reducts t
batch_same l self s t at atoms batch k e sound can adds drops =
    subst (λ (x : Live). SameTables x.reducts t) e
    (batch_tables at atoms batch k l.reducts s t sound can.leaves can.long adds drops)

-- ---- where nothing was changed
