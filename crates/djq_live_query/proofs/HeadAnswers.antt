-- Answers as cells in the order of the head, and the values that they stand for.
use Rattle.std.proofs.Common.{◌≡◌, ℕ, ◌+◌, ◌<◌, ◌≤◌, Bool, true, false, List, [], ◌∷◌, ◌++◌, length, map, take, refl}
use Rattle.std.proofs.Common.{ap, sym, subst, ◌∙◌, inl, inr, arith, ap₂}
use Rattle.std.specs.Prelude.{◌↔◌, Contains, slice_index, slice_index_or, ◌&&◌}
use Rattle.std.proofs.lemmas.Bool.{cases_Bool, false≢true, or_cases, or_left, or_right}
use Rattle.std.proofs.lemmas.List.{get_or-map, length-map, length-take-le, map-append, take_more}
use Rattle.std.proofs.lemmas.List.Elements.{All-contains}
use Rattle.djq_hypergraph.specs.Hypergraph.{member}
use Rattle.djq_model.specs.declared.relation.ColumnType.{ColumnType}
use Rattle.djq_model.specs.Data.{Bytes, Tuple}
use Rattle.djq_model.specs.Answer.{IsAnswer}
use Rattle.djq_model.specs.Typed.{fits}
use Rattle.djq_index.specs.Tuple.{same}
use Rattle.djq_index.proofs.Tuples.{same_is, is_same}
use Rattle.djq_union.specs.Answers.{AreSomeCells, AreAllCells, IsListingOfCells}
use Rattle.djq_reduct.specs.Columns.{column}
use Rattle.djq_reduct.specs.Reducts.{Reducts, IsReducts}
use Rattle.djq_reduct.specs.Answers.{IsAnswerOf}
use Rattle.djq_reduct.proofs.Assignments.{column_within, cell_there, row_same, reading_row, simple_of}
use Rattle.djq_database.specs.Cells.{cells_of, StandFor}
use Rattle.djq_database.specs.Catalog.{Catalog}
use Rattle.djq_database.proofs.Cells.{differ}
use Rattle.djq_enumeration.specs.declared.cursor.Cursor.{Cursor}
use Rattle.djq_enumeration.specs.Listing.{AreSome, ListsTuples}
use Rattle.djq_enumeration.specs.Menus.{has_tuple}
use Rattle.djq_enumeration.specs.Given.{given, Fits}
use Rattle.djq_enumeration.proofs.ListedAnswers.{whole_answers, cursor_answers}
use Rattle.djq_query.specs.declared.numbered.Variable.{Variable}
use Rattle.djq_store_spec.specs.Asking.{answer_types}
use Rattle.djq_binder.specs.Asked.{column_of}
use Rattle.djq_binder.proofs.EdgeOrder.{in_last}
use Rattle.djq_live_query.specs.Live.{Live, IsKeptSomewhere, IsKept, values_of}
use Rattle.djq_live_query.specs.Member.{in_head, all_answers, has_cells, cells_given, FitsKept, CellsInHeadStand}
use Rattle.djq_live_query.specs.Member.{AnswersAreHad, HadCellsStand, AnswersHaveCells, CellsTellValues, HeadTypesAre}
use Rattle.djq_live_query.specs.Member.{ShowableCellsStand}
use Rattle.djq_live_query.specs.Order.{cell_of_variable, AreCellsOfAnswer}
use Rattle.djq_live_query.specs.Shown.{AreShownAs}
use Rattle.djq_live_query.proofs.HeadTuples.{head_narrow, leaves_long, shown_have, types_are, member_at}
use Rattle.djq_live_query.proofs.TreeAnswers.{query_answer, tree_answer, stand}

-- ---- Answers as cells in the order of the head.

-- ---- writing an answer's cells

-- a variable of the head has a cell
pub in_answer : (F head u : List ℕ) (at : ℕ) → length u ≡ length F
    → ((x : ℕ) → member x head ≡ true → member x F ≡ true) → at < length head
    → column F (slice_index head at) < length u
in_answer F head u at wide within low =
    let inside = column_within F (slice_index head at)
    (within (slice_index head at) (member_at head at low)) in
    omega arith

pub ordered_room : (f : ℕ → ℕ) (head cells : List ℕ) (at : ℕ) → cells ≡ map f (take at head)
    → at < length head → length cells ≡ at
ordered_room f head cells at is low =
    ap (λ (l : List ℕ). length l) is ∙ length-map (take at head) f
    ∙ length-take-le at head (omega arith)

pub ordered_more : (f : ℕ → ℕ) (head : List ℕ) (at : ℕ) → at < length head
    → map f (take at head) ++ f (slice_index head at) ∷ [] ≡ map f (take (at + 1) head)
ordered_more f head at low =
    sym (ap (map f) (take_more head at 0 low) ∙ map-append f (take at head) (slice_index head at ∷ []))

-- ---- a list's members, mapped

has_map : (f : List ℕ → List ℕ) (us : List (List ℕ)) (u : List ℕ) → has_tuple us u ≡ true
    → has_tuple (map f us) (f u) ≡ true
has_map f [] u h = absurd (false≢true h)
has_map f (v ∷ us) u h =
    elim (or_cases (same v u) (has_tuple us u) h) [
      | inl here ↦ or_left (same (f v) (f u)) (has_tuple (map f us) (f u))
          (is_same (f v) (f u) (ap f (same_is v u here)))
      | inr there ↦ or_right (same (f v) (f u)) (has_tuple (map f us) (f u)) (has_map f us u there)
    ]

record Comes (f : List ℕ → List ℕ) (us : List (List ℕ)) (t : List ℕ) : Type 0 where
  pub from : List ℕ
  pub there : has_tuple us from ≡ true
  pub is : f from ≡ t

map_has : (f : List ℕ → List ℕ) (us : List (List ℕ)) (t : List ℕ) → has_tuple (map f us) t ≡ true
    → Comes f us t
map_has f [] t h = absurd (false≢true h)
map_has f (v ∷ us) t h =
    elim (or_cases (same (f v) t) (has_tuple (map f us) t) h) [
      | inl here ↦ record {
        from = v;
        there = or_left (same v v) (has_tuple us v) (is_same v v refl);
        is = same_is (f v) t here;
      }
      | inr there ↦ (
          let c = map_has f us t there in
          record {
            from = c.from;
            there = or_right (same v c.from) (has_tuple us c.from) c.there;
            is = c.is;
          })
    ]

-- ---- answers of a tree, and their cells

-- what is known of a query that is kept
pub record IsHead (r : Reducts) (head : List ℕ) : Type 0 where
  pub reducts : IsReducts r
  pub within : (x : ℕ) → member x r.tree.head ≡ member x head

abbrev cells_in : Reducts → List ℕ → List ℕ → List ℕ
cells_in r head u = map (cell_of_variable r.tree.head u) head

-- the answer that cells are of
cells_back : (r : Reducts) (head u : List ℕ) → IsHead r head → length u ≡ length r.tree.head
    → map (cell_of_variable head (cells_in r head u)) r.tree.head ≡ u
cells_back r head u h wide =
    let F = r.tree.head in
    row_same (cell_of_variable head (cells_in r head u)) (cell_of_variable F u) F
    (λ x m. cell_there (cell_of_variable F u) head x (sym (h.within x) ∙ m))
    ∙ reading_row F u (simple_of F h.reducts.family.is_tree.head_set.rising) wide

cells_apart : (r : Reducts) (head u v : List ℕ) → IsHead r head → IsAnswerOf r u → IsAnswerOf r v
    → cells_in r head u ≡ cells_in r head v → u ≡ v
cells_apart r head u v h is other e =
    sym (cells_back r head u h is.wide)
    ∙ ap (λ (t : List ℕ). map (cell_of_variable head t) r.tree.head) e
    ∙ cells_back r head v h other.wide

answer_had : (r : Reducts) (u : List ℕ) → IsReducts r → IsAnswerOf r u
    → has_tuple (all_answers r) u ≡ true
unfolding all_answers
answer_had r u h is = (whole_answers r h).complete u is

had_answer : (r : Reducts) (u : List ℕ) → IsReducts r → has_tuple (all_answers r) u ≡ true
    → IsAnswerOf r u
unfolding all_answers
had_answer r u h is = (whole_answers r h).answers u is

pub cells_had : (r : Reducts) (head t : List ℕ) → IsHead r head → AreCellsOfAnswer r head t
    → has_tuple (map (cells_in r head) (all_answers r)) t ≡ true
cells_had r head t h is =
    let F = r.tree.head in
    let u = map (cell_of_variable head t) F in
    subst (λ (s : List ℕ). has_tuple (map (cells_in r head) (all_answers r)) s ≡ true)
    (row_same (cell_of_variable F u) (cell_of_variable head t) head
    (λ x m. cell_there (cell_of_variable head t) F x (h.within x ∙ m)) ∙ is.are)
    (has_map (cells_in r head) (all_answers r) u (answer_had r u h.reducts is.is_answer))

pub had_cells : (r : Reducts) (head t : List ℕ) → IsHead r head
    → has_tuple (map (cells_in r head) (all_answers r)) t ≡ true → AreCellsOfAnswer r head t
had_cells r head t h had =
    let F = r.tree.head in
    let c = map_has (cells_in r head) (all_answers r) t had in
    let u = c.from in
    let is = had_answer r u h.reducts c.there in
    subst (AreCellsOfAnswer r head) c.is
    (record {
      is_answer = subst (IsAnswerOf r) (sym (cells_back r head u h is.wide)) is;
      are = row_same (cell_of_variable head (cells_in r head u)) (cell_of_variable F u) head
          (λ x m. cell_there (cell_of_variable F u) head x m);
    })

-- ---- listings

some_cells : (r : Reducts) (head : List ℕ) (us : List (List ℕ)) → IsHead r head
    → AreSome (IsAnswerOf r) us
    → AreSomeCells (λ t. has_tuple (map (cells_in r head) (all_answers r)) t) (map (cells_in r head) us)
some_cells r head us h some =
    let f : List ℕ → List ℕ = cells_in r head in
    let long : length (map f us) ≡ length us = length-map us f in
    record {
      different = λ i j d before low e.
          some.different i j [] before (omega arith)
          (cells_apart r head _ _ h (some.all i [] (omega arith)) (some.all j [] (omega arith))
          (sym (get_or-map f us i [] d (omega arith)) ∙ e ∙ get_or-map f us j [] d (omega arith)));
      answers = λ i d low.
          subst (λ (t : List ℕ). has_tuple (map f (all_answers r)) t ≡ true)
          (sym (get_or-map f us i [] d (omega arith)))
          (has_map f (all_answers r) _
          (answer_had r _ h.reducts (some.all i [] (omega arith))));
    }

all_cells : (r : Reducts) (head : List ℕ) (us : List (List ℕ)) → IsHead r head
    → ((u : List ℕ) → IsAnswerOf r u → Contains us u)
    → AreAllCells (λ t. has_tuple (map (cells_in r head) (all_answers r)) t) (map (cells_in r head) us)
all_cells r head us h complete t had =
    let f : List ℕ → List ℕ = cells_in r head in
    let long : length (map f us) ≡ length us = length-map us f in
    let c = map_has f (all_answers r) t had in
    let k = complete c.from (had_answer r c.from h.reducts c.there) in
    let low = k.1 in
    (k.0, omega arith, get_or-map f us k.0 c.from t low ∙ ap f k.2 ∙ c.is)

cells_all : (r : Reducts) (head : List ℕ) (us : List (List ℕ)) → IsHead r head
    → AreSome (IsAnswerOf r) us
    → AreAllCells (λ t. has_tuple (map (cells_in r head) (all_answers r)) t) (map (cells_in r head) us)
    → (u : List ℕ) → IsAnswerOf r u → Contains us u
cells_all r head us h some all u is =
    let f : List ℕ → List ℕ = cells_in r head in
    let long : length (map f us) ≡ length us = length-map us f in
    let k = all (f u) (has_map f (all_answers r) u (answer_had r u h.reducts is)) in
    let low = k.1 in (
      k.0,
      omega arith,
      cells_apart r head (slice_index_or us k.0 u) u h (some.all k.0 u (omega arith)) is
          (sym (get_or-map f us k.0 u (f u) (omega arith)) ∙ k.2),
    )

-- ---- of a query that is kept

pub kept_head : (l : Live) → IsKeptSomewhere l → IsHead l.reducts l.numbered.head
kept_head l kept = record { reducts = kept.1.over.reducts; within = kept.1.over.head }

-- an answer of the tree that had cells are of, and the cells of one
pub record HadFrom (l : Live) (t : List ℕ) : Type 0 where
  pub from : List ℕ
  pub answer : IsAnswerOf l.reducts from
  pub is : in_head l from ≡ t

pub had_from : (l : Live) (t : List ℕ) → IsKeptSomewhere l → has_cells l t ≡ true → HadFrom l t
had_from l t kept had =
    let c = map_has (in_head l) (all_answers l.reducts) t had in
    record {
      from = c.from;
      answer = had_answer l.reducts c.from (kept_head l kept).reducts c.there;
      is = c.is;
    }

pub had_by : (l : Live) (u : List ℕ) → IsKeptSomewhere l → IsAnswerOf l.reducts u
    → has_cells l (in_head l u) ≡ true
had_by l u kept is = has_map (in_head l) (all_answers l.reducts) u
    (answer_had l.reducts u (kept_head l kept).reducts is)

cursor_some : (l : Live) (s : Cursor) → FitsKept l s
    → AreSome (IsAnswerOf l.reducts) (given l.reducts s)
cursor_some l s f = cursor_answers l.reducts s (kept_head l f.0).reducts f.1

pub some_given : (l : Live) (s : Cursor) → FitsKept l s
    → AreSomeCells (λ t. has_cells l t) (cells_given l s)
some_given l s f = some_cells l.reducts l.numbered.head (given l.reducts s) (kept_head l f.0)
    (cursor_some l s f)

-- all were given as cells exactly where they were given as answers of the tree
pub all_given_same : (l : Live) (s : Cursor) → FitsKept l s
    → ListsTuples (IsAnswerOf l.reducts) (given l.reducts s)
    ↔ AreAllCells (λ t. has_cells l t) (cells_given l s)
all_given_same l s f =
    let h = kept_head l f.0 in
    let some = cursor_some l s f in
    let us = given l.reducts s in (
      λ listing. all_cells l.reducts l.numbered.head us h listing.complete,
      λ all. record {
        different = some.different;
        all = some.all;
        complete = cells_all l.reducts l.numbered.head us h some all;
      },
    )

-- ---- the same where the query is seen from outside

pub fits_outside : (l m : Live) (s : Cursor) → l ≡ m → IsKeptSomewhere m → Fits l.reducts s
    → FitsKept m s
fits_outside l m s e kept f = (kept, subst (λ (o : Live). Fits o.reducts s) e f)

pub step_answer : (l : Live) (old new : Cursor)
    → given l.reducts new ≡ given l.reducts old ++ new.answer ∷ []
    → AreSome (IsAnswerOf l.reducts) (given l.reducts new) → IsAnswerOf l.reducts new.answer
step_answer l old new one some =
    All-contains (IsAnswerOf l.reducts) (given l.reducts new) new.answer some.all
    (subst (λ (us : List (List ℕ)). Contains us new.answer) (sym one)
    (in_last new.answer (given l.reducts old)))

pub end_same : (l m : Live) (s : Cursor) (found told : Bool) → l ≡ m → FitsKept m s
    → told ≡ found → (found ≡ false) ↔ ListsTuples (IsAnswerOf l.reducts) (given l.reducts s)
    → (told ≡ false) ↔ IsListingOfCells (λ t. has_cells m t) (cells_given m s)
end_same l m s found told e f is h =
    let all = all_given_same m s f in (
      λ none. (
          let listing = subst
          (λ (o : Live). ListsTuples (IsAnswerOf o.reducts) (given o.reducts s)) e
          (h.0 (sym is ∙ none)) in
          record { some = some_given m s f; all = all.0 listing }),
      λ listing. is ∙ h.1 (subst
          (λ (o : Live). ListsTuples (IsAnswerOf o.reducts) (given o.reducts s)) (sym e)
          (all.1 listing.all)),
    )

pub left_same : (l m : Live) (s : Cursor) (left : Bool) → l ≡ m → FitsKept m s
    → (left ≡ false) ↔ ListsTuples (IsAnswerOf l.reducts) (given l.reducts s)
    → (left ≡ false) ↔ AreAllCells (λ t. has_cells m t) (cells_given m s)
left_same l m s left e f h =
    let all = all_given_same m s f in (
      λ none. all.0 (subst
          (λ (o : Live). ListsTuples (IsAnswerOf o.reducts) (given o.reducts s)) e (h.0 none)),
      λ whole. h.1 (subst
          (λ (o : Live). ListsTuples (IsAnswerOf o.reducts) (given o.reducts s)) (sym e)
          (all.1 whole)),
    )

pub kept_narrow : (l m : Live) → l ≡ m → IsKeptSomewhere m
    → length l.reducts.tree.head ≤ length m.query.head
kept_narrow l m e kept =
    let same = ap (λ (o : Live). length o.reducts.tree.head) e in
    let short = head_narrow kept.0 m.query m.numbered m.patterns m.reducts kept.1.over in
    omega arith

pub kept_leaves : (l m : Live) → l ≡ m → IsKeptSomewhere m
    → l.reducts.tree.leaves ≡ length m.query.atoms
kept_leaves l m e kept =
    ap (λ (o : Live). o.reducts.tree.leaves) e
    ∙ leaves_long kept.0 m.query m.numbered m.patterns m.reducts kept.1.over

pub head_inside : (l m : Live) → l ≡ m → IsKeptSomewhere m → IsHead l.reducts l.numbered.head
head_inside l m e kept = subst (λ (o : Live). IsHead o.reducts o.numbered.head) (sym e)
    (kept_head m kept)

-- ---- whether cells are those of an answer

pub tells_had : (l m : Live) (head t : List ℕ) (found : Bool) → l ≡ m → IsKeptSomewhere m
    → head ≡ l.numbered.head → (found ≡ true) ↔ AreCellsOfAnswer l.reducts head t
    → found ≡ has_cells m t
tells_had l m head t found e kept is h =
    subst (λ (o : Live). found ≡ has_cells o t) e
    (bool_same found (has_cells l t) (
      λ is_true. cells_had l.reducts l.numbered.head t inside
          (subst (λ (ys : List ℕ). AreCellsOfAnswer l.reducts ys t) is (h.0 is_true)),
      λ had. h.1 (subst (λ (ys : List ℕ). AreCellsOfAnswer l.reducts ys t) (sym is)
          (had_cells l.reducts l.numbered.head t inside had)),
    ))
  where
    inside : IsHead l.reducts l.numbered.head
    inside = head_inside l m e kept

    bool_same : (a b : Bool) → (a ≡ true) ↔ (b ≡ true) → a ≡ b
    bool_same true b k = sym (k.0 refl)
    bool_same false true k = k.1 refl
    bool_same false false k = refl

-- cells of another number aren't
pub none_had : (l m : Live) (head t : List ℕ) → l ≡ m → IsKeptSomewhere m
    → head ≡ l.numbered.head → (length t ≡ length head → ⊥) → false ≡ has_cells m t
none_had l m head t e kept is other =
    elim (cases_Bool (has_cells m t)) [
      | inl found ↦ (
          let had = had_cells m.reducts m.numbered.head t (kept_head m kept) found in
          absurd (other (sym (ap (λ (ys : List ℕ). length ys) had.are)
          ∙ length-map m.numbered.head (cell_of_variable m.numbered.head t)
          ∙ sym (ap (λ (ys : List ℕ). length ys) (is ∙ ap (λ (o : Live). o.numbered.head) e)))))
      | inr none ↦ sym none
    ]

-- ---- Cells in the order of a head, and the values that they stand for.

-- what cells show suits the variables' columns
shown_fits : (texts : List Bytes) (vs : List Variable) (F u xs : List ℕ) (t : Tuple)
    → AreShownAs texts vs F u xs t → fits (map (column_of vs) xs) t ≡ true
shown_fits texts vs F u [] [] h = refl
shown_fits texts vs F u [] (v ∷ t) h = absurd h
shown_fits texts vs F u (x ∷ xs) [] h = absurd h
shown_fits texts vs F u (x ∷ xs) (v ∷ t) h =
    ap₂ (λ (a b : Bool). a && b) (h.0).of (shown_fits texts vs F u xs t h.1)

pub cells_stand : CellsInHeadStand
cells_stand c l kept u is =
    let over = kept.over in
    let n = l.numbered in
    let F = l.reducts.tree.head in
    let shows = stand c l.query n l.patterns l.reducts over u is in
    let have = shown_have c.texts n.variables F u n.head (values_of c.texts l u) shows in
    record {
      of = ap (λ (types : List ColumnType). fits types (values_of c.texts l u))
          (types_are c l.query n l.patterns l.reducts over)
          ∙ shown_fits c.texts n.variables F u n.head (values_of c.texts l u) shows;
      have = have.0;
      are = have.1;
    }

pub head_are : HeadTypesAre
head_are c l kept = sym (types_are c l.query l.numbered l.patterns l.reducts kept.over)

pub showable_stand : ShowableCellsStand
showable_stand texts l u h =
    let n = l.numbered in
    let F = l.reducts.tree.head in
    let have = shown_have texts n.variables F u n.head (values_of texts l u) h.stands in
    record {
      of = shown_fits texts n.variables F u n.head (values_of texts l u) h.stands;
      have = have.0;
      are = have.1;
    }

-- an answer of the tree behind cells that are had
record IsHadBy (c : Catalog) (l : Live) (t : List ℕ) : Type 0 where
  pub tuple : Tuple
  pub is : IsAnswer c.relations l.query tuple
  pub stands : StandFor c.texts (answer_types c.relations l.query) t tuple

had_answer_standing : (c : Catalog) (l : Live) (t : List ℕ) → IsKept c l → has_cells l t ≡ true
    → IsHadBy c l t
had_answer_standing c l t kept had =
    let h = had_from l t (c, kept) had in
    record {
      tuple = values_of c.texts l h.from;
      is = query_answer c l.query l.numbered l.patterns l.reducts h.from kept.over h.answer;
      stands = subst
          (λ (cells : List ℕ). StandFor c.texts (answer_types c.relations l.query) cells
          (values_of c.texts l h.from)) h.is (cells_stand c l kept h.from h.answer);
    }

-- cells of an answer, which are had
record HasCellsOf (c : Catalog) (l : Live) (v : Tuple) : Type 0 where
  pub cells : List ℕ
  pub had : has_cells l cells ≡ true
  pub stand : StandFor c.texts (answer_types c.relations l.query) cells v

answer_cells : (c : Catalog) (l : Live) (v : Tuple) → IsKept c l
    → IsAnswer c.relations l.query v → HasCellsOf c l v
answer_cells c l v kept is =
    let s = tree_answer c l.query l.numbered l.patterns l.reducts v kept.over is in
    record {
      cells = in_head l s.tuple;
      had = had_by l s.tuple (c, kept) s.is_answer;
      stand = subst
          (λ (w : Tuple). StandFor c.texts (answer_types c.relations l.query)
          (in_head l s.tuple) w) (sym s.is) (cells_stand c l kept s.tuple s.is_answer);
    }

pub had_stand : HadCellsStand
had_stand c l kept t had = let h = had_answer_standing c l t kept had in (h.tuple, h.stands)

pub have_cells : AnswersHaveCells
have_cells c l kept v is = let h = answer_cells c l v kept is in (h.cells, h.stand)

-- the same cells stand for one tuple
one_tuple : (texts : List Bytes) (types : List ColumnType) (t : List ℕ) (v w : Tuple)
    → StandFor texts types t v → StandFor texts types t w → v ≡ w
one_tuple texts types t v w a b = differ texts types v w a.of b.of a.have b.have
    (sym a.are ∙ b.are)

pub are_had : AnswersAreHad
are_had c l kept t v stands = (
  λ had.
      let h = had_answer_standing c l t kept had in
      subst (IsAnswer c.relations l.query)
      (one_tuple c.texts (answer_types c.relations l.query) t h.tuple v h.stands stands) h.is,
  λ is.
      let h = answer_cells c l v kept is in
      subst (λ (cells : List ℕ). has_cells l cells ≡ true)
      ((h.stand).are ∙ sym stands.are) h.had,
)

pub cells_tell : CellsTellValues
cells_tell c l m types t u v w a b = (
  λ e.
      one_tuple c.texts (answer_types c.relations m.query) u v w
      (subst (λ (cells : List ℕ). StandFor c.texts (answer_types c.relations m.query) cells v) e
      (subst (λ (ks : List ColumnType). StandFor c.texts ks t v) types a)) b,
  λ e. a.are ∙ ap (cells_of c.texts) e ∙ sym b.are,
)
