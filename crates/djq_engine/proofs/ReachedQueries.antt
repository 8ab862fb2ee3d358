-- Which queries a transaction reaches: those that read a relation of which its lines insert or delete a row.
use Rattle.std.proofs.Common.{ℕ, zero, suc, List, [], ◌∷◌, ◌++◌, ◌+◌, ◌≡◌, ◌<◌, ◌≤◌, ◌⊎◌, inl, inr, Bool, true, false}
use Rattle.std.proofs.Common.{refl}
use Rattle.std.proofs.Common.{sym, ap, ap₂, ◌∙◌, subst, length, get_or, arith, take, append_assoc}
use Rattle.std.specs.Prelude.{◌&&◌, ◌||◌, Option, None, Some, is_some, IsSome, All, cond, filter, fold, find, map}
use Rattle.std.specs.Prelude.{not, ◌==◌}
use Rattle.std.specs.List.{list_any}
use Rattle.std.proofs.lemmas.Bool.{cases_lt, false≢true, and_parts}
use Rattle.std.proofs.lemmas.List.{get_or_past, take_more}
use Rattle.djq_model.specs.declared.query.Atom.{Atom}
use Rattle.djq_model.specs.declared.relation.Relation.{Relation}
use Rattle.djq_model.specs.Data.{Bytes, relation_of, bytes_eq}
use Rattle.djq_model.specs.Equality.{bytes_eq-decides}
use Rattle.djq_model.specs.Listed.{Listed, a_query}
use Rattle.djq_protocol.specs.declared.answer.Refusal.TheVariants.{NoRelation}
use Rattle.djq_query.specs.declared.numbered.Variable.{Variable}
use Rattle.djq_query.specs.declared.numbered.NumberedAtom.{NumberedAtom}
use Rattle.djq_database.specs.Catalog.{Catalog, relation_at}
use Rattle.djq_store_spec.specs.Store.{Store}
use Rattle.djq_store_spec.specs.Stale.{reads, listed_reads}
use Rattle.djq_store_spec.specs.Held.{HeldLine}
use Rattle.djq_store_spec.specs.Lines.{line_comes, line_goes}
use Rattle.djq_store_spec.specs.Done.{has_changed}
use Rattle.djq_store_spec.specs.Transaction.{suit_refusal, SuitAll, first_read, has_inserted, has_deleted}
use Rattle.djq_binder.specs.Asked.{AreAtomsOf}
use Rattle.djq_live_query.specs.Live.{Live}
use Rattle.djq_reach.specs.declared.group.Group.{Group}
use Rattle.djq_reach.specs.Places.{place_at, reads_place, is_reader, readers_at, AreOnce}
use Rattle.djq_reach.specs.Grouping.{group_relations, reached}
use Rattle.djq_reach.proofs.PlacedQueries.{place_below, reader_both}
use Rattle.djq_queries.specs.Changing.{touched}
use Rattle.djq_engine.specs.declared.parts.Parts.{Parts}
use Rattle.djq_engine.specs.Places.{is_live}
use Rattle.djq_engine.specs.Sound.{QueriesAreSound}
use Rattle.djq_engine.specs.Outdating.{AreReaders, first_of_names, reads_held}
use Rattle.djq_engine.specs.Carrying.{AreGroupsFor, JoinsNames}
use Rattle.djq_engine.specs.Transacting.{changed_relations, with_name_of}
use Rattle.djq_engine.specs.Whole.{EngineIsWhole, IsTended}
use Rattle.djq_engine.proofs.Catalogs.{readers_once, reader_is}
use Rattle.djq_engine.proofs.Conditions.{suited_none}
use Rattle.djq_engine.proofs.OutdatedQueries.{reached_by, reached_has, reads_first}
use Rattle.djq_engine.proofs.QueryPlaces.{live_there}

-- ---- what holds before

pub sound_readers : (c : Catalog) (gs : List (Option Live)) (order : List ℕ) (readers : List (List ℕ))
    → QueriesAreSound c gs order readers → AreReaders c.relations readers gs
sound_readers c gs order readers s = record {
  long = s.long;
  once = λ r. by_length r (cases_lt r (length c.relations));
  reading = λ r i low. reader_is c gs order readers s r low i
      ∙ by_place (relation_at c.relations r).name (place_at gs i);
}
  where
    by_length : (r : ℕ) → (r < length c.relations) ⊎ (length c.relations ≤ r) → AreOnce (readers_at readers r)
    by_length r (inl low) = readers_once c gs order readers s r low
    by_length r (inr high) = subst (λ (ps : List ℕ). AreOnce ps)
        (sym (get_or_past readers r [] (omega (arith, high, s.long)))) tt

    by_place : (name : Bytes) (o : Option Live) → (is_some o && reads_place name o) ≡ reads_place name o
    by_place name None = refl
    by_place name (Some l) = refl

-- a place of a reader has a log
pub readers_logged : (p : Parts) → EngineIsWhole p → IsTended p → (r i : ℕ) → is_reader (readers_at p.readers.items r) i
    ≡ true → i < length p.logs.items
readers_logged p s t r i e = by_length (cases_lt r (length (p.catalog).relations))
  where
    by_length : (r < length (p.catalog).relations) ⊎ (length (p.catalog).relations ≤ r) → i < length p.logs.items
    by_length (inl low) =
        let there = live_there p.queries.items i
        (and_parts (is_live p.queries.items i) _
        (sym (reader_is p.catalog p.queries.items p.order p.readers.items s r low i) ∙ e)).0 in
        let below = place_below p.queries.items i there.query there.is in
        omega (arith, below, t.logged)
    by_length (inr high) = absurd
        (false≢true (sym (ap (λ (ps : List ℕ). is_reader ps i)
        (get_or_past p.readers.items r [] (omega (arith, high, s.long)))) ∙ e))

-- the relation of a line that suits is there
pub suits_found : (st : Store) (h : HeldLine) → suit_refusal st h.relation h.row ≡ None
    → IsSome (relation_of st.relations h.relation)
suits_found st h e = by_relation (relation_of st.relations h.relation) refl
  where
    by_relation : (o : Option Relation) → relation_of st.relations h.relation ≡ o → IsSome o
    by_relation None f = let k : suit_refusal st h.relation h.row
        ≡ Some NoRelation = suited_none st.relations h.relation h.row f in absurd cc
    by_relation (Some r) f = refl

pub all_found : (st : Store) (lines : List HeldLine) → SuitAll st lines
    → All (λ h. IsSome (relation_of st.relations h.relation)) lines
all_found st lines suit k d low = suits_found st (get_or lines k d) (suit k d low)

-- a relation that is found has a place
pub found_place : (rs : List Relation) (name : Bytes) → IsSome (relation_of rs name) → (at : ℕ) × (at < length rs)
    × ((relation_at rs at).name ≡ name)
found_place [] name h = absurd (cc (h))
found_place (r ∷ rs) name h = by (bytes_eq r.name name) refl h (found_place rs name)
  where
    by : (b : Bool) → bytes_eq r.name name ≡ b → IsSome (cond b (Some r) (relation_of rs name))
        → (IsSome (relation_of rs name) → (at : ℕ) × (at < length rs) × ((relation_at rs at).name ≡ name))
        → (at : ℕ) × (at < length (r ∷ rs)) × ((relation_at (r ∷ rs) at).name ≡ name)
    by true e k more = (zero, omega arith, (bytes_eq-decides r.name name).0 e)
    by false e k more = let m = more k in (suc m.0, (let low = m.1 in omega (arith, low)), m.2)

-- ---- the first relation that lines name and a query reads

-- lines name a relation
abbrev pub is_line_of : List HeldLine → Bytes → Bool
is_line_of lines name = list_any (λ h. bytes_eq h.relation name) lines

-- a relation that passes a test, and that lines name and a query reads, is such a one
first_reads : (lines : List HeldLine) (name : Bytes) (q : Listed) (test : Bytes → Bool)
    → is_line_of lines name ≡ true → test name ≡ true → listed_reads q name ≡ true
    → is_some (first_read lines test q) ≡ true
first_reads [] name q test e t r = absurd (false≢true e)
first_reads (h ∷ lines) name q test e t r =
    by (bytes_eq h.relation name) refl e (λ k. first_reads lines name q test k t r)
  where
    some_either : (b : Bool) → is_some (first_read lines test q) ≡ true
        → is_some (cond b (Some h.relation) (first_read lines test q)) ≡ true
    some_either true k = refl
    some_either false k = k

    by : (b : Bool) → bytes_eq h.relation name ≡ b → (b || is_line_of lines name) ≡ true
        → (is_line_of lines name ≡ true → is_some (first_read lines test q) ≡ true)
        → is_some (cond (test h.relation && listed_reads q h.relation) (Some h.relation) (first_read lines test q))
        ≡ true
    by true f k more =
        let same = (bytes_eq-decides h.relation name).0 f in
        ap (λ (b : Bool). is_some (cond b (Some h.relation) (first_read lines test q)))
        (ap₂ (λ (a b : Bool). a && b) (ap test same ∙ t) (ap (listed_reads q) same ∙ r))
    by false f k more = some_either (test h.relation && listed_reads q h.relation) (more k)

-- one that is read is the relation of a line
first_has : (lines : List HeldLine) (test : Bytes → Bool) (q : Listed) (P : HeldLine → Type 0) → All P lines
    → is_some (first_read lines test q) ≡ true
    → (h : HeldLine) × P h × (test h.relation ≡ true) × (listed_reads q h.relation ≡ true)
first_has [] test q P all e = absurd (false≢true e)
first_has (h ∷ lines) test q P all e = by (test h.relation) (listed_reads q h.relation) refl refl e
    (first_has lines test q P (λ k d low. all (suc k) d (omega (arith, low))))
  where
    by : (a b : Bool) → test h.relation ≡ a → listed_reads q h.relation ≡ b
        → is_some (cond (a && b) (Some h.relation) (first_read lines test q)) ≡ true
        → (is_some (first_read lines test q) ≡ true → (h : HeldLine) × P h × (test h.relation ≡ true)
        × (listed_reads q h.relation ≡ true))
        → (h : HeldLine) × P h × (test h.relation ≡ true) × (listed_reads q h.relation ≡ true)
    by true true f g k more = (h, all zero h (omega arith), f, g)
    by true false f g k more = more k
    by false b f g k more = more k

-- one that passes is one of all
pub wider_first : (lines : List HeldLine) (test : Bytes → Bool) (q : Listed) → is_some (first_read lines test q) ≡ true
    → is_some (first_read lines (λ name. true) q) ≡ true
wider_first [] test q e = e
wider_first (h ∷ lines) test q e = by (test h.relation) (listed_reads q h.relation) e (wider_first lines test q)
  where
    by : (a b : Bool) → is_some (cond (a && b) (Some h.relation) (first_read lines test q)) ≡ true
        → (is_some (first_read lines test q) ≡ true → is_some (first_read lines (λ name. true) q) ≡ true)
        → is_some (cond b (Some h.relation) (first_read lines (λ name. true) q)) ≡ true
    by a true f more = refl
    by true false f more = more f
    by false false f more = more f

-- and one that passes a test is one of those that pass a wider test
pub wider_read : (lines : List HeldLine) (test wider : Bytes → Bool)
    → ((name : Bytes) → test name ≡ true → wider name ≡ true) → (q : Listed)
    → is_some (first_read lines test q) ≡ true → is_some (first_read lines wider q) ≡ true
wider_read [] test wider h q e = e
wider_read (x ∷ lines) test wider h q e =
    by (test x.relation) refl (wider x.relation) refl (listed_reads q x.relation) e (wider_read lines test wider h q)
  where
    either : (b : Bool) → is_some (first_read lines wider q) ≡ true
        → is_some (cond b (Some x.relation) (first_read lines wider q)) ≡ true
    either true k = refl
    either false k = k

    by : (a : Bool) → test x.relation ≡ a → (b : Bool) → wider x.relation ≡ b → (r : Bool)
        → is_some (cond (a && r) (Some x.relation) (first_read lines test q)) ≡ true
        → (is_some (first_read lines test q) ≡ true → is_some (first_read lines wider q) ≡ true)
        → is_some (cond (b && r) (Some x.relation) (first_read lines wider q)) ≡ true
    by true f true k true g more = refl
    by true f true k false g more = more g
    by true f false k r g more = absurd (false≢true (sym k ∙ h x.relation f))
    by false f b k r g more = either (b && r) (more g)

-- a relation of which rows are inserted, deleted or either is one that lines name
line_for : (lines : List HeldLine) (name : Bytes) (p : HeldLine → Bool)
    → list_any (λ h. bytes_eq h.relation name && p h) lines ≡ true → is_line_of lines name ≡ true
line_for [] name p e = e
line_for (h ∷ lines) name p e = by (bytes_eq h.relation name) (p h) e (line_for lines name p)
  where
    by : (a b : Bool) → ((a && b) || list_any (λ h. bytes_eq h.relation name && p h) lines) ≡ true
        → (list_any (λ h. bytes_eq h.relation name && p h) lines ≡ true → is_line_of lines name ≡ true)
        → (a || is_line_of lines name) ≡ true
    by true b f more = refl
    by false b f more = more f

pub inserted_line : (rs : List Relation) (lines : List HeldLine) (name : Bytes) → has_inserted rs lines name ≡ true
    → is_line_of lines name ≡ true
inserted_line rs lines name = line_for lines name (line_comes rs lines)

pub deleted_line : (rs : List Relation) (lines : List HeldLine) (name : Bytes) → has_deleted rs lines name ≡ true
    → is_line_of lines name ≡ true
deleted_line rs lines name = line_for lines name (line_goes rs lines)

pub changed_line : (rs : List Relation) (lines : List HeldLine) (name : Bytes) → has_changed rs lines name ≡ true
    → is_line_of lines name ≡ true
changed_line rs lines name = line_for lines name (λ h. line_comes rs lines h || line_goes rs lines h)

-- ---- groups of rows of the relations that pass a test

-- the groups of two lists together
pub groups_both : (come gone : List Group) (r : ℕ) → is_reader (group_relations (come ++ gone)) r
    ≡ (is_reader (group_relations come) r || is_reader (group_relations gone) r)
groups_both [] gone r = refl
groups_both (g ∷ come) gone r = by (g.relation.at == r) (groups_both come gone r)
  where
    by : (a : Bool) → is_reader (group_relations (come ++ gone)) r
        ≡ (is_reader (group_relations come) r || is_reader (group_relations gone) r)
        → (a || is_reader (group_relations (come ++ gone)) r)
        ≡ ((a || is_reader (group_relations come) r) || is_reader (group_relations gone) r)
    by true e = refl
    by false e = e

pub reached_both : (readers : List (List ℕ)) (come gone : List Group)
    → reached readers (come ++ gone) ≡ touched readers come gone
reached_both readers [] gone = refl
reached_both readers (g ∷ come) gone =
    ap (λ (xs : List ℕ). readers_at readers g.relation.at ++ xs) (reached_both readers come gone)
    ∙ sym (append_assoc (readers_at readers g.relation.at) (reached readers come) (reached readers gone))

pub groups_for_both : (rs : List Relation) (come gone : List Group) (inserted deleted test : Bytes → Bool)
    → AreGroupsFor rs come inserted → AreGroupsFor rs gone deleted
    → ((name : Bytes) → test name ≡ (inserted name || deleted name)) → AreGroupsFor rs (come ++ gone) test
groups_for_both rs come gone inserted deleted test a b either = record {
  within = λ r e. by r (is_reader (group_relations come) r) refl (sym (groups_both come gone r) ∙ e);
  tested = λ r low. groups_both come gone r ∙ ap₂ (λ (x y : Bool). x || y) (a.tested r low) (b.tested r low)
      ∙ sym (either (relation_at rs r).name);
}
  where
    by : (r : ℕ) (x : Bool) → is_reader (group_relations come) r ≡ x
        → (x || is_reader (group_relations gone) r) ≡ true → r < length rs
    by r true e f = a.within r e
    by r false e f = b.within r f

-- A query is reached by groups if a relation that passes their test is the first that lines name and it reads.
module _ (rs : List Relation) (lines : List HeldLine) (found : All (λ h. IsSome (relation_of rs h.relation)) lines)
    (readers : List (List ℕ)) (gs : List (Option Live)) (are : AreReaders rs readers gs)
    (groups : List Group) (test : Bytes → Bool) (k : AreGroupsFor rs groups test)
    (named : (name : Bytes) → test name ≡ true → is_line_of lines name ≡ true) where
  pub reached_outdates : (i : ℕ) (l : Live) → place_at gs i ≡ Some l → is_reader (reached readers groups) i
      ≡ is_some (first_read lines test (a_query l.query))
  reached_outdates i l there = same_tests (is_reader (reached readers groups) i)
      (is_some (first_read lines test (a_query l.query))) forth back
    where
      same_tests : (a b : Bool) → (a ≡ true → b ≡ true) → (b ≡ true → a ≡ true) → a ≡ b
      same_tests true true f g = refl
      same_tests true false f g = sym (f refl)
      same_tests false true f g = g refl
      same_tests false false f g = refl

      reading : (r : ℕ) → r < length rs → is_reader (readers_at readers r) i
          ≡ reads l.query (relation_at rs r).name
      reading r low = are.reading r i low ∙ ap (reads_place (relation_at rs r).name) there

      forth : is_reader (reached readers groups) i ≡ true
          → is_some (first_read lines test (a_query l.query)) ≡ true
      forth e =
          let x = reached_has readers groups i e in
          let low = k.within x.0 x.1 in
          let pass : test (relation_at rs x.0).name ≡ true = sym (k.tested x.0 low) ∙ x.1 in
          first_reads lines (relation_at rs x.0).name (a_query l.query) test
          (named (relation_at rs x.0).name pass) pass (sym (reading x.0 low) ∙ x.2)

      back : is_some (first_read lines test (a_query l.query)) ≡ true → is_reader (reached readers groups) i ≡ true
      back e =
          let x = first_has lines test (a_query l.query) (λ h. IsSome (relation_of rs h.relation)) found e in
          let p = found_place rs (x.0).relation x.1 in
          reached_by readers groups p.0 i
          (k.tested p.0 p.1 ∙ ap test p.2 ∙ x.2)
          (reading p.0 p.1 ∙ ap (reads l.query) p.2 ∙ x.3)

  -- a place that is reached has a query
  pub reached_live : (i : ℕ) → is_reader (reached readers groups) i ≡ true
      → (l : Live) × (place_at gs i ≡ Some l)
  reached_live i e =
      let x = reached_has readers groups i e in
      by_place (relation_at rs x.0).name (place_at gs i) refl
      (sym (are.reading x.0 i (k.within x.0 x.1)) ∙ x.2)
    where
      by_place : (name : Bytes) (o : Option Live) → place_at gs i ≡ o → reads_place name (place_at gs i) ≡ true
          → (l : Live) × (place_at gs i ≡ Some l)
      by_place name None f r = absurd (false≢true (sym (ap (reads_place name) f) ∙ r))
      by_place name (Some l) f r = (l, f)

  -- atoms over relations of groups are over relations that pass
  pub atoms_tested : (c : Catalog) → ((r : ℕ) → (relation_at c.relations r).name ≡ (relation_at rs r).name)
      → (variables : List Variable) (atoms : List Atom) (ms : List NumberedAtom) → AreAtomsOf c variables atoms ms
      → length (filter (λ m. is_reader (group_relations groups) m.relation) ms) ≤ length
      (filter (λ a. test a.relation) atoms)
  atoms_tested c names variables [] [] h = omega arith
  atoms_tested c names variables [] (m ∷ ms) h = absurd h
  atoms_tested c names variables (a ∷ atoms) [] h = absurd h
  atoms_tested c names variables (a ∷ atoms) (m ∷ ms) h = by (is_reader (group_relations groups) m.relation) refl
      (test a.relation) refl (atoms_tested c names variables atoms ms h.1)
    where
      by : (b : Bool) → is_reader (group_relations groups) m.relation ≡ b → (t : Bool) → test a.relation ≡ t
          → length (filter (λ m. is_reader (group_relations groups) m.relation) ms) ≤ length
          (filter (λ a. test a.relation) atoms)
          → length (cond b (m ∷ filter (λ m. is_reader (group_relations groups) m.relation) ms)
          (filter (λ m. is_reader (group_relations groups) m.relation) ms))
          ≤ length (cond t (a ∷ filter (λ a. test a.relation) atoms) (filter (λ a. test a.relation) atoms))
      by true e true f more = omega (arith, more)
      by true e false f more =
          absurd (false≢true (sym f ∙ ap test (sym (sym (names m.relation) ∙ h.0.named))
          ∙ sym (k.tested m.relation (k.within m.relation e)) ∙ e))
      by false e true f more = omega (arith, more)
      by false e false f more = more

  -- a query that is reached reads a relation that lines name
  pub reached_reads : (i : ℕ) → is_reader (reached readers groups) i ≡ true
      → reads_held lines (place_at gs i) ≡ true
  reached_reads i e =
      let y = reached_live i e in
      ap (reads_held lines) y.1 ∙ reads_first lines y.0
      ∙ wider_first lines test (a_query (y.0).query) (sym (reached_outdates i y.0 y.1) ∙ e)

-- ---- the names of the relations that change, in the order in which lines name them first

has_line : List Bytes → Bytes → Bool
has_line names name = list_any (λ n. bytes_eq n name) names

-- the first that passes is the same, whether a name stands once or again
module _ (p : Bytes → Bool) where
  find_behind : (xs : List Bytes) (name : Bytes) → p name ≡ true → has_line xs name ≡ true
      → (ys : List Bytes) → find p (xs ++ ys) ≡ find p xs
  unfolding has_line
  find_behind [] name e f ys = absurd (false≢true f)
  find_behind (x ∷ xs) name e f ys = by (bytes_eq x name) refl f (λ k. find_behind xs name e k ys)
    where
      either : (b : Bool) → find p (xs ++ ys) ≡ find p xs
          → cond b (Some x) (find p (xs ++ ys)) ≡ cond b (Some x) (find p xs)
      either true k = refl
      either false k = k

      by : (b : Bool) → bytes_eq x name ≡ b → (b || list_any (λ n. bytes_eq n name) xs) ≡ true
          → (list_any (λ n. bytes_eq n name) xs ≡ true → find p (xs ++ ys) ≡ find p xs)
          → cond (p x) (Some x) (find p (xs ++ ys)) ≡ cond (p x) (Some x) (find p xs)
      by true g k more =
          let pass : p x ≡ true = ap p ((bytes_eq-decides x name).0 g) ∙ e in
          ap (λ b. cond b (Some x) (find p (xs ++ ys))) pass ∙ sym (ap (λ b. cond b (Some x) (find p xs)) pass)
      by false g k more = either (p x) (more k)

  -- a name that stands already adds nothing
  find_once : (xs : List Bytes) (h : HeldLine) (ys : List Bytes)
      → find p (with_name_of xs h ++ ys) ≡ find p (xs ++ h.relation ∷ ys)
  unfolding has_line
  find_once xs h ys = by (list_any (λ n. bytes_eq n h.relation) xs) refl (p h.relation) refl
    where
      front : (zs : List Bytes) → p h.relation ≡ false → find p (zs ++ h.relation ∷ ys) ≡ find p (zs ++ ys)
      front [] e = ap (λ b. cond b (Some h.relation) (find p ys)) e
      front (z ∷ zs) e = step (p z) (front zs e)
        where
          step : (b : Bool) → find p (zs ++ h.relation ∷ ys) ≡ find p (zs ++ ys)
              → cond b (Some z) (find p (zs ++ h.relation ∷ ys)) ≡ cond b (Some z) (find p (zs ++ ys))
          step true k = refl
          step false k = k

      by : (b : Bool) → list_any (λ n. bytes_eq n h.relation) xs ≡ b → (t : Bool) → p h.relation ≡ t
          → find p (cond b xs (xs ++ h.relation ∷ []) ++ ys) ≡ find p (xs ++ h.relation ∷ ys)
      by true e true f = find_behind xs h.relation f e ys ∙ sym (find_behind xs h.relation f e (h.relation ∷ ys))
      by true e false f = sym (front xs f)
      by false e t f = ap (find p) (append_assoc xs (h.relation ∷ []) ys)

  find_named : (xs : List Bytes) (lines : List HeldLine) → find p (fold with_name_of xs lines)
      ≡ find p (xs ++ map (λ (h : HeldLine). h.relation) lines)
  find_named xs [] = ap (find p) (sym (append_none xs))
    where
      append_none : (zs : List Bytes) → zs ++ [] ≡ zs
      append_none [] = refl
      append_none (z ∷ zs) = ap (λ (us : List Bytes). z ∷ us) (append_none zs)
  find_named xs (h ∷ lines) = find_named (with_name_of xs h) lines
      ∙ find_once xs h (map (λ (h : HeldLine). h.relation) lines)

-- a filter before a search is a test in it
find_filtered : (t p : Bytes → Bool) (xs : List Bytes) → find p (filter t xs) ≡ find (λ name. t name && p name) xs
find_filtered t p [] = refl
find_filtered t p (x ∷ xs) = by (t x) (find_filtered t p xs)
  where
    by : (b : Bool) → find p (filter t xs) ≡ find (λ name. t name && p name) xs
        → find p (cond b (x ∷ filter t xs) (filter t xs))
        ≡ cond (b && p x) (Some x) (find (λ name. t name && p name) xs)
    by true e = ap (λ (o : Option Bytes). cond (p x) (Some x) o) e
    by false e = e

pub first_of_changed : (rs : List Relation) (lines : List HeldLine) (q : Listed)
    → first_of_names (changed_relations rs lines) q ≡ first_read lines (has_changed rs lines) q
first_of_changed rs lines q =
    find_filtered (has_changed rs lines) (listed_reads q) (fold with_name_of [] lines)
    ∙ find_named (λ name. has_changed rs lines name && listed_reads q name) [] lines

-- one more line among those whose relations were named
pub named_more : (test : Bytes → Bool) (xs : List Bytes) (h : HeldLine)
    → filter test (with_name_of xs h)
    ≡ cond (test h.relation && not (list_any (λ n. bytes_eq n h.relation) (filter test xs)))
    (filter test xs ++ h.relation ∷ []) (filter test xs)
named_more test xs h = by (test h.relation) refl (list_any (λ n. bytes_eq n h.relation) xs) refl
  where
    filtered : (t : Bool) → test h.relation ≡ t → (zs : List Bytes) → filter test (zs ++ h.relation ∷ [])
        ≡ cond t (filter test zs ++ h.relation ∷ []) (filter test zs)
    filtered true e [] = ap (λ b. cond b (h.relation ∷ []) []) e
    filtered false e [] = ap (λ b. cond b (h.relation ∷ []) []) e
    filtered true e (z ∷ zs) = step (test z) (filtered true e zs)
      where
        step : (b : Bool) → filter test (zs ++ h.relation ∷ []) ≡ filter test zs ++ h.relation ∷ []
            → cond b (z ∷ filter test (zs ++ h.relation ∷ [])) (filter test (zs ++ h.relation ∷ []))
            ≡ cond b (z ∷ filter test zs) (filter test zs) ++ h.relation ∷ []
        step true k = ap (λ (us : List Bytes). z ∷ us) k
        step false k = k
    filtered false e (z ∷ zs) = step (test z) (filtered false e zs)
      where
        step : (b : Bool) → filter test (zs ++ h.relation ∷ []) ≡ filter test zs
            → cond b (z ∷ filter test (zs ++ h.relation ∷ [])) (filter test (zs ++ h.relation ∷ []))
            ≡ cond b (z ∷ filter test zs) (filter test zs)
        step true k = ap (λ (us : List Bytes). z ∷ us) k
        step false k = k

    -- a name that passes is among those that pass exactly if it is among all
    passing : test h.relation ≡ true → (zs : List Bytes) → list_any (λ n. bytes_eq n h.relation) (filter test zs)
        ≡ list_any (λ n. bytes_eq n h.relation) zs
    passing e [] = refl
    passing e (z ∷ zs) = step (test z) refl (bytes_eq z h.relation) refl (passing e zs)
      where
        step : (b : Bool) → test z ≡ b → (q : Bool) → bytes_eq z h.relation ≡ q
            → list_any (λ n. bytes_eq n h.relation) (filter test zs) ≡ list_any (λ n. bytes_eq n h.relation) zs
            → list_any (λ n. bytes_eq n h.relation) (cond b (z ∷ filter test zs) (filter test zs))
            ≡ (q || list_any (λ n. bytes_eq n h.relation) zs)
        step true f q g more = ap₂ (λ (a b : Bool). a || b) g more
        step false f true g more = absurd (false≢true (sym f ∙ ap test ((bytes_eq-decides z h.relation).0 g) ∙ e))
        step false f false g more = more

    by : (t : Bool) → test h.relation ≡ t → (b : Bool) → list_any (λ n. bytes_eq n h.relation) xs ≡ b
        → filter test (cond b xs (xs ++ h.relation ∷ []))
        ≡ cond (t && not (list_any (λ n. bytes_eq n h.relation) (filter test xs)))
        (filter test xs ++ h.relation ∷ []) (filter test xs)
    by true e true f = sym (ap (λ b. cond (not b) (filter test xs ++ h.relation ∷ []) (filter test xs))
        (passing e xs ∙ f))
    by true e false f = filtered true e xs ∙ sym (ap (λ b. cond (not b) (filter test xs ++ h.relation ∷ [])
        (filter test xs)) (passing e xs ∙ f))
    by false e true f = refl
    by false e false f = filtered false e xs

-- the names of the changed relations of this many lines
abbrev pub named_so_far : List Relation → List HeldLine → ℕ → List Bytes
named_so_far rs lines at = filter (has_changed rs lines) (fold with_name_of [] (take at lines))

pub named_next : (rs : List Relation) (lines : List HeldLine) (at : ℕ) (h : HeldLine) (names new : List Bytes)
    → at < length lines → h ≡ get_or lines at h → names ≡ named_so_far rs lines at
    → JoinsNames (has_changed rs lines) h.relation names new → new ≡ named_so_far rs lines (at + 1)
named_next rs lines at h names new low is so joins =
    joins
    ∙ ap (λ (xs : List Bytes). cond
    (has_changed rs lines h.relation && not (list_any (λ n. bytes_eq n h.relation) xs)) (xs ++ h.relation ∷ []) xs) so
    ∙ sym (named_more (has_changed rs lines) (fold with_name_of [] (take at lines)) h)
    ∙ ap (filter (has_changed rs lines)) (sym (ap (fold with_name_of [])
    (take_more lines at h low ∙ ap (λ (x : HeldLine). take at lines ++ x ∷ []) (sym is))
    ∙ fold_more [] (take at lines)))
  where
    fold_more : (xs : List Bytes) (front : List HeldLine) → fold with_name_of xs (front ++ h ∷ [])
        ≡ with_name_of (fold with_name_of xs front) h
    fold_more xs [] = refl
    fold_more xs (g ∷ front) = fold_more (with_name_of xs g) front

pub named_all : (rs : List Relation) (lines : List HeldLine) (at : ℕ) → at ≡ length lines
    → named_so_far rs lines at ≡ changed_relations rs lines
named_all rs lines at e = ap (λ (hs : List HeldLine). filter (has_changed rs lines) (fold with_name_of [] hs))
    (ap (λ (n : ℕ). take n lines) e ∙ whole lines)
  where
    whole : (hs : List HeldLine) → take (length hs) hs ≡ hs
    whole [] = refl
    whole (h ∷ hs) = ap (λ (us : List HeldLine). h ∷ us) (whole hs)

-- a name that is there already, or whose relation doesn't change, joins none
pub name_there : (test : Bytes → Bool) (name : Bytes) (names : List Bytes)
    → list_any (λ n. bytes_eq n name) names ≡ true → JoinsNames test name names names
name_there test name names e = sym (by (test name))
  where
    by : (t : Bool) → cond (t && not (list_any (λ n. bytes_eq n name) names)) (names ++ name ∷ []) names ≡ names
    by true = ap (λ b. cond (not b) (names ++ name ∷ []) names) e
    by false = refl

pub name_stays : (test : Bytes → Bool) (name : Bytes) (names : List Bytes) → test name ≡ false
    → JoinsNames test name names names
name_stays test name names e =
    sym (ap (λ t. cond (t && not (list_any (λ n. bytes_eq n name) names)) (names ++ name ∷ []) names) e)

pub name_joins : (test : Bytes → Bool) (name : Bytes) (names new : List Bytes) → test name ≡ true
    → list_any (λ n. bytes_eq n name) names ≡ false → new ≡ names ++ name ∷ [] → JoinsNames test name names new
name_joins test name names new e f is = is
    ∙ sym (ap₂ (λ (t b : Bool). cond (t && not b) (names ++ name ∷ []) names) e f)

-- a relation's rows are in a group of one list or the other
pub grouped_is : (rs : List Relation) (come gone : List Group) (test : Bytes → Bool) (at : ℕ) (name : Bytes)
    → AreGroupsFor rs (come ++ gone) test → at < length rs → (relation_at rs at).name ≡ name
    → (list_any (λ (g : Group). g.relation.at == at) come || list_any (λ (g : Group). g.relation.at == at) gone)
    ≡ test name
grouped_is rs come gone test at name k low named =
    ap₂ (λ (a b : Bool). a || b) (any_group come) (any_group gone)
    ∙ sym (groups_both come gone at) ∙ k.tested at low ∙ ap test named
  where
    any_group : (gs : List Group) → list_any (λ (g : Group). g.relation.at == at) gs
        ≡ is_reader (group_relations gs) at
    any_group [] = refl
    any_group (g ∷ gs) = ap (λ b. (g.relation.at == at) || b) (any_group gs)
