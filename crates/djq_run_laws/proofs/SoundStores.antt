-- What is registered stays sound, as the commands change the store.
use Rattle.std.specs.Prelude.{List, [], ◌∷◌, ◌≡◌, ◌++◌, Bool, false, Some, is_none, unwrap_or, map, All, Contains, ◌≤◌}
use Rattle.std.specs.Prelude.{true, length, ℕ, ◌<◌}
use Rattle.std.specs.List.{list_any}
use Rattle.std.proofs.Common.{refl, sym, ap₂, ◌∙◌, ap, subst, arith}
use Rattle.std.proofs.lemmas.List.{length-append}
use Rattle.std.proofs.lemmas.List.Elements.{All-contains, All-weaker, All-push, All-nil, All-cons, All-head, All-tail}
use Rattle.std.proofs.lemmas.Bool.{or_parts, or_from}
use Rattle.std.proofs.lemmas.List.Sorted.{All-permutation, length_permutation}
use Rattle.djq_model.specs.declared.relation.ColumnType.{ColumnType}
use Rattle.djq_model.specs.declared.relation.Relation.{Relation}
use Rattle.djq_model.specs.declared.query.Query.{Query}
use Rattle.djq_model.specs.declared.query.Atom.{Atom}
use Rattle.djq_model.specs.declared.relation.CountedRow.{CountedRow}
use Rattle.djq_model.specs.Data.{Bytes, bytes_eq, drop_first, relation_of, tuples_in}
use Rattle.djq_model.specs.Listed.{Listed, a_query, a_union, listed_name, members_of, listed_of}
use Rattle.djq_model.specs.Typed.{fits}
use Rattle.djq_model.proofs.Copies.{tuples_moved, differ_moved}
use Rattle.djq_protocol.specs.declared.limits.TheConstants.{TEXTS, RELATIONS, COLUMNS, QUERIES}
use Rattle.djq_protocol.specs.QueryFault.{reads_unknown}
use Rattle.djq_store_spec.specs.Store.{Store}
use Rattle.djq_store_spec.specs.Asking.{type_among, variable_type, answer_types, listed_types}
use Rattle.djq_store_spec.specs.Registering.{is_member}
use Rattle.djq_store_spec.specs.Changes.{RowsOutcome, accepted, out_of_memory, unchanged}
use Rattle.djq_answer_laws.proofs.Lists.{first_there, hold_each}
use Rattle.djq_answer_laws.proofs.Choices.{none_any}
use Rattle.djq_machine.specs.Step.{SameRelations}
use Rattle.djq_run_laws.specs.Sound.{IsConnex, IsSoundListed, AreApart, IsCopyCount, IsSoundRelation, IsSoundStore}
use Rattle.djq_run_laws.specs.Sound.{IsWithinLimits, AreWithinLimits}
use Rattle.djq_run_laws.specs.Form.{MayRegister, RowCommand, Stored, LearnsTexts, learns_texts, listed_texts}
use Rattle.djq_run_laws.specs.Form.{makes_relation, registers, drops_query}
use Rattle.djq_run_laws.proofs.Lists.{less_dropped}
use Rattle.djq_run_laws.proofs.Lists.{all_found, all_dropped, names_push, names_dropped, texts_apart, nothing_apart}
use Rattle.djq_run_laws.proofs.Cursors.{found_in_front, dropped_query}
use Rattle.djq_run_laws.proofs.RowCommands.{SameTypes, types_at, types_found, there_still, more_types, types_moved}
use Rattle.djq_run_laws.proofs.RowCommands.{RowsSuit, RowsMade}

-- ---- What is registered stays sound: beside relations that keep their types, and as long as members stay registered.

-- Relations that are there keep their types.
abbrev pub TypesStay : List Relation → List Relation → Type 0
TypesStay rs rs' = (n : Bytes) → is_none (relation_of rs n) ≡ false → types_at rs' n ≡ types_at rs n

-- ---- a query

abbrev is_unknown : List Relation → Atom → Bool
is_unknown rs a = is_none (relation_of rs a.relation)

module _ (rs rs' : List Relation) (still : TypesStay rs rs') where
  known_stay : (atoms : List Atom) → list_any (is_unknown rs) atoms ≡ false → list_any (is_unknown rs') atoms ≡ false
  known_stay [] known = refl
  known_stay (a ∷ more) known =
      let k = or_parts (is_unknown rs a) (list_any (is_unknown rs) more) known in
      or_from (is_unknown rs' a) (list_any (is_unknown rs') more)
      (there_still rs rs' a.relation (still a.relation k.0) k.0) (known_stay more k.1)

  variable_stays : (atoms : List Atom) → list_any (is_unknown rs) atoms ≡ false → (x : Bytes)
      → variable_type rs' atoms x ≡ variable_type rs atoms x
  variable_stays [] known x = refl
  variable_stays (a ∷ more) known x =
      let k = or_parts (is_unknown rs a) (list_any (is_unknown rs) more) known in
      ap₂ (λ (ts : List ColumnType) (rest : ColumnType). unwrap_or (type_among ts a.terms x) rest)
      (types_found rs rs' a.relation (still a.relation k.0)) (variable_stays more k.1 x)

  types_stay : (q : Query) → reads_unknown rs q ≡ false → answer_types rs' q ≡ answer_types rs q
  types_stay q known = over q.head
    where
      over : (xs : List Bytes) → map (variable_type rs' q.atoms) xs ≡ map (variable_type rs q.atoms) xs
      over [] = refl
      over (x ∷ xs) =
          ap₂ (λ (t : ColumnType) (ts : List ColumnType). t ∷ ts) (variable_stays q.atoms known x) (over xs)

  union_types_stay : (name : Bytes) (qs : List Query) → ((q : Query) → Contains qs q → reads_unknown rs q ≡ false)
      → listed_types rs' (Some (a_union name qs)) ≡ listed_types rs (Some (a_union name qs))
  union_types_stay name [] known = refl
  union_types_stay name (q ∷ qs) known = types_stay q (known q (first_there q qs q refl))

  -- ---- all of them

  -- A query that is registered among some is among others too.
  abbrev IsStill : List Listed → List Listed → Query → Type 0
  IsStill ls ls' q = listed_of ls q.name ≡ Some (a_query q) → listed_of ls' q.name ≡ Some (a_query q)

  listed_stays : (ls ls' : List Listed) → All (IsSoundListed rs ls) ls → (l : Listed)
      → ((q : Query) → Contains (members_of l) q → IsStill ls ls' q) → IsSoundListed rs ls l → IsSoundListed rs' ls' l
  listed_stays ls ls' sound (a_query q) there known = known_stay q.atoms known
  listed_stays ls ls' sound (a_union name qs) there h = record {
    two = h.two;
    few = h.few;
    registered = hold_each (λ (q : Query). listed_of ls' q.name ≡ Some (a_query q)) qs
        (λ q c. there q c (All-contains (λ (p : Query). listed_of ls p.name ≡ Some (a_query p)) qs q h.registered c));
    apart = h.apart;
    types = hold_each (λ (q : Query). answer_types rs' q ≡ listed_types rs' (Some (a_union name qs))) qs
        (λ q c. types_stay q (known q c)
        ∙ (All-contains (λ (p : Query). answer_types rs p ≡ listed_types rs (Some (a_union name qs))) qs q h.types c
        ∙ sym (union_types_stay name qs known)));
  }
    where
      known : (q : Query) → Contains qs q → reads_unknown rs q ≡ false
      known q c =
          all_found (IsSoundListed rs ls) (λ (l : Listed). bytes_eq (listed_name l) q.name) ls (a_query q) sound
          (All-contains (λ (p : Query). listed_of ls p.name ≡ Some (a_query p)) qs q h.registered c)

  all_stay : (ls : List Listed) → All (IsSoundListed rs ls) ls → All (IsSoundListed rs' ls) ls
  all_stay ls sound =
      All-weaker (IsSoundListed rs ls) (IsSoundListed rs' ls)
      (λ l h. listed_stays ls ls sound l (λ q c is. is) h) ls sound

-- Beside other rows, and beside a relation more.
pub same_types_sound : (rs rs' : List Relation) → SameTypes rs rs' → (ls : List Listed) → All (IsSoundListed rs ls) ls
    → All (IsSoundListed rs' ls) ls
same_types_sound rs rs' same ls sound = all_stay rs rs' (λ n known. same n) ls sound

pub more_sound : (rs : List Relation) (more : Relation) (ls : List Listed) → All (IsSoundListed rs ls) ls
    → All (IsSoundListed (rs ++ more ∷ []) ls) ls
more_sound rs more ls sound = all_stay rs (rs ++ more ∷ []) (more_types rs more) ls sound

-- More is registered.
stay_beside : (rs : List Relation) (ls : List Listed) (more : Listed) → All (IsSoundListed rs ls) ls → (l : Listed)
    → IsSoundListed rs ls l → IsSoundListed rs (ls ++ more ∷ []) l
stay_beside rs ls more sound l h =
    listed_stays rs rs (λ n known. refl) ls (ls ++ more ∷ []) sound l
    (λ q c is. found_in_front ls more q.name (a_query q) is) h

may_sound : (st : Store) (l : Listed) → MayRegister st l → IsSoundListed st.relations st.queries l
may_sound st (a_query q) h = h.1
may_sound st (a_union name qs) h = h

pub registered_sound : (st : Store) (l : Listed) → MayRegister st l
    → All (IsSoundListed st.relations st.queries) st.queries
    → All (IsSoundListed st.relations (st.queries ++ l ∷ [])) (st.queries ++ l ∷ [])
registered_sound st l may sound =
    let rs = st.relations in
    let ls = st.queries in
    All-push (IsSoundListed rs (ls ++ l ∷ [])) ls l
    (All-weaker (IsSoundListed rs ls) (IsSoundListed rs (ls ++ l ∷ [])) (stay_beside rs ls l sound) ls sound)
    (stay_beside rs ls l sound l (may_sound st l may))

-- A union of registered queries is connex as they are.
pub may_connex : (st : Store) (l : Listed) → MayRegister st l → All IsConnex st.queries → IsConnex l
may_connex st (a_query q) h connex = h.0
may_connex st (a_union name qs) h connex =
    All-weaker (λ (q : Query). listed_of st.queries q.name ≡ Some (a_query q)) (λ (q : Query). IsConnex (a_query q))
    (λ q is. all_found IsConnex (λ (l : Listed). bytes_eq (listed_name l) q.name) st.queries (a_query q) connex is)
    qs h.registered

-- So its members are within their limits.
may_limits : (st : Store) (l : Listed) → MayRegister st l → All AreWithinLimits st.queries → AreWithinLimits l
may_limits st (a_query q) h limits = All-cons IsWithinLimits q [] h.2 (All-nil IsWithinLimits)
may_limits st (a_union name qs) h limits =
    All-weaker (λ (q : Query). listed_of st.queries q.name ≡ Some (a_query q)) IsWithinLimits
    (λ q is. All-head IsWithinLimits q []
    (all_found AreWithinLimits (λ (l : Listed). bytes_eq (listed_name l) q.name) st.queries (a_query q) limits is))
    qs h.registered

-- What is no member is dropped.
pub dropped_sound : (rs : List Relation) (ls : List Listed) (name : Bytes) → is_member ls name ≡ false
    → All (IsSoundListed rs ls) ls
    → All (IsSoundListed rs (drop_first (λ l. bytes_eq (listed_name l) name) ls))
    (drop_first (λ l. bytes_eq (listed_name l) name) ls)
dropped_sound rs ls name free sound =
    let left = drop_first (λ (l : Listed). bytes_eq (listed_name l) name) ls in
    all_dropped (IsSoundListed rs left) (λ (l : Listed). bytes_eq (listed_name l) name) ls
    (hold_each (IsSoundListed rs left) ls (λ l c.
    listed_stays rs rs (λ n known. refl) ls left sound l
    (λ q d is. dropped_query ls name q.name (apart l c q d) ∙ is) (All-contains (IsSoundListed rs ls) ls l sound c)))
  where
    names : Query → Bool
    names q = bytes_eq q.name name

    apart : (l : Listed) → Contains ls l → (q : Query) → Contains (members_of l) q → bytes_eq q.name name ≡ false
    apart l c q d =
        All-contains (λ (p : Query). names p ≡ false) (members_of l) q
        (none_any names (members_of l)
        (All-contains (λ (k : Listed). list_any names (members_of k) ≡ false) ls l
        (none_any (λ (k : Listed). list_any names (members_of k)) ls free) c)) d

-- ---- What the commands do to the store keeps it sound.

-- one more where there is a place, one less, and as many
pub one_place : {A : Type 0} (xs : List A) (x : A) (most : ℕ) → length xs < most → length (xs ++ x ∷ []) ≤ most
one_place xs x most place = let long = length-append xs (x ∷ []) in omega (arith, long, place)

pub one_dropped : {A : Type 0} (p : A → Bool) (xs : List A) (most : ℕ) → length xs ≤ most → length (drop_first p xs) ≤ most
one_dropped p xs most few = let less = less_dropped p xs in omega (arith, less, few)

pub as_many : {A : Type 0} (xs ys : List A) {most : ℕ} → length ys ≡ length xs → length xs ≤ most → length ys ≤ most
as_many xs ys same few = omega (arith, same, few)

-- Where no more than texts become known.
learned_sound : (old new : Store) → LearnsTexts old new → IsSoundStore old → IsSoundStore new
learned_sound old new h s = subst IsSoundStore (sym h.store) (record {
  relations = s.relations;
  rows = s.rows;
  texts = texts_apart old.texts h.texts s.texts;
  queries = s.queries;
  connex = s.connex;
  listed = s.listed;
  limits = s.limits;
  numbers = record {
    relations = s.numbers.relations;
    texts = subst (λ (st : Store). length st.texts ≤ TEXTS) h.store (h.few s.numbers.texts);
    queries = s.numbers.queries;
    seq = s.numbers.seq;
  };
})

-- What a command of the store makes of it.
pub stored_sound : (used : Bytes → Bool) (old new : Store) → Stored used old new → IsSoundStore old → IsSoundStore new
stored_sound used old new (learns_texts h) s = learned_sound old new h s
stored_sound used old new (makes_relation name types may e) s =
    let made : Relation = record { name = name; types = types; rows = [] } in
    subst IsSoundStore (sym e) (record {
      relations = names_push (λ (x : Relation). x.name) old.relations made s.relations may.new;
      rows = All-push IsSoundRelation old.relations made s.rows
          (record {
            some = may.some;
            columns = may.columns;
            few = omega arith;
            typed = All-nil (λ t. fits types t ≡ true);
            once = nothing_apart (λ a b. a ≡ b → ⊥);
            copies = All-nil (λ (c : CountedRow). IsCopyCount c.copies);
          });
      texts = s.texts;
      queries = s.queries;
      connex = s.connex;
      listed = more_sound old.relations made old.queries s.listed;
      limits = s.limits;
      numbers = record {
        relations = one_place old.relations made RELATIONS may.place;
        texts = s.numbers.texts;
        queries = s.numbers.queries;
        seq = s.numbers.seq;
      };
    })
stored_sound used old new (registers q none may place few e) s = subst IsSoundStore (sym e) (record {
  relations = s.relations;
  rows = s.rows;
  texts = texts_apart old.texts (listed_texts q) s.texts;
  queries = names_push listed_name old.queries q s.queries none;
  connex = All-push IsConnex old.queries q s.connex (may_connex old q may s.connex);
  listed = registered_sound old q may s.listed;
  limits = All-push AreWithinLimits old.queries q s.limits (may_limits old q may s.limits);
  numbers = record {
    relations = s.numbers.relations;
    texts = subst (λ (st : Store). length st.texts ≤ TEXTS) e (few s.numbers.texts);
    queries = one_place old.queries q QUERIES place;
    seq = s.numbers.seq;
  };
})
stored_sound used old new (drops_query name unused free e) s = subst IsSoundStore (sym e) (record {
  relations = s.relations;
  rows = s.rows;
  texts = s.texts;
  queries = names_dropped listed_name (λ n. bytes_eq n name) old.queries s.queries;
  connex = all_dropped IsConnex (λ (x : Listed). bytes_eq (listed_name x) name)
      old.queries s.connex;
  listed = dropped_sound old.relations old.queries name free s.listed;
  limits = all_dropped AreWithinLimits (λ (x : Listed). bytes_eq (listed_name x) name) old.queries s.limits;
  numbers = record {
    relations = s.numbers.relations;
    texts = s.numbers.texts;
    queries = one_dropped (λ (x : Listed). bytes_eq (listed_name x) name) old.queries QUERIES s.numbers.queries;
    seq = s.numbers.seq;
  };
})

-- What a command of rows makes of it.
pub made_sound : (c : RowCommand) (old : Store) (o : RowsOutcome) (new : Store) → RowsMade c old o new → RowsSuit old c
    → IsSoundStore old → IsSoundStore new
made_sound c old (accepted change) new h suit s = subst IsSoundStore (sym h.store) (record {
  relations = h.names s.relations;
  rows = h.rows suit s.rows;
  texts = texts_apart old.texts h.texts s.texts;
  queries = s.queries;
  connex = s.connex;
  listed = same_types_sound old.relations change.after h.types old.queries s.listed;
  limits = s.limits;
  numbers = record {
    relations = as_many old.relations change.after h.count s.numbers.relations;
    texts = subst (λ (st : Store). length st.texts ≤ TEXTS) h.store (h.few s.numbers.texts);
    queries = s.numbers.queries;
    seq = let below = h.below in omega (arith, below);
  };
})
made_sound c old (out_of_memory change) new h suit s = learned_sound old new h s
made_sound c old unchanged new h suit s = subst IsSoundStore (sym h.store) (record {
  relations = h.names s.relations;
  rows = h.rows suit s.rows;
  texts = texts_apart old.texts h.texts s.texts;
  queries = s.queries;
  connex = s.connex;
  listed = same_types_sound old.relations h.relations h.types old.queries s.listed;
  limits = s.limits;
  numbers = record {
    relations = as_many old.relations h.relations h.count s.numbers.relations;
    texts = subst (λ (st : Store). length st.texts ≤ TEXTS) h.store (h.few s.numbers.texts);
    queries = s.numbers.queries;
    seq = s.numbers.seq;
  };
})

-- The rows in another order.
moved_names : (rs moved : List Relation) → SameRelations rs moved
    → map (λ (x : Relation). x.name) moved ≡ map (λ (x : Relation). x.name) rs
moved_names [] [] h = refl
moved_names (r ∷ rs) (m ∷ ms) h = ap (λ n. n ∷ map (λ (x : Relation). x.name) ms) h.0 ∙ ap (λ ns. r.name ∷ ns)
    (moved_names rs ms h.3)
moved_names [] (m ∷ ms) h = absurd h
moved_names (r ∷ rs) [] h = absurd h

moved_count : (rs moved : List Relation) → SameRelations rs moved → length moved ≡ length rs
moved_count [] [] h = refl
moved_count (r ∷ rs) (m ∷ ms) h = let rest = moved_count rs ms h.3 in omega (arith, rest)
moved_count [] (m ∷ ms) h = absurd h
moved_count (r ∷ rs) [] h = absurd h

moved_rows : (rs moved : List Relation) → SameRelations rs moved → All IsSoundRelation rs → All IsSoundRelation moved
moved_rows [] [] h s = s
moved_rows (r ∷ rs) (m ∷ ms) h s =
    let k = All-head IsSoundRelation r rs s in
    let rows = tuples_moved r.rows m.rows h.2 in
    All-cons IsSoundRelation m ms (record {
      some = subst (λ (types : List ColumnType). 1 ≤ length types) (sym h.1) k.some;
      columns = subst (λ (types : List ColumnType). length types ≤ COLUMNS) (sym h.1) k.columns;
      few = as_many (tuples_in r) (tuples_in m) (length_permutation (tuples_in r) (tuples_in m) rows) k.few;
      typed = subst (λ types. All (λ t. fits types t ≡ true) (tuples_in m)) (sym h.1)
          (All-permutation (λ t. fits r.types t ≡ true) (tuples_in r) (tuples_in m) rows k.typed);
      once = differ_moved (tuples_in r) (tuples_in m) rows k.once;
      copies = All-permutation (λ (c : CountedRow). IsCopyCount c.copies) r.rows m.rows h.2 k.copies;
    }) (moved_rows rs ms h.3 (All-tail IsSoundRelation r rs s))
moved_rows [] (m ∷ ms) h s = absurd h
moved_rows (r ∷ rs) [] h s = absurd h

pub moved_store : (old : Store) (relations : List Relation) → SameRelations old.relations relations → IsSoundStore old
    → IsSoundStore (record old { relations = relations })
moved_store old relations h s = record {
  relations = subst AreApart (sym (moved_names old.relations relations h)) s.relations;
  rows = moved_rows old.relations relations h s.rows;
  texts = s.texts;
  queries = s.queries;
  connex = s.connex;
  listed = same_types_sound old.relations relations (types_moved old.relations relations h) old.queries s.listed;
  limits = s.limits;
  numbers = record {
    relations = as_many old.relations relations (moved_count old.relations relations h) s.numbers.relations;
    texts = s.numbers.texts;
    queries = s.numbers.queries;
    seq = s.numbers.seq;
  };
}
