-- A line's row joins the group of its relation.
use Rattle.std.specs.Prelude.{ℕ, suc, List, [], ◌∷◌, ◌≡◌, ◌≢◌, ◌==◌, ◌||◌, ◌+◌, ◌++◌, ◌<◌, Bool, true, false, not}
use Rattle.std.specs.Prelude.{cond, None, Some, length, map, filter, nat_lt, position, slice_get, slice_set, slice_index_or, All}
use Rattle.std.specs.Prelude.{AllPairs, Contains}
use Rattle.std.specs.List.{position_or_len}
use Rattle.std.proofs.Common.{refl, sym, ap, ap₂, ◌∙◌, subst, inl, inr, arith}
use Rattle.std.proofs.lemmas.Bool.{eq-eqb, eqb-true, false_from_ne_true, lt-ltb, ltb-true}
use Rattle.std.proofs.lemmas.List.{map-append, append-nil, length-map}
use Rattle.std.proofs.lemmas.List.Elements.{All-head, All-tail, All-nil, All-cons, All-append, All-contains, filter-append}
use Rattle.std.proofs.lemmas.List.Folds.{find_at}
use Rattle.std.proofs.lemmas.Option.{slice_get_read}
use Rattle.djq_model.specs.declared.relation.Relation.{Relation}
use Rattle.djq_model.specs.Data.{Bytes, bytes_eq, relation_of}
use Rattle.djq_model.specs.Equality.{bytes_eq-decides}
use Rattle.djq_answer_laws.proofs.Lists.{hold_each, pairs_head, pairs_tail}
use Rattle.djq_database.specs.declared.relation_id.RelationId.{RelationId}
use Rattle.djq_database.specs.Cells.{cells_of}
use Rattle.djq_store_spec.specs.Held.{HeldLine}
use Rattle.djq_reach.specs.declared.group.Group.{Group}
use Rattle.djq_transaction.specs.Net.{relation_place, Suits}
use Rattle.djq_transaction.specs.Grouped.{relations_named, cells_in_relation, grouped_in, grouped_rows}
use Rattle.djq_transaction.specs.Grouped.{bare_group, HasGroupAt, IsEntryOf}
use Rattle.djq_transaction.proofs.NamedRows.{found_named}
use Rattle.djq_transaction.proofs.NamedRelations.{is_named, named_once, named_hold, itself_named, each_named, named_step}

-- ---- relations by their places

abbrev pub IsFound : List Relation → Bytes → Type 0
IsFound relations name = (r : Relation) × (relation_of relations name ≡ Some r)

-- relations that are there have one place where they have one name
pub places_tell : (relations : List Relation) (m n : Bytes) → IsFound relations m → IsFound relations n
    → (relation_place relations m == relation_place relations n) ≡ bytes_eq m n
places_tell relations m n f g = by (bytes_eq m n) refl
  where
    by : (b : Bool) → bytes_eq m n ≡ b → (relation_place relations m == relation_place relations n) ≡ b
    by true e = eq-eqb (relation_place relations m) (relation_place relations n)
        (ap (λ (name : Bytes). relation_place relations name) ((bytes_eq-decides m n).0 e))
    by false e = false_from_ne_true (relation_place relations m == relation_place relations n) (λ k.
        let both : Some f.0 ≡ Some g.0 =
        sym f.1 ∙ find_at (λ (r : Relation). bytes_eq r.name m) relations
        ∙ ap (λ (i : ℕ). slice_get relations i) (eqb-true (relation_place relations m) (relation_place relations n) k)
        ∙ sym (find_at (λ (r : Relation). bytes_eq r.name n) relations) ∙ g.1 in
        let one : f.0 ≡ g.0 = cc both in
        let same : m ≡ n = sym (found_named relations m f.0 f.1) ∙ ap (λ (r : Relation). r.name) one
        ∙ found_named relations n g.0 g.1 in
        let yes : bytes_eq m n ≡ true = (bytes_eq-decides m n).1 same in
        cc (yes, e))

-- ---- the first of a list that has a name

abbrev pub name_at : List Bytes → Bytes → ℕ
name_at names name = position_or_len (λ m. bytes_eq m name) names

-- a position among mapped names
mapped_position : (f : Bytes → Group) (p : Group → Bool) (name : Bytes) (names : List Bytes)
    → All (λ m. p (f m) ≡ bytes_eq m name) names → position_or_len p (map f names) ≡ name_at names name
mapped_position f p name [] h = refl
mapped_position f p name (m ∷ ms) h =
    ap₂ (λ (b : Bool) (k : ℕ). cond (not b) (1 + k) 0) (All-head (λ (n : Bytes). p (f n) ≡ bytes_eq n name) m ms h)
    (mapped_position f p name ms (All-tail (λ (n : Bytes). p (f n) ≡ bytes_eq n name) m ms h))

position_some : {A : Type 0} (p : A → Bool) (xs : List A) (at : ℕ) → position p xs ≡ Some at
    → (position_or_len p xs ≡ at) × (position_or_len p xs < length xs)
position_some p xs at e = by (nat_lt (position_or_len p xs) (length xs)) refl e
  where
    by : (b : Bool) → nat_lt (position_or_len p xs) (length xs) ≡ b
        → cond b (Some (position_or_len p xs)) None ≡ Some at
        → (position_or_len p xs ≡ at) × (position_or_len p xs < length xs)
    by true k s = (cc s, ltb-true (position_or_len p xs) (length xs) k)
    by false k s = absurd (cc s)

position_none : {A : Type 0} (p : A → Bool) (xs : List A) → position p xs ≡ None
    → position_or_len p xs < length xs → ⊥
position_none p xs e less =
    let yes : nat_lt (position_or_len p xs) (length xs) ≡ true = lt-ltb (position_or_len p xs) (length xs) less in
    let both : Some (position_or_len p xs) ≡ None =
    ap (λ (b : Bool). cond b (Some (position_or_len p xs)) None) (sym yes) ∙ e in
    cc both

-- a name has a place exactly where it is named
named_within : (names : List Bytes) (name : Bytes) → name_at names name < length names → is_named name names ≡ true
named_within [] name less = absurd (omega (arith, less))
named_within (m ∷ ms) name less = by (bytes_eq m name) less (λ k. named_within ms name k)
  where
    by : (b : Bool) → cond (not b) (1 + name_at ms name) 0 < length (m ∷ ms)
        → (name_at ms name < length ms → is_named name ms ≡ true) → (b || is_named name ms) ≡ true
    by true k more = refl
    by false k more = more (omega (arith, k))

within_named : (names : List Bytes) (name : Bytes) → is_named name names ≡ true → name_at names name < length names
within_named [] name e = absurd (cc e)
within_named (m ∷ ms) name e = by (bytes_eq m name) e (λ k. within_named ms name k)
  where
    by : (b : Bool) → (b || is_named name ms) ≡ true
        → (is_named name ms ≡ true → name_at ms name < length ms)
        → cond (not b) (1 + name_at ms name) 0 < length (m ∷ ms)
    by true k more = omega arith
    by false k more = omega (arith, more k)

unnamed_at : (names : List Bytes) (name : Bytes) → is_named name names ≡ false
    → name_at (names ++ name ∷ []) name ≡ length names
unnamed_at [] name e = ap (λ (b : Bool). cond (not b) 1 0) ((bytes_eq-decides name name).1 refl)
unnamed_at (m ∷ ms) name e = by (bytes_eq m name) e (λ k. unnamed_at ms name k)
  where
    by : (b : Bool) → (b || is_named name ms) ≡ false
        → (is_named name ms ≡ false → name_at (ms ++ name ∷ []) name ≡ length ms)
        → cond (not b) (1 + name_at (ms ++ name ∷ []) name) 0 ≡ length (m ∷ ms)
    by true k more = absurd (cc k)
    by false k more = omega (arith, more k)

same_mapped : (f g : Bytes → Group) (names : List Bytes) → All (λ m. f m ≡ g m) names → map f names ≡ map g names
same_mapped f g [] h = refl
same_mapped f g (m ∷ ms) h = ap₂ (λ (x : Group) (xs : List Group). x ∷ xs)
    (All-head (λ (n : Bytes). f n ≡ g n) m ms h) (same_mapped f g ms (All-tail (λ (n : Bytes). f n ≡ g n) m ms h))

-- the group of a name is another, and all others stay
set_named : (f g : Bytes → Group) (names : List Bytes) (name : Bytes) → AllPairs (λ m n. m ≢ n) names
    → ((m : Bytes) → bytes_eq m name ≡ false → f m ≡ g m) → name_at names name < length names
    → slice_set (map f names) (name_at names name) (g name) ≡ map g names
set_named f g [] name d other less = absurd (omega (arith, less))
set_named f g (m ∷ ms) name d other less =
    by (bytes_eq m name) refl less (λ k. set_named f g ms name (pairs_tail (λ (x y : Bytes). x ≢ y) m ms d) other k)
  where
    rest : m ≡ name → All (λ n. f n ≡ g n) ms
    rest same = hold_each (λ (n : Bytes). f n ≡ g n) ms (λ n k. other n (no n k (bytes_eq n name) refl))
      where
        no : (n : Bytes) → Contains ms n → (b : Bool) → bytes_eq n name ≡ b → b ≡ false
        no n k false e = refl
        no n k true e = absurd (All-contains (λ (y : Bytes). m ≢ y) ms n (pairs_head (λ (x y : Bytes). x ≢ y) m ms d) k
            (same ∙ sym ((bytes_eq-decides n name).0 e)))

    by : (b : Bool) → bytes_eq m name ≡ b → cond (not b) (1 + name_at ms name) 0 < length (m ∷ ms)
        → (name_at ms name < length ms → slice_set (map f ms) (name_at ms name) (g name) ≡ map g ms)
        → slice_set (map f (m ∷ ms)) (cond (not b) (1 + name_at ms name) 0) (g name) ≡ map g (m ∷ ms)
    by true e k more =
        let same : m ≡ name = (bytes_eq-decides m name).0 e in
        ap₂ (λ (x : Group) (xs : List Group). x ∷ xs) (ap g (sym same)) (same_mapped f g ms (rest same))
    by false e k more =
        let next : 1 + name_at ms name ≡ suc (name_at ms name) = omega arith in
        ap (λ (i : ℕ). slice_set (f m ∷ map f ms) i (g name)) next
        ∙ ap₂ (λ (x : Group) (xs : List Group). x ∷ xs) (other m e) (more (omega (arith, k)))

get_named : (f : Bytes → Group) (names : List Bytes) (name : Bytes) → name_at names name < length names
    → slice_get (map f names) (name_at names name) ≡ Some (f name)
get_named f [] name less = absurd (omega (arith, less))
get_named f (m ∷ ms) name less = by (bytes_eq m name) refl less (λ k. get_named f ms name k)
  where
    by : (b : Bool) → bytes_eq m name ≡ b → cond (not b) (1 + name_at ms name) 0 < length (m ∷ ms)
        → (name_at ms name < length ms → slice_get (map f ms) (name_at ms name) ≡ Some (f name))
        → slice_get (map f (m ∷ ms)) (cond (not b) (1 + name_at ms name) 0) ≡ Some (f name)
    by true e k more = ap (λ (n : Bytes). Some (f n)) ((bytes_eq-decides m name).0 e)
    by false e k more =
        let next : 1 + name_at ms name ≡ suc (name_at ms name) = omega arith in
        ap (λ (i : ℕ). slice_get (f m ∷ map f ms) i) next ∙ more (omega (arith, k))

-- ---- the rows of a relation, with one line more

more_cells : (texts : List Bytes) (some : List HeldLine) (h : HeldLine) (name : Bytes)
    → cells_in_relation texts (some ++ h ∷ []) name
    ≡ cells_in_relation texts some name ++ cond (bytes_eq h.relation name) (cells_of texts h.row ∷ []) []
more_cells texts some h name =
    ap (λ (hs : List HeldLine). map (λ (g : HeldLine). cells_of texts g.row) hs)
    (filter-append (λ (g : HeldLine). bytes_eq g.relation name) some (h ∷ []))
    ∙ map-append (λ (g : HeldLine). cells_of texts g.row) (filter (λ (g : HeldLine). bytes_eq g.relation name) some)
    (filter (λ (g : HeldLine). bytes_eq g.relation name) (h ∷ []))
    ∙ ap (λ (us : List (List ℕ)). cells_in_relation texts some name ++ us) (one (bytes_eq h.relation name))
  where
    one : (b : Bool) → map (λ (g : HeldLine). cells_of texts g.row) (cond b (h ∷ []) [])
        ≡ cond b (cells_of texts h.row ∷ []) []
    one true = refl
    one false = refl

-- no row of a relation that no line names
no_cells : (texts : List Bytes) (some : List HeldLine) (name : Bytes)
    → All (λ g. bytes_eq g.relation name ≡ false) some → cells_in_relation texts some name ≡ []
no_cells texts [] name h = refl
no_cells texts (g ∷ gs) name h =
    ap (λ (b : Bool). map (λ (k : HeldLine). cells_of texts k.row)
    (cond b (g ∷ filter (λ (k : HeldLine). bytes_eq k.relation name) gs)
    (filter (λ (k : HeldLine). bytes_eq k.relation name) gs)))
    (All-head (λ (k : HeldLine). bytes_eq k.relation name ≡ false) g gs h)
    ∙ no_cells texts gs name (All-tail (λ (k : HeldLine). bytes_eq k.relation name ≡ false) g gs h)

module _ (relations : List Relation) (texts : List Bytes) (some : List HeldLine) (h : HeldLine) (id : RelationId)
    (cells : List ℕ) (suit : All (Suits relations) some) (entry : IsEntryOf relations texts h id cells) where
  abbrev before : Bytes → Group
  before = grouped_in relations texts some

  abbrev after : Bytes → Group
  after = grouped_in relations texts (some ++ h ∷ [])

  abbrev named : List Bytes
  named = relations_named (some ++ h ∷ [])

  found : All (IsFound relations) named
  found = named_hold (IsFound relations) [] (some ++ h ∷ []) (All-nil (IsFound relations))
      (hold_each (λ (g : HeldLine). IsFound relations g.relation) (some ++ h ∷ [])
      (λ g k. let s = All-contains (Suits relations) (some ++ h ∷ []) g
      (All-append (Suits relations) some (h ∷ []) suit
      (All-cons (Suits relations) h [] entry.suits (All-nil (Suits relations)))) k in
      (s.relation, s.found)))

  once : AllPairs (λ m n. m ≢ n) named
  once = named_once [] (some ++ h ∷ []) (λ i j x less within. absurd (omega (arith, within)))

  within : name_at named h.relation < length named
  within = within_named named h.relation
      (ap (λ (ns : List Bytes). is_named h.relation ns) (named_step some h) ∙ itself_named (relations_named some) h)

  tells : (names : List Bytes) → All (IsFound relations) names
      → All (λ m. ((before m).relation.at == id.at) ≡ bytes_eq m h.relation) names
  tells names f = hold_each (λ (m : Bytes). ((before m).relation.at == id.at) ≡ bytes_eq m h.relation) names
      (λ m k. ap (λ (i : ℕ). relation_place relations m == i) entry.place
      ∙ places_tell relations m h.relation (All-contains (IsFound relations) names m f k)
      (entry.suits.relation, entry.suits.found))

  -- the groups, with one of the line's relation, which stands at a place
  pub record HasItsGroup (at : ℕ) (groups : List Group) : Type 0 where
    pub groups_are : groups ≡ map before named
    pub place_is : at ≡ name_at named h.relation

  some_found : All (IsFound relations) (relations_named some)
  some_found = named_hold (IsFound relations) [] some (All-nil (IsFound relations))
      (hold_each (λ (g : HeldLine). IsFound relations g.relation) some
      (λ g k. let s = All-contains (Suits relations) some g suit k in (s.relation, s.found)))

  abbrev is_its : Group → Bool
  is_its g = g.relation.at == id.at

  -- no row among the lines is of a relation that they don't name
  bare_before : is_named h.relation (relations_named some) ≡ false → bare_group id ≡ before h.relation
  bare_before none =
      let apart : All (λ (g : HeldLine). bytes_eq g.relation h.relation ≡ false) some =
      hold_each (λ (g : HeldLine). bytes_eq g.relation h.relation ≡ false) some
      (λ g k. no g (All-contains (λ (f : HeldLine). is_named f.relation (relations_named some) ≡ true) some g
      (each_named [] some) k) (bytes_eq g.relation h.relation) refl) in
      ap₂ (λ (i : ℕ) (us : List (List ℕ)). let g : Group = record { relation = record { at = i }; rows = us } in g)
      entry.place (sym (no_cells texts some h.relation apart))
    where
      no : (g : HeldLine) → is_named g.relation (relations_named some) ≡ true → (b : Bool)
          → bytes_eq g.relation h.relation ≡ b → b ≡ false
      no g k false e = refl
      no g k true e =
          let same : g.relation ≡ h.relation = (bytes_eq-decides g.relation h.relation).0 e in
          let yes : is_named h.relation (relations_named some) ≡ true =
          subst (λ (n : Bytes). is_named n (relations_named some) ≡ true) same k in
          absurd (cc (yes, none))

  pub placed : (old new : List Group) (at : ℕ) → old ≡ grouped_rows relations texts some
      → HasGroupAt id old at new → HasItsGroup at new
  placed old new at was (inl p) =
      let names = relations_named some in
      let first = position_some is_its (map before names) at
      (ap (λ (gs : List Group). position is_its gs) (sym was) ∙ p.0) in
      let mapped = mapped_position before is_its h.relation names (tells names some_found) in
      let less : name_at names h.relation < length names = omega (arith, first.1, mapped, length-map names before) in
      let same : named ≡ names = named_step some h
      ∙ ap (λ (b : Bool). cond b names (names ++ h.relation ∷ [])) (named_within names h.relation less) in
      record {
        groups_are = p.1 ∙ was ∙ ap (λ (ns : List Bytes). map before ns) (sym same);
        place_is = sym first.0 ∙ mapped ∙ ap (λ (ns : List Bytes). name_at ns h.relation) (sym same);
      }
  placed old new at was (inr p) =
      let names = relations_named some in
      let mapped = mapped_position before is_its h.relation names (tells names some_found) in
      let nowhere : position is_its (map before names) ≡ None =
      ap (λ (gs : List Group). position is_its gs) (sym was) ∙ p.0 in
      let none : is_named h.relation names ≡ false = false_from_ne_true (is_named h.relation names) (λ yes.
      position_none is_its (map before names) nowhere
      (omega (arith, within_named names h.relation yes, mapped, length-map names before))) in
      let same : named ≡ names ++ h.relation ∷ [] = named_step some h
      ∙ ap (λ (b : Bool). cond b names (names ++ h.relation ∷ [])) none in
      record {
        groups_are = p.2 ∙ ap₂ (λ (gs : List Group) (g : Group). gs ++ g ∷ []) was (bare_before none)
            ∙ sym (map-append before names (h.relation ∷ [])) ∙ ap (λ (ns : List Bytes). map before ns) (sym same);
        place_is = p.1 ∙ ap (λ (gs : List Group). length gs) was ∙ length-map names before
            ∙ sym (unnamed_at names h.relation none) ∙ ap (λ (ns : List Bytes). name_at ns h.relation) (sym same);
      }

  -- ---- the line's row joins

  other_group : (name : Bytes) → bytes_eq name h.relation ≡ false → before name ≡ after name
  other_group name e =
      let all = cells_in_relation texts some name in
      ap (λ (us : List (List ℕ)). let g : Group = record {
        relation = record { at = relation_place relations name };
        rows = us;
      } in g)
      (sym (more_cells texts some h name
      ∙ ap (λ (b : Bool). all ++ cond b (cells_of texts h.row ∷ []) []) no
      ∙ append-nil all))
    where
      no : bytes_eq h.relation name ≡ false
      no = false_from_ne_true (bytes_eq h.relation name) (λ k.
          let yes : bytes_eq name h.relation ≡ true =
          (bytes_eq-decides name h.relation).1 (sym ((bytes_eq-decides h.relation name).0 k)) in
          cc (yes, e))

  its_group : (at : ℕ) (mid : List Group) (g : Group) → HasItsGroup at mid → g ≡ slice_index_or mid at g
      → g ≡ before h.relation
  its_group at mid g has e =
      let less : at < length mid = omega (
        arith,
        has.place_is,
        within,
        ap (λ (gs : List Group). length gs) has.groups_are,
        length-map named before,
      ) in
      let there : Some g ≡ Some (before h.relation) =
      sym (slice_get_read mid (length mid) at g refl less e)
      ∙ ap₂ (λ (gs : List Group) (i : ℕ). slice_get gs i) has.groups_are has.place_is
      ∙ get_named before named h.relation within in
      cc there

  its_rows : cells_in_relation texts some h.relation ++ cells ∷ [] ≡ cells_in_relation texts (some ++ h ∷ []) h.relation
  its_rows =
      let all = cells_in_relation texts some h.relation in
      ap (λ (u : List ℕ). all ++ u ∷ []) entry.cells_are
      ∙ sym (more_cells texts some h h.relation
      ∙ ap (λ (b : Bool). all ++ cond b (cells_of texts h.row ∷ []) []) ((bytes_eq-decides h.relation h.relation).1 refl))

  pub joined : (at : ℕ) (mid : List Group) (g : Group) (rows : List (List ℕ)) → HasItsGroup at mid
      → g ≡ slice_index_or mid at g → rows ≡ g.rows ++ cells ∷ []
      → slice_set mid at (record { relation = g.relation; rows = rows }) ≡ grouped_rows relations texts (some ++ h ∷ [])
  joined at mid g rows has e more =
      let with_these : List (List ℕ) → Group = (λ (us : List (List ℕ)). record {
        relation = record { at = relation_place relations h.relation };
        rows = us;
      }) in
      let new : Group = record { relation = g.relation; rows = rows } in
      let is : new ≡ after h.relation =
      ap (λ (us : List (List ℕ)). let k : Group = record { relation = g.relation; rows = us } in k) more
      ∙ ap (λ (k : Group). let j : Group = record { relation = k.relation; rows = k.rows ++ cells ∷ [] } in j)
      (its_group at mid g has e)
      ∙ ap with_these its_rows in
      ap₂ (λ (gs : List Group) (i : ℕ). slice_set gs i new) has.groups_are has.place_is
      ∙ ap (λ (k : Group). slice_set (map before named) (name_at named h.relation) k) is
      ∙ set_named before after named h.relation once other_group within
