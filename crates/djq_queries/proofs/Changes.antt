-- Groups that come, and after them groups that go: the queries in their places.
use Rattle.std.proofs.Common.{ℕ, List, [], ◌∷◌, ◌++◌, ◌≡◌, ◌<◌, Bool, true, false, refl, sym, ap, ◌∙◌, subst, length, arith}
use Rattle.std.specs.Prelude.{◌||◌, Option, None, Some, All}
use Rattle.std.proofs.lemmas.Bool.{or_parts}
use Rattle.std.proofs.lemmas.List.Elements.{All-cons, All-head, All-tail}
use Rattle.djq_model.specs.declared.query.Query.{Query}
use Rattle.djq_model.specs.Data.{Bytes}
use Rattle.djq_model.specs.Answer.{IsAnswer}
use Rattle.djq_store_spec.specs.Stale.{reads}
use Rattle.djq_database.specs.Catalog.{Catalog, relation_at}
use Rattle.djq_query.specs.Numbered.{Numbered}
use Rattle.djq_binder.specs.Asked.{IsAsked}
use Rattle.djq_live_query.specs.Live.{Live, IsKept, SameQuery}
use Rattle.djq_live_query.proofs.Catalogs.{asked_later}
use Rattle.djq_reach.specs.declared.group.Group.{Group}
use Rattle.djq_reach.specs.Places.{place_at, reads_place, is_reader, readers_at}
use Rattle.djq_reach.specs.Reaching.{DoneAt, Reach, AllAt, Renews}
use Rattle.djq_reach.specs.Grouping.{ComesBy, reached}
use Rattle.djq_reach.specs.Growing.{Grows}
use Rattle.djq_reach.proofs.CatalogChains.{ReadsNone, all_on, came_past, renewed, same_all, unread_by}
use Rattle.djq_reach.proofs.PlacedQueries.{or_true, reader_both, same_then}
use Rattle.djq_reach.proofs.RowChanges.{came_stays}
use Rattle.djq_queries.specs.Going.{GoesBy, GroupsGo}
use Rattle.djq_queries.specs.Changing.{GroupsChange, touched}
use Rattle.djq_queries.proofs.Catalogs.{names_same, names_went, went_rests}
use Rattle.djq_queries.proofs.Chains.{next_none, past_gone}

-- ---- a query that reads none of the relations

-- its answers stay where groups go
pub rests_gone : (c d : Catalog) (groups : List Group) (q : Query) → GoesBy c groups d → ReadsNone q c groups
    → Grows (IsAnswer c.relations q) (IsAnswer d.relations q)
rests_gone c d [] q h none = λ t is. subst (λ (x : Catalog). IsAnswer x.relations q t) (sym h) is
rests_gone c d (g ∷ groups) q h none = λ t is.
    let first = none 0 g (omega arith) in
    rests_gone h.0 d groups q h.3
    (next_none q c h.0 g groups (names_went c h.0 g.relation.at g.rows h.1 h.2) none) t
    (went_rests c h.0 g.relation.at g.rows h.1 h.2 q first.1 t is)

-- and none come where groups come
pub rests_came : (c d : Catalog) (groups : List Group) (q : Query) (n : Numbered) → ComesBy c groups d → IsAsked c q n
    → ReadsNone q c groups → Grows (IsAnswer d.relations q) (IsAnswer c.relations q)
rests_came c d [] q n h asked none = λ t is. subst (λ (x : Catalog). IsAnswer x.relations q t) h is
rests_came c d (g ∷ groups) q n h asked none = λ t is.
    let first = none 0 g (omega arith) in
    came_stays c h.0 g.relation.at g.rows h.1 q n asked h.2.came first.1 t
    (rests_came h.0 d groups q n h.3 (asked_later c h.0 q n h.2.came.later asked)
    (next_none q c h.0 g groups (names_same c h.0 h.2.came.later h.2.back) none) t is)

-- it is kept where groups come
pub past_came : (c d : Catalog) (groups : List Group) (l : Live) → ComesBy c groups d → ReadsNone l.query c groups
    → IsKept c l → IsKept d l
past_came c d [] l h none k = subst (λ (x : Catalog). IsKept x l) (sym h) k
past_came c d (g ∷ groups) l h none k =
    let first = none 0 g (omega arith) in
    past_came h.0 d groups l h.3
    (next_none l.query c h.0 g groups (names_same c h.0 h.2.came.later h.2.back) none)
    (came_past c h.0 g.relation.at g.rows h.1 l h.2.came first.0 first.1 k)

-- a query whose place isn't reached reads none of the relations of groups that go
pub unread_going : (readers : List (List ℕ)) (groups : List Group) (gs : List (Option Live)) (c d : Catalog) (i : ℕ)
    (l : Live) → GroupsGo readers groups gs c d → place_at gs i ≡ Some l
    → is_reader (reached readers groups) i ≡ false → ReadsNone l.query c groups
unread_going readers groups gs c d i l h there out = by groups h.within out
  where
    by : (xs : List Group) → All (λ g. g.relation.at < length c.relations) xs → is_reader (reached readers xs) i
        ≡ false → ReadsNone l.query c xs
    by [] within none = λ k x low. absurd (omega (arith, low))
    by (x ∷ xs) within none =
        let both = or_parts (is_reader (readers_at readers x.relation.at) i) (is_reader (reached readers xs) i)
        (sym (reader_both (readers_at readers x.relation.at) (reached readers xs) i) ∙ none) in
        let inside = All-head (λ (g : Group). g.relation.at < length c.relations) x xs within in
        All-cons (λ (g : Group). (g.relation.at < length c.relations)
        × (reads l.query (relation_at c.relations g.relation.at).name ≡ false)) x xs (
          inside,
          sym (ap (reads_place (relation_at c.relations x.relation.at).name) there)
              ∙ sym (h.reading x.relation.at i inside) ∙ both.0,
        )
        (by xs (All-tail (λ (g : Group). g.relation.at < length c.relations) x xs within) both.1)

-- the readers stay those that read, where only tables change
pub goes_same : (readers : List (List ℕ)) (groups : List Group) (gs hs : List (Option Live)) (c d : Catalog)
    (ps : List ℕ) → Reach ps SameQuery gs hs → GroupsGo readers groups gs c d → GroupsGo readers groups hs c d
goes_same readers groups gs hs c d ps r h = record {
  goes = h.goes;
  within = h.within;
  long = h.long;
  reading = λ k i low. h.reading k i low
      ∙ same (relation_at c.relations k).name (is_reader ps i) (place_at gs i) (place_at hs i) (r.each i);
}
  where
    same : (name : Bytes) (b : Bool) (p q : Option Live) → DoneAt SameQuery b p q → reads_place name p
        ≡ reads_place name q
    same name false p q e = ap (reads_place name) (sym e)
    same name true None None t = refl
    same name true None (Some m) t = absurd t
    same name true (Some l) None t = absurd t
    same name true (Some l) (Some m) t = ap (λ (x : Query). reads x name) (sym t.query)

-- ---- places of one list or the other

pub in_front : (xs ys : List ℕ) (i : ℕ) → is_reader xs i ≡ true → is_reader (xs ++ ys) i ≡ true
in_front xs ys i e = reader_both xs ys i ∙ ap (λ (b : Bool). b || is_reader ys i) e

pub in_back : (xs ys : List ℕ) (i : ℕ) → is_reader ys i ≡ true → is_reader (xs ++ ys) i ≡ true
in_back xs ys i e = reader_both xs ys i ∙ ap (λ (b : Bool). is_reader xs i || b) e ∙ or_true (is_reader xs i)

pub renews_same : (ps : List ℕ) (gs hs : List (Option Live)) (d : Catalog) → Reach ps (Renews d) gs hs
    → Reach ps SameQuery gs hs
renews_same ps gs hs d r = record
    { length = r.length; each = λ i. by (is_reader ps i) (place_at gs i) (place_at hs i) (r.each i) }
  where
    by : (b : Bool) (p q : Option Live) → DoneAt (Renews d) b p q → DoneAt SameQuery b p q
    by false p q e = e
    by true None None t = tt
    by true None (Some m) t = absurd t
    by true (Some l) None t = absurd t
    by true (Some l) (Some m) t = t.same

-- what was done to some places, and then to others, was done to all of them
pub same_joined : (xs ys : List ℕ) (gs hs ks : List (Option Live)) → Reach xs SameQuery gs hs
    → Reach ys SameQuery hs ks → Reach (xs ++ ys) SameQuery gs ks
same_joined xs ys gs hs ks a b = record {
  length = b.length ∙ a.length;
  each = λ i. subst (λ (f : Bool). DoneAt SameQuery f (place_at gs i) (place_at ks i)) (sym (reader_both xs ys i))
      (by (is_reader xs i) (is_reader ys i) (place_at gs i) (place_at hs i) (place_at ks i) (a.each i) (b.each i));
}
  where
    by : (f g : Bool) (p q r : Option Live) → DoneAt SameQuery f p q → DoneAt SameQuery g q r
        → DoneAt SameQuery (f || g) p r
    by false false p q r t u = u ∙ t
    by false true p q r t u = subst (λ (o : Option Live). DoneAt SameQuery true o r) t u
    by true false p q r t u = subst (λ (o : Option Live). DoneAt SameQuery true p o) (sym u) t
    by true true None None None t u = tt
    by true true None None (Some n) t u = absurd u
    by true true None (Some m) r t u = absurd t
    by true true (Some l) None r t u = absurd t
    by true true (Some l) (Some m) None t u = absurd u
    by true true (Some l) (Some m) (Some n) t u = same_then l m n t u

-- ---- the two halves

module _ (readers : List (List ℕ)) (come gone : List Group) (gs mid : List (Option Live)) where
  pub came_front : (P : Live → Type 0) → AllAt (touched readers come gone) gs P → AllAt (reached readers come) gs P
  came_front P all i e = all i (in_front (reached readers come) (reached readers gone) i e)

  pub gone_back : (P : Live → Type 0) → AllAt (touched readers come gone) gs P → AllAt (reached readers gone) gs P
  gone_back P all i e = all i (in_back (reached readers come) (reached readers gone) i e)

  module _ (c e d : Catalog) (h : GroupsChange readers come gone gs c e d)
      (kept : AllAt (touched readers come gone) gs (λ l. IsKept c l))
      (r : Reach (reached readers come) (Renews e) gs mid) where
    -- all are kept over the catalog between
    pub mid_kept : AllAt (touched readers come gone) mid (λ l. IsKept e l)
    mid_kept = all_on (touched readers come gone) (reached readers come) (Renews e) (λ l. IsKept c l)
        (λ l. IsKept e l) gs mid r kept
        (λ i m n there f k t. t.kept)
        (λ i m there out k. past_came c e come m h.comes.comes
        (unread_by readers come gs c e i m h.comes there out) k)

    pub mid_goes : GroupsGo readers gone mid e d
    mid_goes = goes_same readers gone gs mid e d (reached readers come)
        (renews_same (reached readers come) gs mid e r) h.goes

    -- and over the last one
    pub all_renewed : (new : List (Option Live)) → Reach (reached readers gone) (Renews d) mid new
        → Reach (touched readers come gone) (Renews d) gs new
    all_renewed new s = renewed (touched readers come gone) gs new d
        (same_joined (reached readers come) (reached readers gone) gs mid new
        (renews_same (reached readers come) gs mid e r) (renews_same (reached readers gone) mid new d s))
        (all_on (touched readers come gone) (reached readers gone) (Renews d) (λ l. IsKept e l) (λ l. IsKept d l)
        mid new s mid_kept
        (λ i m n there f k t. t.kept)
        (λ i m there out k. past_gone e d gone m mid_goes.goes (unread_going readers gone mid e d i m mid_goes there out)
        k))

  -- refused, all are kept over the first one
  pub all_given : (c : Catalog) → AllAt (touched readers come gone) gs (λ l. IsKept c l)
      → Reach (reached readers come) (Renews c) gs mid → Reach (touched readers come gone) (Renews c) gs mid
  all_given c kept r = renewed (touched readers come gone) gs mid c
      (same_joined (reached readers come) (reached readers gone) gs mid mid
      (renews_same (reached readers come) gs mid c r) (same_all (reached readers gone) mid))
      (all_on (touched readers come gone) (reached readers come) (Renews c) (λ l. IsKept c l) (λ l. IsKept c l)
      gs mid r kept (λ i m n there f k t. t.kept) (λ i m there out k. k))
