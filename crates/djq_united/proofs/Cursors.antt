-- Reads of a union's cursor, and unions as the queries in their places change.
use Rattle.std.proofs.Common.{◌≡◌, ℕ, Bool, true, false, ◌⊎◌, List, [], ◌∷◌, ◌++◌, length, ◌≤◌, map, inl, inr, refl, ap}
use Rattle.std.proofs.Common.{ap₂, sym, subst, ◌∙◌, arith}
use Rattle.std.specs.Prelude.{◌↔◌, Contains, not, Option, Some, IsSomeAnd, Result, Ok, Err, IfOk, OnErr, slice_get}
use Rattle.std.specs.Prelude.{slice_set, ◌||◌, None, IfSome}
use Rattle.std.specs.Bool.{OnTrue}
use Rattle.std.proofs.lemmas.Bool.{false≢true, or_cases, or_left, or_right}
use Rattle.std.proofs.lemmas.List.{map-append}
use Rattle.std.proofs.lemmas.List.Elements.{All-contains, Contains-push, Contains-append_left}
use Rattle.std.specs.List.{AllZip}
use Rattle.djq_model.specs.declared.memory.NoMem.{NoMem}
use Rattle.djq_model.specs.declared.query.Query.{Query}
use Rattle.djq_model.specs.Data.{Bytes, Tuple}
use Rattle.djq_model.specs.Listed.{a_union}
use Rattle.djq_cursors.specs.declared.progress.Progress.TheVariants.{Open, Stale}
use Rattle.djq_cursors.proofs.Slots.{put_each, put_same, open_each, stale_each}
use Rattle.djq_union.specs.Answers.{AreSomeCells, AreAllCells}
use Rattle.djq_union.specs.Union.{some_has, given_at, AreInStep}
use Rattle.djq_union.specs.Order.{merged}
use Rattle.djq_union.proofs.Merges.{once_of, once_left, none_contained, at_head, in_tail, head_or_tail}
use Rattle.djq_union.proofs.UnionMembers.{union_some}
use Rattle.djq_reduct.specs.Reducts.{Reducts}
use Rattle.djq_database.specs.Catalog.{Catalog}
use Rattle.djq_enumeration.specs.declared.cursor.Cursor.{Cursor}
use Rattle.djq_enumeration.specs.Given.{Fits}
use Rattle.djq_query.specs.Numbered.{Numbered}
use Rattle.djq_store_spec.specs.Store.{Position, open_at}
use Rattle.djq_live_query.specs.declared.listing.Next.{Next}
use Rattle.djq_live_query.specs.declared.listing.Next.TheVariants.{Given, End, Stale as IsStale}
use Rattle.djq_live_query.specs.Live.{Live, IsKeptSomewhere, values_of}
use Rattle.djq_live_query.specs.Member.{has_cells, cells_given, all_answers, in_head, in_tree, queries_at, FitsKept}
use Rattle.djq_live_query.specs.Member.{query_at, head_types, AreAlike}
use Rattle.djq_live_query.specs.Staying.{HasSameTables, HasSameShape}
use Rattle.djq_live_query.proofs.Catalogs.{as_many}
use Rattle.djq_live_query.proofs.ShownAnswers.{stays_showable}
use Rattle.djq_united.specs.Slots.{UnionProgress, slot_at, OpensSlot, outdated_slots}
use Rattle.djq_united.specs.United.{United, members_in, FitsMembers, CursorFitsMembers, AreMembers, IsUnited, AreKept}
use Rattle.djq_united.specs.United.{shown_cells, given_by_union, union_position, CursorsFit}
use Rattle.djq_united.specs.Advancing.{union_cells, UnionReads, UnionLooks}
use Rattle.djq_united.specs.Reading.{UnionOpensIn, UnionCursorMoves, UnionNextGives, UnionNextGivesAt, UnionMoreGives}
use Rattle.djq_united.specs.Reading.{UnionMoreGivesAt}
use Rattle.djq_united.specs.Staying.{KeepMembers, MembersStay, UnionsStay, StaleStand}
use Rattle.djq_united.proofs.Members.{IsMissing, missing, same_images, member_kept, members_zip, still_have, AreOver}
use Rattle.djq_united.proofs.Members.{IsHad, left_shown, all_shown, first_shows, at_first, first_showable}

-- ---- Reads of a union's cursor, from cells to values.

-- ---- what was given

-- what a cursor that fits has given are different cells of answers
pub given_some : (ls : List Live) (cursor : List (Option Cursor)) → FitsMembers ls cursor
    → AreSomeCells (some_has has_cells ls) (union_cells ls cursor)
given_some ls cursor fit = union_some has_cells cells_given FitsKept ls cursor fit

pub given_had : (ls : List Live) (ts : List (List ℕ)) → AreSomeCells (some_has has_cells ls) ts
    → (t : List ℕ) → Contains ts t → IsHad ls t
given_had ls ts some t there =
    All-contains (λ (u : List ℕ). some_has has_cells ls u ≡ true) ts t some.answers there

-- what comes behind different answers is left, and is one
record ComesBehind (ls : List Live) (ts : List (List ℕ)) (t : List ℕ) : Type 0 where
  pub each : (u : List ℕ) → Contains ts u → IsHad ls u
  pub had : IsHad ls t
  pub fresh : Contains ts t → ⊥

behind : (ls : List Live) (ts : List (List ℕ)) (t : List ℕ)
    → AreSomeCells (some_has has_cells ls) (ts ++ t ∷ []) → ComesBehind ls ts t
behind ls ts t some = record {
  each = λ u there. given_had ls (ts ++ t ∷ []) some u (Contains-append_left ts (t ∷ []) u there);
  had = given_had ls (ts ++ t ∷ []) some t (Contains-push ts t);
  fresh = once_left ts t (once_of (ts ++ t ∷ []) some.different);
}

-- ---- one that wasn't given

one_missing : (ls : List Live) (us : List (List ℕ))
    → AreAllCells (some_has has_cells ls) us ⊎ IsMissing (some_has has_cells ls) us
one_missing [] us = inl (λ t h. absurd (false≢true h))
one_missing (l ∷ ls) us = elim (missing us (map (in_head l) (all_answers l.reducts))) [
  | inl mine ↦ elim (one_missing ls us) [
    | inl later ↦ inl (λ t h. elim (or_cases (has_cells l t) (some_has has_cells ls t) h) [
      | inl is ↦ mine t is
      | inr is ↦ later t is
    ])
    | inr m ↦ inr (record {
      cells = m.cells;
      is = or_right (has_cells l m.cells) (some_has has_cells ls m.cells) m.is;
      fresh = m.fresh;
    })
  ]
  | inr m ↦ inr (record {
    cells = m.cells;
    is = or_left (has_cells l m.cells) (some_has has_cells ls m.cells) m.is;
    fresh = m.fresh;
  })
]

is_missing : (ls : List Live) (us : List (List ℕ))
    → (AreAllCells (some_has has_cells ls) us → ⊥) → IsMissing (some_has has_cells ls) us
is_missing ls us h = elim (one_missing ls us) [ inl all ↦ absurd (h all) | inr m ↦ m ]

-- ---- the union

pub over_places : (c : Catalog) (qs : List (Option Live)) (ks : List ℕ) → AreKept c qs
    → AreMembers qs ks → AreOver c (queries_at qs ks)
over_places c qs ks kept members = record {
  kept = λ l there. member_kept c qs ks l kept there;
  alike = members.alike;
}

over_members : (c : Catalog) (qs : List (Option Live)) (u : United) → AreKept c qs
    → IsUnited qs u → AreOver c (members_in qs u)
over_members c qs u kept united = over_places c qs u.members kept united.members

moves : (c : Catalog) (qs : List (Option Live)) (u : United) (k : ℕ) (p : UnionProgress)
    (position : Position) → IsUnited qs u → CursorFitsMembers (members_in qs u) p
    → union_position c.texts (members_in qs u) p ≡ position
    → UnionCursorMoves c qs u k position (record u { cursors = slice_set u.cursors k (Some p) })
moves c qs u k p position united fit stands = record {
  progress = p;
  moved = refl;
  stands = stands;
  united = record {
    members = united.members;
    fits = put_each (CursorFitsMembers (members_in qs u)) u.cursors k p united.fits fit;
  };
}

-- a cursor in a slot fits, where the union is seen from outside
pub fits_seen : (qs : List (Option Live)) (u v : United) (ks : List ℕ) (k : ℕ) (p : UnionProgress)
    → u ≡ v → ks ≡ u.members → IsUnited qs v → slot_at u.cursors k ≡ Some p
    → CursorFitsMembers (queries_at qs ks) p
fits_seen qs u v ks k p e at united there =
    subst (λ (js : List ℕ). CursorFitsMembers (queries_at qs js) p) (sym at)
    ((subst (IsUnited qs) (sym e) united).fits.each k p there)

-- ---- a read

given_more : (texts : List Bytes) (ls : List Live) (old new : List (Option Cursor)) (t : List ℕ)
    → union_cells ls new ≡ union_cells ls old ++ t ∷ []
    → given_by_union texts ls new ≡ given_by_union texts ls old ++ shown_cells texts ls t ∷ []
given_more texts ls old new t e =
    ap (map (shown_cells texts ls)) e
    ∙ map-append (shown_cells texts ls) (union_cells ls old) (t ∷ [])

gives_at : (c : Catalog) (qs : List (Option Live)) (u : United) (k : ℕ) (p q : UnionProgress)
    (result : Next) (answer : List ℕ) → AreKept c qs → IsUnited qs u
    → slot_at u.cursors k ≡ Some p → UnionReads (members_in qs u) p result answer q
    → UnionNextGivesAt c qs u k (union_position c.texts (members_in qs u) p) result answer
    (record u { cursors = slice_set u.cursors k (Some q) })
gives_at c qs u k (Open old ended) (Open new e) Given answer kept united there h =
    let ls = members_in qs u in
    let over = over_members c qs u kept united in
    let t = h.0.cells in
    let some = subst (AreSomeCells (some_has has_cells ls)) h.0.gives h.0.some in
    let b = behind ls (union_cells ls old) t some in (
      shown_cells c.texts ls t,
      left_shown c ls (union_cells ls old) t over b.each b.had b.fresh,
      first_shows c ls t answer over b.had h.0.turned,
      moves c qs u k (Open new e) _ united h.0.fits
          (ap₂ open_at (given_more c.texts ls old new t h.0.gives) h.1),
    )
gives_at c qs u k (Open old ended) (Open new e) End answer kept united there h =
    let ls = members_in qs u in (
      all_shown c ls (union_cells ls old) (over_members c qs u kept united) h.0.all.all,
      moves c qs u k (Open new e) _ united h.0.fits
          (ap₂ open_at (ap (map (shown_cells c.texts ls)) h.0.gives) h.1),
    )
gives_at c qs u k (Open old ended) (Open new e) (IsStale r n) answer kept united there h = absurd h
gives_at c qs u k (Open old ended) (Stale q m) Given answer kept united there h = absurd h
gives_at c qs u k (Open old ended) (Stale q m) End answer kept united there h = absurd h
gives_at c qs u k (Open old ended) (Stale q m) (IsStale r n) answer kept united there h = absurd h
gives_at c qs u k (Stale q m) new Given answer kept united there h = absurd h
gives_at c qs u k (Stale q m) new End answer kept united there h = absurd h
gives_at c qs u k (Stale q m) new (IsStale r n) answer kept united there h = (
  h.0,
  h.1,
  ap (λ (slots : List (Option UnionProgress)). record u { cursors = slots })
      (put_same u.cursors k (Stale q m) new there h.2),
)

next_gives : (c : Catalog) (qs : List (Option Live)) (u : United) (k : ℕ) (p q : UnionProgress)
    (result : Next) (answer : List ℕ) → AreKept c qs → IsUnited qs u → slot_at u.cursors k ≡ Some p
    → UnionReads (members_in qs u) p result answer q
    → UnionNextGives c qs u k result answer (record u { cursors = slice_set u.cursors k (Some q) })
next_gives c qs u k p q result answer kept united there h =
    subst (λ (o : Option UnionProgress). IsSomeAnd o (λ p. UnionNextGivesAt c qs u k
    (union_position c.texts (members_in qs u) p) result answer
    (record u { cursors = slice_set u.cursors k (Some q) }))) (sym there)
    (gives_at c qs u k p q result answer kept united there h)

-- the same where the union is seen from outside
pub next_seen : (c : Catalog) (qs : List (Option Live)) (u v : United) (ks : List ℕ) (k : ℕ)
    (p q : UnionProgress) (result : Next) (answer : List ℕ) → u ≡ v → ks ≡ u.members → AreKept c qs
    → IsUnited qs v → slot_at u.cursors k ≡ Some p → UnionReads (queries_at qs ks) p result answer q
    → UnionNextGives c qs v k result answer (record u { cursors = slice_set u.cursors k (Some q) })
next_seen c qs u v ks k p q result answer e at kept united there h =
    subst (λ (w : United). UnionNextGives c qs w k result answer
    (record u { cursors = slice_set u.cursors k (Some q) })) e
    (next_gives c qs u k p q result answer kept (subst (IsUnited qs) (sym e) united) there
    (subst (λ (js : List ℕ). UnionReads (queries_at qs js) p result answer q) at h))

-- ---- a look

looks_at : (c : Catalog) (qs : List (Option Live)) (u : United) (k : ℕ) (p q : UnionProgress)
    (left : Bool) → AreKept c qs → IsUnited qs u → slot_at u.cursors k ≡ Some p
    → UnionLooks (members_in qs u) p left q
    → UnionMoreGivesAt c qs u k (union_position c.texts (members_in qs u) p) left
    (record u { cursors = slice_set u.cursors k (Some q) })
looks_at c qs u k (Open old ended) q true kept united there h =
    let ls = members_in qs u in
    let fit : FitsMembers ls old = united.fits.each k (Open old ended) there in
    let m = is_missing ls (union_cells ls old) h.1 in (
      (
        shown_cells c.texts ls m.cells,
        left_shown c ls (union_cells ls old) m.cells (over_members c qs u kept united)
            (given_had ls (union_cells ls old) (given_some ls old fit)) m.is m.fresh,
      ),
      moves c qs u k q _ united (subst (CursorFitsMembers ls) (sym h.0) fit)
          (ap (union_position c.texts ls) h.0),
    )
looks_at c qs u k (Open old ended) q false kept united there h =
    let ls = members_in qs u in
    let fit : FitsMembers ls old = united.fits.each k (Open old ended) there in (
      all_shown c ls (union_cells ls old) (over_members c qs u kept united) h.1,
      moves c qs u k q _ united (subst (CursorFitsMembers ls) (sym h.0) fit)
          (ap (union_position c.texts ls) h.0),
    )
looks_at c qs u k (Stale r m) q true kept united there h = absurd h
looks_at c qs u k (Stale r m) q false kept united there h = absurd h

more_gives : (c : Catalog) (qs : List (Option Live)) (u : United) (k : ℕ) (p q : UnionProgress)
    (left : Bool) → AreKept c qs → IsUnited qs u → slot_at u.cursors k ≡ Some p
    → UnionLooks (members_in qs u) p left q
    → UnionMoreGives c qs u k left (record u { cursors = slice_set u.cursors k (Some q) })
more_gives c qs u k p q left kept united there h =
    subst (λ (o : Option UnionProgress). IsSomeAnd o (λ p. UnionMoreGivesAt c qs u k
    (union_position c.texts (members_in qs u) p) left
    (record u { cursors = slice_set u.cursors k (Some q) }))) (sym there)
    (looks_at c qs u k p q left kept united there h)

pub more_seen : (c : Catalog) (qs : List (Option Live)) (u v : United) (ks : List ℕ) (k : ℕ)
    (p q : UnionProgress) (left : Bool) → u ≡ v → ks ≡ u.members → AreKept c qs → IsUnited qs v
    → slot_at u.cursors k ≡ Some p → UnionLooks (queries_at qs ks) p left q
    → UnionMoreGives c qs v k left (record u { cursors = slice_set u.cursors k (Some q) })
more_seen c qs u v ks k p q left e at kept united there h =
    subst (λ (w : United). UnionMoreGives c qs w k left
    (record u { cursors = slice_set u.cursors k (Some q) })) e
    (more_gives c qs u k p q left kept (subst (IsUnited qs) (sym e) united) there
    (subst (λ (js : List ℕ). UnionLooks (queries_at qs js) p left q) at h))

-- ---- one read of an open cursor

came_one : (ls : List Live) (old new : List (Option Cursor)) (t : List ℕ) (more : Bool)
    → not more ≡ false → OnTrue more (union_cells ls new ≡ union_cells ls old ++ t ∷ [])
    → union_cells ls new ≡ union_cells ls old ++ t ∷ []
came_one ls old new t true e one = one
came_one ls old new t false e one = absurd cc

pub came_had : (ls : List Live) (old new : List (Option Cursor)) (t : List ℕ) (more : Bool)
    → not more ≡ false → OnTrue more (union_cells ls new ≡ union_cells ls old ++ t ∷ [])
    → AreSomeCells (some_has has_cells ls) (union_cells ls new) → IsHad ls t
came_had ls old new t more e one some =
    given_had ls (union_cells ls new) some t
    (subst (λ (ts : List (List ℕ)). Contains ts t) (sym (came_one ls old new t more e one))
    (Contains-push (union_cells ls old) t))

pub reads_given : (ls : List Live) (l : Live) (p : UnionProgress) (old new : List (Option Cursor))
    (ended more : Bool) (t answer : List ℕ) → p ≡ Open old ended → slice_get ls 0 ≡ Some l
    → not more ≡ false → FitsMembers ls new
    → OnTrue more (union_cells ls new ≡ union_cells ls old ++ t ∷ [])
    → AreSomeCells (some_has has_cells ls) (union_cells ls new) → answer ≡ in_tree l t
    → UnionReads ls p Given answer (Open new (not more))
reads_given ls l p old new ended more t answer is first e fit one some turned =
    subst (λ (q : UnionProgress). UnionReads ls q Given answer (Open new (not more))) (sym is) (
      record {
        fits = fit;
        cells = t;
        gives = came_one ls old new t more e one;
        some = some;
        turned = at_first (λ m. answer ≡ in_tree m t) l ls first turned;
      },
      e,
    )

pub looks_open : (ls : List Live) (p : UnionProgress) (old : List (Option Cursor)) (ended left : Bool)
    → p ≡ Open old ended → (left ≡ false) ↔ AreAllCells (some_has has_cells ls) (union_cells ls old)
    → UnionLooks ls p left (Open old (not left))
looks_open ls p old ended left is h =
    subst (λ (q : UnionProgress). UnionLooks ls q left (Open old (not left))) (sym is) (by left h)
  where
    by : (b : Bool)
        → (b ≡ false) ↔ AreAllCells (some_has has_cells ls) (union_cells ls old)
        → UnionLooks ls (Open old ended) b (Open old (not b))
    by true k = (refl, λ all. false≢true (sym (k.1 all)))
    by false k = (refl, k.0 refl)

-- ---- a cursor is opened

pub open_united : (qs : List (Option Live)) (u v : United) (cursor : List (Option Cursor))
    (slots : List (Option UnionProgress)) (result : Result ℕ NoMem) → u ≡ v → IsUnited qs v
    → ((ls : List Live) → length ls ≤ 8 → FitsMembers ls cursor)
    → IfOk result (λ k. OpensSlot u.cursors k cursor slots) → OnErr result (slots ≡ u.cursors)
    → IsUnited qs (record u { cursors = slots })
open_united qs u v cursor slots (Ok k) e united fits opens same =
    let mine = subst (IsUnited qs) (sym e) united in
    let many = as_many qs u.members mine.members.have.each in
    let few = mine.members.have.few in
    record {
      members = mine.members;
      fits = open_each (CursorFitsMembers (members_in qs u)) u.cursors k cursor slots mine.fits opens
          (fits (members_in qs u) (omega arith));
    }
open_united qs u v cursor slots (Err none) e united fits opens same =
    subst (λ (new : List (Option UnionProgress)). IsUnited qs (record u { cursors = new })) (sym same)
    (subst (IsUnited qs) (sym e) united)

pub opens : (u v : United) (cursor : List (Option Cursor)) (slots : List (Option UnionProgress))
    (result : Result ℕ NoMem) → u ≡ v → ((ls : List Live) → union_cells ls cursor ≡ [])
    → IfOk result (λ k. OpensSlot u.cursors k cursor slots)
    → IfOk result (λ k. UnionOpensIn v k (record u { cursors = slots }))
opens u v cursor slots (Ok k) e none opened =
    subst (λ (w : United). UnionOpensIn w k (record u { cursors = slots })) e (record {
      free = opened.free;
      progress = Open cursor false;
      stands = λ texts ls. ap
          (λ (ts : List (List ℕ)). open_at (map (shown_cells texts ls) ts) false) (none ls);
      sets = opened.sets;
      others = refl;
    })
opens u v cursor slots (Err none) e given opened = tt

-- ---- Unions as the queries in their places change.

-- ---- members one by one, before and later

-- the one before
record IsFrom (Same : Live → Live → Type 0) (ls : List Live) (m : Live) : Type 0 where
  pub from : Live
  pub there : Contains ls from
  pub same : Same from m

from_zip : (Same : Live → Live → Type 0) (ls ms : List Live) (m : Live) → AllZip Same ls ms
    → Contains ms m → IsFrom Same ls m
from_zip Same [] [] m zip there = absurd (none_contained m there)
from_zip Same [] (n ∷ ms) m zip there = absurd zip
from_zip Same (l ∷ ls) [] m zip there = absurd zip
from_zip Same (l ∷ ls) (n ∷ ms) m zip there = elim (head_or_tail n ms m there) [
  | inl here ↦ record {
    from = l;
    there = at_head l ls;
    same = subst (Same l) here zip.0;
  }
  | inr later ↦
      let r = from_zip Same ls ms m zip.1 later in
      record { from = r.from; there = in_tail l ls r.from r.there; same = r.same }
]

same_types : (l m : Live) → HasSameShape l m → head_types m ≡ head_types l
same_types l m s = ap (λ (n : Numbered). head_types (record l { numbered = n })) s.numbered

alike_later : (ls ms : List Live) → AllZip HasSameShape ls ms → AreAlike ls → AreAlike ms
alike_later ls ms zip alike = record {
  each = λ m n one other.
      let a = from_zip HasSameShape ls ms m zip one in
      let b = from_zip HasSameShape ls ms n zip other in
      same_types a.from m a.same ∙ alike.each a.from b.from a.there b.there
      ∙ sym (same_types b.from n b.same);
}

same_queries : (ls ms : List Live) → AllZip HasSameShape ls ms
    → map (λ l. l.query) ms ≡ map (λ l. l.query) ls
same_queries [] [] zip = refl
same_queries [] (m ∷ ms) zip = absurd zip
same_queries (l ∷ ls) [] zip = absurd zip
same_queries (l ∷ ls) (m ∷ ms) zip =
    ap₂ (λ (q : Query) (qs : List Query). q ∷ qs) (zip.0).query (same_queries ls ms zip.1)

pub members_stayed : MembersStay
members_stayed old new u keep members =
    let ls = members_in old u in
    let ms = members_in new u in
    let zip = members_zip HasSameShape old new u.members keep members.have.each in (
      record {
        have = record {
          few = members.have.few;
          each = still_have HasSameShape old new u.members keep members.have.each;
        };
        several = members.several;
        differ = members.differ;
        alike = alike_later ls ms zip members.alike;
      },
      ap (λ (qs : List Query). a_union u.name qs) (same_queries ls ms zip),
    )

-- ---- with the same tables

same_shape : (l m : Live) → HasSameTables l m → HasSameShape l m
same_shape l m s = record {
  query = s.query;
  numbered = s.numbered;
  tree = ap (λ (r : Reducts). r.tree) s.reducts;
}

-- the tests of a member, and of some
abbrev has_of : Live → List ℕ → Bool
has_of l t = has_cells l t

abbrev some_of : List Live → List ℕ → Bool
some_of ls t = some_has has_cells ls t

same_has : (l m : Live) → HasSameTables l m
    → ◌≡◌ {A = List ℕ → Bool} (has_of m) (has_of l)
same_has l m s =
    ap₂ {C = List ℕ → Bool} (λ (n : Numbered) (r : Reducts) (t : List ℕ).
    has_cells (record l { numbered = n; reducts = r }) t) s.numbered s.reducts

same_given : (l m : Live) (s : Option Cursor) → HasSameTables l m
    → given_at cells_given m s ≡ given_at cells_given l s
same_given l m None same = refl
same_given l m (Some cursor) same =
    ap₂ (λ (n : Numbered) (r : Reducts). cells_given (record l { numbered = n; reducts = r }) cursor)
    same.numbered same.reducts

same_some : (ls ms : List Live) → AllZip HasSameTables ls ms
    → ◌≡◌ {A = List ℕ → Bool} (some_of ms) (some_of ls)
same_some [] [] zip = refl
same_some [] (m ∷ ms) zip = absurd zip
same_some (l ∷ ls) [] zip = absurd zip
same_some (l ∷ ls) (m ∷ ms) zip =
    ap₂ {C = List ℕ → Bool} (λ (f g : List ℕ → Bool) (t : List ℕ). f t || g t) (same_has l m zip.0)
    (same_some ls ms zip.1)

-- the same states have given the same
same_cells : (ls ms : List Live) (ss : List (Option Cursor)) → AllZip HasSameTables ls ms
    → union_cells ms ss ≡ union_cells ls ss
same_cells [] [] ss zip = refl
same_cells [] (m ∷ ms) ss zip = absurd zip
same_cells (l ∷ ls) [] ss zip = absurd zip
same_cells (l ∷ ls) (m ∷ ms) [] zip = refl
same_cells (l ∷ ls) (m ∷ ms) (s ∷ ss) zip =
    ap (λ (f : List ℕ → Bool). merged f (given_at cells_given m s) (union_cells ms ss))
    (same_some ls ms zip.1)
    ∙ ap₂ (λ (g rest : List (List ℕ)). merged (some_of ls) g rest)
    (same_given l m s zip.0) (same_cells ls ms ss zip.1)

-- a member's listing goes on
fit_later : (l m : Live) (s : Option Cursor) → HasSameTables l m → IsKeptSomewhere m
    → IfSome s (λ begun. FitsKept l begun) → IfSome s (λ begun. FitsKept m begun)
fit_later l m None same kept fit = tt
fit_later l m (Some cursor) same kept fit = (
  kept,
  subst (λ (r : Reducts). Fits r cursor) (sym same.reducts) fit.1,
)

-- what holds of a member's test, of what it has given, of the later members' test and of what they
-- have given
step_later : (has now later then : List ℕ → Bool) (given gave rest others : List (List ℕ))
    → ◌≡◌ {A = List ℕ → Bool} now has → ◌≡◌ {A = List ℕ → Bool} then later → gave ≡ given
    → others ≡ rest → AreInStep has later given rest → AreInStep now then gave others
step_later has now later then given gave rest others h k g r step =
    subst (λ (f : List ℕ → Bool). AreInStep f then gave others) (sym h)
    (subst (λ (f : List ℕ → Bool). AreInStep has f gave others) (sym k)
    (subst (λ (ts : List (List ℕ)). AreInStep has later ts others) (sym g)
    (subst (λ (ts : List (List ℕ)). AreInStep has later given ts) (sym r) step)))

some_later : (has now : List ℕ → Bool) (given gave : List (List ℕ))
    → ◌≡◌ {A = List ℕ → Bool} now has → gave ≡ given → AreSomeCells has given → AreSomeCells now gave
some_later has now given gave h g some =
    subst (λ (f : List ℕ → Bool). AreSomeCells f gave) (sym h)
    (subst (λ (ts : List (List ℕ)). AreSomeCells has ts) (sym g) some)

union_fits : (ls ms : List Live) (ss : List (Option Cursor)) → AllZip HasSameTables ls ms
    → ((m : Live) → Contains ms m → IsKeptSomewhere m) → FitsMembers ls ss → FitsMembers ms ss
union_fits [] [] ss zip kept fit = tt
union_fits [] (m ∷ ms) ss zip kept fit = absurd zip
union_fits (l ∷ ls) [] ss zip kept fit = absurd zip
union_fits (l ∷ ls) (m ∷ ms) [] zip kept fit = absurd fit
union_fits (l ∷ ls) (m ∷ ms) (s ∷ ss) zip kept fit =
    let h = same_has l m zip.0 in
    let k = same_some ls ms zip.1 in
    let g = same_given l m s zip.0 in
    let r = same_cells ls ms ss zip.1 in (
      record {
        fit = fit_later l m s zip.0 (kept m (at_head m ms)) fit.0.fit;
        some = some_later (has_of l) (has_of m) (given_at cells_given l s)
            (given_at cells_given m s) h g fit.0.some;
        step = step_later (has_of l) (has_of m) (some_of ls) (some_of ms)
            (given_at cells_given l s) (given_at cells_given m s) (union_cells ls ss)
            (union_cells ms ss) h k g r fit.0.step;
      },
      union_fits ls ms ss zip.1 (λ n there. kept n (in_tail m ms n there)) fit.1,
    )

over_later : (ls ms : List Live) (p : UnionProgress) → AllZip HasSameTables ls ms
    → ((m : Live) → Contains ms m → IsKeptSomewhere m) → CursorFitsMembers ls p → CursorFitsMembers ms p
over_later ls ms (Open cursor ended) zip kept fit = union_fits ls ms cursor zip kept fit
over_later ls ms (Stale r n) zip kept fit = tt

-- ---- where they stand

same_tree : (l m : Live) (t : List ℕ) → HasSameTables l m → in_tree m t ≡ in_tree l t
same_tree l m t s =
    ap₂ (λ (n : Numbered) (r : Reducts). in_tree (record l { numbered = n; reducts = r }) t)
    s.numbered s.reducts

shown_later : (c : Catalog) (more : List Bytes) (ls ms : List Live) (t : List ℕ)
    → AllZip HasSameTables ls ms → AreOver c ls → some_has has_cells ls t ≡ true
    → shown_cells (c.texts ++ more) ms t ≡ shown_cells c.texts ls t
shown_later c more [] [] t zip over had = refl
shown_later c more [] (m ∷ ms) t zip over had = absurd zip
shown_later c more (l ∷ ls) [] t zip over had = absurd zip
shown_later c more (l ∷ ls) (m ∷ ms) t zip over had =
    ap (values_of (c.texts ++ more) m) (same_tree l m t zip.0)
    ∙ (stays_showable c.texts more l m (in_tree l t) (zip.0).numbered
    (same_shape l m zip.0).tree (first_showable c l ls t over had)).1

given_later : (c : Catalog) (more : List Bytes) (ls ms : List Live) (cursor : List (Option Cursor))
    → AllZip HasSameTables ls ms → AreOver c ls → FitsMembers ls cursor
    → given_by_union (c.texts ++ more) ms cursor ≡ given_by_union c.texts ls cursor
given_later c more ls ms cursor zip over fit =
    ap (map (shown_cells (c.texts ++ more) ms)) (same_cells ls ms cursor zip)
    ∙ same_images (shown_cells (c.texts ++ more) ms) (shown_cells c.texts ls) (union_cells ls cursor)
    (λ t there. shown_later c more ls ms t zip over
    (given_had ls (union_cells ls cursor) (given_some ls cursor fit) t there))

stands_later : (c : Catalog) (more : List Bytes) (ls ms : List Live) (p : UnionProgress)
    → AllZip HasSameTables ls ms → AreOver c ls → CursorFitsMembers ls p
    → union_position (c.texts ++ more) ms p ≡ union_position c.texts ls p
stands_later c more ls ms (Open cursor ended) zip over fit =
    ap (λ (given : List Tuple). open_at given ended) (given_later c more ls ms cursor zip over fit)
stands_later c more ls ms (Stale r n) zip over fit = refl

keep_shape : (old new : List (Option Live)) (ks : List ℕ)
    → KeepMembers HasSameTables old new ks → KeepMembers HasSameShape old new ks
keep_shape old new ks keep = record {
  each = λ k l there e. weaker l (query_at new k) (keep.each k l there e);
}
  where
    weaker : (l : Live) (o : Option Live) → IsSomeAnd o (HasSameTables l)
        → IsSomeAnd o (HasSameShape l)
    weaker l None h = absurd h
    weaker l (Some m) h = same_shape l m h

pub unions_stayed : UnionsStay
unions_stayed c d old new u same united =
    let ls = members_in old u in
    let ms = members_in new u in
    let zip = members_zip HasSameTables old new u.members same.keep united.members.have.each in
    let over : AreOver c ls = record {
      kept = λ l there. member_kept c old u.members l same.before there;
      alike = united.members.alike;
    } in (
      record {
        members = (members_stayed old new u (keep_shape old new u.members same.keep)
            united.members).0;
        fits = record {
          each = λ k p e. over_later ls ms p zip
              (λ m there. (d, member_kept d new u.members m same.after there))
              (united.fits.each k p e);
        };
      },
      λ k p e.
          ap (λ (texts : List Bytes). union_position texts ms p) same.texts
          ∙ stands_later c same.more ls ms p zip over (united.fits.each k p e),
    )

-- ---- stale cursors

pub stale_stood : StaleStand
stale_stood texts more ls ms relation n (Open cursor ended) = refl
stale_stood texts more ls ms relation n (Stale r m) = refl

-- Once its cursors are stale, a union goes with the same queries, whatever their tables are.
united_later : (old new : List (Option Live)) (u : United) (relation : Bytes) (n : ℕ)
    (slots : List (Option UnionProgress)) → slots ≡ outdated_slots relation n u.cursors
    → IsUnited old u → KeepMembers HasSameShape old new u.members
    → IsUnited new (record u { cursors = slots })
united_later old new u relation n slots e united keep = record {
  members = (members_stayed old new u keep united.members).0;
  fits = subst (CursorsFit (members_in new u)) (sym e)
      (stale_each (CursorFitsMembers (members_in new u)) (λ r m. tt) relation n u.cursors);
}

-- the same where the union is seen from outside
pub later_seen : (old new : List (Option Live)) (u v : United) (relation : Bytes) (n : ℕ)
    (slots : List (Option UnionProgress)) → u ≡ v → slots ≡ outdated_slots relation n u.cursors
    → IsUnited old v → KeepMembers HasSameShape old new v.members
    → IsUnited new (record u { cursors = slots })
later_seen old new u v relation n slots e is united keep =
    united_later old new u relation n slots is (subst (IsUnited old) (sym e) united)
    (subst (λ (w : United). KeepMembers HasSameShape old new w.members) (sym e) keep)
