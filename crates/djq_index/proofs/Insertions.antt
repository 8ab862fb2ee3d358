-- A tuple comes into a table's parts.
use Rattle.std.proofs.Common.{◌≡◌, ℕ, Bool, false, cond, ◌≤◌, ◌<◌, List, [], ◌∷◌, ◌++◌, length, slice_set, Option, Some}
use Rattle.std.proofs.Common.{None, refl, ap, ap₂, subst, sym, ◌∙◌, arith, inl, inr, length-set}
use Rattle.std.proofs.lemmas.List.{append-nil}
use Rattle.djq_arena.specs.declared.chain.Pair.{Pair}
use Rattle.djq_arena.specs.declared.chain.Ends.{Ends}
use Rattle.djq_arena.specs.Rows.{Row, SlotRows, AreRows, IsRow, slots}
use Rattle.djq_arena.specs.Chains.{first_of, AreDistinctSlots, AreBelow, IsOut, IsSlotBelow, pair_at, entered}
use Rattle.djq_arena.specs.Store.{extended, beside}
use Rattle.djq_arena.proofs.Chains.{different_here, different_front, below_here, below_front, last_within, below_more}
use Rattle.djq_arena.proofs.Chains.{length-entered}
use Rattle.djq_index.specs.declared.raw.Note.{Note}
use Rattle.djq_index.specs.declared.raw.Raw.{Raw}
use Rattle.djq_index.specs.Tuple.{pick}
use Rattle.djq_index.specs.Entries.{Entry, count_of, group_size, group_of, marks}
use Rattle.djq_index.specs.Table.{TuplesDiffer, IsAt}
use Rattle.djq_index.specs.Changes.{InsertedAs}
use Rattle.djq_index.specs.Raw.{note_at, entries_in, entries_of, slots_at, ends_at, AreGroups, HoldsTuples, AreHeads}
use Rattle.djq_index.specs.Raw.{IsSeat, IsLaid, IsUnlaid, IsLaidInto, IsNoted, IsLastOfGroup}
use Rattle.djq_index.proofs.Tuples.{apart_in}
use Rattle.djq_index.proofs.Parts.{slots_are, row_at_row, row_below, entries_nil}
use Rattle.djq_index.proofs.GroupChanges.{AreGroupsBut, but, join_groups, founded, group_below}
use Rattle.djq_index.proofs.PartChanges.{groups_like, entries_like, entries_set, slots_row, seated_out, seat_noted}
use Rattle.djq_index.proofs.PartChanges.{trailing_put, mark_put, kind_kept}

slots_none : slots [] ≡ []
unfolding slots
slots_none = refl

many_zero : (key : List ℕ) (w : List ℕ) → group_size key [] w ≡ 0
unfolding group_size
many_zero key w = refl

module _ (a : Raw) (rows : SlotRows) (notes : List Note) (i : ℕ) (u : List ℕ)
    (r : IsLaid a.rows rows a.notes.items notes i u) where
  laid_slots : slots rows.rows ≡ slots_at (entries_of a) ++ i ∷ []
  laid_slots = ap slots r.laid ∙ slots_row a.rows.rows (record { slot = i; cells = u }) []
      ∙ ap₂ (λ (xs ys : List ℕ). xs ++ i ∷ ys) (sym (slots_are a.notes.items a.rows.rows)) slots_none

  laid_different : AreDistinctSlots (slots_at (entries_of a) ++ i ∷ [])
  laid_different = subst AreDistinctSlots laid_slots r.rows_law.different

  laid_out : IsOut i (slots_at (entries_of a))
  laid_out = subst (IsOut i) (append-nil (slots_at (entries_of a)))
      (different_here (slots_at (entries_of a)) i [] laid_different)

  laid_below : AreBelow rows.room (slots_at (entries_of a) ++ i ∷ [])
  laid_below = subst (AreBelow rows.room) laid_slots r.rows_law.below

  laid_room : i < rows.room
  laid_room = below_here rows.room (slots_at (entries_of a)) i [] laid_below

  pub slot_notes : i < length notes
  slot_notes = omega (arith, laid_room, r.room_notes)

  pub slot_number : i < 4294967295
  slot_number = omega (arith, laid_room, r.rows_law.numbers)

-- the tuple is there
module _ (m : Bool) (a b : Raw) (rows : SlotRows) (notes : List Note) (i h : ℕ) (u : List ℕ) (raw : HoldsTuples a)
    (plain : m ≡ false → marks (entries_of a) ≡ []) (absent : count_of (entries_of a) u ≡ 0)
    (r : IsLaid a.rows rows a.notes.items notes i u)
    (f : IsNoted m a b rows notes i h) where
  pub came_entries : entries_of b
      ≡ entries_of a ++ (record { at = record { slot = i }; tuple = u; supports = 1; marked = m }) ∷ []
  came_entries =
      ap₂ (λ (ns : List Note) (rs : SlotRows). entries_in ns rs.rows) f.notes_are f.rows_are
      ∙ ap (λ (rs : List Row). entries_in (slice_set notes i (record { supports = 1; head = h; marked = m })) rs) r.laid
      ∙ entries_set notes i (record { supports = 1; head = h; marked = m }) a.rows.rows (record { slot = i; cells = u })
      [] refl (slot_notes a rows notes i u r) (subst (λ rs. AreDistinctSlots (slots rs)) r.laid r.rows_law.different)
      ∙ ap₂ (λ (xs ys : List Entry). xs ++ record { at = record { slot = i }; tuple = u; supports = 1; marked = m } ∷
      ys) (entries_like a.notes.items notes a.rows.rows r.same_notes) (entries_nil notes)

  pub came_bare : HoldsTuples b
  came_bare = record {
    rows = rw f.rows_are r.rows_law;
    columns = rw (f.rows_are, f.key, r.width) raw.columns;
    kind = kind_kept a.kind b.kind a.rows.width b.rows.width a.key.items b.key.items f.kind
        (ap (λ (rs : SlotRows). rs.width) f.rows_are ∙ r.width) f.key raw.kind;
    notes = rw (f.rows_are, f.notes_are, length-set) r.room_notes;
    apart = rw came_entries
        (apart_in (entries_of a) (record { at = record { slot = i }; tuple = u; supports = 1; marked = m }) []
        (subst TuplesDiffer (sym (append-nil (entries_of a))) raw.apart)
        (subst (λ es. count_of es u ≡ 0) (sym (append-nil (entries_of a))) absent));
    trailing = rw came_entries
        (trailing_put (entries_of a) (record { at = record { slot = i }; tuple = u; supports = 1; marked = m })
        raw.trailing plain);
    marked = f.marked ∙ ap (λ (o : Option ℕ). cond m (beside o (Some i) o) o) raw.marked
        ∙ mark_put (entries_of a) (record { at = record { slot = i }; tuple = u; supports = 1; marked = m }) i plain
        refl ∙ ap (λ (es : List Entry). first_of (slots_at (marks es))) (sym came_entries);
  }

  pub came_inserted : InsertedAs m a.key.items (entries_of a) (entries_of b) u
  came_inserted = record {
    front = entries_of a;
    back = [];
    entry = (record { at = record { slot = i }; tuple = u; supports = 1; marked = m });
    was = sym (append-nil (entries_of a));
    is = came_entries;
    tuple = refl;
    supports = refl;
    marked = refl;
    last = many_zero a.key.items (pick a.key.items u);
  }

  pub came_at : IsAt (entries_of b) (record { slot = i }) u
  came_at = record {
    front = entries_of a;
    back = [];
    entry =
        (record { at = record { slot = i }; tuple = u; supports = 1; marked = m });
    is = came_entries;
    tuple = refl;
    at =
        refl;
  }

-- and its head
module _ (a : Raw) (rows : SlotRows) (notes : List Note) (links : List Pair) (keys : SlotRows) (ends : List Ends)
    (i h : ℕ)
    (u : List ℕ) (hs : AreHeads a) (r : IsLaidInto a rows notes links keys ends i h u) where
  pub slot_links : i < length links
  slot_links = omega (arith, laid_room a rows notes i u r.laid, r.room_links)

  old_below : AreBelow (length links) (slots_at (entries_of a))
  old_below = below_more rows.room (length links) (slots_at (entries_of a)) r.room_links
      (below_front rows.room (slots_at (entries_of a)) (i ∷ []) (laid_below a rows notes i u r.laid))

  pub head_ends : h < length ends
  head_ends = omega (arith, of_seat r.seat, r.room_ends)
    where
      of_seat : IsSeat a.keys.rows keys.rows a.ends.items ends h (pick a.key.items u) → h < keys.room
      of_seat (inl s) = row_below keys.room keys.rows h (pick a.key.items u) r.keys_law.below
          (subst (λ rs. IsRow rs h (pick a.key.items u)) (sym s.1) s.0)
      of_seat (inr s) = row_below keys.room keys.rows h (pick a.key.items u) r.keys_law.below
          (record { front = a.keys.rows; back = []; is = s.1 })

  like : AreGroups a.key.items notes links a.keys.rows a.ends.items (entries_of a)
  like = groups_like a.key.items a.notes.items notes a.links.items links a.keys.rows a.ends.items a.ends.items
      (entries_of a) hs.groups (λ k. ap (λ (n : Note). n.head) (r.laid.same_notes k)) r.same_links (λ k. refl)

  ready_but : AreGroupsBut a.key.items notes links keys.rows ends (entries_of a) (pick a.key.items u) h
  ready_but = of_seat r.seat
    where
      of_seat : IsSeat a.keys.rows keys.rows a.ends.items ends h (pick a.key.items u)
          → AreGroupsBut a.key.items notes links keys.rows ends (entries_of a) (pick a.key.items u) h
      of_seat (inl s) = subst (λ rs. AreGroupsBut a.key.items notes links rs ends (entries_of a) (pick a.key.items u) h)
          (sym s.1)
          (but a.key.items notes links a.keys.rows ends (entries_of a) (pick a.key.items u) h
          (groups_like a.key.items notes notes links links a.keys.rows a.ends.items ends (entries_of a) like (λ k. refl)
          (λ k. refl) s.2)
          (row_at_row a.keys.rows h (pick a.key.items u) hs.keys.different s.0))
      of_seat (inr s) = subst (λ rs. AreGroupsBut a.key.items notes links rs ends (entries_of a) (pick a.key.items u) h)
          (sym s.1)
          (founded a.key.items notes links a.keys.rows h (pick a.key.items u) a.ends.items ends (entries_of a) like s.0
          (subst (λ rs. AreDistinctSlots (slots rs)) s.1 r.keys_law.different) s.2 s.3)

  pub last_links : IsSlotBelow (length links) (ends_at ends h).last
  last_links = subst (IsSlotBelow (length links))
      (sym (ap (λ (v : Ends). v.last) (ready_but.headed h (pick a.key.items u) ready_but.mine)))
      (last_within (length links) None (slots_at (group_of a.key.items (entries_of a) (pick a.key.items u))) tt
      (group_below (length links) a.key.items (entries_of a) (pick a.key.items u) old_below))

module _ (m : Bool) (a b : Raw) (rows : SlotRows) (notes : List Note) (links : List Pair) (keys : SlotRows)
    (ends : List Ends)
    (i h : ℕ) (u : List ℕ)
    (raw : HoldsTuples a) (plain : m ≡ false → marks (entries_of a) ≡ []) (hs : AreHeads a)
    (absent : count_of (entries_of a) u ≡ 0) (r : IsLaidInto a rows notes links keys ends i h u)
    (f : IsLastOfGroup m a b rows notes links keys ends i h) where
  came_groups : AreGroups a.key.items (slice_set notes i (record { supports = 1; head = h; marked = m }))
      (entered (ends_at ends h).last i links) keys.rows (slice_set ends h (extended i (ends_at ends h)))
      (entries_of a ++ (record { at = record { slot = i }; tuple = u; supports = 1; marked = m }) ∷ [])
  came_groups = join_groups a.key.items notes (slice_set notes i (record { supports = 1; head = h; marked = m })) links
      keys.rows ends (entries_of a) (pick a.key.items u) h
      (record { at = record { slot = i }; tuple = u; supports = 1; marked = m }) i
      (ready_but a rows notes links keys ends i h u hs r) refl refl
      (laid_out a rows notes i u r.laid)
      (different_front (slots_at (entries_of a)) (i ∷ []) (laid_different a rows notes i u r.laid))
      (old_below a rows notes links keys ends i h u hs r) (slot_links a rows notes links keys ends i h u hs r)
      (head_ends a rows notes links keys ends i h u hs r)
      (seated_out a.key.items notes i (record { supports = 1; head = h; marked = m }) keys.rows (entries_of a)
      (laid_out a rows notes i u r.laid) (ready_but a rows notes links keys ends i h u hs r).seated)
      (seat_noted notes i (record { supports = 1; head = h; marked = m }) (slot_notes a rows notes i u r.laid))

  pub came_heads : AreHeads b
  came_heads = record {
    keys = rw f.keys_are r.keys_law;
    key_width = rw (f.keys_are, f.noted.key, r.keys_width) hs.key_width;
    links = rw (f.noted.rows_are, f.links_are, length-entered) r.room_links;
    ends = rw (f.keys_are, f.ends_are, length-set) r.room_ends;
    groups = rw (
      came_entries m a b rows notes i h u raw plain absent r.laid f.noted,
      f.noted.key,
      f.noted.notes_are,
      f.links_are,
      f.keys_are,
      f.ends_are,
    ) came_groups;
  }

-- a refused insertion leaves all as it was
pub record Refuses (a b : Raw) : Type 0 where
  pub kind : b.kind ≡ a.kind
  pub key : b.key.items ≡ a.key.items
  pub rows_law : AreRows b.rows
  pub width : b.rows.width ≡ a.rows.width
  pub rows : b.rows.rows ≡ a.rows.rows
  pub room_notes : b.rows.room ≤ length b.notes.items
  pub same_notes : (k : ℕ) → note_at b.notes.items k ≡ note_at a.notes.items k
  pub marked : b.marked ≡ a.marked

-- and the heads
pub record RefusesHead (a b : Raw) : Type 0 where
  pub room_links : b.rows.room ≤ length b.links.items
  pub same_links : (k : ℕ) → pair_at b.links.items k ≡ pair_at a.links.items k
  pub keys_law : AreRows b.keys
  pub keys_width : b.keys.width ≡ a.keys.width
  pub keys : b.keys.rows ≡ a.keys.rows
  pub room_ends : b.keys.room ≤ length b.ends.items
  pub same_ends : (k : ℕ) → ends_at b.ends.items k ≡ ends_at a.ends.items k

-- where a tuple found no memory
pub unlaid_refuses : (a b : Raw) → IsUnlaid a.rows b.rows a.notes.items b.notes.items → b.kind ≡ a.kind
    → b.key.items ≡ a.key.items → b.marked ≡ a.marked → Refuses a b
unlaid_refuses a b r kind key marked = record {
  kind = kind;
  key = key;
  rows_law = r.rows_law;
  width = r.width;
  rows = r.same_rows;
  room_notes = r.room_notes;
  same_notes = r.same_notes;
  marked = marked;
}

pub refused_entries : (a b : Raw) → Refuses a b → entries_of b ≡ entries_of a
refused_entries a b r = ap (entries_in b.notes.items) r.rows
    ∙ entries_like a.notes.items b.notes.items a.rows.rows r.same_notes

pub refused_bare : (a b : Raw) → HoldsTuples a → Refuses a b → HoldsTuples b
refused_bare a b raw r = record {
  rows = r.rows_law;
  columns = rw (r.key, r.width) raw.columns;
  kind = kind_kept a.kind b.kind a.rows.width b.rows.width a.key.items b.key.items r.kind r.width r.key raw.kind;
  notes = r.room_notes;
  apart = rw same raw.apart;
  trailing = rw same raw.trailing;
  marked = r.marked ∙ raw.marked ∙ ap (λ (es : List Entry). first_of (slots_at (marks es))) (sym same);
}
  where
    same : entries_of b ≡ entries_of a
    same = refused_entries a b r

pub refused_heads : (a b : Raw) → AreHeads a → Refuses a b → RefusesHead a b → AreHeads b
refused_heads a b hs r h = record {
  keys = h.keys_law;
  key_width = rw (r.key, h.keys_width) hs.key_width;
  links = h.room_links;
  ends = h.room_ends;
  groups = rw (refused_entries a b r, r.key, h.keys)
      (groups_like a.key.items a.notes.items b.notes.items a.links.items b.links.items a.keys.rows a.ends.items
      b.ends.items (entries_of a) hs.groups (λ k. ap (λ (n : Note). n.head) (r.same_notes k)) h.same_links h.same_ends);
}
