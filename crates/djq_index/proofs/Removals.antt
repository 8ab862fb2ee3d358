-- A tuple goes from a table's parts, or moves to the end of its group.
use Rattle.std.proofs.Common.{◌≡◌, ◌≢◌, ℕ, ◌<◌, List, [], ◌∷◌, ◌++◌, length, slice_set, Option, Some, None, refl, ap}
use Rattle.std.proofs.Common.{ap₂, subst, sym, ◌∙◌, arith, true, false, ◌⊎◌, inl, inr, length-set}
use Rattle.std.proofs.lemmas.List.{append-nil}
use Rattle.std.proofs.lemmas.Bool.{cases_Bool}
use Rattle.djq_arena.specs.declared.chain.Pair.{Pair}
use Rattle.djq_arena.specs.declared.chain.Ends.{Ends}
use Rattle.djq_arena.specs.Rows.{Row, SlotRows, AreRows, IsRow, IsRowHeld, slots}
use Rattle.djq_arena.specs.Chains.{Linked, first_of, AreDistinctSlots, AreBelow, IsOut, IsSlotBelow, pair_at, entered}
use Rattle.djq_arena.specs.Chains.{chain_without}
use Rattle.djq_arena.specs.Store.{extended, shrunk, beside}
use Rattle.djq_arena.proofs.Chains.{different_here, different_out, below_front, below_back, below_out, last_within}
use Rattle.djq_arena.proofs.Chains.{first_within, below_more, length-entered, length-left, prev_here, next_here}
use Rattle.djq_index.specs.declared.place.Place.{Place}
use Rattle.djq_index.specs.declared.kind.Kind.TheVariants.{Keyed}
use Rattle.djq_index.specs.declared.raw.Note.{Note}
use Rattle.djq_index.specs.declared.raw.Raw.{Raw}
use Rattle.djq_index.specs.Tuple.{pick}
use Rattle.djq_index.specs.Entries.{Entry, count_of, group_size, group_of, marks, is_marked}
use Rattle.djq_index.specs.Table.{TuplesDiffer, IsAt}
use Rattle.djq_index.specs.Changes.{Removed, Touched, Supported}
use Rattle.djq_index.specs.Raw.{note_at, entry_of, entries_in, entries_of, slots_at, row_at, ends_at, AreGroups}
use Rattle.djq_index.specs.Raw.{AreTrailing, HoldsTuples, AreHeads, IsRaw, IsMarked, passed}
use Rattle.djq_index.proofs.Tuples.{apart_out, apart_in, apart_here}
use Rattle.djq_index.proofs.Groups.{marks_middle, marks-append, marks_yes}
use Rattle.djq_index.proofs.Parts.{slots_are, row_from_at, row_below, entries_nil, entries_in-append, entries_in_cons}
use Rattle.djq_index.proofs.Parts.{cut_at, slots_at_middle, slots_at-append, entry_tuple, entry_at, entry_marked}
use Rattle.djq_index.proofs.Parts.{entry_supports, note_marked}
use Rattle.djq_index.proofs.GroupChanges.{AreGroupsBut, join_groups, part_groups, pruned, kept, emptied, group_below}
use Rattle.djq_index.proofs.GroupChanges.{seat_of, group_middle as group_middle_at}
use Rattle.djq_index.proofs.PartChanges.{entries_set, seated_out, seat_noted, trailing_push, trailing_out, mark_push}
use Rattle.djq_index.proofs.PartChanges.{mark_out, groups_noted, groups_alike, alike_notes, alike_apart, trailing_same}
use Rattle.djq_index.proofs.PartChanges.{AreAlike, kind_kept}

-- an entry, seen as one of the rows
pub record Found (a : Raw) (p : Place) (u : List ℕ) : Type 0 where
  pub front : List Row
  pub back : List Row
  pub rows : a.rows.rows ≡ front ++ record { slot = p.slot; cells = u } ∷ back

pub its_entry : Raw → Place → List ℕ → Entry
its_entry a p u = entry_of a.notes.items (record { slot = p.slot; cells = u })

pub find_row : (a : Raw) (p : Place) (u : List ℕ) → IsAt (entries_of a) p u → Found a p u
find_row a p u h = let c = cut_at a.notes.items a.rows.rows p u h in record
    { front = c.front; back = c.back; rows = c.is }

module _ (a : Raw) (p : Place) (u : List ℕ) (raw : HoldsTuples a) (f : Found a p u) where
  xs : List Entry
  xs = entries_in a.notes.items f.front

  ys : List Entry
  ys = entries_in a.notes.items f.back

  e : Entry
  e = its_entry a p u

  cut_is : entries_of a ≡ xs ++ e ∷ ys
  unfolding xs ys e its_entry
  cut_is = ap (entries_in a.notes.items) f.rows
      ∙ entries_in-append a.notes.items f.front (record { slot = p.slot; cells = u } ∷ f.back)
      ∙ ap (λ (es : List Entry). entries_in a.notes.items f.front ++ es)
      (entries_in_cons a.notes.items (record { slot = p.slot; cells = u }) f.back)

  e_tuple : e.tuple ≡ u
  unfolding e its_entry
  e_tuple = entry_tuple a.notes.items (record { slot = p.slot; cells = u })

  e_slot : e.at.slot ≡ p.slot
  unfolding e its_entry
  e_slot = ap (λ (q : Place). q.slot) (entry_at a.notes.items (record { slot = p.slot; cells = u }))

  all_different : AreDistinctSlots (slots_at (xs ++ e ∷ ys))
  all_different = subst (λ es. AreDistinctSlots (slots_at es)) cut_is
      (subst AreDistinctSlots (sym (slots_are a.notes.items a.rows.rows)) raw.rows.different)

  all_below : AreBelow a.rows.room (slots_at (xs ++ e ∷ ys))
  all_below = subst (λ es. AreBelow a.rows.room (slots_at es)) cut_is
      (subst (AreBelow a.rows.room) (sym (slots_are a.notes.items a.rows.rows)) raw.rows.below)

  pub its_held : IsRowHeld a.rows.rows p.slot
  its_held = record { cells = u; row = record { front = f.front; back = f.back; is = f.rows } }

  pub its_room : p.slot < a.rows.room
  its_room = row_below a.rows.room a.rows.rows p.slot u raw.rows.below
      (record { front = f.front; back = f.back; is = f.rows })

-- and its head
module _ (a : Raw) (p : Place) (u : List ℕ) (raw : HoldsTuples a) (hs : AreHeads a) (f : Found a p u) where
  links_below : AreBelow (length a.links.items) (slots_at ((xs a p u raw f) ++ (e a p u raw f) ∷ (ys a p u raw f)))
  links_below = below_more a.rows.room (length a.links.items)
      (slots_at ((xs a p u raw f) ++ (e a p u raw f) ∷ (ys a p u raw f))) hs.links (all_below a p u raw f)

  its_groups : AreGroups a.key.items a.notes.items a.links.items a.keys.rows a.ends.items
      ((xs a p u raw f) ++ (e a p u raw f) ∷ (ys a p u raw f))
  its_groups = subst (AreGroups a.key.items a.notes.items a.links.items a.keys.rows a.ends.items) (cut_is a p u raw f)
      hs.groups

  head : ℕ
  head = (note_at a.notes.items p.slot).head

  its_seat : row_at a.keys.rows head ≡ Some (pick a.key.items u)
  unfolding head
  its_seat = ap (λ (i : ℕ). row_at a.keys.rows (note_at a.notes.items i).head) (sym (e_slot a p u raw f))
      ∙ seat_of a.key.items a.notes.items a.keys.rows (xs a p u raw f) (e a p u raw f) (ys a p u raw f)
      its_groups.seated ∙ ap (λ (v : List ℕ). Some (pick a.key.items v)) (e_tuple a p u raw f)

  pub its_head_row : IsRow a.keys.rows (note_at a.notes.items p.slot).head (pick a.key.items u)
  unfolding head
  its_head_row = row_from_at a.keys.rows head (pick a.key.items u) its_seat

  pub its_head_held : IsRowHeld a.keys.rows (note_at a.notes.items p.slot).head
  its_head_held = record { cells = pick a.key.items u; row = its_head_row }

  pub its_head_room : (note_at a.notes.items p.slot).head < length a.ends.items
  its_head_room = omega (
    arith,
    row_below a.keys.room a.keys.rows (note_at a.notes.items p.slot).head (pick a.key.items u) hs.keys.below
        its_head_row,
    hs.ends,
  )

  its_parted : AreGroupsBut a.key.items a.notes.items
      (chain_without (pair_at a.links.items p.slot) a.links.items) a.keys.rows
      (slice_set a.ends.items (note_at a.notes.items p.slot).head
      (shrunk (pair_at a.links.items p.slot) (ends_at a.ends.items (note_at a.notes.items p.slot).head)))
      ((xs a p u raw f) ++ (ys a p u raw f)) (pick a.key.items u) (note_at a.notes.items p.slot).head
  its_parted =
      subst (λ v. AreGroupsBut a.key.items a.notes.items (chain_without (pair_at a.links.items p.slot) a.links.items)
      a.keys.rows
      (slice_set a.ends.items (note_at a.notes.items p.slot).head
      (shrunk (pair_at a.links.items p.slot) (ends_at a.ends.items (note_at a.notes.items p.slot).head)))
      ((xs a p u raw f) ++ (ys a p u raw f)) (pick a.key.items v) (note_at a.notes.items p.slot).head)
      (e_tuple a p u raw f)
      (part_groups a.key.items a.notes.items a.links.items a.keys.rows a.ends.items (xs a p u raw f) (e a p u raw f)
      (ys a p u raw f) (note_at a.notes.items p.slot).head p.slot its_groups (e_slot a p u raw f) refl
      (all_different a p u raw f) links_below its_head_room)

  -- the neighbours are slots
  group_chain : Linked a.links.items None
      (slots_at (group_of a.key.items (xs a p u raw f) (pick a.key.items u)) ++ p.slot ∷ slots_at
      (group_of a.key.items (ys a p u raw f) (pick a.key.items u))) None
  group_chain = subst (λ zs. Linked a.links.items None zs None)
      (ap slots_at (group_middle_at a.key.items (xs a p u raw f) (e a p u raw f) (ys a p u raw f) (pick a.key.items u)
      (ap (pick a.key.items) (e_tuple a p u raw f)))
      ∙ slots_at_middle (group_of a.key.items (xs a p u raw f) (pick a.key.items u)) (e a p u raw f)
      (group_of a.key.items (ys a p u raw f) (pick a.key.items u))
      ∙ ap (λ (i : ℕ). slots_at (group_of a.key.items (xs a p u raw f) (pick a.key.items u)) ++ i ∷ slots_at
      (group_of a.key.items (ys a p u raw f) (pick a.key.items u))) (e_slot a p u raw f))
      (its_groups.chained (pick a.key.items u))

  chain_below : AreBelow (length a.links.items)
      (slots_at (group_of a.key.items (xs a p u raw f) (pick a.key.items u)) ++ p.slot ∷ slots_at
      (group_of a.key.items (ys a p u raw f) (pick a.key.items u)))
  chain_below = subst (AreBelow (length a.links.items))
      (ap slots_at (group_middle_at a.key.items (xs a p u raw f) (e a p u raw f) (ys a p u raw f) (pick a.key.items u)
      (ap (pick a.key.items) (e_tuple a p u raw f)))
      ∙ slots_at_middle (group_of a.key.items (xs a p u raw f) (pick a.key.items u)) (e a p u raw f)
      (group_of a.key.items (ys a p u raw f) (pick a.key.items u))
      ∙ ap (λ (i : ℕ). slots_at (group_of a.key.items (xs a p u raw f) (pick a.key.items u)) ++ i ∷ slots_at
      (group_of a.key.items (ys a p u raw f) (pick a.key.items u))) (e_slot a p u raw f))
      (group_below (length a.links.items) a.key.items ((xs a p u raw f) ++ (e a p u raw f) ∷ (ys a p u raw f))
      (pick a.key.items u) links_below)

  pub its_prev_within : IsSlotBelow (length a.links.items) (pair_at a.links.items p.slot).prev
  its_prev_within = rw (prev_here a.links.items (slots_at (group_of a.key.items (xs a p u raw f) (pick a.key.items u)))
      p.slot (slots_at (group_of a.key.items (ys a p u raw f) (pick a.key.items u))) group_chain)
      (last_within (length a.links.items) None (slots_at (group_of a.key.items (xs a p u raw f) (pick a.key.items u)))
      tt
      (below_front (length a.links.items) (slots_at (group_of a.key.items (xs a p u raw f) (pick a.key.items u)))
      (p.slot ∷ slots_at (group_of a.key.items (ys a p u raw f) (pick a.key.items u))) chain_below))

  pub its_next_within : IsSlotBelow (length a.links.items) (pair_at a.links.items p.slot).next
  its_next_within = rw (next_here a.links.items (slots_at (group_of a.key.items (xs a p u raw f) (pick a.key.items u)))
      p.slot (slots_at (group_of a.key.items (ys a p u raw f) (pick a.key.items u))) group_chain)
      (first_within (length a.links.items) (slots_at (group_of a.key.items (ys a p u raw f) (pick a.key.items u)))
      (below_back (length a.links.items) (slots_at (group_of a.key.items (xs a p u raw f) (pick a.key.items u)))
      (slots_at (group_of a.key.items (ys a p u raw f) (pick a.key.items u)))
      (below_out (length a.links.items) (slots_at (group_of a.key.items (xs a p u raw f) (pick a.key.items u))) p.slot
      (slots_at (group_of a.key.items (ys a p u raw f) (pick a.key.items u))) chain_below)))

-- what a removal does to the tuples
pub record Leaves (a b : Raw) (i : ℕ) (follower : Option ℕ) : Type 0 where
  pub kind : b.kind ≡ a.kind
  pub key : b.key.items ≡ a.key.items
  pub rows_law : AreRows b.rows
  pub width : b.rows.width ≡ a.rows.width
  pub room : b.rows.room ≡ a.rows.room
  pub removed : (rs : List Row) (r : Row) (ss : List Row) → a.rows.rows ≡ rs ++ r ∷ ss → r.slot ≡ i → b.rows.rows
      ≡ rs ++ ss
  pub notes : b.notes.items ≡ a.notes.items
  pub marked : b.marked ≡ passed a.marked i follower
  pub next : (rs : List Row) (r : Row) (ss : List Row) → a.rows.rows ≡ rs ++ r ∷ ss → r.slot ≡ i → follower
      ≡ first_of (slots ss)

-- and to the heads
pub record Goes (a b : Raw) (i : ℕ) (follower : Option ℕ) : Type 0 where
  pub leaves : Leaves a b i follower
  pub links : b.links.items ≡ chain_without (pair_at a.links.items i) a.links.items
  pub ends : b.ends.items
      ≡ slice_set a.ends.items (note_at a.notes.items i).head
      (shrunk (pair_at a.links.items i) (ends_at a.ends.items (note_at a.notes.items i).head))
  pub keys_law : AreRows b.keys
  pub keys_width : b.keys.width ≡ a.keys.width
  pub keys_room : b.keys.room ≡ a.keys.room
  pub emptied : (ends_at b.ends.items (note_at a.notes.items i).head).first ≡ None
      → (ks : List Row) (r : Row) (ls : List Row) → a.keys.rows ≡ ks ++ r ∷ ls → r.slot ≡ (note_at a.notes.items i).head
      → b.keys.rows ≡ ks ++ ls
  pub kept : (ends_at b.ends.items (note_at a.notes.items i).head).first ≢ None → b.keys.rows ≡ a.keys.rows

none_or_some : (o : Option ℕ) → (o ≡ None) ⊎ (o ≡ None → ⊥)
none_or_some None = inl refl
none_or_some (Some x) = inr (λ h. cc)

module _ (a b : Raw) (p : Place) (u : List ℕ) (n : Option ℕ) (raw : HoldsTuples a) (f : Found a p u)
    (g : Leaves a b p.slot n) where
  rest : List Entry
  rest = entries_in a.notes.items f.front ++ entries_in a.notes.items f.back

  pub rest_is : entries_of b ≡ entries_in a.notes.items f.front ++ entries_in a.notes.items f.back
  rest_is = ap₂ (λ (ns : List Note) (rs : List Row). entries_in ns rs) g.notes
      (g.removed f.front (record { slot = p.slot; cells = u }) f.back f.rows refl)
      ∙ entries_in-append a.notes.items f.front f.back

  pub gone_bare : HoldsTuples b
  unfolding rest xs ys e
  gone_bare = record {
    rows = g.rows_law;
    columns = rw (g.key, g.width) raw.columns;
    kind = kind_kept a.kind b.kind a.rows.width b.rows.width a.key.items b.key.items g.kind g.width g.key raw.kind;
    notes = rw (g.room, g.notes) raw.notes;
    apart = rw rest_is (apart_out (xs a p u raw f) (e a p u raw f) (ys a p u raw f)
        (subst TuplesDiffer (cut_is a p u raw f) raw.apart));
    trailing = rw rest_is
        (trailing_out (xs a p u raw f) (e a p u raw f) (ys a p u raw f)
        (subst AreTrailing (cut_is a p u raw f) raw.trailing));
    marked = g.marked ∙ ap₂ (λ (o m : Option ℕ). passed o p.slot m)
        (raw.marked ∙ ap (λ (es : List Entry). first_of (slots_at (marks es))) (cut_is a p u raw f))
        (g.next f.front (record { slot = p.slot; cells = u }) f.back f.rows refl
        ∙ ap first_of (sym (slots_are a.notes.items f.back)))
        ∙ mark_out (xs a p u raw f) (e a p u raw f) (ys a p u raw f) p.slot
        (subst AreTrailing (cut_is a p u raw f) raw.trailing) (all_different a p u raw f) (e_slot a p u raw f)
        ∙ ap (λ (es : List Entry). first_of (slots_at (marks es))) (sym rest_is);
  }

  pub gone_removed : Removed (entries_of a) (entries_of b) u
  unfolding rest xs ys e
  gone_removed = record {
    front = xs a p u raw f;
    back = ys a p u raw f;
    entry = e a p u raw f;
    was = cut_is a p u raw f;
    is = rest_is;
    tuple = e_tuple a p u raw f;
  }

module _ (a b : Raw) (p : Place) (u : List ℕ) (n : Option ℕ) (raw : HoldsTuples a) (hs : AreHeads a) (f : Found a p u)
    (g : Goes a b p.slot n) where
  gone_but : AreGroupsBut a.key.items a.notes.items b.links.items a.keys.rows b.ends.items
      (rest a b p u n raw f g.leaves) (pick a.key.items u) (note_at a.notes.items p.slot).head
  unfolding rest xs ys
  gone_but = rw (g.links, g.ends) (its_parted a p u raw hs f)

  gone_groups : AreGroups a.key.items a.notes.items b.links.items b.keys.rows b.ends.items
      (rest a b p u n raw f g.leaves)
  gone_groups = elim (none_or_some (ends_at b.ends.items (note_at a.notes.items p.slot).head).first) [
    | inl none ↦ (let row = its_head_row a p u raw hs f in
        let h = (note_at a.notes.items p.slot).head in
        subst (λ rs. AreGroups a.key.items a.notes.items b.links.items rs b.ends.items (rest a b p u n raw f g.leaves))
        (sym (g.emptied none row.front (record { slot = h; cells = pick a.key.items u }) row.back row.is refl))
        (pruned a.key.items a.notes.items b.links.items row.front (record { slot = h; cells = pick a.key.items u })
        row.back b.ends.items (rest a b p u n raw f g.leaves) (pick a.key.items u) h
        (subst (λ ks. AreGroupsBut a.key.items a.notes.items b.links.items ks b.ends.items
        (rest a b p u n raw f g.leaves) (pick a.key.items u) h) row.is gone_but) refl
        (subst (λ ks. AreDistinctSlots (slots ks)) row.is hs.keys.different)
        (emptied a.key.items (rest a b p u n raw f g.leaves) (pick a.key.items u) (ends_at b.ends.items h).first
        (ap (λ (v : Ends). v.first) (gone_but.headed h (pick a.key.items u) gone_but.mine)) none)))
    | inr some ↦ subst (λ rs. AreGroups a.key.items a.notes.items b.links.items rs b.ends.items
        (rest a b p u n raw f g.leaves)) (sym (g.kept some))
        (kept a.key.items a.notes.items b.links.items a.keys.rows b.ends.items (rest a b p u n raw f g.leaves)
        (pick a.key.items u) (note_at a.notes.items p.slot).head gone_but some)
  ]

  pub gone_heads : AreHeads b
  unfolding rest
  gone_heads = record {
    keys = g.keys_law;
    key_width = rw (g.leaves.key, g.keys_width) hs.key_width;
    links = rw (g.leaves.room, g.links, length-left) hs.links;
    ends = rw (g.keys_room, g.ends, length-set) hs.ends;
    groups = rw (rest_is a b p u n raw f g.leaves, g.leaves.key, g.leaves.notes) gone_groups;
  }

-- the same, as the calls say it
pub leaves_from : (a b : Raw) (i j : ℕ) (follower : Option ℕ) → j ≡ i → b.kind ≡ a.kind
    → b.key.items ≡ a.key.items → AreRows b.rows → b.rows.width ≡ a.rows.width → b.rows.room ≡ a.rows.room
    → ((rs : List Row) (r : Row) (ss : List Row) → a.rows.rows ≡ rs ++ r ∷ ss → r.slot ≡ j → b.rows.rows ≡ rs ++ ss)
    → b.notes.items ≡ a.notes.items → b.marked ≡ passed a.marked j follower
    → ((rs : List Row) (r : Row) (ss : List Row) → a.rows.rows ≡ rs ++ r ∷ ss → r.slot ≡ j → follower
    ≡ first_of (slots ss))
    → Leaves a b i follower
leaves_from a b i j follower ji kind key law width room removed notes marked next = record {
  kind = kind;
  key = key;
  rows_law = law;
  width = width;
  room = room;
  removed = λ rs r ss is at. removed rs r ss is (at ∙ sym ji);
  notes = notes;
  marked = marked ∙ ap (λ (k : ℕ). passed a.marked k follower) ji;
  next = λ rs r ss is at. next rs r ss is (at ∙ sym ji);
}

pub goes_from : (a b : Raw) (i j h : ℕ) (follower : Option ℕ) → j ≡ i → h ≡ (note_at a.notes.items i).head
    → Leaves a b i follower
    → b.links.items ≡ chain_without (pair_at a.links.items j) a.links.items
    → b.ends.items ≡ slice_set a.ends.items h (shrunk (pair_at a.links.items j) (ends_at a.ends.items h))
    → AreRows b.keys → b.keys.width ≡ a.keys.width → b.keys.room ≡ a.keys.room
    → ((ends_at b.ends.items h).first ≡ None → (ks : List Row) (r : Row) (ls : List Row) → a.keys.rows ≡ ks ++ r ∷ ls
    → r.slot ≡ h → b.keys.rows ≡ ks ++ ls)
    → ((ends_at b.ends.items h).first ≢ None → b.keys.rows ≡ a.keys.rows)
    → Goes a b i follower
goes_from a b i j h follower ji hi leaves links ends klaw kwidth kroom emptied_one kept_one = record {
  leaves = leaves;
  links = links ∙ ap (λ (k : ℕ). chain_without (pair_at a.links.items k) a.links.items) ji;
  ends = ends ∙ ap₂ (λ (k m : ℕ). slice_set a.ends.items k (shrunk (pair_at a.links.items m) (ends_at a.ends.items k)))
      hi ji;
  keys_law = klaw;
  keys_width = kwidth;
  keys_room = kroom;
  emptied = λ none ks r ls is at. emptied_one (ap (λ (k : ℕ). (ends_at b.ends.items k).first) hi ∙ none) ks r ls is
      (at ∙ sym hi);
  kept = λ some. kept_one (λ none. some (sym (ap (λ (k : ℕ). (ends_at b.ends.items k).first) hi) ∙ none));
}

marks_slots : (ds : List Entry) (d c : Entry) (es : List Entry) → c.marked ≡ d.marked → c.at.slot ≡ d.at.slot
    → slots_at (marks (ds ++ c ∷ es)) ≡ slots_at (marks (ds ++ d ∷ es))
marks_slots ds d c es m s =
    elim (cases_Bool d.marked) [
      | inl here ↦ ap slots_at
          (marks-append ds (c ∷ es) ∙ ap (λ (ms : List Entry). marks ds ++ ms) (marks_yes c es (m ∙ here)))
          ∙ slots_at_middle (marks ds) c (marks es)
          ∙ ap (λ (j : ℕ). slots_at (marks ds) ++ j ∷ slots_at (marks es)) s
          ∙ sym (ap slots_at (marks-append ds (d ∷ es) ∙ ap (λ (ms : List Entry). marks ds ++ ms) (marks_yes d es here))
          ∙ slots_at_middle (marks ds) d (marks es))
      | inr other ↦ ap slots_at (marks_middle ds c es (m ∙ other) ∙ sym (marks_middle ds d es other))
    ]

-- a note that changes but for its head
pub record Renotes (a b : Raw) (i : ℕ) (note : Note) : Type 0 where
  pub kind : b.kind ≡ a.kind
  pub key : b.key.items ≡ a.key.items
  pub rows : b.rows ≡ a.rows
  pub notes : b.notes.items ≡ slice_set a.notes.items i note
  pub links : b.links.items ≡ a.links.items
  pub keys : b.keys ≡ a.keys
  pub ends : b.ends.items ≡ a.ends.items
  pub marked : b.marked ≡ a.marked
  pub head : note.head ≡ (note_at a.notes.items i).head
  pub mark : note.marked ≡ (note_at a.notes.items i).marked

-- as where its supports alone change
pub supports_changed : (a b : Raw) (i j : ℕ) (m note : Note) → b ≡ record a { notes = b.notes }
    → m ≡ note_at a.notes.items i → i ≡ j → note.head ≡ m.head → note.marked ≡ m.marked
    → b.notes.items ≡ slice_set a.notes.items i note → Renotes a b j note
supports_changed a b i j m note same was at head mark set = record {
  kind = ap (λ (r : Raw). r.kind) same;
  key = ap (λ (r : Raw). r.key.items) same;
  rows = ap (λ (r : Raw). r.rows) same;
  notes = set ∙ ap (λ (k : ℕ). slice_set a.notes.items k note) at;
  links = ap (λ (r : Raw). r.links.items) same;
  keys = ap (λ (r : Raw). r.keys) same;
  ends = ap (λ (r : Raw). r.ends.items) same;
  marked = ap (λ (r : Raw). r.marked) same;
  head = head ∙ ap (λ (n : Note). n.head) was ∙ ap (λ (k : ℕ). (note_at a.notes.items k).head) at;
  mark = mark ∙ ap (λ (n : Note). n.marked) was ∙ ap (λ (k : ℕ). (note_at a.notes.items k).marked) at;
}

module _ (a b : Raw) (p : Place) (u : List ℕ) (note : Note) (raw : HoldsTuples a) (f : Found a p u)
    (r : Renotes a b p.slot note) where
  after : Entry
  after = record { at = record { slot = p.slot }; tuple = u; supports = note.supports; marked = note.marked }

  note_within : p.slot < length a.notes.items
  note_within = omega (arith, its_room a p u raw f, raw.notes)

  renoted_is : entries_of b ≡ xs a p u raw f ++ after ∷ ys a p u raw f
  unfolding xs ys after
  renoted_is = ap₂ (λ (ns : List Note) (rs : SlotRows). entries_in ns rs.rows) r.notes r.rows
      ∙ ap (entries_in (slice_set a.notes.items p.slot note)) f.rows
      ∙ entries_set a.notes.items p.slot note f.front (record { slot = p.slot; cells = u }) f.back refl note_within
      (subst (λ rs. AreDistinctSlots (slots rs)) f.rows raw.rows.different)

  renoted_alike : AreAlike (entries_of a) (entries_of b)
  renoted_alike = subst (λ rs. AreAlike (entries_of a) (entries_in b.notes.items rs.rows)) (sym r.rows)
      (alike_notes a.notes.items b.notes.items a.rows.rows)

  same_mark : after.marked ≡ (e a p u raw f).marked
  unfolding after e its_entry
  same_mark = r.mark ∙ sym (entry_marked a.notes.items (record { slot = p.slot; cells = u }))

  marks_same : (ds : List Entry) (d c : Entry) (es : List Entry) → c.marked ≡ d.marked → c.at.slot ≡ d.at.slot
      → first_of (slots_at (marks (ds ++ c ∷ es))) ≡ first_of (slots_at (marks (ds ++ d ∷ es)))
  marks_same ds d c es m s = ap first_of (marks_slots ds d c es m s)

  after_slot : after.at.slot ≡ (e a p u raw f).at.slot
  unfolding after
  after_slot = sym (e_slot a p u raw f)

  pub renoted_bare : HoldsTuples b
  renoted_bare = record {
    rows = rw r.rows raw.rows;
    columns = rw (r.key, r.rows) raw.columns;
    kind = kind_kept a.kind b.kind a.rows.width b.rows.width a.key.items b.key.items r.kind
        (ap (λ (rs : SlotRows). rs.width) r.rows) r.key raw.kind;
    notes = rw (r.rows, r.notes, length-set) raw.notes;
    apart = alike_apart (entries_of a) (entries_of b) renoted_alike raw.apart;
    trailing = rw renoted_is
        (trailing_same (xs a p u raw f) (e a p u raw f) after (ys a p u raw f) same_mark
        (subst AreTrailing (cut_is a p u raw f) raw.trailing));
    marked = r.marked ∙ raw.marked ∙ ap (λ (es : List Entry). first_of (slots_at (marks es))) (cut_is a p u raw f)
        ∙ sym (marks_same (xs a p u raw f) (e a p u raw f) after (ys a p u raw f) same_mark after_slot)
        ∙ ap (λ (es : List Entry). first_of (slots_at (marks es))) (sym renoted_is);
  }

  renoted_heads : AreHeads a → AreHeads b
  renoted_heads hs = record {
    keys = rw r.keys hs.keys;
    key_width = rw (r.key, r.keys) hs.key_width;
    links = rw (r.rows, r.links) hs.links;
    ends = rw (r.keys, r.ends) hs.ends;
    groups = groups_alike b.key.items b.notes.items b.links.items b.keys.rows b.ends.items (entries_of a) (entries_of b)
        renoted_alike
        (rw (r.key, r.notes, r.links, r.keys, r.ends)
        (groups_noted a.key.items a.notes.items p.slot note a.links.items a.keys.rows a.ends.items (entries_of a)
        r.head note_within hs.groups));
  }

  pub renoted_raw : (a.kind ≡ Keyed → AreHeads a) → IsRaw b
  renoted_raw hs = record { bare = renoted_bare; heads = λ k. renoted_heads (hs (sym r.kind ∙ k)) }

  pub renoted_supported : (from to : ℕ) → (note_at a.notes.items p.slot).supports ≡ from → note.supports ≡ to
      → Supported (entries_of a) (entries_of b) u from to
  unfolding after e its_entry xs ys
  renoted_supported from to had has = record {
    front = xs a p u raw f;
    back = ys a p u raw f;
    before = e a p u raw f;
    after = after;
    was = cut_is a p u raw f;
    is = renoted_is;
    tuple = e_tuple a p u raw f;
    same_tuple = refl;
    same_place = sym (entry_at a.notes.items (record { slot = p.slot; cells = u }));
    same_mark = same_mark;
    had = entry_supports a.notes.items (record { slot = p.slot; cells = u }) ∙ had;
    has = has;
  }

-- what a touch does to the tuples
pub record Renews (a b : Raw) (i : ℕ) : Type 0 where
  pub kind : b.kind ≡ a.kind
  pub key : b.key.items ≡ a.key.items
  pub rows_law : AreRows b.rows
  pub width : b.rows.width ≡ a.rows.width
  pub room : b.rows.room ≡ a.rows.room
  pub renewed : (rs : List Row) (r : Row) (ss : List Row) → a.rows.rows ≡ rs ++ r ∷ ss → r.slot ≡ i → b.rows.rows
      ≡ (rs ++ ss) ++ r ∷ []
  pub notes : b.notes.items
      ≡ slice_set a.notes.items i
      (record { supports = (note_at a.notes.items i).supports; head = (note_at a.notes.items i).head; marked = true })
  pub marked : b.marked ≡ beside a.marked (Some i) a.marked

-- and to the heads
pub record Touches (a b : Raw) (i : ℕ) : Type 0 where
  pub renews : Renews a b i
  pub known : List Ends
  pub known_is : known ≡ slice_set a.ends.items (note_at a.notes.items i).head
      (shrunk (pair_at a.links.items i) (ends_at a.ends.items (note_at a.notes.items i).head))
  pub links : b.links.items
      ≡ entered (ends_at known (note_at a.notes.items i).head).last i
      (chain_without (pair_at a.links.items i) a.links.items)
  pub ends : b.ends.items
      ≡ slice_set known (note_at a.notes.items i).head (extended i (ends_at known (note_at a.notes.items i).head))
  pub keys : b.keys ≡ a.keys

many_none : (key : List ℕ) (w : List ℕ) → group_size key [] w ≡ 0
unfolding group_size
many_none key w = refl

-- what is asked for joining again
module _ (a : Raw) (p : Place) (u : List ℕ) (raw : HoldsTuples a) (f : Found a p u) where
  rest_different : AreDistinctSlots (slots_at (xs a p u raw f ++ ys a p u raw f))
  rest_different = subst AreDistinctSlots (sym (slots_at-append (xs a p u raw f) (ys a p u raw f)))
      (different_out (slots_at (xs a p u raw f)) (e a p u raw f).at.slot (slots_at (ys a p u raw f))
      (subst AreDistinctSlots (slots_at_middle (xs a p u raw f) (e a p u raw f) (ys a p u raw f))
      (all_different a p u raw f)))

  rest_out : IsOut p.slot (slots_at (xs a p u raw f ++ ys a p u raw f))
  rest_out = subst (λ i. IsOut i (slots_at (xs a p u raw f ++ ys a p u raw f))) (e_slot a p u raw f)
      (subst (IsOut (e a p u raw f).at.slot) (sym (slots_at-append (xs a p u raw f) (ys a p u raw f)))
      (different_here (slots_at (xs a p u raw f)) (e a p u raw f).at.slot (slots_at (ys a p u raw f))
      (subst AreDistinctSlots (slots_at_middle (xs a p u raw f) (e a p u raw f) (ys a p u raw f))
      (all_different a p u raw f))))

  pub its_number : p.slot < 4294967295
  its_number = omega (arith, its_room a p u raw f, raw.rows.numbers)

module _ (a : Raw) (p : Place) (u : List ℕ) (raw : HoldsTuples a) (hs : AreHeads a) (f : Found a p u) where
  rest_below : AreBelow (length (chain_without (pair_at a.links.items p.slot) a.links.items))
      (slots_at (xs a p u raw f ++ ys a p u raw f))
  rest_below = rw length-left
      (subst (AreBelow (length a.links.items)) (sym (slots_at-append (xs a p u raw f) (ys a p u raw f)))
      (below_out (length a.links.items) (slots_at (xs a p u raw f)) (e a p u raw f).at.slot (slots_at (ys a p u raw f))
      (subst (AreBelow (length a.links.items)) (slots_at_middle (xs a p u raw f) (e a p u raw f) (ys a p u raw f))
      (links_below a p u raw hs f))))

  pub its_last_within : (h : ℕ) (known : List Ends) → h ≡ (note_at a.notes.items p.slot).head → known
      ≡ slice_set a.ends.items h (shrunk (pair_at a.links.items p.slot) (ends_at a.ends.items h))
      → IsSlotBelow (length (chain_without (pair_at a.links.items p.slot) a.links.items)) (ends_at known h).last
  its_last_within h known hi is =
      let head = (note_at a.notes.items p.slot).head in
      let g = its_parted a p u raw hs f in
      let all : known ≡ slice_set a.ends.items head (shrunk (pair_at a.links.items p.slot) (ends_at a.ends.items head))
      = is ∙ ap (λ (k : ℕ). slice_set a.ends.items k
      (shrunk (pair_at a.links.items p.slot) (ends_at a.ends.items k))) hi in
      subst (IsSlotBelow (length (chain_without (pair_at a.links.items p.slot) a.links.items)))
      (sym (ap₂ (λ (ks : List Ends) (k : ℕ). (ends_at ks k).last) all hi
      ∙ ap (λ (v : Ends). v.last) (g.headed head (pick a.key.items u) g.mine)))
      (last_within (length (chain_without (pair_at a.links.items p.slot) a.links.items)) None
      (slots_at (group_of a.key.items (xs a p u raw f ++ ys a p u raw f) (pick a.key.items u))) tt
      (group_below (length (chain_without (pair_at a.links.items p.slot) a.links.items)) a.key.items
      (xs a p u raw f ++ ys a p u raw f) (pick a.key.items u) rest_below))

module _ (a b : Raw) (p : Place) (u : List ℕ) (raw : HoldsTuples a) (f : Found a p u)
    (plain_one : is_marked (entries_of a) u ≡ false) (at : IsAt (entries_of a) p u) (t : Renews a b p.slot) where
  new_note : Note
  new_note = record {
    supports = (note_at a.notes.items p.slot).supports;
    head = (note_at a.notes.items p.slot).head;
    marked = true;
  }

  new_entry : Entry
  new_entry = record {
    at = record { slot = p.slot };
    tuple = u;
    supports = (note_at a.notes.items p.slot).supports;
    marked = true;
  }

  notes_within : p.slot < length a.notes.items
  notes_within = omega (arith, its_room a p u raw f, raw.notes)

  rows_are : b.rows.rows ≡ (f.front ++ f.back) ++ record { slot = p.slot; cells = u } ∷ []
  rows_are = t.renewed f.front (record { slot = p.slot; cells = u }) f.back f.rows refl

  touched_is : entries_of b ≡ (xs a p u raw f ++ ys a p u raw f) ++ new_entry ∷ []
  unfolding xs ys new_entry
  touched_is = ap (λ (ns : List Note). entries_in ns b.rows.rows) t.notes
      ∙ ap (entries_in (slice_set a.notes.items p.slot
      (record {
        supports = (note_at a.notes.items p.slot).supports;
        head = (note_at a.notes.items p.slot).head;
        marked =
            true;
      }))) rows_are
      ∙ entries_set a.notes.items p.slot
      (record {
        supports = (note_at a.notes.items p.slot).supports;
        head = (note_at a.notes.items p.slot).head;
        marked = true;
      }) (f.front ++ f.back) (record { slot = p.slot; cells = u }) [] refl notes_within
      (subst (λ rs. AreDistinctSlots (slots rs)) rows_are t.rows_law.different)
      ∙ ap₂ (λ (ds es : List Entry). ds ++ record {
        at = record { slot = p.slot };
        tuple = u;
        supports = (note_at a.notes.items p.slot).supports;
        marked = true;
      } ∷ es) (entries_in-append a.notes.items f.front f.back) (entries_nil a.notes.items)

  e_plain : (e a p u raw f).marked ≡ false
  unfolding e its_entry
  e_plain = entry_marked a.notes.items (record { slot = p.slot; cells = u }) ∙ note_marked a p u raw at ∙ plain_one

  pub touched_bare : HoldsTuples b
  unfolding new_entry
  touched_bare = record {
    rows = t.rows_law;
    columns = rw (t.key, t.width) raw.columns;
    kind = kind_kept a.kind b.kind a.rows.width b.rows.width a.key.items b.key.items t.kind t.width t.key raw.kind;
    notes = rw (t.room, t.notes, length-set) raw.notes;
    apart = rw touched_is
        (apart_in (xs a p u raw f ++ ys a p u raw f) new_entry []
        (rw append-nil (apart_out (xs a p u raw f) (e a p u raw f) (ys a p u raw f) was_apart)) (rw append-nil absent));
    trailing = rw touched_is
        (trailing_push (xs a p u raw f ++ ys a p u raw f) new_entry
        (trailing_out (xs a p u raw f) (e a p u raw f) (ys a p u raw f)
        (subst AreTrailing (cut_is a p u raw f) raw.trailing)) refl);
    marked = t.marked ∙ ap (λ (o : Option ℕ). beside o (Some p.slot) o)
        (raw.marked ∙ ap (λ (es : List Entry). first_of (slots_at (marks es))) (cut_is a p u raw f)
        ∙ ap (λ (ms : List Entry). first_of (slots_at ms))
        (marks_middle (xs a p u raw f) (e a p u raw f) (ys a p u raw f) e_plain))
        ∙ mark_push (xs a p u raw f ++ ys a p u raw f) new_entry p.slot refl refl
        ∙ ap (λ (es : List Entry). first_of (slots_at (marks es))) (sym touched_is);
  }
    where
      was_apart : TuplesDiffer (xs a p u raw f ++ e a p u raw f ∷ ys a p u raw f)
      was_apart = subst TuplesDiffer (cut_is a p u raw f) raw.apart

      absent : count_of (xs a p u raw f ++ ys a p u raw f) u ≡ 0
      absent = subst (λ v. count_of (xs a p u raw f ++ ys a p u raw f) v ≡ 0) (e_tuple a p u raw f)
          (apart_here (xs a p u raw f) (e a p u raw f) (ys a p u raw f) was_apart)

  pub touched_one : Touched a.key.items (entries_of a) (entries_of b) u
  unfolding new_entry e its_entry
  touched_one = record {
    front = xs a p u raw f;
    back = ys a p u raw f;
    before = e a p u raw f;
    after = new_entry;
    fore = xs a p u raw f ++ ys a p u raw f;
    rest = [];
    was = cut_is a p u raw f;
    between = sym (append-nil (xs a p u raw f ++ ys a p u raw f));
    is = touched_is;
    tuple = e_tuple a p u raw f;
    same_tuple = refl;
    same_place = sym (entry_at a.notes.items (record { slot = p.slot; cells = u }));
    same_supports = sym (entry_supports a.notes.items (record { slot = p.slot; cells = u }));
    plain = e_plain;
    marked = refl;
    last = many_none a.key.items (pick a.key.items u);
  }

module _ (a b : Raw) (p : Place) (u : List ℕ) (raw : HoldsTuples a) (hs : AreHeads a) (f : Found a p u)
    (plain_one : is_marked (entries_of a) u ≡ false) (at : IsAt (entries_of a) p u) (t : Touches a b p.slot) where
  touched_groups : AreGroups a.key.items b.notes.items b.links.items a.keys.rows b.ends.items
      ((xs a p u raw f ++ ys a p u raw f) ++ (new_entry a b p u raw f plain_one at t.renews) ∷ [])
  unfolding new_entry
  touched_groups = rw (t.renews.notes, t.links, t.ends)
      (join_groups a.key.items a.notes.items
      (slice_set a.notes.items p.slot
      (record {
        supports = (note_at a.notes.items p.slot).supports;
        head = (note_at a.notes.items p.slot).head;
        marked = true;
      }))
      (chain_without (pair_at a.links.items p.slot) a.links.items) a.keys.rows t.known
      (xs a p u raw f ++ ys a p u raw f)
      (pick a.key.items u) (note_at a.notes.items p.slot).head
      (record {
        at = record { slot = p.slot };
        tuple = u;
        supports = (note_at a.notes.items p.slot).supports;
        marked =
            true;
      }) p.slot
      parted refl refl (rest_out a p u raw f) (rest_different a p u raw f) (rest_below a p u raw hs f)
      (rw length-left (omega (arith, its_room a p u raw f, hs.links)))
      (rw (t.known_is, length-set) (its_head_room a p u raw hs f))
      (seated_out a.key.items a.notes.items p.slot
      (record {
        supports = (note_at a.notes.items p.slot).supports;
        head = (note_at a.notes.items p.slot).head;
        marked = true;
      }) a.keys.rows (xs a p u raw f ++ ys a p u raw f) (rest_out a p u raw f) parted.seated)
      (seat_noted a.notes.items p.slot
      (record {
        supports = (note_at a.notes.items p.slot).supports;
        head = (note_at a.notes.items p.slot).head;
        marked = true;
      }) (notes_within a b p u raw f plain_one at t.renews)))
    where
      parted : AreGroupsBut a.key.items a.notes.items
          (chain_without (pair_at a.links.items p.slot) a.links.items) a.keys.rows
          t.known (xs a p u raw f ++ ys a p u raw f) (pick a.key.items u) (note_at a.notes.items p.slot).head
      parted = subst
          (λ ks. AreGroupsBut a.key.items a.notes.items (chain_without (pair_at a.links.items p.slot) a.links.items)
          a.keys.rows ks (xs a p u raw f ++ ys a p u raw f) (pick a.key.items u) (note_at a.notes.items p.slot).head)
          (sym t.known_is) (its_parted a p u raw hs f)

  pub touched_heads : AreHeads b
  touched_heads = record {
    keys = rw t.keys hs.keys;
    key_width = rw (t.renews.key, t.keys) hs.key_width;
    links = rw (t.renews.room, t.links, length-entered, length-left) hs.links;
    ends = rw (t.keys, t.ends, length-set, t.known_is, length-set) hs.ends;
    groups = subst (AreGroups b.key.items b.notes.items b.links.items b.keys.rows b.ends.items)
        (sym (touched_is a b p u raw f plain_one at t.renews))
        (subst (λ (ks : SlotRows). AreGroups b.key.items b.notes.items b.links.items ks.rows b.ends.items
        ((xs a p u raw f ++ ys a p u raw f) ++ new_entry a b p u raw f plain_one at t.renews ∷ [])) (sym t.keys)
        (subst (λ (ks : List ℕ). AreGroups ks b.notes.items b.links.items a.keys.rows b.ends.items
        ((xs a p u raw f ++ ys a p u raw f) ++ new_entry a b p u raw f plain_one at t.renews ∷ []))
        (sym t.renews.key) touched_groups));
  }

-- the same, as the calls say it
pub renews_from : (a m b : Raw) (i j : ℕ) → j ≡ i → IsMarked m b j → m.kind ≡ a.kind → m.key.items ≡ a.key.items
    → m.notes.items ≡ a.notes.items → m.marked ≡ a.marked
    → AreRows m.rows → m.rows.width ≡ a.rows.width → m.rows.room ≡ a.rows.room
    → ((rs : List Row) (r : Row) (ss : List Row) → a.rows.rows ≡ rs ++ r ∷ ss → r.slot ≡ j → m.rows.rows
    ≡ (rs ++ ss) ++ r ∷ []) → Renews a b i
renews_from a m b i j ji k kind key notes marked law width room renewed = record {
  kind = k.kind ∙ kind;
  key = k.key ∙ key;
  rows_law = rw k.rows law;
  width = ap (λ (rs : SlotRows). rs.width) k.rows ∙ width;
  room = ap (λ (rs : SlotRows). rs.room) k.rows ∙ room;
  renewed = λ rs r ss is at. ap (λ (qs : SlotRows). qs.rows) k.rows ∙ renewed rs r ss is (at ∙ sym ji);
  notes = k.notes ∙ ap₂
      (λ (n : ℕ) (ns : List Note). slice_set ns n
      (record { supports = (note_at ns n).supports; head = (note_at ns n).head; marked = true })) ji notes;
  marked = k.marked ∙ ap₂ (λ (n : ℕ) (o : Option ℕ). beside o (Some n) o) ji marked;
}

pub touches_from : (a m b : Raw) (i j : ℕ) (note : Note) → j ≡ i → note ≡ note_at a.notes.items i → Renews a b i
    → IsMarked m b j
    → (known : List Ends) → known
    ≡ slice_set a.ends.items note.head (shrunk (pair_at a.links.items j) (ends_at a.ends.items note.head))
    → (links : List Pair) → links ≡ chain_without (pair_at a.links.items j) a.links.items
    → m.links.items ≡ entered (ends_at known note.head).last j links
    → m.ends.items ≡ slice_set known note.head (extended j (ends_at known note.head))
    → m.keys ≡ a.keys → Touches a b i
touches_from a m b i j note ji ni renews k known known_is links links_is more ends keys = record {
  renews = renews;
  known = known;
  known_is = known_is ∙ ap₂
      (λ (k : ℕ) (n : Note). slice_set a.ends.items n.head
      (shrunk (pair_at a.links.items k) (ends_at a.ends.items n.head))) ji ni;
  links = k.links ∙ more ∙ ap₂ (λ (k : ℕ) (n : Note). entered (ends_at known n.head).last k links) ji ni
      ∙ ap (λ (ls : List Pair). entered (ends_at known (note_at a.notes.items i).head).last i ls)
      (links_is ∙ ap (λ (k : ℕ). chain_without (pair_at a.links.items k) a.links.items) ji);
  ends = k.ends ∙ ends ∙ ap₂ (λ (k : ℕ) (n : Note). slice_set known n.head (extended k (ends_at known n.head))) ji ni;
  keys = k.keys ∙ keys;
}

pub same_tuple_at : (a : Raw) (p : Place) (u v : List ℕ) → HoldsTuples a → IsAt (entries_of a) p u
    → IsAt (entries_of a) p v
    → is_marked (entries_of a) v ≡ false → is_marked (entries_of a) u ≡ false
same_tuple_at a p u v raw at other none = sym (note_marked a p u raw at) ∙ note_marked a p v raw other ∙ none
