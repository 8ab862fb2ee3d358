-- Without slots the knots and edges of a shape are a forest; and the edges up stay as room is made.
use Rattle.std.specs.Prelude.{◌≡◌, ℕ, Bool, true, false, cond, ◌==◌, ◌&&◌, List, [], length, slice_index_or}
use Rattle.std.specs.Prelude.{is_some, Option, None}
use Rattle.std.proofs.Common.{refl, sym, ◌∙◌, ap, subst, arith}
use Rattle.std.proofs.lemmas.List.{get_or_past}
use Rattle.djq_arena.specs.Chains.{AreDistinctSlots}
use Rattle.djq_hypergraph.specs.Hypergraph.{member}
use Rattle.djq_forest.specs.Forest.{Forest, nth_edge, has_entry, missing_at, tie_of, list_of}
use Rattle.djq_forest.specs.Shape.{IsShape, AreAlong}
use Rattle.djq_forest.specs.Invariants.{AreEntries, IsForest}
use Rattle.djq_forest.specs.Room.{IsRoomier}
use Rattle.djq_forest.specs.Rising.{AreUps}
use Rattle.djq_forest.specs.TreeForest.{TreeForest, IsForestWithUps, HasNoSlots}
use Rattle.djq_forest.proofs.Alike.{same_lower, roomier_alike}
use Rattle.djq_forest.proofs.IndexChanges.{none_distinct}
use Rattle.djq_forest.proofs.Roomy.{sound_still}

-- ---- without slots

no_entry : (f : Forest) (k x : ℕ) → HasNoSlots f → has_entry f.knots k x ≡ false
no_entry f k x h = ap (λ (ts : List (Option (List ℕ))). is_some (slice_index_or ts x None)) (h.tuples k)
    ∙ ap (λ (o : Option (List ℕ)). is_some o) (get_or_past [] x None (omega arith))

never : (f : Forest) (k x : ℕ) → HasNoSlots f → has_entry f.knots k x ≡ true → ⊥
never f k x h e =
    let both : true ≡ false = sym e ∙ no_entry f k x h in
    cc

no_list : (f : Forest) (j y : ℕ) → HasNoSlots f → list_of (nth_edge f.edges j) y ≡ []
no_list f j y h = ap (λ (ls : List (List ℕ)). slice_index_or ls y []) (h.lists j) ∙ get_or_past [] y [] (omega arith)

none_listed : (a c e m : Bool) → e ≡ false → (a && cond c (e && m) e) ≡ false
none_listed true true e m p = rw p refl
none_listed true false e m p = p
none_listed false c e m p = refl

none_along : (f : Forest) → HasNoSlots f → AreAlong f.knots f.edges
none_along f h = record {
  missing = λ k. ap (λ (ns : List ℕ). length ns) (h.missing k)
      ∙ sym (ap (λ (ts : List (Option (List ℕ))). length ts) (h.tuples k));
  refs = λ k. ap (λ (ns : List ℕ). length ns) (h.refs k)
      ∙ sym (ap (λ (ts : List (Option (List ℕ))). length ts) (h.tuples k));
  marks = λ k. ap (λ (ns : List ℕ). length ns) (h.marks k)
      ∙ sym (ap (λ (ts : List (Option (List ℕ))). length ts) (h.tuples k));
  ties = λ j l. let e = ap (λ (ts : List (Option (List ℕ))). length ts) (h.tuples (nth_edge f.edges j).big) in
      omega (arith, e);
  lists = λ j l. let e = ap (λ (ts : List (Option (List ℕ))). length ts) (h.tuples (nth_edge f.edges j).small) in
      omega (arith, e);
}

none_entries : (f : Forest) → IsShape f.knots f.edges → HasNoSlots f → AreEntries f
none_entries f s h = record {
  shape = s;
  along = none_along f h;
  wide = λ k x e. absurd (never f k x h e);
  differ = λ k x y e d same. absurd (never f k x h e);
  tied = λ j x l e. absurd (never f (nth_edge f.edges j).big x h e);
  projected = λ j x l e. absurd (never f (nth_edge f.edges j).big x h e);
  refs = λ k y e. absurd (never f k y h e);
  held = λ k y e v. absurd (never f k y h e);
}

pub none_forest : (f : Forest) → IsShape f.knots f.edges → HasNoSlots f → IsForest f
none_forest f s h = record {
  entries = none_entries f s h;
  listed = λ j x y l. ap (λ (ns : List ℕ). member x ns) (no_list f j y h)
      ∙ sym (none_listed (tie_of (nth_edge f.edges j) x == y) (nth_edge f.edges j).feeds
      (has_entry f.knots (nth_edge f.edges j).big x) (missing_at f.knots (nth_edge f.edges j).big x == 0)
      (no_entry f (nth_edge f.edges j).big x h));
  once = λ j y l. subst (λ (ns : List ℕ). AreDistinctSlots ns) (sym (no_list f j y h)) none_distinct;
  missing = λ k x e. absurd (never f k x h e);
}

-- ---- more room

ups_still : (ups : List (Option ℕ)) (f g : Forest) → AreAlong f.knots f.edges → IsRoomier f g → AreUps ups f → AreUps ups g
ups_still ups f g along more u =
    let alike = (roomier_alike f g along more).entries in
    record {
      long = let l = u.long in let k = alike.knots in omega (arith, l, k);
      edge = λ k j is. (
        let l = (u.edge k j is).0 in let e = alike.edges in omega (arith, l, e),
        same_lower f g j alike ∙ (u.edge k j is).1,
      );
      none = λ k j is l up. u.none k j is (let e = alike.edges in omega (arith, l, e)) (sym (same_lower f g j alike) ∙ up);
    }

pub with_ups_still : (ups : List (Option ℕ)) (x : TreeForest) (g : Forest) → IsRoomier x.forest g → AreAlong g.knots g.edges
    → IsForestWithUps ups x → IsForestWithUps ups (record { tree = x.tree; forest = g; fold = x.fold })
with_ups_still ups x g more along h = record {
  sound = sound_still x g more along h.sound;
  ups_are = ups_still ups x.forest g h.sound.forest.entries.along more h.ups_are;
}
