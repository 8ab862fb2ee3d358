-- Ties of new slots, and a slot that is tied to another one while it is in no list.
use Rattle.std.specs.Prelude.{◌≡◌, ℕ, zero, suc, ◌<◌, ◌≤◌, ◌-◌, false, List, [], ◌∷◌, ◌++◌, map, length}
use Rattle.std.specs.Prelude.{slice_index_or, slice_set, replicate, Option, None}
use Rattle.std.proofs.Common.{refl, sym, ◌∙◌, ap, subst, arith, inl, inr, length-set, length-append}
use Rattle.std.proofs.Common.{get_or-set_other}
use Rattle.std.proofs.lemmas.Bool.{cases_eq, cases_lt}
use Rattle.std.proofs.lemmas.List.{map-append, map-set, length-replicate, get_or_append_left}
use Rattle.std.proofs.lemmas.List.{get_or-append_right, get_or-replicate}
use Rattle.djq_arena.specs.declared.chain.Pair.{Pair}
use Rattle.djq_arena.specs.declared.link.TheConstants.{SLOTS}
use Rattle.djq_arena.specs.Chains.{IsOut, AreDistinctSlots, AreBelow, Agree, Linked}
use Rattle.djq_arena.proofs.Chains.{linked_same, below_more}
use Rattle.djq_hypergraph.specs.Hypergraph.{member}
use Rattle.djq_forest.specs.declared.ties.Tie.{Tie}
use Rattle.djq_forest.specs.TieLists.{is_in_list, retied, with_ties, with_lists, list_at}
use Rattle.djq_forest.specs.Ties.{no_tie, tie_in, head_in, tos, pairs, lists_in, to_set, AreTiedTo, IsTieList, AreLinked}
use Rattle.djq_forest.specs.Ties.{TiesAreSound}
use Rattle.djq_forest.proofs.Links.{length-tos, tos_at, pairs_at, lists_are, tied_out}
use Rattle.djq_forest.proofs.TieChanges.{value, seen, seen_same, length-lists, member_not}

-- ---- a slot is tied to another one

pairs_kept : (ts : List Tie) (x y : ℕ) → pairs (to_set x y ts) ≡ pairs ts
unfolding pairs
pairs_kept [] x y = refl
pairs_kept (t ∷ ts) zero y = refl
pairs_kept (t ∷ ts) (suc x) y = ap (λ (ps : List Pair). t.beside ∷ ps) (pairs_kept ts x y)

tos_moved : (ts : List Tie) (x y : ℕ) → tos (to_set x y ts) ≡ slice_set (tos ts) x y
unfolding tos
tos_moved ts x y = map-set (λ (t : Tie). t.to) ts x (record { to = y; beside = (tie_in ts x).beside })

tied_still : (ts : List Tie) (x y z : ℕ) (zs : List ℕ) → IsOut x zs → AreTiedTo ts z zs → AreTiedTo (to_set x y ts) z zs
unfolding IsOut AreTiedTo
tied_still ts x y z [] out h = tt
tied_still ts x y z (w ∷ zs) out h = (
  ap (λ (t : Tie). t.to) (get_or-set_other ts x w (record { to = y; beside = (tie_in ts x).beside }) no_tie out.0) ∙ h.0,
  tied_still ts x y z zs out.1 h.1,
)

-- it is in none of the lists
free_of_lists : (ts : List Tie) (heads : List (Option ℕ)) (x z : ℕ) → TiesAreSound ts heads
    → is_in_list (value ts heads) x ≡ false → z < length heads → IsOut x (slice_index_or (lists_in ts heads) z [])
free_of_lists ts heads x z s out inside =
    elim (cases_eq (tie_in ts x).to z) [
      | inl here ↦ member_not x _
          (subst (λ (i : ℕ). member x (list_at (value ts heads) i) ≡ false) (tos_at ts x ∙ here) out)
      | inr other ↦ tied_out ts z x (slice_index_or (lists_in ts heads) z []) (s.linked.each z inside).tied other
    ]

retied_list : (ts : List Tie) (x y z : ℕ) (head : Option ℕ) (zs : List ℕ) → IsOut x zs → IsTieList ts z head zs
    → IsTieList (to_set x y ts) z head zs
retied_list ts x y z head zs out h = record {
  first = h.first;
  linked = rw pairs_kept h.linked;
  once = h.once;
  below = rw length-set h.below;
  tied = tied_still ts x y z zs out h.tied;
}

retied_linked : (ts : List Tie) (heads : List (Option ℕ)) (x y : ℕ) → TiesAreSound ts heads
    → is_in_list (value ts heads) x ≡ false → AreLinked (to_set x y ts) heads (lists_in ts heads)
retied_linked ts heads x y s out = record {
  long = s.linked.long;
  each = λ z inside. retied_list ts x y z (head_in heads z) (slice_index_or (lists_in ts heads) z [])
      (free_of_lists ts heads x z s out inside) (s.linked.each z inside);
}

pub retied_sound : (ts us : List Tie) (heads : List (Option ℕ)) (x y : ℕ) → TiesAreSound ts heads
    → is_in_list (value ts heads) x ≡ false → us ≡ to_set x y ts → TiesAreSound us heads
retied_sound ts us heads x y s out is = rw is
    (seen (to_set x y ts) heads (lists_in ts heads) (retied_linked ts heads x y s out) (rw length-set s.few))

pub retied_seen : (ts us : List Tie) (heads : List (Option ℕ)) (x y : ℕ) → TiesAreSound ts heads
    → is_in_list (value ts heads) x ≡ false → us ≡ to_set x y ts → value us heads ≡ retied (value ts heads) x y
retied_seen ts us heads x y s out is = rw is
    (seen_same (tos (to_set x y ts)) (slice_set (tos ts) x y) (lists_in (to_set x y ts) heads) (lists_in ts heads)
    (tos_moved ts x y) (lists_are (to_set x y ts) heads (lists_in ts heads) (retied_linked ts heads x y s out)))

-- ---- more slots on the big knot's side

pairs_more : (ts rs : List Tie) (xs : List ℕ) → AreBelow (length ts) xs → Agree (pairs ts) (pairs (ts ++ rs)) xs
unfolding AreBelow Agree
pairs_more ts rs [] b = tt
pairs_more ts rs (x ∷ xs) b = (
  pairs_at (ts ++ rs) x ∙ ap (λ (t : Tie). t.beside) (get_or_append_left ts rs no_tie x b.0) ∙ sym (pairs_at ts x),
  pairs_more ts rs xs b.1,
)

tied_with : (ts rs : List Tie) (y : ℕ) (xs : List ℕ) → AreBelow (length ts) xs → AreTiedTo ts y xs
    → AreTiedTo (ts ++ rs) y xs
unfolding AreBelow AreTiedTo
tied_with ts rs y [] b h = tt
tied_with ts rs y (x ∷ xs) b h =
    (ap (λ (t : Tie). t.to) (get_or_append_left ts rs no_tie x b.0) ∙ h.0, tied_with ts rs y xs b.1 h.1)

list_with : (ts rs : List Tie) (y : ℕ) (head : Option ℕ) (xs : List ℕ) → IsTieList ts y head xs
    → IsTieList (ts ++ rs) y head xs
list_with ts rs y head xs h = record {
  first = h.first;
  linked = linked_same (pairs ts) (pairs (ts ++ rs)) None xs None (pairs_more ts rs xs h.below) h.linked;
  once = h.once;
  below = below_more (length ts) (length (ts ++ rs)) xs (omega (arith, length-append ts rs)) h.below;
  tied = tied_with ts rs y xs h.below h.tied;
}

more_ties : (ts rs : List Tie) (heads : List (Option ℕ)) → TiesAreSound ts heads → AreLinked (ts ++ rs) heads (lists_in ts heads)
more_ties ts rs heads s = record {
  long = s.linked.long;
  each = λ y inside. list_with ts rs y (head_in heads y) (slice_index_or (lists_in ts heads) y []) (s.linked.each y inside);
}

tos_more : (ts : List Tie) (n : ℕ) → tos (ts ++ replicate n no_tie) ≡ tos ts ++ replicate n 0
unfolding tos
tos_more ts n = map-append (λ (t : Tie). t.to) ts (replicate n no_tie)
    ∙ ap (λ (ns : List ℕ). map (λ (t : Tie). t.to) ts ++ ns) (map-replicate n)
  where
    map-replicate : (n : ℕ) → map (λ (t : Tie). t.to) (replicate n no_tie) ≡ replicate n 0
    map-replicate zero = refl
    map-replicate (suc n) = ap (λ (ns : List ℕ). 0 ∷ ns) (map-replicate n)

pub more_ties_sound : (ts us : List Tie) (heads : List (Option ℕ)) (n : ℕ) → TiesAreSound ts heads → n ≤ SLOTS
    → us ≡ ts ++ replicate (n - length ts) no_tie → TiesAreSound us heads
more_ties_sound ts us heads n s few is = rw is
    (seen (ts ++ replicate (n - length ts) no_tie) heads (lists_in ts heads)
    (more_ties ts (replicate (n - length ts) no_tie) heads s)
    (omega (arith, few, s.few, length-append ts (replicate (n - length ts) no_tie), length-replicate (n - length ts) no_tie)))

pub more_ties_seen : (ts us : List Tie) (heads : List (Option ℕ)) (n : ℕ) → TiesAreSound ts heads
    → us ≡ ts ++ replicate (n - length ts) no_tie → value us heads ≡ with_ties (value ts heads) n
more_ties_seen ts us heads n s is = rw (is, length-tos)
    (seen_same (tos (ts ++ replicate (n - length ts) no_tie)) (tos ts ++ replicate (n - length ts) 0)
    (lists_in (ts ++ replicate (n - length ts) no_tie) heads) (lists_in ts heads)
    (tos_more ts (n - length ts))
    (lists_are (ts ++ replicate (n - length ts) no_tie) heads (lists_in ts heads)
    (more_ties ts (replicate (n - length ts) no_tie) heads s)))

-- ---- more slots on the small knot's side

empty_list : (ts : List Tie) (y : ℕ) → IsTieList ts y None []
unfolding Linked AreDistinctSlots AreBelow AreTiedTo
empty_list ts y = record { first = refl; linked = tt; once = tt; below = tt; tied = tt }

more_lists : (ts : List Tie) (heads : List (Option ℕ)) (lists : List (List ℕ)) (n : ℕ) → AreLinked ts heads lists
    → AreLinked ts (heads ++ replicate n None) (lists ++ replicate n [])
more_lists ts heads lists n h = record {
  long = omega (
    arith,
    h.long,
    length-append lists (replicate n []),
    length-append heads (replicate n None),
    length-replicate n (the_list),
    length-replicate n (the_head),
  );
  each = λ y inside. elim (cases_lt y (length heads)) [
    | inl old ↦ rw (
      get_or_append_left heads (replicate n None) None y old,
      get_or_append_left lists (replicate n []) [] y (omega (arith, old, h.long)),
    ) (h.each y old)
    | inr new ↦
        let here : y - length heads < n = omega (arith, inside, new, length-append heads (replicate n None), length-replicate n the_head) in
        rw (
          get_or-append_right heads (replicate n None) (length heads) y None refl new,
          get_or-append_right lists (replicate n []) (length heads) y [] h.long new,
          get_or-replicate n (y - length heads) the_head None here,
          get_or-replicate n (y - length heads) the_list [] here,
        )
        (empty_list ts y)
  ];
}
  where
    the_list : List ℕ
    the_list = []

    the_head : Option ℕ
    the_head = None

pub more_lists_sound : (ts : List Tie) (heads more : List (Option ℕ)) (n : ℕ) → TiesAreSound ts heads
    → more ≡ heads ++ replicate (n - length heads) None → TiesAreSound ts more
more_lists_sound ts heads more n s is = rw is
    (seen ts (heads ++ replicate (n - length heads) None) (lists_in ts heads ++ replicate (n - length heads) [])
    (more_lists ts heads (lists_in ts heads) (n - length heads) s.linked) s.few)

pub more_lists_seen : (ts : List Tie) (heads more : List (Option ℕ)) (n : ℕ) → TiesAreSound ts heads
    → more ≡ heads ++ replicate (n - length heads) None → value ts more ≡ with_lists (value ts heads) n
more_lists_seen ts heads more n s is = rw (is, length-lists)
    (seen_same (tos ts) (tos ts) (lists_in ts (heads ++ replicate (n - length heads) None))
    (lists_in ts heads ++ replicate (n - length heads) []) refl
    (lists_are ts (heads ++ replicate (n - length heads) None) (lists_in ts heads ++ replicate (n - length heads) [])
    (more_lists ts heads (lists_in ts heads) (n - length heads) s.linked)))

-- ---- no slots

pub none_sound : TiesAreSound [] []
none_sound = seen [] [] [] (record { long = refl; each = λ y h. absurd (omega arith) }) (omega arith)

pub none_seen : value [] [] ≡ record { ties = []; lists = [] }
unfolding tos lists_in
none_seen = refl

-- ---- nothing changed

pub same_ties_seen : (ts us : List Tie) (heads : List (Option ℕ)) → us ≡ ts → value us heads ≡ value ts heads
same_ties_seen ts us heads h = ap (λ (vs : List Tie). value vs heads) h

pub same_heads_seen : (ts : List Tie) (heads more : List (Option ℕ)) → more ≡ heads → value ts more ≡ value ts heads
same_heads_seen ts heads more h = ap (λ (hs : List (Option ℕ)). value ts hs) h
