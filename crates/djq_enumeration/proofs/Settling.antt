-- The lines of a log while they are settled in place: which of sorted lines remain, one after another.
use Rattle.std.proofs.Common.{arith, ◌≡◌, ◌<◌, ◌≤◌, ◌+◌, ◌∙◌, ap, sym, subst, length, take, drop, Bool, true, false, List, [], ◌∷◌, ◌++◌, ℕ, ◌⊎◌, inl, inr}
use Rattle.std.specs.List.{All, AllPairs, SwappedAt}
use Rattle.std.specs.List.Sorted.{IsSortedByKey}
use Rattle.std.specs.Ordering.{nat_cmp, is_lt}
use Rattle.std.specs.Cmp.Lexicographic.{slice_cmp}
use Rattle.std.proofs.lemmas.Cmp.{nat_list_cmp_total}
use Rattle.std.proofs.lemmas.List.{drop-set-lt, take_more, take_more_set, take-set-le, set-set, get_or-drop, get_or-map, length-map, map-append, take-append-drop}
use Rattle.std.proofs.lemmas.Bool.{cases_lt}
use Rattle.std.proofs.lemmas.List.Elements.{All-map}
use Rattle.std.proofs.lemmas.List.Sorted.{sorted_far, ranks_by}
use Rattle.std.proofs.Math.ListN.{get_or, set}
use Rattle.djq_delta.specs.Lines.{SignedLine, AreDistinctLines, HaveOneSign, SettlesTo}
use Rattle.djq_delta.proofs.Net.{settled_of_one_sign}
use Rattle.djq_delta.proofs.Alone.{pairs_before, IsUpTo, IsSettledSoFar, both_go, stays, stays_after}
use Rattle.djq_enumeration.specs.declared.log.Line.{Line}
use Rattle.djq_enumeration.specs.Log.{signed_line, signed_lines}

swapped : (now new : List Line) (r at : ℕ) (p : Line) → p ≡ get_or now at p → SwappedAt now new r at
    → new ≡ set (set now r p) at (get_or now r p)
swapped now new r at p read moved = moved.3 p ∙ ap (λ (q : Line). set (set now r q) at (get_or now r p)) (sym read)

-- The line at hand changes places with the one after those that remain: it is the last of these.
pub swapped_front : (now new : List Line) (r at : ℕ) (p : Line) → r ≤ at → at < length now → p ≡ get_or now at p
    → SwappedAt now new r at → take (r + 1) new ≡ take r now ++ p ∷ []
swapped_front now new r at p below within read moved = elim (cases_lt r at) [
  | inl less ↦
      ap (take (r + 1)) (swapped now new r at p read moved) ∙ take-set-le (r + 1) (set now r p) at (get_or now r p) (omega arith)
      ∙ take_more_set now r p (omega arith)
  | inr least ↦
      let same : r ≡ at = omega arith in
      let back : get_or now r p ≡ p = ap (λ i. get_or now i p) same ∙ sym read in
      ap (take (r + 1)) (swapped now new r at p read moved ∙ ap (λ (i : ℕ). set (set now r p) i (get_or now r p)) (sym same)
      ∙ set-set now r p (get_or now r p) ∙ ap (set now r) back)
      ∙ take_more_set now r p (omega arith)
]

-- the lines after it are as they were
pub swapped_rest : (now new : List Line) (r at : ℕ) (p : Line) → r ≤ at → at < length now
    → SwappedAt now new r at → drop (at + 1) new ≡ drop (at + 1) now
swapped_rest now new r at p below within moved =
    ap (drop (at + 1)) (moved.3 p) ∙ drop-set-lt (at + 1) (set now r (get_or now at p)) at (get_or now r p) (omega arith)
    ∙ drop-set-lt (at + 1) now r (get_or now at p) (omega arith)

lines_more : (ps : List Line) (i : ℕ) (p : Line) → i < length ps → p ≡ get_or ps i p
    → signed_lines (take (i + 1) ps) ≡ signed_lines (take i ps) ++ signed_line p ∷ []
lines_more ps i p within read =
    ap signed_lines (take_more ps i p within ∙ ap (λ (q : Line). take i ps ++ q ∷ []) (sym read)) ∙ map-append signed_line (take i ps) (p ∷ [])

-- what holds of each pair of lines holds of each pair of the first of them
first_pairs : (R : SignedLine → SignedLine → Type 0) (ps : List Line) (n : ℕ) → AllPairs R (signed_lines ps)
    → AllPairs R (signed_lines (take n ps))
first_pairs R ps n h = pairs_before R (signed_lines (take n ps)) (signed_lines (drop n ps))
    (subst (AllPairs R) (ap signed_lines (sym (take-append-drop n ps)) ∙ map-append signed_line (take n ps) (drop n ps)) h)

-- Lines that are sorted by answer ascend.
ascend : (ps : List Line) → IsSortedByKey (λ l. l.answer) (slice_cmp nat_cmp) ps → AllPairs IsUpTo (signed_lines ps)
ascend ps up i j d below within =
    let key = λ (p : Line). p.answer in
    let none : Line = record { came = true; answer = [] } in
    let last : j < length ps = omega (arith, length-map ps signed_line) in
    let first : i < length ps = omega arith in
    let far : is_lt (slice_cmp nat_cmp (key (get_or ps j none)) (key (get_or ps i none))) ≡ false =
    sorted_far (λ (p q : Line). is_lt (slice_cmp nat_cmp (key p) (key q))) (ranks_by nat_list_cmp_total key) ps up i j none (omega arith) last in
    subst (λ (l : SignedLine). IsUpTo (get_or (signed_lines ps) i d) l) (sym (get_or-map signed_line ps j none d last))
    (subst (λ (k : SignedLine). IsUpTo k (signed_line (get_or ps j none))) (sym (get_or-map signed_line ps i none d first)) far)

-- a line that is as it stood
read_before : (old now : List Line) (at : ℕ) (p : Line) → drop at now ≡ drop at old → p ≡ get_or now at p → p ≡ get_or old at p
read_before old now at p same read =
    let shift : at + 0 ≡ at = omega arith in
    let on : get_or (drop at now) 0 p ≡ get_or now at p = get_or-drop at now 0 p ∙ ap (λ i. get_or now i p) shift in
    let before : get_or (drop at old) 0 p ≡ get_or old at p = get_or-drop at old 0 p ∙ ap (λ i. get_or old i p) shift in
    read ∙ sym on ∙ ap (λ (ps : List Line). get_or ps 0 p) same ∙ before

-- The lines before a loop over them, the lines now, and the one at hand.
pub record AtHand (old now : List Line) (at : ℕ) (p : Line) : Type 0 where
  pub distinct : AreDistinctLines (signed_lines old)
  pub up : IsSortedByKey (λ l. l.answer) (slice_cmp nat_cmp) old
  pub within : at < length old
  pub rest : drop at now ≡ drop at old
  pub read : p ≡ get_or now at p

module _ {old now : List Line} {at : ℕ} {p : Line} (h : AtHand old now at p) where
  more : signed_lines (take (at + 1) old) ≡ signed_lines (take at old) ++ signed_line p ∷ []
  more = lines_more old at p h.within (read_before old now at p h.rest h.read)

  distinct_more : AreDistinctLines (signed_lines (take at old) ++ signed_line p ∷ [])
  distinct_more = subst AreDistinctLines more (first_pairs (λ k l. k ≡ l → ⊥) old (at + 1) h.distinct)

  ascend_more : AllPairs IsUpTo (signed_lines (take at old) ++ signed_line p ∷ [])
  ascend_more = subst (AllPairs IsUpTo) more (first_pairs IsUpTo old (at + 1) (ascend old h.up))

  -- It is of the answer of the last that remains: both go.
  pub both_are_dropped : (r : ℕ) (last : Line) → r < length now → last ≡ get_or now r last → last.answer ≡ p.answer
      → IsSettledSoFar (signed_lines (take at old)) (signed_lines (take (r + 1) now))
      → IsSettledSoFar (signed_lines (take (at + 1) old)) (signed_lines (take r now))
  both_are_dropped r last below top alike so_far =
      subst (λ (ls : List SignedLine). IsSettledSoFar ls (signed_lines (take r now))) (sym more)
      (both_go (signed_lines (take at old)) (signed_lines (take r now)) (signed_line last) (signed_line p) distinct_more
      (subst (λ (ls : List SignedLine). IsSettledSoFar (signed_lines (take at old)) ls) (lines_more now r last below top) so_far) alike)

  -- it is the last of those that remain
  put_last : (new : List Line) (r : ℕ) → take (r + 1) new ≡ take r now ++ p ∷ []
      → IsSettledSoFar (signed_lines (take at old) ++ signed_line p ∷ []) (signed_lines (take r now) ++ signed_line p ∷ [])
      → IsSettledSoFar (signed_lines (take (at + 1) old)) (signed_lines (take (r + 1) new))
  put_last new r front so_far =
      subst (λ (ls : List SignedLine). IsSettledSoFar ls (signed_lines (take (r + 1) new))) (sym more)
      (subst (λ (ls : List SignedLine). IsSettledSoFar (signed_lines (take at old) ++ signed_line p ∷ []) ls)
      (sym (ap signed_lines front ∙ map-append signed_line (take r now) (p ∷ []))) so_far)

  -- if no line remains, it does
  pub only_one_stays : (new : List Line) → take (0 + 1) new ≡ take 0 now ++ p ∷ []
      → IsSettledSoFar (signed_lines (take at old)) (signed_lines (take 0 now))
      → IsSettledSoFar (signed_lines (take (at + 1) old)) (signed_lines (take (0 + 1) new))
  only_one_stays new front so_far = put_last new 0 front
      (stays (signed_lines (take at old)) (signed_lines (take 0 now)) (signed_line p) distinct_more ascend_more so_far
      (λ l c e. absurd (omega (arith, c.1))))

  -- it is of another answer than the last that remains
  pub one_more_stays : (new : List Line) (r : ℕ) (last : Line) → r < length now → last ≡ get_or now r last → (last.answer ≡ p.answer → ⊥)
      → take (r + 1 + 1) new ≡ take (r + 1) now ++ p ∷ []
      → IsSettledSoFar (signed_lines (take at old)) (signed_lines (take (r + 1) now))
      → IsSettledSoFar (signed_lines (take (at + 1) old)) (signed_lines (take (r + 1 + 1) new))
  one_more_stays new r last below top other front so_far =
      let before = lines_more now r last below top in
      put_last new (r + 1) front
      (subst (λ (ls : List SignedLine). IsSettledSoFar (signed_lines (take at old) ++ signed_line p ∷ []) (ls ++ signed_line p ∷ [])) (sym before)
      (stays_after (signed_lines (take at old)) (signed_lines (take r now)) (signed_line last) (signed_line p) distinct_more ascend_more
      (subst (λ (ls : List SignedLine). IsSettledSoFar (signed_lines (take at old)) ls) before so_far) other))

signs_of : (came : Bool) (ps : List Line) → All (λ l. l.came ≡ came) (signed_lines ps) → All (λ l. l.came ≡ came) ps
signs_of came ps all i d within =
    ap (λ (l : SignedLine). l.came) (sym (get_or-map signed_line ps i d (signed_line d) within))
    ∙ all i (signed_line d) (omega (arith, length-map ps signed_line))

-- the signs of lines are those of their reading
pub one_way_of : (ps : List Line) → HaveOneSign (signed_lines ps) → All (λ l. l.came ≡ true) ps ⊎ All (λ l. l.came ≡ false) ps
one_way_of ps (inl all) = inl (signs_of true ps all)
one_way_of ps (inr all) = inr (signs_of false ps all)

-- lines of one sign are settled as they stand
pub one_way_settled : (ps : List Line) → AreDistinctLines (signed_lines ps) → All (λ l. l.came ≡ true) ps ⊎ All (λ l. l.came ≡ false) ps
    → SettlesTo (signed_lines ps) (signed_lines ps)
one_way_settled ps distinct (inl all) =
    settled_of_one_sign true (signed_lines ps) (All-map (λ (l : SignedLine). l.came ≡ true) signed_line ps all) distinct
one_way_settled ps distinct (inr all) =
    settled_of_one_sign false (signed_lines ps) (All-map (λ (l : SignedLine). l.came ≡ false) signed_line ps all) distinct
