-- Lines as they are packed: how one is put in, and which places remain of sorted ones, one after another.
use Rattle.std.proofs.Common.{arith, ◌≡◌, ◌<◌, ◌≤◌, ◌+◌, ◌∙◌, ap, sym, refl, subst, length, zero, suc, take, drop, Bool, true, false, List, [], ◌∷◌, ◌++◌, ℕ}
use Rattle.std.specs.List.{All, AllPairs}
use Rattle.std.specs.List.Sorted.{IsSortedByKey}
use Rattle.std.specs.Ordering.{nat_cmp, is_lt}
use Rattle.std.specs.Cmp.Lexicographic.{slice_cmp}
use Rattle.std.proofs.lemmas.Cmp.{nat_list_cmp_total}
use Rattle.std.proofs.lemmas.Grind.{drop_more_same}
use Rattle.std.proofs.lemmas.List.{drop-set-lt, take_more, take_more_set, get_or-drop, get_or-map, length-map, map-append, take-append-drop, length-take, length-drop, drop-append-le, take-append-le, take_all}
use Rattle.std.proofs.lemmas.List.Elements.{All-tail, All-push, All-map, All-contains, Contains-get_or}
use Rattle.std.proofs.Math.Seq.{drop-append_seam}
use Rattle.std.proofs.lemmas.List.Sorted.{sorted_far, ranks_by}
use Rattle.std.proofs.Math.ListN.{get_or, set}
use Rattle.djq_delta.specs.declared.place.Place.{Place}
use Rattle.djq_delta.specs.Lines.{SignedLine, AreDistinctLines, SettlesTo}
use Rattle.djq_delta.specs.Delta.{placed_line, placed_lines}
use Rattle.djq_delta.proofs.Alone.{signed, pairs_before, IsUpTo, IsSettledSoFar, both_go, stays, stays_after}

abbrev pub place_at : ℕ → Bool → Place
place_at at came = record { at = at; came = came }

-- A write before a place leaves what comes after it as it was.
pub rest_after_set : (old now : List Place) (at remaining : ℕ) (p : Place) → remaining ≤ at → drop at now ≡ drop at old
    → drop (at + 1) (set now remaining p) ≡ drop (at + 1) old
rest_after_set old now at remaining p below same = drop-set-lt (at + 1) now remaining p (omega arith) ∙ drop_more_same now old at same

module _ (width : ℕ) (cells : List ℕ) where
  line : Place → SignedLine
  line = placed_line width cells

  -- with one more place
  lines_push : (ps : List Place) (p : Place) → placed_lines width cells (ps ++ p ∷ []) ≡ placed_lines width cells ps ++ placed_line width cells p ∷ []
  lines_push ps p = map-append (placed_line width cells) ps (p ∷ [])

  lines_more : (ps : List Place) (i : ℕ) (p : Place) → i < length ps → p ≡ get_or ps i p
      → placed_lines width cells (take (i + 1) ps) ≡ placed_lines width cells (take i ps) ++ placed_line width cells p ∷ []
  lines_more ps i p within read =
      ap (placed_lines width cells) (take_more ps i p within ∙ ap (λ (q : Place). take i ps ++ q ∷ []) (sym read)) ∙ lines_push (take i ps) p

  -- what holds of each pair of lines holds of each pair of the first of them
  first_pairs : (R : SignedLine → SignedLine → Type 0) (ps : List Place) (n : ℕ) → AllPairs R (placed_lines width cells ps)
      → AllPairs R (placed_lines width cells (take n ps))
  first_pairs R ps n h = pairs_before R (placed_lines width cells (take n ps)) (placed_lines width cells (drop n ps))
      (subst (AllPairs R) (ap (placed_lines width cells) (sym (take-append-drop n ps)) ∙ map-append (placed_line width cells) (take n ps) (drop n ps)) h)

  -- Sorted places have lines that ascend.
  ascend : (ps : List Place) → IsSortedByKey (λ p. (placed_line width cells p).cells) (slice_cmp nat_cmp) ps → AllPairs IsUpTo (placed_lines width cells ps)
  ascend ps up i j d below within =
      let key = λ (p : Place). (placed_line width cells p).cells in
      let none : Place = record { at = 0; came = true } in
      let last : j < length ps = omega (arith, length-map ps (placed_line width cells)) in
      let first : i < length ps = omega arith in
      let far : is_lt (slice_cmp nat_cmp (key (get_or ps j none)) (key (get_or ps i none))) ≡ false =
      sorted_far (λ (p q : Place). is_lt (slice_cmp nat_cmp (key p) (key q))) (ranks_by nat_list_cmp_total key) ps up i j none (omega arith) last in
      subst (λ (l : SignedLine). IsUpTo (get_or (placed_lines width cells ps) i d) l) (sym (get_or-map (placed_line width cells) ps j none d last))
      (subst (λ (k : SignedLine). IsUpTo k (placed_line width cells (get_or ps j none))) (sym (get_or-map (placed_line width cells) ps i none d first)) far)

  -- a place that is as it stood
  read_before : (old now : List Place) (at : ℕ) (p : Place) → drop at now ≡ drop at old → p ≡ get_or now at p → p ≡ get_or old at p
  read_before old now at p same read =
      let shift : at + 0 ≡ at = omega arith in
      let on : get_or (drop at now) 0 p ≡ get_or now at p = get_or-drop at now 0 p ∙ ap (λ i. get_or now i p) shift in
      let before : get_or (drop at old) 0 p ≡ get_or old at p = get_or-drop at old 0 p ∙ ap (λ i. get_or old i p) shift in
      read ∙ sym on ∙ ap (λ (ps : List Place). get_or ps 0 p) same ∙ before

  -- The place at hand has the answer of the last that remains: both go.
  pub both_dropped : (old now : List Place) (at remaining : ℕ) (p last : Place) → AreDistinctLines (placed_lines width cells old)
      → at < length old → drop at now ≡ drop at old → p ≡ get_or now at p → remaining < length now → last ≡ get_or now remaining last
      → (placed_line width cells last).cells ≡ (placed_line width cells p).cells
      → IsSettledSoFar (placed_lines width cells (take at old)) (placed_lines width cells (take (remaining + 1) now))
      → IsSettledSoFar (placed_lines width cells (take (at + 1) old)) (placed_lines width cells (take remaining now))
  both_dropped old now at remaining p last distinct within same read below top alike h =
      let more = lines_more old at p within (read_before old now at p same read) in
      subst (λ (ls : List SignedLine). IsSettledSoFar ls (placed_lines width cells (take remaining now))) (sym more)
      (both_go (placed_lines width cells (take at old)) (placed_lines width cells (take remaining now)) (placed_line width cells last) (placed_line width cells p)
      (subst AreDistinctLines more (first_pairs (λ k l. k ≡ l → ⊥) old (at + 1) distinct))
      (subst (λ (ls : List SignedLine). IsSettledSoFar (placed_lines width cells (take at old)) ls) (lines_more now remaining last below top) h) alike)

  -- if no place remains, the one at hand does
  pub first_stays : (old now : List Place) (at : ℕ) (p : Place) → AreDistinctLines (placed_lines width cells old)
      → IsSortedByKey (λ p. (placed_line width cells p).cells) (slice_cmp nat_cmp) old
      → at < length old → drop at now ≡ drop at old → p ≡ get_or now at p → 0 < length now
      → IsSettledSoFar (placed_lines width cells (take at old)) (placed_lines width cells (take 0 now))
      → IsSettledSoFar (placed_lines width cells (take (at + 1) old)) (placed_lines width cells (take (0 + 1) (set now 0 p)))
  first_stays old now at p distinct up within same read below h =
      let more = lines_more old at p within (read_before old now at p same read) in
      let left = ap (placed_lines width cells) (take_more_set now 0 p below) ∙ lines_push (take 0 now) p in
      subst (λ (ls : List SignedLine). IsSettledSoFar ls (placed_lines width cells (take (0 + 1) (set now 0 p)))) (sym more)
      (subst (λ (ls : List SignedLine). IsSettledSoFar (placed_lines width cells (take at old) ++ placed_line width cells p ∷ []) ls) (sym left)
      (stays (placed_lines width cells (take at old)) (placed_lines width cells (take 0 now)) (placed_line width cells p)
      (subst AreDistinctLines more (first_pairs (λ k l. k ≡ l → ⊥) old (at + 1) distinct))
      (subst (AllPairs IsUpTo) more (first_pairs IsUpTo old (at + 1) (ascend old up))) h
      (λ l c e. absurd (omega (arith, c.1)))))

  -- the place at hand has another answer than the last that remains
  pub one_stays : (old now : List Place) (at remaining : ℕ) (p last : Place) → AreDistinctLines (placed_lines width cells old)
      → IsSortedByKey (λ p. (placed_line width cells p).cells) (slice_cmp nat_cmp) old
      → at < length old → drop at now ≡ drop at old → p ≡ get_or now at p → remaining + 1 < length now → last ≡ get_or now remaining last
      → ((placed_line width cells last).cells ≡ (placed_line width cells p).cells → ⊥)
      → IsSettledSoFar (placed_lines width cells (take at old)) (placed_lines width cells (take (remaining + 1) now))
      → IsSettledSoFar (placed_lines width cells (take (at + 1) old)) (placed_lines width cells (take (remaining + 1 + 1) (set now (remaining + 1) p)))
  one_stays old now at remaining p last distinct up within same read below top other h =
      let more = lines_more old at p within (read_before old now at p same read) in
      let before = lines_more now remaining last (omega arith) top in
      let left = ap (placed_lines width cells) (take_more_set now (remaining + 1) p below) ∙ lines_push (take (remaining + 1) now) p
      ∙ ap (λ (ls : List SignedLine). ls ++ placed_line width cells p ∷ []) before in
      subst (λ (ls : List SignedLine). IsSettledSoFar ls (placed_lines width cells (take (remaining + 1 + 1) (set now (remaining + 1) p)))) (sym more)
      (subst (λ (ls : List SignedLine). IsSettledSoFar (placed_lines width cells (take at old) ++ placed_line width cells p ∷ []) ls) (sym left)
      (stays_after (placed_lines width cells (take at old)) (placed_lines width cells (take remaining now)) (placed_line width cells last) (placed_line width cells p)
      (subst AreDistinctLines more (first_pairs (λ k l. k ≡ l → ⊥) old (at + 1) distinct))
      (subst (AllPairs IsUpTo) more (first_pairs IsUpTo old (at + 1) (ascend old up)))
      (subst (λ (ls : List SignedLine). IsSettledSoFar (placed_lines width cells (take at old)) ls) before h) other))

  -- cells that are there don't change if others follow
  cells_unmoved : (cells more : List ℕ) (at w : ℕ) → length (take w (drop at cells)) ≡ w → take w (drop at (cells ++ more)) ≡ take w (drop at cells)
  cells_unmoved cells more at zero e = refl
  cells_unmoved cells more at (suc v) e =
      let room : suc v ≤ length (drop at cells) = omega (arith, length-take (suc v) (drop at cells)) in
      let within : at ≤ length cells = omega (arith, length-drop at cells) in
      ap (take (suc v)) (drop-append-le at cells more within) ∙ take-append-le (suc v) (drop at cells) more room

  lines_unmoved : (more : List ℕ) (ps : List Place) → All (λ l. length l.cells ≡ width) (placed_lines width cells ps)
      → placed_lines width (cells ++ more) ps ≡ placed_lines width cells ps
  lines_unmoved more [] all = refl
  lines_unmoved more (p ∷ ps) all =
      let at_head : placed_line width (cells ++ more) p ≡ placed_line width cells p =
      ap (λ (s : List ℕ). signed p.came s) (cells_unmoved cells more p.at width (all 0 (placed_line width cells p) (omega arith))) in
      let tail = lines_unmoved more ps (All-tail (λ (l : SignedLine). length l.cells ≡ width) (placed_line width cells p) (placed_lines width cells ps) all) in
      ap (λ (l : SignedLine). l ∷ placed_lines width (cells ++ more) ps) at_head ∙ ap (λ (ls : List SignedLine). placed_line width cells p ∷ ls) tail

  -- A line is packed: its cells after the others, and its place.
  pub packed_more : (more : List ℕ) (ps : List Place) (came : Bool) → All (λ l. length l.cells ≡ width) (placed_lines width cells ps)
      → length more ≡ width
      → placed_lines width (cells ++ more) (ps ++ place_at (length cells) came ∷ []) ≡ placed_lines width cells ps ++ record { came = came; cells = more } ∷ []
  packed_more more ps came all long =
      let here : take width (drop (length cells) (cells ++ more)) ≡ more =
      ap (take width) (drop-append_seam cells more) ∙ take_all width more (omega arith) in
      map-append (placed_line width (cells ++ more)) ps (place_at (length cells) came ∷ [])
      ∙ ap (λ (ls : List SignedLine). ls ++ signed came (take width (drop (length cells) (cells ++ more))) ∷ []) (lines_unmoved more ps all)
      ∙ ap (λ (s : List ℕ). placed_lines width cells ps ++ signed came s ∷ []) here

  -- each line has its width still
  pub packed_width : (more : List ℕ) (ps : List Place) (came : Bool) → All (λ l. length l.cells ≡ width) (placed_lines width cells ps)
      → length more ≡ width
      → All (λ l. length l.cells ≡ width) (placed_lines width (cells ++ more) (ps ++ place_at (length cells) came ∷ []))
  packed_width more ps came all long = subst (All (λ (l : SignedLine). length l.cells ≡ width)) (sym (packed_more more ps came all long))
      (All-push (λ (l : SignedLine). length l.cells ≡ width) (placed_lines width cells ps) (signed came more) all long)

  -- lines that were settled have their width
  pub settled_width : (ls ks : List SignedLine) → SettlesTo ls ks → All (λ l. length l.cells ≡ width) ls → All (λ l. length l.cells ≡ width) ks
  settled_width ls ks h all i d within = All-contains (λ (l : SignedLine). length l.cells ≡ width) ls (get_or ks i d) all (h.within _ (Contains-get_or ks i d within))

  -- the signs of lines are those of their places
  pub signs_of_lines : (came : Bool) (ps : List Place) → All (λ l. l.came ≡ came) (placed_lines width cells ps) → All (λ p. p.came ≡ came) ps
  signs_of_lines came ps all i d within =
      ap (λ (l : SignedLine). l.came) (sym (get_or-map (placed_line width cells) ps i d (placed_line width cells d) within))
      ∙ all i (placed_line width cells d) (omega (arith, length-map ps (placed_line width cells)))

  pub lines_of_signs : (came : Bool) (ps : List Place) → All (λ p. p.came ≡ came) ps → All (λ l. l.came ≡ came) (placed_lines width cells ps)
  lines_of_signs came ps all = All-map (λ (l : SignedLine). l.came ≡ came) (placed_line width cells) ps all
