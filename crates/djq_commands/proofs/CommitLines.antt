-- The lines of a commit: what entries and buffer mean as they grow, and which entry has a line.
use Rattle.std.proofs.Common.{ℕ, zero, suc, ◌+◌, ◌-◌, ◌<◌, ◌≤◌, ◌≡◌, ◌++◌, ◌⊎◌, ◌∙◌, ◌^◌, Bool, true, false, List, [], ◌∷◌}
use Rattle.std.proofs.Common.{length, take, drop, get_or, None, Some, refl, sym, ap, ap₂, subst, arith, inl, inr}
use Rattle.std.proofs.Common.{length-append, append-nil, take-take, take_all, take_at, nat_cmp, Ok, Err}
use Rattle.std.specs.Prelude.{slice_get, slice_range}
use Rattle.std.specs.List.Sorted.{IsBinarySearchResult}
use Rattle.std.proofs.lemmas.Bool.{cases_order, false≢true}
use Rattle.std.proofs.lemmas.List.{get_or_default, drop-take, drop_at, length-take-le}
use Rattle.std.proofs.lemmas.List.Concat.{flat_map-append}
use Rattle.std.proofs.lemmas.List.Sorted.{searched}
use Rattle.std.proofs.lemmas.Option.{slice_get_within, slice_get_read}
use Rattle.djq_model.specs.Data.{Bytes}
use Rattle.djq_protocol.specs.declared.limits.TheConstants.{LINE_BYTES}
use Rattle.djq_store_spec.specs.Held.{HeldTransaction, log_lines, done}
use Rattle.djq_commands.specs.declared.commit.Entry.{Entry}
use Rattle.djq_commands.specs.declared.commit.Entry.TheVariants.{Line, Batch}
use Rattle.djq_commands.specs.Logging.{entry_lines, lines_of_entries, entry_count, firsts_from, count_from, EndsAreWithin, CommitIsKept}
use Rattle.djq_commands.specs.Logging.{IsPlace}
use Rattle.djq_commands.specs.Sound.{IsBelowAll, Rises}

-- ---- What the buffer has.

-- a part of the buffer, by its first bytes
part_is : (bs : Bytes) (s e : ℕ) → s ≤ e → slice_range bs s e ≡ drop s (take e bs)
part_is bs s e le = sym (drop-take s (e - s) bs) ∙ ap (λ (n : ℕ). drop s (take n bs)) (omega (arith, le))

-- the first bytes say what lines there are
pub same_lines : (bs cs : Bytes) (n : ℕ) (es : List Entry) → take n bs ≡ take n cs → EndsAreWithin n es
    → lines_of_entries bs es ≡ lines_of_entries cs es
same_lines bs cs n [] e w = refl
same_lines bs cs n (Line start end ∷ es) e w =
    ap₂ (λ (l : Bytes) (ls : List Bytes). l ∷ ls)
    (part_is bs start end w.0 ∙ ap (drop start) (shorter bs ∙ ap (take end) e ∙ sym (shorter cs))
    ∙ sym (part_is cs start end w.0)) (same_lines bs cs n es e w.2)
  where
    shorter : (ds : Bytes) → take end ds ≡ take end (take n ds)
    shorter ds = sym (take-take end n ds w.1)
same_lines bs cs n (Batch held ∷ es) e w = ap (λ (ls : List Bytes). log_lines held ++ ls) (same_lines bs cs n es e w)

pub more_within : (n m : ℕ) (es : List Entry) → n ≤ m → EndsAreWithin n es → EndsAreWithin m es
more_within n m [] le w = tt
more_within n m (Line start end ∷ es) le w = (w.0, omega (arith, w.1, le), more_within n m es le w.2)
more_within n m (Batch held ∷ es) le w = more_within n m es le w

pub pushed_within : (n : ℕ) (es : List Entry) (e : Entry) → EndsAreWithin n es → EndsAreWithin n (e ∷ [])
    → EndsAreWithin n (es ++ e ∷ [])
pushed_within n [] e w v = v
pushed_within n (Line start end ∷ es) e w v = (w.0, w.1, pushed_within n es e w.2 v)
pushed_within n (Batch held ∷ es) e w v = pushed_within n es e w v

-- ---- How its entries are numbered.

pub pushed_firsts : (n : ℕ) (es : List Entry) (e : Entry) → firsts_from n (es ++ e ∷ [])
    ≡ firsts_from n es ++ count_from n es ∷ []
pushed_firsts n [] e = refl
pushed_firsts n (x ∷ es) e = ap (λ (ns : List ℕ). n ∷ ns) (pushed_firsts (n + entry_count x) es e)

pub pushed_count : (n : ℕ) (es : List Entry) (e : Entry) → count_from n (es ++ e ∷ []) ≡ count_from n es + entry_count e
pushed_count n [] e = refl
pushed_count n (x ∷ es) e = pushed_count (n + entry_count x) es e

pub firsts_length : (n : ℕ) (es : List Entry) → length (firsts_from n es) ≡ length es
firsts_length n [] = refl
firsts_length n (e ∷ es) = ap suc (firsts_length (n + entry_count e) es)

-- an entry has as many lines as it counts, and at least one
lines_counted : (bs : Bytes) (e : Entry) → length (entry_lines bs e) ≡ entry_count e
lines_counted bs (Line start end) = refl
lines_counted bs (Batch held) =
    omega (arith, length-append held.logged (done ∷ []))

counts_one : (e : Entry) → 0 < entry_count e
counts_one (Line start end) = omega arith
counts_one (Batch held) = omega arith

-- numbers rise
pub firsts_rise : (n : ℕ) (es : List Entry) → Rises (firsts_from n es)
firsts_rise n [] = tt
firsts_rise n (e ∷ es) = (above n (n + entry_count e) es (omega (arith, counts_one e)), firsts_rise (n + entry_count e) es)
  where
    above : (n m : ℕ) (es : List Entry) → n < m → IsBelowAll n (firsts_from m es)
    above n m [] l = tt
    above n m (x ∷ es) l = (l, above n (m + entry_count x) es (omega (arith, l)))

-- none is below the first
least_first : (n : ℕ) (es : List Entry) (at : ℕ) → at < length es → n ≤ get_or (firsts_from n es) at 0
least_first n [] at l = absurd (omega (arith, l))
least_first n (e ∷ es) zero l = omega arith
least_first n (e ∷ es) (suc at) l =
    omega (arith, least_first (n + entry_count e) es at (omega (arith, l)))

-- a commit without lines has no entries
pub none_logged : (bs : Bytes) (es : List Entry) → lines_of_entries bs es ≡ [] → es ≡ []
none_logged bs [] e = refl
none_logged bs (Line start end ∷ es) e = absurd (cc (e))
none_logged bs (Batch held ∷ es) e = absurd (cc (e))

-- ---- Which entry has a line.

get_left : {A : Type 0} (xs ys : List A) (i : ℕ) → i < length xs → slice_get (xs ++ ys) i ≡ slice_get xs i
get_left [] ys i l = absurd (omega (arith, l))
get_left (x ∷ xs) ys zero l = refl
get_left (x ∷ xs) ys (suc i) l = get_left xs ys i (omega (arith, l))

get_right : {A : Type 0} (xs ys : List A) (i j : ℕ) → i ≡ length xs + j → slice_get (xs ++ ys) i ≡ slice_get ys j
get_right [] ys i j e = ap (slice_get ys) (omega (arith, e))
get_right (x ∷ xs) ys zero j e = absurd (omega (arith, e))
get_right (x ∷ xs) ys (suc i) j e = get_right xs ys i j (omega (arith, e))

-- The line of a number is the one of its entry that stands as far behind the entry's first.
pub line_at : (bs : Bytes) (n : ℕ) (es : List Entry) (i at : ℕ) (e : Entry) → slice_get es at ≡ Some e
    → get_or (firsts_from n es) at 0 ≤ i
    → ((k : ℕ) → at < k → k < length es → i < get_or (firsts_from n es) k 0)
    → slice_get (lines_of_entries bs es) (i - n) ≡ slice_get (entry_lines bs e) (i - get_or (firsts_from n es) at 0)
line_at bs n [] i at e s le next = absurd (cc (s))
line_at bs n (x ∷ []) i zero e s le next =
    ap (λ (ls : List Bytes). slice_get ls (i - n)) (append-nil (entry_lines bs x))
    ∙ ap (λ (y : Entry). slice_get (entry_lines bs y) (i - n)) (cc (s))
line_at bs n (x ∷ (y ∷ es)) i zero e s le next =
    get_left (entry_lines bs x) (lines_of_entries bs (y ∷ es)) (i - n)
    (omega (arith, lines_counted bs x, next 1 (omega arith) (omega arith), le))
    ∙ ap (λ (z : Entry). slice_get (entry_lines bs z) (i - n)) (cc (s))
line_at bs n (x ∷ es) i (suc at) e s le next =
    let m = n + entry_count x in
    let within : at < length es = slice_get_within es at e s in
    let least = least_first m es at within in
    get_right (entry_lines bs x) (lines_of_entries bs es) (i - n) (i - m) (omega (arith, lines_counted bs x, least, le))
    ∙ line_at bs m es i at e s le (λ k l w. next (suc k) (omega (arith, l)) (omega (arith, w)))

-- the entry at a place, and the number of the line
pub some_at : (bs : Bytes) (es : List Entry) (i at first nth : ℕ) (e : Entry) → IsPlace (firsts_from 0 es) i at
    → at < length es → e ≡ get_or es at e → first ≡ get_or (firsts_from 0 es) at first → nth ≡ i - first
    → slice_get (entry_lines bs e) nth ≡ slice_get (lines_of_entries bs es) i
some_at bs es i at first nth e p l is f n =
    let many : at < length (firsts_from 0 es) = omega (arith, l, firsts_length 0 es) in
    let same : get_or (firsts_from 0 es) at 0 ≡ first = get_or_default (firsts_from 0 es) at 0 first many ∙ sym f in
    let here : get_or (firsts_from 0 es) at 0 ≤ i = p.here many (least es) in
    ap (slice_get (entry_lines bs e)) (n ∙ ap (λ (k : ℕ). i - k) (sym same))
    ∙ sym (line_at bs 0 es i at e (slice_get_read es (length es) at e refl l is) here
    (λ k lt m. p.next k lt (omega (arith, m, firsts_length 0 es))))
    ∙ ap (slice_get (lines_of_entries bs es)) (omega arith)
  where
    least : (xs : List Entry) → get_or (firsts_from 0 xs) 0 0 ≤ i
    least [] = omega arith
    least (x ∷ xs) = omega arith

-- without entries there is no line
pub none_at : (bs : Bytes) (es : List Entry) (i at : ℕ) → IsPlace (firsts_from 0 es) i at → (at < length es → ⊥)
    → None ≡ slice_get (lines_of_entries bs es) i
none_at bs [] i at p past = refl
none_at bs (e ∷ es) i at p past =
    absurd (past (omega (arith, p.within (omega arith), firsts_length 0 (e ∷ es))))

-- where that of a place is
pub first_below : (es : List Entry) (i at first : ℕ) → IsPlace (firsts_from 0 es) i at → at < length es
    → first ≡ get_or (firsts_from 0 es) at first → first ≤ i
first_below es i at first p l f =
    let many : at < length (firsts_from 0 es) = omega (arith, l, firsts_length 0 es) in
    let same : get_or (firsts_from 0 es) at 0 ≡ first = get_or_default (firsts_from 0 es) at 0 first many ∙ sym f in
    omega (arith, same, p.here many (least es))
  where
    least : (xs : List Entry) → get_or (firsts_from 0 xs) 0 0 ≤ i
    least [] = omega arith
    least (x ∷ xs) = omega arith

-- an entry stands within the buffer
pub one_within : (n m : ℕ) (es : List Entry) (at : ℕ) (e : Entry) → EndsAreWithin n es → n ≤ m → at < length es
    → e ≡ get_or es at e → EndsAreWithin m (e ∷ [])
one_within n m [] at e w le l is = absurd (omega (arith, l))
one_within n m (x ∷ es) zero e w le l is = subst (λ (y : Entry). EndsAreWithin m (y ∷ [])) (sym is) (first x w)
  where
    first : (x : Entry) → EndsAreWithin n (x ∷ es) → EndsAreWithin m (x ∷ [])
    first (Line start end) v = (v.0, omega (arith, v.1, le), tt)
    first (Batch held) v = tt
one_within n m (x ∷ es) (suc at) e w le l is = one_within n m es at e (rest x w) le (omega (arith, l)) is
  where
    rest : (x : Entry) → EndsAreWithin n (x ∷ es) → EndsAreWithin n es
    rest (Line start end) v = v.2
    rest (Batch held) v = v

-- ---- The place that a search tells.

pub rises_above : (xs : List ℕ) → Rises xs → (i j : ℕ) → i < j → j < length xs → get_or xs i 0 < get_or xs j 0
rises_above [] r i j lt l = absurd (omega (arith, l))
rises_above (x ∷ xs) r i zero lt l = absurd (omega (arith, lt))
rises_above (x ∷ xs) r zero (suc j) lt l = at xs j r.0 (omega (arith, l))
  where
    at : (ys : List ℕ) (k : ℕ) → IsBelowAll x ys → k < length ys → x < get_or ys k 0
    at [] k b m = absurd (omega (arith, m))
    at (y ∷ ys) zero b m = b.0
    at (y ∷ ys) (suc k) b m = at ys k b.1 (omega (arith, m))
rises_above (x ∷ xs) r (suc i) (suc j) lt l = rises_above xs r.1 i j (omega (arith, lt)) (omega (arith, l))

pub rises_up : (xs : List ℕ) → Rises xs → (i j : ℕ) → i ≤ j → j < length xs → get_or xs i 0 ≤ get_or xs j 0
rises_up xs r i j le l = by (cases_order i j)
  where
    by : (i ≡ j) ⊎ ((i < j) ⊎ (j < i)) → get_or xs i 0 ≤ get_or xs j 0
    by (inl e) = omega (arith, ap (λ (k : ℕ). get_or xs k 0) e)
    by (inr (inl lt)) = omega (arith, rises_above xs r i j lt l)
    by (inr (inr gt)) = absurd (omega (arith, le, gt))

pub place_here : (xs : List ℕ) (i at : ℕ) → Rises xs → at < length xs → get_or xs at 0 ≡ i → IsPlace xs i at
place_here xs i at r l e = record {
  within = λ n. l;
  none = λ n. absurd (omega (arith, l, n));
  here = λ n f. omega (arith, e);
  next = λ k lt m. omega (arith, rises_above xs r at k lt m, e);
}

pub place_found : (xs : List ℕ) (i at : ℕ) → Rises xs → IsBinarySearchResult (λ y. nat_cmp y i) xs (Ok at)
    → IsPlace xs i at
place_found xs i at r h =
    let found = searched xs i (Ok at) h (rises_up xs r) in
    place_here xs i at r found.0 found.1

pub place_before : (xs : List ℕ) (i at : ℕ) → Rises xs → IsBinarySearchResult (λ y. nat_cmp y i) xs (Err at)
    → IsPlace xs i (at - 1)
place_before xs i at r h =
    let missed = searched xs i (Err at) h (rises_up xs r) in
    by at missed.0 missed.1 missed.2
  where
    by : (n : ℕ) → n ≤ length xs → ((k : ℕ) → k < n → get_or xs k 0 < i)
        → ((k : ℕ) → n ≤ k → k < length xs → i < get_or xs k 0) → IsPlace xs i (n - 1)
    by zero le low high = record {
      within = λ n. omega (arith, n);
      none = λ n. omega arith;
      here = λ n f. omega (arith, f);
      next = λ k lt m. high k (omega arith) m;
    }
    by (suc n) le low high =
        let same : suc n - 1 ≡ n = omega arith in
        subst (λ (m : ℕ). IsPlace xs i m) (sym same) (record {
          within = λ m. omega (arith, le);
          none = λ m. omega (arith, m, le);
          here = λ m f. omega (arith, low n (omega arith));
          next = λ k lt m. high k (omega (arith, lt)) m;
        })

-- ---- Room for what one step logs.

pub record Room (bs : Bytes) (spare end entries entry_room firsts first_room count : ℕ) : Type 0 where
  pub bytes : end + LINE_BYTES ≤ length bs + spare
  pub entry : entries < entry_room
  pub first : firsts < first_room
  pub few : count < 2 ^ 64

pub room_of : (bs : Bytes) (spare end : ℕ) (es : List Entry) (er : ℕ) (fs : List ℕ) (fr count : ℕ) (roomy : Bool)
    → CommitIsKept bs spare end es er fs fr count roomy → (lines_of_entries bs es ≡ []) ⊎ (roomy ≡ true)
    → Room bs spare end (length es) er (length fs) fr count
room_of bs spare end es er fs fr count roomy k (inl h) =
    let none : es ≡ [] = none_logged bs es h in
    let numbers : fs ≡ [] = k.numbered ∙ ap (firsts_from 0) none in
    record {
      bytes = omega (arith, k.begun none, k.least_bytes);
      entry = omega (arith, ap length none, k.least_entries);
      first = omega (arith, ap length numbers, k.least_firsts);
      few = omega (arith, k.counted ∙ ap (count_from 0) none);
    }
room_of bs spare end es er fs fr count roomy k (inr h) =
    record { bytes = k.bytes_left h; entry = k.entries_left h; first = k.firsts_left h; few = k.few h }

-- ---- What the calls leave.

-- another line is copied
pub copied : (bs mid new line : Bytes) (end : ℕ) (es : List Entry) → end ≤ length bs → EndsAreWithin end es
    → mid ≡ take end bs → new ≡ mid ++ line → (lines_of_entries new es ≡ lines_of_entries bs es) × (drop end new ≡ line)
copied bs mid new line end es le w m n =
    let cut : length (take end bs) ≡ end = length-take-le end bs le in
    let is : new ≡ take end bs ++ line = n ∙ ap (λ (xs : Bytes). xs ++ line) m in (
      same_lines new bs end es (ap (take end) is ∙ take_at (take end bs) line end cut) w,
      ap (drop end) is ∙ drop_at (take end bs) line end cut,
    )

-- a line is logged
pub logged_one : (bs : Bytes) (end : ℕ) (es : List Entry) → end ≤ length bs
    → lines_of_entries bs (es ++ Line end (length bs) ∷ []) ≡ lines_of_entries bs es ++ drop end bs ∷ []
logged_one bs end es le =
    flat_map-append (λ (e : Entry). entry_lines bs e) es (Line end (length bs) ∷ [])
    ∙ ap (λ (l : Bytes). lines_of_entries bs es ++ l ∷ [])
    (part_is bs end (length bs) le ∙ ap (drop end) (take_all (length bs) bs (omega arith)))

-- a batch is
pub logged_batch : (bs : Bytes) (es : List Entry) (held : HeldTransaction)
    → lines_of_entries bs (es ++ Batch held ∷ []) ≡ lines_of_entries bs es ++ log_lines held
logged_batch bs es held =
    flat_map-append (λ (e : Entry). entry_lines bs e) es (Batch held ∷ [])
    ∙ ap (λ (ls : List Bytes). lines_of_entries bs es ++ ls) (append-nil (log_lines held))

-- the commit is no longer empty, and its room isn't said
pub kept_pushed : (bs : Bytes) (spare end next : ℕ) (es : List Entry) (e : Entry) (er : ℕ) (fs : List ℕ)
    (fr count : ℕ) (roomy : Bool) (es' : List Entry) (fs' : List ℕ) (er' fr' count' : ℕ)
    → CommitIsKept bs spare end es er fs fr count roomy → end ≤ next → next ≤ length bs → EndsAreWithin next (e ∷ [])
    → es' ≡ es ++ e ∷ [] → fs' ≡ fs ++ count ∷ [] → er' ≡ er → fr' ≡ fr → count' ≡ count + entry_count e
    → CommitIsKept bs spare next es' er' fs' fr' count' false
kept_pushed bs spare end next es e er fs fr count roomy es' fs' er' fr' count' k le within w is fis ers frs cis = record {
  within = within;
  placed = subst (EndsAreWithin next) (sym is) (pushed_within next es e (more_within end next es le k.placed) w);
  numbered = fis ∙ ap₂ (λ (ns : List ℕ) (n : ℕ). ns ++ n ∷ []) k.numbered k.counted ∙ sym (pushed_firsts 0 es e)
      ∙ ap (firsts_from 0) (sym is);
  counted = cis ∙ ap (λ (n : ℕ). n + entry_count e) k.counted ∙ sym (pushed_count 0 es e)
      ∙ ap (count_from 0) (sym is);
  begun = λ n. absurd (some es (sym is ∙ n));
  least_bytes = k.least_bytes;
  least_entries = omega (arith, ers, k.least_entries);
  least_firsts = omega (arith, frs, k.least_firsts);
  bytes_left = λ r. absurd (false≢true r);
  entries_left = λ r. absurd (false≢true r);
  firsts_left = λ r. absurd (false≢true r);
  few = λ r. absurd (false≢true r);
}
  where
    some : (xs : List Entry) → xs ++ e ∷ [] ≡ [] → ⊥
    some [] h = absurd (cc (h))
    some (x ∷ xs) h = absurd (cc (h))

-- a list of one has none further
pub past_one : {A : Type 0} (x : A) (i : ℕ) → (i ≡ 0 → ⊥) → None ≡ slice_get (x ∷ []) i
past_one x zero n = absurd (n refl)
past_one x (suc i) n = refl
