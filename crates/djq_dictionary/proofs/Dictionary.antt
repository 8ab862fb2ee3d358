-- Texts in one buffer, and the chains of those with one hash.
use Rattle.std.proofs.Common.{◌≡◌, ℕ, zero, suc, ◌+◌, ◌-◌, ◌≤◌, List, [], ◌∷◌, ◌++◌, length, take, drop, refl, ◌∙◌, ap}
use Rattle.std.proofs.Common.{arith, ◌≢◌, ◌<◌, sym, inl, inr, replicate, get_or, set, below_more}
use Rattle.std.specs.Prelude.{slice_get, slice_range, Some, slice_index, slice_index_or, Option, None}
use Rattle.std.proofs.lemmas.List.{take-append-le, drop-append-le, length-drop, take_all, get_or-map, length-map}
use Rattle.std.proofs.lemmas.List.{get_or_append_left, length-append, get_or-set_other, length-set, map-set}
use Rattle.std.proofs.Math.Seq.{drop-append_seam, map-set_same}
use Rattle.std.proofs.lemmas.Bool.{cases_eq, cases_lt}
use Rattle.std.proofs.lemmas.Option.{get_or_from_slice_get, slice_get-get_or, slice_get_within}
use Rattle.std.proofs.lemmas.Grind.{get_or-set_at}
use Rattle.djq_dictionary.specs.declared.chain.Link.{Link}
use Rattle.djq_dictionary.specs.Buffer.{pieces, IsCut}
use Rattle.djq_dictionary.specs.Chains.{HasNone, IsLastWith, IsChained, IsChainHead, bucket_at, hashes_of, nexts_of}
use Rattle.djq_dictionary.specs.Chains.{IsLinked, bucket_of}
use Rattle.djq_dictionary.specs.Dictionary.{IsDictionary}
use Rattle.djq_dictionary.specs.Hash.{hash_of}
use Rattle.djq_dictionary.specs.Known.{IsUnknown, AllDifferent, Learns}
use Rattle.djq_dictionary.specs.Index.{IsIndex}

-- ---- Texts in one buffer: where each stands, and what one more leaves.

-- there are as many pieces as ends
pub length-pieces : (bytes : List ℕ) (start : ℕ) (ends : List ℕ) → length (pieces bytes start ends) ≡ length ends
length-pieces bytes start [] = refl
length-pieces bytes start (e ∷ ends) = ap suc (length-pieces bytes e ends)

-- a cut starts within the buffer
pub cut_start : (start : ℕ) (ends : List ℕ) (total : ℕ) → IsCut start ends total → start ≤ total
cut_start start [] total h = omega (arith, h)
cut_start start (e ∷ ends) total h =
    let more = cut_start e ends total h.1 in
    omega (arith, h.0, more)

-- a piece starts where the one before it ends
pub piece_at : (bytes : List ℕ) (start : ℕ) (ends : List ℕ) (i a b : ℕ) → slice_get (start ∷ ends) i ≡ Some a
    → slice_get ends i ≡ Some b → slice_get (pieces bytes start ends) i ≡ Some (slice_range bytes a b)
piece_at bytes start [] i a b p q = cc
piece_at bytes start (e ∷ ends) zero a b p q = cc
piece_at bytes start (e ∷ ends) (suc i) a b p q = piece_at bytes e ends i a b p q

-- it lies within the buffer
pub piece_within : (start : ℕ) (ends : List ℕ) (total i a b : ℕ) → IsCut start ends total → slice_get (start ∷ ends) i
    ≡ Some a → slice_get ends i ≡ Some b → (a ≤ b) × (b ≤ total)
piece_within start [] total i a b h p q = absurd cc
piece_within start (e ∷ ends) total zero a b h p q =
    let same_start : start ≡ a = cc in
    let same_end : e ≡ b = cc in
    let low = h.0 in
    let high = cut_start e ends total h.1 in
    (omega arith, omega arith)
piece_within start (e ∷ ends) total (suc i) a b h p q = piece_within e ends total i a b h.1 p q

-- bytes behind the buffer change no piece of it
front : (bytes more : List ℕ) (start end : ℕ) → start ≤ end → end ≤ length bytes → slice_range (bytes ++ more) start end
    ≡ slice_range bytes start end
front bytes more start end low high =
    let within : start ≤ length bytes = omega arith in
    let cut : end - start ≤ length (drop start bytes) = omega (arith, length-drop start bytes) in
    ap (take (end - start)) (drop-append-le start bytes more within)
    ∙ take-append-le (end - start) (drop start bytes) more cut

-- what is put behind the buffer is a piece of the longer one
back : (bytes more : List ℕ) (start : ℕ) → start ≡ length bytes
    → slice_range (bytes ++ more) start (length bytes + length more) ≡ more
back bytes more start same =
    let size : (length bytes + length more) - length bytes ≡ length more = omega arith in
    rw (same, drop-append_seam bytes more, size) (take_all (length more) more (omega arith))

-- one more text
pub pieces-push : (bytes more : List ℕ) (start : ℕ) (ends : List ℕ) → IsCut start ends (length bytes)
    → pieces (bytes ++ more) start (ends ++ (length bytes + length more) ∷ []) ≡ pieces bytes start ends ++ more ∷ []
pieces-push bytes more start [] h = ap (λ (t : List ℕ). t ∷ []) (back bytes more start h)
pieces-push bytes more start (e ∷ ends) h =
    let first = front bytes more start e h.0 (cut_start e ends (length bytes) h.1) in
    let rest = pieces-push bytes more e ends h.1 in
    cc

-- and the ends rise as before
pub cut-push : (start : ℕ) (ends : List ℕ) (total more : ℕ) → IsCut start ends total
    → IsCut start (ends ++ (total + more) ∷ []) (total + more)
cut-push start [] total more h = (omega (arith, h), refl)
cut-push start (e ∷ ends) total more h = (h.0, cut-push e ends total more h.1)

-- ---- A search among the texts with one hash, from the latest to the earliest.

-- no text behind the candidate is the one that is sought: without a candidate none is
abbrev pub IsSearched : List (List ℕ) → List ℕ → List ℕ → ℕ → Option ℕ → Type 0
IsSearched texts hashes text hash None = IsUnknown texts text
IsSearched texts hashes text hash (Some m) = (m < length texts) × (slice_index hashes m ≡ hash)
    × ((j : ℕ) (d : List ℕ) → m < j → j < length texts → slice_index_or texts j d ≢ text)

-- how many candidates there may be yet
abbrev pub ahead : Option ℕ → ℕ
ahead None = 0
ahead (Some m) = m + 1

-- a text has its hash
hash-text : (texts : List (List ℕ)) (hashes text : List ℕ) (hash j : ℕ) (d : List ℕ) → IsDictionary texts hashes → hash
    ≡ hash_of text → j < length texts → slice_index_or texts j d ≡ text → slice_index hashes j ≡ hash
hash-text texts hashes text hash j d h own low same = ap (λ (l : List ℕ). slice_index l j) h.hashed
    ∙ get_or-map hash_of texts j d 0 low ∙ ap hash_of same ∙ sym own

-- the first candidate
pub searched-first : (texts : List (List ℕ)) (hashes text : List ℕ) (hash : ℕ) (r : Option ℕ)
    → IsDictionary texts hashes → hash ≡ hash_of text → IsLastWith hashes hash (length hashes) r
    → IsSearched texts hashes text hash r
searched-first texts hashes text hash None h own last =
    let many = ap (λ (l : List ℕ). length l) h.hashed ∙ length-map texts hash_of in
    λ j d low same. last j (omega arith) (omega arith) (hash-text texts hashes text hash j d h own low same)
searched-first texts hashes text hash (Some m) h own last =
    let many = ap (λ (l : List ℕ). length l) h.hashed ∙ length-map texts hash_of in (
      omega (arith, last.0),
      last.1,
      λ j d from low same. last.2 j (omega arith) (omega arith)
          (hash-text texts hashes text hash j d h own low same),
    )

-- from one candidate on, which isn't the text, none before the next one is it
between : (texts : List (List ℕ)) (hashes text : List ℕ) (hash m from : ℕ) → IsDictionary texts hashes → hash
    ≡ hash_of text → IsSearched texts hashes text hash (Some m) → ((d : List ℕ) → slice_index_or texts m d ≢ text)
    → HasNone hashes hash from m → (j : ℕ) (d : List ℕ) → from ≤ j → j < length texts → slice_index_or texts j d ≢ text
between texts hashes text hash m from h own s other none j d start low same =
    elim (cases_lt j m) [
      | inl before ↦ none j start before (hash-text texts hashes text hash j d h own low same)
      | inr after ↦ elim (cases_eq j m) [
        | inl here ↦ other d (rw here at same)
        | inr apart ↦ s.2 j d (omega arith) low same
      ]
    ]

-- the next candidate
pub searched-next : (texts : List (List ℕ)) (hashes text : List ℕ) (hash m k : ℕ) (r : Option ℕ)
    → IsDictionary texts hashes → hash ≡ hash_of text → IsSearched texts hashes text hash (Some m)
    → ((d : List ℕ) → slice_index_or texts m d ≢ text) → IsLastWith hashes (slice_index hashes k) k r → k ≡ m
    → IsSearched texts hashes text hash r
searched-next texts hashes text hash m k None h own s other last same =
    let none = rw (same, s.1) at last in
    λ j d low equal. between texts hashes text hash m 0 h own s other none j d (omega arith) low equal
searched-next texts hashes text hash m k (Some n) h own s other last same =
    let below : n < m = omega (arith, last.0) in
    let here = rw (same, s.1) at last.1 in
    let none = rw (same, s.1) at last.2 in (
      omega (arith, s.0),
      here,
      λ j d from low equal. between texts hashes text hash m (n + 1) h own s other none j d
          (omega arith) low equal,
    )

-- ---- What texts that become known leave of the others, for crates that keep numbers of texts.

-- ---- Links put in front of their chains.

-- a text is the first of its bucket's chain
first_itself : (buckets : ℕ) (hashes : List ℕ) (bucket n : ℕ) → bucket_at buckets hashes n ≡ bucket
    → IsChainHead buckets hashes bucket (n + 1) (n + 1)
first_itself buckets hashes bucket n same = record {
  within = omega arith;
  here = λ _. let e : (n + 1) - 1 ≡ n = omega arith in rw e same;
  last = λ j low high. absurd (omega arith);
}

-- the chains of the other buckets stay
first_kept : (buckets : ℕ) (hashes : List ℕ) (bucket n chain : ℕ) → bucket_at buckets hashes n ≢ bucket
    → IsChainHead buckets hashes bucket n chain → IsChainHead buckets hashes bucket (n + 1) chain
first_kept buckets hashes bucket n chain other f = record {
  within = let w = f.within in omega arith;
  here = f.here;
  last = λ j low high. below_more (λ k. chain ≤ k → bucket_at buckets hashes k ≢ bucket) n (λ k h l. f.last k l h)
      (λ _. other) j high low;
}

-- a text is put in front of its chain
pub chained-put : (hashes nexts heads : List ℕ) (n : ℕ) → n < length nexts
    → bucket_at (length heads) hashes n < length heads → IsChained hashes nexts heads n
    → IsChained hashes (set nexts n (slice_index heads (bucket_at (length heads) hashes n)))
    (set heads (bucket_at (length heads) hashes n) (n + 1)) (n + 1)
chained-put hashes nexts heads n below within h =
    let buckets : ℕ = length heads in
    let bucket : ℕ = bucket_at (length heads) hashes n in
    let next : ℕ = slice_index heads (bucket_at (length heads) hashes n) in
    record {
      headed = rw (length-set heads bucket (n + 1)) (λ b low. elim (cases_eq b bucket) [
        | inl e ↦ rw (get_or-set_at heads bucket b (n + 1) 0 e within) (first_itself buckets hashes b n (sym e))
        | inr ne ↦ rw (get_or-set_other heads bucket b (n + 1) 0 ne)
            (first_kept buckets hashes b n (slice_index heads b) (λ x. ne (sym x)) (h.headed b low))
      ]);
      linked = rw (length-set heads bucket (n + 1)) (record {
        each = λ i low. elim (cases_eq i n) [
          | inl e ↦ rw (get_or-set_at nexts n i next 0 e below, e) (h.headed bucket within)
          | inr ne ↦ rw (get_or-set_other nexts n i next 0 ne) (h.linked.each i (omega arith))
        ];
      });
    }

-- more texts behind those that are in chains change no chain
first-longer : (buckets : ℕ) (hashes more : List ℕ) (bucket n chain : ℕ) → n ≤ length hashes
    → IsChainHead buckets hashes bucket n chain → IsChainHead buckets (hashes ++ more) bucket n chain
first-longer buckets hashes more bucket n chain most f = record {
  within = f.within;
  here = λ some.
      let w = f.within in
      let low : chain - 1 < length hashes = omega arith in
      rw (get_or_append_left hashes more 0 (chain - 1) low) (f.here some);
  last = λ j low high.
      let below : j < length hashes = omega arith in
      rw (get_or_append_left hashes more 0 j below) (f.last j low high);
}

pub chained-longer : (hashes nexts heads more others : List ℕ) (n : ℕ) → n ≤ length hashes → n ≤ length nexts
    → IsChained hashes nexts heads n → IsChained (hashes ++ more) (nexts ++ others) heads n
chained-longer hashes nexts heads more others n most many h = record {
  headed = λ b low. first-longer (length heads) hashes more b n (slice_index heads b) most (h.headed b low);
  linked = record {
    each = λ i low.
        let under : i < length hashes = omega arith in
        let below : i < length nexts = omega arith in
        rw (get_or_append_left nexts others 0 i below, get_or_append_left hashes more 0 i under)
        (first-longer (length heads) hashes more (bucket_at (length heads) hashes i) i (slice_index nexts i)
        (omega arith) (h.linked.each i low));
  };
}

-- heads that have no chain yet
pub chained-none : (hashes nexts heads : List ℕ) → ((b : ℕ) → slice_index heads b ≡ 0) → IsChained hashes nexts heads 0
chained-none hashes nexts heads none = record {
  headed = λ b low. let e = none b in record {
    within = omega arith;
    here = λ some. absurd (omega arith);
    last = λ j from below. absurd (omega arith);
  };
  linked = record { each = λ i low. absurd (omega arith) };
}

-- the same of links that have their hash and their chain side by side
pub links-put : (links : List Link) (heads : List ℕ) (number : ℕ) (read : Link) (bucket next past : ℕ)
    → number < length links → bucket < length heads → bucket ≡ bucket_at (length heads) (hashes_of links) number → next
    ≡ slice_index heads bucket → past ≡ number + 1 → IsChained (hashes_of links) (nexts_of links) heads number
    → IsChained (hashes_of (set links number (record { hash = (get_or links number read).hash; next = next })))
    (nexts_of (set links number (record { hash = (get_or links number read).hash; next = next })))
    (set heads bucket past) (number + 1)
links-put links heads number read bucket next past low within own first at h =
    let link : Link = record { hash = (get_or links number read).hash; next = next } in
    let hashes : hashes_of (set links number link)
    ≡ hashes_of links = map-set_same (λ (k : Link). k.hash) links number link read refl in
    let nexts : nexts_of (set links number link)
    ≡ set (nexts_of links) number next = map-set (λ (k : Link). k.next) links number link in
    let many : length (nexts_of links) ≡ length links = length-map links (λ (k : Link). k.next) in
    rw (hashes, nexts, at, first, own)
    (chained-put (hashes_of links) (nexts_of links) heads number (omega arith) (rw own at within) h)

-- the hash of a link
pub hash-at : (links : List Link) (number : ℕ) (link : Link) → number < length links
    → slice_index (hashes_of links) number ≡ (get_or links number link).hash
hash-at links number link low = get_or-map (λ (k : Link). k.hash) links number link 0 low

-- its chain
pub next-at : (links : List Link) (number : ℕ) (link : Link) → number < length links
    → slice_index (nexts_of links) number ≡ (get_or links number link).next
next-at links number link low = get_or-map (λ (k : Link). k.next) links number link 0 low

-- each of so many zeros is one, and so is what is read behind them
pub zeros : (n : ℕ) (xs : List ℕ) (i : ℕ) → xs ≡ replicate n 0 → slice_index xs i ≡ 0
zeros n xs i e = ap (λ (l : List ℕ). slice_index l i) e ∙ zeros_at n i where
  zeros_at : (n i : ℕ) → slice_index (replicate n 0) i ≡ 0
  zeros_at zero i = refl
  zeros_at (suc n) zero = refl
  zeros_at (suc n) (suc i) = zeros_at n i

-- ---- A walk along a chain.

-- the rest of a walk for a hash: what is behind it hasn't the hash
pub record IsRest (buckets : ℕ) (hashes : List ℕ) (hash n rest : ℕ) : Type 0 where
  pub within : rest ≤ n
  pub here : 0 < rest → bucket_at buckets hashes (rest - 1) ≡ bucket_of buckets hash
  pub none : HasNone hashes hash rest n

-- a walk begins with a bucket's chain
pub rest-first : (buckets : ℕ) (hashes : List ℕ) (hash n chain : ℕ)
    → IsChainHead buckets hashes (bucket_of buckets hash) n chain → IsRest buckets hashes hash n chain
rest-first buckets hashes hash n chain f = record {
  within = f.within;
  here = f.here;
  none = λ j low high e. f.last j low high (ap (λ (h : ℕ). bucket_of buckets h) e);
}

-- it goes on at the next link
pub rest-next : (buckets : ℕ) (hashes nexts : List ℕ) (hash n rest : ℕ) → IsLinked buckets hashes nexts → 0 < rest
    → rest ≤ length hashes → slice_index hashes (rest - 1) ≢ hash → IsRest buckets hashes hash n rest
    → IsRest buckets hashes hash n (slice_index nexts (rest - 1))
rest-next buckets hashes nexts hash n rest linked some below other r =
    let f = linked.each (rest - 1) (omega arith) in
    let low = f.within in
    let high = r.within in
    record {
      within = omega arith;
      here = λ more. f.here more ∙ r.here some;
      none = λ j from under e. elim (cases_lt j (rest - 1)) [
        | inl before ↦ f.last j from before (ap (λ (h : ℕ). bucket_of buckets h) e ∙ sym (r.here some))
        | inr after ↦ elim (cases_eq j (rest - 1)) [
          | inl same ↦ other (rw same at e)
          | inr apart ↦ r.none j (omega arith) under e
        ]
      ];
    }

-- it is over where a link has the hash
pub rest-found : (buckets : ℕ) (hashes : List ℕ) (hash n rest : ℕ) → 0 < rest → slice_index hashes (rest - 1) ≡ hash
    → IsRest buckets hashes hash n rest → IsLastWith hashes hash n (Some (rest - 1))
rest-found buckets hashes hash n rest some same r =
    let high = r.within in
    (omega arith, same, λ j low under. r.none j (omega arith) under)

-- or where the chain ends
pub rest-over : (buckets : ℕ) (hashes : List ℕ) (hash n rest : ℕ) → rest ≡ 0 → IsRest buckets hashes hash n rest
    → IsLastWith hashes hash n None
rest-over buckets hashes hash n rest none r = λ j low under. r.none j (omega arith) under

-- what a walk from a place gives
abbrev pub Follows : List Link → ℕ → ℕ → Option ℕ → Type 0
Follows links hash chain r = (buckets n : ℕ) → IsLinked buckets (hashes_of links) (nexts_of links)
    → IsChainHead buckets (hashes_of links) (bucket_of buckets hash) n chain → IsLastWith (hashes_of links) hash n r

-- the chains of an index
linked : (links : List Link) (heads : List ℕ) → IsIndex links heads
    → IsLinked (length heads) (hashes_of links) (nexts_of links)
linked links heads h =
    let many = length-map links (λ (k : Link). k.hash) in
    rw many h.chained.linked

-- from the head of a bucket it gives the last number with the hash
pub follows-head : (links : List Link) (heads : List ℕ) (hash bucket head : ℕ) (r : Option ℕ) → IsIndex links heads
    → bucket < length heads → bucket ≡ bucket_of (length heads) hash → head ≡ slice_index heads bucket
    → Follows links hash head r → IsLastWith (hashes_of links) hash (length (hashes_of links)) r
follows-head links heads hash bucket head r h within own read f =
    let many = length-map links (λ (k : Link). k.hash) in
    let first = rw (← read, own) at (h.chained.headed bucket within) in
    rw many (f (length heads) (length links) (linked links heads h) first)

-- and from a link the last number before it with its hash
pub follows-link : (links : List Link) (heads : List ℕ) (number : ℕ) (link : Link) (r : Option ℕ) → IsIndex links heads
    → number < length links → link ≡ get_or links number link → Follows links link.hash link.next r
    → IsLastWith (hashes_of links) (slice_index (hashes_of links) number) number r
follows-link links heads number link r h low read f =
    let hash = hash-at links number link low ∙ ap (λ (k : Link). k.hash) (sym read) in
    let next = next-at links number link low ∙ ap (λ (k : Link). k.next) (sym read) in
    let first = rw (hash, next) at (h.chained.linked.each number low) in
    rw hash (f (length heads) number (linked links heads h) first)
