-- What a digest sees: a change within one byte makes another word, and so another digest for ever.
use Rattle.std.proofs.Common.{◌≡◌, ℕ, suc, zero, ◌+◌, ◌-◌, ◌*◌, ◌%◌, ◌<◌, ◌≤◌, ◌⊎◌, inl, inr, List, [], ◌∷◌, ◌++◌, length, refl}
use Rattle.std.proofs.Common.{get_or, replicate, sym, ap, ◌∙◌, arith, length-append, subst}
use Rattle.std.specs.List.{fold, AllByRecursion}
use Rattle.std.specs.Int.{from_be_bytes, to_be_bytes, w64}
use Rattle.std.proofs.lemmas.Nat.{be_bytes_8, mul-mod_first, mod-mul-add}
use Rattle.std.proofs.lemmas.Bool.{cases_eq}
use Rattle.std.proofs.lemmas.List.{append_cancel_left, append_cancel_right}
use Rattle.std.proofs.lemmas.List.Sums.{fold-append}
use Rattle.djq_log_format.specs.Digest.{Digesting, halves_exchanged, carried, chained, begun, absorbed, finished, words_of, digest_word, ByteIsSeen}
use Rattle.djq_log_format.proofs.Digesting.{digests_in_pieces, absorbs_full, absorbs_part, ends_none, ends_some, length_zeros}

abbrev pub IsBytes : List ℕ → Type 0
IsBytes bytes = AllByRecursion (λ b. b < 256) bytes

pub bytes_append : (xs ys : List ℕ) → IsBytes xs → IsBytes ys → IsBytes (xs ++ ys)
bytes_append [] ys all all' = all'
bytes_append (x ∷ xs) ys all all' = (all.0, bytes_append xs ys all.1 all')

pub byte_at : (bytes : List ℕ) → IsBytes bytes → (i : ℕ) → get_or bytes i 0 < 256
byte_at [] all i = omega arith
byte_at (b ∷ bs) all zero = all.0
byte_at (b ∷ bs) all (suc i) = byte_at bs all.1 i

zeros_small : (n : ℕ) → IsBytes (replicate n 0)
zeros_small zero = tt
zeros_small (suc n) = (omega arith, zeros_small n)

filled_small : (bytes : List ℕ) → IsBytes bytes → IsBytes (bytes ++ replicate (8 - length bytes) 0)
filled_small bytes all = bytes_append bytes (replicate (8 - length bytes) 0) all (zeros_small (8 - length bytes))

filled_eight : (bytes : List ℕ) → length bytes ≤ 8 → length (bytes ++ replicate (8 - length bytes) 0) ≡ 8
filled_eight bytes few = omega (arith, length-append bytes (replicate (8 - length bytes) 0), length_zeros (8 - length bytes))

pub number_small : (bytes : List ℕ) → IsBytes bytes → from_be_bytes w64 bytes < 18446744073709551616
number_small bytes all = omega (
  arith,
  byte_at bytes all 0,
  byte_at bytes all 1,
  byte_at bytes all 2,
  byte_at bytes all 3,
  byte_at bytes all 4,
  byte_at bytes all 5,
  byte_at bytes all 6,
  byte_at bytes all 7,
)

-- a word is below 2^64
pub word_small : (bytes : List ℕ) → IsBytes bytes → digest_word bytes < 18446744073709551616
word_small bytes all = number_small (bytes ++ replicate (8 - length bytes) 0) (filled_small bytes all)

-- bytes of one length make one word only where they are the same
word_once : (a b : List ℕ) → length a ≡ length b → length a ≤ 8 → IsBytes a → IsBytes b → digest_word a ≡ digest_word b → a ≡ b
word_once a b size few all all' e =
    let fa : List ℕ = a ++ replicate (8 - length a) 0 in
    let fb : List ℕ = b ++ replicate (8 - length b) 0 in
    let of_a : to_be_bytes w64 (digest_word a) ≡ fa = be_bytes_8 fa (digest_word a) (filled_eight a few)
    (byte_at fa (filled_small a all)) refl in
    let of_b : to_be_bytes w64 (digest_word a) ≡ fb = be_bytes_8 fb (digest_word a) (filled_eight b (omega arith))
    (byte_at fb (filled_small b all')) e in
    let same : fa ≡ b ++ replicate (8 - length a) 0 =
    sym of_a ∙ of_b ∙ ap (λ (n : ℕ). b ++ replicate (8 - n) 0) (sym size) in
    append_cancel_right a b (replicate (8 - length a) 0) same

-- ---- A step is one to one in the word and in the digest.

-- so is an exchange of the halves
exchanged_once : (x y : ℕ) → x < 18446744073709551616 → y < 18446744073709551616 → halves_exchanged x ≡ halves_exchanged y
    → x ≡ y
exchanged_once x y x' y' e = omega arith

exchanged_small : (x : ℕ) → x < 18446744073709551616 → halves_exchanged x < 18446744073709551616
exchanged_small x x' = omega arith

-- a digest before its halves are exchanged
abbrev summed : ℕ → ℕ → ℕ
summed d w = (d * 6364136223846793005 % 18446744073709551616 + w) % 18446744073709551616

summed_same : (d e v w : ℕ) → carried d v ≡ carried e w → summed d v ≡ summed e w
summed_same d e v w same = exchanged_once (summed d v) (summed e w) (omega arith) (omega arith) same

word_seen : (d v w : ℕ) → v < 18446744073709551616 → w < 18446744073709551616 → carried d v ≡ carried d w → v ≡ w
word_seen d v w v' w' e = let same = summed_same d d v w e in omega (arith, same)

added_once : (x y w : ℕ) → x < 18446744073709551616 → y < 18446744073709551616
    → (x + w) % 18446744073709551616 ≡ (y + w) % 18446744073709551616 → x ≡ y
added_once x y w x' y' e = omega arith

-- times the inverse of the multiplier a digest is there again
undone : (d : ℕ) → d < 18446744073709551616
    → (d * 6364136223846793005 % 18446744073709551616) * 13877824140714322085 % 18446744073709551616 ≡ d
undone d low =
    mul-mod_first (d * 6364136223846793005) 13877824140714322085 18446744073709551616
    ∙ ap (λ (n : ℕ). n % 18446744073709551616) (turned d)
    ∙ mod-mul-add (d * 4787856489426250814) 18446744073709551616 d low
  where
    turned : (n : ℕ) → n * 6364136223846793005 * 13877824140714322085
        ≡ n * 4787856489426250814 * 18446744073709551616 + n
    turned n = omega arith

digest_seen : (d e w : ℕ) → d < 18446744073709551616 → e < 18446744073709551616 → carried d w ≡ carried e w → d ≡ e
digest_seen d e w d' e' same =
    let times : d * 6364136223846793005 % 18446744073709551616 ≡ e * 6364136223846793005 % 18446744073709551616 =
    added_once (d * 6364136223846793005 % 18446744073709551616) (e * 6364136223846793005 % 18446744073709551616) w
    (omega arith) (omega arith) (summed_same d e w w same) in
    sym (undone d d') ∙ ap (λ (n : ℕ). n * 13877824140714322085 % 18446744073709551616) times ∙ undone e e'

carried_small : (d w : ℕ) → carried d w < 18446744073709551616
carried_small d w = exchanged_small (summed d w) (omega arith)

folded_small : (d : ℕ) (ws : List ℕ) → d < 18446744073709551616 → fold carried d ws < 18446744073709551616
folded_small d [] low = low
folded_small d (w ∷ ws) low = folded_small (carried d w) ws (carried_small d w)

pub chained_small : (d : ℕ) (bytes : List ℕ) → d < 18446744073709551616 → chained d bytes < 18446744073709551616
chained_small d bytes low = folded_small d (words_of bytes) low

-- ---- Two digests on their way that differ stay so.

-- One of a digest and what is pending is the same, and the other isn't.
record Apart (s t : Digesting) : Type 0 where
  size : length s.pending ≡ length t.pending
  few : length s.pending < 8
  low : s.digest < 18446744073709551616
  low' : t.digest < 18446744073709551616
  bytes : IsBytes s.pending
  bytes' : IsBytes t.pending
  differ : ((s.digest ≡ t.digest) × (s.pending ≡ t.pending → ⊥)) ⊎ ((s.digest ≡ t.digest → ⊥) × (s.pending ≡ t.pending))

longer : (xs : List ℕ) (y : ℕ) → length (xs ++ y ∷ []) ≡ suc (length xs)
longer xs y = omega (arith, length-append xs (y ∷ []))

bytes_more : (xs : List ℕ) (y : ℕ) → IsBytes xs → y < 256 → IsBytes (xs ++ y ∷ [])
bytes_more xs y all small = bytes_append xs (y ∷ []) all (small, tt)

-- words of pending bytes that differ, carried on from one digest
words_apart : (d : ℕ) (p q : List ℕ) → length p ≡ length q → length p ≤ 8 → IsBytes p → IsBytes q → (p ≡ q → ⊥)
    → carried d (digest_word p) ≡ carried d (digest_word q) → ⊥
words_apart d p q size few all all' ne e =
    ne (word_once p q size few all all'
    (word_seen d (digest_word p) (digest_word q) (word_small p all) (word_small q all') e))

step_apart : (s t : Digesting) (y : ℕ) → y < 256 → Apart s t → Apart (absorbed s y) (absorbed t y)
step_apart s t y small a = elim (cases_eq (length s.pending) 7) [
  | inl full ↦
      let p : List ℕ = s.pending ++ y ∷ [] in
      let q : List ℕ = t.pending ++ y ∷ [] in
      let s' : Digesting = record { digest = carried s.digest (digest_word p); pending = [] } in
      let t' : Digesting = record { digest = carried t.digest (digest_word q); pending = [] } in
      let ne : carried s.digest (digest_word p) ≡ carried t.digest (digest_word q) → ⊥ = λ e. elim a.differ [
        | inl d ↦ words_apart s.digest p q
            (longer s.pending y ∙ ap suc a.size ∙ sym (longer t.pending y)) (omega (arith, longer s.pending y, a.few))
            (bytes_more s.pending y a.bytes small) (bytes_more t.pending y a.bytes' small)
            (λ same. d.1 (append_cancel_right s.pending t.pending (y ∷ []) same))
            (e ∙ ap (λ (n : ℕ). carried n (digest_word q)) (sym d.0))
        | inr d ↦ d.0 (digest_seen s.digest t.digest (digest_word q) a.low a.low'
            (ap (λ (xs : List ℕ). carried s.digest (digest_word (xs ++ y ∷ []))) (sym d.1) ∙ e))
      ] in
      let both : Apart s' t' = record {
        size = refl;
        few = omega arith;
        low = carried_small s.digest (digest_word p);
        low' = carried_small t.digest (digest_word q);
        bytes = tt;
        bytes' = tt;
        differ = inr (ne, refl);
      } in
      subst (λ (u : Digesting). Apart u (absorbed t y)) (sym (absorbs_full s y full))
      (subst (λ (u : Digesting). Apart s' u) (sym (absorbs_full t y (sym a.size ∙ full))) both)
  | inr part ↦
      let s' : Digesting = record { digest = s.digest; pending = s.pending ++ y ∷ [] } in
      let t' : Digesting = record { digest = t.digest; pending = t.pending ++ y ∷ [] } in
      let both : Apart s' t' = record {
        size = longer s.pending y ∙ ap suc a.size ∙ sym (longer t.pending y);
        few = omega (arith, longer s.pending y, a.few, part);
        low = a.low;
        low' = a.low';
        bytes = bytes_more s.pending y a.bytes small;
        bytes' = bytes_more t.pending y a.bytes' small;
        differ = elim a.differ [
          | inl d ↦ inl (d.0, (λ same. d.1 (append_cancel_right s.pending t.pending (y ∷ []) same)))
          | inr d ↦ inr (d.0, ap (λ (xs : List ℕ). xs ++ y ∷ []) d.1)
        ];
      } in
      subst (λ (u : Digesting). Apart u (absorbed t y)) (sym (absorbs_part s y part))
      (subst (λ (u : Digesting). Apart s' u) (sym (absorbs_part t y (λ full. part (a.size ∙ full)))) both)
]

all_apart : (s t : Digesting) (ys : List ℕ) → IsBytes ys → Apart s t → Apart (fold absorbed s ys) (fold absorbed t ys)
all_apart s t [] all a = a
all_apart s t (y ∷ ys) all a = all_apart (absorbed s y) (absorbed t y) ys all.1 (step_apart s t y all.0 a)

end_apart : (s t : Digesting) → Apart s t → finished s ≡ finished t → ⊥
end_apart s t a e = elim (cases_eq (length s.pending) 0) [
  | inl none ↦
      let ends : s.digest ≡ t.digest = sym (ends_none s none) ∙ e ∙ ends_none t (sym a.size ∙ none) in
      elim a.differ [
        | inl d ↦ d.1 (no_bytes s.pending none ∙ sym (no_bytes t.pending (sym a.size ∙ none)))
        | inr d ↦ d.0 ends
      ]
  | inr some ↦
      let ends : carried s.digest (digest_word s.pending) ≡ carried t.digest (digest_word t.pending) =
      sym (ends_some s some) ∙ e ∙ ends_some t (λ none. some (a.size ∙ none)) in
      elim a.differ [
        | inl d ↦ words_apart s.digest s.pending t.pending a.size (omega (arith, a.few)) a.bytes a.bytes' d.1
            (ends ∙ ap (λ (n : ℕ). carried n (digest_word t.pending)) (sym d.0))
        | inr d ↦ d.0 (digest_seen s.digest t.digest (digest_word t.pending) a.low a.low'
            (ap (λ (xs : List ℕ). carried s.digest (digest_word xs)) (sym d.1) ∙ ends))
      ]
]
  where
    no_bytes : (xs : List ℕ) → length xs ≡ 0 → xs ≡ []
    no_bytes [] none = refl
    no_bytes (x ∷ xs) none = let wrong : ⊥ = omega arith in absurd wrong

-- ---- A digest on its way, and two that took another byte.

record Sound (s : Digesting) : Type 0 where
  few : length s.pending < 8
  low : s.digest < 18446744073709551616
  bytes : IsBytes s.pending

step_sound : (s : Digesting) (y : ℕ) → y < 256 → Sound s → Sound (absorbed s y)
step_sound s y small sound = elim (cases_eq (length s.pending) 7) [
  | inl full ↦ subst Sound (sym (absorbs_full s y full)) (record {
    few = omega arith;
    low = carried_small s.digest (digest_word (s.pending ++ y ∷ []));
    bytes = tt;
  })
  | inr part ↦ subst Sound (sym (absorbs_part s y part)) (record {
    few = omega (arith, longer s.pending y, sound.few, part);
    low = sound.low;
    bytes = bytes_more s.pending y sound.bytes small;
  })
]

all_sound : (s : Digesting) (ys : List ℕ) → IsBytes ys → Sound s → Sound (fold absorbed s ys)
all_sound s [] all sound = sound
all_sound s (y ∷ ys) all sound = all_sound (absorbed s y) ys all.1 (step_sound s y all.0 sound)

last_once : (xs : List ℕ) (b c : ℕ) → xs ++ b ∷ [] ≡ xs ++ c ∷ [] → b ≡ c
last_once xs b c e = ap (λ (ys : List ℕ). get_or ys 0 0) (append_cancel_left xs (b ∷ []) (c ∷ []) e)

first_apart : (s : Digesting) (b c : ℕ) → Sound s → b < 256 → c < 256 → (b ≡ c → ⊥)
    → Apart (absorbed s b) (absorbed s c)
first_apart s b c sound b' c' ne = elim (cases_eq (length s.pending) 7) [
  | inl full ↦
      let p : List ℕ = s.pending ++ b ∷ [] in
      let q : List ℕ = s.pending ++ c ∷ [] in
      let s' : Digesting = record { digest = carried s.digest (digest_word p); pending = [] } in
      let t' : Digesting = record { digest = carried s.digest (digest_word q); pending = [] } in
      let both : Apart s' t' = record {
        size = refl;
        few = omega arith;
        low = carried_small s.digest (digest_word p);
        low' = carried_small s.digest (digest_word q);
        bytes = tt;
        bytes' = tt;
        differ = inr (
          words_apart s.digest p q (longer s.pending b ∙ sym (longer s.pending c))
              (omega (arith, longer s.pending b, sound.few)) (bytes_more s.pending b sound.bytes b')
              (bytes_more s.pending c sound.bytes c') (λ same. ne (last_once s.pending b c same)),
          refl,
        );
      } in
      subst (λ (u : Digesting). Apart u (absorbed s c)) (sym (absorbs_full s b full))
      (subst (λ (u : Digesting). Apart s' u) (sym (absorbs_full s c full)) both)
  | inr part ↦
      let s' : Digesting = record { digest = s.digest; pending = s.pending ++ b ∷ [] } in
      let t' : Digesting = record { digest = s.digest; pending = s.pending ++ c ∷ [] } in
      let both : Apart s' t' = record {
        size = longer s.pending b ∙ sym (longer s.pending c);
        few = omega (arith, longer s.pending b, sound.few, part);
        low = sound.low;
        low' = sound.low;
        bytes = bytes_more s.pending b sound.bytes b';
        bytes' = bytes_more s.pending c sound.bytes c';
        differ = inl (refl, (λ same. ne (last_once s.pending b c same)));
      } in
      subst (λ (u : Digesting). Apart u (absorbed s c)) (sym (absorbs_part s b part))
      (subst (λ (u : Digesting). Apart s' u) (sym (absorbs_part s c part)) both)
]

bytes_before : (xs ys : List ℕ) → IsBytes (xs ++ ys) → IsBytes xs
bytes_before [] ys all = tt
bytes_before (x ∷ xs) ys all = (all.0, bytes_before xs ys all.1)

bytes_behind : (xs ys : List ℕ) → IsBytes (xs ++ ys) → IsBytes ys
bytes_behind [] ys all = all
bytes_behind (x ∷ xs) ys all = bytes_behind xs ys all.1

-- the digest by the way that it takes
chained_by : (d : ℕ) (xs : List ℕ) (b : ℕ) (ys : List ℕ)
    → chained d (xs ++ b ∷ ys) ≡ finished (fold absorbed (absorbed (fold absorbed (begun d) xs) b) ys)
chained_by d xs b ys = sym (digests_in_pieces d (xs ++ b ∷ ys))
    ∙ ap finished (fold-append absorbed (begun d) xs (b ∷ ys))

pub byte_seen : ByteIsSeen
byte_seen d xs b c ys low all c' e = elim (cases_eq b c) [
  | inl same ↦ same
  | inr ne ↦
      let later : IsBytes (b ∷ ys) = bytes_behind xs (b ∷ ys) all in
      let s : Digesting = fold absorbed (begun d) xs in
      let sound : Sound s = all_sound (begun d) xs (bytes_before xs (b ∷ ys) all) (record { few = omega arith; low = low; bytes = tt }) in
      absurd (end_apart (fold absorbed (absorbed s b) ys) (fold absorbed (absorbed s c) ys)
      (all_apart (absorbed s b) (absorbed s c) ys later.1 (first_apart s b c sound later.0 c' ne))
      (sym (chained_by d xs b ys) ∙ e ∙ chained_by d xs c ys))
]
