-- A digest on its way over bytes, and how a function keeps it: in eight bytes, with zeros behind those that
-- are pending.
use Rattle.std.proofs.Common.{◌≡◌, ℕ, suc, zero, ◌+◌, ◌-◌, ◌<◌, List, [], ◌∷◌, ◌++◌, length, take, drop, replicate, refl}
use Rattle.std.proofs.Common.{sym, ap, ap₂, ◌∙◌, arith, length-append, length-take, append_assoc}
use Rattle.std.specs.Prelude.{slice_set}
use Rattle.std.specs.Int.{from_be_bytes, w64}
use Rattle.std.proofs.Math.Seq.{drop-append-add, take-append_seam}
use Rattle.std.proofs.lemmas.List.{set_split}
use Rattle.std.proofs.lemmas.Bool.{ne_eqb, eq-eqb}
use Rattle.djq_log_format.specs.Digest.{Digesting, carried, absorbed, finished, words_of, digest_word, DigestsInPieces}

pub digests_in_pieces : DigestsInPieces
unfolding words_of
digests_in_pieces digest [] = refl
digests_in_pieces digest (a ∷ []) = refl
digests_in_pieces digest (a ∷ b ∷ []) = refl
digests_in_pieces digest (a ∷ b ∷ c ∷ []) = refl
digests_in_pieces digest (a ∷ b ∷ c ∷ d ∷ []) = refl
digests_in_pieces digest (a ∷ b ∷ c ∷ d ∷ e ∷ []) = refl
digests_in_pieces digest (a ∷ b ∷ c ∷ d ∷ e ∷ f ∷ []) = refl
digests_in_pieces digest (a ∷ b ∷ c ∷ d ∷ e ∷ f ∷ g ∷ []) = refl
digests_in_pieces digest (a ∷ b ∷ c ∷ d ∷ e ∷ f ∷ g ∷ h ∷ rest) =
    digests_in_pieces (carried digest (digest_word (a ∷ b ∷ c ∷ d ∷ e ∷ f ∷ g ∷ h ∷ []))) rest

pub absorbs_full : (s : Digesting) (y : ℕ) → length s.pending ≡ 7
    → absorbed s y ≡ record { digest = carried s.digest (digest_word (s.pending ++ y ∷ [])); pending = [] }
absorbs_full s y full = rw (eq-eqb (length s.pending) 7 full)

pub absorbs_part : (s : Digesting) (y : ℕ) → (length s.pending ≡ 7 → ⊥)
    → absorbed s y ≡ record { digest = s.digest; pending = s.pending ++ y ∷ [] }
absorbs_part s y part = rw (ne_eqb (length s.pending) 7 part)

pub ends_none : (u : Digesting) → length u.pending ≡ 0 → finished u ≡ u.digest
ends_none u none = rw (eq-eqb (length u.pending) 0 none)

pub ends_some : (u : Digesting) → (length u.pending ≡ 0 → ⊥) → finished u ≡ carried u.digest (digest_word u.pending)
ends_some u some = rw (ne_eqb (length u.pending) 0 some)

pub length_zeros : (n : ℕ) → length {A = ℕ} (replicate n 0) ≡ n
length_zeros zero = refl
length_zeros (suc n) = ap suc (length_zeros n)

-- The eight bytes: those that are pending, and zeros.
abbrev IsPadded : ℕ → List ℕ → Type 0
IsPadded filled bytes = bytes ≡ take filled bytes ++ replicate (8 - filled) 0

pub padded_size : (filled : ℕ) (bytes : List ℕ) → filled < 8 → IsPadded filled bytes → length (take filled bytes) ≡ filled
padded_size filled bytes few padded = omega (
  arith,
  ap length padded,
  length-append (take filled bytes) (replicate (8 - filled) 0),
  length_zeros (8 - filled),
  length-take filled bytes,
)

padded_set : (filled : ℕ) (bytes : List ℕ) (byte : ℕ) → filled < 8 → IsPadded filled bytes
    → slice_set bytes filled byte ≡ (take filled bytes ++ byte ∷ []) ++ replicate (7 - filled) 0
padded_set filled bytes byte few padded =
    let size = padded_size filled bytes few padded in
    let long : filled < length bytes = omega (
      arith,
      few,
      ap length padded,
      length_zeros (8 - filled),
      length-append (take filled bytes) (replicate (8 - filled) 0),
      size,
    ) in
    let next : suc filled ≡ length (take filled bytes) + 1 = omega (arith, size) in
    let some : 8 - filled ≡ suc (7 - filled) = omega (arith, few) in
    let behind : drop (suc filled) bytes ≡ replicate (7 - filled) 0 =
    ap₂ (λ (n : ℕ) (xs : List ℕ). drop n xs) next padded
    ∙ drop-append-add (take filled bytes) (replicate (8 - filled) 0) 1
    ∙ ap (λ (n : ℕ). drop {A = ℕ} 1 (replicate n 0)) some in
    set_split bytes filled byte long
    ∙ ap (λ (xs : List ℕ). take filled bytes ++ byte ∷ xs) behind
    ∙ sym (append_assoc (take filled bytes) (byte ∷ []) (replicate (7 - filled) 0))

pub pushed_full : (digest filled byte after : ℕ) (bytes : List ℕ) → filled < 8 → filled + 1 ≡ 8 → IsPadded filled bytes
    → after ≡ carried digest (from_be_bytes w64 (slice_set bytes filled byte))
    → record { digest = after; pending = [] } ≡ absorbed (record { digest = digest; pending = take filled bytes }) byte
pushed_full digest filled byte after bytes few full padded is =
    let taken : List ℕ = take filled bytes in
    let size = padded_size filled bytes few padded in
    let longer : length (taken ++ byte ∷ []) ≡ 8 = omega (arith, size, full, length-append taken (byte ∷ [])) in
    let none : 7 - filled ≡ 8 - length (taken ++ byte ∷ []) = omega (arith, longer, full) in
    let word : slice_set bytes filled byte ≡ (taken ++ byte ∷ []) ++ replicate (8 - length (taken ++ byte ∷ [])) 0 =
    padded_set filled bytes byte few padded
    ∙ ap (λ (n : ℕ). (taken ++ byte ∷ []) ++ replicate n 0) none in
    ap (λ (n : ℕ). made n []) (is ∙ ap (λ (xs : List ℕ). carried digest (from_be_bytes w64 xs)) word)
    ∙ sym (absorbs_full (made digest taken) byte (omega (arith, size, full)))
  where
    made : ℕ → List ℕ → Digesting
    made n xs = record { digest = n; pending = xs }

pub pushed_part : (digest filled byte : ℕ) (bytes : List ℕ) → filled < 8 → (filled + 1 ≡ 8 → ⊥) → IsPadded filled bytes
    → record { digest = digest; pending = take (filled + 1) (slice_set bytes filled byte) }
    ≡ absorbed (record { digest = digest; pending = take filled bytes }) byte
pushed_part digest filled byte bytes few part padded =
    let taken : List ℕ = take filled bytes in
    let size = padded_size filled bytes few padded in
    let longer : filled + 1 ≡ length (taken ++ byte ∷ []) = omega (arith, size, length-append taken (byte ∷ [])) in
    let first : take (filled + 1) (slice_set bytes filled byte) ≡ taken ++ byte ∷ [] =
    ap₂ (λ (n : ℕ) (xs : List ℕ). take n xs) longer (padded_set filled bytes byte few padded)
    ∙ take-append_seam (taken ++ byte ∷ []) (replicate (7 - filled) 0) in
    ap (λ (xs : List ℕ). made digest xs) first
    ∙ sym (absorbs_part (made digest taken) byte (λ full. part (omega (arith, size, full))))
  where
    made : ℕ → List ℕ → Digesting
    made n xs = record { digest = n; pending = xs }

pub finished_none : (digest filled : ℕ) (bytes : List ℕ) → filled ≡ 0
    → digest ≡ finished (record { digest = digest; pending = take filled bytes })
finished_none digest filled bytes none =
    sym (ends_none (record { digest = digest; pending = take filled bytes })
    (omega (arith, length-take filled bytes, none)))

pub finished_some : (digest filled after : ℕ) (bytes : List ℕ) → filled < 8 → (filled ≡ 0 → ⊥) → IsPadded filled bytes
    → after ≡ carried digest (from_be_bytes w64 bytes)
    → after ≡ finished (record { digest = digest; pending = take filled bytes })
finished_some digest filled after bytes few some padded is =
    let size = padded_size filled bytes few padded in
    let word : bytes ≡ take filled bytes ++ replicate (8 - length (take filled bytes)) 0 =
    padded ∙ ap (λ (n : ℕ). take filled bytes ++ replicate (8 - n) 0) (sym size) in
    is ∙ ap (λ (xs : List ℕ). carried digest (from_be_bytes w64 xs)) word
    ∙ sym (ends_some (record { digest = digest; pending = take filled bytes }) (λ none. some (sym size ∙ none)))
