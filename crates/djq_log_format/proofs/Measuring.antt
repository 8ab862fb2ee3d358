-- A body that is measured line by line.
use Rattle.std.proofs.Common.{◌≡◌, ℕ, ◌+◌, List, [], ◌∷◌, ◌++◌, length, sym, ap, ap₂, ◌∙◌, arith, length-append, append-nil}
use Rattle.std.specs.List.{fold}
use Rattle.std.proofs.lemmas.Grind.{flat_map-append}
use Rattle.std.proofs.lemmas.List.Sums.{fold-append}
use Rattle.djq_log_format.specs.Digest.{Digesting, begun, absorbed, finished, chained}
use Rattle.djq_log_format.specs.Format.{line_entry, record_body}
use Rattle.djq_log_format.specs.Encoding.{Measured, measured}
use Rattle.djq_log_format.proofs.Digesting.{digests_in_pieces}

made : ℕ → Digesting → Measured
made size digesting = record { size = size; digesting = digesting }

pub body_next : (lines : List (List ℕ)) (line : List ℕ) → record_body (lines ++ line ∷ []) ≡ record_body lines ++ line_entry line
body_next lines line = flat_map-append line_entry lines (line ∷ [])
    ∙ ap (λ (xs : List ℕ). record_body lines ++ xs) (append-nil (line_entry line))

-- with a line more
pub measured_next : (digest : ℕ) (lines : List (List ℕ)) (line head : List ℕ) (old new : Measured)
    → old ≡ measured digest lines → head ++ line ≡ line_entry line → new.size ≡ old.size + (2 + length line)
    → new.digesting ≡ fold absorbed (fold absorbed old.digesting head) line → new ≡ measured digest (lines ++ line ∷ [])
unfolding made
measured_next digest lines line head old new is entry size digesting = ap₂ made long taken
  where
    body : List ℕ
    body = record_body lines

    long : new.size ≡ length (record_body (lines ++ line ∷ []))
    long = omega (
      arith,
      size,
      ap (λ (m : Measured). m.size) is,
      ap length (body_next lines line),
      length-append body (line_entry line),
    )

    taken : new.digesting ≡ fold absorbed (begun digest) (record_body (lines ++ line ∷ []))
    taken = digesting
        ∙ sym (fold-append absorbed old.digesting head line)
        ∙ ap₂ (λ (s : Digesting) (xs : List ℕ). fold absorbed s xs) (ap (λ (m : Measured). m.digesting) is) entry
        ∙ sym (fold-append absorbed (begun digest) body (line_entry line))
        ∙ ap (λ (xs : List ℕ). fold absorbed (begun digest) xs) (sym (body_next lines line))

-- the digest of a body that was measured
pub measured_digest : (digest : ℕ) (lines : List (List ℕ)) (now : Measured) → now ≡ measured digest lines
    → finished now.digesting ≡ chained digest (record_body lines)
measured_digest digest lines now is = ap (λ (m : Measured). finished m.digesting) is
    ∙ digests_in_pieces digest (record_body lines)
