-- Why no record stands at a gate.
use Rattle.std.proofs.Common.{◌≡◌, ℕ, ◌+◌, ◌*◌, ◌<◌, ◌≤◌, inl, inr, List, [], ◌∷◌, ◌++◌, length, take, drop}
use Rattle.std.proofs.Common.{sym, ap, ap₂, ◌∙◌, arith, length-append}
use Rattle.std.specs.Int.{from_be_bytes, w64}
use Rattle.std.proofs.Math.Seq.{take-append_seam}
use Rattle.std.proofs.lemmas.Nat.{from_be_bytes-to_be_bytes_8}
use Rattle.djq_log_format.specs.Digest.{chained}
use Rattle.djq_log_format.specs.Format.{line_entry, record_body, IsLogEnd, IsBadLog}
use Rattle.djq_log_format.proofs.Once.{content_parts, length_bytes, digest_bytes}
use Rattle.djq_log_format.proofs.Seen.{chained_small}
use Rattle.djq_log_file.specs.declared.damage.Damage.{Damage}
use Rattle.djq_log_file.specs.declared.damage.Damage.TheVariants.{Cut, Length, Lines, Digest}
use Rattle.djq_log_file.specs.Damaged.{HasDamage, DamageIsSeen}

-- the body of a group has bytes
pub body_some : (lines : List (List ℕ)) → 1 ≤ length lines → 2 ≤ length (record_body lines)
body_some [] some = let wrong : ⊥ = omega (arith, some) in absurd wrong
body_some (l ∷ ls) some = omega (arith, length-append (line_entry l) (record_body ls))

pub damage_seen : DamageIsSeen
damage_seen reason digest rest lines low damage r = by_reason reason damage
  where
    B : List ℕ
    B = record_body lines

    size : ℕ
    size = length B

    tail : List ℕ
    tail = B ++ r.behind

    is : rest ≡ r.gate ∷ (length_bytes lines ++ (digest_bytes digest lines ++ tail))
    is = r.is ∙ ap (λ (xs : List ℕ). r.gate ∷ xs) (content_parts digest lines r.behind)

    stored : from_be_bytes w64 (take 8 (drop 1 rest)) ≡ size * 257
    stored = ap (λ (xs : List ℕ). from_be_bytes w64 (take 8 (drop 1 xs))) is
        ∙ from_be_bytes-to_be_bytes_8 (size * 257) r.is_group.short

    noted : from_be_bytes w64 (take 8 (drop 9 rest)) ≡ chained digest B
    noted = ap (λ (xs : List ℕ). from_be_bytes w64 (take 8 (drop 9 xs))) is
        ∙ from_be_bytes-to_be_bytes_8 (chained digest B) (chained_small digest B low)

    there : drop 17 rest ≡ tail
    there = ap (λ (xs : List ℕ). drop 17 xs) is

    long : length rest ≡ 17 + (size + length r.behind)
    long = omega (arith, ap length is, length-append B r.behind)

    by_reason : (d : Damage) → HasDamage d digest rest → ⊥
    by_reason Cut (inl few) = omega (arith, few, long)
    by_reason Cut (inr (n, stores, few)) = omega (arith, sym stores.1 ∙ stored, few, long)
    by_reason Length none = none.1 size (omega (arith, body_some lines r.is_group.some)) stored
    by_reason Lines (n, stores, none) = none lines r.behind r.is_group.are_lines
        (omega (arith, sym stores.1 ∙ stored)) there
    by_reason Digest (n, stores, fits, differs) =
        let same : n ≡ size = omega (arith, sym stores.1 ∙ stored) in
        differs (ap (λ (xs : List ℕ). chained digest xs)
        (ap₂ (λ (k : ℕ) (xs : List ℕ). take k xs) same there ∙ take-append_seam B r.behind) ∙ sym noted)

-- Where the list doesn't end and there is a reason, the log is bad.
pub damage_bad : (reason : Damage) (digest : ℕ) (rest : List ℕ) → digest < 18446744073709551616 → (IsLogEnd rest → ⊥)
    → HasDamage reason digest rest → IsBadLog digest rest
damage_bad reason digest rest low no_end damage = record {
  no_end = no_end;
  no_record = λ lines r. damage_seen reason digest rest lines low damage r;
}
