-- Why a log is bad at a gate.
use Rattle.std.specs.Prelude.{◌≡◌, ℕ, ◌+◌, ◌*◌, ◌<◌, ◌≤◌, ◌⊎◌, List, ◌++◌, length, take, drop}
use Rattle.std.specs.List.{AllByRecursion}
use Rattle.std.specs.Int.{from_be_bytes, w64}
use Rattle.djq_log_format.specs.Digest.{chained}
use Rattle.djq_log_format.specs.Format.{IsLogLine, record_body, IsLogRecord}
use Rattle.djq_log_file.specs.declared.damage.Damage.{Damage}
use Rattle.djq_log_file.specs.declared.damage.Damage.TheVariants.{Cut, Length, Lines, Digest}

-- There is a gate, and the eight bytes after it store this length.
abbrev pub StoresLength : ℕ → List ℕ → Type 0
StoresLength n rest = (9 ≤ length rest) × (from_be_bytes w64 (take 8 (drop 1 rest)) ≡ n * 257)

-- The file ends in the head of a record, or in a body of the length that is stored.
abbrev pub EndsEarly : List ℕ → Type 0
EndsEarly rest = (length rest < 17) ⊎ ((n : ℕ) × StoresLength n rest × (length rest < 17 + n))

-- There is a gate, and the eight bytes after it store no length of a body.
abbrev pub StoresNone : List ℕ → Type 0
StoresNone rest = (9 ≤ length rest) × ((n : ℕ) → 1 ≤ n → from_be_bytes w64 (take 8 (drop 1 rest)) ≡ n * 257 → ⊥)

-- No lines have a body that is here, and has this length.
abbrev pub HasNoLines : ℕ → List ℕ → Type 0
HasNoLines size rest = (lines : List (List ℕ)) (behind : List ℕ) → AllByRecursion IsLogLine lines
    → length (record_body lines) ≡ size → rest ≡ record_body lines ++ behind → ⊥

-- Why there is no record at a gate, after this digest, if these are the bytes of the file from the gate on: the
-- file ends before the record does; or no length is stored; or the body isn't lines; or it has another digest than
-- the one that is stored.
abbrev pub HasDamage : Damage → ℕ → List ℕ → Type 0
HasDamage Cut digest rest = EndsEarly rest
HasDamage Length digest rest = StoresNone rest
HasDamage Lines digest rest = (n : ℕ) × StoresLength n rest × HasNoLines n (drop 17 rest)
HasDamage Digest digest rest = (n : ℕ) × StoresLength n rest × (17 + n ≤ length rest)
    × (chained digest (take n (drop 17 rest)) ≡ from_be_bytes w64 (take 8 (drop 9 rest)) → ⊥)

-- If one of these holds there is no record at the gate.
abbrev pub DamageIsSeen : Type 0
DamageIsSeen = (reason : Damage) (digest : ℕ) (rest : List ℕ) (lines : List (List ℕ)) → digest < 18446744073709551616
    → HasDamage reason digest rest → IsLogRecord digest lines rest → ⊥
