-- The digest of bytes, by words of eight.
use Rattle.std.specs.Prelude.{◌≡◌, ℕ, ◌+◌, ◌-◌, ◌*◌, ◌/◌, ◌%◌, ◌<◌, ◌==◌, List, [], ◌∷◌, ◌++◌, length, replicate, if◌then◌else◌}
use Rattle.std.specs.List.{fold, AllByRecursion}
use Rattle.std.specs.Int.{from_be_bytes, w64}

-- the word of up to eight bytes: the number that they make, the greatest first, filled up by zeros
abbrev pub digest_word : List ℕ → ℕ
digest_word bytes = from_be_bytes w64 (bytes ++ replicate (8 - length bytes) 0)

-- the words of bytes: of each eight, and of the fewer that are left
unfoldable pub words_of : List ℕ → List ℕ
words_of [] = []
words_of (a ∷ b ∷ c ∷ d ∷ e ∷ f ∷ g ∷ h ∷ rest) = digest_word (a ∷ b ∷ c ∷ d ∷ e ∷ f ∷ g ∷ h ∷ []) ∷ words_of rest
words_of (byte ∷ few) = digest_word (byte ∷ few) ∷ []

-- a number of eight bytes, its upper half and its lower half exchanged
abbrev pub halves_exchanged : ℕ → ℕ
halves_exchanged n = n % 4294967296 * 4294967296 + n / 4294967296

-- a digest carried on over a word
abbrev pub carried : ℕ → ℕ → ℕ
carried digest word =
    halves_exchanged ((digest * 6364136223846793005 % 18446744073709551616 + word) % 18446744073709551616)

-- a digest carried on over bytes
abbrev pub chained : ℕ → List ℕ → ℕ
chained digest bytes = fold carried digest (words_of bytes)

-- A digest in progress over bytes: carried on over their whole words, and the bytes after these, fewer
-- than eight.
pub record Digesting : Type 0 where
  pub digest : ℕ
  pub pending : List ℕ

-- on its way from this digest, over no bytes
abbrev pub begun : ℕ → Digesting
begun digest = record { digest = digest; pending = [] }

-- on its way over one byte more
abbrev pub absorbed : Digesting → ℕ → Digesting
absorbed so_far byte = if length so_far.pending == 7
    then record { digest = carried so_far.digest (digest_word (so_far.pending ++ byte ∷ [])); pending = [] }
    else record { digest = so_far.digest; pending = so_far.pending ++ byte ∷ [] }

-- the digest of all: carried on over what is pending, if anything is
abbrev pub finished : Digesting → ℕ
finished so_far = if length so_far.pending == 0 then so_far.digest else carried so_far.digest (digest_word so_far.pending)

-- A digest on its way over bytes, however they are cut into pieces, ends as that of all of them.
abbrev pub DigestsInPieces : Type 0
DigestsInPieces = (digest : ℕ) (bytes : List ℕ) → finished (fold absorbed (begun digest) bytes) ≡ chained digest bytes

-- A digest sees a change within one byte, whatever precedes it and follows it.
abbrev pub ByteIsSeen : Type 0
ByteIsSeen = (digest : ℕ) (before : List ℕ) (byte other : ℕ) (behind : List ℕ) → digest < 18446744073709551616
    → AllByRecursion (λ b. b < 256) (before ++ byte ∷ behind) → other < 256
    → chained digest (before ++ byte ∷ behind) ≡ chained digest (before ++ other ∷ behind) → byte ≡ other
