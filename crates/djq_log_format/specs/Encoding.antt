-- The body of a record as it is measured, line by line.
use Rattle.std.specs.Prelude.{ℕ, List, length}
use Rattle.std.specs.List.{fold}
use Rattle.djq_log_format.specs.Digest.{Digesting, begun, absorbed}
use Rattle.djq_log_format.specs.Format.{record_body}

-- how many bytes a body has so far, and the digest on its way over them
pub record Measured : Type 0 where
  pub size : ℕ
  pub digesting : Digesting

-- the body of these lines, measured, if this is the digest of what precedes the record
abbrev pub measured : ℕ → List (List ℕ) → Measured
measured digest lines =
    record { size = length (record_body lines); digesting = fold absorbed (begun digest) (record_body lines) }
