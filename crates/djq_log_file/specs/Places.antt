-- The place of a reader in a log, and that of its end.
use Rattle.std.specs.Prelude.{ℕ}

-- the place of the next gate or the next entry, how many bytes of the record's body follow it, the digest after the
-- record, and the place of the record's gate
pub record ReadingPlace : Type 0 where
  pub at : ℕ
  pub left : ℕ
  pub digest : ℕ
  pub gate : ℕ

-- the place of the gate that ends a log, and the digest before it
pub record LogEndPlace : Type 0 where
  pub at : ℕ
  pub digest : ℕ
