-- When two tuples are the same.
use Rattle.std.specs.Prelude.{◌≡◌, ℕ, true, List}
use Rattle.std.proofs.lemmas.Slice.Eq.{bytes_eq-Decides}
use Rattle.djq_forest.specs.Tuple.{same_tuple}

pub same_is : (u v : List ℕ) → same_tuple u v ≡ true → u ≡ v
unfolding same_tuple
same_is u v h = (bytes_eq-Decides u v).0 h

pub is_same : (u v : List ℕ) → u ≡ v → same_tuple u v ≡ true
unfolding same_tuple
is_same u v h = (bytes_eq-Decides u v).1 h
