use Rattle.std.proofs.Common.{◌≡◌, ℕ, List, true, length, take}
use Rattle.std.specs.Prelude.{slice_index}
use Rattle.std.specs.List.{list_any}
use Rattle.djq_query.specs.Pattern.{filled, is_place}
use Rattle.djq_query.proofs.pattern.Pattern.write.Given as goal

abbrev pub invariant-columns : goal.invariant-columns
invariant-columns l = record {
  wide : length l.tuple ≡ l.self.width;
  read : (u : List ℕ) → filled u l.self.slots ≡ l.row → (p : ℕ) → list_any (is_place p) (take l.i l.self.slots) ≡ true
      → slice_index l.tuple p ≡ slice_index u p;
}
