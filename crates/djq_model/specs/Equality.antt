-- The tests of equality decide it.
use Rattle.std.proofs.Common.{◌≡◌, refl, ap}
use Rattle.std.specs.Bool.{Decides}
use Rattle.std.specs.Cmp.{IsPartialEquivalence, decided, partial_equiv_from_equiv}
use Rattle.std.proofs.lemmas.Bool.Decides.{Decides-int_eq}
use Rattle.std.proofs.lemmas.Slice.Eq.{bytes_eq-Decides, slice_eq-Decides}
use Rattle.djq_model.specs.declared.value.Value.{Value}
use Rattle.djq_model.specs.declared.value.Value.TheVariants.{Int, Text}
use Rattle.djq_model.specs.Data.{Bytes, Tuple, bytes_eq, tuple_eq, value_eq}

-- two texts or names
pub bytes_eq-decides : (s t : Bytes) → Decides (bytes_eq s t) (s ≡ t)
bytes_eq-decides = bytes_eq-Decides

-- two values
pub value_eq-decides : (v w : Value) → Decides (value_eq v w) (v ≡ w)
value_eq-decides (Int i) (Int j) =
    let d = Decides-int_eq i j in (λ e. ap (λ k. Int k) (d.0 e), λ e. d.1 (cc))
value_eq-decides (Text s) (Text t) =
    let d = bytes_eq-Decides s t in (λ e. ap (λ u. Text u) (d.0 e), λ e. d.1 (cc))
value_eq-decides (Int i) (Text t) = (λ e. absurd (cc), λ e. absurd (cc))
value_eq-decides (Text s) (Int j) = (λ e. absurd (cc), λ e. absurd (cc))

-- two tuples
pub tuple_eq-decides : (s t : Tuple) → Decides (tuple_eq s t) (s ≡ t)
tuple_eq-decides s t = slice_eq-Decides value_eq-decides s t (tuple_eq s t) refl

-- the test of two values is symmetric and transitive
pub value_eq_laws : IsPartialEquivalence value_eq
value_eq_laws = partial_equiv_from_equiv (decided value_eq value_eq-decides)
