-- Heads of different lengths have lists of types of different lengths, and these aren't the same.
use Rattle.std.proofs.Common.{◌≡◌, ℕ, Bool, true, false, List, [], ◌∷◌, length, map, refl, arith}
use Rattle.std.specs.Prelude.{◌&&◌}
use Rattle.djq_model.specs.declared.relation.ColumnType.{ColumnType}
use Rattle.djq_model.specs.Typed.{same_type}
use Rattle.djq_store_spec.specs.Union.{same_types}
use Rattle.djq_binder.specs.Asked.{column_of}
use Rattle.djq_live_query.proofs.member.same_columns.Goals as goal

last_false : (a b : Bool) → false ≡ b → false ≡ (a && b)
last_false true b e = e
last_false false b e = refl

-- lists of other lengths aren't the same
apart : (f g : ℕ → ColumnType) (xs ys : List ℕ) → (length xs ≡ length ys → ⊥)
    → false ≡ same_types (map f xs) (map g ys)
apart f g [] [] d = absurd (d refl)
apart f g [] (y ∷ ys) d = refl
apart f g (x ∷ xs) [] d = refl
apart f g (x ∷ xs) (y ∷ ys) d =
    last_false (same_type (f x) (g y)) (same_types (map f xs) (map g ys))
    (apart f g xs ys (λ e. d (omega arith)))

pub returns-then-head-other_head : goal.returns-then-head-other_head
returns-then-head-other_head c =
    apart (column_of c.args.variables.now) (column_of c.args.others.now) c.args.head.now
    c.args.other_head.now c.if-head-other_head.true
