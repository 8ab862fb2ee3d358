-- The next change of a load.
use Rattle.std.proofs.Common.{◌≡◌, ℕ, zero, suc, ◌+◌, ◌-◌, ◌∷◌, ◌++◌, refl, sub-one}
use Rattle.djq_load.specs.Draws.{next, drawn}
use Rattle.djq_load.specs.Load.{change, changes, pause}

-- where some are left, the first of them comes
pub changes-first : (values state done left : ℕ) → (left ≡ 0 → ⊥) → changes values state done left
    ≡ change values (drawn (next state)) (drawn (next (next state))) (drawn (next (next (next state)))) ∷
    (pause (done + 1) ++ changes values (next (next (next state))) (done + 1) (left - 1))
changes-first values state done zero some = absurd (some refl)
changes-first values state done (suc left) some = rw sub-one refl
