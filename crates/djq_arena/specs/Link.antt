-- A slot's number or none, as one number.
use Rattle.std.specs.Prelude.{◌≡◌, ℕ, Bool, true, false, cond, ◌==◌, Option, Some, None, refl}
use Rattle.std.proofs.Common.{ap, sym, eqb-true}
use Rattle.djq_arena.specs.declared.link.Link.TheInside.{Inside}
use Rattle.djq_arena.specs.declared.link.TheConstants.{SLOTS}

-- the link of a number: none for the highest one
abbrev pub link_number : ℕ → Option ℕ
link_number n = cond (n == SLOTS) None (Some n)

-- its number
abbrev pub number : Option ℕ → ℕ
number None = SLOTS
number (Some n) = n

back : (n : ℕ) (b : Bool) → (n == SLOTS) ≡ b → number (cond b None (Some n)) ≡ n
back n true h = sym (eqb-true n SLOTS h)
back n false h = refl

-- the number of a link's slot, or of none, is the link's own
pub shown_back : (l : Inside) → record { slot = number (link_number l.slot) } ≡ l
shown_back l = ap (λ (n : ℕ). record { slot = n }) (back l.slot (l.slot == SLOTS) refl)
