-- A set's fields, made of its variables.
use Rattle.std.specs.Prelude.{◌≡◌, ℕ, ◌^◌, ◌<◌, List}
use Rattle.std.proofs.Common.{ap, sym, ◌∙◌}
use Rattle.djq_hypergraph.specs.declared.var_set.TheConstants.{VARIABLES}
use Rattle.djq_hypergraph.specs.declared.var_set.VarSet.TheInside.{Inside}
use Rattle.djq_hypergraph.specs.Masks.{mask_variables, mask_of, mask_back}

-- the set of a list's variables
unfoldable pub set_of : List ℕ → Inside
set_of l = record { mask = mask_of l }

-- the variables of a set make the set again
pub set_back : (a : Inside) → a.mask < 2 ^ VARIABLES → set_of (mask_variables a.mask) ≡ a
unfolding set_of
set_back a fits = ap (λ (n : ℕ). let r : Inside = record { mask = n } in r) (mask_back a.mask fits)

-- for the derived `==`
pub mask_seen : (n : ℕ) (l : List ℕ) → mask_variables n ≡ l → n < 2 ^ VARIABLES → (set_of l).mask ≡ n
unfolding set_of
mask_seen n l e fits = ap mask_of (sym e) ∙ mask_back n fits
