-- Where no slot is vacant each has a union, so there are fewer slots than may be, and one more fits behind.
use Rattle.std.proofs.Common.{◌≡◌, ◌<◌, ◌++◌, ◌∷◌, [], List, ℕ, ap, sym, subst, length, arith, ◌∙◌}
use Rattle.std.specs.Prelude.{Option, Some}
use Rattle.djq_protocol.specs.declared.limits.TheConstants.{QUERIES}
use Rattle.djq_store.specs.declared.joined.Joined.{Joined}
use Rattle.djq_store.specs.Filling.{FillsSlot}
use Rattle.djq_store.proofs.UnionRegistrations.{fills_set, fills_push, found_vacant, none_vacant}
use Rattle.djq_store.proofs.filling.fill_slot.Goals as goal

pub returns-clause-ok : goal.returns-clause-ok
returns-clause-ok c =
    let us = c.args.unions.now.items in
    let all = none_vacant us c.as_slice.result.now c.as_slice.ensures.value c.in_default.ensures in
    let low : length us < QUERIES = omega (arith, all, c.requires.few) in
    let long : length us ≡ c.len-slot.result = omega (
      arith,
      c.len-slot.ensures,
      c.as_slice.ensures.len,
      ap (λ (vs : List (Option Joined)). length vs)
          c.as_slice.ensures.value,
    ) in
    subst (λ (vs : List (Option Joined)). FillsSlot us vs c.len-slot.result c.args.joined)
    (sym (c.push_reserved.ensures.items
    ∙ ap (λ (vs : List (Option Joined)). vs ++ Some c.args.joined ∷ []) c.reserve.ensures.items))
    (subst (λ (k : ℕ). FillsSlot us (us ++ Some c.args.joined ∷ []) k c.args.joined) long
    (fills_push us c.args.joined low))

pub returns-in-Some-clause-ok : goal.returns-in-Some-clause-ok
returns-in-Some-clause-ok c =
    let us = c.args.unions.now.items in
    let v = found_vacant us c.as_slice.result.now c.in-Some.slot c.as_slice.ensures.value c.in-Some.ensures in
    fills_set us c.in-Some.slot c.args.joined v.0 v.1 c.requires.within
