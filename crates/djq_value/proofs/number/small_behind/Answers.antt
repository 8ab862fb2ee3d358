-- What is behind the spaces begins the same word as the whole, so its integer is the one in front.
use Rattle.std.proofs.Common.{rules, ◌≡◌, ◌+◌, ℤ, Some, subst, sym, to_z, of_z, w64}
use Rattle.std.proofs.lemmas.List.{take_rest}
use Rattle.djq_model.specs.Data.{Bytes}
use Rattle.djq_value.specs.Small.{IsSmallAt, IsSmallInFront}
use Rattle.djq_value.proofs.Literals.{far_small}
use Rattle.djq_value.proofs.number.small_behind.Goals as goal

pub returns-in-Some : goal.returns-in-Some
returns-in-Some c =
    let bs = c.args.bytes.now in
    let spaces = c.space_count-spaces.result in
    let value = c.in-Some.value in
    let len = c.in-Some.len in
    let same : to_z w64 (of_z w64 value) ≡ value = search rules in
    let at = subst (λ (xs : Bytes). IsSmallAt xs (Some (value, len))) (take_rest bs spaces) c.in-Some.ensures in
    subst (λ (i : ℤ). IsSmallInFront bs (Some (i, spaces + len))) (sym same)
    (far_small bs spaces len value c.space_count-spaces.ensures.within c.space_count-spaces.ensures.behind at)
