-- With two cells, each place of the list holds the first, the second or what was there: place by place.
use Rattle.std.proofs.Common.{◌+◌, arith, rules, get_or-set_same, get_or-set_other, length-set}
use Rattle.std.proofs.lemmas.Bool.{cases_eq}
use Rattle.std.proofs.lemmas.List.{places, same_lists}
use Rattle.djq_arena.proofs.store.overwrite.Goals as goal

pub returns-in-len2 : goal.returns-in-len2
returns-in-len2 c =
    same_lists _ _ (search (rules, places))
    (λ k d h. grind (
      arith,
      places,
      get_or-set_same,
      get_or-set_other,
      length-set,
      cases_eq k c.args.from,
      cases_eq
          k (c.args.from + 1),
    ))
