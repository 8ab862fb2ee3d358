-- As each slot has an entry, all of them are those that went into the buckets.
use Rattle.std.proofs.Common.{arith, sym, ◌∙◌, ap, subst, refl, ℕ, length, replicate, None}
use Rattle.djq_forest.specs.Index.{AreListed, key_bucket}
use Rattle.djq_forest.proofs.IndexChanges.{relisted, length_none}
use Rattle.djq_forest.proofs.index.Index.add_buckets.Goals as goal

pub list_all-requires-clause-some : goal.list_all-requires-clause-some
list_all-requires-clause-some c = omega
    (arith, length_none _ _ c.in_ok-heads.ensures, c.len-count.ensures, c.args.self.now.heads.ok.0, c.requires.index.some)

pub list_all-requires-clause-empty : goal.list_all-requires-clause-empty
list_all-requires-clause-empty c = c.in_ok-heads.ensures
    ∙ ap (λ (n : ℕ). replicate n None) (sym (length_none _ _ c.in_ok-heads.ensures))

pub returns : goal.returns
returns c = relisted c.args.self.now _ c.args.slots.now.tuples c.requires.index c.requires.full refl refl
    c.list_all.ensures.links
    (omega (
      arith,
      c.list_all.ensures.heads,
      length_none _ _ c.in_ok-heads.ensures,
      c.len-count.ensures,
      c.args.self.now.heads.ok.0,
      c.requires.index.some,
    ))
    (subst (λ (n : ℕ). AreListed (key_bucket n c.args.slots.now.tuples) c.list_all.new.links.items
    c.list_all.new.heads.items (length c.args.slots.now.tuples)) (sym c.list_all.ensures.heads)
    c.list_all.ensures.listed)
