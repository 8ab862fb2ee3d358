-- What is in use was given, and has at least one use.
use Rattle.std.proofs.Common.{◌<◌, ◌∙◌, sym, ap, subst, arith, Option, IsSome, ℕ}
use Rattle.djq_texts.specs.Known.{Known, uses_of}
use Rattle.djq_texts.proofs.Known.{read_known}
use Rattle.djq_texts.proofs.InUse.{in_use_within, used_some}
use Rattle.djq_texts.proofs.texts.Texts.uses.Goals as goal

pub index-requires : goal.index-requires
index-requires c = omega (
  arith,
  in_use_within c.self.inside.store.entries.items c.args.number (rw (← c.self.view_is) at c.requires),
  c.self.inside.store.entries.ok.0,
)

pub returns-clause-uses : goal.returns-clause-uses
returns-clause-uses c =
    let some = rw (← c.self.view_is) at c.requires in
    rw (← c.self.view_is)
    (c.uses.ensures.uses ∙ ap (λ (e : Option Known). uses_of e)
    (sym (read_known c.self.inside.store.entries.items c.args.number c.index.result.now
    (in_use_within c.self.inside.store.entries.items c.args.number some) c.index.ensures)))

pub returns-clause-some : goal.returns-clause-some
returns-clause-some c =
    let some = rw (← c.self.view_is) at c.requires in
    let read = read_known c.self.inside.store.entries.items c.args.number c.index.result.now
    (in_use_within c.self.inside.store.entries.items c.args.number some) c.index.ensures in
    subst (λ (n : ℕ). 0 < n) (sym c.uses.ensures.uses)
    (used_some c.index.result.now (subst (λ (e : Option Known). IsSome e) read some) c.uses.ensures.used)
