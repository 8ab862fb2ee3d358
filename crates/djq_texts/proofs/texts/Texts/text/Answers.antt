-- What is in use was given, and what was read there is its text.
use Rattle.std.proofs.Common.{subst, arith, Option, IsSome}
use Rattle.djq_texts.specs.Known.{Known}
use Rattle.djq_texts.proofs.Known.{read_known}
use Rattle.djq_texts.proofs.InUse.{in_use_within, numbered}
use Rattle.djq_texts.proofs.texts.Texts.text.Goals as goal

pub index-requires : goal.index-requires
index-requires c = omega (
  arith,
  in_use_within c.self.inside.store.entries.items c.args.number (rw (← c.self.view_is) at c.requires),
  c.self.inside.store.entries.ok.0,
)

pub bytes-requires : goal.bytes-requires
bytes-requires c =
    let some = rw (← c.self.view_is) at c.requires in
    subst (λ (e : Option Known). IsSome e)
    (read_known c.self.inside.store.entries.items c.args.number c.index.result.now
    (in_use_within c.self.inside.store.entries.items c.args.number some) c.index.ensures) some

pub returns : goal.returns
returns c =
    let some = rw (← c.self.view_is) at c.requires in
    rw (← c.self.view_is)
    (numbered c.self.inside.store.entries.items c.args.number c.index.result.now _ some
    (read_known c.self.inside.store.entries.items c.args.number c.index.result.now
    (in_use_within c.self.inside.store.entries.items c.args.number some) c.index.ensures) c.bytes.ensures)
