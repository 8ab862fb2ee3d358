-- The key at the place is that of the session's slot.
use Rattle.std.proofs.Common.{arith, refl, sym, subst, List}
use Rattle.djq_commands.specs.declared.open.OpenSession.{OpenSession}
use Rattle.djq_core.specs.Sessions.{QuietOutside, opened_at}
use Rattle.djq_core.proofs.Placed.{get_placed, key_holds, key_within, lent_placed}
use Rattle.djq_core.proofs.Quiet.{quiet_put}
use Rattle.djq_core.proofs.sessions.Sessions.get_mut.Goals as goal

pub index-key-requires : goal.index-key-requires
index-key-requires c = omega (
  arith,
  key_within _ _ _ _ _ _ c.args.at c.self.invariant.0 c.self.view_is c.requires,
  c.self.inside.keys.ok.0,
)

pub include-requires : goal.include-requires
include-requires c = omega (
  arith,
  key_within _ _ _ _ _ _ c.args.at c.self.invariant.0 c.self.view_is c.requires,
  c.self.inside.keys.ok.0,
)

pub index_mut-requires : goal.index_mut-requires
index_mut-requires c = key_holds _ _ _ _ _ _ c.args.at c.index-key.result.now c.self.invariant.0 c.self.view_is c.requires
    c.index-key.ensures

pub invariant_of-self-lent : goal.invariant_of-self-lent
invariant_of-self-lent c w =
    let lent = lent_placed _ _ _ _ _ _ c.args.at c.index-key.result.now w c.self.invariant.0 c.self.view_is c.requires
    c.index-key.ensures in
    let quiet = subst (λ (xs : List OpenSession). QuietOutside xs c.self.inside.ready_from c.self.inside.ready_to)
    c.self.view_is c.self.invariant.1 in (
      lent.1,
      subst (λ (xs : List OpenSession). QuietOutside xs c.include.new.from c.include.new.to) (sym lent.0)
          (quiet_put c.args.self.now c.args.at (opened_at c.args.self.now c.args.at w) c.self.inside.ready_from
          c.self.inside.ready_to c.include.new.from c.include.new.to quiet c.include.ensures.low.0
          c.include.ensures.high.0 c.include.ensures.low.1 c.include.ensures.high.1),
    )

pub returns : goal.returns
returns c = (
  (
    refl,
    λ w. (lent_placed _ _ _ _ _ _ c.args.at c.index-key.result.now w c.self.invariant.0 c.self.view_is c.requires
        c.index-key.ensures).0,
  ),
  record {
    writes_back = tt;
    value = get_placed _ _ _ _ _ _ c.args.at c.index-key.result.now c.index_mut.result.now c.self.invariant.0
        c.self.view_is c.requires c.index-key.ensures c.index_mut.ensures.value;
  },
)
