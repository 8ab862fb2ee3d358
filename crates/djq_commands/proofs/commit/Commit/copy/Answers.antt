-- The logged lines stand in front of what is overwritten.
use Rattle.std.proofs.Common.{◌∙◌, arith, length, sym, ap, ap₂, subst, List}
use Rattle.std.proofs.lemmas.List.{length-take-le}
use Rattle.djq_model.specs.Data.{Bytes}
use Rattle.djq_commands.specs.Logging.{OpenCommit, HasRoom}
use Rattle.djq_commands.proofs.CommitLines.{copied, room_of}
use Rattle.djq_commands.proofs.commit.Commit.copy.Goals as goal

pub extend_reserved-requires : goal.extend_reserved-requires
extend_reserved-requires c =
    let room = room_of _ _ _ _ _ _ _ _ _ c.self.invariant (subst HasRoom (sym c.self.view_is) c.requires.room) in
    omega (
      arith,
      c.requires.few,
      room.bytes,
      c.truncate.ensures.spare,
      ap (λ (bs : Bytes). length bs) c.truncate.ensures.items,
      length-take-le c.self.inside.end c.self.inside.bytes.items c.self.invariant.within,
    )

pub returns : goal.returns
returns c =
    let now = copied c.self.inside.bytes.items c.truncate.new.self.items c.extend_reserved.new.self.items c.args.line.now
    c.self.inside.end c.self.inside.entries.items c.self.invariant.within c.self.invariant.placed
    c.truncate.ensures.items c.extend_reserved.ensures.items in
    ap₂ (λ (ls : List Bytes) (l : Bytes). record { lines = ls; line = l; room = c.self.inside.room }) now.0 now.1
    ∙ ap (λ (v : OpenCommit). record v { line = c.args.line.now }) c.self.view_is
