-- With no session open no query has a cursor or a watcher, and so it is behind whatever is done.
use Rattle.std.proofs.Common.{◌∙◌, List, subst, sym}
use Rattle.djq_model.specs.Data.{Bytes, Tuple}
use Rattle.djq_protocol.specs.declared.command.Command.{Command}
use Rattle.djq_machine.specs.Keeping.{is_done, is_removal}
use Rattle.djq_machine.specs.Loading.{StoreLoads}
use Rattle.djq_store_spec.specs.Rows.{DeletesRow}
use Rattle.djq_store_spec.specs.Union.{RegistersUnion}
use Rattle.djq_core.proofs.Loads.{comes_by, drops_unused, idle_dropped, idle_enrolled, idle_outdated, idle_united}
use Rattle.djq_commands.proofs.Replies.{ok_done}
use Rattle.djq_core.proofs.serving.load.load_command.Goals as goal

pub returns-in-Add-clause-idle : goal.returns-in-Add-clause-idle
returns-in-Add-clause-idle g c =
    idle_outdated c.args.engine.now c.add-outcome.new.self _ c.requires.idle c.add-outcome.ensures.outdates
    c.add-outcome.ensures.watches

pub returns-in-Del-clause-loads : goal.returns-in-Del-clause-loads
returns-in-Del-clause-loads g c =
    subst (λ (k : Command). StoreLoads (c.args.engine.now).store k c.loaded-in-Del.result
    (c.del-outcome.new.self).store) (sym c.in-Del.is) (
      c.del-outcome.result,
      subst (λ (row : Tuple). DeletesRow (c.args.engine.now).store c.in-Del.name row c.del-outcome.result
          (c.del-outcome.new.self).store) c.as_slice-in-Del.ensures c.del-outcome.ensures.deletes,
      comes_by is_removal c.del-outcome.result c.loaded-in-Del.result c.is_removal.result c.is_removal.ensures
          c.loaded-in-Del.ensures,
    )

pub returns-in-Del-clause-idle : goal.returns-in-Del-clause-idle
returns-in-Del-clause-idle g c =
    idle_outdated c.args.engine.now c.del-outcome.new.self _ c.requires.idle c.del-outcome.ensures.outdates
    c.del-outcome.ensures.watches

pub returns-in-Query-clause-idle : goal.returns-in-Query-clause-idle
returns-in-Query-clause-idle g c =
    idle_enrolled c.args.engine.now c.query-outcome.new.self c.in-Query.query c.query-outcome.result c.requires.idle
    c.query-outcome.ensures.cursors c.query-outcome.ensures.enrols

pub returns-in-Union-clause-loads : goal.returns-in-Union-clause-loads
returns-in-Union-clause-loads g c =
    subst (λ (k : Command). StoreLoads (c.args.engine.now).store k c.loaded-in-Union.result
    (c.add_union-outcome.new.self).store) (sym c.in-Union.is) (
      c.add_union-outcome.result,
      subst (λ (members : List Bytes). RegistersUnion (c.args.engine.now).store c.in-Union.name members
          c.add_union-outcome.result (c.add_union-outcome.new.self).store) c.as_slice-in-Union.ensures
          c.add_union-outcome.ensures.registers,
      comes_by is_done c.add_union-outcome.result c.loaded-in-Union.result c.is_ok-in-Union.result
          (c.is_ok-in-Union.ensures.value ∙ ok_done c.add_union-outcome.result) c.loaded-in-Union.ensures,
    )

pub returns-in-Union-clause-idle : goal.returns-in-Union-clause-idle
returns-in-Union-clause-idle g c =
    idle_united c.args.engine.now c.add_union-outcome.new.self c.in-Union.name _ c.add_union-outcome.result
    c.requires.idle c.add_union-outcome.ensures.cursors c.add_union-outcome.ensures.enrols

pub returns-in-Drop-clause-loads : goal.returns-in-Drop-clause-loads
returns-in-Drop-clause-loads g c =
    subst (λ (k : Command). StoreLoads (c.args.engine.now).store k c.loaded-in-Drop.result
    (c.drop_query-outcome.new.self).store) (sym c.in-Drop.is) (
      c.drop_query-outcome.result,
      drops_unused c.args.engine.now c.drop_query-outcome.new.self c.in-Drop.query c.drop_query-outcome.result
          c.requires.idle c.drop_query-outcome.ensures,
      comes_by is_done c.drop_query-outcome.result c.loaded-in-Drop.result c.is_ok-in-Drop.result
          (c.is_ok-in-Drop.ensures.value ∙ ok_done c.drop_query-outcome.result) c.loaded-in-Drop.ensures,
    )

pub returns-in-Drop-clause-idle : goal.returns-in-Drop-clause-idle
returns-in-Drop-clause-idle g c =
    idle_dropped c.args.engine.now c.drop_query-outcome.new.self c.in-Drop.query c.drop_query-outcome.result
    c.requires.idle c.drop_query-outcome.ensures
