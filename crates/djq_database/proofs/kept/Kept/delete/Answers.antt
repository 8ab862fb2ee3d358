-- A row that lies in a slot is there, with the slot's copies, of which there is one at least.
use Rattle.std.proofs.Common.{◌≡◌, ◌≤◌, arith}
use Rattle.djq_index.specs.Entries.{supports_of}
use Rattle.djq_database.proofs.Entries.{found, some_copy}
use Rattle.djq_database.proofs.kept.Kept.delete.Goals as goal

pub returns-then-copies-gt1-clause-deletes : goal.returns-then-copies-gt1-clause-deletes
returns-then-copies-gt1-clause-deletes g c =
    let es = c.args.self.now.rows.entries in
    let u = c.args.cells.now in
    let at = c.in-Some.ensures.found in
    let is : c.copies-copies.result ≡ supports_of es u = c.copies-copies.ensures u at in
    record {
      stay = record { width = c.recount.ensures.width; apart = c.recount.ensures.apart };
      deletes = (
        found es c.in-Some.slot u at,
        omega (arith, is),
        omega arith,
        c.recount.ensures.recounted u at,
      );
    }

pub returns-else-copies-gt1-clause-deletes : goal.returns-else-copies-gt1-clause-deletes
returns-else-copies-gt1-clause-deletes g c =
    let es = c.args.self.now.rows.entries in
    let u = c.args.cells.now in
    let at = c.in-Some.ensures.found in
    let some : 1 ≤ supports_of es u = some_copy es u c.requires.copied (found es c.in-Some.slot u at) in
    record {
      stay = record { width = c.remove.ensures.width; apart = c.remove.ensures.apart };
      deletes = (
        omega (arith, c.copies-copies.ensures u at, some),
        c.remove.ensures.went u at,
      );
    }
