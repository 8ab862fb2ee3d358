-- A row that lies in a slot is there, with the slot's copies, so it is the limit of copies that is met.
use Rattle.std.proofs.Common.{◌≡◌, ℕ, ◌+◌, refl, ap, arith}
use Rattle.djq_index.specs.Entries.{supports_of}
use Rattle.djq_database.proofs.Entries.{found}
use Rattle.djq_database.proofs.kept.Kept.add.Goals as goal

pub returns-then-copies-ge-COPIES-clause-adds : goal.returns-then-copies-ge-COPIES-clause-adds
returns-then-copies-ge-COPIES-clause-adds g c =
    let es = c.args.self.now.rows.entries in
    let u = c.args.cells.now in
    let at = c.in-Some.ensures.found in
    record {
      stay = record { width = refl; apart = c.laws.ensures };
      adds = (
        record {
          copies = λ there. omega (arith, c.copies-copies.ensures u at);
          rows = λ none. absurd (omega (arith, none, found es c.in-Some.slot u at));
        },
        refl,
      );
    }

pub returns-else-copies-ge-COPIES-clause-adds : goal.returns-else-copies-ge-COPIES-clause-adds
returns-else-copies-ge-COPIES-clause-adds g c =
    let es = c.args.self.now.rows.entries in
    let u = c.args.cells.now in
    let at = c.in-Some.ensures.found in
    let is : c.copies-copies.result ≡ supports_of es u = c.copies-copies.ensures u at in
    record {
      stay = record { width = c.recount.ensures.width; apart = c.recount.ensures.apart };
      adds = (
        found es c.in-Some.slot u at,
        ap (λ (n : ℕ). n + 1) is,
        omega arith,
        c.recount.ensures.recounted u at,
      );
    }

pub returns-in-Ok-clause-adds : goal.returns-in-Ok-clause-adds
returns-in-Ok-clause-adds g c = record {
  stay = record { width = c.push.ensures.width; apart = c.push.ensures.apart };
  adds = (
    c.in-None.ensures.found,
    omega (arith, c.len.ensures),
    c.in-Ok.ensures.came,
  );
}
