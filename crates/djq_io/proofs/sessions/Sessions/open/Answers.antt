-- The new place stands behind the others with no faults, so the counts of those before it stay.
use Rattle.std.proofs.Common.{rules, arith, ◌≡◌, ◌∷◌, [], ◌++◌, sym, false}
use Rattle.std.proofs.lemmas.Grind.{common_steps}
use Rattle.djq_io.specs.declared.sessions.Session.{Session}
use Rattle.djq_io.proofs.Hubs.{faults_after_push}
use Rattle.djq_io.proofs.sessions.Sessions.open.Goals as goal

-- The counts of the sessions before it stay.
pub returns-clause-faults : goal.returns-clause-faults
returns-clause-faults c =
    let places = c.self.inside.places.items in
    let new : Session = record { id = c.args.id; ended = false; faults = 0 } in
    let pushed : c.push.new.self.items ≡ places ++ new ∷ [] = first_of (search rules, grind (arith, common_steps)) in
    rw (pushed, sym c.self.view_is) (faults_after_push new places)
