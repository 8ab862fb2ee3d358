-- What was found has the name of a command, or of none, and the rows are what that command was given.
use Rattle.std.proofs.Common.{◌≡◌, ◌∙◌, refl, sym, codes}
use Rattle.std.specs.Prelude.{Some}
use Rattle.clap.specs.Words.{first_of, found_of, rows_of}
use Rattle.clap.proofs.WalkLemmas.{first_value-rows}
use Rattle.djq_cli.specs.declared.commands.Asked.TheVariants.{Replay}
use Rattle.djq_cli.specs.Asks.{log_path_of}
use Rattle.djq_cli.proofs.Arguments.{found_is, named, asked_as, other_asked}
use Rattle.djq_cli.proofs.commands.asked_by.Goals as goal

pub returns-in-serve : goal.returns-in-serve
returns-in-serve c =
    let rows = rows_of (found_of c.in_ok-name.inner.now) in
    asked_as _ _ c.serve_asked.result
    (named rows (found_is _ _ _ c.in_ok-name.name.now rows c.in_ok-name.ensures.name c.in_ok-name.ensures.rows)
    c.in-serve.is) c.serve_asked.ensures

pub returns-in-replay : goal.returns-in-replay
returns-in-replay c =
    let f = found_of c.in_ok-name.inner.now in
    let log : first_of (codes "log") (rows_of f) ≡ log_path_of c.get_str.result = sym (first_value-rows f (codes "log"))
    ∙ sym c.get_str.ensures in
    asked_as _ _ (Some (Replay c.get_str.result))
    (named (rows_of f) (found_is _ _ _ c.in_ok-name.name.now (rows_of f) c.in_ok-name.ensures.name
    c.in_ok-name.ensures.rows) c.in-replay.is) (refl, log)

pub returns-in_default : goal.returns-in_default
returns-in_default c =
    let rows = rows_of (found_of c.in_ok-name.inner.now) in
    asked_as _ _ _ (found_is _ _ _ c.in_ok-name.name.now rows c.in_ok-name.ensures.name c.in_ok-name.ensures.rows)
    (other_asked c.in_ok-name.name.now rows c.in_default.not-run c.in_default.not-serve c.in_default.not-replay
    c.in_default.not-gen c.in_default.not-mirror)

pub returns-in-gen : goal.returns-in-gen
returns-in-gen c =
    let rows = rows_of (found_of c.in_ok-name.inner.now) in
    asked_as _ _ c.gen_asked.result
    (named rows (found_is _ _ _ c.in_ok-name.name.now rows c.in_ok-name.ensures.name c.in_ok-name.ensures.rows)
    c.in-gen.is) c.gen_asked.ensures

pub returns-in-mirror : goal.returns-in-mirror
returns-in-mirror c =
    let rows = rows_of (found_of c.in_ok-name.inner.now) in
    asked_as _ _ c.mirror_asked.result
    (named rows (found_is _ _ _ c.in_ok-name.name.now rows c.in_ok-name.ensures.name c.in_ok-name.ensures.rows)
    c.in-mirror.is) c.mirror_asked.ensures
