-- Each command that is added comes behind those before it, and none of them has an argument for all.
use Rattle.std.proofs.Common.{rules, ◌≡◌, ◌∙◌, ◌||◌, false, ap, ap₂}
use Rattle.std.proofs.lemmas.Result.{IfOk-weaker}
use Rattle.clap.specs.Words.{App, app_of, with_subcommand}
use Rattle.clap.specs.declared.builder.command.Command.TheViews.{out-Command as fields_of}
use Rattle.djq_cli.specs.Commands.{bare_app}
use Rattle.djq_cli.proofs.commands.djq_command.Goals as goal

pub returns-clause-app : goal.returns-clause-app
returns-clause-app c =
    let bare : app_of c.subcommand_required-bare.result ≡ bare_app = search rules in
    let run = c.in_ok-subcommand.ensures.shape c.new-2.ensures.local
    ∙ ap₂ with_subcommand bare (ap (λ (a : App). a.top) c.new-2.ensures.app) in
    let serve = c.in_ok-subcommand-2.ensures.shape c.in_ok-serve.ensures.local
    ∙ ap₂ with_subcommand run (ap (λ (a : App). a.top) c.in_ok-serve.ensures.app) in
    let replay = c.in_ok-subcommand-3.ensures.shape c.in_ok-replay.ensures.local
    ∙ ap₂ with_subcommand serve (ap (λ (a : App). a.top) c.in_ok-replay.ensures.app) in
    let load = c.in_ok-subcommand-4.ensures.shape c.in_ok-load.ensures.local
    ∙ ap₂ with_subcommand replay (ap (λ (a : App). a.top) c.in_ok-load.ensures.app) in
    IfOk-weaker c.subcommand-5.result _ _
    (λ r h. h.shape c.in_ok-mirror.ensures.local
    ∙ ap₂ with_subcommand load (ap (λ (a : App). a.top) c.in_ok-mirror.ensures.app)) c.subcommand-5.ensures

pub returns-clause-local : goal.returns-clause-local
returns-clause-local c =
    let bare : (fields_of c.subcommand_required-bare.result).has_globals ≡ false = search rules in
    let run = c.in_ok-subcommand.ensures.globals ∙ ap₂ (λ a b. a || b) bare c.new-2.ensures.local in
    let serve = c.in_ok-subcommand-2.ensures.globals ∙ ap₂ (λ a b. a || b) run c.in_ok-serve.ensures.local in
    let replay = c.in_ok-subcommand-3.ensures.globals ∙ ap₂ (λ a b. a || b) serve c.in_ok-replay.ensures.local in
    let load = c.in_ok-subcommand-4.ensures.globals ∙ ap₂ (λ a b. a || b) replay c.in_ok-load.ensures.local in
    IfOk-weaker c.subcommand-5.result _ _ (λ r h. h.globals ∙ ap₂ (λ a b. a || b) load c.in_ok-mirror.ensures.local)
    c.subcommand-5.ensures
