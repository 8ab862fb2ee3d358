-- The command set, as `clap` sees commands.
use Rattle.std.specs.Prelude.{true, Some, codes}
use Rattle.clap.specs.Words.{App, Rule, new_app, new_rule, with_rule, with_subcommand}
use Rattle.clap.specs.declared.builder.value_parser.ValueParser.TheVariants.{Unsigned}

-- the address of `serve`, which must be there
abbrev pub addr_rule : Rule
addr_rule = record (new_rule (codes "ADDR")) { required = true }

-- its number of turns, from 1 to 9223372036854775807
abbrev pub turns_rule : Rule
turns_rule = record (new_rule (codes "turns"))
    { long = Some (codes "turns"); parser = Some (Unsigned 1 9223372036854775807) }

-- the path of a log
abbrev pub log_rule : Rule
log_rule = record (new_rule (codes "log")) { long = Some (codes "log") }

-- `serve ADDR [--turns N] [--log PATH]`
abbrev pub serve_app : App
serve_app = with_rule (with_rule (with_rule (new_app (codes "serve")) addr_rule) turns_rule) log_rule

-- `replay [--log PATH]`
abbrev pub replay_app : App
replay_app = with_rule (new_app (codes "replay")) log_rule

-- the number of changes of `gen`, from 1 to 1000000, and its seed, from 0 to 2147483647, which must be
-- there
abbrev pub changes_rule : Rule
changes_rule = record (new_rule (codes "N")) { required = true; parser = Some (Unsigned 1 1000000) }

-- the seed of `gen`, from 0 to 2147483647, which must be there
abbrev pub seed_rule : Rule
seed_rule = record (new_rule (codes "SEED"))
    { required = true; parser = Some (Unsigned 0 2147483647) }

-- `gen N SEED`
abbrev pub gen_app : App
gen_app = with_rule (with_rule (new_app (codes "gen")) changes_rule) seed_rule

-- `mirror Q`, whose query must be there
abbrev pub query_rule : Rule
query_rule = record (new_rule (codes "Q")) { required = true }

-- `mirror Q`
abbrev pub mirror_app : App
mirror_app = with_rule (new_app (codes "mirror")) query_rule

-- the program, which has no help or version words, and wants one of its commands
abbrev pub bare_app : App
bare_app = let a = new_app (codes "djq") in
    record a {
      top = record a.top {
        disable_help_flag = true;
        disable_version_flag =
            true;
        disable_help_subcommand = true;
        subcommand_required = true;
      };
    }

-- the program with its commands
abbrev pub djq_app : App
djq_app = with_subcommand
    (with_subcommand (with_subcommand (with_subcommand (with_subcommand bare_app (new_app (codes "run")).top)
    serve_app.top) replay_app.top) gen_app.top) mirror_app.top
