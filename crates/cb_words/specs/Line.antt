-- The command line as one simple command: an action, files, a limit and a seed.
use Rattle.std.specs.Prelude.{true, Some, codes}
use Rattle.clap.specs.Words.{App, Rule, new_rule, new_app, with_rule}
use Rattle.clap.specs.Simple.{on_top}
use Rattle.clap.specs.Lexer.{usize_max}
use Rattle.clap.specs.declared.builder.ArgAction.TheVariants.{Set, Append}

abbrev pub action_rule : Rule
action_rule = record (new_rule (codes "action")) { required = true; action = Some Set }

abbrev pub files_rule : Rule
files_rule = record (new_rule (codes "files")) {
  action = Some Append;
  range = Some (record { start_inclusive = 0; end_inclusive = usize_max });
}

abbrev pub limit_rule : Rule
limit_rule = record (new_rule (codes "limit")) { long = Some (codes "limit"); action = Some Set }

abbrev pub seed_rule : Rule
seed_rule = record (new_rule (codes "seed")) { long = Some (codes "seed"); action = Some Set }

-- no program's name among the words, and no help or version flag
abbrev pub plain_app : App
plain_app = on_top (λ s. record s { no_binary_name = true; disable_help_flag = true; disable_version_flag = true }) (new_app (codes "cspb"))

unfoldable pub line_app : App
line_app = with_rule (with_rule (with_rule (with_rule plain_app action_rule) files_rule) limit_rule) seed_rule
