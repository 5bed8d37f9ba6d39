-- The command line, as clap sees it.
use Rattle.std.specs.Prelude.{ℕ, List, [], ◌∷◌, codes, Some, true}
use Rattle.clap.specs.Walk.{Rule}
use Rattle.clap.specs.Simple.{App, new_app, new_rule, with_rule, with_subcommand, on_top}
use Rattle.clap.specs.declared.builder.action.ArgAction.TheVariants.{Append}
use Rattle.clap.specs.declared.builder.value_parser.ValueParser.TheVariants as vp

-- `--name N`, with N up to `most`, and its default
abbrev pub number_rule : List ℕ → ℕ → List ℕ → Rule
number_rule name most given = record (new_rule name) {
  long = Some name;
  parser = Some (vp.Unsigned 0 most);
  defaults = given ∷ [];
}

abbrev pub ticks_rule : Rule
ticks_rule = number_rule (codes "ticks") 1000000 (codes "2000")

abbrev pub small_rule : Rule
small_rule = number_rule (codes "small") 10000 (codes "30")

abbrev pub grow_rule : Rule
grow_rule = number_rule (codes "grow") 10000 (codes "300")

-- `--out PREFIX`, by default the folder of the run
abbrev pub out_rule : Rule
out_rule = record (new_rule (codes "out")) {
  long = Some (codes "out");
  defaults = codes "./" ∷ [];
}

-- one or more names of files
abbrev pub files_rule : Rule
files_rule = record (new_rule (codes "files")) {
  action = Some Append;
  required = true;
}

-- a command with the three numbers
abbrev pub tuned_app : List ℕ → App
tuned_app name = with_rule (with_rule (with_rule (new_app name) ticks_rule) small_rule) grow_rule

abbrev pub build_app : App
build_app = with_rule (with_rule (tuned_app (codes "build")) out_rule) files_rule

-- the same, but for the place of what is written: nothing is
abbrev pub why_app : App
why_app = with_rule (tuned_app (codes "why")) files_rule

abbrev pub lint_app : App
lint_app = with_rule (new_app (codes "lint")) files_rule

-- the command above the others, with no request for help
abbrev pub top_app : App
top_app = on_top (λ s. record s { no_binary_name = true; disable_help_flag = true; disable_help_subcommand = true; subcommand_required = true })
    (new_app (codes "coreopt"))

-- the whole command line: one of three commands
abbrev pub coreopt_app : App
coreopt_app = with_subcommand (with_subcommand (with_subcommand top_app build_app.top) why_app.top) lint_app.top
