-- What the words of a command line ask for.
use Rattle.std.specs.Prelude.{ℕ, List, [], ◌∷◌, map, codes, Option, Some, None, if◌then◌else◌, nat_le, find, option_and_then, unwrap_or, String, string_bytes}
use Rattle.std.specs.Option.{option_map_or}
use Rattle.std.specs.Str.{bytes_eq}
use Rattle.std.specs.Str.Parse.{digits_value, without_leading_plus}
use Rattle.std.specs.declared.alloc.Global.{Global}
use Rattle.clap.specs.Faults.{fault_of}
use Rattle.clap.specs.Walk.{Row, first_of}
use Rattle.clap.specs.Kinds.{Kinds}
use Rattle.clap.specs.Simple.{subcommand_of}
use Rattle.fc_words.specs.declared.Command.{Command}
use Rattle.fc_words.specs.declared.Command.TheVariants as command
use Rattle.fc_words.specs.declared.Request.{Request}
use Rattle.fc_words.specs.declared.Tuning.{Tuning}
use Rattle.fc_words.specs.Commands.{coreopt_app}

-- the texts of the words
abbrev pub texts : List (String Global) → List (List ℕ)
texts = map string_bytes

-- what is to be done with the files
pub data Order : Type 0 where
  Building : (tuning : Tuning) (prefix : List ℕ) → Order
  Explaining : (tuning : Tuning) → Order
  Linting : Order

-- an order, and the files: a first one and those behind it
pub record Asked : Type 0 where
  pub order : Order
  pub file : List ℕ
  pub others : List (List ℕ)

-- what a request of the code asks for
abbrev pub order_of : Command → Order
order_of (command.Build tuning prefix) = Building tuning prefix.now
order_of (command.Why tuning) = Explaining tuning
order_of command.Lint = Linting

abbrev pub asked_of : Request → Asked
asked_of r = record { order = order_of r.command; file = r.file.now; others = map (λ f. f.now) r.others.items }

-- WHAT CLAP FINDS

-- the values of an argument, of all its uses
abbrev pub values_in : List ℕ → List Row → List (List ℕ)
values_in id rows = option_map_or (λ r. r.values) (find (λ r. bytes_eq r.id id) rows) []

-- the first value of an argument, the written one or its default
abbrev pub text_in : List ℕ → List Row → List ℕ
text_in id rows = unwrap_or (first_of id rows) []

-- the number that it says
abbrev pub number_in : List ℕ → List Row → ℕ
number_in id rows = digits_value 10 (without_leading_plus (text_in id rows))

abbrev pub tuning_in : List Row → Tuning
tuning_in rows = record { ticks = number_in (codes "ticks") rows; small = number_in (codes "small") rows; grow = number_in (codes "grow") rows }

-- an order wants one file at least
abbrev pub with_files : Order → List (List ℕ) → Option Asked
with_files order [] = None
with_files order (file ∷ others) = Some (record { order = order; file = file; others = others })

-- an order that may grow by less than what counts as small is none
abbrev pub tuned : Tuning → Order → List (List ℕ) → Option Asked
tuned tuning order files = if nat_le tuning.small tuning.grow then with_files order files else None

-- what a command of this name asks for, with what was found
abbrev pub asked_by : List ℕ × List Row → Option Asked
asked_by p =
    let files = values_in (codes "files") p.1 in
    if bytes_eq p.0 (codes "lint") then with_files Linting files
    else if bytes_eq p.0 (codes "why") then tuned (tuning_in p.1) (Explaining (tuning_in p.1)) files
    else tuned (tuning_in p.1) (Building (tuning_in p.1) (text_in (codes "out") p.1)) files

-- nothing is asked for where clap refuses the words
abbrev pub unless_refused : Kinds → Option Asked → Option Asked
unless_refused [] asked = asked
unless_refused (kind ∷ kinds) asked = None

-- What the words ask for, by what clap finds in them; `None` where clap refuses them for another cause than that it is out of
-- memory, and where `small` is above `grow`.
abbrev pub asked : List (List ℕ) → Option Asked
asked words = unless_refused (fault_of coreopt_app words) (option_and_then asked_by (subcommand_of coreopt_app words))
