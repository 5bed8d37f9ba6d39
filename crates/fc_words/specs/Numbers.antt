-- What clap has made sure of, where it accepts the words.
use Rattle.std.specs.Prelude.{◌≡◌, ◌≤◌, ⊤, ℕ, List, codes, false}
use Rattle.std.specs.Str.{bytes_eq}
use Rattle.std.specs.Str.Parse.{IsNumeral, digits_value, without_leading_plus}
use Rattle.clap.specs.Walk.{Row}
use Rattle.fc_words.specs.declared.Command.{Command}
use Rattle.fc_words.specs.declared.Command.TheVariants as command
use Rattle.fc_words.specs.declared.Tuning.{Tuning}
use Rattle.fc_words.specs.Asking.{text_in}

-- the text says a number up to `most`
abbrev pub IsNumber : ℕ → List ℕ → Type 0
IsNumber most text = IsNumeral 10 (without_leading_plus text) × (digits_value 10 (without_leading_plus text) ≤ most)

-- the three options are numbers within their ranges
abbrev pub HasNumbers : List Row → Type 0
HasNumbers rows = IsNumber 1000000 (text_in (codes "ticks") rows) × IsNumber 10000 (text_in (codes "small") rows) × IsNumber 10000 (text_in (codes "grow") rows)

-- so it is for each command but `lint`, which has none
abbrev pub HasNumbersBy : List ℕ × List Row → Type 0
HasNumbersBy p = bytes_eq p.0 (codes "lint") ≡ false → HasNumbers p.1

-- the numbers are within their ranges, and `small` is at most `grow`
abbrev pub IsTuned : Tuning → Type 0
IsTuned tuning = (tuning.ticks ≤ 1000000) × (tuning.small ≤ tuning.grow) × (tuning.grow ≤ 10000)

-- those of a command, where it has any
abbrev pub IsWithinRanges : Command → Type 0
IsWithinRanges (command.Build tuning prefix) = IsTuned tuning
IsWithinRanges (command.Why tuning) = IsTuned tuning
IsWithinRanges command.Lint = ⊤
