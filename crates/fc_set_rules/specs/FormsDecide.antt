-- Whether a set lints, its nameless forms decide alone.
use Rattle.std.specs.Prelude.{◌≡◌, true, false, List, [], ◌∷◌, Option, Some, None}
use Rattle.std.specs.List.{All}
use Rattle.std.specs.Str.{bytes_eq}
use Rattle.fc_syntax.specs.declared.ty.Name.{Name}
use Rattle.fc_syntax.specs.Tree.{Word, Module}
use Rattle.fc_model.specs.Linting.{SetLints, nameless_forms}
use Rattle.fc_model.specs.Nameless.{NModule}
use Rattle.fc_model.specs.Resolution.{Offers, WordSet}
use Rattle.fc_model.specs.ResolutionRules.{Resolves}
use Rattle.fc_resolved_names.specs.ResolvedNames.{ImportsOthers}
use Rattle.fc_used_words.specs.Scoped.{Saying}

-- NAMES OF OTHER MODULES

-- a name of another module than this one is among the words that it has for others
abbrev pub IsOfferedIn : Word → (Word → WordSet) → Option Word → Word → Type 0
IsOfferedIn own offered None w = Unit {0}
IsOfferedIn own offered (Some m) w = bytes_eq m own ≡ false → offered m w ≡ true

abbrev pub IsOffered : Word → (Word → WordSet) → Name → Type 0
IsOffered own offered n = IsOfferedIn own offered n.module n.text

-- the same of each name in a tree, by its space
abbrev pub offered_names : Word → Offers → Saying
offered_names own offers = record {
  type_at = λ many i. Unit {0};
  value_at = λ many i. Unit {0};
  join_at = λ many i. Unit {0};
  coercion_at = λ many i. Unit {0};
  type_name = IsOffered own offers.types;
  axiom_name = IsOffered own offers.coercions;
  constructor = IsOffered own offers.terms;
  definition = IsOffered own offers.terms;
}

-- THE LAW

-- each module has the nameless form at its place
pub data AllResolve : List Module → List NModule → Type 0 where
  none_resolve : AllResolve [] []
  one_resolves : {m : Module} {n : NModule} {ms : List Module} {ns : List NModule} → Resolves m n → AllResolve ms ns → AllResolve (m ∷ ms) (n ∷ ns)

-- modules that have the nameless forms of a set that lints lint too, where no module imports itself
abbrev pub FormsDecideLint : Type 0
FormsDecideLint = (ms ks : List Module) → SetLints ms → All ImportsOthers (nameless_forms ms) → AllResolve ks (nameless_forms ms) → SetLints ks
