-- What the words in scope mean, the innermost first.
use Rattle.std.specs.Prelude.{ℕ, ◌+◌, List, ◌++◌, map}
use Rattle.fc_syntax.specs.Tree.{Word}
use Rattle.fc_model.specs.Resolution as words
use Rattle.fc_model.specs.Resolution.{Locals, no_locals, with_type, with_term, with_coercion}
use Rattle.fc_scope.specs.declared.binders.Binders.{Binders}
use Rattle.fc_scope.specs.declared.scope.Scope.{Scope, End, Type', Value', Coercion', Types', Values', Joins', Binders'}
use Rattle.fc_scope.specs.declared.scope.Found.{Found}
use Rattle.fc_scope.specs.declared.scope.Found.TheVariants.{Value, Join, Nowhere}

-- words of binders that stand together inside of those in scope
abbrev pub with_types : List Word → Locals → Locals
with_types vs s = record s { types = vs ++ s.types }

abbrev pub with_values : List Word → Locals → Locals
with_values vs s = record s { terms = map words.Value vs ++ s.terms }

abbrev pub with_joins : List Word → Locals → Locals
with_joins vs s = record s { terms = map words.Join vs ++ s.terms }

abbrev pub with_binders : Binders → Locals → Locals
with_binders bs s = record { types = bs.types ++ s.types; terms = map words.Value bs.values ++ s.terms; coercions = bs.coercions ++ s.coercions }

abbrev pub locals_of : Scope → Locals
locals_of End = no_locals
locals_of (Type' a p rest) = with_type a.now (locals_of rest)
locals_of (Value' x p rest) = with_term (words.Value x.now) (locals_of rest)
locals_of (Coercion' c p rest) = with_coercion c.now (locals_of rest)
locals_of (Types' vs p rest) = with_types vs.now (locals_of rest)
locals_of (Values' vs p rest) = with_values vs.now (locals_of rest)
locals_of (Joins' vs p rest) = with_joins vs.now (locals_of rest)
locals_of (Binders' bs p rest) = with_binders bs.now (locals_of rest)

-- what a word of the terms is
abbrev pub found_of : Found → words.Found
found_of (Value i) = words.IsValue i
found_of (Join i) = words.IsJoin i
found_of Nowhere = words.Nowhere

-- further out, by so many values or join points
abbrev pub past_values : ℕ → words.Found → words.Found
past_values n (words.IsValue i) = words.IsValue (i + n)
past_values n (words.IsJoin i) = words.IsJoin i
past_values n words.Nowhere = words.Nowhere

abbrev pub past_joins : ℕ → words.Found → words.Found
past_joins n (words.IsValue i) = words.IsValue i
past_joins n (words.IsJoin i) = words.IsJoin (i + n)
past_joins n words.Nowhere = words.Nowhere
