-- What the coercion variables in scope mean.
use Rattle.std.specs.Prelude.{ℕ, List, [], ◌++◌, reverse, Result, Ok, Err}
use Rattle.fc_model.specs.Faulting.{F, at_distance}
use Rattle.fc_type_scope.specs.declared.ends.Ends as code
use Rattle.fc_lint_context.specs.declared.coercions.Coercions.{Coercions, End, Group'}

-- variables that stand together before those around them, the last one the innermost
abbrev pub ends_behind : List code.Ends → List code.Ends → List code.Ends
ends_behind es outer = reverse es ++ outer

-- what is found among some, or the distance that is left outside of them
abbrev pub proven_among : Result code.Ends ℕ → List code.Ends → Result code.Ends F
proven_among (Ok e) outer = Ok e
proven_among (Err left) outer = at_distance outer left

-- what they prove, the innermost first
abbrev pub proven_of : Coercions → List code.Ends
proven_of End = []
proven_of (Group' es p rest) = ends_behind es.now (proven_of rest)
