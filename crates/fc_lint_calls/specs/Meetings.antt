-- How arguments meet what is asked, one after the other.
use Rattle.std.specs.Prelude.{◌≡◌, ◌&&◌, List, ◌∷◌, Option, Some, None}
use Rattle.fc_syntax.specs.Tree.{Kind}
use Rattle.fc_model.specs.Calling as words
use Rattle.fc_model.specs.Calling.{Met, met}
use Rattle.fc_type_table.specs.Scopes.{shown_at}
use Rattle.fc_type_table.specs.declared.node.Node.{Node}
use Rattle.fc_lint_calls.specs.GivenViews.{given_at}
use Rattle.fc_lint_calls.specs.declared.arguments.Given.{Given}
use Rattle.fc_lint_calls.specs.declared.arguments.Meeting.{Meeting}

-- what the arguments so far met
abbrev pub met_at : List Node → List Kind → Meeting → Met
met_at ns ks m = record { kinds = m.kinds; types = m.types; atoms = m.atoms; whole = shown_at ns ks m.whole.0 }

-- what more arguments met, with what those before them met
abbrev pub met_behind : Meeting → Option Met → Option Met
met_behind m (Some n) = Some (record { kinds = m.kinds && n.kinds; types = m.types && n.types; atoms = m.atoms && n.atoms; whole = n.whole })
met_behind m None = None

-- what all arguments meet, where these are still to come
unfoldable pub met_from : List Node → List Kind → Meeting → List words.Given → Option Met
met_from ns ks m gs = met_behind m (met (shown_at ns ks m.whole.0) gs)

unfoldable pub met_on : List Node → List Kind → Option Meeting → List words.Given → Option Met
met_on ns ks (Some m) gs = met_from ns ks m gs
met_on ns ks None gs = None

-- one more argument makes a meeting of old to one of new
pub record GoesOn (old new : List Node) (ks : List Kind) (m : Meeting) (g : Given) (next : Option Meeting) : Type 0 where
  pub view : (gs : List words.Given) → met_from old ks m (given_at old ks g ∷ gs) ≡ met_on new ks next gs
