-- Where a search stands, and what it answers.
use Rattle.std.specs.Prelude.{◌≡◌, ℕ, if◌then◌else◌, List, [], ◌∷◌, ◌++◌, Option, Some, None}
use Rattle.fc_log.specs.declared.log.Row.{Row}
use Rattle.fc_rows.specs.Changing.{made}
use Rattle.fc_model.specs.Kinding.{Modules, decls_at}
use Rattle.fc_model.specs.Nameless.{NExpr}
use Rattle.fc_model.specs.NamelessView.{nexpr_of, nmodules_of}
use Rattle.fc_type_table.specs.declared.table.TypeTable.{TypeTable}
use Rattle.fc_rows.specs.Surroundings.{Surroundings, outside}
use Rattle.fc_known.specs.Around.{HasCounts, surroundings_of}
use Rattle.fc_known.specs.declared.around.Around.{Around}
use Rattle.fc_parts.specs.Found.{found}
use Rattle.fc_search_laws.specs.Searching.{Answered, Applies, applied, first_dead, first_part, first_row, fits, found_within, in_part, into, searched, searched_below}
use Rattle.fc_definition_places.specs.Places.{HasPlaces}
use Rattle.fc_row_at_place.specs.Rows.{built_row}
use Rattle.fc_row_at_place.specs.Sites.{AreHeaders}
use Rattle.fc_row_search.specs.declared.parts.Part.{Part}
use Rattle.fc_row_search.specs.declared.spots.Applying.{Applying}
use Rattle.fc_row_search.specs.declared.spots.Path.{Path, Whole, Part'}
use Rattle.fc_row_search.specs.declared.spots.Search.{Search}
use Rattle.fc_row_search.specs.declared.spots.Spot.{Spot}

-- the numbers of a place, the outermost part first
abbrev pub place_of : Path → List ℕ
place_of Whole = []
place_of (Part' i p outer) = place_of outer ++ i ∷ []

-- the place of a part, one number long or two
abbrev place_by : ℕ → Option ℕ → List ℕ
place_by i None = i ∷ []
place_by i (Some j) = i ∷ j ∷ []

abbrev pub part_of : Part → List ℕ
part_of x = place_by x.first x.second

-- what is declared, and what stands around
abbrev pub modules_of : Search → Modules
modules_of x = decls_at (nmodules_of x.modules.now)

abbrev pub here_at : Spot → Surroundings
here_at x = surroundings_of (modules_of x.search.now) x.around.now

-- the numbers of binders are right, and the expression stands at this place of the right side, in these surroundings
pub record IsSpot (x : Spot) (e : NExpr) : Type 0 where
  pub counts : HasCounts x.around.now
  pub stands : found (outside (modules_of x.search.now)) (place_of x.path.now) (nexpr_of x.search.now.right.now) ≡ Some (here_at x, e)

-- what is kept of the modules is right, with the types of what they declare in this table
abbrev pub HasHeaders : TypeTable → Spot → Type 0
HasHeaders table x = AreHeaders table x.search.now.headers.now (nmodules_of x.search.now.modules.now)

-- where they define words is known
abbrev pub KnowsPlaces : Spot → Type 0
KnowsPlaces x = HasPlaces (nmodules_of x.search.now.modules.now) x.search.now.headers.now.places.now

-- what was found
abbrev pub applying_of : Applying → Answered
applying_of a = Applies a.row a.alternative a.place.items (nexpr_of a.new)

-- what is found in an expression at a spot, told of the right side
abbrev pub told_at : Spot → Option Answered → Option Answered
told_at x o = found_within (place_of x.path.now) o

-- ROWS WHERE IT STANDS

-- what a row makes of an expression
abbrev pub made_at : Spot → Row → ℕ → NExpr → Option NExpr
made_at x r i e = built_row (modules_of x.search.now) r i (here_at x) e

-- what is found where a row makes this of it
abbrev pub told_here : Spot → Row → ℕ → NExpr → NExpr → Option Answered
told_here x r i e new = told_at x (made (λ z. Applies r i [] z) (if fits x.room x.search.now.spare e new then Some new else None))

-- what is found of one row, of rows, and of so many alternatives from a number on
abbrev pub tried_at : Spot → Row → ℕ → NExpr → Option Answered
tried_at x r i e = told_at x (applied (modules_of x.search.now) x.room x.search.now.spare r i (here_at x) e)

abbrev pub rows_at : Spot → List Row → NExpr → Option Answered
rows_at x rs e = told_at x (first_row (modules_of x.search.now) x.room x.search.now.spare rs (here_at x) e)

abbrev pub dead_at : Spot → ℕ → ℕ → NExpr → Option Answered
dead_at x n i e = told_at x (first_dead (modules_of x.search.now) x.room x.search.now.spare n i (here_at x) e)

-- PARTS

-- what the expressions in parts are searched with, which may be one less deep, or two
abbrev pub one_in : Spot → ℕ → List ℕ → Surroundings → NExpr → Option Answered
one_in x n = searched (modules_of x.search.now) x.search.now.spare n

abbrev pub two_in : Spot → ℕ → List ℕ → Surroundings → NExpr → Option Answered
two_in x n = searched_below (modules_of x.search.now) x.search.now.spare n

-- what is found in an expression that stands in a part, from a place in it on
abbrev pub part_at : Spot → ℕ → List ℕ → List ℕ → Surroundings → NExpr → Option Answered
part_at x n p from s e = told_at x (found_within p (into (one_in x n) (two_in x n) from p s e))

-- what is found in the part of a number
abbrev pub child_at : Spot → ℕ → ℕ → List ℕ → NExpr → Option Answered
child_at x n k from e = told_at x (in_part (one_in x n) (two_in x n) k from (here_at x) e)

-- what stands around, in the surroundings that rows read
abbrev pub around_at : Spot → Around → Surroundings
around_at x a = surroundings_of (modules_of x.search.now) a

-- what is found in so many parts of an expression from a number on, the first from a place in it on
abbrev pub parts_at : Spot → ℕ → ℕ → ℕ → List ℕ → NExpr → Option Answered
parts_at x n m k from e = told_at x (first_part (one_in x n) (two_in x n) m k from (here_at x) e)

-- an expression stands in a part of what stands here
abbrev pub IsPart : Spot → List ℕ → Surroundings → NExpr → Type 0
IsPart x p s e = found (outside (modules_of x.search.now)) (place_of x.path.now ++ p) (nexpr_of x.search.now.right.now) ≡ Some (s, e)

-- THE WHOLE

-- what a search answers of an expression, from a place on
abbrev pub search_at : Spot → List ℕ → NExpr → Option Answered
search_at x from e = told_at x (searched (modules_of x.search.now) x.search.now.spare x.room from (here_at x) e)
