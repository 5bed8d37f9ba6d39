-- What surroundings know of local variables, names and join points, as what a place knows.
use Rattle.std.specs.Prelude.{◌≡◌, Bool, true, false, ℕ, ℤ, List, []}
use Rattle.fc_syntax.specs.declared.ty.Name.{Name}
use Rattle.fc_model.specs.Kinding.{Modules}
use Rattle.fc_model.specs.Nameless.{NBinder, NExpr, NLocal, NVar, NLit, NCon, NArgs, NAlts}
use Rattle.fc_rows.specs.Shrinking.{are_trivial}
use Rattle.fc_rows.specs.Surroundings.{Known, Unknown, Is, IsNot, PointOf, Surroundings, listed_heads, outside}
use Rattle.fc_row_places.specs.NamelessFacts.{BehindTypes, NFact, NFactCon, NFactLit, NFactNoneOf, NKnown, NKnownBy, NKnows, NKnowsJoin, heads_among}
use Rattle.fc_row_places.specs.NamelessPlaces.{NPlace, NOutside}
use Rattle.fc_row_meaning.specs.PlacedRows.{Around}

-- what is told whole: a literal, and a constructor with trivial arguments
abbrev pub is_told_whole : NExpr → Bool
is_told_whole (NLit z) = true
is_told_whole (NCon n args) = are_trivial args
is_told_whole e = false

-- what is told of a variable or a name y is known of it; K: what is known of an expression
pub data Told (K : NExpr → NFact → Type 0) (y : NExpr) : Known → Type 0 where
  nothing_told : Told K y Unknown
  -- a constructor, with its arguments behind any of the types that stand before them
  told_constructor : {n : Name} {args : NArgs} → ((parts : NArgs) → BehindTypes args parts → K y (NFactCon n parts)) → Told K y (Is (NCon n args))
  told_literal : {z : ℤ} → K y (NFactLit z) → Told K y (Is (NLit z))
  -- another value, or a constructor whose arguments are not all trivial
  told_head : {e : NExpr} → is_told_whole e ≡ false → K y (NFactNoneOf []) → Told K y (Is e)
  -- the default of a case with these alternatives
  told_none_of : (alts : NAlts) → K y (NFactNoneOf (heads_among alts)) → Told K y (IsNot (listed_heads alts))

-- all that surroundings say of local variables, names and join points is known at their place, where G is known of names
pub record AreTold (G : NKnown) (c : NPlace) (s : Surroundings) : Type 0 where
  pub locals : (i : ℕ) → Told (NKnows G c) (NLocal i) (s.locals i)
  pub names : (n : Name) → Told (NKnows G c) (NVar n) (s.names n)
  pub points : (i : ℕ) (ps : List NBinder) (e : NExpr) → s.points i ≡ PointOf ps e → NKnowsJoin c i ps e

-- all that is said of names outside of all binders is known there
abbrev pub AreNamesTold : NKnown → Modules → Type 0
AreNamesTold G ms = (n : Name) → Told (NKnows G NOutside) (NVar n) ((outside ms).names n)

-- then all that surroundings say is known at every place
abbrev pub SurroundingsAreTold : Type 0
SurroundingsAreTold = (known : Name → NFact → Bool) (ms : Modules) → AreNamesTold (NKnownBy known) ms → (s : Surroundings) (c : NPlace) → Around ms s c → AreTold (NKnownBy known) c s
