-- What both sides of a change share: of what a let, a group or a definition binds, values, and constructors with trivial arguments.
use Rattle.std.specs.Prelude.{◌≡◌, true, false, Bool, List, [], ◌∷◌, Some}
use Rattle.fc_syntax.specs.Tree.{Word}
use Rattle.fc_model.specs.Erasure.{Scope, erased, no_scope}
use Rattle.fc_model.specs.Nameless.{NTy, NDecl, NDef, NWrap, NBound, NExpr, NCon, NBinds, NoNBinds, MoreNBinds}
use Rattle.fc_rows.specs.Shrinking.{are_trivial, is_con, is_trivial}
use Rattle.fc_rows.specs.Surroundings.{Surroundings, is_value}
use Rattle.fc_row_types.specs.TypesKept.{ExpressionRow}

-- a constructor with trivial arguments
abbrev pub is_trivial_con : NExpr → Bool
is_trivial_con (NCon n args) = are_trivial args
is_trivial_con e = false

-- d before a change, and e after it: a value stays one, and a constructor with trivial arguments is the same when types are gone
pub record Shares (s : Scope) (d e : NExpr) : Type 0 where
  pub value : is_value d ≡ true → is_value e ≡ true
  pub constructor : is_trivial_con d ≡ true → erased s d ≡ erased s e

-- so it is of the right sides of groups
pub data AllShare (s : Scope) : NBinds → NBinds → Type 0 where
  none_share : AllShare s NoNBinds NoNBinds
  more_share : {t : NTy} {d e : NExpr} {bs cs : NBinds} → Shares s d e → AllShare s bs cs → AllShare s (MoreNBinds (NBound t d) bs) (MoreNBinds (NBound t e) cs)

-- so it is of the right sides of definitions
pub data RightsShare : List NDecl → List NDecl → Type 0 where
  no_rights : RightsShare [] []
  same_right : {d : NDecl} {ds es : List NDecl} → RightsShare ds es → RightsShare (d ∷ ds) (d ∷ es)
  rights_of_def : {n : Word} {t : NTy} {d e : NExpr} {ds es : List NDecl} → Shares no_scope d e → RightsShare ds es → RightsShare (NDef n t d ∷ ds) (NDef n t e ∷ es)
  rights_of_wrap : {n : Word} {t : NTy} {d e : NExpr} {ds es : List NDecl} → Shares no_scope d e → RightsShare ds es → RightsShare (NWrap n t d ∷ ds) (NWrap n t e ∷ es)

-- a row stands at no constructor, makes values of values, and changes only types in what is trivial
pub record KeepsValues (row : ExpressionRow) : Type 0 where
  pub value : (s : Surroundings) (e f : NExpr) → row s e ≡ Some f → is_value e ≡ true → is_value f ≡ true
  pub constructor : (s : Surroundings) (e f : NExpr) → row s e ≡ Some f → is_con e ≡ false
  pub trivial : (s : Surroundings) (e f : NExpr) → row s e ≡ Some f → is_trivial e ≡ true → (c : Scope) → erased c e ≡ erased c f
