-- Surroundings of a place, and rows that are functions as relations at places.
use Rattle.std.specs.Prelude.{◌≡◌, true, false, List, Some}
use Rattle.fc_syntax.specs.declared.expr.Head.{Head}
use Rattle.fc_model.specs.Erasure.{below_binds}
use Rattle.fc_model.specs.Kinding.{Modules}
use Rattle.fc_model.specs.Nameless.{NTy, NBinder, NArg, NoNArgs, NExpr, NBinds, NJoins, NAlts}
use Rattle.fc_model.specs.Replacing.{join_count}
use Rattle.fc_model.specs.TypingRules.{HasType}
use Rattle.fc_rows.specs.Surroundings.{Surroundings, apart, at_head, behind_binder, behind_binders, behind_binds, behind_joins, head_binds, in_alternative, listed_heads, outside}
use Rattle.fc_row_types.specs.TypesKept.{ExpressionRow, Holds}
use Rattle.fc_meaning.proofs.WrittenExpressions.{AreBindsWritten, IsWritten}
use Rattle.fc_row_places.specs.NamelessPlaces.{NPlace, NOutside, NBelow, NBelowAll, NPastLet, NPastGroup, NPastJoin, NPastJoins, NInAlt, scope_at}
use Rattle.fc_row_places.specs.NamelessRows.{single_bind, single_join}
use Rattle.fc_row_meaning.specs.SharedRights.{AllShare}

-- SURROUNDINGS OF A PLACE

-- what a row reads at a place: one constructor for each step inwards
pub data Around (ms : Modules) : Surroundings → NPlace → Type 0 where
  around_all : Around ms (outside ms) NOutside
  around_apart : {s : Surroundings} {c : NPlace} → Around ms s c → Around ms (apart s) c
  around_head : {s : Surroundings} {c : NPlace} {a : NArg} → Around ms s c → Around ms (at_head a s) c
  -- at the right side of a join point that is not recursive, which is not applied
  around_unapplied : {s : Surroundings} {c : NPlace} → Around ms s c → Around ms (record s { arguments = NoNArgs }) c
  around_below : {s : Surroundings} {c : NPlace} {b : NBinder} → Around ms s c → Around ms (behind_binder b s) (NBelow b c)
  around_parameters : {s : Surroundings} {c : NPlace} {ps : List NBinder} → Around ms s c → Around ms (behind_binders ps s) (NBelowAll ps c)
  around_let : {s : Surroundings} {c : NPlace} {t : NTy} {a : NExpr} → IsWritten a → Around ms s c → Around ms (behind_binds false (single_bind t a) s) (NPastLet t a a c)
  around_group : {s : Surroundings} {c : NPlace} {bs cs : NBinds} → AreBindsWritten bs → AllShare (below_binds bs (scope_at c)) bs cs → Around ms s c → Around ms (behind_binds true bs s) (NPastGroup bs cs c)
  around_join : {s : Surroundings} {c : NPlace} (t : NTy) {ps : List NBinder} {a : NExpr} → IsWritten a → Around ms s c → Around ms (behind_joins false t (single_join ps a) s) (NPastJoin ps a a c)
  around_joins : {s : Surroundings} {c : NPlace} (t : NTy) {js ks : NJoins} → join_count js ≡ join_count ks → Around ms s c → Around ms (behind_joins true t js s) (NPastJoins js ks c)
  around_alternative : {s : Surroundings} {c : NPlace} {e : NExpr} {t : NTy} {alts : NAlts} {h : Head} {bs : List NBinder} → IsWritten e → head_binds h bs ≡ true → Around ms s c
      → Around ms (in_alternative e t (listed_heads alts) h bs s) (NInAlt t e e alts h bs c)

-- ROWS AT PLACES

-- a row at a place of what has a type, with surroundings that hold
pub record RowAs (ms : Modules) (row : ExpressionRow) (c : NPlace) (e f : NExpr) : Type 0 where
  pub surroundings : Surroundings
  pub around : Around ms surroundings c
  pub holds : Holds ms surroundings
  pub type : NTy
  pub typed : HasType ms surroundings.context e type
  pub written : IsWritten e
  pub result : row surroundings e ≡ Some f
