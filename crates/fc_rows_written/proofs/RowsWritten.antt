-- What any row makes of a module whose right sides are written has such right sides.
use Rattle.std.proofs.Common.{◌≡◌, ℕ, zero, suc, All, List, [], ◌∷◌, Option, Some, None, subst}
use Rattle.std.proofs.lemmas.List.Elements.{All-head, All-tail}
use Rattle.std.specs.Str.{bytes_eq}
use Rattle.fc_syntax.specs.Tree.{Word}
use Rattle.fc_log.specs.declared.log.Row.{Row}
use Rattle.fc_log.specs.declared.log.Row.TheVariants as row
use Rattle.fc_model.specs.Headers.{ndecls_in}
use Rattle.fc_model.specs.Kinding.{Modules, decls_at, decls_of_module}
use Rattle.fc_model.specs.Nameless.{NDecl, NExpr, NModule, NModuleOf}
use Rattle.fc_model.proofs.CallsKept.{from_some_inv}
use Rattle.fc_outlines.specs.RightSides.{Righted, righted_def, righted_wrap, righted_later}
use Rattle.fc_rows.specs.ChangingCoercions.{as_they_are}
use Rattle.fc_rows.specs.Rewriting.{changed_decls, changed_module, changed_right, looked_at, row_result}
use Rattle.fc_rows.specs.Surroundings.{Surroundings, outside}
use Rattle.fc_row_types.specs.TypesKept.{CoercionRow, ExpressionRow}
use Rattle.fc_row_types.proofs.DeclarationsChanged.{decls_changed}
use Rattle.fc_row_types.proofs.Made.{made_inv, none_some}
use Rattle.fc_meaning.proofs.WrittenExpressions.{AreDeclsWritten, IsWritten}
use Rattle.fc_rows_written.specs.RowsWritten.{RowsKeepWritten}
use Rattle.fc_rows_written.proofs.ChangesWritten.{KeepsWritten, change_written}
use Rattle.fc_rows_written.proofs.CommutingWritten.{app_of_let_written, case_of_let_written, cast_of_let_written, let_of_let_written, name_field_written}
use Rattle.fc_rows_written.proofs.ShrinkingWritten.{alt_dead_written, beta_written, case_evaluated_written, case_known_written, case_merge_written, cast_cast_written, cast_refl_written}
use Rattle.fc_rows_written.proofs.ShrinkingWritten.{fail_absorb_written, join_dead_written, join_once_written, let_atom_written, let_dead_written, let_once_written}
use Rattle.fc_rows_written.proofs.SurroundingsWritten.{AreWritten, either, outside_written}

-- EACH ROW

none_written : KeepsWritten (λ s e. None)
none_written s g e f h w = none_some h

row_written : (ms : Modules) (r : Row) (i : ℕ) → KeepsWritten (row_result ms r i)
row_written ms row.Beta i = beta_written ms
row_written ms row.LetDead i = let_dead_written
row_written ms row.LetAtom i = let_atom_written
row_written ms row.LetOnce i = let_once_written
row_written ms row.CaseKnown i = case_known_written ms
row_written ms row.CaseEvaluated i = case_evaluated_written ms
row_written ms row.CaseMerge i = case_merge_written
row_written ms row.AltDead i = alt_dead_written i
row_written ms row.FailAbsorb i = fail_absorb_written ms
row_written ms row.CastRefl i = cast_refl_written ms
row_written ms row.CastCast i = cast_cast_written
row_written ms row.PushArgument i = none_written
row_written ms row.PushType i = none_written
row_written ms row.PushConstructor i = none_written
row_written ms row.CoercionShorter i = none_written
row_written ms row.Fold i = none_written
row_written ms row.JoinDead i = join_dead_written
row_written ms row.JoinOnce i = join_once_written
row_written ms row.DefDead i = none_written
row_written ms row.AppOfLet i = app_of_let_written
row_written ms row.CaseOfLet i = case_of_let_written
row_written ms row.LetOfLet i = let_of_let_written
row_written ms row.CastOfLet i = cast_of_let_written
row_written ms row.NameField i = name_field_written ms
row_written ms row.Unfold i = none_written
row_written ms row.AppOfCase i = none_written
row_written ms row.CaseOfCase i = none_written
row_written ms row.AltJoin i = none_written
row_written ms row.Contify i = none_written
row_written ms row.Split i = none_written
row_written ms row.Special i = none_written
row_written ms row.FloatOut i = none_written
row_written ms row.FloatIn i = none_written
row_written ms row.StrictLet i = none_written

-- A CHANGE

module _ (row : ExpressionRow) (keeps : KeepsWritten row) (co : CoercionRow) (s : Surroundings) (written : AreWritten s) where
  right_written : (p : List ℕ) (e f : NExpr) → changed_right row co s p e ≡ Some f → IsWritten e → IsWritten f
  right_written [] e f h w = none_some h
  right_written (zero ∷ p) e f h w = none_some h
  right_written (suc zero ∷ p) e f h w = change_written row keeps co s written p e f h w
  right_written (suc (suc i) ∷ p) e f h w = none_some h

  righted_written : (p : List ℕ) {ds es : List NDecl} → Righted (λ e f. changed_right row co s p e ≡ Some f) ds es → AreDeclsWritten ds → AreDeclsWritten es
  righted_written p (righted_def {e = e} {f = f} h) w = (right_written p e f h w.0, w.1)
  righted_written p (righted_wrap {e = e} {f = f} h) w = (right_written p e f h w.0, w.1)
  righted_written p (righted_later h) w = (w.0, righted_written p h w.1)

-- MODULES

abbrev pub IsModuleWritten : NModule → Type 0
IsModuleWritten n = AreDeclsWritten (ndecls_in n)

module_written : (ns : List NModule) → All IsModuleWritten ns → (w : Word) → AreDeclsWritten (decls_of_module ns w)
module_written [] all w = tt
module_written (NModuleOf m imports exports hidden ds ∷ ns) all w =
    let n = NModuleOf m imports exports hidden ds in
    either AreDeclsWritten (bytes_eq m w) ds (decls_of_module ns w) (All-head IsModuleWritten n ns all) (module_written ns (All-tail IsModuleWritten n ns all) w)

modules_written : (ns : List NModule) → All IsModuleWritten ns → (o : Option Word) → AreDeclsWritten (decls_at ns o)
modules_written ns all None = tt
modules_written ns all (Some w) = module_written ns all w

-- a change at a place of a module by what keeps expressions written
pub module_change_written : (row : ExpressionRow) → KeepsWritten row → (xs : List NModule) (w : Word) (p : List ℕ) (n k : NModule) → All IsModuleWritten (n ∷ xs)
    → changed_module row as_they_are xs w p n ≡ Some k → IsModuleWritten k
module_change_written row keeps xs w p (NModuleOf m imports exports hidden ds) k all h =
    let n = NModuleOf m imports exports hidden ds in
    let ms = decls_at (n ∷ xs) in
    let c = made_inv (λ cs. NModuleOf m imports exports hidden cs) (changed_decls row as_they_are (outside ms) w p ds) k h in
    let righted = decls_changed row as_they_are (outside ms) w p ds c.0 c.1 in
    let around = outside_written ms (modules_written (n ∷ xs) all) in
    subst IsModuleWritten c.2 (righted_written row keeps as_they_are (outside ms) around p righted (All-head IsModuleWritten n xs all))

pub rows_keep_written : RowsKeepWritten
rows_keep_written xs r w p n k all h =
    let ms = decls_at (n ∷ xs) in
    let q = from_some_inv (λ q. changed_module (row_result ms r q.1) as_they_are xs w q.0 n) (looked_at r p) k h in
    module_change_written (row_result ms r q.0.1) (row_written ms r q.0.1) xs w q.0.0 n k all q.2
