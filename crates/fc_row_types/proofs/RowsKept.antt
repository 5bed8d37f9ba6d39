-- Every row keeps types, and so Lint.
use Rattle.std.proofs.Common.{◌≡◌, ℕ, ℤ, ◌∷◌, None, refl, sym, ◌∙◌}
use Rattle.fc_syntax.specs.declared.ty.Name.{Name}
use Rattle.fc_log.specs.declared.log.Row.{Row}
use Rattle.fc_log.specs.declared.log.Row.TheVariants as row
use Rattle.fc_model.specs.Kinding.{Modules, decls_at}
use Rattle.fc_model.specs.Nameless.{NLocal, NVar, NLit}
use Rattle.fc_model.specs.TypingLaws.{AreDeclaredKinded}
use Rattle.fc_model.proofs.CallsKept.{from_some_inv}
use Rattle.fc_model.proofs.DeclaredKinded.{linted_are_kinded}
use Rattle.fc_model.proofs.Sameness.{false_true}
use Rattle.fc_rows.specs.ChangingCoercions.{as_they_are}
use Rattle.fc_rows.specs.Rewriting.{changed_module, looked_at, row_result}
use Rattle.fc_rows.specs.Surroundings.{Surroundings}
use Rattle.fc_row_types.specs.LintKept.{RowsKeepLint}
use Rattle.fc_row_types.specs.TypesKept.{ChangesKeepTypes, ExpressionRow, KeepsAtoms, KeepsTypes, SparesAtoms}
use Rattle.fc_row_types.proofs.CaseKnownKept.{case_known_keeps}
use Rattle.fc_row_types.proofs.CaseRowsKept.{alt_dead_keeps, case_merge_keeps}
use Rattle.fc_row_types.proofs.ChangesKept.{kept}
use Rattle.fc_row_types.proofs.CoercionsChanged.{as_they_are_keeps}
use Rattle.fc_row_types.proofs.CommutingKept.{app_of_let_keeps, case_of_let_keeps, cast_of_let_keeps, let_of_let_keeps}
use Rattle.fc_row_types.proofs.DeadRowsKept.{join_dead_keeps, let_dead_keeps}
use Rattle.fc_row_types.proofs.EvaluatedKept.{case_evaluated_keeps}
use Rattle.fc_row_types.proofs.InAlternative.{alternatives_hold}
use Rattle.fc_row_types.proofs.JoinRowsKept.{join_once_keeps}
use Rattle.fc_row_types.proofs.Made.{none_some}
use Rattle.fc_row_types.proofs.ModulesKept.{changes_keep_lint}
use Rattle.fc_row_types.proofs.NameFieldKept.{name_field_keeps}
use Rattle.fc_row_types.proofs.SimpleRowsKept.{beta_keeps, cast_cast_keeps, cast_refl_keeps, fail_absorb_keeps, let_atom_keeps, let_once_keeps}

pub changes_keep_types : ChangesKeepTypes
changes_keep_types ms declared row keeps atoms co proofs p s g e f h t typed = kept ms declared (alternatives_hold ms declared) row keeps atoms co proofs s g p e f h t typed

-- EACH ROW

none_keeps : (ms : Modules) → KeepsTypes ms (λ s e. None)
none_keeps ms s g e f h t typed = none_some h

module _ (ms : Modules) (declared : AreDeclaredKinded ms) where
  pub row_keeps : (r : Row) (i : ℕ) → KeepsTypes ms (row_result ms r i)
  row_keeps row.Beta i = beta_keeps ms declared
  row_keeps row.LetDead i = let_dead_keeps ms
  row_keeps row.LetAtom i = let_atom_keeps ms declared
  row_keeps row.LetOnce i = let_once_keeps ms declared
  row_keeps row.CaseKnown i = case_known_keeps ms declared
  row_keeps row.CaseEvaluated i = case_evaluated_keeps ms declared
  row_keeps row.CaseMerge i = case_merge_keeps ms declared
  row_keeps row.AltDead i = alt_dead_keeps ms i
  row_keeps row.FailAbsorb i = fail_absorb_keeps ms declared
  row_keeps row.CastRefl i = cast_refl_keeps ms declared
  row_keeps row.CastCast i = cast_cast_keeps ms declared
  row_keeps row.PushArgument i = none_keeps ms
  row_keeps row.PushType i = none_keeps ms
  row_keeps row.PushConstructor i = none_keeps ms
  row_keeps row.CoercionShorter i = none_keeps ms
  row_keeps row.Fold i = none_keeps ms
  row_keeps row.JoinDead i = join_dead_keeps ms
  row_keeps row.JoinOnce i = join_once_keeps ms declared (alternatives_hold ms declared)
  row_keeps row.DefDead i = none_keeps ms
  row_keeps row.AppOfLet i = app_of_let_keeps ms declared
  row_keeps row.CaseOfLet i = case_of_let_keeps ms declared
  row_keeps row.LetOfLet i = let_of_let_keeps ms declared
  row_keeps row.CastOfLet i = cast_of_let_keeps ms declared
  row_keeps row.NameField i = name_field_keeps ms declared
  row_keeps row.Unfold i = none_keeps ms
  row_keeps row.AppOfCase i = none_keeps ms
  row_keeps row.CaseOfCase i = none_keeps ms
  row_keeps row.AltJoin i = none_keeps ms
  row_keeps row.Contify i = none_keeps ms
  row_keeps row.Split i = none_keeps ms
  row_keeps row.Special i = none_keeps ms
  row_keeps row.FloatOut i = none_keeps ms
  row_keeps row.FloatIn i = none_keeps ms
  row_keeps row.StrictLet i = none_keeps ms

-- ATOMS

-- what a row makes of each atom: nothing
record NoneAtAtoms (row : ExpressionRow) : Type 0 where
  local : (s : Surroundings) (v : ℕ) → row s (NLocal v) ≡ None
  name : (s : Surroundings) (n : Name) → row s (NVar n) ≡ None
  literal : (s : Surroundings) (z : ℤ) → row s (NLit z) ≡ None

none_at_atoms : (ms : Modules) (r : Row) (i : ℕ) → NoneAtAtoms (row_result ms r i)
none_at_atoms ms row.Beta i = record { local = λ s v. refl; name = λ s n. refl; literal = λ s z. refl }
none_at_atoms ms row.LetDead i = record { local = λ s v. refl; name = λ s n. refl; literal = λ s z. refl }
none_at_atoms ms row.LetAtom i = record { local = λ s v. refl; name = λ s n. refl; literal = λ s z. refl }
none_at_atoms ms row.LetOnce i = record { local = λ s v. refl; name = λ s n. refl; literal = λ s z. refl }
none_at_atoms ms row.CaseKnown i = record { local = λ s v. refl; name = λ s n. refl; literal = λ s z. refl }
none_at_atoms ms row.CaseEvaluated i = record { local = λ s v. refl; name = λ s n. refl; literal = λ s z. refl }
none_at_atoms ms row.CaseMerge i = record { local = λ s v. refl; name = λ s n. refl; literal = λ s z. refl }
none_at_atoms ms row.AltDead i = record { local = λ s v. refl; name = λ s n. refl; literal = λ s z. refl }
none_at_atoms ms row.FailAbsorb i = record { local = λ s v. refl; name = λ s n. refl; literal = λ s z. refl }
none_at_atoms ms row.CastRefl i = record { local = λ s v. refl; name = λ s n. refl; literal = λ s z. refl }
none_at_atoms ms row.CastCast i = record { local = λ s v. refl; name = λ s n. refl; literal = λ s z. refl }
none_at_atoms ms row.PushArgument i = record { local = λ s v. refl; name = λ s n. refl; literal = λ s z. refl }
none_at_atoms ms row.PushType i = record { local = λ s v. refl; name = λ s n. refl; literal = λ s z. refl }
none_at_atoms ms row.PushConstructor i = record { local = λ s v. refl; name = λ s n. refl; literal = λ s z. refl }
none_at_atoms ms row.CoercionShorter i = record { local = λ s v. refl; name = λ s n. refl; literal = λ s z. refl }
none_at_atoms ms row.Fold i = record { local = λ s v. refl; name = λ s n. refl; literal = λ s z. refl }
none_at_atoms ms row.JoinDead i = record { local = λ s v. refl; name = λ s n. refl; literal = λ s z. refl }
none_at_atoms ms row.JoinOnce i = record { local = λ s v. refl; name = λ s n. refl; literal = λ s z. refl }
none_at_atoms ms row.DefDead i = record { local = λ s v. refl; name = λ s n. refl; literal = λ s z. refl }
none_at_atoms ms row.AppOfLet i = record { local = λ s v. refl; name = λ s n. refl; literal = λ s z. refl }
none_at_atoms ms row.CaseOfLet i = record { local = λ s v. refl; name = λ s n. refl; literal = λ s z. refl }
none_at_atoms ms row.LetOfLet i = record { local = λ s v. refl; name = λ s n. refl; literal = λ s z. refl }
none_at_atoms ms row.CastOfLet i = record { local = λ s v. refl; name = λ s n. refl; literal = λ s z. refl }
none_at_atoms ms row.NameField i = record { local = λ s v. refl; name = λ s n. refl; literal = λ s z. refl }
none_at_atoms ms row.Unfold i = record { local = λ s v. refl; name = λ s n. refl; literal = λ s z. refl }
none_at_atoms ms row.AppOfCase i = record { local = λ s v. refl; name = λ s n. refl; literal = λ s z. refl }
none_at_atoms ms row.CaseOfCase i = record { local = λ s v. refl; name = λ s n. refl; literal = λ s z. refl }
none_at_atoms ms row.AltJoin i = record { local = λ s v. refl; name = λ s n. refl; literal = λ s z. refl }
none_at_atoms ms row.Contify i = record { local = λ s v. refl; name = λ s n. refl; literal = λ s z. refl }
none_at_atoms ms row.Split i = record { local = λ s v. refl; name = λ s n. refl; literal = λ s z. refl }
none_at_atoms ms row.Special i = record { local = λ s v. refl; name = λ s n. refl; literal = λ s z. refl }
none_at_atoms ms row.FloatOut i = record { local = λ s v. refl; name = λ s n. refl; literal = λ s z. refl }
none_at_atoms ms row.FloatIn i = record { local = λ s v. refl; name = λ s n. refl; literal = λ s z. refl }
none_at_atoms ms row.StrictLet i = record { local = λ s v. refl; name = λ s n. refl; literal = λ s z. refl }

pub row_spares_atoms : (ms : Modules) (r : Row) (i : ℕ) → SparesAtoms (row_result ms r i)
row_spares_atoms ms r i s (NLocal v) f h = none_some (sym ((none_at_atoms ms r i).local s v) ∙ h)
row_spares_atoms ms r i s (NVar n) f h = none_some (sym ((none_at_atoms ms r i).name s n) ∙ h)
row_spares_atoms ms r i s (NLit z) f h = none_some (sym ((none_at_atoms ms r i).literal s z) ∙ h)
row_spares_atoms ms r i s e f h = refl

row_keeps_atoms : (ms : Modules) (r : Row) (i : ℕ) → KeepsAtoms (row_result ms r i)
row_keeps_atoms ms r i s e f none h atom = false_true (sym (row_spares_atoms ms r i s e f h) ∙ atom)

-- MODULES

pub rows_keep_lint : RowsKeepLint
rows_keep_lint xs r w p n k lints h =
    let ms = decls_at (n ∷ xs) in
    let q = from_some_inv (λ q. changed_module (row_result ms r q.1) as_they_are xs w q.0 n) (looked_at r p) k h in
    let declared = linted_are_kinded (n ∷ xs) lints.distinct lints.hold in
    changes_keep_lint xs n k lints (row_result ms r q.0.1) (row_keeps ms declared r q.0.1) (row_keeps_atoms ms r q.0.1) as_they_are (as_they_are_keeps ms) w q.0.0 q.2
