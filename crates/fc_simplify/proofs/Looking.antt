-- Where the row of a step looks, by the place that a log tells.
use Rattle.std.proofs.Common.{◌≡◌, ◌+◌, ℕ, suc, Bool, true, false, if◌then◌else◌, List, ◌∷◌, Option, Some, None, refl, ap, ◌∙◌, arith}
use Rattle.std.proofs.lemmas.Option.{none-some}
use Rattle.fc_syntax.specs.Tree.{Word}
use Rattle.fc_log.specs.declared.log.Row.{Row}
use Rattle.fc_log.specs.declared.log.Row.TheVariants as row
use Rattle.fc_model.specs.Calling.{from_some}
use Rattle.fc_model.specs.Kinding.{Modules, decls_at}
use Rattle.fc_model.specs.Nameless.{NExpr, NModule}
use Rattle.fc_rows.specs.Changing.{made}
use Rattle.fc_rows.specs.ChangingCoercions.{as_they_are}
use Rattle.fc_rows.specs.Rewriting.{alternative_number, changed_module, looked_at}
use Rattle.fc_rows.specs.Surroundings.{Surroundings}
use Rattle.fc_row_at_place.specs.Rows.{built_row, is_built, row_within}
use Rattle.fc_apply.specs.Steps.{built_at}
use Rattle.fc_apply.proofs.CasesAround.{last_is}
use Rattle.fc_simplify.specs.Steps.{path_told}

number_of : (i : ℕ) → alternative_number (i + 3) ≡ Some i
number_of i = ap alternative_number {x = i + 3} {y = suc (suc (suc i))} (omega arith)

-- alt-dead looks at the case around the alternative
at_case : (i : ℕ) (p : List ℕ) → looked_at row.AltDead (path_told row.AltDead i p) ≡ Some (1 ∷ p, i)
at_case i p = ap (from_some (λ q. made (λ j. (q.0, j)) (alternative_number q.1))) (last_is (1 ∷ p) (i + 3)) ∙ ap (made (λ j. (1 ∷ p, j))) (number_of i)

module _ (xs : List NModule) (w : Word) (n : NModule) where
  abbrev by_row : Row → ℕ → List ℕ → Option NModule
  by_row r i p = changed_module (built_row (decls_at (n ∷ xs)) r i) as_they_are xs w (1 ∷ p) n

  -- what a row makes of the module at the place that is told is what it makes at the place that it looks at
  pub told_is : (r : Row) (i : ℕ) (p : List ℕ) → built_at xs r w (path_told r i p) n ≡ by_row r i p
  told_is row.AltDead i p = ap (from_some (λ q. changed_module (built_row (decls_at (n ∷ xs)) row.AltDead q.1) as_they_are xs w q.0 n)) (at_case i p)
  told_is row.Beta i p = refl
  told_is row.LetDead i p = refl
  told_is row.LetAtom i p = refl
  told_is row.LetOnce i p = refl
  told_is row.CaseKnown i p = refl
  told_is row.CaseEvaluated i p = refl
  told_is row.CaseMerge i p = refl
  told_is row.FailAbsorb i p = refl
  told_is row.CastRefl i p = refl
  told_is row.CastCast i p = refl
  told_is row.PushArgument i p = refl
  told_is row.PushType i p = refl
  told_is row.PushConstructor i p = refl
  told_is row.CoercionShorter i p = refl
  told_is row.Fold i p = refl
  told_is row.JoinDead i p = refl
  told_is row.JoinOnce i p = refl
  told_is row.DefDead i p = refl
  told_is row.AppOfLet i p = refl
  told_is row.CaseOfLet i p = refl
  told_is row.LetOfLet i p = refl
  told_is row.CastOfLet i p = refl
  told_is row.NameField i p = refl
  told_is row.Unfold i p = refl
  told_is row.AppOfCase i p = refl
  told_is row.CaseOfCase i p = refl
  told_is row.AltJoin i p = refl
  told_is row.Contify i p = refl
  told_is row.Split i p = refl
  told_is row.Special i p = refl
  told_is row.FloatOut i p = refl
  told_is row.FloatIn i p = refl
  told_is row.StrictLet i p = refl

-- a row that makes something is one that is built
pub made_built : (ms : Modules) (r : Row) (i : ℕ) (s : Surroundings) (e x : NExpr) → built_row ms r i s e ≡ Some x → is_built r ≡ true
made_built ms r i s e x h = here (is_built r) refl h
  where
    here : (b : Bool) → is_built r ≡ b → (if b then row_within ms r i s e else None) ≡ Some x → is_built r ≡ true
    here true is made = is
    here false is made = absurd (none-some _ made)
