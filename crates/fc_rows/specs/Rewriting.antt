-- Rows on a module: what each row that is defined makes of an expression, a row at a place of a definition, and definitions that go.
use Rattle.std.specs.Prelude.{ℕ, zero, suc, Bool, if◌then◌else◌, List, [], ◌∷◌, Option, Some, None}
use Rattle.std.specs.Str.{bytes_eq}
use Rattle.fc_syntax.specs.Tree.{Kind, Word}
use Rattle.fc_log.specs.declared.log.Row.{Row}
use Rattle.fc_log.specs.declared.log.Row.TheVariants as row
use Rattle.fc_model.specs.Calling.{from_some}
use Rattle.fc_model.specs.Coercing.{Ends}
use Rattle.fc_model.specs.Kinding.{Modules, decls_at}
use Rattle.fc_model.specs.Nameless.{NCo, NDecl, NData, NNew, NFamily, NAxiom, NDef, NWrap, NExpr, NModule, NModuleOf}
use Rattle.fc_rows.specs.Changing.{changed, made}
use Rattle.fc_rows.specs.ChangingCoercions.{as_they_are}
use Rattle.fc_rows.specs.Commuting.{app_of_let, case_of_let, cast_of_let, let_of_let, name_field}
use Rattle.fc_rows.specs.Shrinking.{alt_dead, beta, case_evaluated, case_known, case_merge, cast_cast, cast_refl, fail_absorb, join_dead, join_once, let_atom, let_dead, let_once}
use Rattle.fc_rows.specs.Surroundings.{Surroundings, outside}

-- ROWS

-- What a row makes of an expression in its surroundings, where it applies; the place of alt-dead is that of the alternative, so that the number of the
-- alternative comes here. Rows that are not defined yet apply nowhere, and what is of a whole module applies to no expression.
abbrev pub row_result : Modules → Row → ℕ → Surroundings → NExpr → Option NExpr
row_result ms row.Beta i s e = beta ms s e
row_result ms row.LetDead i s e = let_dead e
row_result ms row.LetAtom i s e = let_atom e
row_result ms row.LetOnce i s e = let_once e
row_result ms row.CaseKnown i s e = case_known ms s e
row_result ms row.CaseEvaluated i s e = case_evaluated ms s e
row_result ms row.CaseMerge i s e = case_merge e
row_result ms row.AltDead i s e = alt_dead i s e
row_result ms row.FailAbsorb i s e = fail_absorb ms s e
row_result ms row.CastRefl i s e = cast_refl ms s e
row_result ms row.CastCast i s e = cast_cast e
row_result ms row.PushArgument i s e = None
row_result ms row.PushType i s e = None
row_result ms row.PushConstructor i s e = None
row_result ms row.CoercionShorter i s e = None
row_result ms row.Fold i s e = None
row_result ms row.JoinDead i s e = join_dead e
row_result ms row.JoinOnce i s e = join_once s e
row_result ms row.DefDead i s e = None
row_result ms row.AppOfLet i s e = app_of_let e
row_result ms row.CaseOfLet i s e = case_of_let e
row_result ms row.LetOfLet i s e = let_of_let e
row_result ms row.CastOfLet i s e = cast_of_let e
row_result ms row.NameField i s e = name_field ms e
row_result ms row.Unfold i s e = None
row_result ms row.AppOfCase i s e = None
row_result ms row.CaseOfCase i s e = None
row_result ms row.AltJoin i s e = None
row_result ms row.Contify i s e = None
row_result ms row.Split i s e = None
row_result ms row.Special i s e = None
row_result ms row.FloatOut i s e = None
row_result ms row.FloatIn i s e = None
row_result ms row.StrictLet i s e = None

-- A PART OF A DEFINITION

-- the right side is part 1 of a definition
abbrev pub changed_right : (Surroundings → NExpr → Option NExpr) → (List Kind → List Ends → NCo → Option NCo) → Surroundings → List ℕ → NExpr → Option NExpr
changed_right row co s [] e = None
changed_right row co s (zero ∷ p) e = None
changed_right row co s (suc zero ∷ p) e = changed row co s p e
changed_right row co s (suc (suc i) ∷ p) e = None

-- a change in the first definition of a word
abbrev pub changed_decls : (Surroundings → NExpr → Option NExpr) → (List Kind → List Ends → NCo → Option NCo) → Surroundings → Word → List ℕ → List NDecl → Option (List NDecl)
changed_decls row co s w p [] = None
changed_decls row co s w p (NDef n t e ∷ ds) =
    if bytes_eq n w then made (λ f. NDef n t f ∷ ds) (changed_right row co s p e) else made (λ rest. NDef n t e ∷ rest) (changed_decls row co s w p ds)
changed_decls row co s w p (NWrap n t e ∷ ds) =
    if bytes_eq n w then made (λ f. NWrap n t f ∷ ds) (changed_right row co s p e) else made (λ rest. NWrap n t e ∷ rest) (changed_decls row co s w p ds)
changed_decls row co s w p (NData n ps cs ∷ ds) = made (λ rest. NData n ps cs ∷ rest) (changed_decls row co s w p ds)
changed_decls row co s w p (NNew n ps t con ∷ ds) = made (λ rest. NNew n ps t con ∷ rest) (changed_decls row co s w p ds)
changed_decls row co s w p (NFamily n ps k ∷ ds) = made (λ rest. NFamily n ps k ∷ rest) (changed_decls row co s w p ds)
changed_decls row co s w p (NAxiom n ps t u ∷ ds) = made (λ rest. NAxiom n ps t u ∷ rest) (changed_decls row co s w p ds)

-- a change at a place of a module, with the modules of its imports, where a right side that is not told is a failure
abbrev pub changed_module : (Surroundings → NExpr → Option NExpr) → (List Kind → List Ends → NCo → Option NCo) → List NModule → Word → List ℕ → NModule → Option NModule
changed_module row co xs w p (NModuleOf m imports exports hidden ds) =
    made (λ cs. NModuleOf m imports exports hidden cs) (changed_decls row co (outside (decls_at (NModuleOf m imports exports hidden ds ∷ xs))) w p ds)

-- A ROW AT A PLACE

-- a place without its last part number, and that number
abbrev pub before_last : ℕ → Option (List ℕ × ℕ) → Option (List ℕ × ℕ)
before_last i (Some (p, j)) = Some (i ∷ p, j)
before_last i None = Some ([], i)

abbrev pub last_part : List ℕ → Option (List ℕ × ℕ)
last_part [] = None
last_part (i ∷ p) = before_last i (last_part p)

-- the alternatives of a case are its parts from the fourth on
abbrev pub alternative_number : ℕ → Option ℕ
alternative_number zero = None
alternative_number (suc zero) = None
alternative_number (suc (suc zero)) = None
alternative_number (suc (suc (suc i))) = Some i

-- where a row looks, and the number that it is given: the place of alt-dead is that of the alternative, and the row looks at the case around it
abbrev pub looked_at : Row → List ℕ → Option (List ℕ × ℕ)
looked_at row.AltDead p = from_some (λ q. made (λ i. (q.0, i)) (alternative_number q.1)) (last_part p)
looked_at r p = Some (p, 0)

-- what a row makes of a module, among the modules of its imports, at a place of the definition of a word
abbrev pub rewritten : List NModule → Row → Word → List ℕ → NModule → Option NModule
rewritten xs r w p n = from_some (λ q. changed_module (row_result (decls_at (n ∷ xs)) r q.1) as_they_are xs w q.0 n) (looked_at r p)

-- DEFINITIONS THAT GO

-- declarations without the definitions of words that are not kept
abbrev pub without_definitions : (Word → Bool) → List NDecl → List NDecl
without_definitions keep [] = []
without_definitions keep (NDef n t e ∷ ds) = if keep n then NDef n t e ∷ without_definitions keep ds else without_definitions keep ds
without_definitions keep (NWrap n t e ∷ ds) = if keep n then NWrap n t e ∷ without_definitions keep ds else without_definitions keep ds
without_definitions keep (NData n ps cs ∷ ds) = NData n ps cs ∷ without_definitions keep ds
without_definitions keep (NNew n ps t con ∷ ds) = NNew n ps t con ∷ without_definitions keep ds
without_definitions keep (NFamily n ps k ∷ ds) = NFamily n ps k ∷ without_definitions keep ds
without_definitions keep (NAxiom n ps t u ∷ ds) = NAxiom n ps t u ∷ without_definitions keep ds
