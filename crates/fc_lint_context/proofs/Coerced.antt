-- Coercion variables that stand together, which are looked up from the last one on.
use Rattle.std.proofs.Common.{◌≡◌, refl, sym, ap, ◌∙◌, ◌-◌, ◌<◌, ◌≤◌, ℕ, List, [], ◌∷◌, length, map, get_or, Ok, arith}
use Rattle.std.proofs.lemmas.List.{get_or_default}
use Rattle.fc_model.specs.Faulting.{at_distance}
use Rattle.fc_model.proofs.Distances.{seen_inner, seen_outside}
use Rattle.fc_type_scope.specs.declared.ends.Ends.{Ends}
use Rattle.fc_lint_context.specs.CoercionViews.{ends_behind}

themselves : (es : List Ends) → map (λ x. x) es ≡ es
themselves [] = refl
themselves (x ∷ es) = ap (λ xs. x ∷ xs) (themselves es)

pub ends_inner : (es outer : List Ends) (d : ℕ) (e : Ends) → d < length es → at_distance (ends_behind es outer) d ≡ Ok (get_or es (length es - 1 - d) e)
ends_inner es outer d e low =
    let i = length es - 1 - d in
    ap (λ xs. at_distance (ends_behind xs outer) d) (sym (themselves es)) ∙ seen_inner (λ x. x) es outer d (get_or es i e) low (get_or_default es i e (get_or es i e) (omega arith))

pub ends_outside : (es outer : List Ends) (d : ℕ) → length es ≤ d → at_distance (ends_behind es outer) d ≡ at_distance outer (d - length es)
ends_outside es outer d far = ap (λ xs. at_distance (ends_behind xs outer) d) (sym (themselves es)) ∙ seen_outside (λ x. x) es outer d far

pub ruleset coerced_rules = (ends_inner, ends_outside)
