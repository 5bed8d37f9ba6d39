-- Join points that stand together, which are looked up from the last one on.
use Rattle.std.proofs.Common.{◌≡◌, refl, sym, ap, ◌∙◌, ◌-◌, ◌<◌, ◌≤◌, ℕ, List, [], ◌∷◌, length, map, get_or, Some, arith}
use Rattle.std.proofs.lemmas.List.{get_or_default}
use Rattle.fc_model.specs.Faulting.{at_distance}
use Rattle.fc_model.specs.Typing.{answered}
use Rattle.fc_model.proofs.Distances.{seen_inner, seen_outside}
use Rattle.fc_lint_context.specs.JoinViews.{joins_behind}
use Rattle.fc_lint_context.specs.declared.joins.JoinPoint.{JoinPoint}

themselves : (js : List JoinPoint) → map (λ j. j) js ≡ js
themselves [] = refl
themselves (j ∷ js) = ap (λ xs. j ∷ xs) (themselves js)

pub point_inner : (js outer : List JoinPoint) (d : ℕ) (e : JoinPoint) → d < length js → answered (at_distance (joins_behind js outer) d) ≡ Some (get_or js (length js - 1 - d) e)
point_inner js outer d e low =
    let i = length js - 1 - d in
    ap (λ xs. answered (at_distance (joins_behind xs outer) d)) (sym (themselves js))
    ∙ ap answered (seen_inner (λ x. x) js outer d (get_or js i e) low (get_or_default js i e (get_or js i e) (omega arith)))

pub point_outside : (js outer : List JoinPoint) (d : ℕ) → length js ≤ d → answered (at_distance (joins_behind js outer) d) ≡ answered (at_distance outer (d - length js))
point_outside js outer d far = ap (λ xs. answered (at_distance (joins_behind xs outer) d)) (sym (themselves js)) ∙ ap answered (seen_outside (λ x. x) js outer d far)

pub ruleset point_rules = (point_inner, point_outside)
