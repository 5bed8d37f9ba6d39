-- Local variables that stand together, which are looked up from the last one on.
use Rattle.std.proofs.Common.{◌≡◌, refl, sym, ap, ◌∙◌, ◌-◌, ◌<◌, ◌≤◌, ℕ, List, [], ◌∷◌, length, map, get_or, Ok, arith}
use Rattle.std.proofs.lemmas.List.{get_or_default}
use Rattle.fc_model.specs.Faulting.{at_distance}
use Rattle.fc_model.proofs.Distances.{seen_inner, seen_outside}
use Rattle.fc_type_table.specs.declared.node.TypeId.{TypeId}
use Rattle.fc_lint_context.specs.LocalViews.{behind}

themselves : (ids : List TypeId) → map (λ id. id) ids ≡ ids
themselves [] = refl
themselves (id ∷ ids) = ap (λ xs. id ∷ xs) (themselves ids)

pub type_inner : (ids outer : List TypeId) (d : ℕ) (e : TypeId) → d < length ids → at_distance (behind ids outer) d ≡ Ok (get_or ids (length ids - 1 - d) e)
type_inner ids outer d e low =
    let i = length ids - 1 - d in
    ap (λ xs. at_distance (behind xs outer) d) (sym (themselves ids)) ∙ seen_inner (λ x. x) ids outer d (get_or ids i e) low (get_or_default ids i e (get_or ids i e) (omega arith))

pub type_outside : (ids outer : List TypeId) (d : ℕ) → length ids ≤ d → at_distance (behind ids outer) d ≡ at_distance outer (d - length ids)
type_outside ids outer d far = ap (λ xs. at_distance (behind xs outer) d) (sym (themselves ids)) ∙ seen_outside (λ x. x) ids outer d far

pub ruleset type_rules = (type_inner, type_outside)
