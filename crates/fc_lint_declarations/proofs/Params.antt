-- Kinds and roles of parameters, and the binders of constructors.
use Rattle.std.proofs.Common.{◌≡◌, refl, ap, ◌∙◌, ℕ, ◌+◌, ◌-◌, ◌<◌, Bool, ◌&&◌, ◌++◌, List, [], ◌∷◌, drop, get_or, length, reverse, Ok, arith, length-drop}
use Rattle.std.proofs.lemmas.List.{length-map}
use Rattle.fc_type_table.specs.InScope.{behind_group}
use Rattle.fc_syntax.specs.declared.fault.FaultKind.TheVariants.{RoleTooWeak}
use Rattle.fc_syntax.specs.declared.module.Param.{Param}
use Rattle.fc_syntax.specs.declared.ty.Role.{Role}
use Rattle.fc_syntax.specs.Roles.{role_below}
use Rattle.fc_syntax.specs.Tree.{Kind}
use Rattle.fc_syntax.specs.View.{param_of, params_of}
use Rattle.fc_model.specs.Faulting.{and_then, need, under}
use Rattle.fc_model.specs.Kinding.{Modules}
use Rattle.fc_model.specs.Linting.{con_binder_judged, con_binders_judged, done, roles_judged}
use Rattle.fc_model.specs.Typing.{kinds_behind}
use Rattle.fc_model.specs.Nameless.{NBinder}
use Rattle.fc_model.specs.NamelessView.{nparams_of}
use Rattle.fc_model.specs.Worded.{bare_param}
use Rattle.fc_model.proofs.Lists.{drop_item}

append_none : {X : Type 0} (xs : List X) → xs ++ [] ≡ xs
append_none [] = refl
append_none (x ∷ xs) = ap (λ r. x ∷ r) (append_none xs)

-- the kinds of parameters alone
pub params_alone : (ks : List Kind) → behind_group ks [] ≡ reverse ks
params_alone ks = append_none (reverse ks)

pub ruleset scope_rules = (params_alone)

-- one turn of the loop over the binders of a constructor
pub binders_step : (ms : Modules) (old new : List Kind) (i j : ℕ) (one same all : Bool) (b : NBinder) (rest : List NBinder) → under i (con_binder_judged ms old b) ≡ Ok same
    → new ≡ kinds_behind b old → j ≡ i + 1 → all ≡ (one && same) → con_binders_judged ms old i one (b ∷ rest) ≡ con_binders_judged ms new j all rest
binders_step ms old new i j one same all b rest judged next more both = rw (next, more, both, judged) refl

-- as many parameters follow one as stand behind it
rest_length : (ps : List Param) (n : ℕ) → n < length ps → length (nparams_of (drop (n + 1) ps)) ≡ length ps - 1 - n
rest_length ps n low =
    let rest = drop (n + 1) ps in
    let bare : length (nparams_of rest) ≡ length rest = length-map (params_of rest) bare_param ∙ length-map rest param_of in
    omega (arith, bare, length-drop (n + 1) ps)

-- one turn of the loop over the parameters
pub roles_more : (f : ℕ → Role) (i n : ℕ) (ps : List Param) (p : Param) → n < length ps → p ≡ get_or ps n p
    → roles_judged f i (nparams_of (drop n ps))
    ≡ and_then (under i (need (role_below p.role (f (length ps - 1 - n))) RoleTooWeak (Ok done))) (λ _. roles_judged f (i + 1) (nparams_of (drop (n + 1) ps)))
roles_more f i n ps p low is =
    ap (λ xs. roles_judged f i (nparams_of xs)) (drop_item ps n p low is)
    ∙ ap (λ m. and_then (under i (need (role_below p.role (f m)) RoleTooWeak (Ok done))) (λ _. roles_judged f (i + 1) (nparams_of (drop (n + 1) ps)))) (rest_length ps n low)

-- only the needs of the parameters count
pub roles_alike : (f g : ℕ → Role) (i : ℕ) (ps : List Param) → ((p : ℕ) → p < length ps → f p ≡ g p) → roles_judged f i (nparams_of ps) ≡ roles_judged g i (nparams_of ps)
roles_alike f g i [] same = refl
roles_alike f g i (p ∷ ps) same =
    let bare : length (nparams_of ps) ≡ length ps = length-map (params_of ps) bare_param ∙ length-map ps param_of in
    let here : f (length (nparams_of ps)) ≡ g (length (nparams_of ps)) = same (length (nparams_of ps)) (omega (arith, bare)) in
    rw (here, roles_alike f g (i + 1) ps (λ q low. same q (omega (arith, low)))) refl
