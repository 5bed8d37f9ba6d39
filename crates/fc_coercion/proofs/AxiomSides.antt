-- The sides of an axiom, which are `forall`s over its parameters, at the ends of coercions.
use Rattle.std.proofs.Common.{◌≡◌, ℕ, suc, List, [], ◌∷◌, length, Some, refl, sym, ap, ◌∙◌}
use Rattle.fc_syntax.specs.Tree.{Kind}
use Rattle.fc_model.proofs.ArgumentsFit.{instantiated_before}
use Rattle.fc_model.proofs.Substitutions.{variables_for_themselves}
use Rattle.fc_model.specs.Calling.{at_types}
use Rattle.fc_model.specs.Coercing.{Ends, at_parameters, lefts, rights}
use Rattle.fc_model.specs.Nameless.{NTy, NTVar}
use Rattle.fc_model.specs.Substituting.{substituted_type, type_before, types_before}
use Rattle.fc_coercion_forms.specs.Axioms.{both_of, sides_at}
use Rattle.fc_lint_context.specs.DeclaredViews.{over_kinds}

none_is_more : {n : ℕ} → 0 ≡ suc n → ⊥
none_is_more h = cc

more_is_none : {n : ℕ} → suc n ≡ 0 → ⊥
more_is_none h = cc

one_less : {m n : ℕ} → suc m ≡ suc n → m ≡ n
one_less h = cc

-- `forall`s in which types stand for other variables, at as many types
at_all : (s : ℕ → NTy) (ks : List Kind) (t : NTy) (ts : List NTy) → length ts ≡ length ks
    → at_types (substituted_type s (over_kinds ks t)) ts ≡ Some (substituted_type (types_before ts s) t)
at_all s [] t [] e = refl
at_all s [] t (u ∷ ts) e = absurd (more_is_none e)
at_all s (k ∷ ks) t [] e = absurd (none_is_more e)
at_all s (k ∷ ks) t (u ∷ ts) e = ap (λ x. at_types x ts) (instantiated_before u s (over_kinds ks t)) ∙ at_all (type_before u s) ks t ts (one_less e)

pub side_at_parameters : (ks : List Kind) (t : NTy) (ts : List NTy) → length ts ≡ length ks → at_types (over_kinds ks t) ts ≡ Some (at_parameters ts t)
side_at_parameters ks t ts e = ap (λ x. at_types x ts) (sym (variables_for_themselves (over_kinds ks t))) ∙ at_all NTVar ks t ts e

length-lefts : (es : List Ends) → length (lefts es) ≡ length es
length-lefts [] = refl
length-lefts (e ∷ es) = ap suc (length-lefts es)

length-rights : (es : List Ends) → length (rights es) ≡ length es
length-rights [] = refl
length-rights (e ∷ es) = ap suc (length-rights es)

-- both sides, where the coercions are as many as the parameters
pub sides_at_parameters : (ks : List Kind) (t u : NTy) (es : List Ends) → length es ≡ length ks
    → sides_at (over_kinds ks t) (over_kinds ks u) es ≡ Some (at_parameters (lefts es) t, at_parameters (rights es) u)
sides_at_parameters ks t u es e =
    ap (λ o. both_of o (at_types (over_kinds ks u) (rights es))) (side_at_parameters ks t (lefts es) (length-lefts es ∙ e))
    ∙ ap (λ o. both_of (Some (at_parameters (lefts es) t)) o) (side_at_parameters ks u (rights es) (length-rights es ∙ e))
