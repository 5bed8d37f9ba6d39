-- Lists put together from their last member.
use Rattle.std.proofs.Common.{◌≡◌, List, [], ◌∷◌, ◌++◌, refl, sym, ap, ◌∙◌}
use Rattle.fc_syntax.specs.Tree.{Word}
use Rattle.fc_syntax.specs.Tree.{Ty, TFun, Expr, ELam}
use Rattle.fc_syntax.specs.View.{ty_of, tys_of, binder_of, binders_of}
use Rattle.fc_syntax.specs.declared.ty.Ty as T
use Rattle.fc_syntax.specs.declared.expr.Binder as B
use Rattle.fc_model.specs.Grammar.{functions, lambdas}

-- functions from each of the types to the next, and from the last to the result
abbrev pub towards : List Ty → Ty → Ty
towards [] t = t
towards (u ∷ us) t = TFun u (towards us t)

pub functions_last : (t : Ty) (us : List (T.Ty Word)) (last : T.Ty Word) → functions t (tys_of (us ++ last ∷ [])) ≡ TFun t (towards (tys_of us) (ty_of last))
functions_last t [] last = refl
functions_last t (u ∷ us) last = ap (TFun t) (functions_last (ty_of u) us last)

towards_last : (us : List (T.Ty Word)) (last : T.Ty Word) (t : Ty) → towards (tys_of (us ++ last ∷ [])) t ≡ towards (tys_of us) (TFun (ty_of last) t)
towards_last [] last t = refl
towards_last (u ∷ us) last t = ap (TFun (ty_of u)) (towards_last us last t)

pub chain_kept : (first all : Ty) (old new : List (T.Ty Word)) (u : T.Ty Word) (t v : Ty) → old ≡ new ++ u ∷ [] → v ≡ TFun (ty_of u) t → TFun first (towards (tys_of old) t) ≡ all
    → TFun first (towards (tys_of new) v) ≡ all
chain_kept first all old new u t v e f h =
    ap (λ x. TFun first (towards (tys_of new) x)) f ∙ ap (TFun first) (sym (towards_last new u t) ∙ ap (λ (us : List (T.Ty Word)). towards (tys_of us) t) (sym e)) ∙ h

pub lambdas_last : (bs : List (B.Binder Word)) (b : B.Binder Word) (e : Expr) → lambdas (binders_of (bs ++ b ∷ [])) e ≡ lambdas (binders_of bs) (ELam (binder_of b) e)
lambdas_last [] b e = refl
lambdas_last (c ∷ bs) b e = ap (ELam (binder_of c)) (lambdas_last bs b e)
