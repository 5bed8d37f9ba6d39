-- What a named type means by what its parts mean: one step a form.
use Rattle.std.proofs.Common.{◌≡◌, ℕ, List, ◌∷◌, Some, None, Result, Ok, Err, IfOk, refl, ap}
use Rattle.fc_syntax.specs.declared.ty.Name.{Name}
use Rattle.fc_syntax.specs.declared.ty.Role.{Role}
use Rattle.fc_syntax.specs.declared.ty.Ty as T
use Rattle.fc_syntax.specs.Tree.{Word, Kind, Ty, TVar, TCon, TApp, TFun, TForall, TCoForall}
use Rattle.fc_syntax.specs.View.{ty_of}
use Rattle.fc_model.specs.Faulting.{F, and_then}
use Rattle.fc_model.specs.Nameless.{NTy, NTVar, NTCon, NTApp, NTFun, NTForall, NTCoForall}
use Rattle.fc_model.specs.Resolution.{index_of, local_type}
use Rattle.fc_type_names.specs.Meant.{meant, name_meant}

-- NAMES

pub own_name : (own m w : Word) → m ≡ own → name_meant own (record { «module» = None; text = w }) ≡ Ok (record { «module» = Some m; text = w })
own_name own m w e = rw e refl

pub other_name : (own m w : Word) → name_meant own (record { «module» = Some m; text = w }) ≡ Ok (record { «module» = Some m; text = w })
other_name own m w = refl

pub ruleset name_rules = (own_name, other_name)

-- TYPES

pub variable_meant : (own w : Word) (ws : List Word) (i : ℕ) → index_of ws w ≡ Some i → meant own ws (TVar w) ≡ Ok (NTVar i)
variable_meant own w ws i e = ap local_type e

pub constructor_meant : (own : Word) (ws : List Word) (n m : Name) → name_meant own n ≡ Ok m → meant own ws (TCon n) ≡ Ok (NTCon m)
constructor_meant own ws n m e = ap (λ (r : Result Name F). and_then r (λ x. Ok (NTCon x))) e

pub application_meant : {E : Type 0} (r : Result (T.Ty Word) E) (own : Word) (ws : List Word) (t u : Ty) (a b : NTy) → IfOk r (λ x. ty_of x ≡ TApp t u) → meant own ws t ≡ Ok a → meant own ws u ≡ Ok b
    → IfOk r (λ x. meant own ws (ty_of x) ≡ Ok (NTApp a b))
application_meant (Ok x) own ws t u a b made p q = rw (made, p, q) refl
application_meant (Err x) own ws t u a b made p q = tt

pub function_meant : {E : Type 0} (r : Result (T.Ty Word) E) (own : Word) (ws : List Word) (t u : Ty) (a b : NTy) → IfOk r (λ x. ty_of x ≡ TFun t u) → meant own ws t ≡ Ok a → meant own ws u ≡ Ok b
    → IfOk r (λ x. meant own ws (ty_of x) ≡ Ok (NTFun a b))
function_meant (Ok x) own ws t u a b made p q = rw (made, p, q) refl
function_meant (Err x) own ws t u a b made p q = tt

pub forall_meant : {E : Type 0} (r : Result (T.Ty Word) E) (own : Word) (ws : List Word) (w : Word) (j k : Kind) (t : Ty) (a : NTy) → IfOk r (λ x. ty_of x ≡ TForall w j t) → j ≡ k → meant own (w ∷ ws) t ≡ Ok a
    → IfOk r (λ x. meant own ws (ty_of x) ≡ Ok (NTForall k a))
forall_meant (Ok x) own ws w j k t a made e p = rw (made, e, p) refl
forall_meant (Err x) own ws w j k t a made e p = tt

pub coforall_meant : {E : Type 0} (r : Result (T.Ty Word) E) (own : Word) (ws : List Word) (o : Role) (t u v : Ty) (a b c : NTy) → IfOk r (λ x. ty_of x ≡ TCoForall o t u v)
    → meant own ws t ≡ Ok a → meant own ws u ≡ Ok b → meant own ws v ≡ Ok c → IfOk r (λ x. meant own ws (ty_of x) ≡ Ok (NTCoForall o a b c))
coforall_meant (Ok x) own ws o t u v a b c made p q s = rw (made, p, q, s) refl
coforall_meant (Err x) own ws o t u v a b c made p q s = tt

pub ruleset meaning_rules = (variable_meant, constructor_meant, application_meant, function_meant, forall_meant, coforall_meant)
