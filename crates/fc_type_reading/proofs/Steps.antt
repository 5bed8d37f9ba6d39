-- What is read off of the parts of an expression, from what was answered of them.
use Rattle.std.proofs.Common.{◌≡◌, sym, ap, subst, ◌∙◌, Option, Some, None, Result, Ok, Err, IfOk}
use Rattle.std.specs.Option.{option_map}
use Rattle.fc_syntax.specs.declared.ty.Role.{Role}
use Rattle.fc_model.specs.Calling.{from_some, over_binder}
use Rattle.fc_model.specs.Coercing.{Ends}
use Rattle.fc_model.specs.Faulting.{F}
use Rattle.fc_model.specs.Kinding.{Modules}
use Rattle.fc_model.specs.Nameless.{NTy, NExpr, NLam, NBinder, NBinds}
use Rattle.fc_model.specs.Says.{Refuses, fault_of}
use Rattle.fc_model.specs.Typing.{Context, answered, behind_coercion, right_end, second_of, type_read_off, with_binder, with_binds}
use Rattle.fc_model.specs.declared.flaw.Flaw.{Flaw}
use Rattle.fc_model.specs.declared.flaw.Flawed.{Flawed}
use Rattle.fc_model.specs.declared.flaw.Flawed.TheVariants.{Flaw as OfFlaw}

-- what is read off of one expression is read off of the same one
pub reads-as : {X E : Type 0} (v : X → NTy) (q : Result (Option X) E) (r s : Option NTy) → s ≡ r → IfOk q (λ o. option_map v o ≡ r) → IfOk q (λ o. option_map v o ≡ s)
reads-as v q r s same h = subst (λ x. IfOk q (λ o. option_map v o ≡ x)) (sym same) h

-- ---- an application

pub second-none : {X Y : Type 0} (o : Option (X × Y)) → None ≡ o → None ≡ second_of o
second-none o h = ap second_of h

pub second-some : {X Y : Type 0} (o : Option (X × Y)) (x : X) (y : Y) → Some (x, y) ≡ o → Some y ≡ second_of o
second-some o x y h = ap second_of h

pub behind-none : (o : Option (Role × NTy × NTy × NTy)) → None ≡ o → None ≡ behind_coercion o
behind-none o h = ap behind_coercion h

pub behind-some : (o : Option (Role × NTy × NTy × NTy)) (r : Role) (t u v : NTy) → Some (r, t, u, v) ≡ o → Some v ≡ behind_coercion o
behind-some o r t u v h = ap behind_coercion h

pub ruleset applied_rules = (second-none, second-some, behind-none, behind-some)

-- ---- a lambda and a let, in a context that is this one

module _ (ms : Modules) (c later : Context) (same : later ≡ c) where
  pub lambda-none : (b : NBinder) (e : NExpr) → None ≡ type_read_off ms (with_binder b later) e → None ≡ type_read_off ms c (NLam b e)
  lambda-none b e h = ap (from_some (λ (u : NTy). Some (over_binder b u))) (h ∙ ap (λ (x : Context). type_read_off ms (with_binder b x) e) same)

  pub lambda-some : (b : NBinder) (e : NExpr) (u w : NTy) → Some u ≡ type_read_off ms (with_binder b later) e → w ≡ over_binder b u → Some w ≡ type_read_off ms c (NLam b e)
  lambda-some b e u w h is = ap (λ (x : NTy). Some x) is ∙ ap (from_some (λ (u : NTy). Some (over_binder b u))) (h ∙ ap (λ (x : Context). type_read_off ms (with_binder b x) e) same)

  pub let-is : (bs : NBinds) (e : NExpr) → type_read_off ms (with_binds bs later) e ≡ type_read_off ms (with_binds bs c) e
  let-is bs e = ap (λ (x : Context). type_read_off ms (with_binds bs x) e) same

-- ---- a cast

pub cast-some : (r : Result Ends F) (p : Ends) → r ≡ Ok p → Some p.right ≡ right_end (answered r)
cast-some r p h = sym (ap (λ (q : Result Ends F). right_end (answered q)) h)

cast-none : (r : Result Ends F) (f : F) → r ≡ Err f → None ≡ right_end (answered r)
cast-none r f h = sym (ap (λ (q : Result Ends F). right_end (answered q)) h)

-- where a coercion is refused, a cast has no type
pub cast-refused : (r : Result Ends F) (e : Flawed) (f : Flaw) → e ≡ OfFlaw f → Refuses e r → None ≡ right_end (answered r)
cast-refused r e f is h = cast-none r (fault_of f) (subst (λ x. Refuses x r) is h)
