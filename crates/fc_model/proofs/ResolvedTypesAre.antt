-- The function gives a type, a coercion or binders a nameless form just where the rules do.
use Rattle.std.proofs.Common.{◌≡◌, ℕ, ◌+◌, List, [], ◌∷◌, Option, Some, None, Result, Ok, Err, refl, ap, subst}
use Rattle.fc_syntax.specs.declared.fault.FaultKind.TheVariants.{Duplicate}
use Rattle.fc_syntax.specs.Tree.{Word, Ty, TVar, TCon, TInt, TApp, TFun, TForall, TCoForall}
use Rattle.fc_syntax.specs.Tree.{Co, GVar, GRefl, GSym, GTrans, GTc, GCapp, GFun, GAll, GCoAll, GInst, GNth, GLeft, GRight, GSub, GAx, GUniv, Cos, NoCos, MoreCos}
use Rattle.fc_syntax.specs.Tree.{Binder, BValue, BType, BCo}
use Rattle.fc_model.specs.Faulting.{F, need}
use Rattle.fc_model.specs.Nameless.{NTy, NTVar, NCo, NGVar, NCos, MoreNCos, NBinder}
use Rattle.fc_model.specs.Resolution.{Top, Locals, Words, declared_name, enter, index_of, is_new, local_co, local_type, then_co, with_binder, with_type}
use Rattle.fc_model.specs.Resolution.{resolved_binder, resolved_binders, resolved_co, resolved_cos, resolved_ty, resolved_tys}
use Rattle.fc_model.specs.ResolutionRules.{ResolvesTy, resolves_type_variable, resolves_type_name, resolves_int, resolves_type_application, resolves_function, resolves_forall, resolves_coforall}
use Rattle.fc_model.specs.ResolutionRules.{ResolvesTys, resolves_no_types, resolves_types}
use Rattle.fc_model.specs.ResolutionRules.{ResolvesCo, resolves_coercion_variable, resolves_refl, resolves_sym, resolves_trans, resolves_tc, resolves_capp, resolves_funco, resolves_allco}
use Rattle.fc_model.specs.ResolutionRules.{resolves_coallco, resolves_inst, resolves_nth, resolves_left, resolves_right, resolves_sub, resolves_axiom, resolves_univ}
use Rattle.fc_model.specs.ResolutionRules.{ResolvesCos, resolves_no_coercions, resolves_coercions}
use Rattle.fc_model.specs.ResolutionRules.{ResolvesBinder, resolves_value_binder, resolves_type_binder, resolves_coercion_binder}
use Rattle.fc_model.specs.ResolutionRules.{ResolvesBinders, resolves_no_binders, resolves_binders}
use Rattle.fc_model.proofs.Parts.{and_then_inv, err_ok, need_inv, ok_ok, part}
use Rattle.fc_model.proofs.Resolved.{then_item_inv}

-- a type variable that resolves is in scope
local_type_inv : (o : Option ℕ) (a : NTy) → local_type o ≡ Ok a → (i : ℕ) × (o ≡ Some i) × (NTVar i ≡ a)
local_type_inv (Some i) a h = (i, refl, ok_ok h)
local_type_inv None a h = err_ok h

-- a coercion variable that resolves is in scope
local_co_inv : (o : Option ℕ) (a : NCo) → local_co o ≡ Ok a → (i : ℕ) × (o ≡ Some i) × (NGVar i ≡ a)
local_co_inv (Some i) a h = (i, refl, ok_ok h)
local_co_inv None a h = err_ok h

-- coercions that are given have a first one and a rest that was given
then_co_inv : (a : NCo) (r : Result NCos F) (xs : NCos) → then_co a r ≡ Ok xs → (rest : NCos) × (r ≡ Ok rest) × (MoreNCos a rest ≡ xs)
then_co_inv a (Ok rest) xs h = (rest, refl, ok_ok h)
then_co_inv a (Err f) xs h = err_ok h

module _ (top : Top) where
  -- TYPES

  -- what resolves by the rules is given its nameless form
  pub ty_is_resolved : {tys : List Word} {t : Ty} {a : NTy} → ResolvesTy top tys t a → resolved_ty top tys t ≡ Ok a
  ty_is_resolved (resolves_type_variable p) = ap local_type p
  ty_is_resolved (resolves_type_name p) = rw p refl
  ty_is_resolved resolves_int = refl
  ty_is_resolved (resolves_type_application t u) = rw (ty_is_resolved t, ty_is_resolved u) refl
  ty_is_resolved (resolves_function t u) = rw (ty_is_resolved t, ty_is_resolved u) refl
  ty_is_resolved (resolves_forall t) = rw (ty_is_resolved t) refl
  ty_is_resolved (resolves_coforall t u v) = rw (ty_is_resolved t, ty_is_resolved u, ty_is_resolved v) refl

  -- what is given a nameless form resolves to it by the rules
  pub resolved_ty_is : (tys : List Word) (t : Ty) (a : NTy) → resolved_ty top tys t ≡ Ok a → ResolvesTy top tys t a
  resolved_ty_is tys (TVar v) a h =
      let p = local_type_inv (index_of tys v) a h in subst (λ x. ResolvesTy top tys (TVar v) x) p.2 (resolves_type_variable p.1)
  resolved_ty_is tys (TCon n) a h =
      let p = and_then_inv (declared_name top top.types top.offers.types n.module n.text) _ a h in subst (λ x. ResolvesTy top tys (TCon n) x) (ok_ok p.2) (resolves_type_name p.1)
  resolved_ty_is tys TInt a h = subst (λ x. ResolvesTy top tys TInt x) (ok_ok h) resolves_int
  resolved_ty_is tys (TApp t u) a h =
      let p = part 0 (resolved_ty top tys t) _ a h in
      let q = part 1 (resolved_ty top tys u) _ a p.2 in
      subst (λ x. ResolvesTy top tys (TApp t u) x) (ok_ok q.2) (resolves_type_application (resolved_ty_is tys t p.0 p.1) (resolved_ty_is tys u q.0 q.1))
  resolved_ty_is tys (TFun t u) a h =
      let p = part 0 (resolved_ty top tys t) _ a h in
      let q = part 1 (resolved_ty top tys u) _ a p.2 in
      subst (λ x. ResolvesTy top tys (TFun t u) x) (ok_ok q.2) (resolves_function (resolved_ty_is tys t p.0 p.1) (resolved_ty_is tys u q.0 q.1))
  resolved_ty_is tys (TForall v k t) a h =
      let p = part 0 (resolved_ty top (v ∷ tys) t) _ a h in
      subst (λ x. ResolvesTy top tys (TForall v k t) x) (ok_ok p.2) (resolves_forall (resolved_ty_is (v ∷ tys) t p.0 p.1))
  resolved_ty_is tys (TCoForall r t u v) a h =
      let p = part 0 (resolved_ty top tys t) _ a h in
      let q = part 1 (resolved_ty top tys u) _ a p.2 in
      let w = part 2 (resolved_ty top tys v) _ a q.2 in
      subst (λ x. ResolvesTy top tys (TCoForall r t u v) x) (ok_ok w.2)
      (resolves_coforall (resolved_ty_is tys t p.0 p.1) (resolved_ty_is tys u q.0 q.1) (resolved_ty_is tys v w.0 w.1))

  -- the same of types from any part number on
  pub tys_are_resolved : {tys : List Word} {ts : List Ty} {us : List NTy} (i : ℕ) → ResolvesTys top tys ts us → resolved_tys top tys i ts ≡ Ok us
  tys_are_resolved i resolves_no_types = refl
  tys_are_resolved i (resolves_types t rest) = rw (ty_is_resolved t, tys_are_resolved (i + 1) rest) refl

  pub resolved_tys_are : (tys : List Word) (i : ℕ) (ts : List Ty) (us : List NTy) → resolved_tys top tys i ts ≡ Ok us → ResolvesTys top tys ts us
  resolved_tys_are tys i [] us h = subst (λ x. ResolvesTys top tys [] x) (ok_ok h) resolves_no_types
  resolved_tys_are tys i (t ∷ ts) us h =
      let p = part i (resolved_ty top tys t) _ us h in
      let q = then_item_inv p.0 (resolved_tys top tys (i + 1) ts) us p.2 in
      subst (λ x. ResolvesTys top tys (t ∷ ts) x) q.2 (resolves_types (resolved_ty_is tys t p.0 p.1) (resolved_tys_are tys (i + 1) ts q.0 q.1))

  -- COERCIONS

  mutual
    -- a coercion that resolves by the rules is given its nameless form
    pub co_is_resolved : {s : Locals} {g : Co} {a : NCo} → ResolvesCo top s g a → resolved_co top s g ≡ Ok a
    co_is_resolved (resolves_coercion_variable p) = ap local_co p
    co_is_resolved (resolves_refl t) = rw (ty_is_resolved t) refl
    co_is_resolved (resolves_sym g) = rw (co_is_resolved g) refl
    co_is_resolved (resolves_trans g h) = rw (co_is_resolved g, co_is_resolved h) refl
    co_is_resolved (resolves_tc p gs) = rw (p, cos_are_resolved 0 gs) refl
    co_is_resolved (resolves_capp g h) = rw (co_is_resolved g, co_is_resolved h) refl
    co_is_resolved (resolves_funco g h) = rw (co_is_resolved g, co_is_resolved h) refl
    co_is_resolved (resolves_allco g) = rw (co_is_resolved g) refl
    co_is_resolved (resolves_coallco f g h) = rw (co_is_resolved f, co_is_resolved g, co_is_resolved h) refl
    co_is_resolved (resolves_inst g h) = rw (co_is_resolved g, co_is_resolved h) refl
    co_is_resolved (resolves_nth g) = rw (co_is_resolved g) refl
    co_is_resolved (resolves_left g) = rw (co_is_resolved g) refl
    co_is_resolved (resolves_right g) = rw (co_is_resolved g) refl
    co_is_resolved (resolves_sub g) = rw (co_is_resolved g) refl
    co_is_resolved (resolves_axiom p gs) = rw (p, cos_are_resolved 0 gs) refl
    co_is_resolved (resolves_univ t u) = rw (ty_is_resolved t, ty_is_resolved u) refl

    pub cos_are_resolved : {s : Locals} {gs : Cos} {xs : NCos} (i : ℕ) → ResolvesCos top s gs xs → resolved_cos top s i gs ≡ Ok xs
    cos_are_resolved i resolves_no_coercions = refl
    cos_are_resolved i (resolves_coercions g rest) = rw (co_is_resolved g, cos_are_resolved (i + 1) rest) refl

  mutual
    -- a coercion that is given a nameless form resolves to it by the rules
    pub resolved_co_is : (s : Locals) (g : Co) (a : NCo) → resolved_co top s g ≡ Ok a → ResolvesCo top s g a
    resolved_co_is s (GVar c) a h =
        let p = local_co_inv (index_of s.coercions c) a h in subst (λ x. ResolvesCo top s (GVar c) x) p.2 (resolves_coercion_variable p.1)
    resolved_co_is s (GRefl r t) a h =
        let p = part 0 (resolved_ty top s.types t) _ a h in
        subst (λ x. ResolvesCo top s (GRefl r t) x) (ok_ok p.2) (resolves_refl (resolved_ty_is s.types t p.0 p.1))
    resolved_co_is s (GSym g) a h =
        let p = part 0 (resolved_co top s g) _ a h in subst (λ x. ResolvesCo top s (GSym g) x) (ok_ok p.2) (resolves_sym (resolved_co_is s g p.0 p.1))
    resolved_co_is s (GTrans f g) a h =
        let p = part 0 (resolved_co top s f) _ a h in
        let q = part 1 (resolved_co top s g) _ a p.2 in
        subst (λ x. ResolvesCo top s (GTrans f g) x) (ok_ok q.2) (resolves_trans (resolved_co_is s f p.0 p.1) (resolved_co_is s g q.0 q.1))
    resolved_co_is s (GTc r n gs) a h =
        let p = and_then_inv (declared_name top top.types top.offers.types n.module n.text) _ a h in
        let q = and_then_inv (resolved_cos top s 0 gs) _ a p.2 in
        subst (λ x. ResolvesCo top s (GTc r n gs) x) (ok_ok q.2) (resolves_tc p.1 (resolved_cos_are s 0 gs q.0 q.1))
    resolved_co_is s (GCapp f g) a h =
        let p = part 0 (resolved_co top s f) _ a h in
        let q = part 1 (resolved_co top s g) _ a p.2 in
        subst (λ x. ResolvesCo top s (GCapp f g) x) (ok_ok q.2) (resolves_capp (resolved_co_is s f p.0 p.1) (resolved_co_is s g q.0 q.1))
    resolved_co_is s (GFun f g) a h =
        let p = part 0 (resolved_co top s f) _ a h in
        let q = part 1 (resolved_co top s g) _ a p.2 in
        subst (λ x. ResolvesCo top s (GFun f g) x) (ok_ok q.2) (resolves_funco (resolved_co_is s f p.0 p.1) (resolved_co_is s g q.0 q.1))
    resolved_co_is s (GAll v k g) a h =
        let p = part 0 (resolved_co top (with_type v s) g) _ a h in
        subst (λ x. ResolvesCo top s (GAll v k g) x) (ok_ok p.2) (resolves_allco (resolved_co_is (with_type v s) g p.0 p.1))
    resolved_co_is s (GCoAll r e f g k) a h =
        let p = part 0 (resolved_co top s f) _ a h in
        let q = part 1 (resolved_co top s g) _ a p.2 in
        let u = part 2 (resolved_co top s k) _ a q.2 in
        subst (λ x. ResolvesCo top s (GCoAll r e f g k) x) (ok_ok u.2)
        (resolves_coallco (resolved_co_is s f p.0 p.1) (resolved_co_is s g q.0 q.1) (resolved_co_is s k u.0 u.1))
    resolved_co_is s (GInst f g) a h =
        let p = part 0 (resolved_co top s f) _ a h in
        let q = part 1 (resolved_co top s g) _ a p.2 in
        subst (λ x. ResolvesCo top s (GInst f g) x) (ok_ok q.2) (resolves_inst (resolved_co_is s f p.0 p.1) (resolved_co_is s g q.0 q.1))
    resolved_co_is s (GNth n g) a h =
        let p = part 0 (resolved_co top s g) _ a h in subst (λ x. ResolvesCo top s (GNth n g) x) (ok_ok p.2) (resolves_nth (resolved_co_is s g p.0 p.1))
    resolved_co_is s (GLeft g) a h =
        let p = part 0 (resolved_co top s g) _ a h in subst (λ x. ResolvesCo top s (GLeft g) x) (ok_ok p.2) (resolves_left (resolved_co_is s g p.0 p.1))
    resolved_co_is s (GRight g) a h =
        let p = part 0 (resolved_co top s g) _ a h in subst (λ x. ResolvesCo top s (GRight g) x) (ok_ok p.2) (resolves_right (resolved_co_is s g p.0 p.1))
    resolved_co_is s (GSub g) a h =
        let p = part 0 (resolved_co top s g) _ a h in subst (λ x. ResolvesCo top s (GSub g) x) (ok_ok p.2) (resolves_sub (resolved_co_is s g p.0 p.1))
    resolved_co_is s (GAx n gs) a h =
        let p = and_then_inv (declared_name top top.coercions top.offers.coercions n.module n.text) _ a h in
        let q = and_then_inv (resolved_cos top s 0 gs) _ a p.2 in
        subst (λ x. ResolvesCo top s (GAx n gs) x) (ok_ok q.2) (resolves_axiom p.1 (resolved_cos_are s 0 gs q.0 q.1))
    resolved_co_is s (GUniv t u) a h =
        let p = part 0 (resolved_ty top s.types t) _ a h in
        let q = part 1 (resolved_ty top s.types u) _ a p.2 in
        subst (λ x. ResolvesCo top s (GUniv t u) x) (ok_ok q.2) (resolves_univ (resolved_ty_is s.types t p.0 p.1) (resolved_ty_is s.types u q.0 q.1))

    pub resolved_cos_are : (s : Locals) (i : ℕ) (gs : Cos) (xs : NCos) → resolved_cos top s i gs ≡ Ok xs → ResolvesCos top s gs xs
    resolved_cos_are s i NoCos xs h = subst (λ x. ResolvesCos top s NoCos x) (ok_ok h) resolves_no_coercions
    resolved_cos_are s i (MoreCos g gs) xs h =
        let p = part i (resolved_co top s g) _ xs h in
        let q = then_co_inv p.0 (resolved_cos top s (i + 1) gs) xs p.2 in
        subst (λ x. ResolvesCos top s (MoreCos g gs) x) q.2 (resolves_coercions (resolved_co_is s g p.0 p.1) (resolved_cos_are s (i + 1) gs q.0 q.1))

  -- BINDERS

  -- a binder that resolves by the rules is given its nameless form
  pub binder_is_resolved : {s : Locals} {b : Binder} {c : NBinder} → ResolvesBinder top s b c → resolved_binder top s b ≡ Ok c
  binder_is_resolved (resolves_value_binder t) = rw (ty_is_resolved t) refl
  binder_is_resolved resolves_type_binder = refl
  binder_is_resolved (resolves_coercion_binder t u) = rw (ty_is_resolved t, ty_is_resolved u) refl

  -- a binder that is given a nameless form resolves to it by the rules
  pub resolved_binder_is : (s : Locals) (b : Binder) (c : NBinder) → resolved_binder top s b ≡ Ok c → ResolvesBinder top s b c
  resolved_binder_is s (BValue x t) c h =
      let p = part 0 (resolved_ty top s.types t) _ c h in
      subst (λ y. ResolvesBinder top s (BValue x t) y) (ok_ok p.2) (resolves_value_binder (resolved_ty_is s.types t p.0 p.1))
  resolved_binder_is s (BType a k) c h = subst (λ y. ResolvesBinder top s (BType a k) y) (ok_ok h) resolves_type_binder
  resolved_binder_is s (BCo v r t u) c h =
      let p = part 0 (resolved_ty top s.types t) _ c h in
      let q = part 1 (resolved_ty top s.types u) _ c p.2 in
      subst (λ y. ResolvesBinder top s (BCo v r t u) y) (ok_ok q.2) (resolves_coercion_binder (resolved_ty_is s.types t p.0 p.1) (resolved_ty_is s.types u q.0 q.1))

  -- the same of binders from any part number on
  pub binders_are_resolved : {s : Locals} {ws : Words} {bs : List Binder} {cs : List NBinder} (i : ℕ) → ResolvesBinders top s ws bs cs → resolved_binders top s ws i bs ≡ Ok cs
  binders_are_resolved i resolves_no_binders = refl
  binders_are_resolved i (resolves_binders new b rest) = rw (new, binder_is_resolved b, binders_are_resolved (i + 1) rest) refl

  pub resolved_binders_are : (s : Locals) (ws : Words) (i : ℕ) (bs : List Binder) (cs : List NBinder) → resolved_binders top s ws i bs ≡ Ok cs → ResolvesBinders top s ws bs cs
  resolved_binders_are s ws i [] cs h = subst (λ x. ResolvesBinders top s ws [] x) (ok_ok h) resolves_no_binders
  resolved_binders_are s ws i (b ∷ bs) cs h =
      let p = part i (need (is_new b ws) Duplicate (resolved_binder top s b)) _ cs h in
      let c = need_inv (is_new b ws) _ _ p.0 p.1 in
      let q = then_item_inv p.0 (resolved_binders top (enter b s) (with_binder b ws) (i + 1) bs) cs p.2 in
      subst (λ x. ResolvesBinders top s ws (b ∷ bs) x) q.2
      (resolves_binders c.0 (resolved_binder_is s b p.0 c.1) (resolved_binders_are (enter b s) (with_binder b ws) (i + 1) bs q.0 q.1))
