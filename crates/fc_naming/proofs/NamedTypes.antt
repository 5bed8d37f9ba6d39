-- Named trees by their parts: one step a form.
use Rattle.std.proofs.Common.{◌≡◌, ℕ, List, Some, slice_get, refl, sym, subst}
use Rattle.fc_syntax.specs.declared.ty.Name.{Name}
use Rattle.fc_syntax.specs.declared.ty.Role.{Role}
use Rattle.fc_syntax.specs.declared.ty.Ty as T
use Rattle.fc_syntax.specs.declared.co.Co as G
use Rattle.fc_syntax.specs.View.{ty_of, tys_of, co_of, cos_of}
use Rattle.fc_syntax.specs.Tree.{Word, Kind, Ty, TVar, TCon, TInt, TApp, TFun, TForall, TCoForall}
use Rattle.fc_syntax.specs.Tree.{Co, GVar, GRefl, GSym, GTrans, GTc, GCapp, GFun, GAll, GCoAll, GInst, GNth, GLeft, GRight, GSub, GAx, GUniv, Cos}
use Rattle.fc_model.specs.Nameless.{NTy, NTCon, NCo, NGTc, NGAx, NAlts}
use Rattle.fc_model.specs.Resolution.{Top, Locals, Value, Words, index_of, with_type, with_term}
use Rattle.fc_model.specs.ResolutionRules.{ResolvesTy, ResolvesCo}
use Rattle.fc_model.specs.ResolutionRules.{resolves_type_variable, resolves_type_name, resolves_int, resolves_type_application, resolves_function, resolves_forall, resolves_coforall, resolves_no_types, resolves_types}
use Rattle.fc_model.specs.ResolutionRules.{resolves_coercion_variable, resolves_refl, resolves_sym, resolves_trans, resolves_tc, resolves_capp, resolves_funco, resolves_allco, resolves_coallco, resolves_inst, resolves_nth, resolves_left, resolves_right, resolves_sub, resolves_axiom, resolves_univ, resolves_no_coercions, resolves_coercions}
use Rattle.fc_model.specs.Worded.{WTy, WCo, WCos, bare_ty, bare_co, bare_cos}
use Rattle.fc_used_words.specs.Scoped.{in_type, in_value, nothing_around}
use Rattle.fc_used_words.specs.Standing.{more_types, more_terms, short}
use Rattle.fc_used_words.proofs.Both.{both_ty, both_co, both_alts}
use Rattle.fc_naming.specs.Named.{AltsUse, CoUses, TyUses, IsWordFor, MayTakeTy, MayTakeCo, MayTakeAlts, IsWritten, IsNamedTy, IsNamedTys, IsNamedCo, IsNamedCos}
use Rattle.fc_naming.proofs.Each.{AreEach, each_more, each_none}
use Rattle.fc_naming.proofs.Lower.{and_keeps, both, type_lower, upper_written, word_at, written_lower}
use Rattle.fc_naming.proofs.Naming.{found_by, takes_type, takes_value}

-- THE WORD OF A BINDER

pub may_take_ty : {top : Top} {s : Locals} {n : NTy} {ws : Words} {w v : Word} → TyUses top s n ws → IsWordFor ws.types w v → MayTakeTy top s w v n
may_take_ty {top = top} {s = s} {n = n} {ws = ws} {v = v} u c = record {
  lower = c.lower;
  enters = λ h.
      let k = in_type nothing_around in
      let moved = both_ty _ _ _ _ (takes_type top ws s v c.free) k nothing_around refl n (u.body h) (u.body h) in
      both_ty _ _ _ _ (found_by top (more_types v ws) (with_type v s)) nothing_around nothing_around refl n moved moved;
}

pub may_take_co : {top : Top} {s : Locals} {n : NCo} {ws : Words} {w v : Word} → CoUses top s n ws → IsWordFor ws.types w v → MayTakeCo top s w v n
may_take_co {top = top} {s = s} {n = n} {ws = ws} {v = v} u c = record {
  lower = c.lower;
  enters = λ h.
      let k = in_type nothing_around in
      let moved = both_co _ _ _ _ (takes_type top ws s v c.free) k nothing_around refl n (u.body h) (u.body h) in
      both_co _ _ _ _ (found_by top (more_types v ws) (with_type v s)) nothing_around nothing_around refl n moved moved;
}

pub may_take_alts : {top : Top} {s : Locals} {n : NAlts} {ws : Words} {w v : Word} → AltsUse top s n ws → IsWordFor ws.terms w v → MayTakeAlts top s w v n
may_take_alts {top = top} {s = s} {n = n} {ws = ws} {v = v} u c = record {
  lower = c.lower;
  enters = λ h.
      let k = in_value nothing_around in
      let moved = both_alts _ _ _ _ (takes_value top ws s v c.free) k nothing_around refl n (u.alts h) (u.alts h) in
      both_alts _ _ _ _ (found_by top (more_terms v ws) (with_term (Value v) s)) nothing_around nothing_around refl n moved moved;
}

module _ {top : Top} {s : Locals} where
  -- TYPES

  pub named_type_variable : {i : ℕ} {v : Word} → IsWritten (slice_get s.types i) v → IsNamedTy top s (TVar i) (TVar v)
  named_type_variable {i = i} {v = v} is = record {
    resolves = λ (w, at, found, any). resolves_type_variable (subst (λ (x : Word). index_of s.types x ≡ Some i) (sym (is.word w at)) found);
    formed = λ l h. written_lower (slice_get s.types i) v is (λ w. word_at s.types i w l.types);
  }

  pub named_type_name : {x y : Name} → y ≡ short top.own x → IsNamedTy top s (TCon x) (TCon y)
  named_type_name {x = x} {y = y} is = record { resolves = λ h. subst (λ (z : Name). ResolvesTy top s.types (TCon z) (NTCon x)) (sym is) (resolves_type_name h); formed = λ l h. upper_written top.own x is h }

  pub named_int : IsNamedTy top s TInt TInt
  named_int = record { resolves = λ h. resolves_int; formed = λ l h. refl }

  pub named_type_application : {a b : WTy} {t u : Ty} → IsNamedTy top s a t → IsNamedTy top s b u → IsNamedTy top s (TApp a b) (TApp t u)
  named_type_application p q = record { resolves = λ h. resolves_type_application (p.resolves h.0) (q.resolves h.1); formed = λ l. and_keeps (p.formed l) (q.formed l) }

  pub named_function : {a b : WTy} {t u : Ty} → IsNamedTy top s a t → IsNamedTy top s b u → IsNamedTy top s (TFun a b) (TFun t u)
  named_function p q = record { resolves = λ h. resolves_function (p.resolves h.0) (q.resolves h.1); formed = λ l. and_keeps (p.formed l) (q.formed l) }

  pub named_forall : {w v : Word} {k : Kind} {a : WTy} {t : Ty} → MayTakeTy top s w v (bare_ty a) → IsNamedTy top (with_type v s) a t → IsNamedTy top s (TForall w k a) (TForall v k t)
  named_forall m p = record {
    resolves = λ h. resolves_forall (p.resolves (m.enters h));
    formed = λ l h. both m.lower (p.formed (type_lower l m.lower) h);
  }

  pub named_coforall : {r : Role} {a b c : WTy} {t u v : Ty} → IsNamedTy top s a t → IsNamedTy top s b u → IsNamedTy top s c v → IsNamedTy top s (TCoForall r a b c) (TCoForall r t u v)
  named_coforall p q o = record {
    resolves = λ h. resolves_coforall (p.resolves h.0) (q.resolves h.1) (o.resolves h.2);
    formed = λ l. and_keeps (λ h. h) (and_keeps (p.formed l) (and_keeps (q.formed l) (o.formed l)));
  }

  -- COERCIONS

  pub named_coercion_variable : {i : ℕ} {v : Word} → IsWritten (slice_get s.coercions i) v → IsNamedCo top s (GVar i) (GVar v)
  named_coercion_variable {i = i} {v = v} is = record {
    resolves = λ (w, at, found, any). resolves_coercion_variable (subst (λ (x : Word). index_of s.coercions x ≡ Some i) (sym (is.word w at)) found);
    formed = λ l h. written_lower (slice_get s.coercions i) v is (λ w. word_at s.coercions i w l.coercions);
  }

  pub named_refl : {r : Role} {a : WTy} {t : Ty} → IsNamedTy top s a t → IsNamedCo top s (GRefl r a) (GRefl r t)
  named_refl p = record { resolves = λ h. resolves_refl (p.resolves h); formed = p.formed }

  pub named_tc : {r : Role} {x y : Name} {a : WCos} {t : Cos} → y ≡ short top.own x → IsNamedCos top s a t → IsNamedCo top s (GTc r x a) (GTc r y t)
  named_tc {r = r} {x = x} {a = a} {t = t} is p = record {
    resolves = λ h. subst (λ (z : Name). ResolvesCo top s (GTc r z t) (NGTc r x (bare_cos a))) (sym is) (resolves_tc h.0 (p.resolves h.1));
    formed = λ l. and_keeps (λ h. h) (and_keeps (upper_written top.own x is) (and_keeps p.some (p.formed l)));
  }

  pub named_axiom : {x y : Name} {a : WCos} {t : Cos} → y ≡ short top.own x → IsNamedCos top s a t → IsNamedCo top s (GAx x a) (GAx y t)
  named_axiom {x = x} {a = a} {t = t} is p = record {
    resolves = λ h. subst (λ (z : Name). ResolvesCo top s (GAx z t) (NGAx x (bare_cos a))) (sym is) (resolves_axiom h.0 (p.resolves h.1));
    formed = λ l. and_keeps (upper_written top.own x is) (p.formed l);
  }

  pub named_allco : {w v : Word} {k : Kind} {a : WCo} {t : Co} → MayTakeCo top s w v (bare_co a) → IsNamedCo top (with_type v s) a t → IsNamedCo top s (GAll w k a) (GAll v k t)
  named_allco m p = record {
    resolves = λ h. resolves_allco (p.resolves (m.enters h));
    formed = λ l h. both m.lower (p.formed (type_lower l m.lower) h);
  }

  pub named_coallco : {r e : Role} {a b c : WCo} {t u v : Co} → IsNamedCo top s a t → IsNamedCo top s b u → IsNamedCo top s c v → IsNamedCo top s (GCoAll r e a b c) (GCoAll r e t u v)
  named_coallco p q o = record {
    resolves = λ h. resolves_coallco (p.resolves h.0) (q.resolves h.1) (o.resolves h.2);
    formed = λ l. and_keeps (λ h. h) (and_keeps (p.formed l) (and_keeps (q.formed l) (o.formed l)));
  }

  pub named_univ : {a b : WTy} {t u : Ty} → IsNamedTy top s a t → IsNamedTy top s b u → IsNamedCo top s (GUniv a b) (GUniv t u)
  named_univ p q = record { resolves = λ h. resolves_univ (p.resolves h.0) (q.resolves h.1); formed = λ l. and_keeps (p.formed l) (q.formed l) }

  pub named_sym : {a : WCo} {t : Co} → IsNamedCo top s a t → IsNamedCo top s (GSym a) (GSym t)
  named_sym p = record { resolves = λ h. resolves_sym (p.resolves h); formed = p.formed }

  pub named_left : {a : WCo} {t : Co} → IsNamedCo top s a t → IsNamedCo top s (GLeft a) (GLeft t)
  named_left p = record { resolves = λ h. resolves_left (p.resolves h); formed = p.formed }

  pub named_right : {a : WCo} {t : Co} → IsNamedCo top s a t → IsNamedCo top s (GRight a) (GRight t)
  named_right p = record { resolves = λ h. resolves_right (p.resolves h); formed = p.formed }

  pub named_sub : {a : WCo} {t : Co} → IsNamedCo top s a t → IsNamedCo top s (GSub a) (GSub t)
  named_sub p = record { resolves = λ h. resolves_sub (p.resolves h); formed = p.formed }

  pub named_nth : {i : ℕ} {a : WCo} {t : Co} → IsNamedCo top s a t → IsNamedCo top s (GNth i a) (GNth i t)
  named_nth p = record { resolves = λ h. resolves_nth (p.resolves h); formed = λ l. and_keeps (λ h. h) (p.formed l) }

  pub named_trans : {a b : WCo} {t u : Co} → IsNamedCo top s a t → IsNamedCo top s b u → IsNamedCo top s (GTrans a b) (GTrans t u)
  named_trans p q = record { resolves = λ h. resolves_trans (p.resolves h.0) (q.resolves h.1); formed = λ l. and_keeps (p.formed l) (q.formed l) }

  pub named_capp : {a b : WCo} {t u : Co} → IsNamedCo top s a t → IsNamedCo top s b u → IsNamedCo top s (GCapp a b) (GCapp t u)
  named_capp p q = record { resolves = λ h. resolves_capp (p.resolves h.0) (q.resolves h.1); formed = λ l. and_keeps (p.formed l) (q.formed l) }

  pub named_funco : {a b : WCo} {t u : Co} → IsNamedCo top s a t → IsNamedCo top s b u → IsNamedCo top s (GFun a b) (GFun t u)
  named_funco p q = record { resolves = λ h. resolves_funco (p.resolves h.0) (q.resolves h.1); formed = λ l. and_keeps (p.formed l) (q.formed l) }

  pub named_inst : {a b : WCo} {t u : Co} → IsNamedCo top s a t → IsNamedCo top s b u → IsNamedCo top s (GInst a b) (GInst t u)
  named_inst p q = record { resolves = λ h. resolves_inst (p.resolves h.0) (q.resolves h.1); formed = λ l. and_keeps (p.formed l) (q.formed l) }

  -- LISTS

  pub named_tys : (items : List (T.Ty ℕ)) (out : List (T.Ty Word)) → AreEach (λ x y. IsNamedTy top s (ty_of x) (ty_of y)) items out → IsNamedTys top s (tys_of items) (tys_of out)
  named_tys _ _ each_none = record { resolves = λ h. resolves_no_types; formed = λ l h. refl }
  named_tys _ _ (each_more p rest) =
      let q = named_tys _ _ rest in
      record { resolves = λ h. resolves_types (p.resolves h.0) (q.resolves h.1); formed = λ l. and_keeps (p.formed l) (q.formed l) }

  pub named_cos : (items : List (G.Co ℕ)) (out : List (G.Co Word)) → AreEach (λ x y. IsNamedCo top s (co_of x) (co_of y)) items out → IsNamedCos top s (cos_of items) (cos_of out)
  named_cos _ _ each_none = record { resolves = λ h. resolves_no_coercions; some = λ h. h; formed = λ l h. refl }
  named_cos _ _ (each_more p rest) =
      let q = named_cos _ _ rest in
      record { resolves = λ h. resolves_coercions (p.resolves h.0) (q.resolves h.1); some = λ h. refl; formed = λ l. and_keeps (p.formed l) (q.formed l) }

pub ruleset type_names = (named_type_variable, named_type_name, named_int, named_type_application, named_function, named_forall, named_coforall)

pub ruleset coercion_names = (named_coercion_variable, named_refl, named_sym, named_trans, named_tc, named_capp, named_funco, named_allco, named_coallco, named_inst, named_nth, named_left, named_right, named_sub, named_axiom, named_univ)
