-- Where an expression has a type, it is the one that is read off.
use Rattle.std.proofs.Common.{◌≡◌, [], ◌∷◌, Option, Some, None, refl, ap}
use Rattle.fc_syntax.specs.declared.ty.Role.TheVariants.{R}
use Rattle.fc_model.specs.Calling.{Given, Takes, from_some, takes_term, takes_type, takes_coercion}
use Rattle.fc_model.specs.Coercing.{ends}
use Rattle.fc_model.specs.Kinding.{Modules}
use Rattle.fc_model.specs.Nameless.{NTy, NBinder, NBValue, NBType, NBCo, NATerm, NAType, NACo, NArg, NBound, NBinds, NoNBinds, MoreNBinds}
use Rattle.fc_model.specs.Nameless.{NExpr, NLocal, NVar, NLit, NApp, NLam, NLet, NCase, NCast, NCon, NPrim, NFail, NJoin, NJump}
use Rattle.fc_model.specs.Typing.{Context, answered, right_end, type_read_off, with_binder, with_binds, with_value, without_joins}
use Rattle.fc_model.specs.TypingRules.{HasType, typed_local, typed_declared, typed_literal, typed_application, typed_lambda, typed_let, typed_case, typed_cast}
use Rattle.fc_model.specs.TypingRules.{typed_con, typed_prim, typed_fail, typed_join, typed_jump}
use Rattle.fc_model.specs.TypingRules.{ArgIsGiven, given_term, given_type, given_coercion}
use Rattle.fc_model.proofs.Called.{takes_none}
use Rattle.fc_model.proofs.CoercionsAre.{ends_are}
use Rattle.fc_model.proofs.ConstructorsRead.{constructed_is_read}

-- WITH JOIN POINTS

-- what follows from what is found follows where that is found too
follows_too : {t : NTy} (go : NTy → Option NTy) (o p : Option NTy) → ((s : NTy) → o ≡ Some s → p ≡ Some s) → from_some go o ≡ Some t → from_some go p ≡ Some t
follows_too go (Some s) p same h = rw (same s refl) h
follows_too go None p same h = absurd (cc)

-- binders keep that no join point is in tail reach
binder_without_joins : (b : NBinder) (c : Context) → with_binder b (without_joins c) ≡ without_joins (with_binder b c)
binder_without_joins (NBValue t) c = refl
binder_without_joins (NBType k) c = refl
binder_without_joins (NBCo r t u) c = refl

binds_without_joins : (bs : NBinds) (c : Context) → with_binds bs (without_joins c) ≡ without_joins (with_binds bs c)
binds_without_joins NoNBinds c = refl
binds_without_joins (MoreNBinds (NBound t e) rest) c = binds_without_joins rest (with_value t c)

module _ (ms : Modules) where
  -- what is read off where no join point is in tail reach is read off where some are
  read_with_joins : (c : Context) (e : NExpr) (t : NTy) → type_read_off ms (without_joins c) e ≡ Some t → type_read_off ms c e ≡ Some t
  read_with_joins c (NLocal i) t h = h
  read_with_joins c (NVar n) t h = h
  read_with_joins c (NLit n) t h = h
  read_with_joins c (NApp f (NATerm a)) t h = follows_too _ _ _ (read_with_joins c f) h
  read_with_joins c (NApp f (NAType u)) t h = follows_too _ _ _ (read_with_joins c f) h
  read_with_joins c (NApp f (NACo g)) t h = follows_too _ _ _ (read_with_joins c f) h
  read_with_joins c (NLam b e) t h = follows_too _ _ _ (read_with_joins (with_binder b c) e) (rw binder_without_joins at h)
  read_with_joins c (NLet r bs e) t h = read_with_joins (with_binds bs c) e t (rw binds_without_joins at h)
  read_with_joins c (NCase e xt rt alts) t h = h
  read_with_joins c (NCast e g) t h = h
  read_with_joins c (NCon n args) t h = h
  read_with_joins c (NPrim op es) t h = h
  read_with_joins c (NFail u) t h = h
  read_with_joins c (NJoin r u js e) t h = h
  read_with_joins c (NJump i args) t h = absurd (cc)

  -- what takes one argument is of the type that is read off behind it
  application_is_read : {s t : NTy} {g : Given} {a : NArg} (c : Context) (f : NExpr) → Takes s (g ∷ []) t → ArgIsGiven ms (without_joins c) a g
      → type_read_off ms c f ≡ Some s → type_read_off ms c (NApp f a) ≡ Some t
  application_is_read c f (takes_term fits rest) (given_term e) read = rw read (ap (λ x. Some x) (takes_none rest))
  application_is_read c f (takes_type rest) (given_type kind) read = rw read (ap (λ x. Some x) (takes_none rest))
  application_is_read c f (takes_coercion rest) (given_coercion p) read = rw read (ap (λ x. Some x) (takes_none rest))

  pub type_is_read_off : {c : Context} {e : NExpr} {t : NTy} → HasType ms c e t → type_read_off ms c e ≡ Some t
  type_is_read_off (typed_local p) = ap answered p
  type_is_read_off (typed_declared p) = ap answered p
  type_is_read_off typed_literal = refl
  type_is_read_off (typed_application {c = c} {f = f} s g head a takes) = application_is_read c f takes a (read_with_joins c f s (type_is_read_off head))
  type_is_read_off (typed_lambda {c = c} {b = b} {e = e} {u = u} k body fits) =
      rw (read_with_joins (with_binder b c) e u (rw binder_without_joins at (type_is_read_off body))) refl
  type_is_read_off (typed_let bs e) = type_is_read_off e
  type_is_read_off (typed_case j k e t r alts v) = refl
  type_is_read_off (typed_cast {c = c} {g = g} {s = s} {t = t} e p) = ap (λ x. right_end (answered x)) ((ends_are ms c.kinds c.coercions g (ends R s t)).1 p)
  type_is_read_off (typed_con {n = n} k gs is args l takes) = rw is (constructed_is_read ms n k takes args l)
  type_is_read_off (typed_prim a x b y) = refl
  type_is_read_off (typed_fail k t v) = refl
  type_is_read_off (typed_join k t js e v) = refl
  type_is_read_off (typed_jump j gs t is args l takes) = rw is refl
