-- The type of an expression by cases: one constructor for each rule.
use Rattle.std.specs.Prelude.{◌≡◌, ℕ, ℤ, Bool, true, false, not, ◌&&◌, if◌then◌else◌, List, [], ◌∷◌, length, Some, Ok}
use Rattle.fc_syntax.specs.declared.ty.Name.{Name}
use Rattle.fc_syntax.specs.declared.ty.Role.{Role}
use Rattle.fc_syntax.specs.declared.ty.Role.TheVariants.{R}
use Rattle.fc_syntax.specs.declared.expr.Head.TheVariants as head
use Rattle.fc_syntax.specs.declared.expr.PrimOp.{PrimOp}
use Rattle.fc_syntax.specs.Tree.{Kind, KStar}
use Rattle.fc_model.specs.Calling.{Constructor, Given, GivenTerm, GivenType, GivenCoercion, Takes, atom_fits, binders_fit, constructor, constructor_binders, constructor_type, is_data_of, is_int, over_binder, type_count}
use Rattle.fc_model.specs.CoercingRules.{Proves}
use Rattle.fc_model.specs.Faulting.{at_distance}
use Rattle.fc_model.specs.Kinding.{Modules, HasKind, is_lifted, is_value_kind, same_kind}
use Rattle.fc_model.specs.Nameless.{NTy, NTInt, NCo, NBinder, NBValue, NBType, NBCo, NATerm, NAType, NACo, NArg, NBound, NJoined, NBranch}
use Rattle.fc_model.specs.Nameless.{NExpr, NLocal, NVar, NLit, NApp, NLam, NLet, NCase, NCast, NCon, NPrim, NFail, NJoin, NJump}
use Rattle.fc_model.specs.Nameless.{NArgs, NoNArgs, MoreNArgs, NoNExprs, MoreNExprs, NBinds, NoNBinds, MoreNBinds, NJoins, NoNJoins, MoreNJoins, NAlts, NoNAlts, MoreNAlts}
use Rattle.fc_model.specs.Substituting.{raised_type}
use Rattle.fc_model.specs.Typing.{Context, JoinPoint, kinds_behind, is_atom, value_type, with_binder, with_binders, with_binds, with_joins, with_value, without_joins}
use Rattle.fc_model.specs.Typing.{Before, Start, AfterDefault, AfterLit, AfterCon, constructor_in_order, default_in_order, literal_in_order}

-- BINDERS

-- A binder of values has a type that has a kind, one of types a kind without `#`, and one of coercions two types that have kinds; where
-- it binds a parameter, the first is a type of values, and the last have one kind.
pub data BinderIsKinded (ms : Modules) (owes : Bool) (ks : List Kind) : NBinder → Type 0 where
  value_binder : {t : NTy} (k : Kind) → HasKind ms ks t k → (if owes then is_value_kind k else true) ≡ true → BinderIsKinded ms owes ks (NBValue t)
  type_binder : {k : Kind} → is_lifted k ≡ true → BinderIsKinded ms owes ks (NBType k)
  coercion_binder : {r : Role} {t u : NTy} (j k : Kind) → HasKind ms ks t j → HasKind ms ks u k → (if owes then same_kind j k else true) ≡ true
      → BinderIsKinded ms owes ks (NBCo r t u)

pub data BindersAreKinded (ms : Modules) (owes : Bool) : List Kind → List NBinder → Type 0 where
  no_binders : {ks : List Kind} → BindersAreKinded ms owes ks []
  one_binder : {ks : List Kind} {b : NBinder} {bs : List NBinder} → BinderIsKinded ms owes ks b → BindersAreKinded ms owes (kinds_behind b ks) bs
      → BindersAreKinded ms owes ks (b ∷ bs)

-- what stands below a binder of a lambda: below one of types it has a type of kind `*`
pub data BodyFits (ms : Modules) (ks : List Kind) : NBinder → NTy → Type 0 where
  below_value : {t u : NTy} → BodyFits ms ks (NBValue t) u
  below_type : {k : Kind} {u : NTy} → HasKind ms (k ∷ ks) u KStar → BodyFits ms ks (NBType k) u
  below_coercion : {r : Role} {s t u : NTy} → BodyFits ms ks (NBCo r s t) u

-- EXPRESSIONS

mutual
  -- an expression has a type
  pub data HasType (ms : Modules) : Context → NExpr → NTy → Type 0 where
    typed_local : {c : Context} {i : ℕ} {t : NTy} → at_distance c.values i ≡ Ok t → HasType ms c (NLocal i) t
    typed_declared : {c : Context} {n : Name} {t : NTy} → value_type ms n ≡ Ok t → HasType ms c (NVar n) t
    typed_literal : {c : Context} {n : ℤ} → HasType ms c (NLit n) NTInt
    typed_application : {c : Context} {f : NExpr} {a : NArg} (s : NTy) {t : NTy} (g : Given) → HasType ms (without_joins c) f s → ArgIsGiven ms (without_joins c) a g
        → Takes s (g ∷ []) t → HasType ms c (NApp f a) t
    typed_lambda : {c : Context} {b : NBinder} {e : NExpr} {u : NTy} → BinderIsKinded ms true c.kinds b → HasType ms (with_binder b (without_joins c)) e u
        → BodyFits ms c.kinds b u → HasType ms c (NLam b e) (over_binder b u)
    typed_let : {c : Context} {r : Bool} {bs : NBinds} {e : NExpr} {t : NTy} → BindsHaveTypes ms (without_joins (if r then with_binds bs c else c)) r bs
        → HasType ms (with_binds bs c) e t → HasType ms c (NLet r bs e) t
    typed_case : {c : Context} {e : NExpr} {s rt : NTy} {alts : NAlts} (j k : Kind) → HasType ms (without_joins c) e s → HasKind ms c.kinds s j → HasKind ms c.kinds rt k
        → AltsFit ms (with_value s c) s rt Start alts → is_value_kind k ≡ true → HasType ms c (NCase e s rt alts) rt
    typed_cast : {c : Context} {e : NExpr} {g : NCo} {s t : NTy} → HasType ms (without_joins c) e s → Proves ms c.kinds c.coercions g R s t → HasType ms c (NCast e g) t
    typed_con : {c : Context} {n : Name} {args : NArgs} {t : NTy} (k : Constructor) (gs : List Given) → constructor ms n ≡ Some k → ArgsAreGiven ms (without_joins c) args gs
        → length gs ≡ length (constructor_binders k) → Takes (constructor_type n k) gs t → HasType ms c (NCon n args) t
    typed_prim : {c : Context} {op : PrimOp} {a b : NExpr} → HasType ms (without_joins c) a NTInt → is_atom a ≡ true → HasType ms (without_joins c) b NTInt → is_atom b ≡ true
        → HasType ms c (NPrim op (MoreNExprs a (MoreNExprs b NoNExprs))) NTInt
    typed_fail : {c : Context} {t : NTy} (k : Kind) → HasKind ms c.kinds t k → is_value_kind k ≡ true → HasType ms c (NFail t) t
    typed_join : {c : Context} {r : Bool} {t : NTy} {js : NJoins} {e : NExpr} (k : Kind) → HasKind ms c.kinds t k → JoinsHaveType ms (if r then with_joins t js c else c) t js
        → HasType ms (with_joins t js c) e t → is_value_kind k ≡ true → HasType ms c (NJoin r t js e) t
    typed_jump : {c : Context} {i : ℕ} {args : NArgs} (j : JoinPoint) (gs : List Given) (t : NTy) → at_distance c.joins i ≡ Ok j → ArgsAreGiven ms (without_joins c) args gs
        → length gs ≡ j.arity → Takes j.type gs t → HasType ms c (NJump i args) j.result

  -- an argument is a term of a type, a type of a kind, or a coercion
  pub data ArgIsGiven (ms : Modules) : Context → NArg → Given → Type 0 where
    given_term : {c : Context} {e : NExpr} {t : NTy} → HasType ms c e t → ArgIsGiven ms c (NATerm e) (GivenTerm t (is_atom e))
    given_type : {c : Context} {t : NTy} {k : Kind} → HasKind ms c.kinds t k → ArgIsGiven ms c (NAType t) (GivenType t k)
    given_coercion : {c : Context} {g : NCo} {r : Role} {s t : NTy} → Proves ms c.kinds c.coercions g r s t → ArgIsGiven ms c (NACo g) (GivenCoercion r s t)

  pub data ArgsAreGiven (ms : Modules) : Context → NArgs → List Given → Type 0 where
    no_args : {c : Context} → ArgsAreGiven ms c NoNArgs []
    one_arg : {c : Context} {a : NArg} {rest : NArgs} {g : Given} {gs : List Given} → ArgIsGiven ms c a g → ArgsAreGiven ms c rest gs → ArgsAreGiven ms c (MoreNArgs a rest) (g ∷ gs)

  pub data BindsHaveTypes (ms : Modules) : Context → Bool → NBinds → Type 0 where
    no_binds : {c : Context} {r : Bool} → BindsHaveTypes ms c r NoNBinds
    one_bind : {c : Context} {r : Bool} {t : NTy} {e : NExpr} {rest : NBinds} (k : Kind) → HasKind ms c.kinds t k → is_value_kind k ≡ true → HasType ms c e t
        → atom_fits t (not r && is_atom e) ≡ true → BindsHaveTypes ms c r rest → BindsHaveTypes ms c r (MoreNBinds (NBound t e) rest)

  -- the right sides of join points are of the type of the join, which stands outside of their parameters
  pub data JoinsHaveType (ms : Modules) : Context → NTy → NJoins → Type 0 where
    no_joins : {c : Context} {t : NTy} → JoinsHaveType ms c t NoNJoins
    one_join : {c : Context} {t : NTy} {ps : List NBinder} {e : NExpr} {rest : NJoins} → BindersAreKinded ms true c.kinds ps
        → HasType ms (with_binders ps c) e (raised_type (type_count ps) t) → JoinsHaveType ms c t rest → JoinsHaveType ms c t (MoreNJoins (NJoined ps e) rest)

  -- alternatives of result type rt fit a scrutinee of type s, behind what stands before them
  pub data AltsFit (ms : Modules) : Context → NTy → NTy → Before → NAlts → Type 0 where
    no_alts : {c : Context} {s rt : NTy} {b : Before} → AltsFit ms c s rt b NoNAlts
    default_alt : {c : Context} {s rt : NTy} {b : Before} {bs : List NBinder} {e : NExpr} {rest : NAlts} → BindersAreKinded ms false c.kinds bs
        → HasType ms (with_binders bs c) e (raised_type (type_count bs) rt) → default_in_order b ≡ true
        → AltsFit ms c s rt AfterDefault rest → AltsFit ms c s rt b (MoreNAlts (NBranch head.Default bs e) rest)
    literal_alt : {c : Context} {s rt : NTy} {b : Before} {bs : List NBinder} {n : ℤ} {e : NExpr} {rest : NAlts} → BindersAreKinded ms false c.kinds bs
        → HasType ms (with_binders bs c) e (raised_type (type_count bs) rt) → is_int s ≡ true → literal_in_order b n ≡ true
        → AltsFit ms c s rt (AfterLit n) rest → AltsFit ms c s rt b (MoreNAlts (NBranch (head.Lit n) bs e) rest)
    con_alt : {c : Context} {s rt : NTy} {b : Before} {bs : List NBinder} {n : Name} {e : NExpr} {rest : NAlts} (k : Constructor) → BindersAreKinded ms false c.kinds bs
        → HasType ms (with_binders bs c) e (raised_type (type_count bs) rt) → constructor ms n ≡ Some k → is_data_of s n k ≡ true → constructor_in_order b k.number ≡ true
        → binders_fit n k s bs ≡ true → AltsFit ms c s rt (AfterCon k.number) rest → AltsFit ms c s rt b (MoreNAlts (NBranch (head.Con n) bs e) rest)
