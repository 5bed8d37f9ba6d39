-- Resolution by rules, one for each form: which nameless tree is that of a named one. The function beside it (`Resolution`) gives the
-- same nameless tree, or else the first fault; that the two agree is proved.
use Rattle.std.specs.Prelude.{◌≡◌, ℕ, ℤ, Bool, true, false, List, [], ◌∷◌, map, if◌then◌else◌, None, Some, Ok}
use Rattle.fc_syntax.specs.Hints.{param_hint, plain_hint}
use Rattle.fc_syntax.specs.declared.ty.Name.{Name}
use Rattle.fc_syntax.specs.declared.ty.Role.{Role}
use Rattle.fc_syntax.specs.declared.expr.Head.{Head}
use Rattle.fc_syntax.specs.declared.expr.Head.TheVariants as head
use Rattle.fc_syntax.specs.declared.expr.PrimOp.{PrimOp}
use Rattle.fc_syntax.specs.Tree.{Word, Kind, Ty, TVar, TCon, TInt, TApp, TFun, TForall, TCoForall}
use Rattle.fc_syntax.specs.Tree.{Co, GVar, GRefl, GSym, GTrans, GTc, GCapp, GFun, GAll, GCoAll, GInst, GNth, GLeft, GRight, GSub, GAx, GUniv, Cos, NoCos, MoreCos}
use Rattle.fc_syntax.specs.Tree.{Binder, BValue, BType, BCo, Arg, ATerm, AType, ACo, Bound, Joined, Branch}
use Rattle.fc_syntax.specs.Tree.{Expr, EVar, ELit, EApp, ELam, ELet, ECase, ECast, ECon, EPrim, EFail, EJoin, EJump}
use Rattle.fc_syntax.specs.Tree.{Exprs, NoExprs, MoreExprs, Args, NoArgs, MoreArgs, Binds, NoBinds, MoreBinds, Joins, NoJoins, MoreJoins, Alts, NoAlts, MoreAlts}
use Rattle.fc_syntax.specs.Tree.{Param, Plain, ConDecl, ConOf, Decl, DData, DNew, DFamily, DAxiom, DDef, DWrap, Module, ModuleOf}
use Rattle.fc_model.specs.Nameless.{NTy, NTVar, NTCon, NTInt, NTApp, NTFun, NTForall, NTCoForall}
use Rattle.fc_model.specs.Nameless.{NCo, NGVar, NGRefl, NGSym, NGTrans, NGTc, NGCapp, NGFun, NGAll, NGCoAll, NGInst, NGNth, NGLeft, NGRight, NGSub, NGAx, NGUniv, NCos, NoNCos, MoreNCos}
use Rattle.fc_model.specs.Nameless.{NBinder, NBValue, NBType, NBCo, NArg, NATerm, NAType, NACo, NBound, NJoined, NBranch}
use Rattle.fc_model.specs.Nameless.{NExpr, NLocal, NVar, NLit, NApp, NLam, NLet, NCase, NCast, NCon, NPrim, NFail, NJoin, NJump}
use Rattle.fc_model.specs.Nameless.{NExprs, NoNExprs, MoreNExprs, NArgs, NoNArgs, MoreNArgs, NBinds, NoNBinds, MoreNBinds, NJoins, NoNJoins, MoreNJoins, NAlts, NoNAlts, MoreNAlts}
use Rattle.fc_model.specs.Nameless.{NConDecl, NConOf, NDecl, NData, NNew, NFamily, NAxiom, NDef, NWrap, NModule, NModuleOf}
use Rattle.fc_model.specs.Resolution.{Top, Locals, Value, WordSet, Words, IsValue, IsJoin, Nowhere, no_word, no_words, no_locals, plus}
use Rattle.fc_model.specs.Resolution.{declared_name, found_term, index_of, with_term, with_type, enter, enter_all, enter_joins, enter_values, is_new, with_binder}
use Rattle.fc_model.specs.Resolution.{bind_words, join_words, behind, in_params, top_of}
use Rattle.fc_model.specs.Worded.{bare_param, bare_plain}

-- TYPES

-- a type in the scope of these type variables, the innermost first
pub data ResolvesTy (top : Top) : List Word → Ty → NTy → Type 0 where
  resolves_type_variable : {tys : List Word} {a : Word} {i : ℕ} → index_of tys a ≡ Some i → ResolvesTy top tys (TVar a) (NTVar i)
  resolves_type_name : {tys : List Word} {n m : Name} → declared_name top top.types top.offers.types n.module n.text ≡ Ok m → ResolvesTy top tys (TCon n) (NTCon m)
  resolves_int : {tys : List Word} → ResolvesTy top tys TInt NTInt
  resolves_type_application : {tys : List Word} {t u : Ty} {a b : NTy} → ResolvesTy top tys t a → ResolvesTy top tys u b → ResolvesTy top tys (TApp t u) (NTApp a b)
  resolves_function : {tys : List Word} {t u : Ty} {a b : NTy} → ResolvesTy top tys t a → ResolvesTy top tys u b → ResolvesTy top tys (TFun t u) (NTFun a b)
  resolves_forall : {tys : List Word} {a : Word} {k : Kind} {t : Ty} {b : NTy} → ResolvesTy top (a ∷ tys) t b → ResolvesTy top tys (TForall a k t) (NTForall k b)
  resolves_coforall : {tys : List Word} {r : Role} {t u v : Ty} {a b c : NTy} → ResolvesTy top tys t a → ResolvesTy top tys u b → ResolvesTy top tys v c
      → ResolvesTy top tys (TCoForall r t u v) (NTCoForall r a b c)

pub data ResolvesTys (top : Top) : List Word → List Ty → List NTy → Type 0 where
  resolves_no_types : {tys : List Word} → ResolvesTys top tys [] []
  resolves_types : {tys : List Word} {t : Ty} {a : NTy} {ts : List Ty} {us : List NTy} → ResolvesTy top tys t a → ResolvesTys top tys ts us → ResolvesTys top tys (t ∷ ts) (a ∷ us)

-- COERCIONS

mutual
  pub data ResolvesCo (top : Top) : Locals → Co → NCo → Type 0 where
    resolves_coercion_variable : {s : Locals} {c : Word} {i : ℕ} → index_of s.coercions c ≡ Some i → ResolvesCo top s (GVar c) (NGVar i)
    resolves_refl : {s : Locals} {r : Role} {t : Ty} {a : NTy} → ResolvesTy top s.types t a → ResolvesCo top s (GRefl r t) (NGRefl r a)
    resolves_sym : {s : Locals} {g : Co} {a : NCo} → ResolvesCo top s g a → ResolvesCo top s (GSym g) (NGSym a)
    resolves_trans : {s : Locals} {g h : Co} {a b : NCo} → ResolvesCo top s g a → ResolvesCo top s h b → ResolvesCo top s (GTrans g h) (NGTrans a b)
    resolves_tc : {s : Locals} {r : Role} {n m : Name} {gs : Cos} {xs : NCos} → declared_name top top.types top.offers.types n.module n.text ≡ Ok m → ResolvesCos top s gs xs
        → ResolvesCo top s (GTc r n gs) (NGTc r m xs)
    resolves_capp : {s : Locals} {g h : Co} {a b : NCo} → ResolvesCo top s g a → ResolvesCo top s h b → ResolvesCo top s (GCapp g h) (NGCapp a b)
    resolves_funco : {s : Locals} {g h : Co} {a b : NCo} → ResolvesCo top s g a → ResolvesCo top s h b → ResolvesCo top s (GFun g h) (NGFun a b)
    resolves_allco : {s : Locals} {a : Word} {k : Kind} {g : Co} {b : NCo} → ResolvesCo top (with_type a s) g b → ResolvesCo top s (GAll a k g) (NGAll k b)
    resolves_coallco : {s : Locals} {r e : Role} {f g h : Co} {a b c : NCo} → ResolvesCo top s f a → ResolvesCo top s g b → ResolvesCo top s h c
        → ResolvesCo top s (GCoAll r e f g h) (NGCoAll r e a b c)
    resolves_inst : {s : Locals} {g h : Co} {a b : NCo} → ResolvesCo top s g a → ResolvesCo top s h b → ResolvesCo top s (GInst g h) (NGInst a b)
    resolves_nth : {s : Locals} {n : ℕ} {g : Co} {a : NCo} → ResolvesCo top s g a → ResolvesCo top s (GNth n g) (NGNth n a)
    resolves_left : {s : Locals} {g : Co} {a : NCo} → ResolvesCo top s g a → ResolvesCo top s (GLeft g) (NGLeft a)
    resolves_right : {s : Locals} {g : Co} {a : NCo} → ResolvesCo top s g a → ResolvesCo top s (GRight g) (NGRight a)
    resolves_sub : {s : Locals} {g : Co} {a : NCo} → ResolvesCo top s g a → ResolvesCo top s (GSub g) (NGSub a)
    resolves_axiom : {s : Locals} {n m : Name} {gs : Cos} {xs : NCos} → declared_name top top.coercions top.offers.coercions n.module n.text ≡ Ok m → ResolvesCos top s gs xs
        → ResolvesCo top s (GAx n gs) (NGAx m xs)
    resolves_univ : {s : Locals} {t u : Ty} {a b : NTy} → ResolvesTy top s.types t a → ResolvesTy top s.types u b → ResolvesCo top s (GUniv t u) (NGUniv a b)

  pub data ResolvesCos (top : Top) : Locals → Cos → NCos → Type 0 where
    resolves_no_coercions : {s : Locals} → ResolvesCos top s NoCos NoNCos
    resolves_coercions : {s : Locals} {g : Co} {a : NCo} {gs : Cos} {xs : NCos} → ResolvesCo top s g a → ResolvesCos top s gs xs
        → ResolvesCos top s (MoreCos g gs) (MoreNCos a xs)

-- BINDERS

pub data ResolvesBinder (top : Top) : Locals → Binder → NBinder → Type 0 where
  resolves_value_binder : {s : Locals} {x : Word} {t : Ty} {a : NTy} → ResolvesTy top s.types t a → ResolvesBinder top s (BValue x t) (NBValue a)
  resolves_type_binder : {s : Locals} {a : Word} {k : Kind} → ResolvesBinder top s (BType a k) (NBType k)
  resolves_coercion_binder : {s : Locals} {c : Word} {r : Role} {t u : Ty} {a b : NTy} → ResolvesTy top s.types t a → ResolvesTy top s.types u b
      → ResolvesBinder top s (BCo c r t u) (NBCo r a b)

-- binders, each in the scope of those before it and with a word that none of those before it in its space has
pub data ResolvesBinders (top : Top) : Locals → Words → List Binder → List NBinder → Type 0 where
  resolves_no_binders : {s : Locals} {ws : Words} → ResolvesBinders top s ws [] []
  resolves_binders : {s : Locals} {ws : Words} {b : Binder} {c : NBinder} {bs : List Binder} {cs : List NBinder} → is_new b ws ≡ true → ResolvesBinder top s b c
      → ResolvesBinders top (enter b s) (with_binder b ws) bs cs → ResolvesBinders top s ws (b ∷ bs) (c ∷ cs)

-- EXPRESSIONS

-- what an alternative is for
pub data ResolvesHead (top : Top) : Head → Head → Type 0 where
  resolves_default : ResolvesHead top head.Default head.Default
  resolves_literal_head : {n : ℤ} → ResolvesHead top (head.Lit n) (head.Lit n)
  resolves_constructor_head : {n m : Name} → declared_name top top.terms top.offers.terms n.module n.text ≡ Ok m → ResolvesHead top (head.Con n) (head.Con m)

mutual
  pub data ResolvesExpr (top : Top) : Locals → Expr → NExpr → Type 0 where
    -- a word without a dot is the innermost local of this word, if that is a value
    resolves_local : {s : Locals} {n : Name} {i : ℕ} → n.module ≡ None → found_term s.terms n.text ≡ IsValue i → ResolvesExpr top s (EVar n) (NLocal i)
    -- else a definition of the module
    resolves_definition : {s : Locals} {n m : Name} → n.module ≡ None → found_term s.terms n.text ≡ Nowhere → declared_name top top.terms top.offers.terms None n.text ≡ Ok m
        → ResolvesExpr top s (EVar n) (NVar m)
    -- with a dot it is one of another module
    resolves_imported : {s : Locals} {n m : Name} (w : Word) → n.module ≡ Some w → declared_name top top.terms top.offers.terms (Some w) n.text ≡ Ok m
        → ResolvesExpr top s (EVar n) (NVar m)
    resolves_literal : {s : Locals} {n : ℤ} → ResolvesExpr top s (ELit n) (NLit n)
    resolves_application : {s : Locals} {f : Expr} {a : Arg} {g : NExpr} {b : NArg} → ResolvesExpr top s f g → ResolvesArg top s a b → ResolvesExpr top s (EApp f a) (NApp g b)
    resolves_lambda : {s : Locals} {b : Binder} {c : NBinder} {e : Expr} {f : NExpr} → ResolvesBinder top s b c → ResolvesExpr top (enter b s) e f
        → ResolvesExpr top s (ELam b e) (NLam c f)
    -- the right sides of a recursive group are in the scope of the group
    resolves_let : {s : Locals} {r : Bool} {bs : Binds} {cs : NBinds} {e : Expr} {f : NExpr}
        → ResolvesBinds top (if r then enter_values (bind_words bs) s else s) no_word bs cs → ResolvesExpr top (enter_values (bind_words bs) s) e f
        → ResolvesExpr top s (ELet r bs e) (NLet r cs f)
    resolves_case : {s : Locals} {e : Expr} {x : Word} {t u : Ty} {alts : Alts} {f : NExpr} {a b : NTy} {xs : NAlts} → ResolvesExpr top s e f
        → ResolvesTy top s.types t a → ResolvesTy top s.types u b → ResolvesAlts top (with_term (Value x) s) alts xs
        → ResolvesExpr top s (ECase e x t u alts) (NCase f a b xs)
    resolves_cast : {s : Locals} {e : Expr} {g : Co} {f : NExpr} {h : NCo} → ResolvesExpr top s e f → ResolvesCo top s g h → ResolvesExpr top s (ECast e g) (NCast f h)
    resolves_constructor : {s : Locals} {n m : Name} {args : Args} {xs : NArgs} → declared_name top top.terms top.offers.terms n.module n.text ≡ Ok m → ResolvesArgs top s args xs
        → ResolvesExpr top s (ECon n args) (NCon m xs)
    resolves_primitive : {s : Locals} {op : PrimOp} {es : Exprs} {fs : NExprs} → ResolvesExprs top s es fs → ResolvesExpr top s (EPrim op es) (NPrim op fs)
    resolves_fail : {s : Locals} {t : Ty} {a : NTy} → ResolvesTy top s.types t a → ResolvesExpr top s (EFail t) (NFail a)
    resolves_join : {s : Locals} {r : Bool} {t : Ty} {a : NTy} {js : Joins} {ks : NJoins} {e : Expr} {f : NExpr} → ResolvesTy top s.types t a
        → ResolvesJoins top (if r then enter_joins (join_words js) s else s) no_word js ks → ResolvesExpr top (enter_joins (join_words js) s) e f
        → ResolvesExpr top s (EJoin r t js e) (NJoin r a ks f)
    -- the innermost local of the word is a join point
    resolves_jump : {s : Locals} {j : Word} {i : ℕ} {args : Args} {xs : NArgs} → found_term s.terms j ≡ IsJoin i → ResolvesArgs top s args xs
        → ResolvesExpr top s (EJump j args) (NJump i xs)

  pub data ResolvesArg (top : Top) : Locals → Arg → NArg → Type 0 where
    resolves_term : {s : Locals} {e : Expr} {f : NExpr} → ResolvesExpr top s e f → ResolvesArg top s (ATerm e) (NATerm f)
    resolves_type : {s : Locals} {t : Ty} {a : NTy} → ResolvesTy top s.types t a → ResolvesArg top s (AType t) (NAType a)
    resolves_coercion : {s : Locals} {g : Co} {h : NCo} → ResolvesCo top s g h → ResolvesArg top s (ACo g) (NACo h)

  pub data ResolvesArgs (top : Top) : Locals → Args → NArgs → Type 0 where
    resolves_no_args : {s : Locals} → ResolvesArgs top s NoArgs NoNArgs
    resolves_args : {s : Locals} {a : Arg} {b : NArg} {args : Args} {xs : NArgs} → ResolvesArg top s a b → ResolvesArgs top s args xs
        → ResolvesArgs top s (MoreArgs a args) (MoreNArgs b xs)

  pub data ResolvesExprs (top : Top) : Locals → Exprs → NExprs → Type 0 where
    resolves_no_exprs : {s : Locals} → ResolvesExprs top s NoExprs NoNExprs
    resolves_exprs : {s : Locals} {e : Expr} {f : NExpr} {es : Exprs} {fs : NExprs} → ResolvesExpr top s e f → ResolvesExprs top s es fs
        → ResolvesExprs top s (MoreExprs e es) (MoreNExprs f fs)

  -- binds of a let, behind the words of those before
  pub data ResolvesBinds (top : Top) : Locals → WordSet → Binds → NBinds → Type 0 where
    resolves_no_binds : {s : Locals} {earlier : WordSet} → ResolvesBinds top s earlier NoBinds NoNBinds
    resolves_binds : {s : Locals} {earlier : WordSet} {x : Word} {t : Ty} {a : NTy} {e : Expr} {f : NExpr} {bs : Binds} {cs : NBinds} → earlier x ≡ false
        → ResolvesTy top s.types t a → ResolvesExpr top s e f → ResolvesBinds top s (plus x earlier) bs cs
        → ResolvesBinds top s earlier (MoreBinds (Bound x t e) bs) (MoreNBinds (NBound a f) cs)

  -- join points, behind the words of those before
  pub data ResolvesJoins (top : Top) : Locals → WordSet → Joins → NJoins → Type 0 where
    resolves_no_joins : {s : Locals} {earlier : WordSet} → ResolvesJoins top s earlier NoJoins NoNJoins
    resolves_joins : {s : Locals} {earlier : WordSet} {j : Word} {ps : List Binder} {qs : List NBinder} {e : Expr} {f : NExpr} {js : Joins} {ks : NJoins}
        → earlier j ≡ false → ResolvesBinders top s no_words ps qs → ResolvesExpr top (enter_all ps s) e f → ResolvesJoins top s (plus j earlier) js ks
        → ResolvesJoins top s earlier (MoreJoins (Joined j ps e) js) (MoreNJoins (NJoined qs f) ks)

  pub data ResolvesAlts (top : Top) : Locals → Alts → NAlts → Type 0 where
    resolves_no_alts : {s : Locals} → ResolvesAlts top s NoAlts NoNAlts
    resolves_alts : {s : Locals} {h k : Head} {bs : List Binder} {cs : List NBinder} {e : Expr} {f : NExpr} {alts : Alts} {xs : NAlts} → ResolvesHead top h k
        → ResolvesBinders top s no_words bs cs → ResolvesExpr top (enter_all bs s) e f → ResolvesAlts top s alts xs
        → ResolvesAlts top s (MoreAlts (Branch h bs e) alts) (MoreNAlts (NBranch k cs f) xs)

-- DECLARATIONS

-- the words are all different, and none is among those before
pub data AreDistinct : WordSet → List Word → Type 0 where
  no_words_left : {earlier : WordSet} → AreDistinct earlier []
  one_word_more : {earlier : WordSet} {w : Word} {ws : List Word} → earlier w ≡ false → AreDistinct (plus w earlier) ws → AreDistinct earlier (w ∷ ws)

-- constructors behind the term words before
pub data ResolvesCons (top : Top) : Locals → WordSet → List ConDecl → List NConDecl → Type 0 where
  resolves_no_constructors : {s : Locals} {earlier : WordSet} → ResolvesCons top s earlier [] []
  resolves_constructors : {s : Locals} {earlier : WordSet} {n : Word} {bs : List Binder} {cs : List NBinder} {fields : List Ty} {ts : List NTy} {ds : List ConDecl}
      {es : List NConDecl} → earlier n ≡ false → ResolvesBinders top s no_words bs cs → ResolvesTys top (enter_all bs s).types fields ts
      → ResolvesCons top s (plus n earlier) ds es → ResolvesCons top s earlier (ConOf n bs fields ∷ ds) (NConOf n cs ts ∷ es)

-- a declaration behind the words of those before
pub data ResolvesDecl (top : Top) (ws : Words) : Decl → NDecl → Type 0 where
  resolves_data : {n : Word} {ps : List Param} {cs : List ConDecl} {ds : List NConDecl} → ws.types n ≡ false → AreDistinct no_word (map param_hint ps)
      → ResolvesCons top (in_params (map param_hint ps)) ws.terms cs ds → ResolvesDecl top ws (DData n ps cs) (NData n (map bare_param ps) ds)
  resolves_newtype : {n con : Word} {ps : List Param} {t : Ty} {a : NTy} → ws.types n ≡ false → AreDistinct no_word (map param_hint ps)
      → ResolvesTy top (in_params (map param_hint ps)).types t a → ws.coercions con ≡ false → ResolvesDecl top ws (DNew n ps t con) (NNew n (map bare_param ps) a con)
  resolves_family : {n : Word} {ps : List Plain} {k : Kind} → ws.types n ≡ false → AreDistinct no_word (map plain_hint ps)
      → ResolvesDecl top ws (DFamily n ps k) (NFamily n (map bare_plain ps) k)
  resolves_equation : {n : Word} {ps : List Plain} {t u : Ty} {a b : NTy} → ws.coercions n ≡ false → AreDistinct no_word (map plain_hint ps)
      → ResolvesTy top (in_params (map plain_hint ps)).types t a → ResolvesTy top (in_params (map plain_hint ps)).types u b
      → ResolvesDecl top ws (DAxiom n ps t u) (NAxiom n (map bare_plain ps) a b)
  resolves_def : {n : Word} {t : Ty} {a : NTy} {e : Expr} {f : NExpr} → ws.terms n ≡ false → ResolvesTy top [] t a → ResolvesExpr top no_locals e f
      → ResolvesDecl top ws (DDef n t e) (NDef n a f)
  resolves_wrap : {n : Word} {t : Ty} {a : NTy} {e : Expr} {f : NExpr} → ws.terms n ≡ false → ResolvesTy top [] t a → ResolvesExpr top no_locals e f
      → ResolvesDecl top ws (DWrap n t e) (NWrap n a f)

pub data ResolvesDecls (top : Top) : Words → List Decl → List NDecl → Type 0 where
  resolves_no_decls : {ws : Words} → ResolvesDecls top ws [] []
  resolves_decls : {ws : Words} {d : Decl} {c : NDecl} {ds : List Decl} {cs : List NDecl} → ResolvesDecl top ws d c → ResolvesDecls top (behind d ws) ds cs
      → ResolvesDecls top ws (d ∷ ds) (c ∷ cs)

-- a module has this nameless form
pub data Resolves : Module → NModule → Type 0 where
  resolves_module : {m : Word} {imports exports hidden : List Word} {ds : List Decl} {cs : List NDecl}
      → ResolvesDecls (top_of (ModuleOf m imports exports hidden ds)) no_words ds cs
      → Resolves (ModuleOf m imports exports hidden ds) (NModuleOf m imports exports hidden cs)
