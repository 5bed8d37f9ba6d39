-- What holds against modules mentions only modules that declare something.
use Rattle.std.proofs.Common.{◌≡◌, ℕ, Bool, List, [], ◌∷◌, ◌++◌, ◌⊎◌, inl, inr, Option, Some, Ok, refl, subst}
use Rattle.std.specs.List.{flat_map}
use Rattle.fc_syntax.specs.declared.ty.Role.{Role}
use Rattle.fc_syntax.specs.Tree.{Word, Kind}
use Rattle.fc_model.specs.Calling.{Given, con_decl}
use Rattle.fc_model.specs.Coercing.{Ends, applied_to, axiom_decl, lefts}
use Rattle.fc_model.specs.CoercingRules.{Proves, ProveAll, no_coercions, one_coercion, proves_variable, proves_refl, proves_sym, proves_trans, proves_declared}
use Rattle.fc_model.specs.CoercingRules.{proves_application, proves_function, proves_forall, proves_coforall, proves_instance, proves_part, proves_left, proves_right, proves_sub, proves_axiom, proves_universally}
use Rattle.fc_model.specs.Headers.{ndecls_in}
use Rattle.fc_model.specs.Kinding.{Modules, HasHeadKind, decl_kind, type_decl}
use Rattle.fc_model.specs.Kinding.{kind_variable, kind_declared, kind_int, kind_application, kind_function, kind_forall, kind_coforall}
use Rattle.fc_model.specs.LintingRules.{AreValueTypes, no_types, one_type, ConHolds, holds_fields, holds_type, holds_coercion, ConsHold, no_cons, one_con}
use Rattle.fc_model.specs.LintingRules.{TypeDeclHolds, data_holds, newtype_holds, family_holds, axiom_holds, def_declares_no_type, wrap_declares_no_type, TypeDeclsHold, no_type_decls, one_type_decl}
use Rattle.fc_model.specs.LintingRules.{DefinitionHolds, def_holds, wrap_holds, DefinitionsHold, no_definitions, one_definition, ModuleHolds, module_holds}
use Rattle.fc_model.specs.Mentioning.{in_name}
use Rattle.fc_model.specs.Nameless.{NTy, NTCon, NTApp, NCo, NCos, NBinder, NConDecl, NConOf, NDecl, NExpr, NArg, NArgs, NBinds, NJoins, NAlts, NModule}
use Rattle.fc_model.specs.Typing.{Before, Context, def_type}
use Rattle.fc_model.specs.TypingRules.{BinderIsKinded, value_binder, type_binder, coercion_binder, BindersAreKinded, no_binders, one_binder}
use Rattle.fc_model.specs.TypingRules.{HasType, typed_local, typed_declared, typed_literal, typed_application, typed_lambda, typed_let, typed_case, typed_cast, typed_con}
use Rattle.fc_model.specs.TypingRules.{typed_prim, typed_fail, typed_join, typed_jump, ArgIsGiven, given_term, given_type, given_coercion, ArgsAreGiven, no_args, one_arg}
use Rattle.fc_model.specs.TypingRules.{BindsHaveTypes, no_binds, one_bind, JoinsHaveType, no_joins, one_join, AltsFit, no_alts, default_alt, literal_alt, con_alt}
use Rattle.fc_model.proofs.Parts.{err_ok}
use Rattle.fc_row_types.proofs.Made.{none_some}
use Rattle.fc_headers.specs.NamelessHeaders.{modules_in_alts, modules_in_arg, modules_in_args, modules_in_binder, modules_in_binders, modules_in_binds, modules_in_coercion, modules_in_coercions, modules_in_constructor}
use Rattle.fc_headers.specs.NamelessHeaders.{modules_in_decl, modules_in_decls, modules_in_expr, modules_in_joins, modules_in_type, modules_in_types}
use Rattle.fc_views.specs.Views.{AreInView, IsModuleInView, View}
use Rattle.fc_views.proofs.TypesInView.{words_apart, words_in_both}

-- each module is in view, or declares nothing
abbrev pub SeesDeclared : View → Modules → Type 0
SeesDeclared view ms = (o : Option Word) → IsModuleInView view o ⊎ (ms o ≡ [])

module _ (view : View) (ms : Modules) (sees : SeesDeclared view ms) where
  both : (xs ys : List Word) → AreInView view xs → AreInView view ys → AreInView view (xs ++ ys)
  both xs ys p q = words_in_both view xs ys p q

  -- a module that cannot declare nothing is in view
  seen : (o : Option Word) → (ms o ≡ [] → IsModuleInView view o) → IsModuleInView view o
  seen o otherwise = either (sees o)
    where
      either : IsModuleInView view o ⊎ (ms o ≡ []) → IsModuleInView view o
      either (inl v) = v
      either (inr e) = otherwise e

  -- KINDS AND COERCIONS

  kind_mentions : {ks : List Kind} {args : ℕ} {t : NTy} {k : Kind} → HasHeadKind ms ks args t k → AreInView view (modules_in_type t)
  kind_mentions (kind_variable h) = refl
  kind_mentions (kind_declared {args = args} {n = n} {k = k} h) = seen n.module (λ e. err_ok (subst (λ ds. decl_kind (type_decl ds n.text) args ≡ Ok k) e h))
  kind_mentions kind_int = refl
  kind_mentions (kind_application {t = t} {u = u} p q) = both (modules_in_type t) (modules_in_type u) (kind_mentions p) (kind_mentions q)
  kind_mentions (kind_function {t = t} {u = u} j k p q v w) = both (modules_in_type t) (modules_in_type u) (kind_mentions p) (kind_mentions q)
  kind_mentions (kind_forall l p) = kind_mentions p
  kind_mentions (kind_coforall {t = t} {u = u} {v = v} j k p q r w) =
      both (modules_in_type t) (modules_in_type u ++ modules_in_type v) (kind_mentions p) (both (modules_in_type u) (modules_in_type v) (kind_mentions q) (kind_mentions r))

  -- the head of an application
  head_seen : (us : List NTy) (t : NTy) → AreInView view (modules_in_type (applied_to t us)) → AreInView view (modules_in_type t)
  head_seen [] t h = h
  head_seen (u ∷ us) t h = let p = words_apart view (modules_in_type t) (modules_in_type u) (head_seen us (NTApp t u) h) in p.0

  mutual
    proof_mentions : {ks : List Kind} {cs : List Ends} {g : NCo} {r : Role} {s t : NTy} → Proves ms ks cs g r s t → AreInView view (modules_in_coercion g)
    proof_mentions (proves_variable h) = refl
    proof_mentions (proves_refl k p) = kind_mentions p
    proof_mentions (proves_sym p) = proof_mentions p
    proof_mentions (proves_trans {g = g} {h = h} p q) = both (modules_in_coercion g) (modules_in_coercion h) (proof_mentions p) (proof_mentions q)
    proof_mentions (proves_declared {n = n} {gs = gs} es j k p roles a b) =
        both (in_name n.module) (modules_in_coercions gs) (head_seen (lefts es) (NTCon n) (kind_mentions a)) (proofs_mention p)
    proof_mentions (proves_application {g = g} {h = h} j k p q role a b) = both (modules_in_coercion g) (modules_in_coercion h) (proof_mentions p) (proof_mentions q)
    proof_mentions (proves_function {g = g} {h = h} j k p q role a b v c d w) = both (modules_in_coercion g) (modules_in_coercion h) (proof_mentions p) (proof_mentions q)
    proof_mentions (proves_forall p l a b) = proof_mentions p
    proof_mentions (proves_coforall {f = f} {g = g} {h = h} i j k l p q r a b c v d e x w) =
        both (modules_in_coercion f) (modules_in_coercion g ++ modules_in_coercion h) (proof_mentions p)
        (both (modules_in_coercion g) (modules_in_coercion h) (proof_mentions q) (proof_mentions r))
    proof_mentions (proves_instance {g = g} {h = h} p q a b) = both (modules_in_coercion g) (modules_in_coercion h) (proof_mentions p) (proof_mentions q)
    proof_mentions (proves_part es k p role parts at a b) = proof_mentions p
    proof_mentions (proves_left k p x y a b) = proof_mentions p
    proof_mentions (proves_right k p x y a b) = proof_mentions p
    proof_mentions (proves_sub p) = proof_mentions p
    proof_mentions (proves_axiom {n = n} {gs = gs} a es found p roles kinds) =
        both (in_name n.module) (modules_in_coercions gs) (seen n.module (λ e. none_some (subst (λ ds. axiom_decl n.module ds n.text ≡ Some a) e found))) (proofs_mention p)
    proof_mentions (proves_universally {t = t} {u = u} k a b) = both (modules_in_type t) (modules_in_type u) (kind_mentions a) (kind_mentions b)

    proofs_mention : {ks : List Kind} {cs : List Ends} {gs : NCos} {es : List Ends} → ProveAll ms ks cs gs es → AreInView view (modules_in_coercions gs)
    proofs_mention no_coercions = refl
    proofs_mention (one_coercion {g = g} {rest = rest} p more) = both (modules_in_coercion g) (modules_in_coercions rest) (proof_mentions p) (proofs_mention more)

  -- EXPRESSIONS

  binder_mentions : {owes : Bool} {ks : List Kind} {b : NBinder} → BinderIsKinded ms owes ks b → AreInView view (modules_in_binder b)
  binder_mentions (value_binder k p v) = kind_mentions p
  binder_mentions (type_binder l) = refl
  binder_mentions (coercion_binder {t = t} {u = u} j k p q same) = both (modules_in_type t) (modules_in_type u) (kind_mentions p) (kind_mentions q)

  binders_mention : {owes : Bool} {ks : List Kind} {bs : List NBinder} → BindersAreKinded ms owes ks bs → AreInView view (modules_in_binders bs)
  binders_mention no_binders = refl
  binders_mention (one_binder {b = b} {bs = bs} p more) = both (modules_in_binder b) (modules_in_binders bs) (binder_mentions p) (binders_mention more)

  mutual
    type_mentions : {c : Context} {e : NExpr} {t : NTy} → HasType ms c e t → AreInView view (modules_in_expr e)
    type_mentions (typed_local a) = refl
    type_mentions (typed_declared {n = n} {t = t} v) = seen n.module (λ e. err_ok (subst (λ ds. def_type ds n.text ≡ Ok t) e v))
    type_mentions typed_literal = refl
    type_mentions (typed_application {f = f} {a = a} s g p q takes) = both (modules_in_expr f) (modules_in_arg a) (type_mentions p) (arg_mentions q)
    type_mentions (typed_lambda {b = b} {e = e} k p fits) = both (modules_in_binder b) (modules_in_expr e) (binder_mentions k) (type_mentions p)
    type_mentions (typed_let {bs = bs} {e = e} p q) = both (modules_in_binds bs) (modules_in_expr e) (binds_mention p) (type_mentions q)
    type_mentions (typed_case {e = e} {s = s} {rt = rt} {alts = alts} j k p sk rk fit v) =
        both (modules_in_expr e) (modules_in_type s ++ (modules_in_type rt ++ modules_in_alts alts)) (type_mentions p)
        (both (modules_in_type s) (modules_in_type rt ++ modules_in_alts alts) (kind_mentions sk) (both (modules_in_type rt) (modules_in_alts alts) (kind_mentions rk) (alts_mention fit)))
    type_mentions (typed_cast {e = e} {g = g} p q) = both (modules_in_expr e) (modules_in_coercion g) (type_mentions p) (proof_mentions q)
    type_mentions (typed_con {n = n} {args = args} k gs found p long takes) =
        both (in_name n.module) (modules_in_args args) (seen n.module (λ e. none_some (subst (λ ds. con_decl ds n.text ≡ Some k) e found))) (args_mention p)
    type_mentions (typed_prim {a = a} {b = b} p x q y) =
        both (modules_in_expr a) (modules_in_expr b ++ []) (type_mentions p) (both (modules_in_expr b) [] (type_mentions q) refl)
    type_mentions (typed_fail k p v) = kind_mentions p
    type_mentions (typed_join {t = t} {js = js} {e = e} k p q s v) =
        both (modules_in_type t) (modules_in_joins js ++ modules_in_expr e) (kind_mentions p) (both (modules_in_joins js) (modules_in_expr e) (joins_mention q) (type_mentions s))
    type_mentions (typed_jump j gs t at p long takes) = args_mention p

    arg_mentions : {c : Context} {a : NArg} {g : Given} → ArgIsGiven ms c a g → AreInView view (modules_in_arg a)
    arg_mentions (given_term p) = type_mentions p
    arg_mentions (given_type p) = kind_mentions p
    arg_mentions (given_coercion p) = proof_mentions p

    args_mention : {c : Context} {args : NArgs} {gs : List Given} → ArgsAreGiven ms c args gs → AreInView view (modules_in_args args)
    args_mention no_args = refl
    args_mention (one_arg {a = a} {rest = rest} p more) = both (modules_in_arg a) (modules_in_args rest) (arg_mentions p) (args_mention more)

    binds_mention : {c : Context} {r : Bool} {bs : NBinds} → BindsHaveTypes ms c r bs → AreInView view (modules_in_binds bs)
    binds_mention no_binds = refl
    binds_mention (one_bind {t = t} {e = e} {rest = rest} k p v q fits more) =
        both (modules_in_type t) (modules_in_expr e ++ modules_in_binds rest) (kind_mentions p) (both (modules_in_expr e) (modules_in_binds rest) (type_mentions q) (binds_mention more))

    joins_mention : {c : Context} {t : NTy} {js : NJoins} → JoinsHaveType ms c t js → AreInView view (modules_in_joins js)
    joins_mention no_joins = refl
    joins_mention (one_join {ps = ps} {e = e} {rest = rest} k p more) =
        both (modules_in_binders ps) (modules_in_expr e ++ modules_in_joins rest) (binders_mention k) (both (modules_in_expr e) (modules_in_joins rest) (type_mentions p) (joins_mention more))

    alts_mention : {c : Context} {s rt : NTy} {b : Before} {alts : NAlts} → AltsFit ms c s rt b alts → AreInView view (modules_in_alts alts)
    alts_mention no_alts = refl
    alts_mention (default_alt {bs = bs} {e = e} {rest = rest} k p order more) =
        both (modules_in_binders bs) (modules_in_expr e ++ modules_in_alts rest) (binders_mention k) (both (modules_in_expr e) (modules_in_alts rest) (type_mentions p) (alts_mention more))
    alts_mention (literal_alt {bs = bs} {e = e} {rest = rest} k p int order more) =
        both (modules_in_binders bs) (modules_in_expr e ++ modules_in_alts rest) (binders_mention k) (both (modules_in_expr e) (modules_in_alts rest) (type_mentions p) (alts_mention more))
    alts_mention (con_alt {bs = bs} {n = n} {e = e} {rest = rest} k kinds p found is order fits more) =
        both (in_name n.module) (modules_in_binders bs ++ (modules_in_expr e ++ modules_in_alts rest))
        (seen n.module (λ e. none_some (subst (λ ds. con_decl ds n.text ≡ Some k) e found)))
        (both (modules_in_binders bs) (modules_in_expr e ++ modules_in_alts rest) (binders_mention kinds)
        (both (modules_in_expr e) (modules_in_alts rest) (type_mentions p) (alts_mention more)))

  -- DECLARATIONS

  values_mention : {ks : List Kind} {ts : List NTy} → AreValueTypes ms ks ts → AreInView view (modules_in_types ts)
  values_mention no_types = refl
  values_mention (one_type {t = t} {ts = ts} k p v more) = both (modules_in_type t) (modules_in_types ts) (kind_mentions p) (values_mention more)

  con_mentions : {ks : List Kind} {bs : List NBinder} {ts : List NTy} → ConHolds ms ks bs ts → AreInView view (modules_in_binders bs) × AreInView view (modules_in_types ts)
  con_mentions (holds_fields p) = (refl, values_mention p)
  con_mentions (holds_type l more) = con_mentions more
  con_mentions (holds_coercion {t = t} {u = u} {bs = bs} k p q more) =
      let rest = con_mentions more in
      (both (modules_in_type t ++ modules_in_type u) (modules_in_binders bs) (both (modules_in_type t) (modules_in_type u) (kind_mentions p) (kind_mentions q)) rest.0, rest.1)

  cons_mention : {ks : List Kind} {cs : List NConDecl} → ConsHold ms ks cs → AreInView view (flat_map modules_in_constructor cs)
  cons_mention no_cons = refl
  cons_mention (one_con {n = n} {bs = bs} {ts = ts} {cs = cs} p more) =
      let one = con_mentions p in
      both (modules_in_constructor (NConOf n bs ts)) (flat_map modules_in_constructor cs) (both (modules_in_binders bs) (modules_in_types ts) one.0 one.1) (cons_mention more)

  decl_mentions : {d : NDecl} → TypeDeclHolds ms d → DefinitionHolds ms d → AreInView view (modules_in_decl d)
  decl_mentions (data_holds l p roles) h = cons_mention p
  decl_mentions (newtype_holds l p roles) h = kind_mentions p
  decl_mentions (family_holds l k) h = refl
  decl_mentions (axiom_holds {t = t} {u = u} k l p q family) h = both (modules_in_type t) (modules_in_type u) (kind_mentions p) (kind_mentions q)
  decl_mentions def_declares_no_type (def_holds {t = t} {e = e} p q) = both (modules_in_type t) (modules_in_expr e) (kind_mentions p) (type_mentions q)
  decl_mentions wrap_declares_no_type (wrap_holds {t = t} {e = e} p q) = both (modules_in_type t) (modules_in_expr e) (kind_mentions p) (type_mentions q)

  decls_mention : {ds : List NDecl} → TypeDeclsHold ms ds → DefinitionsHold ms ds → AreInView view (modules_in_decls ds)
  decls_mention no_type_decls no_definitions = refl
  decls_mention (one_type_decl {d = d} {ds = ds} p more) (one_definition q rest) = both (modules_in_decl d) (modules_in_decls ds) (decl_mentions p q) (decls_mention more rest)

  pub module_mentions : {n : NModule} → ModuleHolds ms n → AreInView view (modules_in_decls (ndecls_in n))
  module_mentions (module_holds e h types definitions) = decls_mention types definitions
