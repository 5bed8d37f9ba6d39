-- What lints reaches its binders and names what is declared: whatever is said of such distances and names holds of each in a piece that has a kind or a type, or proves something.
use Rattle.std.proofs.Common.{◌≡◌, ◌≤◌, ◌<◌, ◌∙◌, ℕ, Bool, true, List, ◌∷◌, ◌++◌, length, refl, sym, ap}
use Rattle.std.specs.List.{flat_map, list_all}
use Rattle.std.proofs.lemmas.Bool.{and_parts}
use Rattle.std.proofs.lemmas.List.Concat.{flat_map-cons}
use Rattle.std.proofs.lemmas.List.Folds.{list_all-append}
use Rattle.fc_syntax.specs.declared.ty.Name.{Name}
use Rattle.fc_syntax.specs.declared.ty.Role.{Role}
use Rattle.fc_syntax.specs.Tree.{Word, Kind}
use Rattle.fc_model.specs.Calling.{Given}
use Rattle.fc_model.specs.Coercing.{Ends, shifted_ends}
use Rattle.fc_model.specs.CoercingRules.{ProveAll, no_coercions, one_coercion}
use Rattle.fc_model.specs.CoercingRules.{Proves, proves_variable, proves_refl, proves_sym, proves_trans, proves_declared, proves_application, proves_function}
use Rattle.fc_model.specs.CoercingRules.{proves_forall, proves_coforall, proves_instance, proves_part, proves_left, proves_right, proves_sub, proves_axiom, proves_universally}
use Rattle.fc_model.specs.Declaring.{ncoercion_words, nterm_words, ntype_words, nwords_by}
use Rattle.fc_model.specs.Headers.{ndecls_in}
use Rattle.fc_model.specs.Kinding.{Modules, param_kinds}
use Rattle.fc_model.specs.Kinding.{HasHeadKind, kind_variable, kind_declared, kind_int, kind_application, kind_function, kind_forall, kind_coforall}
use Rattle.fc_model.specs.LintingRules.{AreValueTypes, no_types, one_type, ConHolds, holds_fields, holds_type, holds_coercion, ConsHold, no_cons, one_con}
use Rattle.fc_model.specs.LintingRules.{TypeDeclHolds, data_holds, newtype_holds, family_holds, axiom_holds, def_declares_no_type, wrap_declares_no_type}
use Rattle.fc_model.specs.LintingRules.{TypeDeclsHold, no_type_decls, one_type_decl, DefinitionHolds, def_holds, wrap_holds, DefinitionsHold, no_definitions, one_definition, ModuleHolds, module_holds}
use Rattle.fc_model.specs.Mentioning.{in_name}
use Rattle.fc_model.specs.Nameless.{NTy, NCo, NCos, NBinder, NBValue, NBType, NBCo, NArg, NArgs, NExpr, NBinds, NJoins, NAlts, NConDecl, NConOf, NDecl, NModule}
use Rattle.fc_model.specs.Resolution.{WordSet, no_word, plus_all}
use Rattle.fc_model.specs.Typing.{Before, Context}
use Rattle.fc_model.specs.TypingRules.{BinderIsKinded, value_binder, type_binder, coercion_binder, BindersAreKinded, no_binders, one_binder}
use Rattle.fc_model.specs.TypingRules.{HasType, typed_local, typed_declared, typed_literal, typed_application, typed_lambda, typed_let, typed_case, typed_cast}
use Rattle.fc_model.specs.TypingRules.{typed_con, typed_prim, typed_fail, typed_join, typed_jump}
use Rattle.fc_model.specs.TypingRules.{ArgIsGiven, given_term, given_type, given_coercion, ArgsAreGiven, no_args, one_arg, BindsHaveTypes, no_binds, one_bind}
use Rattle.fc_model.specs.TypingRules.{JoinsHaveType, no_joins, one_join, AltsFit, no_alts, default_alt, literal_alt, con_alt}
use Rattle.fc_model.proofs.EndsJudged.{name_kinded}
use Rattle.fc_headers.specs.NamelessHeaders.{modules_in_alts, modules_in_arg, modules_in_args, modules_in_binder, modules_in_binders, modules_in_binds, modules_in_joins}
use Rattle.fc_headers.specs.NamelessHeaders.{modules_in_coercion, modules_in_coercions, modules_in_constructor, modules_in_decl, modules_in_decls, modules_in_expr}
use Rattle.fc_headers.specs.NamelessHeaders.{modules_in_type, modules_in_types}
use Rattle.fc_used_words.specs.Scoped.{Counts, Saying, in_binders}
use Rattle.fc_used_words.specs.Scoped.{HoldsTy, HoldsTys, HoldsCo, HoldsCos, HoldsBinder, HoldsBinders, HoldsExpr, HoldsArg, HoldsArgs, HoldsBinds, HoldsJoins, HoldsAlts}
use Rattle.fc_used_words.specs.Scoped.{HoldsCons, HoldsDecl, HoldsDecls}
use Rattle.fc_scoped.proofs.Counting.{Fits, KindsFit, fits_alone, fits_behind, fits_behind_all, fits_either, fits_in_group, fits_in_joins, kinds_fit_behind, nothing_fits}
use Rattle.fc_scoped.proofs.Counting.{count_of_kinds, in_reach, map_fits, parameters_fit}
use Rattle.fc_scoped.proofs.Declared.{axiom_is_declared, constructor_is_declared, definition_is_declared, type_is_declared}

-- what is said of a distance holds where it reaches a binder
pub record IsSaidInReach (said : Saying) : Type 0 where
  pub type_at : (many i : ℕ) → i < many → said.type_at many i
  pub value_at : (many i : ℕ) → i < many → said.value_at many i
  pub join_at : (many i : ℕ) → i < many → said.join_at many i
  pub coercion_at : (many i : ℕ) → i < many → said.coercion_at many i

-- what is said of a name holds where its module is among these, and declares its word in the space of the name
pub record IsSaidOfDeclared (ms : Modules) (said : Saying) (mentioned : WordSet) : Type 0 where
  pub type_name : (n : Name) → list_all mentioned (in_name n.module) ≡ true → plus_all (nwords_by ntype_words (ms n.module)) no_word n.text ≡ true → said.type_name n
  pub axiom_name : (n : Name) → list_all mentioned (in_name n.module) ≡ true → plus_all (nwords_by ncoercion_words (ms n.module)) no_word n.text ≡ true → said.axiom_name n
  pub constructor : (n : Name) → list_all mentioned (in_name n.module) ≡ true → plus_all (nwords_by nterm_words (ms n.module)) no_word n.text ≡ true → said.constructor n
  pub definition : (n : Name) → list_all mentioned (in_name n.module) ≡ true → plus_all (nwords_by nterm_words (ms n.module)) no_word n.text ≡ true → said.definition n

module _ (ms : Modules) (said : Saying) (mentioned : WordSet) (reach : IsSaidInReach said) (names : IsSaidOfDeclared ms said mentioned) where
  -- WHAT A PIECE MENTIONS is among the modules, and so is what its parts mention

  abbrev Among : List Word → Type 0
  Among ws = list_all mentioned ws ≡ true

  parts : (vs ws : List Word) → Among (vs ++ ws) → Among vs × Among ws
  parts vs ws h = and_parts (list_all mentioned vs) (list_all mentioned ws) (sym (list_all-append mentioned vs ws) ∙ h)

  three_parts : (us vs ws : List Word) → Among (us ++ (vs ++ ws)) → Among us × Among vs × Among ws
  three_parts us vs ws h = let p = parts us (vs ++ ws) h in let q = parts vs ws p.1 in (p.0, q.0, q.1)

  items : {X : Type 0} (f : X → List Word) (x : X) (xs : List X) → Among (flat_map f (x ∷ xs)) → Among (f x) × Among (flat_map f xs)
  items f x xs h = parts (f x) (flat_map f xs) (ap (list_all mentioned) (sym (flat_map-cons f x xs)) ∙ h)

  -- TYPES

  ty : {ks : List Kind} {k : Counts} {args : ℕ} {t : NTy} {j : Kind} → KindsFit ks k → HasHeadKind ms ks args t j → Among (modules_in_type t) → HoldsTy said k t
  ty {ks = ks} {k = k} f (kind_variable {i = i} {k = j} h) m = reach.type_at k.types i (in_reach ks i k.types j h f.types)
  ty f (kind_declared {args = args} {n = n} {k = j} h) m = names.type_name n m (type_is_declared (ms n.module) no_word n.text args j h)
  ty f kind_int m = tt
  ty f (kind_application t u) m = let p = parts _ _ m in (ty f t p.0, ty f u p.1)
  ty f (kind_function i j t u v w) m = let p = parts _ _ m in (ty f t p.0, ty f u p.1)
  ty f (kind_forall {k = j} l t) m = ty (kinds_fit_behind (NBType j) f) t m
  ty f (kind_coforall i j t u v w) m = let p = three_parts _ _ _ m in (ty f t p.0, ty f u p.1, ty f v p.2)

  tys : {ks : List Kind} {k : Counts} {ts : List NTy} → KindsFit ks k → AreValueTypes ms ks ts → Among (modules_in_types ts) → HoldsTys said k ts
  tys f no_types m = tt
  tys f (one_type {t = t} {ts = ts} j h v rest) m = let p = items modules_in_type t ts m in (ty f h p.0, tys f rest p.1)

  -- COERCIONS

  mutual
    co : {ks : List Kind} {cs : List Ends} {k : Counts} {g : NCo} {r : Role} {s t : NTy} → KindsFit ks k → length cs ≤ k.coercions → Proves ms ks cs g r s t
        → Among (modules_in_coercion g) → HoldsCo said k g
    co {cs = cs} {k = k} f l (proves_variable {i = i} h) m = reach.coercion_at k.coercions i (in_reach cs i k.coercions _ h l)
    co f l (proves_refl j t) m = ty f t m
    co f l (proves_sym g) m = co f l g m
    co f l (proves_trans g h) m = let p = parts _ _ m in (co f l g p.0, co f l h p.1)
    co {ks = ks} f l (proves_declared {n = n} es i j gs roles s t) m =
        let p = parts (in_name n.module) _ m in
        let q = name_kinded ms ks n es i s in
        (names.type_name n p.0 (type_is_declared (ms n.module) no_word n.text (length es) q.0 q.1), cos f l gs p.1)
    co f l (proves_application i j g h r s t) m = let p = parts _ _ m in (co f l g p.0, co f l h p.1)
    co f l (proves_function i j g h r a b v c d w) m = let p = parts _ _ m in (co f l g p.0, co f l h p.1)
    co {cs = cs} {k = k} f l (proves_forall {k = j} g lift s t) m = co (kinds_fit_behind (NBType j) f) (map_fits shifted_ends cs k.coercions l) g m
    co f l (proves_coforall i j v w d g h a b c x y z u e) m = let p = three_parts _ _ _ m in (co f l d p.0, co f l g p.1, co f l h p.2)
    co f l (proves_instance g h u v) m = let p = parts _ _ m in (co f l g p.0, co f l h p.1)
    co f l (proves_part es j g r at is u v) m = co f l g m
    co f l (proves_left j g a b s t) m = co f l g m
    co f l (proves_right j g a b u v) m = co f l g m
    co f l (proves_sub g) m = co f l g m
    co f l (proves_axiom {n = n} a es is gs roles kinds) m = let p = parts (in_name n.module) _ m in (names.axiom_name n p.0 (axiom_is_declared n.module (ms n.module) no_word n.text a is), cos f l gs p.1)
    co f l (proves_universally j t u) m = let p = parts _ _ m in (ty f t p.0, ty f u p.1)

    cos : {ks : List Kind} {cs : List Ends} {k : Counts} {gs : NCos} {es : List Ends} → KindsFit ks k → length cs ≤ k.coercions → ProveAll ms ks cs gs es
        → Among (modules_in_coercions gs) → HoldsCos said k gs
    cos f l no_coercions m = tt
    cos f l (one_coercion g rest) m = let p = parts _ _ m in (co f l g p.0, cos f l rest p.1)

  -- BINDERS

  binder : {owes : Bool} {ks : List Kind} {k : Counts} {b : NBinder} → KindsFit ks k → BinderIsKinded ms owes ks b → Among (modules_in_binder b) → HoldsBinder said k b
  binder f (value_binder j t v) m = ty f t m
  binder f (type_binder l) m = tt
  binder f (coercion_binder i j t u same) m = let p = parts _ _ m in (ty f t p.0, ty f u p.1)

  binders : {owes : Bool} {ks : List Kind} {k : Counts} {bs : List NBinder} → KindsFit ks k → BindersAreKinded ms owes ks bs → Among (modules_in_binders bs)
      → HoldsBinders said k bs
  binders f no_binders m = tt
  binders f (one_binder {b = b} {bs = bs} h rest) m = let p = items modules_in_binder b bs m in (binder f h p.0, binders (kinds_fit_behind b f) rest p.1)

  -- EXPRESSIONS

  mutual
    expr : {c : Context} {k : Counts} {e : NExpr} {t : NTy} → Fits c k → HasType ms c e t → Among (modules_in_expr e) → HoldsExpr said k e
    expr {c = c} {k = k} f (typed_local {i = i} {t = t} h) m = reach.value_at k.values i (in_reach c.values i k.values t h f.values)
    expr f (typed_declared {n = n} {t = t} h) m = names.definition n m (definition_is_declared (ms n.module) no_word n.text t h)
    expr f typed_literal m = tt
    expr f (typed_application s g e a takes) m = let p = parts _ _ m in (expr (fits_alone f) e p.0, arg (fits_alone f) a p.1)
    expr f (typed_lambda {b = b} h e body) m = let p = parts _ _ m in (binder f.kinds h p.0, expr (fits_behind b (fits_alone f)) e p.1)
    expr f (typed_let {r = r} {bs = bs} h e) m =
        let p = parts _ _ m in
        let within = fits_in_group bs f in
        (binds (fits_alone (fits_either r within f)) h p.0, expr within e p.1)
    expr f (typed_case {s = s} i j e t u h v) m =
        let p = three_parts _ _ _ m in
        let q = parts _ _ p.2 in
        (expr (fits_alone f) e p.0, ty f.kinds t p.1, ty f.kinds u q.0, alts (fits_behind (NBValue s) f) h q.1)
    expr f (typed_cast e g) m = let p = parts _ _ m in (expr (fits_alone f) e p.0, co f.kinds f.coercions g p.1)
    expr f (typed_con {n = n} con gs is h long takes) m = let p = parts (in_name n.module) _ m in (names.constructor n p.0 (constructor_is_declared (ms n.module) no_word n.text con is), args (fits_alone f) h p.1)
    expr f (typed_prim a i b j) m = let p = parts _ _ m in let q = parts _ _ p.1 in (expr (fits_alone f) a p.0, (expr (fits_alone f) b q.0, tt))
    expr f (typed_fail j t v) m = ty f.kinds t m
    expr f (typed_join {r = r} {t = t} {js = js} j u h e v) m =
        let p = three_parts _ _ _ m in
        let within = fits_in_joins t js f in
        (ty f.kinds u p.0, joins (fits_either r within f) h p.1, expr within e p.2)
    expr {c = c} {k = k} f (typed_jump {i = i} j gs t at h long takes) m = (reach.join_at k.joins i (in_reach c.joins i k.joins j at f.joins), args (fits_alone f) h m)

    arg : {c : Context} {k : Counts} {a : NArg} {g : Given} → Fits c k → ArgIsGiven ms c a g → Among (modules_in_arg a) → HoldsArg said k a
    arg f (given_term e) m = expr f e m
    arg f (given_type t) m = ty f.kinds t m
    arg f (given_coercion g) m = co f.kinds f.coercions g m

    args : {c : Context} {k : Counts} {xs : NArgs} {gs : List Given} → Fits c k → ArgsAreGiven ms c xs gs → Among (modules_in_args xs) → HoldsArgs said k xs
    args f no_args m = tt
    args f (one_arg a rest) m = let p = parts _ _ m in (arg f a p.0, args f rest p.1)

    binds : {c : Context} {k : Counts} {r : Bool} {bs : NBinds} → Fits c k → BindsHaveTypes ms c r bs → Among (modules_in_binds bs) → HoldsBinds said k bs
    binds f no_binds m = tt
    binds f (one_bind j t v e fit rest) m = let p = three_parts _ _ _ m in ((ty f.kinds t p.0, expr f e p.1), binds f rest p.2)

    joins : {c : Context} {k : Counts} {t : NTy} {js : NJoins} → Fits c k → JoinsHaveType ms c t js → Among (modules_in_joins js) → HoldsJoins said k js
    joins f no_joins m = tt
    joins f (one_join {ps = ps} h e rest) m = let p = three_parts _ _ _ m in ((binders f.kinds h p.0, expr (fits_behind_all ps f) e p.1), joins f rest p.2)

    alts : {c : Context} {k : Counts} {s t : NTy} {b : Before} {xs : NAlts} → Fits c k → AltsFit ms c s t b xs → Among (modules_in_alts xs) → HoldsAlts said k xs
    alts f no_alts m = tt
    alts f (default_alt {bs = bs} h e order rest) m = let p = three_parts _ _ _ m in ((tt, binders f.kinds h p.0, expr (fits_behind_all bs f) e p.1), alts f rest p.2)
    alts f (literal_alt {bs = bs} h e int order rest) m = let p = three_parts _ _ _ m in ((tt, binders f.kinds h p.0, expr (fits_behind_all bs f) e p.1), alts f rest p.2)
    alts f (con_alt {bs = bs} {n = n} con h e is owner order fit rest) m =
        let q = parts (in_name n.module) _ m in
        let p = three_parts _ _ _ q.1 in
        ((names.constructor n q.0 (constructor_is_declared (ms n.module) no_word n.text con is), binders f.kinds h p.0, expr (fits_behind_all bs f) e p.1), alts f rest p.2)

  -- DECLARATIONS

  con : {ks : List Kind} {k : Counts} {bs : List NBinder} {ts : List NTy} → KindsFit ks k → ConHolds ms ks bs ts → Among (modules_in_binders bs) → Among (modules_in_types ts)
      → HoldsBinders said k bs × HoldsTys said (in_binders bs k) ts
  con f (holds_fields h) b m = (tt, tys f h m)
  con f (holds_type {k = j} {bs = bs} l rest) b m =
      let p = items modules_in_binder (NBType j) bs b in
      let q = con (kinds_fit_behind (NBType j) f) rest p.1 m in
      ((tt, q.0), q.1)
  con f (holds_coercion {r = r} {t = t} {u = u} {bs = bs} j h g rest) b m =
      let p = items modules_in_binder (NBCo r t u) bs b in
      let w = parts (modules_in_type t) (modules_in_type u) p.0 in
      let q = con (kinds_fit_behind (NBCo r t u) f) rest p.1 m in
      (((ty f h w.0, ty f g w.1), q.0), q.1)

  cons : {ks : List Kind} {k : Counts} {cs : List NConDecl} → KindsFit ks k → ConsHold ms ks cs → Among (flat_map modules_in_constructor cs) → HoldsCons said k cs
  cons f no_cons m = tt
  cons f (one_con {n = n} {bs = bs} {ts = ts} {cs = cs} h rest) m =
      let p = items modules_in_constructor (NConOf n bs ts) cs m in
      let q = parts (modules_in_binders bs) (modules_in_types ts) p.0 in
      (con f h q.0 q.1, cons f rest p.1)

  decl : {d : NDecl} → TypeDeclHolds ms d → DefinitionHolds ms d → Among (modules_in_decl d) → HoldsDecl said d
  decl (data_holds {ps = ps} l h roles) e m = cons (parameters_fit ps (param_kinds ps) (count_of_kinds ps)) h m
  decl (newtype_holds {ps = ps} l t roles) e m = ty (parameters_fit ps (param_kinds ps) (count_of_kinds ps)) t m
  decl (family_holds l k) e m = tt
  decl (axiom_holds {ks = ks} k l t u family) e m = let p = parts _ _ m in let f = parameters_fit ks ks refl in (ty f t p.0, ty f u p.1)
  decl def_declares_no_type (def_holds t e) m = let p = parts _ _ m in (ty nothing_fits.kinds t p.0, expr nothing_fits e p.1)
  decl wrap_declares_no_type (wrap_holds t e) m = let p = parts _ _ m in (ty nothing_fits.kinds t p.0, expr nothing_fits e p.1)

  decls : {ds : List NDecl} → TypeDeclsHold ms ds → DefinitionsHold ms ds → Among (modules_in_decls ds) → HoldsDecls said ds
  decls no_type_decls no_definitions m = tt
  decls (one_type_decl {d = d} {ds = ds} h types) (one_definition e definitions) m = let p = items modules_in_decl d ds m in (decl h e p.0, decls types definitions p.1)

  -- MODULES

  -- of what lints, whatever is said of distances in reach and of names that are declared holds of each distance and name
  pub linted_names_hold : {n : NModule} → ModuleHolds ms n → Among (modules_in_decls (ndecls_in n)) → HoldsDecls said (ndecls_in n)
  linted_names_hold (module_holds exported concealed types definitions) m = decls types definitions m
