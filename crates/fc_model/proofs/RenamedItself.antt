-- An expression with each variable in place of itself is the expression.
use Rattle.std.proofs.Common.{◌≡◌, ℕ, zero, suc, Bool, true, false, if◌then◌else◌, List, [], ◌∷◌, refl, ap, ap₂, ◌∙◌}
use Rattle.std.proofs.Math.Path.{fun_ext}
use Rattle.fc_model.specs.Nameless.{NTy, NTVar, NCo, NGVar, NGRefl, NGSym, NGTrans, NGTc, NGCapp, NGFun, NGAll, NGCoAll, NGInst, NGNth, NGLeft, NGRight, NGSub, NGAx}
use Rattle.fc_model.specs.Nameless.{NGUniv, NCos, NoNCos, MoreNCos}
use Rattle.fc_model.specs.Nameless.{NBinder, NBValue, NBType, NBCo, NArg, NATerm, NAType, NACo, NBind, NBound, NJoinBind, NJoined, NAlt, NBranch}
use Rattle.fc_model.specs.Nameless.{NLocal, NVar, NLit, NApp, NLam, NLet, NCase, NCast, NCon, NPrim, NFail, NJoin, NJump}
use Rattle.fc_model.specs.Nameless.{NArgs, NoNArgs, MoreNArgs, NExprs, NoNExprs, MoreNExprs, NBinds, NoNBinds, MoreNBinds, NJoins, NoNJoins, MoreNJoins, NAlts, NoNAlts, MoreNAlts}
use Rattle.fc_model.specs.Replacing.{Renaming, below_binder, below_binders, below_joins, below_values, bind_count, coercion_variables, coercions_behind, coercions_behind_all}
use Rattle.fc_model.specs.Replacing.{coercions_below, join_count, put_in_alt, put_in_alts, put_in_arg, put_in_args, put_in_bind, put_in_binds, put_in_coercions, put_in_exprs}
use Rattle.fc_model.specs.Replacing.{put_in_join, put_in_joins, renamed, renamed_coercion, replaced_binder, replaced_binders, themselves, times, types_behind, types_behind_all}
use Rattle.fc_model.specs.Replacing.{values_behind, values_behind_all, values_below, variables}
use Rattle.fc_model.specs.Substituting.{renaming_below, substituted_type, types_below}
use Rattle.fc_model.specs.TypingLaws.{VariablesOfExpressionsForThemselves}
use Rattle.fc_model.proofs.Substitutions.{variables_for_themselves}

-- BELOW BINDERS

abbrev pub each_type : ℕ → NTy
each_type i = NTVar i

abbrev pub each : ℕ → ℕ
each i = i

abbrev pub renaming : (ℕ → NTy) → (ℕ → ℕ) → (ℕ → ℕ) → (ℕ → ℕ) → Renaming
renaming s g v j = record { types = s; coercions = g; values = v; joins = j }

pub times_same : {X : Type 0} (m : ℕ) (f : X → X) (x : X) → f x ≡ x → times m f x ≡ x
times_same zero f x h = refl
times_same (suc m) f x h = ap (times m f) h ∙ times_same m f x h

each_type_below : (i : ℕ) → types_below each_type i ≡ each_type i
each_type_below zero = refl
each_type_below (suc i) = refl

each_coercion_below : (i : ℕ) → coercions_below coercion_variables each i ≡ each i
each_coercion_below zero = refl
each_coercion_below (suc i) = refl

each_value_below : (i : ℕ) → values_below variables coercion_variables each i ≡ each i
each_value_below zero = refl
each_value_below (suc i) = refl

each_below : (i : ℕ) → renaming_below each i ≡ each i
each_below zero = refl
each_below (suc i) = refl

pub types_themselves : (b : NBinder) → types_behind b each_type ≡ each_type
types_themselves (NBValue t) = refl
types_themselves (NBType k) = fun_ext each_type_below
types_themselves (NBCo r t u) = refl

pub coercions_themselves : (b : NBinder) → coercions_behind coercion_variables b each ≡ each
coercions_themselves (NBValue t) = refl
coercions_themselves (NBType k) = refl
coercions_themselves (NBCo r t u) = fun_ext each_coercion_below

pub values_themselves : (b : NBinder) → values_behind variables coercion_variables b each ≡ each
values_themselves (NBValue t) = fun_ext each_value_below
values_themselves (NBType k) = refl
values_themselves (NBCo r t u) = refl

pub all_types_themselves : (bs : List NBinder) → types_behind_all bs each_type ≡ each_type
all_types_themselves [] = refl
all_types_themselves (b ∷ bs) = ap (types_behind_all bs) (types_themselves b) ∙ all_types_themselves bs

pub all_coercions_themselves : (bs : List NBinder) → coercions_behind_all coercion_variables bs each ≡ each
all_coercions_themselves [] = refl
all_coercions_themselves (b ∷ bs) = ap (coercions_behind_all coercion_variables bs) (coercions_themselves b) ∙ all_coercions_themselves bs

all_values_themselves : (bs : List NBinder) → values_behind_all variables coercion_variables bs each ≡ each
all_values_themselves [] = refl
all_values_themselves (b ∷ bs) = ap (values_behind_all variables coercion_variables bs) (values_themselves b) ∙ all_values_themselves bs

below_a_binder : (b : NBinder) → below_binder variables coercion_variables b themselves ≡ themselves
below_a_binder b =
    ap₂ (λ s g. renaming s g (values_behind variables coercion_variables b each) each) (types_themselves b) (coercions_themselves b)
    ∙ ap (λ v. renaming each_type each v each) (values_themselves b)

below_all_binders : (bs : List NBinder) → below_binders variables coercion_variables bs themselves ≡ themselves
below_all_binders bs =
    ap₂ (λ s g. renaming s g (values_behind_all variables coercion_variables bs each) each) (all_types_themselves bs) (all_coercions_themselves bs)
    ∙ ap (λ v. renaming each_type each v each) (all_values_themselves bs)

below_all_values : (m : ℕ) → below_values variables coercion_variables m themselves ≡ themselves
below_all_values m = ap (λ v. renaming each_type each v each) (times_same m (values_below variables coercion_variables) each (fun_ext each_value_below))

below_all_joins : (m : ℕ) → below_joins variables coercion_variables m themselves ≡ themselves
below_all_joins m =
    ap₂ (λ v j. renaming each_type each v j) (times_same m (λ s i. variables.past_join (s i)) each refl) (times_same m renaming_below each (fun_ext each_below))

among_values : (o : Bool) (m : ℕ) → (if o then below_values variables coercion_variables m themselves else themselves) ≡ themselves
among_values true m = below_all_values m
among_values false m = refl

among_joins : (o : Bool) (m : ℕ) → (if o then below_joins variables coercion_variables m themselves else themselves) ≡ themselves
among_joins true m = below_all_joins m
among_joins false m = refl

-- COERCIONS AND BINDERS

mutual
  pub co_itself : (g : NCo) → renamed_coercion each_type each g ≡ g
  co_itself (NGVar i) = refl
  co_itself (NGRefl r t) = ap (NGRefl r) (variables_for_themselves t)
  co_itself (NGSym g) = ap NGSym (co_itself g)
  co_itself (NGTrans g h) = ap₂ NGTrans (co_itself g) (co_itself h)
  co_itself (NGTc r n gs) = ap (NGTc r n) (cos_themselves gs)
  co_itself (NGCapp g h) = ap₂ NGCapp (co_itself g) (co_itself h)
  co_itself (NGFun g h) = ap₂ NGFun (co_itself g) (co_itself h)
  co_itself (NGAll k g) = ap (NGAll k) (ap (λ s. renamed_coercion s each g) (fun_ext each_type_below) ∙ co_itself g)
  co_itself (NGCoAll r o f g h) =
      ap (λ x. NGCoAll r o x (renamed_coercion each_type each g) (renamed_coercion each_type each h)) (co_itself f)
      ∙ ap₂ (NGCoAll r o f) (co_itself g) (co_itself h)
  co_itself (NGInst g h) = ap₂ NGInst (co_itself g) (co_itself h)
  co_itself (NGNth n g) = ap (NGNth n) (co_itself g)
  co_itself (NGLeft g) = ap NGLeft (co_itself g)
  co_itself (NGRight g) = ap NGRight (co_itself g)
  co_itself (NGSub g) = ap NGSub (co_itself g)
  co_itself (NGAx n gs) = ap (NGAx n) (cos_themselves gs)
  co_itself (NGUniv t u) = ap₂ NGUniv (variables_for_themselves t) (variables_for_themselves u)

  pub cos_themselves : (gs : NCos) → put_in_coercions coercion_variables each_type each gs ≡ gs
  cos_themselves NoNCos = refl
  cos_themselves (MoreNCos g rest) = ap₂ MoreNCos (co_itself g) (cos_themselves rest)

pub binder_itself : (b : NBinder) → replaced_binder each_type b ≡ b
binder_itself (NBValue t) = ap NBValue (variables_for_themselves t)
binder_itself (NBType k) = refl
binder_itself (NBCo r t u) = ap₂ (NBCo r) (variables_for_themselves t) (variables_for_themselves u)

pub binders_themselves : (bs : List NBinder) → replaced_binders each_type bs ≡ bs
binders_themselves [] = refl
binders_themselves (b ∷ bs) = ap₂ (λ x xs. x ∷ xs) (binder_itself b) (ap (λ s. replaced_binders s bs) (types_themselves b) ∙ binders_themselves bs)

-- EXPRESSIONS

mutual
  pub itself : VariablesOfExpressionsForThemselves
  itself (NLocal i) = refl
  itself (NVar n) = refl
  itself (NLit n) = refl
  itself (NApp f a) = ap₂ NApp (itself f) (arg_itself a)
  itself (NLam b e) = ap₂ NLam (binder_itself b) (ap (λ r. renamed r e) (below_a_binder b) ∙ itself e)
  itself (NLet o bs e) =
      ap₂ (NLet o) (ap (λ r. put_in_binds variables coercion_variables r bs) (among_values o (bind_count bs)) ∙ binds_themselves bs)
      (ap (λ r. renamed r e) (below_all_values (bind_count bs)) ∙ itself e)
  itself (NCase e t u alts) =
      ap₂ (λ x y. NCase x y (substituted_type each_type u) (put_in_alts variables coercion_variables (below_values variables coercion_variables 1 themselves) alts)) (itself e)
      (variables_for_themselves t)
      ∙ ap₂ (NCase e t) (variables_for_themselves u) (ap (λ r. put_in_alts variables coercion_variables r alts) (below_all_values 1) ∙ alts_themselves alts)
  itself (NCast e g) = ap₂ NCast (itself e) (co_itself g)
  itself (NCon n args) = ap (NCon n) (args_themselves args)
  itself (NPrim op es) = ap (NPrim op) (exprs_themselves es)
  itself (NFail t) = ap NFail (variables_for_themselves t)
  itself (NJoin o t js e) =
      let behind = below_joins variables coercion_variables (join_count js) themselves in
      ap (λ x. NJoin o x (put_in_joins variables coercion_variables (if o then behind else themselves) js) (renamed behind e)) (variables_for_themselves t)
      ∙ ap₂ (NJoin o t) (ap (λ r. put_in_joins variables coercion_variables r js) (among_joins o (join_count js)) ∙ joins_themselves js)
      (ap (λ r. renamed r e) (below_all_joins (join_count js)) ∙ itself e)
  itself (NJump i args) = ap (NJump i) (args_themselves args)

  arg_itself : (a : NArg) → put_in_arg variables coercion_variables themselves a ≡ a
  arg_itself (NATerm e) = ap NATerm (itself e)
  arg_itself (NAType t) = ap NAType (variables_for_themselves t)
  arg_itself (NACo g) = ap NACo (co_itself g)

  args_themselves : (args : NArgs) → put_in_args variables coercion_variables themselves args ≡ args
  args_themselves NoNArgs = refl
  args_themselves (MoreNArgs a rest) = ap₂ MoreNArgs (arg_itself a) (args_themselves rest)

  exprs_themselves : (es : NExprs) → put_in_exprs variables coercion_variables themselves es ≡ es
  exprs_themselves NoNExprs = refl
  exprs_themselves (MoreNExprs e rest) = ap₂ MoreNExprs (itself e) (exprs_themselves rest)

  bind_itself : (b : NBind) → put_in_bind variables coercion_variables themselves b ≡ b
  bind_itself (NBound t e) = ap₂ NBound (variables_for_themselves t) (itself e)

  binds_themselves : (bs : NBinds) → put_in_binds variables coercion_variables themselves bs ≡ bs
  binds_themselves NoNBinds = refl
  binds_themselves (MoreNBinds b rest) = ap₂ MoreNBinds (bind_itself b) (binds_themselves rest)

  join_itself : (j : NJoinBind) → put_in_join variables coercion_variables themselves j ≡ j
  join_itself (NJoined ps e) = ap₂ NJoined (binders_themselves ps) (ap (λ r. renamed r e) (below_all_binders ps) ∙ itself e)

  joins_themselves : (js : NJoins) → put_in_joins variables coercion_variables themselves js ≡ js
  joins_themselves NoNJoins = refl
  joins_themselves (MoreNJoins j rest) = ap₂ MoreNJoins (join_itself j) (joins_themselves rest)

  alt_itself : (a : NAlt) → put_in_alt variables coercion_variables themselves a ≡ a
  alt_itself (NBranch h bs e) = ap₂ (NBranch h) (binders_themselves bs) (ap (λ r. renamed r e) (below_all_binders bs) ∙ itself e)

  alts_themselves : (alts : NAlts) → put_in_alts variables coercion_variables themselves alts ≡ alts
  alts_themselves NoNAlts = refl
  alts_themselves (MoreNAlts a rest) = ap₂ MoreNAlts (alt_itself a) (alts_themselves rest)
