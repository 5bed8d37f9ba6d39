-- A row, and one that makes the same unless that is too deep: where the module that is made is within the limits, both make the same.
use Rattle.std.proofs.Common.{◌≡◌, ◌≤◌, ◌<◌, ℕ, zero, suc, Bool, true, false, nat_eq, if◌then◌else◌, List, [], ◌∷◌, length, Option, Some, None, refl, sym, ap, ◌∙◌, arith}
use Rattle.std.specs.Str.{bytes_eq}
use Rattle.fc_syntax.specs.Tree.{Word}
use Rattle.fc_syntax.specs.declared.expr.Head.{Head}
use Rattle.fc_syntax.specs.Limits.{standard_limits}
use Rattle.fc_syntax.specs.Measures.{alts_depth, arg_depth, args_depth, binds_depth, expr_depth, exprs_depth, joins_depth}
use Rattle.fc_model.specs.Kinding.{decls_at}
use Rattle.fc_model.specs.Nameless.{NTy, NArg, NATerm, NAType, NACo, NBound, NJoined, NBranch}
use Rattle.fc_model.specs.Nameless.{NExpr, NLocal, NVar, NLit, NApp, NLam, NLet, NCase, NCast, NCon, NPrim, NFail, NJoin, NJump}
use Rattle.fc_model.specs.Nameless.{NArgs, NoNArgs, MoreNArgs, NExprs, NoNExprs, MoreNExprs, NBinds, NoNBinds, MoreNBinds, NJoins, NoNJoins, MoreNJoins, NAlts, NoNAlts, MoreNAlts}
use Rattle.fc_model.specs.Nameless.{NDecl, NData, NNew, NFamily, NAxiom, NDef, NWrap, NModule, NModuleOf}
use Rattle.fc_model.specs.Replacing.{bind_count, join_count}
use Rattle.fc_model.specs.Worded.{WExpr, bare_expr}
use Rattle.fc_nameless_measures.specs.Depths.{decls_depth}
use Rattle.fc_rows.specs.Changing.{changed, changed_alts, changed_arg, changed_args, changed_binds, changed_exprs, changed_joins, in_part, made}
use Rattle.fc_rows.specs.ChangingCoercions.{as_they_are}
use Rattle.fc_rows.specs.ResultLimits.{IsWithinLimits}
use Rattle.fc_rows.specs.Rewriting.{changed_decls, changed_module, changed_right}
use Rattle.fc_rows.specs.Surroundings.{Surroundings, apart, at_head, at_join_sides, at_right_sides, behind_binder, behind_binders, behind_binds, behind_joins, head_binds, in_alternative, listed_heads, outside}
use Rattle.fc_result_limits.proofs.Back.{expr_back}
use Rattle.fc_result_limits.proofs.Blank.{blank_alts, blank_arg, blank_args, blank_binds, blank_decls, blank_expr, blank_exprs, blank_joins}
use Rattle.fc_result_limits.proofs.Within.{shallow_decls, the_decls}

-- WHAT BOTH MAKE

-- what one row makes, and what the other: the same, or nothing where the first makes what is too deep
pub data Agrees {X : Type 0} (depth : X → ℕ) : Option X → Option X → Type 0 where
  alike : {o b : Option X} → b ≡ o → Agrees depth o b
  deeper : {b : Option X} (x : X) → b ≡ None → standard_limits.depth < depth x → Agrees depth (Some x) b

-- a whole by its part, which is no deeper
within : {X Y : Type 0} (depth : X → ℕ) (whole : Y → ℕ) (g : X → Y) → ((x : X) → depth x ≤ whole (g x)) → (o b : Option X) → Agrees depth o b → Agrees whole (made g o) (made g b)
within depth whole g no_deeper o b (alike same) = alike (ap (made g) same)
within depth whole g no_deeper o b (deeper x none low) = deeper (g x) (ap (made g) none) (omega (arith, low, no_deeper x))

-- one of two, by a test
pub either : {X : Type 0} (depth : X → ℕ) (c : Bool) (o b q d : Option X) → Agrees depth o b → Agrees depth q d → Agrees depth (if c then o else q) (if c then b else d)
either depth true o b q d first second = first
either depth false o b q d first second = second

-- the part of a number
in_the_part : {X : Type 0} (depth : X → ℕ) (n : ℕ) (p : List ℕ) (f g : List ℕ → Option X) → ((q : List ℕ) → Agrees depth (f q) (g q)) → Agrees depth (in_part n p f) (in_part n p g)
in_the_part depth n [] f g both = alike refl
in_the_part depth n (i ∷ p) f g both = either depth (nat_eq i n) (f p) (g p) None None (both p) (alike refl)

same_where_shallow : {X : Type 0} (depth : X → ℕ) (o b : Option X) (x : X) → Agrees depth o b → o ≡ Some x → depth x ≤ standard_limits.depth → b ≡ Some x
same_where_shallow depth o b x (alike same) is low = same ∙ is
same_where_shallow depth o b x (deeper y none far) is low = let same : y ≡ x = cc in absurd (omega (arith, far, low, ap depth same))

same_where_made : {X : Type 0} (depth : X → ℕ) (o b : Option X) (x : X) → Agrees depth o b → b ≡ Some x → o ≡ Some x
same_where_made depth o b x (alike same) is = sym same ∙ is
same_where_made depth o b x (deeper y none far) is = cc

-- HOW DEEP

-- trees without words are as deep as those with empty ones
abbrev pub nexpr_depth : NExpr → ℕ
nexpr_depth e = expr_depth (blank_expr e)

abbrev narg_depth : NArg → ℕ
narg_depth a = arg_depth (blank_arg a)

abbrev nargs_depth : NArgs → ℕ
nargs_depth args = args_depth (blank_args args)

abbrev nexprs_depth : NExprs → ℕ
nexprs_depth es = exprs_depth (blank_exprs es)

abbrev nbinds_depth : NBinds → ℕ
nbinds_depth bs = binds_depth (blank_binds bs)

abbrev njoins_depth : NJoins → ℕ
njoins_depth js = joins_depth (blank_joins js)

abbrev nalts_depth : NAlts → ℕ
nalts_depth alts = alts_depth (blank_alts alts)

abbrev ndecls_depth : List NDecl → ℕ
ndecls_depth ds = decls_depth (blank_decls ds)

abbrev nmodule_depth : NModule → ℕ
nmodule_depth n = ndecls_depth (the_decls n)

-- what is made where a test holds
pub by_test : (c : Bool) (o : Option NExpr) → ((w : WExpr) → c ≡ false → o ≡ Some (bare_expr w) → standard_limits.depth < expr_depth w) → Agrees nexpr_depth o (if c then o else None)
by_test true o deep = alike refl
by_test false None deep = alike refl
by_test false (Some x) deep = deeper x refl (deep (blank_expr x) refl (ap Some (sym (expr_back x))))

module _ (row bounded : Surroundings → NExpr → Option NExpr) (agrees : (s : Surroundings) (e : NExpr) → Agrees nexpr_depth (row s e) (bounded s e)) where
  -- AT A PLACE OF AN EXPRESSION

  mutual
    pub agree_at : (s : Surroundings) (p : List ℕ) (e : NExpr) → Agrees nexpr_depth (changed row as_they_are s p e) (changed bounded as_they_are s p e)
    agree_at s [] e = agrees s e
    agree_at s (i ∷ p) (NLocal v) = alike refl
    agree_at s (i ∷ p) (NVar n) = alike refl
    agree_at s (i ∷ p) (NLit n) = alike refl
    agree_at s (zero ∷ p) (NApp f a) = within nexpr_depth nexpr_depth _ (λ x. omega arith) _ _ (agree_at (at_head a s) p f)
    agree_at s (suc zero ∷ p) (NApp f a) = within narg_depth nexpr_depth _ (λ x. omega arith) _ _ (agree_in_arg (apart s) p a)
    agree_at s (suc (suc i) ∷ p) (NApp f a) = alike refl
    agree_at s (zero ∷ p) (NLam b e) = alike refl
    agree_at s (suc zero ∷ p) (NLam b e) = within nexpr_depth nexpr_depth _ (λ x. omega arith) _ _ (agree_at (behind_binder b (apart s)) p e)
    agree_at s (suc (suc i) ∷ p) (NLam b e) = alike refl
    agree_at s (i ∷ p) (NLet r bs e) =
        either nexpr_depth (nat_eq i (bind_count bs)) _ _ _ _ (within nexpr_depth nexpr_depth _ (λ x. omega arith) _ _ (agree_at (behind_binds r bs s) p e))
        (within nbinds_depth nexpr_depth _ (λ x. omega arith) _ _ (agree_in_binds (at_right_sides r bs s) i p bs))
    agree_at s (zero ∷ p) (NCase e t u alts) = within nexpr_depth nexpr_depth _ (λ x. omega arith) _ _ (agree_at (apart s) p e)
    agree_at s (suc zero ∷ p) (NCase e t u alts) = alike refl
    agree_at s (suc (suc zero) ∷ p) (NCase e t u alts) = alike refl
    agree_at s (suc (suc (suc i)) ∷ p) (NCase e t u alts) = within nalts_depth nexpr_depth _ (λ x. omega arith) _ _ (agree_in_alts s e t (listed_heads alts) i p alts)
    agree_at s (zero ∷ p) (NCast e g) = within nexpr_depth nexpr_depth _ (λ x. omega arith) _ _ (agree_at (apart s) p e)
    agree_at s (suc zero ∷ p) (NCast e g) = alike refl
    agree_at s (suc (suc i) ∷ p) (NCast e g) = alike refl
    agree_at s (i ∷ p) (NCon n args) = within nargs_depth nexpr_depth _ (λ x. omega arith) _ _ (agree_in_args (apart s) i p args)
    agree_at s (i ∷ p) (NPrim op es) = within nexprs_depth nexpr_depth _ (λ x. omega arith) _ _ (agree_in_exprs (apart s) i p es)
    agree_at s (i ∷ p) (NFail t) = alike refl
    agree_at s (zero ∷ p) (NJoin r t js e) = alike refl
    agree_at s (suc i ∷ p) (NJoin r t js e) =
        either nexpr_depth (nat_eq i (join_count js)) _ _ _ _ (within nexpr_depth nexpr_depth _ (λ x. omega arith) _ _ (agree_at (behind_joins r t js s) p e))
        (within njoins_depth nexpr_depth _ (λ x. omega arith) _ _ (agree_in_joins (at_join_sides r t js s) i p js))
    agree_at s (i ∷ p) (NJump j args) = within nargs_depth nexpr_depth _ (λ x. omega arith) _ _ (agree_in_args (apart s) i p args)

    agree_in_arg : (s : Surroundings) (p : List ℕ) (a : NArg) → Agrees narg_depth (changed_arg row as_they_are s p a) (changed_arg bounded as_they_are s p a)
    agree_in_arg s p (NATerm e) = within nexpr_depth narg_depth _ (λ x. omega arith) _ _ (agree_at s p e)
    agree_in_arg s p (NAType t) = alike refl
    agree_in_arg s p (NACo g) = alike refl

    agree_in_args : (s : Surroundings) (i : ℕ) (p : List ℕ) (args : NArgs) → Agrees nargs_depth (changed_args row as_they_are s i p args) (changed_args bounded as_they_are s i p args)
    agree_in_args s i p NoNArgs = alike refl
    agree_in_args s zero p (MoreNArgs a rest) = within narg_depth nargs_depth _ (λ x. omega arith) _ _ (agree_in_arg s p a)
    agree_in_args s (suc i) p (MoreNArgs a rest) = within nargs_depth nargs_depth _ (λ x. omega arith) _ _ (agree_in_args s i p rest)

    agree_in_exprs : (s : Surroundings) (i : ℕ) (p : List ℕ) (es : NExprs) → Agrees nexprs_depth (changed_exprs row as_they_are s i p es) (changed_exprs bounded as_they_are s i p es)
    agree_in_exprs s i p NoNExprs = alike refl
    agree_in_exprs s zero p (MoreNExprs e rest) = within nexpr_depth nexprs_depth _ (λ x. omega arith) _ _ (agree_at s p e)
    agree_in_exprs s (suc i) p (MoreNExprs e rest) = within nexprs_depth nexprs_depth _ (λ x. omega arith) _ _ (agree_in_exprs s i p rest)

    agree_in_binds : (s : Surroundings) (i : ℕ) (p : List ℕ) (bs : NBinds) → Agrees nbinds_depth (changed_binds row as_they_are s i p bs) (changed_binds bounded as_they_are s i p bs)
    agree_in_binds s i p NoNBinds = alike refl
    agree_in_binds s zero p (MoreNBinds (NBound t e) rest) = within nexpr_depth nbinds_depth _ (λ x. omega arith) _ _ (in_the_part nexpr_depth 1 p _ _ (λ q. agree_at s q e))
    agree_in_binds s (suc i) p (MoreNBinds b rest) = within nbinds_depth nbinds_depth _ (λ x. omega arith) _ _ (agree_in_binds s i p rest)

    agree_in_joins : (s : Surroundings) (i : ℕ) (p : List ℕ) (js : NJoins) → Agrees njoins_depth (changed_joins row as_they_are s i p js) (changed_joins bounded as_they_are s i p js)
    agree_in_joins s i p NoNJoins = alike refl
    agree_in_joins s zero p (MoreNJoins (NJoined ps e) rest) =
        within nexpr_depth njoins_depth _ (λ x. omega arith) _ _ (in_the_part nexpr_depth (length ps) p _ _ (λ q. agree_at (behind_binders ps s) q e))
    agree_in_joins s (suc i) p (MoreNJoins j rest) = within njoins_depth njoins_depth _ (λ x. omega arith) _ _ (agree_in_joins s i p rest)

    agree_in_alts : (s : Surroundings) (e : NExpr) (t : NTy) (hs : List Head) (i : ℕ) (p : List ℕ) (alts : NAlts)
        → Agrees nalts_depth (changed_alts row as_they_are s e t hs i p alts) (changed_alts bounded as_they_are s e t hs i p alts)
    agree_in_alts s e t hs i p NoNAlts = alike refl
    agree_in_alts s e t hs zero p (MoreNAlts (NBranch h bs b) rest) =
        within nexpr_depth nalts_depth _ (λ x. omega arith) _ _
        (either nexpr_depth (head_binds h bs) _ _ _ _ (in_the_part nexpr_depth (length bs) p _ _ (λ q. agree_at (in_alternative e t hs h bs s) q b)) (alike refl))
    agree_in_alts s e t hs (suc i) p (MoreNAlts a rest) = within nalts_depth nalts_depth _ (λ x. omega arith) _ _ (agree_in_alts s e t hs i p rest)

  -- AT A PLACE OF A MODULE

  agree_right : (s : Surroundings) (p : List ℕ) (e : NExpr) → Agrees nexpr_depth (changed_right row as_they_are s p e) (changed_right bounded as_they_are s p e)
  agree_right s [] e = alike refl
  agree_right s (zero ∷ p) e = alike refl
  agree_right s (suc zero ∷ p) e = agree_at s p e
  agree_right s (suc (suc i) ∷ p) e = alike refl

  agree_decls : (s : Surroundings) (v : Word) (p : List ℕ) (ds : List NDecl) → Agrees ndecls_depth (changed_decls row as_they_are s v p ds) (changed_decls bounded as_they_are s v p ds)
  agree_decls s v p [] = alike refl
  agree_decls s v p (NDef n t e ∷ ds) =
      either ndecls_depth (bytes_eq n v) _ _ _ _ (within nexpr_depth ndecls_depth _ (λ x. omega arith) _ _ (agree_right s p e)) (within ndecls_depth ndecls_depth _ (λ x. omega arith) _ _ (agree_decls s v p ds))
  agree_decls s v p (NWrap n t e ∷ ds) =
      either ndecls_depth (bytes_eq n v) _ _ _ _ (within nexpr_depth ndecls_depth _ (λ x. omega arith) _ _ (agree_right s p e)) (within ndecls_depth ndecls_depth _ (λ x. omega arith) _ _ (agree_decls s v p ds))
  agree_decls s v p (NData n ps cs ∷ ds) = within ndecls_depth ndecls_depth _ (λ x. omega arith) _ _ (agree_decls s v p ds)
  agree_decls s v p (NNew n ps t con ∷ ds) = within ndecls_depth ndecls_depth _ (λ x. omega arith) _ _ (agree_decls s v p ds)
  agree_decls s v p (NFamily n ps k ∷ ds) = within ndecls_depth ndecls_depth _ (λ x. omega arith) _ _ (agree_decls s v p ds)
  agree_decls s v p (NAxiom n ps t u ∷ ds) = within ndecls_depth ndecls_depth _ (λ x. omega arith) _ _ (agree_decls s v p ds)

  agree_module : (xs : List NModule) (v : Word) (p : List ℕ) (n : NModule) → Agrees nmodule_depth (changed_module row as_they_are xs v p n) (changed_module bounded as_they_are xs v p n)
  agree_module xs v p (NModuleOf m imports exports hidden ds) =
      within ndecls_depth nmodule_depth _ (λ x. omega arith) _ _ (agree_decls (outside (decls_at (NModuleOf m imports exports hidden ds ∷ xs))) v p ds)

  pub bounded_where_shallow : (xs : List NModule) (v : Word) (p : List ℕ) (n k : NModule) → changed_module row as_they_are xs v p n ≡ Some k → IsWithinLimits k
      → changed_module bounded as_they_are xs v p n ≡ Some k
  bounded_where_shallow xs v p n k is low = same_where_shallow nmodule_depth _ _ k (agree_module xs v p n) is (shallow_decls k low)

  -- the other way round needs no limit
  pub bounded_is_row : (xs : List NModule) (v : Word) (p : List ℕ) (n k : NModule) → changed_module bounded as_they_are xs v p n ≡ Some k → changed_module row as_they_are xs v p n ≡ Some k
  bounded_is_row xs v p n k is = same_where_made nmodule_depth _ _ k (agree_module xs v p n) is
