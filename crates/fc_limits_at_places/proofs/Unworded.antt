-- A declaration with empty words, without them, is that declaration; and so a module is within the limits exactly if it is no deeper and no larger than they are.
use Rattle.std.proofs.Common.{◌≡◌, ◌≤◌, ◌↔◌, List, [], ◌∷◌, map, refl, ap, subst}
use Rattle.fc_syntax.specs.Limits.{standard_limits}
use Rattle.fc_syntax.specs.Measures.{decls_size}
use Rattle.fc_model.specs.Nameless.{NTy, NTInt, NBinder, NExpr, NLocal, NLam, NFail, NParam, NParamOf, NConDecl, NConOf, NDecl, NData, NNew, NFamily, NAxiom, NDef, NWrap, NModule, NModuleOf}
use Rattle.fc_model.specs.Worded.{bare_binder, bare_con, bare_decl, bare_param, bare_plain, bare_ty}
use Rattle.fc_nameless_measures.specs.Depths.{decls_depth}
use Rattle.fc_reaching.specs.Reaching.{decls_in}
use Rattle.fc_rows.specs.ResultLimits.{IsWithinLimits}
use Rattle.fc_result_limits.proofs.Back.{expr_back}
use Rattle.fc_result_limits.proofs.Blank.{blank_binder, blank_con, blank_decl, blank_decls, blank_param, blank_plain, blank_ty}
use Rattle.fc_result_limits.proofs.Within.{within_is}

-- there and back, of each one in a list
map_back : {X Y : Type 0} (there : X → Y) (back : Y → X) → ((x : X) → back (there x) ≡ x) → (xs : List X) → map back (map there xs) ≡ xs
map_back there back each [] = refl
map_back there back each (x ∷ xs) = rw (each x, map_back there back each xs) refl

-- A TYPE AND A BINDER, AS PARTS OF AN EXPRESSION

abbrev failed_type : NExpr → NTy
failed_type (NFail t) = t
failed_type e = NTInt

ty_back : (t : NTy) → bare_ty (blank_ty t) ≡ t
ty_back t = ap failed_type (expr_back (NFail t))

module _ (b : NBinder) where
  abbrev lambda_binder : NExpr → NBinder
  lambda_binder (NLam c e) = c
  lambda_binder e = b

  binder_back : bare_binder (blank_binder b) ≡ b
  binder_back = ap lambda_binder (expr_back (NLam b (NLocal 0)))

-- DECLARATIONS

con_back : (c : NConDecl) → bare_con (blank_con c) ≡ c
con_back (NConOf n bs fields) = rw (map_back blank_binder bare_binder binder_back bs, map_back blank_ty bare_ty ty_back fields) refl

param_back : (p : NParam) → bare_param (blank_param p) ≡ p
param_back (NParamOf k r) = refl

decl_back : (d : NDecl) → bare_decl (blank_decl d) ≡ d
decl_back (NData n ps cs) = rw (map_back blank_param bare_param param_back ps, map_back blank_con bare_con con_back cs) refl
decl_back (NNew n ps t con) = rw (map_back blank_param bare_param param_back ps, ty_back t) refl
decl_back (NFamily n ps k) = rw (map_back blank_plain bare_plain (λ k. refl) ps) refl
decl_back (NAxiom n ps t u) = rw (map_back blank_plain bare_plain (λ k. refl) ps, ty_back t, ty_back u) refl
decl_back (NDef n t e) = rw (ty_back t, expr_back e) refl
decl_back (NWrap n t e) = rw (ty_back t, expr_back e) refl

-- MODULES

-- no deeper and no larger together than what is made may be
abbrev pub AreWithin : List NDecl → Type 0
AreWithin ds = (decls_depth (blank_decls ds) ≤ standard_limits.depth) × (decls_size (blank_decls ds) ≤ standard_limits.result_size)

pub within_measures : (n : NModule) → IsWithinLimits n ↔ AreWithin (decls_in n)
within_measures (NModuleOf m imports exports hidden ds) =
    subst (λ cs. IsWithinLimits (NModuleOf m imports exports hidden cs) ↔ AreWithin ds) (map_back blank_decl bare_decl decl_back ds) (within_is m imports exports hidden (blank_decls ds))
