-- How many arguments, operands and alternatives a list has, and the places of right sides in it.
use Rattle.std.proofs.Common.{◌≡◌, ◌≤◌, ℕ, arith, zero, suc, List, [], ◌∷◌, length, Some, refl, ap, ◌∙◌}
use Rattle.std.specs.Prelude.{slice_get}
use Rattle.fc_syntax.specs.declared.ty.Ref.{Ref}
use Rattle.fc_syntax.specs.declared.expr.Alt as RustAlt
use Rattle.fc_syntax.specs.declared.expr.Arg as RustArg
use Rattle.fc_syntax.specs.declared.expr.Expr as RustExpr
use Rattle.fc_syntax.specs.declared.expr.JoinBind as RustJoin
use Rattle.fc_syntax.specs.declared.expr.Head.{Head}
use Rattle.fc_model.specs.Nameless.{NExpr, NTy}
use Rattle.fc_model.specs.NamelessView.{nalts_of, nargs_of, nbinders_of, nexprs_of, njoins_of}
use Rattle.fc_numbers.proofs.Counted.{binds_counted, joins_counted}
use Rattle.fc_parts.proofs.PartRules.{binders_counted}
use Rattle.fc_rows.specs.Surroundings.{Surroundings, behind_binders, in_alternative}
use Rattle.fc_search_laws.specs.Searching.{alt_count, alt_place, arg_count, expr_count, join_place}
use Rattle.fc_row_search.specs.Frames.{behind_branch, behind_point}

pub args_counted : (xs : List (RustArg.Arg ℕ Ref)) → arg_count (nargs_of xs) ≡ length xs
args_counted [] = refl
args_counted (x ∷ xs) = ap (λ n. suc n) (args_counted xs)

pub exprs_counted : (xs : List (RustExpr.Expr ℕ Ref)) → expr_count (nexprs_of xs) ≡ length xs
exprs_counted [] = refl
exprs_counted (x ∷ xs) = ap (λ n. suc n) (exprs_counted xs)

pub alts_counted : (xs : List (RustAlt.Alt ℕ Ref)) → alt_count (nalts_of xs) ≡ length xs
alts_counted [] = refl
alts_counted (x ∷ xs) = ap (λ n. suc n) (alts_counted xs)

pub alt_there : (n k : ℕ) (xs : List (RustAlt.Alt ℕ Ref)) (x : RustAlt.Alt ℕ Ref) → slice_get xs k ≡ Some x → alt_place n k (nalts_of xs) ≡ n ∷ length x.binders ∷ []
alt_there n k [] x is = cc
alt_there n zero (z ∷ xs) x is =
    let same : z ≡ x = cc in
    ap (λ m. n ∷ m ∷ []) (binders_counted z.binders) ∙ ap (λ w. n ∷ length w.binders ∷ []) same
alt_there n (suc k) (z ∷ xs) x is = alt_there n k xs x is

pub alt_past : (n k : ℕ) (xs : List (RustAlt.Alt ℕ Ref)) → length xs ≤ k → alt_place n k (nalts_of xs) ≡ n ∷ []
alt_past n k [] is = refl
alt_past n zero (z ∷ xs) is = absurd (omega (arith, is))
alt_past n (suc k) (z ∷ xs) is = alt_past n k xs (omega (arith, is))

pub join_there : (n k : ℕ) (xs : List (RustJoin.JoinBind ℕ Ref)) (x : RustJoin.JoinBind ℕ Ref) → slice_get xs k ≡ Some x → join_place n k (njoins_of xs) ≡ n ∷ length x.params ∷ []
join_there n k [] x is = cc
join_there n zero (z ∷ xs) x is =
    let same : z ≡ x = cc in
    ap (λ m. n ∷ m ∷ []) (binders_counted z.params) ∙ ap (λ w. n ∷ length w.params ∷ []) same
join_there n (suc k) (z ∷ xs) x is = join_there n k xs x is

pub join_past : (n k : ℕ) (xs : List (RustJoin.JoinBind ℕ Ref)) → length xs ≤ k → join_place n k (njoins_of xs) ≡ n ∷ []
join_past n k [] is = refl
join_past n zero (z ∷ xs) is = absurd (omega (arith, is))
join_past n (suc k) (z ∷ xs) is = join_past n k xs (omega (arith, is))

-- WHAT STANDS AROUND RIGHT SIDES

pub point_there : (k : ℕ) (xs : List (RustJoin.JoinBind ℕ Ref)) (x : RustJoin.JoinBind ℕ Ref) (s : Surroundings) → slice_get xs k ≡ Some x
    → behind_point k (njoins_of xs) s ≡ behind_binders (nbinders_of x.params) s
point_there k [] x s is = cc
point_there zero (z ∷ xs) x s is = let same : z ≡ x = cc in ap (λ j. behind_binders (nbinders_of j.params) s) same
point_there (suc k) (z ∷ xs) x s is = point_there k xs x s is

pub point_past : (k : ℕ) (xs : List (RustJoin.JoinBind ℕ Ref)) (s : Surroundings) → length xs ≤ k → behind_point k (njoins_of xs) s ≡ s
point_past k [] s is = refl
point_past zero (z ∷ xs) s is = absurd (omega (arith, is))
point_past (suc k) (z ∷ xs) s is = point_past k xs s (omega (arith, is))

module _ (e : NExpr) (t : NTy) (hs : List Head) where
  pub branch_there : (k : ℕ) (xs : List (RustAlt.Alt ℕ Ref)) (x : RustAlt.Alt ℕ Ref) (s : Surroundings) → slice_get xs k ≡ Some x
      → behind_branch e t hs k (nalts_of xs) s ≡ in_alternative e t hs x.head (nbinders_of x.binders) s
  branch_there k [] x s is = cc
  branch_there zero (z ∷ xs) x s is = let same : z ≡ x = cc in ap (λ a. in_alternative e t hs a.head (nbinders_of a.binders) s) same
  branch_there (suc k) (z ∷ xs) x s is = branch_there k xs x s is

  pub branch_past : (k : ℕ) (xs : List (RustAlt.Alt ℕ Ref)) (s : Surroundings) → length xs ≤ k → behind_branch e t hs k (nalts_of xs) s ≡ s
  branch_past k [] s is = refl
  branch_past zero (z ∷ xs) s is = absurd (omega (arith, is))
  branch_past (suc k) (z ∷ xs) s is = branch_past k xs s (omega (arith, is))

pub ruleset count_rules = (args_counted, exprs_counted, alts_counted, binds_counted, joins_counted, alt_there, alt_past, join_there, join_past, point_there, point_past, branch_there, branch_past)
