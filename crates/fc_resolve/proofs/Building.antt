-- The parts of expressions, built item by item.
use Rattle.std.proofs.Common.{◌≡◌, ℕ, ◌++◌, List, [], ◌∷◌, Result, Ok, Err, refl, ap}
use Rattle.fc_syntax.specs.declared.ty.Ref.{Ref}
use Rattle.fc_syntax.specs.declared.expr.Expr as E
use Rattle.fc_syntax.specs.declared.expr.Arg as A
use Rattle.fc_syntax.specs.declared.expr.Bind as RustBind
use Rattle.fc_syntax.specs.declared.expr.JoinBind as RustJoin
use Rattle.fc_syntax.specs.declared.expr.Alt as RustAlt
use Rattle.fc_model.specs.Faulting.{F}
use Rattle.fc_model.specs.Nameless.{NExprs, NoNExprs, MoreNExprs, NArgs, NoNArgs, MoreNArgs, NBinds, NoNBinds, MoreNBinds, NJoins, NoNJoins, MoreNJoins, NAlts, NoNAlts, MoreNAlts}
use Rattle.fc_model.specs.NamelessView.{nexpr_of, nexprs_of, narg_of, nargs_of, nbind_of, nbinds_of, njoin_of, njoins_of, nalt_of, nalts_of}
use Rattle.fc_model.specs.Resolution.{then_expr, then_arg, then_bind, then_join, then_alt}
use Rattle.fc_resolve.specs.Building.{exprs_before, with_exprs, args_before, with_args, binds_before, with_binds, joins_before, with_joins, alts_before, with_alts}

append_expr : (items : List (E.Expr ℕ Ref)) (x : E.Expr ℕ Ref) (rest : NExprs) → exprs_before items (MoreNExprs (nexpr_of x) rest) ≡ exprs_before (items ++ x ∷ []) rest
append_expr [] x rest = refl
append_expr (y ∷ items) x rest = ap (λ xs. MoreNExprs (nexpr_of y) xs) (append_expr items x rest)

append_no_expr : (items : List (E.Expr ℕ Ref)) → exprs_before items NoNExprs ≡ nexprs_of items
append_no_expr [] = refl
append_no_expr (y ∷ items) = ap (λ xs. MoreNExprs (nexpr_of y) xs) (append_no_expr items)

pub with_exprs_more : (items : List (E.Expr ℕ Ref)) (x : E.Expr ℕ Ref) (r : Result NExprs F) → with_exprs items (then_expr (nexpr_of x) r) ≡ with_exprs (items ++ x ∷ []) r
unfolding with_exprs
with_exprs_more items x (Ok rest) = ap (λ z. Ok z) (append_expr items x rest)
with_exprs_more items x (Err f) = refl

pub with_exprs_end : (items : List (E.Expr ℕ Ref)) → with_exprs items (Ok NoNExprs) ≡ Ok (nexprs_of items)
unfolding with_exprs
with_exprs_end items = ap (λ z. Ok z) (append_no_expr items)

pub with_exprs_none : (r : Result NExprs F) → with_exprs [] r ≡ r
unfolding with_exprs
with_exprs_none (Ok rest) = refl
with_exprs_none (Err f) = refl

pub with_exprs_err : (items : List (E.Expr ℕ Ref)) (f : F) → with_exprs items (Err f) ≡ Err f
unfolding with_exprs
with_exprs_err items f = refl

append_arg : (items : List (A.Arg ℕ Ref)) (x : A.Arg ℕ Ref) (rest : NArgs) → args_before items (MoreNArgs (narg_of x) rest) ≡ args_before (items ++ x ∷ []) rest
append_arg [] x rest = refl
append_arg (y ∷ items) x rest = ap (λ xs. MoreNArgs (narg_of y) xs) (append_arg items x rest)

append_no_arg : (items : List (A.Arg ℕ Ref)) → args_before items NoNArgs ≡ nargs_of items
append_no_arg [] = refl
append_no_arg (y ∷ items) = ap (λ xs. MoreNArgs (narg_of y) xs) (append_no_arg items)

pub with_args_more : (items : List (A.Arg ℕ Ref)) (x : A.Arg ℕ Ref) (r : Result NArgs F) → with_args items (then_arg (narg_of x) r) ≡ with_args (items ++ x ∷ []) r
unfolding with_args
with_args_more items x (Ok rest) = ap (λ z. Ok z) (append_arg items x rest)
with_args_more items x (Err f) = refl

pub with_args_end : (items : List (A.Arg ℕ Ref)) → with_args items (Ok NoNArgs) ≡ Ok (nargs_of items)
unfolding with_args
with_args_end items = ap (λ z. Ok z) (append_no_arg items)

pub with_args_none : (r : Result NArgs F) → with_args [] r ≡ r
unfolding with_args
with_args_none (Ok rest) = refl
with_args_none (Err f) = refl

pub with_args_err : (items : List (A.Arg ℕ Ref)) (f : F) → with_args items (Err f) ≡ Err f
unfolding with_args
with_args_err items f = refl

append_bind : (items : List (RustBind.Bind ℕ Ref)) (x : RustBind.Bind ℕ Ref) (rest : NBinds) → binds_before items (MoreNBinds (nbind_of x) rest) ≡ binds_before (items ++ x ∷ []) rest
append_bind [] x rest = refl
append_bind (y ∷ items) x rest = ap (λ xs. MoreNBinds (nbind_of y) xs) (append_bind items x rest)

append_no_bind : (items : List (RustBind.Bind ℕ Ref)) → binds_before items NoNBinds ≡ nbinds_of items
append_no_bind [] = refl
append_no_bind (y ∷ items) = ap (λ xs. MoreNBinds (nbind_of y) xs) (append_no_bind items)

pub with_binds_more : (items : List (RustBind.Bind ℕ Ref)) (x : RustBind.Bind ℕ Ref) (r : Result NBinds F) → with_binds items (then_bind (nbind_of x) r) ≡ with_binds (items ++ x ∷ []) r
unfolding with_binds
with_binds_more items x (Ok rest) = ap (λ z. Ok z) (append_bind items x rest)
with_binds_more items x (Err f) = refl

pub with_binds_end : (items : List (RustBind.Bind ℕ Ref)) → with_binds items (Ok NoNBinds) ≡ Ok (nbinds_of items)
unfolding with_binds
with_binds_end items = ap (λ z. Ok z) (append_no_bind items)

pub with_binds_none : (r : Result NBinds F) → with_binds [] r ≡ r
unfolding with_binds
with_binds_none (Ok rest) = refl
with_binds_none (Err f) = refl

pub with_binds_err : (items : List (RustBind.Bind ℕ Ref)) (f : F) → with_binds items (Err f) ≡ Err f
unfolding with_binds
with_binds_err items f = refl

append_join : (items : List (RustJoin.JoinBind ℕ Ref)) (x : RustJoin.JoinBind ℕ Ref) (rest : NJoins) → joins_before items (MoreNJoins (njoin_of x) rest) ≡ joins_before (items ++ x ∷ []) rest
append_join [] x rest = refl
append_join (y ∷ items) x rest = ap (λ xs. MoreNJoins (njoin_of y) xs) (append_join items x rest)

append_no_join : (items : List (RustJoin.JoinBind ℕ Ref)) → joins_before items NoNJoins ≡ njoins_of items
append_no_join [] = refl
append_no_join (y ∷ items) = ap (λ xs. MoreNJoins (njoin_of y) xs) (append_no_join items)

pub with_joins_more : (items : List (RustJoin.JoinBind ℕ Ref)) (x : RustJoin.JoinBind ℕ Ref) (r : Result NJoins F) → with_joins items (then_join (njoin_of x) r) ≡ with_joins (items ++ x ∷ []) r
unfolding with_joins
with_joins_more items x (Ok rest) = ap (λ z. Ok z) (append_join items x rest)
with_joins_more items x (Err f) = refl

pub with_joins_end : (items : List (RustJoin.JoinBind ℕ Ref)) → with_joins items (Ok NoNJoins) ≡ Ok (njoins_of items)
unfolding with_joins
with_joins_end items = ap (λ z. Ok z) (append_no_join items)

pub with_joins_none : (r : Result NJoins F) → with_joins [] r ≡ r
unfolding with_joins
with_joins_none (Ok rest) = refl
with_joins_none (Err f) = refl

pub with_joins_err : (items : List (RustJoin.JoinBind ℕ Ref)) (f : F) → with_joins items (Err f) ≡ Err f
unfolding with_joins
with_joins_err items f = refl

append_alt : (items : List (RustAlt.Alt ℕ Ref)) (x : RustAlt.Alt ℕ Ref) (rest : NAlts) → alts_before items (MoreNAlts (nalt_of x) rest) ≡ alts_before (items ++ x ∷ []) rest
append_alt [] x rest = refl
append_alt (y ∷ items) x rest = ap (λ xs. MoreNAlts (nalt_of y) xs) (append_alt items x rest)

append_no_alt : (items : List (RustAlt.Alt ℕ Ref)) → alts_before items NoNAlts ≡ nalts_of items
append_no_alt [] = refl
append_no_alt (y ∷ items) = ap (λ xs. MoreNAlts (nalt_of y) xs) (append_no_alt items)

pub with_alts_more : (items : List (RustAlt.Alt ℕ Ref)) (x : RustAlt.Alt ℕ Ref) (r : Result NAlts F) → with_alts items (then_alt (nalt_of x) r) ≡ with_alts (items ++ x ∷ []) r
unfolding with_alts
with_alts_more items x (Ok rest) = ap (λ z. Ok z) (append_alt items x rest)
with_alts_more items x (Err f) = refl

pub with_alts_end : (items : List (RustAlt.Alt ℕ Ref)) → with_alts items (Ok NoNAlts) ≡ Ok (nalts_of items)
unfolding with_alts
with_alts_end items = ap (λ z. Ok z) (append_no_alt items)

pub with_alts_none : (r : Result NAlts F) → with_alts [] r ≡ r
unfolding with_alts
with_alts_none (Ok rest) = refl
with_alts_none (Err f) = refl

pub with_alts_err : (items : List (RustAlt.Alt ℕ Ref)) (f : F) → with_alts items (Err f) ≡ Err f
unfolding with_alts
with_alts_err items f = refl

pub ruleset building_rules = (with_exprs_more, with_exprs_end, with_exprs_none, with_exprs_err, with_args_more, with_args_end, with_args_none, with_args_err, with_binds_more, with_binds_end, with_binds_none, with_binds_err, with_joins_more, with_joins_end, with_joins_none, with_joins_err, with_alts_more, with_alts_end, with_alts_none, with_alts_err)
