-- Lists of parts with what is put in.
use Rattle.std.proofs.Common.{◌≡◌, ◌+◌, ◌<◌, ◌++◌, ◌∙◌, ℕ, List, [], ◌∷◌, sym, ap, take, length, get_or}
use Rattle.std.proofs.lemmas.List.{take_more}
use Rattle.fc_syntax.specs.declared.co.Co as G
use Rattle.fc_syntax.specs.declared.ty.Ref.{Ref}
use Rattle.fc_syntax.specs.declared.expr.Expr as E
use Rattle.fc_syntax.specs.declared.expr.Arg as A
use Rattle.fc_syntax.specs.declared.expr.Bind as RustBind
use Rattle.fc_syntax.specs.declared.expr.JoinBind as RustJoin
use Rattle.fc_syntax.specs.declared.expr.Alt as RustAlt
use Rattle.fc_model.specs.Nameless.{NTy, NCo, NoNCos, MoreNCos, NoNExprs, MoreNExprs, NoNArgs, MoreNArgs, NoNBinds, MoreNBinds, NoNJoins, MoreNJoins, NoNAlts, MoreNAlts}
use Rattle.fc_model.specs.NamelessView.{nco_of, ncos_of, nexpr_of, nexprs_of, narg_of, nargs_of, nbind_of, nbinds_of, njoin_of, njoins_of, nalt_of, nalts_of}
use Rattle.fc_model.specs.Replacing.{Substitution, expressions, put_in, put_in_alt, put_in_alts, put_in_arg, put_in_args, put_in_bind, put_in_binds, put_in_exprs, put_in_join, put_in_joins, put_in_coercion, put_in_coercions, whole_coercions}

-- COERCIONS

cos_put_more : (s : ℕ → NTy) (r : ℕ → NCo) (items : List (G.Co ℕ)) (x y : G.Co ℕ) (all : List (G.Co ℕ)) → ncos_of all ≡ put_in_coercions whole_coercions s r (ncos_of items)
    → nco_of y ≡ put_in_coercion whole_coercions s r (nco_of x) → ncos_of (all ++ y ∷ []) ≡ put_in_coercions whole_coercions s r (ncos_of (items ++ x ∷ []))
cos_put_more s r [] x y [] h k = ap (λ z. MoreNCos z NoNCos) k
cos_put_more s r [] x y (z ∷ all) h k = cc
cos_put_more s r (w ∷ items) x y [] h k = cc
cos_put_more s r (w ∷ items) x y (z ∷ all) h k =
    let first : nco_of z ≡ put_in_coercion whole_coercions s r (nco_of w) = cc in
    let rest : ncos_of all ≡ put_in_coercions whole_coercions s r (ncos_of items) = cc in
    ap (λ v. MoreNCos v (ncos_of (all ++ y ∷ []))) first ∙ ap (λ v. MoreNCos (put_in_coercion whole_coercions s r (nco_of w)) v) (cos_put_more s r items x y all rest k)

pub cos_step : (s : ℕ → NTy) (r : ℕ → NCo) (items all more : List (G.Co ℕ)) (i : ℕ) (x y : G.Co ℕ) → more ≡ all ++ y ∷ [] → nco_of y ≡ put_in_coercion whole_coercions s r (nco_of x)
    → i < length items → x ≡ get_or items i x → ncos_of all ≡ put_in_coercions whole_coercions s r (ncos_of (take i items)) → ncos_of more ≡ put_in_coercions whole_coercions s r (ncos_of (take (i + 1) items))
cos_step s r items all more i x y pushed same within is so_far =
    ap ncos_of pushed ∙ cos_put_more s r (take i items) x y all so_far same
    ∙ ap (λ z. put_in_coercions whole_coercions s r (ncos_of (take i items ++ z ∷ []))) is ∙ sym (ap (λ z. put_in_coercions whole_coercions s r (ncos_of z)) (take_more items i x within))

-- EXPRS

exprs_put_more : (r : Substitution) (items : List (E.Expr ℕ Ref)) (x y : E.Expr ℕ Ref) (all : List (E.Expr ℕ Ref)) → nexprs_of all ≡ put_in_exprs expressions whole_coercions r (nexprs_of items) → nexpr_of y ≡ put_in expressions whole_coercions r (nexpr_of x) → nexprs_of (all ++ y ∷ []) ≡ put_in_exprs expressions whole_coercions r (nexprs_of (items ++ x ∷ []))
exprs_put_more r [] x y [] h k = ap (λ z. MoreNExprs z NoNExprs) k
exprs_put_more r [] x y (z ∷ all) h k = cc
exprs_put_more r (w ∷ items) x y [] h k = cc
exprs_put_more r (w ∷ items) x y (z ∷ all) h k =
    let first : nexpr_of z ≡ put_in expressions whole_coercions r (nexpr_of w) = cc in
    let rest : nexprs_of all ≡ put_in_exprs expressions whole_coercions r (nexprs_of items) = cc in
    ap (λ v. MoreNExprs v (nexprs_of (all ++ y ∷ []))) first ∙ ap (λ v. MoreNExprs (put_in expressions whole_coercions r (nexpr_of w)) v) (exprs_put_more r items x y all rest k)

pub exprs_step : (r : Substitution) (items all more : List (E.Expr ℕ Ref)) (i : ℕ) (x y : E.Expr ℕ Ref) → more ≡ all ++ y ∷ [] → nexpr_of y ≡ put_in expressions whole_coercions r (nexpr_of x) → i < length items → x ≡ get_or items i x
    → nexprs_of all ≡ put_in_exprs expressions whole_coercions r (nexprs_of (take i items)) → nexprs_of more ≡ put_in_exprs expressions whole_coercions r (nexprs_of (take (i + 1) items))
exprs_step r items all more i x y pushed same within is so_far =
    ap nexprs_of pushed ∙ exprs_put_more r (take i items) x y all so_far same
    ∙ ap (λ z. put_in_exprs expressions whole_coercions r (nexprs_of (take i items ++ z ∷ []))) is ∙ sym (ap (λ z. put_in_exprs expressions whole_coercions r (nexprs_of z)) (take_more items i x within))

-- ARGS

args_put_more : (r : Substitution) (items : List (A.Arg ℕ Ref)) (x y : A.Arg ℕ Ref) (all : List (A.Arg ℕ Ref)) → nargs_of all ≡ put_in_args expressions whole_coercions r (nargs_of items) → narg_of y ≡ put_in_arg expressions whole_coercions r (narg_of x) → nargs_of (all ++ y ∷ []) ≡ put_in_args expressions whole_coercions r (nargs_of (items ++ x ∷ []))
args_put_more r [] x y [] h k = ap (λ z. MoreNArgs z NoNArgs) k
args_put_more r [] x y (z ∷ all) h k = cc
args_put_more r (w ∷ items) x y [] h k = cc
args_put_more r (w ∷ items) x y (z ∷ all) h k =
    let first : narg_of z ≡ put_in_arg expressions whole_coercions r (narg_of w) = cc in
    let rest : nargs_of all ≡ put_in_args expressions whole_coercions r (nargs_of items) = cc in
    ap (λ v. MoreNArgs v (nargs_of (all ++ y ∷ []))) first ∙ ap (λ v. MoreNArgs (put_in_arg expressions whole_coercions r (narg_of w)) v) (args_put_more r items x y all rest k)

pub args_step : (r : Substitution) (items all more : List (A.Arg ℕ Ref)) (i : ℕ) (x y : A.Arg ℕ Ref) → more ≡ all ++ y ∷ [] → narg_of y ≡ put_in_arg expressions whole_coercions r (narg_of x) → i < length items → x ≡ get_or items i x
    → nargs_of all ≡ put_in_args expressions whole_coercions r (nargs_of (take i items)) → nargs_of more ≡ put_in_args expressions whole_coercions r (nargs_of (take (i + 1) items))
args_step r items all more i x y pushed same within is so_far =
    ap nargs_of pushed ∙ args_put_more r (take i items) x y all so_far same
    ∙ ap (λ z. put_in_args expressions whole_coercions r (nargs_of (take i items ++ z ∷ []))) is ∙ sym (ap (λ z. put_in_args expressions whole_coercions r (nargs_of z)) (take_more items i x within))

-- BINDS

binds_put_more : (r : Substitution) (items : List (RustBind.Bind ℕ Ref)) (x y : RustBind.Bind ℕ Ref) (all : List (RustBind.Bind ℕ Ref)) → nbinds_of all ≡ put_in_binds expressions whole_coercions r (nbinds_of items) → nbind_of y ≡ put_in_bind expressions whole_coercions r (nbind_of x) → nbinds_of (all ++ y ∷ []) ≡ put_in_binds expressions whole_coercions r (nbinds_of (items ++ x ∷ []))
binds_put_more r [] x y [] h k = ap (λ z. MoreNBinds z NoNBinds) k
binds_put_more r [] x y (z ∷ all) h k = cc
binds_put_more r (w ∷ items) x y [] h k = cc
binds_put_more r (w ∷ items) x y (z ∷ all) h k =
    let first : nbind_of z ≡ put_in_bind expressions whole_coercions r (nbind_of w) = cc in
    let rest : nbinds_of all ≡ put_in_binds expressions whole_coercions r (nbinds_of items) = cc in
    ap (λ v. MoreNBinds v (nbinds_of (all ++ y ∷ []))) first ∙ ap (λ v. MoreNBinds (put_in_bind expressions whole_coercions r (nbind_of w)) v) (binds_put_more r items x y all rest k)

pub binds_step : (r : Substitution) (items all more : List (RustBind.Bind ℕ Ref)) (i : ℕ) (x y : RustBind.Bind ℕ Ref) → more ≡ all ++ y ∷ [] → nbind_of y ≡ put_in_bind expressions whole_coercions r (nbind_of x) → i < length items → x ≡ get_or items i x
    → nbinds_of all ≡ put_in_binds expressions whole_coercions r (nbinds_of (take i items)) → nbinds_of more ≡ put_in_binds expressions whole_coercions r (nbinds_of (take (i + 1) items))
binds_step r items all more i x y pushed same within is so_far =
    ap nbinds_of pushed ∙ binds_put_more r (take i items) x y all so_far same
    ∙ ap (λ z. put_in_binds expressions whole_coercions r (nbinds_of (take i items ++ z ∷ []))) is ∙ sym (ap (λ z. put_in_binds expressions whole_coercions r (nbinds_of z)) (take_more items i x within))

-- JOINS

joins_put_more : (r : Substitution) (items : List (RustJoin.JoinBind ℕ Ref)) (x y : RustJoin.JoinBind ℕ Ref) (all : List (RustJoin.JoinBind ℕ Ref)) → njoins_of all ≡ put_in_joins expressions whole_coercions r (njoins_of items) → njoin_of y ≡ put_in_join expressions whole_coercions r (njoin_of x) → njoins_of (all ++ y ∷ []) ≡ put_in_joins expressions whole_coercions r (njoins_of (items ++ x ∷ []))
joins_put_more r [] x y [] h k = ap (λ z. MoreNJoins z NoNJoins) k
joins_put_more r [] x y (z ∷ all) h k = cc
joins_put_more r (w ∷ items) x y [] h k = cc
joins_put_more r (w ∷ items) x y (z ∷ all) h k =
    let first : njoin_of z ≡ put_in_join expressions whole_coercions r (njoin_of w) = cc in
    let rest : njoins_of all ≡ put_in_joins expressions whole_coercions r (njoins_of items) = cc in
    ap (λ v. MoreNJoins v (njoins_of (all ++ y ∷ []))) first ∙ ap (λ v. MoreNJoins (put_in_join expressions whole_coercions r (njoin_of w)) v) (joins_put_more r items x y all rest k)

pub joins_step : (r : Substitution) (items all more : List (RustJoin.JoinBind ℕ Ref)) (i : ℕ) (x y : RustJoin.JoinBind ℕ Ref) → more ≡ all ++ y ∷ [] → njoin_of y ≡ put_in_join expressions whole_coercions r (njoin_of x) → i < length items → x ≡ get_or items i x
    → njoins_of all ≡ put_in_joins expressions whole_coercions r (njoins_of (take i items)) → njoins_of more ≡ put_in_joins expressions whole_coercions r (njoins_of (take (i + 1) items))
joins_step r items all more i x y pushed same within is so_far =
    ap njoins_of pushed ∙ joins_put_more r (take i items) x y all so_far same
    ∙ ap (λ z. put_in_joins expressions whole_coercions r (njoins_of (take i items ++ z ∷ []))) is ∙ sym (ap (λ z. put_in_joins expressions whole_coercions r (njoins_of z)) (take_more items i x within))

-- ALTS

alts_put_more : (r : Substitution) (items : List (RustAlt.Alt ℕ Ref)) (x y : RustAlt.Alt ℕ Ref) (all : List (RustAlt.Alt ℕ Ref)) → nalts_of all ≡ put_in_alts expressions whole_coercions r (nalts_of items) → nalt_of y ≡ put_in_alt expressions whole_coercions r (nalt_of x) → nalts_of (all ++ y ∷ []) ≡ put_in_alts expressions whole_coercions r (nalts_of (items ++ x ∷ []))
alts_put_more r [] x y [] h k = ap (λ z. MoreNAlts z NoNAlts) k
alts_put_more r [] x y (z ∷ all) h k = cc
alts_put_more r (w ∷ items) x y [] h k = cc
alts_put_more r (w ∷ items) x y (z ∷ all) h k =
    let first : nalt_of z ≡ put_in_alt expressions whole_coercions r (nalt_of w) = cc in
    let rest : nalts_of all ≡ put_in_alts expressions whole_coercions r (nalts_of items) = cc in
    ap (λ v. MoreNAlts v (nalts_of (all ++ y ∷ []))) first ∙ ap (λ v. MoreNAlts (put_in_alt expressions whole_coercions r (nalt_of w)) v) (alts_put_more r items x y all rest k)

pub alts_step : (r : Substitution) (items all more : List (RustAlt.Alt ℕ Ref)) (i : ℕ) (x y : RustAlt.Alt ℕ Ref) → more ≡ all ++ y ∷ [] → nalt_of y ≡ put_in_alt expressions whole_coercions r (nalt_of x) → i < length items → x ≡ get_or items i x
    → nalts_of all ≡ put_in_alts expressions whole_coercions r (nalts_of (take i items)) → nalts_of more ≡ put_in_alts expressions whole_coercions r (nalts_of (take (i + 1) items))
alts_step r items all more i x y pushed same within is so_far =
    ap nalts_of pushed ∙ alts_put_more r (take i items) x y all so_far same
    ∙ ap (λ z. put_in_alts expressions whole_coercions r (nalts_of (take i items ++ z ∷ []))) is ∙ sym (ap (λ z. put_in_alts expressions whole_coercions r (nalts_of z)) (take_more items i x within))
