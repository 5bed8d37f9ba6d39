-- The words of the binders of a list, with one item more.
use Rattle.std.proofs.Common.{◌≡◌, ℕ, ◌+◌, ◌<◌, ◌++◌, List, [], ◌∷◌, flat_map, take, length, get_or, sym, ap, ◌∙◌, append_assoc}
use Rattle.std.proofs.lemmas.List.{append-nil}
use Rattle.fc_syntax.specs.GenericTree.{Word}
use Rattle.fc_syntax.specs.View.{expr_of, exprs_of, arg_of, args_of, bind_of, binds_of, join_of, joins_of, alt_of, alts_of, con_of, cons_of, decl_of, decls_of}
use Rattle.fc_syntax.specs.Hints.{expr_hints, exprs_hints, arg_hints, args_hints, bind_hints, binds_hints, join_hints, joins_hints, alt_hints, alts_hints, con_hints, decl_hints, decls_hints}
use Rattle.fc_syntax.specs.declared.expr.Expr as E
use Rattle.fc_syntax.specs.declared.expr.Arg as A
use Rattle.fc_syntax.specs.declared.expr.Bind as RustBind
use Rattle.fc_syntax.specs.declared.expr.JoinBind as RustJoin
use Rattle.fc_syntax.specs.declared.expr.Alt as RustAlt
use Rattle.fc_syntax.specs.declared.module.ConDecl as RustCon
use Rattle.fc_syntax.specs.declared.module.Decl as RustDecl
use Rattle.fc_syntax.specs.declared.ty.Name.{Name}
use Rattle.fc_syntax.specs.declared.ty.Ref.{Ref}
use Rattle.fc_resolve_parts.proofs.WordSteps.{step}

-- EXPRS

exprs_go : {L V : Type 0} (xs : List (E.Expr L V)) (x : E.Expr L V) → exprs_hints (exprs_of (xs ++ x ∷ [])) ≡ exprs_hints (exprs_of xs) ++ expr_hints (expr_of x)
exprs_go [] x = append-nil (expr_hints (expr_of x))
exprs_go (y ∷ xs) x =
    ap (λ ws. expr_hints (expr_of y) ++ ws) (exprs_go xs x)
    ∙ sym (append_assoc (expr_hints (expr_of y)) (exprs_hints (exprs_of xs)) (expr_hints (expr_of x)))

pub exprs_keep : (items : List (E.Expr Word Name)) (all more : List (E.Expr ℕ Ref)) (i : ℕ) (x : E.Expr Word Name) (y : E.Expr ℕ Ref) → more ≡ all ++ y ∷ [] → expr_hints (expr_of y) ≡ expr_hints (expr_of x)
    → i < length items → x ≡ get_or items i x → exprs_hints (exprs_of all) ≡ exprs_hints (exprs_of (take i items)) → exprs_hints (exprs_of more) ≡ exprs_hints (exprs_of (take (i + 1) items))
exprs_keep items all more i x y pushed same within is so_far =
    step (λ xs. exprs_hints (exprs_of xs)) (λ z. expr_hints (expr_of z)) (λ xs. exprs_hints (exprs_of xs)) (λ z. expr_hints (expr_of z)) exprs_go exprs_go items all more i x y pushed same within is so_far

-- ARGS

args_go : {L V : Type 0} (xs : List (A.Arg L V)) (x : A.Arg L V) → args_hints (args_of (xs ++ x ∷ [])) ≡ args_hints (args_of xs) ++ arg_hints (arg_of x)
args_go [] x = append-nil (arg_hints (arg_of x))
args_go (y ∷ xs) x =
    ap (λ ws. arg_hints (arg_of y) ++ ws) (args_go xs x)
    ∙ sym (append_assoc (arg_hints (arg_of y)) (args_hints (args_of xs)) (arg_hints (arg_of x)))

pub args_keep : (items : List (A.Arg Word Name)) (all more : List (A.Arg ℕ Ref)) (i : ℕ) (x : A.Arg Word Name) (y : A.Arg ℕ Ref) → more ≡ all ++ y ∷ [] → arg_hints (arg_of y) ≡ arg_hints (arg_of x)
    → i < length items → x ≡ get_or items i x → args_hints (args_of all) ≡ args_hints (args_of (take i items)) → args_hints (args_of more) ≡ args_hints (args_of (take (i + 1) items))
args_keep items all more i x y pushed same within is so_far =
    step (λ xs. args_hints (args_of xs)) (λ z. arg_hints (arg_of z)) (λ xs. args_hints (args_of xs)) (λ z. arg_hints (arg_of z)) args_go args_go items all more i x y pushed same within is so_far

-- BINDS

binds_go : {L V : Type 0} (xs : List (RustBind.Bind L V)) (x : RustBind.Bind L V) → binds_hints (binds_of (xs ++ x ∷ [])) ≡ binds_hints (binds_of xs) ++ bind_hints (bind_of x)
binds_go [] x = append-nil (bind_hints (bind_of x))
binds_go (y ∷ xs) x =
    ap (λ ws. bind_hints (bind_of y) ++ ws) (binds_go xs x)
    ∙ sym (append_assoc (bind_hints (bind_of y)) (binds_hints (binds_of xs)) (bind_hints (bind_of x)))

pub binds_keep : (items : List (RustBind.Bind Word Name)) (all more : List (RustBind.Bind ℕ Ref)) (i : ℕ) (x : RustBind.Bind Word Name) (y : RustBind.Bind ℕ Ref) → more ≡ all ++ y ∷ [] → bind_hints (bind_of y) ≡ bind_hints (bind_of x)
    → i < length items → x ≡ get_or items i x → binds_hints (binds_of all) ≡ binds_hints (binds_of (take i items)) → binds_hints (binds_of more) ≡ binds_hints (binds_of (take (i + 1) items))
binds_keep items all more i x y pushed same within is so_far =
    step (λ xs. binds_hints (binds_of xs)) (λ z. bind_hints (bind_of z)) (λ xs. binds_hints (binds_of xs)) (λ z. bind_hints (bind_of z)) binds_go binds_go items all more i x y pushed same within is so_far

-- JOINS

joins_go : {L V : Type 0} (xs : List (RustJoin.JoinBind L V)) (x : RustJoin.JoinBind L V) → joins_hints (joins_of (xs ++ x ∷ [])) ≡ joins_hints (joins_of xs) ++ join_hints (join_of x)
joins_go [] x = append-nil (join_hints (join_of x))
joins_go (y ∷ xs) x =
    ap (λ ws. join_hints (join_of y) ++ ws) (joins_go xs x)
    ∙ sym (append_assoc (join_hints (join_of y)) (joins_hints (joins_of xs)) (join_hints (join_of x)))

pub joins_keep : (items : List (RustJoin.JoinBind Word Name)) (all more : List (RustJoin.JoinBind ℕ Ref)) (i : ℕ) (x : RustJoin.JoinBind Word Name) (y : RustJoin.JoinBind ℕ Ref) → more ≡ all ++ y ∷ [] → join_hints (join_of y) ≡ join_hints (join_of x)
    → i < length items → x ≡ get_or items i x → joins_hints (joins_of all) ≡ joins_hints (joins_of (take i items)) → joins_hints (joins_of more) ≡ joins_hints (joins_of (take (i + 1) items))
joins_keep items all more i x y pushed same within is so_far =
    step (λ xs. joins_hints (joins_of xs)) (λ z. join_hints (join_of z)) (λ xs. joins_hints (joins_of xs)) (λ z. join_hints (join_of z)) joins_go joins_go items all more i x y pushed same within is so_far

-- ALTS

alts_go : {L V : Type 0} (xs : List (RustAlt.Alt L V)) (x : RustAlt.Alt L V) → alts_hints (alts_of (xs ++ x ∷ [])) ≡ alts_hints (alts_of xs) ++ alt_hints (alt_of x)
alts_go [] x = append-nil (alt_hints (alt_of x))
alts_go (y ∷ xs) x =
    ap (λ ws. alt_hints (alt_of y) ++ ws) (alts_go xs x)
    ∙ sym (append_assoc (alt_hints (alt_of y)) (alts_hints (alts_of xs)) (alt_hints (alt_of x)))

pub alts_keep : (items : List (RustAlt.Alt Word Name)) (all more : List (RustAlt.Alt ℕ Ref)) (i : ℕ) (x : RustAlt.Alt Word Name) (y : RustAlt.Alt ℕ Ref) → more ≡ all ++ y ∷ [] → alt_hints (alt_of y) ≡ alt_hints (alt_of x)
    → i < length items → x ≡ get_or items i x → alts_hints (alts_of all) ≡ alts_hints (alts_of (take i items)) → alts_hints (alts_of more) ≡ alts_hints (alts_of (take (i + 1) items))
alts_keep items all more i x y pushed same within is so_far =
    step (λ xs. alts_hints (alts_of xs)) (λ z. alt_hints (alt_of z)) (λ xs. alts_hints (alts_of xs)) (λ z. alt_hints (alt_of z)) alts_go alts_go items all more i x y pushed same within is so_far

-- CONS

cons_go : {L : Type 0} (xs : List (RustCon.ConDecl L)) (x : RustCon.ConDecl L) → flat_map con_hints (cons_of (xs ++ x ∷ [])) ≡ flat_map con_hints (cons_of xs) ++ con_hints (con_of x)
cons_go [] x = append-nil (con_hints (con_of x))
cons_go (y ∷ xs) x =
    ap (λ ws. con_hints (con_of y) ++ ws) (cons_go xs x)
    ∙ sym (append_assoc (con_hints (con_of y)) (flat_map con_hints (cons_of xs)) (con_hints (con_of x)))

pub cons_keep : (items : List (RustCon.ConDecl Word)) (all more : List (RustCon.ConDecl ℕ)) (i : ℕ) (x : RustCon.ConDecl Word) (y : RustCon.ConDecl ℕ) → more ≡ all ++ y ∷ [] → con_hints (con_of y) ≡ con_hints (con_of x)
    → i < length items → x ≡ get_or items i x → flat_map con_hints (cons_of all) ≡ flat_map con_hints (cons_of (take i items)) → flat_map con_hints (cons_of more) ≡ flat_map con_hints (cons_of (take (i + 1) items))
cons_keep items all more i x y pushed same within is so_far =
    step (λ xs. flat_map con_hints (cons_of xs)) (λ z. con_hints (con_of z)) (λ xs. flat_map con_hints (cons_of xs)) (λ z. con_hints (con_of z)) cons_go cons_go items all more i x y pushed same within is so_far

-- DECLS

decls_go : {L V : Type 0} (xs : List (RustDecl.Decl L V)) (x : RustDecl.Decl L V) → decls_hints (decls_of (xs ++ x ∷ [])) ≡ decls_hints (decls_of xs) ++ decl_hints (decl_of x)
decls_go [] x = append-nil (decl_hints (decl_of x))
decls_go (y ∷ xs) x =
    ap (λ ws. decl_hints (decl_of y) ++ ws) (decls_go xs x)
    ∙ sym (append_assoc (decl_hints (decl_of y)) (decls_hints (decls_of xs)) (decl_hints (decl_of x)))

pub decls_keep : (items : List (RustDecl.Decl Word Name)) (all more : List (RustDecl.Decl ℕ Ref)) (i : ℕ) (x : RustDecl.Decl Word Name) (y : RustDecl.Decl ℕ Ref) → more ≡ all ++ y ∷ [] → decl_hints (decl_of y) ≡ decl_hints (decl_of x)
    → i < length items → x ≡ get_or items i x → decls_hints (decls_of all) ≡ decls_hints (decls_of (take i items)) → decls_hints (decls_of more) ≡ decls_hints (decls_of (take (i + 1) items))
decls_keep items all more i x y pushed same within is so_far =
    step (λ xs. decls_hints (decls_of xs)) (λ z. decl_hints (decl_of z)) (λ xs. decls_hints (decls_of xs)) (λ z. decl_hints (decl_of z)) decls_go decls_go items all more i x y pushed same within is so_far

pub ruleset word_rules = (exprs_keep, args_keep, binds_keep, joins_keep, alts_keep, cons_keep, decls_keep)
