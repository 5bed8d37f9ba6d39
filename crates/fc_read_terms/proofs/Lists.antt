-- Lists of trees, as the grammar gives them and as they are seen.
use Rattle.std.proofs.Common.{◌≡◌, suc, List, [], ◌∷◌, ◌++◌, Option, Some, None, length, map, refl, ap}
use Rattle.fc_syntax.specs.declared.ty.Name.{Name}
use Rattle.fc_syntax.specs.declared.keyword.Keyword.TheVariants as word
use Rattle.fc_model.specs.Words.{Tok, Key}
use Rattle.fc_model.specs.Reading.{Outcome, Stuck, read_steps}
use Rattle.fc_read_parts.specs.Reading.{first_tok}
use Rattle.fc_read_parts.proofs.Rows.{associates}
use Rattle.fc_syntax.specs.Tree.{Word, Arg, ATerm, Expr, ELam, MoreArgs, MoreExprs, MoreBinds, MoreJoins, MoreAlts}
use Rattle.fc_syntax.specs.View.{arg_of, args_of, expr_of, exprs_of, bind_of, binds_of, join_of, joins_of, alt_of, alts_of, binder_of, binders_of}
use Rattle.fc_syntax.specs.declared.expr.Arg as A
use Rattle.fc_syntax.specs.declared.expr.Expr as E
use Rattle.fc_syntax.specs.declared.expr.Bind as B
use Rattle.fc_syntax.specs.declared.expr.JoinBind as J
use Rattle.fc_syntax.specs.declared.expr.Alt as C
use Rattle.fc_syntax.specs.declared.expr.Binder as D
use Rattle.fc_model.specs.Grammar.{args_from, exprs_from, binds_from, joins_from, alts_from, lambdas, AnArgumentForm, AnExpressionForm, Part, Given, Steps, gives, ◌▸◌, and_then, row_then, expression_form_row}

pub args_are : (xs : List (A.Arg Word Name)) → args_from (map arg_of xs) ≡ args_of xs
args_are [] = refl
args_are (x ∷ xs) = ap (MoreArgs (arg_of x)) (args_are xs)

pub exprs_are : (xs : List (E.Expr Word Name)) → exprs_from (map expr_of xs) ≡ exprs_of xs
exprs_are [] = refl
exprs_are (x ∷ xs) = ap (MoreExprs (expr_of x)) (exprs_are xs)

pub binds_are : (xs : List (B.Bind Word Name)) → binds_from (map bind_of xs) ≡ binds_of xs
binds_are [] = refl
binds_are (x ∷ xs) = ap (MoreBinds (bind_of x)) (binds_are xs)

pub joins_are : (xs : List (J.JoinBind Word Name)) → joins_from (map join_of xs) ≡ joins_of xs
joins_are [] = refl
joins_are (x ∷ xs) = ap (MoreJoins (join_of x)) (joins_are xs)

pub alts_are : (xs : List (C.Alt Word Name)) → alts_from (map alt_of xs) ≡ alts_of xs
alts_are [] = refl
alts_are (x ∷ xs) = ap (MoreAlts (alt_of x)) (alts_are xs)

-- an argument that is neither a type nor a coercion is an expression
by_term : (q : Part) (f : Arg → Steps (Given q)) (ts : List Tok) (o : Option (Steps Expr))
    → elim (row_then o (λ e. gives (ATerm e))) as (λ _. Outcome (Given q)) [ None ↦ Stuck (suc (length ts)) | Some st ↦ read_steps ts (and_then st f) ]
    ≡ elim o as (λ _. Outcome (Given q)) [ None ↦ Stuck (suc (length ts)) | Some st ↦ read_steps ts (and_then st (λ e. f (ATerm e))) ]
by_term q f ts None = refl
by_term q f ts (Some st) = ap (read_steps ts) (associates st (λ e. gives (ATerm e)) f)

pub argument_is_expression : (ts : List Tok) → (first_tok ts ≡ Some (Key word.Type) → ⊥) → (first_tok ts ≡ Some (Key word.Co) → ⊥) → (q : Part) (f : Arg → Steps (Given q))
    → read_steps ts (AnArgumentForm ▸ f) ≡ read_steps ts (AnExpressionForm ▸ λ e. f (ATerm e))
argument_is_expression [] n m q f = refl
argument_is_expression (Key word.Type ∷ ts) n m q f = absurd (n refl)
argument_is_expression (Key word.Co ∷ ts) n m q f = absurd (m refl)
argument_is_expression (t ∷ ts) n m q f = by_term q f ts (expression_form_row t)

pub lambdas_last : (bs : List (D.Binder Word)) (b : D.Binder Word) (e : Expr) → lambdas (binders_of (bs ++ b ∷ [])) e ≡ lambdas (binders_of bs) (ELam (binder_of b) e)
lambdas_last [] b e = refl
lambdas_last (c ∷ bs) b e = ap (ELam (binder_of c)) (lambdas_last bs b e)
