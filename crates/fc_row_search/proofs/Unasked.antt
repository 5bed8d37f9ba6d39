-- Where the form of an expression does not let a row apply, the row makes nothing of it.
use Rattle.std.proofs.Common.{◌≡◌, ℕ, Bool, true, false, not, ◌&&◌, ◌||◌, if◌then◌else◌, [], ◌∷◌, Option, Some, None, refl}
use Rattle.fc_syntax.specs.declared.expr.Head.TheVariants as head
use Rattle.fc_log.specs.declared.log.Row.{Row}
use Rattle.fc_log.specs.declared.log.Row.TheVariants as row
use Rattle.fc_model.specs.Calling.{at_type, coercion_asked, constructor, constructor_type, from_some, function_ends}
use Rattle.fc_model.specs.Kinding.{Modules}
use Rattle.fc_model.specs.Nameless.{NTy, NCo, NArg, NArgs, NoNArgs, MoreNArgs, NATerm, NAType, NACo, NBind, NBinds, NoNBinds, MoreNBinds, NBound, NoNJoins, MoreNJoins, NAlts, NoNAlts, MoreNAlts, NBranch}
use Rattle.fc_model.specs.Nameless.{NExpr, NLocal, NVar, NLit, NApp, NLam, NLet, NCase, NCast, NCon, NPrim, NFail, NJoin, NJump}
use Rattle.fc_rows.specs.Changing.{made}
use Rattle.fc_rows.specs.Commuting.{first_field, name_field}
use Rattle.fc_rows.specs.Shrinking.{are_trivial, beta, case_evaluated, case_known, case_of_known, cast_refl, fail_absorb, is_con, is_trivial, known}
use Rattle.fc_rows.specs.Surroundings.{Known, Unknown, Is, IsNot, Surroundings}
use Rattle.fc_forms.specs.Forms.{construction_parts, default_body}
use Rattle.fc_row_at_place.specs.Rows.{built_row, join_once_within}
use Rattle.fc_row_search.specs.Tests.{has_fields, is_applied_lambda, is_around_failure, is_case_of_default, is_case_of_known, is_cast, is_failure, is_known, is_lambda, is_let_with_fields, is_literal, is_single_join, is_some_body, may_apply}

-- what is false is not true
abbrev untrue : {P : Type 0} → true ≡ false → P
untrue h = absurd cc

from_none : {X Y : Type 0} (f : X → Option Y) (o : Option X) → ((x : X) → f x ≡ None) → from_some f o ≡ None
from_none f None none = refl
from_none f (Some x) none = none x

none_made : {X Y : Type 0} (f : X → Y) (o : Option X) → o ≡ None → made f o ≡ None
none_made f None none = refl
none_made f (Some x) none = cc

-- LAMBDAS AND FAILURES

no_lambda : (ms : Modules) (s : Surroundings) (f : NExpr) (a : NArg) → is_lambda f ≡ false → beta ms s (NApp f a) ≡ None
no_lambda ms s (NLocal v) a h = refl
no_lambda ms s (NVar n) a h = refl
no_lambda ms s (NLit n) a h = refl
no_lambda ms s (NApp f b) a h = refl
no_lambda ms s (NLam b e) a h = untrue h
no_lambda ms s (NLet r bs e) a h = refl
no_lambda ms s (NCase e t u alts) a h = refl
no_lambda ms s (NCast e g) a h = refl
no_lambda ms s (NCon n args) a h = refl
no_lambda ms s (NPrim op es) a h = refl
no_lambda ms s (NFail t) a h = refl
no_lambda ms s (NJoin r t js e) a h = refl
no_lambda ms s (NJump j args) a h = refl

beta_none : (ms : Modules) (s : Surroundings) (e : NExpr) → is_applied_lambda e ≡ false → beta ms s e ≡ None
beta_none ms s (NLocal v) h = refl
beta_none ms s (NVar n) h = refl
beta_none ms s (NLit n) h = refl
beta_none ms s (NApp f a) h = no_lambda ms s f a h
beta_none ms s (NLam b e) h = refl
beta_none ms s (NLet r bs e) h = refl
beta_none ms s (NCase e t u alts) h = refl
beta_none ms s (NCast e g) h = refl
beta_none ms s (NCon n args) h = refl
beta_none ms s (NPrim op es) h = refl
beta_none ms s (NFail t) h = refl
beta_none ms s (NJoin r t js e) h = refl
beta_none ms s (NJump j args) h = refl

-- a failure that is not there
record AbsorbsNone (ms : Modules) (s : Surroundings) (f : NExpr) : Type 0 where
  applied : (a : NArg) → fail_absorb ms s (NApp f a) ≡ None
  looked_at : (t u : NTy) (alts : NAlts) → fail_absorb ms s (NCase f t u alts) ≡ None
  cast : (g : NCo) → fail_absorb ms s (NCast f g) ≡ None

no_failure : (ms : Modules) (s : Surroundings) (f : NExpr) → is_failure f ≡ false → AbsorbsNone ms s f
no_failure ms s (NLocal v) h = record { applied = λ a. refl; looked_at = λ t u alts. refl; cast = λ g. refl }
no_failure ms s (NVar n) h = record { applied = λ a. refl; looked_at = λ t u alts. refl; cast = λ g. refl }
no_failure ms s (NLit n) h = record { applied = λ a. refl; looked_at = λ t u alts. refl; cast = λ g. refl }
no_failure ms s (NApp f a) h = record { applied = λ a. refl; looked_at = λ t u alts. refl; cast = λ g. refl }
no_failure ms s (NLam b e) h = record { applied = λ a. refl; looked_at = λ t u alts. refl; cast = λ g. refl }
no_failure ms s (NLet r bs e) h = record { applied = λ a. refl; looked_at = λ t u alts. refl; cast = λ g. refl }
no_failure ms s (NCase e t u alts) h = record { applied = λ a. refl; looked_at = λ t u alts. refl; cast = λ g. refl }
no_failure ms s (NCast e g) h = record { applied = λ a. refl; looked_at = λ t u alts. refl; cast = λ g. refl }
no_failure ms s (NCon n args) h = record { applied = λ a. refl; looked_at = λ t u alts. refl; cast = λ g. refl }
no_failure ms s (NPrim op es) h = record { applied = λ a. refl; looked_at = λ t u alts. refl; cast = λ g. refl }
no_failure ms s (NFail t) h = untrue h
no_failure ms s (NJoin r t js e) h = record { applied = λ a. refl; looked_at = λ t u alts. refl; cast = λ g. refl }
no_failure ms s (NJump j args) h = record { applied = λ a. refl; looked_at = λ t u alts. refl; cast = λ g. refl }

fail_absorb_none : (ms : Modules) (s : Surroundings) (e : NExpr) → is_around_failure e ≡ false → fail_absorb ms s e ≡ None
fail_absorb_none ms s (NLocal v) h = refl
fail_absorb_none ms s (NVar n) h = refl
fail_absorb_none ms s (NLit n) h = refl
fail_absorb_none ms s (NApp f a) h = (no_failure ms s f h).applied a
fail_absorb_none ms s (NLam b e) h = refl
fail_absorb_none ms s (NLet r bs e) h = refl
fail_absorb_none ms s (NCase e t u alts) h = (no_failure ms s e h).looked_at t u alts
fail_absorb_none ms s (NCast e g) h = (no_failure ms s e h).cast g
fail_absorb_none ms s (NCon n args) h = refl
fail_absorb_none ms s (NPrim op es) h = refl
fail_absorb_none ms s (NFail t) h = refl
fail_absorb_none ms s (NJoin r t js e) h = refl
fail_absorb_none ms s (NJump j args) h = refl

-- CASTS AND LETS

cast_refl_none : (ms : Modules) (s : Surroundings) (e : NExpr) → is_cast e ≡ false → cast_refl ms s e ≡ None
cast_refl_none ms s (NLocal v) h = refl
cast_refl_none ms s (NVar n) h = refl
cast_refl_none ms s (NLit n) h = refl
cast_refl_none ms s (NApp f a) h = refl
cast_refl_none ms s (NLam b e) h = refl
cast_refl_none ms s (NLet r bs e) h = refl
cast_refl_none ms s (NCase e t u alts) h = refl
cast_refl_none ms s (NCast e g) h = untrue h
cast_refl_none ms s (NCon n args) h = refl
cast_refl_none ms s (NPrim op es) h = refl
cast_refl_none ms s (NFail t) h = refl
cast_refl_none ms s (NJoin r t js e) h = refl
cast_refl_none ms s (NJump j args) h = refl

both_true : (a b : Bool) → (a && b) ≡ true → (a ≡ true) × (b ≡ true)
both_true true b h = (refl, h)
both_true false b h = absurd cc

-- no field is left where all are trivial
no_field : (t : NTy) (args : NArgs) → are_trivial args ≡ true → first_field t args ≡ None
no_field t NoNArgs h = refl
no_field t (MoreNArgs (NATerm a) rest) h =
    let both = both_true (is_trivial a) (are_trivial rest) h in
    from_none _ (function_ends t) (λ e. rw both.0 (no_field e.1 rest both.1))
no_field t (MoreNArgs (NAType u) rest) h = from_none _ (at_type t u) (λ v. no_field v rest h)
no_field t (MoreNArgs (NACo g) rest) h = from_none _ (coercion_asked t) (λ p. no_field p.3 rest h)

not_false : (b : Bool) → not b ≡ false → b ≡ true
not_false true h = refl
not_false false h = absurd cc

none_named : (ms : Modules) (t : NTy) (x b : NExpr) → has_fields (construction_parts x) ≡ false → name_field ms (NLet false (MoreNBinds (NBound t x) NoNBinds) b) ≡ None
none_named ms t (NLocal v) b h = refl
none_named ms t (NVar n) b h = refl
none_named ms t (NLit n) b h = refl
none_named ms t (NApp f a) b h = refl
none_named ms t (NLam c e) b h = refl
none_named ms t (NLet r bs e) b h = refl
none_named ms t (NCase e v u alts) b h = refl
none_named ms t (NCast e g) b h = refl
none_named ms t (NCon n args) b h = from_none _ (constructor ms n) (λ k. none_made _ _ (no_field (constructor_type n k) args (not_false (are_trivial args) h)))
none_named ms t (NPrim op es) b h = refl
none_named ms t (NFail v) b h = refl
none_named ms t (NJoin r v js e) b h = refl
none_named ms t (NJump j args) b h = refl

-- a let of more than one binding
more_named : (ms : Modules) (t : NTy) (x : NExpr) (c : NBind) (rest : NBinds) (e : NExpr) → name_field ms (NLet false (MoreNBinds (NBound t x) (MoreNBinds c rest)) e) ≡ None
more_named ms t (NLocal v) c rest e = refl
more_named ms t (NVar n) c rest e = refl
more_named ms t (NLit n) c rest e = refl
more_named ms t (NApp f a) c rest e = refl
more_named ms t (NLam b2 f) c rest e = refl
more_named ms t (NLet r bs f) c rest e = refl
more_named ms t (NCase f v u alts) c rest e = refl
more_named ms t (NCast f g) c rest e = refl
more_named ms t (NCon n args) c rest e = refl
more_named ms t (NPrim op es) c rest e = refl
more_named ms t (NFail v) c rest e = refl
more_named ms t (NJoin r v js f) c rest e = refl
more_named ms t (NJump j args) c rest e = refl

name_field_none : (ms : Modules) (e : NExpr) → is_let_with_fields e ≡ false → name_field ms e ≡ None
name_field_none ms (NLocal v) h = refl
name_field_none ms (NVar n) h = refl
name_field_none ms (NLit n) h = refl
name_field_none ms (NApp f a) h = refl
name_field_none ms (NLam b e) h = refl
name_field_none ms (NLet true bs e) h = refl
name_field_none ms (NLet false NoNBinds e) h = refl
name_field_none ms (NLet false (MoreNBinds (NBound t x) NoNBinds) e) h = none_named ms t x e h
name_field_none ms (NLet false (MoreNBinds (NBound t x) (MoreNBinds c rest)) e) h = more_named ms t x c rest e
name_field_none ms (NCase e t u alts) h = refl
name_field_none ms (NCast e g) h = refl
name_field_none ms (NCon n args) h = refl
name_field_none ms (NPrim op es) h = refl
name_field_none ms (NFail t) h = refl
name_field_none ms (NJoin r t js e) h = refl
name_field_none ms (NJump j args) h = refl

-- CASES

none_known : (ms : Modules) (y : NExpr) (k : Known) (alts : NAlts) → is_known k ≡ false → case_of_known ms y k alts ≡ None
none_known ms y Unknown alts h = refl
none_known ms y (Is e) alts h = untrue h
none_known ms y (IsNot hs) alts h = refl

-- a case of what is neither made nor known
none_looked_at : (ms : Modules) (s : Surroundings) (x : NExpr) (t u : NTy) (alts : NAlts) → (is_con x || (is_literal x || is_known (known s x))) ≡ false → case_known ms s (NCase x t u alts) ≡ None
none_looked_at ms s (NLocal v) t u alts h = none_known ms (NLocal v) (s.locals v) alts h
none_looked_at ms s (NVar n) t u alts h = none_known ms (NVar n) (s.names n) alts h
none_looked_at ms s (NLit n) t u alts h = untrue h
none_looked_at ms s (NApp f a) t u alts h = refl
none_looked_at ms s (NLam b e) t u alts h = refl
none_looked_at ms s (NLet r bs e) t u alts h = refl
none_looked_at ms s (NCase e v w others) t u alts h = refl
none_looked_at ms s (NCast e g) t u alts h = refl
none_looked_at ms s (NCon n args) t u alts h = untrue h
none_looked_at ms s (NPrim op es) t u alts h = refl
none_looked_at ms s (NFail v) t u alts h = refl
none_looked_at ms s (NJoin r v js e) t u alts h = refl
none_looked_at ms s (NJump j args) t u alts h = refl

case_known_none : (ms : Modules) (s : Surroundings) (e : NExpr) → is_case_of_known s e ≡ false → case_known ms s e ≡ None
case_known_none ms s (NLocal v) h = refl
case_known_none ms s (NVar n) h = refl
case_known_none ms s (NLit n) h = refl
case_known_none ms s (NApp f a) h = refl
case_known_none ms s (NLam b e) h = refl
case_known_none ms s (NLet r bs e) h = refl
case_known_none ms s (NCase e t u alts) h = none_looked_at ms s e t u alts h
case_known_none ms s (NCast e g) h = refl
case_known_none ms s (NCon n args) h = refl
case_known_none ms s (NPrim op es) h = refl
case_known_none ms s (NFail t) h = refl
case_known_none ms s (NJoin r t js e) h = refl
case_known_none ms s (NJump j args) h = refl

within_none : (b : Bool) (o : Option NExpr) → o ≡ None → (if b then o else None) ≡ None
within_none true o h = h
within_none false o h = refl

no_default : (ms : Modules) (s : Surroundings) (x : NExpr) (t u : NTy) (alts : NAlts) → is_some_body (default_body alts) ≡ false → case_evaluated ms s (NCase x t u alts) ≡ None
no_default ms s x t u NoNAlts h = refl
no_default ms s x t u (MoreNAlts (NBranch head.Default [] b) NoNAlts) h = untrue h
no_default ms s x t u (MoreNAlts (NBranch head.Default [] b) (MoreNAlts a rest)) h = refl
no_default ms s x t u (MoreNAlts (NBranch head.Default (c ∷ bs) b) rest) h = refl
no_default ms s x t u (MoreNAlts (NBranch (head.Lit n) bs b) rest) h = refl
no_default ms s x t u (MoreNAlts (NBranch (head.Con n) bs b) rest) h = refl

case_evaluated_none : (ms : Modules) (s : Surroundings) (e : NExpr) → is_case_of_default e ≡ false → case_evaluated ms s e ≡ None
case_evaluated_none ms s (NLocal v) h = refl
case_evaluated_none ms s (NVar n) h = refl
case_evaluated_none ms s (NLit n) h = refl
case_evaluated_none ms s (NApp f a) h = refl
case_evaluated_none ms s (NLam b e) h = refl
case_evaluated_none ms s (NLet r bs e) h = refl
case_evaluated_none ms s (NCase e t u alts) h = no_default ms s e t u alts h
case_evaluated_none ms s (NCast e g) h = refl
case_evaluated_none ms s (NCon n args) h = refl
case_evaluated_none ms s (NPrim op es) h = refl
case_evaluated_none ms s (NFail t) h = refl
case_evaluated_none ms s (NJoin r t js e) h = refl
case_evaluated_none ms s (NJump j args) h = refl

-- JOINS

join_once_none : (s : Surroundings) (e : NExpr) → is_single_join e ≡ false → join_once_within s e ≡ None
join_once_none s (NLocal v) h = refl
join_once_none s (NVar n) h = refl
join_once_none s (NLit n) h = refl
join_once_none s (NApp f a) h = refl
join_once_none s (NLam b e) h = refl
join_once_none s (NLet r bs e) h = refl
join_once_none s (NCase e t u alts) h = refl
join_once_none s (NCast e g) h = refl
join_once_none s (NCon n args) h = refl
join_once_none s (NPrim op es) h = refl
join_once_none s (NFail t) h = refl
join_once_none s (NJoin true t js e) h = refl
join_once_none s (NJoin false t NoNJoins e) h = refl
join_once_none s (NJoin false t (MoreNJoins j NoNJoins) e) h = untrue h
join_once_none s (NJoin false t (MoreNJoins j (MoreNJoins k rest)) e) h = refl
join_once_none s (NJump j args) h = refl

-- ANY ROW

pub none_there : (ms : Modules) (r : Row) (i : ℕ) (s : Surroundings) (e : NExpr) → may_apply r s e ≡ false → built_row ms r i s e ≡ None
none_there ms row.Beta i s e h = beta_none ms s e h
none_there ms row.LetDead i s e h = untrue h
none_there ms row.LetAtom i s e h = untrue h
none_there ms row.LetOnce i s e h = untrue h
none_there ms row.CaseKnown i s e h = within_none _ (case_known ms s e) (case_known_none ms s e h)
none_there ms row.CaseEvaluated i s e h = case_evaluated_none ms s e h
none_there ms row.CaseMerge i s e h = untrue h
none_there ms row.AltDead i s e h = untrue h
none_there ms row.FailAbsorb i s e h = fail_absorb_none ms s e h
none_there ms row.CastRefl i s e h = cast_refl_none ms s e h
none_there ms row.CastCast i s e h = untrue h
none_there ms row.PushArgument i s e h = untrue h
none_there ms row.PushType i s e h = untrue h
none_there ms row.PushConstructor i s e h = untrue h
none_there ms row.CoercionShorter i s e h = untrue h
none_there ms row.Fold i s e h = untrue h
none_there ms row.JoinDead i s e h = untrue h
none_there ms row.JoinOnce i s e h = join_once_none s e h
none_there ms row.DefDead i s e h = untrue h
none_there ms row.AppOfLet i s e h = untrue h
none_there ms row.CaseOfLet i s e h = untrue h
none_there ms row.LetOfLet i s e h = untrue h
none_there ms row.CastOfLet i s e h = untrue h
none_there ms row.NameField i s e h = name_field_none ms e h
none_there ms row.Unfold i s e h = untrue h
none_there ms row.AppOfCase i s e h = untrue h
none_there ms row.CaseOfCase i s e h = untrue h
none_there ms row.AltJoin i s e h = untrue h
none_there ms row.Contify i s e h = untrue h
none_there ms row.Split i s e h = untrue h
none_there ms row.Special i s e h = untrue h
none_there ms row.FloatOut i s e h = untrue h
none_there ms row.FloatIn i s e h = untrue h
none_there ms row.StrictLet i s e h = untrue h
