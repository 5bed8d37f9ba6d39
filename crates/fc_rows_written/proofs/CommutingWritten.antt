-- What the commuting rows make of a written expression is written.
use Rattle.std.proofs.Common.{◌≡◌, false, if◌then◌else◌, Some, subst}
use Rattle.fc_model.specs.Calling.{at_type, coercion_asked, constructor, constructor_type, function_ends}
use Rattle.fc_model.specs.Kinding.{Modules}
use Rattle.fc_model.specs.Nameless.{NTy, NExpr, NLocal, NApp, NLet, NCase, NCast, NCon, NATerm, NAType, NACo, NBound, NArgs, NoNArgs, MoreNArgs, NoNBinds, MoreNBinds}
use Rattle.fc_model.specs.Replacing.{below_values, bind_count, coercion_variables, past_a_value, renamed, variables}
use Rattle.fc_model.proofs.CallsKept.{from_some_inv}
use Rattle.fc_rows.specs.Changing.{made}
use Rattle.fc_rows.specs.Commuting.{app_of_let, case_of_let, cast_of_let, first_field, is_value_behind_lets, let_of_let, name_field, with_first_named}
use Rattle.fc_rows.specs.Shrinking.{is_trivial, let_of, moved_args}
use Rattle.fc_rows.specs.Surroundings.{past_values}
use Rattle.fc_row_types.proofs.Made.{either_way, if_some_inv, made_inv, none_some, some_some}
use Rattle.fc_meaning.proofs.WrittenExpressions.{AreArgsWritten, IsWritten}
use Rattle.fc_erased.specs.ErasureLaws.{AnyVariable}
use Rattle.fc_erased.proofs.ErasedReplacements.{kept_variables, written_renamed}
use Rattle.fc_erased.proofs.WrittenPut.{written_alts, written_arg}
use Rattle.fc_rows_written.proofs.ChangesWritten.{KeepsWritten}
use Rattle.fc_rows_written.proofs.ShrinkingWritten.{moved_args_written}
use Rattle.fc_rows_written.proofs.SurroundingsWritten.{either}

-- LETS THAT MOVE OUT

pub app_of_let_written : KeepsWritten (λ s e. app_of_let e)
app_of_let_written s g (NApp (NLet r bs b) a) f h w =
    let moved = written_arg variables coercion_variables AnyVariable kept_variables (past_values (bind_count bs)) (λ i. tt) a w.1 in
    subst IsWritten (some_some h) (w.0.0, w.0.1, (w.0.2, moved))
app_of_let_written s g e f h w = none_some h

pub case_of_let_written : KeepsWritten (λ s e. case_of_let e)
case_of_let_written s g (NCase (NLet r bs b) xt rt alts) f h w =
    let q = below_values variables coercion_variables 1 (past_values (bind_count bs)) in
    subst IsWritten (some_some h) (w.0.0, w.0.1, (w.0.2, written_alts variables coercion_variables AnyVariable kept_variables q (λ i. tt) alts w.1))
case_of_let_written s g e f h w = none_some h

pub cast_of_let_written : KeepsWritten (λ s e. cast_of_let e)
cast_of_let_written s g (NCast (NLet r bs b) c) f h w = subst IsWritten (some_some h) w
cast_of_let_written s g e f h w = none_some h

pub let_of_let_written : KeepsWritten (λ s e. let_of_let e)
let_of_let_written s g (NLet false (MoreNBinds (NBound t (NLet r bs e)) NoNBinds) b) f h w =
    let m = if_some_inv (is_value_behind_lets e) _ f h in
    let inner = w.1.0 in
    let body = written_renamed (below_values variables coercion_variables 1 (past_values (bind_count bs))) b w.2 in
    subst IsWritten (some_some m.1) (inner.0, inner.1, (tt, (inner.2, tt), body))
let_of_let_written s g e f h w = none_some h

-- A FIELD THAT GETS A LET

abbrev Field : Type 0
Field = NTy × NExpr

first_field_written : (t : NTy) (args : NArgs) (e : Field) → first_field t args ≡ Some e → AreArgsWritten args → IsWritten e.1
first_field_written t NoNArgs e h w = none_some h
first_field_written t (MoreNArgs (NATerm a) rest) e h w =
    let p = from_some_inv (λ p. if is_trivial a then first_field p.1 rest else Some (p.0, a)) (function_ends t) e h in
    either_way (λ x. IsWritten x.1) (is_trivial a) _ _ e p.2 (λ q. first_field_written p.0.1 rest e q w.1) (λ q. subst (λ x. IsWritten x.1) (some_some q) w.0)
first_field_written t (MoreNArgs (NAType u) rest) e h w =
    let p = from_some_inv (λ v. first_field v rest) (at_type t u) e h in first_field_written p.0 rest e p.2 w.1
first_field_written t (MoreNArgs (NACo c) rest) e h w =
    let p = from_some_inv (λ p. first_field p.3 rest) (coercion_asked t) e h in first_field_written p.0.3 rest e p.2 w.1

with_first_written : (args : NArgs) → AreArgsWritten args → AreArgsWritten (with_first_named args)
with_first_written NoNArgs w = tt
with_first_written (MoreNArgs (NATerm a) rest) w =
    either AreArgsWritten (is_trivial a) (MoreNArgs (NATerm (renamed past_a_value a)) (with_first_named rest)) (MoreNArgs (NATerm (NLocal 0)) (moved_args past_a_value rest))
    (written_renamed past_a_value a w.0, with_first_written rest w.1) (tt, moved_args_written past_a_value rest w.1)
with_first_written (MoreNArgs (NAType u) rest) w = (tt, with_first_written rest w.1)
with_first_written (MoreNArgs (NACo c) rest) w = (tt, with_first_written rest w.1)

pub name_field_written : (ms : Modules) → KeepsWritten (λ s e. name_field ms e)
name_field_written ms s g (NLet false (MoreNBinds (NBound t (NCon n args)) NoNBinds) b) f h w =
    let body = renamed (below_values variables coercion_variables 1 past_a_value) b in
    let named = with_first_named args in
    let k = from_some_inv (λ k. made (λ e. let_of e.0 e.1 (let_of t (NCon n named) body)) (first_field (constructor_type n k) args)) (constructor ms n) f h in
    let m = made_inv (λ e. let_of e.0 e.1 (let_of t (NCon n named) body)) (first_field (constructor_type n k.0) args) f k.2 in
    let inner = written_renamed (below_values variables coercion_variables 1 past_a_value) b w.2 in
    subst IsWritten m.2 (tt, (first_field_written (constructor_type n k.0) args m.0 m.1 w.1.0, tt), (tt, (with_first_written args w.1.0, tt), inner))
name_field_written ms s g e f h w = none_some h
