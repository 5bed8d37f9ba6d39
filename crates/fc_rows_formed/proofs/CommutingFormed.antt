-- What the commuting rows make of a formed expression is formed.
use Rattle.std.proofs.Common.{false, if◌then◌else◌, Some, IfSome}
use Rattle.fc_model.specs.Calling.{at_type, coercion_asked, constructor, constructor_type, function_ends}
use Rattle.fc_model.specs.Kinding.{Modules}
use Rattle.fc_model.specs.Nameless.{NTy, NExpr, NLocal, NApp, NLet, NCase, NCast, NCon, NATerm, NAType, NACo, NBound, NArgs, NoNArgs, MoreNArgs, NoNBinds, MoreNBinds}
use Rattle.fc_model.specs.Replacing.{below_values, bind_count, coercion_variables, past_a_value, renamed, variables}
use Rattle.fc_rows.specs.Changing.{made}
use Rattle.fc_rows.specs.Commuting.{app_of_let, case_of_let, cast_of_let, first_field, is_value_behind_lets, let_of_let, name_field, with_first_named}
use Rattle.fc_rows.specs.Shrinking.{is_trivial, let_of, moved_args}
use Rattle.fc_rows.specs.Surroundings.{past_values}
use Rattle.fc_formed.specs.FormedTrees.{IsFormedTy, IsFormedExpr, AreFormedArgs}
use Rattle.fc_rows_formed.proofs.Answered.{either, if_from_some, if_made, if_some}
use Rattle.fc_rows_formed.proofs.ChangesFormed.{KeepsFormed}
use Rattle.fc_rows_formed.proofs.DeclarationsFormed.{AreDeclaredFormed, IsConstructorFormed, constructor_formed, constructor_type_formed}
use Rattle.fc_rows_formed.proofs.PutFormed.{alternatives_renamed, argument_renamed, arguments_renamed, expression_renamed}
use Rattle.fc_rows_formed.proofs.ShrinkingFormed.{let_formed}
use Rattle.fc_rows_formed.proofs.TypesFormed.{ArePairFormed, IsBehindFormed, at_type_formed, coercion_asked_formed, function_ends_formed}

-- LETS THAT MOVE OUT

pub app_of_let_formed : KeepsFormed (λ s e. app_of_let e)
app_of_let_formed s g (NApp (NLet r bs b) a) w = (w.0.0, w.0.1, (w.0.2, argument_renamed (past_values (bind_count bs)) (λ i. tt) a w.1))
app_of_let_formed s g e w = tt

pub case_of_let_formed : KeepsFormed (λ s e. case_of_let e)
case_of_let_formed s g (NCase (NLet r bs b) xt rt alts) w =
    let q = below_values variables coercion_variables 1 (past_values (bind_count bs)) in
    (w.0.0, w.0.1, (w.0.2, w.1, w.2, alternatives_renamed q (λ i. tt) alts w.3))
case_of_let_formed s g e w = tt

pub cast_of_let_formed : KeepsFormed (λ s e. cast_of_let e)
cast_of_let_formed s g (NCast (NLet r bs b) c) w = (w.0.0, w.0.1, (w.0.2, w.1))
cast_of_let_formed s g e w = tt

pub let_of_let_formed : KeepsFormed (λ s e. let_of_let e)
let_of_let_formed s g (NLet false (MoreNBinds (NBound t (NLet r bs e)) NoNBinds) b) w =
    let inner = w.1.0.1 in
    let q = below_values variables coercion_variables 1 (past_values (bind_count bs)) in
    let body = let_formed t e (renamed q b) w.1.0.0 inner.2 (expression_renamed q (λ i. tt) b w.2) in
    if_some IsFormedExpr (is_value_behind_lets e) (Some (NLet r bs (let_of t e (renamed q b)))) (inner.0, inner.1, body)
let_of_let_formed s g e w = tt

-- A FIELD THAT GETS A LET

abbrev IsFieldFormed : NTy × NExpr → Type 0
IsFieldFormed e = IsFormedTy e.0 × IsFormedExpr e.1

first_field_formed : (t : NTy) (args : NArgs) → IsFormedTy t → AreFormedArgs args → IfSome (first_field t args) IsFieldFormed
first_field_formed t NoNArgs v w = tt
first_field_formed t (MoreNArgs (NATerm a) rest) v w =
    if_from_some ArePairFormed IsFieldFormed (λ e. if is_trivial a then first_field e.1 rest else Some (e.0, a)) (function_ends t) (function_ends_formed t v)
    (λ e f. either (λ o. IfSome o IsFieldFormed) (is_trivial a) (first_field e.1 rest) (Some (e.0, a)) (first_field_formed e.1 rest f.1 w.1) (f.0, w.0))
first_field_formed t (MoreNArgs (NAType u) rest) v w =
    if_from_some IsFormedTy IsFieldFormed (λ x. first_field x rest) (at_type t u) (at_type_formed t u v w.0) (λ x f. first_field_formed x rest f w.1)
first_field_formed t (MoreNArgs (NACo c) rest) v w =
    if_from_some IsBehindFormed IsFieldFormed (λ p. first_field p.3 rest) (coercion_asked t) (coercion_asked_formed t v) (λ p f. first_field_formed p.3 rest f w.1)

with_first_formed : (args : NArgs) → AreFormedArgs args → AreFormedArgs (with_first_named args)
with_first_formed NoNArgs w = tt
with_first_formed (MoreNArgs (NATerm a) rest) w =
    either AreFormedArgs (is_trivial a) (MoreNArgs (NATerm (renamed past_a_value a)) (with_first_named rest)) (MoreNArgs (NATerm (NLocal 0)) (moved_args past_a_value rest))
    (expression_renamed past_a_value (λ i. tt) a w.0, with_first_formed rest w.1) (tt, arguments_renamed past_a_value (λ i. tt) rest w.1)
with_first_formed (MoreNArgs (NAType u) rest) w = (argument_renamed past_a_value (λ i. tt) (NAType u) w.0, with_first_formed rest w.1)
with_first_formed (MoreNArgs (NACo c) rest) w = (argument_renamed past_a_value (λ i. tt) (NACo c) w.0, with_first_formed rest w.1)

pub name_field_formed : (ms : Modules) → AreDeclaredFormed ms → KeepsFormed (λ s e. name_field ms e)
name_field_formed ms declared s g (NLet false (MoreNBinds (NBound t (NCon n args)) NoNBinds) b) w =
    let body = renamed (below_values variables coercion_variables 1 past_a_value) b in
    let named = NCon n (with_first_named args) in
    let own = w.1.0.1 in
    let inner = let_formed t named body w.1.0.0 (own.0, with_first_formed args own.1) (expression_renamed (below_values variables coercion_variables 1 past_a_value) (λ i. tt) b w.2) in
    if_from_some IsConstructorFormed IsFormedExpr (λ k. made (λ e. let_of e.0 e.1 (let_of t named body)) (first_field (constructor_type n k) args)) (constructor ms n)
    (constructor_formed ms declared n) (λ k f.
    if_made IsFieldFormed IsFormedExpr (λ e. let_of e.0 e.1 (let_of t named body)) (first_field (constructor_type n k) args)
    (first_field_formed (constructor_type n k) args (constructor_type_formed n k own.0 f) own.1) (λ e x. let_formed e.0 e.1 (let_of t named body) x.0 x.1 inner))
name_field_formed ms declared s g e w = tt
