-- What the shrinking rows make of a written expression is written.
use Rattle.std.proofs.Common.{◌≡◌, ℕ, zero, suc, false, not, ◌&&◌, List, [], ◌∷◌, Option, Some, None, Result, Ok, Err, subst}
use Rattle.std.specs.List.{list_any}
use Rattle.fc_syntax.specs.declared.expr.Head.{Head}
use Rattle.fc_syntax.specs.declared.expr.Head.TheVariants as head
use Rattle.fc_syntax.specs.declared.ty.Name.{Name}
use Rattle.fc_model.specs.Calling.{Constructor, at_type, coercion_asked, constructor, constructor_type, first_of, from_some, function_ends, is_unlifted}
use Rattle.fc_model.specs.Coercing.{Ends, ends_or_fault}
use Rattle.fc_model.specs.Faulting.{F, at_distance}
use Rattle.fc_model.specs.Kinding.{Modules, same_type}
use Rattle.fc_model.specs.Nameless.{NTy, NBinder, NBValue, NBType, NBCo, NParam, NATerm, NAType, NACo, NBound, NBranch, NExpr, NLocal, NVar, NLit, NApp, NLam, NLet, NCase, NCast, NCon}
use Rattle.fc_model.specs.Nameless.{NFail, NJoin, NJump, NArgs, NoNArgs, MoreNArgs, NoNBinds, MoreNBinds, NoNJoins, MoreNJoins, NAlts, NoNAlts, MoreNAlts}
use Rattle.fc_model.specs.Replacing.{Renaming, Substitution, below_binders, below_values, bind_count, coercion_variables, expressions, join_count, past_a_value, renamed, replaced}
use Rattle.fc_model.specs.Replacing.{type_alone, unchanged, value_alone, value_before, variables, whole_coercions, with_argument, with_arguments}
use Rattle.fc_model.specs.Typing.{JoinPoint, type_read_off}
use Rattle.fc_model.proofs.CallsKept.{from_some_inv}
use Rattle.fc_rows.specs.Changing.{changed, made}
use Rattle.fc_rows.specs.ChangingCoercions.{as_they_are}
use Rattle.fc_rows.specs.Occurrences.{innermost_joins, innermost_values, is_dead, occurrences}
use Rattle.fc_rows.specs.Shrinking.{alt_dead, alternative_of, are_trivial, at_constructor, at_scrutinee, at_variable, before_joins, before_values, behind_lets, beta, case_evaluated}
use Rattle.fc_rows.specs.Shrinking.{case_known, case_merge, case_of_constructor, case_of_known, case_of_variable, cast_cast, cast_refl, fail_absorb, heads_excluded, if_equal, is_con}
use Rattle.fc_rows.specs.Shrinking.{is_evaluated_atom, is_once, is_trivial, join_dead, join_once, jump_made, jump_once, jump_place, jump_taken, known, let_atom, let_dead, let_of, let_once}
use Rattle.fc_rows.specs.Shrinking.{moved_args, named_arguments, occurs_once, pair_with, same_head, term_count, without_alternative, without_first}
use Rattle.fc_rows.specs.Surroundings.{Known, Is, Point, NoPoint, PointOf, behind_joins, is_value, past_values}
use Rattle.fc_row_types.proofs.Made.{either_way, if_some_inv, made_inv, none_some, some_some}
use Rattle.fc_meaning.proofs.WrittenExpressions.{AreAltsWritten, AreArgsWritten, IsWritten}
use Rattle.fc_erased.specs.ErasureLaws.{AnyVariable}
use Rattle.fc_erased.proofs.ErasedReplacements.{kept_expressions, kept_variables, written_renamed, written_replaced}
use Rattle.fc_erased.proofs.WrittenPut.{written_alts, written_args}
use Rattle.fc_rows_written.proofs.ChangesWritten.{KeepsWritten, change_written}
use Rattle.fc_rows_written.proofs.SurroundingsWritten.{IsKnownWritten, IsPointWritten, either, joins_written}

-- WHAT IS PUT IN

pub moved_args_written : (r : Renaming) (args : NArgs) → AreArgsWritten args → AreArgsWritten (moved_args r args)
moved_args_written r args w = written_args variables coercion_variables AnyVariable kept_variables r (λ i. tt) args w

value_before_written : (e : NExpr) (f : ℕ → NExpr) → IsWritten e → ((i : ℕ) → IsWritten (f i)) → (i : ℕ) → IsWritten (value_before e f i)
value_before_written e f w g zero = w
value_before_written e f w g (suc i) = g i

arguments_written : (args : NArgs) (r : Substitution) → AreArgsWritten args → ((i : ℕ) → IsWritten (r.values i)) → (i : ℕ) → IsWritten ((with_arguments args r).values i)
arguments_written NoNArgs r w g = g
arguments_written (MoreNArgs (NATerm e) rest) r w g = arguments_written rest (with_argument (NATerm e) r) w.1 (value_before_written e r.values w.0 g)
arguments_written (MoreNArgs (NAType t) rest) r w g = arguments_written rest (with_argument (NAType t) r) w.1 g
arguments_written (MoreNArgs (NACo c) rest) r w g = arguments_written rest (with_argument (NACo c) r) w.1 g

put_written : (args : NArgs) (b : NExpr) → AreArgsWritten args → IsWritten b → IsWritten (replaced (with_arguments args unchanged) b)
put_written args b w v = written_replaced (with_arguments args unchanged) (arguments_written args unchanged w (λ i. tt)) b v

value_put : (e b : NExpr) → IsWritten e → IsWritten b → IsWritten (replaced (value_alone e) b)
value_put e b w v = put_written (MoreNArgs (NATerm e) NoNArgs) b (w, tt) v

-- LETS FOR ARGUMENTS

named_written : (args : NArgs) → AreArgsWritten (named_arguments args)
named_written NoNArgs = tt
named_written (MoreNArgs (NATerm e) rest) = (tt, named_written rest)
named_written (MoreNArgs (NAType t) rest) = (tt, named_written rest)
named_written (MoreNArgs (NACo c) rest) = (tt, named_written rest)

lets_written : (i : ℕ) (t : NTy) (args : NArgs) (b f : NExpr) → behind_lets i t args b ≡ Some f → AreArgsWritten args → IsWritten b → IsWritten f
lets_written i t NoNArgs b f h w v = subst IsWritten (some_some h) v
lets_written i t (MoreNArgs (NATerm a) rest) b f h w v =
    let e = from_some_inv (λ e. made (let_of e.0 (renamed (past_values i) a)) (behind_lets (suc i) e.1 rest b)) (function_ends t) f h in
    let m = made_inv (let_of e.0.0 (renamed (past_values i) a)) (behind_lets (suc i) e.0.1 rest b) f e.2 in
    subst IsWritten m.2 (tt, (written_renamed (past_values i) a w.0, tt), lets_written (suc i) e.0.1 rest b m.0 m.1 w.1 v)
lets_written i t (MoreNArgs (NAType u) rest) b f h w v =
    let e = from_some_inv (λ v. behind_lets i v rest b) (at_type t u) f h in lets_written i e.0 rest b f e.2 w.1 v
lets_written i t (MoreNArgs (NACo c) rest) b f h w v =
    let e = from_some_inv (λ p. behind_lets i p.3 rest b) (coercion_asked t) f h in lets_written i e.0.3 rest b f e.2 w.1 v

-- BETA AND LETS

pub beta_written : (ms : Modules) → KeepsWritten (beta ms)
beta_written ms s g (NApp (NLam (NBValue t) b) (NATerm a)) f h w =
    let e = from_some_inv (λ u. made (λ p. let_of p.0 a b) (function_ends u)) (type_read_off ms s.context (NLam (NBValue t) b)) f h in
    let m = made_inv (λ p. let_of p.0 a b) (function_ends e.0) f e.2 in
    subst IsWritten m.2 (tt, (w.1, tt), w.0)
beta_written ms s g (NApp (NLam (NBType k) b) (NAType t)) f h w = subst IsWritten (some_some h) (written_renamed (type_alone t) b w.0)
beta_written ms s g (NApp (NLam (NBCo r t u) b) (NACo c)) f h w = subst IsWritten (some_some h) (put_written (MoreNArgs (NACo c) NoNArgs) b (tt, tt) w.0)
beta_written ms s g e f h w = none_some h

pub let_dead_written : KeepsWritten (λ s e. let_dead e)
let_dead_written s g (NLet r bs b) f h w =
    let m = if_some_inv (is_dead (occurrences (innermost_values (bind_count bs)) b)) _ f h in
    subst IsWritten (some_some m.1) (written_renamed (before_values (bind_count bs)) b w.2)
let_dead_written s g e f h w = none_some h

pub let_atom_written : KeepsWritten (λ s e. let_atom e)
let_atom_written s g (NLet false (MoreNBinds (NBound t a) NoNBinds) b) f h w =
    let m = if_some_inv (is_trivial a) _ f h in subst IsWritten (some_some m.1) (value_put a b w.1.0 w.2)
let_atom_written s g e f h w = none_some h

pub let_once_written : KeepsWritten (λ s e. let_once e)
let_once_written s g (NLet false (MoreNBinds (NBound t a) NoNBinds) b) f h w =
    let m = if_some_inv (not (is_unlifted t) && is_once (occurrences (innermost_values 1) b)) _ f h in subst IsWritten (some_some m.1) (value_put a b w.1.0 w.2)
let_once_written s g e f h w = none_some h

-- CASES

abbrev Alternative : Type 0
Alternative = List NBinder × NExpr

abbrev IsFoundWritten : Option Alternative → Type 0
IsFoundWritten (Some a) = IsWritten a.1
IsFoundWritten None = Unit {0}

found_written : (h : Head) (alts : NAlts) → AreAltsWritten alts → IsFoundWritten (alternative_of h alts)
found_written h NoNAlts w = tt
found_written h (MoreNAlts (NBranch k bs b) rest) w = either IsFoundWritten (same_head h k) (Some (bs, b)) (alternative_of h rest) w.1 (found_written h rest w.2)

first_written : (o p : Option Alternative) → IsFoundWritten o → IsFoundWritten p → IsFoundWritten (first_of o p)
first_written (Some a) p w v = w
first_written None p w v = v

parts_written : (ps : List NParam) (args : NArgs) → AreArgsWritten args → AreArgsWritten (without_first ps args)
parts_written [] args w = w
parts_written (p ∷ ps) NoNArgs w = tt
parts_written (p ∷ ps) (MoreNArgs a rest) w = parts_written ps rest w.1

constructor_written : (xt : NTy) (n : Name) (args : NArgs) (k : Constructor) (a : Alternative) (f : NExpr) → at_constructor xt n args k a ≡ Some f → AreArgsWritten args → IsWritten a.1
    → IsWritten f
constructor_written xt n args k (bs, b) f h w v =
    let named = named_arguments args in
    let parts = without_first k.params named in
    let r = below_binders variables coercion_variables bs (below_values variables coercion_variables 1 (past_values (term_count args))) in
    let body = renamed r b in
    let body_written = written_renamed r b v in
    let are_parts = parts_written k.params named (named_written args) in
    let inner = replaced (with_arguments (moved_args past_a_value parts) unchanged) body in
    let used = put_written (moved_args past_a_value parts) body (moved_args_written past_a_value parts are_parts) body_written in
    let unused = put_written (MoreNArgs (NATerm (NCon n named)) parts) body (named_written args, are_parts) body_written in
    let m = if_some_inv (pair_with bs parts) _ f h in
    lets_written 0 (constructor_type n k) args _ f m.1 w
    (either IsWritten (is_dead (occurrences (innermost_values 1) inner)) (replaced (with_arguments (MoreNArgs (NATerm (NCon n named)) parts) unchanged) body) (let_of xt (NCon n named) inner)
    unused (tt, (named_written args, tt), used))

scrutinee_written : (xt : NTy) (e : NExpr) (o : Option Alternative) (f : NExpr) → from_some (at_scrutinee xt e) o ≡ Some f → IsWritten e → IsFoundWritten o → IsWritten f
scrutinee_written xt e (Some ([], b)) f h w v = subst IsWritten (some_some h) (tt, (w, tt), v)
scrutinee_written xt e (Some (c ∷ bs, b)) f h w v = none_some h
scrutinee_written xt e None f h w v = none_some h

variable_written : (y : NExpr) (parts : NArgs) (o : Option Alternative) (f : NExpr) → from_some (at_variable y parts) o ≡ Some f → IsWritten y → AreArgsWritten parts → IsFoundWritten o
    → IsWritten f
variable_written y parts (Some (bs, b)) f h w p v =
    let m = if_some_inv (pair_with bs parts) _ f h in subst IsWritten (some_some m.1) (put_written (MoreNArgs (NATerm y) parts) b (w, p) v)
variable_written y parts None f h w p v = none_some h

of_constructor : (ms : Modules) (xt : NTy) (n : Name) (args : NArgs) (o d : Option Alternative) (f : NExpr) → case_of_constructor ms xt n args o d ≡ Some f → AreArgsWritten args
    → IsFoundWritten o → IsFoundWritten d → IsWritten f
of_constructor ms xt n args (Some a) d f h w v u =
    let k = from_some_inv (λ k. at_constructor xt n args k a) (constructor ms n) f h in constructor_written xt n args k.0 a f k.2 w v
of_constructor ms xt n args None d f h w v u = scrutinee_written xt (NCon n args) d f h w u

of_variable : (ms : Modules) (y : NExpr) (n : Name) (args : NArgs) (o d : Option Alternative) (f : NExpr) → case_of_variable ms y n args o d ≡ Some f → IsWritten y → AreArgsWritten args
    → IsFoundWritten o → IsFoundWritten d → IsWritten f
of_variable ms y n args (Some a) d f h wy w v u =
    let k = from_some_inv (λ k. at_variable y (without_first k.params args) a) (constructor ms n) f h in
    variable_written y (without_first k.0.params args) (Some a) f k.2 wy (parts_written k.0.params args w) v
of_variable ms y n args None d f h wy w v u = variable_written y NoNArgs d f h wy tt u

of_known : (ms : Modules) (y : NExpr) (k : Known) (alts : NAlts) (f : NExpr) → case_of_known ms y k alts ≡ Some f → IsWritten y → IsKnownWritten k → AreAltsWritten alts → IsWritten f
of_known ms y (Is (NCon n args)) alts f h wy w v =
    let m = if_some_inv (are_trivial args) (case_of_variable ms y n args (alternative_of (head.Con n) alts) (alternative_of head.Default alts)) f h in
    of_variable ms y n args (alternative_of (head.Con n) alts) (alternative_of head.Default alts) f m.1 wy w (found_written (head.Con n) alts v) (found_written head.Default alts v)
of_known ms y (Is (NLit n)) alts f h wy w v =
    variable_written y NoNArgs (first_of (alternative_of (head.Lit n) alts) (alternative_of head.Default alts)) f h wy tt
    (first_written (alternative_of (head.Lit n) alts) (alternative_of head.Default alts) (found_written (head.Lit n) alts v) (found_written head.Default alts v))
of_known ms y k alts f h wy w v = none_some h

pub case_known_written : (ms : Modules) → KeepsWritten (case_known ms)
case_known_written ms s g (NCase (NCon n args) xt rt alts) f h w =
    of_constructor ms xt n args (alternative_of (head.Con n) alts) (alternative_of head.Default alts) f h w.0 (found_written (head.Con n) alts w.1) (found_written head.Default alts w.1)
case_known_written ms s g (NCase (NLit n) xt rt alts) f h w =
    scrutinee_written xt (NLit n) (first_of (alternative_of (head.Lit n) alts) (alternative_of head.Default alts)) f h w.0
    (first_written (alternative_of (head.Lit n) alts) (alternative_of head.Default alts) (found_written (head.Lit n) alts w.1) (found_written head.Default alts w.1))
case_known_written ms s g (NCase (NLocal i) xt rt alts) f h w = of_known ms (NLocal i) (s.locals i) alts f h tt (g.locals i) w.1
case_known_written ms s g (NCase (NVar n) xt rt alts) f h w = of_known ms (NVar n) (s.names n) alts f h tt (g.names n) w.1
case_known_written ms s g e f h w = none_some h

pub case_evaluated_written : (ms : Modules) → KeepsWritten (case_evaluated ms)
case_evaluated_written ms s g (NCase e xt rt (MoreNAlts (NBranch head.Default [] b) NoNAlts)) f h w =
    either_way IsWritten (is_evaluated_atom ms s e) _ _ f h (λ q. subst IsWritten (some_some q) (value_put e b w.0 w.1.1))
    (λ q. let m = if_some_inv (is_value e && not (is_con e)) _ f q in subst IsWritten (some_some m.1) (tt, (w.0, tt), w.1.1))
case_evaluated_written ms s g e f h w = none_some h

pub case_merge_written : KeepsWritten (λ s e. case_merge e)
case_merge_written s g (NCase e xt rt (MoreNAlts (NBranch head.Default [] (NCase (NLocal zero) yt qt alts)) NoNAlts)) f h w =
    let values = arguments_written (MoreNArgs (NATerm (NLocal 0)) NoNArgs) unchanged (tt, tt) (λ i. tt) in
    subst IsWritten (some_some h) (w.0, written_alts expressions whole_coercions IsWritten kept_expressions (value_alone (NLocal 0)) values alts w.1.1.1)
case_merge_written s g e f h w = none_some h

without_written : (hs : List Head) (i : ℕ) (alts blts : NAlts) → without_alternative hs i alts ≡ Some blts → AreAltsWritten alts → AreAltsWritten blts
without_written hs i NoNAlts blts h w = none_some h
without_written hs zero (MoreNAlts (NBranch k bs b) rest) blts h w = let m = if_some_inv (list_any (same_head k) hs) _ blts h in subst AreAltsWritten (some_some m.1) w.2
without_written hs (suc i) (MoreNAlts (NBranch k bs b) rest) blts h w =
    let m = made_inv (λ more. MoreNAlts (NBranch k bs b) more) (without_alternative hs i rest) blts h in subst AreAltsWritten m.2 (w.0, w.1, without_written hs i rest m.0 m.1 w.2)

pub alt_dead_written : (i : ℕ) → KeepsWritten (alt_dead i)
alt_dead_written i s g (NCase e xt rt alts) f h w =
    let hs = heads_excluded (known s e) in
    let m = made_inv (λ rest. NCase e xt rt rest) (without_alternative hs i alts) f h in
    subst IsWritten m.2 (w.0, without_written hs i alts m.0 m.1 w.1)
alt_dead_written i s g e f h w = none_some h

-- FAILURES AND CASTS

pub fail_absorb_written : (ms : Modules) → KeepsWritten (fail_absorb ms)
fail_absorb_written ms s g (NApp (NFail t) a) f h w = let m = made_inv NFail (type_read_off ms s.context (NApp (NFail t) a)) f h in subst IsWritten m.2 tt
fail_absorb_written ms s g (NCase (NFail t) xt rt alts) f h w = subst IsWritten (some_some h) tt
fail_absorb_written ms s g (NCast (NFail t) c) f h w = let m = made_inv NFail (type_read_off ms s.context (NCast (NFail t) c)) f h in subst IsWritten m.2 tt
fail_absorb_written ms s g e f h w = none_some h

if_equal_written : (e : NExpr) (r : Result Ends F) (f : NExpr) → if_equal e r ≡ Some f → IsWritten e → IsWritten f
if_equal_written e (Ok p) f h w = let m = if_some_inv (same_type p.left p.right) _ f h in subst IsWritten (some_some m.1) w
if_equal_written e (Err x) f h w = none_some h

pub cast_refl_written : (ms : Modules) → KeepsWritten (cast_refl ms)
cast_refl_written ms s g (NCast e c) f h w = if_equal_written e (ends_or_fault ms s.context.kinds s.context.coercions c) f h w
cast_refl_written ms s g e f h w = none_some h

pub cast_cast_written : KeepsWritten (λ s e. cast_cast e)
cast_cast_written s g (NCast (NCast e c) d) f h w = subst IsWritten (some_some h) w
cast_cast_written s g e f h w = none_some h

-- JOINS

pub join_dead_written : KeepsWritten (λ s e. join_dead e)
join_dead_written s g (NJoin r t js b) f h w =
    let m = if_some_inv (is_dead (occurrences (innermost_joins (join_count js)) b)) _ f h in
    subst IsWritten (some_some m.1) (written_renamed (before_joins (join_count js)) b w.2)
join_dead_written s g e f h w = none_some h

jump_taken_written : (k : Point) (t : NTy) (args : NArgs) (f : NExpr) → jump_taken k t args ≡ Some f → IsPointWritten k → AreArgsWritten args → IsWritten f
jump_taken_written NoPoint t args f h g w = none_some h
jump_taken_written (PointOf ps d) t args f h g w =
    let r = below_binders variables coercion_variables ps (past_values (term_count args)) in
    let m = if_some_inv (pair_with ps args) _ f h in
    lets_written 0 t args (replaced (with_arguments (named_arguments args) unchanged) (renamed r d)) f m.1 w
    (put_written (named_arguments args) (renamed r d) (named_written args) (written_renamed r d g))

jump_made_written : (r : Result JoinPoint F) (k : Point) (args : NArgs) (f : NExpr) → jump_made r k args ≡ Some f → IsPointWritten k → AreArgsWritten args → IsWritten f
jump_made_written (Ok j) k args f h g w = jump_taken_written k j.type args f h g w
jump_made_written (Err x) k args f h g w = none_some h

pub jump_once_written : KeepsWritten jump_once
jump_once_written s g (NJump i args) f h w = jump_made_written (at_distance s.context.joins i) (s.points i) args f h (g.points i) w
jump_once_written s g e f h w = none_some h

pub join_once_written : KeepsWritten join_once
join_once_written s g (NJoin false t (MoreNJoins j NoNJoins) b) f h w =
    let group = MoreNJoins j NoNJoins in
    let inner = behind_joins false t group s in
    let m = if_some_inv (occurs_once (occurrences (innermost_joins 1) b)) _ f h in
    let p = from_some_inv (λ p. from_some (λ c. join_dead (NJoin false t group c)) (changed jump_once as_they_are inner p b)) (jump_place 0 b) f m.1 in
    let c = from_some_inv (λ c. join_dead (NJoin false t group c)) (changed jump_once as_they_are inner p.0 b) f p.2 in
    let body = change_written jump_once jump_once_written as_they_are inner (joins_written false t group s g w.1) p.0 b c.0 c.1 w.2 in
    join_dead_written s g (NJoin false t group c.0) f c.2 (tt, w.1, body)
join_once_written s g e f h w = none_some h
