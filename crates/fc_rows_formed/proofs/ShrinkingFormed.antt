-- What the shrinking rows make of a formed expression is formed.
use Rattle.std.proofs.Common.{◌≡◌, ℕ, zero, suc, true, false, not, ◌&&◌, List, [], ◌∷◌, Option, Some, None, Result, Ok, Err, IfSome, IfOk}
use Rattle.std.specs.List.{list_any}
use Rattle.fc_syntax.specs.declared.expr.Head.{Head}
use Rattle.fc_syntax.specs.declared.expr.Head.TheVariants as head
use Rattle.fc_syntax.specs.declared.ty.Name.{Name}
use Rattle.fc_model.specs.Calling.{Constructor, at_type, coercion_asked, constructor, constructor_type, first_of, from_some, function_ends, is_unlifted}
use Rattle.fc_model.specs.Coercing.{Ends, ends_or_fault}
use Rattle.fc_model.specs.Faulting.{F, at_distance}
use Rattle.fc_model.specs.Formed.{is_upper_formed}
use Rattle.fc_model.specs.Kinding.{Modules, same_type}
use Rattle.fc_model.specs.Nameless.{NTy, NTVar, NBinder, NBValue, NBType, NBCo, NExpr, NLocal, NVar, NLit, NApp, NLam, NLet, NCase, NCast, NCon, NFail, NJoin, NJump, NATerm, NAType}
use Rattle.fc_model.specs.Nameless.{NACo, NBound, NBranch, NArgs, NoNArgs, MoreNArgs, NoNBinds, MoreNBinds, NoNJoins, MoreNJoins, NAlts, NoNAlts, MoreNAlts, NParam}
use Rattle.fc_model.specs.Replacing.{below_binders, below_values, bind_count, coercion_variables, join_count, past_a_value, renamed, replaced, type_alone, unchanged, value_alone}
use Rattle.fc_model.specs.Replacing.{variables, with_arguments}
use Rattle.fc_model.specs.Typing.{JoinPoint, type_read_off}
use Rattle.fc_rows.specs.Changing.{changed, made}
use Rattle.fc_rows.specs.ChangingCoercions.{as_they_are}
use Rattle.fc_rows.specs.Occurrences.{innermost_joins, innermost_values, is_dead, occurrences}
use Rattle.fc_rows.specs.Shrinking.{alt_dead, alternative_of, are_trivial, at_constructor, at_scrutinee, at_variable, before_joins, before_values, behind_lets, beta, case_evaluated}
use Rattle.fc_rows.specs.Shrinking.{case_known, case_merge, case_of_constructor, case_of_known, case_of_variable, cast_cast, cast_refl, fail_absorb, heads_excluded, if_equal, is_con}
use Rattle.fc_rows.specs.Shrinking.{is_evaluated_atom, is_once, is_trivial, join_dead, join_once, jump_made, jump_once, jump_place, jump_taken, known, let_atom, let_dead, let_of}
use Rattle.fc_rows.specs.Shrinking.{let_once, moved_args, named_arguments, occurs_once, pair_with, same_head, term_count, without_alternative, without_first}
use Rattle.fc_rows.specs.Surroundings.{Is, Known, NoPoint, Point, PointOf, behind_joins, is_value, past_values}
use Rattle.fc_formed.specs.FormedTrees.{IsFormedTy, IsFormedExpr, AreFormedArgs, AreFormedAlts}
use Rattle.fc_rows_formed.proofs.Answered.{either, if_at_distance, if_from_any, if_from_some, if_made, if_some}
use Rattle.fc_rows_formed.proofs.ChangesFormed.{KeepsFormed, change_formed}
use Rattle.fc_rows_formed.proofs.CoercionChangesFormed.{nothing_replaced}
use Rattle.fc_rows_formed.proofs.DeclarationsFormed.{AreDeclaredFormed, IsConstructorFormed, constructor_formed, constructor_type_formed}
use Rattle.fc_rows_formed.proofs.PutFormed.{alternatives_replaced, arguments_formed, arguments_renamed, expression_at, expression_renamed, images_behind_all}
use Rattle.fc_rows_formed.proofs.ReadOffFormed.{IsJoinPointFormed, type_read_off_formed}
use Rattle.fc_rows_formed.proofs.SurroundingsFormed.{IsKnownFormed, IsPointFormed, behind_joins_formed}
use Rattle.fc_rows_formed.proofs.TypesFormed.{ArePairFormed, IsBehindFormed, at_type_formed, coercion_asked_formed, function_ends_formed, image_alone}

-- WHAT IS PUT IN

value_put : (e b : NExpr) → IsFormedExpr e → IsFormedExpr b → IsFormedExpr (replaced (value_alone e) b)
value_put e b w v = expression_at (MoreNArgs (NATerm e) NoNArgs) b (w, tt) v

-- LETS FOR ARGUMENTS

pub let_formed : (t : NTy) (e b : NExpr) → IsFormedTy t → IsFormedExpr e → IsFormedExpr b → IsFormedExpr (let_of t e b)
let_formed t e b v w u = (tt, ((v, w), tt), u)

named_formed : (args : NArgs) → AreFormedArgs args → AreFormedArgs (named_arguments args)
named_formed NoNArgs w = tt
named_formed (MoreNArgs (NATerm e) rest) w = (tt, named_formed rest w.1)
named_formed (MoreNArgs (NAType t) rest) w = (w.0, named_formed rest w.1)
named_formed (MoreNArgs (NACo c) rest) w = (w.0, named_formed rest w.1)

lets_formed : (i : ℕ) (t : NTy) (args : NArgs) (b : NExpr) → IsFormedTy t → AreFormedArgs args → IsFormedExpr b → IfSome (behind_lets i t args b) IsFormedExpr
lets_formed i t NoNArgs b v w u = u
lets_formed i t (MoreNArgs (NATerm a) rest) b v w u =
    if_from_some ArePairFormed IsFormedExpr (λ e. made (let_of e.0 (renamed (past_values i) a)) (behind_lets (suc i) e.1 rest b)) (function_ends t) (function_ends_formed t v) (λ e f.
    if_made IsFormedExpr IsFormedExpr (let_of e.0 (renamed (past_values i) a)) (behind_lets (suc i) e.1 rest b) (lets_formed (suc i) e.1 rest b f.1 w.1 u)
    (λ d x. let_formed e.0 (renamed (past_values i) a) d f.0 (expression_renamed (past_values i) (λ j. tt) a w.0) x))
lets_formed i t (MoreNArgs (NAType q) rest) b v w u =
    if_from_some IsFormedTy IsFormedExpr (λ x. behind_lets i x rest b) (at_type t q) (at_type_formed t q v w.0) (λ x f. lets_formed i x rest b f w.1 u)
lets_formed i t (MoreNArgs (NACo c) rest) b v w u =
    if_from_some IsBehindFormed IsFormedExpr (λ p. behind_lets i p.3 rest b) (coercion_asked t) (coercion_asked_formed t v) (λ p f. lets_formed i p.3 rest b f w.1 u)

-- LETS

pub let_dead_formed : KeepsFormed (λ s e. let_dead e)
let_dead_formed s g (NLet r bs b) w =
    if_some IsFormedExpr (is_dead (occurrences (innermost_values (bind_count bs)) b)) _ (expression_renamed (before_values (bind_count bs)) (λ i. tt) b w.2)
let_dead_formed s g e w = tt

pub let_atom_formed : KeepsFormed (λ s e. let_atom e)
let_atom_formed s g (NLet false (MoreNBinds (NBound t a) NoNBinds) b) w = if_some IsFormedExpr (is_trivial a) (Some (replaced (value_alone a) b)) (value_put a b w.1.0.1 w.2)
let_atom_formed s g e w = tt

pub let_once_formed : KeepsFormed (λ s e. let_once e)
let_once_formed s g (NLet false (MoreNBinds (NBound t a) NoNBinds) b) w =
    if_some IsFormedExpr (not (is_unlifted t) && is_once (occurrences (innermost_values 1) b)) (Some (replaced (value_alone a) b)) (value_put a b w.1.0.1 w.2)
let_once_formed s g e w = tt

-- CASES

abbrev IsAlternativeFormed : List NBinder × NExpr → Type 0
IsAlternativeFormed a = IsFormedExpr a.1

alternative_found : (h : Head) (alts : NAlts) → AreFormedAlts alts → IfSome (alternative_of h alts) IsAlternativeFormed
alternative_found h NoNAlts w = tt
alternative_found h (MoreNAlts (NBranch k bs b) rest) w =
    either (λ o. IfSome o IsAlternativeFormed) (same_head h k) (Some (bs, b)) (alternative_of h rest) w.0.1 (alternative_found h rest w.1)

first_found : (o p : Option (List NBinder × NExpr)) → IfSome o IsAlternativeFormed → IfSome p IsAlternativeFormed → IfSome (first_of o p) IsAlternativeFormed
first_found (Some a) p w v = w
first_found None p w v = v

parts_formed : (ps : List NParam) (args : NArgs) → AreFormedArgs args → AreFormedArgs (without_first ps args)
parts_formed [] args w = w
parts_formed (p ∷ ps) NoNArgs w = tt
parts_formed (p ∷ ps) (MoreNArgs a rest) w = parts_formed ps rest w.1

at_constructor_formed : (xt : NTy) (n : Name) (args : NArgs) (k : Constructor) (a : List NBinder × NExpr) → IsFormedTy xt → is_upper_formed n ≡ true → AreFormedArgs args
    → IsConstructorFormed k → IsAlternativeFormed a → IfSome (at_constructor xt n args k a) IsFormedExpr
at_constructor_formed xt n args k (bs, b) v h w f u =
    let named = named_arguments args in
    let parts = without_first k.params named in
    let r = below_binders variables coercion_variables bs (below_values variables coercion_variables 1 (past_values (term_count args))) in
    let body = renamed r b in
    let body_formed = expression_renamed r (images_behind_all bs NTVar (λ i. tt)) b u in
    let are_named = named_formed args w in
    let are_parts = parts_formed k.params named are_named in
    let inner = replaced (with_arguments (moved_args past_a_value parts) unchanged) body in
    let used = expression_at (moved_args past_a_value parts) body (arguments_renamed past_a_value (λ i. tt) parts are_parts) body_formed in
    let unused = expression_at (MoreNArgs (NATerm (NCon n named)) parts) body ((h, are_named), are_parts) body_formed in
    let both = either IsFormedExpr (is_dead (occurrences (innermost_values 1) inner)) (replaced (with_arguments (MoreNArgs (NATerm (NCon n named)) parts) unchanged) body)
    (let_of xt (NCon n named) inner) unused (let_formed xt (NCon n named) inner v (h, are_named) used) in
    if_some IsFormedExpr (pair_with bs parts) _ (lets_formed 0 (constructor_type n k) args _ (constructor_type_formed n k h f) w both)

at_scrutinee_formed : (xt : NTy) (e : NExpr) (a : List NBinder × NExpr) → IsFormedTy xt → IsFormedExpr e → IsAlternativeFormed a → IfSome (at_scrutinee xt e a) IsFormedExpr
at_scrutinee_formed xt e ([], b) v w u = let_formed xt e b v w u
at_scrutinee_formed xt e (c ∷ bs, b) v w u = tt

at_variable_formed : (y : NExpr) (parts : NArgs) (a : List NBinder × NExpr) → IsFormedExpr y → AreFormedArgs parts → IsAlternativeFormed a → IfSome (at_variable y parts a) IsFormedExpr
at_variable_formed y parts (bs, b) v w u = if_some IsFormedExpr (pair_with bs parts) (Some _) (expression_at (MoreNArgs (NATerm y) parts) b (v, w) u)

abbrev IsFound : Option (List NBinder × NExpr) → Type 0
IsFound o = IfSome o IsAlternativeFormed

scrutinee_formed : (xt : NTy) (e : NExpr) (o : Option (List NBinder × NExpr)) → IsFormedTy xt → IsFormedExpr e → IsFound o → IfSome (from_some (at_scrutinee xt e) o) IsFormedExpr
scrutinee_formed xt e o v w u = if_from_some IsAlternativeFormed IsFormedExpr (at_scrutinee xt e) o u (λ a f. at_scrutinee_formed xt e a v w f)

variable_formed : (y : NExpr) (parts : NArgs) (o : Option (List NBinder × NExpr)) → IsFormedExpr y → AreFormedArgs parts → IsFound o → IfSome (from_some (at_variable y parts) o) IsFormedExpr
variable_formed y parts o v w u = if_from_some IsAlternativeFormed IsFormedExpr (at_variable y parts) o u (λ a f. at_variable_formed y parts a v w f)

module _ (ms : Modules) (declared : AreDeclaredFormed ms) where
  of_constructor : (xt : NTy) (n : Name) (args : NArgs) (o d : Option (List NBinder × NExpr)) → IsFormedTy xt → is_upper_formed n ≡ true → AreFormedArgs args → IsFound o → IsFound d
      → IfSome (case_of_constructor ms xt n args o d) IsFormedExpr
  of_constructor xt n args (Some a) d v h w u x =
      if_from_some IsConstructorFormed IsFormedExpr (λ k. at_constructor xt n args k a) (constructor ms n) (constructor_formed ms declared n)
      (λ k f. at_constructor_formed xt n args k a v h w f u)
  of_constructor xt n args None d v h w u x = scrutinee_formed xt (NCon n args) d v (h, w) x

  of_variable : (y : NExpr) (n : Name) (args : NArgs) (o d : Option (List NBinder × NExpr)) → IsFormedExpr y → AreFormedArgs args → IsFound o → IsFound d
      → IfSome (case_of_variable ms y n args o d) IsFormedExpr
  of_variable y n args (Some a) d v w u x =
      if_from_any IsFormedExpr (λ k. at_variable y (without_first k.params args) a) (constructor ms n)
      (λ k. at_variable_formed y (without_first k.params args) a v (parts_formed k.params args w) u)
  of_variable y n args None d v w u x = variable_formed y NoNArgs d v tt x

  of_known : (y : NExpr) (k : Known) (alts : NAlts) → IsFormedExpr y → IsKnownFormed k → AreFormedAlts alts → IfSome (case_of_known ms y k alts) IsFormedExpr
  of_known y (Is (NCon n args)) alts v w u =
      if_some IsFormedExpr (are_trivial args) _
      (of_variable y n args (alternative_of (head.Con n) alts) (alternative_of head.Default alts) v w.1 (alternative_found (head.Con n) alts u) (alternative_found head.Default alts u))
  of_known y (Is (NLit n)) alts v w u =
      variable_formed y NoNArgs (first_of (alternative_of (head.Lit n) alts) (alternative_of head.Default alts)) v tt
      (first_found (alternative_of (head.Lit n) alts) (alternative_of head.Default alts) (alternative_found (head.Lit n) alts u) (alternative_found head.Default alts u))
  of_known y k alts v w u = tt

  pub case_known_formed : KeepsFormed (case_known ms)
  case_known_formed s g (NCase (NCon n args) xt rt alts) w =
      of_constructor xt n args (alternative_of (head.Con n) alts) (alternative_of head.Default alts) w.1 w.0.0 w.0.1 (alternative_found (head.Con n) alts w.3)
      (alternative_found head.Default alts w.3)
  case_known_formed s g (NCase (NLit n) xt rt alts) w =
      scrutinee_formed xt (NLit n) (first_of (alternative_of (head.Lit n) alts) (alternative_of head.Default alts)) w.1 w.0
      (first_found (alternative_of (head.Lit n) alts) (alternative_of head.Default alts) (alternative_found (head.Lit n) alts w.3) (alternative_found head.Default alts w.3))
  case_known_formed s g (NCase (NLocal i) xt rt alts) w = of_known (NLocal i) (s.locals i) alts tt (g.locals i) w.3
  case_known_formed s g (NCase (NVar n) xt rt alts) w = of_known (NVar n) (s.names n) alts w.0 (g.names n) w.3
  case_known_formed s g e w = tt

pub case_evaluated_formed : (ms : Modules) → KeepsFormed (case_evaluated ms)
case_evaluated_formed ms s g (NCase e xt rt (MoreNAlts (NBranch head.Default [] b) NoNAlts)) w =
    either (λ o. IfSome o IsFormedExpr) (is_evaluated_atom ms s e) (Some (replaced (value_alone e) b)) _ (value_put e b w.0 w.3.0.1)
    (if_some IsFormedExpr (is_value e && not (is_con e)) (Some (let_of xt e b)) (let_formed xt e b w.1 w.0 w.3.0.1))
case_evaluated_formed ms s g e w = tt

pub case_merge_formed : KeepsFormed (λ s e. case_merge e)
case_merge_formed s g (NCase e xt rt (MoreNAlts (NBranch head.Default [] (NCase (NLocal zero) yt qt alts)) NoNAlts)) w =
    (w.0, w.1, w.2, alternatives_replaced (value_alone (NLocal 0)) (arguments_formed (MoreNArgs (NATerm (NLocal 0)) NoNArgs) (tt, tt)) alts w.3.0.1.3)
case_merge_formed s g e w = tt

without_formed : (hs : List Head) (i : ℕ) (alts : NAlts) → AreFormedAlts alts → IfSome (without_alternative hs i alts) AreFormedAlts
without_formed hs i NoNAlts w = tt
without_formed hs zero (MoreNAlts (NBranch k bs b) rest) w = if_some AreFormedAlts (list_any (same_head k) hs) (Some rest) w.1
without_formed hs (suc i) (MoreNAlts (NBranch k bs b) rest) w =
    if_made AreFormedAlts AreFormedAlts (λ more. MoreNAlts (NBranch k bs b) more) (without_alternative hs i rest) (without_formed hs i rest w.1) (λ more v. (w.0, v))

pub alt_dead_formed : (i : ℕ) → KeepsFormed (alt_dead i)
alt_dead_formed i s g (NCase e xt rt alts) w =
    let hs = heads_excluded (known s e) in
    if_made AreFormedAlts IsFormedExpr (λ rest. NCase e xt rt rest) (without_alternative hs i alts) (without_formed hs i alts w.3) (λ rest v. (w.0, w.1, w.2, v))
alt_dead_formed i s g e w = tt

-- APPLICATIONS, FAILURES AND CASTS

module _ (ms : Modules) (declared : AreDeclaredFormed ms) where
  pub beta_formed : KeepsFormed (beta ms)
  beta_formed s g (NApp (NLam (NBValue t) b) (NATerm a)) w =
      if_from_some IsFormedTy IsFormedExpr (λ f. made (λ p. let_of p.0 a b) (function_ends f)) (type_read_off ms s.context (NLam (NBValue t) b))
      (type_read_off_formed ms declared s.context g.context (NLam (NBValue t) b) w.0)
      (λ u f. if_made ArePairFormed IsFormedExpr (λ p. let_of p.0 a b) (function_ends u) (function_ends_formed u f) (λ p x. let_formed p.0 a b x.0 w.1 w.0.1))
  beta_formed s g (NApp (NLam (NBType k) b) (NAType t)) w = expression_renamed (type_alone t) (image_alone t w.1) b w.0.1
  beta_formed s g (NApp (NLam (NBCo r t u) b) (NACo c)) w = expression_at (MoreNArgs (NACo c) NoNArgs) b (w.1, tt) w.0.1
  beta_formed s g e w = tt

  pub fail_absorb_formed : KeepsFormed (fail_absorb ms)
  fail_absorb_formed s g (NApp (NFail t) a) w =
      if_made IsFormedTy IsFormedExpr NFail (type_read_off ms s.context (NApp (NFail t) a)) (type_read_off_formed ms declared s.context g.context (NApp (NFail t) a) w) (λ u v. v)
  fail_absorb_formed s g (NCase (NFail t) xt rt alts) w = w.2
  fail_absorb_formed s g (NCast (NFail t) c) w =
      if_made IsFormedTy IsFormedExpr NFail (type_read_off ms s.context (NCast (NFail t) c)) (type_read_off_formed ms declared s.context g.context (NCast (NFail t) c) w) (λ u v. v)
  fail_absorb_formed s g e w = tt

if_equal_formed : (e : NExpr) (r : Result Ends F) → IsFormedExpr e → IfSome (if_equal e r) IsFormedExpr
if_equal_formed e (Ok p) w = if_some IsFormedExpr (same_type p.left p.right) (Some e) w
if_equal_formed e (Err f) w = tt

pub cast_refl_formed : (ms : Modules) → KeepsFormed (cast_refl ms)
cast_refl_formed ms s g (NCast e c) w = if_equal_formed e (ends_or_fault ms s.context.kinds s.context.coercions c) w.0
cast_refl_formed ms s g e w = tt

pub cast_cast_formed : KeepsFormed (λ s e. cast_cast e)
cast_cast_formed s g (NCast (NCast e c) d) w = (w.0.0, (w.0.1, w.1))
cast_cast_formed s g e w = tt

-- JOINS

pub join_dead_formed : KeepsFormed (λ s e. join_dead e)
join_dead_formed s g (NJoin r t js b) w =
    if_some IsFormedExpr (is_dead (occurrences (innermost_joins (join_count js)) b)) _ (expression_renamed (before_joins (join_count js)) (λ i. tt) b w.3)
join_dead_formed s g e w = tt

jump_taken_formed : (k : Point) (t : NTy) (args : NArgs) → IsPointFormed k → IsFormedTy t → AreFormedArgs args → IfSome (jump_taken k t args) IsFormedExpr
jump_taken_formed NoPoint t args g v w = tt
jump_taken_formed (PointOf ps d) t args g v w =
    let r = below_binders variables coercion_variables ps (past_values (term_count args)) in
    let body = expression_renamed r (images_behind_all ps NTVar (λ i. tt)) d g.1 in
    if_some IsFormedExpr (pair_with ps args) _ (lets_formed 0 t args _ v w (expression_at (named_arguments args) (renamed r d) (named_formed args w) body))

jump_made_formed : (r : Result JoinPoint F) (k : Point) (args : NArgs) → IfOk r IsJoinPointFormed → IsPointFormed k → AreFormedArgs args → IfSome (jump_made r k args) IsFormedExpr
jump_made_formed (Ok j) k args v g w = jump_taken_formed k j.type args g v.0 w
jump_made_formed (Err x) k args v g w = tt

jump_once_formed : KeepsFormed jump_once
jump_once_formed s g (NJump i args) w =
    jump_made_formed (at_distance s.context.joins i) (s.points i) args (if_at_distance IsJoinPointFormed s.context.joins i g.context.join_types) (g.points i) w
jump_once_formed s g e w = tt

pub join_once_formed : KeepsFormed join_once
join_once_formed s g (NJoin false t (MoreNJoins j NoNJoins) b) w =
    let group = MoreNJoins j NoNJoins in
    let inner = behind_joins false t group s in
    let around = behind_joins_formed false t group s w.1 w.2 g in
    if_some IsFormedExpr (occurs_once (occurrences (innermost_joins 1) b)) _
    (if_from_any IsFormedExpr (λ p. from_some (λ c. join_dead (NJoin false t group c)) (changed jump_once as_they_are inner p b)) (jump_place 0 b) (λ p.
    if_from_some IsFormedExpr IsFormedExpr (λ c. join_dead (NJoin false t group c)) (changed jump_once as_they_are inner p b)
    (change_formed jump_once jump_once_formed as_they_are nothing_replaced inner around p b w.3) (λ c v. join_dead_formed s g (NJoin false t group c) (tt, w.1, w.2, v))))
join_once_formed s g e w = tt
