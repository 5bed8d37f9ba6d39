-- The shrinking rows: what each makes of an expression in its surroundings, where it applies.
use Rattle.std.specs.Prelude.{ℕ, zero, suc, ◌+◌, ◌-◌, Bool, true, false, not, ◌&&◌, ◌||◌, nat_eq, int_le, if◌then◌else◌, List, [], ◌∷◌, length, Option, Some, None, Result, Ok, Err}
use Rattle.std.specs.List.{list_any}
use Rattle.fc_syntax.specs.declared.ty.Name.{Name}
use Rattle.fc_syntax.specs.declared.expr.Head.{Head}
use Rattle.fc_syntax.specs.declared.expr.Head.TheVariants as head
use Rattle.fc_model.specs.Calling.{Constructor, at_type, coercion_asked, constructor, constructor_type, first_of, from_some, function_ends, is_unlifted}
use Rattle.fc_model.specs.Coercing.{Ends, ends_or_fault}
use Rattle.fc_model.specs.Faulting.{F, at_distance}
use Rattle.fc_model.specs.Kinding.{Modules, same_name, same_type}
use Rattle.fc_model.specs.Nameless.{NTy, NTVar, NGTrans, NBinder, NBValue, NBType, NBCo, NParam, NArg, NATerm, NAType, NACo, NBound, NJoined, NBranch}
use Rattle.fc_model.specs.Nameless.{NExpr, NLocal, NVar, NLit, NApp, NLam, NLet, NCase, NCast, NCon, NPrim, NFail, NJoin, NJump}
use Rattle.fc_model.specs.Nameless.{NArgs, NoNArgs, MoreNArgs, NoNBinds, MoreNBinds, NJoins, NoNJoins, MoreNJoins, NAlts, NoNAlts, MoreNAlts}
use Rattle.fc_model.specs.Replacing.{Renaming, bind_count, below_binders, below_values, coercion_alone, coercion_variables, expressions, join_count, past_a_value, put_in_alts}
use Rattle.fc_model.specs.Replacing.{put_in_arg, put_in_args, renamed, replaced, type_alone, unchanged, value_alone, variables, whole_coercions, with_arguments}
use Rattle.fc_model.specs.Typing.{JoinPoint, type_read_off}
use Rattle.fc_rows.specs.Changing.{changed, made}
use Rattle.fc_rows.specs.ChangingCoercions.{as_they_are}
use Rattle.fc_rows.specs.Occurrences.{innermost_joins, innermost_values, is_dead, occurrences}
use Rattle.fc_rows.specs.declared.occurrence.Occurrence.{Occurrence}
use Rattle.fc_rows.specs.declared.occurrence.Occurrence.TheVariants.{Dead, Once, OnceAsField, OnceInside, Many}
use Rattle.fc_rows.specs.Surroundings.{Known, Unknown, Is, IsNot, Point, NoPoint, PointOf, Surroundings, behind_joins, is_value, past_values}

-- WHAT EXPRESSIONS ARE

abbrev pub is_trivial : NExpr → Bool
is_trivial (NLocal i) = true
is_trivial (NVar n) = true
is_trivial (NLit n) = true
is_trivial (NApp f (NATerm a)) = false
is_trivial (NApp f (NAType t)) = is_trivial f
is_trivial (NApp f (NACo g)) = false
is_trivial (NLam b e) = false
is_trivial (NLet r bs e) = false
is_trivial (NCase e xt rt alts) = false
is_trivial (NCast e g) = is_trivial e
is_trivial (NCon n args) = false
is_trivial (NPrim op es) = false
is_trivial (NFail t) = false
is_trivial (NJoin r t js e) = false
is_trivial (NJump i args) = false

abbrev pub are_trivial : NArgs → Bool
are_trivial NoNArgs = true
are_trivial (MoreNArgs (NATerm e) rest) = is_trivial e && are_trivial rest
are_trivial (MoreNArgs (NAType t) rest) = are_trivial rest
are_trivial (MoreNArgs (NACo g) rest) = are_trivial rest

abbrev pub same_head : Head → Head → Bool
same_head head.Default head.Default = true
same_head (head.Lit m) (head.Lit n) = int_le m n && int_le n m
same_head (head.Con m) (head.Con n) = same_name m n
same_head h k = false

-- PAST FEWER BINDERS

-- with n binders less of values, and of join points, none of which occurs
abbrev pub before_values : ℕ → Renaming
before_values n = record { types = λ i. NTVar i; coercions = λ i. i; values = λ i. i - n; joins = λ i. i }

abbrev pub before_joins : ℕ → Renaming
before_joins n = record { types = λ i. NTVar i; coercions = λ i. i; values = λ i. i; joins = λ i. i - n }

-- LETS

abbrev pub let_of : NTy → NExpr → NExpr → NExpr
let_of t e b = NLet false (MoreNBinds (NBound t e) NoNBinds) b

-- how many terms are among arguments
abbrev pub term_count : NArgs → ℕ
term_count NoNArgs = 0
term_count (MoreNArgs (NATerm e) rest) = suc (term_count rest)
term_count (MoreNArgs (NAType t) rest) = term_count rest
term_count (MoreNArgs (NACo g) rest) = term_count rest

-- arguments behind a let for each term among them, by the variables of the lets
abbrev pub named_arguments : NArgs → NArgs
named_arguments NoNArgs = NoNArgs
named_arguments (MoreNArgs (NATerm e) rest) = MoreNArgs (NATerm (NLocal (term_count rest))) (named_arguments rest)
named_arguments (MoreNArgs (NAType t) rest) = MoreNArgs (NAType t) (named_arguments rest)
named_arguments (MoreNArgs (NACo g) rest) = MoreNArgs (NACo g) (named_arguments rest)

-- A body behind a let for each term among the arguments of what is of type t, in order, of the type that is asked of it, where the
-- arguments are of the sorts that are asked; i such lets stand around already.
abbrev pub behind_lets : ℕ → NTy → NArgs → NExpr → Option NExpr
behind_lets i t NoNArgs b = Some b
behind_lets i t (MoreNArgs (NATerm a) rest) b = from_some (λ e. made (let_of e.0 (renamed (past_values i) a)) (behind_lets (suc i) e.1 rest b)) (function_ends t)
behind_lets i t (MoreNArgs (NAType u) rest) b = from_some (λ v. behind_lets i v rest b) (at_type t u)
behind_lets i t (MoreNArgs (NACo g) rest) b = from_some (λ p. behind_lets i p.3 rest b) (coercion_asked t)

-- arguments agree with binders in number and in being types, coercions and terms
abbrev pub pair_with : List NBinder → NArgs → Bool
pair_with [] NoNArgs = true
pair_with [] (MoreNArgs a rest) = false
pair_with (b ∷ bs) NoNArgs = false
pair_with (NBValue t ∷ bs) (MoreNArgs (NATerm e) rest) = pair_with bs rest
pair_with (NBType k ∷ bs) (MoreNArgs (NAType t) rest) = pair_with bs rest
pair_with (NBCo r t u ∷ bs) (MoreNArgs (NACo g) rest) = pair_with bs rest
pair_with (b ∷ bs) (MoreNArgs a rest) = false

-- an argument, and arguments, past binders
abbrev pub moved_arg : Renaming → NArg → NArg
moved_arg r a = put_in_arg variables coercion_variables r a

abbrev pub moved_args : Renaming → NArgs → NArgs
moved_args r args = put_in_args variables coercion_variables r args

-- BETA AND LETS

-- an application of a lambda
abbrev pub beta : Modules → Surroundings → NExpr → Option NExpr
beta ms s (NApp (NLam (NBValue t) b) (NATerm a)) = from_some (λ f. made (λ p. let_of p.0 a b) (function_ends f)) (type_read_off ms s.context (NLam (NBValue t) b))
beta ms s (NApp (NLam (NBType k) b) (NAType t)) = Some (renamed (type_alone t) b)
beta ms s (NApp (NLam (NBCo r t u) b) (NACo g)) = Some (replaced (coercion_alone g) b)
beta ms s e = None

-- no binder occurs in the body
abbrev pub let_dead : NExpr → Option NExpr
let_dead (NLet r bs b) = if is_dead (occurrences (innermost_values (bind_count bs)) b) then Some (renamed (before_values (bind_count bs)) b) else None
let_dead e = None

-- what is bound is trivial
abbrev pub let_atom : NExpr → Option NExpr
let_atom (NLet false (MoreNBinds (NBound t a) NoNBinds) b) = if is_trivial a then Some (replaced (value_alone a) b) else None
let_atom e = None

abbrev pub is_once : Occurrence → Bool
is_once Dead = false
is_once Once = true
is_once OnceAsField = false
is_once OnceInside = false
is_once Many = false

-- the binder is lifted and occurs once, neither inside a lambda nor as an argument of a constructor
abbrev pub let_once : NExpr → Option NExpr
let_once (NLet false (MoreNBinds (NBound t e) NoNBinds) b) = if not (is_unlifted t) && is_once (occurrences (innermost_values 1) b) then Some (replaced (value_alone e) b) else None
let_once e = None

-- CASES

-- the first alternative of a head: its binders and its body
abbrev pub alternative_of : Head → NAlts → Option (List NBinder × NExpr)
alternative_of h NoNAlts = None
alternative_of h (MoreNAlts (NBranch k bs b) rest) = if same_head h k then Some (bs, b) else alternative_of h rest

-- arguments without the first ones, which stand for parameters
abbrev pub without_first : List NParam → NArgs → NArgs
without_first [] args = args
without_first (p ∷ ps) NoNArgs = NoNArgs
without_first (p ∷ ps) (MoreNArgs a rest) = without_first ps rest

-- An alternative for a constructor, with lets for its terms: the case binder is bound to the constructor where it occurs. What is put in
-- for it where it does not is not seen.
abbrev pub at_constructor : NTy → Name → NArgs → Constructor → List NBinder × NExpr → Option NExpr
at_constructor xt n args k (bs, b) =
    let named = named_arguments args in
    let parts = without_first k.params named in
    let body = renamed (below_binders variables coercion_variables bs (below_values variables coercion_variables 1 (past_values (term_count args)))) b in
    if pair_with bs parts
    then behind_lets 0 (constructor_type n k) args (
    if is_dead (occurrences (innermost_values 1) (replaced (with_arguments (moved_args past_a_value parts) unchanged) body))
    then replaced (with_arguments (MoreNArgs (NATerm (NCon n named)) parts) unchanged) body
    else let_of xt (NCon n named) (replaced (with_arguments (moved_args past_a_value parts) unchanged) body)
    )
    else None

-- an alternative without binders, behind a let for the case binder
abbrev pub at_scrutinee : NTy → NExpr → List NBinder × NExpr → Option NExpr
at_scrutinee xt e ([], b) = Some (let_of xt e b)
at_scrutinee xt e (c ∷ bs, b) = None

-- an alternative for a variable, with what it is known to be made of
abbrev pub at_variable : NExpr → NArgs → List NBinder × NExpr → Option NExpr
at_variable y parts (bs, b) = if pair_with bs parts then Some (replaced (with_arguments (MoreNArgs (NATerm y) parts) unchanged) b) else None

abbrev pub known : Surroundings → NExpr → Known
known s (NLocal i) = s.locals i
known s (NVar n) = s.names n
known s e = Unknown

-- the alternative of a constructor, else the default
abbrev pub case_of_constructor : Modules → NTy → Name → NArgs → Option (List NBinder × NExpr) → Option (List NBinder × NExpr) → Option NExpr
case_of_constructor ms xt n args (Some a) d = from_some (λ k. at_constructor xt n args k a) (constructor ms n)
case_of_constructor ms xt n args None d = from_some (at_scrutinee xt (NCon n args)) d

abbrev pub case_of_variable : Modules → NExpr → Name → NArgs → Option (List NBinder × NExpr) → Option (List NBinder × NExpr) → Option NExpr
case_of_variable ms y n args (Some a) d = from_some (λ k. at_variable y (without_first k.params args) a) (constructor ms n)
case_of_variable ms y n args None d = from_some (at_variable y NoNArgs) d

-- a variable that is known as a constructor with trivial arguments or as a literal
abbrev pub case_of_known : Modules → NExpr → Known → NAlts → Option NExpr
case_of_known ms y (Is (NCon n args)) alts =
    if are_trivial args then case_of_variable ms y n args (alternative_of (head.Con n) alts) (alternative_of head.Default alts) else None
case_of_known ms y (Is (NLit n)) alts = from_some (at_variable y NoNArgs) (first_of (alternative_of (head.Lit n) alts) (alternative_of head.Default alts))
case_of_known ms y k alts = None

-- a case of a constructor, of a literal, or of a variable that is known as one
abbrev pub case_known : Modules → Surroundings → NExpr → Option NExpr
case_known ms s (NCase (NCon n args) xt rt alts) = case_of_constructor ms xt n args (alternative_of (head.Con n) alts) (alternative_of head.Default alts)
case_known ms s (NCase (NLit n) xt rt alts) = from_some (at_scrutinee xt (NLit n)) (first_of (alternative_of (head.Lit n) alts) (alternative_of head.Default alts))
case_known ms s (NCase (NLocal i) xt rt alts) = case_of_known ms (NLocal i) (s.locals i) alts
case_known ms s (NCase (NVar n) xt rt alts) = case_of_known ms (NVar n) (s.names n) alts
case_known ms s e = None

-- the default is the only alternative, and looks at the case binder again
abbrev pub case_merge : NExpr → Option NExpr
case_merge (NCase e xt rt (MoreNAlts (NBranch head.Default [] (NCase (NLocal zero) yt qt alts)) NoNAlts)) =
    Some (NCase e xt rt (put_in_alts expressions whole_coercions (value_alone (NLocal 0)) alts))
case_merge e = None

-- alternatives without the one of this number, where it is one of the heads
abbrev pub without_alternative : List Head → ℕ → NAlts → Option NAlts
without_alternative hs i NoNAlts = None
without_alternative hs zero (MoreNAlts (NBranch h bs b) rest) = if list_any (same_head h) hs then Some rest else None
without_alternative hs (suc i) (MoreNAlts a rest) = made (λ more. MoreNAlts a more) (without_alternative hs i rest)

abbrev pub heads_excluded : Known → List Head
heads_excluded Unknown = []
heads_excluded (Is e) = []
heads_excluded (IsNot hs) = hs

-- an alternative, by its number, of a case on a variable that is known not to be its head
abbrev pub alt_dead : ℕ → Surroundings → NExpr → Option NExpr
alt_dead i s (NCase e xt rt alts) = made (λ rest. NCase e xt rt rest) (without_alternative (heads_excluded (known s e)) i alts)
alt_dead i s e = None

-- FAILURES AND CASTS

-- a failure that is applied, looked at or cast
abbrev pub fail_absorb : Modules → Surroundings → NExpr → Option NExpr
fail_absorb ms s (NApp (NFail t) a) = made NFail (type_read_off ms s.context (NApp (NFail t) a))
fail_absorb ms s (NCase (NFail t) xt rt alts) = Some (NFail rt)
fail_absorb ms s (NCast (NFail t) g) = made NFail (type_read_off ms s.context (NCast (NFail t) g))
fail_absorb ms s e = None

abbrev pub if_equal : NExpr → Result Ends F → Option NExpr
if_equal e (Ok p) = if same_type p.left p.right then Some e else None
if_equal e (Err f) = None

-- a cast between equal types
abbrev pub cast_refl : Modules → Surroundings → NExpr → Option NExpr
cast_refl ms s (NCast e g) = if_equal e (ends_or_fault ms s.context.kinds s.context.coercions g)
cast_refl ms s e = None

-- a cast of a cast
abbrev pub cast_cast : NExpr → Option NExpr
cast_cast (NCast (NCast e g) h) = Some (NCast e (NGTrans g h))
cast_cast e = None

-- JOINS

-- no jump to the group from the body
abbrev pub join_dead : NExpr → Option NExpr
join_dead (NJoin r t js b) = if is_dead (occurrences (innermost_joins (join_count js)) b) then Some (renamed (before_joins (join_count js)) b) else None
join_dead e = None

-- the right side of a join point, which takes arguments as what is of type t does, at arguments, with lets for its terms
abbrev pub jump_taken : Point → NTy → NArgs → Option NExpr
jump_taken NoPoint t args = None
jump_taken (PointOf ps d) t args =
    let body = renamed (below_binders variables coercion_variables ps (past_values (term_count args))) d in
    if pair_with ps args then behind_lets 0 t args (replaced (with_arguments (named_arguments args) unchanged) body) else None

abbrev pub jump_made : Result JoinPoint F → Point → NArgs → Option NExpr
jump_made (Ok j) k args = jump_taken k j.type args
jump_made (Err f) k args = None

-- a jump as the right side of its join point
abbrev pub jump_once : Surroundings → NExpr → Option NExpr
jump_once s (NJump i args) = jump_made (at_distance s.context.joins i) (s.points i) args
jump_once s e = None

abbrev pub is_case_or_join : NExpr → Bool
is_case_or_join (NCase e xt rt alts) = true
is_case_or_join (NJoin r t js e) = true
is_case_or_join e = false

abbrev pub is_jump : NExpr → Bool
is_jump (NJump i args) = true
is_jump e = false

abbrev mutual
  -- the place of the first jump to the join point at a distance, in tail position, but for one that is the whole body of an alternative of a
  -- case whose scrutinee is a case or join
  pub jump_place : ℕ → NExpr → Option (List ℕ)
  jump_place j (NLocal i) = None
  jump_place j (NVar n) = None
  jump_place j (NLit n) = None
  jump_place j (NApp f a) = None
  jump_place j (NLam b e) = None
  jump_place j (NLet r bs e) = made (λ p. bind_count bs ∷ p) (jump_place j e)
  jump_place j (NCase e xt rt alts) = jump_place_in_alts j (is_case_or_join e) 3 alts
  jump_place j (NCast e g) = None
  jump_place j (NCon n args) = None
  jump_place j (NPrim op es) = None
  jump_place j (NFail t) = None
  jump_place j (NJoin r t js e) =
      first_of (jump_place_in_joins (if r then j + join_count js else j) 1 js) (made (λ p. suc (join_count js) ∷ p) (jump_place (j + join_count js) e))
  jump_place j (NJump i args) = if nat_eq i j then Some [] else None

  pub jump_place_in_joins : ℕ → ℕ → NJoins → Option (List ℕ)
  jump_place_in_joins j i NoNJoins = None
  jump_place_in_joins j i (MoreNJoins (NJoined ps e) rest) = first_of (made (λ p. i ∷ length ps ∷ p) (jump_place j e)) (jump_place_in_joins j (suc i) rest)

  pub jump_place_in_alts : ℕ → Bool → ℕ → NAlts → Option (List ℕ)
  jump_place_in_alts j held i NoNAlts = None
  jump_place_in_alts j held i (MoreNAlts (NBranch h bs e) rest) =
      first_of (if held && is_jump e then None else made (λ p. i ∷ length bs ∷ p) (jump_place j e)) (jump_place_in_alts j held (suc i) rest)

abbrev pub occurs_once : Occurrence → Bool
occurs_once Dead = false
occurs_once Once = true
occurs_once OnceAsField = true
occurs_once OnceInside = true
occurs_once Many = false

-- not recursive, with one jump: the jump becomes the right side, and then the join is dead
abbrev pub join_once : Surroundings → NExpr → Option NExpr
join_once s (NJoin false t (MoreNJoins j NoNJoins) b) =
    if occurs_once (occurrences (innermost_joins 1) b)
    then from_some (λ p. from_some (λ c. join_dead (NJoin false t (MoreNJoins j NoNJoins) c)) (changed jump_once as_they_are (behind_joins false t (MoreNJoins j NoNJoins) s) p b)) (jump_place 0 b)
    else None
join_once s e = None

-- EVALUATED SCRUTINEES

abbrev pub is_evaluated : Known → Bool
is_evaluated Unknown = false
is_evaluated (Is e) = true
is_evaluated (IsNot hs) = true

abbrev pub is_con : NExpr → Bool
is_con (NCon n args) = true
is_con e = false

abbrev pub is_of_unlifted_type : Option NTy → Bool
is_of_unlifted_type (Some t) = is_unlifted t
is_of_unlifted_type None = false

-- a literal, an unlifted variable, or a variable that is known to be evaluated
abbrev pub is_evaluated_atom : Modules → Surroundings → NExpr → Bool
is_evaluated_atom ms s (NLit n) = true
is_evaluated_atom ms s (NLocal i) = is_evaluated (s.locals i) || is_of_unlifted_type (type_read_off ms s.context (NLocal i))
is_evaluated_atom ms s (NVar n) = is_evaluated (s.names n)
is_evaluated_atom ms s e = false

-- the default is the only alternative, and what is looked at is evaluated
abbrev pub case_evaluated : Modules → Surroundings → NExpr → Option NExpr
case_evaluated ms s (NCase e xt rt (MoreNAlts (NBranch head.Default [] b) NoNAlts)) =
    if is_evaluated_atom ms s e then Some (replaced (value_alone e) b) else if is_value e && not (is_con e) then Some (let_of xt e b) else None
case_evaluated ms s e = None
