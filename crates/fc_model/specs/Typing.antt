-- The type of an expression, or the first premise that fails; and the type that is read off without judging premises.
use Rattle.std.specs.Prelude.{ℕ, ℤ, ◌+◌, Bool, true, false, not, ◌&&◌, nat_lt, int_lt, if◌then◌else◌, List, [], ◌∷◌, length, map, Option, Some, None, Result, Ok, Err}
use Rattle.std.specs.Str.{bytes_eq}
use Rattle.fc_syntax.specs.declared.ty.Name.{Name}
use Rattle.fc_syntax.specs.declared.ty.Role.{Role}
use Rattle.fc_syntax.specs.declared.ty.Role.TheVariants.{R}
use Rattle.fc_syntax.specs.declared.expr.Head.{Head}
use Rattle.fc_syntax.specs.declared.expr.Head.TheVariants as head
use Rattle.fc_syntax.specs.declared.fault.FaultKind.{FaultKind}
use Rattle.fc_syntax.specs.declared.fault.FaultKind.TheVariants.{CastFrom, KindsDiffer, RoleWrong, Unbound, NotAType, UnliftedVariable, UnliftedNotAtom, AltType, AltOrder, AltConstructor, ConArity, ScrutineeType, LetType, LitAlt}
use Rattle.fc_syntax.specs.declared.fault.FaultKind.TheVariants.{EscapingType, JumpArity, JumpNotTail, PrimArity}
use Rattle.fc_syntax.specs.Tree.{Word, Kind}
use Rattle.fc_model.specs.Calling.{Constructor, Given, GivenTerm, GivenType, GivenCoercion, applied, at_type, atom_fits, binders_fit, binders_to, called, coercion_asked, constructed, constructor, data_name, from_some, function_ends, is_data_of, is_int, over_binder, type_count}
use Rattle.fc_model.specs.Coercing.{Ends, ends_or_fault, shifted_ends}
use Rattle.fc_model.specs.Faulting.{F, At, at_distance, need, under, and_then}
use Rattle.fc_model.specs.Kinding.{Modules, is_lifted, is_star, is_value_kind, kind_or_fault, same_kind, same_role, same_type}
use Rattle.fc_model.specs.Nameless.{NTy, NTCon, NTInt, NTApp, NTFun, NParam, NDecl, NData, NNew, NFamily, NAxiom, NDef, NWrap}
use Rattle.fc_model.specs.Nameless.{NBinder, NBValue, NBType, NBCo, NArg, NATerm, NAType, NACo, NBind, NBound, NJoinBind, NJoined, NAlt, NBranch}
use Rattle.fc_model.specs.Nameless.{NExpr, NLocal, NVar, NLit, NApp, NLam, NLet, NCase, NCast, NCon, NPrim, NFail, NJoin, NJump}
use Rattle.fc_model.specs.Nameless.{NArgs, NoNArgs, MoreNArgs, NExprs, NoNExprs, MoreNExprs, NBinds, NoNBinds, MoreNBinds, NJoins, NoNJoins, MoreNJoins, NAlts, NoNAlts, MoreNAlts}
use Rattle.fc_model.specs.Substituting.{has_innermost, raised_type, shifted_type}

-- THE CONTEXT

-- a join point: how many parameters it has, its type as a function of them, and the written type of the join
pub record JoinPoint : Type 0 where
  pub arity : ℕ
  pub type : NTy
  pub result : NTy

-- the kinds of the local type variables, what the local coercion variables prove, the types of the local variables and the join points
-- in tail reach, the innermost first
pub record Context : Type 0 where
  pub kinds : List Kind
  pub coercions : List Ends
  pub values : List NTy
  pub joins : List JoinPoint

abbrev pub no_context : Context
no_context = record { kinds = []; coercions = []; values = []; joins = [] }

-- where what is answered is not the answer of the whole, no join point is in tail reach
abbrev pub without_joins : Context → Context
without_joins c = record c { joins = [] }

abbrev pub with_value : NTy → Context → Context
with_value t c = record c { values = t ∷ c.values }

abbrev pub with_coercion : Ends → Context → Context
with_coercion e c = record c { coercions = e ∷ c.coercions }

abbrev pub shifted_join : JoinPoint → JoinPoint
shifted_join j = record j { type = shifted_type j.type; result = shifted_type j.result }

-- behind a type variable, past which all types are shifted
abbrev pub with_type : Kind → Context → Context
with_type k c = record { kinds = k ∷ c.kinds; coercions = map shifted_ends c.coercions; values = map shifted_type c.values; joins = map shifted_join c.joins }

abbrev pub with_join : JoinPoint → Context → Context
with_join j c = record c { joins = j ∷ c.joins }

abbrev pub with_binder : NBinder → Context → Context
with_binder (NBValue t) c = with_value t c
with_binder (NBType k) c = with_type k c
with_binder (NBCo r t u) c = with_coercion (record { role = r; left = t; right = u }) c

-- behind binders that stand together, the last one innermost
abbrev pub with_binders : List NBinder → Context → Context
with_binders [] c = c
with_binders (b ∷ bs) c = with_binders bs (with_binder b c)

abbrev pub with_binds : NBinds → Context → Context
with_binds NoNBinds c = c
with_binds (MoreNBinds (NBound t e) rest) c = with_binds rest (with_value t c)

-- a join point with these parameters, of a join of type t
abbrev pub join_point : NTy → List NBinder → JoinPoint
join_point t ps = record { arity = length ps; type = binders_to ps t; result = t }

-- behind the join points of a join of type t
abbrev pub with_joins : NTy → NJoins → Context → Context
with_joins t NoNJoins c = c
with_joins t (MoreNJoins (NJoined ps e) rest) c = with_joins t rest (with_join (join_point t ps) c)

-- the first definition of a word
abbrev pub def_type : List NDecl → Word → Result NTy F
def_type [] w = Err (At Unbound None [])
def_type (NData n ps cs ∷ ds) w = def_type ds w
def_type (NNew n ps t con ∷ ds) w = def_type ds w
def_type (NFamily n ps k ∷ ds) w = def_type ds w
def_type (NAxiom n ps t u ∷ ds) w = def_type ds w
def_type (NDef n t e ∷ ds) w = if bytes_eq n w then Ok t else def_type ds w
def_type (NWrap n t e ∷ ds) w = if bytes_eq n w then Ok t else def_type ds w

abbrev pub value_type : Modules → Name → Result NTy F
value_type ms n = def_type (ms n.module) n.text

-- ATOMS

-- a literal or a variable; where its type is unlifted, it is an atom
abbrev pub is_atom : NExpr → Bool
is_atom (NLocal i) = true
is_atom (NVar n) = true
is_atom (NLit n) = true
is_atom (NApp f a) = false
is_atom (NLam b e) = false
is_atom (NLet r bs e) = false
is_atom (NCase e xt rt alts) = false
is_atom (NCast e g) = false
is_atom (NCon n args) = false
is_atom (NPrim op es) = false
is_atom (NFail t) = false
is_atom (NJoin r t js e) = false
is_atom (NJump i args) = false

-- BINDERS

-- the kinds behind a binder
abbrev pub kinds_behind : NBinder → List Kind → List Kind
kinds_behind (NBValue t) ks = ks
kinds_behind (NBType k) ks = k ∷ ks
kinds_behind (NBCo r t u) ks = ks

abbrev pub value_owes : Kind → Option FaultKind
value_owes k = if is_value_kind k then None else Some NotAType

abbrev pub coercion_owes : Kind → Kind → Option FaultKind
coercion_owes j k = if same_kind j k then None else Some KindsDiffer

-- The premises of a binder itself, and the fault of the one that is asked of it only behind what stands below it: a value's type is
-- of kind `*` or `#`, and a coercion's ends have one kind.
abbrev pub binder_judged : Modules → List Kind → NBinder → Result (Option FaultKind) F
binder_judged ms ks (NBValue t) = and_then (under 0 (kind_or_fault ms ks t)) (λ k. Ok (value_owes k))
binder_judged ms ks (NBType k) = need (is_lifted k) UnliftedVariable (Ok None)
binder_judged ms ks (NBCo r t u) = and_then (under 0 (kind_or_fault ms ks t)) (λ j. and_then (under 1 (kind_or_fault ms ks u)) (λ k. Ok (coercion_owes j k)))

abbrev pub first_fault : Option FaultKind → Option FaultKind → Option FaultKind
first_fault (Some f) o = Some f
first_fault None o = o

-- binders from part i on, each behind those before it, where this is asked behind them already
abbrev pub binders_judged : Modules → List Kind → ℕ → Option FaultKind → List NBinder → Result (Option FaultKind) F
binders_judged ms ks i owed [] = Ok owed
binders_judged ms ks i owed (b ∷ bs) = and_then (under i (binder_judged ms ks b)) (λ o. binders_judged ms (kinds_behind b ks) (i + 1) (first_fault owed o) bs)

-- what was asked of binders, behind what stands below them
abbrev pub paid : {X : Type 0} → Option FaultKind → Result X F → Result X F
paid (Some f) r = Err (At f None [])
paid None r = r

abbrev pub is_star_found : Result Kind F → Bool
is_star_found (Ok k) = is_star k
is_star_found (Err f) = false

-- what stands below a lambda over a type has a type of kind `*`
abbrev pub body_fits : Modules → List Kind → NBinder → NTy → Bool
body_fits ms ks (NBValue t) u = true
body_fits ms ks (NBType k) u = is_star_found (kind_or_fault ms (k ∷ ks) u)
body_fits ms ks (NBCo r s t) u = true

-- what is of type u behind m type variables is of type t before them: u mentions none of them, and it is t
abbrev pub leaves_as : {X : Type 0} → ℕ → NTy → NTy → FaultKind → Result X F → Result X F
leaves_as m u t differs r = need (not (has_innermost m 0 u)) EscapingType (need (same_type u (raised_type m t)) differs r)

-- ALTERNATIVES

-- what stands before an alternative
pub data Before : Type 0 where
  Start : Before
  AfterDefault : Before
  AfterLit : (n : ℤ) → Before
  AfterCon : (number : ℕ) → Before

-- a default stands first
abbrev pub default_in_order : Before → Bool
default_in_order Start = true
default_in_order AfterDefault = false
default_in_order (AfterLit n) = false
default_in_order (AfterCon i) = false

-- literals rise
abbrev pub literal_in_order : Before → ℤ → Bool
literal_in_order Start n = true
literal_in_order AfterDefault n = true
literal_in_order (AfterLit m) n = int_lt m n
literal_in_order (AfterCon i) n = false

-- constructors come in declared order
abbrev pub constructor_in_order : Before → ℕ → Bool
constructor_in_order Start n = true
constructor_in_order AfterDefault n = true
constructor_in_order (AfterLit m) n = false
constructor_in_order (AfterCon i) n = nat_lt i n

-- the alternative of a constructor for a scrutinee of type s
abbrev pub constructor_goes : Name → Option Constructor → NTy → Before → List NBinder → Result Before F
constructor_goes n None s b bs = Err (At AltConstructor None [])
constructor_goes n (Some k) s b bs =
    need (is_data_of s n k) AltConstructor (need (constructor_in_order b k.number) AltOrder (need (binders_fit n k s bs) ConArity (Ok (AfterCon k.number))))

-- an alternative for a scrutinee of type s, by its head: what stands before the next one
abbrev pub head_goes : Modules → NTy → Before → Head → List NBinder → Result Before F
head_goes ms s b head.Default bs = need (default_in_order b) AltOrder (Ok AfterDefault)
head_goes ms s b (head.Lit n) bs = need (is_int s) LitAlt (need (literal_in_order b n) AltOrder (Ok (AfterLit n)))
head_goes ms s b (head.Con n) bs = constructor_goes n (constructor ms n) s b bs

-- CALLS

abbrev pub found_constructed : Name → Option Constructor → List Given → Result NTy F
found_constructed n (Some k) gs = constructed ConArity n k gs
found_constructed n None gs = Err (At Unbound None [])

-- a jump to what stands at its distance is of the written type of the join
abbrev pub jumped : Result JoinPoint F → List Given → Result NTy F
jumped (Ok j) gs = and_then (called JumpArity j.arity j.type gs) (λ t. Ok j.result)
jumped (Err f) gs = Err (At JumpNotTail None [])

-- a primitive takes two operands of type `Int#`
abbrev pub primitive_type : NTy
primitive_type = NTFun NTInt (NTFun NTInt NTInt)

abbrev pub operated : List Given → Result NTy F
operated gs = called PrimArity 2 primitive_type gs

-- what is of type t, cast by a coercion that proves this
abbrev pub cast : NTy → Ends → Result NTy F
cast t p = need (same_role p.role R) RoleWrong (need (same_type p.left t) CastFrom (Ok p.right))

-- TYPES OF EXPRESSIONS

abbrev pub then_given : Given → Result (List Given) F → Result (List Given) F
then_given g (Ok gs) = Ok (g ∷ gs)
then_given g (Err f) = Err f

abbrev mutual
  pub type_or_fault : Modules → Context → NExpr → Result NTy F
  type_or_fault ms c (NLocal i) = at_distance c.values i
  type_or_fault ms c (NVar n) = value_type ms n
  type_or_fault ms c (NLit n) = Ok NTInt
  type_or_fault ms c (NApp f a) =
      and_then (under 0 (type_or_fault ms (without_joins c) f)) (λ t. and_then (under 1 (argument_given ms (without_joins c) a)) (λ g. applied t g))
  type_or_fault ms c (NLam b e) =
      and_then (under 0 (binder_judged ms c.kinds b)) (λ owed. and_then (under 1 (type_or_fault ms (with_binder b (without_joins c)) e)) (λ u.
      paid owed (need (body_fits ms c.kinds b u) NotAType (Ok (over_binder b u)))))
  type_or_fault ms c (NLet r bs e) =
      and_then (binds_judged ms (without_joins (if r then with_binds bs c else c)) r 0 bs) (λ i. under i (type_or_fault ms (with_binds bs c) e))
  type_or_fault ms c (NCase e xt rt alts) =
      and_then (under 0 (type_or_fault ms (without_joins c) e)) (λ s. and_then (under 1 (kind_or_fault ms c.kinds xt)) (λ j. and_then (under 2 (kind_or_fault ms c.kinds rt)) (λ k.
      and_then (alts_judged ms (with_value xt c) s rt 3 Start alts) (λ b.
      need (same_type xt s) ScrutineeType (need (is_value_kind k) NotAType (Ok rt))))))
  type_or_fault ms c (NCast e g) = and_then (under 0 (type_or_fault ms (without_joins c) e)) (λ t. and_then (under 1 (ends_or_fault ms c.kinds c.coercions g)) (λ p. cast t p))
  type_or_fault ms c (NCon n args) = and_then (args_given ms (without_joins c) 0 args) (λ gs. found_constructed n (constructor ms n) gs)
  type_or_fault ms c (NPrim op es) = and_then (operands_given ms (without_joins c) 0 es) (λ gs. operated gs)
  type_or_fault ms c (NFail t) = and_then (under 0 (kind_or_fault ms c.kinds t)) (λ k. need (is_value_kind k) NotAType (Ok t))
  type_or_fault ms c (NJoin r t js e) =
      and_then (under 0 (kind_or_fault ms c.kinds t)) (λ k. and_then (joins_judged ms (if r then with_joins t js c else c) t 1 js) (λ i.
      and_then (under i (type_or_fault ms (with_joins t js c) e)) (λ u. need (same_type u t) LetType (need (is_value_kind k) NotAType (Ok t)))))
  type_or_fault ms c (NJump i args) = and_then (args_given ms (without_joins c) 0 args) (λ gs. jumped (at_distance c.joins i) gs)

  pub argument_given : Modules → Context → NArg → Result Given F
  argument_given ms c (NATerm a) = and_then (type_or_fault ms c a) (λ t. Ok (GivenTerm t (is_atom a)))
  argument_given ms c (NAType u) = and_then (kind_or_fault ms c.kinds u) (λ k. Ok (GivenType u k))
  argument_given ms c (NACo g) = and_then (ends_or_fault ms c.kinds c.coercions g) (λ p. Ok (GivenCoercion p.role p.left p.right))

  -- arguments from part i on
  pub args_given : Modules → Context → ℕ → NArgs → Result (List Given) F
  args_given ms c i NoNArgs = Ok []
  args_given ms c i (MoreNArgs a rest) = and_then (under i (argument_given ms c a)) (λ g. then_given g (args_given ms c (i + 1) rest))

  -- operands from part i on
  pub operands_given : Modules → Context → ℕ → NExprs → Result (List Given) F
  operands_given ms c i NoNExprs = Ok []
  operands_given ms c i (MoreNExprs e rest) = and_then (under i (type_or_fault ms c e)) (λ t. then_given (GivenTerm t (is_atom e)) (operands_given ms c (i + 1) rest))

  pub bind_judged : Modules → Context → Bool → NBind → Result NTy F
  bind_judged ms c r (NBound t e) =
      and_then (under 0 (kind_or_fault ms c.kinds t)) (λ k. and_then (under 1 (type_or_fault ms c e)) (λ u.
      need (is_value_kind k) NotAType (need (same_type t u) LetType (need (atom_fits t (not r && is_atom e)) UnliftedNotAtom (Ok t)))))

  -- binds from part i on, and the number of the part after them
  pub binds_judged : Modules → Context → Bool → ℕ → NBinds → Result ℕ F
  binds_judged ms c r i NoNBinds = Ok i
  binds_judged ms c r i (MoreNBinds b rest) = and_then (under i (bind_judged ms c r b)) (λ t. binds_judged ms c r (i + 1) rest)

  -- the right side of a join point of a join of type t
  pub join_judged : Modules → Context → NTy → NJoinBind → Result NTy F
  join_judged ms c t (NJoined ps e) =
      and_then (binders_judged ms c.kinds 0 None ps) (λ owed. and_then (under (length ps) (type_or_fault ms (with_binders ps c) e)) (λ u.
      paid owed (leaves_as (type_count ps) u t LetType (Ok t))))

  -- join points from part i on, and the number of the part after them
  pub joins_judged : Modules → Context → NTy → ℕ → NJoins → Result ℕ F
  joins_judged ms c t i NoNJoins = Ok i
  joins_judged ms c t i (MoreNJoins j rest) = and_then (under i (join_judged ms c t j)) (λ u. joins_judged ms c t (i + 1) rest)

  pub alt_judged : Modules → Context → NTy → NTy → Before → NAlt → Result Before F
  alt_judged ms c s rt b (NBranch h bs e) =
      and_then (binders_judged ms c.kinds 0 None bs) (λ owed. and_then (under (length bs) (type_or_fault ms (with_binders bs c) e)) (λ u.
      and_then (head_goes ms s b h bs) (λ next. leaves_as (type_count bs) u rt AltType (Ok next))))

  -- alternatives from part i on, for a scrutinee of type s and a result of type rt
  pub alts_judged : Modules → Context → NTy → NTy → ℕ → Before → NAlts → Result Before F
  alts_judged ms c s rt i b NoNAlts = Ok b
  alts_judged ms c s rt i b (MoreNAlts a rest) = and_then (under i (alt_judged ms c s rt b a)) (λ next. alts_judged ms c s rt (i + 1) next rest)

-- TYPES READ OFF

abbrev pub answered : {X : Type 0} → Result X F → Option X
answered (Ok x) = Some x
answered (Err f) = None

abbrev pub second_of : {X Y : Type 0} → Option (X × Y) → Option Y
second_of (Some (x, y)) = Some y
second_of None = None

abbrev pub behind_coercion : Option (Role × NTy × NTy × NTy) → Option NTy
behind_coercion (Some p) = Some p.3
behind_coercion None = None

abbrev pub right_end : Option Ends → Option NTy
right_end (Some p) = Some p.right
right_end None = None

-- a type applied to the first arguments, as many as there are parameters, where they are types
abbrev pub applied_to_types : NTy → List NParam → NArgs → Option NTy
applied_to_types t [] args = Some t
applied_to_types t (p ∷ ps) (MoreNArgs (NAType u) rest) = applied_to_types (NTApp t u) ps rest
applied_to_types t (p ∷ ps) args = None

abbrev pub constructed_at : Name → NArgs → Constructor → Option NTy
constructed_at n args k = applied_to_types (NTCon (data_name n k.data_word)) k.params args

-- the type of an expression without judging its premises, where the parts that it is read off have one
abbrev pub type_read_off : Modules → Context → NExpr → Option NTy
type_read_off ms c (NLocal i) = answered (at_distance c.values i)
type_read_off ms c (NVar n) = answered (value_type ms n)
type_read_off ms c (NLit n) = Some NTInt
type_read_off ms c (NApp f (NATerm a)) = from_some (λ t. second_of (function_ends t)) (type_read_off ms c f)
type_read_off ms c (NApp f (NAType u)) = from_some (λ t. at_type t u) (type_read_off ms c f)
type_read_off ms c (NApp f (NACo g)) = from_some (λ t. behind_coercion (coercion_asked t)) (type_read_off ms c f)
type_read_off ms c (NLam b e) = from_some (λ u. Some (over_binder b u)) (type_read_off ms (with_binder b c) e)
type_read_off ms c (NLet r bs e) = type_read_off ms (with_binds bs c) e
type_read_off ms c (NCase e xt rt alts) = Some rt
type_read_off ms c (NCast e g) = right_end (answered (ends_or_fault ms c.kinds c.coercions g))
type_read_off ms c (NCon n args) = from_some (constructed_at n args) (constructor ms n)
type_read_off ms c (NPrim op es) = Some NTInt
type_read_off ms c (NFail t) = Some t
type_read_off ms c (NJoin r t js e) = Some t
type_read_off ms c (NJump i args) = from_some (λ j. Some j.result) (answered (at_distance c.joins i))
