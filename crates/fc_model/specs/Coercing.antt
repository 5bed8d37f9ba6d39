-- What a coercion proves: the types that it relates, its ends, and the role at which it does; or the first premise that fails.
-- The forms and their premises are those of System FC with roles ("Safe zero-cost coercions for Haskell").
use Rattle.std.specs.Prelude.{ℕ, ◌+◌, Bool, true, false, not, ◌&&◌, nat_eq, if◌then◌else◌, List, [], ◌∷◌, ◌++◌, length, map, Option, Some, None, Result, Ok, Err}
use Rattle.std.specs.Str.{bytes_eq}
use Rattle.fc_syntax.specs.declared.ty.Name.{Name}
use Rattle.fc_syntax.specs.declared.ty.Role.{Role}
use Rattle.fc_syntax.specs.declared.ty.Role.TheVariants.{N, R, P}
use Rattle.fc_syntax.specs.declared.fault.FaultKind.TheVariants.{AxiomArity, EndsDiffer, KindMismatch, KindsDiffer, NotAType, NotInjective, NthRange, RoleWrong, UnliftedVariable, Unbound}
use Rattle.fc_syntax.specs.Tree.{Word, Kind, KStar}
use Rattle.fc_model.specs.Calling.{application_ends, applied_to_variables}
use Rattle.fc_model.specs.Faulting.{F, At, at_distance, need, under, and_then}
use Rattle.fc_model.specs.Kinding.{Modules, is_family_applied, is_lifted, is_value_kind, kind_or_fault, name_kind, param_kinds, same_kind, same_name, same_role, same_type, type_decl}
use Rattle.fc_model.specs.Nameless.{NTy, NTVar, NTCon, NTInt, NTApp, NTFun, NTForall, NTCoForall, NParam, NDecl, NData, NNew, NFamily, NAxiom, NDef, NWrap}
use Rattle.fc_model.specs.Nameless.{NCo, NGVar, NGRefl, NGSym, NGTrans, NGTc, NGCapp, NGFun, NGAll, NGCoAll, NGInst, NGNth, NGLeft, NGRight, NGSub, NGAx, NGUniv, NCos, NoNCos, MoreNCos}
use Rattle.fc_model.specs.Needs.{later_roles, name_roles, next_role, param_roles, role_within}
use Rattle.fc_model.specs.Substituting.{instantiated, shifted_type, substituted_type, types_before}

-- ENDS

-- what a coercion proves
pub record Ends : Type 0 where
  pub role : Role
  pub left : NTy
  pub right : NTy

abbrev pub ends : Role → NTy → NTy → Ends
ends r s t = record { role = r; left = s; right = t }

abbrev pub lefts : List Ends → List NTy
lefts [] = []
lefts (e ∷ es) = e.left ∷ lefts es

abbrev pub rights : List Ends → List NTy
rights [] = []
rights (e ∷ es) = e.right ∷ rights es

-- past one binder more of a type variable
abbrev pub shifted_ends : Ends → Ends
shifted_ends e = record { role = e.role; left = shifted_type e.left; right = shifted_type e.right }

-- KINDS OF ENDS

abbrev pub both_found : (Kind → Kind → Bool) → Result Kind F → Result Kind F → Bool
both_found f (Ok j) (Ok k) = f j k
both_found f (Ok j) (Err g) = false
both_found f (Err g) k = false

abbrev pub have_one_kind : Modules → List Kind → NTy → NTy → Bool
have_one_kind ms ks t u = both_found same_kind (kind_or_fault ms ks t) (kind_or_fault ms ks u)

-- both are types of values, or both are unlifted
abbrev pub same_value_kind : Kind → Kind → Bool
same_value_kind j k = is_value_kind j && same_kind j k

abbrev pub have_one_value_kind : Modules → List Kind → NTy → NTy → Bool
have_one_value_kind ms ks t u = both_found same_value_kind (kind_or_fault ms ks t) (kind_or_fault ms ks u)

abbrev pub is_found : Kind → Result Kind F → Bool
is_found j (Ok k) = same_kind j k
is_found j (Err f) = false

abbrev pub is_of_kind : Modules → List Kind → Kind → NTy → Bool
is_of_kind ms ks k t = is_found k (kind_or_fault ms ks t)

abbrev pub is_value_found : Result Kind F → Bool
is_value_found (Ok k) = is_value_kind k
is_value_found (Err f) = false

abbrev pub is_value_type : Modules → List Kind → NTy → Bool
is_value_type ms ks t = is_value_found (kind_or_fault ms ks t)

abbrev pub is_any_found : Result Kind F → Bool
is_any_found (Ok k) = true
is_any_found (Err f) = false

-- both ends have kinds
abbrev pub are_kinded : Modules → List Kind → NTy → NTy → Bool
are_kinded ms ks t u = is_any_found (kind_or_fault ms ks t) && is_any_found (kind_or_fault ms ks u)

-- ARGUMENTS

-- a type applied to others, one after the other
abbrev pub applied_to : NTy → List NTy → NTy
applied_to t [] = t
applied_to t (u ∷ us) = applied_to (NTApp t u) us

-- in what stands at role r, each is at the role of its parameter; beyond the parameters at N
abbrev pub are_at_roles : Role → List Role → List Ends → Bool
are_at_roles r rs [] = true
are_at_roles r rs (e ∷ es) = same_role e.role (role_within r (next_role rs)) && are_at_roles r (later_roles rs) es

-- both ends of each are of the kind of its parameter
abbrev pub are_of_kinds : Modules → List Kind → List Kind → List Ends → Bool
are_of_kinds ms ks [] es = true
are_of_kinds ms ks (j ∷ js) [] = true
are_of_kinds ms ks (j ∷ js) (e ∷ es) = (is_of_kind ms ks j e.left && is_of_kind ms ks j e.right) && are_of_kinds ms ks js es

-- a declared type at as many arguments, which it takes, where both ends have kinds
abbrev pub declared_ends : Modules → List Kind → Result Kind F → Ends → Result Ends F
declared_ends ms ks (Ok k) e = need (are_kinded ms ks e.left e.right) KindMismatch (Ok e)
declared_ends ms ks (Err f) e = Err f

-- what takes a coercion between the first two types, which have one kind, and is then of the third, which is a type of values
abbrev pub coforall_kinded : Modules → List Kind → NTy → NTy → NTy → Result Kind F
coforall_kinded ms ks t u v = need (have_one_kind ms ks t u) KindsDiffer (need (is_value_type ms ks v) NotAType (Ok KStar))

-- FORALLS

abbrev pub forall_parts : NTy → Option (Kind × NTy)
forall_parts (NTVar i) = None
forall_parts (NTCon n) = None
forall_parts NTInt = None
forall_parts (NTApp t u) = None
forall_parts (NTFun t u) = None
forall_parts (NTForall k t) = Some (k, t)
forall_parts (NTCoForall r t u v) = None

-- two `forall`s over variables of one kind, at the ends of another coercion, which is at N and between types of that kind
abbrev pub instantiated_ends : Modules → List Kind → Role → Option (Kind × NTy) → Option (Kind × NTy) → Ends → Result Ends F
instantiated_ends ms ks r (Some (j, t)) (Some (k, u)) e =
    need (same_kind j k) EndsDiffer (need (same_role e.role N) RoleWrong (need (is_of_kind ms ks j e.left && is_of_kind ms ks j e.right) KindMismatch
    (Ok (record { role = r; left = instantiated e.left t; right = instantiated e.right u }))))
instantiated_ends ms ks r (Some p) None e = Err (At EndsDiffer None [])
instantiated_ends ms ks r None q e = Err (At EndsDiffer None [])

-- PARTS OF TYPES

-- what a type is made of: a declared type and its arguments, a function, or what takes a coercion
pub data Shape : Type 0 where
  Named : (n : Name) (ts : List NTy) → Shape
  Function : (t u : NTy) → Shape
  Equality : (r : Role) (t u v : NTy) → Shape
  NoShape : Shape

abbrev pub applied_shape : Shape → NTy → Shape
applied_shape (Named n ts) u = Named n (ts ++ u ∷ [])
applied_shape (Function s t) u = NoShape
applied_shape (Equality r s t v) u = NoShape
applied_shape NoShape u = NoShape

abbrev pub shape_of : NTy → Shape
shape_of (NTVar i) = NoShape
shape_of (NTCon n) = Named n []
shape_of NTInt = NoShape
shape_of (NTApp t u) = applied_shape (shape_of t) u
shape_of (NTFun t u) = Function t u
shape_of (NTForall k t) = NoShape
shape_of (NTCoForall r t u v) = Equality r t u v

-- a data type can be taken apart at N and at R, a newtype at N alone, since at R it is what it holds, and a family not at all
abbrev pub is_injective : Role → Option NDecl → Bool
is_injective r (Some (NData n ps cs)) = true
is_injective r (Some (NNew n ps t con)) = same_role r N
is_injective r (Some (NFamily n ps k)) = false
is_injective r (Some (NAxiom n ps t u)) = false
is_injective r (Some (NDef n t e)) = false
is_injective r (Some (NWrap n t e)) = false
is_injective r None = false

-- the arguments of both in pairs, each at the role of its parameter
abbrev pub paired : Role → List Role → List NTy → List NTy → List Ends
paired r rs [] us = []
paired r rs (t ∷ ts) [] = []
paired r rs (t ∷ ts) (u ∷ us) = record { role = role_within r (next_role rs); left = t; right = u } ∷ paired r (later_roles rs) ts us

abbrev pub named_parts : Modules → Role → Name → List NTy → Shape → Option (List Ends)
named_parts ms r m ts (Named n us) =
    if (same_name m n && nat_eq (length ts) (length us)) && is_injective r (type_decl (ms m.module) m.text) then Some (paired r (name_roles ms m) ts us) else None
named_parts ms r m ts (Function t u) = None
named_parts ms r m ts (Equality o t u v) = None
named_parts ms r m ts NoShape = None

abbrev pub function_parts : Role → NTy → NTy → Shape → Option (List Ends)
function_parts r s t (Function u v) = Some (record { role = role_within r R; left = s; right = u } ∷ record { role = role_within r R; left = t; right = v } ∷ [])
function_parts r s t (Named n ts) = None
function_parts r s t (Equality o u v w) = None
function_parts r s t NoShape = None

abbrev pub equality_parts : Role → Role → NTy → NTy → NTy → Shape → Option (List Ends)
equality_parts r o s t u (Equality q v w x) =
    if same_role o q then Some (record { role = role_within r o; left = s; right = v } ∷ record { role = role_within r o; left = t; right = w } ∷ record { role = role_within r R; left = u; right = x } ∷ [])
    else None
equality_parts r o s t u (Named n ts) = None
equality_parts r o s t u (Function v w) = None
equality_parts r o s t u NoShape = None

-- the parts of two types that are related at role r, in pairs, where both can be taken apart alike
abbrev pub parts_of : Modules → Role → Shape → Shape → Option (List Ends)
parts_of ms r (Named n ts) b = named_parts ms r n ts b
parts_of ms r (Function t u) b = function_parts r t u b
parts_of ms r (Equality o t u v) b = equality_parts r o t u v b
parts_of ms r NoShape b = None

-- the part of a number, between types of one kind
abbrev pub part_of_one_kind : Modules → List Kind → Result Ends F → Result Ends F
part_of_one_kind ms ks (Ok e) = need (have_one_kind ms ks e.left e.right) KindsDiffer (Ok e)
part_of_one_kind ms ks (Err f) = Err (At NthRange None [])

abbrev pub nth_ends : Modules → List Kind → ℕ → Option (List Ends) → Result Ends F
nth_ends ms ks i (Some es) = part_of_one_kind ms ks (at_distance es i)
nth_ends ms ks i None = Err (At NotInjective None [])

-- two applications, neither of which makes a family applied to exactly as many types as it has parameters
abbrev pub are_injective_applications : Modules → NTy → NTy → Bool
are_injective_applications ms t u = not (is_family_applied ms 0 t) && not (is_family_applied ms 0 u)

-- the heads, or the arguments, of both
abbrev pub split_ends : Modules → List Kind → (NTy × NTy → NTy) → Bool → Option (NTy × NTy) → Option (NTy × NTy) → Result Ends F
split_ends ms ks side apart (Some p) (Some q) =
    need apart NotInjective (need (have_one_kind ms ks (side p) (side q)) KindsDiffer (Ok (record { role = N; left = side p; right = side q })))
split_ends ms ks side apart (Some p) None = Err (At NotInjective None [])
split_ends ms ks side apart None q = Err (At NotInjective None [])

abbrev pub side_ends : Modules → List Kind → (NTy × NTy → NTy) → Ends → Result Ends F
side_ends ms ks side e =
    need (same_role e.role N) RoleWrong (split_ends ms ks side (are_injective_applications ms e.left e.right) (application_ends e.left) (application_ends e.right))

-- AXIOMS

-- an axiom: the kinds and the roles of its parameters, the types that it relates behind them, and at which role
pub record Axiom : Type 0 where
  pub params : List Kind
  pub roles : List Role
  pub ends : Ends

-- the first axiom of a word: that of a newtype, which stands in the module of its axiom, or an equation of a family
abbrev pub newtype_axiom : Option Word → Word → List NParam → NTy → Axiom
newtype_axiom m n ps t = record {
  params = param_kinds ps;
  roles = param_roles ps;
  ends = record { role = R; left = applied_to_variables (NTCon (record { «module» = m; text = n })) (length ps) 0; right = t };
}

abbrev pub family_axiom : List Kind → NTy → NTy → Axiom
family_axiom ks t u = record { params = ks; roles = []; ends = record { role = N; left = t; right = u } }

abbrev pub axiom_decl : Option Word → List NDecl → Word → Option Axiom
axiom_decl m [] w = None
axiom_decl m (NData n ps cs ∷ ds) w = axiom_decl m ds w
axiom_decl m (NNew n ps t con ∷ ds) w = if bytes_eq con w then Some (newtype_axiom m n ps t) else axiom_decl m ds w
axiom_decl m (NFamily n ps k ∷ ds) w = axiom_decl m ds w
axiom_decl m (NAxiom n ps t u ∷ ds) w = if bytes_eq n w then Some (family_axiom ps t u) else axiom_decl m ds w
axiom_decl m (NDef n t e ∷ ds) w = axiom_decl m ds w
axiom_decl m (NWrap n t e ∷ ds) w = axiom_decl m ds w

abbrev pub axiom_named : Modules → Name → Option Axiom
axiom_named ms n = axiom_decl n.module (ms n.module) n.text

-- types in place of the parameters, the last of which is the innermost
abbrev pub at_parameters : List NTy → NTy → NTy
at_parameters ts t = substituted_type (types_before ts NTVar) t

-- an axiom at the ends of coercions
abbrev pub axiom_ends : Modules → List Kind → Option Axiom → List Ends → Result Ends F
axiom_ends ms ks (Some a) es =
    need (nat_eq (length es) (length a.params)) AxiomArity (need (are_at_roles a.ends.role a.roles es) RoleWrong (need (are_of_kinds ms ks a.params es) KindsDiffer
    (Ok (record { role = a.ends.role; left = at_parameters (lefts es) a.ends.left; right = at_parameters (rights es) a.ends.right }))))
axiom_ends ms ks None es = Err (At Unbound None [])

-- FORMS

-- one after the other
abbrev pub joined_ends : Ends → Ends → Result Ends F
joined_ends e d = need (same_role e.role d.role) RoleWrong (need (same_type e.right d.left) EndsDiffer (Ok (ends e.role e.left d.right)))

-- a declared type at the ends of coercions
abbrev pub constructed_ends : Modules → List Kind → Role → Name → List Ends → Result Ends F
constructed_ends ms ks r n es =
    need (are_at_roles r (name_roles ms n) es) RoleWrong (declared_ends ms ks (name_kind ms n (length es)) (ends r (applied_to (NTCon n) (lefts es)) (applied_to (NTCon n) (rights es))))

abbrev pub applied_ends : Modules → List Kind → Ends → Ends → Result Ends F
applied_ends ms ks e d =
    need (not (same_role e.role P) && same_role d.role N) RoleWrong (need (are_kinded ms ks (NTApp e.left d.left) (NTApp e.right d.right)) KindMismatch
    (Ok (ends e.role (NTApp e.left d.left) (NTApp e.right d.right))))

abbrev pub arrow_ends : Modules → List Kind → Ends → Ends → Result Ends F
arrow_ends ms ks e d =
    need (same_role e.role d.role && not (same_role e.role P)) RoleWrong (need (have_one_value_kind ms ks e.left e.right && have_one_value_kind ms ks d.left d.right) NotAType
    (Ok (ends e.role (NTFun e.left d.left) (NTFun e.right d.right))))

-- behind a type variable of a kind
abbrev pub forall_ends : Modules → List Kind → Kind → Ends → Result Ends F
forall_ends ms ks k e =
    need (is_lifted k) UnliftedVariable (need (is_of_kind ms (k ∷ ks) KStar e.left && is_of_kind ms (k ∷ ks) KStar e.right) NotAType
    (Ok (ends e.role (NTForall k e.left) (NTForall k e.right))))

-- what takes a coercion at role s
abbrev pub coforall_ends : Modules → List Kind → Role → Role → Ends → Ends → Ends → Result Ends F
coforall_ends ms ks r s e d b =
    need (are_at_roles r (s ∷ s ∷ R ∷ []) (e ∷ d ∷ b ∷ [])) RoleWrong (and_then (coforall_kinded ms ks e.left d.left b.left) (λ _.
    and_then (coforall_kinded ms ks e.right d.right b.right) (λ _. Ok (ends r (NTCoForall s e.left d.left b.left) (NTCoForall s e.right d.right b.right)))))

abbrev pub instance_ends : Modules → List Kind → Ends → Ends → Result Ends F
instance_ends ms ks e d = instantiated_ends ms ks e.role (forall_parts e.left) (forall_parts e.right) d

abbrev pub part_ends : Modules → List Kind → ℕ → Ends → Result Ends F
part_ends ms ks i e = need (not (same_role e.role P)) NotInjective (nth_ends ms ks i (parts_of ms e.role (shape_of e.left) (shape_of e.right)))

abbrev pub represented_ends : Ends → Result Ends F
represented_ends e = need (same_role e.role N) RoleWrong (Ok (ends R e.left e.right))

-- types of one kind
abbrev pub universal_ends : NTy → NTy → Kind → Kind → Result Ends F
universal_ends t u j k = need (same_kind j k) KindsDiffer (Ok (ends P t u))

-- COERCIONS

abbrev pub then_ends : Ends → Result (List Ends) F → Result (List Ends) F
then_ends e (Ok es) = Ok (e ∷ es)
then_ends e (Err f) = Err f

-- the coercion variables in scope are given by what they prove, the innermost first
abbrev mutual
  pub ends_or_fault : Modules → List Kind → List Ends → NCo → Result Ends F
  ends_or_fault ms ks cs (NGVar i) = at_distance cs i
  ends_or_fault ms ks cs (NGRefl r t) = and_then (under 0 (kind_or_fault ms ks t)) (λ k. Ok (ends r t t))
  ends_or_fault ms ks cs (NGSym g) = and_then (under 0 (ends_or_fault ms ks cs g)) (λ e. Ok (ends e.role e.right e.left))
  ends_or_fault ms ks cs (NGTrans g h) = and_then (under 0 (ends_or_fault ms ks cs g)) (λ e. and_then (under 1 (ends_or_fault ms ks cs h)) (λ d. joined_ends e d))
  ends_or_fault ms ks cs (NGTc r n gs) = and_then (all_ends_or_fault ms ks cs 0 gs) (λ es. constructed_ends ms ks r n es)
  ends_or_fault ms ks cs (NGCapp g h) = and_then (under 0 (ends_or_fault ms ks cs g)) (λ e. and_then (under 1 (ends_or_fault ms ks cs h)) (λ d. applied_ends ms ks e d))
  ends_or_fault ms ks cs (NGFun g h) = and_then (under 0 (ends_or_fault ms ks cs g)) (λ e. and_then (under 1 (ends_or_fault ms ks cs h)) (λ d. arrow_ends ms ks e d))
  ends_or_fault ms ks cs (NGAll k g) = and_then (under 0 (ends_or_fault ms (k ∷ ks) (map shifted_ends cs) g)) (λ e. forall_ends ms ks k e)
  ends_or_fault ms ks cs (NGCoAll r s f g h) =
      and_then (under 0 (ends_or_fault ms ks cs f)) (λ e. and_then (under 1 (ends_or_fault ms ks cs g)) (λ d. and_then (under 2 (ends_or_fault ms ks cs h)) (λ b.
      coforall_ends ms ks r s e d b)))
  ends_or_fault ms ks cs (NGInst g h) = and_then (under 0 (ends_or_fault ms ks cs g)) (λ e. and_then (under 1 (ends_or_fault ms ks cs h)) (λ d. instance_ends ms ks e d))
  ends_or_fault ms ks cs (NGNth i g) = and_then (under 0 (ends_or_fault ms ks cs g)) (λ e. part_ends ms ks i e)
  ends_or_fault ms ks cs (NGLeft g) = and_then (under 0 (ends_or_fault ms ks cs g)) (λ e. side_ends ms ks (λ p. p.0) e)
  ends_or_fault ms ks cs (NGRight g) = and_then (under 0 (ends_or_fault ms ks cs g)) (λ e. side_ends ms ks (λ p. p.1) e)
  ends_or_fault ms ks cs (NGSub g) = and_then (under 0 (ends_or_fault ms ks cs g)) (λ e. represented_ends e)
  ends_or_fault ms ks cs (NGAx n gs) = and_then (all_ends_or_fault ms ks cs 0 gs) (λ es. axiom_ends ms ks (axiom_named ms n) es)
  ends_or_fault ms ks cs (NGUniv t u) = and_then (under 0 (kind_or_fault ms ks t)) (λ j. and_then (under 1 (kind_or_fault ms ks u)) (λ k. universal_ends t u j k))

  -- coercions from part i on
  pub all_ends_or_fault : Modules → List Kind → List Ends → ℕ → NCos → Result (List Ends) F
  all_ends_or_fault ms ks cs i NoNCos = Ok []
  all_ends_or_fault ms ks cs i (MoreNCos g rest) = and_then (under i (ends_or_fault ms ks cs g)) (λ e. then_ends e (all_ends_or_fault ms ks cs (i + 1) rest))
