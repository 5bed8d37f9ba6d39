-- What takes arguments: functions, `forall`s, constructors and join points. Binders that stand together are judged as the type of what
-- takes arguments for them: so are the arguments of a constructor and of a jump, and the binders of an alternative.
use Rattle.std.specs.Prelude.{◌≡◌, ℕ, zero, suc, ◌+◌, Bool, true, false, not, ◌&&◌, ◌||◌, nat_eq, if◌then◌else◌, List, [], ◌∷◌, ◌++◌, length, map, Option, Some, None, Result, Ok, Err}
use Rattle.std.specs.Str.{bytes_eq}
use Rattle.fc_syntax.specs.declared.ty.Name.{Name}
use Rattle.fc_syntax.specs.declared.ty.Role.{Role}
use Rattle.fc_syntax.specs.declared.fault.FaultKind.{FaultKind}
use Rattle.fc_syntax.specs.declared.fault.FaultKind.TheVariants.{ArgType, KindMismatch, NotForall, NotFunction, UnliftedNotAtom}
use Rattle.fc_syntax.specs.Tree.{Word, Kind}
use Rattle.fc_model.specs.Faulting.{F, At, need}
use Rattle.fc_model.specs.Kinding.{Modules, param_kinds, same_kind, same_role, same_type}
use Rattle.fc_model.specs.Nameless.{NTy, NTVar, NTCon, NTInt, NTApp, NTFun, NTForall, NTCoForall, NParam, NConDecl, NConOf, NDecl, NData, NNew, NFamily, NAxiom, NDef, NWrap}
use Rattle.fc_model.specs.Nameless.{NBinder, NBValue, NBType, NBCo}
use Rattle.fc_model.specs.Substituting.{instantiated, raised_type}

-- WHAT A TYPE IS

-- a type whose values are there at once, and none of which is put off
abbrev pub is_unlifted : NTy → Bool
is_unlifted (NTVar i) = false
is_unlifted (NTCon n) = false
is_unlifted NTInt = true
is_unlifted (NTApp t u) = false
is_unlifted (NTFun t u) = false
is_unlifted (NTForall k t) = false
is_unlifted (NTCoForall r t u v) = false

-- the type of literals
abbrev pub is_int : NTy → Bool
is_int (NTVar i) = false
is_int (NTCon n) = false
is_int NTInt = true
is_int (NTApp t u) = false
is_int (NTFun t u) = false
is_int (NTForall k t) = false
is_int (NTCoForall r t u v) = false

-- where a function goes from and to
abbrev pub function_ends : NTy → Option (NTy × NTy)
function_ends (NTVar i) = None
function_ends (NTCon n) = None
function_ends NTInt = None
function_ends (NTApp t u) = None
function_ends (NTFun t u) = Some (t, u)
function_ends (NTForall k t) = None
function_ends (NTCoForall r t u v) = None

-- the kind of the variable that a `forall` binds
abbrev pub forall_kind : NTy → Option Kind
forall_kind (NTVar i) = None
forall_kind (NTCon n) = None
forall_kind NTInt = None
forall_kind (NTApp t u) = None
forall_kind (NTFun t u) = None
forall_kind (NTForall k t) = Some k
forall_kind (NTCoForall r t u v) = None

-- a `forall` at the type u
abbrev pub at_type : NTy → NTy → Option NTy
at_type (NTVar i) u = None
at_type (NTCon n) u = None
at_type NTInt u = None
at_type (NTApp s t) u = None
at_type (NTFun s t) u = None
at_type (NTForall k t) u = Some (instantiated u t)
at_type (NTCoForall r s t v) u = None

-- what takes a coercion: the role and the ends that it asks, and the type behind it
abbrev pub coercion_asked : NTy → Option (Role × NTy × NTy × NTy)
coercion_asked (NTVar i) = None
coercion_asked (NTCon n) = None
coercion_asked NTInt = None
coercion_asked (NTApp t u) = None
coercion_asked (NTFun t u) = None
coercion_asked (NTForall k t) = None
coercion_asked (NTCoForall r t u v) = Some (r, t, u, v)

-- the name of a data type, newtype or family
abbrev pub declared_name : NTy → Option Name
declared_name (NTVar i) = None
declared_name (NTCon n) = Some n
declared_name NTInt = None
declared_name (NTApp t u) = None
declared_name (NTFun t u) = None
declared_name (NTForall k t) = None
declared_name (NTCoForall r t u v) = None

abbrev pub application_ends : NTy → Option (NTy × NTy)
application_ends (NTVar i) = None
application_ends (NTCon n) = None
application_ends NTInt = None
application_ends (NTApp t u) = Some (t, u)
application_ends (NTFun t u) = None
application_ends (NTForall k t) = None
application_ends (NTCoForall r t u v) = None

abbrev pub from_some : {X Y : Type 0} → (X → Option Y) → Option X → Option Y
from_some f (Some x) = f x
from_some f None = None

-- `forall`s at types, one after the other
abbrev pub at_types : NTy → List NTy → Option NTy
at_types t [] = Some t
at_types t (u ∷ us) = from_some (λ v. at_types v us) (at_type t u)

-- the head of applications of types, and what it is applied to, in their order
abbrev pub type_head : NTy → NTy
type_head (NTVar i) = NTVar i
type_head (NTCon n) = NTCon n
type_head NTInt = NTInt
type_head (NTApp t u) = type_head t
type_head (NTFun t u) = NTFun t u
type_head (NTForall k t) = NTForall k t
type_head (NTCoForall r t u v) = NTCoForall r t u v

abbrev pub type_arguments : NTy → List NTy
type_arguments (NTVar i) = []
type_arguments (NTCon n) = []
type_arguments NTInt = []
type_arguments (NTApp t u) = type_arguments t ++ u ∷ []
type_arguments (NTFun t u) = []
type_arguments (NTForall k t) = []
type_arguments (NTCoForall r t u v) = []

-- BINDERS

-- how many type variables binders bind
abbrev pub type_count : List NBinder → ℕ
type_count [] = 0
type_count (NBValue t ∷ bs) = type_count bs
type_count (NBType k ∷ bs) = suc (type_count bs)
type_count (NBCo r t u ∷ bs) = type_count bs

-- the type of what takes an argument for a binder and is then of the type t, which stands behind the binder
abbrev pub over_binder : NBinder → NTy → NTy
over_binder (NBValue s) t = NTFun s t
over_binder (NBType k) t = NTForall k t
over_binder (NBCo r u v) t = NTCoForall r u v t

abbrev pub over_binders : List NBinder → NTy → NTy
over_binders [] t = t
over_binders (b ∷ bs) t = over_binder b (over_binders bs t)

-- the type of what takes arguments for binders and is then of a type that stands before them
abbrev pub binders_to : List NBinder → NTy → NTy
binders_to bs t = over_binders bs (raised_type (type_count bs) t)

-- CONSTRUCTORS

-- a constructor: the word of its data type, its number among the constructors there, and what it declares
pub record Constructor : Type 0 where
  pub data_word : Word
  pub params : List NParam
  pub number : ℕ
  pub binders : List NBinder
  pub fields : List NTy

abbrev pub con_among : Word → List NParam → ℕ → List NConDecl → Word → Option Constructor
con_among d ps i [] w = None
con_among d ps i (NConOf n bs fields ∷ cs) w =
    if bytes_eq n w then Some (record { data_word = d; params = ps; number = i; binders = bs; fields = fields }) else con_among d ps (i + 1) cs w

abbrev pub first_of : {X : Type 0} → Option X → Option X → Option X
first_of (Some x) o = Some x
first_of None o = o

-- the first constructor of a word
abbrev pub con_decl : List NDecl → Word → Option Constructor
con_decl [] w = None
con_decl (NData n ps cs ∷ ds) w = first_of (con_among n ps 0 cs w) (con_decl ds w)
con_decl (NNew n ps t con ∷ ds) w = con_decl ds w
con_decl (NFamily n ps k ∷ ds) w = con_decl ds w
con_decl (NAxiom n ps t u ∷ ds) w = con_decl ds w
con_decl (NDef n t e ∷ ds) w = con_decl ds w
con_decl (NWrap n t e ∷ ds) w = con_decl ds w

abbrev pub constructor : Modules → Name → Option Constructor
constructor ms n = con_decl (ms n.module) n.text

-- the data type of a constructor stands in the constructor's module
abbrev pub data_name : Name → Word → Name
data_name n d = record { «module» = n.module; text = d }

-- the binders of a constructor: its data type's parameters, its own types and coercions, and its fields
abbrev pub constructor_binders : Constructor → List NBinder
constructor_binders k = map NBType (param_kinds k.params) ++ (k.binders ++ map NBValue k.fields)

-- a type applied to this many variables, the innermost of which stands this far out
abbrev pub applied_to_variables : NTy → ℕ → ℕ → NTy
applied_to_variables t zero d = t
applied_to_variables t (suc m) d = applied_to_variables (NTApp t (NTVar (m + d))) m d

-- what a constructor of this name constructs, behind its binders
abbrev pub constructed_type : Name → Constructor → NTy
constructed_type n k = applied_to_variables (NTCon (data_name n k.data_word)) (length k.params) (type_count k.binders)

-- a constructor of this name as a function of its binders
abbrev pub constructor_type : Name → Constructor → NTy
constructor_type n k = over_binders (constructor_binders k) (constructed_type n k)

-- ARGUMENTS

-- an argument: a term of a type, which may be an atom, a type of a kind, or a coercion, which proves at a role that two types are equal
pub data Given : Type 0 where
  GivenTerm : (t : NTy) (atom : Bool) → Given
  GivenType : (t : NTy) (k : Kind) → Given
  GivenCoercion : (r : Role) (left right : NTy) → Given

-- an unlifted place takes an atom
abbrev pub atom_fits : NTy → Bool → Bool
atom_fits t atom = not (is_unlifted t) || atom

abbrev pub applied_to_term : Option (NTy × NTy) → NTy → Bool → Result NTy F
applied_to_term (Some (s, r)) t atom = need (same_type s t) ArgType (need (atom_fits s atom) UnliftedNotAtom (Ok r))
applied_to_term None t atom = Err (At NotFunction None [])

abbrev pub has_kind : Option Kind → Kind → Bool
has_kind (Some j) k = same_kind j k
has_kind None k = false

abbrev pub applied_to_type : Option Kind → Option NTy → Kind → Result NTy F
applied_to_type o (Some r) k = need (has_kind o k) KindMismatch (Ok r)
applied_to_type o None k = Err (At NotForall None [])

-- what is asked of a coercion is its role and its ends
abbrev pub is_asked : Role × NTy × NTy × NTy → Role → NTy → NTy → Bool
is_asked (o, s, t, u) r a b = same_role o r && (same_type s a && same_type t b)

abbrev pub applied_to_coercion : Option (Role × NTy × NTy × NTy) → Role → NTy → NTy → Result NTy F
applied_to_coercion (Some p) r a b = need (is_asked p r a b) ArgType (Ok p.3)
applied_to_coercion None r a b = Err (At NotFunction None [])

-- a head of type t applied to one argument
abbrev pub applied : NTy → Given → Result NTy F
applied t (GivenTerm u atom) = applied_to_term (function_ends t) u atom
applied t (GivenType u k) = applied_to_type (forall_kind t) (at_type t u) k
applied t (GivenCoercion r a b) = applied_to_coercion (coercion_asked t) r a b

-- how arguments meet what is asked: whether all kinds, all types and ends, and all atoms are right, and the type of the whole
pub record Met : Type 0 where
  pub kinds : Bool
  pub types : Bool
  pub atoms : Bool
  pub whole : NTy

abbrev pub and_term : NTy → NTy → Bool → Option Met → Option Met
and_term s t atom (Some m) = Some (record m { types = same_type s t && m.types; atoms = atom_fits s atom && m.atoms })
and_term s t atom None = None

abbrev pub and_kind : Option Kind → Kind → Option Met → Option Met
and_kind o k (Some m) = Some (record m { kinds = has_kind o k && m.kinds })
and_kind o k None = None

abbrev pub and_coercion : Bool → Option Met → Option Met
and_coercion same (Some m) = Some (record m { types = same && m.types })
and_coercion same None = None

-- what is of type t takes arguments one by one; nothing where one is of another sort
abbrev pub met : NTy → List Given → Option Met
met t [] = Some (record { kinds = true; types = true; atoms = true; whole = t })
met t (GivenTerm u atom ∷ gs) = from_some (λ ends. and_term ends.0 u atom (met ends.1 gs)) (function_ends t)
met t (GivenType u k ∷ gs) = from_some (λ r. and_kind (forall_kind t) k (met r gs)) (at_type t u)
met t (GivenCoercion r a b ∷ gs) = from_some (λ p. and_coercion (is_asked p r a b) (met p.3 gs)) (coercion_asked t)

abbrev pub judged_met : FaultKind → Option Met → Result NTy F
judged_met arity (Some m) = need m.kinds KindMismatch (need m.types ArgType (need m.atoms UnliftedNotAtom (Ok m.whole)))
judged_met arity None = Err (At arity None [])

-- what takes this many arguments at once: their number and sorts, else the fault of arity; then all kinds, all types and ends, and all atoms
abbrev pub called : FaultKind → ℕ → NTy → List Given → Result NTy F
called arity n t gs = need (nat_eq (length gs) n) arity (judged_met arity (met t gs))

-- a constructor given its arguments
abbrev pub constructed : FaultKind → Name → Constructor → List Given → Result NTy F
constructed arity n k gs = called arity (length (constructor_binders k)) (constructor_type n k) gs

-- The same by cases: what is of the first type takes these arguments, and is then of the other type.
pub data Takes : NTy → List Given → NTy → Type 0 where
  takes_nothing : {t : NTy} → Takes t [] t
  takes_term : {s r t : NTy} {atom : Bool} {gs : List Given} → atom_fits s atom ≡ true → Takes r gs t → Takes (NTFun s r) (GivenTerm s atom ∷ gs) t
  takes_type : {u r t : NTy} {k : Kind} {gs : List Given} → Takes (instantiated u r) gs t → Takes (NTForall k r) (GivenType u k ∷ gs) t
  takes_coercion : {o : Role} {a b r t : NTy} {gs : List Given} → Takes r gs t → Takes (NTCoForall o a b r) (GivenCoercion o a b ∷ gs) t

-- THE BINDERS OF AN ALTERNATIVE

abbrev pub is_con_type : NTy → Name → Bool
is_con_type (NTVar i) n = false
is_con_type (NTCon m) n = same_type (NTCon m) (NTCon n)
is_con_type NTInt n = false
is_con_type (NTApp t u) n = false
is_con_type (NTFun t u) n = false
is_con_type (NTForall k t) n = false
is_con_type (NTCoForall r t u v) n = false

-- the type is the data type of a constructor of this name, at as many types as it has parameters
abbrev pub is_data_of : NTy → Name → Constructor → Bool
is_data_of s n k = is_con_type (type_head s) (data_name n k.data_word) && nat_eq (length (type_arguments s)) (length k.params)

abbrev pub same_as : Option NTy → NTy → Bool
same_as (Some t) u = same_type t u
same_as None u = false

-- binders of an alternative agree with the constructor at the types of the scrutinee: in number, sort, kinds, roles and types
abbrev pub binders_fit : Name → Constructor → NTy → List NBinder → Bool
binders_fit n k s bs = same_as (at_types (constructor_type n k) (type_arguments s)) (binders_to bs s)
