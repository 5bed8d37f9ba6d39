-- The kind of a type, or the first premise that fails; and the same as a relation by cases.
use Rattle.std.specs.Prelude.{◌≡◌, ℕ, suc, Bool, true, false, ◌&&◌, nat_eq, nat_le, if◌then◌else◌, List, [], ◌∷◌, length, Option, Some, None, Result, Ok, Err}
use Rattle.std.specs.Str.{bytes_eq}
use Rattle.fc_syntax.specs.declared.ty.Name.{Name}
use Rattle.fc_syntax.specs.declared.ty.Role.{Role}
use Rattle.fc_syntax.specs.declared.fault.FaultKind.TheVariants.{Unbound, KindMismatch, NotAType, FamilyArity, UnliftedVariable, KindsDiffer}
use Rattle.fc_syntax.specs.Roles.{role_below}
use Rattle.fc_syntax.specs.Tree.{Word, Kind, KStar, KHash, KArrow}
use Rattle.fc_model.specs.Faulting.{F, At, at_distance, need, under, and_then}
use Rattle.fc_model.specs.Nameless.{NTy, NTVar, NTCon, NTInt, NTApp, NTFun, NTForall, NTCoForall, NParam, NParamOf, NDecl, NData, NNew, NFamily, NAxiom, NDef, NWrap, NModule, NModuleOf}

-- SAMENESS

abbrev pub same_kind : Kind → Kind → Bool
same_kind KStar KStar = true
same_kind KHash KHash = true
same_kind (KArrow a b) (KArrow c d) = same_kind a c && same_kind b d
same_kind j k = false

abbrev pub same_role : Role → Role → Bool
same_role r s = role_below r s && role_below s r

abbrev pub same_word : Option Word → Option Word → Bool
same_word None None = true
same_word (Some v) (Some w) = bytes_eq v w
same_word v w = false

abbrev pub same_name : Name → Name → Bool
same_name m n = same_word m.module n.module && bytes_eq m.text n.text

-- nameless types are equal up to the words of their binders exactly where they are the same
abbrev pub same_type : NTy → NTy → Bool
same_type (NTVar i) (NTVar j) = nat_eq i j
same_type (NTCon m) (NTCon n) = same_name m n
same_type NTInt NTInt = true
same_type (NTApp a b) (NTApp c d) = same_type a c && same_type b d
same_type (NTFun a b) (NTFun c d) = same_type a c && same_type b d
same_type (NTForall j a) (NTForall k b) = same_kind j k && same_type a b
same_type (NTCoForall r a b t) (NTCoForall s c d u) = (same_role r s && same_type a c) && (same_type b d && same_type t u)
same_type s t = false

-- KINDS OF DECLARATIONS

-- what modules declare, each by its word
abbrev pub Modules : Type 0
Modules = Option Word → List NDecl

-- the declarations of the module of a word, among modules
abbrev pub decls_of_module : List NModule → Word → List NDecl
decls_of_module [] w = []
decls_of_module (NModuleOf n imports exports hidden ds ∷ ms) w = if bytes_eq n w then ds else decls_of_module ms w

abbrev pub decls_at : List NModule → Modules
decls_at ms None = []
decls_at ms (Some w) = decls_of_module ms w

-- the first type of a word
abbrev pub type_decl : List NDecl → Word → Option NDecl
type_decl [] w = None
type_decl (NData n ps cs ∷ ds) w = if bytes_eq n w then Some (NData n ps cs) else type_decl ds w
type_decl (NNew n ps t con ∷ ds) w = if bytes_eq n w then Some (NNew n ps t con) else type_decl ds w
type_decl (NFamily n ps k ∷ ds) w = if bytes_eq n w then Some (NFamily n ps k) else type_decl ds w
type_decl (NAxiom n ps t u ∷ ds) w = type_decl ds w
type_decl (NDef n t e ∷ ds) w = type_decl ds w
type_decl (NWrap n t e ∷ ds) w = type_decl ds w

-- from the kinds of the parameters to that of the result
abbrev pub arrows : List Kind → Kind → Kind
arrows [] k = k
arrows (j ∷ js) k = KArrow j (arrows js k)

abbrev pub param_kinds : List NParam → List Kind
param_kinds [] = []
param_kinds (NParamOf k r ∷ ps) = k ∷ param_kinds ps

-- data and newtypes go from the parameters' kinds to `*`; a family is applied to at least its number of parameters
abbrev pub decl_kind : Option NDecl → ℕ → Result Kind F
decl_kind (Some (NData n ps cs)) args = Ok (arrows (param_kinds ps) KStar)
decl_kind (Some (NNew n ps t con)) args = Ok (arrows (param_kinds ps) KStar)
decl_kind (Some (NFamily n ps k)) args = need (nat_le (length ps) args) FamilyArity (Ok (arrows ps k))
decl_kind (Some (NAxiom n ps t u)) args = Err (At Unbound None [])
decl_kind (Some (NDef n t e)) args = Err (At Unbound None [])
decl_kind (Some (NWrap n t e)) args = Err (At Unbound None [])
decl_kind None args = Err (At Unbound None [])

abbrev pub name_kind : Modules → Name → ℕ → Result Kind F
name_kind ms n args = decl_kind (type_decl (ms n.module) n.text) args

-- KINDS OF TYPES

-- `*` or `#`: the kinds of the types of values
abbrev pub is_value_kind : Kind → Bool
is_value_kind KStar = true
is_value_kind KHash = true
is_value_kind (KArrow a b) = false

abbrev pub is_star : Kind → Bool
is_star KStar = true
is_star KHash = false
is_star (KArrow a b) = false

-- the kind has no `#`
abbrev pub is_lifted : Kind → Bool
is_lifted KStar = true
is_lifted KHash = false
is_lifted (KArrow a b) = is_lifted a && is_lifted b

-- a head of the first kind applied to a type of the second
abbrev pub applied_kind : Kind → Kind → Result Kind F
applied_kind (KArrow a b) k = need (same_kind a k) KindMismatch (Ok b)
applied_kind KStar k = Err (At KindMismatch None [])
applied_kind KHash k = Err (At KindMismatch None [])

-- the kind of a type under local type variables of these kinds, where it is the head of that many arguments
abbrev pub head_kind_or_fault : Modules → List Kind → ℕ → NTy → Result Kind F
head_kind_or_fault ms ks args (NTVar i) = at_distance ks i
head_kind_or_fault ms ks args (NTCon n) = name_kind ms n args
head_kind_or_fault ms ks args NTInt = Ok KHash
head_kind_or_fault ms ks args (NTApp t u) =
    and_then (under 0 (head_kind_or_fault ms ks (suc args) t)) (λ j. and_then (under 1 (head_kind_or_fault ms ks 0 u)) (λ k. applied_kind j k))
head_kind_or_fault ms ks args (NTFun t u) =
    and_then (under 0 (head_kind_or_fault ms ks 0 t)) (λ j. and_then (under 1 (head_kind_or_fault ms ks 0 u)) (λ k.
    need (is_value_kind j && is_value_kind k) NotAType (Ok KStar)))
head_kind_or_fault ms ks args (NTForall k t) =
    and_then (under 0 (head_kind_or_fault ms (k ∷ ks) 0 t)) (λ j. need (is_lifted k) UnliftedVariable (need (is_star j) NotAType (Ok KStar)))
head_kind_or_fault ms ks args (NTCoForall r t u v) =
    and_then (under 0 (head_kind_or_fault ms ks 0 t)) (λ i. and_then (under 1 (head_kind_or_fault ms ks 0 u)) (λ j.
    and_then (under 2 (head_kind_or_fault ms ks 0 v)) (λ k. need (same_kind i j) KindsDiffer (need (is_value_kind k) NotAType (Ok KStar)))))

abbrev pub kind_or_fault : Modules → List Kind → NTy → Result Kind F
kind_or_fault ms ks t = head_kind_or_fault ms ks 0 t

-- FAMILIES

-- a family of that many parameters
abbrev pub is_family_of : Option NDecl → ℕ → Bool
is_family_of (Some (NFamily n ps k)) args = nat_eq (length ps) args
is_family_of (Some (NData n ps cs)) args = false
is_family_of (Some (NNew n ps t con)) args = false
is_family_of (Some (NAxiom n ps t u)) args = false
is_family_of (Some (NDef n t e)) args = false
is_family_of (Some (NWrap n t e)) args = false
is_family_of None args = false

-- a type, the head of that many arguments, that makes a family applied to exactly as many types as it has parameters
abbrev pub is_family_applied : Modules → ℕ → NTy → Bool
is_family_applied ms args (NTVar i) = false
is_family_applied ms args (NTCon n) = is_family_of (type_decl (ms n.module) n.text) args
is_family_applied ms args NTInt = false
is_family_applied ms args (NTApp t u) = is_family_applied ms (suc args) t
is_family_applied ms args (NTFun t u) = false
is_family_applied ms args (NTForall k t) = false
is_family_applied ms args (NTCoForall r t u v) = false

-- The same by cases: a type, the head of that many arguments, has a kind.
pub data HasHeadKind (ms : Modules) : List Kind → ℕ → NTy → Kind → Type 0 where
  kind_variable : {ks : List Kind} {args i : ℕ} {k : Kind} → at_distance ks i ≡ Ok k → HasHeadKind ms ks args (NTVar i) k
  kind_declared : {ks : List Kind} {args : ℕ} {n : Name} {k : Kind} → name_kind ms n args ≡ Ok k → HasHeadKind ms ks args (NTCon n) k
  kind_int : {ks : List Kind} {args : ℕ} → HasHeadKind ms ks args NTInt KHash
  kind_application : {ks : List Kind} {args : ℕ} {t u : NTy} {j k : Kind} → HasHeadKind ms ks (suc args) t (KArrow j k) → HasHeadKind ms ks 0 u j
      → HasHeadKind ms ks args (NTApp t u) k
  kind_function : {ks : List Kind} {args : ℕ} {t u : NTy} (j k : Kind) → HasHeadKind ms ks 0 t j → HasHeadKind ms ks 0 u k
      → is_value_kind j ≡ true → is_value_kind k ≡ true → HasHeadKind ms ks args (NTFun t u) KStar
  kind_forall : {ks : List Kind} {args : ℕ} {k : Kind} {t : NTy} → is_lifted k ≡ true → HasHeadKind ms (k ∷ ks) 0 t KStar
      → HasHeadKind ms ks args (NTForall k t) KStar
  kind_coforall : {ks : List Kind} {args : ℕ} {r : Role} {t u v : NTy} (j k : Kind) → HasHeadKind ms ks 0 t j → HasHeadKind ms ks 0 u j → HasHeadKind ms ks 0 v k
      → is_value_kind k ≡ true → HasHeadKind ms ks args (NTCoForall r t u v) KStar

abbrev pub HasKind : Modules → List Kind → NTy → Kind → Type 0
HasKind ms ks t k = HasHeadKind ms ks 0 t k
