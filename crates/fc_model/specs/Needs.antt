-- The need of a parameter: the least role at which it occurs in what its declaration holds, in the order N, R, P, or P where it does
-- not occur ("Safe zero-cost coercions for Haskell" infers roles in this way).
use Rattle.std.specs.Prelude.{◌≡◌, ℕ, suc, true, false, nat_eq, if◌then◌else◌, List, [], ◌∷◌, Option, Some, None}
use Rattle.fc_syntax.specs.declared.ty.Name.{Name}
use Rattle.fc_syntax.specs.declared.ty.Role.{Role}
use Rattle.fc_syntax.specs.declared.ty.Role.TheVariants.{N, R, P}
use Rattle.fc_syntax.specs.Roles.{role_below}
use Rattle.fc_syntax.specs.Tree.{Word, Kind}
use Rattle.fc_model.specs.Kinding.{Modules, type_decl}
use Rattle.fc_model.specs.Nameless.{NTy, NTVar, NTCon, NTInt, NTApp, NTFun, NTForall, NTCoForall, NBinder, NBValue, NBType, NBCo}
use Rattle.fc_model.specs.Nameless.{NParam, NParamOf, NConDecl, NConOf, NDecl, NData, NNew, NFamily, NAxiom, NDef, NWrap}

-- ROLES

-- the first of two roles in the order N, R, P
abbrev pub least : Role → Role → Role
least r s = if role_below r s then r else s

-- the role of a part that stands at the second role in what stands at the first: at N everything is at N, and P is not looked into
abbrev pub role_within : Role → Role → Role
role_within N s = N
role_within R s = s
role_within P s = P

abbrev pub param_roles : List NParam → List Role
param_roles [] = []
param_roles (NParamOf k r ∷ ps) = r ∷ param_roles ps

-- a data type or a newtype takes its arguments at the roles of its parameters
abbrev pub declared_roles : Option NDecl → List Role
declared_roles (Some (NData n ps cs)) = param_roles ps
declared_roles (Some (NNew n ps t con)) = param_roles ps
declared_roles (Some (NFamily n ps k)) = []
declared_roles (Some (NAxiom n ps t u)) = []
declared_roles (Some (NDef n t e)) = []
declared_roles (Some (NWrap n t e)) = []
declared_roles None = []

abbrev pub name_roles : Modules → Name → List Role
name_roles ms n = declared_roles (type_decl (ms n.module) n.text)

-- an argument beyond the parameters is at N, and so is that of a family or of a variable
abbrev pub next_role : List Role → Role
next_role [] = N
next_role (r ∷ rs) = r

abbrev pub later_roles : List Role → List Role
later_roles [] = []
later_roles (r ∷ rs) = rs

-- the roles at which a type takes the arguments that it is applied to further
abbrev pub argument_roles : Modules → NTy → List Role
argument_roles ms (NTVar i) = []
argument_roles ms (NTCon n) = name_roles ms n
argument_roles ms NTInt = []
argument_roles ms (NTApp t u) = later_roles (argument_roles ms t)
argument_roles ms (NTFun t u) = []
argument_roles ms (NTForall k t) = []
argument_roles ms (NTCoForall r t u v) = []

-- NEEDS

-- the need of the type variable i of a type that stands at role r
abbrev pub need_in : Modules → Role → ℕ → NTy → Role
need_in ms r i (NTVar j) = if nat_eq i j then r else P
need_in ms r i (NTCon n) = P
need_in ms r i NTInt = P
need_in ms r i (NTApp t u) = least (need_in ms r i t) (need_in ms (role_within r (next_role (argument_roles ms t))) i u)
need_in ms r i (NTFun t u) = least (need_in ms r i t) (need_in ms r i u)
need_in ms r i (NTForall k t) = need_in ms r (suc i) t
need_in ms r i (NTCoForall s t u v) = least (need_in ms (role_within r s) i t) (least (need_in ms (role_within r s) i u) (need_in ms r i v))

-- fields stand at R
abbrev pub need_in_fields : Modules → ℕ → List NTy → Role
need_in_fields ms i [] = P
need_in_fields ms i (t ∷ ts) = least (need_in ms R i t) (need_in_fields ms i ts)

-- the ends of a coercion field are at its role, and a type that a constructor binds stands between the parameters and what follows
abbrev pub need_in_con : Modules → ℕ → List NBinder → List NTy → Role
need_in_con ms i [] fields = need_in_fields ms i fields
need_in_con ms i (NBValue t ∷ bs) fields = least (need_in ms R i t) (need_in_con ms i bs fields)
need_in_con ms i (NBType k ∷ bs) fields = need_in_con ms (suc i) bs fields
need_in_con ms i (NBCo r t u ∷ bs) fields = least (least (need_in ms r i t) (need_in ms r i u)) (need_in_con ms i bs fields)

abbrev pub need_in_cons : Modules → ℕ → List NConDecl → Role
need_in_cons ms i [] = P
need_in_cons ms i (NConOf n bs fields ∷ cs) = least (need_in_con ms i bs fields) (need_in_cons ms i cs)

-- The same by cases: in a type that stands at role r, the variable i occurs at role s.
pub data OccursAt (ms : Modules) : Role → ℕ → NTy → Role → Type 0 where
  occurs_itself : {r : Role} {i : ℕ} → OccursAt ms r i (NTVar i) r
  occurs_in_head : {r s : Role} {i : ℕ} {t u : NTy} → OccursAt ms r i t s → OccursAt ms r i (NTApp t u) s
  occurs_in_argument : {r s : Role} {i : ℕ} {t u : NTy} → OccursAt ms (role_within r (next_role (argument_roles ms t))) i u s → OccursAt ms r i (NTApp t u) s
  occurs_in_domain : {r s : Role} {i : ℕ} {t u : NTy} → OccursAt ms r i t s → OccursAt ms r i (NTFun t u) s
  occurs_in_codomain : {r s : Role} {i : ℕ} {t u : NTy} → OccursAt ms r i u s → OccursAt ms r i (NTFun t u) s
  occurs_in_forall : {r s : Role} {i : ℕ} {k : Kind} {t : NTy} → OccursAt ms r (suc i) t s → OccursAt ms r i (NTForall k t) s
  occurs_in_left : {r s o : Role} {i : ℕ} {t u v : NTy} → OccursAt ms (role_within r o) i t s → OccursAt ms r i (NTCoForall o t u v) s
  occurs_in_right : {r s o : Role} {i : ℕ} {t u v : NTy} → OccursAt ms (role_within r o) i u s → OccursAt ms r i (NTCoForall o t u v) s
  occurs_in_body : {r s o : Role} {i : ℕ} {t u v : NTy} → OccursAt ms r i v s → OccursAt ms r i (NTCoForall o t u v) s

-- in a constructor with these binders and fields
pub data OccursInCon (ms : Modules) : ℕ → List NBinder → List NTy → Role → Type 0 where
  occurs_in_field : {i : ℕ} {t : NTy} {ts : List NTy} {s : Role} → OccursAt ms R i t s → OccursInCon ms i [] (t ∷ ts) s
  occurs_in_later_field : {i : ℕ} {t : NTy} {ts : List NTy} {s : Role} → OccursInCon ms i [] ts s → OccursInCon ms i [] (t ∷ ts) s
  occurs_in_value : {i : ℕ} {t : NTy} {bs : List NBinder} {ts : List NTy} {s : Role} → OccursAt ms R i t s → OccursInCon ms i (NBValue t ∷ bs) ts s
  occurs_in_left_end : {i : ℕ} {r : Role} {t u : NTy} {bs : List NBinder} {ts : List NTy} {s : Role} → OccursAt ms r i t s → OccursInCon ms i (NBCo r t u ∷ bs) ts s
  occurs_in_right_end : {i : ℕ} {r : Role} {t u : NTy} {bs : List NBinder} {ts : List NTy} {s : Role} → OccursAt ms r i u s → OccursInCon ms i (NBCo r t u ∷ bs) ts s
  occurs_behind_value : {i : ℕ} {t : NTy} {bs : List NBinder} {ts : List NTy} {s : Role} → OccursInCon ms i bs ts s → OccursInCon ms i (NBValue t ∷ bs) ts s
  occurs_behind_type : {i : ℕ} {k : Kind} {bs : List NBinder} {ts : List NTy} {s : Role} → OccursInCon ms (suc i) bs ts s → OccursInCon ms i (NBType k ∷ bs) ts s
  occurs_behind_coercion : {i : ℕ} {r : Role} {t u : NTy} {bs : List NBinder} {ts : List NTy} {s : Role} → OccursInCon ms i bs ts s → OccursInCon ms i (NBCo r t u ∷ bs) ts s

-- in one of these constructors
pub data OccursInCons (ms : Modules) : ℕ → List NConDecl → Role → Type 0 where
  occurs_in_con : {i : ℕ} {n : Word} {bs : List NBinder} {ts : List NTy} {cs : List NConDecl} {s : Role} → OccursInCon ms i bs ts s → OccursInCons ms i (NConOf n bs ts ∷ cs) s
  occurs_in_later_con : {i : ℕ} {c : NConDecl} {cs : List NConDecl} {s : Role} → OccursInCons ms i cs s → OccursInCons ms i (c ∷ cs) s

-- the role is the least of those at which something occurs; P where it occurs at none
pub record IsNeed (occurs : Role → Type 0) (need : Role) : Type 0 where
  pub below : (s : Role) → occurs s → role_below need s ≡ true
  pub reached : role_below P need ≡ false → occurs need
