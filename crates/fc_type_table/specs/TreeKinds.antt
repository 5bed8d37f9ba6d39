-- Kinds as trees, and the kinds of types whose variables carry theirs.
use Rattle.std.specs.Prelude.{ℕ, ◌-◌, Bool, true, false, ◌&&◌, nat_le, if◌then◌else◌, length, Option, Some, None}
use Rattle.fc_syntax.specs.declared.ty.Name.{Name}
use Rattle.fc_syntax.specs.Tree.{Kind, KStar, KHash, KArrow}
use Rattle.fc_model.specs.Kinding.{Modules, applied_kind, is_star, is_value_kind, name_kind, same_kind, type_decl}
use Rattle.fc_model.specs.Nameless.{NDecl, NData, NNew, NFamily, NAxiom, NDef, NWrap}
use Rattle.fc_model.specs.Typing.{answered}
use Rattle.fc_type_table.specs.Trees.{Tree, LStar, LHash, LArrow, LBound, LFree, LCon, LInt, LApp, LFun, LForall, LCoForall}

-- KINDS

abbrev pub kind_tree : Kind → Tree
kind_tree KStar = LStar
kind_tree KHash = LHash
kind_tree (KArrow a b) = LArrow (kind_tree a) (kind_tree b)

-- the kind that a tree is; a tree that is none counts as `*`
abbrev pub kind_in : Tree → Kind
kind_in LStar = KStar
kind_in LHash = KHash
kind_in (LArrow a b) = KArrow (kind_in a) (kind_in b)
kind_in (LBound i k) = KStar
kind_in (LFree l k) = KStar
kind_in (LCon n) = KStar
kind_in LInt = KStar
kind_in (LApp t u) = KStar
kind_in (LFun t u) = KStar
kind_in (LForall k t) = KStar
kind_in (LCoForall r left right t) = KStar

abbrev pub IsKind : Tree → Type 0
IsKind LStar = Unit {0}
IsKind LHash = Unit {0}
IsKind (LArrow a b) = IsKind a × IsKind b
IsKind (LBound i k) = ⊥
IsKind (LFree l k) = ⊥
IsKind (LCon n) = ⊥
IsKind LInt = ⊥
IsKind (LApp t u) = ⊥
IsKind (LFun t u) = ⊥
IsKind (LForall k t) = ⊥
IsKind (LCoForall r left right t) = ⊥

-- the tree is a kind without `#`
abbrev pub lifted_tree : Tree → Bool
lifted_tree LStar = true
lifted_tree LHash = false
lifted_tree (LArrow a b) = lifted_tree a && lifted_tree b
lifted_tree (LBound i k) = false
lifted_tree (LFree l k) = false
lifted_tree (LCon n) = false
lifted_tree LInt = false
lifted_tree (LApp t u) = false
lifted_tree (LFun t u) = false
lifted_tree (LForall k t) = false
lifted_tree (LCoForall r left right t) = false

-- KINDS OF TYPES

-- the least number of arguments that the type of a declaration is the head of: a family takes one for each parameter
abbrev pub arguments_of : Option NDecl → ℕ
arguments_of None = 0
arguments_of (Some (NData n ps cs)) = 0
arguments_of (Some (NNew n ps t con)) = 0
arguments_of (Some (NFamily n ps k)) = length ps
arguments_of (Some (NAxiom n ps t u)) = 0
arguments_of (Some (NDef n t e)) = 0
arguments_of (Some (NWrap n t e)) = 0

-- the same for a name
abbrev pub name_arguments : Modules → Name → ℕ
name_arguments ms n = arguments_of (type_decl (ms n.module) n.text)

-- the kind of a name as the head of enough arguments
abbrev pub name_kept : Modules → Name → Option Kind
name_kept ms n = answered (name_kind ms n (name_arguments ms n))

-- the least number of arguments that a type is the head of
abbrev pub arguments_needed : Modules → Tree → ℕ
arguments_needed ms LStar = 0
arguments_needed ms LHash = 0
arguments_needed ms (LArrow a b) = 0
arguments_needed ms (LBound i k) = 0
arguments_needed ms (LFree l k) = 0
arguments_needed ms (LCon n) = name_arguments ms n
arguments_needed ms LInt = 0
arguments_needed ms (LApp t u) = arguments_needed ms t - 1
arguments_needed ms (LFun t u) = 0
arguments_needed ms (LForall k t) = 0
arguments_needed ms (LCoForall r left right t) = 0

-- a kind at that many arguments, where a least number is needed
abbrev pub at_arguments : ℕ → ℕ → Option Kind → Option Kind
at_arguments least args k = if nat_le least args then k else None

-- the kind of an application, from those of its head and of what that is applied to
abbrev pub kind_of_application : Option Kind → Option Kind → Option Kind
kind_of_application None k = None
kind_of_application (Some j) None = None
kind_of_application (Some j) (Some k) = answered (applied_kind j k)

-- the kind of functions, from those of their ends
abbrev pub kind_of_function : Option Kind → Option Kind → Option Kind
kind_of_function None k = None
kind_of_function (Some j) None = None
kind_of_function (Some j) (Some k) = if is_value_kind j && is_value_kind k then Some KStar else None

-- the kind of a `forall`, from whether the kind of its variable is lifted and the kind of its body
abbrev pub kind_of_forall : Bool → Option Kind → Option Kind
kind_of_forall lifted None = None
kind_of_forall lifted (Some k) = if lifted && is_star k then Some KStar else None

-- the kind of a type that takes a coercion, from those of the ends and of the body
abbrev pub kind_of_coforall : Option Kind → Option Kind → Option Kind → Option Kind
kind_of_coforall None j k = None
kind_of_coforall (Some i) None k = None
kind_of_coforall (Some i) (Some j) None = None
kind_of_coforall (Some i) (Some j) (Some k) = if same_kind i j && is_value_kind k then Some KStar else None

-- the kind of a type as the head of enough arguments, where it has one
abbrev pub kept_kind : Modules → Tree → Option Kind
kept_kind ms LStar = None
kept_kind ms LHash = None
kept_kind ms (LArrow a b) = None
kept_kind ms (LBound i k) = Some (kind_in k)
kept_kind ms (LFree l k) = Some (kind_in k)
kept_kind ms (LCon n) = name_kept ms n
kept_kind ms LInt = Some KHash
kept_kind ms (LApp t u) = kind_of_application (kept_kind ms t) (at_arguments (arguments_needed ms u) 0 (kept_kind ms u))
kept_kind ms (LFun t u) = kind_of_function (at_arguments (arguments_needed ms t) 0 (kept_kind ms t)) (at_arguments (arguments_needed ms u) 0 (kept_kind ms u))
kept_kind ms (LForall k t) = kind_of_forall (lifted_tree k) (at_arguments (arguments_needed ms t) 0 (kept_kind ms t))
kept_kind ms (LCoForall r left right t) =
    kind_of_coforall (at_arguments (arguments_needed ms left) 0 (kept_kind ms left)) (at_arguments (arguments_needed ms right) 0 (kept_kind ms right))
    (at_arguments (arguments_needed ms t) 0 (kept_kind ms t))

-- the kind of a type, where it has one
abbrev pub own_kind : Modules → Tree → Option Kind
own_kind ms t = at_arguments (arguments_needed ms t) 0 (kept_kind ms t)
