-- The kind of a type whose variables carry theirs, or the first premise that fails.
use Rattle.std.specs.Prelude.{ℕ, suc, ◌&&◌, [], None, Result, Ok, Err}
use Rattle.fc_syntax.specs.declared.fault.FaultKind.TheVariants.{KindsDiffer, NotAType, Unbound, UnliftedVariable}
use Rattle.fc_syntax.specs.Tree.{Kind, KStar, KHash}
use Rattle.fc_model.specs.Faulting.{F, At, and_then, need, under}
use Rattle.fc_model.specs.Kinding.{Modules, applied_kind, is_star, is_value_kind, name_kind, same_kind}
use Rattle.fc_type_table.specs.TreeKinds.{kind_in, lifted_tree}
use Rattle.fc_type_table.specs.Trees.{Tree, LStar, LHash, LArrow, LBound, LFree, LCon, LInt, LApp, LFun, LForall, LCoForall}

-- of a type that takes a coercion between types of two kinds, from the kind of its body or the fault of that
abbrev pub behind_ends : Kind → Kind → Result Kind F → Result Kind F
behind_ends i j r = and_then (under 2 r) (λ k. need (same_kind i j) KindsDiffer (need (is_value_kind k) NotAType (Ok KStar)))

-- of the head of that many arguments; a tree that is no type has none
abbrev pub kind_or_fault_in : Modules → ℕ → Tree → Result Kind F
kind_or_fault_in ms args LStar = Err (At Unbound None [])
kind_or_fault_in ms args LHash = Err (At Unbound None [])
kind_or_fault_in ms args (LArrow a b) = Err (At Unbound None [])
kind_or_fault_in ms args (LBound i k) = Ok (kind_in k)
kind_or_fault_in ms args (LFree l k) = Ok (kind_in k)
kind_or_fault_in ms args (LCon n) = name_kind ms n args
kind_or_fault_in ms args LInt = Ok KHash
kind_or_fault_in ms args (LApp t u) = and_then (under 0 (kind_or_fault_in ms (suc args) t)) (λ j. and_then (under 1 (kind_or_fault_in ms 0 u)) (λ k. applied_kind j k))
kind_or_fault_in ms args (LFun t u) =
    and_then (under 0 (kind_or_fault_in ms 0 t)) (λ j. and_then (under 1 (kind_or_fault_in ms 0 u)) (λ k. need (is_value_kind j && is_value_kind k) NotAType (Ok KStar)))
kind_or_fault_in ms args (LForall k t) = and_then (under 0 (kind_or_fault_in ms 0 t)) (λ j. need (lifted_tree k) UnliftedVariable (need (is_star j) NotAType (Ok KStar)))
kind_or_fault_in ms args (LCoForall r left right t) =
    and_then (under 0 (kind_or_fault_in ms 0 left)) (λ i. and_then (under 1 (kind_or_fault_in ms 0 right)) (λ j. behind_ends i j (kind_or_fault_in ms 0 t)))
