-- Premises that fail, jumps, and what leaves binders.
use Rattle.std.proofs.Common.{◌≡◌, ℕ, Bool, List, [], ◌++◌, length, reverse, Option, Some, None, Result, Ok, Err, refl}
use Rattle.std.proofs.lemmas.List.{length-reverse}
use Rattle.fc_syntax.specs.Tree.{Kind}
use Rattle.fc_syntax.specs.declared.fault.FaultKind.{FaultKind}
use Rattle.fc_syntax.specs.declared.fault.FaultKind.TheVariants.{JumpNotTail}
use Rattle.fc_model.specs.Calling.{Given, type_count}
use Rattle.fc_model.specs.Faulting.{F, At, need}
use Rattle.fc_model.specs.Nameless.{NBinder, NTy}
use Rattle.fc_model.specs.Says.{Refuses, Says, fault_of}
use Rattle.fc_model.specs.Typing.{JoinPoint, answered, jumped, leaves_as, paid}
use Rattle.fc_model.specs.declared.flaw.Flawed.{Flawed}
use Rattle.fc_model.specs.declared.flaw.Flawed.TheVariants.{Memory, Flaw as OfFlaw}
use Rattle.fc_type_table.proofs.BinderKinds.{length-binder_kinds}
use Rattle.fc_type_table.specs.TypeTables.{Grows, IsType, shown}
use Rattle.fc_type_table.specs.declared.node.TypeId.{TypeId}
use Rattle.fc_type_table.specs.declared.table.TypeTable.{TypeTable}
use Rattle.fc_type_scope.proofs.Growing.{IsType-grows, shown-grows}
use Rattle.fc_type_scope.specs.Behind.{binder_kinds, kinds_past}
use Rattle.fc_lint_calls.proofs.Asked.{leaves_as-fails, leaves_as-holds, need-fails, paid-fails}
use Rattle.fc_lint_context.proofs.Faults.{refused}

-- ---- faults

refuses_need : {Y : Type 0} (f : Flawed) (b : Bool) (kind : FaultKind) (r : Result Y F) → Refuses f (need b kind (Ok (tt {0}))) → Refuses f (need b kind r)
refuses_need Memory b kind r h = tt
refuses_need (OfFlaw x) b kind r h = need-fails b kind (fault_of x) r h

refuses_paid : {Y : Type 0} (f : Flawed) (owed : Option FaultKind) (r : Result Y F) → Refuses f (paid owed (Ok (tt {0}))) → Refuses f (paid owed r)
refuses_paid Memory owed r h = tt
refuses_paid (OfFlaw x) owed r h = paid-fails owed (fault_of x) r h

-- a premise fails, or what is still asked of binders
pub need_fails : {X Y : Type 0} (v : X → Y) (a : Result X Flawed) (f : Flawed) (b : Bool) (kind : FaultKind) (r : Result Y F) → Refuses f (need b kind (Ok (tt {0}))) → a ≡ Err f → Says v a (need b kind r)
need_fails v a f b kind r h is = refused v a f (need b kind r) (refuses_need f b kind r h) is

pub paid_fails : {X Y : Type 0} (v : X → Y) (a : Result X Flawed) (f : Flawed) (owed : Option FaultKind) (r : Result Y F) → Refuses f (paid owed (Ok (tt {0}))) → a ≡ Err f → Says v a (paid owed r)
paid_fails v a f owed r h is = refused v a f (paid owed r) (refuses_paid f owed r h) is

-- ---- jumps

pub jump_none : (r : Result JoinPoint F) (gs : List Given) → None ≡ answered r → jumped r gs ≡ Err (At JumpNotTail None [])
jump_none (Ok j) gs h = cc
jump_none (Err f) gs h = refl

pub jump_some : (r : Result JoinPoint F) (j : JoinPoint) → Some j ≡ answered r → r ≡ Ok j
jump_some (Ok i) j h = cc
jump_some (Err f) j h = cc

-- ---- what leaves binders

abbrev Leaves : TypeTable → List Kind → TypeId → TypeId → FaultKind → Result (Unit {0}) Flawed → Type 0
Leaves table ks inner outer differs r =
    (js : List Kind) → IsType table (js ++ ks) inner → Says {X = Unit {0}} {Y = Unit {0}} (λ x. tt {0}) r (leaves_as (length js) (shown table (js ++ ks) inner) (shown table ks outer) differs (Ok (tt {0})))

left_at : {X : Type 0} (m : ℕ) (u t : NTy) (differs : FaultKind) (x : X) (r : Result (Unit {0}) Flawed) → Says {X = Unit {0}} {Y = Unit {0}} (λ y. tt {0}) r (leaves_as m u t differs (Ok (tt {0})))
    → Says {X = Unit {0}} {Y = X} (λ y. x) r (leaves_as m u t differs (Ok x))
left_at m u t differs x (Ok y) h = leaves_as-holds m u t differs (Ok x) h
left_at m u t differs x (Err Memory) h = tt
left_at m u t differs x (Err (OfFlaw f)) h = leaves_as-fails m u t differs (fault_of f) (Ok x) h

-- what leaves them was told in an earlier table
pub left : {X : Type 0} (x : X) (old mid new : TypeTable) (bs : List NBinder) (ks : List Kind) (inner outer : TypeId) (differs : FaultKind) (r : Result (Unit {0}) Flawed) → Grows old new → Grows mid new
    → IsType mid (kinds_past bs ks) inner → IsType old ks outer → Leaves new ks inner outer differs r
    → Says {X = Unit {0}} {Y = X} (λ y. x) r (leaves_as (type_count bs) (shown mid (kinds_past bs ks) inner) (shown old ks outer) differs (Ok x))
unfolding kinds_past
left x old mid new bs ks inner outer differs r g h inner_in outer_in said =
    rw (← shown-grows mid new (kinds_past bs ks) inner h inner_in, ← shown-grows old new ks outer g outer_in, ← length-binder_kinds bs, ← length-reverse (binder_kinds bs))
    (left_at (length (reverse (binder_kinds bs))) (shown new (kinds_past bs ks) inner) (shown new ks outer) differs x r (said (reverse (binder_kinds bs)) (IsType-grows mid new (kinds_past bs ks) inner h inner_in)))
