-- What holds of an answer, where there is one.
use Rattle.std.proofs.Common.{ℕ, zero, suc, Bool, true, false, nat_eq, if◌then◌else◌, List, [], ◌∷◌, Option, Some, None, Result, Ok, Err, IfSome, IfOk}
use Rattle.std.specs.List.{AllByRecursion}
use Rattle.fc_syntax.specs.declared.fault.FaultKind.{FaultKind}
use Rattle.fc_model.specs.Calling.{from_some}
use Rattle.fc_model.specs.Faulting.{At, F, and_then, at_distance, need, under}
use Rattle.fc_model.specs.Typing.{answered}
use Rattle.fc_rows.specs.Changing.{in_part, made}

-- OPTIONS

pub if_made : {X Y : Type 0} (P : X → Type 0) (Q : Y → Type 0) (f : X → Y) (o : Option X) → IfSome o P → ((x : X) → P x → Q (f x)) → IfSome (made f o) Q
if_made P Q f (Some x) w g = g x w
if_made P Q f None w g = tt

-- where nothing is asked of the part
pub made_is : {X Y : Type 0} (Q : Y → Type 0) (f : X → Y) (o : Option X) → ((x : X) → Q (f x)) → IfSome (made f o) Q
made_is Q f (Some x) g = g x
made_is Q f None g = tt

pub if_both : {X : Type 0} (P Q : X → Type 0) (o : Option X) → IfSome o P → IfSome o Q → IfSome o (λ x. P x × Q x)
if_both P Q (Some x) w v = (w, v)
if_both P Q None w v = tt

pub if_from_some : {X Y : Type 0} (P : X → Type 0) (Q : Y → Type 0) (f : X → Option Y) (o : Option X) → IfSome o P → ((x : X) → P x → IfSome (f x) Q) → IfSome (from_some f o) Q
if_from_some P Q f (Some x) w g = g x w
if_from_some P Q f None w g = tt

pub if_from_any : {X Y : Type 0} (Q : Y → Type 0) (f : X → Option Y) (o : Option X) → ((x : X) → IfSome (f x) Q) → IfSome (from_some f o) Q
if_from_any Q f (Some x) g = g x
if_from_any Q f None g = tt

pub if_some : {X : Type 0} (P : X → Type 0) (b : Bool) (o : Option X) → IfSome o P → IfSome (if b then o else None) P
if_some P true o w = w
if_some P false o w = tt

pub if_in_part : {X : Type 0} (P : X → Type 0) (n : ℕ) (p : List ℕ) (change : List ℕ → Option X) → ((q : List ℕ) → IfSome (change q) P) → IfSome (in_part n p change) P
if_in_part P n [] change g = tt
if_in_part P n (i ∷ p) change g = if_some P (nat_eq i n) (change p) (g p)

-- FAULTS

pub if_need : {X : Type 0} (P : X → Type 0) (b : Bool) (kind : FaultKind) (r : Result X F) → IfOk r P → IfOk (need b kind r) P
if_need P true kind r w = w
if_need P false kind r w = tt

pub if_then : {X Y : Type 0} (P : X → Type 0) (Q : Y → Type 0) (r : Result X F) (go : X → Result Y F) → IfOk r P → ((x : X) → P x → IfOk (go x) Q) → IfOk (and_then r go) Q
if_then P Q (Ok x) go w g = g x w
if_then P Q (Err f) go w g = tt

pub if_part : {X Y : Type 0} (P : X → Type 0) (Q : Y → Type 0) (i : ℕ) (r : Result X F) (go : X → Result Y F) → IfOk r P → ((x : X) → P x → IfOk (go x) Q)
    → IfOk (and_then (under i r) go) Q
if_part P Q i (Ok x) go w g = g x w
if_part P Q i (Err (At kind def path)) go w g = tt

-- where nothing is asked of what comes first
pub if_after : {X Y : Type 0} (Q : Y → Type 0) (r : Result X F) (go : X → Result Y F) → ((x : X) → IfOk (go x) Q) → IfOk (and_then r go) Q
if_after Q (Ok x) go g = g x
if_after Q (Err f) go g = tt

pub if_answered : {X : Type 0} (P : X → Type 0) (r : Result X F) → IfOk r P → IfSome (answered r) P
if_answered P (Ok x) w = w
if_answered P (Err f) w = tt

pub if_at_distance : {X : Type 0} (P : X → Type 0) (xs : List X) (i : ℕ) → AllByRecursion P xs → IfOk (at_distance xs i) P
if_at_distance P [] i w = tt
if_at_distance P (x ∷ xs) zero w = w.0
if_at_distance P (x ∷ xs) (suc i) w = if_at_distance P xs i w.1

-- EITHER BRANCH

pub either : {X : Type 0} (P : X → Type 0) (b : Bool) (x y : X) → P x → P y → P (if b then x else y)
either P true x y p q = p
either P false x y p q = q
