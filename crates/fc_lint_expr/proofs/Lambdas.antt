-- The body of a lambda, and what binders bind while the table grows.
use Rattle.std.proofs.Common.{◌≡◌, sym, ap, ◌∙◌, Bool, List, Option, Some, None, Result, Ok, Err, OnOk, refl}
use Rattle.std.specs.Prelude.{true, false}
use Rattle.fc_syntax.specs.Tree.{Kind}
use Rattle.fc_syntax.specs.declared.fault.FaultKind.{FaultKind}
use Rattle.fc_syntax.specs.declared.fault.FaultKind.TheVariants.{NotAType}
use Rattle.fc_model.specs.Calling.{over_binder}
use Rattle.fc_model.specs.Faulting.{F, and_then, need}
use Rattle.fc_model.specs.Kinding.{Modules}
use Rattle.fc_model.specs.Nameless.{NBinder, NTy}
use Rattle.fc_model.specs.Typing.{body_fits, paid}
use Rattle.fc_type_table.specs.TypeTables.{Grows, nodes_of}
use Rattle.fc_type_table.specs.declared.table.TypeTable.{TypeTable}
use Rattle.fc_type_scope.proofs.OneMore.{entered_grows}
use Rattle.fc_type_scope.specs.Behind.{IsEntered}
use Rattle.fc_type_scope.specs.declared.entering.Entered.{Entered}

pub entered_on : {X E : Type 0} (r : Result X E) (old new : TypeTable) (ks : List Kind) (bs : List NBinder) (e : Entered) → OnOk r (Grows old new) → IsEntered (nodes_of old) ks bs e → OnOk r (IsEntered (nodes_of new) ks bs e)
entered_on (Ok x) old new ks bs e g h = entered_grows (nodes_of old) (nodes_of new) ks bs e g.nodes h
entered_on (Err f) old new ks bs e g h = tt

need_then : {X Y : Type 0} (b : Bool) (kind : FaultKind) (x : X) (go : X → Result Y F) → and_then (need b kind (Ok x)) go ≡ need b kind (go x)
need_then true kind x go = refl
need_then false kind x go = refl

paid_then : {X Y : Type 0} (owed : Option FaultKind) (r : Result X F) (go : X → Result Y F) → and_then (paid owed r) go ≡ paid owed (and_then r go)
paid_then (Some kind) r go = refl
paid_then None r go = refl

-- the function comes behind the premises of the body
pub over_body : (ms : Modules) (ks : List Kind) (b : NBinder) (owed : Option FaultKind) (r : Result NTy F)
    → and_then r (λ u. paid owed (need (body_fits ms ks b u) NotAType (Ok (over_binder b u)))) ≡ and_then (and_then r (λ u. paid owed (need (body_fits ms ks b u) NotAType (Ok u)))) (λ u. Ok (over_binder b u))
over_body ms ks b owed (Ok u) = sym (paid_then owed (need (body_fits ms ks b u) NotAType (Ok u)) (λ v. Ok (over_binder b v)) ∙ ap (paid owed) (need_then (body_fits ms ks b u) NotAType u (λ v. Ok (over_binder b v))))
over_body ms ks b owed (Err f) = refl
