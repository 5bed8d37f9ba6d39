-- What binders owe: the first of them, and then those that follow.
use Rattle.std.proofs.Common.{◌≡◌, ℕ, ◌+◌, List, ◌∷◌, Option, Ok, sym, ap, ◌∙◌}
use Rattle.fc_syntax.specs.declared.fault.FaultKind.{FaultKind}
use Rattle.fc_syntax.specs.Tree.{Kind}
use Rattle.fc_model.specs.Faulting.{and_then, under}
use Rattle.fc_model.specs.Kinding.{Modules}
use Rattle.fc_model.specs.Nameless.{NBinder}
use Rattle.fc_model.specs.Says.{Refuses}
use Rattle.fc_model.specs.Typing.{binder_judged, binders_judged, first_fault, kinds_behind}
use Rattle.fc_model.specs.declared.flaw.Flawed.{Flawed}
use Rattle.fc_model.specs.declared.flaw.Flawed.TheVariants.{Memory, Flaw as OfFlaw}

-- where the premises of the first one hold, those that follow answer
pub owes_on : (ms : Modules) (ks behind : List Kind) (i next : ℕ) (owed more now : Option FaultKind) (b : NBinder) (rest all : List NBinder)
    → all ≡ b ∷ rest → under i (binder_judged ms ks b) ≡ Ok more → behind ≡ kinds_behind b ks → now ≡ first_fault owed more → next ≡ i + 1
    → binders_judged ms ks i owed all ≡ binders_judged ms behind next now rest
owes_on ms ks behind i next owed more now b rest all is first k n p =
    ap (binders_judged ms ks i owed) is ∙ ap (λ r. and_then r (λ o. binders_judged ms (kinds_behind b ks) (i + 1) (first_fault owed o) rest)) first
    ∙ ap (λ ks. binders_judged ms ks (i + 1) (first_fault owed more) rest) (sym k) ∙ ap (λ o. binders_judged ms behind (i + 1) o rest) (sym n)
    ∙ ap (λ j. binders_judged ms behind j now rest) (sym p)

-- a fault of the first one is that of all
pub owes_fault : (f : Flawed) (ms : Modules) (ks : List Kind) (i : ℕ) (owed : Option FaultKind) (b : NBinder) (rest all : List NBinder)
    → all ≡ b ∷ rest → Refuses f (under i (binder_judged ms ks b)) → Refuses f (binders_judged ms ks i owed all)
owes_fault Memory ms ks i owed b rest all is first = tt
owes_fault (OfFlaw f) ms ks i owed b rest all is first =
    ap (binders_judged ms ks i owed) is ∙ ap (λ r. and_then r (λ o. binders_judged ms (kinds_behind b ks) (i + 1) (first_fault owed o) rest)) first
