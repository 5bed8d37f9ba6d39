-- The number of arguments first, and then what they met.
use Rattle.std.proofs.Common.{◌≡◌, ℕ, false, nat_eq, List, [], length, Option, None, Err, sym, ap, ◌∙◌, arith}
use Rattle.std.proofs.lemmas.Bool.Decides.{nat_tests}
use Rattle.fc_syntax.specs.Tree.{Kind}
use Rattle.fc_syntax.specs.declared.fault.FaultKind.{FaultKind}
use Rattle.fc_model.specs.Calling.{Met, called, judged_met, met}
use Rattle.fc_model.specs.Faulting.{At, need}
use Rattle.fc_model.specs.Nameless.{NTy}
use Rattle.fc_model.proofs.Sameness.{nat_eq_refl}
use Rattle.fc_type_table.specs.declared.node.Node.{Node}
use Rattle.fc_lint_calls.proofs.Givens.{length-givens}
use Rattle.fc_lint_calls.specs.GivenViews.{givens_at}
use Rattle.fc_lint_calls.specs.declared.arguments.Given.{Given}

apart : (i j : ℕ) → (i ≡ j → ⊥) → nat_eq i j ≡ false
apart i j h = grind (arith, nat_tests)

pub called-wrong : (ns : List Node) (ks : List Kind) (gs : List Given) (arity : FaultKind) (n : ℕ) (t : NTy) → (length gs ≡ n → ⊥) → called arity n t (givens_at ns ks gs) ≡ Err (At arity None [])
called-wrong ns ks gs arity n t h =
    ap (λ b. need b arity (judged_met arity (met t (givens_at ns ks gs)))) (ap (λ m. nat_eq m n) (length-givens ns ks gs) ∙ apart (length gs) n h)

pub called-judged : (ns : List Node) (ks : List Kind) (gs : List Given) (arity : FaultKind) (n : ℕ) (t : NTy) (o : Option Met) → length gs ≡ n → o ≡ met t (givens_at ns ks gs)
    → called arity n t (givens_at ns ks gs) ≡ judged_met arity o
called-judged ns ks gs arity n t o h e =
    ap (λ b. need b arity (judged_met arity (met t (givens_at ns ks gs)))) (ap (λ m. nat_eq m n) (length-givens ns ks gs ∙ h) ∙ nat_eq_refl n)
    ∙ ap (judged_met arity) (sym e)
