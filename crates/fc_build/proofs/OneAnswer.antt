-- That files have one answer.
use Rattle.std.proofs.Common.{◌≡◌, ◌∙◌, ℕ, List, None, Some, sym, subst, arith}
use Rattle.std.proofs.lemmas.Option.{slice_get_within}
use Rattle.fc_syntax.specs.Limits.{standard_limits}
use Rattle.fc_syntax.specs.Tree.{Module}
use Rattle.fc_syntax.specs.declared.fault.Fault.{Fault}
use Rattle.fc_model.specs.Linting.{SetLints}
use Rattle.fc_model.specs.Planning.{build_order, plan_fault}
use Rattle.fc_load.proofs.Laws.{no_fault_of_read, one_fault_of_read, one_reading}
use Rattle.fc_load.specs.Loading.{Holding}
use Rattle.fc_build.proofs.SomeAnswer.{an_answer}
use Rattle.fc_build.specs.Acceptance.{Accepted, FaultOfSet, FirstFault, HaveOneAnswer, faulty, too_many, unlinted, unplanned, unread}

-- a set has one fault at most, and none that is accepted
one_of_set : (ms : List Module) (f g : Fault) → FaultOfSet ms f → FaultOfSet ms g → f ≡ g
one_of_set ms f g (unplanned p is at) (unplanned q is' at') = let same : Some p ≡ Some q = sym is ∙ is' in cc
one_of_set ms f g (unplanned p is at) (unlinted m k def path none fails at') = let clash : Some p ≡ None = sym is ∙ none in cc
one_of_set ms f g (unlinted m k def path none fails at) (unplanned p is at') = let clash : Some p ≡ None = sym is ∙ none in cc
one_of_set ms f g (unlinted m k def path none fails at) (unlinted m' k' def' path' none' fails' at') = let same : _ ≡ _ = sym fails ∙ fails' in cc

pub not_in_set : (ms : List Module) (f : Fault) → FaultOfSet ms f → plan_fault ms ≡ None → SetLints (build_order ms) → ⊥
not_in_set ms f (unplanned p is at) none lints = let clash : _ ≡ _ = sym none ∙ is in cc
not_in_set ms f (unlinted m k def path none' fails is) none lints = let clash : _ ≡ _ = sym lints ∙ fails in cc

module _ (files : List (List ℕ)) (held : Holding) where
  pub exclusive : (ms : List Module) (f : Fault) → Accepted files held ms → FirstFault files held f → ⊥
  exclusive ms f accepted (too_many file at is) = omega (arith, slice_get_within files standard_limits.modules file at, accepted.few)
  exclusive ms f accepted (unread few fault) = no_fault_of_read accepted.read fault
  exclusive ms f accepted (faulty ns few read fault) =
      let same : ns ≡ ms = one_reading read accepted.read in
      not_in_set ns f fault (subst (λ k. plan_fault k ≡ None) (sym same) accepted.planned) (subst (λ k. SetLints (build_order k)) (sym same) accepted.lints)

  one_fault : (f g : Fault) → FirstFault files held f → FirstFault files held g → f ≡ g
  one_fault f g (too_many file at is) (too_many other at' is') = let same : Some file ≡ Some other = sym at ∙ at' in cc
  one_fault f g (too_many file at is) (unread few fault) = absurd (omega (arith, slice_get_within files standard_limits.modules file at))
  one_fault f g (too_many file at is) (faulty ms few read fault) = absurd (omega (arith, slice_get_within files standard_limits.modules file at))
  one_fault f g (unread few fault) (too_many file at is) = absurd (omega (arith, slice_get_within files standard_limits.modules file at))
  one_fault f g (unread few fault) (unread few' fault') = one_fault_of_read fault fault'
  one_fault f g (unread few fault) (faulty ms few' read fault') = absurd (no_fault_of_read read fault)
  one_fault f g (faulty ms few read fault) (too_many file at is) = absurd (omega (arith, slice_get_within files standard_limits.modules file at))
  one_fault f g (faulty ms few read fault) (unread few' fault') = absurd (no_fault_of_read read fault')
  one_fault f g (faulty ms few read fault) (faulty ns few' read' fault') = one_of_set ms f g fault (subst (λ k. FaultOfSet k g) (one_reading read' read) fault')

  pub have_one_answer : HaveOneAnswer files held
  have_one_answer = record { an_answer = an_answer held files; one_set = λ ms ns a b. one_reading a.read b.read; one_fault = one_fault; not_both = exclusive }
