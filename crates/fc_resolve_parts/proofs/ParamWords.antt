-- The words of parameters, one after the other.
use Rattle.std.proofs.Common.{◌≡◌, ◌+◌, ◌++◌, List, [], ◌∷◌, length, not, reverse, Ok, sym, ap, ◌∙◌, append_assoc, arith}
use Rattle.std.proofs.lemmas.List.{reverse-append}
use Rattle.fc_syntax.specs.declared.fault.FaultKind.TheVariants.{Duplicate}
use Rattle.fc_syntax.specs.Tree.{Word}
use Rattle.fc_model.specs.Faulting.{need, under, and_then}
use Rattle.fc_model.specs.Resolution.{distinct_params, plus}
use Rattle.fc_scope.specs.Among.{among}

pub param_more : (ns ns' : List Word) (a : Word) (rest : List Word) → under (length ns) (need (not (among ns a)) Duplicate (Ok (length ns))) ≡ Ok (length ns) → ns' ≡ a ∷ ns
    → distinct_params (among ns) (length ns) (a ∷ rest) ≡ distinct_params (among ns') (length ns') rest
param_more ns ns' a rest distinct is =
    ap (λ r. and_then r (λ _. distinct_params (plus a (among ns)) (length ns + 1) rest)) distinct
    ∙ ap (λ k. distinct_params (among (a ∷ ns)) k rest) (omega arith)
    ∙ ap (λ ms. distinct_params (among ms) (length ms) rest) (sym is)

-- a word goes from the words to come to those before
pub word_more : (ns ns' : List Word) (a : Word) (rest : List Word) → ns' ≡ a ∷ ns → reverse rest ++ ns' ≡ reverse (a ∷ rest) ++ ns
word_more ns ns' a rest is =
    ap (λ ms. reverse rest ++ ms) is
    ∙ sym (append_assoc (reverse rest) (a ∷ []) ns)
    ∙ ap (λ vs. vs ++ ns) (sym (reverse-append (a ∷ []) rest))

pub ruleset param_rules = (param_more, word_more)
