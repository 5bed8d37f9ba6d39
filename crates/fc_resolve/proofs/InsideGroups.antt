-- The scope inside of a group of values or join points.
use Rattle.std.proofs.Common.{◌≡◌, ◌++◌, List, [], ◌∷◌, map, reverse, length, refl, ap, ◌∙◌}
use Rattle.std.proofs.lemmas.List.{length-reverse, reverse-append}
use Rattle.fc_syntax.specs.Tree.{Word}
use Rattle.fc_model.specs.Resolution.{Locals, TermWord, Value, Join, enter_joins, enter_values, with_term}
use Rattle.fc_scope.specs.ScopeWords.{with_joins, with_values}

one_onto : (f : Word → TermWord) (vs : List Word) (x : Word) (ts : List TermWord) → map f (vs ++ x ∷ []) ++ ts ≡ map f vs ++ f x ∷ ts
one_onto f [] x ts = refl
one_onto f (v ∷ vs) x ts = ap (λ us. f v ∷ us) (one_onto f vs x ts)

-- the words of a group, the first one outermost
pub values_reversed : (ws : List Word) (s : Locals) → with_values (reverse ws) s ≡ enter_values ws s
values_reversed [] s = refl
values_reversed (x ∷ xs) s =
    ap (λ vs. with_values vs s) (reverse-append (x ∷ []) xs)
    ∙ ap (λ ts. record s { terms = ts }) (one_onto Value (reverse xs) x s.terms)
    ∙ values_reversed xs (with_term (Value x) s)

pub joins_reversed : (ws : List Word) (s : Locals) → with_joins (reverse ws) s ≡ enter_joins ws s
joins_reversed [] s = refl
joins_reversed (x ∷ xs) s =
    ap (λ vs. with_joins vs s) (reverse-append (x ∷ []) xs)
    ∙ ap (λ ts. record s { terms = ts }) (one_onto Join (reverse xs) x s.terms)
    ∙ joins_reversed xs (with_term (Join x) s)

pub values_entered : (ns ws : List Word) (s : Locals) → ns ≡ reverse ws → with_values ns s ≡ enter_values ws s
values_entered ns ws s is = ap (λ vs. with_values vs s) is ∙ values_reversed ws s

pub joins_entered : (ns ws : List Word) (s : Locals) → ns ≡ reverse ws → with_joins ns s ≡ enter_joins ws s
joins_entered ns ws s is = ap (λ vs. with_joins vs s) is ∙ joins_reversed ws s

pub as_many : (ns ws : List Word) → ns ≡ reverse ws → length ns ≡ length ws
as_many ns ws is = ap length is ∙ length-reverse ws
