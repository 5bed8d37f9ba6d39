-- Arguments: one more, looked up, in a table that grows.
use Rattle.std.proofs.Common.{◌≡◌, ℕ, ◌+◌, false, ◌<◌, ◌≤◌, List, [], ◌∷◌, ◌++◌, drop, get_or, length, refl, sym, ap, subst, ◌∙◌}
use Rattle.std.proofs.Math.ListN.{drop_of_length-le}
use Rattle.std.proofs.lemmas.List.{drop_more, length-map, map-append}
use Rattle.std.proofs.lemmas.List.Elements.{All-append, All-cons, All-drop, All-get_or, All-head, All-nil, All-tail}
use Rattle.fc_syntax.specs.Tree.{Kind}
use Rattle.fc_model.specs.Calling as words
use Rattle.fc_type_scope.proofs.Proven.{IsEndsAt-grows, table_rules}
use Rattle.fc_type_table.proofs.Numbers.{IsKindAt-grows, IsTypeAt-grows, kind_at-grows, shown_at-grows}
use Rattle.fc_type_table.specs.Nodes.{Extends, kind_at}
use Rattle.fc_type_table.specs.Scopes.{shown_at}
use Rattle.fc_type_table.specs.declared.node.Node.{Node}
use Rattle.fc_lint_calls.specs.GivenViews.{AreGivenAt, IsGivenAt, given_at, givens_at}
use Rattle.fc_lint_calls.specs.declared.arguments.Given.{Given}
use Rattle.fc_lint_calls.specs.declared.arguments.Given.TheVariants.{Term, OfType, Coercion}

-- ---- one argument

pub IsGivenAt-grows : (old new : List Node) (ks : List Kind) (g : Given) → Extends old new → IsGivenAt old ks g → IsGivenAt new ks g
IsGivenAt-grows old new ks (Term t atom) more h = IsTypeAt-grows old new ks t.0 more h
IsGivenAt-grows old new ks (OfType t k) more h = (IsTypeAt-grows old new ks t.0 more h.0, IsKindAt-grows old new k.0 more h.1)
IsGivenAt-grows old new ks (Coercion e) more h = IsEndsAt-grows old new ks e more h

pub given_at-grows : (old new : List Node) (ks : List Kind) (g : Given) → Extends old new → IsGivenAt old ks g → given_at new ks g ≡ given_at old ks g
given_at-grows old new ks (Term t atom) more h = ap (λ x. words.GivenTerm x atom) (shown_at-grows old new ks t.0 more h)
given_at-grows old new ks (OfType t k) more h =
    ap (λ x. words.GivenType x (kind_at new k.0)) (shown_at-grows old new ks t.0 more h.0) ∙ ap (words.GivenType (shown_at old ks t.0)) (kind_at-grows old new k.0 more h.1)
given_at-grows old new ks (Coercion e) more h =
    ap (λ x. words.GivenCoercion e.role x (shown_at new ks e.right.0)) (shown_at-grows old new ks e.left.0 more h.left)
    ∙ ap (λ x. words.GivenCoercion e.role (shown_at old ks e.left.0) x) (shown_at-grows old new ks e.right.0 more h.right)

-- ---- several

pub AreGivenAt-none : (ns : List Node) (ks : List Kind) → AreGivenAt ns ks []
AreGivenAt-none ns ks = record { each = All-nil (IsGivenAt ns ks) }

pub AreGivenAt-at : (ns : List Node) (ks : List Kind) (gs : List Given) (i : ℕ) (d : Given) → i < length gs → AreGivenAt ns ks gs → IsGivenAt ns ks (get_or gs i d)
AreGivenAt-at ns ks gs i d low h = All-get_or (IsGivenAt ns ks) gs i d low h.each

pub AreGivenAt-grows : (old new : List Node) (ks : List Kind) (gs : List Given) → Extends old new → AreGivenAt old ks gs → AreGivenAt new ks gs
AreGivenAt-grows old new ks [] more h = AreGivenAt-none new ks
AreGivenAt-grows old new ks (g ∷ gs) more h =
    let rest = AreGivenAt-grows old new ks gs more (record { each = All-tail (IsGivenAt old ks) g gs h.each }) in
    record { each = All-cons (IsGivenAt new ks) g gs (IsGivenAt-grows old new ks g more (All-head (IsGivenAt old ks) g gs h.each)) rest.each }

-- one more, behind the others, while the table grew
pub AreGivenAt-push : (old new : List Node) (ks : List Kind) (gs pushed : List Given) (g : Given) → Extends old new → AreGivenAt old ks gs → IsGivenAt new ks g → pushed ≡ gs ++ g ∷ [] → AreGivenAt new ks pushed
AreGivenAt-push old new ks gs pushed g more h t e =
    let before = AreGivenAt-grows old new ks gs more h in
    subst (AreGivenAt new ks) (sym e) (record { each = All-append (IsGivenAt new ks) gs (g ∷ []) before.each (All-cons (IsGivenAt new ks) g [] t (All-nil (IsGivenAt new ks))) })

pub givens-none : (ns : List Node) (ks : List Kind) → givens_at ns ks [] ≡ []
unfolding givens_at
givens-none ns ks = refl

pub givens-cons : (ns : List Node) (ks : List Kind) (g : Given) (gs : List Given) → givens_at ns ks (g ∷ gs) ≡ given_at ns ks g ∷ givens_at ns ks gs
unfolding givens_at
givens-cons ns ks g gs = refl

givens-append : (ns : List Node) (ks : List Kind) (gs more : List Given) → givens_at ns ks (gs ++ more) ≡ givens_at ns ks gs ++ givens_at ns ks more
unfolding givens_at
givens-append ns ks gs more = map-append (given_at ns ks) gs more

pub givens-grow : (old new : List Node) (ks : List Kind) (gs : List Given) → Extends old new → AreGivenAt old ks gs → givens_at new ks gs ≡ givens_at old ks gs
unfolding givens_at
givens-grow old new ks [] more h = refl
givens-grow old new ks (g ∷ gs) more h =
    let here : given_at new ks g ≡ given_at old ks g = given_at-grows old new ks g more (All-head (IsGivenAt old ks) g gs h.each) in
    cc (here, givens-grow old new ks gs more (record { each = All-tail (IsGivenAt old ks) g gs h.each }))

-- one more, behind the others, while the table grew
pub givens-push : (old new : List Node) (ks : List Kind) (gs pushed : List Given) (g : Given) → Extends old new → AreGivenAt old ks gs → pushed ≡ gs ++ g ∷ [] → givens_at new ks pushed ≡ givens_at old ks gs ++ given_at new ks g ∷ []
givens-push old new ks gs pushed g more h e =
    ap (givens_at new ks) e ∙ givens-append new ks gs (g ∷ []) ∙ ap (λ xs. xs ++ givens_at new ks (g ∷ [])) (givens-grow old new ks gs more h)
    ∙ ap (λ xs. givens_at old ks gs ++ xs) (givens-cons new ks g [] ∙ ap (λ xs. given_at new ks g ∷ xs) (givens-none new ks))

pub length-givens : (ns : List Node) (ks : List Kind) (gs : List Given) → length (givens_at ns ks gs) ≡ length gs
unfolding givens_at
length-givens ns ks gs = length-map gs (given_at ns ks)

-- the default of src
abbrev pub no_given : Given
no_given = Term (record { 0 = 0 }) false

-- the one at an index, before the rest
pub givens-step : (ns : List Node) (ks : List Kind) (gs : List Given) (i : ℕ) → i < length gs
    → givens_at ns ks (drop i gs) ≡ given_at ns ks (get_or gs i no_given) ∷ givens_at ns ks (drop (i + 1) gs)
givens-step ns ks gs i low = ap (givens_at ns ks) (drop_more gs i no_given low) ∙ givens-cons ns ks (get_or gs i no_given) (drop (i + 1) gs)

pub givens-end : (ns : List Node) (ks : List Kind) (gs : List Given) (i : ℕ) → length gs ≤ i → givens_at ns ks (drop i gs) ≡ []
givens-end ns ks gs i far = ap (givens_at ns ks) (drop_of_length-le gs far) ∙ givens-none ns ks

-- the rest stay
AreGivenAt-drop : (ns : List Node) (ks : List Kind) (i : ℕ) (gs : List Given) → AreGivenAt ns ks gs → AreGivenAt ns ks (drop i gs)
AreGivenAt-drop ns ks i gs h = record { each = All-drop (IsGivenAt ns ks) i gs h.each }

pub givens-grow-rest : (old new : List Node) (ks : List Kind) (gs : List Given) (i : ℕ) → Extends old new → AreGivenAt old ks gs → givens_at new ks (drop i gs) ≡ givens_at old ks (drop i gs)
givens-grow-rest old new ks gs i more h = givens-grow old new ks (drop i gs) more (AreGivenAt-drop old ks i gs h)

-- what a caller needs whose table grows
pub ruleset given_rules = (table_rules, IsGivenAt-grows, given_at-grows, AreGivenAt-none, AreGivenAt-grows, AreGivenAt-push, givens-none, givens-grow, givens-push)
