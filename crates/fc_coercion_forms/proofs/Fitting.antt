-- Coercions that fit the parameters of an axiom: their number, their roles, and their kinds, one after the other.
use Rattle.std.proofs.Common.{◌≡◌, ℕ, ◌+◌, ◌<◌, ◌≤◌, Bool, true, false, ◌&&◌, nat_eq, List, [], ◌∷◌, drop, get_or, length, Ok, refl, sym, ap, ◌∙◌, arith}
use Rattle.std.proofs.lemmas.Bool.Decides.{nat_tests}
use Rattle.std.proofs.lemmas.List.{drop_more, length-map}
use Rattle.std.proofs.lemmas.List.Elements.{All-get_or}
use Rattle.fc_syntax.specs.declared.fault.FaultKind.TheVariants.{AxiomArity, KindsDiffer, RoleWrong}
use Rattle.fc_syntax.specs.declared.ty.Role.{Role}
use Rattle.fc_syntax.specs.Tree.{Kind}
use Rattle.fc_syntax.specs.View.{kind_of}
use Rattle.fc_model.proofs.Sameness.{nat_eq_refl}
use Rattle.fc_model.specs.Coercing.{Ends, are_at_roles, are_of_kinds, is_of_kind}
use Rattle.fc_model.specs.Faulting.{need}
use Rattle.fc_model.specs.Kinding.{Modules}
use Rattle.fc_type_scope.specs.EndViews.{shown_all_ends_at, shown_ends_at}
use Rattle.fc_type_scope.specs.declared.ends.Ends as code
use Rattle.fc_type_table.specs.InScope.{AreNumbered, IsNumbered, own_kinds}
use Rattle.fc_type_table.specs.Nodes.{kind_at}
use Rattle.fc_type_table.specs.declared.node.Node.{Node}
use Rattle.fc_type_table.specs.declared.numbered.NumberedKind.{NumberedKind}
use Rattle.fc_coercion_forms.specs.Axioms.{parameters_fit}
use Rattle.fc_coercion_forms.proofs.Ends.{ends-end, ends-step, length-ends, no_ends}

-- ---- kinds

abbrev pub fits_kind : Modules → List Kind → Kind → Ends → Bool
fits_kind ms ks k e = is_of_kind ms ks k e.left && is_of_kind ms ks k e.right

kinds-step : (kinds : List NumberedKind) (i : ℕ) (k : NumberedKind) → i < length kinds
    → own_kinds (drop i kinds) ≡ kind_of (get_or kinds i k).kind.now ∷ own_kinds (drop (i + 1) kinds)
kinds-step kinds i k low = ap own_kinds (drop_more kinds i k low)

-- the one at an index shows its kind
pub numbered-at : (ns : List Node) (kinds : List NumberedKind) (i : ℕ) (k : NumberedKind) → i < length kinds → AreNumbered ns kinds → IsNumbered ns (get_or kinds i k)
numbered-at ns kinds i k low hs = All-get_or (IsNumbered ns) kinds i k low hs.each

-- the coercion that is reached, before those that are left
pub kinds-turn : (ms : Modules) (ks : List Kind) (ns : List Node) (kinds : List NumberedKind) (group : List code.Ends) (i : ℕ) (k : NumberedKind) (b : Bool)
    → i < length kinds → i < length group → AreNumbered ns kinds → b ≡ fits_kind ms ks (kind_at ns (get_or kinds i k).id.0) (shown_ends_at ns ks (get_or group i no_ends))
    → are_of_kinds ms ks (own_kinds (drop i kinds))
    (shown_all_ends_at ns ks (drop i group)) ≡ (b && are_of_kinds ms ks (own_kinds (drop (i + 1) kinds)) (shown_all_ends_at ns ks (drop (i + 1) group)))
kinds-turn ms ks ns kinds group i k b low short valid answer =
    let shows = numbered-at ns kinds i k low valid in
    let here : b ≡ fits_kind ms ks (kind_of (get_or kinds i k).kind.now) (shown_ends_at ns ks (get_or group i no_ends)) =
    answer ∙ ap (λ j. fits_kind ms ks j (shown_ends_at ns ks (get_or group i no_ends))) shows.shows in
    ap (λ js. are_of_kinds ms ks js (shown_all_ends_at ns ks (drop i group))) (kinds-step kinds i k low)
    ∙ ap (are_of_kinds ms ks (kind_of (get_or kinds i k).kind.now ∷ own_kinds (drop (i + 1) kinds))) (ends-step ns ks group i no_ends short)
    ∙ ap (λ x. x && are_of_kinds ms ks (own_kinds (drop (i + 1) kinds)) (shown_all_ends_at ns ks (drop (i + 1) group))) (sym here)

none_left : (ms : Modules) (ks js : List Kind) → are_of_kinds ms ks js [] ≡ true
none_left ms ks [] = refl
none_left ms ks (j ∷ js) = refl

pub kinds-end : (ms : Modules) (ks js : List Kind) (ns : List Node) (group : List code.Ends) (i : ℕ) → length group ≤ i
    → are_of_kinds ms ks js (shown_all_ends_at ns ks (drop i group)) ≡ true
kinds-end ms ks js ns group i far = ap (are_of_kinds ms ks js) (ends-end ns ks group i far) ∙ none_left ms ks js

-- ---- number, roles and kinds

apart : (i j : ℕ) → (i ≡ j → ⊥) → nat_eq i j ≡ false
apart i j h = grind (arith, nat_tests)

pub number_wrong : (ns : List Node) (ks : List Kind) (group : List code.Ends) (kinds : List NumberedKind) → (length group ≡ length kinds → ⊥)
    → nat_eq (length (shown_all_ends_at ns ks group)) (length (own_kinds kinds)) ≡ false
number_wrong ns ks group kinds h =
    ap (λ m. nat_eq m (length (own_kinds kinds))) (length-ends ns ks group) ∙ ap (nat_eq (length group)) (length-map kinds (λ (k : NumberedKind). kind_of k.kind.now))
    ∙ apart (length group) (length kinds) h

pub number_right : (ns : List Node) (ks : List Kind) (group : List code.Ends) (kinds : List NumberedKind) → length group ≡ length kinds
    → nat_eq (length (shown_all_ends_at ns ks group)) (length (own_kinds kinds)) ≡ true
number_right ns ks group kinds h =
    ap (λ m. nat_eq m (length (own_kinds kinds))) (length-ends ns ks group) ∙ ap (nat_eq (length group)) (length-map kinds (λ (k : NumberedKind). kind_of k.kind.now) ∙ sym h)
    ∙ nat_eq_refl (length group)

pub fit-wrong_number : (ms : Modules) (ks js : List Kind) (r : Role) (rs : List Role) (es : List Ends) (x : Bool) → nat_eq (length es) (length js) ≡ x
    → parameters_fit ms ks js r rs es ≡ need x AxiomArity (need (are_at_roles r rs es) RoleWrong (need (are_of_kinds ms ks js es) KindsDiffer (Ok r)))
fit-wrong_number ms ks js r rs es x h = ap (λ b. need b AxiomArity (need (are_at_roles r rs es) RoleWrong (need (are_of_kinds ms ks js es) KindsDiffer (Ok r)))) h

pub fit-wrong_roles : (ms : Modules) (ks js : List Kind) (r : Role) (rs : List Role) (es : List Ends) (y : Bool) → nat_eq (length es) (length js) ≡ true → are_at_roles r rs es ≡ y
    → parameters_fit ms ks js r rs es ≡ need y RoleWrong (need (are_of_kinds ms ks js es) KindsDiffer (Ok r))
fit-wrong_roles ms ks js r rs es y h i = fit-wrong_number ms ks js r rs es true h ∙ ap (λ b. need b RoleWrong (need (are_of_kinds ms ks js es) KindsDiffer (Ok r))) i

pub fit-kinds : (ms : Modules) (ks js : List Kind) (r : Role) (rs : List Role) (es : List Ends) (z : Bool) → nat_eq (length es) (length js) ≡ true
    → are_at_roles r rs es ≡ true → are_of_kinds ms ks js es ≡ z
    → parameters_fit ms ks js r rs es ≡ need z KindsDiffer (Ok r)
fit-kinds ms ks js r rs es z h i j = fit-wrong_roles ms ks js r rs es true h i ∙ ap (λ b. need b KindsDiffer (Ok r)) j
