-- Coercions one after the other: one more, and one looked up.
use Rattle.std.proofs.Common.{◌≡◌, ℕ, zero, suc, ◌<◌, List, [], ◌∷◌, ◌++◌, get_or, length, Some, None, Ok, Err, refl, sym, ap, subst, ◌∙◌}
use Rattle.std.specs.List.{slice_get}
use Rattle.std.proofs.lemmas.List.{map-append}
use Rattle.std.proofs.lemmas.List.Elements.{All-append, All-cons, All-get_or, All-head, All-nil, All-tail}
use Rattle.std.proofs.lemmas.Option.{same_Some}
use Rattle.fc_syntax.specs.declared.ty.Role.{Role}
use Rattle.fc_syntax.specs.declared.fault.FaultKind.TheVariants.{NthRange}
use Rattle.fc_syntax.specs.Tree.{Kind}
use Rattle.fc_model.specs.Coercing.{ends, part_of_one_kind}
use Rattle.fc_model.specs.Faulting.{At, at_distance}
use Rattle.fc_model.specs.Kinding.{Modules}
use Rattle.fc_type_table.specs.Scopes.{shown_at}
use Rattle.fc_type_table.specs.declared.node.Node.{Node}
use Rattle.fc_type_scope.specs.EndViews.{AreEndsAt, IsEndsAt, shown_all_ends_at, shown_ends_at}
use Rattle.fc_type_scope.specs.declared.ends.Ends as code
use Rattle.fc_coercion_forms.proofs.Ends.{no_ends}

abbrev Each : List Node → List Kind → code.Ends → Type 0
Each ns ks e = IsEndsAt ns ks e

-- ---- one more, behind the others

pub AreEndsAt-snoc : (ns : List Node) (ks : List Kind) (es pushed : List code.Ends) (e : code.Ends) → AreEndsAt ns ks es → IsEndsAt ns ks e → pushed ≡ es ++ e ∷ []
    → AreEndsAt ns ks pushed
AreEndsAt-snoc ns ks es pushed e hs h is =
    subst (AreEndsAt ns ks) (sym is) (record { each = All-append (Each ns ks) es (e ∷ []) hs.each (All-cons (Each ns ks) e [] h (All-nil (Each ns ks))) })

pub shown_all_ends-snoc : (ns : List Node) (ks : List Kind) (es pushed : List code.Ends) (e : code.Ends) → pushed ≡ es ++ e ∷ []
    → shown_all_ends_at ns ks pushed ≡ shown_all_ends_at ns ks es ++ shown_ends_at ns ks e ∷ []
unfolding shown_all_ends_at
shown_all_ends-snoc ns ks es pushed e is = ap (shown_all_ends_at ns ks) is ∙ map-append (λ (x : code.Ends). shown_ends_at ns ks x) es (e ∷ [])

-- two, and three, at the roles o, p and q
two_pushed : (ns : List Node) (ks : List Kind) (none one two : List code.Ends) (a b : code.Ends) → none ≡ [] → one ≡ none ++ a ∷ [] → two ≡ one ++ b ∷ []
    → shown_all_ends_at ns ks two ≡ shown_ends_at ns ks a ∷ shown_ends_at ns ks b ∷ []
unfolding shown_all_ends_at
two_pushed ns ks none one two a b h i j = ap (shown_all_ends_at ns ks) (j ∙ ap (λ xs. xs ++ b ∷ []) (i ∙ ap (λ xs. xs ++ a ∷ []) h))

pub shown_two : (ns : List Node) (ks : List Kind) (none one two : List code.Ends) (a b : code.Ends) (o : Role) → none ≡ [] → one ≡ none ++ a ∷ [] → two ≡ one ++ b ∷ []
    → a.role ≡ o → b.role ≡ o
    → shown_all_ends_at ns ks two ≡ ends o (shown_at ns ks a.left.0) (shown_at ns ks a.right.0) ∷ ends o (shown_at ns ks b.left.0) (shown_at ns ks b.right.0) ∷ []
shown_two ns ks none one two a b o h i j ra rb =
    two_pushed ns ks none one two a b h i j
    ∙ ap (λ x. ends x (shown_at ns ks a.left.0) (shown_at ns ks a.right.0) ∷ shown_ends_at ns ks b ∷ []) ra
    ∙ ap (λ x. ends o (shown_at ns ks a.left.0) (shown_at ns ks a.right.0) ∷ ends x (shown_at ns ks b.left.0) (shown_at ns ks b.right.0) ∷ []) rb

pub shown_three : (ns : List Node) (ks : List Kind) (none one two three : List code.Ends) (a b d : code.Ends) (o q : Role) → none ≡ [] → one ≡ none ++ a ∷ []
    → two ≡ one ++ b ∷ [] → three ≡ two ++ d ∷ []
    → a.role ≡ o → b.role ≡ o → d.role ≡ q
    → shown_all_ends_at ns ks three ≡ ends o (shown_at ns ks a.left.0) (shown_at ns ks a.right.0) ∷ ends o (shown_at ns ks b.left.0) (shown_at ns ks b.right.0) ∷ ends q
    (shown_at ns ks d.left.0) (shown_at ns ks d.right.0) ∷ []
shown_three ns ks none one two three a b d o q h i j k ra rb rd =
    shown_all_ends-snoc ns ks two three d k ∙ ap (λ xs. xs ++ shown_ends_at ns ks d ∷ []) (shown_two ns ks none one two a b o h i j ra rb)
    ∙ ap (λ x. ends o (shown_at ns ks a.left.0) (shown_at ns ks a.right.0) ∷ ends o (shown_at ns ks b.left.0) (shown_at ns ks b.right.0) ∷ ends x (shown_at ns ks d.left.0) (shown_at ns ks d.right.0) ∷ []) rd

-- ---- the one at an index

pub ends-at : (ns : List Node) (ks : List Kind) (es : List code.Ends) (i : ℕ) → i < length es → AreEndsAt ns ks es → IsEndsAt ns ks (get_or es i no_ends)
ends-at ns ks es i low h = All-get_or (Each ns ks) es i no_ends low h.each

-- ---- one looked up

pub got-valid : (ns : List Node) (ks : List Kind) (es : List code.Ends) (i : ℕ) (e : code.Ends) → Some e ≡ slice_get es i → AreEndsAt ns ks es → IsEndsAt ns ks e
got-valid ns ks [] i e h hs = cc
got-valid ns ks (x ∷ es) zero e h hs = let p : e ≡ x = same_Some e x h in subst (IsEndsAt ns ks) (sym p) (All-head (Each ns ks) x es hs.each)
got-valid ns ks (x ∷ es) (suc i) e h hs = got-valid ns ks es i e h (record { each = All-tail (Each ns ks) x es hs.each })

pub got-shown : (ns : List Node) (ks : List Kind) (es : List code.Ends) (i : ℕ) (e : code.Ends) → Some e ≡ slice_get es i
    → at_distance (shown_all_ends_at ns ks es) i ≡ Ok (shown_ends_at ns ks e)
unfolding shown_all_ends_at
got-shown ns ks [] i e h = cc
got-shown ns ks (x ∷ es) zero e h = let p : e ≡ x = same_Some e x h in ap (λ (y : code.Ends). Ok (shown_ends_at ns ks y)) (sym p)
got-shown ns ks (x ∷ es) (suc i) e h = got-shown ns ks es i e h

pub got-none : (ms : Modules) (ns : List Node) (ks : List Kind) (es : List code.Ends) (i : ℕ) → None ≡ slice_get es i
    → part_of_one_kind ms ks (at_distance (shown_all_ends_at ns ks es) i) ≡ Err (At NthRange None [])
unfolding shown_all_ends_at
got-none ms ns ks [] i h = refl
got-none ms ns ks (x ∷ es) zero h = cc
got-none ms ns ks (x ∷ es) (suc i) h = got-none ms ns ks es i h
