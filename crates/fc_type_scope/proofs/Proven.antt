-- What coercions prove, several together: in a table that grows, behind more type variables, one more of them, and looked up.
use Rattle.std.proofs.Common.{◌≡◌, ℕ, List, [], ◌∷◌, ◌++◌, length, map, reverse, Result, Ok, Err, IfOk, refl, sym, ap, subst, ◌∙◌}
use Rattle.fc_syntax.specs.Tree.{Kind}
use Rattle.fc_model.specs.Coercing.{Ends}
use Rattle.fc_model.specs.Faulting.{at_distance}
use Rattle.fc_model.specs.Says.{Says, fault_of}
use Rattle.fc_model.specs.declared.flaw.Flawed.{Flawed}
use Rattle.fc_model.specs.declared.flaw.Flawed.TheVariants.{Memory, Flaw as OfFlaw}
use Rattle.fc_type_table.proofs.Numbers.{Grows-further, IsTypeAt-grows, shown_at-grows}
use Rattle.fc_type_table.specs.Nodes.{Extends}
use Rattle.fc_type_table.specs.declared.node.Node.{Node}
use Rattle.fc_type_scope.specs.Behind.{raised_ends}
use Rattle.fc_type_scope.specs.EndViews.{AreEndsAt, IsEndsAt, shown_all_ends_at, shown_ends_at}
use Rattle.fc_type_scope.specs.declared.ends.Ends as code
use Rattle.fc_type_scope.proofs.Items.{Stands, all_behind, all_grow, all_none, all_past, all_push, found_right, shows_behind, shows_found, shows_moved, shows_none, shows_push, shows_same}
use Rattle.fc_type_scope.proofs.Numbers.{number_rules}
use Rattle.fc_type_scope.proofs.Past.{IsTypeAt-past, shown_at-past}

pub IsEndsAt-grows : (old new : List Node) (ks : List Kind) (e : code.Ends) → Extends old new → IsEndsAt old ks e → IsEndsAt new ks e
IsEndsAt-grows old new ks e more h = record { left = IsTypeAt-grows old new ks e.left.0 more h.left; right = IsTypeAt-grows old new ks e.right.0 more h.right }

pub shown_ends-grows : (old new : List Node) (ks : List Kind) (e : code.Ends) → Extends old new → IsEndsAt old ks e → shown_ends_at new ks e ≡ shown_ends_at old ks e
shown_ends-grows old new ks e more h = cc (shown_at-grows old new ks e.left.0 more h.left, shown_at-grows old new ks e.right.0 more h.right)

IsEndsAt-past : (ns : List Node) (bs ks : List Kind) (e : code.Ends) → IsEndsAt ns ks e → IsEndsAt ns (bs ++ ks) e
IsEndsAt-past ns bs ks e h = record { left = IsTypeAt-past ns bs ks e.left.0 h.left; right = IsTypeAt-past ns bs ks e.right.0 h.right }

shown_ends-past : (ns : List Node) (bs ks : List Kind) (e : code.Ends) → IsEndsAt ns ks e → shown_ends_at ns (bs ++ ks) e ≡ raised_ends (length bs) (shown_ends_at ns ks e)
shown_ends-past ns bs ks e h = cc (shown_at-past ns bs ks e.left.0 h.left, shown_at-past ns bs ks e.right.0 h.right)

ends_stand : Stands IsEndsAt shown_ends_at raised_ends
ends_stand = record { grows = IsEndsAt-grows; same = shown_ends-grows; past = IsEndsAt-past; moved = shown_ends-past }

-- SEVERAL

pub AreEndsAt-none : (ns : List Node) (ks : List Kind) → AreEndsAt ns ks []
AreEndsAt-none ns ks = record { each = all_none IsEndsAt shown_ends_at raised_ends ns ks }

pub AreEndsAt-behind : (ns : List Node) (ks : List Kind) (es outer : List code.Ends) → AreEndsAt ns ks es → AreEndsAt ns ks outer → AreEndsAt ns ks (reverse es ++ outer)
AreEndsAt-behind ns ks es outer hs gs = record { each = all_behind IsEndsAt shown_ends_at raised_ends ns ks es outer hs.each gs.each }

pub AreEndsAt-grows : (old new : List Node) (ks : List Kind) (es : List code.Ends) → Extends old new → AreEndsAt old ks es → AreEndsAt new ks es
AreEndsAt-grows old new ks es more hs = record { each = all_grow IsEndsAt shown_ends_at raised_ends ends_stand old new ks es more hs.each }

pub AreEndsAt-past : (ns : List Node) (bs ks : List Kind) (es : List code.Ends) → AreEndsAt ns ks es → AreEndsAt ns (bs ++ ks) es
AreEndsAt-past ns bs ks es hs = record { each = all_past IsEndsAt shown_ends_at raised_ends ends_stand ns bs ks es hs.each }

pub AreEndsAt-push : (old new : List Node) (ks : List Kind) (es pushed : List code.Ends) (e : code.Ends) → Extends old new → AreEndsAt old ks es → IsEndsAt new ks e → pushed ≡ es ++ e ∷ [] → AreEndsAt new ks pushed
AreEndsAt-push old new ks es pushed e more hs h is = subst (AreEndsAt new ks) (sym is) (record { each = all_push IsEndsAt shown_ends_at raised_ends ends_stand old new ks es e more hs.each h })

pub shown_all_ends-none : (ns : List Node) (ks : List Kind) → shown_all_ends_at ns ks [] ≡ []
unfolding shown_all_ends_at
shown_all_ends-none ns ks = refl

pub shown_all_ends-behind : (ns : List Node) (ks : List Kind) (es outer : List code.Ends) → shown_all_ends_at ns ks (reverse es ++ outer) ≡ reverse (shown_all_ends_at ns ks es) ++ shown_all_ends_at ns ks outer
unfolding shown_all_ends_at
shown_all_ends-behind ns ks es outer = shows_behind IsEndsAt shown_ends_at raised_ends ns ks es outer

pub shown_all_ends-grows : (old new : List Node) (ks : List Kind) (es : List code.Ends) → Extends old new → AreEndsAt old ks es → shown_all_ends_at new ks es ≡ shown_all_ends_at old ks es
unfolding shown_all_ends_at
shown_all_ends-grows old new ks es more hs = shows_same IsEndsAt shown_ends_at raised_ends ends_stand old new ks es more hs.each

pub shown_all_ends-past : (ns : List Node) (bs ks : List Kind) (es : List code.Ends) → AreEndsAt ns ks es → shown_all_ends_at ns (bs ++ ks) es ≡ map (raised_ends (length bs)) (shown_all_ends_at ns ks es)
unfolding shown_all_ends_at
shown_all_ends-past ns bs ks es hs = shows_moved IsEndsAt shown_ends_at raised_ends ends_stand ns bs ks es hs.each

pub shown_all_ends-push : (old new : List Node) (ks : List Kind) (es pushed : List code.Ends) (e : code.Ends) (d : Ends) → Extends old new → AreEndsAt old ks es → shown_ends_at new ks e ≡ d → pushed ≡ es ++ e ∷ []
    → shown_all_ends_at new ks pushed ≡ shown_all_ends_at old ks es ++ d ∷ []
unfolding shown_all_ends_at
shown_all_ends-push old new ks es pushed e d more hs s is =
    ap (shown_all_ends_at new ks) is ∙ shows_push IsEndsAt shown_ends_at raised_ends ends_stand old new ks es e more hs.each ∙ ap (λ x. shown_all_ends_at old ks es ++ x ∷ []) s

-- ONE LOOKED UP

pub coercion_valid : (r : Result code.Ends Flawed) (ns : List Node) (ks : List Kind) (es : List code.Ends) (d : ℕ) → Says (λ (e : code.Ends). e) r (at_distance es d) → AreEndsAt ns ks es → IfOk r (λ e. IsEndsAt ns ks e)
coercion_valid (Ok e) ns ks es d h hs = found_right IsEndsAt shown_ends_at raised_ends ns ks es d e h hs.each
coercion_valid (Err f) ns ks es d h hs = tt

pub coercion_says : (r : Result code.Ends Flawed) (ns : List Node) (ks : List Kind) (es : List code.Ends) (d : ℕ) → Says (λ (e : code.Ends). e) r (at_distance es d)
    → Says (λ (e : code.Ends). shown_ends_at ns ks e) r (at_distance (shown_all_ends_at ns ks es) d)
unfolding shown_all_ends_at
coercion_says (Ok e) ns ks es d h = shows_found IsEndsAt shown_ends_at raised_ends ns ks es d e h
coercion_says (Err Memory) ns ks es d h = tt
coercion_says (Err (OfFlaw f)) ns ks es d h = shows_none IsEndsAt shown_ends_at raised_ends ns ks es d (fault_of f) h

-- what a caller needs whose table grows
pub ruleset ends_rules = (IsEndsAt-grows, shown_ends-grows, AreEndsAt-none, AreEndsAt-behind, AreEndsAt-grows, shown_all_ends-none, shown_all_ends-grows)

-- the same with types
pub ruleset table_rules = (number_rules, ends_rules, Grows-further)
