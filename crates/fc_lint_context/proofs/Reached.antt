-- Numbers of join points, several together: one more, looked up, in a table that grows and behind more type variables.
use Rattle.std.proofs.Common.{◌≡◌, ℕ, zero, suc, List, [], ◌∷◌, ◌++◌, length, map, reverse, Option, Some, None, IfSome, refl, sym, ap, subst, ◌∙◌}
use Rattle.std.proofs.lemmas.Grind.{reverse_onto}
use Rattle.std.proofs.lemmas.List.{map-append}
use Rattle.std.proofs.lemmas.List.Elements.{All-append, All-cons, All-head, All-nil, All-tail}
use Rattle.std.specs.Option.{option_map}
use Rattle.fc_syntax.specs.Tree.{Kind}
use Rattle.fc_model.specs.Faulting.{at_distance}
use Rattle.fc_model.specs.Typing.{JoinPoint, answered}
use Rattle.fc_type_scope.proofs.Past.{IsTypeAt-past, shown_at-past}
use Rattle.fc_type_table.proofs.Numbers.{IsTypeAt-grows, shown_at-grows}
use Rattle.fc_type_table.specs.Nodes.{Extends}
use Rattle.fc_type_table.specs.declared.node.Node.{Node}
use Rattle.fc_type_scope.specs.Behind.{raised_join}
use Rattle.fc_lint_context.specs.JoinViews.{AreJoinsAt, IsJoinAt, shown_join, shown_joins_at}
use Rattle.fc_lint_context.specs.declared.joins.JoinPoint as code

pub IsJoinAt-grows : (old new : List Node) (ks : List Kind) (j : code.JoinPoint) → Extends old new → IsJoinAt old ks j → IsJoinAt new ks j
IsJoinAt-grows old new ks j more h = record { ty = IsTypeAt-grows old new ks j.ty.0 more h.ty; answer = IsTypeAt-grows old new ks j.answer.0 more h.answer }

pub shown_join-grows : (old new : List Node) (ks : List Kind) (j : code.JoinPoint) → Extends old new → IsJoinAt old ks j → shown_join new ks j ≡ shown_join old ks j
shown_join-grows old new ks j more h = cc (shown_at-grows old new ks j.ty.0 more h.ty, shown_at-grows old new ks j.answer.0 more h.answer)

IsJoinAt-past : (ns : List Node) (bs ks : List Kind) (j : code.JoinPoint) → IsJoinAt ns ks j → IsJoinAt ns (bs ++ ks) j
IsJoinAt-past ns bs ks j h = record { ty = IsTypeAt-past ns bs ks j.ty.0 h.ty; answer = IsTypeAt-past ns bs ks j.answer.0 h.answer }

shown_join-past : (ns : List Node) (bs ks : List Kind) (j : code.JoinPoint) → IsJoinAt ns ks j → shown_join ns (bs ++ ks) j ≡ raised_join (length bs) (shown_join ns ks j)
shown_join-past ns bs ks j h = cc (shown_at-past ns bs ks j.ty.0 h.ty, shown_at-past ns bs ks j.answer.0 h.answer)

-- ---- several

pub AreJoinsAt-none : (ns : List Node) (ks : List Kind) → AreJoinsAt ns ks []
AreJoinsAt-none ns ks = record { each = All-nil (IsJoinAt ns ks) }

AreJoinsAt-cons : (ns : List Node) (ks : List Kind) (j : code.JoinPoint) (js : List code.JoinPoint) → IsJoinAt ns ks j → AreJoinsAt ns ks js → AreJoinsAt ns ks (j ∷ js)
AreJoinsAt-cons ns ks j js h hs = record { each = All-cons (IsJoinAt ns ks) j js h hs.each }

AreJoinsAt-head : (ns : List Node) (ks : List Kind) (j : code.JoinPoint) (js : List code.JoinPoint) → AreJoinsAt ns ks (j ∷ js) → IsJoinAt ns ks j
AreJoinsAt-head ns ks j js hs = All-head (IsJoinAt ns ks) j js hs.each

AreJoinsAt-tail : (ns : List Node) (ks : List Kind) (j : code.JoinPoint) (js : List code.JoinPoint) → AreJoinsAt ns ks (j ∷ js) → AreJoinsAt ns ks js
AreJoinsAt-tail ns ks j js hs = record { each = All-tail (IsJoinAt ns ks) j js hs.each }

AreJoinsAt-append : (ns : List Node) (ks : List Kind) (js more : List code.JoinPoint) → AreJoinsAt ns ks js → AreJoinsAt ns ks more → AreJoinsAt ns ks (js ++ more)
AreJoinsAt-append ns ks js more hs gs = record { each = All-append (IsJoinAt ns ks) js more hs.each gs.each }

AreJoinsAt-reverse : (ns : List Node) (ks : List Kind) (js : List code.JoinPoint) → AreJoinsAt ns ks js → AreJoinsAt ns ks (reverse js)
AreJoinsAt-reverse ns ks [] hs = hs
AreJoinsAt-reverse ns ks (j ∷ js) hs =
    subst (AreJoinsAt ns ks) (sym (reverse_onto js j [])) (AreJoinsAt-append ns ks (reverse js) (j ∷ []) (AreJoinsAt-reverse ns ks js (AreJoinsAt-tail ns ks j js hs))
    (AreJoinsAt-cons ns ks j [] (AreJoinsAt-head ns ks j js hs) (AreJoinsAt-none ns ks)))

pub AreJoinsAt-behind : (ns : List Node) (ks : List Kind) (js outer : List code.JoinPoint) → AreJoinsAt ns ks js → AreJoinsAt ns ks outer → AreJoinsAt ns ks (reverse js ++ outer)
AreJoinsAt-behind ns ks js outer hs gs = AreJoinsAt-append ns ks (reverse js) outer (AreJoinsAt-reverse ns ks js hs) gs

pub AreJoinsAt-grows : (old new : List Node) (ks : List Kind) (js : List code.JoinPoint) → Extends old new → AreJoinsAt old ks js → AreJoinsAt new ks js
AreJoinsAt-grows old new ks [] more hs = AreJoinsAt-none new ks
AreJoinsAt-grows old new ks (j ∷ js) more hs =
    AreJoinsAt-cons new ks j js (IsJoinAt-grows old new ks j more (AreJoinsAt-head old ks j js hs)) (AreJoinsAt-grows old new ks js more (AreJoinsAt-tail old ks j js hs))

pub AreJoinsAt-past : (ns : List Node) (bs ks : List Kind) (js : List code.JoinPoint) → AreJoinsAt ns ks js → AreJoinsAt ns (bs ++ ks) js
AreJoinsAt-past ns bs ks [] hs = AreJoinsAt-none ns (bs ++ ks)
AreJoinsAt-past ns bs ks (j ∷ js) hs =
    AreJoinsAt-cons ns (bs ++ ks) j js (IsJoinAt-past ns bs ks j (AreJoinsAt-head ns ks j js hs)) (AreJoinsAt-past ns bs ks js (AreJoinsAt-tail ns ks j js hs))

-- one more, behind the others, while the table grew
pub AreJoinsAt-push : (old new : List Node) (ks : List Kind) (js pushed : List code.JoinPoint) (j : code.JoinPoint) → Extends old new → AreJoinsAt old ks js → IsJoinAt new ks j → pushed ≡ js ++ j ∷ [] → AreJoinsAt new ks pushed
AreJoinsAt-push old new ks js pushed j more hs h e =
    subst (AreJoinsAt new ks) (sym e) (AreJoinsAt-append new ks js (j ∷ []) (AreJoinsAt-grows old new ks js more hs) (AreJoinsAt-cons new ks j [] h (AreJoinsAt-none new ks)))

-- ---- what they show

pub shown_joins-none : (ns : List Node) (ks : List Kind) → shown_joins_at ns ks [] ≡ []
unfolding shown_joins_at
shown_joins-none ns ks = refl

shown_joins-append : (ns : List Node) (ks : List Kind) (js more : List code.JoinPoint) → shown_joins_at ns ks (js ++ more) ≡ shown_joins_at ns ks js ++ shown_joins_at ns ks more
unfolding shown_joins_at
shown_joins-append ns ks js more = map-append (λ (j : code.JoinPoint). shown_join ns ks j) js more

shown_joins-reverse : (ns : List Node) (ks : List Kind) (js : List code.JoinPoint) → shown_joins_at ns ks (reverse js) ≡ reverse (shown_joins_at ns ks js)
unfolding shown_joins_at
shown_joins-reverse ns ks [] = refl
shown_joins-reverse ns ks (j ∷ js) =
    ap (shown_joins_at ns ks) (reverse_onto js j []) ∙ shown_joins-append ns ks (reverse js) (j ∷ []) ∙ ap (λ ps. ps ++ shown_join ns ks j ∷ []) (shown_joins-reverse ns ks js)
    ∙ sym (reverse_onto (shown_joins_at ns ks js) (shown_join ns ks j) [])

pub shown_joins-behind : (ns : List Node) (ks : List Kind) (js outer : List code.JoinPoint) → shown_joins_at ns ks (reverse js ++ outer) ≡ reverse (shown_joins_at ns ks js) ++ shown_joins_at ns ks outer
shown_joins-behind ns ks js outer = shown_joins-append ns ks (reverse js) outer ∙ ap (λ ps. ps ++ shown_joins_at ns ks outer) (shown_joins-reverse ns ks js)

pub shown_joins-grows : (old new : List Node) (ks : List Kind) (js : List code.JoinPoint) → Extends old new → AreJoinsAt old ks js → shown_joins_at new ks js ≡ shown_joins_at old ks js
unfolding shown_joins_at
shown_joins-grows old new ks [] more hs = refl
shown_joins-grows old new ks (j ∷ js) more hs = cc (shown_join-grows old new ks j more (AreJoinsAt-head old ks j js hs), shown_joins-grows old new ks js more (AreJoinsAt-tail old ks j js hs))

pub shown_joins-past : (ns : List Node) (bs ks : List Kind) (js : List code.JoinPoint) → AreJoinsAt ns ks js → shown_joins_at ns (bs ++ ks) js ≡ map (raised_join (length bs)) (shown_joins_at ns ks js)
unfolding shown_joins_at
shown_joins-past ns bs ks [] hs = refl
shown_joins-past ns bs ks (j ∷ js) hs = cc (shown_join-past ns bs ks j (AreJoinsAt-head ns ks j js hs), shown_joins-past ns bs ks js (AreJoinsAt-tail ns ks j js hs))

pub shown_joins-push : (old new : List Node) (ks : List Kind) (js pushed : List code.JoinPoint) (j : code.JoinPoint) (p : JoinPoint) → Extends old new → AreJoinsAt old ks js → shown_join new ks j ≡ p → pushed ≡ js ++ j ∷ []
    → shown_joins_at new ks pushed ≡ shown_joins_at old ks js ++ p ∷ []
unfolding shown_joins_at
shown_joins-push old new ks js pushed j p more hs s e =
    ap (shown_joins_at new ks) e ∙ shown_joins-append new ks js (j ∷ []) ∙ ap (λ ps. ps ++ shown_join new ks j ∷ []) (shown_joins-grows old new ks js more hs) ∙ ap (λ x. shown_joins_at old ks js ++ x ∷ []) s

-- ---- one looked up

pub join_valid : (r : Option code.JoinPoint) (ns : List Node) (ks : List Kind) (js : List code.JoinPoint) (d : ℕ) → r ≡ answered (at_distance js d) → AreJoinsAt ns ks js → IfSome r (λ j. IsJoinAt ns ks j)
join_valid None ns ks js d e hs = tt
join_valid (Some k) ns ks [] d e hs = cc
join_valid (Some k) ns ks (j ∷ js) zero e hs = let same : j ≡ k = cc in subst (λ (i : code.JoinPoint). IsJoinAt ns ks i) same (AreJoinsAt-head ns ks j js hs)
join_valid (Some k) ns ks (j ∷ js) (suc d) e hs = join_valid (Some k) ns ks js d e (AreJoinsAt-tail ns ks j js hs)

pub join_shown : (ns : List Node) (ks : List Kind) (js : List code.JoinPoint) (d : ℕ) → option_map (λ (j : code.JoinPoint). shown_join ns ks j) (answered (at_distance js d)) ≡ answered (at_distance (shown_joins_at ns ks js) d)
unfolding shown_joins_at
join_shown ns ks [] d = refl
join_shown ns ks (j ∷ js) zero = refl
join_shown ns ks (j ∷ js) (suc d) = join_shown ns ks js d

pub ruleset join_rules = (IsJoinAt-grows, shown_join-grows, AreJoinsAt-none, AreJoinsAt-grows, AreJoinsAt-push, shown_joins-none, shown_joins-grows, shown_joins-push)
