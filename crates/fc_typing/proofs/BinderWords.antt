-- Binders that have nameless forms: no word of a type variable hides another, and there are as many words of type variables as kinds.
use Rattle.std.proofs.Common.{◌≡◌, ℕ, ◌+◌, suc, Bool, true, false, not, List, [], ◌∷◌, Some, None, Ok, option_map, bytes_eq, if◌then◌else◌, length, refl, sym, ap, subst}
use Rattle.fc_syntax.specs.declared.fault.FaultKind.TheVariants.{Duplicate}
use Rattle.fc_syntax.specs.Tree.{Word, Binder, BValue, BType, BCo}
use Rattle.fc_model.proofs.Parts.{need_inv, ok_ok, part}
use Rattle.fc_model.proofs.Sameness.{false_true}
use Rattle.fc_model.specs.Faulting.{need}
use Rattle.fc_model.specs.Nameless.{NBinder}
use Rattle.fc_model.specs.Resolution.{Locals, Top, WordSet, Words, enter, enter_all, index_of, is_new, no_locals, no_words, plus, resolved_binder, resolved_binders, resolved_ty, with_binder}
use Rattle.fc_model.specs.Typing.{Context, no_context, with_binders, with_coercion, with_type, with_value}
use Rattle.fc_model.proofs.Resolved.{then_item_inv}
use Rattle.fc_type_names.proofs.Seen.{seen_more, seen_none}
use Rattle.fc_type_names.specs.Meant.{AreSeen}
use Rattle.fc_typing.specs.Behind.{context_behind, forms_of_binders, locals_behind}

-- each word of the list is in the set
abbrev HasAll : WordSet → List Word → Type 0
HasAll s ws = (w : Word) → s w ≡ false → index_of ws w ≡ None

has_all_more : (a : Word) (s : WordSet) (ws : List Word) → HasAll s ws → HasAll (plus a s) (a ∷ ws)
has_all_more a s ws has w = by (bytes_eq a w)
  where
    by : (b : Bool) → (if b then true else s w) ≡ false → (if b then Some 0 else option_map (λ i. i + 1) (index_of ws w)) ≡ None
    by true new = false_true (sym new)
    by false new = ap (option_map (λ i. i + 1)) (has w new)

not_in : (b : Bool) → not b ≡ true → b ≡ false
not_in true h = false_true h
not_in false h = refl

-- no word of a type variable hides another behind binders that have nameless forms
seen_past : (top : Top) (s : Locals) (ws : Words) (i : ℕ) (bs : List Binder) (ns : List NBinder) → resolved_binders top s ws i bs ≡ Ok ns → HasAll ws.types s.types → AreSeen s.types → AreSeen (enter_all bs s).types
seen_past top s ws i [] ns h has seen = seen
seen_past top s ws i (BValue x t ∷ bs) ns h has seen =
    let p = part i (need (is_new (BValue x t) ws) Duplicate (resolved_binder top s (BValue x t))) _ ns h in
    let q = then_item_inv p.0 (resolved_binders top (enter (BValue x t) s) (with_binder (BValue x t) ws) (i + 1) bs) ns p.2 in
    seen_past top (enter (BValue x t) s) (with_binder (BValue x t) ws) (i + 1) bs q.0 q.1 has seen
seen_past top s ws i (BType a k ∷ bs) ns h has seen =
    let p = part i (need (is_new (BType a k) ws) Duplicate (resolved_binder top s (BType a k))) _ ns h in
    let c = need_inv (is_new (BType a k) ws) _ _ p.0 p.1 in
    let q = then_item_inv p.0 (resolved_binders top (enter (BType a k) s) (with_binder (BType a k) ws) (i + 1) bs) ns p.2 in
    seen_past top (enter (BType a k) s) (with_binder (BType a k) ws) (i + 1) bs q.0 q.1 (has_all_more a ws.types s.types has) (seen_more a s.types (has a (not_in (ws.types a) c.0)) seen)
seen_past top s ws i (BCo v r t u ∷ bs) ns h has seen =
    let p = part i (need (is_new (BCo v r t u) ws) Duplicate (resolved_binder top s (BCo v r t u))) _ ns h in
    let q = then_item_inv p.0 (resolved_binders top (enter (BCo v r t u) s) (with_binder (BCo v r t u) ws) (i + 1) bs) ns p.2 in
    seen_past top (enter (BCo v r t u) s) (with_binder (BCo v r t u) ws) (i + 1) bs q.0 q.1 has seen

-- there are as many words of type variables as kinds
counted_past : (top : Top) (s : Locals) (c : Context) (ws : Words) (i : ℕ) (bs : List Binder) (ns : List NBinder) → resolved_binders top s ws i bs ≡ Ok ns → length c.kinds ≡ length s.types
    → length (with_binders ns c).kinds ≡ length (enter_all bs s).types
counted_past top s c ws i [] ns h same = subst (λ (y : List NBinder). length (with_binders y c).kinds ≡ length s.types) (ok_ok h) same
counted_past top s c ws i (BValue x t ∷ bs) ns h same =
    let p = part i (need (is_new (BValue x t) ws) Duplicate (resolved_binder top s (BValue x t))) _ ns h in
    let n = need_inv (is_new (BValue x t) ws) _ _ p.0 p.1 in
    let f = part 0 (resolved_ty top s.types t) _ p.0 n.1 in
    let q = then_item_inv p.0 (resolved_binders top (enter (BValue x t) s) (with_binder (BValue x t) ws) (i + 1) bs) ns p.2 in
    subst (λ (y : List NBinder). length (with_binders y c).kinds ≡ length (enter_all bs (enter (BValue x t) s)).types) q.2
    (subst (λ (y : NBinder). length (with_binders (y ∷ q.0) c).kinds ≡ length (enter_all bs (enter (BValue x t) s)).types) (ok_ok f.2)
    (counted_past top (enter (BValue x t) s) (with_value f.0 c) (with_binder (BValue x t) ws) (i + 1) bs q.0 q.1 same))
counted_past top s c ws i (BType a k ∷ bs) ns h same =
    let p = part i (need (is_new (BType a k) ws) Duplicate (resolved_binder top s (BType a k))) _ ns h in
    let n = need_inv (is_new (BType a k) ws) _ _ p.0 p.1 in
    let q = then_item_inv p.0 (resolved_binders top (enter (BType a k) s) (with_binder (BType a k) ws) (i + 1) bs) ns p.2 in
    subst (λ (y : List NBinder). length (with_binders y c).kinds ≡ length (enter_all bs (enter (BType a k) s)).types) q.2
    (subst (λ (y : NBinder). length (with_binders (y ∷ q.0) c).kinds ≡ length (enter_all bs (enter (BType a k) s)).types) (ok_ok n.1)
    (counted_past top (enter (BType a k) s) (with_type k c) (with_binder (BType a k) ws) (i + 1) bs q.0 q.1 (ap suc same)))
counted_past top s c ws i (BCo v r t u ∷ bs) ns h same =
    let p = part i (need (is_new (BCo v r t u) ws) Duplicate (resolved_binder top s (BCo v r t u))) _ ns h in
    let n = need_inv (is_new (BCo v r t u) ws) _ _ p.0 p.1 in
    let f = part 0 (resolved_ty top s.types t) _ p.0 n.1 in
    let g = part 1 (resolved_ty top s.types u) _ p.0 f.2 in
    let q = then_item_inv p.0 (resolved_binders top (enter (BCo v r t u) s) (with_binder (BCo v r t u) ws) (i + 1) bs) ns p.2 in
    subst (λ (y : List NBinder). length (with_binders y c).kinds ≡ length (enter_all bs (enter (BCo v r t u) s)).types) q.2
    (subst (λ (y : NBinder). length (with_binders (y ∷ q.0) c).kinds ≡ length (enter_all bs (enter (BCo v r t u) s)).types) (ok_ok g.2)
    (counted_past top (enter (BCo v r t u) s) (with_coercion (record { role = r; left = f.0; right = g.0 }) c) (with_binder (BCo v r t u) ws) (i + 1) bs q.0 q.1 same))

-- where nothing else is in scope
pub seen_behind : (top : Top) (bs : List Binder) (ns : List NBinder) (s : Locals) → forms_of_binders top bs ≡ Ok ns → s ≡ locals_behind bs → AreSeen s.types
seen_behind top bs ns s h is = subst (λ (x : Locals). AreSeen x.types) (sym is) (seen_past top no_locals no_words 0 bs ns h (λ w new. refl) seen_none)

pub counted_behind : (top : Top) (bs : List Binder) (ns : List NBinder) (s : Locals) → forms_of_binders top bs ≡ Ok ns → s ≡ locals_behind bs → length (context_behind ns).kinds ≡ length s.types
counted_behind top bs ns s h is =
    subst (λ (x : Locals). length (context_behind ns).kinds ≡ length x.types) (sym is) (counted_past top no_locals no_context no_words 0 bs ns h refl)
