-- One item more of a list that is resolved.
use Rattle.std.proofs.Common.{◌≡◌, ℕ, ◌+◌, ◌++◌, List, [], ◌∷◌, map, Result, Ok, refl, sym, ap, ◌∙◌}
use Rattle.fc_syntax.specs.declared.fault.FaultKind.TheVariants.{Duplicate}
use Rattle.fc_syntax.specs.Tree.{Word, Binder, BValue, BType, BCo}
use Rattle.fc_syntax.specs.View.{ty_of, tys_of, binder_of, binders_of}
use Rattle.fc_syntax.specs.declared.ty.Ty as T
use Rattle.fc_syntax.specs.declared.expr.Binder as B
use Rattle.fc_model.specs.Faulting.{F, need, under, and_then}
use Rattle.fc_model.specs.NamelessView.{nty_of, nbinder_of}
use Rattle.fc_model.specs.Resolution.{Top, Locals, enter, is_new, then_item, with_binder, resolved_ty, resolved_tys, resolved_binder, resolved_binders}
use Rattle.fc_model.specs.Says.{Refuses, fault_of}
use Rattle.fc_model.specs.declared.flaw.Flawed.{Flawed}
use Rattle.fc_model.specs.declared.flaw.Flawed.TheVariants.{Memory, Flaw as OfFlaw}
use Rattle.fc_scope.specs.ScopeWords.{with_binders}
use Rattle.fc_scope.specs.declared.binders.Binders as names
use Rattle.fc_resolve_parts.specs.Building.{with_items}
use Rattle.fc_resolve_parts.specs.Entered.{entered_by, words_of}
use Rattle.fc_resolve_parts.proofs.Building.{with_items_err, with_items_more}

pub map_twice : {X Y Z : Type 0} (f : Y → Z) (g : X → Y) (xs : List X) → map (λ x. f (g x)) xs ≡ map f (map g xs)
map_twice f g [] = refl
map_twice f g (x ∷ xs) = ap (λ ys. f (g x) ∷ ys) (map_twice f g xs)

-- the item is resolved
pub item_more : {X Y : Type 0} (view : X → Y) (out out' : List X) (next : X) (r : Result Y F) (rest rest' : Result (List Y) F) → r ≡ Ok (view next) → out' ≡ out ++ next ∷ [] → rest' ≡ rest
    → with_items view out (and_then r (λ y. then_item y rest)) ≡ with_items view out' rest'
item_more view out out' next r rest rest' is more same =
    ap (λ q. with_items view out (and_then q (λ y. then_item y rest))) is ∙ with_items_more view out next rest ∙ (λ i. with_items view (sym more i) (sym same i))

-- the item is refused
pub item_refused : {X Y : Type 0} (view : X → Y) (out : List X) (r : Result Y F) (rest : Result (List Y) F) (g : Flawed) → Refuses g r
    → Refuses g (with_items view out (and_then r (λ y. then_item y rest)))
item_refused view out r rest Memory refused = tt
item_refused view out r rest (OfFlaw f) refused = ap (λ q. with_items view out (and_then q (λ y. then_item y rest))) refused ∙ with_items_err view out (fault_of f)

pub tys_more : (top : Top) (ws : List Word) (out out' : List (T.Ty ℕ)) (at at' : ℕ) (t : T.Ty Word) (rest : List (T.Ty Word)) (next : T.Ty ℕ) → under at (resolved_ty top ws (ty_of t)) ≡ Ok (nty_of next)
    → out' ≡ out ++ next ∷ [] → at' ≡ at + 1 → with_items nty_of out (resolved_tys top ws at (tys_of (t ∷ rest))) ≡ with_items nty_of out' (resolved_tys top ws at' (tys_of rest))
tys_more top ws out out' at at' t rest next resolved items part =
    item_more nty_of out out' next (under at (resolved_ty top ws (ty_of t))) (resolved_tys top ws (at + 1) (tys_of rest)) (resolved_tys top ws at' (tys_of rest)) resolved items (ap (λ i. resolved_tys top ws i (tys_of rest)) part)

-- BINDERS

pub entered_scope : (b : Binder) (ns : names.Binders) (s : Locals) → with_binders (entered_by b ns) s ≡ enter b (with_binders ns s)
entered_scope (BValue x t) ns s = refl
entered_scope (BType a k) ns s = refl
entered_scope (BCo c r t u) ns s = refl

pub entered_words : (b : Binder) (ns : names.Binders) → words_of (entered_by b ns) ≡ with_binder b (words_of ns)
entered_words (BValue x t) ns = refl
entered_words (BType a k) ns = refl
entered_words (BCo c r t u) ns = refl

pub binders_more : (top : Top) (s : Locals) (ns ns' : names.Binders) (out out' : List (B.Binder ℕ)) (at at' : ℕ) (b : B.Binder Word) (rest : List (B.Binder Word)) (next : B.Binder ℕ)
    → under at (need (is_new (binder_of b) (words_of ns)) Duplicate (resolved_binder top (with_binders ns s) (binder_of b))) ≡ Ok (nbinder_of next)
    → ns' ≡ entered_by (binder_of b) ns → out' ≡ out ++ next ∷ [] → at' ≡ at + 1
    → with_items nbinder_of out (resolved_binders top (with_binders ns s) (words_of ns) at (binders_of (b ∷ rest)))
    ≡ with_items nbinder_of out' (resolved_binders top (with_binders ns' s) (words_of ns') at' (binders_of rest))
binders_more top s ns ns' out out' at at' b rest next resolved words items part =
    item_more nbinder_of out out' next (under at (need (is_new (binder_of b) (words_of ns)) Duplicate (resolved_binder top (with_binders ns s) (binder_of b))))
    (resolved_binders top (enter (binder_of b) (with_binders ns s)) (with_binder (binder_of b) (words_of ns)) (at + 1) (binders_of rest))
    (resolved_binders top (with_binders ns' s) (words_of ns') at' (binders_of rest)) resolved items
    (ap (λ ms. resolved_binders top (with_binders ms s) (words_of ms) at' (binders_of rest)) words
    ∙ (λ i. resolved_binders top (entered_scope (binder_of b) ns s i) (entered_words (binder_of b) ns i) (part i) (binders_of rest)))

pub binders_refused : (top : Top) (s : Locals) (ns : names.Binders) (out : List (B.Binder ℕ)) (at : ℕ) (b : B.Binder Word) (rest : List (B.Binder Word)) (g : Flawed)
    → Refuses g (under at (need (is_new (binder_of b) (words_of ns)) Duplicate (resolved_binder top (with_binders ns s) (binder_of b))))
    → Refuses g (with_items nbinder_of out (resolved_binders top (with_binders ns s) (words_of ns) at (binders_of (b ∷ rest))))
binders_refused top s ns out at b rest g refused =
    item_refused nbinder_of out (under at (need (is_new (binder_of b) (words_of ns)) Duplicate (resolved_binder top (with_binders ns s) (binder_of b))))
    (resolved_binders top (enter (binder_of b) (with_binders ns s)) (with_binder (binder_of b) (words_of ns)) (at + 1) (binders_of rest)) g refused
