-- The words of the binders of a list, with one item more.
use Rattle.std.proofs.Common.{◌≡◌, ℕ, ◌+◌, ◌<◌, ◌++◌, List, [], ◌∷◌, take, length, get_or, sym, ap, ◌∙◌, append_assoc}
use Rattle.std.proofs.lemmas.List.{append-nil, take_more}
use Rattle.fc_syntax.specs.GenericTree.{Word}
use Rattle.fc_syntax.specs.View.{ty_of, tys_of, co_of, cos_of, binder_of, binders_of}
use Rattle.fc_syntax.specs.Hints.{ty_hints, tys_hints, co_hints, cos_hints, binder_hints, binders_hints}
use Rattle.fc_syntax.specs.declared.ty.Ty as T
use Rattle.fc_syntax.specs.declared.co.Co as G
use Rattle.fc_syntax.specs.declared.expr.Binder as RustBinder

-- WHAT A LIST SAYS ITEM BY ITEM

abbrev pub GoesByItems : {X : Type 0} → (List X → List Word) → (X → List Word) → Type 0
GoesByItems {X} whole one = (xs : List X) (x : X) → whole (xs ++ x ∷ []) ≡ whole xs ++ one x

-- an item that says what the next one does goes to the end
pub step : {X Y : Type 0} (whole : List X → List Word) (one : X → List Word) (whole' : List Y → List Word) (one' : Y → List Word) → GoesByItems whole one → GoesByItems whole' one'
    → (items : List X) (all more : List Y) (i : ℕ) (x : X) (y : Y) → more ≡ all ++ y ∷ [] → one' y ≡ one x → i < length items → x ≡ get_or items i x
    → whole' all ≡ whole (take i items) → whole' more ≡ whole (take (i + 1) items)
step whole one whole' one' goes goes' items all more i x y pushed same within is so_far =
    ap whole' pushed ∙ goes' all y ∙ (λ j. so_far j ++ same j) ∙ sym (goes (take i items) x) ∙ ap (λ z. whole (take i items ++ z ∷ [])) is ∙ sym (ap whole (take_more items i x within))

-- TYS

tys_go : {L : Type 0} (xs : List (T.Ty L)) (x : T.Ty L) → tys_hints (tys_of (xs ++ x ∷ [])) ≡ tys_hints (tys_of xs) ++ ty_hints (ty_of x)
tys_go [] x = append-nil (ty_hints (ty_of x))
tys_go (y ∷ xs) x =
    ap (λ ws. ty_hints (ty_of y) ++ ws) (tys_go xs x)
    ∙ sym (append_assoc (ty_hints (ty_of y)) (tys_hints (tys_of xs)) (ty_hints (ty_of x)))

pub tys_keep : (items : List (T.Ty Word)) (all more : List (T.Ty ℕ)) (i : ℕ) (x : T.Ty Word) (y : T.Ty ℕ) → more ≡ all ++ y ∷ [] → ty_hints (ty_of y) ≡ ty_hints (ty_of x)
    → i < length items → x ≡ get_or items i x → tys_hints (tys_of all) ≡ tys_hints (tys_of (take i items)) → tys_hints (tys_of more) ≡ tys_hints (tys_of (take (i + 1) items))
tys_keep items all more i x y pushed same within is so_far =
    step (λ xs. tys_hints (tys_of xs)) (λ z. ty_hints (ty_of z)) (λ xs. tys_hints (tys_of xs)) (λ z. ty_hints (ty_of z)) tys_go tys_go items all more i x y pushed same within is so_far

-- COS

cos_go : {L : Type 0} (xs : List (G.Co L)) (x : G.Co L) → cos_hints (cos_of (xs ++ x ∷ [])) ≡ cos_hints (cos_of xs) ++ co_hints (co_of x)
cos_go [] x = append-nil (co_hints (co_of x))
cos_go (y ∷ xs) x =
    ap (λ ws. co_hints (co_of y) ++ ws) (cos_go xs x)
    ∙ sym (append_assoc (co_hints (co_of y)) (cos_hints (cos_of xs)) (co_hints (co_of x)))

pub cos_keep : (items : List (G.Co Word)) (all more : List (G.Co ℕ)) (i : ℕ) (x : G.Co Word) (y : G.Co ℕ) → more ≡ all ++ y ∷ [] → co_hints (co_of y) ≡ co_hints (co_of x)
    → i < length items → x ≡ get_or items i x → cos_hints (cos_of all) ≡ cos_hints (cos_of (take i items)) → cos_hints (cos_of more) ≡ cos_hints (cos_of (take (i + 1) items))
cos_keep items all more i x y pushed same within is so_far =
    step (λ xs. cos_hints (cos_of xs)) (λ z. co_hints (co_of z)) (λ xs. cos_hints (cos_of xs)) (λ z. co_hints (co_of z)) cos_go cos_go items all more i x y pushed same within is so_far

-- BINDERS

binders_go : {L : Type 0} (xs : List (RustBinder.Binder L)) (x : RustBinder.Binder L) → binders_hints (binders_of (xs ++ x ∷ [])) ≡ binders_hints (binders_of xs) ++ binder_hints (binder_of x)
binders_go [] x = append-nil (binder_hints (binder_of x))
binders_go (y ∷ xs) x =
    ap (λ ws. binder_hints (binder_of y) ++ ws) (binders_go xs x)
    ∙ sym (append_assoc (binder_hints (binder_of y)) (binders_hints (binders_of xs)) (binder_hints (binder_of x)))

pub binders_keep : (items : List (RustBinder.Binder Word)) (all more : List (RustBinder.Binder ℕ)) (i : ℕ) (x : RustBinder.Binder Word) (y : RustBinder.Binder ℕ) → more ≡ all ++ y ∷ [] → binder_hints (binder_of y) ≡ binder_hints (binder_of x)
    → i < length items → x ≡ get_or items i x → binders_hints (binders_of all) ≡ binders_hints (binders_of (take i items)) → binders_hints (binders_of more) ≡ binders_hints (binders_of (take (i + 1) items))
binders_keep items all more i x y pushed same within is so_far =
    step (λ xs. binders_hints (binders_of xs)) (λ z. binder_hints (binder_of z)) (λ xs. binders_hints (binders_of xs)) (λ z. binder_hints (binder_of z)) binders_go binders_go items all more i x y pushed same within is so_far

pub ruleset word_rules = (tys_keep, cos_keep, binders_keep)
