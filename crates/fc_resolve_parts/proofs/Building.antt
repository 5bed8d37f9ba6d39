-- Lists that are built item by item.
use Rattle.std.proofs.Common.{◌≡◌, ℕ, ◌++◌, List, [], ◌∷◌, map, Result, Ok, Err, refl, ap}
use Rattle.std.proofs.lemmas.List.{append-nil}
use Rattle.fc_syntax.specs.declared.co.Co as G
use Rattle.fc_model.specs.Faulting.{F}
use Rattle.fc_model.specs.Nameless.{NCos, NoNCos, MoreNCos}
use Rattle.fc_model.specs.NamelessView.{nco_of, ncos_of}
use Rattle.fc_model.specs.Resolution.{then_item, then_co}
use Rattle.fc_resolve_parts.specs.Building.{with_items, cos_before, with_cos}

append_item : {X Y : Type 0} (view : X → Y) (items : List X) (x : X) (rest : List Y) → map view items ++ view x ∷ rest ≡ map view (items ++ x ∷ []) ++ rest
append_item view [] x rest = refl
append_item view (y ∷ items) x rest = ap (λ zs. view y ∷ zs) (append_item view items x rest)

pub with_items_more : {X Y : Type 0} (view : X → Y) (items : List X) (x : X) (r : Result (List Y) F) → with_items view items (then_item (view x) r) ≡ with_items view (items ++ x ∷ []) r
unfolding with_items
with_items_more view items x (Ok rest) = ap (λ z. Ok z) (append_item view items x rest)
with_items_more view items x (Err f) = refl

pub with_items_end : {X Y : Type 0} (view : X → Y) (items : List X) → with_items view items (Ok []) ≡ Ok (map view items)
unfolding with_items
with_items_end view items = ap (λ z. Ok z) (append-nil (map view items))

pub with_items_none : {X Y : Type 0} (view : X → Y) (r : Result (List Y) F) → with_items view [] r ≡ r
unfolding with_items
with_items_none view (Ok rest) = refl
with_items_none view (Err f) = refl

pub with_items_err : {X Y : Type 0} (view : X → Y) (items : List X) (f : F) → with_items view items (Err f) ≡ Err f
unfolding with_items
with_items_err view items f = refl

append_co : (items : List (G.Co ℕ)) (x : G.Co ℕ) (rest : NCos) → cos_before items (MoreNCos (nco_of x) rest) ≡ cos_before (items ++ x ∷ []) rest
append_co [] x rest = refl
append_co (y ∷ items) x rest = ap (λ xs. MoreNCos (nco_of y) xs) (append_co items x rest)

append_no_co : (items : List (G.Co ℕ)) → cos_before items NoNCos ≡ ncos_of items
append_no_co [] = refl
append_no_co (y ∷ items) = ap (λ xs. MoreNCos (nco_of y) xs) (append_no_co items)

pub with_cos_more : (items : List (G.Co ℕ)) (x : G.Co ℕ) (r : Result NCos F) → with_cos items (then_co (nco_of x) r) ≡ with_cos (items ++ x ∷ []) r
unfolding with_cos
with_cos_more items x (Ok rest) = ap (λ z. Ok z) (append_co items x rest)
with_cos_more items x (Err f) = refl

pub with_cos_end : (items : List (G.Co ℕ)) → with_cos items (Ok NoNCos) ≡ Ok (ncos_of items)
unfolding with_cos
with_cos_end items = ap (λ z. Ok z) (append_no_co items)

pub with_cos_none : (r : Result NCos F) → with_cos [] r ≡ r
unfolding with_cos
with_cos_none (Ok rest) = refl
with_cos_none (Err f) = refl

pub with_cos_err : (items : List (G.Co ℕ)) (f : F) → with_cos items (Err f) ≡ Err f
unfolding with_cos
with_cos_err items f = refl

pub ruleset building_rules = (with_items_more, with_items_end, with_items_none, with_items_err, with_cos_more, with_cos_end, with_cos_none, with_cos_err)
