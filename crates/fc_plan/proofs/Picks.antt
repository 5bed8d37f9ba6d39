-- Items of a list that numbers pick.
use Rattle.std.proofs.Common.{◌≡◌, ◌∙◌, ℕ, ◌++◌, List, [], ◌∷◌, Some, None, map, slice_get, refl, sym, ap}
use Rattle.std.proofs.lemmas.List.{map-append}
use Rattle.std.proofs.lemmas.Option.{slice_get-map}
use Rattle.std.specs.List.{cons_option, filter_map}
use Rattle.std.specs.Option.{option_map}
use Rattle.fc_syntax.specs.Tree.{Word}
use Rattle.fc_syntax.specs.View.{module_of}
use Rattle.fc_syntax.specs.declared.module.Module as rust
use Rattle.fc_syntax.specs.declared.ty.Name.{Name}
use Rattle.fc_plan.specs.Modules.{behind}
use denote.Ref.{Bor}

append_one : {Y : Type 0} (done : List Y) (y : Y) (ys : List Y) → (done ++ y ∷ []) ++ ys ≡ done ++ y ∷ ys
append_one [] y ys = refl
append_one (x ∷ done) y ys = ap (λ r. x ∷ r) (append_one done y ys)

-- a number that picks an item puts it behind what is picked
pub pick_one : {X Y : Type 0} (f : X → Y) (xs : List X) (n : ℕ) (x : X) (found : List Y) (ns : List ℕ) → slice_get xs n ≡ Some x
    → (found ++ f x ∷ []) ++ filter_map (slice_get (map f xs)) ns ≡ found ++ filter_map (slice_get (map f xs)) (n ∷ ns)
pick_one f xs n x found ns h =
    append_one found (f x) (filter_map (slice_get (map f xs)) ns)
    ∙ ap (λ o. found ++ cons_option o (filter_map (slice_get (map f xs)) ns)) (sym (slice_get-map f xs n ∙ ap (option_map f) h))

-- one that picks none puts nothing
pub pick_none : {X Y : Type 0} (f : X → Y) (xs : List X) (n : ℕ) (found : List Y) (ns : List ℕ) → slice_get xs n ≡ None
    → found ++ filter_map (slice_get (map f xs)) ns ≡ found ++ filter_map (slice_get (map f xs)) (n ∷ ns)
pick_none f xs n found ns h =
    ap (λ o. found ++ cons_option o (filter_map (slice_get (map f xs)) ns)) (sym (slice_get-map f xs n ∙ ap (option_map f) h))

-- a module whose number is picked, behind modules that are referred to
pub pick_behind : (found new : List (Bor (rust.Module Word Name))) (m : Bor (rust.Module Word Name)) (xs : List (rust.Module Word Name)) (n : ℕ) (more : List ℕ) → new ≡ found ++ m ∷ [] → Some m.now ≡ slice_get xs n
    → behind new ++ filter_map (slice_get (map module_of xs)) more ≡ behind found ++ filter_map (slice_get (map module_of xs)) (n ∷ more)
pick_behind found new m xs n more are is =
    ap (λ ms. behind ms ++ filter_map (slice_get (map module_of xs)) more) are
    ∙ ap (λ ms. ms ++ filter_map (slice_get (map module_of xs)) more) (map-append (λ r. module_of r.now) found (m ∷ []))
    ∙ pick_one module_of xs n m.now (behind found) more (sym is)
