-- What stands together in scope, which is looked up from the last one on.
use Rattle.std.proofs.Common.{◌≡◌, refl, sym, ap, ◌∙◌, ◌-◌, ◌<◌, ◌≤◌, ℕ, zero, suc, List, [], ◌∷◌, ◌++◌, length, map, reverse, get_or, Ok, arith}
use Rattle.std.proofs.lemmas.List.{get_or-map, get_or-reverse, length-map, length-reverse}
use Rattle.fc_model.specs.Faulting.{at_distance}

inner : {X : Type 0} (xs outer : List X) (d : ℕ) (x : X) → d < length xs → at_distance (xs ++ outer) d ≡ Ok (get_or xs d x)
inner [] outer d x low = absurd (omega arith)
inner (y ∷ xs) outer zero x low = refl
inner (y ∷ xs) outer (suc d) x low = inner xs outer d x (omega arith)

outside : {X : Type 0} (xs outer : List X) (d : ℕ) → length xs ≤ d → at_distance (xs ++ outer) d ≡ at_distance outer (d - length xs)
outside [] outer d far = let here : d ≡ d - 0 = omega arith in ap (at_distance outer) here
outside (y ∷ xs) outer zero far = absurd (omega arith)
outside (y ∷ xs) outer (suc d) far = let here : d - length xs ≡ suc d - length (y ∷ xs) = omega arith in outside xs outer d (omega arith) ∙ ap (at_distance outer) here

-- what is seen of a list from its last item on
pub seen_inner : {X Y : Type 0} (f : X → Y) (xs : List X) (outer : List Y) (d : ℕ) (x : X) → d < length xs → x ≡ get_or xs (length xs - 1 - d) x
    → at_distance (reverse (map f xs) ++ outer) d ≡ Ok (f x)
seen_inner f xs outer d x low is =
    let long : length (map f xs) ≡ length xs = length-map xs f in
    let back : length (reverse (map f xs)) ≡ length (map f xs) = length-reverse (map f xs) in
    let at : length (map f xs) - 1 - d ≡ length xs - 1 - d = omega arith in
    inner (reverse (map f xs)) outer d (f x) (omega arith)
    ∙ ap Ok (get_or-reverse (map f xs) d (f x) (omega arith) ∙ ap (λ n. get_or (map f xs) n (f x)) at ∙ get_or-map f xs (length xs - 1 - d) x (f x) (omega arith) ∙ ap f (sym is))

pub seen_outside : {X Y : Type 0} (f : X → Y) (xs : List X) (outer : List Y) (d : ℕ) → length xs ≤ d → at_distance (reverse (map f xs) ++ outer) d ≡ at_distance outer (d - length xs)
seen_outside f xs outer d far =
    let long : length (map f xs) ≡ length xs = length-map xs f in
    let back : length (reverse (map f xs)) ≡ length (map f xs) = length-reverse (map f xs) in
    let left : d - length (reverse (map f xs)) ≡ d - length xs = omega arith in
    outside (reverse (map f xs)) outer d (omega arith) ∙ ap (at_distance outer) left
