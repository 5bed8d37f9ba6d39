-- Things that stand in a table, several together: in a table that grows, behind more type variables, one more of them, and looked up.
use Rattle.std.proofs.Common.{◌≡◌, ℕ, zero, suc, List, [], ◌∷◌, ◌++◌, length, map, reverse, All, Ok, Err, refl, sym, ap, subst, ◌∙◌}
use Rattle.std.proofs.lemmas.Grind.{reverse_onto}
use Rattle.std.proofs.lemmas.List.{map-append}
use Rattle.std.proofs.lemmas.List.Elements.{All-append, All-cons, All-head, All-nil, All-tail}
use Rattle.fc_model.specs.Faulting.{F, at_distance}
use Rattle.fc_syntax.specs.Tree.{Kind}
use Rattle.fc_type_table.specs.Nodes.{Extends}
use Rattle.fc_type_table.specs.declared.node.Node.{Node}

-- what is asked of one of them: that it stays right, and what it shows, in a table that grows and behind more type variables
pub record Stands {X Y : Type 0} (IsAt : List Node → List Kind → X → Type 0) (shown : List Node → List Kind → X → Y) (raised : ℕ → Y → Y) : Type 0 where
  pub grows : (old new : List Node) (ks : List Kind) (x : X) → Extends old new → IsAt old ks x → IsAt new ks x
  pub same : (old new : List Node) (ks : List Kind) (x : X) → Extends old new → IsAt old ks x → shown new ks x ≡ shown old ks x
  pub past : (ns : List Node) (bs ks : List Kind) (x : X) → IsAt ns ks x → IsAt ns (bs ++ ks) x
  pub moved : (ns : List Node) (bs ks : List Kind) (x : X) → IsAt ns ks x → shown ns (bs ++ ks) x ≡ raised (length bs) (shown ns ks x)

module _ {X Y : Type 0} (IsAt : List Node → List Kind → X → Type 0) (shown : List Node → List Kind → X → Y) (raised : ℕ → Y → Y) where
  abbrev AreAt : List Node → List Kind → List X → Type 0
  AreAt ns ks xs = All (λ x. IsAt ns ks x) xs

  abbrev shows : List Node → List Kind → List X → List Y
  shows ns ks xs = map (λ x. shown ns ks x) xs

  -- RIGHT

  pub all_none : (ns : List Node) (ks : List Kind) → AreAt ns ks []
  all_none ns ks = All-nil (λ x. IsAt ns ks x)

  pub all_one : (ns : List Node) (ks : List Kind) (x : X) → IsAt ns ks x → AreAt ns ks (x ∷ [])
  all_one ns ks x h = All-cons (λ y. IsAt ns ks y) x [] h (all_none ns ks)

  all_reverse : (ns : List Node) (ks : List Kind) (xs : List X) → AreAt ns ks xs → AreAt ns ks (reverse xs)
  all_reverse ns ks [] hs = hs
  all_reverse ns ks (x ∷ xs) hs =
      subst (AreAt ns ks) (sym (reverse_onto xs x [])) (All-append (λ y. IsAt ns ks y) (reverse xs) (x ∷ []) (all_reverse ns ks xs (All-tail (λ y. IsAt ns ks y) x xs hs))
      (all_one ns ks x (All-head (λ y. IsAt ns ks y) x xs hs)))

  -- those that stand together, the last one the innermost, before those around them
  pub all_behind : (ns : List Node) (ks : List Kind) (xs outer : List X) → AreAt ns ks xs → AreAt ns ks outer → AreAt ns ks (reverse xs ++ outer)
  all_behind ns ks xs outer hs gs = All-append (λ y. IsAt ns ks y) (reverse xs) outer (all_reverse ns ks xs hs) gs

  pub found_right : (ns : List Node) (ks : List Kind) (xs : List X) (d : ℕ) (x : X) → at_distance xs d ≡ Ok x → AreAt ns ks xs → IsAt ns ks x
  found_right ns ks [] d x e hs = cc
  found_right ns ks (y ∷ xs) zero x e hs = let h : y ≡ x = cc in subst (IsAt ns ks) h (All-head (λ z. IsAt ns ks z) y xs hs)
  found_right ns ks (y ∷ xs) (suc d) x e hs = found_right ns ks xs d x e (All-tail (λ z. IsAt ns ks z) y xs hs)

  -- SHOWN

  shows_reverse : (ns : List Node) (ks : List Kind) (xs : List X) → shows ns ks (reverse xs) ≡ reverse (shows ns ks xs)
  shows_reverse ns ks [] = refl
  shows_reverse ns ks (x ∷ xs) =
      ap (shows ns ks) (reverse_onto xs x []) ∙ map-append (λ y. shown ns ks y) (reverse xs) (x ∷ []) ∙ ap (λ ys. ys ++ shown ns ks x ∷ []) (shows_reverse ns ks xs)
      ∙ sym (reverse_onto (shows ns ks xs) (shown ns ks x) [])

  pub shows_behind : (ns : List Node) (ks : List Kind) (xs outer : List X) → shows ns ks (reverse xs ++ outer) ≡ reverse (shows ns ks xs) ++ shows ns ks outer
  shows_behind ns ks xs outer = map-append (λ y. shown ns ks y) (reverse xs) outer ∙ ap (λ ys. ys ++ shows ns ks outer) (shows_reverse ns ks xs)

  pub shows_found : (ns : List Node) (ks : List Kind) (xs : List X) (d : ℕ) (x : X) → at_distance xs d ≡ Ok x → at_distance (shows ns ks xs) d ≡ Ok (shown ns ks x)
  shows_found ns ks [] d x e = cc
  shows_found ns ks (y ∷ xs) zero x e = let h : y ≡ x = cc in ap (λ z. Ok (shown ns ks z)) h
  shows_found ns ks (y ∷ xs) (suc d) x e = shows_found ns ks xs d x e

  pub shows_none : (ns : List Node) (ks : List Kind) (xs : List X) (d : ℕ) (f : F) → at_distance xs d ≡ Err f → at_distance (shows ns ks xs) d ≡ Err f
  shows_none ns ks [] d f e = cc
  shows_none ns ks (y ∷ xs) zero f e = cc
  shows_none ns ks (y ∷ xs) (suc d) f e = shows_none ns ks xs d f e

  -- IN A TABLE THAT GROWS, AND BEHIND MORE TYPE VARIABLES

  module _ (laws : Stands IsAt shown raised) where
    pub all_grow : (old new : List Node) (ks : List Kind) (xs : List X) → Extends old new → AreAt old ks xs → AreAt new ks xs
    all_grow old new ks [] more hs = all_none new ks
    all_grow old new ks (x ∷ xs) more hs =
        All-cons (λ y. IsAt new ks y) x xs (laws.grows old new ks x more (All-head (λ y. IsAt old ks y) x xs hs)) (all_grow old new ks xs more (All-tail (λ y. IsAt old ks y) x xs hs))

    pub shows_same : (old new : List Node) (ks : List Kind) (xs : List X) → Extends old new → AreAt old ks xs → shows new ks xs ≡ shows old ks xs
    shows_same old new ks [] more hs = refl
    shows_same old new ks (x ∷ xs) more hs =
        cc (laws.same old new ks x more (All-head (λ y. IsAt old ks y) x xs hs), shows_same old new ks xs more (All-tail (λ y. IsAt old ks y) x xs hs))

    pub all_past : (ns : List Node) (bs ks : List Kind) (xs : List X) → AreAt ns ks xs → AreAt ns (bs ++ ks) xs
    all_past ns bs ks [] hs = all_none ns (bs ++ ks)
    all_past ns bs ks (x ∷ xs) hs =
        All-cons (λ y. IsAt ns (bs ++ ks) y) x xs (laws.past ns bs ks x (All-head (λ y. IsAt ns ks y) x xs hs)) (all_past ns bs ks xs (All-tail (λ y. IsAt ns ks y) x xs hs))

    pub shows_moved : (ns : List Node) (bs ks : List Kind) (xs : List X) → AreAt ns ks xs → shows ns (bs ++ ks) xs ≡ map (raised (length bs)) (shows ns ks xs)
    shows_moved ns bs ks [] hs = refl
    shows_moved ns bs ks (x ∷ xs) hs =
        cc (laws.moved ns bs ks x (All-head (λ y. IsAt ns ks y) x xs hs), shows_moved ns bs ks xs (All-tail (λ y. IsAt ns ks y) x xs hs))

    -- one more behind the others, while the table grew
    pub all_push : (old new : List Node) (ks : List Kind) (xs : List X) (x : X) → Extends old new → AreAt old ks xs → IsAt new ks x → AreAt new ks (xs ++ x ∷ [])
    all_push old new ks xs x more hs h = All-append (λ y. IsAt new ks y) xs (x ∷ []) (all_grow old new ks xs more hs) (all_one new ks x h)

    pub shows_push : (old new : List Node) (ks : List Kind) (xs : List X) (x : X) → Extends old new → AreAt old ks xs → shows new ks (xs ++ x ∷ []) ≡ shows old ks xs ++ shown new ks x ∷ []
    shows_push old new ks xs x more hs = map-append (λ y. shown new ks y) xs (x ∷ []) ∙ ap (λ ys. ys ++ shown new ks x ∷ []) (shows_same old new ks xs more hs)
