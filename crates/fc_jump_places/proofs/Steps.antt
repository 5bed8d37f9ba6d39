-- One part more of a list, and how many binders there are.
use Rattle.std.proofs.Common.{◌≡◌, ◌+◌, ◌<◌, ℕ, suc, Bool, true, false, if◌then◌else◌, List, [], ◌∷◌, length, drop, get_or, Option, Some, None, Vec, refl, sym, ap, ◌∙◌, arith}
use Rattle.std.proofs.lemmas.List.{drop_more}
use Rattle.std.specs.Option.{is_some}
use Rattle.fc_syntax.specs.declared.expr.Binder.{Binder}
use Rattle.fc_syntax.specs.declared.expr.JoinBind.{JoinBind}
use Rattle.fc_syntax.specs.declared.ty.Ref.{Ref}
use Rattle.fc_model.specs.Calling.{first_of}
use Rattle.fc_model.specs.Nameless.{NExpr, NJoins}
use Rattle.fc_model.specs.NamelessView.{nbinders_of, njoins_of}
use Rattle.fc_model.specs.Replacing.{join_count}
use Rattle.fc_numbers.proofs.Counted.{joins_counted}
use Rattle.fc_rows.specs.Changing.{made}
use Rattle.fc_rows.specs.Shrinking.{jump_place, jump_place_in_joins}
use Rattle.fc_jump_places.specs.Backwards.{place_of}

pub binders_counted : (bs : List (Binder ℕ)) → length (nbinders_of bs) ≡ length bs
binders_counted [] = refl
binders_counted (b ∷ bs) = ap (λ n. suc n) (binders_counted bs)

-- what is found in a first part is found in all
pub something_here : {A : Type 0} (o : Option (Vec ℕ A)) (x y : Option (List ℕ)) → is_some o ≡ true → place_of o ≡ x → place_of o ≡ first_of x y
something_here None x y is found = cc
something_here (Some v) x y is found = ap (λ z. first_of z y) found

pub nothing_there : {A : Type 0} (o : Option (Vec ℕ A)) (x : Option (List ℕ)) → is_some o ≡ false → place_of o ≡ x → None ≡ x
nothing_there None x is found = found
nothing_there (Some v) x is found = cc

-- where there is nothing in a part of a list, what is found is found in the parts behind it
pub nothing_here : {X Y : Type 0} (f : ℕ → List X → Option Y) (g : ℕ → X → Option Y) → ((n : ℕ) (x : X) (xs : List X) → f n (x ∷ xs) ≡ first_of (g n x) (f (suc n) xs))
    → (items : List X) (i n m : ℕ) (x : X) (whole : Option Y) → f n (drop i items) ≡ whole → i < length items → x ≡ get_or items i x → None ≡ g n x → m ≡ n + 1 → f m (drop (i + 1) items) ≡ whole
nothing_here f g law items i n m x whole so_far within is nothing more =
    let next : m ≡ suc n = omega (arith, more) in
    ap (λ k. f k (drop (i + 1) items)) next ∙ ap (λ o. first_of o (f (suc n) (drop (i + 1) items))) nothing ∙ sym (law n x (drop (i + 1) items))
    ∙ ap (f n) (ap (λ y. y ∷ drop (i + 1) items) is ∙ sym (drop_more items i x within)) ∙ so_far

-- what has join points: their right sides, and then the body
abbrev in_group : Bool → ℕ → NJoins → NExpr → Option (List ℕ)
in_group r d js e = first_of (jump_place_in_joins (if r then d + join_count js else d) 1 js) (made (λ p. suc (join_count js) ∷ p) (jump_place (d + join_count js) e))

module _ (r : Bool) (d : ℕ) (js : List (JoinBind ℕ Ref)) (e : NExpr) (count inner : ℕ) (many : count ≡ length js) (further : inner ≡ d + count) where
  inner_is : inner ≡ d + join_count (njoins_of js)
  inner_is = omega (arith, many, further, joins_counted js)

  in_sides : (o : Option (List ℕ)) → o ≡ jump_place_in_joins (if r then inner else d) 1 (njoins_of js) → o ≡ jump_place_in_joins (if r then d + join_count (njoins_of js) else d) 1 (njoins_of js)
  in_sides o is = is ∙ ap (λ n. jump_place_in_joins (if r then n else d) 1 (njoins_of js)) inner_is

  pub found_in_sides : {A : Type 0} (o : Option (Vec ℕ A)) → is_some o ≡ true → place_of o ≡ jump_place_in_joins (if r then inner else d) 1 (njoins_of js) → place_of o ≡ in_group r d (njoins_of js) e
  found_in_sides o is found = something_here o _ _ is (in_sides (place_of o) found)

  pub found_in_body : {A : Type 0} (o b : Option (Vec ℕ A)) (n : ℕ) → is_some o ≡ false → place_of o ≡ jump_place_in_joins (if r then inner else d) 1 (njoins_of js) → place_of b ≡ jump_place inner e → n ≡ count + 1
      → (w : Option (Vec ℕ A)) → place_of w ≡ made (λ p. n ∷ p) (place_of b) → place_of w ≡ in_group r d (njoins_of js) e
  found_in_body o b n is found body next w whole =
      let part : n ≡ suc (join_count (njoins_of js)) = omega (arith, next, many, joins_counted js) in
      let behind : Option (List ℕ) = made (λ p. suc (join_count (njoins_of js)) ∷ p) (jump_place (d + join_count (njoins_of js)) e) in
      whole ∙ ap (λ m. made (λ p. m ∷ p) (place_of b)) part ∙ ap (made (λ p. suc (join_count (njoins_of js)) ∷ p)) (body ∙ ap (λ m. jump_place m e) inner_is)
      ∙ ap (λ x. first_of x behind) (nothing_there o _ is (in_sides (place_of o) found))
