-- Binders gone through from the last one to the first: the one that is reached, those before it and those behind it.
use Rattle.std.proofs.Common.{◌≡◌, ℕ, ◌+◌, ◌<◌, ◌≤◌, List, [], ◌∷◌, ◌++◌, drop, get_or, length, map, reverse, take, refl, sym, ap, ◌∙◌, arith}
use Rattle.std.proofs.Math.Seq.{take-append_seam}
use Rattle.std.proofs.lemmas.List.{length-map, map-append, map_more, take-append-drop, take-map}
use Rattle.fc_syntax.specs.Tree.{Kind}
use Rattle.fc_syntax.specs.View.{kind_of}
use Rattle.fc_syntax.specs.declared.expr.Binder as RustBinder
use Rattle.fc_model.specs.Calling.{type_count}
use Rattle.fc_model.specs.Nameless.{NBinder}
use Rattle.fc_model.specs.NamelessView.{nbinder_of, nbinders_of}
use Rattle.fc_model.specs.Typing.{kinds_behind}
use Rattle.fc_model.proofs.Lists.{drop_item}
use Rattle.fc_type_table.specs.InScope.{own_kinds}
use Rattle.fc_type_table.specs.declared.numbered.NumberedKind.{NumberedKind}
use Rattle.fc_type_table.specs.Binders.{binder_kinds, kinds_past}
use Rattle.fc_type_table.proofs.BinderKinds.{binder_kinds-append, kinds_past-last, length-binder_kinds, type_count-append}

-- binders bs up to the last binder b, which stands behind the binders p and before the rest
pub record Reached (bs upto p : List NBinder) (b : NBinder) (rest : List NBinder) : Type 0 where
  pub whole : bs ≡ p ++ b ∷ rest
  pub last : upto ≡ p ++ b ∷ []

all_bare : (xs : List (RustBinder.Binder ℕ)) → nbinders_of xs ≡ map (λ x. nbinder_of x) xs
all_bare [] = refl
all_bare (x ∷ xs) = ap (λ bs. nbinder_of x ∷ bs) (all_bare xs)

pub reached : (xs : List (RustBinder.Binder ℕ)) (i j : ℕ) (x : RustBinder.Binder ℕ) → i < length xs → j ≡ i + 1 → x ≡ get_or xs i x
    → Reached (nbinders_of xs) (nbinders_of (take j xs)) (nbinders_of (take i xs)) (nbinder_of x) (nbinders_of (drop (i + 1) xs))
reached xs i j x low e is =
    let split : xs ≡ take i xs ++ x ∷ drop (i + 1) xs = sym (take-append-drop i xs) ∙ ap (λ r. take i xs ++ r) (drop_item xs i x low is) in
    let whole : nbinders_of xs ≡ nbinders_of (take i xs) ++ nbinder_of x ∷ nbinders_of (drop (i + 1) xs) =
    all_bare xs ∙ ap (map (λ y. nbinder_of y)) split ∙ map-append (λ (y : RustBinder.Binder ℕ). nbinder_of y) (take i xs) (x ∷ drop (i + 1) xs)
    ∙ ap (λ bs. bs ++ nbinder_of x ∷ map (λ y. nbinder_of y) (drop (i + 1) xs)) (sym (all_bare (take i xs)))
    ∙ ap (λ bs. nbinders_of (take i xs) ++ nbinder_of x ∷ bs) (sym (all_bare (drop (i + 1) xs))) in
    let last : nbinders_of (take j xs) ≡ nbinders_of (take i xs) ++ nbinder_of x ∷ [] =
    ap (λ k. nbinders_of (take k xs)) e ∙ all_bare (take (i + 1) xs) ∙ map_more (λ (y : RustBinder.Binder ℕ). nbinder_of y) xs i x low
    ∙ ap (λ bs. bs ++ nbinder_of (get_or xs i x) ∷ []) (sym (all_bare (take i xs))) ∙ ap (λ y. nbinders_of (take i xs) ++ nbinder_of y ∷ []) (sym is) in
    record { whole = whole; last = last }

module _ (bs upto p : List NBinder) (b : NBinder) (rest : List NBinder) (r : Reached bs upto p b rest) where
  pub kinds_counted : type_count upto ≡ type_count p + type_count (b ∷ [])
  kinds_counted = ap type_count r.last ∙ type_count-append p (b ∷ [])

  pub kinds_before : (all : List NumberedKind) → own_kinds all ≡ binder_kinds bs → type_count p ≤ length all
  kinds_before all k =
      let n : length all ≡ type_count p + type_count (b ∷ rest) =
      sym (length-map all (λ (j : NumberedKind). kind_of j.kind.now)) ∙ ap length k ∙ length-binder_kinds bs ∙ ap type_count r.whole ∙ type_count-append p (b ∷ rest) in
      omega arith

  -- the kinds of the type variables before the binder
  pub kinds_there : (all : List NumberedKind) (ks : List Kind) (n : ℕ) → own_kinds all ≡ binder_kinds bs → n ≡ type_count p → reverse (own_kinds (take n all)) ++ ks ≡ kinds_past p ks
  unfolding kinds_past
  kinds_there all ks n k e =
      let m : n ≡ length (binder_kinds p) = e ∙ sym (length-binder_kinds p) in
      let own : own_kinds (take n all) ≡ binder_kinds p =
      sym (take-map (λ (j : NumberedKind). kind_of j.kind.now) n all) ∙ ap (take n) (k ∙ ap binder_kinds r.whole ∙ binder_kinds-append p (b ∷ rest))
      ∙ ap (λ i. take i (binder_kinds p ++ binder_kinds (b ∷ rest))) m ∙ take-append_seam (binder_kinds p) (binder_kinds (b ∷ rest)) in
      ap (λ js. reverse js ++ ks) own

  pub kinds_upto : (ks : List Kind) → kinds_past upto ks ≡ kinds_behind b (kinds_past p ks)
  kinds_upto ks = ap (λ cs. kinds_past cs ks) r.last ∙ kinds_past-last p b ks
