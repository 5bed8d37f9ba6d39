-- A constructor at the types of a scrutinee.
use Rattle.std.proofs.Common.{◌≡◌, ◌+◌, ℕ, suc, Bool, false, ◌&&◌, nat_eq, List, [], ◌∷◌, length, reverse, refl, sym, ap, ◌∙◌}
use Rattle.std.proofs.lemmas.List.{length-reverse}
use Rattle.fc_syntax.specs.declared.ty.Name.{Name}
use Rattle.fc_syntax.specs.Tree.{Kind}
use Rattle.fc_syntax.specs.declared.expr.Binder.{Binder}
use Rattle.fc_model.specs.NamelessView.{nbinders_of}
use Rattle.fc_model.proofs.Sameness.{false_true, nat_eq_refl}
use Rattle.fc_model.specs.Calling.{Constructor, constructor_binders, at_types, binders_fit, binders_to, constructor_type, data_name, is_con_type, is_data_of, same_as, type_arguments, type_head}
use Rattle.fc_model.specs.Nameless.{NTy, NBinder}
use Rattle.fc_type_scope.proofs.Numbers.{length-shown_all, shown_all-grows}
use Rattle.fc_type_scope.specs.Scopes.{AreTypesAt, shown_all_at}
use Rattle.fc_type_table.proofs.Numbers.{shown_at-grows}
use Rattle.fc_type_table.specs.Nodes.{Extends}
use Rattle.fc_type_table.specs.Scopes.{IsTypeAt, shown_at}
use Rattle.fc_type_table.specs.declared.node.Node.{Node}
use Rattle.fc_type_table.specs.declared.node.TypeId.{TypeId}

-- a scrutinee of the type s, with its head and its arguments, the last one first
module _ (old : List Node) (ks : List Kind) (s head : NTy) (ids : List TypeId) (n : Name) (k : Constructor) (is_head : head ≡ type_head s) (are_arguments : reverse (shown_all_at old ks ids) ≡ type_arguments s) where
  as_many : length (type_arguments s) ≡ length ids
  as_many = ap length (sym are_arguments) ∙ length-reverse (shown_all_at old ks ids) ∙ length-shown_all old ks ids

  pub is_of_data : (b : Bool) → b ≡ (is_con_type head (data_name n k.data_word) && nat_eq (length ids) (length k.params)) → b ≡ is_data_of s n k
  is_of_data b e = e ∙ ap (λ h. is_con_type h (data_name n k.data_word) && nat_eq (length ids) (length k.params)) is_head
      ∙ ap (λ m. is_con_type (type_head s) (data_name n k.data_word) && nat_eq m (length k.params)) (sym as_many)

  -- asked in a table that grew
  pub is_fit : (new : List Node) (t w : TypeId) (bs : List NBinder) (b : Bool) → Extends old new → AreTypesAt old ks ids → IsTypeAt old ks t.0 → shown_at old ks t.0 ≡ constructor_type n k → shown_at new ks w.0 ≡ binders_to bs s
      → b ≡ same_as (at_types (shown_at new ks t.0) (reverse (shown_all_at new ks ids))) (shown_at new ks w.0) → b ≡ binders_fit n k s bs
  is_fit new t w bs b more ids_in t_in t_view w_view e =
      e ∙ ap (λ x. same_as (at_types x (reverse (shown_all_at new ks ids))) (shown_at new ks w.0)) (shown_at-grows old new ks t.0 more t_in ∙ t_view)
      ∙ ap (λ us. same_as (at_types (constructor_type n k) us) (shown_at new ks w.0)) (ap reverse (shown_all-grows old new ks ids more ids_in) ∙ are_arguments)
      ∙ ap (same_as (at_types (constructor_type n k) (type_arguments s))) w_view

-- binders that are counted in code are as many without their words
length-binders : (xs : List (Binder ℕ)) → length (nbinders_of xs) ≡ length xs
length-binders [] = refl
length-binders (x ∷ xs) = ap suc (length-binders xs)

-- the test of the numbers of binders
pub not_as_many : (xs : List (Binder ℕ)) (k : Constructor) (b : Bool) → b ≡ nat_eq (length xs + length k.params) (length (constructor_binders k)) → b ≡ false
    → length (nbinders_of xs) + length k.params ≡ length (constructor_binders k) → ⊥
not_as_many xs k b test told same =
    let there : length xs + length k.params ≡ length (constructor_binders k) = ap (λ m. m + length k.params) (sym (length-binders xs)) ∙ same in
    false_true (sym told ∙ test ∙ ap (nat_eq (length xs + length k.params)) (sym there) ∙ nat_eq_refl (length xs + length k.params))
