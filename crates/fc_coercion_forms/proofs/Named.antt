-- The parts of two types that are heads at arguments, by the declaration of the first head.
use Rattle.std.proofs.Common.{◌≡◌, ℕ, Bool, true, false, ◌&&◌, if◌then◌else◌, nat_eq, List, length, reverse, Option, Some, None, refl, sym, ap, ◌∙◌, arith}
use Rattle.std.proofs.lemmas.Bool.Decides.{nat_tests}
use Rattle.fc_model.proofs.Sameness.{nat_eq_refl}
use Rattle.std.specs.Option.{option_and_then}
use Rattle.fc_syntax.specs.declared.ty.Role.{Role}
use Rattle.fc_syntax.specs.Tree.{Kind}
use Rattle.fc_model.specs.Calling.{declared_name}
use Rattle.fc_model.specs.Coercing.{Ends, is_injective, paired}
use Rattle.fc_model.specs.Kinding.{Modules, same_name, same_type}
use Rattle.fc_model.specs.Nameless.{NTy, NTVar, NTCon, NTInt, NTApp, NTFun, NTForall, NTCoForall, NDecl}
use Rattle.fc_model.specs.Needs.{declared_roles}
use Rattle.fc_type_scope.specs.Scopes.{shown_all_at}
use Rattle.fc_type_table.specs.TypeTables.{declaration_in}
use Rattle.fc_type_table.specs.declared.node.Node.{Node}
use Rattle.fc_type_table.specs.declared.node.TypeId.{TypeId}
use Rattle.fc_coercion_forms.specs.Parts.{spine_parts}
use Rattle.fc_coercion_forms.proofs.Families.{length-reversed}

abbrev chosen : Bool → Bool → Bool → Option (List Ends) → Option (List Ends)
chosen x y z o = if (x && y) && z then o else None

by_declaration : (ms : Modules) (r : Role) (t : NTy) (ts : List NTy) (u : NTy) (us : List NTy) (d : NDecl) → Some d ≡ option_and_then (declaration_in ms) (declared_name t)
    → spine_parts ms r t ts u us ≡ chosen (same_type t u) (nat_eq (length ts) (length us)) (is_injective r (Some d)) (Some (paired r (declared_roles (Some d)) ts us))
by_declaration ms r (NTVar i) ts u us d h = cc
by_declaration ms r NTInt ts u us d h = cc
by_declaration ms r (NTApp s t) ts u us d h = cc
by_declaration ms r (NTFun s t) ts u us d h = cc
by_declaration ms r (NTForall k t) ts u us d h = cc
by_declaration ms r (NTCoForall o s t v) ts u us d h = cc
by_declaration ms r (NTCon m) ts (NTCon n) us d h = ap
    (λ o. chosen (same_name m n) (nat_eq (length ts) (length us)) (is_injective r o) (Some (paired r (declared_roles o) ts us))) (sym h)
by_declaration ms r (NTCon m) ts (NTVar i) us d h = refl
by_declaration ms r (NTCon m) ts NTInt us d h = refl
by_declaration ms r (NTCon m) ts (NTApp u v) us d h = refl
by_declaration ms r (NTCon m) ts (NTFun u v) us d h = refl
by_declaration ms r (NTCon m) ts (NTForall k v) us d h = refl
by_declaration ms r (NTCon m) ts (NTCoForall o u v w) us d h = refl

none_by_second : (x z : Bool) (o : Option (List Ends)) → chosen x false z o ≡ None
none_by_second true z o = refl
none_by_second false z o = refl

none_by_third : (x y : Bool) (o : Option (List Ends)) → chosen x y false o ≡ None
none_by_third true true o = refl
none_by_third true false o = refl
none_by_third false y o = refl

apart : (i j : ℕ) → (i ≡ j → ⊥) → nat_eq i j ≡ false
apart i j h = grind (arith, nat_tests)

reversed-alike : (ns : List Node) (ks : List Kind) (ls rs : List TypeId) (b : Bool) → nat_eq (length ls) (length rs) ≡ b
    → nat_eq (length (reverse (shown_all_at ns ks ls))) (length (reverse (shown_all_at ns ks rs))) ≡ b
reversed-alike ns ks ls rs b h = ap (λ m. nat_eq m (length (reverse (shown_all_at ns ks rs)))) (length-reversed ns ks ls) ∙ ap (nat_eq (length ls)) (length-reversed ns ks rs) ∙ h

pub counts-apart : (ns : List Node) (ks : List Kind) (ls rs : List TypeId) (i j : ℕ) → i ≡ length ls → j ≡ length rs → (i ≡ j → ⊥)
    → nat_eq (length (reverse (shown_all_at ns ks ls))) (length (reverse (shown_all_at ns ks rs))) ≡ false
counts-apart ns ks ls rs i j p q h = reversed-alike ns ks ls rs false (apart (length ls) (length rs) (λ e. h (p ∙ e ∙ sym q)))

pub counts-same : (ns : List Node) (ks : List Kind) (ls rs : List TypeId) (i j : ℕ) → i ≡ length ls → j ≡ length rs → i ≡ j
    → nat_eq (length (reverse (shown_all_at ns ks ls))) (length (reverse (shown_all_at ns ks rs))) ≡ true
counts-same ns ks ls rs i j p q h = reversed-alike ns ks ls rs true (ap (nat_eq (length ls)) (sym (sym p ∙ h ∙ q)) ∙ nat_eq_refl (length ls))

module _ (ms : Modules) (r : Role) (t : NTy) (ts : List NTy) (u : NTy) (us : List NTy) (d : NDecl) (found : Some d ≡ option_and_then (declaration_in ms) (declared_name t)) where
  abbrev all : Option (List Ends)
  all = Some (paired r (declared_roles (Some d)) ts us)

  pub named-other : same_type t u ≡ false → None ≡ spine_parts ms r t ts u us
  named-other h = sym (by_declaration ms r t ts u us d found ∙ ap (λ b. chosen b (nat_eq (length ts) (length us)) (is_injective r (Some d)) all) h)

  pub named-counts : nat_eq (length ts) (length us) ≡ false → None ≡ spine_parts ms r t ts u us
  named-counts h =
      sym (by_declaration ms r t ts u us d found ∙ ap (λ b. chosen (same_type t u) b (is_injective r (Some d)) all) h
      ∙ none_by_second (same_type t u) (is_injective r (Some d)) all)

  pub named-apart : is_injective r (Some d) ≡ false → None ≡ spine_parts ms r t ts u us
  named-apart h =
      sym (by_declaration ms r t ts u us d found ∙ ap (λ b. chosen (same_type t u) (nat_eq (length ts) (length us)) b all) h
      ∙ none_by_third (same_type t u) (nat_eq (length ts) (length us)) all)

  pub named-same : same_type t u ≡ true → nat_eq (length ts) (length us) ≡ true → is_injective r (Some d) ≡ true
      → Some (paired r (declared_roles (Some d)) ts us) ≡ spine_parts ms r t ts u us
  named-same h i j =
      sym (by_declaration ms r t ts u us d found ∙ ap (λ b. chosen b (nat_eq (length ts) (length us)) (is_injective r (Some d)) all) h
      ∙ ap (λ b. chosen true b (is_injective r (Some d)) all) i ∙ ap (λ b. chosen true true b all) j)
