-- What a row makes of a definition at a place, by what it makes of the part there.
use Rattle.std.proofs.Common.{◌≡◌, ℕ, zero, suc, List, [], ◌∷◌, Option, Some, None, refl, sym, ap, ◌∙◌, if◌then◌else◌}
use Rattle.std.proofs.lemmas.Option.{none-some}
use Rattle.fc_syntax.specs.GenericTree.{DData, DNew, DFamily, DAxiom, DDef, DWrap}
use Rattle.fc_model.specs.Calling.{from_some}
use Rattle.fc_model.specs.Nameless.{NDecl, NDef, NWrap, NExpr}
use Rattle.fc_model.specs.Worded.{WDecl, WExpr, bare_decl, bare_expr, bare_ty}
use Rattle.fc_parts.specs.PartsAt.{at_place}
use Rattle.fc_parts.proofs.Tests.{not_one}
use Rattle.fc_parts.proofs.RowsAtParts.{is_made, is_put, not_made}
use Rattle.fc_places.specs.Places.{around, exchanged}
use Rattle.fc_rows.specs.Changing.{changed, made}
use Rattle.fc_rows.specs.ChangingCoercions.{as_they_are}
use Rattle.fc_rows.specs.Surroundings.{Surroundings}
use Rattle.fc_apply.specs.Definitions.{changed_decl, exchanged_in_decl, right_side, row_in_decl}

module _ (row : Surroundings → NExpr → Option NExpr) (s : Surroundings) where
  -- RIGHT SIDES

  module _ (whole : WExpr → WDecl) (form : NExpr → NDecl) (same : (f : WExpr) → bare_decl (whole f) ≡ form (bare_expr f)) (p : List ℕ) (e : WExpr) where
    right_made : (by : WExpr) (r : WExpr × WDecl) → at_place row p s (bare_expr e) ≡ Some (bare_expr by) → around whole (exchanged by p e) ≡ Some r
        → made form (changed row as_they_are s p (bare_expr e)) ≡ Some (bare_decl r.1)
    right_made by r is put = here (exchanged by p e) refl put
      where
        the_whole : Option (WExpr × WDecl) → WDecl
        the_whole (Some q) = q.1
        the_whole None = whole e

        here : (o : Option (WExpr × WExpr)) → exchanged by p e ≡ o → around whole o ≡ Some r → made form (changed row as_they_are s p (bare_expr e)) ≡ Some (bare_decl r.1)
        here None at none = cc
        here (Some q) at none = ap (made form) (is_made row s p e by q is at) ∙ ap Some (sym (same q.1)) ∙ ap (λ o. Some (bare_decl (the_whole o))) none

    right_put : (by : WExpr) (x : NExpr) → at_place row p s (bare_expr e) ≡ Some x → around whole (exchanged by p e) ≡ None → ⊥
    right_put by x is put = here (exchanged by p e) refl put
      where
        here : (o : Option (WExpr × WExpr)) → exchanged by p e ≡ o → around whole o ≡ None → ⊥
        here None at none = is_put row s p e by x is at
        here (Some q) at none = cc

  -- DEFINITIONS

  not_there : (i : ℕ) (p : List ℕ) (d : WDecl) (x : NExpr) → row_in_decl row s (suc (suc i) ∷ p) (bare_decl d) ≡ Some x → ⊥
  not_there i p d x h = none-some x (sym (ap (λ b. if b then from_some (at_place row p s) (right_side (bare_decl d)) else None) (not_one i)) ∙ h)

  pub decl_not_made : (q : List ℕ) (d : WDecl) → row_in_decl row s q (bare_decl d) ≡ None → changed_decl row as_they_are s q (bare_decl d) ≡ None
  decl_not_made [] (DDef n t e) h = refl
  decl_not_made (zero ∷ p) (DDef n t e) h = refl
  decl_not_made (suc zero ∷ p) (DDef n t e) h = ap (made (λ f. NDef n (bare_ty t) f)) (not_made row s p e h)
  decl_not_made (suc (suc i) ∷ p) (DDef n t e) h = refl
  decl_not_made [] (DWrap n t e) h = refl
  decl_not_made (zero ∷ p) (DWrap n t e) h = refl
  decl_not_made (suc zero ∷ p) (DWrap n t e) h = ap (made (λ f. NWrap n (bare_ty t) f)) (not_made row s p e h)
  decl_not_made (suc (suc i) ∷ p) (DWrap n t e) h = refl
  decl_not_made q (DData n ps cs) h = refl
  decl_not_made q (DNew n ps t con) h = refl
  decl_not_made q (DFamily n ps k) h = refl
  decl_not_made q (DAxiom n ps t u) h = refl

  pub decl_made : (q : List ℕ) (d : WDecl) (by : WExpr) (r : WExpr × WDecl) → row_in_decl row s q (bare_decl d) ≡ Some (bare_expr by) → exchanged_in_decl by q d ≡ Some r
      → changed_decl row as_they_are s q (bare_decl d) ≡ Some (bare_decl r.1)
  decl_made [] d by r h put = cc
  decl_made (zero ∷ p) d by r h put = cc
  decl_made (suc zero ∷ p) (DDef n t e) by r h put = right_made (λ f. DDef n t f) (λ f. NDef n (bare_ty t) f) (λ f. refl) p e by r h put
  decl_made (suc zero ∷ p) (DWrap n t e) by r h put = right_made (λ f. DWrap n t f) (λ f. NWrap n (bare_ty t) f) (λ f. refl) p e by r h put
  decl_made (suc zero ∷ p) (DData n ps cs) by r h put = cc
  decl_made (suc zero ∷ p) (DNew n ps t con) by r h put = cc
  decl_made (suc zero ∷ p) (DFamily n ps k) by r h put = cc
  decl_made (suc zero ∷ p) (DAxiom n ps t u) by r h put = cc
  decl_made (suc (suc i) ∷ p) d by r h put = absurd (not_there i p d _ h)

  pub decl_put : (q : List ℕ) (d : WDecl) (by : WExpr) (x : NExpr) → row_in_decl row s q (bare_decl d) ≡ Some x → exchanged_in_decl by q d ≡ None → ⊥
  decl_put [] d by x h put = none-some x h
  decl_put (zero ∷ p) d by x h put = none-some x h
  decl_put (suc zero ∷ p) (DDef n t e) by x h put = right_put (λ f. DDef n t f) (λ f. NDef n (bare_ty t) f) (λ f. refl) p e by x h put
  decl_put (suc zero ∷ p) (DWrap n t e) by x h put = right_put (λ f. DWrap n t f) (λ f. NWrap n (bare_ty t) f) (λ f. refl) p e by x h put
  decl_put (suc zero ∷ p) (DData n ps cs) by x h put = none-some x h
  decl_put (suc zero ∷ p) (DNew n ps t con) by x h put = none-some x h
  decl_put (suc zero ∷ p) (DFamily n ps k) by x h put = none-some x h
  decl_put (suc zero ∷ p) (DAxiom n ps t u) by x h put = none-some x h
  decl_put (suc (suc i) ∷ p) d by x h put = not_there i p d x h
