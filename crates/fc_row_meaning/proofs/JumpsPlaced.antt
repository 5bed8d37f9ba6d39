-- A jump as the right side of its join point, as its row makes it, is a rewrite at its place.
use Rattle.std.proofs.Common.{◌≡◌, ℕ, true, false, Some, refl, sym, ap, ◌∙◌, subst}
use Rattle.fc_model.specs.Calling.{Takes, over_binders, type_count}
use Rattle.fc_model.specs.Erasure.{Scope, erased}
use Rattle.fc_model.specs.Kinding.{Modules}
use Rattle.fc_model.specs.Nameless.{NTy, NTVar, NExpr, NJump, NArgs}
use Rattle.fc_model.specs.Substituting.{raised_type}
use Rattle.fc_model.specs.TypingRules.{HasType, typed_jump}
use Rattle.fc_model.proofs.Sameness.{false_true}
use Rattle.fc_model.proofs.Substitutions.{variables_for_themselves}
use Rattle.fc_rows.specs.Shrinking.{is_con, is_trivial, jump_made, jump_once, jump_taken, pair_with}
use Rattle.fc_rows.specs.Surroundings.{Point, NoPoint, PointOf, Surroundings, is_value}
use Rattle.fc_row_types.specs.TypesKept.{Holds, SparesAtoms}
use Rattle.fc_row_types.proofs.Made.{if_some_inv, none_some}
use Rattle.fc_meaning.proofs.HeldDeclarations.{AreHeld}
use Rattle.fc_meaning.proofs.ScopesFit.{agrees, fits_values}
use Rattle.fc_row_places.specs.KnowingRows.{right_past_lets}
use Rattle.fc_row_places.specs.NamelessFacts.{NKnown}
use Rattle.fc_row_places.specs.NamelessPlaces.{NPlace, scope_at}
use Rattle.fc_kept_meaning.specs.PlaceRows.{PlaceRow, place_jump}
use Rattle.fc_row_meaning.specs.PlacedRows.{Around}
use Rattle.fc_row_meaning.specs.PlacedRows.{RowAs}
use Rattle.fc_row_meaning.specs.SharedRights.{KeepsValues}
use Rattle.fc_row_meaning.proofs.KnownParts.{lets_stand, parts_fit}
use Rattle.fc_row_meaning.proofs.PointsKnown.{points_known}
use Rattle.fc_row_meaning.proofs.ScopesAround.{scope_fits}

module _ (G : NKnown) (ms : Modules) (held : AreHeld ms) where
  jump_at : (s : Surroundings) (c : NPlace) → Around ms s c → Holds ms s → (i : ℕ) (args : NArgs) (f : NExpr) (t : NTy) → HasType ms s.context (NJump i args) t
      → jump_once s (NJump i args) ≡ Some f → PlaceRow G c (NJump i args) f
  jump_at s c a g i args f _ (typed_jump j gs u at given long takes) h = taken (s.points i) refl (subst (λ r. jump_made r (s.points i) args ≡ Some f) at h)
    where
      taken : (k : Point) → s.points i ≡ k → jump_taken k j.type args ≡ Some f → PlaceRow G c (NJump i args) f
      taken NoPoint e h = none_some h
      taken (PointOf ps d) e h =
          let known = points_known ms s c a i ps d e in
          let p = g.points i ps d j e at in
          let m = if_some_inv (pair_with ps args) _ f h in
          let agree = agrees (fits_values (scope_fits ms s c a).1) in
          let whole = over_binders ps (raised_type (type_count ps) j.result) in
          let called = subst (λ l. Takes l gs u) (ap (λ l. l.type) p.point ∙ sym (variables_for_themselves whole)) takes in
          let fit = parts_fit ms held ps NTVar (λ i. refl) (raised_type (type_count ps) j.result) args (scope_at c) agree p.params given called m.0 in
          place_jump ps d known fit (lets_stand ms held (scope_at c) agree takes given 0 (right_past_lets args ps d) f m.1)

  pub jump_is_placed : (c : NPlace) (e f : NExpr) → RowAs ms jump_once c e f → PlaceRow G c e f
  jump_is_placed c (NJump i args) f r = jump_at r.surroundings c r.around r.holds i args f r.type r.typed r.result
  jump_is_placed c e f r = none_some r.result

pub jump_spares_atoms : SparesAtoms jump_once
jump_spares_atoms s (NJump i args) f h = refl
jump_spares_atoms s e f h = none_some h

pub jump_keeps_values : KeepsValues jump_once
jump_keeps_values = record { value = values; constructor = constructors; trivial = trivials }
  where
    values : (s : Surroundings) (e f : NExpr) → jump_once s e ≡ Some f → is_value e ≡ true → is_value f ≡ true
    values s (NJump i args) f h v = false_true v
    values s e f h v = none_some h

    constructors : (s : Surroundings) (e f : NExpr) → jump_once s e ≡ Some f → is_con e ≡ false
    constructors s (NJump i args) f h = refl
    constructors s e f h = none_some h

    trivials : (s : Surroundings) (e f : NExpr) → jump_once s e ≡ Some f → is_trivial e ≡ true → (c : Scope) → erased c e ≡ erased c f
    trivials s (NJump i args) f h v = false_true v
    trivials s e f h v = none_some h
