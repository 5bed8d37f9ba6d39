-- Where no row is found in any definition and no definition is dead, no shrinking and no commuting row applies.
use Rattle.std.proofs.Common.{◌≡◌, ◌-◌, ℕ, zero, suc, Bool, true, false, List, [], ◌∷◌, length, Option, Some, None, refl, sym, ap, ◌∙◌, arith}
use Rattle.std.specs.Prelude.{slice_get, slice_set}
use Rattle.std.proofs.lemmas.Option.{none-some}
use Rattle.fc_syntax.specs.Tree.{Word}
use Rattle.fc_log.specs.declared.log.Row.{Row}
use Rattle.fc_log.specs.declared.log.Row.TheVariants as row
use Rattle.fc_model.specs.Calling.{from_some}
use Rattle.fc_model.specs.Kinding.{Modules, decls_at}
use Rattle.fc_model.specs.Nameless.{NDecl, NData, NNew, NFamily, NAxiom, NDef, NWrap, NExpr, NModule, NModuleOf}
use Rattle.fc_model.proofs.Sameness.{false_true}
use Rattle.fc_reaching.specs.Numbering.{number_from, number_in}
use Rattle.fc_reaching.specs.Reaching.{decls_in}
use Rattle.fc_reaching.specs.Reaching.{right_side as right_side_in}
use Rattle.fc_rows.specs.Changing.{made}
use Rattle.fc_rows.specs.ChangingCoercions.{as_they_are}
use Rattle.fc_rows.specs.Dropping.{DropsDead}
use Rattle.fc_rows.specs.NormalForms.{IsQuiet}
use Rattle.fc_rows.specs.Replaying.{at_a_place, of_the_module}
use Rattle.fc_rows.specs.ResultLimits.{IsWithinLimits}
use Rattle.fc_rows.specs.Rewriting.{changed_decls, changed_module, looked_at, rewritten, row_result}
use Rattle.fc_rows.specs.Surroundings.{Surroundings, outside}
use Rattle.fc_parts.specs.Found.{Found, found}
use Rattle.fc_limits_at_places.proofs.AtPlaces.{IsMade, Measure, another, nothing, nowhere}
use Rattle.fc_limits_at_places.proofs.InModules.{fits_is, module_made, of_module}
use Rattle.fc_row_at_place.specs.Rows.{built_row, is_built}
use Rattle.fc_search_laws.specs.Searching.{fits}
use Rattle.fc_search_laws.proofs.Searched.{nothing_else}
use Rattle.fc_apply.specs.Definitions.{changed_decl, right_side}
use Rattle.fc_apply.proofs.Applied.{within_is}
use Rattle.fc_simplify.specs.Phase.{HasSpare, IsSettled, room}
use Rattle.fc_simplify.proofs.Taken.{in_fits}
use Rattle.fc_simplify.proofs.Words.{is_changed, is_right, is_there, located, no_right, none_changed}

-- ROWS THAT ARE NOT BUILT

-- they make nothing
unbuilt : (ms : Modules) (r : Row) (i : ℕ) (s : Surroundings) (e : NExpr) → is_built r ≡ false → row_result ms r i s e ≡ None
unbuilt ms row.Beta i s e is = absurd cc
unbuilt ms row.LetDead i s e is = absurd cc
unbuilt ms row.LetAtom i s e is = absurd cc
unbuilt ms row.LetOnce i s e is = absurd cc
unbuilt ms row.CaseKnown i s e is = absurd cc
unbuilt ms row.CaseEvaluated i s e is = absurd cc
unbuilt ms row.CaseMerge i s e is = absurd cc
unbuilt ms row.AltDead i s e is = absurd cc
unbuilt ms row.FailAbsorb i s e is = absurd cc
unbuilt ms row.CastRefl i s e is = absurd cc
unbuilt ms row.CastCast i s e is = absurd cc
unbuilt ms row.PushArgument i s e is = refl
unbuilt ms row.PushType i s e is = refl
unbuilt ms row.PushConstructor i s e is = refl
unbuilt ms row.CoercionShorter i s e is = refl
unbuilt ms row.Fold i s e is = refl
unbuilt ms row.JoinDead i s e is = absurd cc
unbuilt ms row.JoinOnce i s e is = absurd cc
unbuilt ms row.DefDead i s e is = refl
unbuilt ms row.AppOfLet i s e is = absurd cc
unbuilt ms row.CaseOfLet i s e is = absurd cc
unbuilt ms row.LetOfLet i s e is = absurd cc
unbuilt ms row.CastOfLet i s e is = absurd cc
unbuilt ms row.NameField i s e is = absurd cc
unbuilt ms row.Unfold i s e is = refl
unbuilt ms row.AppOfCase i s e is = refl
unbuilt ms row.CaseOfCase i s e is = refl
unbuilt ms row.AltJoin i s e is = refl
unbuilt ms row.Contify i s e is = refl
unbuilt ms row.Split i s e is = refl
unbuilt ms row.Special i s e is = refl
unbuilt ms row.FloatOut i s e is = refl
unbuilt ms row.FloatIn i s e is = refl
unbuilt ms row.StrictLet i s e is = refl

-- PLACES

-- what is made at a place is made of what is found there
record IsMadeOf (row : Surroundings → NExpr → Option NExpr) (f : Option Found) : Type 0 where
  around : Surroundings
  part : NExpr
  new : NExpr
  there : f ≡ Some (around, part)
  makes : row around part ≡ Some new

made_of : {X : Type 0} (row : Surroundings → NExpr → Option NExpr) (m : Measure X) (far : ℕ) (old new : X) (f : Option Found) (ch : Option X) → IsMade row m far old f ch → ch ≡ Some new → IsMadeOf row f
made_of row m far old new _ _ nowhere is = absurd (none-some _ is)
made_of row m far old new _ _ (nothing u z none) is = absurd (none-some _ is)
made_of row m far old new _ _ (another u z v other is_v follows) is = record { around = u; part = z; new = v; there = refl; makes = is_v }

made_some : {X Y : Type 0} (f : X → Y) (o : Option X) (y : Y) → made f o ≡ Some y → (o ≡ None → ⊥)
made_some f None y h is = none-some _ h
made_some f (Some x) y h is = none-some _ (sym is)

-- a place that is in no right side
record IsOutOfRight (q : List ℕ) : Type 0 where
  none : (row : Surroundings → NExpr → Option NExpr) (s : Surroundings) (d : NDecl) → changed_decl row as_they_are s q d ≡ None

no_change : (row : Surroundings → NExpr → Option NExpr) (s : Surroundings) (w : Word) (q : List ℕ) (ds : List NDecl) → IsOutOfRight q → (o : Option ℕ) → number_from 0 ds w ≡ o → changed_decls row as_they_are s w q ds ≡ None
no_change row s w q ds out None is = none_changed w row s q 0 ds is
no_change row s w q ds out (Some j) is =
    let at = located w 0 j ds is in
    is_changed w row s q at.at at.decl ds at.place ∙ ap (made (λ e. slice_set ds at.at e)) (out.none row s at.decl)

no_module : (row : Surroundings → NExpr → Option NExpr) (xs : List NModule) (w : Word) (q : List ℕ) (n k : NModule) → IsOutOfRight q → changed_module row as_they_are xs w q n ≡ Some k → ⊥
no_module row xs w q (NModuleOf m imports exports hidden ds) k out h =
    made_some _ (changed_decls row as_they_are (outside (decls_at (NModuleOf m imports exports hidden ds ∷ xs))) w q ds) k h
    (no_change row (outside (decls_at (NModuleOf m imports exports hidden ds ∷ xs))) w q ds out (number_from 0 ds w) refl)

whole_out : IsOutOfRight []
whole_out = record { none = goes }
  where
    goes : (row : Surroundings → NExpr → Option NExpr) (s : Surroundings) (d : NDecl) → changed_decl row as_they_are s [] d ≡ None
    goes row s (NDef n t e) = refl
    goes row s (NWrap n t e) = refl
    goes row s (NData n ps cs) = refl
    goes row s (NNew n ps t con) = refl
    goes row s (NFamily n ps k) = refl
    goes row s (NAxiom n ps t u) = refl

first_out : (p : List ℕ) → IsOutOfRight (zero ∷ p)
first_out p = record { none = goes }
  where
    goes : (row : Surroundings → NExpr → Option NExpr) (s : Surroundings) (d : NDecl) → changed_decl row as_they_are s (zero ∷ p) d ≡ None
    goes row s (NDef n t e) = refl
    goes row s (NWrap n t e) = refl
    goes row s (NData n ps cs) = refl
    goes row s (NNew n ps t con) = refl
    goes row s (NFamily n ps k) = refl
    goes row s (NAxiom n ps t u) = refl

later_out : (i : ℕ) (p : List ℕ) → IsOutOfRight (suc (suc i) ∷ p)
later_out i p = record { none = goes }
  where
    goes : (row : Surroundings → NExpr → Option NExpr) (s : Surroundings) (d : NDecl) → changed_decl row as_they_are s (suc (suc i) ∷ p) d ≡ None
    goes row s (NDef n t e) = refl
    goes row s (NWrap n t e) = refl
    goes row s (NData n ps cs) = refl
    goes row s (NNew n ps t con) = refl
    goes row s (NFamily n ps k) = refl
    goes row s (NAxiom n ps t u) = refl

-- A MODULE

module _ (n : NModule) (xs : List NModule) (spare : ℕ) (has : HasSpare spare n) (settled : (w : Word) (i : ℕ) → number_in n w ≡ Some i → IsSettled spare i (n ∷ xs)) where
  abbrev declared : Modules
  declared = decls_at (n ∷ xs)

  -- the right side of a word is that of its first definition
  record IsRight (w : Word) (e : NExpr) : Type 0 where
    number : ℕ
    decl : NDecl
    numbered : number_in n w ≡ Some number
    there : slice_get (decls_in n) number ≡ Some decl
    right : right_side decl ≡ Some e

  right_of : (w : Word) (e : NExpr) → right_side_in (decls_in n) w ≡ Some e → (o : Option ℕ) → number_in n w ≡ o → IsRight w e
  right_of w e is None none = absurd (none-some _ (sym (no_right w 0 (decls_in n) none) ∙ is))
  right_of w e is (Some j) some =
      let at = located w 0 j (decls_in n) some in
      let same : at.at ≡ j = omega (arith, at.number) in
      record {
        number = j;
        decl = at.decl;
        numbered = some;
        there = ap (slice_get (decls_in n)) (sym same) ∙ is_there w at.at at.decl (decls_in n) at.place;
        right = sym (is_right w at.at at.decl (decls_in n) at.place) ∙ is;
      }

  -- what a row makes of a part of a right side, within the limits on the module, fits in its place
  module _ (row : Surroundings → NExpr → Option NExpr) (w : Word) (p : List ℕ) (k : NModule) (makes : changed_module row as_they_are xs w (1 ∷ p) n ≡ Some k) where
    part : IsMadeOf row (from_some (λ e. found (outside declared) p e) (right_side_in (decls_in n) w))
    part = made_of row of_module (length (1 ∷ p)) n k _ _ (module_made row xs w p n) makes

    record FitsThere : Type 0 where
      right : NExpr
      defined : right_side_in (decls_in n) w ≡ Some right
      there : found (outside declared) p right ≡ Some (part.around, part.part)

    there_by : (o : Option NExpr) → right_side_in (decls_in n) w ≡ o → from_some (λ e. found (outside declared) p e) o ≡ Some (part.around, part.part) → FitsThere
    there_by None is h = absurd (none-some _ h)
    there_by (Some e) is h = record { right = e; defined = is; there = h }

    there : FitsThere
    there = there_by (right_side_in (decls_in n) w) refl part.there

    fits_there : IsWithinLimits k → fits (room - length p) spare part.part part.new ≡ true
    fits_there within =
        let f = (fits_is row xs w p n k there.right part.part part.new part.around has.within makes there.defined there.there part.makes).0 within in
        in_fits (room - length p) spare part.part part.new (record { shallow = omega (arith, f.shallow); small = omega (arith, f.small, has.sum) })

  nothing_built : (r : Row) (i : ℕ) (w : Word) (p : List ℕ) (k : NModule) → changed_module (built_row declared r i) as_they_are xs w (1 ∷ p) n ≡ Some k → IsWithinLimits k → ⊥
  nothing_built r i w p k makes within =
      let row = built_row declared r i in
      let m = part row w p k makes in
      let t = there row w p k makes in
      let d = right_of w t.right t.defined (number_in n w) refl in
      let quiet = settled w d.number d.numbered d.decl t.right d.there d.right in
      false_true (sym (nothing_else declared spare room (outside declared) t.right quiet p m.around m.part r i m.new t.there m.makes) ∙ fits_there row w p k makes within)

  at_any_place : (r : Row) (i : ℕ) (w : Word) (q : List ℕ) (k : NModule) → changed_module (built_row declared r i) as_they_are xs w q n ≡ Some k → IsWithinLimits k → ⊥
  at_any_place r i w [] k makes within = no_module (built_row declared r i) xs w [] n k whole_out makes
  at_any_place r i w (zero ∷ p) k makes within = no_module (built_row declared r i) xs w (zero ∷ p) n k (first_out p) makes
  at_any_place r i w (suc zero ∷ p) k makes within = nothing_built r i w p k makes within
  at_any_place r i w (suc (suc j) ∷ p) k makes within = no_module (built_row declared r i) xs w (suc (suc j) ∷ p) n k (later_out j p) makes

  unbuilt_place : (r : Row) (i : ℕ) (w : Word) (q : List ℕ) (k : NModule) → is_built r ≡ false → changed_module (row_result declared r i) as_they_are xs w q n ≡ Some k → ⊥
  unbuilt_place r i w [] k is makes = no_module (row_result declared r i) xs w [] n k whole_out makes
  unbuilt_place r i w (zero ∷ p) k is makes = no_module (row_result declared r i) xs w (zero ∷ p) n k (first_out p) makes
  unbuilt_place r i w (suc zero ∷ p) k is makes =
      let m = part (row_result declared r i) w p k makes in
      none-some _ (sym (unbuilt declared r i m.around m.part is) ∙ m.makes)
  unbuilt_place r i w (suc (suc j) ∷ p) k is makes = no_module (row_result declared r i) xs w (suc (suc j) ∷ p) n k (later_out j p) makes

  no_step : (r : Row) (w : Word) (p : List ℕ) (k : NModule) → IsWithinLimits k → rewritten xs r w p n ≡ Some k → (b : Bool) → is_built r ≡ b → ⊥
  no_step r w p k within makes true is = here (looked_at r p) (within_is r is xs w p n k makes within)
    where
      here : (o : Option (List ℕ × ℕ)) → from_some (λ q. changed_module (built_row declared r q.1) as_they_are xs w q.0 n) o ≡ Some k → ⊥
      here None h = none-some _ h
      here (Some q) h = at_any_place r q.1 w q.0 k h within
  no_step r w p k within makes false is = here (looked_at r p) makes
    where
      here : (o : Option (List ℕ × ℕ)) → from_some (λ q. changed_module (row_result declared r q.1) as_they_are xs w q.0 n) o ≡ Some k → ⊥
      here None h = none-some _ h
      here (Some q) h = unbuilt_place r q.1 w q.0 k is h

  pub is_quiet : ((k : NModule) → DropsDead n k → ⊥) → IsQuiet xs n
  is_quiet none s k is (at_a_place r w p makes within) = no_step r w p k within makes (is_built r) refl
  is_quiet none s k is (of_the_module drops) = none k drops
