-- A run of lets at a place of a definition is so many steps of let-atom there, one after the other, each within the limits.
use Rattle.std.proofs.Common.{◌≡◌, ◌≤◌, ◌<◌, ◌+◌, ℕ, zero, suc, Bool, true, false, if◌then◌else◌, nat_lt, List, [], ◌∷◌, length, Option, Some, None, refl, sym, ap, ◌∙◌, arith, subst}
use Rattle.std.specs.Str.{bytes_eq}
use Rattle.std.proofs.lemmas.Bool.Decides.{nat_tests}
use Rattle.std.proofs.lemmas.Option.{none-some}
use Rattle.fc_syntax.specs.Limits.{standard_limits}
use Rattle.fc_syntax.specs.Tree.{Word}
use Rattle.fc_syntax.specs.declared.fault.Place.TheVariants as place
use Rattle.fc_log.specs.declared.log.Row.TheVariants as row
use Rattle.fc_log.specs.declared.log.Step.{Step}
use Rattle.fc_model.specs.Calling.{from_some}
use Rattle.fc_model.specs.Kinding.{decls_at}
use Rattle.fc_model.specs.Nameless.{NDecl, NData, NNew, NFamily, NAxiom, NDef, NWrap, NExpr, NModule, NModuleOf}
use Rattle.fc_model.specs.Worded.{WExpr, bare_expr}
use Rattle.fc_places.specs.Places.{exchanged}
use Rattle.fc_parts.specs.Found.{Found, found}
use Rattle.fc_parts.specs.PartsAt.{at_place}
use Rattle.fc_parts.proofs.Parted.{asked, asked_of_found}
use Rattle.fc_parts.proofs.RowsAtParts.{is_made, is_put}
use Rattle.fc_reaching.specs.Reaching.{decls_in}
use Rattle.fc_reaching.specs.Reaching.{right_side as right_side_in}
use Rattle.fc_rows.specs.Changing.{changed, made}
use Rattle.fc_rows.specs.ChangingCoercions.{as_they_are}
use Rattle.fc_rows.specs.Replaying.{Rewrites, at_a_place}
use Rattle.fc_rows.specs.ResultLimits.{IsWithinLimits}
use Rattle.fc_rows.specs.Rewriting.{changed_decls, changed_module}
use Rattle.fc_rows.specs.Shrinking.{let_atom}
use Rattle.fc_rows.specs.Surroundings.{Surroundings, outside}
use Rattle.fc_result_limits.proofs.Back.{expr_back}
use Rattle.fc_result_limits.proofs.Blank.{blank_expr}
use Rattle.fc_result_limits.proofs.Deep.{nexpr_depth}
use Rattle.fc_limits_at_places.proofs.AtPlaces.{IsMade, Measure, another, nothing, nowhere}
use Rattle.fc_limits_at_places.proofs.InModules.{fits_is, module_made}
use Rattle.fc_limits_at_places.proofs.Unworded.{within_measures}
use Rattle.fc_let_runs.specs.Runs.{IsRun, done, step, is_let_of_atom}
use Rattle.fc_let_runs.proofs.Kept.{step_no_more}
use Rattle.fc_simplify.specs.Phase.{Simplifies, no_step, takes_step}
use Rattle.fc_simplify.specs.Steps.{lines_of}
use Rattle.fc_simplify.proofs.Twice.{from_some_inv, if_some_inv, module_twice}

-- ROWS THAT MAKE THE SAME OF A PART

-- by the same branch
same_branch : {X : Type 0} (f g : NExpr → Option NExpr) (y : NExpr) (c : Bool) (e : NExpr) (rest : Option NExpr) (o q r t : Option X) → from_some f (if c then Some e else rest) ≡ Some y
    → from_some g (if c then Some e else rest) ≡ Some y → (f e ≡ Some y → g e ≡ Some y → o ≡ r) → (from_some f rest ≡ Some y → from_some g rest ≡ Some y → q ≡ t)
    → (if c then o else q) ≡ (if c then r else t)
same_branch f g y true e rest o q r t first second here behind = here first second
same_branch f g y false e rest o q r t first second here behind = behind first second

module _ (one other : Surroundings → NExpr → Option NExpr) (y : NExpr) where
  by_exchange : (s : Surroundings) (p : List ℕ) (e : WExpr) (o : Option (WExpr × WExpr)) → exchanged (blank_expr y) p e ≡ o → at_place one p s (bare_expr e) ≡ Some (bare_expr (blank_expr y))
      → at_place other p s (bare_expr e) ≡ Some (bare_expr (blank_expr y)) → changed one as_they_are s p (bare_expr e) ≡ changed other as_they_are s p (bare_expr e)
  by_exchange s p e None is first second = absurd (is_put one s p e (blank_expr y) _ first is)
  by_exchange s p e (Some r) is first second = is_made one s p e (blank_expr y) r first is ∙ sym (is_made other s p e (blank_expr y) r second is)

  blank_at : (by : Surroundings → NExpr → Option NExpr) (s : Surroundings) (p : List ℕ) (e : NExpr) → asked by (found s p e) ≡ Some y → at_place by p s e ≡ Some (bare_expr (blank_expr y))
  blank_at by s p e h = sym (asked_of_found by s p e) ∙ h ∙ ap (λ z. Some z) (sym (expr_back y))

  -- make the same of the whole
  same_changed : (s : Surroundings) (p : List ℕ) (e : NExpr) → asked one (found s p e) ≡ Some y → asked other (found s p e) ≡ Some y → changed one as_they_are s p e ≡ changed other as_they_are s p e
  same_changed s p e =
      let P : NExpr → Type 0 = λ x. asked one (found s p x) ≡ Some y → asked other (found s p x) ≡ Some y → changed one as_they_are s p x ≡ changed other as_they_are s p x in
      subst P (expr_back e) (λ first second.
      by_exchange s p (blank_expr e) (exchanged (blank_expr y) p (blank_expr e)) refl (blank_at one s p (bare_expr (blank_expr e)) first) (blank_at other s p (bare_expr (blank_expr e)) second))

  same_in_decls : (s : Surroundings) (w : Word) (p : List ℕ) (ds : List NDecl) → from_some (λ e. asked one (found s p e)) (right_side_in ds w) ≡ Some y
      → from_some (λ e. asked other (found s p e)) (right_side_in ds w) ≡ Some y → changed_decls one as_they_are s w (1 ∷ p) ds ≡ changed_decls other as_they_are s w (1 ∷ p) ds
  same_in_decls s w p [] first second = refl
  same_in_decls s w p (NDef n t e ∷ ds) first second =
      same_branch (λ f. asked one (found s p f)) (λ f. asked other (found s p f)) y (bytes_eq n w) e (right_side_in ds w) _ _ _ _ first second
      (λ a b. ap (made (λ f. NDef n t f ∷ ds)) (same_changed s p e a b)) (λ a b. ap (made (λ rest. NDef n t e ∷ rest)) (same_in_decls s w p ds a b))
  same_in_decls s w p (NWrap n t e ∷ ds) first second =
      same_branch (λ f. asked one (found s p f)) (λ f. asked other (found s p f)) y (bytes_eq n w) e (right_side_in ds w) _ _ _ _ first second
      (λ a b. ap (made (λ f. NWrap n t f ∷ ds)) (same_changed s p e a b)) (λ a b. ap (made (λ rest. NWrap n t e ∷ rest)) (same_in_decls s w p ds a b))
  same_in_decls s w p (NData n ps cs ∷ ds) first second = ap (made (λ rest. NData n ps cs ∷ rest)) (same_in_decls s w p ds first second)
  same_in_decls s w p (NNew n ps t con ∷ ds) first second = ap (made (λ rest. NNew n ps t con ∷ rest)) (same_in_decls s w p ds first second)
  same_in_decls s w p (NFamily n ps k ∷ ds) first second = ap (made (λ rest. NFamily n ps k ∷ rest)) (same_in_decls s w p ds first second)
  same_in_decls s w p (NAxiom n ps t u ∷ ds) first second = ap (made (λ rest. NAxiom n ps t u ∷ rest)) (same_in_decls s w p ds first second)

  pub same_in_module : (xs : List NModule) (w : Word) (p : List ℕ) (n : NModule) → from_some (λ e. asked one (found (outside (decls_at (n ∷ xs))) p e)) (right_side_in (decls_in n) w) ≡ Some y
      → from_some (λ e. asked other (found (outside (decls_at (n ∷ xs))) p e)) (right_side_in (decls_in n) w) ≡ Some y
      → changed_module one as_they_are xs w (1 ∷ p) n ≡ changed_module other as_they_are xs w (1 ∷ p) n
  same_in_module xs w p (NModuleOf m imports exports hidden ds) first second =
      ap (made (λ cs. NModuleOf m imports exports hidden cs)) (same_in_decls (outside (decls_at (NModuleOf m imports exports hidden ds ∷ xs))) w p ds first second)

-- WHAT STANDS AT THE PLACE

some_made : {by : Surroundings → NExpr → Option NExpr} {X : Type 0} {m : Measure X} {far : ℕ} {old : X} {f : Option Found} {ch : Option X} → IsMade by m far old f ch → (k : X) → ch ≡ Some k
    → (t : Surroundings) × (x : NExpr) × (y : NExpr) × (f ≡ Some (t, x)) × (by t x ≡ Some y)
some_made nowhere k h = absurd (none-some _ h)
some_made (nothing t x none) k h = absurd (none-some _ h)
some_made (another t x y new is follows) k h = (t, x, y, refl, is)

module _ (by : Surroundings → NExpr → Option NExpr) (xs : List NModule) (w : Word) (p : List ℕ) (n : NModule) where
  -- the part of a definition of which a row makes something
  record IsThere : Type 0 where
    right : NExpr
    around : Surroundings
    part : NExpr
    new : NExpr
    right_is : right_side_in (decls_in n) w ≡ Some right
    there : found (outside (decls_at (n ∷ xs))) p right ≡ Some (around, part)
    makes : by around part ≡ Some new

  is_there : (k : NModule) → changed_module by as_they_are xs w (1 ∷ p) n ≡ Some k → IsThere
  is_there k h =
      let m = some_made (module_made by xs w p n) k h in
      let r = from_some_inv (λ e. found (outside (decls_at (n ∷ xs))) p e) (right_side_in (decls_in n) w) (m.0, m.1) m.3 in
      record { right = r.0; around = m.0; part = m.1; new = m.2; right_is = r.1; there = r.2; makes = m.4 }

  pub at_part : (e x y : NExpr) (t : Surroundings) → right_side_in (decls_in n) w ≡ Some e → found (outside (decls_at (n ∷ xs))) p e ≡ Some (t, x) → by t x ≡ Some y
      → from_some (λ f. asked by (found (outside (decls_at (n ∷ xs))) p f)) (right_side_in (decls_in n) w) ≡ Some y
  at_part e x y t right there makes =
      ap (from_some (λ f. asked by (found (outside (decls_at (n ∷ xs))) p f))) right ∙ ap (asked by) there ∙ makes

-- RUNS OF LETS THAT ARE NOT TOO DEEP

abbrev pub onward : ℕ → ℕ → NExpr → Option NExpr
onward d zero e = Some e
onward d (suc n) e = if is_let_of_atom e then (if nat_lt (nexpr_depth e) d then from_some (onward d n) (let_atom e) else None) else None

pub run_onward : {n : ℕ} {e f : NExpr} → IsRun n e f → (d : ℕ) → nexpr_depth e < d → onward d n e ≡ Some f
run_onward done d less = refl
run_onward (step {n = n} {e = e} {f = f} atom made rest) d less =
    let next = step_no_more e f atom made in
    let below : nat_lt (nexpr_depth e) d ≡ true = grind (arith, nat_tests, less) in
    ap (λ b. if b then (if nat_lt (nexpr_depth e) d then from_some (onward d n) (let_atom e) else None) else None) atom
    ∙ ap (λ b. if b then from_some (onward d n) (let_atom e) else None) below
    ∙ ap (from_some (onward d n)) made
    ∙ run_onward rest d (omega (arith, next.depth, less))

below_is : (m n : ℕ) → nat_lt m n ≡ true → m < n
below_is m n h = grind (arith, nat_tests, h)

onward_inv : (d n : ℕ) (e f : NExpr) → onward d (suc n) e ≡ Some f → (is_let_of_atom e ≡ true) × (nexpr_depth e < d) × (from_some (onward d n) (let_atom e) ≡ Some f)
onward_inv d n e f h =
    let atom = if_some_inv (is_let_of_atom e) (if nat_lt (nexpr_depth e) d then from_some (onward d n) (let_atom e) else None) f h in
    let less = if_some_inv (nat_lt (nexpr_depth e) d) (from_some (onward d n) (let_atom e)) f atom.1 in
    (atom.0, below_is (nexpr_depth e) d less.0, less.1)

-- STEPS

abbrev atoms : Surroundings → NExpr → Option NExpr
atoms s e = let_atom e

abbrev lets : ℕ → ℕ → Surroundings → NExpr → Option NExpr
lets d n s e = onward d n e

-- the step of a let of an atom
abbrev pub let_step : Word → List ℕ → Step
let_step v q = record { row = row.LetAtom; def = Some v; path = place.Parts (1 ∷ q); answer = None }

module _ (xs : List NModule) (v : Word) (q : List ℕ) (d : ℕ) (close : d + length q ≤ standard_limits.depth) where
  rewrites : (m k : NModule) → changed_module atoms as_they_are xs v (1 ∷ q) m ≡ Some k → IsWithinLimits k → Rewrites xs (let_step v q) m k
  rewrites m k is within = at_a_place row.LetAtom v (1 ∷ q) is within

  within_after : (m k : NModule) (e x y : NExpr) (t : Surroundings) → IsWithinLimits m → changed_module atoms as_they_are xs v (1 ∷ q) m ≡ Some k → right_side_in (decls_in m) v ≡ Some e
      → found (outside (decls_at (m ∷ xs))) q e ≡ Some (t, x) → is_let_of_atom x ≡ true → nexpr_depth x < d → let_atom x ≡ Some y → IsWithinLimits k
  within_after m k e x y t within makes right there atom less made =
      let after = step_no_more x y atom made in
      let before = (within_measures m).0 within in
      (fits_is atoms xs v q m k e x y t within makes right there made).1 (record { shallow = omega (arith, close, less, after.depth); small = omega (arith, after.size, before.1) })

  pub lets_taken : (n : ℕ) (m k : NModule) → IsWithinLimits m → changed_module (lets d (suc n)) as_they_are xs v (1 ∷ q) m ≡ Some k → Simplifies xs (lines_of (suc n) (let_step v q)) m k
  lets_taken zero m k within makes =
      let t = is_there (lets d 1) xs v q m k makes in
      let inv = onward_inv d zero t.part t.new t.makes in
      let f = from_some_inv (onward d zero) (let_atom t.part) t.new inv.2 in
      let made : let_atom t.part ≡ Some t.new = f.1 ∙ f.2 in
      let is : changed_module atoms as_they_are xs v (1 ∷ q) m ≡ Some k =
      sym (same_in_module (lets d 1) atoms t.new xs v q m (at_part (lets d 1) xs v q m t.right t.part t.new t.around t.right_is t.there t.makes) (at_part atoms xs v q m t.right t.part t.new t.around t.right_is t.there made)) ∙ makes in
      takes_step (let_step v q) refl (rewrites m k is (within_after m k t.right t.part t.new t.around within is t.right_is t.there inv.0 inv.1 made)) no_step
  lets_taken (suc n) m k within makes =
      let both : Surroundings → NExpr → Option NExpr = λ s e. from_some (onward d (suc n)) (let_atom e) in
      let t = is_there (lets d (suc (suc n))) xs v q m k makes in
      let inv = onward_inv d (suc n) t.part t.new t.makes in
      let f = from_some_inv (onward d (suc n)) (let_atom t.part) t.new inv.2 in
      let is : changed_module both as_they_are xs v (1 ∷ q) m ≡ Some k =
      sym (same_in_module (lets d (suc (suc n))) both t.new xs v q m (at_part (lets d (suc (suc n))) xs v q m t.right t.part t.new t.around t.right_is t.there t.makes) (at_part both xs v q m t.right t.part t.new t.around t.right_is t.there inv.2)) ∙ makes in
      let two = module_twice atoms (onward d (suc n)) xs v (1 ∷ q) m k is in
      let next = within_after m two.0 t.right t.part f.0 t.around within two.1 t.right_is t.there inv.0 inv.1 f.1 in
      takes_step (let_step v q) refl (rewrites m two.0 two.1 next) (lets_taken n two.0 k next two.2)
