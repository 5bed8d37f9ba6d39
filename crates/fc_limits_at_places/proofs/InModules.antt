-- How deep and how large a module is in which a row makes something of the part at a place of a definition, and when it is within the limits.
use Rattle.std.proofs.Common.{◌≡◌, ◌+◌, ◌↔◌, ℕ, Bool, true, false, if◌then◌else◌, List, [], ◌∷◌, length, Option, Some, ap, ◌∙◌, arith}
use Rattle.std.specs.Str.{bytes_eq}
use Rattle.fc_syntax.specs.Measures.{decls_size}
use Rattle.fc_syntax.specs.Tree.{Word}
use Rattle.fc_model.specs.Calling.{from_some}
use Rattle.fc_model.specs.Kinding.{decls_at}
use Rattle.fc_model.specs.Nameless.{NDecl, NData, NNew, NFamily, NAxiom, NDef, NWrap, NExpr, NModule, NModuleOf}
use Rattle.fc_nameless_measures.specs.Depths.{decls_depth}
use Rattle.fc_reaching.specs.Reaching.{decls_in, right_side}
use Rattle.fc_rows.specs.ChangingCoercions.{as_they_are}
use Rattle.fc_rows.specs.ResultLimits.{IsWithinLimits}
use Rattle.fc_rows.specs.Rewriting.{changed_decls, changed_module}
use Rattle.fc_rows.specs.Surroundings.{Surroundings, outside}
use Rattle.fc_parts.specs.Found.{Found, found}
use Rattle.fc_result_limits.proofs.Blank.{blank_decls}
use Rattle.fc_limits_at_places.specs.Fitting.{Fits, KeepsWithinLimits, nexpr_size, nmodule_size}
use Rattle.fc_limits_at_places.proofs.AtPlaces.{Follows, IsMade, Measure, around, expr_made, followed, nowhere, of_expr}
use Rattle.fc_limits_at_places.proofs.Unworded.{within_measures}

abbrev of_decls : Measure (List NDecl)
of_decls = record { depth = λ ds. decls_depth (blank_decls ds); size = λ ds. decls_size (blank_decls ds) }

abbrev pub of_module : Measure NModule
of_module = record { depth = λ n. decls_depth (blank_decls (decls_in n)); size = nmodule_size }

module _ (row : Surroundings → NExpr → Option NExpr) where
  -- the first definition of a word is here, or behind
  here_or_behind : {X : Type 0} (m : Measure X) (far : ℕ) (old : X) (find : NExpr → Option Found) (c : Bool) (e : NExpr) (rest : Option NExpr) (o q : Option X)
      → IsMade row m far old (find e) o → IsMade row m far old (from_some find rest) q → IsMade row m far old (from_some find (if c then Some e else rest)) (if c then o else q)
  here_or_behind m far old find true e rest o q here behind = here
  here_or_behind m far old find false e rest o q here behind = behind

  decls_made : (s : Surroundings) (w : Word) (p : List ℕ) (ds : List NDecl)
      → IsMade row of_decls (length (1 ∷ p)) ds (from_some (λ e. found s p e) (right_side ds w)) (changed_decls row as_they_are s w (1 ∷ p) ds)
  decls_made s w p [] = nowhere
  decls_made s w p (NDef n t e ∷ ds) =
      here_or_behind of_decls _ _ (λ f. found s p f) (bytes_eq n w) e (right_side ds w) _ _
      (around row of_expr of_decls _ 1 _ (omega arith) _ _ (λ z. omega arith) (λ z. omega arith) (λ z. omega arith) _ _ (expr_made row s p e))
      (around row of_decls of_decls _ 0 _ (omega arith) _ _ (λ z. omega arith) (λ z. omega arith) (λ z. omega arith) _ _ (decls_made s w p ds))
  decls_made s w p (NWrap n t e ∷ ds) =
      here_or_behind of_decls _ _ (λ f. found s p f) (bytes_eq n w) e (right_side ds w) _ _
      (around row of_expr of_decls _ 1 _ (omega arith) _ _ (λ z. omega arith) (λ z. omega arith) (λ z. omega arith) _ _ (expr_made row s p e))
      (around row of_decls of_decls _ 0 _ (omega arith) _ _ (λ z. omega arith) (λ z. omega arith) (λ z. omega arith) _ _ (decls_made s w p ds))
  decls_made s w p (NData n ps cs ∷ ds) = around row of_decls of_decls _ 0 _ (omega arith) _ _ (λ z. omega arith) (λ z. omega arith) (λ z. omega arith) _ _ (decls_made s w p ds)
  decls_made s w p (NNew n ps t con ∷ ds) = around row of_decls of_decls _ 0 _ (omega arith) _ _ (λ z. omega arith) (λ z. omega arith) (λ z. omega arith) _ _ (decls_made s w p ds)
  decls_made s w p (NFamily n ps k ∷ ds) = around row of_decls of_decls _ 0 _ (omega arith) _ _ (λ z. omega arith) (λ z. omega arith) (λ z. omega arith) _ _ (decls_made s w p ds)
  decls_made s w p (NAxiom n ps t u ∷ ds) = around row of_decls of_decls _ 0 _ (omega arith) _ _ (λ z. omega arith) (λ z. omega arith) (λ z. omega arith) _ _ (decls_made s w p ds)

  pub module_made : (xs : List NModule) (w : Word) (p : List ℕ) (n : NModule)
      → IsMade row of_module (length (1 ∷ p)) n (from_some (λ e. found (outside (decls_at (n ∷ xs))) p e) (right_side (decls_in n) w)) (changed_module row as_they_are xs w (1 ∷ p) n)
  module_made xs w p (NModuleOf m imports exports hidden ds) =
      around row of_decls of_module _ 0 _ (omega arith) _ _ (λ z. omega arith) (λ z. omega arith) (λ z. omega arith) _ _
      (decls_made (outside (decls_at (NModuleOf m imports exports hidden ds ∷ xs))) w p ds)

  module _ (xs : List NModule) (w : Word) (p : List ℕ) (n k : NModule) (e x y : NExpr) (t : Surroundings) (makes : changed_module row as_they_are xs w (1 ∷ p) n ≡ Some k)
      (defined : right_side (decls_in n) w ≡ Some e) (at : found (outside (decls_at (n ∷ xs))) p e ≡ Some (t, x)) (is : row t x ≡ Some y) where
    -- the module is as deep as the new part is at its place, no deeper than that and what was there before, and larger by as much as the new part is
    pub module_follows : Follows of_module (length (1 ∷ p)) x y n k
    module_follows =
        followed row of_module (length (1 ∷ p)) n _ (changed_module row as_they_are xs w (1 ∷ p) n) t x y k (module_made xs w p n)
        (ap (from_some (λ f. found (outside (decls_at (n ∷ xs))) p f)) defined ∙ at) is makes

    pub size_after : nmodule_size k + nexpr_size x ≡ nmodule_size n + nexpr_size y
    size_after = module_follows.larger

    pub fits : IsWithinLimits n → IsWithinLimits k ↔ Fits n (length (1 ∷ p)) x y
    fits within = (
      λ after.
          let measures = (within_measures k).0 after in
          record { shallow = omega (arith, measures.0, module_follows.deep); small = omega (arith, measures.1, module_follows.larger) },
      λ f.
          let measures = (within_measures n).0 within in
          (within_measures k).1 (omega (arith, measures.0, f.shallow, module_follows.no_deeper), omega (arith, f.small, module_follows.larger)),
    )

pub fits_is : KeepsWithinLimits
fits_is row xs w p n k e x y t within makes defined at is = fits row xs w p n k e x y t makes defined at is within
