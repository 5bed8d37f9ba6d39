-- When a module keeps within the limits on results as the part at a place becomes another.
use Rattle.std.specs.Prelude.{◌≡◌, ◌≤◌, ◌+◌, ◌↔◌, ℕ, List, ◌∷◌, length, Option, Some}
use Rattle.fc_syntax.specs.Limits.{standard_limits}
use Rattle.fc_syntax.specs.Measures.{decls_size, expr_size}
use Rattle.fc_syntax.specs.Tree.{Word}
use Rattle.fc_model.specs.Kinding.{decls_at}
use Rattle.fc_model.specs.Nameless.{NExpr, NModule}
use Rattle.fc_parts.specs.Found.{found}
use Rattle.fc_reaching.specs.Reaching.{decls_in, right_side}
use Rattle.fc_result_limits.proofs.Blank.{blank_decls, blank_expr}
use Rattle.fc_result_limits.proofs.Deep.{nexpr_depth}
use Rattle.fc_rows.specs.ChangingCoercions.{as_they_are}
use Rattle.fc_rows.specs.ResultLimits.{IsWithinLimits}
use Rattle.fc_rows.specs.Rewriting.{changed_module}
use Rattle.fc_rows.specs.Surroundings.{Surroundings, outside}

-- trees without words are as large as those with empty ones
abbrev pub nexpr_size : NExpr → ℕ
nexpr_size e = expr_size (blank_expr e)

abbrev pub nmodule_size : NModule → ℕ
nmodule_size n = decls_size (blank_decls (decls_in n))

-- a part may stand in the place of another: at that distance from the declaration it is not too deep, and with it in place of the other all declarations together
-- are not too large
pub record Fits (n : NModule) (length_of_place : ℕ) (old new : NExpr) : Type 0 where
  pub shallow : nexpr_depth new + length_of_place ≤ standard_limits.depth
  pub small : nexpr_size new + nmodule_size n ≤ standard_limits.result_size + nexpr_size old

-- Of a module that is within the limits, one in which a row makes something of the part at a place of a definition is within them exactly if what the row makes
-- may stand in the place of that part.
abbrev pub KeepsWithinLimits : Type 0
KeepsWithinLimits = (row : Surroundings → NExpr → Option NExpr) (xs : List NModule) (w : Word) (p : List ℕ) (n k : NModule) (e x y : NExpr) (t : Surroundings)
    → IsWithinLimits n → changed_module row as_they_are xs w (1 ∷ p) n ≡ Some k → right_side (decls_in n) w ≡ Some e → found (outside (decls_at (n ∷ xs))) p e ≡ Some (t, x) → row t x ≡ Some y
    → IsWithinLimits k ↔ Fits n (length (1 ∷ p)) x y
