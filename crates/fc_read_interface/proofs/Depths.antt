-- How deep a definition is that fails at its type.
use Rattle.std.proofs.Common.{◌≡◌, ◌+◌, ℕ, ℤ, false, arith, max}
use Rattle.std.specs.Prelude.{nat_le}
use Rattle.fc_syntax.specs.Measures.{ty_depth}
use Rattle.fc_syntax.specs.Limits.{standard_limits}
use Rattle.fc_syntax.specs.Tree.{Word, Ty, DDef, ELit, EFail}
use Rattle.fc_model.specs.ReadFaults.{depth_fits}
use Rattle.std.proofs.lemmas.Bool.Decides.{nat_tests}

deeper : (d most : ℕ) → nat_le (1 + max d 1) most ≡ false → nat_le (1 + max d (1 + d)) most ≡ false
deeper d most h = grind (arith, nat_tests)

-- it is at least as deep as one of the same type whose right side is a literal
pub fails_deeper : (x : Word) (t : Ty) (n : ℤ) → depth_fits (DDef x t (ELit n)) ≡ false → depth_fits (DDef x t (EFail t)) ≡ false
fails_deeper x t n h = deeper (ty_depth t) standard_limits.depth h
