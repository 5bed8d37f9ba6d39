-- What is left of a module where definitions go is within the limits, where the module was.
use Rattle.std.proofs.Common.{◌≤◌, Bool, true, false, if◌then◌else◌, List, [], ◌∷◌, arith, subst, sym}
use Rattle.fc_syntax.specs.Measures.{decls_size}
use Rattle.fc_syntax.specs.Tree.{Word}
use Rattle.fc_model.specs.Nameless.{NDecl, NData, NNew, NFamily, NAxiom, NDef, NWrap, NModule, NModuleOf}
use Rattle.fc_nameless_measures.specs.Depths.{decls_depth}
use Rattle.fc_rows.specs.Dropping.{DropsDead, with_needed}
use Rattle.fc_rows.specs.ResultLimits.{IsWithinLimits}
use Rattle.fc_rows.specs.Rewriting.{without_definitions}
use Rattle.fc_result_limits.proofs.Blank.{blank_decls}
use Rattle.fc_limits_at_places.proofs.Unworded.{within_measures}

-- no deeper and no larger
record IsNoMore (before after : List NDecl) : Type 0 where
  shallow : decls_depth (blank_decls after) ≤ decls_depth (blank_decls before)
  small : decls_size (blank_decls after) ≤ decls_size (blank_decls before)

one_stays : (d : NDecl) (ds es : List NDecl) → IsNoMore ds es → IsNoMore (d ∷ ds) (d ∷ es)
one_stays d ds es less = record { shallow = omega (arith, less.shallow); small = omega (arith, less.small) }

one_goes : (d : NDecl) (ds es : List NDecl) → IsNoMore ds es → IsNoMore (d ∷ ds) es
one_goes d ds es less = record { shallow = omega (arith, less.shallow); small = omega (arith, less.small) }

by_test : (b : Bool) (d : NDecl) (ds es : List NDecl) → IsNoMore ds es → IsNoMore (d ∷ ds) (if b then d ∷ es else es)
by_test true d ds es less = one_stays d ds es less
by_test false d ds es less = one_goes d ds es less

no_more : (keep : Word → Bool) (ds : List NDecl) → IsNoMore ds (without_definitions keep ds)
no_more keep [] = record { shallow = omega arith; small = omega arith }
no_more keep (NData n ps cs ∷ ds) = one_stays (NData n ps cs) ds (without_definitions keep ds) (no_more keep ds)
no_more keep (NNew n ps t con ∷ ds) = one_stays (NNew n ps t con) ds (without_definitions keep ds) (no_more keep ds)
no_more keep (NFamily n ps k ∷ ds) = one_stays (NFamily n ps k) ds (without_definitions keep ds) (no_more keep ds)
no_more keep (NAxiom n ps t u ∷ ds) = one_stays (NAxiom n ps t u) ds (without_definitions keep ds) (no_more keep ds)
no_more keep (NDef n t e ∷ ds) = by_test (keep n) (NDef n t e) ds (without_definitions keep ds) (no_more keep ds)
no_more keep (NWrap n t e ∷ ds) = by_test (keep n) (NWrap n t e) ds (without_definitions keep ds) (no_more keep ds)

left_within : (keep : Word → Bool) (n : NModule) → IsWithinLimits n → IsWithinLimits (with_needed keep n)
left_within keep (NModuleOf m imports exports hidden ds) within =
    let before = (within_measures (NModuleOf m imports exports hidden ds)).0 within in
    let less = no_more keep ds in
    (within_measures (NModuleOf m imports exports hidden (without_definitions keep ds))).1 (omega (arith, before.0, less.shallow), omega (arith, before.1, less.small))

pub drops_within : (n k : NModule) → DropsDead n k → IsWithinLimits n → IsWithinLimits k
drops_within n k drops within = subst IsWithinLimits (sym drops.left) (left_within drops.keep n within)
