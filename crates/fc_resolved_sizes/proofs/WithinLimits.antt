-- What was read within its limits resolves to a module within those on results.
use Rattle.std.proofs.Common.{◌≡◌, ◌≤◌, ◌∙◌, ℕ, max, suc, List, [], ◌∷◌, map, refl, sym, ap, arith}
use Rattle.std.specs.List.{All}
use Rattle.fc_syntax.specs.GenericTree as tree
use Rattle.fc_syntax.specs.Limits.{standard_limits}
use Rattle.fc_syntax.specs.Measures.{depth_of, size_of}
use Rattle.fc_syntax.specs.Tree.{Decl, Module}
use Rattle.fc_model.specs.Headers.{decls_in}
use Rattle.fc_model.specs.Nameless.{NModule, NModuleOf}
use Rattle.fc_nameless_measures.specs.Depths.{decls_depth}
use Rattle.fc_result_limits.proofs.Blank.{blank_decls}
use Rattle.fc_rows.specs.ResultLimits.{IsWithinLimits}
use Rattle.fc_limits_at_places.proofs.Unworded.{within_measures}
use Rattle.fc_resolved_sizes.specs.ResolvedSizes.{IsAsLarge, ReadAreWithinLimits}
use Rattle.fc_resolved_sizes.proofs.AsLarge.{resolved_are_as_large}

-- the largest of some numbers
abbrev largest : List ℕ → ℕ
largest [] = 0
largest (n ∷ ns) = max n (largest ns)

-- declarations are together as deep as the deepest
as_deepest : {L V B : Type 0} (ds : List (tree.Decl L V B)) → decls_depth ds ≡ largest (map depth_of ds)
as_deepest [] = refl
as_deepest (d ∷ ds) = rw (as_deepest ds) refl

-- none is deeper than this
all_shallow : (most : ℕ) (ds : List Decl) → All (λ d. depth_of d ≤ most) ds → decls_depth ds ≤ most
all_shallow most [] h = omega arith
all_shallow most (d ∷ ds) h =
    let first : depth_of d ≤ most = h 0 d (omega arith) in
    let rest : decls_depth ds ≤ most = all_shallow most ds (λ k e low. h (suc k) e (omega (arith, low))) in omega (arith, first, rest)

as_large_within : (m : Module) (n : NModule) → All (λ d. depth_of d ≤ standard_limits.depth) (decls_in m) → size_of m ≤ standard_limits.size → IsAsLarge m n → IsWithinLimits n
as_large_within m (NModuleOf w imports exports hidden cs) shallow small same =
    let depth : decls_depth (decls_in m) ≡ decls_depth (blank_decls cs) = as_deepest (decls_in m) ∙ ap largest same.depths ∙ sym (as_deepest (blank_decls cs)) in
    let low : decls_depth (decls_in m) ≤ standard_limits.depth = all_shallow standard_limits.depth (decls_in m) shallow in
    (within_measures (NModuleOf w imports exports hidden cs)).1 (omega (arith, depth, low), omega (arith, same.size, small))

pub read_are_within_limits : ReadAreWithinLimits
read_are_within_limits m n shallow small resolves = as_large_within m n shallow small (resolved_are_as_large m n resolves)
