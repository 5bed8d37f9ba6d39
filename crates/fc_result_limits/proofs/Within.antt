-- A module is within the limits exactly if its own measures are: those of every other tree with the same nameless form are the same.
use Rattle.std.proofs.Common.{◌≡◌, ◌≤◌, ◌<◌, ◌∙◌, ◌↔◌, ℕ, zero, suc, List, [], ◌∷◌, refl, sym, ap, arith}
use Rattle.std.specs.Prelude.{IsTrue, nat_le}
use Rattle.std.specs.List.{All}
use Rattle.std.proofs.lemmas.Bool.Decides.{nat_tests}
use Rattle.fc_syntax.specs.declared.limits.Limits.{Limits}
use Rattle.fc_syntax.specs.GenericTree.{Word, ModuleOf}
use Rattle.fc_syntax.specs.Measures.{decls_size, depth_of}
use Rattle.fc_syntax.specs.Limits.{standard_limits}
use Rattle.fc_model.specs.Nameless.{NDecl, NModule, NModuleOf}
use Rattle.fc_model.specs.Worded.{WDecl, WModule, bare_decls, bare_module}
use Rattle.fc_nameless_measures.specs.Depths.{decls_depth}
use Rattle.fc_rows.specs.ResultLimits.{IsWithinLimits}
use Rattle.fc_result_limits.proofs.Bare.{decls_same}
use Rattle.fc_result_limits.proofs.Blank.{blank_decls}

-- TESTS

fits : (x y : ℕ) → IsTrue (nat_le x y) → x ≤ y
fits x y t = grind (arith, nat_tests, t)

told : (x y : ℕ) → x ≤ y → IsTrue (nat_le x y)
told x y h = grind (arith, nat_tests, h)

-- DEPTHS

each_depth : (most : ℕ) (ds : List WDecl) → decls_depth ds ≤ most → All (λ d. depth_of d ≤ most) ds
each_depth most [] h k e low = absurd (omega (arith, low))
each_depth most (d ∷ ds) h zero e low = omega (arith, h)
each_depth most (d ∷ ds) h (suc k) e low = each_depth most ds (omega (arith, h)) k e (omega (arith, low))

all_depths : (most : ℕ) (ds : List WDecl) → All (λ d. depth_of d ≤ most) ds → decls_depth ds ≤ most
all_depths most [] h = omega arith
all_depths most (d ∷ ds) h =
    let first : depth_of d ≤ most = h 0 d (omega arith) in
    let rest : decls_depth ds ≤ most = all_depths most ds (λ k e low. h (suc k) e (omega (arith, low))) in omega (arith, first, rest)

-- ANOTHER TREE OF THE SAME FORM

abbrev declared : WModule → List WDecl
declared (ModuleOf m imports exports hidden ds) = ds

abbrev pub the_decls : NModule → List NDecl
the_decls (NModuleOf n imports exports hidden ds) = ds

module _ (ds cs : List WDecl) (same : bare_decls ds ≡ bare_decls cs) where
  same_depth : decls_depth ds ≡ decls_depth cs
  same_depth = (decls_same ds).1 ∙ ap (λ x. decls_depth (blank_decls x)) same ∙ sym ((decls_same cs).1)

  same_size : decls_size ds ≡ decls_size cs
  same_size = (decls_same ds).0 ∙ ap (λ x. decls_size (blank_decls x)) same ∙ sym ((decls_same cs).0)

-- without words no declaration is too deep either
pub shallow_decls : (n : NModule) → IsWithinLimits n → decls_depth (blank_decls (the_decls n)) ≤ standard_limits.depth
shallow_decls n within = here within.worded within.is within.shallow
  where
    here : (w : WModule) → n ≡ bare_module w → All (λ d. depth_of d ≤ standard_limits.depth) (declared w) → decls_depth (blank_decls (the_decls n)) ≤ standard_limits.depth
    here (ModuleOf m imports exports hidden cs) same shallow =
        let depth : decls_depth cs ≤ standard_limits.depth = all_depths standard_limits.depth cs shallow in
        omega (arith, depth, (decls_same cs).1, ap (λ k. decls_depth (blank_decls (the_decls k))) same)

module _ (n : Word) (imports exports hidden : List Word) (ds : List WDecl) where
  as_measured : IsWithinLimits (bare_module (ModuleOf n imports exports hidden ds)) → (decls_depth ds ≤ standard_limits.depth) × (decls_size ds ≤ standard_limits.result_size)
  as_measured within = here within.worded within.is within.shallow within.small
    where
      here : (w : WModule) → bare_module (ModuleOf n imports exports hidden ds) ≡ bare_module w → All (λ d. depth_of d ≤ standard_limits.depth) (declared w)
          → decls_size (declared w) ≤ standard_limits.result_size → (decls_depth ds ≤ standard_limits.depth) × (decls_size ds ≤ standard_limits.result_size)
      here (ModuleOf m is es hs cs) same shallow small =
          let decls : bare_decls ds ≡ bare_decls cs = ap the_decls same in
          let depth : decls_depth cs ≤ standard_limits.depth = all_depths standard_limits.depth cs shallow in
          (rw (same_depth ds cs decls) depth, rw (same_size ds cs decls) small)

  pub within_is : IsWithinLimits (bare_module (ModuleOf n imports exports hidden ds)) ↔ ((decls_depth ds ≤ standard_limits.depth) × (decls_size ds ≤ standard_limits.result_size))
  within_is = (as_measured, λ h. record { worded = ModuleOf n imports exports hidden ds; is = refl; shallow = each_depth standard_limits.depth ds h.0; small = h.1 })

  -- what code tests: how deep the declarations are, and then how large
  module _ (l : Limits) (d s : ℕ) (same : l ≡ standard_limits) (depth : d ≡ decls_depth ds) (size : s ≡ decls_size ds) where
    depth_limit : l.depth ≡ standard_limits.depth
    depth_limit = ap (λ x. x.depth) same

    size_limit : l.result_size ≡ standard_limits.result_size
    size_limit = ap (λ x. x.result_size) same

    pub where_shallow : d ≤ l.depth → IsTrue (nat_le s l.result_size) ↔ IsWithinLimits (bare_module (ModuleOf n imports exports hidden ds))
    where_shallow low = (
      λ t. within_is.1 (omega (arith, depth, depth_limit, low), omega (arith, size, size_limit, fits s l.result_size t)),
      λ w. told s l.result_size (omega (arith, size, size_limit, (within_is.0 w).1)),
    )

    pub where_deep : l.depth < d → IsTrue (nat_le d l.depth) ↔ IsWithinLimits (bare_module (ModuleOf n imports exports hidden ds))
    where_deep high = (
      λ t. let low : d ≤ l.depth = fits d l.depth t in absurd (omega (arith, high, low)),
      λ w. absurd (omega (arith, high, depth, depth_limit, (within_is.0 w).0)),
    )
