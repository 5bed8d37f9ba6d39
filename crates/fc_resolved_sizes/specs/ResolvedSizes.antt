-- What a module resolves to is as deep and as large as the module.
use Rattle.std.specs.Prelude.{◌≡◌, ◌≤◌, map}
use Rattle.std.specs.List.{All}
use Rattle.fc_syntax.specs.Limits.{standard_limits}
use Rattle.fc_syntax.specs.Measures.{decls_size, depth_of, size_of}
use Rattle.fc_syntax.specs.Tree.{Module}
use Rattle.fc_model.specs.Headers.{decls_in, ndecls_in}
use Rattle.fc_model.specs.ResolutionRules.{Resolves}
use Rattle.fc_model.specs.Nameless.{NModule}
use Rattle.fc_result_limits.proofs.Blank.{blank_decls}
use Rattle.fc_rows.specs.ResultLimits.{IsWithinLimits}

-- each declaration is as deep as the one in its place, and all together are as large; the words of binders, which a nameless tree has not, change no measure
pub record IsAsLarge (m : Module) (n : NModule) : Type 0 where
  pub depths : map depth_of (decls_in m) ≡ map depth_of (blank_decls (ndecls_in n))
  pub size : size_of m ≡ decls_size (blank_decls (ndecls_in n))

-- what a module resolves to has declarations as deep and as large
abbrev pub ResolvedAreAsLarge : Type 0
ResolvedAreAsLarge = (m : Module) (n : NModule) → Resolves m n → IsAsLarge m n

-- what a module within the limits on what is read resolves to is within those on results
abbrev pub ReadAreWithinLimits : Type 0
ReadAreWithinLimits = (m : Module) (n : NModule) → All (λ d. depth_of d ≤ standard_limits.depth) (decls_in m) → size_of m ≤ standard_limits.size → Resolves m n → IsWithinLimits n
