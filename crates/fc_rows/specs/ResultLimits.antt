-- How large a module may become: no declaration is deeper than one that is read may be, and all together have no more pieces than may be made.
use Rattle.std.specs.Prelude.{◌≡◌, ◌≤◌, List}
use Rattle.std.specs.List.{All}
use Rattle.fc_syntax.specs.GenericTree.{ModuleOf}
use Rattle.fc_syntax.specs.Limits.{standard_limits}
use Rattle.fc_syntax.specs.Measures.{decls_size, depth_of}
use Rattle.fc_model.specs.Nameless.{NModule}
use Rattle.fc_model.specs.Worded.{WDecl, WModule, bare_module}

abbrev declared : WModule → List WDecl
declared (ModuleOf m imports exports hidden ds) = ds

-- measures are those of the tree with words; which words its binders keep changes none of them
pub record IsWithinLimits (n : NModule) : Type 0 where
  pub worded : WModule
  pub is : n ≡ bare_module worded
  pub shallow : All (λ d. depth_of d ≤ standard_limits.depth) (declared worded)
  pub small : decls_size (declared worded) ≤ standard_limits.result_size
