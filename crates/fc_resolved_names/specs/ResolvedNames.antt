-- What resolves is scoped.
use Rattle.std.specs.Prelude.{◌≡◌, false}
use Rattle.std.specs.List.{All}
use Rattle.std.specs.Str.{bytes_eq}
use Rattle.fc_syntax.specs.Tree.{Module}
use Rattle.fc_model.specs.Nameless.{NModule, NModuleOf}
use Rattle.fc_model.specs.ResolutionRules.{Resolves}
use Rattle.fc_used_words.specs.Scoped.{IsScoped}

-- the module is not among its own imports
abbrev pub ImportsOthers : NModule → Type 0
ImportsOthers (NModuleOf m imports exports hidden ds) = All (λ w. bytes_eq w m ≡ false) imports

-- what resolves is scoped, where the module does not import itself
abbrev pub ResolvedAreScoped : Type 0
ResolvedAreScoped = (m : Module) (n : NModule) → Resolves m n → ImportsOthers n → IsScoped n
