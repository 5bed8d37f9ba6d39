-- Definitions that nothing mentions may go: what is left of a module that lints does too.
use Rattle.std.specs.Prelude.{◌≡◌, All, Bool, true, ◌&&◌, if◌then◌else◌, List, [], ◌∷◌}
use Rattle.std.specs.List.{list_all}
use Rattle.fc_syntax.specs.Tree.{Word}
use Rattle.fc_model.specs.Headers.{ndecls_in}
use Rattle.fc_model.specs.Nameless.{NDecl, NData, NNew, NFamily, NAxiom, NDef, NWrap, NModule, NModuleOf}
use Rattle.fc_model.specs.Typing.{def_type}
use Rattle.fc_reaching.specs.Reaching.{names_in}
use Rattle.fc_rows.specs.Rewriting.{without_definitions}
use Rattle.fc_row_types.specs.LintKept.{LintsWith}
use Rattle.fc_rows.specs.Dropping.{is_kept}

-- the definitions that stay mention only names of the module that stay
abbrev pub stay_closed : (Word → Bool) → Word → List NDecl → Bool
stay_closed keep m [] = true
stay_closed keep m (NDef n t e ∷ ds) = (if keep n then list_all (is_kept keep m) (names_in e) else true) && stay_closed keep m ds
stay_closed keep m (NWrap n t e ∷ ds) = (if keep n then list_all (is_kept keep m) (names_in e) else true) && stay_closed keep m ds
stay_closed keep m (NData n ps cs ∷ ds) = stay_closed keep m ds
stay_closed keep m (NNew n ps t con ∷ ds) = stay_closed keep m ds
stay_closed keep m (NFamily n ps k ∷ ds) = stay_closed keep m ds
stay_closed keep m (NAxiom n ps t u ∷ ds) = stay_closed keep m ds

-- all that these mention of a module stays
abbrev pub mention_kept : (Word → Bool) → Word → List NDecl → Bool
mention_kept keep m [] = true
mention_kept keep m (NDef n t e ∷ ds) = list_all (is_kept keep m) (names_in e) && mention_kept keep m ds
mention_kept keep m (NWrap n t e ∷ ds) = list_all (is_kept keep m) (names_in e) && mention_kept keep m ds
mention_kept keep m (NData n ps cs ∷ ds) = mention_kept keep m ds
mention_kept keep m (NNew n ps t con ∷ ds) = mention_kept keep m ds
mention_kept keep m (NFamily n ps k ∷ ds) = mention_kept keep m ds
mention_kept keep m (NAxiom n ps t u ∷ ds) = mention_kept keep m ds

-- exported and hidden words stay, and what stays, and what is told of imports, mentions nothing that goes
pub record StaysClosed (keep : Word → Bool) (xs : List NModule) (m : Word) (exports hidden : List Word) (ds : List NDecl) : Type 0 where
  pub exported : list_all keep exports ≡ true
  pub hidden_words : list_all keep hidden ≡ true
  pub own : stay_closed keep m ds ≡ true
  pub others : All (λ x. mention_kept keep m (ndecls_in x) ≡ true) xs

-- what is left lints, at the same types
abbrev pub DroppedDefinitionsKeepLint : Type 0
DroppedDefinitionsKeepLint = (keep : Word → Bool) (xs : List NModule) (m : Word) (imports exports hidden : List Word) (ds : List NDecl) → LintsWith xs (NModuleOf m imports exports hidden ds)
    → StaysClosed keep xs m exports hidden ds → LintsWith xs (NModuleOf m imports exports hidden (without_definitions keep ds))
    × ((w : Word) → keep w ≡ true → def_type (without_definitions keep ds) w ≡ def_type ds w)
