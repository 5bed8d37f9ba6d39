-- Lint of a set by rules: what holds of each of its modules.
use Rattle.std.specs.Prelude.{◌↔◌, List, [], ◌∷◌}
use Rattle.fc_syntax.specs.Tree.{Word, Decl, Module, ModuleOf}
use Rattle.fc_model.specs.Kinding.{decls_at}
use Rattle.fc_model.specs.Linting.{SetLints, offers_of}
use Rattle.fc_model.specs.LintingRules.{ModuleHolds}
use Rattle.fc_model.specs.Nameless.{NDecl, NModule, NModuleOf}
use Rattle.fc_model.specs.Resolution.{Offers, no_words, top_among}
use Rattle.fc_model.specs.ResolutionRules.{Resolves, ResolvesDecls}

-- a module has this nameless form among modules that have this for others: each name of another module is one that this one has for others
pub data ResolvesAmong (offers : Offers) : Module → NModule → Type 0 where
  resolves_among : {m : Word} {imports exports hidden : List Word} {ds : List Decl} {cs : List NDecl}
      → ResolvesDecls (top_among offers (ModuleOf m imports exports hidden ds)) no_words ds cs
      → ResolvesAmong offers (ModuleOf m imports exports hidden ds) (NModuleOf m imports exports hidden cs)

-- A module holds in a set of these nameless forms, of which this is its own: its words are in scope and bound once; the names of its imports are among
-- what their modules export or hide; and its exported and hidden words, its declarations and its definitions hold against what all declare.
pub record HoldsInSet (forms : List NModule) (m : Module) (form : NModule) : Type 0 where
  pub resolves : Resolves m form
  pub offered : ResolvesAmong (offers_of forms) m form
  pub holds : ModuleHolds (decls_at forms) form

-- these modules hold in the set, each with its nameless form
pub data AllHold (forms : List NModule) : List Module → List NModule → Type 0 where
  no_modules : AllHold forms [] []
  one_module : {m : Module} {n : NModule} {ms : List Module} {ns : List NModule} → HoldsInSet forms m n → AllHold forms ms ns → AllHold forms (m ∷ ms) (n ∷ ns)

-- each module of a set holds in it
pub record SetHolds (ms : List Module) : Type 0 where
  pub forms : List NModule
  pub all : AllHold forms ms forms

-- the judgement of a set, and the rules
abbrev pub SetLintIsByCases : Type 0
SetLintIsByCases = (ms : List Module) → SetLints ms ↔ SetHolds ms
