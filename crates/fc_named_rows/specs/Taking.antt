-- What a call answers.
use Rattle.std.specs.Prelude.{◌≡◌, ⊤, List, map, Result, Ok, Err}
use Rattle.fc_syntax.specs.Tree.{Word, Module}
use Rattle.fc_lattice.specs.View.{as_interface}
use Rattle.fc_lattice.specs.declared.interface.Imports.{Imports}
use Rattle.fc_log.specs.declared.log.Step.{Step}
use Rattle.fc_model.specs.Grammar.{Interface}
use Rattle.fc_model.specs.Linting.{InModule, In}
use Rattle.fc_model.specs.Nameless.{NModule}
use Rattle.fc_model.specs.ResolutionRules.{Resolves}
use Rattle.fc_model.specs.Says.{fault_of}
use Rattle.fc_model.specs.declared.flaw.Flaw.{Flaw}
use Rattle.fc_used_words.specs.Scoped.{IsScoped}
use Rattle.fc_named_rows.specs.Among.{IsMade, MakesFirst, modules_among}
use Rattle.fc_named_rows.specs.declared.error.NotApplied.{NotApplied}
use Rattle.fc_named_rows.specs.declared.error.NotApplied.TheVariants as why

-- what is imported
abbrev pub interfaces_of : Imports → List Interface
interfaces_of xs = map as_interface xs.interfaces

-- A STEP THAT IS TAKEN

-- a named module is what a step makes of the first of some modules
pub record IsWritten (s : Step) (ms : List NModule) (after : Module) : Type 0 where
  pub left : NModule
  pub makes : MakesFirst s ms left
  pub resolves : Resolves after left

-- a named module is what a step makes of a named module among imports
pub record IsTaken (s : Step) (is : List Interface) (m after : Module) : Type 0 where
  pub left : NModule
  pub made : IsMade s is m left
  pub resolves : Resolves after left

-- NO ANSWER

-- a flaw in the module of this name, or out of memory
abbrev pub IsFlawIn : Word → Flaw → NotApplied → Type 0
IsFlawIn w f (why.Flaw n g) = (n ≡ w) × (g ≡ f)
IsFlawIn w f why.Unscoped = ⊥
IsFlawIn w f why.Memory = ⊤

-- the nameless forms are judged to be these, or have this fault of names; out of memory tells nothing
abbrev pub TellsForms : {X Y : Type 0} → (X → Y) → Result X NotApplied → Result Y InModule → Type 0
TellsForms view (Ok x) r = r ≡ Ok (view x)
TellsForms view (Err (why.Flaw w f)) r = r ≡ Err (In w (fault_of f))
TellsForms view (Err why.Unscoped) r = ⊥
TellsForms view (Err why.Memory) r = ⊤

-- a nameless module is not written with names
abbrev pub TellsNaming : NotApplied → NModule → Type 0
TellsNaming (why.Flaw w f) n = ⊥
TellsNaming why.Unscoped n = IsScoped n → ⊥
TellsNaming why.Memory n = ⊤

-- what a step makes of the first of some modules is not scoped
pub record MakesUnscoped (s : Step) (ms : List NModule) : Type 0 where
  pub left : NModule
  pub makes : MakesFirst s ms left
  pub unscoped : IsScoped left → ⊥

abbrev pub ExplainsStep : NotApplied → Step → List NModule → Type 0
ExplainsStep (why.Flaw w f) s ms = ⊥
ExplainsStep why.Unscoped s ms = MakesUnscoped s ms
ExplainsStep why.Memory s ms = ⊤

-- what a step makes of a named module among imports is not scoped
pub record IsMadeUnscoped (s : Step) (is : List Interface) (m : Module) : Type 0 where
  pub left : NModule
  pub made : IsMade s is m left
  pub unscoped : IsScoped left → ⊥

-- why a step on a named module among imports has no answer: the first fault of names, or what is made is not scoped; out of memory tells nothing
abbrev pub Explains : NotApplied → Step → List Interface → Module → Type 0
Explains (why.Flaw w f) s is m = modules_among is m ≡ Err (In w (fault_of f))
Explains why.Unscoped s is m = IsMadeUnscoped s is m
Explains why.Memory s is m = ⊤
