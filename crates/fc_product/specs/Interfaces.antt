-- The interface of a module that is written, and what it tells later modules.
use Rattle.std.specs.Prelude.{◌≡◌, ℕ, Bool, false, List, [], ◌∷◌}
use Rattle.fc_syntax.specs.Demands.{NoDemands, Sig, SigOf}
use Rattle.fc_syntax.specs.Tree.{Decl, DDef, DWrap, Module}
use Rattle.fc_iface.specs.Interfaces.{interface_of}
use Rattle.fc_model.specs.Grammar.{Interface, InterfaceOf}
use Rattle.fc_model.specs.Headers.{decls_in}
use Rattle.fc_model.specs.Nameless.{NModule}
use Rattle.fc_model.specs.ResolutionRules.{Resolves}
use Rattle.fc_reaching.specs.Recursion.{AreRecursive}

-- a signature for each definition, which says nothing: no demands are found yet
abbrev pub unknown_sigs : List Decl → List Sig
unknown_sigs [] = []
unknown_sigs (DDef x t e ∷ ds) = SigOf NoDemands false ∷ unknown_sigs ds
unknown_sigs (DWrap x t e ∷ ds) = SigOf NoDemands false ∷ unknown_sigs ds
unknown_sigs (d ∷ ds) = unknown_sigs ds

-- the interface of a module, where right sides of so many nodes are told, and truth values say which of its declarations reach themselves
abbrev pub interface_written : ℕ → List Bool → Module → Interface
interface_written grow recursive m = interface_of grow recursive m (unknown_sigs (decls_in m))

-- This is the interface of a module that has this nameless form: truth values say which of its declarations are definitions that reach themselves, and it
-- tells of the others, and of each `wrap`, what has at most so many nodes.
pub record IsInterfaceFor (grow : ℕ) (form : NModule) (m : Module) (i : Interface) : Type 0 where
  pub recursive : List Bool
  pub reach : AreRecursive form recursive
  pub is : i ≡ interface_written grow recursive m

abbrev pub told_in : Interface → List Bool
told_in (InterfaceOf m sigs told) = told

-- the interface of a module of this nameless form tells these of its right sides
pub record TellsInterface (grow : ℕ) (form : NModule) (told : List Bool) : Type 0 where
  pub of_module : Module
  pub resolves : Resolves of_module form
  pub interface : Interface
  pub tells : IsInterfaceFor grow form of_module interface
  pub is : told ≡ told_in interface
