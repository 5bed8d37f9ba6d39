-- The nameless form of a module among those of its imports, and what a step makes of it.
use Rattle.std.specs.Prelude.{◌≡◌, Bool, List, [], ◌∷◌, Result, Ok, Err}
use Rattle.fc_syntax.specs.Tree.{Word, Module}
use Rattle.fc_log.specs.declared.log.Step.{Step}
use Rattle.fc_model.specs.Faulting.{F}
use Rattle.fc_model.specs.Grammar.{Interface, InterfaceOf}
use Rattle.fc_model.specs.Headers.{name_of}
use Rattle.fc_model.specs.Linting.{InModule, In}
use Rattle.fc_model.specs.Nameless.{NModule}
use Rattle.fc_model.specs.Resolution.{resolved_or_fault}
use Rattle.fc_rows.specs.Replaying.{Rewrites}
use Rattle.fc_rows.specs.Telling.{told_module}

-- NAMELESS FORMS

-- a form of the module of this name
abbrev pub form_in : Word → Result NModule F → Result NModule InModule
form_in m (Ok n) = Ok n
form_in m (Err f) = Err (In m f)

-- the nameless form of a module, or its first fault of names
abbrev pub form_or_fault : Module → Result NModule InModule
form_or_fault m = form_in (name_of m) (resolved_or_fault m)

abbrev pub told_by : List Bool → Result NModule InModule → Result NModule InModule
told_by bs (Ok n) = Ok (told_module bs n)
told_by bs (Err e) = Err e

-- the nameless form of the module of an interface, as that tells it
abbrev pub told_interface : Interface → Result NModule InModule
told_interface (InterfaceOf m sigs bs) = told_by bs (form_or_fault m)

-- one form, and then the others
abbrev pub before_others : Result NModule InModule → Result (List NModule) InModule → Result (List NModule) InModule
before_others (Ok n) (Ok ns) = Ok (n ∷ ns)
before_others (Ok n) (Err e) = Err e
before_others (Err e) ns = Err e

abbrev pub told_interfaces : List Interface → Result (List NModule) InModule
told_interfaces [] = Ok []
told_interfaces (i ∷ is) = before_others (told_interface i) (told_interfaces is)

-- the nameless form of a module, and behind it those of its imports, as their interfaces tell them; or the first fault of names
abbrev pub modules_among : List Interface → Module → Result (List NModule) InModule
modules_among is m = before_others (form_or_fault m) (told_interfaces is)

-- STEPS

-- a step makes the first of some modules another, among the others
abbrev pub MakesFirst : Step → List NModule → NModule → Type 0
MakesFirst s [] left = ⊥
MakesFirst s (n ∷ xs) left = Rewrites xs s n left

-- a step makes this of a named module among imports
pub record IsMade (s : Step) (is : List Interface) (m : Module) (left : NModule) : Type 0 where
  pub modules : List NModule
  pub among : modules_among is m ≡ Ok modules
  pub makes : MakesFirst s modules left
