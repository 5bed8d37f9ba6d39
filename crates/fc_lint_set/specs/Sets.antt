-- How an answer of the code meets the judgement of a set.
use Rattle.std.specs.Prelude.{◌≡◌, ⊤, ℕ, true, List, [], ◌∷◌, ◌++◌, Option, Some, None, drop, length, map, slice_get, Result, Ok, Err}
use Rattle.fc_syntax.specs.Hints.{module_hints}
use Rattle.fc_syntax.specs.Tree.{Word, Module}
use Rattle.fc_syntax.specs.View.{module_of}
use Rattle.fc_syntax.specs.declared.module.Module as rust
use Rattle.fc_syntax.specs.declared.ty.Ref.{Ref}
use Rattle.fc_model.specs.Faulting.{F, and_then}
use Rattle.fc_model.specs.Linting.{Done, done, InModule, In, modules_judged, nameless_forms, offers_of}
use Rattle.fc_model.specs.Nameless.{NModule}
use Rattle.fc_model.specs.NamelessView.{nmodules_of}
use Rattle.fc_model.specs.OfferViews.{offers_in}
use Rattle.fc_model.specs.Resolution.{Offers, resolved_among, resolved_or_fault}
use Rattle.fc_model.specs.Says.{fault_of}
use Rattle.fc_model.specs.declared.flaw.Flaw.{Flaw}
use Rattle.fc_model.specs.declared.flaw.Flawed.{Flawed}
use Rattle.fc_model.specs.declared.flaw.Flawed.TheVariants as flawed
use Rattle.fc_lint_set.specs.declared.sets.Forms.{Forms}
use Rattle.fc_lint_set.specs.declared.sets.Naming.{Naming}
use Rattle.fc_lint_set.specs.declared.sets.Naming.TheVariants as naming
use Rattle.fc_lint_set.specs.declared.sets.SetFlawed.{SetFlawed}
use Rattle.fc_lint_set.specs.declared.sets.SetFlawed.TheVariants as set

-- a premise that fails in a module, or out of memory, which tells nothing
abbrev pub SetRefuses : SetFlawed → Result Done InModule → Type 0
SetRefuses (set.Flaw m f) r = r ≡ Err (In m (fault_of f))
SetRefuses set.Memory r = ⊤

-- an answer and what a set is judged
abbrev pub SetSays : {X : Type 0} → Result X SetFlawed → Result Done InModule → Type 0
SetSays (Ok x) r = r ≡ Ok done
SetSays (Err e) r = SetRefuses e r

-- a judgement of the modules before the one of a number alone, or the first premise that fails there
abbrev pub SaysBefore : {X : Type 0} → List NModule → List Module → ℕ → Result X SetFlawed → Type 0
SaysBefore ns ms count (Ok x) = modules_judged ns ms ≡ modules_judged ns (drop count ms)
SaysBefore ns ms count (Err e) = SetRefuses e (modules_judged ns ms)

-- the same flaw, in a module
abbrev pub StandsInModule : Word → Flawed → SetFlawed → Type 0
StandsInModule m flawed.Memory e = e ≡ set.Memory
StandsInModule m (flawed.Flaw f) set.Memory = ⊤
StandsInModule m (flawed.Flaw f) (set.Flaw n g) = (n ≡ m) × (g ≡ f)

-- what has a fault of names behind the modules that have forms: none, or the next module
abbrev pub EndsForms : List Module → ℕ → Option Flaw → Type 0
EndsForms ms count None = count ≡ length ms
EndsForms ms count (Some f) = (m : Module) × (slice_get ms count ≡ Some m) × (resolved_or_fault m ≡ Err (fault_of f))

-- the words of binders that a nameless form keeps
abbrev pub hints_kept : rust.Module ℕ Ref → List Word
hints_kept n = module_hints (module_of n)

-- THE NAMES OF IMPORTED MODULES

-- the nameless forms of modules, each of which names of those before it what they have for others
abbrev pub ResolveBehind : List NModule → List Module → List NModule → Type 0
ResolveBehind ns [] [] = ⊤
ResolveBehind ns [] (k ∷ ks) = ⊥
ResolveBehind ns (m ∷ ms) [] = ⊥
ResolveBehind ns (m ∷ ms) (k ∷ ks) = (resolved_among (offers_of ns) m ≡ Ok k) × ResolveBehind (ns ++ k ∷ []) ms ks

-- that a module names of others what these have for it, or its first fault of names
abbrev pub names_among : Offers → Module → Result Done F
names_among offers m = and_then (resolved_among offers m) (λ _. Ok done)

-- the same, by what is known
abbrev pub names_judged : Naming → Module → Result Done F
names_judged naming.Known m = Ok done
names_judged (naming.Among o) m = names_among (offers_in o) m

-- each of these modules names of those of these forms what they have for others
abbrev pub AllNamed : List NModule → List Module → Type 0
AllNamed ns ms = (i : ℕ) (m : Module) → slice_get ms i ≡ Some m → names_among (offers_of ns) m ≡ Ok done

-- what is known of the names of these modules is so among those of these forms
abbrev pub AreNames : List NModule → List Module → Naming → Type 0
AreNames ns ms known = (i : ℕ) (m : Module) → slice_get ms i ≡ Some m → names_judged known m ≡ names_among (offers_of ns) m

-- the nameless forms of modules up to the first that has none, and whether their names are known
pub record AreForms (ms : List Module) (found : Forms) : Type 0 where
  pub forms : nmodules_of found.modules.items ≡ nameless_forms ms
  pub ends : EndsForms ms (length found.modules.items) found.flaw
  pub named : found.named ≡ true → AllNamed (nmodules_of found.modules.items) ms
  pub words : found.flaw ≡ None → map hints_kept found.modules.items ≡ map module_hints ms
