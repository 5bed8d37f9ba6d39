-- What a step makes of the first of some modules.
use Rattle.std.proofs.Common.{ℕ, List, [], ◌∷◌, get_or, refl}
use Rattle.fc_syntax.specs.declared.module.Module as rust
use Rattle.fc_syntax.specs.declared.ty.Ref.{Ref}
use Rattle.fc_log.specs.declared.log.Step.{Step}
use Rattle.fc_model.specs.Nameless.{NModule}
use Rattle.fc_model.specs.NamelessView.{nmodule_of, nmodules_of}
use Rattle.fc_apply.specs.Steps.{Takes}
use Rattle.fc_named_rows.specs.Among.{MakesFirst}
use Rattle.fc_named_rows.specs.Taking.{ExplainsStep, TellsNaming}
use Rattle.fc_named_rows.specs.declared.error.NotApplied.{NotApplied}
use Rattle.fc_named_rows.specs.declared.error.NotApplied.TheVariants as why

abbrev Form : Type 0
Form = rust.Module ℕ Ref

-- what stands first behind a step is what the step makes of the first
first_taken : (s : Step) (before : List NModule) (after : List Form) (k : Form) → Takes s before (nmodules_of after) → MakesFirst s before (nmodule_of (get_or after 0 k))
first_taken s [] after k takes = absurd takes
first_taken s (n ∷ xs) [] k takes = absurd takes
first_taken s (n ∷ xs) (l ∷ ls) k takes = takes.1

-- where it is not written, it is not scoped
pub not_written : (e : NotApplied) (s : Step) (before : List NModule) (after : List Form) (k : Form) → Takes s before (nmodules_of after)
    → TellsNaming e (nmodule_of (get_or after 0 k)) → ExplainsStep e s before
not_written (why.Flaw w f) s before after k takes tells = tells
not_written why.Unscoped s before after k takes tells = record { left = nmodule_of (get_or after 0 k); makes = first_taken s before after k takes; unscoped = tells }
not_written why.Memory s before after k takes tells = tt

-- a step that is not taken makes nothing of the first
pub none_made : (s : Step) (ms : List NModule) → ((after : List NModule) → Takes s ms after → ⊥) → (left : NModule) → MakesFirst s ms left → ⊥
none_made s [] none left makes = makes
none_made s (n ∷ xs) none left makes = none (left ∷ xs) (refl, makes)
