-- What is found of the definitions of a module that nothing needs.
use Rattle.std.specs.Prelude.{◌≡◌, ℕ, true, length, not}
use Rattle.std.specs.List.{count_by, list_any}
use Rattle.fc_syntax.specs.declared.module.Module as RustModule
use Rattle.fc_syntax.specs.declared.ty.Ref.{Ref}
use Rattle.fc_model.specs.NamelessView.{nmodule_of}
use Rattle.fc_def_dead.specs.Dead.{AreDead}
use Rattle.fc_def_dead.specs.declared.dropping.Dead.{Dead}

-- the marks are on the definitions that are not needed, of which there is one at least, and there is room for the other declarations
pub record AreDeadIn (m : RustModule.Module ℕ Ref) (d : Dead) : Type 0 where
  pub marks : AreDead (nmodule_of m) d.marks.items
  pub some : list_any (λ b. b) d.marks.items ≡ true
  pub room : length d.room ≡ count_by not d.marks.items
