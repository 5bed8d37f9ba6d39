-- The modules of a set.
use Rattle.std.specs.Prelude.{List, map}
use Rattle.fc_syntax.specs.Tree.{Word, Module}
use Rattle.fc_syntax.specs.View.{module_of}
use Rattle.fc_syntax.specs.declared.module.Module as RustModule
use Rattle.fc_syntax.specs.declared.ty.Name.{Name}
use Rattle.fc_model.specs.Headers.{name_of}
use denote.Ref.{Bor}

abbrev pub modules_of : List (RustModule.Module Word Name) → List Module
modules_of ms = map module_of ms

abbrev pub names_of : List Module → List Word
names_of ms = map name_of ms

-- what references point to
abbrev pub behind : List (Bor (RustModule.Module Word Name)) → List Module
behind ms = map (λ m. module_of m.now) ms
