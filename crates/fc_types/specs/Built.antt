-- What is put into the tables of modules.
use Rattle.std.specs.Prelude.{◌≡◌, ℕ, ◌||◌, List}
use Rattle.std.specs.Str.{bytes_eq}
use Rattle.fc_syntax.specs.Tree.{Word}
use Rattle.fc_syntax.specs.declared.module.Module.{Module}
use Rattle.fc_syntax.specs.declared.ty.Ref.{Ref}
use Rattle.fc_model.specs.Calling.{first_of}
use Rattle.fc_types.specs.FirstDeclared.{first_axiom, first_constructor, first_definition, first_type_decl, has_module, in_module}
use Rattle.fc_types.specs.Tables.{has_word}
use Rattle.fc_types.specs.TableViews.{HasAxioms, HasConstructors, HasDefinitions, HasTypes, axiom_entry, decl_at, definition_at, numbered_at}
use Rattle.fc_types.specs.declared.tables.Tables.{Tables}

-- the tables have what these modules declare
pub record AreTables (ms : List (Module ℕ Ref)) (t : Tables) : Type 0 where
  pub words : (m : Word) → has_word t.words m ≡ has_module ms m
  pub types : HasTypes ms t.types
  pub axioms : HasAxioms ms t.axioms
  pub definitions : HasDefinitions ms t.definitions
  pub constructors : HasConstructors ms t.constructors

-- the tables new are old with what a module declares, where old has nothing at its words
pub record Adds (old new : Tables) (x : Module ℕ Ref) : Type 0 where
  pub words : (m : Word) → has_word new.words m ≡ (bytes_eq x.name m || has_word old.words m)
  pub types : (m w : Word) → decl_at new.types m w ≡ first_of (decl_at old.types m w) (in_module x.name m (first_type_decl x.decls w))
  pub axioms : (m w : Word) → axiom_entry new.axioms m w ≡ first_of (axiom_entry old.axioms m w) (in_module x.name m (first_axiom x.name x.decls w))
  pub definitions : (m w : Word) → definition_at new.definitions m w ≡ first_of (definition_at old.definitions m w) (in_module x.name m (first_definition x.decls w))
  pub constructors : (m w : Word) → numbered_at new.constructors m w ≡ first_of (numbered_at old.constructors m w) (in_module x.name m (first_constructor x.name x.decls w))
