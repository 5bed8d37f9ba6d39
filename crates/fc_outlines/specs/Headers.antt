-- What kinds, coercions and types look at in modules.
use Rattle.std.specs.Prelude.{◌≡◌, Option}
use Rattle.fc_syntax.specs.declared.ty.Name.{Name}
use Rattle.fc_syntax.specs.Tree.{Word}
use Rattle.fc_model.specs.Calling.{con_decl}
use Rattle.fc_model.specs.Coercing.{axiom_decl}
use Rattle.fc_model.specs.Kinding.{Modules, type_decl}
use Rattle.fc_model.specs.Typing.{value_type}

-- the same types, constructors and axioms
pub record DeclareAlike (ms ns : Modules) : Type 0 where
  pub types : (o : Option Word) (w : Word) → type_decl (ms o) w ≡ type_decl (ns o) w
  pub constructors : (o : Option Word) (w : Word) → con_decl (ms o) w ≡ con_decl (ns o) w
  pub axioms : (o : Option Word) (w : Word) → axiom_decl o (ms o) w ≡ axiom_decl o (ns o) w

-- and the same types of definitions
pub record SameHeaders (ms ns : Modules) : Type 0 where
  pub alike : DeclareAlike ms ns
  pub values : (n : Name) → value_type ms n ≡ value_type ns n
