-- What stands next among the binders of a constructor.
use Rattle.std.specs.Prelude.{◌≡◌, List, [], ◌∷◌}
use Rattle.fc_syntax.specs.Tree.{Binder}
use Rattle.fc_syntax.specs.View.{binder_of}
use Rattle.fc_model.specs.Words.{Tok}
use Rattle.fc_model.specs.Grammar.{Part, Given, Steps, ◌▸◌, ACoercionField, FieldBinders, Many}
use Rattle.fc_model.specs.Reading.{read_steps}
use Rattle.fc_read_types.specs.declared.parameters.Field.{Field}
use Rattle.fc_read_types.specs.declared.parameters.Field.TheVariants as field

-- the tokens begin with the end, with a type, or with a coercion, behind which no type stands
abbrev pub TakesField : List Tok → Field → List Tok → Type 0
TakesField ts field.End rest = (q : Part) (f : List Binder → Steps (Given q)) → read_steps ts (FieldBinders ▸ f) ≡ read_steps rest (f [])
TakesField ts (field.OfType b) rest = (q : Part) (f : List Binder → Steps (Given q)) → read_steps ts (FieldBinders ▸ f) ≡ read_steps rest (FieldBinders ▸ λ bs. f (binder_of b ∷ bs))
TakesField ts (field.OfCoercion b) rest =
    (q : Part) (f : List Binder → Steps (Given q)) → read_steps ts (FieldBinders ▸ f) ≡ read_steps rest (Many ACoercionField ▸ λ bs. f (binder_of b ∷ bs))
