-- The first declaration of a word, among the declarations of src; and the first module of a word.
use Rattle.std.specs.Prelude.{ℕ, ◌+◌, Bool, false, ◌||◌, List, [], ◌∷◌, Option, Some, None, if◌then◌else◌}
use Rattle.std.specs.Str.{bytes_eq}
use Rattle.fc_syntax.specs.Tree.{Word}
use Rattle.fc_syntax.specs.declared.module.ConDecl.{ConDecl}
use Rattle.fc_syntax.specs.declared.module.Decl.{Decl}
use Rattle.fc_syntax.specs.declared.module.Decl.TheVariants as D
use Rattle.fc_syntax.specs.declared.module.Module as trees
use Rattle.fc_syntax.specs.declared.module.Param.{Param}
use Rattle.fc_syntax.specs.declared.ty.Ref.{Ref}
use Rattle.fc_syntax.specs.declared.ty.Ty.{Ty}
use Rattle.fc_model.specs.Calling.{first_of}

-- whether modules have one of a word
abbrev pub has_module : List (trees.Module ℕ Ref) → Word → Bool
has_module [] m = false
has_module (x ∷ xs) m = bytes_eq x.name m || has_module xs m

-- what the first module of a word declares
abbrev pub decls_among : List (trees.Module ℕ Ref) → Word → List (Decl ℕ Ref)
decls_among [] m = []
decls_among (x ∷ xs) m = if bytes_eq x.name m then x.decls else decls_among xs m

-- what is found in the module of the first word, where that is the other word
abbrev pub in_module : {X : Type 0} → Word → Word → Option X → Option X
in_module n m found = if bytes_eq n m then found else None

-- whether a declaration is the type of a word
abbrev pub is_type_of : Decl ℕ Ref → Word → Bool
is_type_of (D.DataType n ps cs) w = bytes_eq n w
is_type_of (D.NewType n ps t con) w = bytes_eq n w
is_type_of (D.Family n ps k) w = bytes_eq n w
is_type_of (D.Axiom n ps t u) w = false
is_type_of (D.Def n t e) w = false
is_type_of (D.Wrap n t e) w = false

abbrev pub first_type_decl : List (Decl ℕ Ref) → Word → Option (Decl ℕ Ref)
first_type_decl [] w = None
first_type_decl (d ∷ ds) w = if is_type_of d w then Some d else first_type_decl ds w

-- whether a declaration has the axiom of a word
abbrev pub has_axiom : Decl ℕ Ref → Word → Bool
has_axiom (D.DataType n ps cs) w = false
has_axiom (D.NewType n ps t con) w = bytes_eq con w
has_axiom (D.Family n ps k) w = false
has_axiom (D.Axiom n ps t u) w = bytes_eq n w
has_axiom (D.Def n t e) w = false
has_axiom (D.Wrap n t e) w = false

-- the first of a module, with the word of the module
abbrev pub first_axiom : Word → List (Decl ℕ Ref) → Word → Option (Word × Decl ℕ Ref)
first_axiom m [] w = None
first_axiom m (d ∷ ds) w = if has_axiom d w then Some (m, d) else first_axiom m ds w

abbrev pub first_definition : List (Decl ℕ Ref) → Word → Option (Ty ℕ)
first_definition [] w = None
first_definition (D.DataType n ps cs ∷ ds) w = first_definition ds w
first_definition (D.NewType n ps t con ∷ ds) w = first_definition ds w
first_definition (D.Family n ps k ∷ ds) w = first_definition ds w
first_definition (D.Axiom n ps t u ∷ ds) w = first_definition ds w
first_definition (D.Def n t e ∷ ds) w = if bytes_eq n w then Some t else first_definition ds w
first_definition (D.Wrap n t e ∷ ds) w = if bytes_eq n w then Some t else first_definition ds w

-- a constructor with the words of its module and of its data type, the parameters of that, and its number there
pub record Numbered : Type 0 where
  pub «module» : Word
  pub data_word : Word
  pub params : List Param
  pub number : ℕ
  pub con : ConDecl ℕ

abbrev pub numbered_among : Word → Word → List Param → ℕ → List (ConDecl ℕ) → Word → Option Numbered
numbered_among m d ps i [] w = None
numbered_among m d ps i (c ∷ cs) w = if bytes_eq c.name w then Some (record { «module» = m; data_word = d; params = ps; number = i; con = c }) else numbered_among m d ps (i + 1) cs w

abbrev pub first_constructor : Word → List (Decl ℕ Ref) → Word → Option Numbered
first_constructor m [] w = None
first_constructor m (D.DataType n ps cs ∷ ds) w = first_of (numbered_among m n ps 0 cs w) (first_constructor m ds w)
first_constructor m (D.NewType n ps t con ∷ ds) w = first_constructor m ds w
first_constructor m (D.Family n ps k ∷ ds) w = first_constructor m ds w
first_constructor m (D.Axiom n ps t u ∷ ds) w = first_constructor m ds w
first_constructor m (D.Def n t e ∷ ds) w = first_constructor m ds w
first_constructor m (D.Wrap n t e ∷ ds) w = first_constructor m ds w
