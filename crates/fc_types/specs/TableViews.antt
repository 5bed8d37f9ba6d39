-- What the tables of modules' declarations say.
use Rattle.std.specs.Prelude.{◌≡◌, ℕ, List, Option, Some, None}
use Rattle.std.specs.Option.{option_map}
use Rattle.indexmap.specs.IndexMap.{IndexMap}
use Rattle.fc_syntax.specs.Tree.{Word}
use Rattle.fc_syntax.specs.declared.module.Decl.{Decl}
use Rattle.fc_syntax.specs.declared.module.Module.{Module}
use Rattle.fc_syntax.specs.declared.ty.Ref.{Ref}
use Rattle.fc_syntax.specs.declared.ty.Ty.{Ty}
use Rattle.fc_model.specs.NamelessView.{nbinders_of, nparams_of, ntys_of}
use Rattle.fc_model.specs.Calling.{Constructor}
use Rattle.fc_model.specs.Coercing.{Axiom, family_axiom, newtype_axiom}
use Rattle.fc_model.specs.Nameless.{NDecl, NData, NNew, NFamily, NAxiom, NDef, NWrap}
use Rattle.fc_types.specs.FirstDeclared.{Numbered, decls_among, first_axiom, first_constructor, first_definition, first_type_decl}
use Rattle.fc_types.specs.Tables.{at}
use Rattle.fc_types.specs.declared.keys.WordKey.{WordKey}
use Rattle.fc_types.specs.declared.tables.DeclaredAxiom.{DeclaredAxiom}
use Rattle.fc_types.specs.declared.tables.DeclaredCon.{DeclaredCon}
use denote.Ref.{Bor}

-- what a constructor of src means
abbrev pub constructor_at : Numbered → Constructor
constructor_at n = record { data_word = n.data_word; params = nparams_of n.params; number = n.number; binders = nbinders_of n.con.binders; fields = ntys_of n.con.fields }

abbrev pub numbered : DeclaredCon → Numbered
numbered c = record { «module» = c.module.now; data_word = c.data_word.now; params = c.params.now; number = c.number; con = c.con.now }

-- what is found of a constructor
abbrev pub constructor_of : DeclaredCon → Constructor
constructor_of c = constructor_at (numbered c)

-- the axiom that a declaration of a module has
abbrev pub axiom_of : Option Word → NDecl → Option Axiom
axiom_of m (NData n ps cs) = None
axiom_of m (NNew n ps t con) = Some (newtype_axiom m n ps t)
axiom_of m (NFamily n ps k) = None
axiom_of m (NAxiom n ps t u) = Some (family_axiom ps t u)
axiom_of m (NDef n t e) = None
axiom_of m (NWrap n t e) = None

abbrev pub decl_at : {S : Type 0} → IndexMap WordKey (Bor (Decl ℕ Ref)) S → Word → Word → Option (Decl ℕ Ref)
decl_at table m w = option_map (λ d. d.now) (at table m w)

-- an axiom with the word of its module
abbrev pub owned_axiom : DeclaredAxiom → Word × Decl ℕ Ref
owned_axiom a = (a.module.now, a.decl.now)

abbrev pub axiom_entry : {S : Type 0} → IndexMap WordKey DeclaredAxiom S → Word → Word → Option (Word × Decl ℕ Ref)
axiom_entry table m w = option_map owned_axiom (at table m w)

abbrev pub definition_at : {S : Type 0} → IndexMap WordKey (Bor (Ty ℕ)) S → Word → Word → Option (Ty ℕ)
definition_at table m w = option_map (λ t. t.now) (at table m w)

abbrev pub numbered_at : {S : Type 0} → IndexMap WordKey DeclaredCon S → Word → Word → Option Numbered
numbered_at table m w = option_map numbered (at table m w)

-- the table has the first type of each word of each module
abbrev pub HasTypes : {S : Type 0} → List (Module ℕ Ref) → IndexMap WordKey (Bor (Decl ℕ Ref)) S → Type 0
HasTypes ms table = (m w : Word) → decl_at table m w ≡ first_type_decl (decls_among ms m) w

-- the table has the declaration of the first axiom of each word
abbrev pub HasAxioms : {S : Type 0} → List (Module ℕ Ref) → IndexMap WordKey DeclaredAxiom S → Type 0
HasAxioms ms table = (m w : Word) → axiom_entry table m w ≡ first_axiom m (decls_among ms m) w

-- the table has the type of the first definition of each word
abbrev pub HasDefinitions : {S : Type 0} → List (Module ℕ Ref) → IndexMap WordKey (Bor (Ty ℕ)) S → Type 0
HasDefinitions ms table = (m w : Word) → definition_at table m w ≡ first_definition (decls_among ms m) w

-- the table has the first constructor of each word
abbrev pub HasConstructors : {S : Type 0} → List (Module ℕ Ref) → IndexMap WordKey DeclaredCon S → Type 0
HasConstructors ms table = (m w : Word) → numbered_at table m w ≡ first_constructor m (decls_among ms m) w
