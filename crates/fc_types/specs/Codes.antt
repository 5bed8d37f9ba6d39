-- That tables have what modules declare is a fact: two declarations of src are told apart.
use Rattle.std.specs.Prelude.{ℕ, List, refl}
use Rattle.std.specs.Coded.{Coded, Coded-set, Π_prop, code_by, coded×, coded_ℕ, coded_list, coded_option}
use Rattle.indexmap.specs.IndexMap.{IndexMap}
use Rattle.fc_syntax.specs.Tree.{Word}
use Rattle.fc_syntax.specs.contracts.module.ConDecl as con_decl
use Rattle.fc_syntax.specs.contracts.module.Decl as decl
use Rattle.fc_syntax.specs.contracts.module.Param as param
use Rattle.fc_syntax.specs.contracts.ty.Ref as reference
use Rattle.fc_syntax.specs.contracts.ty.Ty as ty
use Rattle.fc_syntax.specs.declared.module.ConDecl.{ConDecl}
use Rattle.fc_syntax.specs.declared.module.Decl.{Decl}
use Rattle.fc_syntax.specs.declared.module.Module.{Module}
use Rattle.fc_syntax.specs.declared.module.Param.{Param}
use Rattle.fc_syntax.specs.declared.ty.Ref.{Ref}
use Rattle.fc_syntax.specs.declared.ty.Ty.{Ty}
use Rattle.fc_types.specs.FirstDeclared.{Numbered}
use Rattle.fc_types.specs.TableViews.{HasAxioms, HasConstructors, HasDefinitions, HasTypes}
use Rattle.fc_types.specs.declared.keys.WordKey.{WordKey}
use Rattle.fc_types.specs.declared.tables.DeclaredAxiom.{DeclaredAxiom}
use Rattle.fc_types.specs.declared.tables.DeclaredCon.{DeclaredCon}
use denote.Builtin.{u32}
use denote.Ref.{Bor}

abbrev pub decl_code : Coded (Decl ℕ Ref)
decl_code = (decl.the_row u32 reference.the_row).coded

abbrev pub ty_code : Coded (Ty ℕ)
ty_code = (ty.the_row u32).coded

-- a constructor is told apart as the tuple of its fields
abbrev pub numbered_code : Coded Numbered
numbered_code =
    code_by (((Word × Word) × List Param) × (ℕ × ConDecl ℕ))
    (coded× (coded× (coded× (coded_list coded_ℕ) (coded_list coded_ℕ)) (coded_list param.the_row.coded)) (coded× coded_ℕ (con_decl.the_row u32).coded))
    (λ n. (((n.module, n.data_word), n.params), (n.number, n.con))) (λ p. record { «module» = p.0.0.0; data_word = p.0.0.1; params = p.0.1; number = p.1.0; con = p.1.1 }) (λ _. refl)

-- having them is a fact
pub has_types_prop : {S : Type 0} (ms : List (Module ℕ Ref)) (table : IndexMap WordKey (Bor (Decl ℕ Ref)) S) → IsProp (HasTypes ms table)
has_types_prop ms table = Π_prop (λ m. Π_prop (λ w. Coded-set (coded_option decl_code) _ _))

pub has_axioms_prop : {S : Type 0} (ms : List (Module ℕ Ref)) (table : IndexMap WordKey DeclaredAxiom S) → IsProp (HasAxioms ms table)
has_axioms_prop ms table = Π_prop (λ m. Π_prop (λ w. Coded-set (coded_option (coded× (coded_list coded_ℕ) decl_code)) _ _))

pub has_definitions_prop : {S : Type 0} (ms : List (Module ℕ Ref)) (table : IndexMap WordKey (Bor (Ty ℕ)) S) → IsProp (HasDefinitions ms table)
has_definitions_prop ms table = Π_prop (λ m. Π_prop (λ w. Coded-set (coded_option ty_code) _ _))

pub has_constructors_prop : {S : Type 0} (ms : List (Module ℕ Ref)) (table : IndexMap WordKey DeclaredCon S) → IsProp (HasConstructors ms table)
has_constructors_prop ms table = Π_prop (λ m. Π_prop (λ w. Coded-set (coded_option numbered_code) _ _))
