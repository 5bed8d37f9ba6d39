-- Types of expressions look at what modules declare, and not at right sides.
use Rattle.std.proofs.Common.{sym, ◌∙◌, List}
use Rattle.fc_model.specs.Kinding.{Modules}
use Rattle.fc_model.specs.LintingRules.{def_holds, wrap_holds, data_defines_nothing, newtype_defines_nothing, family_defines_nothing, axiom_defines_nothing, DefinitionsHold, no_definitions, one_definition}
use Rattle.fc_model.specs.Nameless.{NTy, NExpr, NDecl}
use Rattle.fc_model.specs.Typing.{Context}
use Rattle.fc_model.specs.TypingRules.{HasType}
use Rattle.fc_outlines.specs.Headers.{DeclareAlike, SameHeaders}
use Rattle.fc_outlines.proofs.Alike.{kind_alike, type_alike}

-- the same declared there is declared here
pub turned_alike : (ms ns : Modules) → DeclareAlike ms ns → DeclareAlike ns ms
turned_alike ms ns alike = record {
  types = λ o w. sym (alike.types o w);
  constructors = λ o w. sym (alike.constructors o w);
  axioms = λ o w. sym (alike.axioms o w);
}

pub turned : (ms ns : Modules) → SameHeaders ms ns → SameHeaders ns ms
turned ms ns same = record { alike = turned_alike ms ns same.alike; values = λ n. sym (same.values n) }

module _ (ms ns : Modules) (same : SameHeaders ms ns) where
  pub type_there : {c : Context} {e : NExpr} {t : NTy} → HasType ms c e t → HasType ns c e t
  type_there h = type_alike ms ns same.alike h (λ n among t v. sym (same.values n) ∙ v)

  pub definitions_there : {ds : List NDecl} → DefinitionsHold ms ds → DefinitionsHold ns ds
  definitions_there no_definitions = no_definitions
  definitions_there (one_definition (def_holds h e) rest) = one_definition (def_holds (kind_alike ms ns same.alike h) (type_there e)) (definitions_there rest)
  definitions_there (one_definition (wrap_holds h e) rest) = one_definition (wrap_holds (kind_alike ms ns same.alike h) (type_there e)) (definitions_there rest)
  definitions_there (one_definition data_defines_nothing rest) = one_definition data_defines_nothing (definitions_there rest)
  definitions_there (one_definition newtype_defines_nothing rest) = one_definition newtype_defines_nothing (definitions_there rest)
  definitions_there (one_definition family_defines_nothing rest) = one_definition family_defines_nothing (definitions_there rest)
  definitions_there (one_definition axiom_defines_nothing rest) = one_definition axiom_defines_nothing (definitions_there rest)
