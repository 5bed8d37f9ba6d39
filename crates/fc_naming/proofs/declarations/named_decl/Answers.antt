use Rattle.std.proofs.Common.{rules}
use Rattle.fc_naming.proofs.NamedDeclarations.{named_data, named_def, named_equation, named_family, named_newtype, named_wrap}
use Rattle.fc_naming.proofs.declarations.named_decl.Goals as goal

pub returns-in_ok-name-in-DataType : goal.returns-in_ok-name-in-DataType
returns-in_ok-name-in-DataType c = named_data c.in_ok-own-in-DataType.ensures c.in_ok-cons-in-DataType.ensures (search rules)

pub returns-in_ok-con-in-NewType : goal.returns-in_ok-con-in-NewType
returns-in_ok-con-in-NewType c = named_newtype c.in_ok-own-in-NewType.ensures c.in_ok-t-in-NewType.ensures (search rules)

pub returns-in_ok-kind-in-Family : goal.returns-in_ok-kind-in-Family
returns-in_ok-kind-in-Family c = named_family c.in_ok-own-in-Family.ensures (search rules)

pub returns-in_ok-name-in-Axiom : goal.returns-in_ok-name-in-Axiom
returns-in_ok-name-in-Axiom c = named_equation c.in_ok-own-in-Axiom.ensures c.in_ok-t-in-Axiom.ensures c.in_ok-u-in-Axiom.ensures (search rules)

pub returns-in_ok-name-in-Def : goal.returns-in_ok-name-in-Def
returns-in_ok-name-in-Def c = named_def c.in_ok-t-in-Def.ensures c.in_ok-e-in-Def.ensures (search rules)

pub returns-in_ok-name-in-Wrap : goal.returns-in_ok-name-in-Wrap
returns-in_ok-name-in-Wrap c = named_wrap c.in_ok-t-in-Wrap.ensures c.in_ok-e-in-Wrap.ensures (search rules)
