use Rattle.std.proofs.Common.{rules}
use Rattle.fc_syntax.specs.View.{kind_of}
use Rattle.fc_naming.proofs.Groups.{worded_coercion, worded_type, worded_value}
use Rattle.fc_naming.proofs.binders.worded.Goals as goal

pub returns-in_ok-t-in-Value : goal.returns-in_ok-t-in-Value
returns-in_ok-t-in-Value c = worded_value c.in-Value.field-0 (search rules) c.in_ok-t-in-Value.ensures

pub returns-in_ok-kind-in-OfType : goal.returns-in_ok-kind-in-OfType
returns-in_ok-kind-in-OfType c = worded_type c.in-OfType.field-0 {k = kind_of c.in_ok-kind-in-OfType.kind} (search rules)

pub returns-in_ok-u-in-OfCo : goal.returns-in_ok-u-in-OfCo
returns-in_ok-u-in-OfCo c = worded_coercion c.in-OfCo.field-0 {r = c.in-OfCo.role} (search rules) c.in_ok-t-in-OfCo.ensures c.in_ok-u-in-OfCo.ensures
