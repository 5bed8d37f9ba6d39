use Rattle.std.proofs.Common.{rules}
use Rattle.fc_syntax.proofs.View.{view_rules}
use Rattle.fc_model.specs.NamelessView.{nexpr_of}
use Rattle.fc_commute.proofs.Rows.{no_lets_around}
use Rattle.fc_commute.proofs.outward.+is_value_behind_lets.Goals as goal

pub returns-in_default : goal.returns-in_default
returns-in_default t c = no_lets_around c.is_value.result (nexpr_of c.args.e.now) (search (rules, view_rules)) c.is_value.ensures
