use Rattle.std.proofs.Common.{rules}
use Rattle.fc_model.specs.Coercing.{side_ends}
use Rattle.fc_model.specs.Nameless.{NTy}
use Rattle.fc_model.specs.Says.{Refuses}
use Rattle.fc_type_scope.specs.EndViews.{shown_ends}
use Rattle.fc_type_scope.specs.Scopes.{scope_in}
use Rattle.fc_type_table.specs.TypeTables.{modules_in}
use Rattle.fc_coercion_forms.proofs.Splits.{side-refused}
use Rattle.fc_coercion_forms.proofs.sides.heads.Goals as goal

pub returns-in_err-both-clause-says : goal.returns-in_err-both-clause-says
returns-in_err-both-clause-says c =
    let ks = scope_in c.args.scope.now in
    let side = λ (p : NTy × NTy). p.0 in
    let fault : Refuses c.in_err-both.field-0.0 (side_ends (modules_in c.args.types.now) ks side (shown_ends c.args.types.now ks c.args.ends)) =
    side-refused (modules_in c.args.types.now) ks side (shown_ends c.args.types.now ks c.args.ends) c.in_err-both.field-0.0 c.in_err-both.ensures.says in
    search rules
