use Rattle.fc_case_known.proofs.Parts.{none_behind, some_behind}
use Rattle.fc_case_known.proofs.arguments.behind_parameters.Goals as goal

pub returns-then-params-args : goal.returns-then-params-args
returns-then-params-args c = none_behind c.args.params.now c.args.args.now c.if-params-args.true

pub returns-else-params-args : goal.returns-else-params-args
returns-else-params-args c = some_behind c.args.params.now c.args.args.now
