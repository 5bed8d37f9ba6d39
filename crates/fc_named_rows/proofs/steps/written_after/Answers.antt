use Rattle.std.proofs.Common.{rules}
use Rattle.fc_model.specs.NamelessView.{nmodules_of}
use Rattle.fc_named_rows.proofs.OfTheFirst.{none_made, not_written}
use Rattle.fc_named_rows.proofs.steps.written_after.Goals as goal

pub returns-in-Err-named-clause-error : goal.returns-in-Err-named-clause-error
returns-in-Err-named-clause-error c =
    not_written c.in-Err-named.error c.args.step.now (nmodules_of c.args.modules.now) c.apply.new.modules c.index-modules-0.result (search rules) c.in-Err-named.ensures.error

pub returns-in-Ok-false-clause-none : goal.returns-in-Ok-false-clause-none
returns-in-Ok-false-clause-none c _ is = none_made c.args.step.now (nmodules_of c.args.modules.now) (c.in-Ok-false.ensures.refused (search rules) is)
