use Rattle.std.proofs.Common.{◌∙◌}
use Rattle.fc_model.specs.NamelessView.{nargs_of, nbinders_of}
use Rattle.fc_rows.specs.Surroundings.{as_arguments}
use Rattle.fc_lets_for_terms.specs.Naming.{before}
use Rattle.fc_case_known.proofs.Parts.{binders_end, binders_step, left_step}
use Rattle.fc_case_known.proofs.found.add_binders.Goals as goal

pub loop-binder-preserved : goal.loop-binder-preserved
loop-binder-preserved c =
    let bs = c.args.binders.now in
    let i = c.loop-binder.binder-index in
    let x = c.binder-item.result in
    let left = c.behind-left.ensures ∙ left_step bs i x c.loop-binder-test.true c.binder-item.is c.loop-binder.left c.loop-binder.invariant.left in
    record {
      left = left;
      so_far = binders_step bs i x c.loop-binder-test.true c.binder-item.is c.loop-binder.args c.push.new.self c.argument_of.result c.behind-left.result (before (nargs_of c.args.args.now) (as_arguments (nbinders_of bs)))
          c.in_ok-push.ensures.ok left c.argument_of.ensures c.loop-binder.invariant.so_far;
    }

pub returns : goal.returns
returns c = binders_end c.args.binders.now c.loop-binder.args c.loop-binder.binder-index (before (nargs_of c.args.args.now) (as_arguments (nbinders_of c.args.binders.now))) c.loop-binder-test.false c.loop-binder.invariant.so_far
