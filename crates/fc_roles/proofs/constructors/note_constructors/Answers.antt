use Rattle.std.proofs.Common.{◌+◌, ◌<◌, length, get_or, drop, ap, ◌∙◌, arith}
use Rattle.fc_syntax.specs.declared.ty.Role.TheVariants.{P}
use Rattle.fc_model.specs.NamelessView.{nbinders_of, ncons_of, ntys_of}
use Rattle.fc_model.specs.Needs.{least, need_in_con, need_in_cons}
use Rattle.fc_model.proofs.Lists.{drop_item}
use Rattle.fc_types.specs.ModuleViews.{modules_of}
use Rattle.fc_roles.proofs.Roles.{a_part_more}
use Rattle.fc_roles.proofs.constructors.note_constructors.Goals as goal

pub loop-con-preserved : goal.loop-con-preserved
loop-con-preserved c = (
  c.note_constructor.ensures.length ∙ c.loop-con.invariant.0,
  λ i low.
      let ms = modules_of c.args.declared.now in
      let now = get_or c.loop-con.needs i P in
      let con = c.con-item.result in
      let before : i < length c.loop-con.needs = omega (arith, c.note_constructor.ensures.length) in
      a_part_more _ now _ (need_in_con ms i (nbinders_of con.binders) (ntys_of con.fields)) (need_in_cons ms i (ncons_of (drop (c.loop-con.con-index + 1) c.args.cons.now)))
      (c.loop-con.invariant.1 i before ∙ ap (λ cs. least now (need_in_cons ms i (ncons_of cs))) (drop_item c.args.cons.now c.loop-con.con-index con c.loop-con-test.true c.con-item.is))
      (c.in_ok-note_constructor.ensures.noted i low),
)
