use Rattle.std.proofs.Common.{◌+◌, ◌<◌, length, get_or, drop, ap, ◌∙◌, arith}
use Rattle.fc_syntax.specs.declared.ty.Role.TheVariants.{P, R}
use Rattle.fc_model.specs.NamelessView.{nty_of, ntys_of}
use Rattle.fc_model.specs.Needs.{least, need_in, need_in_fields}
use Rattle.fc_model.proofs.Lists.{drop_item}
use Rattle.fc_types.specs.ModuleViews.{modules_of}
use Rattle.fc_roles.proofs.Roles.{a_part_more}
use Rattle.fc_roles.proofs.constructors.note_fields.Goals as goal

pub loop-field-preserved : goal.loop-field-preserved
loop-field-preserved c = (
  c.note_type.ensures.length ∙ c.loop-field.invariant.0,
  λ i low.
      let ms = modules_of c.args.declared.now in
      let j = i + c.args.binders in
      let now = get_or c.loop-field.needs i P in
      let before : i < length c.loop-field.needs = omega (arith, c.note_type.ensures.length) in
      a_part_more _ now _ (need_in ms R j (nty_of c.field-item.result)) (need_in_fields ms j (ntys_of (drop (c.loop-field.field-index + 1) c.args.fields.now)))
      (c.loop-field.invariant.1 i before ∙ ap (λ ts. least now (need_in_fields ms j (ntys_of ts))) (drop_item c.args.fields.now c.loop-field.field-index c.field-item.result c.loop-field-test.true c.field-item.is))
      (c.in_ok-note_type.ensures.noted i low),
)
