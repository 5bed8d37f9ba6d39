use Rattle.std.proofs.Common.{◌∙◌, ◌<◌, Result, ap, arith, length}
use Rattle.fc_syntax.specs.Tree.{Module}
use Rattle.fc_model.specs.Faulting.{F}
use Rattle.fc_model.specs.Linting.{Done}
use Rattle.fc_lint_set.proofs.Told.{form_holds, form_told, form_within}
use Rattle.fc_lint_set.proofs.sets.lint_forms.Goals as goal

pub bounds-modules-number : goal.bounds-modules-number
bounds-modules-number c = form_within c.args.forms.now c.args.modules.now c.loop-number.number c.requires.forms (omega arith)

pub returns-in-Err : goal.returns-in-Err
returns-in-Err c =
    let low : c.loop-number.number < length c.args.forms.now = omega arith in
    form_told c.args.forms.now c.args.modules.now c.loop-number.number c.index-forms-number.result c.index-modules-number.result _ _ c.in-Err.flawed c.in_module.result c.index-forms-number.is
    c.index-modules-number.is c.requires.forms c.loop-number.invariant.names c.requires.against c.loop-number.invariant.so_far low c.in-Err.ensures.says c.in_module.ensures

pub loop-number-preserved : goal.loop-number-preserved
loop-number-preserved c =
    let low : c.loop-number.number < length c.args.forms.now = omega arith in
    record {
      read = c.in-Ok.ensures.read;
      modules = c.in-Ok.ensures.modules;
      names = λ i m h. ap (λ (f : Module → Result Done F). f m) c.in-Ok.ensures.naming ∙ c.loop-number.invariant.names i m h;
      so_far = form_holds c.args.forms.now c.args.modules.now c.loop-number.number c.index-forms-number.result c.index-modules-number.result _ _ c.index-forms-number.is c.index-modules-number.is
          c.requires.forms c.loop-number.invariant.names c.requires.against c.loop-number.invariant.so_far low c.in-Ok.ensures.says;
    }
