use Rattle.std.proofs.Common.{rules, ◌≡◌, Ok, Err, map, refl, slice_get, subst}
use Rattle.std.specs.List.{filter_map}
use Rattle.fc_syntax.specs.View.{module_of}
use Rattle.fc_model.specs.Linting.{In, SetLints, done, nameless_forms, set_judged}
use Rattle.fc_model.specs.NamelessView.{nmodules_of}
use Rattle.fc_model.specs.Planning.{build_order}
use Rattle.fc_model.specs.Says.{fault_of}
use Rattle.fc_lint_set.specs.Sets.{SetRefuses}
use Rattle.fc_build.proofs.JudgeLemmas.{unlinted_as}
use Rattle.fc_replayed_sets.proofs.Ordered.{picked}
use Rattle.fc_build.proofs.judge.judge_in_order.Goals as goal

pub returns-in-Ok-clause-judged : goal.returns-in-Ok-clause-judged
returns-in-Ok-clause-judged c =
    let ms = map module_of c.args.modules.items in
    let says : set_judged (filter_map (slice_get ms) c.args.order) ≡ Ok done = search rules in
    (refl, c.requires.planned, subst SetLints (picked ms c.args.order (build_order ms) c.requires.order) says)

pub returns-in-Ok-clause-ready : goal.returns-in-Ok-clause-ready
returns-in-Ok-clause-ready c =
    let ms = map module_of c.args.modules.items in
    let says : set_judged (filter_map (slice_get ms) c.args.order) ≡ Ok done = search rules in
    let forms : nmodules_of c.in-Ok.forms.items ≡ nameless_forms (filter_map (slice_get ms) c.args.order) = search rules in
    let in_order = picked ms c.args.order (build_order ms) c.requires.order in
    record {
      ready = record { formed = c.requires.formed; within = c.requires.within; lints = subst SetLints in_order says };
      order = c.requires.order;
      forms = subst (λ k. nmodules_of c.in-Ok.forms.items ≡ nameless_forms k) in_order forms;
    }

pub returns-in-Err-Flaw-clause-judged : goal.returns-in-Err-Flaw-clause-judged
returns-in-Err-Flaw-clause-judged c =
    let ms = map module_of c.args.modules.items in
    let refused : SetRefuses c.in-Err-Flaw.field-0 (set_judged (filter_map (slice_get ms) c.args.order)) = search rules in
    let says = subst (λ e. SetRefuses e (set_judged (filter_map (slice_get ms) c.args.order))) c.in-Err-Flaw.field-0-is refused in
    unlinted_as ms c.in-Err-Flaw.name c.in-Err-Flaw.flaw c.of_module.result c.refused.result c.requires.planned
    (subst (λ k. set_judged k ≡ Err (In c.in-Err-Flaw.name (fault_of c.in-Err-Flaw.flaw))) (picked ms c.args.order (build_order ms) c.requires.order) says) c.of_module.ensures c.refused.ensures.told c.refused.ensures.untold
