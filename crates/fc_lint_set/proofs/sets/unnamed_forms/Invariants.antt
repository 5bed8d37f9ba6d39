use Rattle.std.proofs.Common.{◌≡◌, ◌++◌, drop, length, map, take}
use Rattle.fc_syntax.specs.Hints.{module_hints}
use Rattle.fc_model.specs.Linting.{nameless_forms}
use Rattle.fc_model.specs.NamelessView.{nmodules_of}
use Rattle.fc_plan.specs.Modules.{behind}
use Rattle.fc_lint_set.specs.Sets.{hints_kept}
use Rattle.fc_lint_set.proofs.sets.unnamed_forms.Given as goal

-- the forms that are found, before those of what is still to come, are those of the whole, and keep the words of their modules
abbrev pub invariant-loop-m : goal.invariant-loop-m
invariant-loop-m l = record {
  forms : nmodules_of l.forms.items ++ nameless_forms (behind (drop l.m-index l.modules)) ≡ nameless_forms (behind l.modules);
  count : length l.forms.items ≡ l.m-index;
  words : map hints_kept l.forms.items ≡ map module_hints (behind (take l.m-index l.modules));
}
