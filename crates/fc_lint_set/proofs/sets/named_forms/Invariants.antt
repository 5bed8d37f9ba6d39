use Rattle.std.proofs.Common.{◌≡◌, List, [], ◌++◌, drop, map, take}
use Rattle.fc_syntax.specs.Hints.{module_hints}
use Rattle.fc_model.specs.Nameless.{NModule}
use Rattle.fc_model.specs.NamelessView.{nmodules_of}
use Rattle.fc_model.specs.OfferViews.{HaveOffers}
use Rattle.fc_lint_set.specs.Sets.{ResolveBehind, hints_kept}
use Rattle.fc_plan.specs.Modules.{behind}
use Rattle.fc_lint_set.proofs.sets.named_forms.Given as goal

-- what is still to come, behind the forms that are found, is the whole; the forms keep the words of their modules
abbrev pub invariant-loop-m : goal.invariant-loop-m
invariant-loop-m l = record {
  whole : (ks : List NModule) → ResolveBehind (nmodules_of l.forms.items) (behind (drop l.m-index l.modules)) ks → ResolveBehind [] (behind l.modules) (nmodules_of l.forms.items ++ ks);
  offers : HaveOffers (nmodules_of l.forms.items) l.offers;
  words : map hints_kept l.forms.items ≡ map module_hints (behind (take l.m-index l.modules));
}
