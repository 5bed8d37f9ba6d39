use Rattle.std.proofs.Common.{◌≡◌, List, drop}
use Rattle.fc_syntax.specs.Tree.{Kind}
use Rattle.fc_model.specs.Coercing as words
use Rattle.fc_model.specs.NamelessView.{nparams_of}
use Rattle.fc_model.specs.Needs.{param_roles}
use Rattle.fc_type_scope.specs.EndViews.{shown_all_ends_at}
use Rattle.fc_type_table.specs.declared.node.Node.{Node}
use Rattle.fc_coercion_forms.proofs.roles.are_at_roles.Given as goal

-- what is still to come answers as the whole
abbrev pub invariant-loop-ends : goal.invariant-loop-ends
invariant-loop-ends l = (ns : List Node) (ks : List Kind) → words.are_at_roles l.role (param_roles (nparams_of l.params)) (shown_all_ends_at ns ks l.group)
    ≡ words.are_at_roles l.role (param_roles (nparams_of l.left)) (shown_all_ends_at ns ks (drop l.ends-index l.group))
