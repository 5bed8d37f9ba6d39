use Rattle.std.proofs.Common.{◌≡◌, ◌++◌, drop}
use Rattle.fc_model.specs.NamelessView.{nargs_of}
use Rattle.fc_rows.specs.Changing.{made}
use Rattle.fc_type_scope.specs.Scopes.{scope_in}
use Rattle.fc_type_table.specs.TypeTables.{Grows, IsType, shown}
use Rattle.fc_lets_for_terms.specs.Asking.{AreAsked, asked_all, asked_terms}
use Rattle.fc_lets_for_terms.proofs.asking.terms_asked.Given as goal

-- what is still to come, behind what is found so far, answers as the whole
abbrev pub invariant-loop-argument : goal.invariant-loop-argument
invariant-loop-argument l = record {
  grows : Grows l.initial.types l.types;
  whole_in : IsType l.types (scope_in l.scope) l.whole;
  found_in : AreAsked l.types (scope_in l.scope) l.found;
  view : asked_terms (shown l.initial.types (scope_in l.scope) l.fn.ty) (nargs_of l.args) ≡ made (λ more. asked_all l.types (scope_in l.scope) l.found ++ more) (asked_terms (shown l.types (scope_in l.scope) l.whole) (nargs_of (drop l.argument-index l.args)));
}
