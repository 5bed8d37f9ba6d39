use Rattle.std.specs.Prelude.{◌≡◌, drop, map}
use Rattle.fc_syntax.specs.View.{module_of}
use Rattle.fc_lattice.specs.View.{as_interface}
use Rattle.fc_model.specs.NamelessView.{nmodules_of}
use Rattle.fc_named_rows.specs.Among.{modules_among, told_interfaces}
use Rattle.fc_named_rows.proofs.FormsSoFar.{before_all}
use Rattle.fc_named_rows.proofs.forms.modules_among.Given as goal

-- the forms that are found, before those of what is still to come, are those of the whole
abbrev pub invariant-loop-interface : goal.invariant-loop-interface
invariant-loop-interface l = before_all (nmodules_of l.modules.items) (told_interfaces (map as_interface (drop l.interface-index l.interfaces))) ≡ modules_among (map as_interface l.interfaces) (module_of l.m)
