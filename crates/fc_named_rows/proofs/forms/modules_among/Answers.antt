use Rattle.std.proofs.Common.{rules, ◌≡◌, ◌∙◌, ◌∷◌, [], ◌++◌, ◌+◌, drop, map, ap, sym}
use Rattle.std.proofs.lemmas.List.{map-append}
use Rattle.fc_lattice.specs.View.{as_interface}
use Rattle.fc_model.specs.NamelessView.{nmodule_of, nmodules_of}
use Rattle.fc_model.proofs.Lists.{drop_item}
use Rattle.fc_named_rows.specs.Among.{told_interface, told_interfaces}
use Rattle.fc_named_rows.proofs.FormsSoFar.{before_all, goes_on}
use Rattle.fc_named_rows.proofs.forms.modules_among.Goals as goal

pub loop-interface-preserved : goal.loop-interface-preserved
loop-interface-preserved c =
    let found = nmodules_of c.loop-interface.modules.items in
    let rest = told_interfaces (map as_interface (drop (c.loop-interface.interface-index + 1) c.args.interfaces.now)) in
    let more : nmodules_of c.add-in-loop-interface.new.modules.items ≡ found ++ nmodule_of c.in_ok-told_form.field-0 ∷ [] =
    ap nmodules_of c.in_ok-add-2.ensures ∙ map-append nmodule_of c.loop-interface.modules.items (c.in_ok-told_form.field-0 ∷ []) in
    let next = drop_item c.args.interfaces.now c.loop-interface.interface-index c.interface-item.result (search rules) c.interface-item.is in
    ap (λ ns. before_all ns rest) more
    ∙ goes_on found (nmodule_of c.in_ok-told_form.field-0) (told_interface (as_interface c.interface-item.result)) rest c.in_ok-told_form.ensures
    ∙ ap (λ is. before_all found (told_interfaces (map as_interface is))) (sym next)
    ∙ c.loop-interface.invariant
