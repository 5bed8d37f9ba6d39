use Rattle.std.proofs.Common.{arith, ◌≡◌, [], drop, sym, ap, ◌∙◌}
use Rattle.std.proofs.lemmas.List.{drop_all}
use Rattle.fc_model.specs.NamelessView.{nmodules_of}
use Rattle.fc_definition_places.specs.Building.{has_word, place_before}
use Rattle.fc_definition_places.specs.Places.{place_at}
use Rattle.fc_definition_places.proofs.FirstPuts.{none_either}
use Rattle.fc_definition_places.proofs.building.table_of.Goals as goal

pub returns : goal.returns
returns c m w =
    let l = c.loop-number in
    let done : drop l.number c.args.modules.now ≡ [] = drop_all l.number c.args.modules.now (omega arith) in
    sym (none_either (place_at l.table m w) (has_word l.words m)) ∙ ap (λ rest. place_before l.words l.table l.number (nmodules_of rest) m w) (sym done) ∙ l.invariant m w
