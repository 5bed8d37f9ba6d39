use Rattle.std.proofs.Common.{◌≡◌, refl, Some, None}
use Rattle.fc_model.specs.NamelessView.{nmodules_of}
use Rattle.fc_definition_places.specs.Places.{at}
use Rattle.fc_definition_places.proofs.Found.{found_known}
use Rattle.fc_definition_places.proofs.places.DefinitionPlaces.right_side.Goals as goal

pub returns-in-None-get : goal.returns-in-None-get
returns-in-None-get c =
    let p = c.args.self.now in
    let none : None ≡ at p.table c.in-Some.word c.args.name.now.text = rw (← c.as_str.ensures, ← c.as_str-in-Some.ensures) c.in-None-get.ensures.value in
    rw c.in-Some.is (found_known (nmodules_of c.args.modules.now) p c.in-Some.word c.args.name.now.text None None c.requires none refl)

pub returns-in-Some-get : goal.returns-in-Some-get
returns-in-Some-get c =
    let p = c.args.self.now in
    let there : Some c.in-Some-get.place.now ≡ at p.table c.in-Some.word c.args.name.now.text = rw (← c.as_str.ensures, ← c.as_str-in-Some.ensures) c.in-Some-get.ensures.value in
    rw c.in-Some.is (found_known (nmodules_of c.args.modules.now) p c.in-Some.word c.args.name.now.text (Some c.in-Some-get.place.now) _ c.requires there c.right_at.ensures)
