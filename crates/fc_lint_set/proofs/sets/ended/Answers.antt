use Rattle.std.proofs.Common.{◌≡◌, length, rules}
use Rattle.fc_model.specs.NamelessView.{nmodules_of}
use Rattle.fc_lint_set.proofs.Told.{end_told}
use Rattle.fc_lint_set.proofs.sets.ended.Goals as goal

pub returns-in-Some-clause-says : goal.returns-in-Some-clause-says
returns-in-Some-clause-says c =
    let last : c.len.result ≡ length c.args.forms.modules.items = search rules in
    end_told (nmodules_of c.args.forms.modules.items) c.args.modules.now _ c.len.result c.index-modules-len.result c.args.forms.flaw c.in-Some.flaw c.in_module.result c.index-modules-len.is
    c.requires.ends c.in-Some.is last c.in_module.ensures
