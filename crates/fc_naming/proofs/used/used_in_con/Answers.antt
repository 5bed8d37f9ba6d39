use Rattle.std.proofs.Common.{ap, rules}
use Rattle.fc_model.specs.NamelessView.{nbinders_of, ntys_of}
use Rattle.fc_naming.proofs.ScopeUses.{fields_walked}
use Rattle.fc_naming.proofs.used.used_in_con.Goals as goal

pub returns : goal.returns
returns c =
    fields_walked c.in_ok-inside.ensures.adds (search rules) c.in_ok-inside.ensures.below c.in_ok-use_tys.ensures (ap nbinders_of c.as_slice-binders.ensures) (ap ntys_of c.as_slice-fields.ensures)
