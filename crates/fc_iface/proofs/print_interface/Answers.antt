use Rattle.std.proofs.Common.{◌≡◌, subst, sym, arith}
use Rattle.std.proofs.lemmas.Grind.{common_steps}
use Rattle.fc_model.specs.Texts.{SpellsInterface}
use Rattle.fc_model.specs.InterfaceTexts.{interface_text}
use Rattle.fc_lattice.specs.View.{as_interface}
use Rattle.fc_iface.proofs.ReadInterface.{interface_spells}
use Rattle.fc_iface.proofs.print_interface.Goals as goal

pub returns-clause-reads_back : goal.returns-clause-reads_back
returns-clause-reads_back c =
    let e : c.extend_from_slice-2.new.self.items ≡ interface_text (as_interface c.args.i.now) = grind (arith, common_steps) in
    λ formed. subst (λ v. SpellsInterface v (as_interface c.args.i.now)) (sym e) (interface_spells (as_interface c.args.i.now) formed)
