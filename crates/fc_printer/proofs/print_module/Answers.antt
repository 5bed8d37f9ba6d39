use Rattle.std.proofs.Common.{◌≡◌, subst, sym, arith}
use Rattle.std.proofs.lemmas.Grind.{common_steps}
use Rattle.fc_syntax.specs.View.{module_of}
use Rattle.fc_model.specs.Texts.{Spells}
use Rattle.fc_model.specs.Canonical.{canonical}
use Rattle.fc_printer.proofs.ReadBack.{canonical_spells}
use Rattle.fc_printer.proofs.print_module.Goals as goal

pub returns-clause-reads_back : goal.returns-clause-reads_back
returns-clause-reads_back c =
    let e : c.extend_from_slice-2.new.self.items ≡ canonical (module_of c.args.m.now) = grind (arith, common_steps) in
    λ formed. subst (λ v. Spells v (module_of c.args.m.now)) (sym e) (canonical_spells (module_of c.args.m.now) formed)
