use Rattle.std.proofs.Common.{◌≡◌, subst, sym, arith}
use Rattle.std.proofs.lemmas.Grind.{common_steps}
use Rattle.fc_log.specs.Texts.{SpellsLog, log_text}
use Rattle.fc_log.proofs.ReadBack.{reads_back}
use Rattle.fc_log.proofs.printing.print.Goals as goal

pub returns-clause-reads_back : goal.returns-clause-reads_back
returns-clause-reads_back c =
    let e : c.put_entries.new.to.items ≡ log_text c.args.log.now = grind (arith, common_steps) in
    λ formed. subst (λ v. SpellsLog v c.args.log.now) (sym e) (reads_back c.args.log.now formed)
