use Rattle.std.proofs.Common.{arith}
use Rattle.fc_reaching.specs.DefinitionsView.{number_by}
use Rattle.fc_reaching.specs.Numbering.{has_mark}
use Rattle.fc_reaching.proofs.Listed.{words_more}
use Rattle.fc_reaching.proofs.reaching.words_found.Goals as goal

pub loop-decl-preserved : goal.loop-decl-preserved
loop-decl-preserved c =
    words_more (has_mark (number_by c.args.definitions.now) c.args.marks.now) c.args.decls.now c.loop-decl.decl-index c.decl-item.result _ _ (omega arith) c.decl-item.is c.loop-decl.invariant c.in_ok-add_decl.ensures
