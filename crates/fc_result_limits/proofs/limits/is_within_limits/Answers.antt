use Rattle.fc_syntax.specs.View.{decls_of}
use Rattle.fc_result_limits.proofs.Within.{where_deep, where_shallow}
use Rattle.fc_result_limits.proofs.limits.is_within_limits.Goals as goal

pub returns-then-measures-limits : goal.returns-then-measures-limits
returns-then-measures-limits c =
    where_shallow c.args.module.now.name c.args.module.now.imports c.args.module.now.exports c.args.module.now.hidden (decls_of c.args.module.now.decls) c.standard-limits.result
    c.in_ok-measures.measures.depth c.in_ok-measures.measures.size c.standard-limits.ensures c.in_ok-measures.ensures.depth c.in_ok-measures.ensures.size c.if-measures-limits.true

pub returns-else-measures-limits : goal.returns-else-measures-limits
returns-else-measures-limits c =
    where_deep c.args.module.now.name c.args.module.now.imports c.args.module.now.exports c.args.module.now.hidden (decls_of c.args.module.now.decls) c.standard-limits.result
    c.in_ok-measures.measures.depth c.in_ok-measures.measures.size c.standard-limits.ensures c.in_ok-measures.ensures.depth c.in_ok-measures.ensures.size c.if-measures-limits.false
