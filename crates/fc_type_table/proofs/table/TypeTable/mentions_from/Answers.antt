use Rattle.std.proofs.Common.{◌≤◌, length, arith}
use borrow.Author.Tests.{ltb-true, ltb-false}
use Rattle.fc_type_table.specs.Nodes.{tree_at}
use Rattle.fc_type_table.specs.Trees.{level_end}
use Rattle.fc_type_table.proofs.Numbers.{IsTypeAt-stronger, past-mentions, shown_at-more}
use Rattle.fc_type_table.proofs.table.TypeTable.mentions_from.Goals as goal

pub returns-clause-kept : goal.returns-clause-kept
returns-clause-kept c = λ no bs ks long t.
    let m = c.measure.ensures in
    let low : level_end (tree_at c.args.self.now.nodes.keys c.args.id.0) ≤ length ks = omega (arith, m.levels, ltb-false c.args.level c.measure.result.levels no) in
    IsTypeAt-stronger c.args.self.now.nodes.keys bs ks c.args.id.0 low t

pub returns-clause-same : goal.returns-clause-same
returns-clause-same c = λ no bs ks long t.
    let m = c.measure.ensures in
    let low : level_end (tree_at c.args.self.now.nodes.keys c.args.id.0) ≤ length ks = omega (arith, m.levels, ltb-false c.args.level c.measure.result.levels no) in
    shown_at-more c.args.self.now.nodes.keys bs ks c.args.id.0 (IsTypeAt-stronger c.args.self.now.nodes.keys bs ks c.args.id.0 low t)

pub returns-clause-mentions : goal.returns-clause-mentions
returns-clause-mentions c = λ yes bs ks long t u e.
    let m = c.measure.ensures in
    let low : level_end (tree_at c.args.self.now.nodes.keys c.args.id.0) ≤ length ks = past-mentions c.args.self.now.nodes.keys bs ks c.args.id.0 u t e in
    absurd (omega (arith, m.levels, ltb-true c.args.level c.measure.result.levels yes))
