use Rattle.std.proofs.Common.{ap, sym, ◌∙◌}
use Rattle.fc_types.specs.Tables.{has_word}
use Rattle.fc_types.proofs.Building.{AreTables-added, AreTables-again}
use Rattle.fc_types.proofs.tables.add_first.Goals as goal

pub returns-then-contains : goal.returns-then-contains
returns-then-contains c = λ ms are.
    let t = c.args.tables.now in
    AreTables-again ms c.args.m.now t (sym (are.words c.args.m.now.name) ∙ ap (has_word t.words) (sym c.as_str.ensures) ∙ sym c.if-contains.ensures) are

pub returns-else-contains : goal.returns-else-contains
returns-else-contains c =
    let t = c.args.tables.now in
    AreTables-added c.add_module.result c.args.m.now t c.add_module.new.tables (ap (has_word t.words) (sym c.as_str.ensures) ∙ sym c.if-contains.ensures) c.add_module.ensures
