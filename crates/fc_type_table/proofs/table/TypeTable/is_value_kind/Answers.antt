use Rattle.std.proofs.Common.{subst}
use Rattle.fc_type_table.specs.TreeKinds.{IsKind}
use Rattle.fc_type_table.proofs.Pieces.{shown_as}
use Rattle.fc_type_table.proofs.table.TypeTable.is_value_kind.Goals as goal

pub returns-in-Bound : goal.returns-in-Bound
returns-in-Bound c = absurd (subst IsKind (shown_as c.args.self.now.nodes.keys c.args.kind.0 c.in-Bound.is c.piece.ensures.shown) c.requires.is_kind)

pub returns-in-Free : goal.returns-in-Free
returns-in-Free c = absurd (subst IsKind (shown_as c.args.self.now.nodes.keys c.args.kind.0 c.in-Free.is c.piece.ensures.shown) c.requires.is_kind)

pub returns-in-Con : goal.returns-in-Con
returns-in-Con c = absurd (subst IsKind (shown_as c.args.self.now.nodes.keys c.args.kind.0 c.in-Con.is c.piece.ensures.shown) c.requires.is_kind)

pub returns-in-IntHash : goal.returns-in-IntHash
returns-in-IntHash c = absurd (subst IsKind (shown_as c.args.self.now.nodes.keys c.args.kind.0 c.in-IntHash.is c.piece.ensures.shown) c.requires.is_kind)

pub returns-in-App : goal.returns-in-App
returns-in-App c = absurd (subst IsKind (shown_as c.args.self.now.nodes.keys c.args.kind.0 c.in-App.is c.piece.ensures.shown) c.requires.is_kind)

pub returns-in-Fun : goal.returns-in-Fun
returns-in-Fun c = absurd (subst IsKind (shown_as c.args.self.now.nodes.keys c.args.kind.0 c.in-Fun.is c.piece.ensures.shown) c.requires.is_kind)

pub returns-in-Forall : goal.returns-in-Forall
returns-in-Forall c = absurd (subst IsKind (shown_as c.args.self.now.nodes.keys c.args.kind.0 c.in-Forall.is c.piece.ensures.shown) c.requires.is_kind)

pub returns-in-CoForall : goal.returns-in-CoForall
returns-in-CoForall c = absurd (subst IsKind (shown_as c.args.self.now.nodes.keys c.args.kind.0 c.in-CoForall.is c.piece.ensures.shown) c.requires.is_kind)
