use Rattle.std.proofs.Common.{◌≡◌, ◌∙◌, true, false, sym, refl, arith}
use Rattle.fc_model.specs.Kinding.{same_kind}
use Rattle.fc_type_table.specs.Nodes.{kind_at}
use Rattle.fc_type_table.proofs.KindNumbers.{arrow_parts}
use Rattle.fc_type_table.proofs.Pieces.{parts_as, shown_as}
use Rattle.fc_type_table.proofs.table.TypeTable.kind_applied.Goals as goal

pub returns-then-same_kind-clause-is_kind : goal.returns-then-same_kind-clause-is_kind
returns-then-same_kind-clause-is_kind c =
    let parts = parts_as c.args.head.0 c.in-Arrow.is c.piece.ensures.parts in
    let within = c.requires.head.within in
    let p = arrow_parts c.args.self.now.nodes.keys c.args.head.0 c.in-Arrow.from.0 c.in-Arrow.to.0 c.requires.head (shown_as c.args.self.now.nodes.keys c.args.head.0 c.in-Arrow.is c.piece.ensures.shown) (omega arith) (omega arith) in
    p.1

pub returns-then-same_kind-clause-view : goal.returns-then-same_kind-clause-view
returns-then-same_kind-clause-view c =
    let parts = parts_as c.args.head.0 c.in-Arrow.is c.piece.ensures.parts in
    let within = c.requires.head.within in
    let p = arrow_parts c.args.self.now.nodes.keys c.args.head.0 c.in-Arrow.from.0 c.in-Arrow.to.0 c.requires.head (shown_as c.args.self.now.nodes.keys c.args.head.0 c.in-Arrow.is c.piece.ensures.shown) (omega arith) (omega arith) in
    let e : same_kind (kind_at c.args.self.now.nodes.keys c.in-Arrow.from.0) (kind_at c.args.self.now.nodes.keys c.args.argument.0) ≡ true = sym (c.same_kind.ensures p.0 c.requires.argument) ∙ c.if-same_kind.true in
    rw (p.2, e) refl

pub returns-else-same_kind-clause-view : goal.returns-else-same_kind-clause-view
returns-else-same_kind-clause-view c =
    let parts = parts_as c.args.head.0 c.in-Arrow.is c.piece.ensures.parts in
    let within = c.requires.head.within in
    let p = arrow_parts c.args.self.now.nodes.keys c.args.head.0 c.in-Arrow.from.0 c.in-Arrow.to.0 c.requires.head (shown_as c.args.self.now.nodes.keys c.args.head.0 c.in-Arrow.is c.piece.ensures.shown) (omega arith) (omega arith) in
    let e : same_kind (kind_at c.args.self.now.nodes.keys c.in-Arrow.from.0) (kind_at c.args.self.now.nodes.keys c.args.argument.0) ≡ false = sym (c.same_kind.ensures p.0 c.requires.argument) ∙ c.if-same_kind.false in
    rw (p.2, e) refl
