use Rattle.std.proofs.Common.{arith}
use Rattle.fc_type_table.specs.InScope.{numbered_of}
use Rattle.fc_type_table.proofs.KindsInScope.{AreNumbered-grows, AreNumbered-one, IsNumbered-tree}
use Rattle.fc_type_table.proofs.Numbers.{Extends-further}
use Rattle.fc_type_table.proofs.table.TypeTable.+read_part.Goals as goal

pub read_part-requires-in-App : goal.read_part-requires-in-App
read_part-requires-in-App t c =
    (omega arith, (omega (arith, c.requires.nested), AreNumbered-grows c.args.self.now.nodes.keys c.read_part.new.self.nodes.keys (numbered_of c.args.kinds.now) c.in_ok-head-in-App.ensures.extends c.requires.numbered))

pub read_part-requires-in-Fun-2 : goal.read_part-requires-in-Fun-2
read_part-requires-in-Fun-2 t c =
    (omega arith, (omega (arith, c.requires.nested), AreNumbered-grows c.args.self.now.nodes.keys c.read_part-in-Fun.new.self.nodes.keys (numbered_of c.args.kinds.now) c.in_ok-from-in-Fun.ensures.extends c.requires.numbered))

pub read_part-requires-in-Forall : goal.read_part-requires-in-Forall
read_part-requires-in-Forall t c =
    let new = c.put_kind.new.self.nodes.keys in
    let outer = AreNumbered-grows c.args.self.now.nodes.keys new (numbered_of c.args.kinds.now) c.in_ok-kind-in-Forall.ensures.extends c.requires.numbered in
    (omega arith, (omega (arith, c.requires.nested), AreNumbered-one new _ (numbered_of c.args.kinds.now) (IsNumbered-tree new _ c.in_ok-kind-in-Forall.ensures.within c.in_ok-kind-in-Forall.ensures.shown) outer))

pub read_part-requires-in-CoForall-2 : goal.read_part-requires-in-CoForall-2
read_part-requires-in-CoForall-2 t c =
    (omega arith, (omega (arith, c.requires.nested), AreNumbered-grows c.args.self.now.nodes.keys c.read_part-in-CoForall.new.self.nodes.keys (numbered_of c.args.kinds.now) c.in_ok-left-in-CoForall.ensures.extends c.requires.numbered))

pub read_part-requires-in-CoForall-3 : goal.read_part-requires-in-CoForall-3
read_part-requires-in-CoForall-3 t c =
    let old = c.args.self.now.nodes.keys in
    let left = c.read_part-in-CoForall.new.self.nodes.keys in
    let right = c.read_part-in-CoForall-2.new.self.nodes.keys in
    (omega arith, (omega (arith, c.requires.nested), AreNumbered-grows old right (numbered_of c.args.kinds.now) (Extends-further old left right c.in_ok-left-in-CoForall.ensures.extends c.in_ok-right-in-CoForall.ensures.extends) c.requires.numbered))
