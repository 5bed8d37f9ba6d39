use Rattle.std.proofs.Common.{◌∙◌, ◌-◌, get_or, sym, ap, arith}
use Rattle.fc_syntax.specs.Tree.{KArrow, KStar}
use Rattle.fc_syntax.specs.View.{kind_of}
use Rattle.fc_model.specs.Kinding.{arrows}
use Rattle.fc_type_table.proofs.KindNumbers.{IsKindAt-tree, arrow_valid, arrow_view, kind_at-tree}
use Rattle.fc_type_table.proofs.Parameters.{params_before, params_done}
use Rattle.fc_type_table.proofs.Walked.{Extends-thrice}
use Rattle.fc_type_table.proofs.table.TypeTable.kind_over_params.Goals as goal

pub loop-count-init : goal.loop-count-init
loop-count-init c =
    let k0 = c.star.new.self.nodes.keys in
    let first = c.in_ok-kind.ensures in
    record {
      in_range = omega arith;
      valid = IsKindAt-tree k0 c.in_ok-kind.kind.0 KStar first.within first.shown;
      so_far = kind_at-tree k0 c.in_ok-kind.kind.0 KStar first.shown ∙ ap (λ ks. arrows ks KStar) (sym (params_done c.args.params.now));
      extends = first.extends;
      modules = first.modules;
    }

pub loop-count-preserved : goal.loop-count-preserved
loop-count-preserved c =
    let i = c.loop-count.invariant in
    let k0 = c.loop-count.self.nodes.keys in
    let k1 = c.put_kind.new.self.nodes.keys in
    let k2 = c.arrow.new.self.nodes.keys in
    let from = c.in_ok-from.ensures in
    let arrow = c.in_ok-kind-2.ensures in
    let kind = kind_of (get_or c.args.params.now (c.loop-count.count - 1) c.index-params-count.result).kind in
    record {
      in_range = omega arith;
      valid = arrow_valid k0 k1 k2 c.loop-count.kind.0 c.in_ok-from.from.0 c.in_ok-kind-2.kind.0 kind from.extends i.valid from.shown arrow.shown arrow.within;
      so_far = arrow_view k0 k1 k2 c.loop-count.kind.0 c.in_ok-from.from.0 c.in_ok-kind-2.kind.0 kind from.extends i.valid from.shown arrow.shown
          ∙ ap (KArrow kind) i.so_far ∙ ap (λ ks. arrows ks KStar) (sym (params_before c.args.params.now c.loop-count.count c.index-params-count.result i.in_range c.loop-count-test.true));
      extends = Extends-thrice c.args.self.now.nodes.keys k0 k1 k2 i.extends from.extends arrow.extends;
      modules = cc;
    }
