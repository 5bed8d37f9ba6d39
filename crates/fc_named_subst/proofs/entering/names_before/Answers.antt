use Rattle.std.proofs.Common.{◌≡◌, ◌∷◌, ◌+◌, drop, arith}
use Rattle.std.proofs.lemmas.Grind.{common_steps}
use Rattle.fc_named_subst.specs.declared.scope.ScopeWord.TheVariants.{Name}
use Rattle.fc_named_subst.proofs.ScopeSteps.{one_name_before}
use Rattle.fc_named_subst.proofs.entering.names_before.Goals as goal

pub loop-word-preserved : goal.loop-word-preserved
loop-word-preserved c =
    let front : drop c.loop-word.count c.args.words.now ≡ Name c.in-Name.name ∷ drop (c.loop-word.count + 1) c.args.words.now = grind (arith, common_steps, c.loop-word.invariant.counted, c.word-item.is, c.in-Name.is, c.loop-word-test.true) in
    record {
      counted = omega (arith, c.loop-word.invariant.counted);
      before =
          one_name_before c.args.words.now c.loop-word.binders c.add_name.new.binders c.loop-word.count c.in-Name.name c.loop-word.invariant.before front
          c.in_ok-add_name-in-Name.ensures;
    }
