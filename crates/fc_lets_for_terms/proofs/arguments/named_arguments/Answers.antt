use Rattle.std.proofs.Common.{◌≡◌, ◌+◌, ◌-◌, drop, arith}
use Rattle.fc_model.specs.NamelessView.{narg_of, nargs_of}
use Rattle.fc_rows.specs.Shrinking.{named_arguments, term_count}
use Rattle.fc_lets_for_terms.specs.Naming.{terms_in}
use Rattle.fc_lets_for_terms.proofs.InOrder.{count_step, named_end, named_step}
use Rattle.fc_lets_for_terms.proofs.arguments.named_arguments.Goals as goal

pub loop-argument-preserved : goal.loop-argument-preserved
loop-argument-preserved c =
    let xs = c.args.args.now in
    let i = c.loop-argument.argument-index in
    let x = c.argument-item.result in
    let step : term_count (nargs_of (drop i xs)) ≡ terms_in (narg_of x) + term_count (nargs_of (drop (i + 1) xs)) = count_step xs i x c.loop-argument-test.true c.argument-item.is in
    let so_far : c.loop-argument.behind ≡ term_count (nargs_of (drop i xs)) = c.loop-argument.invariant.left in
    let one : c.terms_of.result ≡ terms_in (narg_of x) = c.terms_of.ensures in
    let left : c.loop-argument.behind - c.terms_of.result ≡ term_count (nargs_of (drop (i + 1) xs)) = omega arith in
    record {
      left = left;
      so_far = named_step xs c.loop-argument.all c.push.new.self i (c.loop-argument.behind - c.terms_of.result) x c.in_ok-named.field-0 (named_arguments (nargs_of xs))
          c.in_ok-push.ensures.ok c.in_ok-named.ensures left c.loop-argument-test.true c.argument-item.is c.loop-argument.invariant.so_far;
    }

pub returns : goal.returns
returns c = named_end c.args.args.now c.loop-argument.all c.loop-argument.argument-index (named_arguments (nargs_of c.args.args.now)) c.loop-argument-test.false c.loop-argument.invariant.so_far
