use Rattle.std.proofs.Common.{◌≡◌, ◌∙◌, sym, ap}
use Rattle.fc_syntax.specs.declared.ty.Role.{Role}
use Rattle.fc_model.specs.Coercing as words
use Rattle.fc_model.specs.Nameless.{NTy}
use Rattle.fc_type_scope.proofs.Proven.{AreEndsAt-grows}
use Rattle.fc_type_scope.specs.Scopes.{scope_in}
use Rattle.fc_type_table.proofs.Numbers.{Grows-further}
use Rattle.fc_type_table.specs.TypeTables.{nodes_of, shown}
use Rattle.fc_coercion_forms.proofs.Ends.{applied_left, applied_left-end, applied_right, applied_right-end}
use Rattle.fc_coercion_forms.proofs.constructions.applied_to.Goals as goal

ends_alike : {r o : Role} {s t u v : NTy} → r ≡ o → s ≡ t → u ≡ v → words.ends r s u ≡ words.ends o t v
ends_alike p q h = cc (p, q, h)

pub loop-ends-preserved : goal.loop-ends-preserved
loop-ends-preserved c =
    let ks = scope_in c.args.scope.now in
    let old = nodes_of c.loop-ends.types in
    let new = nodes_of c.applied_once.new.types in
    let more = c.in_ok-so_far.ensures.grows in
    let inv = c.loop-ends.invariant in
    record {
      grows = Grows-further c.args.types.now c.loop-ends.types c.applied_once.new.types inv.grows more;
      group_in = AreEndsAt-grows old new ks c.args.group.now more.nodes inv.group_in;
      valid = c.in_ok-so_far.ensures.valid;
      role = ap (λ (x : words.Ends). x.role) c.in_ok-so_far.ensures.view ∙ inv.role;
      left = inv.left
          ∙ applied_left old new ks c.args.group.now c.loop-ends.ends-index (shown c.loop-ends.types ks c.loop-ends.so_far.left)
          (shown c.applied_once.new.types ks c.in_ok-so_far.so_far.left) c.loop-ends-test.true more.nodes
          inv.group_in (ap (λ (x : words.Ends). x.left) c.in_ok-so_far.ensures.view);
      right = inv.right
          ∙ applied_right old new ks c.args.group.now c.loop-ends.ends-index (shown c.loop-ends.types ks c.loop-ends.so_far.right)
          (shown c.applied_once.new.types ks c.in_ok-so_far.so_far.right) c.loop-ends-test.true more.nodes
          inv.group_in (ap (λ (x : words.Ends). x.right) c.in_ok-so_far.ensures.view);
    }

pub returns-clause-view : goal.returns-clause-view
returns-clause-view c =
    let ks = scope_in c.args.scope.now in
    let ns = nodes_of c.loop-ends.types in
    let inv = c.loop-ends.invariant in
    let left = inv.left ∙ applied_left-end ns ks c.args.group.now c.loop-ends.ends-index (shown c.loop-ends.types ks c.loop-ends.so_far.left) c.loop-ends-test.false in
    let right = inv.right ∙ applied_right-end ns ks c.args.group.now c.loop-ends.ends-index (shown c.loop-ends.types ks c.loop-ends.so_far.right) c.loop-ends-test.false in
    ends_alike inv.role (sym left) (sym right)
