use Rattle.std.proofs.Common.{IfErr, IfOk}
use Rattle.fc_syntax.specs.View.{expr_of}
use Rattle.fc_model.specs.DeclaredWords.{top_by}
use Rattle.fc_model.specs.Resolution.{Locals, Top}
use Rattle.fc_model.specs.Says.{Refuses}
use Rattle.fc_named_subst.specs.Scopes.{in_scope, modules_named}
use Rattle.fc_named_subst.specs.Substituted.{IsSubstituted, substituted}
use Rattle.fc_named_subst.specs.Tasks.{piece_of}
use Rattle.fc_named_subst.proofs.ScopeSteps.{apart_among, carried}
use Rattle.fc_named_subst.proofs.substitute.subst_piece.Goals as goal

pub behind_names-requires : goal.behind_names-requires
behind_names-requires c = apart_among (top_by c.in_ok-top.top) (modules_named c.args.scope.now) (in_scope c.args.scope.now) c.in_ok-top.ensures

pub returns-clause-told : goal.returns-clause-told
returns-clause-told c =
    carried c.in_ok-top.ensures c.as_slice.ensures.value
    (λ (t : Top) (s : Locals). IfOk c.behind_names.result (λ r. IsSubstituted t s (expr_of r) (substituted t s c.args.word.now (piece_of c.args.by) (expr_of c.args.expr.now))))
    c.behind_names.ensures.told

pub returns-clause-fault : goal.returns-clause-fault
returns-clause-fault c =
    carried c.in_ok-top.ensures c.as_slice.ensures.value
    (λ (t : Top) (s : Locals). IfErr c.behind_names.result (λ e. Refuses e (substituted t s c.args.word.now (piece_of c.args.by) (expr_of c.args.expr.now))))
    c.behind_names.ensures.fault
