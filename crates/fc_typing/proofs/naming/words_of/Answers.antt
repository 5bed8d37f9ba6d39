use Rattle.std.proofs.Common.{ap}
use Rattle.fc_syntax.specs.View.{binders_of}
use Rattle.fc_model.specs.DeclaredWords.{top_by}
use Rattle.fc_model.specs.NamelessView.{nbinders_of}
use Rattle.fc_model.specs.Resolution.{Locals, no_locals}
use Rattle.fc_scope.specs.ScopeWords.{with_binders}
use Rattle.fc_typing.specs.Wording.{types_of}
use Rattle.fc_typing.proofs.BinderWords.{counted_behind, seen_behind}
use Rattle.fc_typing.proofs.naming.words_of.Goals as goal

pub returns-clause-types : goal.returns-clause-types
unfolding types_of
returns-clause-types c = ap (λ (s : Locals). s.types) c.requires.names

pub returns-clause-seen : goal.returns-clause-seen
unfolding types_of
returns-clause-seen c =
    seen_behind (top_by c.args.env.now.own) (binders_of c.args.env.now.binders.items) (nbinders_of c.args.entered.now.binders) (with_binders c.args.entered.now.names no_locals) c.requires.form c.requires.names

pub returns-clause-count : goal.returns-clause-count
unfolding types_of
returns-clause-count c =
    counted_behind (top_by c.args.env.now.own) (binders_of c.args.env.now.binders.items) (nbinders_of c.args.entered.now.binders) (with_binders c.args.entered.now.names no_locals) c.requires.form c.requires.names
