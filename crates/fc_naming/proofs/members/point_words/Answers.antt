use Rattle.fc_model.specs.DeclaredWords.{top_by, words_by_space}
use Rattle.fc_scope.specs.ScopeWords.{locals_of}
use Rattle.fc_naming.specs.Taken.{words_around}
use Rattle.fc_naming.proofs.NamedGroups.{point_words}
use Rattle.fc_naming.proofs.ScopeUses.{join_around}
use Rattle.fc_naming.proofs.members.point_words.Goals as goal

pub returns-in-Some-clause-around : goal.returns-in-Some-clause-around
returns-in-Some-clause-around c = point_words (words_around (top_by c.args.top.now) (locals_of c.args.scope.now)) c.args.joins.now (rw c.in-Some.is at c.in_ok-kept.ensures) join_around

pub returns-clause-around : goal.returns-clause-around
returns-clause-around c = point_words (words_by_space c.in_ok-used.used) c.args.joins.now c.in_ok-group.ensures c.in_ok-used.ensures
