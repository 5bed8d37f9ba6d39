use Rattle.std.proofs.Common.{take}
use Rattle.fc_model.specs.DeclaredWords.{top_by}
use Rattle.fc_scope.specs.ScopeWords.{locals_of, with_values}
use Rattle.fc_naming.specs.Groups.{IsGroup}
use Rattle.fc_naming.specs.Taken.{words_around}
use Rattle.fc_naming.proofs.members.new_group.Given as goal

abbrev pub invariant-loop-member : goal.invariant-loop-member
invariant-loop-member g l =
    IsGroup (words_around (top_by l.top) (locals_of l.scope)).terms (take l.member-index l.members) l.words l.names
    (words_around (top_by l.top) (with_values l.names (locals_of l.scope))).terms
