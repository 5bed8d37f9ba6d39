use Rattle.std.proofs.Common.{take}
use Rattle.fc_model.specs.DeclaredWords.{words_by_space}
use Rattle.fc_naming.specs.Groups.{IsGroup}
use Rattle.fc_naming.proofs.members.named_group.Given as goal

abbrev pub invariant-loop-member : goal.invariant-loop-member
invariant-loop-member g l = IsGroup (words_by_space l.fn.taken).terms (take l.member-index l.members) l.words l.names (words_by_space l.taken).terms
