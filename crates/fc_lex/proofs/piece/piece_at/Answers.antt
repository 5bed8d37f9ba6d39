use Rattle.std.proofs.Common.{sym, ◌∙◌, ap}
use Rattle.fc_lex.specs.Classes.{as_byte_class}
use Rattle.fc_lex.proofs.piece.piece_at.Goals as goal

pub word_at-requires-clause-plain : goal.word_at-requires-clause-plain
word_at-requires-clause-plain c = sym c.class_of.ensures ∙ ap as_byte_class c.in-Plain.is
