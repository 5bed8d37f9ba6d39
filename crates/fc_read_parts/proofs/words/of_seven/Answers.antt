use Rattle.std.proofs.Common.{arith}
use Rattle.std.specs.Prelude.{codes}
use Rattle.fc_syntax.specs.Keywords.{keywords}
use Rattle.fc_read_parts.specs.Lengths.{of_length}
use Rattle.fc_read_parts.proofs.Lengths.{among_by_bytes}
use Rattle.fc_read_parts.proofs.words.of_seven.Goals as goal

pub returns-in-imports : goal.returns-in-imports
returns-in-imports c = among_by_bytes c.args.word.now (codes "imports") (of_length 7 keywords) (omega arith) (omega arith, (omega arith, (omega arith, (omega arith, (omega arith, (omega arith, (omega arith, tt)))))))

pub returns-in-exports : goal.returns-in-exports
returns-in-exports c = among_by_bytes c.args.word.now (codes "exports") (of_length 7 keywords) (omega arith) (omega arith, (omega arith, (omega arith, (omega arith, (omega arith, (omega arith, (omega arith, tt)))))))

pub returns-in-newtype : goal.returns-in-newtype
returns-in-newtype c = among_by_bytes c.args.word.now (codes "newtype") (of_length 7 keywords) (omega arith) (omega arith, (omega arith, (omega arith, (omega arith, (omega arith, (omega arith, (omega arith, tt)))))))

pub returns-in-joinrec : goal.returns-in-joinrec
returns-in-joinrec c = among_by_bytes c.args.word.now (codes "joinrec") (of_length 7 keywords) (omega arith) (omega arith, (omega arith, (omega arith, (omega arith, (omega arith, (omega arith, (omega arith, tt)))))))

pub returns-in-100 : goal.returns-in-100
returns-in-100 c = among_by_bytes c.args.word.now (codes "default") (of_length 7 keywords) (omega arith) (omega arith, (omega arith, (omega arith, (omega arith, (omega arith, (omega arith, (omega arith, tt)))))))

pub returns-in-114 : goal.returns-in-114
returns-in-114 c = among_by_bytes c.args.word.now (codes "remInt#") (of_length 7 keywords) (omega arith) (omega arith, (omega arith, (omega arith, (omega arith, (omega arith, (omega arith, (omega arith, tt)))))))

pub returns-in-coallco : goal.returns-in-coallco
returns-in-coallco c = among_by_bytes c.args.word.now (codes "coallco") (of_length 7 keywords) (omega arith) (omega arith, (omega arith, (omega arith, (omega arith, (omega arith, (omega arith, (omega arith, tt)))))))
