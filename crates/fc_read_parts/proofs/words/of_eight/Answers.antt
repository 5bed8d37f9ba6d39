use Rattle.std.proofs.Common.{arith}
use Rattle.std.specs.Prelude.{codes}
use Rattle.fc_syntax.specs.Keywords.{keywords}
use Rattle.fc_read_parts.specs.Lengths.{of_length}
use Rattle.fc_read_parts.proofs.Lengths.{among_by_bytes}
use Rattle.fc_read_parts.proofs.words.of_eight.Goals as goal

pub returns-in-coforall : goal.returns-in-coforall
returns-in-coforall c = among_by_bytes c.args.word.now (codes "coforall") (of_length 8 keywords) (omega arith) (omega arith, (omega arith, (omega arith, (omega arith, (omega arith, (omega arith, (omega arith, (omega arith, tt))))))))

pub returns-in-113 : goal.returns-in-113
returns-in-113 c = among_by_bytes c.args.word.now (codes "quotInt#") (of_length 8 keywords) (omega arith) (omega arith, (omega arith, (omega arith, (omega arith, (omega arith, (omega arith, (omega arith, (omega arith, tt))))))))

pub returns-in-diverges : goal.returns-in-diverges
returns-in-diverges c = among_by_bytes c.args.word.now (codes "diverges") (of_length 8 keywords) (omega arith) (omega arith, (omega arith, (omega arith, (omega arith, (omega arith, (omega arith, (omega arith, (omega arith, tt))))))))
