use Rattle.std.proofs.Common.{arith}
use Rattle.std.specs.Prelude.{codes}
use Rattle.fc_syntax.specs.Keywords.{keywords}
use Rattle.fc_read_parts.specs.Lengths.{of_length}
use Rattle.fc_read_parts.proofs.Lengths.{among_by_bytes}
use Rattle.fc_read_parts.proofs.words.of_six.Goals as goal

pub returns-in-module : goal.returns-in-module
returns-in-module c = among_by_bytes c.args.word.now (codes "module") (of_length 6 keywords) (omega arith) (omega arith, (omega arith, (omega arith, (omega arith, (omega arith, (omega arith, tt))))))

pub returns-in-hidden : goal.returns-in-hidden
returns-in-hidden c = among_by_bytes c.args.word.now (codes "hidden") (of_length 6 keywords) (omega arith) (omega arith, (omega arith, (omega arith, (omega arith, (omega arith, (omega arith, tt))))))

pub returns-in-family : goal.returns-in-family
returns-in-family c = among_by_bytes c.args.word.now (codes "family") (of_length 6 keywords) (omega arith) (omega arith, (omega arith, (omega arith, (omega arith, (omega arith, (omega arith, tt))))))

pub returns-in-forall : goal.returns-in-forall
returns-in-forall c = among_by_bytes c.args.word.now (codes "forall") (of_length 6 keywords) (omega arith) (omega arith, (omega arith, (omega arith, (omega arith, (omega arith, (omega arith, tt))))))

pub returns-in-letrec : goal.returns-in-letrec
returns-in-letrec c = among_by_bytes c.args.word.now (codes "letrec") (of_length 6 keywords) (omega arith) (omega arith, (omega arith, (omega arith, (omega arith, (omega arith, (omega arith, tt))))))
