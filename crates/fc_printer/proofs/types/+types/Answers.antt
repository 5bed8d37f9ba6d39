use Rattle.std.proofs.Common.{arith, append_assoc}
use Rattle.std.proofs.lemmas.List.{append-nil}
use Rattle.fc_syntax.proofs.View.{ty_rules}
use Rattle.fc_printer.proofs.Spaced.{next_type}
use Rattle.fc_printer.proofs.types.+types.Goals as goal

pub put_type-returns-in_ok-push-in-CoForall : goal.put_type-returns-in_ok-push-in-CoForall
put_type-returns-in_ok-push-in-CoForall t c = grind (arith, ty_rules, append_assoc, append-nil, next_type)
