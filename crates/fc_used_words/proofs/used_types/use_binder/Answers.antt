use Rattle.std.proofs.Common.{rules}
use Rattle.fc_used_words.proofs.Collecting.{adds_coercion_binder}
use Rattle.fc_used_words.proofs.used_types.use_binder.Goals as goal

pub returns-in_ok-use_ty-in-OfCo-2 : goal.returns-in_ok-use_ty-in-OfCo-2
returns-in_ok-use_ty-in-OfCo-2 c = adds_coercion_binder {r = c.in-OfCo.field-1} c.in_ok-use_ty-in-OfCo.ensures c.in_ok-use_ty-in-OfCo-2.ensures (search rules)
