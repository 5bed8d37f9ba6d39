use Rattle.std.proofs.Common.{rules}
use Rattle.fc_syntax.proofs.View.{view_rules}
use Rattle.fc_used_words.proofs.Collecting.{adds_coforall, adds_function, adds_type_application}
use Rattle.fc_used_words.proofs.used_types.+use_ty.Goals as goal

pub returns-in_ok-use_ty-in-App-2 : goal.returns-in_ok-use_ty-in-App-2
returns-in_ok-use_ty-in-App-2 t c = adds_type_application c.in_ok-use_ty-in-App.ensures c.in_ok-use_ty-in-App-2.ensures (search (rules, view_rules))

pub returns-in_ok-use_ty-in-Fun-2 : goal.returns-in_ok-use_ty-in-Fun-2
returns-in_ok-use_ty-in-Fun-2 t c = adds_function c.in_ok-use_ty-in-Fun.ensures c.in_ok-use_ty-in-Fun-2.ensures (search (rules, view_rules))

pub returns-in_ok-use_ty-in-CoForall-3 : goal.returns-in_ok-use_ty-in-CoForall-3
returns-in_ok-use_ty-in-CoForall-3 t c =
    adds_coforall {r = c.in-CoForall.field-0} c.in_ok-use_ty-in-CoForall.ensures c.in_ok-use_ty-in-CoForall-2.ensures c.in_ok-use_ty-in-CoForall-3.ensures (search (rules, view_rules))
