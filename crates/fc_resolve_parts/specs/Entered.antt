-- The words of a group of binders, in the order in which they are entered.
use Rattle.std.specs.Prelude.{◌∷◌}
use Rattle.fc_syntax.specs.Tree.{Binder, BValue, BType, BCo}
use Rattle.fc_model.specs.Resolution.{Words}
use Rattle.fc_scope.specs.Among.{among}
use Rattle.fc_scope.specs.declared.binders.Binders as names

abbrev pub words_of : names.Binders → Words
words_of ns = record { types = among ns.types; terms = among ns.values; coercions = among ns.coercions }

abbrev pub entered_by : Binder → names.Binders → names.Binders
entered_by (BValue x t) ns = record ns { values = x ∷ ns.values }
entered_by (BType a k) ns = record ns { types = a ∷ ns.types }
entered_by (BCo c r t u) ns = record ns { coercions = c ∷ ns.coercions }
