-- A set of modules that lints, in the order in which it is built, lints in order.
use Rattle.std.specs.Prelude.{List, []}
use Rattle.fc_syntax.specs.Tree.{Module}
use Rattle.fc_model.specs.Linting.{SetLints, nameless_forms}
use Rattle.fc_model.specs.Planning.{build_order}
use Rattle.fc_set_types.specs.SetsReplayed.{LintInOrder}

-- If modules lint in the order in which they are built, each lints behind those built before it: its name is new, its imports are before it, and it mentions of them
-- what they offer.
abbrev pub BuiltSetsLintInOrder : Type 0
BuiltSetsLintInOrder = (ms : List Module) → SetLints (build_order ms) → LintInOrder (nameless_forms (build_order ms)) [] (nameless_forms (build_order ms))
