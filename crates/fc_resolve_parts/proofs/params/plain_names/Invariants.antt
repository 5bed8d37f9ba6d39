use Rattle.std.proofs.Common.{◌≡◌, ◌++◌, drop, length, map, reverse}
use Rattle.fc_syntax.specs.Hints.{plain_hint}
use Rattle.fc_syntax.specs.View.{plains_of}
use Rattle.fc_model.specs.Resolution.{distinct_params, no_word}
use Rattle.fc_scope.specs.Among.{among}
use Rattle.fc_resolve_parts.proofs.params.plain_names.Given as goal

-- what is still to come behind the words so far answers as the whole, and its words inside of them are those of the whole
abbrev pub invariant-loop-param : goal.invariant-loop-param
invariant-loop-param l = record {
  whole : distinct_params no_word 0 (map plain_hint (plains_of l.params)) ≡ distinct_params (among l.names) (length l.names) (map plain_hint (plains_of (drop l.param-index l.params)));
  words : reverse (map plain_hint (plains_of (drop l.param-index l.params))) ++ l.names ≡ reverse (map plain_hint (plains_of l.params));
}
