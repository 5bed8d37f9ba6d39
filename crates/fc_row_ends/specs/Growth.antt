-- No shrinking and no commuting row makes a module grow.
use Rattle.std.specs.Prelude.{◌≡◌, ◌≤◌, true, List}
use Rattle.fc_log.specs.declared.log.Entry.{Entry}
use Rattle.fc_log.specs.declared.log.Step.{Step}
use Rattle.fc_model.specs.Nameless.{NModule}
use Rattle.fc_row_nodes.specs.Nodes.{module_nodes}
use Rattle.fc_rows.specs.NormalForms.{is_shrinking_or_commuting}
use Rattle.fc_rows.specs.Replaying.{Replays, Rewrites}

-- what a step of such a row leaves has no more nodes than the module
abbrev pub RowsRaiseNoNodes : Type 0
RowsRaiseNoNodes = (xs : List NModule) (s : Step) (n k : NModule) → is_shrinking_or_commuting s.row ≡ true → Rewrites xs s n k → module_nodes k ≤ module_nodes n

-- nor has what a log leaves, since there are steps of such rows alone yet
abbrev pub ReplaysRaiseNoNodes : Type 0
ReplaysRaiseNoNodes = (xs : List NModule) (es : List Entry) (n k : NModule) → Replays xs es n k → module_nodes k ≤ module_nodes n
