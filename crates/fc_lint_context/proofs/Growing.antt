-- A context over a table that grows.
use Rattle.std.proofs.Common.{◌≡◌, ◌∙◌, Result, Ok, Err, OnOk}
use Rattle.fc_type_table.specs.TypeTables.{Grows, nodes_of}
use Rattle.fc_type_table.specs.declared.table.TypeTable.{TypeTable}
use Rattle.fc_lint_context.proofs.Contexts.{IsContextAt-grows, context_at-grows}
use Rattle.fc_lint_context.specs.ContextViews.{IsContextOver, context_in}
use Rattle.fc_lint_context.specs.declared.context.Context as code

module _ (old new : TypeTable) (c : code.Context) where
  pub stays : Grows old new → IsContextOver old c → IsContextOver new c
  stays g h = record { valid = IsContextAt-grows (nodes_of old) (nodes_of new) c g.nodes h.valid; modules = g.modules ∙ h.modules }

  -- it means what it meant
  pub still : Grows old new → IsContextOver old c → context_in new c ≡ context_in old c
  still g h = context_at-grows (nodes_of old) (nodes_of new) c g.nodes h.valid

-- the same where something was answered
pub stays_on : {X E : Type 0} (r : Result X E) (old new : TypeTable) (c : code.Context) → OnOk r (Grows old new) → IsContextOver old c → OnOk r (IsContextOver new c)
stays_on (Ok x) old new c g h = stays old new c g h
stays_on (Err e) old new c g h = tt
