-- What is in scope where no table is at hand.
use Rattle.std.specs.Prelude.{List}
use Rattle.fc_lint_context.specs.ContextViews.{IsContextAt}
use Rattle.fc_lint_context.specs.declared.context.Context as code
use Rattle.fc_type_table.specs.declared.node.Node.{Node}

-- the numbers in it are those of some table
pub record IsOverSome (c : code.Context) : Type 0 where
  pub nodes : List Node
  pub valid : IsContextAt nodes c
