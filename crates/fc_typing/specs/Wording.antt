-- The words that name types behind binders.
use Rattle.std.specs.Prelude.{List}
use Rattle.fc_syntax.specs.Tree.{Word}
use Rattle.fc_model.specs.Resolution.{no_locals}
use Rattle.fc_scope.specs.ScopeWords.{with_binders}
use Rattle.fc_typing.specs.declared.naming.Words.{Words}

-- the own module
abbrev pub own_of : Words → Word
own_of w = w.own.now

-- the words of the type variables, the innermost first
unfoldable pub types_of : Words → List Word
types_of w = (with_binders w.names.now no_locals).types
