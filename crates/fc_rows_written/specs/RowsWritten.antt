-- Rows keep what the right sides of definitions are written as.
use Rattle.std.specs.Prelude.{◌≡◌, ℕ, All, List, ◌∷◌, Some}
use Rattle.fc_syntax.specs.Tree.{Word}
use Rattle.fc_log.specs.declared.log.Row.{Row}
use Rattle.fc_model.specs.Headers.{ndecls_in}
use Rattle.fc_model.specs.Nameless.{NModule}
use Rattle.fc_rows.specs.Rewriting.{rewritten}
use Rattle.fc_meaning.proofs.WrittenExpressions.{AreDeclsWritten}

-- A row may stand at any place of the definition of any word. Each literal is in range, each alternative has binders of its own, and what is not
-- recursive has one binder. Where this holds of a module and of its imports, it holds of what the row makes of the module.
abbrev pub RowsKeepWritten : Type 0
RowsKeepWritten = (xs : List NModule) (r : Row) (w : Word) (p : List ℕ) (n k : NModule) → All (λ x. AreDeclsWritten (ndecls_in x)) (n ∷ xs) → rewritten xs r w p n ≡ Some k
    → AreDeclsWritten (ndecls_in k)
