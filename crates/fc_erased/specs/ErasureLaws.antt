-- Erasure commutes with what is put in for types, coercions, values and join points of an expression.
use Rattle.std.specs.Prelude.{◌≡◌, ℕ}
use Rattle.fc_model.specs.Erasure.{Scope, erased}
use Rattle.fc_model.specs.Nameless.{NExpr}
use Rattle.fc_model.specs.Replacing.{Renaming, Substitution, expressions, renamed, replaced, variables}
use Rattle.fc_model.specs.Terms.{Term, sub}
use Rattle.fc_meaning.proofs.WrittenExpressions.{IsWritten}
use Rattle.fc_erased.specs.Erasing.{Erases}

-- a variable may always be put in
abbrev pub AnyVariable : ℕ → Type 0
AnyVariable v = Unit {0}

-- variables in place of variables
abbrev pub RenamedErases : Type 0
RenamedErases = (c d : Scope) (r : Renaming) (p : ℕ → Term) → Erases variables AnyVariable c d r p → (e : NExpr) → IsWritten e → erased c (renamed r e) ≡ sub p (erased d e)

-- expressions in place of variables
abbrev pub ReplacedErases : Type 0
ReplacedErases = (c d : Scope) (r : Substitution) (p : ℕ → Term) → Erases expressions IsWritten c d r p → (e : NExpr) → IsWritten e → erased c (replaced r e) ≡ sub p (erased d e)

-- what is put into is written as literals and alternatives are to be
abbrev pub ReplacedIsWritten : Type 0
ReplacedIsWritten = (r : Substitution) → ((i : ℕ) → IsWritten (r.values i)) → (e : NExpr) → IsWritten e → IsWritten (replaced r e)
