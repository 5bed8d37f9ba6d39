-- Literals.
use Rattle.std.specs.Prelude.{ℤ, Option, Some, None}
use Rattle.fc_model.specs.Nameless.{NExpr, NLit}

-- the number, where an expression is a literal
abbrev pub literal_in : NExpr → Option ℤ
literal_in (NLit n) = Some n
literal_in e = None
