-- How the primitives are written, and their values on machine integers of 64 bits.
use Rattle.std.specs.Prelude.{ℕ, ℤ, List, codes, pos, Bool, true, false, not, int_lt, int_div, int_rem, if◌then◌else◌, Option, Some, None, ◌+ℤ◌, ◌-ℤ◌, ◌*ℤ◌}
use Rattle.std.specs.Int.{int_wrap}
use Rattle.std.specs.Ordering.{int_eq}
use mir.Syntax.{w64}
use Rattle.fc_syntax.specs.declared.expr.PrimOp.{PrimOp}
use Rattle.fc_syntax.specs.declared.expr.PrimOp.TheVariants as op

-- the sign or the word of a primitive
abbrev pub operator_text : PrimOp → List ℕ
operator_text op.Plus = codes "+#"
operator_text op.Minus = codes "-#"
operator_text op.Times = codes "*#"
operator_text op.Quot = codes "quotInt#"
operator_text op.Rem = codes "remInt#"
operator_text op.Eq = codes "==#"
operator_text op.Ne = codes "/=#"
operator_text op.Lt = codes "<#"
operator_text op.Le = codes "<=#"
operator_text op.Gt = codes ">#"
operator_text op.Ge = codes ">=#"

-- a comparison gives 1 or 0
abbrev pub truth : Bool → ℤ
truth true = pos 1
truth false = pos 0

-- there is no value for a divisor of 0
abbrev pub divided : ℤ → ℤ → Option ℤ
divided b z = if int_eq b (pos 0) then None else Some z

-- sums, differences, products and quotients wrap at 64 bits; a quotient is rounded toward zero, and a remainder has the dividend's sign
abbrev pub primitive_value : PrimOp → ℤ → ℤ → Option ℤ
primitive_value op.Plus a b = Some (int_wrap w64 (a +ℤ b))
primitive_value op.Minus a b = Some (int_wrap w64 (a -ℤ b))
primitive_value op.Times a b = Some (int_wrap w64 (a *ℤ b))
primitive_value op.Quot a b = divided b (int_wrap w64 (int_div a b))
primitive_value op.Rem a b = divided b (int_rem a b)
primitive_value op.Eq a b = Some (truth (int_eq a b))
primitive_value op.Ne a b = Some (truth (not (int_eq a b)))
primitive_value op.Lt a b = Some (truth (int_lt a b))
primitive_value op.Le a b = Some (truth (not (int_lt b a)))
primitive_value op.Gt a b = Some (truth (int_lt b a))
primitive_value op.Ge a b = Some (truth (not (int_lt a b)))
