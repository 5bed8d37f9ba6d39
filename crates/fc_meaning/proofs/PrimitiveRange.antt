-- The values of the primitives on machine integers are machine integers, and so is a literal that is formed.
use Rattle.std.proofs.Common.{◌≡◌, ℤ, pos, Bool, true, false, not, int_lt, int_div, int_rem, if◌then◌else◌, Some, None, ◌+ℤ◌, ◌-ℤ◌, ◌*ℤ◌, subst, arith}
use Rattle.std.specs.Int.{int_wrap}
use Rattle.std.specs.Ordering.{int_eq}
use Rattle.std.proofs.lemmas.Int.{SFits-int_wrap, fits_signed_from_abs, ints}
use lib.Signed.{mag_rem}
use mir.Syntax.{w64}
use Rattle.fc_syntax.specs.declared.expr.PrimOp.{PrimOp}
use Rattle.fc_syntax.specs.declared.expr.PrimOp.TheVariants as op
use Rattle.fc_syntax.specs.Primitives.{divided, primitive_value, truth}
use Rattle.fc_model.specs.Formed.{is_literal_formed}
use Rattle.fc_model.specs.Terms.{InRange}
use Rattle.fc_meaning.proofs.Optional.{some_is, none_some}

pub literal_in_range : (z : ℤ) → is_literal_formed z ≡ true → InRange z
literal_in_range z h = grind (arith, ints)

one_fits : InRange (pos 1)
one_fits = search (arith, fits_signed_from_abs)

pub zero_fits : InRange (pos 0)
zero_fits = search (arith, fits_signed_from_abs)

truth_in_range : (b : Bool) → InRange (truth b)
truth_in_range true = one_fits
truth_in_range false = zero_fits

rem_in_range : (a b : ℤ) → InRange a → InRange (int_rem a b)
rem_in_range a b f = record { sfits = omega (arith, mag_rem a b, f.sfits) }

divided_in_range : (b v z : ℤ) → InRange v → divided b v ≡ Some z → InRange z
divided_in_range b v z f e = go (int_eq b (pos 0)) e
  where
    go : (c : Bool) → (if c then None else Some v) ≡ Some z → InRange z
    go true x = absurd (none_some x)
    go false x = subst InRange (some_is x) f

-- the value of the operands, of which the first is a machine integer
pub value_in_range : (o : PrimOp) (a b z : ℤ) → InRange a → primitive_value o a b ≡ Some z → InRange z
value_in_range op.Plus a b z f e = subst InRange (some_is e) (SFits-int_wrap w64 (a +ℤ b))
value_in_range op.Minus a b z f e = subst InRange (some_is e) (SFits-int_wrap w64 (a -ℤ b))
value_in_range op.Times a b z f e = subst InRange (some_is e) (SFits-int_wrap w64 (a *ℤ b))
value_in_range op.Quot a b z f e = divided_in_range b (int_wrap w64 (int_div a b)) z (SFits-int_wrap w64 (int_div a b)) e
value_in_range op.Rem a b z f e = divided_in_range b (int_rem a b) z (rem_in_range a b f) e
value_in_range op.Eq a b z f e = subst InRange (some_is e) (truth_in_range (int_eq a b))
value_in_range op.Ne a b z f e = subst InRange (some_is e) (truth_in_range (not (int_eq a b)))
value_in_range op.Lt a b z f e = subst InRange (some_is e) (truth_in_range (int_lt a b))
value_in_range op.Le a b z f e = subst InRange (some_is e) (truth_in_range (not (int_lt b a)))
value_in_range op.Gt a b z f e = subst InRange (some_is e) (truth_in_range (int_lt b a))
value_in_range op.Ge a b z f e = subst InRange (some_is e) (truth_in_range (not (int_lt a b)))
