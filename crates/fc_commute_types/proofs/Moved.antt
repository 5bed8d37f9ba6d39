-- A renaming past one value, as what code puts in.
use Rattle.std.proofs.Common.{◌≡◌, ℕ, zero, suc, ◌+◌, refl, sym, ap, ◌∙◌, arith}
use Rattle.fc_model.specs.Nameless.{NTVar, NGVar, NArg, NATerm, NExpr, NLocal}
use Rattle.fc_model.specs.Replacing.{below_values, coercion_variables, expressions, past_a_value, put_in_arg, renamed, replaced, variables, whole_coercions, with_argument}
use Rattle.fc_rows.specs.Shrinking.{moved_arg}
use Rattle.fc_subst.specs.Replacements.{past_all}
use Rattle.fc_subst.specs.declared.shift.Shift.{Shift}
use Rattle.fc_subst.proofs.Delayed.{IsPut, argument_is_put, renaming_is_put}

-- past so many values, and past no other binder
abbrev values_alone : ℕ → Shift
values_alone n = record { types = 0; coercions = 0; values = n; joins = 0 }

none_more : (i : ℕ) → i + 0 ≡ i
none_more i = omega arith

one_more : (i : ℕ) → i + 1 ≡ suc i
one_more i = omega arith

two_more : (i : ℕ) → i + 2 ≡ suc (suc i)
two_more i = omega arith

past_a_value_is_put : IsPut past_a_value (past_all (values_alone 1))
past_a_value_is_put = record {
  types = λ i. ap NTVar (none_more i);
  coercions = λ i. ap NGVar (none_more i);
  values = λ i. ap NLocal (one_more i);
  joins = none_more;
}

-- the innermost value stays, and the others go past one more
below_one_is_put : IsPut (below_values variables coercion_variables 1 past_a_value) (with_argument (NATerm (NLocal 0)) (past_all (values_alone 2)))
below_one_is_put = record {
  types = λ i. ap NTVar (none_more i);
  coercions = λ i. ap NGVar (none_more i);
  values = here;
  joins = none_more;
}
  where
    here : (i : ℕ) → (with_argument (NATerm (NLocal 0)) (past_all (values_alone 2))).values i ≡ NLocal ((below_values variables coercion_variables 1 past_a_value).values i)
    here zero = refl
    here (suc i) = ap NLocal (two_more i)

pub argument_moved : (a : NArg) → put_in_arg expressions whole_coercions (past_all (values_alone 1)) a ≡ moved_arg past_a_value a
argument_moved a = sym (argument_is_put past_a_value (past_all (values_alone 1)) past_a_value_is_put a)

pub moved_below_one : (x e : NExpr) → x ≡ NLocal 0
    → replaced (with_argument (NATerm x) (past_all (values_alone 2))) e ≡ renamed (below_values variables coercion_variables 1 past_a_value) e
moved_below_one x e innermost =
    ap (λ y. replaced (with_argument (NATerm y) (past_all (values_alone 2))) e) innermost
    ∙ sym (renaming_is_put (below_values variables coercion_variables 1 past_a_value) (with_argument (NATerm (NLocal 0)) (past_all (values_alone 2))) below_one_is_put e)
