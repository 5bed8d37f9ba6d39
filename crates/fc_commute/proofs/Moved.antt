-- A renaming past values, as what code puts in.
use Rattle.std.proofs.Common.{◌≡◌, ℕ, zero, suc, ◌+◌, refl, sym, ap, ◌∙◌, arith}
use Rattle.fc_model.specs.Nameless.{NTVar, NGVar, NArg, NATerm, NAlts, NExpr, NLocal}
use Rattle.fc_model.specs.Replacing.{below_values, coercion_variables, expressions, put_in_alts, put_in_arg, renamed, replaced, variables, whole_coercions, with_argument}
use Rattle.fc_rows.specs.Shrinking.{moved_arg}
use Rattle.fc_rows.specs.Surroundings.{past_values}
use Rattle.fc_subst.specs.Replacements.{past_all}
use Rattle.fc_subst.specs.declared.shift.Shift.{Shift}
use Rattle.fc_subst.proofs.Delayed.{IsPut, alternatives_are_put, argument_is_put, renaming_is_put}

-- past so many values, and past no other binder
abbrev pub values_alone : ℕ → Shift
values_alone n = record { types = 0; coercions = 0; values = n; joins = 0 }

none_more : (i : ℕ) → i + 0 ≡ i
none_more i = omega arith

-- WHAT IS PUT IN

past_values_are_put : (n : ℕ) → IsPut (past_values n) (past_all (values_alone n))
past_values_are_put n = record {
  types = λ i. ap NTVar (none_more i);
  coercions = λ i. ap NGVar (none_more i);
  values = λ i. refl;
  joins = none_more;
}

-- the innermost value stays, and the others go past so many more
below_one_is_put : (n : ℕ) → IsPut (below_values variables coercion_variables 1 (past_values n)) (with_argument (NATerm (NLocal 0)) (past_all (values_alone (n + 1))))
below_one_is_put n = record {
  types = λ i. ap NTVar (none_more i);
  coercions = λ i. ap NGVar (none_more i);
  values = here;
  joins = none_more;
}
  where
    one_more : (i : ℕ) → i + (n + 1) ≡ suc (i + n)
    one_more i = omega arith

    here : (i : ℕ) → (with_argument (NATerm (NLocal 0)) (past_all (values_alone (n + 1)))).values i ≡ NLocal ((below_values variables coercion_variables 1 (past_values n)).values i)
    here zero = refl
    here (suc i) = ap NLocal (one_more i)

-- THE PARTS THAT MOVE

pub argument_moved : (n m : ℕ) (a : NArg) → n ≡ m → put_in_arg expressions whole_coercions (past_all (values_alone n)) a ≡ moved_arg (past_values m) a
argument_moved n m a same = ap (λ k. put_in_arg expressions whole_coercions (past_all (values_alone k)) a) same ∙ sym (argument_is_put (past_values m) (past_all (values_alone m)) (past_values_are_put m) a)

pub alternatives_moved : (n m : ℕ) (alts : NAlts) → n ≡ m
    → put_in_alts expressions whole_coercions (below_values expressions whole_coercions 1 (past_all (values_alone n))) alts
    ≡ put_in_alts variables coercion_variables (below_values variables coercion_variables 1 (past_values m)) alts
alternatives_moved n m alts same =
    ap (λ k. put_in_alts expressions whole_coercions (below_values expressions whole_coercions 1 (past_all (values_alone k))) alts) same
    ∙ sym (alternatives_are_put (past_values m) (past_all (values_alone m)) (past_values_are_put m) alts)

pub moved_below_one : (n m : ℕ) (x e : NExpr) → n ≡ m + 1 → x ≡ NLocal 0
    → replaced (with_argument (NATerm x) (past_all (values_alone n))) e ≡ renamed (below_values variables coercion_variables 1 (past_values m)) e
moved_below_one n m x e more innermost =
    ap (λ y. replaced (with_argument (NATerm y) (past_all (values_alone n))) e) innermost
    ∙ ap (λ k. replaced (with_argument (NATerm (NLocal 0)) (past_all (values_alone k))) e) more
    ∙ sym (renaming_is_put (below_values variables coercion_variables 1 (past_values m)) (with_argument (NATerm (NLocal 0)) (past_all (values_alone (m + 1)))) (below_one_is_put m) e)
