-- One expression put in for the innermost variable, after arguments that stood past it, is what is put in with the arguments at once.
use Rattle.std.proofs.Common.{◌≡◌, ℕ, zero, suc, refl, sym, ap, ◌∙◌}
use Rattle.fc_model.specs.Nameless.{NTVar, NCo, NGVar, NArg, NATerm, NAType, NACo, NArgs, NoNArgs, MoreNArgs, NExpr, NLocal, NCast}
use Rattle.fc_model.specs.Replacing.{Substitution, coercion_before, past_a_value, renamed, renamed_coercion, replaced, replaced_coercion, unchanged, value_alone, value_before, with_argument, with_arguments}
use Rattle.fc_model.specs.Substituting.{substituted_type, type_before}
use Rattle.fc_model.proofs.Substitutions.{variables_for_themselves}
use Rattle.fc_rows.specs.Shrinking.{moved_arg, moved_args}
use Rattle.fc_subst.proofs.Composed.{Composed, again}
use Rattle.fc_subst.proofs.Delayed.{replaced_renamed, replaced_replaced, unchanged_itself}

abbrev the_coercion : NExpr → NCo
the_coercion (NCast e g) = g
the_coercion _ = NGVar 0

-- what is past a value, with the value put in, is as it was
put_back : (a e : NExpr) → replaced (value_alone a) (renamed past_a_value e) ≡ e
put_back a e =
    again replaced_renamed past_a_value (value_alone a) unchanged (record { types = λ i. refl; coercions = λ i. refl; values = λ i. refl; joins = λ i. refl }) e
    ∙ unchanged_itself e

-- the innermost variable put in after the others, which stood past it, or all at once
module _ (a : NExpr) where
  argument_again : (x : NArg) (r t : Substitution) → Composed replaced_replaced r (value_alone a) t
      → Composed replaced_replaced (with_argument (moved_arg past_a_value x) r) (value_alone a) (with_argument x t)
  argument_again (NATerm e) r t c = record { types = c.types; coercions = c.coercions; values = here; joins = c.joins }
    where
      here : (i : ℕ) → replaced (value_alone a) (value_before (renamed past_a_value e) r.values i) ≡ value_before e t.values i
      here zero = put_back a e
      here (suc i) = c.values i
  argument_again (NAType u) r t c = record { types = here; coercions = c.coercions; values = c.values; joins = c.joins }
    where
      here : (i : ℕ) → substituted_type (λ j. NTVar j) (type_before (substituted_type (λ j. NTVar j) u) r.types i) ≡ type_before u t.types i
      here zero = variables_for_themselves (substituted_type (λ j. NTVar j) u) ∙ variables_for_themselves u
      here (suc i) = c.types i
  argument_again (NACo g) r t c = record { types = c.types; coercions = here; values = c.values; joins = c.joins }
    where
      here : (i : ℕ) → replaced_coercion (λ j. NTVar j) (λ j. NGVar j) (coercion_before (renamed_coercion (λ j. NTVar j) (λ j. j) g) r.coercions i) ≡ coercion_before g t.coercions i
      here zero = ap the_coercion (put_back a (NCast (NLocal 0) g))
      here (suc i) = c.coercions i

  arguments_again : (args : NArgs) (r t : Substitution) → Composed replaced_replaced r (value_alone a) t
      → Composed replaced_replaced (with_arguments (moved_args past_a_value args) r) (value_alone a) (with_arguments args t)
  arguments_again NoNArgs r t c = c
  arguments_again (MoreNArgs x rest) r t c = arguments_again rest (with_argument (moved_arg past_a_value x) r) (with_argument x t) (argument_again x r t c)

  pub put_at_once : (args : NArgs) (e : NExpr)
      → replaced (with_arguments (MoreNArgs (NATerm a) args) unchanged) e ≡ replaced (value_alone a) (replaced (with_arguments (moved_args past_a_value args) unchanged) e)
  put_at_once args e =
      sym (again replaced_replaced (with_arguments (moved_args past_a_value args) unchanged) (value_alone a) (with_arguments args (value_alone a))
      (arguments_again args unchanged (value_alone a) (record { types = λ i. refl; coercions = λ i. refl; values = λ i. refl; joins = λ i. refl })) e)
