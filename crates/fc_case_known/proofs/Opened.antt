-- Arguments put in for the binders of an alternative that goes past lets, as what is put in at once.
use Rattle.std.proofs.Common.{◌≡◌, ℕ, zero, suc, ◌+◌, ◌≤◌, true, nat_le, if◌then◌else◌, List, Option, None, refl, sym, ap, ◌∙◌, arith}
use Rattle.std.proofs.lemmas.Bool.Decides.{nat_tests}
use Rattle.fc_syntax.specs.declared.ty.Name.{Name}
use Rattle.fc_model.specs.Calling.{Constructor, constructor_type}
use Rattle.fc_model.specs.Nameless.{NTy, NTVar, NGVar, NLocal, NBinder, NATerm, NArgs, MoreNArgs, NExpr, NCon}
use Rattle.fc_model.specs.Replacing.{Renaming, below_binders, below_values, coercion_variables, expressions, past_a_value, put_in, renamed, replaced, unchanged, values_below, variables, whole_coercions}
use Rattle.fc_model.specs.Replacing.{value_before, with_argument, with_arguments}
use Rattle.fc_rows.specs.Occurrences.{innermost_values, is_dead, occurrences}
use Rattle.fc_rows.specs.Shrinking.{at_constructor, behind_lets, let_of, moved_args, named_arguments, pair_with, term_count, without_first}
use Rattle.fc_rows.specs.Surroundings.{past_values}
use Rattle.fc_rows.specs.declared.occurrence.Occurrence.{Occurrence}
use Rattle.fc_rows.specs.declared.occurrence.Occurrence.TheVariants.{Dead}
use Rattle.fc_subst.specs.Replacements.{past_all, renaming_of}
use Rattle.fc_lets_for_terms.proofs.Opened.{put_at_once}
use Rattle.fc_case_known.specs.Opening as opening
use Rattle.fc_case_known.specs.Opening.{bound_in, inside_lets, values_alone}
use Rattle.fc_case_known.proofs.Parts.{one_value, pair_moved, past_one_is}

-- BEHIND LETS

-- below the case binder, past so many lets
abbrev past_lets : ℕ → Renaming
past_lets n = below_values variables coercion_variables 1 (past_values n)

none_more : (i : ℕ) → i ≡ i + 0
none_more i = omega arith

-- what an alternative answers, past so many lets
abbrev body_past : ℕ → List NBinder → NExpr → NExpr
body_past n bs b = renamed (below_binders variables coercion_variables bs (past_lets n)) b

module _ (n : ℕ) (bs : List NBinder) (parts : NArgs) (b : NExpr) (same : pair_with bs parts ≡ true) where
  with_binder : replaced (with_arguments (moved_args past_a_value parts) unchanged) (body_past n bs b) ≡ bound_in n parts b
  with_binder = put_at_once bs (moved_args past_a_value parts) (past_lets n) unchanged (with_argument (NATerm (NLocal 0)) (past_all (values_alone (n + 1)))) (pair_moved past_a_value bs parts ∙ same)
      (record { types = λ i. ap NTVar (none_more i); coercions = λ i. ap NGVar (none_more i); values = here; joins = none_more }) b
    where
      here : (i : ℕ) → put_in expressions whole_coercions unchanged (NLocal (values_below variables coercion_variables (past_values n).values i)) ≡ value_before (NLocal 0) (past_all (values_alone (n + 1))).values i
      here zero = refl
      here (suc i) = ap NLocal (let h : suc (i + n) ≡ i + (n + 1) = omega arith in h)

  with_whole : (c : NExpr) → replaced (with_arguments (MoreNArgs (NATerm c) parts) unchanged) (body_past n bs b) ≡ opening.put_in n c parts b
  with_whole c = put_at_once bs parts (past_lets n) (with_argument (NATerm c) unchanged) (with_argument (NATerm c) (past_all (values_alone n))) same
      (record { types = λ i. ap NTVar (none_more i); coercions = λ i. ap NGVar (none_more i); values = here; joins = none_more }) b
    where
      here : (i : ℕ) → value_before c unchanged.values (values_below variables coercion_variables (past_values n).values i) ≡ value_before c (past_all (values_alone n)).values i
      here zero = refl
      here (suc i) = refl

-- the same by the parts that code finds
pub bound_is : (n v : ℕ) (parts moved : NArgs) (b : NExpr) → v ≡ n + 1 → moved ≡ moved_args (renaming_of one_value) parts
    → replaced (with_arguments moved (with_argument (NATerm (NLocal 0)) (past_all (values_alone v)))) b ≡ bound_in n parts b
bound_is n v parts moved b count is =
    ap (λ q. replaced (with_arguments q (with_argument (NATerm (NLocal 0)) (past_all (values_alone v)))) b) (is ∙ past_one_is parts)
    ∙ ap (λ m. replaced (with_arguments (moved_args past_a_value parts) (with_argument (NATerm (NLocal 0)) (past_all (values_alone m)))) b) count

module _ (t : NTy) (n : Name) (args parts : NArgs) (lets : ℕ) (b x whole : NExpr) (bound : x ≡ bound_in lets parts b) (same : whole ≡ NCon n args) (d : Occurrence)
    (found : d ≡ occurrences (innermost_values 1) x) where
  by_occurrence : inside_lets t n args parts lets b ≡ (if is_dead d then opening.put_in lets whole parts b else let_of t whole x)
  by_occurrence =
      ap (λ y. if is_dead (occurrences (innermost_values 1) y) then opening.put_in lets (NCon n args) parts b else let_of t (NCon n args) y) (sym bound)
      ∙ ap (λ w. if is_dead (occurrences (innermost_values 1) x) then opening.put_in lets w parts b else let_of t w x) (sym same)
      ∙ ap (λ o. if is_dead o then opening.put_in lets whole parts b else let_of t whole x) (sym found)

  pub if_dead : d ≡ Dead → opening.put_in lets whole parts b ≡ inside_lets t n args parts lets b
  if_dead is = sym (by_occurrence ∙ ap (λ o. if is_dead o then opening.put_in lets whole parts b else let_of t whole x) is)

-- THE ALTERNATIVE FOR A CONSTRUCTOR

at_most : (lets n : ℕ) → lets ≡ n → lets ≤ 500 → nat_le n 500 ≡ true
at_most lets n same few = grind (arith, nat_tests)

module _ (xt : NTy) (n : Name) (args : NArgs) (k : Constructor) (bs : List NBinder) (b : NExpr) where
  abbrev named : NArgs
  named = named_arguments args

  abbrev body : NExpr
  body = body_past (term_count args) bs b

  -- the case binder is bound where it occurs
  abbrev either : NExpr → NExpr → NExpr
  either x y = if is_dead (occurrences (innermost_values 1) x) then y else let_of xt (NCon n named) x

  abbrev lets_with : NArgs → Option NExpr
  lets_with q = behind_lets 0 (constructor_type n k) args
      (either (replaced (with_arguments (moved_args past_a_value q) unchanged) body) (replaced (with_arguments (MoreNArgs (NATerm (NCon n named)) q) unchanged) body))

  at_constructor_is : (parts : NArgs) → parts ≡ without_first k.params named → pair_with bs parts ≡ true
      → at_constructor xt n args k (bs, b) ≡ behind_lets 0 (constructor_type n k) args (inside_lets xt n named parts (term_count args) b)
  at_constructor_is parts are same =
      sym (ap (λ q. if pair_with bs q then lets_with q else None) are) ∙ ap (λ c. if c then lets_with parts else None) same
      ∙ ap (λ x. behind_lets 0 (constructor_type n k) args (either x (replaced (with_arguments (MoreNArgs (NATerm (NCon n named)) parts) unchanged) body)))
      (with_binder (term_count args) bs parts b same)
      ∙ ap (λ y. behind_lets 0 (constructor_type n k) args (either (bound_in (term_count args) parts b) y)) (with_whole (term_count args) bs parts b same (NCon n named))

  -- by the parts that code finds
  pub opened : (o : Option NExpr) (t : NTy) (inner : NExpr) (names parts : NArgs) (lets : ℕ) → o ≡ behind_lets 0 t args inner → t ≡ constructor_type n k
      → inner ≡ inside_lets xt n names parts lets b → names ≡ named → parts ≡ without_first k.params names → lets ≡ term_count args → true ≡ pair_with bs parts
      → lets ≤ 500 → o ≡ (if nat_le (term_count args) 500 then at_constructor xt n args k (bs, b) else None)
  opened o t inner names parts lets made ty inside are behind count same few =
      rw (at_most lets (term_count args) count few)
      (made ∙ ap (λ u. behind_lets 0 u args inner) ty ∙ ap (behind_lets 0 (constructor_type n k) args)
      (inside ∙ ap (λ q. inside_lets xt n q parts lets b) are ∙ ap (λ m. inside_lets xt n named parts m b) count)
      ∙ sym (at_constructor_is parts (behind ∙ ap (without_first k.params) are) (sym same)))
