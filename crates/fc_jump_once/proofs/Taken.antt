-- The right side of a join point at arguments, as what is put in for its parameters at once.
use Rattle.std.proofs.Common.{◌≡◌, ◌+◌, ◌≤◌, ℕ, Bool, true, false, nat_le, if◌then◌else◌, List, Option, None, refl, sym, ap, ◌∙◌, arith}
use Rattle.std.proofs.lemmas.Bool.Decides.{nat_tests}
use Rattle.fc_model.specs.Nameless.{NTy, NLocal, NBinder, NArgs, NExpr}
use Rattle.fc_model.specs.Replacing.{Substitution, below_binders, coercion_variables, renamed, replaced, replaced_binders, unchanged, variables, with_arguments}
use Rattle.fc_rows.specs.Shrinking.{behind_lets, jump_taken, named_arguments, pair_with, term_count}
use Rattle.fc_rows.specs.Surroundings.{Point, PointOf, moved_point, past_values}
use Rattle.fc_subst.specs.Replacements.{past_all, past_types, renaming_of}
use Rattle.fc_subst.specs.declared.shift.Shift.{Shift}
use Rattle.fc_lets_for_terms.proofs.Opened.{pair_named, pair_replaced, put_at_once}

-- each variable for itself, past so many values more
abbrev past_lets : ℕ → Substitution
past_lets n = record unchanged { values = λ i. NLocal (i + n) }

at_most : (lets n : ℕ) → lets ≡ n → lets ≤ 500 → nat_le n 500 ≡ true
at_most lets n same few = grind (arith, nat_tests)

module _ (ps : List NBinder) (d : NExpr) (own : Shift) (t : NTy) (args : NArgs) where
  -- the join point, which stands so many binders further out
  abbrev point : Point
  point = moved_point (renaming_of own) (PointOf ps d)

  -- so many values further out
  abbrev further : ℕ → Shift
  further n = record own { values = own.values + n }

  abbrev named : NArgs
  named = named_arguments args

  -- the right side there
  abbrev side : NExpr
  side = renamed (below_binders variables coercion_variables ps (renaming_of own)) d

  still_pair : pair_with (replaced_binders (past_types own) ps) args ≡ pair_with ps args
  still_pair = pair_replaced (past_types own) ps args

  put_in : (n : ℕ) → pair_with ps args ≡ true
      → replaced (with_arguments named unchanged) (renamed (below_binders variables coercion_variables (replaced_binders (past_types own) ps) (past_values n)) side)
      ≡ replaced (with_arguments named (past_all (further n))) d
  put_in n same =
      put_at_once (replaced_binders (past_types own) ps) named (past_values n) unchanged (past_lets n) (pair_named (replaced_binders (past_types own) ps) args ∙ still_pair ∙ same)
      (record { types = λ i. refl; coercions = λ i. refl; values = λ i. refl; joins = λ i. refl }) side
      ∙ put_at_once ps named (renaming_of own) (past_lets n) (past_all (further n)) (pair_named ps args ∙ same)
      (record { types = λ i. refl; coercions = λ i. refl; values = λ i. ap NLocal (let h : i + own.values + n ≡ i + (own.values + n) = omega arith in h); joins = λ i. refl }) d

  -- what code makes of it
  pub not_paired : (few : Bool) → false ≡ pair_with ps args → None ≡ (if few then jump_taken point t args else None)
  not_paired true other = rw (still_pair, ← other)
  not_paired false other = refl

  pub paired : (o : Option NExpr) (inner : NExpr) (lets : ℕ) → o ≡ behind_lets 0 t args inner → inner ≡ replaced (with_arguments named (past_all (further lets))) d → lets ≡ term_count args
      → true ≡ pair_with ps args → lets ≤ 500 → o ≡ (if nat_le (term_count args) 500 then jump_taken point t args else None)
  paired o inner lets made inside count same few =
      rw (at_most lets (term_count args) count few, still_pair, ← same, put_in (term_count args) (sym same)) (rw (← count, ← inside) made)

pub ruleset taken_rules = (not_paired, paired)
