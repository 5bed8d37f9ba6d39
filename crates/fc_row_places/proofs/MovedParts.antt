-- Parts of the nameless tree that are moved past binders, and put in, when types are gone.
use Rattle.std.proofs.Common.{◌≡◌, ℕ, zero, suc, ◌+◌, refl, sym, ap, ◌∙◌, subst, arith}
use Rattle.fc_model.specs.Erasure.{Scope, arg_sorts, below_binds, below_join, below_joins, below_unnamed, below_value, coercion_token, erased, erased_alts, erased_args, sort_of, sort_of_type}
use Rattle.fc_model.specs.Nameless.{NTy, NCo, NExpr, NAType, NArgs, NBinds, NoNBinds, MoreNBinds, NBound, NJoins, NoNJoins, MoreNJoins, NAlts}
use Rattle.fc_model.specs.Replacing.{Renaming, variables, coercion_variables, expressions, renamed, with_argument, unchanged, value_alone, coercion_alone, bind_count, join_count}
use Rattle.fc_model.specs.Terms.{Sort, Lifted, Var, ren, ren_terms, ren_alts, push, upr}
use Rattle.fc_rows.specs.Shrinking.{moved_args}
use Rattle.fc_rows.specs.Surroundings.{past_values, past_joins}
use Rattle.fc_meaning.proofs.WrittenExpressions.{AreAltsWritten, AreArgsWritten, IsWritten}
use Rattle.fc_counted.proofs.TermSubstitutions.{ren_is_sub, terms_ren_is_sub, alts_ren_is_sub, variables_up}
use Rattle.fc_erased.specs.Erasing.{Erases}
use Rattle.fc_erased.specs.ErasureLaws.{AnyVariable}
use Rattle.fc_erased.proofs.ErasedPut.{erases_value, args_put, alts_put, arg_sorts_put}
use Rattle.fc_erased.proofs.ErasedReplacements.{kept_variables, erased_renamed, sort_renamed}
use Rattle.fc_row_places.specs.NamelessRows.{moved_alts, below_one_value, outer_binder}

-- PAST GROUPS

pub step_past : (m i : ℕ) → suc m + i ≡ m + suc i
step_past m i = omega arith

step_behind : (i m : ℕ) → i + suc m ≡ suc i + m
step_behind i m = omega arith

none_behind : (i : ℕ) → i + 0 ≡ i
none_behind i = omega arith

pub binds_values : (bs : NBinds) (c : Scope) (i : ℕ) → (below_binds bs c).values (i + bind_count bs) ≡ bind_count bs + c.values i
unfolding upr
binds_values NoNBinds c i = let f : c.values i ≡ 0 + c.values i = omega arith in ap c.values (none_behind i) ∙ f
binds_values (MoreNBinds (NBound t e) rest) c i =
    let s = below_value (sort_of_type t) c in
    ap (below_binds rest s).values (step_behind i (bind_count rest)) ∙ binds_values rest s (suc i) ∙ sym (step_past (bind_count rest) (c.values i))

binds_sorts : (bs : NBinds) (c : Scope) (i : ℕ) → (below_binds bs c).sorts (i + bind_count bs) ≡ c.sorts i
binds_sorts NoNBinds c i = ap c.sorts (none_behind i)
binds_sorts (MoreNBinds (NBound t e) rest) c i =
    let s = below_value (sort_of_type t) c in ap (below_binds rest s).sorts (step_behind i (bind_count rest)) ∙ binds_sorts rest s (suc i)

binds_joins : (bs : NBinds) (c : Scope) (i : ℕ) → (below_binds bs c).joins i ≡ bind_count bs + c.joins i
binds_joins NoNBinds c i = omega arith
binds_joins (MoreNBinds (NBound t e) rest) c i = binds_joins rest (below_value (sort_of_type t) c) i ∙ sym (step_past (bind_count rest) (c.joins i))

pub past_group_erases : (bs : NBinds) (c : Scope) → Erases variables AnyVariable (below_binds bs c) c (past_values (bind_count bs)) (λ n. Var (bind_count bs + n))
past_group_erases bs c = record {
  good = λ i. tt;
  values = λ i. ap Var (binds_values bs c i);
  sorts = λ i. binds_sorts bs c i;
  joins = λ i. ap Var (sym (binds_joins bs c i));
  types = λ i. refl;
}

joined_joins : (js : NJoins) (c : Scope) (i : ℕ) → (below_joins js c).joins (i + join_count js) ≡ join_count js + c.joins i
unfolding upr
joined_joins NoNJoins c i = let f : c.joins i ≡ 0 + c.joins i = omega arith in ap c.joins (none_behind i) ∙ f
joined_joins (MoreNJoins j rest) c i =
    let s = below_join c in ap (below_joins rest s).joins (step_behind i (join_count rest)) ∙ joined_joins rest s (suc i) ∙ sym (step_past (join_count rest) (c.joins i))

joined_values : (js : NJoins) (c : Scope) (i : ℕ) → (below_joins js c).values i ≡ join_count js + c.values i
joined_values NoNJoins c i = omega arith
joined_values (MoreNJoins j rest) c i = joined_values rest (below_join c) i ∙ sym (step_past (join_count rest) (c.values i))

joined_sorts : (js : NJoins) (c : Scope) (i : ℕ) → (below_joins js c).sorts i ≡ c.sorts i
joined_sorts NoNJoins c i = refl
joined_sorts (MoreNJoins j rest) c i = joined_sorts rest (below_join c) i

pub past_joins_erases : (js : NJoins) (c : Scope) → Erases variables AnyVariable (below_joins js c) c (past_joins (join_count js)) (λ n. Var (join_count js + n))
past_joins_erases js c = record {
  good = λ i. tt;
  values = λ i. ap Var (joined_values js c i);
  sorts = λ i. joined_sorts js c i;
  joins = λ i. ap Var (sym (joined_joins js c i));
  types = λ i. refl;
}

-- MOVED PARTS

module _ (c d : Scope) (r : Renaming) (q : ℕ → ℕ) (w : Erases variables AnyVariable c d r (λ n. Var (q n))) where
  pub moved_expr : (e : NExpr) → IsWritten e → erased c (renamed r e) ≡ ren q (erased d e)
  moved_expr e o = erased_renamed c d r (λ n. Var (q n)) w e o ∙ sym (ren_is_sub q (erased d e))

  pub moved_terms : (args : NArgs) → AreArgsWritten args → erased_args c (moved_args r args) ≡ ren_terms q (erased_args d args)
  moved_terms args o = args_put variables coercion_variables AnyVariable kept_variables c d r (λ n. Var (q n)) w args o ∙ sym (terms_ren_is_sub q (erased_args d args))

  pub moved_sorts : (args : NArgs) → arg_sorts c (moved_args r args) ≡ arg_sorts d args
  moved_sorts args = arg_sorts_put variables coercion_variables AnyVariable kept_variables c d r (λ n. Var (q n)) w args

  pub under_one : (s : Sort) → Erases variables AnyVariable (below_value s c) (below_value s d) (below_one_value r) (λ n. Var (upr q n))
  under_one s =
      subst (Erases variables AnyVariable (below_value s c) (below_value s d) (below_one_value r)) (variables_up q)
      (erases_value variables coercion_variables AnyVariable kept_variables s s refl c d r (λ n. Var (q n)) w)

  pub moved_branches : (s : Sort) (alts : NAlts) → AreAltsWritten alts → erased_alts (below_value s c) (moved_alts r alts) ≡ ren_alts q (erased_alts (below_value s d) alts)
  moved_branches s alts o =
      alts_put variables coercion_variables AnyVariable kept_variables (below_value s c) (below_value s d) (below_one_value r) (λ n. Var (q n))
      (erases_value variables coercion_variables AnyVariable kept_variables s s refl c d r (λ n. Var (q n)) w) alts o
      ∙ sym (alts_ren_is_sub q (erased_alts (below_value s d) alts))

  pub moved_sort : (e : NExpr) → sort_of c (renamed r e) ≡ sort_of d e
  moved_sort e = sort_renamed c d r (λ n. Var (q n)) w e

-- PUTTING IN

pub unchanged_erases : (c : Scope) → Erases expressions IsWritten c c unchanged Var
unchanged_erases c = record { good = λ i. tt; values = λ i. refl; sorts = λ i. refl; joins = λ i. refl; types = λ i. refl }

pub value_alone_erases : (c : Scope) (s : Sort) (a : NExpr) → IsWritten a → sort_of c a ≡ s → Erases expressions IsWritten c (below_value s c) (value_alone a) (push (erased c a) Var)
unfolding push upr
value_alone_erases c s a w e = record {
  good = elim [ zero ↦ w | suc i ↦ tt ];
  values = elim [ zero ↦ refl | suc i ↦ refl ];
  sorts = elim [ zero ↦ e | suc i ↦ refl ];
  joins = λ i. refl;
  types = λ i. refl;
}

pub coercion_alone_erases : (c : Scope) (g : NCo) → Erases expressions IsWritten c (below_unnamed c) (coercion_alone g) (push coercion_token Var)
unfolding push
coercion_alone_erases c g = record { good = λ i. tt; values = λ i. refl; sorts = λ i. refl; joins = λ i. refl; types = λ i. refl }

pub type_alone_erases : (c : Scope) (u : NTy) → sort_of_type u ≡ Lifted → Erases expressions IsWritten c c (with_argument (NAType u) unchanged) Var
type_alone_erases c u l = record { good = λ i. tt; values = λ i. refl; sorts = λ i. refl; joins = λ i. refl; types = elim [ zero ↦ l | suc i ↦ refl ] }

-- the binder of an outer case for that of an inner
pub outer_binder_erases : (c : Scope) (o r : Sort) → r ≡ o → Erases variables AnyVariable (below_value o c) (below_value r (below_value o c)) outer_binder (push (Var 0) Var)
unfolding push upr
outer_binder_erases c o r e = record {
  good = λ i. tt;
  values = elim [ zero ↦ refl | suc i ↦ refl ];
  sorts = elim [ zero ↦ sym e | suc i ↦ refl ];
  joins = λ i. refl;
  types = λ i. refl;
}
