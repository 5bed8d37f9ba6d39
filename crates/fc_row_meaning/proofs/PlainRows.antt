-- Each instance of a row that needs no facts is a rewrite that needs nothing of its place.
use Rattle.std.proofs.Common.{◌≡◌, ℕ, zero, suc, ◌+◌, ◌-◌, ◌≤◌, Bool, true, false, nat_lt, if◌then◌else◌, [], Some, Result, Ok, Err, refl, sym, ap, ◌∙◌, subst, arith}
use Rattle.std.proofs.Math.Path.{fun_ext}
use Rattle.std.proofs.lemmas.Bool.Decides.{nat_tests}
use Rattle.fc_syntax.specs.declared.expr.Head.TheVariants as head
use Rattle.fc_model.specs.Calling.{constructor, constructor_type, function_ends, at_type, coercion_asked}
use Rattle.fc_model.specs.Coercing.{Ends, ends_or_fault}
use Rattle.fc_model.specs.Faulting.{F}
use Rattle.fc_model.specs.Kinding.{Modules, same_type}
use Rattle.fc_model.specs.Nameless.{NTy, NTVar, NTFun, NGVar, NBValue, NBType, NBCo, NATerm, NAType, NACo, NBound, NJoined, NBranch, NExpr, NLocal, NApp, NLam, NLet, NCase, NCast, NCon}
use Rattle.fc_model.specs.Nameless.{NFail, NJoin, NArgs, NoNArgs, MoreNArgs, NoNBinds, MoreNBinds, NoNJoins, MoreNJoins, NAlts, NoNAlts, MoreNAlts}
use Rattle.fc_model.specs.Replacing.{Substitution, bind_count, coercion_variables, expressions, join_count, past_a_value, put_in_alts, put_in_arg, renamed, replaced, type_alone, unchanged}
use Rattle.fc_model.specs.Replacing.{value_alone, value_before, variables, whole_coercions, with_argument}
use Rattle.fc_model.specs.Substituting.{type_before, type_for_innermost}
use Rattle.fc_model.specs.Typing.{type_read_off, with_value}
use Rattle.fc_model.specs.TypingRules.{HasType, typed_application}
use Rattle.fc_model.proofs.CallsKept.{from_some_inv}
use Rattle.fc_model.proofs.Sameness.{false_true}
use Rattle.fc_rows.specs.ChangingCoercions.{made}
use Rattle.fc_rows.specs.Commuting.{app_of_let, case_of_let, cast_of_let, first_field, is_value_behind_lets, let_of_let, name_field, with_first_named}
use Rattle.fc_rows.specs.Occurrences.{occurrences, first_ones, innermost_joins, innermost_values, is_dead}
use Rattle.fc_rows.specs.Shrinking.{before_joins, before_values, beta, case_merge, cast_cast, cast_refl, fail_absorb, if_equal, is_trivial, join_dead, let_atom, let_dead, let_of, let_once}
use Rattle.fc_rows.specs.Shrinking.{moved_args}
use Rattle.fc_rows.specs.Surroundings.{Surroundings}
use Rattle.fc_rows.specs.declared.occurrence.Occurrence.TheVariants.{Once, Dead}
use Rattle.fc_row_types.specs.TypesKept.{ExpressionRow}
use Rattle.fc_row_types.proofs.Made.{if_some_inv, made_inv, none_some, some_some}
use Rattle.fc_meaning.proofs.WrittenExpressions.{IsWritten}
use Rattle.fc_row_places.specs.NamelessRows.{NamesField, names_field_here, names_field_later, first_away, below_one_value, moved_alts, single_bind, single_join, outer_binder}
use Rattle.fc_kept_meaning.specs.PlaceRows.{PlainRow, plain_reflexive_cast, plain_cast_of_cast, plain_cast_of_let, plain_beta, plain_beta_type, plain_beta_coercion, plain_dead_let}
use Rattle.fc_kept_meaning.specs.PlaceRows.{plain_dead_group, plain_let_put, plain_application_of_let, plain_application_of_group, plain_case_of_let, plain_case_of_group, plain_let_of_let}
use Rattle.fc_kept_meaning.specs.PlaceRows.{plain_let_of_group, plain_dead_join, plain_dead_joins, plain_applied_fail, plain_case_of_fail, plain_cast_of_fail, plain_merged_case}
use Rattle.fc_kept_meaning.specs.PlaceRows.{plain_named_field}
use Rattle.fc_row_meaning.proofs.Renamings.{Undo, put_back, one_value_past}
use Rattle.fc_row_meaning.proofs.VariablesPut.{alts_put, as_values, variables_put}

-- WHAT IS PUT IN

-- a type for the innermost type variable, as a renaming and as what is put in
type_put : (u : NTy) (b : NExpr) → renamed (type_alone u) b ≡ replaced (with_argument (NAType u) unchanged) b
type_put u b = sym (variables_put (type_alone u) b) ∙ ap (λ s. replaced (substituting s) b) (fun_ext same)
  where
    substituting : (ℕ → NTy) → Substitution
    substituting s = record { types = s; coercions = λ i. NGVar i; values = λ i. NLocal i; joins = λ i. i }

    same : (i : ℕ) → type_for_innermost u i ≡ type_before u (λ j. NTVar j) i
    same zero = refl
    same (suc i) = refl

-- the binder of the outer case for that of the inner, likewise
with_expressions : (ℕ → NExpr) → Substitution
with_expressions v = record { types = λ i. NTVar i; coercions = λ i. NGVar i; values = v; joins = λ i. i }

outer_put : (alts : NAlts) → put_in_alts expressions whole_coercions (value_alone (NLocal 0)) alts ≡ put_in_alts variables coercion_variables outer_binder alts
unfolding with_expressions
outer_put alts = ap (λ v. put_in_alts expressions whole_coercions (with_expressions v) alts) (fun_ext same) ∙ alts_put outer_binder alts
  where
    same : (i : ℕ) → value_before (NLocal 0) (λ j. NLocal j) i ≡ as_values first_away i
    same zero = refl
    same (suc i) = refl

-- FIELDS

-- the first field that is not trivial is named
field_named : (t : NTy) (args : NArgs) (y : NTy × NExpr) → first_field t args ≡ Some y → NamesField y.1 args (with_first_named args)
field_named t NoNArgs y h = none_some h
field_named t (MoreNArgs (NATerm a) rest) y h =
    let m = from_some_inv (λ e. if is_trivial a then first_field e.1 rest else Some (e.0, a)) (function_ends t) y h in
    tested (is_trivial a) refl m.0 m.2 (λ u k. field_named u rest y k)
  where
    tested : (b : Bool) → is_trivial a ≡ b → (e : NTy × NTy) → (if b then first_field e.1 rest else Some (e.0, a)) ≡ Some y
        → ((u : NTy) → first_field u rest ≡ Some y → NamesField y.1 rest (with_first_named rest)) → NamesField y.1 (MoreNArgs (NATerm a) rest) (if b then MoreNArgs (NATerm (renamed past_a_value a)) (with_first_named rest) else MoreNArgs (NATerm (NLocal 0)) (moved_args past_a_value rest))
    tested true q e k later = names_field_later (later e.1 k)
    tested false q e k later = subst (λ z. NamesField z.1 (MoreNArgs (NATerm a) rest) (MoreNArgs (NATerm (NLocal 0)) (moved_args past_a_value rest))) (some_some k) names_field_here
field_named t (MoreNArgs (NAType u) rest) y h =
    let m = from_some_inv (λ v. first_field v rest) (at_type t u) y h in names_field_later (field_named m.0 rest y m.2)
field_named t (MoreNArgs (NACo g) rest) y h =
    let m = from_some_inv (λ p. first_field p.3 rest) (coercion_asked t) y h in names_field_later (field_named m.0.3 rest y m.2)

-- UNDOING

-- what is none of the innermost ones
not_first : (n i : ℕ) → is_dead (first_ones n i) ≡ true → n ≤ i
not_first n i h = tested (nat_lt i n) refl h
  where
    tested : (b : Bool) → nat_lt i n ≡ b → is_dead (if b then Once else Dead) ≡ true → n ≤ i
    tested true e h = false_true h
    tested false e h = grind (arith, nat_tests)

ahead : (n i : ℕ) → n ≤ i → (i - n) + n ≡ i
ahead n i h = omega (arith, h)

after : (i : ℕ) → 1 ≤ i → suc (i - 1) ≡ i
after i h = omega (arith, h)

-- what past binders does is undone where none of them occurs
undo_lets : (n : ℕ) → Undo (innermost_values n) (λ i. i - n) (λ i. i + n) (λ i. i) (λ i. i)
undo_lets n = record { values = λ i h. ahead n i (not_first n i h); joins = λ i h. refl }

undo_let : Undo (innermost_values 1) (λ i. i - 1) (λ i. suc i) (λ i. i) (λ i. i)
undo_let = record { values = λ i h. after i (not_first 1 i h); joins = λ i h. refl }

undo_points : (n : ℕ) → Undo (innermost_joins n) (λ i. i) (λ i. i) (λ i. i - n) (λ i. i + n)
undo_points n = record { values = λ i h. refl; joins = λ i h. ahead n i (not_first n i h) }

undo_point : Undo (innermost_joins 1) (λ i. i) (λ i. i) (λ i. i - 1) (λ i. suc i)
undo_point = record { values = λ i h. refl; joins = λ i h. after i (not_first 1 i h) }

-- ROWS

-- a row of which each instance is one that needs nothing of its place
abbrev pub IsPlain : Modules → ExpressionRow → Type 0
IsPlain ms row = (s : Surroundings) (e f : NExpr) → row s e ≡ Some f → (t : NTy) → HasType ms s.context e t → IsWritten e → PlainRow e f

module _ (ms : Modules) where
  -- an application of a lambda
  pub beta_plain : IsPlain ms (beta ms)
  beta_plain s (NApp (NLam (NBValue x) b) (NATerm a)) f h t (typed_application u gv p q takes) w =
      let m = from_some_inv (λ u. made (λ p. let_of p.0 a b) (function_ends u)) _ f h in
      let n = from_some_inv (λ u. Some (NTFun x u)) (type_read_off ms (with_value x s.context) b) m.0 m.1 in
      let same = subst (λ u. made (λ p. let_of p.0 a b) (function_ends u) ≡ Some f) (sym (some_some n.2)) m.2 in
      subst (PlainRow (NApp (NLam (NBValue x) b) (NATerm a))) (some_some same) plain_beta
  beta_plain s (NApp (NLam (NBType k) b) (NAType a)) f h t typed w = subst (PlainRow (NApp (NLam (NBType k) b) (NAType a))) (sym (type_put a b) ∙ some_some h) plain_beta_type
  beta_plain s (NApp (NLam (NBCo r l u) b) (NACo g)) f h t typed w = subst (PlainRow (NApp (NLam (NBCo r l u) b) (NACo g))) (some_some h) plain_beta_coercion
  beta_plain s e f h t typed w = none_some h

  -- lets
  pub let_dead_plain : IsPlain ms (λ s e. let_dead e)
  let_dead_plain s (NLet true bs b) f h t typed w =
      let m = if_some_inv (is_dead (occurrences (innermost_values (bind_count bs)) b)) _ f h in
      let back = put_back (innermost_values (bind_count bs)) (λ i. i - bind_count bs) (λ i. i + bind_count bs) (λ i. i) (λ i. i) (undo_lets (bind_count bs)) b m.0 in
      subst (PlainRow (NLet true bs b)) (some_some m.1) (subst (λ y. PlainRow (NLet true bs y) (renamed (before_values (bind_count bs)) b)) back plain_dead_group)
  let_dead_plain s (NLet false NoNBinds b) f h t typed w = absurd w.0
  let_dead_plain s (NLet false (MoreNBinds x (MoreNBinds y rest)) b) f h t typed w = absurd w.0
  let_dead_plain s (NLet false (MoreNBinds (NBound x a) NoNBinds) b) f h t typed w =
      let m = if_some_inv (is_dead (occurrences (innermost_values 1) b)) _ f h in
      let back = put_back (innermost_values 1) (λ i. i - 1) (λ i. suc i) (λ i. i) (λ i. i) undo_let b m.0 in
      subst (PlainRow (NLet false (single_bind x a) b)) (some_some m.1) (subst (λ y. PlainRow (NLet false (single_bind x a) y) (renamed (before_values 1) b)) back plain_dead_let)
  let_dead_plain s e f h t typed w = none_some h

  pub let_atom_plain : IsPlain ms (λ s e. let_atom e)
  let_atom_plain s (NLet false (MoreNBinds (NBound x a) NoNBinds) b) f h t typed w =
      let m = if_some_inv (is_trivial a) _ f h in subst (PlainRow (NLet false (single_bind x a) b)) (some_some m.1) plain_let_put
  let_atom_plain s e f h t typed w = none_some h

  pub let_once_plain : IsPlain ms (λ s e. let_once e)
  let_once_plain s (NLet false (MoreNBinds (NBound x a) NoNBinds) b) f h t typed w =
      let m = if_some_inv _ _ f h in subst (PlainRow (NLet false (single_bind x a) b)) (some_some m.1) plain_let_put
  let_once_plain s e f h t typed w = none_some h

  -- cases, failures and casts
  pub case_merge_plain : IsPlain ms (λ s e. case_merge e)
  case_merge_plain s (NCase e xt rt (MoreNAlts (NBranch head.Default [] (NCase (NLocal zero) yt qt alts)) NoNAlts)) f h t typed w =
      subst (PlainRow (NCase e xt rt (MoreNAlts (NBranch head.Default [] (NCase (NLocal zero) yt qt alts)) NoNAlts))) (ap (NCase e xt rt) (sym (outer_put alts)) ∙ some_some h) plain_merged_case
  case_merge_plain s e f h t typed w = none_some h

  pub fail_absorb_plain : IsPlain ms (fail_absorb ms)
  fail_absorb_plain s (NApp (NFail u) a) f h t typed w =
      let m = made_inv NFail (type_read_off ms s.context (NApp (NFail u) a)) f h in subst (PlainRow (NApp (NFail u) a)) m.2 plain_applied_fail
  fail_absorb_plain s (NCase (NFail u) xt rt alts) f h t typed w = subst (PlainRow (NCase (NFail u) xt rt alts)) (some_some h) plain_case_of_fail
  fail_absorb_plain s (NCast (NFail u) g) f h t typed w =
      let m = made_inv NFail (type_read_off ms s.context (NCast (NFail u) g)) f h in subst (PlainRow (NCast (NFail u) g)) m.2 plain_cast_of_fail
  fail_absorb_plain s e f h t typed w = none_some h

  equal_inv : (e f : NExpr) (r : Result Ends F) → if_equal e r ≡ Some f → e ≡ f
  equal_inv e f (Ok p) h = some_some (if_some_inv (same_type p.left p.right) (Some e) f h).1
  equal_inv e f (Err x) h = none_some h

  pub cast_refl_plain : IsPlain ms (cast_refl ms)
  cast_refl_plain s (NCast e g) f h t typed w = subst (PlainRow (NCast e g)) (equal_inv e f (ends_or_fault ms s.context.kinds s.context.coercions g) h) plain_reflexive_cast
  cast_refl_plain s e f h t typed w = none_some h

  pub cast_cast_plain : IsPlain ms (λ s e. cast_cast e)
  cast_cast_plain s (NCast (NCast e g) k) f h t typed w = subst (PlainRow (NCast (NCast e g) k)) (some_some h) plain_cast_of_cast
  cast_cast_plain s e f h t typed w = none_some h

  -- joins
  pub join_dead_plain : IsPlain ms (λ s e. join_dead e)
  join_dead_plain s (NJoin true u js b) f h t typed w =
      let m = if_some_inv (is_dead (occurrences (innermost_joins (join_count js)) b)) _ f h in
      let back = put_back (innermost_joins (join_count js)) (λ i. i) (λ i. i) (λ i. i - join_count js) (λ i. i + join_count js) (undo_points (join_count js)) b m.0 in
      subst (PlainRow (NJoin true u js b)) (some_some m.1) (subst (λ y. PlainRow (NJoin true u js y) (renamed (before_joins (join_count js)) b)) back plain_dead_joins)
  join_dead_plain s (NJoin false u NoNJoins b) f h t typed w = absurd w.0
  join_dead_plain s (NJoin false u (MoreNJoins x (MoreNJoins y rest)) b) f h t typed w = absurd w.0
  join_dead_plain s (NJoin false u (MoreNJoins (NJoined ps a) NoNJoins) b) f h t typed w =
      let m = if_some_inv (is_dead (occurrences (innermost_joins 1) b)) _ f h in
      let back = put_back (innermost_joins 1) (λ i. i) (λ i. i) (λ i. i - 1) (λ i. suc i) undo_point b m.0 in
      subst (PlainRow (NJoin false u (single_join ps a) b)) (some_some m.1) (subst (λ y. PlainRow (NJoin false u (single_join ps a) y) (renamed (before_joins 1) b)) back plain_dead_join)
  join_dead_plain s e f h t typed w = none_some h

  -- lets that move out
  pub app_of_let_plain : IsPlain ms (λ s e. app_of_let e)
  app_of_let_plain s (NApp (NLet true bs b) a) f h t typed w =
      subst (PlainRow (NApp (NLet true bs b) a)) (some_some h) plain_application_of_group
  app_of_let_plain s (NApp (NLet false NoNBinds b) a) f h t typed w = absurd w.0.0
  app_of_let_plain s (NApp (NLet false (MoreNBinds x (MoreNBinds y rest)) b) a) f h t typed w = absurd w.0.0
  app_of_let_plain s (NApp (NLet false (MoreNBinds (NBound x d) NoNBinds) b) a) f h t typed w =
      subst (PlainRow (NApp (NLet false (single_bind x d) b) a)) (ap (λ r. NLet false (single_bind x d) (NApp b (put_in_arg variables coercion_variables r a))) (sym one_value_past) ∙ some_some h) plain_application_of_let
  app_of_let_plain s e f h t typed w = none_some h

  pub case_of_let_plain : IsPlain ms (λ s e. case_of_let e)
  case_of_let_plain s (NCase (NLet true bs b) xt rt alts) f h t typed w =
      subst (PlainRow (NCase (NLet true bs b) xt rt alts)) (some_some h) plain_case_of_group
  case_of_let_plain s (NCase (NLet false NoNBinds b) xt rt alts) f h t typed w = absurd w.0.0
  case_of_let_plain s (NCase (NLet false (MoreNBinds x (MoreNBinds y rest)) b) xt rt alts) f h t typed w = absurd w.0.0
  case_of_let_plain s (NCase (NLet false (MoreNBinds (NBound x d) NoNBinds) b) xt rt alts) f h t typed w =
      subst (PlainRow (NCase (NLet false (single_bind x d) b) xt rt alts)) (ap (λ r. NLet false (single_bind x d) (NCase b xt rt (moved_alts r alts))) (sym one_value_past) ∙ some_some h) plain_case_of_let
  case_of_let_plain s e f h t typed w = none_some h

  pub cast_of_let_plain : IsPlain ms (λ s e. cast_of_let e)
  cast_of_let_plain s (NCast (NLet r bs b) g) f h t typed w = subst (PlainRow (NCast (NLet r bs b) g)) (some_some h) plain_cast_of_let
  cast_of_let_plain s e f h t typed w = none_some h

  pub let_of_let_plain : IsPlain ms (λ s e. let_of_let e)
  let_of_let_plain s (NLet false (MoreNBinds (NBound x (NLet true bs e)) NoNBinds) b) f h t typed w =
      let m = if_some_inv (is_value_behind_lets e) _ f h in
      subst (PlainRow (NLet false (single_bind x (NLet true bs e)) b)) (some_some m.1) plain_let_of_group
  let_of_let_plain s (NLet false (MoreNBinds (NBound x (NLet false NoNBinds e)) NoNBinds) b) f h t typed w = absurd w.1.0.0
  let_of_let_plain s (NLet false (MoreNBinds (NBound x (NLet false (MoreNBinds y (MoreNBinds z rest)) e)) NoNBinds) b) f h t typed w = absurd w.1.0.0
  let_of_let_plain s (NLet false (MoreNBinds (NBound x (NLet false (MoreNBinds (NBound y d) NoNBinds) e)) NoNBinds) b) f h t typed w =
      let m = if_some_inv (is_value_behind_lets e) _ f h in
      subst (PlainRow (NLet false (single_bind x (NLet false (single_bind y d) e)) b)) (ap (λ r. NLet false (single_bind y d) (NLet false (single_bind x e) (renamed (below_one_value r) b))) (sym one_value_past) ∙ some_some m.1) plain_let_of_let
  let_of_let_plain s e f h t typed w = none_some h

  pub name_field_plain : IsPlain ms (λ s e. name_field ms e)
  name_field_plain s (NLet false (MoreNBinds (NBound x (NCon n args)) NoNBinds) b) f h t typed w =
      let k = from_some_inv (λ k. made (λ f. let_of f.0 f.1 (let_of x (NCon n (with_first_named args)) (renamed (below_one_value past_a_value) b))) (first_field (constructor_type n k) args)) (constructor ms n) f h in
      let m = made_inv (λ f. let_of f.0 f.1 (let_of x (NCon n (with_first_named args)) (renamed (below_one_value past_a_value) b))) (first_field (constructor_type n k.0) args) f k.2 in
      subst (PlainRow (NLet false (single_bind x (NCon n args)) b)) m.2 (plain_named_field (field_named (constructor_type n k.0) args m.0 m.1))
  name_field_plain s e f h t typed w = none_some h
