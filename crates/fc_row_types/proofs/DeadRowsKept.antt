-- Groups that nothing uses go, and types are kept.
use Rattle.std.proofs.Common.{◌≡◌, ℕ, ◌+◌, ◌-◌, ◌≤◌, Bool, true, false, nat_lt, if◌then◌else◌, refl, sym, ap, ◌∙◌, subst, arith}
use Rattle.std.proofs.lemmas.Bool.Decides.{nat_tests}
use Rattle.fc_model.specs.Faulting.{at_distance}
use Rattle.fc_model.specs.Kinding.{Modules}
use Rattle.fc_model.specs.Nameless.{NTy, NBinds, NJoins}
use Rattle.fc_model.specs.Nameless.{NExpr, NLet, NJoin}
use Rattle.fc_model.specs.Replacing.{bind_count, join_count, renamed}
use Rattle.fc_model.specs.Typing.{Context, with_binds, with_joins}
use Rattle.fc_model.specs.TypingRules.{HasType, typed_let, typed_join}
use Rattle.fc_model.proofs.Sameness.{false_true}
use Rattle.fc_model.proofs.TypedIs.{given_type_is, type_is_given}
use Rattle.fc_rows.specs.declared.occurrence.Occurrence.TheVariants.{Dead, Once}
use Rattle.fc_rows.specs.Occurrences.{occurrences, first_ones, innermost_joins, innermost_values, is_dead}
use Rattle.fc_row_types.specs.TypesKept.{KeepsTypes}
use Rattle.fc_rows.specs.Shrinking.{before_joins, before_values, join_dead, let_dead}
use Rattle.fc_row_types.proofs.Contexts.{behind_binds_is, behind_joins_is, bound_joins, bound_types, joins_past, types_past}
use Rattle.fc_row_types.proofs.Fewer.{Looks, same_type_without}
use Rattle.fc_row_types.proofs.Made.{if_some_inv, none_some, some_some}

-- what does not count among the first is none of them
pub not_first : (n i : ℕ) → is_dead (first_ones n i) ≡ true → n ≤ i
not_first n i h = tested (nat_lt i n) refl h
  where
    tested : (b : Bool) → nat_lt i n ≡ b → is_dead (if b then Once else Dead) ≡ true → n ≤ i
    tested true e h = false_true h
    tested false e h = grind (arith, nat_tests)

pub back : (n i : ℕ) → n ≤ i → (i - n) + n ≡ i
back n i h = omega (arith, h)

module _ (ms : Modules) where
  pub without_binds : (bs : NBinds) (c : Context) (e : NExpr) (t : NTy) → is_dead (occurrences (innermost_values (bind_count bs)) e) ≡ true → HasType ms (with_binds bs c) e t
      → HasType ms c (renamed (before_values (bind_count bs)) e) t
  without_binds bs c e t dead h =
      let n = bind_count bs in
      let looks : Looks (innermost_values n) (λ i. i - n) (λ i. i) (with_binds bs c) c = record {
        kinds = ap (λ d. d.kinds) (sym (behind_binds_is bs c));
        coercions = ap (λ d. d.coercions) (sym (behind_binds_is bs c));
        values = λ i k. sym (types_past bs c.values (i - n)) ∙ ap (at_distance (bound_types bs c.values)) (back n i (not_first n i k))
            ∙ ap (λ d. at_distance d.values i) (sym (behind_binds_is bs c));
        joins = λ i k. ap (λ d. at_distance d.joins i) (sym (behind_binds_is bs c));
      } in
      given_type_is ms c (renamed (before_values n) e) t
      (same_type_without ms (innermost_values n) (λ i. i - n) (λ i. i) (with_binds bs c) c looks e dead ∙ type_is_given ms h)

  pub without_join_points : (u : NTy) (js : NJoins) (c : Context) (e : NExpr) (t : NTy) → is_dead (occurrences (innermost_joins (join_count js)) e) ≡ true
      → HasType ms (with_joins u js c) e t → HasType ms c (renamed (before_joins (join_count js)) e) t
  without_join_points u js c e t dead h =
      let n = join_count js in
      let looks : Looks (innermost_joins n) (λ i. i) (λ i. i - n) (with_joins u js c) c = record {
        kinds = ap (λ d. d.kinds) (sym (behind_joins_is u js c));
        coercions = ap (λ d. d.coercions) (sym (behind_joins_is u js c));
        values = λ i k. ap (λ d. at_distance d.values i) (sym (behind_joins_is u js c));
        joins = λ i k. sym (joins_past u js c.joins (i - n)) ∙ ap (at_distance (bound_joins u js c.joins)) (back n i (not_first n i k))
            ∙ ap (λ d. at_distance d.joins i) (sym (behind_joins_is u js c));
      } in
      given_type_is ms c (renamed (before_joins n) e) t
      (same_type_without ms (innermost_joins n) (λ i. i) (λ i. i - n) (with_joins u js c) c looks e dead ∙ type_is_given ms h)

  pub let_dead_keeps : KeepsTypes ms (λ s e. let_dead e)
  let_dead_keeps s g (NLet r bs b) f h t (typed_let p q) =
      let m = if_some_inv (is_dead (occurrences (innermost_values (bind_count bs)) b)) _ f h in
      subst (λ y. HasType ms s.context y t) (some_some m.1) (without_binds bs s.context b t m.0 q)
  let_dead_keeps s g e f h t typed = none_some h

  pub join_dead_keeps : KeepsTypes ms (λ s e. join_dead e)
  join_dead_keeps s g (NJoin r u js b) f h t (typed_join k p js_typed q v) =
      let m = if_some_inv (is_dead (occurrences (innermost_joins (join_count js)) b)) _ f h in
      subst (λ y. HasType ms s.context y u) (some_some m.1) (without_join_points u js s.context b u m.0 q)
  join_dead_keeps s g e f h t typed = none_some h
