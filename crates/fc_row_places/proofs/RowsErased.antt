-- Rewrites of the nameless tree are rewrites of terms when types are gone.
use Rattle.std.proofs.Common.{◌≡◌, suc, ◌+◌, true, false, ◌∷◌, refl, sym, ap, ap₂, ◌∙◌, subst, subst₂}
use Rattle.fc_syntax.specs.declared.ty.Name.{Name}
use Rattle.fc_model.specs.Erasure.{Scope, arg_sorts, below_all, below_binds, below_joins, below_unnamed, below_value, binder_sorts, coercion_token, erased, erased_alts, erased_args, erased_joins}
use Rattle.fc_model.specs.Erasure.{erased_rights, lambdas, sort_of, sort_of_type}
use Rattle.fc_model.specs.Nameless.{NExpr, NLet, NATerm, NAType, NACo, NArgs}
use Rattle.fc_model.specs.Replacing.{variables, coercion_variables, past_a_value, with_argument, unchanged, value_alone, coercion_alone, bind_count, join_count}
use Rattle.fc_model.specs.Terms.{Sort, Lifted, Unlifted, Term, Var, App, Lam, Let, Rec, Case, Con, Cons, Alts, NoAlt, Alt, Default, binders, count, ren, ren_alts, shift, sub, sub_terms, push, ups}
use Rattle.fc_model.specs.Terms.{upr}
use Rattle.fc_rows.specs.Surroundings.{past_values, past_joins}
use Rattle.fc_meaning.proofs.Unnamed.{put-shift, sub-ren_terms, sub-var, sub-var_terms}
use Rattle.fc_meaning.proofs.WrittenExpressions.{AreArgsWritten}
use Rattle.fc_counted.specs.Changes.{PartRelation, Change, change_here}
use Rattle.fc_counted.specs.Places.{Place}
use Rattle.fc_counted.proofs.ChangedPrograms.{change_same}
use Rattle.fc_erased.specs.ErasureLaws.{AnyVariable}
use Rattle.fc_erased.proofs.ErasedBinders.{sub_bodies, rights_count, joins_count}
use Rattle.fc_erased.proofs.ErasedPut.{bodies_put}
use Rattle.fc_erased.proofs.ErasedReplacements.{kept_variables, erased_replaced, erased_past_value, erased_past_join, past_value_erases}
use Rattle.fc_term_rows.specs.Facts.{Known}
use Rattle.fc_term_rows.specs.TermRows.{reduces_beta, reduces_beta_put, reduces_dead_let, reduces_let_put, reduces_dead_group, reduces_application_of_let, reduces_application_of_group}
use Rattle.fc_term_rows.specs.TermRows.{reduces_case_of_let, reduces_case_of_group, reduces_applied_fail, reduces_case_of_fail, reduces_merged_case, merged, reduces_named_part, TermRow, row_reduces}
use Rattle.fc_term_rows.specs.TermRows.{row_let_of_let, row_let_of_group}
use Rattle.fc_row_places.specs.NamelessPlaces.{scope_at, place_at}
use Rattle.fc_row_places.specs.NamelessRows.{below_one_value, single_bind, outer_binder, NamesField, names_field_here, names_field_later, NRow, nrow_erased_alike, nrow_beta}
use Rattle.fc_row_places.specs.NamelessRows.{nrow_beta_type, nrow_beta_coercion, nrow_dead_let, nrow_dead_group, nrow_let_put, nrow_application_of_let, nrow_application_of_group, nrow_case_of_let}
use Rattle.fc_row_places.specs.NamelessRows.{nrow_case_of_group, nrow_let_of_let, nrow_let_of_group, nrow_dead_join, nrow_dead_joins, nrow_applied_fail, nrow_case_of_fail, nrow_merged_case}
use Rattle.fc_row_places.specs.NamelessRows.{nrow_named_field}
use Rattle.fc_row_places.specs.RowPlaceLaws.{PartsErase}
use Rattle.fc_row_places.proofs.MovedParts.{past_group_erases, past_joins_erases, moved_expr, moved_terms, moved_sorts, under_one, moved_branches, moved_sort, value_alone_erases}
use Rattle.fc_row_places.proofs.MovedParts.{coercion_alone_erases, type_alone_erases, outer_binder_erases}

merged_is : (alts : Alts) → merged alts ≡ sub_bodies (push (Var 0) Var) alts
unfolding merged sub_bodies
merged_is NoAlt = refl
merged_is (Alt h b alts) = ap (Alt h (sub (ups (binders h) (push (Var 0) Var)) b)) (merged_is alts)

-- a named field
field_put : (c : Scope) (s : Sort) (e : NExpr) {args named : NArgs} → NamesField e args named → AreArgsWritten args
    → sub_terms (push (erased c e) Var) (erased_args (below_value s c) named) ≡ erased_args c args
unfolding sub push upr
field_put c s e (names_field_here {rest = rest}) w =
    let q = push (erased c e) Var in
    let moved = moved_terms (below_value s c) c past_a_value suc (past_value_erases s c) rest w.1 in
    ap (Cons (erased c e)) (ap (sub_terms q) moved ∙ sub-ren_terms q suc (erased_args c rest) ∙ sub-var_terms (erased_args c rest))
field_put c s e (names_field_later {a = NATerm a} {rest = rest} f) w =
    ap₂ Cons (ap (sub (push (erased c e) Var)) (erased_past_value s c a w.0) ∙ put-shift (erased c e) (erased c a)) (field_put c s e f w.1)
field_put c s e (names_field_later {a = NAType t} f) w = field_put c s e f w.1
field_put c s e (names_field_later {a = NACo g} f) w = ap (Cons coercion_token) (field_put c s e f w.1)

field_sorts : (c : Scope) (s : Sort) (e : NExpr) {args named : NArgs} → NamesField e args named → sort_of c e ≡ s → arg_sorts (below_value s c) named ≡ arg_sorts c args
field_sorts c s e (names_field_here {rest = rest}) h = ap₂ ◌∷◌ (sym h) (moved_sorts (below_value s c) c past_a_value suc (past_value_erases s c) rest)
field_sorts c s e (names_field_later {a = NATerm a} f) h = ap₂ ◌∷◌ (moved_sort (below_value s c) c past_a_value suc (past_value_erases s c) a) (field_sorts c s e f h)
field_sorts c s e (names_field_later {a = NAType t} f) h = field_sorts c s e f h
field_sorts c s e (names_field_later {a = NACo g} f) h = ap (λ ss. Unlifted ∷ ss) (field_sorts c s e f h)

-- THE REWRITES

module _ (G : Known) (D : Name → Term → Type 0) where
  abbrev TermsRewritten : PartRelation
  TermsRewritten = TermRow G D

  here_by : (c : Place) (t t' u u' : Term) → t ≡ t' → u ≡ u' → TermsRewritten c t' u' → Change TermsRewritten c t u
  here_by c t t' u u' e d r = subst₂ (Change TermsRewritten c) (sym e) (sym d) (change_here r)

  pub row_erased : PartsErase NRow (TermRow G D)
  unfolding sub
  row_erased c e d (nrow_erased_alike h) pl we wd se sd = subst (Change TermsRewritten (place_at c) (erased (scope_at c) e)) h (change_same TermsRewritten (place_at c) (erased (scope_at c) e) se)
  row_erased c _ _ (nrow_beta {t = t} {e = e} {a = a} h) pl we wd se sd =
      let s = scope_at c in
      let body = erased (below_value (sort_of_type t) s) e in
      subst (λ o. Change TermsRewritten (place_at c) (App o (Lam (sort_of_type t) body) (erased s a)) (Let (sort_of_type t) (erased s a) body)) (sym h) (change_here (row_reduces reduces_beta))
  row_erased c _ d (nrow_beta_type {e = e} {u = u} h) pl we wd se sd =
      let s = scope_at c in
      let same = erased_replaced s s (with_argument (NAType u) unchanged) Var (type_alone_erases s u h) e we.0 ∙ sub-var (erased s e) in
      subst (Change TermsRewritten (place_at c) (erased s e)) (sym same) (change_same TermsRewritten (place_at c) (erased s e) se)
  row_erased c _ d (nrow_beta_coercion {e = e} {g = g}) pl we wd se sd =
      let s = scope_at c in
      let body = erased (below_unnamed s) e in
      here_by (place_at c) (App Unlifted (Lam Unlifted body) coercion_token) (App Unlifted (Lam Unlifted body) coercion_token) (erased s d) (sub (push coercion_token Var) body) refl
      (erased_replaced s (below_unnamed s) (coercion_alone g) (push coercion_token Var) (coercion_alone_erases s g) e we.0) (row_reduces reduces_beta_put)
  row_erased c _ _ (nrow_dead_let {t = t} {a = a} {b = b}) pl we wd se sd =
      let s = scope_at c in
      let o = sort_of_type t in
      here_by (place_at c) _ (Let o (erased s a) (shift (erased s b))) (erased s b) (erased s b) (ap (Let o (erased s a)) (erased_past_value o s b wd)) refl (row_reduces reduces_dead_let)
  row_erased c _ _ (nrow_dead_group {bs = bs} {b = b}) pl we wd se sd =
      let s = scope_at c in
      let ts = erased_rights (below_binds bs s) bs in
      let moved = moved_expr (below_binds bs s) s (past_values (bind_count bs)) (λ n. bind_count bs + n) (past_group_erases bs s) b wd in
      here_by (place_at c) _ (Rec ts (ren (λ n. count ts + n) (erased s b))) (erased s b) (erased s b)
      (ap (Rec ts) (moved ∙ ap (λ k. ren (λ n. k + n) (erased s b)) (sym (rights_count (below_binds bs s) bs)))) refl (row_reduces reduces_dead_group)
  row_erased c _ d (nrow_let_put {t = t} {a = a} {b = b} h) pl we wd se sd =
      let s = scope_at c in
      let o = sort_of_type t in
      let body = erased (below_value o s) b in
      here_by (place_at c) _ (Let o (erased s a) body) (erased s d) (sub (push (erased s a) Var) body) refl
      (erased_replaced s (below_value o s) (value_alone a) (push (erased s a) Var) (value_alone_erases s o a we.1.0 h) b we.2) (row_reduces reduces_let_put)
  row_erased c _ _ (nrow_application_of_let {t = t} {a = a} {e = e} {b = NATerm b}) pl we wd se sd =
      let s = scope_at c in
      let o = sort_of_type t in
      let body = erased (below_value o s) e in
      here_by (place_at c) _ (App (sort_of s b) (Let o (erased s a) body) (erased s b)) _ (Let o (erased s a) (App (sort_of s b) body (shift (erased s b)))) refl
      (ap₂ (λ r x. Let o (erased s a) (App r body x)) (moved_sort (below_value o s) s past_a_value suc (past_value_erases o s) b) (erased_past_value o s b we.1))
      (row_reduces reduces_application_of_let)
  row_erased c _ _ (nrow_application_of_let {t = t} {a = a} {e = e} {b = NAType u}) pl we wd se sd = change_same TermsRewritten (place_at c) (erased (scope_at c) (NLet false (single_bind t a) e)) se
  row_erased c _ _ (nrow_application_of_let {t = t} {a = a} {e = e} {b = NACo g}) pl we wd se sd = change_here (row_reduces (reduces_application_of_let {s = Unlifted} {a = coercion_token}))
  row_erased c _ _ (nrow_application_of_group {bs = bs} {e = e} {b = NATerm b}) pl we wd se sd =
      let s = scope_at c in
      let i = below_binds bs s in
      let ts = erased_rights i bs in
      let r = past_values (bind_count bs) in
      let w = past_group_erases bs s in
      let moved = moved_expr i s r (λ n. bind_count bs + n) w b we.1 ∙ ap (λ k. ren (λ n. k + n) (erased s b)) (sym (rights_count i bs)) in
      here_by (place_at c) _ (App (sort_of s b) (Rec ts (erased i e)) (erased s b)) _ (Rec ts (App (sort_of s b) (erased i e) (ren (λ n. count ts + n) (erased s b)))) refl
      (ap₂ (λ o x. Rec ts (App o (erased i e) x)) (moved_sort i s r (λ n. bind_count bs + n) w b) moved) (row_reduces reduces_application_of_group)
  row_erased c _ _ (nrow_application_of_group {bs = bs} {e = e} {b = NAType u}) pl we wd se sd = change_same TermsRewritten (place_at c) (erased (scope_at c) (NLet true bs e)) se
  row_erased c _ _ (nrow_application_of_group {bs = bs} {e = e} {b = NACo g}) pl we wd se sd = change_here (row_reduces (reduces_application_of_group {s = Unlifted} {a = coercion_token}))
  row_erased c _ _ (nrow_case_of_let {t = t} {xt = xt} {a = a} {e = e} {alts = alts}) pl we wd se sd =
      let s = scope_at c in
      let o = sort_of_type t in
      let x = sort_of_type xt in
      let body = erased (below_value o s) e in
      let branches = erased_alts (below_value x s) alts in
      here_by (place_at c) _ (Case x (Let o (erased s a) body) branches) _ (Let o (erased s a) (Case x body (ren_alts suc branches))) refl
      (ap (λ y. Let o (erased s a) (Case x body y)) (moved_branches (below_value o s) s past_a_value suc (past_value_erases o s) x alts we.1)) (row_reduces reduces_case_of_let)
  row_erased c _ _ (nrow_case_of_group {bs = bs} {xt = xt} {e = e} {alts = alts}) pl we wd se sd =
      let s = scope_at c in
      let i = below_binds bs s in
      let ts = erased_rights i bs in
      let x = sort_of_type xt in
      let branches = erased_alts (below_value x s) alts in
      let moved = moved_branches i s (past_values (bind_count bs)) (λ n. bind_count bs + n) (past_group_erases bs s) x alts we.1 ∙ ap (λ k. ren_alts (λ n. k + n) branches) (sym (rights_count i bs)) in
      here_by (place_at c) _ (Case x (Rec ts (erased i e)) branches) _ (Rec ts (Case x (erased i e) (ren_alts (λ n. count ts + n) branches))) refl (ap (λ y. Rec ts (Case x (erased i e) y)) moved)
      (row_reduces reduces_case_of_group)
  row_erased c _ _ (nrow_let_of_let {t = t} {u = u} {a = a} {e = e} {b = b} h) pl we wd se sd =
      let s = scope_at c in
      let o = sort_of_type u in
      let d = erased (below_value o s) e in
      let body = erased (below_value (sort_of_type t) s) b in
      let moved = moved_expr (below_value (sort_of_type t) (below_value o s)) (below_value (sort_of_type t) s) (below_one_value past_a_value) (upr suc)
      (under_one (below_value o s) s past_a_value suc (past_value_erases o s) (sort_of_type t)) b we.2 in
      here_by (place_at c) _ (Let Lifted (Let o (erased s a) d) body) _ (Let o (erased s a) (Let Lifted d (ren (upr suc) body))) (ap (λ r. Let r (Let o (erased s a) d) body) h)
      (ap₂ (λ r x. Let o (erased s a) (Let r d x)) h moved) row_let_of_let
  row_erased c _ _ (nrow_let_of_group {t = t} {bs = bs} {e = e} {b = b} h) pl we wd se sd =
      let s = scope_at c in
      let i = below_binds bs s in
      let ts = erased_rights i bs in
      let d = erased i e in
      let body = erased (below_value (sort_of_type t) s) b in
      let moved = moved_expr (below_value (sort_of_type t) i) (below_value (sort_of_type t) s) (below_one_value (past_values (bind_count bs))) (upr (λ n. bind_count bs + n))
      (under_one i s (past_values (bind_count bs)) (λ n. bind_count bs + n) (past_group_erases bs s) (sort_of_type t)) b we.2
      ∙ ap (λ k. ren (upr (λ n. k + n)) body) (sym (rights_count i bs)) in
      here_by (place_at c) _ (Let Lifted (Rec ts d) body) _ (Rec ts (Let Lifted d (ren (upr (λ n. count ts + n)) body))) (ap (λ r. Let r (Rec ts d) body) h)
      (ap₂ (λ r x. Rec ts (Let r d x)) h moved) row_let_of_group
  row_erased c _ _ (nrow_dead_join {ps = ps} {a = a} {b = b}) pl we wd se sd =
      let s = scope_at c in
      let right = lambdas (binder_sorts ps) (erased (below_all ps s) a) in
      here_by (place_at c) _ (Let Lifted right (shift (erased s b))) (erased s b) (erased s b) (ap (Let Lifted right) (erased_past_join s b wd)) refl (row_reduces reduces_dead_let)
  row_erased c _ _ (nrow_dead_joins {js = js} {b = b}) pl we wd se sd =
      let s = scope_at c in
      let ts = erased_joins (below_joins js s) js in
      let moved = moved_expr (below_joins js s) s (past_joins (join_count js)) (λ n. join_count js + n) (past_joins_erases js s) b wd in
      here_by (place_at c) _ (Rec ts (ren (λ n. count ts + n) (erased s b))) (erased s b) (erased s b)
      (ap (Rec ts) (moved ∙ ap (λ k. ren (λ n. k + n) (erased s b)) (sym (joins_count (below_joins js s) js)))) refl (row_reduces reduces_dead_group)
  row_erased c _ _ (nrow_applied_fail {a = NATerm a}) pl we wd se sd = change_here (row_reduces reduces_applied_fail)
  row_erased c _ d (nrow_applied_fail {a = NAType t}) pl we wd se sd = change_same TermsRewritten (place_at c) (erased (scope_at c) d) sd
  row_erased c _ _ (nrow_applied_fail {a = NACo g}) pl we wd se sd = change_here (row_reduces reduces_applied_fail)
  row_erased c _ _ nrow_case_of_fail pl we wd se sd = change_here (row_reduces reduces_case_of_fail)
  row_erased c _ _ (nrow_merged_case {s = e} {xt = xt} {yt = yt} {alts = alts} h) pl we wd se sd =
      let s = scope_at c in
      let o = sort_of_type xt in
      let i = below_value o s in
      let inside = below_value (sort_of_type yt) i in
      let branches = erased_alts inside alts in
      let gone = bodies_put variables coercion_variables AnyVariable kept_variables i inside outer_binder (push (Var 0) Var) (outer_binder_erases s o (sort_of_type yt) h) alts (we.1.1.1)
      ∙ sym (merged_is branches) in
      here_by (place_at c) _ (Case o (erased s e) (Alt Default (Case o (Var 0) branches) NoAlt)) _ (Case o (erased s e) (merged branches))
      (ap (λ r. Case o (erased s e) (Alt Default (Case r (Var 0) branches) NoAlt)) h) (ap (Case o (erased s e)) gone) (row_reduces reduces_merged_case)
  row_erased c _ _ (nrow_named_field {t = t} {u = u} {n = n} {e = e} {b = b} {args = args} {named = named} h f) pl we wd se sd =
      let s = scope_at c in
      let o = sort_of_type u in
      let i = below_value o s in
      let x = erased s e in
      let con = Con n (arg_sorts i named) (erased_args i named) in
      let body = erased (below_value (sort_of_type t) s) b in
      let moved = moved_expr (below_value (sort_of_type t) i) (below_value (sort_of_type t) s) (below_one_value past_a_value) (upr suc)
      (under_one i s past_a_value suc (past_value_erases o s) (sort_of_type t)) b we.2 in
      let back : Con n (arg_sorts s args) (erased_args s args) ≡ sub (push x Var) con = ap₂ (Con n) (sym (field_sorts s o e f h)) (sym (field_put s o e f we.1.0)) in
      here_by (place_at c) _ (Let (sort_of_type t) (sub (push x Var) con) body) _ (Let o x (Let (sort_of_type t) con (ren (upr suc) body))) (ap (λ y. Let (sort_of_type t) y body) back)
      (ap (λ y. Let o x (Let (sort_of_type t) con y)) moved) (row_reduces reduces_named_part)
