-- What a place of the nameless tree tells is known of terms when types are gone.
use Rattle.std.proofs.Common.{◌≡◌, ℕ, suc, ◌+◌, List, [], ◌∷◌, length, refl, sym, ◌∙◌, subst, subst₂, arith, ap}
use Rattle.fc_model.specs.Erasure.{Scope, arg_sorts, below, below_all, below_binds, below_join, below_joins, below_unnamed, below_value, binder_sorts, erased, erased_alts, erased_args, erased_head}
use Rattle.fc_model.specs.Erasure.{erased_joins, erased_rights, no_scope, sort_of_type}
use Rattle.fc_model.specs.Nameless.{NBinder, NBValue, NBType, NBCo, NBinds, NBound, NExpr}
use Rattle.fc_model.specs.Replacing.{variables, coercion_variables, renamed, past_a_value, past_a_join, bind_count, join_count}
use Rattle.fc_model.specs.Terms as term
use Rattle.fc_model.specs.Terms.{Sort, Unlifted, Term, Var, binders, enters, head_sorts, lifteds, ren, ren_terms, upr, AreSorted, IsSorted}
use Rattle.fc_rows.specs.Surroundings.{past_values, past_joins}
use Rattle.fc_meaning.proofs.SortsKept.{Renames, length-lifteds}
use Rattle.fc_meaning.proofs.WrittenExpressions.{IsWritten}
use Rattle.fc_counted.specs.Places.{Place, Side, BelowGroup, InAlternative, InBody, side_on_left, side_on_right, sorts_in, heads_of}
use Rattle.fc_erased.specs.ErasureLaws.{AnyVariable}
use Rattle.fc_erased.proofs.ErasedBinders.{own_binders, rights_count, joins_count}
use Rattle.fc_erased.proofs.ErasedReplacements.{kept_variables, past_value_erases, past_join_erases}
use Rattle.fc_erased.proofs.WrittenPut.{written_args}
use Rattle.fc_term_rows.specs.Facts.{Fact, FactCon, FactNumber, FactNoneOf, moved_fact, field_variables, Known, Knows, knows_global, knows_constructor_binder, knows_constructor_scrutinee, knows_literal_binder}
use Rattle.fc_term_rows.specs.Facts.{knows_literal_scrutinee, knows_default_binder, knows_default_scrutinee, knows_let_constructor, knows_let_head, knows_past_lambda, knows_past_let, knows_past_group}
use Rattle.fc_term_rows.specs.Facts.{knows_past_alternative, knows_member_constructor, knows_member_head, MemberAt, first_member, later_member}
use Rattle.fc_row_places.specs.NamelessFacts.{ErasedKnown, NKnown, NFact, NFactCon, NFactLit, NFactNoneOf, nknows_name, past_binder, past_binders, fact_past_binder, fact_past_binders, moved_nfact, heads_among, NKnows, nknows_constructor_binder}
use Rattle.fc_row_places.specs.NamelessFacts.{nknows_constructor_scrutinee, nknows_literal_binder, nknows_literal_scrutinee, nknows_default_binder, nknows_default_scrutinee, nknows_let_constructor}
use Rattle.fc_row_places.specs.NamelessFacts.{nknows_let_head, nknows_below, nknows_below_all, nknows_past_let, nknows_past_group, nknows_past_join, nknows_past_joins, nknows_past_alternative}
use Rattle.fc_row_places.specs.NamelessFacts.{nknows_member_constructor, nknows_member_head, NMembersAt, first_members, later_members}
use Rattle.fc_row_places.specs.NamelessPlaces.{NPlace, NBelow, NPastGroup, IsPlaceSorted, scope_at, place_at, in_bodies}
use Rattle.fc_row_places.proofs.BinderParts.{outside_is, parts_of_binders, parts_written, heads_are, IsFactSorted, fact_sorted, one_more_sort, more_sorts, variables_sorted, into_sorts}
use Rattle.fc_row_places.proofs.MovedFacts.{FactErases, constructor_erases, literal_erases, none_erases, IsFactWritten, args_are, behind_are, behind_written, types_are, types_written, ren_itself, fact_itself, Moved, moved_by}
use Rattle.fc_row_places.proofs.MovedFacts.{moved_twice, moved_past_binder, moved_past_all, fact_past_more, fact_past_none, parts_moved}
use Rattle.fc_row_places.proofs.MovedParts.{binds_values, past_group_erases, past_joins_erases}

-- MEMBERS OF GROUPS

left_member : (s : Scope) {bs cs : NBinds} {i : ℕ} {d e : NExpr} → NMembersAt bs cs i d e → MemberAt (erased_rights s bs) i (erased s d)
left_member s (first_members {bs = bs} i h n) = first_member i (h ∙ sym (rights_count s bs))
left_member s (later_members {a = NBound t d} m) = later_member (left_member s m)

right_member : (s : Scope) {bs cs : NBinds} {i : ℕ} {d e : NExpr} → NMembersAt bs cs i d e → MemberAt (erased_rights s cs) i (erased s e)
right_member s (first_members {cs = cs} i h n) = first_member i (h ∙ n ∙ sym (rights_count s cs))
right_member s (later_members {b = NBound t e} m) = later_member (right_member s m)

-- the binder of a member stands at its distance
member_value : (c : Scope) {bs cs : NBinds} {i : ℕ} {d e : NExpr} → NMembersAt bs cs i d e → (below_binds bs c).values i ≡ i
unfolding upr
member_value c (first_members {t = t} {bs = bs} i h n) =
    let s = below_value (sort_of_type t) c in
    let none : bind_count bs + 0 ≡ bind_count bs = omega arith in
    let front : i ≡ 0 + bind_count bs = omega (arith, h) in
    ap (below_binds bs s).values front ∙ binds_values bs s 0 ∙ none ∙ sym h
member_value c (later_members {a = NBound t d} m) = member_value (below_value (sort_of_type t) c) m

member_sorted : (g : List Sort) (s : Scope) {bs cs : NBinds} {i : ℕ} {d e : NExpr} → NMembersAt bs cs i d e → AreSorted g (erased_rights s bs) → IsSorted g (erased s d)
member_sorted g s (first_members i h n) w = w.0
member_sorted g s (later_members {a = NBound t d} m) w = member_sorted g s m w.1

module _ (N : NKnown) where
  -- without types
  abbrev G : Known
  G = ErasedKnown N

  -- a fact is known of an expression on both sides, below binders of the sorts g
  pub record Holds (g : List Sort) (left right : Side) (s : Scope) (e : NExpr) (f : NFact) : Type 0 where
    pub fact : Fact
    pub sorted : IsFactSorted g fact
    pub is : FactErases s f fact
    pub on_left : Knows G left (erased s e) fact
    pub on_right : Knows G right (erased s e) fact
    pub expr_written : IsWritten e
    pub fact_written : IsFactWritten f

  known_by : {a : Side} {t u : Term} {x : Fact} → t ≡ u → Knows G a u x → Knows G a t x
  known_by {a = a} {x = x} e k = subst (λ t. Knows G a t x) (sym e) k

  known_none : {a : Side} {t u : Term} {hs gs : List term.Head} → t ≡ u → hs ≡ gs → Knows G a u (FactNoneOf hs) → Knows G a t (FactNoneOf gs)
  known_none {a = a} e d k = subst₂ (λ t hs. Knows G a t (FactNoneOf hs)) (sym e) d k

  -- what is known stays known further in
  abbrev Onward : Side → Side → (ℕ → ℕ) → Type 0
  Onward a b q = (t : Term) (x : Fact) → Knows G a t x → Knows G b (ren q t) (moved_fact q x)

  holds_moved : {u v : List Sort} (a b c d : Side) (s i : Scope) (q : ℕ → ℕ) (e e' : NExpr) (f g : NFact) → Renames q u v → Moved s i q e e' f g → Onward a c q → Onward b d q → Holds u a b s e f
      → Holds v c d i e' g
  holds_moved {u = u} {v = v} a b c d s i q e e' f g n m l r h = record {
    fact = moved_fact q h.fact;
    sorted = fact_sorted q u v n h.fact h.sorted;
    is = m.fact h.fact h.is;
    on_left = subst (λ t. Knows G c t (moved_fact q h.fact)) (sym m.expr) (l (erased s e) h.fact h.on_left);
    on_right = subst (λ t. Knows G d t (moved_fact q h.fact)) (sym m.expr) (r (erased s e) h.fact h.on_right);
    expr_written = m.expr_written;
    fact_written = m.fact_written;
  }

  stays : (a : Side) → Onward a a (λ n. n)
  stays a t x k = subst₂ (Knows G a) (sym (ren_itself t)) (sym (fact_itself x)) k

  -- below one binder, and below several
  below_one : (b : NBinder) (c : NPlace) (e : NExpr) (f : NFact) → Holds (sorts_in (place_at c)) (side_on_left (place_at c)) (side_on_right (place_at c)) (scope_at c) e f
      → Holds (sorts_in (place_at (NBelow b c))) (side_on_left (place_at (NBelow b c))) (side_on_right (place_at (NBelow b c))) (below b (scope_at c)) (past_binder b e) (fact_past_binder b f)
  unfolding sorts_in
  below_one (NBValue t) c e f h =
      holds_moved _ _ _ _ (scope_at c) _ suc e _ f _ (one_more_sort _ _) (moved_past_binder (NBValue t) (scope_at c) e f h.expr_written h.fact_written) (λ u x k. knows_past_lambda k)
      (λ u x k. knows_past_lambda k) h
  below_one (NBType k) c e f h =
      holds_moved _ _ _ _ (scope_at c) _ (λ n. n) e _ f _ (λ n o e. e) (moved_past_binder (NBType k) (scope_at c) e f h.expr_written h.fact_written) (stays (side_on_left (place_at c)))
      (stays (side_on_right (place_at c))) h
  below_one (NBCo r t u) c e f h =
      holds_moved _ _ _ _ (scope_at c) _ suc e _ f _ (one_more_sort _ _) (moved_past_binder (NBCo r t u) (scope_at c) e f h.expr_written h.fact_written) (λ v x k. knows_past_lambda k)
      (λ v x k. knows_past_lambda k) h

  below_bodies : (bs : List NBinder) (p : Place) (s : Scope) (e : NExpr) (f : NFact) → Holds (sorts_in p) (side_on_left p) (side_on_right p) s e f
      → Holds (sorts_in (in_bodies (binder_sorts bs) p)) (side_on_left (in_bodies (binder_sorts bs) p)) (side_on_right (in_bodies (binder_sorts bs) p)) (below_all bs s) (past_binders bs e)
      (fact_past_binders bs f)
  unfolding sorts_in
  below_bodies [] p s e f h = subst (Holds (sorts_in p) (side_on_left p) (side_on_right p) s e) (sym (fact_past_none f)) h
  below_bodies (NBValue t ∷ bs) p s e f h =
      subst (Holds _ _ _ (below_all bs (below_value (sort_of_type t) s)) (past_binders bs (past_binder (NBValue t) e))) (sym (fact_past_more (NBValue t) bs f))
      (below_bodies bs (InBody (sort_of_type t) p) (below_value (sort_of_type t) s) (past_binder (NBValue t) e) (fact_past_binder (NBValue t) f)
      (holds_moved _ _ _ _ s _ suc e _ f _ (one_more_sort _ _) (moved_past_binder (NBValue t) s e f h.expr_written h.fact_written) (λ u x k. knows_past_lambda k) (λ u x k. knows_past_lambda k) h))
  below_bodies (NBType k ∷ bs) p s e f h =
      subst (Holds _ _ _ (below_all bs s) (past_binders bs (past_binder (NBType k) e))) (sym (fact_past_more (NBType k) bs f))
      (below_bodies bs p s (past_binder (NBType k) e) (fact_past_binder (NBType k) f)
      (holds_moved _ _ _ _ s _ (λ n. n) e _ f _ (λ n o e. e) (moved_past_binder (NBType k) s e f h.expr_written h.fact_written) (stays (side_on_left p)) (stays (side_on_right p)) h))
  below_bodies (NBCo r t u ∷ bs) p s e f h =
      subst (Holds _ _ _ (below_all bs (below_unnamed s)) (past_binders bs (past_binder (NBCo r t u) e))) (sym (fact_past_more (NBCo r t u) bs f))
      (below_bodies bs (InBody Unlifted p) (below_unnamed s) (past_binder (NBCo r t u) e) (fact_past_binder (NBCo r t u) f)
      (holds_moved _ _ _ _ s _ suc e _ f _ (one_more_sort _ _) (moved_past_binder (NBCo r t u) s e f h.expr_written h.fact_written) (λ v x k. knows_past_lambda k) (λ v x k. knows_past_lambda k) h))

  -- past the binder of a case and those of an alternative
  moved_into : (o : Sort) (bs : List NBinder) (s : Scope) (e : NExpr) (f : NFact) → IsWritten e → IsFactWritten f
      → Moved s (below_all bs (below_value o s)) (λ n. length (binder_sorts bs) + suc n) e (past_binders bs (renamed past_a_value e)) f (fact_past_binders bs (moved_nfact past_a_value f))
  moved_into o bs s e f we wf =
      let one = moved_by s (below_value o s) past_a_value suc (past_value_erases o s) e f we wf in
      moved_twice s (below_value o s) (below_all bs (below_value o s)) suc (λ n. length (binder_sorts bs) + n) e (renamed past_a_value e) (past_binders bs (renamed past_a_value e)) f
      (moved_nfact past_a_value f) (fact_past_binders bs (moved_nfact past_a_value f)) one
      (moved_past_all bs (below_value o s) (renamed past_a_value e) (moved_nfact past_a_value f) one.expr_written one.fact_written)

  pub nknows_holds : {c : NPlace} {e : NExpr} {f : NFact} → NKnows N c e f → IsPlaceSorted c → Holds (sorts_in (place_at c)) (side_on_left (place_at c)) (side_on_right (place_at c)) (scope_at c) e f
  unfolding binders upr sorts_in head_sorts
  nknows_holds (nknows_name {f = NFactCon n args} k o) pl =
      record {
        fact = FactCon n (arg_sorts no_scope args) (erased_args no_scope args);
        sorted = o.1;
        is = constructor_erases (args_are no_scope args);
        on_left = knows_global (NFactCon n args, k, refl);
        on_right = knows_global (NFactCon n args, k, refl);
        expr_written = tt;
        fact_written = o.0;
      }
  nknows_holds (nknows_name {f = NFactLit z} k o) pl =
      record {
        fact = FactNumber z;
        sorted = tt;
        is = literal_erases;
        on_left = knows_global (NFactLit z, k, refl);
        on_right = knows_global (NFactLit z, k, refl);
        expr_written = tt;
        fact_written = tt;
      }
  nknows_holds (nknows_name {f = NFactNoneOf hs} k o) pl =
      record {
        fact = FactNoneOf hs;
        sorted = tt;
        is = none_erases;
        on_left = knows_global (NFactNoneOf hs, k, refl);
        on_right = knows_global (NFactNoneOf hs, k, refl);
        expr_written = tt;
        fact_written = tt;
      }
  nknows_holds (nknows_constructor_binder {xt = xt} {n = n} {bs = bs} {c = c} a b) pl =
      let o = sort_of_type xt in
      let s = below_all bs (below_value o (scope_at c)) in
      let x = FactCon n (binder_sorts bs) (field_variables (binder_sorts bs)) in
      record {
        fact = x;
        sorted = variables_sorted (binder_sorts bs) (o ∷ sorts_in (place_at c));
        is = constructor_erases (behind_are s b (types_are s a (parts_of_binders bs (below_value o (scope_at c)))));
        on_left = known_by (outside_is bs o (scope_at c)) knows_constructor_binder;
        on_right = known_by (outside_is bs o (scope_at c)) knows_constructor_binder;
        expr_written = tt;
        fact_written = behind_written b (types_written a (parts_written bs));
      }
  nknows_holds (nknows_constructor_scrutinee {xt = xt} {s = e} {n = n} {bs = bs} {c = c} a b w) pl =
      let o = sort_of_type xt in
      let s = below_all bs (below_value o (scope_at c)) in
      let x = FactCon n (binder_sorts bs) (field_variables (binder_sorts bs)) in
      let m = moved_into o bs (scope_at c) e (NFactNoneOf []) w tt in
      record {
        fact = x;
        sorted = variables_sorted (binder_sorts bs) (o ∷ sorts_in (place_at c));
        is = constructor_erases (behind_are s b (types_are s a (parts_of_binders bs (below_value o (scope_at c)))));
        on_left = known_by m.expr knows_constructor_scrutinee;
        on_right = known_by m.expr knows_constructor_scrutinee;
        expr_written = m.expr_written;
        fact_written = behind_written b (types_written a (parts_written bs));
      }
  nknows_holds nknows_literal_binder pl = record { fact = _; sorted = tt; is = literal_erases; on_left = knows_literal_binder; on_right = knows_literal_binder; expr_written = tt; fact_written = tt }
  nknows_holds (nknows_literal_scrutinee {xt = xt} {s = e} {z = z} {c = c} w) pl =
      let m = moved_by (scope_at c) (below_value (sort_of_type xt) (scope_at c)) past_a_value suc (past_value_erases (sort_of_type xt) (scope_at c)) e (NFactNoneOf []) w tt in
      record {
        fact = FactNumber z;
        sorted = tt;
        is = literal_erases;
        on_left = known_by m.expr knows_literal_scrutinee;
        on_right = known_by m.expr knows_literal_scrutinee;
        expr_written = m.expr_written;
        fact_written = tt;
      }
  nknows_holds (nknows_default_binder {xt = xt} {all = all} {c = c}) pl =
      let h = heads_are (below_value (sort_of_type xt) (scope_at c)) all in
      record {
        fact = FactNoneOf (heads_among all);
        sorted = tt;
        is = none_erases;
        on_left = known_none refl h knows_default_binder;
        on_right = known_none refl h knows_default_binder;
        expr_written = tt;
        fact_written = tt;
      }
  nknows_holds (nknows_default_scrutinee {xt = xt} {s = e} {all = all} {c = c} w) pl =
      let h = heads_are (below_value (sort_of_type xt) (scope_at c)) all in
      let m = moved_by (scope_at c) (below_value (sort_of_type xt) (scope_at c)) past_a_value suc (past_value_erases (sort_of_type xt) (scope_at c)) e (NFactNoneOf []) w tt in
      record {
        fact = FactNoneOf (heads_among all);
        sorted = tt;
        is = none_erases;
        on_left = known_none m.expr h knows_default_scrutinee;
        on_right = known_none m.expr h knows_default_scrutinee;
        expr_written = m.expr_written;
        fact_written = tt;
      }
  nknows_holds (nknows_let_constructor {t = t} {n = n} {args = args} {parts = parts} {c = c} w b) pl =
      let s = scope_at c in
      let o = sort_of_type t in
      record {
        fact = FactCon n (arg_sorts s args) (ren_terms suc (erased_args s args));
        sorted = fact_sorted suc (sorts_in (place_at c)) (o ∷ sorts_in (place_at c)) (one_more_sort o (sorts_in (place_at c))) (FactCon n (arg_sorts s args) (erased_args s args)) pl.0;
        is = constructor_erases (parts_moved s (below_value o s) past_a_value suc (past_value_erases o s) (behind_written b w) (behind_are s b (args_are s args)));
        on_left = knows_let_constructor;
        on_right = knows_let_constructor;
        expr_written = tt;
        fact_written = written_args variables coercion_variables AnyVariable kept_variables past_a_value (λ j. tt) parts (behind_written b w);
      }
  nknows_holds (nknows_let_head l r) pl = record { fact = _; sorted = tt; is = none_erases; on_left = knows_let_head l; on_right = knows_let_head r; expr_written = tt; fact_written = tt }
  nknows_holds (nknows_member_constructor {bs = bs} {cs = cs} {c = c} {i = i} {n = n} {args = args} {parts = parts} m same w b) pl =
      let s = below_binds bs (scope_at c) in
      let x = FactCon n (arg_sorts s args) (erased_args s args) in
      let here = member_value (scope_at c) m in
      record {
        fact = x;
        sorted = member_sorted (sorts_in (place_at (NPastGroup bs cs c))) s m pl.0;
        is = constructor_erases (behind_are s b (args_are s args));
        on_left = subst (λ j. Knows G (BelowGroup (erased_rights s bs) (side_on_left (place_at c))) (Var j) x) (sym here) (knows_member_constructor (left_member s m));
        on_right = subst (λ j. Knows G (BelowGroup (erased_rights s cs) (side_on_right (place_at c))) (Var j) x) (sym here)
            (knows_member_constructor (subst (MemberAt (erased_rights s cs) i) (sym same) (right_member s m)));
        expr_written = tt;
        fact_written = behind_written b w;
      }
  nknows_holds (nknows_member_head {bs = bs} {cs = cs} {c = c} {i = i} m l r) pl =
      let s = below_binds bs (scope_at c) in
      let here = member_value (scope_at c) m in
      record {
        fact = FactNoneOf [];
        sorted = tt;
        is = none_erases;
        on_left = subst (λ j. Knows G (BelowGroup (erased_rights s bs) (side_on_left (place_at c))) (Var j) (FactNoneOf [])) (sym here) (knows_member_head (left_member s m) l);
        on_right = subst (λ j. Knows G (BelowGroup (erased_rights s cs) (side_on_right (place_at c))) (Var j) (FactNoneOf [])) (sym here) (knows_member_head (right_member s m) r);
        expr_written = tt;
        fact_written = tt;
      }
  nknows_holds (nknows_below {b = b} {c = c} {e = e} {f = f} w) pl = below_one b c e f (nknows_holds w pl)
  nknows_holds (nknows_below_all {bs = bs} {c = c} {e = e} {f = f} w) pl = below_bodies bs (place_at c) (scope_at c) e f (nknows_holds w pl)
  nknows_holds (nknows_past_let {t = t} {c = c} {e = e} {f = f} w) pl =
      let h = nknows_holds w pl.1 in
      holds_moved _ _ _ _ (scope_at c) _ suc e _ f _ (one_more_sort _ _)
      (moved_by (scope_at c) (below_value (sort_of_type t) (scope_at c)) past_a_value suc (past_value_erases (sort_of_type t) (scope_at c)) e f h.expr_written h.fact_written)
      (λ u x k. knows_past_let k) (λ u x k. knows_past_let k) h
  nknows_holds (nknows_past_group {bs = bs} {cs = cs} {c = c} {e = e} {f = f} n w) pl =
      let h = nknows_holds w pl.1 in
      let s = scope_at c in
      let i = below_binds bs s in
      let q : ℕ → ℕ = λ m. bind_count bs + m in
      let g = sorts_in (place_at c) in
      let ts = erased_rights i bs in
      let into = subst (λ m. Renames (λ j. m + j) g (enters (lifteds ts) g)) (length-lifteds ts ∙ rights_count i bs) (more_sorts (lifteds ts) g) in
      holds_moved _ _ _ _ s i q e _ f _ into (moved_by s i (past_values (bind_count bs)) q (past_group_erases bs s) e f h.expr_written h.fact_written)
      (λ u x k. subst (λ m. Knows G (BelowGroup (erased_rights i bs) (side_on_left (place_at c))) (ren (λ j. m + j) u) (moved_fact (λ j. m + j) x)) (rights_count i bs) (knows_past_group k))
      (λ u x k. subst (λ m. Knows G (BelowGroup (erased_rights i cs) (side_on_right (place_at c))) (ren (λ j. m + j) u) (moved_fact (λ j. m + j) x)) (rights_count i cs ∙ sym n) (knows_past_group k)) h
  nknows_holds (nknows_past_join {c = c} {e = e} {f = f} w) pl =
      let h = nknows_holds w pl in
      holds_moved _ _ _ _ (scope_at c) _ suc e _ f _ (one_more_sort _ _)
      (moved_by (scope_at c) (below_join (scope_at c)) past_a_join suc (past_join_erases (scope_at c)) e f h.expr_written h.fact_written) (λ u x k. knows_past_let k) (λ u x k. knows_past_let k) h
  nknows_holds (nknows_past_joins {js = js} {ks = ks} {c = c} {e = e} {f = f} n w) pl =
      let h = nknows_holds w pl in
      let s = scope_at c in
      let i = below_joins js s in
      let q : ℕ → ℕ = λ m. join_count js + m in
      let g = sorts_in (place_at c) in
      let ts = erased_joins i js in
      let into = subst (λ m. Renames (λ j. m + j) g (enters (lifteds ts) g)) (length-lifteds ts ∙ joins_count i js) (more_sorts (lifteds ts) g) in
      holds_moved _ _ _ _ s i q e _ f _ into (moved_by s i (past_joins (join_count js)) q (past_joins_erases js s) e f h.expr_written h.fact_written)
      (λ u x k. subst (λ m. Knows G (BelowGroup (erased_joins i js) (side_on_left (place_at c))) (ren (λ j. m + j) u) (moved_fact (λ j. m + j) x)) (joins_count i js) (knows_past_group k))
      (λ u x k. subst (λ m. Knows G (BelowGroup (erased_joins i ks) (side_on_right (place_at c))) (ren (λ j. m + j) u) (moved_fact (λ j. m + j) x)) (joins_count i ks ∙ sym n) (knows_past_group k)) h
  nknows_holds (nknows_past_alternative {xt = xt} {s = s} {t = t} {all = all} {h = hd} {bs = bs} {c = c} {e = e} {f = f} own w) pl =
      let h = nknows_holds w pl in
      let n = own_binders hd bs own in
      let o = sort_of_type xt in
      let hs = heads_of (erased_alts (below_value o (scope_at c)) all) in
      let q : ℕ → ℕ = λ m. length (binder_sorts bs) + suc m in
      holds_moved _ _ _ _ (scope_at c) _ q e _ f _ (into_sorts hd bs o (sorts_in (place_at c)) own) (moved_into o bs (scope_at c) e f h.expr_written h.fact_written)
      (λ u x k. subst (λ m. Knows G (InAlternative o (erased (scope_at c) s) hs (erased_head hd bs) (side_on_left (place_at c))) (ren (λ j. m + suc j) u) (moved_fact (λ j. m + suc j) x))
      n (knows_past_alternative k))
      (λ u x k. subst (λ m. Knows G (InAlternative o (erased (scope_at c) t) hs (erased_head hd bs) (side_on_right (place_at c))) (ren (λ j. m + suc j) u) (moved_fact (λ j. m + suc j) x))
      n (knows_past_alternative k)) h
