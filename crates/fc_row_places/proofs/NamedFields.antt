-- A case of a constructor, as lets for its fields and its alternative at the variables of these lets.
use Rattle.std.proofs.Common.{◌≡◌, ℕ, zero, suc, ◌+◌, List, [], ◌∷◌, length, refl, sym, ap, ap₂, ◌∙◌, subst, subst₂, arith}
use Rattle.std.proofs.Math.Path.{fun_ext}
use Rattle.fc_syntax.specs.declared.ty.Name.{Name}
use Rattle.fc_model.specs.Erasure.{Scope, arg_sorts, below_all, below_value, binder_sorts, coercion_token, erased, erased_alts, erased_args, sort_of, sort_of_type}
use Rattle.fc_model.specs.Nameless.{NTy, NBinder, NBValue, NBType, NBCo, NExpr, NCon, NATerm, NAType, NACo, NArgs, NoNArgs, MoreNArgs, NAlts}
use Rattle.fc_model.specs.Replacing.{variables, coercion_variables, below_binders, below_values, past_a_value, renamed, replaced, with_argument, with_arguments, unchanged}
use Rattle.fc_model.specs.Stepping.{Program, ConKey, Fielded, choose, fire, next, through}
use Rattle.fc_model.specs.Terms.{Sort, Lifted, Unlifted, Term, Var, Let, Case, Con, Terms, Cons, count, ren_terms, push, pushes, sub, sub_terms, up, ups, upr}
use Rattle.fc_model.proofs.RenamedItself.{binders_themselves}
use Rattle.fc_rows.specs.Shrinking.{moved_args, named_arguments, term_count}
use Rattle.fc_rows.specs.Surroundings.{past_values}
use Rattle.fc_meaning.proofs.Unnamed.{count-ren, sub-ren, sub-ren_terms}
use Rattle.fc_meaning.proofs.WrittenExpressions.{AreArgsWritten, IsWritten}
use Rattle.fc_counted.specs.Closings.{Closing}
use Rattle.fc_counted.proofs.TermSubstitutions.{count-sub, put_all, put_fields, push-up, sub-sub}
use Rattle.fc_erased.specs.Erasing.{Erases}
use Rattle.fc_erased.specs.ErasureLaws.{AnyVariable}
use Rattle.fc_erased.proofs.ErasedPut.{erases_all, erases_value}
use Rattle.fc_erased.proofs.ErasedReplacements.{erased_renamed, erased_replaced, kept_variables, past_value_erases, written_renamed}
use Rattle.fc_erased.proofs.WrittenPut.{written_args}
use Rattle.fc_term_rows.specs.Heads.{SameHeads}
use Rattle.fc_term_rows.proofs.CasesEntered.{enter_fielded}
use Rattle.fc_term_rows.proofs.Instances.{pushes-after}
use Rattle.fc_term_rows.proofs.InstancesStep.{next_let}
use Rattle.fc_term_rows.proofs.SameHeads as same
use Rattle.fc_row_places.specs.KnowingRows.{AtFields, binder_bound, binder_put, BehindLets, behind_all_lets, behind_coercion, behind_let, behind_type, body_past_lets, PartsFit, right_past_lets}
use Rattle.fc_row_places.specs.NamelessFacts.{BehindTypes, behind_none, behind_one}
use Rattle.fc_row_places.proofs.MovedFacts.{args_are, behind_are, behind_written, parts_moved}
use Rattle.fc_row_places.proofs.MovedParts.{moved_expr, unchanged_erases}
use Rattle.fc_row_places.proofs.OpenedErased.{behind_terms, count_args, fits_past, with_parts, with_term}

-- SCOPES BEHIND LETS

-- behind a let for each term among arguments, whose sorts are those of the scope s
below_terms : Scope → NArgs → Scope → Scope
below_terms s NoNArgs d = d
below_terms s (MoreNArgs (NATerm a) rest) d = below_terms s rest (below_value (sort_of s a) d)
below_terms s (MoreNArgs (NAType u) rest) d = below_terms s rest d
below_terms s (MoreNArgs (NACo g) rest) d = below_terms s rest d

-- and what the lets put in, where q closes s
closed_terms : Closing → Scope → NArgs → Closing → Closing
closed_terms q s NoNArgs g = g
closed_terms q s (MoreNArgs (NATerm a) rest) g = closed_terms q s rest (push (sub q (erased s a)) g)
closed_terms q s (MoreNArgs (NAType u) rest) g = closed_terms q s rest g
closed_terms q s (MoreNArgs (NACo h) rest) g = closed_terms q s rest g

-- the scope d, closed by g, is i values past the scope s, closed by q
record Past (i : ℕ) (s d : Scope) (q g : Closing) : Type 0 where
  values : (j : ℕ) → d.values (j + i) ≡ i + s.values j
  sorts : (j : ℕ) → d.sorts (j + i) ≡ s.sorts j
  joins : (j : ℕ) → d.joins j ≡ i + s.joins j
  closes : (n : ℕ) → g (i + n) ≡ q n

past_none : (s : Scope) (q : Closing) → Past 0 s s q q
past_none s q = record {
  values = λ j. (let e : j + 0 ≡ j = omega arith in let f : s.values j ≡ 0 + s.values j = omega arith in ap s.values e ∙ f);
  sorts = λ j. (let e : j + 0 ≡ j = omega arith in ap s.sorts e);
  joins = λ j. omega arith;
  closes = λ n. (let e : 0 + n ≡ n = omega arith in ap q e);
}

past_more : {i : ℕ} {s d : Scope} {q g : Closing} (o : Sort) (x : Term) → Past i s d q g → Past (suc i) s (below_value o d) q (push x g)
unfolding upr push
past_more {i = i} {s = s} {d = d} {q = q} {g = g} o x p = record {
  values = λ j. (let e : j + suc i ≡ suc (j + i) = omega arith in let f : suc (i + s.values j) ≡ suc i + s.values j = omega arith in ap (upr d.values) e ∙ ap suc (p.values j) ∙ f);
  sorts = λ j. (let e : j + suc i ≡ suc (j + i) = omega arith in ap (below_value o d).sorts e ∙ p.sorts j);
  joins = λ j. (let f : suc (i + s.joins j) ≡ suc i + s.joins j = omega arith in ap suc (p.joins j) ∙ f);
  closes = λ n. (let e : suc i + n ≡ suc (i + n) = omega arith in ap (push x g) e ∙ p.closes n);
}

past_all : (k : Scope) (h : Closing) (args : NArgs) (i m : ℕ) → m ≡ i + term_count args → {s d : Scope} {q g : Closing} → Past i s d q g → Past m s (below_terms k args d) q (closed_terms h k args g)
unfolding below_terms closed_terms
past_all k h NoNArgs i m e {s = s} {d = d} {q = q} {g = g} p = let f : i ≡ m = omega (arith, e) in subst (λ x. Past x s d q g) f p
past_all k h (MoreNArgs (NATerm a) rest) i m e p = let f : m ≡ suc i + term_count rest = omega (arith, e) in past_all k h rest (suc i) m f (past_more (sort_of k a) (sub h (erased k a)) p)
past_all k h (MoreNArgs (NAType u) rest) i m e p = past_all k h rest i m e p
past_all k h (MoreNArgs (NACo c) rest) i m e p = past_all k h rest i m e p

past_terms : (k : Scope) (h : Closing) (args : NArgs) (s : Scope) (q : Closing) → Past (term_count args) s (below_terms k args s) q (closed_terms h k args q)
past_terms k h args s q = let e : term_count args ≡ 0 + term_count args = omega arith in past_all k h args 0 (term_count args) e (past_none s q)

past_erases : {i : ℕ} {s d : Scope} {q g : Closing} → Past i s d q g → Erases variables AnyVariable d s (past_values i) (λ n. Var (i + n))
past_erases p = record { good = λ j. tt; values = λ j. ap Var (p.values j); sorts = p.sorts; joins = λ j. ap Var (sym (p.joins j)); types = λ j. refl }

-- LETS

module _ (P : Program) (s : Scope) (q : Closing) where
  -- lets come to what stands behind them
  lets_come : {b f : NExpr} {i : ℕ} {args : NArgs} → BehindLets s b i args f → (d : Scope) (g : Closing) → Past i s d q g → AreArgsWritten args
      → SameHeads P (sub g (erased d f)) (sub (closed_terms q s args g) (erased (below_terms s args d) b))
  unfolding below_terms closed_terms
  lets_come behind_all_lets d g p w = same.same_refl P _
  lets_come {b = b} {i = i} (behind_let {a = a} {f = f} {rest = rest} t e more) d g p w =
      let x = sub q (erased s a) in
      let o = sort_of_type t in
      let moved = erased d (renamed (past_values i) a) in
      let here : sub g moved ≡ x = ap (sub g) (moved_expr d s (past_values i) (λ n. i + n) (past_erases p) a w.0) ∙ sub-ren g (λ n. i + n) (erased s a) ∙ ap (λ c. sub c (erased s a)) (fun_ext p.closes) in
      let there = sub (closed_terms q s rest (push x g)) (erased (below_terms s rest (below_value (sort_of s a) d)) b) in
      let tail = lets_come more (below_value (sort_of s a) d) (push x g) (past_more (sort_of s a) x p) w.1 in
      same.same_trans P (sub g (Let o moved (erased (below_value o d) f))) (sub (push (sub g moved) g) (erased (below_value o d) f)) there
      (same.same_next P _ _ (next_let P o moved (erased (below_value o d) f) g))
      (subst₂ (λ y r. SameHeads P (sub (push y g) (erased (below_value r d) f)) there) (sym here) e tail)
  lets_come (behind_type more) d g p w = lets_come more d g p w.1
  lets_come (behind_coercion more) d g p w = lets_come more d g p w.1

  -- the variable of the first of these lets
  first_sort : (a : NExpr) (rest : NArgs) (d : Scope) → (below_terms s rest (below_value (sort_of s a) d)).sorts (term_count rest) ≡ sort_of s a
  first_sort a rest d =
      let e : term_count rest ≡ 0 + term_count rest = omega arith in
      let i = below_value (sort_of s a) d in
      ap (below_terms s rest i).sorts e ∙ (past_terms s q rest i q).sorts 0

  first_term : (a : NExpr) (rest : NArgs) (d : Scope) (g : Closing) → closed_terms q s rest (push (sub q (erased s a)) g) ((below_terms s rest (below_value (sort_of s a) d)).values (term_count rest)) ≡ sub q (erased s a)
  unfolding upr push
  first_term a rest d g =
      let e : term_count rest ≡ 0 + term_count rest = omega arith in
      let i = below_value (sort_of s a) d in
      let x = push (sub q (erased s a)) g in
      let p = past_terms s q rest i x in
      ap (closed_terms q s rest x) (ap (below_terms s rest i).values e ∙ p.values 0) ∙ p.closes 0

  named_sorts : (args : NArgs) (d : Scope) → arg_sorts (below_terms s args d) (named_arguments args) ≡ arg_sorts s args
  unfolding below_terms
  named_sorts NoNArgs d = refl
  named_sorts (MoreNArgs (NATerm a) rest) d = ap₂ ◌∷◌ (first_sort a rest d) (named_sorts rest (below_value (sort_of s a) d))
  named_sorts (MoreNArgs (NAType u) rest) d = named_sorts rest d
  named_sorts (MoreNArgs (NACo g) rest) d = ap (λ l. Unlifted ∷ l) (named_sorts rest d)

  named_terms : (args : NArgs) (d : Scope) (g : Closing) → sub_terms (closed_terms q s args g) (erased_args (below_terms s args d) (named_arguments args)) ≡ sub_terms q (erased_args s args)
  unfolding below_terms closed_terms sub
  named_terms NoNArgs d g = refl
  named_terms (MoreNArgs (NATerm a) rest) d g = ap₂ Cons (first_term a rest d g) (named_terms rest (below_value (sort_of s a) d) (push (sub q (erased s a)) g))
  named_terms (MoreNArgs (NAType u) rest) d g = named_terms rest d g
  named_terms (MoreNArgs (NACo c) rest) d g = ap (Cons coercion_token) (named_terms rest d g)

  named_fit : (args : NArgs) (bs : List NBinder) (d : Scope) → PartsFit s args bs → PartsFit (below_terms s args d) (named_arguments args) bs
  unfolding below_terms
  named_fit NoNArgs [] d f = tt
  named_fit (MoreNArgs (NATerm a) rest) (NBValue t ∷ bs) d f = (first_sort a rest d ∙ f.0, named_fit rest bs (below_value (sort_of s a) d) f.1)
  named_fit (MoreNArgs (NAType u) rest) (NBType k ∷ bs) d f = (f.0, named_fit rest bs d f.1)
  named_fit (MoreNArgs (NACo g) rest) (NBCo r t u ∷ bs) d f = named_fit rest bs d f
  named_fit NoNArgs (b ∷ bs) d f = absurd f
  named_fit (MoreNArgs (NATerm e) rest) [] d f = absurd f
  named_fit (MoreNArgs (NAType u) rest) [] d f = absurd f
  named_fit (MoreNArgs (NACo g) rest) [] d f = absurd f
  named_fit (MoreNArgs (NATerm e) rest) (NBType k ∷ bs) d f = absurd f
  named_fit (MoreNArgs (NATerm e) rest) (NBCo q t u ∷ bs) d f = absurd f
  named_fit (MoreNArgs (NAType u) rest) (NBValue t ∷ bs) d f = absurd f
  named_fit (MoreNArgs (NAType u) rest) (NBCo q t v ∷ bs) d f = absurd f
  named_fit (MoreNArgs (NACo g) rest) (NBValue t ∷ bs) d f = absurd f
  named_fit (MoreNArgs (NACo g) rest) (NBType k ∷ bs) d f = absurd f

named_written : (args : NArgs) → AreArgsWritten args → AreArgsWritten (named_arguments args)
named_written NoNArgs w = tt
named_written (MoreNArgs (NATerm e) rest) w = (tt, named_written rest w.1)
named_written (MoreNArgs (NAType t) rest) w = (tt, named_written rest w.1)
named_written (MoreNArgs (NACo g) rest) w = (tt, named_written rest w.1)

-- A RIGHT SIDE OF A JOIN POINT

-- lets for arguments come to the right side of a join point with the arguments put in
pub right_named : (P : Program) (s : Scope) (q : Closing) (args : NArgs) (ps : List NBinder) (a : NExpr) {f : NExpr} → AreArgsWritten args → IsWritten a → PartsFit s args ps
    → BehindLets s (right_past_lets args ps a) 0 args f → SameHeads P (sub q (erased s f)) (sub (pushes (sub_terms q (erased_args s args)) q) (erased (below_all ps s) a))
unfolding sub
right_named P s q args ps a {f = f} wr wa fits lets =
    let m = term_count args in
    let d = below_terms s args s in
    let g = closed_terms q s args q in
    let p = past_terms s q args s q in
    let named = named_arguments args in
    let ts = erased_args d named in
    let below = below_binders variables coercion_variables ps (past_values m) in
    let whole = erased (below_all ps s) a in
    let onward : ℕ → Term = λ n. Var (m + n) in
    let moves = subst (λ xs. Erases variables AnyVariable (below_all xs d) (below_all ps s) below (ups (length (binder_sorts ps)) onward)) (binders_themselves ps)
    (erases_all variables coercion_variables AnyVariable kept_variables ps d s (past_values m) onward (past_erases p)) in
    let all = with_parts d named ps (arg_sorts d named) ts (named_written args wr) (named_fit P s q args ps s fits) (args_are d named) d unchanged Var (unchanged_erases d) in
    let n : length (binder_sorts ps) ≡ count ts = ap length all.0 ∙ count_args d named in
    let one = erased_replaced d (below_all ps d) (with_arguments named unchanged) (pushes ts Var) all.1 (renamed below a) (written_renamed below a wa) in
    let two = ap (sub (pushes ts Var)) (erased_renamed _ _ _ _ moves a wa ∙ ap (λ k. sub (ups k onward) whole) n) ∙ put_all ts onward whole in
    let last : pushes (sub_terms g ts) (λ k. sub g (onward k)) ≡ pushes (sub_terms q (erased_args s args)) q = ap₂ pushes (named_terms P s q args s q) (fun_ext p.closes) in
    let there : sub g (erased d (right_past_lets args ps a)) ≡ sub (pushes (sub_terms q (erased_args s args)) q) whole =
    ap (sub g) (one ∙ two) ∙ sub-sub g (pushes ts onward) whole ∙ ap (λ h. sub h whole) (pushes-after g ts onward ∙ last) in
    same.same_trans P _ (sub g (erased d (right_past_lets args ps a))) _ (lets_come P s q lets s q (past_none s q) wr) (same.same_is P _ _ there)

-- TYPES BEFORE THE PARTS

behind_below : (s : Scope) {args parts : NArgs} → BehindTypes args parts → (d : Scope) → below_terms s args d ≡ below_terms s parts d
unfolding below_terms
behind_below s behind_none d = refl
behind_below s (behind_one b) d = behind_below s b d

behind_closed : (q : Closing) (s : Scope) {args parts : NArgs} → BehindTypes args parts → (g : Closing) → closed_terms q s args g ≡ closed_terms q s parts g
unfolding closed_terms
behind_closed q s behind_none g = refl
behind_closed q s (behind_one b) g = behind_closed q s b g

behind_count : {args parts : NArgs} → BehindTypes args parts → term_count args ≡ term_count parts
behind_count behind_none = refl
behind_count (behind_one b) = behind_count b

-- THE ALTERNATIVE

-- the body past lets
body_moves : {m : ℕ} {s d : Scope} {q g : Closing} → Past m s d q g → (o : Sort) (bs : List NBinder)
    → Erases variables AnyVariable (below_all bs (below_value o d)) (below_all bs (below_value o s))
    (below_binders variables coercion_variables bs (below_values variables coercion_variables 1 (past_values m))) (ups (length (binder_sorts bs)) (up (λ n. Var (m + n))))
body_moves {m = m} {s = s} {d = d} p o bs =
    let r = below_values variables coercion_variables 1 (past_values m) in
    let one = erases_value variables coercion_variables AnyVariable kept_variables o o refl d s (past_values m) (λ n. Var (m + n)) (past_erases p) in
    subst (λ xs. Erases variables AnyVariable (below_all xs (below_value o d)) (below_all bs (below_value o s)) (below_binders variables coercion_variables bs r)
    (ups (length (binder_sorts bs)) (up (λ n. Var (m + n))))) (binders_themselves bs)
    (erases_all variables coercion_variables AnyVariable kept_variables bs (below_value o d) (below_value o s) r (up (λ n. Var (m + n))) one)

-- behind the lets for the parts, d, closed by g: y stands for the binder of the case
module _ (P : Program) (s : Scope) (q : Closing) (args parts : NArgs) (bs : List NBinder) (b : NExpr) (behind : BehindTypes args parts) (wr : AreArgsWritten parts) (wb : IsWritten b)
    (fits : PartsFit s parts bs) where
  scope_behind : Scope
  scope_behind = below_terms s parts s

  closing_behind : Closing
  closing_behind = closed_terms q s parts q

  all_past : Past (term_count args) s scope_behind q closing_behind
  unfolding scope_behind closing_behind
  all_past = subst (λ m. Past m s (below_terms s parts s) q (closed_terms q s parts q)) (sym (behind_count behind)) (past_terms s q parts s q)

  named : NArgs
  named = named_arguments parts

  -- the fields, on terms
  fields : Terms
  fields = erased_args scope_behind named

  fields_are : sub_terms closing_behind fields ≡ sub_terms q (erased_args s parts)
  unfolding fields named scope_behind closing_behind
  fields_are = named_terms P s q parts s q

  named_fits : PartsFit scope_behind named bs
  unfolding named scope_behind
  named_fits = named_fit P s q parts bs s fits

  named_well : AreArgsWritten named
  unfolding named
  named_well = named_written parts wr

  onward : ℕ → Term
  onward n = Var (term_count args + n)

  onward_closed : (λ n. sub closing_behind (onward n)) ≡ q
  unfolding onward sub
  onward_closed = fun_ext all_past.closes

  whole : Term
  whole = erased (below_all bs (below_value Lifted s)) b

  body_is : erased (below_all bs (below_value Lifted scope_behind)) (body_past_lets args bs b) ≡ sub (ups (length (binder_sorts bs)) (up onward)) whole
  unfolding onward whole
  body_is = erased_renamed _ _ _ _ (body_moves all_past Lifted bs) b wb

  body_well : IsWritten (body_past_lets args bs b)
  body_well = written_renamed _ b wb

  taken : Term → Term
  taken x = sub (pushes (sub_terms q (erased_args s parts)) (push x q)) whole

  module _ (y : NExpr) (wy : IsWritten y) (ly : sort_of scope_behind y ≡ Lifted) where
    put_same : sub closing_behind (erased scope_behind (replaced (with_arguments (MoreNArgs (NATerm y) named) unchanged) (body_past_lets args bs b))) ≡ taken (sub closing_behind (erased scope_behind y))
    unfolding taken fields push onward sub
    put_same =
        let d = scope_behind in
        let x = erased d y in
        let first = with_term d d unchanged Var y Lifted x wy ly refl (unchanged_erases d) in
        let all = with_parts d named bs (arg_sorts d named) fields named_well named_fits (args_are d named) (below_value Lifted d) (with_argument (NATerm y) unchanged) (push x Var) first in
        let n : length (binder_sorts bs) ≡ count fields = ap length all.0 ∙ count_args d named in
        let one = erased_replaced d (below_all bs (below_value Lifted d)) (with_arguments named (with_argument (NATerm y) unchanged)) (pushes fields (push x Var)) all.1 (body_past_lets args bs b) body_well in
        let two = ap (sub (pushes fields (push x Var))) (body_is ∙ ap (λ m. sub (ups m (up onward)) whole) n) ∙ put_fields fields x onward whole in
        let last : (λ k. sub closing_behind (push x onward k)) ≡ push (sub closing_behind x) q = fun_ext (elim [ zero ↦ refl | suc k ↦ ap (λ f. f k) onward_closed ]) in
        ap (sub closing_behind) (one ∙ two) ∙ sub-sub closing_behind (pushes fields (push x onward)) whole ∙ ap (λ f. sub f whole) (pushes-after closing_behind fields (push x onward) ∙ ap₂ pushes fields_are last)

    bound_same : SameHeads P (sub closing_behind (Let Lifted (erased scope_behind y) (erased (below_value Lifted scope_behind) (replaced (with_arguments (moved_args past_a_value named) unchanged) (body_past_lets args bs b)))))
        (taken (sub closing_behind (erased scope_behind y)))
    unfolding taken fields push sub
    bound_same =
        let d = scope_behind in
        let i = below_value Lifted d in
        let x = sub closing_behind (erased d y) in
        let past = moved_args past_a_value named in
        let ts = ren_terms suc fields in
        let all = with_parts i past bs (arg_sorts d named) ts (written_args variables coercion_variables AnyVariable kept_variables past_a_value (λ j. tt) named named_well) (fits_past Lifted d named bs named_fits)
        (parts_moved d i past_a_value suc (past_value_erases Lifted d) named_well (args_are d named)) i unchanged Var (unchanged_erases i) in
        let n : length (binder_sorts bs) ≡ count ts = ap length all.0 ∙ count_args d named ∙ sym (count-ren suc fields) in
        let one = erased_replaced i (below_all bs i) (with_arguments past unchanged) (pushes ts Var) all.1 (body_past_lets args bs b) body_well in
        let two = ap (sub (pushes ts Var)) (body_is ∙ ap (λ m. sub (ups m (up onward)) whole) n) ∙ put_all ts (up onward) whole in
        let back : sub_terms (push x closing_behind) ts ≡ sub_terms q (erased_args s parts) = sub-ren_terms (push x closing_behind) suc fields ∙ fields_are in
        let last : (λ k. sub (push x closing_behind) (up onward k)) ≡ push x q = push-up x closing_behind onward ∙ ap (push x) onward_closed in
        let body = erased i (replaced (with_arguments past unchanged) (body_past_lets args bs b)) in
        let whole_is : sub (push x closing_behind) body ≡ taken x =
        ap (sub (push x closing_behind)) (one ∙ two) ∙ sub-sub (push x closing_behind) (pushes ts (up onward)) whole ∙ ap (λ f. sub f whole) (pushes-after (push x closing_behind) ts (up onward) ∙ ap₂ pushes back last) in
        same.same_trans P _ (sub (push x closing_behind) body) _ (same.same_next P _ _ (next_let P Lifted (erased d y) body closing_behind)) (same.same_is P _ _ whole_is)

-- both forms of the alternative
alternative : (xt : NTy) (P : Program) (s : Scope) (q : Closing) (args parts : NArgs) (bs : List NBinder) (b : NExpr) (behind : BehindTypes args parts) → AreArgsWritten parts → IsWritten b → PartsFit s parts bs → (n : Name) → sort_of_type xt ≡ Lifted → {d : NExpr} → AtFields xt n args parts bs b d → AreArgsWritten args
    → SameHeads P (sub (closed_terms q s parts q) (erased (below_terms s parts s) d))
    (sub (pushes (sub_terms q (erased_args s parts)) (push (sub (closed_terms q s parts q) (erased (below_terms s parts s) (NCon n (named_arguments args)))) q)) (erased (below_all bs (below_value Lifted s)) b))
unfolding taken whole scope_behind closing_behind named
alternative xt P s q args parts bs b behind wp wb ok n l binder_put wr =
    same.same_is P _ _ (put_same P s q args parts bs b behind wp wb ok (NCon n (named_arguments args)) (named_written args wr) refl)
alternative xt P s q args parts bs b behind wp wb ok n l binder_bound wr =
    let i = below_terms s parts s in
    let g = closed_terms q s parts q in
    let y = NCon n (named_arguments args) in
    let r = replaced (with_arguments (moved_args past_a_value (named_arguments parts)) unchanged) (body_past_lets args bs b) in
    subst (λ o. SameHeads P (sub g (Let o (erased i y) (erased (below_value o i) r))) (sub (pushes (sub_terms q (erased_args s parts)) (push (sub g (erased i y)) q)) (erased (below_all bs (below_value Lifted s)) b)))
    (sym l) (bound_same P s q args parts bs b behind wp wb ok y (named_written args wr) refl)

-- a case of a constructor comes to its alternative at the fields that are named
pub con_named : (P : Program) (s : Scope) (n : Name) (args parts : NArgs) (alts : NAlts) (bs : List NBinder) (b : NExpr) {xt : NTy} {d f : NExpr} → AreArgsWritten args → BehindTypes args parts → IsWritten b
    → PartsFit s parts bs
    → choose (ConKey n) (erased_alts (below_value Lifted s) alts) ≡ Fielded (binder_sorts bs) (erased (below_all bs (below_value Lifted s)) b) → sort_of_type xt ≡ Lifted
    → AtFields xt n args parts bs b d → BehindLets s d 0 args f → (q : Closing)
    → SameHeads P (sub q (Case Lifted (erased s (NCon n args)) (erased_alts (below_value Lifted s) alts))) (sub q (erased s f))
unfolding sub next fire through
con_named P s n args parts alts bs b {xt = xt} {d = d} {f = f} wr behind wb ok e l inner lets q =
    let con = erased s (NCon n args) in
    let ss = arg_sorts s args in
    let ts = sub_terms q (erased_args s args) in
    let body = erased (below_all bs (below_value Lifted s)) b in
    let wp = behind_written behind wr in
    let are = behind_are s behind (args_are s args) in
    let sorts : binder_sorts bs ≡ ss = (with_parts s parts bs ss (erased_args s args) wp ok are s unchanged Var (unchanged_erases s)).0 in
    let here = enter_fielded (sub q con) ss ts q (ConKey n) (erased_alts (below_value Lifted s) alts) body (count_args s args ∙ sym (count-sub q (erased_args s args)))
    (e ∙ ap (λ z. Fielded z body) sorts) in
    let i = below_terms s parts s in
    let g = closed_terms q s parts q in
    let y = NCon n (named_arguments args) in
    let come = subst₂ (λ i g. SameHeads P (sub q (erased s f)) (sub g (erased i d))) (behind_below s behind s) (behind_closed q s behind q) (lets_come P s q lets s q (past_none s q) wr) in
    let value : sub g (erased i y) ≡ sub q con =
    subst₂ (λ i g. sub g (erased i y) ≡ sub q con) (behind_below s behind s) (behind_closed q s behind q)
    (ap₂ (Con n) (named_sorts P s q args s) (named_terms P s q args s q)) in
    let last : SameHeads P (sub g (erased i d)) (sub (pushes (sub_terms q (erased_args s parts)) (push (sub g (erased i y)) q)) body) = alternative xt P s q args parts bs b behind wp wb ok n l inner wr in
    let there : sub (pushes (sub_terms q (erased_args s parts)) (push (sub g (erased i y)) q)) body ≡ sub (pushes ts (push (sub q con) q)) body =
    ap₂ (λ xs x. sub (pushes xs (push x q)) body) (ap (sub_terms q) (sym (behind_terms s behind))) value in
    same.same_trans P _ (sub (pushes ts (push (sub q con) q)) body) _ (same.same_next P _ _ here)
    (same.same_sym P _ _ (same.same_trans P _ (sub g (erased i d)) _ come (subst (SameHeads P (sub g (erased i d))) there last)))
