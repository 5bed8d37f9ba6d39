-- Join points whose right side is known at a place, and jumps in whose place it is put.
use Rattle.std.proofs.Common.{◌≡◌, ℕ, suc, ◌+◌, List, [], ◌∷◌, length, refl, sym, ap, ◌∙◌, subst, subst₂, arith}
use Rattle.std.proofs.Math.Path.{fun_ext}
use Rattle.fc_model.specs.Erasure.{Scope, applied, arg_sorts, below, below_all, below_binds, below_join, below_joins, below_unnamed, below_value, binder_sorts, coercion_token, erased, erased_alts}
use Rattle.fc_model.specs.Erasure.{erased_args, erased_head, erased_joins, erased_rights, lambdas, sort_of, sort_of_type}
use Rattle.fc_model.specs.Nameless.{NBinder, NBValue, NBType, NBCo, NExpr, NArgs, NoNArgs, MoreNArgs, NATerm, NAType, NACo}
use Rattle.fc_model.specs.Replacing.{Renaming, variables, coercion_variables, unchanged, past_a_type, past_a_coercion, past_a_value, past_a_join, bind_count, join_count, below_binders}
use Rattle.fc_model.specs.Stepping.{Program}
use Rattle.fc_model.specs.Terms.{Sort, Unlifted, Term, Var, App, count, ren, sub, sub_terms, pushes, ups, upr}
use Rattle.fc_rows.specs.Surroundings.{past_values, past_joins}
use Rattle.fc_meaning.proofs.WrittenExpressions.{AreArgsWritten, IsWritten}
use Rattle.fc_counted.specs.Closings.{Closing}
use Rattle.fc_counted.specs.Places.{Place, Side, BelowGroup, InAlternative, InBody, side_on_left, side_on_right, heads_of}
use Rattle.fc_counted.proofs.TermSubstitutions.{ren_is_sub, count-sub, ren-ren}
use Rattle.fc_erased.specs.Erasing.{Erases}
use Rattle.fc_erased.specs.ErasureLaws.{AnyVariable}
use Rattle.fc_erased.proofs.ErasedBinders.{own_binders, rights_count, joins_count}
use Rattle.fc_erased.proofs.ErasedPut.{erases_all, lambdas_put}
use Rattle.fc_erased.proofs.ErasedReplacements.{kept_variables, past_type_erases, past_coercion_erases, past_value_erases, past_join_erases, erased_renamed}
use Rattle.fc_erased.proofs.WrittenPut.{written_put}
use Rattle.fc_term_rows.specs.Facts.{Stands, stands_let, stands_past_lambda, stands_past_let, stands_past_group, stands_past_alternative}
use Rattle.fc_term_rows.specs.Heads.{SameHeads}
use Rattle.fc_term_rows.specs.TermRows.{applied_term}
use Rattle.fc_term_rows.proofs.LetsEntered.{applied-sub, same_applied}
use Rattle.fc_term_rows.proofs.SameHeads as same
use Rattle.fc_row_places.specs.KnowingRows.{BehindLets, PartsFit, right_past_lets}
use Rattle.fc_row_places.specs.NamelessFacts.{moved_params, moved_below, past_one, params_past_binders, below_past_binders, NKnowsJoin, join_here, join_past_let, join_past_group, join_past_join}
use Rattle.fc_row_places.specs.NamelessFacts.{join_below, join_past_joins, join_past_parameters, join_past_alternative}
use Rattle.fc_row_places.specs.NamelessPlaces.{NPlace, NBelow, scope_at, place_at, in_bodies}
use Rattle.fc_row_places.proofs.MovedFacts.{args_are, all_steps, behind, ren_itself, steps_of}
use Rattle.fc_row_places.proofs.MovedParts.{past_group_erases, past_joins_erases, unchanged_erases}
use Rattle.fc_row_places.proofs.NamedFields.{right_named}
use Rattle.fc_row_places.proofs.OpenedErased.{count_args, with_parts}

-- a join point when types are gone
abbrev pub join_term : Scope → List NBinder → NExpr → Term
join_term s ps a = lambdas (binder_sorts ps) (erased (below_all ps s) a)

module _ (s i : Scope) (r : Renaming) (q : ℕ → ℕ) (w : Erases variables AnyVariable i s r (λ n. Var (q n))) where
  moved_join : (ps : List NBinder) (a : NExpr) → IsWritten a → join_term i (moved_params r ps) (moved_below r ps a) ≡ ren q (join_term s ps a)
  moved_join ps a o =
      let below = below_binders variables coercion_variables ps r in
      let all = erases_all variables coercion_variables AnyVariable kept_variables ps i s r (λ n. Var (q n)) w in
      let right = erased_renamed (below_all (moved_params r ps) i) (below_all ps s) below (ups (length (binder_sorts ps)) (λ n. Var (q n))) all a o in
      lambdas_put variables coercion_variables AnyVariable kept_variables i s r (λ n. Var (q n)) w ps a right ∙ sym (ren_is_sub q (join_term s ps a))

  moved_written : (ps : List NBinder) (a : NExpr) → IsWritten a → IsWritten (moved_below r ps a)
  moved_written ps a o = written_put variables coercion_variables AnyVariable kept_variables (below_binders variables coercion_variables ps r) (λ j. tt) a o

-- a join point stands for its right side, on both sides of a place
pub record JoinStands (left right : Side) (s : Scope) (i : ℕ) (ps : List NBinder) (a : NExpr) : Type 0 where
  pub on_left : Stands left (Var (s.joins i)) (join_term s ps a)
  pub on_right : Stands right (Var (s.joins i)) (join_term s ps a)
  pub written : IsWritten a

-- what stands stays so further in
abbrev Onward : Side → Side → (ℕ → ℕ) → Type 0
Onward a b q = (t u : Term) → Stands a t u → Stands b (ren q t) (ren q u)

-- a join point further in, where what stood at n stands at q n
record JoinMoved (s i : Scope) (q : ℕ → ℕ) (j k : ℕ) (ps qs : List NBinder) (e d : NExpr) : Type 0 where
  pub name : ren q (Var (s.joins j)) ≡ Var (i.joins k)
  pub term : join_term i qs d ≡ ren q (join_term s ps e)
  pub written : IsWritten d

join_moved_by : (s i : Scope) (r : Renaming) (q : ℕ → ℕ) → Erases variables AnyVariable i s r (λ n. Var (q n)) → (j : ℕ) (ps : List NBinder) (e : NExpr) → IsWritten e
    → JoinMoved s i q j (r.joins j) ps (moved_params r ps) e (moved_below r ps e)
unfolding ren
join_moved_by s i r q w j ps e o = record { name = w.joins j; term = moved_join s i r q w ps e o; written = moved_written s i r q w ps e o }

join_moved_twice : (s i k : Scope) (q r : ℕ → ℕ) (a b c : ℕ) (ps qs rs : List NBinder) (e d x : NExpr) → JoinMoved s i q a b ps qs e d → JoinMoved i k r b c qs rs d x
    → JoinMoved s k (λ n. r (q n)) a c ps rs e x
join_moved_twice s i k q r a b c ps qs rs e d x m n = record {
  name = sym (ren-ren r q (Var (s.joins a))) ∙ ap (ren r) m.name ∙ n.name;
  term = n.term ∙ ap (ren r) m.term ∙ ren-ren r q (join_term s ps e);
  written = n.written;
}

join_past_one : (b : NBinder) (s : Scope) (j : ℕ) (ps : List NBinder) (e : NExpr) → IsWritten e
    → JoinMoved s (below b s) (steps_of b) j j ps (moved_params (past_one b) ps) e (moved_below (past_one b) ps e)
join_past_one (NBValue t) s j ps e o = join_moved_by s (below_value (sort_of_type t) s) past_a_value suc (past_value_erases (sort_of_type t) s) j ps e o
join_past_one (NBType k) s j ps e o = join_moved_by s s past_a_type (λ n. n) (past_type_erases s) j ps e o
join_past_one (NBCo r t u) s j ps e o = join_moved_by s (below_unnamed s) past_a_coercion suc (past_coercion_erases s) j ps e o

join_past_all : (bs : List NBinder) (s : Scope) (j : ℕ) (ps : List NBinder) (e : NExpr) → IsWritten e
    → JoinMoved s (below_all bs s) (behind (length (binder_sorts bs)) (λ n. n)) j j ps (params_past_binders bs ps) e (below_past_binders bs ps e)
unfolding behind
join_past_all [] s j ps e o =
    let none : (λ n. n) ≡ (λ n. 0 + n) = fun_ext (λ n. omega arith) in
    subst (λ q. JoinMoved s s q j j ps ps e e) none (record { name = ren_itself (Var (s.joins j)); term = sym (ren_itself (join_term s ps e)); written = o })
join_past_all (b ∷ bs) s j ps e o =
    let i = below b s in
    let one = join_past_one b s j ps e o in
    let qs = moved_params (past_one b) ps in
    let d = moved_below (past_one b) ps e in
    let rest = join_past_all bs i j qs d one.written in
    subst (λ q. JoinMoved s (below_all bs i) q j j ps (params_past_binders bs qs) e (below_past_binders bs qs d)) (all_steps b bs)
    (join_moved_twice s i (below_all bs i) (steps_of b) (λ n. length (binder_sorts bs) + n) j j j ps qs (params_past_binders bs qs) e d (below_past_binders bs qs d) one rest)

stands_moved : {a b c d : Side} (s i : Scope) (q : ℕ → ℕ) {j k : ℕ} {ps qs : List NBinder} {e x : NExpr} → JoinMoved s i q j k ps qs e x → Onward a c q → Onward b d q → JoinStands a b s j ps e
    → JoinStands c d i k qs x
stands_moved {c = c} {d = d} s i q {j = j} {ps = ps} {e = e} m l o h = record {
  on_left = subst₂ (Stands c) m.name (sym m.term) (l (Var (s.joins j)) (join_term s ps e) h.on_left);
  on_right = subst₂ (Stands d) m.name (sym m.term) (o (Var (s.joins j)) (join_term s ps e) h.on_right);
  written = m.written;
}

stays : (a : Side) → Onward a a (λ n. n)
stays a t u k = subst₂ (Stands a) (sym (ren_itself t)) (sym (ren_itself u)) k

into_alternative : (bs : List NBinder) (o : Sort) (s : Scope) (j : ℕ) (ps : List NBinder) (a : NExpr)
    → JoinMoved s (below_value o s) suc j j ps (moved_params past_a_value ps) a (moved_below past_a_value ps a)
    → JoinMoved s (below_all bs (below_value o s)) (λ m. length (binder_sorts bs) + suc m) j j ps (params_past_binders bs (moved_params past_a_value ps)) a
    (below_past_binders bs (moved_params past_a_value ps) (moved_below past_a_value ps a))
unfolding behind
into_alternative bs o s j ps a one =
    join_moved_twice s (below_value o s) (below_all bs (below_value o s)) suc (λ n. length (binder_sorts bs) + n) j j j ps (moved_params past_a_value ps)
    (params_past_binders bs (moved_params past_a_value ps)) a (moved_below past_a_value ps a) (below_past_binders bs (moved_params past_a_value ps) (moved_below past_a_value ps a)) one
    (join_past_all bs (below_value o s) j (moved_params past_a_value ps) (moved_below past_a_value ps a) one.written)

below_parameters : (bs : List NBinder) (p : Place) (s : Scope) (j : ℕ) (ps : List NBinder) (e : NExpr) → JoinStands (side_on_left p) (side_on_right p) s j ps e
    → JoinStands (side_on_left (in_bodies (binder_sorts bs) p)) (side_on_right (in_bodies (binder_sorts bs) p)) (below_all bs s) j (params_past_binders bs ps) (below_past_binders bs ps e)
below_parameters [] p s j ps e h = h
below_parameters (NBValue t ∷ bs) p s j ps e h =
    below_parameters bs (InBody (sort_of_type t) p) (below_value (sort_of_type t) s) j _ _
    (stands_moved s _ suc (join_past_one (NBValue t) s j ps e h.written) (λ x u k. stands_past_lambda k) (λ x u k. stands_past_lambda k) h)
below_parameters (NBType k ∷ bs) p s j ps e h =
    below_parameters bs p s j _ _ (stands_moved s _ (λ n. n) (join_past_one (NBType k) s j ps e h.written) (stays (side_on_left p)) (stays (side_on_right p)) h)
below_parameters (NBCo r t v ∷ bs) p s j ps e h =
    below_parameters bs (InBody Unlifted p) (below_unnamed s) j _ _
    (stands_moved s _ suc (join_past_one (NBCo r t v) s j ps e h.written) (λ x u k. stands_past_lambda k) (λ x u k. stands_past_lambda k) h)

-- below one binder
below_binder_stands : (b : NBinder) (c : NPlace) (j : ℕ) (ps : List NBinder) (e : NExpr) → JoinStands (side_on_left (place_at c)) (side_on_right (place_at c)) (scope_at c) j ps e
    → JoinStands (side_on_left (place_at (NBelow b c))) (side_on_right (place_at (NBelow b c))) (below b (scope_at c)) j (moved_params (past_one b) ps) (moved_below (past_one b) ps e)
below_binder_stands (NBValue t) c j ps e h = below_parameters (NBValue t ∷ []) (place_at c) (scope_at c) j ps e h
below_binder_stands (NBType k) c j ps e h = below_parameters (NBType k ∷ []) (place_at c) (scope_at c) j ps e h
below_binder_stands (NBCo r t u) c j ps e h = below_parameters (NBCo r t u ∷ []) (place_at c) (scope_at c) j ps e h

pub njoin_stands : {c : NPlace} {j : ℕ} {ps : List NBinder} {a : NExpr} → NKnowsJoin c j ps a → JoinStands (side_on_left (place_at c)) (side_on_right (place_at c)) (scope_at c) j ps a
unfolding upr
njoin_stands (join_here {c = c} ps a o) =
    let s = scope_at c in
    let m = moved_join s (below_join s) past_a_join suc (past_join_erases s) ps a o in
    record {
      on_left = subst (Stands _ (Var 0)) (sym m) stands_let;
      on_right = subst (Stands _ (Var 0)) (sym m) stands_let;
      written = moved_written s (below_join s) past_a_join suc (past_join_erases s) ps a o;
    }
njoin_stands (join_past_let {t = t} {c = c} {i = j} ps a w) =
    let h = njoin_stands w in
    stands_moved (scope_at c) _ suc (join_moved_by (scope_at c) (below_value (sort_of_type t) (scope_at c)) past_a_value suc (past_value_erases (sort_of_type t) (scope_at c)) j ps a h.written)
    (λ x u k. stands_past_let k) (λ x u k. stands_past_let k) h
njoin_stands (join_past_group {bs = bs} {cs = cs} {c = c} {i = j} ps a n w) =
    let h = njoin_stands w in
    let s = scope_at c in
    let i = below_binds bs s in
    stands_moved s i (λ m. bind_count bs + m) (join_moved_by s i (past_values (bind_count bs)) (λ m. bind_count bs + m) (past_group_erases bs s) j ps a h.written)
    (λ x u k. subst (λ m. Stands (BelowGroup (erased_rights i bs) (side_on_left (place_at c))) (ren (λ l. m + l) x) (ren (λ l. m + l) u)) (rights_count i bs) (stands_past_group k))
    (λ x u k. subst (λ m. Stands (BelowGroup (erased_rights i cs) (side_on_right (place_at c))) (ren (λ l. m + l) x) (ren (λ l. m + l) u)) (rights_count i cs ∙ sym n) (stands_past_group k)) h
njoin_stands (join_past_join {c = c} {i = j} ps a w) =
    let h = njoin_stands w in
    stands_moved (scope_at c) _ suc (join_moved_by (scope_at c) (below_join (scope_at c)) past_a_join suc (past_join_erases (scope_at c)) j ps a h.written) (λ x u k. stands_past_let k)
    (λ x u k. stands_past_let k) h
njoin_stands (join_past_joins {js = js} {ks = ks} {c = c} {i = j} ps a n w) =
    let h = njoin_stands w in
    let s = scope_at c in
    let i = below_joins js s in
    stands_moved s i (λ m. join_count js + m) (join_moved_by s i (past_joins (join_count js)) (λ m. join_count js + m) (past_joins_erases js s) j ps a h.written)
    (λ x u k. subst (λ m. Stands (BelowGroup (erased_joins i js) (side_on_left (place_at c))) (ren (λ l. m + l) x) (ren (λ l. m + l) u)) (joins_count i js) (stands_past_group k))
    (λ x u k. subst (λ m. Stands (BelowGroup (erased_joins i ks) (side_on_right (place_at c))) (ren (λ l. m + l) x) (ren (λ l. m + l) u)) (joins_count i ks ∙ sym n) (stands_past_group k)) h
njoin_stands (join_below {b = b} {c = c} {i = j} ps a w) = below_binder_stands b c j ps a (njoin_stands w)
njoin_stands (join_past_parameters {bs = bs} {c = c} {i = j} ps a w) = below_parameters bs (place_at c) (scope_at c) j ps a (njoin_stands w)
njoin_stands (join_past_alternative {xt = xt} {s = sl} {t = sr} {all = all} {h = hd} {bs = bs} {c = c} {i = j} ps a own w) =
    let h = njoin_stands w in
    let s = scope_at c in
    let o = sort_of_type xt in
    let n = own_binders hd bs own in
    let one = join_moved_by s (below_value o s) past_a_value suc (past_value_erases o s) j ps a h.written in
    let more = into_alternative bs o s j ps a one in
    stands_moved s _ (λ m. length (binder_sorts bs) + suc m) more
    (λ x u k. subst (λ m. Stands (InAlternative o (erased s sl) (heads_of (erased_alts (below_value o s) all)) (erased_head hd bs) (side_on_left (place_at c))) (ren (λ l. m + suc l) x) (ren (λ l.
    m + suc l) u)) n (stands_past_alternative k))
    (λ x u k. subst (λ m. Stands (InAlternative o (erased s sr) (heads_of (erased_alts (below_value o s) all)) (erased_head hd bs) (side_on_right (place_at c))) (ren (λ l. m + suc l) x) (ren (λ l.
    m + suc l) u)) n (stands_past_alternative k)) h

-- JUMPS

applied_are : (s : Scope) (args : NArgs) (t : Term) → applied s t args ≡ applied_term t (arg_sorts s args) (erased_args s args)
applied_are s NoNArgs t = refl
applied_are s (MoreNArgs (NATerm e) rest) t = applied_are s rest (App (sort_of s e) t (erased s e))
applied_are s (MoreNArgs (NAType u) rest) t = applied_are s rest t
applied_are s (MoreNArgs (NACo g) rest) t = applied_are s rest (App Unlifted t coercion_token)

-- a jump comes to the right side of its join point at the variables of lets
pub jump_named : (P : Program) (s : Scope) (i : ℕ) (args : NArgs) (ps : List NBinder) (a : NExpr) {f : NExpr} → AreArgsWritten args → IsWritten a → PartsFit s args ps
    → BehindLets s (right_past_lets args ps a) 0 args f → (q : Closing) → sub q (Var (s.joins i)) ≡ sub q (join_term s ps a)
    → SameHeads P (sub q (applied s (Var (s.joins i)) args)) (sub q (erased s f))
unfolding pushes sub
jump_named P s i args ps a wr wa fits lets q e =
    let ss = arg_sorts s args in
    let ts = sub_terms q (erased_args s args) in
    let body = erased (below_all ps s) a in
    let sorts : binder_sorts ps ≡ ss = (with_parts s args ps ss (erased_args s args) wr fits (args_are s args) s unchanged Var (unchanged_erases s)).0 in
    let n : length ss ≡ count ts = count_args s args ∙ sym (count-sub q (erased_args s args)) in
    let lam : sub q (Var (s.joins i)) ≡ sub q (lambdas ss body) = e ∙ ap (λ z. sub q (lambdas z body)) sorts in
    let jump : sub q (applied s (Var (s.joins i)) args) ≡ applied_term (sub q (lambdas ss body)) ss ts =
    ap (sub q) (applied_are s args (Var (s.joins i))) ∙ applied-sub q ss (erased_args s args) (Var (s.joins i)) ∙ ap (λ z. applied_term z ss ts) lam in
    same.same_trans P _ (applied_term (sub q (lambdas ss body)) ss ts) _ (same.same_is P _ _ jump)
    (same.same_trans P _ (sub (pushes ts q) body) _ (same_applied P ss ts n q body) (same.same_sym P _ _ (right_named P s q args ps a wr wa fits lets)))
