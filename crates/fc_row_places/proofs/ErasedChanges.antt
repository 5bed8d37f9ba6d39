-- A change of parts of the nameless tree is one of terms when types are gone.
use Rattle.std.proofs.Common.{◌≡◌, List, [], ◌∷◌, refl, sym, ap, ap₂, ◌∙◌, subst, subst₂}
use Rattle.fc_model.specs.Erasure.{Scope, applied, arg_sorts, below_all, below_binds, below_join, below_joins, below_value, binder_sorts, coercion_token, erased, erased_alts, erased_args}
use Rattle.fc_model.specs.Erasure.{erased_joins, erased_rights, lambdas, sort_of, sort_of_type}
use Rattle.fc_model.specs.Nameless.{NTy, NBValue, NBType, NBCo, NExpr, NATerm, NAType, NACo, NArgs, NoNArgs, MoreNArgs, NBinds, NJoins, NAlts}
use Rattle.fc_model.specs.Terms.{Sort, Lifted, Unlifted, Head, Term, Var, App, Rec, Con, Terms, Cons, Alts, NoAlt, Alt, enters, lifteds, IsAtom, HasSorts, IsSorted, AreSorted, AltsAreSorted}
use Rattle.fc_meaning.proofs.WrittenExpressions.{AreAltsWritten, AreArgsWritten, AreBindsWritten, AreJoinsWritten, IsWritten}
use Rattle.fc_counted.specs.Changes.{PartRelation, Change, change_in_application, change_in_lambda, change_in_let, change_in_group, change_in_case, change_in_constructor, ChangeAt, lifted_change}
use Rattle.fc_counted.specs.Changes.{unlifted_same, ChangeTerms, more_terms, ChangeFields, more_fields, ChangeAlts, no_alternatives, more_alternatives}
use Rattle.fc_counted.specs.Places.{Place, InBody, InAlt, sorts_in, heads_of}
use Rattle.fc_counted.proofs.ChangedPrograms.{at_same, change_same, change_terms_same, change_fields_same}
use Rattle.fc_row_places.specs.NamelessChanges.{NPartRelation, NChange, nchange_here, nchange_same, nchange_in_application, nchange_in_lambda, nchange_in_let, nchange_in_group, nchange_in_case}
use Rattle.fc_row_places.specs.NamelessChanges.{nchange_in_cast, nchange_in_constructor, nchange_in_jump, nchange_in_join, nchange_in_joins, narg_same, narg_lifted, NArgsChange, nargs_same}
use Rattle.fc_row_places.specs.NamelessChanges.{nargs_more, NRightChange, nright_same, nright_lifted, NBindsChange, nbinds_same, nbinds_more, NJoinsChange, njoins_same, njoins_more, NAltsChange}
use Rattle.fc_row_places.specs.NamelessChanges.{nalts_same, nalts_more}
use Rattle.fc_row_places.specs.NamelessPlaces.{NPlace, IsPlaceSorted, scope_at, place_at, in_bodies}
use Rattle.fc_row_places.specs.RowPlaceLaws.{PartsErase}

-- SCOPES ON BOTH SIDES

same_binds : {R : NPartRelation} {c : NPlace} {bs cs : NBinds} → NBindsChange R c bs cs → (s : Scope) → below_binds bs s ≡ below_binds cs s
same_binds nbinds_same s = refl
same_binds (nbinds_more {t = t} w v) s = same_binds v (below_value (sort_of_type t) s)

same_joins : {R : NPartRelation} {c : NPlace} {js ks : NJoins} → NJoinsChange R c js ks → (s : Scope) → below_joins js s ≡ below_joins ks s
same_joins njoins_same s = refl
same_joins (njoins_more w v) s = same_joins v (below_join s)

same_arg_sorts : {R : NPartRelation} {c : NPlace} {args brgs : NArgs} → NArgsChange R c args brgs → arg_sorts (scope_at c) args ≡ arg_sorts (scope_at c) brgs
same_arg_sorts nargs_same = refl
same_arg_sorts {c = c} (nargs_more {a = NATerm a} narg_same v) = ap (λ ss. sort_of (scope_at c) a ∷ ss) (same_arg_sorts v)
same_arg_sorts (nargs_more {a = NAType t} narg_same v) = same_arg_sorts v
same_arg_sorts (nargs_more {a = NACo g} narg_same v) = ap (λ ss. Unlifted ∷ ss) (same_arg_sorts v)
same_arg_sorts (nargs_more (narg_lifted l r w) v) = ap₂ ◌∷◌ (l ∙ sym r) (same_arg_sorts v)

-- the sorts of both sides of a group
rights_lifteds : {R : NPartRelation} {c : NPlace} {bs cs : NBinds} → NBindsChange R c bs cs → (s : Scope) → lifteds (erased_rights s bs) ≡ lifteds (erased_rights s cs)
unfolding lifteds
rights_lifteds nbinds_same s = refl
rights_lifteds (nbinds_more w v) s = ap (λ l. Lifted ∷ l) (rights_lifteds v s)

joins_lifteds : {R : NPartRelation} {c : NPlace} {js ks : NJoins} → NJoinsChange R c js ks → (s : Scope) → lifteds (erased_joins s js) ≡ lifteds (erased_joins s ks)
unfolding lifteds
joins_lifteds njoins_same s = refl
joins_lifteds (njoins_more w v) s = ap (λ l. Lifted ∷ l) (joins_lifteds v s)

-- LAMBDAS AND APPLICATIONS

lambdas_change : {TermsRewritten : PartRelation} (ss : List Sort) (p : Place) (t u : Term) → Change TermsRewritten (in_bodies ss p) t u → Change TermsRewritten p (lambdas ss t) (lambdas ss u)
lambdas_change [] p t u w = w
lambdas_change (s ∷ ss) p t u w = change_in_lambda (lambdas_change ss (InBody s p) t u w)

lambdas_inner : (ss : List Sort) (p : Place) (t : Term) → IsSorted (sorts_in p) (lambdas ss t) → IsSorted (sorts_in (in_bodies ss p)) t
unfolding sorts_in
lambdas_inner [] p t w = w
lambdas_inner (s ∷ ss) p t w = lambdas_inner ss (InBody s p) t w

applied_inner : (g : List Sort) (s : Scope) (t : Term) (args : NArgs) → IsSorted g (applied s t args) → IsSorted g t
applied_inner g s t NoNArgs w = w
applied_inner g s t (MoreNArgs (NATerm e) rest) w = (applied_inner g s (App (sort_of s e) t (erased s e)) rest w).0
applied_inner g s t (MoreNArgs (NAType u) rest) w = applied_inner g s t rest w
applied_inner g s t (MoreNArgs (NACo q) rest) w = (applied_inner g s (App Unlifted t coercion_token) rest w).0

module _ (R : NPartRelation) (TermsRewritten : PartRelation) where
  lifted_app : (c : Place) (s r : Sort) (t u a b : Term) → s ≡ Lifted → r ≡ Lifted → Change TermsRewritten c t u → Change TermsRewritten c a b → Change TermsRewritten c (App s t a) (App r u b)
  lifted_app c s r t u a b d e w v = subst₂ (λ x y. Change TermsRewritten c (App x t a) (App y u b)) (sym d) (sym e) (change_in_application w (lifted_change v))

  same_app : (c : Place) (s : Sort) (t u a : Term) → Change TermsRewritten c t u → IsSorted (sorts_in c) a → Change TermsRewritten c (App s t a) (App s u a)
  same_app c s t u a w sa = change_in_application w (at_same TermsRewritten c s a (change_same TermsRewritten c a sa))

  lifted_field : (c : Place) (s : Sort) (ss : List Sort) (t u : Term) (ts us : Terms) → s ≡ Lifted → Change TermsRewritten c t u → ChangeFields TermsRewritten c ss ts us
      → ChangeFields TermsRewritten c (s ∷ ss) (Cons t ts) (Cons u us)
  lifted_field c s ss t u ts us e w v = subst (λ x. ChangeFields TermsRewritten c (x ∷ ss) (Cons t ts) (Cons u us)) (sym e) (more_fields (lifted_change w) v)

  -- alternatives that stay, of a case whose scrutinee may change
  alts_same : (c : Place) (s : Sort) (t u : Term) (hs : List Head) (alts : Alts) → AltsAreSorted (s ∷ sorts_in c) alts → ChangeAlts TermsRewritten s t u hs c alts alts
  unfolding sorts_in
  alts_same c s t u hs NoAlt w = no_alternatives
  alts_same c s t u hs (Alt h b alts) w = more_alternatives (change_same TermsRewritten (InAlt s t u hs h c) b w.0) (alts_same c s t u hs alts w.1)

  -- arguments that stay, of a head that may change
  applied_same : (c : NPlace) (args : NArgs) (t u : Term) → Change TermsRewritten (place_at c) t u → IsSorted (sorts_in (place_at c)) (applied (scope_at c) t args)
      → Change TermsRewritten (place_at c) (applied (scope_at c) t args) (applied (scope_at c) u args)
  applied_same c NoNArgs t u h sa = h
  applied_same c (MoreNArgs (NATerm a) args) t u h sa =
      let inner = applied_inner (sorts_in (place_at c)) (scope_at c) (App (sort_of (scope_at c) a) t (erased (scope_at c) a)) args sa in
      applied_same c args _ _ (same_app (place_at c) (sort_of (scope_at c) a) t u (erased (scope_at c) a) h inner.1) sa
  applied_same c (MoreNArgs (NAType x) args) t u h sa = applied_same c args t u h sa
  applied_same c (MoreNArgs (NACo q) args) t u h sa = applied_same c args _ _ (change_in_application h unlifted_same) sa

  module _ (rows : PartsErase R TermsRewritten) where
    mutual
      unfolding sorts_in lifteds heads_of

      pub erased_change : {c : NPlace} {e d : NExpr} → NChange R c e d → IsPlaceSorted c → IsWritten e → IsWritten d → IsSorted (sorts_in (place_at c)) (erased (scope_at c) e)
          → IsSorted (sorts_in (place_at c)) (erased (scope_at c) d)
          → Change TermsRewritten (place_at c) (erased (scope_at c) e) (erased (scope_at c) d)
      erased_change {c = c} {e = e} {d = d} (nchange_here r) pl we wd se sd = rows c e d r pl we wd se sd
      erased_change {c = c} {e = e} nchange_same pl we wd se sd = change_same TermsRewritten (place_at c) (erased (scope_at c) e) se
      erased_change {c = c} (nchange_in_application {f = f} {g = g} {a = NATerm a} w narg_same) pl we wd se sd =
          same_app (place_at c) (sort_of (scope_at c) a) _ _ (erased (scope_at c) a) (erased_change w pl we.0 wd.0 se.0 sd.0) se.1
      erased_change (nchange_in_application {a = NAType t} w narg_same) pl we wd se sd = erased_change w pl we.0 wd.0 se sd
      erased_change (nchange_in_application {a = NACo q} w narg_same) pl we wd se sd = change_in_application (erased_change w pl we.0 wd.0 se.0 sd.0) unlifted_same
      erased_change {c = c} (nchange_in_application {a = NATerm a} {b = NATerm b} w (narg_lifted l r v)) pl we wd se sd =
          lifted_app (place_at c) (sort_of (scope_at c) a) (sort_of (scope_at c) b) _ _ _ _ l r (erased_change w pl we.0 wd.0 se.0 sd.0) (erased_change v pl we.1 wd.1 se.1 sd.1)
      erased_change (nchange_in_lambda {b = NBValue t} w) pl we wd se sd = change_in_lambda (erased_change w pl we wd se sd)
      erased_change (nchange_in_lambda {b = NBType k} w) pl we wd se sd = erased_change w pl we wd se sd
      erased_change (nchange_in_lambda {b = NBCo r t u} w) pl we wd se sd = change_in_lambda (erased_change w pl we wd se sd)
      erased_change (nchange_in_let {t = t} w v) pl we wd se sd = change_in_let (right_change w pl we.1.0 wd.1.0 se.0 sd.0 se.1) (erased_change v (se.0, pl) we.2 wd.2 se.2 sd.2)
      erased_change {c = c} (nchange_in_group {bs = bs} {cs = cs} {e = e} {d = d} w v) pl we wd se sd =
          let s = below_binds bs (scope_at c) in
          let same = same_binds w (scope_at c) in
          let sd' = subst (λ x. IsSorted (sorts_in (place_at c)) (Rec (erased_rights x cs) (erased x d))) (sym same) sd in
          let l = rights_lifteds w s in
          let su = subst (λ ls. AreSorted (enters ls (sorts_in (place_at c))) (erased_rights s cs) × IsSorted (enters ls (sorts_in (place_at c))) (erased s d)) (sym l) sd' in
          subst (λ x. Change TermsRewritten (place_at c) (Rec (erased_rights s bs) (erased s e)) (Rec (erased_rights x cs) (erased x d))) same
          (change_in_group (rights_change w (se.0, pl) we.1 wd.1 se.0 su.0) (erased_change v (se.0, pl) we.2 wd.2 se.1 su.1))
      erased_change (nchange_in_case w v) pl we wd se sd = change_in_case (erased_change w pl we.0 wd.0 se.0 sd.0) (alts_change v pl we.1 wd.1 se.1 sd.1)
      erased_change (nchange_in_cast w) pl we wd se sd = erased_change w pl we wd se sd
      erased_change {c = c} (nchange_in_constructor {n = n} {args = args} {brgs = brgs} w) pl we wd se sd =
          let same = same_arg_sorts w in
          subst (λ ss. Change TermsRewritten (place_at c) (Con n (arg_sorts (scope_at c) args) (erased_args (scope_at c) args)) (Con n ss (erased_args (scope_at c) brgs))) same
          (change_in_constructor (args_change w pl we wd se.0 sd.0 se.1))
      erased_change {c = c} (nchange_in_jump {i = i} {args = args} w) pl we wd se sd =
          let j = Var ((scope_at c).joins i) in
          applied_change w pl we wd j j (change_same TermsRewritten (place_at c) j (applied_inner (sorts_in (place_at c)) (scope_at c) j args se)) se sd
      erased_change {c = c} (nchange_in_join {ps = ps} {a = a} {b = b} w v) pl we wd se sd =
          let s = below_all ps (scope_at c) in
          change_in_let (lifted_change
          (lambdas_change (binder_sorts ps) (place_at c) (erased s a) (erased s b)
          (erased_change w pl we.1.0 wd.1.0 (lambdas_inner (binder_sorts ps) (place_at c) (erased s a) se.0) (lambdas_inner (binder_sorts ps) (place_at c) (erased s b) sd.0))))
          (erased_change v pl we.2 wd.2 se.2 sd.2)
      erased_change {c = c} (nchange_in_joins {js = js} {ks = ks} {e = e} {d = d} w v) pl we wd se sd =
          let s = below_joins js (scope_at c) in
          let same = same_joins w (scope_at c) in
          let sd' = subst (λ x. IsSorted (sorts_in (place_at c)) (Rec (erased_joins x ks) (erased x d))) (sym same) sd in
          let l = joins_lifteds w s in
          let su = subst (λ ls. AreSorted (enters ls (sorts_in (place_at c))) (erased_joins s ks) × IsSorted (enters ls (sorts_in (place_at c))) (erased s d)) (sym l) sd' in
          subst (λ x. Change TermsRewritten (place_at c) (Rec (erased_joins s js) (erased s e)) (Rec (erased_joins x ks) (erased x d))) same
          (change_in_group (joins_change w pl we.1 wd.1 se.0 su.0) (erased_change v pl we.2 wd.2 se.1 su.1))

      right_change : {c : NPlace} {s : Sort} {a b : NExpr} → NRightChange R c s a b → IsPlaceSorted c → IsWritten a → IsWritten b → IsSorted (sorts_in (place_at c)) (erased (scope_at c) a)
          → IsSorted (sorts_in (place_at c)) (erased (scope_at c) b) → IsAtom (sorts_in (place_at c)) s (erased (scope_at c) a)
          → ChangeAt TermsRewritten (place_at c) s (erased (scope_at c) a) (erased (scope_at c) b)
      right_change {c = c} {s = s} {a = a} nright_same pl wa wb sa sb ia =
          at_same TermsRewritten (place_at c) s (erased (scope_at c) a) (change_same TermsRewritten (place_at c) (erased (scope_at c) a) sa)
      right_change {c = c} {a = a} {b = b} (nright_lifted e w) pl wa wb sa sb ia =
          subst (λ o. ChangeAt TermsRewritten (place_at c) o (erased (scope_at c) a) (erased (scope_at c) b)) (sym e) (lifted_change (erased_change w pl wa wb sa sb))

      args_change : {c : NPlace} {args brgs : NArgs} → NArgsChange R c args brgs → IsPlaceSorted c → AreArgsWritten args → AreArgsWritten brgs
          → AreSorted (sorts_in (place_at c)) (erased_args (scope_at c) args) → AreSorted (sorts_in (place_at c)) (erased_args (scope_at c) brgs)
          → HasSorts (sorts_in (place_at c)) (arg_sorts (scope_at c) args) (erased_args (scope_at c) args)
          → ChangeFields TermsRewritten (place_at c) (arg_sorts (scope_at c) args) (erased_args (scope_at c) args) (erased_args (scope_at c) brgs)
      args_change {c = c} {args = args} nargs_same pl wa wb sa sb hs = change_fields_same TermsRewritten (place_at c) (arg_sorts (scope_at c) args) (erased_args (scope_at c) args) sa hs
      args_change {c = c} (nargs_more {a = NATerm a} narg_same v) pl wa wb sa sb hs =
          more_fields (at_same TermsRewritten (place_at c) (sort_of (scope_at c) a) (erased (scope_at c) a) (change_same TermsRewritten (place_at c) (erased (scope_at c) a) sa.0))
          (args_change v pl wa.1 wb.1 sa.1 sb.1 hs.1)
      args_change (nargs_more {a = NAType t} narg_same v) pl wa wb sa sb hs = args_change v pl wa.1 wb.1 sa sb hs
      args_change (nargs_more {a = NACo q} narg_same v) pl wa wb sa sb hs = more_fields unlifted_same (args_change v pl wa.1 wb.1 sa.1 sb.1 hs.1)
      args_change {c = c} (nargs_more {a = NATerm a} (narg_lifted l r w) v) pl wa wb sa sb hs =
          lifted_field (place_at c) (sort_of (scope_at c) a) _ _ _ _ _ l (erased_change w pl wa.0 wb.0 sa.0 sb.0) (args_change v pl wa.1 wb.1 sa.1 sb.1 hs.1)

      applied_change : {c : NPlace} {args brgs : NArgs} → NArgsChange R c args brgs → IsPlaceSorted c → AreArgsWritten args → AreArgsWritten brgs → (t u : Term)
          → Change TermsRewritten (place_at c) t u → IsSorted (sorts_in (place_at c)) (applied (scope_at c) t args) → IsSorted (sorts_in (place_at c)) (applied (scope_at c) u brgs)
          → Change TermsRewritten (place_at c) (applied (scope_at c) t args) (applied (scope_at c) u brgs)
      applied_change {c = c} {args = args} nargs_same pl wa wb t u h sa sb = applied_same c args t u h sa
      applied_change {c = c} (nargs_more {a = NATerm a} {args = args} narg_same v) pl wa wb t u h sa sb =
          let inner = applied_inner (sorts_in (place_at c)) (scope_at c) (App (sort_of (scope_at c) a) t (erased (scope_at c) a)) args sa in
          applied_change v pl wa.1 wb.1 _ _ (same_app (place_at c) (sort_of (scope_at c) a) t u (erased (scope_at c) a) h inner.1) sa sb
      applied_change (nargs_more {a = NAType x} narg_same v) pl wa wb t u h sa sb = applied_change v pl wa.1 wb.1 t u h sa sb
      applied_change (nargs_more {a = NACo q} narg_same v) pl wa wb t u h sa sb = applied_change v pl wa.1 wb.1 _ _ (change_in_application h unlifted_same) sa sb
      applied_change {c = c} (nargs_more {a = NATerm a} {b = NATerm b} {args = args} {brgs = brgs} (narg_lifted l r w) v) pl wa wb t u h sa sb =
          let left = applied_inner (sorts_in (place_at c)) (scope_at c) (App (sort_of (scope_at c) a) t (erased (scope_at c) a)) args sa in
          let right = applied_inner (sorts_in (place_at c)) (scope_at c) (App (sort_of (scope_at c) b) u (erased (scope_at c) b)) brgs sb in
          applied_change v pl wa.1 wb.1 _ _ (lifted_app (place_at c) (sort_of (scope_at c) a) (sort_of (scope_at c) b) t u _ _ l r h (erased_change w pl wa.0 wb.0 left.1 right.1)) sa sb

      rights_change : {c : NPlace} {bs cs : NBinds} → NBindsChange R c bs cs → IsPlaceSorted c → AreBindsWritten bs → AreBindsWritten cs
          → AreSorted (sorts_in (place_at c)) (erased_rights (scope_at c) bs) → AreSorted (sorts_in (place_at c)) (erased_rights (scope_at c) cs)
          → ChangeTerms TermsRewritten (place_at c) (erased_rights (scope_at c) bs) (erased_rights (scope_at c) cs)
      rights_change {c = c} {bs = bs} nbinds_same pl wa wb sa sb = change_terms_same TermsRewritten (place_at c) (erased_rights (scope_at c) bs) sa
      rights_change (nbinds_more w v) pl wa wb sa sb = more_terms (erased_change w pl wa.0 wb.0 sa.0 sb.0) (rights_change v pl wa.1 wb.1 sa.1 sb.1)

      joins_change : {c : NPlace} {js ks : NJoins} → NJoinsChange R c js ks → IsPlaceSorted c → AreJoinsWritten js → AreJoinsWritten ks
          → AreSorted (sorts_in (place_at c)) (erased_joins (scope_at c) js) → AreSorted (sorts_in (place_at c)) (erased_joins (scope_at c) ks)
          → ChangeTerms TermsRewritten (place_at c) (erased_joins (scope_at c) js) (erased_joins (scope_at c) ks)
      joins_change {c = c} {js = js} njoins_same pl wa wb sa sb = change_terms_same TermsRewritten (place_at c) (erased_joins (scope_at c) js) sa
      joins_change {c = c} (njoins_more {ps = ps} {a = a} {b = b} w v) pl wa wb sa sb =
          let s = below_all ps (scope_at c) in
          more_terms (lambdas_change (binder_sorts ps) (place_at c) (erased s a) (erased s b)
          (erased_change w pl wa.0 wb.0 (lambdas_inner (binder_sorts ps) (place_at c) (erased s a) sa.0)
          (lambdas_inner (binder_sorts ps) (place_at c) (erased s b) sb.0))) (joins_change v pl wa.1 wb.1 sa.1 sb.1)

      alts_change : {xt : NTy} {s t : NExpr} {all : NAlts} {c : NPlace} {alts blts : NAlts} → NAltsChange R xt s t all c alts blts → IsPlaceSorted c → AreAltsWritten alts → AreAltsWritten blts
          → AltsAreSorted (sort_of_type xt ∷ sorts_in (place_at c)) (erased_alts (below_value (sort_of_type xt) (scope_at c)) alts)
          → AltsAreSorted (sort_of_type xt ∷ sorts_in (place_at c)) (erased_alts (below_value (sort_of_type xt) (scope_at c)) blts)
          → ChangeAlts TermsRewritten (sort_of_type xt) (erased (scope_at c) s) (erased (scope_at c) t) (heads_of (erased_alts (below_value (sort_of_type xt) (scope_at c)) all)) (place_at c)
          (erased_alts (below_value (sort_of_type xt) (scope_at c)) alts) (erased_alts (below_value (sort_of_type xt) (scope_at c)) blts)
      alts_change {xt = xt} {s = s} {t = t} {all = all} {c = c} {alts = alts} nalts_same pl wa wb sa sb =
          alts_same (place_at c) (sort_of_type xt) (erased (scope_at c) s) (erased (scope_at c) t) (heads_of (erased_alts (below_value (sort_of_type xt) (scope_at c)) all))
          (erased_alts (below_value (sort_of_type xt) (scope_at c)) alts) sa
      alts_change (nalts_more w v) pl wa wb sa sb = more_alternatives (erased_change w pl wa.1 wb.1 sa.0 sb.0) (alts_change v pl wa.2 wb.2 sa.1 sb.1)
