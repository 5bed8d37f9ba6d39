-- What surroundings say holds behind binders, binds and join points.
use Rattle.std.proofs.Common.{◌≡◌, ℕ, zero, suc, ◌+◌, Bool, true, false, if◌then◌else◌, List, [], ◌∷◌, Ok, refl, sym, ap, ◌∙◌, subst}
use Rattle.fc_syntax.specs.declared.ty.Name.{Name}
use Rattle.fc_model.specs.Calling.{type_count}
use Rattle.fc_model.specs.Coercing.{Ends, ends}
use Rattle.fc_model.specs.Faulting.{at_distance}
use Rattle.fc_syntax.specs.Tree.{Kind}
use Rattle.fc_model.specs.Kinding.{Modules, is_lifted}
use Rattle.fc_model.proofs.ArgumentsFit.{lifted_binder}
use Rattle.fc_model.specs.Nameless.{NTy, NArg, NExpr, NBinder, NBValue, NBType, NBCo, NBinds, NJoins}
use Rattle.fc_model.specs.Replacing.{Renaming, below_binders, bind_count, coercion_variables, join_count, past_a_coercion, past_a_type, past_a_value, renamed, replaced_binders, variables}
use Rattle.fc_model.specs.Substituting.{raised_type, shifted_type, substituted_type}
use Rattle.fc_model.specs.Typing.{Context, JoinPoint, join_point, shifted_join, value_type, with_binders, with_binds, with_coercion, with_joins, with_type, with_value, without_joins}
use Rattle.fc_model.specs.TypingLaws.{AreDeclaredClosed, AreDeclaredKinded, IsValueType, RenamingFits, substituted_join}
use Rattle.fc_model.specs.TypingRules.{BinderIsKinded, BindersAreKinded, one_binder, HasType}
use Rattle.fc_model.specs.TypingRules.{BindsHaveTypes, no_binds, one_bind, JoinsHaveType, no_joins, one_join}
use Rattle.fc_model.proofs.CallsKept.{binders_kept, closed_kept, raised_past_replaced}
use Rattle.fc_model.proofs.EndsKept.{mapped_inv}
use Rattle.fc_model.proofs.FitsKept.{fits_binders, fits_without_joins, join_point_kept}
use Rattle.fc_model.proofs.Parts.{ok_ok}
use Rattle.fc_model.proofs.PutInKept.{type_kept}
use Rattle.fc_model.proofs.ReplacedKept.{join_itself, kinded_are_closed, moved_fits, past_a_type_fits, renaming_keeps_types, variables_stand}
use Rattle.fc_model.proofs.Substitutions.{renamed_is_substituted, variables_for_themselves}
use Rattle.fc_model.proofs.TypesKinded.{binder_kinded, binds_kinded, joins_kinded, kinds_among_binds, without_joins_kinded}
use Rattle.fc_row_types.specs.TypesKept.{Holds, IsPoint}
use Rattle.fc_rows.specs.Surroundings.{Known, Unknown, Is, IsNot, Point, NoPoint, PointOf, Surroundings, apart, at_head, at_right_sides, behind_binder, behind_binders, behind_binds, behind_joins}
use Rattle.fc_rows.specs.Surroundings.{is_value, known_before, known_in_group, known_of, moved_known, moved_point, past_joins, past_values, point_before, points_in_group, rights_in_group}
use Rattle.fc_row_types.proofs.Contexts.{behind_binds_is, behind_joins_is, bound_joins, bound_types, joins_past, types_past}

-- WHAT IS KNOWN

abbrev is : NExpr → Known
is e = Is e

is_is : {e f : NExpr} → is e ≡ is f → e ≡ f
is_is h = cc

pub unknown_is : {X : Type 0} {e : NExpr} → Unknown ≡ Is e → X
unknown_is h = absurd cc

pub none_point : {X : Type 0} {ps : List NBinder} {e : NExpr} → NoPoint ≡ PointOf ps e → X
none_point h = absurd cc

moved_is : (r : Renaming) (k : Known) (e : NExpr) → moved_known r k ≡ Is e → (f : NExpr) × (k ≡ Is f) × (renamed r f ≡ e)
moved_is r Unknown e h = unknown_is h
moved_is r (Is f) e h = (f, refl, is_is h)
moved_is r (IsNot hs) e h = absurd cc

abbrev point_of : List NBinder → NExpr → Point
point_of ps e = PointOf ps e

point_is : {ps qs : List NBinder} {e f : NExpr} → point_of ps e ≡ point_of qs f → (ps ≡ qs) × (e ≡ f)
point_is h = (cc, cc)

moved_point_is : (r : Renaming) (k : Point) (ps : List NBinder) (e : NExpr) → moved_point r k ≡ PointOf ps e
    → (qs : List NBinder) × (f : NExpr) × (k ≡ PointOf qs f) × (replaced_binders r.types qs ≡ ps) × (renamed (below_binders variables coercion_variables qs r) f ≡ e)
moved_point_is r NoPoint ps e h = none_point h
moved_point_is r (PointOf qs f) ps e h = let p = point_is h in (qs, f, refl, p.0, p.1)

pub known_of_is : (e f : NExpr) → known_of e ≡ Is f → e ≡ f
known_of_is e f h = tested (is_value e) h
  where
    tested : (b : Bool) → (if b then Is e else Unknown) ≡ Is f → e ≡ f
    tested true h = is_is h
    tested false h = unknown_is h

module _ (ms : Modules) (declared : AreDeclaredKinded ms) where
  pub closed : AreDeclaredClosed ms
  closed = kinded_are_closed ms declared

  -- ALONG A RENAMING

  module _ (c d : Context) (r : Renaming) (fits : RenamingFits ms c d r) where
    known_along : (k : Known) (e : NExpr) (t u : NTy) → ((f : NExpr) → k ≡ Is f → HasType ms (without_joins c) f t) → substituted_type r.types t ≡ u → moved_known r k ≡ Is e
        → HasType ms (without_joins d) e u
    known_along k e t u typed same h =
        let p = moved_is r k e h in
        let q = renaming_keeps_types ms closed (without_joins c) (without_joins d) r (fits_without_joins (variables_stand ms closed) c d r fits) p.0 t (typed p.0 p.1) in
        subst (λ x. HasType ms (without_joins d) x u) p.2 (subst (λ x. HasType ms (without_joins d) (renamed r p.0) x) same q)

    names_along : (names : Name → Known) → ((n : Name) (e : NExpr) (t : NTy) → names n ≡ Is e → value_type ms n ≡ Ok t → HasType ms (without_joins c) e t)
        → (n : Name) (e : NExpr) (t : NTy) → moved_known r (names n) ≡ Is e → value_type ms n ≡ Ok t → HasType ms (without_joins d) e t
    names_along names typed n e t h v = known_along (names n) e t t (λ f k. typed n f t k v) (closed_kept r.types t (closed.values n t v)) h

    point_along : (k : Point) (ps : List NBinder) (e : NExpr) (j l : JoinPoint) → ((qs : List NBinder) (f : NExpr) → k ≡ PointOf qs f → IsPoint ms c qs f j)
        → substituted_join r.types j ≡ l → moved_point r k ≡ PointOf ps e → IsPoint ms d ps e l
    point_along k ps e j l typed same h =
        let p = moved_point_is r k ps e h in
        let q = typed p.0 p.1 p.2 in
        let qs = p.0 in
        let stand = variables_stand ms closed in
        let under = type_kept closed stand (with_binders qs c) (with_binders (replaced_binders r.types qs) d) (below_binders variables coercion_variables qs r)
        (fits_binders stand qs c d r fits) p.1 (raised_type (type_count qs) j.result) q.right in
        let right = subst (λ x. HasType ms (with_binders (replaced_binders r.types qs) d) (renamed (below_binders variables coercion_variables qs r) p.1) x)
        (raised_past_replaced qs r.types j.result) under in
        let moved : IsPoint ms d (replaced_binders r.types qs) (renamed (below_binders variables coercion_variables qs r) p.1) (substituted_join r.types j) = record {
          point = ap (substituted_join r.types) q.point ∙ join_point_kept stand r.types j.result qs;
          params = binders_kept ms true c.kinds d.kinds r.types fits.kinds qs q.params;
          right = right;
        } in
        subst (λ x. IsPoint ms d ps e x) same (subst (λ x. IsPoint ms d ps x (substituted_join r.types j)) p.4
        (subst (λ x. IsPoint ms d x (renamed (below_binders variables coercion_variables qs r) p.1) (substituted_join r.types j)) p.3 moved))

  -- APART

  pub holds_apart : (s : Surroundings) → Holds ms s → Holds ms (apart s)
  holds_apart s h = record {
    kinded = without_joins_kinded ms s.context h.kinded;
    lifted = h.lifted;
    locals = h.locals;
    rights = h.rights;
    names = h.names;
    points = λ i ps e j p a. none_point p;
  }

  pub holds_at_head : (a : NArg) (s : Surroundings) → Holds ms s → Holds ms (at_head a s)
  holds_at_head a s h = record {
    kinded = without_joins_kinded ms s.context h.kinded;
    lifted = h.lifted;
    locals = h.locals;
    rights = h.rights;
    names = h.names;
    points = λ i ps e j p b. none_point p;
  }

  -- BINDERS

  pub past_a_value_fits : (c : Context) (t : NTy) → RenamingFits ms c (with_value t c) past_a_value
  past_a_value_fits c t =
      moved_fits ms closed c c.coercions (t ∷ c.values) c.joins (λ i. i) (λ i. suc i) (λ i. i) (λ i q a. a) (λ i u a. a) (λ i q a. a)

  pub past_a_coercion_fits : (c : Context) (p : Ends) → RenamingFits ms c (with_coercion p c) past_a_coercion
  past_a_coercion_fits c p =
      moved_fits ms closed c (p ∷ c.coercions) c.values c.joins (λ i. suc i) (λ i. i) (λ i. i) (λ i q a. a) (λ i u a. a) (λ i q a. a)

  join_shifted : (j : JoinPoint) → substituted_join past_a_type.types j ≡ shifted_join j
  join_shifted j = rw (renamed_is_substituted suc j.type, renamed_is_substituted suc j.result) refl

  abbrev AreLifted : List Kind → Type 0
  AreLifted ks = (i : ℕ) (k : Kind) → at_distance ks i ≡ Ok k → is_lifted k ≡ true

  lifted_behind : (j : Kind) (ks : List Kind) → is_lifted j ≡ true → AreLifted ks → AreLifted (j ∷ ks)
  lifted_behind j ks l h zero k a = subst (λ x. is_lifted x ≡ true) (ok_ok a) l
  lifted_behind j ks l h (suc i) k a = h i k a

  pub holds_binder : (b : NBinder) (s : Surroundings) → Holds ms s → BinderIsKinded ms true s.context.kinds b → Holds ms (behind_binder b s)
  holds_binder (NBValue t) s h k = record {
    kinded = binder_kinded ms s.context (NBValue t) k h.kinded;
    lifted = h.lifted;
    locals = locals s.locals h.locals;
    rights = locals s.rights h.rights;
    names = names_along s.context (with_value t s.context) past_a_value (past_a_value_fits s.context t) s.names h.names;
    points = λ i ps e j p a. point_along s.context (with_value t s.context) past_a_value (past_a_value_fits s.context t) (s.points i) ps e j j
        (λ qs f q. h.points i qs f j q a) (join_itself j) p;
  }
    where
      locals : (f : ℕ → Known) → ((i : ℕ) (e : NExpr) (u : NTy) → f i ≡ Is e → at_distance s.context.values i ≡ Ok u → HasType ms (without_joins s.context) e u)
          → (i : ℕ) (e : NExpr) (u : NTy) → known_before Unknown (λ j. moved_known past_a_value (f j)) i ≡ Is e → at_distance (t ∷ s.context.values) i ≡ Ok u
          → HasType ms (without_joins (with_value t s.context)) e u
      locals f known zero e u k a = unknown_is k
      locals f known (suc i) e u k a =
          known_along s.context (with_value t s.context) past_a_value (past_a_value_fits s.context t) (f i) e u u (λ g q. known i g u q a)
          (variables_for_themselves u) k
  holds_binder (NBType k) s h b = record {
    kinded = binder_kinded ms s.context (NBType k) b h.kinded;
    lifted = lifted_behind k s.context.kinds (lifted_binder ms true b) h.lifted;
    locals = locals s.locals h.locals;
    rights = locals s.rights h.rights;
    names = names_along s.context (with_type k s.context) past_a_type (past_a_type_fits ms s.context k) s.names h.names;
    points = points;
  }
    where
      locals : (f : ℕ → Known) → ((i : ℕ) (e : NExpr) (u : NTy) → f i ≡ Is e → at_distance s.context.values i ≡ Ok u → HasType ms (without_joins s.context) e u)
          → (i : ℕ) (e : NExpr) (u : NTy) → moved_known past_a_type (f i) ≡ Is e → at_distance (with_type k s.context).values i ≡ Ok u
          → HasType ms (without_joins (with_type k s.context)) e u
      locals f known i e u p a =
          let q = mapped_inv shifted_type s.context.values i u a in
          known_along s.context (with_type k s.context) past_a_type (past_a_type_fits ms s.context k) (f i) e q.0 u (λ g m. known i g q.0 m q.1)
          (sym (renamed_is_substituted suc q.0) ∙ q.2) p

      points : (i : ℕ) (ps : List NBinder) (e : NExpr) (j : JoinPoint) → moved_point past_a_type (s.points i) ≡ PointOf ps e → at_distance (with_type k s.context).joins i ≡ Ok j
          → IsPoint ms (with_type k s.context) ps e j
      points i ps e j p a =
          let q = mapped_inv shifted_join s.context.joins i j a in
          point_along s.context (with_type k s.context) past_a_type (past_a_type_fits ms s.context k) (s.points i) ps e q.0 j (λ qs f m. h.points i qs f q.0 m q.1)
          (join_shifted q.0 ∙ q.2) p
  holds_binder (NBCo r t u) s h b =
      let behind = with_coercion (ends r t u) s.context in
      let fits = past_a_coercion_fits s.context (ends r t u) in
      record {
        kinded = binder_kinded ms s.context (NBCo r t u) b h.kinded;
        lifted = h.lifted;
        locals = λ i e v p a. known_along s.context behind past_a_coercion fits (s.locals i) e v v (λ f q. h.locals i f v q a) (variables_for_themselves v) p;
        rights = λ i e v p a. known_along s.context behind past_a_coercion fits (s.rights i) e v v (λ f q. h.rights i f v q a) (variables_for_themselves v) p;
        names = names_along s.context behind past_a_coercion fits s.names h.names;
        points = λ i ps e j p a. point_along s.context behind past_a_coercion fits (s.points i) ps e j j (λ qs f q. h.points i qs f j q a) (join_itself j) p;
      }

  pub holds_binders : (bs : List NBinder) (s : Surroundings) → Holds ms s → BindersAreKinded ms true s.context.kinds bs → Holds ms (behind_binders bs s)
  holds_binders [] s h k = h
  holds_binders (NBValue t ∷ bs) s h (one_binder b k) = holds_binders bs (behind_binder (NBValue t) s) (holds_binder (NBValue t) s h b) k
  holds_binders (NBType j ∷ bs) s h (one_binder b k) = holds_binders bs (behind_binder (NBType j) s) (holds_binder (NBType j) s h b) k
  holds_binders (NBCo r t u ∷ bs) s h (one_binder b k) = holds_binders bs (behind_binder (NBCo r t u) s) (holds_binder (NBCo r t u) s h b) k

  -- BINDS

  pub past_values_fits : (bs : NBinds) (c : Context) → RenamingFits ms c (with_binds bs c) (past_values (bind_count bs))
  past_values_fits bs c =
      subst (λ d. RenamingFits ms c d (past_values (bind_count bs))) (sym (behind_binds_is bs c))
      (moved_fits ms closed c c.coercions (bound_types bs c.values) c.joins (λ i. i) (λ i. i + bind_count bs) (λ i. i) (λ i q a. a)
      (λ i u a. types_past bs c.values i ∙ a) (λ i q a. a))

  -- what is known is of its type, in a context
  abbrev AreKnown : Context → (ℕ → Known) → List NTy → Type 0
  AreKnown d f vs = (i : ℕ) (e : NExpr) (t : NTy) → f i ≡ Is e → at_distance vs i ≡ Ok t → HasType ms d e t

  -- what is known of a bind
  abbrev known_of_bind : Bool → ℕ → NExpr → Known
  known_of_bind r n e = if r then known_of e else moved_known (past_values n) (known_of e)

  group_known : (r : Bool) (n : ℕ) (c d : Context) → ((e f : NExpr) (t : NTy) → HasType ms c e t → known_of_bind r n e ≡ Is f → HasType ms d f t)
      → (bs : NBinds) (vs : List NTy) (f : ℕ → Known) → AreKnown d f vs → BindsHaveTypes ms c r bs → AreKnown d (known_in_group r n bs f) (bound_types bs vs)
  group_known r n c d way bs vs f known no_binds = known
  group_known r n c d way bs vs f known (one_bind {t = t} {e = e} {rest = rest} k p v q fits more) =
      group_known r n c d way rest (t ∷ vs) (known_before (known_of_bind r n e) f) first more
    where
      first : AreKnown d (known_before (known_of_bind r n e) f) (t ∷ vs)
      first zero x u h a = subst (λ y. HasType ms d x y) (ok_ok a) (way e x t q h)
      first (suc i) x u h a = known i x u h a

  -- what is said of the right side of a bind
  abbrev right_of_bind : Bool → ℕ → NExpr → Known
  right_of_bind r n e = if r then Unknown else Is (renamed (past_values n) e)

  group_rights : (r : Bool) (n : ℕ) (c d : Context) → ((e f : NExpr) (t : NTy) → HasType ms c e t → right_of_bind r n e ≡ Is f → HasType ms d f t)
      → (bs : NBinds) (vs : List NTy) (f : ℕ → Known) → AreKnown d f vs → BindsHaveTypes ms c r bs → AreKnown d (rights_in_group r n bs f) (bound_types bs vs)
  group_rights r n c d way bs vs f known no_binds = known
  group_rights r n c d way bs vs f known (one_bind {t = t} {e = e} {rest = rest} k p v q fits more) =
      group_rights r n c d way rest (t ∷ vs) (known_before (right_of_bind r n e) f) first more
    where
      first : AreKnown d (known_before (right_of_bind r n e) f) (t ∷ vs)
      first zero x u h a = subst (λ y. HasType ms d x y) (ok_ok a) (way e x t q h)
      first (suc i) x u h a = known i x u h a

  right_inside : (r : Bool) (bs : NBinds) (c : Context) (e f : NExpr) (t : NTy) → HasType ms (without_joins (if r then with_binds bs c else c)) e t
      → right_of_bind r (bind_count bs) e ≡ Is f → HasType ms (without_joins (with_binds bs c)) f t
  right_inside true bs c e f t h k = unknown_is k
  right_inside false bs c e f t h k =
      known_along c (with_binds bs c) (past_values (bind_count bs)) (past_values_fits bs c) (is e) f t t
      (λ g q. subst (λ x. HasType ms (without_joins c) x t) (is_is q) h) (variables_for_themselves t) k

  way_inside : (r : Bool) (bs : NBinds) (c : Context) (e f : NExpr) (t : NTy) → HasType ms (without_joins (if r then with_binds bs c else c)) e t
      → known_of_bind r (bind_count bs) e ≡ Is f → HasType ms (without_joins (with_binds bs c)) f t
  way_inside true bs c e f t h k = subst (λ x. HasType ms (without_joins (with_binds bs c)) x t) (known_of_is e f k) h
  way_inside false bs c e f t h k =
      known_along c (with_binds bs c) (past_values (bind_count bs)) (past_values_fits bs c) (known_of e) f t t
      (λ g q. subst (λ x. HasType ms (without_joins c) x t) (known_of_is e g q) h) (variables_for_themselves t) k

  values_behind : (bs : NBinds) (c : Context) → (with_binds bs c).values ≡ bound_types bs c.values
  values_behind bs c = ap (λ d. d.values) (behind_binds_is bs c)

  pub holds_binds : (r : Bool) (bs : NBinds) (s : Surroundings) → Holds ms s → BindsHaveTypes ms (without_joins (if r then with_binds bs s.context else s.context)) r bs
      → Holds ms (behind_binds r bs s)
  holds_binds r bs s h b = record {
    kinded = binds_kinded ms s.context _ r bs b (kinds_among_binds ms r bs s.context) h.kinded;
    lifted = λ i k a. h.lifted i k (ap (λ d. at_distance d.kinds i) (sym (behind_binds_is bs s.context)) ∙ a);
    locals = λ i e t k a. group_known r n _ behind (way_inside r bs s.context) bs s.context.values (λ j. moved_known (past_values n) (s.locals j)) before b i e t k
        (ap (λ vs. at_distance vs i) (sym (values_behind bs s.context)) ∙ a);
    rights = λ i e t k a. group_rights r n _ behind (right_inside r bs s.context) bs s.context.values (λ j. moved_known (past_values n) (s.rights j)) rights_before b i e t k
        (ap (λ vs. at_distance vs i) (sym (values_behind bs s.context)) ∙ a);
    names = names_along s.context (with_binds bs s.context) (past_values n) fits s.names h.names;
    points = λ i ps e j p a. point_along s.context (with_binds bs s.context) (past_values n) fits (s.points i) ps e j j
        (λ qs f q. h.points i qs f j q (ap (λ js. at_distance js i) (ap (λ d. d.joins) (sym (behind_binds_is bs s.context))) ∙ a)) (join_itself j) p;
  }
    where
      n : ℕ
      n = bind_count bs

      behind : Context
      behind = without_joins (with_binds bs s.context)

      fits : RenamingFits ms s.context (with_binds bs s.context) (past_values n)
      fits = past_values_fits bs s.context

      rights_before : AreKnown behind (λ j. moved_known (past_values n) (s.rights j)) s.context.values
      rights_before i e t k a =
          known_along s.context (with_binds bs s.context) (past_values n) fits (s.rights i) e t t (λ f q. h.rights i f t q a) (variables_for_themselves t) k

      before : AreKnown behind (λ j. moved_known (past_values n) (s.locals j)) s.context.values
      before i e t k a = known_along s.context (with_binds bs s.context) (past_values n) fits (s.locals i) e t t (λ f q. h.locals i f t q a) (variables_for_themselves t) k

  pub holds_right_sides : (r : Bool) (bs : NBinds) (s : Surroundings) → Holds ms s
      → BindsHaveTypes ms (without_joins (if r then with_binds bs s.context else s.context)) r bs → Holds ms (at_right_sides r bs s)
  holds_right_sides true bs s h b = holds_apart (behind_binds true bs s) (holds_binds true bs s h b)
  holds_right_sides false bs s h b = holds_apart s h

  -- JOIN POINTS

  pub past_joins_fits : (t : NTy) (js : NJoins) (c : Context) → RenamingFits ms c (with_joins t js c) (past_joins (join_count js))
  past_joins_fits t js c =
      subst (λ d. RenamingFits ms c d (past_joins (join_count js))) (sym (behind_joins_is t js c))
      (moved_fits ms closed c c.coercions c.values (bound_joins t js c.joins) (λ i. i) (λ i. i) (λ i. i + join_count js) (λ i q a. a)
      (λ i u a. a) (λ i q a. joins_past t js c.joins i ∙ a))

  abbrev ArePoints : Context → (ℕ → Point) → List JoinPoint → Type 0
  ArePoints d f js = (i : ℕ) (ps : List NBinder) (e : NExpr) (j : JoinPoint) → f i ≡ PointOf ps e → at_distance js i ≡ Ok j → IsPoint ms d ps e j

  abbrev point_of_join : Bool → ℕ → List NBinder → NExpr → Point
  point_of_join r n ps e = if r then NoPoint else moved_point (past_joins n) (PointOf ps e)

  group_points : (r : Bool) (n : ℕ) (c d : Context) (t : NTy)
      → ((ps qs : List NBinder) (e f : NExpr) → BindersAreKinded ms true c.kinds ps → HasType ms (with_binders ps c) e (raised_type (type_count ps) t)
      → point_of_join r n ps e ≡ PointOf qs f → IsPoint ms d qs f (join_point t ps))
      → (bs : NJoins) (js : List JoinPoint) (f : ℕ → Point) → ArePoints d f js → JoinsHaveType ms c t bs → ArePoints d (points_in_group r n bs f) (bound_joins t bs js)
  group_points r n c d t way bs js f known no_joins = known
  group_points r n c d t way bs js f known (one_join {ps = ps} {e = e} {rest = rest} k p more) =
      group_points r n c d t way rest (join_point t ps ∷ js) (point_before (point_of_join r n ps e) f) first more
    where
      first : ArePoints d (point_before (point_of_join r n ps e) f) (join_point t ps ∷ js)
      first zero qs x j h a = subst (λ y. IsPoint ms d qs x y) (ok_ok a) (way ps qs e x k p h)
      first (suc i) qs x j h a = known i qs x j h a

  point_inside : (r : Bool) (t : NTy) (js : NJoins) (c : Context) (ps qs : List NBinder) (e f : NExpr) → BindersAreKinded ms true (if r then with_joins t js c else c).kinds ps
      → HasType ms (with_binders ps (if r then with_joins t js c else c)) e (raised_type (type_count ps) t) → point_of_join r (join_count js) ps e ≡ PointOf qs f
      → IsPoint ms (with_joins t js c) qs f (join_point t ps)
  point_inside true t js c ps qs e f k p h = none_point h
  point_inside false t js c ps qs e f k p h =
      point_along c (with_joins t js c) (past_joins (join_count js)) (past_joins_fits t js c) (PointOf ps e) qs f (join_point t ps) (join_point t ps)
      (λ rs g q. let same = point_is q in subst (λ x. IsPoint ms c x g (join_point t ps)) same.0 (subst (λ x. IsPoint ms c ps x (join_point t ps)) same.1
      (record { point = refl; params = k; right = p }))) (join_itself (join_point t ps)) h

  pub holds_joins : (r : Bool) (t : NTy) (js : NJoins) (s : Surroundings) → Holds ms s → IsValueType ms s.context.kinds t
      → JoinsHaveType ms (if r then with_joins t js s.context else s.context) t js → Holds ms (behind_joins r t js s)
  holds_joins r t js s h v b = record {
    kinded = joins_kinded ms js s.context t h.kinded v;
    lifted = λ i k a. h.lifted i k (ap (λ d. at_distance d.kinds i) (sym (behind_joins_is t js s.context)) ∙ a);
    locals = λ i e u k a. known_along s.context (with_joins t js s.context) (past_joins n) fits (s.locals i) e u u
        (λ f q. h.locals i f u q (ap (λ vs. at_distance vs i) (ap (λ d. d.values) (sym (behind_joins_is t js s.context))) ∙ a)) (variables_for_themselves u) k;
    rights = λ i e u k a. known_along s.context (with_joins t js s.context) (past_joins n) fits (s.rights i) e u u
        (λ f q. h.rights i f u q (ap (λ vs. at_distance vs i) (ap (λ d. d.values) (sym (behind_joins_is t js s.context))) ∙ a)) (variables_for_themselves u) k;
    names = names_along s.context (with_joins t js s.context) (past_joins n) fits s.names h.names;
    points = λ i ps e j p a. group_points r n _ (with_joins t js s.context) t (point_inside r t js s.context) js s.context.joins
        (λ k. moved_point (past_joins n) (s.points k)) before b i ps e j p
        (ap (λ ks. at_distance ks i) (sym (ap (λ d. d.joins) (behind_joins_is t js s.context))) ∙ a);
  }
    where
      n : ℕ
      n = join_count js

      fits : RenamingFits ms s.context (with_joins t js s.context) (past_joins n)
      fits = past_joins_fits t js s.context

      before : ArePoints (with_joins t js s.context) (λ k. moved_point (past_joins n) (s.points k)) s.context.joins
      before i ps e j p a =
          point_along s.context (with_joins t js s.context) (past_joins n) fits (s.points i) ps e j j (λ qs f q. h.points i qs f j q a) (join_itself j) p
