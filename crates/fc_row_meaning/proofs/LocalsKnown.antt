-- What surroundings say of local variables and of names is known at their place.
use Rattle.std.proofs.Common.{◌≡◌, ℕ, zero, suc, ◌+◌, ◌&&◌, Bool, true, false, nat_eq, if◌then◌else◌, List, [], ◌∷◌, refl, sym, ap, ap₂, ◌∙◌, subst, arith}
use Rattle.std.proofs.lemmas.Bool.Decides.{nat_tests}
use Rattle.fc_syntax.specs.declared.expr.Head.{Head}
use Rattle.fc_syntax.specs.declared.expr.Head.TheVariants as head
use Rattle.fc_syntax.specs.declared.ty.Name.{Name}
use Rattle.fc_model.specs.Calling.{type_arguments, type_count}
use Rattle.fc_model.specs.Erasure.{Scope, below_binds, erased}
use Rattle.fc_model.specs.Kinding.{Modules, same_name}
use Rattle.fc_model.specs.Nameless.{NTy, NBinder, NBValue, NBType, NBCo, NATerm, NAType, NACo, NArgs, NoNArgs, MoreNArgs, NBound, NBinds, NoNBinds, MoreNBinds, NAlts}
use Rattle.fc_model.specs.Nameless.{NExpr, NLocal, NVar, NLit, NApp, NLam, NLet, NCase, NCast, NCon, NPrim, NFail, NJoin, NJump}
use Rattle.fc_model.specs.Replacing.{Renaming, past_a_coercion, past_a_join, past_a_type, past_a_value, bind_count, join_count, renamed}
use Rattle.fc_model.specs.Stepping.{IsHead}
use Rattle.fc_model.proofs.Sameness.{false_true, same_name_eq}
use Rattle.fc_rows.specs.Shrinking.{are_trivial, is_trivial, moved_args}
use Rattle.fc_rows.specs.Surroundings.{as_arguments, Known, Unknown, Is, Surroundings, behind_binder, behind_binders, behind_binds, behind_value, head_binds, is_value, known_at}
use Rattle.fc_rows.specs.Surroundings.{known_before, known_in_alternative, known_in_group, known_of, listed_heads, moved_known, past_joins, past_values, scrutinee_local, scrutinee_name, types_as_arguments, value_count}
use Rattle.fc_meaning.proofs.WrittenExpressions.{AreBindsWritten, IsWritten}
use Rattle.fc_row_places.specs.NamelessFacts.{behind_none, behind_one, BehindTypes, NFact, NFactCon, NFactLit, NFactNoneOf, NKnown, NKnownBy, NKnows, nknows_constructor_binder, nknows_constructor_scrutinee}
use Rattle.fc_row_places.specs.NamelessFacts.{nknows_literal_binder, nknows_literal_scrutinee, nknows_default_binder, nknows_default_scrutinee, nknows_let_constructor, nknows_let_head}
use Rattle.fc_row_places.specs.NamelessFacts.{nknows_member_constructor, nknows_member_head, NMembersAt, first_members, later_members, nknows_past_group}
use Rattle.fc_row_places.specs.NamelessFacts.{nknows_below, nknows_below_all, nknows_past_let, nknows_past_join, nknows_past_joins, nknows_past_alternative, fact_past_binders}
use Rattle.fc_row_places.specs.NamelessFacts.{fact_past_binder, heads_among, moved_nfact, past_binders, past_binder}
use Rattle.fc_row_places.specs.NamelessPlaces.{NPlace, NBelow, NBelowAll, NPastLet, NPastGroup, NPastJoin, NPastJoins, NInAlt, scope_at}
use Rattle.fc_row_places.specs.NamelessRows.{single_bind}
use Rattle.fc_row_places.proofs.MovedFacts.{fact_past_more, fact_past_none}
use Rattle.fc_row_meaning.specs.LocalsTold.{AreNamesTold, AreTold, is_told_whole, SurroundingsAreTold, nothing_told, Told, told_constructor, told_head, told_literal, told_none_of}
use Rattle.fc_row_meaning.specs.PlacedRows.{Around, around_all, around_alternative, around_apart, around_below, around_group, around_head, around_join, around_joins, around_let, around_parameters}
use Rattle.fc_row_meaning.specs.PlacedRows.{around_unapplied}
use Rattle.fc_row_meaning.specs.SharedRights.{is_trivial_con, AllShare, none_share, more_share, Shares}
use Rattle.fc_row_meaning.proofs.PlacesChanged.{own_binders_of}
use Rattle.fc_row_meaning.proofs.PointsKnown.{points_known}
use Rattle.fc_row_meaning.proofs.Renamings.{one_join_past, one_value_past}
use Rattle.fc_row_meaning.proofs.ValuesKept.{shared_count}

-- MOVED

-- what stands behind types among moved arguments is moved from what stands there among the arguments
behind_back : (r : Renaming) (args parts : NArgs) → BehindTypes (moved_args r args) parts → (qs : NArgs) × BehindTypes args qs × (moved_args r qs ≡ parts)
behind_back r NoNArgs _ behind_none = (NoNArgs, behind_none, refl)
behind_back r (MoreNArgs (NATerm e) rest) _ behind_none = (MoreNArgs (NATerm e) rest, behind_none, refl)
behind_back r (MoreNArgs (NAType t) rest) _ behind_none = (MoreNArgs (NAType t) rest, behind_none, refl)
behind_back r (MoreNArgs (NAType t) rest) parts (behind_one b) = let q = behind_back r rest parts b in (q.0, behind_one q.1, q.2)
behind_back r (MoreNArgs (NACo g) rest) _ behind_none = (MoreNArgs (NACo g) rest, behind_none, refl)

-- what is trivial stays so
trivial_renamed : (r : Renaming) (e : NExpr) → is_trivial (renamed r e) ≡ is_trivial e
trivial_renamed r (NLocal i) = refl
trivial_renamed r (NVar n) = refl
trivial_renamed r (NLit n) = refl
trivial_renamed r (NApp f (NATerm a)) = refl
trivial_renamed r (NApp f (NAType t)) = trivial_renamed r f
trivial_renamed r (NApp f (NACo g)) = refl
trivial_renamed r (NLam b e) = refl
trivial_renamed r (NLet o bs e) = refl
trivial_renamed r (NCase e t u alts) = refl
trivial_renamed r (NCast e g) = trivial_renamed r e
trivial_renamed r (NCon n args) = refl
trivial_renamed r (NPrim op es) = refl
trivial_renamed r (NFail t) = refl
trivial_renamed r (NJoin o t js e) = refl
trivial_renamed r (NJump i args) = refl

trivial_args : (r : Renaming) (args : NArgs) → are_trivial (moved_args r args) ≡ are_trivial args
trivial_args r NoNArgs = refl
trivial_args r (MoreNArgs (NATerm e) rest) = ap₂ ◌&&◌ (trivial_renamed r e) (trivial_args r rest)
trivial_args r (MoreNArgs (NAType t) rest) = trivial_args r rest
trivial_args r (MoreNArgs (NACo g) rest) = trivial_args r rest

-- and what is told whole
whole_renamed : (r : Renaming) (e : NExpr) → is_told_whole (renamed r e) ≡ is_told_whole e
whole_renamed r (NLocal i) = refl
whole_renamed r (NVar n) = refl
whole_renamed r (NLit n) = refl
whole_renamed r (NApp f a) = refl
whole_renamed r (NLam b e) = refl
whole_renamed r (NLet o bs e) = refl
whole_renamed r (NCase e t u alts) = refl
whole_renamed r (NCast e g) = refl
whole_renamed r (NCon n args) = trivial_args r args
whole_renamed r (NPrim op es) = refl
whole_renamed r (NFail t) = refl
whole_renamed r (NJoin o t js e) = refl
whole_renamed r (NJump i args) = refl

-- what is known by K of y is known by L of z, when it is moved
abbrev Onward : (NExpr → NFact → Type 0) → (NExpr → NFact → Type 0) → Renaming → NExpr → NExpr → Type 0
Onward K L r y z = (f : NFact) → K y f → L z (moved_nfact r f)

told_moved : (K L : NExpr → NFact → Type 0) (r : Renaming) (y z : NExpr) → Onward K L r y z → (k : Known) → Told K y k → Told L z (moved_known r k)
told_moved K L r y z go _ nothing_told = nothing_told
told_moved K L r y z go _ (told_constructor {n = n} {args = args} w) =
    told_constructor (λ parts b. (let q = behind_back r args parts b in subst (λ x. L z (NFactCon n x)) q.2 (go (NFactCon n q.0) (w q.0 q.1))))
told_moved K L r y z go _ (told_literal {z = i} w) = told_literal (go (NFactLit i) w)
told_moved K L r y z go _ (told_head {e = e} h w) = told_head (whole_renamed r e ∙ h) (go (NFactNoneOf []) w)
told_moved K L r y z go _ (told_none_of alts w) = told_none_of alts (go (NFactNoneOf (heads_among alts)) w)

-- what is known of an expression is known of it by another relation too
told_as : (K L : NExpr → NFact → Type 0) (y : NExpr) → ((f : NFact) → K y f → L y f) → (k : Known) → Told K y k → Told L y k
told_as K L y go _ nothing_told = nothing_told
told_as K L y go _ (told_constructor {n = n} w) = told_constructor (λ parts b. go (NFactCon n parts) (w parts b))
told_as K L y go _ (told_literal {z = z} w) = told_literal (go (NFactLit z) w)
told_as K L y go _ (told_head h w) = told_head h (go (NFactNoneOf []) w)
told_as K L y go _ (told_none_of alts w) = told_none_of alts (go (NFactNoneOf (heads_among alts)) w)

-- what is bound to d is known of y, where values are told as heads and constructors with trivial arguments with what they are made of
pub told_shared : (K : NExpr → NFact → Type 0) (y d : NExpr) → (is_value d ≡ true → K y (NFactNoneOf []))
    → ((n : Name) (args : NArgs) → d ≡ NCon n args → are_trivial args ≡ true → (parts : NArgs) → BehindTypes args parts → K y (NFactCon n parts)) → Told K y (known_of d)
told_shared K y (NCon n args) head con = tested (are_trivial args) refl
  where
    tested : (b : Bool) → are_trivial args ≡ b → Told K y (Is (NCon n args))
    tested true h = told_constructor (con n args refl h)
    tested false h = told_head h (head refl)
told_shared K y (NLit z) head con = nothing_told
told_shared K y d head con = tested (is_value d) refl head
  where
    tested : (b : Bool) → is_told_whole d ≡ false → (b ≡ true → K y (NFactNoneOf [])) → Told K y (if b then Is d else Unknown)
    tested true n h = told_head n (h refl)
    tested false n h = nothing_told

-- all that surroundings say of local variables and of names is known by K
pub record AllTold (K : NExpr → NFact → Type 0) (s : Surroundings) : Type 0 where
  pub locals : (i : ℕ) → Told K (NLocal i) (s.locals i)
  pub names : (n : Name) → Told K (NVar n) (s.names n)

-- BELOW BINDERS

name_past_binders : (bs : List NBinder) (n : Name) → past_binders bs (NVar n) ≡ NVar n
name_past_binders [] n = refl
name_past_binders (NBValue t ∷ bs) n = name_past_binders bs n
name_past_binders (NBType k ∷ bs) n = name_past_binders bs n
name_past_binders (NBCo r t u ∷ bs) n = name_past_binders bs n

-- past one binder, and past several
below_locals : (b : NBinder) (K L : NExpr → NFact → Type 0) → ((e : NExpr) (f : NFact) → K e f → L (past_binder b e) (fact_past_binder b f)) → (s : Surroundings) → AllTold K s
    → (i : ℕ) → Told L (NLocal i) ((behind_binder b s).locals i)
below_locals (NBValue t) K L go s h zero = nothing_told
below_locals (NBValue t) K L go s h (suc i) = told_moved K L past_a_value (NLocal i) (NLocal (suc i)) (go (NLocal i)) (s.locals i) (h.locals i)
below_locals (NBType k) K L go s h i = told_moved K L past_a_type (NLocal i) (NLocal i) (go (NLocal i)) (s.locals i) (h.locals i)
below_locals (NBCo r t u) K L go s h i = told_moved K L past_a_coercion (NLocal i) (NLocal i) (go (NLocal i)) (s.locals i) (h.locals i)

below_names : (b : NBinder) (K L : NExpr → NFact → Type 0) → ((e : NExpr) (f : NFact) → K e f → L (past_binder b e) (fact_past_binder b f)) → (s : Surroundings) → AllTold K s
    → (n : Name) → Told L (NVar n) ((behind_binder b s).names n)
below_names (NBValue t) K L go s h n = told_moved K L past_a_value (NVar n) (NVar n) (go (NVar n)) (s.names n) (h.names n)
below_names (NBType k) K L go s h n = told_moved K L past_a_type (NVar n) (NVar n) (go (NVar n)) (s.names n) (h.names n)
below_names (NBCo r t u) K L go s h n = told_moved K L past_a_coercion (NVar n) (NVar n) (go (NVar n)) (s.names n) (h.names n)

told_below : (b : NBinder) (K L : NExpr → NFact → Type 0) → ((e : NExpr) (f : NFact) → K e f → L (past_binder b e) (fact_past_binder b f)) → (s : Surroundings) → AllTold K s
    → AllTold L (behind_binder b s)
told_below b K L go s h = record { locals = below_locals b K L go s h; names = below_names b K L go s h }

told_below_all : (bs : List NBinder) (K L : NExpr → NFact → Type 0) → ((e : NExpr) (f : NFact) → K e f → L (past_binders bs e) (fact_past_binders bs f)) → (s : Surroundings) → AllTold K s
    → AllTold L (behind_binders bs s)
told_below_all [] K L go s h =
    let same : (e : NExpr) (f : NFact) → K e f → L e f = λ e f w. subst (L e) (fact_past_none f) (go e f w) in
    record { locals = λ i. told_as K L (NLocal i) (same (NLocal i)) (s.locals i) (h.locals i); names = λ n. told_as K L (NVar n) (same (NVar n)) (s.names n) (h.names n) }
told_below_all (b ∷ bs) K L go s h =
    let M : NExpr → NFact → Type 0 = λ e f. L (past_binders bs e) (fact_past_binders bs f) in
    told_below_all bs M L (λ e f w. w) (behind_binder b s) (told_below b K M (λ e f w. subst (L (past_binders bs (past_binder b e))) (fact_past_more b bs f) (go e f w)) s h)

-- GROUPS

-- a value is a head when types are gone
pub value_is_head : (s : Scope) (e : NExpr) → is_value e ≡ true → IsHead (erased s e)
value_is_head s (NLocal i) h = false_true h
value_is_head s (NVar n) h = false_true h
value_is_head s (NLit n) h = false_true h
value_is_head s (NApp f a) h = false_true h
value_is_head s (NLam (NBValue t) e) h = tt
value_is_head s (NLam (NBType k) e) h = value_is_head s e h
value_is_head s (NLam (NBCo r t u) e) h = tt
value_is_head s (NLet r bs e) h = false_true h
value_is_head s (NCase e xt rt alts) h = false_true h
value_is_head s (NCast e g) h = value_is_head s e h
value_is_head s (NCon n args) h = tt
value_is_head s (NPrim op es) h = false_true h
value_is_head s (NFail t) h = false_true h
value_is_head s (NJoin r t js e) h = false_true h
value_is_head s (NJump i args) h = false_true h

-- a member of a group on both sides
members_share : {s : Scope} {bs cs : NBinds} → AllShare s bs cs → AreBindsWritten bs → {i : ℕ} {d e : NExpr} → NMembersAt bs cs i d e → Shares s d e × IsWritten d
members_share none_share w m = elim m [ ]
members_share (more_share h more) w (first_members i p n) = (h, w.0)
members_share (more_share h more) w (later_members m) = members_share more w.1 m

-- told of the members, and of what stands outside
told_group : (K : NExpr → NFact → Type 0) (n : ℕ) (bs cs : NBinds) → bind_count bs ≡ bind_count cs → ((i : ℕ) (d e : NExpr) → NMembersAt bs cs i d e → Told K (NLocal i) (known_of d))
    → (f : ℕ → Known) → ((i : ℕ) → Told K (NLocal (i + bind_count bs)) (f i)) → (i : ℕ) → Told K (NLocal i) (known_in_group true n bs f i)
told_group K n NoNBinds cs same members f outside i = let e : i + 0 ≡ i = omega arith in subst (λ j. Told K (NLocal j) (f i)) e (outside i)
told_group K n (MoreNBinds (NBound t d) bs) NoNBinds same members f outside i = absurd cc
told_group K n (MoreNBinds (NBound t d) bs) (MoreNBinds (NBound u e) cs) same members f outside i =
    let fewer : bind_count bs ≡ bind_count cs = omega (arith, same) in
    told_group K n bs cs fewer (λ i a b m. members i a b (later_members m)) (known_before (known_of d) f) beyond i
  where
    beyond : (i : ℕ) → Told K (NLocal (i + bind_count bs)) (known_before (known_of d) f i)
    beyond zero =
        let here : bind_count bs ≡ 0 + bind_count bs = omega arith in
        let fewer : bind_count bs ≡ bind_count cs = omega (arith, same) in
        subst (λ j. Told K (NLocal j) (known_of d)) here (members (bind_count bs) d e (first_members (bind_count bs) refl fewer))
    beyond (suc i) = let there : i + suc (bind_count bs) ≡ suc i + bind_count bs = omega arith in subst (λ j. Told K (NLocal j) (f i)) there (outside i)

-- ALTERNATIVES

-- the types of a scrutinee stand before the binders of its constructor
behind_universals : (m : ℕ) (ts : List NTy) (rest : NArgs) → BehindTypes (types_as_arguments m ts rest) rest
behind_universals m [] rest = behind_none
behind_universals m (t ∷ ts) rest = behind_one (behind_universals m ts rest)

-- a variable past binders that stand together
local_past_binders : (bs : List NBinder) (i : ℕ) → past_binders bs (NLocal i) ≡ NLocal (i + value_count bs)
local_past_binders [] i = ap NLocal (omega arith)
local_past_binders (NBValue t ∷ bs) i = let e : suc i + value_count bs ≡ i + suc (value_count bs) = omega arith in local_past_binders bs (suc i) ∙ ap NLocal e
local_past_binders (NBType k ∷ bs) i = local_past_binders bs i
local_past_binders (NBCo r t u ∷ bs) i = local_past_binders bs i

-- told of one variable, and of the others
told_at : (K : NExpr → NFact → Type 0) (i : ℕ) (k : Known) (f : ℕ → Known) → Told K (NLocal i) k → ((j : ℕ) → Told K (NLocal j) (f j)) → (j : ℕ) → Told K (NLocal j) (known_at i k f j)
told_at K i k f here others j = tested (nat_eq j i) refl
  where
    tested : (b : Bool) → nat_eq j i ≡ b → Told K (NLocal j) (if b then k else f j)
    tested true e = let same : i ≡ j = grind (arith, nat_tests) in subst (λ x. Told K (NLocal x) k) same here
    tested false e = others j

-- told in an alternative, where k is told of the scrutinee
told_in : (K : NExpr → NFact → Type 0) (e : NExpr) (bs : List NBinder) (k : Known) → Told K (past_binders bs (renamed past_a_value e)) k → (f : ℕ → Known) → ((j : ℕ) → Told K (NLocal j) (f j))
    → (j : ℕ) → Told K (NLocal j) (scrutinee_local e (suc (value_count bs)) k f j)
told_in K (NLocal i) bs k here f others j =
    let e : suc i + value_count bs ≡ i + suc (value_count bs) = omega arith in
    told_at K (i + suc (value_count bs)) k f (subst (λ d. Told K d k) (local_past_binders bs (suc i) ∙ ap NLocal e) here) others j
told_in K e bs k here f others j = others j

-- told of names there
told_name_in : (K : NExpr → NFact → Type 0) (e : NExpr) (bs : List NBinder) (k : Known) → Told K (past_binders bs (renamed past_a_value e)) k → (f : Name → Known)
    → ((n : Name) → Told K (NVar n) (f n)) → (n : Name) → Told K (NVar n) (scrutinee_name e k f n)
told_name_in K (NVar m) bs k here f others n = tested (same_name n m) refl
  where
    tested : (b : Bool) → same_name n m ≡ b → Told K (NVar n) (if b then k else f n)
    tested true h = subst (λ d. Told K d k) (name_past_binders bs m ∙ ap NVar (sym (same_name_eq n m h))) here
    tested false h = others n
told_name_in K e bs k here f others n = others n

-- AT A PLACE

module _ (G : NKnown) where
  -- what a let binds
  told_let : (t : NTy) (a : NExpr) (c : NPlace) → IsWritten a → Told (NKnows G (NPastLet t a a c)) (NLocal 0) (moved_known past_a_value (known_of a))
  told_let t (NCon n args) c w =
      told_constructor (λ parts b. (let q = behind_back past_a_value args parts b in
      subst (λ x. NKnows G (NPastLet t (NCon n args) (NCon n args) c) (NLocal 0) (NFactCon n x)) q.2 (nknows_let_constructor w q.1)))
  told_let t (NLit z) c w = nothing_told
  told_let t a c w = tested (is_value a) refl refl
    where
      tested : (b : Bool) → is_value a ≡ b → is_told_whole a ≡ false → Told (NKnows G (NPastLet t a a c)) (NLocal 0) (moved_known past_a_value (if b then Is a else Unknown))
      tested true h n = told_head (whole_renamed past_a_value a ∙ n) (nknows_let_head (value_is_head (scope_at c) a h) (value_is_head (scope_at c) a h))
      tested false h n = nothing_told

  -- what a group binds
  told_member : (c : NPlace) (bs cs : NBinds) → AllShare (below_binds bs (scope_at c)) bs cs → AreBindsWritten bs → (i : ℕ) (d e : NExpr) → NMembersAt bs cs i d e
      → Told (NKnows G (NPastGroup bs cs c)) (NLocal i) (known_of d)
  told_member c bs cs all written i d e m =
      let s = below_binds bs (scope_at c) in
      let q = members_share all written m in
      told_shared (NKnows G (NPastGroup bs cs c)) (NLocal i) d (λ v. nknows_member_head m (value_is_head s d v) (value_is_head s e (q.0.value v)))
      (λ n args same trivial parts b.
      nknows_member_constructor (subst (λ x. NMembersAt bs cs i x e) same m) (subst (λ x. erased s x ≡ erased s e) same (q.0.constructor (subst (λ x. is_trivial_con x ≡ true) (sym same) trivial)))
      (subst IsWritten same q.1) b)

  -- the binder of the case
  told_binder : (xt : NTy) (e : NExpr) (alts : NAlts) (h : Head) (bs : List NBinder) (c : NPlace) → head_binds h bs ≡ true
      → Told (NKnows G (NInAlt xt e e alts h bs c)) (NLocal (value_count bs)) (known_in_alternative xt (listed_heads alts) h bs)
  told_binder xt e alts head.Default [] c b = told_none_of alts nknows_default_binder
  told_binder xt e alts head.Default (x ∷ bs) c b = false_true b
  told_binder xt e alts (head.Lit n) [] c b = told_literal nknows_literal_binder
  told_binder xt e alts (head.Lit n) (x ∷ bs) c b = false_true b
  told_binder xt e alts (head.Con n) bs c b =
      told_constructor (λ parts d. nknows_constructor_binder (behind_universals (type_count bs) (type_arguments xt) (as_arguments bs)) d)

  -- the scrutinee, as it is seen behind the binders
  told_scrutinee : (xt : NTy) (e : NExpr) (alts : NAlts) (h : Head) (bs : List NBinder) (c : NPlace) → IsWritten e → head_binds h bs ≡ true
      → Told (NKnows G (NInAlt xt e e alts h bs c)) (past_binders bs (renamed past_a_value e)) (known_in_alternative xt (listed_heads alts) h bs)
  told_scrutinee xt e alts head.Default [] c w b = told_none_of alts (nknows_default_scrutinee w)
  told_scrutinee xt e alts head.Default (x ∷ bs) c w b = false_true b
  told_scrutinee xt e alts (head.Lit n) [] c w b = told_literal (nknows_literal_scrutinee w)
  told_scrutinee xt e alts (head.Lit n) (x ∷ bs) c w b = false_true b
  told_scrutinee xt e alts (head.Con n) bs c w b =
      told_constructor (λ parts d. nknows_constructor_scrutinee (behind_universals (type_count bs) (type_arguments xt) (as_arguments bs)) d w)

  -- all places
  values_told : (ms : Modules) → AreNamesTold G ms → (s : Surroundings) (c : NPlace) → Around ms s c → AllTold (NKnows G c) s
  values_told ms h _ _ around_all = record { locals = λ i. nothing_told; names = h }
  values_told ms h _ _ (around_apart {s = s} {c = c} a) = let o = values_told ms h s c a in record { locals = o.locals; names = o.names }
  values_told ms h _ _ (around_head {s = s} {c = c} a) = let o = values_told ms h s c a in record { locals = o.locals; names = o.names }
  values_told ms h _ _ (around_unapplied {s = s} {c = c} a) = let o = values_told ms h s c a in record { locals = o.locals; names = o.names }
  values_told ms h _ _ (around_below {s = s} {c = c} {b = b} a) = told_below b (NKnows G c) (NKnows G (NBelow b c)) (λ e f w. nknows_below w) s (values_told ms h s c a)
  values_told ms h _ _ (around_parameters {s = s} {c = c} {ps = ps} a) = told_below_all ps (NKnows G c) (NKnows G (NBelowAll ps c)) (λ e f w. nknows_below_all w) s (values_told ms h s c a)
  values_told ms h _ _ (around_let {s = s} {c = c} {t = t} {a = d} w a) =
      let o = values_told ms h s c a in
      let K = NKnows G (NPastLet t d d c) in
      record {
        locals = let_told K o.locals (told_let t d c w) (λ i f k. nknows_past_let k);
        names = λ n. subst (λ r. Told K (NVar n) (moved_known r (s.names n))) (sym one_value_past) (told_moved (NKnows G c) K past_a_value (NVar n) (NVar n) (λ f k. nknows_past_let k) (s.names n) (o.names n));
      }
    where
      let_told : (K : NExpr → NFact → Type 0) → ((i : ℕ) → Told (NKnows G c) (NLocal i) (s.locals i)) → Told K (NLocal 0) (moved_known past_a_value (known_of d))
          → ((i : ℕ) (f : NFact) → NKnows G c (NLocal i) f → K (NLocal (suc i)) (moved_nfact past_a_value f)) → (i : ℕ) → Told K (NLocal i) ((behind_binds false (single_bind t d) s).locals i)
      let_told K o here go zero = subst (λ r. Told K (NLocal 0) (moved_known r (known_of d))) (sym one_value_past) here
      let_told K o here go (suc i) =
          subst (λ r. Told K (NLocal (suc i)) (moved_known r (s.locals i))) (sym one_value_past) (told_moved (NKnows G c) K past_a_value (NLocal i) (NLocal (suc i)) (go i) (s.locals i) (o i))
  values_told ms h _ _ (around_group {s = s} {c = c} {bs = bs} {cs = cs} w all a) =
      let o = values_told ms h s c a in
      let n = bind_count bs in
      let r = past_values n in
      let same = shared_count all in
      let K = NKnows G (NPastGroup bs cs c) in
      record {
        locals = told_group K n bs cs same (told_member c bs cs all w) (λ j. moved_known r (s.locals j))
            (λ j. told_moved (NKnows G c) K r (NLocal j) (NLocal (j + n)) (λ f k. nknows_past_group same k) (s.locals j) (o.locals j));
        names = λ m. told_moved (NKnows G c) K r (NVar m) (NVar m) (λ f k. nknows_past_group same k) (s.names m) (o.names m);
      }
  values_told ms h _ _ (around_join {s = s} {c = c} t {ps = ps} {a = d} w a) =
      let o = values_told ms h s c a in
      let K = NKnows G (NPastJoin ps d d c) in
      record {
        locals = λ i. subst (λ r. Told K (NLocal i) (moved_known r (s.locals i))) (sym one_join_past)
            (told_moved (NKnows G c) K past_a_join (NLocal i) (NLocal i) (λ f k. nknows_past_join k) (s.locals i) (o.locals i));
        names = λ n. subst (λ r. Told K (NVar n) (moved_known r (s.names n))) (sym one_join_past)
            (told_moved (NKnows G c) K past_a_join (NVar n) (NVar n) (λ f k. nknows_past_join k) (s.names n) (o.names n));
      }
  values_told ms h _ _ (around_joins {s = s} {c = c} t {js = js} {ks = ks} n a) =
      let o = values_told ms h s c a in
      let K = NKnows G (NPastJoins js ks c) in
      let r = past_joins (join_count js) in
      record {
        locals = λ i. told_moved (NKnows G c) K r (NLocal i) (NLocal i) (λ f k. nknows_past_joins n k) (s.locals i) (o.locals i);
        names = λ m. told_moved (NKnows G c) K r (NVar m) (NVar m) (λ f k. nknows_past_joins n k) (s.names m) (o.names m);
      }
  values_told ms h _ _ (around_alternative {s = s} {c = c} {e = e} {t = t} {alts = alts} {h = hd} {bs = bs} w b a) =
      let K = NKnows G (NInAlt t e e alts hd bs c) in
      let M : NExpr → NFact → Type 0 = λ d f. K (past_binders bs d) (fact_past_binders bs f) in
      let k = known_in_alternative t (listed_heads alts) hd bs in
      let one : AllTold M (behind_value t Unknown s) = told_below (NBValue t) (NKnows G c) M (λ d f k. nknows_past_alternative (own_binders_of hd bs b) k) s (values_told ms h s c a) in
      let inner = behind_binders bs (behind_value t Unknown s) in
      let all = told_below_all bs M K (λ d f k. k) (behind_value t Unknown s) one in
      let scrutinee = told_scrutinee t e alts hd bs c w b in
      record {
        locals = told_in K e bs k scrutinee (known_at (value_count bs) k inner.locals) (told_at K (value_count bs) k inner.locals (told_binder t e alts hd bs c b) all.locals);
        names = told_name_in K e bs k scrutinee inner.names all.names;
      }

  pub all_told : (ms : Modules) → AreNamesTold G ms → (s : Surroundings) (c : NPlace) → Around ms s c → AreTold G c s
  all_told ms h s c a = let o = values_told ms h s c a in record { locals = o.locals; names = o.names; points = points_known ms s c a }

pub surroundings_are_told : SurroundingsAreTold
surroundings_are_told known ms h s c a = all_told (NKnownBy known) ms h s c a
