-- What stands in place of variables and is of their types keeps the type of the whole.
use Rattle.std.proofs.Common.{◌≡◌, ℕ, Bool, true, false, not, ◌&&◌, ◌||◌, if◌then◌else◌, List, [], ◌∷◌, refl, sym, ◌∙◌, subst}
use Rattle.fc_syntax.specs.declared.ty.Role.{Role}
use Rattle.fc_syntax.specs.declared.ty.Role.TheVariants.{R}
use Rattle.fc_syntax.specs.Tree.{Kind, KStar}
use Rattle.fc_model.specs.Calling.{Given, GivenTerm, GivenType, GivenCoercion, Takes, atom_fits, is_unlifted, over_binder}
use Rattle.fc_model.specs.Coercing.{Ends}
use Rattle.fc_model.specs.CoercingRules.{Proves}
use Rattle.fc_model.specs.Kinding.{Modules}
use Rattle.fc_model.specs.Nameless.{NTy, NCo, NBinder, NBValue, NBType, NBCo, NArg, NExpr, NArgs, NBinds, NJoins, NAlts}
use Rattle.fc_model.specs.Replacing.{Standing, StandingCoercion, Replacement, below_binder, below_binders, below_joins, below_values, bind_count, join_count, put_in}
use Rattle.fc_model.specs.Replacing.{put_in_alts, put_in_arg, put_in_args, put_in_binds, put_in_coercion, put_in_joins, replaced_binder, replaced_binders, types_behind}
use Rattle.fc_model.specs.Substituting.{substituted_type}
use Rattle.fc_model.specs.Typing.{Context, Before, is_atom, with_binder, with_binders, with_binds, with_joins, without_joins}
use Rattle.fc_model.specs.TypingLaws.{AreDeclaredClosed, FitsBy, substituted_join}
use Rattle.fc_model.specs.TypingRules.{BodyFits, below_value, below_type, below_coercion}
use Rattle.fc_model.specs.TypingRules.{HasType, typed_local, typed_declared, typed_literal, typed_application, typed_lambda, typed_let, typed_case, typed_cast, typed_con}
use Rattle.fc_model.specs.TypingRules.{typed_prim, typed_fail, typed_join, typed_jump}
use Rattle.fc_model.specs.TypingRules.{ArgIsGiven, given_term, given_type, given_coercion, ArgsAreGiven, no_args, one_arg, BindsHaveTypes, no_binds, one_bind}
use Rattle.fc_model.specs.TypingRules.{JoinsHaveType, no_joins, one_join}
use Rattle.fc_model.specs.TypingRules.{AltsFit, no_alts, default_alt, literal_alt, con_alt}
use Rattle.fc_model.proofs.CallsKept.{AreLifted, BecomesGiven, term_becomes, type_becomes, coercion_becomes, BecomeGiven, none_become, one_becomes}
use Rattle.fc_model.proofs.CallsKept.{binder_kept, binders_kept, closed_kept, data_kept, fit_kept, given_length_kept, int_kept, unlifted_kept, raised_past_replaced, takes_kept}
use Rattle.fc_model.proofs.FitsKept.{Stand, fits_binder, fits_binders, fits_binds, fits_joins, fits_value, fits_without_joins, types_fit}
use Rattle.fc_model.proofs.KindsKept.{HaveKinds, have_kinds_below, substitution_keeps_kinds}
use Rattle.fc_model.proofs.Sameness.{false_true}

-- ATOMS

places_fit : (i a b : Bool) → (i ≡ true → a ≡ true → b ≡ true) → not i || a ≡ true → not i || b ≡ true
places_fit true a b keeps fits = keeps refl fits
places_fit false a b keeps fits = refl

-- a place that took an atom, or none, still does
fits_still : (s : ℕ → NTy) → AreLifted s → (t : NTy) (a b : Bool) → (is_unlifted t ≡ true → a ≡ true → b ≡ true) → atom_fits t a ≡ true
    → atom_fits (substituted_type s t) b ≡ true
fits_still s h t a b keeps fits = rw (unlifted_kept s h t) (places_fit (is_unlifted t) a b keeps fits)

bound_atoms : (o a b : Bool) → (a ≡ true → b ≡ true) → (not o && a) ≡ true → (not o && b) ≡ true
bound_atoms true a b keeps h = h
bound_atoms false a b keeps h = keeps h

-- LAMBDAS

over_binder_kept : (s : ℕ → NTy) (b : NBinder) (u : NTy) → over_binder (replaced_binder s b) (substituted_type (types_behind b s) u) ≡ substituted_type s (over_binder b u)
over_binder_kept s (NBValue t) u = refl
over_binder_kept s (NBType k) u = refl
over_binder_kept s (NBCo r t v) u = refl

body_kept : (ms : Modules) (ks ls : List Kind) (s : ℕ → NTy) → HaveKinds ms ks ls s → (b : NBinder) (u : NTy) → BodyFits ms ks b u
    → BodyFits ms ls (replaced_binder s b) (substituted_type (types_behind b s) u)
body_kept ms ks ls s h b u below_value = below_value
body_kept ms ks ls s h b u below_coercion = below_coercion
body_kept ms ks ls s h b u (below_type {k = k} p) =
    below_type (substitution_keeps_kinds ms (k ∷ ks) (k ∷ ls) _ (have_kinds_below ms ks ls k s h) 0 u KStar p)

module _ {V W : Type 0} {ms : Modules} {how : Standing V} {proofs : StandingCoercion W} {Proof : Context → W → Ends → Type 0} {IsOf : Context → V → NTy → Type 0}
    (closed : AreDeclaredClosed ms) (stand : Stand ms how proofs Proof IsOf) where
  -- a coercion proves what it did
  pub proves_kept : (c d : Context) (r : Replacement V W) → FitsBy ms Proof IsOf c d r → (g : NCo) (o : Role) (t u : NTy) → Proves ms c.kinds c.coercions g o t u
      → Proves ms d.kinds d.coercions (put_in_coercion proofs r.types r.coercions g) o (substituted_type r.types t) (substituted_type r.types u)
  proves_kept c d r f g o t u h = stand.proves c d r.types r.coercions (types_fit stand c d r f) f.coercions g o t u h

  -- what is an atom of an unlifted type still is one
  atoms_kept : (c d : Context) (r : Replacement V W) → FitsBy ms Proof IsOf c d r → (e : NExpr) (t : NTy) → HasType ms c e t → is_unlifted t ≡ true → is_atom e ≡ true
      → is_atom (put_in how proofs r e) ≡ true
  atoms_kept c d r f e t (typed_local {i = i} h) int a =
      stand.atom d (r.values i) (substituted_type r.types t) (f.values i t h) (unlifted_kept r.types f.lifted t ∙ int)
  atoms_kept c d r f e t (typed_declared h) int a = refl
  atoms_kept c d r f e t typed_literal int a = refl
  atoms_kept c d r f e t typed int a = false_true a

  -- GROUPS

  -- what is put in for a group, behind it where it is recursive
  abbrev among_binds : Bool → NBinds → Replacement V W → Replacement V W
  among_binds o bs r = if o then below_values how proofs (bind_count bs) r else r

  abbrev among_joins : Bool → NJoins → Replacement V W → Replacement V W
  among_joins o js r = if o then below_joins how proofs (join_count js) r else r

  binds_behind : (o : Bool) (bs : NBinds) (c d : Context) (r : Replacement V W) → FitsBy ms Proof IsOf c d r
      → FitsBy ms Proof IsOf (with_binds bs c) (with_binds (put_in_binds how proofs (among_binds o bs r) bs) d) (below_values how proofs (bind_count bs) r)
  binds_behind true bs c d r f = fits_binds stand bs r.coercions (below_values how proofs (bind_count bs) r).values r.joins c d r f
  binds_behind false bs c d r f = fits_binds stand bs r.coercions r.values r.joins c d r f

  binds_among : (o : Bool) (bs : NBinds) (c d : Context) (r : Replacement V W) → FitsBy ms Proof IsOf c d r
      → FitsBy ms Proof IsOf (if o then with_binds bs c else c) (if o then with_binds (put_in_binds how proofs (among_binds o bs r) bs) d else d) (among_binds o bs r)
  binds_among true bs c d r f = binds_behind true bs c d r f
  binds_among false bs c d r f = f

  joins_behind : (o : Bool) (t : NTy) (js : NJoins) (c d : Context) (r : Replacement V W) → FitsBy ms Proof IsOf c d r
      → FitsBy ms Proof IsOf (with_joins t js c) (with_joins (substituted_type r.types t) (put_in_joins how proofs (among_joins o js r) js) d)
      (below_joins how proofs (join_count js) r)
  joins_behind true t js c d r f =
      fits_joins stand t js r.coercions (below_joins how proofs (join_count js) r).values (below_joins how proofs (join_count js) r).joins c d r f
  joins_behind false t js c d r f = fits_joins stand t js r.coercions r.values r.joins c d r f

  joins_among : (o : Bool) (t : NTy) (js : NJoins) (c d : Context) (r : Replacement V W) → FitsBy ms Proof IsOf c d r
      → FitsBy ms Proof IsOf (if o then with_joins t js c else c)
      (if o then with_joins (substituted_type r.types t) (put_in_joins how proofs (among_joins o js r) js) d else d) (among_joins o js r)
  joins_among true t js c d r f = joins_behind true t js c d r f
  joins_among false t js c d r f = f

  types_among : (o : Bool) (js : NJoins) (r : Replacement V W) → (among_joins o js r).types ≡ r.types
  types_among true js r = refl
  types_among false js r = refl

  -- EXPRESSIONS

  mutual
    pub type_kept : (c d : Context) (r : Replacement V W) → FitsBy ms Proof IsOf c d r → (e : NExpr) (t : NTy) → HasType ms c e t
        → HasType ms d (put_in how proofs r e) (substituted_type r.types t)
    type_kept c d r f e t (typed_local {i = i} h) = stand.typed d (r.values i) (substituted_type r.types t) (f.values i t h)
    type_kept c d r f e t (typed_declared {n = n} h) =
        subst (λ x. HasType ms d (put_in how proofs r e) x) (sym (closed_kept r.types t (closed.values n t h))) (typed_declared h)
    type_kept c d r f e t typed_literal = typed_literal
    type_kept c d r f e t (typed_application {f = a} {a = x} s g p q takes) =
        let outer = fits_without_joins stand c d r f in
        let h = arg_kept (without_joins c) (without_joins d) r outer x g q in
        typed_application (substituted_type r.types s) h.0 (type_kept (without_joins c) (without_joins d) r outer a s p) h.1
        (takes_kept r.types takes (one_becomes h.2 none_become))
    type_kept c d r f e t (typed_lambda {b = b} {e = a} {u = u} k p fits) =
        let outer = fits_without_joins stand c d r f in
        subst (λ x. HasType ms d (put_in how proofs r e) x) (over_binder_kept r.types b u)
        (typed_lambda (binder_kept ms true c.kinds d.kinds r.types f.kinds b k)
        (type_kept (with_binder b (without_joins c)) (with_binder (replaced_binder r.types b) (without_joins d)) (below_binder how proofs b r)
        (fits_binder stand (without_joins c) (without_joins d) r outer b) a u p) (body_kept ms c.kinds d.kinds r.types f.kinds b u fits))
    type_kept c d r f e t (typed_let {r = o} {bs = bs} {e = a} p q) =
        typed_let (binds_kept _ _ (among_binds o bs r) (fits_without_joins stand _ _ (among_binds o bs r) (binds_among o bs c d r f)) o bs p)
        (type_kept _ _ (below_values how proofs (bind_count bs) r) (binds_behind o bs c d r f) a t q)
    type_kept c d r f e t (typed_case {e = a} {s = s} {alts = alts} j k p sk tk fit v) =
        typed_case j k (type_kept (without_joins c) (without_joins d) r (fits_without_joins stand c d r f) a s p)
        (substitution_keeps_kinds ms c.kinds d.kinds r.types f.kinds 0 s j sk) (substitution_keeps_kinds ms c.kinds d.kinds r.types f.kinds 0 t k tk)
        (alts_kept _ _ (below_values how proofs 1 r) (fits_value stand c d r f s) s t _ alts fit) v
    type_kept c d r f e t (typed_cast {e = a} {g = g} {s = s} p q) =
        typed_cast (type_kept (without_joins c) (without_joins d) r (fits_without_joins stand c d r f) a s p) (proves_kept c d r f g R s t q)
    type_kept c d r f e t (typed_con {n = n} {args = args} k gs found p long takes) =
        let outer = fits_without_joins stand c d r f in
        let h = args_kept (without_joins c) (without_joins d) r outer args gs p in
        typed_con k h.0 found h.1 (given_length_kept h.2 ∙ long)
        (subst (λ x. Takes x h.0 (substituted_type r.types t)) (closed_kept r.types _ (closed.constructors n k found)) (takes_kept r.types takes h.2))
    type_kept c d r f e t (typed_prim {a = a} {b = b} p x q y) =
        let outer = fits_without_joins stand c d r f in
        typed_prim (type_kept (without_joins c) (without_joins d) r outer a _ p) (atoms_kept (without_joins c) (without_joins d) r outer a _ p refl x)
        (type_kept (without_joins c) (without_joins d) r outer b _ q) (atoms_kept (without_joins c) (without_joins d) r outer b _ q refl y)
    type_kept c d r f e t (typed_fail k p v) = typed_fail k (substitution_keeps_kinds ms c.kinds d.kinds r.types f.kinds 0 t k p) v
    type_kept c d r f e t (typed_join {r = o} {js = js} {e = a} k p q s v) =
        typed_join k (substitution_keeps_kinds ms c.kinds d.kinds r.types f.kinds 0 t k p)
        (subst (λ x. JoinsHaveType ms (if o then with_joins (substituted_type r.types t) (put_in_joins how proofs (among_joins o js r) js) d else d) (substituted_type x t)
        (put_in_joins how proofs (among_joins o js r) js)) (types_among o js r) (joins_kept _ _ (among_joins o js r) (joins_among o t js c d r f) t js q))
        (type_kept _ _ (below_joins how proofs (join_count js) r) (joins_behind o t js c d r f) a t s) v
    type_kept c d r f e t (typed_jump {i = i} {args = args} j gs u at p long takes) =
        let outer = fits_without_joins stand c d r f in
        let h = args_kept (without_joins c) (without_joins d) r outer args gs p in
        typed_jump (substituted_join r.types j) h.0 (substituted_type r.types u) (f.joins i j at) h.1 (given_length_kept h.2 ∙ long) (takes_kept r.types takes h.2)

    pub arg_kept : (c d : Context) (r : Replacement V W) → FitsBy ms Proof IsOf c d r → (a : NArg) (g : Given) → ArgIsGiven ms c a g
        → (h : Given) × ArgIsGiven ms d (put_in_arg how proofs r a) h × BecomesGiven r.types g h
    arg_kept c d r f a g (given_term {e = e} {t = t} p) = (
      GivenTerm (substituted_type r.types t) (is_atom (put_in how proofs r e)),
      given_term (type_kept c d r f e t p),
      term_becomes (fits_still r.types f.lifted t (is_atom e) (is_atom (put_in how proofs r e)) (atoms_kept c d r f e t p)),
    )
    arg_kept c d r f a g (given_type {t = t} {k = k} p) =
        (GivenType (substituted_type r.types t) k, given_type (substitution_keeps_kinds ms c.kinds d.kinds r.types f.kinds 0 t k p), type_becomes)
    arg_kept c d r f a g (given_coercion {g = b} {r = o} {s = s} {t = t} p) =
        (GivenCoercion o (substituted_type r.types s) (substituted_type r.types t), given_coercion (proves_kept c d r f b o s t p), coercion_becomes)

    pub args_kept : (c d : Context) (r : Replacement V W) → FitsBy ms Proof IsOf c d r → (args : NArgs) (gs : List Given) → ArgsAreGiven ms c args gs
        → (hs : List Given) × ArgsAreGiven ms d (put_in_args how proofs r args) hs × BecomeGiven r.types gs hs
    args_kept c d r f args gs no_args = ([], no_args, none_become)
    args_kept c d r f args gs (one_arg {a = a} {rest = rest} {g = g} {gs = more} p q) =
        let h = arg_kept c d r f a g p in
        let hs = args_kept c d r f rest more q in
        (h.0 ∷ hs.0, one_arg h.1 hs.1, one_becomes h.2 hs.2)

    pub binds_kept : (c d : Context) (r : Replacement V W) → FitsBy ms Proof IsOf c d r → (o : Bool) (bs : NBinds) → BindsHaveTypes ms c o bs
        → BindsHaveTypes ms d o (put_in_binds how proofs r bs)
    binds_kept c d r f o bs no_binds = no_binds
    binds_kept c d r f o bs (one_bind {t = t} {e = e} {rest = rest} k p v q fits more) =
        one_bind k (substitution_keeps_kinds ms c.kinds d.kinds r.types f.kinds 0 t k p) v (type_kept c d r f e t q)
        (fits_still r.types f.lifted t (not o && is_atom e) (not o && is_atom (put_in how proofs r e))
        (λ int. bound_atoms o (is_atom e) (is_atom (put_in how proofs r e)) (atoms_kept c d r f e t q int)) fits)
        (binds_kept c d r f o rest more)

    pub joins_kept : (c d : Context) (r : Replacement V W) → FitsBy ms Proof IsOf c d r → (t : NTy) (js : NJoins) → JoinsHaveType ms c t js
        → JoinsHaveType ms d (substituted_type r.types t) (put_in_joins how proofs r js)
    joins_kept c d r f t js no_joins = no_joins
    joins_kept c d r f t js (one_join {ps = ps} {e = e} {rest = rest} k p more) =
        one_join (binders_kept ms true c.kinds d.kinds r.types f.kinds ps k)
        (subst (λ x. HasType ms (with_binders (replaced_binders r.types ps) d) (put_in how proofs (below_binders how proofs ps r) e) x) (raised_past_replaced ps r.types t)
        (type_kept (with_binders ps c) (with_binders (replaced_binders r.types ps) d) (below_binders how proofs ps r) (fits_binders stand ps c d r f) e _ p))
        (joins_kept c d r f t rest more)

    pub alts_kept : (c d : Context) (r : Replacement V W) → FitsBy ms Proof IsOf c d r → (s rt : NTy) (b : Before) (alts : NAlts) → AltsFit ms c s rt b alts
        → AltsFit ms d (substituted_type r.types s) (substituted_type r.types rt) b (put_in_alts how proofs r alts)
    alts_kept c d r f s rt b alts no_alts = no_alts
    alts_kept c d r f s rt b alts (default_alt {bs = bs} {e = e} {rest = rest} k p order more) =
        default_alt (binders_kept ms false c.kinds d.kinds r.types f.kinds bs k)
        (subst (λ x. HasType ms (with_binders (replaced_binders r.types bs) d) (put_in how proofs (below_binders how proofs bs r) e) x) (raised_past_replaced bs r.types rt)
        (type_kept (with_binders bs c) (with_binders (replaced_binders r.types bs) d) (below_binders how proofs bs r) (fits_binders stand bs c d r f) e _ p))
        order (alts_kept c d r f s rt _ rest more)
    alts_kept c d r f s rt b alts (literal_alt {bs = bs} {e = e} {rest = rest} k p int order more) =
        literal_alt (binders_kept ms false c.kinds d.kinds r.types f.kinds bs k)
        (subst (λ x. HasType ms (with_binders (replaced_binders r.types bs) d) (put_in how proofs (below_binders how proofs bs r) e) x) (raised_past_replaced bs r.types rt)
        (type_kept (with_binders bs c) (with_binders (replaced_binders r.types bs) d) (below_binders how proofs bs r) (fits_binders stand bs c d r f) e _ p))
        (int_kept r.types s int) order (alts_kept c d r f s rt _ rest more)
    alts_kept c d r f s rt b alts (con_alt {bs = bs} {n = n} {e = e} {rest = rest} m k p found is order fits more) =
        con_alt m (binders_kept ms false c.kinds d.kinds r.types f.kinds bs k)
        (subst (λ x. HasType ms (with_binders (replaced_binders r.types bs) d) (put_in how proofs (below_binders how proofs bs r) e) x) (raised_past_replaced bs r.types rt)
        (type_kept (with_binders bs c) (with_binders (replaced_binders r.types bs) d) (below_binders how proofs bs r) (fits_binders stand bs c d r f) e _ p))
        found (data_kept r.types n m s is) order (fit_kept r.types n m s bs (closed.constructors n m found) is fits) (alts_kept c d r f s rt _ rest more)
