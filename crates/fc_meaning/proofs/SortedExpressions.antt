-- What has a type among modules whose declarations hold is sorted when its types are gone. A place has the sort that is read off what
-- stands there, so that a jump needs nothing of its join point but that it has a binder.
use Rattle.std.proofs.Common.{◌≡◌, ℕ, true, false, Bool, List, [], ◌∷◌, Some, refl, sym, ap, ◌∙◌, subst}
use Rattle.fc_model.specs.Calling.{Given}
use Rattle.fc_model.specs.Coercing.{ends}
use Rattle.fc_model.specs.Erasure.{Scope, applied, arg_sorts, below_all, below_binds, below_joins, below_unnamed, below_value, binder_sorts, coercion_token, erased, erased_alts, erased_args, erased_join_lets, erased_joins, erased_lets, erased_rights, lambdas, sort_of, sort_of_type}
use Rattle.fc_model.specs.Kinding.{Modules}
use Rattle.fc_model.specs.Nameless.{NTy, NTInt, NExpr, NArgs, NBinds, NJoins, NAlts}
use Rattle.fc_model.specs.Terms.{Sort, Lifted, Unlifted, Term, Var, App, IsSorted, AreSorted, AltsAreSorted, IsAtom, HasSorts, enters, head_sorts, lifteds, sort_at}
use Rattle.fc_model.specs.Typing.{Context, Before, is_atom}
use Rattle.fc_model.specs.TypingRules.{AltsFit, no_alts, default_alt, literal_alt, con_alt, value_binder, type_binder, coercion_binder}
use Rattle.fc_model.specs.TypingRules.{HasType, typed_local, typed_declared, typed_literal, typed_application, typed_lambda, typed_let, typed_case, typed_cast, typed_con, typed_prim, typed_fail, typed_join, typed_jump}
use Rattle.fc_model.specs.TypingRules.{given_term, given_type, given_coercion, ArgsAreGiven, no_args, one_arg, BindsHaveTypes, no_binds, one_bind, JoinsHaveType, no_joins, one_join}
use Rattle.fc_meaning.proofs.ArgSorts.{sort_is}
use Rattle.fc_meaning.proofs.HeldDeclarations.{AreHeld}
use Rattle.fc_meaning.proofs.PrimitiveRange.{zero_fits}
use Rattle.fc_meaning.proofs.ScopesFit.{Fits, agrees, bind_sorts, fits_binders, fits_binds, fits_coercion, fits_joins, fits_type, fits_unnamed, fits_value, fits_values, join_sorts}
use Rattle.fc_meaning.proofs.SortsOfTypes.{no_atom_is_lifted}
use Rattle.fc_meaning.proofs.WrittenExpressions.{AreAltsWritten, AreArgsWritten, AreBindsWritten, AreJoinsWritten, IsWritten}

-- PLACES

-- a variable is an atom at the sort of its binder
pub variable_is_atom : (g : List Sort) (o : Sort) (n : ℕ) → sort_at g n ≡ Some o → IsAtom g o (Var n)
variable_is_atom g Lifted n h = tt
variable_is_atom g Unlifted n h = h

-- what has a type is an atom where its sort is unlifted
pub is_placed : {ms : Modules} {c : Context} {e : NExpr} {t : NTy} → HasType ms c e t → (s : Scope) (g : List Sort) → Fits c s g → IsAtom g (sort_of s e) (erased s e)
is_placed (typed_local {i = i} {t = t} p) s g fits =
    let q = fits.values i t p in variable_is_atom g (s.sorts i) (s.values i) (q.1 ∙ ap (λ o. Some o) (sym q.0))
is_placed (typed_declared p) s g fits = tt
is_placed typed_literal s g fits = tt
is_placed (typed_application t h f a takes) s g fits = tt
is_placed (typed_lambda k e below) s g fits = tt
is_placed (typed_let bs e) s g fits = tt
is_placed (typed_case j k e t r alts v) s g fits = tt
is_placed (typed_cast e p) s g fits = tt
is_placed (typed_con k gs is args l takes) s g fits = tt
is_placed (typed_prim a p b q) s g fits = tt
is_placed (typed_fail k t v) s g fits = tt
is_placed (typed_join k t js e v) s g fits = tt
is_placed (typed_jump j gs t is args l takes) s g fits = tt

-- GROUPS

-- lambdas are sorted where what stands below them is
lambdas_sorted : (ss : List Sort) (g : List Sort) (t : Term) → IsSorted (enters ss g) t → IsSorted g (lambdas ss t)
unfolding enters
lambdas_sorted [] g t h = h
lambdas_sorted (s ∷ ss) g t h = lambdas_sorted ss (s ∷ g) t h

-- all binders of a recursive group are lifted
pub rights_lifted : {ms : Modules} {c : Context} {bs : NBinds} → BindsHaveTypes ms c true bs → (s : Scope) → lifteds (erased_rights s bs) ≡ bind_sorts bs
unfolding lifteds
rights_lifted no_binds s = refl
rights_lifted (one_bind {t = t} {rest = rest} k h v e atom binds) s =
    ap (λ o. o ∷ lifteds (erased_rights s rest)) (no_atom_is_lifted t atom) ∙ ap (λ os. sort_of_type t ∷ os) (rights_lifted binds s)

pub joins_lifted : {ms : Modules} {c : Context} {t : NTy} {js : NJoins} → JoinsHaveType ms c t js → (s : Scope) → lifteds (erased_joins s js) ≡ join_sorts js
unfolding lifteds
joins_lifted no_joins s = refl
joins_lifted (one_join kinded e rest) s = ap (λ os. Lifted ∷ os) (joins_lifted rest s)

-- EXPRESSIONS

module _ (ms : Modules) (held : AreHeld ms) where
  -- an operand of a primitive is an atom
  operand_placed : {c : Context} {e : NExpr} → HasType ms c e NTInt → is_atom e ≡ true → (s : Scope) (g : List Sort) → Fits c s g → IsAtom g Unlifted (erased s e)
  operand_placed {e = e} typed atom s g fits =
      subst (λ o. IsAtom g o (erased s e)) (sort_is ms held typed s (agrees fits) atom) (is_placed typed s g fits)

  mutual
    unfolding enters head_sorts

    pub expr_sorted : {c : Context} {e : NExpr} {t : NTy} → HasType ms c e t → (s : Scope) (g : List Sort) → Fits c s g → IsWritten e → IsSorted g (erased s e)
    expr_sorted (typed_local {i = i} {t = t} p) s g fits w = (sort_of_type t, (fits.values i t p).1)
    expr_sorted (typed_declared p) s g fits w = tt
    expr_sorted typed_literal s g fits w = w
    expr_sorted (typed_application t h f (given_term a) takes) s g fits w =
        (expr_sorted f s g (fits_values fits) w.0, expr_sorted a s g (fits_values fits) w.1, is_placed a s g (fits_values fits))
    expr_sorted (typed_application t h f (given_type k) takes) s g fits w = expr_sorted f s g (fits_values fits) w.0
    expr_sorted (typed_application t h f (given_coercion p) takes) s g fits w = (expr_sorted f s g (fits_values fits) w.0, zero_fits, tt)
    expr_sorted (typed_lambda (value_binder {t = t} k kind v) e below) s g fits w =
        expr_sorted e (below_value (sort_of_type t) s) (sort_of_type t ∷ g) (fits_value (fits_values fits) t) w
    expr_sorted (typed_lambda (type_binder {k = k} l) e below) s g fits w = expr_sorted e s g (fits_type (fits_values fits) k) w
    expr_sorted (typed_lambda (coercion_binder {r = r} {t = t} {u = u} j k h i v) e below) s g fits w =
        expr_sorted e (below_unnamed s) (Unlifted ∷ g) (fits_coercion (fits_values fits) (ends r t u)) w
    expr_sorted (typed_let {r = false} {bs = bs} {e = e} binds body) s g fits w =
        lets_sorted binds s g (fits_values fits) w.1 (erased (below_binds bs s) e) (expr_sorted body (below_binds bs s) (enters (bind_sorts bs) g) (fits_binds bs fits) w.2)
    expr_sorted (typed_let {r = true} {bs = bs} {e = e} binds body) s g fits w =
        let inner = fits_binds bs fits in
        subst (λ os. AreSorted (enters os g) (erased_rights (below_binds bs s) bs) × IsSorted (enters os g) (erased (below_binds bs s) e)) (sym (rights_lifted binds (below_binds bs s)))
        (rights_sorted binds (below_binds bs s) (enters (bind_sorts bs) g) (fits_values inner) w.1, expr_sorted body (below_binds bs s) (enters (bind_sorts bs) g) inner w.2)
    expr_sorted (typed_case {s = xt} j k e t r alts v) s g fits w =
        (expr_sorted e s g (fits_values fits) w.0, alts_sorted alts (below_value (sort_of_type xt) s) (sort_of_type xt ∷ g) (fits_value fits xt) w.1)
    expr_sorted (typed_cast e p) s g fits w = expr_sorted e s g (fits_values fits) w
    expr_sorted (typed_con k gs is args l takes) s g fits w = args_sorted args s g (fits_values fits) w
    expr_sorted (typed_prim a p b q) s g fits w =
        let inner = fits_values fits in
        (expr_sorted a s g inner w.0, operand_placed a p s g inner, expr_sorted b s g inner w.1.0, operand_placed b q s g inner)
    expr_sorted (typed_fail k t v) s g fits w = tt
    expr_sorted (typed_join {r = false} {t = t} {js = js} {e = e} k kind joins body v) s g fits w =
        join_lets_sorted joins s g fits w.1 (erased (below_joins js s) e) (expr_sorted body (below_joins js s) (enters (join_sorts js) g) (fits_joins t js fits) w.2)
    expr_sorted (typed_join {r = true} {t = t} {js = js} {e = e} k kind joins body v) s g fits w =
        let inner = fits_joins t js fits in
        subst (λ os. AreSorted (enters os g) (erased_joins (below_joins js s) js) × IsSorted (enters os g) (erased (below_joins js s) e)) (sym (joins_lifted joins (below_joins js s)))
        (joins_sorted joins (below_joins js s) (enters (join_sorts js) g) inner w.1, expr_sorted body (below_joins js s) (enters (join_sorts js) g) inner w.2)
    expr_sorted (typed_jump {i = i} j gs t is args l takes) s g fits w = applied_sorted args s g (fits_values fits) w (Var (s.joins i)) (Lifted, fits.joins i j is)

    -- the fields of a constructor
    args_sorted : {c : Context} {args : NArgs} {gs : List Given} → ArgsAreGiven ms c args gs → (s : Scope) (g : List Sort) → Fits c s g → AreArgsWritten args
        → AreSorted g (erased_args s args) × HasSorts g (arg_sorts s args) (erased_args s args)
    args_sorted no_args s g fits w = (tt, tt)
    args_sorted (one_arg (given_term a) rest) s g fits w =
        let others = args_sorted rest s g fits w.1 in ((expr_sorted a s g fits w.0, others.0), (is_placed a s g fits, others.1))
    args_sorted (one_arg (given_type k) rest) s g fits w = args_sorted rest s g fits w.1
    args_sorted (one_arg (given_coercion p) rest) s g fits w = let others = args_sorted rest s g fits w.1 in ((zero_fits, others.0), (tt, others.1))

    -- a head applied to arguments
    applied_sorted : {c : Context} {args : NArgs} {gs : List Given} → ArgsAreGiven ms c args gs → (s : Scope) (g : List Sort) → Fits c s g → AreArgsWritten args
        → (h : Term) → IsSorted g h → IsSorted g (applied s h args)
    applied_sorted no_args s g fits w h sorted = sorted
    applied_sorted (one_arg (given_term {e = e} a) rest) s g fits w h sorted =
        applied_sorted rest s g fits w.1 (App (sort_of s e) h (erased s e)) (sorted, expr_sorted a s g fits w.0, is_placed a s g fits)
    applied_sorted (one_arg (given_type k) rest) s g fits w h sorted = applied_sorted rest s g fits w.1 h sorted
    applied_sorted (one_arg (given_coercion p) rest) s g fits w h sorted = applied_sorted rest s g fits w.1 (App Unlifted h coercion_token) (sorted, zero_fits, tt)

    -- lets, one inside another, around a body
    lets_sorted : {c : Context} {bs : NBinds} → BindsHaveTypes ms c false bs → (s : Scope) (g : List Sort) → Fits c s g → AreBindsWritten bs
        → (body : Term) → IsSorted (enters (bind_sorts bs) g) body → IsSorted g (erased_lets s bs body)
    lets_sorted no_binds s g fits w body sorted = sorted
    lets_sorted (one_bind {t = t} {e = e} k kind v right atom rest) s g fits w body sorted = (
      expr_sorted right s g fits w.0,
      subst (λ o. IsAtom g o (erased s e)) (sort_is ms held right s (agrees fits) atom) (is_placed right s g fits),
      lets_sorted rest (below_unnamed s) (sort_of_type t ∷ g) (fits_unnamed fits (sort_of_type t)) w.1 body sorted,
    )

    -- the right sides of a recursive group
    rights_sorted : {c : Context} {r : Bool} {bs : NBinds} → BindsHaveTypes ms c r bs → (s : Scope) (g : List Sort) → Fits c s g → AreBindsWritten bs
        → AreSorted g (erased_rights s bs)
    rights_sorted no_binds s g fits w = tt
    rights_sorted (one_bind k kind v right atom rest) s g fits w = (expr_sorted right s g fits w.0, rights_sorted rest s g fits w.1)

    -- the same of join points, whose parameters are lambdas
    join_lets_sorted : {c : Context} {t : NTy} {js : NJoins} → JoinsHaveType ms c t js → (s : Scope) (g : List Sort) → Fits c s g → AreJoinsWritten js
        → (body : Term) → IsSorted (enters (join_sorts js) g) body → IsSorted g (erased_join_lets s js body)
    join_lets_sorted no_joins s g fits w body sorted = sorted
    join_lets_sorted (one_join {ps = ps} {e = e} kinded right rest) s g fits w body sorted = (
      lambdas_sorted (binder_sorts ps) g (erased (below_all ps s) e) (expr_sorted right (below_all ps s) (enters (binder_sorts ps) g) (fits_binders kinded fits) w.0),
      tt,
      join_lets_sorted rest (below_unnamed s) (Lifted ∷ g) (fits_unnamed fits Lifted) w.1 body sorted,
    )

    joins_sorted : {c : Context} {t : NTy} {js : NJoins} → JoinsHaveType ms c t js → (s : Scope) (g : List Sort) → Fits c s g → AreJoinsWritten js
        → AreSorted g (erased_joins s js)
    joins_sorted no_joins s g fits w = tt
    joins_sorted (one_join {ps = ps} {e = e} kinded right rest) s g fits w = (
      lambdas_sorted (binder_sorts ps) g (erased (below_all ps s) e) (expr_sorted right (below_all ps s) (enters (binder_sorts ps) g) (fits_binders kinded fits) w.0),
      joins_sorted rest s g fits w.1,
    )

    alts_sorted : {c : Context} {t rt : NTy} {b : Before} {alts : NAlts} → AltsFit ms c t rt b alts → (s : Scope) (g : List Sort) → Fits c s g → AreAltsWritten alts
        → AltsAreSorted g (erased_alts s alts)
    alts_sorted no_alts s g fits w = tt
    alts_sorted (default_alt {bs = bs} {e = e} kinded typed order rest) s g fits w =
        let body = expr_sorted typed (below_all bs s) (enters (binder_sorts bs) g) (fits_binders kinded fits) w.1 in
        (subst (λ x. IsSorted (enters x g) (erased (below_all bs s) e)) (ap binder_sorts w.0) body, alts_sorted rest s g fits w.2)
    alts_sorted (literal_alt {bs = bs} {e = e} kinded typed int order rest) s g fits w =
        let body = expr_sorted typed (below_all bs s) (enters (binder_sorts bs) g) (fits_binders kinded fits) w.1 in
        (subst (λ x. IsSorted (enters x g) (erased (below_all bs s) e)) (ap binder_sorts w.0) body, alts_sorted rest s g fits w.2)
    alts_sorted (con_alt {bs = bs} k kinded typed is data_type order fit rest) s g fits w =
        (expr_sorted typed (below_all bs s) (enters (binder_sorts bs) g) (fits_binders kinded fits) w.1, alts_sorted rest s g fits w.2)
