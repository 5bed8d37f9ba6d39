-- The function gives a type just where the relation does.
use Rattle.std.proofs.Common.{◌≡◌, ◌↔◌, ℕ, ◌+◌, Bool, true, false, not, ◌&&◌, if◌then◌else◌, List, [], ◌∷◌, length, Option, Some, None, Result, Ok, Err, refl, sym, ap, ◌∙◌, subst, arith}
use Rattle.fc_syntax.specs.declared.ty.Name.{Name}
use Rattle.fc_syntax.specs.declared.expr.Head.{Head}
use Rattle.fc_syntax.specs.declared.expr.Head.TheVariants as head
use Rattle.fc_syntax.specs.declared.expr.PrimOp.{PrimOp}
use Rattle.fc_syntax.specs.declared.ty.Role.TheVariants.{R}
use Rattle.fc_syntax.specs.declared.fault.FaultKind.TheVariants.{AltType, ConArity, JumpArity, LetType, PrimArity}
use Rattle.fc_model.specs.Calling.{Constructor, Given, GivenTerm, Takes, takes_nothing, takes_term}
use Rattle.fc_model.specs.Calling.{atom_fits, binders_fit, called, constructor, constructor_binders, constructor_type, is_data_of, is_int, type_count}
use Rattle.fc_model.specs.Coercing.{ends, ends_or_fault}
use Rattle.fc_model.specs.CoercingRules.{Proves}
use Rattle.fc_model.specs.Faulting.{F, at_distance}
use Rattle.fc_model.specs.Kinding.{Modules, is_value_kind, kind_or_fault, same_role, same_type}
use Rattle.fc_model.specs.Nameless.{NTy, NTInt, NBinder}
use Rattle.fc_model.specs.Nameless.{NExpr, NLocal, NVar, NLit, NApp, NLam, NLet, NCase, NCast, NCon, NPrim, NFail, NJoin, NJump}
use Rattle.fc_model.specs.Nameless.{NArg, NATerm, NAType, NACo, NBound, NJoined, NBranch, NArgs, NoNArgs, MoreNArgs, NExprs, NoNExprs, MoreNExprs}
use Rattle.fc_model.specs.Nameless.{NBinds, NoNBinds, MoreNBinds, NJoins, NoNJoins, MoreNJoins, NAlts, NoNAlts, MoreNAlts}
use Rattle.fc_model.specs.Substituting.{raised_type}
use Rattle.fc_model.specs.Typing.{Context, JoinPoint, Before, Start, AfterDefault, AfterLit, AfterCon}
use Rattle.fc_model.specs.Typing.{type_or_fault, argument_given, args_given, operands_given, bind_judged, binds_judged, join_judged, joins_judged, alt_judged, alts_judged, binder_judged, binders_judged}
use Rattle.fc_model.specs.Typing.{body_fits, constructor_goes, constructor_in_order, default_in_order, found_constructed, head_goes, is_atom, jumped, literal_in_order, primitive_type, then_given}
use Rattle.fc_model.specs.Typing.{with_binder, with_binders, with_binds, with_joins, with_value, without_joins}
use Rattle.fc_model.specs.TypingRules.{BindersAreKinded}
use Rattle.fc_model.specs.TypingRules.{HasType, typed_local, typed_declared, typed_literal, typed_application, typed_lambda, typed_let, typed_case, typed_cast}
use Rattle.fc_model.specs.TypingRules.{typed_con, typed_prim, typed_fail, typed_join, typed_jump}
use Rattle.fc_model.specs.TypingRules.{ArgIsGiven, given_term, given_type, given_coercion, ArgsAreGiven, no_args, one_arg, BindsHaveTypes, no_binds, one_bind}
use Rattle.fc_model.specs.TypingRules.{JoinsHaveType, no_joins, one_join, AltsFit, no_alts, default_alt, literal_alt, con_alt}
use Rattle.fc_model.proofs.BindersJudged.{binders_are_judged, body_is_fit, fit_body_is, judged_binders_are, judged_parameter_is, not_asked, paid_inv, parameter_is_judged, unowed}
use Rattle.fc_model.proofs.Called.{applied_takes, called_takes, taken_applies, taken_is_called}
use Rattle.fc_model.proofs.CoercionsAre.{ends_are}
use Rattle.fc_model.proofs.KindedIs.{given_kind_is, kind_is_given}
use Rattle.fc_model.proofs.Parts.{and_then_inv, answer, err_ok, need_inv, ok_ok, part, under_inv}
use Rattle.fc_model.proofs.Raised.{leaves_as_inv, raised_leaves}
use Rattle.fc_model.proofs.Sameness.{same_role_eq, same_type_eq, same_type_refl}

-- CALLS

then_given_inv : (g : Given) (r : Result (List Given) F) (gs : List Given) → then_given g r ≡ Ok gs → (rest : List Given) × (r ≡ Ok rest) × (g ∷ rest ≡ gs)
then_given_inv g (Ok rest) gs h = (rest, refl, ok_ok h)
then_given_inv g (Err f) gs h = err_ok h

-- a constructor that constructs is declared, and takes its arguments
pub found_inv : (n : Name) (o : Option Constructor) (gs : List Given) (t : NTy) → found_constructed n o gs ≡ Ok t
    → (k : Constructor) × (o ≡ Some k) × (length gs ≡ length (constructor_binders k)) × Takes (constructor_type n k) gs t
found_inv n (Some k) gs t h = let p = called_takes ConArity (length (constructor_binders k)) (constructor_type n k) gs t h in (k, refl, p.0, p.1)
found_inv n None gs t h = err_ok h

-- a jump goes to a join point that takes its arguments, and is of the type of the join
pub jumped_inv : (r : Result JoinPoint F) (gs : List Given) (t : NTy) → jumped r gs ≡ Ok t
    → (j : JoinPoint) × (u : NTy) × (r ≡ Ok j) × (length gs ≡ j.arity) × Takes j.type gs u × (j.result ≡ t)
jumped_inv (Ok j) gs t h =
    let p = and_then_inv (called JumpArity j.arity j.type gs) _ t h in
    let q = called_takes JumpArity j.arity j.type gs p.0 p.1 in
    (j, p.0, refl, q.0, q.1, ok_ok p.2)
jumped_inv (Err f) gs t h = err_ok h

-- what a primitive takes: two atoms of type `Int#`
data TwoIntegers : List Given → NTy → Type 0 where
  two_integers : TwoIntegers (GivenTerm NTInt true ∷ GivenTerm NTInt true ∷ []) NTInt

takes_two : {gs : List Given} {t : NTy} → Takes primitive_type gs t → length gs ≡ 2 → TwoIntegers gs t
takes_two takes_nothing l = absurd (omega (arith, l))
takes_two (takes_term a takes_nothing) l = absurd (omega (arith, l))
takes_two (takes_term {atom = x} a (takes_term {atom = y} b takes_nothing)) l = rw (a, b) two_integers

-- the constructor of an alternative that goes, and what it fits
constructor_goes_inv : (n : Name) (o : Option Constructor) (s : NTy) (b : Before) (bs : List NBinder) (next : Before) → constructor_goes n o s b bs ≡ Ok next
    → (k : Constructor) × (o ≡ Some k) × (is_data_of s n k ≡ true) × (constructor_in_order b k.number ≡ true) × (binders_fit n k s bs ≡ true) × (AfterCon k.number ≡ next)
constructor_goes_inv n (Some k) s b bs next h =
    let p = need_inv (is_data_of s n k) _ _ next h in
    let q = need_inv (constructor_in_order b k.number) _ _ next p.1 in
    let u = need_inv (binders_fit n k s bs) _ _ next q.1 in
    (k, refl, p.0, q.0, u.0, ok_ok u.1)
constructor_goes_inv n None s b bs next h = err_ok h

module _ (ms : Modules) where
  -- OPERANDS

  -- two atoms of type `Int#`
  data TwoOperands (c : Context) : NExprs → Type 0 where
    two_operands : {a b : NExpr} → type_or_fault ms c a ≡ Ok NTInt → is_atom a ≡ true → type_or_fault ms c b ≡ Ok NTInt → is_atom b ≡ true
        → TwoOperands c (MoreNExprs a (MoreNExprs b NoNExprs))

  operand_inv : (c : Context) (i : ℕ) (e : NExpr) (rest : NExprs) (gs : List Given) → operands_given ms c i (MoreNExprs e rest) ≡ Ok gs
      → (t : NTy) × (more : List Given) × (type_or_fault ms c e ≡ Ok t) × (operands_given ms c (i + 1) rest ≡ Ok more) × (GivenTerm t (is_atom e) ∷ more ≡ gs)
  operand_inv c i e rest gs h =
      let p = part i (type_or_fault ms c e) _ gs h in
      let q = then_given_inv (GivenTerm p.0 (is_atom e)) (operands_given ms c (i + 1) rest) gs p.2 in
      (p.0, q.0, p.1, q.1, q.2)

  -- an operand that is an atom of type `Int#`, and those behind it
  integer_inv : (c : Context) (i : ℕ) (e : NExpr) (rest : NExprs) (gs : List Given) → operands_given ms c i (MoreNExprs e rest) ≡ Ok (GivenTerm NTInt true ∷ gs)
      → (type_or_fault ms c e ≡ Ok NTInt) × (is_atom e ≡ true) × (operands_given ms c (i + 1) rest ≡ Ok gs)
  integer_inv c i e rest gs h =
      let p = operand_inv c i e rest (GivenTerm NTInt true ∷ gs) h in
      let t : p.0 ≡ NTInt = cc in
      let more : p.1 ≡ gs = cc in
      (p.2 ∙ ap answer t, cc, p.3 ∙ ap answer more)

  operands_are_two : (c : Context) (es : NExprs) → operands_given ms c 0 es ≡ Ok (GivenTerm NTInt true ∷ GivenTerm NTInt true ∷ []) → TwoOperands c es
  operands_are_two c NoNExprs h = absurd cc
  operands_are_two c (MoreNExprs a NoNExprs) h = let p = integer_inv c 0 a NoNExprs _ h in absurd (cc p.2)
  operands_are_two c (MoreNExprs a (MoreNExprs b NoNExprs)) h =
      let p = integer_inv c 0 a (MoreNExprs b NoNExprs) _ h in
      let q = integer_inv c 1 b NoNExprs _ p.2 in
      two_operands p.0 p.1 q.0 q.1
  operands_are_two c (MoreNExprs a (MoreNExprs b (MoreNExprs e rest))) h =
      let p = integer_inv c 0 a (MoreNExprs b (MoreNExprs e rest)) _ h in
      let q = integer_inv c 1 b (MoreNExprs e rest) _ p.2 in
      let r = operand_inv c 2 e rest [] q.2 in
      absurd (cc r.4)

  given_are_two : (c : Context) (es : NExprs) {gs : List Given} {t : NTy} → TwoIntegers gs t → operands_given ms c 0 es ≡ Ok gs → TwoOperands c es × (NTInt ≡ t)
  given_are_two c es two_integers h = (operands_are_two c es h, refl)

  -- ALTERNATIVES AND JOIN POINTS

  -- an alternative goes where its binders are kinded, its body is of the result type and its head goes
  alt_is_judged : (c : Context) {bs : List NBinder} (e : NExpr) (s rt : NTy) (b : Before) (h : Head) (next : Before) → BindersAreKinded ms false c.kinds bs
      → type_or_fault ms (with_binders bs c) e ≡ Ok (raised_type (type_count bs) rt) → head_goes ms s b h bs ≡ Ok next → alt_judged ms c s rt b (NBranch h bs e) ≡ Ok next
  alt_is_judged c {bs = bs} e s rt b h next kinded typed goes =
      let p = binders_are_judged ms 0 None kinded (not_asked None) in
      rw (p.1, typed, goes) (raised_leaves (type_count bs) rt AltType (answer next))

  -- an alternative that goes has kinds for its binders, the result type for its body, and a head that goes
  alt_inv : (c : Context) (s rt : NTy) (b : Before) (h : Head) (bs : List NBinder) (e : NExpr) (next : Before) → alt_judged ms c s rt b (NBranch h bs e) ≡ Ok next
      → BindersAreKinded ms false c.kinds bs × (type_or_fault ms (with_binders bs c) e ≡ Ok (raised_type (type_count bs) rt)) × (head_goes ms s b h bs ≡ Ok next)
  alt_inv c s rt b h bs e next eq =
      let p = and_then_inv (binders_judged ms c.kinds 0 None bs) _ next eq in
      let q = part (length bs) (type_or_fault ms (with_binders bs c) e) _ next p.2 in
      let u = and_then_inv (head_goes ms s b h bs) _ next q.2 in
      let v = leaves_as_inv (type_count bs) q.0 rt AltType (answer u.0) next u.2 in
      let w = judged_binders_are ms false c.kinds 0 None bs p.0 p.1 (not_asked p.0) in
      (w.0, q.1 ∙ ap answer v.0, u.1 ∙ v.1)

  -- a join point is judged where its parameters are kinded and its right side is of the type of the join
  join_is_judged : (c : Context) (t : NTy) {ps : List NBinder} (e : NExpr) → BindersAreKinded ms true c.kinds ps
      → type_or_fault ms (with_binders ps c) e ≡ Ok (raised_type (type_count ps) t) → join_judged ms c t (NJoined ps e) ≡ Ok t
  join_is_judged c t {ps = ps} e kinded typed =
      let p = binders_are_judged ms 0 None kinded (λ e. refl) in
      rw (p.1, typed, p.2 refl) (raised_leaves (type_count ps) t LetType (answer t))

  join_inv : (c : Context) (t : NTy) (ps : List NBinder) (e : NExpr) (u : NTy) → join_judged ms c t (NJoined ps e) ≡ Ok u
      → BindersAreKinded ms true c.kinds ps × (type_or_fault ms (with_binders ps c) e ≡ Ok (raised_type (type_count ps) t))
  join_inv c t ps e u eq =
      let p = and_then_inv (binders_judged ms c.kinds 0 None ps) _ u eq in
      let q = part (length ps) (type_or_fault ms (with_binders ps c) e) _ u p.2 in
      let v = paid_inv p.0 _ u q.2 in
      let w = leaves_as_inv (type_count ps) q.0 t LetType (answer t) u v.1 in
      let x = judged_binders_are ms true c.kinds 0 None ps p.0 p.1 (unowed v.0) in
      (x.0, q.1 ∙ ap answer w.0)

  -- TYPES

  mutual
    -- what has a type by cases is given it
    pub type_is_given : {c : Context} {e : NExpr} {t : NTy} → HasType ms c e t → type_or_fault ms c e ≡ Ok t
    type_is_given (typed_local p) = p
    type_is_given (typed_declared p) = p
    type_is_given typed_literal = refl
    type_is_given (typed_application s g f a takes) = rw (type_is_given f, argument_is_given a) (taken_applies takes)
    type_is_given (typed_lambda b e body) = rw (parameter_is_judged ms b, type_is_given e, body_is_fit ms body) refl
    type_is_given (typed_let bs e) = let p = binds_are_judged 0 bs in rw (p.1, type_is_given e) refl
    type_is_given (typed_case {s = s} j k e t r alts v) =
        let p = alts_are_judged 3 alts in rw (type_is_given e, kind_is_given ms t, kind_is_given ms r, p.1, same_type_refl s, v) refl
    type_is_given (typed_cast {c = c} {g = g} {s = s} {t = t} e p) = rw (type_is_given e, (ends_are ms c.kinds c.coercions g (ends R s t)).1 p, same_type_refl s) refl
    type_is_given (typed_con k gs is args l takes) = rw (args_are_given 0 args, is) (taken_is_called ConArity (length (constructor_binders k)) l takes)
    type_is_given (typed_prim a x b y) = rw (type_is_given a, x, type_is_given b, y) refl
    type_is_given (typed_fail k t v) = rw (kind_is_given ms t, v) refl
    type_is_given (typed_join {t = t} k kinded js e v) =
        let p = joins_are_judged 1 js in rw (kind_is_given ms kinded, p.1, type_is_given e, same_type_refl t, v) refl
    type_is_given (typed_jump j gs t is args l takes) = rw (args_are_given 0 args, is, taken_is_called JumpArity j.arity l takes) refl

    pub argument_is_given : {c : Context} {a : NArg} {g : Given} → ArgIsGiven ms c a g → argument_given ms c a ≡ Ok g
    argument_is_given (given_term e) = rw (type_is_given e) refl
    argument_is_given (given_type t) = rw (kind_is_given ms t) refl
    argument_is_given (given_coercion {c = c} {g = g} {r = r} {s = s} {t = t} p) = rw ((ends_are ms c.kinds c.coercions g (ends r s t)).1 p) refl

    pub args_are_given : {c : Context} {args : NArgs} {gs : List Given} (i : ℕ) → ArgsAreGiven ms c args gs → args_given ms c i args ≡ Ok gs
    args_are_given i no_args = refl
    args_are_given i (one_arg a rest) = rw (argument_is_given a, args_are_given (i + 1) rest) refl

    pub binds_are_judged : {c : Context} {r : Bool} {bs : NBinds} (i : ℕ) → BindsHaveTypes ms c r bs → (n : ℕ) × (binds_judged ms c r i bs ≡ Ok n)
    binds_are_judged i no_binds = (i, refl)
    binds_are_judged i (one_bind {t = t} k kind v e fits rest) =
        let p = binds_are_judged (i + 1) rest in (p.0, rw (kind_is_given ms kind, type_is_given e, v, same_type_refl t, fits) p.1)

    pub joins_are_judged : {c : Context} {t : NTy} {js : NJoins} (i : ℕ) → JoinsHaveType ms c t js → (n : ℕ) × (joins_judged ms c t i js ≡ Ok n)
    joins_are_judged i no_joins = (i, refl)
    joins_are_judged {c = c} {t = t} i (one_join {e = e} ps body rest) = let p = joins_are_judged (i + 1) rest in (p.0, rw (join_is_judged c t e ps (type_is_given body)) p.1)

    pub alts_are_judged : {c : Context} {s rt : NTy} {b : Before} {alts : NAlts} (i : ℕ) → AltsFit ms c s rt b alts → (last : Before) × (alts_judged ms c s rt i b alts ≡ Ok last)
    alts_are_judged {b = b} i no_alts = (b, refl)
    alts_are_judged {c = c} {s = s} {rt = rt} {b = b} i (default_alt {e = e} bs body goes rest) =
        let q = alts_are_judged (i + 1) rest in (q.0, rw (alt_is_judged c e s rt b head.Default AfterDefault bs (type_is_given body) (rw goes refl)) q.1)
    alts_are_judged {c = c} {s = s} {rt = rt} {b = b} i (literal_alt {n = n} {e = e} bs body int goes rest) =
        let q = alts_are_judged (i + 1) rest in (q.0, rw (alt_is_judged c e s rt b (head.Lit n) (AfterLit n) bs (type_is_given body) (rw (int, goes) refl)) q.1)
    alts_are_judged {c = c} {s = s} {rt = rt} {b = b} i (con_alt {n = n} {e = e} k bs body is data_type goes fits rest) =
        let q = alts_are_judged (i + 1) rest in (q.0, rw (alt_is_judged c e s rt b (head.Con n) (AfterCon k.number) bs (type_is_given body) (rw (is, data_type, goes, fits) refl)) q.1)

  mutual
    -- what is given a type has it by cases
    pub given_type_is : (c : Context) (e : NExpr) (t : NTy) → type_or_fault ms c e ≡ Ok t → HasType ms c e t
    given_type_is c (NLocal i) t h = typed_local h
    given_type_is c (NVar n) t h = typed_declared h
    given_type_is c (NLit n) t h = subst (λ x. HasType ms c (NLit n) x) (ok_ok h) typed_literal
    given_type_is c (NApp f a) t h =
        let p = part 0 (type_or_fault ms (without_joins c) f) _ t h in
        let q = part 1 (argument_given ms (without_joins c) a) _ t p.2 in
        typed_application p.0 q.0 (given_type_is (without_joins c) f p.0 p.1) (given_argument_is (without_joins c) a q.0 q.1) (applied_takes p.0 q.0 t q.2)
    given_type_is c (NLam b e) t h =
        let d = with_binder b (without_joins c) in
        let p = part 0 (binder_judged ms c.kinds b) _ t h in
        let q = part 1 (type_or_fault ms d e) _ t p.2 in
        let u = paid_inv p.0 _ t q.2 in
        let v = need_inv (body_fits ms c.kinds b q.0) _ _ t u.1 in
        subst (λ x. HasType ms c (NLam b e) x) (ok_ok v.1)
        (typed_lambda (judged_parameter_is ms c.kinds b (p.1 ∙ ap answer u.0)) (given_type_is d e q.0 q.1) (fit_body_is ms c.kinds b q.0 v.0))
    given_type_is c (NLet r bs e) t h =
        let d = without_joins (if r then with_binds bs c else c) in
        let p = and_then_inv (binds_judged ms d r 0 bs) _ t h in
        typed_let (judged_binds_have d r 0 bs p.0 p.1) (given_type_is (with_binds bs c) e t (under_inv p.0 (type_or_fault ms (with_binds bs c) e) t p.2))
    given_type_is c (NCase e xt rt alts) t h =
        let d = without_joins c in
        let p = part 0 (type_or_fault ms d e) _ t h in
        let q = part 1 (kind_or_fault ms c.kinds xt) _ t p.2 in
        let u = part 2 (kind_or_fault ms c.kinds rt) _ t q.2 in
        let v = and_then_inv (alts_judged ms (with_value xt c) p.0 rt 3 Start alts) _ t u.2 in
        let w = need_inv (same_type xt p.0) _ _ t v.2 in
        let z = need_inv (is_value_kind u.0) _ _ t w.1 in
        let same = sym (same_type_eq xt p.0 w.0) in
        subst (λ x. HasType ms c (NCase e xt rt alts) x) (ok_ok z.1)
        (typed_case q.0 u.0 (subst (λ x. HasType ms d e x) same (given_type_is d e p.0 p.1)) (given_kind_is ms c.kinds 0 xt q.0 q.1) (given_kind_is ms c.kinds 0 rt u.0 u.1)
        (subst (λ x. AltsFit ms (with_value xt c) x rt Start alts) same (judged_alts_fit (with_value xt c) p.0 rt 3 Start alts v.0 v.1)) z.0)
    given_type_is c (NCast e g) t h =
        let d = without_joins c in
        let p = part 0 (type_or_fault ms d e) _ t h in
        let q = part 1 (ends_or_fault ms c.kinds c.coercions g) _ t p.2 in
        let u = need_inv (same_role q.0.role R) _ _ t q.2 in
        let v = need_inv (same_type q.0.left p.0) _ _ t u.1 in
        let proved = (ends_are ms c.kinds c.coercions g q.0).0 q.1 in
        let at_role = subst (λ r. Proves ms c.kinds c.coercions g r q.0.left q.0.right) (same_role_eq q.0.role R u.0) proved in
        subst (λ x. HasType ms c (NCast e g) x) (ok_ok v.1)
        (typed_cast (subst (λ x. HasType ms d e x) (sym (same_type_eq q.0.left p.0 v.0)) (given_type_is d e p.0 p.1)) at_role)
    given_type_is c (NCon n args) t h =
        let p = and_then_inv (args_given ms (without_joins c) 0 args) _ t h in
        let q = found_inv n (constructor ms n) p.0 t p.2 in
        typed_con q.0 p.0 q.1 (given_args_are (without_joins c) 0 args p.0 p.1) q.2 q.3
    given_type_is c (NPrim op es) t h =
        let p = and_then_inv (operands_given ms (without_joins c) 0 es) _ t h in
        let q = called_takes PrimArity 2 primitive_type p.0 t p.2 in
        let u = given_are_two (without_joins c) es (takes_two q.1 q.0) p.1 in
        subst (λ x. HasType ms c (NPrim op es) x) u.1 (primitive_is c op es u.0)
    given_type_is c (NFail u) t h =
        let p = part 0 (kind_or_fault ms c.kinds u) _ t h in
        let q = need_inv (is_value_kind p.0) _ _ t p.2 in
        subst (λ x. HasType ms c (NFail u) x) (ok_ok q.1) (typed_fail p.0 (given_kind_is ms c.kinds 0 u p.0 p.1) q.0)
    given_type_is c (NJoin r u js e) t h =
        let d = if r then with_joins u js c else c in
        let p = part 0 (kind_or_fault ms c.kinds u) _ t h in
        let q = and_then_inv (joins_judged ms d u 1 js) _ t p.2 in
        let v = part q.0 (type_or_fault ms (with_joins u js c) e) _ t q.2 in
        let w = need_inv (same_type v.0 u) _ _ t v.2 in
        let z = need_inv (is_value_kind p.0) _ _ t w.1 in
        let e_is = subst (λ x. HasType ms (with_joins u js c) e x) (same_type_eq v.0 u w.0) (given_type_is (with_joins u js c) e v.0 v.1) in
        subst (λ x. HasType ms c (NJoin r u js e) x) (ok_ok z.1)
        (typed_join p.0 (given_kind_is ms c.kinds 0 u p.0 p.1) (judged_joins_have d u 1 js q.0 q.1) e_is z.0)
    given_type_is c (NJump i args) t h =
        let p = and_then_inv (args_given ms (without_joins c) 0 args) _ t h in
        let q = jumped_inv (at_distance c.joins i) p.0 t p.2 in
        subst (λ x. HasType ms c (NJump i args) x) q.5 (typed_jump q.0 p.0 q.1 q.2 (given_args_are (without_joins c) 0 args p.0 p.1) q.3 q.4)

    primitive_is : (c : Context) (op : PrimOp) (es : NExprs) → TwoOperands (without_joins c) es → HasType ms c (NPrim op es) NTInt
    primitive_is c op NoNExprs h = elim h [ ]
    primitive_is c op (MoreNExprs a NoNExprs) h = elim h [ ]
    primitive_is c op (MoreNExprs a (MoreNExprs b NoNExprs)) (two_operands x m y n) =
        typed_prim (given_type_is (without_joins c) a NTInt x) m (given_type_is (without_joins c) b NTInt y) n
    primitive_is c op (MoreNExprs a (MoreNExprs b (MoreNExprs e rest))) h = elim h [ ]

    pub given_argument_is : (c : Context) (a : NArg) (g : Given) → argument_given ms c a ≡ Ok g → ArgIsGiven ms c a g
    given_argument_is c (NATerm e) g h =
        let p = and_then_inv (type_or_fault ms c e) _ g h in subst (λ x. ArgIsGiven ms c (NATerm e) x) (ok_ok p.2) (given_term (given_type_is c e p.0 p.1))
    given_argument_is c (NAType u) g h =
        let p = and_then_inv (kind_or_fault ms c.kinds u) _ g h in subst (λ x. ArgIsGiven ms c (NAType u) x) (ok_ok p.2) (given_type (given_kind_is ms c.kinds 0 u p.0 p.1))
    given_argument_is c (NACo k) g h =
        let p = and_then_inv (ends_or_fault ms c.kinds c.coercions k) _ g h in
        subst (λ x. ArgIsGiven ms c (NACo k) x) (ok_ok p.2) (given_coercion ((ends_are ms c.kinds c.coercions k p.0).0 p.1))

    pub given_args_are : (c : Context) (i : ℕ) (args : NArgs) (gs : List Given) → args_given ms c i args ≡ Ok gs → ArgsAreGiven ms c args gs
    given_args_are c i NoNArgs gs h = subst (λ x. ArgsAreGiven ms c NoNArgs x) (ok_ok h) no_args
    given_args_are c i (MoreNArgs a rest) gs h =
        let p = part i (argument_given ms c a) _ gs h in
        let q = then_given_inv p.0 (args_given ms c (i + 1) rest) gs p.2 in
        subst (λ x. ArgsAreGiven ms c (MoreNArgs a rest) x) q.2 (one_arg (given_argument_is c a p.0 p.1) (given_args_are c (i + 1) rest q.0 q.1))

    pub judged_binds_have : (c : Context) (r : Bool) (i : ℕ) (bs : NBinds) (n : ℕ) → binds_judged ms c r i bs ≡ Ok n → BindsHaveTypes ms c r bs
    judged_binds_have c r i NoNBinds n h = no_binds
    judged_binds_have c r i (MoreNBinds (NBound t e) rest) n h =
        let p = part i (bind_judged ms c r (NBound t e)) _ n h in
        let q = part 0 (kind_or_fault ms c.kinds t) _ p.0 p.1 in
        let u = part 1 (type_or_fault ms c e) _ p.0 q.2 in
        let v = need_inv (is_value_kind q.0) _ _ p.0 u.2 in
        let w = need_inv (same_type t u.0) _ _ p.0 v.1 in
        let z = need_inv (atom_fits t (not r && is_atom e)) _ _ p.0 w.1 in
        one_bind q.0 (given_kind_is ms c.kinds 0 t q.0 q.1) v.0 (subst (λ x. HasType ms c e x) (sym (same_type_eq t u.0 w.0)) (given_type_is c e u.0 u.1)) z.0
        (judged_binds_have c r (i + 1) rest n p.2)

    pub judged_joins_have : (c : Context) (t : NTy) (i : ℕ) (js : NJoins) (n : ℕ) → joins_judged ms c t i js ≡ Ok n → JoinsHaveType ms c t js
    judged_joins_have c t i NoNJoins n h = no_joins
    judged_joins_have c t i (MoreNJoins (NJoined ps e) rest) n h =
        let p = part i (join_judged ms c t (NJoined ps e)) _ n h in
        let q = join_inv c t ps e p.0 p.1 in
        one_join q.0 (given_type_is (with_binders ps c) e (raised_type (type_count ps) t) q.1) (judged_joins_have c t (i + 1) rest n p.2)

    pub judged_alts_fit : (c : Context) (s rt : NTy) (i : ℕ) (b : Before) (alts : NAlts) (last : Before) → alts_judged ms c s rt i b alts ≡ Ok last → AltsFit ms c s rt b alts
    judged_alts_fit c s rt i b NoNAlts last h = no_alts
    judged_alts_fit c s rt i b (MoreNAlts (NBranch head.Default bs e) rest) last h =
        let p = part i (alt_judged ms c s rt b (NBranch head.Default bs e)) _ last h in
        let q = alt_inv c s rt b head.Default bs e p.0 p.1 in
        let u = need_inv (default_in_order b) _ _ p.0 q.2 in
        default_alt q.0 (given_type_is (with_binders bs c) e (raised_type (type_count bs) rt) q.1) u.0
        (subst (λ x. AltsFit ms c s rt x rest) (sym (ok_ok u.1)) (judged_alts_fit c s rt (i + 1) p.0 rest last p.2))
    judged_alts_fit c s rt i b (MoreNAlts (NBranch (head.Lit n) bs e) rest) last h =
        let p = part i (alt_judged ms c s rt b (NBranch (head.Lit n) bs e)) _ last h in
        let q = alt_inv c s rt b (head.Lit n) bs e p.0 p.1 in
        let u = need_inv (is_int s) _ _ p.0 q.2 in
        let v = need_inv (literal_in_order b n) _ _ p.0 u.1 in
        literal_alt q.0 (given_type_is (with_binders bs c) e (raised_type (type_count bs) rt) q.1) u.0 v.0
        (subst (λ x. AltsFit ms c s rt x rest) (sym (ok_ok v.1)) (judged_alts_fit c s rt (i + 1) p.0 rest last p.2))
    judged_alts_fit c s rt i b (MoreNAlts (NBranch (head.Con n) bs e) rest) last h =
        let p = part i (alt_judged ms c s rt b (NBranch (head.Con n) bs e)) _ last h in
        let q = alt_inv c s rt b (head.Con n) bs e p.0 p.1 in
        let u = constructor_goes_inv n (constructor ms n) s b bs p.0 q.2 in
        con_alt u.0 q.0 (given_type_is (with_binders bs c) e (raised_type (type_count bs) rt) q.1) u.1 u.2 u.3 u.4
        (subst (λ x. AltsFit ms c s rt x rest) (sym u.5) (judged_alts_fit c s rt (i + 1) p.0 rest last p.2))

  -- the function gives a type just where the relation does
  pub type_is : (c : Context) (e : NExpr) (t : NTy) → (type_or_fault ms c e ≡ Ok t) ↔ HasType ms c e t
  type_is c e t = (given_type_is c e t, λ h. type_is_given h)

  -- an expression has at most one type
  pub type_is_one : (c : Context) (e : NExpr) (s t : NTy) → HasType ms c e s → HasType ms c e t → s ≡ t
  type_is_one c e s t g h = ok_ok (sym (type_is_given g) ∙ type_is_given h)
