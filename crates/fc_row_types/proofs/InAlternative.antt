-- What surroundings say holds in an alternative: what is known of the scrutinee is of its type.
use Rattle.std.proofs.Common.{◌≡◌, ℕ, zero, suc, ◌+◌, Bool, true, false, not, ◌||◌, nat_eq, if◌then◌else◌, List, [], ◌∷◌, length, Some, Ok, refl, sym, ap, ◌∙◌, subst, arith}
use Rattle.fc_syntax.specs.declared.ty.Name.{Name}
use Rattle.fc_syntax.specs.declared.expr.Head.{Head}
use Rattle.fc_syntax.specs.declared.expr.Head.TheVariants as head
use Rattle.fc_syntax.specs.Tree.{Kind}
use Rattle.fc_model.specs.Calling.{Constructor, Given, GivenTerm, GivenType, GivenCoercion, Takes, takes_nothing, takes_term, takes_type, takes_coercion, constructor, constructor_binders, constructor_type}
use Rattle.fc_model.specs.Calling.{is_int, over_binders, type_count}
use Rattle.fc_model.specs.Coercing.{Ends, ends, shifted_ends}
use Rattle.fc_model.specs.CoercingRules.{proves_variable}
use Rattle.fc_model.specs.Faulting.{at_distance}
use Rattle.fc_model.specs.Kinding.{Modules, HasKind, kind_variable, same_name}
use Rattle.fc_model.specs.Nameless.{NTy, NTVar, NTCon, NTInt, NTApp, NTFun, NTForall, NTCoForall, NBinder, NBValue, NBType, NBCo, NArgs}
use Rattle.fc_model.specs.Nameless.{NExpr, NLocal, NVar, NLit}
use Rattle.fc_model.specs.Substituting.{instantiated, raised_type, renamed_type, renaming_below, shifted_type, substituted_type, type_for_innermost, types_below}
use Rattle.fc_model.specs.Typing.{Context, value_type, with_binders, with_coercion, with_type, with_value, without_joins}
use Rattle.fc_model.specs.TypingLaws.{AreDeclaredKinded}
use Rattle.fc_model.specs.TypingRules.{ArgsAreGiven, no_args, one_arg, given_term, given_type, given_coercion, BindersAreKinded, no_binders, HasType, typed_con, typed_declared, typed_literal, typed_local, value_binder}
use Rattle.fc_model.proofs.CallsKept.{closed_kept, raised_by_more, raised_by_nothing}
use Rattle.fc_model.proofs.EndsKept.{mapped}
use Rattle.fc_model.proofs.KindsKept.{substitution_keeps_kinds}
use Rattle.fc_model.proofs.Parts.{ok_ok}
use Rattle.fc_model.proofs.Sameness.{false_true, nat_eq_eq, same_name_eq}
use Rattle.fc_model.proofs.Substitutions.{equal_types, instantiated_within, renamed_is_substituted, types_for_renamed}
use Rattle.fc_model.proofs.TypesKinded.{types_have_kinds, without_joins_kinded}
use Rattle.fc_rows.specs.Surroundings.{Known, Unknown, Is, as_arguments, behind_binders, behind_value, coercion_count, known_at, known_in_alternative, scrutinee_local, scrutinee_name}
use Rattle.fc_rows.specs.Surroundings.{types_as_arguments, value_count}
use Rattle.fc_row_types.proofs.ChangesKept.{binders_context}
use Rattle.fc_row_types.proofs.DataTypes.{TypesTaken, no_types_taken, one_type_taken, forall_body, opened}
use Rattle.fc_row_types.proofs.HeadFits.{AlternativesHold, HeadFits, default_fits, literal_fits, constructor_fits}
use Rattle.fc_row_types.proofs.Holding.{closed, holds_binder, holds_binders}

-- BEHIND BINDERS

-- what is in scope before binders is in scope behind them
pub values_behind : (bs : List NBinder) (d : Context) (i : ℕ) (t : NTy) → at_distance d.values i ≡ Ok t
    → at_distance (with_binders bs d).values (i + value_count bs) ≡ Ok (raised_type (type_count bs) t)
values_behind [] d i t h = let e : i + 0 ≡ i = omega arith in ap (at_distance d.values) e ∙ h ∙ ap (λ x. Ok x) (sym (raised_by_nothing t))
values_behind (NBValue u ∷ bs) d i t h =
    let e : i + suc (value_count bs) ≡ suc i + value_count bs = omega arith in
    ap (at_distance (with_binders bs (with_value u d)).values) e ∙ values_behind bs (with_value u d) (suc i) t h
values_behind (NBType k ∷ bs) d i t h =
    values_behind bs (with_type k d) i (shifted_type t) (mapped shifted_type d.values i t h) ∙ ap (λ x. Ok x) (sym (raised_by_more (type_count bs) t))
values_behind (NBCo r u v ∷ bs) d i t h = values_behind bs (with_coercion (ends r u v) d) i t h

pub kinds_behind_binders : (bs : List NBinder) (d : Context) (i : ℕ) (k : Kind) → at_distance d.kinds i ≡ Ok k → at_distance (with_binders bs d).kinds (i + type_count bs) ≡ Ok k
kinds_behind_binders [] d i k h = let e : i + 0 ≡ i = omega arith in ap (at_distance d.kinds) e ∙ h
kinds_behind_binders (NBValue u ∷ bs) d i k h = kinds_behind_binders bs (with_value u d) i k h
kinds_behind_binders (NBType j ∷ bs) d i k h =
    let e : i + suc (type_count bs) ≡ suc i + type_count bs = omega arith in
    ap (at_distance (with_binders bs (with_type j d)).kinds) e ∙ kinds_behind_binders bs (with_type j d) (suc i) k h
kinds_behind_binders (NBCo r u v ∷ bs) d i k h = kinds_behind_binders bs (with_coercion (ends r u v) d) i k h

abbrev pub raised_ends : ℕ → Ends → Ends
raised_ends m e = record { role = e.role; left = raised_type m e.left; right = raised_type m e.right }

pub coercions_behind_binders : (bs : List NBinder) (d : Context) (i : ℕ) (e : Ends) → at_distance d.coercions i ≡ Ok e
    → at_distance (with_binders bs d).coercions (i + coercion_count bs) ≡ Ok (raised_ends (type_count bs) e)
coercions_behind_binders [] d i e h =
    let q : i + 0 ≡ i = omega arith in
    let same : e ≡ raised_ends 0 e = rw (raised_by_nothing e.left, raised_by_nothing e.right) refl in
    ap (at_distance d.coercions) q ∙ h ∙ ap (λ x. Ok x) same
coercions_behind_binders (NBValue u ∷ bs) d i e h = coercions_behind_binders bs (with_value u d) i e h
coercions_behind_binders (NBType k ∷ bs) d i e h =
    let same : raised_ends (type_count bs) (shifted_ends e) ≡ raised_ends (suc (type_count bs)) e =
    sym (rw (raised_by_more (type_count bs) e.left, raised_by_more (type_count bs) e.right) refl) in
    coercions_behind_binders bs (with_type k d) i (shifted_ends e) (mapped shifted_ends d.coercions i e h) ∙ ap (λ x. Ok x) same
coercions_behind_binders (NBCo r u v ∷ bs) d i e h =
    let q : i + suc (coercion_count bs) ≡ suc i + coercion_count bs = omega arith in
    ap (at_distance (with_binders bs (with_coercion (ends r u v) d)).coercions) q ∙ coercions_behind_binders bs (with_coercion (ends r u v) d) (suc i) e h

-- BINDERS AS ARGUMENTS

pub any_atom : (i : Bool) → not i || true ≡ true
any_atom true = refl
any_atom false = refl

-- the innermost of m types more in place of the variable of a `forall` from before them
pub at_own_type : (m : ℕ) (t : NTy) → instantiated (NTVar m) (renamed_type (renaming_below (λ i. i + suc m)) t) ≡ raised_type m t
at_own_type m t =
    types_for_renamed (renaming_below (λ i. i + suc m)) (type_for_innermost (NTVar m)) t ∙ equal_types same t ∙ sym (renamed_is_substituted (λ i. i + m) t)
  where
    same : (i : ℕ) → type_for_innermost (NTVar m) (renaming_below (λ j. j + suc m) i) ≡ NTVar (i + m)
    same zero = let e : m ≡ 0 + m = omega arith in ap (λ x. NTVar x) e
    same (suc i) = let e : i + suc m ≡ suc i + m = omega arith in ap (λ x. NTVar x) e

module _ (ms : Modules) where
  -- what takes arguments for binders takes the binders behind them
  pub record Own (bs : List NBinder) (d : Context) (r : NTy) : Type 0 where
    pub given : List Given
    pub are_given : ArgsAreGiven ms (without_joins (with_binders bs d)) (as_arguments bs) given
    pub takes : Takes (raised_type (type_count bs) (over_binders bs r)) given r
    pub long : length given ≡ length bs

  own : (bs : List NBinder) (d : Context) (r : NTy) → Own bs d r
  own [] d r = record { given = []; are_given = no_args; takes = subst (λ x. Takes x [] r) (sym (raised_by_nothing r)) takes_nothing; long = refl }
  own (NBValue t ∷ bs) d r =
      let ih = own bs (with_value t d) r in
      let m = type_count bs in
      let e : 0 + value_count bs ≡ value_count bs = omega arith in
      let here = ap (at_distance (with_binders bs (with_value t d)).values) (sym e) ∙ values_behind bs (with_value t d) 0 t refl in
      record {
        given = GivenTerm (raised_type m t) true ∷ ih.given;
        are_given = one_arg (given_term (typed_local here)) ih.are_given;
        takes = takes_term (any_atom (is_int (raised_type m t))) ih.takes;
        long = ap suc ih.long;
      }
  own (NBType k ∷ bs) d r =
      let ih = own bs (with_type k d) r in
      let m = type_count bs in
      let e : 0 + m ≡ m = omega arith in
      let here = ap (at_distance (with_binders bs (with_type k d)).kinds) (sym e) ∙ kinds_behind_binders bs (with_type k d) 0 k refl in
      record {
        given = GivenType (NTVar m) k ∷ ih.given;
        are_given = one_arg (given_type (kind_variable here)) ih.are_given;
        takes = takes_type (subst (λ x. Takes x ih.given r) (sym (at_own_type m (over_binders bs r))) ih.takes);
        long = ap suc ih.long;
      }
  own (NBCo o t u ∷ bs) d r =
      let p = ends o t u in
      let ih = own bs (with_coercion p d) r in
      let m = type_count bs in
      let e : 0 + coercion_count bs ≡ coercion_count bs = omega arith in
      let here = ap (at_distance (with_binders bs (with_coercion p d)).coercions) (sym e) ∙ coercions_behind_binders bs (with_coercion p d) 0 p refl in
      record {
        given = GivenCoercion o (raised_type m t) (raised_type m u) ∷ ih.given;
        are_given = one_arg (given_coercion (proves_variable here)) ih.are_given;
        takes = takes_coercion ih.takes;
        long = ap suc ih.long;
      }

  -- before them the types that something takes first, past as many types
  record WithTypes (m n : ℕ) (d : Context) (t u : NTy) (us : List NTy) (args : NArgs) : Type 0 where
    given : List Given
    are_given : ArgsAreGiven ms d (types_as_arguments m us args) given
    takes : Takes (raised_type m t) given u
    long : length given ≡ length us + n

  with_types : (ks : List Kind) (m : ℕ) (d : Context) → ((i : ℕ) (k : Kind) → at_distance ks i ≡ Ok k → HasKind ms d.kinds (NTVar (i + m)) k)
      → {t w : NTy} {us : List NTy} → TypesTaken ms ks t us w → (args : NArgs) (gs : List Given) (u : NTy) → ArgsAreGiven ms d args gs → Takes (raised_type m w) gs u
      → WithTypes m (length gs) d t u us args
  with_types ks m d kinds no_types_taken args gs u given takes = record { given = gs; are_given = given; takes = takes; long = omega arith }
  with_types ks m d kinds (one_type_taken {k = k} {r = r} {u = x} p rest) args gs u given takes =
      let ih = with_types ks m d kinds rest args gs u given takes in
      let s : ℕ → NTy = λ i. NTVar (i + m) in
      let q : ℕ → ℕ = λ i. i + m in
      let kinded = subst (λ y. HasKind ms d.kinds y k) (sym (renamed_is_substituted q x)) (substitution_keeps_kinds ms ks d.kinds s kinds 0 x k p) in
      let body : renamed_type (renaming_below q) r ≡ substituted_type (types_below s) r = forall_body (renamed_is_substituted q (NTForall k r)) in
      let same : raised_type m (instantiated x r) ≡ instantiated (raised_type m x) (renamed_type (renaming_below q) r) =
      renamed_is_substituted q (instantiated x r) ∙ instantiated_within s x r ∙ ap (λ y. instantiated y (substituted_type (types_below s) r)) (sym (renamed_is_substituted q x))
      ∙ ap (instantiated (raised_type m x)) (sym body) in
      record {
        given = GivenType (raised_type m x) k ∷ ih.given;
        are_given = one_arg (given_type kinded) ih.are_given;
        takes = takes_type (subst (λ y. Takes y ih.given u) same ih.takes);
        long = omega (arith, ih.long);
      }

  -- THE SCRUTINEE

  abbrev is : NExpr → Known
  is e = Is e

  is_is : {e f : NExpr} → is e ≡ is f → e ≡ f
  is_is h = cc

  int_is : (t : NTy) → is_int t ≡ true → NTInt ≡ t
  int_is (NTVar i) h = false_true h
  int_is (NTCon n) h = false_true h
  int_is NTInt h = refl
  int_is (NTApp t u) h = false_true h
  int_is (NTFun t u) h = false_true h
  int_is (NTForall k t) h = false_true h
  int_is (NTCoForall r t u v) h = false_true h

  module _ (declared : AreDeclaredKinded ms) where
    raised_closed : (m : ℕ) (n : Name) (k : Constructor) → constructor ms n ≡ Some k → raised_type m (constructor_type n k) ≡ constructor_type n k
    raised_closed m n k found =
        renamed_is_substituted (λ i. i + m) (constructor_type n k) ∙ closed_kept (λ i. NTVar (i + m)) (constructor_type n k) ((closed ms declared).constructors n k found)

    -- what is known of the scrutinee is of its type
    known_typed : (c : Context) (t : NTy) (j : Kind) → HasKind ms c.kinds t j → (hs : List Head) (h : Head) (bs : List NBinder) → HeadFits ms c.kinds t h bs → (e : NExpr)
        → known_in_alternative t hs h bs ≡ Is e → HasType ms (without_joins (with_binders bs (with_value t c))) e (raised_type (type_count bs) t)
    known_typed c t j kind hs head.Default [] default_fits e q = absurd cc
    known_typed c t j kind hs head.Default (b ∷ bs) fits e q = elim fits [ ]
    known_typed c t j kind hs (head.Lit n) (b ∷ bs) fits e q = elim fits [ ]
    known_typed c t j kind hs (head.Lit n) [] (literal_fits int) e q =
        subst (λ x. HasType ms (without_joins (with_value t c)) x (raised_type 0 t)) (is_is q)
        (subst (λ x. HasType ms (without_joins (with_value t c)) (NLit n) x) (int_is t int ∙ sym (raised_by_nothing t)) typed_literal)
    known_typed c t j kind hs (head.Con n) bs (constructor_fits k kinds found of fits) e q =
        let o = opened ms declared c.kinds t j kind n k found of bs fits in
        let d = with_binders bs (with_value t c) in
        let m = type_count bs in
        let mine = own bs (with_value t c) (raised_type m t) in
        let w = with_types c.kinds m (without_joins d) (λ i l h. kind_variable (kinds_behind_binders bs (with_value t c) i l h)) o.taken (as_arguments bs) mine.given
        (raised_type m t) mine.are_given mine.takes in
        let takes = subst (λ x. Takes x w.given (raised_type m t)) (raised_closed m n k found) w.takes in
        let long : length w.given ≡ length (constructor_binders k) = omega (arith, w.long, mine.long, o.long) in
        subst (λ x. HasType ms (without_joins d) x (raised_type m t)) (is_is q) (typed_con k w.given found w.are_given long takes)

    pub alternative_kinded : (c : Context) (t : NTy) (j : Kind) → HasKind ms c.kinds t j → (h : Head) (bs : List NBinder) → HeadFits ms c.kinds t h bs → BindersAreKinded ms true c.kinds bs
    alternative_kinded c t j kind head.Default [] default_fits = no_binders
    alternative_kinded c t j kind head.Default (b ∷ bs) fits = elim fits [ ]
    alternative_kinded c t j kind (head.Lit n) (b ∷ bs) fits = elim fits [ ]
    alternative_kinded c t j kind (head.Lit n) [] (literal_fits int) = no_binders
    alternative_kinded c t j kind (head.Con n) bs (constructor_fits k kinds found of fits) = (opened ms declared c.kinds t j kind n k found of bs fits).kinded

    -- a fact of one variable more
    at_one : (d : Context) (i : ℕ) (k : Known) (t : NTy) (f : ℕ → Known) → at_distance d.values i ≡ Ok t → ((e : NExpr) → k ≡ Is e → HasType ms (without_joins d) e t)
        → ((l : ℕ) (e : NExpr) (u : NTy) → f l ≡ Is e → at_distance d.values l ≡ Ok u → HasType ms (without_joins d) e u)
        → (l : ℕ) (e : NExpr) (u : NTy) → known_at i k f l ≡ Is e → at_distance d.values l ≡ Ok u → HasType ms (without_joins d) e u
    at_one d i k t f here typed others l e u h a = tested (nat_eq l i) refl h
      where
        tested : (b : Bool) → nat_eq l i ≡ b → (if b then k else f l) ≡ Is e → HasType ms (without_joins d) e u
        tested true same q =
            let there : at_distance d.values i ≡ Ok u = ap (at_distance d.values) (sym (nat_eq_eq l i same)) ∙ a in
            subst (λ x. HasType ms (without_joins d) e x) (ok_ok (sym here ∙ there)) (typed e q)
        tested false same q = others l e u q a

    at_scrutinee : (c d : Context) (m : ℕ) (k : Known) (s t : NTy) (f : ℕ → Known) → ((i : ℕ) → at_distance c.values i ≡ Ok s → at_distance d.values (i + m) ≡ Ok t)
        → (x : NExpr) → HasType ms (without_joins c) x s → ((e : NExpr) → k ≡ Is e → HasType ms (without_joins d) e t)
        → ((l : ℕ) (e : NExpr) (u : NTy) → f l ≡ Is e → at_distance d.values l ≡ Ok u → HasType ms (without_joins d) e u)
        → (l : ℕ) (e : NExpr) (u : NTy) → scrutinee_local x m k f l ≡ Is e → at_distance d.values l ≡ Ok u → HasType ms (without_joins d) e u
    at_scrutinee c d m k s t f past (NLocal i) (typed_local a) typed others = at_one d (i + m) k t f (past i a) typed others
    at_scrutinee c d m k s t f past x h typed others = others

    at_name : (c d : Context) (k : Known) (s t : NTy) (f : Name → Known) → ((n : Name) → value_type ms n ≡ Ok s → t ≡ s)
        → (x : NExpr) → HasType ms (without_joins c) x s → ((e : NExpr) → k ≡ Is e → HasType ms (without_joins d) e t)
        → ((n : Name) (e : NExpr) (u : NTy) → f n ≡ Is e → value_type ms n ≡ Ok u → HasType ms (without_joins d) e u)
        → (n : Name) (e : NExpr) (u : NTy) → scrutinee_name x k f n ≡ Is e → value_type ms n ≡ Ok u → HasType ms (without_joins d) e u
    at_name c d k s t f same (NVar m) (typed_declared a) typed others n e u h v = tested (same_name n m) refl h
      where
        tested : (b : Bool) → same_name n m ≡ b → (if b then k else f n) ≡ Is e → HasType ms (without_joins d) e u
        tested true one q =
            let there : value_type ms m ≡ Ok u = ap (value_type ms) (sym (same_name_eq n m one)) ∙ v in
            subst (λ x. HasType ms (without_joins d) e x) (same m a ∙ ok_ok (sym a ∙ there)) (typed e q)
        tested false one q = others n e u q v
    at_name c d k s t f same x h typed others n e u q v = others n e u q v

    pub alternatives_hold : AlternativesHold ms
    alternatives_hold s g x t j typed kind hs h bs fits =
        let value = types_have_kinds ms declared (without_joins s.context) (without_joins_kinded ms s.context g.kinded) x t typed in
        let one = holds_binder ms declared (NBValue t) s g (value_binder value.0 value.1 value.2) in
        let all = holds_binders ms declared bs (behind_value t Unknown s) one (alternative_kinded s.context t j kind h bs fits) in
        let inner = behind_binders bs (behind_value t Unknown s) in
        let k = known_in_alternative t hs h bs in
        let m = type_count bs in
        let d = with_binders bs (with_value t s.context) in
        let e : 0 + value_count bs ≡ value_count bs = omega arith in
        let there : inner.context ≡ d = binders_context bs (behind_value t Unknown s) in
        let binder : at_distance inner.context.values (value_count bs) ≡ Ok (raised_type m t) =
        ap (λ c. at_distance c.values (value_count bs)) there ∙ ap (at_distance d.values) (sym e) ∙ values_behind bs (with_value t s.context) 0 t refl in
        let fact : (f : NExpr) → k ≡ Is f → HasType ms (without_joins inner.context) f (raised_type m t) =
        λ f q. subst (λ c. HasType ms (without_joins c) f (raised_type m t)) (sym there) (known_typed s.context t j kind hs h bs fits f q) in
        let past : (i : ℕ) → at_distance s.context.values i ≡ Ok t → at_distance inner.context.values (i + suc (value_count bs)) ≡ Ok (raised_type m t) =
        λ i a.
        let far : i + suc (value_count bs) ≡ suc i + value_count bs = omega arith in
        ap (λ c. at_distance c.values (i + suc (value_count bs))) there ∙ ap (at_distance d.values) far ∙ values_behind bs (with_value t s.context) (suc i) t a in
        let scoped : (n : Name) → value_type ms n ≡ Ok t → raised_type m t ≡ t =
        λ n v. renamed_is_substituted (λ i. i + m) t ∙ closed_kept (λ i. NTVar (i + m)) t ((closed ms declared).values n t v) in
        record {
          kinded = all.kinded;
          lifted = all.lifted;
          locals = at_scrutinee s.context inner.context (suc (value_count bs)) k t (raised_type m t) (known_at (value_count bs) k inner.locals) past x typed fact
              (at_one inner.context (value_count bs) k (raised_type m t) inner.locals binder fact all.locals);
          rights = all.rights;
          names = at_name s.context inner.context k t (raised_type m t) inner.names scoped x typed fact all.names;
          points = all.points;
        }
