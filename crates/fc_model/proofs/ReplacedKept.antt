-- Variables, coercions and expressions in place of variables keep types; so does an expression past one binder more, and with one type, one
-- coercion or one expression in place of the innermost variable.
use Rattle.std.proofs.Common.{◌≡◌, ℕ, zero, suc, true, false, List, [], ◌∷◌, length, map, reverse, Ok, refl, sym, ap, ◌∙◌, subst}
use Rattle.std.proofs.lemmas.List.{length-reverse}
use Rattle.fc_syntax.specs.Tree.{Kind, KStar, KHash}
use Rattle.fc_model.specs.Calling.{is_unlifted}
use Rattle.fc_model.specs.Coercing.{Axiom, Ends, shifted_ends}
use Rattle.fc_model.specs.CoercingRules.{proves_variable}
use Rattle.fc_model.specs.CoercionLaws.{IsSaturated, substituted_ends}
use Rattle.fc_model.specs.Faulting.{at_distance}
use Rattle.fc_model.specs.Kinding.{Modules, HasKind, kind_variable, kind_int, is_lifted}
use Rattle.fc_model.specs.Nameless.{NTy, NTVar, NTCon, NTInt, NTApp, NTFun, NTForall, NTCoForall, NCo, NGVar}
use Rattle.fc_model.specs.Nameless.{NExpr, NLocal, NVar, NLit}
use Rattle.fc_model.specs.Replacing.{Renaming, coercion_alone, coercion_variables, expressions, past_a_coercion, past_a_join, past_a_type, past_a_value, renamed, renamed_coercion}
use Rattle.fc_model.specs.Replacing.{replaced, type_alone, value_alone, variables, whole_coercions}
use Rattle.fc_model.specs.Substituting.{IsScopedType, instantiated, shifted_type, substituted_type, type_for_innermost}
use Rattle.fc_model.specs.Typing.{Context, JoinPoint, is_atom, shifted_join, with_coercion, with_type, with_value, without_joins}
use Rattle.fc_model.specs.TypingLaws.{AreDeclaredClosed, Fits, IsCoercionProving, IsExpressionOf, IsVariableOf, IsVariableProving, RenamingFits, substituted_join}
use Rattle.fc_model.specs.TypingLaws.{KindedAreClosed, RenamingKeepsTypes, ReplacementKeepsTypes, TypesAmongJoins, TypesAtACoercion, TypesAtAType, TypesAtAValue}
use Rattle.fc_model.specs.TypingLaws.{TypesPastACoercion, TypesPastAJoin, TypesPastAType, TypesPastAValue}
use Rattle.fc_model.specs.TypingRules.{HasType, typed_local}
use Rattle.fc_model.proofs.CallsKept.{unlifted_renamed}
use Rattle.fc_model.proofs.CoercionsKept.{coercion_past_type, coercion_renaming_keeps_ends, coercion_replacement_keeps_ends}
use Rattle.fc_model.proofs.EndsKept.{mapped, mapped_inv}
use Rattle.fc_model.proofs.EndsKinded.{kinded_is_saturated}
use Rattle.fc_model.proofs.FitsKept.{Stand, types_fit}
use Rattle.fc_model.proofs.KindedIs.{kind_is_one}
use Rattle.fc_model.proofs.KindsKept.{innermost_has_kind, kinded_is_scoped}
use Rattle.fc_model.proofs.Parts.{err_ok, ok_ok}
use Rattle.fc_model.proofs.PutInKept.{type_kept}
use Rattle.fc_model.proofs.RenamedItself.{itself}
use Rattle.fc_model.proofs.Sameness.{false_true}
use Rattle.fc_model.proofs.Substitutions.{renamed_is_substituted, shifted_is_kept, variables_for_themselves}

-- what has kinds has no variables from outside
pub kinded_are_closed : KindedAreClosed
kinded_are_closed ms kinded = record {
  values = λ n t h. kinded_is_scoped ms [] 0 t KStar (kinded.values n t h);
  constructors = λ n k h. kinded_is_scoped ms [] 0 _ KStar (kinded.constructors n k h);
  axioms = λ n a h.
      let p = kinded.axioms n a h in
      (side a p.0 a.ends.left p.1, side a p.0 a.ends.right p.2);
}
  where
    side : (a : Axiom) (k : Kind) (t : NTy) → HasKind ms (reverse a.params) t k → IsScopedType (length a.params) t
    side a k t h = subst (λ m. IsScopedType m t) (length-reverse a.params) (kinded_is_scoped ms (reverse a.params) 0 t k h)

-- VARIABLES IN PLACE OF VARIABLES

pub variables_stand : (ms : Modules) → AreDeclaredClosed ms → Stand ms variables coercion_variables IsVariableProving IsVariableOf
variables_stand ms closed = record {
  typed = λ d i t h. typed_local h;
  atom = λ d i t h int. refl;
  innermost = λ d t. refl;
  past_value = λ d s i t h. h;
  past_type = λ d k i t h. mapped shifted_type d.values i t h;
  past_coercion = λ d p i t h. h;
  past_join = λ d i t h. h;
  proves = λ c d s r fit. coercion_renaming_keeps_ends ms closed.axioms c.kinds d.kinds c.coercions d.coercions s r fit;
  proof_elsewhere = λ d vs js i e h. h;
  innermost_proof = λ d e. refl;
  proof_past_type = λ d k i e h. mapped shifted_ends d.coercions i e h;
  proof_past_coercion = λ d p i e h. h;
}

pub renaming_keeps_types : RenamingKeepsTypes
renaming_keeps_types ms closed c d r f e t h = type_kept closed (variables_stand ms closed) c d r f e t h

pub join_itself : (j : JoinPoint) → substituted_join NTVar j ≡ j
join_itself j = rw (variables_for_themselves j.type, variables_for_themselves j.result) refl

pub ends_themselves : (e : Ends) → substituted_ends NTVar e ≡ e
ends_themselves e = rw (variables_for_themselves e.left, variables_for_themselves e.right) refl

-- from a context to another with the same type variables
module _ (ms : Modules) (closed : AreDeclaredClosed ms) (c : Context) (cs : List Ends) (vs : List NTy) (js : List JoinPoint) (g v j : ℕ → ℕ)
    (coercions : (i : ℕ) (e : Ends) → at_distance c.coercions i ≡ Ok e → at_distance cs (g i) ≡ Ok e)
    (values : (i : ℕ) (t : NTy) → at_distance c.values i ≡ Ok t → at_distance vs (v i) ≡ Ok t)
    (joins : (i : ℕ) (p : JoinPoint) → at_distance c.joins i ≡ Ok p → at_distance js (j i) ≡ Ok p) where
  abbrev pub other : Context
  other = record { kinds = c.kinds; coercions = cs; values = vs; joins = js }

  abbrev pub moved : Renaming
  moved = record { types = λ i. NTVar i; coercions = g; values = v; joins = j }

  pub moved_fits : RenamingFits ms c other moved
  moved_fits = record {
    kinds = λ i k h. kind_variable h;
    lifted = λ i. refl;
    saturated = λ i n. refl;
    coercions = λ i e h. coercions i e h ∙ ap (λ x. Ok x) (sym (ends_themselves e));
    values = λ i t h. values i t h ∙ ap (λ x. Ok x) (sym (variables_for_themselves t));
    joins = λ i p h. joins i p h ∙ ap (λ x. Ok x) (sym (join_itself p));
  }

  pub moved_types : (e : NExpr) (t : NTy) → HasType ms c e t → HasType ms other (renamed moved e) t
  moved_types e t h = subst (λ x. HasType ms other (renamed moved e) x) (variables_for_themselves t) (renaming_keeps_types ms closed c other moved moved_fits e t h)

  pub moved_ends : (p : NCo) (e : Ends) → IsCoercionProving ms c p e → IsCoercionProving ms other (renamed_coercion (λ i. NTVar i) g p) e
  moved_ends p e h =
      let fit = types_fit (variables_stand ms closed) c other moved moved_fits in
      subst (IsCoercionProving ms other (renamed_coercion (λ i. NTVar i) g p)) (ends_themselves e)
      (coercion_renaming_keeps_ends ms closed.axioms c.kinds c.kinds c.coercions cs (λ i. NTVar i) g fit moved_fits.coercions p e.role e.left e.right h)

pub types_past_a_coercion : TypesPastACoercion
types_past_a_coercion ms closed c p e t h =
    moved_types ms closed c (p ∷ c.coercions) c.values c.joins (λ i. suc i) (λ i. i) (λ i. i) (λ i q a. a) (λ i u a. a) (λ i q a. a) e t h

-- so a coercion keeps what it proves past a binder of another
ends_past_a_coercion : (ms : Modules) → AreDeclaredClosed ms → (c : Context) (p : Ends) (g : NCo) (e : Ends) → IsCoercionProving ms c g e
    → IsCoercionProving ms (with_coercion p c) (whole_coercions.past_coercion g) e
ends_past_a_coercion ms closed c p g e h =
    moved_ends ms closed c (p ∷ c.coercions) c.values c.joins (λ i. suc i) (λ i. i) (λ i. i) (λ i q a. a) (λ i u a. a) (λ i q a. a) g e h

pub types_past_a_value : TypesPastAValue
types_past_a_value ms closed c s e t h =
    moved_types ms closed c c.coercions (s ∷ c.values) c.joins (λ i. i) (λ i. suc i) (λ i. i) (λ i q a. a) (λ i u a. a) (λ i q a. a) e t h

pub types_past_a_join : TypesPastAJoin
types_past_a_join ms closed c j e t h =
    moved_types ms closed c c.coercions c.values (j ∷ c.joins) (λ i. i) (λ i. i) (λ i. suc i) (λ i q a. a) (λ i u a. a) (λ i q a. a) e t h

pub types_among_joins : TypesAmongJoins
types_among_joins ms closed c e t h =
    subst (λ x. HasType ms c x t) (itself e)
    (moved_types ms closed (without_joins c) c.coercions c.values c.joins (λ i. i) (λ i. i) (λ i. i) (λ i q a. a) (λ i u a. a) (λ i q a. err_ok a) e t h)

-- PAST A TYPE

shifted_is_substituted : (t : NTy) → shifted_type t ≡ substituted_type past_a_type.types t
shifted_is_substituted t = renamed_is_substituted suc t

join_past_a_type : (j : JoinPoint) → shifted_join j ≡ substituted_join past_a_type.types j
join_past_a_type j = rw (shifted_is_substituted j.type, shifted_is_substituted j.result) refl

ends_shifted : (e : Ends) → shifted_ends e ≡ substituted_ends past_a_type.types e
ends_shifted e = rw (shifted_is_substituted e.left, shifted_is_substituted e.right) refl

pub past_a_type_fits : (ms : Modules) (c : Context) (k : Kind) → RenamingFits ms c (with_type k c) past_a_type
past_a_type_fits ms c k = record {
  kinds = λ i l h. kind_variable h;
  lifted = λ i. refl;
  saturated = λ i n. refl;
  coercions = λ i e h. mapped shifted_ends c.coercions i e h ∙ ap (λ x. Ok x) (ends_shifted e);
  values = λ i t h. mapped shifted_type c.values i t h ∙ ap (λ x. Ok x) (shifted_is_substituted t);
  joins = λ i j h. mapped shifted_join c.joins i j h ∙ ap (λ x. Ok x) (join_past_a_type j);
}

pub types_past_a_type : TypesPastAType
types_past_a_type ms closed c k e t h =
    subst (λ x. HasType ms (with_type k c) (renamed past_a_type e) x) (sym (shifted_is_substituted t))
    (renaming_keeps_types ms closed c (with_type k c) past_a_type (past_a_type_fits ms c k) e t h)

-- AT A TYPE

-- what has a kind without `#` is lifted
pub kind_says_lifted : (ms : Modules) (ks : List Kind) (k : Kind) (u : NTy) → is_lifted k ≡ true → HasKind ms ks u k → is_unlifted u ≡ false
kind_says_lifted ms ks k (NTVar i) l h = refl
kind_says_lifted ms ks k (NTCon n) l h = refl
kind_says_lifted ms ks k NTInt l h = false_true (subst (λ x. is_lifted x ≡ true) (kind_is_one ms ks 0 NTInt k KHash h kind_int) l)
kind_says_lifted ms ks k (NTApp t u) l h = refl
kind_says_lifted ms ks k (NTFun t u) l h = refl
kind_says_lifted ms ks k (NTForall j t) l h = refl
kind_says_lifted ms ks k (NTCoForall r t u v) l h = refl

join_at_a_type : (u : NTy) (j : JoinPoint) → substituted_join (type_for_innermost u) (shifted_join j) ≡ j
join_at_a_type u j = rw (shifted_is_kept u j.type, shifted_is_kept u j.result) refl

ends_at_a_type : (u : NTy) (e : Ends) → substituted_ends (type_for_innermost u) (shifted_ends e) ≡ e
ends_at_a_type u e = rw (shifted_is_kept u e.left, shifted_is_kept u e.right) refl

at_a_type_fits : (ms : Modules) (c : Context) (k : Kind) (u : NTy) → is_lifted k ≡ true → HasKind ms c.kinds u k → RenamingFits ms (with_type k c) c (type_alone u)
at_a_type_fits ms c k u l h = record {
  kinds = innermost_has_kind ms c.kinds k u h;
  lifted = lifted;
  saturated = saturated;
  coercions = coercions;
  values = values;
  joins = joins;
}
  where
    lifted : (i : ℕ) → is_unlifted (type_for_innermost u i) ≡ false
    lifted zero = kind_says_lifted ms c.kinds k u l h
    lifted (suc i) = refl

    saturated : (i : ℕ) → IsSaturated ms (type_for_innermost u i)
    saturated zero = kinded_is_saturated ms c.kinds u k h
    saturated (suc i) = λ n. refl

    coercions : (i : ℕ) (e : Ends) → at_distance (map shifted_ends c.coercions) i ≡ Ok e → at_distance c.coercions i ≡ Ok (substituted_ends (type_for_innermost u) e)
    coercions i e a =
        let p = mapped_inv shifted_ends c.coercions i e a in
        p.1 ∙ ap (λ x. Ok x) (sym (ends_at_a_type u p.0) ∙ ap (substituted_ends (type_for_innermost u)) p.2)

    values : (i : ℕ) (t : NTy) → at_distance (map shifted_type c.values) i ≡ Ok t → at_distance c.values i ≡ Ok (instantiated u t)
    values i t a =
        let p = mapped_inv shifted_type c.values i t a in
        p.1 ∙ ap (λ x. Ok x) (sym (shifted_is_kept u p.0) ∙ ap (instantiated u) p.2)

    joins : (i : ℕ) (j : JoinPoint) → at_distance (map shifted_join c.joins) i ≡ Ok j → at_distance c.joins i ≡ Ok (substituted_join (type_for_innermost u) j)
    joins i j a =
        let p = mapped_inv shifted_join c.joins i j a in
        p.1 ∙ ap (λ x. Ok x) (sym (join_at_a_type u p.0) ∙ ap (substituted_join (type_for_innermost u)) p.2)

pub types_at_a_type : TypesAtAType
types_at_a_type ms closed c k u l h e t typed = renaming_keeps_types ms closed (with_type k c) c (type_alone u) (at_a_type_fits ms c k u l h) e t typed

-- EXPRESSIONS AND COERCIONS IN PLACE OF VARIABLES

-- a renamed atom is an atom
pub renamed_atom : (r : Renaming) (e : NExpr) → is_atom e ≡ true → is_atom (renamed r e) ≡ true
renamed_atom r (NLocal i) a = refl
renamed_atom r (NVar n) a = refl
renamed_atom r (NLit n) a = refl
renamed_atom r e a = false_true a

pub expressions_stand : (ms : Modules) → AreDeclaredClosed ms → Stand ms expressions whole_coercions (IsCoercionProving ms) (IsExpressionOf ms)
expressions_stand ms closed = record {
  typed = λ d e t h. types_among_joins ms closed d e t h.0;
  atom = λ d e t h int. h.1 int;
  innermost = λ d t. (typed_local refl, λ int. refl);
  past_value = λ d s e t h. (types_past_a_value ms closed (without_joins d) s e t h.0, λ int. renamed_atom past_a_value e (h.1 int));
  past_type = λ d k e t h. (types_past_a_type ms closed (without_joins d) k e t h.0, λ int. renamed_atom past_a_type e (h.1 (sym (unlifted_renamed suc t) ∙ int)));
  past_coercion = λ d p e t h. (types_past_a_coercion ms closed (without_joins d) p e t h.0, λ int. renamed_atom past_a_coercion e (h.1 int));
  past_join = λ d e t h. (past_no_join d e t h.0, λ int. renamed_atom past_a_join e (h.1 int));
  proves = λ c d s r fit. coercion_replacement_keeps_ends ms closed.axioms c.kinds d.kinds c.coercions d.coercions s r fit;
  proof_elsewhere = λ d vs js g e h. h;
  innermost_proof = λ d e. proves_variable refl;
  proof_past_type = λ d k g e h. coercion_past_type ms closed.axioms d.kinds d.coercions k g e h;
  proof_past_coercion = λ d p g e h. ends_past_a_coercion ms closed d p g e h;
}
  where
    past_no_join : (d : Context) (e : NExpr) (t : NTy) → HasType ms (without_joins d) e t → HasType ms (without_joins d) (renamed past_a_join e) t
    past_no_join d e t h =
        moved_types ms closed (without_joins d) d.coercions d.values [] (λ i. i) (λ i. i) (λ i. suc i) (λ i q a. a) (λ i u a. a) (λ i q a. err_ok a) e t h

pub replacement_keeps_types : ReplacementKeepsTypes
replacement_keeps_types ms closed c d r f e t h = type_kept closed (expressions_stand ms closed) c d r f e t h

-- each variable, and each coercion variable, is of its type, and proves what it proves, in its own place
pub local_itself : (ms : Modules) (c : Context) (i : ℕ) (t : NTy) → at_distance c.values i ≡ Ok t → IsExpressionOf ms (without_joins c) (NLocal i) (substituted_type NTVar t)
local_itself ms c i t h = (typed_local (h ∙ ap (λ x. Ok x) (sym (variables_for_themselves t))), λ int. refl)

pub coercion_itself : (ms : Modules) (c : Context) (i : ℕ) (e : Ends) → at_distance c.coercions i ≡ Ok e → IsCoercionProving ms c (NGVar i) (substituted_ends NTVar e)
coercion_itself ms c i e h = proves_variable (h ∙ ap (λ x. Ok x) (sym (ends_themselves e)))

pub join_in_place : (c : Context) (i : ℕ) (j : JoinPoint) → at_distance c.joins i ≡ Ok j → at_distance c.joins i ≡ Ok (substituted_join NTVar j)
join_in_place c i j h = h ∙ ap (λ x. Ok x) (sym (join_itself j))

pub at_a_value_fits : (ms : Modules) (c : Context) (s : NTy) (a : NExpr) → HasType ms (without_joins c) a s → (is_unlifted s ≡ true → is_atom a ≡ true)
    → Fits ms (with_value s c) c (value_alone a)
at_a_value_fits ms c s a h atom = record {
  kinds = λ i k p. kind_variable p;
  lifted = λ i. refl;
  saturated = λ i n. refl;
  coercions = coercion_itself ms c;
  values = values;
  joins = join_in_place c;
}
  where
    values : (i : ℕ) (t : NTy) → at_distance (s ∷ c.values) i ≡ Ok t → IsExpressionOf ms (without_joins c) ((value_alone a).values i) (substituted_type (value_alone a).types t)
    values zero t p = subst (IsExpressionOf ms (without_joins c) a) (ok_ok p ∙ sym (variables_for_themselves t)) (h, atom)
    values (suc i) t p = local_itself ms c i t p

pub types_at_a_value : TypesAtAValue
types_at_a_value ms closed c s a h atom e t typed =
    subst (λ x. HasType ms c (replaced (value_alone a) e) x) (variables_for_themselves t)
    (replacement_keeps_types ms closed (with_value s c) c (value_alone a) (at_a_value_fits ms c s a h atom) e t typed)

at_a_coercion_fits : (ms : Modules) (c : Context) (p : Ends) (g : NCo) → IsCoercionProving ms c g p → Fits ms (with_coercion p c) c (coercion_alone g)
at_a_coercion_fits ms c p g h = record {
  kinds = λ i k a. kind_variable a;
  lifted = λ i. refl;
  saturated = λ i n. refl;
  coercions = coercions;
  values = local_itself ms c;
  joins = join_in_place c;
}
  where
    coercions : (i : ℕ) (e : Ends) → at_distance (p ∷ c.coercions) i ≡ Ok e → IsCoercionProving ms c ((coercion_alone g).coercions i) (substituted_ends (coercion_alone g).types e)
    coercions zero e a = subst (IsCoercionProving ms c g) (ok_ok a ∙ sym (ends_themselves e)) h
    coercions (suc i) e a = coercion_itself ms c i e a

pub types_at_a_coercion : TypesAtACoercion
types_at_a_coercion ms closed c p g h e t typed =
    subst (λ x. HasType ms c (replaced (coercion_alone g) e) x) (variables_for_themselves t)
    (replacement_keeps_types ms closed (with_coercion p c) c (coercion_alone g) (at_a_coercion_fits ms c p g h) e t typed)
