-- Arguments in place of the variables of binders that stand together.
use Rattle.std.proofs.Common.{◌≡◌, ℕ, zero, suc, Bool, true, false, not, ◌||◌, List, [], ◌∷◌, length, map, Ok, refl, sym, ap, ◌∙◌, subst, arith}
use Rattle.fc_syntax.specs.declared.ty.Role.{Role}
use Rattle.fc_syntax.specs.Tree.{Kind}
use Rattle.fc_model.specs.Calling.{Given, GivenTerm, GivenType, GivenCoercion, Takes, takes_nothing, takes_term, takes_type, takes_coercion, atom_fits, binders_to, is_unlifted}
use Rattle.fc_model.specs.Calling.{over_binders, type_count}
use Rattle.fc_model.specs.Coercing.{Ends, ends, shifted_ends}
use Rattle.fc_model.specs.CoercionLaws.{IsSaturated, substituted_ends}
use Rattle.fc_model.specs.Faulting.{at_distance}
use Rattle.fc_model.specs.Kinding.{Modules, HasKind, kind_variable, is_lifted}
use Rattle.fc_model.specs.Nameless.{NTy, NTFun, NTForall, NTCoForall, NCo, NExpr, NATerm, NAType, NACo, NArgs, NBinder, NBValue, NBType, NBCo}
use Rattle.fc_model.specs.Replacing.{Substitution, coercion_before, replaced, unchanged, value_before, with_argument, with_arguments}
use Rattle.fc_model.specs.Substituting.{instantiated, raised_type, shifted_type, substituted_type, type_before, type_for_innermost, types_below}
use Rattle.fc_model.specs.Typing.{Context, JoinPoint, is_atom, kinds_behind, shifted_join, with_binders, with_coercion, with_type, with_value, without_joins}
use Rattle.fc_model.specs.TypingLaws.{ArgumentsFit, Fits, IsCoercionProving, IsExpressionOf, TypesAtArguments, substituted_join}
use Rattle.fc_model.specs.TypingRules.{given_term, given_type, given_coercion, ArgsAreGiven, no_args, one_arg, BinderIsKinded, type_binder, BindersAreKinded, one_binder, HasType}
use Rattle.fc_model.proofs.CallsKept.{raised_by_more, raised_by_nothing}
use Rattle.fc_model.proofs.EndsKept.{mapped_inv}
use Rattle.fc_model.proofs.EndsKinded.{kinded_is_saturated}
use Rattle.fc_model.proofs.Parts.{ok_ok}
use Rattle.fc_model.proofs.ReplacedKept.{coercion_itself, join_in_place, kind_says_lifted, local_itself, replacement_keeps_types}
use Rattle.fc_model.proofs.Substitutions.{equal_types, shifted_is_kept, substitutions_compose, types_for_renamed, variables_for_themselves}

-- TYPES BEFORE OTHERS

-- past the innermost variable, what stands for it does not count
pub type_past : (u : NTy) (s : ℕ → NTy) (t : NTy) → substituted_type (type_before u s) (shifted_type t) ≡ substituted_type s t
type_past u s t = types_for_renamed suc (type_before u s) t

innermost_before : (u : NTy) (s : ℕ → NTy) (i : ℕ) → instantiated u (types_below s i) ≡ type_before u s i
innermost_before u s zero = refl
innermost_before u s (suc i) = shifted_is_kept u (s i)

-- a type for the innermost variable and others for the others, at once
pub instantiated_before : (u : NTy) (s : ℕ → NTy) (t : NTy) → instantiated u (substituted_type (types_below s) t) ≡ substituted_type (type_before u s) t
instantiated_before u s t = substitutions_compose (types_below s) (type_for_innermost u) t ∙ equal_types (innermost_before u s) t

-- WHAT TAKES ARGUMENTS

pub nothing_taken : {t u : NTy} → Takes t [] u → u ≡ t
nothing_taken takes_nothing = refl

pub term_taken : {a b t u : NTy} {atom : Bool} {gs : List Given} → Takes (NTFun a b) (GivenTerm t atom ∷ gs) u → (t ≡ a) × (atom_fits a atom ≡ true) × Takes b gs u
term_taken (takes_term fits rest) = (refl, fits, rest)

pub type_taken : {b t u : NTy} {j k : Kind} {gs : List Given} → Takes (NTForall j b) (GivenType t k ∷ gs) u → (k ≡ j) × Takes (instantiated t b) gs u
type_taken (takes_type rest) = (refl, rest)

pub coercion_taken : {a b c t u v : NTy} {o q : Role} {gs : List Given} → Takes (NTCoForall o a b c) (GivenCoercion q t u ∷ gs) v → (ends q t u ≡ ends o a b) × Takes c gs v
coercion_taken (takes_coercion rest) = (refl, rest)

atom_at_int : (i a : Bool) → not i || a ≡ true → i ≡ true → a ≡ true
atom_at_int true a h e = h
atom_at_int false a h e = absurd cc

module _ (ms : Modules) (owes : Bool) where
  pub binder_rest : {ks : List Kind} {b : NBinder} {bs : List NBinder} → BindersAreKinded ms owes ks (b ∷ bs) → BindersAreKinded ms owes (kinds_behind b ks) bs
  binder_rest (one_binder p rest) = rest

  pub binder_first : {ks : List Kind} {b : NBinder} {bs : List NBinder} → BindersAreKinded ms owes ks (b ∷ bs) → BinderIsKinded ms owes ks b
  binder_first (one_binder p rest) = p

  pub lifted_binder : {ks : List Kind} {k : Kind} → BinderIsKinded ms owes ks (NBType k) → is_lifted k ≡ true
  lifted_binder (type_binder l) = l

  -- ONE ARGUMENT

  pub term_fits : (c d : Context) (r : Substitution) → Fits ms c d r → (t : NTy) (e : NExpr) → HasType ms (without_joins d) e (substituted_type r.types t)
      → atom_fits (substituted_type r.types t) (is_atom e) ≡ true → Fits ms (with_value t c) d (with_argument (NATerm e) r)
  term_fits c d r f t e h fits = record {
    kinds = f.kinds;
    lifted = f.lifted;
    saturated = f.saturated;
    coercions = f.coercions;
    values = values;
    joins = f.joins;
  }
    where
      values : (i : ℕ) (u : NTy) → at_distance (t ∷ c.values) i ≡ Ok u → IsExpressionOf ms (without_joins d) (value_before e r.values i) (substituted_type r.types u)
      values zero u a =
          subst (λ x. IsExpressionOf ms (without_joins d) e (substituted_type r.types x)) (ok_ok a) (h, atom_at_int (is_unlifted (substituted_type r.types t)) (is_atom e) fits)
      values (suc i) u a = f.values i u a

  pub type_fits : (c d : Context) (r : Substitution) → Fits ms c d r → (k : Kind) (u : NTy) → HasKind ms d.kinds u k → is_lifted k ≡ true
      → Fits ms (with_type k c) d (with_argument (NAType u) r)
  type_fits c d r f k u h l = record { kinds = kinds; lifted = lifted; saturated = saturated; coercions = coercions; values = values; joins = joins }
    where
      kinds : (i : ℕ) (j : Kind) → at_distance (k ∷ c.kinds) i ≡ Ok j → HasKind ms d.kinds (type_before u r.types i) j
      kinds zero j a = subst (HasKind ms d.kinds u) (ok_ok a) h
      kinds (suc i) j a = f.kinds i j a

      lifted : (i : ℕ) → is_unlifted (type_before u r.types i) ≡ false
      lifted zero = kind_says_lifted ms d.kinds k u l h
      lifted (suc i) = f.lifted i

      saturated : (i : ℕ) → IsSaturated ms (type_before u r.types i)
      saturated zero = kinded_is_saturated ms d.kinds u k h
      saturated (suc i) = f.saturated i

      coercions : (i : ℕ) (e : Ends) → at_distance (map shifted_ends c.coercions) i ≡ Ok e → IsCoercionProving ms d (r.coercions i) (substituted_ends (type_before u r.types) e)
      coercions i e a =
          let p = mapped_inv shifted_ends c.coercions i e a in
          let q = p.0 in
          let past : substituted_ends (type_before u r.types) (shifted_ends q) ≡ substituted_ends r.types q = rw (type_past u r.types q.left, type_past u r.types q.right) refl in
          subst (IsCoercionProving ms d (r.coercions i)) (sym past ∙ ap (substituted_ends (type_before u r.types)) p.2) (f.coercions i q p.1)

      values : (i : ℕ) (t : NTy) → at_distance (map shifted_type c.values) i ≡ Ok t → IsExpressionOf ms (without_joins d) (r.values i) (substituted_type (type_before u r.types) t)
      values i t a =
          let p = mapped_inv shifted_type c.values i t a in
          subst (IsExpressionOf ms (without_joins d) (r.values i)) (sym (type_past u r.types p.0) ∙ ap (substituted_type (type_before u r.types)) p.2) (f.values i p.0 p.1)

      joins : (i : ℕ) (j : JoinPoint) → at_distance (map shifted_join c.joins) i ≡ Ok j → at_distance d.joins (r.joins i) ≡ Ok (substituted_join (type_before u r.types) j)
      joins i j a =
          let p = mapped_inv shifted_join c.joins i j a in
          let q = p.0 in
          let past : substituted_join (type_before u r.types) (shifted_join q) ≡ substituted_join r.types q = rw (type_past u r.types q.type, type_past u r.types q.result) refl in
          f.joins i q p.1 ∙ ap (λ x. Ok x) (sym past ∙ ap (substituted_join (type_before u r.types)) p.2)

  pub coercion_fits : (c d : Context) (r : Substitution) → Fits ms c d r → (p : Ends) (g : NCo) → IsCoercionProving ms d g (substituted_ends r.types p)
      → Fits ms (with_coercion p c) d (with_argument (NACo g) r)
  coercion_fits c d r f p g h = record {
    kinds = f.kinds;
    lifted = f.lifted;
    saturated = f.saturated;
    coercions = coercions;
    values = f.values;
    joins = f.joins;
  }
    where
      coercions : (i : ℕ) (e : Ends) → at_distance (p ∷ c.coercions) i ≡ Ok e → IsCoercionProving ms d (coercion_before g r.coercions i) (substituted_ends r.types e)
      coercions zero e a = subst (λ x. IsCoercionProving ms d g (substituted_ends r.types x)) (ok_ok a) h
      coercions (suc i) e a = f.coercions i e a

  -- ALL ARGUMENTS

  all_fit : (bs : List NBinder) (c d : Context) (r : Substitution) → Fits ms c d r → BindersAreKinded ms owes c.kinds bs → (args : NArgs) (gs : List Given)
      → ArgsAreGiven ms (without_joins d) args gs → length gs ≡ length bs → (s u : NTy) → Takes (substituted_type r.types (binders_to bs s)) gs u
      → Fits ms (with_binders bs c) d (with_arguments args r) × (u ≡ substituted_type r.types s)
      × (substituted_type (with_arguments args r).types (raised_type (type_count bs) s) ≡ substituted_type r.types s)
  all_fit [] c d r f b args gs no_args long s u takes =
      let same = ap (substituted_type r.types) (raised_by_nothing s) in
      (f, nothing_taken takes ∙ same, same)
  all_fit [] c d r f b args gs (one_arg p more) long s u takes = absurd (omega (arith, long))
  all_fit (x ∷ bs) c d r f b args gs no_args long s u takes = absurd (omega (arith, long))
  all_fit (NBValue t ∷ bs) c d r f b args gs (one_arg {rest = rest} {gs = hs} (given_term {e = e} {t = v} p) more) long s u takes =
      let q = term_taken takes in
      let typed = subst (λ x. HasType ms (without_joins d) e x) q.0 p in
      let one = term_fits c d r f t e typed q.1 in
      let shorter : length hs ≡ length bs = omega (arith, long) in
      all_fit bs (with_value t c) d (with_argument (NATerm e) r) one (binder_rest b) rest hs more shorter s u q.2
  all_fit (NBValue t ∷ bs) c d r f b args gs (one_arg (given_type p) more) long s u takes = elim takes [ ]
  all_fit (NBValue t ∷ bs) c d r f b args gs (one_arg (given_coercion p) more) long s u takes = elim takes [ ]
  all_fit (NBType k ∷ bs) c d r f b args gs (one_arg (given_term p) more) long s u takes = elim takes [ ]
  all_fit (NBType k ∷ bs) c d r f b args gs (one_arg (given_coercion p) more) long s u takes = elim takes [ ]
  all_fit (NBType k ∷ bs) c d r f b args gs (one_arg {rest = rest} {gs = hs} (given_type {t = v} {k = j} p) more) long s u takes =
      let q = type_taken takes in
      let kinded = subst (HasKind ms d.kinds v) q.0 p in
      let one = type_fits c d r f k v kinded (lifted_binder (binder_first b)) in
      let shorter : length hs ≡ length bs = omega (arith, long) in
      let more_types = raised_type (suc (type_count bs)) s in
      let e : instantiated v (substituted_type (types_below r.types) (over_binders bs more_types)) ≡ substituted_type (type_before v r.types) (binders_to bs (shifted_type s)) =
      instantiated_before v r.types (over_binders bs more_types) ∙ ap (λ x. substituted_type (type_before v r.types) (over_binders bs x)) (raised_by_more (type_count bs) s) in
      let all = all_fit bs (with_type k c) d (with_argument (NAType v) r) one (binder_rest b) rest hs more shorter (shifted_type s) u (subst (λ x. Takes x hs u) e q.1) in (
        all.0,
        all.1 ∙ type_past v r.types s,
        ap (substituted_type (with_arguments rest (with_argument (NAType v) r)).types) (raised_by_more (type_count bs) s) ∙ all.2 ∙ type_past v r.types s,
      )
  all_fit (NBCo o t v ∷ bs) c d r f b args gs (one_arg (given_term p) more) long s u takes = elim takes [ ]
  all_fit (NBCo o t v ∷ bs) c d r f b args gs (one_arg (given_type p) more) long s u takes = elim takes [ ]
  all_fit (NBCo o t v ∷ bs) c d r f b args gs (one_arg {rest = rest} {gs = hs} (given_coercion {g = g} {r = q} {s = x} {t = y} p) more) long s u takes =
      let taken = coercion_taken takes in
      let one = coercion_fits c d r f (ends o t v) g (subst (IsCoercionProving ms d g) taken.0 p) in
      let shorter : length hs ≡ length bs = omega (arith, long) in
      all_fit bs (with_coercion (ends o t v) c) d (with_argument (NACo g) r) one (binder_rest b) rest hs more shorter s u taken.1

pub arguments_fit : ArgumentsFit
arguments_fit ms owes bs c d r f b args gs given long s u takes = all_fit ms owes bs c d r f b args gs given long s u takes

pub unchanged_fits : (ms : Modules) (c : Context) → Fits ms c c unchanged
unchanged_fits ms c = record {
  kinds = λ i k h. kind_variable h;
  lifted = λ i. refl;
  saturated = λ i n. refl;
  coercions = coercion_itself ms c;
  values = local_itself ms c;
  joins = join_in_place c;
}

pub types_at_arguments : TypesAtArguments
types_at_arguments ms closed owes bs c b args gs given long s u takes e h =
    let same : binders_to bs s ≡ substituted_type unchanged.types (binders_to bs s) = sym (variables_for_themselves (binders_to bs s)) in
    let f = arguments_fit ms owes bs c c unchanged (unchanged_fits ms c) b args gs given long s u (subst (λ x. Takes x gs u) same takes) in
    let back : substituted_type (with_arguments args unchanged).types (raised_type (type_count bs) s) ≡ s = f.2 ∙ variables_for_themselves s in
    subst (λ x. HasType ms c (replaced (with_arguments args unchanged) e) x) back
    (replacement_keeps_types ms closed (with_binders bs c) c (with_arguments args unchanged) f.0 e (raised_type (type_count bs) s) h)
