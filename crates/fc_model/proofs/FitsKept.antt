-- A replacement that fits from one context to another fits behind binders, binds and join points.
use Rattle.std.proofs.Common.{◌≡◌, ℕ, zero, suc, true, List, [], ◌∷◌, map, Ok, refl, sym, ap, ◌∙◌, subst}
use Rattle.fc_syntax.specs.declared.ty.Role.{Role}
use Rattle.fc_syntax.specs.Tree.{Kind}
use Rattle.fc_model.specs.Calling.{is_unlifted}
use Rattle.fc_model.specs.Coercing.{Ends, shifted_ends}
use Rattle.fc_model.specs.CoercingRules.{Proves}
use Rattle.fc_model.specs.CoercionLaws.{TypesFit, substituted_ends}
use Rattle.fc_model.specs.Faulting.{at_distance}
use Rattle.fc_model.specs.Kinding.{Modules}
use Rattle.fc_model.specs.Nameless.{NTy, NCo, NBinder, NBValue, NBType, NBCo, NBinds, NoNBinds, MoreNBinds, NBound, NJoins, NoNJoins, MoreNJoins, NJoined}
use Rattle.fc_model.specs.Replacing.{Standing, StandingCoercion, Replacement, below_binder, below_binders, below_joins, below_values, bind_count, coercions_below, join_count}
use Rattle.fc_model.specs.Replacing.{put_in_binds, put_in_coercion, put_in_joins, replaced_binder, replaced_binders}
use Rattle.fc_model.specs.Substituting.{renaming_below, shifted_type, substituted_type, types_below}
use Rattle.fc_model.specs.Typing.{Context, JoinPoint, is_atom, join_point, shifted_join, with_binder, with_binders, with_binds, with_coercion, with_join, with_joins, with_type}
use Rattle.fc_model.specs.Typing.{with_value, without_joins}
use Rattle.fc_model.specs.TypingLaws.{FitsBy, substituted_join}
use Rattle.fc_model.specs.TypingRules.{HasType}
use Rattle.fc_model.proofs.CallsKept.{are_lifted_below, binder_length_kept, binders_to_kept}
use Rattle.fc_model.proofs.EndsKept.{mapped, mapped_inv, shifted_ends_below, types_fit_below}
use Rattle.fc_model.proofs.Parts.{err_ok, ok_ok}
use Rattle.fc_model.proofs.Substitutions.{shifted_below}

-- What judgements of what stands in place of variables have to say. What stands in place of a variable is an expression of its type, an
-- atom where the type is unlifted; what stands in place of coercion variables lets a coercion prove what it did; both remain so past
-- binders, and what a coercion proves does not rest on variables of values and join points.
pub record Stand {V W : Type 0} (ms : Modules) (how : Standing V) (proofs : StandingCoercion W) (Proof : Context → W → Ends → Type 0)
    (IsOf : Context → V → NTy → Type 0) : Type 0 where
  pub typed : (d : Context) (v : V) (t : NTy) → IsOf (without_joins d) v t → HasType ms d (how.expression v) t
  pub atom : (d : Context) (v : V) (t : NTy) → IsOf (without_joins d) v t → is_unlifted t ≡ true → is_atom (how.expression v) ≡ true
  pub innermost : (d : Context) (t : NTy) → IsOf (without_joins (with_value t d)) how.innermost t
  pub past_value : (d : Context) (s : NTy) (v : V) (t : NTy) → IsOf (without_joins d) v t → IsOf (without_joins (with_value s d)) (how.past_value v) t
  pub past_type : (d : Context) (k : Kind) (v : V) (t : NTy) → IsOf (without_joins d) v t → IsOf (without_joins (with_type k d)) (how.past_type v) (shifted_type t)
  pub past_coercion : (d : Context) (p : Ends) (v : V) (t : NTy) → IsOf (without_joins d) v t → IsOf (without_joins (with_coercion p d)) (how.past_coercion v) t
  pub past_join : (d : Context) (v : V) (t : NTy) → IsOf (without_joins d) v t → IsOf (without_joins d) (how.past_join v) t
  pub proves : (c d : Context) (s : ℕ → NTy) (r : ℕ → W) → TypesFit ms c.kinds d.kinds s
      → ((i : ℕ) (e : Ends) → at_distance c.coercions i ≡ Ok e → Proof d (r i) (substituted_ends s e))
      → (g : NCo) (o : Role) (t u : NTy) → Proves ms c.kinds c.coercions g o t u
      → Proves ms d.kinds d.coercions (put_in_coercion proofs s r g) o (substituted_type s t) (substituted_type s u)
  pub proof_elsewhere : (d : Context) (vs : List NTy) (js : List JoinPoint) (w : W) (e : Ends) → Proof d w e → Proof (record d { values = vs; joins = js }) w e
  pub innermost_proof : (d : Context) (e : Ends) → Proof (with_coercion e d) proofs.innermost e
  pub proof_past_type : (d : Context) (k : Kind) (w : W) (e : Ends) → Proof d w e → Proof (with_type k d) (proofs.past_type w) (shifted_ends e)
  pub proof_past_coercion : (d : Context) (p : Ends) (w : W) (e : Ends) → Proof d w e → Proof (with_coercion p d) (proofs.past_coercion w) e

module _ {V W : Type 0} {ms : Modules} {how : Standing V} {proofs : StandingCoercion W} {Proof : Context → W → Ends → Type 0} {IsOf : Context → V → NTy → Type 0}
    (stand : Stand ms how proofs Proof IsOf) where
  pub types_fit : (c d : Context) (r : Replacement V W) → FitsBy ms Proof IsOf c d r → TypesFit ms c.kinds d.kinds r.types
  types_fit c d r f = record { kinds = f.kinds; saturated = f.saturated }

  -- coercions in place of coercion variables, where the others are other variables and join points
  proofs_elsewhere : (c d : Context) (r : Replacement V W) → FitsBy ms Proof IsOf c d r → (vs : List NTy) (js : List JoinPoint)
      → (i : ℕ) (e : Ends) → at_distance c.coercions i ≡ Ok e → Proof (record d { values = vs; joins = js }) (r.coercions i) (substituted_ends r.types e)
  proofs_elsewhere c d r f vs js i e h = stand.proof_elsewhere d vs js (r.coercions i) (substituted_ends r.types e) (f.coercions i e h)

  -- where no join point is in reach
  pub fits_without_joins : (c d : Context) (r : Replacement V W) → FitsBy ms Proof IsOf c d r → FitsBy ms Proof IsOf (without_joins c) (without_joins d) r
  fits_without_joins c d r f = record {
    kinds = f.kinds;
    lifted = f.lifted;
    saturated = f.saturated;
    coercions = proofs_elsewhere c d r f d.values [];
    values = f.values;
    joins = λ i j h. err_ok h;
  }

  pub fits_value : (c d : Context) (r : Replacement V W) → FitsBy ms Proof IsOf c d r → (t : NTy)
      → FitsBy ms Proof IsOf (with_value t c) (with_value (substituted_type r.types t) d) (below_values how proofs 1 r)
  fits_value c d r f t = record {
    kinds = f.kinds;
    lifted = f.lifted;
    saturated = f.saturated;
    coercions = proofs_elsewhere c d r f (substituted_type r.types t ∷ d.values) d.joins;
    values = here;
    joins = f.joins;
  }
    where
      here : (i : ℕ) (u : NTy) → at_distance (t ∷ c.values) i ≡ Ok u
          → IsOf (without_joins (with_value (substituted_type r.types t) d)) ((below_values how proofs 1 r).values i) (substituted_type r.types u)
      here zero u h =
          subst (λ x. IsOf (without_joins (with_value (substituted_type r.types t) d)) how.innermost (substituted_type r.types x)) (ok_ok h)
          (stand.innermost d (substituted_type r.types t))
      here (suc i) u h = stand.past_value d (substituted_type r.types t) (r.values i) (substituted_type r.types u) (f.values i u h)

  pub fits_type : (c d : Context) (r : Replacement V W) → FitsBy ms Proof IsOf c d r → (k : Kind)
      → FitsBy ms Proof IsOf (with_type k c) (with_type k d) (below_binder how proofs (NBType k) r)
  fits_type c d r f k = record {
    kinds = below.kinds;
    lifted = are_lifted_below r.types f.lifted;
    saturated = below.saturated;
    coercions = proved;
    values = here;
    joins = there;
  }
    where
      below : TypesFit ms (k ∷ c.kinds) (k ∷ d.kinds) (types_below r.types)
      below = types_fit_below ms c.kinds d.kinds r.types (types_fit c d r f) k

      past : (t : NTy) → shifted_type (substituted_type r.types t) ≡ substituted_type (types_below r.types) (shifted_type t)
      past t = sym (shifted_below r.types t)

      proved : (i : ℕ) (e : Ends) → at_distance (map shifted_ends c.coercions) i ≡ Ok e
          → Proof (with_type k d) (proofs.past_type (r.coercions i)) (substituted_ends (types_below r.types) e)
      proved i e h =
          let p = mapped_inv shifted_ends c.coercions i e h in
          subst (Proof (with_type k d) (proofs.past_type (r.coercions i))) (shifted_ends_below r.types p.0 ∙ ap (substituted_ends (types_below r.types)) p.2)
          (stand.proof_past_type d k (r.coercions i) (substituted_ends r.types p.0) (f.coercions i p.0 p.1))

      here : (i : ℕ) (u : NTy) → at_distance (map shifted_type c.values) i ≡ Ok u
          → IsOf (without_joins (with_type k d)) (how.past_type (r.values i)) (substituted_type (types_below r.types) u)
      here i u h =
          let p = mapped_inv shifted_type c.values i u h in
          subst (IsOf (without_joins (with_type k d)) (how.past_type (r.values i))) (past p.0 ∙ ap (substituted_type (types_below r.types)) p.2)
          (stand.past_type d k (r.values i) (substituted_type r.types p.0) (f.values i p.0 p.1))

      there : (i : ℕ) (j : JoinPoint) → at_distance (map shifted_join c.joins) i ≡ Ok j
          → at_distance (map shifted_join d.joins) (r.joins i) ≡ Ok (substituted_join (types_below r.types) j)
      there i j h =
          let p = mapped_inv shifted_join c.joins i j h in
          let q = p.0 in
          let e : shifted_join (substituted_join r.types q) ≡ substituted_join (types_below r.types) (shifted_join q) = rw (past q.type, past q.result) refl in
          mapped shifted_join d.joins (r.joins i) (substituted_join r.types q) (f.joins i q p.1)
          ∙ ap (λ x. Ok x) (e ∙ ap (substituted_join (types_below r.types)) p.2)

  pub fits_coercion : (c d : Context) (r : Replacement V W) → FitsBy ms Proof IsOf c d r → (p : Ends)
      → FitsBy ms Proof IsOf (with_coercion p c) (with_coercion (substituted_ends r.types p) d) (below_binder how proofs (NBCo p.role p.left p.right) r)
  fits_coercion c d r f p = record {
    kinds = f.kinds;
    lifted = f.lifted;
    saturated = f.saturated;
    coercions = proved;
    values = λ i t h. stand.past_coercion d (substituted_ends r.types p) (r.values i) (substituted_type r.types t) (f.values i t h);
    joins = f.joins;
  }
    where
      proved : (i : ℕ) (e : Ends) → at_distance (p ∷ c.coercions) i ≡ Ok e
          → Proof (with_coercion (substituted_ends r.types p) d) (coercions_below proofs r.coercions i) (substituted_ends r.types e)
      proved zero e h =
          subst (λ x. Proof (with_coercion (substituted_ends r.types p) d) proofs.innermost (substituted_ends r.types x)) (ok_ok h)
          (stand.innermost_proof d (substituted_ends r.types p))
      proved (suc i) e h = stand.proof_past_coercion d (substituted_ends r.types p) (r.coercions i) (substituted_ends r.types e) (f.coercions i e h)

  pub fits_binder : (c d : Context) (r : Replacement V W) → FitsBy ms Proof IsOf c d r → (b : NBinder)
      → FitsBy ms Proof IsOf (with_binder b c) (with_binder (replaced_binder r.types b) d) (below_binder how proofs b r)
  fits_binder c d r f (NBValue t) = fits_value c d r f t
  fits_binder c d r f (NBType k) = fits_type c d r f k
  fits_binder c d r f (NBCo o t u) = fits_coercion c d r f (record { role = o; left = t; right = u })

  pub fits_binders : (bs : List NBinder) (c d : Context) (r : Replacement V W) → FitsBy ms Proof IsOf c d r
      → FitsBy ms Proof IsOf (with_binders bs c) (with_binders (replaced_binders r.types bs) d) (below_binders how proofs bs r)
  fits_binders [] c d r f = f
  fits_binders (b ∷ bs) c d r f = fits_binders bs (with_binder b c) (with_binder (replaced_binder r.types b) d) (below_binder how proofs b r) (fits_binder c d r f b)

  -- binds, the right sides of which are replaced in some way with the same types
  pub fits_binds : (bs : NBinds) (gs : ℕ → W) (vs : ℕ → V) (js : ℕ → ℕ) (c d : Context) (r : Replacement V W) → FitsBy ms Proof IsOf c d r
      → FitsBy ms Proof IsOf (with_binds bs c) (with_binds (put_in_binds how proofs (record { types = r.types; coercions = gs; values = vs; joins = js }) bs) d)
      (below_values how proofs (bind_count bs) r)
  fits_binds NoNBinds gs vs js c d r f = f
  fits_binds (MoreNBinds (NBound t e) rest) gs vs js c d r f =
      fits_binds rest gs vs js (with_value t c) (with_value (substituted_type r.types t) d) (below_values how proofs 1 r) (fits_value c d r f t)

  pub fits_join : (c d : Context) (r : Replacement V W) → FitsBy ms Proof IsOf c d r → (j : JoinPoint)
      → FitsBy ms Proof IsOf (with_join j c) (with_join (substituted_join r.types j) d) (below_joins how proofs 1 r)
  fits_join c d r f j = record {
    kinds = f.kinds;
    lifted = f.lifted;
    saturated = f.saturated;
    coercions = proofs_elsewhere c d r f d.values (substituted_join r.types j ∷ d.joins);
    values = λ i t h. stand.past_join d (r.values i) (substituted_type r.types t) (f.values i t h);
    joins = here;
  }
    where
      here : (i : ℕ) (k : JoinPoint) → at_distance (j ∷ c.joins) i ≡ Ok k
          → at_distance (substituted_join r.types j ∷ d.joins) (renaming_below r.joins i) ≡ Ok (substituted_join r.types k)
      here zero k h = ap (λ x. Ok (substituted_join r.types x)) (ok_ok h)
      here (suc i) k h = f.joins i k h

  pub join_point_kept : (s : ℕ → NTy) (t : NTy) (ps : List NBinder) → substituted_join s (join_point t ps) ≡ join_point (substituted_type s t) (replaced_binders s ps)
  join_point_kept s t ps = rw (binder_length_kept s ps, binders_to_kept s ps t) refl

  pub fits_joins : (t : NTy) (bs : NJoins) (gs : ℕ → W) (vs : ℕ → V) (js : ℕ → ℕ) (c d : Context) (r : Replacement V W) → FitsBy ms Proof IsOf c d r
      → FitsBy ms Proof IsOf (with_joins t bs c)
      (with_joins (substituted_type r.types t) (put_in_joins how proofs (record { types = r.types; coercions = gs; values = vs; joins = js }) bs) d)
      (below_joins how proofs (join_count bs) r)
  fits_joins t NoNJoins gs vs js c d r f = f
  fits_joins t (MoreNJoins (NJoined ps e) rest) gs vs js c d r f =
      let g =
      subst (λ j. FitsBy ms Proof IsOf (with_join (join_point t ps) c) (with_join j d) (below_joins how proofs 1 r)) (join_point_kept r.types t ps)
      (fits_join c d r f (join_point t ps))
      in
      fits_joins t rest gs vs js (with_join (join_point t ps) c) (with_join (join_point (substituted_type r.types t) (replaced_binders r.types ps)) d)
      (below_joins how proofs 1 r) g
