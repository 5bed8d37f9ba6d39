-- Coercions and types in place of variables keep what a coercion proves.
use Rattle.std.proofs.Common.{◌≡◌, ◌∙◌, ℕ, suc, List, ◌∷◌, map, Ok, refl, sym, ap, subst, subst₂}
use Rattle.fc_syntax.specs.declared.ty.Role.{Role}
use Rattle.fc_syntax.specs.Tree.{Kind}
use Rattle.fc_model.specs.Coercing.{Ends, ends, shifted_ends}
use Rattle.fc_model.specs.CoercingRules.{ProveAll, no_coercions, one_coercion}
use Rattle.fc_model.specs.CoercingRules.{Proves, proves_variable, proves_refl, proves_sym, proves_trans, proves_declared, proves_application, proves_function}
use Rattle.fc_model.specs.CoercingRules.{proves_forall, proves_coforall, proves_instance, proves_part, proves_left, proves_right, proves_sub, proves_axiom, proves_universally}
use Rattle.fc_model.specs.CoercionLaws.{AreAxiomsClosed, CoercionRenamingKeepsEnds, CoercionReplacementKeepsEnds, TypesFit, substituted_ends}
use Rattle.fc_model.specs.Faulting.{at_distance}
use Rattle.fc_model.specs.Kinding.{Modules, HasKind, kind_variable}
use Rattle.fc_model.specs.Nameless.{NTy, NTVar, NTCon, NCo, NGTc, NGInst, NGAx, NCos}
use Rattle.fc_model.specs.Replacing.{StandingCoercion, coercion_variables, put_in_coercion, put_in_coercions, renamed_coercion, whole_coercions}
use Rattle.fc_model.specs.Substituting.{substituted_type, types_below}
use Rattle.fc_model.proofs.EndsJudged.{kinds_length}
use Rattle.fc_model.proofs.EndsKept.{applied_lefts_kept, applied_rights_kept, family_kept, kind_kept, kinds_kept, left_side_kept, mapped, mapped_inv, parts_kept}
use Rattle.fc_model.proofs.EndsKept.{right_side_kept, roles_kept, shifted_ends_below, types_fit_below}
use Rattle.fc_model.proofs.Substitutions.{instantiated_within, renamed_is_substituted}

-- What a judgement of what stands in place of coercion variables has to say: it is a coercion that proves this, and does so past a binder of
-- a type.
pub record StandProving {W : Type 0} (ms : Modules) (how : StandingCoercion W) (IsProof : List Kind → List Ends → W → Ends → Type 0) : Type 0 where
  pub proves : (ls : List Kind) (ds : List Ends) (w : W) (e : Ends) → IsProof ls ds w e → Proves ms ls ds (how.coercion w) e.role e.left e.right
  pub past_type : (ls : List Kind) (ds : List Ends) (k : Kind) (w : W) (e : Ends) → IsProof ls ds w e
      → IsProof (k ∷ ls) (map shifted_ends ds) (how.past_type w) (shifted_ends e)

-- what stands in place of each coercion variable proves the same
pub record ProofsFit {W : Type 0} (IsProof : List Kind → List Ends → W → Ends → Type 0) (ls : List Kind) (cs ds : List Ends) (s : ℕ → NTy) (r : ℕ → W) : Type 0 where
  pub proof : (i : ℕ) (e : Ends) → at_distance cs i ≡ Ok e → IsProof ls ds (r i) (substituted_ends s e)

module _ {W : Type 0} (ms : Modules) (closed : AreAxiomsClosed ms) (how : StandingCoercion W) (IsProof : List Kind → List Ends → W → Ends → Type 0)
    (stand : StandProving ms how IsProof) where
  -- so it does below a binder of a type
  proofs_fit_below : (ls : List Kind) (cs ds : List Ends) (s : ℕ → NTy) (r : ℕ → W) → ProofsFit IsProof ls cs ds s r → (k : Kind)
      → ProofsFit IsProof (k ∷ ls) (map shifted_ends cs) (map shifted_ends ds) (types_below s) (λ i. how.past_type (r i))
  proofs_fit_below ls cs ds s r proofs k = record { proof = here }
    where
      here : (i : ℕ) (e : Ends) → at_distance (map shifted_ends cs) i ≡ Ok e → IsProof (k ∷ ls) (map shifted_ends ds) (how.past_type (r i)) (substituted_ends (types_below s) e)
      here i e at =
          let p = mapped_inv shifted_ends cs i e at in
          subst (λ x. IsProof (k ∷ ls) (map shifted_ends ds) (how.past_type (r i)) x) (shifted_ends_below s p.0 ∙ ap (substituted_ends (types_below s)) p.2)
          (stand.past_type ls ds k (r i) (substituted_ends s p.0) (proofs.proof i p.0 p.1))

  mutual
    pub coercion_kept : {ks ls : List Kind} {cs ds : List Ends} {s : ℕ → NTy} {r : ℕ → W} → TypesFit ms ks ls s → ProofsFit IsProof ls cs ds s r
        → {g : NCo} {o : Role} {t u : NTy} → Proves ms ks cs g o t u → Proves ms ls ds (put_in_coercion how s r g) o (substituted_type s t) (substituted_type s u)
    coercion_kept {ls = ls} {ds = ds} {s = s} {r = r} fit proofs (proves_variable {i = i} {r = o} {s = t} {t = u} at) =
        stand.proves ls ds (r i) (substituted_ends s (ends o t u)) (proofs.proof i (ends o t u) at)
    coercion_kept fit proofs (proves_refl k h) = proves_refl k (kind_kept ms fit h)
    coercion_kept fit proofs (proves_sym p) = proves_sym (coercion_kept fit proofs p)
    coercion_kept fit proofs (proves_trans p q) = proves_trans (coercion_kept fit proofs p) (coercion_kept fit proofs q)
    coercion_kept {ls = ls} {ds = ds} {s = s} {r = r} fit proofs (proves_declared {r = o} {n = n} {gs = gs} es j k p roles a b) =
        let left = applied_lefts_kept s es (NTCon n) in
        let right = applied_rights_kept s es (NTCon n) in
        subst₂ (λ x y. Proves ms ls ds (put_in_coercion how s r (NGTc o n gs)) o x y) (sym left) (sym right)
        (proves_declared (map (substituted_ends s) es) j k (coercions_kept fit proofs p) (roles_kept s roles)
        (subst (λ x. HasKind ms ls x j) left (kind_kept ms fit a)) (subst (λ x. HasKind ms ls x k) right (kind_kept ms fit b)))
    coercion_kept fit proofs (proves_application j k p q role a b) =
        proves_application j k (coercion_kept fit proofs p) (coercion_kept fit proofs q) role (kind_kept ms fit a) (kind_kept ms fit b)
    coercion_kept fit proofs (proves_function j k p q role a b v c d w) =
        proves_function j k (coercion_kept fit proofs p) (coercion_kept fit proofs q) role (kind_kept ms fit a) (kind_kept ms fit b) v (kind_kept ms fit c) (kind_kept ms fit d) w
    coercion_kept {ks = ks} {ls = ls} {cs = cs} {ds = ds} {s = s} {r = r} fit proofs (proves_forall {k = k} p l a b) =
        let below = types_fit_below ms ks ls s fit k in
        proves_forall (coercion_kept below (proofs_fit_below ls cs ds s r proofs k) p) l (kind_kept ms below a) (kind_kept ms below b)
    coercion_kept fit proofs (proves_coforall i j k l p q n a b c v d e f w) =
        proves_coforall i j k l (coercion_kept fit proofs p) (coercion_kept fit proofs q) (coercion_kept fit proofs n)
        (kind_kept ms fit a) (kind_kept ms fit b) (kind_kept ms fit c) v (kind_kept ms fit d) (kind_kept ms fit e) (kind_kept ms fit f) w
    coercion_kept {ls = ls} {ds = ds} {s = s} {r = r} fit proofs (proves_instance {g = g} {h = h} {r = o} {s = t} {t = u} {u = v} {v = w} p q a b) =
        subst₂ (λ x y. Proves ms ls ds (put_in_coercion how s r (NGInst g h)) o x y) (sym (instantiated_within s v t)) (sym (instantiated_within s w u))
        (proves_instance (coercion_kept fit proofs p) (coercion_kept fit proofs q) (kind_kept ms fit a) (kind_kept ms fit b))
    coercion_kept {s = s} fit proofs (proves_part {i = i} {r = q} {o = o} {s = t} {t = u} {u = v} {v = w} es k p role parts at a b) =
        proves_part (map (substituted_ends s) es) k (coercion_kept fit proofs p) role (parts_kept ms s q t u es parts) (mapped (substituted_ends s) es i (ends o v w) at)
        (kind_kept ms fit a) (kind_kept ms fit b)
    coercion_kept {s = s} fit proofs (proves_left {s = t} {t = u} k p c d a b) =
        proves_left k (coercion_kept fit proofs p) (family_kept ms s fit.saturated 0 t ∙ c) (family_kept ms s fit.saturated 0 u ∙ d) (kind_kept ms fit a) (kind_kept ms fit b)
    coercion_kept {s = s} fit proofs (proves_right {s = t} {t = u} k p c d a b) =
        proves_right k (coercion_kept fit proofs p) (family_kept ms s fit.saturated 0 t ∙ c) (family_kept ms s fit.saturated 0 u ∙ d) (kind_kept ms fit a) (kind_kept ms fit b)
    coercion_kept fit proofs (proves_sub p) = proves_sub (coercion_kept fit proofs p)
    coercion_kept {ls = ls} {ds = ds} {s = s} {r = r} fit proofs (proves_axiom {n = n} {gs = gs} a es is p roles kinds) =
        let scoped = closed n a is in
        let long = kinds_length ms kinds in
        subst₂ (λ x y. Proves ms ls ds (put_in_coercion how s r (NGAx n gs)) a.ends.role x y)
        (sym (left_side_kept s _ es a.ends.left long scoped.0)) (sym (right_side_kept s _ es a.ends.right long scoped.1))
        (proves_axiom a (map (substituted_ends s) es) is (coercions_kept fit proofs p) (roles_kept s roles) (kinds_kept ms fit kinds))
    coercion_kept fit proofs (proves_universally k a b) = proves_universally k (kind_kept ms fit a) (kind_kept ms fit b)

    coercions_kept : {ks ls : List Kind} {cs ds : List Ends} {s : ℕ → NTy} {r : ℕ → W} → TypesFit ms ks ls s → ProofsFit IsProof ls cs ds s r
        → {gs : NCos} {es : List Ends} → ProveAll ms ks cs gs es → ProveAll ms ls ds (put_in_coercions how s r gs) (map (substituted_ends s) es)
    coercions_kept fit proofs no_coercions = no_coercions
    coercions_kept fit proofs (one_coercion p q) = one_coercion (coercion_kept fit proofs p) (coercions_kept fit proofs q)

-- VARIABLES IN PLACE OF VARIABLES

-- a variable that proves this
abbrev pub IsVariable : List Kind → List Ends → ℕ → Ends → Type 0
IsVariable ls ds i e = at_distance ds i ≡ Ok e

variables_stand : (ms : Modules) → StandProving ms coercion_variables IsVariable
variables_stand ms = record { proves = λ ls ds i e h. proves_variable h; past_type = λ ls ds k i e h. mapped shifted_ends ds i e h }

-- other coercion variables in place of those of a coercion
pub coercion_renaming_keeps_ends : CoercionRenamingKeepsEnds
coercion_renaming_keeps_ends ms closed ks ls cs ds s r fit proven g o t u h =
    coercion_kept ms closed coercion_variables IsVariable (variables_stand ms) fit (record { proof = proven }) h

-- COERCIONS IN PLACE OF VARIABLES

-- a coercion that proves this
abbrev pub IsCoercion : Modules → List Kind → List Ends → NCo → Ends → Type 0
IsCoercion ms ls ds g e = Proves ms ls ds g e.role e.left e.right

-- a coercion past a binder of a type
pub coercion_past_type : (ms : Modules) → AreAxiomsClosed ms → (ls : List Kind) (ds : List Ends) (k : Kind) (g : NCo) (e : Ends) → IsCoercion ms ls ds g e
    → IsCoercion ms (k ∷ ls) (map shifted_ends ds) (whole_coercions.past_type g) (shifted_ends e)
coercion_past_type ms closed ls ds k g e h =
    let renamed = renamed_coercion (λ i. NTVar (suc i)) (λ i. i) g in
    subst (λ x. IsCoercion ms (k ∷ ls) (map shifted_ends ds) renamed x) (sym (shifted_is_substituted e))
    (coercion_renaming_keeps_ends ms closed ls (k ∷ ls) ds (map shifted_ends ds) (λ i. NTVar (suc i)) (λ i. i)
    (record { kinds = λ i j at. kind_variable at; saturated = λ i n. refl })
    (λ i d at. mapped shifted_ends ds i d at ∙ ap (λ x. Ok x) (shifted_is_substituted d)) g e.role e.left e.right h)
  where
    shifted_is_substituted : (d : Ends) → shifted_ends d ≡ substituted_ends (λ i. NTVar (suc i)) d
    shifted_is_substituted d = rw (renamed_is_substituted suc d.left, renamed_is_substituted suc d.right) refl

coercions_stand : (ms : Modules) → AreAxiomsClosed ms → StandProving ms whole_coercions (IsCoercion ms)
coercions_stand ms closed = record { proves = λ ls ds g e h. h; past_type = coercion_past_type ms closed }

-- coercions in place of coercion variables
pub coercion_replacement_keeps_ends : CoercionReplacementKeepsEnds
coercion_replacement_keeps_ends ms closed ks ls cs ds s r fit proven g o t u h =
    coercion_kept ms closed whole_coercions (IsCoercion ms) (coercions_stand ms closed) fit (record { proof = proven }) h
