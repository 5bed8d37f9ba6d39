-- The types that a coercion relates have one kind.
use Rattle.std.proofs.Common.{◌≡◌, ◌∙◌, ◌<◌, ℕ, zero, suc, false, List, [], ◌∷◌, ◌++◌, length, reverse, Option, Some, None, Ok, nat_le, refl, sym, ap, subst}
use Rattle.std.proofs.Common.{append_assoc, append-nil, arith}
use Rattle.std.proofs.lemmas.Bool.Decides.{nat_tests}
use Rattle.std.proofs.lemmas.List.{reverse-append}
use Rattle.fc_syntax.specs.declared.ty.Role.{Role}
use Rattle.fc_syntax.specs.Tree.{Kind, KStar, KArrow}
use Rattle.fc_model.specs.Coercing.{Ends, applied_to, ends, lefts, rights}
use Rattle.fc_model.specs.CoercingRules.{AreOfKinds, no_kind, one_kind}
use Rattle.fc_model.specs.CoercingRules.{Proves, proves_variable, proves_refl, proves_sym, proves_trans, proves_declared, proves_application, proves_function}
use Rattle.fc_model.specs.CoercingRules.{proves_forall, proves_coforall, proves_instance, proves_part, proves_left, proves_right, proves_sub, proves_axiom, proves_universally}
use Rattle.fc_model.specs.CoercionLaws.{AreAxiomsKinded, AreEndsKinded, EndsHaveOneKind, HaveOneKind, KindedIsSaturated}
use Rattle.fc_model.specs.Kinding.{Modules, HasHeadKind, HasKind, kind_variable, kind_declared, kind_int, kind_application, kind_function, kind_forall, kind_coforall}
use Rattle.fc_model.specs.Kinding.{decl_kind, is_family_applied, is_family_of, type_decl}
use Rattle.fc_model.specs.Nameless.{NTy, NTVar, NTCon, NTApp, NTForall, NDecl, NData, NNew, NFamily, NAxiom, NDef, NWrap, NCo}
use Rattle.fc_model.specs.Substituting.{type_before, types_before}
use Rattle.fc_model.proofs.EndsJudged.{application_kinded}
use Rattle.fc_model.proofs.KindedIs.{kind_is_one}
use Rattle.fc_model.proofs.KindsKept.{HaveKinds, instantiating_keeps_kinds, more_arguments_keep_kinds, substitution_keeps_kinds}
use Rattle.fc_model.proofs.Parts.{err_ok, need_inv, ok_ok}

-- FAMILIES

-- what has a kind as the head of some arguments is no family that takes more
no_family_of_more : (d : Option NDecl) (args more : ℕ) (k : Kind) → args < more → decl_kind d args ≡ Ok k → is_family_of d more ≡ false
no_family_of_more (Some (NFamily n ps j)) args more k l h = let p = need_inv (nat_le (length ps) args) _ _ k h in grind (arith, nat_tests, p.0)
no_family_of_more (Some (NData n ps cs)) args more k l h = refl
no_family_of_more (Some (NNew n ps t con)) args more k l h = refl
no_family_of_more (Some (NAxiom n ps t u)) args more k l h = refl
no_family_of_more (Some (NDef n t e)) args more k l h = refl
no_family_of_more (Some (NWrap n t e)) args more k l h = refl
no_family_of_more None args more k l h = refl

no_family_applied : (ms : Modules) (ks : List Kind) (args more : ℕ) (t : NTy) (k : Kind) → args < more → HasHeadKind ms ks args t k → is_family_applied ms more t ≡ false
no_family_applied ms ks args more t k l (kind_variable h) = refl
no_family_applied ms ks args more t k l (kind_declared {n = n} h) = no_family_of_more (type_decl (ms n.module) n.text) args more k l h
no_family_applied ms ks args more t k l kind_int = refl
no_family_applied ms ks args more t k l (kind_application f a) = no_family_applied ms ks (suc args) (suc more) _ _ (omega arith) f
no_family_applied ms ks args more t k l (kind_function i j a b p q) = refl
no_family_applied ms ks args more t k l (kind_forall p b) = refl
no_family_applied ms ks args more t k l (kind_coforall i j a b c p) = refl

-- a type that has a kind is no family that takes more arguments
pub kinded_is_saturated : KindedIsSaturated
kinded_is_saturated ms ks t k h n = no_family_applied ms ks 0 (suc n) t k (omega arith) h

-- TYPES IN PLACE OF PARAMETERS

reverse_more : {X : Type 0} (x : X) (xs ys : List X) → reverse xs ++ x ∷ ys ≡ reverse (x ∷ xs) ++ ys
reverse_more x xs ys = sym (ap (λ l. l ++ ys) (reverse-append (x ∷ []) xs) ∙ append_assoc (reverse xs) (x ∷ []) ys)

kind_before : (ms : Modules) (ks ls : List Kind) (j : Kind) (t : NTy) (s : ℕ → NTy) → HasKind ms ls t j → HaveKinds ms ks ls s → HaveKinds ms (j ∷ ks) ls (type_before t s)
kind_before ms ks ls j t s h g zero k e = subst (HasKind ms ls t) (ok_ok e) h
kind_before ms ks ls j t s h g (suc i) k e = g i k e

-- both ends of coercions have the kinds of the parameters that they stand for, the last of which is the innermost
kinds_before : (ms : Modules) (ls ks js : List Kind) (es : List Ends) (s r : ℕ → NTy) → AreOfKinds ms ls js es → HaveKinds ms ks ls s → HaveKinds ms ks ls r
    → HaveKinds ms (reverse js ++ ks) ls (types_before (lefts es) s) × HaveKinds ms (reverse js ++ ks) ls (types_before (rights es) r)
kinds_before ms ls ks js es s r no_kind h g = (h, g)
kinds_before ms ls ks js es s r (one_kind {j = j} {js = more} {e = e} {es = rest} a b kinds) h g =
    let left = kind_before ms ks ls j e.left s a h in
    let right = kind_before ms ks ls j e.right r b g in
    let p = kinds_before ms ls (j ∷ ks) more rest (type_before e.left s) (type_before e.right r) kinds left right in
    let same = reverse_more j more ks in
    (subst (λ x. HaveKinds ms x ls (types_before (lefts es) s)) same p.0, subst (λ x. HaveKinds ms x ls (types_before (rights es) r)) same p.1)

-- nothing in place of no variable
none_have_kinds : (ms : Modules) (ls : List Kind) (s : ℕ → NTy) → HaveKinds ms [] ls s
none_have_kinds ms ls s i k e = err_ok e

module _ (ms : Modules) where
  -- PARTS OF TYPES

  pub forall_kinded : {ks : List Kind} {args : ℕ} {j k : Kind} {t : NTy} → HasHeadKind ms ks args (NTForall j t) k → HasHeadKind ms (j ∷ ks) 0 t KStar
  forall_kinded (kind_forall l h) = h

  -- types that have one kind as heads have one kind applied to as many others
  applied_alike : (ks : List Kind) (es : List Ends) (t u : NTy) → ((args : ℕ) (j k : Kind) → HasHeadKind ms ks args t j → HasHeadKind ms ks args u k → j ≡ k)
      → (args : ℕ) (j k : Kind) → HasHeadKind ms ks args (applied_to t (lefts es)) j → HasHeadKind ms ks args (applied_to u (rights es)) k → j ≡ k
  applied_alike ks [] t u same = same
  applied_alike ks (e ∷ es) t u same =
      applied_alike ks es (NTApp t e.left) (NTApp u e.right) (λ args j k a b.
      let p = application_kinded ms a in
      let q = application_kinded ms b in
      let heads : KArrow p.0 j ≡ KArrow q.0 k = same (suc args) (KArrow p.0 j) (KArrow q.0 k) p.1 q.1 in
      cc)

  -- two applications the heads of which have one kind have one kind
  applications_alike : (ks : List Kind) (s t u v : NTy) (j k : Kind) → HaveOneKind ms ks s t → HasKind ms ks (NTApp s u) j → HasKind ms ks (NTApp t v) k → j ≡ k
  applications_alike ks s t u v j k heads a b =
      let p = application_kinded ms a in
      let q = application_kinded ms b in
      let l = kind_is_one ms ks 1 s _ _ (more_arguments_keep_kinds ms ks 0 1 s heads.0 (omega arith) heads.1) p.1 in
      let r = kind_is_one ms ks 1 t _ _ (more_arguments_keep_kinds ms ks 0 1 t heads.0 (omega arith) heads.2) q.1 in
      cc

  -- COERCIONS

  ends_kinded : AreAxiomsKinded ms → (ks : List Kind) (cs : List Ends) → AreEndsKinded ms ks cs → (g : NCo) (r : Role) (s t : NTy) → Proves ms ks cs g r s t → HaveOneKind ms ks s t
  ends_kinded axioms ks cs kinded g r s t (proves_variable {i = i} h) = kinded i (ends r s t) h
  ends_kinded axioms ks cs kinded g r s t (proves_refl k h) = (k, h, h)
  ends_kinded axioms ks cs kinded g r s t (proves_sym f) = let p = ends_kinded axioms ks cs kinded _ r t s f in (p.0, p.2, p.1)
  ends_kinded axioms ks cs kinded g r s t (proves_trans {t = u} f h) =
      let p = ends_kinded axioms ks cs kinded _ r s u f in
      let q = ends_kinded axioms ks cs kinded _ r u t h in
      (p.0, p.1, subst (λ x. HasKind ms ks t x) (kind_is_one ms ks 0 u q.0 p.0 q.1 p.2) q.2)
  ends_kinded axioms ks cs kinded g r s t (proves_declared {n = n} es j k fs roles a b) =
      let same = applied_alike ks es (NTCon n) (NTCon n) (λ args x y c d. kind_is_one ms ks args (NTCon n) x y c d) 0 j k a b in
      (k, subst (λ x. HasKind ms ks (applied_to (NTCon n) (lefts es)) x) same a, b)
  ends_kinded axioms ks cs kinded g r s t (proves_application {s = w} {t = x} {u = u} {v = v} j k f h p a b) =
      let heads = ends_kinded axioms ks cs kinded _ r w x f in
      (k, subst (λ y. HasKind ms ks (NTApp w u) y) (applications_alike ks w x u v j k heads a b) a, b)
  ends_kinded axioms ks cs kinded g r s t (proves_function j k f h p a b v c d w) = (KStar, kind_function j k a c v w, kind_function j k b d v w)
  ends_kinded axioms ks cs kinded g r s t (proves_forall f l a b) = (KStar, kind_forall l a, kind_forall l b)
  ends_kinded axioms ks cs kinded g r s t (proves_coforall i j k l f h m a b c v d e x w) = (KStar, kind_coforall i k a b c v, kind_coforall j l d e x w)
  ends_kinded axioms ks cs kinded g r s t (proves_instance {k = k} {s = w} {t = x} {u = u} {v = v} f h a b) =
      let p = ends_kinded axioms ks cs kinded _ r (NTForall k w) (NTForall k x) f in
      (KStar, instantiating_keeps_kinds ms ks k KStar u w a (forall_kinded p.1), instantiating_keeps_kinds ms ks k KStar v x b (forall_kinded p.2))
  ends_kinded axioms ks cs kinded g r s t (proves_part es k f p parts at a b) = (k, a, b)
  ends_kinded axioms ks cs kinded g r s t (proves_left k f p q a b) = (k, a, b)
  ends_kinded axioms ks cs kinded g r s t (proves_right k f p q a b) = (k, a, b)
  ends_kinded axioms ks cs kinded g r s t (proves_sub f) = ends_kinded axioms ks cs kinded _ _ s t f
  ends_kinded axioms ks cs kinded g r s t (proves_axiom {n = n} a es is fs roles kinds) =
      let sides = axioms n a is in
      let p = kinds_before ms ks [] a.params es NTVar NTVar kinds (none_have_kinds ms ks NTVar) (none_have_kinds ms ks NTVar) in
      let all = append-nil (reverse a.params) in (
        sides.0,
        substitution_keeps_kinds ms (reverse a.params) ks _ (subst (λ x. HaveKinds ms x ks (types_before (lefts es) NTVar)) all p.0) 0 _ _ sides.1,
        substitution_keeps_kinds ms (reverse a.params) ks _ (subst (λ x. HaveKinds ms x ks (types_before (rights es) NTVar)) all p.1) 0 _ _ sides.2,
      )
  ends_kinded axioms ks cs kinded g r s t (proves_universally k a b) = (k, a, b)

-- the ends of a coercion have one kind
pub ends_have_one_kind : EndsHaveOneKind
ends_have_one_kind ms axioms ks cs kinded g r s t h = ends_kinded ms axioms ks cs kinded g r s t h
