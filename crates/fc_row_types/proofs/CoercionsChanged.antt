-- A coercion in place of another that proves the same keeps what the whole proves.
use Rattle.std.proofs.Common.{◌≡◌, ℕ, zero, suc, List, [], ◌∷◌, map, Option, Some, subst}
use Rattle.fc_syntax.specs.declared.ty.Role.{Role}
use Rattle.fc_syntax.specs.Tree.{Kind}
use Rattle.fc_model.specs.Coercing.{Ends, shifted_ends}
use Rattle.fc_model.specs.CoercingRules.{Proves, ProveAll, one_coercion, proves_sym, proves_trans, proves_declared, proves_application, proves_function}
use Rattle.fc_model.specs.CoercingRules.{proves_forall, proves_coforall, proves_instance, proves_part, proves_left, proves_right, proves_sub, proves_axiom}
use Rattle.fc_model.specs.CoercionLaws.{AreEndsKinded, HaveOneKind}
use Rattle.fc_model.specs.Kinding.{Modules}
use Rattle.fc_model.specs.Nameless.{NTy, NCo, NGVar, NGRefl, NGSym, NGTrans, NGTc, NGCapp, NGFun, NGAll, NGCoAll, NGInst, NGNth, NGLeft, NGRight, NGSub, NGAx, NGUniv, NCos, NoNCos, MoreNCos}
use Rattle.fc_model.proofs.EndsKept.{mapped_inv}
use Rattle.fc_model.proofs.KindsKept.{shifting_keeps_kinds}
use Rattle.fc_rows.specs.ChangingCoercions.{as_they_are, changed_coercion, changed_coercions}
use Rattle.fc_row_types.specs.TypesKept.{ChangesKeepProofs, KeepsProofs}
use Rattle.fc_row_types.proofs.Made.{made_inv, none_some}

kinded_below : (ms : Modules) (k : Kind) (ks : List Kind) (cs : List Ends) → AreEndsKinded ms ks cs → AreEndsKinded ms (k ∷ ks) (map shifted_ends cs)
kinded_below ms k ks cs kinded i e h =
    let p = mapped_inv shifted_ends cs i e h in
    let q = kinded i p.0 p.1 in
    subst (λ x. HaveOneKind ms (k ∷ ks) x.left x.right) p.2 (q.0, shifting_keeps_kinds ms ks k 0 p.0.left q.0 q.1, shifting_keeps_kinds ms ks k 0 p.0.right q.0 q.2)

module _ (ms : Modules) (row : List Kind → List Ends → NCo → Option NCo) (keeps : KeepsProofs ms row) where
  mutual
    pub proof_kept : (ks : List Kind) (cs : List Ends) → AreEndsKinded ms ks cs → (p : List ℕ) (g h : NCo) → changed_coercion row ks cs p g ≡ Some h → (r : Role) (s t : NTy) → Proves ms ks cs g r s t
        → Proves ms ks cs h r s t
    proof_kept ks cs kinded [] g h e r s t q = keeps ks cs kinded g h e r s t q
    proof_kept ks cs kinded (i ∷ p) (NGVar j) h e r s t q = none_some e
    proof_kept ks cs kinded (i ∷ p) (NGRefl o u) h e r s t q = none_some e
    proof_kept ks cs kinded (zero ∷ p) (NGSym g) h e r s t (proves_sym q) =
        let m = made_inv NGSym (changed_coercion row ks cs p g) h e in
        subst (λ x. Proves ms ks cs x r s t) m.2 (proves_sym (proof_kept ks cs kinded p g m.0 m.1 r t s q))
    proof_kept ks cs kinded (suc i ∷ p) (NGSym g) h e r s t q = none_some e
    proof_kept ks cs kinded (zero ∷ p) (NGTrans g f) h e r s t (proves_trans {t = u} q w) =
        let m = made_inv (λ x. NGTrans x f) (changed_coercion row ks cs p g) h e in
        subst (λ x. Proves ms ks cs x r s t) m.2 (proves_trans (proof_kept ks cs kinded p g m.0 m.1 r s u q) w)
    proof_kept ks cs kinded (suc zero ∷ p) (NGTrans g f) h e r s t (proves_trans {t = u} q w) =
        let m = made_inv (λ x. NGTrans g x) (changed_coercion row ks cs p f) h e in
        subst (λ x. Proves ms ks cs x r s t) m.2 (proves_trans q (proof_kept ks cs kinded p f m.0 m.1 r u t w))
    proof_kept ks cs kinded (suc (suc i) ∷ p) (NGTrans g f) h e r s t q = none_some e
    proof_kept ks cs kinded (i ∷ p) (NGTc o n gs) h e r s t (proves_declared es j k q roles a b) =
        let m = made_inv (λ x. NGTc o n x) (changed_coercions row ks cs i p gs) h e in
        subst (λ x. Proves ms ks cs x r s t) m.2 (proves_declared es j k (proofs_kept ks cs kinded i p gs m.0 m.1 es q) roles a b)
    proof_kept ks cs kinded (zero ∷ p) (NGCapp g f) h e r s t (proves_application j k q w role a b) =
        let m = made_inv (λ x. NGCapp x f) (changed_coercion row ks cs p g) h e in
        subst (λ x. Proves ms ks cs x r s t) m.2 (proves_application j k (proof_kept ks cs kinded p g m.0 m.1 r _ _ q) w role a b)
    proof_kept ks cs kinded (suc zero ∷ p) (NGCapp g f) h e r s t (proves_application j k q w role a b) =
        let m = made_inv (λ x. NGCapp g x) (changed_coercion row ks cs p f) h e in
        subst (λ x. Proves ms ks cs x r s t) m.2 (proves_application j k q (proof_kept ks cs kinded p f m.0 m.1 _ _ _ w) role a b)
    proof_kept ks cs kinded (suc (suc i) ∷ p) (NGCapp g f) h e r s t q = none_some e
    proof_kept ks cs kinded (zero ∷ p) (NGFun g f) h e r s t (proves_function j k q w role a b v c d x) =
        let m = made_inv (λ y. NGFun y f) (changed_coercion row ks cs p g) h e in
        subst (λ y. Proves ms ks cs y r s t) m.2 (proves_function j k (proof_kept ks cs kinded p g m.0 m.1 r _ _ q) w role a b v c d x)
    proof_kept ks cs kinded (suc zero ∷ p) (NGFun g f) h e r s t (proves_function j k q w role a b v c d x) =
        let m = made_inv (λ y. NGFun g y) (changed_coercion row ks cs p f) h e in
        subst (λ y. Proves ms ks cs y r s t) m.2 (proves_function j k q (proof_kept ks cs kinded p f m.0 m.1 r _ _ w) role a b v c d x)
    proof_kept ks cs kinded (suc (suc i) ∷ p) (NGFun g f) h e r s t q = none_some e
    proof_kept ks cs kinded (zero ∷ p) (NGAll k g) h e r s t (proves_forall q l a b) =
        let m = made_inv (λ x. NGAll k x) (changed_coercion row (k ∷ ks) (map shifted_ends cs) p g) h e in
        subst (λ x. Proves ms ks cs x r s t) m.2 (proves_forall (proof_kept (k ∷ ks) (map shifted_ends cs) (kinded_below ms k ks cs kinded) p g m.0 m.1 r _ _ q) l a b)
    proof_kept ks cs kinded (suc i ∷ p) (NGAll k g) h e r s t q = none_some e
    proof_kept ks cs kinded (zero ∷ p) (NGCoAll o l x y z) h e r s t (proves_coforall i j k n q w v a b c d a2 b2 c2 d2) =
        let m = made_inv (λ u. NGCoAll o l u y z) (changed_coercion row ks cs p x) h e in
        subst (λ u. Proves ms ks cs u r s t) m.2 (proves_coforall i j k n (proof_kept ks cs kinded p x m.0 m.1 _ _ _ q) w v a b c d a2 b2 c2 d2)
    proof_kept ks cs kinded (suc zero ∷ p) (NGCoAll o l x y z) h e r s t (proves_coforall i j k n q w v a b c d a2 b2 c2 d2) =
        let m = made_inv (λ u. NGCoAll o l x u z) (changed_coercion row ks cs p y) h e in
        subst (λ u. Proves ms ks cs u r s t) m.2 (proves_coforall i j k n q (proof_kept ks cs kinded p y m.0 m.1 _ _ _ w) v a b c d a2 b2 c2 d2)
    proof_kept ks cs kinded (suc (suc zero) ∷ p) (NGCoAll o l x y z) h e r s t (proves_coforall i j k n q w v a b c d a2 b2 c2 d2) =
        let m = made_inv (λ u. NGCoAll o l x y u) (changed_coercion row ks cs p z) h e in
        subst (λ u. Proves ms ks cs u r s t) m.2 (proves_coforall i j k n q w (proof_kept ks cs kinded p z m.0 m.1 _ _ _ v) a b c d a2 b2 c2 d2)
    proof_kept ks cs kinded (suc (suc (suc i)) ∷ p) (NGCoAll o l x y z) h e r s t q = none_some e
    proof_kept ks cs kinded (zero ∷ p) (NGInst g f) h e r s t (proves_instance q w a b) =
        let m = made_inv (λ x. NGInst x f) (changed_coercion row ks cs p g) h e in
        subst (λ x. Proves ms ks cs x r s t) m.2 (proves_instance (proof_kept ks cs kinded p g m.0 m.1 r _ _ q) w a b)
    proof_kept ks cs kinded (suc zero ∷ p) (NGInst g f) h e r s t (proves_instance q w a b) =
        let m = made_inv (λ x. NGInst g x) (changed_coercion row ks cs p f) h e in
        subst (λ x. Proves ms ks cs x r s t) m.2 (proves_instance q (proof_kept ks cs kinded p f m.0 m.1 _ _ _ w) a b)
    proof_kept ks cs kinded (suc (suc i) ∷ p) (NGInst g f) h e r s t q = none_some e
    proof_kept ks cs kinded (zero ∷ p) (NGNth n g) h e r s t (proves_part es k q role parts at a b) =
        let m = made_inv (λ x. NGNth n x) (changed_coercion row ks cs p g) h e in
        subst (λ x. Proves ms ks cs x r s t) m.2 (proves_part es k (proof_kept ks cs kinded p g m.0 m.1 _ _ _ q) role parts at a b)
    proof_kept ks cs kinded (suc i ∷ p) (NGNth n g) h e r s t q = none_some e
    proof_kept ks cs kinded (zero ∷ p) (NGLeft g) h e r s t (proves_left k q x y a b) =
        let m = made_inv NGLeft (changed_coercion row ks cs p g) h e in
        subst (λ z. Proves ms ks cs z r s t) m.2 (proves_left k (proof_kept ks cs kinded p g m.0 m.1 _ _ _ q) x y a b)
    proof_kept ks cs kinded (suc i ∷ p) (NGLeft g) h e r s t q = none_some e
    proof_kept ks cs kinded (zero ∷ p) (NGRight g) h e r s t (proves_right k q x y a b) =
        let m = made_inv NGRight (changed_coercion row ks cs p g) h e in
        subst (λ z. Proves ms ks cs z r s t) m.2 (proves_right k (proof_kept ks cs kinded p g m.0 m.1 _ _ _ q) x y a b)
    proof_kept ks cs kinded (suc i ∷ p) (NGRight g) h e r s t q = none_some e
    proof_kept ks cs kinded (zero ∷ p) (NGSub g) h e r s t (proves_sub q) =
        let m = made_inv NGSub (changed_coercion row ks cs p g) h e in
        subst (λ x. Proves ms ks cs x r s t) m.2 (proves_sub (proof_kept ks cs kinded p g m.0 m.1 _ s t q))
    proof_kept ks cs kinded (suc i ∷ p) (NGSub g) h e r s t q = none_some e
    proof_kept ks cs kinded (i ∷ p) (NGAx n gs) h e r s t (proves_axiom a es found q roles kinds) =
        let m = made_inv (λ x. NGAx n x) (changed_coercions row ks cs i p gs) h e in
        subst (λ x. Proves ms ks cs x r s t) m.2 (proves_axiom a es found (proofs_kept ks cs kinded i p gs m.0 m.1 es q) roles kinds)
    proof_kept ks cs kinded (i ∷ p) (NGUniv u v) h e r s t q = none_some e

    proofs_kept : (ks : List Kind) (cs : List Ends) → AreEndsKinded ms ks cs → (i : ℕ) (p : List ℕ) (gs hs : NCos) → changed_coercions row ks cs i p gs ≡ Some hs → (es : List Ends) → ProveAll ms ks cs gs es
        → ProveAll ms ks cs hs es
    proofs_kept ks cs kinded i p NoNCos hs e es q = none_some e
    proofs_kept ks cs kinded zero p (MoreNCos g rest) hs e es (one_coercion {e = d} {es = ds} q more) =
        let m = made_inv (λ x. MoreNCos x rest) (changed_coercion row ks cs p g) hs e in
        subst (λ x. ProveAll ms ks cs x (d ∷ ds)) m.2 (one_coercion (proof_kept ks cs kinded p g m.0 m.1 d.role d.left d.right q) more)
    proofs_kept ks cs kinded (suc i) p (MoreNCos g rest) hs e es (one_coercion {e = d} {es = ds} q more) =
        let m = made_inv (λ x. MoreNCos g x) (changed_coercions row ks cs i p rest) hs e in
        subst (λ x. ProveAll ms ks cs x (d ∷ ds)) m.2 (one_coercion q (proofs_kept ks cs kinded i p rest m.0 m.1 ds more))

pub as_they_are_keeps : (ms : Modules) → KeepsProofs ms as_they_are
as_they_are_keeps ms ks cs kinded g h e r s t q = none_some e

pub coercions_keep_proofs : ChangesKeepProofs
coercions_keep_proofs ms row keeps p ks cs kinded g h e r s t q = proof_kept ms row keeps ks cs kinded p g h e r s t q
