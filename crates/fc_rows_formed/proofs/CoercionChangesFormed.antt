-- A formed coercion in place of another keeps the whole formed.
use Rattle.std.proofs.Common.{ℕ, zero, suc, List, [], ◌∷◌, map, IfSome}
use Rattle.fc_syntax.specs.Tree.{Kind}
use Rattle.fc_model.specs.Coercing.{Ends, shifted_ends}
use Rattle.fc_model.specs.Nameless.{NCo, NGVar, NGRefl, NGSym, NGTrans, NGTc, NGCapp, NGFun, NGAll, NGCoAll, NGInst, NGNth, NGLeft, NGRight, NGSub, NGAx, NGUniv, NCos, NoNCos, MoreNCos}
use Rattle.fc_rows.specs.ChangingCoercions.{as_they_are, changed_coercion, changed_coercions}
use Rattle.fc_row_types.specs.TypesKept.{CoercionRow}
use Rattle.fc_formed.specs.FormedTrees.{AreSomeCos, IsFormedCo, AreFormedCos}
use Rattle.fc_rows_formed.proofs.Answered.{if_both, if_made, made_is}

-- what replaces a coercion is formed where that is
abbrev pub KeepsCoercionsFormed : CoercionRow → Type 0
KeepsCoercionsFormed row = (ks : List Kind) (cs : List Ends) (g : NCo) → IsFormedCo g → IfSome (row ks cs g) IsFormedCo

pub nothing_replaced : KeepsCoercionsFormed as_they_are
nothing_replaced ks cs g w = tt

module _ (row : CoercionRow) where
  some_changed : (ks : List Kind) (cs : List Ends) (i : ℕ) (p : List ℕ) (gs : NCos) → IfSome (changed_coercions row ks cs i p gs) AreSomeCos
  some_changed ks cs i p NoNCos = tt
  some_changed ks cs zero p (MoreNCos g rest) = made_is AreSomeCos (λ h. MoreNCos h rest) (changed_coercion row ks cs p g) (λ h. tt)
  some_changed ks cs (suc i) p (MoreNCos g rest) = made_is AreSomeCos (λ hs. MoreNCos g hs) (changed_coercions row ks cs i p rest) (λ hs. tt)

module _ (row : CoercionRow) (keeps : KeepsCoercionsFormed row) where
  abbrev AreSomeFormed : NCos → Type 0
  AreSomeFormed gs = AreSomeCos gs × AreFormedCos gs

  mutual
    pub coercion_changed : (ks : List Kind) (cs : List Ends) (p : List ℕ) (g : NCo) → IsFormedCo g → IfSome (changed_coercion row ks cs p g) IsFormedCo
    coercion_changed ks cs [] g w = keeps ks cs g w
    coercion_changed ks cs (i ∷ p) (NGVar j) w = tt
    coercion_changed ks cs (i ∷ p) (NGRefl r t) w = tt
    coercion_changed ks cs (zero ∷ p) (NGSym g) w = if_made IsFormedCo IsFormedCo NGSym (changed_coercion row ks cs p g) (coercion_changed ks cs p g w) (λ f v. v)
    coercion_changed ks cs (suc i ∷ p) (NGSym g) w = tt
    coercion_changed ks cs (zero ∷ p) (NGTrans g h) w = if_made IsFormedCo IsFormedCo (λ f. NGTrans f h) _ (coercion_changed ks cs p g w.0) (λ f v. (v, w.1))
    coercion_changed ks cs (suc zero ∷ p) (NGTrans g h) w = if_made IsFormedCo IsFormedCo (λ f. NGTrans g f) _ (coercion_changed ks cs p h w.1) (λ f v. (w.0, v))
    coercion_changed ks cs (suc (suc i) ∷ p) (NGTrans g h) w = tt
    coercion_changed ks cs (i ∷ p) (NGTc r n gs) w =
        let some = if_both AreSomeCos AreFormedCos (changed_coercions row ks cs i p gs) (some_changed row ks cs i p gs) (coercions_changed ks cs i p gs w.3) in
        if_made AreSomeFormed IsFormedCo (λ hs. NGTc r n hs) (changed_coercions row ks cs i p gs) some
        (λ hs v. (w.0, w.1, v.0, v.1))
    coercion_changed ks cs (zero ∷ p) (NGCapp g h) w = if_made IsFormedCo IsFormedCo (λ f. NGCapp f h) _ (coercion_changed ks cs p g w.0) (λ f v. (v, w.1))
    coercion_changed ks cs (suc zero ∷ p) (NGCapp g h) w = if_made IsFormedCo IsFormedCo (λ f. NGCapp g f) _ (coercion_changed ks cs p h w.1) (λ f v. (w.0, v))
    coercion_changed ks cs (suc (suc i) ∷ p) (NGCapp g h) w = tt
    coercion_changed ks cs (zero ∷ p) (NGFun g h) w = if_made IsFormedCo IsFormedCo (λ f. NGFun f h) _ (coercion_changed ks cs p g w.0) (λ f v. (v, w.1))
    coercion_changed ks cs (suc zero ∷ p) (NGFun g h) w = if_made IsFormedCo IsFormedCo (λ f. NGFun g f) _ (coercion_changed ks cs p h w.1) (λ f v. (w.0, v))
    coercion_changed ks cs (suc (suc i) ∷ p) (NGFun g h) w = tt
    coercion_changed ks cs (zero ∷ p) (NGAll k g) w =
        if_made IsFormedCo IsFormedCo (λ f. NGAll k f) (changed_coercion row (k ∷ ks) (map shifted_ends cs) p g) (coercion_changed (k ∷ ks) (map shifted_ends cs) p g w) (λ f v. v)
    coercion_changed ks cs (suc i ∷ p) (NGAll k g) w = tt
    coercion_changed ks cs (zero ∷ p) (NGCoAll r s f g h) w = if_made IsFormedCo IsFormedCo (λ d. NGCoAll r s d g h) _ (coercion_changed ks cs p f w.2) (λ d v. (w.0, w.1, v, w.3, w.4))
    coercion_changed ks cs (suc zero ∷ p) (NGCoAll r s f g h) w = if_made IsFormedCo IsFormedCo (λ d. NGCoAll r s f d h) _ (coercion_changed ks cs p g w.3) (λ d v. (w.0, w.1, w.2, v, w.4))
    coercion_changed ks cs (suc (suc zero) ∷ p) (NGCoAll r s f g h) w =
        if_made IsFormedCo IsFormedCo (λ d. NGCoAll r s f g d) _ (coercion_changed ks cs p h w.4) (λ d v. (w.0, w.1, w.2, w.3, v))
    coercion_changed ks cs (suc (suc (suc i)) ∷ p) (NGCoAll r s f g h) w = tt
    coercion_changed ks cs (zero ∷ p) (NGInst g h) w = if_made IsFormedCo IsFormedCo (λ f. NGInst f h) _ (coercion_changed ks cs p g w.0) (λ f v. (v, w.1))
    coercion_changed ks cs (suc zero ∷ p) (NGInst g h) w = if_made IsFormedCo IsFormedCo (λ f. NGInst g f) _ (coercion_changed ks cs p h w.1) (λ f v. (w.0, v))
    coercion_changed ks cs (suc (suc i) ∷ p) (NGInst g h) w = tt
    coercion_changed ks cs (zero ∷ p) (NGNth n g) w = if_made IsFormedCo IsFormedCo (λ f. NGNth n f) _ (coercion_changed ks cs p g w.1) (λ f v. (w.0, v))
    coercion_changed ks cs (suc i ∷ p) (NGNth n g) w = tt
    coercion_changed ks cs (zero ∷ p) (NGLeft g) w = if_made IsFormedCo IsFormedCo NGLeft (changed_coercion row ks cs p g) (coercion_changed ks cs p g w) (λ f v. v)
    coercion_changed ks cs (suc i ∷ p) (NGLeft g) w = tt
    coercion_changed ks cs (zero ∷ p) (NGRight g) w = if_made IsFormedCo IsFormedCo NGRight (changed_coercion row ks cs p g) (coercion_changed ks cs p g w) (λ f v. v)
    coercion_changed ks cs (suc i ∷ p) (NGRight g) w = tt
    coercion_changed ks cs (zero ∷ p) (NGSub g) w = if_made IsFormedCo IsFormedCo NGSub (changed_coercion row ks cs p g) (coercion_changed ks cs p g w) (λ f v. v)
    coercion_changed ks cs (suc i ∷ p) (NGSub g) w = tt
    coercion_changed ks cs (i ∷ p) (NGAx n gs) w = if_made AreFormedCos IsFormedCo (λ hs. NGAx n hs) _ (coercions_changed ks cs i p gs w.1) (λ hs v. (w.0, v))
    coercion_changed ks cs (i ∷ p) (NGUniv t u) w = tt

    coercions_changed : (ks : List Kind) (cs : List Ends) (i : ℕ) (p : List ℕ) (gs : NCos) → AreFormedCos gs → IfSome (changed_coercions row ks cs i p gs) AreFormedCos
    coercions_changed ks cs i p NoNCos w = tt
    coercions_changed ks cs zero p (MoreNCos g rest) w = if_made IsFormedCo AreFormedCos (λ h. MoreNCos h rest) _ (coercion_changed ks cs p g w.0) (λ h v. (v, w.1))
    coercions_changed ks cs (suc i) p (MoreNCos g rest) w = if_made AreFormedCos AreFormedCos (λ hs. MoreNCos g hs) _ (coercions_changed ks cs i p rest w.1) (λ hs v. (w.0, v))
