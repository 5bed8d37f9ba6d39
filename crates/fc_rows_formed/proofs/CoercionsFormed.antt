-- Types, and other coercions, in place of the variables of a formed coercion keep it formed.
use Rattle.std.proofs.Common.{ℕ, zero, suc}
use Rattle.fc_model.specs.Nameless.{NTy, NCo, NGVar, NGRefl, NGSym, NGTrans, NGTc, NGCapp, NGFun, NGAll, NGCoAll, NGInst, NGNth, NGLeft, NGRight, NGSub, NGAx, NGUniv, NCos, NoNCos}
use Rattle.fc_model.specs.Nameless.{MoreNCos, NBinder, NBValue, NBType, NBCo}
use Rattle.fc_model.specs.Replacing.{StandingCoercion, coercion_variables, coercions_behind, coercions_below, put_in_coercion, put_in_coercions, whole_coercions}
use Rattle.fc_model.specs.Substituting.{types_below}
use Rattle.fc_formed.specs.FormedTrees.{AreSomeCos, IsFormedCo, AreFormedCos}
use Rattle.fc_rows_formed.proofs.TypesFormed.{AreImagesFormed, images_below, type_put}

-- what stands in place of a coercion variable is formed, and is such a thing past binders too
pub record StandFormed {W : Type 0} (how : StandingCoercion W) (Good : W → Type 0) : Type 0 where
  pub formed : (v : W) → Good v → IsFormedCo (how.coercion v)
  pub innermost_good : Good how.innermost
  pub type_good : (v : W) → Good v → Good (how.past_type v)
  pub coercion_good : (v : W) → Good v → Good (how.past_coercion v)

module _ {W : Type 0} (how : StandingCoercion W) (Good : W → Type 0) (keeps : StandFormed how Good) where
  abbrev AreGood : (ℕ → W) → Type 0
  AreGood r = (i : ℕ) → Good (r i)

  coercions_good : (r : ℕ → W) → AreGood r → AreGood (coercions_below how r)
  coercions_good r g zero = keeps.innermost_good
  coercions_good r g (suc i) = keeps.coercion_good (r i) (g i)

  pub behind_good : (b : NBinder) (r : ℕ → W) → AreGood r → AreGood (coercions_behind how b r)
  behind_good (NBValue t) r g = g
  behind_good (NBType k) r g = λ i. keeps.type_good (r i) (g i)
  behind_good (NBCo q t u) r g = coercions_good r g

  some_put : (s : ℕ → NTy) (r : ℕ → W) (gs : NCos) → AreSomeCos gs → AreSomeCos (put_in_coercions how s r gs)
  some_put s r NoNCos w = w
  some_put s r (MoreNCos g gs) w = w

  mutual
    pub coercion_put : (s : ℕ → NTy) (r : ℕ → W) → AreImagesFormed s → AreGood r → (g : NCo) → IsFormedCo g → IsFormedCo (put_in_coercion how s r g)
    coercion_put s r f k (NGVar i) w = keeps.formed (r i) (k i)
    coercion_put s r f k (NGRefl o t) w = type_put s f t w
    coercion_put s r f k (NGSym g) w = coercion_put s r f k g w
    coercion_put s r f k (NGTrans g h) w = (coercion_put s r f k g w.0, coercion_put s r f k h w.1)
    coercion_put s r f k (NGTc o n gs) w = (w.0, w.1, some_put s r gs w.2, coercions_put s r f k gs w.3)
    coercion_put s r f k (NGCapp g h) w = (coercion_put s r f k g w.0, coercion_put s r f k h w.1)
    coercion_put s r f k (NGFun g h) w = (coercion_put s r f k g w.0, coercion_put s r f k h w.1)
    coercion_put s r f k (NGAll j g) w = coercion_put (types_below s) (λ i. how.past_type (r i)) (images_below s f) (λ i. keeps.type_good (r i) (k i)) g w
    coercion_put s r f k (NGCoAll o q e g h) w = (w.0, w.1, coercion_put s r f k e w.2, coercion_put s r f k g w.3, coercion_put s r f k h w.4)
    coercion_put s r f k (NGInst g h) w = (coercion_put s r f k g w.0, coercion_put s r f k h w.1)
    coercion_put s r f k (NGNth n g) w = (w.0, coercion_put s r f k g w.1)
    coercion_put s r f k (NGLeft g) w = coercion_put s r f k g w
    coercion_put s r f k (NGRight g) w = coercion_put s r f k g w
    coercion_put s r f k (NGSub g) w = coercion_put s r f k g w
    coercion_put s r f k (NGAx n gs) w = (w.0, coercions_put s r f k gs w.1)
    coercion_put s r f k (NGUniv t u) w = (type_put s f t w.0, type_put s f u w.1)

    coercions_put : (s : ℕ → NTy) (r : ℕ → W) → AreImagesFormed s → AreGood r → (gs : NCos) → AreFormedCos gs → AreFormedCos (put_in_coercions how s r gs)
    coercions_put s r f k NoNCos w = tt
    coercions_put s r f k (MoreNCos g gs) w = (coercion_put s r f k g w.0, coercions_put s r f k gs w.1)

-- variables are, whichever they are
abbrev pub AnyVariable : ℕ → Type 0
AnyVariable i = Unit {0}

pub variables_stand : StandFormed coercion_variables AnyVariable
variables_stand = record { formed = λ v g. tt; innermost_good = tt; type_good = λ v g. tt; coercion_good = λ v g. tt }

-- and so are formed coercions
pub coercions_stand : StandFormed whole_coercions IsFormedCo
coercions_stand = record {
  formed = λ v g. g;
  innermost_good = tt;
  type_good = λ v g. coercion_put coercion_variables AnyVariable variables_stand _ _ (λ i. tt) (λ i. tt) v g;
  coercion_good = λ v g. coercion_put coercion_variables AnyVariable variables_stand _ _ (λ i. tt) (λ i. tt) v g;
}
