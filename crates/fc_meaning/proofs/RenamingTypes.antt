-- Renamed types, coercions and binders have the nameless forms that they had.
use Rattle.std.proofs.Common.{◌≡◌, ℕ, ◌+◌, List, [], ◌∷◌, map, refl, ap, ◌∙◌}
use Rattle.fc_syntax.specs.declared.fault.FaultKind.TheVariants.{Duplicate}
use Rattle.fc_syntax.specs.Tree.{Word, Ty, TVar, TCon, TInt, TApp, TFun, TForall, TCoForall}
use Rattle.fc_syntax.specs.Tree.{Co, GVar, GRefl, GSym, GTrans, GTc, GCapp, GFun, GAll, GCoAll, GInst, GNth, GLeft, GRight, GSub, GAx, GUniv, Cos, NoCos, MoreCos}
use Rattle.fc_syntax.specs.Tree.{Binder, BValue, BType, BCo}
use Rattle.fc_model.specs.Faulting.{need, under}
use Rattle.fc_model.specs.Resolution.{Top, Locals, Words, enter, is_new, local_co, local_type, resolved_binder, resolved_binders, resolved_co, resolved_cos, resolved_ty, resolved_tys, then_item, with_binder, with_type}
use Rattle.fc_model.proofs.Parts.{both_same}
use Rattle.fc_meaning.specs.Renaming.{IsInjective, Renaming, renamed_binder, renamed_co, renamed_cos, renamed_ty}
use Rattle.fc_meaning.proofs.RenamingScopes.{WordsFollow, binder_follows, enter_renamed, index_same, new_same, renamed_locals}

module _ (f : Renaming) (inj : IsInjective f) (top : Top) where
  -- TYPES

  pub ty_same : (tys : List Word) (t : Ty) → resolved_ty top (map f tys) (renamed_ty f t) ≡ resolved_ty top tys t
  ty_same tys (TVar a) = ap local_type (index_same f inj tys a)
  ty_same tys (TCon n) = refl
  ty_same tys TInt = refl
  ty_same tys (TApp t u) = rw (ty_same tys t, ty_same tys u) refl
  ty_same tys (TFun t u) = rw (ty_same tys t, ty_same tys u) refl
  ty_same tys (TForall a k t) = rw (ty_same (a ∷ tys) t) refl
  ty_same tys (TCoForall r t u v) = rw (ty_same tys t, ty_same tys u, ty_same tys v) refl

  pub tys_same : (tys : List Word) (i : ℕ) (ts : List Ty) → resolved_tys top (map f tys) i (map (renamed_ty f) ts) ≡ resolved_tys top tys i ts
  tys_same tys i [] = refl
  tys_same tys i (t ∷ ts) = rw (ty_same tys t, tys_same tys (i + 1) ts) refl

  -- COERCIONS

  mutual
    pub co_same : (s : Locals) (g : Co) → resolved_co top (renamed_locals f s) (renamed_co f g) ≡ resolved_co top s g
    co_same s (GVar c) = ap local_co (index_same f inj s.coercions c)
    co_same s (GRefl r t) = rw (ty_same s.types t) refl
    co_same s (GSym g) = rw (co_same s g) refl
    co_same s (GTrans g h) = rw (co_same s g, co_same s h) refl
    co_same s (GTc r n gs) = rw (cos_same s 0 gs) refl
    co_same s (GCapp g h) = rw (co_same s g, co_same s h) refl
    co_same s (GFun g h) = rw (co_same s g, co_same s h) refl
    co_same s (GAll a k g) = rw (co_same (with_type a s) g) refl
    co_same s (GCoAll r e g h i) = rw (co_same s g, co_same s h, co_same s i) refl
    co_same s (GInst g h) = rw (co_same s g, co_same s h) refl
    co_same s (GNth n g) = rw (co_same s g) refl
    co_same s (GLeft g) = rw (co_same s g) refl
    co_same s (GRight g) = rw (co_same s g) refl
    co_same s (GSub g) = rw (co_same s g) refl
    co_same s (GAx n gs) = rw (cos_same s 0 gs) refl
    co_same s (GUniv t u) = rw (ty_same s.types t, ty_same s.types u) refl

    pub cos_same : (s : Locals) (i : ℕ) (gs : Cos) → resolved_cos top (renamed_locals f s) i (renamed_cos f gs) ≡ resolved_cos top s i gs
    cos_same s i NoCos = refl
    cos_same s i (MoreCos g gs) = rw (co_same s g, cos_same s (i + 1) gs) refl

  -- BINDERS

  pub binder_same : (s : Locals) (b : Binder) → resolved_binder top (renamed_locals f s) (renamed_binder f b) ≡ resolved_binder top s b
  binder_same s (BValue x t) = rw (ty_same s.types t) refl
  binder_same s (BType a k) = refl
  binder_same s (BCo c r t u) = rw (ty_same s.types t, ty_same s.types u) refl

  pub binders_same : (s : Locals) (new old : Words) (i : ℕ) (bs : List Binder) → WordsFollow f new old
      → resolved_binders top (renamed_locals f s) new i (map (renamed_binder f) bs) ≡ resolved_binders top s old i bs
  binders_same s new old i [] h = refl
  binders_same s new old i (b ∷ bs) h =
      both_same _ _ _ _
      (ap (λ x. under i (need x Duplicate (resolved_binder top (renamed_locals f s) (renamed_binder f b)))) (new_same f inj b new old h)
      ∙ ap (λ x. under i (need (is_new b old) Duplicate x)) (binder_same s b))
      (λ a. ap (then_item a) (
      ap (λ x. resolved_binders top x (with_binder (renamed_binder f b) new) (i + 1) (map (renamed_binder f) bs)) (enter_renamed f b s)
      ∙ binders_same (enter b s) (with_binder (renamed_binder f b) new) (with_binder b old) (i + 1) bs (binder_follows f inj b new old h)))
