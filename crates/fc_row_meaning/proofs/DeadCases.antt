-- An alternative that is known not to be taken goes: a rewrite of its place.
use Rattle.std.proofs.Common.{◌≡◌, ℕ, zero, suc, ℤ, Bool, true, false, ◌||◌, List, [], ◌∷◌, Some, refl, sym, ap, ◌∙◌, subst}
use Rattle.std.specs.List.{list_any}
use Rattle.fc_syntax.specs.declared.expr.Head.{Head}
use Rattle.fc_syntax.specs.declared.expr.Head.TheVariants as head
use Rattle.fc_syntax.specs.declared.ty.Name.{Name}
use Rattle.fc_model.specs.Erasure.{binder_sorts, erased_head}
use Rattle.fc_model.specs.Kinding.{same_name}
use Rattle.fc_model.specs.Nameless.{NTy, NBinder, NBranch, NAlts, NoNAlts, MoreNAlts, NExpr, NLocal, NVar, NCase}
use Rattle.fc_model.specs.Stepping.{ConKey, Key, LamKey, LitKey, matches}
use Rattle.fc_model.specs.Terms.{OfCon, OfLit, Sort}
use Rattle.fc_model.proofs.Sameness.{false_true, same_name_eq}
use Rattle.fc_rows.specs.Shrinking.{alt_dead, heads_excluded, known, same_head, without_alternative}
use Rattle.fc_rows.specs.Surroundings.{Known, Surroundings, listed_heads}
use Rattle.fc_row_types.proofs.Made.{if_some_inv, made_inv, none_some, some_some}
use Rattle.fc_term_rows.specs.TermRows.{AreFoundAlike, among_first, among_later, IsAmong, IsNoDefault}
use Rattle.fc_term_rows.proofs.Knowing.{int_eq_eq}
use Rattle.fc_row_places.specs.KnowingRows.{NWithout, nwithout_first, nwithout_later}
use Rattle.fc_row_places.specs.NamelessFacts.{NKnown, NKnows, heads_among}
use Rattle.fc_row_places.specs.NamelessPlaces.{NPlace}
use Rattle.fc_kept_meaning.specs.PlaceRows.{place_dead_alternative, PlaceRow}
use Rattle.fc_row_meaning.specs.LocalsTold.{AreTold, nothing_told, Told, told_constructor, told_head, told_literal, told_none_of}
use Rattle.fc_row_meaning.proofs.PlacedWhereTold.{IsPlacedWhereTold}
use Rattle.fc_row_meaning.proofs.ChosenAlternatives.{same_number}

-- HEADS

-- what is the same head as a literal, or as a constructor, is found as it is, and is no default
as_literal : (h : Head) (bs : List NBinder) (z : ℤ) → same_head h (head.Lit z) ≡ true → AreFoundAlike (erased_head h bs) (OfLit z) × IsNoDefault (erased_head h bs)
as_literal head.Default bs z e = false_true e
as_literal (head.Lit y) bs z e = (λ key. ap (λ n. matches key (OfLit n)) (int_eq_eq y z (sym (same_number y z) ∙ e)), tt)
as_literal (head.Con n) bs z e = false_true e

constructors_alike : (m n : Name) (ss rs : List Sort) → m ≡ n → (key : Key) → matches key (OfCon m ss) ≡ matches key (OfCon n rs)
unfolding matches
constructors_alike m n ss rs e (LitKey z) = refl
constructors_alike m n ss rs e (ConKey c) = ap (same_name c) e
constructors_alike m n ss rs e LamKey = refl

as_constructor : (h : Head) (bs cs : List NBinder) (n : Name) → same_head h (head.Con n) ≡ true → AreFoundAlike (erased_head h bs) (OfCon n (binder_sorts cs)) × IsNoDefault (erased_head h bs)
as_constructor head.Default bs cs n e = false_true e
as_constructor (head.Lit y) bs cs n e = false_true e
as_constructor (head.Con m) bs cs n e = (constructors_alike m n (binder_sorts bs) (binder_sorts cs) (same_name_eq m n e), tt)

-- the first, or one of the others
among_these : (h : Head) (bs : List NBinder) (k : Head) (cs : List NBinder) (rest : NAlts) → (same_head h k ≡ true → AreFoundAlike (erased_head h bs) (erased_head k cs) × IsNoDefault (erased_head h bs))
    → (x : Bool) → same_head h k ≡ x → x || list_any (same_head h) (listed_heads rest) ≡ true
    → (list_any (same_head h) (listed_heads rest) ≡ true → IsAmong (erased_head h bs) (heads_among rest) × IsNoDefault (erased_head h bs))
    → IsAmong (erased_head h bs) (erased_head k cs ∷ heads_among rest) × IsNoDefault (erased_head h bs)
among_these h bs k cs rest first true q e later = let here = first q in (among_first here.0, here.1)
among_these h bs k cs rest first false q e later = let others = later e in (among_later others.0, others.1)

-- what is one of the heads that are listed is found as one of these alternatives is
among_listed : (h : Head) (bs : List NBinder) (alts : NAlts) → list_any (same_head h) (listed_heads alts) ≡ true → IsAmong (erased_head h bs) (heads_among alts) × IsNoDefault (erased_head h bs)
among_listed h bs NoNAlts e = false_true e
among_listed h bs (MoreNAlts (NBranch head.Default cs b) rest) e = let later = among_listed h bs rest e in (among_later later.0, later.1)
among_listed h bs (MoreNAlts (NBranch (head.Lit z) cs b) rest) e =
    among_these h bs (head.Lit z) cs rest (λ q. as_literal h bs z q) (same_head h (head.Lit z)) refl e (λ k. among_listed h bs rest k)
among_listed h bs (MoreNAlts (NBranch (head.Con n) cs b) rest) e =
    among_these h bs (head.Con n) cs rest (λ q. as_constructor h bs cs n q) (same_head h (head.Con n)) refl e (λ k. among_listed h bs rest k)

-- THE ROW

without_is : (hs : List Head) (i : ℕ) (alts blts : NAlts) → without_alternative hs i alts ≡ Some blts → (h : Head) × (bs : List NBinder) × (list_any (same_head h) hs ≡ true) × NWithout h bs alts blts
without_is hs i NoNAlts blts e = none_some e
without_is hs zero (MoreNAlts (NBranch h bs b) rest) blts e =
    let m = if_some_inv (list_any (same_head h) hs) (Some rest) blts e in (h, bs, m.0, subst (NWithout h bs (MoreNAlts (NBranch h bs b) rest)) (some_some m.1) nwithout_first)
without_is hs (suc i) (MoreNAlts (NBranch k cs b) rest) blts e =
    let m = made_inv (λ more. MoreNAlts (NBranch k cs b) more) (without_alternative hs i rest) blts e in
    let w = without_is hs i rest m.0 m.1 in
    (w.0, w.1, w.2, subst (NWithout w.0 w.1 (MoreNAlts (NBranch k cs b) rest)) m.2 (nwithout_later w.3))

-- G: what is known of names
module _ (G : NKnown) where
  -- what is told of a scrutinee
  pub scrutinee_told : (c : NPlace) (s : Surroundings) → AreTold G c s → (e : NExpr) → Told (NKnows G c) e (known s e)
  scrutinee_told c s told (NLocal i) = told.locals i
  scrutinee_told c s told (NVar n) = told.names n
  scrutinee_told c s told e = nothing_told

  -- nothing goes where no heads are excluded
  none_excluded : {X : Type 0} (i : ℕ) (alts blts : NAlts) → without_alternative [] i alts ≡ Some blts → X
  none_excluded i alts blts e = false_true (without_is [] i alts blts e).2

  dead_placed : (c : NPlace) (y : NExpr) (xt rt : NTy) (i : ℕ) (alts blts : NAlts) (k : Known) → Told (NKnows G c) y k → without_alternative (heads_excluded k) i alts ≡ Some blts
      → PlaceRow G c (NCase y xt rt alts) (NCase y xt rt blts)
  dead_placed c y xt rt i alts blts _ nothing_told e = none_excluded i alts blts e
  dead_placed c y xt rt i alts blts _ (told_constructor w) e = none_excluded i alts blts e
  dead_placed c y xt rt i alts blts _ (told_literal w) e = none_excluded i alts blts e
  dead_placed c y xt rt i alts blts _ (told_head n w) e = none_excluded i alts blts e
  dead_placed c y xt rt i alts blts _ (told_none_of all w) e =
      let gone = without_is (listed_heads all) i alts blts e in let among = among_listed gone.0 gone.1 all gone.2 in place_dead_alternative w among.0 among.1 gone.3

  pub alt_dead_is_placed : (i : ℕ) → IsPlacedWhereTold G (λ ms s e. alt_dead i s e)
  alt_dead_is_placed i ms held declared c (NCase e xt rt alts) f r told =
      let m = made_inv (λ rest. NCase e xt rt rest) (without_alternative (heads_excluded (known r.surroundings e)) i alts) f r.result in
      subst (PlaceRow G c (NCase e xt rt alts)) m.2 (dead_placed c e xt rt i alts m.0 (known r.surroundings e) (scrutinee_told c r.surroundings told e) m.1)
  alt_dead_is_placed i ms held declared c e f r told = none_some r.result
