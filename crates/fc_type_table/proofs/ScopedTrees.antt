-- Where types stand that are put in for variables, that are closed over, and whose context grows.
use Rattle.std.proofs.Common.{◌≡◌, ◌≢◌, ℕ, zero, suc, ◌+◌, ◌-◌, ◌<◌, ◌≤◌, nat_lt, nat_eq, if◌then◌else◌, List, [], ◌∷◌, ◌++◌, length, length-append, refl, sym, ap, subst, ◌∙◌, arith, Bool, true, false, eq-eqb, true≢false}
use borrow.Author.Tests.{ltb-true, ltb-false, eqb-true}
use Rattle.std.proofs.Math.Decide.{dec_lt}
use Rattle.std.proofs.lemmas.Bool.Decides.{nat_tests}
use Prim.{yes, no}
use Rattle.fc_syntax.specs.Tree.{Kind}
use Rattle.fc_model.specs.Nameless.{NTy, NTVar, NTCon, NTInt, NTApp, NTFun, NTForall, NTCoForall}
use Rattle.fc_model.specs.Substituting.{IsScopedType, renamed_type}
use Rattle.fc_type_table.specs.Trees.{Tree, LStar, LHash, LArrow, LBound, LFree, LCon, LInt, LApp, LFun, LForall, LCoForall, opened, closed_over, loose_end, level_end}
use Rattle.fc_type_table.specs.TreeKinds.{kind_in}
use Rattle.fc_type_table.specs.Scopes.{Scoped, indexed, label, leveled}
use Rattle.fc_type_table.proofs.KindTrees.{IsKind-tree, kind_in-tree}
use Rattle.fc_type_table.proofs.Labels.{label-inner, label-outer}
use Rattle.fc_type_table.proofs.Levels.{renaming_under, renaming_under-high, renaming_under-low}

-- in a context with more variables
pub Scoped-weaker : (bs ks js : List Kind) (t : Tree) → Scoped ks js t → Scoped (bs ++ ks) js t
Scoped-weaker bs ks js (LBound i k) h = h
Scoped-weaker bs ks js (LFree l k) h =
    let long = length-append bs ks in
    (omega (arith, h.0), h.1 ∙ sym (label-outer bs ks ((length (bs ++ ks) - 1) - l) ((length ks - 1) - l) (omega (arith, h.0))))
Scoped-weaker bs ks js (LCon i) h = tt
Scoped-weaker bs ks js LInt h = tt
Scoped-weaker bs ks js (LApp t u) h = (Scoped-weaker bs ks js t h.0, Scoped-weaker bs ks js u h.1)
Scoped-weaker bs ks js (LFun t u) h = (Scoped-weaker bs ks js t h.0, Scoped-weaker bs ks js u h.1)
Scoped-weaker bs ks js (LForall j t) h = (h.0, Scoped-weaker bs ks (kind_in j ∷ js) t h.1)
Scoped-weaker bs ks js (LCoForall r a b t) h = (Scoped-weaker bs ks js a h.0, Scoped-weaker bs ks js b h.1, Scoped-weaker bs ks js t h.2)
Scoped-weaker bs ks js t h = absurd h

-- in a context with fewer variables, where the others are not mentioned
pub Scoped-stronger : (bs ks js : List Kind) (t : Tree) → Scoped (bs ++ ks) js t → level_end t ≤ length ks → Scoped ks js t
Scoped-stronger bs ks js (LBound i k) h g = h
Scoped-stronger bs ks js (LFree l k) h g =
    let long = length-append bs ks in
    (omega arith, h.1 ∙ label-outer bs ks ((length (bs ++ ks) - 1) - l) ((length ks - 1) - l) (omega arith))
Scoped-stronger bs ks js (LCon i) h g = tt
Scoped-stronger bs ks js LInt h g = tt
Scoped-stronger bs ks js (LApp t u) h g = (Scoped-stronger bs ks js t h.0 (omega arith), Scoped-stronger bs ks js u h.1 (omega arith))
Scoped-stronger bs ks js (LFun t u) h g = (Scoped-stronger bs ks js t h.0 (omega arith), Scoped-stronger bs ks js u h.1 (omega arith))
Scoped-stronger bs ks js (LForall j t) h g = (h.0, Scoped-stronger bs ks (kind_in j ∷ js) t h.1 g)
Scoped-stronger bs ks js (LCoForall r a b t) h g =
    (Scoped-stronger bs ks js a h.0 (omega arith), Scoped-stronger bs ks js b h.1 (omega arith), Scoped-stronger bs ks js t h.2 (omega arith))
Scoped-stronger bs ks js t h g = absurd h

-- a type that is renamed past variables mentions none of them
pub renamed-mentions : (r : ℕ → ℕ) (bs ks js : List Kind) → ((i : ℕ) → r i ≡ i + length bs) → (c : ℕ) → c ≡ length js → (t : Tree) → Scoped (bs ++ ks) js t → (u : NTy)
    → indexed (length (bs ++ ks)) c t ≡ renamed_type (renaming_under c r) u → level_end t ≤ length ks
unfolding indexed
renamed-mentions r bs ks js moves c e (LBound i k) h u p = omega arith
renamed-mentions r bs ks js moves c e (LFree l k) h (NTVar i) p =
    let long = length-append bs ks in
    let same : c + ((length (bs ++ ks) - 1) - l) ≡ renaming_under c r i = cc in
    elim (dec_lt i c) [
      | yes g ↦ absurd (omega (arith, renaming_under-low r c i g))
      | no g ↦ let up : c ≤ i = omega arith in omega (arith, renaming_under-high (length bs) r moves c i up, h.0)
    ]
renamed-mentions r bs ks js moves c e (LCon i) h u p = omega arith
renamed-mentions r bs ks js moves c e LInt h u p = omega arith
renamed-mentions r bs ks js moves c e (LApp t v) h (NTApp x y) p =
    omega (arith, renamed-mentions r bs ks js moves c e t h.0 x (cc), renamed-mentions r bs ks js moves c e v h.1 y (cc))
renamed-mentions r bs ks js moves c e (LFun t v) h (NTFun x y) p =
    omega (arith, renamed-mentions r bs ks js moves c e t h.0 x (cc), renamed-mentions r bs ks js moves c e v h.1 y (cc))
renamed-mentions r bs ks js moves c e (LForall j t) h (NTForall k x) p =
    let inner : indexed (length (bs ++ ks)) (c + 1) t ≡ renamed_type (renaming_under (suc c) r) x = cc in
    let q : c + 1 ≡ suc c = omega arith in
    renamed-mentions r bs ks (kind_in j ∷ js) moves (suc c) (omega arith) t h.1 x (subst (λ m. indexed (length (bs ++ ks)) m t ≡ renamed_type (renaming_under (suc c) r) x) q inner)
renamed-mentions r bs ks js moves c e (LCoForall o a b t) h (NTCoForall m x y z) p =
    omega (arith, renamed-mentions r bs ks js moves c e a h.0 x (cc), renamed-mentions r bs ks js moves c e b h.1 y (cc), renamed-mentions r bs ks js moves c e t h.2 z (cc))
renamed-mentions r bs ks js moves c e LStar h u p = absurd h
renamed-mentions r bs ks js moves c e LHash h u p = absurd h
renamed-mentions r bs ks js moves c e (LArrow a b) h u p = absurd h
renamed-mentions r bs ks js moves c e t h u p = absurd (cc)

-- under more binders, outside the others
pub Scoped-more : (ks js ls : List Kind) (t : Tree) → Scoped ks js t → Scoped ks (js ++ ls) t
Scoped-more ks js ls (LBound i k) h = let long = length-append js ls in (omega (arith, h.0), h.1 ∙ sym (label-inner js ls i h.0))
Scoped-more ks js ls (LFree l k) h = h
Scoped-more ks js ls (LCon i) h = tt
Scoped-more ks js ls LInt h = tt
Scoped-more ks js ls (LApp t u) h = (Scoped-more ks js ls t h.0, Scoped-more ks js ls u h.1)
Scoped-more ks js ls (LFun t u) h = (Scoped-more ks js ls t h.0, Scoped-more ks js ls u h.1)
Scoped-more ks js ls (LForall j t) h = (h.0, Scoped-more ks (kind_in j ∷ js) ls t h.1)
Scoped-more ks js ls (LCoForall r a b t) h = (Scoped-more ks js ls a h.0, Scoped-more ks js ls b h.1, Scoped-more ks js ls t h.2)
Scoped-more ks js ls t h = absurd h

pub Scoped-opened : (ks js : List Kind) (j : Kind) (d : ℕ) → d ≡ length js → (u t : Tree) → Scoped ks [] u → Scoped ks (js ++ j ∷ []) t → Scoped ks js (opened d u t)
unfolding opened
Scoped-opened ks js j d e u (LBound i k) c h = by (nat_eq i d) refl
  where
    by : (b : Bool) → nat_eq i d ≡ b → Scoped ks js (if b then u else LBound i k)
    by true p = Scoped-more ks [] js u c
    by false p =
        let g : i ≢ d = λ q. true≢false (sym (eq-eqb i d q) ∙ p) in
        let low : i < length js = omega (arith, h.0, length-append js (j ∷ [])) in
        (low, h.1 ∙ label-inner js (j ∷ []) i low)
Scoped-opened ks js j d e u (LFree l k) c h = h
Scoped-opened ks js j d e u (LCon i) c h = tt
Scoped-opened ks js j d e u LInt c h = tt
Scoped-opened ks js j d e u (LApp s t) c h = (Scoped-opened ks js j d e u s c h.0, Scoped-opened ks js j d e u t c h.1)
Scoped-opened ks js j d e u (LFun s t) c h = (Scoped-opened ks js j d e u s c h.0, Scoped-opened ks js j d e u t c h.1)
Scoped-opened ks js j d e u (LForall o t) c h = (h.0, Scoped-opened ks (kind_in o ∷ js) j (d + 1) (omega arith) u t c h.1)
Scoped-opened ks js j d e u (LCoForall r a b t) c h = (Scoped-opened ks js j d e u a c h.0, Scoped-opened ks js j d e u b c h.1, Scoped-opened ks js j d e u t c h.2)
Scoped-opened ks js j d e u t c h = absurd h

pub Scoped-closed_over : (ks js : List Kind) (j : Kind) (n d : ℕ) → n ≡ length ks → d ≡ length js → (t : Tree) → Scoped (j ∷ ks) js t → Scoped ks (js ++ j ∷ []) (closed_over n d t)
unfolding closed_over
Scoped-closed_over ks js j n d p e (LBound i k) h = let long = length-append js (j ∷ []) in (omega (arith, h.0), h.1 ∙ sym (label-inner js (j ∷ []) i h.0))
Scoped-closed_over ks js j n d p e (LFree l k) h = by (nat_eq l n) refl
  where
    by : (b : Bool) → nat_eq l n ≡ b → Scoped ks (js ++ j ∷ []) (if b then LBound d k else LFree l k)
    by true q =
        let long = length-append js (j ∷ []) in
        let last : (length (j ∷ ks) - 1) - l ≡ zero = omega (arith, eqb-true l n q) in
        let here : d ≡ length js + zero = omega arith in
        (omega arith, h.1 ∙ ap (label (j ∷ ks)) last ∙ sym (label-outer js (j ∷ []) d zero here))
    by false q =
        let g : l ≢ n = λ x. true≢false (sym (eq-eqb l n x) ∙ q) in
        let low : l < length ks = omega (arith, h.0) in
        (low, h.1 ∙ label-outer (j ∷ []) ks ((length (j ∷ ks) - 1) - l) ((length ks - 1) - l) (omega arith))
Scoped-closed_over ks js j n d p e (LCon i) h = tt
Scoped-closed_over ks js j n d p e LInt h = tt
Scoped-closed_over ks js j n d p e (LApp t u) h = (Scoped-closed_over ks js j n d p e t h.0, Scoped-closed_over ks js j n d p e u h.1)
Scoped-closed_over ks js j n d p e (LFun t u) h = (Scoped-closed_over ks js j n d p e t h.0, Scoped-closed_over ks js j n d p e u h.1)
Scoped-closed_over ks js j n d p e (LForall o t) h = (h.0, Scoped-closed_over ks (kind_in o ∷ js) j n (d + 1) p (omega arith) t h.1)
Scoped-closed_over ks js j n d p e (LCoForall r a b t) h =
    (Scoped-closed_over ks js j n d p e a h.0, Scoped-closed_over ks js j n d p e b h.1, Scoped-closed_over ks js j n d p e t h.2)
Scoped-closed_over ks js j n d p e t h = absurd h

-- a type that is put into the table stands in its context
pub Scoped-leveled : (ks js : List Kind) (d : ℕ) → d ≡ length js → (t : NTy) → IsScopedType (length ks + d) t → Scoped ks js (leveled (length ks) (js ++ ks) d t)
unfolding leveled
Scoped-leveled ks js d e (NTVar i) h = by (nat_lt i d) refl
  where
    by : (b : Bool) → nat_lt i d ≡ b → Scoped ks js (if b then LBound i (label (js ++ ks) i) else LFree ((length ks - 1) - (i - d)) (label (js ++ ks) i))
    by true p = let low : i < length js = omega (arith, ltb-true i d p) in (low, label-inner js ks i low)
    by false p =
        let far : d ≤ i = ltb-false i d p in
        (omega arith, label-outer js ks i ((length ks - 1) - ((length ks - 1) - (i - d))) (omega arith))
Scoped-leveled ks js d e (NTCon c) h = tt
Scoped-leveled ks js d e NTInt h = tt
Scoped-leveled ks js d e (NTApp t u) h = (Scoped-leveled ks js d e t h.0, Scoped-leveled ks js d e u h.1)
Scoped-leveled ks js d e (NTFun t u) h = (Scoped-leveled ks js d e t h.0, Scoped-leveled ks js d e u h.1)
Scoped-leveled ks js d e (NTForall j t) h =
    let p : suc (length ks + d) ≡ length ks + (d + 1) = omega arith in
    let inner = Scoped-leveled ks (j ∷ js) (d + 1) (omega arith) t (subst (λ m. IsScopedType m t) p h) in
    (IsKind-tree j, subst (λ x. Scoped ks (x ∷ js) (leveled (length ks) (j ∷ (js ++ ks)) (d + 1) t)) (sym (kind_in-tree j)) inner)
Scoped-leveled ks js d e (NTCoForall r a b t) h = (Scoped-leveled ks js d e a h.0, Scoped-leveled ks js d e b h.1, Scoped-leveled ks js d e t h.2)

-- ---- where there is nothing to replace

pub opened-itself : (k : ℕ) (u t : Tree) → loose_end t ≤ k → opened k u t ≡ t
unfolding opened
opened-itself k u (LBound i o) h = grind (arith, nat_tests)
opened-itself k u (LApp s t) h = cc (opened-itself k u s (omega arith), opened-itself k u t (omega arith))
opened-itself k u (LFun s t) h = cc (opened-itself k u s (omega arith), opened-itself k u t (omega arith))
opened-itself k u (LForall j t) h = ap (LForall j) (opened-itself (k + 1) u t (omega arith))
opened-itself k u (LCoForall r a b t) h = cc (opened-itself k u a (omega arith), opened-itself k u b (omega arith), opened-itself k u t (omega arith))
opened-itself k u t h = refl

pub closed_over-itself : (l k : ℕ) (t : Tree) → level_end t ≤ l → closed_over l k t ≡ t
unfolding closed_over
closed_over-itself l k (LFree m o) h = grind (arith, nat_tests)
closed_over-itself l k (LApp s t) h = cc (closed_over-itself l k s (omega arith), closed_over-itself l k t (omega arith))
closed_over-itself l k (LFun s t) h = cc (closed_over-itself l k s (omega arith), closed_over-itself l k t (omega arith))
closed_over-itself l k (LForall j t) h = ap (LForall j) (closed_over-itself l (k + 1) t (omega arith))
closed_over-itself l k (LCoForall r a b t) h = cc (closed_over-itself l k a (omega arith), closed_over-itself l k b (omega arith), closed_over-itself l k t (omega arith))
closed_over-itself l k t h = refl
