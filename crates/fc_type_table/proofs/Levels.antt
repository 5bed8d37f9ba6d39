-- Levels and indices: to put a type in for a bound variable, with no shift, is the textbook substitution.
use Rattle.std.proofs.Common.{◌≡◌, ◌≢◌, ℕ, zero, suc, ◌+◌, ◌-◌, ◌<◌, ◌≤◌, nat_lt, nat_eq, if◌then◌else◌, List, [], ◌∷◌, ◌++◌, length, length-append, refl, sym, ap, subst, ◌∙◌, arith, Bool, true, false, eq-eqb, true≢false}
use borrow.Author.Tests.{ltb-true, ltb-false, eqb-true}
use Rattle.fc_syntax.specs.Tree.{Kind}
use Rattle.fc_model.specs.Nameless.{NTy, NTVar, NTCon, NTInt, NTApp, NTFun, NTForall, NTCoForall}
use Rattle.fc_model.specs.Substituting.{IsScopedType, instantiated, renamed_type, renaming_below, shifted_type, substituted_type, type_for_innermost, types_below}
use Rattle.fc_type_table.specs.Trees.{Tree, LBound, LFree, LCon, LInt, LApp, LFun, LForall, LCoForall, opened, closed_over}
use Rattle.fc_type_table.specs.TreeKinds.{kind_in}
use Rattle.fc_type_table.specs.Scopes.{Scoped, indexed, label, leveled}
use Rattle.fc_type_table.proofs.KindTrees.{kind_in-tree, kind_tree-in}
use Rattle.fc_type_table.proofs.Labels.{label-inner, label-outer}

-- ---- there and back

-- a type that is put into the table and read back is the same
pub indexed-leveled : (n : ℕ) (ls : List Kind) (k : ℕ) (t : NTy) → IsScopedType (n + k) t → indexed n k (leveled n ls k t) ≡ t
unfolding indexed leveled
indexed-leveled n ls k (NTVar i) h = by (nat_lt i k) refl
  where
    by : (b : Bool) → nat_lt i k ≡ b → indexed n k (if b then LBound i (label ls i) else LFree ((n - 1) - (i - k)) (label ls i)) ≡ NTVar i
    by true e = refl
    by false e = ap NTVar (omega (arith, ltb-false i k e))
indexed-leveled n ls k (NTCon c) h = refl
indexed-leveled n ls k NTInt h = refl
indexed-leveled n ls k (NTApp t u) h = cc (indexed-leveled n ls k t h.0, indexed-leveled n ls k u h.1)
indexed-leveled n ls k (NTFun t u) h = cc (indexed-leveled n ls k t h.0, indexed-leveled n ls k u h.1)
indexed-leveled n ls k (NTForall j t) h =
    let e : suc (n + k) ≡ n + (k + 1) = omega arith in
    cc (kind_in-tree j, indexed-leveled n (j ∷ ls) (k + 1) t (subst (λ m. IsScopedType m t) e h))
indexed-leveled n ls k (NTCoForall r a b t) h = cc (indexed-leveled n ls k a h.0, indexed-leveled n ls k b h.1, indexed-leveled n ls k t h.2)

pub leveled-indexed : (ks js : List Kind) (d : ℕ) → d ≡ length js → (t : Tree) → Scoped ks js t → leveled (length ks) (js ++ ks) d (indexed (length ks) d t) ≡ t
unfolding indexed leveled
leveled-indexed ks js d e (LBound i k) h = by (nat_lt i d) refl
  where
    by : (b : Bool) → nat_lt i d ≡ b → (if b then LBound i (label (js ++ ks) i) else LFree ((length ks - 1) - (i - d)) (label (js ++ ks) i)) ≡ LBound i k
    by true p = ap (LBound i) (label-inner js ks i h.0 ∙ sym h.1)
    by false p = absurd (omega (arith, ltb-false i d p, h.0))
leveled-indexed ks js d e (LFree l k) h = by (nat_lt (d + ((length ks - 1) - l)) d) refl
  where
    by : (b : Bool) → nat_lt (d + ((length ks - 1) - l)) d ≡ b
        → (if b then LBound (d + ((length ks - 1) - l)) (label (js ++ ks) (d + ((length ks - 1) - l))) else LFree ((length ks - 1) - ((d + ((length ks - 1) - l)) - d)) (label (js ++ ks) (d + ((length ks - 1) - l)))) ≡ LFree l k
    by true p = absurd (omega (arith, ltb-true (d + ((length ks - 1) - l)) d p))
    by false p =
        let level : (length ks - 1) - ((d + ((length ks - 1) - l)) - d) ≡ l = omega (arith, h.0) in
        let carries : label (js ++ ks) (d + ((length ks - 1) - l)) ≡ k = label-outer js ks (d + ((length ks - 1) - l)) ((length ks - 1) - l) (omega arith) ∙ sym h.1 in
        cc
leveled-indexed ks js d e (LCon i) h = refl
leveled-indexed ks js d e LInt h = refl
leveled-indexed ks js d e (LApp t u) h = cc (leveled-indexed ks js d e t h.0, leveled-indexed ks js d e u h.1)
leveled-indexed ks js d e (LFun t u) h = cc (leveled-indexed ks js d e t h.0, leveled-indexed ks js d e u h.1)
leveled-indexed ks js d e (LForall j t) h = cc (kind_tree-in j h.0, leveled-indexed ks (kind_in j ∷ js) (d + 1) (omega arith) t h.1)
leveled-indexed ks js d e (LCoForall r a b t) h = cc (leveled-indexed ks js d e a h.0, leveled-indexed ks js d e b h.1, leveled-indexed ks js d e t h.2)
leveled-indexed ks js d e t h = absurd h

-- trees of one type in one context are the same
pub indexed-apart : (ks : List Kind) (t u : Tree) → Scoped ks [] t → Scoped ks [] u → indexed (length ks) 0 t ≡ indexed (length ks) 0 u → t ≡ u
indexed-apart ks t u h g e = sym (leveled-indexed ks [] 0 refl t h) ∙ ap (leveled (length ks) ks 0) e ∙ leveled-indexed ks [] 0 refl u g

-- ---- shifts

-- past c binders
abbrev pub renaming_under : ℕ → (ℕ → ℕ) → ℕ → ℕ
renaming_under zero r = r
renaming_under (suc c) r = renaming_below (renaming_under c r)

pub renaming_under-low : (r : ℕ → ℕ) (c i : ℕ) → i < c → renaming_under c r i ≡ i
renaming_under-low r zero i h = absurd (omega arith)
renaming_under-low r (suc c) zero h = refl
renaming_under-low r (suc c) (suc i) h = ap suc (renaming_under-low r c i (omega arith))

pub renaming_under-high : (s : ℕ) (r : ℕ → ℕ) → ((i : ℕ) → r i ≡ i + s) → (c i : ℕ) → c ≤ i → renaming_under c r i ≡ i + s
renaming_under-high s r moves zero i h = moves i
renaming_under-high s r moves (suc c) zero h = absurd (omega arith)
renaming_under-high s r moves (suc c) (suc i) h = omega (arith, renaming_under-high s r moves c i (omega arith))

-- a shift by s moves what levels show
pub renamed-indexed : (s : ℕ) (r : ℕ → ℕ) → ((i : ℕ) → r i ≡ i + s) → (ks js : List Kind) (c m : ℕ) → c ≡ length js → (t : Tree) → Scoped ks js t → c ≤ m
    → renamed_type (renaming_under c r) (indexed (length ks) m t) ≡ indexed (length ks) (m + s) t
unfolding indexed
renamed-indexed s r moves ks js c m e (LBound i k) h g = ap NTVar (renaming_under-low r c i (omega (arith, h.0)))
renamed-indexed s r moves ks js c m e (LFree l k) h g =
    let p : (m + ((length ks - 1) - l)) + s ≡ (m + s) + ((length ks - 1) - l) = omega arith in
    ap NTVar (renaming_under-high s r moves c (m + ((length ks - 1) - l)) (omega arith) ∙ p)
renamed-indexed s r moves ks js c m e (LCon i) h g = refl
renamed-indexed s r moves ks js c m e LInt h g = refl
renamed-indexed s r moves ks js c m e (LApp t u) h g = cc (renamed-indexed s r moves ks js c m e t h.0 g, renamed-indexed s r moves ks js c m e u h.1 g)
renamed-indexed s r moves ks js c m e (LFun t u) h g = cc (renamed-indexed s r moves ks js c m e t h.0 g, renamed-indexed s r moves ks js c m e u h.1 g)
renamed-indexed s r moves ks js c m e (LForall j t) h g =
    let p : (m + 1) + s ≡ (m + s) + 1 = omega arith in
    ap (NTForall (kind_in j)) (renamed-indexed s r moves ks (kind_in j ∷ js) (suc c) (m + 1) (omega arith) t h.1 (omega arith) ∙ ap (λ x. indexed (length ks) x t) p)
renamed-indexed s r moves ks js c m e (LCoForall o a b t) h g =
    cc (renamed-indexed s r moves ks js c m e a h.0 g, renamed-indexed s r moves ks js c m e b h.1 g, renamed-indexed s r moves ks js c m e t h.2 g)
renamed-indexed s r moves ks js c m e t h g = absurd h

-- variables more in the context count as binders more
indexed-weaker : (s n : ℕ) (ks js : List Kind) → n ≡ length ks + s → (k : ℕ) (t : Tree) → Scoped ks js t → indexed n k t ≡ indexed (length ks) (k + s) t
unfolding indexed
indexed-weaker s n ks js e k (LBound i j) h = refl
indexed-weaker s n ks js e k (LFree l j) h = ap NTVar (omega (arith, h.0))
indexed-weaker s n ks js e k (LCon i) h = refl
indexed-weaker s n ks js e k LInt h = refl
indexed-weaker s n ks js e k (LApp t u) h = cc (indexed-weaker s n ks js e k t h.0, indexed-weaker s n ks js e k u h.1)
indexed-weaker s n ks js e k (LFun t u) h = cc (indexed-weaker s n ks js e k t h.0, indexed-weaker s n ks js e k u h.1)
indexed-weaker s n ks js e k (LForall j t) h =
    let p : (k + 1) + s ≡ (k + s) + 1 = omega arith in
    ap (NTForall (kind_in j)) (indexed-weaker s n ks (kind_in j ∷ js) e (k + 1) t h.1 ∙ ap (λ x. indexed (length ks) x t) p)
indexed-weaker s n ks js e k (LCoForall r a b t) h = cc (indexed-weaker s n ks js e k a h.0, indexed-weaker s n ks js e k b h.1, indexed-weaker s n ks js e k t h.2)
indexed-weaker s n ks js e k t h = absurd h

-- a look-up past more variables of the context: the number stays, and what it shows is renamed
pub indexed-more : (r : ℕ → ℕ) (bs ks : List Kind) → ((i : ℕ) → r i ≡ i + length bs) → (t : Tree) → Scoped ks [] t → indexed (length (bs ++ ks)) 0 t ≡ renamed_type r (indexed (length ks) 0 t)
indexed-more r bs ks moves t h =
    indexed-weaker (length bs) (length (bs ++ ks)) ks [] (omega (arith, length-append bs ks)) 0 t h ∙ sym (renamed-indexed (length bs) r moves ks [] 0 0 refl t h (omega arith))

-- ---- substitution

-- past k binders
abbrev types_under : ℕ → (ℕ → NTy) → ℕ → NTy
types_under zero s = s
types_under (suc k) s = types_below (types_under k s)

-- past k binders, the variable of the type that is put in is k, those below stay, and those above fall by one
under_low : (k i : ℕ) (u : NTy) → i < k → types_under k (type_for_innermost u) i ≡ NTVar i
under_low zero i u h = absurd (omega arith)
under_low (suc k) zero u h = refl
under_low (suc k) (suc i) u h = ap shifted_type (under_low k i u (omega arith))

under_high : (k i : ℕ) (u : NTy) → k ≤ i → types_under k (type_for_innermost u) (suc i) ≡ NTVar i
under_high zero i u h = refl
under_high (suc k) zero u h = absurd (omega arith)
under_high (suc k) (suc i) u h = ap shifted_type (under_high k i u (omega arith))

under_here : (ks : List Kind) (k : ℕ) (u : Tree) → Scoped ks [] u → types_under k (type_for_innermost (indexed (length ks) 0 u)) k ≡ indexed (length ks) k u
under_here ks zero u h = refl
under_here ks (suc k) u h =
    let e : k + 1 ≡ suc k = omega arith in
    ap shifted_type (under_here ks k u h) ∙ renamed-indexed 1 suc (λ i. omega arith) ks [] 0 k refl u h (omega arith) ∙ ap (λ m. indexed (length ks) m u) e

-- opening is substitution
indexed-opened : (ks js : List Kind) (j : Kind) (k : ℕ) → k ≡ length js → (u t : Tree) → Scoped ks [] u → Scoped ks (js ++ j ∷ []) t
    → indexed (length ks) k (opened k u t) ≡ substituted_type (types_under k (type_for_innermost (indexed (length ks) 0 u))) (indexed (length ks) (k + 1) t)
unfolding indexed opened
indexed-opened ks js j k e u (LBound i o) c h = by (nat_eq i k) refl
  where
    by : (b : Bool) → nat_eq i k ≡ b → indexed (length ks) k (if b then u else LBound i o) ≡ types_under k (type_for_innermost (indexed (length ks) 0 u)) i
    by true p = sym (subst (λ m. types_under k (type_for_innermost (indexed (length ks) 0 u)) m ≡ indexed (length ks) k u) (sym (eqb-true i k p)) (under_here ks k u c))
    by false p =
        let g : i ≢ k = λ q. true≢false (sym (eq-eqb i k q) ∙ p) in
        sym (under_low k i (indexed (length ks) 0 u) (omega (arith, h.0, length-append js (j ∷ []))))
indexed-opened ks js j k e u (LFree l o) c h =
    let p : (k + 1) + ((length ks - 1) - l) ≡ suc (k + ((length ks - 1) - l)) = omega arith in
    sym (ap (types_under k (type_for_innermost (indexed (length ks) 0 u))) p ∙ under_high k (k + ((length ks - 1) - l)) (indexed (length ks) 0 u) (omega arith))
indexed-opened ks js j k e u (LCon i) c h = refl
indexed-opened ks js j k e u LInt c h = refl
indexed-opened ks js j k e u (LApp s t) c h = cc (indexed-opened ks js j k e u s c h.0, indexed-opened ks js j k e u t c h.1)
indexed-opened ks js j k e u (LFun s t) c h = cc (indexed-opened ks js j k e u s c h.0, indexed-opened ks js j k e u t c h.1)
indexed-opened ks js j k e u (LForall o t) c h =
    let p : suc k ≡ k + 1 = omega arith in
    ap (NTForall (kind_in o)) (indexed-opened ks (kind_in o ∷ js) j (k + 1) (omega arith) u t c h.1
    ∙ sym (ap (λ m. substituted_type (types_under m (type_for_innermost (indexed (length ks) 0 u))) (indexed (length ks) ((k + 1) + 1) t)) p))
indexed-opened ks js j k e u (LCoForall r a b t) c h = cc (indexed-opened ks js j k e u a c h.0, indexed-opened ks js j k e u b c h.1, indexed-opened ks js j k e u t c h.2)
indexed-opened ks js j k e u t c h = absurd h

pub indexed-instantiated : (ks : List Kind) (j : Kind) (u t : Tree) → Scoped ks [] u → Scoped ks (j ∷ []) t → indexed (length ks) 0 (opened 0 u t) ≡ instantiated (indexed (length ks) 0 u) (indexed (length ks) 1 t)
indexed-instantiated ks j u t c h = indexed-opened ks [] j 0 refl u t c h

-- to bind the last variable of the context changes no index
indexed-closed_over : (ks js : List Kind) (j : Kind) (n k : ℕ) → n ≡ length ks → (t : Tree) → Scoped (j ∷ ks) js t → indexed n (k + 1) (closed_over n k t) ≡ indexed (length (j ∷ ks)) k t
unfolding indexed closed_over
indexed-closed_over ks js j n k e (LBound i o) h = refl
indexed-closed_over ks js j n k e (LFree l o) h = by (nat_eq l n) refl
  where
    by : (b : Bool) → nat_eq l n ≡ b → indexed n (k + 1) (if b then LBound k o else LFree l o) ≡ NTVar (k + ((length (j ∷ ks) - 1) - l))
    by true p = ap NTVar (omega (arith, eqb-true l n p))
    by false p = let g : l ≢ n = λ q. true≢false (sym (eq-eqb l n q) ∙ p) in ap NTVar (omega (arith, h.0))
indexed-closed_over ks js j n k e (LCon i) h = refl
indexed-closed_over ks js j n k e LInt h = refl
indexed-closed_over ks js j n k e (LApp t u) h = cc (indexed-closed_over ks js j n k e t h.0, indexed-closed_over ks js j n k e u h.1)
indexed-closed_over ks js j n k e (LFun t u) h = cc (indexed-closed_over ks js j n k e t h.0, indexed-closed_over ks js j n k e u h.1)
indexed-closed_over ks js j n k e (LForall o t) h = ap (NTForall (kind_in o)) (indexed-closed_over ks (kind_in o ∷ js) j n (k + 1) e t h.1)
indexed-closed_over ks js j n k e (LCoForall r a b t) h =
    cc (indexed-closed_over ks js j n k e a h.0, indexed-closed_over ks js j n k e b h.1, indexed-closed_over ks js j n k e t h.2)
indexed-closed_over ks js j n k e t h = absurd h

pub indexed-generalized : (ks : List Kind) (j : Kind) (n : ℕ) → n ≡ length ks → (t : Tree) → Scoped (j ∷ ks) [] t → indexed (length ks) 1 (closed_over n 0 t) ≡ indexed (length (j ∷ ks)) 0 t
indexed-generalized ks j n e t h = ap (λ m. indexed m 1 (closed_over n 0 t)) (sym e) ∙ indexed-closed_over ks [] j n 0 e t h
