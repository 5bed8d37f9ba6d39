-- A type that stands outside binders, and what takes arguments for them and is then of that type: its tree stands behind them as it is.
use Rattle.std.proofs.Common.{◌≡◌, ℕ, zero, suc, ◌+◌, ◌<◌, List, [], ◌∷◌, ◌++◌, drop, length, get_or, reverse, take, refl, sym, ap, subst, ◌∙◌, arith}
use Rattle.std.proofs.lemmas.List.{length-reverse}
use Rattle.fc_syntax.specs.Tree.{Kind}
use Rattle.fc_syntax.specs.declared.expr.Binder.{Binder}
use Rattle.fc_model.proofs.Lists.{drop_item}
use Rattle.fc_model.specs.Calling.{over_binder, over_binders, type_count}
use Rattle.fc_model.specs.Nameless.{NTy, NBinder, NBValue, NBType, NBCo}
use Rattle.fc_model.specs.NamelessView.{nbinder_of, nbinders_of}
use Rattle.fc_model.specs.Substituting.{IsScopedType, raised_type}
use Rattle.fc_model.specs.Typing.{kinds_behind}
use Rattle.fc_type_table.specs.Binders.{AreScopedBinders, binder_kinds, kinds_past, tree_over}
use Rattle.fc_type_table.specs.Nodes.{tree_at}
use Rattle.fc_type_table.specs.Scopes.{IsTypeAt, Scoped, indexed, leveled, shown_at}
use Rattle.fc_type_table.specs.TreeKinds.{kind_in, kind_tree}
use Rattle.fc_type_table.specs.Trees.{Tree, LBound, LFree, LCon, LInt, LApp, LFun, LForall, LCoForall}
use Rattle.fc_type_table.specs.declared.node.Node.{Node}
use Rattle.fc_type_table.proofs.BinderKinds.{kinds_past-none, length-binder_kinds}
use Rattle.fc_type_table.proofs.Levels.{leveled-indexed, renamed-indexed}
use Rattle.fc_type_table.proofs.ScopedTrees.{Scoped-more}

-- ---- a type outside binders

-- what levels show past c variables, they show under c binders
raised-indexed : (ks : List Kind) (c : ℕ) (t : Tree) → Scoped ks [] t → raised_type c (indexed (length ks) 0 t) ≡ indexed (length ks) c t
raised-indexed ks c t h = renamed-indexed c (λ i. i + c) (λ i. refl) ks [] 0 0 refl t h (omega arith) ∙ ap (λ m. indexed (length ks) m t) (omega arith)

-- what is shown past binders is the same tree under them
leveled-raised : (ks js : List Kind) (c : ℕ) → c ≡ length js → (t : Tree) → Scoped ks [] t → leveled (length ks) (js ++ ks) c (raised_type c (indexed (length ks) 0 t)) ≡ t
leveled-raised ks js c e t h = ap (leveled (length ks) (js ++ ks) c) (raised-indexed ks c t h) ∙ leveled-indexed ks js c e t (Scoped-more ks [] js t h)

-- what a tree shows stands where the tree does
IsScopedType-indexed : (ks js : List Kind) (d : ℕ) → d ≡ length js → (t : Tree) → Scoped ks js t → IsScopedType (length ks + d) (indexed (length ks) d t)
unfolding indexed
IsScopedType-indexed ks js d e (LBound i k) h = omega (arith, h.0)
IsScopedType-indexed ks js d e (LFree l k) h = omega (arith, h.0)
IsScopedType-indexed ks js d e (LCon i) h = tt
IsScopedType-indexed ks js d e LInt h = tt
IsScopedType-indexed ks js d e (LApp t u) h = (IsScopedType-indexed ks js d e t h.0, IsScopedType-indexed ks js d e u h.1)
IsScopedType-indexed ks js d e (LFun t u) h = (IsScopedType-indexed ks js d e t h.0, IsScopedType-indexed ks js d e u h.1)
IsScopedType-indexed ks js d e (LForall j t) h =
    let p : length ks + (d + 1) ≡ suc (length ks + d) = omega arith in
    subst (λ m. IsScopedType m (indexed (length ks) (d + 1) t)) p (IsScopedType-indexed ks (kind_in j ∷ js) (d + 1) (omega arith) t h.1)
IsScopedType-indexed ks js d e (LCoForall r a b t) h = (IsScopedType-indexed ks js d e a h.0, IsScopedType-indexed ks js d e b h.1, IsScopedType-indexed ks js d e t h.2)
IsScopedType-indexed ks js d e t h = absurd h

-- what a number shows stands in its context
pub IsTypeAt-scoped : (ns : List Node) (ks : List Kind) (id : ℕ) → IsTypeAt ns ks id → IsScopedType (length ks) (shown_at ns ks id)
unfolding shown_at
IsTypeAt-scoped ns ks id t =
    let e : length ks + 0 ≡ length ks = omega arith in
    subst (λ m. IsScopedType m (shown_at ns ks id)) e (IsScopedType-indexed ks [] 0 refl (tree_at ns id) t.scoped)

raised_scoped : (ks js : List Kind) (c : ℕ) → c ≡ length js → (t : Tree) → Scoped ks [] t → IsScopedType (length ks + c) (raised_type c (indexed (length ks) 0 t))
raised_scoped ks js c e t h = subst (IsScopedType (length ks + c)) (sym (raised-indexed ks c t h)) (IsScopedType-indexed ks js c e t (Scoped-more ks [] js t h))

-- ---- over binders

over_scoped : (n : ℕ) (bs : List NBinder) (t : NTy) → AreScopedBinders n bs → IsScopedType (n + type_count bs) t → IsScopedType n (over_binders bs t)
over_scoped n [] t h g = let e : n + 0 ≡ n = omega arith in subst (λ m. IsScopedType m t) e g
over_scoped n (NBValue s ∷ bs) t h g = (h.0, over_scoped n bs t h.1 g)
over_scoped n (NBType k ∷ bs) t h g = let e : n + suc (type_count bs) ≡ suc n + type_count bs = omega arith in over_scoped (suc n) bs t h (subst (λ m. IsScopedType m t) e g)
over_scoped n (NBCo r u v ∷ bs) t h g = (h.0, h.1, over_scoped n bs t h.2 g)

-- the binders and what stands behind them, where it stands outside
pub answer_scoped : (ks : List Kind) (n : ℕ) (bs : List NBinder) (t : Tree) → n ≡ length ks → AreScopedBinders n bs → Scoped ks [] t → IsScopedType n (over_binders bs (raised_type (type_count bs) (indexed (length ks) 0 t)))
answer_scoped ks n bs t e h g =
    let c : type_count bs ≡ length (binder_kinds bs) = sym (length-binder_kinds bs) in
    over_scoped n bs (raised_type (type_count bs) (indexed (length ks) 0 t)) h
    (subst (λ m. IsScopedType (m + type_count bs) (raised_type (type_count bs) (indexed (length ks) 0 t))) (sym e) (raised_scoped ks (binder_kinds bs) (type_count bs) c t g))

-- behind all of the binders
pub answer_tree : (ks : List Kind) (bs : List NBinder) (n c : ℕ) (t : Tree) → n ≡ length ks → c ≡ type_count bs → Scoped ks [] t → t ≡ leveled n (kinds_past bs ks) c (raised_type (type_count bs) (indexed (length ks) 0 t))
unfolding kinds_past
answer_tree ks bs n c t e f h =
    let js = reverse (binder_kinds bs) in
    let m : type_count bs ≡ length js = sym (length-binder_kinds bs) ∙ sym (length-reverse (binder_kinds bs)) in
    sym (leveled-raised ks js (type_count bs) m t h)
    ∙ ap (λ i. leveled i (js ++ ks) (type_count bs) (raised_type (type_count bs) (indexed (length ks) 0 t))) (sym e)
    ∙ ap (λ i. leveled n (js ++ ks) i (raised_type (type_count bs) (indexed (length ks) 0 t))) (sym f)

-- one binder before what stands behind it
pub binder_tree : (n : ℕ) (ks : List Kind) (c d : ℕ) (b : NBinder) (t : NTy) → d ≡ c + type_count (b ∷ []) → tree_over n ks c b (leveled n (kinds_behind b ks) d t) ≡ leveled n ks c (over_binder b t)
unfolding leveled
binder_tree n ks c d (NBValue s) t e = let f : d ≡ c = omega arith in ap (λ i. LFun (leveled n ks c s) (leveled n ks i t)) f
binder_tree n ks c d (NBType k) t e = let f : d ≡ c + 1 = omega arith in ap (λ i. LForall (kind_tree k) (leveled n (k ∷ ks) i t)) f
binder_tree n ks c d (NBCo r u v) t e = let f : d ≡ c = omega arith in ap (λ i. LCoForall r (leveled n ks c u) (leveled n ks c v) (leveled n ks i t)) f

-- the binder at an index before those behind it
pub binder_first : (xs : List (Binder ℕ)) (i : ℕ) (x : Binder ℕ) → i < length xs → x ≡ get_or xs i x → nbinders_of (drop i xs) ≡ nbinder_of x ∷ nbinders_of (drop (i + 1) xs)
binder_first xs i x low is = ap (λ ys. nbinders_of ys) (drop_item xs i x low is)

-- before all of the binders
pub whole_tree : (n : ℕ) (ks : List Kind) (xs : List (Binder ℕ)) (at c : ℕ) (t : NTy) (w : Tree) → at ≡ 0 → c ≡ type_count (nbinders_of (take at xs))
    → w ≡ leveled n (kinds_past (nbinders_of (take at xs)) ks) c (over_binders (nbinders_of (drop at xs)) t) → w ≡ leveled n ks 0 (over_binders (nbinders_of xs) t)
whole_tree n ks xs zero c t w z e h =
    h ∙ ap (λ js. leveled n js c (over_binders (nbinders_of xs) t)) (kinds_past-none ks) ∙ ap (λ i. leveled n ks i (over_binders (nbinders_of xs) t)) e
whole_tree n ks xs (suc at) c t w z e h = absurd (omega arith)
