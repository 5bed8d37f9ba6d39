-- What binders bind that stand together: one more of them, behind the others or before them.
use Rattle.std.proofs.Common.{◌≡◌, suc, ◌+◌, List, [], ◌∷◌, ◌++◌, length, map, reverse, refl, sym, ap, ◌∙◌, arith}
use Rattle.std.proofs.lemmas.List.{append-nil, reverse-append}
use Rattle.fc_syntax.specs.declared.ty.Role.{Role}
use Rattle.fc_syntax.specs.Tree.{Kind}
use Rattle.fc_model.specs.Calling.{type_count}
use Rattle.fc_model.specs.Coercing.{Ends, ends}
use Rattle.fc_model.specs.Nameless.{NTy, NBinder, NBValue, NBType, NBCo}
use Rattle.fc_model.specs.Substituting.{raised_type}
use Rattle.fc_model.specs.Typing.{kinds_behind}
use Rattle.fc_type_table.proofs.BinderKinds.{type_count-append}
use Rattle.fc_type_scope.specs.Behind.{binder_coercions, binder_kinds, binder_values, raised_ends, value_count}
use Rattle.fc_type_scope.proofs.Raising.{raised_none, raised_twice, same_ends}

-- HOW MANY

pub length-binder_values : (bs : List NBinder) → length (binder_values bs) ≡ value_count bs
unfolding binder_values
length-binder_values [] = refl
length-binder_values (NBValue t ∷ bs) = ap suc (length-binder_values bs)
length-binder_values (NBType k ∷ bs) = length-binder_values bs
length-binder_values (NBCo r t u ∷ bs) = length-binder_values bs

pub value_count-append : (bs cs : List NBinder) → value_count (bs ++ cs) ≡ value_count bs + value_count cs
value_count-append [] cs = omega arith
value_count-append (NBValue t ∷ bs) cs = ap suc (value_count-append bs cs) ∙ omega arith
value_count-append (NBType k ∷ bs) cs = value_count-append bs cs
value_count-append (NBCo r t u ∷ bs) cs = value_count-append bs cs

-- KINDS

-- behind kinds and those of one binder more
pub kinds_one_more : (js ks : List Kind) (b : NBinder) → reverse (js ++ binder_kinds (b ∷ [])) ++ ks ≡ kinds_behind b (reverse js ++ ks)
unfolding binder_kinds
kinds_one_more js ks (NBValue t) = ap (λ is. reverse is ++ ks) (append-nil js)
kinds_one_more js ks (NBType k) = ap (λ is. is ++ ks) (reverse-append js (k ∷ []))
kinds_one_more js ks (NBCo r t u) = ap (λ is. reverse is ++ ks) (append-nil js)

-- VALUES

pub binder_values-append : (bs cs : List NBinder) → binder_values (bs ++ cs) ≡ map (raised_type (type_count cs)) (binder_values bs) ++ binder_values cs
unfolding binder_values
binder_values-append [] cs = refl
binder_values-append (NBValue t ∷ bs) cs =
    ap (λ u. u ∷ binder_values (bs ++ cs)) (ap (λ m. raised_type m t) (type_count-append bs cs) ∙ sym (raised_twice (type_count bs) (type_count cs) t))
    ∙ ap (λ us. raised_type (type_count cs) (raised_type (type_count bs) t) ∷ us) (binder_values-append bs cs)
binder_values-append (NBType k ∷ bs) cs = binder_values-append bs cs
binder_values-append (NBCo r t u ∷ bs) cs = binder_values-append bs cs

pub all_raised_none : (ts : List NTy) → map (raised_type 0) ts ≡ ts
all_raised_none [] = refl
all_raised_none (t ∷ ts) = cc (raised_none t, all_raised_none ts)

pub binder_values-value : (bs : List NBinder) (t : NTy) → binder_values (bs ++ NBValue t ∷ []) ≡ binder_values bs ++ t ∷ []
unfolding binder_values
binder_values-value bs t = binder_values-append bs (NBValue t ∷ []) ∙ ap (λ ts. ts ++ raised_type 0 t ∷ []) (all_raised_none (binder_values bs)) ∙ ap (λ u. binder_values bs ++ u ∷ []) (raised_none t)

pub binder_values-type : (bs : List NBinder) (k : Kind) → binder_values (bs ++ NBType k ∷ []) ≡ map (raised_type 1) (binder_values bs)
unfolding binder_values
binder_values-type bs k = binder_values-append bs (NBType k ∷ []) ∙ append-nil (map (raised_type 1) (binder_values bs))

pub binder_values-coercion : (bs : List NBinder) (b : NBinder) → type_count (b ∷ []) ≡ 0 → binder_values (b ∷ []) ≡ [] → binder_values (bs ++ b ∷ []) ≡ binder_values bs
binder_values-coercion bs b e n =
    binder_values-append bs (b ∷ []) ∙ ap (λ m. map (raised_type m) (binder_values bs) ++ binder_values (b ∷ [])) e ∙ ap (λ ts. map (raised_type 0) (binder_values bs) ++ ts) n
    ∙ append-nil (map (raised_type 0) (binder_values bs)) ∙ all_raised_none (binder_values bs)

-- COERCIONS

pub all_ends_raised_none : (es : List Ends) → map (raised_ends 0) es ≡ es
all_ends_raised_none [] = refl
all_ends_raised_none (e ∷ es) = ap (λ d. d ∷ map (raised_ends 0) es) (same_ends (raised_ends 0 e) e refl (raised_none e.left) (raised_none e.right)) ∙ ap (λ ds. e ∷ ds) (all_ends_raised_none es)

pub binder_coercions-append : (bs cs : List NBinder) → binder_coercions (bs ++ cs) ≡ map (raised_ends (type_count cs)) (binder_coercions bs) ++ binder_coercions cs
unfolding binder_coercions
binder_coercions-append [] cs = refl
binder_coercions-append (NBValue t ∷ bs) cs = binder_coercions-append bs cs
binder_coercions-append (NBType k ∷ bs) cs = binder_coercions-append bs cs
binder_coercions-append (NBCo r t u ∷ bs) cs =
    let m = type_count bs in
    let n = type_count cs in
    let here : raised_ends (type_count (bs ++ cs)) (ends r t u) ≡ raised_ends n (raised_ends m (ends r t u)) =
    ap (λ i. raised_ends i (ends r t u)) (type_count-append bs cs)
    ∙ same_ends (raised_ends (m + n) (ends r t u)) (raised_ends n (raised_ends m (ends r t u))) refl (sym (raised_twice m n t)) (sym (raised_twice m n u)) in
    ap (λ e. e ∷ binder_coercions (bs ++ cs)) here ∙ ap (λ es. raised_ends n (raised_ends m (ends r t u)) ∷ es) (binder_coercions-append bs cs)

-- a binder that binds neither a type nor a coercion leaves them
pub binder_coercions-value : (bs : List NBinder) (t : NTy) → binder_coercions (bs ++ NBValue t ∷ []) ≡ binder_coercions bs
unfolding binder_coercions
binder_coercions-value bs t = binder_coercions-append bs (NBValue t ∷ []) ∙ append-nil (map (raised_ends 0) (binder_coercions bs)) ∙ all_ends_raised_none (binder_coercions bs)

pub binder_coercions-type : (bs : List NBinder) (k : Kind) → binder_coercions (bs ++ NBType k ∷ []) ≡ map (raised_ends 1) (binder_coercions bs)
unfolding binder_coercions
binder_coercions-type bs k = binder_coercions-append bs (NBType k ∷ []) ∙ append-nil (map (raised_ends 1) (binder_coercions bs))

pub binder_coercions-one : (bs : List NBinder) (r : Role) (t u : NTy) → binder_coercions (bs ++ NBCo r t u ∷ []) ≡ binder_coercions bs ++ ends r t u ∷ []
unfolding binder_coercions
binder_coercions-one bs r t u =
    binder_coercions-append bs (NBCo r t u ∷ []) ∙ ap (λ es. es ++ raised_ends 0 (ends r t u) ∷ []) (all_ends_raised_none (binder_coercions bs))
    ∙ ap (λ e. binder_coercions bs ++ e ∷ []) (same_ends (raised_ends 0 (ends r t u)) (ends r t u) refl (raised_none t) (raised_none u))
