-- The kinds of the type variables that binders bind which stand together: one more of them, behind the others or before them.
use Rattle.std.proofs.Common.{◌≡◌, suc, ◌+◌, List, [], ◌∷◌, ◌++◌, length, reverse, refl, ap, ◌∙◌, arith, append_assoc}
use Rattle.std.proofs.lemmas.List.{reverse-append}
use Rattle.fc_syntax.specs.Tree.{Kind}
use Rattle.fc_model.specs.Calling.{type_count}
use Rattle.fc_model.specs.Nameless.{NBinder, NBValue, NBType, NBCo}
use Rattle.fc_model.specs.Typing.{kinds_behind}
use Rattle.fc_type_table.specs.Binders.{binder_kinds, kinds_past}

pub length-binder_kinds : (bs : List NBinder) → length (binder_kinds bs) ≡ type_count bs
unfolding binder_kinds
length-binder_kinds [] = refl
length-binder_kinds (NBValue t ∷ bs) = length-binder_kinds bs
length-binder_kinds (NBType k ∷ bs) = ap suc (length-binder_kinds bs)
length-binder_kinds (NBCo r t u ∷ bs) = length-binder_kinds bs

pub type_count-append : (bs cs : List NBinder) → type_count (bs ++ cs) ≡ type_count bs + type_count cs
type_count-append [] cs = omega arith
type_count-append (NBValue t ∷ bs) cs = type_count-append bs cs
type_count-append (NBType k ∷ bs) cs = ap suc (type_count-append bs cs) ∙ omega arith
type_count-append (NBCo r t u ∷ bs) cs = type_count-append bs cs

pub binder_kinds-append : (bs cs : List NBinder) → binder_kinds (bs ++ cs) ≡ binder_kinds bs ++ binder_kinds cs
unfolding binder_kinds
binder_kinds-append [] cs = refl
binder_kinds-append (NBValue t ∷ bs) cs = binder_kinds-append bs cs
binder_kinds-append (NBType k ∷ bs) cs = ap (λ js. k ∷ js) (binder_kinds-append bs cs)
binder_kinds-append (NBCo r t u ∷ bs) cs = binder_kinds-append bs cs

-- ---- behind binders

pub kinds_past-none : (ks : List Kind) → kinds_past [] ks ≡ ks
unfolding kinds_past binder_kinds
kinds_past-none ks = refl

kinds_past-append : (bs cs : List NBinder) (ks : List Kind) → kinds_past (bs ++ cs) ks ≡ kinds_past cs (kinds_past bs ks)
unfolding kinds_past
kinds_past-append bs cs ks =
    ap (λ js. reverse js ++ ks) (binder_kinds-append bs cs) ∙ ap (λ js. js ++ ks) (reverse-append (binder_kinds bs) (binder_kinds cs))
    ∙ append_assoc (reverse (binder_kinds cs)) (reverse (binder_kinds bs)) ks

pub kinds_past-one : (b : NBinder) (ks : List Kind) → kinds_past (b ∷ []) ks ≡ kinds_behind b ks
unfolding kinds_past binder_kinds
kinds_past-one (NBValue t) ks = refl
kinds_past-one (NBType k) ks = refl
kinds_past-one (NBCo r t u) ks = refl

-- one binder more, behind the others and before them
pub kinds_past-last : (bs : List NBinder) (b : NBinder) (ks : List Kind) → kinds_past (bs ++ b ∷ []) ks ≡ kinds_behind b (kinds_past bs ks)
kinds_past-last bs b ks = kinds_past-append bs (b ∷ []) ks ∙ kinds_past-one b (kinds_past bs ks)

pub kinds_past-first : (b : NBinder) (bs : List NBinder) (ks : List Kind) → kinds_past (b ∷ bs) ks ≡ kinds_past bs (kinds_behind b ks)
kinds_past-first b bs ks = kinds_past-append (b ∷ []) bs ks ∙ ap (kinds_past bs) (kinds_past-one b ks)
