-- Types as heads that are applied to types.
use Rattle.std.proofs.Common.{◌≡◌, ℕ, ◌+◌, ◌<◌, ◌≤◌, List, [], ◌∷◌, ◌++◌, length, get_or, reverse, take, Option, Some, None, refl, sym, ap, subst, ◌∙◌, arith}
use Rattle.std.proofs.lemmas.Option.{same_Some}
use Rattle.std.proofs.lemmas.List.{append_assoc, length-append, length-map, map-append, reverse-append, take_more}
use Rattle.std.proofs.lemmas.List.Elements.{All-append, All-take}
use Rattle.fc_syntax.specs.declared.ty.Name.{Name}
use Rattle.fc_syntax.specs.Tree.{Kind}
use Rattle.fc_syntax.specs.View.{param_of, params_of}
use Rattle.fc_syntax.specs.declared.module.Param as RustParam
use Rattle.fc_model.specs.Calling.{application_ends, at_type, at_types, from_some, is_con_type, type_arguments, type_head}
use Rattle.fc_model.specs.Kinding.{same_type}
use Rattle.fc_model.specs.Nameless.{NTy, NTVar, NTCon, NTInt, NTApp, NTFun, NTForall, NTCoForall}
use Rattle.fc_model.specs.NamelessView.{nparams_of}
use Rattle.fc_model.specs.Worded.{bare_param}
use Rattle.fc_type_scope.proofs.Numbers.{AreTypesAt-cons, AreTypesAt-none, shown_all-grows}
use Rattle.fc_type_scope.specs.Scopes.{AreTypesAt, shown_all_at}
use Rattle.fc_type_table.specs.Nodes.{Extends}
use Rattle.fc_type_table.specs.Scopes.{IsTypeAt, shown_at}
use Rattle.fc_type_table.specs.declared.node.Node.{Node}
use Rattle.fc_type_table.specs.declared.node.TypeId.{TypeId}

-- ---- a head

pub head-end : (t : NTy) → None ≡ application_ends t → type_head t ≡ t
head-end (NTVar i) e = refl
head-end (NTCon n) e = refl
head-end NTInt e = refl
head-end (NTApp t u) e = cc
head-end (NTFun t u) e = refl
head-end (NTForall k t) e = refl
head-end (NTCoForall r s t u) e = refl

pub arguments-end : (t : NTy) → None ≡ application_ends t → type_arguments t ≡ []
arguments-end (NTVar i) e = refl
arguments-end (NTCon n) e = refl
arguments-end NTInt e = refl
arguments-end (NTApp t u) e = cc
arguments-end (NTFun t u) e = refl
arguments-end (NTForall k t) e = refl
arguments-end (NTCoForall r s t u) e = refl

-- an application goes on with its head
pub head-more : (s t u : NTy) → Some (t, u) ≡ application_ends s → type_head s ≡ type_head t
head-more (NTVar i) t u e = cc
head-more (NTCon n) t u e = cc
head-more NTInt t u e = cc
head-more (NTApp v w) t u e = let p : (t, u) ≡ (v, w) = same_Some (t, u) (v, w) e in ap (λ (x : NTy × NTy). type_head x.0) (sym p)
head-more (NTFun v w) t u e = cc
head-more (NTForall k v) t u e = cc
head-more (NTCoForall r v w x) t u e = cc

pub arguments-more : (s t u : NTy) → Some (t, u) ≡ application_ends s → type_arguments s ≡ type_arguments t ++ u ∷ []
arguments-more (NTVar i) t u e = cc
arguments-more (NTCon n) t u e = cc
arguments-more NTInt t u e = cc
arguments-more (NTApp v w) t u e = let p : (t, u) ≡ (v, w) = same_Some (t, u) (v, w) e in ap (λ (x : NTy × NTy). type_arguments x.0 ++ x.1 ∷ []) (sym p)
arguments-more (NTFun v w) t u e = cc
arguments-more (NTForall k v) t u e = cc
arguments-more (NTCoForall r v w x) t u e = cc

-- ---- numbers in the order of their putting, the last one first

shown_all-snoc : (ns : List Node) (ks : List Kind) (ids : List TypeId) (id : TypeId) → shown_all_at ns ks (ids ++ id ∷ []) ≡ shown_all_at ns ks ids ++ shown_at ns ks id.0 ∷ []
unfolding shown_all_at
shown_all-snoc ns ks ids id = map-append (λ (x : TypeId). shown_at ns ks x.0) ids (id ∷ [])

-- the last one comes first
reverse-snoc : {X : Type 0} (xs : List X) (x : X) → reverse (xs ++ x ∷ []) ≡ x ∷ reverse xs
reverse-snoc xs x = reverse-append xs (x ∷ [])

pub reversed-more : (ns : List Node) (ks : List Kind) (ids : List TypeId) (id : TypeId) → reverse (shown_all_at ns ks (ids ++ id ∷ [])) ≡ shown_at ns ks id.0 ∷ reverse (shown_all_at ns ks ids)
reversed-more ns ks ids id = ap reverse (shown_all-snoc ns ks ids id) ∙ reverse-snoc (shown_all_at ns ks ids) (shown_at ns ks id.0)

pub AreTypesAt-snoc : (ns : List Node) (ks : List Kind) (ids pushed : List TypeId) (id : TypeId) → AreTypesAt ns ks ids → IsTypeAt ns ks id.0 → pushed ≡ ids ++ id ∷ [] → AreTypesAt ns ks pushed
AreTypesAt-snoc ns ks ids pushed id ts t e =
    let one : AreTypesAt ns ks (id ∷ []) = AreTypesAt-cons ns ks id [] t (AreTypesAt-none ns ks) in
    subst (AreTypesAt ns ks) (sym e) (record { each = All-append (λ (x : TypeId). IsTypeAt ns ks x.0) ids (id ∷ []) ts.each one.each })

-- one turn of the loop over applications
pub arguments-turn : (ns : List Node) (ks : List Kind) (ids pushed : List TypeId) (id : TypeId) (whole : List NTy) (s t : NTy) → type_arguments s ++ reverse (shown_all_at ns ks ids) ≡ whole
    → Some (t, shown_at ns ks id.0) ≡ application_ends s → pushed ≡ ids ++ id ∷ [] → type_arguments t ++ reverse (shown_all_at ns ks pushed) ≡ whole
arguments-turn ns ks ids pushed id whole s t so_far ends e =
    ap (λ xs. type_arguments t ++ reverse (shown_all_at ns ks xs)) e ∙ ap (λ xs. type_arguments t ++ xs) (reversed-more ns ks ids id)
    ∙ sym (append_assoc (type_arguments t) (shown_at ns ks id.0 ∷ []) (reverse (shown_all_at ns ks ids)))
    ∙ ap (λ xs. xs ++ reverse (shown_all_at ns ks ids)) (sym (arguments-more s t (shown_at ns ks id.0) ends)) ∙ so_far

-- there are fewer applications to come
pub arguments-fewer : (s t u : NTy) → Some (t, u) ≡ application_ends s → length (type_arguments t) < length (type_arguments s)
arguments-fewer s t u e = let l = ap length (arguments-more s t u e) in let m : length (type_arguments t ++ u ∷ []) ≡ length (type_arguments t) + 1 = length-append (type_arguments t) (u ∷ []) in omega arith

pub ruleset head_rules = (head-end, arguments-end, AreTypesAt-none)

-- ---- a data type

pub con_type-same : (s : NTy) (n : Name) → same_type s (NTCon n) ≡ is_con_type s n
con_type-same (NTVar i) n = refl
con_type-same (NTCon m) n = refl
con_type-same NTInt n = refl
con_type-same (NTApp t u) n = refl
con_type-same (NTFun t u) n = refl
con_type-same (NTForall k t) n = refl
con_type-same (NTCoForall r s t u) n = refl

pub length-params : (ps : List RustParam.Param) → length (nparams_of ps) ≡ length ps
length-params ps = length-map (params_of ps) bare_param ∙ length-map ps param_of

pub ruleset data_rules = (con_type-same, length-params)

-- ---- `forall`s at types

abbrev pub no_id : TypeId
no_id = record { 0 = 0 }

AreTypesAt-take : (ns : List Node) (ks : List Kind) (i : ℕ) (ids : List TypeId) → AreTypesAt ns ks ids → AreTypesAt ns ks (take i ids)
AreTypesAt-take ns ks i ids ts = record { each = All-take (λ (x : TypeId). IsTypeAt ns ks x.0) i ids ts.each }

-- what is left to be put in, the last one first
pub left-more : (ns : List Node) (ks : List Kind) (ids : List TypeId) (i : ℕ) → i < length ids
    → reverse (shown_all_at ns ks (take (i + 1) ids)) ≡ shown_at ns ks (get_or ids i no_id).0 ∷ reverse (shown_all_at ns ks (take i ids))
left-more ns ks ids i low = ap (λ xs. reverse (shown_all_at ns ks xs)) (take_more ids i no_id low) ∙ reversed-more ns ks (take i ids) (get_or ids i no_id)

-- one turn of the loop over them
pub at_types-turn : (old new : List Node) (ks : List Kind) (whole : Option NTy) (t : NTy) (ids : List TypeId) (i j : ℕ) (o : Option NTy) → Extends old new → AreTypesAt old ks ids → j ≡ i + 1 → j ≤ length ids
    → whole ≡ at_types t (reverse (shown_all_at old ks (take j ids))) → o ≡ at_type t (shown_at old ks (get_or ids i no_id).0)
    → whole ≡ from_some (λ v. at_types v (reverse (shown_all_at new ks (take i ids)))) o
at_types-turn old new ks whole t ids i j o more ts is within so_far e =
    so_far ∙ ap (λ m. at_types t (reverse (shown_all_at old ks (take m ids)))) is ∙ ap (at_types t) (left-more old ks ids i (omega arith))
    ∙ ap (λ us. from_some (λ v. at_types v us) (at_type t (shown_at old ks (get_or ids i no_id).0))) (sym (ap reverse (shown_all-grows old new ks (take i ids) more (AreTypesAt-take old ks i ids ts))))
    ∙ ap (from_some (λ v. at_types v (reverse (shown_all_at new ks (take i ids))))) (sym e)
