-- The parts of a constructor's type: parameters, variables and fields.
use Rattle.std.proofs.Common.{◌≡◌, ℕ, suc, ◌+◌, ◌-◌, ◌<◌, ◌≤◌, IfOk, Result, Ok, Err, List, [], ◌∷◌, ◌++◌, drop, get_or, length, map, take, refl, sym, ap, ◌∙◌, append_assoc, arith}
use Rattle.std.proofs.lemmas.List.{length-map, map-append, reverse-append, take_more}
use Rattle.fc_syntax.specs.Tree.{Kind, Word}
use Rattle.fc_syntax.specs.View.{kind_of}
use Rattle.fc_syntax.specs.declared.module.Param.{Param}
use Rattle.fc_syntax.specs.declared.module.Plain.{Plain}
use Rattle.fc_syntax.specs.declared.ty.Ty.{Ty}
use Rattle.fc_model.proofs.Lists.{drop_item}
use Rattle.fc_model.specs.Calling.{applied_to_variables, over_binders, type_count}
use Rattle.fc_model.specs.Kinding.{param_kinds}
use Rattle.fc_model.specs.Nameless.{NTy, NTCon, NTForall, NParam, NParamOf, NBinder, NBType, NBValue}
use Rattle.fc_model.specs.NamelessView.{nparams_of, nplains_of, ntys_of}
use Rattle.fc_type_table.specs.InScope.{behind_group, own_kinds}
use Rattle.fc_type_table.specs.declared.numbered.NumberedKind.{NumberedKind}
use Rattle.fc_type_table.proofs.BinderKinds.{length-binder_kinds}
use Rattle.fc_type_scope.specs.Behind.{binder_kinds}
use Rattle.fc_type_table.specs.Scopes.{shown_at}
use Rattle.fc_type_table.specs.declared.node.Node.{Node}
use Rattle.fc_type_table.specs.declared.node.TypeId.{TypeId}
use Rattle.fc_lint_context.specs.DeclaredViews.{name_in}

-- ---- parameters

own_kinds-push : (ks pushed : List NumberedKind) (k : NumberedKind) → pushed ≡ ks ++ k ∷ [] → own_kinds pushed ≡ own_kinds ks ++ kind_of k.kind.now ∷ []
own_kinds-push ks pushed k e = ap own_kinds e ∙ map-append (λ (x : NumberedKind). kind_of x.kind.now) ks (k ∷ [])

pub params_more : (ks pushed : List NumberedKind) (k : NumberedKind) (ps : List Param) (i : ℕ) (p : Param) (whole : List Kind) → whole ≡ own_kinds ks ++ param_kinds (nparams_of (drop i ps)) → i < length ps → p ≡ get_or ps i p
    → pushed ≡ ks ++ k ∷ [] → kind_of k.kind.now ≡ kind_of p.kind → whole ≡ own_kinds pushed ++ param_kinds (nparams_of (drop (i + 1) ps))
params_more ks pushed k ps i p whole so_far low is e same =
    let rest = param_kinds (nparams_of (drop (i + 1) ps)) in
    so_far ∙ ap (λ xs. own_kinds ks ++ param_kinds (nparams_of xs)) (drop_item ps i p low is) ∙ ap (λ x. own_kinds ks ++ (x ∷ rest)) (sym same)
    ∙ sym (ap (λ xs. xs ++ rest) (own_kinds-push ks pushed k e) ∙ append_assoc (own_kinds ks) (kind_of k.kind.now ∷ []) rest)

kinds_length : (ps : List NParam) → length (param_kinds ps) ≡ length ps
kinds_length [] = refl
kinds_length (NParamOf k r ∷ ps) = ap suc (kinds_length ps)

-- as many kinds as parameters
pub kinds_count : (ls : List NumberedKind) (ps : List NParam) → own_kinds ls ≡ param_kinds ps → length ls ≡ length ps
kinds_count ls ps e = sym (length-map ls (λ (x : NumberedKind). kind_of x.kind.now)) ∙ ap length e ∙ kinds_length ps

pub ruleset param_rules = (params_more)

pub plains_more : (ks pushed : List NumberedKind) (k : NumberedKind) (ps : List Plain) (i : ℕ) (p : Plain) (whole : List Kind) → whole ≡ own_kinds ks ++ nplains_of (drop i ps) → i < length ps → p ≡ get_or ps i p
    → pushed ≡ ks ++ k ∷ [] → kind_of k.kind.now ≡ kind_of p.kind → whole ≡ own_kinds pushed ++ nplains_of (drop (i + 1) ps)
plains_more ks pushed k ps i p whole so_far low is e same =
    let rest = nplains_of (drop (i + 1) ps) in
    so_far ∙ ap (λ xs. own_kinds ks ++ nplains_of xs) (drop_item ps i p low is) ∙ ap (λ x. own_kinds ks ++ (x ∷ rest)) (sym same)
    ∙ sym (ap (λ xs. xs ++ rest) (own_kinds-push ks pushed k e) ∙ append_assoc (own_kinds ks) (kind_of k.kind.now ∷ []) rest)

pub ruleset plain_rules = (plains_more)

-- ---- `forall`s

over_append : (xs ys : List NBinder) (t : NTy) → over_binders (xs ++ ys) t ≡ over_binders xs (over_binders ys t)
over_append [] ys t = refl
over_append (x ∷ xs) ys t = ap (λ u. over_binders (x ∷ []) u) (over_append xs ys t)

group_more : (xs : List Kind) (k : Kind) → behind_group (xs ++ k ∷ []) [] ≡ k ∷ behind_group xs []
group_more xs k = ap (λ ys. ys ++ []) (reverse-append xs (k ∷ []))

-- the `forall` over the last of some variables, below those over the others
pub forall_more : (ls : List NumberedKind) (i : ℕ) (d : NumberedKind) (old new : List Node) (id made : ℕ) (whole : NTy) → 0 < i → i ≤ length ls
    → over_binders (map NBType (own_kinds (take i ls))) (shown_at old (behind_group (own_kinds (take i ls)) []) id) ≡ whole
    → shown_at new (behind_group (own_kinds (take (i - 1) ls)) []) made ≡ NTForall (kind_of (get_or ls (i - 1) d).kind.now) (shown_at old (kind_of (get_or ls (i - 1) d).kind.now ∷ behind_group (own_kinds (take (i - 1) ls)) []) id)
    → over_binders (map NBType (own_kinds (take (i - 1) ls))) (shown_at new (behind_group (own_kinds (take (i - 1) ls)) []) made) ≡ whole
forall_more ls i d old new id made whole low high so_far here =
    let n : ℕ = i - 1 in
    let k : NumberedKind = get_or ls n d in
    let xs : List Kind = own_kinds (take n ls) in
    let kind : Kind = kind_of k.kind.now in
    let next : n + 1 ≡ i = omega arith in
    let within : n < length ls = omega arith in
    let taken : take i ls ≡ take n ls ++ k ∷ [] = ap (λ m. take m ls) (sym next) ∙ take_more ls n d within in
    let kinds : own_kinds (take i ls) ≡ xs ++ kind ∷ [] = own_kinds-push (take n ls) (take i ls) k taken in
    let all : List Kind → NTy = λ ks. over_binders (map NBType ks) (shown_at old (behind_group ks []) id) in
    let last : all (xs ++ kind ∷ []) ≡ over_binders (map NBType xs) (NTForall kind (shown_at old (kind ∷ behind_group xs []) id)) =
    ap (λ ys. over_binders ys (shown_at old (behind_group (xs ++ kind ∷ []) []) id)) (map-append (λ (x : Kind). NBType x) xs (kind ∷ []))
    ∙ over_append (map NBType xs) (NBType kind ∷ []) (shown_at old (behind_group (xs ++ kind ∷ []) []) id)
    ∙ ap (λ ks. over_binders (map NBType xs) (NTForall kind (shown_at old ks id))) (group_more xs kind) in
    ap (over_binders (map NBType xs)) here ∙ sym last ∙ sym (ap all kinds) ∙ so_far

-- ---- what a constructor makes

params_length : (ps : List Param) → length (nparams_of ps) ≡ length ps
params_length [] = refl
params_length (p ∷ ps) = ap suc (params_length ps)

types_length : (ls : List NumberedKind) (bs : List NBinder) → own_kinds ls ≡ binder_kinds bs → length ls ≡ type_count bs
types_length ls bs e = sym (length-map ls (λ (x : NumberedKind). kind_of x.kind.now)) ∙ ap length e ∙ length-binder_kinds bs

-- the data type at the parameters, behind the constructor's own binders
pub made_behind : (ls : List NumberedKind) (bs : List NBinder) (ps : List Param) (m w : Word) (head answer : NTy) (count outer : ℕ) → own_kinds ls ≡ binder_kinds bs → count ≡ length ps → outer ≡ length ls
    → head ≡ NTCon (name_in m w) → answer ≡ applied_to_variables head count outer → answer ≡ applied_to_variables (NTCon (name_in m w)) (length (nparams_of ps)) (type_count bs)
made_behind ls bs ps m w head answer count outer kinds n o h e =
    e ∙ ap (λ t. applied_to_variables t count outer) h ∙ ap (λ c. applied_to_variables (NTCon (name_in m w)) c outer) (n ∙ sym (params_length ps))
    ∙ ap (applied_to_variables (NTCon (name_in m w)) (length (nparams_of ps))) (o ∙ types_length ls bs kinds)

pub made_over : {E : Type 0} (r : Result TypeId E) (new : List Node) (inner ks : List Kind) (fields these : List (Ty ℕ)) (t u : NTy) → inner ≡ ks → these ≡ fields → t ≡ u
    → IfOk r (λ id. shown_at new inner id.0 ≡ over_binders (map NBValue (ntys_of these)) t) → IfOk r (λ id. shown_at new ks id.0 ≡ over_binders (map NBValue (ntys_of fields)) u)
made_over (Ok id) new inner ks fields these t u same all e h =
    ap (λ x. shown_at new x id.0) (sym same) ∙ h ∙ ap (λ fs. over_binders (map NBValue (ntys_of fs)) t) all ∙ ap (over_binders (map NBValue (ntys_of fields))) e
made_over (Err x) new inner ks fields these t u same all e h = tt

-- a constructor's binders are its parameters, its own and its fields
pub all_over : (params : List Kind) (own : List NBinder) (fields : List NTy) (t : NTy)
    → over_binders (map NBType params ++ (own ++ map NBValue fields)) t ≡ over_binders (map NBType params) (over_binders own (over_binders (map NBValue fields) t))
all_over params own fields t =
    over_append (map NBType params) (own ++ map NBValue fields) t ∙ ap (over_binders (map NBType params)) (over_append own (map NBValue fields) t)

pub whole_over : {E : Type 0} (r : Result TypeId E) (new old : List Node) (two three : List NumberedKind) (params : List Kind) (body : TypeId) (own : List NBinder) (fields : List NTy) (t : NTy) → two ≡ three → own_kinds three ≡ params
    → shown_at old (behind_group (own_kinds two) []) body.0 ≡ over_binders own (over_binders (map NBValue fields) t)
    → IfOk r (λ id. shown_at new [] id.0 ≡ over_binders (map NBType (own_kinds three)) (shown_at old (behind_group (own_kinds three) []) body.0))
    → IfOk r (λ id. shown_at new [] id.0 ≡ over_binders (map NBType params ++ (own ++ map NBValue fields)) t)
whole_over (Ok id) new old two three params body own fields t same kinds e h =
    let inner : NTy = over_binders own (over_binders (map NBValue fields) t) in
    h ∙ ap (λ (ls : List NumberedKind). over_binders (map NBType (own_kinds three)) (shown_at old (behind_group (own_kinds ls) []) body.0)) (sym same) ∙ ap (over_binders (map NBType (own_kinds three))) e
    ∙ ap (λ ks. over_binders (map NBType ks) inner) kinds ∙ sym (all_over params own fields t)
whole_over (Err x) new old two three params body own fields t same kinds e h = tt
