-- The ends of a formed coercion are formed, where what modules declare is, and what coercion variables prove.
use Rattle.std.proofs.Common.{◌≡◌, ℕ, ◌+◌, Bool, true, List, [], ◌∷◌, length, map, Option, Some, None, Result, Ok, Err, IfSome, IfOk}
use Rattle.std.specs.List.{AllByRecursion}
use Rattle.fc_syntax.specs.declared.ty.Name.{Name}
use Rattle.fc_syntax.specs.declared.ty.Role.{Role}
use Rattle.fc_syntax.specs.declared.ty.Role.TheVariants.{P, R}
use Rattle.fc_syntax.specs.Tree.{Kind}
use Rattle.fc_model.specs.Calling.{application_ends}
use Rattle.fc_model.specs.Coercing.{Axiom, Ends, Equality, Function, Named, NoShape, Shape, all_ends_or_fault, applied_ends, applied_shape, applied_to, are_at_roles, arrow_ends}
use Rattle.fc_model.specs.Coercing.{at_parameters, axiom_ends, axiom_named, coforall_ends, coforall_kinded, constructed_ends, declared_ends, ends, ends_or_fault, forall_ends}
use Rattle.fc_model.specs.Coercing.{forall_parts, instantiated_ends, joined_ends, lefts, nth_ends, paired, part_ends, part_of_one_kind, parts_of, represented_ends, rights, shape_of}
use Rattle.fc_model.specs.Coercing.{shifted_ends, side_ends, split_ends, then_ends, universal_ends}
use Rattle.fc_model.specs.Faulting.{F, and_then, at_distance, under}
use Rattle.fc_model.specs.Formed.{is_equality_role, is_upper_formed}
use Rattle.fc_model.specs.Kinding.{Modules, kind_or_fault, name_kind}
use Rattle.fc_model.specs.Nameless.{NTy, NTVar, NTCon, NTInt, NTApp, NTFun, NTForall, NTCoForall, NCo, NGVar, NGRefl, NGSym, NGTrans, NGTc, NGCapp, NGFun, NGAll, NGCoAll, NGInst, NGNth}
use Rattle.fc_model.specs.Nameless.{NGLeft, NGRight, NGSub, NGAx, NGUniv, NCos, NoNCos, MoreNCos}
use Rattle.fc_model.specs.Needs.{later_roles}
use Rattle.fc_model.specs.Substituting.{instantiated}
use Rattle.fc_formed.specs.FormedTrees.{IsFormedTy, AreFormedTys, IsFormedCo, AreFormedCos}
use Rattle.fc_rows_formed.proofs.Answered.{either, if_after, if_at_distance, if_need, if_part, if_then}
use Rattle.fc_rows_formed.proofs.DeclarationsFormed.{AreDeclaredFormed, AreEndsFormed, IsAxiomFormed, axiom_named_formed}
use Rattle.fc_rows_formed.proofs.TypesFormed.{ArePairFormed, application_ends_formed, applied_formed, forall_parts_formed, images_before_all, type_instantiated, type_put, type_renamed}
use Rattle.fc_rows_formed.proofs.TypesFormed.{types_appended}

-- LISTS OF ENDS

abbrev pub AreAllEndsFormed : List Ends → Type 0
AreAllEndsFormed es = AllByRecursion AreEndsFormed es

lefts_formed : (es : List Ends) → AreAllEndsFormed es → AreFormedTys (lefts es)
lefts_formed [] w = tt
lefts_formed (e ∷ es) w = (w.0.0, lefts_formed es w.1)

rights_formed : (es : List Ends) → AreAllEndsFormed es → AreFormedTys (rights es)
rights_formed [] w = tt
rights_formed (e ∷ es) w = (w.0.1, rights_formed es w.1)

pub shifted_formed : (es : List Ends) → AreAllEndsFormed es → AreAllEndsFormed (map shifted_ends es)
shifted_formed [] w = tt
shifted_formed (e ∷ es) w = ((type_renamed _ e.left w.0.0, type_renamed _ e.right w.0.1), shifted_formed es w.1)

then_formed : (e : Ends) (r : Result (List Ends) F) → AreEndsFormed e → IfOk r AreAllEndsFormed → IfOk (then_ends e r) AreAllEndsFormed
then_formed e (Ok es) w v = (w, v)
then_formed e (Err f) w v = tt

-- PARTS OF TYPES

abbrev IsShapeFormed : Shape → Type 0
IsShapeFormed (Named n ts) = AreFormedTys ts
IsShapeFormed (Function t u) = IsFormedTy t × IsFormedTy u
IsShapeFormed (Equality r t u v) = IsFormedTy t × IsFormedTy u × IsFormedTy v
IsShapeFormed NoShape = Unit {0}

applied_shape_formed : (s : Shape) (u : NTy) → IsShapeFormed s → IsFormedTy u → IsShapeFormed (applied_shape s u)
applied_shape_formed (Named n ts) u w v = types_appended ts (u ∷ []) w (v, tt)
applied_shape_formed s u w v = tt

shape_formed : (t : NTy) → IsFormedTy t → IsShapeFormed (shape_of t)
shape_formed (NTVar i) w = tt
shape_formed (NTCon n) w = tt
shape_formed NTInt w = tt
shape_formed (NTApp t u) w = applied_shape_formed (shape_of t) u (shape_formed t w.0) w.1
shape_formed (NTFun t u) w = w
shape_formed (NTForall k t) w = tt
shape_formed (NTCoForall r t u v) w = (w.1, w.2, w.3)

paired_formed : (r : Role) (rs : List Role) (ts us : List NTy) → AreFormedTys ts → AreFormedTys us → AreAllEndsFormed (paired r rs ts us)
paired_formed r rs [] us w v = tt
paired_formed r rs (t ∷ ts) [] w v = tt
paired_formed r rs (t ∷ ts) (u ∷ us) w v = ((w.0, v.0), paired_formed r (later_roles rs) ts us w.1 v.1)

parts_formed : (ms : Modules) (r : Role) (s d : Shape) → IsShapeFormed s → IsShapeFormed d → IfSome (parts_of ms r s d) AreAllEndsFormed
parts_formed ms r (Named m ts) (Named n us) w v = either (λ o. IfSome o AreAllEndsFormed) _ (Some (paired r _ ts us)) None (paired_formed r _ ts us w v) tt
parts_formed ms r (Named m ts) d w v = tt
parts_formed ms r (Function s t) (Function u q) w v = ((w.0, v.0), ((w.1, v.1), tt))
parts_formed ms r (Function s t) d w v = tt
parts_formed ms r (Equality o s t u) (Equality q a b c) w v = either (λ o. IfSome o AreAllEndsFormed) _ (Some _) None ((w.0, v.0), ((w.1, v.1), ((w.2, v.2), tt))) tt
parts_formed ms r (Equality o s t u) d w v = tt
parts_formed ms r NoShape d w v = tt

part_formed : (ms : Modules) (ks : List Kind) (r : Result Ends F) → IfOk r AreEndsFormed → IfOk (part_of_one_kind ms ks r) AreEndsFormed
part_formed ms ks (Ok e) w = if_need AreEndsFormed _ _ (Ok e) w
part_formed ms ks (Err f) w = tt

nth_formed : (ms : Modules) (ks : List Kind) (i : ℕ) (o : Option (List Ends)) → IfSome o AreAllEndsFormed → IfOk (nth_ends ms ks i o) AreEndsFormed
nth_formed ms ks i (Some es) w = part_formed ms ks (at_distance es i) (if_at_distance AreEndsFormed es i w)
nth_formed ms ks i None w = tt

split_formed : (ms : Modules) (ks : List Kind) (side : NTy × NTy → NTy) (apart : Bool) (o q : Option (NTy × NTy)) → ((p : NTy × NTy) → ArePairFormed p → IsFormedTy (side p))
    → IfSome o ArePairFormed → IfSome q ArePairFormed → IfOk (split_ends ms ks side apart o q) AreEndsFormed
split_formed ms ks side apart (Some p) (Some q) g w v = if_need AreEndsFormed apart _ _ (if_need AreEndsFormed _ _ (Ok _) (g p w, g q v))
split_formed ms ks side apart (Some p) None g w v = tt
split_formed ms ks side apart None q g w v = tt

side_formed : (ms : Modules) (ks : List Kind) (side : NTy × NTy → NTy) (e : Ends) → ((p : NTy × NTy) → ArePairFormed p → IsFormedTy (side p)) → AreEndsFormed e
    → IfOk (side_ends ms ks side e) AreEndsFormed
side_formed ms ks side e g w =
    if_need AreEndsFormed _ _ _ (split_formed ms ks side _ (application_ends e.left) (application_ends e.right) g (application_ends_formed e.left w.0) (application_ends_formed e.right w.1))

-- FORALLS AND AXIOMS

abbrev IsForallFormed : Kind × NTy → Type 0
IsForallFormed p = IsFormedTy p.1

instance_formed : (ms : Modules) (ks : List Kind) (r : Role) (o q : Option (Kind × NTy)) (e : Ends) → IfSome o IsForallFormed → IfSome q IsForallFormed → AreEndsFormed e
    → IfOk (instantiated_ends ms ks r o q e) AreEndsFormed
instance_formed ms ks r (Some (j, t)) (Some (k, u)) e w v f =
    let both : AreEndsFormed (ends r (instantiated e.left t) (instantiated e.right u)) = (type_instantiated e.left t f.0 w, type_instantiated e.right u f.1 v) in
    search (if_need, both)
instance_formed ms ks r (Some p) None e w v f = tt
instance_formed ms ks r None q e w v f = tt

at_parameters_formed : (ts : List NTy) (t : NTy) → AreFormedTys ts → IsFormedTy t → IsFormedTy (at_parameters ts t)
at_parameters_formed ts t w v = type_put _ (images_before_all ts NTVar w (λ i. tt)) t v

axiom_ends_formed : (ms : Modules) (ks : List Kind) (o : Option Axiom) (es : List Ends) → IfSome o IsAxiomFormed → AreAllEndsFormed es → IfOk (axiom_ends ms ks o es) AreEndsFormed
axiom_ends_formed ms ks (Some a) es w v =
    let both : AreEndsFormed (ends a.ends.role (at_parameters (lefts es) a.ends.left) (at_parameters (rights es) a.ends.right)) =
    (at_parameters_formed (lefts es) a.ends.left (lefts_formed es v) w.0, at_parameters_formed (rights es) a.ends.right (rights_formed es v) w.1) in
    search (if_need, both)
axiom_ends_formed ms ks None es w v = tt

declared_formed : (ms : Modules) (ks : List Kind) (r : Result Kind F) (e : Ends) → AreEndsFormed e → IfOk (declared_ends ms ks r e) AreEndsFormed
declared_formed ms ks (Ok k) e w = if_need AreEndsFormed _ _ (Ok e) w
declared_formed ms ks (Err f) e w = tt

-- FORMS

joined_formed : (e d : Ends) → AreEndsFormed e → AreEndsFormed d → IfOk (joined_ends e d) AreEndsFormed
joined_formed e d w v = let both : AreEndsFormed (ends e.role e.left d.right) = (w.0, v.1) in search (if_need, both)

constructed_formed : (ms : Modules) (ks : List Kind) (r : Role) (n : Name) (es : List Ends) → is_upper_formed n ≡ true → AreAllEndsFormed es
    → IfOk (constructed_ends ms ks r n es) AreEndsFormed
constructed_formed ms ks r n es h w =
    let both = declared_formed ms ks (name_kind ms n (length es)) (ends r (applied_to (NTCon n) (lefts es)) (applied_to (NTCon n) (rights es)))
    (applied_formed (NTCon n) (lefts es) h (lefts_formed es w), applied_formed (NTCon n) (rights es) h (rights_formed es w)) in
    search (if_need, both)

application_formed : (ms : Modules) (ks : List Kind) (e d : Ends) → AreEndsFormed e → AreEndsFormed d → IfOk (applied_ends ms ks e d) AreEndsFormed
application_formed ms ks e d w v = let both : AreEndsFormed (ends e.role (NTApp e.left d.left) (NTApp e.right d.right)) = ((w.0, v.0), (w.1, v.1)) in search (if_need, both)

arrow_formed : (ms : Modules) (ks : List Kind) (e d : Ends) → AreEndsFormed e → AreEndsFormed d → IfOk (arrow_ends ms ks e d) AreEndsFormed
arrow_formed ms ks e d w v = let both : AreEndsFormed (ends e.role (NTFun e.left d.left) (NTFun e.right d.right)) = ((w.0, v.0), (w.1, v.1)) in search (if_need, both)

forall_formed : (ms : Modules) (ks : List Kind) (k : Kind) (e : Ends) → AreEndsFormed e → IfOk (forall_ends ms ks k e) AreEndsFormed
forall_formed ms ks k e w = let both : AreEndsFormed (ends e.role (NTForall k e.left) (NTForall k e.right)) = w in search (if_need, both)

coforall_formed : (ms : Modules) (ks : List Kind) (r s : Role) (e d b : Ends) → is_equality_role s ≡ true → AreEndsFormed e → AreEndsFormed d → AreEndsFormed b
    → IfOk (coforall_ends ms ks r s e d b) AreEndsFormed
coforall_formed ms ks r s e d b h w v u =
    let both : AreEndsFormed (ends r (NTCoForall s e.left d.left b.left) (NTCoForall s e.right d.right b.right)) = ((h, w.0, v.0, u.0), (h, w.1, v.1, u.1)) in
    let last = if_after AreEndsFormed (coforall_kinded ms ks e.right d.right b.right) _ (λ k. both) in
    let first = if_after AreEndsFormed (coforall_kinded ms ks e.left d.left b.left) _ (λ k. last) in
    if_need AreEndsFormed (are_at_roles r (s ∷ s ∷ R ∷ []) (e ∷ d ∷ b ∷ [])) _ _ first

part_ends_formed : (ms : Modules) (ks : List Kind) (i : ℕ) (e : Ends) → AreEndsFormed e → IfOk (part_ends ms ks i e) AreEndsFormed
part_ends_formed ms ks i e w =
    let found = nth_formed ms ks i (parts_of ms e.role (shape_of e.left) (shape_of e.right))
    (parts_formed ms e.role (shape_of e.left) (shape_of e.right) (shape_formed e.left w.0) (shape_formed e.right w.1)) in
    search (if_need, found)

represented_formed : (e : Ends) → AreEndsFormed e → IfOk (represented_ends e) AreEndsFormed
represented_formed e w = let both : AreEndsFormed (ends R e.left e.right) = w in search (if_need, both)

universal_formed : (t u : NTy) (j k : Kind) → IsFormedTy t → IsFormedTy u → IfOk (universal_ends t u j k) AreEndsFormed
universal_formed t u j k w v = let both : AreEndsFormed (ends P t u) = (w, v) in search (if_need, both)

-- COERCIONS

one_part : {Y : Type 0} (Q : Y → Type 0) (i : ℕ) (r : Result Ends F) (go : Ends → Result Y F) → IfOk r AreEndsFormed → ((e : Ends) → AreEndsFormed e → IfOk (go e) Q)
    → IfOk (and_then (under i r) go) Q
one_part Q = if_part AreEndsFormed Q

module _ (ms : Modules) (declared : AreDeclaredFormed ms) where
  mutual
    pub ends_formed : (ks : List Kind) (cs : List Ends) → AreAllEndsFormed cs → (g : NCo) → IsFormedCo g → IfOk (ends_or_fault ms ks cs g) AreEndsFormed
    ends_formed ks cs a (NGVar i) w = if_at_distance AreEndsFormed cs i a
    ends_formed ks cs a (NGRefl r t) w = let both : AreEndsFormed (ends r t t) = (w, w) in if_after AreEndsFormed (under 0 (kind_or_fault ms ks t)) _ (λ k. both)
    ends_formed ks cs a (NGSym g) w = one_part AreEndsFormed 0 _ _ (ends_formed ks cs a g w) (λ e f. (f.1, f.0))
    ends_formed ks cs a (NGTrans g h) w =
        one_part AreEndsFormed 0 _ _ (ends_formed ks cs a g w.0) (λ e f. one_part AreEndsFormed 1 _ _ (ends_formed ks cs a h w.1) (λ d k. joined_formed e d f k))
    ends_formed ks cs a (NGTc r n gs) w = if_then AreAllEndsFormed AreEndsFormed _ _ (all_ends_formed ks cs a 0 gs w.3) (λ es f. constructed_formed ms ks r n es w.1 f)
    ends_formed ks cs a (NGCapp g h) w =
        one_part AreEndsFormed 0 _ _ (ends_formed ks cs a g w.0) (λ e f. one_part AreEndsFormed 1 _ _ (ends_formed ks cs a h w.1) (λ d k. application_formed ms ks e d f k))
    ends_formed ks cs a (NGFun g h) w =
        one_part AreEndsFormed 0 _ _ (ends_formed ks cs a g w.0) (λ e f. one_part AreEndsFormed 1 _ _ (ends_formed ks cs a h w.1) (λ d k. arrow_formed ms ks e d f k))
    ends_formed ks cs a (NGAll k g) w =
        one_part AreEndsFormed 0 _ _ (ends_formed (k ∷ ks) (map shifted_ends cs) (shifted_formed cs a) g w) (λ e f. forall_formed ms ks k e f)
    ends_formed ks cs a (NGCoAll r s f g h) w =
        one_part AreEndsFormed 0 _ _ (ends_formed ks cs a f w.2) (λ e x. one_part AreEndsFormed 1 _ _ (ends_formed ks cs a g w.3) (λ d y.
        one_part AreEndsFormed 2 _ _ (ends_formed ks cs a h w.4) (λ b z. coforall_formed ms ks r s e d b w.1 x y z)))
    ends_formed ks cs a (NGInst g h) w =
        one_part AreEndsFormed 0 _ _ (ends_formed ks cs a g w.0) (λ e f. one_part AreEndsFormed 1 _ _ (ends_formed ks cs a h w.1) (λ d k.
        instance_formed ms ks e.role (forall_parts e.left) (forall_parts e.right) d (forall_parts_formed e.left f.0) (forall_parts_formed e.right f.1) k))
    ends_formed ks cs a (NGNth i g) w = one_part AreEndsFormed 0 _ _ (ends_formed ks cs a g w.1) (λ e f. part_ends_formed ms ks i e f)
    ends_formed ks cs a (NGLeft g) w = one_part AreEndsFormed 0 _ _ (ends_formed ks cs a g w) (λ e f. side_formed ms ks (λ p. p.0) e (λ p v. v.0) f)
    ends_formed ks cs a (NGRight g) w = one_part AreEndsFormed 0 _ _ (ends_formed ks cs a g w) (λ e f. side_formed ms ks (λ p. p.1) e (λ p v. v.1) f)
    ends_formed ks cs a (NGSub g) w = one_part AreEndsFormed 0 _ _ (ends_formed ks cs a g w) represented_formed
    ends_formed ks cs a (NGAx n gs) w =
        if_then AreAllEndsFormed AreEndsFormed _ _ (all_ends_formed ks cs a 0 gs w.1) (λ es f. axiom_ends_formed ms ks (axiom_named ms n) es (axiom_named_formed ms declared n w.0) f)
    ends_formed ks cs a (NGUniv t u) w =
        if_after AreEndsFormed (under 0 (kind_or_fault ms ks t)) _ (λ j. if_after AreEndsFormed (under 1 (kind_or_fault ms ks u)) _ (λ k. universal_formed t u j k w.0 w.1))

    all_ends_formed : (ks : List Kind) (cs : List Ends) → AreAllEndsFormed cs → (i : ℕ) (gs : NCos) → AreFormedCos gs → IfOk (all_ends_or_fault ms ks cs i gs) AreAllEndsFormed
    all_ends_formed ks cs a i NoNCos w = tt
    all_ends_formed ks cs a i (MoreNCos g rest) w =
        one_part AreAllEndsFormed i _ _ (ends_formed ks cs a g w.0) (λ e f. then_formed e _ f (all_ends_formed ks cs a (i + 1) rest w.1))
