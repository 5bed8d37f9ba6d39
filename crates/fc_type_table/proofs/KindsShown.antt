-- The kind of a tree, or its fault, is that of the type that it shows, and the kind that is told of a tree is its kind.
use Rattle.std.proofs.Common.{◌≡◌, ℕ, suc, ◌+◌, ◌-◌, ◌<◌, ◌≤◌, Bool, true, false, ◌&&◌, nat_le, if◌then◌else◌, List, [], ◌∷◌, ◌++◌, length, option_map, Option, Some, None, Result, Ok, Err, refl, sym, ap, ◌∙◌, arith, length-append}
use Rattle.std.proofs.lemmas.Bool.Decides.{nat_tests}
use Rattle.fc_syntax.specs.Tree.{Kind, KStar, KHash}
use Rattle.fc_syntax.specs.declared.fault.FaultKind.{FaultKind}
use Rattle.fc_syntax.specs.declared.fault.FaultKind.TheVariants.{FamilyArity, KindsDiffer, NotAType, UnliftedVariable}
use Rattle.fc_model.specs.Faulting.{F, At, and_then, at_distance, need, under}
use Rattle.fc_model.specs.Kinding.{Modules, applied_kind, arrows, decl_kind, head_kind_or_fault, is_lifted, is_star, is_value_kind, kind_or_fault, same_kind, type_decl}
use Rattle.fc_model.specs.Nameless.{NDecl, NData, NNew, NFamily, NAxiom, NDef, NWrap}
use Rattle.fc_model.specs.Typing.{answered}
use Rattle.fc_type_table.specs.Nodes.{Judges, kind_at, tree_at}
use Rattle.fc_type_table.specs.Scopes.{IsTypeAt, Scoped, indexed, shown_at}
use Rattle.fc_type_table.specs.TreeFaults.{behind_ends, kind_or_fault_in}
use Rattle.fc_type_table.specs.TreeKinds.{IsKind, arguments_needed, arguments_of, at_arguments, kept_kind, kind_in, kind_of_application, kind_of_coforall, kind_of_forall, kind_of_function, lifted_tree, own_kind}
use Rattle.fc_type_table.specs.Trees.{Tree, LStar, LHash, LArrow, LBound, LFree, LCon, LInt, LApp, LFun, LForall, LCoForall}
use Rattle.fc_type_table.specs.declared.node.Judged.{Judged}
use Rattle.fc_type_table.specs.declared.node.Node.{Node}
use Rattle.fc_type_table.proofs.Labels.{label-found, label-inner, label-outer}

-- ---- the type that a tree shows

lifted_in : (t : Tree) → IsKind t → is_lifted (kind_in t) ≡ lifted_tree t
lifted_in LStar h = refl
lifted_in LHash h = refl
lifted_in (LArrow a b) h = cc (lifted_in a h.0, lifted_in b h.1)
lifted_in t h = absurd h

-- what is found at a distance, from the same without its fault
at_found : (ks : List Kind) (i : ℕ) (k : Kind) → answered (at_distance ks i) ≡ Some k → at_distance ks i ≡ Ok k
at_found ks i k e = by (at_distance ks i) e
  where
    by : (r : Result Kind F) → answered r ≡ Some k → r ≡ Ok k
    by (Ok j) p = cc
    by (Err f) p = absurd (cc)

module _ (ms : Modules) (ks : List Kind) where
  pub judged : (js : List Kind) (d : ℕ) → d ≡ length js → (args : ℕ) (t : Tree) → Scoped ks js t → head_kind_or_fault ms (js ++ ks) args (indexed (length ks) d t) ≡ kind_or_fault_in ms args t
  unfolding indexed
  judged js d e args (LBound i k) h =
      at_found (js ++ ks) i (kind_in k) (label-found (js ++ ks) i (omega (arith, length-append js ks)) ∙ ap (λ x. Some (kind_in x)) (label-inner js ks i h.0 ∙ sym h.1))
  judged js d e args (LFree l k) h =
      at_found (js ++ ks) (d + ((length ks - 1) - l)) (kind_in k) (label-found (js ++ ks) (d + ((length ks - 1) - l)) (omega (arith, length-append js ks))
      ∙ ap (λ x. Some (kind_in x)) (label-outer js ks (d + ((length ks - 1) - l)) ((length ks - 1) - l) (omega arith) ∙ sym h.1))
  judged js d e args (LCon n) h = refl
  judged js d e args LInt h = refl
  judged js d e args (LApp t u) h =
      ap (λ r. and_then (under 0 r) (λ j. and_then (under 1 (head_kind_or_fault ms (js ++ ks) 0 (indexed (length ks) d u))) (λ k. applied_kind j k))) (judged js d e (suc args) t h.0)
      ∙ ap (λ r. and_then (under 0 (kind_or_fault_in ms (suc args) t)) (λ j. and_then (under 1 r) (λ k. applied_kind j k))) (judged js d e 0 u h.1)
  judged js d e args (LFun t u) h =
      ap (λ r. and_then (under 0 r) (λ j. and_then (under 1 (head_kind_or_fault ms (js ++ ks) 0 (indexed (length ks) d u))) (λ k. need (is_value_kind j && is_value_kind k) NotAType (Ok KStar)))) (judged js d e 0 t h.0)
      ∙ ap (λ r. and_then (under 0 (kind_or_fault_in ms 0 t)) (λ j. and_then (under 1 r) (λ k. need (is_value_kind j && is_value_kind k) NotAType (Ok KStar)))) (judged js d e 0 u h.1)
  judged js d e args (LForall j t) h =
      ap (λ r. and_then (under 0 r) (λ k. need (is_lifted (kind_in j)) UnliftedVariable (need (is_star k) NotAType (Ok KStar)))) (judged (kind_in j ∷ js) (d + 1) (omega arith) 0 t h.1)
      ∙ ap (λ b. and_then (under 0 (kind_or_fault_in ms 0 t)) (λ k. need b UnliftedVariable (need (is_star k) NotAType (Ok KStar)))) (lifted_in j h.0)
  judged js d e args (LCoForall r a b t) h =
      let y = head_kind_or_fault ms (js ++ ks) 0 (indexed (length ks) d b) in
      let z = head_kind_or_fault ms (js ++ ks) 0 (indexed (length ks) d t) in
      ap (λ x. and_then (under 0 x) (λ i. and_then (under 1 y) (λ j. behind_ends i j z))) (judged js d e 0 a h.0)
      ∙ ap (λ x. and_then (under 0 (kind_or_fault_in ms 0 a)) (λ i. and_then (under 1 x) (λ j. behind_ends i j z))) (judged js d e 0 b h.1)
      ∙ ap (λ x. and_then (under 0 (kind_or_fault_in ms 0 a)) (λ i. and_then (under 1 (kind_or_fault_in ms 0 b)) (λ j. behind_ends i j x))) (judged js d e 0 t h.2)
  judged js d e args t h = absurd h

pub kind_or_fault-shown : (ms : Modules) (ns : List Node) (ks : List Kind) (id : ℕ) → IsTypeAt ns ks id → kind_or_fault ms ks (shown_at ns ks id) ≡ kind_or_fault_in ms 0 (tree_at ns id)
unfolding shown_at
kind_or_fault-shown ms ns ks id t = judged ms ks [] 0 refl 0 (tree_at ns id) t.scoped

-- ---- without faults

needed_test : (b : Bool) (f : FaultKind) → answered (need b f (Ok KStar)) ≡ (if b then Some KStar else None)
needed_test true f = refl
needed_test false f = refl

needed_tests : (b c : Bool) (f g : FaultKind) → answered (need b f (need c g (Ok KStar))) ≡ (if b && c then Some KStar else None)
needed_tests true c f g = needed_test c g
needed_tests false c f g = refl

application_answered : (r s : Result Kind F) → answered (and_then (under 0 r) (λ j. and_then (under 1 s) (λ k. applied_kind j k))) ≡ kind_of_application (answered r) (answered s)
application_answered (Ok j) (Ok k) = refl
application_answered (Ok j) (Err (At f d p)) = refl
application_answered (Err (At f d p)) s = refl

function_answered : (r s : Result Kind F)
    → answered (and_then (under 0 r) (λ j. and_then (under 1 s) (λ k. need (is_value_kind j && is_value_kind k) NotAType (Ok KStar)))) ≡ kind_of_function (answered r) (answered s)
function_answered (Ok j) (Ok k) = needed_test (is_value_kind j && is_value_kind k) NotAType
function_answered (Ok j) (Err (At f d p)) = refl
function_answered (Err (At f d p)) s = refl

forall_answered : (l : Bool) (r : Result Kind F) → answered (and_then (under 0 r) (λ j. need l UnliftedVariable (need (is_star j) NotAType (Ok KStar)))) ≡ kind_of_forall l (answered r)
forall_answered l (Ok j) = needed_tests l (is_star j) UnliftedVariable NotAType
forall_answered l (Err (At f d p)) = refl

coforall_answered : (r s t : Result Kind F) → answered (and_then (under 0 r) (λ i. and_then (under 1 s) (λ j. behind_ends i j t))) ≡ kind_of_coforall (answered r) (answered s) (answered t)
coforall_answered (Ok i) (Ok j) (Ok k) = needed_tests (same_kind i j) (is_value_kind k) KindsDiffer NotAType
coforall_answered (Ok i) (Ok j) (Err (At f d p)) = refl
coforall_answered (Ok i) (Err (At f d p)) t = refl
coforall_answered (Err (At f d p)) s t = refl

-- where no argument is needed
at_any : (args : ℕ) (k : Option Kind) → at_arguments 0 args k ≡ k
at_any args k = let e : nat_le 0 args ≡ true = grind (arith, nat_tests) in rw e refl

-- the head of one argument more
one_more : (n args : ℕ) → nat_le n (suc args) ≡ nat_le (n - 1) args
one_more n args = grind (arith, nat_tests)

application_arguments : (n args : ℕ) (j k : Option Kind) → kind_of_application (at_arguments n (suc args) j) k ≡ at_arguments (n - 1) args (kind_of_application j k)
application_arguments n args j k = ap (λ b. kind_of_application (if b then j else None) k) (one_more n args) ∙ by (nat_le (n - 1) args)
  where
    by : (b : Bool) → kind_of_application (if b then j else None) k ≡ (if b then kind_of_application j k else None)
    by true = refl
    by false = refl

-- the kind of a declaration at a number of arguments
declared_arguments : (d : Option NDecl) (args : ℕ) → answered (decl_kind d args) ≡ at_arguments (arguments_of d) args (answered (decl_kind d (arguments_of d)))
declared_arguments None args = sym (at_any args None)
declared_arguments (Some (NData n ps cs)) args = sym (at_any args _)
declared_arguments (Some (NNew n ps t con)) args = sym (at_any args _)
declared_arguments (Some (NFamily n ps k)) args =
    let enough : nat_le (length ps) (length ps) ≡ true = grind (arith, nat_tests) in
    rw enough (by (nat_le (length ps) args))
  where
    by : (b : Bool) → answered (need b FamilyArity (Ok (arrows ps k))) ≡ (if b then Some (arrows ps k) else None)
    by true = refl
    by false = refl
declared_arguments (Some (NAxiom n ps t u)) args = sym (at_any args None)
declared_arguments (Some (NDef n t e)) args = sym (at_any args None)
declared_arguments (Some (NWrap n t e)) args = sym (at_any args None)

-- what is told of a tree is its kind
pub told : (ms : Modules) (args : ℕ) (t : Tree) → answered (kind_or_fault_in ms args t) ≡ at_arguments (arguments_needed ms t) args (kept_kind ms t)
told ms args LStar = sym (at_any args None)
told ms args LHash = sym (at_any args None)
told ms args (LArrow a b) = sym (at_any args None)
told ms args (LBound i k) = sym (at_any args (Some (kind_in k)))
told ms args (LFree l k) = sym (at_any args (Some (kind_in k)))
told ms args (LCon n) = declared_arguments (type_decl (ms n.module) n.text) args
told ms args LInt = sym (at_any args (Some KHash))
told ms args (LApp t u) =
    application_answered (kind_or_fault_in ms (suc args) t) (kind_or_fault_in ms 0 u)
    ∙ ap (λ x. kind_of_application x (answered (kind_or_fault_in ms 0 u))) (told ms (suc args) t)
    ∙ ap (λ x. kind_of_application (at_arguments (arguments_needed ms t) (suc args) (kept_kind ms t)) x) (told ms 0 u)
    ∙ application_arguments (arguments_needed ms t) args (kept_kind ms t) (own_kind ms u)
told ms args (LFun t u) =
    function_answered (kind_or_fault_in ms 0 t) (kind_or_fault_in ms 0 u)
    ∙ ap (λ x. kind_of_function x (answered (kind_or_fault_in ms 0 u))) (told ms 0 t)
    ∙ ap (λ x. kind_of_function (own_kind ms t) x) (told ms 0 u)
    ∙ sym (at_any args (kept_kind ms (LFun t u)))
told ms args (LForall j t) =
    forall_answered (lifted_tree j) (kind_or_fault_in ms 0 t)
    ∙ ap (λ x. kind_of_forall (lifted_tree j) x) (told ms 0 t)
    ∙ sym (at_any args (kept_kind ms (LForall j t)))
told ms args (LCoForall r a b t) =
    let x = kind_or_fault_in ms 0 a in
    let y = kind_or_fault_in ms 0 b in
    let z = kind_or_fault_in ms 0 t in
    coforall_answered x y z
    ∙ ap (λ i. kind_of_coforall i (answered y) (answered z)) (told ms 0 a)
    ∙ ap (λ i. kind_of_coforall (own_kind ms a) i (answered z)) (told ms 0 b)
    ∙ ap (λ i. kind_of_coforall (own_kind ms a) (own_kind ms b) i) (told ms 0 t)
    ∙ sym (at_any args (kept_kind ms (LCoForall r a b t)))

-- the kind of a number is that of the type that it shows
pub own_kind-shown : (ms : Modules) (ns : List Node) (ks : List Kind) (id : ℕ) → IsTypeAt ns ks id → own_kind ms (tree_at ns id) ≡ answered (kind_or_fault ms ks (shown_at ns ks id))
own_kind-shown ms ns ks id t = sym (told ms 0 (tree_at ns id)) ∙ sym (ap answered (kind_or_fault-shown ms ns ks id t))

-- ---- what is told of a head

module _ (ms : Modules) (ns : List Node) (t : Tree) (j : Judged) (args : ℕ) (h : Judges ms ns t j) where
  at_head : answered (kind_or_fault_in ms args t) ≡ at_arguments j.needed args (option_map (λ k. kind_at ns k.0) j.kind)
  at_head = told ms args t ∙ ap (λ n. at_arguments n args (kept_kind ms t)) (sym h.needed) ∙ ap (at_arguments j.needed args) (sym h.kind)

  pub kind_enough : j.needed ≤ args → option_map (λ k. kind_at ns k.0) j.kind ≡ answered (kind_or_fault_in ms args t)
  kind_enough low =
      let e : nat_le j.needed args ≡ true = grind (arith, nat_tests) in
      sym (at_head ∙ ap (λ b. if b then option_map (λ k. kind_at ns k.0) j.kind else None) e)

  pub kind_missing : args < j.needed → None ≡ answered (kind_or_fault_in ms args t)
  kind_missing high =
      let e : nat_le j.needed args ≡ false = grind (arith, nat_tests) in
      sym (at_head ∙ ap (λ b. if b then option_map (λ k. kind_at ns k.0) j.kind else None) e)

pub ruleset head_rules = (kind_enough, kind_missing)

-- the parts of a type that takes a coercion, where only what comes behind its ends can be at fault
pub behind_none : (x y r : Result Kind F) (i j : Kind) → x ≡ Ok i → y ≡ Ok j → answered (and_then x (λ a. and_then y (λ b. behind_ends a b r))) ≡ None → answered (behind_ends i j r) ≡ None
behind_none x y r i j p q e = cc
