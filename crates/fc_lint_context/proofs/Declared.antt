-- The types of what is declared: put into a table in turn, found there, and kept while it grows.
use Rattle.std.proofs.Common.{◌≡◌, ℕ, zero, suc, ◌+◌, ◌≤◌, List, [], ◌∷◌, ◌++◌, length, map, slice_get, take, Option, Some, None, IfSome, Result, Ok, Err, OnOk, refl, sym, ap, subst, ◌∙◌, arith}
use Rattle.std.proofs.lemmas.List.{length-map, take_more}
use Rattle.std.proofs.lemmas.Option.{get_or_from_slice_get, slice_get-map, slice_get_within}
use Rattle.std.specs.Option.{option_map}
use Rattle.fc_syntax.specs.Tree.{Kind, Word}
use Rattle.fc_syntax.specs.declared.ty.Name.{Name}
use Rattle.fc_syntax.specs.declared.fault.FaultKind.TheVariants.{Unbound}
use Rattle.fc_model.specs.Calling.{Constructor, constructor_type}
use Rattle.fc_model.specs.Coercing.{Axiom}
use Rattle.fc_model.specs.Faulting.{F}
use Rattle.fc_model.specs.Nameless.{NTy, NDecl}
use Rattle.fc_model.specs.Says.{IsFlaw, Refuses}
use Rattle.fc_model.specs.declared.flaw.Flawed.{Flawed}
use Rattle.fc_model.specs.declared.flaw.Flawed.TheVariants.{Memory, Flaw as OfFlaw}
use Rattle.fc_types.proofs.ByNumber.{axioms_in-own, constructors_in-own}
use Rattle.fc_types.specs.Listed.{axioms_in, constructors_in, own_axioms, own_constructors}
use Rattle.fc_types.specs.TableViews.{axiom_of}
use Rattle.fc_types.specs.Tables.{found}
use Rattle.fc_types.specs.declared.declarations.Declarations.{Declarations}
use Rattle.fc_type_scope.proofs.Numbers.{AreTypesAt-at, AreTypesAt-grows, shown_all-get, shown_all-grows, shown_all-push}
use Rattle.fc_type_scope.specs.Scopes.{AreTypesAt, shown_all_at}
use Rattle.fc_type_table.specs.Nodes.{Extends}
use Rattle.fc_type_table.specs.Scopes.{IsTypeAt, shown_at}
use Rattle.fc_type_table.specs.declared.node.Node.{Node}
use Rattle.fc_type_table.specs.declared.node.TypeId.{TypeId}
use Rattle.fc_lint_context.proofs.Closed.{IsTypeAt-closed, shown_at-closed}
use Rattle.fc_lint_context.specs.DeclaredViews.{AreRead, AreSidesAt, ShowSides, axiom_left, axiom_lefts, axiom_right, axiom_rights, constructor_types, left_side, name_in, own_constructor_type, right_side}
use Rattle.fc_lint_context.specs.declared.declared_types.DeclaredTypes.{DeclaredTypes}
use Rattle.fc_lint_context.specs.declared.declared_types.TypedAxiom.{TypedAxiom}

pub AreRead-grows : (old new : List Node) (d : DeclaredTypes) → Extends old new → AreRead old d → AreRead new d
AreRead-grows old new d more r = record {
  definitions_in = AreTypesAt-grows old new [] d.definition_types more r.definitions_in;
  definitions = shown_all-grows old new [] d.definition_types more r.definitions_in ∙ r.definitions;
  constructors_in = AreTypesAt-grows old new [] d.constructor_types more r.constructors_in;
  constructors = shown_all-grows old new [] d.constructor_types more r.constructors_in ∙ r.constructors;
  lefts_in = AreTypesAt-grows old new [] d.axiom_lefts more r.lefts_in;
  lefts = shown_all-grows old new [] d.axiom_lefts more r.lefts_in ∙ r.lefts;
  rights_in = AreTypesAt-grows old new [] d.axiom_rights more r.rights_in;
  rights = shown_all-grows old new [] d.axiom_rights more r.rights_in ∙ r.rights;
}

-- ---- a closed type, found at a number

valid_at : (ns : List Node) (ids : List TypeId) (i : ℕ) (id : TypeId) → slice_get ids i ≡ Some id → AreTypesAt ns [] ids → IsTypeAt ns [] id.0
valid_at ns ids i id e ts =
    subst (λ (x : TypeId). IsTypeAt ns [] x.0) (get_or_from_slice_get ids i id id e) (AreTypesAt-at ns [] ids i id (slice_get_within ids i id e) ts)

pub type_found : (ns : List Node) (ks : List Kind) (ids : List TypeId) (i : ℕ) (o : Option TypeId) → o ≡ slice_get ids i → AreTypesAt ns [] ids → IfSome o (λ id. IsTypeAt ns ks id.0)
type_found ns ks ids i (Some id) e ts = IsTypeAt-closed ns ks id.0 (valid_at ns ids i id (sym e) ts)
type_found ns ks ids i None e ts = tt

pub type_shown : (ns : List Node) (ks : List Kind) (ids : List TypeId) (us : List NTy) (i : ℕ) (o : Option TypeId) → o ≡ slice_get ids i → AreTypesAt ns [] ids → shown_all_at ns [] ids ≡ us
    → option_map (λ (id : TypeId). shown_at ns ks id.0) o ≡ slice_get us i
type_shown ns ks ids us i (Some id) e ts all =
    ap Some (shown_at-closed ns ks id.0 (valid_at ns ids i id (sym e) ts)) ∙ ap (option_map (λ (x : TypeId). shown_at ns [] x.0)) e ∙ sym (shown_all-get ns [] ids i) ∙ ap (λ ts. slice_get ts i) all
type_shown ns ks ids us i None e ts all =
    ap (option_map (λ (x : TypeId). shown_at ns [] x.0)) e ∙ sym (shown_all-get ns [] ids i) ∙ ap (λ ts. slice_get ts i) all

pub no_definition : (e : Flawed) (r : Result NTy F) → IsFlaw Unbound e → found None ≡ r → Refuses e r
no_definition Memory r h g = tt
no_definition (OfFlaw f) r h g = sym g ∙ ap Err (sym h)

-- what is said to stand at an index stands behind those before it
pub take_said : {X : Type 0} (xs : List X) (i : ℕ) (x : X) → Some x ≡ slice_get xs i → take (i + 1) xs ≡ take i xs ++ x ∷ []
take_said xs i x e = take_more xs i x (slice_get_within xs i x (sym e)) ∙ ap (λ y. take i xs ++ y ∷ []) (get_or_from_slice_get xs i x x (sym e))

-- one type more, where there was memory for it
pub types-pushed : {T E X : Type 0} (r : Result T E) (xs before after : List X) (i : ℕ) (x : X) → before ≡ take i xs → Some x ≡ slice_get xs i → OnOk r (after ≡ before ++ x ∷ []) → OnOk r (after ≡ take (i + 1) xs)
types-pushed (Ok y) xs before after i x so_far at e = e ∙ ap (λ ys. ys ++ x ∷ []) so_far ∙ sym (take_said xs i x at)
types-pushed (Err y) xs before after i x so_far at e = tt

-- ---- what is made of each declared thing

no_type : {X Y : Type 0} (f : X → Y) (xs : List X) (i : ℕ) → None ≡ slice_get (map f xs) i → slice_get xs i ≡ None
no_type f xs i e = by (slice_get xs i) (e ∙ slice_get-map f xs i)
  where
    by : (o : Option _) → None ≡ option_map f o → o ≡ None
    by None e = refl
    by (Some x) e = cc

made_none : {X : Type 0} (f : X → NTy) (xs : List X) (ns : List Node) (ids : List TypeId) (i : ℕ) → shown_all_at ns [] ids ≡ map f xs → None ≡ slice_get ids i → slice_get xs i ≡ None
made_none f xs ns ids i all e = no_type f xs i (ap (option_map (λ (id : TypeId). shown_at ns [] id.0)) e ∙ sym (shown_all-get ns [] ids i) ∙ ap (λ ts. slice_get ts i) all)

made_shown : {X : Type 0} (f : X → NTy) (xs : List X) (ns : List Node) (ks : List Kind) (ids : List TypeId) (i : ℕ) (id : TypeId) (x : X) → AreTypesAt ns [] ids → shown_all_at ns [] ids ≡ map f xs → slice_get ids i ≡ Some id
    → slice_get xs i ≡ Some x → shown_at ns ks id.0 ≡ f x
made_shown f xs ns ks ids i id x ts all at here =
    let shown : Some (shown_at ns ks id.0) ≡ Some (f x) = type_shown ns ks ids (map f xs) i (Some id) (sym at) ts all ∙ slice_get-map f xs i ∙ ap (option_map f) here in cc

-- one type more
made_pushed : {X : Type 0} (f : X → NTy) (xs : List X) (old new : List Node) (ids pushed : List TypeId) (id : TypeId) (i : ℕ) (x : X) → Extends old new → AreTypesAt old [] ids → shown_all_at old [] ids ≡ take i (map f xs)
    → Some x ≡ slice_get xs i → shown_at new [] id.0 ≡ f x → pushed ≡ ids ++ id ∷ [] → shown_all_at new [] pushed ≡ take (i + 1) (map f xs)
made_pushed f xs old new ids pushed id i x more ts so_far at shown e =
    let there : Some (f x) ≡ slice_get (map f xs) i = ap (option_map f) at ∙ sym (slice_get-map f xs i) in
    shown_all-push old new [] ids pushed id (f x) more ts shown e ∙ ap (λ us. us ++ f x ∷ []) so_far ∙ sym (take_said (map f xs) i (f x) there)

take_far : {X : Type 0} (xs : List X) (n : ℕ) → length xs ≤ n → take n xs ≡ xs
take_far [] zero far = refl
take_far [] (suc n) far = refl
take_far (x ∷ xs) zero far = absurd (omega arith)
take_far (x ∷ xs) (suc n) far = ap (λ ys. x ∷ ys) (take_far xs n (omega arith))

made_all : {X : Type 0} (f : X → NTy) (xs : List X) (n : ℕ) (ts : List NTy) → ts ≡ take n (map f xs) → length xs ≤ n → ts ≡ map f xs
made_all f xs n ts e far = e ∙ take_far (map f xs) n (omega (arith, length-map xs f))

-- ---- constructors

abbrev type_of : Word × Constructor → NTy
type_of k = own_constructor_type k.0 k.1

-- where no pair stands, nothing stands in what is made of the pairs
no_part : {X Y : Type 0} (xs : List (X × Y)) (ys : List Y) (i : ℕ) → ys ≡ map (λ p. p.1) xs → slice_get xs i ≡ None → slice_get ys i ≡ None
no_part xs ys i e none = ap (λ zs. slice_get zs i) e ∙ slice_get-map (λ p. p.1) xs i ∙ ap (option_map (λ p. p.1)) none

-- as many pairs as parts
far_part : {X Y : Type 0} (xs : List (X × Y)) (ys : List Y) (n : ℕ) → ys ≡ map (λ p. p.1) xs → length ys ≤ n → length xs ≤ n
far_part {X} {Y} xs ys n e far =
    let count : length (map (λ (p : X × Y). p.1) xs) ≡ length xs = length-map xs (λ p. p.1) in
    let same : length ys ≡ length (map (λ (p : X × Y). p.1) xs) = ap length e in omega arith

pub constructor_none : (ns : List Node) (d : DeclaredTypes) (i : ℕ) → AreRead ns d → None ≡ slice_get d.constructor_types i → slice_get (constructors_in d.declared.now) i ≡ None
unfolding constructor_types
constructor_none ns d i r e =
    let ks = own_constructors d.declared.now in
    no_part ks (constructors_in d.declared.now) i (constructors_in-own d.declared.now) (made_none type_of ks ns d.constructor_types i r.constructors e)

pub constructor_valid : (ns : List Node) (ks : List Kind) (d : DeclaredTypes) (i : ℕ) (id : TypeId) → AreRead ns d → slice_get d.constructor_types i ≡ Some id → IsTypeAt ns ks id.0
constructor_valid ns ks d i id r e = IsTypeAt-closed ns ks id.0 (valid_at ns d.constructor_types i id e r.constructors_in)

-- of its name, only the module counts
alike : (m n : Name) (k : Constructor) → m.module ≡ n.module → constructor_type m k ≡ constructor_type n k
alike m n k e = let f : Option Word → NTy = λ o. constructor_type (record { «module» = o; text = n.text }) k in ap f e

pub constructor_shown : (ns : List Node) (ks : List Kind) (d : DeclaredTypes) (i : ℕ) (id : TypeId) (n : Name) (k : Word × Constructor) → AreRead ns d → slice_get d.constructor_types i ≡ Some id
    → Some k ≡ slice_get (own_constructors d.declared.now) i → option_map (λ k. k.0) (slice_get (own_constructors d.declared.now) i) ≡ n.module → shown_at ns ks id.0 ≡ constructor_type n k.1
unfolding constructor_types
constructor_shown ns ks d i id n k r at here own =
    made_shown type_of (own_constructors d.declared.now) ns ks d.constructor_types i id k r.constructors_in r.constructors at (sym here)
    ∙ alike (name_in k.0 k.1.data_word) n k.1 (ap (option_map (λ k. k.0)) here ∙ own)

-- one type more, where there was memory for it
pub constructor_pushed : {T E : Type 0} (r : Result T E) (old new : List Node) (d : Declarations) (i : ℕ) (ids pushed : List TypeId) (id : TypeId) (k : Word × Constructor) → Extends old new → AreTypesAt old [] ids
    → shown_all_at old [] ids ≡ take i (constructor_types d) → Some k ≡ slice_get (own_constructors d) i → shown_at new [] id.0 ≡ own_constructor_type k.0 k.1 → OnOk r (pushed ≡ ids ++ id ∷ [])
    → OnOk r (shown_all_at new [] pushed ≡ take (i + 1) (constructor_types d))
unfolding constructor_types
constructor_pushed (Err x) old new d i ids pushed id k more ts so_far at shown e = tt
constructor_pushed (Ok x) old new d i ids pushed id k more ts so_far at shown e = made_pushed type_of (own_constructors d) old new ids pushed id i k more ts so_far at shown e

pub constructors_all : (d : Declarations) (n : ℕ) (ts : List NTy) → ts ≡ take n (constructor_types d) → length (constructors_in d) ≤ n → ts ≡ constructor_types d
unfolding constructor_types
constructors_all d n ts e far = made_all type_of (own_constructors d) n ts e (far_part (own_constructors d) (constructors_in d) n (constructors_in-own d) far)

-- ---- axioms

pub left_none : (ns : List Node) (d : DeclaredTypes) (i : ℕ) → AreRead ns d → None ≡ slice_get d.axiom_lefts i → slice_get (axioms_in d.declared.now) i ≡ None
unfolding axiom_lefts
left_none ns d i r e =
    let xs = own_axioms d.declared.now in
    no_part xs (axioms_in d.declared.now) i (axioms_in-own d.declared.now) (made_none axiom_left xs ns d.axiom_lefts i r.lefts e)

pub right_none : (ns : List Node) (d : DeclaredTypes) (i : ℕ) → AreRead ns d → None ≡ slice_get d.axiom_rights i → slice_get (axioms_in d.declared.now) i ≡ None
unfolding axiom_rights
right_none ns d i r e =
    let xs = own_axioms d.declared.now in
    no_part xs (axioms_in d.declared.now) i (axioms_in-own d.declared.now) (made_none axiom_right xs ns d.axiom_rights i r.rights e)

pub axiom_valid : (ns : List Node) (ks : List Kind) (d : DeclaredTypes) (i : ℕ) (k : TypedAxiom) → AreRead ns d → slice_get d.axiom_lefts i ≡ Some k.left → slice_get d.axiom_rights i ≡ Some k.right → AreSidesAt ns ks k
axiom_valid ns ks d i k r left right = record {
  left = IsTypeAt-closed ns ks k.left.0 (valid_at ns d.axiom_lefts i k.left left r.lefts_in);
  right = IsTypeAt-closed ns ks k.right.0 (valid_at ns d.axiom_rights i k.right right r.rights_in);
}

pub axiom_shown : (ns : List Node) (ks : List Kind) (d : DeclaredTypes) (i : ℕ) (n : Name) (x : Word × NDecl) (k : TypedAxiom) (a : Axiom) → AreRead ns d → slice_get d.axiom_lefts i ≡ Some k.left → slice_get d.axiom_rights i ≡ Some k.right
    → Some x ≡ slice_get (own_axioms d.declared.now) i → option_map (λ x. x.0) (slice_get (own_axioms d.declared.now) i) ≡ n.module → axiom_of n.module x.1 ≡ Some a → ShowSides ns ks k a
unfolding axiom_lefts axiom_rights
axiom_shown ns ks d i n x k a r left right here own is =
    let there : Some x.0 ≡ n.module = ap (option_map (λ x. x.0)) here ∙ own in
    let same : axiom_of (Some x.0) x.1 ≡ Some a = ap (λ o. axiom_of o x.1) there ∙ is in
    record {
      left = made_shown axiom_left (own_axioms d.declared.now) ns ks d.axiom_lefts i k.left x r.lefts_in r.lefts left (sym here) ∙ ap left_side same;
      right = made_shown axiom_right (own_axioms d.declared.now) ns ks d.axiom_rights i k.right x r.rights_in r.rights right (sym here) ∙ ap right_side same;
    }

-- a side more
pub left_pushed : (old new : List Node) (d : Declarations) (ids pushed : List TypeId) (id : TypeId) (i : ℕ) (x : Word × NDecl) → Extends old new → AreTypesAt old [] ids → shown_all_at old [] ids ≡ take i (axiom_lefts d)
    → Some x ≡ slice_get (own_axioms d) i → shown_at new [] id.0 ≡ axiom_left x → pushed ≡ ids ++ id ∷ [] → shown_all_at new [] pushed ≡ take (i + 1) (axiom_lefts d)
unfolding axiom_lefts
left_pushed old new d ids pushed id i x more ts so_far at shown e = made_pushed axiom_left (own_axioms d) old new ids pushed id i x more ts so_far at shown e

pub right_pushed : (old new : List Node) (d : Declarations) (ids pushed : List TypeId) (id : TypeId) (i : ℕ) (x : Word × NDecl) → Extends old new → AreTypesAt old [] ids → shown_all_at old [] ids ≡ take i (axiom_rights d)
    → Some x ≡ slice_get (own_axioms d) i → shown_at new [] id.0 ≡ axiom_right x → pushed ≡ ids ++ id ∷ [] → shown_all_at new [] pushed ≡ take (i + 1) (axiom_rights d)
unfolding axiom_rights
right_pushed old new d ids pushed id i x more ts so_far at shown e = made_pushed axiom_right (own_axioms d) old new ids pushed id i x more ts so_far at shown e

pub lefts_all : (d : Declarations) (n : ℕ) (ts : List NTy) → ts ≡ take n (axiom_lefts d) → length (axioms_in d) ≤ n → ts ≡ axiom_lefts d
unfolding axiom_lefts
lefts_all d n ts e far = made_all axiom_left (own_axioms d) n ts e (far_part (own_axioms d) (axioms_in d) n (axioms_in-own d) far)

pub rights_all : (d : Declarations) (n : ℕ) (ts : List NTy) → ts ≡ take n (axiom_rights d) → length (axioms_in d) ≤ n → ts ≡ axiom_rights d
unfolding axiom_rights
rights_all d n ts e far = made_all axiom_right (own_axioms d) n ts e (far_part (own_axioms d) (axioms_in d) n (axioms_in-own d) far)
