-- Numbers of types, several together: one more, looked up, in a table that grows.
use Rattle.std.proofs.Common.{◌≡◌, ℕ, zero, suc, ◌+◌, ◌<◌, ◌≤◌, List, [], ◌∷◌, ◌++◌, drop, get_or, length, map, reverse, slice_get, Result, Ok, Err, IfOk, refl, sym, ap, subst, ◌∙◌, add-one, drop-cons}
use Rattle.std.proofs.Math.ListN.{drop_of_length-le}
use Rattle.std.proofs.lemmas.List.{length-map, map-append}
use Rattle.std.proofs.lemmas.Grind.{reverse_onto}
use Rattle.std.proofs.lemmas.Option.{slice_get-map}
use Rattle.std.specs.Option.{option_map}
use Rattle.std.proofs.lemmas.List.Elements.{All-append, All-cons, All-get_or, All-head, All-nil, All-tail}
use Rattle.fc_model.specs.Faulting.{F, at_distance}
use Rattle.fc_syntax.specs.Tree.{Kind}
use Rattle.fc_model.specs.Nameless.{NTy}
use Rattle.fc_model.specs.Substituting.{raised_type}
use Rattle.fc_model.specs.Says.{Says, fault_of}
use Rattle.fc_model.specs.declared.flaw.Flawed.{Flawed}
use Rattle.fc_model.specs.declared.flaw.Flawed.TheVariants.{Memory, Flaw as OfFlaw}
use Rattle.fc_type_table.proofs.Numbers.{Extends-further, IsTypeAt-grows, shown_at-grows}
use Rattle.fc_type_table.specs.Nodes.{Extends}
use Rattle.fc_type_table.specs.Scopes.{IsTypeAt, shown_at}
use Rattle.fc_type_table.specs.declared.node.Node.{Node}
use Rattle.fc_type_table.specs.declared.node.TypeId.{TypeId}
use Rattle.fc_type_scope.proofs.Past.{IsTypeAt-past, shown_at-past}
use Rattle.fc_type_scope.specs.Scopes.{AreTypesAt, shown_all_at}

abbrev Each : List Node → List Kind → TypeId → Type 0
Each ns ks id = IsTypeAt ns ks id.0

pub AreTypesAt-none : (ns : List Node) (ks : List Kind) → AreTypesAt ns ks []
AreTypesAt-none ns ks = record { each = All-nil (Each ns ks) }

pub AreTypesAt-cons : (ns : List Node) (ks : List Kind) (id : TypeId) (ids : List TypeId) → IsTypeAt ns ks id.0 → AreTypesAt ns ks ids → AreTypesAt ns ks (id ∷ ids)
AreTypesAt-cons ns ks id ids t ts = record { each = All-cons (Each ns ks) id ids t ts.each }

pub AreTypesAt-head : (ns : List Node) (ks : List Kind) (id : TypeId) (ids : List TypeId) → AreTypesAt ns ks (id ∷ ids) → IsTypeAt ns ks id.0
AreTypesAt-head ns ks id ids ts = All-head (Each ns ks) id ids ts.each

pub AreTypesAt-tail : (ns : List Node) (ks : List Kind) (id : TypeId) (ids : List TypeId) → AreTypesAt ns ks (id ∷ ids) → AreTypesAt ns ks ids
AreTypesAt-tail ns ks id ids ts = record { each = All-tail (Each ns ks) id ids ts.each }

AreTypesAt-append : (ns : List Node) (ks : List Kind) (ids more : List TypeId) → AreTypesAt ns ks ids → AreTypesAt ns ks more → AreTypesAt ns ks (ids ++ more)
AreTypesAt-append ns ks ids more ts us = record { each = All-append (Each ns ks) ids more ts.each us.each }

AreTypesAt-reverse : (ns : List Node) (ks : List Kind) (ids : List TypeId) → AreTypesAt ns ks ids → AreTypesAt ns ks (reverse ids)
AreTypesAt-reverse ns ks [] ts = ts
AreTypesAt-reverse ns ks (id ∷ ids) ts =
    subst (AreTypesAt ns ks) (sym (reverse_onto ids id [])) (AreTypesAt-append ns ks (reverse ids) (id ∷ [])
    (AreTypesAt-reverse ns ks ids (AreTypesAt-tail ns ks id ids ts)) (AreTypesAt-cons ns ks id [] (AreTypesAt-head ns ks id ids ts) (AreTypesAt-none ns ks)))

pub AreTypesAt-behind : (ns : List Node) (ks : List Kind) (ids outer : List TypeId) → AreTypesAt ns ks ids → AreTypesAt ns ks outer → AreTypesAt ns ks (reverse ids ++ outer)
AreTypesAt-behind ns ks ids outer ts us = AreTypesAt-append ns ks (reverse ids) outer (AreTypesAt-reverse ns ks ids ts) us

pub AreTypesAt-at : (ns : List Node) (ks : List Kind) (ids : List TypeId) (i : ℕ) (d : TypeId) → i < length ids → AreTypesAt ns ks ids → IsTypeAt ns ks (get_or ids i d).0
AreTypesAt-at ns ks ids i d low ts = All-get_or (Each ns ks) ids i d low ts.each

pub AreTypesAt-grows : (old new : List Node) (ks : List Kind) (ids : List TypeId) → Extends old new → AreTypesAt old ks ids → AreTypesAt new ks ids
AreTypesAt-grows old new ks [] more ts = AreTypesAt-none new ks
AreTypesAt-grows old new ks (id ∷ ids) more ts =
    AreTypesAt-cons new ks id ids (IsTypeAt-grows old new ks id.0 more (AreTypesAt-head old ks id ids ts)) (AreTypesAt-grows old new ks ids more (AreTypesAt-tail old ks id ids ts))

pub AreTypesAt-past : (ns : List Node) (bs ks : List Kind) (ids : List TypeId) → AreTypesAt ns ks ids → AreTypesAt ns (bs ++ ks) ids
AreTypesAt-past ns bs ks [] ts = AreTypesAt-none ns (bs ++ ks)
AreTypesAt-past ns bs ks (id ∷ ids) ts =
    AreTypesAt-cons ns (bs ++ ks) id ids (IsTypeAt-past ns bs ks id.0 (AreTypesAt-head ns ks id ids ts)) (AreTypesAt-past ns bs ks ids (AreTypesAt-tail ns ks id ids ts))

-- one more, behind the others, while the table grew
pub AreTypesAt-push : (old new : List Node) (ks : List Kind) (ids pushed : List TypeId) (id : TypeId) → Extends old new → AreTypesAt old ks ids → IsTypeAt new ks id.0 → pushed ≡ ids ++ id ∷ [] → AreTypesAt new ks pushed
AreTypesAt-push old new ks ids pushed id more ts t e =
    subst (AreTypesAt new ks) (sym e) (AreTypesAt-append new ks ids (id ∷ []) (AreTypesAt-grows old new ks ids more ts) (AreTypesAt-cons new ks id [] t (AreTypesAt-none new ks)))

-- ---- what they show

pub shown_all-none : (ns : List Node) (ks : List Kind) → shown_all_at ns ks [] ≡ []
unfolding shown_all_at
shown_all-none ns ks = refl

pub shown_all-cons : (ns : List Node) (ks : List Kind) (id : TypeId) (ids : List TypeId) → shown_all_at ns ks (id ∷ ids) ≡ shown_at ns ks id.0 ∷ shown_all_at ns ks ids
unfolding shown_all_at
shown_all-cons ns ks id ids = refl

shown_all-append : (ns : List Node) (ks : List Kind) (ids more : List TypeId) → shown_all_at ns ks (ids ++ more) ≡ shown_all_at ns ks ids ++ shown_all_at ns ks more
unfolding shown_all_at
shown_all-append ns ks ids more = map-append (λ (id : TypeId). shown_at ns ks id.0) ids more

shown_all-reverse : (ns : List Node) (ks : List Kind) (ids : List TypeId) → shown_all_at ns ks (reverse ids) ≡ reverse (shown_all_at ns ks ids)
unfolding shown_all_at
shown_all-reverse ns ks [] = refl
shown_all-reverse ns ks (id ∷ ids) =
    ap (shown_all_at ns ks) (reverse_onto ids id []) ∙ shown_all-append ns ks (reverse ids) (id ∷ []) ∙ ap (λ ts. ts ++ shown_at ns ks id.0 ∷ []) (shown_all-reverse ns ks ids)
    ∙ sym (reverse_onto (shown_all_at ns ks ids) (shown_at ns ks id.0) [])

pub shown_all-behind : (ns : List Node) (ks : List Kind) (ids outer : List TypeId) → shown_all_at ns ks (reverse ids ++ outer) ≡ reverse (shown_all_at ns ks ids) ++ shown_all_at ns ks outer
shown_all-behind ns ks ids outer = shown_all-append ns ks (reverse ids) outer ∙ ap (λ ts. ts ++ shown_all_at ns ks outer) (shown_all-reverse ns ks ids)

pub shown_all-grows : (old new : List Node) (ks : List Kind) (ids : List TypeId) → Extends old new → AreTypesAt old ks ids → shown_all_at new ks ids ≡ shown_all_at old ks ids
unfolding shown_all_at
shown_all-grows old new ks [] more ts = refl
shown_all-grows old new ks (id ∷ ids) more ts = cc (shown_at-grows old new ks id.0 more (AreTypesAt-head old ks id ids ts), shown_all-grows old new ks ids more (AreTypesAt-tail old ks id ids ts))

pub shown_all-past : (ns : List Node) (bs ks : List Kind) (ids : List TypeId) → AreTypesAt ns ks ids → shown_all_at ns (bs ++ ks) ids ≡ map (raised_type (length bs)) (shown_all_at ns ks ids)
unfolding shown_all_at
shown_all-past ns bs ks [] ts = refl
shown_all-past ns bs ks (id ∷ ids) ts = cc (shown_at-past ns bs ks id.0 (AreTypesAt-head ns ks id ids ts), shown_all-past ns bs ks ids (AreTypesAt-tail ns ks id ids ts))

pub shown_all-push : (old new : List Node) (ks : List Kind) (ids pushed : List TypeId) (id : TypeId) (t : NTy) → Extends old new → AreTypesAt old ks ids → shown_at new ks id.0 ≡ t → pushed ≡ ids ++ id ∷ []
    → shown_all_at new ks pushed ≡ shown_all_at old ks ids ++ t ∷ []
shown_all-push old new ks ids pushed id t more ts s e =
    ap (shown_all_at new ks) e ∙ shown_all-append new ks ids (id ∷ []) ∙ ap (λ us. us ++ shown_all_at new ks (id ∷ [])) (shown_all-grows old new ks ids more ts)
    ∙ ap (λ us. shown_all_at old ks ids ++ us) (shown_all-cons new ks id [] ∙ ap (λ us. shown_at new ks id.0 ∷ us) (shown_all-none new ks)) ∙ ap (λ u. shown_all_at old ks ids ++ u ∷ []) s

pub length-shown_all : (ns : List Node) (ks : List Kind) (ids : List TypeId) → length (shown_all_at ns ks ids) ≡ length ids
unfolding shown_all_at
length-shown_all ns ks ids = length-map ids (λ (id : TypeId). shown_at ns ks id.0)

drop_at : (ids : List TypeId) (i : ℕ) (d : TypeId) → i < length ids → drop i ids ≡ get_or ids i d ∷ drop (i + 1) ids
drop_at ids i d low = rw add-one (drop-cons ids i d low)

-- the one at an index, before the rest
pub shown_all-drop : (ns : List Node) (ks : List Kind) (ids : List TypeId) (i : ℕ) (d : TypeId) → i < length ids → shown_all_at ns ks (drop i ids) ≡ shown_at ns ks (get_or ids i d).0 ∷ shown_all_at ns ks (drop (i + 1) ids)
shown_all-drop ns ks ids i d low = ap (shown_all_at ns ks) (drop_at ids i d low) ∙ shown_all-cons ns ks (get_or ids i d) (drop (i + 1) ids)

abbrev no_id : TypeId
no_id = record { 0 = 0 }

-- the same at the default of src
pub shown_all-step : (ns : List Node) (ks : List Kind) (ids : List TypeId) (i : ℕ) → i < length ids → shown_all_at ns ks (drop i ids) ≡ shown_at ns ks (get_or ids i no_id).0 ∷ shown_all_at ns ks (drop (i + 1) ids)
shown_all-step ns ks ids i low = shown_all-drop ns ks ids i no_id low

pub shown_all-end : (ns : List Node) (ks : List Kind) (ids : List TypeId) (i : ℕ) → length ids ≤ i → shown_all_at ns ks (drop i ids) ≡ []
shown_all-end ns ks ids i far = ap (shown_all_at ns ks) (drop_of_length-le ids far) ∙ shown_all-none ns ks

pub AreTypesAt-step : (ns : List Node) (ks : List Kind) (ids : List TypeId) (i : ℕ) → i < length ids → AreTypesAt ns ks ids → IsTypeAt ns ks (get_or ids i no_id).0
AreTypesAt-step ns ks ids i low ts = AreTypesAt-at ns ks ids i no_id low ts

-- ---- one looked up

pub shown_all-get : (ns : List Node) (ks : List Kind) (ids : List TypeId) (i : ℕ) → slice_get (shown_all_at ns ks ids) i ≡ option_map (λ (id : TypeId). shown_at ns ks id.0) (slice_get ids i)
unfolding shown_all_at
shown_all-get ns ks ids i = slice_get-map (λ (id : TypeId). shown_at ns ks id.0) ids i

found_valid : (ns : List Node) (ks : List Kind) (ids : List TypeId) (d : ℕ) (id : TypeId) → at_distance ids d ≡ Ok id → AreTypesAt ns ks ids → IsTypeAt ns ks id.0
found_valid ns ks [] d id e ts = cc
found_valid ns ks (x ∷ ids) zero id e ts = let h : x ≡ id = cc in subst (λ (y : TypeId). IsTypeAt ns ks y.0) h (AreTypesAt-head ns ks x ids ts)
found_valid ns ks (x ∷ ids) (suc d) id e ts = found_valid ns ks ids d id e (AreTypesAt-tail ns ks x ids ts)

pub local_valid : (r : Result TypeId Flawed) (ns : List Node) (ks : List Kind) (ids : List TypeId) (d : ℕ) → Says (λ (id : TypeId). id) r (at_distance ids d) → AreTypesAt ns ks ids → IfOk r (λ id. IsTypeAt ns ks id.0)
local_valid (Ok id) ns ks ids d e ts = found_valid ns ks ids d id e ts
local_valid (Err f) ns ks ids d e ts = tt

shown_there : (ns : List Node) (ks : List Kind) (ids : List TypeId) (d : ℕ) (id : TypeId) → at_distance ids d ≡ Ok id → at_distance (shown_all_at ns ks ids) d ≡ Ok (shown_at ns ks id.0)
unfolding shown_all_at
shown_there ns ks [] d id e = cc
shown_there ns ks (x ∷ ids) zero id e = let h : x ≡ id = cc in ap (λ (y : TypeId). Ok (shown_at ns ks y.0)) h
shown_there ns ks (x ∷ ids) (suc d) id e = shown_there ns ks ids d id e

none_there : (ns : List Node) (ks : List Kind) (ids : List TypeId) (d : ℕ) (f : F) → at_distance ids d ≡ Err f → at_distance (shown_all_at ns ks ids) d ≡ Err f
unfolding shown_all_at
none_there ns ks [] d f e = cc
none_there ns ks (x ∷ ids) zero f e = cc
none_there ns ks (x ∷ ids) (suc d) f e = none_there ns ks ids d f e

pub local_says : (r : Result TypeId Flawed) (ns : List Node) (ks : List Kind) (ids : List TypeId) (d : ℕ) → Says (λ (id : TypeId). id) r (at_distance ids d) → Says (λ (id : TypeId). shown_at ns ks id.0) r (at_distance (shown_all_at ns ks ids) d)
local_says (Ok id) ns ks ids d e = shown_there ns ks ids d id e
local_says (Err Memory) ns ks ids d e = tt
local_says (Err (OfFlaw f)) ns ks ids d e = none_there ns ks ids d (fault_of f) e

-- what a caller needs whose table grows
pub ruleset number_rules = (IsTypeAt-grows, shown_at-grows, Extends-further, AreTypesAt-none, AreTypesAt-cons, AreTypesAt-behind, AreTypesAt-at, AreTypesAt-grows, AreTypesAt-push, shown_all-none, shown_all-grows, shown_all-push)

-- what a loop over numbers needs
pub ruleset step_rules = (shown_all-end, shown_all-step, AreTypesAt-step)
