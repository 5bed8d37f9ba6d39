-- Kinds with their numbers: in a table that grows, several together, and looked up.
use Rattle.std.proofs.Common.{◌≡◌, ◌-◌, ◌<◌, ◌≤◌, ℕ, zero, suc, List, [], ◌∷◌, ◌++◌, length, map, reverse, take, get_or, Result, Ok, Err, Some, None, IfOk, refl, sym, ap, subst, ◌∙◌}
use Rattle.std.proofs.lemmas.Grind.{reverse_onto}
use Rattle.std.proofs.lemmas.List.{map-append}
use Rattle.std.proofs.lemmas.List.Elements.{All-append, All-cons, All-head, All-nil, All-tail, All-take}
use Rattle.fc_syntax.specs.View.{kind_of}
use Rattle.fc_model.specs.Faulting.{at_distance}
use Rattle.fc_model.specs.Typing.{answered}
use Rattle.fc_model.proofs.Distances.{seen_inner, seen_outside}
use Rattle.fc_type_table.specs.InScope.{AreNumbered, IsNumbered, IsScopeAt, kinds_of, numbered_of, own_kinds}
use Rattle.fc_type_table.specs.Nodes.{Extends, tree_at}
use Rattle.fc_type_table.specs.Scopes.{label}
use Rattle.fc_type_table.specs.TreeKinds.{kind_tree}
use Rattle.fc_type_table.specs.Trees.{LStar}
use Rattle.fc_type_table.specs.declared.node.Node.{Node}
use Rattle.fc_type_table.specs.declared.node.TypeId.{TypeId}
use Rattle.fc_type_table.specs.declared.numbered.NumberedKind.{NumberedKind}
use Rattle.fc_type_table.specs.declared.numbered.NumberedKinds.{NumberedKinds, End, Kind', Group'}
use Rattle.fc_type_table.proofs.KindNumbers.{IsKindAt-tree, kind_at-tree, tree_at-kind}
use Rattle.fc_type_table.proofs.Labels.{label-none, label-some}
use Rattle.fc_type_table.proofs.Tables as tables

-- ---- a look-up

same_items : {X : Type 0} (xs : List X) → map (λ x. x) xs ≡ xs
same_items [] = refl
same_items (x ∷ xs) = ap (λ ys. x ∷ ys) (same_items xs)

pub number_inner : (ks outer : List NumberedKind) (d : ℕ) (k : NumberedKind) → d < length ks → k ≡ get_or ks (length ks - 1 - d) k → at_distance (reverse ks ++ outer) d ≡ Ok k
number_inner ks outer d k low is = sym (ap (λ xs. at_distance (reverse xs ++ outer) d) (same_items ks)) ∙ seen_inner (λ x. x) ks outer d k low is

pub number_outside : (ks outer : List NumberedKind) (d : ℕ) → length ks ≤ d → at_distance (reverse ks ++ outer) d ≡ at_distance outer (d - length ks)
number_outside ks outer d far = sym (ap (λ xs. at_distance (reverse xs ++ outer) d) (same_items ks)) ∙ seen_outside (λ x. x) ks outer d far

pub ruleset distance_rules = (number_inner, number_outside)

-- ---- a table that grows

IsNumbered-grows : (old new : List Node) (k : NumberedKind) → Extends old new → IsNumbered old k → IsNumbered new k
IsNumbered-grows old new k more h = record {
  is_kind = tables.IsKindAt-extends old new k.id.0 more h.is_kind;
  shows = tables.kind_at-extends old new k.id.0 more h.is_kind.within ∙ h.shows;
}

pub AreNumbered-grows : (old new : List Node) (ks : List NumberedKind) → Extends old new → AreNumbered old ks → AreNumbered new ks
AreNumbered-grows old new [] more hs = record { each = All-nil (IsNumbered new) }
AreNumbered-grows old new (k ∷ ks) more hs =
    let rest = AreNumbered-grows old new ks more (record { each = All-tail (IsNumbered old) k ks hs.each }) in
    record { each = All-cons (IsNumbered new) k ks (IsNumbered-grows old new k more (All-head (IsNumbered old) k ks hs.each)) rest.each }

-- a number that was read of a kind
pub IsNumbered-tree : (ns : List Node) (k : NumberedKind) → k.id.0 < length ns → tree_at ns k.id.0 ≡ kind_tree (kind_of k.kind.now) → IsNumbered ns k
IsNumbered-tree ns k h e = record { is_kind = IsKindAt-tree ns k.id.0 (kind_of k.kind.now) h e; shows = kind_at-tree ns k.id.0 (kind_of k.kind.now) e }

-- ---- several together

pub AreNumbered-none : (ns : List Node) → AreNumbered ns []
AreNumbered-none ns = record { each = All-nil (IsNumbered ns) }

pub AreNumbered-one : (ns : List Node) (k : NumberedKind) (ks : List NumberedKind) → IsNumbered ns k → AreNumbered ns ks → AreNumbered ns (k ∷ ks)
AreNumbered-one ns k ks h hs = record { each = All-cons (IsNumbered ns) k ks h hs.each }

pub AreNumbered-push : (ns : List Node) (ks : List NumberedKind) (k : NumberedKind) → AreNumbered ns ks → IsNumbered ns k → AreNumbered ns (ks ++ k ∷ [])
AreNumbered-push ns ks k hs h = record { each = All-append (IsNumbered ns) ks (k ∷ []) hs.each (All-cons (IsNumbered ns) k [] h (All-nil (IsNumbered ns))) }

pub AreNumbered-take : (ns : List Node) (n : ℕ) (ks : List NumberedKind) → AreNumbered ns ks → AreNumbered ns (take n ks)
AreNumbered-take ns n ks hs = record { each = All-take (IsNumbered ns) n ks hs.each }

reversed : (ns : List Node) (ks : List NumberedKind) → AreNumbered ns ks → AreNumbered ns (reverse ks)
reversed ns [] hs = hs
reversed ns (k ∷ ks) hs =
    let rest = reversed ns ks (record { each = All-tail (IsNumbered ns) k ks hs.each }) in
    subst (AreNumbered ns) (sym (reverse_onto ks k [])) (AreNumbered-push ns (reverse ks) k rest (All-head (IsNumbered ns) k ks hs.each))

-- those that stand together, the last one the innermost, before those around them
pub AreNumbered-behind : (ns : List Node) (ks outer : List NumberedKind) → AreNumbered ns ks → AreNumbered ns outer → AreNumbered ns (reverse ks ++ outer)
AreNumbered-behind ns ks outer hs gs = let back = reversed ns ks hs in record { each = All-append (IsNumbered ns) (reverse ks) outer back.each gs.each }

-- ---- what is found

numbered_found : (ns : List Node) (ks : List NumberedKind) (i : ℕ) (k : NumberedKind) → Some k ≡ answered (at_distance ks i) → AreNumbered ns ks → IsNumbered ns k
numbered_found ns [] i k e hs = absurd (cc)
numbered_found ns (x ∷ ks) zero k e hs = let h : x ≡ k = cc in subst (IsNumbered ns) h (All-head (IsNumbered ns) x ks hs.each)
numbered_found ns (x ∷ ks) (suc i) k e hs = numbered_found ns ks i k e (record { each = All-tail (IsNumbered ns) x ks hs.each })

kinds_reverse : (ks : List NumberedKind) → own_kinds (reverse ks) ≡ reverse (own_kinds ks)
kinds_reverse [] = refl
kinds_reverse (k ∷ ks) =
    ap own_kinds (reverse_onto ks k []) ∙ map-append (λ (x : NumberedKind). kind_of x.kind.now) (reverse ks) (k ∷ [])
    ∙ ap (λ js. js ++ kind_of k.kind.now ∷ []) (kinds_reverse ks) ∙ sym (reverse_onto (own_kinds ks) (kind_of k.kind.now) [])

kinds_numbered : (ks : NumberedKinds) → own_kinds (numbered_of ks) ≡ kinds_of ks
kinds_numbered End = refl
kinds_numbered (Kind' k p rest) = ap (λ js. kind_of k.kind.now ∷ js) (kinds_numbered rest)
kinds_numbered (Group' ks p rest) =
    map-append (λ (x : NumberedKind). kind_of x.kind.now) (reverse ks.now) (numbered_of rest) ∙ ap (λ js. js ++ own_kinds (numbered_of rest)) (kinds_reverse ks.now)
    ∙ ap (λ js. reverse (own_kinds ks.now) ++ js) (kinds_numbered rest)

kind_found : (ks : List NumberedKind) (i : ℕ) (k : NumberedKind) → Some k ≡ answered (at_distance ks i) → Some (kind_of k.kind.now) ≡ answered (at_distance (own_kinds ks) i)
kind_found [] i k e = absurd (cc)
kind_found (x ∷ ks) zero k e = let h : k ≡ x = cc in ap (λ (y : NumberedKind). Some (kind_of y.kind.now)) h
kind_found (x ∷ ks) (suc i) k e = kind_found ks i k e

none_found : (ks : List NumberedKind) (i : ℕ) → None ≡ answered (at_distance ks i) → None ≡ answered (at_distance (own_kinds ks) i)
none_found [] i e = refl
none_found (x ∷ ks) zero e = absurd (cc)
none_found (x ∷ ks) (suc i) e = none_found ks i e

module _ (ns : List Node) (ks : NumberedKinds) (i : ℕ) where
  pub number_within : (k : NumberedKind) → Some k ≡ answered (at_distance (numbered_of ks) i) → IsScopeAt ns ks → k.id.0 < length ns
  number_within k e hs = let h = numbered_found ns (numbered_of ks) i k e hs in h.is_kind.within

  pub number_label : (k : NumberedKind) → Some k ≡ answered (at_distance (numbered_of ks) i) → IsScopeAt ns ks → tree_at ns k.id.0 ≡ label (kinds_of ks) i
  number_label k e hs =
      let h = numbered_found ns (numbered_of ks) i k e hs in
      tree_at-kind ns k.id.0 h.is_kind ∙ ap kind_tree h.shows
      ∙ sym (label-some (kinds_of ks) i (kind_of k.kind.now) (kind_found (numbered_of ks) i k e ∙ ap (λ js. answered (at_distance js i)) (kinds_numbered ks)))

  pub no_label : {E : Type 0} (r : Result TypeId E) → None ≡ answered (at_distance (numbered_of ks) i) → IfOk r (λ id. tree_at ns id.0 ≡ LStar) → IfOk r (λ id. tree_at ns id.0 ≡ label (kinds_of ks) i)
  no_label (Ok id) e f = f ∙ sym (label-none (kinds_of ks) i (none_found (numbered_of ks) i e ∙ ap (λ js. answered (at_distance js i)) (kinds_numbered ks)))
  no_label (Err x) e f = tt

pub ruleset label_rules = (number_within, number_label, no_label)

-- what a caller needs whose table grows
pub ruleset numbered_rules = (IsNumbered-tree, AreNumbered-grows, AreNumbered-none, AreNumbered-one, AreNumbered-behind)
