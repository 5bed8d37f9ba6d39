-- Arguments that meet what is asked, one after the other.
use Rattle.std.proofs.Common.{◌≡◌, ℕ, ◌+◌, ◌<◌, drop, get_or, length, Bool, true, ◌&&◌, List, [], Option, Some, None, refl, sym, ap, ◌∙◌}
use Rattle.std.proofs.Math.Bool.{and-true, and_assoc}
use Rattle.fc_syntax.specs.declared.ty.Role.{Role}
use Rattle.fc_syntax.specs.Tree.{Kind}
use Rattle.fc_model.specs.Calling as words
use Rattle.fc_model.specs.Calling.{Met, and_coercion, and_kind, and_term, at_type, atom_fits, coercion_asked, forall_kind, from_some, function_ends, has_kind, is_asked, met}
use Rattle.fc_model.specs.Kinding.{same_role, same_type}
use Rattle.fc_model.specs.Nameless.{NTy}
use Rattle.fc_type_scope.specs.declared.ends.Ends as proven
use Rattle.fc_type_table.specs.Nodes.{Extends, kind_at}
use Rattle.fc_type_table.specs.Scopes.{shown_at}
use Rattle.fc_type_table.specs.declared.node.Node.{Node}
use Rattle.fc_type_table.specs.declared.node.TypeId.{TypeId}
use Rattle.fc_lint_calls.specs.GivenViews.{AreGivenAt, givens_at}
use Rattle.fc_lint_calls.proofs.Givens.{givens-grow-rest, givens-step, no_given}
use Rattle.fc_lint_calls.specs.Meetings.{GoesOn, met_at, met_behind, met_from, met_on}
use Rattle.fc_lint_calls.specs.declared.arguments.Given.{Given}
use Rattle.fc_lint_calls.specs.declared.arguments.Given.TheVariants.{Term, OfType, Coercion}
use Rattle.fc_lint_calls.specs.declared.arguments.Meeting.{Meeting}

-- before the first argument all is right
abbrev pub all_right : TypeId → Meeting
all_right t = record { kinds = true; types = true; atoms = true; whole = t }

right_behind : (t : TypeId) (o : Option Met) → met_behind (all_right t) o ≡ o
right_behind t (Some n) = refl
right_behind t None = refl

pub met_from-start : (ns : List Node) (ks : List Kind) (t : TypeId) (gs : List words.Given) → met_from ns ks (all_right t) gs ≡ met (shown_at ns ks t.0) gs
unfolding met_from
met_from-start ns ks t gs = right_behind t (met (shown_at ns ks t.0) gs)

-- behind the last argument
pub met_from-end : (ns : List Node) (ks : List Kind) (m : Meeting) → met_from ns ks m [] ≡ Some (met_at ns ks m)
unfolding met_from
met_from-end ns ks m = simp and-true

pub met_on-more : (ns : List Node) (ks : List Kind) (m : Meeting) (gs : List words.Given) → met_on ns ks (Some m) gs ≡ met_from ns ks m gs
unfolding met_on
met_on-more ns ks m gs = refl

pub met_on-none : (ns : List Node) (ks : List Kind) (gs : List words.Given) → met_on ns ks None gs ≡ None
unfolding met_on
met_on-none ns ks gs = refl

-- ---- a term

abbrev with_term : Meeting → Bool → Bool → TypeId → Meeting
with_term m b c to = record { kinds = m.kinds; types = b; atoms = c; whole = to }

term_behind : (m : Meeting) (s t : NTy) (atom b c : Bool) (to : TypeId) (o : Option Met) → b ≡ (m.types && same_type s t) → c ≡ (m.atoms && atom_fits s atom)
    → met_behind m (and_term s t atom o) ≡ met_behind (with_term m b c to) o
term_behind m s t atom b c to (Some n) p q =
    let types : (m.types && (same_type s t && n.types)) ≡ (b && n.types) = sym (and_assoc m.types (same_type s t) n.types) ∙ ap (λ x. x && n.types) (sym p) in
    let atoms : (m.atoms && (atom_fits s atom && n.atoms)) ≡ (c && n.atoms) = sym (and_assoc m.atoms (atom_fits s atom) n.atoms) ∙ ap (λ x. x && n.atoms) (sym q) in
    rw (types, atoms) refl
term_behind m s t atom b c to None p q = refl

pub no_function : (ns : List Node) (ks : List Kind) (m : Meeting) (t : TypeId) (atom : Bool) → None ≡ function_ends (shown_at ns ks m.whole.0) → GoesOn ns ns ks m (Term t atom) None
unfolding met_from met_on
no_function ns ks m t atom e = record { view = λ gs. ap (λ o. met_behind m (from_some (λ (ends : NTy × NTy). and_term ends.0 (shown_at ns ks t.0) atom (met ends.1 gs)) o)) (sym e) }

pub is_function : (ns : List Node) (ks : List Kind) (m : Meeting) (t : TypeId) (atom b c : Bool) (from to : TypeId) → Some (shown_at ns ks from.0, shown_at ns ks to.0) ≡ function_ends (shown_at ns ks m.whole.0)
    → b ≡ (m.types && same_type (shown_at ns ks from.0) (shown_at ns ks t.0)) → c ≡ (m.atoms && atom_fits (shown_at ns ks from.0) atom) → GoesOn ns ns ks m (Term t atom) (Some (with_term m b c to))
unfolding met_from met_on
is_function ns ks m t atom b c from to e p q = record {
  view = λ gs.
      ap (λ o. met_behind m (from_some (λ (ends : NTy × NTy). and_term ends.0 (shown_at ns ks t.0) atom (met ends.1 gs)) o)) (sym e)
      ∙ term_behind m (shown_at ns ks from.0) (shown_at ns ks t.0) atom b c to (met (shown_at ns ks to.0) gs) p q;
}

-- ---- a coercion

abbrev with_ends : Meeting → Bool → TypeId → Meeting
with_ends m b to = record { kinds = m.kinds; types = b; atoms = m.atoms; whole = to }

ends_behind : (m : Meeting) (same b : Bool) (to : TypeId) (o : Option Met) → b ≡ (m.types && same) → met_behind m (and_coercion same o) ≡ met_behind (with_ends m b to) o
ends_behind m same b to (Some n) p =
    let types : (m.types && (same && n.types)) ≡ (b && n.types) = sym (and_assoc m.types same n.types) ∙ ap (λ x. x && n.types) (sym p) in
    rw types refl
ends_behind m same b to None p = refl

pub no_coforall : (ns : List Node) (ks : List Kind) (m : Meeting) (e : proven.Ends) → None ≡ coercion_asked (shown_at ns ks m.whole.0) → GoesOn ns ns ks m (Coercion e) None
unfolding met_from met_on
no_coforall ns ks m e h = record {
  view = λ gs.
      ap (λ o. met_behind m (from_some (λ (p : Role × NTy × NTy × NTy). and_coercion (is_asked p e.role (shown_at ns ks e.left.0) (shown_at ns ks e.right.0)) (met p.3 gs)) o)) (sym h);
}

pub is_coforall : (ns : List Node) (ks : List Kind) (m : Meeting) (e : proven.Ends) (b : Bool) (a : proven.Ends) (to : TypeId)
    → Some (a.role, shown_at ns ks a.left.0, shown_at ns ks a.right.0, shown_at ns ks to.0) ≡ coercion_asked (shown_at ns ks m.whole.0)
    → b ≡ (m.types && (same_role a.role e.role && (same_type (shown_at ns ks a.left.0) (shown_at ns ks e.left.0) && same_type (shown_at ns ks a.right.0) (shown_at ns ks e.right.0))))
    → GoesOn ns ns ks m (Coercion e) (Some (with_ends m b to))
unfolding met_from met_on
is_coforall ns ks m e b a to h p = record {
  view = λ gs.
      ap (λ o. met_behind m (from_some (λ (q : Role × NTy × NTy × NTy). and_coercion (is_asked q e.role (shown_at ns ks e.left.0) (shown_at ns ks e.right.0)) (met q.3 gs)) o)) (sym h)
      ∙ ends_behind m _ b to (met (shown_at ns ks to.0) gs) p;
}

-- ---- a type

abbrev with_kind : Meeting → Bool → TypeId → Meeting
with_kind m b to = record { kinds = b; types = m.types; atoms = m.atoms; whole = to }

kind_behind : (m : Meeting) (o : Option Kind) (k : Kind) (b : Bool) (to : TypeId) (n : Option Met) → b ≡ (m.kinds && has_kind o k) → met_behind m (and_kind o k n) ≡ met_behind (with_kind m b to) n
kind_behind m o k b to (Some n) p =
    let kinds : (m.kinds && (has_kind o k && n.kinds)) ≡ (b && n.kinds) = sym (and_assoc m.kinds (has_kind o k) n.kinds) ∙ ap (λ x. x && n.kinds) (sym p) in
    rw kinds refl
kind_behind m o k b to None p = refl

-- while the table grew from old to new
module _ (old new : List Node) (ks : List Kind) (m : Meeting) (t k : TypeId) where
  abbrev rest_met : List words.Given → Option NTy → Option Met
  rest_met gs o = met_behind m (from_some (λ (r : NTy). and_kind (forall_kind (shown_at old ks m.whole.0)) (kind_at old k.0) (met r gs)) o)

  pub no_forall : None ≡ at_type (shown_at old ks m.whole.0) (shown_at old ks t.0) → GoesOn old new ks m (OfType t k) None
  unfolding met_from met_on
  no_forall e = record { view = λ gs. ap (rest_met gs) (sym e) }

  pub is_forall : (b : Bool) (to : TypeId) → Some (shown_at new ks to.0) ≡ at_type (shown_at old ks m.whole.0) (shown_at old ks t.0)
      → b ≡ (m.kinds && has_kind (forall_kind (shown_at old ks m.whole.0)) (kind_at old k.0)) → GoesOn old new ks m (OfType t k) (Some (with_kind m b to))
  unfolding met_from met_on
  is_forall b to e p = record {
    view = λ gs. ap (rest_met gs) (sym e) ∙ kind_behind m (forall_kind (shown_at old ks m.whole.0)) (kind_at old k.0) b to (met (shown_at new ks to.0) gs) p;
  }

pub ruleset term_rules = (no_function, is_function)

pub ruleset coercion_rules = (no_coforall, is_coforall)

pub ruleset type_rules = (no_forall, is_forall)

-- ---- one turn of the loop over the arguments

pub one_more : (old new : List Node) (ks : List Kind) (whole : Option Met) (m : Meeting) (next : Option Meeting) (gs : List Given) (i : ℕ) → Extends old new → AreGivenAt old ks gs
    → whole ≡ met_from old ks m (givens_at old ks (drop i gs)) → i < length gs → GoesOn old new ks m (get_or gs i no_given) next → whole ≡ met_on new ks next (givens_at new ks (drop (i + 1) gs))
one_more old new ks whole m next gs i more all so_far low on =
    so_far ∙ ap (met_from old ks m) (givens-step old ks gs i low) ∙ on.view (givens_at old ks (drop (i + 1) gs)) ∙ ap (met_on new ks next) (sym (givens-grow-rest old new ks gs (i + 1) more all))
