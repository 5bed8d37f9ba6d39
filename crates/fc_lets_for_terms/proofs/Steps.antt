-- What is of a type takes arguments, one after the other.
use Rattle.std.proofs.Common.{◌≡◌, ℕ, ◌+◌, ◌<◌, ◌≤◌, List, [], ◌∷◌, ◌++◌, drop, get_or, length, Option, Some, None, refl, sym, ap, subst, ◌∙◌, append_assoc, append-nil}
use Rattle.std.specs.Option.{IfSome, option_to_list}
use Rattle.fc_syntax.specs.Tree.{Kind}
use Rattle.fc_syntax.specs.declared.expr.Arg.{Arg}
use Rattle.fc_syntax.specs.declared.expr.Expr.{Expr}
use Rattle.fc_syntax.specs.declared.ty.Ref.{Ref}
use Rattle.fc_syntax.specs.declared.ty.Role.{Role}
use Rattle.fc_model.specs.Calling.{at_type, coercion_asked, from_some, function_ends}
use Rattle.fc_model.specs.Nameless.{NTy, NCo, NExpr, NATerm, NAType, NACo, NArgs}
use Rattle.fc_model.specs.NamelessView.{narg_of, nargs_of, nexpr_of}
use Rattle.fc_model.specs.Substituting.{raised_type}
use Rattle.fc_rows.specs.Changing.{made}
use Rattle.fc_type_scope.proofs.Items.{Stands, all_grow, all_none, all_push, shows_push, shows_same}
use Rattle.fc_type_scope.proofs.Past.{IsTypeAt-past, shown_at-past}
use Rattle.fc_type_scope.specs.declared.ends.Ends as proven
use Rattle.fc_type_table.proofs.Numbers.{IsTypeAt-grows, shown_at-grows}
use Rattle.fc_type_table.specs.Nodes.{Extends}
use Rattle.fc_type_table.specs.Scopes.{shown_at}
use Rattle.fc_type_table.specs.declared.node.Node.{Node}
use Rattle.fc_type_table.specs.declared.node.TypeId.{TypeId}
use denote.Ref.{Bor}
use Rattle.fc_lets_for_terms.specs.Asking.{AreAskedAt, Asks, IsAskedAt, asked_all_at, asked_at, asked_behind, asked_terms, before_others}
use Rattle.fc_lets_for_terms.specs.declared.asking.AskedTerm.{AskedTerm}
use Rattle.fc_lets_for_terms.specs.declared.asking.Step.{Step}
use Rattle.fc_lets_for_terms.proofs.InOrder.{args_at, args_end}

-- ONE ARGUMENT

module _ (ns : List Node) (ks : List Kind) (whole : TypeId) where
  abbrev after_term : NExpr → NArgs → Option (NTy × NTy) → Option (List (NTy × NExpr))
  after_term a rest o = from_some (λ (e : NTy × NTy). made (λ more. (e.0, a) ∷ more) (asked_terms e.1 rest)) o

  pub no_function : (a : NExpr) → None ≡ function_ends (shown_at ns ks whole.0) → Asks ns ns ks whole (NATerm a) None
  unfolding asked_behind
  no_function a h = record { view = λ rest. ap (after_term a rest) (sym h) }

  pub is_function : (from to : TypeId) (e : Bor (Expr ℕ Ref)) → Some (shown_at ns ks from.0, shown_at ns ks to.0) ≡ function_ends (shown_at ns ks whole.0)
      → Asks ns ns ks whole (NATerm (nexpr_of e.now)) (Some (record { asked = Some (record { ty = from; term = e }); whole = to }))
  unfolding asked_behind
  is_function from to e h = record { view = λ rest. ap (after_term (nexpr_of e.now) rest) (sym h) }

  abbrev after_coercion : NArgs → Option (Role × NTy × NTy × NTy) → Option (List (NTy × NExpr))
  after_coercion rest o = from_some (λ (p : Role × NTy × NTy × NTy). asked_terms p.3 rest) o

  pub no_coforall : (g : NCo) → None ≡ coercion_asked (shown_at ns ks whole.0) → Asks ns ns ks whole (NACo g) None
  unfolding asked_behind
  no_coforall g h = record { view = λ rest. ap (after_coercion rest) (sym h) }

  pub is_coforall : (g : NCo) (a : proven.Ends) (to : TypeId) → Some (a.role, shown_at ns ks a.left.0, shown_at ns ks a.right.0, shown_at ns ks to.0) ≡ coercion_asked (shown_at ns ks whole.0)
      → Asks ns ns ks whole (NACo g) (Some (record { asked = None; whole = to }))
  unfolding asked_behind
  is_coforall g a to h = record { view = λ rest. ap (after_coercion rest) (sym h) }

module _ (old new : List Node) (ks : List Kind) (whole : TypeId) (u : NTy) where
  abbrev after_type : NArgs → Option NTy → Option (List (NTy × NExpr))
  after_type rest o = from_some (λ v. asked_terms v rest) o

  pub no_forall : None ≡ at_type (shown_at old ks whole.0) u → Asks old new ks whole (NAType u) None
  unfolding asked_behind
  no_forall h = record { view = λ rest. ap (after_type rest) (sym h) }

  pub is_forall : (to : TypeId) → Some (shown_at new ks to.0) ≡ at_type (shown_at old ks whole.0) u → Asks old new ks whole (NAType u) (Some (record { asked = None; whole = to }))
  unfolding asked_behind
  is_forall to h = record { view = λ rest. ap (after_type rest) (sym h) }

pub ruleset term_rules = (no_function, is_function)

pub ruleset coercion_rules = (no_coforall, is_coforall)

-- SEVERAL

raised : ℕ → NTy × NExpr → NTy × NExpr
raised n p = (raised_type n p.0, p.1)

terms_stand : Stands IsAskedAt asked_at raised
unfolding raised
terms_stand = record {
  grows = λ old new ks a more h. IsTypeAt-grows old new ks a.ty.0 more h;
  same = λ old new ks a more h. ap (λ t. (t, nexpr_of a.term.now)) (shown_at-grows old new ks a.ty.0 more h);
  past = λ ns bs ks a h. IsTypeAt-past ns bs ks a.ty.0 h;
  moved = λ ns bs ks a h. ap (λ t. (t, nexpr_of a.term.now)) (shown_at-past ns bs ks a.ty.0 h);
}

pub AreAskedAt-none : (ns : List Node) (ks : List Kind) → AreAskedAt ns ks []
AreAskedAt-none ns ks = record { each = all_none IsAskedAt asked_at raised ns ks }

AreAskedAt-grows : (old new : List Node) (ks : List Kind) (found : List AskedTerm) → Extends old new → AreAskedAt old ks found → AreAskedAt new ks found
AreAskedAt-grows old new ks found more hs = record { each = all_grow IsAskedAt asked_at raised terms_stand old new ks found more hs.each }

shown-grows : (old new : List Node) (ks : List Kind) (found : List AskedTerm) → Extends old new → AreAskedAt old ks found → asked_all_at new ks found ≡ asked_all_at old ks found
unfolding asked_all_at
shown-grows old new ks found more hs = shows_same IsAskedAt asked_at raised terms_stand old new ks found more hs.each

-- with the term of one more argument, if it is one
module _ (old new : List Node) (ks : List Kind) (found : List AskedTerm) (grown : Extends old new) (all_in : AreAskedAt old ks found) where
  added_in : (own : Option AskedTerm) → IfSome own (λ a. IsAskedAt new ks a) → AreAskedAt new ks (found ++ option_to_list own)
  added_in None h = subst (AreAskedAt new ks) (sym (append-nil found)) (AreAskedAt-grows old new ks found grown all_in)
  added_in (Some a) h = record { each = all_push IsAskedAt asked_at raised terms_stand old new ks found a grown all_in.each h }

  pub AreAskedAt-add : (pushed : List AskedTerm) (own : Option AskedTerm) → IfSome own (λ a. IsAskedAt new ks a) → pushed ≡ found ++ option_to_list own → AreAskedAt new ks pushed
  AreAskedAt-add pushed own h is = subst (AreAskedAt new ks) (sym is) (added_in own h)

  abbrev behind_found : List AskedTerm → Option (List (NTy × NExpr)) → Option (List (NTy × NExpr))
  behind_found xs o = made (λ more. asked_all_at new ks xs ++ more) o

  shown_before : (own : Option AskedTerm) (o : Option (List (NTy × NExpr)))
      → made (λ more. asked_all_at old ks found ++ more) (before_others new ks own o) ≡ behind_found (found ++ option_to_list own) o
  unfolding asked_all_at
  shown_before None o =
      ap (λ xs. made (λ more. xs ++ more) o) (sym (shown-grows old new ks found grown all_in)) ∙ ap (λ xs. behind_found xs o) (sym (append-nil found))
  shown_before (Some a) None = refl
  shown_before (Some a) (Some rest) =
      ap Some (sym (append_assoc (asked_all_at old ks found) (asked_at new ks a ∷ []) rest)
      ∙ ap (λ xs. xs ++ rest) (sym (shows_push IsAskedAt asked_at raised terms_stand old new ks found a grown all_in.each)))

  module _ (whole : Option (List (NTy × NExpr))) (t : TypeId) (args : List (Arg ℕ Ref)) (i : ℕ) (x : Arg ℕ Ref) (low : i < length args) (is : x ≡ get_or args i x)
      (so_far : whole ≡ made (λ more. asked_all_at old ks found ++ more) (asked_terms (shown_at old ks t.0) (nargs_of (drop i args)))) where
    at_item : (step : Option Step) → Asks old new ks t (narg_of x) step → whole ≡ made (λ more. asked_all_at old ks found ++ more) (asked_behind new ks step (nargs_of (drop (i + 1) args)))
    at_item step on =
        so_far ∙ ap (λ z. made (λ more. asked_all_at old ks found ++ more) (asked_terms (shown_at old ks t.0) z)) (args_at args i x low is)
        ∙ ap (made (λ more. asked_all_at old ks found ++ more)) (on.view (nargs_of (drop (i + 1) args)))

    pub none_more : Asks old new ks t (narg_of x) None → None ≡ whole
    unfolding asked_behind
    none_more on = sym (at_item None on)

    pub one_more : (s : Step) (pushed : List AskedTerm) → Asks old new ks t (narg_of x) (Some s) → pushed ≡ found ++ option_to_list s.asked
        → whole ≡ made (λ more. asked_all_at new ks pushed ++ more) (asked_terms (shown_at new ks s.whole.0) (nargs_of (drop (i + 1) args)))
    unfolding asked_behind
    one_more s pushed on push =
        let rest = asked_terms (shown_at new ks s.whole.0) (nargs_of (drop (i + 1) args)) in
        at_item (Some s) on ∙ shown_before s.asked rest ∙ ap (λ xs. behind_found xs rest) (sym push)

pub none_before : (ns : List Node) (ks : List Kind) (found : List AskedTerm) → found ≡ [] → (o : Option (List (NTy × NExpr))) → o ≡ made (λ more. asked_all_at ns ks found ++ more) o
unfolding asked_all_at
none_before ns ks found none None = refl
none_before ns ks found none (Some xs) = ap (λ ys. Some (asked_all_at ns ks ys ++ xs)) (sym none)

pub none_left : (ns : List Node) (ks : List Kind) (found : List AskedTerm) (whole : Option (List (NTy × NExpr))) (t : TypeId) (args : List (Arg ℕ Ref)) (i : ℕ) → length args ≤ i
    → whole ≡ made (λ more. asked_all_at ns ks found ++ more) (asked_terms (shown_at ns ks t.0) (nargs_of (drop i args))) → Some (asked_all_at ns ks found) ≡ whole
none_left ns ks found whole t args i far so_far =
    sym (so_far ∙ ap (λ z. made (λ more. asked_all_at ns ks found ++ more) (asked_terms (shown_at ns ks t.0) z)) (args_end args i far) ∙ ap Some (append-nil (asked_all_at ns ks found)))
