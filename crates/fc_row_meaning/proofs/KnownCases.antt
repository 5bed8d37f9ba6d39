-- A case on what is known becomes its alternative: a rewrite of its place.
use Rattle.std.proofs.Common.{◌≡◌, ℤ, Bool, true, false, if◌then◌else◌, List, [], ◌∷◌, Option, Some, None, refl, sym, ap, ◌∙◌, subst}
use Rattle.fc_syntax.specs.declared.expr.Head.TheVariants as head
use Rattle.fc_syntax.specs.declared.ty.Name.{Name}
use Rattle.fc_model.specs.Calling.{constructor, constructor_type, first_of, from_some}
use Rattle.fc_model.specs.Erasure.{below_value, erased, sort_of_type}
use Rattle.fc_model.specs.Kinding.{Modules}
use Rattle.fc_model.specs.Nameless.{NTy, NBinder, NATerm, NAlts, NExpr, NLocal, NVar, NLit, NCase, NCon, NArgs, NoNArgs, MoreNArgs}
use Rattle.fc_model.specs.Replacing.{past_a_value, replaced, unchanged, with_arguments}
use Rattle.fc_model.specs.Stepping.{ConKey, LitKey}
use Rattle.fc_model.specs.Terms.{Lifted}
use Rattle.fc_model.specs.Typing.{Start, is_atom, with_value, without_joins}
use Rattle.fc_model.specs.TypingLaws.{AreDeclaredKinded}
use Rattle.fc_model.specs.TypingRules.{AltsFit, HasType, typed_case, typed_con, typed_declared, typed_local}
use Rattle.fc_model.proofs.CallsKept.{from_some_inv}
use Rattle.fc_model.proofs.Sameness.{false_true}
use Rattle.fc_model.proofs.TypesKinded.{without_joins_kinded}
use Rattle.fc_rows.specs.Occurrences.{innermost_values, is_dead, occurrences}
use Rattle.fc_rows.specs.Shrinking.{alternative_of, are_trivial, at_constructor, at_scrutinee, at_variable, behind_lets, case_known, case_of_constructor, case_of_known, case_of_variable}
use Rattle.fc_rows.specs.Shrinking.{let_of, moved_args, named_arguments, pair_with, without_first}
use Rattle.fc_rows.specs.Surroundings.{Is, Known, Surroundings}
use Rattle.fc_row_types.specs.TypesKept.{Holds}
use Rattle.fc_row_types.proofs.AlternativesTaken.{constructor_fits}
use Rattle.fc_row_types.proofs.CaseKnownKept.{same_found}
use Rattle.fc_row_types.proofs.EvaluatedKept.{value_star}
use Rattle.fc_row_types.proofs.Made.{if_some_inv, none_some, some_some}
use Rattle.fc_meaning.specs.Laws.{Agrees}
use Rattle.fc_meaning.proofs.HeldDeclarations.{AreHeld}
use Rattle.fc_meaning.proofs.ScopesFit.{agrees}
use Rattle.fc_meaning.proofs.SortsOfTypes.{lifted_by_kind}
use Rattle.fc_meaning.proofs.WrittenExpressions.{AreAltsWritten, IsWritten}
use Rattle.fc_term_rows.specs.TermRows.{HasKey, key_of_constructor, key_of_literal}
use Rattle.fc_row_places.specs.KnowingRows.{AtFields, binder_bound, binder_put, body_past_lets, NChosen, nchosen_constructor, nchosen_constructor_default, nchosen_literal}
use Rattle.fc_row_places.specs.NamelessFacts.{NKnown, NFactCon, NFactLit, NKnows, behind_none}
use Rattle.fc_row_places.specs.NamelessPlaces.{NPlace, scope_at}
use Rattle.fc_kept_meaning.specs.PlaceRows.{place_constructor, place_head, place_known, PlaceRow}
use Rattle.fc_row_meaning.specs.LocalsTold.{Told, told_constructor, told_head, told_literal}
use Rattle.fc_row_meaning.proofs.PlacedWhereTold.{IsPlacedWhereTold}
use Rattle.fc_row_meaning.proofs.ChosenAlternatives.{constructor_chosen, found_written, literal_chosen, other_chosen}
use Rattle.fc_row_meaning.proofs.KnownParts.{constructed_parts, lets_stand}
use Rattle.fc_row_meaning.proofs.ScopesAround.{scope_fits}
use Rattle.fc_row_types.proofs.JoinRowsKept.{pair_named}

-- an alternative as it is found
abbrev Found : Type 0
Found = Option (List NBinder × NExpr)

-- G: what is known of names
module _ (G : NKnown) where
  -- LITERALS

  literal_placed : (c : NPlace) (z : ℤ) (xt rt : NTy) (alts : NAlts) (f : NExpr) (a : Found) → first_of (alternative_of (head.Lit z) alts) (alternative_of head.Default alts) ≡ a
      → from_some (at_scrutinee xt (NLit z)) a ≡ Some f → PlaceRow G c (NCase (NLit z) xt rt alts) f
  literal_placed c z xt rt alts f None e h = none_some h
  literal_placed c z xt rt alts f (Some (x ∷ bs, b)) e h = none_some h
  literal_placed c z xt rt alts f (Some ([], b)) e h =
      subst (PlaceRow G c (NCase (NLit z) xt rt alts)) (some_some h)
      (place_head (LitKey z) key_of_literal (literal_chosen (below_value (sort_of_type xt) (scope_at c)) z alts b (alternative_of (head.Lit z) alts) (alternative_of head.Default alts) refl refl e))

  -- the body of the alternative that is found first
  first_written : (z : ℤ) (alts : NAlts) (bs : List NBinder) (b : NExpr) → AreAltsWritten alts → (o : Found) → alternative_of (head.Lit z) alts ≡ o → first_of o (alternative_of head.Default alts) ≡ Some (bs, b) → IsWritten b
  first_written z alts bs b w (Some x) e h = found_written (head.Lit z) alts bs b w (e ∙ h)
  first_written z alts bs b w None e h = found_written head.Default alts bs b w h

  -- a variable or a name that is known as a literal
  number_placed : (c : NPlace) (y : NExpr) (z : ℤ) (xt rt : NTy) (alts : NAlts) (f : NExpr) → is_atom y ≡ true → NKnows G c y (NFactLit z) → AreAltsWritten alts
      → (a : Found) → first_of (alternative_of (head.Lit z) alts) (alternative_of head.Default alts) ≡ a → from_some (at_variable y NoNArgs) a ≡ Some f → PlaceRow G c (NCase y xt rt alts) f
  number_placed c y z xt rt alts f v k w None e h = none_some h
  number_placed c y z xt rt alts f v k w (Some (x ∷ bs, b)) e h = none_some h
  number_placed c y z xt rt alts f v k w (Some ([], b)) e h =
      subst (PlaceRow G c (NCase y xt rt alts)) (some_some h)
      (place_known v (first_written z alts [] b w (alternative_of (head.Lit z) alts) refl e) k
      (nchosen_literal (literal_chosen (below_value (sort_of_type xt) (scope_at c)) z alts b (alternative_of (head.Lit z) alts) (alternative_of head.Default alts) refl refl e)) tt)

  module _ (ms : Modules) (held : AreHeld ms) (declared : AreDeclaredKinded ms) (s : Surroundings) (g : Holds ms s) (c : NPlace) (agree : Agrees s.context (scope_at c)) where
    -- what is of the type of a constructor is lifted
    con_lifted : (n : Name) (args : NArgs) (xt : NTy) → HasType ms (without_joins s.context) (NCon n args) xt → sort_of_type xt ≡ Lifted
    con_lifted n args xt p = lifted_by_kind (value_star ms declared (without_joins s.context) (without_joins_kinded ms s.context g.kinded) (NCon n args) xt refl p) refl

    -- CONSTRUCTORS

    -- the default, for a constructor without an alternative of its own
    other_placed : (n : Name) (args : NArgs) (xt rt : NTy) (alts : NAlts) (f : NExpr) → sort_of_type xt ≡ Lifted → alternative_of (head.Con n) alts ≡ None
        → (a : Found) → alternative_of head.Default alts ≡ a → from_some (at_scrutinee xt (NCon n args)) a ≡ Some f → PlaceRow G c (NCase (NCon n args) xt rt alts) f
    other_placed n args xt rt alts f l none None e h = none_some h
    other_placed n args xt rt alts f l none (Some (x ∷ bs, b)) e h = none_some h
    other_placed n args xt rt alts f l none (Some ([], b)) e h =
        subst (PlaceRow G c (NCase (NCon n args) xt rt alts)) (some_some h)
        (place_head (ConKey n) (subst (λ o. HasKey o (erased (scope_at c) (NCon n args)) (ConKey n)) (sym l) key_of_constructor) (other_chosen (below_value (sort_of_type xt) (scope_at c)) n alts b none e))

    -- either form of an alternative at fields that are named
    at_fields : (xt : NTy) (n : Name) (args parts : NArgs) (bs : List NBinder) (b : NExpr) (dead : Bool) → AtFields xt n args parts bs b (
        if dead then replaced (with_arguments (MoreNArgs (NATerm (NCon n (named_arguments args))) (named_arguments parts)) unchanged) (body_past_lets args bs b)
        else let_of xt (NCon n (named_arguments args)) (replaced (with_arguments (moved_args past_a_value (named_arguments parts)) unchanged) (body_past_lets args bs b)))
    at_fields xt n args parts bs b true = binder_put
    at_fields xt n args parts bs b false = binder_bound

    -- its own alternative, or the default
    constructor_placed : (n : Name) (args : NArgs) (xt rt : NTy) (alts : NAlts) (f : NExpr) → HasType ms (without_joins s.context) (NCon n args) xt → AltsFit ms (with_value xt s.context) xt rt Start alts
        → AreAltsWritten alts → (o : Found) → alternative_of (head.Con n) alts ≡ o → case_of_constructor ms xt n args o (alternative_of head.Default alts) ≡ Some f → PlaceRow G c (NCase (NCon n args) xt rt alts) f
    constructor_placed n args xt rt alts f typed fit w None same h =
        other_placed n args xt rt alts f (con_lifted n args xt typed) same (alternative_of head.Default alts) refl h
    constructor_placed n args xt rt alts f (typed_con k gs found given long takes) fit w (Some (bs, b)) same h =
        let l = from_some_inv (λ l. at_constructor xt n args l (bs, b)) (constructor ms n) f h in
        let con = constructor_fits ms fit n bs b same in
        let p = constructed_parts ms held (scope_at c) agree n k args xt rt bs b found takes given long con in
        let parts = without_first k.params args in
        let body = body_past_lets args bs b in
        let inner : NArgs → NExpr = λ q.
        (if is_dead (occurrences (innermost_values 1) (replaced (with_arguments (moved_args past_a_value q) unchanged) body))
        then replaced (with_arguments (MoreNArgs (NATerm (NCon n (named_arguments args))) q) unchanged) body
        else let_of xt (NCon n (named_arguments args)) (replaced (with_arguments (moved_args past_a_value q) unchanged) body)) in
        let whole = subst (λ j. at_constructor xt n args j (bs, b) ≡ Some f) (same_found (constructor ms n) l.1 found) l.2 in
        let m = if_some_inv (pair_with bs (without_first k.params (named_arguments args))) (behind_lets 0 (constructor_type n k) args (inner (without_first k.params (named_arguments args)))) f whole in
        let pairs : pair_with bs parts ≡ true = sym (ap (pair_with bs) p.named ∙ pair_named bs parts) ∙ m.0 in
        let lets = subst (λ q. behind_lets 0 (constructor_type n k) args (inner q) ≡ Some f) p.named m.1 in
        place_constructor parts bs b (con_lifted n args xt (typed_con k gs found given long takes)) (found_written (head.Con n) alts bs b w same) p.behind (p.fit pairs)
        (constructor_chosen (below_value Lifted (scope_at c)) n alts bs b same)
        (at_fields xt n args parts bs b (is_dead (occurrences (innermost_values 1) (replaced (with_arguments (moved_args past_a_value (named_arguments parts)) unchanged) body))))
        (lets_stand ms held (scope_at c) agree takes given 0 (inner (named_arguments parts)) f lets)

    -- VARIABLES AND NAMES

    -- where the default is taken
    default_placed : (y : NExpr) (n : Name) (args : NArgs) (xt rt : NTy) (alts : NAlts) (f : NExpr) → is_atom y ≡ true → NKnows G c y (NFactCon n args) → sort_of_type xt ≡ Lifted → AreAltsWritten alts
        → alternative_of (head.Con n) alts ≡ None → (a : Found) → alternative_of head.Default alts ≡ a → from_some (at_variable y NoNArgs) a ≡ Some f → PlaceRow G c (NCase y xt rt alts) f
    default_placed y n args xt rt alts f v k l w none None e h = none_some h
    default_placed y n args xt rt alts f v k l w none (Some (x ∷ bs, b)) e h = none_some h
    default_placed y n args xt rt alts f v k l w none (Some ([], b)) e h =
        subst (PlaceRow G c (NCase y xt rt alts)) (some_some h)
        (place_known v (found_written head.Default alts [] b w e) k
        (subst (λ o. NChosen (below_value (sort_of_type xt) (scope_at c)) o (NFactCon n args) alts [] b NoNArgs) (sym l)
        (nchosen_constructor_default (other_chosen (below_value (sort_of_type xt) (scope_at c)) n alts b none e))) tt)

    -- known as a constructor, with its arguments behind any types
    known_constructor : (y : NExpr) (n : Name) (args : NArgs) (xt rt : NTy) (alts : NAlts) (f : NExpr) → is_atom y ≡ true → Told (NKnows G c) y (Is (NCon n args)) → are_trivial args ≡ true
        → HasType ms (without_joins s.context) (NCon n args) xt → AltsFit ms (with_value xt s.context) xt rt Start alts → AreAltsWritten alts
        → (o : Found) → alternative_of (head.Con n) alts ≡ o → case_of_variable ms y n args o (alternative_of head.Default alts) ≡ Some f → PlaceRow G c (NCase y xt rt alts) f
    known_constructor y n args xt rt alts f v (told_head q k) trivial typed fit w o same h = false_true (sym q ∙ trivial)
    known_constructor y n args xt rt alts f v (told_constructor k) trivial typed fit w None same h =
        default_placed y n args xt rt alts f v (k args behind_none) (con_lifted n args xt typed) w same (alternative_of head.Default alts) refl h
    known_constructor y n args xt rt alts f v (told_constructor k) trivial (typed_con j gs found given long takes) fit w (Some (bs, b)) same h =
        let l = from_some_inv (λ l. at_variable y (without_first l.params args) (bs, b)) (constructor ms n) f h in
        let con = constructor_fits ms fit n bs b same in
        let p = constructed_parts ms held (scope_at c) agree n j args xt rt bs b found takes given long con in
        let parts = without_first j.params args in
        let lifted = con_lifted n args xt (typed_con j gs found given long takes) in
        let m = if_some_inv (pair_with bs parts) (Some (replaced (with_arguments (MoreNArgs (NATerm y) parts) unchanged) b)) f
        (subst (λ i. at_variable y (without_first i.params args) (bs, b) ≡ Some f) (same_found (constructor ms n) l.1 found) l.2) in
        subst (PlaceRow G c (NCase y xt rt alts)) (some_some m.1)
        (place_known v (found_written (head.Con n) alts bs b w same) (k parts p.behind)
        (subst (λ o. NChosen (below_value o (scope_at c)) o (NFactCon n parts) alts bs b parts) (sym lifted) (nchosen_constructor (constructor_chosen (below_value Lifted (scope_at c)) n alts bs b same)))
        (p.fit m.0))

    known_placed : (y : NExpr) (k : Known) (xt rt : NTy) (alts : NAlts) (f : NExpr) → is_atom y ≡ true → Told (NKnows G c) y k → ((e : NExpr) → k ≡ Is e → HasType ms (without_joins s.context) e xt)
        → AltsFit ms (with_value xt s.context) xt rt Start alts → AreAltsWritten alts → case_of_known ms y k alts ≡ Some f → PlaceRow G c (NCase y xt rt alts) f
    known_placed y (Is (NCon n args)) xt rt alts f v told typed fit w h =
        let m = if_some_inv (are_trivial args) (case_of_variable ms y n args (alternative_of (head.Con n) alts) (alternative_of head.Default alts)) f h in
        known_constructor y n args xt rt alts f v told m.0 (typed (NCon n args) refl) fit w (alternative_of (head.Con n) alts) refl m.1
    known_placed y (Is (NLit z)) xt rt alts f v (told_literal k) typed fit w h =
        number_placed c y z xt rt alts f v k w (first_of (alternative_of (head.Lit z) alts) (alternative_of head.Default alts)) refl h
    known_placed y (Is (NLit z)) xt rt alts f v (told_head q k) typed fit w h = absurd cc
    known_placed y k xt rt alts f v told typed fit w h = none_some h

  -- THE ROW

  pub case_known_is_placed : IsPlacedWhereTold G case_known
  case_known_is_placed ms held declared c e f r told = placed e r.result r.typed r.written
    where
      agree : Agrees r.surroundings.context (scope_at c)
      agree = agrees (scope_fits ms r.surroundings c r.around).1

      placed : (e : NExpr) → case_known ms r.surroundings e ≡ Some f → {t : NTy} → HasType ms r.surroundings.context e t → IsWritten e → PlaceRow G c e f
      placed (NCase (NCon n args) xt rt alts) h (typed_case j k p sk rk fit v) w =
          constructor_placed ms held declared r.surroundings r.holds c agree n args xt rt alts f p fit w.1 (alternative_of (head.Con n) alts) refl h
      placed (NCase (NLit z) xt rt alts) h typed w = literal_placed c z xt rt alts f (first_of (alternative_of (head.Lit z) alts) (alternative_of head.Default alts)) refl h
      placed (NCase (NLocal i) xt rt alts) h (typed_case j k (typed_local a) sk rk fit v) w =
          known_placed ms held declared r.surroundings r.holds c agree (NLocal i) (r.surroundings.locals i) xt rt alts f refl (told.locals i) (λ e q. r.holds.locals i e xt q a) fit w.1 h
      placed (NCase (NVar n) xt rt alts) h (typed_case j k (typed_declared a) sk rk fit v) w =
          known_placed ms held declared r.surroundings r.holds c agree (NVar n) (r.surroundings.names n) xt rt alts f refl (told.names n) (λ e q. r.holds.names n e xt q a) fit w.1 h
      placed e h typed w = none_some h
