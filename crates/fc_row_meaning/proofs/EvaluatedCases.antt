-- A case that has a default alone, on what is evaluated, is a rewrite of its place.
use Rattle.std.proofs.Common.{◌≡◌, Bool, true, false, not, ◌&&◌, ◌||◌, if◌then◌else◌, [], Some, None, refl, sym, ap, ◌∙◌, subst}
use Rattle.std.proofs.lemmas.Bool.{and_parts}
use Rattle.fc_syntax.specs.declared.expr.Head.TheVariants as head
use Rattle.fc_model.specs.Erasure.{Scope, below_value, erased, sort_of_type}
use Rattle.fc_model.specs.Kinding.{Modules}
use Rattle.fc_model.specs.Nameless.{NTy, NTInt, NBValue, NBType, NBCo, NBranch, NoNAlts, MoreNAlts, NExpr, NLocal, NVar}
use Rattle.fc_model.specs.Nameless.{NLit, NApp, NLam, NLet, NCase, NCast, NCon, NPrim, NFail, NJoin, NJump, NoNArgs}
use Rattle.fc_model.specs.Replacing.{replaced, value_alone}
use Rattle.fc_model.specs.Stepping.{Bare, ConKey, Key, LamKey, LitKey, choose, default_of, matches, own}
use Rattle.fc_model.specs.Terms.{Alt, Default, Lifted, NoAlt, Sort, Term, Unlifted}
use Rattle.fc_model.specs.Typing.{is_atom, type_read_off, without_joins}
use Rattle.fc_model.specs.TypingLaws.{AreDeclaredKinded}
use Rattle.fc_model.specs.TypingRules.{HasType, typed_case, typed_literal}
use Rattle.fc_model.proofs.Sameness.{false_true}
use Rattle.fc_model.proofs.TypesKinded.{without_joins_kinded}
use Rattle.fc_model.proofs.TypesRead.{type_is_read_off}
use Rattle.fc_rows.specs.Shrinking.{case_evaluated, is_con}
use Rattle.fc_rows.specs.Shrinking.{is_evaluated, is_evaluated_atom, is_of_unlifted_type, let_of}
use Rattle.fc_rows.specs.Surroundings.{Known, Surroundings, is_value}
use Rattle.fc_row_types.specs.TypesKept.{Holds}
use Rattle.fc_row_types.proofs.EvaluatedKept.{value_star}
use Rattle.fc_row_types.proofs.Made.{if_some_inv, none_some, some_some}
use Rattle.fc_meaning.proofs.HeldDeclarations.{AreHeld}
use Rattle.fc_meaning.proofs.SortsOfTypes.{lifted_by_kind, lifted_is}
use Rattle.fc_meaning.proofs.WrittenExpressions.{IsWritten}
use Rattle.fc_term_rows.specs.TermRows.{HasKey, key_of_constructor, key_of_lambda}
use Rattle.fc_row_places.specs.KnowingRows.{NChosen, nchosen_default}
use Rattle.fc_row_places.specs.NamelessFacts.{NKnown, behind_none, NFact, NFactCon, NFactLit, NFactNoneOf, NKnows, heads_among}
use Rattle.fc_row_places.specs.NamelessPlaces.{NPlace, scope_at}
use Rattle.fc_kept_meaning.specs.PlaceRows.{place_atom, place_head, place_known, PlaceRow}
use Rattle.fc_row_meaning.specs.LocalsTold.{AreTold, nothing_told, Told, told_constructor, told_head, told_literal, told_none_of}
use Rattle.fc_row_meaning.proofs.PlacedWhereTold.{IsPlacedWhereTold}

-- VALUES

-- what a value is matched by, when types are gone
value_key : (s : Scope) (e : NExpr) → is_value e ≡ true → (k : Key) × HasKey Lifted (erased s e) k
value_key s (NLocal i) h = false_true h
value_key s (NVar n) h = false_true h
value_key s (NLit n) h = false_true h
value_key s (NApp f a) h = false_true h
value_key s (NLam (NBValue t) e) h = (LamKey, key_of_lambda)
value_key s (NLam (NBType k) e) h = value_key s e h
value_key s (NLam (NBCo r t u) e) h = (LamKey, key_of_lambda)
value_key s (NLet r bs e) h = false_true h
value_key s (NCase e xt rt alts) h = false_true h
value_key s (NCast e g) h = value_key s e h
value_key s (NCon n args) h = (ConKey n, key_of_constructor)
value_key s (NPrim op es) h = false_true h
value_key s (NFail t) h = false_true h
value_key s (NJoin r t js e) h = false_true h
value_key s (NJump i args) h = false_true h

-- a value is no evaluated atom
value_no_atom : (ms : Modules) (s : Surroundings) (e : NExpr) → is_value e ≡ true → is_evaluated_atom ms s e ≡ false
value_no_atom ms s (NLocal i) h = false_true h
value_no_atom ms s (NVar n) h = false_true h
value_no_atom ms s (NLit n) h = false_true h
value_no_atom ms s e h = refl

-- a default alone is taken
default_chosen : (k : Key) (b : Term) → choose k (Alt Default b NoAlt) ≡ Bare b
unfolding choose own default_of matches
default_chosen (LitKey z) b = refl
default_chosen (ConKey n) b = refl
default_chosen LamKey b = refl

-- G: what is known of names
module _ (G : NKnown) where
  value_placed : (ms : Modules) → AreDeclaredKinded ms → (s : Surroundings) → Holds ms s → (c : NPlace) (e f b : NExpr) (xt rt : NTy) (t : NTy) → is_value e ≡ true
      → case_evaluated ms s (NCase e xt rt (MoreNAlts (NBranch head.Default [] b) NoNAlts)) ≡ Some f → HasType ms s.context (NCase e xt rt (MoreNAlts (NBranch head.Default [] b) NoNAlts)) t
      → PlaceRow G c (NCase e xt rt (MoreNAlts (NBranch head.Default [] b) NoNAlts)) f
  value_placed ms declared s g c e f b xt rt t v h (typed_case j k p sk rk fit w) =
      let second : (if is_value e && not (is_con e) then Some (let_of xt e b) else None) ≡ Some f =
      subst (λ y. (if y then Some (replaced (value_alone e) b) else if is_value e && not (is_con e) then Some (let_of xt e b) else None) ≡ Some f) (value_no_atom ms s e v) h in
      let m = if_some_inv (is_value e && not (is_con e)) (Some (let_of xt e b)) f second in
      let l : sort_of_type xt ≡ Lifted = lifted_by_kind (value_star ms declared (without_joins s.context) (without_joins_kinded ms s.context g.kinded) e xt v p) refl in
      let key = value_key (scope_at c) e v in
      let alts = MoreNAlts (NBranch head.Default [] b) NoNAlts in
      subst (PlaceRow G c (NCase e xt rt alts)) (some_some m.1)
      (place_head key.0 (subst (λ o. HasKey o (erased (scope_at c) e) key.0) (sym l) key.1) (default_chosen key.0 (erased (below_value (sort_of_type xt) (scope_at c)) b)))

  -- VARIABLES AND NAMES

  -- what is told of what is evaluated is a fact
  told_fact : (K : NExpr → NFact → Type 0) (y : NExpr) (k : Known) → Told K y k → is_evaluated k ≡ true → (g : NFact) × K y g
  told_fact K y _ nothing_told h = false_true h
  told_fact K y _ (told_constructor {n = n} {args = args} w) h = (NFactCon n args, w args behind_none)
  told_fact K y _ (told_literal {z = z} w) h = (NFactLit z, w)
  told_fact K y _ (told_head n w) h = (NFactNoneOf [], w)
  told_fact K y _ (told_none_of alts w) h = (NFactNoneOf (heads_among alts), w)

  -- an unlifted atom, or one of which something is told
  atom_placed : (c : NPlace) (y : NExpr) (xt rt : NTy) (b : NExpr) → is_atom y ≡ true → IsWritten b → (o : Sort) → sort_of_type xt ≡ o → (o ≡ Lifted → (g : NFact) × NKnows G c y g)
      → PlaceRow G c (NCase y xt rt (MoreNAlts (NBranch head.Default [] b) NoNAlts)) (replaced (value_alone y) b)
  atom_placed c y xt rt b v w Unlifted l known = place_atom v l
  atom_placed c y xt rt b v w Lifted l known =
      let g = known refl in
      place_known v w g.1 (subst (λ o. NChosen (below_value (sort_of_type xt) (scope_at c)) o g.0 (MoreNAlts (NBranch head.Default [] b) NoNAlts) [] b NoNArgs) (sym l) nchosen_default) tt

  first_of_two : (a b : Bool) → a || b ≡ true → b ≡ false → a ≡ true
  first_of_two true b h n = refl
  first_of_two false b h n = false_true (sym n ∙ h)

  module _ (ms : Modules) (held : AreHeld ms) (declared : AreDeclaredKinded ms) where
    evaluated_placed : (s : Surroundings) → Holds ms s → (c : NPlace) → AreTold G c s → (y : NExpr) (xt rt : NTy) (b f : NExpr) → IsWritten b
        → case_evaluated ms s (NCase y xt rt (MoreNAlts (NBranch head.Default [] b) NoNAlts)) ≡ Some f → (t : NTy) → HasType ms s.context (NCase y xt rt (MoreNAlts (NBranch head.Default [] b) NoNAlts)) t
        → PlaceRow G c (NCase y xt rt (MoreNAlts (NBranch head.Default [] b) NoNAlts)) f
    evaluated_placed s g c told (NLit z) xt rt b f wb h t (typed_case j k typed_literal sk rk fit w) =
        subst (PlaceRow G c (NCase (NLit z) NTInt rt (MoreNAlts (NBranch head.Default [] b) NoNAlts))) (some_some h) (place_atom refl refl)
    evaluated_placed s g c told (NLocal i) xt rt b f wb h t (typed_case j k p sk rk fit w) =
        let m = if_some_inv (is_evaluated (s.locals i) || is_of_unlifted_type (type_read_off ms s.context (NLocal i))) (Some (replaced (value_alone (NLocal i)) b)) f h in
        subst (PlaceRow G c (NCase (NLocal i) xt rt (MoreNAlts (NBranch head.Default [] b) NoNAlts))) (some_some m.1)
        (atom_placed c (NLocal i) xt rt b refl wb (sort_of_type xt) refl
        (λ l. told_fact (NKnows G c) (NLocal i) (s.locals i) (told.locals i)
        (first_of_two (is_evaluated (s.locals i)) (is_of_unlifted_type (type_read_off ms s.context (NLocal i))) m.0 (ap is_of_unlifted_type (type_is_read_off ms p) ∙ lifted_is xt l))))
    evaluated_placed s g c told (NVar n) xt rt b f wb h t (typed_case j k p sk rk fit w) =
        let m = if_some_inv (is_evaluated (s.names n)) (Some (replaced (value_alone (NVar n)) b)) f h in
        subst (PlaceRow G c (NCase (NVar n) xt rt (MoreNAlts (NBranch head.Default [] b) NoNAlts))) (some_some m.1)
        (atom_placed c (NVar n) xt rt b refl wb (sort_of_type xt) refl (λ l. told_fact (NKnows G c) (NVar n) (s.names n) (told.names n) m.0))
    evaluated_placed s g c told e xt rt b f wb h t typed =
        let m = if_some_inv (is_value e && not (is_con e)) (Some (let_of xt e b)) f h in
        value_placed ms declared s g c e f b xt rt t (and_parts (is_value e) (not (is_con e)) m.0).0 h typed

  pub case_evaluated_is_placed : IsPlacedWhereTold G case_evaluated
  case_evaluated_is_placed ms held declared c (NCase e xt rt (MoreNAlts (NBranch head.Default [] b) NoNAlts)) f r told =
      evaluated_placed ms held declared r.surroundings r.holds c told e xt rt b f r.written.1.1 r.result r.type r.typed
  case_evaluated_is_placed ms held declared c e f r told = none_some r.result
