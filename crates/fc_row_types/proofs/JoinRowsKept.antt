-- A jump as the right side of its join point, and a join whose one jump is taken.
use Rattle.std.proofs.Common.{◌≡◌, ℕ, ◌+◌, true, false, List, [], ◌∷◌, Some, refl, ap, ◌∙◌, subst, arith}
use Rattle.fc_model.specs.Calling.{Given, Takes, from_some}
use Rattle.fc_model.specs.Faulting.{at_distance}
use Rattle.fc_model.specs.Kinding.{Modules}
use Rattle.fc_model.specs.Nameless.{NTy, NBinder, NBValue, NBType, NBCo, NATerm, NAType, NACo, NArgs, NoNArgs, MoreNArgs, NoNJoins, MoreNJoins}
use Rattle.fc_model.specs.Nameless.{NExpr, NJoin, NJump}
use Rattle.fc_model.specs.Replacing.{below_binders, coercion_variables, renamed, replaced, unchanged, variables, with_arguments}
use Rattle.fc_model.specs.Typing.{Context, JoinPoint, without_joins}
use Rattle.fc_model.specs.TypingLaws.{AreDeclaredKinded, IsContextKinded}
use Rattle.fc_model.specs.TypingRules.{ArgsAreGiven, HasType, typed_jump, typed_join}
use Rattle.fc_model.proofs.Sameness.{false_true}
use Rattle.fc_model.proofs.TypesKinded.{without_joins_kinded}
use Rattle.fc_rows.specs.Changing.{changed}
use Rattle.fc_rows.specs.ChangingCoercions.{as_they_are}
use Rattle.fc_row_types.proofs.CoercionsChanged.{as_they_are_keeps}
use Rattle.fc_rows.specs.Occurrences.{occurrences, innermost_joins}
use Rattle.fc_row_types.specs.TypesKept.{IsPoint, KeepsAtoms, KeepsTypes}
use Rattle.fc_rows.specs.Shrinking.{join_dead, join_once, jump_made, jump_once, jump_place, jump_taken, named_arguments, occurs_once, pair_with, term_count}
use Rattle.fc_rows.specs.Surroundings.{Point, NoPoint, PointOf, behind_joins, past_values}
use Rattle.fc_row_types.proofs.AlternativesTaken.{at_binders}
use Rattle.fc_row_types.proofs.CaseKnownKept.{moved_behind, past_lets_fits}
use Rattle.fc_row_types.proofs.ChangesKept.{kept}
use Rattle.fc_row_types.proofs.Contexts.{with_all_values}
use Rattle.fc_row_types.proofs.DeadRowsKept.{join_dead_keeps}
use Rattle.fc_row_types.proofs.HeadFits.{AlternativesHold}
use Rattle.fc_row_types.proofs.Holding.{holds_joins}
use Rattle.fc_row_types.proofs.LetsKept.{let_types, lets_typed, named_are_given, named_given, named_taken}
use Rattle.fc_row_types.proofs.Made.{if_some_inv, none_some}
use Rattle.fc_model.proofs.CallsKept.{from_some_inv}

pub pair_named : (bs : List NBinder) (args : NArgs) → pair_with bs (named_arguments args) ≡ pair_with bs args
pair_named [] NoNArgs = refl
pair_named [] (MoreNArgs (NATerm e) rest) = refl
pair_named [] (MoreNArgs (NAType t) rest) = refl
pair_named [] (MoreNArgs (NACo g) rest) = refl
pair_named (b ∷ bs) NoNArgs = refl
pair_named (NBValue t ∷ bs) (MoreNArgs (NATerm e) rest) = pair_named bs rest
pair_named (NBValue t ∷ bs) (MoreNArgs (NAType u) rest) = refl
pair_named (NBValue t ∷ bs) (MoreNArgs (NACo g) rest) = refl
pair_named (NBType k ∷ bs) (MoreNArgs (NATerm e) rest) = refl
pair_named (NBType k ∷ bs) (MoreNArgs (NAType u) rest) = pair_named bs rest
pair_named (NBType k ∷ bs) (MoreNArgs (NACo g) rest) = refl
pair_named (NBCo o t u ∷ bs) (MoreNArgs (NATerm e) rest) = refl
pair_named (NBCo o t u ∷ bs) (MoreNArgs (NAType w) rest) = refl
pair_named (NBCo o t u ∷ bs) (MoreNArgs (NACo g) rest) = pair_named bs rest

pub jump_no_atom : KeepsAtoms jump_once
jump_no_atom s (NJump i args) f none h atom = false_true atom
jump_no_atom s e f none h atom = none_some h

module _ (ms : Modules) (declared : AreDeclaredKinded ms) where
  taken : (c : Context) → IsContextKinded ms (without_joins c) → (k : Point) (j : JoinPoint) → ((ps : List NBinder) (e : NExpr) → k ≡ PointOf ps e → IsPoint ms c ps e j)
      → (args : NArgs) (gs : List Given) → ArgsAreGiven ms (without_joins c) args gs → (u : NTy) → Takes j.type gs u → (f : NExpr) → jump_taken k j.type args ≡ Some f
      → HasType ms c f j.result
  taken c context NoPoint j point args gs given u takes f h = none_some h
  taken c context (PointOf ps e) j point args gs given u takes f h =
      let p = point ps e refl in
      let d = with_all_values (let_types gs c.values) c in
      let r = past_values (term_count args) in
      let body = renamed (below_binders variables coercion_variables ps r) e in
      let m = if_some_inv (pair_with ps args) _ f h in
      let right = moved_behind ms declared c d r refl (past_lets_fits ms declared c given) ps e j.result p.right in
      let called = subst (λ l. Takes l.type gs u) p.point takes in
      let inner = at_binders ms declared true ps d p.params (named_arguments args) (named_given gs) (named_are_given ms c given c.values) j.result u (named_taken called)
      (pair_named ps args ∙ m.0) body j.result right in
      let start : (i : ℕ) → at_distance c.values (i + 0) ≡ at_distance c.values i = λ i. let q : i + 0 ≡ i = omega arith in ap (at_distance c.values) q in
      lets_typed ms declared c given j.type takes context 0 c.values start (replaced (with_arguments (named_arguments args) unchanged) body) f j.result inner m.1

  pub jump_once_keeps : KeepsTypes ms jump_once
  jump_once_keeps s g (NJump i args) f h t (typed_jump j gs u at given long takes) =
      taken s.context (without_joins_kinded ms s.context g.kinded) (s.points i) j (λ ps e q. g.points i ps e j q at) args gs given u takes f
      (subst (λ r. jump_made r (s.points i) args ≡ Some f) at h)
  jump_once_keeps s g e f h t typed = none_some h

  pub join_once_keeps : AlternativesHold ms → KeepsTypes ms join_once
  join_once_keeps alternatives s g (NJoin false w (MoreNJoins j NoNJoins) b) f h t (typed_join k wk js q v) =
      let group = MoreNJoins j NoNJoins in
      let inner = behind_joins false w group s in
      let m = if_some_inv (occurs_once (occurrences (innermost_joins 1) b)) _ f h in
      let p = from_some_inv (λ p. from_some (λ c. join_dead (NJoin false w group c)) (changed jump_once as_they_are inner p b)) (jump_place 0 b) f m.1 in
      let c = from_some_inv (λ c. join_dead (NJoin false w group c)) (changed jump_once as_they_are inner p.0 b) f p.2 in
      let body = kept ms declared alternatives jump_once jump_once_keeps jump_no_atom as_they_are (as_they_are_keeps ms) inner (holds_joins ms declared false w group s g (k, wk, v) js) p.0 b c.0 c.1 w q in
      join_dead_keeps ms s g (NJoin false w group c.0) f c.2 w (typed_join k wk js body v)
  join_once_keeps alternatives s g e f h t typed = none_some h
