-- Rewrites of the nameless tree that know their place, with what typing tells of the parts that they need.
use Rattle.std.specs.Prelude.{◌≡◌, Some, ℕ, suc, ℤ, false, List, [], ◌∷◌}
use Rattle.fc_syntax.specs.declared.expr.Head.{Head}
use Rattle.fc_syntax.specs.declared.expr.Head.TheVariants as head
use Rattle.fc_syntax.specs.declared.expr.PrimOp.{PrimOp}
use Rattle.fc_syntax.specs.declared.ty.Name.{Name}
use Rattle.fc_model.specs.Erasure.{Scope, below_all, below_value, binder_sorts, erased, erased_alts, erased_head, sort_of, sort_of_type}
use Rattle.fc_model.specs.Nameless.{NTy, NBinder, NBValue, NBType, NBCo, NCo, NExpr, NLet, NCase, NCon, NJump, NLit, NPrim, NoNExprs, MoreNExprs, NATerm, NAType, NACo, NArgs, NoNArgs, MoreNArgs}
use Rattle.fc_model.specs.Nameless.{NAlts, NoNAlts, MoreNAlts, NBranch}
use Rattle.fc_model.specs.Replacing.{below_binders, below_values, coercion_variables, past_a_value, renamed, replaced, with_argument, with_arguments, unchanged, variables}
use Rattle.fc_model.specs.Stepping.{Key, LitKey, ConKey, Bare, Fielded, choose, on_literals}
use Rattle.fc_model.specs.Terms as term
use Rattle.fc_model.specs.Terms.{Sort, Lifted, Unlifted, InRange, IsAtom}
use Rattle.fc_rows.specs.Shrinking.{moved_args, named_arguments, term_count}
use Rattle.fc_rows.specs.Surroundings.{past_values}
use Rattle.fc_meaning.proofs.WrittenExpressions.{IsWritten}
use Rattle.fc_counted.specs.Places.{sorts_in}
use Rattle.fc_term_rows.specs.TermRows.{IsAmong, IsNoDefault, HasKey, number_at}
use Rattle.fc_row_places.specs.NamelessFacts.{BehindTypes, NFact, NFactCon, NFactLit, NFactNoneOf, NKnown, NKnowsJoin, NKnows}
use Rattle.fc_row_places.specs.NamelessPlaces.{NPlace, scope_at, place_at}
use Rattle.fc_row_places.specs.NamelessRows.{single_bind, NRow}

-- parts have the sorts of binders, and types that stand for types are lifted
abbrev pub PartsFit : Scope → NArgs → List NBinder → Type 0
PartsFit s NoNArgs [] = Unit {0}
PartsFit s (MoreNArgs (NATerm e) rest) (NBValue t ∷ bs) = (sort_of s e ≡ sort_of_type t) × PartsFit s rest bs
PartsFit s (MoreNArgs (NAType u) rest) (NBType k ∷ bs) = (sort_of_type u ≡ Lifted) × PartsFit s rest bs
PartsFit s (MoreNArgs (NACo g) rest) (NBCo r t u ∷ bs) = PartsFit s rest bs
PartsFit s _ _ = ⊥

-- ALTERNATIVES

-- below the binder of the case: the alternative that is taken at a fact, with its binders, its body and the parts for the binders
pub data NChosen (s : Scope) : Sort → NFact → NAlts → List NBinder → NExpr → NArgs → Type 0 where
  nchosen_constructor : {n : Name} {parts : NArgs} {alts : NAlts} {bs : List NBinder} {b : NExpr} → choose (ConKey n) (erased_alts s alts) ≡ Fielded (binder_sorts bs) (erased (below_all bs s) b)
      → NChosen s Lifted (NFactCon n parts) alts bs b parts
  nchosen_constructor_default : {n : Name} {parts : NArgs} {alts : NAlts} {b : NExpr} → choose (ConKey n) (erased_alts s alts) ≡ Bare (erased s b)
      → NChosen s Lifted (NFactCon n parts) alts [] b NoNArgs
  nchosen_literal : {o : Sort} {z : ℤ} {alts : NAlts} {b : NExpr} → choose (LitKey z) (erased_alts s alts) ≡ Bare (erased s b) → NChosen s o (NFactLit z) alts [] b NoNArgs
  nchosen_default : {f : NFact} {b : NExpr} → NChosen s Lifted f (MoreNAlts (NBranch head.Default [] b) NoNAlts) [] b NoNArgs

-- the second alternatives are the first without one of this head and these binders
pub data NWithout : Head → List NBinder → NAlts → NAlts → Type 0 where
  nwithout_first : {h : Head} {bs : List NBinder} {b : NExpr} {alts : NAlts} → NWithout h bs (MoreNAlts (NBranch h bs b) alts) alts
  nwithout_later : {h k : Head} {bs cs : List NBinder} {b : NExpr} {alts blts : NAlts} → NWithout h bs alts blts → NWithout h bs (MoreNAlts (NBranch k cs b) alts) (MoreNAlts (NBranch k cs b) blts)

-- PARTS BOUND BY LETS

-- f is d behind a let for each term among arguments, of a type of its sort; s is the scope outside of all these lets, of which i stand around
pub data BehindLets (s : Scope) (d : NExpr) : ℕ → NArgs → NExpr → Type 0 where
  behind_all_lets : {i : ℕ} → BehindLets s d i NoNArgs d
  behind_let : {i : ℕ} {a f : NExpr} {rest : NArgs} (t : NTy) → sort_of s a ≡ sort_of_type t → BehindLets s d (suc i) rest f
      → BehindLets s d i (MoreNArgs (NATerm a) rest) (NLet false (single_bind t (renamed (past_values i) a)) f)
  behind_type : {i : ℕ} {u : NTy} {f : NExpr} {rest : NArgs} → BehindLets s d i rest f → BehindLets s d i (MoreNArgs (NAType u) rest) f
  behind_coercion : {i : ℕ} {g : NCo} {f : NExpr} {rest : NArgs} → BehindLets s d i rest f → BehindLets s d i (MoreNArgs (NACo g) rest) f

-- the body of an alternative, past lets for the terms among arguments
abbrev pub body_past_lets : NArgs → List NBinder → NExpr → NExpr
body_past_lets args bs b = renamed (below_binders variables coercion_variables bs (below_values variables coercion_variables 1 (past_values (term_count args)))) b

-- the right side of a join point at the variables of such lets
abbrev pub right_past_lets : NArgs → List NBinder → NExpr → NExpr
right_past_lets args ps a = replaced (with_arguments (named_arguments args) unchanged) (renamed (below_binders variables coercion_variables ps (past_values (term_count args))) a)

-- The body of an alternative at the variables of such lets. The binder of the case is bound to the constructor over these, or the constructor is put
-- in for it.
pub data AtFields (xt : NTy) (n : Name) (args parts : NArgs) (bs : List NBinder) (b : NExpr) : NExpr → Type 0 where
  binder_bound : AtFields xt n args parts bs b (NLet false (single_bind xt (NCon n (named_arguments args)))
      (replaced (with_arguments (moved_args past_a_value (named_arguments parts)) unchanged) (body_past_lets args bs b)))
  binder_put : AtFields xt n args parts bs b (replaced (with_arguments (MoreNArgs (NATerm (NCon n (named_arguments args))) (named_arguments parts)) unchanged) (body_past_lets args bs b))

-- FOLDS

-- an answer: a number, or one of the operands
pub data IsFoldAnswer (a b : NExpr) : NExpr → Type 0 where
  answer_number : (z : ℤ) → IsFoldAnswer a b (NLit z)
  answer_first_operand : IsFoldAnswer a b a
  answer_second_operand : IsFoldAnswer a b b

-- for all numbers of the variables it is the primitive's value
abbrev pub IsValueOf : Scope → PrimOp → NExpr → NExpr → NExpr → Type 0
IsValueOf s o a b r = (v : ℕ → ℤ) → ((n : ℕ) → InRange (v n)) → on_literals o (number_at v (erased s a)) (number_at v (erased s b)) ≡ Some (number_at v (erased s r))

-- REWRITES

-- a rewrite at a place, with what typing tells, where G is known of top-level names
pub data NKnowingRow (G : NKnown) : NPlace → NExpr → NExpr → Type 0 where
  nknowing_plain : {c : NPlace} {e d : NExpr} → NRow c e d → NKnowingRow G c e d
  -- case-known of a variable, and case-evaluated
  nknowing_case : {c : NPlace} {y b : NExpr} {f : NFact} {xt rt : NTy} {alts : NAlts} {bs : List NBinder} {parts : NArgs} → IsWritten b → NKnows G c y f
      → NChosen (below_value (sort_of_type xt) (scope_at c)) (sort_of_type xt) f alts bs b parts → PartsFit (scope_at c) parts bs → sort_of (scope_at c) y ≡ sort_of_type xt
      → IsAtom (sorts_in (place_at c)) (sort_of_type xt) (erased (scope_at c) y)
      → NKnowingRow G c (NCase y xt rt alts) (replaced (with_arguments parts (with_argument (NATerm y) unchanged)) b)
  -- a case of an atom with a default alone
  nknowing_case_of_atom : {c : NPlace} {y b : NExpr} {xt rt : NTy} → sort_of_type xt ≡ Unlifted → sort_of (scope_at c) y ≡ Unlifted → IsAtom (sorts_in (place_at c)) Unlifted (erased (scope_at c) y)
      → NKnowingRow G c (NCase y xt rt (MoreNAlts (NBranch head.Default [] b) NoNAlts)) (replaced (with_argument (NATerm y) unchanged) b)
  nknowing_dead_alternative : {c : NPlace} {y : NExpr} {hs : List term.Head} {xt rt : NTy} {h : Head} {bs : List NBinder} {alts blts : NAlts} → NKnows G c y (NFactNoneOf hs)
      → IsAmong (erased_head h bs) hs → IsNoDefault (erased_head h bs) → NWithout h bs alts blts
      → NKnowingRow G c (NCase y xt rt alts) (NCase y xt rt blts)
  -- a value or a literal whose alternative has no binders of its own
  nknowing_case_of_head : {c : NPlace} {v b : NExpr} {xt rt : NTy} {alts : NAlts} (k : Key) → HasKey (sort_of_type xt) (erased (scope_at c) v) k
      → choose k (erased_alts (below_value (sort_of_type xt) (scope_at c)) alts) ≡ Bare (erased (below_value (sort_of_type xt) (scope_at c)) b)
      → NKnowingRow G c (NCase v xt rt alts) (NLet false (single_bind xt v) b)
  -- a constructor with its alternative, behind lets for its fields
  nknowing_case_of_constructor : {c : NPlace} {n : Name} {args : NArgs} {xt rt : NTy} {alts : NAlts} {d f : NExpr} (parts : NArgs) (bs : List NBinder) (b : NExpr) → sort_of_type xt ≡ Lifted → IsWritten b
      → BehindTypes args parts → PartsFit (scope_at c) parts bs
      → choose (ConKey n) (erased_alts (below_value Lifted (scope_at c)) alts) ≡ Fielded (binder_sorts bs) (erased (below_all bs (below_value Lifted (scope_at c))) b)
      → AtFields xt n args parts bs b d → BehindLets (scope_at c) d 0 args f → NKnowingRow G c (NCase (NCon n args) xt rt alts) f
  -- a jump, in whose place the right side of its join point is put, behind lets for its terms
  nknowing_jump : {c : NPlace} {i : ℕ} {args : NArgs} {f : NExpr} (ps : List NBinder) (a : NExpr) → NKnowsJoin c i ps a → PartsFit (scope_at c) args ps
      → BehindLets (scope_at c) (right_past_lets args ps a) 0 args f → NKnowingRow G c (NJump i args) f
  nknowing_fold : {c : NPlace} {o : PrimOp} {a b r : NExpr} → IsFoldAnswer a b r → IsValueOf (scope_at c) o a b r → NKnowingRow G c (NPrim o (MoreNExprs a (MoreNExprs b NoNExprs))) r
