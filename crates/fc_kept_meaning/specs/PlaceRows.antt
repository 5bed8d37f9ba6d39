-- Rewrites of the nameless tree, without what typing tells of their parts.
use Rattle.std.specs.Prelude.{◌≡◌, ℕ, Bool, true, false, List, []}
use Rattle.fc_syntax.specs.Tree.{Kind}
use Rattle.fc_syntax.specs.declared.expr.Head.{Head}
use Rattle.fc_syntax.specs.declared.expr.Head.TheVariants as head
use Rattle.fc_syntax.specs.declared.expr.PrimOp.{PrimOp}
use Rattle.fc_syntax.specs.declared.ty.Name.{Name}
use Rattle.fc_syntax.specs.declared.ty.Role.{Role}
use Rattle.fc_model.specs.Erasure.{below_all, below_value, binder_sorts, erased, erased_alts, erased_head, sort_of_type}
use Rattle.fc_model.specs.Nameless.{NTy, NCo, NGTrans, NBinder, NBValue, NBType, NBCo, NExpr, NLocal, NApp, NLam, NLet, NCase, NCast, NCon, NFail, NJoin, NJump, NArg, NATerm, NAType, NACo, NBranch}
use Rattle.fc_model.specs.Nameless.{NArgs, NBinds, NJoins, NAlts, NoNAlts, MoreNAlts, NPrim, NoNExprs, MoreNExprs}
use Rattle.fc_model.specs.Replacing.{variables, coercion_variables, put_in_alts, renamed, past_a_value, past_a_join, replaced, with_argument, unchanged, value_alone, coercion_alone, bind_count}
use Rattle.fc_model.specs.Replacing.{join_count, with_arguments}
use Rattle.fc_model.specs.Stepping.{Key, ConKey, Bare, Fielded, choose}
use Rattle.fc_model.specs.Terms as term
use Rattle.fc_model.specs.Terms.{Lifted, Unlifted}
use Rattle.fc_model.specs.Typing.{is_atom}
use Rattle.fc_meaning.proofs.WrittenExpressions.{IsWritten}
use Rattle.fc_rows.specs.Shrinking.{moved_arg}
use Rattle.fc_rows.specs.Surroundings.{past_joins, past_values}
use Rattle.fc_term_rows.specs.TermRows.{IsAmong, IsNoDefault, HasKey}
use Rattle.fc_row_places.specs.KnowingRows.{AtFields, BehindLets, PartsFit, NChosen, NWithout, right_past_lets, IsFoldAnswer, IsValueOf}
use Rattle.fc_row_places.specs.NamelessFacts.{BehindTypes, NFact, NFactNoneOf, NKnown, NKnowsJoin, NKnows}
use Rattle.fc_row_places.specs.NamelessPlaces.{NPlace, scope_at}
use Rattle.fc_row_places.specs.NamelessRows.{moved_alts, below_one_value, single_bind, single_join, outer_binder, NamesField}

-- rewrites that need nothing of their place
pub data PlainRow : NExpr → NExpr → Type 0 where
  plain_reflexive_cast : {e : NExpr} {g : NCo} → PlainRow (NCast e g) e
  plain_cast_of_cast : {e : NExpr} {g h : NCo} → PlainRow (NCast (NCast e g) h) (NCast e (NGTrans g h))
  plain_shorter_coercion : {e : NExpr} {g h : NCo} → PlainRow (NCast e g) (NCast e h)
  plain_cast_of_let : {r : Bool} {bs : NBinds} {e : NExpr} {g : NCo} → PlainRow (NCast (NLet r bs e) g) (NLet r bs (NCast e g))
  plain_beta : {t : NTy} {e a : NExpr} → PlainRow (NApp (NLam (NBValue t) e) (NATerm a)) (NLet false (single_bind t a) e)
  plain_beta_type : {k : Kind} {e : NExpr} {u : NTy} → PlainRow (NApp (NLam (NBType k) e) (NAType u)) (replaced (with_argument (NAType u) unchanged) e)
  plain_beta_coercion : {r : Role} {t u : NTy} {e : NExpr} {g : NCo} → PlainRow (NApp (NLam (NBCo r t u) e) (NACo g)) (replaced (coercion_alone g) e)
  plain_dead_let : {t : NTy} {a b : NExpr} → PlainRow (NLet false (single_bind t a) (renamed past_a_value b)) b
  plain_dead_group : {bs : NBinds} {b : NExpr} → PlainRow (NLet true bs (renamed (past_values (bind_count bs)) b)) b
  plain_let_put : {t : NTy} {a b : NExpr} → PlainRow (NLet false (single_bind t a) b) (replaced (value_alone a) b)
  plain_application_of_let : {t : NTy} {a e : NExpr} {b : NArg} → PlainRow (NApp (NLet false (single_bind t a) e) b) (NLet false (single_bind t a) (NApp e (moved_arg past_a_value b)))
  plain_application_of_group : {bs : NBinds} {e : NExpr} {b : NArg} → PlainRow (NApp (NLet true bs e) b) (NLet true bs (NApp e (moved_arg (past_values (bind_count bs)) b)))
  plain_case_of_let : {t xt rt : NTy} {a e : NExpr} {alts : NAlts}
      → PlainRow (NCase (NLet false (single_bind t a) e) xt rt alts) (NLet false (single_bind t a) (NCase e xt rt (moved_alts past_a_value alts)))
  plain_case_of_group : {bs : NBinds} {xt rt : NTy} {e : NExpr} {alts : NAlts}
      → PlainRow (NCase (NLet true bs e) xt rt alts) (NLet true bs (NCase e xt rt (moved_alts (past_values (bind_count bs)) alts)))
  plain_let_of_let : {t u : NTy} {a e b : NExpr}
      → PlainRow (NLet false (single_bind t (NLet false (single_bind u a) e)) b) (NLet false (single_bind u a) (NLet false (single_bind t e) (renamed (below_one_value past_a_value) b)))
  plain_let_of_group : {t : NTy} {bs : NBinds} {e b : NExpr}
      → PlainRow (NLet false (single_bind t (NLet true bs e)) b) (NLet true bs (NLet false (single_bind t e) (renamed (below_one_value (past_values (bind_count bs))) b)))
  plain_dead_join : {t : NTy} {ps : List NBinder} {a b : NExpr} → PlainRow (NJoin false t (single_join ps a) (renamed past_a_join b)) b
  plain_dead_joins : {t : NTy} {js : NJoins} {b : NExpr} → PlainRow (NJoin true t js (renamed (past_joins (join_count js)) b)) b
  plain_applied_fail : {t u : NTy} {a : NArg} → PlainRow (NApp (NFail t) a) (NFail u)
  plain_case_of_fail : {t u xt rt : NTy} {alts : NAlts} → PlainRow (NCase (NFail t) xt rt alts) (NFail u)
  plain_cast_of_fail : {t u : NTy} {g : NCo} → PlainRow (NCast (NFail t) g) (NFail u)
  plain_merged_case : {s : NExpr} {xt yt rt ut : NTy} {alts : NAlts}
      → PlainRow (NCase s xt rt (MoreNAlts (NBranch head.Default [] (NCase (NLocal 0) yt ut alts)) NoNAlts)) (NCase s xt rt (put_in_alts variables coercion_variables outer_binder alts))
  plain_named_field : {t u : NTy} {n : Name} {e b : NExpr} {args named : NArgs} → NamesField e args named
      → PlainRow (NLet false (single_bind t (NCon n args)) b) (NLet false (single_bind u e) (NLet false (single_bind t (NCon n named)) (renamed (below_one_value past_a_value) b)))

-- rewrites at a place, where G is known of top-level names; what a case looks at, where it is known, is a variable or a literal
pub data PlaceRow (G : NKnown) : NPlace → NExpr → NExpr → Type 0 where
  place_plain : {c : NPlace} {e d : NExpr} → PlainRow e d → PlaceRow G c e d
  place_known : {c : NPlace} {y b : NExpr} {f : NFact} {xt rt : NTy} {alts : NAlts} {bs : List NBinder} {parts : NArgs} → is_atom y ≡ true → IsWritten b → NKnows G c y f
      → NChosen (below_value (sort_of_type xt) (scope_at c)) (sort_of_type xt) f alts bs b parts → PartsFit (scope_at c) parts bs
      → PlaceRow G c (NCase y xt rt alts) (replaced (with_arguments parts (with_argument (NATerm y) unchanged)) b)
  -- an unlifted scrutinee and a default alone
  place_atom : {c : NPlace} {y b : NExpr} {xt rt : NTy} → is_atom y ≡ true → sort_of_type xt ≡ Unlifted
      → PlaceRow G c (NCase y xt rt (MoreNAlts (NBranch head.Default [] b) NoNAlts)) (replaced (with_argument (NATerm y) unchanged) b)
  place_dead_alternative : {c : NPlace} {y : NExpr} {hs : List term.Head} {xt rt : NTy} {h : Head} {bs : List NBinder} {alts blts : NAlts} → NKnows G c y (NFactNoneOf hs)
      → IsAmong (erased_head h bs) hs → IsNoDefault (erased_head h bs) → NWithout h bs alts blts
      → PlaceRow G c (NCase y xt rt alts) (NCase y xt rt blts)
  place_head : {c : NPlace} {v b : NExpr} {xt rt : NTy} {alts : NAlts} (k : Key) → HasKey (sort_of_type xt) (erased (scope_at c) v) k
      → choose k (erased_alts (below_value (sort_of_type xt) (scope_at c)) alts) ≡ Bare (erased (below_value (sort_of_type xt) (scope_at c)) b)
      → PlaceRow G c (NCase v xt rt alts) (NLet false (single_bind xt v) b)
  -- a constructor with its alternative, behind lets for its fields
  place_constructor : {c : NPlace} {n : Name} {args : NArgs} {xt rt : NTy} {alts : NAlts} {d f : NExpr} (parts : NArgs) (bs : List NBinder) (b : NExpr) → sort_of_type xt ≡ Lifted → IsWritten b
      → BehindTypes args parts → PartsFit (scope_at c) parts bs
      → choose (ConKey n) (erased_alts (below_value Lifted (scope_at c)) alts) ≡ Fielded (binder_sorts bs) (erased (below_all bs (below_value Lifted (scope_at c))) b)
      → AtFields xt n args parts bs b d → BehindLets (scope_at c) d 0 args f → PlaceRow G c (NCase (NCon n args) xt rt alts) f
  -- a jump as the right side of its join point, behind lets for its terms
  place_jump : {c : NPlace} {i : ℕ} {args : NArgs} {f : NExpr} (ps : List NBinder) (a : NExpr) → NKnowsJoin c i ps a → PartsFit (scope_at c) args ps
      → BehindLets (scope_at c) (right_past_lets args ps a) 0 args f → PlaceRow G c (NJump i args) f
  place_fold : {c : NPlace} {o : PrimOp} {a b r : NExpr} → IsFoldAnswer a b r → IsValueOf (scope_at c) o a b r → PlaceRow G c (NPrim o (MoreNExprs a (MoreNExprs b NoNExprs))) r
