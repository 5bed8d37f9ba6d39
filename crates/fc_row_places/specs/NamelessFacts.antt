-- What a place of the nameless tree tells of an expression, on both sides of a change.
use Rattle.std.specs.Prelude.{◌≡◌, ℕ, suc, ◌+◌, ℤ, Bool, true, List, [], ◌∷◌}
use Rattle.fc_syntax.specs.declared.expr.Head.{Head}
use Rattle.fc_syntax.specs.declared.expr.Head.TheVariants as head
use Rattle.fc_syntax.specs.declared.ty.Name.{Name}
use Rattle.fc_model.specs.Erasure.{arg_sorts, below_binds, erased, erased_args, erased_head, no_scope}
use Rattle.fc_model.specs.Nameless.{NTy, NBinder, NBValue, NBType, NBCo, NExpr, NLocal, NVar, NCon, NAType, NArgs, MoreNArgs, NBind, NBound, NBinds, MoreNBinds, NJoins, NAlts, NoNAlts, MoreNAlts}
use Rattle.fc_model.specs.Nameless.{NBranch}
use Rattle.fc_model.specs.Replacing.{Renaming, variables, coercion_variables, below_binders, put_in, replaced_binders, bind_count, join_count, renamed, past_a_type, past_a_coercion, past_a_value}
use Rattle.fc_model.specs.Replacing.{past_a_join}
use Rattle.fc_model.specs.Stepping.{IsHead}
use Rattle.fc_model.specs.Terms as term
use Rattle.fc_model.specs.Terms.{IsSorted}
use Rattle.fc_rows.specs.Shrinking.{moved_args}
use Rattle.fc_rows.specs.Surroundings.{past_values, past_joins, value_count, as_arguments}
use Rattle.fc_meaning.proofs.WrittenExpressions.{AreArgsWritten, HasOwnBinders, IsWritten}
use Rattle.fc_term_rows.specs.Facts.{Fact, FactCon, FactNumber, FactNoneOf, Known}
use Rattle.fc_row_places.specs.NamelessPlaces.{NPlace, NOutside, NBelow, NBelowAll, NPastLet, NPastGroup, NPastJoin, NPastJoins, NInAlt, scope_at}

-- a constructor with what stands for the binders of its alternative, a number, or a head that none of these alternatives is for
pub data NFact : Type 0 where
  NFactCon : Name → NArgs → NFact
  NFactLit : ℤ → NFact
  NFactNoneOf : List term.Head → NFact

-- past one binder more
abbrev pub past_one : NBinder → Renaming
past_one (NBValue t) = past_a_value
past_one (NBType k) = past_a_type
past_one (NBCo r t u) = past_a_coercion

-- an expression, and arguments, past one binder more
abbrev pub past_binder : NBinder → NExpr → NExpr
past_binder b e = renamed (past_one b) e

abbrev pub args_past_binder : NBinder → NArgs → NArgs
args_past_binder b args = moved_args (past_one b) args

-- past binders that stand together
abbrev pub past_binders : List NBinder → NExpr → NExpr
past_binders [] e = e
past_binders (b ∷ bs) e = past_binders bs (past_binder b e)

abbrev pub args_past_binders : List NBinder → NArgs → NArgs
args_past_binders [] args = args
args_past_binders (b ∷ bs) args = args_past_binders bs (args_past_binder b args)

-- facts, seen from further in, and past binders
abbrev pub moved_nfact : Renaming → NFact → NFact
moved_nfact r (NFactCon n args) = NFactCon n (moved_args r args)
moved_nfact r (NFactLit z) = NFactLit z
moved_nfact r (NFactNoneOf hs) = NFactNoneOf hs

abbrev pub fact_past_binder : NBinder → NFact → NFact
fact_past_binder b f = moved_nfact (past_one b) f

abbrev pub fact_past_binders : List NBinder → NFact → NFact
fact_past_binders bs (NFactCon n args) = NFactCon n (args_past_binders bs args)
fact_past_binders bs (NFactLit z) = NFactLit z
fact_past_binders bs (NFactNoneOf hs) = NFactNoneOf hs

-- the arguments of a constructor behind the first types
pub data BehindTypes : NArgs → NArgs → Type 0 where
  behind_none : {args : NArgs} → BehindTypes args args
  behind_one : {t : NTy} {args parts : NArgs} → BehindTypes args parts → BehindTypes (MoreNArgs (NAType t) args) parts

-- the heads of alternatives, when types are gone
abbrev pub heads_among : NAlts → List term.Head
heads_among NoNAlts = []
heads_among (MoreNAlts (NBranch h bs e) rest) = erased_head h bs ∷ heads_among rest

-- FACTS OF NAMES

-- what is known of top-level names, and what a test knows of them
abbrev pub NKnown : Type 1
NKnown = Name → NFact → Type 0

abbrev pub NKnownBy : (Name → NFact → Bool) → NKnown
NKnownBy test = λ n f. test n f ≡ true

-- the arguments of a constructor are written as literals and alternatives are to be, and are sorted outside of all binders
abbrev pub IsClosedFact : NFact → Type 0
IsClosedFact (NFactCon n args) = AreArgsWritten args × IsSorted [] (erased no_scope (NCon n args))
IsClosedFact (NFactLit z) = Unit {0}
IsClosedFact (NFactNoneOf hs) = Unit {0}

-- a fact outside of all binders when types are gone, and all that is known of names
abbrev pub erased_fact : NFact → Fact
erased_fact (NFactCon n args) = FactCon n (arg_sorts no_scope args) (erased_args no_scope args)
erased_fact (NFactLit z) = FactNumber z
erased_fact (NFactNoneOf hs) = FactNoneOf hs

abbrev pub ErasedKnown : NKnown → Known
ErasedKnown G = λ n x. (f : NFact) × G n f × (erased_fact f ≡ x)

-- FACTS AT A PLACE

-- the members of a group whose binder stands at this distance, before a change and after it
pub data NMembersAt : NBinds → NBinds → ℕ → NExpr → NExpr → Type 0 where
  first_members : {t u : NTy} {d e : NExpr} {bs cs : NBinds} (i : ℕ) → i ≡ bind_count bs → bind_count bs ≡ bind_count cs → NMembersAt (MoreNBinds (NBound t d) bs) (MoreNBinds (NBound u e) cs) i d e
  later_members : {a b : NBind} {bs cs : NBinds} {i : ℕ} {d e : NExpr} → NMembersAt bs cs i d e → NMembersAt (MoreNBinds a bs) (MoreNBinds b cs) i d e

-- what a place tells of an expression, on both sides of a change
pub data NKnows (G : NKnown) : NPlace → NExpr → NFact → Type 0 where
  -- of a name, outside of all binders
  nknows_name : {n : Name} {f : NFact} → G n f → IsClosedFact f → NKnows G NOutside (NVar n) f
  -- in an alternative: the binder of the case, and the scrutinee; a constructor with its binders, behind any types
  nknows_constructor_binder : {xt : NTy} {s t : NExpr} {all : NAlts} {n : Name} {bs : List NBinder} {c : NPlace} {args parts : NArgs} → BehindTypes args (as_arguments bs) → BehindTypes args parts
      → NKnows G (NInAlt xt s t all (head.Con n) bs c) (NLocal (value_count bs)) (NFactCon n parts)
  nknows_constructor_scrutinee : {xt : NTy} {s : NExpr} {all : NAlts} {n : Name} {bs : List NBinder} {c : NPlace} {args parts : NArgs} → BehindTypes args (as_arguments bs) → BehindTypes args parts
      → IsWritten s
      → NKnows G (NInAlt xt s s all (head.Con n) bs c) (past_binders bs (renamed past_a_value s)) (NFactCon n parts)
  nknows_literal_binder : {xt : NTy} {s t : NExpr} {all : NAlts} {z : ℤ} {c : NPlace} → NKnows G (NInAlt xt s t all (head.Lit z) [] c) (NLocal 0) (NFactLit z)
  nknows_literal_scrutinee : {xt : NTy} {s : NExpr} {all : NAlts} {z : ℤ} {c : NPlace} → IsWritten s → NKnows G (NInAlt xt s s all (head.Lit z) [] c) (renamed past_a_value s) (NFactLit z)
  nknows_default_binder : {xt : NTy} {s t : NExpr} {all : NAlts} {c : NPlace} → NKnows G (NInAlt xt s t all head.Default [] c) (NLocal 0) (NFactNoneOf (heads_among all))
  nknows_default_scrutinee : {xt : NTy} {s : NExpr} {all : NAlts} {c : NPlace} → IsWritten s → NKnows G (NInAlt xt s s all head.Default [] c) (renamed past_a_value s) (NFactNoneOf (heads_among all))
  -- what a let binds
  nknows_let_constructor : {t : NTy} {n : Name} {args parts : NArgs} {c : NPlace} → AreArgsWritten args → BehindTypes args parts
      → NKnows G (NPastLet t (NCon n args) (NCon n args) c) (NLocal 0) (NFactCon n (moved_args past_a_value parts))
  nknows_let_head : {t : NTy} {d e : NExpr} {c : NPlace} → IsHead (erased (scope_at c) d) → IsHead (erased (scope_at c) e) → NKnows G (NPastLet t d e c) (NLocal 0) (NFactNoneOf [])
  -- what a group binds: a constructor that a change makes no other without types, and heads
  nknows_member_constructor : {bs cs : NBinds} {c : NPlace} {i : ℕ} {n : Name} {args parts : NArgs} {e : NExpr} → NMembersAt bs cs i (NCon n args) e
      → erased (below_binds bs (scope_at c)) (NCon n args) ≡ erased (below_binds bs (scope_at c)) e → AreArgsWritten args → BehindTypes args parts
      → NKnows G (NPastGroup bs cs c) (NLocal i) (NFactCon n parts)
  nknows_member_head : {bs cs : NBinds} {c : NPlace} {i : ℕ} {d e : NExpr} → NMembersAt bs cs i d e → IsHead (erased (below_binds bs (scope_at c)) d)
      → IsHead (erased (below_binds bs (scope_at c)) e) → NKnows G (NPastGroup bs cs c) (NLocal i) (NFactNoneOf [])
  -- further in
  nknows_below : {b : NBinder} {c : NPlace} {e : NExpr} {f : NFact} → NKnows G c e f → NKnows G (NBelow b c) (past_binder b e) (fact_past_binder b f)
  nknows_below_all : {bs : List NBinder} {c : NPlace} {e : NExpr} {f : NFact} → NKnows G c e f → NKnows G (NBelowAll bs c) (past_binders bs e) (fact_past_binders bs f)
  nknows_past_let : {t : NTy} {a b : NExpr} {c : NPlace} {e : NExpr} {f : NFact} → NKnows G c e f → NKnows G (NPastLet t a b c) (renamed past_a_value e) (moved_nfact past_a_value f)
  nknows_past_group : {bs cs : NBinds} {c : NPlace} {e : NExpr} {f : NFact} → bind_count bs ≡ bind_count cs → NKnows G c e f
      → NKnows G (NPastGroup bs cs c) (renamed (past_values (bind_count bs)) e) (moved_nfact (past_values (bind_count bs)) f)
  nknows_past_join : {ps : List NBinder} {a b : NExpr} {c : NPlace} {e : NExpr} {f : NFact} → NKnows G c e f → NKnows G (NPastJoin ps a b c) (renamed past_a_join e) (moved_nfact past_a_join f)
  nknows_past_joins : {js ks : NJoins} {c : NPlace} {e : NExpr} {f : NFact} → join_count js ≡ join_count ks → NKnows G c e f
      → NKnows G (NPastJoins js ks c) (renamed (past_joins (join_count js)) e) (moved_nfact (past_joins (join_count js)) f)
  nknows_past_alternative : {xt : NTy} {s t : NExpr} {all : NAlts} {h : Head} {bs : List NBinder} {c : NPlace} {e : NExpr} {f : NFact} → HasOwnBinders h bs → NKnows G c e f
      → NKnows G (NInAlt xt s t all h bs c) (past_binders bs (renamed past_a_value e)) (fact_past_binders bs (moved_nfact past_a_value f))

-- JOIN POINTS

-- the parameters of a join point, seen from further in
abbrev pub moved_params : Renaming → List NBinder → List NBinder
moved_params r ps = replaced_binders r.types ps

-- what stands below parameters, seen from further in
abbrev pub moved_below : Renaming → List NBinder → NExpr → NExpr
moved_below r ps e = put_in variables coercion_variables (below_binders variables coercion_variables ps r) e

abbrev pub params_past_binders : List NBinder → List NBinder → List NBinder
params_past_binders [] ps = ps
params_past_binders (b ∷ bs) ps = params_past_binders bs (moved_params (past_one b) ps)

abbrev pub below_past_binders : List NBinder → List NBinder → NExpr → NExpr
below_past_binders [] ps e = e
below_past_binders (b ∷ bs) ps e = below_past_binders bs (moved_params (past_one b) ps) (moved_below (past_one b) ps e)

-- a join point at a distance, with its parameters and its right side as they are seen at the place
pub data NKnowsJoin : NPlace → ℕ → List NBinder → NExpr → Type 0 where
  join_here : {c : NPlace} (ps : List NBinder) (a : NExpr) → IsWritten a → NKnowsJoin (NPastJoin ps a a c) 0 (moved_params past_a_join ps) (moved_below past_a_join ps a)
  join_past_let : {t : NTy} {d e : NExpr} {c : NPlace} {i : ℕ} (ps : List NBinder) (a : NExpr) → NKnowsJoin c i ps a
      → NKnowsJoin (NPastLet t d e c) i (moved_params past_a_value ps) (moved_below past_a_value ps a)
  join_past_group : {bs cs : NBinds} {c : NPlace} {i : ℕ} (ps : List NBinder) (a : NExpr) → bind_count bs ≡ bind_count cs → NKnowsJoin c i ps a
      → NKnowsJoin (NPastGroup bs cs c) i (moved_params (past_values (bind_count bs)) ps) (moved_below (past_values (bind_count bs)) ps a)
  join_past_join : {qs : List NBinder} {d e : NExpr} {c : NPlace} {i : ℕ} (ps : List NBinder) (a : NExpr) → NKnowsJoin c i ps a
      → NKnowsJoin (NPastJoin qs d e c) (suc i) (moved_params past_a_join ps) (moved_below past_a_join ps a)
  join_past_joins : {js ks : NJoins} {c : NPlace} {i : ℕ} (ps : List NBinder) (a : NExpr) → join_count js ≡ join_count ks → NKnowsJoin c i ps a
      → NKnowsJoin (NPastJoins js ks c) (i + join_count js) (moved_params (past_joins (join_count js)) ps) (moved_below (past_joins (join_count js)) ps a)
  join_below : {b : NBinder} {c : NPlace} {i : ℕ} (ps : List NBinder) (a : NExpr) → NKnowsJoin c i ps a → NKnowsJoin (NBelow b c) i (moved_params (past_one b) ps) (moved_below (past_one b) ps a)
  join_past_parameters : {bs : List NBinder} {c : NPlace} {i : ℕ} (ps : List NBinder) (a : NExpr) → NKnowsJoin c i ps a
      → NKnowsJoin (NBelowAll bs c) i (params_past_binders bs ps) (below_past_binders bs ps a)
  join_past_alternative : {xt : NTy} {s t : NExpr} {all : NAlts} {h : Head} {bs : List NBinder} {c : NPlace} {i : ℕ} (ps : List NBinder) (a : NExpr) → HasOwnBinders h bs → NKnowsJoin c i ps a
      → NKnowsJoin (NInAlt xt s t all h bs c) i (params_past_binders bs (moved_params past_a_value ps)) (below_past_binders bs (moved_params past_a_value ps) (moved_below past_a_value ps a))
