-- Rewrites of the nameless tree, with what typing tells of the parts that they need.
use Rattle.std.specs.Prelude.{◌≡◌, ℕ, zero, suc, true, false, List, []}
use Rattle.fc_syntax.specs.Tree.{Kind}
use Rattle.fc_syntax.specs.declared.expr.Head.TheVariants as head
use Rattle.fc_syntax.specs.declared.ty.Name.{Name}
use Rattle.fc_syntax.specs.declared.ty.Role.{Role}
use Rattle.fc_model.specs.Erasure.{erased, sort_of, sort_of_type}
use Rattle.fc_model.specs.Nameless.{NTy, NTVar, NCo, NBinder, NBValue, NBType, NBCo, NExpr, NLocal, NApp, NLam, NLet, NCase, NCon, NFail, NJoin, NArg, NATerm, NAType, NACo, NBound, NJoined, NBranch}
use Rattle.fc_model.specs.Nameless.{NArgs, MoreNArgs, NBinds, NoNBinds, MoreNBinds, NJoins, NoNJoins, MoreNJoins, NAlts, NoNAlts, MoreNAlts}
use Rattle.fc_model.specs.Replacing.{Renaming, variables, coercion_variables, renamed, below_values, put_in_alts, past_a_value, past_a_join, replaced, with_argument}
use Rattle.fc_model.specs.Replacing.{unchanged, value_alone, coercion_alone, bind_count, join_count}
use Rattle.fc_model.specs.Terms.{Lifted}
use Rattle.fc_rows.specs.Shrinking.{moved_arg, moved_args}
use Rattle.fc_rows.specs.Surroundings.{past_values, past_joins}
use Rattle.fc_row_places.specs.NamelessPlaces.{NPlace, scope_at}

-- the alternatives of a case, below its binder
abbrev pub moved_alts : Renaming → NAlts → NAlts
moved_alts r alts = put_in_alts variables coercion_variables (below_values variables coercion_variables 1 r) alts

-- below one binder of a value
abbrev pub below_one_value : Renaming → Renaming
below_one_value r = below_values variables coercion_variables 1 r

abbrev pub single_bind : NTy → NExpr → NBinds
single_bind t a = MoreNBinds (NBound t a) NoNBinds

abbrev pub single_join : List NBinder → NExpr → NJoins
single_join ps a = MoreNJoins (NJoined ps a) NoNJoins

-- the binder of the outer case for that of the inner
abbrev pub first_away : ℕ → ℕ
first_away zero = zero
first_away (suc i) = i

abbrev pub outer_binder : Renaming
outer_binder = record { types = λ i. NTVar i; coercions = λ i. i; values = first_away; joins = λ i. i }

-- a field is the innermost variable, and the others go past it
pub data NamesField (e : NExpr) : NArgs → NArgs → Type 0 where
  names_field_here : {rest : NArgs} → NamesField e (MoreNArgs (NATerm e) rest) (MoreNArgs (NATerm (NLocal 0)) (moved_args past_a_value rest))
  names_field_later : {a : NArg} {rest more : NArgs} → NamesField e rest more → NamesField e (MoreNArgs a rest) (MoreNArgs (moved_arg past_a_value a) more)

-- a rewrite at a place, with what typing tells
pub data NRow : NPlace → NExpr → NExpr → Type 0 where
  -- casts, and what else is gone without types
  nrow_erased_alike : {c : NPlace} {e d : NExpr} → erased (scope_at c) e ≡ erased (scope_at c) d → NRow c e d
  nrow_beta : {c : NPlace} {t : NTy} {e a : NExpr} → sort_of (scope_at c) a ≡ sort_of_type t → NRow c (NApp (NLam (NBValue t) e) (NATerm a)) (NLet false (single_bind t a) e)
  nrow_beta_type : {c : NPlace} {k : Kind} {e : NExpr} {u : NTy} → sort_of_type u ≡ Lifted → NRow c (NApp (NLam (NBType k) e) (NAType u)) (replaced (with_argument (NAType u) unchanged) e)
  nrow_beta_coercion : {c : NPlace} {r : Role} {t u : NTy} {e : NExpr} {g : NCo} → NRow c (NApp (NLam (NBCo r t u) e) (NACo g)) (replaced (coercion_alone g) e)
  nrow_dead_let : {c : NPlace} {t : NTy} {a b : NExpr} → NRow c (NLet false (single_bind t a) (renamed past_a_value b)) b
  nrow_dead_group : {c : NPlace} {bs : NBinds} {b : NExpr} → NRow c (NLet true bs (renamed (past_values (bind_count bs)) b)) b
  -- an atom, or what occurs once, for the binder
  nrow_let_put : {c : NPlace} {t : NTy} {a b : NExpr} → sort_of (scope_at c) a ≡ sort_of_type t → NRow c (NLet false (single_bind t a) b) (replaced (value_alone a) b)
  nrow_application_of_let : {c : NPlace} {t : NTy} {a e : NExpr} {b : NArg} → NRow c (NApp (NLet false (single_bind t a) e) b) (NLet false (single_bind t a) (NApp e (moved_arg past_a_value b)))
  nrow_application_of_group : {c : NPlace} {bs : NBinds} {e : NExpr} {b : NArg} → NRow c (NApp (NLet true bs e) b) (NLet true bs (NApp e (moved_arg (past_values (bind_count bs)) b)))
  nrow_case_of_let : {c : NPlace} {t xt rt : NTy} {a e : NExpr} {alts : NAlts}
      → NRow c (NCase (NLet false (single_bind t a) e) xt rt alts) (NLet false (single_bind t a) (NCase e xt rt (moved_alts past_a_value alts)))
  nrow_case_of_group : {c : NPlace} {bs : NBinds} {xt rt : NTy} {e : NExpr} {alts : NAlts}
      → NRow c (NCase (NLet true bs e) xt rt alts) (NLet true bs (NCase e xt rt (moved_alts (past_values (bind_count bs)) alts)))
  nrow_let_of_let : {c : NPlace} {t u : NTy} {a e b : NExpr} → sort_of_type t ≡ Lifted
      → NRow c (NLet false (single_bind t (NLet false (single_bind u a) e)) b) (NLet false (single_bind u a) (NLet false (single_bind t e) (renamed (below_one_value past_a_value) b)))
  nrow_let_of_group : {c : NPlace} {t : NTy} {bs : NBinds} {e b : NExpr} → sort_of_type t ≡ Lifted
      → NRow c (NLet false (single_bind t (NLet true bs e)) b) (NLet true bs (NLet false (single_bind t e) (renamed (below_one_value (past_values (bind_count bs))) b)))
  nrow_dead_join : {c : NPlace} {t : NTy} {ps : List NBinder} {a b : NExpr} → NRow c (NJoin false t (single_join ps a) (renamed past_a_join b)) b
  nrow_dead_joins : {c : NPlace} {t : NTy} {js : NJoins} {b : NExpr} → NRow c (NJoin true t js (renamed (past_joins (join_count js)) b)) b
  nrow_applied_fail : {c : NPlace} {t u : NTy} {a : NArg} → NRow c (NApp (NFail t) a) (NFail u)
  nrow_case_of_fail : {c : NPlace} {t u xt rt : NTy} {alts : NAlts} → NRow c (NCase (NFail t) xt rt alts) (NFail u)
  nrow_merged_case : {c : NPlace} {s : NExpr} {xt yt rt ut : NTy} {alts : NAlts} → sort_of_type yt ≡ sort_of_type xt
      → NRow c (NCase s xt rt (MoreNAlts (NBranch head.Default [] (NCase (NLocal 0) yt ut alts)) NoNAlts)) (NCase s xt rt (put_in_alts variables coercion_variables outer_binder alts))
  nrow_named_field : {c : NPlace} {t u : NTy} {n : Name} {e b : NExpr} {args named : NArgs} → sort_of (scope_at c) e ≡ sort_of_type u → NamesField e args named
      → NRow c (NLet false (single_bind t (NCon n args)) b) (NLet false (single_bind u e) (NLet false (single_bind t (NCon n named)) (renamed (below_one_value past_a_value) b)))
