-- What does not have some variables and join points is the same with them taken away and put back.
use Rattle.std.proofs.Common.{◌≡◌, ℕ, zero, suc, true, false, List, [], ◌∷◌, refl, ap, ap₂, ◌∙◌, arith}
use Rattle.std.proofs.Math.Path.{fun_ext}
use Rattle.fc_model.specs.Nameless.{NTy, NCo, NBinder, NBValue, NBType, NBCo, NArg, NATerm, NAType, NACo, NBound, NJoined, NBranch, NExpr, NLocal, NVar, NLit, NApp, NLam, NLet, NCase, NCast}
use Rattle.fc_model.specs.Nameless.{NCon, NPrim, NFail, NJoin, NJump, NArgs, NoNArgs, MoreNArgs, NExprs, NoNExprs, MoreNExprs, NBinds, NoNBinds, MoreNBinds, NJoins, NoNJoins, MoreNJoins}
use Rattle.fc_model.specs.Nameless.{NAlts, NoNAlts, MoreNAlts}
use Rattle.fc_model.specs.Replacing.{Renaming, below_binder, below_binders, below_joins, below_values, bind_count, coercion_variables, join_count, put_in_alts, put_in_arg, put_in_args}
use Rattle.fc_model.specs.Replacing.{put_in_binds, put_in_exprs, put_in_joins, renamed, renamed_coercion, replaced_binder, replaced_binders, times, values_behind, values_behind_all}
use Rattle.fc_model.specs.Replacing.{values_below, variables, past_a_join, past_a_value}
use Rattle.fc_model.specs.Substituting.{renaming_below, substituted_type}
use Rattle.fc_model.proofs.RenamedItself.{binder_itself, binders_themselves, co_itself, each, each_type}
use Rattle.fc_model.proofs.Substitutions.{variables_for_themselves}
use Rattle.fc_rows.specs.Occurrences.{Sought, occurrences, in_alts, in_arg, in_args, behind, behind_all, behind_joins, behind_values, in_binds, in_exprs, in_joins, dead_before, inside}
use Rattle.fc_rows.specs.Occurrences.{is_dead}
use Rattle.fc_rows.specs.Surroundings.{past_joins, past_values}
use Rattle.fc_row_types.proofs.Fewer.{and_dead, fields_dead, inside_dead, lambda_dead, moving, under_binder, under_binders, under_joins}

-- PAST ONE BINDER

pub one_value_past : past_values 1 ≡ past_a_value
one_value_past = ap (λ v. moving v each) (fun_ext (λ i. omega arith))

pub one_join_past : past_joins 1 ≡ past_a_join
one_join_past = ap (moving each) (fun_ext (λ i. omega arith))

-- TAKEN AWAY AND PUT BACK

-- w and k undo v and j, but for what counts
pub record Undo (u : Sought) (v w j k : ℕ → ℕ) : Type 0 where
  pub values : (i : ℕ) → is_dead (u.values i) ≡ true → w (v i) ≡ i
  pub joins : (i : ℕ) → is_dead (u.joins i) ≡ true → k (j i) ≡ i

undo_value : (u : Sought) (v w j k : ℕ → ℕ) → Undo u v w j k → Undo (behind_values 1 u) (values_below variables coercion_variables v) (values_below variables coercion_variables w) j k
undo_value u v w j k o = record { values = here; joins = o.joins }
  where
    here : (i : ℕ) → is_dead (dead_before u.values i) ≡ true → values_below variables coercion_variables w (values_below variables coercion_variables v i) ≡ i
    here zero h = refl
    here (suc i) h = ap suc (o.values i h)

undo_join : (u : Sought) (v w j k : ℕ → ℕ) → Undo u v w j k → Undo (behind_joins 1 u) v w (renaming_below j) (renaming_below k)
undo_join u v w j k o = record { values = o.values; joins = here }
  where
    here : (i : ℕ) → is_dead (dead_before u.joins i) ≡ true → renaming_below k (renaming_below j i) ≡ i
    here zero h = refl
    here (suc i) h = ap suc (o.joins i h)

undo_values : (n : ℕ) (u : Sought) (v w j k : ℕ → ℕ) → Undo u v w j k
    → Undo (behind_values n u) (times n (values_below variables coercion_variables) v) (times n (values_below variables coercion_variables) w) j k
undo_values zero u v w j k o = o
undo_values (suc n) u v w j k o =
    undo_values n (behind_values 1 u) (values_below variables coercion_variables v) (values_below variables coercion_variables w) j k (undo_value u v w j k o)

undo_joins : (n : ℕ) (u : Sought) (v w j k : ℕ → ℕ) → Undo u v w j k → Undo (behind_joins n u) v w (times n renaming_below j) (times n renaming_below k)
undo_joins zero u v w j k o = o
undo_joins (suc n) u v w j k o = undo_joins n (behind_joins 1 u) v w (renaming_below j) (renaming_below k) (undo_join u v w j k o)

undo_binder : (b : NBinder) (u : Sought) (v w j k : ℕ → ℕ) → Undo u v w j k → Undo (behind b u) (values_behind variables coercion_variables b v) (values_behind variables coercion_variables b w) j k
undo_binder (NBValue t) u v w j k o = undo_value u v w j k o
undo_binder (NBType t) u v w j k o = record { values = o.values; joins = o.joins }
undo_binder (NBCo r t x) u v w j k o = record { values = o.values; joins = o.joins }

undo_binders : (bs : List NBinder) (u : Sought) (v w j k : ℕ → ℕ) → Undo u v w j k
    → Undo (behind_all bs u) (values_behind_all variables coercion_variables bs v) (values_behind_all variables coercion_variables bs w) j k
undo_binders [] u v w j k o = o
undo_binders (b ∷ bs) u v w j k o = undo_binders bs (behind b u) (values_behind variables coercion_variables b v) (values_behind variables coercion_variables b w) j k (undo_binder b u v w j k o)

-- each type, coercion and binder, twice as it is
twice : (t : NTy) → substituted_type each_type (substituted_type each_type t) ≡ t
twice t = ap (substituted_type each_type) (variables_for_themselves t) ∙ variables_for_themselves t

co_twice : (g : NCo) → renamed_coercion each_type each (renamed_coercion each_type each g) ≡ g
co_twice g = ap (renamed_coercion each_type each) (co_itself g) ∙ co_itself g

-- groups are as long as they were
binds_long : (r : Renaming) (bs : NBinds) → bind_count (put_in_binds variables coercion_variables r bs) ≡ bind_count bs
binds_long r NoNBinds = refl
binds_long r (MoreNBinds b rest) = ap suc (binds_long r rest)

joins_long : (r : Renaming) (js : NJoins) → join_count (put_in_joins variables coercion_variables r js) ≡ join_count js
joins_long r NoNJoins = refl
joins_long r (MoreNJoins j rest) = ap suc (joins_long r rest)

-- below binders that are moved
behind_one : (b : NBinder) (v w j k : ℕ → ℕ) (e d : NExpr) → renamed (moving (values_behind variables coercion_variables b w) k) (renamed (moving (values_behind variables coercion_variables b v) j) e) ≡ d
    → renamed (below_binder variables coercion_variables (replaced_binder each_type b) (moving w k)) (renamed (below_binder variables coercion_variables b (moving v j)) e) ≡ d
behind_one b v w j k e d h =
    ap (λ c. renamed (below_binder variables coercion_variables c (moving w k)) (renamed (below_binder variables coercion_variables b (moving v j)) e)) (binder_itself b)
    ∙ ap₂ (λ x y. renamed x (renamed y e)) (under_binder b w k) (under_binder b v j) ∙ h

behind_many : (bs : List NBinder) (v w j k : ℕ → ℕ) (e d : NExpr) → renamed (moving (values_behind_all variables coercion_variables bs w) k) (renamed (moving (values_behind_all variables coercion_variables bs v) j) e) ≡ d
    → renamed (below_binders variables coercion_variables (replaced_binders each_type bs) (moving w k)) (renamed (below_binders variables coercion_variables bs (moving v j)) e) ≡ d
behind_many bs v w j k e d h =
    ap (λ c. renamed (below_binders variables coercion_variables c (moving w k)) (renamed (below_binders variables coercion_variables bs (moving v j)) e)) (binders_themselves bs)
    ∙ ap₂ (λ x y. renamed x (renamed y e)) (under_binders bs w k) (under_binders bs v j) ∙ h

binder_twice : (b : NBinder) → replaced_binder each_type (replaced_binder each_type b) ≡ b
binder_twice b = ap (replaced_binder each_type) (binder_itself b) ∙ binder_itself b

binders_twice : (bs : List NBinder) → replaced_binders each_type (replaced_binders each_type bs) ≡ bs
binders_twice bs = ap (replaced_binders each_type) (binders_themselves bs) ∙ binders_themselves bs

-- what counts nowhere in an expression is taken away and put back
mutual
  pub put_back : (u : Sought) (v w j k : ℕ → ℕ) → Undo u v w j k → (e : NExpr) → is_dead (occurrences u e) ≡ true → renamed (moving w k) (renamed (moving v j) e) ≡ e
  put_back u v w j k o (NLocal i) h = ap NLocal (o.values i h)
  put_back u v w j k o (NVar n) h = refl
  put_back u v w j k o (NLit n) h = refl
  put_back u v w j k o (NApp f a) h = let p = and_dead (occurrences u f) (in_arg u a) h in ap₂ NApp (put_back u v w j k o f p.0) (arg_back u v w j k o a p.1)
  put_back u v w j k o (NLam b e) h =
      ap₂ NLam (binder_twice b)
      (behind_one b v w j k e e (put_back (behind b u) (values_behind variables coercion_variables b v) (values_behind variables coercion_variables b w) j k (undo_binder b u v w j k o) e (lambda_dead b (occurrences (behind b u) e) h)))
  put_back u v w j k o (NLet true bs e) h =
      let n = bind_count bs in
      let x = times n (values_below variables coercion_variables) v in
      let y = times n (values_below variables coercion_variables) w in
      let p = and_dead (in_binds (behind_values n u) bs) (occurrences (behind_values n u) e) h in
      let m = undo_values n u v w j k o in
      ap (λ l. NLet true (put_in_binds variables coercion_variables (below_values variables coercion_variables l (moving w k)) (put_in_binds variables coercion_variables (moving x j) bs)) (renamed (below_values variables coercion_variables l (moving w k)) (renamed (moving x j) e)))
      (binds_long (moving x j) bs)
      ∙ ap₂ (NLet true) (binds_back (behind_values n u) x y j k m bs p.0) (put_back (behind_values n u) x y j k m e p.1)
  put_back u v w j k o (NLet false bs e) h =
      let n = bind_count bs in
      let x = times n (values_below variables coercion_variables) v in
      let y = times n (values_below variables coercion_variables) w in
      let p = and_dead (in_binds u bs) (occurrences (behind_values n u) e) h in
      ap (λ l. NLet false (put_in_binds variables coercion_variables (moving w k) (put_in_binds variables coercion_variables (moving v j) bs)) (renamed (below_values variables coercion_variables l (moving w k)) (renamed (moving x j) e)))
      (binds_long (moving v j) bs)
      ∙ ap₂ (NLet false) (binds_back u v w j k o bs p.0) (put_back (behind_values n u) x y j k (undo_values n u v w j k o) e p.1)
  put_back u v w j k o (NCase e t s alts) h =
      let p = and_dead (occurrences u e) (in_alts (behind_values 1 u) alts) h in
      let x = values_below variables coercion_variables v in
      let y = values_below variables coercion_variables w in
      ap₂ (λ f a. NCase f (substituted_type each_type (substituted_type each_type t)) (substituted_type each_type (substituted_type each_type s)) a) (put_back u v w j k o e p.0)
      (alts_back (behind_values 1 u) x y j k (undo_value u v w j k o) alts p.1)
      ∙ ap₂ (λ a b. NCase e a b alts) (twice t) (twice s)
  put_back u v w j k o (NCast e g) h = ap₂ NCast (put_back u v w j k o e h) (co_twice g)
  put_back u v w j k o (NCon n args) h = ap (NCon n) (args_back u v w j k o args (fields_dead u args h))
  put_back u v w j k o (NPrim op es) h = ap (NPrim op) (exprs_back u v w j k o es h)
  put_back u v w j k o (NFail t) h = ap NFail (twice t)
  put_back u v w j k o (NJoin true t js e) h =
      let n = join_count js in
      let x = times n renaming_below j in
      let y = times n renaming_below k in
      let p = and_dead (inside (in_joins (behind_joins n u) js)) (occurrences (behind_joins n u) e) h in
      let m = undo_joins n u v w j k o in
      ap (λ r. NJoin true (substituted_type each_type (substituted_type each_type t))
      (put_in_joins variables coercion_variables (below_joins variables coercion_variables (join_count (put_in_joins variables coercion_variables r js)) (moving w k)) (put_in_joins variables coercion_variables r js))
      (renamed (below_joins variables coercion_variables (join_count (put_in_joins variables coercion_variables r js)) (moving w k)) (renamed r e))) (under_joins n v j)
      ∙ ap (λ l. NJoin true (substituted_type each_type (substituted_type each_type t))
      (put_in_joins variables coercion_variables (below_joins variables coercion_variables l (moving w k)) (put_in_joins variables coercion_variables (moving v x) js))
      (renamed (below_joins variables coercion_variables l (moving w k)) (renamed (moving v x) e))) (joins_long (moving v x) js)
      ∙ ap (λ r. NJoin true (substituted_type each_type (substituted_type each_type t)) (put_in_joins variables coercion_variables r (put_in_joins variables coercion_variables (moving v x) js)) (renamed r (renamed (moving v x) e))) (under_joins n w k)
      ∙ ap₂ (NJoin true (substituted_type each_type (substituted_type each_type t))) (joins_back (behind_joins n u) v w x y m js (inside_dead _ p.0)) (put_back (behind_joins n u) v w x y m e p.1)
      ∙ ap (λ s. NJoin true s js e) (twice t)
  put_back u v w j k o (NJoin false t js e) h =
      let n = join_count js in
      let x = times n renaming_below j in
      let y = times n renaming_below k in
      let p = and_dead (in_joins u js) (occurrences (behind_joins n u) e) h in
      let m = undo_joins n u v w j k o in
      ap (λ l. NJoin false (substituted_type each_type (substituted_type each_type t)) (put_in_joins variables coercion_variables (moving w k) (put_in_joins variables coercion_variables (moving v j) js))
      (renamed (below_joins variables coercion_variables l (moving w k)) (renamed (below_joins variables coercion_variables n (moving v j)) e))) (joins_long (moving v j) js)
      ∙ ap₂ (λ r s. NJoin false (substituted_type each_type (substituted_type each_type t)) (put_in_joins variables coercion_variables (moving w k) (put_in_joins variables coercion_variables (moving v j) js)) (renamed r (renamed s e)))
      (under_joins n w k) (under_joins n v j)
      ∙ ap₂ (NJoin false (substituted_type each_type (substituted_type each_type t))) (joins_back u v w j k o js p.0) (put_back (behind_joins n u) v w x y m e p.1)
      ∙ ap (λ s. NJoin false s js e) (twice t)
  put_back u v w j k o (NJump i args) h = let p = and_dead (u.joins i) (in_args u args) h in ap₂ NJump (o.joins i p.0) (args_back u v w j k o args p.1)

  arg_back : (u : Sought) (v w j k : ℕ → ℕ) → Undo u v w j k → (a : NArg) → is_dead (in_arg u a) ≡ true → put_in_arg variables coercion_variables (moving w k) (put_in_arg variables coercion_variables (moving v j) a) ≡ a
  arg_back u v w j k o (NATerm e) h = ap NATerm (put_back u v w j k o e h)
  arg_back u v w j k o (NAType t) h = ap NAType (twice t)
  arg_back u v w j k o (NACo g) h = ap NACo (co_twice g)

  args_back : (u : Sought) (v w j k : ℕ → ℕ) → Undo u v w j k → (args : NArgs) → is_dead (in_args u args) ≡ true
      → put_in_args variables coercion_variables (moving w k) (put_in_args variables coercion_variables (moving v j) args) ≡ args
  args_back u v w j k o NoNArgs h = refl
  args_back u v w j k o (MoreNArgs a rest) h = let p = and_dead (in_arg u a) (in_args u rest) h in ap₂ MoreNArgs (arg_back u v w j k o a p.0) (args_back u v w j k o rest p.1)

  exprs_back : (u : Sought) (v w j k : ℕ → ℕ) → Undo u v w j k → (es : NExprs) → is_dead (in_exprs u es) ≡ true
      → put_in_exprs variables coercion_variables (moving w k) (put_in_exprs variables coercion_variables (moving v j) es) ≡ es
  exprs_back u v w j k o NoNExprs h = refl
  exprs_back u v w j k o (MoreNExprs e rest) h = let p = and_dead (occurrences u e) (in_exprs u rest) h in ap₂ MoreNExprs (put_back u v w j k o e p.0) (exprs_back u v w j k o rest p.1)

  binds_back : (u : Sought) (v w j k : ℕ → ℕ) → Undo u v w j k → (bs : NBinds) → is_dead (in_binds u bs) ≡ true
      → put_in_binds variables coercion_variables (moving w k) (put_in_binds variables coercion_variables (moving v j) bs) ≡ bs
  binds_back u v w j k o NoNBinds h = refl
  binds_back u v w j k o (MoreNBinds (NBound t e) rest) h =
      let p = and_dead (occurrences u e) (in_binds u rest) h in
      ap₂ MoreNBinds (ap₂ NBound (twice t) (put_back u v w j k o e p.0)) (binds_back u v w j k o rest p.1)

  joins_back : (u : Sought) (v w j k : ℕ → ℕ) → Undo u v w j k → (js : NJoins) → is_dead (in_joins u js) ≡ true
      → put_in_joins variables coercion_variables (moving w k) (put_in_joins variables coercion_variables (moving v j) js) ≡ js
  joins_back u v w j k o NoNJoins h = refl
  joins_back u v w j k o (MoreNJoins (NJoined ps e) rest) h =
      let p = and_dead (occurrences (behind_all ps u) e) (in_joins u rest) h in
      ap₂ MoreNJoins (ap₂ NJoined (binders_twice ps)
      (behind_many ps v w j k e e (put_back (behind_all ps u) (values_behind_all variables coercion_variables ps v) (values_behind_all variables coercion_variables ps w) j k (undo_binders ps u v w j k o) e p.0)))
      (joins_back u v w j k o rest p.1)

  alts_back : (u : Sought) (v w j k : ℕ → ℕ) → Undo u v w j k → (alts : NAlts) → is_dead (in_alts u alts) ≡ true
      → put_in_alts variables coercion_variables (moving w k) (put_in_alts variables coercion_variables (moving v j) alts) ≡ alts
  alts_back u v w j k o NoNAlts h = refl
  alts_back u v w j k o (MoreNAlts (NBranch hd bs e) rest) h =
      let p = and_dead (occurrences (behind_all bs u) e) (in_alts u rest) h in
      ap₂ MoreNAlts (ap₂ (NBranch hd) (binders_twice bs)
      (behind_many bs v w j k e e (put_back (behind_all bs u) (values_behind_all variables coercion_variables bs v) (values_behind_all variables coercion_variables bs w) j k (undo_binders bs u v w j k o) e p.0)))
      (alts_back u v w j k o rest p.1)
