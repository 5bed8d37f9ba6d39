-- What is put in for variables adds at each occurrence what it is more than a variable, and nothing else.
use Rattle.std.proofs.Common.{◌≤◌, ◌+◌, ℕ, zero, suc, Bool, true, false, refl, arith, if◌then◌else◌, List, [], ◌∷◌}
use Rattle.fc_model.specs.Nameless.{NBinder, NBValue, NBType, NBCo, NATerm, NAType, NACo, NBound, NJoined, NBranch}
use Rattle.fc_model.specs.Nameless.{NExpr, NLocal, NVar, NLit, NApp, NLam, NLet, NCase, NCast, NCon, NPrim, NFail, NJoin, NJump}
use Rattle.fc_model.specs.Nameless.{NArgs, NoNArgs, MoreNArgs, NExprs, NoNExprs, MoreNExprs, NBinds, NoNBinds, MoreNBinds, NJoins, NoNJoins, MoreNJoins, NAlts, NoNAlts, MoreNAlts}
use Rattle.fc_model.specs.Replacing.{Replacement, Standing, StandingCoercion, below_binder, below_binders, below_joins, below_values, bind_count, join_count, times}
use Rattle.fc_model.specs.Replacing.{put_in, put_in_alts, put_in_args, put_in_binds, put_in_exprs, put_in_joins, values_behind, values_behind_all, values_below}
use Rattle.fc_rows.specs.Occurrences.{Sought, behind, behind_all, behind_joins, behind_values, dead_before, in_alts, in_args, in_binds, in_exprs, in_field, in_fields, in_joins}
use Rattle.fc_rows.specs.Occurrences.{inside, is_local, occurrences}
use Rattle.fc_rows.specs.declared.occurrence.Occurrence.{Occurrence}
use Rattle.fc_rows.specs.declared.occurrence.Occurrence.TheVariants.{Dead}
use Rattle.fc_row_nodes.specs.Nodes.{alts_nodes, args_nodes, binds_nodes, exprs_nodes, fields_nodes, joins_nodes}
use Rattle.fc_row_nodes.proofs.Gains.{IsFew, counts_below, counts_in_field, counts_inside, gain, shared}
use Rattle.fc_row_nodes.proofs.Within.{IsWithin, alternative_kept, binders_kept, field, is_itself, lambda_kept, nodes_in_field, within_cast, within_more, within_plain, within_type}

-- The innermost variable is no more than a variable, and past a binder nothing is more than it was.
pub record StandsLight {V : Type 0} (how : Standing V) : Type 0 where
  pub innermost : field (how.expression how.innermost) ≤ 1
  pub past_type : (v : V) → field (how.expression (how.past_type v)) ≤ field (how.expression v)
  pub past_coercion : (v : V) → field (how.expression (how.past_coercion v)) ≤ field (how.expression v)
  pub past_value : (v : V) → field (how.expression (how.past_value v)) ≤ field (how.expression v)
  pub past_join : (v : V) → field (how.expression (how.past_join v)) ≤ field (how.expression v)

module _ {V W : Type 0} (how : Standing V) (proofs : StandingCoercion W) (light : StandsLight how) (m : ℕ) where
  -- what is put in for a variable is more than a variable by what its occurrences add
  abbrev pub Fits : (ℕ → Occurrence) → (ℕ → V) → Type 0
  Fits u v = (i : ℕ) → field (how.expression (v i)) ≤ 1 + gain m (u i)

  -- BELOW BINDERS

  below_value : (u : ℕ → Occurrence) (v : ℕ → V) → Fits u v → Fits (dead_before u) (values_below how proofs v)
  below_value u v f zero = omega (arith, light.innermost)
  below_value u v f (suc i) = omega (arith, light.past_value (v i), f i)

  below_many : (n : ℕ) (u : ℕ → Occurrence) (v : ℕ → V) → Fits u v → Fits (times n dead_before u) (times n (values_below how proofs) v)
  below_many zero u v f = f
  below_many (suc n) u v f = below_many n (dead_before u) (values_below how proofs v) (below_value u v f)

  below_one : (b : NBinder) (u : Sought) (v : ℕ → V) → Fits u.values v → Fits (behind b u).values (values_behind how proofs b v)
  below_one (NBValue t) u v f = below_value u.values v f
  below_one (NBType k) u v f = λ i. omega (arith, light.past_type (v i), f i)
  below_one (NBCo r t w) u v f = λ i. omega (arith, light.past_coercion (v i), f i)

  below_all : (bs : List NBinder) (u : Sought) (v : ℕ → V) → Fits u.values v → Fits (behind_all bs u).values (values_behind_all how proofs bs v)
  below_all [] u v f = f
  below_all (b ∷ bs) u v f = below_all bs (behind b u) (values_behind how proofs b v) (below_one b u v f)

  past_points : (n : ℕ) (u : ℕ → Occurrence) (v : ℕ → V) → Fits u v → Fits u (times n (λ s i. how.past_join (s i)) v)
  past_points zero u v f = f
  past_points (suc n) u v f = past_points n u (λ i. how.past_join (v i)) (λ i. omega (arith, light.past_join (v i), f i))

  in_group : (o : Bool) (n : ℕ) (u : Sought) (r : Replacement V W) → Fits u.values r.values → Fits (if o then behind_values n u else u).values (if o then below_values how proofs n r else r).values
  in_group true n u r f = below_many n u.values r.values f
  in_group false n u r f = f

  -- EXPRESSIONS

  mutual
    pub put_within : (u : Sought) (r : Replacement V W) → Fits u.values r.values → (e : NExpr) → IsFew m (occurrences u e) → IsWithin (gain m (occurrences u e)) e (put_in how proofs r e)
    put_within u r f (NLocal i) few = record { whole = omega (arith, f i, nodes_in_field (how.expression (r.values i))); as_field = f i }
    put_within u r f (NVar n) few = is_itself (NVar n)
    put_within u r f (NLit n) few = is_itself (NLit n)
    put_within u r f (NApp e (NATerm a)) few =
        let s = shared m (occurrences u e) (occurrences u a) few in
        let x = put_within u r f e s.first in
        let y = put_within u r f a s.second in
        within_plain _ (NApp e (NATerm a)) _ refl (omega (arith, x.whole, y.whole, s.gains))
    put_within u r f (NApp e (NAType t)) few =
        let s = shared m (occurrences u e) Dead few in
        within_type _ e _ t _ (within_more _ _ e _ (omega (arith, s.gains)) (put_within u r f e s.first))
    put_within u r f (NApp e (NACo g)) few =
        let s = shared m (occurrences u e) Dead few in
        let x = put_within u r f e s.first in
        within_plain _ (NApp e (NACo g)) _ refl (omega (arith, x.whole, s.gains))
    put_within u r f (NLam b e) few =
        let c = counts_below m b (occurrences (behind b u) e) in
        let x = put_within (behind b u) (below_binder how proofs b r) (below_one b u r.values f) e (c.few few) in
        within_plain _ (NLam b e) _ refl (omega (arith, x.whole, c.same, lambda_kept r.types b))
    put_within u r f (NLet o bs e) few =
        let n = bind_count bs in
        let v = if o then behind_values n u else u in
        let s = shared m (in_binds v bs) (occurrences (behind_values n u) e) few in
        let x = binds_within v (if o then below_values how proofs n r else r) (in_group o n u r f) bs s.first in
        let y = put_within (behind_values n u) (below_values how proofs n r) (below_many n u.values r.values f) e s.second in
        within_plain _ (NLet o bs e) _ refl (omega (arith, x, y.whole, s.gains))
    put_within u r f (NCase e t w alts) few =
        let s = shared m (occurrences u e) (in_alts (behind_values 1 u) alts) few in
        let x = put_within u r f e s.first in
        let y = alts_within (behind_values 1 u) (below_values how proofs 1 r) (below_value u.values r.values f) alts s.second in
        within_plain _ (NCase e t w alts) _ refl (omega (arith, x.whole, y, s.gains))
    put_within u r f (NCast e g) few = within_cast _ e _ g _ (put_within u r f e few)
    put_within u r f (NCon n args) few = within_plain _ (NCon n args) _ refl (omega (arith, fields_within u r f args few))
    put_within u r f (NPrim op es) few = within_plain _ (NPrim op es) _ refl (omega (arith, exprs_within u r f es few))
    put_within u r f (NFail t) few = within_plain _ (NFail t) _ refl (omega arith)
    put_within u r f (NJoin true t js e) few =
        let n = join_count js in
        let inner = in_joins (behind_joins n u) js in
        let c = counts_inside m inner in
        let s = shared m (inside inner) (occurrences (behind_joins n u) e) few in
        let x = joins_within (behind_joins n u) (below_joins how proofs n r) (past_points n u.values r.values f) js (c.few s.first) in
        let y = put_within (behind_joins n u) (below_joins how proofs n r) (past_points n u.values r.values f) e s.second in
        within_plain _ (NJoin true t js e) _ refl (omega (arith, x, y.whole, s.gains, c.same))
    put_within u r f (NJoin false t js e) few =
        let n = join_count js in
        let s = shared m (in_joins u js) (occurrences (behind_joins n u) e) few in
        let x = joins_within u r f js s.first in
        let y = put_within (behind_joins n u) (below_joins how proofs n r) (past_points n u.values r.values f) e s.second in
        within_plain _ (NJoin false t js e) _ refl (omega (arith, x, y.whole, s.gains))
    put_within u r f (NJump j args) few =
        let s = shared m (u.joins j) (in_args u args) few in
        within_plain _ (NJump j args) _ refl (omega (arith, args_within u r f args s.second, s.gains))

    pub args_within : (u : Sought) (r : Replacement V W) → Fits u.values r.values → (args : NArgs) → IsFew m (in_args u args)
        → args_nodes (put_in_args how proofs r args) ≤ args_nodes args + gain m (in_args u args)
    args_within u r f NoNArgs few = omega arith
    args_within u r f (MoreNArgs (NATerm e) rest) few =
        let s = shared m (occurrences u e) (in_args u rest) few in
        let x = put_within u r f e s.first in
        omega (arith, x.whole, args_within u r f rest s.second, s.gains)
    args_within u r f (MoreNArgs (NAType t) rest) few = omega (arith, args_within u r f rest few)
    args_within u r f (MoreNArgs (NACo g) rest) few = omega (arith, args_within u r f rest few)

    pub fields_within : (u : Sought) (r : Replacement V W) → Fits u.values r.values → (args : NArgs) → IsFew m (in_fields u args)
        → fields_nodes (put_in_args how proofs r args) ≤ fields_nodes args + gain m (in_fields u args)
    fields_within u r f NoNArgs few = omega arith
    fields_within u r f (MoreNArgs (NATerm e) rest) few =
        let c = counts_in_field m (is_local e) (occurrences u e) in
        let s = shared m (in_field u (NATerm e)) (in_fields u rest) few in
        let x = put_within u r f e (c.few s.first) in
        omega (arith, x.as_field, fields_within u r f rest s.second, s.gains, c.same)
    fields_within u r f (MoreNArgs (NAType t) rest) few = omega (arith, fields_within u r f rest few)
    fields_within u r f (MoreNArgs (NACo g) rest) few = omega (arith, fields_within u r f rest few)

    pub exprs_within : (u : Sought) (r : Replacement V W) → Fits u.values r.values → (es : NExprs) → IsFew m (in_exprs u es)
        → exprs_nodes (put_in_exprs how proofs r es) ≤ exprs_nodes es + gain m (in_exprs u es)
    exprs_within u r f NoNExprs few = omega arith
    exprs_within u r f (MoreNExprs e rest) few =
        let s = shared m (occurrences u e) (in_exprs u rest) few in
        let x = put_within u r f e s.first in
        omega (arith, x.whole, exprs_within u r f rest s.second, s.gains)

    pub binds_within : (u : Sought) (r : Replacement V W) → Fits u.values r.values → (bs : NBinds) → IsFew m (in_binds u bs)
        → binds_nodes (put_in_binds how proofs r bs) ≤ binds_nodes bs + gain m (in_binds u bs)
    binds_within u r f NoNBinds few = omega arith
    binds_within u r f (MoreNBinds (NBound t e) rest) few =
        let s = shared m (occurrences u e) (in_binds u rest) few in
        let x = put_within u r f e s.first in
        omega (arith, x.whole, binds_within u r f rest s.second, s.gains)

    pub joins_within : (u : Sought) (r : Replacement V W) → Fits u.values r.values → (js : NJoins) → IsFew m (in_joins u js)
        → joins_nodes (put_in_joins how proofs r js) ≤ joins_nodes js + gain m (in_joins u js)
    joins_within u r f NoNJoins few = omega arith
    joins_within u r f (MoreNJoins (NJoined ps e) rest) few =
        let s = shared m (occurrences (behind_all ps u) e) (in_joins u rest) few in
        let x = put_within (behind_all ps u) (below_binders how proofs ps r) (below_all ps u r.values f) e s.first in
        omega (arith, x.whole, joins_within u r f rest s.second, s.gains, binders_kept r.types ps)

    pub alts_within : (u : Sought) (r : Replacement V W) → Fits u.values r.values → (alts : NAlts) → IsFew m (in_alts u alts)
        → alts_nodes (put_in_alts how proofs r alts) ≤ alts_nodes alts + gain m (in_alts u alts)
    alts_within u r f NoNAlts few = omega arith
    alts_within u r f (MoreNAlts (NBranch h bs e) rest) few =
        let s = shared m (occurrences (behind_all bs u) e) (in_alts u rest) few in
        let x = put_within (behind_all bs u) (below_binders how proofs bs r) (below_all bs u r.values f) e s.first in
        omega (arith, x.whole, alts_within u r f rest s.second, s.gains, alternative_kept h r.types bs)
