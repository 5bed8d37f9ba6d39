-- What is put in for variables adds at each occurrence what it is more than a variable, and nothing else, to each number but the nodes.
use Rattle.std.proofs.Common.{◌≡◌, ◌≤◌, ◌+◌, ℕ, zero, suc, Bool, true, false, refl, ap, arith, if◌then◌else◌, List, [], ◌∷◌}
use Rattle.fc_model.specs.Nameless.{NTy, NBinder, NBValue, NBType, NBCo, NATerm, NAType, NACo, NBound, NJoined, NBranch}
use Rattle.fc_model.specs.Nameless.{NExpr, NLocal, NVar, NLit, NApp, NLam, NLet, NCase, NCast, NCon, NPrim, NFail, NJoin, NJump}
use Rattle.fc_model.specs.Nameless.{NArgs, NoNArgs, MoreNArgs, NExprs, NoNExprs, MoreNExprs, NBinds, NoNBinds, MoreNBinds, NJoins, NoNJoins, MoreNJoins, NAlts, NoNAlts, MoreNAlts}
use Rattle.fc_model.specs.Replacing.{Replacement, Standing, StandingCoercion, below_binder, below_binders, below_joins, below_values, bind_count, join_count, replaced_binder, times}
use Rattle.fc_model.specs.Replacing.{put_in, put_in_alts, put_in_args, put_in_binds, put_in_exprs, put_in_joins, values_behind, values_behind_all, values_below}
use Rattle.fc_model.specs.Typing.{is_atom}
use Rattle.fc_rows.specs.Occurrences.{Sought, behind, behind_all, behind_joins, behind_values, dead_before, inside, occurrences}
use Rattle.fc_rows.specs.Occurrences as occ
use Rattle.fc_rows.specs.Shrinking.{is_trivial}
use Rattle.fc_rows.specs.declared.occurrence.Occurrence.{Occurrence}
use Rattle.fc_rows.specs.declared.occurrence.Occurrence.TheVariants.{Dead}
use Rattle.fc_row_nodes.proofs.Within.{alternative_kept, binders_kept}
use Rattle.fc_row_ends.proofs.Drops.{Drops}
use Rattle.fc_row_ends.proofs.Gains.{IsFew, counts_below, counts_inside, gain, shared}
use Rattle.fc_row_ends.proofs.Numbers.{Number, Nodes, Fields, Level, further, count, as_field, extra, lambda, own}
use Rattle.fc_row_ends.proofs.Numbers.{in_alts, in_args, in_binds, in_exprs, in_fields, in_joins}

abbrev pub is_nodes : Number → Bool
is_nodes Nodes = true
is_nodes n = false

extra_alike : (n : Number) → is_nodes n ≡ false → (a t s : Bool) → extra n a t ≡ extra n a s
extra_alike Nodes other a t s = absurd cc
extra_alike n other a t s = refl

pub atom_extra : (n : Number) → extra n true true ≡ 0
atom_extra Nodes = refl
atom_extra Fields = refl
atom_extra n = refl

lambda_stays : (n : Number) (s : ℕ → NTy) (b : NBinder) → lambda n (replaced_binder s b) ≡ lambda n b
lambda_stays n s (NBValue t) = refl
lambda_stays n s (NBType k) = refl
lambda_stays n s (NBCo r t u) = refl

-- The innermost variable is no more than a variable, and past a binder nothing is more than it was.
pub record StandsLight (n : Number) {V : Type 0} (how : Standing V) : Type 0 where
  pub innermost : Drops n 0 (NLocal 0) (how.expression how.innermost)
  pub past_type : (v : V) → Drops n 0 (how.expression v) (how.expression (how.past_type v))
  pub past_coercion : (v : V) → Drops n 0 (how.expression v) (how.expression (how.past_coercion v))
  pub past_value : (v : V) → Drops n 0 (how.expression v) (how.expression (how.past_value v))
  pub past_join : (v : V) → Drops n 0 (how.expression v) (how.expression (how.past_join v))

-- what is put in is more than a variable by what its occurrences add
pub record FitsOne (n : Number) (m x : ℕ) (o : Occurrence) (e : NExpr) : Type 0 where
  pub whole : (l : Level n) → count n l e ≤ own n 1 + gain m x o
  pub field : (l : Level n) → as_field n l e ≤ own n 1 + gain m x (occ.as_field o)

module _ (n : Number) (other : is_nodes n ≡ false) {V W : Type 0} (how : Standing V) (proofs : StandingCoercion W) (light : StandsLight n how) (m x : ℕ) where
  abbrev pub Fits : (ℕ → Occurrence) → (ℕ → V) → Type 0
  Fits u v = (i : ℕ) → FitsOne n m x (u i) (how.expression (v i))

  -- BELOW BINDERS

  fits_still : (o : Occurrence) (e f : NExpr) → FitsOne n m x o e → Drops n 0 e f → FitsOne n m x o f
  fits_still o e f w d = record { whole = λ l. omega (arith, w.whole l, d.whole l); field = λ l. omega (arith, w.field l, d.field l) }

  below_value : (u : ℕ → Occurrence) (v : ℕ → V) → Fits u v → Fits (dead_before u) (values_below how proofs v)
  below_value u v f zero = record { whole = λ l. omega (arith, light.innermost.whole l); field = λ l. omega (arith, light.innermost.field l, atom_extra n) }
  below_value u v f (suc i) = fits_still (u i) _ _ (f i) (light.past_value (v i))

  below_many : (k : ℕ) (u : ℕ → Occurrence) (v : ℕ → V) → Fits u v → Fits (times k dead_before u) (times k (values_below how proofs) v)
  below_many zero u v f = f
  below_many (suc k) u v f = below_many k (dead_before u) (values_below how proofs v) (below_value u v f)

  below_one : (b : NBinder) (u : Sought) (v : ℕ → V) → Fits u.values v → Fits (behind b u).values (values_behind how proofs b v)
  below_one (NBValue t) u v f = below_value u.values v f
  below_one (NBType k) u v f = λ i. fits_still (u.values i) _ _ (f i) (light.past_type (v i))
  below_one (NBCo r t w) u v f = λ i. fits_still (u.values i) _ _ (f i) (light.past_coercion (v i))

  below_all : (bs : List NBinder) (u : Sought) (v : ℕ → V) → Fits u.values v → Fits (behind_all bs u).values (values_behind_all how proofs bs v)
  below_all [] u v f = f
  below_all (b ∷ bs) u v f = below_all bs (behind b u) (values_behind how proofs b v) (below_one b u v f)

  past_points : (k : ℕ) (u : ℕ → Occurrence) (v : ℕ → V) → Fits u v → Fits u (times k (λ s i. how.past_join (s i)) v)
  past_points zero u v f = f
  past_points (suc k) u v f = past_points k u (λ i. how.past_join (v i)) (λ i. fits_still (u i) _ _ (f i) (light.past_join (v i)))

  in_group : (o : Bool) (k : ℕ) (u : Sought) (r : Replacement V W) → Fits u.values r.values → Fits (if o then behind_values k u else u).values (if o then below_values how proofs k r else r).values
  in_group true k u r f = below_many k u.values r.values f
  in_group false k u r f = f

  -- EXPRESSIONS

  pub field_put : (u : Sought) (r : Replacement V W) → Fits u.values r.values → (e : NExpr) → IsFew m x (occ.in_field u (NATerm e))
      → (IsFew m x (occurrences u e) → (l : Level n) → count n l (put_in how proofs r e) ≤ count n l e + gain m x (occurrences u e))
      → (l : Level n) → as_field n l (put_in how proofs r e) ≤ as_field n l e + gain m x (occ.in_field u (NATerm e))
  field_put u r f (NLocal i) few put l = let w = f i in omega (arith, w.field l)
  field_put u r f e few put l = omega (arith, put few l, extra_alike n other (is_atom e) (is_trivial e) (is_trivial (put_in how proofs r e)))

  mutual
    pub put_most : (u : Sought) (r : Replacement V W) → Fits u.values r.values → (e : NExpr) → IsFew m x (occurrences u e) → (l : Level n)
        → count n l (put_in how proofs r e) ≤ count n l e + gain m x (occurrences u e)
    put_most u r f (NLocal i) few l = let w = f i in w.whole l
    put_most u r f (NVar y) few l = omega arith
    put_most u r f (NLit z) few l = omega arith
    put_most u r f (NApp e (NATerm a)) few l =
        let s = shared m x (occurrences u e) (occurrences u a) few in
        omega (arith, put_most u r f e s.first (further n l), put_most u r f a s.second (further n l), s.gains)
    put_most u r f (NApp e (NAType t)) few l = let s = shared m x (occurrences u e) Dead few in omega (arith, put_most u r f e s.first (further n l), s.gains)
    put_most u r f (NApp e (NACo g)) few l = let s = shared m x (occurrences u e) Dead few in omega (arith, put_most u r f e s.first (further n l), s.gains)
    put_most u r f (NLam b e) few l =
        let c = counts_below m x b (occurrences (behind b u) e) in
        omega (arith, put_most (behind b u) (below_binder how proofs b r) (below_one b u r.values f) e (c.few few) l, c.most, lambda_stays n r.types b)
    put_most u r f (NLet o bs e) few l =
        let k = bind_count bs in
        let v = if o then behind_values k u else u in
        let s = shared m x (occ.in_binds v bs) (occurrences (behind_values k u) e) few in
        let y = binds_most v (if o then below_values how proofs k r else r) (in_group o k u r f) bs s.first (further n l) in
        omega (arith, y, put_most (behind_values k u) (below_values how proofs k r) (below_many k u.values r.values f) e s.second l, s.gains)
    put_most u r f (NCase e t w alts) few l =
        let s = shared m x (occurrences u e) (occ.in_alts (behind_values 1 u) alts) few in
        let y = alts_most (behind_values 1 u) (below_values how proofs 1 r) (below_value u.values r.values f) alts s.second (further n l) in
        omega (arith, put_most u r f e s.first (further n l), y, s.gains)
    put_most u r f (NCast e g) few l = omega (arith, put_most u r f e few (further n l))
    put_most u r f (NCon y args) few l = omega (arith, fields_most u r f args few l)
    put_most u r f (NPrim op es) few l = omega (arith, exprs_most u r f es few l)
    put_most u r f (NFail t) few l = omega arith
    put_most u r f (NJoin true t js e) few l =
        let k = join_count js in
        let inner = occ.in_joins (behind_joins k u) js in
        let c = counts_inside m x inner in
        let s = shared m x (inside inner) (occurrences (behind_joins k u) e) few in
        let y = joins_most (behind_joins k u) (below_joins how proofs k r) (past_points k u.values r.values f) js (c.few s.first) l in
        omega (arith, y, put_most (behind_joins k u) (below_joins how proofs k r) (past_points k u.values r.values f) e s.second l, s.gains, c.most)
    put_most u r f (NJoin false t js e) few l =
        let k = join_count js in
        let s = shared m x (occ.in_joins u js) (occurrences (behind_joins k u) e) few in
        omega (arith, joins_most u r f js s.first l, put_most (behind_joins k u) (below_joins how proofs k r) (past_points k u.values r.values f) e s.second l, s.gains)
    put_most u r f (NJump j args) few l =
        let s = shared m x (u.joins j) (occ.in_args u args) few in
        omega (arith, args_most u r f args s.second l, s.gains)

    args_most : (u : Sought) (r : Replacement V W) → Fits u.values r.values → (args : NArgs) → IsFew m x (occ.in_args u args) → (l : Level n)
        → in_args n l (put_in_args how proofs r args) ≤ in_args n l args + gain m x (occ.in_args u args)
    args_most u r f NoNArgs few l = omega arith
    args_most u r f (MoreNArgs (NATerm e) rest) few l =
        let s = shared m x (occurrences u e) (occ.in_args u rest) few in
        omega (arith, put_most u r f e s.first l, args_most u r f rest s.second l, s.gains)
    args_most u r f (MoreNArgs (NAType t) rest) few l = omega (arith, args_most u r f rest few l)
    args_most u r f (MoreNArgs (NACo g) rest) few l = omega (arith, args_most u r f rest few l)

    pub fields_most : (u : Sought) (r : Replacement V W) → Fits u.values r.values → (args : NArgs) → IsFew m x (occ.in_fields u args) → (l : Level n)
        → in_fields n l (put_in_args how proofs r args) ≤ in_fields n l args + gain m x (occ.in_fields u args)
    fields_most u r f NoNArgs few l = omega arith
    fields_most u r f (MoreNArgs (NATerm e) rest) few l =
        let s = shared m x (occ.in_field u (NATerm e)) (occ.in_fields u rest) few in
        omega (arith, field_put u r f e s.first (λ some k. put_most u r f e some k) l, fields_most u r f rest s.second l, s.gains)
    fields_most u r f (MoreNArgs (NAType t) rest) few l = omega (arith, fields_most u r f rest few l)
    fields_most u r f (MoreNArgs (NACo g) rest) few l = omega (arith, fields_most u r f rest few l)

    exprs_most : (u : Sought) (r : Replacement V W) → Fits u.values r.values → (es : NExprs) → IsFew m x (occ.in_exprs u es) → (l : Level n)
        → in_exprs n l (put_in_exprs how proofs r es) ≤ in_exprs n l es + gain m x (occ.in_exprs u es)
    exprs_most u r f NoNExprs few l = omega arith
    exprs_most u r f (MoreNExprs e rest) few l =
        let s = shared m x (occurrences u e) (occ.in_exprs u rest) few in
        omega (arith, put_most u r f e s.first l, exprs_most u r f rest s.second l, s.gains)

    binds_most : (u : Sought) (r : Replacement V W) → Fits u.values r.values → (bs : NBinds) → IsFew m x (occ.in_binds u bs) → (l : Level n)
        → in_binds n l (put_in_binds how proofs r bs) ≤ in_binds n l bs + gain m x (occ.in_binds u bs)
    binds_most u r f NoNBinds few l = omega arith
    binds_most u r f (MoreNBinds (NBound t e) rest) few l =
        let s = shared m x (occurrences u e) (occ.in_binds u rest) few in
        omega (arith, put_most u r f e s.first l, binds_most u r f rest s.second l, s.gains)

    joins_most : (u : Sought) (r : Replacement V W) → Fits u.values r.values → (js : NJoins) → IsFew m x (occ.in_joins u js) → (l : Level n)
        → in_joins n l (put_in_joins how proofs r js) ≤ in_joins n l js + gain m x (occ.in_joins u js)
    joins_most u r f NoNJoins few l = omega arith
    joins_most u r f (MoreNJoins (NJoined ps e) rest) few l =
        let s = shared m x (occurrences (behind_all ps u) e) (occ.in_joins u rest) few in
        let y = put_most (behind_all ps u) (below_binders how proofs ps r) (below_all ps u r.values f) e s.first l in
        omega (arith, y, joins_most u r f rest s.second l, s.gains, ap (λ k. own n (1 + k)) (binders_kept r.types ps))

    pub alts_most : (u : Sought) (r : Replacement V W) → Fits u.values r.values → (alts : NAlts) → IsFew m x (occ.in_alts u alts) → (l : Level n)
        → in_alts n l (put_in_alts how proofs r alts) ≤ in_alts n l alts + gain m x (occ.in_alts u alts)
    alts_most u r f NoNAlts few l = omega arith
    alts_most u r f (MoreNAlts (NBranch h bs e) rest) few l =
        let s = shared m x (occurrences (behind_all bs u) e) (occ.in_alts u rest) few in
        let y = put_most (behind_all bs u) (below_binders how proofs bs r) (below_all bs u r.values f) e s.first l in
        omega (arith, y, alts_most u r f rest s.second l, s.gains, ap (own n) (alternative_kept h r.types bs))
