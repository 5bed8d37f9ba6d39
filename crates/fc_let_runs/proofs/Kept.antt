-- What atoms are put into is as large and as deep as it was, and what a run makes is no larger and no deeper.
use Rattle.std.proofs.Common.{◌≡◌, ◌≤◌, ◌<◌, ◌+◌, ℕ, zero, suc, max, Bool, true, false, if◌then◌else◌, List, [], ◌∷◌, refl, ap, ap₂, arith, Some}
use Rattle.fc_syntax.specs.Measures.{ty_depth, co_depth, cos_depth, binder_depth, binders_depth, arg_depth, bind_depth, join_depth, alt_depth, exprs_depth, args_depth, binds_depth, joins_depth, alts_depth}
use Rattle.fc_syntax.specs.Measures.{ty_size, co_size, cos_size, binder_size, binders_size, arg_size, bind_size, join_size, alt_size, exprs_size, args_size, binds_size, joins_size, alts_size}
use Rattle.fc_model.specs.Nameless.{NTy, NTVar, NTCon, NTInt, NTApp, NTFun, NTForall, NTCoForall}
use Rattle.fc_model.specs.Nameless.{NCo, NGVar, NGRefl, NGSym, NGTrans, NGTc, NGCapp, NGFun, NGAll, NGCoAll, NGInst, NGNth, NGLeft, NGRight, NGSub, NGAx, NGUniv, NCos, NoNCos, MoreNCos}
use Rattle.fc_model.specs.Nameless.{NBinder, NBValue, NBType, NBCo, NArg, NATerm, NAType, NACo, NBind, NBound, NJoinBind, NJoined, NAlt, NBranch}
use Rattle.fc_model.specs.Nameless.{NExpr, NLocal, NVar, NLit, NApp, NLam, NLet, NCase, NCast, NCon, NPrim, NFail, NJoin, NJump}
use Rattle.fc_model.specs.Nameless.{NExprs, NoNExprs, MoreNExprs, NArgs, NoNArgs, MoreNArgs, NBinds, NoNBinds, MoreNBinds, NJoins, NoNJoins, MoreNJoins, NAlts, NoNAlts, MoreNAlts}
use Rattle.fc_model.specs.Replacing.{Renaming, Substitution, below_binder, below_binders, below_joins, below_values, bind_count, coercions_below, expressions, join_count}
use Rattle.fc_model.specs.Replacing.{put_in_alt, put_in_alts, put_in_arg, put_in_args, put_in_bind, put_in_binds, put_in_coercions, put_in_exprs, put_in_join, put_in_joins}
use Rattle.fc_model.specs.Replacing.{past_a_coercion, past_a_join, past_a_type, past_a_value, renamed, replaced, replaced_binder, replaced_binders, replaced_coercion, types_behind, value_alone, values_below, whole_coercions}
use Rattle.fc_model.specs.Substituting.{substituted_type, types_below}
use Rattle.fc_model.specs.Typing.{is_atom}
use Rattle.fc_model.proofs.Sameness.{false_true}
use Rattle.fc_limits_at_places.specs.Fitting.{nexpr_size}
use Rattle.fc_result_limits.proofs.Blank.{blank_ty, blank_co, blank_cos, blank_binder, blank_binders, blank_arg, blank_bind, blank_join, blank_alt, blank_exprs, blank_args, blank_binds, blank_joins, blank_alts}
use Rattle.fc_result_limits.proofs.Deep.{nexpr_depth}
use Rattle.fc_rows.specs.Shrinking.{let_atom, let_of}
use Rattle.fc_let_runs.specs.Runs.{IsRun, done, step, is_let_of_atom}
use Rattle.fc_let_runs.proofs.Steps.{let_of_atom_inv}

-- HOW LARGE AND HOW DEEP

-- both measures of a piece that is made of one part, and of two parts together
abbrev over : ℕ × ℕ → ℕ × ℕ
over p = (1 + p.0, 1 + p.1)

abbrev both : ℕ × ℕ → ℕ × ℕ → ℕ × ℕ
both p q = (p.0 + q.0, max p.1 q.1)

abbrev ty_measures : NTy → ℕ × ℕ
ty_measures t = (ty_size (blank_ty t), ty_depth (blank_ty t))

abbrev co_measures : NCo → ℕ × ℕ
co_measures g = (co_size (blank_co g), co_depth (blank_co g))

abbrev cos_measures : NCos → ℕ × ℕ
cos_measures gs = (cos_size (blank_cos gs), cos_depth (blank_cos gs))

abbrev binder_measures : NBinder → ℕ × ℕ
binder_measures b = (binder_size (blank_binder b), binder_depth (blank_binder b))

abbrev binders_measures : List NBinder → ℕ × ℕ
binders_measures bs = (binders_size (blank_binders bs), binders_depth (blank_binders bs))

abbrev measures : NExpr → ℕ × ℕ
measures e = (nexpr_size e, nexpr_depth e)

abbrev arg_measures : NArg → ℕ × ℕ
arg_measures a = (arg_size (blank_arg a), arg_depth (blank_arg a))

abbrev bind_measures : NBind → ℕ × ℕ
bind_measures b = (bind_size (blank_bind b), bind_depth (blank_bind b))

abbrev join_measures : NJoinBind → ℕ × ℕ
join_measures j = (join_size (blank_join j), join_depth (blank_join j))

abbrev alt_measures : NAlt → ℕ × ℕ
alt_measures a = (alt_size (blank_alt a), alt_depth (blank_alt a))

abbrev exprs_measures : NExprs → ℕ × ℕ
exprs_measures es = (exprs_size (blank_exprs es), exprs_depth (blank_exprs es))

abbrev args_measures : NArgs → ℕ × ℕ
args_measures args = (args_size (blank_args args), args_depth (blank_args args))

abbrev binds_measures : NBinds → ℕ × ℕ
binds_measures bs = (binds_size (blank_binds bs), binds_depth (blank_binds bs))

abbrev joins_measures : NJoins → ℕ × ℕ
joins_measures js = (joins_size (blank_joins js), joins_depth (blank_joins js))

abbrev alts_measures : NAlts → ℕ × ℕ
alts_measures alts = (alts_size (blank_alts alts), alts_depth (blank_alts alts))

-- one part, two, three and four
one : {p q : ℕ × ℕ} → p ≡ q → over p ≡ over q
one h = ap over h

two : {p q r s : ℕ × ℕ} → p ≡ q → r ≡ s → over (both p r) ≡ over (both q s)
two h k = ap over (ap₂ both h k)

three : {p q r s t u : ℕ × ℕ} → p ≡ q → r ≡ s → t ≡ u → over (both p (both r t)) ≡ over (both q (both s u))
three h k l = ap over (ap₂ both h (ap₂ both k l))

four : {p q r s t u v w : ℕ × ℕ} → p ≡ q → r ≡ s → t ≡ u → v ≡ w → over (both (both p (both r t)) v) ≡ over (both (both q (both s u)) w)
four h k l m = ap over (ap₂ both (ap₂ both h (ap₂ both k l)) m)

more : {p q r s : ℕ × ℕ} → p ≡ q → r ≡ s → both p r ≡ both q s
more h k = ap₂ both h k

-- WHAT IS PUT IN

abbrev AreTypeVariables : (ℕ → NTy) → Type 0
AreTypeVariables s = (i : ℕ) → (j : ℕ) × (s i ≡ NTVar j)

abbrev AreCoercionVariables : (ℕ → NCo) → Type 0
AreCoercionVariables r = (i : ℕ) → (j : ℕ) × (r i ≡ NGVar j)

abbrev AreAtoms : (ℕ → NExpr) → Type 0
AreAtoms v = (i : ℕ) → is_atom (v i) ≡ true

-- types and coercions are replaced by variables, and values by atoms
pub record PutsSmall (r : Substitution) : Type 0 where
  pub types : AreTypeVariables r.types
  pub coercions : AreCoercionVariables r.coercions
  pub values : AreAtoms r.values

-- BELOW BINDERS

types_still : (s : ℕ → NTy) → AreTypeVariables s → AreTypeVariables (types_below s)
types_still s vs zero = (zero, refl)
types_still s vs (suc i) = (suc ((vs i).0), rw ((vs i).1) refl)

coercions_past_type : (r : ℕ → NCo) → AreCoercionVariables r → AreCoercionVariables (λ i. whole_coercions.past_type (r i))
coercions_past_type r vs i = ((vs i).0, rw ((vs i).1) refl)

coercions_still : (r : ℕ → NCo) → AreCoercionVariables r → AreCoercionVariables (coercions_below whole_coercions r)
coercions_still r vs zero = (zero, refl)
coercions_still r vs (suc i) = (suc ((vs i).0), rw ((vs i).1) refl)

renamed_atom : (r : Renaming) (a : NExpr) → is_atom a ≡ true → is_atom (renamed r a) ≡ true
renamed_atom r (NLocal i) h = refl
renamed_atom r (NVar n) h = refl
renamed_atom r (NLit n) h = refl
renamed_atom r a h = false_true h

atoms_below : (v : ℕ → NExpr) → AreAtoms v → AreAtoms (values_below expressions whole_coercions v)
atoms_below v small zero = refl
atoms_below v small (suc i) = renamed_atom past_a_value (v i) (small i)

small_below_values : (m : ℕ) (r : Substitution) → PutsSmall r → PutsSmall (below_values expressions whole_coercions m r)
small_below_values zero r s = s
small_below_values (suc m) r s =
    small_below_values m (below_values expressions whole_coercions 1 r) (record { types = s.types; coercions = s.coercions; values = atoms_below r.values s.values })

small_past_joins : (m : ℕ) (r : Substitution) → PutsSmall r → PutsSmall (below_joins expressions whole_coercions m r)
small_past_joins zero r s = s
small_past_joins (suc m) r s =
    small_past_joins m (below_joins expressions whole_coercions 1 r) (record { types = s.types; coercions = s.coercions; values = λ i. renamed_atom past_a_join (r.values i) (s.values i) })

small_behind : (b : NBinder) (r : Substitution) → PutsSmall r → PutsSmall (below_binder expressions whole_coercions b r)
small_behind (NBValue t) r s = record { types = s.types; coercions = s.coercions; values = atoms_below r.values s.values }
small_behind (NBType k) r s = record {
  types = types_still r.types s.types;
  coercions = coercions_past_type r.coercions s.coercions;
  values = λ i. renamed_atom past_a_type (r.values i) (s.values i);
}
small_behind (NBCo o t u) r s = record {
  types = s.types;
  coercions = coercions_still r.coercions s.coercions;
  values = λ i. renamed_atom past_a_coercion (r.values i) (s.values i);
}

small_behind_all : (bs : List NBinder) (r : Substitution) → PutsSmall r → PutsSmall (below_binders expressions whole_coercions bs r)
small_behind_all [] r s = s
small_behind_all (b ∷ bs) r s = small_behind_all bs (below_binder expressions whole_coercions b r) (small_behind b r s)

-- in a group or outside
small_in_group : (o : Bool) (q r : Substitution) → PutsSmall q → PutsSmall r → PutsSmall (if o then q else r)
small_in_group true q r inner outer = inner
small_in_group false q r inner outer = outer

-- TYPES AND COERCIONS

ty_kept : (s : ℕ → NTy) → AreTypeVariables s → (t : NTy) → ty_measures (substituted_type s t) ≡ ty_measures t
ty_kept s vs (NTVar i) = ap ty_measures ((vs i).1)
ty_kept s vs (NTCon n) = refl
ty_kept s vs NTInt = refl
ty_kept s vs (NTApp t u) = two (ty_kept s vs t) (ty_kept s vs u)
ty_kept s vs (NTFun t u) = two (ty_kept s vs t) (ty_kept s vs u)
ty_kept s vs (NTForall k t) = one (ty_kept (types_below s) (types_still s vs) t)
ty_kept s vs (NTCoForall o t u v) = three (ty_kept s vs t) (ty_kept s vs u) (ty_kept s vs v)

mutual
  co_kept : (s : ℕ → NTy) (r : ℕ → NCo) → AreTypeVariables s → AreCoercionVariables r → (g : NCo) → co_measures (replaced_coercion s r g) ≡ co_measures g
  co_kept s r vs ws (NGVar i) = ap co_measures ((ws i).1)
  co_kept s r vs ws (NGRefl o t) = one (ty_kept s vs t)
  co_kept s r vs ws (NGSym g) = one (co_kept s r vs ws g)
  co_kept s r vs ws (NGTrans g h) = two (co_kept s r vs ws g) (co_kept s r vs ws h)
  co_kept s r vs ws (NGTc o n gs) = one (cos_kept s r vs ws gs)
  co_kept s r vs ws (NGCapp g h) = two (co_kept s r vs ws g) (co_kept s r vs ws h)
  co_kept s r vs ws (NGFun g h) = two (co_kept s r vs ws g) (co_kept s r vs ws h)
  co_kept s r vs ws (NGAll k g) = one (co_kept (types_below s) (λ i. whole_coercions.past_type (r i)) (types_still s vs) (coercions_past_type r ws) g)
  co_kept s r vs ws (NGCoAll o q f g h) = three (co_kept s r vs ws f) (co_kept s r vs ws g) (co_kept s r vs ws h)
  co_kept s r vs ws (NGInst g h) = two (co_kept s r vs ws g) (co_kept s r vs ws h)
  co_kept s r vs ws (NGNth n g) = one (co_kept s r vs ws g)
  co_kept s r vs ws (NGLeft g) = one (co_kept s r vs ws g)
  co_kept s r vs ws (NGRight g) = one (co_kept s r vs ws g)
  co_kept s r vs ws (NGSub g) = one (co_kept s r vs ws g)
  co_kept s r vs ws (NGAx n gs) = one (cos_kept s r vs ws gs)
  co_kept s r vs ws (NGUniv t u) = two (ty_kept s vs t) (ty_kept s vs u)

  cos_kept : (s : ℕ → NTy) (r : ℕ → NCo) → AreTypeVariables s → AreCoercionVariables r → (gs : NCos) → cos_measures (put_in_coercions whole_coercions s r gs) ≡ cos_measures gs
  cos_kept s r vs ws NoNCos = refl
  cos_kept s r vs ws (MoreNCos g rest) = more (co_kept s r vs ws g) (cos_kept s r vs ws rest)

-- EXPRESSIONS

binder_kept : (s : ℕ → NTy) → AreTypeVariables s → (b : NBinder) → binder_measures (replaced_binder s b) ≡ binder_measures b
binder_kept s vs (NBValue t) = one (ty_kept s vs t)
binder_kept s vs (NBType k) = refl
binder_kept s vs (NBCo o t u) = two (ty_kept s vs t) (ty_kept s vs u)

types_behind_still : (b : NBinder) (s : ℕ → NTy) → AreTypeVariables s → AreTypeVariables (types_behind b s)
types_behind_still (NBValue t) s vs = vs
types_behind_still (NBType k) s vs = types_still s vs
types_behind_still (NBCo o t u) s vs = vs

binders_kept : (s : ℕ → NTy) → AreTypeVariables s → (bs : List NBinder) → binders_measures (replaced_binders s bs) ≡ binders_measures bs
binders_kept s vs [] = refl
binders_kept s vs (b ∷ bs) = more (binder_kept s vs b) (binders_kept (types_behind b s) (types_behind_still b s vs) bs)

atom_kept : (a : NExpr) (i : ℕ) → is_atom a ≡ true → measures a ≡ measures (NLocal i)
atom_kept (NLocal j) i h = refl
atom_kept (NVar n) i h = refl
atom_kept (NLit n) i h = refl
atom_kept a i h = false_true h

mutual
  expr_kept : (r : Substitution) → PutsSmall r → (e : NExpr) → measures (replaced r e) ≡ measures e
  expr_kept r s (NLocal i) = atom_kept (r.values i) i (s.values i)
  expr_kept r s (NVar n) = refl
  expr_kept r s (NLit n) = refl
  expr_kept r s (NApp f a) = two (expr_kept r s f) (arg_kept r s a)
  expr_kept r s (NLam b e) = two (binder_kept r.types s.types b) (expr_kept (below_binder expressions whole_coercions b r) (small_behind b r s) e)
  expr_kept r s (NLet o bs e) =
      let inner = below_values expressions whole_coercions (bind_count bs) r in
      let still = small_below_values (bind_count bs) r s in
      two (binds_kept (if o then inner else r) (small_in_group o inner r still s) bs) (expr_kept inner still e)
  expr_kept r s (NCase e t u alts) =
      four (expr_kept r s e) (ty_kept r.types s.types t) (ty_kept r.types s.types u) (alts_kept (below_values expressions whole_coercions 1 r) (small_below_values 1 r s) alts)
  expr_kept r s (NCast e g) = two (expr_kept r s e) (co_kept r.types r.coercions s.types s.coercions g)
  expr_kept r s (NCon n args) = one (args_kept r s args)
  expr_kept r s (NPrim op es) = one (exprs_kept r s es)
  expr_kept r s (NFail t) = one (ty_kept r.types s.types t)
  expr_kept r s (NJoin o t js e) =
      let inner = below_joins expressions whole_coercions (join_count js) r in
      let still = small_past_joins (join_count js) r s in
      three (ty_kept r.types s.types t) (joins_kept (if o then inner else r) (small_in_group o inner r still s) js) (expr_kept inner still e)
  expr_kept r s (NJump j args) = one (args_kept r s args)

  arg_kept : (r : Substitution) → PutsSmall r → (a : NArg) → arg_measures (put_in_arg expressions whole_coercions r a) ≡ arg_measures a
  arg_kept r s (NATerm e) = expr_kept r s e
  arg_kept r s (NAType t) = ty_kept r.types s.types t
  arg_kept r s (NACo g) = co_kept r.types r.coercions s.types s.coercions g

  bind_kept : (r : Substitution) → PutsSmall r → (b : NBind) → bind_measures (put_in_bind expressions whole_coercions r b) ≡ bind_measures b
  bind_kept r s (NBound t e) = two (ty_kept r.types s.types t) (expr_kept r s e)

  join_kept : (r : Substitution) → PutsSmall r → (j : NJoinBind) → join_measures (put_in_join expressions whole_coercions r j) ≡ join_measures j
  join_kept r s (NJoined ps e) = two (binders_kept r.types s.types ps) (expr_kept (below_binders expressions whole_coercions ps r) (small_behind_all ps r s) e)

  alt_kept : (r : Substitution) → PutsSmall r → (a : NAlt) → alt_measures (put_in_alt expressions whole_coercions r a) ≡ alt_measures a
  alt_kept r s (NBranch h bs e) = two (binders_kept r.types s.types bs) (expr_kept (below_binders expressions whole_coercions bs r) (small_behind_all bs r s) e)

  exprs_kept : (r : Substitution) → PutsSmall r → (es : NExprs) → exprs_measures (put_in_exprs expressions whole_coercions r es) ≡ exprs_measures es
  exprs_kept r s NoNExprs = refl
  exprs_kept r s (MoreNExprs e rest) = more (expr_kept r s e) (exprs_kept r s rest)

  args_kept : (r : Substitution) → PutsSmall r → (args : NArgs) → args_measures (put_in_args expressions whole_coercions r args) ≡ args_measures args
  args_kept r s NoNArgs = refl
  args_kept r s (MoreNArgs a rest) = more (arg_kept r s a) (args_kept r s rest)

  binds_kept : (r : Substitution) → PutsSmall r → (bs : NBinds) → binds_measures (put_in_binds expressions whole_coercions r bs) ≡ binds_measures bs
  binds_kept r s NoNBinds = refl
  binds_kept r s (MoreNBinds b rest) = more (bind_kept r s b) (binds_kept r s rest)

  joins_kept : (r : Substitution) → PutsSmall r → (js : NJoins) → joins_measures (put_in_joins expressions whole_coercions r js) ≡ joins_measures js
  joins_kept r s NoNJoins = refl
  joins_kept r s (MoreNJoins j rest) = more (join_kept r s j) (joins_kept r s rest)

  alts_kept : (r : Substitution) → PutsSmall r → (alts : NAlts) → alts_measures (put_in_alts expressions whole_coercions r alts) ≡ alts_measures alts
  alts_kept r s NoNAlts = refl
  alts_kept r s (MoreNAlts a rest) = more (alt_kept r s a) (alts_kept r s rest)

pub size_kept : (r : Substitution) → PutsSmall r → (e : NExpr) → nexpr_size (replaced r e) ≡ nexpr_size e
size_kept r s e = ap (λ p. p.0) (expr_kept r s e)

pub depth_kept : (r : Substitution) → PutsSmall r → (e : NExpr) → nexpr_depth (replaced r e) ≡ nexpr_depth e
depth_kept r s e = ap (λ p. p.1) (expr_kept r s e)

-- STEPS AND RUNS

-- one expression is smaller than another, and less deep
pub record IsLess (f e : NExpr) : Type 0 where
  pub smaller : nexpr_size f < nexpr_size e
  pub shallower : nexpr_depth f < nexpr_depth e

alone_small : (a : NExpr) → is_atom a ≡ true → PutsSmall (value_alone a)
alone_small a h = record { types = λ i. (i, refl); coercions = λ i. (i, refl); values = here }
  where
    here : AreAtoms ((value_alone a).values)
    here zero = h
    here (suc i) = refl

less_from : (e f : NExpr) (t : NTy) (a b : NExpr) → e ≡ let_of t a b → is_atom a ≡ true → f ≡ replaced (value_alone a) b → IsLess f e
less_from e f t a b is atom put =
    let small = alone_small a atom in
    rw (is, put) (record { smaller = omega (arith, size_kept (value_alone a) small b); shallower = omega (arith, depth_kept (value_alone a) small b) })

-- a step at a let of an atom
pub step_less : (e f : NExpr) → is_let_of_atom e ≡ true → let_atom e ≡ Some f → IsLess f e
step_less e f atom made = let p = let_of_atom_inv e f atom made in less_from e f p.0 p.1 p.2 p.3 p.4 p.5

-- one expression is no larger than another, and no deeper
pub record IsNoMore (f e : NExpr) : Type 0 where
  pub size : nexpr_size f ≤ nexpr_size e
  pub depth : nexpr_depth f ≤ nexpr_depth e

-- a step, and all steps of a run
pub step_no_more : (e f : NExpr) → is_let_of_atom e ≡ true → let_atom e ≡ Some f → IsNoMore f e
step_no_more e f atom made = let less = step_less e f atom made in record { size = omega (arith, less.smaller); depth = omega (arith, less.shallower) }

pub run_no_more : {n : ℕ} {e f : NExpr} → IsRun n e f → IsNoMore f e
run_no_more done = record { size = omega arith; depth = omega arith }
run_no_more (step {e = e} {f = f} atom made rest) =
    let less = step_less e f atom made in
    let others = run_no_more rest in
    record { size = omega (arith, less.smaller, others.size); depth = omega (arith, less.shallower, others.depth) }
