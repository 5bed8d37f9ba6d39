-- What is put into a formed expression keeps it formed, where what is put in is formed.
use Rattle.std.proofs.Common.{ℕ, zero, suc, Bool, true, false, List, [], ◌∷◌, ap}
use Rattle.fc_syntax.specs.declared.expr.Head.{Head}
use Rattle.fc_syntax.specs.declared.expr.Head.TheVariants as head
use Rattle.fc_model.specs.Nameless.{NTy, NBinder, NBValue, NBType, NBCo, NExpr, NLocal, NVar, NLit, NApp, NLam, NLet, NCase, NCast, NCon, NPrim, NFail, NJoin, NJump, NArg, NATerm}
use Rattle.fc_model.specs.Nameless.{NAType, NACo, NBound, NJoined, NBranch, NExprs, NoNExprs, MoreNExprs, NArgs, NoNArgs, MoreNArgs, NBinds, NoNBinds, MoreNBinds, NJoins, NoNJoins}
use Rattle.fc_model.specs.Nameless.{MoreNJoins, NAlts, NoNAlts, MoreNAlts}
use Rattle.fc_model.specs.Replacing.{Replacement, Standing, StandingCoercion, below_binder, below_binders, below_joins, below_values, bind_count, join_count, put_in, put_in_alts}
use Rattle.fc_model.specs.Replacing.{put_in_arg, put_in_args, put_in_binds, put_in_exprs, put_in_joins, replaced_binder, replaced_binders, types_behind, values_behind, values_below}
use Rattle.fc_formed.specs.FormedTrees.{IsFormedBinder, AreFormedBinders, IsFormedGroup, IsFormedJoinGroup, IsFormedHead, IsFormedExpr, IsFormedArg, AreFormedArgs, AreFormedExprs}
use Rattle.fc_formed.specs.FormedTrees.{AreFormedBinds, AreFormedJoins, AreFormedAlts}
use Rattle.fc_rows_formed.proofs.CoercionsFormed.{StandFormed, behind_good, coercion_put}
use Rattle.fc_rows_formed.proofs.TypesFormed.{AreImagesFormed, images_below, type_put}

-- BINDERS

pub images_behind : (b : NBinder) (s : ℕ → NTy) → AreImagesFormed s → AreImagesFormed (types_behind b s)
images_behind (NBValue t) s g = g
images_behind (NBType k) s g = images_below s g
images_behind (NBCo r t u) s g = g

binder_put : (s : ℕ → NTy) → AreImagesFormed s → (b : NBinder) → IsFormedBinder b → IsFormedBinder (replaced_binder s b)
binder_put s g (NBValue t) w = type_put s g t w
binder_put s g (NBType k) w = tt
binder_put s g (NBCo r t u) w = (w.0, type_put s g t w.1, type_put s g u w.2)

pub binders_put : (s : ℕ → NTy) → AreImagesFormed s → (bs : List NBinder) → AreFormedBinders bs → AreFormedBinders (replaced_binders s bs)
binders_put s g [] w = tt
binders_put s g (b ∷ bs) w = (binder_put s g b w.0, binders_put (types_behind b s) (images_behind b s g) bs w.1)

head_put : (s : ℕ → NTy) → AreImagesFormed s → (h : Head) (bs : List NBinder) → IsFormedHead h bs → IsFormedHead h (replaced_binders s bs)
head_put s g head.Default bs w = ap (replaced_binders s) w
head_put s g (head.Lit n) bs w = (w.0, ap (replaced_binders s) w.1)
head_put s g (head.Con n) bs w = (w.0, binders_put s g bs w.1)

-- EXPRESSIONS

-- what stands in place of a variable is formed, and is such a thing past binders too
pub record ExpressionsStand {V : Type 0} (how : Standing V) (Good : V → Type 0) : Type 0 where
  pub formed : (v : V) → Good v → IsFormedExpr (how.expression v)
  pub innermost_good : Good how.innermost
  pub type_good : (v : V) → Good v → Good (how.past_type v)
  pub coercion_good : (v : V) → Good v → Good (how.past_coercion v)
  pub value_good : (v : V) → Good v → Good (how.past_value v)
  pub join_good : (v : V) → Good v → Good (how.past_join v)

-- all that is put in is
pub record ArePutFormed {V W : Type 0} (Good : V → Type 0) (Proof : W → Type 0) (r : Replacement V W) : Type 0 where
  pub types_good : AreImagesFormed r.types
  pub coercions_good : (i : ℕ) → Proof (r.coercions i)
  pub values_good : (i : ℕ) → Good (r.values i)

module _ {V W : Type 0} (how : Standing V) (proofs : StandingCoercion W) (Good : V → Type 0) (Proof : W → Type 0) (stand : ExpressionsStand how Good) (prove : StandFormed proofs Proof) where
  abbrev Replacements : Type 0
  Replacements = Replacement V W

  abbrev AreGood : Replacements → Type 0
  AreGood r = ArePutFormed Good Proof r

  values_past : (s : ℕ → V) → ((i : ℕ) → Good (s i)) → (i : ℕ) → Good (values_below how proofs s i)
  values_past s g zero = stand.innermost_good
  values_past s g (suc i) = stand.value_good (s i) (g i)

  values_past_binder : (b : NBinder) (s : ℕ → V) → ((i : ℕ) → Good (s i)) → (i : ℕ) → Good (values_behind how proofs b s i)
  values_past_binder (NBValue t) s g = values_past s g
  values_past_binder (NBType k) s g = λ i. stand.type_good (s i) (g i)
  values_past_binder (NBCo r t u) s g = λ i. stand.coercion_good (s i) (g i)

  good_binder : (b : NBinder) (r : Replacements) → AreGood r → AreGood (below_binder how proofs b r)
  good_binder b r g = record {
    types_good = images_behind b r.types g.types_good;
    coercions_good = behind_good proofs Proof prove b r.coercions g.coercions_good;
    values_good = values_past_binder b r.values g.values_good;
  }

  good_binders : (bs : List NBinder) (r : Replacements) → AreGood r → AreGood (below_binders how proofs bs r)
  good_binders [] r g = record { types_good = g.types_good; coercions_good = g.coercions_good; values_good = g.values_good }
  good_binders (b ∷ bs) r g = good_binders bs (below_binder how proofs b r) (good_binder b r g)

  good_values : (n : ℕ) (r : Replacements) → AreGood r → AreGood (below_values how proofs n r)
  good_values zero r g = record { types_good = g.types_good; coercions_good = g.coercions_good; values_good = g.values_good }
  good_values (suc n) r g =
      good_values n (below_values how proofs 1 r) (record { types_good = g.types_good; coercions_good = g.coercions_good; values_good = values_past r.values g.values_good })

  good_joins : (n : ℕ) (r : Replacements) → AreGood r → AreGood (below_joins how proofs n r)
  good_joins zero r g = record { types_good = g.types_good; coercions_good = g.coercions_good; values_good = g.values_good }
  good_joins (suc n) r g =
      good_joins n (below_joins how proofs 1 r)
      (record { types_good = g.types_good; coercions_good = g.coercions_good; values_good = λ i. stand.join_good (r.values i) (g.values_good i) })

  -- what is put in changes no number of binders
  group_put : (r : Bool) (s : Replacements) (bs : NBinds) → IsFormedGroup r bs → IsFormedGroup r (put_in_binds how proofs s bs)
  group_put r s NoNBinds w = absurd w
  group_put r s (MoreNBinds b NoNBinds) w = tt
  group_put true s (MoreNBinds b (MoreNBinds c rest)) w = tt
  group_put false s (MoreNBinds b (MoreNBinds c rest)) w = absurd w

  join_group_put : (r : Bool) (s : Replacements) (js : NJoins) → IsFormedJoinGroup r js → IsFormedJoinGroup r (put_in_joins how proofs s js)
  join_group_put r s NoNJoins w = absurd w
  join_group_put r s (MoreNJoins j NoNJoins) w = tt
  join_group_put true s (MoreNJoins j (MoreNJoins k rest)) w = tt
  join_group_put false s (MoreNJoins j (MoreNJoins k rest)) w = absurd w

  mutual
    pub expression_put : (r : Replacements) → AreGood r → (e : NExpr) → IsFormedExpr e → IsFormedExpr (put_in how proofs r e)
    expression_put r g (NLocal i) w = stand.formed (r.values i) (g.values_good i)
    expression_put r g (NVar n) w = w
    expression_put r g (NLit n) w = w
    expression_put r g (NApp f a) w = (expression_put r g f w.0, argument_put r g a w.1)
    expression_put r g (NLam b e) w = (binder_put r.types g.types_good b w.0, expression_put (below_binder how proofs b r) (good_binder b r g) e w.1)
    expression_put r g (NLet true bs e) w =
        let inner = good_values (bind_count bs) r g in
        (group_put true (below_values how proofs (bind_count bs) r) bs w.0, binds_put _ inner bs w.1, expression_put _ inner e w.2)
    expression_put r g (NLet false bs e) w = (group_put false r bs w.0, binds_put r g bs w.1, expression_put _ (good_values (bind_count bs) r g) e w.2)
    expression_put r g (NCase e t u alts) w =
        (expression_put r g e w.0, type_put r.types g.types_good t w.1, type_put r.types g.types_good u w.2, alternatives_put _ (good_values 1 r g) alts w.3)
    expression_put r g (NCast e q) w = (expression_put r g e w.0, coercion_put proofs Proof prove r.types r.coercions g.types_good g.coercions_good q w.1)
    expression_put r g (NCon n args) w = (w.0, arguments_put r g args w.1)
    expression_put r g (NPrim op es) w = operands_put r g es w
    expression_put r g (NFail t) w = type_put r.types g.types_good t w
    expression_put r g (NJoin true t js e) w =
        let inner = good_joins (join_count js) r g in
        (join_group_put true (below_joins how proofs (join_count js) r) js w.0, type_put r.types g.types_good t w.1, joins_put _ inner js w.2, expression_put _ inner e w.3)
    expression_put r g (NJoin false t js e) w =
        (join_group_put false r js w.0, type_put r.types g.types_good t w.1, joins_put r g js w.2, expression_put _ (good_joins (join_count js) r g) e w.3)
    expression_put r g (NJump i args) w = arguments_put r g args w

    pub argument_put : (r : Replacements) → AreGood r → (a : NArg) → IsFormedArg a → IsFormedArg (put_in_arg how proofs r a)
    argument_put r g (NATerm e) w = expression_put r g e w
    argument_put r g (NAType t) w = type_put r.types g.types_good t w
    argument_put r g (NACo q) w = coercion_put proofs Proof prove r.types r.coercions g.types_good g.coercions_good q w

    pub arguments_put : (r : Replacements) → AreGood r → (args : NArgs) → AreFormedArgs args → AreFormedArgs (put_in_args how proofs r args)
    arguments_put r g NoNArgs w = tt
    arguments_put r g (MoreNArgs a rest) w = (argument_put r g a w.0, arguments_put r g rest w.1)

    operands_put : (r : Replacements) → AreGood r → (es : NExprs) → AreFormedExprs es → AreFormedExprs (put_in_exprs how proofs r es)
    operands_put r g NoNExprs w = tt
    operands_put r g (MoreNExprs e rest) w = (expression_put r g e w.0, operands_put r g rest w.1)

    binds_put : (r : Replacements) → AreGood r → (bs : NBinds) → AreFormedBinds bs → AreFormedBinds (put_in_binds how proofs r bs)
    binds_put r g NoNBinds w = tt
    binds_put r g (MoreNBinds (NBound t e) rest) w = ((type_put r.types g.types_good t w.0.0, expression_put r g e w.0.1), binds_put r g rest w.1)

    joins_put : (r : Replacements) → AreGood r → (js : NJoins) → AreFormedJoins js → AreFormedJoins (put_in_joins how proofs r js)
    joins_put r g NoNJoins w = tt
    joins_put r g (MoreNJoins (NJoined ps e) rest) w =
        ((binders_put r.types g.types_good ps w.0.0, expression_put (below_binders how proofs ps r) (good_binders ps r g) e w.0.1), joins_put r g rest w.1)

    pub alternatives_put : (r : Replacements) → AreGood r → (alts : NAlts) → AreFormedAlts alts → AreFormedAlts (put_in_alts how proofs r alts)
    alternatives_put r g NoNAlts w = tt
    alternatives_put r g (MoreNAlts (NBranch h bs e) rest) w =
        ((head_put r.types g.types_good h bs w.0.0, expression_put (below_binders how proofs bs r) (good_binders bs r g) e w.0.1), alternatives_put r g rest w.1)
