-- What is put into is written as literals and alternatives are to be.
use Rattle.std.proofs.Common.{ℕ, zero, suc, Bool, true, false, List, [], ◌∷◌}
use Rattle.fc_model.specs.Nameless.{NBinder, NBValue, NBType, NBCo}
use Rattle.fc_model.specs.Nameless.{NExpr, NLocal, NVar, NLit, NApp, NLam, NLet, NCase, NCast, NCon, NPrim, NFail, NJoin, NJump}
use Rattle.fc_model.specs.Nameless.{NArg, NATerm, NAType, NACo, NBound, NJoined, NBranch}
use Rattle.fc_model.specs.Nameless.{NExprs, NoNExprs, MoreNExprs, NArgs, NoNArgs, MoreNArgs, NBinds, NoNBinds, MoreNBinds, NJoins, NoNJoins, MoreNJoins, NAlts, NoNAlts, MoreNAlts}
use Rattle.fc_model.specs.Replacing.{Standing, StandingCoercion, Replacement, bind_count, join_count, put_in, put_in_arg, put_in_args, put_in_exprs, put_in_binds, put_in_joins, put_in_alts}
use Rattle.fc_model.specs.Replacing.{below_binder, below_binders, below_values}
use Rattle.fc_model.specs.Replacing.{below_joins as past_joins}
use Rattle.fc_meaning.proofs.WrittenExpressions.{AreAltsWritten, AreArgsWritten, AreBindsWritten, AreExprsWritten, AreJoinsWritten, IsArgWritten, IsBindGroup, IsJoinGroup, IsWritten}
use Rattle.fc_erased.proofs.ErasedBinders.{own_put}
use Rattle.fc_erased.proofs.KeptErasures.{IsKept}

module _ {V W : Type 0} (how : Standing V) (proofs : StandingCoercion W) (Good : V → Type 0) (kept : IsKept how Good) where
  abbrev Replacements : Type 0
  Replacements = Replacement V W

  abbrev AreGood : Replacements → Type 0
  AreGood r = (i : ℕ) → Good (r.values i)

  good_binder : (b : NBinder) (r : Replacements) → AreGood r → AreGood (below_binder how proofs b r)
  good_binder (NBValue t) r g = elim [ zero ↦ kept.good_innermost | suc i ↦ kept.good_value (r.values i) (g i) ]
  good_binder (NBType k) r g = λ i. kept.good_type (r.values i) (g i)
  good_binder (NBCo q t u) r g = λ i. kept.good_coercion (r.values i) (g i)

  good_binders : (bs : List NBinder) (r : Replacements) → AreGood r → AreGood (below_binders how proofs bs r)
  good_binders [] r g = g
  good_binders (b ∷ bs) r g = good_binders bs (below_binder how proofs b r) (good_binder b r g)

  good_values : (n : ℕ) (r : Replacements) → AreGood r → AreGood (below_values how proofs n r)
  good_values zero r g = g
  good_values (suc n) r g = good_values n (below_values how proofs 1 r) (elim [ zero ↦ kept.good_innermost | suc i ↦ kept.good_value (r.values i) (g i) ])

  good_joins : (n : ℕ) (r : Replacements) → AreGood r → AreGood (past_joins how proofs n r)
  good_joins zero r g = g
  good_joins (suc n) r g = good_joins n (past_joins how proofs 1 r) (λ i. kept.good_join (r.values i) (g i))

  -- what is put in changes no number of binders
  group_put : (r : Bool) (s : Replacements) (bs : NBinds) → IsBindGroup r bs → IsBindGroup r (put_in_binds how proofs s bs)
  group_put true s bs w = tt
  group_put false s NoNBinds w = absurd w
  group_put false s (MoreNBinds (NBound t e) NoNBinds) w = tt
  group_put false s (MoreNBinds b (MoreNBinds c rest)) w = absurd w

  join_group_put : (r : Bool) (s : Replacements) (js : NJoins) → IsJoinGroup r js → IsJoinGroup r (put_in_joins how proofs s js)
  join_group_put true s js w = tt
  join_group_put false s NoNJoins w = absurd w
  join_group_put false s (MoreNJoins (NJoined ps e) NoNJoins) w = tt
  join_group_put false s (MoreNJoins j (MoreNJoins k rest)) w = absurd w

  mutual
    pub written_put : (r : Replacements) → AreGood r → (e : NExpr) → IsWritten e → IsWritten (put_in how proofs r e)
    written_put r g (NLocal i) w = kept.written (r.values i) (g i)
    written_put r g (NVar n) w = tt
    written_put r g (NLit n) w = w
    written_put r g (NApp f a) w = (written_put r g f w.0, written_arg r g a w.1)
    written_put r g (NLam b e) w = written_put (below_binder how proofs b r) (good_binder b r g) e w
    written_put r g (NLet true bs e) w = (
      tt,
      written_binds (below_values how proofs (bind_count bs) r) (good_values (bind_count bs) r g) bs w.1,
      written_put (below_values how proofs (bind_count bs) r) (good_values (bind_count bs) r g) e w.2,
    )
    written_put r g (NLet false bs e) w =
        (group_put false r bs w.0, written_binds r g bs w.1, written_put (below_values how proofs (bind_count bs) r) (good_values (bind_count bs) r g) e w.2)
    written_put r g (NCase e xt rt alts) w = (written_put r g e w.0, written_alts (below_values how proofs 1 r) (good_values 1 r g) alts w.1)
    written_put r g (NCast e q) w = written_put r g e w
    written_put r g (NCon n args) w = written_args r g args w
    written_put r g (NPrim op es) w = written_exprs r g es w
    written_put r g (NFail t) w = tt
    written_put r g (NJoin true t js e) w = (
      tt,
      written_joins (past_joins how proofs (join_count js) r) (good_joins (join_count js) r g) js w.1,
      written_put (past_joins how proofs (join_count js) r) (good_joins (join_count js) r g) e w.2,
    )
    written_put r g (NJoin false t js e) w =
        (join_group_put false r js w.0, written_joins r g js w.1, written_put (past_joins how proofs (join_count js) r) (good_joins (join_count js) r g) e w.2)
    written_put r g (NJump i args) w = written_args r g args w

    pub written_arg : (r : Replacements) → AreGood r → (a : NArg) → IsArgWritten a → IsArgWritten (put_in_arg how proofs r a)
    written_arg r g (NATerm e) w = written_put r g e w
    written_arg r g (NAType t) w = tt
    written_arg r g (NACo q) w = tt

    pub written_args : (r : Replacements) → AreGood r → (args : NArgs) → AreArgsWritten args → AreArgsWritten (put_in_args how proofs r args)
    written_args r g NoNArgs w = tt
    written_args r g (MoreNArgs a rest) w = (written_arg r g a w.0, written_args r g rest w.1)

    written_exprs : (r : Replacements) → AreGood r → (es : NExprs) → AreExprsWritten es → AreExprsWritten (put_in_exprs how proofs r es)
    written_exprs r g NoNExprs w = tt
    written_exprs r g (MoreNExprs e rest) w = (written_put r g e w.0, written_exprs r g rest w.1)

    written_binds : (r : Replacements) → AreGood r → (bs : NBinds) → AreBindsWritten bs → AreBindsWritten (put_in_binds how proofs r bs)
    written_binds r g NoNBinds w = tt
    written_binds r g (MoreNBinds (NBound t e) rest) w = (written_put r g e w.0, written_binds r g rest w.1)

    written_joins : (r : Replacements) → AreGood r → (js : NJoins) → AreJoinsWritten js → AreJoinsWritten (put_in_joins how proofs r js)
    written_joins r g NoNJoins w = tt
    written_joins r g (MoreNJoins (NJoined ps e) rest) w = (written_put (below_binders how proofs ps r) (good_binders ps r g) e w.0, written_joins r g rest w.1)

    pub written_alts : (r : Replacements) → AreGood r → (alts : NAlts) → AreAltsWritten alts → AreAltsWritten (put_in_alts how proofs r alts)
    written_alts r g NoNAlts w = tt
    written_alts r g (MoreNAlts (NBranch h bs e) rest) w = (own_put h bs r.types w.0, written_put (below_binders how proofs bs r) (good_binders bs r g) e w.1, written_alts r g rest w.2)
