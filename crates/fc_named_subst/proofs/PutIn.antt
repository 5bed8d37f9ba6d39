-- What is said of every name of an expression is kept where something is put in for its variables of which that is said too.
use Rattle.std.proofs.Common.{◌≡◌, ℕ, zero, suc, Bool, true, false, if◌then◌else◌, List, [], ◌∷◌, refl, ap, subst}
use Rattle.fc_model.specs.Nameless.{NTy, NTVar, NTCon, NTInt, NTApp, NTFun, NTForall, NTCoForall}
use Rattle.fc_model.specs.Nameless.{NCo, NGVar, NGRefl, NGSym, NGTrans, NGTc, NGCapp, NGFun, NGAll, NGCoAll, NGInst, NGNth, NGLeft, NGRight, NGSub, NGAx, NGUniv, NCos, NoNCos, MoreNCos}
use Rattle.fc_model.specs.Nameless.{NBinder, NBValue, NBType, NBCo, NArg, NATerm, NAType, NACo, NBind, NBound, NJoinBind, NJoined, NAlt, NBranch}
use Rattle.fc_model.specs.Nameless.{NExpr, NLocal, NVar, NLit, NApp, NLam, NLet, NCase, NCast, NCon, NPrim, NFail, NJoin, NJump}
use Rattle.fc_model.specs.Nameless.{NExprs, NoNExprs, MoreNExprs, NArgs, NoNArgs, MoreNArgs, NBinds, NoNBinds, MoreNBinds, NJoins, NoNJoins, MoreNJoins, NAlts, NoNAlts, MoreNAlts}
use Rattle.fc_model.specs.Replacing.{Replacement, Standing, StandingCoercion, below_binder, below_binders, below_joins, below_values, bind_count, coercions_below, join_count, values_below}
use Rattle.fc_model.specs.Replacing.{put_in, put_in_alt, put_in_alts, put_in_arg, put_in_args, put_in_bind, put_in_binds, put_in_coercion, put_in_coercions, put_in_exprs, put_in_join, put_in_joins}
use Rattle.fc_model.specs.Replacing.{replaced_binder, replaced_binders, types_behind}
use Rattle.fc_model.specs.Substituting.{renamed_type, renaming_below, shifted_type, substituted_type, types_below}
use Rattle.fc_used_words.specs.Scoped.{Counts, Saying, in_binder, in_binders, in_coercion, in_group, in_join, in_joins, in_type, in_value}
use Rattle.fc_used_words.specs.Scoped.{HoldsAlt, HoldsAlts, HoldsArg, HoldsArgs, HoldsBind, HoldsBinder, HoldsBinders, HoldsBinds, HoldsCo, HoldsCos, HoldsExpr, HoldsExprs, HoldsJoin, HoldsJoins, HoldsTy}
use Rattle.fc_resolved_names.proofs.Obeying.{Goes}

-- BINDERS OF OTHER SPACES

-- as many types around
pub record TypesAlike (k l : Counts) : Type 0 where
  pub types : k.types ≡ l.types

-- and as many coercions
pub record Alike (k l : Counts) : Type 0 where
  pub types : TypesAlike k l
  pub coercions : k.coercions ≡ l.coercions

module _ (P : Saying) where
  -- a type does not look at values
  pub ty_alike : (t : NTy) (k l : Counts) → TypesAlike k l → HoldsTy P k t → HoldsTy P l t
  ty_alike (NTVar i) k l a h = subst (λ (n : ℕ). P.type_at n i) a.types h
  ty_alike (NTCon n) k l a h = h
  ty_alike NTInt k l a h = tt
  ty_alike (NTApp t u) k l a h = (ty_alike t k l a h.0, ty_alike u k l a h.1)
  ty_alike (NTFun t u) k l a h = (ty_alike t k l a h.0, ty_alike u k l a h.1)
  ty_alike (NTForall x t) k l a h = ty_alike t (in_type k) (in_type l) (record { types = ap suc a.types }) h
  ty_alike (NTCoForall r t u v) k l a h = (ty_alike t k l a h.0, ty_alike u k l a h.1, ty_alike v k l a h.2)

  mutual
    pub co_alike : (g : NCo) (k l : Counts) → Alike k l → HoldsCo P k g → HoldsCo P l g
    co_alike (NGVar i) k l a h = subst (λ (n : ℕ). P.coercion_at n i) a.coercions h
    co_alike (NGRefl r t) k l a h = ty_alike t k l a.types h
    co_alike (NGSym g) k l a h = co_alike g k l a h
    co_alike (NGTrans g q) k l a h = (co_alike g k l a h.0, co_alike q k l a h.1)
    co_alike (NGTc r n gs) k l a h = (h.0, cos_alike gs k l a h.1)
    co_alike (NGCapp g q) k l a h = (co_alike g k l a h.0, co_alike q k l a h.1)
    co_alike (NGFun g q) k l a h = (co_alike g k l a h.0, co_alike q k l a h.1)
    co_alike (NGAll x g) k l a h = co_alike g (in_type k) (in_type l) (record { types = record { types = ap suc a.types.types }; coercions = a.coercions }) h
    co_alike (NGCoAll r s f g q) k l a h = (co_alike f k l a h.0, co_alike g k l a h.1, co_alike q k l a h.2)
    co_alike (NGInst g q) k l a h = (co_alike g k l a h.0, co_alike q k l a h.1)
    co_alike (NGNth n g) k l a h = co_alike g k l a h
    co_alike (NGLeft g) k l a h = co_alike g k l a h
    co_alike (NGRight g) k l a h = co_alike g k l a h
    co_alike (NGSub g) k l a h = co_alike g k l a h
    co_alike (NGAx n gs) k l a h = (h.0, cos_alike gs k l a h.1)
    co_alike (NGUniv t u) k l a h = (ty_alike t k l a.types h.0, ty_alike u k l a.types h.1)

    pub cos_alike : (gs : NCos) (k l : Counts) → Alike k l → HoldsCos P k gs → HoldsCos P l gs
    cos_alike NoNCos k l a h = tt
    cos_alike (MoreNCos g gs) k l a h = (co_alike g k l a h.0, cos_alike gs k l a h.1)

-- TYPES

-- other variables that are put in for type variables
pub record RenamesTypes (P : Saying) (k l : Counts) (r : ℕ → ℕ) : Type 0 where
  pub at : (i : ℕ) → P.type_at k.types i → P.type_at l.types (r i)

-- types that are put in
pub record ReplacesTypes (P : Saying) (k l : Counts) (s : ℕ → NTy) : Type 0 where
  pub at : (i : ℕ) → P.type_at k.types i → HoldsTy P l (s i)

module _ {P : Saying} (goes : Goes P) where
  renames_below : (k l : Counts) (r : ℕ → ℕ) → RenamesTypes P k l r → RenamesTypes P (in_type k) (in_type l) (renaming_below r)
  renames_below k l r f = record { at = at }
    where
      at : (i : ℕ) → P.type_at (suc k.types) i → P.type_at (suc l.types) (renaming_below r i)
      at zero h = goes.type_here l.types
      at (suc i) h = goes.type_past l.types (r i) (f.at i (goes.type_back k.types i h))

  pub ty_renamed : (t : NTy) (k l : Counts) (r : ℕ → ℕ) → RenamesTypes P k l r → HoldsTy P k t → HoldsTy P l (renamed_type r t)
  ty_renamed (NTVar i) k l r f h = f.at i h
  ty_renamed (NTCon n) k l r f h = h
  ty_renamed NTInt k l r f h = tt
  ty_renamed (NTApp t u) k l r f h = (ty_renamed t k l r f h.0, ty_renamed u k l r f h.1)
  ty_renamed (NTFun t u) k l r f h = (ty_renamed t k l r f h.0, ty_renamed u k l r f h.1)
  ty_renamed (NTForall x t) k l r f h = ty_renamed t (in_type k) (in_type l) (renaming_below r) (renames_below k l r f) h
  ty_renamed (NTCoForall o t u v) k l r f h = (ty_renamed t k l r f h.0, ty_renamed u k l r f h.1, ty_renamed v k l r f h.2)

  ty_shifted : (t : NTy) (k : Counts) → HoldsTy P k t → HoldsTy P (in_type k) (shifted_type t)
  ty_shifted t k h = ty_renamed t k (in_type k) suc (record { at = λ i. goes.type_past k.types i }) h

  pub types_in_type : (k l : Counts) (s : ℕ → NTy) → ReplacesTypes P k l s → ReplacesTypes P (in_type k) (in_type l) (types_below s)
  types_in_type k l s f = record { at = at }
    where
      at : (i : ℕ) → P.type_at (suc k.types) i → HoldsTy P (in_type l) (types_below s i)
      at zero h = goes.type_here l.types
      at (suc i) h = ty_shifted (s i) l (f.at i (goes.type_back k.types i h))

  pub ty_replaced : (t : NTy) (k l : Counts) (s : ℕ → NTy) → ReplacesTypes P k l s → HoldsTy P k t → HoldsTy P l (substituted_type s t)
  ty_replaced (NTVar i) k l s f h = f.at i h
  ty_replaced (NTCon n) k l s f h = h
  ty_replaced NTInt k l s f h = tt
  ty_replaced (NTApp t u) k l s f h = (ty_replaced t k l s f h.0, ty_replaced u k l s f h.1)
  ty_replaced (NTFun t u) k l s f h = (ty_replaced t k l s f h.0, ty_replaced u k l s f h.1)
  ty_replaced (NTForall x t) k l s f h = ty_replaced t (in_type k) (in_type l) (types_below s) (types_in_type k l s f) h
  ty_replaced (NTCoForall o t u v) k l s f h = (ty_replaced t k l s f h.0, ty_replaced u k l s f h.1, ty_replaced v k l s f h.2)

-- elsewhere, where as many types are around
types_elsewhere : (P : Saying) (k l : Counts) (s : ℕ → NTy) → ReplacesTypes P k l s → (m n : Counts) → TypesAlike m k → TypesAlike l n → ReplacesTypes P m n s
types_elsewhere P k l s f m n a b = record { at = λ i h. ty_alike P (s i) l n b (f.at i (subst (λ (c : ℕ). P.type_at c i) a.types h)) }

-- WHAT STANDS IN PLACE OF VARIABLES

-- what is said of a coercion holds of what stands in place of a variable, and goes past binders
pub record ProveWell {W : Type 0} (P : Saying) (proofs : StandingCoercion W) (Proves : Counts → W → Type 0) : Type 0 where
  pub coercion : (k : Counts) (w : W) → Proves k w → HoldsCo P k (proofs.coercion w)
  pub innermost : (k : Counts) → Proves (in_coercion k) proofs.innermost
  pub past_type : (k : Counts) (w : W) → Proves k w → Proves (in_type k) (proofs.past_type w)
  pub past_coercion : (k : Counts) (w : W) → Proves k w → Proves (in_coercion k) (proofs.past_coercion w)
  pub in_value : (k : Counts) (w : W) → Proves k w → Proves (in_value k) w
  pub in_join : (k : Counts) (w : W) → Proves k w → Proves (in_join k) w

-- the same of an expression
pub record StandWell {V : Type 0} (P : Saying) (how : Standing V) (Stands : Counts → V → Type 0) : Type 0 where
  pub expression : (k : Counts) (v : V) → Stands k v → HoldsExpr P k (how.expression v)
  pub innermost : (k : Counts) → Stands (in_value k) how.innermost
  pub past_type : (k : Counts) (v : V) → Stands k v → Stands (in_type k) (how.past_type v)
  pub past_coercion : (k : Counts) (v : V) → Stands k v → Stands (in_coercion k) (how.past_coercion v)
  pub past_value : (k : Counts) (v : V) → Stands k v → Stands (in_value k) (how.past_value v)
  pub past_join : (k : Counts) (v : V) → Stands k v → Stands (in_join k) (how.past_join v)

-- what is put in for coercion variables
pub record ReplacesCos {W : Type 0} (P : Saying) (Proves : Counts → W → Type 0) (k l : Counts) (r : ℕ → W) : Type 0 where
  pub at : (i : ℕ) → P.coercion_at k.coercions i → Proves l (r i)

-- what is put in for values
pub record ReplacesValues {V : Type 0} (P : Saying) (Stands : Counts → V → Type 0) (k l : Counts) (r : ℕ → V) : Type 0 where
  pub at : (i : ℕ) → P.value_at k.values i → Stands l (r i)

-- what is put in for join points
pub record RenamesJoins (P : Saying) (k l : Counts) (r : ℕ → ℕ) : Type 0 where
  pub at : (i : ℕ) → P.join_at k.joins i → P.join_at l.joins (r i)

-- what is put in for all variables
pub record Replaces {V W : Type 0} (P : Saying) (Stands : Counts → V → Type 0) (Proves : Counts → W → Type 0) (k l : Counts) (r : Replacement V W) : Type 0 where
  pub types : ReplacesTypes P k l r.types
  pub coercions : ReplacesCos P Proves k l r.coercions
  pub values : ReplacesValues P Stands k l r.values
  pub joins : RenamesJoins P k l r.joins

-- COERCIONS

module _ {W : Type 0} {P : Saying} {proofs : StandingCoercion W} {Proves : Counts → W → Type 0} (goes : Goes P) (well : ProveWell P proofs Proves) where
  cos_in_type : (k l : Counts) (r : ℕ → W) → ReplacesCos P Proves k l r → ReplacesCos P Proves (in_type k) (in_type l) (λ i. proofs.past_type (r i))
  cos_in_type k l r f = record { at = λ i h. well.past_type l (r i) (f.at i h) }

  cos_in_coercion : (k l : Counts) (r : ℕ → W) → ReplacesCos P Proves k l r → ReplacesCos P Proves (in_coercion k) (in_coercion l) (coercions_below proofs r)
  cos_in_coercion k l r f = record { at = at }
    where
      at : (i : ℕ) → P.coercion_at (suc k.coercions) i → Proves (in_coercion l) (coercions_below proofs r i)
      at zero h = well.innermost l
      at (suc i) h = well.past_coercion l (r i) (f.at i (goes.coercion_back k.coercions i h))

  mutual
    pub co_kept : (g : NCo) (k l : Counts) (s : ℕ → NTy) (r : ℕ → W) → ReplacesTypes P k l s → ReplacesCos P Proves k l r → HoldsCo P k g → HoldsCo P l (put_in_coercion proofs s r g)
    co_kept (NGVar i) k l s r t c h = well.coercion l (r i) (c.at i h)
    co_kept (NGRefl o u) k l s r t c h = ty_replaced goes u k l s t h
    co_kept (NGSym g) k l s r t c h = co_kept g k l s r t c h
    co_kept (NGTrans g q) k l s r t c h = (co_kept g k l s r t c h.0, co_kept q k l s r t c h.1)
    co_kept (NGTc o n gs) k l s r t c h = (h.0, cos_kept gs k l s r t c h.1)
    co_kept (NGCapp g q) k l s r t c h = (co_kept g k l s r t c h.0, co_kept q k l s r t c h.1)
    co_kept (NGFun g q) k l s r t c h = (co_kept g k l s r t c h.0, co_kept q k l s r t c h.1)
    co_kept (NGAll x g) k l s r t c h =
        co_kept g (in_type k) (in_type l) (types_below s) (λ i. proofs.past_type (r i)) (types_in_type goes k l s t) (cos_in_type k l r c) h
    co_kept (NGCoAll o p f g q) k l s r t c h = (co_kept f k l s r t c h.0, co_kept g k l s r t c h.1, co_kept q k l s r t c h.2)
    co_kept (NGInst g q) k l s r t c h = (co_kept g k l s r t c h.0, co_kept q k l s r t c h.1)
    co_kept (NGNth n g) k l s r t c h = co_kept g k l s r t c h
    co_kept (NGLeft g) k l s r t c h = co_kept g k l s r t c h
    co_kept (NGRight g) k l s r t c h = co_kept g k l s r t c h
    co_kept (NGSub g) k l s r t c h = co_kept g k l s r t c h
    co_kept (NGAx n gs) k l s r t c h = (h.0, cos_kept gs k l s r t c h.1)
    co_kept (NGUniv u v) k l s r t c h = (ty_replaced goes u k l s t h.0, ty_replaced goes v k l s t h.1)

    pub cos_kept : (gs : NCos) (k l : Counts) (s : ℕ → NTy) (r : ℕ → W) → ReplacesTypes P k l s → ReplacesCos P Proves k l r → HoldsCos P k gs → HoldsCos P l (put_in_coercions proofs s r gs)
    cos_kept NoNCos k l s r t c h = tt
    cos_kept (MoreNCos g gs) k l s r t c h = (co_kept g k l s r t c h.0, cos_kept gs k l s r t c h.1)

-- BINDERS AND EXPRESSIONS

module _ {V W : Type 0} {P : Saying} {how : Standing V} {proofs : StandingCoercion W} {Stands : Counts → V → Type 0} {Proves : Counts → W → Type 0}
    (goes : Goes P) (stand : StandWell P how Stands) (well : ProveWell P proofs Proves) where
  abbrev Puts : Counts → Counts → Replacement V W → Type 0
  Puts k l r = Replaces P Stands Proves k l r

  -- below a value
  in_a_value : (k l : Counts) (r : Replacement V W) → Puts k l r → Puts (in_value k) (in_value l) (below_values how proofs 1 r)
  in_a_value k l r f = record {
    types = types_elsewhere P k l r.types f.types (in_value k) (in_value l) (record { types = refl }) (record { types = refl });
    coercions = record { at = λ i h. well.in_value l (r.coercions i) (f.coercions.at i h) };
    values = record { at = at };
    joins = record { at = λ i h. f.joins.at i h };
  }
    where
      at : (i : ℕ) → P.value_at (suc k.values) i → Stands (in_value l) (values_below how proofs r.values i)
      at zero h = stand.innermost l
      at (suc i) h = stand.past_value l (r.values i) (f.values.at i (goes.value_back k.values i h))

  -- below a join point
  in_a_join : (k l : Counts) (r : Replacement V W) → Puts k l r → Puts (in_join k) (in_join l) (below_joins how proofs 1 r)
  in_a_join k l r f = record {
    types = types_elsewhere P k l r.types f.types (in_join k) (in_join l) (record { types = refl }) (record { types = refl });
    coercions = record { at = λ i h. well.in_join l (r.coercions i) (f.coercions.at i h) };
    values = record { at = λ i h. stand.past_join l (r.values i) (f.values.at i h) };
    joins = record { at = at };
  }
    where
      at : (i : ℕ) → P.join_at (suc k.joins) i → P.join_at (suc l.joins) (renaming_below r.joins i)
      at zero h = goes.join_here l.joins
      at (suc i) h = goes.join_past l.joins (r.joins i) (f.joins.at i (goes.join_back k.joins i h))

  -- below a binder
  in_a_binder : (b : NBinder) (k l : Counts) (r : Replacement V W) → Puts k l r → Puts (in_binder b k) (in_binder (replaced_binder r.types b) l) (below_binder how proofs b r)
  in_a_binder (NBValue t) k l r f = in_a_value k l r f
  in_a_binder (NBType x) k l r f = record {
    types = types_in_type goes k l r.types f.types;
    coercions = cos_in_type goes well k l r.coercions f.coercions;
    values = record { at = λ i h. stand.past_type l (r.values i) (f.values.at i h) };
    joins = record { at = λ i h. f.joins.at i h };
  }
  in_a_binder (NBCo o t u) k l r f = record {
    types = types_elsewhere P k l r.types f.types (in_coercion k) (in_coercion l) (record { types = refl }) (record { types = refl });
    coercions = cos_in_coercion goes well k l r.coercions f.coercions;
    values = record { at = λ i h. stand.past_coercion l (r.values i) (f.values.at i h) };
    joins = record { at = λ i h. f.joins.at i h };
  }

  in_all_binders : (bs : List NBinder) (k l : Counts) (r : Replacement V W) → Puts k l r
      → Puts (in_binders bs k) (in_binders (replaced_binders r.types bs) l) (below_binders how proofs bs r)
  in_all_binders [] k l r f = f
  in_all_binders (b ∷ bs) k l r f =
      in_all_binders bs (in_binder b k) (in_binder (replaced_binder r.types b) l) (below_binder how proofs b r) (in_a_binder b k l r f)

  -- below a group, in which something was put in too
  in_a_group : (bs : NBinds) (q : Replacement V W) (k l : Counts) (r : Replacement V W) → Puts k l r
      → Puts (in_group bs k) (in_group (put_in_binds how proofs q bs) l) (below_values how proofs (bind_count bs) r)
  in_a_group NoNBinds q k l r f = f
  in_a_group (MoreNBinds b bs) q k l r f = in_a_group bs q (in_value k) (in_value l) (below_values how proofs 1 r) (in_a_value k l r f)

  in_all_joins : (js : NJoins) (q : Replacement V W) (k l : Counts) (r : Replacement V W) → Puts k l r
      → Puts (in_joins js k) (in_joins (put_in_joins how proofs q js) l) (below_joins how proofs (join_count js) r)
  in_all_joins NoNJoins q k l r f = f
  in_all_joins (MoreNJoins j js) q k l r f = in_all_joins js q (in_join k) (in_join l) (below_joins how proofs 1 r) (in_a_join k l r f)

  in_either : (o : Bool) (k l m n : Counts) (r q : Replacement V W) → Puts k l r → Puts m n q → Puts (if o then m else k) (if o then n else l) (if o then q else r)
  in_either true k l m n r q f g = g
  in_either false k l m n r q f g = f

  binder_kept : (b : NBinder) (k l : Counts) (s : ℕ → NTy) → ReplacesTypes P k l s → HoldsBinder P k b → HoldsBinder P l (replaced_binder s b)
  binder_kept (NBValue t) k l s f h = ty_replaced goes t k l s f h
  binder_kept (NBType x) k l s f h = tt
  binder_kept (NBCo o t u) k l s f h = (ty_replaced goes t k l s f h.0, ty_replaced goes u k l s f h.1)

  types_in_binder : (b : NBinder) (k l : Counts) (s : ℕ → NTy) → ReplacesTypes P k l s → ReplacesTypes P (in_binder b k) (in_binder (replaced_binder s b) l) (types_behind b s)
  types_in_binder (NBValue t) k l s f = types_elsewhere P k l s f (in_value k) (in_value l) (record { types = refl }) (record { types = refl })
  types_in_binder (NBType x) k l s f = types_in_type goes k l s f
  types_in_binder (NBCo o t u) k l s f = types_elsewhere P k l s f (in_coercion k) (in_coercion l) (record { types = refl }) (record { types = refl })

  binders_kept : (bs : List NBinder) (k l : Counts) (s : ℕ → NTy) → ReplacesTypes P k l s → HoldsBinders P k bs → HoldsBinders P l (replaced_binders s bs)
  binders_kept [] k l s f h = tt
  binders_kept (b ∷ bs) k l s f h =
      (binder_kept b k l s f h.0, binders_kept bs (in_binder b k) (in_binder (replaced_binder s b) l) (types_behind b s) (types_in_binder b k l s f) h.1)

  -- what is put in among the right sides of a group
  abbrev among_binds : Bool → NBinds → Replacement V W → Replacement V W
  among_binds o bs r = if o then below_values how proofs (bind_count bs) r else r

  abbrev among_joins : Bool → NJoins → Replacement V W → Replacement V W
  among_joins o js r = if o then below_joins how proofs (join_count js) r else r

  mutual
    pub expr_kept : (e : NExpr) (k l : Counts) (r : Replacement V W) → Puts k l r → HoldsExpr P k e → HoldsExpr P l (put_in how proofs r e)
    expr_kept (NLocal i) k l r f h = stand.expression l (r.values i) (f.values.at i h)
    expr_kept (NVar n) k l r f h = h
    expr_kept (NLit n) k l r f h = tt
    expr_kept (NApp e a) k l r f h = (expr_kept e k l r f h.0, arg_kept a k l r f h.1)
    expr_kept (NLam b e) k l r f h =
        (binder_kept b k l r.types f.types h.0, expr_kept e (in_binder b k) (in_binder (replaced_binder r.types b) l) (below_binder how proofs b r) (in_a_binder b k l r f) h.1)
    expr_kept (NLet o bs e) k l r f h =
        let q = among_binds o bs r in
        let below = in_a_group bs q k l r f in
        let inner = in_group (put_in_binds how proofs q bs) l in (
          binds_kept bs (if o then in_group bs k else k) (if o then inner else l) q (in_either o k l (in_group bs k) inner r (below_values how proofs (bind_count bs) r) f below) h.0,
          expr_kept e (in_group bs k) inner (below_values how proofs (bind_count bs) r) below h.1,
        )
    expr_kept (NCase e t u alts) k l r f h = (
      expr_kept e k l r f h.0,
      ty_replaced goes t k l r.types f.types h.1,
      ty_replaced goes u k l r.types f.types h.2,
      alts_kept alts (in_value k) (in_value l) (below_values how proofs 1 r) (in_a_value k l r f) h.3,
    )
    expr_kept (NCast e g) k l r f h = (expr_kept e k l r f h.0, co_kept goes well g k l r.types r.coercions f.types f.coercions h.1)
    expr_kept (NCon n args) k l r f h = (h.0, args_kept args k l r f h.1)
    expr_kept (NPrim op es) k l r f h = exprs_kept es k l r f h
    expr_kept (NFail t) k l r f h = ty_replaced goes t k l r.types f.types h
    expr_kept (NJoin o t js e) k l r f h =
        let q = among_joins o js r in
        let below = in_all_joins js q k l r f in
        let inner = in_joins (put_in_joins how proofs q js) l in (
          ty_replaced goes t k l r.types f.types h.0,
          joins_kept js (if o then in_joins js k else k) (if o then inner else l) q (in_either o k l (in_joins js k) inner r (below_joins how proofs (join_count js) r) f below) h.1,
          expr_kept e (in_joins js k) inner (below_joins how proofs (join_count js) r) below h.2,
        )
    expr_kept (NJump i args) k l r f h = (f.joins.at i h.0, args_kept args k l r f h.1)

    pub arg_kept : (a : NArg) (k l : Counts) (r : Replacement V W) → Puts k l r → HoldsArg P k a → HoldsArg P l (put_in_arg how proofs r a)
    arg_kept (NATerm e) k l r f h = expr_kept e k l r f h
    arg_kept (NAType t) k l r f h = ty_replaced goes t k l r.types f.types h
    arg_kept (NACo g) k l r f h = co_kept goes well g k l r.types r.coercions f.types f.coercions h

    args_kept : (xs : NArgs) (k l : Counts) (r : Replacement V W) → Puts k l r → HoldsArgs P k xs → HoldsArgs P l (put_in_args how proofs r xs)
    args_kept NoNArgs k l r f h = tt
    args_kept (MoreNArgs a xs) k l r f h = (arg_kept a k l r f h.0, args_kept xs k l r f h.1)

    exprs_kept : (es : NExprs) (k l : Counts) (r : Replacement V W) → Puts k l r → HoldsExprs P k es → HoldsExprs P l (put_in_exprs how proofs r es)
    exprs_kept NoNExprs k l r f h = tt
    exprs_kept (MoreNExprs e es) k l r f h = (expr_kept e k l r f h.0, exprs_kept es k l r f h.1)

    bind_kept : (b : NBind) (k l : Counts) (r : Replacement V W) → Puts k l r → HoldsBind P k b → HoldsBind P l (put_in_bind how proofs r b)
    bind_kept (NBound t e) k l r f h = (ty_replaced goes t k l r.types f.types h.0, expr_kept e k l r f h.1)

    binds_kept : (bs : NBinds) (k l : Counts) (r : Replacement V W) → Puts k l r → HoldsBinds P k bs → HoldsBinds P l (put_in_binds how proofs r bs)
    binds_kept NoNBinds k l r f h = tt
    binds_kept (MoreNBinds b bs) k l r f h = (bind_kept b k l r f h.0, binds_kept bs k l r f h.1)

    join_kept : (j : NJoinBind) (k l : Counts) (r : Replacement V W) → Puts k l r → HoldsJoin P k j → HoldsJoin P l (put_in_join how proofs r j)
    join_kept (NJoined bs e) k l r f h = (
      binders_kept bs k l r.types f.types h.0,
      expr_kept e (in_binders bs k) (in_binders (replaced_binders r.types bs) l) (below_binders how proofs bs r) (in_all_binders bs k l r f) h.1,
    )

    joins_kept : (js : NJoins) (k l : Counts) (r : Replacement V W) → Puts k l r → HoldsJoins P k js → HoldsJoins P l (put_in_joins how proofs r js)
    joins_kept NoNJoins k l r f h = tt
    joins_kept (MoreNJoins j js) k l r f h = (join_kept j k l r f h.0, joins_kept js k l r f h.1)

    alt_kept : (a : NAlt) (k l : Counts) (r : Replacement V W) → Puts k l r → HoldsAlt P k a → HoldsAlt P l (put_in_alt how proofs r a)
    alt_kept (NBranch x bs e) k l r f h = (
      h.0,
      binders_kept bs k l r.types f.types h.1,
      expr_kept e (in_binders bs k) (in_binders (replaced_binders r.types bs) l) (below_binders how proofs bs r) (in_all_binders bs k l r f) h.2,
    )

    alts_kept : (xs : NAlts) (k l : Counts) (r : Replacement V W) → Puts k l r → HoldsAlts P k xs → HoldsAlts P l (put_in_alts how proofs r xs)
    alts_kept NoNAlts k l r f h = tt
    alts_kept (MoreNAlts a xs) k l r f h = (alt_kept a k l r f h.0, alts_kept xs k l r f h.1)
