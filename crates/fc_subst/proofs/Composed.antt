-- One replacement after another is one replacement: stated once, for whatever stands in place of variables.
use Rattle.std.proofs.Common.{◌≡◌, ℕ, zero, suc, Bool, true, false, if◌then◌else◌, List, [], ◌∷◌, refl, ap, ap₂, ◌∙◌}
use Rattle.fc_syntax.specs.Tree.{Kind}
use Rattle.fc_syntax.specs.declared.ty.Role.{Role}
use Rattle.fc_model.specs.Nameless.{NTy, NCo, NGVar, NGRefl, NGSym, NGTrans, NGTc, NGCapp, NGFun, NGAll, NGCoAll, NGInst, NGNth, NGLeft, NGRight, NGSub, NGAx}
use Rattle.fc_model.specs.Nameless.{NGUniv, NCos, NoNCos, MoreNCos}
use Rattle.fc_model.specs.Nameless.{NBinder, NBValue, NBType, NBCo, NArg, NATerm, NAType, NACo, NBind, NBound, NJoinBind, NJoined, NAlt, NBranch}
use Rattle.fc_model.specs.Nameless.{NExpr, NLocal, NVar, NLit, NApp, NLam, NLet, NCase, NCast, NCon, NPrim, NFail, NJoin, NJump}
use Rattle.fc_model.specs.Nameless.{NArgs, NoNArgs, MoreNArgs, NExprs, NoNExprs, MoreNExprs, NBinds, NoNBinds, MoreNBinds, NJoins, NoNJoins, MoreNJoins, NAlts, NoNAlts, MoreNAlts}
use Rattle.fc_model.specs.Replacing.{Replacement, Standing, StandingCoercion, below_binder, below_binders, below_joins, below_values, bind_count, coercions_below, join_count}
use Rattle.fc_model.specs.Replacing.{put_in, put_in_alt, put_in_alts, put_in_arg, put_in_args, put_in_bind, put_in_binds, put_in_coercion, put_in_coercions, put_in_exprs}
use Rattle.fc_model.specs.Replacing.{put_in_join, put_in_joins, replaced_binder, replaced_binders, types_behind}
use Rattle.fc_model.specs.Substituting.{substituted_type, types_below, renaming_below, shifted_type}
use Rattle.fc_model.proofs.Substitutions.{equal_types, shifted_below, substitutions_compose}

-- TYPES

types_below_types : (r s : ℕ → NTy) (i : ℕ) → substituted_type (types_below s) (types_below r i) ≡ types_below (λ j. substituted_type s (r j)) i
types_below_types r s zero = refl
types_below_types r s (suc i) = shifted_below s (r i)

types_again : (r s t : ℕ → NTy) → ((i : ℕ) → substituted_type s (r i) ≡ t i) → (u : NTy) → substituted_type s (substituted_type r u) ≡ substituted_type t u
types_again r s t h u = substitutions_compose r s u ∙ equal_types h u

below_again : (r s t : ℕ → NTy) → ((i : ℕ) → substituted_type s (r i) ≡ t i) → (i : ℕ) → substituted_type (types_below s) (types_below r i) ≡ types_below t i
below_again r s t h zero = refl
below_again r s t h (suc i) = shifted_below s (r i) ∙ ap shifted_type (h i)

-- HOW MANY

pub binds_counted : {V W : Type 0} (how : Standing V) (proofs : StandingCoercion W) (r : Replacement V W) (bs : NBinds) → bind_count (put_in_binds how proofs r bs) ≡ bind_count bs
binds_counted how proofs r NoNBinds = refl
binds_counted how proofs r (MoreNBinds b rest) = ap (λ n. suc n) (binds_counted how proofs r rest)

pub joins_counted : {V W : Type 0} (how : Standing V) (proofs : StandingCoercion W) (r : Replacement V W) (js : NJoins) → join_count (put_in_joins how proofs r js) ≡ join_count js
joins_counted how proofs r NoNJoins = refl
joins_counted how proofs r (MoreNJoins j rest) = ap (λ n. suc n) (joins_counted how proofs r rest)

-- WHAT THE LAW ASKS FOR

-- What stands for a variable after the first, seen through the second, is what stands for it after both; and it remains so past binders.
pub record Composing {V W X Y Z U : Type 0} (first : Standing V) (first_proofs : StandingCoercion W) (second : Standing X) (second_proofs : StandingCoercion Y)
    (both : Standing Z) (both_proofs : StandingCoercion U) : Type 0 where
  pub innermost_proof : (s : ℕ → NTy) (r : ℕ → Y) → put_in_coercion second_proofs s (coercions_below second_proofs r) (first_proofs.coercion first_proofs.innermost) ≡ both_proofs.coercion both_proofs.innermost
  pub proof_past_type : (s : ℕ → NTy) (r : ℕ → Y) (w : W) (u : U) → put_in_coercion second_proofs s r (first_proofs.coercion w) ≡ both_proofs.coercion u
      → put_in_coercion second_proofs (types_below s) (λ i. second_proofs.past_type (r i)) (first_proofs.coercion (first_proofs.past_type w)) ≡ both_proofs.coercion (both_proofs.past_type u)
  pub proof_past_coercion : (s : ℕ → NTy) (r : ℕ → Y) (w : W) (u : U) → put_in_coercion second_proofs s r (first_proofs.coercion w) ≡ both_proofs.coercion u
      → put_in_coercion second_proofs s (coercions_below second_proofs r) (first_proofs.coercion (first_proofs.past_coercion w)) ≡ both_proofs.coercion (both_proofs.past_coercion u)
  pub innermost : (r : Replacement X Y) → put_in second second_proofs (below_values second second_proofs 1 r) (first.expression first.innermost) ≡ both.expression both.innermost
  pub past_value : (r : Replacement X Y) (v : V) (z : Z) → put_in second second_proofs r (first.expression v) ≡ both.expression z
      → put_in second second_proofs (below_values second second_proofs 1 r) (first.expression (first.past_value v)) ≡ both.expression (both.past_value z)
  pub past_type : (k : Kind) (r : Replacement X Y) (v : V) (z : Z) → put_in second second_proofs r (first.expression v) ≡ both.expression z
      → put_in second second_proofs (below_binder second second_proofs (NBType k) r) (first.expression (first.past_type v)) ≡ both.expression (both.past_type z)
  pub past_coercion : (o : Role) (t u : NTy) (r : Replacement X Y) (v : V) (z : Z) → put_in second second_proofs r (first.expression v) ≡ both.expression z
      → put_in second second_proofs (below_binder second second_proofs (NBCo o t u) r) (first.expression (first.past_coercion v)) ≡ both.expression (both.past_coercion z)
  pub past_join : (r : Replacement X Y) (v : V) (z : Z) → put_in second second_proofs r (first.expression v) ≡ both.expression z
      → put_in second second_proofs (below_joins second second_proofs 1 r) (first.expression (first.past_join v)) ≡ both.expression (both.past_join z)

module _ {V W X Y Z U : Type 0} {first : Standing V} {first_proofs : StandingCoercion W} {second : Standing X} {second_proofs : StandingCoercion Y}
    {both : Standing Z} {both_proofs : StandingCoercion U} (law : Composing first first_proofs second second_proofs both both_proofs) where
  -- three replacements of which the third is the first and then the second
  pub record Composed (r : Replacement V W) (s : Replacement X Y) (t : Replacement Z U) : Type 0 where
    pub types : (i : ℕ) → substituted_type s.types (r.types i) ≡ t.types i
    pub coercions : (i : ℕ) → put_in_coercion second_proofs s.types s.coercions (first_proofs.coercion (r.coercions i)) ≡ both_proofs.coercion (t.coercions i)
    pub values : (i : ℕ) → put_in second second_proofs s (first.expression (r.values i)) ≡ both.expression (t.values i)
    pub joins : (i : ℕ) → s.joins (r.joins i) ≡ t.joins i

  -- COERCIONS

  proofs_below : (q : ℕ → NTy) (r : ℕ → W) (s : ℕ → Y) (t : ℕ → U) → ((i : ℕ) → put_in_coercion second_proofs q s (first_proofs.coercion (r i)) ≡ both_proofs.coercion (t i))
      → (i : ℕ) → put_in_coercion second_proofs q (coercions_below second_proofs s) (first_proofs.coercion (coercions_below first_proofs r i)) ≡ both_proofs.coercion (coercions_below both_proofs t i)
  proofs_below q r s t h zero = law.innermost_proof q s
  proofs_below q r s t h (suc i) = law.proof_past_coercion q s (r i) (t i) (h i)

  mutual
    pub coercion_again : (p q o : ℕ → NTy) (r : ℕ → W) (s : ℕ → Y) (t : ℕ → U) → ((i : ℕ) → substituted_type q (p i) ≡ o i)
        → ((i : ℕ) → put_in_coercion second_proofs q s (first_proofs.coercion (r i)) ≡ both_proofs.coercion (t i))
        → (g : NCo) → put_in_coercion second_proofs q s (put_in_coercion first_proofs p r g) ≡ put_in_coercion both_proofs o t g
    coercion_again p q o r s t h k (NGVar i) = k i
    coercion_again p q o r s t h k (NGRefl e u) = ap (NGRefl e) (types_again p q o h u)
    coercion_again p q o r s t h k (NGSym g) = ap NGSym (coercion_again p q o r s t h k g)
    coercion_again p q o r s t h k (NGTrans f g) = ap₂ NGTrans (coercion_again p q o r s t h k f) (coercion_again p q o r s t h k g)
    coercion_again p q o r s t h k (NGTc e n gs) = ap (NGTc e n) (coercions_again p q o r s t h k gs)
    coercion_again p q o r s t h k (NGCapp f g) = ap₂ NGCapp (coercion_again p q o r s t h k f) (coercion_again p q o r s t h k g)
    coercion_again p q o r s t h k (NGFun f g) = ap₂ NGFun (coercion_again p q o r s t h k f) (coercion_again p q o r s t h k g)
    coercion_again p q o r s t h k (NGAll e g) =
        ap (NGAll e) (coercion_again (types_below p) (types_below q) (types_below o) (λ i. first_proofs.past_type (r i)) (λ i. second_proofs.past_type (s i)) (λ i. both_proofs.past_type (t i))
        (below_again p q o h) (λ i. law.proof_past_type q s (r i) (t i) (k i)) g)
    coercion_again p q o r s t h k (NGCoAll e d f g j) =
        ap (λ x. NGCoAll e d x (put_in_coercion second_proofs q s (put_in_coercion first_proofs p r g)) (put_in_coercion second_proofs q s (put_in_coercion first_proofs p r j))) (coercion_again p q o r s t h k f)
        ∙ ap₂ (NGCoAll e d (put_in_coercion both_proofs o t f)) (coercion_again p q o r s t h k g) (coercion_again p q o r s t h k j)
    coercion_again p q o r s t h k (NGInst f g) = ap₂ NGInst (coercion_again p q o r s t h k f) (coercion_again p q o r s t h k g)
    coercion_again p q o r s t h k (NGNth n g) = ap (NGNth n) (coercion_again p q o r s t h k g)
    coercion_again p q o r s t h k (NGLeft g) = ap NGLeft (coercion_again p q o r s t h k g)
    coercion_again p q o r s t h k (NGRight g) = ap NGRight (coercion_again p q o r s t h k g)
    coercion_again p q o r s t h k (NGSub g) = ap NGSub (coercion_again p q o r s t h k g)
    coercion_again p q o r s t h k (NGAx n gs) = ap (NGAx n) (coercions_again p q o r s t h k gs)
    coercion_again p q o r s t h k (NGUniv u v) = ap₂ NGUniv (types_again p q o h u) (types_again p q o h v)

    coercions_again : (p q o : ℕ → NTy) (r : ℕ → W) (s : ℕ → Y) (t : ℕ → U) → ((i : ℕ) → substituted_type q (p i) ≡ o i)
        → ((i : ℕ) → put_in_coercion second_proofs q s (first_proofs.coercion (r i)) ≡ both_proofs.coercion (t i))
        → (gs : NCos) → put_in_coercions second_proofs q s (put_in_coercions first_proofs p r gs) ≡ put_in_coercions both_proofs o t gs
    coercions_again p q o r s t h k NoNCos = refl
    coercions_again p q o r s t h k (MoreNCos g gs) = ap₂ MoreNCos (coercion_again p q o r s t h k g) (coercions_again p q o r s t h k gs)

  -- BELOW BINDERS

  below_value : (r : Replacement V W) (s : Replacement X Y) (t : Replacement Z U) → Composed r s t
      → Composed (below_values first first_proofs 1 r) (below_values second second_proofs 1 s) (below_values both both_proofs 1 t)
  below_value r s t c = record { types = c.types; coercions = c.coercions; values = here; joins = c.joins }
    where
      here : (i : ℕ) → put_in second second_proofs (below_values second second_proofs 1 s) (first.expression ((below_values first first_proofs 1 r).values i)) ≡ both.expression ((below_values both both_proofs 1 t).values i)
      here zero = law.innermost s
      here (suc i) = law.past_value s (r.values i) (t.values i) (c.values i)

  below_many : (m : ℕ) (r : Replacement V W) (s : Replacement X Y) (t : Replacement Z U) → Composed r s t
      → Composed (below_values first first_proofs m r) (below_values second second_proofs m s) (below_values both both_proofs m t)
  below_many zero r s t c = c
  below_many (suc m) r s t c = below_many m (below_values first first_proofs 1 r) (below_values second second_proofs 1 s) (below_values both both_proofs 1 t) (below_value r s t c)

  below_join : (r : Replacement V W) (s : Replacement X Y) (t : Replacement Z U) → Composed r s t
      → Composed (below_joins first first_proofs 1 r) (below_joins second second_proofs 1 s) (below_joins both both_proofs 1 t)
  below_join r s t c = record { types = c.types; coercions = c.coercions; values = λ i. law.past_join s (r.values i) (t.values i) (c.values i); joins = there }
    where
      there : (i : ℕ) → renaming_below s.joins (renaming_below r.joins i) ≡ renaming_below t.joins i
      there zero = refl
      there (suc i) = ap (λ n. suc n) (c.joins i)

  below_many_joins : (m : ℕ) (r : Replacement V W) (s : Replacement X Y) (t : Replacement Z U) → Composed r s t
      → Composed (below_joins first first_proofs m r) (below_joins second second_proofs m s) (below_joins both both_proofs m t)
  below_many_joins zero r s t c = c
  below_many_joins (suc m) r s t c = below_many_joins m (below_joins first first_proofs 1 r) (below_joins second second_proofs 1 s) (below_joins both both_proofs 1 t) (below_join r s t c)

  below_one : (b : NBinder) (r : Replacement V W) (s : Replacement X Y) (t : Replacement Z U) → Composed r s t
      → Composed (below_binder first first_proofs b r) (below_binder second second_proofs (replaced_binder r.types b) s) (below_binder both both_proofs b t)
  below_one (NBValue u) r s t c = let below = below_value r s t c in record { types = below.types; coercions = below.coercions; values = below.values; joins = below.joins }
  below_one (NBType k) r s t c = record {
    types = below_again r.types s.types t.types c.types;
    coercions = λ i. law.proof_past_type s.types s.coercions (r.coercions i) (t.coercions i) (c.coercions i);
    values = λ i. law.past_type k s (r.values i) (t.values i) (c.values i);
    joins = c.joins;
  }
  below_one (NBCo o u v) r s t c = record {
    types = c.types;
    coercions = proofs_below s.types r.coercions s.coercions t.coercions c.coercions;
    values = λ i. law.past_coercion o (substituted_type r.types u) (substituted_type r.types v) s (r.values i) (t.values i) (c.values i);
    joins = c.joins;
  }

  below_all : (bs : List NBinder) (r : Replacement V W) (s : Replacement X Y) (t : Replacement Z U) → Composed r s t
      → Composed (below_binders first first_proofs bs r) (below_binders second second_proofs (replaced_binders r.types bs) s) (below_binders both both_proofs bs t)
  below_all [] r s t c = c
  below_all (b ∷ bs) r s t c =
      below_all bs (below_binder first first_proofs b r) (below_binder second second_proofs (replaced_binder r.types b) s) (below_binder both both_proofs b t) (below_one b r s t c)

  among : (o : Bool) (m : ℕ) (r : Replacement V W) (s : Replacement X Y) (t : Replacement Z U) → Composed r s t
      → Composed (if o then below_values first first_proofs m r else r) (if o then below_values second second_proofs m s else s) (if o then below_values both both_proofs m t else t)
  among true m r s t c = below_many m r s t c
  among false m r s t c = c

  among_joins : (o : Bool) (m : ℕ) (r : Replacement V W) (s : Replacement X Y) (t : Replacement Z U) → Composed r s t
      → Composed (if o then below_joins first first_proofs m r else r) (if o then below_joins second second_proofs m s else s) (if o then below_joins both both_proofs m t else t)
  among_joins true m r s t c = below_many_joins m r s t c
  among_joins false m r s t c = c

  binder_again : (p q o : ℕ → NTy) → ((i : ℕ) → substituted_type q (p i) ≡ o i) → (b : NBinder) → replaced_binder q (replaced_binder p b) ≡ replaced_binder o b
  binder_again p q o h (NBValue t) = ap NBValue (types_again p q o h t)
  binder_again p q o h (NBType k) = refl
  binder_again p q o h (NBCo r t u) = ap₂ (NBCo r) (types_again p q o h t) (types_again p q o h u)

  behind_again : (p q o : ℕ → NTy) → ((i : ℕ) → substituted_type q (p i) ≡ o i) → (b : NBinder) (i : ℕ)
      → substituted_type (types_behind (replaced_binder p b) q) (types_behind b p i) ≡ types_behind b o i
  behind_again p q o h (NBValue t) i = h i
  behind_again p q o h (NBType k) i = below_again p q o h i
  behind_again p q o h (NBCo r t u) i = h i

  binders_again : (p q o : ℕ → NTy) → ((i : ℕ) → substituted_type q (p i) ≡ o i) → (bs : List NBinder) → replaced_binders q (replaced_binders p bs) ≡ replaced_binders o bs
  binders_again p q o h [] = refl
  binders_again p q o h (b ∷ bs) =
      ap₂ (λ x xs. x ∷ xs) (binder_again p q o h b) (binders_again (types_behind b p) (types_behind (replaced_binder p b) q) (types_behind b o) (behind_again p q o h b) bs)

  -- EXPRESSIONS

  mutual
    pub again : (r : Replacement V W) (s : Replacement X Y) (t : Replacement Z U) → Composed r s t → (e : NExpr)
        → put_in second second_proofs s (put_in first first_proofs r e) ≡ put_in both both_proofs t e
    again r s t c (NLocal i) = c.values i
    again r s t c (NVar n) = refl
    again r s t c (NLit n) = refl
    again r s t c (NApp f a) = ap₂ NApp (again r s t c f) (arg_again r s t c a)
    again r s t c (NLam b e) =
        ap₂ NLam (binder_again r.types s.types t.types c.types b)
        (again (below_binder first first_proofs b r) (below_binder second second_proofs (replaced_binder r.types b) s) (below_binder both both_proofs b t) (below_one b r s t c) e)
    again r s t c (NLet o bs e) =
        let m = bind_count bs in
        let inner = if o then below_values first first_proofs m r else r in
        let done = put_in_binds first first_proofs inner bs in
        ap (λ n. NLet o (put_in_binds second second_proofs (if o then below_values second second_proofs n s else s) done) (put_in second second_proofs (below_values second second_proofs n s) (put_in first first_proofs (below_values first first_proofs m r) e)))
        (binds_counted first first_proofs inner bs)
        ∙ ap₂ (NLet o) (binds_again inner (if o then below_values second second_proofs m s else s) (if o then below_values both both_proofs m t else t) (among o m r s t c) bs)
        (again (below_values first first_proofs m r) (below_values second second_proofs m s) (below_values both both_proofs m t) (below_many m r s t c) e)
    again r s t c (NCase e u v alts) =
        ap₂ (λ x y. NCase x y (substituted_type s.types (substituted_type r.types v)) (put_in_alts second second_proofs (below_values second second_proofs 1 s) (put_in_alts first first_proofs (below_values first first_proofs 1 r) alts)))
        (again r s t c e) (types_again r.types s.types t.types c.types u)
        ∙ ap₂ (NCase (put_in both both_proofs t e) (substituted_type t.types u)) (types_again r.types s.types t.types c.types v)
        (alts_again (below_values first first_proofs 1 r) (below_values second second_proofs 1 s) (below_values both both_proofs 1 t) (below_value r s t c) alts)
    again r s t c (NCast e g) = ap₂ NCast (again r s t c e) (coercion_again r.types s.types t.types r.coercions s.coercions t.coercions c.types c.coercions g)
    again r s t c (NCon n args) = ap (NCon n) (args_again r s t c args)
    again r s t c (NPrim op es) = ap (NPrim op) (exprs_again r s t c es)
    again r s t c (NFail u) = ap NFail (types_again r.types s.types t.types c.types u)
    again r s t c (NJoin o u js e) =
        let m = join_count js in
        let inner = if o then below_joins first first_proofs m r else r in
        let done = put_in_joins first first_proofs inner js in
        ap₂ (λ x n. NJoin o x (put_in_joins second second_proofs (if o then below_joins second second_proofs n s else s) done) (put_in second second_proofs (below_joins second second_proofs n s) (put_in first first_proofs (below_joins first first_proofs m r) e)))
        (types_again r.types s.types t.types c.types u) (joins_counted first first_proofs inner js)
        ∙ ap₂ (NJoin o (substituted_type t.types u)) (joins_again inner (if o then below_joins second second_proofs m s else s) (if o then below_joins both both_proofs m t else t) (among_joins o m r s t c) js)
        (again (below_joins first first_proofs m r) (below_joins second second_proofs m s) (below_joins both both_proofs m t) (below_many_joins m r s t c) e)
    again r s t c (NJump i args) = ap₂ NJump (c.joins i) (args_again r s t c args)

    pub arg_again : (r : Replacement V W) (s : Replacement X Y) (t : Replacement Z U) → Composed r s t → (a : NArg)
        → put_in_arg second second_proofs s (put_in_arg first first_proofs r a) ≡ put_in_arg both both_proofs t a
    arg_again r s t c (NATerm e) = ap NATerm (again r s t c e)
    arg_again r s t c (NAType u) = ap NAType (types_again r.types s.types t.types c.types u)
    arg_again r s t c (NACo g) = ap NACo (coercion_again r.types s.types t.types r.coercions s.coercions t.coercions c.types c.coercions g)

    args_again : (r : Replacement V W) (s : Replacement X Y) (t : Replacement Z U) → Composed r s t → (args : NArgs)
        → put_in_args second second_proofs s (put_in_args first first_proofs r args) ≡ put_in_args both both_proofs t args
    args_again r s t c NoNArgs = refl
    args_again r s t c (MoreNArgs a rest) = ap₂ MoreNArgs (arg_again r s t c a) (args_again r s t c rest)

    exprs_again : (r : Replacement V W) (s : Replacement X Y) (t : Replacement Z U) → Composed r s t → (es : NExprs)
        → put_in_exprs second second_proofs s (put_in_exprs first first_proofs r es) ≡ put_in_exprs both both_proofs t es
    exprs_again r s t c NoNExprs = refl
    exprs_again r s t c (MoreNExprs e rest) = ap₂ MoreNExprs (again r s t c e) (exprs_again r s t c rest)

    bind_again : (r : Replacement V W) (s : Replacement X Y) (t : Replacement Z U) → Composed r s t → (b : NBind)
        → put_in_bind second second_proofs s (put_in_bind first first_proofs r b) ≡ put_in_bind both both_proofs t b
    bind_again r s t c (NBound u e) = ap₂ NBound (types_again r.types s.types t.types c.types u) (again r s t c e)

    binds_again : (r : Replacement V W) (s : Replacement X Y) (t : Replacement Z U) → Composed r s t → (bs : NBinds)
        → put_in_binds second second_proofs s (put_in_binds first first_proofs r bs) ≡ put_in_binds both both_proofs t bs
    binds_again r s t c NoNBinds = refl
    binds_again r s t c (MoreNBinds b rest) = ap₂ MoreNBinds (bind_again r s t c b) (binds_again r s t c rest)

    join_again : (r : Replacement V W) (s : Replacement X Y) (t : Replacement Z U) → Composed r s t → (j : NJoinBind)
        → put_in_join second second_proofs s (put_in_join first first_proofs r j) ≡ put_in_join both both_proofs t j
    join_again r s t c (NJoined ps e) =
        ap₂ NJoined (binders_again r.types s.types t.types c.types ps)
        (again (below_binders first first_proofs ps r) (below_binders second second_proofs (replaced_binders r.types ps) s) (below_binders both both_proofs ps t) (below_all ps r s t c) e)

    joins_again : (r : Replacement V W) (s : Replacement X Y) (t : Replacement Z U) → Composed r s t → (js : NJoins)
        → put_in_joins second second_proofs s (put_in_joins first first_proofs r js) ≡ put_in_joins both both_proofs t js
    joins_again r s t c NoNJoins = refl
    joins_again r s t c (MoreNJoins j rest) = ap₂ MoreNJoins (join_again r s t c j) (joins_again r s t c rest)

    alt_again : (r : Replacement V W) (s : Replacement X Y) (t : Replacement Z U) → Composed r s t → (a : NAlt)
        → put_in_alt second second_proofs s (put_in_alt first first_proofs r a) ≡ put_in_alt both both_proofs t a
    alt_again r s t c (NBranch h bs e) =
        ap₂ (NBranch h) (binders_again r.types s.types t.types c.types bs)
        (again (below_binders first first_proofs bs r) (below_binders second second_proofs (replaced_binders r.types bs) s) (below_binders both both_proofs bs t) (below_all bs r s t c) e)

    alts_again : (r : Replacement V W) (s : Replacement X Y) (t : Replacement Z U) → Composed r s t → (alts : NAlts)
        → put_in_alts second second_proofs s (put_in_alts first first_proofs r alts) ≡ put_in_alts both both_proofs t alts
    alts_again r s t c NoNAlts = refl
    alts_again r s t c (MoreNAlts a rest) = ap₂ MoreNAlts (alt_again r s t c a) (alts_again r s t c rest)
