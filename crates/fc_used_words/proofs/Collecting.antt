-- Sets that get the words which a piece uses, by one step a form.
use Rattle.std.proofs.Common.{◌≡◌, ◌<◌, ◌≤◌, ◌-◌, ◌+◌, ℤ, Bool, ◌++◌, take, length, get_or, ℕ, zero, suc, true, false, List, [], ◌∷◌, Option, Some, None, slice_get, bytes_eq, if◌then◌else◌, refl, sym, ap, ◌∙◌, subst, arith}
use Rattle.std.proofs.lemmas.List.{take_more}
use Rattle.fc_syntax.specs.declared.ty.Name.{Name}
use Rattle.fc_syntax.specs.declared.ty.Role.{Role}
use Rattle.fc_syntax.specs.Tree.{Word, Kind}
use Rattle.fc_syntax.specs.declared.expr.Head.{Head}
use Rattle.fc_syntax.specs.declared.expr.Head.TheVariants as head
use Rattle.fc_syntax.specs.declared.expr.PrimOp.{PrimOp}
use Rattle.fc_syntax.specs.declared.ty.Ref.{Ref}
use Rattle.fc_syntax.specs.declared.ty.Ty as T
use Rattle.fc_syntax.specs.declared.co.Co as G
use Rattle.fc_syntax.specs.declared.expr.Binder as RustBinder
use Rattle.fc_syntax.specs.declared.expr.Arg as A
use Rattle.fc_syntax.specs.declared.expr.Bind as RustBind
use Rattle.fc_syntax.specs.declared.expr.JoinBind as RustJoin
use Rattle.fc_syntax.specs.declared.expr.Alt as RustAlt
use Rattle.fc_syntax.specs.declared.expr.Expr as E
use Rattle.fc_model.specs.Nameless.{NTy, NTVar, NTCon, NTInt, NTApp, NTFun, NTForall, NTCoForall}
use Rattle.fc_model.specs.Nameless.{NCo, NGVar, NGRefl, NGSym, NGTrans, NGTc, NGCapp, NGFun, NGAll, NGCoAll, NGInst, NGNth, NGLeft, NGRight, NGSub, NGAx, NGUniv, NCos}
use Rattle.fc_model.specs.Nameless.{NBinder, NBValue, NBType, NBCo, NArg, NATerm, NAType, NACo, NBind, NBound, NJoinBind, NJoined, NAlt, NBranch}
use Rattle.fc_model.specs.Nameless.{NExpr, NLocal, NVar, NLit, NApp, NLam, NLet, NCase, NCast, NCon, NPrim, NFail, NJoin, NJump}
use Rattle.fc_model.specs.Nameless.{NExprs, NArgs, NBinds, NJoins, NAlts}
use Rattle.fc_model.specs.NamelessView.{nty_of, ntys_of, nco_of, ncos_of, nbinder_of, nbinders_of, nexpr_of, nexprs_of, narg_of, nargs_of, nbind_of, nbinds_of, njoin_of, njoins_of, nalt_of, nalts_of}
use Rattle.fc_model.specs.Resolution.{Locals, Words, WordSet, plus}
use Rattle.fc_model.proofs.Sameness.{bytes_eq_refl}
use Rattle.fc_scope.specs.WordsAt.{value_word, join_word}
use Rattle.fc_used_words.specs.Scoped.{Counts, in_type, in_value, in_join, in_binder, in_binders, in_group, in_joins, Saying, HoldsTy, HoldsTys, HoldsCo, HoldsCos, HoldsBinder, HoldsBinders, HoldsExpr, HoldsArg, HoldsArgs, HoldsExprs, HoldsBind, HoldsBinds, HoldsJoin, HoldsJoins, HoldsAlt, HoldsAlts, HoldsHead}
use Rattle.fc_used_words.specs.Standing.{AreWithin, Beyond, is_kept, outside}
use Rattle.fc_used_words.specs.Used.{AddsAt, AddsDefinition, AddsTy, AddsTys, AddsCo, AddsCos, AddsBinder, AddsBinders, AddsExpr, AddsArg, AddsArgs, AddsExprs, AddsBind, AddsBinds, AddsJoin, AddsJoins, AddsAlt, AddsAlts}
use Rattle.fc_used_words.proofs.Both.{both_ty, both_tys, both_co, both_cos, both_binder, both_binders, both_expr, both_args, both_exprs, both_binds, both_joins, both_alts}
use Rattle.fc_used_words.proofs.Keeping.{beyond_both, beyond_near, by_test, kept_within}

-- SETS

pub within_same : (ws : Words) → AreWithin ws ws
within_same ws = record { types = λ w h. h; terms = λ w h. h; coercions = λ w h. h }

pub within_both : (ws mid more : Words) → AreWithin ws mid → AreWithin mid more → AreWithin ws more
within_both ws mid more a b = record {
  types = λ w h. b.types w (a.types w h);
  terms = λ w h. b.terms w (a.terms w h);
  coercions = λ w h. b.coercions w (a.coercions w h);
}

pub in_plus : (v w : Word) (set : WordSet) → set w ≡ true → plus v set w ≡ true
in_plus v w set h = by_test (bytes_eq v w) (λ e. ap (λ b. if b then true else set w) e) (λ e. ap (λ b. if b then true else set w) e ∙ h)

pub plus_has : (v : Word) (set : WordSet) → plus v set v ≡ true
plus_has v set = ap (λ b. if b then true else set v) (bytes_eq_refl v)

-- DISTANCES

beyond_far : (P : ℕ → Type 0) (many i : ℕ) → many ≤ i → P (i - many) → Beyond P many i
beyond_far P zero i h p = let e : i - 0 ≡ i = omega arith in subst P e p
beyond_far P (suc many) zero h p = tt
beyond_far P (suc many) (suc i) h p = let e : suc i - suc many ≡ i - many = omega arith in beyond_far P many i (omega arith) (subst P e p)

pub adds_inside : (word : ℕ → Option Word) (many i : ℕ) (set : WordSet) → i < many → AddsAt word many i set set
adds_inside word many i set h = record { kept = beyond_near _ many i h; within = λ w within. within }

pub adds_word : (word : ℕ → Option Word) (many i : ℕ) (set : WordSet) (v : Word) → many ≤ i → word (i - many) ≡ Some v → AddsAt word many i set (plus v set)
adds_word word many i set v h is = record {
  kept = beyond_far _ many i h (λ w at. let e : v ≡ w = cc in subst (λ (x : Word). plus v set x ≡ true) e (plus_has v set));
  within = λ w within. in_plus v w set within;
}

pub adds_nothing : (word : ℕ → Option Word) (many i : ℕ) (set : WordSet) → many ≤ i → word (i - many) ≡ None → AddsAt word many i set set
adds_nothing word many i set h is = record { kept = beyond_far _ many i h (λ w at. absurd (cc)); within = λ w within. within }

pub adds_other : (own : Word) (n : Name) (set : WordSet) (m : Word) → n.module ≡ Some m → bytes_eq m own ≡ false → AddsDefinition own n set set
adds_other own n set m is differs = record {
  kept = λ alone. let e : outside own n.module ≡ Some m = ap (outside own) is ∙ ap (λ b. if b then None else Some m) differs in absurd cc;
  within = λ w h. h;
}

pub adds_own : (own : Word) (n : Name) (set : WordSet) → AddsDefinition own n set (plus n.text set)
adds_own own n set = record { kept = λ alone. plus_has n.text set; within = λ w h. in_plus n.text w set h }

pub ruleset definition_adds = (adds_other, adds_own)

pub ruleset distance_adds = (adds_inside, adds_word, adds_nothing)

-- WHAT WAS KEPT IS KEPT

module _ {own : Word} {s : Locals} where
  later_ty : {k : Counts} {n : NTy} {ws mid more : Words} → AddsTy own s k n ws mid → AreWithin mid more → HoldsTy (is_kept own more s) k n
  later_ty {k = k} {n = n} {mid = mid} {more = more} a h = both_ty _ _ _ _ (kept_within own mid more s h) k k refl n a.kept a.kept

  later_tys : {k : Counts} {n : List NTy} {ws mid more : Words} → AddsTys own s k n ws mid → AreWithin mid more → HoldsTys (is_kept own more s) k n
  later_tys {k = k} {n = n} {mid = mid} {more = more} a h = both_tys _ _ _ _ (kept_within own mid more s h) k k refl n a.kept a.kept

  later_co : {k : Counts} {n : NCo} {ws mid more : Words} → AddsCo own s k n ws mid → AreWithin mid more → HoldsCo (is_kept own more s) k n
  later_co {k = k} {n = n} {mid = mid} {more = more} a h = both_co _ _ _ _ (kept_within own mid more s h) k k refl n a.kept a.kept

  later_cos : {k : Counts} {n : NCos} {ws mid more : Words} → AddsCos own s k n ws mid → AreWithin mid more → HoldsCos (is_kept own more s) k n
  later_cos {k = k} {n = n} {mid = mid} {more = more} a h = both_cos _ _ _ _ (kept_within own mid more s h) k k refl n a.kept a.kept

  later_binder : {k : Counts} {n : NBinder} {ws mid more : Words} → AddsBinder own s k n ws mid → AreWithin mid more → HoldsBinder (is_kept own more s) k n
  later_binder {k = k} {n = n} {mid = mid} {more = more} a h = both_binder _ _ _ _ (kept_within own mid more s h) k k refl n a.kept a.kept

  later_binders : {k : Counts} {n : List NBinder} {ws mid more : Words} → AddsBinders own s k n ws mid → AreWithin mid more → HoldsBinders (is_kept own more s) k n
  later_binders {k = k} {n = n} {mid = mid} {more = more} a h = both_binders _ _ _ _ (kept_within own mid more s h) k k refl n a.kept a.kept

  later_expr : {k : Counts} {n : NExpr} {ws mid more : Words} → AddsExpr own s k n ws mid → AreWithin mid more → HoldsExpr (is_kept own more s) k n
  later_expr {k = k} {n = n} {mid = mid} {more = more} a h = both_expr _ _ _ _ (kept_within own mid more s h) k k refl n a.kept a.kept

  later_args : {k : Counts} {n : NArgs} {ws mid more : Words} → AddsArgs own s k n ws mid → AreWithin mid more → HoldsArgs (is_kept own more s) k n
  later_args {k = k} {n = n} {mid = mid} {more = more} a h = both_args _ _ _ _ (kept_within own mid more s h) k k refl n a.kept a.kept

  later_exprs : {k : Counts} {n : NExprs} {ws mid more : Words} → AddsExprs own s k n ws mid → AreWithin mid more → HoldsExprs (is_kept own more s) k n
  later_exprs {k = k} {n = n} {mid = mid} {more = more} a h = both_exprs _ _ _ _ (kept_within own mid more s h) k k refl n a.kept a.kept

  later_binds : {k : Counts} {n : NBinds} {ws mid more : Words} → AddsBinds own s k n ws mid → AreWithin mid more → HoldsBinds (is_kept own more s) k n
  later_binds {k = k} {n = n} {mid = mid} {more = more} a h = both_binds _ _ _ _ (kept_within own mid more s h) k k refl n a.kept a.kept

  later_joins : {k : Counts} {n : NJoins} {ws mid more : Words} → AddsJoins own s k n ws mid → AreWithin mid more → HoldsJoins (is_kept own more s) k n
  later_joins {k = k} {n = n} {mid = mid} {more = more} a h = both_joins _ _ _ _ (kept_within own mid more s h) k k refl n a.kept a.kept

  later_alts : {k : Counts} {n : NAlts} {ws mid more : Words} → AddsAlts own s k n ws mid → AreWithin mid more → HoldsAlts (is_kept own more s) k n
  later_alts {k = k} {n = n} {mid = mid} {more = more} a h = both_alts _ _ _ _ (kept_within own mid more s h) k k refl n a.kept a.kept

head_uses : (own : Word) (s : Locals) (ws : Words) (h : Head) → HoldsHead (is_kept own ws s) h
head_uses own s ws head.Default = tt
head_uses own s ws (head.Lit n) = tt
head_uses own s ws (head.Con n) = tt

-- the items before one, with it
pub take_item : {X : Type 0} (items : List X) (i : ℕ) (x : X) → i < length items → x ≡ get_or items i x → take (i + 1) items ≡ take i items ++ x ∷ []
take_item items i x low is = take_more items i x low ∙ ap (λ z. take i items ++ z ∷ []) (sym is)

module _ (P : Saying) (k : Counts) where
  cos_end : (items : List (G.Co ℕ)) (x : G.Co ℕ) → HoldsCos P k (ncos_of items) → HoldsCo P k (nco_of x) → HoldsCos P k (ncos_of (items ++ x ∷ []))
  cos_end [] x h g = (g, tt)
  cos_end (y ∷ items) x h g = (h.0, cos_end items x h.1 g)

  args_end : (items : List (A.Arg ℕ Ref)) (x : A.Arg ℕ Ref) → HoldsArgs P k (nargs_of items) → HoldsArg P k (narg_of x) → HoldsArgs P k (nargs_of (items ++ x ∷ []))
  args_end [] x h g = (g, tt)
  args_end (y ∷ items) x h g = (h.0, args_end items x h.1 g)

  exprs_end : (items : List (E.Expr ℕ Ref)) (x : E.Expr ℕ Ref) → HoldsExprs P k (nexprs_of items) → HoldsExpr P k (nexpr_of x) → HoldsExprs P k (nexprs_of (items ++ x ∷ []))
  exprs_end [] x h g = (g, tt)
  exprs_end (y ∷ items) x h g = (h.0, exprs_end items x h.1 g)

  binds_end : (items : List (RustBind.Bind ℕ Ref)) (x : RustBind.Bind ℕ Ref) → HoldsBinds P k (nbinds_of items) → HoldsBind P k (nbind_of x) → HoldsBinds P k (nbinds_of (items ++ x ∷ []))
  binds_end [] x h g = (g, tt)
  binds_end (y ∷ items) x h g = (h.0, binds_end items x h.1 g)

  joins_end : (items : List (RustJoin.JoinBind ℕ Ref)) (x : RustJoin.JoinBind ℕ Ref) → HoldsJoins P k (njoins_of items) → HoldsJoin P k (njoin_of x) → HoldsJoins P k (njoins_of (items ++ x ∷ []))
  joins_end [] x h g = (g, tt)
  joins_end (y ∷ items) x h g = (h.0, joins_end items x h.1 g)

  alts_end : (items : List (RustAlt.Alt ℕ Ref)) (x : RustAlt.Alt ℕ Ref) → HoldsAlts P k (nalts_of items) → HoldsAlt P k (nalt_of x) → HoldsAlts P k (nalts_of (items ++ x ∷ []))
  alts_end [] x h g = (g, tt)
  alts_end (y ∷ items) x h g = (h.0, alts_end items x h.1 g)

-- at an equal count of binders
pub binders_below : {own : Word} {s : Locals} {k l : Counts} {n : List NBinder} {ws more : Words} → AddsBinders own s l n ws more → l ≡ k → AddsBinders own s k n ws more
binders_below {own = own} {s = s} {n = n} {ws = ws} {more = more} a e = subst (λ (k : Counts). AddsBinders own s k n ws more) e a

pub ty_below : {own : Word} {s : Locals} {k l : Counts} {n : NTy} {ws more : Words} → AddsTy own s l n ws more → l ≡ k → AddsTy own s k n ws more
ty_below {own = own} {s = s} {n = n} {ws = ws} {more = more} a e = subst (λ (k : Counts). AddsTy own s k n ws more) e a

pub co_below : {own : Word} {s : Locals} {k l : Counts} {n : NCo} {ws more : Words} → AddsCo own s l n ws more → l ≡ k → AddsCo own s k n ws more
co_below {own = own} {s = s} {n = n} {ws = ws} {more = more} a e = subst (λ (k : Counts). AddsCo own s k n ws more) e a

pub expr_below : {own : Word} {s : Locals} {k l : Counts} {n : NExpr} {ws more : Words} → AddsExpr own s l n ws more → l ≡ k → AddsExpr own s k n ws more
expr_below {own = own} {s = s} {n = n} {ws = ws} {more = more} a e = subst (λ (k : Counts). AddsExpr own s k n ws more) e a

pub binds_below : {own : Word} {s : Locals} {k l : Counts} {n : NBinds} {ws more : Words} → AddsBinds own s l n ws more → l ≡ k → AddsBinds own s k n ws more
binds_below {own = own} {s = s} {n = n} {ws = ws} {more = more} a e = subst (λ (k : Counts). AddsBinds own s k n ws more) e a

pub joins_below : {own : Word} {s : Locals} {k l : Counts} {n : NJoins} {ws more : Words} → AddsJoins own s l n ws more → l ≡ k → AddsJoins own s k n ws more
joins_below {own = own} {s = s} {n = n} {ws = ws} {more = more} a e = subst (λ (k : Counts). AddsJoins own s k n ws more) e a

pub alts_below : {own : Word} {s : Locals} {k l : Counts} {n : NAlts} {ws more : Words} → AddsAlts own s l n ws more → l ≡ k → AddsAlts own s k n ws more
alts_below {own = own} {s = s} {n = n} {ws = ws} {more = more} a e = subst (λ (k : Counts). AddsAlts own s k n ws more) e a

module _ {own : Word} {s : Locals} {k : Counts} where
  -- TYPES

  pub adds_type_variable : {i : ℕ} {ws : Words} {set : WordSet} → AddsAt (slice_get s.types) k.types i ws.types set → AddsTy own s k (NTVar i) ws (record ws { types = set })
  adds_type_variable a = record { kept = a.kept; within = record { types = a.within; terms = λ w h. h; coercions = λ w h. h } }

  pub adds_type_name : {x : Name} {ws : Words} → AddsTy own s k (NTCon x) ws ws
  adds_type_name = record { kept = tt; within = within_same _ }

  pub adds_int : {ws : Words} → AddsTy own s k NTInt ws ws
  adds_int = record { kept = tt; within = within_same _ }

  pub adds_type_application : {t u : NTy} {ws mid more : Words} → AddsTy own s k t ws mid → AddsTy own s k u mid more →
      {n : NTy} → n ≡ NTApp t u → AddsTy own s k n ws more
  adds_type_application {ws = ws} {more = more} a b is = subst (λ (x : NTy). AddsTy own s k x ws more) (sym is) (record { kept = (later_ty a b.within, b.kept); within = within_both _ _ _ a.within b.within })

  pub adds_function : {t u : NTy} {ws mid more : Words} → AddsTy own s k t ws mid → AddsTy own s k u mid more →
      {n : NTy} → n ≡ NTFun t u → AddsTy own s k n ws more
  adds_function {ws = ws} {more = more} a b is = subst (λ (x : NTy). AddsTy own s k x ws more) (sym is) (record { kept = (later_ty a b.within, b.kept); within = within_both _ _ _ a.within b.within })

  pub adds_forall : {x : Kind} {t : NTy} {ws more : Words} → AddsTy own s (in_type k) t ws more → AddsTy own s k (NTForall x t) ws more
  adds_forall a = record { kept = a.kept; within = a.within }

  pub adds_coforall : {r : Role} {t u v : NTy} {ws mid far more : Words} → AddsTy own s k t ws mid → AddsTy own s k u mid far → AddsTy own s k v far more →
      {n : NTy} → n ≡ NTCoForall r t u v → AddsTy own s k n ws more
  adds_coforall {ws = ws} {more = more} a b c is = subst (λ (x : NTy). AddsTy own s k x ws more) (sym is) (record { kept = (later_ty a (within_both _ _ _ b.within c.within), later_ty b c.within, c.kept); within = within_both _ _ _ a.within (within_both _ _ _ b.within c.within) })

  -- COERCIONS

  pub adds_coercion_variable : {i : ℕ} {ws : Words} {set : WordSet} → AddsAt (slice_get s.coercions) k.coercions i ws.coercions set → AddsCo own s k (NGVar i) ws (record ws { coercions = set })
  adds_coercion_variable a = record { kept = a.kept; within = record { coercions = a.within; types = λ w h. h; terms = λ w h. h } }

  pub adds_refl : {r : Role} {t : NTy} {ws more : Words} → AddsTy own s k t ws more → AddsCo own s k (NGRefl r t) ws more
  adds_refl a = record { kept = a.kept; within = a.within }

  pub adds_sym : {g : NCo} {ws more : Words} → AddsCo own s k g ws more → AddsCo own s k (NGSym g) ws more
  adds_sym a = record { kept = a.kept; within = a.within }

  pub adds_nth : {i : ℕ} {g : NCo} {ws more : Words} → AddsCo own s k g ws more → AddsCo own s k (NGNth i g) ws more
  adds_nth a = record { kept = a.kept; within = a.within }

  pub adds_left : {g : NCo} {ws more : Words} → AddsCo own s k g ws more → AddsCo own s k (NGLeft g) ws more
  adds_left a = record { kept = a.kept; within = a.within }

  pub adds_right : {g : NCo} {ws more : Words} → AddsCo own s k g ws more → AddsCo own s k (NGRight g) ws more
  adds_right a = record { kept = a.kept; within = a.within }

  pub adds_sub : {g : NCo} {ws more : Words} → AddsCo own s k g ws more → AddsCo own s k (NGSub g) ws more
  adds_sub a = record { kept = a.kept; within = a.within }

  pub adds_trans : {g h : NCo} {ws mid more : Words} → AddsCo own s k g ws mid → AddsCo own s k h mid more →
      {n : NCo} → n ≡ NGTrans g h → AddsCo own s k n ws more
  adds_trans {ws = ws} {more = more} a b is = subst (λ (x : NCo). AddsCo own s k x ws more) (sym is) (record { kept = (later_co a b.within, b.kept); within = within_both _ _ _ a.within b.within })

  pub adds_capp : {g h : NCo} {ws mid more : Words} → AddsCo own s k g ws mid → AddsCo own s k h mid more →
      {n : NCo} → n ≡ NGCapp g h → AddsCo own s k n ws more
  adds_capp {ws = ws} {more = more} a b is = subst (λ (x : NCo). AddsCo own s k x ws more) (sym is) (record { kept = (later_co a b.within, b.kept); within = within_both _ _ _ a.within b.within })

  pub adds_funco : {g h : NCo} {ws mid more : Words} → AddsCo own s k g ws mid → AddsCo own s k h mid more →
      {n : NCo} → n ≡ NGFun g h → AddsCo own s k n ws more
  adds_funco {ws = ws} {more = more} a b is = subst (λ (x : NCo). AddsCo own s k x ws more) (sym is) (record { kept = (later_co a b.within, b.kept); within = within_both _ _ _ a.within b.within })

  pub adds_inst : {g h : NCo} {ws mid more : Words} → AddsCo own s k g ws mid → AddsCo own s k h mid more →
      {n : NCo} → n ≡ NGInst g h → AddsCo own s k n ws more
  adds_inst {ws = ws} {more = more} a b is = subst (λ (x : NCo). AddsCo own s k x ws more) (sym is) (record { kept = (later_co a b.within, b.kept); within = within_both _ _ _ a.within b.within })

  pub adds_tc : {r : Role} {x : Name} {gs : NCos} {ws more : Words} → AddsCos own s k gs ws more → {n : NCo} → n ≡ NGTc r x gs → AddsCo own s k n ws more
  adds_tc {ws = ws} {more = more} a is = subst (λ (x : NCo). AddsCo own s k x ws more) (sym is) (record { kept = (tt, a.kept); within = a.within })

  pub adds_axiom : {x : Name} {gs : NCos} {ws more : Words} → AddsCos own s k gs ws more → {n : NCo} → n ≡ NGAx x gs → AddsCo own s k n ws more
  adds_axiom {ws = ws} {more = more} a is = subst (λ (x : NCo). AddsCo own s k x ws more) (sym is) (record { kept = (tt, a.kept); within = a.within })

  pub adds_allco : {x : Kind} {g : NCo} {ws more : Words} → AddsCo own s (in_type k) g ws more → {n : NCo} → n ≡ NGAll x g → AddsCo own s k n ws more
  adds_allco {ws = ws} {more = more} a is = subst (λ (x : NCo). AddsCo own s k x ws more) (sym is) (record { kept = a.kept; within = a.within })

  pub adds_coallco : {r e : Role} {f g h : NCo} {ws mid far more : Words} → AddsCo own s k f ws mid → AddsCo own s k g mid far → AddsCo own s k h far more →
      {n : NCo} → n ≡ NGCoAll r e f g h → AddsCo own s k n ws more
  adds_coallco {ws = ws} {more = more} a b c is = subst (λ (x : NCo). AddsCo own s k x ws more) (sym is) (record { kept = (later_co a (within_both _ _ _ b.within c.within), later_co b c.within, c.kept); within = within_both _ _ _ a.within (within_both _ _ _ b.within c.within) })

  pub adds_univ : {t u : NTy} {ws mid more : Words} → AddsTy own s k t ws mid → AddsTy own s k u mid more →
      {n : NCo} → n ≡ NGUniv t u → AddsCo own s k n ws more
  adds_univ {ws = ws} {more = more} a b is = subst (λ (x : NCo). AddsCo own s k x ws more) (sym is) (record { kept = (later_ty a b.within, b.kept); within = within_both _ _ _ a.within b.within })

  -- BINDERS

  pub adds_value_binder : {t : NTy} {ws more : Words} → AddsTy own s k t ws more → AddsBinder own s k (NBValue t) ws more
  adds_value_binder a = record { kept = a.kept; within = a.within }

  pub adds_type_binder : {x : Kind} {ws : Words} → AddsBinder own s k (NBType x) ws ws
  adds_type_binder = record { kept = tt; within = within_same _ }

  pub adds_coercion_binder : {r : Role} {t u : NTy} {ws mid more : Words} → AddsTy own s k t ws mid → AddsTy own s k u mid more →
      {n : NBinder} → n ≡ NBCo r t u → AddsBinder own s k n ws more
  adds_coercion_binder {ws = ws} {more = more} a b is = subst (λ (x : NBinder). AddsBinder own s k x ws more) (sym is) (record { kept = (later_ty a b.within, b.kept); within = within_both _ _ _ a.within b.within })

  -- EXPRESSIONS

  pub adds_local : {i : ℕ} {ws : Words} {set : WordSet} → AddsAt (value_word s.terms) k.values i ws.terms set → AddsExpr own s k (NLocal i) ws (record ws { terms = set })
  adds_local a = record { kept = a.kept; within = record { terms = a.within; types = λ w h. h; coercions = λ w h. h } }

  pub adds_definition : {x : Name} {ws : Words} {set : WordSet} → AddsDefinition own x ws.terms set → AddsExpr own s k (NVar x) ws (record ws { terms = set })
  adds_definition a = record { kept = a.kept; within = record { terms = a.within; types = λ w h. h; coercions = λ w h. h } }

  pub adds_literal : {x : ℤ} {ws : Words} → AddsExpr own s k (NLit x) ws ws
  adds_literal = record { kept = tt; within = within_same _ }

  pub adds_application : {f : NExpr} {a : NArg} {ws mid more : Words} → AddsExpr own s k f ws mid → AddsArg own s k a mid more →
      {n : NExpr} → n ≡ NApp f a → AddsExpr own s k n ws more
  adds_application {ws = ws} {more = more} a b is = subst (λ (x : NExpr). AddsExpr own s k x ws more) (sym is) (record { kept = (later_expr a b.within, b.kept); within = within_both _ _ _ a.within b.within })

  pub adds_lambda : {b : NBinder} {e : NExpr} {ws mid more : Words} → AddsBinder own s k b ws mid → AddsExpr own s (in_binder b k) e mid more →
      {n : NExpr} → n ≡ NLam b e → AddsExpr own s k n ws more
  adds_lambda {ws = ws} {more = more} a b is = subst (λ (x : NExpr). AddsExpr own s k x ws more) (sym is) (record { kept = (later_binder a b.within, b.kept); within = within_both _ _ _ a.within b.within })

  pub adds_let : {r : Bool} {bs : NBinds} {e : NExpr} {ws mid more : Words} → AddsBinds own s (if r then in_group bs k else k) bs ws mid → AddsExpr own s (in_group bs k) e mid more →
      {n : NExpr} → n ≡ NLet r bs e → AddsExpr own s k n ws more
  adds_let {ws = ws} {more = more} a b is = subst (λ (x : NExpr). AddsExpr own s k x ws more) (sym is) (record { kept = (later_binds a b.within, b.kept); within = within_both _ _ _ a.within b.within })

  pub adds_case : {e : NExpr} {t u : NTy} {xs : NAlts} {ws mid far wide more : Words} → AddsExpr own s k e ws mid → AddsTy own s k t mid far → AddsTy own s k u far wide → AddsAlts own s (in_value k) xs wide more →
      {n : NExpr} → n ≡ NCase e t u xs → AddsExpr own s k n ws more
  adds_case {ws = ws} {more = more} a b c d is = subst (λ (x : NExpr). AddsExpr own s k x ws more) (sym is) (record { kept = (later_expr a (within_both _ _ _ b.within (within_both _ _ _ c.within d.within)), later_ty b (within_both _ _ _ c.within d.within), later_ty c d.within, d.kept); within = within_both _ _ _ a.within (within_both _ _ _ b.within (within_both _ _ _ c.within d.within)) })

  pub adds_cast : {e : NExpr} {g : NCo} {ws mid more : Words} → AddsExpr own s k e ws mid → AddsCo own s k g mid more →
      {n : NExpr} → n ≡ NCast e g → AddsExpr own s k n ws more
  adds_cast {ws = ws} {more = more} a b is = subst (λ (x : NExpr). AddsExpr own s k x ws more) (sym is) (record { kept = (later_expr a b.within, b.kept); within = within_both _ _ _ a.within b.within })

  pub adds_constructor : {x : Name} {xs : NArgs} {ws more : Words} → AddsArgs own s k xs ws more → {n : NExpr} → n ≡ NCon x xs → AddsExpr own s k n ws more
  adds_constructor {ws = ws} {more = more} a is = subst (λ (x : NExpr). AddsExpr own s k x ws more) (sym is) (record { kept = (tt, a.kept); within = a.within })

  pub adds_primitive : {op : PrimOp} {es : NExprs} {ws more : Words} → AddsExprs own s k es ws more → {n : NExpr} → n ≡ NPrim op es → AddsExpr own s k n ws more
  adds_primitive {ws = ws} {more = more} a is = subst (λ (x : NExpr). AddsExpr own s k x ws more) (sym is) (record { kept = a.kept; within = a.within })

  pub adds_fail : {t : NTy} {ws more : Words} → AddsTy own s k t ws more → AddsExpr own s k (NFail t) ws more
  adds_fail a = record { kept = a.kept; within = a.within }

  pub adds_join : {r : Bool} {t : NTy} {js : NJoins} {e : NExpr} {ws mid far more : Words} → AddsTy own s k t ws mid → AddsJoins own s (if r then in_joins js k else k) js mid far → AddsExpr own s (in_joins js k) e far more →
      {n : NExpr} → n ≡ NJoin r t js e → AddsExpr own s k n ws more
  adds_join {ws = ws} {more = more} a b c is = subst (λ (x : NExpr). AddsExpr own s k x ws more) (sym is) (record { kept = (later_ty a (within_both _ _ _ b.within c.within), later_joins b c.within, c.kept); within = within_both _ _ _ a.within (within_both _ _ _ b.within c.within) })

  pub adds_jump : {i : ℕ} {xs : NArgs} {ws mid more : Words} → AddsAt (join_word s.terms) k.joins i ws.terms mid.terms → mid ≡ record ws { terms = mid.terms } → AddsArgs own s k xs mid more →
      {n : NExpr} → n ≡ NJump i xs → AddsExpr own s k n ws more
  adds_jump {i = i} {ws = ws} {mid = mid} {more = more} a same b is = subst (λ (x : NExpr). AddsExpr own s k x ws more) (sym is) (record {
    kept = (beyond_both _ _ _ (λ j p q w at. b.within.terms w (p w at)) k.joins i a.kept a.kept, b.kept);
    within = within_both ws mid more (subst (λ (m : Words). AreWithin ws m) (sym same) (record { types = λ w h. h; terms = a.within; coercions = λ w h. h })) b.within;
  })

  pub adds_term : {e : NExpr} {ws more : Words} → AddsExpr own s k e ws more → AddsArg own s k (NATerm e) ws more
  adds_term a = record { kept = a.kept; within = a.within }

  pub adds_type : {t : NTy} {ws more : Words} → AddsTy own s k t ws more → AddsArg own s k (NAType t) ws more
  adds_type a = record { kept = a.kept; within = a.within }

  pub adds_coercion : {g : NCo} {ws more : Words} → AddsCo own s k g ws more → AddsArg own s k (NACo g) ws more
  adds_coercion a = record { kept = a.kept; within = a.within }

  pub adds_bound : {t : NTy} {e : NExpr} {ws mid more : Words} → AddsTy own s k t ws mid → AddsExpr own s k e mid more →
      {n : NBind} → n ≡ NBound t e → AddsBind own s k n ws more
  adds_bound {ws = ws} {more = more} a b is = subst (λ (x : NBind). AddsBind own s k x ws more) (sym is) (record { kept = (later_ty a b.within, b.kept); within = within_both _ _ _ a.within b.within })

  pub adds_joined : {bs : List NBinder} {e : NExpr} {ws mid more : Words} → AddsBinders own s k bs ws mid → AddsExpr own s (in_binders bs k) e mid more →
      {n : NJoinBind} → n ≡ NJoined bs e → AddsJoin own s k n ws more
  adds_joined {ws = ws} {more = more} a b is = subst (λ (x : NJoinBind). AddsJoin own s k x ws more) (sym is) (record { kept = (later_binders a b.within, b.kept); within = within_both _ _ _ a.within b.within })

  pub adds_branch : {h : Head} {bs : List NBinder} {e : NExpr} {ws mid more : Words} → AddsBinders own s k bs ws mid → AddsExpr own s (in_binders bs k) e mid more →
      {n : NAlt} → n ≡ NBranch h bs e → AddsAlt own s k n ws more
  adds_branch {h = h} {ws = ws} {more = more} a b is = subst (λ (x : NAlt). AddsAlt own s k x ws more) (sym is) (record { kept = (head_uses own s more h, later_binders a b.within, b.kept); within = within_both _ _ _ a.within b.within })

  -- LISTS

  pub adds_cos : (items : List (G.Co ℕ)) (i : ℕ) (x : G.Co ℕ) (ws mid more : Words) → i < length items → x ≡ get_or items i x → AddsCos own s k (ncos_of (take i items)) ws mid
      → AddsCo own s k (nco_of x) mid more → AddsCos own s k (ncos_of (take (i + 1) items)) ws more
  adds_cos items i x ws mid more low is a b = record {
    kept = subst (λ (l : List (G.Co ℕ)). HoldsCos (is_kept own more s) k (ncos_of l)) (sym (take_item items i x low is)) (cos_end (is_kept own more s) k (take i items) x (later_cos a b.within) b.kept);
    within = within_both _ _ _ a.within b.within;
  }

  pub adds_args : (items : List (A.Arg ℕ Ref)) (i : ℕ) (x : A.Arg ℕ Ref) (ws mid more : Words) → i < length items → x ≡ get_or items i x → AddsArgs own s k (nargs_of (take i items)) ws mid
      → AddsArg own s k (narg_of x) mid more → AddsArgs own s k (nargs_of (take (i + 1) items)) ws more
  adds_args items i x ws mid more low is a b = record {
    kept = subst (λ (l : List (A.Arg ℕ Ref)). HoldsArgs (is_kept own more s) k (nargs_of l)) (sym (take_item items i x low is)) (args_end (is_kept own more s) k (take i items) x (later_args a b.within) b.kept);
    within = within_both _ _ _ a.within b.within;
  }

  pub adds_exprs : (items : List (E.Expr ℕ Ref)) (i : ℕ) (x : E.Expr ℕ Ref) (ws mid more : Words) → i < length items → x ≡ get_or items i x → AddsExprs own s k (nexprs_of (take i items)) ws mid
      → AddsExpr own s k (nexpr_of x) mid more → AddsExprs own s k (nexprs_of (take (i + 1) items)) ws more
  adds_exprs items i x ws mid more low is a b = record {
    kept = subst (λ (l : List (E.Expr ℕ Ref)). HoldsExprs (is_kept own more s) k (nexprs_of l)) (sym (take_item items i x low is)) (exprs_end (is_kept own more s) k (take i items) x (later_exprs a b.within) b.kept);
    within = within_both _ _ _ a.within b.within;
  }

  pub adds_binds : (items : List (RustBind.Bind ℕ Ref)) (i : ℕ) (x : RustBind.Bind ℕ Ref) (ws mid more : Words) → i < length items → x ≡ get_or items i x → AddsBinds own s k (nbinds_of (take i items)) ws mid
      → AddsBind own s k (nbind_of x) mid more → AddsBinds own s k (nbinds_of (take (i + 1) items)) ws more
  adds_binds items i x ws mid more low is a b = record {
    kept = subst (λ (l : List (RustBind.Bind ℕ Ref)). HoldsBinds (is_kept own more s) k (nbinds_of l)) (sym (take_item items i x low is)) (binds_end (is_kept own more s) k (take i items) x (later_binds a b.within) b.kept);
    within = within_both _ _ _ a.within b.within;
  }

  pub adds_joins : (items : List (RustJoin.JoinBind ℕ Ref)) (i : ℕ) (x : RustJoin.JoinBind ℕ Ref) (ws mid more : Words) → i < length items → x ≡ get_or items i x → AddsJoins own s k (njoins_of (take i items)) ws mid
      → AddsJoin own s k (njoin_of x) mid more → AddsJoins own s k (njoins_of (take (i + 1) items)) ws more
  adds_joins items i x ws mid more low is a b = record {
    kept = subst (λ (l : List (RustJoin.JoinBind ℕ Ref)). HoldsJoins (is_kept own more s) k (njoins_of l)) (sym (take_item items i x low is)) (joins_end (is_kept own more s) k (take i items) x (later_joins a b.within) b.kept);
    within = within_both _ _ _ a.within b.within;
  }

  pub adds_alts : (items : List (RustAlt.Alt ℕ Ref)) (i : ℕ) (x : RustAlt.Alt ℕ Ref) (ws mid more : Words) → i < length items → x ≡ get_or items i x → AddsAlts own s k (nalts_of (take i items)) ws mid
      → AddsAlt own s k (nalt_of x) mid more → AddsAlts own s k (nalts_of (take (i + 1) items)) ws more
  adds_alts items i x ws mid more low is a b = record {
    kept = subst (λ (l : List (RustAlt.Alt ℕ Ref)). HoldsAlts (is_kept own more s) k (nalts_of l)) (sym (take_item items i x low is)) (alts_end (is_kept own more s) k (take i items) x (later_alts a b.within) b.kept);
    within = within_both _ _ _ a.within b.within;
  }

-- TYPES, WHICH MAY STAND BELOW BINDERS

tys_end : (P : Saying) (k : Counts) (items : List (T.Ty ℕ)) (x : T.Ty ℕ) → HoldsTys P k (ntys_of items) → HoldsTy P k (nty_of x) → HoldsTys P k (ntys_of (items ++ x ∷ []))
tys_end P k [] x h g = (g, tt)
tys_end P k (y ∷ items) x h g = (h.0, tys_end P k items x h.1 g)

pub adds_tys : (own : Word) (s : Locals) (k : Counts) (items : List (T.Ty ℕ)) (i : ℕ) (x : T.Ty ℕ) (ws mid more : Words) → i < length items → x ≡ get_or items i x
    → AddsTys own s k (ntys_of (take i items)) ws mid → AddsTy own s k (nty_of x) mid more → AddsTys own s k (ntys_of (take (i + 1) items)) ws more
adds_tys own s k items i x ws mid more low is a b = record {
  kept = subst (λ (l : List (T.Ty ℕ)). HoldsTys (is_kept own more s) k (ntys_of l)) (sym (take_item items i x low is))
      (tys_end (is_kept own more s) k (take i items) x (later_tys a b.within) b.kept);
  within = within_both _ _ _ a.within b.within;
}

-- BINDERS, EACH BELOW THOSE BEFORE IT

in_binders_end : (items : List (RustBinder.Binder ℕ)) (x : RustBinder.Binder ℕ) (k : Counts) → in_binders (nbinders_of (items ++ x ∷ [])) k ≡ in_binder (nbinder_of x) (in_binders (nbinders_of items) k)
in_binders_end [] x k = refl
in_binders_end (y ∷ items) x k = in_binders_end items x (in_binder (nbinder_of y) k)

pub in_binders_step : (items : List (RustBinder.Binder ℕ)) (i : ℕ) (x : RustBinder.Binder ℕ) (k l m : Counts) → i < length items → x ≡ get_or items i x → l ≡ in_binders (nbinders_of (take i items)) k
    → m ≡ in_binder (nbinder_of x) l → m ≡ in_binders (nbinders_of (take (i + 1) items)) k
in_binders_step items i x k l m low is so_far next =
    next ∙ ap (in_binder (nbinder_of x)) so_far ∙ sym (in_binders_end (take i items) x k) ∙ ap (λ z. in_binders (nbinders_of z) k) (sym (take_item items i x low is))

in_group_end : (items : List (RustBind.Bind ℕ Ref)) (x : RustBind.Bind ℕ Ref) (k : Counts) → in_group (nbinds_of (items ++ x ∷ [])) k ≡ in_value (in_group (nbinds_of items) k)
in_group_end [] x k = refl
in_group_end (y ∷ items) x k = in_group_end items x (in_value k)

pub in_group_step : (items : List (RustBind.Bind ℕ Ref)) (i : ℕ) (x : RustBind.Bind ℕ Ref) (k l m : Counts) → i < length items → x ≡ get_or items i x → l ≡ in_group (nbinds_of (take i items)) k
    → m ≡ in_value l → m ≡ in_group (nbinds_of (take (i + 1) items)) k
in_group_step items i x k l m low is so_far next =
    next ∙ ap in_value so_far ∙ sym (in_group_end (take i items) x k) ∙ ap (λ z. in_group (nbinds_of z) k) (sym (take_item items i x low is))

in_joins_end : (items : List (RustJoin.JoinBind ℕ Ref)) (x : RustJoin.JoinBind ℕ Ref) (k : Counts) → in_joins (njoins_of (items ++ x ∷ [])) k ≡ in_join (in_joins (njoins_of items) k)
in_joins_end [] x k = refl
in_joins_end (y ∷ items) x k = in_joins_end items x (in_join k)

pub in_joins_step : (items : List (RustJoin.JoinBind ℕ Ref)) (i : ℕ) (x : RustJoin.JoinBind ℕ Ref) (k l m : Counts) → i < length items → x ≡ get_or items i x → l ≡ in_joins (njoins_of (take i items)) k
    → m ≡ in_join l → m ≡ in_joins (njoins_of (take (i + 1) items)) k
in_joins_step items i x k l m low is so_far next =
    next ∙ ap in_join so_far ∙ sym (in_joins_end (take i items) x k) ∙ ap (λ z. in_joins (njoins_of z) k) (sym (take_item items i x low is))

binders_end : (P : Saying) (k : Counts) (items : List (RustBinder.Binder ℕ)) (x : RustBinder.Binder ℕ) → HoldsBinders P k (nbinders_of items)
    → HoldsBinder P (in_binders (nbinders_of items) k) (nbinder_of x) → HoldsBinders P k (nbinders_of (items ++ x ∷ []))
binders_end P k [] x h g = (g, tt)
binders_end P k (y ∷ items) x h g = (h.0, binders_end P (in_binder (nbinder_of y) k) items x h.1 g)

pub adds_binders : (own : Word) (s : Locals) (k l : Counts) (items : List (RustBinder.Binder ℕ)) (i : ℕ) (x : RustBinder.Binder ℕ) (ws mid more : Words) → i < length items → x ≡ get_or items i x
    → l ≡ in_binders (nbinders_of (take i items)) k → AddsBinders own s k (nbinders_of (take i items)) ws mid → AddsBinder own s l (nbinder_of x) mid more
    → AddsBinders own s k (nbinders_of (take (i + 1) items)) ws more
adds_binders own s k l items i x ws mid more low is counted a b = record {
  kept = subst (λ (z : List (RustBinder.Binder ℕ)). HoldsBinders (is_kept own more s) k (nbinders_of z)) (sym (take_item items i x low is))
      (binders_end (is_kept own more s) k (take i items) x (later_binders a b.within) (subst (λ (m : Counts). HoldsBinder (is_kept own more s) m (nbinder_of x)) counted b.kept));
  within = within_both _ _ _ a.within b.within;
}

pub ruleset type_adds = (adds_type_variable, adds_type_name, adds_int, adds_forall)

pub ruleset coercion_adds = (adds_coercion_variable, adds_refl, adds_sym, adds_nth, adds_left, adds_right, adds_sub)

pub ruleset binder_adds = (adds_value_binder, adds_type_binder)

pub ruleset expression_adds = (adds_local, adds_definition, adds_literal, adds_fail, adds_term, adds_type, adds_coercion)
