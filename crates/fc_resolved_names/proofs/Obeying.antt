-- Every name of what resolves obeys what is said of the words in scope and of the names of declarations.
use Rattle.std.proofs.Common.{◌≡◌, ℕ, zero, suc, ◌+◌, Bool, true, false, if◌then◌else◌, List, ◌∷◌, Option, Some, None, option_map, Ok, bytes_eq, refl, sym, ap, subst, arith}
use Rattle.fc_syntax.specs.declared.ty.Name.{Name}
use Rattle.fc_syntax.specs.declared.expr.Head.{Head}
use Rattle.fc_syntax.specs.Tree.{Word, Ty, Co, Cos, Binder, Arg, Args, Expr, Exprs, Binds, Joins, Alts}
use Rattle.fc_model.specs.Nameless.{NTy, NCo, NCos, NBinder, NArg, NArgs, NExpr, NExprs, NBinds, NJoins, NAlts}
use Rattle.fc_model.specs.Resolution.{Found, IsJoin, IsValue, Join, Locals, Nowhere, Top, Value, WordSet, Words, bind_words, declared_name, enter, enter_all, enter_joins, enter_values}
use Rattle.fc_model.specs.Resolution.{found_term, index_of, join_words, past_join, past_value, with_coercion, with_term, with_type}
use Rattle.fc_model.specs.ResolutionRules.{ResolvesTy, resolves_type_variable, resolves_type_name, resolves_int, resolves_type_application, resolves_function, resolves_forall, resolves_coforall}
use Rattle.fc_model.specs.ResolutionRules.{ResolvesCo, resolves_coercion_variable, resolves_refl, resolves_sym, resolves_trans, resolves_tc, resolves_capp, resolves_funco, resolves_allco}
use Rattle.fc_model.specs.ResolutionRules.{resolves_coallco, resolves_inst, resolves_nth, resolves_left, resolves_right, resolves_sub, resolves_axiom, resolves_univ}
use Rattle.fc_model.specs.ResolutionRules.{ResolvesCos, resolves_no_coercions, resolves_coercions}
use Rattle.fc_model.specs.ResolutionRules.{ResolvesBinder, resolves_value_binder, resolves_type_binder, resolves_coercion_binder, ResolvesBinders, resolves_no_binders, resolves_binders}
use Rattle.fc_model.specs.ResolutionRules.{ResolvesHead, resolves_default, resolves_literal_head, resolves_constructor_head}
use Rattle.fc_model.specs.ResolutionRules.{ResolvesExpr, resolves_local, resolves_definition, resolves_imported, resolves_literal, resolves_application, resolves_lambda, resolves_let}
use Rattle.fc_model.specs.ResolutionRules.{resolves_case, resolves_cast, resolves_constructor, resolves_primitive, resolves_fail, resolves_join, resolves_jump}
use Rattle.fc_model.specs.ResolutionRules.{ResolvesArg, resolves_term, resolves_type, resolves_coercion, ResolvesArgs, resolves_no_args, resolves_args, ResolvesExprs, resolves_no_exprs, resolves_exprs}
use Rattle.fc_model.specs.ResolutionRules.{ResolvesBinds, resolves_no_binds, resolves_binds, ResolvesJoins, resolves_no_joins, resolves_joins, ResolvesAlts, resolves_no_alts, resolves_alts}
use Rattle.fc_used_words.specs.Scoped.{Counts, Saying, in_binder, in_binders, in_coercion, in_group, in_join, in_joins, in_type, in_value}
use Rattle.fc_used_words.specs.Scoped.{HoldsAlts, HoldsArg, HoldsArgs, HoldsBinder, HoldsBinders, HoldsBinds, HoldsCo, HoldsCos, HoldsExpr, HoldsExprs, HoldsHead, HoldsJoins, HoldsTy}

-- SAYINGS

-- what is said of the innermost variable always holds, and of a variable one binder further in what is said of it here
pub record Goes (P : Saying) : Type 0 where
  pub type_here : (k : ℕ) → P.type_at (suc k) zero
  pub type_past : (k i : ℕ) → P.type_at k i → P.type_at (suc k) (suc i)
  pub type_back : (k i : ℕ) → P.type_at (suc k) (suc i) → P.type_at k i
  pub value_here : (k : ℕ) → P.value_at (suc k) zero
  pub value_past : (k i : ℕ) → P.value_at k i → P.value_at (suc k) (suc i)
  pub value_back : (k i : ℕ) → P.value_at (suc k) (suc i) → P.value_at k i
  pub join_here : (k : ℕ) → P.join_at (suc k) zero
  pub join_past : (k i : ℕ) → P.join_at k i → P.join_at (suc k) (suc i)
  pub join_back : (k i : ℕ) → P.join_at (suc k) (suc i) → P.join_at k i
  pub coercion_here : (k : ℕ) → P.coercion_at (suc k) zero
  pub coercion_past : (k i : ℕ) → P.coercion_at k i → P.coercion_at (suc k) (suc i)
  pub coercion_back : (k i : ℕ) → P.coercion_at (suc k) (suc i) → P.coercion_at k i

-- what holds of every variable does so everywhere
pub goes_everywhere : (P : Saying) → ((k i : ℕ) → P.type_at k i) → ((k i : ℕ) → P.value_at k i) → ((k i : ℕ) → P.join_at k i) → ((k i : ℕ) → P.coercion_at k i) → Goes P
goes_everywhere P types values joins coercions = record {
  type_here = λ k. types (suc k) zero;
  type_past = λ k i h. types (suc k) (suc i);
  type_back = λ k i h. types k i;
  value_here = λ k. values (suc k) zero;
  value_past = λ k i h. values (suc k) (suc i);
  value_back = λ k i h. values k i;
  join_here = λ k. joins (suc k) zero;
  join_past = λ k i h. joins (suc k) (suc i);
  join_back = λ k i h. joins k i;
  coercion_here = λ k. coercions (suc k) zero;
  coercion_past = λ k i h. coercions (suc k) (suc i);
  coercion_back = λ k i h. coercions k i;
}

-- LOOKING A WORD UP

pub some_some : {X : Type 0} (x y : X) → Some x ≡ Some y → x ≡ y
some_some x y h = cc

pub one_more : (o : Option ℕ) (i : ℕ) → option_map (λ j. j + 1) o ≡ Some i → (j : ℕ) × (o ≡ Some j) × (suc j ≡ i)
one_more (Some j) i h = (j, refl, omega (arith, some_some (j + 1) i h))
one_more None i h = absurd cc

-- what is said of the innermost word and of the others is said of the one that is found
pub found_below : (Q : ℕ → Type 0) (v w : Word) (vs : List Word) (i : ℕ) → Q zero → ((j : ℕ) → index_of vs w ≡ Some j → Q (suc j)) → index_of (v ∷ vs) w ≡ Some i → Q i
found_below Q v w vs i here past = by (bytes_eq v w)
  where
    by : (b : Bool) → (if b then Some 0 else option_map (λ j. j + 1) (index_of vs w)) ≡ Some i → Q i
    by true h = subst Q (some_some 0 i h) here
    by false h = let p = one_more (index_of vs w) i h in subst Q p.2 (past p.0 p.1)

pub value_value : (i j : ℕ) → IsValue i ≡ IsValue j → i ≡ j
value_value i j h = cc

pub join_join : (i j : ℕ) → IsJoin i ≡ IsJoin j → i ≡ j
join_join i j h = cc

pub value_past_value : (f : Found) (i : ℕ) → past_value f ≡ IsValue i → (j : ℕ) × (f ≡ IsValue j) × (suc j ≡ i)
value_past_value (IsValue j) i h = (j, refl, omega (arith, value_value (j + 1) i h))
value_past_value (IsJoin j) i h = absurd cc
value_past_value Nowhere i h = absurd cc

pub join_past_value : (f : Found) (i : ℕ) → past_value f ≡ IsJoin i → f ≡ IsJoin i
join_past_value (IsValue j) i h = absurd cc
join_past_value (IsJoin j) i h = h
join_past_value Nowhere i h = absurd cc

nowhere_past_value : (f : Found) → past_value f ≡ Nowhere → f ≡ Nowhere
nowhere_past_value (IsValue j) h = absurd cc
nowhere_past_value (IsJoin j) h = absurd cc
nowhere_past_value Nowhere h = refl

pub value_past_join : (f : Found) (i : ℕ) → past_join f ≡ IsValue i → f ≡ IsValue i
value_past_join (IsValue j) i h = h
value_past_join (IsJoin j) i h = absurd cc
value_past_join Nowhere i h = absurd cc

pub join_past_join : (f : Found) (i : ℕ) → past_join f ≡ IsJoin i → (j : ℕ) × (f ≡ IsJoin j) × (suc j ≡ i)
join_past_join (IsValue j) i h = absurd cc
join_past_join (IsJoin j) i h = (j, refl, omega (arith, join_join (j + 1) i h))
join_past_join Nowhere i h = absurd cc

nowhere_past_join : (f : Found) → past_join f ≡ Nowhere → f ≡ Nowhere
nowhere_past_join (IsValue j) h = absurd cc
nowhere_past_join (IsJoin j) h = absurd cc
nowhere_past_join Nowhere h = refl

-- THE WORDS IN SCOPE

-- what each word reaches obeys what is said, below so many binders
pub record Reaches (top : Top) (P : Saying) (s : Locals) (k : Counts) : Type 0 where
  pub types : (w : Word) (i : ℕ) → index_of s.types w ≡ Some i → P.type_at k.types i
  pub values : (w : Word) (i : ℕ) → found_term s.terms w ≡ IsValue i → P.value_at k.values i
  pub joins : (w : Word) (i : ℕ) → found_term s.terms w ≡ IsJoin i → P.join_at k.joins i
  pub coercions : (w : Word) (i : ℕ) → index_of s.coercions w ≡ Some i → P.coercion_at k.coercions i
  pub definitions : (w : Word) (m : Name) → found_term s.terms w ≡ Nowhere → declared_name top top.terms top.offers.terms None w ≡ Ok m → P.definition m

-- so do the names of declarations
pub record AreSaid (top : Top) (P : Saying) : Type 0 where
  pub type_name : (n m : Name) → declared_name top top.types top.offers.types n.module n.text ≡ Ok m → P.type_name m
  pub axiom_name : (n m : Name) → declared_name top top.coercions top.offers.coercions n.module n.text ≡ Ok m → P.axiom_name m
  pub constructor : (n m : Name) → declared_name top top.terms top.offers.terms n.module n.text ≡ Ok m → P.constructor m
  pub imported : (v w : Word) (m : Name) → declared_name top top.terms top.offers.terms (Some v) w ≡ Ok m → P.definition m

module _ {top : Top} {P : Saying} (goes : Goes P) (said : AreSaid top P) where
  abbrev Reach : Locals → Counts → Type 0
  Reach s k = Reaches top P s k

  -- BELOW BINDERS

  pub in_a_type : (v : Word) (s : Locals) (k : Counts) → Reach s k → Reach (with_type v s) (in_type k)
  in_a_type v s k r = record {
    types = λ w i h. found_below (λ j. P.type_at (suc k.types) j) v w s.types i (goes.type_here k.types) (λ j g. goes.type_past k.types j (r.types w j g)) h;
    values = r.values;
    joins = r.joins;
    coercions = r.coercions;
    definitions = r.definitions;
  }

  pub in_a_coercion : (v : Word) (s : Locals) (k : Counts) → Reach s k → Reach (with_coercion v s) (in_coercion k)
  in_a_coercion v s k r = record {
    types = r.types;
    values = r.values;
    joins = r.joins;
    coercions = λ w i h. found_below (λ j. P.coercion_at (suc k.coercions) j) v w s.coercions i (goes.coercion_here k.coercions) (λ j g. goes.coercion_past k.coercions j (r.coercions w j g)) h;
    definitions = r.definitions;
  }

  pub in_a_value : (v : Word) (s : Locals) (k : Counts) → Reach s k → Reach (with_term (Value v) s) (in_value k)
  in_a_value v s k r = record {
    types = r.types;
    values = λ w i. value w i (bytes_eq v w);
    joins = λ w i. join w i (bytes_eq v w);
    coercions = r.coercions;
    definitions = λ w m. nowhere w m (bytes_eq v w);
  }
    where
      value : (w : Word) (i : ℕ) (b : Bool) → (if b then IsValue 0 else past_value (found_term s.terms w)) ≡ IsValue i → P.value_at (suc k.values) i
      value w i true h = subst (λ j. P.value_at (suc k.values) j) (value_value 0 i h) (goes.value_here k.values)
      value w i false h =
          let p = value_past_value (found_term s.terms w) i h in
          subst (λ j. P.value_at (suc k.values) j) p.2 (goes.value_past k.values p.0 (r.values w p.0 p.1))

      join : (w : Word) (i : ℕ) (b : Bool) → (if b then IsValue 0 else past_value (found_term s.terms w)) ≡ IsJoin i → P.join_at k.joins i
      join w i true h = absurd cc
      join w i false h = r.joins w i (join_past_value (found_term s.terms w) i h)

      nowhere : (w : Word) (m : Name) (b : Bool) → (if b then IsValue 0 else past_value (found_term s.terms w)) ≡ Nowhere → declared_name top top.terms top.offers.terms None w ≡ Ok m
          → P.definition m
      nowhere w m true h = absurd cc
      nowhere w m false h = r.definitions w m (nowhere_past_value (found_term s.terms w) h)

  in_a_join : (v : Word) (s : Locals) (k : Counts) → Reach s k → Reach (with_term (Join v) s) (in_join k)
  in_a_join v s k r = record {
    types = r.types;
    values = λ w i. value w i (bytes_eq v w);
    joins = λ w i. join w i (bytes_eq v w);
    coercions = r.coercions;
    definitions = λ w m. nowhere w m (bytes_eq v w);
  }
    where
      value : (w : Word) (i : ℕ) (b : Bool) → (if b then IsJoin 0 else past_join (found_term s.terms w)) ≡ IsValue i → P.value_at k.values i
      value w i true h = absurd cc
      value w i false h = r.values w i (value_past_join (found_term s.terms w) i h)

      join : (w : Word) (i : ℕ) (b : Bool) → (if b then IsJoin 0 else past_join (found_term s.terms w)) ≡ IsJoin i → P.join_at (suc k.joins) i
      join w i true h = subst (λ j. P.join_at (suc k.joins) j) (join_join 0 i h) (goes.join_here k.joins)
      join w i false h =
          let p = join_past_join (found_term s.terms w) i h in
          subst (λ j. P.join_at (suc k.joins) j) p.2 (goes.join_past k.joins p.0 (r.joins w p.0 p.1))

      nowhere : (w : Word) (m : Name) (b : Bool) → (if b then IsJoin 0 else past_join (found_term s.terms w)) ≡ Nowhere → declared_name top top.terms top.offers.terms None w ≡ Ok m
          → P.definition m
      nowhere w m true h = absurd cc
      nowhere w m false h = r.definitions w m (nowhere_past_join (found_term s.terms w) h)

  pub in_a_binder : {s : Locals} {b : Binder} {c : NBinder} → ResolvesBinder top s b c → (k : Counts) → Reach s k → Reach (enter b s) (in_binder c k)
  in_a_binder {s = s} (resolves_value_binder {x = x} t) k r = in_a_value x s k r
  in_a_binder {s = s} (resolves_type_binder {a = a}) k r = in_a_type a s k r
  in_a_binder {s = s} (resolves_coercion_binder {c = c} t u) k r = in_a_coercion c s k r

  pub in_all_binders : {s : Locals} {ws : Words} {bs : List Binder} {cs : List NBinder} → ResolvesBinders top s ws bs cs → (k : Counts) → Reach s k → Reach (enter_all bs s) (in_binders cs k)
  in_all_binders resolves_no_binders k r = r
  in_all_binders (resolves_binders {c = c} new b bs) k r = in_all_binders bs (in_binder c k) (in_a_binder b k r)

  in_a_group : {s : Locals} {earlier : WordSet} {bs : Binds} {cs : NBinds} → ResolvesBinds top s earlier bs cs → (t : Locals) (k : Counts) → Reach t k
      → Reach (enter_values (bind_words bs) t) (in_group cs k)
  in_a_group resolves_no_binds t k r = r
  in_a_group (resolves_binds {x = x} new u e bs) t k r = in_a_group bs (with_term (Value x) t) (in_value k) (in_a_value x t k r)

  in_all_joins : {s : Locals} {earlier : WordSet} {js : Joins} {ks : NJoins} → ResolvesJoins top s earlier js ks → (t : Locals) (k : Counts) → Reach t k
      → Reach (enter_joins (join_words js) t) (in_joins ks k)
  in_all_joins resolves_no_joins t k r = r
  in_all_joins (resolves_joins {j = j} new ps e js) t k r = in_all_joins js (with_term (Join j) t) (in_join k) (in_a_join j t k r)

  in_either : (o : Bool) (s t : Locals) (k l : Counts) → Reach s k → Reach t l → Reach (if o then t else s) (if o then l else k)
  in_either true s t k l r q = q
  in_either false s t k l r q = r

  -- WHAT RESOLVES

  pub ty_obeys : {ts : List Word} {t : Ty} {a : NTy} → ResolvesTy top ts t a → (s : Locals) (k : Counts) → s.types ≡ ts → Reach s k → HoldsTy P k a
  ty_obeys (resolves_type_variable {a = a} {i = i} h) s k same r = r.types a i (subst (λ (vs : List Word). index_of vs a ≡ Some i) (sym same) h)
  ty_obeys (resolves_type_name {n = n} {m = m} h) s k same r = said.type_name n m h
  ty_obeys resolves_int s k same r = tt
  ty_obeys (resolves_type_application t u) s k same r = (ty_obeys t s k same r, ty_obeys u s k same r)
  ty_obeys (resolves_function t u) s k same r = (ty_obeys t s k same r, ty_obeys u s k same r)
  ty_obeys (resolves_forall {a = a} t) s k same r = ty_obeys t (with_type a s) (in_type k) (ap (λ (vs : List Word). a ∷ vs) same) (in_a_type a s k r)
  ty_obeys (resolves_coforall t u v) s k same r = (ty_obeys t s k same r, ty_obeys u s k same r, ty_obeys v s k same r)

  mutual
    pub co_obeys : {s : Locals} {g : Co} {a : NCo} → ResolvesCo top s g a → (k : Counts) → Reach s k → HoldsCo P k a
    co_obeys (resolves_coercion_variable {c = c} {i = i} h) k r = r.coercions c i h
    co_obeys {s = s} (resolves_refl t) k r = ty_obeys t s k refl r
    co_obeys (resolves_sym g) k r = co_obeys g k r
    co_obeys (resolves_trans g h) k r = (co_obeys g k r, co_obeys h k r)
    co_obeys (resolves_tc {n = n} {m = m} h gs) k r = (said.type_name n m h, cos_obey gs k r)
    co_obeys (resolves_capp g h) k r = (co_obeys g k r, co_obeys h k r)
    co_obeys (resolves_funco g h) k r = (co_obeys g k r, co_obeys h k r)
    co_obeys {s = s} (resolves_allco {a = a} g) k r = co_obeys g (in_type k) (in_a_type a s k r)
    co_obeys (resolves_coallco f g h) k r = (co_obeys f k r, co_obeys g k r, co_obeys h k r)
    co_obeys (resolves_inst g h) k r = (co_obeys g k r, co_obeys h k r)
    co_obeys (resolves_nth g) k r = co_obeys g k r
    co_obeys (resolves_left g) k r = co_obeys g k r
    co_obeys (resolves_right g) k r = co_obeys g k r
    co_obeys (resolves_sub g) k r = co_obeys g k r
    co_obeys (resolves_axiom {n = n} {m = m} h gs) k r = (said.axiom_name n m h, cos_obey gs k r)
    co_obeys {s = s} (resolves_univ t u) k r = (ty_obeys t s k refl r, ty_obeys u s k refl r)

    cos_obey : {s : Locals} {gs : Cos} {xs : NCos} → ResolvesCos top s gs xs → (k : Counts) → Reach s k → HoldsCos P k xs
    cos_obey resolves_no_coercions k r = tt
    cos_obey (resolves_coercions g gs) k r = (co_obeys g k r, cos_obey gs k r)

  pub binder_obeys : {s : Locals} {b : Binder} {c : NBinder} → ResolvesBinder top s b c → (k : Counts) → Reach s k → HoldsBinder P k c
  binder_obeys {s = s} (resolves_value_binder t) k r = ty_obeys t s k refl r
  binder_obeys resolves_type_binder k r = tt
  binder_obeys {s = s} (resolves_coercion_binder t u) k r = (ty_obeys t s k refl r, ty_obeys u s k refl r)

  pub binders_obey : {s : Locals} {ws : Words} {bs : List Binder} {cs : List NBinder} → ResolvesBinders top s ws bs cs → (k : Counts) → Reach s k → HoldsBinders P k cs
  binders_obey resolves_no_binders k r = tt
  binders_obey (resolves_binders {c = c} new b bs) k r = (binder_obeys b k r, binders_obey bs (in_binder c k) (in_a_binder b k r))

  pub head_obeys : {h x : Head} → ResolvesHead top h x → HoldsHead P x
  head_obeys resolves_default = tt
  head_obeys resolves_literal_head = tt
  head_obeys (resolves_constructor_head {n = n} {m = m} h) = said.constructor n m h

  mutual
    pub expr_obeys : {s : Locals} {e : Expr} {f : NExpr} → ResolvesExpr top s e f → (k : Counts) → Reach s k → HoldsExpr P k f
    expr_obeys (resolves_local {n = n} {i = i} none h) k r = r.values n.text i h
    expr_obeys (resolves_definition {n = n} {m = m} none nowhere h) k r = r.definitions n.text m nowhere h
    expr_obeys (resolves_imported {n = n} {m = m} w some h) k r = said.imported w n.text m h
    expr_obeys resolves_literal k r = tt
    expr_obeys (resolves_application f a) k r = (expr_obeys f k r, arg_obeys a k r)
    expr_obeys (resolves_lambda {c = c} b e) k r = (binder_obeys b k r, expr_obeys e (in_binder c k) (in_a_binder b k r))
    expr_obeys {s = s} (resolves_let {r = o} {bs = bs} {cs = cs} group e) k r =
        let q = in_a_group group s k r in
        (binds_obey group (if o then in_group cs k else k) (in_either o s (enter_values (bind_words bs) s) k (in_group cs k) r q), expr_obeys e (in_group cs k) q)
    expr_obeys {s = s} (resolves_case {x = x} e t u alts) k r =
        (expr_obeys e k r, ty_obeys t s k refl r, ty_obeys u s k refl r, alts_obey alts (in_value k) (in_a_value x s k r))
    expr_obeys (resolves_cast e g) k r = (expr_obeys e k r, co_obeys g k r)
    expr_obeys (resolves_constructor {n = n} {m = m} h xs) k r = (said.constructor n m h, args_obey xs k r)
    expr_obeys (resolves_primitive es) k r = exprs_obey es k r
    expr_obeys {s = s} (resolves_fail t) k r = ty_obeys t s k refl r
    expr_obeys {s = s} (resolves_join {r = o} {js = js} {ks = ks} t group e) k r =
        let q = in_all_joins group s k r in (
          ty_obeys t s k refl r,
          joins_obey group (if o then in_joins ks k else k) (in_either o s (enter_joins (join_words js) s) k (in_joins ks k) r q),
          expr_obeys e (in_joins ks k) q,
        )
    expr_obeys (resolves_jump {j = j} {i = i} h xs) k r = (r.joins j i h, args_obey xs k r)

    pub arg_obeys : {s : Locals} {a : Arg} {b : NArg} → ResolvesArg top s a b → (k : Counts) → Reach s k → HoldsArg P k b
    arg_obeys (resolves_term e) k r = expr_obeys e k r
    arg_obeys {s = s} (resolves_type t) k r = ty_obeys t s k refl r
    arg_obeys (resolves_coercion g) k r = co_obeys g k r

    args_obey : {s : Locals} {xs : Args} {ys : NArgs} → ResolvesArgs top s xs ys → (k : Counts) → Reach s k → HoldsArgs P k ys
    args_obey resolves_no_args k r = tt
    args_obey (resolves_args a rest) k r = (arg_obeys a k r, args_obey rest k r)

    exprs_obey : {s : Locals} {es : Exprs} {fs : NExprs} → ResolvesExprs top s es fs → (k : Counts) → Reach s k → HoldsExprs P k fs
    exprs_obey resolves_no_exprs k r = tt
    exprs_obey (resolves_exprs e rest) k r = (expr_obeys e k r, exprs_obey rest k r)

    binds_obey : {s : Locals} {earlier : WordSet} {bs : Binds} {cs : NBinds} → ResolvesBinds top s earlier bs cs → (k : Counts) → Reach s k → HoldsBinds P k cs
    binds_obey resolves_no_binds k r = tt
    binds_obey {s = s} (resolves_binds new t e rest) k r = ((ty_obeys t s k refl r, expr_obeys e k r), binds_obey rest k r)

    joins_obey : {s : Locals} {earlier : WordSet} {js : Joins} {ks : NJoins} → ResolvesJoins top s earlier js ks → (k : Counts) → Reach s k → HoldsJoins P k ks
    joins_obey resolves_no_joins k r = tt
    joins_obey (resolves_joins {qs = qs} new ps e rest) k r = ((binders_obey ps k r, expr_obeys e (in_binders qs k) (in_all_binders ps k r)), joins_obey rest k r)

    alts_obey : {s : Locals} {xs : Alts} {ys : NAlts} → ResolvesAlts top s xs ys → (k : Counts) → Reach s k → HoldsAlts P k ys
    alts_obey resolves_no_alts k r = tt
    alts_obey (resolves_alts {cs = cs} h bs e rest) k r =
        ((head_obeys h, binders_obey bs k r, expr_obeys e (in_binders cs k) (in_all_binders bs k r)), alts_obey rest k r)
