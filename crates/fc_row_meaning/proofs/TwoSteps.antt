-- A change at a place by a row that is two steps in one, the first at a place inside and the second at its own, is two changes, one after the other.
use Rattle.std.proofs.Common.{◌≡◌, ℕ, zero, suc, Bool, true, false, nat_eq, if◌then◌else◌, List, [], ◌∷◌, length, Option, Some, None, refl, sym, ap, ◌∙◌}
use Rattle.std.specs.Str.{bytes_eq}
use Rattle.fc_syntax.specs.Tree.{Word}
use Rattle.fc_syntax.specs.declared.expr.Head.{Head}
use Rattle.fc_model.specs.Kinding.{decls_at}
use Rattle.fc_model.specs.Nameless.{NTy, NArg, NATerm, NAType, NACo, NBound, NJoined, NBranch, NExpr, NLocal, NVar, NLit, NApp, NLam, NLet, NCase, NCast, NCon, NPrim, NFail, NJoin, NJump}
use Rattle.fc_model.specs.Nameless.{NArgs, NoNArgs, MoreNArgs, NExprs, NoNExprs, MoreNExprs, NBinds, NoNBinds, MoreNBinds, NJoins, NoNJoins, MoreNJoins, NAlts, NoNAlts, MoreNAlts}
use Rattle.fc_model.specs.Nameless.{NDecl, NData, NNew, NFamily, NAxiom, NDef, NWrap, NModule, NModuleOf}
use Rattle.fc_model.specs.Replacing.{bind_count, join_count}
use Rattle.fc_rows.specs.Changing.{made, changed, changed_alts, changed_arg, changed_args, changed_binds, changed_exprs, changed_joins, in_part}
use Rattle.fc_rows.specs.ChangingCoercions.{as_they_are, changed_coercion}
use Rattle.fc_rows.specs.Rewriting.{changed_decls, changed_module, changed_right}
use Rattle.fc_rows.specs.Surroundings.{Surroundings, apart, at_head, at_join_sides, at_right_sides, behind_binder, behind_binders, behind_binds, behind_joins, head_binds, in_alternative, listed_heads}
use Rattle.fc_rows.specs.Surroundings.{outside}
use Rattle.fc_row_types.specs.TypesKept.{ExpressionRow}
use Rattle.fc_row_types.proofs.Made.{if_some_inv, made_inv, none_some}
use Rattle.fc_row_meaning.proofs.PlacesChanged.{binds_count, joins_count, no_coercion}

-- STEPS

-- what is made at some place, and what is made of that in turn, wherever it is
pub record Steps {X Z : Type 0} (one : List ℕ → Option X) (two : Z → X → Option X) (x : X) : Type 0 where
  pub place : List ℕ
  pub between : X
  pub first : one place ≡ Some between
  pub second : (z : Z) → two z between ≡ Some x

-- the steps of a part are those of the whole
made_steps : {X Y Z W : Type 0} (K : X → Y) (there : List ℕ → List ℕ) (go : X → W → Z) {one : List ℕ → Option X} {two : Z → X → Option X} {outer : List ℕ → Option Y} {again : W → Y → Option Y}
    (change : Option X) {y : Y} → made K change ≡ Some y → ((x : X) → change ≡ Some x → Steps one two x) → ((q : List ℕ) → outer (there q) ≡ made K (one q))
    → ((w : W) (q : List ℕ) (d : X) → one q ≡ Some d → again w (K d) ≡ made K (two (go d w) d)) → Steps outer again y
made_steps K there go change {y = y} h part before behind =
    let m = made_inv K change y h in
    let s = part m.0 m.1 in
    record {
      place = there s.place;
      between = K s.between;
      first = before s.place ∙ ap (made K) s.first;
      second = λ w. behind w s.place s.between s.first ∙ ap (made K) (s.second (go s.between w)) ∙ ap (λ x. Some x) m.2;
    }

-- tests that are answered
then_first : {X : Type 0} (b : Bool) (x y : X) → b ≡ true → (if b then x else y) ≡ x
then_first true x y h = refl
then_first false x y h = absurd cc

else_second : {X : Type 0} (b : Bool) (x y : X) → b ≡ false → (if b then x else y) ≡ y
else_second true x y h = absurd cc
else_second false x y h = refl

-- either answer to a test
by_test : {X : Type 0} (P : Type 0) (b : Bool) (o q : Option X) (x : X) → (if b then o else q) ≡ Some x → (b ≡ true → o ≡ Some x → P) → (b ≡ false → q ≡ Some x → P) → P
by_test P true o q x h first second = first refl h
by_test P false o q x h first second = second refl h

-- a part that is the last one
part_steps : {X Z : Type 0} (n : ℕ) (p : List ℕ) (change : List ℕ → Option X) {one : List ℕ → Option X} (two : Z → List ℕ → X → Option X) (x : X) → in_part n p change ≡ Some x
    → ((q : List ℕ) (x : X) → change q ≡ Some x → Steps one (λ z. two z q) x) → Steps (λ q. in_part n q one) (λ z d. in_part n p (λ q. two z q d)) x
part_steps n [] change two x h inner = none_some h
part_steps n (i ∷ p) change {one = one} two x h inner =
    let m = if_some_inv (nat_eq i n) (change p) x h in
    let s = inner p x m.1 in
    record {
      place = i ∷ s.place;
      between = s.between;
      first = then_first (nat_eq i n) (one s.place) None m.0 ∙ s.first;
      second = λ z. then_first (nat_eq i n) (two z p s.between) None m.0 ∙ s.second z;
    }

-- EXPRESSIONS

-- row: what it makes is what second makes of what first makes at a place inside
module _ (row first : ExpressionRow) (second : NExpr → Option NExpr)
    (steps : (s : Surroundings) (e f : NExpr) → row s e ≡ Some f → Steps (λ q. changed first as_they_are s q e) (λ (z : Surroundings) d. second d) f) where
  -- the second step, which reads no surroundings
  abbrev again : ExpressionRow
  again s e = second e

  mutual
    change_steps : (s : Surroundings) (p : List ℕ) (e f : NExpr) → changed row as_they_are s p e ≡ Some f → Steps (λ q. changed first as_they_are s q e) (λ z d. changed again as_they_are z p d) f
    change_steps s [] e f h = steps s e f h
    change_steps s (i ∷ p) (NLocal v) f h = none_some h
    change_steps s (i ∷ p) (NVar n) f h = none_some h
    change_steps s (i ∷ p) (NLit n) f h = none_some h
    change_steps s (zero ∷ p) (NApp e a) f h =
        made_steps (λ d. NApp d a) (λ q. zero ∷ q) (λ d z. at_head a z) (changed row as_they_are (at_head a s) p e) h (change_steps (at_head a s) p e) (λ q. refl) (λ z q d k. refl)
    change_steps s (suc zero ∷ p) (NApp e a) f h =
        made_steps (λ b. NApp e b) (λ q. suc zero ∷ q) (λ d z. apart z) (changed_arg row as_they_are (apart s) p a) h (arg_steps (apart s) p a) (λ q. refl) (λ z q d k. refl)
    change_steps s (suc (suc i) ∷ p) (NApp e a) f h = none_some h
    change_steps s (zero ∷ p) (NLam b e) f h = none_some h
    change_steps s (suc zero ∷ p) (NLam b e) f h =
        let inner = behind_binder b (apart s) in
        made_steps (λ d. NLam b d) (λ q. suc zero ∷ q) (λ d z. behind_binder b (apart z)) (changed row as_they_are inner p e) h (change_steps inner p e) (λ q. refl) (λ z q d k. refl)
    change_steps s (suc (suc i) ∷ p) (NLam b e) f h = none_some h
    change_steps s (i ∷ p) (NLet r bs e) f h =
        let sides = at_right_sides r bs s in
        by_test (Steps (λ q. changed first as_they_are s q (NLet r bs e)) (λ z d. changed again as_they_are z (i ∷ p) d) f) (nat_eq i (bind_count bs)) _ _ f h
        (λ t k.
        made_steps (λ d. NLet r bs d) (λ q. i ∷ q) (λ d z. behind_binds r bs z) (changed row as_they_are (behind_binds r bs s) p e) k (change_steps (behind_binds r bs s) p e)
        (λ q. then_first (nat_eq i (bind_count bs)) _ _ t) (λ z q d l. then_first (nat_eq i (bind_count bs)) _ _ t))
        (λ t k.
        made_steps (λ cs. NLet r cs e) (λ q. i ∷ q) (λ cs z. at_right_sides r cs z) (changed_binds row as_they_are sides i p bs) k (binds_steps sides i p bs)
        (λ q. else_second (nat_eq i (bind_count bs)) _ _ t)
        (λ z q cs l. else_second (nat_eq i (bind_count cs)) _ _ (ap (nat_eq i) (sym (binds_count first sides i q bs cs l)) ∙ t)))
    change_steps s (zero ∷ p) (NCase e t u alts) f h =
        made_steps (λ d. NCase d t u alts) (λ q. zero ∷ q) (λ d z. apart z) (changed row as_they_are (apart s) p e) h (change_steps (apart s) p e) (λ q. refl) (λ z q d k. refl)
    change_steps s (suc zero ∷ p) (NCase e t u alts) f h = none_some h
    change_steps s (suc (suc zero) ∷ p) (NCase e t u alts) f h = none_some h
    change_steps s (suc (suc (suc i)) ∷ p) (NCase e t u alts) f h =
        made_steps (λ bs. NCase e t u bs) (λ q. suc (suc (suc i)) ∷ q) (λ bs z. (listed_heads bs, z)) (changed_alts row as_they_are s e t (listed_heads alts) i p alts) h
        (alts_steps s e t (listed_heads alts) i p alts) (λ q. refl) (λ z q d k. refl)
    change_steps s (zero ∷ p) (NCast e g) f h =
        made_steps (λ d. NCast d g) (λ q. zero ∷ q) (λ d z. apart z) (changed row as_they_are (apart s) p e) h (change_steps (apart s) p e) (λ q. refl) (λ z q d k. refl)
    change_steps s (suc zero ∷ p) (NCast e g) f h =
        let m = made_inv (λ x. NCast e x) (changed_coercion as_they_are s.context.kinds s.context.coercions p g) f h in
        absurd (no_coercion s.context.kinds s.context.coercions p g m.0 m.1)
    change_steps s (suc (suc i) ∷ p) (NCast e g) f h = none_some h
    change_steps s (i ∷ p) (NCon n args) f h =
        made_steps (NCon n) (λ q. i ∷ q) (λ d z. apart z) (changed_args row as_they_are (apart s) i p args) h (args_steps (apart s) i p args) (λ q. refl) (λ z q d k. refl)
    change_steps s (i ∷ p) (NPrim op es) f h =
        made_steps (NPrim op) (λ q. i ∷ q) (λ d z. apart z) (changed_exprs row as_they_are (apart s) i p es) h (exprs_steps (apart s) i p es) (λ q. refl) (λ z q d k. refl)
    change_steps s (i ∷ p) (NFail t) f h = none_some h
    change_steps s (zero ∷ p) (NJoin r t js e) f h = none_some h
    change_steps s (suc i ∷ p) (NJoin r t js e) f h =
        let sides = at_join_sides r t js s in
        by_test (Steps (λ q. changed first as_they_are s q (NJoin r t js e)) (λ z d. changed again as_they_are z (suc i ∷ p) d) f) (nat_eq i (join_count js)) _ _ f h
        (λ o k.
        made_steps (λ d. NJoin r t js d) (λ q. suc i ∷ q) (λ d z. behind_joins r t js z) (changed row as_they_are (behind_joins r t js s) p e) k (change_steps (behind_joins r t js s) p e)
        (λ q. then_first (nat_eq i (join_count js)) _ _ o) (λ z q d l. then_first (nat_eq i (join_count js)) _ _ o))
        (λ o k.
        made_steps (λ ks. NJoin r t ks e) (λ q. suc i ∷ q) (λ ks z. at_join_sides r t ks z) (changed_joins row as_they_are sides i p js) k (joins_steps sides i p js)
        (λ q. else_second (nat_eq i (join_count js)) _ _ o)
        (λ z q ks l. else_second (nat_eq i (join_count ks)) _ _ (ap (nat_eq i) (sym (joins_count first sides i q js ks l)) ∙ o)))
    change_steps s (i ∷ p) (NJump j args) f h =
        made_steps (NJump j) (λ q. i ∷ q) (λ d z. apart z) (changed_args row as_they_are (apart s) i p args) h (args_steps (apart s) i p args) (λ q. refl) (λ z q d k. refl)

    arg_steps : (s : Surroundings) (p : List ℕ) (a b : NArg) → changed_arg row as_they_are s p a ≡ Some b → Steps (λ q. changed_arg first as_they_are s q a) (λ z d. changed_arg again as_they_are z p d) b
    arg_steps s p (NATerm e) b h = made_steps NATerm (λ q. q) (λ d z. z) (changed row as_they_are s p e) h (change_steps s p e) (λ q. refl) (λ z q d k. refl)
    arg_steps s p (NAType t) b h = none_some h
    arg_steps s p (NACo g) b h =
        let m = made_inv NACo (changed_coercion as_they_are s.context.kinds s.context.coercions p g) b h in absurd (no_coercion s.context.kinds s.context.coercions p g m.0 m.1)

    args_steps : (s : Surroundings) (i : ℕ) (p : List ℕ) (args more : NArgs) → changed_args row as_they_are s i p args ≡ Some more
        → Steps (λ q. changed_args first as_they_are s i q args) (λ z d. changed_args again as_they_are z i p d) more
    args_steps s i p NoNArgs more h = none_some h
    args_steps s zero p (MoreNArgs a rest) more h = made_steps (λ b. MoreNArgs b rest) (λ q. q) (λ d z. z) (changed_arg row as_they_are s p a) h (arg_steps s p a) (λ q. refl) (λ z q d k. refl)
    args_steps s (suc i) p (MoreNArgs a rest) more h =
        made_steps (MoreNArgs a) (λ q. q) (λ d z. z) (changed_args row as_they_are s i p rest) h (args_steps s i p rest) (λ q. refl) (λ z q d k. refl)

    exprs_steps : (s : Surroundings) (i : ℕ) (p : List ℕ) (es more : NExprs) → changed_exprs row as_they_are s i p es ≡ Some more
        → Steps (λ q. changed_exprs first as_they_are s i q es) (λ z d. changed_exprs again as_they_are z i p d) more
    exprs_steps s i p NoNExprs more h = none_some h
    exprs_steps s zero p (MoreNExprs e rest) more h = made_steps (λ f. MoreNExprs f rest) (λ q. q) (λ d z. z) (changed row as_they_are s p e) h (change_steps s p e) (λ q. refl) (λ z q d k. refl)
    exprs_steps s (suc i) p (MoreNExprs e rest) more h =
        made_steps (MoreNExprs e) (λ q. q) (λ d z. z) (changed_exprs row as_they_are s i p rest) h (exprs_steps s i p rest) (λ q. refl) (λ z q d k. refl)

    binds_steps : (s : Surroundings) (i : ℕ) (p : List ℕ) (bs cs : NBinds) → changed_binds row as_they_are s i p bs ≡ Some cs
        → Steps (λ q. changed_binds first as_they_are s i q bs) (λ z d. changed_binds again as_they_are z i p d) cs
    binds_steps s i p NoNBinds cs h = none_some h
    binds_steps s zero p (MoreNBinds (NBound t e) rest) cs h =
        made_steps (λ f. MoreNBinds (NBound t f) rest) (λ q. q) (λ d z. z) (in_part 1 p (λ q. changed row as_they_are s q e)) h
        (λ x k. part_steps 1 p (λ q. changed row as_they_are s q e) (λ z q d. changed again as_they_are z q d) x k (λ q y. change_steps s q e y)) (λ q. refl) (λ z q d k. refl)
    binds_steps s (suc i) p (MoreNBinds (NBound t e) rest) cs h =
        made_steps (MoreNBinds (NBound t e)) (λ q. q) (λ d z. z) (changed_binds row as_they_are s i p rest) h (binds_steps s i p rest) (λ q. refl) (λ z q d k. refl)

    joins_steps : (s : Surroundings) (i : ℕ) (p : List ℕ) (js ks : NJoins) → changed_joins row as_they_are s i p js ≡ Some ks
        → Steps (λ q. changed_joins first as_they_are s i q js) (λ z d. changed_joins again as_they_are z i p d) ks
    joins_steps s i p NoNJoins ks h = none_some h
    joins_steps s zero p (MoreNJoins (NJoined ps e) rest) ks h =
        let inner = behind_binders ps s in
        made_steps (λ f. MoreNJoins (NJoined ps f) rest) (λ q. q) (λ d z. behind_binders ps z) (in_part (length ps) p (λ q. changed row as_they_are inner q e)) h
        (λ x k. part_steps (length ps) p (λ q. changed row as_they_are inner q e) (λ z q d. changed again as_they_are z q d) x k (λ q y. change_steps inner q e y)) (λ q. refl) (λ z q d k. refl)
    joins_steps s (suc i) p (MoreNJoins (NJoined ps e) rest) ks h =
        made_steps (MoreNJoins (NJoined ps e)) (λ q. q) (λ d z. z) (changed_joins row as_they_are s i p rest) h (joins_steps s i p rest) (λ q. refl) (λ z q d k. refl)

    -- of a case with any heads in the second step
    alts_steps : (s : Surroundings) (e : NExpr) (t : NTy) (hs : List Head) (i : ℕ) (p : List ℕ) (alts blts : NAlts) → changed_alts row as_they_are s e t hs i p alts ≡ Some blts
        → Steps (λ q. changed_alts first as_they_are s e t hs i q alts) (λ (z : List Head × Surroundings) d. changed_alts again as_they_are z.1 e t z.0 i p d) blts
    alts_steps s e t hs i p NoNAlts blts h = none_some h
    alts_steps s e t hs zero p (MoreNAlts (NBranch k bs b) rest) blts h =
        let inner = in_alternative e t hs k bs s in
        let change = in_part (length bs) p (λ q. changed row as_they_are inner q b) in
        let binds = if_some_inv (head_binds k bs) change _ (made_inv (λ c. MoreNAlts (NBranch k bs c) rest) (if head_binds k bs then change else None) blts h).1 in
        made_steps (λ c. MoreNAlts (NBranch k bs c) rest) (λ q. q) (λ d z. in_alternative e t z.0 k bs z.1) (if head_binds k bs then change else None) h
        (λ x l. part_steps (length bs) p (λ q. changed row as_they_are inner q b) (λ z q d. changed again as_they_are z q d) x (if_some_inv (head_binds k bs) change x l).1 (λ q y. change_steps inner q b y))
        (λ q. ap (made (λ c. MoreNAlts (NBranch k bs c) rest)) (then_first (head_binds k bs) _ None binds.0))
        (λ z q d l. ap (made (λ c. MoreNAlts (NBranch k bs c) rest)) (then_first (head_binds k bs) _ None binds.0))
    alts_steps s e t hs (suc i) p (MoreNAlts a rest) blts h =
        made_steps (MoreNAlts a) (λ q. q) (λ d z. z) (changed_alts row as_they_are s e t hs i p rest) h (alts_steps s e t hs i p rest) (λ q. refl) (λ z q d k. refl)

  -- DEFINITIONS

  right_steps : (s : Surroundings) (p : List ℕ) (e f : NExpr) → changed_right row as_they_are s p e ≡ Some f
      → Steps (λ q. changed_right first as_they_are s q e) (λ z d. changed_right again as_they_are z p d) f
  right_steps s [] e f h = none_some h
  right_steps s (zero ∷ p) e f h = none_some h
  right_steps s (suc zero ∷ p) e f h =
      let t = change_steps s p e f h in record { place = suc zero ∷ t.place; between = t.between; first = t.first; second = t.second }
  right_steps s (suc (suc i) ∷ p) e f h = none_some h

  decls_steps : (s : Surroundings) (w : Word) (p : List ℕ) (ds es : List NDecl) → changed_decls row as_they_are s w p ds ≡ Some es
      → Steps (λ q. changed_decls first as_they_are s w q ds) (λ z cs. changed_decls again as_they_are z w p cs) es
  decls_steps s w p [] es h = none_some h
  decls_steps s w p (NDef n t e ∷ ds) es h =
      by_test (Steps (λ q. changed_decls first as_they_are s w q (NDef n t e ∷ ds)) (λ z cs. changed_decls again as_they_are z w p cs) es) (bytes_eq n w) _ _ es h
      (λ o k.
      made_steps (λ f. NDef n t f ∷ ds) (λ q. q) (λ d z. z) (changed_right row as_they_are s p e) k (right_steps s p e) (λ q. then_first (bytes_eq n w) _ _ o) (λ z q d l. then_first (bytes_eq n w) _ _ o))
      (λ o k.
      made_steps (λ rest. NDef n t e ∷ rest) (λ q. q) (λ d z. z) (changed_decls row as_they_are s w p ds) k (decls_steps s w p ds) (λ q. else_second (bytes_eq n w) _ _ o)
      (λ z q d l. else_second (bytes_eq n w) _ _ o))
  decls_steps s w p (NWrap n t e ∷ ds) es h =
      by_test (Steps (λ q. changed_decls first as_they_are s w q (NWrap n t e ∷ ds)) (λ z cs. changed_decls again as_they_are z w p cs) es) (bytes_eq n w) _ _ es h
      (λ o k.
      made_steps (λ f. NWrap n t f ∷ ds) (λ q. q) (λ d z. z) (changed_right row as_they_are s p e) k (right_steps s p e) (λ q. then_first (bytes_eq n w) _ _ o) (λ z q d l. then_first (bytes_eq n w) _ _ o))
      (λ o k.
      made_steps (λ rest. NWrap n t e ∷ rest) (λ q. q) (λ d z. z) (changed_decls row as_they_are s w p ds) k (decls_steps s w p ds) (λ q. else_second (bytes_eq n w) _ _ o)
      (λ z q d l. else_second (bytes_eq n w) _ _ o))
  decls_steps s w p (NData n ps cs ∷ ds) es h =
      made_steps (λ rest. NData n ps cs ∷ rest) (λ q. q) (λ d z. z) (changed_decls row as_they_are s w p ds) h (decls_steps s w p ds) (λ q. refl) (λ z q d k. refl)
  decls_steps s w p (NNew n ps t con ∷ ds) es h =
      made_steps (λ rest. NNew n ps t con ∷ rest) (λ q. q) (λ d z. z) (changed_decls row as_they_are s w p ds) h (decls_steps s w p ds) (λ q. refl) (λ z q d k. refl)
  decls_steps s w p (NFamily n ps j ∷ ds) es h =
      made_steps (λ rest. NFamily n ps j ∷ rest) (λ q. q) (λ d z. z) (changed_decls row as_they_are s w p ds) h (decls_steps s w p ds) (λ q. refl) (λ z q d k. refl)
  decls_steps s w p (NAxiom n ps t u ∷ ds) es h =
      made_steps (λ rest. NAxiom n ps t u ∷ rest) (λ q. q) (λ d z. z) (changed_decls row as_they_are s w p ds) h (decls_steps s w p ds) (λ q. refl) (λ z q d k. refl)

  -- MODULES

  -- a change of a module is two changes of modules, the second at the place of the whole
  pub module_steps : (xs : List NModule) (w : Word) (p : List ℕ) (m k : NModule) → changed_module row as_they_are xs w p m ≡ Some k
      → (q : List ℕ) × (n : NModule) × (changed_module first as_they_are xs w q m ≡ Some n) × (changed_module again as_they_are xs w p n ≡ Some k)
  module_steps xs w p (NModuleOf m imports exports hidden ds) k h =
      let here : NModule = NModuleOf m imports exports hidden ds in
      let s = outside (decls_at (here ∷ xs)) in
      let t : Steps (λ q. changed_module first as_they_are xs w q here) (λ (z : Unit {0}) n. changed_module again as_they_are xs w p n) k =
      made_steps (λ cs. NModuleOf m imports exports hidden cs) (λ q. q) (λ cs z. outside (decls_at (NModuleOf m imports exports hidden cs ∷ xs))) (changed_decls row as_they_are s w p ds) h
      (decls_steps s w p ds) (λ q. refl) (λ z q d k. refl) in
      (t.place, t.between, t.first, t.second tt)
