-- A change at a place by a row that is two steps in one, both at that place, is two changes there, one after the other, where the second step reads nothing that stands around.
use Rattle.std.proofs.Common.{◌≡◌, ℕ, zero, suc, Bool, true, false, nat_eq, if◌then◌else◌, List, [], ◌∷◌, length, Option, Some, None, refl, sym, ap, ◌∙◌}
use Rattle.std.specs.Str.{bytes_eq}
use Rattle.std.proofs.lemmas.Option.{none-some, same_Some}
use Rattle.fc_syntax.specs.Tree.{Kind, Word}
use Rattle.fc_syntax.specs.declared.expr.Head.{Head}
use Rattle.fc_model.specs.Calling.{from_some}
use Rattle.fc_model.specs.Coercing.{Ends}
use Rattle.fc_model.specs.Kinding.{decls_at}
use Rattle.fc_model.specs.Nameless.{NTy, NCo, NArg, NATerm, NAType, NACo, NBound, NJoined, NBranch, NExpr, NLocal, NVar, NLit, NApp, NLam, NLet, NCase, NCast, NCon, NPrim, NFail, NJoin, NJump}
use Rattle.fc_model.specs.Nameless.{NArgs, NoNArgs, MoreNArgs, NExprs, NoNExprs, MoreNExprs, NBinds, NoNBinds, MoreNBinds, NJoins, NoNJoins, MoreNJoins, NAlts, NoNAlts, MoreNAlts}
use Rattle.fc_model.specs.Nameless.{NDecl, NData, NNew, NFamily, NAxiom, NDef, NWrap, NModule, NModuleOf}
use Rattle.fc_model.specs.Replacing.{bind_count, join_count}
use Rattle.fc_parts.proofs.Changes.{changes_none}
use Rattle.fc_rows.specs.Changing.{made, changed, changed_alts, changed_arg, changed_args, changed_binds, changed_exprs, changed_joins, in_part}
use Rattle.fc_rows.specs.ChangingCoercions.{as_they_are, changed_coercion}
use Rattle.fc_rows.specs.Rewriting.{changed_decls, changed_module, changed_right}
use Rattle.fc_rows.specs.Surroundings.{Surroundings, apart, at_head, at_join_sides, at_right_sides, behind_binder, behind_binders, behind_binds, behind_joins, head_binds, in_alternative, listed_heads}
use Rattle.fc_rows.specs.Surroundings.{outside}

-- ANSWERS THAT MAY BE NONE

nothing : {X P : Type 0} {x : X} → None ≡ Some x → P
nothing h = absurd (none-some _ h)

made_inv : {X Y : Type 0} (f : X → Y) (o : Option X) (y : Y) → made f o ≡ Some y → (x : X) × (o ≡ Some x) × (f x ≡ y)
made_inv f (Some x) y h = (x, refl, same_Some _ _ h)
made_inv f None y h = nothing h

pub from_some_inv : {X Y : Type 0} (f : X → Option Y) (o : Option X) (y : Y) → from_some f o ≡ Some y → (x : X) × (o ≡ Some x) × (f x ≡ Some y)
from_some_inv f (Some x) y h = (x, refl, h)
from_some_inv f None y h = nothing h

pub if_some_inv : {X : Type 0} (b : Bool) (o : Option X) (x : X) → (if b then o else None) ≡ Some x → (b ≡ true) × (o ≡ Some x)
if_some_inv true o x h = (refl, h)
if_some_inv false o x h = nothing h

then_first : {X : Type 0} (b : Bool) (x y : X) → b ≡ true → (if b then x else y) ≡ x
then_first true x y h = refl
then_first false x y h = absurd cc

else_second : {X : Type 0} (b : Bool) (x y : X) → b ≡ false → (if b then x else y) ≡ y
else_second true x y h = absurd cc
else_second false x y h = refl

by_test : {X : Type 0} (P : Type 0) (b : Bool) (o q : Option X) (x : X) → (if b then o else q) ≡ Some x → (b ≡ true → o ≡ Some x → P) → (b ≡ false → q ≡ Some x → P) → P
by_test P true o q x h first second = first refl h
by_test P false o q x h first second = second refl h

no_coercion : (ks : List Kind) (cs : List Ends) (p : List ℕ) (g h : NCo) → changed_coercion as_they_are ks cs p g ≡ Some h → ⊥
no_coercion ks cs p g h changes = none-some _ (sym (changes_none ks cs p g) ∙ changes)

-- STEPS

-- what is made, and what is made of that in turn
record Steps {X Z : Type 0} (one : Option X) (two : Z → X → Option X) (x : X) : Type 0 where
  between : X
  first : one ≡ Some between
  second : (z : Z) → two z between ≡ Some x

-- the steps of a part are those of the whole
made_steps : {X Y Z W : Type 0} (K : X → Y) (go : X → W → Z) {one : Option X} {two : Z → X → Option X} {outer : Option Y} {again : W → Y → Option Y} (change : Option X) {y : Y}
    → made K change ≡ Some y → ((x : X) → change ≡ Some x → Steps one two x) → outer ≡ made K one → ((w : W) (d : X) → one ≡ Some d → again w (K d) ≡ made K (two (go d w) d)) → Steps outer again y
made_steps K go change {y = y} h part before behind =
    let m = made_inv K change y h in
    let s = part m.0 m.1 in
    record {
      between = K s.between;
      first = before ∙ ap (made K) s.first;
      second = λ w. behind w s.between s.first ∙ ap (made K) (s.second (go s.between w)) ∙ ap (λ x. Some x) m.2;
    }

-- a part that is the last one
part_steps : {X Z : Type 0} (n : ℕ) (p : List ℕ) (change one : List ℕ → Option X) (two : Z → List ℕ → X → Option X) (x : X) → in_part n p change ≡ Some x
    → ((q : List ℕ) (x : X) → change q ≡ Some x → Steps (one q) (λ z. two z q) x) → Steps (in_part n p one) (λ z d. in_part n p (λ q. two z q d)) x
part_steps n [] change one two x h inner = nothing h
part_steps n (i ∷ p) change one two x h inner =
    let m = if_some_inv (nat_eq i n) (change p) x h in
    let s = inner p x m.1 in
    record {
      between = s.between;
      first = then_first (nat_eq i n) (one p) None m.0 ∙ s.first;
      second = λ z. then_first (nat_eq i n) (two z p s.between) None m.0 ∙ s.second z;
    }

-- COUNTS

module _ (first : Surroundings → NExpr → Option NExpr) where
  binds_count : (s : Surroundings) (i : ℕ) (p : List ℕ) (bs cs : NBinds) → changed_binds first as_they_are s i p bs ≡ Some cs → bind_count cs ≡ bind_count bs
  binds_count s i p NoNBinds cs h = nothing h
  binds_count s zero p (MoreNBinds (NBound t e) rest) cs h =
      let m = made_inv (λ f. MoreNBinds (NBound t f) rest) (in_part 1 p (λ q. changed first as_they_are s q e)) cs h in ap bind_count (sym m.2)
  binds_count s (suc i) p (MoreNBinds b rest) cs h =
      let m = made_inv (MoreNBinds b) (changed_binds first as_they_are s i p rest) cs h in ap bind_count (sym m.2) ∙ ap (λ n. suc n) (binds_count s i p rest m.0 m.1)

  joins_count : (s : Surroundings) (i : ℕ) (p : List ℕ) (js ks : NJoins) → changed_joins first as_they_are s i p js ≡ Some ks → join_count ks ≡ join_count js
  joins_count s i p NoNJoins ks h = nothing h
  joins_count s zero p (MoreNJoins (NJoined ps e) rest) ks h =
      let m = made_inv (λ f. MoreNJoins (NJoined ps f) rest) (in_part (length ps) p (λ q. changed first as_they_are (behind_binders ps s) q e)) ks h in ap join_count (sym m.2)
  joins_count s (suc i) p (MoreNJoins j rest) ks h =
      let m = made_inv (MoreNJoins j) (changed_joins first as_they_are s i p rest) ks h in ap join_count (sym m.2) ∙ ap (λ n. suc n) (joins_count s i p rest m.0 m.1)

-- EXPRESSIONS

module _ (first : Surroundings → NExpr → Option NExpr) (second : NExpr → Option NExpr) where
  abbrev pub both : Surroundings → NExpr → Option NExpr
  both s e = from_some second (first s e)

  abbrev pub again : Surroundings → NExpr → Option NExpr
  again s e = second e

  here_steps : (s : Surroundings) (e f : NExpr) → both s e ≡ Some f → Steps (first s e) (λ (z : Surroundings) d. second d) f
  here_steps s e f h = let m = from_some_inv second (first s e) f h in record { between = m.0; first = m.1; second = λ z. m.2 }

  mutual
    change_steps : (s : Surroundings) (p : List ℕ) (e f : NExpr) → changed both as_they_are s p e ≡ Some f → Steps (changed first as_they_are s p e) (λ z d. changed again as_they_are z p d) f
    change_steps s [] e f h = here_steps s e f h
    change_steps s (i ∷ p) (NLocal v) f h = nothing h
    change_steps s (i ∷ p) (NVar n) f h = nothing h
    change_steps s (i ∷ p) (NLit n) f h = nothing h
    change_steps s (zero ∷ p) (NApp e a) f h =
        made_steps (λ d. NApp d a) (λ d z. at_head a z) (changed both as_they_are (at_head a s) p e) h (change_steps (at_head a s) p e) refl (λ z d k. refl)
    change_steps s (suc zero ∷ p) (NApp e a) f h =
        made_steps (λ b. NApp e b) (λ d z. apart z) (changed_arg both as_they_are (apart s) p a) h (arg_steps (apart s) p a) refl (λ z d k. refl)
    change_steps s (suc (suc i) ∷ p) (NApp e a) f h = nothing h
    change_steps s (zero ∷ p) (NLam b e) f h = nothing h
    change_steps s (suc zero ∷ p) (NLam b e) f h =
        let inner = behind_binder b (apart s) in
        made_steps (λ d. NLam b d) (λ d z. behind_binder b (apart z)) (changed both as_they_are inner p e) h (change_steps inner p e) refl (λ z d k. refl)
    change_steps s (suc (suc i) ∷ p) (NLam b e) f h = nothing h
    change_steps s (i ∷ p) (NLet r bs e) f h =
        let sides = at_right_sides r bs s in
        by_test (Steps (changed first as_they_are s (i ∷ p) (NLet r bs e)) (λ z d. changed again as_they_are z (i ∷ p) d) f) (nat_eq i (bind_count bs)) _ _ f h
        (λ t k.
        made_steps (λ d. NLet r bs d) (λ d z. behind_binds r bs z) (changed both as_they_are (behind_binds r bs s) p e) k (change_steps (behind_binds r bs s) p e)
        (then_first (nat_eq i (bind_count bs)) _ _ t) (λ z d l. then_first (nat_eq i (bind_count bs)) _ _ t))
        (λ t k.
        made_steps (λ cs. NLet r cs e) (λ cs z. at_right_sides r cs z) (changed_binds both as_they_are sides i p bs) k (binds_steps sides i p bs)
        (else_second (nat_eq i (bind_count bs)) _ _ t)
        (λ z cs l. else_second (nat_eq i (bind_count cs)) _ _ (ap (nat_eq i) (binds_count first sides i p bs cs l) ∙ t)))
    change_steps s (zero ∷ p) (NCase e t u alts) f h =
        made_steps (λ d. NCase d t u alts) (λ d z. apart z) (changed both as_they_are (apart s) p e) h (change_steps (apart s) p e) refl (λ z d k. refl)
    change_steps s (suc zero ∷ p) (NCase e t u alts) f h = nothing h
    change_steps s (suc (suc zero) ∷ p) (NCase e t u alts) f h = nothing h
    change_steps s (suc (suc (suc i)) ∷ p) (NCase e t u alts) f h =
        made_steps (λ bs. NCase e t u bs) (λ bs z. (listed_heads bs, z)) (changed_alts both as_they_are s e t (listed_heads alts) i p alts) h
        (alts_steps s e t (listed_heads alts) i p alts) refl (λ z d k. refl)
    change_steps s (zero ∷ p) (NCast e g) f h =
        made_steps (λ d. NCast d g) (λ d z. apart z) (changed both as_they_are (apart s) p e) h (change_steps (apart s) p e) refl (λ z d k. refl)
    change_steps s (suc zero ∷ p) (NCast e g) f h =
        let m = made_inv (λ x. NCast e x) (changed_coercion as_they_are s.context.kinds s.context.coercions p g) f h in
        absurd (no_coercion s.context.kinds s.context.coercions p g m.0 m.1)
    change_steps s (suc (suc i) ∷ p) (NCast e g) f h = nothing h
    change_steps s (i ∷ p) (NCon n args) f h =
        made_steps (NCon n) (λ d z. apart z) (changed_args both as_they_are (apart s) i p args) h (args_steps (apart s) i p args) refl (λ z d k. refl)
    change_steps s (i ∷ p) (NPrim op es) f h =
        made_steps (NPrim op) (λ d z. apart z) (changed_exprs both as_they_are (apart s) i p es) h (exprs_steps (apart s) i p es) refl (λ z d k. refl)
    change_steps s (i ∷ p) (NFail t) f h = nothing h
    change_steps s (zero ∷ p) (NJoin r t js e) f h = nothing h
    change_steps s (suc i ∷ p) (NJoin r t js e) f h =
        let sides = at_join_sides r t js s in
        by_test (Steps (changed first as_they_are s (suc i ∷ p) (NJoin r t js e)) (λ z d. changed again as_they_are z (suc i ∷ p) d) f) (nat_eq i (join_count js)) _ _ f h
        (λ o k.
        made_steps (λ d. NJoin r t js d) (λ d z. behind_joins r t js z) (changed both as_they_are (behind_joins r t js s) p e) k (change_steps (behind_joins r t js s) p e)
        (then_first (nat_eq i (join_count js)) _ _ o) (λ z d l. then_first (nat_eq i (join_count js)) _ _ o))
        (λ o k.
        made_steps (λ ks. NJoin r t ks e) (λ ks z. at_join_sides r t ks z) (changed_joins both as_they_are sides i p js) k (joins_steps sides i p js)
        (else_second (nat_eq i (join_count js)) _ _ o)
        (λ z ks l. else_second (nat_eq i (join_count ks)) _ _ (ap (nat_eq i) (joins_count first sides i p js ks l) ∙ o)))
    change_steps s (i ∷ p) (NJump j args) f h =
        made_steps (NJump j) (λ d z. apart z) (changed_args both as_they_are (apart s) i p args) h (args_steps (apart s) i p args) refl (λ z d k. refl)

    arg_steps : (s : Surroundings) (p : List ℕ) (a b : NArg) → changed_arg both as_they_are s p a ≡ Some b → Steps (changed_arg first as_they_are s p a) (λ z d. changed_arg again as_they_are z p d) b
    arg_steps s p (NATerm e) b h = made_steps NATerm (λ d z. z) (changed both as_they_are s p e) h (change_steps s p e) refl (λ z d k. refl)
    arg_steps s p (NAType t) b h = nothing h
    arg_steps s p (NACo g) b h =
        let m = made_inv NACo (changed_coercion as_they_are s.context.kinds s.context.coercions p g) b h in absurd (no_coercion s.context.kinds s.context.coercions p g m.0 m.1)

    args_steps : (s : Surroundings) (i : ℕ) (p : List ℕ) (args more : NArgs) → changed_args both as_they_are s i p args ≡ Some more
        → Steps (changed_args first as_they_are s i p args) (λ z d. changed_args again as_they_are z i p d) more
    args_steps s i p NoNArgs more h = nothing h
    args_steps s zero p (MoreNArgs a rest) more h = made_steps (λ b. MoreNArgs b rest) (λ d z. z) (changed_arg both as_they_are s p a) h (arg_steps s p a) refl (λ z d k. refl)
    args_steps s (suc i) p (MoreNArgs a rest) more h = made_steps (MoreNArgs a) (λ d z. z) (changed_args both as_they_are s i p rest) h (args_steps s i p rest) refl (λ z d k. refl)

    exprs_steps : (s : Surroundings) (i : ℕ) (p : List ℕ) (es more : NExprs) → changed_exprs both as_they_are s i p es ≡ Some more
        → Steps (changed_exprs first as_they_are s i p es) (λ z d. changed_exprs again as_they_are z i p d) more
    exprs_steps s i p NoNExprs more h = nothing h
    exprs_steps s zero p (MoreNExprs e rest) more h = made_steps (λ f. MoreNExprs f rest) (λ d z. z) (changed both as_they_are s p e) h (change_steps s p e) refl (λ z d k. refl)
    exprs_steps s (suc i) p (MoreNExprs e rest) more h =
        made_steps (MoreNExprs e) (λ d z. z) (changed_exprs both as_they_are s i p rest) h (exprs_steps s i p rest) refl (λ z d k. refl)

    binds_steps : (s : Surroundings) (i : ℕ) (p : List ℕ) (bs cs : NBinds) → changed_binds both as_they_are s i p bs ≡ Some cs
        → Steps (changed_binds first as_they_are s i p bs) (λ z d. changed_binds again as_they_are z i p d) cs
    binds_steps s i p NoNBinds cs h = nothing h
    binds_steps s zero p (MoreNBinds (NBound t e) rest) cs h =
        made_steps (λ f. MoreNBinds (NBound t f) rest) (λ d z. z) (in_part 1 p (λ q. changed both as_they_are s q e)) h
        (λ x k. part_steps 1 p (λ q. changed both as_they_are s q e) (λ q. changed first as_they_are s q e) (λ z q d. changed again as_they_are z q d) x k (λ q y. change_steps s q e y))
        refl (λ z d k. refl)
    binds_steps s (suc i) p (MoreNBinds (NBound t e) rest) cs h =
        made_steps (MoreNBinds (NBound t e)) (λ d z. z) (changed_binds both as_they_are s i p rest) h (binds_steps s i p rest) refl (λ z d k. refl)

    joins_steps : (s : Surroundings) (i : ℕ) (p : List ℕ) (js ks : NJoins) → changed_joins both as_they_are s i p js ≡ Some ks
        → Steps (changed_joins first as_they_are s i p js) (λ z d. changed_joins again as_they_are z i p d) ks
    joins_steps s i p NoNJoins ks h = nothing h
    joins_steps s zero p (MoreNJoins (NJoined ps e) rest) ks h =
        let inner = behind_binders ps s in
        made_steps (λ f. MoreNJoins (NJoined ps f) rest) (λ d z. behind_binders ps z) (in_part (length ps) p (λ q. changed both as_they_are inner q e)) h
        (λ x k. part_steps (length ps) p (λ q. changed both as_they_are inner q e) (λ q. changed first as_they_are inner q e) (λ z q d. changed again as_they_are z q d) x k (λ q y. change_steps inner q e y))
        refl (λ z d k. refl)
    joins_steps s (suc i) p (MoreNJoins (NJoined ps e) rest) ks h =
        made_steps (MoreNJoins (NJoined ps e)) (λ d z. z) (changed_joins both as_they_are s i p rest) h (joins_steps s i p rest) refl (λ z d k. refl)

    -- of a case with any heads in the second step
    alts_steps : (s : Surroundings) (e : NExpr) (t : NTy) (hs : List Head) (i : ℕ) (p : List ℕ) (alts blts : NAlts) → changed_alts both as_they_are s e t hs i p alts ≡ Some blts
        → Steps (changed_alts first as_they_are s e t hs i p alts) (λ (z : List Head × Surroundings) d. changed_alts again as_they_are z.1 e t z.0 i p d) blts
    alts_steps s e t hs i p NoNAlts blts h = nothing h
    alts_steps s e t hs zero p (MoreNAlts (NBranch k bs b) rest) blts h =
        let inner = in_alternative e t hs k bs s in
        let change = in_part (length bs) p (λ q. changed both as_they_are inner q b) in
        let binds = if_some_inv (head_binds k bs) change _ (made_inv (λ c. MoreNAlts (NBranch k bs c) rest) (if head_binds k bs then change else None) blts h).1 in
        made_steps (λ c. MoreNAlts (NBranch k bs c) rest) (λ d z. in_alternative e t z.0 k bs z.1) (if head_binds k bs then change else None) h
        (λ x l.
        part_steps (length bs) p (λ q. changed both as_they_are inner q b) (λ q. changed first as_they_are inner q b) (λ z q d. changed again as_they_are z q d) x
        (if_some_inv (head_binds k bs) change x l).1 (λ q y. change_steps inner q b y))
        (ap (made (λ c. MoreNAlts (NBranch k bs c) rest)) (then_first (head_binds k bs) _ None binds.0))
        (λ z d l. ap (made (λ c. MoreNAlts (NBranch k bs c) rest)) (then_first (head_binds k bs) _ None binds.0))
    alts_steps s e t hs (suc i) p (MoreNAlts a rest) blts h =
        made_steps (MoreNAlts a) (λ d z. z) (changed_alts both as_they_are s e t hs i p rest) h (alts_steps s e t hs i p rest) refl (λ z d k. refl)

  -- DEFINITIONS

  right_steps : (s : Surroundings) (p : List ℕ) (e f : NExpr) → changed_right both as_they_are s p e ≡ Some f
      → Steps (changed_right first as_they_are s p e) (λ z d. changed_right again as_they_are z p d) f
  right_steps s [] e f h = nothing h
  right_steps s (zero ∷ p) e f h = nothing h
  right_steps s (suc zero ∷ p) e f h = change_steps s p e f h
  right_steps s (suc (suc i) ∷ p) e f h = nothing h

  decls_steps : (s : Surroundings) (w : Word) (p : List ℕ) (ds es : List NDecl) → changed_decls both as_they_are s w p ds ≡ Some es
      → Steps (changed_decls first as_they_are s w p ds) (λ z cs. changed_decls again as_they_are z w p cs) es
  decls_steps s w p [] es h = nothing h
  decls_steps s w p (NDef n t e ∷ ds) es h =
      by_test (Steps (changed_decls first as_they_are s w p (NDef n t e ∷ ds)) (λ z cs. changed_decls again as_they_are z w p cs) es) (bytes_eq n w) _ _ es h
      (λ o k.
      made_steps (λ f. NDef n t f ∷ ds) (λ d z. z) (changed_right both as_they_are s p e) k (right_steps s p e) (then_first (bytes_eq n w) _ _ o) (λ z d l. then_first (bytes_eq n w) _ _ o))
      (λ o k.
      made_steps (λ rest. NDef n t e ∷ rest) (λ d z. z) (changed_decls both as_they_are s w p ds) k (decls_steps s w p ds) (else_second (bytes_eq n w) _ _ o)
      (λ z d l. else_second (bytes_eq n w) _ _ o))
  decls_steps s w p (NWrap n t e ∷ ds) es h =
      by_test (Steps (changed_decls first as_they_are s w p (NWrap n t e ∷ ds)) (λ z cs. changed_decls again as_they_are z w p cs) es) (bytes_eq n w) _ _ es h
      (λ o k.
      made_steps (λ f. NWrap n t f ∷ ds) (λ d z. z) (changed_right both as_they_are s p e) k (right_steps s p e) (then_first (bytes_eq n w) _ _ o) (λ z d l. then_first (bytes_eq n w) _ _ o))
      (λ o k.
      made_steps (λ rest. NWrap n t e ∷ rest) (λ d z. z) (changed_decls both as_they_are s w p ds) k (decls_steps s w p ds) (else_second (bytes_eq n w) _ _ o)
      (λ z d l. else_second (bytes_eq n w) _ _ o))
  decls_steps s w p (NData n ps cs ∷ ds) es h = made_steps (λ rest. NData n ps cs ∷ rest) (λ d z. z) (changed_decls both as_they_are s w p ds) h (decls_steps s w p ds) refl (λ z d k. refl)
  decls_steps s w p (NNew n ps t con ∷ ds) es h =
      made_steps (λ rest. NNew n ps t con ∷ rest) (λ d z. z) (changed_decls both as_they_are s w p ds) h (decls_steps s w p ds) refl (λ z d k. refl)
  decls_steps s w p (NFamily n ps j ∷ ds) es h =
      made_steps (λ rest. NFamily n ps j ∷ rest) (λ d z. z) (changed_decls both as_they_are s w p ds) h (decls_steps s w p ds) refl (λ z d k. refl)
  decls_steps s w p (NAxiom n ps t u ∷ ds) es h =
      made_steps (λ rest. NAxiom n ps t u ∷ rest) (λ d z. z) (changed_decls both as_they_are s w p ds) h (decls_steps s w p ds) refl (λ z d k. refl)

  -- MODULES

  -- a change of a module is two changes of modules
  pub module_twice : (xs : List NModule) (w : Word) (p : List ℕ) (m k : NModule) → changed_module both as_they_are xs w p m ≡ Some k
      → (n : NModule) × (changed_module first as_they_are xs w p m ≡ Some n) × (changed_module again as_they_are xs w p n ≡ Some k)
  module_twice xs w p (NModuleOf m imports exports hidden ds) k h =
      let here : NModule = NModuleOf m imports exports hidden ds in
      let s = outside (decls_at (here ∷ xs)) in
      let t : Steps (changed_module first as_they_are xs w p here) (λ (z : Unit {0}) n. changed_module again as_they_are xs w p n) k =
      made_steps (λ cs. NModuleOf m imports exports hidden cs) (λ cs z. outside (decls_at (NModuleOf m imports exports hidden cs ∷ xs))) (changed_decls both as_they_are s w p ds) h
      (decls_steps s w p ds) refl (λ z d k. refl) in
      (t.between, t.first, t.second tt)
