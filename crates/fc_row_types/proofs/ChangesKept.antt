-- A part in place of another of the same type keeps the type of the whole.
use Rattle.std.proofs.Common.{◌≡◌, ℕ, zero, suc, Bool, true, false, not, ◌&&◌, ◌||◌, nat_eq, if◌then◌else◌, List, [], ◌∷◌, length, Option, Some, None, refl, sym, ap, ◌∙◌, subst}
use Rattle.fc_syntax.specs.declared.expr.Head.{Head}
use Rattle.fc_syntax.specs.declared.expr.Head.TheVariants as head
use Rattle.fc_syntax.specs.Tree.{Kind}
use Rattle.fc_model.specs.Calling.{Given, GivenTerm, GivenCoercion, Takes, takes_term, takes_type, takes_coercion, atom_fits}
use Rattle.fc_model.specs.Calling.{is_unlifted, over_binder, type_count}
use Rattle.fc_model.specs.Kinding.{Modules, HasKind}
use Rattle.fc_model.specs.Nameless.{NCo, NTy, NBinder, NBValue, NBType, NBCo, NArg, NATerm, NAType, NACo, NBound, NJoined, NAlt, NBranch, NTInt}
use Rattle.fc_model.specs.Nameless.{NExpr, NLocal, NVar, NLit, NApp, NLam, NLet, NCase, NCast, NCon, NPrim, NFail, NJoin, NJump}
use Rattle.fc_model.specs.Nameless.{NArgs, NoNArgs, MoreNArgs, NoNExprs, MoreNExprs, NBinds, NoNBinds, MoreNBinds, NJoins, NoNJoins, MoreNJoins, NAlts, NoNAlts, MoreNAlts}
use Rattle.fc_model.specs.Replacing.{bind_count, join_count}
use Rattle.fc_model.specs.Substituting.{raised_type}
use Rattle.fc_model.specs.Typing.{Context, Before, is_atom, join_point, with_binder, with_binders, with_binds, with_join, with_joins, with_value, without_joins}
use Rattle.fc_model.specs.TypingLaws.{AreDeclaredKinded, IsValueType}
use Rattle.fc_model.specs.TypingRules.{HasType, typed_application, typed_lambda, typed_let, typed_case, typed_cast, typed_con}
use Rattle.fc_model.specs.TypingRules.{typed_prim, typed_join, typed_jump}
use Rattle.fc_model.specs.TypingRules.{ArgIsGiven, given_term, given_coercion, ArgsAreGiven, one_arg, BindsHaveTypes, one_bind}
use Rattle.fc_model.specs.TypingRules.{JoinsHaveType, one_join}
use Rattle.fc_model.specs.TypingRules.{AltsFit, default_alt, literal_alt, con_alt}
use Rattle.fc_model.proofs.Sameness.{false_true}
use Rattle.fc_rows.specs.Changing.{changed, changed_alts, changed_arg, changed_args, changed_binds, changed_exprs, changed_joins, in_part}
use Rattle.fc_syntax.specs.declared.ty.Role.TheVariants.{R}
use Rattle.fc_model.specs.Coercing.{Ends}
use Rattle.fc_rows.specs.ChangingCoercions.{changed_coercion}
use Rattle.fc_row_types.proofs.CoercionsChanged.{proof_kept}
use Rattle.fc_row_types.specs.TypesKept.{Holds, KeepsAtoms, KeepsProofs, KeepsTypes}
use Rattle.fc_rows.specs.Surroundings.{Surroundings, apart, at_head, at_join_sides, at_right_sides, behind_binder, behind_binders, behind_binds, behind_joins, head_binds, in_alternative, listed_heads}
use Rattle.fc_row_types.proofs.HeadFits.{AlternativesHold, HeadFits, default_fits, literal_fits, constructor_fits}
use Rattle.fc_row_types.proofs.Holding.{holds_apart, holds_at_head, holds_binder, holds_binders, holds_binds, holds_joins, holds_right_sides}
use Rattle.fc_row_types.proofs.Made.{either_way, if_some_inv, made_inv, none_some, part_inv}

-- ARGUMENTS

-- arguments of the same types, each an atom where the other was one
pub data AsGiven : List Given → List Given → Type 0 where
  none_given : AsGiven [] []
  as_term : {t : NTy} {a b : Bool} {gs hs : List Given} → (a ≡ true → b ≡ true) → AsGiven gs hs → AsGiven (GivenTerm t a ∷ gs) (GivenTerm t b ∷ hs)
  as_itself : {g : Given} {gs hs : List Given} → AsGiven gs hs → AsGiven (g ∷ gs) (g ∷ hs)

pub as_themselves : (gs : List Given) → AsGiven gs gs
as_themselves [] = none_given
as_themselves (g ∷ gs) = as_itself (as_themselves gs)

atom_still : (i a b : Bool) → (a ≡ true → b ≡ true) → not i || a ≡ true → not i || b ≡ true
atom_still true a b keeps h = keeps h
atom_still false a b keeps h = refl

pub taken_still : {t u : NTy} {gs hs : List Given} → Takes t gs u → AsGiven gs hs → Takes t hs u
taken_still h none_given = h
taken_still (takes_term {s = s} fits rest) (as_term {a = a} {b = b} keeps more) = takes_term (atom_still (is_unlifted s) a b keeps fits) (taken_still rest more)
taken_still (takes_type rest) (as_itself more) = takes_type (taken_still rest more)
taken_still (takes_term fits rest) (as_itself more) = takes_term fits (taken_still rest more)
taken_still (takes_coercion rest) (as_itself more) = takes_coercion (taken_still rest more)

pub given_length : {gs hs : List Given} → AsGiven gs hs → length hs ≡ length gs
given_length none_given = refl
given_length (as_term keeps more) = ap suc (given_length more)
given_length (as_itself more) = ap suc (given_length more)

bound_atom : (r : Bool) (a b : Bool) → (a ≡ true → b ≡ true) → (not r && a) ≡ true → (not r && b) ≡ true
bound_atom true a b keeps h = h
bound_atom false a b keeps h = keeps h

bind_atom : (t : NTy) (r a b : Bool) → (a ≡ true → b ≡ true) → atom_fits t (not r && a) ≡ true → atom_fits t (not r && b) ≡ true
bind_atom t r a b keeps h = atom_still (is_unlifted t) (not r && a) (not r && b) (bound_atom r a b keeps) h

-- CONTEXTS

pub binders_context : (bs : List NBinder) (s : Surroundings) → (behind_binders bs s).context ≡ with_binders bs s.context
binders_context [] s = refl
binders_context (NBValue t ∷ bs) s = binders_context bs (behind_binder (NBValue t) s)
binders_context (NBType k ∷ bs) s = binders_context bs (behind_binder (NBType k) s)
binders_context (NBCo r t u ∷ bs) s = binders_context bs (behind_binder (NBCo r t u) s)

sides_context : (r : Bool) (bs : NBinds) (s : Surroundings) → without_joins (if r then with_binds bs s.context else s.context) ≡ (at_right_sides r bs s).context
sides_context true bs s = refl
sides_context false bs s = refl

join_sides_context : (r : Bool) (t : NTy) (js : NJoins) (s : Surroundings) → (if r then with_joins t js s.context else s.context) ≡ (at_join_sides r t js s).context
join_sides_context true t js s = refl
join_sides_context false t js s = refl

module _ (ms : Modules) (declared : AreDeclaredKinded ms) (alternatives : AlternativesHold ms) (row : Surroundings → NExpr → Option NExpr)
    (keeps : KeepsTypes ms row) (atoms : KeepsAtoms row) (co : List Kind → List Ends → NCo → Option NCo) (proofs : KeepsProofs ms co) where
  -- a part is no atom
  atom_kept : (s : Surroundings) (p : List ℕ) (e f : NExpr) → s.arguments ≡ NoNArgs → changed row co s p e ≡ Some f → is_atom e ≡ true → is_atom f ≡ true
  atom_kept s [] e f a h atom = atoms s e f a h atom
  atom_kept s (i ∷ p) (NLocal v) f a h atom = none_some h
  atom_kept s (i ∷ p) (NVar n) f a h atom = none_some h
  atom_kept s (i ∷ p) (NLit n) f a h atom = none_some h
  atom_kept s (i ∷ p) e f a h atom = false_true atom

  -- binds and join points bind as before
  binds_alike : (s : Surroundings) (i : ℕ) (p : List ℕ) (bs cs : NBinds) → changed_binds row co s i p bs ≡ Some cs → (c : Context) → with_binds cs c ≡ with_binds bs c
  binds_alike s i p NoNBinds cs h c = none_some h
  binds_alike s zero p (MoreNBinds (NBound t e) rest) cs h c =
      let m = made_inv (λ f. MoreNBinds (NBound t f) rest) (in_part 1 p (λ q. changed row co s q e)) cs h in
      subst (λ x. with_binds x c ≡ with_binds (MoreNBinds (NBound t e) rest) c) m.2 refl
  binds_alike s (suc i) p (MoreNBinds (NBound t e) rest) cs h c =
      let m = made_inv (λ more. MoreNBinds (NBound t e) more) (changed_binds row co s i p rest) cs h in
      subst (λ x. with_binds x c ≡ with_binds (MoreNBinds (NBound t e) rest) c) m.2 (binds_alike s i p rest m.0 m.1 (with_value t c))

  joins_alike : (s : Surroundings) (i : ℕ) (p : List ℕ) (js ks : NJoins) → changed_joins row co s i p js ≡ Some ks → (t : NTy) (c : Context) → with_joins t ks c ≡ with_joins t js c
  joins_alike s i p NoNJoins ks h t c = none_some h
  joins_alike s zero p (MoreNJoins (NJoined ps e) rest) ks h t c =
      let m = made_inv (λ f. MoreNJoins (NJoined ps f) rest) (in_part (length ps) p (λ q. changed row co (behind_binders ps s) q e)) ks h in
      subst (λ x. with_joins t x c ≡ with_joins t (MoreNJoins (NJoined ps e) rest) c) m.2 refl
  joins_alike s (suc i) p (MoreNJoins (NJoined ps e) rest) ks h t c =
      let m = made_inv (λ more. MoreNJoins (NJoined ps e) more) (changed_joins row co s i p rest) ks h in
      subst (λ x. with_joins t x c ≡ with_joins t (MoreNJoins (NJoined ps e) rest) c) m.2 (joins_alike s i p rest m.0 m.1 t (with_join (join_point t ps) c))

  no_arguments : (r : Bool) (bs : NBinds) (s : Surroundings) → (at_right_sides r bs s).arguments ≡ NoNArgs
  no_arguments true bs s = refl
  no_arguments false bs s = refl

  binder_context : (b : NBinder) (s : Surroundings) → (behind_binder b s).context ≡ with_binder b s.context
  binder_context (NBValue t) s = refl
  binder_context (NBType k) s = refl
  binder_context (NBCo r t u) s = refl

  holds_join_sides : (r : Bool) (t : NTy) (js : NJoins) (s : Surroundings) → Holds ms s → IsValueType ms s.context.kinds t
      → JoinsHaveType ms (if r then with_joins t js s.context else s.context) t js → Holds ms (at_join_sides r t js s)
  holds_join_sides true t js s g v b = holds_joins ms declared true t js s g v b
  holds_join_sides false t js s g v b = record { kinded = g.kinded; lifted = g.lifted; locals = g.locals; rights = g.rights; names = g.names; points = g.points }

  first_as : {x y : Given} → AsGiven (x ∷ []) (y ∷ []) → (gs : List Given) → AsGiven (x ∷ gs) (y ∷ gs)
  first_as (as_term keeps more) gs = as_term keeps (as_themselves gs)
  first_as (as_itself more) gs = as_itself (as_themselves gs)

  -- one alternative, the body of which keeps its type where its head fits
  alternative_kept : (s : Surroundings) (k : Head) (bs : List NBinder) (d f : NExpr) (rest : NAlts) (u rt : NTy) (b : Before) → head_binds k bs ≡ true
      → (HeadFits ms s.context.kinds u k bs → HasType ms (with_binders bs (with_value u s.context)) d (raised_type (type_count bs) rt)
      → HasType ms (with_binders bs (with_value u s.context)) f (raised_type (type_count bs) rt))
      → AltsFit ms (with_value u s.context) u rt b (MoreNAlts (NBranch k bs d) rest) → AltsFit ms (with_value u s.context) u rt b (MoreNAlts (NBranch k bs f) rest)
  alternative_kept s head.Default [] d f rest u rt b binds body (default_alt k q order more) = default_alt k (body default_fits q) order more
  alternative_kept s head.Default (x ∷ bs) d f rest u rt b binds body q = false_true binds
  alternative_kept s (head.Lit n) [] d f rest u rt b binds body (literal_alt k q int order more) = literal_alt k (body (literal_fits int) q) int order more
  alternative_kept s (head.Lit n) (x ∷ bs) d f rest u rt b binds body q = false_true binds
  alternative_kept s (head.Con n) bs d f rest u rt b binds body (con_alt m k q found is order fits more) =
      con_alt m k (body (constructor_fits m k found is fits) q) found is order fits more

  -- the alternatives behind one
  later_kept : (s : Surroundings) (a : NAlt) (rest others : NAlts) (u rt : NTy) (b : Before)
      → ((c : Before) → AltsFit ms (with_value u s.context) u rt c rest → AltsFit ms (with_value u s.context) u rt c others)
      → AltsFit ms (with_value u s.context) u rt b (MoreNAlts a rest) → AltsFit ms (with_value u s.context) u rt b (MoreNAlts a others)
  later_kept s a rest others u rt b later (default_alt k q order more) = default_alt k q order (later _ more)
  later_kept s a rest others u rt b later (literal_alt k q int order more) = literal_alt k q int order (later _ more)
  later_kept s a rest others u rt b later (con_alt m k q found is order fits more) = con_alt m k q found is order fits (later _ more)

  -- the body of an alternative
  in_body : (s : Surroundings) (e : NExpr) (t : NTy) (hs : List Head) (h : Head) (bs : List NBinder) → (in_alternative e t hs h bs s).context ≡ with_binders bs (with_value t s.context)
  in_body s e t hs h bs = binders_context bs (behind_binder (NBValue t) s)

  mutual
    pub kept : (s : Surroundings) → Holds ms s → (p : List ℕ) (e f : NExpr) → changed row co s p e ≡ Some f → (t : NTy) → HasType ms s.context e t → HasType ms s.context f t
    kept s g [] e f h t typed = keeps s g e f h t typed
    kept s g (i ∷ p) (NLocal v) f h t typed = none_some h
    kept s g (i ∷ p) (NVar n) f h t typed = none_some h
    kept s g (i ∷ p) (NLit n) f h t typed = none_some h
    kept s g (zero ∷ p) (NApp e a) f h t (typed_application u x q given takes) =
        let m = made_inv (λ d. NApp d a) (changed row co (at_head a s) p e) f h in
        subst (λ y. HasType ms s.context y t) m.2
        (typed_application u x (kept (at_head a s) (holds_at_head ms declared a s g) p e m.0 m.1 u q) given takes)
    kept s g (suc zero ∷ p) (NApp e a) f h t (typed_application u x q given takes) =
        let m = made_inv (λ b. NApp e b) (changed_arg row co (apart s) p a) f h in
        let k = arg_kept (apart s) (holds_apart ms declared s g) refl p a m.0 m.1 x given in
        subst (λ y. HasType ms s.context y t) m.2 (typed_application u k.0 q k.1 (taken_still takes k.2))
    kept s g (suc (suc i) ∷ p) (NApp e a) f h t typed = none_some h
    kept s g (zero ∷ p) (NLam b e) f h t typed = none_some h
    kept s g (suc zero ∷ p) (NLam b e) f h t (typed_lambda {u = u} k q fits) =
        let m = made_inv (λ d. NLam b d) (changed row co (behind_binder b (apart s)) p e) f h in
        let inner = holds_binder ms declared b (apart s) (holds_apart ms declared s g) k in
        let typed = subst (λ c. HasType ms c e u) (sym (binder_context b (apart s))) q in
        subst (λ y. HasType ms s.context y (over_binder b u)) m.2
        (typed_lambda k (subst (λ c. HasType ms c m.0 u) (binder_context b (apart s)) (kept (behind_binder b (apart s)) inner p e m.0 m.1 u typed)) fits)
    kept s g (suc (suc i) ∷ p) (NLam b e) f h t typed = none_some h
    kept s g (i ∷ p) (NLet r bs e) f h t (typed_let b q) =
        either_way (λ y. HasType ms s.context y t) (nat_eq i (bind_count bs)) _ _ f h
        (λ k.
        let m = made_inv (λ d. NLet r bs d) (changed row co (behind_binds r bs s) p e) f k in
        subst (λ y. HasType ms s.context y t) m.2 (typed_let b (kept (behind_binds r bs s) (holds_binds ms declared r bs s g b) p e m.0 m.1 t q)))
        (λ k.
        let m = made_inv (λ cs. NLet r cs e) (changed_binds row co (at_right_sides r bs s) i p bs) f k in
        let alike = binds_alike (at_right_sides r bs s) i p bs m.0 m.1 s.context in
        let sides = binds_kept (at_right_sides r bs s) (holds_right_sides ms declared r bs s g b) (no_arguments r bs s) i p bs m.0 m.1 r
        (subst (λ c. BindsHaveTypes ms c r bs) (sides_context r bs s) b) in
        let outer = subst (λ c. BindsHaveTypes ms c r m.0) (sym (sides_context r bs s)) sides in
        subst (λ y. HasType ms s.context y t) m.2
        (typed_let (subst (λ d. BindsHaveTypes ms (without_joins (if r then d else s.context)) r m.0) (sym alike) outer) (subst (λ d. HasType ms d e t) (sym alike) q)))
    kept s g (zero ∷ p) (NCase e u rt alts) f h t (typed_case j k q uk rk fit v) =
        let m = made_inv (λ d. NCase d u rt alts) (changed row co (apart s) p e) f h in
        subst (λ y. HasType ms s.context y t) m.2 (typed_case j k (kept (apart s) (holds_apart ms declared s g) p e m.0 m.1 u q) uk rk fit v)
    kept s g (suc zero ∷ p) (NCase e u rt alts) f h t typed = none_some h
    kept s g (suc (suc zero) ∷ p) (NCase e u rt alts) f h t typed = none_some h
    kept s g (suc (suc (suc i)) ∷ p) (NCase e u rt alts) f h t (typed_case j k q uk rk fit v) =
        let m = made_inv (λ bs. NCase e u rt bs) (changed_alts row co s e u (listed_heads alts) i p alts) f h in
        subst (λ y. HasType ms s.context y t) m.2
        (typed_case j k q uk rk (alts_kept s g e u j q uk (listed_heads alts) i p alts m.0 m.1 rt _ fit) v)
    kept s g (zero ∷ p) (NCast e g1) f h t (typed_cast {s = u} q proves) =
        let m = made_inv (λ d. NCast d g1) (changed row co (apart s) p e) f h in
        subst (λ y. HasType ms s.context y t) m.2 (typed_cast (kept (apart s) (holds_apart ms declared s g) p e m.0 m.1 u q) proves)
    kept s g (suc zero ∷ p) (NCast e g2) f h t (typed_cast {s = u} q proves) =
        let m = made_inv (λ x. NCast e x) (changed_coercion co s.context.kinds s.context.coercions p g2) f h in
        subst (λ y. HasType ms s.context y t) m.2 (typed_cast q (proof_kept ms co proofs s.context.kinds s.context.coercions g.kinded.coercions p g2 m.0 m.1 R u t proves))
    kept s g (suc (suc i) ∷ p) (NCast e g2) f h t typed = none_some h
    kept s g (i ∷ p) (NCon n args) f h t (typed_con k gs found q long takes) =
        let m = made_inv (λ more. NCon n more) (changed_args row co (apart s) i p args) f h in
        let a = args_kept (apart s) (holds_apart ms declared s g) refl i p args m.0 m.1 gs q in
        subst (λ y. HasType ms s.context y t) m.2 (typed_con k a.0 found a.1 (given_length a.2 ∙ long) (taken_still takes a.2))
    kept s g (i ∷ p) (NPrim op NoNExprs) f h t typed = elim typed [ ]
    kept s g (i ∷ p) (NPrim op (MoreNExprs a NoNExprs)) f h t typed = elim typed [ ]
    kept s g (i ∷ p) (NPrim op (MoreNExprs a (MoreNExprs b (MoreNExprs c more)))) f h t typed = elim typed [ ]
    kept s g (zero ∷ p) (NPrim op (MoreNExprs a (MoreNExprs b NoNExprs))) f h t (typed_prim q x w y) =
        let n = made_inv (λ fs. NPrim op fs) (changed_exprs row co (apart s) zero p (MoreNExprs a (MoreNExprs b NoNExprs))) f h in
        let m = made_inv (λ c. MoreNExprs c (MoreNExprs b NoNExprs)) (changed row co (apart s) p a) n.0 n.1 in
        subst (λ z. HasType ms s.context z NTInt) (ap (NPrim op) m.2 ∙ n.2)
        (typed_prim (kept (apart s) (holds_apart ms declared s g) p a m.0 m.1 NTInt q) (atom_kept (apart s) p a m.0 refl m.1 x) w y)
    kept s g (suc zero ∷ p) (NPrim op (MoreNExprs a (MoreNExprs b NoNExprs))) f h t (typed_prim q x w y) =
        let l = made_inv (λ fs. NPrim op fs) (changed_exprs row co (apart s) (suc zero) p (MoreNExprs a (MoreNExprs b NoNExprs))) f h in
        let n = made_inv (λ more. MoreNExprs a more) (changed_exprs row co (apart s) zero p (MoreNExprs b NoNExprs)) l.0 l.1 in
        let m = made_inv (λ c. MoreNExprs c NoNExprs) (changed row co (apart s) p b) n.0 n.1 in
        subst (λ z. HasType ms s.context z NTInt) (ap (λ more. NPrim op (MoreNExprs a more)) m.2 ∙ ap (NPrim op) n.2 ∙ l.2)
        (typed_prim q x (kept (apart s) (holds_apart ms declared s g) p b m.0 m.1 NTInt w) (atom_kept (apart s) p b m.0 refl m.1 y))
    kept s g (suc (suc i) ∷ p) (NPrim op (MoreNExprs a (MoreNExprs b NoNExprs))) f h t (typed_prim q x w y) =
        let l = made_inv (λ fs. NPrim op fs) (changed_exprs row co (apart s) (suc (suc i)) p (MoreNExprs a (MoreNExprs b NoNExprs))) f h in
        let n = made_inv (λ more. MoreNExprs a more) (changed_exprs row co (apart s) (suc i) p (MoreNExprs b NoNExprs)) l.0 l.1 in
        let m = made_inv (λ more. MoreNExprs b more) (changed_exprs row co (apart s) i p NoNExprs) n.0 n.1 in
        none_some m.1
    kept s g (i ∷ p) (NFail u) f h t typed = none_some h
    kept s g (zero ∷ p) (NJoin r u js e) f h t typed = none_some h
    kept s g (suc i ∷ p) (NJoin r u js e) f h t (typed_join k uk b q v) =
        either_way (λ y. HasType ms s.context y u) (nat_eq i (join_count js)) _ _ f h
        (λ w.
        let m = made_inv (λ d. NJoin r u js d) (changed row co (behind_joins r u js s) p e) f w in
        subst (λ y. HasType ms s.context y u) m.2 (typed_join k uk b (kept (behind_joins r u js s) (holds_joins ms declared r u js s g (k, uk, v) b) p e m.0 m.1 u q) v))
        (λ w.
        let m = made_inv (λ ks. NJoin r u ks e) (changed_joins row co (at_join_sides r u js s) i p js) f w in
        let alike = joins_alike (at_join_sides r u js s) i p js m.0 m.1 u s.context in
        let sides = joins_kept (at_join_sides r u js s) (holds_join_sides r u js s g (k, uk, v) b) i p js m.0 m.1 u
        (subst (λ c. JoinsHaveType ms c u js) (join_sides_context r u js s) b) in
        let outer = subst (λ c. JoinsHaveType ms c u m.0) (sym (join_sides_context r u js s)) sides in
        subst (λ y. HasType ms s.context y u) m.2
        (typed_join k uk (subst (λ d. JoinsHaveType ms (if r then d else s.context) u m.0) (sym alike) outer) (subst (λ d. HasType ms d e u) (sym alike) q) v))
    kept s g (i ∷ p) (NJump j args) f h t (typed_jump l gs u at q long takes) =
        let m = made_inv (λ more. NJump j more) (changed_args row co (apart s) i p args) f h in
        let a = args_kept (apart s) (holds_apart ms declared s g) refl i p args m.0 m.1 gs q in
        subst (λ y. HasType ms s.context y t) m.2 (typed_jump l a.0 u at a.1 (given_length a.2 ∙ long) (taken_still takes a.2))

    pub arg_kept : (s : Surroundings) → Holds ms s → s.arguments ≡ NoNArgs → (p : List ℕ) (a b : NArg) → changed_arg row co s p a ≡ Some b → (x : Given) → ArgIsGiven ms s.context a x
        → (y : Given) × ArgIsGiven ms s.context b y × AsGiven (x ∷ []) (y ∷ [])
    arg_kept s g none p (NATerm e) b h x (given_term {t = t} q) =
        let m = made_inv NATerm (changed row co s p e) b h in (
          GivenTerm t (is_atom m.0),
          subst (λ z. ArgIsGiven ms s.context z (GivenTerm t (is_atom m.0))) m.2 (given_term (kept s g p e m.0 m.1 t q)),
          as_term (atom_kept s p e m.0 none m.1) none_given,
        )
    arg_kept s g none p (NAType u) b h x q = none_some h
    arg_kept s g none p (NACo g2) b h x (given_coercion {r = r} {s = u} {t = v} q) =
        let m = made_inv NACo (changed_coercion co s.context.kinds s.context.coercions p g2) b h in (
          GivenCoercion r u v,
          subst (λ z. ArgIsGiven ms s.context z (GivenCoercion r u v)) m.2 (given_coercion (proof_kept ms co proofs s.context.kinds s.context.coercions g.kinded.coercions p g2 m.0 m.1 r u v q)),
          as_itself none_given,
        )

    pub args_kept : (s : Surroundings) → Holds ms s → s.arguments ≡ NoNArgs → (i : ℕ) (p : List ℕ) (args more : NArgs) → changed_args row co s i p args ≡ Some more
        → (gs : List Given) → ArgsAreGiven ms s.context args gs → (hs : List Given) × ArgsAreGiven ms s.context more hs × AsGiven gs hs
    args_kept s g none i p NoNArgs more h gs q = none_some h
    args_kept s g none zero p (MoreNArgs a rest) more h gs (one_arg {g = x} {gs = xs} q w) =
        let m = made_inv (λ b. MoreNArgs b rest) (changed_arg row co s p a) more h in
        let k = arg_kept s g none p a m.0 m.1 x q in
        (k.0 ∷ xs, subst (λ z. ArgsAreGiven ms s.context z (k.0 ∷ xs)) m.2 (one_arg k.1 w), first_as k.2 xs)
    args_kept s g none (suc i) p (MoreNArgs a rest) more h gs (one_arg {g = x} {gs = xs} q w) =
        let m = made_inv (λ others. MoreNArgs a others) (changed_args row co s i p rest) more h in
        let k = args_kept s g none i p rest m.0 m.1 xs w in
        (x ∷ k.0, subst (λ z. ArgsAreGiven ms s.context z (x ∷ k.0)) m.2 (one_arg q k.1), as_itself k.2)

    pub binds_kept : (s : Surroundings) → Holds ms s → s.arguments ≡ NoNArgs → (i : ℕ) (p : List ℕ) (bs cs : NBinds) → changed_binds row co s i p bs ≡ Some cs → (r : Bool)
        → BindsHaveTypes ms s.context r bs → BindsHaveTypes ms s.context r cs
    binds_kept s g none i p NoNBinds cs h r q = none_some h
    binds_kept s g none zero p (MoreNBinds (NBound t e) rest) cs h r (one_bind k tk v q fits more) =
        let m = made_inv (λ f. MoreNBinds (NBound t f) rest) (in_part 1 p (λ q. changed row co s q e)) cs h in
        let w = part_inv 1 p (λ q. changed row co s q e) m.0 m.1 in
        subst (λ z. BindsHaveTypes ms s.context r z) m.2
        (one_bind k tk v (kept s g w.0 e m.0 w.1 t q) (bind_atom t r (is_atom e) (is_atom m.0) (atom_kept s w.0 e m.0 none w.1) fits) more)
    binds_kept s g none (suc i) p (MoreNBinds (NBound t e) rest) cs h r (one_bind k tk v q fits more) =
        let m = made_inv (λ others. MoreNBinds (NBound t e) others) (changed_binds row co s i p rest) cs h in
        subst (λ z. BindsHaveTypes ms s.context r z) m.2 (one_bind k tk v q fits (binds_kept s g none i p rest m.0 m.1 r more))

    pub joins_kept : (s : Surroundings) → Holds ms s → (i : ℕ) (p : List ℕ) (js ks : NJoins) → changed_joins row co s i p js ≡ Some ks → (t : NTy)
        → JoinsHaveType ms s.context t js → JoinsHaveType ms s.context t ks
    joins_kept s g i p NoNJoins ks h t q = none_some h
    joins_kept s g zero p (MoreNJoins (NJoined ps e) rest) ks h t (one_join k q more) =
        let m = made_inv (λ f. MoreNJoins (NJoined ps f) rest) (in_part (length ps) p (λ q. changed row co (behind_binders ps s) q e)) ks h in
        let w = part_inv (length ps) p (λ q. changed row co (behind_binders ps s) q e) m.0 m.1 in
        let u = raised_type (type_count ps) t in
        let inner = kept (behind_binders ps s) (holds_binders ms declared ps s g k) w.0 e m.0 w.1 u (subst (λ c. HasType ms c e u) (sym (binders_context ps s)) q) in
        subst (λ z. JoinsHaveType ms s.context t z) m.2 (one_join k (subst (λ c. HasType ms c m.0 u) (binders_context ps s) inner) more)
    joins_kept s g (suc i) p (MoreNJoins (NJoined ps e) rest) ks h t (one_join k q more) =
        let m = made_inv (λ others. MoreNJoins (NJoined ps e) others) (changed_joins row co s i p rest) ks h in
        subst (λ z. JoinsHaveType ms s.context t z) m.2 (one_join k q (joins_kept s g i p rest m.0 m.1 t more))

    pub alts_kept : (s : Surroundings) → Holds ms s → (e : NExpr) (u : NTy) (j : Kind) → HasType ms (without_joins s.context) e u → HasKind ms s.context.kinds u j
        → (hs : List Head) (i : ℕ) (p : List ℕ) (alts blts : NAlts) → changed_alts row co s e u hs i p alts ≡ Some blts → (rt : NTy) (b : Before)
        → AltsFit ms (with_value u s.context) u rt b alts → AltsFit ms (with_value u s.context) u rt b blts
    alts_kept s g e u j x y hs i p NoNAlts blts h rt b q = none_some h
    alts_kept s g e u j x y hs zero p (MoreNAlts (NBranch k bs d) rest) blts h rt b q =
        let m = made_inv (λ c. MoreNAlts (NBranch k bs c) rest) (if head_binds k bs then in_part (length bs) p (λ q. changed row co (in_alternative e u hs k bs s) q d) else None) blts h in
        let n = if_some_inv (head_binds k bs) (in_part (length bs) p (λ q. changed row co (in_alternative e u hs k bs s) q d)) m.0 m.1 in
        let w = part_inv (length bs) p (λ q. changed row co (in_alternative e u hs k bs s) q d) m.0 n.1 in
        let body : HeadFits ms s.context.kinds u k bs → HasType ms (with_binders bs (with_value u s.context)) d (raised_type (type_count bs) rt)
        → HasType ms (with_binders bs (with_value u s.context)) m.0 (raised_type (type_count bs) rt) =
        λ fits typed. subst (λ c. HasType ms c m.0 (raised_type (type_count bs) rt)) (in_body s e u hs k bs)
        (kept (in_alternative e u hs k bs s) (alternatives s g e u j x y hs k bs fits) w.0 d m.0 w.1 (raised_type (type_count bs) rt)
        (subst (λ c. HasType ms c d (raised_type (type_count bs) rt)) (sym (in_body s e u hs k bs)) typed)) in
        subst (λ z. AltsFit ms (with_value u s.context) u rt b z) m.2 (alternative_kept s k bs d m.0 rest u rt b n.0 body q)
    alts_kept s g e u j x y hs (suc i) p (MoreNAlts a rest) blts h rt b q =
        let m = made_inv (λ others. MoreNAlts a others) (changed_alts row co s e u hs i p rest) blts h in
        subst (λ z. AltsFit ms (with_value u s.context) u rt b z) m.2
        (later_kept s a rest m.0 u rt b (λ c. alts_kept s g e u j x y hs i p rest m.0 m.1 rt c) q)
