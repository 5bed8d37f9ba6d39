-- A change at a place by a row that is a function is a change at one place by that row as a relation.
use Rattle.std.proofs.Common.{◌≡◌, ℕ, zero, suc, Bool, true, false, nat_eq, if◌then◌else◌, List, [], ◌∷◌, length, Some, None, refl, sym, ap, ◌∙◌, subst}
use Rattle.fc_syntax.specs.Tree.{Kind}
use Rattle.fc_syntax.specs.declared.expr.Head.{Head}
use Rattle.fc_syntax.specs.declared.expr.Head.TheVariants as head
use Rattle.fc_model.specs.Calling.{Given, type_count}
use Rattle.fc_model.specs.Coercing.{Ends}
use Rattle.fc_model.specs.Erasure.{below_binds}
use Rattle.fc_model.specs.Kinding.{Modules, HasKind}
use Rattle.fc_model.specs.Nameless.{NTy, NCo}
use Rattle.fc_model.specs.Nameless.{NBinder, NBValue, NArg, NATerm, NAType, NACo, NBound, NJoined, NAlt, NBranch, NExpr, NLocal, NVar, NLit, NApp, NLam, NLet, NCase, NCast, NCon, NPrim}
use Rattle.fc_model.specs.Nameless.{NFail, NJoin, NJump, NArgs, NoNArgs, MoreNArgs, NExprs, NoNExprs, MoreNExprs, NBinds, NoNBinds, MoreNBinds, NJoins, NoNJoins, MoreNJoins, NAlts, NoNAlts}
use Rattle.fc_model.specs.Nameless.{MoreNAlts}
use Rattle.fc_model.specs.Replacing.{bind_count, join_count}
use Rattle.fc_model.specs.Substituting.{raised_type}
use Rattle.fc_model.specs.Typing.{Before, is_atom, with_binders, with_value, without_joins}
use Rattle.fc_model.specs.TypingLaws.{AreDeclaredKinded}
use Rattle.fc_model.specs.TypingRules.{HasType, typed_application, typed_lambda, typed_let, typed_case, typed_cast, typed_con, typed_prim, typed_join, typed_jump, ArgIsGiven, given_term}
use Rattle.fc_model.specs.TypingRules.{ArgsAreGiven, one_arg, BindsHaveTypes, one_bind, JoinsHaveType, one_join, AltsFit, default_alt, literal_alt, con_alt}
use Rattle.fc_model.proofs.Sameness.{false_true}
use Rattle.fc_rows.specs.Changing.{changed, changed_alts, changed_arg, changed_args, changed_binds, changed_exprs, changed_joins, in_part}
use Rattle.fc_rows.specs.ChangingCoercions.{as_they_are, changed_coercion}
use Rattle.fc_rows.specs.Surroundings.{Surroundings, apart, at_head as applied_to, behind_binder, behind_binders, behind_binds, behind_joins, head_binds, in_alternative, listed_heads}
use Rattle.fc_row_types.specs.TypesKept.{Holds, KeepsTypes, SparesAtoms, ExpressionRow}
use Rattle.fc_row_types.proofs.ChangesKept.{binders_context, binds_kept}
use Rattle.fc_row_types.proofs.CoercionsChanged.{as_they_are_keeps}
use Rattle.fc_row_types.proofs.HeadFits.{AlternativesHold, HeadFits, default_fits, literal_fits, constructor_fits}
use Rattle.fc_row_types.proofs.Holding.{holds_apart, holds_at_head, holds_binder, holds_binders, holds_binds, holds_joins, holds_right_sides}
use Rattle.fc_row_types.proofs.InAlternative.{alternatives_hold}
use Rattle.fc_row_types.proofs.Made.{either_way, if_some_inv, made_inv, none_some, part_inv}
use Rattle.fc_meaning.proofs.HeldDeclarations.{AreHeld}
use Rattle.fc_meaning.proofs.ScopesFit.{agrees, fits_binds, fits_values}
use Rattle.fc_meaning.proofs.WrittenExpressions.{AreAltsWritten, AreArgsWritten, AreBindsWritten, AreJoinsWritten, HasOwnBinders, IsArgWritten, IsWritten}
use Rattle.fc_parts.proofs.Changes.{changes_none}
use Rattle.fc_row_places.specs.NamelessChanges.{NPartRelation}
use Rattle.fc_row_places.specs.NamelessPlaces.{NPlace, NBelow, NBelowAll, NPastLet, NPastGroup, NPastJoin, NPastJoins, NInAlt, scope_at}
use Rattle.fc_kept_meaning.specs.OnePlace.{AtOnePlace, at_here, at_head, at_argument, at_lambda, at_right, at_body, at_group_right, at_group_body, at_scrutinee, at_alternative, at_cast}
use Rattle.fc_kept_meaning.specs.OnePlace.{at_field, at_jump_argument, at_join_right, at_join_body, at_joins_right, at_joins_body, AtOneArg, first_arg, later_arg, AtOneBind, first_bind}
use Rattle.fc_kept_meaning.specs.OnePlace.{later_bind, AtOneJoin, first_join, later_join, AtOneAlt, first_alt, later_alt}
use Rattle.fc_row_meaning.specs.PlacedRows.{Around, around_alternative, around_apart, around_below, around_group, around_head, around_join, around_joins, around_let, around_parameters}
use Rattle.fc_row_meaning.specs.PlacedRows.{around_unapplied, RowAs}
use Rattle.fc_row_meaning.specs.RowMeaningLaws.{ChangesArePlaced}
use Rattle.fc_row_meaning.specs.SharedRights.{AllShare, KeepsValues}
use Rattle.fc_row_meaning.proofs.ScopesAround.{scope_fits}
use Rattle.fc_row_meaning.proofs.ValuesKept.{all_share, all_share_themselves}

-- COERCIONS STAY

-- where no coercion is replaced, none is changed
pub no_coercion : (ks : List Kind) (cs : List Ends) (p : List ℕ) (g h : NCo) → changed_coercion as_they_are ks cs p g ≡ Some h → ⊥
no_coercion ks cs p g h changes = none_some (sym (changes_none ks cs p g) ∙ changes)

-- ALTERNATIVES

-- what the change of an alternative tests
pub own_binders_of : (h : Head) (bs : List NBinder) → head_binds h bs ≡ true → HasOwnBinders h bs
own_binders_of head.Default [] h = refl
own_binders_of head.Default (b ∷ bs) h = false_true h
own_binders_of (head.Lit n) [] h = refl
own_binders_of (head.Lit n) (b ∷ bs) h = false_true h
own_binders_of (head.Con n) bs h = tt

module _ (ms : Modules) where
  -- the head and the body of the first alternative
  first_fits : (s : Surroundings) (k : Head) (bs : List NBinder) (d : NExpr) (rest : NAlts) (u rt : NTy) (b : Before) → head_binds k bs ≡ true
      → AltsFit ms (with_value u s.context) u rt b (MoreNAlts (NBranch k bs d) rest) → HeadFits ms s.context.kinds u k bs × HasType ms (with_binders bs (with_value u s.context)) d (raised_type (type_count bs) rt)
  first_fits s head.Default [] d rest u rt b binds (default_alt k q order more) = (default_fits, q)
  first_fits s head.Default (x ∷ bs) d rest u rt b binds q = false_true binds
  first_fits s (head.Lit n) [] d rest u rt b binds (literal_alt k q int order more) = (literal_fits int, q)
  first_fits s (head.Lit n) (x ∷ bs) d rest u rt b binds q = false_true binds
  first_fits s (head.Con n) bs d rest u rt b binds (con_alt m k q found is order fits more) = (constructor_fits m k found is fits, q)

  -- the alternatives behind it
  later_fit : (s : Surroundings) (a : NAlt) (rest : NAlts) (u rt : NTy) (b : Before) → AltsFit ms (with_value u s.context) u rt b (MoreNAlts a rest) → (c : Before) × AltsFit ms (with_value u s.context) u rt c rest
  later_fit s a rest u rt b (default_alt k q order more) = (_, more)
  later_fit s a rest u rt b (literal_alt k q int order more) = (_, more)
  later_fit s a rest u rt b (con_alt m k q found is order fits more) = (_, more)

-- GROUPS

module _ (row : ExpressionRow) where
  -- binds and join points are as many as before
  pub binds_count : (s : Surroundings) (i : ℕ) (p : List ℕ) (bs cs : NBinds) → changed_binds row as_they_are s i p bs ≡ Some cs → bind_count bs ≡ bind_count cs
  binds_count s i p NoNBinds cs h = none_some h
  binds_count s zero p (MoreNBinds (NBound t e) rest) cs h =
      let m = made_inv (λ f. MoreNBinds (NBound t f) rest) (in_part 1 p (λ q. changed row as_they_are s q e)) cs h in ap bind_count m.2
  binds_count s (suc i) p (MoreNBinds b rest) cs h =
      let m = made_inv (λ more. MoreNBinds b more) (changed_binds row as_they_are s i p rest) cs h in ap suc (binds_count s i p rest m.0 m.1) ∙ ap bind_count m.2

  pub joins_count : (s : Surroundings) (i : ℕ) (p : List ℕ) (js ks : NJoins) → changed_joins row as_they_are s i p js ≡ Some ks → join_count js ≡ join_count ks
  joins_count s i p NoNJoins ks h = none_some h
  joins_count s zero p (MoreNJoins (NJoined ps e) rest) ks h =
      let m = made_inv (λ f. MoreNJoins (NJoined ps f) rest) (in_part (length ps) p (λ q. changed row as_they_are (behind_binders ps s) q e)) ks h in ap join_count m.2
  joins_count s (suc i) p (MoreNJoins j rest) ks h =
      let m = made_inv (λ more. MoreNJoins j more) (changed_joins row as_they_are s i p rest) ks h in ap suc (joins_count s i p rest m.0 m.1) ∙ ap join_count m.2

-- PLACES

module _ (ms : Modules) (declared : AreDeclaredKinded ms) (alternatives : AlternativesHold ms) (held : AreHeld ms) (row : ExpressionRow) (spares : SparesAtoms row)
    (keeps : KeepsTypes ms row) (values : KeepsValues row) where
  abbrev Placed : NPartRelation
  Placed = RowAs ms row

  -- where nothing is applied any more
  abbrev unapplied : Surroundings → Surroundings
  unapplied s = record s { arguments = NoNArgs }

  holds_unapplied : (s : Surroundings) → Holds ms s → Holds ms (unapplied s)
  holds_unapplied s g = record { kinded = g.kinded; lifted = g.lifted; locals = g.locals; rights = g.rights; names = g.names; points = g.points }

  -- no part is an atom
  no_atom_changed : (s : Surroundings) (p : List ℕ) (e f : NExpr) → changed row as_they_are s p e ≡ Some f → is_atom e ≡ true → ⊥
  no_atom_changed s [] e f h a = false_true (sym (spares s e f h) ∙ a)
  no_atom_changed s (i ∷ p) (NLocal v) f h a = none_some h
  no_atom_changed s (i ∷ p) (NVar n) f h a = none_some h
  no_atom_changed s (i ∷ p) (NLit n) f h a = none_some h
  no_atom_changed s (i ∷ p) e f h a = false_true a

  -- so no operand of a primitive is changed
  no_operand : (s : Surroundings) (i : ℕ) (p : List ℕ) (a b : NExpr) (fs : NExprs) → changed_exprs row as_they_are s i p (MoreNExprs a (MoreNExprs b NoNExprs)) ≡ Some fs
      → is_atom a ≡ true → is_atom b ≡ true → ⊥
  no_operand s zero p a b fs h x y =
      let m = made_inv (λ f. MoreNExprs f (MoreNExprs b NoNExprs)) (changed row as_they_are s p a) fs h in no_atom_changed s p a m.0 m.1 x
  no_operand s (suc zero) p a b fs h x y =
      let m = made_inv (λ more. MoreNExprs a more) (changed_exprs row as_they_are s zero p (MoreNExprs b NoNExprs)) fs h in
      let n = made_inv (λ f. MoreNExprs f NoNExprs) (changed row as_they_are s p b) m.0 m.1 in no_atom_changed s p b n.0 n.1 y
  no_operand s (suc (suc i)) p a b fs h x y =
      let m = made_inv (λ more. MoreNExprs a more) (changed_exprs row as_they_are s (suc i) p (MoreNExprs b NoNExprs)) fs h in
      let n = made_inv (λ more. MoreNExprs b more) (changed_exprs row as_they_are s i p NoNExprs) m.0 m.1 in none_some n.1

  -- the change of one bind, and of one join point, is one of its right side
  one_bind_changed : (s : Surroundings) (i : ℕ) (p : List ℕ) (x : NTy) (d : NExpr) (cs : NBinds) → changed_binds row as_they_are s i p (MoreNBinds (NBound x d) NoNBinds) ≡ Some cs
      → (q : List ℕ) × (f : NExpr) × (changed row as_they_are s q d ≡ Some f) × (MoreNBinds (NBound x f) NoNBinds ≡ cs)
  one_bind_changed s zero p x d cs h =
      let m = made_inv (λ f. MoreNBinds (NBound x f) NoNBinds) (in_part 1 p (λ q. changed row as_they_are s q d)) cs h in
      let y = part_inv 1 p (λ q. changed row as_they_are s q d) m.0 m.1 in
      (y.0, m.0, y.1, m.2)
  one_bind_changed s (suc i) p x d cs h =
      let m = made_inv (λ more. MoreNBinds (NBound x d) more) (changed_binds row as_they_are s i p NoNBinds) cs h in none_some m.1

  one_join_changed : (s : Surroundings) (i : ℕ) (p : List ℕ) (ps : List NBinder) (d : NExpr) (ks : NJoins) → changed_joins row as_they_are s i p (MoreNJoins (NJoined ps d) NoNJoins) ≡ Some ks
      → (q : List ℕ) × (f : NExpr) × (changed row as_they_are (behind_binders ps s) q d ≡ Some f) × (MoreNJoins (NJoined ps f) NoNJoins ≡ ks)
  one_join_changed s zero p ps d ks h =
      let m = made_inv (λ f. MoreNJoins (NJoined ps f) NoNJoins) (in_part (length ps) p (λ q. changed row as_they_are (behind_binders ps s) q d)) ks h in
      let y = part_inv (length ps) p (λ q. changed row as_they_are (behind_binders ps s) q d) m.0 m.1 in
      (y.0, m.0, y.1, m.2)
  one_join_changed s (suc i) p ps d ks h =
      let m = made_inv (λ more. MoreNJoins (NJoined ps d) more) (changed_joins row as_they_are s i p NoNJoins) ks h in none_some m.1

  -- what a change makes of binds has their types
  changed_binds_typed : (s : Surroundings) → Holds ms s → s.arguments ≡ NoNArgs → (i : ℕ) (p : List ℕ) (bs cs : NBinds) → changed_binds row as_they_are s i p bs ≡ Some cs → (r : Bool)
      → BindsHaveTypes ms s.context r bs → BindsHaveTypes ms s.context r cs
  changed_binds_typed = binds_kept ms declared alternatives row keeps (λ s e f none r atom. false_true (sym (spares s e f r) ∙ atom)) as_they_are (as_they_are_keeps ms)

  -- both sides of the change of a group share values and constructors
  groups_share : (s : Surroundings) (c : NPlace) → Around ms s c → (i : ℕ) (p : List ℕ) (bs cs : NBinds) → changed_binds row as_they_are (apart (behind_binds true bs s)) i p bs ≡ Some cs
      → BindsHaveTypes ms (apart (behind_binds true bs s)).context true bs → BindsHaveTypes ms (apart (behind_binds true bs s)).context true cs → AllShare (below_binds bs (scope_at c)) bs cs
  groups_share s c a i p bs cs h b d =
      let f = scope_fits ms s c a in
      all_share row values ms held (apart (behind_binds true bs s)).context (below_binds bs (scope_at c)) (agrees (fits_values (fits_binds bs f.1))) (apart (behind_binds true bs s)) i p bs cs h true true b d

  mutual
    pub placed : (s : Surroundings) (c : NPlace) → Around ms s c → Holds ms s → (p : List ℕ) (e f : NExpr) → changed row as_they_are s p e ≡ Some f → (t : NTy) → HasType ms s.context e t
        → IsWritten e → AtOnePlace Placed c e f
    placed s c a g [] e f h t typed w = at_here (record { surroundings = s; around = a; holds = g; type = t; typed = typed; written = w; result = h })
    placed s c a g (i ∷ p) (NLocal v) f h t typed w = none_some h
    placed s c a g (i ∷ p) (NVar n) f h t typed w = none_some h
    placed s c a g (i ∷ p) (NLit n) f h t typed w = none_some h
    placed s c a g (zero ∷ p) (NApp e b) f h t (typed_application u x q given takes) w =
        let m = made_inv (λ d. NApp d b) (changed row as_they_are (applied_to b s) p e) f h in
        subst (AtOnePlace Placed c (NApp e b)) m.2 (at_head (placed (applied_to b s) c (around_head a) (holds_at_head ms declared b s g) p e m.0 m.1 u q w.0))
    placed s c a g (suc zero ∷ p) (NApp e b) f h t (typed_application u x q given takes) w =
        let m = made_inv (λ b. NApp e b) (changed_arg row as_they_are (apart s) p b) f h in
        subst (AtOnePlace Placed c (NApp e b)) m.2 (arg_placed (apart s) c (around_apart a) (holds_apart ms declared s g) p b m.0 m.1 x given w.1 e)
    placed s c a g (suc (suc i) ∷ p) (NApp e b) f h t typed w = none_some h
    placed s c a g (zero ∷ p) (NLam b e) f h t typed w = none_some h
    placed s c a g (suc zero ∷ p) (NLam b e) f h t (typed_lambda {u = u} k q fits) w =
        let m = made_inv (λ d. NLam b d) (changed row as_they_are (behind_binder b (apart s)) p e) f h in
        let inner = holds_binder ms declared b (apart s) (holds_apart ms declared s g) k in
        subst (AtOnePlace Placed c (NLam b e)) m.2
        (at_lambda (placed (behind_binder b (apart s)) (NBelow b c) (around_below (around_apart a)) inner p e m.0 m.1 u (subst (λ x. HasType ms x e u) (sym (binders_context (b ∷ []) (apart s))) q) w))
    placed s c a g (suc (suc i) ∷ p) (NLam b e) f h t typed w = none_some h
    placed s c a g (i ∷ p) (NLet false NoNBinds e) f h t typed w = absurd w.0
    placed s c a g (i ∷ p) (NLet false (MoreNBinds b (MoreNBinds b2 rest)) e) f h t typed w = absurd w.0
    placed s c a g (i ∷ p) (NLet false (MoreNBinds (NBound x d) NoNBinds) e) f h t (typed_let (one_bind k1 kx vx dx ax none) q) w =
        let bs = MoreNBinds (NBound x d) NoNBinds in
        let b : BindsHaveTypes ms (without_joins s.context) false bs = one_bind k1 kx vx dx ax none in
        either_way (AtOnePlace Placed c (NLet false bs e)) (nat_eq i (bind_count bs)) _ _ f h
        (λ k.
        let m = made_inv (λ d. NLet false bs d) (changed row as_they_are (behind_binds false bs s) p e) f k in
        subst (AtOnePlace Placed c (NLet false bs e)) m.2
        (at_body (placed (behind_binds false bs s) (NPastLet x d d c) (around_let w.1.0 a) (holds_binds ms declared false bs s g b) p e m.0 m.1 t q w.2)))
        (λ k.
        let m = made_inv (λ cs. NLet false cs e) (changed_binds row as_they_are (apart s) i p bs) f k in
        subst (AtOnePlace Placed c (NLet false bs e)) m.2
        (let z = one_bind_changed (apart s) i p x d m.0 m.1 in
        subst (λ cs. AtOnePlace Placed c (NLet false bs e) (NLet false cs e)) z.3 (at_right (placed (apart s) c (around_apart a) (holds_apart ms declared s g) z.0 d z.1 z.2 x dx w.1.0))))
    placed s c a g (i ∷ p) (NLet true bs e) f h t (typed_let b q) w =
        either_way (AtOnePlace Placed c (NLet true bs e)) (nat_eq i (bind_count bs)) _ _ f h
        (λ k.
        let m = made_inv (λ d. NLet true bs d) (changed row as_they_are (behind_binds true bs s) p e) f k in
        subst (AtOnePlace Placed c (NLet true bs e)) m.2
        (at_group_body (placed (behind_binds true bs s) (NPastGroup bs bs c) (around_group w.1 (all_share_themselves (below_binds bs (scope_at c)) bs) a) (holds_binds ms declared true bs s g b) p e m.0 m.1 t q w.2)))
        (λ k.
        let m = made_inv (λ cs. NLet true cs e) (changed_binds row as_they_are (apart (behind_binds true bs s)) i p bs) f k in
        let after = changed_binds_typed (apart (behind_binds true bs s)) (holds_right_sides ms declared true bs s g b) refl i p bs m.0 m.1 true b in
        let n = groups_share s c a i p bs m.0 m.1 b after in
        subst (AtOnePlace Placed c (NLet true bs e)) m.2
        (at_group_right (binds_placed (apart (behind_binds true bs s)) (NPastGroup bs m.0 c) (around_apart (around_group w.1 n a)) (holds_right_sides ms declared true bs s g b) i p bs m.0 m.1 true b w.1)))
    placed s c a g (zero ∷ p) (NCase e u rt alts) f h t (typed_case j k q uk rk fit v) w =
        let m = made_inv (λ d. NCase d u rt alts) (changed row as_they_are (apart s) p e) f h in
        subst (AtOnePlace Placed c (NCase e u rt alts)) m.2 (at_scrutinee (placed (apart s) c (around_apart a) (holds_apart ms declared s g) p e m.0 m.1 u q w.0))
    placed s c a g (suc zero ∷ p) (NCase e u rt alts) f h t typed w = none_some h
    placed s c a g (suc (suc zero) ∷ p) (NCase e u rt alts) f h t typed w = none_some h
    placed s c a g (suc (suc (suc i)) ∷ p) (NCase e u rt alts) f h t (typed_case j k q uk rk fit v) w =
        let m = made_inv (λ bs. NCase e u rt bs) (changed_alts row as_they_are s e u (listed_heads alts) i p alts) f h in
        subst (AtOnePlace Placed c (NCase e u rt alts)) m.2 (at_alternative (alts_placed s c a g e u j q uk w.0 alts i p alts m.0 m.1 rt _ fit w.1))
    placed s c a g (zero ∷ p) (NCast e g1) f h t (typed_cast {s = u} q proves) w =
        let m = made_inv (λ d. NCast d g1) (changed row as_they_are (apart s) p e) f h in
        subst (AtOnePlace Placed c (NCast e g1)) m.2 (at_cast (placed (apart s) c (around_apart a) (holds_apart ms declared s g) p e m.0 m.1 u q w))
    placed s c a g (suc zero ∷ p) (NCast e g2) f h t typed w =
        let m = made_inv (λ x. NCast e x) (changed_coercion as_they_are s.context.kinds s.context.coercions p g2) f h in
        absurd (no_coercion s.context.kinds s.context.coercions p g2 m.0 m.1)
    placed s c a g (suc (suc i) ∷ p) (NCast e g2) f h t typed w = none_some h
    placed s c a g (i ∷ p) (NCon n args) f h t (typed_con k gs found q long takes) w =
        let m = made_inv (λ more. NCon n more) (changed_args row as_they_are (apart s) i p args) f h in
        subst (AtOnePlace Placed c (NCon n args)) m.2 (at_field (args_placed (apart s) c (around_apart a) (holds_apart ms declared s g) i p args m.0 m.1 gs q w))
    placed s c a g (i ∷ p) (NPrim op NoNExprs) f h t typed w = elim typed [ ]
    placed s c a g (i ∷ p) (NPrim op (MoreNExprs x NoNExprs)) f h t typed w = elim typed [ ]
    placed s c a g (i ∷ p) (NPrim op (MoreNExprs x (MoreNExprs y (MoreNExprs z more)))) f h t typed w = elim typed [ ]
    placed s c a g (i ∷ p) (NPrim op (MoreNExprs x (MoreNExprs y NoNExprs))) f h t (typed_prim q k r l) w =
        let m = made_inv (λ fs. NPrim op fs) (changed_exprs row as_they_are (apart s) i p (MoreNExprs x (MoreNExprs y NoNExprs))) f h in
        absurd (no_operand (apart s) i p x y m.0 m.1 k l)
    placed s c a g (i ∷ p) (NFail u) f h t typed w = none_some h
    placed s c a g (zero ∷ p) (NJoin r u js e) f h t typed w = none_some h
    placed s c a g (suc i ∷ p) (NJoin false u NoNJoins e) f h t typed w = absurd w.0
    placed s c a g (suc i ∷ p) (NJoin false u (MoreNJoins j (MoreNJoins j2 rest)) e) f h t typed w = absurd w.0
    placed s c a g (suc i ∷ p) (NJoin false u (MoreNJoins (NJoined ps d) NoNJoins) e) f h t (typed_join k uk (one_join kd dx none) q v) w =
        let js = MoreNJoins (NJoined ps d) NoNJoins in
        let b : JoinsHaveType ms s.context u js = one_join kd dx none in
        either_way (AtOnePlace Placed c (NJoin false u js e)) (nat_eq i (join_count js)) _ _ f h
        (λ y.
        let m = made_inv (λ d. NJoin false u js d) (changed row as_they_are (behind_joins false u js s) p e) f y in
        subst (AtOnePlace Placed c (NJoin false u js e)) m.2
        (at_join_body (placed (behind_joins false u js s) (NPastJoin ps d d c) (around_join u w.1.0 a) (holds_joins ms declared false u js s g (k, uk, v) b) p e m.0 m.1 u q w.2)))
        (λ y.
        let o = unapplied s in
        let m = made_inv (λ ks. NJoin false u ks e) (changed_joins row as_they_are o i p js) f y in
        let z = one_join_changed o i p ps d m.0 m.1 in
        let v = raised_type (type_count ps) u in
        let inner = holds_binders ms declared ps o (holds_unapplied s g) kd in
        subst (AtOnePlace Placed c (NJoin false u js e)) m.2
        (subst (λ ks. AtOnePlace Placed c (NJoin false u js e) (NJoin false u ks e)) z.3
        (at_join_right (placed (behind_binders ps o) (NBelowAll ps c) (around_parameters (around_unapplied a)) inner z.0 d z.1 z.2 v (subst (λ x. HasType ms x d v) (sym (binders_context ps o)) dx) w.1.0))))
    placed s c a g (suc i ∷ p) (NJoin true u js e) f h t (typed_join k uk b q v) w =
        either_way (AtOnePlace Placed c (NJoin true u js e)) (nat_eq i (join_count js)) _ _ f h
        (λ y.
        let m = made_inv (λ d. NJoin true u js d) (changed row as_they_are (behind_joins true u js s) p e) f y in
        subst (AtOnePlace Placed c (NJoin true u js e)) m.2
        (at_joins_body (placed (behind_joins true u js s) (NPastJoins js js c) (around_joins u refl a) (holds_joins ms declared true u js s g (k, uk, v) b) p e m.0 m.1 u q w.2)))
        (λ y.
        let m = made_inv (λ ks. NJoin true u ks e) (changed_joins row as_they_are (behind_joins true u js s) i p js) f y in
        let n = joins_count row (behind_joins true u js s) i p js m.0 m.1 in
        subst (AtOnePlace Placed c (NJoin true u js e)) m.2
        (at_joins_right (joins_placed (behind_joins true u js s) (NPastJoins js m.0 c) (around_joins u n a) (holds_joins ms declared true u js s g (k, uk, v) b) i p js m.0 m.1 u b w.1)))
    placed s c a g (i ∷ p) (NJump j args) f h t (typed_jump l gs u at q long takes) w =
        let m = made_inv (λ more. NJump j more) (changed_args row as_they_are (apart s) i p args) f h in
        subst (AtOnePlace Placed c (NJump j args)) m.2 (at_jump_argument (args_placed (apart s) c (around_apart a) (holds_apart ms declared s g) i p args m.0 m.1 gs q w))

    arg_placed : (s : Surroundings) (c : NPlace) → Around ms s c → Holds ms s → (p : List ℕ) (x y : NArg) → changed_arg row as_they_are s p x ≡ Some y → (k : Given) → ArgIsGiven ms s.context x k
        → IsArgWritten x → (e : NExpr) → AtOnePlace Placed c (NApp e x) (NApp e y)
    arg_placed s c a g p (NATerm d) y h k (given_term {t = t} q) w e =
        let m = made_inv NATerm (changed row as_they_are s p d) y h in
        subst (λ z. AtOnePlace Placed c (NApp e (NATerm d)) (NApp e z)) m.2 (at_argument (placed s c a g p d m.0 m.1 t q w))
    arg_placed s c a g p (NAType u) y h k q w e = none_some h
    arg_placed s c a g p (NACo g2) y h k q w e =
        let m = made_inv NACo (changed_coercion as_they_are s.context.kinds s.context.coercions p g2) y h in
        absurd (no_coercion s.context.kinds s.context.coercions p g2 m.0 m.1)

    args_placed : (s : Surroundings) (c : NPlace) → Around ms s c → Holds ms s → (i : ℕ) (p : List ℕ) (args more : NArgs) → changed_args row as_they_are s i p args ≡ Some more
        → (gs : List Given) → ArgsAreGiven ms s.context args gs → AreArgsWritten args → AtOneArg Placed c args more
    args_placed s c a g i p NoNArgs more h gs q w = none_some h
    args_placed s c a g zero p (MoreNArgs (NATerm d) rest) more h gs (one_arg (given_term {t = t} q) z) w =
        let m = made_inv (λ b. MoreNArgs b rest) (changed_arg row as_they_are s p (NATerm d)) more h in
        let n = made_inv NATerm (changed row as_they_are s p d) m.0 m.1 in
        subst (AtOneArg Placed c (MoreNArgs (NATerm d) rest)) (ap (λ b. MoreNArgs b rest) n.2 ∙ m.2) (first_arg (placed s c a g p d n.0 n.1 t q w.0))
    args_placed s c a g zero p (MoreNArgs (NAType u) rest) more h gs q w =
        let m = made_inv (λ b. MoreNArgs b rest) (changed_arg row as_they_are s p (NAType u)) more h in none_some m.1
    args_placed s c a g zero p (MoreNArgs (NACo g2) rest) more h gs q w =
        let m = made_inv (λ b. MoreNArgs b rest) (changed_arg row as_they_are s p (NACo g2)) more h in
        let n = made_inv NACo (changed_coercion as_they_are s.context.kinds s.context.coercions p g2) m.0 m.1 in
        absurd (no_coercion s.context.kinds s.context.coercions p g2 n.0 n.1)
    args_placed s c a g (suc i) p (MoreNArgs x rest) more h gs (one_arg {gs = xs} q z) w =
        let m = made_inv (λ others. MoreNArgs x others) (changed_args row as_they_are s i p rest) more h in
        subst (AtOneArg Placed c (MoreNArgs x rest)) m.2 (later_arg (args_placed s c a g i p rest m.0 m.1 xs z w.1))

    binds_placed : (s : Surroundings) (c : NPlace) → Around ms s c → Holds ms s → (i : ℕ) (p : List ℕ) (bs cs : NBinds) → changed_binds row as_they_are s i p bs ≡ Some cs → (r : Bool)
        → BindsHaveTypes ms s.context r bs → AreBindsWritten bs → AtOneBind Placed c bs cs
    binds_placed s c a g i p NoNBinds cs h r q w = none_some h
    binds_placed s c a g zero p (MoreNBinds (NBound t e) rest) cs h r (one_bind k tk v q fits more) w =
        let m = made_inv (λ f. MoreNBinds (NBound t f) rest) (in_part 1 p (λ q. changed row as_they_are s q e)) cs h in
        let y = part_inv 1 p (λ q. changed row as_they_are s q e) m.0 m.1 in
        subst (AtOneBind Placed c (MoreNBinds (NBound t e) rest)) m.2 (first_bind (placed s c a g y.0 e m.0 y.1 t q w.0))
    binds_placed s c a g (suc i) p (MoreNBinds (NBound t e) rest) cs h r (one_bind k tk v q fits more) w =
        let m = made_inv (λ others. MoreNBinds (NBound t e) others) (changed_binds row as_they_are s i p rest) cs h in
        subst (AtOneBind Placed c (MoreNBinds (NBound t e) rest)) m.2 (later_bind (binds_placed s c a g i p rest m.0 m.1 r more w.1))

    joins_placed : (s : Surroundings) (c : NPlace) → Around ms s c → Holds ms s → (i : ℕ) (p : List ℕ) (js ks : NJoins) → changed_joins row as_they_are s i p js ≡ Some ks → (t : NTy)
        → JoinsHaveType ms s.context t js → AreJoinsWritten js → AtOneJoin Placed c js ks
    joins_placed s c a g i p NoNJoins ks h t q w = none_some h
    joins_placed s c a g zero p (MoreNJoins (NJoined ps e) rest) ks h t (one_join k q more) w =
        let m = made_inv (λ f. MoreNJoins (NJoined ps f) rest) (in_part (length ps) p (λ q. changed row as_they_are (behind_binders ps s) q e)) ks h in
        let y = part_inv (length ps) p (λ q. changed row as_they_are (behind_binders ps s) q e) m.0 m.1 in
        let u = raised_type (type_count ps) t in
        let inner = placed (behind_binders ps s) (NBelowAll ps c) (around_parameters a) (holds_binders ms declared ps s g k) y.0 e m.0 y.1 u (subst (λ x. HasType ms x e u) (sym (binders_context ps s)) q) w.0 in
        subst (AtOneJoin Placed c (MoreNJoins (NJoined ps e) rest)) m.2 (first_join inner)
    joins_placed s c a g (suc i) p (MoreNJoins (NJoined ps e) rest) ks h t (one_join k q more) w =
        let m = made_inv (λ others. MoreNJoins (NJoined ps e) others) (changed_joins row as_they_are s i p rest) ks h in
        subst (AtOneJoin Placed c (MoreNJoins (NJoined ps e) rest)) m.2 (later_join (joins_placed s c a g i p rest m.0 m.1 t more w.1))

    alts_placed : (s : Surroundings) (c : NPlace) → Around ms s c → Holds ms s → (e : NExpr) (u : NTy) (j : Kind) → HasType ms (without_joins s.context) e u → HasKind ms s.context.kinds u j
        → IsWritten e → (all : NAlts) (i : ℕ) (p : List ℕ) (alts blts : NAlts) → changed_alts row as_they_are s e u (listed_heads all) i p alts ≡ Some blts → (rt : NTy) (b : Before)
        → AltsFit ms (with_value u s.context) u rt b alts → AreAltsWritten alts → AtOneAlt Placed u e all c alts blts
    alts_placed s c a g e u j x y we all i p NoNAlts blts h rt b q w = none_some h
    alts_placed s c a g e u j x y we all zero p (MoreNAlts (NBranch k bs d) rest) blts h rt b q w =
        let hs = listed_heads all in
        let m = made_inv (λ c. MoreNAlts (NBranch k bs c) rest) (if head_binds k bs then in_part (length bs) p (λ q. changed row as_they_are (in_alternative e u hs k bs s) q d) else None) blts h in
        let n = if_some_inv (head_binds k bs) (in_part (length bs) p (λ q. changed row as_they_are (in_alternative e u hs k bs s) q d)) m.0 m.1 in
        let z = part_inv (length bs) p (λ q. changed row as_they_are (in_alternative e u hs k bs s) q d) m.0 n.1 in
        let fit = first_fits ms s k bs d rest u rt b n.0 q in
        let v = raised_type (type_count bs) rt in
        let body = placed (in_alternative e u hs k bs s) (NInAlt u e e all k bs c) (around_alternative we n.0 a) (alternatives s g e u j x y hs k bs fit.0) z.0 d m.0 z.1 v
        (subst (λ c. HasType ms c d v) (sym (binders_context bs (behind_binder (NBValue u) s))) fit.1) w.1 in
        subst (AtOneAlt Placed u e all c (MoreNAlts (NBranch k bs d) rest)) m.2 (first_alt body)
    alts_placed s c a g e u j x y we all (suc i) p (MoreNAlts (NBranch k bs d) rest) blts h rt b q w =
        let m = made_inv (λ others. MoreNAlts (NBranch k bs d) others) (changed_alts row as_they_are s e u (listed_heads all) i p rest) blts h in
        let later = later_fit ms s (NBranch k bs d) rest u rt b q in
        subst (AtOneAlt Placed u e all c (MoreNAlts (NBranch k bs d) rest)) m.2 (later_alt (alts_placed s c a g e u j x y we all i p rest m.0 m.1 rt later.0 later.1 w.2))

pub changes_are_placed : ChangesArePlaced
changes_are_placed ms declared held row spares keeps values s c a g p e f h t typed w = placed ms declared (alternatives_hold ms declared) held row spares keeps values s c a g p e f h t typed w
