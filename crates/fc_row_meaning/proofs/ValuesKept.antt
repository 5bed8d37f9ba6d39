-- Each row keeps values, and so does a change at a place.
use Rattle.std.proofs.Common.{◌≡◌, ℕ, zero, suc, ◌&&◌, Bool, true, false, List, [], ◌∷◌, Some, None, Ok, Err, Result, refl, sym, ap, ap₂, ◌∙◌, subst}
use Rattle.fc_syntax.specs.declared.ty.Name.{Name}
use Rattle.fc_log.specs.declared.log.Row.{Row}
use Rattle.fc_log.specs.declared.log.Row.TheVariants as row
use Rattle.fc_model.specs.Coercing.{Ends, ends_or_fault}
use Rattle.fc_model.specs.Erasure.{Scope, coercion_token, erased, erased_args}
use Rattle.fc_model.specs.Faulting.{F}
use Rattle.fc_model.specs.Kinding.{Modules, same_type}
use Rattle.fc_model.specs.Nameless.{NTy, NCo, NBinder, NBValue, NBType, NBCo, NATerm, NAType, NACo, NExpr, NLocal, NVar, NLit, NApp, NLam, NLet, NCast, NCon, NFail}
use Rattle.fc_model.specs.Nameless.{NDecl, NGTrans, NArgs, NoNArgs, MoreNArgs, NBound, NBinds, NoNBinds, MoreNBinds}
use Rattle.fc_model.specs.Replacing.{bind_count}
use Rattle.fc_model.specs.Terms.{Con, Cons}
use Rattle.fc_model.specs.Typing.{Context}
use Rattle.fc_model.specs.TypingRules.{HasType, typed_con, BindsHaveTypes, one_bind}
use Rattle.fc_model.proofs.Sameness.{false_true}
use Rattle.fc_rows.specs.Changing.{changed, changed_arg, changed_args, changed_binds, in_part}
use Rattle.fc_rows.specs.ChangingCoercions.{as_they_are, changed_coercion}
use Rattle.fc_rows.specs.Commuting.{app_of_let, cast_of_let}
use Rattle.fc_rows.specs.Rewriting.{row_result}
use Rattle.fc_rows.specs.Shrinking.{are_trivial, beta, cast_cast, fail_absorb, if_equal, is_con, is_trivial}
use Rattle.fc_rows.specs.Surroundings.{Surroundings, apart, at_head, behind_binder, is_value}
use Rattle.fc_row_types.specs.TypesKept.{ExpressionRow, SparesAtoms}
use Rattle.fc_row_types.proofs.Made.{if_some_inv, made_inv, none_some, part_inv, some_some}
use Rattle.fc_row_types.proofs.RowsKept.{row_spares_atoms}
use Rattle.fc_meaning.specs.Laws.{Agrees}
use Rattle.fc_meaning.proofs.ArgSorts.{sorts_of_arguments}
use Rattle.fc_meaning.proofs.HeldDeclarations.{AreHeld}
use Rattle.fc_row_meaning.specs.SharedRights.{is_trivial_con, AllShare, none_share, more_share, KeepsValues, RightsShare, no_rights, same_right, Shares}

-- both of two that hold together
pub both : (a b : Bool) → a && b ≡ true → (a ≡ true) × (b ≡ true)
both true b h = (refl, h)
both false b h = false_true h

-- EACH ROW

-- what is made of a cast of e
abbrev CastKept : NExpr → NExpr → Type 0
CastKept e f = (is_value e ≡ true → is_value f ≡ true) × (is_trivial e ≡ true → (c : Scope) → erased c e ≡ erased c f)

cast_as : (e d f : NExpr) → is_value e ≡ is_value d → ((c : Scope) → erased c e ≡ erased c d) → d ≡ f → CastKept e f
cast_as e d f v a q = (λ h. subst (λ x. is_value x ≡ true) q (sym v ∙ h), λ h c. a c ∙ ap (erased c) q)

-- a row that stands at no lambda and no constructor, and at no application of what is trivial to a type
module _ (row : ExpressionRow) (spares : SparesAtoms row) (lambdas : (s : Surroundings) (b : NBinder) (e : NExpr) → row s (NLam b e) ≡ None)
    (constructors : (s : Surroundings) (n : Name) (args : NArgs) → row s (NCon n args) ≡ None)
    (applications : (s : Surroundings) (f : NExpr) (t : NTy) → is_trivial f ≡ true → row s (NApp f (NAType t)) ≡ None)
    (casts : (s : Surroundings) (e : NExpr) (g : NCo) (f : NExpr) → row s (NCast e g) ≡ Some f → CastKept e f) where
  value_kept : (s : Surroundings) (e f : NExpr) → row s e ≡ Some f → is_value e ≡ true → is_value f ≡ true
  value_kept s (NLam b e) f h v = none_some (sym (lambdas s b e) ∙ h)
  value_kept s (NCast e g) f h v = (casts s e g f h).0 v
  value_kept s (NCon n args) f h v = none_some (sym (constructors s n args) ∙ h)
  value_kept s e f h v = false_true v

  no_constructor : (s : Surroundings) (e f : NExpr) → row s e ≡ Some f → is_con e ≡ false
  no_constructor s (NCon n args) f h = none_some (sym (constructors s n args) ∙ h)
  no_constructor s e f h = refl

  trivial_kept : (s : Surroundings) (e f : NExpr) → row s e ≡ Some f → is_trivial e ≡ true → (c : Scope) → erased c e ≡ erased c f
  trivial_kept s (NLocal i) f h v c = false_true (sym (spares s (NLocal i) f h))
  trivial_kept s (NVar n) f h v c = false_true (sym (spares s (NVar n) f h))
  trivial_kept s (NLit z) f h v c = false_true (sym (spares s (NLit z) f h))
  trivial_kept s (NApp e (NAType t)) f h v c = none_some (sym (applications s e t v) ∙ h)
  trivial_kept s (NCast e g) f h v c = (casts s e g f h).1 v c
  trivial_kept s e f h v c = false_true v

  by_shapes : KeepsValues row
  by_shapes = record { value = value_kept; constructor = no_constructor; trivial = trivial_kept }

no_beta : (ms : Modules) (s : Surroundings) (f : NExpr) (t : NTy) → is_trivial f ≡ true → beta ms s (NApp f (NAType t)) ≡ None
no_beta ms s (NLam b e) t h = false_true h
no_beta ms s f t h = refl

no_failure : (ms : Modules) (s : Surroundings) (f : NExpr) (t : NTy) → is_trivial f ≡ true → fail_absorb ms s (NApp f (NAType t)) ≡ None
no_failure ms s (NFail u) t h = false_true h
no_failure ms s f t h = refl

no_let : (f : NExpr) (t : NTy) → is_trivial f ≡ true → app_of_let (NApp f (NAType t)) ≡ None
no_let (NLet r bs b) t h = false_true h
no_let f t h = refl

failure_cast : (ms : Modules) (s : Surroundings) (e : NExpr) (g : NCo) (f : NExpr) → fail_absorb ms s (NCast e g) ≡ Some f → CastKept e f
failure_cast ms s (NFail u) g f h = (λ v. false_true v, λ v c. false_true v)
failure_cast ms s e g f h = none_some h

let_cast : (e : NExpr) (g : NCo) (f : NExpr) → cast_of_let (NCast e g) ≡ Some f → CastKept e f
let_cast (NLet r bs b) g f h = (λ v. false_true v, λ v c. false_true v)
let_cast e g f h = none_some h

cast_twice : (e : NExpr) (g : NCo) (f : NExpr) → cast_cast (NCast e g) ≡ Some f → CastKept e f
cast_twice (NCast e g) k f h = cast_as (NCast e g) (NCast e (NGTrans g k)) f refl (λ c. refl) (some_some h)
cast_twice e g f h = none_some h

equal_ends : (e f : NExpr) (r : Result Ends F) → if_equal e r ≡ Some f → e ≡ f
equal_ends e f (Ok p) h = some_some (if_some_inv (same_type p.left p.right) (Some e) f h).1
equal_ends e f (Err x) h = none_some h

pub row_keeps_values : (ms : Modules) (r : Row) (i : ℕ) → KeepsValues (row_result ms r i)
row_keeps_values ms row.Beta i = by_shapes (row_result ms row.Beta i) (row_spares_atoms ms row.Beta i) (λ s b e. refl) (λ s n args. refl) (no_beta ms) (λ s e g f h. none_some h)
row_keeps_values ms row.FailAbsorb i =
    by_shapes (row_result ms row.FailAbsorb i) (row_spares_atoms ms row.FailAbsorb i) (λ s b e. refl) (λ s n args. refl) (no_failure ms) (failure_cast ms)
row_keeps_values ms row.CastRefl i =
    by_shapes (row_result ms row.CastRefl i) (row_spares_atoms ms row.CastRefl i) (λ s b e. refl) (λ s n args. refl) (λ s f t h. refl)
    (λ s e g f h. cast_as e e f refl (λ c. refl) (equal_ends e f (ends_or_fault ms s.context.kinds s.context.coercions g) h))
row_keeps_values ms row.CastCast i =
    by_shapes (row_result ms row.CastCast i) (row_spares_atoms ms row.CastCast i) (λ s b e. refl) (λ s n args. refl) (λ s f t h. refl) (λ s e g f h. cast_twice e g f h)
row_keeps_values ms row.AppOfLet i =
    by_shapes (row_result ms row.AppOfLet i) (row_spares_atoms ms row.AppOfLet i) (λ s b e. refl) (λ s n args. refl) (λ s f t h. no_let f t h) (λ s e g f h. none_some h)
row_keeps_values ms row.CastOfLet i =
    by_shapes (row_result ms row.CastOfLet i) (row_spares_atoms ms row.CastOfLet i) (λ s b e. refl) (λ s n args. refl) (λ s f t h. refl) (λ s e g f h. let_cast e g f h)
row_keeps_values ms r i = by_shapes (row_result ms r i) (row_spares_atoms ms r i) (λ s b e. refl) (λ s n args. refl) (λ s f t h. refl) (λ s e g f h. none_some h)

-- CHANGES AT A PLACE

module _ (row : ExpressionRow) (keeps : KeepsValues row) where
  pub value_stays : (s : Surroundings) (p : List ℕ) (e f : NExpr) → changed row as_they_are s p e ≡ Some f → is_value e ≡ true → is_value f ≡ true
  value_stays s [] e f h v = keeps.value s e f h v
  value_stays s (zero ∷ p) (NLam b e) f h v = none_some h
  value_stays s (suc zero ∷ p) (NLam (NBValue t) e) f h v =
      let m = made_inv (λ d. NLam (NBValue t) d) (changed row as_they_are (behind_binder (NBValue t) (apart s)) p e) f h in subst (λ x. is_value x ≡ true) m.2 refl
  value_stays s (suc zero ∷ p) (NLam (NBType k) e) f h v =
      let m = made_inv (λ d. NLam (NBType k) d) (changed row as_they_are (behind_binder (NBType k) (apart s)) p e) f h in
      subst (λ x. is_value x ≡ true) m.2 (value_stays (behind_binder (NBType k) (apart s)) p e m.0 m.1 v)
  value_stays s (suc zero ∷ p) (NLam (NBCo r t u) e) f h v =
      let m = made_inv (λ d. NLam (NBCo r t u) d) (changed row as_they_are (behind_binder (NBCo r t u) (apart s)) p e) f h in subst (λ x. is_value x ≡ true) m.2 refl
  value_stays s (suc (suc i) ∷ p) (NLam b e) f h v = none_some h
  value_stays s (zero ∷ p) (NCast e g) f h v =
      let m = made_inv (λ d. NCast d g) (changed row as_they_are (apart s) p e) f h in subst (λ x. is_value x ≡ true) m.2 (value_stays (apart s) p e m.0 m.1 v)
  value_stays s (suc zero ∷ p) (NCast e g) f h v =
      let m = made_inv (λ x. NCast e x) (changed_coercion as_they_are s.context.kinds s.context.coercions p g) f h in subst (λ x. is_value x ≡ true) m.2 v
  value_stays s (suc (suc i) ∷ p) (NCast e g) f h v = none_some h
  value_stays s (i ∷ p) (NCon n args) f h v = let m = made_inv (λ more. NCon n more) (changed_args row as_they_are (apart s) i p args) f h in subst (λ x. is_value x ≡ true) m.2 refl
  value_stays s (i ∷ p) e f h v = false_true v

  trivial_alike : (s : Surroundings) (p : List ℕ) (e f : NExpr) → changed row as_they_are s p e ≡ Some f → is_trivial e ≡ true → (c : Scope) → erased c e ≡ erased c f
  trivial_alike s [] e f h v c = keeps.trivial s e f h v c
  trivial_alike s (i ∷ p) (NLocal v) f h t c = none_some h
  trivial_alike s (i ∷ p) (NVar n) f h t c = none_some h
  trivial_alike s (i ∷ p) (NLit n) f h t c = none_some h
  trivial_alike s (zero ∷ p) (NApp e (NAType t)) f h v c =
      let m = made_inv (λ d. NApp d (NAType t)) (changed row as_they_are (at_head (NAType t) s) p e) f h in
      trivial_alike (at_head (NAType t) s) p e m.0 m.1 v c ∙ ap (erased c) m.2
  trivial_alike s (suc zero ∷ p) (NApp e (NAType t)) f h v c =
      let m = made_inv (λ b. NApp e b) (changed_arg row as_they_are (apart s) p (NAType t)) f h in none_some m.1
  trivial_alike s (suc (suc i) ∷ p) (NApp e (NAType t)) f h v c = none_some h
  trivial_alike s (zero ∷ p) (NCast e g) f h v c =
      let m = made_inv (λ d. NCast d g) (changed row as_they_are (apart s) p e) f h in trivial_alike (apart s) p e m.0 m.1 v c ∙ ap (erased c) m.2
  trivial_alike s (suc zero ∷ p) (NCast e g) f h v c =
      let m = made_inv (λ x. NCast e x) (changed_coercion as_they_are s.context.kinds s.context.coercions p g) f h in ap (erased c) m.2
  trivial_alike s (suc (suc i) ∷ p) (NCast e g) f h v c = none_some h
  trivial_alike s (i ∷ p) e f h v c = false_true v

  -- arguments that are trivial are the same when types are gone
  args_alike : (s : Surroundings) (i : ℕ) (p : List ℕ) (args more : NArgs) → changed_args row as_they_are s i p args ≡ Some more → are_trivial args ≡ true → (c : Scope)
      → erased_args c args ≡ erased_args c more
  args_alike s i p NoNArgs more h v c = none_some h
  args_alike s zero p (MoreNArgs (NATerm e) rest) more h v c =
      let m = made_inv (λ b. MoreNArgs b rest) (changed_arg row as_they_are s p (NATerm e)) more h in
      let n = made_inv NATerm (changed row as_they_are s p e) m.0 m.1 in
      ap (λ x. Cons x (erased_args c rest)) (trivial_alike s p e n.0 n.1 (both (is_trivial e) (are_trivial rest) v).0 c) ∙ ap (erased_args c) (ap (λ b. MoreNArgs b rest) n.2 ∙ m.2)
  args_alike s zero p (MoreNArgs (NAType t) rest) more h v c =
      let m = made_inv (λ b. MoreNArgs b rest) (changed_arg row as_they_are s p (NAType t)) more h in none_some m.1
  args_alike s zero p (MoreNArgs (NACo g) rest) more h v c =
      let m = made_inv (λ b. MoreNArgs b rest) (changed_arg row as_they_are s p (NACo g)) more h in
      let n = made_inv NACo (changed_coercion as_they_are s.context.kinds s.context.coercions p g) m.0 m.1 in
      ap (erased_args c) (ap (λ b. MoreNArgs b rest) n.2 ∙ m.2)
  args_alike s (suc i) p (MoreNArgs (NATerm e) rest) more h v c =
      let m = made_inv (λ others. MoreNArgs (NATerm e) others) (changed_args row as_they_are s i p rest) more h in
      ap (Cons (erased c e)) (args_alike s i p rest m.0 m.1 (both (is_trivial e) (are_trivial rest) v).1 c) ∙ ap (erased_args c) m.2
  args_alike s (suc i) p (MoreNArgs (NAType t) rest) more h v c =
      let m = made_inv (λ others. MoreNArgs (NAType t) others) (changed_args row as_they_are s i p rest) more h in
      args_alike s i p rest m.0 m.1 v c ∙ ap (erased_args c) m.2
  args_alike s (suc i) p (MoreNArgs (NACo g) rest) more h v c =
      let m = made_inv (λ others. MoreNArgs (NACo g) others) (changed_args row as_they_are s i p rest) more h in
      ap (Cons coercion_token) (args_alike s i p rest m.0 m.1 v c) ∙ ap (erased_args c) m.2

  -- where both sides have a type, a constructor with trivial arguments is the same when types are gone
  constructor_alike : (ms : Modules) → AreHeld ms → (k : Context) (c : Scope) → Agrees k c → (s : Surroundings) (p : List ℕ) (d e : NExpr) → changed row as_they_are s p d ≡ Some e → (t u : NTy)
      → HasType ms k d t → HasType ms k e u → is_trivial_con d ≡ true → erased c d ≡ erased c e
  constructor_alike ms held k c agree s [] (NCon n args) e h t u typed typed2 v = false_true (sym (keeps.constructor s (NCon n args) e h))
  constructor_alike ms held k c agree s (i ∷ p) (NCon n args) e h t u (typed_con x gs is given l takes) typed2 v =
      let m = made_inv (λ more. NCon n more) (changed_args row as_they_are (apart s) i p args) e h in
      let first = sorts_of_arguments ms held k c agree n args t (typed_con x gs is given l takes) x is in
      let second = sorts_of_arguments ms held k c agree n m.0 u (subst (λ y. HasType ms k y u) (sym m.2) typed2) x is in
      ap₂ (Con n) (first ∙ sym second) (args_alike (apart s) i p args m.0 m.1 v c) ∙ ap (erased c) m.2
  constructor_alike ms held k c agree s p d e h t u typed typed2 v = false_true v

  pub shares_changed : (ms : Modules) → AreHeld ms → (k : Context) (c : Scope) → Agrees k c → (s : Surroundings) (p : List ℕ) (d e : NExpr) → changed row as_they_are s p d ≡ Some e → (t u : NTy)
      → HasType ms k d t → HasType ms k e u → Shares c d e
  shares_changed ms held k c agree s p d e h t u typed typed2 =
      record { value = value_stays s p d e h; constructor = constructor_alike ms held k c agree s p d e h t u typed typed2 }

pub shares_itself : (c : Scope) (e : NExpr) → Shares c e e
shares_itself c e = record { value = λ h. h; constructor = λ h. refl }

pub all_share_themselves : (c : Scope) (bs : NBinds) → AllShare c bs bs
all_share_themselves c NoNBinds = none_share
all_share_themselves c (MoreNBinds (NBound t e) rest) = more_share (shares_itself c e) (all_share_themselves c rest)

pub rights_share_themselves : (ds : List NDecl) → RightsShare ds ds
rights_share_themselves [] = no_rights
rights_share_themselves (d ∷ ds) = same_right (rights_share_themselves ds)

-- GROUPS

-- as many on both sides
pub shared_count : {s : Scope} {bs cs : NBinds} → AllShare s bs cs → bind_count bs ≡ bind_count cs
shared_count none_share = refl
shared_count (more_share h more) = ap suc (shared_count more)

module _ (row : ExpressionRow) (keeps : KeepsValues row) (ms : Modules) (held : AreHeld ms) (k : Context) (c : Scope) (agree : Agrees k c) where
  pub all_share : (s : Surroundings) (i : ℕ) (p : List ℕ) (bs cs : NBinds) → changed_binds row as_they_are s i p bs ≡ Some cs → (r q : Bool) → BindsHaveTypes ms k r bs → BindsHaveTypes ms k q cs
      → AllShare c bs cs
  all_share s i p NoNBinds cs h r q typed typed2 = none_some h
  all_share s zero p (MoreNBinds (NBound t e) rest) cs h r q typed typed2 =
      let m = made_inv (λ f. MoreNBinds (NBound t f) rest) (in_part 1 p (λ q. changed row as_they_are s q e)) cs h in
      let y = part_inv 1 p (λ q. changed row as_they_are s q e) m.0 m.1 in
      subst (AllShare c (MoreNBinds (NBound t e) rest)) m.2
      (more_share (shares_changed row keeps ms held k c agree s y.0 e m.0 y.1 t t (first_typed typed) (first_typed (subst (BindsHaveTypes ms k q) (sym m.2) typed2))) (all_share_themselves c rest))
    where
      first_typed : {r : Bool} {e : NExpr} → BindsHaveTypes ms k r (MoreNBinds (NBound t e) rest) → HasType ms k e t
      first_typed (one_bind o x v q fits more) = q
  all_share s (suc i) p (MoreNBinds (NBound t e) rest) cs h r q (one_bind o x v y fits more) typed2 =
      let m = made_inv (λ others. MoreNBinds (NBound t e) others) (changed_binds row as_they_are s i p rest) cs h in
      subst (AllShare c (MoreNBinds (NBound t e) rest)) m.2
      (more_share (shares_itself c e) (all_share s i p rest m.0 m.1 r q more (later_typed (subst (BindsHaveTypes ms k q) (sym m.2) typed2))))
    where
      later_typed : {q : Bool} {cs : NBinds} → BindsHaveTypes ms k q (MoreNBinds (NBound t e) cs) → BindsHaveTypes ms k q cs
      later_typed (one_bind o x v y fits more) = more
