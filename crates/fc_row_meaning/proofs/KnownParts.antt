-- What typing tells of the arguments of a constructor: types for its parameters, parts of the sorts of the binders of its alternative, and lets of the
-- sorts of its terms.
use Rattle.std.proofs.Common.{◌≡◌, ℕ, zero, suc, Bool, true, List, [], ◌∷◌, length, Some, refl, sym, ◌∙◌, subst}
use Rattle.fc_syntax.specs.declared.ty.Name.{Name}
use Rattle.fc_syntax.specs.Tree.{Kind}
use Rattle.fc_model.specs.Calling.{Constructor, Given, Takes, takes_nothing, takes_term, takes_type, takes_coercion, binders_to, constructor, constructor_binders, constructor_type, over_binders}
use Rattle.fc_model.specs.Calling.{data_name}
use Rattle.fc_model.specs.Erasure.{Scope, sort_of_type}
use Rattle.fc_model.specs.Kinding.{Modules, is_lifted}
use Rattle.fc_model.specs.Nameless.{NTy, NTVar, NTCon, NTApp, NParam, NBinder, NBValue, NBType, NBCo, NATerm, NAType, NACo, NArgs, NoNArgs, MoreNArgs, NExpr}
use Rattle.fc_model.specs.Replacing.{renamed}
use Rattle.fc_model.specs.Substituting.{substituted_type, type_before}
use Rattle.fc_model.specs.Terms.{Lifted}
use Rattle.fc_model.specs.Typing.{Context, applied_to_types}
use Rattle.fc_model.specs.TypingRules.{HasType, ArgsAreGiven, no_args, one_arg, given_term, given_type, given_coercion, BindersAreKinded, one_binder, type_binder}
use Rattle.fc_model.proofs.ArgumentsFit.{coercion_taken, instantiated_before, term_taken, type_taken}
use Rattle.fc_model.proofs.ConstructorsRead.{constructed_is_read}
use Rattle.fc_model.proofs.Sameness.{false_true}
use Rattle.fc_model.proofs.Substitutions.{variables_for_themselves}
use Rattle.fc_rows.specs.Shrinking.{behind_lets, let_of, named_arguments, pair_with, without_first}
use Rattle.fc_rows.specs.Surroundings.{past_values}
use Rattle.fc_row_types.proofs.AlternativesTaken.{ConBody}
use Rattle.fc_row_types.proofs.CaseKnownKept.{same_found}
use Rattle.fc_row_types.proofs.ConstructorParts.{constructor_parts, taken_for_binders}
use Rattle.fc_row_types.proofs.Made.{made_inv, none_some, some_some}
use Rattle.fc_meaning.specs.Laws.{Agrees}
use Rattle.fc_meaning.proofs.ArgSorts.{sort_is}
use Rattle.fc_meaning.proofs.HeldDeclarations.{AreHeld}
use Rattle.fc_meaning.proofs.SortsOfTypes.{AreLifted, lifted_by_kind, sort_of_substituted}
use Rattle.fc_row_places.specs.KnowingRows.{BehindLets, behind_all_lets, behind_coercion, behind_let, behind_type, PartsFit}
use Rattle.fc_row_places.specs.NamelessFacts.{BehindTypes, behind_none, behind_one}

-- PARAMETERS

-- the first arguments are types, where a type is applied to them
first_types_gone : (ps : List NParam) (args : NArgs) (t u : NTy) → applied_to_types t ps args ≡ Some u → BehindTypes args (without_first ps args) × (without_first ps (named_arguments args) ≡ named_arguments (without_first ps args))
first_types_gone [] args t u h = (behind_none, refl)
first_types_gone (p ∷ ps) NoNArgs t u h = none_some h
first_types_gone (p ∷ ps) (MoreNArgs (NAType x) rest) t u h = let q = first_types_gone ps rest (NTApp t x) u h in (behind_one q.0, q.1)
first_types_gone (p ∷ ps) (MoreNArgs (NATerm e) rest) t u h = none_some h
first_types_gone (p ∷ ps) (MoreNArgs (NACo g) rest) t u h = none_some h

-- SORTS

module _ (ms : Modules) (held : AreHeld ms) where
  -- what is taken for binders has their sorts
  pub parts_fit : (bs : List NBinder) (x : ℕ → NTy) → AreLifted x → (r : NTy) {u : NTy} {owes : Bool} {ks : List Kind} {gs : List Given} {c : Context} (args : NArgs) (d : Scope) → Agrees c d
      → BindersAreKinded ms owes ks bs → ArgsAreGiven ms c args gs → Takes (substituted_type x (over_binders bs r)) gs u → pair_with bs args ≡ true → PartsFit d args bs
  parts_fit [] x l r NoNArgs d agree kinds given takes h = tt
  parts_fit [] x l r (MoreNArgs a rest) d agree kinds given takes h = false_true h
  parts_fit (b ∷ bs) x l r NoNArgs d agree kinds given takes h = false_true h
  parts_fit (NBValue y ∷ bs) x l r (MoreNArgs (NATerm a) rest) d agree (one_binder b kinds) (one_arg (given_term p) given) takes h =
      let q = term_taken takes in
      let typed = subst (HasType ms _ a) q.0 p in
      (sort_is ms held typed d agree q.1 ∙ sort_of_substituted x l y, parts_fit bs x l r rest d agree kinds given q.2 h)
  parts_fit (NBType k ∷ bs) x l r {u = u} (MoreNArgs (NAType v) rest) d agree (one_binder (type_binder o) kinds) (one_arg {gs = gs} (given_type p) given) takes h =
      let q = type_taken takes in
      let lv : sort_of_type v ≡ Lifted = lifted_by_kind p (subst (λ i. is_lifted i ≡ true) (sym q.0) o) in
      (lv, parts_fit bs (type_before v x) (elim [ zero ↦ lv | suc i ↦ l i ]) r rest d agree kinds given (subst (λ t. Takes t gs u) (instantiated_before v x (over_binders bs r)) q.1) h)
  parts_fit (NBCo o y z ∷ bs) x l r (MoreNArgs (NACo g) rest) d agree (one_binder b kinds) (one_arg (given_coercion p) given) takes h =
      parts_fit bs x l r rest d agree kinds given (coercion_taken takes).1 h
  parts_fit (NBValue y ∷ bs) x l r (MoreNArgs (NAType v) rest) d agree kinds given takes h = false_true h
  parts_fit (NBValue y ∷ bs) x l r (MoreNArgs (NACo g) rest) d agree kinds given takes h = false_true h
  parts_fit (NBType k ∷ bs) x l r (MoreNArgs (NATerm a) rest) d agree kinds given takes h = false_true h
  parts_fit (NBType k ∷ bs) x l r (MoreNArgs (NACo g) rest) d agree kinds given takes h = false_true h
  parts_fit (NBCo o y z ∷ bs) x l r (MoreNArgs (NATerm a) rest) d agree kinds given takes h = false_true h
  parts_fit (NBCo o y z ∷ bs) x l r (MoreNArgs (NAType v) rest) d agree kinds given takes h = false_true h

  -- lets for the terms among arguments are of their sorts
  pub lets_stand : {t u : NTy} {gs : List Given} {c : Context} {args : NArgs} (d : Scope) → Agrees c d → Takes t gs u → ArgsAreGiven ms c args gs → (i : ℕ) (b f : NExpr)
      → behind_lets i t args b ≡ Some f → BehindLets d b i args f
  lets_stand d agree takes_nothing no_args i b f h = subst (BehindLets d b i NoNArgs) (some_some h) behind_all_lets
  lets_stand d agree (takes_term {s = s} {r = r} fits takes) (one_arg {rest = rest} (given_term {e = a} p) given) i b f h =
      let m = made_inv (let_of s (renamed (past_values i) a)) (behind_lets (suc i) r rest b) f h in
      subst (BehindLets d b i (MoreNArgs (NATerm a) rest)) m.2 (behind_let s (sort_is ms held p d agree fits) (lets_stand d agree takes given (suc i) b m.0 m.1))
  lets_stand d agree (takes_type takes) (one_arg (given_type p) given) i b f h = behind_type (lets_stand d agree takes given i b f h)
  lets_stand d agree (takes_coercion takes) (one_arg (given_coercion p) given) i b f h = behind_coercion (lets_stand d agree takes given i b f h)

  -- THE PARTS OF A CONSTRUCTOR

  -- the arguments of a constructor behind those for its parameters, as the parts for the binders of its alternative
  pub record ConParts (d : Scope) (k : Constructor) (args : NArgs) (bs : List NBinder) : Type 0 where
    pub behind : BehindTypes args (without_first k.params args)
    pub named : without_first k.params (named_arguments args) ≡ named_arguments (without_first k.params args)
    pub fit : pair_with bs (without_first k.params args) ≡ true → PartsFit d (without_first k.params args) bs

  pub constructed_parts : (d : Scope) {c b : Context} → Agrees c d → (n : Name) (k : Constructor) {gs : List Given} (args : NArgs) (x rt : NTy) (bs : List NBinder) (e : NExpr) → constructor ms n ≡ Some k
      → Takes (constructor_type n k) gs x → ArgsAreGiven ms c args gs → length gs ≡ length (constructor_binders k) → ConBody ms b x rt n bs e → ConParts d k args bs
  constructed_parts d agree n k args x rt bs e found takes given long con =
      let gone = first_types_gone k.params args (NTCon (data_name n k.data_word)) x (constructed_is_read ms n k takes given long) in
      let p = constructor_parts ms n k x takes given long in
      let taken = taken_for_binders ms n k con.constructor_of x bs takes given long (same_found (constructor ms n) con.found found) con.fits in
      record {
        behind = gone.0;
        named = gone.1;
        fit = λ h. parts_fit bs NTVar (λ i. refl) _ (without_first k.params args) d agree con.body.kinds p.are_given
            (subst (λ t. Takes t p.given x) (sym (variables_for_themselves (binders_to bs x))) taken) h;
      }
