-- An alternative at what stands for its binders.
use Rattle.std.proofs.Common.{◌≡◌, suc, Bool, true, false, if◌then◌else◌, List, [], ◌∷◌, length, Option, Some, refl, sym, ap, ◌∙◌, subst}
use Rattle.fc_syntax.specs.declared.ty.Name.{Name}
use Rattle.fc_syntax.specs.declared.expr.Head.{Head}
use Rattle.fc_syntax.specs.declared.expr.Head.TheVariants as head
use Rattle.fc_model.specs.Calling.{Constructor, Given, Takes, binders_fit, binders_to, constructor, is_data_of, type_count}
use Rattle.fc_model.specs.Kinding.{Modules, same_name}
use Rattle.fc_model.specs.Nameless.{NTy, NBinder, NBValue, NBType, NBCo, NExpr, NATerm, NAType, NACo, NArgs, NoNArgs, MoreNArgs, NAlts}
use Rattle.fc_model.specs.Replacing.{Renaming, Substitution, coercion_variables, put_in_args, replaced, unchanged, variables, with_argument, with_arguments}
use Rattle.fc_model.specs.Substituting.{raised_type, shifted_type, substituted_type}
use Rattle.fc_model.specs.Typing.{Before, Context, with_binders, without_joins}
use Rattle.fc_model.specs.TypingLaws.{AreDeclaredKinded}
use Rattle.fc_model.specs.TypingRules.{ArgsAreGiven, no_args, one_arg, given_term, given_type, given_coercion, BindersAreKinded, HasType}
use Rattle.fc_model.specs.TypingRules.{AltsFit, no_alts, default_alt, literal_alt, con_alt}
use Rattle.fc_model.proofs.ArgumentsFit.{arguments_fit, type_past, unchanged_fits}
use Rattle.fc_model.proofs.CallsKept.{raised_by_more, raised_by_nothing}
use Rattle.fc_model.proofs.ReplacedKept.{replacement_keeps_types}
use Rattle.fc_model.proofs.Sameness.{false_true, same_name_eq}
use Rattle.fc_model.proofs.Substitutions.{variables_for_themselves}
use Rattle.fc_rows.specs.Shrinking.{alternative_of, pair_with, same_head}
use Rattle.fc_row_types.proofs.Holding.{closed}
use Rattle.fc_row_types.proofs.Made.{none_some, some, some_some}

-- ARGUMENTS FOR BINDERS

pub pair_moved : (r : Renaming) (bs : List NBinder) (args : NArgs) → pair_with bs (put_in_args variables coercion_variables r args) ≡ pair_with bs args
pair_moved r [] NoNArgs = refl
pair_moved r [] (MoreNArgs a rest) = refl
pair_moved r (b ∷ bs) NoNArgs = refl
pair_moved r (NBValue t ∷ bs) (MoreNArgs (NATerm e) rest) = pair_moved r bs rest
pair_moved r (NBValue t ∷ bs) (MoreNArgs (NAType u) rest) = refl
pair_moved r (NBValue t ∷ bs) (MoreNArgs (NACo g) rest) = refl
pair_moved r (NBType k ∷ bs) (MoreNArgs (NATerm e) rest) = refl
pair_moved r (NBType k ∷ bs) (MoreNArgs (NAType u) rest) = pair_moved r bs rest
pair_moved r (NBType k ∷ bs) (MoreNArgs (NACo g) rest) = refl
pair_moved r (NBCo o t u ∷ bs) (MoreNArgs (NATerm e) rest) = refl
pair_moved r (NBCo o t u ∷ bs) (MoreNArgs (NAType w) rest) = refl
pair_moved r (NBCo o t u ∷ bs) (MoreNArgs (NACo g) rest) = pair_moved r bs rest

-- a type from before binders does not see what stands for them
raised_at_arguments : (bs : List NBinder) (args : NArgs) (r : Substitution) (t : NTy) → pair_with bs args ≡ true
    → substituted_type (with_arguments args r).types (raised_type (type_count bs) t) ≡ substituted_type r.types t
raised_at_arguments [] NoNArgs r t h = ap (substituted_type r.types) (raised_by_nothing t)
raised_at_arguments [] (MoreNArgs a rest) r t h = false_true h
raised_at_arguments (b ∷ bs) NoNArgs r t h = false_true h
raised_at_arguments (NBValue u ∷ bs) (MoreNArgs (NATerm e) rest) r t h = raised_at_arguments bs rest (with_argument (NATerm e) r) t h
raised_at_arguments (NBValue u ∷ bs) (MoreNArgs (NAType w) rest) r t h = false_true h
raised_at_arguments (NBValue u ∷ bs) (MoreNArgs (NACo g) rest) r t h = false_true h
raised_at_arguments (NBType k ∷ bs) (MoreNArgs (NATerm e) rest) r t h = false_true h
raised_at_arguments (NBType k ∷ bs) (MoreNArgs (NAType w) rest) r t h =
    let s = with_argument (NAType w) r in
    ap (substituted_type (with_arguments rest s).types) (raised_by_more (type_count bs) t) ∙ raised_at_arguments bs rest s (shifted_type t) h ∙ type_past w r.types t
raised_at_arguments (NBType k ∷ bs) (MoreNArgs (NACo g) rest) r t h = false_true h
raised_at_arguments (NBCo o u w ∷ bs) (MoreNArgs (NATerm e) rest) r t h = false_true h
raised_at_arguments (NBCo o u w ∷ bs) (MoreNArgs (NAType x) rest) r t h = false_true h
raised_at_arguments (NBCo o u w ∷ bs) (MoreNArgs (NACo g) rest) r t h = raised_at_arguments bs rest (with_argument (NACo g) r) t h

module _ (ms : Modules) where
  pub pair_length : {c : Context} {args : NArgs} {gs : List Given} (bs : List NBinder) → ArgsAreGiven ms c args gs → pair_with bs args ≡ true → length gs ≡ length bs
  pair_length [] no_args h = refl
  pair_length [] (one_arg p more) h = false_true h
  pair_length (b ∷ bs) no_args h = false_true h
  pair_length (NBValue t ∷ bs) (one_arg (given_term p) more) h = ap suc (pair_length bs more h)
  pair_length (NBValue t ∷ bs) (one_arg (given_type p) more) h = false_true h
  pair_length (NBValue t ∷ bs) (one_arg (given_coercion p) more) h = false_true h
  pair_length (NBType k ∷ bs) (one_arg (given_term p) more) h = false_true h
  pair_length (NBType k ∷ bs) (one_arg (given_type p) more) h = ap suc (pair_length bs more h)
  pair_length (NBType k ∷ bs) (one_arg (given_coercion p) more) h = false_true h
  pair_length (NBCo o t u ∷ bs) (one_arg (given_term p) more) h = false_true h
  pair_length (NBCo o t u ∷ bs) (one_arg (given_type p) more) h = false_true h
  pair_length (NBCo o t u ∷ bs) (one_arg (given_coercion p) more) h = ap suc (pair_length bs more h)

  -- what stands behind binders, and is of a type from before them, at arguments that something takes for the binders
  pub at_binders : AreDeclaredKinded ms → (owes : Bool) (bs : List NBinder) (d : Context) → BindersAreKinded ms owes d.kinds bs → (args : NArgs) (gs : List Given)
      → ArgsAreGiven ms (without_joins d) args gs → (s u : NTy) → Takes (binders_to bs s) gs u → pair_with bs args ≡ true
      → (e : NExpr) (t : NTy) → HasType ms (with_binders bs d) e (raised_type (type_count bs) t) → HasType ms d (replaced (with_arguments args unchanged) e) t
  at_binders declared owes bs d kinds args gs given s u takes pairs e t typed =
      let same = sym (variables_for_themselves (binders_to bs s)) in
      let fits = arguments_fit ms owes bs d d unchanged (unchanged_fits ms d) kinds args gs given (pair_length bs given pairs) s u (subst (λ x. Takes x gs u) same takes) in
      let there = replacement_keeps_types ms (closed ms declared) (with_binders bs d) d (with_arguments args unchanged) fits.0 e (raised_type (type_count bs) t) typed in
      subst (λ x. HasType ms d (replaced (with_arguments args unchanged) e) x) (raised_at_arguments bs args unchanged t pairs ∙ variables_for_themselves t) there

  -- ALTERNATIVES

  abbrev pair_of : List NBinder → NExpr → List NBinder × NExpr
  pair_of bs e = (bs, e)

  pair_is : {bs cs : List NBinder} {e f : NExpr} → pair_of bs e ≡ pair_of cs f → (bs ≡ cs) × (e ≡ f)
  pair_is h = (ap (λ p. p.0) h, ap (λ p. p.1) h)

  -- the binders and the body of an alternative
  pub record Body (c : Context) (rt : NTy) (bs : List NBinder) (e : NExpr) : Type 0 where
    pub kinds : BindersAreKinded ms false c.kinds bs
    pub typed : HasType ms (with_binders bs c) e (raised_type (type_count bs) rt)

  body_is : {c : Context} {rt : NTy} {bs cs : List NBinder} {e f : NExpr} → some (pair_of bs e) ≡ some (pair_of cs f) → Body c rt bs e → Body c rt cs f
  body_is {c = c} {rt = rt} {cs = cs} {e = e} h b = let p = pair_is (some_some h) in subst (λ x. Body c rt cs x) p.1 (subst (λ x. Body c rt x e) p.0 b)

  either_body : {c : Context} {rt : NTy} {bs cs : List NBinder} {e f : NExpr} (b : Bool) (o : Option (List NBinder × NExpr)) → (if b then Some (bs, e) else o) ≡ Some (cs, f)
      → Body c rt bs e → (o ≡ Some (cs, f) → Body c rt cs f) → Body c rt cs f
  either_body true o h body rest = body_is h body
  either_body false o h body rest = rest h

  pub alternative_fits : {c : Context} {s rt : NTy} {b : Before} {alts : NAlts} → AltsFit ms c s rt b alts → (h : Head) (bs : List NBinder) (e : NExpr)
      → alternative_of h alts ≡ Some (bs, e) → Body c rt bs e
  alternative_fits no_alts h bs e q = none_some q
  alternative_fits (default_alt {rest = rest} k p order more) h bs e q =
      either_body (same_head h head.Default) (alternative_of h rest) q (record { kinds = k; typed = p }) (alternative_fits more h bs e)
  alternative_fits (literal_alt {n = n} {rest = rest} k p int order more) h bs e q =
      either_body (same_head h (head.Lit n)) (alternative_of h rest) q (record { kinds = k; typed = p }) (alternative_fits more h bs e)
  alternative_fits (con_alt {n = n} {rest = rest} k kinds p found is order fits more) h bs e q =
      either_body (same_head h (head.Con n)) (alternative_of h rest) q (record { kinds = kinds; typed = p }) (alternative_fits more h bs e)

  -- the alternative of a constructor
  pub record ConBody (c : Context) (s rt : NTy) (n : Name) (bs : List NBinder) (e : NExpr) : Type 0 where
    pub constructor_of : Constructor
    pub body : Body c rt bs e
    pub found : constructor ms n ≡ Some constructor_of
    pub is : is_data_of s n constructor_of ≡ true
    pub fits : binders_fit n constructor_of s bs ≡ true

  con_body_is : {c : Context} {s rt : NTy} {n : Name} {bs cs : List NBinder} {e f : NExpr} → some (pair_of bs e) ≡ some (pair_of cs f) → ConBody c s rt n bs e → ConBody c s rt n cs f
  con_body_is {c = c} {s = s} {rt = rt} {n = n} {cs = cs} {e = e} h b =
      let p = pair_is (some_some h) in
      subst (λ x. ConBody c s rt n cs x) p.1 (subst (λ x. ConBody c s rt n x e) p.0 b)

  either_con : {c : Context} {s rt : NTy} {bs cs : List NBinder} {e f : NExpr} (m n : Name) (b : Bool) (o : Option (List NBinder × NExpr)) → same_name m n ≡ b
      → (if b then Some (bs, e) else o) ≡ Some (cs, f) → ConBody c s rt n bs e → (o ≡ Some (cs, f) → ConBody c s rt m cs f) → ConBody c s rt m cs f
  either_con {c = c} {s = s} {rt = rt} {cs = cs} {f = f} m n true o same h body rest = subst (λ x. ConBody c s rt x cs f) (sym (same_name_eq m n same)) (con_body_is h body)
  either_con m n false o same h body rest = rest h

  pub constructor_fits : {c : Context} {s rt : NTy} {b : Before} {alts : NAlts} → AltsFit ms c s rt b alts → (n : Name) (bs : List NBinder) (e : NExpr)
      → alternative_of (head.Con n) alts ≡ Some (bs, e) → ConBody c s rt n bs e
  constructor_fits no_alts n bs e q = none_some q
  constructor_fits (default_alt k p order more) n bs e q = constructor_fits more n bs e q
  constructor_fits (literal_alt k p int order more) n bs e q = constructor_fits more n bs e q
  constructor_fits (con_alt {n = m} {rest = rest} k kinds p found is order fits more) n bs e q =
      either_con n m (same_name n m) (alternative_of (head.Con n) rest) refl q
      (record { constructor_of = k; body = record { kinds = kinds; typed = p }; found = found; is = is; fits = fits }) (constructor_fits more n bs e)
