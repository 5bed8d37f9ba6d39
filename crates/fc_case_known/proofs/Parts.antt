-- Arguments and alternatives: what they are made of, one after the other.
use Rattle.std.proofs.Common.{◌≡◌, ℕ, suc, ◌+◌, ◌-◌, ◌<◌, ◌≤◌, ◌&&◌, List, [], ◌∷◌, ◌++◌, drop, get_or, length, take, take_all, Some, None, refl, sym, ap, ◌∙◌, arith, length-drop}
use Rattle.std.proofs.lemmas.List.{length-map}
use Rattle.std.proofs.Math.ListN.{drop_of_length-le}
use Rattle.fc_syntax.specs.View.{param_of, params_of}
use Rattle.fc_syntax.specs.declared.expr.Arg.{Arg}
use Rattle.fc_syntax.specs.declared.expr.Binder.{Binder}
use Rattle.fc_syntax.specs.declared.module.Param as RustParam
use Rattle.fc_syntax.specs.declared.ty.Name.{Name}
use Rattle.fc_syntax.specs.declared.ty.Ref.{Ref}
use Rattle.fc_model.specs.Calling.{type_arguments, type_count}
use Rattle.fc_model.specs.Nameless.{NTy, NTVar, NGVar, NLocal, NBinder, NBValue, NBType, NBCo, NParam, NATerm, NAType, NACo, NArgs, NoNArgs, MoreNArgs}
use Rattle.fc_model.specs.Nameless.{NExpr, NVar, NLit, NApp, NLam, NLet, NCase, NCast, NCon, NPrim, NFail, NJoin, NJump}
use Rattle.fc_model.specs.NamelessView.{narg_of, nargs_of, nbinder_of, nbinders_of, nparams_of}
use Rattle.fc_model.specs.Replacing.{Renaming, expressions, past_a_value, put_in_args, renamed, whole_coercions}
use Rattle.fc_model.specs.Substituting.{raised_type}
use Rattle.fc_model.specs.Worded.{bare_param}
use Rattle.fc_rows.specs.Shrinking.{are_trivial, at_scrutinee, is_trivial, moved_args, pair_with, without_first}
use Rattle.fc_rows.specs.Surroundings.{as_arguments, types_as_arguments}
use Rattle.fc_subst.proofs.Delayed.{arguments_are_put}
use Rattle.fc_subst.specs.Replacements.{past_all, renaming_of}
use Rattle.fc_subst.specs.declared.shift.Shift.{Shift}
use Rattle.fc_known.specs.Counts.{counts}
use Rattle.fc_lets_for_terms.specs.Naming.{before}
use Rattle.fc_lets_for_terms.proofs.InOrder.{before_none, before_one, drop_at}
use Rattle.fc_forms.specs.Forms.{construction_parts}
use Rattle.fc_case_known.specs.Found.{as_argument, behind_binder}
use Rattle.fc_case_known.specs.Opening.{values_alone}

-- CONSTRUCTORS AND LITERALS

pub constructed_form : (e : NExpr) (p : Name × NArgs) → Some p ≡ construction_parts e → e ≡ NCon p.0 p.1
constructed_form (NCon n args) p h = let same : (n, args) ≡ p = cc in ap (λ q. NCon q.0 q.1) same
constructed_form _ p h = cc

-- BEHIND PARAMETERS

behind_first : (ps : List NParam) (xs : List (Arg ℕ Ref)) → without_first ps (nargs_of xs) ≡ nargs_of (drop (length ps) xs)
behind_first [] xs = refl
behind_first (p ∷ ps) [] = refl
behind_first (p ∷ ps) (x ∷ xs) = behind_first ps xs

length-params : (ps : List RustParam.Param) → length (nparams_of ps) ≡ length ps
length-params ps = length-map (params_of ps) bare_param ∙ length-map ps param_of

behind_params : (ps : List RustParam.Param) (xs : List (Arg ℕ Ref)) → without_first (nparams_of ps) (nargs_of xs) ≡ nargs_of (drop (length ps) xs)
behind_params ps xs = behind_first (nparams_of ps) xs ∙ ap (λ n. nargs_of (drop n xs)) (length-params ps)

pub some_behind : (ps : List RustParam.Param) (xs : List (Arg ℕ Ref)) → nargs_of (take (length xs - length ps) (drop (length ps) xs)) ≡ without_first (nparams_of ps) (nargs_of xs)
some_behind ps xs = ap nargs_of (take_all (length xs - length ps) (drop (length ps) xs) (omega (arith, length-drop (length ps) xs))) ∙ sym (behind_params ps xs)

pub none_behind : (ps : List RustParam.Param) (xs : List (Arg ℕ Ref)) → length xs < length ps → nargs_of (take (length xs - length xs) (drop (length xs) xs)) ≡ without_first (nparams_of ps) (nargs_of xs)
none_behind ps xs more =
    let end : length xs ≤ length xs = omega arith in
    let far : length xs ≤ length ps = omega arith in
    ap nargs_of (take_all (length xs - length xs) (drop (length xs) xs) (omega (arith, length-drop (length xs) xs)) ∙ drop_of_length-le xs end ∙ sym (drop_of_length-le xs far))
    ∙ sym (behind_params ps xs)

-- AN ALTERNATIVE WITH BINDERS

pub has_binders : (t : NTy) (e b : NExpr) (bs : List (Binder ℕ)) → (bs ≡ [] → ⊥) → None ≡ at_scrutinee t e (nbinders_of bs, b)
has_binders t e b [] some = absurd (some refl)
has_binders t e b (c ∷ bs) some = refl

-- PAST BINDERS

pub past_is_put : (p : Shift) (args : NArgs) → moved_args (renaming_of p) args ≡ put_in_args expressions whole_coercions (past_all p) args
past_is_put p args = arguments_are_put (renaming_of p) (past_all p) (record { types = λ i. refl; coercions = λ i. refl; values = λ i. refl; joins = λ i. refl }) args

trivial_renamed : (r : Renaming) (e : NExpr) → is_trivial (renamed r e) ≡ is_trivial e
trivial_renamed r (NLocal i) = refl
trivial_renamed r (NVar n) = refl
trivial_renamed r (NLit n) = refl
trivial_renamed r (NApp f (NATerm a)) = refl
trivial_renamed r (NApp f (NAType t)) = trivial_renamed r f
trivial_renamed r (NApp f (NACo g)) = refl
trivial_renamed r (NLam b e) = refl
trivial_renamed r (NLet o bs e) = refl
trivial_renamed r (NCase e t u alts) = refl
trivial_renamed r (NCast e g) = trivial_renamed r e
trivial_renamed r (NCon n args) = refl
trivial_renamed r (NPrim op es) = refl
trivial_renamed r (NFail t) = refl
trivial_renamed r (NJoin o t js e) = refl
trivial_renamed r (NJump i args) = refl

pub trivial_moved : (r : Renaming) (args : NArgs) → are_trivial (moved_args r args) ≡ are_trivial args
trivial_moved r NoNArgs = refl
trivial_moved r (MoreNArgs (NATerm e) rest) = ap (λ b. b && are_trivial (moved_args r rest)) (trivial_renamed r e) ∙ ap (λ b. is_trivial e && b) (trivial_moved r rest)
trivial_moved r (MoreNArgs (NAType t) rest) = trivial_moved r rest
trivial_moved r (MoreNArgs (NACo g) rest) = trivial_moved r rest

pub pair_moved : (r : Renaming) (bs : List NBinder) (args : NArgs) → pair_with bs (moved_args r args) ≡ pair_with bs args
pair_moved r [] NoNArgs = refl
pair_moved r [] (MoreNArgs a rest) = refl
pair_moved r (b ∷ bs) NoNArgs = refl
pair_moved r (NBValue t ∷ bs) (MoreNArgs (NATerm e) rest) = pair_moved r bs rest
pair_moved r (NBValue t ∷ bs) (MoreNArgs (NAType u) rest) = refl
pair_moved r (NBValue t ∷ bs) (MoreNArgs (NACo g) rest) = refl
pair_moved r (NBType k ∷ bs) (MoreNArgs (NATerm e) rest) = refl
pair_moved r (NBType k ∷ bs) (MoreNArgs (NAType u) rest) = pair_moved r bs rest
pair_moved r (NBType k ∷ bs) (MoreNArgs (NACo g) rest) = refl
pair_moved r (NBCo o t u ∷ bs) (MoreNArgs (NATerm e) rest) = refl
pair_moved r (NBCo o t u ∷ bs) (MoreNArgs (NAType v) rest) = refl
pair_moved r (NBCo o t u ∷ bs) (MoreNArgs (NACo g) rest) = pair_moved r bs rest

-- past one value
abbrev pub one_value : Shift
one_value = values_alone 1

pub past_one_is : (args : NArgs) → moved_args (renaming_of one_value) args ≡ moved_args past_a_value args
past_one_is args =
    arguments_are_put (renaming_of one_value) (past_all one_value) (record { types = λ i. refl; coercions = λ i. refl; values = λ i. refl; joins = λ i. refl }) args
    ∙ sym (arguments_are_put past_a_value (past_all one_value) (record {
      types = λ i. ap NTVar (let h : i + 0 ≡ i = omega arith in h);
      coercions = λ i. ap NGVar (let h : i + 0 ≡ i = omega arith in h);
      values = λ i. ap NLocal (let h : i + 1 ≡ suc i = omega arith in h);
      joins = λ i. let h : i + 0 ≡ i = omega arith in h;
    }) args)

-- BINDERS AS ARGUMENTS

-- the first of binders, and those behind it
counts_behind : (b : NBinder) (bs : List NBinder) → behind_binder b (counts (b ∷ bs)) ≡ counts bs
counts_behind (NBValue t) bs = ap (λ (n : ℕ). record (counts bs) { values = n }) (omega arith)
counts_behind (NBType k) bs = ap (λ (n : ℕ). record (counts bs) { types = n }) (omega arith)
counts_behind (NBCo r t u) bs = ap (λ (n : ℕ). record (counts bs) { coercions = n }) (omega arith)

as_arguments_more : (b : NBinder) (bs : List NBinder) → as_arguments (b ∷ bs) ≡ MoreNArgs (as_argument b (counts bs)) (as_arguments bs)
as_arguments_more (NBValue t) bs = refl
as_arguments_more (NBType k) bs = refl
as_arguments_more (NBCo r t u) bs = refl

module _ (bs : List (Binder ℕ)) (i : ℕ) (b : Binder ℕ) (low : i < length bs) (is : b ≡ get_or bs i b) where
  pub left_step : (left : Shift) → left ≡ counts (nbinders_of (drop i bs)) → behind_binder (nbinder_of b) left ≡ counts (nbinders_of (drop (i + 1) bs))
  left_step left so_far =
      ap (behind_binder (nbinder_of b)) (so_far ∙ ap (λ xs. counts (nbinders_of xs)) (drop_at bs i b low is)) ∙ counts_behind (nbinder_of b) (nbinders_of (drop (i + 1) bs))

  pub binders_step : (args pushed : List (Arg ℕ Ref)) (y : Arg ℕ Ref) (left : Shift) (whole : NArgs) → pushed ≡ args ++ y ∷ [] → left ≡ counts (nbinders_of (drop (i + 1) bs))
      → narg_of y ≡ as_argument (nbinder_of b) left → whole ≡ before (nargs_of args) (as_arguments (nbinders_of (drop i bs)))
      → whole ≡ before (nargs_of pushed) (as_arguments (nbinders_of (drop (i + 1) bs)))
  binders_step args pushed y left whole push behind same so_far =
      let rest = as_arguments (nbinders_of (drop (i + 1) bs)) in
      so_far
      ∙ ap (λ z. before (nargs_of args) z) (ap (λ xs. as_arguments (nbinders_of xs)) (drop_at bs i b low is) ∙ as_arguments_more (nbinder_of b) (nbinders_of (drop (i + 1) bs)))
      ∙ ap (λ p. before (nargs_of args) (MoreNArgs (as_argument (nbinder_of b) p) rest)) (sym behind)
      ∙ ap (λ z. before (nargs_of args) (MoreNArgs z rest)) (sym same)
      ∙ sym (before_one args y rest) ∙ ap (λ z. before (nargs_of z) rest) (sym push)

pub binders_end : (bs : List (Binder ℕ)) (args : List (Arg ℕ Ref)) (i : ℕ) (whole : NArgs) → length bs ≤ i → whole ≡ before (nargs_of args) (as_arguments (nbinders_of (drop i bs))) → nargs_of args ≡ whole
binders_end bs args i whole far so_far =
    sym (so_far ∙ ap (λ xs. before (nargs_of args) (as_arguments (nbinders_of xs))) (drop_of_length-le bs far) ∙ before_none (nargs_of args))

-- TYPES AS ARGUMENTS

before_others : (xs ys zs : NArgs) → before (before xs ys) zs ≡ before xs (before ys zs)
before_others NoNArgs ys zs = refl
before_others (MoreNArgs a rest) ys zs = ap (MoreNArgs a) (before_others rest ys zs)

pub types_before : (m : ℕ) (ts : List NTy) (rest : NArgs) → before (types_as_arguments m ts NoNArgs) rest ≡ types_as_arguments m ts rest
types_before m [] rest = refl
types_before m (t ∷ ts) rest = ap (MoreNArgs (NAType (raised_type m t))) (types_before m ts rest)

types_more : (m : ℕ) (ts : List NTy) (t : NTy) → types_as_arguments m ts (MoreNArgs (NAType (raised_type m t)) NoNArgs) ≡ types_as_arguments m (ts ++ t ∷ []) NoNArgs
types_more m [] t = refl
types_more m (u ∷ ts) t = ap (MoreNArgs (NAType (raised_type m u))) (types_more m ts t)

-- one more type behind those of the head
pub types_step : (m : ℕ) (old : NArgs) (args pushed : List (Arg ℕ Ref)) (y : Arg ℕ Ref) (h t : NTy) → nargs_of args ≡ before old (types_as_arguments m (type_arguments h) NoNArgs)
    → pushed ≡ args ++ y ∷ [] → narg_of y ≡ NAType (raised_type m t) → nargs_of pushed ≡ before old (types_as_arguments m (type_arguments h ++ t ∷ []) NoNArgs)
types_step m old args pushed y h t so_far push same =
    ap nargs_of push ∙ sym (before_none (nargs_of (args ++ y ∷ []))) ∙ before_one args y NoNArgs
    ∙ ap (λ z. before z (MoreNArgs (narg_of y) NoNArgs)) so_far ∙ ap (λ z. before (before old (types_as_arguments m (type_arguments h) NoNArgs)) (MoreNArgs z NoNArgs)) same
    ∙ before_others old (types_as_arguments m (type_arguments h) NoNArgs) (MoreNArgs (NAType (raised_type m t)) NoNArgs)
    ∙ ap (before old) (types_before m (type_arguments h) (MoreNArgs (NAType (raised_type m t)) NoNArgs) ∙ types_more m (type_arguments h) t)

-- no type is behind
pub none_added : (old : NArgs) (m : ℕ) (t : NTy) → type_arguments t ≡ [] → old ≡ before old (types_as_arguments m (type_arguments t) NoNArgs)
none_added old m t none = sym (ap (λ ts. before old (types_as_arguments m ts NoNArgs)) none ∙ before_none old)

-- all of them, as code puts them one behind the other
pub all_there : (bs found : List (Binder ℕ)) (own : Shift) (t : NTy) (start types all : List (Arg ℕ Ref)) → found ≡ bs → own ≡ counts (nbinders_of found) → start ≡ []
    → nargs_of types ≡ before (nargs_of start) (types_as_arguments own.types (type_arguments t) NoNArgs) → nargs_of all ≡ before (nargs_of types) (as_arguments (nbinders_of found))
    → nargs_of all ≡ types_as_arguments (type_count (nbinders_of bs)) (type_arguments t) (as_arguments (nbinders_of bs))
all_there bs found own t start types all same counted none first then =
    then
    ∙ ap (λ z. before z (as_arguments (nbinders_of found))) (first ∙ ap (λ xs. before (nargs_of xs) (types_as_arguments own.types (type_arguments t) NoNArgs)) none)
    ∙ types_before own.types (type_arguments t) (as_arguments (nbinders_of found))
    ∙ ap (λ p. types_as_arguments p.types (type_arguments t) (as_arguments (nbinders_of found))) counted
    ∙ ap (λ xs. types_as_arguments (type_count (nbinders_of xs)) (type_arguments t) (as_arguments (nbinders_of xs))) same
