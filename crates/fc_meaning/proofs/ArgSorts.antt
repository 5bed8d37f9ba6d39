-- The sorts that are read off arguments are those of their types.
use Rattle.std.proofs.Common.{◌≡◌, ℕ, suc, true, List, ◌∷◌, length, Some, refl, sym, ap, ◌∙◌}
use Rattle.fc_syntax.specs.declared.ty.Name.{Name}
use Rattle.fc_model.specs.Calling.{Constructor, Given, Takes, takes_nothing, takes_term, takes_type, takes_coercion, atom_fits, constructor, constructor_binders, constructed_type, over_binder}
use Rattle.fc_model.specs.Erasure.{Scope, arg_sorts, binder_sorts, sort_of, sort_of_type}
use Rattle.fc_model.specs.Kinding.{Modules, param_kinds}
use Rattle.fc_model.specs.Nameless.{NTy, NTInt, NExpr, NCon, NArgs}
use Rattle.fc_model.specs.Terms.{Sort, Unlifted}
use Rattle.fc_model.specs.Typing.{Context, is_atom}
use Rattle.fc_model.specs.TypingRules.{HasType, typed_local, typed_declared, typed_literal, typed_application, typed_lambda, typed_let, typed_case, typed_cast, typed_con, typed_prim, typed_fail, typed_join, typed_jump}
use Rattle.fc_model.specs.TypingRules.{given_term, given_type, given_coercion, ArgsAreGiven, no_args, one_arg}
use Rattle.fc_meaning.specs.Laws.{Agrees}
use Rattle.fc_meaning.proofs.Asking.{Asks, asks_no_more, asks_term, asks_type, asks_coercion, asks_constructor, asks_instantiated}
use Rattle.fc_meaning.proofs.HeldDeclarations.{AreHeld, constructor_holds, value_lifted}
use Rattle.fc_meaning.proofs.Optional.{some_is}
use Rattle.fc_meaning.proofs.SortsOfTypes.{lifted_by_kind, no_atom_is_lifted}

-- numbers of arguments
none_is_one_more : {n : ℕ} → 0 ≡ suc n → ⊥
none_is_one_more h = cc

one_less : {m n : ℕ} → suc m ≡ suc n → m ≡ n
one_less h = cc

module _ (ms : Modules) (held : AreHeld ms) where
  -- the sort that is read off what fits the place of its type is that of the type
  pub sort_is : {c : Context} {e : NExpr} {t : NTy} → HasType ms c e t → (s : Scope) → Agrees c s → atom_fits t (is_atom e) ≡ true → sort_of s e ≡ sort_of_type t
  sort_is (typed_local {i = i} {t = t} p) s agree f = agree i t p
  sort_is (typed_declared {n = n} {t = t} p) s agree f = sym (value_lifted held n t p)
  sort_is typed_literal s agree f = refl
  sort_is (typed_application u {t = t} g h a takes) s agree f = no_atom_is_lifted t f
  sort_is (typed_lambda {b = b} {u = u} k e below) s agree f = no_atom_is_lifted (over_binder b u) f
  sort_is (typed_let {t = t} bs e) s agree f = no_atom_is_lifted t f
  sort_is (typed_case {rt = t} j k e h i alts v) s agree f = no_atom_is_lifted t f
  sort_is (typed_cast {t = t} e g) s agree f = no_atom_is_lifted t f
  sort_is (typed_con {t = t} k gs is args l takes) s agree f = no_atom_is_lifted t f
  sort_is (typed_prim a p b q) s agree f = no_atom_is_lifted NTInt f
  sort_is (typed_fail {t = t} k h v) s agree f = no_atom_is_lifted t f
  sort_is (typed_join {t = t} k h js e v) s agree f = no_atom_is_lifted t f
  sort_is (typed_jump j gs t is args l takes) s agree f = no_atom_is_lifted j.result f

  -- what takes as many arguments as it asks for takes terms and coercions of the sorts that it asks for
  taken_sorts : {c : Context} {t r : NTy} {gs : List Given} {args : NArgs} {n : ℕ} {ss : List Sort} → Takes t gs r → Asks t n ss → length gs ≡ n
      → ArgsAreGiven ms c args gs → (s : Scope) → Agrees c s → arg_sorts s args ≡ ss
  taken_sorts takes_nothing asks_no_more l no_args s agree = refl
  taken_sorts takes_nothing (asks_term o same asks) l args s agree = absurd (none_is_one_more l)
  taken_sorts takes_nothing (asks_type k asks) l args s agree = absurd (none_is_one_more l)
  taken_sorts takes_nothing (asks_coercion asks) l args s agree = absurd (none_is_one_more l)
  taken_sorts (takes_term f takes) asks_no_more l args s agree = absurd (none_is_one_more (sym l))
  taken_sorts (takes_term f takes) (asks_term o same asks) l (one_arg {rest = others} (given_term a) rest) s agree =
      ap (λ x. x ∷ arg_sorts s others) (sort_is a s agree f ∙ same) ∙ ap (λ xs. o ∷ xs) (taken_sorts takes asks (one_less l) rest s agree)
  taken_sorts (takes_type takes) asks_no_more l args s agree = absurd (none_is_one_more (sym l))
  taken_sorts (takes_type {u = u} takes) (asks_type k asks) l (one_arg (given_type h) rest) s agree =
      taken_sorts takes (asks_instantiated asks u (lifted_by_kind h k)) (one_less l) rest s agree
  taken_sorts (takes_coercion takes) asks_no_more l args s agree = absurd (none_is_one_more (sym l))
  taken_sorts (takes_coercion takes) (asks_coercion asks) l (one_arg (given_coercion p) rest) s agree =
      ap (λ xs. Unlifted ∷ xs) (taken_sorts takes asks (one_less l) rest s agree)

  -- the sorts that are read off the arguments of a constructor are those of its binders
  pub sorts_of_arguments : (c : Context) (s : Scope) → Agrees c s → (n : Name) (args : NArgs) (t : NTy) → HasType ms c (NCon n args) t → (k : Constructor)
      → constructor ms n ≡ Some k → arg_sorts s args ≡ binder_sorts (constructor_binders k)
  sorts_of_arguments c s agree n args t (typed_con j gs is given l takes) k same =
      let con = constructor_holds held n j is in
      let asks = asks_constructor (param_kinds j.params) j.binders j.fields (constructed_type n j) con.params con.holds in
      taken_sorts takes asks l given s agree ∙ ap (λ x. binder_sorts (constructor_binders x)) (some_is (sym is ∙ same))
