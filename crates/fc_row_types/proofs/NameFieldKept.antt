-- A field of a constructor that gets a let keeps types.
use Rattle.std.proofs.Common.{◌≡◌, Bool, true, false, not, ◌||◌, if◌then◌else◌, List, ◌∷◌, Option, Some, refl, sym, ap, ◌∙◌, subst}
use Rattle.fc_model.specs.Calling.{Given, GivenTerm, Takes, takes_term, takes_type, takes_coercion, constructor, constructor_type}
use Rattle.fc_model.specs.Calling.{atom_fits, is_unlifted}
use Rattle.fc_model.specs.Kinding.{Modules}
use Rattle.fc_model.specs.Nameless.{NTy, NTVar, NArg, NATerm, NAType, NACo, NArgs, MoreNArgs, NBound, NoNBinds, MoreNBinds}
use Rattle.fc_model.specs.Nameless.{NExpr, NLocal, NLet, NCon}
use Rattle.fc_model.specs.Replacing.{below_values, coercion_variables, past_a_value, renamed, variables}
use Rattle.fc_model.specs.Substituting.{instantiated, substituted_type}
use Rattle.fc_model.specs.Typing.{Context, is_atom, with_value, without_joins}
use Rattle.fc_model.specs.TypingLaws.{AreDeclaredKinded}
use Rattle.fc_model.specs.TypingRules.{ArgsAreGiven, no_args, one_arg, ArgIsGiven, given_term, given_type, given_coercion, HasType, typed_con, typed_let, typed_local, no_binds, one_bind}
use Rattle.fc_model.proofs.CallsKept.{BecomesGiven, BecomeGiven, one_becomes, term_becomes, from_some_inv, given_length_kept, takes_kept}
use Rattle.fc_model.proofs.FitsKept.{fits_value, fits_without_joins}
use Rattle.fc_model.proofs.PutInKept.{arg_kept, args_kept, type_kept}
use Rattle.fc_model.proofs.ReplacedKept.{variables_stand}
use Rattle.fc_model.proofs.Substitutions.{variables_for_themselves}
use Rattle.fc_model.proofs.TypesKinded.{types_have_kinds, without_joins_kinded}
use Rattle.fc_rows.specs.Changing.{made}
use Rattle.fc_rows.specs.Commuting.{first_field, name_field, with_first_named}
use Rattle.fc_row_types.specs.TypesKept.{KeepsTypes}
use Rattle.fc_rows.specs.Shrinking.{is_trivial, let_of, moved_arg, moved_args}
use Rattle.fc_row_types.proofs.Holding.{closed, past_a_value_fits}
use Rattle.fc_row_types.proofs.Made.{made_inv, none_some, some_some}
use Rattle.fc_row_types.proofs.SimpleRowsKept.{let_typed}

abbrev field : NTy → NExpr → Option (NTy × NExpr)
field t e = Some (t, e)

pair_first : {x z : NTy} {y w : NExpr} → field x y ≡ field z w → x ≡ z
pair_first h = ap (λ p. p.0) (some_some h)

pair_second : {x z : NTy} {y w : NExpr} → field x y ≡ field z w → y ≡ w
pair_second h = ap (λ p. p.1) (some_some h)

any_atom : (i : Bool) → not i || true ≡ true
any_atom true = refl
any_atom false = refl

module _ (ms : Modules) (declared : AreDeclaredKinded ms) where
  -- the first field that is not trivial is of its type, and the arguments with its variable are as given as they were
  record Named (c : Context) (args : NArgs) (gs : List Given) (x : NTy) (a : NExpr) : Type 0 where
    typed : HasType ms (without_joins c) a x
    atom : atom_fits x (is_atom a) ≡ true
    given : List Given
    are_given : ArgsAreGiven ms (without_joins (with_value x c)) (with_first_named args) given
    become : BecomeGiven NTVar gs given

  -- an argument, and arguments, past one value more
  one_past : (c : Context) (x : NTy) (a : NArg) (g : Given) → ArgIsGiven ms (without_joins c) a g
      → (h : Given) × ArgIsGiven ms (without_joins (with_value x c)) (moved_arg past_a_value a) h × BecomesGiven NTVar g h
  one_past c x a g p =
      let stand = variables_stand ms (closed ms declared) in
      arg_kept (closed ms declared) stand (without_joins c) (without_joins (with_value x c)) past_a_value
      (fits_without_joins stand c (with_value x c) past_a_value (past_a_value_fits ms declared c x)) a g p

  all_past : (c : Context) (x : NTy) (args : NArgs) (gs : List Given) → ArgsAreGiven ms (without_joins c) args gs
      → (hs : List Given) × ArgsAreGiven ms (without_joins (with_value x c)) (moved_args past_a_value args) hs × BecomeGiven NTVar gs hs
  all_past c x args gs p =
      let stand = variables_stand ms (closed ms declared) in
      args_kept (closed ms declared) stand (without_joins c) (without_joins (with_value x c)) past_a_value
      (fits_without_joins stand c (with_value x c) past_a_value (past_a_value_fits ms declared c x)) args gs p

  -- an argument before what has been named
  before : (c : Context) (a : NArg) (g : Given) (rest : NArgs) (gs : List Given) (x : NTy) (e : NExpr) → ArgIsGiven ms (without_joins c) a g → Named c rest gs x e
      → with_first_named (MoreNArgs a rest) ≡ MoreNArgs (moved_arg past_a_value a) (with_first_named rest) → Named c (MoreNArgs a rest) (g ∷ gs) x e
  before c a g rest gs x e p n same =
      let m = one_past c x a g p in
      record {
        typed = n.typed;
        atom = n.atom;
        given = m.0 ∷ n.given;
        are_given = subst (λ y. ArgsAreGiven ms (without_joins (with_value x c)) y (m.0 ∷ n.given)) (sym same) (one_arg m.1 n.are_given);
        become = one_becomes m.2 n.become;
      }

  first_named : (c : Context) {args : NArgs} {gs : List Given} → ArgsAreGiven ms (without_joins c) args gs → (t : NTy) {u : NTy} → Takes t gs u → (x : NTy) (a : NExpr)
      → first_field t args ≡ Some (x, a) → Named c args gs x a
  first_named c no_args t takes x a h = none_some h
  first_named c (one_arg {rest = rest} {gs = gs} (given_term {e = e} p) more) t (takes_term {s = s} {r = r} fits taken) x a h =
      either_way (is_trivial e) refl h (first_named c more r taken x a)
    where
      either_way : (b : Bool) → is_trivial e ≡ b → (if b then first_field r rest else Some (s, e)) ≡ Some (x, a) → (first_field r rest ≡ Some (x, a) → Named c rest gs x a)
          → Named c (MoreNArgs (NATerm e) rest) (GivenTerm s (is_atom e) ∷ gs) x a
      either_way true trivial q later =
          before c (NATerm e) (GivenTerm s (is_atom e)) rest gs x a (given_term p) (later q)
          (ap (λ b. if b then MoreNArgs (NATerm (renamed past_a_value e)) (with_first_named rest) else MoreNArgs (NATerm (NLocal 0)) (moved_args past_a_value rest)) trivial)
      either_way false trivial q later =
          let m = all_past c x rest gs more in
          let same : s ≡ x = pair_first q in
          let here : HasType ms (without_joins (with_value x c)) (NLocal 0) x = typed_local refl in
          let args = ap (λ b. if b then MoreNArgs (NATerm (renamed past_a_value e)) (with_first_named rest) else MoreNArgs (NATerm (NLocal 0)) (moved_args past_a_value rest)) trivial in
          let one : BecomesGiven NTVar (GivenTerm s (is_atom e)) (GivenTerm (substituted_type NTVar s) true) = term_becomes (λ k. any_atom (is_unlifted (substituted_type NTVar s))) in
          let is_x : substituted_type NTVar s ≡ x = variables_for_themselves s ∙ same in
          record {
            typed = subst (λ y. HasType ms (without_joins c) y x) (pair_second q) (subst (λ y. HasType ms (without_joins c) e y) same p);
            atom = subst (λ y. atom_fits x (is_atom y) ≡ true) (pair_second q) (subst (λ y. atom_fits y (is_atom e) ≡ true) same fits);
            given = GivenTerm x true ∷ m.0;
            are_given = subst (λ y. ArgsAreGiven ms (without_joins (with_value x c)) y (GivenTerm x true ∷ m.0)) (sym args) (one_arg (given_term here) m.1);
            become = one_becomes (subst (λ y. BecomesGiven NTVar (GivenTerm s (is_atom e)) (GivenTerm y true)) is_x one) m.2;
          }
  first_named c (one_arg {rest = rest} {gs = gs} (given_type {t = y} {k = k} p) more) t (takes_type {r = r} taken) x a h =
      before c (NAType y) _ rest gs x a (given_type p) (first_named c more (instantiated y r) taken x a h) refl
  first_named c (one_arg {rest = rest} {gs = gs} (given_coercion {g = g} p) more) t (takes_coercion {r = r} taken) x a h =
      before c (NACo g) _ rest gs x a (given_coercion p) (first_named c more r taken x a h) refl

  pub name_field_keeps : KeepsTypes ms (λ s e. name_field ms e)
  name_field_keeps s g (NLet false (MoreNBinds (NBound t (NCon n args)) NoNBinds) b) f h u (typed_let (one_bind j kind v (typed_con k gs found given long takes) fits no_binds) q) =
      let c = s.context in
      let l = from_some_inv (λ k. made (λ f. let_of f.0 f.1 (let_of t (NCon n (with_first_named args)) (renamed (below_values variables coercion_variables 1 past_a_value) b)))
      (first_field (constructor_type n k) args)) (constructor ms n) f h in
      let m = made_inv (λ f. let_of f.0 f.1 (let_of t (NCon n (with_first_named args)) (renamed (below_values variables coercion_variables 1 past_a_value) b)))
      (first_field (constructor_type n l.0) args) f l.2 in
      let same = some_some (sym l.1 ∙ found) in
      let named = first_named c given (constructor_type n k) takes m.0.0 m.0.1 (subst (λ k. first_field (constructor_type n k) args ≡ Some (m.0.0, m.0.1)) same m.1) in
      let d = with_value m.0.0 c in
      let value = types_have_kinds ms declared (without_joins c) (without_joins_kinded ms c g.kinded) m.0.1 m.0.0 named.typed in
      let taken = takes_kept NTVar takes named.become in
      let whole = subst (λ y. Takes (constructor_type n k) named.given y) (variables_for_themselves t)
      (subst (λ y. Takes y named.given (substituted_type NTVar t)) (variables_for_themselves (constructor_type n k)) taken) in
      let con : HasType ms (without_joins d) (NCon n (with_first_named args)) t = typed_con k named.given found named.are_given (given_length_kept named.become ∙ long) whole in
      let stand = variables_stand ms (closed ms declared) in
      let e = renamed (below_values variables coercion_variables 1 past_a_value) b in
      let there = type_kept (closed ms declared) stand (with_value t c) (with_value (substituted_type NTVar t) d) (below_values variables coercion_variables 1 past_a_value)
      (fits_value stand c d past_a_value (past_a_value_fits ms declared c m.0.0) t) b u q in
      let body = subst (λ y. HasType ms (with_value t d) e y) (variables_for_themselves u)
      (subst (λ y. HasType ms (with_value y d) e (substituted_type NTVar u)) (variables_for_themselves t) there) in
      subst (λ y. HasType ms c y u) m.2
      (let_typed ms declared c m.0.0 m.0.1 _ u value named.typed named.atom (let_typed ms declared d t (NCon n (with_first_named args)) e u (j, kind, v) con fits body))
  name_field_keeps s g e f h t typed = none_some h
