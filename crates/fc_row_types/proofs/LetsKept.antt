-- Lets for the terms among arguments, and what stands behind them.
use Rattle.std.proofs.Common.{◌≡◌, ℕ, suc, ◌+◌, Bool, true, false, not, ◌||◌, List, [], ◌∷◌, length, Some, refl, sym, ap, ◌∙◌, subst, arith}
use Rattle.fc_model.specs.Calling.{Given, GivenTerm, GivenType, GivenCoercion, Takes, takes_nothing, takes_term, takes_type, takes_coercion, atom_fits, is_unlifted}
use Rattle.fc_model.specs.Faulting.{at_distance}
use Rattle.fc_model.specs.Kinding.{Modules}
use Rattle.fc_model.specs.Nameless.{NTy, NExpr, NArgs}
use Rattle.fc_model.specs.Replacing.{renamed}
use Rattle.fc_model.specs.Substituting.{instantiated}
use Rattle.fc_model.specs.Typing.{Context, without_joins}
use Rattle.fc_model.specs.TypingLaws.{AreDeclaredKinded, IsContextKinded}
use Rattle.fc_model.specs.TypingRules.{HasType, typed_local, given_term, given_type, given_coercion, ArgsAreGiven, no_args, one_arg}
use Rattle.fc_model.proofs.ReplacedKept.{moved_types}
use Rattle.fc_model.proofs.TypesKinded.{types_have_kinds}
use Rattle.fc_rows.specs.Shrinking.{behind_lets, let_of, named_arguments, term_count}
use Rattle.fc_rows.specs.Surroundings.{past_values}
use Rattle.fc_row_types.proofs.Contexts.{with_all_values}
use Rattle.fc_row_types.proofs.Fewer.{renamed_is_atom}
use Rattle.fc_row_types.proofs.Holding.{closed}
use Rattle.fc_row_types.proofs.Made.{made_inv, some_some}
use Rattle.fc_row_types.proofs.SimpleRowsKept.{let_typed}

-- the types behind lets for the terms that are given, and what is given behind them
abbrev pub let_types : List Given → List NTy → List NTy
let_types [] vs = vs
let_types (GivenTerm t a ∷ gs) vs = let_types gs (t ∷ vs)
let_types (GivenType t k ∷ gs) vs = let_types gs vs
let_types (GivenCoercion r t u ∷ gs) vs = let_types gs vs

abbrev pub named_given : List Given → List Given
named_given [] = []
named_given (GivenTerm t a ∷ gs) = GivenTerm t true ∷ named_given gs
named_given (GivenType t k ∷ gs) = GivenType t k ∷ named_given gs
named_given (GivenCoercion r t u ∷ gs) = GivenCoercion r t u ∷ named_given gs

pub named_length : (gs : List Given) → length (named_given gs) ≡ length gs
named_length [] = refl
named_length (GivenTerm t a ∷ gs) = ap suc (named_length gs)
named_length (GivenType t k ∷ gs) = ap suc (named_length gs)
named_length (GivenCoercion r t u ∷ gs) = ap suc (named_length gs)

fits_true : (i : Bool) → not i || true ≡ true
fits_true true = refl
fits_true false = refl

pub named_taken : {t u : NTy} {gs : List Given} → Takes t gs u → Takes t (named_given gs) u
named_taken takes_nothing = takes_nothing
named_taken (takes_term {s = s} fits rest) = takes_term (fits_true (is_unlifted s)) (named_taken rest)
named_taken (takes_type rest) = takes_type (named_taken rest)
named_taken (takes_coercion rest) = takes_coercion (named_taken rest)

module _ (ms : Modules) where
  -- what stood before the lets is as many values further out as there are terms
  pub past_lets : {c : Context} {args : NArgs} {gs : List Given} → ArgsAreGiven ms c args gs → (vs : List NTy) (i : ℕ)
      → at_distance (let_types gs vs) (i + term_count args) ≡ at_distance vs i
  past_lets no_args vs i = ap (at_distance vs) (omega arith)
  past_lets (one_arg {rest = rest} {gs = gs} (given_term {t = t} p) more) vs i =
      let e : i + suc (term_count rest) ≡ suc i + term_count rest = omega arith in
      ap (at_distance (let_types gs (t ∷ vs))) e ∙ past_lets more (t ∷ vs) (suc i)
  past_lets (one_arg (given_type p) more) vs i = past_lets more vs i
  past_lets (one_arg (given_coercion p) more) vs i = past_lets more vs i

  -- the variables of the lets are of the types of the terms
  pub named_are_given : (c : Context) {args : NArgs} {gs : List Given} → ArgsAreGiven ms (without_joins c) args gs → (vs : List NTy)
      → ArgsAreGiven ms (without_joins (with_all_values (let_types gs vs) c)) (named_arguments args) (named_given gs)
  named_are_given c no_args vs = no_args
  named_are_given c (one_arg {rest = rest} {gs = gs} (given_term {t = t} p) more) vs =
      let e : 0 + term_count rest ≡ term_count rest = omega arith in
      one_arg (given_term (typed_local (ap (at_distance (let_types gs (t ∷ vs))) (sym e) ∙ past_lets more (t ∷ vs) 0))) (named_are_given c more (t ∷ vs))
  named_are_given c (one_arg (given_type p) more) vs = one_arg (given_type p) (named_are_given c more vs)
  named_are_given c (one_arg (given_coercion p) more) vs = one_arg (given_coercion p) (named_are_given c more vs)

  module _ (declared : AreDeclaredKinded ms) where
    past_term : (c : Context) (i : ℕ) (vs : List NTy) → ((k : ℕ) → at_distance vs (k + i) ≡ at_distance c.values k) → (a : NExpr) (s : NTy) → HasType ms (without_joins c) a s
        → HasType ms (without_joins (with_all_values vs c)) (renamed (past_values i) a) s
    past_term c i vs past a s h =
        moved_types ms (closed ms declared) (without_joins c) c.coercions vs [] (λ k. k) (λ k. k + i) (λ k. k) (λ k e q. q) (λ k t q. past k ∙ q) (λ k j q. q) a s h

    -- lets for the terms of arguments that are taken, around a body
    pub lets_typed : (c : Context) {args : NArgs} {gs : List Given} → ArgsAreGiven ms (without_joins c) args gs → (t : NTy) {u : NTy} → Takes t gs u → IsContextKinded ms (without_joins c)
        → (i : ℕ) (vs : List NTy) → ((k : ℕ) → at_distance vs (k + i) ≡ at_distance c.values k) → (b f : NExpr) (w : NTy)
        → HasType ms (with_all_values (let_types gs vs) c) b w → behind_lets i t args b ≡ Some f → HasType ms (with_all_values vs c) f w
    lets_typed c no_args t takes v i vs past b f w h e = subst (λ x. HasType ms (with_all_values vs c) x w) (some_some e) h
    lets_typed c (one_arg {rest = rest} (given_term {e = a} p) more) t (takes_term {s = s} {r = r} fits taken) v i vs past b f w h e =
        let m = made_inv (let_of s (renamed (past_values i) a)) (behind_lets (suc i) r rest b) f e in
        let further : (k : ℕ) → at_distance (s ∷ vs) (k + suc i) ≡ at_distance c.values k = λ k. let q : k + suc i ≡ suc (k + i) = omega arith in ap (at_distance (s ∷ vs)) q ∙ past k in
        let body = lets_typed c more r taken v (suc i) (s ∷ vs) further b m.0 w h m.1 in
        let atom = subst (λ x. atom_fits s x ≡ true) (sym (renamed_is_atom (past_values i) a)) fits in
        subst (λ x. HasType ms (with_all_values vs c) x w) m.2
        (let_typed ms declared (with_all_values vs c) s (renamed (past_values i) a) m.0 w (types_have_kinds ms declared (without_joins c) v a s p) (past_term c i vs past a s p) atom body)
    lets_typed c (one_arg {rest = rest} (given_type {t = x} p) more) t (takes_type {r = r} {k = k} taken) v i vs past b f w h e =
        lets_typed c more (instantiated x r) taken v i vs past b f w h e
    lets_typed c (one_arg {rest = rest} (given_coercion p) more) t (takes_coercion {o = o} {a = a} {b = d} {r = r} taken) v i vs past b f w h e =
        lets_typed c more r taken v i vs past b f w h e
