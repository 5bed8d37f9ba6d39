-- What has a type mentions only definitions that are declared.
use Rattle.std.proofs.Common.{◌≡◌, Bool, List, [], ◌∷◌, ◌++◌, Ok}
use Rattle.fc_syntax.specs.declared.ty.Name.{Name}
use Rattle.fc_model.specs.Calling.{Given}
use Rattle.fc_model.specs.Kinding.{Modules}
use Rattle.fc_model.specs.Nameless.{NTy, NExpr, NArg, NArgs, NBinds, NJoins, NAlts}
use Rattle.fc_model.specs.Typing.{Before, Context, value_type}
use Rattle.fc_model.specs.TypingRules.{HasType, typed_local, typed_declared, typed_literal, typed_application, typed_lambda, typed_let, typed_case, typed_cast, typed_con}
use Rattle.fc_model.specs.TypingRules.{typed_prim, typed_fail, typed_join, typed_jump, ArgIsGiven, given_term, given_type, given_coercion, ArgsAreGiven, no_args, one_arg}
use Rattle.fc_model.specs.TypingRules.{BindsHaveTypes, no_binds, one_bind, JoinsHaveType, no_joins, one_join, AltsFit, no_alts, default_alt, literal_alt, con_alt}
use Rattle.fc_reaching.specs.Reaching.{names_in, names_in_alts, names_in_arg, names_in_args, names_in_binds, names_in_joins}
use Rattle.fc_outlines.proofs.Alike.{Among, first_among, later_among}

-- each of these names is of a definition
abbrev pub AreDeclared : Modules → List Name → Type 0
AreDeclared ms names = (n : Name) → Among n names → (t : NTy) × (value_type ms n ≡ Ok t)

module _ (ms : Modules) where
  none_declared : AreDeclared ms []
  none_declared n a = elim a [ ]

  one_declared : (n : Name) (t : NTy) → value_type ms n ≡ Ok t → AreDeclared ms (n ∷ [])
  one_declared n t h m first_among = (t, h)
  one_declared n t h m (later_among a) = none_declared m a

  both_declared : (xs ys : List Name) → AreDeclared ms xs → AreDeclared ms ys → AreDeclared ms (xs ++ ys)
  both_declared [] ys a b n l = b n l
  both_declared (x ∷ xs) ys a b n first_among = a n first_among
  both_declared (x ∷ xs) ys a b n (later_among l) = both_declared xs ys (λ m k. a m (later_among k)) b n l

  mutual
    pub typed_are_declared : {c : Context} {e : NExpr} {t : NTy} → HasType ms c e t → AreDeclared ms (names_in e)
    typed_are_declared (typed_local a) = none_declared
    typed_are_declared (typed_declared {n = n} {t = t} v) = one_declared n t v
    typed_are_declared typed_literal = none_declared
    typed_are_declared (typed_application {f = f} {a = a} s g p q takes) = both_declared (names_in f) (names_in_arg a) (typed_are_declared p) (arg_declared q)
    typed_are_declared (typed_lambda k p fits) = typed_are_declared p
    typed_are_declared (typed_let {bs = bs} {e = e} p q) = both_declared (names_in_binds bs) (names_in e) (binds_declared p) (typed_are_declared q)
    typed_are_declared (typed_case {e = e} {alts = alts} j k p sk rk fit v) = both_declared (names_in e) (names_in_alts alts) (typed_are_declared p) (alts_declared fit)
    typed_are_declared (typed_cast p q) = typed_are_declared p
    typed_are_declared (typed_con k gs found p long takes) = args_declared p
    typed_are_declared (typed_prim {a = a} {b = b} p x q y) = both_declared (names_in a) (names_in b ++ []) (typed_are_declared p) (both_declared (names_in b) [] (typed_are_declared q) none_declared)
    typed_are_declared (typed_fail k p v) = none_declared
    typed_are_declared (typed_join {js = js} {e = e} k p q s v) = both_declared (names_in_joins js) (names_in e) (joins_declared q) (typed_are_declared s)
    typed_are_declared (typed_jump j gs t at p long takes) = args_declared p

    arg_declared : {c : Context} {a : NArg} {g : Given} → ArgIsGiven ms c a g → AreDeclared ms (names_in_arg a)
    arg_declared (given_term p) = typed_are_declared p
    arg_declared (given_type p) = none_declared
    arg_declared (given_coercion p) = none_declared

    args_declared : {c : Context} {args : NArgs} {gs : List Given} → ArgsAreGiven ms c args gs → AreDeclared ms (names_in_args args)
    args_declared no_args = none_declared
    args_declared (one_arg {a = a} {rest = rest} p more) = both_declared (names_in_arg a) (names_in_args rest) (arg_declared p) (args_declared more)

    binds_declared : {c : Context} {r : Bool} {bs : NBinds} → BindsHaveTypes ms c r bs → AreDeclared ms (names_in_binds bs)
    binds_declared no_binds = none_declared
    binds_declared (one_bind {e = e} {rest = rest} k p v q fits more) = both_declared (names_in e) (names_in_binds rest) (typed_are_declared q) (binds_declared more)

    joins_declared : {c : Context} {t : NTy} {js : NJoins} → JoinsHaveType ms c t js → AreDeclared ms (names_in_joins js)
    joins_declared no_joins = none_declared
    joins_declared (one_join {e = e} {rest = rest} k p more) = both_declared (names_in e) (names_in_joins rest) (typed_are_declared p) (joins_declared more)

    alts_declared : {c : Context} {s rt : NTy} {b : Before} {alts : NAlts} → AltsFit ms c s rt b alts → AreDeclared ms (names_in_alts alts)
    alts_declared no_alts = none_declared
    alts_declared (default_alt {e = e} {rest = rest} k p order more) = both_declared (names_in e) (names_in_alts rest) (typed_are_declared p) (alts_declared more)
    alts_declared (literal_alt {e = e} {rest = rest} k p int order more) = both_declared (names_in e) (names_in_alts rest) (typed_are_declared p) (alts_declared more)
    alts_declared (con_alt {e = e} {rest = rest} k kinds p found is order fits more) = both_declared (names_in e) (names_in_alts rest) (typed_are_declared p) (alts_declared more)
