-- Arguments of which the first that is not trivial gets a name, one by one.
use Rattle.std.proofs.Common.{◌≡◌, ℕ, ◌+◌, ◌<◌, ◌≤◌, ◌++◌, Bool, true, false, not, ◌&&◌, ◌||◌, if◌then◌else◌, List, [], ◌∷◌, Some, None, refl, sym, ap, ◌∙◌, drop, get_or, length}
use Rattle.std.proofs.Math.ListN.{drop_of_length-le}
use Rattle.std.specs.Option.{is_some}
use Rattle.fc_syntax.specs.declared.expr.Arg.{Arg}
use Rattle.fc_syntax.specs.declared.ty.Ref.{Ref}
use Rattle.fc_model.proofs.Lists.{drop_item}
use Rattle.fc_model.specs.Nameless.{NExpr, NLocal, NArg, NATerm, NAType, NACo, NArgs, NoNArgs, MoreNArgs}
use Rattle.fc_model.specs.NamelessView.{narg_of, nargs_of}
use Rattle.fc_model.specs.Replacing.{past_a_value}
use Rattle.fc_rows.specs.Commuting.{with_first_named}
use Rattle.fc_rows.specs.Shrinking.{is_trivial, moved_arg, moved_args}
use Rattle.fc_commute_types.specs.Fields.{field_in}

-- arguments and then others
abbrev pub before : NArgs → NArgs → NArgs
before NoNArgs rest = rest
before (MoreNArgs a more) rest = MoreNArgs a (before more rest)

-- the arguments that are still to come: whether one before them has got the name decides
abbrev pub still_named : Bool → NArgs → NArgs
still_named true args = moved_args past_a_value args
still_named false args = with_first_named args

abbrev pub one_named : Bool → NArg → NArg
one_named named a = if named then NATerm (NLocal 0) else moved_arg past_a_value a

before_more : (xs : List (Arg ℕ Ref)) (y : Arg ℕ Ref) (rest : NArgs) → before (nargs_of (xs ++ y ∷ [])) rest ≡ before (nargs_of xs) (MoreNArgs (narg_of y) rest)
before_more [] y rest = refl
before_more (x ∷ xs) y rest = ap (MoreNArgs (narg_of x)) (before_more xs y rest)

before_none : (xs : List (Arg ℕ Ref)) → before (nargs_of xs) NoNArgs ≡ nargs_of xs
before_none [] = refl
before_none (x ∷ xs) = ap (MoreNArgs (narg_of x)) (before_none xs)

still_none : (found : Bool) → still_named found NoNArgs ≡ NoNArgs
still_none true = refl
still_none false = refl

by_term : (trivial : Bool) (e : NExpr) (rest : NArgs)
    → (if trivial then MoreNArgs (moved_arg past_a_value (NATerm e)) (with_first_named rest) else MoreNArgs (NATerm (NLocal 0)) (moved_args past_a_value rest))
    ≡ MoreNArgs (one_named (is_some (if trivial then None else Some e)) (NATerm e)) (still_named (is_some (if trivial then None else Some e)) rest)
by_term true e rest = refl
by_term false e rest = refl

-- the next argument gets the name where it is a field, and none before it has got it
next_named : (found : Bool) (a : NArg) (rest : NArgs) → still_named found (MoreNArgs a rest) ≡ MoreNArgs (one_named (not found && is_some (field_in a)) a) (still_named (found || (not found && is_some (field_in a))) rest)
next_named true a rest = refl
next_named false (NATerm e) rest = by_term (is_trivial e) e rest
next_named false (NAType t) rest = refl
next_named false (NACo g) rest = refl

-- one argument more is done
pub named_step : (args done more : List (Arg ℕ Ref)) (i : ℕ) (x y : Arg ℕ Ref) (found named : Bool) → more ≡ done ++ y ∷ [] → narg_of y ≡ one_named named (narg_of x) → named ≡ (not found && is_some (field_in (narg_of x)))
    → i < length args → x ≡ get_or args i x → before (nargs_of done) (still_named found (nargs_of (drop i args))) ≡ with_first_named (nargs_of args)
    → before (nargs_of more) (still_named (found || named) (nargs_of (drop (i + 1) args))) ≡ with_first_named (nargs_of args)
named_step args done more i x y found named pushed same names within is so_far =
    let rest = nargs_of (drop (i + 1) args) in
    ap (λ zs. before (nargs_of zs) (still_named (found || named) rest)) pushed
    ∙ before_more done y (still_named (found || named) rest)
    ∙ ap (λ z. before (nargs_of done) (MoreNArgs z (still_named (found || named) rest))) same
    ∙ ap (λ b. before (nargs_of done) (MoreNArgs (one_named b (narg_of x)) (still_named (found || b) rest))) names
    ∙ ap (before (nargs_of done)) (sym (next_named found (narg_of x) rest))
    ∙ ap (λ zs. before (nargs_of done) (still_named found (nargs_of zs))) (sym (drop_item args i x within is))
    ∙ so_far

-- no argument is left
pub named_end : (args done : List (Arg ℕ Ref)) (i : ℕ) (found : Bool) → length args ≤ i → before (nargs_of done) (still_named found (nargs_of (drop i args))) ≡ with_first_named (nargs_of args)
    → nargs_of done ≡ with_first_named (nargs_of args)
named_end args done i found past so_far =
    sym (before_none done) ∙ ap (before (nargs_of done)) (sym (still_none found)) ∙ ap (λ zs. before (nargs_of done) (still_named found (nargs_of zs))) (sym (drop_of_length-le args past)) ∙ so_far

pub ruleset named_rules = (named_step, named_end)
