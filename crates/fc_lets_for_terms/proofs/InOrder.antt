-- Arguments one after the other: how many terms they are, by the variables of lets, and beside binders.
use Rattle.std.proofs.Common.{◌≡◌, ◌≢◌, ℕ, suc, ◌+◌, ◌<◌, ◌≤◌, Bool, true, false, ◌&&◌, List, [], ◌∷◌, ◌++◌, drop, get_or, length, refl, sym, ap, ◌∙◌, add-one, drop-cons, arith}
use Rattle.std.proofs.Math.ListN.{drop_of_length-le}
use Rattle.fc_syntax.specs.declared.expr.Arg.{Arg}
use Rattle.fc_syntax.specs.declared.expr.Binder.{Binder}
use Rattle.fc_syntax.specs.declared.ty.Ref.{Ref}
use Rattle.fc_model.specs.Nameless.{NArg, NATerm, NAType, NACo, NArgs, NoNArgs, MoreNArgs, NBinder, NBValue, NBType, NBCo}
use Rattle.fc_model.specs.NamelessView.{narg_of, nargs_of, nbinder_of, nbinders_of}
use Rattle.fc_rows.specs.Shrinking.{named_arguments, pair_with, term_count}
use Rattle.fc_lets_for_terms.specs.Naming.{before, is_same_sort, named_argument, terms_in}

-- LISTS

-- the item at an index, before the rest
pub drop_at : {X : Type 0} (xs : List X) (i : ℕ) (x : X) → i < length xs → x ≡ get_or xs i x → drop i xs ≡ x ∷ drop (i + 1) xs
drop_at xs i x low is = rw (add-one i, drop-cons xs i x low) (ap (λ y. y ∷ drop (suc i) xs) (sym is))

pub args_at : (xs : List (Arg ℕ Ref)) (i : ℕ) (x : Arg ℕ Ref) → i < length xs → x ≡ get_or xs i x → nargs_of (drop i xs) ≡ MoreNArgs (narg_of x) (nargs_of (drop (i + 1) xs))
args_at xs i x low is = ap nargs_of (drop_at xs i x low is)

pub args_end : (xs : List (Arg ℕ Ref)) (i : ℕ) → length xs ≤ i → nargs_of (drop i xs) ≡ NoNArgs
args_end xs i far = ap nargs_of (drop_of_length-le xs far)

-- HOW MANY TERMS

count_more : (a : NArg) (rest : NArgs) → term_count (MoreNArgs a rest) ≡ terms_in a + term_count rest
count_more (NATerm e) rest = omega arith
count_more (NAType t) rest = omega arith
count_more (NACo g) rest = omega arith

pub count_step : (xs : List (Arg ℕ Ref)) (i : ℕ) (x : Arg ℕ Ref) → i < length xs → x ≡ get_or xs i x → term_count (nargs_of (drop i xs)) ≡ terms_in (narg_of x) + term_count (nargs_of (drop (i + 1) xs))
count_step xs i x low is = ap term_count (args_at xs i x low is) ∙ count_more (narg_of x) (nargs_of (drop (i + 1) xs))

-- BY THE VARIABLES OF LETS

pub before_one : (xs : List (Arg ℕ Ref)) (x : Arg ℕ Ref) (rest : NArgs) → before (nargs_of (xs ++ x ∷ [])) rest ≡ before (nargs_of xs) (MoreNArgs (narg_of x) rest)
before_one [] x rest = refl
before_one (y ∷ xs) x rest = ap (MoreNArgs (narg_of y)) (before_one xs x rest)

pub before_none : (args : NArgs) → before args NoNArgs ≡ args
before_none NoNArgs = refl
before_none (MoreNArgs a rest) = ap (MoreNArgs a) (before_none rest)

named_more : (a : NArg) (rest : NArgs) → named_arguments (MoreNArgs a rest) ≡ MoreNArgs (named_argument (term_count rest) a) (named_arguments rest)
named_more (NATerm e) rest = refl
named_more (NAType t) rest = refl
named_more (NACo g) rest = refl

-- one more of them, where so many terms stand behind it
pub named_step : (xs all pushed : List (Arg ℕ Ref)) (i left : ℕ) (x y : Arg ℕ Ref) (whole : NArgs) → pushed ≡ all ++ y ∷ [] → narg_of y ≡ named_argument left (narg_of x)
    → left ≡ term_count (nargs_of (drop (i + 1) xs)) → i < length xs → x ≡ get_or xs i x → whole ≡ before (nargs_of all) (named_arguments (nargs_of (drop i xs)))
    → whole ≡ before (nargs_of pushed) (named_arguments (nargs_of (drop (i + 1) xs)))
named_step xs all pushed i left x y whole push same count low is so_far =
    let rest = nargs_of (drop (i + 1) xs) in
    so_far
    ∙ ap (λ z. before (nargs_of all) z) (ap named_arguments (args_at xs i x low is) ∙ named_more (narg_of x) rest)
    ∙ ap (λ n. before (nargs_of all) (MoreNArgs (named_argument n (narg_of x)) (named_arguments rest))) (sym count)
    ∙ ap (λ z. before (nargs_of all) (MoreNArgs z (named_arguments rest))) (sym same)
    ∙ sym (before_one all y (named_arguments rest))
    ∙ ap (λ z. before (nargs_of z) (named_arguments rest)) (sym push)

pub named_end : (xs all : List (Arg ℕ Ref)) (i : ℕ) (whole : NArgs) → length xs ≤ i → whole ≡ before (nargs_of all) (named_arguments (nargs_of (drop i xs))) → nargs_of all ≡ whole
named_end xs all i whole far so_far = sym (so_far ∙ ap (λ z. before (nargs_of all) (named_arguments z)) (args_end xs i far) ∙ before_none (nargs_of all))

-- BESIDE BINDERS

pair_more : (b : NBinder) (bs : List NBinder) (a : NArg) (rest : NArgs) → pair_with (b ∷ bs) (MoreNArgs a rest) ≡ (is_same_sort b a && pair_with bs rest)
pair_more (NBValue t) bs (NATerm e) rest = refl
pair_more (NBValue t) bs (NAType u) rest = refl
pair_more (NBValue t) bs (NACo g) rest = refl
pair_more (NBType k) bs (NATerm e) rest = refl
pair_more (NBType k) bs (NAType u) rest = refl
pair_more (NBType k) bs (NACo g) rest = refl
pair_more (NBCo r t u) bs (NATerm e) rest = refl
pair_more (NBCo r t u) bs (NAType v) rest = refl
pair_more (NBCo r t u) bs (NACo g) rest = refl

both_false : (b : Bool) → (b && false) ≡ false
both_false true = refl
both_false false = refl

pub not_as_many : (bs : List (Binder ℕ)) (xs : List (Arg ℕ Ref)) → length bs ≢ length xs → pair_with (nbinders_of bs) (nargs_of xs) ≡ false
not_as_many [] [] other = absurd (other refl)
not_as_many [] (x ∷ xs) other = refl
not_as_many (b ∷ bs) [] other = refl
not_as_many (b ∷ bs) (x ∷ xs) other =
    pair_more (nbinder_of b) (nbinders_of bs) (narg_of x) (nargs_of xs)
    ∙ ap (λ z. is_same_sort (nbinder_of b) (narg_of x) && z) (not_as_many bs xs (λ e. other (ap (λ n. suc n) e))) ∙ both_false (is_same_sort (nbinder_of b) (narg_of x))
