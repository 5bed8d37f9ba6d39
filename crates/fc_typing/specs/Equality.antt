-- Whether two named types are the same up to the words that they bind, by a walk over both at once with the words that are bound on
-- each side.
use Rattle.std.specs.Prelude.{Bool, true, false, not, ◌&&◌, List, [], ◌∷◌, if◌then◌else◌}
use Rattle.std.specs.Str.{bytes_eq}
use Rattle.fc_syntax.specs.Tree.{Word, Ty, TVar, TCon, TInt, TApp, TFun, TForall, TCoForall}
use Rattle.fc_model.specs.Kinding.{same_kind, same_name, same_role}
use Rattle.fc_typing.specs.declared.equality.Bound.{Bound, End, More'}

-- the words that one side binds, the innermost first
abbrev pub bound_words : Bound → List Word
bound_words End = []
bound_words (More' x p rest) = x.now ∷ bound_words rest

-- two variables are the same: both are bound at one distance, or neither is bound here and both are one word
abbrev pub same_variable : List Word → List Word → Word → Word → Bool
same_variable [] [] v w = bytes_eq v w
same_variable (x ∷ xs) (y ∷ ys) v w = if bytes_eq x v then bytes_eq y w else not (bytes_eq y w) && same_variable xs ys v w
same_variable [] (y ∷ ys) v w = false
same_variable (x ∷ xs) [] v w = false

-- two types are the same, each inside of the words that are bound on its side
abbrev pub equal_in : List Word → List Word → Ty → Ty → Bool
equal_in xs ys (TVar v) (TVar w) = same_variable xs ys v w
equal_in xs ys (TCon m) (TCon n) = same_name m n
equal_in xs ys TInt TInt = true
equal_in xs ys (TApp a b) (TApp c d) = equal_in xs ys a c && equal_in xs ys b d
equal_in xs ys (TFun a b) (TFun c d) = equal_in xs ys a c && equal_in xs ys b d
equal_in xs ys (TForall x j a) (TForall y k b) = same_kind j k && equal_in (x ∷ xs) (y ∷ ys) a b
equal_in xs ys (TCoForall r a b t) (TCoForall s c d u) = (same_role r s && equal_in xs ys a c) && (equal_in xs ys b d && equal_in xs ys t u)
equal_in xs ys t u = false
