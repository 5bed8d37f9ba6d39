-- The names of values and definitions that occur free in an expression. A word without a dot is bound by the binders of values and of join points around it,
-- which share one space of words; a name behind a dot is bound nowhere. Constructors and join points are no values.
use Rattle.std.specs.Prelude.{Bool, true, false, not, if◌then◌else◌, List, [], ◌∷◌, ◌++◌, Option, Some, None}
use Rattle.std.specs.List.{filter}
use Rattle.fc_syntax.specs.declared.ty.Name.{Name}
use Rattle.fc_syntax.specs.Tree.{Word, Binder, BValue, BType, BCo, Arg, ATerm, AType, ACo, Bound, Joined, Branch}
use Rattle.fc_syntax.specs.Tree.{Expr, EVar, ELit, EApp, ELam, ELet, ECase, ECast, ECon, EPrim, EFail, EJoin, EJump}
use Rattle.fc_syntax.specs.Tree.{Exprs, NoExprs, MoreExprs, Args, NoArgs, MoreArgs, Binds, NoBinds, MoreBinds, Joins, NoJoins, MoreJoins, Alts, NoAlts, MoreAlts}
use Rattle.fc_model.specs.Kinding.{same_name}
use Rattle.fc_model.specs.Resolution.{WordSet, bind_words, join_words, no_word, plus, plus_all}

-- NAMES

-- whether a name is a word without a dot, and one of these
abbrev pub is_bound_by : WordSet → Option Word → Word → Bool
is_bound_by s None w = s w
is_bound_by s (Some m) w = false

-- the names that words do not bind
abbrev pub without : WordSet → List Name → List Name
without s ns = filter (λ n. not (is_bound_by s n.module n.text)) ns

abbrev pub of_one : Word → WordSet
of_one w = plus w no_word

abbrev pub of_words : List Word → WordSet
of_words ws = plus_all ws no_word

-- the words of the values that binders bind
abbrev pub value_words : List Binder → List Word
value_words [] = []
value_words (BValue x t ∷ bs) = x ∷ value_words bs
value_words (BType a k ∷ bs) = value_words bs
value_words (BCo c r t u ∷ bs) = value_words bs

-- EXPRESSIONS

-- the free names, in the order in which they occur, each as often as it does
abbrev mutual
  pub free_in : Expr → List Name
  free_in (EVar n) = n ∷ []
  free_in (ELit n) = []
  free_in (EApp f a) = free_in f ++ free_in_arg a
  free_in (ELam b e) = without (of_words (value_words (b ∷ []))) (free_in e)
  free_in (ELet r bs e) =
      (if r then without (of_words (bind_words bs)) (free_in_binds bs) else free_in_binds bs) ++ without (of_words (bind_words bs)) (free_in e)
  free_in (ECase e x t u alts) = free_in e ++ without (of_one x) (free_in_alts alts)
  free_in (ECast e g) = free_in e
  free_in (ECon n args) = free_in_args args
  free_in (EPrim op es) = free_in_exprs es
  free_in (EFail t) = []
  free_in (EJoin r t js e) =
      (if r then without (of_words (join_words js)) (free_in_joins js) else free_in_joins js) ++ without (of_words (join_words js)) (free_in e)
  free_in (EJump j args) = free_in_args args

  pub free_in_arg : Arg → List Name
  free_in_arg (ATerm e) = free_in e
  free_in_arg (AType t) = []
  free_in_arg (ACo g) = []

  pub free_in_args : Args → List Name
  free_in_args NoArgs = []
  free_in_args (MoreArgs a rest) = free_in_arg a ++ free_in_args rest

  pub free_in_exprs : Exprs → List Name
  free_in_exprs NoExprs = []
  free_in_exprs (MoreExprs e rest) = free_in e ++ free_in_exprs rest

  pub free_in_binds : Binds → List Name
  free_in_binds NoBinds = []
  free_in_binds (MoreBinds (Bound x t e) rest) = free_in e ++ free_in_binds rest

  pub free_in_joins : Joins → List Name
  free_in_joins NoJoins = []
  free_in_joins (MoreJoins (Joined j ps e) rest) = without (of_words (value_words ps)) (free_in e) ++ free_in_joins rest

  pub free_in_alts : Alts → List Name
  free_in_alts NoAlts = []
  free_in_alts (MoreAlts (Branch h bs e) rest) = without (of_words (value_words bs)) (free_in e) ++ free_in_alts rest

-- EACH ONCE

-- whether a name is one of a list
abbrev pub is_among : Name → List Name → Bool
is_among n [] = false
is_among n (m ∷ ms) = if same_name m n then true else is_among n ms

-- each where it stands first
abbrev pub each_once : List Name → List Name
each_once [] = []
each_once (n ∷ ns) = n ∷ filter (λ m. not (same_name n m)) (each_once ns)
