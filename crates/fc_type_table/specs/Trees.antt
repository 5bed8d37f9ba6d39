-- Types and their kinds as one sort of tree: an index for a variable that a `forall` of the tree binds, a level for a variable of the
-- context, counted from the outermost. A level stays right when the context grows. Each variable carries its kind.
use Rattle.std.specs.Prelude.{ℕ, ◌+◌, ◌-◌, max, nat_eq, if◌then◌else◌}
use Rattle.fc_syntax.specs.declared.ty.Name.{Name}
use Rattle.fc_syntax.specs.declared.ty.Role.{Role}

pub data Tree : Type 0 where
  LStar : Tree
  LHash : Tree
  LArrow : (a b : Tree) → Tree
  LBound : (i : ℕ) (k : Tree) → Tree
  LFree : (l : ℕ) (k : Tree) → Tree
  LCon : (n : Name) → Tree
  LInt : Tree
  LApp : (t u : Tree) → Tree
  LFun : (t u : Tree) → Tree
  LForall : (k t : Tree) → Tree
  LCoForall : (r : Role) (left right t : Tree) → Tree

-- TYPES IN PLACE OF VARIABLES

-- u in place of the variable k of a type; u has no variable that is bound outside it, so that nothing is shifted
unfoldable pub opened : ℕ → Tree → Tree → Tree
opened k u LStar = LStar
opened k u LHash = LHash
opened k u (LArrow a b) = LArrow a b
opened k u (LBound i j) = if nat_eq i k then u else LBound i j
opened k u (LFree l j) = LFree l j
opened k u (LCon n) = LCon n
opened k u LInt = LInt
opened k u (LApp s t) = LApp (opened k u s) (opened k u t)
opened k u (LFun s t) = LFun (opened k u s) (opened k u t)
opened k u (LForall j t) = LForall j (opened (k + 1) u t)
opened k u (LCoForall r left right t) = LCoForall r (opened k u left) (opened k u right) (opened k u t)

-- the variable of the context with level l made the variable that is bound k binders outside the type
unfoldable pub closed_over : ℕ → ℕ → Tree → Tree
closed_over l k LStar = LStar
closed_over l k LHash = LHash
closed_over l k (LArrow a b) = LArrow a b
closed_over l k (LBound i j) = LBound i j
closed_over l k (LFree m j) = if nat_eq m l then LBound k j else LFree m j
closed_over l k (LCon n) = LCon n
closed_over l k LInt = LInt
closed_over l k (LApp s t) = LApp (closed_over l k s) (closed_over l k t)
closed_over l k (LFun s t) = LFun (closed_over l k s) (closed_over l k t)
closed_over l k (LForall j t) = LForall j (closed_over l (k + 1) t)
closed_over l k (LCoForall r left right t) = LCoForall r (closed_over l k left) (closed_over l k right) (closed_over l k t)

-- MEASURES

-- how deep the tree is, without the kinds of its variables
abbrev pub height : Tree → ℕ
height LStar = 0
height LHash = 0
height (LArrow a b) = max (height a) (height b) + 1
height (LBound i k) = 0
height (LFree l k) = 0
height (LCon n) = 0
height LInt = 0
height (LApp t u) = max (height t) (height u) + 1
height (LFun t u) = max (height t) (height u) + 1
height (LForall k t) = max (height k) (height t) + 1
height (LCoForall r left right t) = max (max (height left) (height right)) (height t) + 1

-- each index that is bound outside the tree is below this; 0 where none is
abbrev pub loose_end : Tree → ℕ
loose_end LStar = 0
loose_end LHash = 0
loose_end (LArrow a b) = max (loose_end a) (loose_end b)
loose_end (LBound i k) = i + 1
loose_end (LFree l k) = 0
loose_end (LCon n) = 0
loose_end LInt = 0
loose_end (LApp t u) = max (loose_end t) (loose_end u)
loose_end (LFun t u) = max (loose_end t) (loose_end u)
loose_end (LForall k t) = loose_end t - 1
loose_end (LCoForall r left right t) = max (max (loose_end left) (loose_end right)) (loose_end t)

-- each level of the tree is below this
abbrev pub level_end : Tree → ℕ
level_end LStar = 0
level_end LHash = 0
level_end (LArrow a b) = max (level_end a) (level_end b)
level_end (LBound i k) = 0
level_end (LFree l k) = l + 1
level_end (LCon n) = 0
level_end LInt = 0
level_end (LApp t u) = max (level_end t) (level_end u)
level_end (LFun t u) = max (level_end t) (level_end u)
level_end (LForall k t) = level_end t
level_end (LCoForall r left right t) = max (max (level_end left) (level_end right)) (level_end t)
