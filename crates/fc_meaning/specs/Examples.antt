-- What some terms show, in any program.
use Rattle.std.specs.Prelude.{◌≡◌, ◌↔◌, ℤ, pos, [], ◌∷◌, Some}
use Rattle.fc_syntax.specs.declared.ty.Name.{Name}
use Rattle.fc_syntax.specs.declared.expr.PrimOp.TheVariants as op
use Rattle.fc_model.specs.Observing.{Observation, Anything, Number, Function, Built, NoneMore, OneMore, Sees}
use Rattle.fc_model.specs.Stepping.{Program}
use Rattle.fc_model.specs.Terms.{Sort, Lifted, Default, OfLit, Term, Lit, Var, Global, Fail, App, Lam, Let, Case, Con, Prim, Nil, Cons, NoAlt, Alt, push, shift, sub}

-- nothing but what every term shows
abbrev pub ShowsNothing : Program → Term → Type 0
ShowsNothing p t = (o : Observation) → Sees p t o → o ≡ Anything

abbrev pub ShowSame : Program → Term → Term → Type 0
ShowSame p t u = (o : Observation) → Sees p t o ↔ Sees p u o

-- the name is its own right side
abbrev pub Loops : Program → Name → Type 0
Loops p x = p x ≡ Some (Global x)

abbrev pub LiteralShowsItself : Type 0
LiteralShowsItself = (p : Program) (z : ℤ) → Sees p (Lit z) (Number z)

abbrev pub LiteralShowsNoOther : Type 0
LiteralShowsNoOther = (p : Program) (y z : ℤ) → Sees p (Lit z) (Number y) → y ≡ z

abbrev pub ConstructorShowsFields : Type 0
ConstructorShowsFields = (p : Program) (c : Name) (r s : Sort) (a b : Term) (m n : Observation) → Sees p a m → Sees p b n
    → Sees p (Con c (r ∷ s ∷ []) (Cons a (Cons b Nil))) (Built c (OneMore m (OneMore n NoneMore)))

abbrev pub LoopShowsNothing : Type 0
LoopShowsNothing = (p : Program) (x : Name) → Loops p x → ShowsNothing p (Global x)

abbrev pub LambdaShowsFunction : Type 0
LambdaShowsFunction = (p : Program) (s : Sort) (b : Term) → Sees p (Lam s b) Function

abbrev pub AppliedLiteralShowsNothing : Type 0
AppliedLiteralShowsNothing = (p : Program) (s : Sort) (z : ℤ) (a : Term) → ShowsNothing p (App s (Lit z) a)

abbrev pub CaseTakesLiteral : Type 0
CaseTakesLiteral = (p : Program) (s : Sort) (z : ℤ) (a d : Term) → ShowSame p (Case s (Lit z) (Alt Default d (Alt (OfLit z) a NoAlt))) (sub (push (Lit z) Var) a)

-- a body that is shifted does not name the binder
abbrev pub UnusedLetShowsBody : Type 0
UnusedLetShowsBody = (p : Program) (x : Name) (b : Term) → Loops p x → ShowSame p (Let Lifted (Global x) (shift b)) b

abbrev pub LoopHidesNoOther : Type 0
LoopHidesNoOther = (p : Program) (x c : Name) (s : Sort) (b : Term) (n : Observation) → Loops p x → Sees p b n
    → Sees p (Con c (Lifted ∷ s ∷ []) (Cons (Global x) (Cons b Nil))) (Built c (OneMore Anything (OneMore n NoneMore)))

abbrev pub FailShowsNothing : Type 0
FailShowsNothing = (p : Program) → ShowsNothing p Fail

abbrev pub QuotientByZeroShowsNothing : Type 0
QuotientByZeroShowsNothing = (p : Program) (z : ℤ) → ShowsNothing p (Prim op.Quot (Lit z) (Lit (pos 0)))
