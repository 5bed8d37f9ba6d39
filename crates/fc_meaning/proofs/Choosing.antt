-- Which alternative a case takes: the default for a lambda, and none where there is none.
use Rattle.std.proofs.Common.{◌≡◌, ℤ, List, [], Some, None, refl, ap, ◌∙◌}
use Rattle.fc_syntax.specs.declared.ty.Name.{Name}
use Rattle.fc_model.specs.Stepping.{Program, LitKey, ConKey, LamKey, Found, Missing, Bare, matches, default_of, own, choose, enter, fire, through, wrap, next}
use Rattle.fc_model.specs.Terms.{Sort, Lifted, Unlifted, Term, Lit, Var, Lam, Rec, Case, Con, Terms, Nil, Alts, NoAlt, Alt, push, pushes, sub}

-- no alternative is a lambda's own
own-lambda : (alts : Alts) (d : Found) → own LamKey alts d ≡ d
unfolding own matches
own-lambda NoAlt d = refl
own-lambda (Alt h b alts) d = own-lambda alts d

pub choose-lambda : (alts : Alts) → choose LamKey alts ≡ default_of alts
unfolding choose
choose-lambda alts = own-lambda alts (default_of alts)

pub default_takes_lambda : (p : Program) (s : Sort) (b d : Term) (alts : Alts) → default_of alts ≡ Bare d
    → next p (Case Lifted (Lam s b) alts) ≡ Some (sub (push (Lam s b) Var) d)
unfolding next through fire enter
default_takes_lambda p s b d alts h = ap (enter (Lam s b) [] Nil) (choose-lambda alts ∙ h)

pub literal_is_stuck : (p : Program) (s : Sort) (alts : Alts) (z : ℤ) → choose (LitKey z) alts ≡ Missing → next p (Case s (Lit z) alts) ≡ None
unfolding next through fire enter
literal_is_stuck p Lifted alts z h = ap (enter (Lit z) [] Nil) h
literal_is_stuck p Unlifted alts z h = ap (enter (Lit z) [] Nil) h

pub constructor_is_stuck : (p : Program) (s : Sort) (alts : Alts) (c : Name) (ss : List Sort) (ts : Terms) → choose (ConKey c) alts ≡ Missing
    → next p (Case s (Con c ss ts) alts) ≡ None
unfolding next through fire enter
constructor_is_stuck p Lifted alts c ss ts h = ap (enter (Con c ss ts) ss ts) h
constructor_is_stuck p Unlifted alts c ss ts h = refl

pub lambda_is_stuck : (p : Program) (s : Sort) (alts : Alts) (r : Sort) (b : Term) → choose LamKey alts ≡ Missing → next p (Case s (Lam r b) alts) ≡ None
unfolding next through fire enter
lambda_is_stuck p Lifted alts r b h = ap (enter (Lam r b) [] Nil) h
lambda_is_stuck p Unlifted alts r b h = refl

pub group_unrolls : (p : Program) (ts : Terms) (b : Term) → next p (Rec ts b) ≡ Some (sub (pushes (wrap ts ts) Var) b)
unfolding next
group_unrolls p ts b = refl
