-- Closed atoms are numbers: what primitives and cases make of them.
use Rattle.std.proofs.Common.{◌≡◌, ℕ, ℤ, pos, List, [], Option, Some, None, refl, sym, ap, ap₂, ◌∙◌}
use Rattle.fc_syntax.specs.declared.expr.PrimOp.{PrimOp}
use Rattle.fc_model.specs.Stepping.{Program, matches, found, own, default_of, choose, enter, CaseOf, fire, through, on_literals, next, IsHead}
use Rattle.fc_model.specs.Terms.{Sort, Lifted, Unlifted, Default, Term, Lit, Var, Lam, Case, Con, Prim, NoAlt, Alt, binders, sub, push, up, ups, sort_at, InRange, IsAtom, IsSorted}
use Rattle.fc_meaning.proofs.Optional.{none_some}
use Rattle.fc_meaning.proofs.PrimitiveRange.{zero_fits}
use Rattle.fc_meaning.proofs.SortsKept.{Puts, atom_sub, sorted_sub}
use Rattle.fc_counted.specs.Closings.{Closing}
use Rattle.fc_counted.proofs.TermSubstitutions.{put_one, sub-put}
use Rattle.fc_term_rows.specs.Heads.{SameHeads}
use Rattle.fc_term_rows.specs.TermRows.{number_at}
use Rattle.fc_term_rows.proofs.SameHeads as same

number_of : Term → ℤ
number_of (Lit z) = z
number_of _ = pos 0

-- a closed atom is a number in range
closed_atom : (t : Term) → IsSorted [] t → IsAtom [] Unlifted t → (t ≡ Lit (number_of t)) × InRange (number_of t)
unfolding sort_at number_of
closed_atom (Lit z) w a = (refl, w)
closed_atom (Var n) w a = absurd (none_some a)
closed_atom _ w a = absurd a

value_at : Option Sort → Term → ℤ
value_at (Some Unlifted) t = number_of t
value_at _ t = pos 0

value_fits : (o : Option Sort) (t : Term) → (o ≡ Some Unlifted → IsSorted [] t × IsAtom [] Unlifted t) → InRange (value_at o t)
unfolding value_at
value_fits (Some Unlifted) t w = let v = w refl in (closed_atom t v.0 v.1).1
value_fits (Some Lifted) t w = zero_fits
value_fits None t w = zero_fits

-- what a substitution puts in for the unlifted variables of these sorts
numbers : List Sort → Closing → ℕ → ℤ
numbers g p n = value_at (sort_at g n) (p n)

number_is : (g : List Sort) (p : Closing) → Puts p g [] → (a : Term) → IsAtom g Unlifted a → number_at (numbers g p) a ≡ sub p a
unfolding sub numbers value_at
number_is g p o (Lit z) w = refl
number_is g p o (Var n) w = let v = o n Unlifted w in ap (λ s. Lit (value_at s (p n))) w ∙ sym (closed_atom (p n) v.0 v.1).0
number_is g p o _ w = absurd w

pub same_fold : (P : Program) (g : List Sort) (p : Closing) → Puts p g [] → (o : PrimOp) (a b r : Term)
    → ((v : ℕ → ℤ) → ((n : ℕ) → InRange (v n)) → on_literals o (number_at v a) (number_at v b) ≡ Some (number_at v r))
    → IsAtom g Unlifted a → IsAtom g Unlifted b → IsAtom g Unlifted r → SameHeads P (sub p (Prim o a b)) (sub p r)
unfolding sub next numbers
same_fold P g p put o a b r h ia ib ir =
    same.same_next P (sub p (Prim o a b)) (sub p r)
    (ap₂ (on_literals o) (sym (number_is g p put a ia)) (sym (number_is g p put b ib)) ∙ h (numbers g p) (λ n. value_fits (sort_at g n) (p n) (put n Unlifted)) ∙ ap Some (number_is g p put r ir))

-- a case with a default alone takes a number at any binder, and any head at a lifted one
fire_number : (s : Sort) (b : Term) (z : ℤ) → fire (CaseOf s (Alt Default b NoAlt)) (Lit z) ≡ Some (sub (push (Lit z) Var) b)
unfolding fire choose own default_of matches found enter
fire_number Lifted b z = refl
fire_number Unlifted b z = refl

pub fire_default : (b h : Term) → IsHead h → fire (CaseOf Lifted (Alt Default b NoAlt)) h ≡ Some (sub (push h Var) b)
unfolding fire choose own default_of matches found enter
fire_default b (Lit z) w = refl
fire_default b (Lam s d) w = refl
fire_default b (Con c ss ts) w = refl
fire_default b _ w = absurd w

pub same_atom : (P : Program) (g : List Sort) (p : Closing) → Puts p g [] → (t b : Term) → IsAtom g Unlifted t → IsSorted g t
    → SameHeads P (sub p (Case Unlifted t (Alt Default b NoAlt))) (sub p (sub (push t Var) b))
unfolding sub next through ups binders
same_atom P g p put t b ia st =
    let c = closed_atom (sub p t) (sorted_sub p g [] put t st) (atom_sub p g [] put Unlifted t ia) in
    let z = number_of (sub p t) in
    let alts = Alt Default (sub (up p) b) NoAlt in
    same.same_next P (sub p (Case Unlifted t (Alt Default b NoAlt))) (sub p (sub (push t Var) b))
    (ap (λ x. next P (Case Unlifted x alts)) c.0 ∙ fire_number Unlifted (sub (up p) b) z ∙ ap Some (put_one (Lit z) p b ∙ ap (λ x. sub (push x p) b) (sym c.0) ∙ sym (sub-put t p b)))
