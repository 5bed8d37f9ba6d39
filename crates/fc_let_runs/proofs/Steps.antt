-- What one step of a run makes, behind a replacement by atoms, and what is known of the steps of a run.
use Rattle.std.proofs.Common.{◌≡◌, ◌≤◌, ◌<◌, ◌+◌, ℕ, zero, suc, true, false, refl, sym, ap, ◌∙◌, subst, arith, Option, Some}
use Rattle.fc_model.specs.Calling.{from_some}
use Rattle.fc_model.specs.Nameless.{NTy, NATerm, NExpr, NLocal, NVar, NLit, NApp, NLam, NLet, NCase, NCast, NCon, NPrim, NFail, NJoin, NJump, NoNBinds, MoreNBinds, NBound}
use Rattle.fc_model.specs.Replacing.{Substitution, replaced, unchanged, value_alone, with_argument}
use Rattle.fc_model.specs.Typing.{is_atom}
use Rattle.fc_model.proofs.Sameness.{false_true}
use Rattle.fc_rows.specs.Shrinking.{is_trivial, let_atom, let_of}
use Rattle.fc_subst.proofs.Delayed.{unchanged_itself, value_delayed}
use Rattle.fc_let_runs.specs.Runs.{IsRun, done, step, PutsAtoms, is_let_of_atom, iterated}

-- ATOMS

pub atom_is_trivial : (a : NExpr) → is_atom a ≡ true → is_trivial a ≡ true
atom_is_trivial (NLocal i) h = refl
atom_is_trivial (NVar n) h = refl
atom_is_trivial (NLit n) h = refl
atom_is_trivial a h = false_true h

-- atoms are put into atoms alone
pub atom_put : (r : Substitution) → PutsAtoms r → (a : NExpr) → is_atom (replaced r a) ≡ is_atom a
atom_put r p (NLocal i) = p.atoms i
atom_put r p (NVar n) = refl
atom_put r p (NLit n) = refl
atom_put r p (NApp f a) = refl
atom_put r p (NLam b e) = refl
atom_put r p (NLet o bs e) = refl
atom_put r p (NCase e t u alts) = refl
atom_put r p (NCast e g) = refl
atom_put r p (NCon n args) = refl
atom_put r p (NPrim op es) = refl
atom_put r p (NFail t) = refl
atom_put r p (NJoin o t js e) = refl
atom_put r p (NJump j args) = refl

atom_no_let : (a : NExpr) → is_atom a ≡ true → is_let_of_atom a ≡ false
atom_no_let (NLocal i) h = refl
atom_no_let (NVar n) h = refl
atom_no_let (NLit n) h = refl
atom_no_let a h = false_true h

-- and so lets of atoms stay what they are
pub let_of_atom_put : (r : Substitution) → PutsAtoms r → (e : NExpr) → is_let_of_atom (replaced r e) ≡ is_let_of_atom e
let_of_atom_put r p (NLocal i) = atom_no_let (r.values i) (p.atoms i)
let_of_atom_put r p (NVar n) = refl
let_of_atom_put r p (NLit n) = refl
let_of_atom_put r p (NApp f a) = refl
let_of_atom_put r p (NLam b e) = refl
let_of_atom_put r p (NLet true bs e) = refl
let_of_atom_put r p (NLet false NoNBinds e) = refl
let_of_atom_put r p (NLet false (MoreNBinds (NBound t a) NoNBinds) e) = atom_put r p a
let_of_atom_put r p (NLet false (MoreNBinds (NBound t a) (MoreNBinds b bs)) e) = refl
let_of_atom_put r p (NCase e t u alts) = refl
let_of_atom_put r p (NCast e g) = refl
let_of_atom_put r p (NCon n args) = refl
let_of_atom_put r p (NPrim op es) = refl
let_of_atom_put r p (NFail t) = refl
let_of_atom_put r p (NJoin o t js e) = refl
let_of_atom_put r p (NJump j args) = refl

pub puts_themselves : PutsAtoms unchanged
puts_themselves = record { atoms = λ i. refl }

pub puts_one_more : (r : Substitution) → PutsAtoms r → (a : NExpr) → is_atom a ≡ true → PutsAtoms (with_argument (NATerm a) r)
puts_one_more r p a h = record { atoms = here }
  where
    here : (i : ℕ) → is_atom ((with_argument (NATerm a) r).values i) ≡ true
    here zero = h
    here (suc i) = p.atoms i

-- ONE STEP

-- what the row makes of a let of an atom
pub let_of_atom_made : (t : NTy) (a b : NExpr) → is_atom a ≡ true → let_atom (let_of t a b) ≡ Some (replaced (value_alone a) b)
let_of_atom_made t a b h = rw (atom_is_trivial a h) refl

abbrev the_some : NExpr → Option NExpr → NExpr
the_some e (Some x) = x
the_some e _ = e

pub let_of_atom_inv : (e f : NExpr) → is_let_of_atom e ≡ true → let_atom e ≡ Some f
    → (t : NTy) × (a : NExpr) × (b : NExpr) × (e ≡ let_of t a b) × (is_atom a ≡ true) × (f ≡ replaced (value_alone a) b)
let_of_atom_inv (NLet false (MoreNBinds (NBound t a) NoNBinds) b) f h made = (t, a, b, refl, h, ap (the_some f) (sym made ∙ let_of_atom_made t a b h))
let_of_atom_inv e f h made = false_true h

-- of a let that is behind a replacement: its body behind one that puts the atom in too
pub let_put : (r : Substitution) (t : NTy) (a b : NExpr) → is_atom (replaced r a) ≡ true
    → let_atom (replaced r (let_of t a b)) ≡ Some (replaced (with_argument (NATerm (replaced r a)) r) b)
let_put r t a b h = rw (atom_is_trivial (replaced r a) h) (ap Some (value_delayed (replaced r a) r b))

-- a run that begins with that step; x is what the right side is put in as
pub first_step : (r : Substitution) → PutsAtoms r → (e : NExpr) (t : NTy) (a b x : NExpr) (n m : ℕ) (f : NExpr) → e ≡ let_of t a b → is_atom a ≡ true → x ≡ replaced r a
    → m ≡ n + 1 → IsRun n (replaced (with_argument (NATerm x) r) b) f → IsRun m (replaced r e) f
first_step r p e t a b x n m f is atom put count rest =
    let still : is_atom (replaced r a) ≡ true = atom_put r p a ∙ atom in
    let more : m ≡ suc n = omega (arith, count) in
    let P : NExpr → Type 0 = λ y. IsRun n (replaced (with_argument (NATerm y) r) b) f in
    rw (more, is) (step still (let_put r t a b still) (subst P put rest))

-- a run behind a replacement of each variable by itself
pub run_itself : (n : ℕ) (e f : NExpr) → IsRun n (replaced unchanged e) f → IsRun n e f
run_itself n e f run = let P : NExpr → Type 0 = λ x. IsRun n x f in subst P (unchanged_itself e) run

-- RUNS

-- nothing is done to what is left
pub no_step : (e f : NExpr) → f ≡ e → IsRun 0 e f
no_step e f same = rw same done

-- a run is the row, so many times
pub run_iterated : {n : ℕ} {e f : NExpr} → IsRun n e f → iterated n e ≡ Some f
run_iterated done = refl
run_iterated (step {n = n} atom made rest) = ap (from_some (iterated n)) made ∙ run_iterated rest

-- the first step of a run
pub run_first : (n : ℕ) (e g : NExpr) → IsRun (suc n) e g → (f : NExpr) × (is_let_of_atom e ≡ true) × (let_atom e ≡ Some f) × IsRun n f g
run_first n e g (step {f = f} atom made rest) = (f, atom, made, rest)

-- each step of a run is at a let of an atom
pub run_at_lets : {n : ℕ} {e f : NExpr} → IsRun n e f → (k : ℕ) → k < n → (x : NExpr) × (iterated k e ≡ Some x) × (is_let_of_atom x ≡ true)
run_at_lets done k less = absurd (omega (arith, less))
run_at_lets (step {e = e} atom made rest) zero less = (e, refl, atom)
run_at_lets (step {e = e} atom made rest) (suc k) less =
    let x = run_at_lets rest k (omega (arith, less)) in (x.0, ap (from_some (iterated k)) made ∙ x.1, x.2)

-- the first steps of a run are one
pub run_part : {n : ℕ} {e f : NExpr} → IsRun n e f → (k : ℕ) → k ≤ n → (x : NExpr) × IsRun k e x
run_part done zero within = (_, done)
run_part done (suc k) within = absurd (omega (arith, within))
run_part (step atom made rest) zero within = (_, done)
run_part (step atom made rest) (suc k) within = let part = run_part rest k (omega (arith, within)) in (part.0, step atom made part.1)
