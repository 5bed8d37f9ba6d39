-- Rewrites of terms, each as a relation of the two sides.
use Rattle.std.specs.Prelude.{◌≡◌, ℕ, zero, suc, ◌+◌, ℤ, if◌then◌else◌, nat_eq, nat_lt, List, [], ◌∷◌, length, Some}
use Rattle.fc_syntax.specs.declared.expr.PrimOp.{PrimOp}
use Rattle.fc_syntax.specs.declared.ty.Name.{Name}
use Rattle.fc_model.specs.Erasure.{lambdas}
use Rattle.fc_model.specs.Stepping.{Program, Frame, AppTo, CaseOf, plug, Key, LitKey, ConKey, LamKey, Bare, Fielded, choose, matches, on_literals}
use Rattle.fc_model.specs.Terms.{Sort, Lifted, Unlifted, Head, Default, OfLit, OfCon, Term, Lit, Var, Global, Fail, App, Lam, Let, Rec, Case, Con, Prim, Terms, Nil, Cons, Alts, NoAlt, Alt, binders}
use Rattle.fc_model.specs.Terms.{count, ren, ren_terms, ren_alts, shift, sub, push, pushes, ups, upr, InRange, IsAtom, IsSorted, AreSorted, HasSorts}
use Rattle.fc_meaning.specs.Laws.{SortedProgram}
use Rattle.fc_meaning.proofs.SortsKept.{Puts}
use Rattle.fc_counted.specs.Places.{Place, side_on_left, side_on_right, sorts_in}
use Rattle.fc_term_rows.specs.Facts.{Fact, FactCon, FactNumber, FactNoneOf, Known, Knows, Stands, field_variables}
use Rattle.fc_term_rows.specs.Heads.{SameHeads}

-- lets, one inside another, whose right sides stand outside of all
abbrev pub lets : List Sort → Terms → Term → Term
lets [] ts b = b
lets (s ∷ ss) Nil b = b
lets (s ∷ ss) (Cons t ts) b = Let s t (lets ss (ren_terms suc ts) b)

-- a term applied to arguments
abbrev pub applied_term : Term → List Sort → Terms → Term
applied_term t [] ts = t
applied_term t (s ∷ ss) Nil = t
applied_term t (s ∷ ss) (Cons a ts) = applied_term (App s t a) ss ts

-- the binder of a case, which stands outside of this many, becomes the innermost
abbrev pub case_last : ℕ → ℕ → ℕ
case_last k n = if nat_lt n k then suc n else (if nat_eq n k then zero else n)

-- past the binder of a case, which stands outside of this many
abbrev pub past_case_binder : ℕ → ℕ → ℕ
past_case_binder k n = if nat_lt n k then n else suc n

-- alternatives below the binders of two cases, of which the inner one goes
unfoldable pub merged : Alts → Alts
unfolding push ups sub binders
merged NoAlt = NoAlt
merged (Alt h b alts) = Alt h (sub (ups (binders h) (push (Var zero) Var)) b) (merged alts)

-- what a case looks for at a term that is a head, if its binder takes it
pub data HasKey : Sort → Term → Key → Type 0 where
  key_of_literal : {s : Sort} {z : ℤ} → HasKey s (Lit z) (LitKey z)
  key_of_lambda : {r : Sort} {b : Term} → HasKey Lifted (Lam r b) LamKey
  key_of_constructor : {d : Name} {ss : List Sort} {ts : Terms} → HasKey Lifted (Con d ss ts) (ConKey d)

-- the second alternatives are the first without one of this head
pub data Without : Head → Alts → Alts → Type 0 where
  without_first : {h : Head} {b : Term} {alts : Alts} → Without h (Alt h b alts) alts
  without_later : {h k : Head} {b : Term} {alts blts : Alts} → Without h alts blts → Without h (Alt k b alts) (Alt k b blts)

-- a case that looks for one head finds it exactly where it finds the other
abbrev pub AreFoundAlike : Head → Head → Type 0
AreFoundAlike h k = (key : Key) → matches key h ≡ matches key k

-- the head is found as one of these is
pub data IsAmong (h : Head) : List Head → Type 0 where
  among_first : {k : Head} {hs : List Head} → AreFoundAlike h k → IsAmong h (k ∷ hs)
  among_later : {k : Head} {hs : List Head} → IsAmong h hs → IsAmong h (k ∷ hs)

abbrev pub IsNoDefault : Head → Type 0
IsNoDefault Default = ⊥
IsNoDefault (OfLit z) = Unit {0}
IsNoDefault (OfCon c ss) = Unit {0}

-- PUSHING

-- the argument of an application, or a case, further in
unfoldable pub ren_frame : (ℕ → ℕ) → Frame → Frame
unfolding ren
ren_frame r (AppTo s a) = AppTo s (ren r a)
ren_frame r (CaseOf s alts) = CaseOf s (ren_alts r alts)

-- a frame around a case goes into its alternatives
unfoldable pub pushed : Frame → Alts → Alts
unfolding plug ren_frame binders
pushed f NoAlt = NoAlt
pushed f (Alt h b alts) = Alt h (plug (ren_frame (λ n. binders h + suc n) f) b) (pushed f alts)

-- REWRITES THAT NEED NOTHING OF THEIR PLACE

-- both sides come to the same heads, whatever is put in
pub data Reduces : Term → Term → Type 0 where
  reduces_beta : {s : Sort} {b a : Term} → Reduces (App s (Lam s b) a) (Let s a b)
  reduces_beta_put : {s : Sort} {b a : Term} → Reduces (App s (Lam s b) a) (sub (push a Var) b)
  reduces_dead_let : {s : Sort} {e b : Term} → Reduces (Let s e (shift b)) b
  -- an atom, or what occurs once, for the binder
  reduces_let_put : {s : Sort} {e b : Term} → Reduces (Let s e b) (sub (push e Var) b)
  reduces_dead_group : {ts : Terms} {b : Term} → Reduces (Rec ts (ren (λ n. count ts + n) b)) b
  reduces_application_of_let : {s r : Sort} {e b a : Term} → Reduces (App s (Let r e b) a) (Let r e (App s b (shift a)))
  reduces_application_of_group : {s : Sort} {ts : Terms} {b a : Term} → Reduces (App s (Rec ts b) a) (Rec ts (App s b (ren (λ n. count ts + n) a)))
  reduces_case_of_let : {s r : Sort} {e b : Term} {alts : Alts} → Reduces (Case s (Let r e b) alts) (Let r e (Case s b (ren_alts suc alts)))
  reduces_case_of_group : {s : Sort} {ts : Terms} {b : Term} {alts : Alts} → Reduces (Case s (Rec ts b) alts) (Rec ts (Case s b (ren_alts (λ n. count ts + n) alts)))
  -- a head whose alternative has no binders of its own
  reduces_case_of_head : {s : Sort} {t b : Term} {alts : Alts} (k : Key) → HasKey s t k → choose k alts ≡ Bare b → Reduces (Case s t alts) (Let s t b)
  -- a constructor with its alternative
  reduces_case_of_constructor : {d : Name} {ss : List Sort} {ts : Terms} {alts : Alts} (b : Term) → choose (ConKey d) alts ≡ Fielded ss b
      → Reduces (Case Lifted (Con d ss ts) alts) (lets ss ts (Let Lifted (Con d ss (field_variables ss)) (ren (case_last (length ss)) b)))
  reduces_case_of_constructor_alone : {d : Name} {ss : List Sort} {ts : Terms} {alts : Alts} (b : Term) → choose (ConKey d) alts ≡ Fielded ss (ren (past_case_binder (length ss)) b)
      → Reduces (Case Lifted (Con d ss ts) alts) (lets ss ts b)
  reduces_merged_case : {s : Sort} {e : Term} {alts : Alts} → Reduces (Case s e (Alt Default (Case s (Var zero) alts) NoAlt)) (Case s e (merged alts))
  reduces_applied_fail : {s : Sort} {a : Term} → Reduces (App s Fail a) Fail
  reduces_case_of_fail : {s : Sort} {alts : Alts} → Reduces (Case s Fail alts) Fail
  -- a part of a right side gets a name, as a field of a constructor
  reduces_named_part : {r s : Sort} {e d b : Term} → Reduces (Let s (sub (push e Var) d) b) (Let r e (Let s d (ren (upr suc) b)))
  -- a lambda over several binders with its arguments, as a jump in whose place its join point is put
  reduces_beta_all : (ss : List Sort) (ts : Terms) (b : Term) → length ss ≡ count ts → Reduces (applied_term (lambdas ss b) ss ts) (lets ss ts b)

-- REWRITES THAT KNOW THEIR PLACE

-- the alternative that is taken at what is known of the scrutinee, with the sorts of its fields, and the fields
pub data Chosen : Sort → Fact → Alts → List Sort → Terms → Term → Type 0 where
  chosen_constructor : {d : Name} {ss : List Sort} {ts : Terms} {alts : Alts} {b : Term} → choose (ConKey d) alts ≡ Fielded ss b → Chosen Lifted (FactCon d ss ts) alts ss ts b
  chosen_constructor_default : {d : Name} {ss : List Sort} {ts : Terms} {alts : Alts} {b : Term} → choose (ConKey d) alts ≡ Bare b → Chosen Lifted (FactCon d ss ts) alts [] Nil b
  chosen_number : {s : Sort} {z : ℤ} {alts : Alts} {b : Term} → choose (LitKey z) alts ≡ Bare b → Chosen s (FactNumber z) alts [] Nil b
  chosen_default : {f : Fact} {b : Term} → Chosen Lifted f (Alt Default b NoAlt) [] Nil b

-- an atom where each variable is a number
abbrev pub number_at : (ℕ → ℤ) → Term → Term
number_at v (Var n) = Lit (v n)
number_at v t = t

-- a rewrite at a place, where G is known of top-level names, and D are the right sides that may be put in for them
pub data TermRow (G : Known) (D : Name → Term → Type 0) : Place → Term → Term → Type 0 where
  row_reduces : {c : Place} {t u : Term} → Reduces t u → TermRow G D c t u
  -- both sides come to the same heads in every program, whatever closed terms are put in
  row_same : {c : Place} {t u : Term} → ((P : Program) → SortedProgram P → (p : ℕ → Term) → Puts p (sorts_in c) [] → SameHeads P (sub p t) (sub p u)) → TermRow G D c t u
  row_known : {c : Place} {s : Sort} {t b : Term} {f : Fact} {alts : Alts} {ss : List Sort} {ts : Terms} → Knows G (side_on_left c) t f → Knows G (side_on_right c) t f → Chosen s f alts ss ts b
      → IsAtom (sorts_in c) s t → AreSorted (sorts_in c) ts → HasSorts (sorts_in c) ss ts → TermRow G D c (Case s t alts) (sub (pushes ts (push t Var)) b)
  row_atom : {c : Place} {t b : Term} → IsAtom (sorts_in c) Unlifted t → TermRow G D c (Case Unlifted t (Alt Default b NoAlt)) (sub (push t Var) b)
  row_dead_alternative : {c : Place} {s : Sort} {t : Term} {h : Head} {hs : List Head} {alts blts : Alts} → Knows G (side_on_left c) t (FactNoneOf hs) → Knows G (side_on_right c) t (FactNoneOf hs)
      → IsAmong h hs → IsNoDefault h → Without h alts blts → TermRow G D c (Case s t alts) (Case s t blts)
  row_let_of_let : {c : Place} {r : Sort} {e d b : Term} → TermRow G D c (Let Lifted (Let r e d) b) (Let r e (Let Lifted d (ren (upr suc) b)))
  row_let_of_group : {c : Place} {ts : Terms} {d b : Term} → TermRow G D c (Let Lifted (Rec ts d) b) (Rec ts (Let Lifted d (ren (upr (λ n. count ts + n)) b)))
  row_fold : {c : Place} {o : PrimOp} {a b r : Term} → ((v : ℕ → ℤ) → ((n : ℕ) → InRange (v n)) → on_literals o (number_at v a) (number_at v b) ≡ Some (number_at v r)) → IsAtom (sorts_in c) Unlifted r
      → TermRow G D c (Prim o a b) r
  row_unfold : {c : Place} {x : Name} {d : Term} → D x d → TermRow G D c (Global x) d
  -- a local name for which its let's right side stands, where both sides come to the same heads if both have one instance
  row_standing : {c : Place} {x y : Term} (t u : Term) → Stands (side_on_left c) t u → Stands (side_on_right c) t u
      → ((P : Program) → SortedProgram P → (p : ℕ → Term) → Puts p (sorts_in c) [] → sub p t ≡ sub p u → SameHeads P (sub p x) (sub p y)) → TermRow G D c x y
  -- an application to an argument, or a case, around a case
  row_push : {c : Place} (f : Frame) (s : Sort) (e : Term) (alts : Alts) → IsSorted (sorts_in c) e → TermRow G D c (plug f (Case s e alts)) (Case s e (pushed f alts))
