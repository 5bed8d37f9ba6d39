-- A step keeps a sorted term sorted.
use Rattle.std.proofs.Common.{◌≡◌, ℕ, zero, suc, ℤ, List, [], ◌∷◌, true, Option, Some, None, option_map, refl, sym, ap₂, subst}
use Rattle.fc_syntax.specs.declared.expr.PrimOp.{PrimOp}
use Rattle.fc_syntax.specs.Primitives.{primitive_value}
use Rattle.fc_model.specs.Stepping.{Program, same_sort, same_sorts, Key, LitKey, ConKey, LamKey, Found, Missing, Bare, Fielded, matches, found, default_of, own, choose, enter}
use Rattle.fc_model.specs.Stepping.{Frame, AppTo, CaseOf, plug, fire, through, wrap, on_literals, next}
use Rattle.fc_model.specs.Terms.{Sort, Lifted, Unlifted, Head, Default, OfLit, OfCon, Term, Lit, Var, Global, App, Lam, Let, Rec, Case, Con, Prim, Terms, Nil, Cons, Alts, NoAlt, Alt}
use Rattle.fc_model.specs.Terms.{sub, push, pushes, sort_at, enters, lifteds, head_sorts, IsAtom, HasSorts, IsSorted, AreSorted, AltsAreSorted}
use Rattle.fc_meaning.specs.Laws.{SortedProgram}
use Rattle.fc_meaning.proofs.Optional.{some_is, none_some, cond_some, cond_keeps, false_true, both_true}
use Rattle.fc_meaning.proofs.PrimitiveRange.{value_in_range}
use Rattle.fc_meaning.proofs.SortsKept.{Puts, sorted_sub}

pub same_sort_is : (s r : Sort) → same_sort s r ≡ true → s ≡ r
unfolding same_sort
same_sort_is Lifted Lifted e = refl
same_sort_is Unlifted Unlifted e = refl
same_sort_is Lifted Unlifted e = absurd (false_true e)
same_sort_is Unlifted Lifted e = absurd (false_true e)

pub same_sorts_is : (s r : List Sort) → same_sorts s r ≡ true → s ≡ r
unfolding same_sorts
same_sorts_is [] [] e = refl
same_sorts_is [] (r ∷ rs) e = absurd (false_true e)
same_sorts_is (s ∷ ss) [] e = absurd (false_true e)
same_sorts_is (s ∷ ss) (r ∷ rs) e = let w = both_true _ _ e in ap₂ ◌∷◌ (same_sort_is s r w.0) (same_sorts_is ss rs w.1)

pub puts_var : Puts Var [] []
unfolding sort_at
puts_var n s e = absurd (none_some e)

pub puts_push : (t : Term) (r : ℕ → Term) (s : Sort) (g d : List Sort) → IsSorted d t → IsAtom d s t → Puts r g d → Puts (push t r) (s ∷ g) d
unfolding push sort_at
puts_push t r s g d w a h zero o e = (w, subst (λ x. IsAtom d x t) (some_is e) a)
puts_push t r s g d w a h (suc n) o e = h n o e

pub puts_pushes : (ss : List Sort) (ts : Terms) (r : ℕ → Term) (g d : List Sort) → AreSorted d ts → HasSorts d ss ts → Puts r g d → Puts (pushes ts r) (enters ss g) d
unfolding pushes enters
puts_pushes [] Nil r g d w a h = h
puts_pushes [] (Cons t ts) r g d w a h = absurd a
puts_pushes (s ∷ ss) Nil r g d w a h = absurd a
puts_pushes (s ∷ ss) (Cons t ts) r g d w a h = puts_pushes ss ts (push t r) (s ∷ g) d w.1 a.1 (puts_push t r s g d w.0 a.0 h)

pub sorted_wrap : (g : List Sort) (ts us : Terms) → AreSorted (enters (lifteds ts) g) ts → AreSorted (enters (lifteds ts) g) us → AreSorted g (wrap ts us)
unfolding wrap
sorted_wrap g ts Nil w v = tt
sorted_wrap g ts (Cons u us) w v = ((w, v.0), sorted_wrap g ts us w v.1)

pub has_sorts_wrap : (g : List Sort) (ts us : Terms) → HasSorts g (lifteds us) (wrap ts us)
unfolding wrap lifteds
has_sorts_wrap g ts Nil = tt
has_sorts_wrap g ts (Cons u us) = (tt, has_sorts_wrap g ts us)

abbrev pub FoundSorted : List Sort → Found → Type 0
FoundSorted g Missing = Unit {0}
FoundSorted g (Bare b) = IsSorted g b
FoundSorted g (Fielded ss b) = IsSorted (enters ss g) b

found_sorted : (g : List Sort) (h : Head) (b : Term) → IsSorted (enters (head_sorts h) g) b → FoundSorted g (found h b)
unfolding found head_sorts enters
found_sorted g Default b w = w
found_sorted g (OfLit z) b w = w
found_sorted g (OfCon c ss) b w = w

default_sorted : (g : List Sort) (alts : Alts) → AltsAreSorted g alts → FoundSorted g (default_of alts)
unfolding default_of head_sorts enters
default_sorted g NoAlt w = tt
default_sorted g (Alt Default b alts) w = w.0
default_sorted g (Alt (OfLit z) b alts) w = default_sorted g alts w.1
default_sorted g (Alt (OfCon c ss) b alts) w = default_sorted g alts w.1

own_sorted : (g : List Sort) (k : Key) (d : Found) (alts : Alts) → FoundSorted g d → AltsAreSorted g alts → FoundSorted g (own k alts d)
unfolding own
own_sorted g k d NoAlt e w = e
own_sorted g k d (Alt h b alts) e w = cond_keeps (FoundSorted g) (matches k h) (found h b) (own k alts d) (found_sorted g h b w.0) (own_sorted g k d alts e w.1)

pub choose_sorted : (g : List Sort) (k : Key) (alts : Alts) → AltsAreSorted g alts → FoundSorted g (choose k alts)
unfolding choose
choose_sorted g k alts w = own_sorted g k (default_of alts) alts (default_sorted g alts w) w

pub enter_sorted : (o : Sort) (h u : Term) (ss : List Sort) (ts : Terms) (f : Found) → FoundSorted (o ∷ []) f → IsSorted [] h → IsAtom [] o h → AreSorted [] ts → HasSorts [] ss ts → enter h ss ts f ≡ Some u → IsSorted [] u
unfolding enter
enter_sorted o h u ss ts Missing w sh ah st hs e = absurd (none_some e)
enter_sorted o h u ss ts (Bare b) w sh ah st hs e =
    subst (IsSorted []) (some_is e) (sorted_sub (push h Var) (o ∷ []) [] (puts_push h Var o [] [] sh ah puts_var) b w)
enter_sorted o h u ss ts (Fielded rs b) w sh ah st hs e =
    let c = cond_some (same_sorts rs ss) (sub (pushes ts (push h Var)) b) u e in
    let q = same_sorts_is rs ss c.0 in
    subst (IsSorted []) c.1 (sorted_sub (pushes ts (push h Var)) (enters rs (o ∷ [])) [] (subst (λ x. Puts (pushes ts (push h Var)) (enters x (o ∷ [])) []) (sym q) (puts_pushes ss ts (push h Var) (o ∷ []) [] st hs (puts_push h Var o [] [] sh ah puts_var))) b w)

abbrev pub FrameSorted : Frame → Type 0
FrameSorted (AppTo s a) = IsSorted [] a × IsAtom [] s a
FrameSorted (CaseOf s alts) = AltsAreSorted (s ∷ []) alts

pub fire_sorted : (f : Frame) (h u : Term) → FrameSorted f → IsSorted [] h → fire f h ≡ Some u → IsSorted [] u
unfolding fire
fire_sorted (AppTo s a) (Lam r b) u w v e =
    let c = cond_some (same_sort s r) (sub (push a Var) b) u e in
    subst (IsSorted []) c.1 (sorted_sub (push a Var) (r ∷ []) [] (puts_push a Var r [] [] w.0 (subst (λ x. IsAtom [] x a) (same_sort_is s r c.0) w.1) puts_var) b v)
fire_sorted (AppTo s a) _ u w v e = absurd (none_some e)
fire_sorted (CaseOf Lifted alts) (Lit z) u w v e = enter_sorted Lifted (Lit z) u [] Nil (choose (LitKey z) alts) (choose_sorted (Lifted ∷ []) (LitKey z) alts w) v tt tt tt e
fire_sorted (CaseOf Unlifted alts) (Lit z) u w v e = enter_sorted Unlifted (Lit z) u [] Nil (choose (LitKey z) alts) (choose_sorted (Unlifted ∷ []) (LitKey z) alts w) v tt tt tt e
fire_sorted (CaseOf Lifted alts) (Lam r b) u w v e = enter_sorted Lifted (Lam r b) u [] Nil (choose LamKey alts) (choose_sorted (Lifted ∷ []) LamKey alts w) v tt tt tt e
fire_sorted (CaseOf Lifted alts) (Con c ss ts) u w v e = enter_sorted Lifted (Con c ss ts) u ss ts (choose (ConKey c) alts) (choose_sorted (Lifted ∷ []) (ConKey c) alts w) v tt v.0 v.1 e
fire_sorted (CaseOf _ alts) _ u w v e = absurd (none_some e)

pub plug_sorted : (f : Frame) (t : Term) → FrameSorted f → IsSorted [] t → IsSorted [] (plug f t)
unfolding plug
plug_sorted (AppTo s a) t w v = (v, w.0, w.1)
plug_sorted (CaseOf s alts) t w v = (v, w)

through_sorted : (f : Frame) (t u : Term) (o : Option Term) → FrameSorted f → IsSorted [] t → ((x : Term) → o ≡ Some x → IsSorted [] x) → through f t o ≡ Some u → IsSorted [] u
unfolding through
through_sorted f t u None w v h e = fire_sorted f t u w v e
through_sorted f t u (Some x) w v h e = subst (IsSorted []) (some_is e) (plug_sorted f x w (h x refl))

literals_sorted : (o : PrimOp) (a b u : Term) → IsSorted [] a → on_literals o a b ≡ Some u → IsSorted [] u
unfolding on_literals
literals_sorted o (Lit a) (Lit b) u w e = go (primitive_value o a b) refl e
  where
    go : (v : Option ℤ) → primitive_value o a b ≡ v → option_map Lit v ≡ Some u → IsSorted [] u
    go None q x = absurd (none_some x)
    go (Some z) q x = subst (IsSorted []) (some_is x) (value_in_range o a b z w q)
literals_sorted o (Lit a) _ u w e = absurd (none_some e)
literals_sorted o _ _ u w e = absurd (none_some e)

pub next_sorted : (P : Program) → SortedProgram P → (t u : Term) → IsSorted [] t → next P t ≡ Some u → IsSorted [] u
unfolding next
next_sorted P h (App s f a) u w e = through_sorted (AppTo s a) f u (next P f) (w.1, w.2) w.0 (λ x q. next_sorted P h f x w.0 q) e
next_sorted P h (Let s d b) u w e = subst (IsSorted []) (some_is e) (sorted_sub (push d Var) (s ∷ []) [] (puts_push d Var s [] [] w.0 w.1 puts_var) b w.2)
next_sorted P h (Rec ts b) u w e = subst (IsSorted []) (some_is e) (sorted_sub (pushes (wrap ts ts) Var) (enters (lifteds ts) []) [] (puts_pushes (lifteds ts) (wrap ts ts) Var [] [] (sorted_wrap [] ts ts w.0 w.0) (has_sorts_wrap [] ts ts) puts_var) b w.1)
next_sorted P h (Case s d alts) u w e = through_sorted (CaseOf s alts) d u (next P d) w.1 w.0 (λ x q. next_sorted P h d x w.0 q) e
next_sorted P h (Prim o a b) u w e = literals_sorted o a b u w.0 e
next_sorted P h (Global x) u w e = h x u e
next_sorted P h _ u w e = absurd (none_some e)
