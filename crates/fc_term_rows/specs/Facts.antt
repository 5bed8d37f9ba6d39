-- What a place tells of a term: what it comes to, and what it stands for.
use Rattle.std.specs.Prelude.{◌≡◌, ℕ, suc, ◌+◌, ℤ, List, [], ◌∷◌, length}
use Rattle.fc_syntax.specs.declared.ty.Name.{Name}
use Rattle.fc_model.specs.Stepping.{IsHead}
use Rattle.fc_model.specs.Terms.{Sort, Head, Default, OfLit, OfCon, Term, Var, Global, Con, Terms, Nil, Cons, binders, count, ren, ren_terms}
use Rattle.fc_counted.specs.Places.{Side, BelowLambda, BelowLet, BelowGroup, InAlternative}

-- a term comes to a constructor with these fields, to a number, or to a head that none of these alternatives is for
pub data Fact : Type 0 where
  FactCon : Name → List Sort → Terms → Fact
  FactNumber : ℤ → Fact
  FactNoneOf : List Head → Fact

-- a fact, seen from further in
abbrev pub moved_fact : (ℕ → ℕ) → Fact → Fact
moved_fact r (FactCon c ss ts) = FactCon c ss (ren_terms r ts)
moved_fact r (FactNumber z) = FactNumber z
moved_fact r (FactNoneOf hs) = FactNoneOf hs

-- the variables of fields, of which the last is the innermost
abbrev pub field_variables : List Sort → Terms
field_variables [] = Nil
field_variables (s ∷ ss) = Cons (Var (length ss)) (field_variables ss)

-- the member of a group whose binder stands at this distance
pub data MemberAt : Terms → ℕ → Term → Type 0 where
  first_member : {t : Term} {ts : Terms} (n : ℕ) → n ≡ count ts → MemberAt (Cons t ts) n t
  later_member : {t u : Term} {ts : Terms} {n : ℕ} → MemberAt ts n u → MemberAt (Cons t ts) n u

-- facts of top-level names
abbrev pub Known : Type 1
Known = Name → Fact → Type 0

-- what is known on one side of a place, where G is known of top-level names
pub data Knows (G : Known) : Side → Term → Fact → Type 0 where
  knows_global : {c : Side} {x : Name} {f : Fact} → G x f → Knows G c (Global x) f
  -- in an alternative: the binder of the case, and the scrutinee
  knows_constructor_binder : {s : Sort} {t : Term} {hs : List Head} {d : Name} {ss : List Sort} {c : Side}
      → Knows G (InAlternative s t hs (OfCon d ss) c) (Var (length ss)) (FactCon d ss (field_variables ss))
  knows_constructor_scrutinee : {s : Sort} {t : Term} {hs : List Head} {d : Name} {ss : List Sort} {c : Side}
      → Knows G (InAlternative s t hs (OfCon d ss) c) (ren (λ n. length ss + suc n) t) (FactCon d ss (field_variables ss))
  knows_literal_binder : {s : Sort} {t : Term} {hs : List Head} {z : ℤ} {c : Side} → Knows G (InAlternative s t hs (OfLit z) c) (Var 0) (FactNumber z)
  knows_literal_scrutinee : {s : Sort} {t : Term} {hs : List Head} {z : ℤ} {c : Side} → Knows G (InAlternative s t hs (OfLit z) c) (ren suc t) (FactNumber z)
  knows_default_binder : {s : Sort} {t : Term} {hs : List Head} {c : Side} → Knows G (InAlternative s t hs Default c) (Var 0) (FactNoneOf hs)
  knows_default_scrutinee : {s : Sort} {t : Term} {hs : List Head} {c : Side} → Knows G (InAlternative s t hs Default c) (ren suc t) (FactNoneOf hs)
  -- what a let or a group binds
  knows_let_constructor : {s : Sort} {d : Name} {ss : List Sort} {ts : Terms} {c : Side} → Knows G (BelowLet s (Con d ss ts) c) (Var 0) (FactCon d ss (ren_terms suc ts))
  knows_let_head : {s : Sort} {t : Term} {c : Side} → IsHead t → Knows G (BelowLet s t c) (Var 0) (FactNoneOf [])
  knows_member_constructor : {ts us : Terms} {n : ℕ} {d : Name} {ss : List Sort} {c : Side} → MemberAt ts n (Con d ss us) → Knows G (BelowGroup ts c) (Var n) (FactCon d ss us)
  knows_member_head : {ts : Terms} {n : ℕ} {u : Term} {c : Side} → MemberAt ts n u → IsHead u → Knows G (BelowGroup ts c) (Var n) (FactNoneOf [])
  -- further in
  knows_past_lambda : {s : Sort} {c : Side} {t : Term} {f : Fact} → Knows G c t f → Knows G (BelowLambda s c) (ren suc t) (moved_fact suc f)
  knows_past_let : {s : Sort} {a : Term} {c : Side} {t : Term} {f : Fact} → Knows G c t f → Knows G (BelowLet s a c) (ren suc t) (moved_fact suc f)
  knows_past_group : {ts : Terms} {c : Side} {t : Term} {f : Fact} → Knows G c t f → Knows G (BelowGroup ts c) (ren (λ n. count ts + n) t) (moved_fact (λ n. count ts + n) f)
  knows_past_alternative : {s : Sort} {a : Term} {hs : List Head} {h : Head} {c : Side} {t : Term} {f : Fact} → Knows G c t f
      → Knows G (InAlternative s a hs h c) (ren (λ n. binders h + suc n) t) (moved_fact (λ n. binders h + suc n) f)

-- STANDING FOR

-- a variable, and the right side of the let that binds it, both seen from further in
pub data Stands : Side → Term → Term → Type 0 where
  stands_let : {s : Sort} {a : Term} {c : Side} → Stands (BelowLet s a c) (Var 0) (ren suc a)
  stands_past_lambda : {s : Sort} {c : Side} {t u : Term} → Stands c t u → Stands (BelowLambda s c) (ren suc t) (ren suc u)
  stands_past_let : {s : Sort} {a : Term} {c : Side} {t u : Term} → Stands c t u → Stands (BelowLet s a c) (ren suc t) (ren suc u)
  stands_past_group : {ts : Terms} {c : Side} {t u : Term} → Stands c t u → Stands (BelowGroup ts c) (ren (λ n. count ts + n) t) (ren (λ n. count ts + n) u)
  stands_past_alternative : {s : Sort} {a : Term} {hs : List Head} {h : Head} {c : Side} {t u : Term} → Stands c t u
      → Stands (InAlternative s a hs h c) (ren (λ n. binders h + suc n) t) (ren (λ n. binders h + suc n) u)
