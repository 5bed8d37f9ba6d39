-- A change of parts: two terms that differ in parts related by R, each at its place. It is the compatible closure of R.
use Rattle.std.specs.Prelude.{ℕ, List, [], ◌∷◌, ℤ}
use Rattle.fc_syntax.specs.declared.expr.PrimOp.{PrimOp}
use Rattle.fc_syntax.specs.declared.ty.Name.{Name}
use Rattle.fc_model.specs.Terms.{Sort, Lifted, Unlifted, Head, Term, Lit, Var, Global, Fail, App, Lam, Let, Rec, Case, Con, Prim, Terms, Nil, Cons, Alts, NoAlt, Alt, lifteds}
use Rattle.fc_counted.specs.Places.{Place, InBody, PastLet, PastGroup, InAlt, heads_of}

-- a relation of parts at their places
abbrev pub PartRelation : Type 1
PartRelation = Place → Term → Term → Type 0

mutual
  pub data Change (R : PartRelation) : Place → Term → Term → Type 0 where
    change_here : {c : Place} {t u : Term} → R c t u → Change R c t u
    same_literal : {c : Place} {z : ℤ} → Change R c (Lit z) (Lit z)
    same_variable : {c : Place} {n : ℕ} → Change R c (Var n) (Var n)
    same_global : {c : Place} {x : Name} → Change R c (Global x) (Global x)
    same_fail : {c : Place} → Change R c Fail Fail
    change_in_application : {c : Place} {s : Sort} {t u a b : Term} → Change R c t u → ChangeAt R c s a b → Change R c (App s t a) (App s u b)
    change_in_lambda : {c : Place} {s : Sort} {b d : Term} → Change R (InBody s c) b d → Change R c (Lam s b) (Lam s d)
    change_in_let : {c : Place} {s : Sort} {a b e d : Term} → ChangeAt R c s a b → Change R (PastLet s a b c) e d → Change R c (Let s a e) (Let s b d)
    change_in_group : {c : Place} {ts us : Terms} {b d : Term} → ChangeTerms R (PastGroup (lifteds ts) ts us c) ts us → Change R (PastGroup (lifteds ts) ts us c) b d → Change R c (Rec ts b) (Rec us d)
    change_in_case : {c : Place} {s : Sort} {t u : Term} {alts blts : Alts} → Change R c t u → ChangeAlts R s t u (heads_of alts) c alts blts → Change R c (Case s t alts) (Case s u blts)
    change_in_constructor : {c : Place} {k : Name} {ss : List Sort} {ts us : Terms} → ChangeFields R c ss ts us → Change R c (Con k ss ts) (Con k ss us)
    same_primitive : {c : Place} {o : PrimOp} {a b : Term} → Change R c (Prim o a b) (Prim o a b)

  -- an unlifted part stays
  pub data ChangeAt (R : PartRelation) : Place → Sort → Term → Term → Type 0 where
    lifted_change : {c : Place} {a b : Term} → Change R c a b → ChangeAt R c Lifted a b
    unlifted_same : {c : Place} {a : Term} → ChangeAt R c Unlifted a a

  pub data ChangeTerms (R : PartRelation) : Place → Terms → Terms → Type 0 where
    no_terms : {c : Place} → ChangeTerms R c Nil Nil
    more_terms : {c : Place} {t u : Term} {ts us : Terms} → Change R c t u → ChangeTerms R c ts us → ChangeTerms R c (Cons t ts) (Cons u us)

  pub data ChangeFields (R : PartRelation) : Place → List Sort → Terms → Terms → Type 0 where
    no_fields : {c : Place} → ChangeFields R c [] Nil Nil
    more_fields : {c : Place} {s : Sort} {ss : List Sort} {t u : Term} {ts us : Terms} → ChangeAt R c s t u → ChangeFields R c ss ts us → ChangeFields R c (s ∷ ss) (Cons t ts) (Cons u us)

  pub data ChangeAlts (R : PartRelation) : Sort → Term → Term → List Head → Place → Alts → Alts → Type 0 where
    no_alternatives : {s : Sort} {t u : Term} {hs : List Head} {c : Place} → ChangeAlts R s t u hs c NoAlt NoAlt
    more_alternatives : {s : Sort} {t u : Term} {hs : List Head} {c : Place} {h : Head} {b d : Term} {alts blts : Alts} → Change R (InAlt s t u hs h c) b d → ChangeAlts R s t u hs c alts blts
        → ChangeAlts R s t u hs c (Alt h b alts) (Alt h d blts)
