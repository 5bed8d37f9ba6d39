-- What two cases do at one closed sorted head, by what they enter there.
use Rattle.std.proofs.Common.{◌≡◌, List, [], length, Option, None, refl}
use Rattle.fc_model.specs.Stepping.{CaseOf, ConKey, Key, LamKey, LitKey, choose, enter, fire}
use Rattle.fc_model.specs.Terms.{Alts, App, Case, Con, Fail, Global, IsSorted, Lam, Let, Lifted, Lit, Nil, Prim, Rec, Sort, Term, Terms, Unlifted, Var, count}
use Rattle.fc_counted.specs.Closings.{HeadShape, constructor_shape, lambda_shape, literal_shape}
use Rattle.fc_term_rows.proofs.Instances.{sorts_count}

pub fire_alike : (F : Option Term → Option Term → Type 0) → F None None → (s : Sort) (h : Term) (alts blts : Alts) → IsSorted [] h
    → ((k : Key) (ss : List Sort) (ts : Terms) → HeadShape k h ss ts → length ss ≡ count ts → F (enter h ss ts (choose k alts)) (enter h ss ts (choose k blts)))
    → F (fire (CaseOf s alts) h) (fire (CaseOf s blts) h)
unfolding fire count
fire_alike F n Lifted (Lit z) alts blts w e = e (LitKey z) [] Nil literal_shape refl
fire_alike F n Unlifted (Lit z) alts blts w e = e (LitKey z) [] Nil literal_shape refl
fire_alike F n Lifted (Lam r b) alts blts w e = e LamKey [] Nil lambda_shape refl
fire_alike F n Unlifted (Lam r b) alts blts w e = n
fire_alike F n Lifted (Con c ss ts) alts blts w e = e (ConKey c) ss ts constructor_shape (sorts_count [] ss ts w.1)
fire_alike F n Unlifted (Con c ss ts) alts blts w e = n
fire_alike F n s (Var i) alts blts w e = n
fire_alike F n s (Global x) alts blts w e = n
fire_alike F n s Fail alts blts w e = n
fire_alike F n s (App r f a) alts blts w e = n
fire_alike F n s (Let r d b) alts blts w e = n
fire_alike F n s (Rec ts b) alts blts w e = n
fire_alike F n s (Case r d clts) alts blts w e = n
fire_alike F n s (Prim o a b) alts blts w e = n
