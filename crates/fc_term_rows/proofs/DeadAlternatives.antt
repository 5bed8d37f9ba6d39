-- An alternative that is never taken may go.
use Rattle.std.proofs.Common.{◌≡◌, ℕ, List, [], ◌∷◌, false, cond, refl, sym, ap, ◌∙◌, subst}
use Rattle.fc_model.specs.Stepping.{Program, Key, Found, matches, found, own, default_of, choose, enter, CaseOf, plug, fire, Reaches}
use Rattle.fc_model.specs.Terms.{Sort, Lifted, Unlifted, Head, Default, OfLit, OfCon, Term, Lit, Lam, Case, Con, Terms, Nil, Alts, sub, sub_alts}
use Rattle.fc_meaning.proofs.Determined.{one_head}
use Rattle.fc_counted.specs.Closings.{Closing, HeadShape, literal_shape, constructor_shape, lambda_shape}
use Rattle.fc_counted.specs.Places.{AllMiss}
use Rattle.fc_term_rows.specs.FactsMet.{NoneTakes}
use Rattle.fc_term_rows.specs.Heads.{SameHeads}
use Rattle.fc_term_rows.specs.TermRows.{Without, without_first, without_later, IsAmong, among_first, among_later, IsNoDefault}
use Rattle.fc_term_rows.proofs.SameHeads as same

among_misses : (k : Key) (h : Head) (hs : List Head) → IsAmong h hs → AllMiss k hs → matches k h ≡ false
among_misses k h [] a w = elim a [ ]
among_misses k h (_ ∷ hs) (among_first alike) w = alike k ∙ w.0
among_misses k h (_ ∷ hs) (among_later a) w = among_misses k h hs a w.1

pub without_sub : (p : Closing) {h : Head} {alts blts : Alts} → Without h alts blts → Without h (sub_alts p alts) (sub_alts p blts)
unfolding sub
without_sub p without_first = without_first
without_sub p (without_later w) = without_later (without_sub p w)

default_without : {h : Head} {alts blts : Alts} → IsNoDefault h → Without h alts blts → default_of alts ≡ default_of blts
unfolding default_of
default_without {h = OfLit z} n without_first = refl
default_without {h = OfCon c ss} n without_first = refl
default_without {h = Default} n without_first = absurd n
default_without n (without_later {k = Default} w) = refl
default_without n (without_later {k = OfLit z} w) = default_without n w
default_without n (without_later {k = OfCon c ss} w) = default_without n w

own_without : (k : Key) (d : Found) {h : Head} {alts blts : Alts} → matches k h ≡ false → Without h alts blts → own k alts d ≡ own k blts d
unfolding own
own_without k d e (without_first {h = h} {b = b} {alts = alts}) = ap (λ c. cond c (found h b) (own k alts d)) e
own_without k d e (without_later {k = l} {b = b} w) = ap (cond (matches k l) (found l b)) (own_without k d e w)

choose_without : (k : Key) {h : Head} {alts blts : Alts} → IsNoDefault h → matches k h ≡ false → Without h alts blts → choose k alts ≡ choose k blts
unfolding choose
choose_without k {alts = alts} {blts = blts} n e w = ap (own k alts) (default_without n w) ∙ own_without k (default_of blts) e w

fire_by_choice : (s : Sort) (k : Key) (h : Term) (ss : List Sort) (ts : Terms) (alts blts : Alts) → HeadShape k h ss ts → choose k alts ≡ choose k blts
    → fire (CaseOf s alts) h ≡ fire (CaseOf s blts) h
unfolding fire
fire_by_choice Lifted _ _ _ _ alts blts (literal_shape {z = z}) e = ap (enter (Lit z) [] Nil) e
fire_by_choice Unlifted _ _ _ _ alts blts (literal_shape {z = z}) e = ap (enter (Lit z) [] Nil) e
fire_by_choice Lifted _ _ _ _ alts blts (constructor_shape {c = c} {ss = ss} {ts = ts}) e = ap (enter (Con c ss ts) ss ts) e
fire_by_choice Unlifted _ _ _ _ alts blts constructor_shape e = refl
fire_by_choice Lifted _ _ _ _ alts blts (lambda_shape {s = r} {b = b}) e = ap (enter (Lam r b) [] Nil) e
fire_by_choice Unlifted _ _ _ _ alts blts lambda_shape e = refl

dead_fires : (P : Program) (s : Sort) (t : Term) (h : Head) (hs : List Head) (alts blts : Alts) → NoneTakes P t hs → IsAmong h hs → IsNoDefault h → Without h alts blts
    → (k : ℕ) (x : Term) → Reaches P t k x → fire (CaseOf s alts) x ≡ fire (CaseOf s blts) x
dead_fires P s t h hs alts blts w a n o k x r =
    let one = one_head P w.steps k t w.head x w.there r in
    subst (λ y. fire (CaseOf s alts) y ≡ fire (CaseOf s blts) y) one.1
    (fire_by_choice s w.key w.head w.ss w.ts alts blts w.shape (choose_without w.key n (among_misses w.key h hs a w.misses) o))

pub same_dead : (P : Program) (s : Sort) (t : Term) (h : Head) (hs : List Head) (alts blts : Alts) → NoneTakes P t hs → IsAmong h hs → IsNoDefault h → Without h alts blts
    → SameHeads P (Case s t alts) (Case s t blts)
unfolding plug
same_dead P s t h hs alts blts w a n o = (
  same.follows_same_fires P (CaseOf s alts) (CaseOf s blts) t (dead_fires P s t h hs alts blts w a n o),
  same.follows_same_fires P (CaseOf s blts) (CaseOf s alts) t (λ k x r. sym (dead_fires P s t h hs alts blts w a n o k x r)),
)
