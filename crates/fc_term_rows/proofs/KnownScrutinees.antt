-- The alternative that is taken where it is known what a scrutinee comes to.
use Rattle.std.proofs.Common.{◌≡◌, ℕ, List, [], ◌∷◌, length, Some, sym, ap, ◌∙◌, subst}
use Rattle.fc_model.specs.Stepping.{Program, LitKey, ConKey, CaseOf, fire, Reaches}
use Rattle.fc_model.specs.Terms.{Sort, Lifted, Unlifted, Term, Lit, Con, Terms, Nil, Alts, binders, count, sub, sub_terms, sub_alts, push, pushes, up, ups, enters, head_sorts, IsSorted}
use Rattle.fc_model.specs.Terms.{AltsAreSorted}
use Rattle.fc_meaning.proofs.SortedSteps.{FoundSorted, choose_sorted}
use Rattle.fc_counted.specs.Closings.{Closing}
use Rattle.fc_counted.proofs.Runs.{reaches_head}
use Rattle.fc_counted.proofs.TermSubstitutions.{put_one, count-sub}
use Rattle.fc_term_rows.specs.Facts.{Fact, FactCon, FactNumber, FactNoneOf}
use Rattle.fc_term_rows.specs.FactsMet.{Meets}
use Rattle.fc_term_rows.specs.TermRows.{Chosen, chosen_constructor, chosen_constructor_default, chosen_number, chosen_default}
use Rattle.fc_term_rows.proofs.Atoms.{fire_default}
use Rattle.fc_term_rows.proofs.CasesEntered.{enter_bare, enter_fielded}

-- a head that it comes to, at which the case takes the alternative
pub record Taking (P : Program) (s : Sort) (t : Term) (alts : Alts) (ss : List Sort) (ts : Terms) (b : Term) (p : Closing) : Type 0 where
  pub steps : ℕ
  pub head : Term
  pub there : Reaches P (sub p t) steps head
  pub fires : fire (CaseOf s (sub_alts p alts)) head ≡ Some (sub (pushes (sub_terms p ts) (push head p)) b)

pub known_takes : (P : Program) (p : Closing) (t : Term) {s : Sort} {f : Fact} {alts : Alts} {ss : List Sort} {ts : Terms} {b : Term} → Chosen s f alts ss ts b → length ss ≡ count ts
    → Meets P p t f → Taking P s t alts ss ts b p
unfolding fire sub pushes ups binders
known_takes P p t (chosen_constructor {d = d} {ss = ss} {ts = ts} {alts = alts} {b = b} e) n w =
    record { steps = w.0; head = Con d ss (sub_terms p ts); there = w.1; fires = enter_fielded (Con d ss (sub_terms p ts)) ss (sub_terms p ts) p (ConKey d) alts b (n ∙ sym (count-sub p ts)) e }
known_takes P p t (chosen_constructor_default {d = d} {ss = ss} {ts = ts} {alts = alts} {b = b} e) n w =
    record { steps = w.0; head = Con d ss (sub_terms p ts); there = w.1; fires = enter_bare (Con d ss (sub_terms p ts)) ss (sub_terms p ts) p (ConKey d) alts b e }
known_takes P p t (chosen_number {s = Lifted} {z = z} {alts = alts} {b = b} e) n w = record { steps = w.0; head = Lit z; there = w.1; fires = enter_bare (Lit z) [] Nil p (LitKey z) alts b e }
known_takes P p t (chosen_number {s = Unlifted} {z = z} {alts = alts} {b = b} e) n w = record { steps = w.0; head = Lit z; there = w.1; fires = enter_bare (Lit z) [] Nil p (LitKey z) alts b e }
known_takes P p t (chosen_default {f = FactCon d ss ts} {b = b}) n w =
    record { steps = w.0; head = Con d ss (sub_terms p ts); there = w.1; fires = fire_default (sub (up p) b) (Con d ss (sub_terms p ts)) tt ∙ ap Some (put_one (Con d ss (sub_terms p ts)) p b) }
known_takes P p t (chosen_default {f = FactNumber z} {b = b}) n w = record { steps = w.0; head = Lit z; there = w.1; fires = fire_default (sub (up p) b) (Lit z) tt ∙ ap Some (put_one (Lit z) p b) }
known_takes P p t (chosen_default {f = FactNoneOf hs} {b = b}) n w =
    record { steps = w.steps; head = w.head; there = w.there; fires = fire_default (sub (up p) b) w.head (reaches_head P w.steps (sub p t) w.head w.there) ∙ ap Some (put_one w.head p b) }

pub chosen_sorted : (g : List Sort) {s : Sort} {f : Fact} {alts : Alts} {ss : List Sort} {ts : Terms} {b : Term} → Chosen s f alts ss ts b → AltsAreSorted (s ∷ g) alts → IsSorted (enters ss (s ∷ g)) b
unfolding enters head_sorts
chosen_sorted g (chosen_constructor {d = d} {alts = alts} e) w = subst (FoundSorted (Lifted ∷ g)) e (choose_sorted (Lifted ∷ g) (ConKey d) alts w)
chosen_sorted g (chosen_constructor_default {d = d} {alts = alts} e) w = subst (FoundSorted (Lifted ∷ g)) e (choose_sorted (Lifted ∷ g) (ConKey d) alts w)
chosen_sorted g (chosen_number {s = s} {z = z} {alts = alts} e) w = subst (FoundSorted (s ∷ g)) e (choose_sorted (s ∷ g) (LitKey z) alts w)
chosen_sorted g chosen_default w = w.0
