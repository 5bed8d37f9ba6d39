-- A search: it always answers, what it finds applies where it is found, and where it finds nothing in the whole, no row makes what may stand there.
use Rattle.std.proofs.Common.{◌≡◌, ◌+◌, ◌-◌, ◌<◌, ℕ, zero, suc, false, List, [], ◌∷◌, ◌++◌, length, Option, Some, None, refl, sym, ap, ◌∙◌, arith, subst}
use Rattle.std.proofs.lemmas.Option.{same_Some}
use Rattle.fc_log.specs.declared.log.Row.{Row}
use Rattle.fc_model.specs.Calling.{first_of, from_some}
use Rattle.fc_model.specs.Kinding.{Modules}
use Rattle.fc_model.specs.Nameless.{NExpr}
use Rattle.fc_rows.specs.Surroundings.{Surroundings}
use Rattle.fc_parts.specs.Found.{Found, found}
use Rattle.fc_row_at_place.specs.Rows.{built_row}
use Rattle.fc_search_laws.specs.Laws.{AppliesAt, NothingElseApplies, SearchAnswers, WhatIsFoundApplies}
use Rattle.fc_search_laws.specs.Searching.{Answered, Applies, Quiet, Beyond, begun, first_part, fits, found_within, here, in_order, in_part, into, or_quiet}
use Rattle.fc_search_laws.specs.Searching.{part_count, part_place, searched, searched_below, where_begun}
use Rattle.fc_search_laws.proofs.Places.{IsShort, one_number, two_numbers, found_behind, in_a_part, nothing, part_place_short}
use Rattle.fc_search_laws.proofs.Rows.{IsLoud, IsRight, Only, first_none, here_loud, here_none, here_right, only_first, only_none}

-- WHAT IS ANSWERED

abbrev pub Search : Type 0
Search = List ℕ → Surroundings → NExpr → Option Answered

only_one : (P : Answered → Type 0) (a : Answered) → P a → Only P (Some a)
only_one P a w b h = subst P (same_Some _ _ h) w

-- rows and parts, in their order
ordered_only : (P : Answered → Type 0) → P Quiet → (from : List ℕ) (rows parts : Option Answered) → Only P rows → Only P parts → Only P (in_order from rows parts)
ordered_only P quiet [] rows parts first second = only_first P (first_of rows parts) (Some Quiet) (only_first P rows parts first second) (only_one P Quiet quiet)
ordered_only P quiet (i ∷ p) rows parts first second = only_first P (first_of parts rows) (Some Quiet) (only_first P parts rows second first) (only_one P Quiet quiet)

-- what is passed over, and what is searched
begun_only : (P : Answered → Type 0) (o : Option (List ℕ)) (x : Option Answered) (f : List ℕ → Option Answered) → Only P x → ((rest : List ℕ) → Only P (f rest))
    → Only P (where_begun o x f)
begun_only P None x f over within = over
begun_only P (Some rest) x f over within = within rest

-- the first of the parts from a number on, where what is found in each of them obeys this
module _ (P : Answered → Type 0) (one two : Search) (s : Surroundings) (e : NExpr) (each : (k : ℕ) (from : List ℕ) → Only P (in_part one two k from s e)) where
  parts_only : (n k : ℕ) (from : List ℕ) → Only P (first_part one two n k from s e)
  parts_only zero k from = only_none P
  parts_only (suc n) k from =
      begun_only P (begun (part_place k e) from) (first_part one two n (suc k) from s e) (λ rest. first_of (in_part one two k rest s e) (first_part one two n (suc k) [] s e))
      (parts_only n (suc k) from) (λ rest. only_first P (in_part one two k rest s e) (first_part one two n (suc k) [] s e) (each k rest) (parts_only n (suc k) []))

-- THAT SOMETHING IS

abbrev IsAnswered : Option Answered → Type 0
IsAnswered o = (a : Answered) × (o ≡ Some a)

quiet_answered : (o : Option Answered) → IsAnswered (or_quiet o)
quiet_answered (Some a) = (a, refl)
quiet_answered None = (Quiet, refl)

ordered_answered : (from : List ℕ) (rows parts : Option Answered) → IsAnswered (in_order from rows parts)
ordered_answered [] rows parts = quiet_answered (first_of rows parts)
ordered_answered (i ∷ p) rows parts = quiet_answered (first_of parts rows)

search_answered : (ms : Modules) (spare n : ℕ) (from : List ℕ) (s : Surroundings) (e : NExpr) → IsAnswered (searched ms spare n from s e)
search_answered ms spare zero from s e = (Beyond, refl)
search_answered ms spare (suc n) from s e =
    ordered_answered from (here ms (suc n) spare s e) (first_part (searched ms spare n) (searched_below ms spare n) (part_count e) 0 from s e)

below_answered : (ms : Modules) (spare n : ℕ) (from : List ℕ) (s : Surroundings) (e : NExpr) → IsAnswered (searched_below ms spare n from s e)
below_answered ms spare zero from s e = (Beyond, refl)
below_answered ms spare (suc n) from s e = search_answered ms spare n from s e

pub always_answers : SearchAnswers
always_answers ms spare n from s e = search_answered ms spare n from s e

-- THAT WHAT IS FOUND APPLIES

module _ (ms : Modules) (spare : ℕ) where
  -- what applies in the part at a place applies in the whole, at the place behind that
  applies_behind : (m n : ℕ) (s t : Surroundings) (e f : NExpr) (p q : List ℕ) (r : Row) (i : ℕ) (x : NExpr) → found s p e ≡ Some (t, f) → m - length q ≡ n - length (p ++ q)
      → AppliesAt ms spare m t f r i q x → AppliesAt ms spare n s e r i (p ++ q) x
  applies_behind m n s t e f p q r i x there as_deep w = record {
    around = w.around;
    part = w.part;
    there = found_behind s p q e t f there ∙ w.there;
    makes = w.makes;
    fitted = ap (λ k. fits k spare w.part x) (sym as_deep) ∙ w.fitted;
  }

  -- what is found in the part at a place, as of the whole
  placed_right : (m n : ℕ) (s t : Surroundings) (e f : NExpr) (p : List ℕ) (o : Option Answered) → found s p e ≡ Some (t, f) → ((q : List ℕ) → m - length q ≡ n - length (p ++ q))
      → Only (IsRight ms m spare t f) o → Only (IsRight ms n spare s e) (found_within p o)
  placed_right m n s t e f p None there as_deep right = only_none (IsRight ms n spare s e)
  placed_right m n s t e f p (Some (Applies r i q x)) there as_deep right =
      only_one (IsRight ms n spare s e) (Applies r i (p ++ q) x) (applies_behind m n s t e f p q r i x there (as_deep q) (right (Applies r i q x) refl))
  placed_right m n s t e f p (Some Quiet) there as_deep right = only_none (IsRight ms n spare s e)
  placed_right m n s t e f p (Some Beyond) there as_deep right = only_one (IsRight ms n spare s e) Beyond tt

  -- parts that are searched one number deep, or two, where what is found there applies
  module _ (one two : Search) (n : ℕ)
      (one_right : (from : List ℕ) (s : Surroundings) (e : NExpr) → Only (IsRight ms n spare s e) (one from s e))
      (two_right : (from : List ℕ) (s : Surroundings) (e : NExpr) → Only (IsRight ms (n - 1) spare s e) (two from s e)) where
    asked_right : {p : List ℕ} → IsShort p → (from : List ℕ) (s t : Surroundings) (e f : NExpr) → found s p e ≡ Some (t, f)
        → Only (IsRight ms (suc n) spare s e) (found_within p (into one two from p t f))
    asked_right (one_number i) from s t e f there = placed_right n (suc n) s t e f (i ∷ []) (one from t f) there (λ q. omega arith) (one_right from t f)
    asked_right (two_numbers i j) from s t e f there = placed_right (n - 1) (suc n) s t e f (i ∷ j ∷ []) (two from t f) there (λ q. omega arith) (two_right from t f)

    part_right : (s : Surroundings) (e : NExpr) (k : ℕ) (from : List ℕ) → Only (IsRight ms (suc n) spare s e) (in_part one two k from s e)
    part_right s e k from = goes (found s (part_place k e) e) refl
      where
        goes : (o : Option Found) → found s (part_place k e) e ≡ o
            → Only (IsRight ms (suc n) spare s e) (found_within (part_place k e) (from_some (λ t. into one two from (part_place k e) t.0 t.1) o))
        goes None there = only_none (IsRight ms (suc n) spare s e)
        goes (Some g) there = asked_right (part_place_short k e) from s g.0 e g.1 there

  mutual
    search_right : (n : ℕ) (from : List ℕ) (s : Surroundings) (e : NExpr) → Only (IsRight ms n spare s e) (searched ms spare n from s e)
    search_right zero from s e = only_one (IsRight ms 0 spare s e) Beyond tt
    search_right (suc n) from s e =
        ordered_only (IsRight ms (suc n) spare s e) tt from (here ms (suc n) spare s e) (first_part (searched ms spare n) (searched_below ms spare n) (part_count e) 0 from s e)
        (here_right ms (suc n) spare s e)
        (parts_only (IsRight ms (suc n) spare s e) (searched ms spare n) (searched_below ms spare n) s e
        (part_right (searched ms spare n) (searched_below ms spare n) n (search_right n) (below_right n) s e) (part_count e) 0 from)

    below_right : (n : ℕ) (from : List ℕ) (s : Surroundings) (e : NExpr) → Only (IsRight ms (n - 1) spare s e) (searched_below ms spare n from s e)
    below_right zero from s e = only_one (IsRight ms (0 - 1) spare s e) Beyond tt
    below_right (suc n) from s e =
        let same : n ≡ suc n - 1 = omega arith in subst (λ m. Only (IsRight ms m spare s e) (searched ms spare n from s e)) same (search_right n from s e)

pub what_is_found : WhatIsFoundApplies
what_is_found ms spare n from s e r i q x h = search_right ms spare n from s e (Applies r i q x) h

-- THAT NOTHING ELSE DOES

-- where a search found nothing, neither did what it looked through
quiet_none : (o : Option Answered) → or_quiet o ≡ Some Quiet → Only IsLoud o → o ≡ None
quiet_none (Some a) h loud = absurd (subst IsLoud (same_Some _ _ h) (loud a refl))
quiet_none None h loud = refl

pub loud_within : (p : List ℕ) (o : Option Answered) → Only IsLoud (found_within p o)
loud_within p None = only_none IsLoud
loud_within p (Some (Applies r i q x)) = only_one IsLoud (Applies r i (p ++ q) x) tt
loud_within p (Some Quiet) = only_none IsLoud
loud_within p (Some Beyond) = only_one IsLoud Beyond tt

-- an answer of which nothing is told of the whole
was_quiet : (p : List ℕ) (o : Option Answered) → IsAnswered o → found_within p o ≡ None → o ≡ Some Quiet
was_quiet p None w none = nothing w.1
was_quiet p (Some (Applies r i q x)) w none = cc
was_quiet p (Some Quiet) w none = refl
was_quiet p (Some Beyond) w none = cc

module _ (one two : Search) (s : Surroundings) (e : NExpr) where
  pub parts_loud : (n k : ℕ) (from : List ℕ) → Only IsLoud (first_part one two n k from s e)
  parts_loud = parts_only IsLoud one two s e (λ k from. loud_within (part_place k e) _)

  -- where nothing is found in the parts from number m on, nothing is in any of them
  part_none : (n m j k : ℕ) → first_part one two n m [] s e ≡ None → j < n → j + m ≡ k → in_part one two k [] s e ≡ None
  part_none zero m j k h below is = absurd (omega arith)
  part_none (suc n) m zero k h below is =
      let same : m ≡ k = omega arith in
      subst (λ z. in_part one two z [] s e ≡ None) same (first_none (in_part one two m [] s e) (first_part one two n (suc m) [] s e) h).0
  part_none (suc n) m (suc j) k h below is =
      part_none n (suc m) j k (first_none (in_part one two m [] s e) (first_part one two n (suc m) [] s e) h).1 (omega arith) (omega arith)

  -- the same by the place of the part, and by what is found there
  placed_none : (k : ℕ) (p : List ℕ) (t : Surroundings) (f : NExpr) → part_place k e ≡ p → found s p e ≡ Some (t, f) → in_part one two k [] s e ≡ None
      → found_within p (into one two [] p t f) ≡ None
  placed_none k p t f place_is there none =
      sym (ap (λ o. found_within p (from_some (λ z. into one two [] p z.0 z.1) o)) there)
      ∙ (sym (ap (λ l. found_within l (from_some (λ z. into one two [] l z.0 z.1) (found s l e))) place_is) ∙ none)

module _ (ms : Modules) (spare : ℕ) where
  -- what a row makes of any part of an expression that may be so deep may not stand there
  abbrev IsSilent : ℕ → Surroundings → NExpr → Type 0
  IsSilent n s e = (q : List ℕ) (t : Surroundings) (f : NExpr) (r : Row) (i : ℕ) (x : NExpr) → found s q e ≡ Some (t, f)
      → built_row ms r i t f ≡ Some x → fits (n - length q) spare f x ≡ false

  -- parts that are searched one number deep, or two, where that is so of those in which nothing is found
  module _ (one two : Search) (n : ℕ)
      (one_answered : (from : List ℕ) (s : Surroundings) (e : NExpr) → IsAnswered (one from s e))
      (two_answered : (from : List ℕ) (s : Surroundings) (e : NExpr) → IsAnswered (two from s e))
      (one_silent : (s : Surroundings) (e : NExpr) → one [] s e ≡ Some Quiet → IsSilent n s e)
      (two_silent : (s : Surroundings) (e : NExpr) → two [] s e ≡ Some Quiet → IsSilent (n - 1) s e) where
    asked_silent : {p : List ℕ} → IsShort p → (t : Surroundings) (f : NExpr) → found_within p (into one two [] p t f) ≡ None
        → (q : List ℕ) (u : Surroundings) (g : NExpr) (r : Row) (i : ℕ) (x : NExpr) → found t q f ≡ Some (u, g) → built_row ms r i u g ≡ Some x
        → fits (suc n - length (p ++ q)) spare g x ≡ false
    asked_silent (one_number j) t f none q u g r i x there makes =
        let as_deep : suc n - length (j ∷ q) ≡ n - length q = omega arith in
        ap (λ m. fits m spare g x) as_deep ∙ one_silent t f (was_quiet (j ∷ []) (one [] t f) (one_answered [] t f) none) q u g r i x there makes
    asked_silent (two_numbers j k) t f none q u g r i x there makes =
        let as_deep : suc n - length (j ∷ k ∷ q) ≡ n - 1 - length q = omega arith in
        ap (λ m. fits m spare g x) as_deep ∙ two_silent t f (was_quiet (j ∷ k ∷ []) (two [] t f) (two_answered [] t f) none) q u g r i x there makes

    whole_silent : (s : Surroundings) (e : NExpr) → here ms (suc n) spare s e ≡ None → first_part one two (part_count e) 0 [] s e ≡ None → IsSilent (suc n) s e
    whole_silent s e rows parts [] t f r i x there makes =
        let as_deep : suc n - 0 ≡ suc n = omega arith in
        ap (λ m. fits m spare f x) as_deep
        ∙ subst (λ z. built_row ms r i z.0 z.1 ≡ Some x → fits (suc n) spare z.1 x ≡ false) (same_Some _ _ there) (here_none ms (suc n) spare s e rows r i x) makes
    whole_silent s e rows parts (j ∷ q) t f r i x there makes =
        let w = in_a_part s j q e (t, f) there in
        let none = part_none one two s e (part_count e) 0 w.number w.number parts w.below (omega arith) in
        let within = placed_none one two s e w.number w.place w.around w.part w.place_is w.there none in
        ap (λ l. fits (suc n - length l) spare f x) w.is
        ∙ asked_silent (subst IsShort w.place_is (part_place_short w.number e)) w.around w.part within w.behind t f r i x w.inside makes

  mutual
    search_silent : (n : ℕ) (s : Surroundings) (e : NExpr) → searched ms spare n [] s e ≡ Some Quiet → IsSilent n s e
    search_silent zero s e h = absurd cc
    search_silent (suc n) s e h =
        let one = searched ms spare n in
        let two = searched_below ms spare n in
        let rows = here ms (suc n) spare s e in
        let parts = first_part one two (part_count e) 0 [] s e in
        let loud = only_first IsLoud rows parts (here_loud ms (suc n) spare s e) (parts_loud one two s e (part_count e) 0 []) in
        let none = first_none rows parts (quiet_none (first_of rows parts) h loud) in
        whole_silent one two n (search_answered ms spare n) (below_answered ms spare n) (search_silent n) (below_silent n) s e none.0 none.1

    below_silent : (n : ℕ) (s : Surroundings) (e : NExpr) → searched_below ms spare n [] s e ≡ Some Quiet → IsSilent (n - 1) s e
    below_silent zero s e h = absurd cc
    below_silent (suc n) s e h = let same : n ≡ suc n - 1 = omega arith in subst (λ m. IsSilent m s e) same (search_silent n s e h)

pub nothing_else : NothingElseApplies
nothing_else ms spare n s e h = search_silent ms spare n s e h
