-- Instances of terms: alternatives found in them, variables of fields, and one term under two substitutions.
use Rattle.std.proofs.Common.{◌≡◌, ℕ, zero, suc, ◌+◌, List, [], ◌∷◌, length, true, refl, sym, ap, ap₂, ◌∙◌, subst, arith}
use Rattle.std.proofs.Math.Path.{fun_ext}
use Rattle.fc_model.specs.Stepping.{Program, Key, Found, Missing, Bare, Fielded, found, choose, same_sorts, same_sort}
use Rattle.fc_model.specs.Terms.{Sort, Lifted, Unlifted, Head, Default, OfLit, OfCon, Term, Var, Terms, Nil, Cons, Alts, binders, count, sub, sub_terms, sub_alts, push, pushes, up, ups, IsSorted}
use Rattle.fc_model.specs.Terms.{HasSorts}
use Rattle.fc_meaning.specs.Laws.{SortedProgram}
use Rattle.fc_counted.specs.Closings.{Closing, Closes, ClosesSide}
use Rattle.fc_counted.specs.CountedRelation.{Under}
use Rattle.fc_counted.specs.CountingLaws.{ProgramUnder}
use Rattle.fc_counted.specs.Places.{Place, Outside, InBody, side_on_left, side_on_right, sorts_in}
use Rattle.fc_counted.proofs.ChangedPrograms
use Rattle.fc_counted.proofs.TermSubstitutions.{sub-sub}
use Rattle.fc_term_rows.specs.Facts.{field_variables}
use Rattle.fc_term_rows.proofs.ChangedBodies.{ChangesBodies, choose_changed}

-- ALTERNATIVES

-- what is found, below the binders that are entered with it
unfoldable pub sub_found : Closing → Found → Found
sub_found p Missing = Missing
sub_found p (Bare b) = Bare (sub (up p) b)
sub_found p (Fielded ss b) = Fielded ss (sub (ups (length ss) (up p)) b)

found-sub : (p : Closing) (h : Head) (b : Term) → found h (sub (ups (binders h) (up p)) b) ≡ sub_found p (found h b)
unfolding found binders sub_found ups
found-sub p Default b = refl
found-sub p (OfLit z) b = refl
found-sub p (OfCon c ss) b = refl

changes_by_sub : (p : Closing) → ChangesBodies (sub_alts p) (sub_found p)
unfolding sub sub_found
changes_by_sub p = record { body = λ h b. sub (ups (binders h) (up p)) b; none = refl; more = λ h b alts. refl; missing = refl; finds = found-sub p }

pub choose-sub : (p : Closing) (k : Key) (alts : Alts) → choose k (sub_alts p alts) ≡ sub_found p (choose k alts)
choose-sub p = choose_changed (sub_alts p) (sub_found p) (changes_by_sub p)

pub same_sort-refl : (s : Sort) → same_sort s s ≡ true
unfolding same_sort
same_sort-refl Lifted = refl
same_sort-refl Unlifted = refl

pub same_sorts-refl : (ss : List Sort) → same_sorts ss ss ≡ true
unfolding same_sorts same_sort
same_sorts-refl [] = refl
same_sorts-refl (Lifted ∷ ss) = same_sorts-refl ss
same_sorts-refl (Unlifted ∷ ss) = same_sorts-refl ss

-- as many fields as sorts
pub sorts_count : (g ss : List Sort) (ts : Terms) → HasSorts g ss ts → length ss ≡ count ts
unfolding count
sorts_count g [] Nil w = refl
sorts_count g (s ∷ ss) (Cons t ts) w = ap suc (sorts_count g ss ts w.1)
sorts_count g [] (Cons t ts) w = absurd w
sorts_count g (s ∷ ss) Nil w = absurd w

-- VARIABLES

-- past the terms that were pushed last
pub pushes_past : (ts : Terms) (f : Closing) (m n : ℕ) → m ≡ count ts + n → pushes ts f m ≡ f n
unfolding pushes push count
pushes_past Nil f m n e = let k : m ≡ n = omega (arith, e) in ap f k
pushes_past (Cons t ts) f m n e = let k : m ≡ count ts + suc n = omega (arith, e) in pushes_past ts (push t f) m (suc n) k

-- the variables of the terms that were pushed last
pub fields_pushed : (ss : List Sort) (ts : Terms) (f : Closing) → length ss ≡ count ts → sub_terms (pushes ts f) (field_variables ss) ≡ ts
unfolding sub count pushes push
fields_pushed [] Nil f e = refl
fields_pushed [] (Cons t ts) f e = absurd (omega arith)
fields_pushed (s ∷ ss) Nil f e = absurd (omega arith)
fields_pushed (s ∷ ss) (Cons t ts) f e =
    let n : length ss ≡ count ts = omega arith in
    let k : length ss ≡ count ts + 0 = omega arith in
    ap₂ Cons (pushes_past ts (push t f) (length ss) 0 k) (fields_pushed ss ts (push t f) n)

-- SUBSTITUTIONS AFTER PUSHES

pub pushes-after : (q : Closing) (ts : Terms) (f : Closing) → (λ n. sub q (pushes ts f n)) ≡ pushes (sub_terms q ts) (λ n. sub q (f n))
unfolding pushes sub push
pushes-after q Nil f = refl
pushes-after q (Cons t ts) f =
    let one : (λ n. sub q (push t f n)) ≡ push (sub q t) (λ n. sub q (f n)) = fun_ext (elim [ zero ↦ refl | suc n ↦ refl ]) in
    pushes-after q ts (push t f) ∙ ap (pushes (sub_terms q ts)) one

-- of a group, and of an alternative with the binder of its case
pub sub-all : (q : Closing) (ts : Terms) (b : Term) → sub q (sub (pushes ts Var) b) ≡ sub (pushes (sub_terms q ts) q) b
unfolding sub
sub-all q ts b = sub-sub q (pushes ts Var) b ∙ ap (λ g. sub g b) (pushes-after q ts Var)

pub sub-alt : (q : Closing) (ts : Terms) (e b : Term) → sub q (sub (pushes ts (push e Var)) b) ≡ sub (pushes (sub_terms q ts) (push (sub q e) q)) b
unfolding push sub
sub-alt q ts e b =
    let one : (λ n. sub q (push e Var n)) ≡ push (sub q e) q = fun_ext (elim [ zero ↦ refl | suc n ↦ refl ]) in
    sub-sub q (pushes ts (push e Var)) b ∙ ap (λ g. sub g b) (pushes-after q ts (push e Var) ∙ ap (pushes (sub_terms q ts)) one)

-- ONE TERM, TWO SUBSTITUTIONS

place_of : List Sort → Place
place_of [] = Outside
place_of (s ∷ g) = InBody s (place_of g)

sorts-place : (g : List Sort) → sorts_in (place_of g) ≡ g
unfolding sorts_in place_of
sorts-place [] = refl
sorts-place (s ∷ g) = ap (λ x. s ∷ x) (sorts-place g)

first_push : (p : Closing) → p ≡ push (p 0) (λ n. p (suc n))
unfolding push
first_push p = fun_ext (elim [ zero ↦ refl | suc n ↦ refl ])

left_sided : (P : Program) (g : List Sort) (p : Closing) → ClosesSide P (side_on_left (place_of g)) p
unfolding place_of
left_sided P [] p = tt
left_sided P (s ∷ g) p = (λ n. p (suc n), p 0, first_push p, left_sided P g (λ n. p (suc n)))

right_sided : (P : Program) (g : List Sort) (p : Closing) → ClosesSide P (side_on_right (place_of g)) p
unfolding place_of
right_sided P [] p = tt
right_sided P (s ∷ g) p = (λ n. p (suc n), p 0, first_push p, right_sided P g (λ n. p (suc n)))

module _ (P Q : Program) (sp : SortedProgram P) (sq : SortedProgram Q) where
  -- instances of one term, by substitutions that fit
  pub same_closes : (k : ℕ) → ProgramUnder P Q k → (g : List Sort) (t : Term) → IsSorted g t → (p q : Closing) → Closes (Under P Q) k g p q → Under P Q k (sub p t) (sub q t)
  same_closes k w g t st p q c =
      ChangedPrograms.same_open P Q sp sq k w (place_of g) t (subst (λ x. IsSorted x t) (sym (sorts-place g)) st) k (omega arith) p q
      (record { closes = subst (λ x. Closes (Under P Q) k x p q) (sym (sorts-place g)) c; on_left = left_sided P g p; on_right = right_sided Q g q })
