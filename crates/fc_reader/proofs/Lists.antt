-- Lists in parts.
use Rattle.std.proofs.Common.{◌≡◌, List, [], ◌∷◌, ◌++◌, length, map, arith, refl, sym, ap, ◌∙◌}
use Rattle.std.proofs.lemmas.List.{length-append}

pub head_same : {A : Type 0} {x y : A} {xs ys : List A} → x ∷ xs ≡ y ∷ ys → x ≡ y
head_same e = cc

pub tail_same : {A : Type 0} {x y : A} {xs ys : List A} → x ∷ xs ≡ y ∷ ys → xs ≡ ys
tail_same e = cc

-- a list parted as its image is
pub record Parts {A B : Type 0} (f : A → B) (xs : List A) (front back : List B) : Type 0 where
  pub good : List A
  pub bad : List A
  pub parts : xs ≡ good ++ bad
  pub is_good : map f good ≡ front
  pub is_bad : map f bad ≡ back

pub in_parts : {A B : Type 0} (f : A → B) (xs : List A) (front back : List B) → map f xs ≡ front ++ back → Parts f xs front back
in_parts f xs [] back e = record { good = []; bad = xs; parts = refl; is_good = refl; is_bad = e }
in_parts f [] (y ∷ front) back e = absurd cc
in_parts f (x ∷ xs) (y ∷ front) back e =
    let p = in_parts f xs front back (tail_same e) in
    record { good = x ∷ p.good; bad = p.bad; parts = ap (λ zs. x ∷ zs) p.parts; is_good = cc; is_bad = p.is_bad }

-- a list before its last member
pub record Before {A : Type 0} (xs front : List A) : Type 0 where
  pub more : List A
  pub is : xs ≡ front ++ more

pub before_last : {A : Type 0} (xs : List A) (x : A) (front : List A) (y : A) (back : List A) → xs ++ x ∷ [] ≡ front ++ y ∷ back → Before xs front
before_last xs x [] y back e = record { more = xs; is = refl }
before_last [] x (z ∷ []) y back e = absurd cc
before_last [] x (z ∷ w ∷ front) y back e = absurd cc
before_last (v ∷ xs) x (z ∷ front) y back e = let p = before_last xs x front y back (tail_same e) in record { more = p.more; is = ap (λ w. w ∷ xs) (head_same e) ∙ ap (λ us. z ∷ us) p.is }

-- two cuts of one list
pub data Cuts {A : Type 0} (xs us ys vs : List A) : Type 0 where
  equal : xs ≡ ys → us ≡ vs → Cuts xs us ys vs
  shorter : (t : A) (more : List A) → ys ≡ xs ++ t ∷ more → us ≡ t ∷ (more ++ vs) → Cuts xs us ys vs
  longer : (t : A) (more : List A) → xs ≡ ys ++ t ∷ more → vs ≡ t ∷ (more ++ us) → Cuts xs us ys vs

both_same : {A : Type 0} {x y : A} {xs ys : List A} → x ≡ y → xs ≡ ys → x ∷ xs ≡ y ∷ ys
both_same e h = cc

cuts_more : {A : Type 0} {us vs : List A} (x y : A) (xs ys : List A) → x ≡ y → Cuts xs us ys vs → Cuts (x ∷ xs) us (y ∷ ys) vs
cuts_more x y xs ys e (equal h k) = equal (both_same e h) k
cuts_more x y xs ys e (shorter t more h k) = shorter t more (both_same (sym e) h) k
cuts_more x y xs ys e (longer t more h k) = longer t more (both_same e h) k

pub cuts : {A : Type 0} (xs us ys vs : List A) → xs ++ us ≡ ys ++ vs → Cuts xs us ys vs
cuts [] us [] vs e = equal refl e
cuts [] us (y ∷ ys) vs e = shorter y ys refl e
cuts (x ∷ xs) us [] vs e = longer x xs refl (sym e)
cuts (x ∷ xs) us (y ∷ ys) vs e = cuts_more x y xs ys (head_same e) (cuts xs us ys vs (tail_same e))

pub record SameCuts {A : Type 0} (xs us ys vs : List A) : Type 0 where
  pub fronts : xs ≡ ys
  pub backs : us ≡ vs

-- where as much is behind both, they are one
pub same_cuts : {A : Type 0} (xs us ys vs : List A) → xs ++ us ≡ ys ++ vs → length us ≡ length vs → SameCuts xs us ys vs
same_cuts xs us ys vs e n = by (cuts xs us ys vs e) where
  by : Cuts xs us ys vs → SameCuts xs us ys vs
  by (equal h k) = record { fronts = h; backs = k }
  by (shorter t more h k) = absurd (omega (arith, n, ap length k, length-append more vs))
  by (longer t more h k) = absurd (omega (arith, n, ap length k, length-append more us))
