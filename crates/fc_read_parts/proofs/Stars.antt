-- What may be repeated, as it is read member by member.
use Rattle.std.proofs.Common.{◌≡◌, ◌≤◌, ◌<◌, arith, List, [], ◌∷◌, ◌++◌, length, map, refl, sym, ap, ◌∙◌, subst, append_assoc}
use Rattle.std.proofs.lemmas.List.{append-nil, map-append}
use Rattle.fc_model.specs.Words.{Tok, Close}
use Rattle.fc_model.specs.Grammar.{Part, Given, Steps, ◌▸◌, row_of, Many, Several}
use Rattle.fc_model.specs.Reading.{Outcome, read_steps}
use Rattle.fc_read_parts.specs.declared.parts.Stop.{Stop}
use Rattle.fc_read_parts.specs.declared.parts.Stop.TheVariants as stop
use Rattle.fc_read_parts.specs.Reading.{GoesOn, StopsAt, Takes}
use Rattle.fc_read_parts.proofs.Rows.{goes_by}

-- from a part of which there are to be several on, or from none
abbrev pub Start : Part → Type 0
Start p = (q : Part) → (List (Given p) → Steps (Given q)) → Outcome (Given q)

abbrev pub many_at : (p : Part) → List Tok → Start p
many_at p ts = λ q f. read_steps ts (Many p ▸ f)

abbrev pub several_at : (p : Part) → List Tok → Start p
several_at p ts = λ q f. read_steps ts (Several p ▸ f)

-- What a loop keeps that reads members: from its start on, whatever is read of the rest goes on with those that were read; and it has
-- taken nothing but tokens ahead.
pub record Star (p : Part) (start : Start p) (ts : List Tok) (xs : List (Given p)) (us : List Tok) : Type 0 where
  pub so : (q : Part) (f : List (Given p) → Steps (Given q)) → start q f ≡ read_steps us (Many p ▸ λ more. f (xs ++ more))
  pub within : length us ≤ length ts

pub many_start : (p : Part) (ts : List Tok) (xs : List (Given p)) → xs ≡ [] → Star p (many_at p ts) ts xs ts
many_start p ts xs e = record { so = λ q f. ap (λ g. read_steps ts (Many p ▸ g)) (λ i more. f (ap (λ ys. ys ++ more) (sym e) i)); within = omega arith }

-- several begin with one
pub several_is : (p q : Part) (ts : List Tok) (f : List (Given p) → Steps (Given q)) → read_steps ts (Several p ▸ f) ≡ read_steps ts (p ▸ λ x. Many p ▸ λ xs. f (x ∷ xs))
several_is p q [] f = refl
several_is p q (t ∷ ts) f = goes_by p q f ts (row_of p t)

pub several_start : {X : Type 0} (p : Part) (v : X → Given p) (ts us : List Tok) (old new : List X) (x : X) → old ≡ [] → Takes p ts (v x) us → length us < length ts → new ≡ old ++ x ∷ []
    → Star p (several_at p ts) ts (map v new) us
several_start p v ts us old new x e d h k = record {
  so = λ q f. several_is p q ts f ∙ d q (λ y. Many p ▸ λ xs. f (y ∷ xs)) ∙ ap (λ zs. read_steps us (Many p ▸ λ more. f (map v zs ++ more))) (sym (k ∙ ap (λ ys. ys ++ x ∷ []) e));
  within = omega (arith, h);
}

pub several_stops : (p : Part) (ts : List Tok) (h : Stop) → StopsAt p ts h → StopsAt (Several p) ts h
several_stops p ts stop.Memory d = tt
several_stops p ts (stop.Form n) d = λ q f. several_is p q ts f ∙ d q (λ y. Many p ▸ λ xs. f (y ∷ xs))

pub star_more : {X : Type 0} (p : Part) (start : Start p) (v : X → Given p) (ts us ws vs : List Tok) (old new : List X) (x : X) → Star p start ts (map v old) us
    → GoesOn us × (ws ≡ us) → Takes p ws (v x) vs → length vs < length ws → new ≡ old ++ x ∷ [] → Star p start ts (map v new) vs
star_more p start v ts us ws vs old new x s on d h e =
    let xs = map v old in
    let e' : map v new ≡ xs ++ v x ∷ [] = ap (map v) e ∙ map-append v old (x ∷ []) in
    record {
      so = λ q f. s.so q f ∙ on.0 p q (λ more. f (xs ++ more)) ∙ subst (λ r. Takes p r (v x) vs) on.1 d q (λ y. Many p ▸ λ more. f (xs ++ (y ∷ more)))
          ∙ ap (λ g. read_steps vs (Many p ▸ g)) (λ i more. f ((sym (append_assoc xs (v x ∷ []) more) ∙ ap (λ zs. zs ++ more) (sym e')) i));
      within = omega (arith, s.within, h, ap length on.1);
    }

-- how the loop ends: behind the closing bracket, or where a member stops
pub many_end : (p : Part) (ts us vs : List Tok) (xs : List (Given p)) → Star p (many_at p ts) ts xs us → us ≡ Close ∷ vs → Takes (Many p) ts xs vs
many_end p ts us vs xs s e = λ q f. s.so q f ∙ ap (λ r. read_steps r (Many p ▸ λ more. f (xs ++ more))) e ∙ ap (λ r. read_steps vs (f r)) (append-nil xs)

pub several_end : (p : Part) (ts us vs : List Tok) (xs : List (Given p)) → Star p (several_at p ts) ts xs us → us ≡ Close ∷ vs → Takes (Several p) ts xs vs
several_end p ts us vs xs s e = λ q f. s.so q f ∙ ap (λ r. read_steps r (Many p ▸ λ more. f (xs ++ more))) e ∙ ap (λ r. read_steps vs (f r)) (append-nil xs)

pub star_shorter : (p : Part) (start : Start p) (ts us vs : List Tok) (xs : List (Given p)) → Star p start ts xs us → us ≡ Close ∷ vs → length vs < length ts
star_shorter p start ts us vs xs s e = omega (arith, s.within, ap length e)

pub star_stops : (p : Part) (ts us ws : List Tok) (xs : List (Given p)) (h : Stop) → Star p (many_at p ts) ts xs us → GoesOn us × (ws ≡ us) → StopsAt p ws h → StopsAt (Many p) ts h
star_stops p ts us ws xs stop.Memory s on d = tt
star_stops p ts us ws xs (stop.Form n) s on d = λ q f. s.so q f ∙ on.0 p q (λ more. f (xs ++ more)) ∙ subst (λ r. StopsAt p r (stop.Form n)) on.1 d q (λ y. Many p ▸ λ more. f (xs ++ (y ∷ more)))

pub more_stops : (p : Part) (ts us ws : List Tok) (xs : List (Given p)) (h : Stop) → Star p (several_at p ts) ts xs us → GoesOn us × (ws ≡ us) → StopsAt p ws h → StopsAt (Several p) ts h
more_stops p ts us ws xs stop.Memory s on d = tt
more_stops p ts us ws xs (stop.Form n) s on d = λ q f. s.so q f ∙ on.0 p q (λ more. f (xs ++ more)) ∙ subst (λ r. StopsAt p r (stop.Form n)) on.1 d q (λ y. Many p ▸ λ more. f (xs ++ (y ∷ more)))

pub ruleset star_rules = (several_stops, many_end, several_end, star_shorter, star_stops, more_stops)
