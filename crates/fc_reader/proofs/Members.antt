-- What may be repeated, as it is read member by member.
use Rattle.std.proofs.Common.{◌≡◌, ◌<◌, List, [], ◌∷◌, ◌++◌, length, map, refl, sym, ap, ◌∙◌, subst}
use Rattle.fc_model.specs.Words.{Tok, Close}
use Rattle.fc_model.specs.Grammar.{Part, Given, Steps, gives, ◌▸◌, row_of, row_then, Many}
use Rattle.fc_model.specs.Reading.{Got, read_steps, Reads}
use Rattle.fc_read_parts.specs.Reading.{GoesOn, Takes}
use Rattle.fc_read_parts.proofs.Stars.{Star, many_at, many_start, star_more}
use Rattle.fc_reader.proofs.Lists.{head_same, tail_same}
use Rattle.fc_reader.proofs.Steps.{by_other, got_rest, got_value, last, split}

-- ---- lists of names, which are seen as they are

map_same : {A : Type 0} (xs : List A) → map (λ x. x) xs ≡ xs
map_same [] = refl
map_same (x ∷ xs) = ap (λ ys. x ∷ ys) (map_same xs)

pub names_start : (p : Part) {ts : List Tok} {xs : List (Given p)} → xs ≡ [] → Star p (many_at p ts) ts xs ts
names_start p {ts = ts} {xs = xs} e = many_start p ts xs e

pub names_more : (p : Part) {ts us ws vs : List Tok} {old new : List (Given p)} {x : Given p} → Star p (many_at p ts) ts old us → GoesOn us × (ws ≡ us) → Takes p ws x vs
    → length vs < length ws → new ≡ old ++ x ∷ [] → Star p (many_at p ts) ts new vs
names_more p {ts = ts} {us = us} {ws = ws} {vs = vs} {old = old} {new = new} {x = x} s on d h e =
    subst (λ xs. Star p (many_at p ts) ts xs vs) (map_same new)
    (star_more p (many_at p ts) (λ y. y) ts us ws vs old new x (subst (λ xs. Star p (many_at p ts) ts xs us) (sym (map_same old)) s) on d h e)

-- ---- what was read, in its members

many_row : (p : Part) (t : Tok) → (t ≡ Close → ⊥) → row_of (Many p) t ≡ row_then (row_of p t) (λ x. Many p ▸ λ xs. gives (x ∷ xs))
many_row p Close n = absurd (n refl)
many_row p t n = refl

-- where the first token is no closing bracket, a member comes first
pub many_goes : {A : Type 0} (p : Part) (t : Tok) (ts : List Tok) (g : List (Given p) → Steps A) → (t ≡ Close → ⊥)
    → read_steps (t ∷ ts) (Many p ▸ g) ≡ read_steps (t ∷ ts) (p ▸ λ x. Many p ▸ λ xs. g (x ∷ xs))
many_goes p t ts g n = by_other t ts (Many p) p (λ x. Many p ▸ λ xs. gives (x ∷ xs)) g (many_row p t n)

-- a member was read, and then the others
pub record Member (p : Part) (ts : List Tok) (x : Given p) (xs : List (Given p)) (rest : List Tok) : Type 0 where
  pub behind : List Tok
  pub first : Reads p ts x behind
  pub others : Reads (Many p) behind xs rest

-- a closing bracket, or a member and then others
data Members (p : Part) (ts : List Tok) (xs : List (Given p)) (rest : List Tok) : Type 0 where
  closes : ts ≡ Close ∷ rest → xs ≡ [] → Members p ts xs rest
  goes : read_steps ts (p ▸ λ x. Many p ▸ λ ys. gives (x ∷ ys)) ≡ Got xs rest → Members p ts xs rest

members : (p : Part) (xs : List (Given p)) (ts rest : List Tok) → Reads (Many p) ts xs rest → Members p ts xs rest
members p xs [] rest e = absurd cc
members p xs (Close ∷ ts) rest e = closes (ap (λ (r : List Tok). Close ∷ r) (got_rest e)) (sym (got_value e))
members p xs (t ∷ ts) rest e = goes (sym (many_goes p t ts (λ ys. gives ys) (λ h. cc)) ∙ e)

pub ends_at_once : (p : Part) (ts rest : List Tok) → Reads (Many p) ts [] rest → ts ≡ Close ∷ rest
ends_at_once p ts rest e = by (members p [] ts rest e) where
  by : Members p ts [] rest → ts ≡ Close ∷ rest
  by (closes h k) = h
  by (goes h) =
      let s = split p (λ x. Many p ▸ λ ys. gives (x ∷ ys)) ts [] rest h in
      let o = last (Many p) (λ ys. s.value ∷ ys) s.behind [] rest s.others in
      let q = o.is in absurd cc

pub member : (p : Part) (x : Given p) (xs : List (Given p)) (ts rest : List Tok) → Reads (Many p) ts (x ∷ xs) rest → Member p ts x xs rest
member p x xs ts rest e = by (members p (x ∷ xs) ts rest e) where
  by : Members p ts (x ∷ xs) rest → Member p ts x xs rest
  by (closes h k) = absurd cc
  by (goes h) =
      let s = split p (λ y. Many p ▸ λ ys. gives (y ∷ ys)) ts (x ∷ xs) rest h in
      let o = last (Many p) (λ ys. s.value ∷ ys) s.behind (x ∷ xs) rest s.others in
      record {
        behind = s.behind;
        first = subst (λ y. Reads p ts y s.behind) (sym (head_same o.is)) s.first;
        others = subst (λ ys. Reads (Many p) s.behind ys rest) (sym (tail_same o.is)) o.reads;
      }
