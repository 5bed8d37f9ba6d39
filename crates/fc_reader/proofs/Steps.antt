-- How the rows of the grammar read tokens, whatever the rows are.
use Rattle.std.proofs.Common.{◌≡◌, suc, List, [], ◌∷◌, ◌++◌, length, Option, Some, None, Result, Ok, Err, refl, sym, ap, subst, ◌∙◌, append_assoc}
use Rattle.std.specs.Prelude.{IfErr, IsErrAnd}
use Rattle.fc_model.specs.Words.{Tok}
use Rattle.fc_model.specs.Grammar.{Part, Given, Steps, gives, ◌▸◌, and_then, row_then, row_of}
use Rattle.fc_model.specs.Reading.{Outcome, Got, Stuck, read_steps, read_part, Reads}
use Rattle.fc_read_parts.specs.Reading.{Takes}
use Rattle.fc_read_parts.proofs.Rows.{associates}

-- what was read, and then what it asks for
abbrev pub outcome_then : {A B : Type 0} → Outcome A → (A → Steps B) → Outcome B
outcome_then (Got x ts) f = read_steps ts (f x)
outcome_then (Stuck n) f = Stuck n

-- a row, if it is there
abbrev pub read_row : {A : Type 0} → Option (Steps A) → List Tok → Outcome A
read_row None ts = Stuck (suc (length ts))
read_row (Some st) ts = read_steps ts st

pub read_and_then : {A B : Type 0} (ts : List Tok) (st : Steps A) (f : A → Steps B) → read_steps ts (and_then st f) ≡ outcome_then (read_steps ts st) f
read_and_then ts (gives x) f = refl
read_and_then [] (p ▸ g) f = refl
read_and_then {A = A} {B = B} (t ∷ ts) (p ▸ g) f = by (row_of p t) (λ st. read_and_then ts (and_then st g) f) where
  by : (o : Option (Steps (Given p))) → ((st : Steps (Given p)) → read_steps ts (and_then (and_then st g) f) ≡ outcome_then (read_steps ts (and_then st g)) f)
      → elim o as (λ _. Outcome B) [ None ↦ Stuck (suc (length ts)) | Some st ↦ read_steps ts (and_then st (λ y. and_then (g y) f)) ]
      ≡ outcome_then (elim o as (λ _. Outcome A) [ None ↦ Stuck (suc (length ts)) | Some st ↦ read_steps ts (and_then st g) ]) f
  by None h = refl
  by (Some st) h = ap (read_steps ts) (sym (associates st g f)) ∙ h st

-- a part, and then what it asks for
pub read_then : {A : Type 0} (ts : List Tok) (p : Part) (f : Given p → Steps A) → read_steps ts (p ▸ f) ≡ outcome_then (read_part p ts) f
read_then ts p f = read_and_then ts (p ▸ λ x. gives x) f

-- the first token, by its row
pub read_first : {A : Type 0} (t : Tok) (ts : List Tok) (p : Part) (f : Given p → Steps A) → read_steps (t ∷ ts) (p ▸ f) ≡ read_row (row_then (row_of p t) f) ts
read_first {A = A} t ts p f = by (row_of p t) where
  by : (o : Option (Steps (Given p))) → elim o as (λ _. Outcome A) [ None ↦ Stuck (suc (length ts)) | Some st ↦ read_steps ts (and_then st f) ] ≡ read_row (row_then o f) ts
  by None = refl
  by (Some st) = refl

-- the first token, by a row that is known
pub by_row : {A : Type 0} (t : Tok) (ts : List Tok) (p : Part) (f : Given p → Steps A) {o : Option (Steps (Given p))} → row_of p t ≡ o → read_steps (t ∷ ts) (p ▸ f) ≡ read_row (row_then o f) ts
by_row t ts p f e = read_first t ts p f ∙ ap (λ o. read_row (row_then o f) ts) e

pub row_associates : {A B C : Type 0} (o : Option (Steps A)) (g : A → Steps B) (f : B → Steps C) → row_then (row_then o g) f ≡ row_then o (λ x. and_then (g x) f)
row_associates None g f = refl
row_associates (Some st) g f = ap (λ s. Some s) (associates st g f)

-- the first token, by a row that is made of another part's
pub by_other : {A : Type 0} (t : Tok) (ts : List Tok) (p q : Part) (g : Given q → Steps (Given p)) (f : Given p → Steps A) → row_of p t ≡ row_then (row_of q t) g
    → read_steps (t ∷ ts) (p ▸ f) ≡ read_steps (t ∷ ts) (q ▸ λ x. and_then (g x) f)
by_other t ts p q g f e =
    by_row t ts p f e ∙ ap (λ o. read_row o ts) (row_associates (row_of q t) g f) ∙ sym (read_first t ts q (λ x. and_then (g x) f))

-- ---- what was read, in its parts

pub got_value : {A : Type 0} {x y : A} {us vs : List Tok} → Got x us ≡ Got y vs → x ≡ y
got_value e = cc

pub got_rest : {A : Type 0} {x y : A} {us vs : List Tok} → Got x us ≡ Got y vs → us ≡ vs
got_rest e = cc

-- a part was read, and then what it asks for
pub record Split {A : Type 0} (p : Part) (f : Given p → Steps A) (ts : List Tok) (x : A) (rest : List Tok) : Type 0 where
  pub value : Given p
  pub behind : List Tok
  pub first : Reads p ts value behind
  pub others : read_steps behind (f value) ≡ Got x rest

pub split : {A : Type 0} (p : Part) (f : Given p → Steps A) (ts : List Tok) (x : A) (rest : List Tok) → read_steps ts (p ▸ f) ≡ Got x rest → Split p f ts x rest
split {A = A} p f ts x rest e = by (read_part p ts) refl (sym (read_then ts p f) ∙ e) where
  by : (o : Outcome (Given p)) → read_part p ts ≡ o → outcome_then o f ≡ Got x rest → Split p f ts x rest
  by (Got y us) h k = record { value = y; behind = us; first = h; others = k }
  by (Stuck n) h k = absurd cc

-- a part was read, of which something is made
pub record Last {A : Type 0} (p : Part) (g : Given p → A) (ts : List Tok) (x : A) (rest : List Tok) : Type 0 where
  pub value : Given p
  pub reads : Reads p ts value rest
  pub is : x ≡ g value

pub last : {A : Type 0} (p : Part) (g : Given p → A) (ts : List Tok) (x : A) (rest : List Tok) → read_steps ts (p ▸ λ y. gives (g y)) ≡ Got x rest → Last p g ts x rest
last p g ts x rest e = by (split p (λ y. gives (g y)) ts x rest e) where
  by : Split p (λ y. gives (g y)) ts x rest → Last p g ts x rest
  by s = record { value = s.value; reads = s.first ∙ ap (λ us. Got s.value us) (got_rest s.others); is = sym (got_value s.others) }

-- what was read stands in front of what follows it, whatever that is
pub record Cut {A : Type 0} (st : Steps A) (ts : List Tok) (x : A) (rest : List Tok) : Type 0 where
  pub front : List Tok
  pub parts : ts ≡ front ++ rest
  pub reads : (r : List Tok) → read_steps (front ++ r) st ≡ Got x r

-- what a reader took was read
pub taken : (p : Part) (ts : List Tok) {rest : List Tok} {x : Given p} → Takes p ts x rest → Reads p ts x rest
taken p ts h = h p (λ x. gives x)

-- tokens are read in one way
pub one_reading : {A : Type 0} (st : Steps A) (ts : List Tok) {x y : A} {us vs : List Tok} → read_steps ts st ≡ Got x us → read_steps ts st ≡ Got y vs → (x ≡ y) × (us ≡ vs)
one_reading st ts e h = (got_value (sym e ∙ h), got_rest (sym e ∙ h))

pub on_row : {A B : Type 0} (f : A → Steps B) (o : Option (Steps A)) (ts : List Tok) (x : B) (rest : List Tok) → read_row (row_then o f) ts ≡ Got x rest → (st : Steps A) × (o ≡ Some st) × (read_steps ts (and_then st f) ≡ Got x rest)
on_row f None ts x rest e = absurd cc
on_row f (Some st) ts x rest e = (st, refl, e)

pub cut : {A : Type 0} (ts : List Tok) (st : Steps A) (x : A) (rest : List Tok) → read_steps ts st ≡ Got x rest → Cut st ts x rest
cut ts (gives y) x rest e = record { front = []; parts = got_rest e; reads = λ r. ap (λ z. Got z r) (got_value e) }
cut [] (p ▸ f) x rest e = absurd cc
cut (t ∷ ts) (p ▸ f) x rest e =
    let h = on_row f (row_of p t) ts x rest (sym (read_first t ts p f) ∙ e) in
    let c = cut ts (and_then h.0 f) x rest h.2 in
    record {
      front = t ∷ c.front;
      parts = ap (λ (us : List Tok). t ∷ us) c.parts;
      reads = λ r. read_first t (c.front ++ r) p f ∙ ap (λ o. read_row (row_then o f) (c.front ++ r)) h.1 ∙ c.reads r;
    }

-- a text that has more behind it
pub longer : {A : Type 0} (ts : List Tok) (st : Steps A) (x : A) (rest more : List Tok) → read_steps ts st ≡ Got x rest → read_steps (ts ++ more) st ≡ Got x (rest ++ more)
longer ts st x rest more e = let c = cut ts st x rest e in ap (λ (us : List Tok). read_steps (us ++ more) st) c.parts ∙ ap (λ us. read_steps us st) (append_assoc c.front rest more) ∙ c.reads (rest ++ more)

-- what a reader that failed on its way answers
pub err_is : {X E : Type 0} (P : E → Type 0) (r : Result X E) (h : E) → IsErrAnd r (λ e. e ≡ h) → P h → IfErr r P
err_is P (Ok x) h k p = absurd k
err_is P (Err e) h k p = subst P (sym k) p
