-- The first token that cannot go on: up to it the tokens begin a text, and with it they do not.
use Rattle.std.proofs.Common.{◌≡◌, ℕ, suc, List, [], ◌∷◌, ◌++◌, length, Option, Some, None, refl, sym, ap, ◌∙◌}
use Rattle.fc_model.specs.Words.{Tok}
use Rattle.fc_model.specs.Grammar.{Given, Steps, gives, ◌▸◌, and_then, row_then, row_of}
use Rattle.fc_model.specs.Reading.{Outcome, Got, Stuck, read_steps}
use Rattle.fc_reader.proofs.Steps.{read_row, read_first, cut}
use Rattle.fc_reader.proofs.Fillings.{steps_filled}

-- some further tokens make them those of a whole text
abbrev pub GoesOnTo : {A : Type 0} → Steps A → List Tok → Type 0
GoesOnTo {A = A} st ts = (more : List Tok) × (x : A) × (read_steps (ts ++ more) st ≡ Got x [])

-- the tokens so far are no whole text, or none begins with them and the next token
abbrev pub CannotGoOnTo : {A : Type 0} → Steps A → List Tok → List Tok → Type 0
CannotGoOnTo {A = A} st good [] = (x : A) → read_steps good st ≡ Got x [] → ⊥
CannotGoOnTo {A = A} st good (t ∷ bad) = (more : List Tok) (x : A) → read_steps (good ++ (t ∷ more)) st ≡ Got x [] → ⊥

pub record Parted {A : Type 0} (st : Steps A) (ts : List Tok) (n : ℕ) : Type 0 where
  pub good : List Tok
  pub bad : List Tok
  pub parts : ts ≡ good ++ bad
  pub left : length bad ≡ n
  pub goes_on : GoesOnTo st good
  pub stops : CannotGoOnTo st good bad

abbrev left_of : {A : Type 0} → Outcome A → ℕ
left_of (Got x ts) = 0
left_of (Stuck n) = n

stuck_left : {A : Type 0} (o : Outcome A) (m n : ℕ) → o ≡ Stuck m → o ≡ Stuck n → m ≡ n
stuck_left o m n e h = ap left_of (sym e ∙ h)

-- every beginning goes on
filled_all : {A : Type 0} (st : Steps A) → GoesOnTo st []
filled_all st = let p = steps_filled st in (p.tokens ++ [], p.value, p.reads [])

pub parted : {A : Type 0} (ts : List Tok) (st : Steps A) (n : ℕ) → read_steps ts st ≡ Stuck n → Parted st ts n
parted ts (gives x) n e = absurd cc
parted [] (p ▸ f) n e = record { good = []; bad = []; parts = refl; left = stuck_left _ _ _ refl e; goes_on = filled_all (p ▸ f); stops = λ x h. absurd cc }
parted {A = A} (t ∷ ts) (p ▸ f) n e = by (row_of p t) refl (sym (read_first t ts p f) ∙ e) (λ st h. parted ts st n h) where
  by : (o : Option (Steps (Given p))) → row_of p t ≡ o → read_row (row_then o f) ts ≡ Stuck n → ((st : Steps A) → read_steps ts st ≡ Stuck n → Parted st ts n) → Parted (p ▸ f) (t ∷ ts) n
  by None r h ih =
      record {
        good = [];
        bad = t ∷ ts;
        parts = refl;
        left = stuck_left _ _ _ refl h;
        goes_on = filled_all (p ▸ f);
        stops = λ more x k. let q = sym (ap (λ o. read_row (row_then o f) more) r) ∙ sym (read_first t more p f) ∙ k in absurd cc;
      }
  by (Some st) r h ih =
      let q = ih (and_then st f) h in
      let on = λ (us : List Tok). read_first t us p f ∙ ap (λ o. read_row (row_then o f) us) r in
      record {
        good = t ∷ q.good;
        bad = q.bad;
        parts = ap (λ (us : List Tok). t ∷ us) q.parts;
        left = q.left;
        goes_on = (q.goes_on.0, q.goes_on.1, on (q.good ++ q.goes_on.0) ∙ q.goes_on.2);
        stops = never (and_then st f) q.good q.bad on q.stops;
      } where
        never : (st : Steps A) (good bad : List Tok) → ((us : List Tok) → read_steps (t ∷ us) (p ▸ f) ≡ read_steps us st) → CannotGoOnTo st good bad → CannotGoOnTo (p ▸ f) (t ∷ good) bad
        never st good [] on h = λ x k. h x (sym (on good) ∙ k)
        never st good (u ∷ bad) on h = λ more x k. h more x (sym (on (good ++ (u ∷ more))) ∙ k)

-- a whole text with something behind it
pub parted_behind : {A : Type 0} (ts : List Tok) (st : Steps A) (x : A) (t : Tok) (rest : List Tok) → read_steps ts st ≡ Got x (t ∷ rest) → Parted st ts (suc (length rest))
parted_behind ts st x t rest e =
    let c = cut ts st x (t ∷ rest) e in
    record {
      good = c.front;
      bad = t ∷ rest;
      parts = c.parts;
      left = refl;
      goes_on = ([], x, c.reads []);
      stops = λ more y k. let q = sym (c.reads (t ∷ more)) ∙ k in absurd cc;
    }
