-- How deep brackets nest.
use Rattle.std.proofs.Common.{◌≡◌, ℕ, Bool, true, false, ◌&&◌, List, [], ◌∷◌, ◌++◌, length, append_assoc, refl, sym, ap, ◌∙◌}
use Rattle.std.proofs.lemmas.List.{append-nil}
use Rattle.fc_syntax.specs.Limits.{standard_limits}
use Rattle.fc_model.specs.Words.{Tok, Open}
use Rattle.fc_model.specs.ReadFaults.{nests_within, level_behind, may_stand}
use Rattle.fc_reader.specs.Nested.{IsDeepBefore, IsTooDeep, StepsTo}

under : (p : Bool) {q r : Bool} → (q ≡ true → r ≡ true) → (p && q) ≡ true → (p && r) ≡ true
under true h e = h e
under false h e = e

-- a front nests no deeper than the whole
pub nests_front : (most level : ℕ) (ts us : List Tok) → nests_within most level (ts ++ us) ≡ true → nests_within most level ts ≡ true
nests_front most level [] us e = refl
nests_front most level (t ∷ ts) us e = under (may_stand most level t) (nests_front most (level_behind level t) ts us) e

-- the tokens up to a place leave this level
pub record LevelAt (ts us : List Tok) (level : ℕ) : Type 0 where
  pub front : List Tok
  pub parts : ts ≡ front ++ us
  pub nests : (vs : List Tok) → nests_within standard_limits.brackets 0 (front ++ vs) ≡ nests_within standard_limits.brackets level vs

pub level_more : {ts us vs : List Tok} {level next : ℕ} (t : Tok) → us ≡ t ∷ vs → StepsTo t level next → LevelAt ts us level → LevelAt ts vs next
level_more {vs = vs} {level = level} t e steps p =
    record {
      front = p.front ++ t ∷ [];
      parts = p.parts ∙ ap (λ (x : List Tok). p.front ++ x) e ∙ sym (append_assoc p.front (t ∷ []) vs);
      nests = λ xs. ap (nests_within standard_limits.brackets 0) (append_assoc p.front (t ∷ []) xs) ∙ p.nests (t ∷ xs)
          ∙ ap (λ b. b && nests_within standard_limits.brackets (level_behind level t) xs) steps.stands ∙ ap (λ n. nests_within standard_limits.brackets n xs) steps.behind;
    }

pub level_deep : {ts us vs : List Tok} {level n : ℕ} (t : Tok) → us ≡ t ∷ vs → IsTooDeep t level → n ≡ length vs → LevelAt ts us level → IsDeepBefore ts n
level_deep {vs = vs} {level = level} t e d left p = record {
  good = p.front;
  bad = vs;
  parts = p.parts ∙ ap (λ (x : List Tok). p.front ++ x) (e ∙ ap (λ (u : Tok). u ∷ vs) d.opens);
  left = sym left;
  nested = ap (nests_within standard_limits.brackets 0) (sym (append-nil p.front)) ∙ p.nests [];
  deep = p.nests (Open ∷ []) ∙ ap (λ b. b && true) (ap (may_stand standard_limits.brackets level) (sym d.opens) ∙ d.deep);
}
