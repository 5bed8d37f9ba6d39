-- Tokens are cut at the first bracket that nests too deep.
use Rattle.std.proofs.Common.{◌≡◌, ℕ, Bool, true, false, ◌&&◌, List, [], ◌∷◌, ◌++◌, refl, sym, ap, ◌∙◌, append_assoc}
use Rattle.fc_syntax.specs.Limits.{standard_limits}
use Rattle.fc_model.specs.Words.{Tok, Open}
use Rattle.fc_model.specs.ReadFaults.{nests_within, level_behind, may_stand}
use Rattle.fc_reader.specs.Nested.{IsPart}

-- the brackets of tokens nest within the limit, from a level on, or one of them is the first that nests too deep
data Nesting (level : ℕ) (ts : List Tok) : Type 0 where
  nests : nests_within standard_limits.brackets level ts ≡ true → Nesting level ts
  nests_not : (good bad : List Tok) → ts ≡ good ++ (Open ∷ bad) → nests_within standard_limits.brackets level good ≡ true
      → nests_within standard_limits.brackets level (good ++ Open ∷ []) ≡ false → Nesting level ts

-- a token that may not stand at a level is an opening bracket
opens : (most level : ℕ) (t : Tok) → may_stand most level t ≡ false → t ≡ Open
opens most level Open e = refl
opens most level t e = absurd cc

nesting : (level : ℕ) (ts : List Tok) → Nesting level ts
nesting level [] = nests refl
nesting level (t ∷ ts) = by (may_stand standard_limits.brackets level t) refl (nesting (level_behind level t) ts) where
  by : (b : Bool) → may_stand standard_limits.brackets level t ≡ b → Nesting (level_behind level t) ts → Nesting level (t ∷ ts)
  by false e n =
      let o = opens standard_limits.brackets level t e in
      nests_not [] ts (ap (λ (u : Tok). u ∷ ts) o) refl (ap (λ b. b && true) (ap (may_stand standard_limits.brackets level) (sym o) ∙ e))
  by true e (nests n) = nests (ap (λ b. b && nests_within standard_limits.brackets (level_behind level t) ts) e ∙ n)
  by true e (nests_not good bad p n d) =
      let on = λ (us : List Tok). ap (λ b. b && nests_within standard_limits.brackets (level_behind level t) us) e in
      nests_not (t ∷ good) bad (ap (λ (us : List Tok). t ∷ us) p) (on good ∙ n) (on (good ++ Open ∷ []) ∙ d)

-- the part of tokens that is read, and whether a bracket that nests too deep ends it
pub record PartOf (all : List Tok) : Type 0 where
  pub part : List Tok
  pub ends_deep : Bool
  pub is : IsPart all part ends_deep

pub part_of : (all : List Tok) → PartOf all
part_of all = by (nesting 0 all) where
  by : Nesting 0 all → PartOf all
  by (nests n) = record { part = all; ends_deep = false; is = record { whole = refl; nested = n } }
  by (nests_not good bad p n d) = record {
    part = good ++ Open ∷ [];
    ends_deep = true;
    is = record { behind = bad; good = good; parts = p ∙ sym (append_assoc good (Open ∷ []) bad); is = refl; nested = n; deep = d };
  }
