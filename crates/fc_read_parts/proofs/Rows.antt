-- How steps follow each other.
use Rattle.std.proofs.Common.{◌≡◌, List, ◌∷◌, length, suc, Option, Some, None, refl, sym, ap, subst}
use Rattle.fc_model.specs.Words.{Tok}
use Rattle.fc_model.specs.Grammar.{Part, Given, Steps, gives, ◌▸◌, and_then, row_of, row_then, Many}
use Rattle.fc_model.specs.Reading.{Outcome, Stuck, read_steps}
use Rattle.fc_read_parts.specs.Reading.{GoesOn}
use Rattle.fc_read_parts.specs.Seen.{seen}
use Rattle.fc_read_parts.specs.declared.terminal.Terminal.{Terminal}
use Rattle.fc_read_parts.specs.declared.terminal.Terminal.TheVariants as terminal

pub associates : {A B C : Type 0} (st : Steps A) (g : A → Steps B) (f : B → Steps C) → and_then (and_then st g) f ≡ and_then st (λ y. and_then (g y) f)
associates (gives x) g f = refl
associates (p ▸ h) g f = ap (◌▸◌ p) (λ i y. associates (h y) g f i)

-- a part that may be repeated, and is there
abbrev again : (p : Part) → Given p → Steps (List (Given p))
again p x = Many p ▸ λ xs. gives (x ∷ xs)

pub goes_by : (p q : Part) (f : List (Given p) → Steps (Given q)) (ts : List Tok) (o : Option (Steps (Given p)))
    → elim (row_then o (again p)) as (λ _. Outcome (Given q)) [ None ↦ Stuck (suc (length ts)) | Some st ↦ read_steps ts (and_then st f) ]
    ≡ elim o as (λ _. Outcome (Given q)) [ None ↦ Stuck (suc (length ts)) | Some st ↦ read_steps ts (and_then st (λ x. Many p ▸ λ xs. f (x ∷ xs))) ]
goes_by p q f ts None = refl
goes_by p q f ts (Some st) = ap (read_steps ts) (associates st (again p) f)

-- where the first token is no closing bracket, what may be repeated goes on
goes_on_behind : (t : Terminal) (ts : List Tok) → (t ≡ terminal.Close → ⊥) → GoesOn (seen t ∷ ts)
goes_on_behind terminal.Open ts n p q f = goes_by p q f ts (row_of p (seen terminal.Open))
goes_on_behind terminal.Close ts n p q f = absurd (n refl)
goes_on_behind (terminal.Key k) ts n p q f = goes_by p q f ts (row_of p (seen (terminal.Key k)))
goes_on_behind (terminal.Lower w) ts n p q f = goes_by p q f ts (row_of p (seen (terminal.Lower w)))
goes_on_behind (terminal.Upper w) ts n p q f = goes_by p q f ts (row_of p (seen (terminal.Upper w)))
goes_on_behind (terminal.LowerOf m w) ts n p q f = goes_by p q f ts (row_of p (seen (terminal.LowerOf m w)))
goes_on_behind (terminal.UpperOf m w) ts n p q f = goes_by p q f ts (row_of p (seen (terminal.UpperOf m w)))
goes_on_behind terminal.Star ts n p q f = goes_by p q f ts (row_of p (seen terminal.Star))
goes_on_behind terminal.Hash ts n p q f = goes_by p q f ts (row_of p (seen terminal.Hash))
goes_on_behind terminal.Arrow ts n p q f = goes_by p q f ts (row_of p (seen terminal.Arrow))
goes_on_behind (terminal.Operator o) ts n p q f = goes_by p q f ts (row_of p (seen (terminal.Operator o)))
goes_on_behind (terminal.Literal k) ts n p q f = goes_by p q f ts (row_of p (seen (terminal.Literal k)))
goes_on_behind (terminal.Number k) ts n p q f = goes_by p q f ts (row_of p (seen (terminal.Number k)))
goes_on_behind terminal.Other ts n p q f = goes_by p q f ts (row_of p (seen terminal.Other))

pub goes_on : (t : Terminal) (ts rest : List Tok) → ts ≡ seen t ∷ rest → (t ≡ terminal.Close → ⊥) → GoesOn ts
goes_on t ts rest e n = subst GoesOn (sym e) (goes_on_behind t rest n)
