-- A part that is read as another, and what is told of one that was not read.
use Rattle.std.proofs.Common.{◌≡◌, suc, List, length, Option, Some, None, Result, Ok, Err, refl, sym, ap, subst}
use Rattle.std.specs.Prelude.{IfErr, IsErrAnd}
use Rattle.fc_model.specs.Words.{Tok}
use Rattle.fc_model.specs.Grammar.{Part, Given, Steps, and_then, row_then}
use Rattle.fc_model.specs.Reading.{Outcome, Stuck, read_steps}
use Rattle.fc_read_parts.proofs.Rows.{associates}

-- a part whose row is that of another, of which something more is asked
pub by_other : {A : Type 0} (p q : Part) (g : A → Steps (Given p)) (f : Given p → Steps (Given q)) (ts : List Tok) (o : Option (Steps A))
    → elim (row_then o g) as (λ _. Outcome (Given q)) [ None ↦ Stuck (suc (length ts)) | Some st ↦ read_steps ts (and_then st f) ]
    ≡ elim o as (λ _. Outcome (Given q)) [ None ↦ Stuck (suc (length ts)) | Some st ↦ read_steps ts (and_then st (λ x. and_then (g x) f)) ]
by_other p q g f ts None = refl
by_other p q g f ts (Some st) = ap (read_steps ts) (associates st g f)

-- what a reader that failed on its way answers
pub err_is : {X E : Type 0} (P : E → Type 0) (r : Result X E) (h : E) → IsErrAnd r (λ e. e ≡ h) → P h → IfErr r P
err_is P (Ok x) h k p = absurd k
err_is P (Err e) h k p = subst P (sym k) p
