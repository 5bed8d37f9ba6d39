-- Rows that are tried at an expression: what is found applies there, and where nothing is, none of them does.
use Rattle.std.proofs.Common.{◌≡◌, ◌+◌, ◌<◌, ℕ, zero, suc, Bool, true, false, if◌then◌else◌, List, [], ◌∷◌, slice_get, Option, Some, None, refl, sym, ap, ◌∙◌, arith, subst}
use Rattle.std.proofs.lemmas.Option.{same_Some}
use Rattle.fc_syntax.specs.declared.expr.Head.{Head}
use Rattle.fc_log.specs.declared.log.Row.{Row}
use Rattle.fc_log.specs.declared.log.Row.TheVariants as row
use Rattle.fc_model.specs.Calling.{first_of, from_some}
use Rattle.fc_model.specs.Kinding.{Modules}
use Rattle.fc_model.specs.Nameless.{NAlts, NoNAlts, MoreNAlts, NBranch}
use Rattle.fc_model.specs.Nameless.{NExpr, NLocal, NVar, NLit, NApp, NLam, NLet, NCase, NCast, NCon, NPrim, NFail, NJoin, NJump}
use Rattle.fc_rows.specs.Changing.{made}
use Rattle.fc_rows.specs.Shrinking.{alt_dead, heads_excluded, known, without_alternative}
use Rattle.fc_rows.specs.Surroundings.{Surroundings}
use Rattle.fc_row_at_place.specs.Rows.{built_row}
use Rattle.fc_search_laws.specs.Laws.{AppliesAt}
use Rattle.fc_search_laws.specs.Searching.{Answered, Applies, Quiet, Beyond, alt_count, alternatives_of, applied, first_dead, first_row, fits, here, rows_tried}
use Rattle.fc_search_laws.proofs.Places.{nothing}

-- ANSWERS

-- what holds of an answer, where there is one
abbrev pub Only : (Answered → Type 0) → Option Answered → Type 0
Only P o = (a : Answered) → o ≡ Some a → P a

pub only_first : (P : Answered → Type 0) (o q : Option Answered) → Only P o → Only P q → Only P (first_of o q)
only_first P (Some a) q first second = first
only_first P None q first second = second

pub only_none : (P : Answered → Type 0) → Only P None
only_none P a h = nothing h

-- an answer that is found is one that a row applies, or that the search did not go so deep
abbrev pub IsLoud : Answered → Type 0
IsLoud (Applies r i q x) = Unit {0}
IsLoud Quiet = ⊥
IsLoud Beyond = Unit {0}

-- none of two
pub first_none : (o q : Option Answered) → first_of o q ≡ None → (o ≡ None) × (q ≡ None)
first_none (Some a) q h = cc
first_none None q h = (refl, h)

-- ALTERNATIVES

made_there : {X Y : Type 0} (g : X → Y) (o : Option X) (y : Y) (P : Type 0) → made g o ≡ Some y → ((x : X) → o ≡ Some x → P) → P
made_there g None y P h k = nothing h
made_there g (Some x) y P h k = k x refl

alternative_among : (hs : List Head) (i : ℕ) (alts rest : NAlts) → without_alternative hs i alts ≡ Some rest → i < alt_count alts
alternative_among hs i NoNAlts rest h = nothing h
alternative_among hs zero (MoreNAlts (NBranch x bs b) more) rest h = omega arith
alternative_among hs (suc i) (MoreNAlts a more) rest h =
    made_there (λ z. MoreNAlts a z) (without_alternative hs i more) rest (suc i < suc (alt_count more)) h (λ z is. omega (arith, alternative_among hs i more z is))

-- alt-dead makes something only where there is an alternative of its number
alternative_there : (i : ℕ) (s : Surroundings) (e x : NExpr) → alt_dead i s e ≡ Some x → i < alternatives_of e
alternative_there i s (NCase e t u alts) x h =
    let hs = heads_excluded (known s e) in
    made_there (λ rest. NCase e t u rest) (without_alternative hs i alts) x (i < alt_count alts) h (λ rest is. alternative_among hs i alts rest is)
alternative_there i s (NLocal v) x h = nothing h
alternative_there i s (NVar n) x h = nothing h
alternative_there i s (NLit n) x h = nothing h
alternative_there i s (NApp f a) x h = nothing h
alternative_there i s (NLam b e) x h = nothing h
alternative_there i s (NLet r bs e) x h = nothing h
alternative_there i s (NCast e g) x h = nothing h
alternative_there i s (NCon n args) x h = nothing h
alternative_there i s (NPrim op es) x h = nothing h
alternative_there i s (NFail t) x h = nothing h
alternative_there i s (NJoin r t js e) x h = nothing h
alternative_there i s (NJump j args) x h = nothing h

-- ROWS AT AN EXPRESSION

module _ (ms : Modules) (n spare : ℕ) (s : Surroundings) (e : NExpr) where
  -- what is said of an answer: that its row applies
  abbrev pub IsRight : Answered → Type 0
  IsRight (Applies r i q x) = AppliesAt ms spare n s e r i q x
  IsRight Quiet = Unit {0}
  IsRight Beyond = Unit {0}

  -- ONE ROW

  -- what is made of what a row makes
  abbrev answer_of : Row → ℕ → Option NExpr → Option Answered
  answer_of r i o = made (λ x. Applies r i [] x) (from_some (λ x. if fits n spare e x then Some x else None) o)

  right_by : (r : Row) (i : ℕ) (x : NExpr) (b : Bool) → built_row ms r i s e ≡ Some x → fits n spare e x ≡ b → Only IsRight (made (λ x. Applies r i [] x) (if b then Some x else None))
  right_by r i x true makes fitted a h =
      subst IsRight (same_Some _ _ h) (record { around = s; part = e; there = refl; makes = makes; fitted = ap (λ m. fits m spare e x) (omega arith) ∙ fitted })
  right_by r i x false makes fitted a h = nothing h

  right_of : (r : Row) (i : ℕ) (o : Option NExpr) → built_row ms r i s e ≡ o → Only IsRight (answer_of r i o)
  right_of r i None makes a h = nothing h
  right_of r i (Some x) makes a h = right_by r i x (fits n spare e x) makes refl a h

  applied_right : (r : Row) (i : ℕ) → Only IsRight (applied ms n spare r i s e)
  applied_right r i = right_of r i (built_row ms r i s e) refl

  loud_by : (r : Row) (i : ℕ) (o : Option NExpr) → Only IsLoud (made (λ x. Applies r i [] x) o)
  loud_by r i None a h = nothing h
  loud_by r i (Some x) a h = subst IsLoud (same_Some _ _ h) tt

  pub applied_loud : (r : Row) (i : ℕ) → Only IsLoud (applied ms n spare r i s e)
  applied_loud r i = loud_by r i _

  -- what a row makes where it is not found may not stand there
  unfit_by : (r : Row) (i : ℕ) (x : NExpr) (b : Bool) → made (λ x. Applies r i [] x) (if b then Some x else None) ≡ None → b ≡ false
  unfit_by r i x true h = cc
  unfit_by r i x false h = refl

  unfit_of : (r : Row) (i : ℕ) (o : Option NExpr) (x : NExpr) → answer_of r i o ≡ None → o ≡ Some x → fits n spare e x ≡ false
  unfit_of r i None x h is = nothing is
  unfit_of r i (Some y) x h is = ap (λ z. fits n spare e z) (sym (same_Some _ _ is)) ∙ unfit_by r i y (fits n spare e y) h

  -- a row that is not found here makes nothing that may stand here
  abbrev pub IsUnfit : Row → ℕ → Type 0
  IsUnfit r i = (x : NExpr) → built_row ms r i s e ≡ Some x → fits n spare e x ≡ false

  applied_none : (r : Row) (i : ℕ) → applied ms n spare r i s e ≡ None → IsUnfit r i
  applied_none r i h x is = unfit_of r i (built_row ms r i s e) x h is

  -- ROWS

  -- what each row obeys
  module _ (P : Answered → Type 0) (each : (r : Row) (i : ℕ) → Only P (applied ms n spare r i s e)) where
    rows_only : (rs : List Row) → Only P (first_row ms n spare rs s e)
    rows_only [] = only_none P
    rows_only (r ∷ rs) = only_first P _ _ (each r 0) (rows_only rs)

    dead_only : (k i : ℕ) → Only P (first_dead ms n spare k i s e)
    dead_only zero i = only_none P
    dead_only (suc k) i = only_first P _ _ (each row.AltDead i) (dead_only k (suc i))

    here_only : Only P (here ms n spare s e)
    here_only = only_first P _ _ (rows_only rows_tried) (dead_only (alternatives_of e) 0)

  pub here_right : Only IsRight (here ms n spare s e)
  here_right = here_only IsRight applied_right

  pub rows_loud : (rs : List Row) → Only IsLoud (first_row ms n spare rs s e)
  rows_loud rs = rows_only IsLoud applied_loud rs

  pub here_loud : Only IsLoud (here ms n spare s e)
  here_loud = here_only IsLoud applied_loud

  -- WHERE NONE IS FOUND

  rows_none : (rs : List Row) (k : ℕ) (r : Row) → first_row ms n spare rs s e ≡ None → slice_get rs k ≡ Some r → applied ms n spare r 0 s e ≡ None
  rows_none [] k r h at = absurd cc
  rows_none (q ∷ rs) zero r h at = let same : q ≡ r = cc in subst (λ z. applied ms n spare z 0 s e ≡ None) same (first_none _ _ h).0
  rows_none (q ∷ rs) (suc k) r h at = rows_none rs k r (first_none (applied ms n spare q 0 s e) _ h).1 at

  dead_none : (m i k j : ℕ) → first_dead ms n spare m i s e ≡ None → k < m → k + i ≡ j → applied ms n spare row.AltDead j s e ≡ None
  dead_none zero i k j h below is = absurd (omega arith)
  dead_none (suc m) i zero j h below is =
      let same : i ≡ j = omega arith in
      subst (λ z. applied ms n spare row.AltDead z s e ≡ None) same (first_none (applied ms n spare row.AltDead i s e) _ h).0
  dead_none (suc m) i (suc k) j h below is = dead_none m (suc i) k j (first_none (applied ms n spare row.AltDead i s e) _ h).1 (omega arith) (omega arith)

  alt_dead_none : (i : ℕ) → first_dead ms n spare (alternatives_of e) 0 s e ≡ None → IsUnfit row.AltDead i
  alt_dead_none i h x is = applied_none row.AltDead i (dead_none (alternatives_of e) 0 i i h (alternative_there i s e x is) (omega arith)) x is

  -- no row makes here what may stand here, where none is found
  pub here_none : here ms n spare s e ≡ None → (r : Row) (i : ℕ) → IsUnfit r i
  here_none h = goes
    where
      rows : first_row ms n spare rows_tried s e ≡ None
      rows = (first_none _ (first_dead ms n spare (alternatives_of e) 0 s e) h).0

      at : (k : ℕ) (r : Row) → slice_get rows_tried k ≡ Some r → IsUnfit r 0
      at k r is = applied_none r 0 (rows_none rows_tried k r rows is)

      goes : (r : Row) (i : ℕ) → IsUnfit r i
      goes row.LetDead i x is = at 0 row.LetDead refl x is
      goes row.LetAtom i x is = at 1 row.LetAtom refl x is
      goes row.LetOnce i x is = at 2 row.LetOnce refl x is
      goes row.Beta i x is = at 3 row.Beta refl x is
      goes row.CaseKnown i x is = at 4 row.CaseKnown refl x is
      goes row.CaseEvaluated i x is = at 5 row.CaseEvaluated refl x is
      goes row.CaseMerge i x is = at 6 row.CaseMerge refl x is
      goes row.FailAbsorb i x is = at 7 row.FailAbsorb refl x is
      goes row.CastRefl i x is = at 8 row.CastRefl refl x is
      goes row.CastCast i x is = at 9 row.CastCast refl x is
      goes row.JoinDead i x is = at 10 row.JoinDead refl x is
      goes row.JoinOnce i x is = at 11 row.JoinOnce refl x is
      goes row.AppOfLet i x is = at 12 row.AppOfLet refl x is
      goes row.CaseOfLet i x is = at 13 row.CaseOfLet refl x is
      goes row.LetOfLet i x is = at 14 row.LetOfLet refl x is
      goes row.CastOfLet i x is = at 15 row.CastOfLet refl x is
      goes row.NameField i x is = at 16 row.NameField refl x is
      goes row.AltDead i x is = alt_dead_none i (first_none (first_row ms n spare rows_tried s e) _ h).1 x is
      goes row.PushArgument i x is = nothing is
      goes row.PushType i x is = nothing is
      goes row.PushConstructor i x is = nothing is
      goes row.CoercionShorter i x is = nothing is
      goes row.Fold i x is = nothing is
      goes row.DefDead i x is = nothing is
      goes row.Unfold i x is = nothing is
      goes row.AppOfCase i x is = nothing is
      goes row.CaseOfCase i x is = nothing is
      goes row.AltJoin i x is = nothing is
      goes row.Contify i x is = nothing is
      goes row.Split i x is = nothing is
      goes row.Special i x is = nothing is
      goes row.FloatOut i x is = nothing is
      goes row.FloatIn i x is = nothing is
      goes row.StrictLet i x is = nothing is
