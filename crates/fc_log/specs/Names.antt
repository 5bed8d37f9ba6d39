-- How rows and phases are written.
use Rattle.std.specs.Prelude.{ℕ, List, [], ◌∷◌, codes, Option}
use Rattle.std.specs.List.{find}
use Rattle.std.specs.Str.{bytes_eq}
use Rattle.fc_log.specs.declared.log.Row.{Row}
use Rattle.fc_log.specs.declared.log.Row.TheVariants as row
use Rattle.fc_log.specs.declared.log.Phase.{Phase}
use Rattle.fc_log.specs.declared.log.Phase.TheVariants as phase

abbrev pub row_text : Row → List ℕ
row_text row.Beta = codes "beta"
row_text row.LetDead = codes "let-dead"
row_text row.LetAtom = codes "let-atom"
row_text row.LetOnce = codes "let-once"
row_text row.CaseKnown = codes "case-known"
row_text row.CaseEvaluated = codes "case-evaluated"
row_text row.CaseMerge = codes "case-merge"
row_text row.AltDead = codes "alt-dead"
row_text row.FailAbsorb = codes "fail-absorb"
row_text row.CastRefl = codes "cast-refl"
row_text row.CastCast = codes "cast-cast"
row_text row.PushArgument = codes "push-argument"
row_text row.PushType = codes "push-type"
row_text row.PushConstructor = codes "push-constructor"
row_text row.CoercionShorter = codes "coercion-shorter"
row_text row.Fold = codes "fold"
row_text row.JoinDead = codes "join-dead"
row_text row.JoinOnce = codes "join-once"
row_text row.DefDead = codes "def-dead"
row_text row.AppOfLet = codes "app-of-let"
row_text row.CaseOfLet = codes "case-of-let"
row_text row.LetOfLet = codes "let-of-let"
row_text row.CastOfLet = codes "cast-of-let"
row_text row.NameField = codes "name-field"
row_text row.Unfold = codes "unfold"
row_text row.AppOfCase = codes "app-of-case"
row_text row.CaseOfCase = codes "case-of-case"
row_text row.AltJoin = codes "alt-join"
row_text row.Contify = codes "contify"
row_text row.Split = codes "split"
row_text row.Special = codes "special"
row_text row.FloatOut = codes "float-out"
row_text row.FloatIn = codes "float-in"
row_text row.StrictLet = codes "strict-let"

-- all of them
abbrev pub rows : List Row
rows =
    row.Beta ∷ row.LetDead ∷ row.LetAtom ∷ row.LetOnce ∷ row.CaseKnown ∷ row.CaseEvaluated ∷ row.CaseMerge ∷ row.AltDead ∷ row.FailAbsorb ∷ row.CastRefl ∷ row.CastCast ∷
    row.PushArgument ∷ row.PushType ∷ row.PushConstructor ∷ row.CoercionShorter ∷ row.Fold ∷ row.JoinDead ∷ row.JoinOnce ∷ row.DefDead ∷
    row.AppOfLet ∷ row.CaseOfLet ∷ row.LetOfLet ∷ row.CastOfLet ∷ row.NameField ∷
    row.Unfold ∷ row.AppOfCase ∷ row.CaseOfCase ∷ row.AltJoin ∷ row.Contify ∷ row.Split ∷ row.Special ∷ row.FloatOut ∷ row.FloatIn ∷ row.StrictLet ∷ []

unfoldable pub row_of : List ℕ → Option Row
row_of w = find (λ r. bytes_eq w (row_text r)) rows

abbrev pub phase_text : Phase → List ℕ
phase_text phase.Simplify = codes "simplify"
phase_text phase.Special = codes "special"
phase_text phase.FloatOut = codes "float-out"
phase_text phase.FloatIn = codes "float-in"
phase_text phase.Strict = codes "strict"
phase_text phase.Split = codes "split"

abbrev pub phases : List Phase
phases = phase.Simplify ∷ phase.Special ∷ phase.FloatOut ∷ phase.FloatIn ∷ phase.Strict ∷ phase.Split ∷ []

unfoldable pub phase_of : List ℕ → Option Phase
phase_of w = find (λ p. bytes_eq w (phase_text p)) phases
