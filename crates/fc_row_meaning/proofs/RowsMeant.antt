-- Each row of the table keeps what programs show.
use Rattle.std.proofs.Common.{◌≡◌, ℕ, All, List, ◌∷◌, Some, None}
use Rattle.fc_syntax.specs.Tree.{Word}
use Rattle.fc_log.specs.declared.log.Row.{Row}
use Rattle.fc_log.specs.declared.log.Row.TheVariants as row
use Rattle.fc_model.specs.Headers.{ndecls_in}
use Rattle.fc_model.specs.Kinding.{Modules, decls_at}
use Rattle.fc_model.specs.Nameless.{NModule}
use Rattle.fc_model.proofs.CallsKept.{from_some_inv}
use Rattle.fc_rows.specs.ChangingCoercions.{as_they_are}
use Rattle.fc_rows.specs.Rewriting.{changed_module, looked_at, rewritten, row_result}
use Rattle.fc_row_types.specs.LintKept.{LintsWith}
use Rattle.fc_row_types.proofs.Made.{none_some}
use Rattle.fc_meaning.proofs.WrittenExpressions.{AreDeclsWritten}
use Rattle.fc_rows_written.proofs.RowsWritten.{rows_keep_written}
use Rattle.fc_kept_meaning.specs.PlaceRows.{place_plain}
use Rattle.fc_row_meaning.specs.RowMeaningLaws.{MeansTheSame, RowAgainst, RowsKeepMeaning}
use Rattle.fc_row_meaning.proofs.DeadCases.{alt_dead_is_placed}
use Rattle.fc_row_meaning.proofs.EvaluatedCases.{case_evaluated_is_placed}
use Rattle.fc_row_meaning.proofs.JoinOnceMeant.{join_once_means_the_same}
use Rattle.fc_row_meaning.proofs.KnownCases.{case_known_is_placed}
use Rattle.fc_row_meaning.proofs.ModulesRewritten.{IsPlaceRow, table_row_keeps_meaning}
use Rattle.fc_row_meaning.proofs.PlainRows.{IsPlain, beta_plain, let_dead_plain, let_atom_plain, let_once_plain, case_merge_plain, fail_absorb_plain, cast_refl_plain, cast_cast_plain, join_dead_plain}
use Rattle.fc_row_meaning.proofs.PlainRows.{app_of_let_plain, case_of_let_plain, cast_of_let_plain, let_of_let_plain, name_field_plain}

-- a row that needs nothing of its place but types
from_plain : (part : RowAgainst) → ((ms : Modules) → IsPlain ms (part ms)) → IsPlaceRow part
from_plain part plain G ms held declared c e f r told = place_plain (plain ms r.surroundings e f r.result r.type r.typed r.written)

-- a row that is not defined makes nothing
from_none : IsPlaceRow (λ ms s e. None)
from_none G ms held declared c e f r told = none_some r.result

-- what a row means that makes rewrites of its place
by_place : (r : Row) → ((i : ℕ) → IsPlaceRow (λ ms. row_result ms r i)) → (xs : List NModule) (w : Word) (p : List ℕ) (m k : NModule) → LintsWith xs m → rewritten xs r w p m ≡ Some k
    → All (λ x. AreDeclsWritten (ndecls_in x)) (m ∷ xs) → MeansTheSame xs m k
by_place r gives xs w p m k lints h written =
    let q = from_some_inv (λ q. changed_module (row_result (decls_at (m ∷ xs)) r q.1) as_they_are xs w q.0 m) (looked_at r p) k h in
    table_row_keeps_meaning r q.0.1 (gives q.0.1) xs w q.0.0 m k lints q.2 written (rows_keep_written xs r w p m k written h)

pub rows_mean_the_same : RowsKeepMeaning
rows_mean_the_same row.Beta = by_place row.Beta (λ i. from_plain (λ ms. row_result ms row.Beta i) (λ ms. beta_plain ms))
rows_mean_the_same row.LetDead = by_place row.LetDead (λ i. from_plain (λ ms. row_result ms row.LetDead i) (λ ms. let_dead_plain ms))
rows_mean_the_same row.LetAtom = by_place row.LetAtom (λ i. from_plain (λ ms. row_result ms row.LetAtom i) (λ ms. let_atom_plain ms))
rows_mean_the_same row.LetOnce = by_place row.LetOnce (λ i. from_plain (λ ms. row_result ms row.LetOnce i) (λ ms. let_once_plain ms))
rows_mean_the_same row.CaseKnown = by_place row.CaseKnown (λ i G. case_known_is_placed G)
rows_mean_the_same row.CaseEvaluated = by_place row.CaseEvaluated (λ i G. case_evaluated_is_placed G)
rows_mean_the_same row.CaseMerge = by_place row.CaseMerge (λ i. from_plain (λ ms. row_result ms row.CaseMerge i) (λ ms. case_merge_plain ms))
rows_mean_the_same row.AltDead = by_place row.AltDead (λ i G. alt_dead_is_placed G i)
rows_mean_the_same row.FailAbsorb = by_place row.FailAbsorb (λ i. from_plain (λ ms. row_result ms row.FailAbsorb i) (λ ms. fail_absorb_plain ms))
rows_mean_the_same row.CastRefl = by_place row.CastRefl (λ i. from_plain (λ ms. row_result ms row.CastRefl i) (λ ms. cast_refl_plain ms))
rows_mean_the_same row.CastCast = by_place row.CastCast (λ i. from_plain (λ ms. row_result ms row.CastCast i) (λ ms. cast_cast_plain ms))
rows_mean_the_same row.PushArgument = by_place row.PushArgument (λ i. from_none)
rows_mean_the_same row.PushType = by_place row.PushType (λ i. from_none)
rows_mean_the_same row.PushConstructor = by_place row.PushConstructor (λ i. from_none)
rows_mean_the_same row.CoercionShorter = by_place row.CoercionShorter (λ i. from_none)
rows_mean_the_same row.Fold = by_place row.Fold (λ i. from_none)
rows_mean_the_same row.JoinDead = by_place row.JoinDead (λ i. from_plain (λ ms. row_result ms row.JoinDead i) (λ ms. join_dead_plain ms))
rows_mean_the_same row.JoinOnce = join_once_means_the_same
rows_mean_the_same row.DefDead = by_place row.DefDead (λ i. from_none)
rows_mean_the_same row.AppOfLet = by_place row.AppOfLet (λ i. from_plain (λ ms. row_result ms row.AppOfLet i) (λ ms. app_of_let_plain ms))
rows_mean_the_same row.CaseOfLet = by_place row.CaseOfLet (λ i. from_plain (λ ms. row_result ms row.CaseOfLet i) (λ ms. case_of_let_plain ms))
rows_mean_the_same row.LetOfLet = by_place row.LetOfLet (λ i. from_plain (λ ms. row_result ms row.LetOfLet i) (λ ms. let_of_let_plain ms))
rows_mean_the_same row.CastOfLet = by_place row.CastOfLet (λ i. from_plain (λ ms. row_result ms row.CastOfLet i) (λ ms. cast_of_let_plain ms))
rows_mean_the_same row.NameField = by_place row.NameField (λ i. from_plain (λ ms. row_result ms row.NameField i) (λ ms. name_field_plain ms))
rows_mean_the_same row.Unfold = by_place row.Unfold (λ i. from_none)
rows_mean_the_same row.AppOfCase = by_place row.AppOfCase (λ i. from_none)
rows_mean_the_same row.CaseOfCase = by_place row.CaseOfCase (λ i. from_none)
rows_mean_the_same row.AltJoin = by_place row.AltJoin (λ i. from_none)
rows_mean_the_same row.Contify = by_place row.Contify (λ i. from_none)
rows_mean_the_same row.Split = by_place row.Split (λ i. from_none)
rows_mean_the_same row.Special = by_place row.Special (λ i. from_none)
rows_mean_the_same row.FloatOut = by_place row.FloatOut (λ i. from_none)
rows_mean_the_same row.FloatIn = by_place row.FloatIn (λ i. from_none)
rows_mean_the_same row.StrictLet = by_place row.StrictLet (λ i. from_none)
