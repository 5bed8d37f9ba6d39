-- Join-once keeps what programs show: the one jump becomes the right side of the join point, and then the join is dead.
use Rattle.std.proofs.Common.{◌≡◌, ℕ, zero, suc, All, false, List, ◌∷◌, Some, sym, ap}
use Rattle.std.proofs.lemmas.List.Elements.{All-head}
use Rattle.fc_syntax.specs.Tree.{Word}
use Rattle.fc_log.specs.declared.log.Row.TheVariants as row
use Rattle.fc_model.specs.Calling.{from_some}
use Rattle.fc_model.specs.Headers.{ndecls_in}
use Rattle.fc_model.specs.Kinding.{decls_at}
use Rattle.fc_model.specs.Nameless.{NExpr, NJoin, NoNJoins, MoreNJoins, NModule, NModuleOf}
use Rattle.fc_model.proofs.CallsKept.{from_some_inv}
use Rattle.fc_reaching.specs.Numbering.{word_of}
use Rattle.fc_rows.specs.Changing.{changed, made}
use Rattle.fc_rows.specs.ChangingCoercions.{as_they_are}
use Rattle.fc_rows.specs.Occurrences.{innermost_joins, occurrences}
use Rattle.fc_rows.specs.Rewriting.{changed_decls, changed_module, rewritten, row_result}
use Rattle.fc_rows.specs.Shrinking.{join_dead, join_once, jump_once, jump_place, occurs_once}
use Rattle.fc_rows.specs.Surroundings.{Surroundings, behind_joins, outside}
use Rattle.fc_row_types.specs.LintKept.{LintsWith}
use Rattle.fc_row_types.specs.TypesKept.{ExpressionRow}
use Rattle.fc_row_types.proofs.JoinRowsKept.{jump_once_keeps}
use Rattle.fc_row_types.proofs.Made.{if_some_inv, made_inv, none_some}
use Rattle.fc_row_types.proofs.RowsKept.{row_keeps, row_spares_atoms}
use Rattle.fc_meaning.proofs.HeldDeclarations.{modules_are_held}
use Rattle.fc_meaning.proofs.WrittenExpressions.{AreDeclsWritten}
use Rattle.fc_rows_written.proofs.RowsWritten.{module_change_written, rows_keep_written}
use Rattle.fc_rows_written.proofs.ShrinkingWritten.{jump_once_written}
use Rattle.fc_kept_meaning.specs.PlaceRows.{place_plain}
use Rattle.fc_kept_meaning.proofs.ChangesKeepMeaning.{linted_rights}
use Rattle.fc_kept_meaning.proofs.ModulesKeepMeaning.{no_names}
use Rattle.fc_kept_meaning.proofs.ShownFurther.{shown_further}
use Rattle.fc_row_meaning.specs.RowMeaningLaws.{MeansTheSame}
use Rattle.fc_row_meaning.proofs.JumpsPlaced.{jump_is_placed, jump_keeps_values, jump_spares_atoms}
use Rattle.fc_row_meaning.proofs.ModulesRewritten.{row_shows_same}
use Rattle.fc_row_meaning.proofs.PlainRows.{join_dead_plain}
use Rattle.fc_row_meaning.proofs.TwoSteps.{Steps, module_steps}
use Rattle.fc_row_meaning.proofs.ValuesKept.{row_keeps_values}

-- the jump is taken in the body of the join, and the join that it leaves is dead
once_steps : (s : Surroundings) (e f : NExpr) → join_once s e ≡ Some f → Steps (λ q. changed jump_once as_they_are s q e) (λ (z : Surroundings) d. join_dead d) f
once_steps s (NJoin false t (MoreNJoins j NoNJoins) b) f h =
    let group = MoreNJoins j NoNJoins in
    let inner = behind_joins false t group s in
    let m = if_some_inv (occurs_once (occurrences (innermost_joins 1) b)) _ f h in
    let p = from_some_inv (λ p. from_some (λ c. join_dead (NJoin false t group c)) (changed jump_once as_they_are inner p b)) (jump_place 0 b) f m.1 in
    let c = from_some_inv (λ c. join_dead (NJoin false t group c)) (changed jump_once as_they_are inner p.0 b) f p.2 in
    record { place = suc (suc zero) ∷ p.0; between = NJoin false t group c.0; first = ap (made (NJoin false t group)) c.1; second = λ z. c.2 }
once_steps s e f h = none_some h

-- a change leaves the word of the module
word_kept : (row : ExpressionRow) (xs : List NModule) (w : Word) (p : List ℕ) (m k : NModule) → changed_module row as_they_are xs w p m ≡ Some k → word_of k ≡ word_of m
word_kept row xs w p (NModuleOf m imports exports hidden ds) k h =
    let here = NModuleOf m imports exports hidden ds in
    sym (ap word_of (made_inv (λ cs. NModuleOf m imports exports hidden cs) (changed_decls row as_they_are (outside (decls_at (here ∷ xs))) w p ds) k h).2)

-- what join-once makes of a module that lints, at a place of the definition of a word, means the same, if all right sides are written
pub join_once_means_the_same : (xs : List NModule) (w : Word) (p : List ℕ) (m k : NModule) → LintsWith xs m → rewritten xs row.JoinOnce w p m ≡ Some k
    → All (λ x. AreDeclsWritten (ndecls_in x)) (m ∷ xs) → MeansTheSame xs m k
join_once_means_the_same xs w p m k lints h written P sp tells holds out t st asked =
    let steps = module_steps join_once jump_once join_dead once_steps xs w p m k h in
    let n = steps.1 in
    let wm = All-head (λ x. AreDeclsWritten (ndecls_in x)) m xs written in
    let wn = module_change_written jump_once jump_once_written xs w steps.0 m n written steps.2 in
    let wk = rows_keep_written xs row.JoinOnce w p m k written h in
    let first = row_shows_same (λ ms. jump_once) (λ ms. jump_spares_atoms) jump_once_keeps (λ ms. jump_keeps_values) (λ ms declared held. jump_is_placed no_names ms held) xs w steps.0 m n lints steps.2 wm wn in
    let second = row_shows_same (λ ms. row_result ms row.JoinDead 0) (λ ms. row_spares_atoms ms row.JoinDead 0) (λ ms declared. row_keeps ms declared row.JoinDead 0) (λ ms. row_keeps_values ms row.JoinDead 0)
    (λ ms declared held c e f r. place_plain (join_dead_plain ms r.surroundings e f r.result r.type r.typed r.written)) xs w p n k first.0 steps.3 wn wk in
    let sorted = linted_rights xs n (modules_are_held (n ∷ xs) first.0.hold) wn in
    shown_further m n k (sym (word_kept (λ s e. join_dead e) xs w p n k steps.3)) sorted first.1 second.1 P sp holds t st
