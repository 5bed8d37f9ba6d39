-- What any row, and any log, makes of a formed module among formed modules is formed.
use Rattle.std.proofs.Common.{ℕ, zero, suc, Bool, List, [], ◌∷◌, All, Some, None, IfSome, sym, subst}
use Rattle.std.specs.Str.{bytes_eq}
use Rattle.std.proofs.lemmas.List.Elements.{All-cons, All-head, All-tail}
use Rattle.fc_syntax.specs.Tree.{Word}
use Rattle.fc_log.specs.declared.log.Entry.{Entry}
use Rattle.fc_log.specs.declared.log.Row.{Row}
use Rattle.fc_log.specs.declared.log.Row.TheVariants as row
use Rattle.fc_log.specs.declared.log.Step.{Step}
use Rattle.fc_model.specs.Kinding.{Modules, decls_at, decls_of_module}
use Rattle.fc_model.specs.Nameless.{NExpr, NDecl, NData, NNew, NFamily, NAxiom, NDef, NWrap, NModule, NModuleOf}
use Rattle.fc_rows.specs.ChangingCoercions.{as_they_are}
use Rattle.fc_rows.specs.Dropping.{with_needed}
use Rattle.fc_rows.specs.Replaying.{Replays, Rewrites, at_a_place, at_end, of_the_module, past_mark, past_step}
use Rattle.fc_rows.specs.Rewriting.{changed_decls, changed_module, changed_right, looked_at, row_result, without_definitions}
use Rattle.fc_rows.specs.Surroundings.{Surroundings, outside}
use Rattle.fc_row_types.specs.TypesKept.{ExpressionRow}
use Rattle.fc_formed.specs.FormedTrees.{IsFormedExpr, AreFormedDecls, IsFormedModule}
use Rattle.fc_rows_formed.specs.RowsFormed.{ReplaysKeepFormed, RowsKeepFormed}
use Rattle.fc_rows_formed.proofs.Answered.{either, if_from_any, if_made}
use Rattle.fc_rows_formed.proofs.ChangesFormed.{KeepsFormed, change_formed}
use Rattle.fc_rows_formed.proofs.CoercionChangesFormed.{nothing_replaced}
use Rattle.fc_rows_formed.proofs.CommutingFormed.{app_of_let_formed, case_of_let_formed, cast_of_let_formed, let_of_let_formed, name_field_formed}
use Rattle.fc_rows_formed.proofs.DeclarationsFormed.{AreDeclaredFormed}
use Rattle.fc_rows_formed.proofs.ShrinkingFormed.{alt_dead_formed, beta_formed, case_evaluated_formed, case_known_formed, case_merge_formed, cast_cast_formed, cast_refl_formed}
use Rattle.fc_rows_formed.proofs.ShrinkingFormed.{fail_absorb_formed, join_dead_formed, join_once_formed, let_atom_formed, let_dead_formed, let_once_formed}
use Rattle.fc_rows_formed.proofs.SurroundingsFormed.{AreFormed, outside_formed}

-- EACH ROW

nothing_made : KeepsFormed (λ s e. None)
nothing_made s g e w = tt

row_formed : (ms : Modules) → AreDeclaredFormed ms → (r : Row) (i : ℕ) → KeepsFormed (row_result ms r i)
row_formed ms f row.Beta i = beta_formed ms f
row_formed ms f row.LetDead i = let_dead_formed
row_formed ms f row.LetAtom i = let_atom_formed
row_formed ms f row.LetOnce i = let_once_formed
row_formed ms f row.CaseKnown i = case_known_formed ms f
row_formed ms f row.CaseEvaluated i = case_evaluated_formed ms
row_formed ms f row.CaseMerge i = case_merge_formed
row_formed ms f row.AltDead i = alt_dead_formed i
row_formed ms f row.FailAbsorb i = fail_absorb_formed ms f
row_formed ms f row.CastRefl i = cast_refl_formed ms
row_formed ms f row.CastCast i = cast_cast_formed
row_formed ms f row.PushArgument i = nothing_made
row_formed ms f row.PushType i = nothing_made
row_formed ms f row.PushConstructor i = nothing_made
row_formed ms f row.CoercionShorter i = nothing_made
row_formed ms f row.Fold i = nothing_made
row_formed ms f row.JoinDead i = join_dead_formed
row_formed ms f row.JoinOnce i = join_once_formed
row_formed ms f row.DefDead i = nothing_made
row_formed ms f row.AppOfLet i = app_of_let_formed
row_formed ms f row.CaseOfLet i = case_of_let_formed
row_formed ms f row.LetOfLet i = let_of_let_formed
row_formed ms f row.CastOfLet i = cast_of_let_formed
row_formed ms f row.NameField i = name_field_formed ms f
row_formed ms f row.Unfold i = nothing_made
row_formed ms f row.AppOfCase i = nothing_made
row_formed ms f row.CaseOfCase i = nothing_made
row_formed ms f row.AltJoin i = nothing_made
row_formed ms f row.Contify i = nothing_made
row_formed ms f row.Split i = nothing_made
row_formed ms f row.Special i = nothing_made
row_formed ms f row.FloatOut i = nothing_made
row_formed ms f row.FloatIn i = nothing_made
row_formed ms f row.StrictLet i = nothing_made

-- A CHANGE

module _ (row : ExpressionRow) (keeps : KeepsFormed row) (s : Surroundings) (around : AreFormed s) where
  right_formed : (p : List ℕ) (e : NExpr) → IsFormedExpr e → IfSome (changed_right row as_they_are s p e) IsFormedExpr
  right_formed [] e w = tt
  right_formed (zero ∷ p) e w = tt
  right_formed (suc zero ∷ p) e w = change_formed row keeps as_they_are nothing_replaced s around p e w
  right_formed (suc (suc i) ∷ p) e w = tt

  decls_formed : (v : Word) (p : List ℕ) (ds : List NDecl) → AreFormedDecls ds → IfSome (changed_decls row as_they_are s v p ds) AreFormedDecls
  decls_formed v p [] w = tt
  decls_formed v p (NDef n t e ∷ ds) w =
      either (λ o. IfSome o AreFormedDecls) (bytes_eq n v) _ _
      (if_made IsFormedExpr AreFormedDecls (λ f. NDef n t f ∷ ds) _ (right_formed p e w.0.2) (λ f u. ((w.0.0, w.0.1, u), w.1)))
      (if_made AreFormedDecls AreFormedDecls (λ rest. NDef n t e ∷ rest) _ (decls_formed v p ds w.1) (λ rest u. (w.0, u)))
  decls_formed v p (NWrap n t e ∷ ds) w =
      either (λ o. IfSome o AreFormedDecls) (bytes_eq n v) _ _
      (if_made IsFormedExpr AreFormedDecls (λ f. NWrap n t f ∷ ds) _ (right_formed p e w.0.2) (λ f u. ((w.0.0, w.0.1, u), w.1)))
      (if_made AreFormedDecls AreFormedDecls (λ rest. NWrap n t e ∷ rest) _ (decls_formed v p ds w.1) (λ rest u. (w.0, u)))
  decls_formed v p (NData n ps cs ∷ ds) w = if_made AreFormedDecls AreFormedDecls (λ rest. NData n ps cs ∷ rest) _ (decls_formed v p ds w.1) (λ rest u. (w.0, u))
  decls_formed v p (NNew n ps t con ∷ ds) w = if_made AreFormedDecls AreFormedDecls (λ rest. NNew n ps t con ∷ rest) _ (decls_formed v p ds w.1) (λ rest u. (w.0, u))
  decls_formed v p (NFamily n ps k ∷ ds) w = if_made AreFormedDecls AreFormedDecls (λ rest. NFamily n ps k ∷ rest) _ (decls_formed v p ds w.1) (λ rest u. (w.0, u))
  decls_formed v p (NAxiom n ps t u ∷ ds) w = if_made AreFormedDecls AreFormedDecls (λ rest. NAxiom n ps t u ∷ rest) _ (decls_formed v p ds w.1) (λ rest x. (w.0, x))

-- MODULES

module_declares : (ns : List NModule) → All IsFormedModule ns → (w : Word) → AreFormedDecls (decls_of_module ns w)
module_declares [] all w = tt
module_declares (NModuleOf m imports exports hidden ds ∷ ns) all w =
    let n = NModuleOf m imports exports hidden ds in
    either AreFormedDecls (bytes_eq m w) ds (decls_of_module ns w) (All-head IsFormedModule n ns all).2 (module_declares ns (All-tail IsFormedModule n ns all) w)

modules_declare : (ns : List NModule) → All IsFormedModule ns → AreDeclaredFormed (decls_at ns)
modules_declare ns all None = tt
modules_declare ns all (Some w) = module_declares ns all w

-- a change at a place of a module, by what keeps expressions formed
module_formed : (row : ExpressionRow) → KeepsFormed row → (xs : List NModule) (w : Word) (p : List ℕ) (n : NModule) → All IsFormedModule (n ∷ xs)
    → IfSome (changed_module row as_they_are xs w p n) IsFormedModule
module_formed row keeps xs w p (NModuleOf m imports exports hidden ds) all =
    let n = NModuleOf m imports exports hidden ds in
    let ms = decls_at (n ∷ xs) in
    let own = All-head IsFormedModule n xs all in
    let around = outside_formed ms (modules_declare (n ∷ xs) all) in
    if_made AreFormedDecls IsFormedModule (λ cs. NModuleOf m imports exports hidden cs) (changed_decls row as_they_are (outside ms) w p ds)
    (decls_formed row keeps (outside ms) around w p ds own.2) (λ cs v. (own.0, own.1, v))

pub rows_keep_formed : RowsKeepFormed
rows_keep_formed xs r w p n k all h =
    let ms = decls_at (n ∷ xs) in
    let made = if_from_any IsFormedModule (λ q. changed_module (row_result ms r q.1) as_they_are xs w q.0 n) (looked_at r p)
    (λ q. module_formed (row_result ms r q.1) (row_formed ms (modules_declare (n ∷ xs) all) r q.1) xs w q.0 n all) in
    subst (λ o. IfSome o IsFormedModule) h made

-- LOGS

fewer_formed : (keep : Word → Bool) (ds : List NDecl) → AreFormedDecls ds → AreFormedDecls (without_definitions keep ds)
fewer_formed keep [] w = tt
fewer_formed keep (NDef n t e ∷ ds) w =
    either AreFormedDecls (keep n) (NDef n t e ∷ without_definitions keep ds) (without_definitions keep ds) (w.0, fewer_formed keep ds w.1) (fewer_formed keep ds w.1)
fewer_formed keep (NWrap n t e ∷ ds) w =
    either AreFormedDecls (keep n) (NWrap n t e ∷ without_definitions keep ds) (without_definitions keep ds) (w.0, fewer_formed keep ds w.1) (fewer_formed keep ds w.1)
fewer_formed keep (NData n ps cs ∷ ds) w = (w.0, fewer_formed keep ds w.1)
fewer_formed keep (NNew n ps t con ∷ ds) w = (w.0, fewer_formed keep ds w.1)
fewer_formed keep (NFamily n ps k ∷ ds) w = (w.0, fewer_formed keep ds w.1)
fewer_formed keep (NAxiom n ps t u ∷ ds) w = (w.0, fewer_formed keep ds w.1)

needed_formed : (keep : Word → Bool) (n : NModule) → IsFormedModule n → IsFormedModule (with_needed keep n)
needed_formed keep (NModuleOf m imports exports hidden ds) w = (w.0, w.1, fewer_formed keep ds w.2)

step_formed : {xs : List NModule} {s : Step} {n k : NModule} → All IsFormedModule (n ∷ xs) → Rewrites xs s n k → IsFormedModule k
step_formed {xs = xs} {n = n} {k = k} w (at_a_place r v p h within) = rows_keep_formed xs r v p n k w h
step_formed {xs = xs} {n = n} w (of_the_module drops) = subst IsFormedModule (sym drops.left) (needed_formed drops.keep n (All-head IsFormedModule n xs w))

replay_formed : {xs : List NModule} {es : List Entry} {n k : NModule} → All IsFormedModule (n ∷ xs) → Replays xs es n k → IsFormedModule k
replay_formed {xs = xs} {n = n} w at_end = All-head IsFormedModule n xs w
replay_formed w (past_mark p rest) = replay_formed w rest
replay_formed {xs = xs} {n = n} w (past_step {k = k} s step rest) =
    replay_formed (All-cons IsFormedModule k xs (step_formed w step) (All-tail IsFormedModule n xs w)) rest

pub replays_keep_formed : ReplaysKeepFormed
replays_keep_formed xs es n k all replays = replay_formed all replays
