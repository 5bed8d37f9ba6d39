-- What the steps of a log leave is written where what was there is, and so is what is told of it.
use Rattle.std.proofs.Common.{◌≡◌, All, Bool, true, false, List, [], ◌∷◌, sym, subst}
use Rattle.std.proofs.lemmas.List.Elements.{All-cons, All-head, All-tail}
use Rattle.fc_syntax.specs.Tree.{Word}
use Rattle.fc_log.specs.declared.log.Entry.{Entry}
use Rattle.fc_log.specs.declared.log.Step.{Step}
use Rattle.fc_model.specs.Nameless.{NDecl, NData, NNew, NFamily, NAxiom, NDef, NWrap, NModule, NModuleOf}
use Rattle.fc_rows.specs.Dropping.{with_needed}
use Rattle.fc_rows.specs.Replaying.{Replays, at_end, past_mark, past_step, Rewrites, at_a_place, of_the_module}
use Rattle.fc_rows.specs.Telling.{told_declarations, told_module}
use Rattle.fc_meaning.proofs.WrittenExpressions.{AreDeclsWritten}
use Rattle.fc_rows_written.proofs.RowsWritten.{IsModuleWritten, rows_keep_written}
use Rattle.fc_replay_meaning.proofs.ReplaysMeant.{fewer_written}

-- REPLAYS

left_written : (keep : Word → Bool) (n k : NModule) → k ≡ with_needed keep n → IsModuleWritten n → IsModuleWritten k
left_written keep (NModuleOf m imports exports hidden ds) k h w = subst IsModuleWritten (sym h) (fewer_written keep ds w)

step_written : {xs : List NModule} {s : Step} {n k : NModule} → All IsModuleWritten (n ∷ xs) → Rewrites xs s n k → IsModuleWritten k
step_written {xs = xs} {n = n} {k = k} w (at_a_place r v p h within) = rows_keep_written xs r v p n k w h
step_written {xs = xs} {n = n} {k = k} w (of_the_module drops) = left_written drops.keep n k drops.left (All-head IsModuleWritten n xs w)

pub replay_written : {xs : List NModule} {es : List Entry} {n k : NModule} → All IsModuleWritten (n ∷ xs) → Replays xs es n k → IsModuleWritten k
replay_written {xs = xs} {n = n} w at_end = All-head IsModuleWritten n xs w
replay_written w (past_mark p rest) = replay_written w rest
replay_written {xs = xs} {n = n} w (past_step {k = k} s step rest) =
    replay_written (All-cons IsModuleWritten k xs (step_written w step) (All-tail IsModuleWritten n xs w)) rest

-- TELLING

told_decls_written : (bs : List Bool) (ds : List NDecl) → AreDeclsWritten ds → AreDeclsWritten (told_declarations bs ds)
told_decls_written bs [] w = tt
told_decls_written bs (NData n ps cs ∷ ds) w = (tt, told_decls_written bs ds w.1)
told_decls_written bs (NNew n ps t con ∷ ds) w = (tt, told_decls_written bs ds w.1)
told_decls_written bs (NFamily n ps k ∷ ds) w = (tt, told_decls_written bs ds w.1)
told_decls_written bs (NAxiom n ps t u ∷ ds) w = (tt, told_decls_written bs ds w.1)
told_decls_written [] (NDef n t e ∷ ds) w = (tt, told_decls_written [] ds w.1)
told_decls_written [] (NWrap n t e ∷ ds) w = (tt, told_decls_written [] ds w.1)
told_decls_written (true ∷ bs) (NDef n t e ∷ ds) w = (w.0, told_decls_written bs ds w.1)
told_decls_written (true ∷ bs) (NWrap n t e ∷ ds) w = (w.0, told_decls_written bs ds w.1)
told_decls_written (false ∷ bs) (NDef n t e ∷ ds) w = (tt, told_decls_written bs ds w.1)
told_decls_written (false ∷ bs) (NWrap n t e ∷ ds) w = (tt, told_decls_written bs ds w.1)

pub told_written : (bs : List Bool) (k : NModule) → IsModuleWritten k → IsModuleWritten (told_module bs k)
told_written bs (NModuleOf m imports exports hidden ds) w = told_decls_written bs ds w
