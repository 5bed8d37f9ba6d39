-- Replays have no more nodes than what was read.
use Rattle.std.proofs.Common.{◌≡◌, ◌≤◌, List, ap, arith, refl}
use Rattle.fc_syntax.specs.Tree.{Word}
use Rattle.fc_headers.specs.NamelessHeaders.{form_written_among}
use Rattle.fc_log.specs.declared.log.Log.{Log}
use Rattle.fc_model.specs.Nameless.{NModule, NModuleOf}
use Rattle.fc_row_ends.proofs.Modules.{replays_raise_no_nodes}
use Rattle.fc_row_nodes.specs.Nodes.{module_nodes}
use Rattle.fc_rows.specs.Telling.{reached_by_imports}
use Rattle.fc_replayed_sets.specs.Replays.{AreReplays, IsReplay, NoneIsLarger, Telling, no_replays, one_replay}

-- a header has none
headed_alike : (order : List Word) (m : NModule) → module_nodes (form_written_among order m) ≡ module_nodes m
headed_alike order (NModuleOf m imports exports hidden ds) = refl

no_larger : (order : List Word) (before : List NModule) (l : Log) (n k : NModule) → IsReplay order before l n k → module_nodes k ≤ module_nodes n
no_larger order before l n k is = omega (arith, replays_raise_no_nodes (reached_by_imports n before) l.entries n is.left is.replays, ap module_nodes is.headed, headed_alike order is.left)

pub none_is_larger : {order : List Word} {Tells : Telling} {before : List NModule} {ls : List Log} {ns ks : List NModule} → AreReplays order Tells before ls ns ks → NoneIsLarger ns ks
none_is_larger no_replays = tt
none_is_larger {order = order} (one_replay {before = before} {l = l} {n = n} {k = k} told is tells rest) = (no_larger order before l n k is, none_is_larger rest)
