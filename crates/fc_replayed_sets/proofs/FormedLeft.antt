-- What logs leave of formed modules is formed, under its written header too.
use Rattle.std.proofs.Common.{◌≡◌, All, true, List, [], ◌∷◌, map, refl, sym, subst}
use Rattle.std.specs.List.{list_all}
use Rattle.std.proofs.lemmas.Bool.{and_from}
use Rattle.std.proofs.lemmas.List.Elements.{All-cons, All-from_recursion, All-head, All-nil, All-tail, recursion_from_All}
use Rattle.fc_syntax.specs.Tokens.{is_module_name}
use Rattle.fc_syntax.specs.Tree.{Word}
use Rattle.fc_log.specs.declared.log.Log.{Log}
use Rattle.fc_model.specs.Nameless.{NModule, NModuleOf}
use Rattle.fc_reaching.specs.Numbering.{word_of}
use Rattle.fc_rows.specs.Telling.{reached_by_imports, told_module}
use Rattle.fc_formed.specs.FormedTrees.{IsFormedModule}
use Rattle.fc_rows_formed.proofs.HeadersFormed.{headed_is_formed, told_is_formed}
use Rattle.fc_rows_formed.proofs.RowsFormed.{replays_keep_formed}
use Rattle.fc_set_meaning.proofs.SetsMeant.{near_each}
use Rattle.fc_replayed_sets.specs.Replays.{AreReplays, IsReplay, Telling, no_replays, one_replay}

-- NAMES

pub has_module_name : (n : NModule) → IsFormedModule n → is_module_name (word_of n) ≡ true
has_module_name (NModuleOf m imports exports hidden ds) formed = formed.0.0

pub have_module_names : (ns : List NModule) → All IsFormedModule ns → list_all is_module_name (map word_of ns) ≡ true
have_module_names [] formed = refl
have_module_names (n ∷ ns) formed =
    and_from (is_module_name (word_of n)) (list_all is_module_name (map word_of ns)) (has_module_name n (All-head IsFormedModule n ns formed))
    (have_module_names ns (All-tail IsFormedModule n ns formed))

-- REPLAYS

-- what imports reach of formed modules is formed
pub reached_formed : (n : NModule) (xs : List NModule) → All IsFormedModule xs → All IsFormedModule (reached_by_imports n xs)
reached_formed n xs formed = All-from_recursion IsFormedModule (reached_by_imports n xs) (near_each IsFormedModule n xs (recursion_from_All IsFormedModule xs formed))

module _ (order : List Word) (names : list_all is_module_name order ≡ true) where
  replay_formed : (before : List NModule) (l : Log) (n k : NModule) → IsReplay order before l n k → IsFormedModule n → All IsFormedModule before → IsFormedModule k
  replay_formed before l n k is formed others =
      let near = reached_by_imports n before in
      subst IsFormedModule (sym is.headed)
      (headed_is_formed order is.left names (replays_keep_formed near l.entries n is.left (All-cons IsFormedModule n near formed (reached_formed n before others)) is.replays))

  pub left_are_formed : {Tells : Telling} {before ns ks : List NModule} {logs : List Log} → AreReplays order Tells before logs ns ks → All IsFormedModule before → All IsFormedModule ns
      → All IsFormedModule ks
  left_are_formed no_replays others formed = All-nil IsFormedModule
  left_are_formed {before = before} (one_replay {l = l} {n = n} {k = k} {ns = ns} {ks = ks} told is tells rest) others formed =
      let here = replay_formed before l n k is (All-head IsFormedModule n ns formed) others in
      All-cons IsFormedModule k ks here
      (left_are_formed rest (All-cons IsFormedModule (told_module told k) before (told_is_formed told k here) others) (All-tail IsFormedModule n ns formed))
