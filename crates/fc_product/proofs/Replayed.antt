-- What the phases leave of a module, under its header, is a replay of it.
use Rattle.std.proofs.Common.{◌≡◌, ◌∙◌, All, List, [], ◌∷◌, map, ap}
use Rattle.std.proofs.lemmas.List.Elements.{All-cons, All-head, All-nil, All-tail}
use Rattle.fc_syntax.specs.Tokens.{is_module_name}
use Rattle.fc_syntax.specs.Tree.{Word}
use Rattle.fc_formed.specs.FormedTrees.{IsFormedModule}
use Rattle.fc_headers.specs.NamelessHeaders.{form_written_among}
use Rattle.fc_log.specs.Shapes.{GoesThrough, all_ended, ends_phase}
use Rattle.fc_log.specs.Texts.{IsFormedEntry}
use Rattle.fc_log.specs.declared.log.Entry.{Entry}
use Rattle.fc_log.specs.declared.log.Entry.TheVariants as entry
use Rattle.fc_log.specs.declared.log.Log.{Log}
use Rattle.fc_log.specs.declared.log.Phase.{Phase}
use Rattle.fc_logs_formed.proofs.LogsFormed.{logs_are_formed}
use Rattle.fc_model.specs.Nameless.{NModule}
use Rattle.fc_optimise.specs.Optimised.{IsOptimised}
use Rattle.fc_phases.specs.Optimising.{Optimises}
use Rattle.fc_phases.proofs.Replayed.{replayed}
use Rattle.fc_reaching.specs.Numbering.{word_of}
use Rattle.fc_replayed_sets.specs.Replays.{IsReplay}
use Rattle.fc_replayed_sets.proofs.FormedLeft.{has_module_name, reached_formed}
use Rattle.fc_rows.specs.Replaying.{Replays, at_end, past_mark}
use Rattle.fc_rows.specs.ResultLimits.{IsWithinLimits}
use Rattle.fc_rows.specs.Telling.{reached_by_imports}

-- MARKS

pub marks_formed : (ps : List Phase) → All IsFormedEntry (map entry.Mark ps)
marks_formed [] = All-nil IsFormedEntry
marks_formed (p ∷ ps) = All-cons IsFormedEntry (entry.Mark p) (map entry.Mark ps) tt (marks_formed ps)

pub marks_shaped : (ps : List Phase) → GoesThrough ps (map entry.Mark ps)
marks_shaped [] = all_ended
marks_shaped (p ∷ ps) = ends_phase p (marks_shaped ps)

pub marks_replay : (xs : List NModule) (ps : List Phase) (n : NModule) → Replays xs (map entry.Mark ps) n n
marks_replay xs [] n = at_end
marks_replay xs (p ∷ ps) n = past_mark p (marks_replay xs ps n)

-- WHAT IS MADE

-- a replay, and that it is optimised
pub record IsOptimisedReplay (order : List Word) (before : List NModule) (l : Log) (read written : NModule) : Type 0 where
  pub replay : IsReplay order before l read written
  pub optimised : Optimises (reached_by_imports read before) l.entries read replay.left

pub is_replay : (order : List Word) (before : List NModule) (read left written : NModule) (name : Word) (es : List Entry) → All IsFormedModule (read ∷ before) → IsWithinLimits read → name ≡ word_of read
    → IsOptimised (reached_by_imports read before) es read left → written ≡ form_written_among order left → IsOptimisedReplay order before (record { «module» = name; entries = es }) read written
is_replay order before read left written name es formed within named (goes, made) headed =
    let own = All-head IsFormedModule read before formed in
    let xs = reached_by_imports read before in
    let others = reached_formed read before (All-tail IsFormedModule read before formed) in
    record {
      replay = record {
        formed = record {
          named = ap is_module_name named ∙ has_module_name read own;
          entries = logs_are_formed xs es read left (All-cons IsFormedModule read xs own others) within (replayed made);
        };
        of_module = named;
        shaped = goes;
        left = left;
        replays = replayed made;
        headed = headed;
      };
      optimised = made;
    }
