use Rattle.std.proofs.Common.{◌≡◌, drop}
use Rattle.fc_model.specs.NamelessView.{nalts_of}
use Rattle.fc_rows.specs.Shrinking.{alternative_of}
use Rattle.fc_case_known.specs.Alternatives.{head_of}
use Rattle.fc_case_known.proofs.alternatives.alternative_for.Given as goal

abbrev pub invariant-loop-alternative : goal.invariant-loop-alternative
invariant-loop-alternative l = alternative_of (head_of l.sought) (nalts_of (drop l.alternative-index l.alternatives)) ≡ alternative_of (head_of l.sought) (nalts_of l.alternatives)
