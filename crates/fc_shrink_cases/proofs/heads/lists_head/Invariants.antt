use Rattle.std.proofs.Common.{◌≡◌, drop}
use Rattle.std.specs.List.{list_any}
use Rattle.fc_model.specs.NamelessView.{nalts_of}
use Rattle.fc_rows.specs.Shrinking.{same_head}
use Rattle.fc_rows.specs.Surroundings.{listed_heads}
use Rattle.fc_shrink_cases.proofs.heads.lists_head.Given as goal

abbrev pub invariant-loop-alternative : goal.invariant-loop-alternative
invariant-loop-alternative l =
    list_any (same_head l.head) (listed_heads (nalts_of (drop l.alternative-index l.alternatives))) ≡ list_any (same_head l.head) (listed_heads (nalts_of l.alternatives))
