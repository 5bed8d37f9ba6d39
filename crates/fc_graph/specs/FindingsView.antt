-- What the findings of a search say of the numbers of a graph.
use Rattle.std.specs.Prelude.{◌≡◌, ◌<◌, ℕ, true, false, List, length, slice_index_or}
use Rattle.fc_graph.specs.Certificates.{IsBelow, Said}
use Rattle.fc_graph.specs.Graphs.{is_in}
use Rattle.fc_graph.specs.declared.finding.Finding.{Finding}
use Rattle.fc_graph.specs.declared.finding.Link.{Link}

-- of a number of which nothing is found
abbrev pub no_link : Link
no_link = record { other = 0; at = 0; distance = 0 }

abbrev pub no_finding : Finding
no_finding = record { rank = 0; marked = false; home = 0; ahead = no_link; behind = no_link }

-- what is found of a number
abbrev pub finding_of : List Finding → ℕ → Finding
finding_of findings i = slice_index_or findings i no_finding

-- what findings say
abbrev pub said_by : List Finding → Said
said_by findings = record {
  rank = λ i. (finding_of findings i).rank;
  marked = λ i. (finding_of findings i).marked;
  home = λ i. (finding_of findings i).home;
  ahead = λ i. (finding_of findings i).ahead.distance;
  behind = λ i. (finding_of findings i).behind.distance;
}

-- those of these numbers that are of the graph are below one that leads to them
pub record AreBelow (graph : List (List ℕ)) (said : Said) (i : ℕ) (numbers : List ℕ) : Type 0 where
  pub below : (j : ℕ) → is_in j numbers ≡ true → j < length graph → IsBelow said i j
