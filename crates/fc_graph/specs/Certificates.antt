-- Certificates: what is said of the numbers of a graph, from which one sees edge by edge which of them lie on a cycle.
use Rattle.std.specs.Prelude.{◌≡◌, ◌<◌, ◌≤◌, ◌⊎◌, ℕ, Bool, true, false, List, length}
use Rattle.fc_graph.specs.Graphs.{IsEdge}

-- What is said of each number: a rank, which no edge raises; whether it lies on a cycle; and if it does, a home, which leads to it and
-- to which it leads, with the length of a trail to there and of one from there.
pub record Said : Type 0 where
  pub rank : ℕ → ℕ
  pub marked : ℕ → Bool
  pub home : ℕ → ℕ
  pub ahead : ℕ → ℕ
  pub behind : ℕ → ℕ

-- a number has no higher rank than one that leads to it, and a lower one where that lies on no cycle
pub record IsBelow (said : Said) (i j : ℕ) : Type 0 where
  pub falls : said.rank j ≤ said.rank i
  pub parts : said.marked i ≡ false → said.rank j < said.rank i

-- a number has the home of another one, and is that home or nearer to it
pub record IsNearer (said : Said) (distance : ℕ → ℕ) (i j : ℕ) : Type 0 where
  pub marked : said.marked j ≡ true
  pub same_home : said.home j ≡ said.home i
  pub nearer : (j ≡ said.home i) ⊎ (distance j < distance i)

-- a number leads to one that is nearer to its home
pub record HasAhead (graph : List (List ℕ)) (said : Said) (i : ℕ) : Type 0 where
  pub other : ℕ
  pub edge : IsEdge graph i other
  pub nearer : IsNearer said said.ahead i other

-- one that is nearer to its home leads to a number
pub record HasBehind (graph : List (List ℕ)) (said : Said) (i : ℕ) : Type 0 where
  pub other : ℕ
  pub edge : IsEdge graph other i
  pub nearer : IsNearer said said.behind i other

-- a trail leads from a number to its home, and one to it from there, unless it is that home itself
pub record HasTrails (graph : List (List ℕ)) (said : Said) (i : ℕ) : Type 0 where
  pub ahead : HasAhead graph said i
  pub behind : (said.home i ≡ i) ⊎ HasBehind graph said i

-- what is said of a number is right, by its edges and those of its trails
pub record IsRight (graph : List (List ℕ)) (said : Said) (i : ℕ) : Type 0 where
  pub ranked : (j : ℕ) → IsEdge graph i j → IsBelow said i j
  pub trails : said.marked i ≡ true → HasTrails graph said i

-- what is said of each number of a graph is right, and of no other number it is said that it lies on a cycle
pub record IsCertificate (graph : List (List ℕ)) (said : Said) : Type 0 where
  pub right : (i : ℕ) → i < length graph → IsRight graph said i
  pub others : (i : ℕ) → length graph ≤ i → said.marked i ≡ false
