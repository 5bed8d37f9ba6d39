-- Graphs over numbers, in which each number leads to those of its list, and what a search in them has found.
use Rattle.std.specs.Prelude.{◌≡◌, ◌<◌, ◌+◌, ◌↔◌, ℕ, Bool, true, false, not, nat_eq, List, [], length, slice_index_or}
use Rattle.std.specs.List.{count_by, list_any}

-- the numbers that a number leads to
abbrev pub next_of : List (List ℕ) → ℕ → List ℕ
next_of graph i = slice_index_or graph i []

-- a number is in a list
abbrev pub is_in : ℕ → List ℕ → Bool
is_in i ns = list_any (nat_eq i) ns

-- a number leads to another one of the graph
pub record IsEdge (graph : List (List ℕ)) (i j : ℕ) : Type 0 where
  pub listed : is_in j (next_of graph i) ≡ true
  pub within : j < length graph

-- a number leads to another by one edge or more
pub data HasPath (graph : List (List ℕ)) : ℕ → ℕ → Type 0 where
  last_edge : (i j : ℕ) → IsEdge graph i j → HasPath graph i j
  edge_then : (h i j : ℕ) → IsEdge graph i h → HasPath graph h j → HasPath graph i j

-- a number is marked
abbrev pub is_marked : List Bool → ℕ → Bool
is_marked marks i = slice_index_or marks i false

-- the numbers that one leads to are marked, and no others
abbrev pub AreMarked : List (List ℕ) → ℕ → List Bool → Type 0
AreMarked graph from marks = (j : ℕ) → (is_marked marks j ≡ true) ↔ HasPath graph from j

-- a number of the graph is one of the roots
pub record IsRoot (graph : List (List ℕ)) (roots : List ℕ) (i : ℕ) : Type 0 where
  pub listed : is_in i roots ≡ true
  pub within : i < length graph

-- a number is one of the roots, or one of them leads to it by one edge or more
pub data IsReached (graph : List (List ℕ)) (roots : List ℕ) : ℕ → Type 0 where
  as_root : (j : ℕ) → IsRoot graph roots j → IsReached graph roots j
  from_root : (i j : ℕ) → IsRoot graph roots i → HasPath graph i j → IsReached graph roots j

-- the roots and the numbers that they lead to are marked, and no others
abbrev pub AreReachedFrom : List (List ℕ) → List ℕ → List Bool → Type 0
AreReachedFrom graph roots marks = (j : ℕ) → (is_marked marks j ≡ true) ↔ IsReached graph roots j

-- A search: what is marked or still to come is reached, the roots are marked or still to come, and so is what is reached by one edge from
-- what is marked and does not wait.
pub record IsSearched (graph : List (List ℕ)) (roots : List ℕ) (marks : List Bool) (waiting coming : List ℕ) : Type 0 where
  pub count : length marks ≡ length graph
  pub marked : (j : ℕ) → is_marked marks j ≡ true → IsReached graph roots j
  pub waits : (j : ℕ) → is_in j waiting ≡ true → IsReached graph roots j
  pub comes : (j : ℕ) → is_in j coming ≡ true → j < length graph → IsReached graph roots j
  pub first : (j : ℕ) → IsRoot graph roots j → is_in j coming ≡ false → is_marked marks j ≡ true
  pub next : (i j : ℕ) → is_marked marks i ≡ true → is_in i waiting ≡ false → IsEdge graph i j → is_in j coming ≡ false → is_marked marks j ≡ true

-- how many numbers wait or are not marked
abbrev pub left_in : List Bool → List ℕ → ℕ
left_in marks waiting = count_by not marks + length waiting

-- a search goes on, and as many are left
pub record GoesOn (marks : List Bool) (waiting coming : List ℕ) (marks' : List Bool) (waiting' coming' : List ℕ) : Type 0 where
  pub left : left_in marks' waiting' ≡ left_in marks waiting
  pub searched : (graph : List (List ℕ)) (roots : List ℕ) → IsSearched graph roots marks waiting coming → IsSearched graph roots marks' waiting' coming'

-- the numbers that lie on a cycle are marked, and no others: those from which a path of one edge or more leads back
pub record AreOnCycles (graph : List (List ℕ)) (marks : List Bool) : Type 0 where
  pub count : length marks ≡ length graph
  pub on_cycle : (i : ℕ) → (is_marked marks i ≡ true) ↔ HasPath graph i i
