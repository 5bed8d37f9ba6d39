-- A certificate that is right tells which numbers of a graph lie on a cycle.
use Rattle.std.proofs.Common.{◌≡◌, ◌∙◌, ◌<◌, ◌≤◌, ◌↔◌, ℕ, zero, suc, true, false, List, [], inl, inr, length, sym, ap, subst, arith}
use Rattle.std.proofs.lemmas.Bool.{cases_lt}
use Rattle.std.proofs.lemmas.List.{get_or_past}
use Rattle.fc_graph.specs.Certificates.{HasTrails, IsBelow, IsCertificate, Said}
use Rattle.fc_graph.specs.Graphs.{HasPath, IsEdge, edge_then, is_in, last_edge}
use Rattle.fc_graph.proofs.Searching.{by_test, false_true, path_end}

module _ {graph : List (List ℕ)} where
  -- an edge begins and a path ends in the graph
  edge_begins : {i j : ℕ} → IsEdge graph i j → i < length graph
  edge_begins {i = i} {j = j} e =
      elim (cases_lt i (length graph)) [
        | inl low ↦ low
        | inr high ↦ false_true (sym (ap (is_in j) (get_or_past graph i [] high)) ∙ e.listed)
      ]

  pub path_ends : {i j : ℕ} → HasPath graph i j → j < length graph
  path_ends (last_edge i j e) = e.within
  path_ends (edge_then h i j e p) = path_ends p

module _ {graph : List (List ℕ)} {said : Said} (c : IsCertificate graph said) where
  -- RANKS

  edge_below : (i j : ℕ) → IsEdge graph i j → IsBelow said i j
  edge_below i j e = (c.right i (edge_begins e)).ranked j e

  path_falls : {i j : ℕ} → HasPath graph i j → said.rank j ≤ said.rank i
  path_falls (last_edge i j e) = (edge_below i j e).falls
  path_falls (edge_then h i j e p) = omega (arith, path_falls p, (edge_below i h e).falls)

  -- from what lies on no cycle a path leads down
  path_parts : {i j : ℕ} → HasPath graph i j → said.marked i ≡ false → said.rank j < said.rank i
  path_parts (last_edge i j e) unmarked = (edge_below i j e).parts unmarked
  path_parts (edge_then h i j e p) unmarked = omega (arith, path_falls p, (edge_below i h e).parts unmarked)

  -- TRAILS

  trails_of : (i : ℕ) → said.marked i ≡ true → HasTrails graph said i
  trails_of i h =
      elim (cases_lt i (length graph)) [
        | inl low ↦ (c.right i low).trails h
        | inr high ↦ false_true (sym (c.others i high) ∙ h)
      ]

  -- the trail ahead comes to the home
  ahead_home : (far i : ℕ) → said.ahead i < far → said.marked i ≡ true → HasPath graph i (said.home i)
  ahead_home zero i low h = absurd (omega arith)
  ahead_home (suc far) i low h =
      let a = (trails_of i h).ahead in
      elim a.nearer.nearer [
        | inl home ↦ subst (λ j. HasPath graph i j) home (last_edge i a.other a.edge)
        | inr near ↦ edge_then a.other i (said.home i) a.edge (subst (λ j. HasPath graph a.other j) a.nearer.same_home (ahead_home far a.other (omega arith) a.nearer.marked))
      ]

  -- what leads to the home leads on by the trail from there
  home_behind : (far i : ℕ) → said.behind i < far → said.marked i ≡ true → (k : ℕ) → HasPath graph k (said.home i) → HasPath graph k i
  home_behind zero i low h k p = absurd (omega arith)
  home_behind (suc far) i low h k p =
      elim (trails_of i h).behind [
        | inl home ↦ subst (λ j. HasPath graph k j) home p
        | inr b ↦
            path_end
            (elim b.nearer.nearer [
              | inl home ↦ subst (λ j. HasPath graph k j) (sym home) p
              | inr near ↦ home_behind far b.other (omega arith) b.nearer.marked k (subst (λ j. HasPath graph k j) (sym b.nearer.same_home) p)
            ])
            b.edge
      ]

  marked_cycle : (i : ℕ) → said.marked i ≡ true → HasPath graph i i
  marked_cycle i h = home_behind (suc (said.behind i)) i (omega arith) h i (ahead_home (suc (said.ahead i)) i (omega arith) h)

  -- THE LAW

  -- the numbers of which a certificate says that they lie on a cycle are those that do
  pub certified : (i : ℕ) → (said.marked i ≡ true) ↔ HasPath graph i i
  certified i = (marked_cycle i, λ p. by_test (said.marked i) (λ h. h) (λ h. absurd (omega (arith, path_parts p h))))
