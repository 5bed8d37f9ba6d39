-- What is checked of the numbers one by one holds of all.
use Rattle.std.proofs.Common.{◌≡◌, ◌∙◌, ◌+◌, ◌<◌, ◌≤◌, ◌||◌, ◌↔◌, ℕ, zero, suc, Bool, true, false, nat_eq, List, [], ◌∷◌, get_or, inl, inr, length, map, take, slice_get, Some, refl, sym, ap, subst, arith}
use Rattle.std.proofs.lemmas.Bool.{cases_lt, or_cases}
use Rattle.std.proofs.lemmas.List.{get_or_past, length-map, take_more}
use Rattle.std.proofs.lemmas.Map.Keys.{any_passes_from_place}
use Rattle.fc_graph.specs.Certificates.{IsBelow, IsCertificate, Said}
use Rattle.fc_graph.specs.FindingsView.{AreBelow, finding_of, no_finding, said_by}
use Rattle.fc_graph.specs.Graphs.{AreOnCycles, HasPath, IsEdge, is_in, is_marked, next_of}
use Rattle.fc_graph.specs.declared.finding.Finding.{Finding}
use Rattle.fc_graph.proofs.Certified.{certified, path_ends}
use Rattle.fc_graph.proofs.Searching.{false_true, is_in_end, nat_eq_eq, nat_eq_refl}

-- EDGES

-- an edge at a position
pub edge_found : (graph : List (List ℕ)) (from at found to : ℕ) → Some found ≡ slice_get (next_of graph from) at → found ≡ to → to < length graph → IsEdge graph from to
edge_found graph from at found to here same low = record {
  listed = any_passes_from_place (nat_eq to) (next_of graph from) at found (sym here) (ap (nat_eq to) same ∙ nat_eq_refl to);
  within = low;
}

-- RANKS

module _ {graph : List (List ℕ)} {said : Said} {from : ℕ} where
  pub none_below : AreBelow graph said from []
  none_below = record { below = λ j h low. false_true h }

  -- one number more
  pub more_below : (numbers : List ℕ) (i : ℕ) → i < length numbers → AreBelow graph said from (take i numbers)
      → (get_or numbers i 0 < length graph → IsBelow said from (get_or numbers i 0)) → AreBelow graph said from (take (i + 1) numbers)
  more_below numbers i low before last = record {
    below = λ j h within.
        let to = get_or numbers i 0 in
        let split : (is_in j (take i numbers) || (nat_eq j to || false)) ≡ true = sym (is_in_end j to (take i numbers)) ∙ sym (ap (is_in j) (take_more numbers i 0 low)) ∙ h in
        elim (or_cases (is_in j (take i numbers)) (nat_eq j to || false) split) [
          | inl earlier ↦ before.below j earlier within
          | inr last_one ↦
              let same : j ≡ to = nat_eq_eq j to (elim (or_cases (nat_eq j to) false last_one) [ inl e ↦ e | inr e ↦ false_true e ]) in
              subst (λ k. IsBelow said from k) (sym same) (last (subst (λ k. k < length graph) same within))
        ];
  }

-- all that a number leads to is below it
pub all_ranked : (graph : List (List ℕ)) (said : Said) (i : ℕ) → AreBelow graph said i (next_of graph i) → (j : ℕ) → IsEdge graph i j → IsBelow said i j
all_ranked graph said i a j e = a.below j e.listed e.within

-- MARKS

-- nothing is found of what is not in the graph
pub others_unmarked : (graph : List (List ℕ)) (findings : List Finding) → length findings ≡ length graph → (i : ℕ) → length graph ≤ i → (finding_of findings i).marked ≡ false
others_unmarked graph findings count i high = ap (λ (f : Finding). f.marked) (get_or_past findings i no_finding (omega arith))

marked_at : (findings : List Finding) (i : ℕ) → is_marked (map (λ (f : Finding). f.marked) findings) i ≡ (finding_of findings i).marked
marked_at [] i = refl
marked_at (f ∷ findings) zero = refl
marked_at (f ∷ findings) (suc i) = marked_at findings i

-- the marks of findings that are a certificate
pub all_certified : (graph : List (List ℕ)) (findings : List Finding) (marks : List Bool) → length findings ≡ length graph → IsCertificate graph (said_by findings)
    → marks ≡ map (λ (f : Finding). f.marked) findings → AreOnCycles graph marks
all_certified graph findings marks count c is = record {
  count = ap length is ∙ length-map findings (λ (f : Finding). f.marked) ∙ count;
  on_cycle = λ i.
      subst (λ b. (b ≡ true) ↔ HasPath graph i i) (sym (ap (λ ms. is_marked ms i) is ∙ marked_at findings i)) (certified c i);
}

-- marks that are found one by one
pub all_found : (graph : List (List ℕ)) (marks : List Bool) → length marks ≡ length graph → ((i : ℕ) → i < length graph → (is_marked marks i ≡ true) ↔ HasPath graph i i) → AreOnCycles graph marks
all_found graph marks count each = record {
  count = count;
  on_cycle = λ i.
      elim (cases_lt i (length graph)) as (λ _. (is_marked marks i ≡ true) ↔ HasPath graph i i) [
        | inl low ↦ each i low
        | inr high ↦ (λ h. false_true (sym (get_or_past marks i false (omega arith)) ∙ h), λ p. absurd (omega (arith, path_ends p)))
      ];
}
