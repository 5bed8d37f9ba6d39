-- A search in a graph, from its beginning to its end.
use Rattle.std.proofs.Common.{◌≡◌, ◌∙◌, ◌++◌, ◌||◌, ℕ, Bool, true, false, nat_eq, List, [], ◌∷◌, inl, inr, length, replicate, Result, Ok, Err, IfOk, refl, sym, ap, subst, arith, true≢false}
use Rattle.std.proofs.lemmas.Bool.Decides.{nat_tests}
use Rattle.std.proofs.lemmas.Bool.{cases_lt, or_from, or_left, or_right}
use Rattle.std.proofs.lemmas.List.{get_or-replicate, get_or_past, length-replicate}
use Rattle.std.proofs.lemmas.List.Folds.{list_any-append}
use Rattle.fc_graph.specs.Graphs.{AreMarked, AreReachedFrom, GoesOn, HasPath, IsEdge, IsReached, IsSearched, as_root, edge_then, from_root, is_in, is_marked, last_edge, next_of}

pub false_true : {X : Type 0} → false ≡ true → X
false_true h = absurd (true≢false (sym h))

pub nat_eq_refl : (i : ℕ) → nat_eq i i ≡ true
nat_eq_refl i = grind (arith, nat_tests)

pub nat_eq_eq : (i j : ℕ) → nat_eq i j ≡ true → i ≡ j
nat_eq_eq i j h = grind (arith, nat_tests)

-- by cases on a test
pub by_test : {Y : Type 0} (b : Bool) → (b ≡ true → Y) → (b ≡ false → Y) → Y
by_test true f g = f refl
by_test false f g = g refl

-- a path and an edge behind it
pub path_end : {graph : List (List ℕ)} {i h j : ℕ} → HasPath graph i h → IsEdge graph h j → HasPath graph i j
path_end {j = j} (last_edge i h e) f = edge_then h i j e (last_edge h j f)
path_end {j = j} (edge_then k i h e p) f = edge_then k i j e (path_end p f)

none_marked : (n i : ℕ) → is_marked (replicate n false) i ≡ false
none_marked n i =
    elim (cases_lt i n) [ inl low ↦ get_or-replicate n i false false low | inr high ↦ get_or_past (replicate n false) i false (omega (arith, length-replicate n false)) ]

pub is_in_end : (i x : ℕ) (ns : List ℕ) → is_in i (ns ++ x ∷ []) ≡ (is_in i ns || (nat_eq i x || false))
is_in_end i x ns = list_any-append (nat_eq i) ns (x ∷ [])

-- nothing is marked, and the roots are still to come
pub searched_none : (graph : List (List ℕ)) (roots : List ℕ) (marks : List Bool) (waiting : List ℕ) → marks ≡ replicate (length graph) false → waiting ≡ [] → IsSearched graph roots marks waiting roots
searched_none graph roots marks waiting is empty =
    let unmarked = λ (i : ℕ). ap (λ ms. is_marked ms i) is ∙ none_marked (length graph) i in
    record {
      count = ap length is ∙ length-replicate (length graph) false;
      marked = λ j h. false_true (sym (unmarked j) ∙ h);
      waits = λ j h. false_true (sym (ap (is_in j) empty) ∙ h);
      comes = λ j h low. as_root j (record { listed = h; within = low });
      first = λ j r h. false_true (sym h ∙ r.listed);
      next = λ i j h. false_true (sym (unmarked i) ∙ h);
    }

-- what is reached, and an edge behind it
reached_end : {graph : List (List ℕ)} {roots : List ℕ} {h j : ℕ} → IsReached graph roots h → IsEdge graph h j → IsReached graph roots j
reached_end {j = j} (as_root h r) e = from_root h j r (last_edge h j e)
reached_end {j = j} (from_root i h r p) e = from_root i j r (path_end p e)

-- what one that waits leads to comes next
pub searched_next : (graph : List (List ℕ)) (roots : List ℕ) (marks : List Bool) (waiting : List ℕ) (x : ℕ) → IsSearched graph roots marks (waiting ++ x ∷ []) [] → IsSearched graph roots marks waiting (next_of graph x)
searched_next graph roots marks waiting x s = record {
  count = s.count;
  marked = s.marked;
  waits = λ j h. s.waits j (is_in_end j x waiting ∙ or_left (is_in j waiting) (nat_eq j x || false) h);
  comes = λ j h low.
      reached_end (s.waits x (is_in_end x x waiting ∙ or_right (is_in x waiting) (nat_eq x x || false) (or_left (nat_eq x x) false (nat_eq_refl x)))) (record { listed = h; within = low });
  first = λ j r h. s.first j r refl;
  next = λ i j marked waits e h.
      by_test (nat_eq i x)
      (λ same. false_true (sym h ∙ subst (λ (k : ℕ). is_in j (next_of graph k) ≡ true) (nat_eq_eq i x same) e.listed))
      (λ other. s.next i j marked (is_in_end i x waiting ∙ or_from (is_in i waiting) (nat_eq i x || false) waits (or_from (nat_eq i x) false other refl)) e refl);
}

-- what is marked keeps what it leads to
path_marked : {graph : List (List ℕ)} {roots : List ℕ} {i j : ℕ} {marks : List Bool} → IsSearched graph roots marks [] [] → HasPath graph i j → is_marked marks i ≡ true → is_marked marks j ≡ true
path_marked s (last_edge i j e) h = s.next i j h refl e refl
path_marked s (edge_then k i j e p) h = path_marked s p (s.next i k h refl e refl)

reached_marked : {graph : List (List ℕ)} {roots : List ℕ} {j : ℕ} {marks : List Bool} → IsReached graph roots j → IsSearched graph roots marks [] [] → is_marked marks j ≡ true
reached_marked (as_root j r) s = s.first j r refl
reached_marked (from_root i j r p) s = path_marked s p (s.first i r refl)

-- where nothing waits, all is found
pub searched_all : (graph : List (List ℕ)) (roots : List ℕ) (marks : List Bool) → IsSearched graph roots marks [] [] → AreReachedFrom graph roots marks
searched_all graph roots marks s = λ j. (s.marked j, λ r. reached_marked r s)

-- a search that goes on twice
pub goes_on_both : (ms ms' ms'' : List Bool) (ws cs ws' cs' ws'' cs'' : List ℕ) → GoesOn ms ws cs ms' ws' cs' → GoesOn ms' ws' cs' ms'' ws'' cs'' → GoesOn ms ws cs ms'' ws'' cs''
goes_on_both ms ms' ms'' ws cs ws' cs' ws'' cs'' a b = record { left = b.left ∙ a.left; searched = λ graph roots s. b.searched graph roots (a.searched graph roots s) }

-- what one leads to is reached from its successors
path_from : {graph : List (List ℕ)} {from j : ℕ} → IsReached graph (next_of graph from) j → HasPath graph from j
path_from {from = from} (as_root j r) = last_edge from j (record { listed = r.listed; within = r.within })
path_from {from = from} (from_root i j r p) = edge_then i from j (record { listed = r.listed; within = r.within }) p

reached_by : {graph : List (List ℕ)} {from j : ℕ} → HasPath graph from j → IsReached graph (next_of graph from) j
reached_by (last_edge i j e) = as_root j (record { listed = e.listed; within = e.within })
reached_by (edge_then h i j e p) = from_root h j (record { listed = e.listed; within = e.within }) p

pub marked_from : (graph : List (List ℕ)) (from : ℕ) (marks : List Bool) → AreReachedFrom graph (next_of graph from) marks → AreMarked graph from marks
marked_from graph from marks are = λ j. (λ h. path_from ((are j).0 h), λ p. (are j).1 (reached_by p))

-- its successors as the roots
pub marked_by_next : {X Z : Type 0} (items : X → List Bool) (graph : List (List ℕ)) (from : ℕ) (next : List ℕ) (r : Result X Z) → next ≡ next_of graph from
    → IfOk r (λ x. AreReachedFrom graph next (items x)) → IfOk r (λ x. AreMarked graph from (items x))
marked_by_next items graph from next (Ok x) is h = marked_from graph from (items x) (subst (λ ns. AreReachedFrom graph ns (items x)) is h)
marked_by_next items graph from next (Err y) is h = tt
