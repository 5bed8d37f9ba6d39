-- The definitions that none of some words reaches are those that the search from the numbers of these words leaves.
use Rattle.std.proofs.Common.{◌≡◌, ◌∙◌, ◌+◌, ◌<◌, ◌||◌, ℕ, Bool, true, false, not, if◌then◌else◌, List, [], ◌∷◌, ◌++◌, get_or, inl, inr, length, map, take, Option, Some, None, refl, sym, ap, subst, arith}
use Rattle.std.specs.List.{filter_map}
use Rattle.std.specs.Option.{option_map_or}
use Rattle.std.specs.Str.{bytes_eq}
use Rattle.std.proofs.lemmas.Bool.{or_cases, or_left, or_right}
use Rattle.std.proofs.lemmas.List.{length-map, map-append, take_more}
use Rattle.std.proofs.lemmas.List.Elements.{filter_map-append}
use Rattle.fc_syntax.specs.declared.ty.Name.{Name}
use Rattle.fc_syntax.specs.Tree.{Word}
use Rattle.fc_model.proofs.Sameness.{bytes_eq_eq, bytes_eq_refl, false_true, nat_eq_eq, nat_eq_refl}
use Rattle.fc_model.specs.Nameless.{NDecl, NData, NNew, NFamily, NAxiom, NDef, NWrap, NModule, NModuleOf}
use Rattle.fc_model.specs.Planning.{is_among}
use Rattle.fc_graph.specs.Graphs.{AreReachedFrom, IsReached, IsRoot, is_in, is_marked}
use Rattle.fc_graph.specs.Graphs as graphs
use Rattle.fc_reaching.specs.Numbering.{has_mark, meant_in, mention_graph, names_of_decl, number_from, number_in, number_meant}
use Rattle.fc_reaching.specs.Reaching.{ReachesDefinition, at_once, decls_in, defined_words, through}
use Rattle.fc_reaching.specs.Remaining.{AreUnreached, IsReachedFrom, as_root, defines_other, from_root}
use Rattle.fc_reaching.proofs.Reached.{first_is, has_number, hits, in_cons, marked_number, one_word, path_reaches, reaches_path}
use denote.Ref.{Bor}

-- the numbers of one word more
pub numbers_more : (number : Word → Option ℕ) (items : List (Bor (List ℕ))) (i : ℕ) (z : Bor (List ℕ)) (old new : List ℕ) → i < length items → old ≡ filter_map number (map (λ w. w.now) (take i items))
    → new ≡ old ++ filter_map number ((get_or items i z).now ∷ []) → new ≡ filter_map number (map (λ w. w.now) (take (i + 1) items))
numbers_more number items i z old new low before more =
    more ∙ ap (λ ns. ns ++ filter_map number ((get_or items i z).now ∷ [])) before
    ∙ sym (filter_map-append number (map (λ w. w.now) (take i items)) ((get_or items i z).now ∷ []))
    ∙ ap (filter_map number) (sym (map-append (λ w. w.now) (take i items) (get_or items i z ∷ [])))
    ∙ ap (λ ws. filter_map number (map (λ w. w.now) ws)) (sym (take_more items i z low))

-- WORDS AND THEIR NUMBERS

number_or : (b rest : Bool) (k : ℕ) (o : Option ℕ) → (b || rest) ≡ true → (rest ≡ true → (i : ℕ) × (o ≡ Some i)) → (i : ℕ) × ((if b then Some k else o) ≡ Some i)
number_or true rest k o h later = (k, refl)
number_or false rest k o h later = later h

-- a word that is defined has a number
defined_number : (ds : List NDecl) (k : ℕ) (w : Word) → is_among (defined_words ds) w ≡ true → (i : ℕ) × (number_from k ds w ≡ Some i)
defined_number [] k w h = false_true h
defined_number (NData n ps cs ∷ ds) k w h = defined_number ds (k + 1) w h
defined_number (NNew n ps t con ∷ ds) k w h = defined_number ds (k + 1) w h
defined_number (NFamily n ps j ∷ ds) k w h = defined_number ds (k + 1) w h
defined_number (NAxiom n ps t u ∷ ds) k w h = defined_number ds (k + 1) w h
defined_number (NDef n t e ∷ ds) k w h = number_or (bytes_eq n w) (is_among (defined_words ds) w) k (number_from (k + 1) ds w) h (defined_number ds (k + 1) w)
defined_number (NWrap n t e ∷ ds) k w h = number_or (bytes_eq n w) (is_among (defined_words ds) w) k (number_from (k + 1) ds w) h (defined_number ds (k + 1) w)

-- two tests that agree on the words that are defined tell of each declaration the same
same_others : (f g : Word → Bool) (ds : List NDecl) → ((w : Word) → is_among (defined_words ds) w ≡ true → f w ≡ g w) → map (defines_other f) ds ≡ map (defines_other g) ds
same_others f g [] same = refl
same_others f g (NData n ps cs ∷ ds) same = ap (λ bs. false ∷ bs) (same_others f g ds same)
same_others f g (NNew n ps t con ∷ ds) same = ap (λ bs. false ∷ bs) (same_others f g ds same)
same_others f g (NFamily n ps k ∷ ds) same = ap (λ bs. false ∷ bs) (same_others f g ds same)
same_others f g (NAxiom n ps t u ∷ ds) same = ap (λ bs. false ∷ bs) (same_others f g ds same)
same_others f g (NDef n t e ∷ ds) same =
    ap (λ b. not b ∷ map (defines_other f) ds) (same n (or_left (bytes_eq n n) (is_among (defined_words ds) n) (bytes_eq_refl n)))
    ∙ ap (λ bs. not (g n) ∷ bs) (same_others f g ds (λ w h. same w (or_right (bytes_eq n w) (is_among (defined_words ds) w) h)))
same_others f g (NWrap n t e ∷ ds) same =
    ap (λ b. not b ∷ map (defines_other f) ds) (same n (or_left (bytes_eq n n) (is_among (defined_words ds) n) (bytes_eq_refl n)))
    ∙ ap (λ bs. not (g n) ∷ bs) (same_others f g ds (λ w h. same w (or_right (bytes_eq n w) (is_among (defined_words ds) w) h)))

hit_is : (i : ℕ) (o : Option ℕ) → hits i o ≡ true → o ≡ Some i
hit_is i None h = false_true h
hit_is i (Some j) h = ap (λ k. Some k) (sym (nat_eq_eq i j h))

-- a number among those of some words is that of one of them
number_word : (number : Word → Option ℕ) (i : ℕ) (ws : List Word) → is_in i (filter_map number ws) ≡ true → (w : Word) × (is_among ws w ≡ true) × (number w ≡ Some i)
number_word number i [] h = false_true h
number_word number i (v ∷ ws) h =
    elim (or_cases (hits i (number v)) (is_in i (filter_map number ws)) (sym (in_cons i (number v) (filter_map number ws)) ∙ h)) [
      | inl hit ↦ (v, or_left (bytes_eq v v) (is_among ws v) (bytes_eq_refl v), hit_is i (number v) hit)
      | inr later ↦ (let r = number_word number i ws later in (r.0, or_right (bytes_eq v r.0) (is_among ws r.0) r.1, r.2))
    ]

-- and the number of one of them is among them
word_number : (number : Word → Option ℕ) (i : ℕ) (w : Word) (ws : List Word) → number w ≡ Some i → is_among ws w ≡ true → is_in i (filter_map number ws) ≡ true
word_number number i w [] is h = false_true h
word_number number i w (v ∷ ws) is h =
    in_cons i (number v) (filter_map number ws)
    ∙ elim (or_cases (bytes_eq v w) (is_among ws w) h) [
      | inl same ↦ or_left (hits i (number v)) (is_in i (filter_map number ws)) (ap (λ u. hits i (number u)) (bytes_eq_eq v w same) ∙ ap (hits i) is ∙ nat_eq_refl i)
      | inr later ↦ or_right (hits i (number v)) (is_in i (filter_map number ws)) (word_number number i w ws is later)
    ]

-- WHAT IS REACHED FROM ROOTS

or_same : (b c : Bool) → (b ≡ true → c ≡ true) → (b || c) ≡ c
or_same true c h = sym (h refl)
or_same false c h = refl

module _ (own : Word) (imports exports hidden : List Word) (ds : List NDecl) (roots : List Word) (marks : List Bool) where
  abbrev m : NModule
  m = NModuleOf own imports exports hidden ds

  abbrev number : Word → Option ℕ
  number = number_from 0 ds

  abbrev graph : List (List ℕ)
  graph = mention_graph (number_meant own number) ds

  abbrev numbers : List ℕ
  numbers = filter_map number roots

  abbrev test : Word → Bool
  test w = is_among roots w || has_mark number marks w

  root_number : (v : Word) (i : ℕ) → is_among roots v ≡ true → number v ≡ Some i → IsRoot graph numbers i
  root_number v i a h =
      let f = first_is ds 0 i v h in
      record { listed = word_number number i v roots h a; within = omega (arith, f.number, f.low, length-map ds (λ (d : NDecl). filter_map (number_meant own number) (names_of_decl d))) }

  reached_word : {j : ℕ} → IsReached graph numbers j → (w : Word) → number w ≡ Some j → IsReachedFrom m roots w
  reached_word (graphs.as_root j r) w h =
      let v = number_word number j roots r.listed in
      as_root w (subst (λ u. is_among roots u ≡ true) (one_word ds j v.0 w v.2 h) v.1)
  reached_word (graphs.from_root i j r p) w h =
      let v = number_word number i roots r.listed in
      let q = path_reaches own imports exports hidden ds p v.0 v.2 in
      from_root v.0 w v.1 (subst (λ u. ReachesDefinition m v.0 u) (one_word ds j q.0 w q.1 h) q.2)

  reaching_number : {v w : Word} → ReachesDefinition m v w → (i : ℕ) × (number v ≡ Some i)
  reaching_number (at_once v w d) = has_number ds 0 v d.right d.defined
  reaching_number (through u v w d r) = has_number ds 0 v d.right d.defined

  module _ (all : AreReachedFrom graph numbers marks) where
    marked_word : (w : Word) (j : ℕ) → number w ≡ Some j → IsReached graph numbers j → has_mark number marks w ≡ true
    marked_word w j h r = ap (λ o. option_map_or (is_marked marks) o false) h ∙ (all j).1 r

    test_reached : (w : Word) → test w ≡ true → IsReachedFrom m roots w
    test_reached w h =
        elim (or_cases (is_among roots w) (has_mark number marks w) h) [
          | inl a ↦ as_root w a
          | inr found ↦ (let j = marked_number marks (number w) found in reached_word ((all j.0).0 j.2) w j.1)
        ]

    reached_test : (w : Word) → IsReachedFrom m roots w → test w ≡ true
    reached_test w (as_root u a) = or_left (is_among roots u) (has_mark number marks u) a
    reached_test w (from_root v u a r) =
        let i = reaching_number r in
        let p = reaches_path own imports exports hidden ds r i.0 i.1 in
        or_right (is_among roots u) (has_mark number marks u) (marked_word u p.0 p.1 (graphs.from_root i.0 p.0 (root_number v i.0 a i.1) p.2))

    test_marked : (w : Word) → is_among (defined_words ds) w ≡ true → test w ≡ has_mark number marks w
    test_marked w d =
        let j = defined_number ds 0 w d in
        or_same (is_among roots w) (has_mark number marks w) (λ a. marked_word w j.0 j.1 (graphs.as_root j.0 (root_number w j.0 a j.1)))

    are_unreached : (left : List Bool) → left ≡ map (defines_other (has_mark number marks)) ds → AreUnreached m roots left
    are_unreached left is = record { is_reached = test; reached = λ w. (test_reached w, reached_test w); in_order = is ∙ sym (same_others test (has_mark number marks) ds test_marked) }

-- THE WHOLE

unreached_in : (m : NModule) (roots : List Word) (marks left : List Bool) → AreReachedFrom (mention_graph (meant_in m) (decls_in m)) (filter_map (number_in m) roots) marks
    → left ≡ map (defines_other (has_mark (number_in m) marks)) (decls_in m) → AreUnreached m roots left
unreached_in (NModuleOf own imports exports hidden ds) roots marks left all is = are_unreached own imports exports hidden ds roots marks all left is

-- the definitions whose words have no marked number, where what the numbers of roots lead to is marked, are those that the roots do not reach
pub left_unreached : (m : NModule) (meant : Name → Option ℕ) (number : Word → Option ℕ) (ds : List NDecl) (graph : List (List ℕ)) (numbers : List ℕ) (roots : List Word) (marks left : List Bool) → meant ≡ meant_in m
    → number ≡ number_in m → ds ≡ decls_in m → graph ≡ mention_graph meant ds → numbers ≡ filter_map number roots → AreReachedFrom graph numbers marks → left ≡ map (defines_other (has_mark number marks)) ds
    → AreUnreached m roots left
left_unreached m meant number ds graph numbers roots marks left same_meant same_number same_decls is_graph are_numbers all is =
    let graph_is : graph ≡ mention_graph (meant_in m) (decls_in m) = is_graph ∙ ap (λ f. mention_graph f ds) same_meant ∙ ap (mention_graph (meant_in m)) same_decls in
    let numbers_are : numbers ≡ filter_map (number_in m) roots = are_numbers ∙ ap (λ f. filter_map f roots) same_number in
    let left_is : left ≡ map (defines_other (has_mark (number_in m) marks)) (decls_in m) = is ∙ ap (λ f. map (defines_other (has_mark f marks)) ds) same_number ∙ ap (map (defines_other (has_mark (number_in m) marks))) same_decls in
    unreached_in m roots marks left (subst (λ g. AreReachedFrom g (filter_map (number_in m) roots) marks) graph_is (subst (λ ns. AreReachedFrom graph ns marks) numbers_are all)) left_is
