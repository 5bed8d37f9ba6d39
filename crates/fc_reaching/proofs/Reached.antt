-- What a definition reaches by words is what its number leads to in the graph of mentions.
use Rattle.std.proofs.Common.{◌≡◌, ◌∙◌, ◌+◌, ◌<◌, ◌&&◌, ◌||◌, ℕ, zero, suc, Bool, true, false, nat_eq, bytes_eq, if◌then◌else◌, List, [], ◌∷◌, get_or, inl, inr, length, Option, Some, None, refl, sym, ap, subst, arith}
use Rattle.std.specs.List.{cons_option, filter, filter_map, list_any}
use Rattle.std.specs.Option.{option_map_or}
use Rattle.std.proofs.lemmas.Bool.{or_cases}
use Rattle.std.proofs.lemmas.List.{get_or-map, length-map}
use Rattle.fc_syntax.specs.declared.ty.Name.{Name}
use Rattle.fc_syntax.specs.Tree.{Word}
use Rattle.fc_model.proofs.Sameness.{bytes_eq_eq, bytes_eq_refl, false_true, name_of, nat_eq_eq, nat_eq_refl}
use Rattle.fc_model.specs.Kinding.{same_name, same_word}
use Rattle.fc_model.specs.Nameless.{NExpr, NDecl, NData, NNew, NFamily, NAxiom, NDef, NWrap, NModule, NModuleOf}
use Rattle.fc_graph.specs.Graphs.{AreOnCycles, HasPath, IsEdge, edge_then, is_in, is_marked, last_edge, next_of}
use Rattle.fc_reaching.specs.Numbering.{AreFound, has_mark, meant_in, mention_graph, names_of_decl, number_from, number_in, number_meant}
use Rattle.fc_reaching.specs.Reaching.{AreReached, MentionsDefinition, ReachesDefinition, at_once, decls_in, defined_words, names_in, right_side, through}
use Rattle.fc_reaching.specs.Recursion.{AreRecursive, IsRecursive}
use Rattle.fc_graph.proofs.Searching.{by_test}

-- THE FIRST DEFINITION OF A WORD

abbrev word_of_decl : NDecl → Option Word
word_of_decl (NData n ps cs) = None
word_of_decl (NNew n ps t con) = None
word_of_decl (NFamily n ps k) = None
word_of_decl (NAxiom n ps t u) = None
word_of_decl (NDef n t e) = Some n
word_of_decl (NWrap n t e) = Some n

-- where the first definition of a word stands among declarations, of which the first has the number k, and what it says
pub record IsFirst (ds : List NDecl) (k i : ℕ) (w : Word) : Type 0 where
  pub place : ℕ
  pub number : i ≡ k + place
  pub low : place < length ds
  decl : NDecl
  here : (z : NDecl) → get_or ds place z ≡ decl
  word : word_of_decl decl ≡ Some w
  right : NExpr
  defined : right_side ds w ≡ Some right
  names : names_of_decl decl ≡ names_in right

first_later : (d : NDecl) (ds : List NDecl) (k i : ℕ) (w : Word) → right_side (d ∷ ds) w ≡ right_side ds w → IsFirst ds (k + 1) i w → IsFirst (d ∷ ds) k i w
first_later d ds k i w same f = record {
  place = suc f.place;
  number = omega arith;
  low = omega arith;
  decl = f.decl;
  here = f.here;
  word = f.word;
  right = f.right;
  defined = same ∙ f.defined;
  names = f.names;
}

first_here : (d : NDecl) (ds : List NDecl) (k : ℕ) (w n : Word) (e : NExpr) → word_of_decl d ≡ Some n → names_of_decl d ≡ names_in e → bytes_eq n w ≡ true → right_side (d ∷ ds) w ≡ Some e → IsFirst (d ∷ ds) k k w
first_here d ds k w n e word names same defined = record {
  place = 0;
  number = omega arith;
  low = omega arith;
  decl = d;
  here = λ z. refl;
  word = word ∙ ap (λ v. Some v) (bytes_eq_eq n w same);
  right = e;
  defined = defined;
  names = names;
}

some_some : {X : Type 0} (x y : X) → Some x ≡ Some y → x ≡ y
some_some x y h = cc

-- a definition of the word, or of another one
first_or_later : (d : NDecl) (ds : List NDecl) (k i : ℕ) (w n : Word) (e : NExpr) → word_of_decl d ≡ Some n → names_of_decl d ≡ names_in e → right_side (d ∷ ds) w ≡ (if bytes_eq n w then Some e else right_side ds w)
    → (if bytes_eq n w then Some k else number_from (k + 1) ds w) ≡ Some i → (number_from (k + 1) ds w ≡ Some i → IsFirst ds (k + 1) i w) → IsFirst (d ∷ ds) k i w
first_or_later d ds k i w n e word names right h later =
    by_test (bytes_eq n w)
    (λ same.
    let number : k ≡ i = some_some k i (sym (ap (λ b. if b then Some k else number_from (k + 1) ds w) same) ∙ h) in
    subst (λ j. IsFirst (d ∷ ds) k j w) number (first_here d ds k w n e word names same (right ∙ ap (λ b. if b then Some e else right_side ds w) same)))
    (λ other.
    first_later d ds k i w (right ∙ ap (λ b. if b then Some e else right_side ds w) other)
    (later (sym (ap (λ b. if b then Some k else number_from (k + 1) ds w) other) ∙ h)))

pub first_is : (ds : List NDecl) (k i : ℕ) (w : Word) → number_from k ds w ≡ Some i → IsFirst ds k i w
first_is [] k i w h = absurd cc
first_is (NData n ps cs ∷ ds) k i w h = first_later (NData n ps cs) ds k i w refl (first_is ds (k + 1) i w h)
first_is (NNew n ps t con ∷ ds) k i w h = first_later (NNew n ps t con) ds k i w refl (first_is ds (k + 1) i w h)
first_is (NFamily n ps j ∷ ds) k i w h = first_later (NFamily n ps j) ds k i w refl (first_is ds (k + 1) i w h)
first_is (NAxiom n ps t u ∷ ds) k i w h = first_later (NAxiom n ps t u) ds k i w refl (first_is ds (k + 1) i w h)
first_is (NDef n t e ∷ ds) k i w h = first_or_later (NDef n t e) ds k i w n e refl refl refl h (first_is ds (k + 1) i w)
first_is (NWrap n t e ∷ ds) k i w h = first_or_later (NWrap n t e) ds k i w n e refl refl refl h (first_is ds (k + 1) i w)

number_or : (b : Bool) (k : ℕ) (o : Option ℕ) (r e : NExpr) (p : Option NExpr) → (if b then Some r else p) ≡ Some e → (p ≡ Some e → (i : ℕ) × (o ≡ Some i)) → (i : ℕ) × ((if b then Some k else o) ≡ Some i)
number_or true k o r e p h later = (k, refl)
number_or false k o r e p h later = later h

-- a word that has a definition has a number
pub has_number : (ds : List NDecl) (k : ℕ) (w : Word) (e : NExpr) → right_side ds w ≡ Some e → (i : ℕ) × (number_from k ds w ≡ Some i)
has_number [] k w e h = absurd cc
has_number (NData n ps cs ∷ ds) k w e h = has_number ds (k + 1) w e h
has_number (NNew n ps t con ∷ ds) k w e h = has_number ds (k + 1) w e h
has_number (NFamily n ps j ∷ ds) k w e h = has_number ds (k + 1) w e h
has_number (NAxiom n ps t u ∷ ds) k w e h = has_number ds (k + 1) w e h
has_number (NDef n t r ∷ ds) k w e h = number_or (bytes_eq n w) k (number_from (k + 1) ds w) r e (right_side ds w) h (has_number ds (k + 1) w e)
has_number (NWrap n t r ∷ ds) k w e h = number_or (bytes_eq n w) k (number_from (k + 1) ds w) r e (right_side ds w) h (has_number ds (k + 1) w e)

-- two words of one number are the same
pub one_word : (ds : List NDecl) (i : ℕ) (v w : Word) → number_from 0 ds v ≡ Some i → number_from 0 ds w ≡ Some i → v ≡ w
one_word ds i v w h g =
    let a = first_is ds 0 i v h in
    let b = first_is ds 0 i w g in
    let place : a.place ≡ b.place = omega (arith, a.number, b.number) in
    let decl : a.decl ≡ b.decl = sym (a.here a.decl) ∙ ap (λ p. get_or ds p a.decl) place ∙ b.here a.decl in
    some_some v w (sym a.word ∙ ap word_of_decl decl ∙ b.word)

-- NAMES AND NUMBERS

-- a number that may be there is this one
abbrev pub hits : ℕ → Option ℕ → Bool
hits j o = option_map_or (nat_eq j) o false

pub in_cons : (j : ℕ) (o : Option ℕ) (ns : List ℕ) → is_in j (cons_option o ns) ≡ (hits j o || is_in j ns)
in_cons j None ns = refl
in_cons j (Some i) ns = refl

hits_other : (ds : List NDecl) (j : ℕ) (w v : Word) → number_from 0 ds w ≡ Some j → bytes_eq w v ≡ false → (o : Option ℕ) → number_from 0 ds v ≡ o → hits j o ≡ false
hits_other ds j w v h other None is = refl
hits_other ds j w v h other (Some i) is =
    by_test (nat_eq j i)
    (λ e.
    let same : w ≡ v = one_word ds j w v h (is ∙ ap (λ k. Some k) (sym (nat_eq_eq j i e))) in
    false_true (sym other ∙ ap (bytes_eq w) (sym same) ∙ bytes_eq_refl w))
    (λ e. e)

hits_word : (ds : List NDecl) (j : ℕ) (w v : Word) → number_from 0 ds w ≡ Some j → hits j (number_from 0 ds v) ≡ bytes_eq w v
hits_word ds j w v h =
    by_test (bytes_eq w v)
    (λ e. ap (λ x. hits j (number_from 0 ds x)) (sym (bytes_eq_eq w v e)) ∙ ap (hits j) h ∙ nat_eq_refl j ∙ sym e)
    (λ e. hits_other ds j w v h e (number_from 0 ds v) refl ∙ sym e)

hits_and : (j : ℕ) (b t : Bool) (o : Option ℕ) → hits j o ≡ t → hits j (if b then o else None) ≡ (b && t)
hits_and j true t o h = h
hits_and j false t o h = refl

hit_number : (j : ℕ) (b : Bool) (o : Option ℕ) → hits j (if b then o else None) ≡ true → o ≡ Some j
hit_number j true None h = false_true h
hit_number j true (Some i) h = ap (λ k. Some k) (sym (nat_eq_eq j i h))
hit_number j false o h = false_true h

or_both : (a b c d : Bool) → a ≡ b → c ≡ d → (a || c) ≡ (b || d)
or_both a b c d e f = rw (e, f) refl

-- the number of a word is among those that names mean exactly where a name of that word is among them
mentioned_number : (own : Word) (ds : List NDecl) (j : ℕ) (w : Word) → number_from 0 ds w ≡ Some j → (ns : List Name) → is_in j (filter_map (number_meant own (number_from 0 ds)) ns) ≡ list_any (same_name (name_of (Some own) w)) ns
mentioned_number own ds j w h [] = refl
mentioned_number own ds j w h (n ∷ ns) =
    in_cons j (number_meant own (number_from 0 ds) n) (filter_map (number_meant own (number_from 0 ds)) ns)
    ∙ or_both _ _ _ _ (hits_and j (same_word (Some own) n.module) (bytes_eq w n.text) (number_from 0 ds n.text) (hits_word ds j w n.text h)) (mentioned_number own ds j w h ns)

-- a number that names mean is that of a word
word_meant : (own : Word) (ds : List NDecl) (j : ℕ) (ns : List Name) → is_in j (filter_map (number_meant own (number_from 0 ds)) ns) ≡ true → (w : Word) × (number_from 0 ds w ≡ Some j)
word_meant own ds j [] h = false_true h
word_meant own ds j (n ∷ ns) h =
    let meant = number_meant own (number_from 0 ds) n in
    let rest = filter_map (number_meant own (number_from 0 ds)) ns in
    elim (or_cases (hits j meant) (is_in j rest) (sym (in_cons j meant rest) ∙ h)) [
      | inl hit ↦ (n.text, hit_number j (same_word (Some own) n.module) (number_from 0 ds n.text) hit)
      | inr later ↦ word_meant own ds j ns later
    ]

-- EDGES AND MENTIONS

pub marked_number : (marks : List Bool) (o : Option ℕ) → option_map_or (is_marked marks) o false ≡ true → (j : ℕ) × (o ≡ Some j) × (is_marked marks j ≡ true)
marked_number marks None h = false_true h
marked_number marks (Some j) h = (j, refl, h)

module _ (own : Word) (imports exports hidden : List Word) (ds : List NDecl) where
  abbrev m : NModule
  m = NModuleOf own imports exports hidden ds

  abbrev number : Word → Option ℕ
  number = number_from 0 ds

  abbrev meant : Name → Option ℕ
  meant = number_meant own number

  abbrev graph : List (List ℕ)
  graph = mention_graph meant ds

  -- a definition leads to the numbers that the names of its right side mean
  next_named : (i : ℕ) (v : Word) (f : IsFirst ds 0 i v) → next_of graph i ≡ filter_map meant (names_in f.right)
  next_named i v f =
      let place : i ≡ f.place = omega (arith, f.number) in
      ap (next_of graph) place ∙ get_or-map (λ (d : NDecl). filter_map meant (names_of_decl d)) ds f.place f.decl [] f.low
      ∙ ap (λ d. filter_map meant (names_of_decl d)) (f.here f.decl) ∙ ap (filter_map meant) f.names

  mention_edge : (v w : Word) → MentionsDefinition m v w → (i : ℕ) → number v ≡ Some i → (j : ℕ) × (number w ≡ Some j) × IsEdge graph i j
  mention_edge v w d i h =
      let f = first_is ds 0 i v h in
      let j = has_number ds 0 w d.other d.other_defined in
      let g = first_is ds 0 j.0 w j.1 in
      let same : f.right ≡ d.right = some_some f.right d.right (sym f.defined ∙ d.defined) in (
        j.0,
        j.1,
        record {
          listed = ap (is_in j.0) (next_named i v f) ∙ mentioned_number own ds j.0 w j.1 (names_in f.right) ∙ ap (λ e. list_any (same_name (name_of (Some own) w)) (names_in e)) same ∙ d.mentioned;
          within = omega (arith, g.number, g.low, length-map ds (λ (d : NDecl). filter_map meant (names_of_decl d)));
        },
      )

  edge_mention : (v : Word) (i j : ℕ) → number v ≡ Some i → IsEdge graph i j → (w : Word) × (number w ≡ Some j) × MentionsDefinition m v w
  edge_mention v i j h e =
      let f = first_is ds 0 i v h in
      let listed : is_in j (filter_map meant (names_in f.right)) ≡ true = sym (ap (is_in j) (next_named i v f)) ∙ e.listed in
      let w = word_meant own ds j (names_in f.right) listed in
      let g = first_is ds 0 j w.0 w.1 in (
        w.0,
        w.1,
        record {
          right = f.right;
          defined = f.defined;
          mentioned = sym (mentioned_number own ds j w.0 w.1 (names_in f.right)) ∙ listed;
          other = g.right;
          other_defined = g.defined;
        },
      )

  pub reaches_path : {v w : Word} → ReachesDefinition m v w → (i : ℕ) → number v ≡ Some i → (j : ℕ) × (number w ≡ Some j) × HasPath graph i j
  reaches_path (at_once v w d) i h = let e = mention_edge v w d i h in (e.0, e.1, last_edge i e.0 e.2)
  reaches_path (through u v w d r) i h =
      let e = mention_edge v u d i h in
      let p = reaches_path r e.0 e.1 in
      (p.0, p.1, edge_then e.0 i p.0 e.2 p.2)

  pub path_reaches : {i j : ℕ} → HasPath graph i j → (v : Word) → number v ≡ Some i → (w : Word) × (number w ≡ Some j) × ReachesDefinition m v w
  path_reaches (last_edge i j e) v h = let d = edge_mention v i j h e in (d.0, d.1, at_once v d.0 d.2)
  path_reaches (edge_then k i j e p) v h =
      let d = edge_mention v i k h e in
      let r = path_reaches p d.0 d.1 in
      (r.0, r.1, through d.0 v r.0 d.2 r.2)

  are_reached : (v : Word) (i : ℕ) (ws : List Word) → number v ≡ Some i → AreFound meant number ds i ws → AreReached m v ws
  are_reached v i ws h a = record {
    is_reached = has_mark number a.marks;
    reached = λ w. (
      λ found.
          let j = marked_number a.marks (number w) found in
          let r = path_reaches ((a.marked j.0).0 j.2) v h in
          subst (λ u. ReachesDefinition m v u) (one_word ds j.0 r.0 w r.1 j.1) r.2,
      λ r.
          let p = reaches_path r i h in
          ap (λ o. option_map_or (is_marked a.marks) o false) p.1 ∙ (a.marked p.0).1 p.2,
    );
    in_order = a.words;
  }

  none_reached : (v : Word) → number v ≡ None → {w : Word} → ReachesDefinition m v w → ⊥
  none_reached v h (at_once u w d) = let i = has_number ds 0 u d.right d.defined in absurd cc
  none_reached v h (through t u w d r) = let i = has_number ds 0 u d.right d.defined in absurd cc

  -- what an edge leads to is the number of a word
  edge_word : (rest : List NDecl) (i j : ℕ) → is_in j (next_of (mention_graph meant rest) i) ≡ true → (w : Word) × (number w ≡ Some j)
  edge_word [] i j h = false_true h
  edge_word (d ∷ rest) zero j h = word_meant own ds j (names_of_decl d) h
  edge_word (d ∷ rest) (suc i) j h = edge_word rest i j h

  path_word : {i j : ℕ} → HasPath graph i j → (w : Word) × (number w ≡ Some j)
  path_word (last_edge i j e) = edge_word ds i j e.listed
  path_word (edge_then h i j e p) = path_word p

  cycle_recursive : (k : ℕ) → HasPath graph k k → IsRecursive m k
  cycle_recursive k p =
      let v = path_word p in
      let r = path_reaches p v.0 v.1 in
      record { word = v.0; first = v.1; reached = subst (λ u. ReachesDefinition m v.0 u) (one_word ds k r.0 v.0 r.1 v.1) r.2 }

  recursive_cycle : (k : ℕ) → IsRecursive m k → HasPath graph k k
  recursive_cycle k r =
      let p = reaches_path r.reached k r.first in
      subst (λ j. HasPath graph k j) (some_some p.0 k (sym p.1 ∙ r.first)) p.2

  are_recursive : (marks : List Bool) → AreOnCycles graph marks → AreRecursive m marks
  are_recursive marks a = record {
    count = a.count ∙ length-map ds (λ (d : NDecl). filter_map meant (names_of_decl d));
    recursive = λ k. (λ h. cycle_recursive k ((a.on_cycle k).0 h), λ r. (a.on_cycle k).1 (recursive_cycle k r));
  }

filter_none : (ws : List Word) → filter (λ w. false) ws ≡ []
filter_none [] = refl
filter_none (w ∷ ws) = filter_none ws

-- THE WHOLE

-- what the number of a definition leads to, by the numbers and mentions of a module
found_in : (m : NModule) (v : Word) (i : ℕ) (ws : List Word) → number_in m v ≡ Some i → AreFound (meant_in m) (number_in m) (decls_in m) i ws → AreReached m v ws
found_in (NModuleOf own imports exports hidden ds) v i ws h a = are_reached own imports exports hidden ds v i ws h a

-- the words of what the number of a definition leads to are those that it reaches
pub found_reached : (m : NModule) (meant : Name → Option ℕ) (number : Word → Option ℕ) (ds : List NDecl) → meant ≡ meant_in m → number ≡ number_in m → ds ≡ decls_in m
    → (v : Word) (i : ℕ) (ws : List Word) → number v ≡ Some i → AreFound meant number ds i ws → AreReached m v ws
found_reached m meant number ds same_meant same_number same_decls v i ws h a =
    let by_meant = subst (λ f. AreFound f number ds i ws) same_meant a in
    let by_number = subst (λ f. AreFound (meant_in m) f ds i ws) same_number by_meant in
    found_in m v i ws (sym (ap (λ f. f v) same_number) ∙ h) (subst (λ es. AreFound (meant_in m) (number_in m) es i ws) same_decls by_number)

none_in : (m : NModule) (v : Word) (ws : List Word) → number_in m v ≡ None → ws ≡ [] → AreReached m v ws
none_in (NModuleOf own imports exports hidden ds) v ws h empty = record {
  is_reached = λ w. false;
  reached = λ w. (λ e. false_true e, λ r. absurd (none_reached own imports exports hidden ds v h r));
  in_order = empty ∙ sym (filter_none (defined_words ds));
}

-- a word without a definition reaches none
pub nothing_reached : (m : NModule) (number : Word → Option ℕ) → number ≡ number_in m → (v : Word) (ws : List Word) → number v ≡ None → ws ≡ [] → AreReached m v ws
nothing_reached m number same v ws h empty = none_in m v ws (sym (ap (λ f. f v) same) ∙ h) empty

recursive_in : (m : NModule) (marks : List Bool) → AreOnCycles (mention_graph (meant_in m) (decls_in m)) marks → AreRecursive m marks
recursive_in (NModuleOf own imports exports hidden ds) marks a = are_recursive own imports exports hidden ds marks a

-- the definitions whose numbers lie on a cycle are those that reach themselves
pub cycles_recursive : (m : NModule) (meant : Name → Option ℕ) (ds : List NDecl) (graph : List (List ℕ)) (marks : List Bool) → meant ≡ meant_in m → ds ≡ decls_in m
    → graph ≡ mention_graph meant ds → AreOnCycles graph marks → AreRecursive m marks
cycles_recursive m meant ds graph marks same_meant same_decls is a =
    let same : graph ≡ mention_graph (meant_in m) (decls_in m) = is ∙ ap (λ f. mention_graph f ds) same_meant ∙ ap (mention_graph (meant_in m)) same_decls in
    recursive_in m marks (subst (λ g. AreOnCycles g marks) same a)
