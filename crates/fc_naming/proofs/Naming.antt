-- A binder without a word may take any word that no name in its scope uses.
use Rattle.std.proofs.Common.{◌≡◌, ℕ, zero, suc, ◌+◌, Bool, true, false, ◌&&◌, List, ◌∷◌, Option, Some, None, Ok, option_map, bytes_eq, if◌then◌else◌, refl, sym, ap, ◌∙◌, add-one}
use Rattle.fc_syntax.specs.declared.ty.Name.{Name}
use Rattle.std.proofs.lemmas.Bool.{and_parts}
use Rattle.fc_syntax.specs.declared.fault.FaultKind.TheVariants.{NotExported, Unbound}
use Rattle.fc_syntax.specs.Tree.{Word}
use Rattle.fc_model.specs.Faulting.{need}
use Rattle.fc_model.specs.Resolution.{Top, Locals, TermWord, Value, Join, Found, IsValue, IsJoin, Nowhere, Words, WordSet, found_term, index_of, past_value, past_join, plus, no_locals, with_type, with_term, with_coercion, declared_name}
use Rattle.fc_model.proofs.Sameness.{bytes_eq_eq, bytes_eq_refl, false_true}
use Rattle.fc_used_words.specs.Scoped.{Counts, IsKnown, IsKnownIn, in_type, in_value, in_join, in_coercion, is_meant}
use Rattle.fc_used_words.specs.Standing.{Beyond, FindsJoin, FindsType, FindsValue, IsDeclared, is_found, is_found_by, is_kept, more_types, more_terms, more_coercions}
use Rattle.fc_used_words.proofs.Both.{Follows}
use Rattle.fc_used_words.proofs.Collecting.{in_plus, plus_has}
use Rattle.fc_used_words.proofs.Keeping.{Same, along, below_same, beyond_both, beyond_near, by_test}

-- a word that is not in a set differs from one that is
pub differ : (set : WordSet) (v w : Word) → set v ≡ false → set w ≡ true → bytes_eq v w ≡ false
differ set v w out within =
    by_test (bytes_eq v w) (λ same. false_true (sym out ∙ ap set (bytes_eq_eq v w same) ∙ within)) (λ h. h)

-- DISTANCES

-- the outermost of the binders without a word takes one
pub beyond_next : (P R : ℕ → Type 0) → R 0 → ((i : ℕ) → P i → R (suc i)) → (many i : ℕ) → Beyond P (suc many) i → Beyond R many i
beyond_next P R here step zero zero p = here
beyond_next P R here step zero (suc i) p = step i p
beyond_next P R here step (suc many) zero p = tt
beyond_next P R here step (suc many) (suc i) p = beyond_next P R here step many i p

-- THE WORD THAT IS TAKEN

module _ (set : WordSet) (v : Word) (free : set v ≡ false) where
  type_here : (ws : List Word) → FindsType (plus v set) (v ∷ ws) 0
  type_here ws = (v, refl, ap (λ b. if b then Some 0 else option_map (λ j. j + 1) (index_of ws v)) (bytes_eq_refl v), plus_has v set)

  type_past : (ws : List Word) (i : ℕ) → FindsType set ws i → FindsType (plus v set) (v ∷ ws) (suc i)
  type_past ws i (w, at, found, within) = (
    w,
    at,
    ap (λ b. if b then Some 0 else option_map (λ j. j + 1) (index_of ws w)) (differ set v w free within) ∙ ap (option_map (λ j. j + 1)) found
        ∙ ap (λ j. Some j) (add-one i),
    in_plus v w set within,
  )

  value_here : (xs : List TermWord) → FindsValue (plus v set) (Value v ∷ xs) 0
  value_here xs = (v, refl, ap (λ b. if b then IsValue 0 else past_value (found_term xs v)) (bytes_eq_refl v), plus_has v set)

  join_here : (xs : List TermWord) → FindsJoin (plus v set) (Join v ∷ xs) 0
  join_here xs = (v, refl, ap (λ b. if b then IsJoin 0 else past_join (found_term xs v)) (bytes_eq_refl v), plus_has v set)

  past_a_value : (xs : List TermWord) (w : Word) (f : Found) → set w ≡ true → found_term xs w ≡ f → found_term (Value v ∷ xs) w ≡ past_value f
  past_a_value xs w f within found = ap (λ b. if b then IsValue 0 else past_value (found_term xs w)) (differ set v w free within) ∙ ap past_value found

  past_a_join : (xs : List TermWord) (w : Word) (f : Found) → set w ≡ true → found_term xs w ≡ f → found_term (Join v ∷ xs) w ≡ past_join f
  past_a_join xs w f within found = ap (λ b. if b then IsJoin 0 else past_join (found_term xs w)) (differ set v w free within) ∙ ap past_join found

  value_past_value : (xs : List TermWord) (i : ℕ) → FindsValue set xs i → FindsValue (plus v set) (Value v ∷ xs) (suc i)
  value_past_value xs i (w, at, found, within) = (w, at, past_a_value xs w (IsValue i) within found ∙ ap IsValue (add-one i), in_plus v w set within)

  value_past_join : (xs : List TermWord) (i : ℕ) → FindsValue set xs i → FindsValue (plus v set) (Join v ∷ xs) i
  value_past_join xs i (w, at, found, within) = (w, at, past_a_join xs w (IsValue i) within found, in_plus v w set within)

  join_past_value : (xs : List TermWord) (i : ℕ) → FindsJoin set xs i → FindsJoin (plus v set) (Value v ∷ xs) i
  join_past_value xs i (w, at, found, within) = (w, at, past_a_value xs w (IsJoin i) within found, in_plus v w set within)

  join_past_join : (xs : List TermWord) (i : ℕ) → FindsJoin set xs i → FindsJoin (plus v set) (Join v ∷ xs) (suc i)
  join_past_join xs i (w, at, found, within) = (w, at, past_a_join xs w (IsJoin i) within found ∙ ap IsJoin (add-one i), in_plus v w set within)

-- A BINDER TAKES A WORD

-- one binder without a word becomes one with a word
abbrev pub By : (Counts → Counts) → Counts → Counts → Type 0
By enter k l = k ≡ enter l

module _ (top : Top) (ws : Words) (s : Locals) (v : Word) where
  pub takes_type : ws.types v ≡ false → Follows (is_found_by top ws s) (is_found_by top ws s) (is_found_by top (more_types v ws) (with_type v s)) (By in_type)
  takes_type free = record {
    type_at = λ k l i r a b. beyond_next (FindsType ws.types s.types) (FindsType (plus v ws.types) (v ∷ s.types)) (type_here ws.types v free s.types)
        (type_past ws.types v free s.types) l.types i (along (λ (c : Counts). Beyond (FindsType ws.types s.types) c.types i) r a);
    value_at = λ k l i r a b. along (λ (c : Counts). Beyond (FindsValue ws.terms s.terms) c.values i) r a;
    join_at = λ k l i r a b. along (λ (c : Counts). Beyond (FindsJoin ws.terms s.terms) c.joins i) r a;
    coercion_at = λ k l i r a b. along (λ (c : Counts). Beyond (FindsType ws.coercions s.coercions) c.coercions i) r a;
    type_name = λ n a b. a;
    axiom_name = λ n a b. a;
    constructor = λ n a b. a;
    definition = λ n a b. a;
    in_type = λ k l r. ap in_type r;
    in_value = λ k l r. ap in_value r;
    in_join = λ k l r. ap in_join r;
    in_coercion = λ k l r. ap in_coercion r;
  }

  pub takes_coercion : ws.coercions v ≡ false → Follows (is_found_by top ws s) (is_found_by top ws s) (is_found_by top (more_coercions v ws) (with_coercion v s)) (By in_coercion)
  takes_coercion free = record {
    type_at = λ k l i r a b. along (λ (c : Counts). Beyond (FindsType ws.types s.types) c.types i) r a;
    value_at = λ k l i r a b. along (λ (c : Counts). Beyond (FindsValue ws.terms s.terms) c.values i) r a;
    join_at = λ k l i r a b. along (λ (c : Counts). Beyond (FindsJoin ws.terms s.terms) c.joins i) r a;
    coercion_at = λ k l i r a b. beyond_next (FindsType ws.coercions s.coercions) (FindsType (plus v ws.coercions) (v ∷ s.coercions))
        (type_here ws.coercions v free s.coercions) (type_past ws.coercions v free s.coercions) l.coercions i (along (λ (c : Counts). Beyond (FindsType ws.coercions s.coercions) c.coercions i) r a);
    type_name = λ n a b. a;
    axiom_name = λ n a b. a;
    constructor = λ n a b. a;
    definition = λ n a b. a;
    in_type = λ k l r. ap in_type r;
    in_value = λ k l r. ap in_value r;
    in_join = λ k l r. ap in_join r;
    in_coercion = λ k l r. ap in_coercion r;
  }

  pub takes_value : ws.terms v ≡ false → Follows (is_found_by top ws s) (is_found_by top ws s) (is_found_by top (more_terms v ws) (with_term (Value v) s)) (By in_value)
  takes_value free = record {
    type_at = λ k l i r a b. along (λ (c : Counts). Beyond (FindsType ws.types s.types) c.types i) r a;
    value_at = λ k l i r a b. beyond_next (FindsValue ws.terms s.terms) (FindsValue (plus v ws.terms) (Value v ∷ s.terms)) (value_here ws.terms v free s.terms)
        (value_past_value ws.terms v free s.terms) l.values i (along (λ (c : Counts). Beyond (FindsValue ws.terms s.terms) c.values i) r a);
    join_at = λ k l i r a b. beyond_both (FindsJoin ws.terms s.terms) (FindsJoin ws.terms s.terms) (FindsJoin (plus v ws.terms) (Value v ∷ s.terms))
        (λ j p q. join_past_value ws.terms v free s.terms j p) l.joins i (along (λ (c : Counts). Beyond (FindsJoin ws.terms s.terms) c.joins i) r a)
        (along (λ (c : Counts). Beyond (FindsJoin ws.terms s.terms) c.joins i) r a);
    coercion_at = λ k l i r a b. along (λ (c : Counts). Beyond (FindsType ws.coercions s.coercions) c.coercions i) r a;
    type_name = λ n a b. a;
    axiom_name = λ n a b. a;
    constructor = λ n a b. a;
    definition = λ n a b. (a.0, λ own. let p = a.1 own in (past_a_value ws.terms v free s.terms n.text Nowhere p.1 p.0, in_plus v n.text ws.terms p.1));
    in_type = λ k l r. ap in_type r;
    in_value = λ k l r. ap in_value r;
    in_join = λ k l r. ap in_join r;
    in_coercion = λ k l r. ap in_coercion r;
  }

  pub takes_join : ws.terms v ≡ false → Follows (is_found_by top ws s) (is_found_by top ws s) (is_found_by top (more_terms v ws) (with_term (Join v) s)) (By in_join)
  takes_join free = record {
    type_at = λ k l i r a b. along (λ (c : Counts). Beyond (FindsType ws.types s.types) c.types i) r a;
    value_at = λ k l i r a b. beyond_both (FindsValue ws.terms s.terms) (FindsValue ws.terms s.terms) (FindsValue (plus v ws.terms) (Join v ∷ s.terms))
        (λ j p q. value_past_join ws.terms v free s.terms j p) l.values i (along (λ (c : Counts). Beyond (FindsValue ws.terms s.terms) c.values i) r a)
        (along (λ (c : Counts). Beyond (FindsValue ws.terms s.terms) c.values i) r a);
    join_at = λ k l i r a b. beyond_next (FindsJoin ws.terms s.terms) (FindsJoin (plus v ws.terms) (Join v ∷ s.terms)) (join_here ws.terms v free s.terms)
        (join_past_join ws.terms v free s.terms) l.joins i (along (λ (c : Counts). Beyond (FindsJoin ws.terms s.terms) c.joins i) r a);
    coercion_at = λ k l i r a b. along (λ (c : Counts). Beyond (FindsType ws.coercions s.coercions) c.coercions i) r a;
    type_name = λ n a b. a;
    axiom_name = λ n a b. a;
    constructor = λ n a b. a;
    definition = λ n a b. (a.0, λ own. let p = a.1 own in (past_a_join ws.terms v free s.terms n.text Nowhere p.1 p.0, in_plus v n.text ws.terms p.1));
    in_type = λ k l r. ap in_type r;
    in_value = λ k l r. ap in_value r;
    in_join = λ k l r. ap in_join r;
    in_coercion = λ k l r. ap in_coercion r;
  }

-- names that are found, and whose words are kept, are found by these words
pub found_kept : (top : Top) (ws : Words) (s : Locals) → Follows (is_found top s) (is_kept top.own ws s) (is_found_by top ws s) Same
found_kept top ws s = below_same (is_found top s) (is_kept top.own ws s) (is_found_by top ws s) (record {
  type_at = beyond_both _ _ _ (λ i (w, at, found, any) kept. (w, at, found, kept w at));
  value_at = beyond_both _ _ _ (λ i (w, at, found, any) kept. (w, at, found, kept w at));
  join_at = beyond_both _ _ _ (λ i (w, at, found, any) kept. (w, at, found, kept w at));
  coercion_at = beyond_both _ _ _ (λ i (w, at, found, any) kept. (w, at, found, kept w at));
  type_name = λ n a b. a;
  axiom_name = λ n a b. a;
  constructor = λ n a b. a;
  definition = λ n a b. (a.0, λ own. ((a.1 own).0, b own));
})

-- and names that are found by these words are found
pub found_by : (top : Top) (ws : Words) (s : Locals) → Follows (is_found_by top ws s) (is_found_by top ws s) (is_found top s) Same
found_by top ws s = below_same (is_found_by top ws s) (is_found_by top ws s) (is_found top s) (record {
  type_at = beyond_both _ _ _ (λ i (w, at, found, within) b. (w, at, found, refl));
  value_at = beyond_both _ _ _ (λ i (w, at, found, within) b. (w, at, found, refl));
  join_at = beyond_both _ _ _ (λ i (w, at, found, within) b. (w, at, found, refl));
  coercion_at = beyond_both _ _ _ (λ i (w, at, found, within) b. (w, at, found, refl));
  type_name = λ n a b. a;
  axiom_name = λ n a b. a;
  constructor = λ n a b. a;
  definition = λ n a b. (a.0, λ own. ((a.1 own).0, refl));
})

-- NAMES THAT MEAN SOMETHING

-- a name that is known is declared as it is written
known_in : (top : Top) (words : WordSet) (offered : Word → WordSet) (m : Option Word) (w : Word) → (h : IsKnownIn top words offered m w)
    → IsDeclared top words offered (record { «module» = m; text = w })
known_in top words offered None w h = absurd h
known_in top words offered (Some m) w h =
    by_test (bytes_eq m top.own)
    (λ same. let e = bytes_eq_eq m top.own same in
    let known : words w ≡ true = sym (ap (λ b. if b then words w else top.imports m && offered m w) same) ∙ h in
    ap (λ (b : Bool). declared_name top words offered (if b then None else Some m) w) same ∙ ap (λ (b : Bool). need b Unbound (Ok (record { «module» = Some top.own; text = w }))) known
    ∙ ap (λ (x : Word). Ok (record { «module» = Some x; text = w })) (sym e))
    (λ differs. let known = and_parts (top.imports m) (offered m w) (sym (ap (λ b. if b then words w else top.imports m && offered m w) differs) ∙ h) in
    ap (λ (b : Bool). declared_name top words offered (if b then None else Some m) w) differs
    ∙ ap (λ (b : Bool). need b Unbound (need (offered m w) NotExported (Ok (record { «module» = Some m; text = w })))) known.0
    ∙ ap (λ (b : Bool). need b NotExported (Ok (record { «module» = Some m; text = w }))) known.1)

pub is_declared : (top : Top) (words : WordSet) (offered : Word → WordSet) (n : Name) → IsKnown top words offered n → IsDeclared top words offered n
is_declared top words offered n h = known_in top words offered n.module n.text h

-- in a module whose names mean something, each is found
pub found_meant : (top : Top) → Follows (is_meant top) (is_meant top) (is_found top no_locals) Same
found_meant top = below_same (is_meant top) (is_meant top) (is_found top no_locals) (record {
  type_at = λ k i a b. beyond_near _ k i a;
  value_at = λ k i a b. beyond_near _ k i a;
  join_at = λ k i a b. beyond_near _ k i a;
  coercion_at = λ k i a b. beyond_near _ k i a;
  type_name = λ n a b. is_declared top top.types top.offers.types n a;
  axiom_name = λ n a b. is_declared top top.coercions top.offers.coercions n a;
  constructor = λ n a b. is_declared top top.terms top.offers.terms n a;
  definition = λ n a b. (is_declared top top.terms top.offers.terms n a, λ own. (refl, refl));
})
