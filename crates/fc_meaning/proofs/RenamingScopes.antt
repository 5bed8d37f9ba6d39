-- Scopes of renamed words: what a word is there stays.
use Rattle.std.proofs.Common.{◌≡◌, Bool, true, false, not, List, [], ◌∷◌, ◌++◌, map, reverse, bytes_eq, refl, sym, ap, ◌∙◌}
use Rattle.std.proofs.lemmas.List.{map_push, reverse-append}
use Rattle.fc_syntax.specs.Tree.{Word, Binder, BValue, BType, BCo, Binds, NoBinds, MoreBinds, Bound, Joins, NoJoins, MoreJoins, Joined}
use Rattle.fc_model.specs.Resolution.{WordSet, plus, Locals, TermWord, Value, Join, Words, enter, enter_all, enter_joins, enter_values, bind_words, join_words, found_term, index_of, is_new, with_binder, with_term}
use Rattle.fc_model.proofs.Sameness.{bytes_eq_eq, bytes_eq_refl}
use Rattle.fc_meaning.specs.Renaming.{IsInjective, Renaming, renamed_binder, renamed_binds, renamed_joins}

-- tests that hold together are the same
tests_same : (a b : Bool) → (a ≡ true → b ≡ true) → (b ≡ true → a ≡ true) → a ≡ b
tests_same true b h k = sym (h refl)
tests_same false true h k = k refl
tests_same false false h k = refl

pub map-reverse : {X Y : Type 0} (g : X → Y) (xs : List X) → reverse (map g xs) ≡ map g (reverse xs)
map-reverse g [] = refl
map-reverse g (x ∷ xs) =
    reverse-append (g x ∷ []) (map g xs) ∙ ap (λ l. l ++ g x ∷ []) (map-reverse g xs)
    ∙ sym (map_push g (reverse xs) x) ∙ ap (map g) (sym (reverse-append (x ∷ []) xs))

-- a word of the terms by its new word
abbrev pub renamed_term : Renaming → TermWord → TermWord
renamed_term f (Value x) = Value (f x)
renamed_term f (Join j) = Join (f j)

-- a scope by its new words
abbrev pub renamed_locals : Renaming → Locals → Locals
renamed_locals f s = record { types = map f s.types; terms = map (renamed_term f) s.terms; coercions = map f s.coercions }

-- a set of new words has the new words of another
abbrev pub Follows : Renaming → WordSet → WordSet → Type 0
Follows f new old = (w : Word) → new (f w) ≡ old w

pub record WordsFollow (f : Renaming) (new old : Words) : Type 0 where
  pub types : Follows f new.types old.types
  pub terms : Follows f new.terms old.terms
  pub coercions : Follows f new.coercions old.coercions

module _ (f : Renaming) (inj : IsInjective f) where
  pub test_same : (v w : Word) → bytes_eq (f v) (f w) ≡ bytes_eq v w
  test_same v w = tests_same (bytes_eq (f v) (f w)) (bytes_eq v w)
      (λ h. ap (λ x. bytes_eq v x) (sym (inj v w (bytes_eq_eq (f v) (f w) h))) ∙ bytes_eq_refl v)
      (λ h. ap (λ x. bytes_eq (f v) (f x)) (sym (bytes_eq_eq v w h)) ∙ bytes_eq_refl (f v))

  pub index_same : (vs : List Word) (w : Word) → index_of (map f vs) (f w) ≡ index_of vs w
  index_same [] w = refl
  index_same (v ∷ vs) w = rw (test_same v w, index_same vs w) refl

  pub found_same : (xs : List TermWord) (w : Word) → found_term (map (renamed_term f) xs) (f w) ≡ found_term xs w
  found_same [] w = refl
  found_same (Value v ∷ xs) w = rw (test_same v w, found_same xs w) refl
  found_same (Join v ∷ xs) w = rw (test_same v w, found_same xs w) refl

  -- SETS OF WORDS

  pub plus_follows : (v : Word) (new old : WordSet) → Follows f new old → Follows f (plus (f v) new) (plus v old)
  plus_follows v new old h w = rw (test_same v w, h w) refl

  pub new_same : (b : Binder) (new old : Words) → WordsFollow f new old → is_new (renamed_binder f b) new ≡ is_new b old
  new_same (BValue x t) new old h = ap not (h.terms x)
  new_same (BType a k) new old h = ap not (h.types a)
  new_same (BCo c r t u) new old h = ap not (h.coercions c)

  pub binder_follows : (b : Binder) (new old : Words) → WordsFollow f new old → WordsFollow f (with_binder (renamed_binder f b) new) (with_binder b old)
  binder_follows (BValue x t) new old h = record { types = h.types; terms = plus_follows x new.terms old.terms h.terms; coercions = h.coercions }
  binder_follows (BType a k) new old h = record { types = plus_follows a new.types old.types h.types; terms = h.terms; coercions = h.coercions }
  binder_follows (BCo c r t u) new old h = record { types = h.types; terms = h.terms; coercions = plus_follows c new.coercions old.coercions h.coercions }

-- SCOPES THAT ARE ENTERED

module _ (f : Renaming) where
  pub enter_renamed : (b : Binder) (s : Locals) → enter (renamed_binder f b) (renamed_locals f s) ≡ renamed_locals f (enter b s)
  enter_renamed (BValue x t) s = refl
  enter_renamed (BType a k) s = refl
  enter_renamed (BCo c r t u) s = refl

  pub enter_all_renamed : (bs : List Binder) (s : Locals) → enter_all (map (renamed_binder f) bs) (renamed_locals f s) ≡ renamed_locals f (enter_all bs s)
  enter_all_renamed [] s = refl
  enter_all_renamed (b ∷ bs) s = ap (enter_all (map (renamed_binder f) bs)) (enter_renamed b s) ∙ enter_all_renamed bs (enter b s)

  pub enter_values_renamed : (xs : List Word) (s : Locals) → enter_values (map f xs) (renamed_locals f s) ≡ renamed_locals f (enter_values xs s)
  enter_values_renamed [] s = refl
  enter_values_renamed (x ∷ xs) s = enter_values_renamed xs (with_term (Value x) s)

  pub enter_joins_renamed : (js : List Word) (s : Locals) → enter_joins (map f js) (renamed_locals f s) ≡ renamed_locals f (enter_joins js s)
  enter_joins_renamed [] s = refl
  enter_joins_renamed (j ∷ js) s = enter_joins_renamed js (with_term (Join j) s)

  -- GROUPS

  pub bind_words_renamed : (bs : Binds) → bind_words (renamed_binds f bs) ≡ map f (bind_words bs)
  bind_words_renamed NoBinds = refl
  bind_words_renamed (MoreBinds (Bound x t e) rest) = ap (λ xs. f x ∷ xs) (bind_words_renamed rest)

  pub join_words_renamed : (js : Joins) → join_words (renamed_joins f js) ≡ map f (join_words js)
  join_words_renamed NoJoins = refl
  join_words_renamed (MoreJoins (Joined j ps e) rest) = ap (λ xs. f j ∷ xs) (join_words_renamed rest)

  pub in_values : (bs : Binds) (s : Locals) → enter_values (bind_words (renamed_binds f bs)) (renamed_locals f s) ≡ renamed_locals f (enter_values (bind_words bs) s)
  in_values bs s = ap (λ xs. enter_values xs (renamed_locals f s)) (bind_words_renamed bs) ∙ enter_values_renamed (bind_words bs) s

  pub in_joins : (js : Joins) (s : Locals) → enter_joins (join_words (renamed_joins f js)) (renamed_locals f s) ≡ renamed_locals f (enter_joins (join_words js) s)
  in_joins js s = ap (λ xs. enter_joins xs (renamed_locals f s)) (join_words_renamed js) ∙ enter_joins_renamed (join_words js) s
