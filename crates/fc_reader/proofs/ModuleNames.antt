-- Names of modules, put together from their parts.
use Rattle.std.proofs.Common.{◌≡◌, ℕ, Bool, true, false, ◌&&◌, List, [], ◌∷◌, ◌++◌, arith, cond, refl, sym, ap, ◌∙◌}
use Rattle.std.specs.List.{list_all, slice_split, onto_first}
use Rattle.std.proofs.lemmas.Bool.{and_parts}
use Rattle.std.proofs.lemmas.List.Folds.{list_all-append}
use Rattle.fc_syntax.specs.Tree.{Word}
use Rattle.fc_syntax.specs.Tokens.{is_dot, is_module_byte, is_module_name, is_module_part, is_upper_letter}

byte_no_dot : (b : ℕ) → is_module_byte b ≡ true → is_dot b ≡ false
byte_no_dot b e = grind arith

upper_no_dot : (b : ℕ) → is_upper_letter b ≡ true → is_dot b ≡ false
upper_no_dot b e = grind arith

unsplit : (bs : List ℕ) → list_all is_module_byte bs ≡ true → slice_split is_dot bs ≡ bs ∷ []
unsplit [] e = refl
unsplit (b ∷ bs) e =
    let p = and_parts (is_module_byte b) (list_all is_module_byte bs) e in
    ap (λ c. cond c ([] ∷ slice_split is_dot bs) (onto_first b (slice_split is_dot bs))) (byte_no_dot b p.0) ∙ ap (onto_first b) (unsplit bs p.1)

-- a part has no dot
part_unsplit : (w : Word) → is_module_part w ≡ true → slice_split is_dot w ≡ w ∷ []
part_unsplit [] e = absurd cc
part_unsplit (b ∷ bs) e =
    let p = and_parts (is_upper_letter b) (list_all is_module_byte bs) e in
    ap (λ c. cond c ([] ∷ slice_split is_dot bs) (onto_first b (slice_split is_dot bs))) (upper_no_dot b p.0) ∙ ap (onto_first b) (unsplit bs p.1)

both : {p q : Bool} → p ≡ true → q ≡ true → (p && q) ≡ true
both e f = cc

pub part_is_name : (w : Word) → is_module_part w ≡ true → is_module_name w ≡ true
part_is_name w e = ap (list_all is_module_part) (part_unsplit w e) ∙ both e refl

-- what is split has a part
record HasPart (xs : List (List ℕ)) : Type 0 where
  pub first : List ℕ
  pub others : List (List ℕ)
  pub is : xs ≡ first ∷ others

has_part : (xs : List ℕ) → HasPart (slice_split is_dot xs)
has_part [] = record { first = []; others = []; is = refl }
has_part (x ∷ xs) = by (is_dot x) (has_part xs) where
  by : (b : Bool) → HasPart (slice_split is_dot xs) → HasPart (cond b ([] ∷ slice_split is_dot xs) (onto_first x (slice_split is_dot xs)))
  by true h = record { first = []; others = slice_split is_dot xs; is = refl }
  by false h = record { first = x ∷ h.first; others = h.others; is = ap (onto_first x) h.is }

onto_append : (x : ℕ) (cs bs : List (List ℕ)) → HasPart cs → onto_first x (cs ++ bs) ≡ onto_first x cs ++ bs
onto_append x cs bs h = ap (λ ds. onto_first x (ds ++ bs)) h.is ∙ ap (λ ds. onto_first x ds ++ bs) (sym h.is)

split_at_dot : (xs ys : List ℕ) → slice_split is_dot (xs ++ 46 ∷ ys) ≡ slice_split is_dot xs ++ slice_split is_dot ys
split_at_dot [] ys = refl
split_at_dot (x ∷ xs) ys = by (is_dot x) (split_at_dot xs ys) where
  by : (b : Bool) → slice_split is_dot (xs ++ 46 ∷ ys) ≡ slice_split is_dot xs ++ slice_split is_dot ys
      → cond b ([] ∷ slice_split is_dot (xs ++ 46 ∷ ys)) (onto_first x (slice_split is_dot (xs ++ 46 ∷ ys))) ≡ cond b ([] ∷ slice_split is_dot xs) (onto_first x (slice_split is_dot xs)) ++ slice_split is_dot ys
  by true h = ap (λ cs. [] ∷ cs) h
  by false h = ap (onto_first x) h ∙ onto_append x (slice_split is_dot xs) (slice_split is_dot ys) (has_part xs)

pub name_and_part : (m w : Word) → is_module_name m ≡ true → is_module_part w ≡ true → is_module_name (m ++ 46 ∷ w) ≡ true
name_and_part m w g e =
    ap (list_all is_module_part) (split_at_dot m w) ∙ list_all-append is_module_part (slice_split is_dot m) (slice_split is_dot w) ∙ both g (part_is_name w e)
