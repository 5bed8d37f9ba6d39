-- Words of the text form: the candidates for a binder, the words in scope and the names that are written.
use Rattle.std.proofs.Common.{◌≡◌, ◌<◌, ◌+◌, ◌++◌, ◌/◌, ◌%◌, ℕ, zero, suc, Bool, true, false, List, [], ◌∷◌, Option, Some, None, if◌then◌else◌, bytes_eq, slice_get, refl, sym, ap, ◌∙◌, subst, arith}
use Rattle.std.specs.Prelude.{◌&&◌, ◌==◌, codes, is_none, not}
use Rattle.std.specs.Fmt.{decimal, digit_glyph, digits, digits_onto}
use Rattle.std.specs.List.{find, list_all, list_any}
use Rattle.std.proofs.lemmas.Bool.{and_from, and_parts, cond_both, lt-ltb, not-true, or_right, true≢false}
use Rattle.std.proofs.lemmas.Bool.Decides.{nat_tests}
use Rattle.std.proofs.lemmas.List.Folds.{list_all-append, list_any-append}
use Rattle.std.proofs.lemmas.Slice.Eq.{bytes_eq-Decides}
use Rattle.fc_syntax.specs.declared.ty.Name.{Name}
use Rattle.fc_syntax.specs.declared.keyword.Keyword.{Keyword}
use Rattle.fc_syntax.specs.Keywords.{keyword_text, keywords}
use Rattle.fc_syntax.specs.Tokens.{is_lower_name, is_name_byte}
use Rattle.fc_syntax.specs.Tree.{Word}
use Rattle.fc_model.specs.Formed.{is_lower_formed, is_lower_word, is_module_formed, is_upper_formed}
use Rattle.fc_model.specs.Resolution.{Locals, TermWord, Value, Join, WordSet, enter_joins, enter_values, no_locals, with_coercion, with_term, with_type}
use Rattle.fc_model.specs.Words.{keyword_of}
use Rattle.fc_scope.specs.WordsAt.{join_word, value_word}
use Rattle.fc_used_words.proofs.Keeping.{by_test}
use Rattle.fc_used_words.specs.Standing.{outside, short}
use Rattle.fc_naming.specs.Named.{AreLower, IsChosen, IsLower, IsWordFor, IsWritten, candidate, term_word}

-- TESTS

pub both : {a b : Bool} → a ≡ true → b ≡ true → (a && b) ≡ true
both {a = a} {b = b} e f = and_from a b e f

-- of two tests each stays true
pub and_keeps : {a b c d : Bool} → (a ≡ true → c ≡ true) → (b ≡ true → d ≡ true) → (a && b) ≡ true → (c && d) ≡ true
and_keeps {a = a} {b = b} f g h = let k = and_parts a b h in both (f k.0) (g k.1)

-- THE CANDIDATES FOR A BINDER

glyph_passes : (p : ℕ → Bool) → ((d : ℕ) → d < 10 → p (48 + d) ≡ true) → (d : ℕ) → d < 10 → p (digit_glyph false d) ≡ true
glyph_passes p f d low = ap (λ b. p (if b then 48 + d else 87 + d)) (lt-ltb d 10 low) ∙ f d low

digits_pass : (p : ℕ → Bool) → ((d : ℕ) → d < 10 → p (48 + d) ≡ true) → (k n : ℕ) (rest : List ℕ) → list_all p rest ≡ true → list_all p (digits_onto k 10 false n rest) ≡ true
digits_pass p f zero n rest h = h
digits_pass p f (suc k) n rest h =
    let more : list_all p (digit_glyph false (n % 10) ∷ rest) ≡ true = both (glyph_passes p f (n % 10) (omega arith)) h in
    cond_both (n / 10 == 0) _ _ (λ ds. list_all p ds ≡ true) (λ e. more) (λ e. digits_pass p f k (n / 10) (digit_glyph false (n % 10) ∷ rest) more)

digit_is_name_byte : (d : ℕ) → d < 10 → is_name_byte (48 + d) ≡ true
digit_is_name_byte d low = grind (arith, nat_tests)

number_of_name : (n : ℕ) → list_all is_name_byte (decimal n) ≡ true
unfolding digits
number_of_name n = digits_pass is_name_byte digit_is_name_byte 64 n [] refl

name_goes_on : (w v : List ℕ) → is_lower_name w ≡ true → list_all is_name_byte v ≡ true → is_lower_name (w ++ v) ≡ true
name_goes_on [] v h k = absurd (true≢false (sym h))
name_goes_on (b ∷ bs) v h k = let p = and_parts _ _ h in both p.0 (list_all-append is_name_byte bs v ∙ both p.1 k)

-- a word that passes a test is no word of a form, if those do not pass it
none_among : (p : Word → Bool) (w : Word) → p w ≡ true → (ks : List Keyword) → list_all (λ k. not (p (keyword_text k))) ks ≡ true → is_none (find (λ k. bytes_eq w (keyword_text k)) ks) ≡ true
none_among p w h [] a = refl
none_among p w h (k ∷ ks) a =
    let g = and_parts _ _ a in
    cond_both (bytes_eq w (keyword_text k)) _ _ (λ o. is_none o ≡ true)
    (λ e. absurd (true≢false (sym h ∙ ap p ((bytes_eq-Decides w (keyword_text k)).0 e) ∙ not-true (p (keyword_text k)) g.0))) (λ e. none_among p w h ks g.1)

-- none has the byte `_`
lined_is_no_keyword : (w v : Word) → is_none (keyword_of (w ++ 95 ∷ v)) ≡ true
unfolding keyword_of
lined_is_no_keyword w v =
    none_among (list_any (λ b. b == 95)) (w ++ 95 ∷ v) (list_any-append (λ b. b == 95) w (95 ∷ v) ∙ or_right (list_any (λ b. b == 95) w) true refl) keywords refl

candidate_lower : (w : Word) (i : ℕ) → IsLower w → IsLower (candidate w i)
candidate_lower w zero h = h
candidate_lower w (suc i) h = both (name_goes_on w (95 ∷ decimal (suc i)) (and_parts _ _ h).0 (number_of_name (suc i))) (lined_is_no_keyword w (decimal (suc i)))

other_lower : IsLower (codes "x")
unfolding keyword_of
other_lower = refl

chosen_lower : {taken : WordSet} {w v : Word} → IsChosen taken w v → IsLower w → IsLower v
chosen_lower {w = w} c h = subst IsLower (sym c.is) (candidate_lower w c.number h)

-- the first candidate for a word, if that is a lower word, and for `x`, if it is not
pub chosen_for : {taken : WordSet} (w : Word) {u v : Word} → u ≡ (if is_lower_word w then w else codes "x") → IsChosen taken u v → IsWordFor taken w v
chosen_for {taken = taken} w {u = u} {v = v} is c =
    by_test (is_lower_word w)
    (λ h. let same : u ≡ w = is ∙ ap (λ (b : Bool). if b then w else codes "x") h in
    record { free = c.free; lower = chosen_lower c (ap is_lower_word same ∙ h); chosen = λ low. subst (λ (x : Word). IsChosen taken x v) same c })
    (λ h. record {
      free = c.free;
      lower = chosen_lower c (ap is_lower_word (is ∙ ap (λ (b : Bool). if b then w else codes "x") h) ∙ other_lower);
      chosen = λ low. absurd (true≢false (sym low ∙ h));
    })

-- WORDS IN SCOPE

pub none_lower : AreLower no_locals
none_lower = record { types = refl; terms = refl; coercions = refl }

pub type_lower : {s : Locals} {v : Word} → AreLower s → IsLower v → AreLower (with_type v s)
type_lower l h = record { types = both h l.types; terms = l.terms; coercions = l.coercions }

pub coercion_lower : {s : Locals} {v : Word} → AreLower s → IsLower v → AreLower (with_coercion v s)
coercion_lower l h = record { types = l.types; terms = l.terms; coercions = both h l.coercions }

pub term_lower : {s : Locals} (x : TermWord) → AreLower s → IsLower (term_word x) → AreLower (with_term x s)
term_lower x l h = record { types = l.types; terms = both h l.terms; coercions = l.coercions }

pub values_lower : {s : Locals} (vs : List Word) → AreLower s → list_all is_lower_word vs ≡ true → AreLower (enter_values vs s)
values_lower [] l h = l
values_lower (v ∷ vs) l h = let k = and_parts _ _ h in values_lower vs (term_lower (Value v) l k.0) k.1

pub joins_lower : {s : Locals} (vs : List Word) → AreLower s → list_all is_lower_word vs ≡ true → AreLower (enter_joins vs s)
joins_lower [] l h = l
joins_lower (v ∷ vs) l h = let k = and_parts _ _ h in joins_lower vs (term_lower (Join v) l k.0) k.1

pub word_at : (ws : List Word) (i : ℕ) (v : Word) → list_all is_lower_word ws ≡ true → slice_get ws i ≡ Some v → IsLower v
word_at [] i v h is = absurd (cc)
word_at (w ∷ ws) zero v h is = let e : w ≡ v = cc in subst IsLower e (and_parts _ _ h).0
word_at (w ∷ ws) (suc i) v h is = word_at ws i v (and_parts _ _ h).1 is

pub value_at : (xs : List TermWord) (i : ℕ) (v : Word) → list_all (λ x. is_lower_word (term_word x)) xs ≡ true → value_word xs i ≡ Some v → IsLower v
value_at [] i v h is = absurd (cc)
value_at (Value w ∷ xs) zero v h is = let e : w ≡ v = cc in subst IsLower e (and_parts _ _ h).0
value_at (Value w ∷ xs) (suc i) v h is = value_at xs i v (and_parts _ _ h).1 is
value_at (Join w ∷ xs) i v h is = value_at xs i v (and_parts _ _ h).1 is

pub join_at : (xs : List TermWord) (i : ℕ) (v : Word) → list_all (λ x. is_lower_word (term_word x)) xs ≡ true → join_word xs i ≡ Some v → IsLower v
join_at [] i v h is = absurd (cc)
join_at (Join w ∷ xs) zero v h is = let e : w ≡ v = cc in subst IsLower e (and_parts _ _ h).0
join_at (Join w ∷ xs) (suc i) v h is = join_at xs i v (and_parts _ _ h).1 is
join_at (Value w ∷ xs) i v h is = join_at xs i v (and_parts _ _ h).1 is

-- WORDS THAT ARE WRITTEN

pub written_some : {o : Option Word} {w v : Word} → o ≡ Some w → v ≡ w → IsWritten o v
written_some {w = w} is same = record { word = λ u at. let e : w ≡ u = cc in same ∙ e; other = λ none. absurd (cc) }

pub written_none : {o : Option Word} {v : Word} → o ≡ None → v ≡ codes "unbound" → IsWritten o v
unfolding keyword_of
written_none is same = record { word = λ w at. absurd (cc); other = λ none. subst IsLower (sym same) refl }

-- a word that is written is lower, where that of the binder is
pub written_lower : (o : Option Word) (v : Word) → IsWritten o v → ((w : Word) → o ≡ Some w → IsLower w) → IsLower v
written_lower None v is low = is.other refl
written_lower (Some w) v is low = subst IsLower (sym (is.word w refl)) (low w refl)

pub ruleset word_rules = (written_some, written_none)

-- NAMES THAT ARE WRITTEN

outside_formed : (own : Word) (m : Option Word) → is_module_formed m ≡ true → is_module_formed (outside own m) ≡ true
outside_formed own None h = refl
outside_formed own (Some m) h = cond_both (bytes_eq m own) _ _ (λ o. is_module_formed o ≡ true) (λ e. refl) (λ e. h)

pub upper_written : (own : Word) (x : Name) {y : Name} → y ≡ short own x → is_upper_formed x ≡ true → is_upper_formed y ≡ true
upper_written own x is h = let k = and_parts _ _ h in subst (λ (n : Name). is_upper_formed n ≡ true) (sym is) (both (outside_formed own x.module k.0) k.1)

pub lower_written : (own : Word) (x : Name) {y : Name} → y ≡ short own x → is_lower_formed x ≡ true → is_lower_formed y ≡ true
lower_written own x is h = let k = and_parts _ _ h in subst (λ (n : Name). is_lower_formed n ≡ true) (sym is) (both (outside_formed own x.module k.0) k.1)
