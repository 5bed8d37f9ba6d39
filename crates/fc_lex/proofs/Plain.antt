-- Names without a dot, which are read in one walk.
use Rattle.std.proofs.Common.{◌≡◌, ℕ, ◌+◌, ◌-◌, ◌<◌, Bool, true, false, List, [], ◌∷◌, length, take, drop, get_or, refl, sym, ◌∙◌, ap, arith, Some, cond, suc, zero-add}
use Rattle.std.specs.Prelude.{slice_range}
use Rattle.std.specs.List.{list_all, prefix_len}
use Rattle.std.proofs.lemmas.Bool.{and_from}
use Rattle.std.proofs.lemmas.List.{drop_more, drop-drop}
use Rattle.std.proofs.lemmas.List.Sums.{prefix_len-drop_yes}
use Rattle.fc_syntax.specs.declared.token.TokenKind.TheVariants as kind
use Rattle.fc_syntax.specs.Tokens.{Plain, byte_class, is_plain, is_name_byte, starts_names, word_kind, Between, lexed}
use Rattle.fc_syntax.proofs.Lexing.{class_plain}
use Rattle.fc_syntax.proofs.NameWords.{name_byte_is_plain, name_from_parts, name_kind}
use Rattle.fc_lex.specs.Pieces.{then_piece}
use Rattle.fc_lex.proofs.Steps.{one_more, word_read}

-- a word goes on where its bytes of names end
run_step : (t : Bool) (b : ℕ) (bs : List ℕ) (n : ℕ) → is_name_byte b ≡ t → prefix_len is_plain bs ≡ n + prefix_len is_plain (drop n bs)
    → prefix_len is_plain (b ∷ bs) ≡ cond t (1 + n) 0 + prefix_len is_plain (drop (cond t (1 + n) 0) (b ∷ bs))
run_step true b bs n e h =
    let d : drop n bs ≡ drop (1 + n) (b ∷ bs) = sym (ap (λ m. drop m (b ∷ bs)) (one_more n)) in
    let s : prefix_len is_plain (b ∷ bs) ≡ 1 + prefix_len is_plain bs = ap (λ c. cond c (1 + prefix_len is_plain bs) 0) (name_byte_is_plain b e) in
    omega (arith, s, h, ap (prefix_len is_plain) d)
run_step false b bs n e h = sym (zero-add (prefix_len is_plain (b ∷ bs)))

names_in_word : (xs : List ℕ) → prefix_len is_plain xs ≡ prefix_len is_name_byte xs + prefix_len is_plain (drop (prefix_len is_name_byte xs) xs)
names_in_word [] = refl
names_in_word (b ∷ bs) = run_step (is_name_byte b) b bs (prefix_len is_name_byte bs) refl (names_in_word bs)

pub word_end_from : (bytes : List ℕ) (at names end : ℕ) → at < length bytes → is_plain (get_or bytes at 0) ≡ true → names ≡ at + 1 + prefix_len is_name_byte (drop (at + 1) bytes)
    → end ≡ names + prefix_len is_plain (drop names bytes) → end ≡ at + prefix_len is_plain (drop at bytes)
word_end_from bytes at names end l p n e =
    let xs = drop (at + 1) bytes in
    let k = prefix_len is_name_byte xs in
    let first : prefix_len is_plain (drop at bytes) ≡ 1 + prefix_len is_plain xs = prefix_len-drop_yes is_plain bytes at 0 l p in
    let inner : prefix_len is_plain xs ≡ k + prefix_len is_plain (drop k xs) = names_in_word xs in
    let rest : prefix_len is_plain (drop k xs) ≡ prefix_len is_plain (drop names bytes) = ap (prefix_len is_plain) (drop-drop k (at + 1) bytes ∙ ap (λ m. drop m bytes) (sym n)) in
    omega (arith, first, inner, rest)

-- the bytes of a run pass
all_step : {X : Type 0} (p : X → Bool) (t : Bool) (x : X) (xs : List X) (n : ℕ) → p x ≡ t → list_all p (take n xs) ≡ true → list_all p (take (cond t (1 + n) 0) (x ∷ xs)) ≡ true
all_step p true x xs n e h = ap (λ m. list_all p (take m (x ∷ xs))) (one_more n) ∙ and_from (p x) (list_all p (take n xs)) e h
all_step p false x xs n e h = refl

all_of_run : {X : Type 0} (p : X → Bool) (xs : List X) → list_all p (take (prefix_len p xs) xs) ≡ true
all_of_run p [] = refl
all_of_run p (x ∷ xs) = all_step p (p x) x xs (prefix_len p xs) refl (all_of_run p xs)

-- the text of a run of such bytes behind the first byte
run_text : (bytes : List ℕ) (at n : ℕ) → at < length bytes → slice_range bytes at (at + 1 + n) ≡ get_or bytes at 0 ∷ take n (drop (at + 1) bytes)
run_text bytes at n l =
    let m : (at + 1 + n) - at ≡ suc n = omega arith in
    ap (λ k. take k (drop at bytes)) m ∙ ap (take (suc n)) (drop_more bytes at 0 l)

-- a word that is such a name
pub name_read : (bytes : List ℕ) (at names end : ℕ) → at < length bytes → byte_class (get_or bytes at 0) ≡ Plain → names ≡ at + 1 + prefix_len is_name_byte (drop (at + 1) bytes)
    → end ≡ names + prefix_len is_plain (drop names bytes) → end ≡ names → starts_names (get_or bytes at 0) ≡ true
    → lexed Between at (drop at bytes) ≡ then_piece bytes at end (Some kind.Word) (lexed Between end (drop end bytes))
name_read bytes at names end l c n e same s =
    let k = prefix_len is_name_byte (drop (at + 1) bytes) in
    let text : slice_range bytes at end ≡ get_or bytes at 0 ∷ take k (drop (at + 1) bytes) = ap (slice_range bytes at) (same ∙ n) ∙ run_text bytes at k l in
    word_read bytes at end kind.Word l c (word_end_from bytes at names end l (class_plain (get_or bytes at 0) c) n e)
    (ap (word_kind at) text ∙ name_kind at (get_or bytes at 0) (take k (drop (at + 1) bytes)) (name_from_parts (get_or bytes at 0) (take k (drop (at + 1) bytes)) s (all_of_run is_name_byte (drop (at + 1) bytes))))
