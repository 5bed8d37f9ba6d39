-- The tokens of lines of plain words.
use Rattle.std.proofs.Common.{◌≡◌, ℕ, ◌+◌, Bool, true, false, List, [], ◌∷◌, ◌++◌, refl, sym, ap, ◌∙◌, append_assoc, if◌then◌else◌}
use Rattle.std.specs.Prelude.{◌==◌}
use Rattle.std.specs.List.{list_all}
use Rattle.std.proofs.lemmas.Bool.{and_parts}
use Rattle.std.proofs.lemmas.Bool.Decides.{nat_tests}
use Rattle.std.proofs.lemmas.List.{append-nil}
use Rattle.std.proofs.Common.{arith}
use Rattle.fc_syntax.specs.Tokens.{is_plain}
use Rattle.fc_log.specs.Grammar.{LogToken, AWord, ALineEnd}
use Rattle.fc_log.specs.Reading.{tokens_in}
use Rattle.fc_log.specs.Texts.{Cut, cut_on, line_text, log_tokens_of}

-- the tokens of bytes, without their bytes
abbrev pub split_on : Bool → List ℕ → List ℕ → List LogToken
split_on true w [] = []
split_on false w [] = AWord w ∷ []
split_on fresh w (b ∷ bs) =
    if b == 32 then AWord w ∷ split_on false [] bs else
    if b == 10 then AWord w ∷ ALineEnd ∷ split_on true [] bs else
    split_on false (w ++ b ∷ []) bs

same_step : (p q : Bool) (x : Cut) (y : Cut) (cs ds es : List Cut) (t : LogToken) (ts us vs : List LogToken) → x.token ≡ t → y.token ≡ ALineEnd → tokens_in cs ≡ ts → tokens_in ds ≡ us → tokens_in es ≡ vs
    → tokens_in (if p then x ∷ cs else if q then x ∷ y ∷ ds else es) ≡ (if p then t ∷ ts else if q then t ∷ ALineEnd ∷ us else vs)
same_step true q x y cs ds es t ts us vs e f g h i = rw (e, g) refl
same_step false true x y cs ds es t ts us vs e f g h i = rw (e, f, h) refl
same_step false false x y cs ds es t ts us vs e f g h i = i

same_tokens : (fresh : Bool) (begun at : ℕ) (w bs : List ℕ) → tokens_in (cut_on fresh begun at w bs) ≡ split_on fresh w bs
same_tokens true begun at w [] = refl
same_tokens false begun at w [] = refl
same_tokens true begun at w (b ∷ bs) =
    same_step (b == 32) (b == 10) _ _ _ _ _ (AWord w) _ _ _ refl refl (same_tokens false (at + 1) (at + 1) [] bs) (same_tokens true (at + 1) (at + 1) [] bs) (same_tokens false begun (at + 1) (w ++ b ∷ []) bs)
same_tokens false begun at w (b ∷ bs) =
    same_step (b == 32) (b == 10) _ _ _ _ _ (AWord w) _ _ _ refl refl (same_tokens false (at + 1) (at + 1) [] bs) (same_tokens true (at + 1) (at + 1) [] bs) (same_tokens false begun (at + 1) (w ++ b ∷ []) bs)

pub tokens_of_text : (bytes : List ℕ) → log_tokens_of bytes ≡ split_on true [] bytes
tokens_of_text bytes = same_tokens true 0 0 [] bytes

plain_no_space : (b : ℕ) → is_plain b ≡ true → (b == 32) ≡ false
plain_no_space b h = grind (arith, nat_tests)

plain_no_line_feed : (b : ℕ) → is_plain b ≡ true → (b == 10) ≡ false
plain_no_line_feed b h = grind (arith, nat_tests)

-- a word with a plain byte goes on
goes_on : (fresh : Bool) (w : List ℕ) (b : ℕ) (bs : List ℕ) → is_plain b ≡ true → split_on fresh w (b ∷ bs) ≡ split_on false (w ++ b ∷ []) bs
goes_on true w b bs h = rw (plain_no_space b h, plain_no_line_feed b h) refl
goes_on false w b bs h = rw (plain_no_space b h, plain_no_line_feed b h) refl

-- up to a space
word_and_space : (fresh : Bool) (w v bs : List ℕ) → list_all is_plain v ≡ true → split_on fresh w (v ++ 32 ∷ bs) ≡ AWord (w ++ v) ∷ split_on false [] bs
word_and_space true w [] bs h = ap (λ u. AWord u ∷ split_on false [] bs) (sym (append-nil w))
word_and_space false w [] bs h = ap (λ u. AWord u ∷ split_on false [] bs) (sym (append-nil w))
word_and_space fresh w (b ∷ v) bs h =
    let p = and_parts (is_plain b) (list_all is_plain v) h in
    goes_on fresh w b (v ++ 32 ∷ bs) p.0 ∙ (word_and_space false (w ++ b ∷ []) v bs p.1 ∙ ap (λ u. AWord u ∷ split_on false [] bs) (append_assoc w (b ∷ []) v))

-- up to the end of the line
word_and_end : (fresh : Bool) (w v bs : List ℕ) → list_all is_plain v ≡ true → split_on fresh w (v ++ 10 ∷ bs) ≡ AWord (w ++ v) ∷ ALineEnd ∷ split_on true [] bs
word_and_end true w [] bs h = ap (λ u. AWord u ∷ ALineEnd ∷ split_on true [] bs) (sym (append-nil w))
word_and_end false w [] bs h = ap (λ u. AWord u ∷ ALineEnd ∷ split_on true [] bs) (sym (append-nil w))
word_and_end fresh w (b ∷ v) bs h =
    let p = and_parts (is_plain b) (list_all is_plain v) h in
    goes_on fresh w b (v ++ 10 ∷ bs) p.0 ∙ (word_and_end false (w ++ b ∷ []) v bs p.1 ∙ ap (λ u. AWord u ∷ ALineEnd ∷ split_on true [] bs) (append_assoc w (b ∷ []) v))

-- the tokens of a line of words, before others
abbrev pub line_tokens : List (List ℕ) → List LogToken → List LogToken
line_tokens [] ts = ALineEnd ∷ ts
line_tokens (w ∷ ws) ts = AWord w ∷ line_tokens ws ts

pub line_split : (fresh : Bool) (w : List ℕ) (ws : List (List ℕ)) (bs : List ℕ) → list_all (list_all is_plain) (w ∷ ws) ≡ true → split_on fresh [] (line_text (w ∷ ws) ++ bs) ≡ line_tokens (w ∷ ws) (split_on true [] bs)
line_split fresh w [] bs h = ap (split_on fresh []) (append_assoc w (10 ∷ []) bs) ∙ word_and_end fresh [] w bs (and_parts (list_all is_plain w) true h).0
line_split fresh w (v ∷ ws) bs h =
    let p = and_parts (list_all is_plain w) (list_all (list_all is_plain) (v ∷ ws)) h in
    ap (split_on fresh []) (append_assoc w (32 ∷ line_text (v ∷ ws)) bs)
    ∙ (word_and_space fresh [] w (line_text (v ∷ ws) ++ bs) p.0 ∙ ap (λ ts. AWord w ∷ ts) (line_split false v ws bs p.1))
