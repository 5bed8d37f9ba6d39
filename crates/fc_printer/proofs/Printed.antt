-- The text of pieces is read as their tokens where each leaf is a token that can be printed.
use Rattle.std.proofs.Common.{◌≡◌, ℕ, ◌<◌, ◌≤◌, ◌^◌, Bool, true, false, List, [], ◌∷◌, ◌++◌, length, refl, sym, ◌∙◌, ap, subst, arith, append_assoc, ltb-true, le-leb, if◌then◌else◌}
use Rattle.std.specs.Prelude.{Ok, ⊤, ◌&&◌, ◌==◌, nat_lt, nat_le}
use Rattle.std.specs.Fmt.{decimal}
use Rattle.std.specs.List.{list_all}
use Rattle.std.proofs.lemmas.Bool.{and_parts, and_from, true≢false}
use Rattle.std.proofs.lemmas.Bool.Decides.{nat_tests}
use Rattle.std.proofs.lemmas.Fmt.{decimal_nonempty, digits_decimal, digits_value-decimal, length-decimal-le}
use Rattle.fc_syntax.specs.declared.token.TokenKind.TheVariants as kind
use Rattle.fc_syntax.specs.Tokens.{ends_with_hash, is_digit, is_digits, is_literal, is_module_name, is_number, is_plain, word_kind, without_hash, without_minus}
use Rattle.fc_syntax.proofs.Lexing.{StartsApart}
use Rattle.fc_lex.proofs.Literals.{own}
use Rattle.fc_lex.proofs.Printed.{decimal_plain, digits_from}
use Rattle.fc_model.specs.Words.{Tok, Open, Close, Key, Lower, Upper, LowerOf, UpperOf, Star, Hash, Arrow, Operator, Literal, Number, Other}
use Rattle.fc_model.specs.Pieces.{Piece, Leaf, Group, Pieces, NoPieces, MorePieces, tok_text, piece_text, pieces_text, spaced_text, piece_toks, pieces_toks}
use Rattle.fc_model.specs.Formed.{is_literal_formed, is_lower_word, is_upper_word}
use Rattle.fc_printer.proofs.Lexed.{Reads, reads_close, reads_literal, reads_open, reads_space, reads_token, reads_word}
use Rattle.fc_printer.proofs.FormWords.{arrow_word, hash_word, is_sign, key_word, operator_word, star_word}
use Rattle.fc_printer.proofs.Names.{lower_in_word, lower_word, upper_in_word, upper_word}

-- numbers
no_hash_at : (b : ℕ) → is_digit b ≡ true → (b == 35) ≡ false
no_hash_at b h = grind (arith, nat_tests)

no_hash : (w : List ℕ) → list_all is_digit w ≡ true → ends_with_hash w ≡ false
no_hash [] h = refl
no_hash (b ∷ []) h = no_hash_at b (and_parts (is_digit b) true h).0
no_hash (b ∷ c ∷ bs) h = no_hash (c ∷ bs) (and_parts (is_digit b) (list_all is_digit (c ∷ bs)) h).1

second : {X : Type 0} (l n : Bool) (a b c : X) → l ≡ false → n ≡ true → (if l then a else if n then b else c) ≡ b
second true n a b c e h = absurd (true≢false e)
second false true a b c e h = refl
second false false a b c e h = absurd (true≢false (sym h))

number_kind : (at n : ℕ) → n < 10 ^ 9 → word_kind at (decimal n) ≡ Ok (kind.Number n)
number_kind at n h =
    let w = decimal n in
    let small : n < 2 ^ 64 = omega arith in
    let digits = digits_decimal own n small in
    let short : length w ≤ 9 = length-decimal-le 9 n (omega arith) h small in
    second (is_literal w) (is_number w) _ _ _ (ap (λ x. x && is_digits (without_minus (without_hash w))) (no_hash w digits))
    (and_from (is_digits w) (nat_le (length w) 9) (digits_from w digits (decimal_nonempty n small)) (le-leb (length w) 9 short))
    ∙ ap (λ k. Ok (kind.Number k)) (digits_value-decimal own n small)

reads_numeral : (n : ℕ) (w text : List ℕ) (ts : List Tok) → list_all is_plain w ≡ true → ((at : ℕ) → word_kind at w ≡ Ok (kind.Number n)) → 0 < length w
    → StartsApart text → Reads text ts → Reads (w ++ text) (Number n ∷ ts)
reads_numeral n [] text ts plain is_kind some apart r = absurd (omega arith)
reads_numeral n (b ∷ bs) text ts plain is_kind some apart r = reads_token b bs text ts (kind.Number n) plain is_kind apart r

reads_number : (n : ℕ) (text : List ℕ) (ts : List Tok) → nat_lt n (10 ^ 9) ≡ true → StartsApart text → Reads text ts → Reads (decimal n ++ text) (Number n ∷ ts)
reads_number n text ts h apart r =
    let below : n < 10 ^ 9 = ltb-true n (10 ^ 9) h in
    let small : n < 2 ^ 64 = omega arith in
    reads_numeral n (decimal n) text ts (decimal_plain n small) (λ at. number_kind at n below) (decimal_nonempty n small) apart r

-- a token that can be printed
abbrev pub is_tok_formed : Tok → Bool
is_tok_formed Open = false
is_tok_formed Close = false
is_tok_formed (Key k) = true
is_tok_formed (Lower w) = is_lower_word w
is_tok_formed (Upper w) = is_upper_word w
is_tok_formed (LowerOf m w) = is_module_name m && is_lower_word w
is_tok_formed (UpperOf m w) = is_module_name m && is_upper_word w
is_tok_formed Star = true
is_tok_formed Hash = true
is_tok_formed Arrow = true
is_tok_formed (Operator o) = is_sign o
is_tok_formed (Literal n) = is_literal_formed n
is_tok_formed (Number n) = nat_lt n (10 ^ 9)
is_tok_formed Other = false

reads_tok : (t : Tok) (text : List ℕ) (ts : List Tok) → is_tok_formed t ≡ true → StartsApart text → Reads text ts → Reads (tok_text t ++ text) (t ∷ ts)
reads_tok Open text ts h apart r = absurd (true≢false (sym h))
reads_tok Close text ts h apart r = absurd (true≢false (sym h))
reads_tok (Key k) text ts h apart r = reads_word _ text (Key k) ts (key_word k) apart r
reads_tok (Lower w) text ts h apart r = reads_word w text (Lower w) ts (lower_word w h) apart r
reads_tok (Upper w) text ts h apart r = reads_word w text (Upper w) ts (upper_word w h) apart r
reads_tok (LowerOf m w) text ts h apart r = let p = and_parts (is_module_name m) (is_lower_word w) h in reads_word _ text (LowerOf m w) ts (lower_in_word m w p.0 p.1) apart r
reads_tok (UpperOf m w) text ts h apart r = let p = and_parts (is_module_name m) (is_upper_word w) h in reads_word _ text (UpperOf m w) ts (upper_in_word m w p.0 p.1) apart r
reads_tok Star text ts h apart r = reads_word _ text Star ts star_word apart r
reads_tok Hash text ts h apart r = reads_word _ text Hash ts hash_word apart r
reads_tok Arrow text ts h apart r = reads_word _ text Arrow ts arrow_word apart r
reads_tok (Operator o) text ts h apart r = reads_word _ text (Operator o) ts (operator_word o h) apart r
reads_tok (Literal n) text ts h apart r = reads_literal n text ts h apart r
reads_tok (Number n) text ts h apart r = reads_number n text ts h apart r
reads_tok Other text ts h apart r = absurd (true≢false (sym h))

-- each leaf can be printed
abbrev mutual
  pub IsPrintable : Piece → Type 0
  IsPrintable (Leaf t) = is_tok_formed t ≡ true
  IsPrintable (Group ps) = ArePrintable ps

  pub ArePrintable : Pieces → Type 0
  ArePrintable NoPieces = ⊤
  ArePrintable (MorePieces p ps) = IsPrintable p × ArePrintable ps

spaced_apart : (ps : Pieces) (text : List ℕ) → StartsApart (spaced_text ps ++ (41 ∷ text))
spaced_apart NoPieces text = refl
spaced_apart (MorePieces p ps) text = refl

mutual
  pub reads_piece : (p : Piece) (text : List ℕ) (ts : List Tok) → IsPrintable p → StartsApart text → Reads text ts → Reads (piece_text p ++ text) (piece_toks p ts)
  reads_piece (Leaf t) text ts h apart r = reads_tok t text ts h apart r
  reads_piece (Group ps) text ts h apart r =
      subst (λ x. Reads (40 ∷ x) (Open ∷ pieces_toks ps (Close ∷ ts))) (sym (append_assoc (pieces_text ps) (41 ∷ []) text))
      (reads_open (pieces_text ps ++ (41 ∷ text)) (pieces_toks ps (Close ∷ ts)) (reads_pieces ps text ts h r))

  -- in brackets
  reads_pieces : (ps : Pieces) (text : List ℕ) (ts : List Tok) → ArePrintable ps → Reads text ts → Reads (pieces_text ps ++ (41 ∷ text)) (pieces_toks ps (Close ∷ ts))
  reads_pieces NoPieces text ts h r = reads_close text ts r
  reads_pieces (MorePieces p ps) text ts h r =
      subst (λ x. Reads x (piece_toks p (pieces_toks ps (Close ∷ ts)))) (sym (append_assoc (piece_text p) (spaced_text ps) (41 ∷ text)))
      (reads_piece p (spaced_text ps ++ (41 ∷ text)) (pieces_toks ps (Close ∷ ts)) h.0 (spaced_apart ps text) (reads_spaced ps text ts h.1 r))

  reads_spaced : (ps : Pieces) (text : List ℕ) (ts : List Tok) → ArePrintable ps → Reads text ts → Reads (spaced_text ps ++ (41 ∷ text)) (pieces_toks ps (Close ∷ ts))
  reads_spaced NoPieces text ts h r = reads_close text ts r
  reads_spaced (MorePieces p ps) text ts h r =
      subst (λ x. Reads (32 ∷ x) (piece_toks p (pieces_toks ps (Close ∷ ts)))) (sym (append_assoc (piece_text p) (spaced_text ps) (41 ∷ text)))
      (reads_space (piece_text p ++ (spaced_text ps ++ (41 ∷ text))) _ (reads_piece p (spaced_text ps ++ (41 ∷ text)) (pieces_toks ps (Close ∷ ts)) h.0 (spaced_apart ps text) (reads_spaced ps text ts h.1 r)))
